-- What the words of a line say that were taken one by one.
use Rattle.std.proofs.Common.{◌≡◌, ℕ, ◌<◌, ◌≤◌, ◌^◌, Bool, true, false, not, ◌&&◌, List, [], ◌∷◌, refl, sym, subst, ap, ◌∙◌, arith, cond}
use Rattle.std.specs.Prelude.{IsTrue, IfSome, IfNone, codes, decimal, nat_le, Option, Some, None, Result, Ok, Err, IsOk, ◌↔◌}
use Rattle.std.specs.List.{AllByRecursion, list_all}
use Rattle.std.specs.Str.{bytes_eq}
use Rattle.std.proofs.lemmas.Bool.Decides.{nat_tests}
use Rattle.std.proofs.lemmas.Fmt.{decimal_injective}
use Rattle.uuid.specs.Text.{parsed}
use Rattle.cops_types.specs.declared.configs.Config.{Config}
use Rattle.cops_types.specs.declared.configs.Tenant.{Tenant}
use Rattle.cops_types.specs.declared.quotas.Quota.{Quota}
use Rattle.cops_types.specs.Head.{Front, Within, JoinsOrStays}
use Rattle.cops_types.specs.HeadReader.{front_with}
use Rattle.cops_types.specs.HeadLines.{begin_line, IsClusterLine, are_sizes, cluster_in, is_between, most_shards, greatest_quota, is_quota, tenant_in, IsTenantLineTo, is_tenant_to, tenant_in_to}
use Rattle.cops_types.specs.HeadWords.{AreTenantWords, cluster_words, quota_words, tenant_words}
use Rattle.cops_types.specs.Key.{is_name}
use Rattle.cops_types.specs.OldHead.{old_front_with, old_tenant_in}
use Rattle.cops_types.specs.declared.faults.Fault.TheVariants as Fault
use Rattle.cops_types.specs.Words.{is_inside, is_u64, is_word, no_words, number_of, parts_at, space, spaced}
use Rattle.cops_types.proofs.HeadLemmas.{cluster_in-finds, cluster_in-is, cluster_line-parts, tenant_fits, tenant_in_to-finds, tenant_in_to-is, tenant_line-parts, u64_below}
use Rattle.cops_types.proofs.WordLemmas.{Lacks, and, below, both, bytes_from_test, same_bytes, number_of-decimal, number_written, parts_back, parts_lack}

-- ---- a number that was taken

pub taken_some : (found : Option ℕ) (words : List (List ℕ)) (word : List ℕ) (rest : List (List ℕ)) → found ≡ number_of word → words ≡ word ∷ rest → IfSome found (λ n. words ≡ decimal n ∷ rest)
taken_some None words word rest e first = tt
taken_some (Some n) words word rest e first = first ∙ ap (λ w. w ∷ rest) (number_written word n (sym e)).0

pub taken_small : (found : Option ℕ) (word : List ℕ) → found ≡ number_of word → IfSome found (λ n. IsTrue (is_u64 n))
taken_small None word e = tt
taken_small (Some n) word e = (number_written word n (sym e)).1

pub taken_none : (found : Option ℕ) (words : List (List ℕ)) (word : List ℕ) (rest : List (List ℕ)) → found ≡ number_of word → words ≡ word ∷ rest →
    IfNone found ((n : ℕ) (others : List (List ℕ)) → IsTrue (is_u64 n) → words ≡ decimal n ∷ others → ⊥)
taken_none (Some n) words word rest e first = tt
taken_none None words word rest e first = λ n others small is.
    let same : word ≡ decimal n = cc in
    let clash : None ≡ Some n = e ∙ ap number_of same ∙ number_of-decimal n small in
    cc

-- ---- lines and their words

pub cluster_parts : (line : List ℕ) (config : Config) → IsClusterLine line config → parts_at space line ≡ cluster_words config
cluster_parts line config is = ap (parts_at space) is.spelled ∙ cluster_line-parts config is.within

pub tenant_parts : (last : ℕ) → last < 2 ^ 64 → (line : List ℕ) (tenant : Tenant) (is : IsTenantLineTo last line tenant) → parts_at space line ≡ tenant_words is.token tenant
tenant_parts last low line tenant is = ap (parts_at space) is.spelled ∙ tenant_line-parts is.token tenant is.one_word (tenant_fits last low tenant is.within)

pub spelled_by : (line : List ℕ) (words : List (List ℕ)) → parts_at space line ≡ words → line ≡ spaced words
spelled_by line words e = sym (parts_back space line) ∙ ap spaced e

-- ---- what is found

pub cluster_found : (line : List ℕ) (found : Option Config) → IfSome found (IsClusterLine line) → IfNone found ((config : Config) → IsClusterLine line config → ⊥) → found ≡ cluster_in line
cluster_found line (Some config) is none = sym (cluster_in-finds line config is)
cluster_found line None is none = by_found (cluster_in line) refl
  where
    by_found : (it : Option Config) → cluster_in line ≡ it → None ≡ it
    by_found None e = refl
    by_found (Some config) e = absurd (none config (cluster_in-is line config e))

pub tenant_found : (last : ℕ) → last < 2 ^ 64 → (line : List ℕ) (found : Option Tenant) → IfSome found (IsTenantLineTo last line) → IfNone found ((tenant : Tenant) → IsTenantLineTo last line tenant → ⊥) → found ≡ tenant_in_to last line
tenant_found last low line (Some tenant) is none = sym (tenant_in_to-finds last low line tenant is)
tenant_found last low line None is none = by_found (tenant_in_to last line) refl
  where
    by_found : (it : Option Tenant) → tenant_in_to last line ≡ it → None ≡ it
    by_found None e = refl
    by_found (Some tenant) e = absurd (none tenant (tenant_in_to-is last line tenant e))

-- ---- the token's word

all_inside : (word : List ℕ) → Lacks space word → IsTrue (list_all is_inside word)
all_inside [] h = refl
all_inside (byte ∷ word) h = rw h.0 (all_inside word h.1)

-- a part that parses as a token is one word
pub token_is_word : (word token : List ℕ) → Lacks space word → parsed word ≡ Some token → IsTrue (is_word word)
token_is_word [] token h e = absurd cc
token_is_word (byte ∷ word) token h e = all_inside (byte ∷ word) h

-- ---- numbers within their limits

pub same_number : (n m : ℕ) → IsTrue (is_u64 n) → IsTrue (is_u64 m) → decimal n ≡ decimal m → n ≡ m
same_number n m small fits e = decimal_injective n m (below n small) (below m fits) e

pub record QuotaFits (q : Quota) : Type 0 where
  pub versions : IsTrue (is_u64 q.versions)
  pub bytes : IsTrue (is_u64 q.bytes)
  pub outbox : IsTrue (is_u64 q.outbox)
  pub contexts : IsTrue (is_u64 q.contexts)
  pub deps : IsTrue (is_u64 q.deps)
  pub actors : IsTrue (is_u64 q.actors)
  pub audit : IsTrue (is_u64 q.audit)

pub quota_fits : (q : Quota) → IsTrue (is_quota q) → QuotaFits q
quota_fits q h =
    let v = nat_le q.versions greatest_quota in
    let w = nat_le q.bytes greatest_quota in
    let x = nat_le q.outbox greatest_quota in
    let y = nat_le q.contexts greatest_quota in
    let z = nat_le q.deps 1024 in
    let u = nat_le q.actors greatest_quota in
    let c = both (v && w && x && y && z && u) (nat_le q.audit greatest_quota) h in
    let d = both (v && w && x && y && z) u c.0 in
    let e = both (v && w && x && y) z d.0 in
    let f = both (v && w && x) y e.0 in
    let g = both (v && w) x f.0 in
    let k = both v w g.0 in
    let small : greatest_quota < 2 ^ 64 = omega arith in
    record {
      versions = u64_below q.versions greatest_quota small k.0;
      bytes = u64_below q.bytes greatest_quota small k.1;
      outbox = u64_below q.outbox greatest_quota small g.1;
      contexts = u64_below q.contexts greatest_quota small f.1;
      deps = u64_below q.deps 1024 (omega arith) e.1;
      actors = u64_below q.actors greatest_quota small d.1;
      audit = u64_below q.audit greatest_quota small c.1;
    }

pub not_both : (b : Bool) → b ≡ false → IsTrue b → ⊥
not_both true e h = absurd cc
not_both false e h = absurd cc

-- words that are empty
pub nothing_left : (words : List (List ℕ)) (b : Bool) → b ≡ no_words words → b ≡ true → words ≡ []
nothing_left [] b e h = refl
nothing_left (word ∷ words) b e h = absurd cc

pub something_left : (words : List (List ℕ)) (b : Bool) → b ≡ no_words words → b ≡ false → words ≡ [] → ⊥
something_left [] b e h none = absurd cc
something_left (word ∷ words) b e h none = absurd cc

-- a word that differs
pub other_word : (word text copy : List ℕ) (b : Bool) → b ≡ not (bytes_eq word copy) → copy ≡ text → b ≡ true → word ≡ text → ⊥
other_word word text copy b e are h same = by_test (bytes_eq word copy) refl
  where
    by_test : (t : Bool) → bytes_eq word copy ≡ t → ⊥
    by_test true k = absurd (let clash : true ≡ false = sym h ∙ e ∙ ap not k in cc)
    by_test false k = absurd (let clash : true ≡ false = sym (ap (λ w. bytes_eq w copy) (same ∙ sym are) ∙ same_bytes copy) ∙ k in cc)

pub same_word : (word text copy : List ℕ) (b : Bool) → b ≡ not (bytes_eq word copy) → copy ≡ text → b ≡ false → word ≡ text
same_word word text copy b e are h = by_test (bytes_eq word copy) refl
  where
    by_test : (t : Bool) → bytes_eq word copy ≡ t → word ≡ text
    by_test true k = bytes_from_test word copy k ∙ are
    by_test false k = absurd (let clash : false ≡ true = sym h ∙ e ∙ ap not k in cc)

-- the tests of sizes, without and with the limit of time
pub sizes_within : (config : Config) → IsTrue (are_sizes config) → IsTrue (is_between 1 8 config.data_centres && is_between 1 most_shards config.shards && nat_le config.restarts 15)
sizes_within config h =
    let x = both (is_between 1 8 config.data_centres && is_between 1 most_shards config.shards && is_u64 config.trans_time) (nat_le config.restarts 15) h in
    let y = both (is_between 1 8 config.data_centres && is_between 1 most_shards config.shards) (is_u64 config.trans_time) x.0 in
    and (is_between 1 8 config.data_centres && is_between 1 most_shards config.shards) (nat_le config.restarts 15) y.0 x.1

pub are_within : (data_centres shards trans_time restarts : ℕ) → IsTrue (is_between 1 8 data_centres && is_between 1 most_shards shards && nat_le restarts 15) → IsTrue (is_u64 trans_time) →
    IsTrue (is_between 1 8 data_centres && is_between 1 most_shards shards && is_u64 trans_time && nat_le restarts 15)
are_within data_centres shards trans_time restarts h small =
    let x = both (is_between 1 8 data_centres && is_between 1 most_shards shards) (nat_le restarts 15) h in
    and (is_between 1 8 data_centres && is_between 1 most_shards shards && is_u64 trans_time) (nat_le restarts 15) (and (is_between 1 8 data_centres && is_between 1 most_shards shards) (is_u64 trans_time) x.0 small) x.1

-- ---- the parts of a tenant

pub clock_within : (last : ℕ) (tenant : Tenant) → IsTrue (is_tenant_to last tenant) → tenant.first_clock ≤ last
clock_within last tenant h =
    let parts = both (is_name tenant.name && nat_le tenant.first_clock last) (is_quota tenant.quota) h in
    let clock : nat_le tenant.first_clock last ≡ true = (both (is_name tenant.name) (nat_le tenant.first_clock last) parts.0).1 in
    grind (arith, nat_tests)

pub quota_of_tenant : (last : ℕ) (tenant : Tenant) → IsTrue (is_tenant_to last tenant) → IsTrue (is_quota tenant.quota)
quota_of_tenant last tenant h = (both (is_name tenant.name && nat_le tenant.first_clock last) (is_quota tenant.quota) h).1

pub is_tenant-made : (last : ℕ) (name token : List ℕ) (first_clock : ℕ) (quota : Quota) → IsTrue (is_name name) → first_clock ≤ last → IsTrue (is_quota quota) →
    IsTrue (is_name name && nat_le first_clock last && is_quota quota)
is_tenant-made last name token first_clock quota named low is =
    let clock : nat_le first_clock last ≡ true = grind (arith, nat_tests) in
    and (is_name name && nat_le first_clock last) (is_quota quota) (and (is_name name) (nat_le first_clock last) named clock) is

-- what was made into a name is one
pub name_of_made : (text name : List ℕ) → cond (is_name text) (Ok text) (Err Fault.Syntax) ≡ Ok name → (text ≡ name) × IsTrue (is_name name)
name_of_made text name e = by_test (is_name text) refl e
  where
    by_test : (t : Bool) → is_name text ≡ t → cond t (Ok text) (Err Fault.Syntax) ≡ Ok name → (text ≡ name) × IsTrue (is_name name)
    by_test true is e = let same : text ≡ name = cc in (same, ap is_name (sym same) ∙ is)
    by_test false is e = absurd cc

-- what does not parse is no token
pub no_token : {E : Type 0} (found : Result (List ℕ) E) (error : E) (word token : List ℕ) → (IsOk found ↔ ((u : List ℕ) × (parsed word ≡ Some u))) → found ≡ Err error → parsed word ≡ Some token → ⊥
no_token found error word token ok is parses = let clash = subst IsOk is (ok.1 (token, parses)) in absurd cc

pub token_lacks : (line first name word : List ℕ) (others : List (List ℕ)) → parts_at space line ≡ first ∷ name ∷ word ∷ others → Lacks space word
token_lacks line first name word others e = (subst (AllByRecursion (Lacks space)) e (parts_lack space line)).1.1.0

-- ---- the words after the first of a tenant's line

pub tenant_spelled : (last : ℕ) (line : List ℕ) (words : List (List ℕ)) (tenant : Tenant) → parts_at space line ≡ codes "tenant" ∷ words → AreTenantWords last words tenant → IsTenantLineTo last line tenant
tenant_spelled last line words tenant parts are =
    let each : parts_at space line ≡ tenant_words are.token tenant = parts ∙ ap (λ ws. codes "tenant" ∷ ws) are.spelled in
    record {
      token = are.token;
      spelled = spelled_by line _ each;
      one_word = token_is_word are.token tenant.token (token_lacks line _ _ are.token _ each) are.parses;
      parses = are.parses;
      within = are.within;
    }

pub words_of_tenant : (last : ℕ) → last < 2 ^ 64 → (line first : List ℕ) (words : List (List ℕ)) (tenant : Tenant) → parts_at space line ≡ first ∷ words → IsTenantLineTo last line tenant → AreTenantWords last words tenant
words_of_tenant last low line first words tenant parts is =
    let each = tenant_parts last low line tenant is in
    let after : words ≡ tenant.name ∷ is.token ∷ decimal tenant.first_clock ∷ quota_words tenant.quota = cc (parts, each) in
    record { token = is.token; spelled = after; parses = is.parses; within = is.within }

pub some_so : {A : Type 0} {P Q : A → Type 0} (found : Option A) → ((it : A) → P it → Q it) → IfSome found P → IfSome found Q
some_so None so h = tt
some_so (Some it) so h = so it h

pub none_so : {A P Q : Type 0} (found : Option A) → (P → Q) → IfNone found P → IfNone found Q
none_so None so h = so h
none_so (Some it) so h = tt

-- ---- a tenant that joins

pub front_joined : (old : Option Front) (config new : Config) (line : List ℕ) → old ≡ Some (Within config) → bytes_eq line begin_line ≡ false → JoinsOrStays config (tenant_in line) new true → front_with old line ≡ Some (Within new)
front_joined old config new line at begins joins = ap (λ front. front_with front line) at ∙ rw begins joins.front

-- a line that differs
pub no_begin : (line copy : List ℕ) (b : Bool) → b ≡ not (bytes_eq line copy) → copy ≡ begin_line → b ≡ true → bytes_eq line begin_line ≡ false
no_begin line copy b e are h = by_test (bytes_eq line begin_line) refl
  where
    by_test : (t : Bool) → bytes_eq line begin_line ≡ t → bytes_eq line begin_line ≡ false
    by_test true k = absurd (other_word line begin_line copy b e are h (bytes_from_test line begin_line k))
    by_test false k = k

-- the same in a head of layout 1
pub old_front_joined : (old : Option Front) (config new : Config) (line : List ℕ) → old ≡ Some (Within config) → bytes_eq line begin_line ≡ false → JoinsOrStays config (old_tenant_in line) new true → old_front_with old line ≡ Some (Within new)
old_front_joined old config new line at begins joins = ap (λ front. old_front_with front line) at ∙ rw begins joins.front
