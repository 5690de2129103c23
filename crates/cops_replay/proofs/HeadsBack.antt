-- A head that was read is read again from the lines that are written of it, with each token in lower case with hyphens.
use Rattle.cops_replay.proofs.Names.{◌≡◌, ℕ, ◌+◌, ◌<◌, ◌≤◌, ◌^◌, Bool, true, false, cond, ◌&&◌, inl, inr, All, List, [], ◌∷◌, ◌++◌, length, map, drop, if◌then◌else◌, refl, sym, subst, ap, ◌∙◌, append_assoc, append-nil, arith, not, length-append, IsTrue, codes, decimal, ◌==◌, Option, Some, None, nat_lt, AllByRecursion, list_all, list_any, nat_tests, recursion_from_All, bytes_eq, Config, Tenant, Front, AtStart, Within, Begun, Whole, BadAt, head_of, reading_from, IsTenantLineTo, are_sizes, begin_line, cluster_line, is_tenant_to, tenant_line, is_distinct, most_tenants, last_clock, is_u64, newline, space, spaced, front_after-finds, tenant_fits, IsForeign, Lacks, both, decimal_lacks, lacks_from_test, name_lacks, same_value, and, Every-append, AreApart, has_text, both_fail, left_fails, right_fails, swapped, with_tenants, Today, AllPass, flat_map, Decides-eqb, AllPass-from_list_all, by_index, byte_of_digits, digit_place, digits_of, has_hyphens, has_urn_prefix, hex_digit, hyphen, hyphenated_text, is_hex_digit, is_hyphen_place, lower, nibble, parsed, parsed_braced, parsed_hyphenated, parsed_simple, parsed_urn, parses_hyphenated, by_index_at, by_index_length, nibble_small, Leads, onto_first, sizes_fit, token_is_word, Every-from, apart_more}
use Rattle.cops_types.specs.Lines.{lines_of}
use Rattle.cops_replay.proofs.AuditHeads.{follows_by, head_holds}
use Rattle.cops_replay.proofs.OldFronts.{FollowsTo}

-- ---- what parses as a token is sixteen bytes

pub record IsToken (bytes : List ℕ) : Type 0 where
  pub size : length bytes ≡ 16
  pub fit : All (λ byte. byte < 256) bytes

by_cond : (t : Bool) (bytes : List ℕ) (one other : Option (List ℕ)) → (one ≡ Some bytes → IsToken bytes) → (other ≡ Some bytes → IsToken bytes) → cond t one other ≡ Some bytes → IsToken bytes
by_cond true bytes one other is_one is_other e = is_one e
by_cond false bytes one other is_one is_other e = is_other e

no_token : (bytes : List ℕ) → None ≡ Some bytes → IsToken bytes
no_token bytes e = absurd (let clash : ⊥ = cc in clash)

byte_small : (hex : List ℕ) → length hex ≡ 32 → AllPass is_hex_digit hex → (j : ℕ) → j < 16 → byte_of_digits hex j < 256
byte_small hex size digits j within = grind (arith, nat_tests)

bytes_fit : (hex : List ℕ) → length hex ≡ 32 → AllPass is_hex_digit hex → IsToken (by_index 16 (byte_of_digits hex))
bytes_fit hex size digits = grind (arith, nat_tests, by_index_at, by_index_length, byte_small)

simple_token : (hex bytes : List ℕ) → parsed_simple hex ≡ Some bytes → IsToken bytes
simple_token hex bytes e = by_test ((length hex == 32) && list_all is_hex_digit hex) refl e
  where
    by_test : (t : Bool) → ((length hex == 32) && list_all is_hex_digit hex) ≡ t → cond t (Some (by_index 16 (byte_of_digits hex))) None ≡ Some bytes → IsToken bytes
    by_test false is e = no_token bytes e
    by_test true is e =
        let parts = both (length hex == 32) (list_all is_hex_digit hex) is in
        subst IsToken (same_value (by_index 16 (byte_of_digits hex)) bytes e) (bytes_fit hex ((Decides-eqb (length hex) 32).0 parts.0) (AllPass-from_list_all is_hex_digit hex parts.1))

hyphenated_token : (text bytes : List ℕ) → parsed_hyphenated text ≡ Some bytes → IsToken bytes
hyphenated_token text bytes e = by_cond ((length text == 36) && has_hyphens text) bytes (parsed_simple (digits_of text)) None (simple_token (digits_of text) bytes) (no_token bytes) e

braced_token : (text bytes : List ℕ) → parsed_braced text ≡ Some bytes → IsToken bytes
braced_token text bytes e = grind (arith, nat_tests, by_cond, hyphenated_token, no_token)

urn_token : (text bytes : List ℕ) → parsed_urn text ≡ Some bytes → IsToken bytes
urn_token text bytes e = by_cond ((length text == 45) && has_urn_prefix text) bytes (parsed_hyphenated (drop 9 text)) None (hyphenated_token (drop 9 text) bytes) (no_token bytes) e

-- in any form
pub parsed_token : (text bytes : List ℕ) → parsed text ≡ Some bytes → IsToken bytes
parsed_token text bytes e = grind (arith, nat_tests, braced_token, by_cond, hyphenated_token, no_token, simple_token, urn_token)

-- ---- a token's text has no space and no newline

abbrev token_byte : List ℕ → ℕ → ℕ
token_byte bytes k = if is_hyphen_place k then hyphen else hex_digit lower (nibble bytes (digit_place k))

digit_high : (d : ℕ) → d < 16 → 45 ≤ hex_digit lower d
digit_high d h = grind (arith, nat_tests)

either_high : (b : Bool) (x y : ℕ) → 45 ≤ x → 45 ≤ y → 45 ≤ cond b x y
either_high true x y p q = p
either_high false x y p q = q

byte_high : (bytes : List ℕ) (k : ℕ) → 45 ≤ token_byte bytes k
byte_high bytes k = either_high (is_hyphen_place k) hyphen (hex_digit lower (nibble bytes (digit_place k))) (omega arith) (digit_high (nibble bytes (digit_place k)) (nibble_small bytes (digit_place k)))

apart_from : (separator byte : ℕ) → separator < 45 → 45 ≤ byte → (byte == separator) ≡ false
apart_from separator byte low high = grind (arith, nat_tests)

token_text_lacks : (separator : ℕ) → separator < 45 → (bytes : List ℕ) → Lacks separator (hyphenated_text lower bytes)
token_text_lacks separator low bytes = grind (arith, nat_tests, apart_from, by_index_at, by_index_length, byte_high, recursion_from_All)

-- ---- the lines that are written

abbrev pub written_tenant : Tenant → List ℕ
written_tenant tenant = tenant_line (hyphenated_text lower tenant.token) tenant

abbrev pub written_head : Config → List (List ℕ)
written_head config = cluster_line config ∷ (map written_tenant config.tenants ++ begin_line ∷ [])

pub tenant_written : (last : ℕ) (tenant : Tenant) → IsToken tenant.token → IsTrue (is_tenant_to last tenant) → IsTenantLineTo last (written_tenant tenant) tenant
tenant_written last tenant token is =
    let text = hyphenated_text lower tenant.token in
    let parses : parsed text ≡ Some tenant.token = sym (parses_hyphenated lower tenant.token (inl refl) token.size token.fit) in
    record { token = text; spelled = refl; one_word = token_is_word text tenant.token (token_text_lacks space (omega arith) tenant.token) parses; parses = parses; within = is }

-- ---- they have no newline

newline_foreign : IsForeign 10
newline_foreign byte h = grind (arith, nat_tests)

pub spaced_lacks : (word : List ℕ) (words : List (List ℕ)) → Lacks newline word → AllByRecursion (Lacks newline) words → Lacks newline (spaced (word ∷ words))
spaced_lacks word [] lacks all = lacks
spaced_lacks word (next ∷ words) lacks all = Every-append (λ byte. (byte == newline) ≡ false) word (space ∷ spaced (next ∷ words)) lacks (refl, spaced_lacks next words all.0 all.1)

number_lacks : (n : ℕ) → IsTrue (is_u64 n) → Lacks newline (decimal n)
number_lacks n h = decimal_lacks newline newline_foreign n h

numbers_lack : (ns : List ℕ) → IsTrue (list_all is_u64 ns) → AllByRecursion (Lacks newline) (map decimal ns)
numbers_lack [] h = tt
numbers_lack (n ∷ ns) h = let parts = both (is_u64 n) (list_all is_u64 ns) h in (number_lacks n parts.0, numbers_lack ns parts.1)

pub cluster_lacks : (config : Config) → IsTrue (are_sizes config) → Lacks newline (cluster_line config)
cluster_lacks config h =
    let fits = sizes_fit config h in
    let sizes : List ℕ = config.data_centres ∷ config.shards ∷ config.trans_time ∷ config.restarts ∷ [] in
    spaced_lacks (codes "cluster") (map decimal sizes) (lacks_from_test newline (codes "cluster") refl) (numbers_lack sizes (rw (fits.data_centres, fits.shards, fits.trans_time, fits.restarts) refl))

pub tenant_lacks : (last : ℕ) → last < 2 ^ 64 → (tenant : Tenant) → IsTrue (is_tenant_to last tenant) → Lacks newline (written_tenant tenant)
tenant_lacks last small tenant h =
    let fits = tenant_fits last small tenant h in
    let q = tenant.quota in
    let token = hyphenated_text lower tenant.token in
    let limits : List ℕ = tenant.first_clock ∷ q.versions ∷ q.bytes ∷ q.outbox ∷ q.contexts ∷ q.deps ∷ q.actors ∷ q.audit ∷ [] in
    spaced_lacks (codes "tenant") (tenant.name ∷ token ∷ map decimal limits) (lacks_from_test newline (codes "tenant") refl) (
      name_lacks newline newline_foreign tenant.name fits.name,
      (
        token_text_lacks newline (omega arith) tenant.token,
        numbers_lack limits (rw (fits.first_clock, fits.versions, fits.bytes, fits.outbox, fits.contexts, fits.deps, fits.actors, fits.audit) refl),
      ),
    )

-- ---- tenants of a head

abbrev Any : {A : Type 0} → A → Type 0
Any x = Unit {0}

-- the tenant is within the limits, with a first clock of at most this, and has a token
pub record IsFit (last : ℕ) (tenant : Tenant) : Type 0 where
  pub good : IsTrue (is_tenant_to last tenant)
  pub token : IsToken tenant.token

abbrev pub AreFit : ℕ → List Tenant → Type 0
AreFit last tenants = AllByRecursion (IsFit last) tenants

-- no two tenants have one name or one token
pub record AreAllApart (slots : List (Option Tenant)) : Type 0 where
  pub names : AreApart (λ tenant. tenant.name) slots
  pub tokens : AreApart (λ tenant. tenant.token) slots

pub record IsOfHead (last : ℕ) (config : Config) : Type 0 where
  pub sizes : IsTrue (are_sizes config)
  pub few : length config.tenants ≤ most_tenants
  pub fit : AreFit last config.tenants
  pub apart : AreAllApart (map Some config.tenants)

abbrev pub StandsIn : ℕ → Front → Type 0
StandsIn last AtStart = Unit {0}
StandsIn last (Within config) = IsOfHead last config
StandsIn last (Begun config) = IsOfHead last config

bare_stands : (last : ℕ) (config : Config) → IsTrue (are_sizes config) → config.tenants ≡ [] → IsOfHead last config
bare_stands last config sizes bare = grind (arith, nat_tests)

neither : (a b : Bool) → (not a && not b) ≡ true → (a ≡ false) × (b ≡ false)
neither a b h2 = grind (arith, nat_tests)

pub follows_stands : (last : ℕ) (front : Front) (line : List ℕ) (next : Front) → StandsIn last front → FollowsTo last front line next → StandsIn last next
follows_stands last AtStart line next stands (config, is, e) = subst (StandsIn last) (sym e) (bare_stands last config is.within is.bare)
follows_stands last (Within old) line next stands (inl joins) =
    let may = both (nat_lt (length old.tenants) 64) (is_distinct old.tenants joins.tenant) joins.may in
    let fresh = neither (list_any (λ (other : Tenant). bytes_eq other.name joins.tenant.name) old.tenants) (list_any (λ (other : Tenant). bytes_eq other.token joins.tenant.token) old.tenants) may.1 in
    let below : length old.tenants < 64 = (let test = may.0 in grind (arith, nat_tests)) in
    let longer = length-append old.tenants (joins.tenant ∷ []) in
    subst (StandsIn last) (sym joins.after) (record {
      sizes = stands.sizes;
      few = omega (arith, below, longer);
      fit = Every-append (IsFit last) old.tenants (joins.tenant ∷ []) stands.fit ((record { good = joins.said.within; token = parsed_token joins.said.token joins.tenant.token joins.said.parses }), tt);
      apart = record {
        names = apart_more (λ t. t.name) old.tenants joins.tenant stands.apart.names fresh.0;
        tokens = apart_more (λ t. t.token) old.tenants joins.tenant stands.apart.tokens fresh.1;
      };
    })
follows_stands last (Within old) line next stands (inr ends) = subst (StandsIn last) (sym ends.after) stands
follows_stands last (Begun old) line next stands follows = absurd follows

pub of_head : (lines rest : List (List ℕ)) (config : Config) → head_of lines ≡ Whole config rest → IsOfHead last_clock config
of_head lines rest config e =
    (head_holds Today (StandsIn last_clock) Any (λ front line next stands is. follows_stands last_clock front line next stands (follows_by Today front line next is)) config rest lines 1 AtStart tt (Every-from Any lines (λ line at. tt)) e).0

-- ---- the lines that are written of such a head

module _ (text_of : Tenant → List ℕ) where
  -- one among them has another text than one before it
  differs : (text : List ℕ) (front : List Tenant) (tenant : Tenant) (more : List Tenant) → list_any (has_text text_of text) (map Some (front ++ tenant ∷ more)) ≡ false → bytes_eq (text_of tenant) text ≡ false
  differs text [] tenant more h = left_fails (bytes_eq (text_of tenant) text) (list_any (has_text text_of text) (map Some more)) h
  differs text (x ∷ front) tenant more h = differs text front tenant more (right_fails (bytes_eq (text_of x) text) (list_any (has_text text_of text) (map Some (front ++ tenant ∷ more))) h)

  fresh_behind : (front : List Tenant) (tenant : Tenant) (more : List Tenant) → AreApart text_of (map Some (front ++ tenant ∷ more)) → list_any (λ (other : Tenant). bytes_eq (text_of other) (text_of tenant)) front ≡ false
  fresh_behind [] tenant more apart = refl
  fresh_behind (x ∷ front) tenant more apart =
      both_fail (bytes_eq (text_of x) (text_of tenant)) (list_any (λ (other : Tenant). bytes_eq (text_of other) (text_of tenant)) front)
      (swapped (text_of x) (text_of tenant) ∙ differs (text_of x) front tenant more apart.0) (fresh_behind front tenant more apart.1)

is_new_among : (a b : Bool) → a ≡ false → b ≡ false → (not a && not b) ≡ true
is_new_among a b h2 h3 = grind (arith, nat_tests)

below_test : (n : ℕ) → n < most_tenants → nat_lt n most_tenants ≡ true
below_test n h = grind (arith, nat_tests)

-- behind these tenants the others join, and then the head ends
tenants_lead : (config : Config) (front more : List Tenant) → length (front ++ more) ≤ most_tenants → AreFit last_clock more → AreAllApart (map Some (front ++ more)) →
    Leads (Within (with_tenants config front)) (map written_tenant more ++ begin_line ∷ []) (Begun (with_tenants config (front ++ more)))
tenants_lead config front [] few fit apart = (Begun (with_tenants config front), inr (record { said = refl; after = refl }), ap (λ (ts : List Tenant). Begun (with_tenants config ts)) (append-nil front))
tenants_lead config front (tenant ∷ more) few fit apart =
    let together = append_assoc front (tenant ∷ []) more in
    let long = length-append front (tenant ∷ more) in
    let may = and (nat_lt (length front) most_tenants) (is_distinct front tenant) (below_test (length front) (omega (arith, long, few)))
    (is_new_among (list_any (λ (other : Tenant). bytes_eq other.name tenant.name) front) (list_any (λ (other : Tenant). bytes_eq other.token tenant.token) front)
    (fresh_behind (λ t. t.name) front tenant more apart.names) (fresh_behind (λ t. t.token) front tenant more apart.tokens)) in
    let rest = tenants_lead config (front ++ tenant ∷ []) more (subst (λ (ts : List Tenant). length ts ≤ most_tenants) (sym together) few) fit.1 (subst (λ (ts : List Tenant). AreAllApart (map Some ts)) (sym together) apart) in (
      Within (with_tenants config (front ++ tenant ∷ [])),
      inl (record { tenant = tenant; said = tenant_written last_clock tenant fit.0.token fit.0.good; may = may; after = refl }),
      subst (λ (ts : List Tenant). Leads (Within (with_tenants config (front ++ tenant ∷ []))) (map written_tenant more ++ begin_line ∷ []) (Begun (with_tenants config ts))) together rest,
    )

pub head_leads : (config : Config) (tenants : List Tenant) → IsTrue (are_sizes config) → length tenants ≤ most_tenants → AreFit last_clock tenants → AreAllApart (map Some tenants) →
    Leads AtStart (written_head (with_tenants config tenants)) (Begun (with_tenants config tenants))
head_leads config tenants sizes few fit apart =
    (Within (with_tenants config []), (with_tenants config [], record { spelled = refl; within = sizes; bare = refl }, refl), tenants_lead config [] tenants few fit apart)

tenants_lack : (tenants : List Tenant) → AreFit last_clock tenants → AllByRecursion (Lacks newline) (map written_tenant tenants ++ begin_line ∷ [])
tenants_lack [] fit = (lacks_from_test newline begin_line refl, tt)
tenants_lack (tenant ∷ tenants) fit = (tenant_lacks last_clock (omega arith) tenant fit.0.good, tenants_lack tenants fit.1)

-- the lines of a whole head, from any number on, are read as that head
pub head_read : (lines rest : List (List ℕ)) (number : ℕ) (front : Front) (config : Config) → Leads front lines (Begun config) → reading_from (lines ++ rest) number front ≡ Whole config rest
head_read [] rest number front config e = sym (ap (λ f. reading_from rest number f) e)
head_read (line ∷ lines) rest number AtStart config (next, follows, leads) =
    ap (λ found. elim found [ None ↦ BadAt number | Some next ↦ reading_from (lines ++ rest) (number + 1) next ]) (front_after-finds AtStart line next follows)
    ∙ head_read lines rest (number + 1) next config leads
head_read (line ∷ lines) rest number (Within so_far) config (next, follows, leads) =
    ap (λ found. elim found [ None ↦ BadAt number | Some next ↦ reading_from (lines ++ rest) (number + 1) next ]) (front_after-finds (Within so_far) line next follows)
    ∙ head_read lines rest (number + 1) next config leads
head_read (line ∷ lines) rest number (Begun found) config (next, follows, leads) = absurd follows

-- what is written of a head that was read is read back as that head, whatever lines come after it
pub head_reads_back : (lines rest others : List (List ℕ)) (number : ℕ) (config : Config) → head_of lines ≡ Whole config rest → reading_from (written_head config ++ others) number AtStart ≡ Whole config others
head_reads_back lines rest others number config e =
    let is = of_head lines rest config e in
    head_read (written_head config) others number AtStart config (head_leads config config.tenants is.sizes is.few is.fit is.apart)

pub head_unbroken : (lines rest : List (List ℕ)) (config : Config) → head_of lines ≡ Whole config rest → AllByRecursion (Lacks newline) (written_head config)
head_unbroken lines rest config e = let is = of_head lines rest config e in (cluster_lacks config is.sizes, tenants_lack config.tenants is.fit)

-- what holds of all lines holds of those after the head
pub holds_of_rest : (P : List ℕ → Type 0) (lines rest : List (List ℕ)) (config : Config) → head_of lines ≡ Whole config rest → AllByRecursion P lines → AllByRecursion P rest
holds_of_rest P lines rest config e all = (head_holds Today Any P (λ front line next any is. tt) config rest lines 1 AtStart tt all e).1

-- ---- texts

line_first : (line rest : List ℕ) → Lacks newline line → lines_of (line ++ newline ∷ rest) ≡ line ∷ lines_of rest
unfolding lines_of
line_first [] rest h = refl
line_first (byte ∷ line) rest h = rw h.0 (ap (onto_first byte) (line_first line rest h.1))

-- lines without a newline, each ended by one, are the first lines of a text that begins with them
pub lines_of-more : (lines : List (List ℕ)) (more : List ℕ) → AllByRecursion (Lacks newline) lines → lines_of (flat_map (λ line. line ++ newline ∷ []) lines ++ more) ≡ lines ++ lines_of more
lines_of-more [] more all = refl
lines_of-more (line ∷ lines) more all =
    let rest = flat_map (λ line. line ++ newline ∷ []) lines in
    ap lines_of (append_assoc (line ++ newline ∷ []) rest more ∙ append_assoc line (newline ∷ []) (rest ++ more))
    ∙ line_first line (rest ++ more) all.0 ∙ ap (λ others. line ∷ others) (lines_of-more lines more all.1)

-- and all its lines, if nothing else comes
pub lines_of-lines : (lines : List (List ℕ)) → AllByRecursion (Lacks newline) lines → lines_of (flat_map (λ line. line ++ newline ∷ []) lines) ≡ lines
unfolding lines_of
lines_of-lines lines all = ap lines_of (sym (append-nil (flat_map (λ line. line ++ newline ∷ []) lines))) ∙ lines_of-more lines [] all ∙ append-nil lines

onto_lacks : (byte : ℕ) (lines : List (List ℕ)) → (byte == newline) ≡ false → AllByRecursion (Lacks newline) lines → AllByRecursion (Lacks newline) (onto_first byte lines)
onto_lacks byte [] apart all = ((apart, tt), tt)
onto_lacks byte (line ∷ lines) apart all = ((apart, all.0), all.1)

-- no line of a text has a newline
pub lines_of-lack : (bytes : List ℕ) → AllByRecursion (Lacks newline) (lines_of bytes)
unfolding lines_of
lines_of-lack [] = tt
lines_of-lack (byte ∷ bytes) = by_test (byte == newline) refl (lines_of-lack bytes)
  where
    by_test : (t : Bool) → (byte == newline) ≡ t → AllByRecursion (Lacks newline) (lines_of bytes) → AllByRecursion (Lacks newline) (cond t ([] ∷ lines_of bytes) (onto_first byte (lines_of bytes)))
    by_test true is lack = (tt, lack)
    by_test false is lack = onto_lacks byte (lines_of bytes) is lack
