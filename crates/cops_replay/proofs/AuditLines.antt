-- The lines of a written audit, and those of them that are one tenant's.
use Rattle.cops_replay.proofs.Names.{◌≡◌, ℕ, zero, suc, ◌+◌, ◌<◌, true, false, cond, List, [], ◌∷◌, ◌++◌, map, length, refl, sym, subst, ap, ◌∙◌, append-nil, arith, IsTrue, Some, None, codes, decimal, flat_map, nat_lt, slice_get, AllByRecursion, list_any, bytes_eq, nat_tests, flat_map-append, filter-append, flat_map-map, Config, Tenant, Whole, head_of, lines_of, AreNamed, slot_of_name, TenantConfig, first_word, newline, space, spaced, left_fails, right_fails, swapped, Lacks, name_lacks, same_bytes, same_value, Every-append, AreApart, has_text, last_clock, SoloNode, Record, ended, tenants_text, alone_lines, call_words, node_text, record_line, reply_words, AreFormed, his_records, position_or_len, is_name, name_of_good, first_word-more, space_foreign}
use Rattle.cops_replay.proofs.HeadsBack.{AreFit, lines_of-lines, of_head}
use Rattle.cops_replay.proofs.LinesBack.{lines_lack}
use Rattle.cops_replay.proofs.AuditTexts.{AllFormed}

-- ---- the tenants of a head

-- each has a name, and no two have one
pub record AreKnown (tenants : List Tenant) : Type 0 where
  pub apart : AreApart (λ tenant. tenant.name) (map Some tenants)
  pub named : AreNamed tenants

fit_named : (tenants : List Tenant) → AreFit last_clock tenants → AreNamed tenants
fit_named [] fit = tt
fit_named (tenant ∷ tenants) fit = (name_of_good tenant fit.0.good, fit_named tenants fit.1)

pub head_known : (lines rest : List (List ℕ)) (config : Config) → head_of lines ≡ Whole config rest → AreKnown config.tenants
head_known lines rest config e = let is = of_head lines rest config e in record { apart = is.apart.names; named = fit_named config.tenants is.fit }

-- ---- a tenant among them

-- none of them has this name
abbrev NoneHas : List ℕ → List Tenant → Type 0
NoneHas name tenants = list_any (has_text (λ (t : Tenant). t.name) name) (map Some tenants) ≡ false

first_differs : (name : List ℕ) (first : Tenant) (tenants : List Tenant) → NoneHas name (first ∷ tenants) → bytes_eq first.name name ≡ false
first_differs name first tenants none = left_fails (bytes_eq first.name name) (list_any (has_text (λ (t : Tenant). t.name) name) (map Some tenants)) none

others_differ : (name : List ℕ) (first : Tenant) (tenants : List Tenant) → NoneHas name (first ∷ tenants) → NoneHas name tenants
others_differ name first tenants none = right_fails (bytes_eq first.name name) (list_any (has_text (λ (t : Tenant). t.name) name) (map Some tenants)) none

differs_at : (name : List ℕ) (tenants : List Tenant) (slot : ℕ) (tenant : Tenant) → NoneHas name tenants → slice_get tenants slot ≡ Some tenant → bytes_eq name tenant.name ≡ false
differs_at name [] slot tenant none e = cc
differs_at name (first ∷ tenants) zero tenant none e = subst (λ (t : Tenant). bytes_eq name t.name ≡ false) (same_value first tenant e) (swapped name first.name ∙ first_differs name first tenants none)
differs_at name (first ∷ tenants) (suc slot) tenant none e = differs_at name tenants slot tenant (others_differ name first tenants none) e

place_of_name : (tenants : List Tenant) (slot : ℕ) (tenant : Tenant) → AreApart (λ t. t.name) (map Some tenants) → slice_get tenants slot ≡ Some tenant →
    (position_or_len (λ (t : Tenant). bytes_eq t.name tenant.name) tenants ≡ slot) × (slot < length tenants)
place_of_name [] slot tenant apart e = cc
place_of_name (first ∷ tenants) zero tenant apart e =
    let same : bytes_eq first.name tenant.name ≡ true = ap (λ (t : Tenant). bytes_eq t.name tenant.name) (same_value first tenant e) ∙ same_bytes tenant.name in
    (rw same refl, omega arith)
place_of_name (first ∷ tenants) (suc slot) tenant apart e =
    let differs = differs_at first.name tenants slot tenant apart.0 e in
    let later = place_of_name tenants slot tenant apart.1 e in
    let below = later.1 in
    let found = later.0 in
    (rw differs (omega (arith, found)), omega arith)

-- a tenant is found by its name
pub named_at : (tenants : List Tenant) (slot : ℕ) (tenant : Tenant) → AreApart (λ t. t.name) (map Some tenants) → slice_get tenants slot ≡ Some tenant → slot_of_name tenants tenant.name ≡ Some slot
named_at tenants slot tenant apart e =
    let place = place_of_name tenants slot tenant apart e in
    let below = place.1 in
    let test : nat_lt slot (length tenants) ≡ true = grind (arith, nat_tests) in
    ap (λ n. cond (nat_lt n (length tenants)) (Some n) None) place.0 ∙ ap (λ t. cond t (Some slot) None) test

-- ---- the lines of one tenant's records

abbrev his_lines : List ℕ → List Record → List (List ℕ)
his_lines name records = map (record_line name) records

-- a line begins with its tenant's name
begins_with : (name : List ℕ) (told : Record) → IsTrue (is_name name) → first_word (record_line name told) ≡ name
begins_with name told named = first_word-more name (spaced (node_text told.node ∷ decimal told.moment ∷ call_words told.call ++ codes "=" ∷ reply_words told.reply)) (name_lacks space space_foreign name named)

-- so all are the tenant's
all_his : (name : List ℕ) (records : List Record) → IsTrue (is_name name) → alone_lines name (his_lines name records) ≡ his_lines name records
all_his name [] named = refl
all_his name (told ∷ records) named =
    let is : bytes_eq (first_word (record_line name told)) name ≡ true = ap (λ word. bytes_eq word name) (begins_with name told named) ∙ same_bytes name in
    rw is (ap (λ lines. record_line name told ∷ lines) (all_his name records named))

-- and none is another's
none_his : (name other : List ℕ) (records : List Record) → IsTrue (is_name other) → bytes_eq other name ≡ false → alone_lines name (his_lines other records) ≡ []
none_his name other [] named differs = refl
none_his name other (told ∷ records) named differs =
    let is : bytes_eq (first_word (record_line other told)) name ≡ false = ap (λ word. bytes_eq word name) (begins_with other told named) ∙ differs in
    rw is (none_his name other records named differs)

-- ---- the lines of all tenants' records

module _ (config : Config) (nodes : TenantConfig → ℕ → List SoloNode) where
  abbrev record_lines : ℕ → List Tenant → List (List ℕ)
  record_lines slot [] = []
  record_lines slot (tenant ∷ tenants) = his_lines tenant.name (his_records config nodes slot tenant) ++ record_lines (slot + 1) tenants

  text_is : (slot : ℕ) (tenants : List Tenant) → flat_map ended (record_lines slot tenants) ≡ tenants_text config nodes slot tenants
  text_is slot [] = refl
  text_is slot (tenant ∷ tenants) =
      flat_map-append ended (his_lines tenant.name (his_records config nodes slot tenant)) (record_lines (slot + 1) tenants)
      ∙ (λ i. flat_map-map ended (record_line tenant.name) (his_records config nodes slot tenant) i ++ text_is (slot + 1) tenants i)

  -- from this slot on
  abbrev FormedFrom : ℕ → List Tenant → Type 0
  FormedFrom slot tenants = (k : ℕ) (tenant : Tenant) → slice_get tenants k ≡ Some tenant → AllFormed (his_records config nodes (slot + k) tenant)

  later_formed : (slot : ℕ) (first : Tenant) (tenants : List Tenant) → FormedFrom slot (first ∷ tenants) → FormedFrom (slot + 1) tenants
  later_formed slot first tenants formed k tenant e = subst (λ n. AllFormed (his_records config nodes n tenant)) (omega arith) (formed (suc k) tenant e)

  all_lack : (slot : ℕ) (tenants : List Tenant) → AreNamed tenants → FormedFrom slot tenants → AllByRecursion (Lacks newline) (record_lines slot tenants)
  all_lack slot [] named formed = tt
  all_lack slot (tenant ∷ tenants) named formed =
      let here : AllFormed (his_records config nodes slot tenant) = subst (λ n. AllFormed (his_records config nodes n tenant)) (omega arith) (formed 0 tenant refl) in
      Every-append (Lacks newline) (his_lines tenant.name (his_records config nodes slot tenant)) (record_lines (slot + 1) tenants) (lines_lack tenant.name (his_records config nodes slot tenant) named.0 here)
      (all_lack (slot + 1) tenants named.1 (later_formed slot tenant tenants formed))

  -- none is of a name that no tenant has
  none_named : (name : List ℕ) (slot : ℕ) (tenants : List Tenant) → AreNamed tenants → NoneHas name tenants → alone_lines name (record_lines slot tenants) ≡ []
  none_named name slot [] named none = refl
  none_named name slot (first ∷ tenants) named none =
      filter-append (λ line. bytes_eq (first_word line) name) (his_lines first.name (his_records config nodes slot first)) (record_lines (slot + 1) tenants)
      ∙ (λ i. none_his name first.name (his_records config nodes slot first) named.0 (first_differs name first tenants none) i ++ none_named name (slot + 1) tenants named.1 (others_differ name first tenants none) i)

  only_his : (slot : ℕ) (tenants : List Tenant) (k : ℕ) (tenant : Tenant) → AreNamed tenants → AreApart (λ t. t.name) (map Some tenants) → slice_get tenants k ≡ Some tenant →
      alone_lines tenant.name (record_lines slot tenants) ≡ his_lines tenant.name (his_records config nodes (slot + k) tenant)
  only_his slot [] k tenant named apart e = cc
  only_his slot (first ∷ tenants) zero tenant named apart e =
      let here : slot ≡ slot + 0 = omega arith in
      subst (λ (t : Tenant). alone_lines t.name (record_lines slot (first ∷ tenants)) ≡ his_lines t.name (his_records config nodes (slot + 0) t)) (same_value first tenant e)
      (filter-append (λ line. bytes_eq (first_word line) first.name) (his_lines first.name (his_records config nodes slot first)) (record_lines (slot + 1) tenants)
      ∙ (λ i. all_his first.name (his_records config nodes slot first) named.0 i ++ none_named first.name (slot + 1) tenants named.1 apart.0 i)
      ∙ append-nil (his_lines first.name (his_records config nodes slot first))
      ∙ ap (λ n. his_lines first.name (his_records config nodes n first)) here)
  only_his slot (first ∷ tenants) (suc k) tenant named apart e =
      let there : slot + 1 + k ≡ slot + suc k = omega arith in
      filter-append (λ line. bytes_eq (first_word line) tenant.name) (his_lines first.name (his_records config nodes slot first)) (record_lines (slot + 1) tenants)
      ∙ (λ i. none_his tenant.name first.name (his_records config nodes slot first) named.0 (differs_at first.name tenants k tenant apart.0 e) i
      ++ only_his (slot + 1) tenants k tenant named.1 apart.1 e i)
      ∙ ap (λ n. his_lines tenant.name (his_records config nodes n tenant)) there

  -- those of one tenant are those of its records
  pub lines_his : (lines rest : List (List ℕ)) (slot : ℕ) (tenant : Tenant) → head_of lines ≡ Whole config rest → AreFormed config nodes → slice_get config.tenants slot ≡ Some tenant →
      alone_lines tenant.name (lines_of (tenants_text config nodes 0 config.tenants)) ≡ his_lines tenant.name (his_records config nodes slot tenant)
  lines_his lines rest slot tenant head formed e =
      let known = head_known lines rest config head in
      ap (λ text. alone_lines tenant.name (lines_of text)) (sym (text_is 0 config.tenants))
      ∙ ap (alone_lines tenant.name) (lines_of-lines (record_lines 0 config.tenants) (all_lack 0 config.tenants known.named (λ k t at. subst (λ n. AllFormed (his_records config nodes n t)) (omega arith) (formed k t at))))
      ∙ only_his 0 config.tenants slot tenant known.named known.apart e ∙ ap (λ n. his_lines tenant.name (his_records config nodes n tenant)) (let here : 0 + slot ≡ slot = omega arith in here)
