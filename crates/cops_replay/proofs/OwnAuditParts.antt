-- One tenant's part of the audit of a script is the one that is cut out of the whole.
use Rattle.cops_replay.proofs.Names.{◌≡◌, ℕ, zero, suc, ◌+◌, Bool, true, false, cond, List, [], ◌∷◌, ◌++◌, length, map, refl, sym, subst, ap, ◌∙◌, append-nil, arith, Option, Some, None, flat_map, slice_get, slice_index_or, AllByRecursion, bytes_eq, nat_tests, flat_map-map, take_all, Config, Tenant, HeadReading, Whole, BadAt, head_of, cut_line, lines_of, has_name, open_at, open_slot_of_name, slot_of_name, TenantConfig, tenant_config, bytes_from_test, same_value, SoloNode, Written, cluster_left, life_left, setup_left, found_at, Layout, Today, Record, PartRefusal, audit_after, audit_out, AreFormed, AreFormedFor, his_records, audit_text, ended, records_of, records_text, tenants_text, left_config, left_nodes, open_tenants, slots_from, with_tenants, IsOpenIn, IsOwnAudit, IsOwnAuditAfter, IsOwnAuditOf, RefusesOwnAuditAfter, RefusesOwnAuditOf, own_records, own_audit_text, IsPartBy, IsPartOf, RefusesPartBy, RefusesPartOf, layout_lines, lone_head_lines, record_line, HasLine, alone_lines, head_by, layout_of, longest_record, seen_lines, first_from, BadConfig, UnknownTenant, part_text}
use Rattle.cops_replay.proofs.AuditLines.{head_known, lines_his, named_at}
use Rattle.cops_replay.proofs.HeadsBack.{written_head}
use Rattle.cops_replay.proofs.HeadTexts.{head_text_is, text_is_todays, text_reads_back}
use Rattle.cops_replay.proofs.OpenHeads.{open_head}
use Rattle.cops_replay.proofs.ShortLines.{lines_at}
use Rattle.cops_replay.proofs.WrittenAudits.{same_text}
use Rattle.cops_replay.proofs.LineLengths.{at_most}
use Rattle.cops_replay.proofs.OpenLists.{open_there}

-- ---- the slot of a name, and its place among those that are open

-- the open tenant of this place has this name and this slot, if the list begins with the slot of number n
abbrev IsFoundFrom : ℕ → List (Option Tenant) → List ℕ → ℕ → Type 0
IsFoundFrom n tenants name slot =
    (place : ℕ) × (tenant : Tenant) × (slice_get (open_tenants tenants) place ≡ Some tenant) × (slice_index_or (slots_from n tenants) place 0 ≡ slot) × (bytes_eq tenant.name name ≡ true)

found_from : (n : ℕ) (tenants : List (Option Tenant)) (name : List ℕ) (slot : ℕ) → first_from (has_name name) n tenants ≡ Some slot → IsFoundFrom n tenants name slot
found_from n [] name slot e = absurd (let clash : ⊥ = cc in clash)
found_from n (None ∷ tenants) name slot e = found_from (n + 1) tenants name slot e
found_from n (Some first ∷ tenants) name slot e = by (bytes_eq first.name name) refl (λ later. found_from (n + 1) tenants name slot later) e
  where
    by : (b : Bool) → bytes_eq first.name name ≡ b → (first_from (has_name name) (n + 1) tenants ≡ Some slot → IsFoundFrom (n + 1) tenants name slot) → cond b (Some n) (first_from (has_name name) (n + 1) tenants) ≡ Some slot →
        IsFoundFrom n (Some first ∷ tenants) name slot
    by true is others e = let same : n ≡ slot = cc in (0, first, refl, same, is)
    by false is others e = let (place, tenant, listed, placed, named) = others e in (suc place, tenant, listed, placed, named)

-- if none is found, no open tenant has the name
none_named : (n : ℕ) (tenants : List (Option Tenant)) (name : List ℕ) (place : ℕ) (tenant : Tenant) → first_from (has_name name) n tenants ≡ None → slice_get (open_tenants tenants) place ≡ Some tenant → bytes_eq tenant.name name ≡ false
none_named n [] name place tenant e at = absurd (let clash : ⊥ = cc in clash)
none_named n (None ∷ tenants) name place tenant e at = none_named (n + 1) tenants name place tenant e at
none_named n (Some first ∷ tenants) name place tenant e at = by (bytes_eq first.name name) refl (λ later k there. none_named (n + 1) tenants name k tenant later there) e place at
  where
    by : (b : Bool) → bytes_eq first.name name ≡ b → (first_from (has_name name) (n + 1) tenants ≡ None → (k : ℕ) → slice_get (open_tenants tenants) k ≡ Some tenant → bytes_eq tenant.name name ≡ false) →
        cond b (Some n) (first_from (has_name name) (n + 1) tenants) ≡ None → (place : ℕ) → slice_get (first ∷ open_tenants tenants) place ≡ Some tenant → bytes_eq tenant.name name ≡ false
    by true is others e place at = absurd (let clash : ⊥ = cc in clash)
    by false is others e zero at = subst (λ (t : Tenant). bytes_eq t.name name ≡ false) (same_value first tenant at) is
    by false is others e (suc place) at = others e place at

-- who is open in the slot of a name
pub open_found : (tenants : List (Option Tenant)) (name : List ℕ) (slot : ℕ) → open_slot_of_name tenants name ≡ Some slot → (tenant : Tenant) × (open_at slot tenants ≡ Some tenant)
open_found tenants name slot e = grind (arith, nat_tests, found_from, open_there)

-- ---- texts

-- the audit of one tenant alone is the part with its records
pub own_audit_text_is : (config : Config) (tenant : Tenant) (nodes : TenantConfig → ℕ → List SoloNode) → audit_text (with_tenants config (tenant ∷ [])) nodes ≡ own_audit_text config tenant (his_records config nodes 0 tenant)
own_audit_text_is config tenant nodes =
    let lone = with_tenants config (tenant ∷ []) in
    let records = his_records config nodes 0 tenant in
    let head = flat_map ended (layout_lines Today ++ lone_head_lines config tenant) in
    ap (λ text. text ++ (records_text tenant.name records ++ [])) (sym (head_text_is lone))
    ∙ ap (λ text. head ++ text) (append-nil (records_text tenant.name records) ∙ sym (flat_map-map ended (record_line tenant.name) records))

-- no line of a record is cut
uncut : (name : List ℕ) (records : List Record) → AllByRecursion (HasLine name) records → map (cut_line longest_record) (map (record_line name) records) ≡ map (record_line name) records
uncut name [] all = refl
uncut name (told ∷ records) all =
    let line = record_line name told in
    let small = at_most (length line) longest_record all.0.short in
    let whole : cut_line longest_record line ≡ line = take_all (longest_record + 1) line (omega (arith, small)) in
    λ i. whole i ∷ uncut name records all.1 i

-- ---- of a script with this head

module _ (read rest : List (List ℕ)) (config : Config) (head : head_of read ≡ Whole config rest) where
  abbrev left : Config
  left = left_config config rest

  abbrev nodes : TenantConfig → ℕ → List SoloNode
  nodes = left_nodes config rest

  abbrev slots : List (Option Tenant)
  slots = (setup_left config rest).tenants

  abbrev text : List ℕ
  text = tenants_text left nodes 0 left.tenants

  -- the open tenant of a slot, among those that are open
  pub record HasPlace (name : List ℕ) (slot : ℕ) (tenant : Tenant) : Type 0 where
    pub place : ℕ
    pub listed : slice_get left.tenants place ≡ Some tenant
    pub found : slot_of_name left.tenants name ≡ Some place
    pub named : tenant.name ≡ name
    pub records : his_records left nodes place tenant ≡ own_records config rest slot tenant

  pub has_place : (name : List ℕ) (slot : ℕ) (tenant : Tenant) → IsOpenIn config rest name slot tenant → HasPlace name slot tenant
  has_place name slot tenant opened =
      let (place, other, listed, placed, its) = found_from 0 slots name slot opened.there in
      let here : open_at slot slots ≡ Some other = ap (λ n. open_at n slots) (sym placed) ∙ open_there slots place other listed in
      let same : other ≡ tenant = same_value other tenant (sym here ∙ opened.tenant_is) in
      let is : other.name ≡ name = bytes_from_test other.name name its in
      let known = head_known (written_head left) [] left (open_head read rest config head) in
      record {
        place = place;
        listed = listed ∙ ap Some same;
        found = ap (slot_of_name left.tenants) (sym is) ∙ named_at left.tenants place other known.apart listed;
        named = ap (λ (t : Tenant). t.name) (sym same) ∙ is;
        records = ap (λ n. records_of (tenant_config config tenant) (cluster_left config rest (life_left config rest n)).nodes) placed;
      }

  reads : head_by Today (lines_of (audit_text left nodes)) ≡ Whole left (lines_of text)
  reads = text_reads_back (written_head left) [] left text (open_head read rest config head)

  told : layout_of (lines_of (audit_text left nodes)) ≡ Today
  told = text_is_todays (written_head left) [] left text (open_head read rest config head)

  own_part : AreFormed left nodes → (name part : List ℕ) → IsOwnAudit config rest name part → IsPartOf name (audit_text left nodes) part
  own_part formed name part own =
      let at = has_place name own.slot own.tenant own.opened in
      let its = his_records left nodes at.place own.tenant in
      let lines : alone_lines own.tenant.name (lines_of text) ≡ map (record_line own.tenant.name) its =
      lines_his left nodes (written_head left) [] at.place own.tenant (open_head read rest config head) formed at.listed in
      let seen : seen_lines name (lines_of text) ≡ map (record_line own.tenant.name) (own_records config rest own.slot own.tenant) =
      ap (λ n. seen_lines n (lines_of text)) (sym at.named) ∙ ap (map (cut_line longest_record)) lines
      ∙ uncut own.tenant.name its (lines_at read rest config at.place own.tenant head at.listed (formed at.place own.tenant at.listed))
      ∙ ap (map (record_line own.tenant.name)) at.records in
      subst (λ layout. IsPartBy layout name (lines_of (audit_text left nodes)) part) (sym told) (record {
        audit = record { config = left; records = lines_of text; slot = at.place; tenant = own.tenant; head = reads; there = at.found; tenant_is = at.listed };
        text_is = own.text_is ∙ ap (part_text Today config own.tenant) (sym seen);
      })

  unknown : (name : List ℕ) → open_slot_of_name slots name ≡ None → slot_of_name left.tenants name ≡ None
  unknown name none = grind (arith, nat_tests, found_at, none_named)

  not_open : (name : List ℕ) → slot_of_name left.tenants name ≡ None → open_slot_of_name slots name ≡ None
  not_open name none = by (open_slot_of_name slots name) refl
    where
      by : (o : Option ℕ) → open_slot_of_name slots name ≡ o → o ≡ None
      by None e = refl
      by (Some slot) e =
          let found = open_found slots name slot e in
          let at = has_place name slot found.0 (record { there = e; tenant_is = found.1 }) in
          let clash : None ≡ Some at.place = sym none ∙ at.found in
          absurd (let no : ⊥ = cc in no)

  refused_whole : (name : List ℕ) (refusal : PartRefusal) → RefusesOwnAuditAfter (Whole config rest) name refusal → RefusesPartBy Today name (lines_of (audit_text left nodes)) refusal
  refused_whole name (BadConfig bad) none = absurd none
  refused_whole name UnknownTenant none = (left, lines_of text, reads, unknown name none)

  refused_own : (name : List ℕ) (refusal : PartRefusal) → RefusesPartBy Today name (lines_of (audit_text left nodes)) refusal → RefusesOwnAuditAfter (Whole config rest) name refusal
  refused_own name refusal h2 = grind (arith, nat_tests, not_open, reads)

-- ---- of the bytes of a script

part_by : (lines : List (List ℕ)) (reading : HeadReading) (name text part : List ℕ) → head_of lines ≡ reading → audit_after reading ≡ Written text → AreFormedFor reading → IsOwnAuditAfter reading name part → IsPartOf name text part
part_by lines (Whole config rest) name text part head is formed own =
    subst (λ t. IsPartOf name t part) (same_text (audit_text (left_config config rest) (left_nodes config rest)) text is) (own_part lines rest config head formed name part own)
part_by lines (BadAt number) name text part head is formed own = absurd own

pub own_is_part : (name bytes text part : List ℕ) → audit_out bytes ≡ Written text → AreFormedFor (head_of (lines_of bytes)) → IsOwnAuditOf name bytes part → IsPartOf name text part
own_is_part name bytes text part is formed own = part_by (lines_of bytes) (head_of (lines_of bytes)) name text part refl is formed own

-- the same names are refused
abbrev AreAlike : HeadReading → List ℕ → List ℕ → PartRefusal → Type 0
AreAlike reading name text refusal = (RefusesOwnAuditAfter reading name refusal → RefusesPartOf name text refusal) × (RefusesPartOf name text refusal → RefusesOwnAuditAfter reading name refusal)

refused_by : (lines : List (List ℕ)) (reading : HeadReading) (name text : List ℕ) (refusal : PartRefusal) → head_of lines ≡ reading → audit_after reading ≡ Written text → AreAlike reading name text refusal
refused_by lines (Whole config rest) name text refusal head is =
    let left = left_config config rest in
    let nodes = left_nodes config rest in
    subst (λ t. AreAlike (Whole config rest) name t refusal) (same_text (audit_text left nodes) text is)
    (subst (λ layout. (RefusesOwnAuditAfter (Whole config rest) name refusal → RefusesPartBy layout name (lines_of (audit_text left nodes)) refusal)
    × (RefusesPartBy layout name (lines_of (audit_text left nodes)) refusal → RefusesOwnAuditAfter (Whole config rest) name refusal))
    (sym (told lines rest config head)) (refused_whole lines rest config head name refusal, refused_own lines rest config head name refusal))
refused_by lines (BadAt number) name text refusal head is = absurd (let no : ⊥ = cc in no)

pub own_refused_alike : (name bytes text : List ℕ) (refusal : PartRefusal) → audit_out bytes ≡ Written text → (RefusesOwnAuditOf name bytes refusal → RefusesPartOf name text refusal) × (RefusesPartOf name text refusal → RefusesOwnAuditOf name bytes refusal)
own_refused_alike name bytes text refusal is = refused_by (lines_of bytes) (head_of (lines_of bytes)) name text refusal refl is

-- ---- a file has one part for a name

one_by : (layout : Layout) (name : List ℕ) (lines : List (List ℕ)) (part other : List ℕ) → IsPartBy layout name lines part → IsPartBy layout name lines other → part ≡ other
one_by layout name lines part other p q = grind (arith, nat_tests)

pub one_part : (name text part other : List ℕ) → IsPartOf name text part → IsPartOf name text other → part ≡ other
one_part name text part other p q = one_by (layout_of (lines_of text)) name (lines_of text) part other p q
