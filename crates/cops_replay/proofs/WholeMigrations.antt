-- An audit that both layouts have is migrated whole, and has the same head and the same records in both.
use Rattle.cops_replay.proofs.Names.{◌≡◌, ℕ, ◌+◌, Bool, true, false, cond, List, [], ◌∷◌, ◌++◌, length, inl, inr, refl, sym, subst, ap, ◌∙◌, arith, Option, Some, None, IsTrue, flat_map, nat_le, Ok, AllByRecursion, list_all, nat_tests, Config, Tenant, Front, AtStart, Within, Begun, HeadReading, Whole, BadAt, is_begun, reading_from, IsTenantLineTo, is_tenant_to, lines_of, has_clocks_to, last_old_clock, old_front_after, old_reading_from, last_clock, front_after-finds, both, Record, ended, head_text, migrated_from, migrated_records, migration_of, record_fault, with_text, IsAuditInBoth, last_early_clock, old_record_in, record_in, IsEarlyLine, longest_record, told_number, option_map, front_after, read_once, ReadsAlike, whole_migration}
use Rattle.cops_replay.proofs.EarlySteps.{early_record}
use Rattle.cops_replay.proofs.MigrationLemmas.{front_goes, head_line, record_line_left}
use Rattle.cops_replay.proofs.OldFronts.{FollowsTo, old_front_after-is}

-- ---- the records

-- the record of a line that both layouts have
read_early : (line : List ℕ) → IsEarlyLine line → (IsTrue (nat_le (length line) longest_record)) × ((read : List ℕ × Record) × (old_record_in line ≡ Some read))
read_early line (told, e) = by_short (nat_le (length line) longest_record) e
  where
    by_read : (found : Option (List ℕ × Record)) → option_map (λ (read : List ℕ × Record). read.1) found ≡ Some told → (read : List ℕ × Record) × (found ≡ Some read)
    by_read None e = absurd (let clash : ⊥ = cc in clash)
    by_read (Some read) e = (read, refl)

    by_short : (t : Bool) → cond t (option_map (λ (read : List ℕ × Record). read.1) (old_record_in line)) None ≡ Some told → IsTrue t × ((read : List ℕ × Record) × (old_record_in line ≡ Some read))
    by_short true e = (refl, by_read (old_record_in line) e)
    by_short false e = absurd (let clash : ⊥ = cc in clash)

no_fault : (line : List ℕ) → IsEarlyLine line → record_fault line ≡ None
no_fault line early = grind (arith, nat_tests)

records_whole : (lines : List (List ℕ)) (number count : ℕ) → AllByRecursion IsEarlyLine lines → migrated_records lines number count ≡ record { text = flat_map ended lines; outcome = Ok (told_number (count + length lines)) }
records_whole [] number count all = ap (λ n. record { text = []; outcome = Ok (told_number n) }) (omega arith)
records_whole (line ∷ lines) number count (here, later) =
    record_line_left number count line lines None (no_fault line here)
    ∙ ap (with_text (ended line)) (records_whole lines (number + 1) (count + 1) later)
    ∙ ap (λ n. record { text = ended line ++ flat_map ended lines; outcome = Ok (told_number n) }) (omega arith)

all_read : (lines : List (List ℕ)) → AllByRecursion IsEarlyLine lines → AllByRecursion (λ line. record_in line ≡ old_record_in line) lines
all_read [] all = tt
all_read (line ∷ lines) all = let found = (read_early line all.0).1 in (early_record line found.0 found.1 ∙ sym found.1, all_read lines all.1)

-- ---- one line of the head

abbrev AreEarly : List Tenant → Type 0
AreEarly tenants = IsTrue (list_all (λ (t : Tenant). nat_le t.first_clock last_early_clock) tenants)

abbrev IsEarlyFront : Front → Type 0
IsEarlyFront front = IsTrue (has_clocks_to last_early_clock (Some front))

last_early : (tenants : List Tenant) (tenant : Tenant) → AreEarly (tenants ++ tenant ∷ []) → AreEarly tenants × IsTrue (nat_le tenant.first_clock last_early_clock)
last_early [] tenant h = (refl, (both (nat_le tenant.first_clock last_early_clock) true h).0)
last_early (first ∷ tenants) tenant h =
    let b = both (nat_le first.first_clock last_early_clock) (list_all (λ (t : Tenant). nat_le t.first_clock last_early_clock) (tenants ++ tenant ∷ [])) h in
    let rest = last_early tenants tenant b.1 in
    (rw b.0 rest.0, rest.1)

tenant_fits_today : (tenant : Tenant) → IsTrue (is_tenant_to last_old_clock tenant) → IsTrue (nat_le tenant.first_clock last_early_clock) → IsTrue (is_tenant_to last_clock tenant)
tenant_fits_today tenant h early = grind (arith, nat_tests)

-- a line that leads here in layout 1 leads here today too, if the clocks are early; those before it are then among them
leads_today : (front : Front) (line : List ℕ) (next : Front) → FollowsTo last_old_clock front line next → IsEarlyFront next → (front_after front line ≡ Some next) × IsEarlyFront front
leads_today AtStart line next follows fine = (front_after-finds AtStart line next follows, refl)
leads_today (Within config) line next (inl joins) fine =
    let early = last_early config.tenants joins.tenant (subst IsEarlyFront joins.after fine) in
    let is = joins.said in
    let said : IsTenantLineTo last_clock line joins.tenant = record { token = is.token; spelled = is.spelled; one_word = is.one_word; parses = is.parses; within = tenant_fits_today joins.tenant is.within early.1 } in
    (front_after-finds (Within config) line next (inl (record { tenant = joins.tenant; said = said; may = joins.may; after = joins.after })), early.0)
leads_today (Within config) line next (inr ends) fine = (front_after-finds (Within config) line next (inr ends), subst IsEarlyFront ends.after fine)
leads_today (Begun config) line next follows fine = absurd follows

-- ---- a whole head

abbrev read_on : List (List ℕ) → ℕ → Option Front → HeadReading
read_on lines number found = elim found [ None ↦ BadAt number | Some next ↦ old_reading_from lines (number + 1) next ]

-- from this line on the head is whole, in both layouts, and then come these lines
record GoesWhole (lines : List (List ℕ)) (number : ℕ) (front : Front) (config : Config) (rest : List (List ℕ)) : Type 0 where
  later : ℕ
  is : migrated_from lines number front ≡ with_text (head_text config) (migrated_records rest later 0)
  today : reading_from lines number front ≡ Whole config rest
  clocks : IsEarlyFront front

pub same_whole : (one other : Config) (lines rest : List (List ℕ)) → Whole one lines ≡ Whole other rest → (one ≡ other) × (lines ≡ rest)
same_whole one other lines rest e = (let same : one ≡ other = cc in same, let same : lines ≡ rest = cc in same)

one_more : (line : List ℕ) (lines : List (List ℕ)) (number : ℕ) (front : Front) (config : Config) (rest : List (List ℕ)) → is_begun front ≡ false →
    ((next : Front) → old_reading_from lines (number + 1) next ≡ Whole config rest → GoesWhole lines (number + 1) next config rest) →
    (found : Option Front) → old_front_after front line ≡ found → read_on lines number found ≡ Whole config rest → GoesWhole (line ∷ lines) number front config rest
one_more line lines number front config rest still again None was e = absurd (let clash : ⊥ = cc in clash)
one_more line lines number front config rest still again (Some next) was e =
    let more = again next e in
    let leads = leads_today front line next (old_front_after-is front line next was) more.clocks in
    record {
      later = more.later;
      is = head_line number front line lines (Ok next) still (front_goes number front next line was true more.clocks) ∙ more.is;
      today = read_once front number line lines next still leads.0 ∙ more.today;
      clocks = leads.1;
    }

goes_whole : (lines : List (List ℕ)) (number : ℕ) (front : Front) (config : Config) (rest : List (List ℕ)) → IsEarlyFront (Begun config) → old_reading_from lines number front ≡ Whole config rest → GoesWhole lines number front config rest
goes_whole lines number (Begun found) config rest fine e =
    let same = same_whole found config lines rest e in
    record {
      later = number;
      is = λ i. with_text (head_text (same.0 i)) (migrated_records (same.1 i) number 0);
      today = e;
      clocks = subst (λ (c : Config). IsEarlyFront (Begun c)) (sym same.0) fine;
    }
goes_whole [] number AtStart config rest fine e = absurd (let clash : ⊥ = cc in clash)
goes_whole [] number (Within found) config rest fine e = absurd (let clash : ⊥ = cc in clash)
goes_whole (line ∷ lines) number AtStart config rest fine e =
    one_more line lines number AtStart config rest refl (λ next h. goes_whole lines (number + 1) next config rest fine h) (old_front_after AtStart line) refl e
goes_whole (line ∷ lines) number (Within found) config rest fine e =
    one_more line lines number (Within found) config rest refl (λ next h. goes_whole lines (number + 1) next config rest fine h) (old_front_after (Within found) line) refl e

-- ---- an audit

module _ (bytes : List ℕ) (config : Config) (lines : List (List ℕ)) (is : IsAuditInBoth bytes config lines) where
  head : GoesWhole (lines_of bytes) 1 AtStart config lines
  head = goes_whole (lines_of bytes) 1 AtStart config lines is.clocks is.head

  pub whole : migration_of bytes ≡ whole_migration config lines
  whole =
      let count : 0 + length lines ≡ length lines = omega arith in
      head.is ∙ ap (with_text (head_text config)) (records_whole lines head.later 0 is.records) ∙ ap (λ n. with_text (head_text config) (record { text = flat_map ended lines; outcome = Ok (told_number n) })) count

  pub alike : ReadsAlike bytes config lines
  alike = record { head = head.today; records = all_read lines is.records }
