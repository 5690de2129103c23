-- What the rules of a migration come to over a whole text.
use Rattle.cops_replay.proofs.Names.{◌≡◌, ℕ, ◌+◌, ◌≤◌, Bool, true, false, cond, List, [], ◌∷◌, ◌++◌, length, map, inl, inr, refl, sym, subst, ap, ◌∙◌, append_assoc, append-nil, arith, Option, Some, None, IfSome, IsTrue, nat_le, Result, Ok, Err, Appends, nat_tests, take_all, Config, Fault, Syntax, RunFault, counted, Front, AtStart, Begun, is_begun, Run, AnswersAll, IfRunRefused, StopsEarly, lines_of, cut_line, cut_lines, has_clocks_to, old_front_after, last_old_clock, AppendsFront, AppendsFront-more, input_is, known_lines, known_whole, real_lines, ended, migrated_from, migrated_records, migration_of, record_fault, with_text, part_answers, last_early_clock, old_refusal_of, longest_record, told_number, Early, OldAudit, OldPart, MigrationRefusal, BadLine, Migration, bad_config_at, bad_line_at, ends_by, migrated_front, OldHeadIsRefused, RecordRefuses, migration_answers, migration_end_refuses, migration_refuses, migration_rules, part_ends, part_refuses, records_in}
use Rattle.cops_types.specs.declared.faults.Fault.TheVariants.{ClockTooGreat}
use Rattle.cops_replay.specs.declared.migrations.OldPart.TheVariants.{Head, Records}
use Rattle.cops_replay.specs.declared.migrations.MigrationRefusal.TheVariants.{BadConfig}
use Rattle.cops_script.specs.declared.line_runs.fault.RunFault.TheVariants as fault
use Rattle.cops_replay.proofs.AuditHeads.{cut_in_head}
use Rattle.cops_replay.proofs.OldFronts.{FollowsTo, old_front_after-is}
use Rattle.cops_replay.proofs.RecordRuns.{capped_more, same_cut}

-- ---- lines, as they are cut

-- a line that is too long is none, cut or not
fault_cut : (line : List ℕ) → record_fault (cut_line longest_record line) ≡ record_fault line
fault_cut line = same_cut {A = Option Fault} (λ b l. cond b (old_refusal_of l) (Some Syntax)) (Some Syntax) (λ l. refl) line

-- a line that is moved isn't cut
moved_whole : (line : List ℕ) → record_fault line ≡ None → cut_line longest_record line ≡ line
moved_whole line fine = by_length (nat_le (length line) longest_record) refl
  where
    by_length : (t : Bool) → nat_le (length line) longest_record ≡ t → cut_line longest_record line ≡ line
    by_length true is = let short : length line ≤ longest_record + 1 = grind (arith, nat_tests) in take_all (longest_record + 1) line short
    by_length false is = let wrong : Some Syntax ≡ None = sym (ap (λ b. cond b (old_refusal_of line) (Some Syntax)) is) ∙ fine in absurd (let clash : ⊥ = cc in clash)

-- ---- where a migration stands

-- in the head, with so many lines, or after so many lines and records
data Reached : Type 0 where
  InHead : Front → ℕ → Reached
  InRecords : ℕ → ℕ → Reached

-- what is left to do
abbrev left_of : Reached → List (List ℕ) → Migration
left_of (InHead front lines) later = migrated_from later (lines + 1) front
left_of (InRecords lines count) later = migrated_records later (lines + 1) count

abbrev IsAt : Reached → OldPart → ℕ → Type 0
IsAt (InHead front lines) part number = (part ≡ Head (Some front)) × (number ≡ told_number lines) × (is_begun front ≡ false) × IsTrue (has_clocks_to last_early_clock (Some front))
IsAt (InRecords lines count) part number = (part ≡ Records (told_number count)) × (number ≡ told_number lines)

abbrev HasReached : Reached → OldAudit → Type 0
HasReached reached audit = IsAt reached audit.part audit.lines

-- ---- one line of the head

-- the line of a head after which it is whole
begun_clocks : (front : Front) (line : List ℕ) (config : Config) → FollowsTo last_old_clock front line (Begun config) → IsTrue (has_clocks_to last_early_clock (Some front)) → IsTrue (has_clocks_to last_early_clock (Some (Begun config)))
begun_clocks front line config h3 h4 = grind (arith, nat_tests)

-- what the line of this number leads to
pub front_goes : (number : ℕ) (front next : Front) (line : List ℕ) → old_front_after front line ≡ Some next → (t : Bool) → has_clocks_to last_early_clock (Some next) ≡ t → migrated_front number front line ≡ cond t (Ok next) (Err (bad_line_at number ClockTooGreat))
front_goes number front next line e t clocks = grind (arith, nat_tests)

front_stops : (number : ℕ) (front : Front) (line : List ℕ) → old_front_after front line ≡ None → migrated_front number front line ≡ Err (bad_config_at number)
front_stops number front line e = grind (arith, nat_tests)

-- what is left to do with the line of this number, by what it leads to
pub head_line : (number : ℕ) (front : Front) (line : List ℕ) (later : List (List ℕ)) (found : Result Front MigrationRefusal) → is_begun front ≡ false → migrated_front number front line ≡ found →
    migrated_from (line ∷ later) number front ≡ elim found [ Err refusal ↦ ends_by (Err refusal) | Ok next ↦ migrated_from later (number + 1) next ]
head_line number front line later found h5 h6 = grind (arith, nat_tests)

-- ---- one line

with_both : (one other : List ℕ) (rest : Migration) → with_text one (with_text other rest) ≡ with_text (one ++ other) rest
with_both one other rest = ap (λ text. record { text = text; outcome = rest.outcome }) (sym (append_assoc one other rest.text))

-- with these lines it has come so far, and this is written
record Ran (old : Reached) (lines : List (List ℕ)) (text : List ℕ) (audit : OldAudit) : Type 0 where
  next : Reached
  there : HasReached next audit
  goes : (later : List (List ℕ)) → left_of old (lines ++ later) ≡ with_text text (left_of next later)

step_in_head : (front : Front) (n : ℕ) (line text : List ℕ) (old new : OldAudit) → HasReached (InHead front n) old → new.lines ≡ counted old.lines → (part : OldPart) → new.part ≡ part → part_answers (Head (Some front)) (cut_line longest_record line) text part → Ran (InHead front n) (line ∷ []) text new
step_in_head front n line text old new (at, count, still, fine) lines (Head reader) is (g, silent) =
    let found : old_front_after front line ≡ Some g.next = sym (cut_in_head Early front line) ∙ g.found in
    record {
      next = InHead g.next (n + 1);
      there = (is ∙ ap Head g.kept, lines ∙ ap counted count ∙ capped_more n, g.still, g.clocks);
      goes = λ later.
          head_line (n + 1) front line later (Ok g.next) still (front_goes (n + 1) front g.next line found true g.clocks)
          ∙ ap (λ t. with_text t (migrated_from later (n + 1 + 1) g.next)) (sym silent);
    }
step_in_head front n line text old new (at, count, still, fine) lines (Records k) is (config, ends, text_is, none) =
    let found : old_front_after front line ≡ Some (Begun config) = sym (cut_in_head Early front line) ∙ ends in
    let clocks = begun_clocks front line config (old_front_after-is front line (Begun config) found) fine in
    let zeroth : 0 ≡ told_number 0 = omega arith in
    record {
      next = InRecords (n + 1) 0;
      there = (is ∙ ap Records (none ∙ zeroth), lines ∙ ap counted count ∙ capped_more n);
      goes = λ later.
          head_line (n + 1) front line later (Ok (Begun config)) still (front_goes (n + 1) front (Begun config) line found true clocks)
          ∙ ap (λ t. with_text t (migrated_records later (n + 1 + 1) 0)) (sym text_is);
    }

-- what is left to do with the line of this number after the head
pub record_line_left : (number count : ℕ) (line : List ℕ) (later : List (List ℕ)) (found : Option Fault) → record_fault line ≡ found →
    migrated_records (line ∷ later) number count ≡ elim found [ Some fault ↦ ends_by (Err (bad_line_at number fault)) | None ↦ with_text (ended line) (migrated_records later (number + 1) (count + 1)) ]
record_line_left number count line later found e =
    ap (λ (f : Option Fault). elim f [ Some fault ↦ ends_by (Err (bad_line_at number fault)) | None ↦ with_text (ended line) (migrated_records later (number + 1) (count + 1)) ]) e

step_in_records : (n k : ℕ) (line text : List ℕ) (old new : OldAudit) → HasReached (InRecords n k) old → new.lines ≡ counted old.lines → part_answers (Records (told_number k)) (cut_line longest_record line) text new.part → Ran (InRecords n k) (line ∷ []) text new
step_in_records n k line text old new (at, count) lines (moved, text_is, part_is) =
    let fine : record_fault line ≡ None = sym (fault_cut line) ∙ moved in
    record {
      next = InRecords (n + 1) (k + 1);
      there = (part_is ∙ ap Records (capped_more k), lines ∙ ap counted count ∙ capped_more n);
      goes = λ later.
          record_line_left (n + 1) k line later None fine
          ∙ ap (λ t. with_text t (migrated_records later (n + 1 + 1) (k + 1))) (sym (text_is ∙ ap ended (moved_whole line fine)));
    }

step : (reached : Reached) (line text : List ℕ) (old new : OldAudit) → HasReached reached old → migration_answers old (cut_line longest_record line) text new → Ran reached (line ∷ []) text new
step (InHead front n) line text old new there (lines, answers) =
    step_in_head front n line text old new there lines new.part refl (subst (λ (p : OldPart). part_answers p (cut_line longest_record line) text new.part) there.0 answers)
step (InRecords n k) line text old new there (lines, answers) =
    step_in_records n k line text old new there lines (subst (λ (p : OldPart). part_answers p (cut_line longest_record line) text new.part) there.0 answers)

-- ---- a refusal

refused_line : (reached : Reached) (line : List ℕ) (later : List (List ℕ)) (audit : OldAudit) (refusal : MigrationRefusal) → HasReached reached audit → migration_refuses audit (cut_line longest_record line) refusal → left_of reached (line ∷ later) ≡ ends_by (Err refusal)
refused_line (InHead front n) line later audit refusal (at, count, still, fine) refuses =
    by_refusal refusal (subst (λ (p : OldPart). part_refuses p (cut_line longest_record line) (counted audit.lines) refusal) at refuses)
  where
    by_refusal : (refusal : MigrationRefusal) → OldHeadIsRefused (Some front) (cut_line longest_record line) (counted audit.lines) refusal → migrated_from (line ∷ later) (n + 1) front ≡ ends_by (Err refusal)
    by_refusal (BadConfig bad) (none, number) =
        head_line (n + 1) front line later (Err (bad_config_at (n + 1))) still (front_stops (n + 1) front line (sym (cut_in_head Early front line) ∙ none))
        ∙ ap (λ k. ends_by (Err (BadConfig (record { line = k })))) (sym (number ∙ ap counted count ∙ capped_more n))
    by_refusal (BadLine bad) (next, found, great, number, fault_is) =
        head_line (n + 1) front line later (Err (bad_line_at (n + 1) ClockTooGreat)) still (front_goes (n + 1) front next line (sym (cut_in_head Early front line) ∙ found) false great)
        ∙ (λ i. ends_by (Err (BadLine (record { line = sym (number ∙ ap counted count ∙ capped_more n) i; fault = sym fault_is i }))))
refused_line (InRecords n k) line later audit refusal (at, count) refuses =
    by_refusal refusal (subst (λ (p : OldPart). part_refuses p (cut_line longest_record line) (counted audit.lines) refusal) at refuses)
  where
    by_refusal : (refusal : MigrationRefusal) → RecordRefuses (cut_line longest_record line) (counted audit.lines) refusal → migrated_records (line ∷ later) (n + 1) k ≡ ends_by (Err refusal)
    by_refusal (BadConfig bad) refuses = absurd refuses
    by_refusal (BadLine bad) (found, number) =
        record_line_left (n + 1) k line later (Some bad.fault) (sym (fault_cut line) ∙ found)
        ∙ (λ i. ends_by (Err (BadLine (record { line = sym (number ∙ ap counted count ∙ capped_more n) i; fault = bad.fault }))))

-- the end of the records
ended_well : (reached : Reached) (audit : OldAudit) → HasReached reached audit → part_ends audit.part → left_of reached [] ≡ ends_by (Ok (records_in audit.part))
ended_well (InHead front n) audit (at, count, still, fine) ends = absurd (subst part_ends at ends)
ended_well (InRecords n k) audit (at, count) ends = ap (λ (p : OldPart). ends_by (Ok (records_in p))) (sym at)

-- ---- runs

runs : (lines : List (List ℕ)) (reached : Reached) (old : OldAudit) (text : List ℕ) (new : OldAudit) → HasReached reached old → Run migration_rules old (map (cut_line longest_record) lines) text new → Ran reached lines text new
runs [] reached old text new there (silent, same) = record {
  next = reached;
  there = subst (HasReached reached) (sym same) there;
  goes = λ later. ap (λ t. with_text t (left_of reached later)) (sym silent);
}
runs (line ∷ lines) reached old text new there (first, mid, rest, answered, run, whole) =
    let one = step reached line first old mid there answered in
    let more = runs lines one.next mid rest new one.there run in
    record {
      next = more.next;
      there = more.there;
      goes = λ later.
          one.goes (lines ++ later)
          ∙ ap (with_text first) (more.goes later)
          ∙ with_both first rest (left_of more.next later)
          ∙ ap (λ t. with_text t (left_of more.next later)) (sym whole);
    }

module _ (old_contents new_contents new_remaining : Option (List ℕ)) (begins : OldAudit) (part : begins.part ≡ Head (Some AtStart)) (lines : begins.lines ≡ 0) where
  begun : HasReached (InHead AtStart 0) begins
  begun = (part, lines ∙ omega arith, refl, refl)

  -- ---- all is read

  migrated : (bytes : List ℕ) (new : OldAudit) (p : AnswersAll migration_rules longest_record (Some bytes) new_remaining begins new old_contents new_contents) → migration_of bytes ≡ with_text p.text (ends_by (Ok (records_in new.part)))
  migrated bytes new p =
      let ran = runs (lines_of p.input) (InHead AtStart 0) begins p.text p.machine begun p.run in
      ap migration_of (input_is bytes p.input new_remaining p.read p.at_end)
      ∙ ap (λ ls. migrated_from ls 1 AtStart) (sym (append-nil (lines_of p.input)))
      ∙ ran.goes []
      ∙ ap (with_text p.text) (ended_well ran.next p.machine ran.there p.ended.0 ∙ ap (λ (a : OldAudit). ends_by (Ok (records_in a.part))) (sym p.ended.2))

  pub outcome_told : (new : OldAudit) (count : ℕ) (known : Option (List ℕ)) → count ≡ records_in new.part → AnswersAll migration_rules longest_record known new_remaining begins new old_contents new_contents → IfSome known (λ bytes. (migration_of bytes).outcome ≡ Ok count)
  outcome_told new count None is p = tt
  outcome_told new count (Some bytes) is p = ap (λ (m : Migration). m.outcome) (migrated bytes new p) ∙ ap Ok (sym is)

  pub text_written : (new : OldAudit) (known : Option (List ℕ)) → AnswersAll migration_rules longest_record known new_remaining begins new old_contents new_contents → IfSome known (λ bytes. Appends old_contents new_contents (migration_of bytes).text)
  text_written new None p = tt
  text_written new (Some bytes) p =
      subst (Appends old_contents new_contents) (ap (λ l. p.text ++ l) p.ended.1 ∙ sym (ap (λ (m : Migration). m.text) (migrated bytes new p))) p.written

  -- ---- ends before the end

  record Stopped (bytes : List ℕ) (others : List (List ℕ)) (text : List ℕ) (audit : OldAudit) : Type 0 where
    rest : List (List ℕ)
    others_are : others ≡ map (cut_line longest_record) rest
    reached : Reached
    there : HasReached reached audit
    is : migration_of bytes ≡ with_text text (left_of reached rest)

  stopped : (bytes : List ℕ) (lines others : List (List ℕ)) (text : List ℕ) (audit : OldAudit) → cut_lines longest_record bytes ≡ lines ++ others → Run migration_rules begins lines text audit → Stopped bytes others text audit
  stopped bytes lines others text audit e run =
      let real = real_lines longest_record (lines_of bytes) lines others e in
      let ran = runs real.0 (InHead AtStart 0) begins text audit begun (subst (λ ls. Run migration_rules begins ls text audit) real.3 run) in
      record {
        rest = real.1;
        others_are = real.4;
        reached = ran.next;
        there = ran.there;
        is = ap (λ ls. migrated_from ls 1 AtStart) real.2 ∙ ran.goes real.1;
      }

  pub front_written : (known : Option (List ℕ)) (why : RunFault MigrationRefusal) → StopsEarly migration_rules longest_record known new_remaining begins old_contents new_contents why → IfSome known (λ bytes. AppendsFront old_contents new_contents (migration_of bytes).text)
  front_written None why p = tt
  front_written (Some bytes) why p =
      let found = known_lines longest_record bytes p.input new_remaining p.lines p.read p.first in
      let s = stopped bytes p.lines found.0 p.text p.machine found.1 p.run in
      let silent : p.last ≡ [] = elim p.ended [ inl e ↦ e | inr (whole, new, ended) ↦ ended.1 ] in
      let so_far = subst (AppendsFront old_contents new_contents) (ap (λ l. p.text ++ l) silent ∙ append-nil p.text) p.written in
      subst (AppendsFront old_contents new_contents) (sym (ap (λ (m : Migration). m.text) s.is)) (AppendsFront-more old_contents new_contents p.text (left_of s.reached s.rest).text so_far)

  at_line : (bytes line : List ℕ) (others : List (List ℕ)) (text : List ℕ) (audit : OldAudit) (refusal : MigrationRefusal) → migration_refuses audit line refusal → Stopped bytes (line ∷ others) text audit → (migration_of bytes).outcome ≡ Err refusal
  at_line bytes line others text audit refusal refuses s = by_rest s.rest s.others_are s.is
    where
      by_rest : (rest : List (List ℕ)) → line ∷ others ≡ map (cut_line longest_record) rest → migration_of bytes ≡ with_text text (left_of s.reached rest) → (migration_of bytes).outcome ≡ Err refusal
      by_rest [] alike is = absurd (let clash : ⊥ = cc in clash)
      by_rest (real ∷ rest) alike is =
          let cut : line ≡ cut_line longest_record real = cc in
          ap (λ (m : Migration). m.outcome) (is ∙ ap (with_text text) (refused_line s.reached real rest audit refusal s.there (subst (λ l. migration_refuses audit l refusal) cut refuses)))

  at_end : (bytes text : List ℕ) (audit : OldAudit) (refusal : MigrationRefusal) → migration_end_refuses audit refusal → Stopped bytes [] text audit → (migration_of bytes).outcome ≡ Err refusal
  at_end bytes text audit refusal refuses s = grind (arith, nat_tests)

  refusal_is : (bytes : List ℕ) (refusal : MigrationRefusal) → StopsEarly migration_rules longest_record (Some bytes) new_remaining begins old_contents new_contents (fault.Refused refusal) → (migration_of bytes).outcome ≡ Err refusal
  refusal_is bytes refusal p = elim p.refused.1 [
    | inl (line, first, refuses) ↦
        let found = known_lines longest_record bytes p.input new_remaining (p.lines ++ line ∷ []) p.read first in
        at_line bytes line found.0 p.text p.machine refusal refuses (stopped bytes p.lines (line ∷ found.0) p.text p.machine (found.1 ∙ append_assoc p.lines (line ∷ []) found.0) p.run)
    | inr (whole, refuses) ↦
        let found = known_whole longest_record bytes p.input new_remaining p.lines p.read whole in
        at_end bytes p.text p.machine refusal refuses (stopped bytes p.lines [] p.text p.machine (found ∙ sym (append-nil p.lines)) p.run)
  ]

  pub refusal_told : (known : Option (List ℕ)) (why : RunFault MigrationRefusal) → StopsEarly migration_rules longest_record known new_remaining begins old_contents new_contents why →
      IfRunRefused why (λ refusal. IfSome known (λ bytes. (migration_of bytes).outcome ≡ Err refusal))
  refusal_told None (fault.Refused refusal) p = tt
  refusal_told (Some bytes) (fault.Refused refusal) p = refusal_is bytes refusal p
  refusal_told known why p = tt
