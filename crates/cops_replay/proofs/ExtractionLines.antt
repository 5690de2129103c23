-- What the extraction of a part comes to over a whole file.
use Rattle.cops_replay.proofs.Names.{◌≡◌, ℕ, ◌≤◌, Bool, true, false, cond, List, [], ◌∷◌, ◌++◌, length, map, inl, inr, refl, sym, subst, ap, ◌∙◌, append_assoc, arith, Option, Some, None, IfSome, flat_map, ⊤, bytes_eq, Keeps, flat_map-append, filter-append, nat_tests, AtStart, lines_of, cut_line, first_word, RunFault, Run, AnswersAll, IfRunRefused, StopsEarly, AppendsFront-more, AuditMachine, Layout, Early, PartRefusal, IsAtHead, audit_rules, ended, IsPartBy, IsPartOf, RefusesPartBy, RefusesPartOf, layout_lines, lone_head_lines, alone_lines, longest_record, seen_lines, map-append, PartOf, BadConfig, UnknownTenant, part_lines, part_rules, WritesPart, WritesPartFront}
use Rattle.cops_script.specs.declared.line_runs.fault.RunFault.TheVariants as fault
use Rattle.cops_replay.proofs.AuditHeads.{short_in}
use Rattle.cops_replay.proofs.FileRuns as runs
use Rattle.cops_replay.proofs.RecordRuns.{same_own}

-- ---- the tenant's lines

module _ (name : List ℕ) where
  own_seen : (line : List ℕ) (lines : List (List ℕ)) (own : Bool) → bytes_eq (first_word line) name ≡ own → cond own (ended (cut_line longest_record line)) [] ++ flat_map ended (seen_lines name lines) ≡ flat_map ended (seen_lines name (line ∷ lines))
  own_seen line lines true e = ap (λ b. flat_map ended (map (cut_line longest_record) (cond b (line ∷ alone_lines name lines) (alone_lines name lines)))) (sym e)
  own_seen line lines false e = ap (λ b. flat_map ended (map (cut_line longest_record) (cond b (line ∷ alone_lines name lines) (alone_lines name lines)))) (sym e)

  written : length name ≤ 16 → (lines : List (List ℕ)) (old : ⊤) (text : List ℕ) (new : ⊤) → Run (part_lines name) old (map (cut_line longest_record) lines) text new → text ≡ flat_map ended (seen_lines name lines)
  written short [] old text new h = h.0
  written short (line ∷ lines) old text new (first, mid, later, answered, run, whole) =
      let own : first ≡ cond (bytes_eq (first_word line) name) (ended (cut_line longest_record line)) [] = answered ∙ ap (λ b. cond b (ended (cut_line longest_record line)) []) (same_own name line short) in
      whole ∙ (λ i. own i ++ written short lines mid later new run i) ∙ own_seen line lines (bytes_eq (first_word line) name) refl

  seen_append : (lines more : List (List ℕ)) → flat_map ended (seen_lines name lines) ++ flat_map ended (seen_lines name more) ≡ flat_map ended (seen_lines name (lines ++ more))
  seen_append lines more = grind (arith, nat_tests, filter-append, flat_map-append, map-append)

-- ---- a file

module _ (body : PartOf) where
  -- the text so far and the lines that follow are the part
  part_with : (bytes : List ℕ) (others : List (List ℕ)) (text : List ℕ) (state : ⊤) → runs.Behind part_rules body bytes others text state → IsPartOf body.name bytes (text ++ flat_map ended (seen_lines body.name others))
  part_with bytes others text state p = by_start p.starts
    where
      by_start : part_rules.starts body p.layout p.config p.head_text p.first → IsPartOf body.name bytes (text ++ flat_map ended (seen_lines body.name others))
      by_start (slot, tenant, there, tenant_is, head_is) =
          let head = flat_map ended (layout_lines p.layout ++ lone_head_lines p.config tenant) in
          let more_is = written body.name (short_in p.config body.name slot p.named there) p.records p.first p.more state p.run in
          subst (λ (l : Layout). IsPartBy l body.name (lines_of bytes) (text ++ flat_map ended (seen_lines body.name others))) (sym p.layout_is) (record {
            audit = record { config = p.config; records = p.records ++ others; slot = slot; tenant = tenant; head = p.head; there = there; tenant_is = tenant_is };
            text_is = (λ i. (p.text_is ∙ (λ j. head_is j ++ more_is j)) i ++ flat_map ended (seen_lines body.name others))
                ∙ append_assoc head (flat_map ended (seen_lines body.name p.records)) (flat_map ended (seen_lines body.name others)) ∙ ap (λ t. head ++ t) (seen_append body.name p.records others);
          })

  extracted : (bytes text last : List ℕ) → runs.Ended part_rules body bytes text last → IsPartOf body.name bytes (text ++ last)
  extracted bytes text last e = subst (λ l. IsPartOf body.name bytes (text ++ l)) (sym e.ended) (part_with bytes [] text e.state e.behind)

  refused : (bytes : List ℕ) (refusal : PartRefusal) → runs.RefusedBy part_rules body bytes refusal → RefusesPartOf body.name bytes refusal
  refused bytes refusal (runs.BadHead layout bad told is head) =
      subst (RefusesPartOf body.name bytes) (sym is) (subst (λ (l : Layout). RefusesPartBy l body.name (lines_of bytes) (BadConfig bad)) (sym told) head)
  refused bytes refusal (runs.NotBegun layout config records told head (is, none)) =
      subst (RefusesPartOf body.name bytes) (sym is) (subst (λ (l : Layout). RefusesPartBy l body.name (lines_of bytes) UnknownTenant) (sym told) (config, records, head, none))
  refused bytes refusal (runs.AtLine text state line others p h) = absurd h
  refused bytes refusal (runs.AtEnd text state p h) = absurd h

module _ (name : List ℕ) (old_contents new_contents new_remaining : Option (List ℕ)) (begins : AuditMachine PartOf ⊤) (named : begins.body.name ≡ name) (begun : IsAtHead Early AtStart 0 begins.file) where
  pub all_extracted : (new : AuditMachine PartOf ⊤) (known : Option (List ℕ)) → AnswersAll (audit_rules part_rules) longest_record known new_remaining begins new old_contents new_contents → IfSome known (λ bytes. WritesPart name bytes old_contents new_contents)
  all_extracted new None p = tt
  all_extracted new (Some bytes) p =
      let ended = runs.all_answered part_rules begins.body old_contents new_contents new_remaining begins refl begun bytes new p in
      (p.text ++ p.last, subst (λ n. IsPartOf n bytes (p.text ++ p.last)) named (extracted begins.body bytes p.text p.last ended), p.written)

  front_is : (bytes : List ℕ) → runs.IsFront part_rules begins.body old_contents new_contents new_remaining begins refl begun bytes → WritesPartFront name bytes old_contents new_contents
  front_is bytes (runs.Nothing same) = inl same
  front_is bytes (runs.OfLines others text state p written) =
      let rest = flat_map ended (seen_lines begins.body.name others) in
      inr (text ++ rest, subst (λ n. IsPartOf n bytes (text ++ rest)) named (part_with begins.body bytes others text state p), AppendsFront-more old_contents new_contents text rest written)
  front_is bytes (runs.OfAll text last ended written) = inr (text ++ last, subst (λ n. IsPartOf n bytes (text ++ last)) named (extracted begins.body bytes text last ended), written)

  pub front_extracted : (known : Option (List ℕ)) (why : RunFault PartRefusal) → StopsEarly (audit_rules part_rules) longest_record known new_remaining begins old_contents new_contents why → IfSome known (λ bytes. WritesPartFront name bytes old_contents new_contents)
  front_extracted None why p = tt
  front_extracted (Some bytes) why p = front_is bytes (runs.front_answered part_rules begins.body old_contents new_contents new_remaining begins refl begun bytes why p)

  pub no_part : (known : Option (List ℕ)) (why : RunFault PartRefusal) → StopsEarly (audit_rules part_rules) longest_record known new_remaining begins old_contents new_contents why →
      IfRunRefused why (λ refusal. IfSome known (λ bytes. RefusesPartOf name bytes refusal))
  no_part None (fault.Refused refusal) p = tt
  no_part (Some bytes) (fault.Refused refusal) p =
      subst (λ n. RefusesPartOf n bytes refusal) named (refused begins.body bytes refusal (runs.refused_in part_rules begins.body old_contents new_contents new_remaining begins refl begun bytes refusal p))
  no_part known why p = tt

pub nothing_written : (old_contents new_contents new_remaining : Option (List ℕ)) (begins : AuditMachine PartOf ⊤) (known : Option (List ℕ)) (why : RunFault PartRefusal) →
    StopsEarly (audit_rules part_rules) longest_record known new_remaining begins old_contents new_contents why → IfRunRefused why (λ refusal. Keeps old_contents new_contents)
nothing_written = runs.nothing_written part_rules (λ state. ⊥) (λ b layout config text state starts quiet. absurd quiet) (λ b old line text new answered quiet. absurd quiet) (λ b state line refusal h. absurd h) (λ b state refusal h. absurd h)

-- nothing was done
pub nothing_extracted : (name : List ℕ) (known contents : Option (List ℕ)) → IfSome known (λ bytes. WritesPartFront name bytes contents contents)
nothing_extracted name None contents = tt
nothing_extracted name (Some bytes) contents = inl (runs.kept contents)
