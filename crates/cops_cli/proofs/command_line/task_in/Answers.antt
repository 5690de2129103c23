use Rattle.std.proofs.Common.{rules, ◌≡◌, ◌∙◌, inl, inr, ap, List, codes, Option, Some, option_map, sym}
use Rattle.clap.specs.Matches.{found_of, subcommand_name_of}
use Rattle.clap.specs.Walk.{rows_of}
use Rattle.clap.specs.Words.{Row, Text, subcommand_of}
use Rattle.cops_cli.specs.CommandLine.{cops}
use Rattle.cops_cli.proofs.CommandLineFacts.{false_is_true, is_found, name_in, named_with_given, named_with_tenant, serve_is_named, subcommands}
use Rattle.cops_cli.proofs.command_line.task_in.Goals as goal

pub returns-in-Some : goal.returns-in-Some
returns-in-Some c = λ texts found passes.
    let m = c.args.matches.now in
    let named : subcommand_name_of m ≡ Some (codes "solo") = search rules in
    let rows = rows_of (found_of c.in-Some.solo.now) in
    named_with_tenant (codes "solo") (subcommand_of cops texts) rows (ap (option_map (λ (p : Text × List Row). p.0)) (sym found) ∙ sym (name_in m) ∙ named)
    (ap (option_map (λ (p : Text × List Row). p.1)) (sym found) ∙ c.in-Some.ensures.rows)
    ∙ ap (λ (t : Text). Some (codes "solo", t)) (sym c.tenant_in-tenant.ensures)

pub returns-in-Some-subcommand_matches : goal.returns-in-Some-subcommand_matches
returns-in-Some-subcommand_matches c = λ texts found passes.
    let m = c.args.matches.now in
    let named : subcommand_name_of m ≡ Some (codes "replay") = search rules in
    let rows = rows_of (found_of c.in-Some-subcommand_matches.replay.now) in
    named_with_tenant (codes "replay") (subcommand_of cops texts) rows (ap (option_map (λ (p : Text × List Row). p.0)) (sym found) ∙ sym (name_in m) ∙ named)
    (ap (option_map (λ (p : Text × List Row). p.1)) (sym found) ∙ c.in-Some-subcommand_matches.ensures.rows)
    ∙ ap (λ (t : Text). Some (codes "replay", t)) (sym c.tenant_in-named.ensures)

pub returns-in-Some-subcommand_matches-2 : goal.returns-in-Some-subcommand_matches-2
returns-in-Some-subcommand_matches-2 c = λ texts found passes.
    let m = c.args.matches.now in
    let named : subcommand_name_of m ≡ Some (codes "extract") = search rules in
    let rows = rows_of (found_of c.in-Some-subcommand_matches-2.extract.now) in
    named_with_tenant (codes "extract") (subcommand_of cops texts) rows (ap (option_map (λ (p : Text × List Row). p.0)) (sym found) ∙ sym (name_in m) ∙ named)
    (ap (option_map (λ (p : Text × List Row). p.1)) (sym found) ∙ c.in-Some-subcommand_matches-2.ensures.rows)
    ∙ ap (λ (t : Text). Some (codes "extract", t)) (sym c.tenant_in-owner.ensures)

pub returns-in-Some-subcommand_matches-3 : goal.returns-in-Some-subcommand_matches-3
returns-in-Some-subcommand_matches-3 c = λ texts found passes.
    let m = c.args.matches.now in
    let named : subcommand_name_of m ≡ Some (codes "serve") = search rules in
    let rows = rows_of (found_of c.in-Some-subcommand_matches-3.serve.now) in
    record {
      rows = rows;
      named = serve_is_named (subcommand_of cops texts) rows (ap (option_map (λ (p : Text × List Row). p.0)) (sym found) ∙ sym (name_in m) ∙ named)
          (ap (option_map (λ (p : Text × List Row). p.1)) (sym found) ∙ c.in-Some-subcommand_matches-3.ensures.rows);
      is = c.service_in.ensures;
    }

pub returns-in-Some-subcommand_matches-4 : goal.returns-in-Some-subcommand_matches-4
returns-in-Some-subcommand_matches-4 c = λ texts found passes.
    let m = c.args.matches.now in
    let named : subcommand_name_of m ≡ Some (codes "migrate") = search rules in
    ap (option_map (λ (p : Text × List Row). p.0)) (sym found) ∙ sym (name_in m) ∙ named

pub returns-in-Some-subcommand_matches-5 : goal.returns-in-Some-subcommand_matches-5
returns-in-Some-subcommand_matches-5 c = λ texts found passes.
    let m = c.args.matches.now in
    let named : subcommand_name_of m ≡ Some (codes "audit") = search rules in
    let rows = rows_of (found_of c.in-Some-subcommand_matches-5.audit.now) in
    named_with_given (codes "audit") (subcommand_of cops texts) rows (ap (option_map (λ (p : Text × List Row). p.0)) (sym found) ∙ sym (name_in m) ∙ named)
    (ap (option_map (λ (p : Text × List Row). p.1)) (sym found) ∙ c.in-Some-subcommand_matches-5.ensures.rows)
    ∙ ap (λ (t : Option Text). Some (codes "audit", t)) (sym c.given_tenant_in.ensures)

pub returns-in-None : goal.returns-in-None
returns-in-None c = λ texts found passes.
    let m = c.args.matches.now in
    let its = name_in m ∙ ap (option_map (λ (p : Text × List Row). p.0)) found in
    elim (subcommands texts) [
      | inl none ↦ absurd (is_found texts passes none)
      | inr some ↦ elim some [
        | inl run ↦ run
        | inr more ↦ elim more [
          | inl solo ↦ absurd (false_is_true (c.in_default.ensures.found.1 (its ∙ solo)))
          | inr others ↦ elim others [
            | inl audit ↦ absurd (false_is_true (c.in-None.ensures.found.1 (its ∙ audit)))
            | inr last ↦ elim last [
              | inl replay ↦ absurd (false_is_true (c.in_default-subcommand_matches.ensures.found.1 (its ∙ replay)))
              | inr rest ↦ elim rest [
                | inl extract ↦ absurd (false_is_true (c.in_default-subcommand_matches-2.ensures.found.1 (its ∙ extract)))
                | inr least ↦ elim least [
                  | inl migrate ↦ absurd (false_is_true (c.in_default-subcommand_matches-4.ensures.found.1 (its ∙ migrate)))
                  | inr serve ↦ absurd (false_is_true (c.in_default-subcommand_matches-3.ensures.found.1 (its ∙ serve)))
                ]
              ]
            ]
          ]
        ]
      ]
    ]
