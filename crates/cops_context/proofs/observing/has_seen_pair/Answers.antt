use Rattle.std.proofs.Common.{◌≡◌, Bool, true, false, not, refl, sym, ◌∙◌}
use Rattle.cops_types.specs.declared.pairs.Pair.{Pair}
use Rattle.cops_context.proofs.Rules.{StandFor-seen}
use Rattle.cops_context.proofs.observing.has_seen_pair.Goals as goal

untrue : (b : Bool) → not b ≡ true → b ≡ false
untrue true h = absurd cc
untrue false h = refl

pub returns : goal.returns
returns c = λ is obs stand.
    let pair : Pair = record { key = c.args.key.now; version = c.args.version } in
    StandFor-seen c.args.all.now.pairs c.args.near.now.pairs obs pair c.args.deps.now
    (sym c.has_version.ensures.known ∙ c.if-not-has_version.false)
    (c.has_version.ensures.same c.if-not-has_version.false)
    (c.has_all.ensures c.if-not-has_all.false)
    (sym c.has_held.ensures ∙ untrue c.has_held.result is)
    stand
