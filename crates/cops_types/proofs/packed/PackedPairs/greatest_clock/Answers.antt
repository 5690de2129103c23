use Rattle.std.proofs.Common.{◌≡◌, ◌∙◌, sym, arith, rules}
use Rattle.std.specs.Prelude.{max}
use Rattle.cops_types.proofs.PairPlaces.{greatest_clock-more}
use Rattle.cops_types.proofs.packed.PackedPairs.greatest_clock.Goals as goal

pub loop-place-preserved : goal.loop-place-preserved
loop-place-preserved c =
    let l = c.loop-place in
    let within = c.loop-place-test.true in
    let maxed : c.max-greatest.result ≡ max l.greatest c.clock.result = search rules in
    record {
      greatest = maxed ∙ (λ i. max (l.invariant.greatest i) (c.clock.ensures.value i)) ∙ sym (greatest_clock-more c.args.self.now l.place c.version.result (omega (arith, within, c.len-place-end.ensures)) c.version.ensures);
      fits = omega (arith, maxed, l.invariant.fits, c.clock.ensures.fits);
    }
