use Rattle.std.proofs.Common.{arith, ap, ◌∙◌, ◌++◌, take}
use Rattle.cops_wire.specs.Spelling.{spelled_key}
use Rattle.cops_wire.proofs.PlacedLemmas.{front_kept, one_more_placed}
use Rattle.cops_wire.proofs.placed.put_keys.Goals as goal

pub loop-key-preserved : goal.loop-key-preserved
loop-key-preserved c =
    let l = c.loop-key in record {
      text = one_more_placed spelled_key c.args.keys.now l.key-index c.key-item.result _ _ _ (omega arith) c.key-item.is l.invariant.text
          (c.put_key-end.ensures.text ∙ ap (λ key. take l.end l.bytes ++ spelled_key key) c.as_slice-key.ensures);
      low = omega arith;
      high = omega arith;
      front = front_kept c.args.at l.end c.put_key-end.result l.bytes c.put_key-end.new.bytes _ l.invariant.low (omega arith) l.invariant.high c.put_key-end.ensures.text ∙ l.invariant.front;
    }
