use Rattle.std.proofs.Common.{◌∙◌, ap, sym}
use Rattle.std.specs.Ordering.{is_eq}
use Rattle.cops_types.proofs.PairLists.{key_eq-tie}
use Rattle.cops_types.proofs.PairPlaces.{equal_by}
use Rattle.cops_types.proofs.packed.ShortPair.has_key_of.Goals as goal

pub returns : goal.returns
returns c = equal_by c.order_to_short.result _ c.eq.ensures ∙ ap is_eq c.order_to_short.ensures ∙ sym (key_eq-tie c.args.self.now.key c.args.other.now.key)
