use Rattle.cops_replay.proofs.Names.{◌∙◌, ap, parts_at, parts-last, parts-more}
use Rattle.cops_replay.proofs.PartLemmas.{lacks_all}
use Rattle.cops_replay.proofs.said.split_part.Goals as goal

pub returns-in-Some : goal.returns-in-Some
returns-in-Some c =
    let parts = c.in-Some.ensures.some in
    ap (parts_at c.args.separator) parts.1 ∙ parts-more c.args.separator c.in-Some.part.now c.in-Some.rest.now (lacks_all c.args.separator c.in-Some.part.now parts.0)

pub returns-in-None : goal.returns-in-None
returns-in-None c = parts-last c.args.separator c.args.bytes.now (lacks_all c.args.separator c.args.bytes.now c.in-None.ensures.none)
