use Rattle.std.proofs.Common.{◌<◌, length, subst, sym, ap, ◌∙◌}
use Rattle.cops_world.specs.ActorRings.{Links}
use Rattle.cops_world.proofs.RowLemmas.{counts_passed, links_here, links_there, links_within, long_passed, taken_out}
use Rattle.cops_world.proofs.rings.take_out.Goals as goal

pub pass_over-requires-clause-before : goal.pass_over-requires-clause-before
pass_over-requires-clause-before c = λ own at.
    let b = (c.requires.rings.between c.args.place own at).before_it in
    links_within c.args.rows.now.entries own.before b.0 b.1

pub pass_over-requires-clause-behind : goal.pass_over-requires-clause-behind
pass_over-requires-clause-behind c = λ own at.
    let b = (c.requires.rings.between c.args.place own at).behind_it in
    links_within c.args.rows.now.entries own.behind b.0 b.1

pub begin_behind-requires : goal.begin_behind-requires
begin_behind-requires c =
    let own = links_here c.args.rows.now.entries c.args.place c.requires.place in
    subst (λ n. n < length c.args.rings.now.items) (sym (c.slot_of-slot.ensures own.0 own.1)) (c.requires.rings.within c.args.place own.0 own.1)

pub returns-clause-rings : goal.returns-clause-rings
returns-clause-rings c =
    let es = c.args.rows.now.entries in
    let own = links_there es c.args.place c.index-row.result.now c.index-row.ensures in
    taken_out es c.pass_over.new.rows.entries c.args.rings.now.items c.begin_behind.new.rings.items c.args.place c.slot_of-slot.result c.index-row.result.now.behind own.0 c.requires.rings own.1
    (c.slot_of-slot.ensures own.0 own.1) (sym own.3) (c.pass_over.ensures.links own.0 own.1) c.begin_behind.ensures

pub returns-clause-len : goal.returns-clause-len
returns-clause-len c = long_passed c.args.rings.now.items c.begin_behind.new.rings.items c.slot_of-slot.result _ c.begin_behind.ensures

pub returns-clause-counts : goal.returns-clause-counts
returns-clause-counts c =
    let own = links_here c.args.rows.now.entries c.args.place c.requires.place in
    counts_passed c.args.rings.now.items c.begin_behind.new.rings.items c.slot_of-slot.result c.args.place c.index-row.result.now.behind
    (subst (λ n. n < length c.args.rings.now.items) (sym (c.slot_of-slot.ensures own.0 own.1)) (c.requires.rings.within c.args.place own.0 own.1)) c.begin_behind.ensures
