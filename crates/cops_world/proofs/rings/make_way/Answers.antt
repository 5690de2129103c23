use Rattle.std.proofs.Common.{◌≡◌, ◌≢◌, ◌<◌, ◌-◌, length, subst, sym, ap, ◌∙◌, arith}
use Rattle.cops_world.specs.ActorRings.{Links, first_in, links_at}
use Rattle.cops_world.proofs.RowLemmas.{counts_passed, holed_other, holed_there, links_here, links_within, long_passed, same_long, way_free, way_made}
use Rattle.cops_world.proofs.rings.make_way.Goals as goal

pub returns-then-last-place-clause-rings : goal.returns-then-last-place-clause-rings
returns-then-last-place-clause-rings c = λ e.
    way_free c.args.rows.now.entries (length c.args.rings.now.items) (first_in c.args.rings.now.items) c.args.place e c.requires.place (ap (λ n. n - 1) (sym c.len-last.ensures.len) ∙ c.if-last-place.true) c.requires.rings

pub hand_over-requires-clause-before : goal.hand_over-requires-clause-before
hand_over-requires-clause-before c = λ own at.
    let es = c.args.rows.now.entries in
    let b = (c.requires.rings.between (c.len-last.result - 1) own (holed_other (links_at es) c.args.place (c.len-last.result - 1) c.if-last-place.false ∙ at)).before_it in
    links_within es own.before b.0 (holed_there (links_at es) c.args.place own.before b.0 b.1)

pub hand_over-requires-clause-behind : goal.hand_over-requires-clause-behind
hand_over-requires-clause-behind c = λ own at.
    let es = c.args.rows.now.entries in
    let b = (c.requires.rings.between (c.len-last.result - 1) own (holed_other (links_at es) c.args.place (c.len-last.result - 1) c.if-last-place.false ∙ at)).behind_it in
    links_within es own.behind b.0 (holed_there (links_at es) c.args.place own.behind b.0 b.1)

pub begin_behind-requires : goal.begin_behind-requires
begin_behind-requires c =
    let es = c.args.rows.now.entries in
    let last_low : c.len-last.result - 1 < length es = (let some = c.requires.place in let len = c.len-last.ensures.len in omega (arith, some, len)) in
    let own = links_here es (c.len-last.result - 1) last_low in
    subst (λ n. n < length c.args.rings.now.items) (sym (c.slot_of-slot.ensures own.0 own.1))
    (c.requires.rings.within (c.len-last.result - 1) own.0 (holed_other (links_at es) c.args.place (c.len-last.result - 1) c.if-last-place.false ∙ own.1))

pub returns-clause-rings : goal.returns-clause-rings
returns-clause-rings c = λ e.
    let es = c.args.rows.now.entries in
    let last_low : c.len-last.result - 1 < length es = (let some = c.requires.place in let len = c.len-last.ensures.len in omega (arith, some, len)) in
    let own = links_here es (c.len-last.result - 1) last_low in
    way_made es c.hand_over.new.rows.entries c.args.rings.now.items c.begin_behind.new.rings.items c.args.place (c.len-last.result - 1) c.slot_of-slot.result own.0 e (ap (λ n. n - 1) c.len-last.ensures.len) c.requires.place c.if-last-place.false
    c.requires.rings own.1 (c.slot_of-slot.ensures own.0 own.1) (same_long es c.hand_over.new.rows.entries c.hand_over.ensures.actors) (c.hand_over.ensures.links own.0 own.1) c.begin_behind.ensures
