use Rattle.std.proofs.Common.{◌∙◌, refl, sym, subst}
use Rattle.cops_gate.specs.Rule.{start}
use Rattle.cops_gate.specs.Plays.{PublishedAt}
use Rattle.cops_gate.specs.Notes.{entry_for}
use Rattle.cops_gate.proofs.Serving.{taken, noted, serves_on, grows, replied, refused, lacking}
use Rattle.cops_gate.proofs.turns.serve.Goals as goal

pub turn_in_slot-answer-requires-clause-holds : goal.turn_in_slot-answer-requires-clause-holds
turn_in_slot-answer-requires-clause-holds g c =
    let got = c.requires.gets in
    let held = taken g.M.Machine.turns g.M.Machine.place got.0 c.args.drawn.node c.args.drawn.number c.args.drawn.seat.value.me c.args.place.now.me c.args.place.now.me.0 refl c.requires.numbered.1 got.2 in
    (held.0, held.1, subst (λ p. g.M.Machine.fits p c.args.slot c.args.call) (sym held.2.3) (c.requires.fits got.0 got.1))

pub publish-requires-clause-turn : goal.publish-requires-clause-turn
publish-requires-clause-turn g c =
    let turns = g.M.Machine.turns in let place = g.M.Machine.place in let node = c.args.drawn.node in
    let opening = start c.args.board.now.shared.key.value in let before = c.args.drawn.seat.value.me in let got = c.requires.gets in let first = got.0 in
    let held-by = c.turn_in_slot-answer.new.place.me.0 in let slot = c.args.slot in let moment = c.args.moment in let answer = c.turn_in_slot-answer.result in
    let held = taken turns place first node c.args.drawn.number before c.args.place.now.me held-by c.turn_in_slot-answer.ensures.same.2 c.requires.numbered.1 got.2 in
    let made = c.turn_in_slot-answer.ensures.turned held.0 held.1 in (
      first,
      made.0,
      got.1,
      made.1,
      serves_on turns place first before.0 held-by node c.args.drawn.number held.0 made.0 (entry_for slot moment c.of-asked.result.value c.of.result.value) held.2
          (noted turns place held.0 made.0 slot moment c.args.call c.of-asked.result.value answer c.of.result.value c.of-asked.ensures c.of.ensures made.3 made.4),
      made.2 ∙ held.2.3,
    )

pub returns-clause-reply : goal.returns-clause-reply
returns-clause-reply g c =
    let turns = g.M.Machine.turns in let place = g.M.Machine.place in let node = c.args.drawn.node in
    let opening = start c.args.board.now.shared.key.value in let before = c.args.drawn.seat.value.me in let got = c.requires.gets in let first = got.0 in
    let held-by = c.turn_in_slot-answer.new.place.me.0 in let slot = c.args.slot in let moment = c.args.moment in let answer = c.turn_in_slot-answer.result in
    let held = taken turns place first node c.args.drawn.number before c.args.place.now.me held-by c.turn_in_slot-answer.ensures.same.2 c.requires.numbered.1 got.2 in
    let made = c.turn_in_slot-answer.ensures.turned held.0 held.1 in
    let grown = grows turns place opening first before.0 held-by c.publish.new.place.me.0 node c.args.drawn.number held.0 (entry_for slot moment c.of-asked.result.value c.of.result.value) (entry_for slot moment c.args.call answer) held.2 c.publish.ensures.me.1
    (λ i. entry_for slot moment (c.of-asked.ensures i) (c.of.ensures i)) in
    replied turns place opening.states before.0.number node slot moment c.args.call answer before.0.seen c.publish.new.place.me.0.seen grown

pub returns-clause-refused : goal.returns-clause-refused
returns-clause-refused g c =
    let turns = g.M.Machine.turns in let place = g.M.Machine.place in let node = c.args.drawn.node in
    let opening = start c.args.board.now.shared.key.value in let before = c.args.drawn.seat.value.me in let got = c.requires.gets in let first = got.0 in
    let held-by = c.turn_in_slot-answer.new.place.me.0 in let slot = c.args.slot in let moment = c.args.moment in let answer = c.turn_in_slot-answer.result in
    let held = taken turns place first node c.args.drawn.number before c.args.place.now.me held-by c.turn_in_slot-answer.ensures.same.2 c.requires.numbered.1 got.2 in
    let made = c.turn_in_slot-answer.ensures.turned held.0 held.1 in
    let grown = grows turns place opening first before.0 held-by c.publish.new.place.me.0 node c.args.drawn.number held.0 (entry_for slot moment c.of-asked.result.value c.of.result.value) (entry_for slot moment c.args.call answer) held.2 c.publish.ensures.me.1
    (λ i. entry_for slot moment (c.of-asked.ensures i) (c.of.ensures i)) in
    refused turns place opening.states before.0.number node slot moment c.args.call answer before.0.seen c.publish.new.place.me.0.seen grown

pub returns-clause-lacks : goal.returns-clause-lacks
returns-clause-lacks g c =
    let turns = g.M.Machine.turns in let place = g.M.Machine.place in let node = c.args.drawn.node in
    let opening = start c.args.board.now.shared.key.value in let before = c.args.drawn.seat.value.me in let got = c.requires.gets in let first = got.0 in
    let held-by = c.turn_in_slot-answer.new.place.me.0 in let slot = c.args.slot in let moment = c.args.moment in let answer = c.turn_in_slot-answer.result in
    let held = taken turns place first node c.args.drawn.number before c.args.place.now.me held-by c.turn_in_slot-answer.ensures.same.2 c.requires.numbered.1 got.2 in
    let made = c.turn_in_slot-answer.ensures.turned held.0 held.1 in
    let w = c.publish.new.place.me.0 in
    let published = subst (λ e. PublishedAt turns place opening node e held-by w) (λ i. entry_for slot moment (c.of-asked.ensures i) (c.of.ensures i)) c.publish.ensures.me.1 in
    lacking turns place g.M.Machine.may_lack opening first before.0 held-by w node c.args.drawn.number slot moment c.args.call answer held.0 got.1 held.2 published made.5
