use Rattle.std.proofs.Common.{◌≡◌, ◌<◌, ◌∙◌, arith, subst}
use Rattle.cops_node.specs.Pages.{IsPageOf, number_of_page, page_at}
use Rattle.cops_node.proofs.PageLemmas.{number_shown, page_there}
use Rattle.cops_node.proofs.pages.find.Goals as goal

pub number_at-requires : goal.number_at-requires
number_at-requires c =
    let here = c.loop-at.invariant c.requires.0 c.requires.1 c.requires.2 c.requires.3 c.requires.4 c.requires.5 in
    page_there c.args.pages.now.slots c.requires.0 here.0 c.loop-at.at here.2.0

pub earlier-at-requires : goal.earlier-at-requires
earlier-at-requires c =
    let here = c.loop-at.invariant c.requires.0 c.requires.1 c.requires.2 c.requires.3 c.requires.4 c.requires.5 in
    let number : c.number_at.result ≡ here.0 = c.number_at.ensures ∙ number_shown c.args.pages.now.slots c.requires.0 here.0 c.loop-at.at here.2.0 in
    let test = c.loop-at-test.true in
    (c.requires.0, here.0, here.1, here.2, c.requires.4, omega arith)

pub loop-at-smaller : goal.loop-at-smaller
loop-at-smaller c =
    let here = c.loop-at.invariant c.requires.0 c.requires.1 c.requires.2 c.requires.3 c.requires.4 c.requires.5 in
    let old = number_shown c.args.pages.now.slots c.requires.0 here.0 c.loop-at.at here.2.0 in
    let number : c.number_at.result ≡ here.0 = c.number_at.ensures ∙ old in
    let test = c.loop-at-test.true in
    let next = c.earlier-at.ensures c.requires.0 here.0 here.1 here.2 c.requires.4 (omega arith) in
    let new = number_shown c.args.pages.now.slots c.requires.0 next.0 c.earlier-at.result next.2.0 in
    let before = next.4 in
    let less : number_of_page (page_at c.args.pages.now.slots c.earlier-at.result) < number_of_page (page_at c.args.pages.now.slots c.loop-at.at) = omega arith in
    less

pub loop-at-preserved : goal.loop-at-preserved
loop-at-preserved c = λ slot n rows h alone le.
    let here = c.loop-at.invariant slot n rows h alone le in
    let number : c.number_at.result ≡ here.0 = c.number_at.ensures ∙ number_shown c.args.pages.now.slots slot here.0 c.loop-at.at here.2.0 in
    let test = c.loop-at-test.true in
    let next = c.earlier-at.ensures slot here.0 here.1 here.2 alone (omega arith) in
    (next.0, next.1, next.2, next.3)

pub returns : goal.returns
returns c = λ slot n rows h alone le.
    let here = c.loop-at.invariant slot n rows h alone le in
    let number : c.number_at.result ≡ here.0 = c.number_at.ensures ∙ number_shown c.args.pages.now.slots slot here.0 c.loop-at.at here.2.0 in
    let test = c.loop-at-test.false in
    let least = here.3 in
    let same : here.0 ≡ c.args.number = omega arith in
    subst (λ k. IsPageOf c.args.pages.now.slots slot k c.loop-at.at) same here.2.0
