use Rattle.std.proofs.Common.{◌≡◌, ◌∙◌, ap, arith, sym}
use Rattle.std.specs.Option.{option_copied}
use Rattle.std.proofs.lemmas.Bool.Decides.{nat_tests}
use Rattle.cops_node.proofs.pages.is_page_of.Goals as goal

pub returns-then-page-slot : goal.returns-then-page-slot
returns-then-page-slot c = λ same.
    let slot : c.in-Some.page.now.slot ≡ c.args.slot = omega arith in
    let number : c.in-Some.page.now.number ≡ c.args.number = grind (arith, nat_tests, same) in
    (c.in-Some.page.now, sym c.get.ensures ∙ ap option_copied c.in-Some.is, slot, number)
