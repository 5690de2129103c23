use Rattle.std.proofs.Common.{◌∙◌, sym, true≢false}
use Rattle.cops_service.proofs.Rosters.{if_there}
use Rattle.cops_service.proofs.roster.Roster.leave.Goals as goal

pub returns-in_err-close-in-Some-clause-there : goal.returns-in_err-close-in-Some-clause-there
returns-in_err-close-in-Some-clause-there c =
    absurd (true≢false (sym (if_there c.self.inside.tenants c.args.name.now c.in-Some.slot (sym c.slot_of_name.ensures ∙ c.in-Some.is) c.in_err-close-in-Some.ensures.there)))
