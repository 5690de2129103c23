use Rattle.cops_service.proofs.hosted_desk.HostedDesk.admit_at.Goals as goal

pub tell-requires-clause-fits : goal.tell-requires-clause-fits
tell-requires-clause-fits g c = λ home. c.requires.clock
