use Rattle.cops_service.proofs.tasks.fn.accept_and_serve.scope+FnOnce.call_once.Goals as goal

-- what the threads' bounds ask, and then what the closure asks
pub scope-requires : goal.scope-requires
scope-requires g c = assumption c.requires
