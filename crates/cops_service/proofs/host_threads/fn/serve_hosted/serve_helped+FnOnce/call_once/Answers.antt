use Rattle.cops_service.proofs.host_threads.fn.serve_hosted.serve_helped+FnOnce.call_once.Goals as goal

-- what the threads' bounds ask, and then what the closure asks
pub serve_helped-requires : goal.serve_helped-requires
serve_helped-requires g c = assumption c.requires
