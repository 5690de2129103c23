use Rattle.cops_whole.proofs.SeatThreads.{carries, collected, serves}
use Rattle.cops_whole.proofs.Threads.{both}
use Rattle.cops_whole.specs.Services.{IsCallAtShard}
use Rattle.cops_whole.proofs.laws.seats_make_calls_of_actors.Goals as goal

pub returns-clause-workers : goal.returns-clause-workers
returns-clause-workers g c = λ config cluster count first last moments later some h. serves config cluster g.M.Moments.Gives count first last moments later some h

pub returns-clause-carriers : goal.returns-clause-carriers
returns-clause-carriers g c = λ config cluster tenant slot stream ending first last found there h. carries config cluster tenant slot stream ending first last found there h

pub returns-clause-collectors : goal.returns-clause-collectors
returns-clause-collectors g c = λ config cluster tenant slot moment id reply first last found below h. collected config cluster tenant slot id moment reply first last found below h

pub returns-clause-later : goal.returns-clause-later
returns-clause-later g c = λ config cluster first between last earlier later. both (IsCallAtShard config cluster) config first between last earlier later
