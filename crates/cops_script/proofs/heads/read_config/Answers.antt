use Rattle.cops_script.specs.declared.heads.HeadEnd.TheVariants.{Whole, Bad}
use Rattle.cops_script.proofs.LoneHeads.{good_head, never_ended, never_written, stopped_at}
use Rattle.cops_script.proofs.heads.read_config.Goals as goal

pub returns-in-Err-Refused-Whole-clause-config : goal.returns-in-Err-Refused-Whole-clause-config
returns-in-Err-Refused-Whole-clause-config g c = stopped_at _ _ _ _ c.new_script-head.result c.new_script-head.ensures.head _ (Whole c.in-Err-Refused-Whole.config) (cc) c.in-Err-Refused-Whole.ensures.err

pub returns-in-Err-Refused-Whole-clause-good : goal.returns-in-Err-Refused-Whole-clause-good
returns-in-Err-Refused-Whole-clause-good g c = good_head _ _ _ _ c.new_script-head.result c.new_script-head.ensures.head _ c.in-Err-Refused-Whole.config (cc) c.in-Err-Refused-Whole.ensures.err

pub returns-in-Err-Refused-Bad-clause-bad_head : goal.returns-in-Err-Refused-Bad-clause-bad_head
returns-in-Err-Refused-Bad-clause-bad_head g c = stopped_at _ _ _ _ c.new_script-head.result c.new_script-head.ensures.head _ (Bad c.in-Err-Refused-Bad.bad) (cc) c.in-Err-Refused-Bad.ensures.err

pub unreachable-requires : goal.unreachable-requires
unreachable-requires g c = never_written _ _ _ _ c.new_script-head.result c.new_script-head.ensures.head _ (cc) c.in-Err-WriteFault.ensures.err

pub unreachable-requires-in-Ok : goal.unreachable-requires-in-Ok
unreachable-requires-in-Ok g c = never_ended _ _ _ _ c.new_script-head.result c.new_script-head.ensures.head _ c.in-Ok.ensures.ok

pub returns-in-Err-ReadFault-clause-read_fault : goal.returns-in-Err-ReadFault-clause-read_fault
returns-in-Err-ReadFault-clause-read_fault g c = λ is. c.in-Err-ReadFault.ensures.read_fault (cc)
