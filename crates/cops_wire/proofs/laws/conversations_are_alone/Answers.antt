use Rattle.cops_wire.proofs.ClusterTurns.{conversation_alone, conversation_alone_amid, conversation_alone_others, conversation_goes, conversation_goes_amid, conversation_goes_others}
use Rattle.cops_wire.proofs.laws.conversations_are_alone.Goals as goal

pub returns-clause-alone : goal.returns-clause-alone
returns-clause-alone g c = λ config sent received nodes new_nodes moments new_moments h. conversation_alone g.M.Moments.Gives config sent received nodes new_nodes moments new_moments h

pub returns-clause-others : goal.returns-clause-others
returns-clause-others g c = λ config sent received nodes new_nodes moments new_moments h. conversation_alone_others g.M.Moments.Gives config sent received nodes new_nodes moments new_moments h

pub returns-clause-amid : goal.returns-clause-amid
returns-clause-amid g c = λ config sent received nodes new_nodes moments new_moments h. conversation_alone_amid g.M.Moments.Gives config sent received nodes new_nodes moments new_moments h

pub returns-clause-goes : goal.returns-clause-goes
returns-clause-goes g c = λ config sent received nodes new_nodes moments new_moments h. conversation_goes g.M.Moments.Gives config sent received nodes new_nodes moments new_moments h

pub returns-clause-goes_others : goal.returns-clause-goes_others
returns-clause-goes_others g c = λ config sent received nodes new_nodes moments new_moments h. conversation_goes_others g.M.Moments.Gives config sent received nodes new_nodes moments new_moments h

pub returns-clause-goes_amid : goal.returns-clause-goes_amid
returns-clause-goes_amid g c = λ config sent received nodes new_nodes moments new_moments h. conversation_goes_amid g.M.Moments.Gives config sent received nodes new_nodes moments new_moments h
