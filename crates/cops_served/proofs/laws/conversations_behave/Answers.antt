use Rattle.cops_types.specs.TenantConfig.{tenant_config}
use Rattle.cops_wire.specs.Requests.{KeepsShape}
use Rattle.std.specs.Prelude.{slice_get}
use Rattle.cops_served.proofs.Sessions.{conversation, greeted_there}
use Rattle.cops_served.proofs.laws.conversations_behave.Goals as goal

pub returns-clause-whole : goal.returns-clause-whole
returns-clause-whole g c = λ config remaining new_remaining contents new_contents nodes new_nodes moments new_moments ended h.
    conversation (KeepsShape g.N.Nodes.shape g.N.Nodes.Answers) g.M.Moments.Gives (tenant_config config h.tenant) h.slot h.dc h.serves.requests h.serves.replies nodes new_nodes moments new_moments h.after (greeted_there config.tenants config.data_centres (slice_get h.greets.messages 0) h.slot h.dc h.greets.answer_is) h.serves.served

pub returns-clause-part : goal.returns-clause-part
returns-clause-part g c = λ config remaining contents new_contents nodes new_nodes moments new_moments h.
    conversation (KeepsShape g.N.Nodes.shape g.N.Nodes.Answers) g.M.Moments.Gives (tenant_config config h.tenant) h.slot h.dc h.serves.requests h.serves.replies nodes new_nodes moments new_moments h.after (greeted_there config.tenants config.data_centres (slice_get h.greets.messages 0) h.slot h.dc h.greets.answer_is) h.serves.served
