-- A run of tenants who come and go: acme's slot is closed and goes to gama, who finds nothing there.
use Rattle.std.specs.Prelude.{ℕ, Bool, List, [], ◌∷◌, ◌++◌, codes, replicate, None}
use Rattle.cops_types.specs.declared.configs.Config.{Config}
use Rattle.cops_types.specs.declared.configs.Tenant.{Tenant}
use Rattle.cops_types.specs.declared.faults.Fault.TheVariants.{UnknownTenant, UnknownName}
use Rattle.cops_types.specs.Reads.{read_in}
use Rattle.cops_model.specs.declared.acts.Act.TheVariants.{Open, Create, Put, Get, Done}
use Rattle.cops_model.specs.declared.replies.HostReply.TheVariants.{Admitted, Closed, Denied}
use Rattle.cops_model.specs.declared.replies.Reply.TheVariants.{Opened, Created, Started, Stored, Values, Refused}
use Rattle.cops_script.specs.Answers.{is_lack}
use Rattle.cops_world.specs.declared.host_runs.Doing.TheVariants.{Own, Admit, Close}
use Rattle.cops_world.specs.declared.host_runs.HostEvent.{HostEvent}
use Rattle.cops_world.specs.declared.host_runs.LifeReply.{LifeReply}
use Rattle.cops_world.specs.declared.host_runs.LifeReply.TheVariants.{ToHost, ToTenant}
use Rattle.cops_world.specs.HostRuns.{answer_at}

-- the reply is that memory ran out
abbrev pub is_lack_reply : LifeReply → Bool
is_lack_reply reply = is_lack (answer_at 0 reply)

-- a tenant of this name, whose token ends in this number
abbrev pub tenant_named : List ℕ → ℕ → Tenant
tenant_named name number = record {
  name = name;
  token = replicate 15 0 ++ number ∷ [];
  first_clock = 0;
  quota = record { versions = 100; bytes = 10000; outbox = 10; contexts = 4; deps = 20; actors = 8; audit = 1000 };
}

abbrev pub gama : Tenant
gama = tenant_named (codes "gama") 2

-- one node, with acme alone
abbrev pub one_tenant : Config
one_tenant = record {
  data_centres = 1;
  shards = 1;
  trans_time = 5000;
  restarts = 1;
  tenants = tenant_named (codes "acme") 1 ∷ [];
}

-- all of it happens at the first slot
abbrev pub two_lives : List HostEvent
two_lives =
    record { slot = 0; doing = Own (Open (codes "a") 0) }
    ∷ (record { slot = 0; doing = Own (Create (codes "a")) }
    ∷ (record { slot = 0; doing = Own (Put (codes "a") 1 (codes "x") (codes "10")) }
    ∷ (record { slot = 0; doing = Own (Done (codes "a") 0) }
    ∷ (record { slot = 0; doing = Close }
    ∷ (record { slot = 0; doing = Own (Create (codes "a")) }
    ∷ (record { slot = 0; doing = Admit gama }
    ∷ (record { slot = 0; doing = Own (Create (codes "a")) }
    ∷ (record { slot = 0; doing = Own (Open (codes "a") 0) }
    ∷ (record { slot = 0; doing = Own (Create (codes "a")) }
    ∷ (record { slot = 0; doing = Own (Get (codes "a") 1 (codes "x" ∷ [])) }
    ∷ (record { slot = 0; doing = Own (Done (codes "a") 0) }
    ∷ [])))))))))))

-- gama has no session yet, and finds no version of x
abbrev pub told_in_two_lives : List LifeReply
told_in_two_lives =
    ToTenant Opened
    ∷ (ToTenant (Created 1)
    ∷ (ToTenant Started
    ∷ (ToTenant (Stored (record { key = codes "x"; version = record { clock = 1; node = 0 } }))
    ∷ (ToHost (Closed (codes "acme"))
    ∷ (ToHost (Denied UnknownTenant)
    ∷ (ToHost (Admitted (codes "gama"))
    ∷ (ToTenant (Refused UnknownName)
    ∷ (ToTenant Opened
    ∷ (ToTenant (Created 1)
    ∷ (ToTenant Started
    ∷ (ToTenant (Values (read_in (codes "x") None ∷ []))
    ∷ [])))))))))))
