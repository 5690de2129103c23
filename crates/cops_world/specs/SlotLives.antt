-- The lives of one slot: each tenant that has it, what that tenant does until the slot is closed, and the replies to it.
use Rattle.std.specs.Prelude.{◌≡◌, ℕ, Bool, true, false, not, ◌==◌, if◌then◌else◌, List, [], ◌∷◌, ◌++◌, filter, slice_set, Option, Some, None}
use Rattle.std.specs.Option.{option_map, option_to_list}
use Rattle.cops_types.specs.declared.configs.Config.{Config}
use Rattle.cops_types.specs.declared.configs.Tenant.{Tenant}
use Rattle.cops_types.specs.declared.faults.Fault.{Fault}
use Rattle.cops_types.specs.OpenSlots.{admission_refusal, begun_with, open_at}
use Rattle.cops_types.specs.TenantConfig.{tenant_config}
use Rattle.cops_model.specs.declared.acts.Act.{Act}
use Rattle.cops_model.specs.declared.replies.Reply.{Reply}
use Rattle.cops_model.specs.MainTheorem.{IsCausalRun}
use Rattle.cops_script.specs.Answers.{ToHost, is_lack}
use Rattle.cops_script.specs.Said.{Admits, Said, OfHost, tenants_after}
use Rattle.cops_world.specs.declared.host_runs.Doing.{Doing}
use Rattle.cops_world.specs.declared.host_runs.Doing.TheVariants.{Own, Admit, Close}
use Rattle.cops_world.specs.declared.host_runs.HostEvent.{HostEvent}
use Rattle.cops_world.specs.declared.host_runs.LifeReply.{LifeReply}
use Rattle.cops_world.specs.declared.host_runs.LifeReply.TheVariants as reply
use Rattle.cops_world.specs.HostRuns.{said_of}

-- ---- until the slot is closed

abbrev pub acts_with : Doing → List Act → List Act
acts_with (Own act) acts = act ∷ acts
acts_with (Admit tenant) acts = acts
acts_with Close acts = []

-- the acts of the tenant that has the slot
abbrev pub acts_to_close : ℕ → List HostEvent → List Act
acts_to_close slot [] = []
acts_to_close slot (event ∷ events) = if event.slot == slot then acts_with event.doing (acts_to_close slot events) else acts_to_close slot events

abbrev pub told_with : Doing → LifeReply → List Reply → List Reply
told_with (Own act) (reply.ToTenant one) told = one ∷ told
told_with (Own act) (reply.ToHost one) told = told
told_with (Admit tenant) one told = told
told_with Close one told = []

-- and the replies to them
abbrev pub told_to_close : ℕ → List HostEvent → List LifeReply → List Reply
told_to_close slot [] replies = []
told_to_close slot (event ∷ events) [] = []
told_to_close slot (event ∷ events) (one ∷ replies) =
    if event.slot == slot then told_with event.doing one (told_to_close slot events replies) else told_to_close slot events replies

-- ---- one life after another

-- a tenant that has the slot, and its acts
pub record Life : Type 0 where
  pub tenant : Tenant
  pub acts : List Act

-- it gets the slot before these events
abbrev pub life_of : ℕ → List HostEvent → Tenant → Life
life_of slot events tenant = record { tenant = tenant; acts = acts_to_close slot events }

-- the tenant that is admitted to the slot
abbrev pub given_by : ℕ → Said → Option Tenant
given_by slot (OfHost (Admits other tenant)) = if other == slot then Some tenant else None
given_by slot said = None

-- the lives that begin at the slot in these events
abbrev pub lives_from : ℕ → List (Option Tenant) → List HostEvent → List Life
lives_from slot tenants [] = []
lives_from slot tenants (event ∷ events) =
    let said = said_of tenants event in option_to_list (option_map (life_of slot events) (given_by slot said)) ++ lives_from slot (tenants_after tenants said) events

-- and the replies in each
abbrev pub told_lives_from : ℕ → List (Option Tenant) → List HostEvent → List LifeReply → List (List Reply)
told_lives_from slot tenants [] replies = []
told_lives_from slot tenants (event ∷ events) [] = []
told_lives_from slot tenants (event ∷ events) (one ∷ replies) =
    let said = said_of tenants event in
    option_to_list (option_map (λ tenant. told_to_close slot events replies) (given_by slot said)) ++ told_lives_from slot (tenants_after tenants said) events replies

-- the lives of the slot, the first of them that of the head's tenant
abbrev pub lives_at : Config → ℕ → List HostEvent → List Life
lives_at config slot events =
    let tenants = begun_with config.tenants in option_to_list (option_map (life_of slot events) (open_at slot tenants)) ++ lives_from slot tenants events

abbrev pub told_at : Config → ℕ → List HostEvent → List LifeReply → List (List Reply)
told_at config slot events replies =
    let tenants = begun_with config.tenants in
    option_to_list (option_map (λ tenant. told_to_close slot events replies) (open_at slot tenants)) ++ told_lives_from slot tenants events replies

-- the tenant has the slot if it may be admitted, and nothing changes if not
abbrev pub IsGivenTo : ℕ → Tenant → List (Option Tenant) → Bool → List (Option Tenant) → Type 0
IsGivenTo slot tenant old true new = (admission_refusal old slot tenant ≡ None) × (new ≡ slice_set old slot (Some tenant))
IsGivenTo slot tenant old false new = (fault : Fault) × (admission_refusal old slot tenant ≡ Some fault) × (new ≡ old)

-- ---- each life alone

-- this holds of each item of one list and the item at the same index of the other
abbrev pub AllPaired : {A B : Type 0} → (A → B → Type 0) → List A → List B → Type 0
AllPaired Is [] [] = Unit {0}
AllPaired Is [] (y ∷ ys) = ⊥
AllPaired Is (x ∷ xs) [] = ⊥
AllPaired Is (x ∷ xs) (y ∷ ys) = Is x y × AllPaired Is xs ys

-- the tenant has a cluster to itself from the beginning of its life
abbrev pub IsLivedAlone : Config → Life → List Reply → Type 0
IsLivedAlone config life told = IsCausalRun (tenant_config config life.tenant) life.acts told

-- ---- a run in which memory may run out

-- the host's reply is that memory ran out
abbrev pub lacks_memory : LifeReply → Bool
lacks_memory (reply.ToHost one) = is_lack (ToHost one)
lacks_memory (reply.ToTenant one) = false

-- the events without the admissions for which memory ran out
abbrev pub events_heard : List HostEvent → List LifeReply → List HostEvent
events_heard [] replies = []
events_heard (event ∷ events) [] = []
events_heard (event ∷ events) (one ∷ replies) = if lacks_memory one then events_heard events replies else event ∷ events_heard events replies

-- and the replies to them
abbrev pub replies_heard : List LifeReply → List LifeReply
replies_heard replies = filter (λ one. not (lacks_memory one)) replies

-- the lives of each slot, in the events that were heard
abbrev pub AreLivedAlone : Config → List HostEvent → List LifeReply → Type 0
AreLivedAlone config events replies =
    let heard = events_heard events replies in (slot : ℕ) → AllPaired (IsLivedAlone config) (lives_at config slot heard) (told_at config slot heard (replies_heard replies))
