-- The state of a node for all tenants, and what it represents.
use Rattle.std.specs.Prelude.{◌≡◌, ◌≢◌, ℕ, ◌*◌, ◌/◌, ◌%◌, ◌<◌, ◌≤◌, ◌==◌, ◌||◌, ◌&&◌, nat_eq, nat_le, nat_lt, Bool, false, IsTrue, is_some, IsSome, Option, None, Some, List, [], ◌∷◌, ◌++◌, length, map, slice_index, slice_index_or, slice_set, ◌⊎◌, replicate, if◌then◌else◌}
use Rattle.std.specs.List.{list_all, AllByRecursion}
use Rattle.std.specs.Option.{option_map}
use Rattle.cops_types.specs.declared.configs.Config.{Config}
use Rattle.cops_types.specs.declared.configs.Tenant.{Tenant}
use Rattle.cops_types.specs.declared.faults.Fault.{Fault}
use Rattle.cops_types.specs.declared.faults.Fault.TheVariants.{OutOfMemory, AuditFull, UnknownTenant, NoSlot}
use Rattle.cops_types.specs.declared.quotas.Quota.{Quota}
use Rattle.cops_types.specs.Layout.{NODES}
use Rattle.cops_types.specs.Records.{Tracked, StandsFor, clock, mark}
use Rattle.cops_types.specs.Refusal.{refused_if}
use Rattle.cops_types.specs.Version.{Timestamp, no_version, last_clock}
use Rattle.cops_store.specs.Contents.{Contents, rows_of, NoneLater}
use Rattle.cops_outbox.specs.Queues.{Queues, queue_of}
use Rattle.cops_model.specs.declared.calls.AuditEntry.{AuditEntry}
use Rattle.cops_node.specs.declared.Home.{Home}
use Rattle.cops_model.specs.declared.calls.NodeCall.{NodeCall}
use Rattle.cops_model.specs.declared.calls.NodeId.{NodeId}
use Rattle.cops_model.specs.declared.calls.NodeReply.{NodeReply}
use Rattle.cops_model.specs.declared.calls.NodeReply.TheVariants.{Refused}
use Rattle.cops_node.specs.declared.Terms.{Terms}
use Rattle.cops_node.specs.declared.parts.Counters.{Counters}
use Rattle.cops_node.specs.declared.parts.Part.{Part}
use Rattle.cops_model.specs.Place.{Place, fits, is_other_dc}
use Rattle.cops_node.specs.Run.{calls_in_trail, node_after}
use Rattle.cops_node.specs.Shape.{place_in}
use Rattle.cops_model.specs.SoloNode.{SoloNode, new_node, queue, issued}
use Rattle.cops_model.specs.Step.{node_step, effect}

-- ---- a node as contracts see it

-- the home, which nothing changes; the terms of each slot that has a tenant, which no call changes; and the trail of each slot: its calls, in
-- order. Slots have no order among them.
pub record Shared : Type 0 where
  pub home : Home
  pub terms : List (Option Terms)
  pub audit : List (List AuditEntry)

-- the part of a node that no call of a tenant changes
pub record Site : Type 0 where
  pub home : Home
  pub terms : List (Option Terms)

abbrev pub site_in : Shared → Site
site_in node = record { home = node.home; terms = node.terms }

-- the node without its tenants
abbrev pub home_in : Shared → Home
home_in node = node.home

-- the place of a tenant with this first clock and quota at a node
abbrev pub place_for : Home → ℕ → Quota → Place
place_for home first_clock quota =
    record {
      id = home.id;
      data_centres = home.shape.data_centres;
      shards = home.shape.shards;
      trans_time = home.trans_time;
      first_clock = first_clock;
      quota = quota;
    }

-- the place of a tenant with these terms
abbrev pub place_under : Home → Terms → Place
place_under home terms = place_for home terms.first_clock terms.quota

-- the terms of the tenant of a slot, if it has one
abbrev pub terms_at : ℕ → Shared → Option Terms
terms_at slot node = slice_index_or node.terms slot None

-- and the tenant's place
abbrev pub place_at : ℕ → Shared → Option Place
place_at slot node = option_map (place_under node.home) (terms_at slot node)

-- the trail of one slot
abbrev pub trail_of : ℕ → List (List AuditEntry) → List AuditEntry
trail_of slot audit = slice_index_or audit slot []

-- no slot has made a call
abbrev pub no_calls : ℕ → List (List AuditEntry)
no_calls slots = replicate slots []

-- each of these calls of a trail could come to a node at this place
abbrev pub AllFit : Place → List AuditEntry → Type 0
AllFit place trail = AllByRecursion (λ (entry : AuditEntry). IsTrue (fits place entry.call)) trail

-- the calls in a node's audit could each come to it
abbrev pub AuditFits : Shared → Type 0
AuditFits node = AllByRecursion (AllFit (place_in node.home.shape node.home.id)) node.audit

-- the solo node that an audit leaves
abbrev pub left_by : Place → List AuditEntry → SoloNode
left_by place trail = node_after place (calls_in_trail trail) (new_node place.data_centres)

-- the solo node that a slot represents: the one that its audit leaves
abbrev pub solo_of : ℕ → Place → Shared → SoloNode
solo_of slot place node = left_by place (trail_of slot node.audit)

-- a node of a configuration
abbrev pub home_of : Config → NodeId → Home
home_of config id =
    record {
      id = id;
      shape = record { data_centres = config.data_centres; shards = config.shards };
      trans_time = config.trans_time;
    }

abbrev pub terms_of : Tenant → Terms
terms_of tenant = record { first_clock = tenant.first_clock; quota = tenant.quota }

-- the terms of each slot before any call: those of the configuration's tenants
abbrev pub opening_terms : Config → List (Option Terms)
opening_terms config = map (λ tenant. Some (terms_of tenant)) config.tenants

-- a node of a configuration, with all its tenants
abbrev pub site_of : Config → NodeId → Site
site_of config id = record { home = home_of config id; terms = opening_terms config }

-- each tenant's first clock is a valid clock
abbrev pub are_clocks : Config → Bool
are_clocks config = list_all (λ (tenant : Tenant). nat_le tenant.first_clock last_clock) config.tenants

-- a node of a cluster whose numbers fit a version
pub record IsHome (home : Home) : Type 0 where
  pub dc_exists : home.id.dc < home.shape.data_centres
  pub shard_exists : home.id.shard < home.shape.shards
  pub numbers_fit : home.shape.data_centres * home.shape.shards ≤ NODES

-- a turn of a slot is the turn of its solo node
abbrev pub IsSoloTurn : ℕ → ℕ → NodeCall → NodeReply → Place → Shared → Shared → Type 0
IsSoloTurn slot moment call reply place old new =
    (reply ≡ (node_step place moment call (solo_of slot place old)).reply) × (solo_of slot place new ≡ (node_step place moment call (solo_of slot place old)).after)

-- the same, or memory ran out and nothing changed
abbrev pub IsTurn : ℕ → ℕ → NodeCall → NodeReply → Place → Shared → Shared → Type 0
IsTurn slot moment call reply place old new = ((reply ≡ Refused OutOfMemory) × (new ≡ old)) ⊎ IsSoloTurn slot moment call reply place old new

-- the audit of a slot has room for one more call
abbrev pub has_audit_room : ℕ → Place → Shared → Bool
has_audit_room slot place node = nat_lt (length (solo_of slot place node).trail) place.quota.audit

-- the audit with one more call, in the trail of this slot
abbrev pub noted : ℕ → AuditEntry → List (List AuditEntry) → List (List AuditEntry)
noted slot entry audit = slice_set audit slot (trail_of slot audit ++ entry ∷ [])

-- this call and reply were appended to the slot's trail, or the trail was full and nothing changed
abbrev pub JoinsTrail : ℕ → ℕ → NodeCall → NodeReply → Shared → Shared → Type 0
JoinsTrail slot moment call reply old new =
    ((reply ≡ Refused AuditFull) × (new ≡ old))
    ⊎ (new.audit ≡ noted slot (record { moment = moment; call = call; reply = reply }) old.audit)

-- this call and reply were appended to the slot's trail, or the call was refused before that and nothing changed
abbrev pub IsAudited : ℕ → ℕ → NodeCall → NodeReply → Shared → Shared → Type 0
IsAudited slot moment call reply old new =
    (((reply ≡ Refused OutOfMemory) ⊎ (reply ≡ Refused AuditFull)) × (new ≡ old))
    ⊎ (new.audit ≡ noted slot (record { moment = moment; call = call; reply = reply }) old.audit)

-- ---- the state of a slot

-- the high-water mark of a node in a list by data centre; a node of another shard has none
abbrev pub mark_in : Home → List Timestamp → ℕ → Timestamp
mark_in home marks node = if node % home.shape.shards == home.id.shard then slice_index_or marks (node / home.shape.shards) no_version else no_version

-- the list has the high-water marks of this node and of each equivalent one, by data centre; no other node has a record
pub record AreMarks (home : Home) (marks : List Timestamp) (recs : List Tracked) : Type 0 where
  pub all : length marks ≡ home.shape.data_centres
  pub each : (node : ℕ) → mark_in home marks node ≡ mark node recs

-- the node of a place
abbrev pub home_at : Place → Home
home_at place = record { id = place.id; shape = record { data_centres = place.data_centres; shards = place.shards }; trans_time = place.trans_time }

-- the state of a slot is that of the solo node
pub record StandsAt (slot : ℕ) (place : Place) (counters : Counters) (store : Contents) (outbox : Queues) (solo : SoloNode) : Type 0 where
  pub home_is : IsHome (home_at place)
  pub stored : slot < store.tenants
  pub queued : slot < outbox.tenants
  pub own_is : outbox.own ≡ place.id.dc
  pub all_queues : length outbox.queues ≡ place.data_centres
  pub rows : StandsFor (rows_of slot store) solo.recs
  pub queues : (dc : ℕ) → IsTrue (is_other_dc place dc) → queue_of slot dc outbox ≡ queue place dc solo
  pub all_acked : length solo.acked ≡ place.data_centres
  pub acked : (dc : ℕ) → slice_index solo.acked dc ≤ length (issued place solo)
  pub clock_is : counters.clock ≡ clock place.first_clock solo.recs
  pub clock_fits : counters.clock ≤ last_clock
  pub marks : AreMarks (home_at place) counters.marks.items solo.recs
  pub late : NoneLater solo.moment solo.recs

-- the slot represents some solo node with the timestamp `now`
abbrev pub HasSolo : ℕ → ℕ → Place → Counters → Contents → Queues → Type 0
HasSolo slot now place counters store outbox = (solo : SoloNode) × (solo.moment ≡ now) × StandsAt slot place counters store outbox solo

-- the state of other slots stays the same
pub record OthersStay (slot : ℕ) (store : Contents) (outbox : Queues) (store' : Contents) (outbox' : Queues) : Type 0 where
  pub rows : (other : ℕ) → other ≢ slot → rows_of other store' ≡ rows_of other store
  pub queues : (other dc : ℕ) → other ≢ slot → queue_of other dc outbox' ≡ queue_of other dc outbox
  pub tenants : store'.tenants ≡ store.tenants
  pub own : outbox'.own ≡ outbox.own
  pub queued : outbox'.tenants ≡ outbox.tenants
  pub data_centres : length outbox'.queues ≡ length outbox.queues

-- the state stays the same, except for reserved room
pub record IsUnchanged (counters : Counters) (store : Contents) (outbox : Queues) (counters' : Counters) (store' : Contents) (outbox' : Queues) : Type 0 where
  pub counters_are : counters' ≡ counters
  pub rows : store'.rows ≡ store.rows
  pub tenants : store'.tenants ≡ store.tenants
  pub outbox_is : outbox' ≡ outbox

-- the call has the definition's reply and effect, whichever solo node with the timestamp `now` the slot represented
abbrev pub IsDone : ℕ → ℕ → Place → NodeCall → NodeReply → Counters → Contents → Queues → Counters → Contents → Queues → Type 0
IsDone slot now place call reply counters store outbox counters' store' outbox' =
    (solo : SoloNode) → solo.moment ≡ now → StandsAt slot place counters store outbox solo →
    (reply ≡ (effect place call solo).reply) × StandsAt slot place counters' store' outbox' (effect place call solo).after

-- ---- all slots

-- the terms of each slot
abbrev pub terms_in : List (Option Part) → List (Option Terms)
terms_in parts = map (option_map (λ (part : Part). part.terms)) parts

-- the solo node that these calls leave under a tenant's terms
abbrev pub solo_in : Home → Terms → List AuditEntry → SoloNode
solo_in home terms calls = left_by (place_under home terms) calls

-- the state of a slot represents what its calls leave
pub record StandsForTrail (slot : ℕ) (home : Home) (part : Part) (calls : List AuditEntry) (store : Contents) (outbox : Queues) : Type 0 where
  pub stands : StandsAt slot (place_under home part.terms) part.counters store outbox (solo_in home part.terms calls)
  pub moment : (solo_in home part.terms calls).moment ≡ part.moment
  pub trail_is : (solo_in home part.terms calls).trail ≡ calls

-- the slot has no calls, no records and no queued entries
pub record IsUnused (slot : ℕ) (calls : List AuditEntry) (store : Contents) (outbox : Queues) : Type 0 where
  pub none : calls ≡ []
  pub rows : rows_of slot store ≡ []
  pub queues : (dc : ℕ) → queue_of slot dc outbox ≡ []

-- the node is one of the cluster's, and there is room for its slots
pub record HasSlots (home : Home) (slots : ℕ) (store : Contents) (outbox : Queues) : Type 0 where
  pub home_is : IsHome home
  pub stored : slots ≤ store.tenants
  pub queued : slots ≤ outbox.tenants
  pub own_is : outbox.own ≡ home.id.dc
  pub all_queues : length outbox.queues ≡ home.shape.data_centres

pub record IsNode (home : Home) (parts : List (Option Part)) (audit : List (List AuditEntry)) (store : Contents) (outbox : Queues) : Type 0 where
  pub slots : HasSlots home (length parts) store outbox
  pub audited : length audit ≡ length parts
  pub each : (slot : ℕ) (part : Part) → slice_index_or parts slot None ≡ Some part → StandsForTrail slot home part (trail_of slot audit) store outbox
  pub vacant : (slot : ℕ) → slice_index_or parts slot None ≡ None → IsUnused slot (trail_of slot audit) store outbox
  pub fitting : AllByRecursion (AllFit (place_in home.shape home.id)) audit

-- a part before any call, at a node of this many data centres
pub record IsFresh (data_centres : ℕ) (part : Part) : Type 0 where
  pub moment : part.moment ≡ 0
  pub clock_is : part.counters.clock ≡ part.terms.first_clock
  pub marks : part.counters.marks.items ≡ replicate data_centres no_version

-- the turn of the solo node that a slot's calls leave, before and after
abbrev pub IsPartTurn : Home → Terms → ℕ → NodeCall → NodeReply → List AuditEntry → List AuditEntry → Type 0
IsPartTurn home terms moment call reply calls calls' =
    (reply ≡ (node_step (place_under home terms) moment call (solo_in home terms calls)).reply)
    × (solo_in home terms calls' ≡ (node_step (place_under home terms) moment call (solo_in home terms calls)).after)

-- the call and its reply join the slot's calls, unless these were too many
abbrev pub JoinsAudit : ℕ → ℕ → NodeCall → NodeReply → List (List AuditEntry) → List (List AuditEntry) → Type 0
JoinsAudit slot moment call reply audit audit' =
    ((reply ≡ Refused AuditFull) × (audit' ≡ audit)) ⊎ (audit' ≡ noted slot (record { moment = moment; call = call; reply = reply }) audit)

-- there is room for one more call after these
abbrev pub HasPartRoom : Home → Part → List AuditEntry → Type 0
HasPartRoom home part calls = IsTrue (nat_lt (length (solo_in home part.terms calls).trail) part.terms.quota.audit)

-- ---- tenants that come and go

-- the most slots of a node
abbrev pub MOST_SLOTS : ℕ
MOST_SLOTS = 64

-- the slot has a tenant, or is beyond the node's limit
abbrev pub is_taken : ℕ → Shared → Bool
is_taken slot node = nat_le MOST_SLOTS slot || is_some (place_at slot node)

-- why the slot cannot be given to a tenant
abbrev pub admit_refusal : ℕ → Shared → Option Fault
admit_refusal slot node = refused_if (is_taken slot node) NoSlot

-- another slot stays the same: its tenant, its calls, and so what it represents
abbrev pub IsSlotKept : ℕ → Shared → Shared → Type 0
IsSlotKept other old new = (place_at other new ≡ place_at other old) × (trail_of other new.audit ≡ trail_of other old.audit)

abbrev pub quota_eq : Quota → Quota → Bool
quota_eq a b =
    nat_eq a.versions b.versions && nat_eq a.bytes b.bytes && nat_eq a.outbox b.outbox && nat_eq a.contexts b.contexts && nat_eq a.deps b.deps
    && nat_eq a.actors b.actors && nat_eq a.audit b.audit

-- the terms are the tenant's first clock and quota
abbrev pub is_opened_as : Tenant → Option Terms → Bool
is_opened_as tenant None = false
is_opened_as tenant (Some terms) = nat_eq terms.first_clock tenant.first_clock && quota_eq terms.quota tenant.quota

-- ---- turns of a machine

-- the turn of a slot's solo node, which joins the slot's trail unless that is full, and changes no other slot; without a tenant there is no turn,
-- and nothing changes
pub record IsMachineTurn (old : Shared) (slot moment : ℕ) (call : NodeCall) (reply : NodeReply) (new : Shared) : Type 0 where
  pub own : (place : Place) → place_at slot old ≡ Some place → IsSoloTurn slot moment call reply place old new
  pub noted : IsSome (place_at slot old) → JoinsTrail slot moment call reply old new
  pub vacant : place_at slot old ≡ None → (reply ≡ Refused UnknownTenant) × (new ≡ old)
  pub others : (other : ℕ) → other ≢ slot → trail_of other new.audit ≡ trail_of other old.audit
  pub home : new.home ≡ old.home
  pub terms : new.terms ≡ old.terms

-- the call may come to this node, for any slot
abbrev pub FitsNode : Home → ℕ → NodeCall → Type 0
FitsNode home slot call = IsTrue (fits (place_in home.shape home.id) call)
