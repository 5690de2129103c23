-- What the threads of a service do with their seats whose tenants come and go, as deeds in their lives.
use Rattle.std.proofs.Common.{◌≡◌, ℕ, zero, suc, ◌<◌, true, false, not, ◌==◌, ◌&&◌, nat_lt, lt-ltb, List, [], ◌∷◌, ◌++◌, map, inl, inr, refl, sym, ◌∙◌, ap, subst, arith}
use Rattle.std.specs.Prelude.{Some, None, slice_get}
use Rattle.std.specs.List.{AllByRecursion}
use Rattle.std.proofs.lemmas.Bool.Decides.{Decides-eqb}
use Rattle.cops_types.specs.declared.configs.Config.{Config}
use Rattle.cops_types.specs.declared.configs.Tenant.{Tenant}
use Rattle.cops_types.specs.declared.faults.Fault.TheVariants.{GateSpent, OutOfMemory}
use Rattle.cops_types.specs.TenantConfig.{tenant_config}
use Rattle.cops_types.proofs.Elements.{Every-append, and_true}
use Rattle.cops_model.specs.Carrier.{Carrier, new_carrier}
use Rattle.cops_model.specs.Cluster.{has_node, has_stream}
use Rattle.cops_model.specs.declared.calls.NodeCall.{NodeCall}
use Rattle.cops_model.specs.declared.calls.NodeCall.TheVariants as node_call
use Rattle.cops_model.specs.declared.calls.NodeId.{NodeId}
use Rattle.cops_model.specs.declared.calls.NodeReply.{NodeReply}
use Rattle.cops_model.specs.MainTheorem.{with_tenant_alone}
use Rattle.cops_node.specs.declared.hosted.SlotReply.TheVariants as told
use Rattle.cops_node.specs.Hosting.{Hosted, IsSlotTurn}
use Rattle.cops_node.specs.Lacking.{MayLackAtSlot}
use Rattle.cops_service.specs.Carried.{TakesSteps, carried_stream}
use Rattle.cops_service.specs.Gates.{Gates, HasSeenMore, IsToldAtGate, openings}
use Rattle.cops_service.specs.HostedCrews.{CallsInLife, CollectsPlace, DeliversInLife, life_of_place}
use Rattle.cops_service.specs.HostedDesks.{HostedSeat}
use Rattle.cops_service.specs.LifeCrews.{ConversesInLife, ServesInLife}
use Rattle.cops_service.specs.Noted.{IsBetweenCentres, IsNodeThere}
use Rattle.cops_service.specs.Repeated.{Repeats}
use Rattle.cops_service.specs.declared.roster.Life.{Life}
use Rattle.cops_history.specs.History.{Behaves}
use Rattle.cops_history.specs.Turns.{Turn as CallTurn}
use Rattle.cops_served.specs.Conversations.{MakesTurns, turns_of_told}
use Rattle.cops_whole.specs.Clients.{AreSessionsOf, Conversation, conversation_in}
use Rattle.cops_whole.specs.LifeClients.{AreSessionsInLives, LifeConversation, in_life, served_in, served_once}
use Rattle.cops_whole.specs.LivesRuns.{Deed, SlotCallThere, calls_of_host, is_of_host}
use Rattle.cops_whole.specs.LivesRuns.Deed.{Acts, Hosts}
use Rattle.cops_whole.specs.Seats.{BehavesInSlot, MakesAll, SlotActor}
use Rattle.cops_whole.specs.Threads.{AreCallsOfActors}
use Rattle.cops_whole.proofs.AtShards.{Within, all_converse_there, delivers_there, same_conversations}
use Rattle.cops_whole.proofs.Nodes.{some_same}
use Rattle.cops_whole.proofs.SeatsStay.{StaysSeat, later_seat, more_seen, same_seat, told_seat}
use Rattle.cops_whole.proofs.SeenMore.{seen_both, seen_none, seen_same}
use Rattle.cops_whole.proofs.Threads.{collects, delivered, sessions_worked, worked}

-- ---- deeds at a gate

-- the only tenant of a configuration
alone : (tenant other : Tenant) (slot : ℕ) → slice_get (tenant ∷ []) slot ≡ Some other → other ≡ tenant
alone tenant other zero is = sym (some_same tenant other is)
alone tenant other (suc slot) is = cc

-- if it is a deed of an actor in the life, that behaves as this tenant's
abbrev pub BehavesAs : Config → Tenant → ℕ → ℕ → Deed → Type 0
BehavesAs config tenant slot life (Acts actor) = actor.slot ≡ slot → actor.life ≡ life → Behaves (tenant_config config tenant) None actor.did
BehavesAs config tenant slot life (Hosts call) = Unit {0}

module _ (config : Config) (cluster : Gates Hosted) where
  -- a call of the host: its reply, out of memory and exhausted tickets among them
  abbrev pub IsHostTold : HostedSeat → SlotCallThere → HostedSeat → Type 0
  IsHostTold old c new =
      IsToldAtGate IsSlotTurn MayLackAtSlot (told.Refused OutOfMemory) (told.Refused GateSpent) c.entry.slot c.entry.moment c.entry.call c.entry.reply (openings cluster) c.node old new

  abbrev pub CallsThere : ℕ → ℕ → HostedSeat → NodeId → ℕ → ℕ → NodeCall → NodeReply → HostedSeat → Type 0
  CallsThere slot life = Within (CallsInLife cluster (record { slot = slot; number = life })) config.shards

  abbrev pub DoesOneThere : HostedSeat → Deed → HostedSeat → Type 0
  DoesOneThere old (Acts actor) new = MakesTurns (CallsThere actor.slot actor.life) actor.slot old (turns_of_told actor.did) new
  DoesOneThere old (Hosts c) new = (is_of_host c.entry.call ≡ true) × IsHostTold old c new

  abbrev pub DoesAllThere : HostedSeat → List Deed → HostedSeat → Type 0
  DoesAllThere old [] new = HasSeenMore old new
  DoesAllThere old (deed ∷ deeds) new = (seen : HostedSeat) × HasSeenMore old seen × (mid : HostedSeat) × DoesOneThere seen deed mid × DoesAllThere mid deeds new

  does_later : (deeds : List Deed) (old seen new : HostedSeat) → HasSeenMore old seen → DoesAllThere seen deeds new → DoesAllThere old deeds new
  does_later [] old seen new more again = seen_both old seen new more again
  does_later (deed ∷ deeds) old seen new more (later, again, mid, one, rest) = (later, seen_both old seen later more again, mid, one, rest)

  pub does_both : (deeds later : List Deed) (old mid new : HostedSeat) → DoesAllThere old deeds mid → DoesAllThere mid later new → DoesAllThere old (deeds ++ later) new
  does_both [] later old mid new first second = does_later later old mid new first second
  does_both (deed ∷ deeds) later old mid new (seen, more, between, one, first) second = (seen, more, between, one, does_both deeds later between mid new first second)

  pub after_turns : (slot life : ℕ) (ts : List CallTurn) (old new : HostedSeat) → MakesTurns (CallsThere slot life) slot old ts new → StaysSeat old new
  after_turns slot life [] old new same = same_seat old new same
  after_turns slot life (t ∷ ts) old new (mid, (below, (answer, reply_is, call)), later) = later_seat old mid new (told_seat old mid call) (after_turns slot life ts mid new later)

  after_one : (deed : Deed) (old new : HostedSeat) → DoesOneThere old deed new → StaysSeat old new
  after_one (Acts a) old new did = after_turns a.slot a.life (turns_of_told a.did) old new did
  after_one (Hosts c) old new (is, call) = told_seat old new call

  pub after_all : (deeds : List Deed) (old new : HostedSeat) → DoesAllThere old deeds new → StaysSeat old new
  after_all [] old new more = more_seen old new more
  after_all (deed ∷ deeds) old new (seen, more, mid, one, later) =
      later_seat old seen new (more_seen old seen more) (later_seat seen mid new (after_one deed seen mid one) (after_all deeds mid new later))

  -- deeds of actors, of which those of each life behave as its tenant's do
  pub record Deeds (who : ℕ → ℕ → Tenant) (old new : HostedSeat) : Type 0 where
    pub deeds : List Deed
    pub did : DoesAllThere old deeds new
    pub acts : calls_of_host deeds ≡ []
    pub behave : (slot life : ℕ) → AllByRecursion (BehavesAs config (who slot life) slot life) deeds

  hosts_both : (deeds later : List Deed) → calls_of_host (deeds ++ later) ≡ calls_of_host deeds ++ calls_of_host later
  hosts_both [] later = refl
  hosts_both (Acts actor ∷ deeds) later = hosts_both deeds later
  hosts_both (Hosts c ∷ deeds) later = ap (λ cs. c ∷ cs) (hosts_both deeds later)

  -- ---- actors in a life

  -- a session or a carrier names a slot, which is ignored
  any_slot : (life : Life) (slot other : ℕ) (ts : List CallTurn) (old new : HostedSeat) → MakesTurns (Within (CallsInLife cluster life) config.shards) slot old ts new → MakesTurns (CallsThere life.slot life.number) other old ts new
  any_slot life slot other [] old new same = same
  any_slot life slot other (t ∷ ts) old new (mid, call, later) = (mid, call, any_slot life slot other ts mid new later)

  abbrev deeds_of : Life → List SlotActor → List Deed
  deeds_of life actors = map (λ (a : SlotActor). Acts (record { slot = life.slot; life = life.number; did = a.did })) actors

  only_acts : (life : Life) (actors : List SlotActor) → calls_of_host (deeds_of life actors) ≡ []
  only_acts life [] = refl
  only_acts life (a ∷ actors) = only_acts life actors

  acts_there : (life : Life) (actors : List SlotActor) (old new : HostedSeat) → MakesAll (Within (CallsInLife cluster life) config.shards) old actors new → DoesAllThere old (deeds_of life actors) new
  acts_there life [] old new same = seen_same old new same
  acts_there life (a ∷ actors) old new (mid, made, later) = (old, seen_none old, mid, any_slot life a.slot life.slot (turns_of_told a.did) old mid made, acts_there life actors mid new later)

  behave_alone : (tenant : Tenant) (a : SlotActor) → BehavesInSlot (with_tenant_alone config tenant) a → Behaves (tenant_config config tenant) None a.did
  behave_alone tenant a (other, found, behaves) = subst (λ (t : Tenant). Behaves (tenant_config config t) None a.did) (alone tenant other a.slot found) behaves

  -- ---- workers

  module _ {M : Type 0} (Gives : M → ℕ → M → Type 0) (some_shards : 0 < config.shards) where
    abbrev Step : (HostedSeat × M) → (HostedSeat × M) → Type 0
    Step = ServesInLife config cluster Gives

    -- the sessions of some clients
    pub record Sessions (clients : List LifeConversation) (old new : HostedSeat) : Type 0 where
      pub deeds : List Deed
      pub did : DoesAllThere old deeds new
      pub are : AreSessionsInLives config clients deeds

    sessions_in : (life : Life) (tenant : Tenant) (cs : List Conversation) (actors : List SlotActor) → AreSessionsOf cs actors → AllByRecursion (BehavesInSlot (with_tenant_alone config tenant)) actors → AreSessionsInLives config (map (in_life life tenant) cs) (deeds_of life actors)
    sessions_in life tenant [] [] are behave = tt
    sessions_in life tenant [] (a ∷ actors) are behave = absurd are
    sessions_in life tenant (c ∷ cs) [] are behave = absurd are
    sessions_in life tenant (c ∷ cs) (a ∷ actors) (is, are) (behaves, behave) = (
      record { slot = refl; life = refl; did = is.did; opened = is.opened; answers = is.answers; behaves = behave_alone tenant a behaves },
      sessions_in life tenant cs actors are behave,
    )

    sessions_both : (first second : List LifeConversation) (deeds later : List Deed) → AreSessionsInLives config first deeds → AreSessionsInLives config second later → AreSessionsInLives config (first ++ second) (deeds ++ later)
    sessions_both [] second [] later one two = two
    sessions_both [] second (d ∷ deeds) later one two = absurd one
    sessions_both (c ∷ first) second [] later one two = absurd one
    sessions_both (c ∷ first) second (d ∷ deeds) later one two = (one.0, sessions_both first second deeds later one.1 two)

    abbrev client_in : (life : Life) (tenant : Tenant) (first last : HostedSeat × M) → ConversesInLife config cluster Gives life tenant first last → List LifeConversation
    client_in life tenant first last h = map (in_life life tenant) (conversation_in (CallsInLife cluster life) Gives (with_tenant_alone config tenant) first.0 last.0 first.1 last.1 h)

    pub conversed : (life : Life) (tenant : Tenant) (first last : HostedSeat × M) (h : ConversesInLife config cluster Gives life tenant first last) → Sessions (client_in life tenant first last h) first.0 last.0
    conversed life tenant first last h =
        let alone_config : Config = with_tenant_alone config tenant in
        let there = all_converse_there (CallsInLife cluster life) Gives alone_config some_shards 1 first.0 last.0 first.1 last.1 (first.0, first.1, (refl, refl), h) in
        let acted = worked (Within (CallsInLife cluster life) config.shards) Gives alone_config 1 first.0 last.0 first.1 last.1 there in
        let sessions : AreSessionsOf (conversation_in (CallsInLife cluster life) Gives alone_config first.0 last.0 first.1 last.1 h) acted.actors =
        subst (λ cs. AreSessionsOf cs acted.actors) (same_conversations (CallsInLife cluster life) Gives alone_config some_shards 1 first.0 last.0 first.1 last.1 (first.0, first.1, (refl, refl), h))
        (sessions_worked (Within (CallsInLife cluster life) config.shards) Gives alone_config 1 first.0 last.0 first.1 last.1 there) in
        record {
          deeds = deeds_of life acted.actors;
          did = acts_there life acted.actors first.0 last.0 acted.made;
          are = sessions_in life tenant (conversation_in (CallsInLife cluster life) Gives alone_config first.0 last.0 first.1 last.1 h) acted.actors sessions acted.behave;
        }

    pub served_here : (first last : HostedSeat × M) (step : Step first last) → Sessions (served_once Gives first.1 config cluster first last step) first.0 last.0
    served_here first last (inl none) = record { deeds = []; did = none.0; are = tt }
    served_here first last (inr (seen, more, life, tenant, shown, h)) =
        let s = conversed life tenant (seen, first.1) last h in
        record { deeds = s.deeds; did = does_later s.deeds first.0 seen last.0 more s.did; are = s.are }

    pub all_served : (moments : M) (count : ℕ) (first last : HostedSeat × M) (steps : Repeats Step count first last) → Sessions (served_in Gives moments config cluster count first last steps) first.0 last.0
    all_served moments zero first last same = record { deeds = []; did = seen_same first.0 last.0 (ap (λ (s : HostedSeat × M). s.0) same); are = tt }
    all_served moments (suc count) first last (between, earlier, step) =
        let one = all_served moments count first between earlier in
        let two = served_here between last step in
        record {
          deeds = one.deeds ++ two.deeds;
          did = does_both one.deeds two.deeds first.0 between.0 last.0 one.did two.did;
          are = sessions_both (served_in Gives moments config cluster count first between earlier) (served_once Gives between.1 config cluster between last step) one.deeds two.deeds one.are two.are;
        }

  -- ---- carriers and collectors

  pub none : (who : ℕ → ℕ → Tenant) (old new : HostedSeat) → new ≡ old → Deeds who old new
  none who old new same = record { deeds = []; did = seen_same old new same; acts = refl; behave = λ slot life. tt }

  pub both : (who : ℕ → ℕ → Tenant) (old mid new : HostedSeat) → Deeds who old mid → Deeds who mid new → Deeds who old new
  both who old mid new first second = record {
    deeds = first.deeds ++ second.deeds;
    did = does_both first.deeds second.deeds old mid new first.did second.did;
    acts = hosts_both first.deeds second.deeds ∙ (λ i. first.acts i ++ second.acts i);
    behave = λ slot life. Every-append (BehavesAs config (who slot life) slot life) first.deeds second.deeds (first.behave slot life) (second.behave slot life);
  }

  -- actors of the life's tenant
  of_tenant : (who : ℕ → ℕ → Tenant) (life : Life) (old new : HostedSeat) → AreCallsOfActors (Within (CallsInLife cluster life) config.shards) (with_tenant_alone config (who life.slot life.number)) old new → Deeds who old new
  of_tenant who life old new acted = record {
    deeds = deeds_of life acted.actors;
    did = acts_there life acted.actors old new acted.made;
    acts = only_acts life acted.actors;
    behave = λ slot number. all slot number acted.actors acted.behave;
  }
    where
      all : (slot number : ℕ) (actors : List SlotActor) → AllByRecursion (BehavesInSlot (with_tenant_alone config (who life.slot life.number))) actors → AllByRecursion (BehavesAs config (who slot number) slot number) (deeds_of life actors)
      all slot number [] behave = tt
      all slot number (a ∷ actors) (behaves, behave) = (
        (λ at its. subst (λ n. Behaves (tenant_config config (who n number)) None a.did) at (subst (λ n. Behaves (tenant_config config (who life.slot n)) None a.did) its (behave_alone (who life.slot life.number) a behaves))),
        all slot number actors behave,
      )

  stream_there : (tenant : Tenant) (stream : _) → IsBetweenCentres config stream → has_stream (tenant_config (with_tenant_alone config tenant) tenant) stream.from.id.dc stream.from.id.shard stream.to_dc ≡ true
  stream_there tenant stream there =
      let own = tenant_config config tenant in
      let id = stream.from.id in
      let node : has_node own id.dc id.shard ≡ true =
      and_true (nat_lt id.dc config.data_centres) (nat_lt id.shard config.shards) (lt-ltb id.dc config.data_centres there.from.dc_exists) (lt-ltb id.shard config.shards there.from.shard_exists) in
      and_true (has_node own id.dc id.shard && nat_lt stream.to_dc config.data_centres) (not (id.dc == stream.to_dc))
      (and_true (has_node own id.dc id.shard) (nat_lt stream.to_dc config.data_centres) node (lt-ltb stream.to_dc config.data_centres there.dc_exists)) other
    where
      other : not (stream.from.id.dc == stream.to_dc) ≡ true
      other = elim (stream.from.id.dc == stream.to_dc) as (λ b. (stream.from.id.dc == stream.to_dc) ≡ b → not b ≡ true) [
        | true ↦ λ same. absurd (there.to_another (sym ((Decides-eqb stream.from.id.dc stream.to_dc).0 same)))
        | false ↦ λ differ. refl
      ] refl

  any_steps : (life : Life) (slot other count : ℕ) (old new : HostedSeat) (before after : Carrier) → TakesSteps (CallsInLife cluster life) config.shards slot count old before new after → TakesSteps (CallsInLife cluster life) config.shards other count old before new after
  any_steps life slot other zero old new before after same = same
  any_steps life slot other (suc count) old new before after (between, middle, steps, step) = (between, middle, any_steps life slot other count old between before middle steps, step)

  carried : (who : ℕ → ℕ → Tenant) (stream : _) (old new : HostedSeat) → IsBetweenCentres config stream → DeliversInLife config cluster stream old new → Deeds who old new
  carried who stream old new there (ending, (count, last, steps, ends)) =
      let life : Life = life_of_place stream.from in
      let tenant : Tenant = who life.slot life.number in
      let below : stream.from.id.shard < config.shards = there.from.shard_exists in
      of_tenant who life old new (delivered (Within (CallsInLife cluster life) config.shards) (with_tenant_alone config tenant) tenant 0 (carried_stream stream) ending old new refl (stream_there tenant stream there)
      (delivers_there (CallsInLife cluster life) config.shards 0 (omega (arith, below)) (carried_stream stream) below old new ending
      (count, last, any_steps life stream.from.slot 0 count old new (new_carrier (carried_stream stream)) last steps, ends)))

  pub all_carried : (who : ℕ → ℕ → Tenant) (count : ℕ) (old new : HostedSeat) → Repeats (λ first last. (stream : _) × IsBetweenCentres config stream × DeliversInLife config cluster stream first last) count old new → Deeds who old new
  all_carried who zero old new same = none who old new same
  all_carried who (suc count) old new (between, earlier, (stream, there, delivers)) = both who old between new (all_carried who count old between earlier) (carried who stream between new there delivers)

  collected : (who : ℕ → ℕ → Tenant) (place : _) (old new : HostedSeat) → IsNodeThere config place → (moment : ℕ) (reply : NodeReply) → CallsInLife cluster (life_of_place place) old place.id place.slot moment node_call.Collect reply new → Deeds who old new
  collected who place old new there moment reply called =
      let life : Life = life_of_place place in
      let tenant : Tenant = who life.slot life.number in
      of_tenant who life old new (collects (Within (CallsInLife cluster life) config.shards) (with_tenant_alone config tenant) tenant 0 place.id moment reply old new refl (there.shard_exists, called))

  pub all_collected : (who : ℕ → ℕ → Tenant) (count : ℕ) (old new : HostedSeat) → Repeats (λ first last. (place : _) × IsNodeThere config place × CollectsPlace config cluster place first last) count old new → Deeds who old new
  all_collected who zero old new same = none who old new same
  all_collected who (suc count) old new (between, earlier, (place, there, (moment, reply, called))) = both who old between new (all_collected who count old between earlier) (collected who place between new there moment reply called)
