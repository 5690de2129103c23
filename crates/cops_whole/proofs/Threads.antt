-- What the threads of a service do, as actors.
use Rattle.std.proofs.Common.{◌≡◌, ℕ, zero, suc, true, List, [], ◌∷◌, ◌++◌, max, inl, inr, refl, ap, subst}
use Rattle.std.specs.Prelude.{Some, None, slice_get}
use Rattle.cops_types.specs.declared.configs.Config.{Config}
use Rattle.cops_types.specs.declared.configs.Tenant.{Tenant}
use Rattle.cops_types.specs.TenantConfig.{TenantConfig, tenant_config}
use Rattle.cops_types.proofs.Elements.{Every-append}
use Rattle.cops_model.specs.declared.calls.NodeCall.{NodeCall}
use Rattle.cops_model.specs.declared.calls.NodeCall.TheVariants as node_call
use Rattle.cops_model.specs.declared.calls.NodeId.{NodeId}
use Rattle.cops_model.specs.declared.calls.NodeReply.{NodeReply}
use Rattle.cops_model.specs.declared.deliveries.Delivery.{Delivery}
use Rattle.cops_model.specs.declared.deliveries.Progress.TheVariants.{Working}
use Rattle.cops_model.specs.declared.replies.Reply.TheVariants as reply
use Rattle.cops_model.specs.Carrier.{Carrier, Stream, carrier_next, delivery_progress, new_carrier, progress_of}
use Rattle.cops_model.specs.Cluster.{has_stream}
use Rattle.cops_model.specs.Log.{Call, Directed, LogStep, Replied}
use Rattle.cops_service.specs.Carried.{Delivers, TakesSteps}
use Rattle.cops_service.specs.Conversing.{ConverseAll, Converses}
use Rattle.cops_wire.specs.Conversation.{ConversesInPart, HasConversed}
use Rattle.cops_wire.specs.declared.messages.Message.{Message}
use Rattle.cops_wire.specs.declared.serving.Ended.{Ended}
use Rattle.cops_history.specs.Commands.{Begins, Opens}
use Rattle.cops_served.specs.Conversations.{IsConversationOf, MakesTurns, turns_of_told}
use Rattle.cops_served.proofs.Sessions.{conversation, greeted_there}
use Rattle.cops_served.proofs.Streams.{CarriedFrom, begun, collected, steps_last, steps_on}
use Rattle.cops_whole.specs.Seats.{BehavesInSlot, MakesAll, SlotActor}
use Rattle.cops_whole.specs.Clients.{AreSessionsOf, Conversation, conversation_in, conversations_in}
use Rattle.cops_whole.specs.Threads.{AreCallsOfActors}

-- ---- lists of actors

module _ {N : Type 0} (Calls : N → NodeId → ℕ → ℕ → NodeCall → NodeReply → N → Type 0) (config : Config) where
  all_both : (actors later : List SlotActor) (old mid new : N) → MakesAll Calls old actors mid → MakesAll Calls mid later new → MakesAll Calls old (actors ++ later) new
  all_both [] later old mid new first second = subst (λ n. MakesAll Calls n later new) first second
  all_both (a ∷ actors) later old mid new first second = (first.0, first.1, all_both actors later first.0 mid new first.2 second)

  pub none : (old new : N) → new ≡ old → AreCallsOfActors Calls config old new
  none old new same = record { actors = []; behave = tt; made = same }

  one : (actor : SlotActor) (old new : N) → BehavesInSlot config actor → MakesTurns Calls actor.slot old (turns_of_told actor.did) new → AreCallsOfActors Calls config old new
  one actor old new behaves made = record { actors = actor ∷ []; behave = (behaves, tt); made = (new, made, refl) }

  pub both : (old mid new : N) → AreCallsOfActors Calls config old mid → AreCallsOfActors Calls config mid new → AreCallsOfActors Calls config old new
  both old mid new first second = record {
    actors = first.actors ++ second.actors;
    behave = Every-append (BehavesInSlot config) first.actors second.actors first.behave second.behave;
    made = all_both first.actors second.actors old mid new first.made second.made;
  }

-- ---- workers

sessions_both : (earlier : List Conversation) (actors : List SlotActor) (later : List Conversation) (others : List SlotActor) → AreSessionsOf earlier actors → AreSessionsOf later others → AreSessionsOf (earlier ++ later) (actors ++ others)
sessions_both [] [] later others first second = second
sessions_both [] (a ∷ actors) later others first second = absurd first
sessions_both (c ∷ earlier) [] later others first second = absurd first
sessions_both (c ∷ earlier) (a ∷ actors) later others first second = (first.0, sessions_both earlier actors later others first.1 second)

module _ {N M : Type 0} (Calls : N → NodeId → ℕ → ℕ → NodeCall → NodeReply → N → Type 0) (Gives : M → ℕ → M → Type 0) (config : Config) where
  of_conversation : (slot dc : ℕ) (tenant : Tenant) (old new : N) (requests messages : List Message) → slice_get config.tenants slot ≡ Some tenant → IsConversationOf Calls (tenant_config config tenant) slot dc old new requests messages → AreCallsOfActors Calls config old new
  of_conversation slot dc tenant old new requests messages found c = one Calls config (record { slot = slot; did = record { command = Opens dc; reply = reply.Opened } ∷ c.did }) old new (tenant, found, c.behaves) c.made

  -- the session of a conversation to the end, and of one in part
  by_whole : (old new : N) (moments new_moments : M) (ended : Ended) (h : HasConversed Calls Gives config None None None None old new moments new_moments ended) → IsConversationOf Calls (tenant_config config h.tenant) h.slot h.dc old new h.serves.requests h.serves.replies
  by_whole old new moments new_moments ended h =
      conversation Calls Gives (tenant_config config h.tenant) h.slot h.dc h.serves.requests h.serves.replies old new moments new_moments h.after (greeted_there config.tenants config.data_centres (slice_get h.greets.messages 0) h.slot h.dc h.greets.answer_is) h.serves.served

  by_part : (old new : N) (moments new_moments : M) (h : ConversesInPart Calls Gives config None None None old new moments new_moments) → IsConversationOf Calls (tenant_config config h.tenant) h.slot h.dc old new h.serves.requests h.serves.replies
  by_part old new moments new_moments h =
      conversation Calls Gives (tenant_config config h.tenant) h.slot h.dc h.serves.requests h.serves.replies old new moments new_moments h.after (greeted_there config.tenants config.data_centres (slice_get h.greets.messages 0) h.slot h.dc h.greets.answer_is) h.serves.served

  converses : (old new : N) (moments new_moments : M) → Converses Calls Gives config old new moments new_moments → AreCallsOfActors Calls config old new
  converses old new moments new_moments (inl (ended, h)) = of_conversation h.slot h.dc h.tenant old new h.serves.requests h.serves.replies h.tenant_is (by_whole old new moments new_moments ended h)
  converses old new moments new_moments (inr (inl (greeted, same, same_moments))) = none Calls config old new same
  converses old new moments new_moments (inr (inr h)) = of_conversation h.slot h.dc h.tenant old new h.serves.requests h.serves.replies h.tenant_is (by_part old new moments new_moments h)

  pub worked : (count : ℕ) (old new : N) (moments new_moments : M) → ConverseAll Calls Gives config count old new moments new_moments → AreCallsOfActors Calls config old new
  worked zero old new moments new_moments (same, same_moments) = none Calls config old new same
  worked (suc count) old new moments new_moments (between, middle, earlier, last) =
      both Calls config old between new (worked count old between moments middle earlier) (converses between new middle new_moments last)

  -- ---- the actors of workers are sessions

  session : (slot dc : ℕ) (tenant : Tenant) (old new : N) (requests messages : List Message) (found : slice_get config.tenants slot ≡ Some tenant) (c : IsConversationOf Calls (tenant_config config tenant) slot dc old new requests messages) →
      AreSessionsOf (record { slot = slot; dc = dc; requests = requests; replies = messages } ∷ []) (of_conversation slot dc tenant old new requests messages found c).actors
  unfolding of_conversation one
  session slot dc tenant old new requests messages found c = (record { slot = refl; did = c.did; opened = refl; answers = c.answers }, tt)

  sessions_here : (old new : N) (moments new_moments : M) (h : Converses Calls Gives config old new moments new_moments) → AreSessionsOf (conversation_in Calls Gives config old new moments new_moments h) (converses old new moments new_moments h).actors
  unfolding converses none
  sessions_here old new moments new_moments (inl (ended, h)) = session h.slot h.dc h.tenant old new h.serves.requests h.serves.replies h.tenant_is (by_whole old new moments new_moments ended h)
  sessions_here old new moments new_moments (inr (inl (greeted, same, same_moments))) = tt
  sessions_here old new moments new_moments (inr (inr h)) = session h.slot h.dc h.tenant old new h.serves.requests h.serves.replies h.tenant_is (by_part old new moments new_moments h)

  pub sessions_worked : (count : ℕ) (old new : N) (moments new_moments : M) (h : ConverseAll Calls Gives config count old new moments new_moments) →
      AreSessionsOf (conversations_in Calls Gives config count old new moments new_moments h) (worked count old new moments new_moments h).actors
  unfolding worked none both
  sessions_worked zero old new moments new_moments (same, same_moments) = tt
  sessions_worked (suc count) old new moments new_moments (between, middle, earlier, last) =
      sessions_both (conversations_in Calls Gives config count old between moments middle earlier) (worked count old between moments middle earlier).actors
      (conversation_in Calls Gives config between new middle new_moments last) (converses between new middle new_moments last).actors
      (sessions_worked count old between moments middle earlier) (sessions_here between new middle new_moments last)

-- ---- carriers

module _ {N : Type 0} (Calls : N → NodeId → ℕ → ℕ → NodeCall → NodeReply → N → Type 0) (config : Config) (tenant : Tenant) (slot : ℕ) where
  abbrev own : TenantConfig
  own = tenant_config config tenant

  -- the steps before those that are known
  earlier_steps : (count : ℕ) (old mid new : N) (before middle : Carrier) (d : Directed) → TakesSteps Calls config.shards slot count old before mid middle → carrier_next config.shards middle.stream middle.log ≡ Call d →
      CarriedFrom Calls own slot middle mid new → CarriedFrom Calls own slot before old new
  earlier_steps zero old mid new before middle d (same_nodes, same_carrier) asks from =
      subst (λ n. CarriedFrom Calls own slot before n new) same_nodes (subst (λ k. CarriedFrom Calls own slot k mid new) same_carrier from)
  earlier_steps (suc count) old mid new before middle d (between, last, steps, (directed, moment, reply, asked, called, after_is)) asks from =
      let step : LogStep = record { moment = max last.moment moment; outcome = Replied reply } in
      let works : delivery_progress config.shards last step ≡ Working = ap progress_of (subst (λ (k : Carrier). carrier_next config.shards k.stream k.log ≡ Call d) after_is asks) in
      earlier_steps count old between new before last directed steps asked
      (steps_on Calls own slot last directed moment reply between mid new asked called works (subst (λ k. CarriedFrom Calls own slot k mid new) after_is from))

  all_steps : (count : ℕ) (old new : N) (before after : Carrier) → TakesSteps Calls config.shards slot count old before new after → CarriedFrom Calls own slot before old new
  all_steps zero old new before after (same_nodes, same_carrier) = record { did = []; behaves = tt; made = same_nodes }
  all_steps (suc count) old new before after (between, last, steps, (directed, moment, reply, asked, called, after_is)) =
      earlier_steps count old between new before last directed steps asked (steps_last Calls own slot last directed moment reply between new asked called)

  pub delivered : (stream : Stream) (ending : Delivery) (old new : N) → slice_get config.tenants slot ≡ Some tenant → has_stream (tenant_config config tenant) stream.origin.dc stream.origin.shard stream.to_dc ≡ true → Delivers Calls config.shards slot stream old new ending →
      AreCallsOfActors Calls config old new
  delivered stream ending old new found there (count, last, steps, ends) =
      let c = begun Calls own slot stream old new there (all_steps count old new (new_carrier stream) last steps) in
      one Calls config (record { slot = slot; did = record { command = Begins stream; reply = reply.Started } ∷ c.did }) old new (tenant, found, c.behaves) c.made

  -- ---- collections

  pub collects : (id : NodeId) (moment : ℕ) (node : NodeReply) (old new : N) → slice_get config.tenants slot ≡ Some tenant → Calls old id slot moment node_call.Collect node new → AreCallsOfActors Calls config old new
  collects id moment node old new found called =
      let c = collected Calls own slot id moment node old new called in
      one Calls config (record { slot = slot; did = c.did }) old new (tenant, found, c.behaves) c.made
