-- Connections at the nodes of a cluster.
use Rattle.std.proofs.Common.{◌≡◌, ℕ, true, false, ◌<◌, Bool, eqb, List, [], ◌∷◌, ◌++◌, inl, inr, refl, sym, ap, subst, ◌∙◌}
use Rattle.std.specs.Prelude.{length, nat_lt}
use Rattle.std.proofs.lemmas.Bool.{eqb-true, eqb-false}
use Rattle.cops_types.specs.declared.configs.Config.{Config}
use Rattle.cops_types.specs.declared.faults.Fault.TheVariants.{AuditFull, OutOfMemory}
use Rattle.cops_types.specs.TenantConfig.{TenantConfig, tenant_config}
use Rattle.cops_model.specs.declared.calls.NodeCall.{NodeCall}
use Rattle.cops_model.specs.declared.calls.NodeId.{NodeId}
use Rattle.cops_model.specs.declared.calls.NodeReply.{NodeReply}
use Rattle.cops_model.specs.declared.calls.NodeReply.TheVariants as node_reply
use Rattle.cops_node.specs.Clusters.{Cluster, IsTurnOf, nodes_of, solo_at}
use Rattle.cops_model.specs.SoloNode.{SoloNode}
use Rattle.cops_model.specs.Session.{Session, new_session}
use Rattle.cops_wire.specs.declared.messages.Message.{Message}
use Rattle.cops_wire.specs.Alone.{AreUninterrupted, CallsAmid, CallsCluster, CallsOf, IsConnectionToldAlone, IsServedAt, IsTenantAt, IsToldUninterrupted, OfAny, OfOthers, OwnCall, SlotCall, after_call, after_calls, call_alone, is_memory_refusal}
use Rattle.cops_wire.specs.Conversation.{IsConversation, IsConversationAt, IsReceivedAlone, IsReceivedUninterrupted}
use Rattle.cops_wire.specs.GoesAlone.{AreServedAt, GoesAlone, GoesUninterrupted, HasConversedAt, IsReceivedAsAlone, IsReceivedAsUninterrupted}
use Rattle.cops_wire.specs.Requests.{Backend, backend}
use Rattle.cops_wire.proofs.AloneLemmas.{IsOwnTurn, told_alone}
use Rattle.cops_wire.proofs.Conversations.{none_lost, received_is, received_so}
use Rattle.cops_wire.proofs.GoesAloneLemmas.{IsOwnCall, goes_alone, has_room_in}

module _ (config : TenantConfig) (slot : ℕ) where
  abbrev nodes_at : Cluster → List SoloNode
  nodes_at = nodes_of config slot

  abbrev IsAt : Cluster → Type 0
  IsAt = IsTenantAt config slot

  -- no call between
  abbrev NoCalls : List OwnCall → Type 0
  NoCalls between = between ≡ []

  -- whatever calls between
  abbrev Any : List OwnCall → Type 0
  Any between = Unit {0}

  stays : (old new : Cluster) (c : SlotCall) → IsAt old → CallsCluster old c.node c.slot c.moment c.call c.reply new → IsAt new
  stays old new c there called = record { tenant = called.0.tenants config slot there.tenant; shards = there.shards ∙ sym (ap (λ s. s.shards) called.1) }

  -- a call for another slot changes nothing, one for this slot is a call of the tenant, and one that was refused memory is none
  own_call : (old new : Cluster) (c : SlotCall) → IsAt old → CallsCluster old c.node c.slot c.moment c.call c.reply new → (calls : List OwnCall) × (nodes_at new ≡ after_calls config calls (nodes_at old))
  own_call old new c there called = by_slot (eqb c.slot slot) refl
    where
      call : OwnCall
      call = record { node = c.node; moment = c.moment; call = c.call }

      his : c.slot ≡ slot → (calls : List OwnCall) × (nodes_at new ≡ after_calls config calls (nodes_at old))
      his is = elim called.0.turn [
        | inl lack ↦ ([], ap nodes_at lack.1)
        | inr turn ↦
            let of : IsTurnOf config c.node slot c.moment c.call c.reply old new =
            subst (λ n. IsTurnOf config c.node n c.moment c.call c.reply old new) is (turn config there.shards (subst (λ n. IsTenantAt config n old) (sym is) there).tenant) in
            (call ∷ [], of.after)
      ]

      by_slot : (b : Bool) → eqb c.slot slot ≡ b → (calls : List OwnCall) × (nodes_at new ≡ after_calls config calls (nodes_at old))
      by_slot true e = his (eqb-true c.slot slot e)
      by_slot false e = ([], called.0.others config slot (λ same. eqb-false c.slot slot e (sym same)))

  after_both : (xs ys : List OwnCall) (nodes : List SoloNode) → after_calls config (xs ++ ys) nodes ≡ after_calls config ys (after_calls config xs nodes)
  after_both [] ys nodes = refl
  after_both (x ∷ xs) ys nodes = after_both xs ys _

  -- what calls between leave
  between_any : (calls : List SlotCall) (old new : Cluster) → IsAt old → CallsOf (OfAny slot) old calls new → IsAt new × ((own : List OwnCall) × (nodes_at new ≡ after_calls config own (nodes_at old)))
  between_any [] old new there is = (subst IsAt (sym is) there, ([], ap nodes_at is))
  between_any (c ∷ calls) old new there is =
      let mid = is.0 in
      let one = own_call old mid c there is.2 in
      let later = between_any calls mid new (stays old mid c there is.2) is.3 in
      (later.0, (one.0 ++ later.1.0, later.1.1 ∙ ap (after_calls config later.1.0) one.1 ∙ sym (after_both one.0 later.1.0 (nodes_at old))))

  between_others : (calls : List SlotCall) (old new : Cluster) → IsAt old → CallsOf (OfOthers slot) old calls new → IsAt new × (nodes_at new ≡ nodes_at old)
  between_others [] old new there is = (subst IsAt (sym is) there, ap nodes_at is)
  between_others (c ∷ calls) old new there is =
      let mid = is.0 in
      let later = between_others calls mid new (stays old mid c there is.2) is.3 in
      (later.0, later.1 ∙ is.2.0.others config slot is.1)

  -- a call, behind others that leave what these calls of the tenant leave
  call_behind : (Between : List OwnCall → Type 0) (id : NodeId) (moment : ℕ) (call : NodeCall) (reply : NodeReply) (old mid new : Cluster) (between : List OwnCall) → Between between
      → nodes_at mid ≡ after_calls config between (nodes_at old) → IsAt mid → CallsCluster mid id slot moment call reply new → IsOwnTurn config nodes_at IsAt Between is_memory_refusal id moment call reply old new
  call_behind Between id moment call reply old mid new between kind left there called = record {
    turn = elim called.0.turn [
      | inl lack ↦ inl (OutOfMemory, refl, lack.0)
      | inr turn ↦
          let is = turn config there.shards there.tenant in
          inr (between, kind, is.reply_is ∙ ap (λ nodes. (call_alone config id moment call nodes).reply) left, is.after ∙ ap (after_call config id moment call) left)
    ];
    there = stays mid new (record { slot = slot; node = id; moment = moment; call = call; reply = reply }) there called;
  }

  turn_alone : (id : NodeId) (moment : ℕ) (call : NodeCall) (reply : NodeReply) (old new : Cluster) → (0 < config.shards → id.shard < config.shards) → IsAt old → CallsCluster old id slot moment call reply new
      → IsOwnTurn config nodes_at IsAt NoCalls is_memory_refusal id moment call reply old new
  turn_alone id moment call reply old new has there called = call_behind NoCalls id moment call reply old old new [] refl refl there called

  turn_others : (id : NodeId) (moment : ℕ) (call : NodeCall) (reply : NodeReply) (old new : Cluster) → (0 < config.shards → id.shard < config.shards) → IsAt old → CallsAmid OfOthers old id slot moment call reply new
      → IsOwnTurn config nodes_at IsAt NoCalls is_memory_refusal id moment call reply old new
  turn_others id moment call reply old new has there called =
      let before = between_others called.0 old called.1 there called.2 in
      call_behind NoCalls id moment call reply old called.1 new [] refl before.1 before.0 called.3

  turn_any : (id : NodeId) (moment : ℕ) (call : NodeCall) (reply : NodeReply) (old new : Cluster) → (0 < config.shards → id.shard < config.shards) → IsAt old → CallsAmid OfAny old id slot moment call reply new
      → IsOwnTurn config nodes_at IsAt Any is_memory_refusal id moment call reply old new
  turn_any id moment call reply old new has there called =
      let before = between_any called.0 old called.1 there called.2 in
      call_behind Any id moment call reply old called.1 new before.1.0 tt before.1.1 before.0 called.3

-- ---- calls, memory refused or not

module _ (config : TenantConfig) (slot : ℕ) where
  -- memory is refused only to a call that the audit has room for
  room_for : (id : NodeId) (moment : ℕ) (call : NodeCall) (reply : NodeReply) (old new : Cluster) → IsTenantAt config slot old → CallsCluster old id slot moment call reply new → reply ≡ node_reply.Refused OutOfMemory →
      has_room_in config id (nodes_of config slot old)
  room_for id moment call reply old new there called lack = by (nat_lt (length (solo_at config id slot old).trail) config.quota.audit) refl
    where
      by : (b : Bool) → nat_lt (length (solo_at config id slot old).trail) config.quota.audit ≡ b → b ≡ true
      by true is = refl
      by false is = let clash : node_reply.Refused OutOfMemory ≡ node_reply.Refused AuditFull = sym lack ∙ called.0.full config there.shards there.tenant is in absurd cc

  -- a call, behind others that leave what these calls of the tenant leave
  own_behind : (Between : List OwnCall → Type 0) (id : NodeId) (moment : ℕ) (call : NodeCall) (reply : NodeReply) (old mid new : Cluster) (between : List OwnCall) → Between between
      → nodes_of config slot mid ≡ after_calls config between (nodes_of config slot old) → IsTenantAt config slot mid → CallsCluster mid id slot moment call reply new
      → IsOwnCall config (nodes_of config slot) (IsTenantAt config slot) Between id moment call reply old new
  own_behind Between id moment call reply old mid new between kind left there called = record {
    between = between;
    kind = kind;
    turn = elim called.0.turn [
      | inl lack ↦ inl (lack.0, subst (has_room_in config id) left (room_for id moment call reply mid new there called lack.0), ap (nodes_of config slot) lack.1 ∙ left)
      | inr turn ↦
          let is = turn config there.shards there.tenant in
          inr (is.reply_is ∙ ap (λ nodes. (call_alone config id moment call nodes).reply) left, is.after ∙ ap (after_call config id moment call) left)
    ];
    there = stays config slot mid new (record { slot = slot; node = id; moment = moment; call = call; reply = reply }) there called;
  }

  own_alone : (id : NodeId) (moment : ℕ) (call : NodeCall) (reply : NodeReply) (old new : Cluster) → (0 < config.shards → id.shard < config.shards) → IsTenantAt config slot old → CallsCluster old id slot moment call reply new
      → IsOwnCall config (nodes_of config slot) (IsTenantAt config slot) (λ between. between ≡ []) id moment call reply old new
  own_alone id moment call reply old new has there called = own_behind (λ between. between ≡ []) id moment call reply old old new [] refl refl there called

  own_others : (id : NodeId) (moment : ℕ) (call : NodeCall) (reply : NodeReply) (old new : Cluster) → (0 < config.shards → id.shard < config.shards) → IsTenantAt config slot old → CallsAmid OfOthers old id slot moment call reply new
      → IsOwnCall config (nodes_of config slot) (IsTenantAt config slot) (λ between. between ≡ []) id moment call reply old new
  own_others id moment call reply old new has there called =
      let before = between_others config slot called.0 old called.1 there called.2 in
      own_behind (λ between. between ≡ []) id moment call reply old called.1 new [] refl before.1 before.0 called.3

  own_any : (id : NodeId) (moment : ℕ) (call : NodeCall) (reply : NodeReply) (old new : Cluster) → (0 < config.shards → id.shard < config.shards) → IsTenantAt config slot old → CallsAmid OfAny old id slot moment call reply new
      → IsOwnCall config (nodes_of config slot) (IsTenantAt config slot) (λ between. Unit {0}) id moment call reply old new
  own_any id moment call reply old new has there called =
      let before = between_any config slot called.0 old called.1 there called.2 in
      own_behind (λ between. Unit {0}) id moment call reply old called.1 new before.1.0 tt before.1.1 before.0 called.3

-- ---- laws of connections

module _ {M : Type 0} (Gives : M → ℕ → M → Type 0) (config : TenantConfig) (slot : ℕ) (old : Backend Session Cluster M) (requests replies : List Message) (new : Backend Session Cluster M) where
  pub served_alone : IsServedAt CallsCluster Gives config slot old requests replies new → IsToldUninterrupted Gives config (nodes_of config slot) old requests replies new
  served_alone h =
      told_alone CallsCluster Gives config slot (nodes_of config slot) (IsTenantAt config slot) (λ between. between ≡ []) refl is_memory_refusal refl (turn_alone config slot) requests replies old new h.there h.served h.spared

  pub served_alone_others : IsServedAt (CallsAmid OfOthers) Gives config slot old requests replies new → IsToldUninterrupted Gives config (nodes_of config slot) old requests replies new
  served_alone_others h =
      told_alone (CallsAmid OfOthers) Gives config slot (nodes_of config slot) (IsTenantAt config slot) (λ between. between ≡ []) refl is_memory_refusal refl (turn_others config slot) requests replies old new h.there h.served h.spared

  pub served_alone_amid : IsServedAt (CallsAmid OfAny) Gives config slot old requests replies new → IsConnectionToldAlone Gives config (nodes_of config slot) old requests replies new
  served_alone_amid h =
      (told_alone (CallsAmid OfAny) Gives config slot (nodes_of config slot) (IsTenantAt config slot) (λ between. Unit {0}) tt is_memory_refusal refl (turn_any config slot) requests replies old new h.there h.served h.spared).0

  pub connection_goes : AreServedAt CallsCluster Gives config slot old requests replies new → GoesUninterrupted Gives config (nodes_of config slot) old requests replies new
  connection_goes h = goes_alone CallsCluster Gives config slot (nodes_of config slot) (IsTenantAt config slot) (λ between. between ≡ []) refl (own_alone config slot) requests replies old new h.there h.served

  pub connection_goes_others : AreServedAt (CallsAmid OfOthers) Gives config slot old requests replies new → GoesUninterrupted Gives config (nodes_of config slot) old requests replies new
  connection_goes_others h = goes_alone (CallsAmid OfOthers) Gives config slot (nodes_of config slot) (IsTenantAt config slot) (λ between. between ≡ []) refl (own_others config slot) requests replies old new h.there h.served

  pub connection_goes_amid : AreServedAt (CallsAmid OfAny) Gives config slot old requests replies new → GoesAlone Gives config (nodes_of config slot) old requests replies new
  connection_goes_amid h = (goes_alone (CallsAmid OfAny) Gives config slot (nodes_of config slot) (IsTenantAt config slot) (λ between. Unit {0}) tt (own_any config slot) requests replies old new h.there h.served).0

-- ---- laws of conversations

module _ {M : Type 0} (Gives : M → ℕ → M → Type 0) (config : Config) (sent received : List ℕ) (nodes new_nodes : Cluster) (moments new_moments : M) where
  module _ (Calls : Cluster → NodeId → ℕ → ℕ → NodeCall → NodeReply → Cluster → Type 0) (h : IsConversationAt Calls Gives config sent received nodes new_nodes moments new_moments) where
    -- what the connection behind the greeting was given
    served_at : IsServedAt Calls Gives (tenant_config config h.conversation.conversed.tenant) h.conversation.conversed.slot (backend (new_session h.conversation.conversed.dc 1) nodes moments)
        h.conversation.conversed.serves.requests h.conversation.conversed.serves.replies (backend h.conversation.conversed.after new_nodes new_moments)
    served_at = record { there = h.there; served = h.conversation.conversed.serves.served; spared = h.conversation.spared }

  pub conversation_alone : IsConversationAt CallsCluster Gives config sent received nodes new_nodes moments new_moments → IsReceivedUninterrupted Gives nodes_of config sent received nodes new_nodes moments new_moments
  conversation_alone h =
      let told = served_alone Gives _ _ _ _ _ _ (served_at CallsCluster h) in
      let all = received_is CallsCluster Gives is_memory_refusal nodes_of config sent received nodes new_nodes moments new_moments h.conversation told.0 in
      (all.0, subst AreUninterrupted (sym all.1) told.1)

  pub conversation_alone_others : IsConversationAt (CallsAmid OfOthers) Gives config sent received nodes new_nodes moments new_moments → IsReceivedUninterrupted Gives nodes_of config sent received nodes new_nodes moments new_moments
  conversation_alone_others h =
      let told = served_alone_others Gives _ _ _ _ _ _ (served_at (CallsAmid OfOthers) h) in
      let all = received_is (CallsAmid OfOthers) Gives is_memory_refusal nodes_of config sent received nodes new_nodes moments new_moments h.conversation told.0 in
      (all.0, subst AreUninterrupted (sym all.1) told.1)

  pub conversation_alone_amid : IsConversationAt (CallsAmid OfAny) Gives config sent received nodes new_nodes moments new_moments → IsReceivedAlone Gives nodes_of config sent received nodes new_nodes moments new_moments
  conversation_alone_amid h =
      (received_is (CallsAmid OfAny) Gives is_memory_refusal nodes_of config sent received nodes new_nodes moments new_moments h.conversation
      (served_alone_amid Gives _ _ _ _ _ _ (served_at (CallsAmid OfAny) h))).0

  module _ (Calls : Cluster → NodeId → ℕ → ℕ → NodeCall → NodeReply → Cluster → Type 0) (h : HasConversedAt Calls Gives config sent received nodes new_nodes moments new_moments) where
    -- the connection behind the greeting
    abbrev served_so : AreServedAt Calls Gives (tenant_config config h.conversed.tenant) h.conversed.slot (backend (new_session h.conversed.dc 1) nodes moments)
        h.conversed.serves.requests h.conversed.serves.replies (backend h.conversed.after new_nodes new_moments)
    served_so = record { there = h.there; served = h.conversed.serves.served }

    abbrev any_conversation : IsConversation Calls Gives (λ fault. false) config sent received nodes new_nodes moments new_moments
    any_conversation = record { new_remaining = h.new_remaining; ended = h.ended; conversed = h.conversed; spared = none_lost h.conversed.serves.replies }

  pub conversation_goes : HasConversedAt CallsCluster Gives config sent received nodes new_nodes moments new_moments → IsReceivedAsUninterrupted Gives nodes_of config sent received nodes new_nodes moments new_moments
  conversation_goes h =
      let told = connection_goes Gives _ _ _ _ _ _ (served_so CallsCluster h) in
      let all = received_so CallsCluster Gives (λ fault. false) nodes_of config sent received nodes new_nodes moments new_moments (any_conversation CallsCluster h) told.0 in
      (all.0, subst AreUninterrupted (sym all.1) told.1)

  pub conversation_goes_others : HasConversedAt (CallsAmid OfOthers) Gives config sent received nodes new_nodes moments new_moments → IsReceivedAsUninterrupted Gives nodes_of config sent received nodes new_nodes moments new_moments
  conversation_goes_others h =
      let told = connection_goes_others Gives _ _ _ _ _ _ (served_so (CallsAmid OfOthers) h) in
      let all = received_so (CallsAmid OfOthers) Gives (λ fault. false) nodes_of config sent received nodes new_nodes moments new_moments (any_conversation (CallsAmid OfOthers) h) told.0 in
      (all.0, subst AreUninterrupted (sym all.1) told.1)

  pub conversation_goes_amid : HasConversedAt (CallsAmid OfAny) Gives config sent received nodes new_nodes moments new_moments → IsReceivedAsAlone Gives nodes_of config sent received nodes new_nodes moments new_moments
  conversation_goes_amid h =
      (received_so (CallsAmid OfAny) Gives (λ fault. false) nodes_of config sent received nodes new_nodes moments new_moments (any_conversation (CallsAmid OfAny) h)
      (connection_goes_amid Gives _ _ _ _ _ _ (served_so (CallsAmid OfAny) h))).0
