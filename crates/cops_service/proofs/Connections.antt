-- Connections at desks: each call is one of nodes that the tenant has to itself, behind its calls by others.
use Rattle.std.proofs.Common.{◌≡◌, ℕ, zero, suc, ◌+◌, ◌/◌, ◌%◌, ◌<◌, ◌∙◌, Bool, true, false, eqb, List, [], ◌∷◌, ◌++◌, inl, inr, length, map, set, get_or, refl, sym, ap, subst, append-nil, append_assoc, IsTrue, arith}
use Rattle.std.specs.Prelude.{◌⊎◌, nat_lt, slice_get, Option, Some, None, slice_set, cond}
use Rattle.std.specs.List.{AllByRecursion}
use native.Mathlib.Nat.{mul_comm}
use Rattle.std.proofs.Math.Nat.{div-add-mod}
use Rattle.std.proofs.lemmas.Bool.{eqb-false}
use Rattle.std.proofs.lemmas.Bool.Decides.{nat_tests}
use Rattle.std.proofs.lemmas.List.{map-append}
use Rattle.cops_types.specs.declared.configs.Config.{Config}
use Rattle.cops_types.specs.declared.configs.Tenant.{Tenant}
use Rattle.cops_types.specs.declared.faults.Fault.TheVariants.{GateSpent, OutOfMemory}
use Rattle.cops_types.specs.HeadLines.{are_sizes}
use Rattle.cops_types.specs.TenantConfig.{TenantConfig, tenant_config}
use mathlib.Core.Option.{some, some-injective, some-ne-none}
use lib.ListN.{get_elem?}
use Rattle.cops_gate.specs.History.{AtNodes, LeavesLacking, entry, turn, turns_at}
use Rattle.cops_gate.specs.Seats.{Extends}
use Rattle.cops_gate.proofs.Histories.{node_mine, node_other}
use Rattle.cops_gate.proofs.Keeps.{at_below, there_at}
use Rattle.cops_model.specs.declared.calls.NodeCall.{NodeCall}
use Rattle.cops_model.specs.declared.calls.NodeId.{NodeId}
use Rattle.cops_model.specs.declared.calls.NodeReply.{NodeReply}
use Rattle.cops_model.specs.declared.calls.NodeReply.TheVariants.{Refused}
use Rattle.cops_model.specs.Place.{Place, node_number, place_of}
use Rattle.cops_model.specs.Session.{new_session}
use Rattle.cops_model.specs.SoloNode.{SoloNode, new_node}
use Rattle.cops_model.specs.Step.{CallEffect, node_step}
use Rattle.cops_node.specs.Clusters.{id_of, new_nodes}
use Rattle.cops_node.specs.Lacking.{MayLack}
use Rattle.cops_node.specs.Parts.{IsMachineTurn, Shared, place_at, solo_of}
use Rattle.cops_node.specs.Run.{TimedCall, node_after}
use Rattle.cops_node.proofs.Clusters.{id_is, tenant_new}
use Rattle.cops_service.specs.Connections.{AreServedAtDesk, HasConversedAtDesk, IsConversationAtDesk, IsDesk, IsServedAtDesk, IsServiceOf, IsTenantIn, is_ticket_refusal, is_without_turn, seen_at, seen_by, seen_from}
use Rattle.cops_service.specs.Desks.{IsDeskCall, NodeSeat}
use Rattle.cops_service.specs.Gates.{Gates, openings}
use Rattle.cops_service.specs.Slots.{NodeEntry, NodeLog, calls_at, joins_at, slot_entries, timed}
use Rattle.cops_service.proofs.Desks.{new_are_nodes, read_at}
use Rattle.cops_service.proofs.TicketedRequests.{serves_so}
use Rattle.cops_service.proofs.Told.{last_reply, room_left}
use Rattle.cops_wire.specs.Alone.{IsConnectionToldAlone, OwnCall, after_call, after_calls, call_alone}
use Rattle.cops_wire.specs.Conversation.{IsReceivedAlone}
use Rattle.cops_wire.specs.GoesAlone.{GoesAlone, IsReceivedAsAlone}
use Rattle.cops_wire.specs.declared.messages.Message.{Message}
use Rattle.cops_wire.specs.Requests.{Backend, backend}
use Rattle.cops_model.specs.Session.{Session}
use Rattle.cops_wire.proofs.AloneLemmas.{IsOwnTurn, told_alone}
use Rattle.cops_wire.proofs.GoesAloneLemmas.{IsOwnCall, goes_alone, has_room_in}
use Rattle.cops_wire.proofs.Conversations.{received_is, received_so}

-- ---- histories, one behind another

entries_after : (slot : ℕ) (e : Option NodeEntry) (xs ys : List NodeEntry) → joins_at slot e (xs ++ ys) ≡ joins_at slot e xs ++ ys
entries_after slot None xs ys = refl
entries_after slot (Some e) xs ys = by_slot (eqb e.slot slot)
  where
    by_slot : (b : Bool) → cond b (e ∷ xs ++ ys) (xs ++ ys) ≡ cond b (e ∷ xs) xs ++ ys
    by_slot true = refl
    by_slot false = refl

entries_in : (slot : ℕ) (first second : NodeLog) → slot_entries slot (first ++ second) ≡ slot_entries slot first ++ slot_entries slot second
entries_in slot [] second = refl
entries_in slot (t ∷ first) second = ap (joins_at slot t.entry) (entries_in slot first second) ∙ entries_after slot t.entry (slot_entries slot first) (slot_entries slot second)

calls_in : (slot : ℕ) (first second : NodeLog) → calls_at slot (first ++ second) ≡ calls_at slot first ++ calls_at slot second
calls_in slot first second = ap (map timed) (entries_in slot first second) ∙ map-append timed (slot_entries slot first) (slot_entries slot second)

after_both : (place : Place) (first second : List TimedCall) (solo : SoloNode) → node_after place (first ++ second) solo ≡ node_after place second (node_after place first solo)
after_both place [] second solo = refl
after_both place (c ∷ first) second solo = after_both place first second (node_step place c.moment c.call solo).after

left_in : (slot : ℕ) (place : Place) (first second : NodeLog) (solo : SoloNode) → node_after place (calls_at slot (first ++ second)) solo ≡ node_after place (calls_at slot second) (node_after place (calls_at slot first) solo)
left_in slot place first second solo = ap (λ calls. node_after place calls solo) (calls_in slot first second) ∙ after_both place (calls_at slot first) (calls_at slot second) solo

same_number : (n : ℕ) → eqb n n ≡ true
same_number n = by_test (eqb n n) refl
  where
    by_test : (b : Bool) → eqb n n ≡ b → eqb n n ≡ true
    by_test true e = e
    by_test false e = absurd (eqb-false n n e refl)

last_call : (slot moment number node : ℕ) (call : NodeCall) (reply : NodeReply) → calls_at slot (turn number node (Some (entry slot moment call reply)) ∷ []) ≡ record { moment = moment; call = call } ∷ []
last_call slot moment number node call reply = ap (λ b. map timed (cond b (entry slot moment call reply ∷ []) [])) (same_number slot)

-- ---- a history of all nodes, turn by turn

-- the call of a turn at a node, if it is of this slot
abbrev call_in : ℕ → ℕ → ℕ → Option NodeEntry → List OwnCall
call_in shards slot node None = []
call_in shards slot node (Some e) = cond (eqb e.slot slot) (record { node = id_of shards node; moment = e.moment; call = e.call } ∷ []) []

-- the calls of a slot at all nodes
abbrev calls_between : ℕ → ℕ → NodeLog → List OwnCall
calls_between shards slot [] = []
calls_between shards slot (t ∷ log) = call_in shards slot t.node t.entry ++ calls_between shards slot log

after_all : (config : TenantConfig) (first second : List OwnCall) (nodes : List SoloNode) → after_calls config (first ++ second) nodes ≡ after_calls config second (after_calls config first nodes)
after_all config [] second nodes = refl
after_all config (c ∷ first) second nodes = after_all config first second (after_call config c.node c.moment c.call nodes)

at_parts : (count : ℕ) (first second : NodeLog) → AtNodes count (first ++ second) → AtNodes count first × AtNodes count second
at_parts count [] second all = (tt, all)
at_parts count (t ∷ first) second all = let rest = at_parts count first second all.1 in ((all.0, rest.0), rest.1)

set_same : {A : Type 0} (xs : List A) (n : ℕ) (x d : A) → n < length xs → get_or xs n d ≡ x → set xs n x ≡ xs
set_same [] n x d lt e = absurd (omega arith)
set_same (y ∷ xs) zero x d lt e = ap (λ z. z ∷ xs) (sym e)
set_same (y ∷ xs) (suc n) x d lt e = ap (λ l. y ∷ l) (set_same xs n x d (omega (arith, lt)) e)

module _ (config : TenantConfig) (slot : ℕ) where
  abbrev seen : ℕ → List Shared → NodeLog → List SoloNode
  seen = seen_from config slot

  -- a turn at an earlier node
  seen_before : (k : ℕ) (nodes : List Shared) (log : NodeLog) (s n : ℕ) (e : Option NodeEntry) → n < k → seen k nodes (log ++ turn s n e ∷ []) ≡ seen k nodes log
  seen_before k [] log s n e lt = refl
  seen_before k (o ∷ nodes) log s n e lt = λ i. seen_at config slot o (node_other log s n k e (λ same. omega arith) i) ∷ seen_before (suc k) nodes log s n e (omega (arith, lt)) i

  -- a turn at one of these nodes
  seen_turn : (k : ℕ) (nodes : List Shared) (log : NodeLog) (s n i : ℕ) (e : Option NodeEntry) (first : Shared) → n ≡ k + i → get_elem? nodes i ≡ some first
      → seen k nodes (log ++ turn s n e ∷ []) ≡ set (seen k nodes log) i (seen_at config slot first (turns_at n log ++ turn s n e ∷ []))
  seen_turn k [] log s n i e first is at = absurd (some-ne-none first (sym at))
  seen_turn k (o ∷ nodes) log s n zero e first is at =
      let here : n ≡ k = omega arith in
      let node : o ≡ first = some-injective o first at in
      let turns : turns_at k (log ++ turn s n e ∷ []) ≡ turns_at n log ++ turn s n e ∷ [] = ap (λ m. turns_at m (log ++ turn s n e ∷ [])) (sym here) ∙ node_mine log s n e in
      λ j. seen_at config slot (node j) (turns j) ∷ seen_before (suc k) nodes log s n e (omega arith) j
  seen_turn k (o ∷ nodes) log s n (suc i) e first is at =
      λ j. seen_at config slot o (node_other log s n k e (λ same. omega arith) j) ∷ seen_turn (suc k) nodes log s n i e first (omega arith) at j

  seen_there : (k : ℕ) (nodes : List Shared) (log : NodeLog) (n i : ℕ) (first : Shared) (d : SoloNode) → n ≡ k + i → get_elem? nodes i ≡ some first
      → (i < length (seen k nodes log)) × (get_or (seen k nodes log) i d ≡ seen_at config slot first (turns_at n log))
  seen_there k [] log n i first d is at = absurd (some-ne-none first (sym at))
  seen_there k (o ∷ nodes) log n zero first d is at =
      let here : k ≡ n = omega arith in
      let node : o ≡ first = some-injective o first at in
      (omega arith, λ j. seen_at config slot (node j) (turns_at (here j) log))
  seen_there k (o ∷ nodes) log n (suc i) first d is at = let later = seen_there (suc k) nodes log n i first d (omega arith) at in (omega (arith, later.0), later.1)

-- ---- calls at the nodes of a cluster

from_zero : (n : ℕ) → n ≡ 0 + n
from_zero n = omega arith

number_back : (shards n : ℕ) → 0 < shards → node_number shards (id_of shards n) ≡ n
number_back shards n many = ap (λ x. x + n % shards) (mul_comm (n / shards) shards) ∙ div-add-mod n shards

-- the nodes opened in their places, and at each the slot is this tenant's
record ArePlaced (config : TenantConfig) (slot : ℕ) (nodes : List Shared) : Type 0 where
  pub some_shards : 0 < config.shards
  pub place : (n : ℕ) (first : Shared) → get_elem? nodes n ≡ some first → first.home.id ≡ id_of config.shards n
  pub tenant : (n : ℕ) (first : Shared) → get_elem? nodes n ≡ some first → place_at slot first ≡ Some (place_of config first.home.id)

module _ (config : TenantConfig) (slot : ℕ) (nodes : List Shared) (placed : ArePlaced config slot nodes) where
  abbrev left : NodeLog → List SoloNode
  left log = seen_from config slot 0 nodes log

  abbrev at : ℕ → NodeId
  at n = id_of config.shards n

  -- a call at a node that a history leaves is one at the tenant's own
  call_there : (log : NodeLog) (n moment : ℕ) (call : NodeCall) (first : Shared) → get_elem? nodes n ≡ some first
      → call_alone config (at n) moment call (left log) ≡ node_step (place_of config first.home.id) moment call (seen_at config slot first (turns_at n log))
  call_there log n moment call first known =
      let found = seen_there config slot 0 nodes log n n first (new_node config.data_centres) (from_zero n) known in
      let read : get_or (left log) (node_number config.shards (at n)) (new_node config.data_centres) ≡ seen_at config slot first (turns_at n log) =
      ap (λ k. get_or (left log) k (new_node config.data_centres)) (number_back config.shards n placed.some_shards) ∙ found.1 in
      λ i. node_step (place_of config (sym (placed.place n first known) i)) moment call (read i)

  -- a call at a node
  module _ (log : NodeLog) (s n : ℕ) (e : NodeEntry) (first : Shared) (known : get_elem? nodes n ≡ some first) where
    abbrev here : NodeLog
    here = turns_at n log

    abbrev own_place : Place
    own_place = place_of config first.home.id

    abbrev before : SoloNode
    before = seen_at config slot first here

    -- what is left there
    then_left : seen_at config slot first (here ++ turn s n (Some e) ∷ []) ≡ node_after own_place (map timed (cond (eqb e.slot slot) (e ∷ []) [])) before
    then_left = left_in slot own_place here (turn s n (Some e) ∷ []) (solo_of slot own_place first)

    by_slot : (b : Bool) → eqb e.slot slot ≡ b → left (log ++ turn s n (Some e) ∷ []) ≡ after_calls config (call_in config.shards slot n (Some e)) (left log)
    by_slot true is =
        let next : SoloNode = (node_step own_place e.moment e.call before).after in
        seen_turn config slot 0 nodes log s n n (Some e) first (from_zero n) known
        ∙ ap (set (left log) n) (then_left ∙ ap (λ b. node_after own_place (map timed (cond b (e ∷ []) [])) before) is)
        ∙ ap (λ k. set (left log) k next) (sym (number_back config.shards n placed.some_shards))
        ∙ ap (λ (x : CallEffect). slice_set (left log) (node_number config.shards (at n)) x.after) (sym (call_there log n e.moment e.call first known))
        ∙ ap (λ b. after_calls config (cond b (record { node = at n; moment = e.moment; call = e.call } ∷ []) []) (left log)) (sym is)
    by_slot false is =
        let found = seen_there config slot 0 nodes log n n first (new_node config.data_centres) (from_zero n) known in
        seen_turn config slot 0 nodes log s n n (Some e) first (from_zero n) known
        ∙ ap (set (left log) n) (then_left ∙ ap (λ b. node_after own_place (map timed (cond b (e ∷ []) [])) before) is)
        ∙ set_same (left log) n before (new_node config.data_centres) found.0 found.1
        ∙ ap (λ b. after_calls config (cond b (record { node = at n; moment = e.moment; call = e.call } ∷ []) []) (left log)) (sym is)

  -- a turn at a node
  one_turn : (log : NodeLog) (s n : ℕ) (e : Option NodeEntry) (first : Shared) → get_elem? nodes n ≡ some first → left (log ++ turn s n e ∷ []) ≡ after_calls config (call_in config.shards slot n e) (left log)
  one_turn log s n None first known =
      let found = seen_there config slot 0 nodes log n n first (new_node config.data_centres) (from_zero n) known in
      let stays : seen_at config slot first (turns_at n log ++ turn s n None ∷ []) ≡ seen_at config slot first (turns_at n log) =
      left_in slot (place_of config first.home.id) (turns_at n log) (turn s n None ∷ []) (solo_of slot (place_of config first.home.id) first) in
      seen_turn config slot 0 nodes log s n n None first (from_zero n) known ∙ ap (set (left log) n) stays ∙ set_same (left log) n (seen_at config slot first (turns_at n log)) (new_node config.data_centres) found.0 found.1
  one_turn log s n (Some e) first known = by_slot log s n e first known (eqb e.slot slot) refl

  -- turns at any nodes
  turns_on : (log more : NodeLog) → AtNodes (length nodes) more → left (log ++ more) ≡ after_calls config (calls_between config.shards slot more) (left log)
  turns_on log [] within = ap left (append-nil log)
  turns_on log (t ∷ more) within =
      let first = there_at nodes t.node within.0 in
      ap left (sym (append_assoc log (t ∷ []) more)) ∙ turns_on (log ++ t ∷ []) more within.1
      ∙ ap (after_calls config (calls_between config.shards slot more)) (one_turn log t.seat t.node t.entry first.0 first.1)
      ∙ sym (after_all config (call_in config.shards slot t.node t.entry) (calls_between config.shards slot more) (left log))

-- ---- a call at a desk

placed_at : (config : TenantConfig) (slot : ℕ) (nodes : List Shared) (n : ℕ) (node : Shared) → AllByRecursion (λ node. place_at slot node ≡ Some (place_of config node.home.id)) nodes → get_elem? nodes n ≡ some node
    → place_at slot node ≡ Some (place_of config node.home.id)
placed_at config slot [] n node all at = absurd (some-ne-none node (sym at))
placed_at config slot (x ∷ nodes) zero node all at = subst (λ (y : Shared). place_at slot y ≡ Some (place_of config y.home.id)) (some-injective x node at) all.0
placed_at config slot (x ∷ nodes) (suc n) node all at = placed_at config slot nodes n node all.1 at

module _ (config : TenantConfig) (slot : ℕ) (cluster : Gates Shared) (old new : NodeSeat) (there : IsTenantIn config slot cluster old)
    (id : NodeId) (moment : ℕ) (call : NodeCall) (reply : NodeReply) (shard : id.shard < config.shards) (called : IsDeskCall cluster old id slot moment call reply new) where
  abbrev number : ℕ
  number = node_number config.shards id

  are_placed : ArePlaced config slot (openings cluster)
  are_placed = record {
    some_shards = there.some;
    place = λ n first known.
        (there.nodes.nodes.each n first (at_below (openings cluster) n first known) (read_at (openings cluster) n first known)).0 ∙ ap (λ k. id_of k n) (sym there.nodes.shards ∙ sym there.shards);
    tenant = λ n first known. placed_at config slot (openings cluster) n first there.tenant known;
  }

  abbrev nodes : List SoloNode
  nodes = seen_by config slot cluster old

  abbrev At : Type 0
  At = (between : List OwnCall) × (reply ≡ (call_alone config id moment call (after_calls config between nodes)).reply)
      × (seen_by config slot cluster new ≡ after_call config id moment call (after_calls config between nodes))

  -- the tenant's calls between come first, and then this one
  made : Extends IsMachineTurn (openings cluster) (node_number cluster.shards id) old (Some (entry slot moment call reply)) new → At
  made grows =
      let n : ℕ = node_number cluster.shards id in
      let number_is : n ≡ number = ap (λ k. node_number k id) (sym there.shards) in
      let id_at : id_of config.shards n ≡ id = ap (id_of config.shards) number_is ∙ id_is config.shards id shard in
      let last : NodeLog = turn old.number n (Some (entry slot moment call reply)) ∷ [] in
      let earlier : NodeLog = old.history ++ grows.1.0 in
      let parts = at_parts (length (openings cluster)) earlier last (subst (AtNodes (length (openings cluster))) grows.1.1 grows.0.0) in
      let first = there_at (openings cluster) n parts.1.0 in
      let between : List OwnCall = calls_between config.shards slot grows.1.0 in
      let all : seen_from config slot 0 (openings cluster) earlier ≡ after_calls config between nodes =
      turns_on config slot (openings cluster) are_placed old.history grows.1.0 (at_parts (length (openings cluster)) old.history grows.1.0 parts.0).1 in
      let place : Place = place_of config first.0.home.id in
      let there_all : turns_at n new.history ≡ turns_at n earlier ++ last = ap (turns_at n) grows.1.1 ∙ node_mine earlier old.number n (Some (entry slot moment call reply)) in
      let told = last_reply slot moment old.number n place (solo_of slot place first.0) first.0 (turns_at n earlier) (turns_at n new.history) call reply
      (record { place_is = are_placed.tenant n first.0 first.1; solo_is = refl }) (grows.0.1 n first.0 first.1) there_all in
      let alone : call_alone config id moment call (after_calls config between nodes) ≡ node_step place moment call (seen_at config slot first.0 (turns_at n earlier)) =
      (λ i. call_alone config (sym id_at i) moment call (sym all i)) ∙ call_there config slot (openings cluster) are_placed earlier n moment call first.0 first.1 in
      let made_call : call_in config.shards slot n (Some (entry slot moment call reply)) ≡ record { node = id; moment = moment; call = call } ∷ [] =
      ap (λ b. cond b (record { node = id_of config.shards n; moment = moment; call = call } ∷ []) []) (same_number slot) ∙ ap (λ (k : NodeId). record { node = k; moment = moment; call = call } ∷ []) id_at in (
        between,
        told ∙ ap (λ (x : CallEffect). x.reply) (sym alone),
        ap (seen_from config slot 0 (openings cluster)) grows.1.1 ∙ one_turn config slot (openings cluster) are_placed earlier old.number n (Some (entry slot moment call reply)) first.0 first.1
            ∙ (λ i. after_calls config (made_call i) (all i)),
      )

  abbrev Behind : List OwnCall → Type 0
  Behind between = has_room_in config id (after_calls config between nodes) × (seen_by config slot cluster new ≡ after_calls config between nodes)

  -- the tenant's calls between come first; then memory was refused for this one, for which the audit had room
  lacked : Extends IsMachineTurn (openings cluster) (node_number cluster.shards id) old None new → LeavesLacking IsMachineTurn MayLack (openings cluster) old.number (node_number cluster.shards id) slot call new.history
      → (between : List OwnCall) × Behind between
  lacked grows (prior, first, state, ends, known, leads, may_lack) =
      let n : ℕ = node_number cluster.shards id in
      let number_is : n ≡ number = ap (λ k. node_number k id) (sym there.shards) in
      let earlier : NodeLog = old.history ++ grows.1.0 in
      let parts = at_parts (length (openings cluster)) earlier (turn old.number n None ∷ []) (subst (AtNodes (length (openings cluster))) grows.1.1 grows.0.0) in
      let between : List OwnCall = calls_between config.shards slot grows.1.0 in
      let all : seen_from config slot 0 (openings cluster) earlier ≡ after_calls config between nodes =
      turns_on config slot (openings cluster) are_placed old.history grows.1.0 (at_parts (length (openings cluster)) old.history grows.1.0 parts.0).1 in
      let stays : seen_by config slot cluster new ≡ after_calls config between nodes =
      ap (seen_from config slot 0 (openings cluster)) grows.1.1 ∙ one_turn config slot (openings cluster) are_placed earlier old.number n None first known ∙ all in
      let place : Place = place_of config first.home.id in
      let solo : SoloNode = solo_of slot place first in
      let room = room_left slot old.number n place solo first call (turns_at n new.history) (record { place_is = are_placed.tenant n first known; solo_is = refl })
      (turns_at n prior, state, ap (turns_at n) ends ∙ node_mine prior old.number n None, leads, may_lack) in
      let left_there : SoloNode = node_after place (calls_at slot room.0) solo in
      let read : get_or (after_calls config between nodes) number (new_node config.data_centres) ≡ left_there =
      (λ i. get_or (sym stays i) (sym number_is i) (new_node config.data_centres))
      ∙ (seen_there config slot 0 (openings cluster) new.history n n first (new_node config.data_centres) (from_zero n) known).1
      ∙ ap (seen_at config slot first) room.1 ∙ left_in slot place room.0 (turn old.number n None ∷ []) solo in
      let fits : IsTrue (nat_lt (length left_there.trail) config.quota.audit) = let less = room.2 in grind (arith, nat_tests) in
      (between, (subst (λ (s : SoloNode). IsTrue (nat_lt (length s.trail) config.quota.audit)) (sym read) fits, stays))

  pub still_there : IsTenantIn config slot cluster new
  still_there = record {
    nodes = there.nodes;
    own = called.same.0 ∙ there.own;
    tenant = there.tenant;
    shards = there.shards;
    some = there.some;
  }

-- ---- laws

module _ {N : Type 0} (Calls : N → NodeId → ℕ → ℕ → NodeCall → NodeReply → N → Type 0) (cluster : N → Gates Shared) (seat : N → NodeSeat) (desk : IsDesk Calls cluster seat) (config : TenantConfig) (slot : ℕ) where
  abbrev nodes_at : N → List SoloNode
  nodes_at here = seen_by config slot (cluster here) (seat here)

  abbrev IsThere : N → Type 0
  IsThere here = IsTenantIn config slot (cluster here) (seat here)

  desk_turn : (id : NodeId) (moment : ℕ) (call : NodeCall) (reply : NodeReply) (old new : N) → (0 < config.shards → id.shard < config.shards) → IsThere old → Calls old id slot moment call reply new
      → IsOwnTurn config nodes_at IsThere (λ between. Unit {0}) is_without_turn id moment call reply old new
  desk_turn id moment call reply old new has there called =
      let made_call = desk.call old new id slot moment call reply called in
      let same = desk.stays old new id slot moment call reply called in
      let shard = has there.some in
      record {
        turn = elim made_call.grows [
          | inl grows ↦
              let own = made config slot (cluster old) (seat old) (seat new) there id moment call reply shard made_call grows in
              inr (own.0, tt, own.1, ap (λ c. seen_by config slot c (seat new)) same ∙ own.2)
          | inr (inl lack) ↦ inl (OutOfMemory, refl, lack.0)
          | inr (inr spent) ↦ inl (GateSpent, refl, spent.0)
        ];
        there = subst (λ c. IsTenantIn config slot c (seat new)) (sym same) (still_there config slot (cluster old) (seat old) (seat new) there id moment call reply shard made_call);
      }

  pub desk_told : {M : Type 0} (Gives : M → ℕ → M → Type 0) (old : Backend Session N M) (requests replies : List Message) (new : Backend Session N M)
      → IsServedAtDesk Calls Gives cluster seat config slot old requests replies new → IsConnectionToldAlone Gives config nodes_at old requests replies new
  desk_told Gives old requests replies new h =
      (told_alone Calls Gives config slot nodes_at IsThere (λ between. Unit {0}) tt is_without_turn refl desk_turn requests replies old new h.there h.served h.spared).0

  -- ---- memory refused or not

  -- a call that had its turn, a no-op turn if memory was refused
  abbrev HasTurned : N → NodeId → ℕ → ℕ → NodeCall → NodeReply → N → Type 0
  HasTurned old id own moment call reply new =
      let states = openings (cluster old) in
      let number = node_number (cluster old).shards id in
      Calls old id own moment call reply new
      × (Extends IsMachineTurn states number (seat old) (Some (entry own moment call reply)) (seat new)
      ⊎ ((reply ≡ Refused OutOfMemory) × Extends IsMachineTurn states number (seat old) None (seat new)
      × LeavesLacking IsMachineTurn MayLack states (seat old).number number own call (seat new).history))

  turned_or_spent : (old new : N) (id : NodeId) (moment : ℕ) (call : NodeCall) (reply : NodeReply) → Calls old id slot moment call reply new → HasTurned old id slot moment call reply new ⊎ (reply ≡ Refused GateSpent)
  turned_or_spent old new id moment call reply called = elim (desk.call old new id slot moment call reply called).grows [
    | inl grows ↦ inl (called, inl grows)
    | inr (inl lack) ↦ inl (called, inr lack)
    | inr (inr spent) ↦ inr spent.0
  ]

  desk_own : (id : NodeId) (moment : ℕ) (call : NodeCall) (reply : NodeReply) (old new : N) → (0 < config.shards → id.shard < config.shards) → IsThere old → HasTurned old id slot moment call reply new
      → IsOwnCall config nodes_at IsThere (λ between. Unit {0}) id moment call reply old new
  desk_own id moment call reply old new has there (called, turned) =
      let made_call = desk.call old new id slot moment call reply called in
      let same = desk.stays old new id slot moment call reply called in
      let seen_as = ap (λ c. seen_by config slot c (seat new)) same in
      let shard = has there.some in
      let still = subst (λ c. IsTenantIn config slot c (seat new)) (sym same) (still_there config slot (cluster old) (seat old) (seat new) there id moment call reply shard made_call) in
      elim turned [
        | inl grows ↦
            let own = made config slot (cluster old) (seat old) (seat new) there id moment call reply shard made_call grows in
            record { between = own.0; kind = tt; turn = inr (own.1, seen_as ∙ own.2); there = still }
        | inr lack ↦
            let own = lacked config slot (cluster old) (seat old) (seat new) there id moment call reply shard made_call lack.1 lack.2 in
            record { between = own.0; kind = tt; turn = inl (lack.0, own.1.0, seen_as ∙ own.1.1); there = still }
      ]

  pub desk_goes : {M : Type 0} (Gives : M → ℕ → M → Type 0) (old : Backend Session N M) (requests replies : List Message) (new : Backend Session N M)
      → AreServedAtDesk Calls Gives cluster seat config slot old requests replies new → GoesAlone Gives config nodes_at old requests replies new
  desk_goes Gives old requests replies new h =
      (goes_alone HasTurned Gives config slot nodes_at IsThere (λ between. Unit {0}) tt desk_own requests replies old new h.there
      (serves_so Calls HasTurned Gives config slot turned_or_spent requests replies old new h.served h.spared)).0

-- ---- conversations

some_shards : (config : Config) → IsTrue (are_sizes config) → 0 < config.shards
some_shards config h = let some : 0 < config.shards = grind (arith, nat_tests) in some

-- each tenant of the configuration is there
pub tenant_there : (config : Config) (slot : ℕ) (tenant : Tenant) (cluster : Gates Shared) (seat : NodeSeat) → slice_get config.tenants slot ≡ Some tenant → IsServiceOf config cluster seat
    → IsTenantIn (tenant_config config tenant) slot cluster seat
tenant_there config slot tenant cluster seat found h = record {
  nodes = new_are_nodes config cluster h.sizes h.shards h.opened;
  own = h.own;
  tenant = subst (λ nodes. AllByRecursion (λ node. place_at slot node ≡ Some (place_of (tenant_config config tenant) node.home.id)) nodes) (sym h.opened) (tenant_new config slot tenant found);
  shards = sym h.shards;
  some = some_shards config h.sizes;
}

pub desk_received : {N M : Type 0} (Calls : N → NodeId → ℕ → ℕ → NodeCall → NodeReply → N → Type 0) (Gives : M → ℕ → M → Type 0) (cluster : N → Gates Shared) (seat : N → NodeSeat)
    (config : Config) (sent received : List ℕ) (nodes new_nodes : N) (moments new_moments : M) → IsConversationAtDesk Calls Gives cluster seat config sent received nodes new_nodes moments new_moments
    → IsReceivedAlone Gives (λ own slot n. seen_by own slot (cluster n) (seat n)) config sent received nodes new_nodes moments new_moments
desk_received Calls Gives cluster seat config sent received nodes new_nodes moments new_moments h =
    let c = h.conversation.conversed in
    (received_is Calls Gives is_without_turn (λ own slot n. seen_by own slot (cluster n) (seat n)) config sent received nodes new_nodes moments new_moments h.conversation
    (desk_told Calls cluster seat h.desk (tenant_config config c.tenant) c.slot Gives (backend (new_session c.dc 1) nodes moments) c.serves.requests c.serves.replies (backend c.after new_nodes new_moments)
    (record { desk = h.desk; there = tenant_there config c.slot c.tenant (cluster nodes) (seat nodes) c.tenant_is h.there; served = c.serves.served; spared = h.conversation.spared }))).0

pub desk_received_so : {N M : Type 0} (Calls : N → NodeId → ℕ → ℕ → NodeCall → NodeReply → N → Type 0) (Gives : M → ℕ → M → Type 0) (cluster : N → Gates Shared) (seat : N → NodeSeat)
    (config : Config) (sent received : List ℕ) (nodes new_nodes : N) (moments new_moments : M) → HasConversedAtDesk Calls Gives cluster seat config sent received nodes new_nodes moments new_moments
    → IsReceivedAsAlone Gives (λ own slot n. seen_by own slot (cluster n) (seat n)) config sent received nodes new_nodes moments new_moments
desk_received_so Calls Gives cluster seat config sent received nodes new_nodes moments new_moments h =
    let c = h.conversation.conversed in
    (received_so Calls Gives is_ticket_refusal (λ own slot n. seen_by own slot (cluster n) (seat n)) config sent received nodes new_nodes moments new_moments h.conversation
    (desk_goes Calls cluster seat h.desk (tenant_config config c.tenant) c.slot Gives (backend (new_session c.dc 1) nodes moments) c.serves.requests c.serves.replies (backend c.after new_nodes new_moments)
    (record { desk = h.desk; there = tenant_there config c.slot c.tenant (cluster nodes) (seat nodes) c.tenant_is h.there; served = c.serves.served; spared = h.conversation.spared }))).0
