-- The seats that the threads of a service gave back did the calls of actors.
use Rattle.std.proofs.Common.{◌≡◌, ◌≢◌, ℕ, zero, suc, ◌*◌, ◌<◌, true, false, not, ◌==◌, ◌&&◌, nat_lt, List, [], ◌∷◌, map, length, inl, inr, get_or, lt-ltb, ◌++◌, append_assoc, refl, sym, ◌∙◌, ap, subst, arith}
use Rattle.std.specs.Prelude.{Some, slice_get}
use Rattle.std.specs.List.{AllByRecursion}
use Rattle.std.proofs.lemmas.Bool.Decides.{Decides-eqb}
use Rattle.std.proofs.lemmas.Option.{get_or_from_slice_get, slice_get-get_or, slice_get_within}
use mathlib.Core.Option.{some}
use lib.ListN.{get_elem?}
use Rattle.cops_types.specs.declared.configs.Config.{Config}
use Rattle.cops_types.specs.declared.configs.Tenant.{Tenant}
use Rattle.cops_types.specs.TenantConfig.{tenant_config}
use Rattle.cops_types.proofs.Elements.{and_true}
use Rattle.cops_gate.specs.History.{IsLegal, Leads, turns_at}
use Rattle.cops_gate.specs.Rule.{AreDistinctNumbers, Met}
use Rattle.cops_gate.specs.Seats.{AreMadeBy, HasAllOf}
use Rattle.cops_gate.proofs.Keeps.{there_at}
use Rattle.cops_model.specs.Cluster.{has_node, has_stream}
use Rattle.cops_model.specs.Place.{node_number}
use Rattle.cops_model.specs.declared.calls.NodeCall.{NodeCall}
use Rattle.cops_model.specs.declared.calls.NodeId.{NodeId}
use Rattle.cops_model.specs.declared.calls.NodeReply.{NodeReply}
use Rattle.cops_node.specs.Clusters.{new_shared}
use Rattle.cops_node.specs.Parts.{Shared, IsMachineTurn}
use Rattle.cops_service.specs.Calling.{CollectAll}
use Rattle.cops_service.specs.Carried.{DeliverAll, carried_stream}
use Rattle.cops_service.specs.Crews.{AreServedBy, CarriesStreams, CollectsPlaces, ServesClients}
use Rattle.cops_service.specs.Desks.{IsDeskCall, NodeSeat}
use Rattle.cops_service.specs.Gates.{Gates, HasNoTurn, openings}
use Rattle.cops_service.specs.SeatsDone.{HasSinceDone}
use Rattle.cops_service.specs.Slots.{NodeLog}
use Rattle.cops_service.proofs.Desks.{read_at}
use Rattle.cops_history.specs.Turns.{Turn as CallTurn}
use Rattle.cops_served.specs.Conversations.{MakesTurns, turns_of_told}
use Rattle.cops_whole.specs.Seats.{MakesAll, SlotActor}
use Rattle.cops_whole.specs.ServedBy.{AreServedByActors, HasTicketsLeft, ServesAllCausally}
use Rattle.cops_whole.specs.Services.{IsCallAtShard, IsCrewRun, IsTurnAtShard, SeatActors, SeatDid, did_by, past_numbers}
use Rattle.cops_whole.specs.Clients.{AnswerClients, AreSessionsOf, conversations_by}
use Rattle.cops_whole.specs.Threads.{AreCallsOfActors}
use Rattle.cops_whole.proofs.Crews.{all_numbered, by_own_number, run_of_crew}
use Rattle.cops_whole.proofs.Histories.{how_many, opened_at}
use Rattle.cops_whole.proofs.SeatsStay.{HasMetNone, StaysSeat, later_seat, met_none, same_seat, told_seat}
use Rattle.cops_whole.proofs.SeatThreads.{carries, collected, serves, sessions_served}
use Rattle.cops_whole.proofs.Services.{tenants_of_service}
use Rattle.cops_whole.proofs.Threads.{both, none}

-- ---- lists

slice_there : {A : Type 0} (xs : List A) (i : ℕ) → i < length xs → (x : A) × (slice_get xs i ≡ Some x)
slice_there xs i within = let there = there_at xs i within in (get_or xs i there.0, slice_get-get_or xs i there.0 within)

pub get_there : {A : Type 0} (xs : List A) (i : ℕ) (x : A) → slice_get xs i ≡ Some x → get_elem? xs i ≡ some x
get_there xs i x at =
    let there = there_at xs i (slice_get_within xs i x at) in
    there.1 ∙ ap some (read_at xs i there.0 there.1 ∙ get_or_from_slice_get xs i x there.0 at)

module _ (config : Config) (cluster : Gates Shared) where
  abbrev Calls : NodeSeat → NodeSeat → Type 0
  Calls first last = AreCallsOfActors (IsCallAtShard config cluster) config first last

  -- ---- what a seat did

  tenant_there : (slot : ℕ) → slot < length config.tenants → (tenant : Tenant) × (slice_get config.tenants slot ≡ Some tenant)
  tenant_there slot within = slice_there config.tenants slot within

  stream_there : (dc shard to_dc : ℕ) (tenant : Tenant) → dc < config.data_centres → shard < config.shards → to_dc < config.data_centres → to_dc ≢ dc → has_stream (tenant_config config tenant) dc shard to_dc ≡ true
  stream_there dc shard to_dc tenant dc_below shard_below to_below apart =
      let node : has_node (tenant_config config tenant) dc shard ≡ true = and_true (nat_lt dc config.data_centres) (nat_lt shard config.shards) (lt-ltb dc config.data_centres dc_below) (lt-ltb shard config.shards shard_below) in
      and_true (has_node (tenant_config config tenant) dc shard && nat_lt to_dc config.data_centres) (not (dc == to_dc))
      (and_true (has_node (tenant_config config tenant) dc shard) (nat_lt to_dc config.data_centres) node (lt-ltb to_dc config.data_centres to_below)) other
    where
      other : not (dc == to_dc) ≡ true
      other = elim (dc == to_dc) as (λ b. (dc == to_dc) ≡ b → not b ≡ true) [
        | true ↦ λ same. absurd (apart (sym ((Decides-eqb dc to_dc).0 same)))
        | false ↦ λ differ. refl
      ] refl

  all_carried : (count : ℕ) (first last : NodeSeat) → DeliverAll (IsDeskCall cluster) config count first last → Calls first last
  all_carried zero first last same = none (IsCallAtShard config cluster) config first last same
  all_carried (suc count) first last (between, earlier, (stream, ending, is, delivers)) =
      let tenant = tenant_there stream.from.slot is.from.slot_exists in
      both (IsCallAtShard config cluster) config first between last (all_carried count first between earlier)
      (carries config cluster tenant.0 stream.from.slot (carried_stream stream) ending between last tenant.1 (stream_there stream.from.id.dc stream.from.id.shard stream.to_dc tenant.0 is.from.dc_exists is.from.shard_exists is.dc_exists is.to_another) delivers)

  all_collected : (count : ℕ) (first last : NodeSeat) → CollectAll (IsDeskCall cluster) config count first last → Calls first last
  all_collected zero first last same = none (IsCallAtShard config cluster) config first last same
  all_collected (suc count) first last (between, place, earlier, there, (moment, reply, called)) =
      let tenant = tenant_there place.slot there.slot_exists in
      both (IsCallAtShard config cluster) config first between last (all_collected count first between earlier)
      (collected config cluster tenant.0 place.slot place.id moment reply between last tenant.1 there.shard_exists called)

  -- the seat did the calls of actors, after it had made no turn
  record Acted (seat : NodeSeat) : Type 0 where
    first : NodeSeat
    no_turn : HasNoTurn first
    calls : Calls first seat

  acted : (Does : NodeSeat → NodeSeat → Type 0) → ((first last : NodeSeat) → Does first last → Calls first last) → (seat : NodeSeat) → HasSinceDone cluster Does seat → Acted seat
  acted Does as_calls seat done = record { first = done.first; no_turn = done.no_turn; calls = as_calls done.first seat done.does }

  -- ---- its calls were turns

  abbrev MadeCalls : ℕ → NodeSeat → List CallTurn → NodeSeat → Type 0
  MadeCalls slot = MakesTurns (IsCallAtShard config cluster) slot

  after_turns : (slot : ℕ) (turns : List CallTurn) (old new : NodeSeat) → MadeCalls slot old turns new → StaysSeat old new
  after_turns slot [] old new same = same_seat old new same
  after_turns slot (t ∷ turns) old new (mid, call, later) = later_seat old mid new (told_seat old mid call.1) (after_turns slot turns mid new later)

  after_all : (actors : List SlotActor) (old new : NodeSeat) → MakesAll (IsCallAtShard config cluster) old actors new → StaysSeat old new
  after_all [] old new same = same_seat old new same
  after_all (a ∷ actors) old new (mid, made, later) = later_seat old mid new (after_turns a.slot (turns_of_told a.did) old mid made) (after_all actors mid new later)

  turned : (old new : NodeSeat) (id : NodeId) (slot moment : ℕ) (call : NodeCall) (reply : NodeReply) → HasMetNone new → IsCallAtShard config cluster old id slot moment call reply new → IsTurnAtShard config cluster old id slot moment call reply new
  turned old new id slot moment call reply none (below, told) = (
    below,
    (
      told.same.1,
      elim (told.grows) [
        | inl grows ↦ inl grows
        | inr other ↦ elim other [
          | inl lacking ↦ inr lacking
          | inr spent ↦ absurd (none (node_number cluster.shards id) spent.2)
        ]
      ],
    ),
  )

  turns_turned : (slot : ℕ) (turns : List CallTurn) (old new : NodeSeat) → HasMetNone new → MadeCalls slot old turns new → MakesTurns (IsTurnAtShard config cluster) slot old turns new
  turns_turned slot [] old new none same = same
  turns_turned slot (t ∷ turns) old new none (mid, call, later) =
      let rest = after_turns slot turns mid new later in
      (mid, turned old mid t.node slot t.moment t.call t.reply (λ node met. none node (rest.met node met)) call, turns_turned slot turns mid new none later)

  all_turned : (actors : List SlotActor) (old new : NodeSeat) → HasMetNone new → MakesAll (IsCallAtShard config cluster) old actors new → MakesAll (IsTurnAtShard config cluster) old actors new
  all_turned [] old new none same = same
  all_turned (a ∷ actors) old new none (mid, made, later) =
      let rest = after_all actors mid new later in
      (mid, turns_turned a.slot (turns_of_told a.did) old mid (λ node met. none node (rest.met node met)) made, all_turned actors mid new none later)

  -- ---- all seats

  abbrev crew_of : (seats : List NodeSeat) → AllByRecursion Acted seats → List SeatActors
  crew_of [] all = []
  crew_of (s ∷ seats) all = record { number = s.number; did = all.0.calls.actors } ∷ crew_of seats all.1

  numbers_are : (seats : List NodeSeat) (all : AllByRecursion Acted seats) → map (λ (s : SeatActors). s.number) (crew_of seats all) ≡ map (λ (s : NodeSeat). s.number) seats
  numbers_are [] all = refl
  numbers_are (s ∷ seats) all = ap (λ ns. s.number ∷ ns) (numbers_are seats all.1)

  all_did : (history : NodeLog) (seats : List NodeSeat) (all : AllByRecursion Acted seats) → AllByRecursion (HasAllOf history) seats → AllByRecursion HasMetNone seats →
      AllByRecursion (λ (s : SeatActors). SeatDid config cluster history s.number s.did) (crew_of seats all)
  all_did history [] all seen none = tt
  all_did history (s ∷ seats) all seen none = (
    record {
      first = all.0.first;
      last = s;
      number_is = sym (after_all all.0.calls.actors all.0.first s all.0.calls.made).number;
      no_turn = all.0.no_turn;
      made = all_turned all.0.calls.actors all.0.first s none.0 all.0.calls.made;
      behave = all.0.calls.behave;
      all_of = seen.0;
    },
    all_did history seats all.1 seen.1 none.1,
  )

-- ---- the service

module _ {M : Type 0} (Gives : M → ℕ → M → Type 0) (moments : M) (config : Config) (workers : ℕ) (nodes : List Shared) (some_shards : 0 < config.shards) (served : AreServedBy Gives moments config workers nodes) where
  abbrev cluster : Gates Shared
  cluster = served.cluster

  abbrev workers_seats : List NodeSeat
  workers_seats = served.seen.crew.serve.workers

  -- those of the carrier and the collector
  abbrev others : List NodeSeat
  others = served.seen.crew.serve.carrier ∷ (served.seen.crew.collector ∷ [])

  abbrev seats : List NodeSeat
  seats = workers_seats ++ others

  seats_are : served.seen.seats ≡ seats
  seats_are =
      let crew = served.seen.crew in
      crew.are ∙ ap (λ s. s ++ crew.collector ∷ []) crew.serve.are ∙ append_assoc workers_seats (crew.serve.carrier ∷ []) (crew.collector ∷ [])

  abbrev DidServe : NodeSeat → Type 0
  DidServe = HasSinceDone cluster (ServesClients config cluster Gives moments)

  by_worker : (seat : NodeSeat) → DidServe seat → Acted config cluster seat
  by_worker = acted config cluster (ServesClients config cluster Gives moments) (λ first last h. serves config cluster Gives h.0 first last moments h.1 some_shards h.2)

  -- workers, and others behind them
  abbrev with_workers : (these rest : List NodeSeat) → AllByRecursion DidServe these → AllByRecursion (Acted config cluster) rest → AllByRecursion (Acted config cluster) (these ++ rest)
  with_workers [] rest all more = more
  with_workers (s ∷ these) rest all more = (by_worker s all.0, with_workers these rest all.1 more)

  acted_others : AllByRecursion (Acted config cluster) others
  acted_others =
      let crew = served.seen.crew in (
        acted config cluster (CarriesStreams config cluster) (λ first last h. all_carried config cluster h.0 first last h.1) crew.serve.carrier crew.serve.carries,
        (acted config cluster (CollectsPlaces config cluster) (λ first last h. all_collected config cluster h.0 first last h.1) crew.collector crew.collects, tt),
      )

  abbrev all_acted : AllByRecursion (Acted config cluster) seats
  all_acted = with_workers workers_seats others served.seen.crew.serve.serve.1 acted_others

  -- the actors of workers are the sessions of their conversations. The crew begins with these workers
  abbrev AnswerFirst : (these : List NodeSeat) → AllByRecursion DidServe these → List SeatActors → Type 0
  AnswerFirst [] all crew = Unit {0}
  AnswerFirst (seat ∷ these) all [] = ⊥
  AnswerFirst (seat ∷ these) all (s ∷ crew) = (s.number ≡ seat.number) × AreSessionsOf (conversations_by Gives moments config cluster seat all.0) s.did × AnswerFirst these all.1 crew

  answer_first : (these rest : List NodeSeat) (all : AllByRecursion DidServe these) (more : AllByRecursion (Acted config cluster) rest) → AnswerFirst these all (crew_of config cluster (these ++ rest) (with_workers these rest all more))
  unfolding by_worker acted
  answer_first [] rest all more = tt
  answer_first (s ∷ these) rest all more = (refl, sessions_served config cluster Gives all.0.does.0 all.0.first s moments all.0.does.1 some_shards all.0.does.2, answer_first these rest all.1 more)

  answer_by_number : (actors : ℕ → List SlotActor) (these : List NodeSeat) (all : AllByRecursion DidServe these) (crew : List SeatActors) → AnswerFirst these all crew → AllByRecursion (λ (s : SeatActors). actors s.number ≡ s.did) crew →
      AnswerClients Gives moments config cluster actors these all
  answer_by_number actors [] all crew first known = tt
  answer_by_number actors (seat ∷ these) all [] first known = absurd first
  answer_by_number actors (seat ∷ these) all (s ∷ crew) first known = (
    subst (AreSessionsOf (conversations_by Gives moments config cluster seat all.0)) (sym known.0 ∙ ap actors first.0) first.1,
    answer_by_number actors these all.1 crew first.2 known.1,
  )

  abbrev all_crew : List SeatActors
  all_crew = crew_of config cluster seats all_acted

  abbrev history : NodeLog
  history = served.log

  -- what the history leaves of a node
  left_there : (number : ℕ) (node : Shared) → number < config.data_centres * config.shards → get_elem? nodes number ≡ some node → Leads IsMachineTurn (new_shared config number) (turns_at number history) node
  left_there number node within at = served.leaves.1 number (new_shared config number) node (opened_at config (openings cluster) served.opened number within) at

  node_count : length nodes ≡ config.data_centres * config.shards
  node_count = served.leaves.0 ∙ how_many config (openings cluster) served.opened

  legal_there : (number : ℕ) → number < config.data_centres * config.shards → IsLegal IsMachineTurn (new_shared config number) (turns_at number history)
  legal_there number within = let node = there_at nodes number (subst (λ n. number < n) (sym node_count) within) in (node.0, left_there number node.0 within node.1)

  none_met : HasTicketsLeft history → AllByRecursion (HasMetNone) seats
  none_met few =
      subst (AllByRecursion (HasMetNone)) seats_are
      (met_none served.seen.seats (λ node met. let below = few node in let full = served.exhausted node (subst (Met node) (sym served.seen.spent) met) in omega (arith, below, full)))

  numbers_there : map (λ (s : SeatActors). s.number) all_crew ≡ map (λ (s : NodeSeat). s.number) served.seen.seats
  numbers_there = numbers_are config cluster seats all_acted ∙ ap (map (λ (s : NodeSeat). s.number)) (sym seats_are)

  run : HasTicketsLeft history → IsCrewRun config cluster history all_crew
  run few = record {
    gate = record { shards = served.shards; opened = served.opened; legal = legal_there };
    did = all_did config cluster history seats all_acted (subst (AllByRecursion (HasAllOf history)) seats_are (subst (λ h. AllByRecursion (HasAllOf h) served.seen.seats) (sym served.whole) served.seen.all)) (none_met few);
    seated = all_numbered all_crew history (subst (λ numbers. AreMadeBy numbers history) (sym numbers_there) served.made);
  }

  causally : HasTicketsLeft history → ServesAllCausally config history nodes all_crew
  causally few =
      let service = run_of_crew config cluster history all_crew (run few) in
      let all = tenants_of_service config cluster history (past_numbers all_crew) (did_by all_crew) service some_shards in
      record {
        log = all.0;
        is_log = all.1;
        tenants = all.2;
        left = λ slot tenant found number node at.
            let within : number < config.data_centres * config.shards = subst (λ n. number < n) node_count (slice_get_within nodes number node at) in
            (all.2 slot tenant found).nodes number node within (left_there number node within (get_there nodes number node at));
      }

  pub served_by_actors : AreServedByActors Gives moments config workers nodes served
  served_by_actors = record {
    crew = all_crew;
    numbers = numbers_there;
    sessions = answer_by_number (did_by all_crew) workers_seats served.seen.crew.serve.serve.1 all_crew (answer_first workers_seats others served.seen.crew.serve.serve.1 acted_others)
        (by_own_number all_crew (subst AreDistinctNumbers (sym numbers_there) served.apart));
    causally = causally;
  }
