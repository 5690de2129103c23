-- Seats that the threads of a service give back.
use Rattle.std.proofs.Common.{◌≡◌, ◌∙◌, ℕ, ◌+◌, ◌^◌, List, [], ◌∷◌, ◌++◌, length, length-append, ap, subst, sym, arith}
use Rattle.std.specs.List.{AllByRecursion}
use Rattle.cops_types.specs.declared.configs.Config.{Config}
use Rattle.cops_gate.specs.Accounts.{counted_account}
use Rattle.cops_gate.specs.History.{turns_at, turns_of}
use Rattle.cops_gate.specs.Seats.{HasAllOf, all_joined, all_spent}
use Rattle.cops_gate.proofs.Ending.{all_joined as all_parts, all_weaker}
use Rattle.cops_node.specs.Clusters.{new_nodes}
use Rattle.cops_node.specs.Parts.{home_in, IsMachineTurn, Shared}
use Rattle.cops_service.specs.Crews.{AreOfCrew, AreOfWorkers, AreServedBy, CarriesStreams, CollectsPlaces, HasSeenCrew}
use Rattle.cops_service.specs.Desks.{NodeSeat}
use Rattle.cops_service.specs.Gates.{Ends, Gates, HasSplitOff, IsSeatOf, openings}
use Rattle.cops_service.specs.SeatsDone.{AddsOne, HasSinceDone}
use Rattle.cops_service.proofs.SeatsDone.{seen_all, whole_of_all}

module _ {M : Type 0} (Gives : M → ℕ → M → Type 0) (moments : M) (config : Config) (cluster : Gates Shared) where
  -- what holds of each of their seats
  all_of_crew : (P : NodeSeat → Type 0) (count : ℕ) (seats : List NodeSeat) → ((Does : NodeSeat → NodeSeat → Type 0) (seat : NodeSeat) → HasSinceDone cluster Does seat → P seat) → AreOfCrew Gives moments config cluster count seats → AllByRecursion P seats
  all_of_crew P count seats gives crew =
      let serve = crew.serve in
      let workers : AllByRecursion P serve.workers = all_weaker (HasSinceDone cluster _) P serve.workers (gives _) serve.serve.1 in
      let servers : AllByRecursion P crew.servers = subst (AllByRecursion P) (sym serve.are) (all_parts P serve.workers (serve.carrier ∷ []) workers (gives _ serve.carrier serve.carries, tt)) in
      subst (AllByRecursion P) (sym crew.are) (all_parts P crew.servers (crew.collector ∷ []) servers (gives _ crew.collector crew.collects, tt))

  -- the seats of workers, to which those of the carrier and the collector are added
  pub are_of_crew : {S : Type 0} (adds : S → NodeSeat → S → Type 0) (seats_in : S → List NodeSeat) → ((old : S) (seat : NodeSeat) (new : S) → adds old seat new → seats_in new ≡ seats_in old ++ seat ∷ []) → (count : ℕ) (first last : S)
      → AreOfWorkers Gives moments config cluster count (seats_in first) → ((between : S) × AddsOne adds (HasSinceDone cluster (CarriesStreams config cluster)) first between × AddsOne adds (HasSinceDone cluster (CollectsPlaces config cluster)) between last)
      → AreOfCrew Gives moments config cluster count (seats_in last)
  are_of_crew adds seats_in behind count first last workers (between, (carrier, carries, one), (collector, collects, two)) = record {
    servers = seats_in between;
    collector = collector;
    are = behind between collector last two;
    serve = record { workers = seats_in first; carrier = carrier; are = behind first carrier between one; serve = workers; carries = carries };
    collects = collects;
  }

  -- they are all seats of the cluster
  pub crew_own : (count : ℕ) (seats : List NodeSeat) → AreOfCrew Gives moments config cluster count seats → AllByRecursion (λ (seat : NodeSeat). IsSeatOf cluster seat) seats
  crew_own count seats crew = all_of_crew (λ (seat : NodeSeat). IsSeatOf cluster seat) count seats (λ Does seat done. done.own) crew

  crew_counted : (count : ℕ) (seats : List NodeSeat) → AreOfCrew Gives moments config cluster count seats → AllByRecursion (λ (s : NodeSeat). s.account ≡ counted_account) seats
  crew_counted count seats crew = all_of_crew (λ (s : NodeSeat). s.account ≡ counted_account) count seats (λ Does seat done. done.account) crew

  -- the workers, the carrier and the collector
  how_many : (count : ℕ) (seats : List NodeSeat) → AreOfCrew Gives moments config cluster count seats → length seats ≡ count + 1 + 1
  how_many count seats crew =
      let all = ap length crew.are in let two = length-append crew.servers (crew.collector ∷ []) in
      let servers = ap length crew.serve.are in let one = length-append crew.serve.workers (crew.serve.carrier ∷ []) in
      let workers = crew.serve.serve.0 in omega arith

  -- the seat that they ended into
  pub seen_crew : (count : ℕ) (old new : NodeSeat) (seats : List NodeSeat) → AreOfCrew Gives moments config cluster count seats → HasSplitOff (count + 1 + 1) old → AllByRecursion (λ seat. HasAllOf new.history seat) seats
      → turns_of new.number new.history ≡ turns_of old.number old.history → new.account ≡ all_joined old.account seats → new.spent ≡ all_spent old.spent seats → HasSeenCrew Gives moments config cluster count new
  seen_crew count old new seats crew first all same account spent = seen_all (AreOfCrew Gives moments config cluster count) (count + 1 + 1) old new seats crew first all same account spent

  -- the nodes that are closed are those that they served
  pub are_served : (count : ℕ) (seat : NodeSeat) (nodes : List Shared) → openings cluster ≡ (new_nodes config).nodes → cluster.shards ≡ config.shards → cluster.gate.ticket ≡ 0 → Ends IsMachineTurn home_in cluster seat nodes
      → HasSeenCrew Gives moments config cluster count seat → AreServedBy Gives moments config count nodes
  are_served count seat nodes opened shards ticket ends seen =
      let theirs = whole_of_all (AreOfCrew Gives moments config cluster count) (count + 1 + 1) (how_many count) (crew_counted count) seat seen ends.1 ends.3 ends.4 in
      record {
        cluster = cluster;
        opened = opened;
        shards = shards;
        log = ends.1;
        leaves = (ends.0, λ number first node at there. (ends.5 number first node at there).0);
        last = seat;
        whole = theirs.0;
        seen = seen;
        made = theirs.1;
        apart = theirs.2;
        exhausted = λ node met. let full : cluster.gate.ticket + length (turns_at node ends.1) ≡ 2 ^ 62 = ends.6 node met in omega (arith, ticket, full);
      }
