-- Seats that the threads of a service give back whose tenants come and go.
use Rattle.std.proofs.Common.{◌≡◌, ◌∙◌, ℕ, zero, suc, ◌+◌, ◌^◌, List, [], ◌∷◌, ◌++◌, map, length, inl, inr, ap, arith, refl, sym, subst}
use Rattle.std.specs.Prelude.{Option, Some, None, Result, Ok, Err, IfOk, IfSome, IsSomeAnd}
use Rattle.std.specs.List.{AllByRecursion}
use Rattle.cops_types.specs.declared.configs.Config.{Config}
use Rattle.cops_types.specs.declared.configs.Tenant.{Tenant}
use Rattle.cops_types.specs.declared.request_errors.RequestError.{RequestError}
use Rattle.cops_gate.specs.Accounts.{counted_account}
use Rattle.cops_gate.specs.History.{turns_at, turns_of}
use Rattle.cops_gate.specs.Rule.{Met}
use Rattle.cops_gate.specs.Seats.{HasAllOf, all_joined, all_spent}
use Rattle.cops_gate.proofs.Ending.{all_weaker}
use Rattle.cops_model.specs.Setups.{next_slot}
use Rattle.cops_model.specs.declared.replies.HostReply.{HostReply}
use Rattle.cops_model.specs.declared.replies.HostReply.TheVariants.{Admitted, Closed, Denied}
use Rattle.cops_node.specs.Clusters.{new_nodes}
use Rattle.cops_node.specs.Hosting.{Hosted, IsSlotTurn, host_in}
use Rattle.cops_node.specs.Parts.{Shared}
use Rattle.cops_node.specs.declared.hosted.SlotCall.{SlotCall}
use Rattle.cops_node.specs.declared.hosted.SlotReply.{SlotReply}
use Rattle.cops_service.specs.Calling.{DoneForEach}
use Rattle.cops_service.specs.Gates.{Ends, Gates, HasSplitOff, IsSeatOf, openings}
use Rattle.cops_service.specs.HostedCrews.{CarriesLives, CollectsLives, FollowsLine, Hosting, IsLineTold, IsTenantLineTold}
use Rattle.cops_service.specs.HostedDesks.{CallsFirst, HostedSeat, IsInFirstLives, hosted_node, nodes_in}
use Rattle.cops_service.specs.LifeCrews.{AreOfHosts, AreOfLifeCrew, AreOfLifeServers, AreOfLifeWorkers, AreServedInLives, FollowsLines, FollowsSomeLine, HasSeenLives, ServesLives}
use Rattle.cops_service.specs.Repeated.{IsRepeated, Repeats}
use Rattle.cops_service.specs.Rosters.{IsAdmissionTold, IsCloseTold, IsNotKept, Roster, first_roster}
use Rattle.cops_service.specs.SeatsDone.{AddsOne, HasSinceDone}
use Rattle.cops_service.specs.declared.host_lines.HostLine.{HostLine}
use Rattle.cops_service.specs.declared.host_lines.HostLine.TheVariants as line
use Rattle.cops_service.proofs.Repeated.{repeated_for_each}
use Rattle.cops_service.proofs.SeatsDone.{added, all_then_one, one_more, seen_all, whole_of_all}

-- ---- the host's lines

module _ (cluster : Gates Hosted) where
  -- lines that are followed, behind others
  pub lines_followed : (lines : List HostLine) (old between new : Hosting) → IsRepeated (FollowsSomeLine cluster) old between → DoneForEach (FollowsLine cluster) lines between new → IsRepeated (FollowsSomeLine cluster) old new
  lines_followed lines old between new all done =
      repeated_for_each (FollowsSomeLine cluster) (FollowsLine cluster) (λ said a b follows. (1, (a, refl, (said, follows)))) lines old between new all done

  -- the account of the host's seat stays
  abbrev Counts : HostedSeat → HostedSeat → Type 0
  Counts old new = new.account ≡ old.account

  same_counts : (old new : HostedSeat) → new ≡ old → Counts old new
  same_counts old new same = ap (λ (s : HostedSeat). s.account) same

  calls_count : (slot : ℕ) (call : SlotCall) (Is : SlotReply → Type 0) (n : ℕ) (old new : HostedSeat) → CallsFirst cluster slot call Is n old new → Counts old new
  calls_count slot call Is zero old new same = same_counts old new same
  calls_count slot call Is (suc n) old new (between, reply, earlier, one, is) = one.account ∙ calls_count slot call Is n old between earlier

  not_kept_counts : (roster : Roster) (tenant : Tenant) (error : RequestError) (old new : HostedSeat) → IsNotKept cluster roster tenant error old new → Counts old new
  not_kept_counts roster tenant error old new (inl back) =
      calls_count _ _ _ back.refuser back.refused new back.closed ∙ back.refuses.account ∙ calls_count _ _ _ back.refuser old back.tried back.admitted
  not_kept_counts roster tenant error old new (inr (lack, between, admitted, closed)) =
      calls_count _ _ _ (length (openings cluster)) between new closed ∙ calls_count _ _ _ (length (openings cluster)) old between admitted

  admission_counts : (tenant : Tenant) (old : Roster) (seat : HostedSeat) (reply : HostReply) (new : Roster) (new_seat : HostedSeat) → IsAdmissionTold cluster tenant old seat reply new new_seat → Counts seat new_seat
  admission_counts tenant old seat (Admitted name) new new_seat (name_is, life, begins, at_all) = calls_count _ _ _ (length (openings cluster)) seat new_seat at_all
  admission_counts tenant old seat (Denied fault) new new_seat (error, fault_is, inl (refused, same, next), tenants, lives) = same_counts seat new_seat same
  admission_counts tenant old seat (Denied fault) new new_seat (error, fault_is, inr (may, kept, next), tenants, lives) = not_kept_counts old tenant error seat new_seat kept
  admission_counts tenant old seat (Closed name) new new_seat h = absurd h

  close_counts : (name : List ℕ) (found : Option ℕ) (old : Roster) (seat : HostedSeat) (reply : HostReply) (new : Roster) (new_seat : HostedSeat) → IsCloseTold cluster name found old seat reply new new_seat → Counts seat new_seat
  close_counts name None old seat reply new new_seat (reply_is, stays, same) = same_counts seat new_seat same
  close_counts name (Some slot) old seat reply new new_seat (reply_is, tenants, lives, next, closed) = calls_count _ _ _ (length (openings cluster)) seat new_seat closed

  tenant_line_counts : (tenant : Tenant) (old : Hosting) (reply : HostReply) (new : Hosting) → IsTenantLineTold cluster tenant old reply new → Counts old.seat new.seat
  tenant_line_counts tenant old reply new (inl (fits, h)) = admission_counts tenant old.roster old.seat reply new.roster new.seat h
  tenant_line_counts tenant old reply new (inr (past, reply_is, same)) = same_counts old.seat new.seat (ap (λ (h : Hosting). h.seat) same)

  line_counts : (said : HostLine) (old : Hosting) (answer : Option HostReply) (new : Hosting) → IsLineTold cluster said old answer new → Counts old.seat new.seat
  line_counts (line.Admit tenant) old None new h = absurd h
  line_counts (line.Admit tenant) old (Some reply) new h = tenant_line_counts tenant old reply new h
  line_counts (line.Close name) old None new h = absurd h
  line_counts (line.Close name) old (Some reply) new h = close_counts name _ old.roster old.seat reply new.roster new.seat h
  line_counts line.Unknown old answer new (told_is, same) = same_counts old.seat new.seat (ap (λ (h : Hosting). h.seat) same)
  line_counts line.End old answer new (told_is, same) = same_counts old.seat new.seat (ap (λ (h : Hosting). h.seat) same)

  all_count : (count : ℕ) (old new : Hosting) → Repeats (FollowsSomeLine cluster) count old new → Counts old.seat new.seat
  all_count zero old new same = same_counts old.seat new.seat (ap (λ (h : Hosting). h.seat) same)
  all_count (suc count) old new (between, earlier, (said, follows)) = line_counts said between follows.told new follows.is_told ∙ all_count count old between earlier

  pub lines_count : (before after : Roster) (first last : HostedSeat) → FollowsLines cluster before after first last → Counts first last
  lines_count before after first last (count, all) = all_count count _ _ all

-- ---- the crew

-- the seats of the workers and the host, to which those of the carrier and the collector are added
module _ {L F : Type 0} (finished_in : L → Option F) (roster_in : L → Roster) (seats_in : F → List HostedSeat) where
  abbrev Adds : L → HostedSeat → L → Type 0
  Adds old seat new = (roster_in new ≡ roster_in old) × IfSome (finished_in new) (λ f. IsSomeAnd (finished_in old) (λ g. seats_in f ≡ seats_in g ++ seat ∷ []))

  pub are_of_life_crew : {M : Type 0} (Gives : M → ℕ → M → Type 0) (moments : M) (config : Config) (cluster : Gates Hosted) (count : ℕ) (before : Roster) (first last : L)
      → IfSome (finished_in first) (λ f. AreOfHosts Gives moments config cluster count before (roster_in first) (seats_in f))
      → ((between : L) × AddsOne Adds (HasSinceDone cluster (CarriesLives config cluster)) first between × AddsOne Adds (HasSinceDone cluster (CollectsLives config cluster)) between last)
      → IfSome (finished_in last) (λ f. AreOfLifeCrew Gives moments config cluster count before (roster_in last) (seats_in f))
  are_of_life_crew Gives moments config cluster count before first last hosts (between, (carrier, carries, one), (collector, collects, two)) =
      let servers = added seats_in (AreOfHosts Gives moments config cluster count before (roster_in first)) (HasSinceDone cluster (CarriesLives config cluster)) carrier carries (finished_in first) (finished_in between) hosts one.1 in
      let crew = added seats_in (AreOfLifeServers Gives moments config cluster count before (roster_in first)) (HasSinceDone cluster (CollectsLives config cluster)) collector collects (finished_in between) (finished_in last) servers two.1 in
      subst (λ roster. IfSome (finished_in last) (λ f. AreOfLifeCrew Gives moments config cluster count before roster (seats_in f))) (sym (two.0 ∙ one.0)) crew

  -- so it is of what a call returns
  pub life_crew_left : {M E : Type 0} (Gives : M → ℕ → M → Type 0) (moments : M) (config : Config) (cluster : Gates Hosted) (count : ℕ) (before : Roster) (Served : Option L → Type 0) (result : Result (Option L) E)
      → IfOk result (λ r. IfSome r (λ last. (served : Option L) × Served served
      × IsSomeAnd served (λ first. (between : L) × AddsOne Adds (HasSinceDone cluster (CarriesLives config cluster)) first between × AddsOne Adds (HasSinceDone cluster (CollectsLives config cluster)) between last)))
      → ((served : Option L) → Served served → IfSome served (λ first. IfSome (finished_in first) (λ f. AreOfHosts Gives moments config cluster count before (roster_in first) (seats_in f))))
      → IfOk result (λ r. IfSome r (λ last. IfSome (finished_in last) (λ f. AreOfLifeCrew Gives moments config cluster count before (roster_in last) (seats_in f))))
  life_crew_left Gives moments config cluster count before Served (Err error) h hosts = tt
  life_crew_left Gives moments config cluster count before Served (Ok None) h hosts = tt
  life_crew_left Gives moments config cluster count before Served (Ok (Some last)) (None, was, h) hosts = absurd h
  life_crew_left Gives moments config cluster count before Served (Ok (Some last)) (Some first, was, h) hosts = are_of_life_crew Gives moments config cluster count before first last (hosts (Some first) was) h

module _ {M : Type 0} (Gives : M → ℕ → M → Type 0) (moments : M) (config : Config) (cluster : Gates Hosted) (count : ℕ) (before after : Roster) where
  -- what holds of each of their seats
  module _ (P : HostedSeat → Type 0) (gives : (Does : HostedSeat → HostedSeat → Type 0) (seat : HostedSeat) → HasSinceDone cluster Does seat → P seat) where
    all_of_workers : (seats : List HostedSeat) → AreOfLifeWorkers Gives moments config cluster count seats → AllByRecursion P seats
    all_of_workers seats workers = all_weaker (HasSinceDone cluster (ServesLives config cluster Gives moments)) P seats (gives (ServesLives config cluster Gives moments)) workers.1

    all_of_hosts : (seats : List HostedSeat) → AreOfHosts Gives moments config cluster count before after seats → AllByRecursion P seats
    all_of_hosts seats hosts = all_then_one (AreOfLifeWorkers Gives moments config cluster count) (HasSinceDone cluster (FollowsLines cluster before after)) P all_of_workers (gives (FollowsLines cluster before after)) seats hosts

    all_of_servers : (seats : List HostedSeat) → AreOfLifeServers Gives moments config cluster count before after seats → AllByRecursion P seats
    all_of_servers seats servers = all_then_one (AreOfHosts Gives moments config cluster count before after) (HasSinceDone cluster (CarriesLives config cluster)) P all_of_hosts (gives (CarriesLives config cluster)) seats servers

    all_of_crew : (seats : List HostedSeat) → AreOfLifeCrew Gives moments config cluster count before after seats → AllByRecursion P seats
    all_of_crew seats crew = all_then_one (AreOfLifeServers Gives moments config cluster count before after) (HasSinceDone cluster (CollectsLives config cluster)) P all_of_servers (gives (CollectsLives config cluster)) seats crew

  -- they are all seats of the cluster
  pub crew_own : (seats : List HostedSeat) → AreOfLifeCrew Gives moments config cluster count before after seats → AllByRecursion (λ (seat : HostedSeat). IsSeatOf cluster seat) seats
  crew_own seats crew = all_of_crew (λ (seat : HostedSeat). IsSeatOf cluster seat) (λ Does seat done. done.own) seats crew

  crew_counted : (seats : List HostedSeat) → AreOfLifeCrew Gives moments config cluster count before after seats → AllByRecursion (λ (s : HostedSeat). s.account ≡ counted_account) seats
  crew_counted seats crew = all_of_crew (λ (s : HostedSeat). s.account ≡ counted_account) (λ Does seat done. done.account) seats crew

  -- the workers, the host, the carrier and the collector
  how_many : (seats : List HostedSeat) → AreOfLifeCrew Gives moments config cluster count before after seats → length seats ≡ count + 1 + 1 + 1
  how_many seats crew =
      one_more (AreOfLifeServers Gives moments config cluster count before after) (HasSinceDone cluster (CollectsLives config cluster)) (count + 1 + 1)
      (λ servers are. one_more (AreOfHosts Gives moments config cluster count before after) (HasSinceDone cluster (CarriesLives config cluster)) (count + 1)
      (λ hosts of. one_more (AreOfLifeWorkers Gives moments config cluster count) (HasSinceDone cluster (FollowsLines cluster before after)) count (λ workers all. all.0) hosts of) servers are) seats crew

  -- the seat that they ended into
  pub seen_lives : (old new : HostedSeat) (seats : List HostedSeat) → AreOfLifeCrew Gives moments config cluster count before after seats → HasSplitOff (count + 1 + 1 + 1) old → AllByRecursion (λ seat. HasAllOf new.history seat) seats
      → turns_of new.number new.history ≡ turns_of old.number old.history → new.account ≡ all_joined old.account seats → new.spent ≡ all_spent old.spent seats → HasSeenLives Gives moments config cluster count before after new
  seen_lives old new seats crew first all same account spent = seen_all (AreOfLifeCrew Gives moments config cluster count before after) (count + 1 + 1 + 1) old new seats crew first all same account spent

-- the nodes that are closed are those that they served
pub are_served_in_lives : {M : Type 0} (Gives : M → ℕ → M → Type 0) (moments : M) (config : Config) (cluster : Gates Hosted) (count : ℕ) (roster : Roster) (seat : HostedSeat) (hosted : List Hosted) (nodes : List Shared)
    → openings (nodes_in cluster) ≡ (new_nodes config).nodes → AllByRecursion IsInFirstLives (openings cluster) → cluster.shards ≡ config.shards → cluster.gate.ticket ≡ 0 → Ends IsSlotTurn host_in cluster seat hosted → map hosted_node hosted ≡ nodes
    → HasSeenLives Gives moments config cluster count (first_roster config) roster seat → AreServedInLives Gives moments config count nodes roster
are_served_in_lives Gives moments config cluster count roster seat hosted nodes opened lives shards ticket ends are seen =
    let theirs = whole_of_all (AreOfLifeCrew Gives moments config cluster count (first_roster config) roster) (count + 1 + 1 + 1)
    (how_many Gives moments config cluster count (first_roster config) roster) (crew_counted Gives moments config cluster count (first_roster config) roster) seat seen ends.1 ends.3 ends.4 in
    record {
      cluster = cluster;
      opened = opened;
      lives = lives;
      shards = shards;
      left = hosted;
      nodes_are = are;
      log = ends.1;
      leaves = (ends.0, λ number first node at there. (ends.5 number first node at there).0);
      last = seat;
      whole = theirs.0;
      seen = seen;
      made = theirs.1;
      apart = theirs.2;
      exhausted = λ node met. let full : cluster.gate.ticket + length (turns_at node ends.1) ≡ 2 ^ 62 = ends.6 node met in omega (arith, ticket, full);
    }
