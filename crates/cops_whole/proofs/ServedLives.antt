-- The seats that the threads of a service gave back, whose tenants come and go, did deeds in their lives.
use Rattle.std.proofs.Common.{◌≡◌, ◌≢◌, ℕ, ◌*◌, ◌<◌, ◌≤◌, ◌&&◌, true, false, cond, nat_eq, List, [], ◌∷◌, ◌++◌, map, length, inl, inr, refl, sym, ◌∙◌, ap, subst, append_assoc, arith}
use Rattle.std.specs.Prelude.{None, slice_get}
use mathlib.Core.Logic.{∥∥₁_elim}
use Rattle.std.specs.List.{AllByRecursion}
use Rattle.std.proofs.lemmas.Bool.{eqb-true}
use mathlib.Core.Option.{some}
use lib.ListN.{get_elem?}
use Rattle.cops_types.specs.declared.configs.Config.{Config}
use Rattle.cops_types.specs.declared.configs.Tenant.{Tenant}
use Rattle.cops_types.specs.TenantConfig.{tenant_config}
use Rattle.cops_types.proofs.Elements.{Every-append, and_left, and_right}
use Rattle.cops_gate.specs.Accounts.{no_account}
use Rattle.cops_gate.specs.History.{Leads, turns_at, turns_of}
use Rattle.cops_gate.specs.Rule.{AreDistinctNumbers, Met}
use Rattle.cops_gate.specs.Seats.{AreMadeBy, HasAllOf, gate_home}
use Rattle.cops_gate.specs.declared.history.Turn.{Turn}
use Rattle.cops_gate.proofs.Keeps.{at_below, there_at}
use Rattle.cops_model.specs.Place.{node_number}
use Rattle.cops_node.specs.declared.hosted.SlotCall.{SlotCall}
use Rattle.cops_node.specs.declared.hosted.SlotCall.TheVariants.{Own}
use Rattle.cops_node.specs.declared.hosted.SlotReply.{SlotReply}
use Rattle.cops_node.specs.Hosting.{Hosted, IsSlotTurn}
use Rattle.cops_node.specs.Parts.{Shared}
use Rattle.cops_service.specs.Admitted.{HasItsLife}
use Rattle.cops_service.specs.Gates.{Gates, HasNoTurn, openings}
use Rattle.cops_service.specs.Hosted.{HostedLog}
use Rattle.cops_service.specs.HostedCrews.{Hosting}
use Rattle.cops_service.specs.HostedDesks.{HostedSeat}
use Rattle.cops_service.specs.LifeCrews.{AreServedInLives}
use Rattle.cops_service.specs.Repeated.{Repeats}
use Rattle.cops_service.specs.Rosters.{Roster, first_roster}
use Rattle.cops_history.specs.History.{Behaves}
use Rattle.cops_history.specs.Lives.{IsLifeOf, IsTimeOf, SlotTurn, new_hosted, slot_entries_at, slot_entry}
use Rattle.cops_history.specs.Turns.{Turn as CallTurn}
use Rattle.cops_history.proofs.LifeLogs.{holds_lived}
use Rattle.cops_history.proofs.Cutting.{all_prefix}
use Rattle.cops_served.specs.Conversations.{MakesTurns, turns_of_told}
use Rattle.cops_whole.specs.LifeClients.{AnswerInLives, AreSessionsInLives, IsWorker, LifeConversation, clients_of, clients_of_all}
use Rattle.cops_whole.specs.LivesRuns.{Deed, DoesAll, DoesOne, IsLivesRun, IsLogOfLives, IsSlotTurnAt, IsTurnInLife, SeatDidDeeds, SlotCallThere, calls_of_host, commands_in_life, host_calls_by}
use Rattle.cops_whole.specs.LivesRuns.Deed.{Acts, Hosts}
use Rattle.cops_whole.specs.ServedLives.{AreServedByDeeds, GreetAs, HasLife, HasTicketsForLives, IsUntilUnknown, ServesLivesCausally}
use Rattle.cops_whole.specs.Services.{IsNumbered, SeatDeeds, did_by, past_numbers}
use Rattle.cops_whole.proofs.Admissions.{HostDid, IsAskedFrom, IsForTenant, Line, all_followed, all_weaker, began_own, hosts_alone, hosts_behave}
use Rattle.cops_whole.proofs.Crews.{all_numbered, all_within, by_number, by_own_number, no_turns, none_past}
use Rattle.cops_whole.proofs.LifeDeeds.{BehavesAs, CallsThere, Deeds, DoesAllThere, DoesOneThere, IsHostTold, Sessions, after_all, after_turns, all_carried, all_collected, all_served}
use Rattle.cops_whole.proofs.LifeTimes.{IsHostsOnly, admissions_so, all_entries_for, hosts_only, never_before, once_or_never}
use Rattle.cops_whole.proofs.LivesRuns.{life_served, log_of_lives, many_states, new_state}
use Rattle.cops_whole.proofs.Nodes.{some_same}
use Rattle.cops_whole.proofs.ServedBy.{get_there}
use Rattle.cops_whole.proofs.SeatsStay.{HasMetNone, met_none, met_none_before}
use Rattle.cops_whole.proofs.SeenMore.{seen_none}
use Rattle.cops_whole.proofs.ShownLives.{IsShown, admitted_so, same_once, seat_shown}

module _ (config : Config) (cluster : Gates Hosted) (shards : cluster.shards ≡ config.shards) where
  -- ---- calls with tickets

  abbrev states : List Hosted
  states = openings cluster

  ticketed : (c : SlotCallThere) (old new : HostedSeat) → HasMetNone new → IsHostTold config cluster old c new → IsSlotTurnAt states old c new
  ticketed c old new none_met call = (
    call.same.1,
    elim (call.grows) [
      | inl grows ↦ inl grows
      | inr other ↦ elim other [
        | inl lacking ↦ inr lacking
        | inr spent ↦ absurd (none_met c.node spent.2)
      ]
    ],
  )

  turns_ticketed : (slot life : ℕ) (ts : List CallTurn) (old new : HostedSeat) → HasMetNone new → MakesTurns (CallsThere config cluster slot life) slot old ts new → MakesTurns (IsTurnInLife config.shards states life) slot old ts new
  turns_ticketed slot life [] old new none_met same = same
  turns_ticketed slot life (t ∷ ts) old new none_met (mid, (below, (answer, reply_is, call)), later) =
      let made : IsSlotTurnAt states old (record { node = node_number config.shards t.node; entry = slot_entry slot t.moment (Own life t.call) answer }) mid =
      subst (λ n. IsSlotTurnAt states old (record { node = node_number n t.node; entry = slot_entry slot t.moment (Own life t.call) answer }) mid) shards
      (ticketed (record { node = node_number cluster.shards t.node; entry = slot_entry slot t.moment (Own life t.call) answer }) old mid (met_none_before mid new (after_turns config cluster slot life ts mid new later) none_met) call) in
      (mid, (below, answer, reply_is, made), turns_ticketed slot life ts mid new none_met later)

  one_ticketed : (deed : Deed) (old new : HostedSeat) → HasMetNone new → DoesOneThere config cluster old deed new → DoesOne config.shards states old deed new
  one_ticketed (Acts a) old new none_met did = turns_ticketed a.slot a.life (turns_of_told a.did) old new none_met did
  one_ticketed (Hosts c) old new none_met (is, call) = (is, ticketed c old new none_met call)

  all_ticketed : (deeds : List Deed) (old new : HostedSeat) → HasMetNone new → DoesAllThere config cluster old deeds new → DoesAll config.shards states old deeds new
  all_ticketed [] old new none_met more = more
  all_ticketed (deed ∷ deeds) old new none_met (seen, more, mid, one, later) =
      (seen, more, mid, one_ticketed deed seen mid (met_none_before mid new (after_all config cluster deeds mid new later) none_met) one, all_ticketed deeds mid new none_met later)

  -- ---- all seats

  -- the seat did these, after it had made no turn
  pub record Acted (seat : HostedSeat) : Type 0 where
    pub first : HostedSeat
    pub no_turn : HasNoTurn first
    pub deeds : List Deed
    pub did : DoesAllThere config cluster first deeds seat

  abbrev crew_of : (seats : List HostedSeat) → AllByRecursion Acted seats → List (SeatDeeds Deed)
  crew_of [] all = []
  crew_of (s ∷ seats) all = record { number = s.number; did = all.0.deeds } ∷ crew_of seats all.1

  numbers_are : (seats : List HostedSeat) (all : AllByRecursion Acted seats) → map (λ (s : SeatDeeds Deed). s.number) (crew_of seats all) ≡ map (λ (s : HostedSeat). s.number) seats
  numbers_are [] all = refl
  numbers_are (s ∷ seats) all = ap (λ ns. s.number ∷ ns) (numbers_are seats all.1)

  all_did : (history : HostedLog) (seats : List HostedSeat) (all : AllByRecursion Acted seats) → AllByRecursion (HasAllOf history) seats → AllByRecursion HasMetNone seats →
      AllByRecursion (λ (s : SeatDeeds Deed). SeatDidDeeds config states history s.number s.did) (crew_of seats all)
  all_did history [] all seen none_met = tt
  all_did history (s ∷ seats) all seen none_met = (
    record {
      first = all.0.first;
      last = s;
      number_is = sym (after_all config cluster all.0.deeds all.0.first s all.0.did).number;
      no_turn = all.0.no_turn;
      did = all_ticketed all.0.deeds all.0.first s none_met.0 all.0.did;
      all_of = seen.0;
    },
    all_did history seats all.1 seen.1 none_met.1,
  )

  -- a seat that made no turn did nothing
  idle : (history : HostedLog) (number : ℕ) → turns_of number history ≡ [] → SeatDidDeeds config states history number []
  idle history number nothing = record { first = unused; last = unused; number_is = refl; no_turn = refl; did = seen_none unused; all_of = ((history, refl), nothing) }
    where
      unused : HostedSeat
      unused = record { gate = gate_home cluster.gate; number = number; history = []; spent = []; account = no_account }

-- ---- commands of a life

module _ (config : Config) (tenant : Tenant) (slot life : ℕ) where
  abbrev BehaveAs : List Deed → Type 0
  BehaveAs deeds = AllByRecursion (BehavesAs config tenant slot life) deeds

  commands_behave : (deeds : List Deed) → BehaveAs deeds → AllByRecursion (Behaves (tenant_config config tenant) None) (commands_in_life slot life deeds)
  commands_behave [] behave = tt
  commands_behave (Hosts c ∷ deeds) behave = commands_behave deeds behave.1
  commands_behave (Acts a ∷ deeds) behave = elim (nat_eq a.slot slot && nat_eq a.life life) as (λ b. (nat_eq a.slot slot && nat_eq a.life life) ≡ b →
      AllByRecursion (Behaves (tenant_config config tenant) None) (cond b (a.did ∷ commands_in_life slot life deeds) (commands_in_life slot life deeds))) [
        | true ↦ λ is.
            let at : a.slot ≡ slot = eqb-true a.slot slot (and_left (nat_eq a.slot slot) (nat_eq a.life life) is) in
            let its : a.life ≡ life = eqb-true a.life life (and_right (nat_eq a.slot slot) (nat_eq a.life life) is) in
            (behave.0 at its, commands_behave deeds behave.1)
        | false ↦ λ differ. commands_behave deeds behave.1
      ] refl

  -- if the client was greeted in this life, it was greeted as this tenant
  abbrev GreetsAs : LifeConversation → Type 0
  GreetsAs c = c.life.slot ≡ slot → c.life.number ≡ life → c.tenant ≡ tenant

  sessions_behave : (clients : List LifeConversation) (deeds : List Deed) → AreSessionsInLives config clients deeds → AllByRecursion GreetsAs clients → BehaveAs deeds
  sessions_behave [] [] are greet = tt
  sessions_behave [] (d ∷ deeds) are greet = absurd are
  sessions_behave (c ∷ clients) [] are greet = absurd are
  sessions_behave (c ∷ clients) (Hosts h ∷ deeds) are greet = absurd are.0
  sessions_behave (c ∷ clients) (Acts a ∷ deeds) (is, are) (greets, greet) = (
    (λ at its. subst (λ (t : Tenant). Behaves (tenant_config config t) None a.did) (greets (sym is.slot ∙ at) (sym is.life ∙ its)) is.behaves),
    sessions_behave clients deeds are greet,
  )

-- ---- the service

module _ {M : Type 0} (Gives : M → ℕ → M → Type 0) (moments : M) (who : ℕ → ℕ → Tenant) (config : Config) (workers : ℕ) (nodes : List Shared) (open_tenants : Roster) (some_shards : 0 < config.shards)
    (served : AreServedInLives Gives moments config workers nodes open_tenants) where
  abbrev cluster : Gates Hosted
  cluster = served.cluster

  abbrev Seat : HostedSeat → Type 0
  Seat = Acted config cluster served.shards

  abbrev Worker : HostedSeat → Type 0
  Worker = IsWorker Gives moments config cluster

  abbrev workers_seats : List HostedSeat
  workers_seats = served.seen.crew.those.those.others

  abbrev are_workers : AllByRecursion Worker workers_seats
  are_workers = served.seen.crew.those.those.those.1

  -- those of the host, the carrier and the collector
  abbrev others : List HostedSeat
  others = served.seen.crew.those.those.one ∷ (served.seen.crew.those.one ∷ (served.seen.crew.one ∷ []))

  abbrev seats : List HostedSeat
  seats = workers_seats ++ others

  seats_are : served.seen.seats ≡ seats
  seats_are =
      let crew = served.seen.crew in
      crew.are ∙ ap (λ s. s ++ crew.one ∷ []) (crew.those.are ∙ ap (λ s. s ++ crew.those.one ∷ []) crew.those.those.are ∙ append_assoc workers_seats (crew.those.those.one ∷ []) (crew.those.one ∷ []))
      ∙ append_assoc workers_seats (crew.those.those.one ∷ (crew.those.one ∷ [])) (crew.one ∷ [])

  -- ---- what each seat did

  abbrev sessions_of : (seat : HostedSeat) (done : Worker seat) → Sessions config cluster Gives some_shards (clients_of Gives moments config cluster seat done) done.first seat
  sessions_of seat done = all_served config cluster Gives some_shards moments done.does.1.0 (done.first, moments) (seat, done.does.0) done.does.1.1

  abbrev by_worker : (seat : HostedSeat) → Worker seat → Seat seat
  by_worker seat done = let s = sessions_of seat done in record { first = done.first; no_turn = done.no_turn; deeds = s.deeds; did = s.did }

  abbrev by_other : (seat first : HostedSeat) → HasNoTurn first → Deeds config cluster who first seat → Seat seat
  by_other seat first no_turn d = record { first = first; no_turn = no_turn; deeds = d.deeds; did = d.did }

  -- the lines that the host followed
  abbrev lines_count : ℕ
  lines_count = served.seen.crew.those.those.that.does.0

  abbrev first_hosting : Hosting
  first_hosting = record { roster = first_roster config; seat = served.seen.crew.those.those.that.first }

  abbrev last_hosting : Hosting
  last_hosting = record { roster = open_tenants; seat = served.seen.crew.those.those.one }

  abbrev lines : Repeats (Line config cluster) lines_count first_hosting last_hosting
  lines = served.seen.crew.those.those.that.does.1

  abbrev host_did : HostDid config cluster 1 open_tenants.next first_hosting.seat last_hosting.seat
  host_did = all_followed config cluster lines_count first_hosting last_hosting lines

  carrier_deeds : Deeds config cluster who served.seen.crew.those.that.first served.seen.crew.those.one
  carrier_deeds = let done = served.seen.crew.those.that in all_carried config cluster who done.does.0 done.first served.seen.crew.those.one done.does.1

  collector_deeds : Deeds config cluster who served.seen.crew.that.first served.seen.crew.one
  collector_deeds = let done = served.seen.crew.that in all_collected config cluster who done.does.0 done.first served.seen.crew.one done.does.1

  abbrev acted_others : AllByRecursion Seat others
  acted_others = (
    record { first = first_hosting.seat; no_turn = served.seen.crew.those.those.that.no_turn; deeds = map Hosts host_did.calls; did = host_did.did },
    (
      by_other served.seen.crew.those.one served.seen.crew.those.that.first served.seen.crew.those.that.no_turn carrier_deeds,
      (by_other served.seen.crew.one served.seen.crew.that.first served.seen.crew.that.no_turn collector_deeds, tt),
    ),
  )

  -- workers, and others behind them
  abbrev with_workers : (these rest : List HostedSeat) → AllByRecursion Worker these → AllByRecursion Seat rest → AllByRecursion Seat (these ++ rest)
  with_workers [] rest all more = more
  with_workers (s ∷ these) rest all more = (by_worker s all.0, with_workers these rest all.1 more)

  abbrev all_acted : AllByRecursion Seat seats
  all_acted = with_workers workers_seats others are_workers acted_others

  abbrev crew : List (SeatDeeds Deed)
  crew = crew_of config cluster served.shards seats all_acted

  -- ---- clients

  -- what workers did are the sessions of their clients. The crew begins with these workers
  abbrev AnswerFirst : (these : List HostedSeat) → AllByRecursion Worker these → List (SeatDeeds Deed) → Type 0
  AnswerFirst [] all these_did = Unit {0}
  AnswerFirst (seat ∷ these) all [] = ⊥
  AnswerFirst (seat ∷ these) all (s ∷ later) = (s.number ≡ seat.number) × AreSessionsInLives config (clients_of Gives moments config cluster seat all.0) s.did × AnswerFirst these all.1 later

  answer_first : (these rest : List HostedSeat) (all : AllByRecursion Worker these) (more : AllByRecursion Seat rest) → AnswerFirst these all (crew_of config cluster served.shards (these ++ rest) (with_workers these rest all more))
  answer_first [] rest all more = tt
  answer_first (s ∷ these) rest all more = (refl, (sessions_of s all.0).are, answer_first these rest all.1 more)

  answer_by_number : (deeds : ℕ → List Deed) (these : List HostedSeat) (all : AllByRecursion Worker these) (later : List (SeatDeeds Deed)) → AnswerFirst these all later → AllByRecursion (λ (s : SeatDeeds Deed). deeds s.number ≡ s.did) later →
      AnswerInLives Gives moments config cluster deeds these all
  answer_by_number deeds [] all later first known = tt
  answer_by_number deeds (seat ∷ these) all [] first known = absurd first
  answer_by_number deeds (seat ∷ these) all (s ∷ later) first known = (
    subst (AreSessionsInLives config (clients_of Gives moments config cluster seat all.0)) (sym known.0 ∙ ap deeds first.0) first.1,
    answer_by_number deeds these all.1 later first.2 known.1,
  )

  -- ---- behaviour

  abbrev history : HostedLog
  history = served.log

  all_of : AllByRecursion (HasAllOf history) seats
  all_of = subst (AllByRecursion (HasAllOf history)) seats_are (subst (λ h. AllByRecursion (HasAllOf h) served.seen.seats) (sym served.whole) served.seen.all)

  module _ (slot life : ℕ) where
    abbrev Behave : SeatDeeds Deed → Type 0
    Behave s = BehaveAs config (who slot life) slot life s.did

    -- each client is so, of whose life the history shows that it is the client's tenant's
    module _ (greets : (c : LifeConversation) → IsShown config cluster history c → GreetsAs config (who slot life) slot life c) where
      greet_there : (seat : HostedSeat) (done : Worker seat) → HasAllOf history seat → GreetAs (who slot life) slot life (clients_of Gives moments config cluster seat done)
      greet_there seat done seen =
          all_weaker (IsShown config cluster history) (GreetsAs config (who slot life) slot life) (clients_of Gives moments config cluster seat done) greets (seat_shown config cluster Gives some_shards moments history seat done seen)

      all_greet : (these : List HostedSeat) (all : AllByRecursion Worker these) → AllByRecursion (HasAllOf history) these → GreetAs (who slot life) slot life (clients_of_all Gives moments config cluster these all)
      all_greet [] all seen = tt
      all_greet (s ∷ these) all seen = Every-append (GreetsAs config (who slot life) slot life) (clients_of Gives moments config cluster s all.0) (clients_of_all Gives moments config cluster these all.1) (greet_there s all.0 seen.0) (all_greet these all.1 seen.1)

      behave_first : (these rest : List HostedSeat) (all : AllByRecursion Worker these) (more : AllByRecursion Seat rest) → AllByRecursion (HasAllOf history) these → AllByRecursion Behave (crew_of config cluster served.shards rest more) →
          AllByRecursion Behave (crew_of config cluster served.shards (these ++ rest) (with_workers these rest all more))
      behave_first [] rest all more seen behave = behave
      behave_first (s ∷ these) rest all more seen behave =
          let sessions = sessions_of s all.0 in (
            sessions_behave config (who slot life) slot life (clients_of Gives moments config cluster s all.0) sessions.deeds sessions.are (greet_there s all.0 seen.0),
            behave_first these rest all.1 more seen.1 behave,
          )

      all_behave : AllByRecursion Behave crew
      all_behave = behave_first workers_seats others are_workers acted_others (all_prefix (HasAllOf history) workers_seats others all_of)
          (hosts_behave config (who slot life) slot life host_did.calls, (carrier_deeds.behave slot life, (collector_deeds.behave slot life, tt)))

      seat_behaves : (seat : ℕ) → AllByRecursion (Behaves (tenant_config config (who slot life)) None) (commands_in_life slot life (did_by crew seat))
      seat_behaves seat = commands_behave config (who slot life) slot life (did_by crew seat) (by_number (λ number deeds. BehaveAs config (who slot life) slot life deeds) crew all_behave seat (λ none_there. tt))

  -- ---- the run

  numbers_there : map (λ (s : SeatDeeds Deed). s.number) crew ≡ map (λ (s : HostedSeat). s.number) served.seen.seats
  numbers_there = numbers_are config cluster served.shards seats all_acted ∙ ap (map (λ (s : HostedSeat). s.number)) (sym seats_are)

  made_there : AllByRecursion (λ (t : Turn SlotCall SlotReply). IsNumbered crew t.seat) history
  made_there = all_numbered crew history (subst (λ numbers. AreMadeBy numbers history) (sym numbers_there) served.made)

  none_met : HasTicketsForLives history → AllByRecursion HasMetNone seats
  none_met few = subst (AllByRecursion HasMetNone) seats_are
      (met_none served.seen.seats (λ node met. let below = few node in let full = served.exhausted node (subst (Met node) (sym served.seen.spent) met) in omega (arith, below, full)))

  -- what the history leaves of a node
  many : length served.left ≡ config.data_centres * config.shards
  many = served.leaves.0 ∙ many_states config (openings cluster) served.opened

  left_there : (number : ℕ) (node : Hosted) → get_elem? served.left number ≡ some node → Leads IsSlotTurn (new_hosted config number) (turns_at number history) node
  left_there number node at =
      let within : number < config.data_centres * config.shards = subst (λ n. number < n) many (at_below served.left number node at) in
      served.leaves.1 number (new_hosted config number) node (new_state config (openings cluster) served.opened served.lives number within) at

  run : HasTicketsForLives history → IsLivesRun config (openings cluster) history (past_numbers crew) (did_by crew)
  run few = record {
    opened = served.opened;
    lives = served.lives;
    legal = λ number within. let node = there_at served.left number (subst (λ n. number < n) (sym many) within) in (node.0, left_there number node.0 node.1);
    seated = all_within crew history made_there;
    did = λ number below. by_number (SeatDidDeeds config (openings cluster) history) crew (all_did config cluster served.shards history seats all_acted all_of (none_met few)) number
        (λ none_there. idle config cluster served.shards history number (no_turns crew number history none_there made_there));
    few = λ number past. none_past crew number past;
  }

  -- ---- whose lives they are

  abbrev host : ℕ
  host = served.seen.crew.those.those.one.number

  -- a seat that isn't the host's makes no call of the host
  abbrev IsQuiet : SeatDeeds Deed → Type 0
  IsQuiet s = s.number ≢ host → calls_of_host s.did ≡ []

  sessions_quiet : (clients : List LifeConversation) (deeds : List Deed) → AreSessionsInLives config clients deeds → calls_of_host deeds ≡ []
  sessions_quiet [] [] are = refl
  sessions_quiet [] (d ∷ deeds) are = absurd are
  sessions_quiet (c ∷ clients) [] are = absurd are
  sessions_quiet (c ∷ clients) (Hosts h ∷ deeds) are = absurd are.0
  sessions_quiet (c ∷ clients) (Acts a ∷ deeds) are = sessions_quiet clients deeds are.1

  quiet_first : (these rest : List HostedSeat) (all : AllByRecursion Worker these) (more : AllByRecursion Seat rest) → AllByRecursion IsQuiet (crew_of config cluster served.shards rest more) →
      AllByRecursion IsQuiet (crew_of config cluster served.shards (these ++ rest) (with_workers these rest all more))
  quiet_first [] rest all more quiet = quiet
  quiet_first (s ∷ these) rest all more quiet =
      let sessions = sessions_of s all.0 in
      ((λ apart. sessions_quiet (clients_of Gives moments config cluster s all.0) sessions.deeds sessions.are), quiet_first these rest all.1 more quiet)

  all_quiet : AllByRecursion IsQuiet crew
  all_quiet = quiet_first workers_seats others are_workers acted_others ((λ apart. absurd (apart refl)), ((λ apart. carrier_deeds.acts), ((λ apart. collector_deeds.acts), tt)))

  behind : (Q : SeatDeeds Deed → Type 0) (these rest : List HostedSeat) (all : AllByRecursion Worker these) (more : AllByRecursion Seat rest) → AllByRecursion Q (crew_of config cluster served.shards (these ++ rest) (with_workers these rest all more)) →
      AllByRecursion Q (crew_of config cluster served.shards rest more)
  behind Q [] rest all more every = every
  behind Q (s ∷ these) rest all more every = behind Q these rest all.1 more every.1

  host_did_by : did_by crew host ≡ map Hosts host_did.calls
  host_did_by = (behind (λ (s : SeatDeeds Deed). did_by crew s.number ≡ s.did) workers_seats others are_workers acted_others (by_own_number crew (subst AreDistinctNumbers (sym numbers_there) served.apart))).0

  module _ (log : List SlotTurn) (is_log : IsLogOfLives config history (did_by crew) log) where
    host_calls : host_calls_by host log ≡ host_did.calls
    host_calls = is_log.asked host ∙ ap calls_of_host host_did_by ∙ hosts_alone host_did.calls

    others_quiet : AllByRecursion (IsHostsOnly host) log
    others_quiet = hosts_only host log (λ seat apart. is_log.asked seat ∙ by_number (λ number deeds. number ≢ host → calls_of_host deeds ≡ []) crew all_quiet seat (λ none_there differ. refl) apart)

    -- no other tenant has the life
    time_of : (tenant : Tenant) (slot life : ℕ) (prefix : List SlotTurn) → HasLife Gives moments config workers nodes open_tenants served tenant slot life → IsUntilUnknown slot life prefix log → IsTimeOf config tenant slot life prefix log
    time_of tenant slot life prefix has until = record { later = until.later; are = until.are; known = until.known; own = λ number within. own number has }
      where
        own : (number : ℕ) → HasLife Gives moments config workers nodes open_tenants served tenant slot life → IsLifeOf config tenant slot life (slot_entries_at number prefix)
        own number (inl (first, found)) = inl (first, found, never_before host slot life log prefix until.later until.are others_quiet host_did.calls host_calls 1 open_tenants.next (omega (arith, first)) host_did.asked number)
        own number (inr began) =
            let known = began_own config cluster tenant slot life lines_count first_hosting last_hosting lines began in
            inr (
              (λ zero_life. let above = known.above in omega (arith, zero_life, above)),
              once_or_never host slot life log prefix until.later until.are others_quiet host_did.calls host_calls tenant (λ node. host_did.once node slot life) known.own number,
            )

    -- the tenant of a client that was greeted in the life
    its_tenant : (tenant : Tenant) (slot life : ℕ) → HasLife Gives moments config workers nodes open_tenants served tenant slot life → (c : LifeConversation) → HasItsLife config cluster c.life c.tenant history → GreetsAs config tenant slot life c
    its_tenant tenant slot life (inl (first, found)) c (inl (its, same)) at is = some_same c.tenant tenant (sym same ∙ ap (slice_get config.tenants) at ∙ found)
    its_tenant tenant slot life (inl (first, found)) c (inr all) at is =
        let asked : AllByRecursion (IsAskedFrom 1 open_tenants.next) (host_calls_by host log) = subst (AllByRecursion (IsAskedFrom 1 open_tenants.next)) (sym host_calls) host_did.asked in
        let above : 1 ≤ c.life.number = (admitted_so (λ n t. (1 ≤ n) × (n < open_tenants.next)) log history is_log.kept (admissions_so host (λ n t. (1 ≤ n) × (n < open_tenants.next)) log others_quiet asked) 0 c.life c.tenant (all.each 0 all.some)).0 in
        absurd (omega (arith, above, is, first))
    its_tenant tenant slot life (inr began) c (inl (its, same)) at is =
        let above = (began_own config cluster tenant slot life lines_count first_hosting last_hosting lines began).above in
        absurd (omega (arith, above, is, its))
    its_tenant tenant slot life (inr began) c (inr all) at is =
        let known = began_own config cluster tenant slot life lines_count first_hosting last_hosting lines began in
        let own : AllByRecursion (IsForTenant tenant life) (host_calls_by host log) = subst (AllByRecursion (IsForTenant tenant life)) (sym host_calls) known.own in
        admitted_so (λ other its. other ≡ life → its ≡ tenant) log history is_log.kept (all_entries_for host tenant life log others_quiet own) 0 c.life c.tenant (all.each 0 all.some) is

    -- as the history shows
    tenant_of : (tenant : Tenant) (slot life : ℕ) → HasLife Gives moments config workers nodes open_tenants served tenant slot life → (c : LifeConversation) → IsShown config cluster history c → GreetsAs config tenant slot life c
    tenant_of tenant slot life has c shown at is = ∥∥₁_elim shown (same_once c.tenant tenant) (λ its. its_tenant tenant slot life has c its at is)

  causally : HasTicketsForLives history → ServesLivesCausally (HasLife Gives moments config workers nodes open_tenants served) who config history served.left crew (clients_of_all Gives moments config cluster workers_seats are_workers)
  causally few =
      let is_run = run few in
      let found = log_of_lives config (openings cluster) history (past_numbers crew) (did_by crew) is_run in
      let lives = (λ (slot life : ℕ) (prefix : List SlotTurn) (has : HasLife Gives moments config workers nodes open_tenants served (who slot life) slot life) (until : IsUntilUnknown slot life prefix found.0).
      life_served config history (past_numbers crew) (did_by crew) found.0 prefix (who slot life) slot life some_shards is_run.few found.1 (time_of found.0 found.1 (who slot life) slot life prefix has until) (seat_behaves slot life (tenant_of found.0 found.1 (who slot life) slot life has))) in
      record {
        log = found.0;
        is_log = found.1;
        greet = λ slot life has. all_greet slot life (tenant_of found.0 found.1 (who slot life) slot life has) workers_seats are_workers (all_prefix (HasAllOf history) workers_seats others all_of);
        lives = lives;
        holds = λ slot life number node held has until at holds its.
            let there : get_elem? served.left number ≡ some node = get_there served.left number node at in
            let within : number < config.data_centres * config.shards = subst (λ n. number < n) many (at_below served.left number node there) in
            holds_lived config (who slot life) slot life some_shards found.0 found.0 found.1.hosted (time_of found.0 found.1 (who slot life) slot life found.0 has until) (λ seat. commands_in_life slot life (did_by crew seat)) (lives slot life found.0 has until) number node held within
            (found.1.leads number node within (left_there number node there)) holds its;
      }

  pub served_by_deeds : AreServedByDeeds Gives moments who config workers nodes open_tenants served
  served_by_deeds = record {
    crew = crew;
    numbers = numbers_there;
    sessions = answer_by_number (did_by crew) workers_seats are_workers crew (answer_first workers_seats others are_workers acted_others) (by_own_number crew (subst AreDistinctNumbers (sym numbers_there) served.apart));
    causally = causally;
  }
