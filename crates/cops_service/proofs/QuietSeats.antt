-- Seats of workers, carriers and collectors whose tenants come and go make no call of the host.
use Rattle.std.proofs.Common.{◌≡◌, ◌∙◌, ℕ, zero, suc, Bool, true, false, cond, inl, inr, ◌⊎◌, ◌==◌, List, [], ◌∷◌, ◌++◌, map, refl, sym, ap, subst, append-nil}
use Rattle.std.specs.Prelude.{Option, None, filter}
use Rattle.std.specs.List.{AllByRecursion}
use Rattle.std.proofs.lemmas.Bool.{eqb-false}
use Rattle.std.proofs.lemmas.List.Elements.{filter-append}
use Rattle.cops_types.specs.declared.configs.Config.{Config}
use Rattle.cops_gate.specs.History.{turn, turns_of}
use Rattle.cops_gate.specs.Rule.{Met}
use Rattle.cops_gate.specs.Seats.{AreMadeBy, HasAllOf}
use Rattle.cops_gate.proofs.Ending.{all_joined as all_parts, all_split, all_weaker}
use Rattle.cops_model.specs.MainTheorem.{with_tenant_alone}
use Rattle.cops_model.specs.declared.calls.NodeCall.{NodeCall}
use Rattle.cops_model.specs.declared.calls.NodeCall.TheVariants.{Collect}
use Rattle.cops_model.specs.declared.calls.NodeId.{NodeId}
use Rattle.cops_model.specs.declared.calls.NodeReply.{NodeReply}
use Rattle.cops_model.specs.Place.{node_number}
use Rattle.cops_node.specs.Hosting.{Hosted}
use Rattle.cops_service.specs.Gates.{Gates, HasSeenMore}
use Rattle.cops_service.specs.Hosted.{HostedEntry, HostedLog}
use Rattle.cops_service.specs.HostedCrews.{CallsInLife, CarriesLives, CollectsLives, CollectsSomePlace, DeliversSomeLife, life_of_place}
use Rattle.cops_service.specs.HostedDesks.{HostedSeat}
use Rattle.cops_service.specs.LifeCrews.{AreOfHosts, AreOfLifeCrew, AreOfLifeServers, ServesInLife, ServesLives}
use Rattle.cops_service.specs.Repeated.{Repeats}
use Rattle.cops_service.specs.Rosters.{Roster}
use Rattle.cops_service.specs.SeatsDone.{HasSinceDone}
use Rattle.cops_service.specs.declared.roster.Life.{Life}
use Rattle.cops_service.proofs.AtSeats.{converses_there, stream_delivered_there}
use Rattle.cops_service.proofs.SlotTenants.{HostedTurn, IsHostsOrIdle, is_hosts}

-- ---- calls of the host by one seat

abbrev hosts_among : HostedLog → HostedLog
hosts_among log = filter (λ (t : HostedTurn). is_hosts t.entry) log

-- those that a seat has made
abbrev made_as_host : HostedSeat → HostedLog
made_as_host seat = hosts_among (turns_of seat.number seat.history)

-- the seat is the same one, and has made no more of them
abbrev key : HostedSeat → ℕ × HostedLog
key seat = (seat.number, made_as_host seat)

abbrev Stays : HostedSeat → HostedSeat → Type 0
Stays old new = key new ≡ key old

made_still : (e : Option HostedEntry) (node : ℕ) (old new : HostedSeat) → new.number ≡ old.number → is_hosts e ≡ false →
    turns_of old.number new.history ≡ turns_of old.number old.history ++ turn old.number node e ∷ [] → made_as_host new ≡ made_as_host old
made_still e node old new same idle grown =
    ap (λ n. hosts_among (turns_of n new.history)) same ∙ ap hosts_among grown
    ∙ filter-append (λ (t : HostedTurn). is_hosts t.entry) (turns_of old.number old.history) (turn old.number node e ∷ [])
    ∙ ap (λ b. made_as_host old ++ cond b (turn old.number node e ∷ []) []) idle ∙ append-nil (made_as_host old)

call_stays : (cluster : Gates Hosted) (life : Life) (old new : HostedSeat) (id : NodeId) (named moment : ℕ) (call : NodeCall) (reply : NodeReply) → CallsInLife cluster life old id named moment call reply new → Stays old new
call_stays cluster life old new id named moment call reply (answer, reply_is, called) =
    let number : ℕ = node_number cluster.shards id in
    let made : made_as_host new ≡ made_as_host old = elim (called.grows) [
      | inl grown ↦ made_still _ number old new called.same.1 refl grown.2
      | inr other ↦ elim other [
        | inl lacked ↦ made_still None number old new called.same.1 refl lacked.1.2
        | inr spent ↦ ap (λ n. hosts_among (turns_of n new.history)) called.same.1 ∙ ap (λ log. hosts_among (turns_of old.number log)) spent.1
      ]
    ] in
    λ i. (called.same.1 i, made i)

seen_stays : (old new : HostedSeat) → HasSeenMore old new → Stays old new
seen_stays old new more = λ i. (more.same.1 i, hosts_among (more.no_turn i))

-- ---- what threads do

stays_so : {N K : Type 0} (Step : N → N → Type 0) (at : N → K) → ((old new : N) → Step old new → at new ≡ at old) → (count : ℕ) (old new : N) → Repeats Step count old new → at new ≡ at old
stays_so Step at one zero old new same = ap at same
stays_so Step at one (suc count) old new (between, earlier, step) = one between new step ∙ stays_so Step at one count old between earlier

module _ (config : Config) (cluster : Gates Hosted) where
  -- whatever the nodes reply
  abbrev Any : ℕ × HostedLog → HostedSeat → NodeId → ℕ → ℕ → NodeCall → NodeReply → HostedSeat → Type 0
  Any here old id slot moment call reply new = Unit {0}

  any_reply : (life : Life) (old new : HostedSeat) (id : NodeId) (slot moment : ℕ) (call : NodeCall) (reply : NodeReply) → CallsInLife cluster life old id slot moment call reply new → Any (key old) old id slot moment call reply new
  any_reply life old new id slot moment call reply called = tt

  module _ {M : Type 0} (Gives : M → ℕ → M → Type 0) where
    served_stays : (old new : HostedSeat × M) → ServesInLife config cluster Gives old new → Stays old.0 new.0
    served_stays old new (inl (more, same)) = seen_stays old.0 new.0 more
    served_stays old new (inr (seen, more, life, tenant, shown, conversed)) =
        (converses_there (CallsInLife cluster life) Any key (λ (s : HostedSeat). s) (call_stays cluster life) (any_reply life) (key seen) Gives (with_tenant_alone config tenant) seen new.0 old.1 new.1 refl conversed).0 ∙ seen_stays old.0 seen more

    worker_stays : (moments : M) (old new : HostedSeat) → ServesLives config cluster Gives moments old new → Stays old new
    worker_stays moments old new (later, (count, all)) = stays_so (ServesInLife config cluster Gives) (λ (x : HostedSeat × M). key x.0) served_stays count (old, moments) (new, later) all

  delivered_stays : (old new : HostedSeat) → DeliversSomeLife config cluster old new → Stays old new
  delivered_stays old new (stream, there, delivered) =
      let life : Life = life_of_place stream.from in
      (stream_delivered_there (CallsInLife cluster life) Any key (λ (s : HostedSeat). s) (call_stays cluster life) (any_reply life) (key old) config.shards stream old new refl delivered).0

  carrier_stays : (old new : HostedSeat) → CarriesLives config cluster old new → Stays old new
  carrier_stays old new (count, all) = stays_so (DeliversSomeLife config cluster) key delivered_stays count old new all

  collected_stays : (old new : HostedSeat) → CollectsSomePlace config cluster old new → Stays old new
  collected_stays old new (place, there, (moment, reply, called)) = call_stays cluster (life_of_place place) old new place.id place.slot moment Collect reply called

  collector_stays : (old new : HostedSeat) → CollectsLives config cluster old new → Stays old new
  collector_stays old new (count, all) = stays_so (CollectsSomePlace config cluster) key collected_stays count old new all

-- ---- seats without a call of the host

-- none of the seat's turns is one
abbrev IsQuiet : HostedLog → ℕ → Type 0
IsQuiet log number = AllByRecursion (λ (t : HostedTurn). t.seat ≡ number → is_hosts t.entry ≡ false) log

quiet_turns : (number : ℕ) (log : HostedLog) → hosts_among (turns_of number log) ≡ [] → IsQuiet log number
quiet_turns number [] none = tt
quiet_turns number (t ∷ log) none = by (t.seat == number) refl none (quiet_turns number log)
  where
    first : (b : Bool) → is_hosts t.entry ≡ b → cond b (t ∷ hosts_among (turns_of number log)) (hosts_among (turns_of number log)) ≡ [] → (is_hosts t.entry ≡ false) × (hosts_among (turns_of number log) ≡ [])
    first true is h = cc
    first false is h = (is, h)

    by : (own : Bool) → (t.seat == number) ≡ own → hosts_among (cond own (t ∷ turns_of number log) (turns_of number log)) ≡ [] → (hosts_among (turns_of number log) ≡ [] → IsQuiet log number) → IsQuiet (t ∷ log) number
    by true at h rest = let both = first (is_hosts t.entry) refl h in ((λ same. both.0), rest both.1)
    by false apart h rest = ((λ same. absurd (eqb-false t.seat number apart same)), rest h)

quiet_seat : (cluster : Gates Hosted) (log : HostedLog) (Does : HostedSeat → HostedSeat → Type 0) → ((old new : HostedSeat) → Does old new → Stays old new) → (seat : HostedSeat) → HasAllOf log seat → HasSinceDone cluster Does seat → IsQuiet log seat.number
quiet_seat cluster log Does stays seat all done =
    let same = stays done.first seat done.does in
    quiet_turns seat.number log (ap hosts_among all.1 ∙ ap (λ (k : ℕ × HostedLog). k.1) same ∙ ap hosts_among done.no_turn)

-- ---- all seats

all_both : {A : Type 0} (P Q R : A → Type 0) (xs : List A) → ((x : A) → P x → Q x → R x) → AllByRecursion P xs → AllByRecursion Q xs → AllByRecursion R xs
all_both P Q R [] so all more = tt
all_both P Q R (x ∷ xs) so all more = (so x all.0 more.0, all_both P Q R xs so all.1 more.1)

one_of : (P : ℕ → Type 0) (seats : List HostedSeat) (number : ℕ) → AllByRecursion (λ (s : HostedSeat). P s.number) seats → Met number (map (λ (s : HostedSeat). s.number) seats) → P number
one_of P [] number all met = absurd met
one_of P (s ∷ seats) number all (inl same) = subst P (sym same) all.0
one_of P (s ∷ seats) number all (inr met) = one_of P seats number all.1 met

-- the host's seat, or one without such a call
abbrev IsHostsOrQuiet : ℕ → HostedLog → ℕ → Type 0
IsHostsOrQuiet host log number = (number ≡ host) ⊎ IsQuiet log number

each_turn : (host : ℕ) (seats : List HostedSeat) (log : HostedLog) → AllByRecursion (λ (s : HostedSeat). IsHostsOrQuiet host log s.number) seats → AreMadeBy (map (λ (s : HostedSeat). s.number) seats) log → AllByRecursion (IsHostsOrIdle host) log
each_turn host seats [] all made = tt
each_turn host seats (t ∷ log) all made = (
  elim (one_of (IsHostsOrQuiet host (t ∷ log)) seats t.seat all made.0) [
    | inl same ↦ inl same
    | inr quiet ↦ inr (quiet.0 refl)
  ],
  each_turn host seats log (all_weaker (λ (s : HostedSeat). IsHostsOrQuiet host (t ∷ log) s.number) (λ (s : HostedSeat). IsHostsOrQuiet host log s.number) seats (λ s either. elim either [
    | inl same ↦ inl same
    | inr quiet ↦ inr quiet.1
  ]) all) made.1,
)

module _ {M : Type 0} (Gives : M → ℕ → M → Type 0) (moments : M) (config : Config) (cluster : Gates Hosted) (count : ℕ) (before after : Roster) (log : HostedLog) where
  abbrev Sees : HostedSeat → Type 0
  Sees = HasAllOf log

  abbrev Is : ℕ → HostedSeat → Type 0
  Is host s = IsHostsOrQuiet host log s.number

  workers_quiet : (host : ℕ) (seats : List HostedSeat) → AllByRecursion Sees seats → AllByRecursion (HasSinceDone cluster (ServesLives config cluster Gives moments)) seats → AllByRecursion (Is host) seats
  workers_quiet host seats all done = all_both Sees (HasSinceDone cluster (ServesLives config cluster Gives moments)) (Is host) seats
      (λ s sees did. inr (quiet_seat cluster log (ServesLives config cluster Gives moments) (worker_stays config cluster Gives moments) s sees did)) all done

  hosts_quiet : (seats : List HostedSeat) (hosts : AreOfHosts Gives moments config cluster count before after seats) → AllByRecursion Sees seats → AllByRecursion (Is hosts.one.number) seats
  hosts_quiet seats hosts all =
      let parts = all_split Sees hosts.others (hosts.one ∷ []) (subst (AllByRecursion Sees) hosts.are all) in
      let host : ℕ = hosts.one.number in
      subst (AllByRecursion (Is host)) (sym hosts.are) (all_parts (Is host) hosts.others (hosts.one ∷ []) (workers_quiet host hosts.others parts.0 hosts.those.1) (inl refl, tt))

  servers_quiet : (seats : List HostedSeat) (servers : AreOfLifeServers Gives moments config cluster count before after seats) → AllByRecursion Sees seats → AllByRecursion (Is servers.those.one.number) seats
  servers_quiet seats servers all =
      let parts = all_split Sees servers.others (servers.one ∷ []) (subst (AllByRecursion Sees) servers.are all) in
      let host : ℕ = servers.those.one.number in
      subst (AllByRecursion (Is host)) (sym servers.are) (all_parts (Is host) servers.others (servers.one ∷ []) (hosts_quiet servers.others servers.those parts.0)
      (inr (quiet_seat cluster log (CarriesLives config cluster) (carrier_stays config cluster) servers.one parts.1.0 servers.that), tt))

  crew_quiet : (seats : List HostedSeat) (crew : AreOfLifeCrew Gives moments config cluster count before after seats) → AllByRecursion Sees seats → AllByRecursion (Is crew.those.those.one.number) seats
  crew_quiet seats crew all =
      let parts = all_split Sees crew.others (crew.one ∷ []) (subst (AllByRecursion Sees) crew.are all) in
      let host : ℕ = crew.those.those.one.number in
      subst (AllByRecursion (Is host)) (sym crew.are) (all_parts (Is host) crew.others (crew.one ∷ []) (servers_quiet crew.others crew.those parts.0)
      (inr (quiet_seat cluster log (CollectsLives config cluster) (collector_stays config cluster) crew.one parts.1.0 crew.that), tt))

  -- each turn of a history that these seats made is the host's, or no call of a host
  pub only_of_host : (seats : List HostedSeat) (crew : AreOfLifeCrew Gives moments config cluster count before after seats) → AllByRecursion Sees seats → AreMadeBy (map (λ (s : HostedSeat). s.number) seats) log →
      AllByRecursion (IsHostsOrIdle crew.those.those.one.number) log
  only_of_host seats crew all made = each_turn crew.those.those.one.number seats log (crew_quiet seats crew all) made
