-- What a seat did among the lives of tenants: its calls, and those that are of one life.
use Rattle.std.proofs.Common.{◌≡◌, ℕ, ◌<◌, Bool, true, false, cond, nat_eq, ◌==◌, ◌&&◌, List, [], ◌∷◌, ◌++◌, map, refl, sym, ◌∙◌, ap, append-nil}
use Rattle.std.specs.Prelude.{Option, Some, None, filter}
use Rattle.std.specs.Option.{option_map}
use Rattle.std.specs.List.{cons_option, filter_map, flat_map}
use Rattle.std.proofs.lemmas.List.{map-append}
use Rattle.cops_gate.specs.declared.history.Turn.{Turn}
use Rattle.cops_gate.specs.History.{entry, turns_of}
use Rattle.cops_model.specs.declared.calls.NodeCall.{NodeCall}
use Rattle.cops_model.specs.Place.{node_number}
use Rattle.cops_node.specs.Clusters.{id_of}
use Rattle.cops_node.specs.declared.hosted.SlotCall.{SlotCall}
use Rattle.cops_node.specs.declared.hosted.SlotCall.TheVariants.{Own, Admit, Close}
use Rattle.cops_node.specs.declared.hosted.SlotReply.{SlotReply}
use Rattle.cops_node.specs.declared.hosted.SlotReply.TheVariants as told
use Rattle.cops_node.specs.Hosting.{Hosted, IsSlotTurn}
use Rattle.cops_node.specs.Lacking.{MayLackAtSlot}
use Rattle.cops_types.specs.declared.faults.Fault.TheVariants.{OutOfMemory}
use Rattle.cops_service.specs.Hosted.{HostedLog}
use Rattle.cops_service.specs.HostedDesks.{HostedSeat}
use Rattle.cops_history.specs.History.{Logged, Told, turns_by as logged_turns_by}
use Rattle.cops_history.specs.Lives.{call_in_life, life_log, reply_in_life, slot_entry, turn_in_life}
use Rattle.cops_history.specs.Turns.{Turn as CallTurn}
use Rattle.cops_history.proofs.Lives.{joined_parts}
use Rattle.cops_served.specs.Conversations.{MakesTurns, turns_of_told}
use Rattle.cops_whole.specs.LivesRuns.{Deed, DoesAll, DoesOne, IsSlotTurnAt, IsTurnInLife, SlotCallThere, calls_of_host, commands_in_life, host_call, is_of_host, joins_life, logged_call, slot_turn_of}
use Rattle.cops_whole.specs.LivesRuns.Deed.{Acts, Hosts}
use Rattle.cops_whole.proofs.SeatTurns.{CallAt, MakesCalls, makes_both, makes_later, turn_by, turns_by}
use Rattle.cops_whole.proofs.SeenMore.{seen_none, seen_same}
use Rattle.cops_whole.proofs.Seated.{id_again}

abbrev pub SlotCalls : Type 0
SlotCalls = List (CallAt SlotCall SlotReply)

-- ---- lists

pub both_mapped : {A B : Type 0} (f : A → Option B) (one other : List A) → filter_map f (one ++ other) ≡ filter_map f one ++ filter_map f other
both_mapped f [] other = refl
both_mapped f (x ∷ one) other = joined_parts (f x) (filter_map f one) (filter_map f other) (filter_map f (one ++ other)) (both_mapped f one other)

-- ---- the host's calls

abbrev pub host_turn : Turn SlotCall SlotReply → Option SlotCallThere
host_turn t = host_call t.node (logged_call t.entry)

-- ---- the turns of one life

module _ (shards slot life : ℕ) where
  abbrev pub in_life : Turn SlotCall SlotReply → Option CallTurn
  in_life t = turn_in_life shards slot life t.node (logged_call t.entry)

  -- the turns of a history that are calls of the life
  abbrev pub life_turns : HostedLog → List CallTurn
  life_turns log = filter_map in_life log

  abbrev life_rest : HostedLog → List Logged
  life_rest log = life_log shards slot life (map slot_turn_of log)

  -- the turns of a seat in the log of the life are those of its turns
  pub life_by_seat : (seat : ℕ) (log : HostedLog) → logged_turns_by seat (life_rest log) ≡ life_turns (turns_of seat log)
  life_by_seat seat [] = refl
  life_by_seat seat (t ∷ log) = by (in_life t) refl (life_by_seat seat log)
    where
      by : (o : Option CallTurn) → in_life t ≡ o → logged_turns_by seat (life_rest log) ≡ life_turns (turns_of seat log) → logged_turns_by seat (cons_option (option_map (λ (own : CallTurn). record { seat = t.seat; turn = own }) o) (life_rest log)) ≡ life_turns (cond (t.seat == seat) (t ∷ turns_of seat log) (turns_of seat log))
      by None is earlier = elim (t.seat == seat) as (λ b. logged_turns_by seat (life_rest log) ≡ life_turns (cond b (t ∷ turns_of seat log) (turns_of seat log))) [
        | true ↦ earlier ∙ (λ i. cons_option (sym is i) (life_turns (turns_of seat log)))
        | false ↦ earlier
      ]
      by (Some u) is earlier = elim (t.seat == seat) as (λ b. map (λ (l : Logged). l.turn) (cond b (record { seat = t.seat; turn = u } ∷ filter (λ (l : Logged). l.seat == seat) (life_rest log)) (filter (λ (l : Logged). l.seat == seat) (life_rest log)))
          ≡ life_turns (cond b (t ∷ turns_of seat log) (turns_of seat log))) [
            | true ↦ ap (λ ts. u ∷ ts) (earlier) ∙ (λ i. cons_option (sym is i) (life_turns (turns_of seat log)))
            | false ↦ earlier
          ]

-- ---- the calls of a deed

module _ (shards : ℕ) (states : List Hosted) where
  abbrev pub Makes : HostedSeat → SlotCalls → HostedSeat → Type 0
  Makes old calls new = MakesCalls IsSlotTurn MayLackAtSlot (told.Refused OutOfMemory) states old calls new

  abbrev call_of : SlotCallThere → CallAt SlotCall SlotReply
  call_of c = record { node = c.node; entry = entry c.entry.slot c.entry.moment c.entry.call c.entry.reply }

  -- the calls by which the seat came from one state to another, of which these are of a life, and these the host's
  record Called (own : ℕ → ℕ → List CallTurn) (hosts : List SlotCallThere) (old new : HostedSeat) : Type 0 where
    pub calls : SlotCalls
    pub made : Makes old calls new
    pub are : (slot life seat : ℕ) → life_turns shards slot life (turns_by seat calls) ≡ own slot life
    pub asked : (seat : ℕ) → filter_map host_turn (turns_by seat calls) ≡ hosts

  -- ---- an actor's

  module _ (slot life : ℕ) where
    abbrev of_actor : List CallTurn → ℕ → ℕ → List CallTurn
    of_actor ts at its = cond (nat_eq slot at && nat_eq life its) ts []

    abbrev made_turn : CallTurn → SlotReply → SlotCallThere
    made_turn t answer = record { node = node_number shards t.node; entry = slot_entry slot t.moment (Own life t.call) answer }

    abbrev as_turn : CallTurn → SlotReply → NodeCall → CallTurn
    as_turn t answer call = record { node = id_of shards (node_number shards t.node); moment = t.moment; call = call; reply = reply_in_life answer }

    turn_is : (t : CallTurn) (answer : SlotReply) → t.node.shard < shards → t.reply ≡ reply_in_life answer → as_turn t answer t.call ≡ t
    turn_is t answer below reply_is = λ i. record { node = id_again shards t.node below i; moment = t.moment; call = t.call; reply = sym reply_is i }

    one_own : (t : CallTurn) (answer : SlotReply) (at its seat : ℕ) → t.node.shard < shards → t.reply ≡ reply_in_life answer →
        in_life shards at its (turn_by seat (call_of (made_turn t answer))) ≡ cond (nat_eq slot at && nat_eq life its) (Some t) None
    one_own t answer at its seat below reply_is =
        elim (nat_eq slot at) as (λ b. cond b (option_map (as_turn t answer) (cond (nat_eq life its) (Some t.call) None)) None ≡ cond (b && nat_eq life its) (Some t) None) [
          | true ↦ elim (nat_eq life its) as (λ b. option_map (as_turn t answer) (cond b (Some t.call) None) ≡ cond b (Some t) None) [
            | true ↦ ap Some (turn_is t answer below reply_is)
            | false ↦ refl
          ]
          | false ↦ refl
        ]

    one_more : (b : Bool) (t : CallTurn) (ts : List CallTurn) → cons_option (cond b (Some t) None) (cond b ts []) ≡ cond b (t ∷ ts) []
    one_more true t ts = refl
    one_more false t ts = refl

    actor_called : (ts : List CallTurn) (old new : HostedSeat) → MakesTurns (IsTurnInLife shards states life) slot old ts new → Called (of_actor ts) [] old new
    actor_called [] old new same = record {
      calls = [];
      made = seen_same old new same;
      are = λ at its seat. nothing (nat_eq slot at && nat_eq life its);
      asked = λ seat. refl;
    }
      where
        nothing : (b : Bool) → ◌≡◌ {A = List CallTurn} [] (cond b [] [])
        nothing true = refl
        nothing false = refl
    actor_called (t ∷ ts) old new (mid, (below, answer, reply_is, call), later) =
        let rest = actor_called ts mid new later in
        record {
          calls = call_of (made_turn t answer) ∷ rest.calls;
          made = (mid, call, rest.made);
          are = λ at its seat. (λ i. cons_option (one_own t answer at its seat below reply_is i) (rest.are at its seat i)) ∙ one_more (nat_eq slot at && nat_eq life its) t ts;
          asked = rest.asked;
        }

  -- ---- the host's

  host_none : (life : ℕ) (call : SlotCall) → is_of_host call ≡ true → call_in_life life call ≡ None
  host_none life (Own other call) is = cc
  host_none life (Admit other tenant) is = refl
  host_none life Close is = refl

  abbrev as_turn_of : SlotCallThere → NodeCall → CallTurn
  as_turn_of c own = record { node = id_of shards c.node; moment = c.entry.moment; call = own; reply = reply_in_life c.entry.reply }

  host_called : (c : SlotCallThere) (old new : HostedSeat) → is_of_host c.entry.call ≡ true → IsSlotTurnAt states old c new → Called (λ slot life. []) (c ∷ []) old new
  host_called c old new is call = record {
    calls = call_of c ∷ [];
    made = (new, call, seen_none new);
    are = λ slot life seat. (λ i. cons_option (none slot life i) []);
    asked = λ seat. ap (λ b. cons_option (cond b (Some c) None) []) is;
  }
    where
      none : (slot life : ℕ) → cond (nat_eq c.entry.slot slot) (option_map (as_turn_of c) (call_in_life life c.entry.call)) None ≡ None
      none slot life = elim (nat_eq c.entry.slot slot) as (λ b. cond b (option_map (as_turn_of c) (call_in_life life c.entry.call)) None ≡ None) [
        | true ↦ ap (option_map (as_turn_of c)) (host_none life c.entry.call is)
        | false ↦ refl
      ]

  -- ---- all deeds

  abbrev of_deed : Deed → ℕ → ℕ → List CallTurn
  of_deed deed slot life = flat_map turns_of_told (joins_life slot life deed [])

  deed_called : (deed : Deed) (old new : HostedSeat) → DoesOne shards states old deed new → Called (of_deed deed) (calls_of_host (deed ∷ [])) old new
  deed_called (Acts actor) old new made =
      let it = actor_called actor.slot actor.life (turns_of_told actor.did) old new made in
      record { calls = it.calls; made = it.made; are = λ slot life seat. it.are slot life seat ∙ told_is (nat_eq actor.slot slot && nat_eq actor.life life); asked = it.asked }
    where
      told_is : (b : Bool) → cond b (turns_of_told actor.did) [] ≡ flat_map turns_of_told (cond b (actor.did ∷ []) [])
      told_is true = sym (append-nil (turns_of_told actor.did))
      told_is false = refl
  deed_called (Hosts c) old new made = host_called c old new made.0 made.1

  joins_first : (slot life : ℕ) (deed : Deed) (rest : List (List Told)) → flat_map turns_of_told (joins_life slot life deed rest) ≡ of_deed deed slot life ++ flat_map turns_of_told rest
  joins_first slot life (Acts actor) rest = by (nat_eq actor.slot slot && nat_eq actor.life life)
    where
      by : (b : Bool) → flat_map turns_of_told (cond b (actor.did ∷ rest) rest) ≡ flat_map turns_of_told (cond b (actor.did ∷ []) []) ++ flat_map turns_of_told rest
      by true = ap (λ ts. ts ++ flat_map turns_of_told rest) (sym (append-nil (turns_of_told actor.did)))
      by false = refl
  joins_first slot life (Hosts c) rest = refl

  hosts_first : (deed : Deed) (deeds : List Deed) → calls_of_host (deed ∷ []) ++ calls_of_host deeds ≡ calls_of_host (deed ∷ deeds)
  hosts_first (Acts actor) deeds = refl
  hosts_first (Hosts c) deeds = refl

  -- the calls of all deeds, of which those of a life are its actors', and those of the host are its own
  pub record AllCalled (deeds : List Deed) (old new : HostedSeat) : Type 0 where
    pub calls : SlotCalls
    pub made : Makes old calls new
    pub are : (slot life seat : ℕ) → life_turns shards slot life (turns_by seat calls) ≡ flat_map turns_of_told (commands_in_life slot life deeds)
    pub asked : (seat : ℕ) → filter_map host_turn (turns_by seat calls) ≡ calls_of_host deeds

  pub all_called : (deeds : List Deed) (old new : HostedSeat) → DoesAll shards states old deeds new → AllCalled deeds old new
  all_called [] old new more = record { calls = []; made = more; are = λ slot life seat. refl; asked = λ seat. refl }
  all_called (deed ∷ deeds) old new (seen, more, mid, first, later) =
      let one = deed_called deed seen mid first in
      let rest = all_called deeds mid new later in
      record {
        calls = one.calls ++ rest.calls;
        made = makes_later IsSlotTurn MayLackAtSlot (told.Refused OutOfMemory) states (one.calls ++ rest.calls) old seen new more
            (makes_both IsSlotTurn MayLackAtSlot (told.Refused OutOfMemory) states one.calls rest.calls seen mid new one.made rest.made);
        are = λ slot life seat.
            ap (life_turns shards slot life) (map-append (turn_by seat) one.calls rest.calls) ∙ both_mapped (in_life shards slot life) (turns_by seat one.calls) (turns_by seat rest.calls)
            ∙ (λ i. one.are slot life seat i ++ rest.are slot life seat i) ∙ sym (joins_first slot life deed (commands_in_life slot life deeds));
        asked = λ seat.
            ap (filter_map host_turn) (map-append (turn_by seat) one.calls rest.calls) ∙ both_mapped host_turn (turns_by seat one.calls) (turns_by seat rest.calls)
            ∙ (λ i. one.asked seat i ++ rest.asked seat i) ∙ hosts_first deed deeds;
      }
