-- The log of a life is legal at each node that its tenant has to itself, until a call of it gets `UnknownTenant`.
use Rattle.std.proofs.Common.{◌≡◌, ℕ, ◌*◌, ◌/◌, ◌%◌, ◌<◌, ◌≤◌, inl, inr, Bool, true, false, cond, ◌==◌, nat_eq, nat_lt, List, [], ◌∷◌, ◌++◌, map, refl, sym, ◌∙◌, ap, subst, arith}
use Rattle.std.specs.Prelude.{Option, Some, None, filter}
use Rattle.std.specs.Option.{option_map}
use Rattle.std.specs.List.{AllByRecursion, cons_option, filter_map, flat_map}
use Rattle.std.proofs.lemmas.Bool.Decides.{Decides-eqb, leb_tells}
use Rattle.std.proofs.lemmas.Bool.{lt-ltb}
use Rattle.std.proofs.lemmas.List.{map-append}
use Rattle.std.proofs.lemmas.List.Elements.{filter-append}
use Rattle.std.proofs.Math.Nat.{div-lt_iff_lt-mul, mod-lt}
use Rattle.std.proofs.lemmas.Nat.{div-add-mod'}
use Rattle.cops_types.specs.declared.configs.Config.{Config}
use Rattle.cops_types.specs.declared.configs.Tenant.{Tenant}
use Rattle.cops_types.specs.TenantConfig.{TenantConfig, tenant_config}
use Rattle.cops_types.proofs.Elements.{and_true}
use Rattle.cops_causal.proofs.Past.{new_nodes}
use Rattle.cops_model.specs.declared.calls.NodeCall.{NodeCall}
use Rattle.cops_model.specs.Cluster.{has_node}
use Rattle.cops_model.specs.Place.{node_number}
use Rattle.cops_model.specs.SoloNode.{new_node}
use Rattle.cops_node.specs.Clusters.{id_of}
use Rattle.cops_node.specs.declared.hosted.SlotCall.TheVariants.{Close}
use Rattle.cops_node.specs.declared.hosted.SlotReply.{SlotReply}
use Rattle.cops_node.specs.Hosting.{Held, Hosted, slot_holds}
use Rattle.cops_history.specs.Turns.{Turn, IsLegal, IsLegalAtEach, all_new, is_at, left_of, node_numbered, turns_at}
use Rattle.cops_history.specs.History.{Behaves, HasPrefixesOfActs, Logged, Told, all_done, numbered, seat_in, turns, turns_by}
use Rattle.cops_history.specs.Lives.{SlotEntry, SlotTurn, AreServedInLife, IsHostedLog, IsTimeOf, IsToldUnknown, IsUnknown, LeadsOnSlots, LivesCausally, NeverAsksFor, NeverToldUnknown, call_in_life, slot_entries_at, held_there, life_log, logged_in_life, new_hosted, reply_in_life, slot_entry, turn_in_life}
use Rattle.cops_history.proofs.Acts.{left_by_turns}
use Rattle.cops_history.proofs.Cutting.{all_prefix, prefixes}
use Rattle.cops_history.proofs.Lives.{AloneThere, joined_parts, led_parts, lived_there, some_same, unknown_after_close}
use Rattle.cops_history.proofs.Seated.{numbered_made, numbered_own, one_of}

-- ---- parts of a log

pub life_parts : (shards slot life : ℕ) (prefix later : List SlotTurn) → life_log shards slot life (prefix ++ later) ≡ life_log shards slot life prefix ++ life_log shards slot life later
life_parts shards slot life [] later = refl
life_parts shards slot life (t ∷ prefix) later =
    joined_parts (logged_in_life shards slot life t) (life_log shards slot life prefix) (life_log shards slot life later) (life_log shards slot life (prefix ++ later)) (life_parts shards slot life prefix later)

by_seat : (seat : ℕ) (prefix later : List Logged) → turns_by seat (prefix ++ later) ≡ turns_by seat prefix ++ turns_by seat later
by_seat seat prefix later =
    ap (map (λ (l : Logged). l.turn)) (filter-append (λ (l : Logged). l.seat == seat) prefix later)
    ∙ map-append (λ (l : Logged). l.turn) (filter (λ (l : Logged). l.seat == seat) prefix) (filter (λ (l : Logged). l.seat == seat) later)

pub entry_parts : (number : ℕ) (prefix later : List SlotTurn) → slot_entries_at number (prefix ++ later) ≡ slot_entries_at number prefix ++ slot_entries_at number later
entry_parts number prefix later =
    ap (map (λ (t : SlotTurn). t.entry)) (filter-append (λ (t : SlotTurn). t.node == number) prefix later)
    ∙ map-append (λ (t : SlotTurn). t.entry) (filter (λ (t : SlotTurn). t.node == number) prefix) (filter (λ (t : SlotTurn). t.node == number) later)

abbrev logged_by_seat : ℕ → Turn → Logged
logged_by_seat seat t = record { seat = seat; turn = t }

module _ (config : Config) (tenant : Tenant) (slot life : ℕ) (some : 0 < config.shards) where
  abbrev own : TenantConfig
  own = tenant_config config tenant

  number_is : (number : ℕ) → node_number config.shards (id_of config.shards number) ≡ number
  number_is number = div-add-mod' number config.shards

  pub is_there : (number : ℕ) → number < config.data_centres * config.shards → has_node own (id_of config.shards number).dc (id_of config.shards number).shard ≡ true
  is_there number within =
      and_true (nat_lt (number / config.shards) config.data_centres) (nat_lt (number % config.shards) config.shards)
      (lt-ltb (number / config.shards) config.data_centres ((div-lt_iff_lt-mul some).1 within))
      (lt-ltb (number % config.shards) config.shards (mod-lt number some))

  new_solo : (number : ℕ) → node_numbered own number (all_new own) ≡ new_node config.data_centres
  new_solo number = new_nodes (config.data_centres * config.shards) number (new_node config.data_centres)

  -- ---- the calls at a node

  -- a call of the life, as a turn of its tenant
  abbrev turn_with : ℕ → SlotEntry → NodeCall → Turn
  turn_with number e call = record { node = id_of config.shards number; moment = e.moment; call = call; reply = reply_in_life e.reply }

  node_of : (number : ℕ) (entry : Option SlotEntry) (t : Turn) → turn_in_life config.shards slot life number entry ≡ Some t → t.node ≡ id_of config.shards number
  node_of number None t is = cc
  node_of number (Some e) t is = by (nat_eq e.slot slot) (call_in_life life e.call) is
    where
      by : (b : Bool) (o : Option NodeCall) → cond b (option_map (turn_with number e) o) None ≡ Some t → t.node ≡ id_of config.shards number
      by true None is = cc
      by true (Some c) is = sym (ap (λ (u : Turn). u.node) (some_same (turn_with number e c) t is))
      by false o is = cc

  abbrev there_in : ℕ → List (Option SlotEntry) → List Turn
  there_in number entries = filter_map (turn_in_life config.shards slot life number) entries

  -- a turn at a node joins what stands there, and what stands at no other
  joined : (number : ℕ) (t : SlotTurn) (o : Option Turn) (rest : List Logged) (log : List SlotTurn) → turn_in_life config.shards slot life t.node t.entry ≡ o → turns_at own number (turns rest) ≡ there_in number (map (λ (t : SlotTurn). t.entry) log) →
      turns_at own number (turns (cons_option (option_map (logged_by_seat t.seat) o) rest)) ≡ there_in number (map (λ (t : SlotTurn). t.entry) (cond (t.node == number) (t ∷ log) log))
  joined number t None rest log is ih = elim (t.node == number) as (λ b. (t.node == number) ≡ b → turns_at own number (turns rest) ≡ there_in number (map (λ (t : SlotTurn). t.entry) (cond b (t ∷ log) log))) [
    | true ↦ λ same.
        let here : turn_in_life config.shards slot life number t.entry ≡ None = subst (λ n. turn_in_life config.shards slot life n t.entry ≡ None) ((Decides-eqb t.node number).0 same) is in
        ih ∙ (λ i. cons_option (sym here i) (there_in number (map (λ (t : SlotTurn). t.entry) log)))
    | false ↦ λ apart. ih
  ] refl
  joined number t (Some u) rest log is ih =
      ap (λ b. cond b (u ∷ turns_at own number (turns rest)) (turns_at own number (turns rest))) (ap (λ id. node_number config.shards id == number) (node_of t.node t.entry u is) ∙ ap (λ n. n == number) (number_is t.node))
      ∙ elim (t.node == number) as (λ b. (t.node == number) ≡ b → cond b (u ∷ turns_at own number (turns rest)) (turns_at own number (turns rest)) ≡ there_in number (map (λ (t : SlotTurn). t.entry) (cond b (t ∷ log) log))) [
        | true ↦ λ same.
            let here : turn_in_life config.shards slot life number t.entry ≡ Some u = subst (λ n. turn_in_life config.shards slot life n t.entry ≡ Some u) ((Decides-eqb t.node number).0 same) is in
            ap (λ ts. u ∷ ts) ih ∙ (λ i. cons_option (sym here i) (there_in number (map (λ (t : SlotTurn). t.entry) log)))
        | false ↦ λ apart. ih
      ] refl

  there_is : (number : ℕ) (log : List SlotTurn) → turns_at own number (turns (life_log config.shards slot life log)) ≡ there_in number (slot_entries_at number log)
  there_is number [] = refl
  there_is number (t ∷ log) =
      joined number t (turn_in_life config.shards slot life t.node t.entry) (life_log config.shards slot life log) (filter (λ (t : SlotTurn). t.node == number) log) refl (there_is number log)

  -- nothing was called at a node that doesn't exist
  nothing_past : (number : ℕ) (log : List SlotTurn) → config.data_centres * config.shards ≤ number → AllByRecursion (λ (t : SlotTurn). t.node < config.data_centres * config.shards) log → slot_entries_at number log ≡ []
  nothing_past number [] past there = refl
  nothing_past number (t ∷ log) past there = elim (t.node == number) as (λ b. (t.node == number) ≡ b → map (λ (t : SlotTurn). t.entry) (cond b (t ∷ filter (λ (t : SlotTurn). t.node == number) log) (filter (λ (t : SlotTurn). t.node == number) log)) ≡ []) [
    | true ↦ λ same. let at : t.node ≡ number = (Decides-eqb t.node number).0 same in let below : t.node < config.data_centres * config.shards = there.0 in absurd (omega (arith, at, below, past))
    | false ↦ λ apart. nothing_past number log past there.1
  ] refl

  all_there : (number : ℕ) (log : List SlotTurn) → AllByRecursion (λ (t : SlotTurn). IsToldUnknown slot life t.entry → ⊥) log → NeverToldUnknown slot life (slot_entries_at number log)
  all_there number [] all = tt
  all_there number (t ∷ log) all = elim (t.node == number) as (λ b. NeverToldUnknown slot life (map (λ (t : SlotTurn). t.entry) (cond b (t ∷ filter (λ (t : SlotTurn). t.node == number) log) (filter (λ (t : SlotTurn). t.node == number) log)))) [
    | true ↦ (all.0, all_there number log all.1)
    | false ↦ all_there number log all.1
  ]

  -- ---- until a call gets `UnknownTenant`

  module _ (log prefix : List SlotTurn) (whole : IsHostedLog config log) (time : IsTimeOf config tenant slot life prefix log) where
    prefix_there : AllByRecursion (λ (t : SlotTurn). t.node < config.data_centres * config.shards) prefix
    prefix_there = all_prefix (λ (t : SlotTurn). t.node < config.data_centres * config.shards) prefix time.later (subst (AllByRecursion (λ (t : SlotTurn). t.node < config.data_centres * config.shards)) time.are whole.there)

    led : (number : ℕ) → number < config.data_centres * config.shards → (left : Hosted) × LeadsOnSlots (new_hosted config number) (slot_entries_at number prefix) left
    led number within =
        let all = whole.legal number within in
        let parts = led_parts (slot_entries_at number prefix) (slot_entries_at number time.later) (new_hosted config number) all.0
        (subst (λ es. LeadsOnSlots (new_hosted config number) es all.0) (ap (slot_entries_at number) time.are ∙ entry_parts number prefix time.later) all.1) in
        (parts.0, parts.1)

    known_there : (number : ℕ) → NeverToldUnknown slot life (slot_entries_at number prefix)
    known_there number = all_there number prefix time.known

    alone : (number : ℕ) (within : number < config.data_centres * config.shards) (left : Hosted) → LeadsOnSlots (new_hosted config number) (slot_entries_at number prefix) left →
        AloneThere config tenant slot life number (is_there number within) (new_node config.data_centres) (there_in number (slot_entries_at number prefix)) left
    alone number within left leads = lived_there config tenant slot life number (is_there number within) (slot_entries_at number prefix) left (time.own number within) (known_there number) leads

    of_node : (number : ℕ) → number < config.data_centres * config.shards → IsLegal own (new_node config.data_centres) (there_in number (slot_entries_at number prefix))
    of_node number within = let l = led number within in (alone number within l.0 l.1).legal

    legal : IsLegalAtEach own (all_new own) (turns (life_log config.shards slot life prefix))
    legal number = subst (IsLegal own (node_numbered own number (all_new own))) (sym (there_is number prefix)) (elim (leb_tells (config.data_centres * config.shards) number) [
      | inl past ↦ subst (λ (es : List (Option SlotEntry)). IsLegal own (node_numbered own number (all_new own)) (there_in number es)) (sym (nothing_past number prefix past.1 prefix_there)) tt
      | inr within ↦ subst (λ s. IsLegal own s (there_in number (slot_entries_at number prefix))) (sym (new_solo number)) (of_node number within.1)
    ])

    pub lived : (seats : ℕ) (did : ℕ → List (List Told)) → AreServedInLife own (life_log config.shards slot life log) seats did → LivesCausally config tenant slot life prefix did
    lived seats did are = prefixes own (life_log config.shards slot life prefix) seats seat_in (all_done did) some (record {
      legal = legal;
      behave = λ name. one_of (Behaves own None) (seat_in name) 0 (did (seat_in name)) name tt (are.behave (seat_in name));
      own = λ seat. numbered_own seat 0 (did seat);
      make = λ seat. (
        turns_by seat (life_log config.shards slot life time.later),
        numbered_made seat 0 (did seat) ∙ are.make seat ∙ ap (λ l. turns_by seat (life_log config.shards slot life l)) time.are
            ∙ ap (turns_by seat) (life_parts config.shards slot life prefix time.later) ∙ by_seat seat (life_log config.shards slot life prefix) (life_log config.shards slot life time.later),
      );
      few = λ seat beyond. ap (numbered seat 0) (are.few seat beyond);
    })

    pub holds_lived : (did : ℕ → List (List Told)) (lives : LivesCausally config tenant slot life prefix did) (number : ℕ) (left : Hosted) (h : Held) → number < config.data_centres * config.shards →
        LeadsOnSlots (new_hosted config number) (slot_entries_at number prefix) left → slot_holds slot left ≡ Some h → h.life ≡ life → h ≡ held_there config tenant life number (node_numbered own number lives.acts.run.left.nodes)
    holds_lived did lives number left h within leads found its =
        let same : left_of own (new_node config.data_centres) (there_in number (slot_entries_at number prefix)) ≡ node_numbered own number lives.acts.run.left.nodes =
        sym (ap (node_numbered own number) lives.acts.nodes ∙ left_by_turns own (life_log config.shards slot life prefix) number legal ∙ (λ i. left_of own (new_solo number i) (there_is number prefix i))) in
        (alone number within left leads).stands h found its ∙ ap (held_there config tenant life number) same

-- ---- after a close

-- of any tenant
abbrev nobody : Tenant
nobody = record { name = []; token = []; first_clock = 0; quota = record { versions = 0; bytes = 0; outbox = 0; contexts = 0; deps = 0; actors = 0; audit = 0 } }

pub late_calls : (config : Config) (slot life number : ℕ) → 0 < config.shards → number < config.data_centres * config.shards → (moment : ℕ) (reply : SlotReply) (earlier later : List (Option SlotEntry)) (left : Hosted) → NeverAsksFor slot life later →
    LeadsOnSlots (new_hosted config number) (earlier ++ Some (slot_entry slot moment Close reply) ∷ later) left → AllByRecursion (λ (e : Option SlotEntry). IsUnknown slot life e) later
late_calls config slot life number some within moment reply earlier later left begins leads =
    unknown_after_close config nobody slot life number (is_there config nobody slot life some number within) moment reply earlier later left begins leads
