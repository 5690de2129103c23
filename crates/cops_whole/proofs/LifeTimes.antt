-- In the log of a service no two tenants have one life.
use Rattle.std.proofs.Common.{◌≡◌, ◌≢◌, ◌⊎◌, ℕ, ◌<◌, ◌≤◌, Bool, true, false, cond, nat_eq, ◌==◌, List, [], ◌∷◌, ◌++◌, map, inl, inr, refl, sym, ◌∙◌, ap, subst, arith}
use Rattle.std.specs.Prelude.{Option, Some, None, filter}
use Rattle.std.specs.List.{AllByRecursion, cons_option, filter_map}
use Rattle.std.proofs.lemmas.Bool.{eqb-true}
use Rattle.std.proofs.lemmas.Bool.Decides.{Decides-eqb}
use Rattle.cops_types.specs.declared.configs.Tenant.{Tenant}
use Rattle.cops_node.specs.declared.hosted.SlotCall.{SlotCall}
use Rattle.cops_node.specs.declared.hosted.SlotCall.TheVariants.{Own, Admit, Close}
use Rattle.cops_history.specs.Lives.{AsksForLife, AsksOnce, NeverAsksFor, SlotEntry, SlotTurn, slot_entries_at, slot_entry}
use Rattle.cops_history.proofs.Cutting.{all_prefix}
use Rattle.cops_whole.specs.LivesRuns.{SlotCallThere, host_call, host_calls_by, is_of_host}
use Rattle.cops_whole.proofs.Admissions.{AsksThere, AtMostOnce, IsAskedFrom, IsForTenant, Never, all_weaker, once_prefix}
use Rattle.cops_whole.proofs.Nodes.{some_same}

-- ---- calls of the host

call_is : (node : ℕ) (e : SlotEntry) → is_of_host e.call ≡ true → host_call node (Some e) ≡ Some (record { node = node; entry = e })
call_is node e is = ap (λ b. cond b (Some (record { node = node; entry = e })) None) is

is_admission : (call : SlotCall) (life : ℕ) (tenant : Tenant) → call ≡ Admit life tenant → is_of_host call ≡ true
is_admission call life tenant is = ap is_of_host is

-- so it is of an admission
abbrev pub IsAdmittedSo : (ℕ → Tenant → Type 0) → Option SlotEntry → Type 0
IsAdmittedSo Is None = Unit {0}
IsAdmittedSo Is (Some e) = (life : ℕ) (tenant : Tenant) → e.call ≡ Admit life tenant → Is life tenant

-- it is for this tenant if it is an admission in this life
abbrev pub IsEntryFor : Tenant → ℕ → Option SlotEntry → Type 0
IsEntryFor tenant life = IsAdmittedSo (λ other its. other ≡ life → its ≡ tenant)

-- a seat without calls of the host has no such turn
none_by : (seat : ℕ) (log : List SlotTurn) → host_calls_by seat log ≡ [] → AllByRecursion (λ (t : SlotTurn). (t.seat == seat) ≡ true → host_call t.node t.entry ≡ None) log
none_by seat [] is = tt
none_by seat (t ∷ log) is = by (t.seat == seat) refl is (none_by seat log)
  where
    first : (o : Option SlotCallThere) (rest : List SlotCallThere) → cons_option o rest ≡ [] → o ≡ None
    first None rest h = refl
    first (Some c) rest h = cc

    later : (o : Option SlotCallThere) (rest : List SlotCallThere) → cons_option o rest ≡ [] → rest ≡ []
    later None rest h = h
    later (Some c) rest h = cc

    by : (b : Bool) → (t.seat == seat) ≡ b → filter_map (λ (u : SlotTurn). host_call u.node u.entry) (cond b (t ∷ filter (λ (u : SlotTurn). u.seat == seat) log) (filter (λ (u : SlotTurn). u.seat == seat) log)) ≡ [] →
        (host_calls_by seat log ≡ [] → AllByRecursion (λ (u : SlotTurn). (u.seat == seat) ≡ true → host_call u.node u.entry ≡ None) log) →
        AllByRecursion (λ (u : SlotTurn). (u.seat == seat) ≡ true → host_call u.node u.entry ≡ None) (t ∷ log)
    by true at h rest = ((λ same. first (host_call t.node t.entry) (host_calls_by seat log) h), rest (later (host_call t.node t.entry) (host_calls_by seat log) h))
    by false at h rest = ((λ same. cc), rest h)

-- of each number, so of all
for_all : {A : Type 0} (Q : ℕ → A → Type 0) (xs : List A) → ((n : ℕ) → AllByRecursion (Q n) xs) → AllByRecursion (λ x. (n : ℕ) → Q n x) xs
for_all Q [] all = tt
for_all Q (x ∷ xs) all = ((λ n. (all n).0), for_all Q xs (λ n. (all n).1))

module _ (host : ℕ) where
  -- only this seat makes calls of the host
  abbrev pub IsHostsOnly : SlotTurn → Type 0
  IsHostsOnly t = t.seat ≢ host → host_call t.node t.entry ≡ None

  pub hosts_only : (log : List SlotTurn) → ((seat : ℕ) → seat ≢ host → host_calls_by seat log ≡ []) → AllByRecursion IsHostsOnly log
  hosts_only log others = all_weaker (λ (t : SlotTurn). (seat : ℕ) → seat ≢ host → (t.seat == seat) ≡ true → host_call t.node t.entry ≡ None) IsHostsOnly log
      (λ t none apart. none t.seat apart ((Decides-eqb t.seat t.seat).1 refl))
      (for_all (λ seat (t : SlotTurn). seat ≢ host → (t.seat == seat) ≡ true → host_call t.node t.entry ≡ None) log (λ seat. each seat (nat_eq seat host) refl))
    where
      each : (seat : ℕ) (b : Bool) → nat_eq seat host ≡ b → AllByRecursion (λ (t : SlotTurn). seat ≢ host → (t.seat == seat) ≡ true → host_call t.node t.entry ≡ None) log
      each seat true is = always log
        where
          always : (ts : List SlotTurn) → AllByRecursion (λ (t : SlotTurn). seat ≢ host → (t.seat == seat) ≡ true → host_call t.node t.entry ≡ None) ts
          always [] = tt
          always (t ∷ ts) = ((λ apart. absurd (apart (eqb-true seat host is))), always ts)
      each seat false is = all_weaker (λ (t : SlotTurn). (t.seat == seat) ≡ true → host_call t.node t.entry ≡ None) (λ (t : SlotTurn). seat ≢ host → (t.seat == seat) ≡ true → host_call t.node t.entry ≡ None) log
          (λ t none apart. none) (none_by seat log (others seat (λ same. let yes_same : nat_eq seat host ≡ true = (Decides-eqb seat host).1 same in cc)))

  -- what holds of an entry if it holds of each call of the host, and of all that are none
  by_calls : (P : ℕ → Option SlotEntry → Type 0) (Q : SlotCallThere → Type 0) → ((node : ℕ) (entry : Option SlotEntry) → host_call node entry ≡ None → P node entry) →
      ((node : ℕ) (entry : Option SlotEntry) (c : SlotCallThere) → host_call node entry ≡ Some c → Q c → P node entry) →
      (log : List SlotTurn) → AllByRecursion IsHostsOnly log → AllByRecursion Q (host_calls_by host log) → AllByRecursion (λ (t : SlotTurn). P t.node t.entry) log
  by_calls P Q none some [] only all = tt
  by_calls P Q none some (t ∷ log) only all = by (t.seat == host) refl all (by_calls P Q none some log only.1)
    where
      call : (o : Option SlotCallThere) → host_call t.node t.entry ≡ o → AllByRecursion Q (cons_option o (host_calls_by host log)) → P t.node t.entry × AllByRecursion Q (host_calls_by host log)
      call None is every = (none t.node t.entry is, every)
      call (Some c) is every = (some t.node t.entry c is every.0, every.1)

      by : (b : Bool) → (t.seat == host) ≡ b → AllByRecursion Q (filter_map (λ (u : SlotTurn). host_call u.node u.entry) (cond b (t ∷ filter (λ (u : SlotTurn). u.seat == host) log) (filter (λ (u : SlotTurn). u.seat == host) log))) →
          (AllByRecursion Q (host_calls_by host log) → AllByRecursion (λ (u : SlotTurn). P u.node u.entry) log) → AllByRecursion (λ (u : SlotTurn). P u.node u.entry) (t ∷ log)
      by true at every rest = let here = call (host_call t.node t.entry) refl every in (here.0, rest here.1)
      by false at every rest =
          let apart : t.seat ≢ host = (λ same. let yes_same : (t.seat == host) ≡ true = (Decides-eqb t.seat host).1 same in cc) in
          (none t.node t.entry (only.0 apart), rest every)

  -- what holds of each admission that the host asked for
  pub admissions_so : (Is : ℕ → Tenant → Type 0) (log : List SlotTurn) → AllByRecursion IsHostsOnly log → AllByRecursion (λ (c : SlotCallThere). IsAdmittedSo Is (Some c.entry)) (host_calls_by host log) →
      AllByRecursion (λ (t : SlotTurn). IsAdmittedSo Is t.entry) log
  admissions_so Is log only all = by_calls (λ node entry. IsAdmittedSo Is entry) (λ c. IsAdmittedSo Is (Some c.entry)) by_none by_some log only all
    where
      by_none : (n : ℕ) (entry : Option SlotEntry) → host_call n entry ≡ None → IsAdmittedSo Is entry
      by_none n None none = tt
      by_none n (Some e) none = λ life tenant is. let some = call_is n e (is_admission e.call life tenant is) in cc

      by_some : (n : ℕ) (entry : Option SlotEntry) (c : SlotCallThere) → host_call n entry ≡ Some c → IsAdmittedSo Is (Some c.entry) → IsAdmittedSo Is entry
      by_some n None c is h = tt
      by_some n (Some e) c is h = λ life tenant asks.
          let c_is : c ≡ record { node = n; entry = e } = some_same c (record { node = n; entry = e }) (sym is ∙ call_is n e (is_admission e.call life tenant asks)) in
          h life tenant (ap (λ (x : SlotCallThere). x.entry.call) c_is ∙ asks)

  -- all for one tenant
  pub all_entries_for : (tenant : Tenant) (life : ℕ) (log : List SlotTurn) → AllByRecursion IsHostsOnly log → AllByRecursion (IsForTenant tenant life) (host_calls_by host log) → AllByRecursion (λ (t : SlotTurn). IsEntryFor tenant life t.entry) log
  all_entries_for tenant life log only own = admissions_so (λ other its. other ≡ life → its ≡ tenant) log only
      (all_weaker (IsForTenant tenant life) (λ (c : SlotCallThere). IsEntryFor tenant life (Some c.entry)) (host_calls_by host log) (λ c h other its asks same. h its (asks ∙ ap (λ n. Admit n its) same)) own)

-- ---- one life

module _ (host slot life : ℕ) where
  asked_call : (node : ℕ) (entry : Option SlotEntry) → AsksForLife slot life entry → (e : SlotEntry) × (entry ≡ Some e) × (host_call node entry ≡ Some (record { node = node; entry = e }))
  asked_call node None asks = absurd asks
  asked_call node (Some e) (at, tenant, is) = (e, refl, call_is node e (is_admission e.call life tenant is))

  abbrev AsksAt : ℕ → SlotTurn → Type 0
  AsksAt node t = (t.node ≡ node) × AsksForLife slot life t.entry

  -- what isn't among the host's calls isn't in the log
  never_there : (node : ℕ) (log : List SlotTurn) → AllByRecursion (IsHostsOnly host) log → Never (AsksThere node slot life) (host_calls_by host log) → Never (AsksAt node) log
  never_there node log only never =
      by_calls host (λ n entry. (n ≡ node) × AsksForLife slot life entry → ⊥) (λ c. AsksThere node slot life c → ⊥)
      (λ n entry none asks. let a = asked_call n entry asks.1 in let some = a.2 in cc)
      (λ n entry c is no asks.
      let a = asked_call n entry asks.1 in
      let c_is : c ≡ record { node = n; entry = a.0 } = some_same c (record { node = n; entry = a.0 }) (sym is ∙ a.2) in
      no (subst (AsksThere node slot life) (sym c_is) (asks.0, subst (AsksForLife slot life) a.1 asks.1)))
      log only never

  once_there : (node : ℕ) (log : List SlotTurn) → AllByRecursion (IsHostsOnly host) log → AtMostOnce (AsksThere node slot life) (host_calls_by host log) → AtMostOnce (AsksAt node) log
  once_there node [] only once = tt
  once_there node (t ∷ log) only once = by (t.seat == host) refl once (once_there node log only.1) (never_there node log only.1)
    where
      call : (o : Option SlotCallThere) → host_call t.node t.entry ≡ o → AtMostOnce (AsksThere node slot life) (cons_option o (host_calls_by host log)) →
          (AtMostOnce (AsksThere node slot life) (host_calls_by host log) → AtMostOnce (AsksAt node) log) → (Never (AsksThere node slot life) (host_calls_by host log) → Never (AsksAt node) log) → AtMostOnce (AsksAt node) (t ∷ log)
      call None is one rest never = ((λ asks. let a = asked_call t.node t.entry asks.1 in let some = a.2 in cc), rest one)
      call (Some c) is one rest never = (
        (λ asks.
            let a = asked_call t.node t.entry asks.1 in
            let c_is : c ≡ record { node = t.node; entry = a.0 } = some_same c (record { node = t.node; entry = a.0 }) (sym is ∙ a.2) in
            never (one.0 (subst (AsksThere node slot life) (sym c_is) (asks.0, subst (AsksForLife slot life) a.1 asks.1)))),
        rest one.1,
      )

      by : (b : Bool) → (t.seat == host) ≡ b → AtMostOnce (AsksThere node slot life) (filter_map (λ (u : SlotTurn). host_call u.node u.entry) (cond b (t ∷ filter (λ (u : SlotTurn). u.seat == host) log) (filter (λ (u : SlotTurn). u.seat == host) log))) →
          (AtMostOnce (AsksThere node slot life) (host_calls_by host log) → AtMostOnce (AsksAt node) log) → (Never (AsksThere node slot life) (host_calls_by host log) → Never (AsksAt node) log) → AtMostOnce (AsksAt node) (t ∷ log)
      by true at one rest never = call (host_call t.node t.entry) refl one rest never
      by false at one rest never =
          let apart : t.seat ≢ host = (λ same. let yes_same : (t.seat == host) ≡ true = (Decides-eqb t.seat host).1 same in cc) in
          call None (only.0 apart) one rest never

  -- at one node
  never_at : (node : ℕ) (log : List SlotTurn) → Never (AsksAt node) log → NeverAsksFor slot life (slot_entries_at node log)
  never_at node [] never = tt
  never_at node (t ∷ log) never = elim (t.node == node) as (λ b. (t.node == node) ≡ b → NeverAsksFor slot life (map (λ (u : SlotTurn). u.entry) (cond b (t ∷ filter (λ (u : SlotTurn). u.node == node) log) (filter (λ (u : SlotTurn). u.node == node) log)))) [
    | true ↦ λ at. ((λ asks. never.0 ((Decides-eqb t.node node).0 at, asks)), never_at node log never.1)
    | false ↦ λ apart. never_at node log never.1
  ] refl

  once_at : (node : ℕ) (log : List SlotTurn) → AtMostOnce (AsksAt node) log → AtMostOnce (AsksForLife slot life) (slot_entries_at node log)
  once_at node [] once = tt
  once_at node (t ∷ log) once = elim (t.node == node) as (λ b. (t.node == node) ≡ b → AtMostOnce (AsksForLife slot life) (map (λ (u : SlotTurn). u.entry) (cond b (t ∷ filter (λ (u : SlotTurn). u.node == node) log) (filter (λ (u : SlotTurn). u.node == node) log)))) [
    | true ↦ λ at. ((λ asks. never_at node log (once.0 ((Decides-eqb t.node node).0 at, asks))), once_at node log once.1)
    | false ↦ λ apart. once_at node log once.1
  ] refl

  for_at : (tenant : Tenant) (node : ℕ) (log : List SlotTurn) → AllByRecursion (λ (t : SlotTurn). IsEntryFor tenant life t.entry) log → AllByRecursion (IsEntryFor tenant life) (slot_entries_at node log)
  for_at tenant node [] all = tt
  for_at tenant node (t ∷ log) all = elim (t.node == node) as (λ b. AllByRecursion (IsEntryFor tenant life) (map (λ (u : SlotTurn). u.entry) (cond b (t ∷ filter (λ (u : SlotTurn). u.node == node) log) (filter (λ (u : SlotTurn). u.node == node) log)))) [
    | true ↦ (all.0, for_at tenant node log all.1)
    | false ↦ for_at tenant node log all.1
  ]

  asks_or_not : (entry : Option SlotEntry) → AsksForLife slot life entry ⊎ (AsksForLife slot life entry → ⊥)
  asks_or_not None = inr (λ asks. asks)
  asks_or_not (Some e) = by (nat_eq e.slot slot) refl e.call refl
    where
      by : (b : Bool) → nat_eq e.slot slot ≡ b → (call : SlotCall) → e.call ≡ call → AsksForLife slot life (Some e) ⊎ (AsksForLife slot life (Some e) → ⊥)
      by false apart call is = inr (λ asks. let yes_same : nat_eq e.slot slot ≡ true = (Decides-eqb e.slot slot).1 asks.0 in cc)
      by true at (Own other own) is = inr (λ asks. let asked = asks.2 in cc)
      by true at Close is = inr (λ asks. let asked = asks.2 in cc)
      by true at (Admit other tenant) is = own (nat_eq other life) refl
        where
          own : (c : Bool) → nat_eq other life ≡ c → AsksForLife slot life (Some e) ⊎ (AsksForLife slot life (Some e) → ⊥)
          own true its = inl (eqb-true e.slot slot at, tenant, is ∙ ap (λ l. Admit l tenant) (eqb-true other life its))
          own false apart = inr (λ asks. let asked = asks.2 in let same : nat_eq other life ≡ true = (Decides-eqb other life).1 (its_life other life tenant asks.1 (sym is ∙ asks.2)) in cc)
            where
              its_life : (l m : ℕ) (t u : Tenant) → Admit l t ≡ Admit m u → l ≡ m
              its_life l m t u h = cc

  -- the host asks for the life never, or once and for this tenant
  asked_once : (tenant : Tenant) (entries : List (Option SlotEntry)) → AtMostOnce (AsksForLife slot life) entries → AllByRecursion (IsEntryFor tenant life) entries → NeverAsksFor slot life entries ⊎ AsksOnce tenant slot life entries
  asked_once tenant [] once all = inl tt
  asked_once tenant (entry ∷ entries) once all = by (asks_or_not entry) (asked_once tenant entries once.1 all.1)
    where
      now : (o : Option SlotEntry) → entry ≡ o → AsksForLife slot life o → NeverAsksFor slot life entries → IsEntryFor tenant life o → AsksOnce tenant slot life (entry ∷ entries)
      now None is asks never own = absurd asks
      now (Some e) is (at, other, call) never own =
          let call_now : e.call ≡ Admit life tenant = call ∙ ap (Admit life) (own life other call refl) in
          record {
            earlier = [];
            later = entries;
            moment = e.moment;
            reply = e.reply;
            are = ap (λ x. x ∷ entries) is ∙ (λ i. Some (slot_entry (at i) e.moment (call_now i) e.reply) ∷ entries);
            first = tt;
            last = never;
          }

      by : AsksForLife slot life entry ⊎ (AsksForLife slot life entry → ⊥) → NeverAsksFor slot life entries ⊎ AsksOnce tenant slot life entries → NeverAsksFor slot life (entry ∷ entries) ⊎ AsksOnce tenant slot life (entry ∷ entries)
      by (inl asks) rest = inr (now entry refl asks (once.0 asks) all.0)
      by (inr not_it) (inl never) = inl (not_it, never)
      by (inr not_it) (inr one) = inr (record { earlier = entry ∷ one.earlier; later = one.later; moment = one.moment; reply = one.reply; are = ap (λ es. entry ∷ es) one.are; first = (not_it, one.first); last = one.last })

  -- ---- a prefix of the log

  module _ (log prefix later : List SlotTurn) (are : log ≡ prefix ++ later) (only : AllByRecursion (IsHostsOnly host) log) (calls : List SlotCallThere) (calls_are : host_calls_by host log ≡ calls) where
    pub once_or_never : (tenant : Tenant) → ((node : ℕ) → AtMostOnce (AsksThere node slot life) calls) → AllByRecursion (IsForTenant tenant life) calls → (node : ℕ) →
        NeverAsksFor slot life (slot_entries_at node prefix) ⊎ AsksOnce tenant slot life (slot_entries_at node prefix)
    once_or_never tenant once own node =
        let once_here : AtMostOnce (AsksAt node) log = once_there node log only (subst (AtMostOnce (AsksThere node slot life)) (sym calls_are) (once node)) in
        let own_here : AllByRecursion (λ (t : SlotTurn). IsEntryFor tenant life t.entry) log = all_entries_for host tenant life log only (subst (AllByRecursion (IsForTenant tenant life)) (sym calls_are) own) in
        asked_once tenant (slot_entries_at node prefix) (once_at node prefix (once_prefix (AsksAt node) prefix later (subst (AtMostOnce (AsksAt node)) are once_here)))
        (for_at tenant node prefix (all_prefix (λ (t : SlotTurn). IsEntryFor tenant life t.entry) prefix later (subst (AllByRecursion (λ (t : SlotTurn). IsEntryFor tenant life t.entry)) are own_here)))

    pub never_before : (lower upper : ℕ) → life < lower → AllByRecursion (IsAskedFrom lower upper) calls → (node : ℕ) → NeverAsksFor slot life (slot_entries_at node prefix)
    never_before lower upper below asked node =
        let never : Never (AsksThere node slot life) calls =
        all_weaker (IsAskedFrom lower upper) (λ (c : SlotCallThere). AsksThere node slot life c → ⊥) calls (λ c from asks. let above : lower ≤ life = (from life asks.1.1 asks.1.2).0 in omega (arith, above, below)) asked in
        never_at node prefix (all_prefix (λ (t : SlotTurn). AsksAt node t → ⊥) prefix later (subst (Never (AsksAt node)) are (never_there node log only (subst (Never (AsksThere node slot life)) (sym calls_are) never))))
