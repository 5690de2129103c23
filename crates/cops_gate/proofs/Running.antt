-- A history of all nodes is a run of the cluster as one machine.
use Rattle.std.proofs.Common.{◌≡◌, ◌≢◌, ℕ, List, [], ◌∷◌, ◌++◌, set, length-set, sym, refl, ap, ◌∙◌, subst, ne_eqb, eq-eqb, cond}
use mathlib.Core.Logic.{dite}
use mathlib.Core.Option.{some, some-injective}
use native.Mathlib.Decide.{ℕ_discrete}
use lib.ListN.{get_elem?}
use Rattle.atomic_table.proofs.Lists.{set_else}
use Rattle.cops_gate.specs.declared.history.Turn.{Turn}
use Rattle.cops_gate.specs.History.{turn, AtNodes, turns_at, Leads, IsLegal, Runs}
use Rattle.cops_gate.specs.Running.{WholeHistoriesRun, RunsLeadEachNode, TurnsEndARun}
use Rattle.cops_gate.proofs.Keeps.{there_at, set_at}

module _ {C R : Type 0} where
  here_first : (t : Turn C R) (ts : List (Turn C R)) → turns_at t.node (t ∷ ts) ≡ t ∷ turns_at t.node ts
  here_first t ts = ap (λ b. cond b (t ∷ turns_at t.node ts) (turns_at t.node ts)) (eq-eqb t.node t.node refl)

  not_here : (t : Turn C R) (ts : List (Turn C R)) (n : ℕ) → n ≢ t.node → turns_at n (t ∷ ts) ≡ turns_at n ts
  not_here t ts n other = ap (λ b. cond b (t ∷ turns_at n ts) (turns_at n ts)) (ne_eqb t.node n (λ e. other (sym e)))

module _ {M C R : Type 0} (turns : M → ℕ → ℕ → C → R → M → Type 0) where
  pub whole_histories_run : WholeHistoriesRun turns
  whole_histories_run states [] whole = (states, refl)
  whole_histories_run states (t ∷ ts) whole =
      let n : ℕ = t.node in
      let now = there_at states n whole.0.0 in
      let legal : IsLegal turns now.0 (t ∷ turns_at n ts) = subst (IsLegal turns now.0) (here_first t ts) (whole.1 n now.0 now.1) in
      let next : M = legal.1.0 in
      let states' : List M = set states n next in
      let each : (m : ℕ) (first : M) → get_elem? states' m ≡ some first → IsLegal turns first (turns_at m ts)
      = λ m first at. dite (ℕ_discrete m n)
      (λ e. let is : next ≡ first = some-injective next first (sym (set_at states n now.0 next now.1) ∙ subst (λ k. get_elem? states' k ≡ some first) e at) in
      subst (λ (x : ℕ × M). IsLegal turns x.1 (turns_at x.0 ts)) (λ i. (sym e i, is i)) (legal.0, legal.1.2))
      (λ other. subst (IsLegal turns first) (not_here t ts m other) (whole.1 m first (sym (set_else states n m next other) ∙ at))) in
      let rest = whole_histories_run states' ts (subst (λ k. AtNodes k ts) (sym (length-set states n next)) whole.0.1, each) in (
        rest.0,
        (now.0, next, now.1, legal.1.1, rest.1),
      )

  pub runs_lead_each_node : RunsLeadEachNode turns
  runs_lead_each_node states after [] node first last runs at end = some-injective first last (sym at ∙ (ap (λ l. get_elem? l node) runs ∙ end))
  runs_lead_each_node states after (t ∷ ts) node first last runs at end = dite (ℕ_discrete node t.node)
      (λ e. let is : runs.0 ≡ first = some-injective runs.0 first (sym runs.2 ∙ subst (λ k. get_elem? states k ≡ some first) e at) in
      let on : Leads turns runs.1 (turns_at t.node ts) last = runs_lead_each_node (set states t.node runs.1) after ts t.node runs.1 last runs.4 (set_at states t.node runs.0 runs.1 runs.2) (subst (λ k. get_elem? after k ≡ some last) e end) in
      subst (λ (x : M × ℕ). Leads turns x.0 (turns_at x.1 (t ∷ ts)) last) (λ i. (is i, sym e i)) (subst (λ l. Leads turns runs.0 l last) (sym (here_first t ts)) (runs.1, runs.3, on)))
      (λ other. subst (λ l. Leads turns first l last) (sym (not_here t ts node other))
      (runs_lead_each_node (set states t.node runs.1) after ts node first last runs.4 (set_else states t.node node runs.1 other ∙ at) end))

  runs_split : (states after : List M) (xs ys : List (Turn C R)) → Runs turns states (xs ++ ys) after → (between : List M) × Runs turns states xs between × Runs turns between ys after
  runs_split states after [] ys r = (states, refl, r)
  runs_split states after (t ∷ xs) ys r = let p = runs_split (set states t.node r.1) after xs ys r.4 in (p.0, (r.0, r.1, r.2, r.3, p.1), p.2)

  pub turns_end_a_run : TurnsEndARun turns
  turns_end_a_run states number node before after e grown =
      let run = whole_histories_run states after grown.0 in
      let earlier : List (Turn C R) = before ++ grown.1.0 in
      let parts = runs_split states run.0 earlier (turn number node e ∷ []) (subst (λ l. Runs turns states l run.0) grown.1.1 run.1) in
      (earlier, parts.0, run.0, (grown.1.0, refl), grown.1.1, parts.1, parts.2)
