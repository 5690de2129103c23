-- Lists of what seats did, and a log of their turns, merged into one list.
use Rattle.std.proofs.Common.{◌≡◌, ℕ, zero, suc, ◌≤◌, true, false, cond, ◌==◌, List, [], ◌∷◌, ◌++◌, map, ◌⊎◌, inl, inr, refl, sym, ◌∙◌, ap, subst, arith}
use Rattle.std.specs.Prelude.{filter}
use Rattle.std.specs.List.{AllByRecursion, flat_map}
use Rattle.std.proofs.lemmas.Bool.Decides.{Decides-eqb}
use Rattle.cops_history.specs.Turns.{Turn}
use Rattle.cops_history.specs.Commands.{Command, Opens, Creates, Deletes, Puts, Gets, Begins, StepsLate, Steps, StepsUnread, Carries, Collects, turn_made_by}
use Rattle.cops_history.specs.History.{Logged, Done, turns_by, turns_made, logged_by}

-- a command makes one turn, or none
pub turn_cases : (command : Command) → (turn_made_by command ≡ []) ⊎ ((t : Turn) × (turn_made_by command ≡ t ∷ []))
turn_cases (Opens dc) = inl refl
turn_cases Creates = inl refl
turn_cases (Deletes number) = inl refl
turn_cases (Puts number key value) = inl refl
turn_cases (Gets number keys) = inl refl
turn_cases (Begins stream) = inl refl
turn_cases (StepsLate given) = inl refl
turn_cases (Steps given t) = inr (t, refl)
turn_cases (StepsUnread given t) = inr (t, refl)
turn_cases (Carries given t) = inr (t, refl)
turn_cases (Collects t) = inr (t, refl)

module _ (owner : List ℕ → ℕ) where
  -- one order of all that was done, which keeps each seat's own and that of the log
  pub record Merged (log : List Logged) (did : ℕ → List Done) : Type 0 where
    pub order : List Done
    pub each : (seat : ℕ) → filter (λ d. owner d.actor == seat) order ≡ did seat
    pub logged : flat_map (logged_by owner) order ≡ log

  -- of one seat only this is left
  abbrev with_did : ℕ → List Done → (ℕ → List Done) → ℕ → List Done
  with_did seat later did other = cond (seat == other) later (did other)

  with_did-same : (seat : ℕ) (later : List Done) (did : ℕ → List Done) → with_did seat later did seat ≡ later
  with_did-same seat later did = let same : (seat == seat) ≡ true = (Decides-eqb seat seat).1 refl in rw same refl

  with_did-other : (seat other : ℕ) (later : List Done) (did : ℕ → List Done) → (seat == other) ≡ false → with_did seat later did other ≡ did other
  with_did-other seat other later did apart = rw apart refl

  -- what holds of the rest of one seat, and of each other, holds of all that is left
  with_did-all : (P : List Done → ℕ → Type 0) (seat : ℕ) (later : List Done) (did : ℕ → List Done) → P later seat → ((other : ℕ) → (seat == other) ≡ false → P (did other) other) → (other : ℕ) → P (with_did seat later did other) other
  with_did-all P seat later did here there other = elim (seat == other) as (λ b. (seat == other) ≡ b → P (cond b later (did other)) other) [
    | true ↦ λ same. subst (P later) ((Decides-eqb seat other).0 same) here
    | false ↦ λ apart. there other apart
  ] refl

  -- one more command, the first of its seat
  put_first : (seat : ℕ) (d : Done) (later : List Done) (log : List Logged) (did : ℕ → List Done) → owner d.actor ≡ seat → did seat ≡ d ∷ later → Merged log (with_did seat later did) → Merged (logged_by owner d ++ log) did
  put_first seat d later log did mine is m = record { order = d ∷ m.order; each = each; logged = ap (λ ls. logged_by owner d ++ ls) m.logged }
    where
      each : (other : ℕ) → filter (λ d. owner d.actor == other) (d ∷ m.order) ≡ did other
      each other = elim (owner d.actor == other) as (λ b. (owner d.actor == other) ≡ b → filter (λ d. owner d.actor == other) (d ∷ m.order) ≡ did other) [
        | true ↦ λ same.
            let at : seat ≡ other = sym mine ∙ (Decides-eqb (owner d.actor) other).0 same in
            let rest : filter (λ d. owner d.actor == other) m.order ≡ later = m.each other ∙ subst (λ n. with_did seat later did n ≡ later) at (with_did-same seat later did) in
            let whole : d ∷ filter (λ d. owner d.actor == other) m.order ≡ did other = ap (λ ts. d ∷ ts) rest ∙ sym is ∙ ap did at in
            rw same whole
        | false ↦ λ apart.
            let whole : filter (λ d. owner d.actor == other) m.order ≡ did other = m.each other ∙ with_did-other seat other later did (ap (λ s. s == other) (sym mine) ∙ apart) in
            rw apart whole
      ] refl

  -- no more than so many seats did anything
  abbrev Few : ℕ → (ℕ → List Done) → Type 0
  Few count did = (seat : ℕ) → count ≤ seat → did seat ≡ []

  -- what a seat did, its own actors did
  abbrev Own : (ℕ → List Done) → Type 0
  Own did = (seat : ℕ) → AllByRecursion (λ (d : Done). owner d.actor ≡ seat) (did seat)

  few_left : (count seat : ℕ) (d : Done) (later : List Done) (did : ℕ → List Done) → did seat ≡ d ∷ later → Few count did → Few count (with_did seat later did)
  few_left count seat d later did is few =
      with_did-all (λ ts other. count ≤ other → ts ≡ []) seat later did (λ beyond. let none : d ∷ later ≡ [] = sym is ∙ few seat beyond in cc) (λ other apart. few other)

  own_first : (seat : ℕ) (d : Done) (later : List Done) (did : ℕ → List Done) → did seat ≡ d ∷ later → Own did → (owner d.actor ≡ seat) × Own (with_did seat later did)
  own_first seat d later did is own =
      let here : AllByRecursion (λ (d : Done). owner d.actor ≡ seat) (d ∷ later) = subst (AllByRecursion (λ (d : Done). owner d.actor ≡ seat)) is (own seat) in
      (here.0, with_did-all (λ ds other. AllByRecursion (λ (d : Done). owner d.actor ≡ other) ds) seat later did here.1 (λ other apart. own other))

  -- ---- behind the log

  -- commands that make no turn
  silent : (d : Done) → turn_made_by d.told.command ≡ [] → logged_by owner d ≡ []
  silent d is = ap (map (λ t. record { seat = owner d.actor; turn = t })) is

  nothing_made : (d : Done) (later : List Done) → turns_made (d ∷ later) ≡ [] → (turn_made_by d.told.command ≡ []) × (turns_made later ≡ [])
  nothing_made d later none = by (turn_made_by d.told.command) refl none
    where
      by : (ts : List Turn) → turn_made_by d.told.command ≡ ts → ts ++ turns_made later ≡ [] → (turn_made_by d.told.command ≡ []) × (turns_made later ≡ [])
      by [] is e = (is, e)
      by (t ∷ ts) is e = cc

  behind_seat : (count seat : ℕ) (here : List Done) (did : ℕ → List Done) → did seat ≡ here → ((other : ℕ) → turns_made (did other) ≡ []) → Few (suc count) did → Own did →
      ((left : ℕ → List Done) → left seat ≡ [] → ((other : ℕ) → turns_made (left other) ≡ []) → Few (suc count) left → Own left → Merged [] left) → Merged [] did
  behind_seat count seat [] did is quiet few own others = others did is quiet few own
  behind_seat count seat (d ∷ later) did is quiet few own others =
      let made : (turn_made_by d.told.command ≡ []) × (turns_made later ≡ []) = nothing_made d later (ap turns_made (sym is) ∙ quiet seat) in
      let mine = own_first seat d later did is own in
      let rest : Merged [] (with_did seat later did) = behind_seat count seat later (with_did seat later did) (with_did-same seat later did)
      (with_did-all (λ ts other. turns_made ts ≡ []) seat later did made.1 (λ other apart. quiet other)) (few_left (suc count) seat d later did is few) mine.1 others in
      subst (λ ls. Merged (ls ++ []) did) (silent d made.0) (put_first seat d later [] did mine.0 is rest)

  behind : (count : ℕ) (did : ℕ → List Done) → ((seat : ℕ) → turns_made (did seat) ≡ []) → Few count did → Own did → Merged [] did
  behind zero did quiet few own = record { order = []; each = λ seat. sym (few seat (omega arith)); logged = refl }
  behind (suc count) did quiet few own =
      behind_seat count count (did count) did refl quiet few own (λ left none still more mine. behind count left still (λ seat beyond. by left none more seat beyond) mine)
    where
      by : (left : ℕ → List Done) → left count ≡ [] → Few (suc count) left → Few count left
      by left none more seat beyond = elim (count == seat) as (λ b. (count == seat) ≡ b → left seat ≡ []) [
        | true ↦ λ same. ap left (sym ((Decides-eqb count seat).0 same)) ∙ none
        | false ↦ λ apart. more seat (let differ : count ≡ seat → ⊥ = (λ e. let t : (count == seat) ≡ true = (Decides-eqb count seat).1 e in cc) in omega arith)
      ] refl

  -- ---- the log

  -- up to the seat's next turn, which the log has first
  up_to : (count seat : ℕ) (t : Turn) (log : List Logged) (here : List Done) (did : ℕ → List Done) → did seat ≡ here → turns_made here ≡ t ∷ turns_by seat log →
      ((other : ℕ) → (seat == other) ≡ false → turns_made (did other) ≡ turns_by other log) → Few count did → Own did →
      ((left : ℕ → List Done) → ((other : ℕ) → turns_made (left other) ≡ turns_by other log) → Few count left → Own left → Merged log left) → Merged (record { seat = seat; turn = t } ∷ log) did
  up_to count seat t log [] did is made others few own rest = cc
  up_to count seat t log (d ∷ later) did is made others few own rest =
      by (λ made_later. up_to count seat t log later (with_did seat later did) (with_did-same seat later did) made_later
      (λ other apart. ap turns_made (with_did-other seat other later did apart) ∙ others other apart) (few_left count seat d later did is few) (own_first seat d later did is own).1 rest)
      (turn_cases d.told.command)
    where
      fewer : Few count (with_did seat later did)
      fewer = few_left count seat d later did is few

      mine : (owner d.actor ≡ seat) × Own (with_did seat later did)
      mine = own_first seat d later did is own

      by : (turns_made later ≡ t ∷ turns_by seat log → Merged (record { seat = seat; turn = t } ∷ log) (with_did seat later did)) →
          (turn_made_by d.told.command ≡ []) ⊎ ((u : Turn) × (turn_made_by d.told.command ≡ u ∷ [])) → Merged (record { seat = seat; turn = t } ∷ log) did
      by further (inl none) =
          let made_later : turns_made later ≡ t ∷ turns_by seat log = ap (λ ts. ts ++ turns_made later) (sym none) ∙ made in
          let on : Merged (record { seat = seat; turn = t } ∷ log) (with_did seat later did) = further made_later in
          subst (λ ls. Merged (ls ++ record { seat = seat; turn = t } ∷ log) did) (silent d none) (put_first seat d later (record { seat = seat; turn = t } ∷ log) did mine.0 is on)
      by further (inr (u, one)) =
          let whole : u ∷ turns_made later ≡ t ∷ turns_by seat log = ap (λ ts. ts ++ turns_made later) (sym one) ∙ made in
          let same : u ≡ t = cc in
          let made_later : turns_made later ≡ turns_by seat log = cc in
          let on : Merged log (with_did seat later did) = rest (with_did seat later did) (with_did-all (λ ts other. turns_made ts ≡ turns_by other log) seat later did made_later others) fewer mine.1 in
          let it : logged_by owner d ≡ record { seat = seat; turn = t } ∷ [] =
          ap (map (λ v. record { seat = owner d.actor; turn = v })) (one ∙ ap (λ v. v ∷ []) same) ∙ ap (λ s. record { seat = s; turn = t } ∷ []) mine.0 in
          subst (λ ls. Merged (ls ++ log) did) it (put_first seat d later log did mine.0 is on)

  pub merge : (count : ℕ) (log : List Logged) (did : ℕ → List Done) → ((seat : ℕ) → turns_made (did seat) ≡ turns_by seat log) → Few count did → Own did → Merged log did
  merge count [] did make few own = behind count did make few own
  merge count (l ∷ log) did make few own =
      let same : (l.seat == l.seat) ≡ true = (Decides-eqb l.seat l.seat).1 refl in
      let mine : turns_by l.seat (l ∷ log) ≡ l.turn ∷ turns_by l.seat log = rw same refl in
      up_to count l.seat l.turn log (did l.seat) did refl (make l.seat ∙ mine) (λ other apart. make other ∙ others other apart) few own (λ left made fewer owned. merge count log left made fewer owned)
    where
      others : (other : ℕ) → (l.seat == other) ≡ false → turns_by other (l ∷ log) ≡ turns_by other log
      others other apart = rw apart refl
