-- A log is filled in from the log that gates keep and the calls of each seat.
use Rattle.std.proofs.Common.{◌≡◌, ℕ, suc, Bool, true, false, cond, ◌==◌, List, [], ◌∷◌, ◌++◌, map, length, refl, sym, ◌∙◌, ap, subst, arith}
use Rattle.std.specs.Prelude.{filter}
use Rattle.std.proofs.lemmas.Bool.Decides.{Decides-eqb}
use Rattle.std.proofs.lemmas.List.Elements.{filter-append}

-- ---- lists

module _ {T : Type 0} where
  pub heads_same : (x y : T) (xs ys : List T) → x ∷ xs ≡ y ∷ ys → x ≡ y
  heads_same x y xs ys e = cc

  pub tails_same : (x y : T) (xs ys : List T) → x ∷ xs ≡ y ∷ ys → xs ≡ ys
  tails_same x y xs ys e = cc

  not_empty : (x : T) (xs : List T) → [] ≡ x ∷ xs → ⊥
  not_empty x xs e = cc

module _ {A B : Type 0} (f : A → B) (p : B → Bool) where
  -- a filter after a map
  pub filter-mapped : (xs : List A) → filter p (map f xs) ≡ map f (filter (λ x. p (f x)) xs)
  filter-mapped [] = refl
  filter-mapped (x ∷ xs) = elim (p (f x)) as (λ b. cond b (f x ∷ filter p (map f xs)) (filter p (map f xs)) ≡ map f (cond b (x ∷ filter (λ y. p (f y)) xs) (filter (λ y. p (f y)) xs))) [
    | true ↦ ap (λ ys. f x ∷ ys) (filter-mapped xs)
    | false ↦ filter-mapped xs
  ]

-- ---- turns of one seat

module _ {T : Type 0} (seat_of : T → ℕ) where
  -- in order
  abbrev pub by_seat : ℕ → List T → List T
  by_seat seat log = filter (λ t. seat_of t == seat) log

  -- a turn with this seat is the first of the seat's turns
  pub seat_next : (seat : ℕ) (t : T) (log : List T) → seat_of t ≡ seat → by_seat seat (t ∷ log) ≡ t ∷ by_seat seat log
  seat_next seat t log is = ap (λ b. cond b (t ∷ by_seat seat log) (by_seat seat log)) ((Decides-eqb (seat_of t) seat).1 is)

  -- the seat's turns before and after one of them
  pub seat_parts : (log before later : List T) (t : T) → log ≡ before ++ t ∷ later → by_seat (seat_of t) log ≡ by_seat (seat_of t) before ++ t ∷ by_seat (seat_of t) later
  seat_parts log before later t is =
      ap (by_seat (seat_of t)) is ∙ filter-append (λ (u : T). seat_of u == seat_of t) before (t ∷ later) ∙ ap (λ ts. by_seat (seat_of t) before ++ ts) (seat_next (seat_of t) t later refl)

  one_less : (seat : ℕ) (a b : T) (xs ys : List T) → a ≡ b → length (cond (seat_of a == seat) (a ∷ xs) xs) ≡ length (cond (seat_of b == seat) (b ∷ ys) ys) → length xs ≡ length ys
  one_less seat a b xs ys is many =
      elim (seat_of b == seat) as (λ c. length (cond c (b ∷ xs) xs) ≡ length (cond c (b ∷ ys) ys) → length xs ≡ length ys) [
        | true ↦ λ more. omega (arith, more)
        | false ↦ λ as_many. as_many
      ] (subst (λ (c : T). length (cond (seat_of c == seat) (c ∷ xs) xs) ≡ length (cond (seat_of b == seat) (b ∷ ys) ys)) is many)

  -- none of the seat's turns comes before one that begins with its turn
  not_before : (seat : ℕ) (x b : T) (bs : List T) → seat_of x ≡ seat → x ≡ b → 0 ≡ length (by_seat seat (b ∷ bs)) → ⊥
  not_before seat x b bs at is none =
      let many : length (by_seat seat (b ∷ bs)) ≡ suc (length (by_seat seat bs)) = ap length (seat_next seat b bs (ap seat_of (sym is) ∙ at)) in
      omega (arith, none, many)

  -- the place of a seat's turn in a log is determined by how many of its turns come before
  pub same_place : (seat : ℕ) (one other later more : List T) (x y : T) → seat_of x ≡ seat → seat_of y ≡ seat → one ++ x ∷ later ≡ other ++ y ∷ more →
      length (by_seat seat one) ≡ length (by_seat seat other) → one ≡ other
  same_place seat [] [] later more x y at at_other is many = refl
  same_place seat [] (b ∷ other) later more x y at at_other is many = absurd (not_before seat x b other at (heads_same x b later (other ++ y ∷ more) is) many)
  same_place seat (a ∷ one) [] later more x y at at_other is many = absurd (not_before seat y a one at_other (sym (heads_same a y (one ++ x ∷ later) more is)) (sym many))
  same_place seat (a ∷ one) (b ∷ other) later more x y at at_other is many =
      let head : a ≡ b = heads_same a b (one ++ x ∷ later) (other ++ y ∷ more) is in
      let rest : one ≡ other =
      same_place seat one other later more x y at at_other (tails_same a b (one ++ x ∷ later) (other ++ y ∷ more) is) (one_less seat a b (by_seat seat one) (by_seat seat other) head many) in
      λ i. head i ∷ rest i

-- ---- filling in

-- `keep` is what gates keep of a turn. It keeps the seat
module _ {T : Type 0} (seat_of : T → ℕ) (keep : T → T) (same_seat : (t : T) → seat_of (keep t) ≡ seat_of t) where
  pub seat_kept : (seat : ℕ) (log : List T) → by_seat seat_of seat (map keep log) ≡ map keep (by_seat seat_of seat log)
  seat_kept seat [] = refl
  seat_kept seat (t ∷ ts) =
      ap (λ n. cond (n == seat) (keep t ∷ by_seat seat_of seat (map keep ts)) (by_seat seat_of seat (map keep ts))) (same_seat t)
      ∙ elim (seat_of t == seat) as (λ b. cond b (keep t ∷ by_seat seat_of seat (map keep ts)) (by_seat seat_of seat (map keep ts)) ≡ map keep (cond b (t ∷ by_seat seat_of seat ts) (by_seat seat_of seat ts))) [
        | true ↦ ap (λ us. keep t ∷ us) (seat_kept seat ts)
        | false ↦ seat_kept seat ts
      ]

  -- the turn that was kept as the head of this list
  pub record Head (t : T) (ts queue : List T) : Type 0 where
    pub turn : T
    pub rest : List T
    pub queue_is : queue ≡ turn ∷ rest
    pub turn_kept : keep turn ≡ t
    pub rest_kept : map keep rest ≡ ts

  head_of : (t : T) (ts queue : List T) → map keep queue ≡ t ∷ ts → Head t ts queue
  head_of t ts [] e = absurd (not_empty t ts e)
  head_of t ts (u ∷ us) e = record { turn = u; rest = us; queue_is = refl; turn_kept = heads_same (keep u) t (map keep us) ts e; rest_kept = tails_same (keep u) t (map keep us) ts e }

  none_kept : (queue : List T) → map keep queue ≡ [] → queue ≡ []
  none_kept [] e = refl
  none_kept (u ∷ us) e = absurd (not_empty (keep u) (map keep us) (sym e))

  -- the queues after the seat took the head of its own
  abbrev taken : ℕ → List T → (ℕ → List T) → ℕ → List T
  taken seat rest queues other = cond (seat == other) rest (queues other)

  -- a log that gates keep as this one, and that has just these turns of each seat
  pub record Filled (kept : List T) (queues : ℕ → List T) : Type 0 where
    pub log : List T
    pub log_kept : map keep log ≡ kept
    pub of_seats : (seat : ℕ) → by_seat seat_of seat log ≡ queues seat

  module _ (t : T) (ts : List T) (queues : ℕ → List T) (are : (seat : ℕ) → map keep (queues seat) ≡ by_seat seat_of seat (t ∷ ts)) (head : Head t (by_seat seat_of (seat_of t) ts) (queues (seat_of t))) where
    rest_are : (seat : ℕ) → map keep (taken (seat_of t) head.rest queues seat) ≡ by_seat seat_of seat ts
    rest_are seat = elim (seat_of t == seat) as (λ b. (seat_of t == seat) ≡ b → map keep (cond b head.rest (queues seat)) ≡ by_seat seat_of seat ts) [
      | true ↦ λ is. subst (λ n. map keep head.rest ≡ by_seat seat_of n ts) ((Decides-eqb (seat_of t) seat).0 is) head.rest_kept
      | false ↦ λ apart. are seat ∙ ap (λ b. cond b (t ∷ by_seat seat_of seat ts) (by_seat seat_of seat ts)) apart
    ] refl

    with_head : Filled ts (taken (seat_of t) head.rest queues) → Filled (t ∷ ts) queues
    with_head filled = record {
      log = head.turn ∷ filled.log;
      log_kept = λ i. head.turn_kept i ∷ filled.log_kept i;
      of_seats = λ seat.
          let of_seat : seat_of head.turn ≡ seat_of t = sym (same_seat head.turn) ∙ ap seat_of head.turn_kept in
          ap (λ n. cond (n == seat) (head.turn ∷ by_seat seat_of seat filled.log) (by_seat seat_of seat filled.log)) of_seat
          ∙ elim (seat_of t == seat) as (λ b. (seat_of t == seat) ≡ b → by_seat seat_of seat filled.log ≡ cond b head.rest (queues seat) → cond b (head.turn ∷ by_seat seat_of seat filled.log) (by_seat seat_of seat filled.log) ≡ queues seat) [
            | true ↦ λ is own. ap (λ us. head.turn ∷ us) own ∙ sym head.queue_is ∙ ap queues ((Decides-eqb (seat_of t) seat).0 is)
            | false ↦ λ apart others. others
          ] refl (filled.of_seats seat);
    }

  -- each turn is taken from the calls of its seat
  pub filled_in : (kept : List T) (queues : ℕ → List T) → ((seat : ℕ) → map keep (queues seat) ≡ by_seat seat_of seat kept) → Filled kept queues
  filled_in [] queues are = record { log = []; log_kept = refl; of_seats = λ seat. sym (none_kept (queues seat) (are seat)) }
  filled_in (t ∷ ts) queues are =
      let head = head_of t (by_seat seat_of (seat_of t) ts) (queues (seat_of t)) (are (seat_of t) ∙ seat_next seat_of (seat_of t) t ts refl) in
      with_head t ts queues are head (filled_in ts (taken (seat_of t) head.rest queues) (rest_are t ts queues are head))
