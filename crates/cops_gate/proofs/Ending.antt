-- Seats that end: what the last one knows of the turns of each.
use Rattle.std.proofs.Common.{◌≡◌, inl, inr, ℕ, zero, suc, ◌<◌, ◌≤◌, ◌+◌, eqb, List, [], ◌∷◌, ◌++◌, length, length-append, sym, refl, ap, ◌∙◌, subst, append_assoc, append-nil, arith, get_or, set, take}
use Rattle.std.specs.List.{AllByRecursion}
use Rattle.std.proofs.lemmas.List.Elements.{filter-append}
use Rattle.cops_gate.specs.declared.history.Turn.{Turn}
use Rattle.cops_gate.specs.History.{turns_of, StartsWith}
use Rattle.cops_gate.specs.Rule.{Met}

module _ {A : Type 0} where
  -- a list that begins with one that begins with it
  short : (xs rest more : List A) → xs ≡ (xs ++ rest) ++ more → rest ≡ []
  short xs [] more e = refl
  short xs (r ∷ rest) more e = let l = ap length e in let a = length-append (xs ++ r ∷ rest) more in let b = length-append xs (r ∷ rest) in absurd (omega arith)

module _ {C R : Type 0} where
  of_parts : (n : ℕ) (xs ys : List (Turn C R)) → turns_of n (xs ++ ys) ≡ turns_of n xs ++ turns_of n ys
  of_parts n xs ys = filter-append (λ t. eqb t.seat n) xs ys

  pub starts_again : (a b c : List (Turn C R)) → StartsWith a b → StartsWith b c → StartsWith a c
  starts_again a b c p q = (q.0 ++ p.0, p.1 ∙ ap (λ l. l ++ p.0) q.1 ∙ append_assoc c q.0 p.0)

  -- A seat that saw a history, and made no turn by that, has its own turns in there; and the history has those that it had seen
  pub own_turns : (n : ℕ) (log seen heard : List (Turn C R)) → StartsWith log seen → StartsWith heard log → turns_of n heard ≡ turns_of n seen → turns_of n log ≡ turns_of n seen
  own_turns n log seen heard has sees same =
      let in_log : turns_of n log ≡ turns_of n seen ++ turns_of n has.0 = ap (turns_of n) has.1 ∙ of_parts n seen has.0 in
      let in_heard : turns_of n heard ≡ turns_of n log ++ turns_of n sees.0 = ap (turns_of n) sees.1 ∙ of_parts n log sees.0 in
      let none : turns_of n has.0 ≡ [] = short (turns_of n seen) (turns_of n has.0) (turns_of n sees.0) (sym same ∙ in_heard ∙ ap (λ l. l ++ turns_of n sees.0) in_log) in
      in_log ∙ ap (λ l. turns_of n seen ++ l) none ∙ append-nil (turns_of n seen)

  -- A seat that ends knows its own turns in what the last seat has seen, and those of the seats that ended into it
  pub all_known : (log seen heard : List (Turn C R)) (number : ℕ) (joined : List ℕ) → StartsWith log seen → StartsWith heard log → turns_of number heard ≡ turns_of number seen
      → ((j : ℕ) → Met j joined → turns_of j heard ≡ turns_of j seen) → (j : ℕ) → Met j (number ∷ joined) → turns_of j log ≡ turns_of j heard
  all_known log seen heard number joined has sees own earlier j (inl this) = ap (λ n. turns_of n log) this ∙ (own_turns number log seen heard has sees own ∙ (sym own ∙ ap (λ n. turns_of n heard) (sym this)))
  all_known log seen heard number joined has sees own earlier j (inr met) = own_turns j log seen heard has sees (earlier j met) ∙ sym (earlier j met)

module _ {A : Type 0} (P : A → Type 0) where
  pub all_split : (xs ys : List A) → AllByRecursion P (xs ++ ys) → AllByRecursion P xs × AllByRecursion P ys
  all_split [] ys all = (tt, all)
  all_split (x ∷ xs) ys all = let r = all_split xs ys all.1 in ((all.0, r.0), r.1)

  pub all_joined : (xs ys : List A) → AllByRecursion P xs → AllByRecursion P ys → AllByRecursion P (xs ++ ys)
  all_joined [] ys all more = more
  all_joined (x ∷ xs) ys all more = (all.0, all_joined xs ys all.1 more)

  -- the elements before a place, and the one there
  pub all_at : (xs : List A) (n : ℕ) (x : A) → n < length xs → x ≡ get_or xs n x → AllByRecursion P xs → P x
  all_at [] n x lt is all = absurd (omega arith)
  all_at (y ∷ xs) zero x lt is all = subst P (sym is) all.0
  all_at (y ∷ xs) (suc n) x lt is all = all_at xs n x (omega (arith, lt)) is all.1

  one_more_taken : (xs : List A) (n : ℕ) (x : A) → n < length xs → x ≡ get_or xs n x → P x → AllByRecursion P (take n xs) → AllByRecursion P (take (suc n) xs)
  one_more_taken [] n x lt is here all = absurd (omega arith)
  one_more_taken (y ∷ xs) zero x lt is here all = (subst P is here, tt)
  one_more_taken (y ∷ xs) (suc n) x lt is here all = (all.0, one_more_taken xs n x (omega (arith, lt)) is here all.1)

  pub all_taken : (xs : List A) (n : ℕ) (x : A) → n < length xs → x ≡ get_or xs n x → P x → AllByRecursion P (take n xs) → AllByRecursion P (take (n + 1) xs)
  all_taken xs n x lt is here all =
      let next : suc n ≡ n + 1 = omega arith in
      subst (λ m. AllByRecursion P (take m xs)) next (one_more_taken xs n x lt is here all)

  pub all_of : (xs : List A) (n : ℕ) → length xs ≤ n → AllByRecursion P (take n xs) → AllByRecursion P xs
  all_of [] n lt all = tt
  all_of (y ∷ xs) zero lt all = absurd (omega arith)
  all_of (y ∷ xs) (suc n) lt all = (all.0, all_of xs n (omega (arith, lt)) all.1)

  pub set_same : (xs : List A) (n : ℕ) (x : A) → x ≡ get_or xs n x → set xs n x ≡ xs
  set_same [] n x is = refl
  set_same (y ∷ xs) zero x is = ap (λ z. z ∷ xs) is
  set_same (y ∷ xs) (suc n) x is = ap (λ l. y ∷ l) (set_same xs n x is)

module _ {A : Type 0} (P Q : A → Type 0) where
  pub all_weaker : (xs : List A) → ((x : A) → P x → Q x) → AllByRecursion P xs → AllByRecursion Q xs
  all_weaker [] weaker all = tt
  all_weaker (x ∷ xs) weaker all = (weaker x all.0, all_weaker xs weaker all.1)
