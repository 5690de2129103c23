-- In a legal history each reply is one more than the number of turns before it that were answered.
use Rattle.std.proofs.Common.{◌≡◌, ℕ, ◌+◌, ◌<◌, ◌≤◌, List, [], ◌∷◌, ◌++◌, refl, ap, ◌∙◌, subst, arith, Option, Some, None}
use Rattle.cops_gate.specs.declared.history.Entry.{Entry}
use Rattle.cops_gate.specs.declared.history.Turn.{Turn}
use Rattle.cops_gate.specs.Filtered.{GrowsThere}
use Rattle.cops_gate.specs.History.{turn, StartsWith, Makes, Leads}
use Rattle.counting_gate.specs.declared.counter.Ask.{Ask}
use Rattle.counting_gate.specs.declared.counter.Counter.{Counter}
use Rattle.counting_gate.specs.Counts.{counts}

abbrev pub T : Type 0
T = Turn Ask ℕ

abbrev pub one : Option (Entry Ask ℕ) → ℕ
one None = 0
one (Some e) = 1

abbrev pub answered : List T → ℕ
answered [] = 0
answered (t ∷ ts) = one t.entry + answered ts

pub answered-append : (xs ys : List T) → answered (xs ++ ys) ≡ answered xs + answered ys
answered-append [] ys = omega arith
answered-append (t ∷ ts) ys = let h = answered-append ts ys in omega arith

-- the count after one turn
counted : (a b : Counter) (e : Option (Entry Ask ℕ)) → Makes counts a e b → b.count ≡ a.count + one e
counted a b None m = let same : a.count ≡ b.count = ap (λ (x : Counter). x.count) m in omega arith
counted a b (Some e) m = let up = m.0 in omega arith

sums_to : (a b : Counter) (xs : List T) → Leads counts a xs b → b.count ≡ a.count + answered xs
sums_to a b [] l = let same : a.count ≡ b.count = ap (λ (x : Counter). x.count) l in omega arith
sums_to a b (t ∷ xs) l = let up = counted a l.0 t.entry l.1 in let later = sums_to l.0 b xs l.2 in omega arith

pub last_reply : (a b : Counter) (xs : List T) (n : ℕ) (e : Entry Ask ℕ) → Leads counts a (xs ++ turn n 0 (Some e) ∷ []) b → e.reply ≡ a.count + answered xs + 1
last_reply a b [] n e l = let up = l.1.0 in let says = l.1.1 in omega arith
last_reply a b (t ∷ xs) n e l = let later = last_reply l.0 b xs n e l.2 in let up = counted a l.0 t.entry l.1 in omega arith

pub rises : (a : Counter) (n m : ℕ) (h0 h1 h2 : List T) (e1 e2 : Entry Ask ℕ) → GrowsThere counts a n 0 h0 (Some e1) h1 → GrowsThere counts a m 0 h1 (Some e2) h2 → e1.reply < e2.reply
rises a n m h0 h1 h2 e1 e2 g1 g2 =
    let xs : List T = h0 ++ g1.1.0 in
    let ys : List T = h1 ++ g2.1.0 in
    let r1 = last_reply a g1.0.0 xs n e1 (subst (λ (l : List T). Leads counts a l g1.0.0) g1.1.1 g1.0.1) in
    let r2 = last_reply a g2.0.0 ys m e2 (subst (λ (l : List T). Leads counts a l g2.0.0) g2.1.1 g2.0.1) in
    let before : answered h1 ≡ answered xs + 1 = ap answered g1.1.1 ∙ answered-append xs (turn n 0 (Some e1) ∷ []) in
    let after = answered-append h1 g2.1.0 in
    omega arith

-- the count never falls
grows_on : (a b : Counter) (xs : List T) → Leads counts a xs b → a.count ≤ b.count
grows_on a b [] l = let same : a.count ≡ b.count = ap (λ (x : Counter). x.count) l in omega arith
grows_on a b (t ∷ xs) l = let up = counted a l.0 t.entry l.1 in let later = grows_on l.0 b xs l.2 in omega arith

-- if a history begins with another, it goes on from what that one leaves
goes_on : (a c : Counter) (xs ys : List T) → Leads counts a (xs ++ ys) c → (b : Counter) × Leads counts a xs b × Leads counts b ys c
goes_on a c [] ys l = (a, refl, l)
goes_on a c (t ∷ xs) ys l = let p = goes_on l.0 c xs ys l.2 in (p.0, (l.0, l.1, p.1), p.2)

-- a reply that a seat has seen last is at most the count that is left
pub keeps_last : (a c : Counter) (n : ℕ) (h0 h1 log : List T) (e : Entry Ask ℕ) → GrowsThere counts a n 0 h0 (Some e) h1 → StartsWith log h1 → Leads counts a log c → e.reply ≤ c.count
keeps_last a c n h0 h1 log e g starts l =
    let xs : List T = h0 ++ g.1.0 in
    let p = goes_on a c h1 starts.0 (subst (λ (x : List T). Leads counts a x c) starts.1 l) in
    let first : Leads counts a (xs ++ turn n 0 (Some e) ∷ []) p.0 = subst (λ (x : List T). Leads counts a x p.0) g.1.1 p.1 in
    let r = last_reply a p.0 xs n e first in
    let whole = sums_to a p.0 (xs ++ turn n 0 (Some e) ∷ []) first in
    let split = answered-append xs (turn n 0 (Some e) ∷ []) in
    let later = grows_on p.0 c starts.0 p.2 in
    omega arith
