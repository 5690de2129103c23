-- Two seats with different numbers that have both made a turn: their replies differ.
use Rattle.std.proofs.Common.{refl, ◌≡◌, ◌≢◌, ℕ, ◌+◌, List, [], ◌∷◌, ◌++◌, length, length-append, ap, sym, ◌∙◌, subst, arith, Some}
use Rattle.cops_gate.specs.declared.history.Entry.{Entry}
use Rattle.cops_gate.specs.Filtered.{GrowsThere}
use Rattle.cops_gate.specs.History.{turn, turns_of, StartsWith, Leads}
use Rattle.counting_gate.specs.declared.counter.Ask.{Ask}
use Rattle.counting_gate.specs.declared.counter.Counter.{Counter}
use Rattle.counting_gate.specs.Counts.{counts}
use Rattle.counting_gate.proofs.Rising.{T, answered, last_reply, one}

abbrev head_or : T → List T → T
head_or other [] = other
head_or other (t ∷ ts) = t

abbrev rest_of : List T → List T
rest_of [] = []
rest_of (t ∷ ts) = ts

-- in one list, a turn is known by how many were answered before it
found_at : (a b : T) (xs ys as' bs : List T) → one a.entry ≡ 1 → one b.entry ≡ 1 → xs ++ a ∷ as' ≡ ys ++ b ∷ bs → answered xs ≡ answered ys → a.seat ≡ b.seat
found_at a b [] [] as' bs told_a told_b is same = ap (λ l. (head_or a l).seat) is
found_at a b [] (y ∷ ys) as' bs told_a told_b is same = let h : one a.entry ≡ one y.entry = ap (λ l. one (head_or a l).entry) is in absurd (omega arith)
found_at a b (x ∷ xs) [] as' bs told_a told_b is same = let h : one x.entry ≡ one b.entry = ap (λ l. one (head_or x l).entry) is in absurd (omega arith)
found_at a b (x ∷ xs) (y ∷ ys) as' bs told_a told_b is same =
    let h : one x.entry ≡ one y.entry = ap (λ l. one (head_or x l).entry) is in
    found_at a b xs ys as' bs told_a told_b (ap rest_of is) (omega arith)

-- a seat that has made a turn has another number than one that has made none
apart : (o : Counter) (n m : ℕ) (before after : List T) (e : Entry Ask ℕ) → GrowsThere counts o n 0 before (Some e) after → turns_of m after ≡ [] → n ≢ m
apart o n m before after e g none = λ same.
    let own = ap length (sym (subst (λ k. turns_of k after ≡ []) (sym same) none) ∙ g.2) in
    let long = length-append (turns_of n before) (turn n 0 (Some e) ∷ []) in
    absurd (omega arith)

replies_at : (o : Counter) (n : ℕ) (before after : List T) (e : Entry Ask ℕ) (g : GrowsThere counts o n 0 before (Some e) after) → e.reply ≡ o.count + answered (before ++ g.1.0) + 1
replies_at o n before after e g = last_reply o g.0.0 (before ++ g.1.0) n e (subst (λ (l : List T). Leads counts o l g.0.0) g.1.1 g.0.1)

append_one : (xs ys : List T) (t : T) → (xs ++ t ∷ []) ++ ys ≡ xs ++ t ∷ ys
append_one [] ys t = refl
append_one (x ∷ xs) ys t = ap (λ l. x ∷ l) (append_one xs ys t)

stands_at : (o : Counter) (n : ℕ) (before after log : List T) (e : Entry Ask ℕ) (g : GrowsThere counts o n 0 before (Some e) after) (s : StartsWith log after)
    → log ≡ (before ++ g.1.0) ++ turn n 0 (Some e) ∷ s.0
stands_at o n before after log e g s = s.1 ∙ (ap (λ l. l ++ s.0) g.1.1 ∙ append_one (before ++ g.1.0) s.0 (turn n 0 (Some e)))

pub differ : (o : Counter) (n m : ℕ) (before start after_n after_m log : List T) (e e_n e_m : Entry Ask ℕ) → GrowsThere counts o n 0 before (Some e) start → turns_of m start ≡ []
    → GrowsThere counts o n 0 start (Some e_n) after_n → GrowsThere counts o m 0 start (Some e_m) after_m → StartsWith log after_n → StartsWith log after_m → e_n.reply ≢ e_m.reply
differ o n m before start after_n after_m log e e_n e_m first none g_n g_m s_n s_m = λ same.
    let r_n = replies_at o n start after_n e_n g_n in
    let r_m = replies_at o m start after_m e_m g_m in
    apart o n m before start e first none
    (found_at (turn n 0 (Some e_n)) (turn m 0 (Some e_m)) (start ++ g_n.1.0) (start ++ g_m.1.0) s_n.0 s_m.0 refl refl
    (sym (stands_at o n start after_n log e_n g_n s_n) ∙ stands_at o m start after_m log e_m g_m s_m) (omega arith))
