-- Parts of frames that are put at a place.
use Rattle.std.proofs.Common.{◌≡◌, ℕ, ◌+◌, ◌<◌, ◌≤◌, List, [], ◌∷◌, ◌++◌, length, get_or, take, sym, ap, ◌∙◌, arith, length-take-le}
use Rattle.std.specs.List.{flat_map}
use Rattle.std.proofs.lemmas.List.{flat_map_more, take-append-le, take-take, take_more}

-- what is put behind a place leaves what stands before it
pub front_kept : (at middle behind : ℕ) (b0 b1 more : List ℕ) → at ≤ middle → middle ≤ behind → middle ≤ length b0 → take behind b1 ≡ take middle b0 ++ more → take at b1 ≡ take at b0
front_kept at middle behind b0 b1 more low high room e =
    let size : length (take middle b0) ≡ middle = length-take-le middle b0 room in
    sym (take-take at behind b1 (omega arith))
    ∙ ap (take at) e
    ∙ take-append-le at (take middle b0) more (omega arith)
    ∙ take-take at middle b0 low

-- one more of a list's items stands behind those before it
pub one_more_placed : {A : Type 0} (spell : A → List ℕ) (items : List A) (count : ℕ) (item : A) (base t1 t2 : List ℕ) → count < length items → item ≡ get_or items count item
    → t1 ≡ base ++ flat_map spell (take count items) → t2 ≡ t1 ++ spell item → t2 ≡ base ++ flat_map spell (take (count + 1) items)
one_more_placed spell items count item base t1 t2 within is e1 e2 =
    let last : take (count + 1) items ≡ take count items ++ (item ∷ []) = take_more items count item within ∙ ap (λ i. take count items ++ (i ∷ [])) (sym is) in
    e2 ∙ ap (λ l. l ++ spell item) e1 ∙ flat_map_more spell base (take count items) item ∙ ap (λ l. base ++ flat_map spell l) (sym last)
