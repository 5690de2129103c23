-- Steps that are taken one after another, and lists of which each is done.
use Rattle.std.proofs.Common.{◌≡◌, ◌∙◌, ℕ, zero, suc, List, [], ◌∷◌, ap, refl, subst, sym}
use Rattle.cops_service.specs.Calling.{DoneForEach}
use Rattle.cops_service.specs.Repeated.{IsRepeated, Repeats}

module _ {N : Type 0} (Step : N → N → Type 0) where
  pub not_yet : (old : N) → IsRepeated Step old old
  not_yet old = (0, refl)

  pub once_more : (old between new : N) → IsRepeated Step old between → Step between new → IsRepeated Step old new
  once_more old between new all one = (suc all.0, (between, all.1, one))

  all_more : (later : ℕ) (old between new : N) → IsRepeated Step old between → Repeats Step later between new → IsRepeated Step old new
  all_more zero old between new all none = (all.0, subst (λ n. Repeats Step all.0 old n) (sym none) all.1)
  all_more (suc later) old between new all more = once_more old more.0 new (all_more later old between more.0 all more.1) more.2

  pub both_repeated : (old between new : N) → IsRepeated Step old between → IsRepeated Step between new → IsRepeated Step old new
  both_repeated old between new before after = all_more after.0 old between new before after.1

-- each of them is some of these steps
pub repeated_for_each : {N X : Type 0} (Step : N → N → Type 0) (Does : X → N → N → Type 0) → ((x : X) (old new : N) → Does x old new → IsRepeated Step old new) → (xs : List X) (old between new : N)
    → IsRepeated Step old between → DoneForEach Does xs between new → IsRepeated Step old new
repeated_for_each Step Does are [] old between new all none = (all.0, subst (λ n. Repeats Step all.0 old n) (sym none) all.1)
repeated_for_each Step Does are (x ∷ xs) old between new all (middle, does, later) = repeated_for_each Step Does are xs old middle new (both_repeated Step old between middle all (are x between middle does)) later

-- steps of another kind
pub repeated_so : {N : Type 0} (Step Other : N → N → Type 0) → ((old new : N) → Step old new → Other old new) → (count : ℕ) (old new : N) → Repeats Step count old new → Repeats Other count old new
repeated_so Step Other so zero old new none = none
repeated_so Step Other so (suc count) old new (between, earlier, last) = (between, repeated_so Step Other so count old between earlier, so between new last)
