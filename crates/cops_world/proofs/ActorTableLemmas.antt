-- The actors of all tenants, by slot and name.
use Rattle.std.proofs.Common.{◌≡◌, ◌≢◌, ℕ, ◌+◌, arith, Bool, true, false, true≢false, cond, ◌&&◌, List, [], ◌∷◌, refl, sym, ap, ◌∙◌, inl, inr}
use Rattle.std.specs.Prelude.{Option, Some, None, Result, Ok, Err, OnErr, OnOk, is_some, nat_eq, count_by}
use Rattle.std.specs.Map.{lookup}
use Rattle.std.proofs.lemmas.Bool.Decides.{Decides-eqb, eqb_tells}
use Rattle.std.proofs.lemmas.List.Sums.{sum_by-cons}
use Rattle.cops_types.proofs.KeyTests.{key_eq-true, key_eq-refl}
use Rattle.cops_types.specs.Key.{key_eq}
use Rattle.cops_world.specs.declared.actors.Actor.{Actor}
use Rattle.cops_world.specs.declared.actors.ActorId.{ActorId}
use Rattle.cops_world.specs.ActorTables.{PutsBack, Table, count_at, same_actor}

and_left : (a b : Bool) → (a && b) ≡ true → a ≡ true
and_left true b h = refl
and_left false b h = absurd (true≢false (sym h))

and_right : (a b : Bool) → (a && b) ≡ true → b ≡ true
and_right true b h = h
and_right false b h = absurd (true≢false (sym h))

both : (a b : Bool) → a ≡ true → b ≡ true → (a && b) ≡ true
both true b h k = k
both false b h k = absurd (true≢false (sym h))

pub same_actor-is : (a b : ActorId) → same_actor a b ≡ true → a ≡ b
same_actor-is a b h =
    let slot = (Decides-eqb a.slot b.slot).0 (and_left _ _ h) in
    let name = key_eq-true a.name b.name (and_right (nat_eq a.slot b.slot) _ h) in
    (λ i. record { slot = slot i; name = name i })

pub same_actor-refl : (a : ActorId) → same_actor a a ≡ true
same_actor-refl a = both _ _ ((Decides-eqb a.slot a.slot).1 refl) (key_eq-refl a.name)

-- another slot, or another name
pub other_slot : (a b : ActorId) → a.slot ≢ b.slot → same_actor a b ≡ false
other_slot a b differ = by (same_actor a b) refl
  where
    by : (t : Bool) → same_actor a b ≡ t → t ≡ false
    by true e = absurd (differ ((Decides-eqb a.slot b.slot).0 (and_left (nat_eq a.slot b.slot) (key_eq a.name b.name) e)))
    by false e = refl

pub other_name : (slot : ℕ) (name other : List ℕ) → key_eq name other ≡ false → same_actor (record { slot = slot; name = name }) (record { slot = slot; name = other }) ≡ false
other_name slot name other apart = by (same_actor (record { slot = slot; name = name }) (record { slot = slot; name = other })) refl
  where
    by : (t : Bool) → same_actor (record { slot = slot; name = name }) (record { slot = slot; name = other }) ≡ t → t ≡ false
    by true e = sym (and_right (nat_eq slot slot) (key_eq name other) e) ∙ apart
    by false e = refl

-- both hold on success
pub on_ok_both : {T E P Q R : Type 0} (r : Result T E) → (P → Q → R) → OnOk r P → OnOk r Q → OnOk r R
on_ok_both (Ok done) both one other = both one other
on_ok_both (Err error) both one other = tt

-- it holds on an error
pub on_err_any : {T E P : Type 0} (r : Result T E) → P → OnErr r P
on_err_any (Ok done) is = tt
on_err_any (Err error) is = is

-- no slot has more actors or fewer where one was put back
pub counts_same : (old : Table) (id : ActorId) (after : Actor) (new : Table) → PutsBack old id after new → (slot : ℕ) → count_at new slot ≡ count_at old slot
counts_same old id after new back slot = elim (eqb_tells id.slot slot) [
  | inl is ↦ ap (count_at new) (sym is.1) ∙ back.1 ∙ ap (count_at old) is.1
  | inr apart ↦ back.0.others slot apart.1
]

-- where nobody of a slot is found it has none
pub nobody : {A : Type 0} (actors : List (ActorId × A)) (slot : ℕ) → ((name : List ℕ) → lookup (same_actor (record { slot = slot; name = name })) actors ≡ None) → count_by (λ (a : ActorId × A). nat_eq a.0.slot slot) actors ≡ 0
nobody {A} [] slot none = refl
nobody {A} (a ∷ actors) slot none = elim (eqb_tells a.0.slot slot) [
  | inl is ↦
      let same : same_actor (record { slot = slot; name = a.0.name }) a.0 ≡ true = both _ _ ((Decides-eqb slot a.0.slot).1 (sym is.1)) (key_eq-refl a.0.name) in
      absurd (true≢false (ap is_some (ap (λ b. cond b (Some a.1) (lookup (same_actor (record { slot = slot; name = a.0.name })) actors)) (sym same) ∙ none a.0.name)))
  | inr apart ↦
      sum_by-cons (λ (b : ActorId × A). cond (nat_eq b.0.slot slot) 1 0) a actors
      ∙ ap (λ t. cond t 1 0 + count_by (λ (b : ActorId × A). nat_eq b.0.slot slot) actors) apart.0
      ∙ omega (
        arith,
        nobody actors slot (λ name.
            let other = other_slot (record { slot = slot; name = name }) a.0 (λ e. apart.1 (sym e)) in
            ap (λ b. cond b (Some a.1) (lookup (same_actor (record { slot = slot; name = name })) actors)) (sym other) ∙ none name),
      )
]
