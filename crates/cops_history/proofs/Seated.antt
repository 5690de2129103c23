-- Seats whose actors come one after another.
use Rattle.std.proofs.Common.{◌≡◌, ℕ, suc, ◌<◌, true, false, List, [], ◌∷◌, ◌++◌, map, refl, sym, ◌∙◌, ap, subst, arith, append-nil}
use Rattle.std.specs.Prelude.{None}
use Rattle.std.specs.List.{AllByRecursion, flat_map}
use Rattle.std.proofs.lemmas.Grind.{flat_map-append}
use Rattle.cops_types.specs.Key.{key_eq}
use Rattle.cops_types.proofs.Elements.{Every-append}
use Rattle.cops_types.proofs.KeyTests.{key_eq-true, key_eq-refl}
use Rattle.cops_types.specs.TenantConfig.{TenantConfig}
use Rattle.cops_history.specs.Commands.{turn_made_by}
use Rattle.cops_history.specs.History.{Logged, Told, Done, Behaves, IsServed, AreActs, all_done, done_by, numbered, seat_in, turns_made}
use Rattle.cops_history.proofs.Acts.{are_acts}

abbrev tagged : List ℕ → List Told → List Done
tagged name did = map (λ t. record { actor = name; told = t }) did

tagged_own : (seat place : ℕ) (did : List Told) → AllByRecursion (λ (d : Done). seat_in d.actor ≡ seat) (tagged (seat ∷ place ∷ []) did)
tagged_own seat place [] = tt
tagged_own seat place (t ∷ did) = (refl, tagged_own seat place did)

pub numbered_own : (seat place : ℕ) (dids : List (List Told)) → AllByRecursion (λ (d : Done). seat_in d.actor ≡ seat) (numbered seat place dids)
numbered_own seat place [] = tt
numbered_own seat place (did ∷ dids) = Every-append (λ (d : Done). seat_in d.actor ≡ seat) (tagged (seat ∷ place ∷ []) did) (numbered seat (suc place) dids) (tagged_own seat place did) (numbered_own seat (suc place) dids)

tagged_made : (name : List ℕ) (did : List Told) → turns_made (tagged name did) ≡ flat_map (λ t. turn_made_by t.command) did
tagged_made name [] = refl
tagged_made name (t ∷ did) = ap (λ ts. turn_made_by t.command ++ ts) (tagged_made name did)

pub numbered_made : (seat place : ℕ) (dids : List (List Told)) → turns_made (numbered seat place dids) ≡ flat_map (flat_map (λ t. turn_made_by t.command)) dids
numbered_made seat place [] = refl
numbered_made seat place (did ∷ dids) =
    flat_map-append (λ (d : Done). turn_made_by d.told.command) (tagged (seat ∷ place ∷ []) did) (numbered seat (suc place) dids) ∙ (λ i. tagged_made (seat ∷ place ∷ []) did i ++ numbered_made seat (suc place) dids i)

-- of this name all is done, and of another nothing
tagged_done : (name : List ℕ) (did : List Told) (more : List Done) → done_by name (tagged name did ++ more) ≡ did ++ done_by name more
tagged_done name [] more = refl
tagged_done name (t ∷ did) more = rw (key_eq-refl name) (ap (λ ts. t ∷ ts) (tagged_done name did more))

tagged_not : (name other : List ℕ) (did : List Told) (more : List Done) → key_eq name other ≡ false → done_by other (tagged name did ++ more) ≡ done_by other more
tagged_not name other [] more apart = refl
tagged_not name other (t ∷ did) more apart = rw apart (tagged_not name other did more apart)

-- an earlier place isn't met again
later_not : (seat place from : ℕ) (dids : List (List Told)) → place < from → done_by (seat ∷ place ∷ []) (numbered seat from dids) ≡ []
later_not seat place from [] below = refl
later_not seat place from (did ∷ dids) below =
    tagged_not (seat ∷ from ∷ []) (seat ∷ place ∷ []) did (numbered seat (suc from) dids) apart ∙ later_not seat place (suc from) dids (omega (arith, below))
  where
    apart : key_eq (seat ∷ from ∷ []) (seat ∷ place ∷ []) ≡ false
    apart = elim (key_eq (seat ∷ from ∷ []) (seat ∷ place ∷ [])) as (λ b. key_eq (seat ∷ from ∷ []) (seat ∷ place ∷ []) ≡ b → b ≡ false) [
      | true ↦ λ is. let names : seat ∷ from ∷ [] ≡ seat ∷ place ∷ [] = key_eq-true (seat ∷ from ∷ []) (seat ∷ place ∷ []) is in
          let same : from ≡ place = cc in absurd (omega (arith, same, below))
      | false ↦ λ is. refl
    ] refl

-- what one name did is what one actor of the seat did, or nothing
pub one_of : (P : List Told → Type 0) (seat place : ℕ) (dids : List (List Told)) (name : List ℕ) → P [] → AllByRecursion P dids → P (done_by name (numbered seat place dids))
one_of P seat place [] name none all = none
one_of P seat place (did ∷ dids) name none all = elim (key_eq (seat ∷ place ∷ []) name) as (λ b. key_eq (seat ∷ place ∷ []) name ≡ b → P (done_by name (numbered seat place (did ∷ dids)))) [
  | true ↦ λ same.
      let at : seat ∷ place ∷ [] ≡ name = key_eq-true (seat ∷ place ∷ []) name same in
      let here : done_by (seat ∷ place ∷ []) (numbered seat place (did ∷ dids)) ≡ did =
      tagged_done (seat ∷ place ∷ []) did (numbered seat (suc place) dids) ∙ ap (λ ts. did ++ ts) (later_not seat place (suc place) dids (omega arith)) ∙ append-nil did in
      subst (λ n. P (done_by n (numbered seat place (did ∷ dids)))) at (subst P (sym here) all.0)
  | false ↦ λ apart. subst P (sym (tagged_not (seat ∷ place ∷ []) name did (numbered seat (suc place) dids) apart)) (one_of P seat (suc place) dids name none all.1)
] refl

pub served : (config : TenantConfig) (log : List Logged) (seats : ℕ) (did : ℕ → List (List Told)) → 0 < config.shards → IsServed config log seats did → AreActs config log seat_in (all_done did)
served config log seats did some is =
    are_acts config log seats seat_in (all_done did) some (record {
      legal = is.legal;
      behave = λ name. one_of (Behaves config None) (seat_in name) 0 (did (seat_in name)) name tt (is.behave (seat_in name));
      own = λ seat. numbered_own seat 0 (did seat);
      make = λ seat. numbered_made seat 0 (did seat) ∙ is.make seat;
      few = λ seat beyond. ap (numbered seat 0) (is.few seat beyond);
    })
