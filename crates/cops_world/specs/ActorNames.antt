-- The slot and the name of an actor: ids that pass the test are one.
use Rattle.std.specs.Prelude.{◌≡◌, true, nat_eq}
use Rattle.std.specs.Cmp.{first_so, second_so}
use Rattle.std.specs.Cmp.Lexicographic.{bytes_decides}
use Rattle.std.proofs.lemmas.Bool.Decides.{Decides-eqb}
use Rattle.cops_types.specs.Key.{key_eq}
use Rattle.cops_world.specs.ActorTables.{same_actor}
use Rattle.cops_world.specs.declared.actors.ActorId.{ActorId}

-- ids that pass the test are one slot and one name
pub same_actor_is : (a b : ActorId) → same_actor a b ≡ true → a ≡ b
same_actor_is a b h =
    let slot = (Decides-eqb a.slot b.slot).0 (first_so (nat_eq a.slot b.slot) (key_eq a.name b.name) h) in
    let name = (bytes_decides a.name b.name).0 (second_so (nat_eq a.slot b.slot) (key_eq a.name b.name) h) in
    (λ i. record { slot = slot i; name = name i })
