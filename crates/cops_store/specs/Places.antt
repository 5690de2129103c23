-- A slot and a key that are only looked up: they are hashed as the copied key, and equal to the same ones.
use Rattle.std.specs.Prelude.{◌≡◌, true, nat_eq}
use Rattle.std.specs.Cmp.{first_so, second_so}
use Rattle.std.specs.Cmp.Lexicographic.{bytes_decides}
use Rattle.std.proofs.lemmas.Bool.Decides.{Decides-eqb}
use Rattle.cops_store.specs.declared.rows.SlotKey.{SlotKey}
use Rattle.cops_types.specs.Key.{key_eq}
use Rattle.cops_store.specs.Lines.{same_place}

-- keys that pass the test are one key of one slot
pub same_place_is : (a b : SlotKey) → same_place a b ≡ true → a ≡ b
same_place_is a b h =
    let slot = (Decides-eqb a.slot b.slot).0 (first_so (nat_eq a.slot b.slot) (key_eq a.key b.key) h) in
    let key = (bytes_decides a.key b.key).0 (second_so (nat_eq a.slot b.slot) (key_eq a.key b.key) h) in
    (λ i. record { slot = slot i; key = key i })
