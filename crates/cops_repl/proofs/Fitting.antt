-- The calls of a carrier fit the nodes that they go to.
use Rattle.std.proofs.Common.{◌≡◌, ◌≢◌, ℕ, ◌+◌, ◌*◌, ◌<◌, ◌/◌, ◌%◌, Bool, true, false, not, ◌||◌, ◌&&◌, IsTrue, refl, sym, ◌∙◌, ap, arith}
use Rattle.std.specs.Prelude.{nat_lt, ◌==◌}
use Rattle.std.proofs.lemmas.Bool.Decides.{nat_tests}
use Rattle.std.proofs.lemmas.Nat.{div-mul-add, mod-mul-add}
use Rattle.cops_types.specs.declared.records.EntryParts.{EntryParts as Entry}
use Rattle.cops_types.specs.Key.{shard_of}
use Rattle.cops_model.specs.declared.calls.NodeCall.TheVariants.{Commit}
use Rattle.cops_model.specs.Place.{fits, node_number}
use Rattle.cops_node.specs.declared.Shape.{Shape}
use Rattle.cops_node.specs.Shape.{place_in}
use Rattle.cops_model.specs.Carrier.{Stream, is_foreign}
use Rattle.cops_repl.specs.Stands.{RunsIn}

neither : (b c : Bool) → (not b || not c) ≡ false → (b ≡ true) × (c ≡ true)
neither true true e = (refl, refl)
neither true false e = cc
neither false c e = cc

same_number : (a b : ℕ) → (a == b) ≡ true → a ≡ b
same_number a b e = grind (arith, nat_tests)

is_same : (a b : ℕ) → a ≡ b → (a == b) ≡ true
is_same a b e = grind (arith, nat_tests)

differs : (a b : ℕ) → a ≢ b → (a == b) ≡ false
differs a b e = grind (arith, nat_tests)

is_below : (a b : ℕ) → a < b → nat_lt a b ≡ true
is_below a b e = grind (arith, nat_tests)

-- an entry of the stream may be committed at the equivalent node of the destination
pub commit_fits : (shape : Shape) (shards : ℕ) (stream : Stream) (entry : Entry) → RunsIn shape shards stream → is_foreign shards stream entry ≡ false →
    IsTrue (fits (place_in shape (record { dc = stream.to_dc; shard = stream.origin.shard })) (Commit entry))
commit_fits shape shards stream entry runs own =
    let parts = neither (shard_of entry.key shards == stream.origin.shard) (entry.version.node == node_number shards stream.origin) own in
    let node : entry.version.node ≡ stream.origin.dc * shape.shards + stream.origin.shard =
    same_number entry.version.node (node_number shards stream.origin) parts.1 ∙ ap (λ n. stream.origin.dc * n + stream.origin.shard) runs.shards_are in
    let dc : entry.version.node / shape.shards ≡ stream.origin.dc = ap (λ n. n / shape.shards) node ∙ div-mul-add stream.origin.dc shape.shards stream.origin.shard runs.shard_exists in
    let shard : entry.version.node % shape.shards ≡ stream.origin.shard = ap (λ n. n % shape.shards) node ∙ mod-mul-add stream.origin.dc shape.shards stream.origin.shard runs.shard_exists in
    let home : (shard_of entry.key shape.shards == stream.origin.shard) ≡ true = ap (λ n. shard_of entry.key n == stream.origin.shard) (sym runs.shards_are) ∙ parts.0 in
    let there : nat_lt (entry.version.node / shape.shards) shape.data_centres ≡ true = ap (λ n. nat_lt n shape.data_centres) dc ∙ is_below stream.origin.dc shape.data_centres runs.dc_exists in
    let other : (entry.version.node / shape.shards == stream.to_dc) ≡ false = ap (λ n. n == stream.to_dc) dc ∙ differs stream.origin.dc stream.to_dc (λ e. runs.to_another (sym e)) in
    let equivalent : (entry.version.node % shape.shards == stream.origin.shard) ≡ true = is_same (entry.version.node % shape.shards) stream.origin.shard shard in
    λ i. home i && (there i && not (other i) && equivalent i)
