-- Turns that are legal at each node are a run of all nodes.
use Rattle.std.proofs.Common.{◌≡◌, ◌≢◌, ℕ, ◌*◌, ◌<◌, true, false, ◌==◌, List, [], ◌∷◌, length, nat_lt, refl, sym, ◌∙◌, ap, subst, arith}
use Rattle.std.proofs.lemmas.Bool.Decides.{Decides-eqb}
use Rattle.std.proofs.lemmas.Bool.{ltb-true}
use Rattle.std.proofs.lemmas.List.{get_or-set_same, get_or-set_other}
use Rattle.std.proofs.lemmas.Nat.{mul-add-lt}
use Rattle.std.proofs.Math.ListN.{length-set}
use Rattle.cops_types.specs.TenantConfig.{TenantConfig}
use Rattle.cops_types.proofs.Elements.{and_left, and_right}
use Rattle.cops_model.specs.Place.{node_number}
use Rattle.cops_model.specs.SoloNode.{SoloNode, new_node}
use Rattle.cops_history.specs.Turns.{Turn, IsLegal, IsLegalAtEach, IsRun, left_by_turn, left_of, node_numbered, nodes_after_turn, nodes_left, turns_at}

below : (a b : ℕ) → nat_lt a b ≡ true → a < b
below a b e = ltb-true a b e

pub run_of_legal : (config : TenantConfig) (turns : List Turn) (nodes : List SoloNode) → length nodes ≡ config.data_centres * config.shards → IsLegalAtEach config nodes turns → IsRun config turns nodes
run_of_legal config [] nodes long legal = tt
run_of_legal config (t ∷ turns) nodes long legal = (here.0, here.1, run_of_legal config turns (nodes_after_turn config t nodes) (length-set nodes number _ ∙ long) legal_after)
  where
    number : ℕ
    number = node_number config.shards t.node

    here : IsLegal config (node_numbered config (node_number config.shards t.node) nodes) (t ∷ turns_at config (node_number config.shards t.node) turns)
    here =
        let same : (node_number config.shards t.node == node_number config.shards t.node) ≡ true = (Decides-eqb _ _).1 refl in
        let at : turns_at config (node_number config.shards t.node) (t ∷ turns) ≡ t ∷ turns_at config (node_number config.shards t.node) turns = rw same refl in
        subst (IsLegal config (node_numbered config (node_number config.shards t.node) nodes)) at (legal (node_number config.shards t.node))

    within : node_number config.shards t.node < length nodes
    within =
        let dc : t.node.dc < config.data_centres = below _ _ (and_left _ _ here.0) in
        let shard : t.node.shard < config.shards = below _ _ (and_right (nat_lt t.node.dc config.data_centres) _ here.0) in
        let e : node_number config.shards t.node < config.shards * config.data_centres = mul-add-lt t.node.dc config.shards t.node.shard config.data_centres dc shard in
        omega (arith, e, long)

    legal_after : IsLegalAtEach config (nodes_after_turn config t nodes) turns
    legal_after m = elim (node_number config.shards t.node == m) as (λ b. (node_number config.shards t.node == m) ≡ b → IsLegal config (node_numbered config m (nodes_after_turn config t nodes)) (turns_at config m turns)) [
      | true ↦ λ same.
          let at : node_number config.shards t.node ≡ m = (Decides-eqb (node_number config.shards t.node) m).0 same in
          let read : node_numbered config (node_number config.shards t.node) (nodes_after_turn config t nodes) ≡ left_by_turn config t (node_numbered config (node_number config.shards t.node) nodes) =
          get_or-set_same nodes (node_number config.shards t.node) _ (new_node config.data_centres) within in
          subst (λ n. IsLegal config (node_numbered config n (nodes_after_turn config t nodes)) (turns_at config n turns)) at
          (subst (λ solo. IsLegal config solo (turns_at config (node_number config.shards t.node) turns)) (sym read) here.2)
      | false ↦ λ apart.
          let differ : m ≢ node_number config.shards t.node = (λ e. let same : (node_number config.shards t.node == m) ≡ true = (Decides-eqb (node_number config.shards t.node) m).1 (sym e) in cc) in
          let read : node_numbered config m (nodes_after_turn config t nodes) ≡ node_numbered config m nodes = get_or-set_other nodes (node_number config.shards t.node) m _ (new_node config.data_centres) differ in
          let at : turns_at config m (t ∷ turns) ≡ turns_at config m turns = rw apart refl in
          subst (λ solo. IsLegal config solo (turns_at config m turns)) (sym read) (subst (IsLegal config (node_numbered config m nodes)) at (legal m))
    ] refl

-- a turn changes its own node
node_after_turn : (config : TenantConfig) (t : Turn) (turns : List Turn) (nodes : List SoloNode) (m : ℕ) → node_number config.shards t.node < length nodes →
    left_of config (node_numbered config m (nodes_after_turn config t nodes)) (turns_at config m turns) ≡ left_of config (node_numbered config m nodes) (turns_at config m (t ∷ turns))
node_after_turn config t turns nodes m within = elim (node_number config.shards t.node == m) as (λ b. (node_number config.shards t.node == m) ≡ b →
    left_of config (node_numbered config m (nodes_after_turn config t nodes)) (turns_at config m turns) ≡ left_of config (node_numbered config m nodes) (turns_at config m (t ∷ turns))) [
      | true ↦ λ same.
          let at : node_number config.shards t.node ≡ m = (Decides-eqb (node_number config.shards t.node) m).0 same in
          let read : node_numbered config (node_number config.shards t.node) (nodes_after_turn config t nodes) ≡ left_by_turn config t (node_numbered config (node_number config.shards t.node) nodes) =
          get_or-set_same nodes (node_number config.shards t.node) _ (new_node config.data_centres) within in
          let here : node_numbered config m (nodes_after_turn config t nodes) ≡ left_by_turn config t (node_numbered config m nodes) =
          subst (λ n. node_numbered config n (nodes_after_turn config t nodes) ≡ left_by_turn config t (node_numbered config n nodes)) at read in
          let whole : left_of config (node_numbered config m (nodes_after_turn config t nodes)) (turns_at config m turns) ≡ left_of config (left_by_turn config t (node_numbered config m nodes)) (turns_at config m turns) =
          ap (λ solo. left_of config solo (turns_at config m turns)) here in
          rw same whole
      | false ↦ λ apart.
          let differ : m ≢ node_number config.shards t.node = (λ e. let same : (node_number config.shards t.node == m) ≡ true = (Decides-eqb (node_number config.shards t.node) m).1 (sym e) in cc) in
          let read : node_numbered config m (nodes_after_turn config t nodes) ≡ node_numbered config m nodes = get_or-set_other nodes (node_number config.shards t.node) m _ (new_node config.data_centres) differ in
          let whole : left_of config (node_numbered config m (nodes_after_turn config t nodes)) (turns_at config m turns) ≡ left_of config (node_numbered config m nodes) (turns_at config m turns) =
          ap (λ solo. left_of config solo (turns_at config m turns)) read in
          rw apart whole
    ] refl

-- what a run leaves at each node is what the turns there leave
pub left_at_each : (config : TenantConfig) (turns : List Turn) (nodes : List SoloNode) (m : ℕ) → length nodes ≡ config.data_centres * config.shards → IsRun config turns nodes →
    node_numbered config m (nodes_left config turns nodes) ≡ left_of config (node_numbered config m nodes) (turns_at config m turns)
left_at_each config [] nodes m long run = refl
left_at_each config (t ∷ turns) nodes m long run =
    let dc : t.node.dc < config.data_centres = below _ _ (and_left _ _ run.0) in
    let shard : t.node.shard < config.shards = below _ _ (and_right (nat_lt t.node.dc config.data_centres) _ run.0) in
    let e : node_number config.shards t.node < config.shards * config.data_centres = mul-add-lt t.node.dc config.shards t.node.shard config.data_centres dc shard in
    let within : node_number config.shards t.node < length nodes = omega (arith, e, long) in
    left_at_each config turns (nodes_after_turn config t nodes) m (length-set nodes (node_number config.shards t.node) _ ∙ long) run.2 ∙ node_after_turn config t turns nodes m within
