-- One call at a node of the cluster: that node changes by it, and no other.
use Rattle.std.proofs.Common.{◌≡◌, ℕ, ◌*◌, ◌<◌, ◌≢◌, true, List, [], ◌∷◌, ◌++◌, length, ◌⊎◌, inl, inr, refl, sym, ◌∙◌, ap, subst, arith, append-nil, get_or-set_same, get_or-set_other, length-set}
use Rattle.std.specs.Prelude.{slice_index_or, nat_lt}
use Rattle.std.specs.List.{AllByRecursion}
use Rattle.std.proofs.lemmas.Bool.Decides.{nat_tests, eqb_tells}
use Rattle.std.proofs.Math.Nat.{mul_comm}
use Rattle.std.proofs.lemmas.Nat.{mul-add-lt}
use Rattle.cops_types.specs.declared.records.EntryParts.{EntryParts as Entry}
use Rattle.cops_types.specs.TenantConfig.{TenantConfig}
use Rattle.cops_model.specs.declared.calls.NodeCall.{NodeCall}
use Rattle.cops_model.specs.declared.calls.NodeId.{NodeId}
use Rattle.cops_model.specs.declared.calls.NodeReply.{NodeReply}
use Rattle.cops_model.specs.Place.{node_number, place_of}
use Rattle.cops_model.specs.SoloNode.{SoloNode, new_node}
use Rattle.cops_model.specs.Step.{node_step}
use Rattle.cops_model.specs.Cluster.{SoloCluster, call_node, has_node}
use Rattle.cops_types.proofs.Elements.{Among, Among-left, Every-append, and_left, and_right}
use Rattle.cops_node.proofs.NodeTurns.{entries, Change, IsRefused, Answers, Joined, Taken, Stores, turn_changes}

abbrev pub node_of : TenantConfig → SoloCluster → ℕ → SoloNode
node_of config c n = slice_index_or c.nodes n (new_node config.data_centres)

-- there is a node for each data centre and shard
abbrev pub IsSized : TenantConfig → SoloCluster → Type 0
IsSized config c = length c.nodes ≡ config.data_centres * config.shards

pub number_within : (config : TenantConfig) (id : NodeId) → has_node config id.dc id.shard ≡ true → node_number config.shards id < config.data_centres * config.shards
number_within config id there =
    let dc : id.dc < config.data_centres = let e = and_left (nat_lt id.dc config.data_centres) (nat_lt id.shard config.shards) there in grind (arith, nat_tests) in
    let shard : id.shard < config.shards = let e = and_right (nat_lt id.dc config.data_centres) (nat_lt id.shard config.shards) there in grind (arith, nat_tests) in
    let placed = mul-add-lt id.dc config.shards id.shard config.data_centres dc shard in
    omega (arith, mul_comm config.data_centres config.shards)

-- what a call at a node leaves
pub record Called (config : TenantConfig) (c : SoloCluster) (id : NodeId) (call : NodeCall) (reply : NodeReply) (after : SoloCluster) : Type 0 where
  pub change : Change (place_of config id) call (node_of config c (node_number config.shards id)) reply (node_of config after (node_number config.shards id))
  pub others : (n : ℕ) → n ≢ node_number config.shards id → node_of config after n ≡ node_of config c n
  pub actors_same : after.actors ≡ c.actors
  pub sized : IsSized config after

pub call_changes : (config : TenantConfig) (c : SoloCluster) (id : NodeId) (moment : ℕ) (call : NodeCall) → has_node config id.dc id.shard ≡ true → IsSized config c →
    Called config c id call (call_node config id moment call c).reply (call_node config id moment call c).after
call_changes config c id moment call there sized =
    let number = node_number config.shards id in
    let turn = node_step (place_of config id) moment call (node_of config c number) in
    let within : number < length c.nodes = let w = number_within config id there in omega (arith, sized) in
    record {
      change = subst (Change (place_of config id) call (node_of config c number) turn.reply) (sym (get_or-set_same c.nodes number turn.after (new_node config.data_centres) within)) (turn_changes (place_of config id) moment call (node_of config c number));
      others = λ n other. get_or-set_other c.nodes number n turn.after (new_node config.data_centres) other;
      actors_same = refl;
      sized = length-set c.nodes number turn.after ∙ sized;
    }

module _ {config : TenantConfig} {c after : SoloCluster} {id : NodeId} {call : NodeCall} {reply : NodeReply} (called : Called config c id call reply after) where
  -- the entries that a node has more than before
  abbrev GrownBy : SoloNode → SoloNode → List Entry → Type 0
  GrownBy solo next more = entries next ≡ entries solo ++ more

  changed : (solo next : SoloNode) → Change (place_of config id) call solo reply next → (more : List Entry) × GrownBy solo next more × ((more ≡ []) ⊎ ((e : Entry) × (more ≡ e ∷ []) × Stores (place_of config id) call solo reply e))
  changed solo next (IsRefused same acked is) = ([], same ∙ sym (append-nil (entries solo)), inl refl)
  changed solo next (Answers same acked is) = ([], same ∙ sym (append-nil (entries solo)), inl refl)
  changed solo next (Joined e more acked is) = (e ∷ [], more, inr (e, refl, is))
  changed solo next (Taken same is) = ([], same ∙ sym (append-nil (entries solo)), inl refl)

  pub entries_grow : (n : ℕ) → (more : List Entry) × GrownBy (node_of config c n) (node_of config after n) more
  entries_grow n =
      elim (eqb_tells n (node_number config.shards id)) [
        | inl here ↦
            let there = changed (node_of config c (node_number config.shards id)) (node_of config after (node_number config.shards id)) called.change in
            subst (λ m. (more : List Entry) × GrownBy (node_of config c m) (node_of config after m) more) (sym here.1) (there.0, there.1)
        | inr other ↦ ([], ap entries (called.others n other.1) ∙ sym (append-nil (entries (node_of config c n))))
      ]

  pub entry_stays : (n : ℕ) (e : Entry) → Among e (entries (node_of config c n)) → Among e (entries (node_of config after n))
  entry_stays n e at = let grown = entries_grow n in subst (Among e) (sym grown.1) (Among-left e (entries (node_of config c n)) grown.0 at)

  -- what holds of all entries and of the one that is stored holds of all then
  pub entries_keep : (P : Entry → Type 0) → ((e : Entry) → Stores (place_of config id) call (node_of config c (node_number config.shards id)) reply e → P e) →
      ((n : ℕ) → AllByRecursion P (entries (node_of config c n))) → (n : ℕ) → AllByRecursion P (entries (node_of config after n))
  entries_keep P new old n =
      elim (eqb_tells n (node_number config.shards id)) [
        | inl here ↦ subst (λ m. AllByRecursion P (entries (node_of config after m))) (sym here.1) at_node
        | inr other ↦ subst (λ solo. AllByRecursion P (entries solo)) (sym (called.others n other.1)) (old n)
      ]
    where
      by_more : (solo next : SoloNode) (more : List Entry) → GrownBy solo next more → AllByRecursion P (entries solo) → AllByRecursion P more → AllByRecursion P (entries next)
      by_more solo next more grown first second = subst (AllByRecursion P) (sym grown) (Every-append P (entries solo) more first second)

      at_node : AllByRecursion P (entries (node_of config after (node_number config.shards id)))
      at_node =
          let number = node_number config.shards id in
          let there = changed (node_of config c number) (node_of config after number) called.change in
          by_more (node_of config c number) (node_of config after number) there.0 there.1 (old number)
          (elim there.2 [ inl none ↦ subst (AllByRecursion P) (sym none) tt | inr one ↦ subst (AllByRecursion P) (sym one.1) (new one.0 one.2, tt) ])
