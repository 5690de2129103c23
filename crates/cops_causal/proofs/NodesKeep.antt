-- What a turn keeps of any node holds of each node after every list of acts.
use Rattle.std.proofs.Common.{ℕ, ◌*◌, List, [], length, set, inl, inr, refl, sym, ◌∙◌, subst, arith, get_or-set_same, get_or-set_other, length-set}
use Rattle.std.proofs.lemmas.Bool.Decides.{eqb_tells, leb_tells}
use Rattle.std.proofs.lemmas.List.{get_or_past}
use Rattle.cops_types.specs.Records.{KeepsGreatest}
use Rattle.cops_types.specs.TenantConfig.{TenantConfig}
use Rattle.cops_model.specs.declared.calls.NodeCall.{NodeCall}
use Rattle.cops_model.specs.declared.calls.NodeCall.TheVariants.{Collect}
use Rattle.cops_model.specs.declared.calls.NodeId.{NodeId}
use Rattle.cops_model.specs.Place.{Place, node_number, place_of}
use Rattle.cops_model.specs.SoloNode.{SoloNode, new_node}
use Rattle.cops_model.specs.Step.{node_step}
use Rattle.cops_node.proofs.Greatest.{KeepsGreatest-push, KeepsGreatest-collected}
use Rattle.cops_node.proofs.Turns.{after_turn}
use Rattle.cops_model.specs.Causal.{Traced}
use Rattle.cops_model.specs.Cluster.{SoloCluster, new_cluster, call_node}
use Rattle.cops_causal.proofs.Moves.{IsKept}
use Rattle.cops_causal.proofs.NodeEffects.{node_of}
use Rattle.cops_causal.proofs.Past.{new_nodes}
use Rattle.cops_causal.proofs.ActorMoves.{nodes_lead}
use Rattle.cops_causal.proofs.ActorsKeep.{bare}

module _ (config : TenantConfig) (P : SoloNode → Type 0) (keeps : (place : Place) (moment : ℕ) (call : NodeCall) (solo : SoloNode) → P solo → P (node_step place moment call solo).after) where
  abbrev pub EachNode : SoloCluster → List Traced → Type 0
  EachNode c ts = (n : ℕ) → P (node_of config c n)

  called_keeps : (c : SoloCluster) (ts : List Traced) (id : NodeId) (moment : ℕ) (call : NodeCall) → EachNode c ts → EachNode (call_node config id moment call c).after ts
  called_keeps c ts id moment call each n =
      let number = node_number config.shards id in
      let next = (node_step (place_of config id) moment call (node_of config c number)).after in
      let default = new_node config.data_centres in
      elim (eqb_tells n number) [
        | inr other ↦ subst P (sym (get_or-set_other c.nodes number n next default other.1)) (each n)
        | inl here ↦ subst (λ m. P (node_of config (call_node config id moment call c).after m)) (sym here.1)
            (elim (leb_tells (length c.nodes) number) [
              | inr within ↦ subst P (sym (get_or-set_same c.nodes number next default within.1)) (keeps (place_of config id) moment call (node_of config c number) (each number))
              | inl past ↦
                  let after_past = get_or_past (set c.nodes number next) number default (let counted = length-set c.nodes number next in omega (arith, past.1)) in
                  subst P (get_or_past c.nodes number default past.1 ∙ sym after_past) (each number)
            ])
      ]

  pub each_kept : IsKept config EachNode
  each_kept = nodes_lead config (λ nodes. EachNode (bare nodes) []) EachNode (λ c ts each. each) (λ c ts each. record {
    by_session = λ name s found running moment directed runs e. called_keeps c ts directed.node moment directed.call each;
    by_carrier = λ name k found moment directed e. called_keeps c ts directed.node moment directed.call each;
    collected = λ id moment there. called_keeps c ts id moment Collect each;
  })

  pub each_at_first : P (new_node config.data_centres) → EachNode (new_cluster config) []
  each_at_first first n = subst P (sym (new_nodes (config.data_centres * config.shards) n (new_node config.data_centres))) first

-- at each node the greatest version of each key is kept
abbrev pub AllKeepGreatest : TenantConfig → SoloCluster → List Traced → Type 0
AllKeepGreatest config c ts = (n : ℕ) → KeepsGreatest (node_of config c n).recs

turn_keeps : (place : Place) (moment : ℕ) (call : NodeCall) (solo : SoloNode) → KeepsGreatest solo.recs → KeepsGreatest (node_step place moment call solo).after.recs
turn_keeps place moment call solo kept = after_turn (record { push = KeepsGreatest-push; collect = KeepsGreatest-collected }) place moment call solo kept

pub greatest_stays : (config : TenantConfig) → IsKept config (AllKeepGreatest config)
greatest_stays config = each_kept config (λ solo. KeepsGreatest solo.recs) turn_keeps

pub greatest_at_first : (config : TenantConfig) → AllKeepGreatest config (new_cluster config) []
greatest_at_first config = each_at_first config (λ solo. KeepsGreatest solo.recs) turn_keeps (λ key. refl)
