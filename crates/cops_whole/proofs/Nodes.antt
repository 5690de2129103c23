-- What the calls at one node are for one of its tenants.
use Rattle.std.proofs.Common.{◌≡◌, ◌≢◌, ℕ, Bool, true, false, cond, nat_eq, nat_lt, IsTrue, List, [], ◌∷◌, map, length, inl, inr, refl, sym, ◌∙◌, ap, subst}
use Rattle.std.specs.Prelude.{Option, Some, None, slice_get, if◌then◌else◌}
use Rattle.std.proofs.lemmas.Bool.Decides.{Decides-eqb}
use Rattle.std.proofs.lemmas.Bool.{eqb-true}
use Rattle.cops_types.specs.declared.configs.Config.{Config}
use Rattle.cops_types.specs.declared.configs.Tenant.{Tenant}
use Rattle.cops_types.specs.TenantConfig.{TenantConfig, tenant_config}
use Rattle.cops_model.specs.Cluster.{has_node}
use Rattle.cops_model.specs.Place.{Place}
use Rattle.cops_model.specs.SoloNode.{SoloNode, new_node}
use Rattle.cops_model.specs.Step.{node_step}
use Rattle.cops_node.specs.Clusters.{id_of, new_shared}
use Rattle.cops_node.specs.Lacking.{MayLack}
use Rattle.cops_node.specs.Parts.{Shared, IsMachineTurn, left_by, place_at, solo_of}
use Rattle.cops_node.proofs.Clusters.{place_new}
use Rattle.cops_node.proofs.Fresh.{replicate_read}
use Rattle.cops_model.specs.declared.calls.NodeReply.TheVariants.{Refused}
use Rattle.cops_types.specs.declared.faults.Fault.TheVariants.{OutOfMemory}
use Rattle.cops_history.specs.Turns.{Turn, IsLegal, IsReplyOf, has_audit_left, left_by_turn, left_of, was_refused_memory}
use Rattle.cops_history.proofs.SparedNodes.{node_spared}
use Rattle.cops_whole.specs.Whole.{CallEntry, IsCallAt, LeadsOn, Represents, place_there, tenant_turn}

abbrev pub joins_slot : ℕ → Option CallEntry → List CallEntry → List CallEntry
joins_slot slot None rest = rest
joins_slot slot (Some e) rest = if nat_eq e.slot slot then e ∷ rest else rest

-- the calls of a slot, in order
abbrev pub slot_calls : ℕ → List (Option CallEntry) → List CallEntry
slot_calls slot [] = []
slot_calls slot (entry ∷ entries) = joins_slot slot entry (slot_calls slot entries)

pub some_same : {A : Type 0} (a b : A) → Some a ≡ Some b → a ≡ b
some_same a b e = cc

module _ (config : Config) (tenant : Tenant) (slot number : ℕ) (there : has_node (tenant_config config tenant) (id_of config.shards number).dc (id_of config.shards number).shard ≡ true) where
  abbrev own : TenantConfig
  own = tenant_config config tenant

  abbrev place : Place
  place = place_there config tenant number

  abbrev mine : CallEntry → Turn
  mine e = tenant_turn config number e

  -- the slot's calls are legal alone, and what they leave alone is what the node represents
  pub record AloneThere (solo : SoloNode) (calls : List CallEntry) (left : Shared) : Type 0 where
    pub legal : IsLegal own solo (map mine calls)
    pub stands : Represents slot place (left_of own solo (map mine calls)) left

  -- a call of the slot that the node took
  taken : (e : CallEntry) (solo : SoloNode) (old new : Shared) → e.slot ≡ slot → Represents slot place solo old → IsMachineTurn old e.slot e.moment e.call e.reply new →
      IsReplyOf own (mine e) solo × Represents slot place (left_by_turn own (mine e) solo) new
  taken e solo old new same stands turn =
      let told = turn.own place (ap (λ n. place_at n old) same ∙ stands.place_is) in
      let before_is : solo_of e.slot place old ≡ solo = ap (λ n. solo_of n place old) same ∙ sym stands.solo_is in
      let reply_is : e.reply ≡ (node_step place e.moment e.call solo).reply = told.0 ∙ ap (λ s. (node_step place e.moment e.call s).reply) before_is in
      let after_is : (node_step place e.moment e.call solo).after ≡ solo_of slot place new =
      ap (λ s. (node_step place e.moment e.call s).after) (sym before_is) ∙ sym told.1 ∙ ap (λ n. solo_of n place new) same in
      let spared : was_refused_memory e.reply ≡ false = ap was_refused_memory reply_is ∙ node_spared place e.moment e.call solo in (
        inl reply_is,
        record {
          place_is = place_stays turn;
          solo_is = ap (λ b. cond b solo (node_step place e.moment e.call solo).after) spared ∙ after_is;
        },
      )
    where
      place_stays : IsMachineTurn old e.slot e.moment e.call e.reply new → place_at slot new ≡ Some place
      place_stays turn =
          let home = turn.home in
          let terms = turn.terms in
          (λ i. place_at slot (record { home = home i; terms = terms i; audit = [] })) ∙ stands.place_is

  -- a call of the slot that was refused memory
  refused : (e : CallEntry) (solo : SoloNode) (old new : Shared) → e.slot ≡ slot → Represents slot place solo old → e.reply ≡ Refused OutOfMemory → new ≡ old → MayLack old e.slot e.call →
      IsReplyOf own (mine e) solo × Represents slot place (left_by_turn own (mine e) solo) new
  refused e solo old new same stands lack stays (at, at_is, room) =
      let place_is : at ≡ place = some_same at place (sym at_is ∙ ap (λ n. place_at n old) same ∙ stands.place_is) in
      let room_there : IsTrue (nat_lt (length (solo_of slot place old).trail) place.quota.audit) =
      subst (λ p. IsTrue (nat_lt (length (solo_of slot p old).trail) p.quota.audit)) place_is (subst (λ n. IsTrue (nat_lt (length (solo_of n at old).trail) at.quota.audit)) same room) in
      let room_alone : IsTrue (has_audit_left own solo) = subst (λ (s : SoloNode). IsTrue (nat_lt (length s.trail) place.quota.audit)) (sym stands.solo_is) room_there in (
        inr (lack, room_alone),
        subst (λ n. Represents slot place (left_by_turn own (mine e) solo) n) (sym stays)
            (record { place_is = stands.place_is; solo_is = ap (λ b. cond b solo (node_step place e.moment e.call solo).after) (ap was_refused_memory lack) ∙ stands.solo_is }),
      )

  -- a call of another slot
  elsewhere : (e : CallEntry) (solo : SoloNode) (old new : Shared) → slot ≢ e.slot → Represents slot place solo old → IsCallAt old e new → Represents slot place solo new
  elsewhere e solo old new differ stands (inl turn) =
      let home = turn.home in
      let terms = turn.terms in
      record {
        place_is = (λ i. place_at slot (record { home = home i; terms = terms i; audit = [] })) ∙ stands.place_is;
        solo_is = stands.solo_is ∙ sym (ap (left_by place) (turn.others slot differ));
      }
  elsewhere e solo old new differ stands (inr (lack, stays, may)) = subst (λ n. Represents slot place solo n) (sym stays) stands

  pub alone_there : (entries : List (Option CallEntry)) (solo : SoloNode) (old left : Shared) → Represents slot place solo old → LeadsOn old entries left → AloneThere solo (slot_calls slot entries) left
  alone_there [] solo old left stands same = record { legal = tt; stands = subst (λ n. Represents slot place solo n) (sym same) stands }
  alone_there (None ∷ entries) solo old left stands leads = alone_there entries solo old left stands leads
  alone_there (Some e ∷ entries) solo old left stands (between, call, leads) = either (λ next here. alone_there entries next between left here leads) (nat_eq e.slot slot) refl
    where
      either : ((next : SoloNode) → Represents slot place next between → AloneThere next (slot_calls slot entries) left) → (b : Bool) → nat_eq e.slot slot ≡ b → AloneThere solo (cond b (e ∷ slot_calls slot entries) (slot_calls slot entries)) left
      either later true is =
          let same : e.slot ≡ slot = eqb-true e.slot slot is in
          let one : IsReplyOf own (mine e) solo × Represents slot place (left_by_turn own (mine e) solo) between =
          elim call [
            | inl turn ↦ taken e solo old between same stands turn
            | inr lack ↦ refused e solo old between same stands lack.0 lack.1 lack.2
          ] in
          let rest = later (left_by_turn own (mine e) solo) one.1 in
          record { legal = (there, one.0, rest.legal); stands = rest.stands }
      either later false is =
          let differ : slot ≢ e.slot = (λ same. let yes_same : nat_eq e.slot slot ≡ true = (Decides-eqb e.slot slot).1 (sym same) in cc) in
          later solo (elsewhere e solo old between differ stands call)

-- a new node represents a new solo node
pub new_represents : (config : Config) (tenant : Tenant) (slot number : ℕ) → slice_get config.tenants slot ≡ Some tenant → Represents slot (place_there config tenant number) (new_node config.data_centres) (new_shared config number)
new_represents config tenant slot number found = record {
  place_is = place_new config slot tenant number found;
  solo_is = ap (left_by (place_there config tenant number)) (sym (replicate_read (length config.tenants) slot []));
}
