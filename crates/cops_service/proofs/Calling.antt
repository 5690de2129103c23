-- Calls in a row, and lists of which each is done.
use Rattle.std.proofs.Common.{◌≡◌, ℕ, zero, suc, ◌+◌, ◌<◌, ◌≤◌, ◌++◌, ◌∙◌, List, [], ◌∷◌, length, take, refl, sym, subst, get_or, Bool, false, IsTrue, inl, inr}
use Rattle.std.proofs.lemmas.Bool.{false≢true}
use Rattle.std.proofs.lemmas.List.{take_more, take_all}
use Rattle.cops_types.specs.declared.configs.Config.{Config}
use Rattle.cops_model.specs.declared.calls.NodeCall.{NodeCall}
use Rattle.cops_model.specs.declared.calls.NodeCall.TheVariants.{Collect}
use Rattle.cops_model.specs.declared.calls.NodeId.{NodeId}
use Rattle.cops_model.specs.declared.calls.NodeReply.{NodeReply}
use Rattle.cops_service.specs.Calling.{IsCallFor, AreCallsFor, CallsOnlyFor, CollectAll, CollectsIfThere, DoneForEach}
use Rattle.cops_service.specs.Noted.{IsThere}
use Rattle.cops_service.specs.declared.notes.TenantNode.{TenantNode}

module _ {N : Type 0} (answers : N → NodeId → ℕ → ℕ → NodeCall → NodeReply → N → Type 0) (slot : ℕ) where
  pub one_more : (old between new : N) → CallsOnlyFor answers slot old between → IsCallFor answers slot between new → CallsOnlyFor answers slot old new
  one_more old between new calls call = (suc calls.0, (between, calls.1, call))

  joined : (first second : ℕ) (old between new : N) → AreCallsFor answers slot first old between → AreCallsFor answers slot second between new → CallsOnlyFor answers slot old new
  joined first zero old between new are none = (first, subst (λ nodes. AreCallsFor answers slot first old nodes) (sym none) are)
  joined first (suc second) old between new are more = one_more old more.0 new (joined first second old between more.0 are more.1) more.2

  pub both : (old between new : N) → CallsOnlyFor answers slot old between → CallsOnlyFor answers slot between new → CallsOnlyFor answers slot old new
  both old between new before after = joined before.0 after.0 old between new before.1 after.1

module _ {N : Type 0} (answers : N → NodeId → ℕ → ℕ → NodeCall → NodeReply → N → Type 0) where
  pub collected : (config : Config) (place : TenantNode) (moment : ℕ) (reply : NodeReply) (old new : N) → IsThere config place → answers old place.id place.slot moment Collect reply new → CollectsIfThere answers config place old new
  collected config place moment reply old new there call = inl (there, (moment, reply, call))

  pub passed_over : (config : Config) (place : TenantNode) (found : Bool) (nodes : N) → (IsThere config place → IsTrue found) → found ≡ false → CollectsIfThere answers config place nodes nodes
  passed_over config place found nodes only not_found = inr (λ there. false≢true (sym not_found ∙ only there), refl)

  -- places that are collected, behind others
  pub collected_on : (config : Config) (places : List TenantNode) (old between new : N) → ((count : ℕ) × CollectAll answers config count old between) → DoneForEach (λ place. CollectsIfThere answers config place) places between new
      → (count : ℕ) × CollectAll answers config count old new
  collected_on config [] old between new all none = (all.0, subst (λ n. CollectAll answers config all.0 old n) (sym none) all.1)
  collected_on config (place ∷ places) old between new all (middle, inl (there, does), later) = collected_on config places old middle new (suc all.0, (between, place, all.1, there, does)) later
  collected_on config (place ∷ places) old between new all (middle, inr (not_there, none), later) =
      collected_on config places old middle new (all.0, subst (λ n. CollectAll answers config all.0 old n) (sym none) all.1) later

module _ {N X : Type 0} (Does : X → N → N → Type 0) where
  done_next : (xs : List X) (x : X) (old between new : N) → DoneForEach Does xs old between → Does x between new → DoneForEach Does (xs ++ x ∷ []) old new
  done_next [] x old between new none does = (new, subst (λ nodes. Does x nodes new) none does, refl)
  done_next (y ∷ ys) x old between new done does = (done.0, done.1, done_next ys x done.0 between new done.2 does)

  pub done_more : (xs : List X) (i : ℕ) (d : X) (old between new : N) → i < length xs → DoneForEach Does (take i xs) old between → Does (get_or xs i d) between new → DoneForEach Does (take (i + 1) xs) old new
  done_more xs i d old between new within done does =
      subst (λ ys. DoneForEach Does ys old new) (sym (take_more xs i d within)) (done_next (take i xs) (get_or xs i d) old between new done does)

  pub done_all : (xs : List X) (i : ℕ) (old new : N) → length xs ≤ i → DoneForEach Does (take i xs) old new → DoneForEach Does xs old new
  done_all xs i old new all done = subst (λ ys. DoneForEach Does ys old new) (take_all i xs all) done
