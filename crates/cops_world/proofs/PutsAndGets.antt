-- Puts and gets whose keys and values are some, and those that are refused for them.
use Rattle.std.proofs.Common.{◌≡◌, ℕ, Bool, true, false, not, cond, ◌&&◌, List, [], ◌∷◌, ◌++◌, length, refl, sym, subst, ap, ◌∙◌, append_assoc, true≢false, arith}
use Rattle.std.specs.Prelude.{◌≢◌, IfOk, Some, None, Result, Ok, Err, nat_lt}
use Rattle.std.specs.declared.alloc.AllocError.{AllocError}
use Rattle.std.specs.List.{list_all}
use Rattle.std.proofs.lemmas.List.Folds.{list_all-append}
use Rattle.std.proofs.lemmas.Bool.{leb-false, lt-leb, lt-ltb, ltb-true}
use Rattle.std.proofs.lemmas.Bool.Decides.{nat_tests}
use Rattle.cops_types.specs.declared.faults.Fault.{Fault}
use Rattle.cops_types.specs.declared.faults.Fault.TheVariants.{BadKey, ValueTooLong}
use Rattle.cops_types.specs.declared.request_errors.RequestError.{RequestError}
use Rattle.cops_types.specs.declared.request_errors.RequestError.TheVariants.{OutOfMemory as Lacking, Refused as RefusedWith}
use Rattle.cops_types.specs.Key.{is_key}
use Rattle.cops_types.specs.Refusal.{refused_if}
use Rattle.cops_types.specs.RequestErrors.{AnswersUnless, fault_told}
use Rattle.cops_types.specs.Search.{first_refusal}
use Rattle.cops_types.specs.Value.{is_value, is_too_long}
use Rattle.cops_types.specs.Words.{no_words}
use Rattle.cops_model.specs.Request.{Write}
use Rattle.cops_model.specs.Session.{request_begun, session_put_refusal}
use Rattle.cops_model.specs.declared.acts.Act.TheVariants as acts
use Rattle.cops_model.specs.declared.replies.Reply.{Reply}
use Rattle.cops_model.specs.declared.replies.Reply.TheVariants.{Started, Refused}
use Rattle.cops_model.specs.Cluster.{ActEffect, OfSession, SoloCluster, cluster_step, find_session, on_session, reply_with, unless_refused, with_actor}
use Rattle.cops_model.specs.Setups.{config_in}
use Rattle.cops_world.specs.declared.actors.Deed.TheVariants as deeds
use Rattle.cops_world.specs.Deeds.{deed_step}
use Rattle.cops_world.specs.Worlds.{AnyReply, World, Moves}
use Rattle.cops_world.proofs.WorldJoins.{lack_moves, refused_moves, same_moves}

-- ---- keys

abbrev pub key_or_fault : List ℕ → Result (List ℕ) Fault
key_or_fault bytes = cond (is_key bytes) (Ok bytes) (Err BadKey)

pub bad_key : (bytes : List ℕ) (fault : Fault) → Err fault ≡ key_or_fault bytes → (fault ≡ BadKey) × (is_key bytes ≡ false)
bad_key bytes fault h = by (is_key bytes) refl h
  where
    by : (t : Bool) → is_key bytes ≡ t → Err fault ≡ cond t (Ok bytes) (Err BadKey) → (fault ≡ BadKey) × (is_key bytes ≡ false)
    by true e h = cc
    by false e h = (cc, e)

pub good_key : (bytes key : List ℕ) → Ok key ≡ key_or_fault bytes → (key ≡ bytes) × (is_key bytes ≡ true)
good_key bytes key h = by (is_key bytes) refl h
  where
    by : (t : Bool) → is_key bytes ≡ t → Ok key ≡ cond t (Ok bytes) (Err BadKey) → (key ≡ bytes) × (is_key bytes ≡ true)
    by true e h = (cc, e)
    by false e h = cc

-- the keys so far, before the slices that are left
abbrev pub AreKeysOf : List (List ℕ) → List (List ℕ) → List (List ℕ) → Type 0
AreKeysOf slices made left = (slices ≡ made ++ left) × (list_all is_key made ≡ true)

pub keys_so_far : (slices made left more later : List (List ℕ)) (slice key : List ℕ) → AreKeysOf slices made left → left ≡ slice ∷ later → Ok key ≡ key_or_fault slice → more ≡ made ++ key ∷ [] → AreKeysOf slices more later
keys_so_far slices made left more later slice key are first good e =
    let is = good_key slice key good in (
      are.0 ∙ (λ i. made ++ first i) ∙ sym (append_assoc made (slice ∷ []) later) ∙ (λ i. (made ++ sym is.0 i ∷ []) ++ later) ∙ ap (λ ks. ks ++ later) (sym e),
      ap (list_all is_key) e ∙ list_all-append is_key made (key ∷ []) ∙ (λ i. are.1 i && (is_key (is.0 i) && true)) ∙ ap (λ t. t && true) is.1,
    )

-- ---- values

pub too_long : (value : List ℕ) (t : Bool) → is_too_long value ≡ t → is_value value ≡ not t
too_long value true e = lt-leb (length value) 4096 (ltb-true 4096 (length value) e)
too_long value false e = by (is_value value) refl
  where
    by : (t : Bool) → is_value value ≡ t → is_value value ≡ true
    by true h = h
    by false h = absurd (true≢false (sym (lt-ltb 4096 (length value) (leb-false (length value) 4096 h)) ∙ e))

pub short_value : (value : List ℕ) → refused_if (is_too_long value) ValueTooLong ≡ None → is_value value ≡ true
short_value value none = by (is_too_long value) refl none
  where
    by : (t : Bool) → is_too_long value ≡ t → cond t (Some ValueTooLong) None ≡ None → is_value value ≡ true
    by true e h = cc
    by false e h = too_long value false e

-- ---- puts

module _ (old : World) (slot : ℕ) (name : List ℕ) (number : ℕ) (key value : List ℕ) where
  abbrev put_if : Bool → Bool → SoloCluster → ActEffect
  put_if k v cluster =
      let config = config_in old.setup slot in
      unless_refused (first_refusal ((not k, BadKey) ∷ (not v, ValueTooLong) ∷ [])) cluster
      (on_session (find_session name cluster) cluster λ s.
      unless_refused (session_put_refusal config number key s) cluster
      (reply_with Started (with_actor name (OfSession (request_begun number (Write key value) s)) cluster)))

  pub bad_key_moves : is_key key ≡ false → Moves AnyReply (λ config. cluster_step config (acts.Put name number key value)) old slot (Ok (Refused BadKey)) old
  bad_key_moves bad = refused_moves AnyReply (λ config. cluster_step config (acts.Put name number key value)) old slot BadKey (λ cluster h. ap (λ b. put_if b (is_value value) cluster) bad)

  pub bad_value_moves : (fault : Fault) → is_key key ≡ true → refused_if (is_too_long value) ValueTooLong ≡ Some fault → Moves AnyReply (λ config. cluster_step config (acts.Put name number key value)) old slot (Ok (Refused fault)) old
  bad_value_moves fault good is = by (is_too_long value) refl is
    where
      by : (t : Bool) → is_too_long value ≡ t → cond t (Some ValueTooLong) None ≡ Some fault → Moves AnyReply (λ config. cluster_step config (acts.Put name number key value)) old slot (Ok (Refused fault)) old
      by true e h = refused_moves AnyReply (λ config. cluster_step config (acts.Put name number key value)) old slot fault
          (λ cluster stands. (λ i. put_if (good i) (too_long value true e i) cluster) ∙ ap (λ f. reply_with (Refused f) cluster) cc)
      by false e h = cc

  -- the reply is why a value was refused, unless memory ran out
  pub no_value_moves : (error : RequestError) (answered : Result Reply AllocError) → is_key key ≡ true → AnswersUnless {A = List ℕ} (refused_if (is_too_long value) ValueTooLong) (Err error) →
      IfOk answered (λ reply. reply ≡ Refused (fault_told error)) → IfOk answered (λ _. error ≢ Lacking) → Moves AnyReply (λ config. cluster_step config (acts.Put name number key value)) old slot answered old
  no_value_moves (RefusedWith fault) (Ok reply) good refused is spared = subst (λ r. Moves AnyReply (λ config. cluster_step config (acts.Put name number key value)) old slot (Ok r) old) (sym is) (bad_value_moves fault good refused)
  no_value_moves Lacking (Ok reply) good refused is spared = absurd (spared refl)
  no_value_moves error (Err lack) good refused is spared = lack_moves AnyReply (λ config. cluster_step config (acts.Put name number key value)) old slot lack old refl

  pub put_moves : is_key key ≡ true → is_value value ≡ true → (answered : Result Reply AllocError) (new : World) → Moves AnyReply (λ config. deed_step config name (deeds.Put number key value)) old slot answered new →
      Moves AnyReply (λ config. cluster_step config (acts.Put name number key value)) old slot answered new
  put_moves good short answered new = same_moves AnyReply (λ config. deed_step config name (deeds.Put number key value)) (λ config. cluster_step config (acts.Put name number key value)) old slot answered new
      (λ cluster i. put_if (sym good i) (sym short i) cluster)

-- ---- gets

pub counts_none : (keys : List (List ℕ)) (t : Bool) → no_words keys ≡ t → nat_lt (length keys) 1 ≡ t
counts_none [] t is = is
counts_none (key ∷ keys) t is = some ∙ is
  where
    some : nat_lt (length (key ∷ keys)) 1 ≡ false
    some = grind (arith, nat_tests)
