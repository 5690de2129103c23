-- At each node the entries of an origin are the first ones that the origin issued, at least those that were acknowledged.
use Rattle.std.proofs.Common.{◌≡◌, ◌≢◌, ℕ, ◌+◌, ◌*◌, ◌≤◌, ◌%◌, true, false, cond, List, [], ◌∷◌, ◌++◌, length, ◌⊎◌, inl, inr, sym, ◌∙◌, ap, subst, arith, append-nil, length-append}
use Rattle.std.specs.Prelude.{slice_index, ◌==◌}
use Rattle.std.proofs.lemmas.Bool.Decides.{nat_tests, eqb_tells}
use Rattle.cops_types.specs.declared.records.EntryParts.{EntryParts as Entry}
use Rattle.cops_types.specs.TenantConfig.{TenantConfig}
use Rattle.cops_types.specs.Version.{no_version, version_lt}
use Rattle.cops_model.specs.declared.calls.NodeCall.{NodeCall}
use Rattle.cops_model.specs.declared.calls.NodeId.{NodeId}
use Rattle.cops_model.specs.declared.calls.NodeReply.{NodeReply}
use Rattle.cops_model.specs.Place.{node_number, place_of}
use Rattle.cops_model.specs.SoloNode.{SoloNode}
use Rattle.cops_model.specs.Cluster.{SoloCluster}
use Rattle.cops_node.proofs.Chains.{of_origin, of_origin-push, IsChain, last_version, chain-push, IsFront, front-same, front-more, front-extended}
use Rattle.cops_node.proofs.NodeTurns.{entries, Change, IsRefused, Answers, Joined, Taken, Stores, Takes}
use Rattle.cops_causal.proofs.NodeEffects.{node_of, Called}

-- what a node holds of an origin
abbrev pub held : TenantConfig → SoloCluster → ℕ → ℕ → List Entry
held config c n origin = of_origin origin (entries (node_of config c n))

pub record IsStreamed (config : TenantConfig) (c : SoloCluster) : Type 0 where
  pub chained : (n : ℕ) → IsChain no_version (held config c n n)
  pub fronts : (n m : ℕ) → IsFront (held config c n m) (held config c m m)
  pub acked_held : (n dc : ℕ) → slice_index (node_of config c n).acked dc ≤ length (held config c (dc * config.shards + n % config.shards) n)

-- an entry may join a node: as the next one that the node issues, or as the next one that its origin issued
pub data MayJoin (config : TenantConfig) (c : SoloCluster) (n : ℕ) (e : Entry) : Type 0 where
  AsIssued : e.version.node ≡ n → e.prev ≡ last_version no_version (held config c n n) → version_lt (last_version no_version (held config c n n)) e.version ≡ true → MayJoin config c n e
  AsNext : e.version.node ≢ n → (later : List Entry) → held config c e.version.node e.version.node ≡ held config c n e.version.node ++ e ∷ later → MayJoin config c n e

module _ (config : TenantConfig) (c after : SoloCluster) (number : ℕ) (others : (n : ℕ) → n ≢ number → node_of config after n ≡ node_of config c n) (inv : IsStreamed config c) where
  -- a call that leaves the entries
  same_held : entries (node_of config after number) ≡ entries (node_of config c number) → (n m : ℕ) → held config after n m ≡ held config c n m
  same_held same n m =
      elim (eqb_tells n number) [
        | inl here ↦ ap (λ k. held config after k m) here.1 ∙ ap (of_origin m) same ∙ ap (λ k. held config c k m) (sym here.1)
        | inr other ↦ ap (λ solo. of_origin m (entries solo)) (others n other.1)
      ]

  acked_elsewhere : (P : ℕ → List ℕ → Type 0) → ((n : ℕ) → P n (node_of config c n).acked) → P number (node_of config after number).acked → (n : ℕ) → P n (node_of config after n).acked
  acked_elsewhere P old here n =
      elim (eqb_tells n number) [
        | inl is ↦ subst (λ k. P k (node_of config after k).acked) (sym is.1) here
        | inr other ↦ subst (P n) (ap (λ (solo : SoloNode). solo.acked) (sym (others n other.1))) (old n)
      ]

  still_streamed : entries (node_of config after number) ≡ entries (node_of config c number) →
      ((dc : ℕ) → slice_index (node_of config after number).acked dc ≤ length (held config c (dc * config.shards + number % config.shards) number)) → IsStreamed config after
  still_streamed same acked =
      record {
        chained = λ n. subst (IsChain no_version) (sym (same_held same n n)) (inv.chained n);
        fronts = λ n m. subst (λ es. IsFront es (held config after m m)) (sym (same_held same n m)) (subst (IsFront (held config c n m)) (sym (same_held same m m)) (inv.fronts n m));
        acked_held = λ n dc. subst (λ es. slice_index (node_of config after n).acked dc ≤ length es) (sym (same_held same (dc * config.shards + n % config.shards) n))
            (acked_elsewhere (λ n acked. slice_index acked dc ≤ length (held config c (dc * config.shards + n % config.shards) n)) (λ n. inv.acked_held n dc) (acked dc) n);
      }

  module _ (e : Entry) (joins : entries (node_of config after number) ≡ entries (node_of config c number) ++ e ∷ []) where
    pub held-here : held config after number e.version.node ≡ held config c number e.version.node ++ e ∷ []
    held-here =
        ap (of_origin e.version.node) joins ∙ of_origin-push e.version.node (entries (node_of config c number)) e
        ∙ ap (λ b. held config c number e.version.node ++ cond b (e ∷ []) []) (same e.version.node)
      where
        same : (n : ℕ) → (n == n) ≡ true
        same n = grind (arith, nat_tests)

    held-origin : (n m : ℕ) → m ≢ e.version.node → held config after n m ≡ held config c n m
    held-origin n m apart =
        elim (eqb_tells n number) [
          | inl here ↦
              ap (λ k. held config after k m) here.1 ∙ ap (of_origin m) joins ∙ of_origin-push m (entries (node_of config c number)) e
              ∙ ap (λ b. held config c number m ++ cond b (e ∷ []) []) (unequal e.version.node m apart) ∙ append-nil (held config c number m) ∙ ap (λ k. held config c k m) (sym here.1)
          | inr other ↦ ap (λ solo. of_origin m (entries solo)) (others n other.1)
        ]
      where
        unequal : (k m : ℕ) → m ≢ k → (k == m) ≡ false
        unequal k m apart = elim (eqb_tells k m) [ inl same ↦ absurd (apart (sym same.1)) | inr other ↦ other.0 ]

    held-other : (n m : ℕ) → n ≢ number → held config after n m ≡ held config c n m
    held-other n m other = ap (λ solo. of_origin m (entries solo)) (others n other)

    -- nothing is lost
    held-longer : (n m : ℕ) → length (held config c n m) ≤ length (held config after n m)
    held-longer n m =
        elim (eqb_tells m e.version.node) [
          | inr apart ↦ (let same = ap length (held-origin n m apart.1) in omega arith)
          | inl origin ↦ elim (eqb_tells n number) [
            | inr other ↦ (let same = ap length (held-other n m other.1) in omega arith)
            | inl here ↦ subst (λ k. length (held config c k m) ≤ length (held config after k m)) (sym here.1)
                (subst (λ k. length (held config c number k) ≤ length (held config after number k)) (sym origin.1)
                (let longer = ap length held-here ∙ length-append (held config c number e.version.node) (e ∷ []) in omega arith))
          ]
        ]

    chained-joined : MayJoin config c number e → (n : ℕ) → IsChain no_version (held config after n n)
    chained-joined may n =
        elim (eqb_tells n e.version.node) [
          | inr apart ↦ subst (IsChain no_version) (sym (held-origin n n apart.1)) (inv.chained n)
          | inl origin ↦ elim (eqb_tells n number) [
            | inr other ↦ subst (IsChain no_version) (sym (held-other n n other.1)) (inv.chained n)
            | inl here ↦ by_may may (sym origin.1 ∙ here.1) here.1
          ]
        ]
      where
        by_may : MayJoin config c number e → e.version.node ≡ number → n ≡ number → IsChain no_version (held config after n n)
        by_may (AsIssued own follows above) same is =
            let there : held config after number number ≡ held config c number number ++ e ∷ [] = subst (λ m. held config after number m ≡ held config c number m ++ e ∷ []) own held-here in
            subst (λ k. IsChain no_version (held config after k k)) (sym is) (subst (IsChain no_version) (sym there) (chain-push no_version (held config c number number) e (inv.chained number) follows above))
        by_may (AsNext apart later next) same is = absurd (apart same)

    fronts-joined : MayJoin config c number e → (n m : ℕ) → IsFront (held config after n m) (held config after m m)
    fronts-joined may n m =
        elim (eqb_tells m e.version.node) [
          | inr apart ↦ subst (λ es. IsFront es (held config after m m)) (sym (held-origin n m apart.1)) (subst (IsFront (held config c n m)) (sym (held-origin m m apart.1)) (inv.fronts n m))
          | inl origin ↦ subst (λ k. IsFront (held config after n k) (held config after k k)) (sym origin.1) (of_e (eqb_tells n number))
        ]
      where
        at_origin : MayJoin config c number e → IsFront (held config c n e.version.node) (held config after e.version.node e.version.node)
        at_origin (AsIssued own follows above) =
            let there : held config after e.version.node e.version.node ≡ held config c e.version.node e.version.node ++ e ∷ [] =
            subst (λ k. held config after k e.version.node ≡ held config c k e.version.node ++ e ∷ []) (sym own) held-here in
            subst (IsFront (held config c n e.version.node)) (sym there) (front-more (held config c n e.version.node) (held config c e.version.node e.version.node) e (inv.fronts n e.version.node))
        at_origin (AsNext apart later next) = subst (IsFront (held config c n e.version.node)) (sym (held-other e.version.node e.version.node apart)) (inv.fronts n e.version.node)

        at_node : MayJoin config c number e → IsFront (held config after number e.version.node) (held config after e.version.node e.version.node)
        at_node (AsIssued own follows above) = subst (λ k. IsFront (held config after number k) (held config after k k)) (sym own) (front-same (held config after number number))
        at_node (AsNext apart later next) =
            subst (λ es. IsFront es (held config after e.version.node e.version.node)) (sym held-here)
            (subst (IsFront (held config c number e.version.node ++ e ∷ [])) (sym (held-other e.version.node e.version.node apart))
            (front-extended (held config c number e.version.node) (held config c e.version.node e.version.node) e later next))

        of_e : ((n == number) ≡ true) × (n ≡ number) ⊎ ((n == number) ≡ false) × (n ≢ number) → IsFront (held config after n e.version.node) (held config after e.version.node e.version.node)
        of_e (inl here) = subst (λ k. IsFront (held config after k e.version.node) (held config after e.version.node e.version.node)) (sym here.1) (at_node may)
        of_e (inr other) = subst (λ es. IsFront es (held config after e.version.node e.version.node)) (sym (held-other n e.version.node other.1)) (at_origin may)

    joined_streamed : MayJoin config c number e → (node_of config after number).acked ≡ (node_of config c number).acked → IsStreamed config after
    joined_streamed may acked =
        record {
          chained = chained-joined may;
          fronts = fronts-joined may;
          acked_held = λ n dc. (
              let old : slice_index (node_of config after n).acked dc ≤ length (held config c (dc * config.shards + n % config.shards) n) =
              acked_elsewhere (λ n acked. slice_index acked dc ≤ length (held config c (dc * config.shards + n % config.shards) n)) (λ n. inv.acked_held n dc)
              (subst (λ as'. slice_index as' dc ≤ length (held config c (dc * config.shards + number % config.shards) number)) (sym acked) (inv.acked_held number dc)) n in
              let longer = held-longer (dc * config.shards + n % config.shards) n in omega arith);
        }

-- a call keeps the streams if what it stores may join, and what it takes may be taken
pub streamed_called : {config : TenantConfig} {c after : SoloCluster} {id : NodeId} {call : NodeCall} {reply : NodeReply} (called : Called config c id call reply after) → IsStreamed config c →
    ((e : Entry) → Stores (place_of config id) call (node_of config c (node_number config.shards id)) reply e → MayJoin config c (node_number config.shards id) e) →
    ((acked : List ℕ) → Takes (place_of config id) call (node_of config c (node_number config.shards id)) reply acked → (dc : ℕ) → slice_index acked dc ≤ length (held config c (dc * config.shards + node_number config.shards id % config.shards) (node_number config.shards id))) →
    IsStreamed config after
streamed_called {config} {c} {after} {id} {call} {reply} called inv joins takes = by_change called.change
  where
    number : ℕ
    number = node_number config.shards id

    same_acked : (node_of config after number).acked ≡ (node_of config c number).acked → (dc : ℕ) → slice_index (node_of config after number).acked dc ≤ length (held config c (dc * config.shards + number % config.shards) number)
    same_acked same dc = subst (λ as'. slice_index as' dc ≤ length (held config c (dc * config.shards + number % config.shards) number)) (sym same) (inv.acked_held number dc)

    by_change : Change (place_of config id) call (node_of config c number) reply (node_of config after number) → IsStreamed config after
    by_change (IsRefused same acked is) = still_streamed config c after number called.others inv same (same_acked acked)
    by_change (Answers same acked is) = still_streamed config c after number called.others inv same (same_acked acked)
    by_change (Joined e more acked is) = joined_streamed config c after number called.others inv e more (joins e is) acked
    by_change (Taken same is) = still_streamed config c after number called.others inv same (takes (node_of config after number).acked is)
