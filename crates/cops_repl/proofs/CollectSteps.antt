-- Collections in a row.
use Rattle.std.proofs.Common.{◌≡◌, ℕ, zero, suc, ◌+◌, ◌<◌, ◌≤◌, List, [], ◌∷◌, ◌++◌, map, length, drop, refl, sym, ◌∙◌, ap, subst, arith, add-zero, append-nil, append_assoc, ◌⊎◌, inl, inr}
use Rattle.std.specs.Prelude.{sum, ◌^◌, Result, Ok, Err}
use Rattle.std.specs.List.{flat_map, range_with_len}
use Rattle.std.proofs.Math.Nat.{eq-or-lt_of_le}
use Rattle.std.proofs.lemmas.Grind.{flat_map-append}
use Rattle.std.proofs.lemmas.List.{length-append, length-map, map-append, take-append-drop}
use Rattle.std.proofs.lemmas.List.Sums.{sum_by-append}
use Rattle.std.proofs.lemmas.List.FromFn.{map-range_with_len_more, take-map-range_with_len}
use Rattle.cops_types.specs.declared.faults.Fault.{Fault}
use Rattle.cops_model.specs.declared.calls.NodeCall.{NodeCall}
use Rattle.cops_model.specs.declared.calls.NodeCall.TheVariants.{Collect}
use Rattle.cops_model.specs.declared.calls.NodeId.{NodeId}
use Rattle.cops_model.specs.declared.calls.NodeReply.{NodeReply}
use Rattle.cops_model.specs.declared.calls.NodeReply.TheVariants.{Removed}
use Rattle.cops_repl.specs.Collections.{Collected, CollectsAll, StopsAt, all_nodes, nodes_of_data_centre}

sum-append : (xs ys : List ℕ) → sum (xs ++ ys) ≡ sum xs + sum ys
sum-append xs ys = sum_by-append (λ n. n) xs ys

module _ {S : Type 0} (answers : S → NodeId → ℕ → ℕ → NodeCall → NodeReply → S → Type 0) (slot moment : ℕ) where
  -- ---- the calls

  -- collections at some nodes, and then at more
  collected-append : (ids more : List NodeId) (replies later : List NodeReply) (old mid new : S) → length replies ≡ length ids →
      Collected answers slot moment ids replies old mid → Collected answers slot moment more later mid new → Collected answers slot moment (ids ++ more) (replies ++ later) old new
  collected-append [] more [] later old mid new all first second = subst (λ (s : S). Collected answers slot moment more later s new) first second
  collected-append [] more (reply ∷ replies) later old mid new all first second = absurd first
  collected-append (id ∷ ids) more [] later old mid new all first second = absurd (omega (arith, all))
  collected-append (id ∷ ids) more (reply ∷ replies) later old mid new all first second =
      (first.0, first.1, collected-append ids more replies later first.0 mid new (omega (arith, all)) first.2 second)

  -- nodes that were not reached
  collected-more : (ids more : List NodeId) (replies : List NodeReply) (old new : S) → Collected answers slot moment ids replies old new → Collected answers slot moment (ids ++ more) replies old new
  collected-more ids more [] old new made = made
  collected-more [] more (reply ∷ replies) old new made = absurd made
  collected-more (id ∷ ids) more (reply ∷ replies) old new made = (made.0, made.1, collected-more ids more replies made.0 new made.2)

  -- ---- the sums

  pub none_yet : (start : ℕ) (old : S) → CollectsAll answers slot moment start [] old old (Ok start)
  none_yet start old = ([], refl, ([], refl, refl, sym (add-zero start)))

  -- after a sum of some nodes come more
  pub then_more : (start total : ℕ) (ids more : List NodeId) (old mid new : S) (result : Result ℕ Fault) → CollectsAll answers slot moment start ids old mid (Ok total) →
      CollectsAll answers slot moment total more mid new result → CollectsAll answers slot moment start (ids ++ more) old new result
  then_more start total ids more old mid new result first second = by result second
    where
      counts : List ℕ
      counts = first.2.0

      made : Collected answers slot moment ids (map Removed counts) old mid
      made = subst (λ (rs : List NodeReply). Collected answers slot moment ids rs old mid) first.2.2 first.1

      all : length (map Removed counts) ≡ length ids
      all = length-map counts Removed ∙ first.2.1

      by : (result : Result ℕ Fault) → CollectsAll answers slot moment total more mid new result → CollectsAll answers slot moment start (ids ++ more) old new result
      by (Ok sum_of_all) later =
          let rest = later.2.0 in (
            map Removed counts ++ later.0,
            collected-append ids more (map Removed counts) later.0 old mid new all made later.1,
            (
              counts ++ rest,
              omega (arith, length-append counts rest, length-append ids more, first.2.1, later.2.1),
              ap (λ rs. map Removed counts ++ rs) later.2.2 ∙ sym (map-append Removed counts rest),
              omega (arith, sum-append counts rest, first.2.3, later.2.3),
            ),
          )
      by (Err fault) later =
          let rest = later.2.0 in
          let last = later.2.1 in
          let same : total + sum rest ≡ start + sum (counts ++ rest) = omega (arith, sum-append counts rest, first.2.3) in (
            map Removed counts ++ later.0,
            collected-append ids more (map Removed counts) later.0 old mid new all made later.1,
            (
              counts ++ rest,
              last,
              ap (λ rs. map Removed counts ++ rs) later.2.2 ∙ sym (append_assoc (map Removed counts) (map Removed rest) (last ∷ [])) ∙ ap (λ rs. rs ++ last ∷ []) (sym (map-append Removed counts rest)),
              subst (λ (n : ℕ). n < 2 ^ 64) same later.2.3,
              subst (λ (n : ℕ). StopsAt n last fault) same later.2.4,
            ),
          )

  -- one node
  pub one_counts : (total count : ℕ) (id : NodeId) (old new : S) → answers old id slot moment Collect (Removed count) new → CollectsAll answers slot moment total (id ∷ []) old new (Ok (total + count))
  one_counts total count id old new answer = (Removed count ∷ [], (new, answer, refl), (count ∷ [], refl, refl, omega arith))

  pub one_stops : (total : ℕ) (id : NodeId) (reply : NodeReply) (fault : Fault) (old new : S) → total < 2 ^ 64 → answers old id slot moment Collect reply new → StopsAt total reply fault →
      CollectsAll answers slot moment total (id ∷ []) old new (Err fault)
  one_stops total id reply fault old new fits answer stops =
      (reply ∷ [], (new, answer, refl), ([], reply, refl, subst (λ (n : ℕ). n < 2 ^ 64) (sym (add-zero total)) fits, subst (λ (n : ℕ). StopsAt n reply fault) (sym (add-zero total)) stops))

  -- a fault ends it, whatever nodes are left
  pub fault_ends : (start : ℕ) (ids more : List NodeId) (old new : S) (fault : Fault) → CollectsAll answers slot moment start ids old new (Err fault) →
      CollectsAll answers slot moment start (ids ++ more) old new (Err fault)
  fault_ends start ids more old new fault made = (made.0, collected-more ids more made.0 old new made.1, made.2)

-- ---- the nodes in order

pub nodes_of-more : (shards dc : ℕ) → nodes_of_data_centre (shards + 1) dc ≡ nodes_of_data_centre shards dc ++ record { dc = dc; shard = shards } ∷ []
nodes_of-more shards dc = map-range_with_len_more (λ (shard : ℕ). let id : NodeId = record { dc = dc; shard = shard } in id) 0 shards shards (omega arith)

range-more : (a n : ℕ) → range_with_len a (suc n) ≡ range_with_len a n ++ (a + n) ∷ []
range-more a zero = ap (λ k. k ∷ []) (sym (add-zero a))
range-more a (suc n) = ap (λ ks. a ∷ ks) (range-more (a + 1) n ∙ ap (λ k. range_with_len (a + 1) n ++ k ∷ []) (omega arith))

pub all_nodes-more : (dcs shards : ℕ) → all_nodes (dcs + 1) shards ≡ all_nodes dcs shards ++ nodes_of_data_centre shards dcs
all_nodes-more dcs shards =
    let one : dcs + 1 ≡ suc dcs = omega arith in
    let here : 0 + dcs ≡ dcs = omega arith in
    ap (λ n. all_nodes n shards) one
    ∙ ap (flat_map (nodes_of_data_centre shards)) (range-more 0 dcs)
    ∙ flat_map-append (nodes_of_data_centre shards) (range_with_len 0 dcs) ((0 + dcs) ∷ [])
    ∙ ap (λ ids. all_nodes dcs shards ++ ids) (append-nil (nodes_of_data_centre shards (0 + dcs)))
    ∙ ap (λ n. all_nodes dcs shards ++ nodes_of_data_centre shards n) here

-- the nodes of the first shards are the first nodes
pub nodes_of-rest : (k shards dc : ℕ) → k ≤ shards → (rest : List NodeId) × (nodes_of_data_centre shards dc ≡ nodes_of_data_centre k dc ++ rest)
nodes_of-rest k shards dc within =
    let id_of : ℕ → NodeId = λ shard. record { dc = dc; shard = shard } in (
      drop k (nodes_of_data_centre shards dc),
      sym (take-append-drop k (nodes_of_data_centre shards dc)) ∙ ap (λ ids. ids ++ drop k (nodes_of_data_centre shards dc)) (take-map-range_with_len id_of 0 shards k within),
    )

pub all_nodes-rest : (k dcs shards : ℕ) → k ≤ dcs → (rest : List NodeId) × (all_nodes dcs shards ≡ all_nodes k shards ++ rest)
all_nodes-rest k zero shards within = ([], let none : k ≡ 0 = omega arith in ap (λ n. all_nodes n shards ++ []) (sym none))
all_nodes-rest k (suc dcs) shards within = by (eq-or-lt_of_le within) (λ h. all_nodes-rest k dcs shards h)
  where
    one : suc dcs ≡ dcs + 1
    one = omega arith

    by : (k ≡ suc dcs) ⊎ (k < suc dcs) → (k ≤ dcs → (rest : List NodeId) × (all_nodes dcs shards ≡ all_nodes k shards ++ rest)) → (rest : List NodeId) × (all_nodes (suc dcs) shards ≡ all_nodes k shards ++ rest)
    by (inl same) fewer = ([], sym (append-nil (all_nodes (suc dcs) shards)) ∙ ap (λ n. all_nodes n shards ++ []) (sym same))
    by (inr less) fewer =
        let before = fewer (omega arith) in (
          before.0 ++ nodes_of_data_centre shards dcs,
          ap (λ n. all_nodes n shards) one ∙ all_nodes-more dcs shards ∙ ap (λ ids. ids ++ nodes_of_data_centre shards dcs) before.1 ∙ append_assoc (all_nodes k shards) before.0 (nodes_of_data_centre shards dcs),
        )

-- ---- one more node, and one more data centre

module _ {S : Type 0} (answers : S → NodeId → ℕ → ℕ → NodeCall → NodeReply → S → Type 0) (slot moment : ℕ) (old mid new : S) where
  pub shard_counts : (start total count sum_of_all shard dc : ℕ) (reply : NodeReply) → CollectsAll answers slot moment start (nodes_of_data_centre shard dc) old mid (Ok total) →
      answers mid (record { dc = dc; shard = shard }) slot moment Collect reply new → reply ≡ Removed count → sum_of_all ≡ total + count →
      CollectsAll answers slot moment start (nodes_of_data_centre (shard + 1) dc) old new (Ok sum_of_all)
  shard_counts start total count sum_of_all shard dc reply first answer is sum_is =
      let id : NodeId = record { dc = dc; shard = shard } in
      let one = one_counts answers slot moment total count id mid new (subst (λ (r : NodeReply). answers mid id slot moment Collect r new) is answer) in
      let made = then_more answers slot moment start total (nodes_of_data_centre shard dc) (id ∷ []) old mid new (Ok (total + count)) first one in
      subst (λ (n : ℕ). CollectsAll answers slot moment start (nodes_of_data_centre (shard + 1) dc) old new (Ok n)) (sym sum_is)
      (subst (λ (ids : List NodeId). CollectsAll answers slot moment start ids old new (Ok (total + count))) (sym (nodes_of-more shard dc)) made)

  pub shard_stops : (start total shards shard dc : ℕ) (reply : NodeReply) (fault : Fault) → shard < shards → total < 2 ^ 64 → CollectsAll answers slot moment start (nodes_of_data_centre shard dc) old mid (Ok total) →
      answers mid (record { dc = dc; shard = shard }) slot moment Collect reply new → StopsAt total reply fault →
      CollectsAll answers slot moment start (nodes_of_data_centre shards dc) old new (Err fault)
  shard_stops start total shards shard dc reply fault within fits first answer stops =
      let id : NodeId = record { dc = dc; shard = shard } in
      let one = one_stops answers slot moment total id reply fault mid new fits answer stops in
      let made = then_more answers slot moment start total (nodes_of_data_centre shard dc) (id ∷ []) old mid new (Err fault) first one in
      let rest = nodes_of-rest (shard + 1) shards dc (omega arith) in
      let here = subst (λ (ids : List NodeId). CollectsAll answers slot moment start ids old new (Err fault)) (sym (nodes_of-more shard dc)) made in
      subst (λ (ids : List NodeId). CollectsAll answers slot moment start ids old new (Err fault)) (sym rest.1) (fault_ends answers slot moment start (nodes_of_data_centre (shard + 1) dc) rest.0 old new fault here)

  pub dc_counts : (total sum_of_all shards dc : ℕ) → CollectsAll answers slot moment 0 (all_nodes dc shards) old mid (Ok total) →
      CollectsAll answers slot moment total (nodes_of_data_centre shards dc) mid new (Ok sum_of_all) → CollectsAll answers slot moment 0 (all_nodes (dc + 1) shards) old new (Ok sum_of_all)
  dc_counts total sum_of_all shards dc first second =
      subst (λ (ids : List NodeId). CollectsAll answers slot moment 0 ids old new (Ok sum_of_all)) (sym (all_nodes-more dc shards))
      (then_more answers slot moment 0 total (all_nodes dc shards) (nodes_of_data_centre shards dc) old mid new (Ok sum_of_all) first second)

  pub dc_stops : (total dcs shards dc : ℕ) (fault : Fault) → dc < dcs → CollectsAll answers slot moment 0 (all_nodes dc shards) old mid (Ok total) →
      CollectsAll answers slot moment total (nodes_of_data_centre shards dc) mid new (Err fault) → CollectsAll answers slot moment 0 (all_nodes dcs shards) old new (Err fault)
  dc_stops total dcs shards dc fault within first second =
      let made = then_more answers slot moment 0 total (all_nodes dc shards) (nodes_of_data_centre shards dc) old mid new (Err fault) first second in
      let rest = all_nodes-rest (dc + 1) dcs shards (omega arith) in
      let here = subst (λ (ids : List NodeId). CollectsAll answers slot moment 0 ids old new (Err fault)) (sym (all_nodes-more dc shards)) made in
      subst (λ (ids : List NodeId). CollectsAll answers slot moment 0 ids old new (Err fault)) (sym rest.1) (fault_ends answers slot moment 0 (all_nodes (dc + 1) shards) rest.0 old new fault here)
