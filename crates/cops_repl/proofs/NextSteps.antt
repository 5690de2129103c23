-- What comes next after the replies of each stage.
use Rattle.std.proofs.Common.{◌≡◌, ℕ, zero, suc, ◌+◌, ◌<◌, ◌≤◌, Bool, true, false, List, [], ◌∷◌, ◌++◌, map, length, drop, refl, sym, ◌∙◌, ap, arith, append-nil, append_assoc}
use Rattle.std.proofs.lemmas.List.{replicate-append-replicate}
use Rattle.std.specs.Prelude.{Some, None, slice_get, replicate}
use Rattle.std.specs.List.{list_any}
use Rattle.std.specs.Option.{option_or}
use Rattle.cops_types.specs.declared.pairs.Pair.{Pair}
use Rattle.cops_types.specs.declared.records.EntryParts.{EntryParts as Entry}
use Rattle.cops_types.specs.Version.{Timestamp}
use Rattle.cops_model.specs.declared.calls.NodeCall.TheVariants.{Ack, Commit, DepCheck}
use Rattle.cops_model.specs.declared.calls.NodeReply.{NodeReply}
use Rattle.cops_model.specs.declared.calls.NodeReply.TheVariants.{Checked, Pulled, Committed, Already, Acked, NotFront}
use Rattle.cops_model.specs.Log.{Directed, Next, Call, Ended, call_or}
use Rattle.cops_model.specs.declared.deliveries.Delivery.{Delivery}
use Rattle.cops_model.specs.declared.deliveries.Delivery.TheVariants.{Carried}
use Rattle.cops_repl.specs.declared.stages.After.TheVariants.{Goes, Ends}
use Rattle.cops_repl.specs.declared.stages.Stage.TheVariants.{Pulling, Carrying, Stored}
use Rattle.cops_model.specs.Carrier.{Stream, ack_call, check, commit_call, end_of, first_end, is_acked, is_committed, is_foreign, next_after, pair_of_entry, pull, unless_end}
use Rattle.cops_repl.specs.Stands.{AsksNext, FollowsReply, reply_of_ack, reply_of_commit}

module _ (shards : ℕ) (stream : Stream) where
  -- ---- checks that were answered

  first_end-checked : (near : List Pair) (calls : List Directed) (k : ℕ) (rest : List NodeReply) → k ≤ length near →
      first_end shards stream (map (check shards stream) near ++ calls) (replicate k (Checked true) ++ rest) ≡ first_end shards stream (map (check shards stream) (drop k near) ++ calls) rest
  first_end-checked near calls zero rest within = refl
  first_end-checked [] calls (suc k) rest within = absurd (omega arith)
  first_end-checked (p ∷ near) calls (suc k) rest within = first_end-checked near calls k rest (omega arith)

  call-checked : (near : List Pair) (calls : List Directed) (k : ℕ) (rest : List NodeReply) → k ≤ length near →
      slice_get (map (check shards stream) near ++ calls) (length (replicate k (Checked true) ++ rest)) ≡ slice_get (map (check shards stream) (drop k near) ++ calls) (length rest)
  call-checked near calls zero rest within = refl
  call-checked [] calls (suc k) rest within = absurd (omega arith)
  call-checked (p ∷ near) calls (suc k) rest within = call-checked near calls k rest (omega arith)

  any-checked : (test : NodeReply → Bool) (k : ℕ) (rest : List NodeReply) → test (Checked true) ≡ false → list_any test (replicate k (Checked true) ++ rest) ≡ list_any test rest
  any-checked test zero rest no_check = refl
  any-checked test (suc k) rest no_check = rw no_check (any-checked test k rest no_check)

  -- the calls after the first checks
  abbrev left : Entry → ℕ → List Directed
  left entry k = map (check shards stream) (drop k entry.near) ++ commit_call stream entry ∷ ack_call stream entry ∷ []

  -- what comes next once the entry and its first checks are answered
  next-checked : (entry : Entry) (k : ℕ) (rest : List NodeReply) → is_foreign shards stream entry ≡ false → k ≤ length entry.near →
      next_after shards stream (Pulled entry ∷ (replicate k (Checked true) ++ rest))
      ≡ unless_end (first_end shards stream (left entry k) rest)
      (call_or (slice_get (left entry k) (length rest)) (Carried (pair_of_entry entry) (list_any is_committed rest) (list_any is_acked rest)))
  next-checked entry k rest own within =
      let calls = commit_call stream entry ∷ ack_call stream entry ∷ [] in
      rw own (λ i.
      unless_end (first_end-checked entry.near calls k rest within i)
      (call_or (call-checked entry.near calls k rest within i) (Carried (pair_of_entry entry) (any-checked is_committed k rest refl i) (any-checked is_acked k rest refl i))))

  -- ---- the next call of each stage

  pub asks_pull : AsksNext shards stream Pulling (pull stream)
  asks_pull replies led = ap (next_after shards stream) led

  drop-at : {A : Type 0} (xs : List A) (k : ℕ) (x : A) → slice_get xs k ≡ Some x → drop k xs ≡ x ∷ drop (suc k) xs
  drop-at [] k x is = cc
  drop-at (y ∷ ys) zero x is = let same : y ≡ x = cc in ap (λ z. z ∷ ys) same
  drop-at (y ∷ ys) (suc k) x is = drop-at ys k x is

  drop-all : {A : Type 0} (xs : List A) → drop (length xs) xs ≡ []
  drop-all [] = refl
  drop-all (x ∷ xs) = drop-all xs

  -- the calls from a check on
  left-check : (entry : Entry) (k : ℕ) (p : Pair) → slice_get entry.near k ≡ Some p → left entry k ≡ check shards stream p ∷ left entry (suc k)
  left-check entry k p is = ap (λ ps. map (check shards stream) ps ++ commit_call stream entry ∷ ack_call stream entry ∷ []) (drop-at entry.near k p is)

  -- the calls after all checks
  left-all : (entry : Entry) → left entry (length entry.near) ≡ commit_call stream entry ∷ ack_call stream entry ∷ []
  left-all entry = ap (λ ps. map (check shards stream) ps ++ commit_call stream entry ∷ ack_call stream entry ∷ []) (drop-all entry.near)

  -- what comes next from a stage, by the calls that are left and the replies since
  next-from : (entry : Entry) (k : ℕ) (calls : List Directed) (rest : List NodeReply) (replies : List NodeReply) → is_foreign shards stream entry ≡ false → k ≤ length entry.near →
      left entry k ≡ calls → replies ≡ Pulled entry ∷ (replicate k (Checked true) ++ rest) →
      next_after shards stream replies
      ≡ unless_end (first_end shards stream calls rest) (call_or (slice_get calls (length rest)) (Carried (pair_of_entry entry) (list_any is_committed rest) (list_any is_acked rest)))
  next-from entry k calls rest replies own within are led =
      ap (next_after shards stream) led
      ∙ next-checked entry k rest own within
      ∙ ap (λ cs. unless_end (first_end shards stream cs rest) (call_or (slice_get cs (length rest)) (Carried (pair_of_entry entry) (list_any is_committed rest) (list_any is_acked rest)))) are

  led-nothing : (entry : Entry) (k : ℕ) (replies : List NodeReply) → replies ≡ Pulled entry ∷ replicate k (Checked true) → replies ≡ Pulled entry ∷ (replicate k (Checked true) ++ [])
  led-nothing entry k replies led = led ∙ ap (λ rs. Pulled entry ∷ rs) (sym (append-nil (replicate k (Checked true))))

  led-one : (entry : Entry) (k : ℕ) (replies : List NodeReply) (reply : NodeReply) → replies ≡ Pulled entry ∷ replicate k (Checked true) → replies ++ reply ∷ [] ≡ Pulled entry ∷ (replicate k (Checked true) ++ reply ∷ [])
  led-one entry k replies reply led = ap (λ rs. rs ++ reply ∷ []) led

  led-two : (entry : Entry) (k : ℕ) (replies : List NodeReply) (first reply : NodeReply) → replies ≡ Pulled entry ∷ (replicate k (Checked true) ++ first ∷ []) →
      replies ++ reply ∷ [] ≡ Pulled entry ∷ (replicate k (Checked true) ++ first ∷ reply ∷ [])
  led-two entry k replies first reply led =
      ap (λ rs. rs ++ reply ∷ []) led ∙ ap (λ rs. Pulled entry ∷ rs) (append_assoc (replicate k (Checked true)) (first ∷ []) (reply ∷ []))

  pub asks_check : (entry : Entry) (k : ℕ) (p : Pair) → slice_get entry.near k ≡ Some p → AsksNext shards stream (Carrying entry k) (check shards stream p)
  asks_check entry k p is replies led =
      next-from entry k (check shards stream p ∷ left entry (suc k)) [] replies led.0 led.1 (left-check entry k p is) (led-nothing entry k replies led.2)

  pub asks_commit : (entry : Entry) → AsksNext shards stream (Carrying entry (length entry.near)) (commit_call stream entry)
  asks_commit entry replies led =
      next-from entry (length entry.near) (commit_call stream entry ∷ ack_call stream entry ∷ []) [] replies led.0 led.1 (left-all entry) (led-nothing entry (length entry.near) replies led.2)

  pub asks_acknowledge : (pair : Pair) (fresh : Bool) → AsksNext shards stream (Stored pair fresh) (record { node = stream.origin; call = Ack stream.to_dc pair.version })
  asks_acknowledge pair fresh replies led = by fresh led.3 ∙ ap (λ (p : Pair). Call (record { node = stream.origin; call = Ack stream.to_dc p.version })) (sym led.2)
    where
      by : (fresh : Bool) → replies ≡ Pulled led.0 ∷ (replicate (length led.0.near) (Checked true) ++ reply_of_commit fresh ∷ []) → next_after shards stream replies ≡ Call (ack_call stream led.0)
      by true is = next-from led.0 (length led.0.near) (commit_call stream led.0 ∷ ack_call stream led.0 ∷ []) (Committed ∷ []) replies led.1 (omega arith) (left-all led.0) is
      by false is = next-from led.0 (length led.0.near) (commit_call stream led.0 ∷ ack_call stream led.0 ∷ []) (Already ∷ []) replies led.1 (omega arith) (left-all led.0) is

  -- ---- what follows the reply

  -- a reply that brings an end is the end
  ended : (d : Directed) (reply : NodeReply) (rest : List NodeReply) (others : List Directed) (ending : Delivery) (next : Next Delivery) → end_of shards stream d.call reply ≡ Some ending →
      unless_end (first_end shards stream (d ∷ others) (reply ∷ rest)) next ≡ Ended ending
  ended d reply rest others ending next ends = ap (λ e. unless_end (option_or e (first_end shards stream others rest)) next) ends

  pub ends_check : (entry : Entry) (k : ℕ) (p : Pair) (reply : NodeReply) (ending : Delivery) → slice_get entry.near k ≡ Some p → end_of shards stream (DepCheck p.key p.version) reply ≡ Some ending →
      FollowsReply shards stream (Carrying entry k) reply (Ends ending)
  ends_check entry k p reply ending is ends replies led =
      next-from entry k (check shards stream p ∷ left entry (suc k)) (reply ∷ []) (replies ++ reply ∷ []) led.0 led.1 (left-check entry k p is) (led-one entry k replies reply led.2)
      ∙ ended (check shards stream p) reply [] (left entry (suc k)) ending
      (call_or (slice_get (check shards stream p ∷ left entry (suc k)) 1) (Carried (pair_of_entry entry) (list_any is_committed (reply ∷ [])) (list_any is_acked (reply ∷ []))))
      ends

  pub ends_commit : (entry : Entry) (reply : NodeReply) (ending : Delivery) → end_of shards stream (Commit entry) reply ≡ Some ending →
      FollowsReply shards stream (Carrying entry (length entry.near)) reply (Ends ending)
  ends_commit entry reply ending ends replies led =
      next-from entry (length entry.near) (commit_call stream entry ∷ ack_call stream entry ∷ []) (reply ∷ []) (replies ++ reply ∷ []) led.0 led.1 (left-all entry) (led-one entry (length entry.near) replies reply led.2)
      ∙ ended (commit_call stream entry) reply [] (ack_call stream entry ∷ []) ending
      (call_or (Some (ack_call stream entry)) (Carried (pair_of_entry entry) (list_any is_committed (reply ∷ [])) (list_any is_acked (reply ∷ []))))
      ends

  -- a check that brings no end found the pair committed
  no_end_check : (key : List ℕ) (version : Timestamp) (reply : NodeReply) → end_of shards stream (DepCheck key version) reply ≡ None → reply ≡ Checked true
  no_end_check key version (Checked true) none = refl
  no_end_check key version reply none = cc

  pub goes_check : (entry : Entry) (k : ℕ) (p : Pair) (reply : NodeReply) → k < length entry.near → end_of shards stream (DepCheck p.key p.version) reply ≡ None →
      FollowsReply shards stream (Carrying entry k) reply (Goes (Carrying entry (k + 1)))
  goes_check entry k p reply within none replies led = (
    led.0,
    omega arith,
    led-one entry k replies reply led.2
        ∙ ap (λ r. Pulled entry ∷ (replicate k (Checked true) ++ r ∷ [])) (no_end_check p.key p.version reply none)
        ∙ ap (λ rs. Pulled entry ∷ rs) (replicate-append-replicate k 1 (Checked true)),
  )

  -- the calls from the commit_call on, after a reply to it
  after-commit : (fresh : Bool) (entry : Entry) (reply : NodeReply) (ending : Delivery) → is_foreign shards stream entry ≡ false → end_of shards stream (Ack stream.to_dc entry.version) reply ≡ Some ending →
      (replies : List NodeReply) → replies ≡ Pulled entry ∷ (replicate (length entry.near) (Checked true) ++ reply_of_commit fresh ∷ []) → next_after shards stream (replies ++ reply ∷ []) ≡ Ended ending
  after-commit true entry reply ending own ends replies led =
      next-from entry (length entry.near) (commit_call stream entry ∷ ack_call stream entry ∷ []) (Committed ∷ reply ∷ []) (replies ++ reply ∷ []) own (omega arith) (left-all entry)
      (led-two entry (length entry.near) replies Committed reply led)
      ∙ ended (ack_call stream entry) reply [] [] ending
      (call_or None (Carried (pair_of_entry entry) (list_any is_committed (Committed ∷ reply ∷ [])) (list_any is_acked (Committed ∷ reply ∷ []))))
      ends
  after-commit false entry reply ending own ends replies led =
      next-from entry (length entry.near) (commit_call stream entry ∷ ack_call stream entry ∷ []) (Already ∷ reply ∷ []) (replies ++ reply ∷ []) own (omega arith) (left-all entry)
      (led-two entry (length entry.near) replies Already reply led)
      ∙ ended (ack_call stream entry) reply [] [] ending
      (call_or None (Carried (pair_of_entry entry) (list_any is_committed (Already ∷ reply ∷ [])) (list_any is_acked (Already ∷ reply ∷ []))))
      ends

  pub ends_acknowledge : (pair : Pair) (fresh : Bool) (reply : NodeReply) (ending : Delivery) → end_of shards stream (Ack stream.to_dc pair.version) reply ≡ Some ending →
      FollowsReply shards stream (Stored pair fresh) reply (Ends ending)
  ends_acknowledge pair fresh reply ending ends replies led =
      after-commit fresh led.0 reply ending led.1 (ap (λ (p : Pair). end_of shards stream (Ack stream.to_dc p.version) reply) (sym led.2) ∙ ends) replies led.3

  pub acknowledged : (pair : Pair) (fresh acked : Bool) → FollowsReply shards stream (Stored pair fresh) (reply_of_ack acked) (Ends (Carried pair fresh acked))
  acknowledged pair fresh acked replies led = by fresh acked led.3 ∙ ap (λ p. Ended (Carried p fresh acked)) (sym led.2)
    where
      from : (first reply : NodeReply) → replies ≡ Pulled led.0 ∷ (replicate (length led.0.near) (Checked true) ++ first ∷ []) →
          next_after shards stream (replies ++ reply ∷ [])
          ≡ unless_end (first_end shards stream (commit_call stream led.0 ∷ ack_call stream led.0 ∷ []) (first ∷ reply ∷ []))
          (call_or None (Carried (pair_of_entry led.0) (list_any is_committed (first ∷ reply ∷ [])) (list_any is_acked (first ∷ reply ∷ []))))
      from first reply is =
          next-from led.0 (length led.0.near) (commit_call stream led.0 ∷ ack_call stream led.0 ∷ []) (first ∷ reply ∷ []) (replies ++ reply ∷ []) led.1 (omega arith) (left-all led.0)
          (led-two led.0 (length led.0.near) replies first reply is)

      by : (fresh acked : Bool) → replies ≡ Pulled led.0 ∷ (replicate (length led.0.near) (Checked true) ++ reply_of_commit fresh ∷ []) →
          next_after shards stream (replies ++ reply_of_ack acked ∷ []) ≡ Ended (Carried (pair_of_entry led.0) fresh acked)
      by true true is = from Committed Acked is
      by true false is = from Committed NotFront is
      by false true is = from Already Acked is
      by false false is = from Already NotFront is
