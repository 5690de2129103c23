-- How far a carrier has come, with what its replies say.
use Rattle.std.proofs.Common.{◌≡◌, ℕ, true, false, List, [], ◌∷◌, ◌++◌, map, length, ◌⊎◌, inl, inr, refl, sym, subst}
use Rattle.std.specs.Prelude.{Option, Some, None, slice_get}
use Rattle.std.specs.List.{AllByRecursion}
use Rattle.std.specs.Option.{option_or}
use Rattle.std.proofs.lemmas.List.Elements.{filter_map-append}
use Rattle.cops_types.specs.declared.pairs.Pair.{Pair}
use Rattle.cops_types.specs.declared.records.EntryParts.{EntryParts as Entry}
use Rattle.cops_model.specs.declared.calls.NodeCall.TheVariants as node_call
use Rattle.cops_model.specs.declared.calls.NodeReply.{NodeReply}
use Rattle.cops_model.specs.declared.calls.NodeReply.TheVariants.{Checked, Pulled, Committed, Already, OutOfOrder}
use Rattle.cops_model.specs.Log.{LogStep, Replied, reply_in, Directed}
use Rattle.cops_model.specs.declared.deliveries.Delivery.{Delivery}
use Rattle.cops_model.specs.Carrier.{Stream, ack_call, check, commit_call, end_of, first_end, pull, stream_calls}
use Rattle.cops_repl.proofs.CarrierCalls.{carrier_replies, NextOf, delivery}
use Rattle.cops_types.proofs.Elements.{Among}
use Rattle.cops_types.proofs.Zipped.{Zipped, Zipped-push}

-- ---- replies that bring no end

pub no_end_first : (a b : Option Delivery) → option_or a b ≡ None → a ≡ None
no_end_first None b e = refl
no_end_first (Some x) b e = cc

no_end_rest : (a b : Option Delivery) → option_or a b ≡ None → b ≡ None
no_end_rest None b e = e
no_end_rest (Some x) b e = cc

-- a check was answered by yes
checked : (shards : ℕ) (stream : Stream) (p : Pair) (r : NodeReply) → end_of shards stream (node_call.DepCheck p.key p.version) r ≡ None → r ≡ Checked true
checked shards stream p (Checked true) e = refl
checked shards stream p (Checked false) e = cc
checked shards stream p r e = cc

-- a commit_call was answered by Committed or Already
arrived : (shards : ℕ) (stream : Stream) (entry : Entry) (r : NodeReply) → end_of shards stream (node_call.Commit entry) r ≡ None → (r ≡ Committed) ⊎ (r ≡ Already)
arrived shards stream entry Committed e = inl refl
arrived shards stream entry Already e = inr refl
arrived shards stream entry (OutOfOrder mark) e = cc
arrived shards stream entry r e = cc

module _ (R : Directed → NodeReply → Type 0) (shards : ℕ) (stream : Stream) where
  -- what a carrier with an entry does next
  pub data InDelivery (e : Entry) (next : Directed) : Type 0 where
    Checking : (near : Pair) → Among near e.near → next ≡ check shards stream near → InDelivery e next
    Committing : AllByRecursion (λ near. R (check shards stream near) (Checked true)) e.near → next ≡ commit_call stream e → InDelivery e next
    Acking : (r : NodeReply) → R (commit_call stream e) r → (r ≡ Committed) ⊎ (r ≡ Already) → next ≡ ack_call stream e → InDelivery e next

  pub data Stage (next : Directed) : Type 0 where
    Pulling : next ≡ pull stream → Stage next
    Delivering : (e : Entry) → R (pull stream) (Pulled e) → InDelivery e next → Stage next

  -- once all checks are made
  after_checks : (e : Entry) (next : Directed) (rs : List NodeReply) → slice_get (commit_call stream e ∷ ack_call stream e ∷ []) (length rs) ≡ Some next → Zipped R (commit_call stream e ∷ ack_call stream e ∷ []) rs →
      first_end shards stream (commit_call stream e ∷ ack_call stream e ∷ []) rs ≡ None → AllByRecursion (λ near. R (check shards stream near) (Checked true)) e.near → InDelivery e next
  after_checks e next [] at z no_end near = Committing near (let both : Some (commit_call stream e) ≡ Some next = at in cc)
  after_checks e next (r ∷ []) at z no_end near =
      Acking r z.0 (arrived shards stream e r (no_end_first (end_of shards stream (node_call.Commit e) r) None no_end)) (let both : Some (ack_call stream e) ≡ Some next = at in cc)
  after_checks e next (r ∷ s ∷ rs) at z no_end near = let never : None ≡ Some next = at in cc

  abbrev last_calls : Entry → List Directed
  last_calls e = commit_call stream e ∷ ack_call stream e ∷ []

  in_checks : (e : Entry) (next : Directed) (left : List Pair) (rs : List NodeReply) → ((near : Pair) → Among near left → Among near e.near) →
      slice_get (map (check shards stream) left ++ last_calls e) (length rs) ≡ Some next → Zipped R (map (check shards stream) left ++ last_calls e) rs →
      first_end shards stream (map (check shards stream) left ++ last_calls e) rs ≡ None →
      (AllByRecursion (λ near. R (check shards stream near) (Checked true)) left → AllByRecursion (λ near. R (check shards stream near) (Checked true)) e.near) → InDelivery e next
  in_checks e next [] rs among at z no_end near = after_checks e next rs at z no_end (near tt)
  in_checks e next (p ∷ left) [] among at z no_end near = Checking p (among p (inl refl)) (let both : Some (check shards stream p) ≡ Some next = at in cc)
  in_checks e next (p ∷ left) (r ∷ rs) among at z no_end near =
      let rest = first_end shards stream (map (check shards stream) left ++ last_calls e) rs in
      let first = end_of shards stream (node_call.DepCheck p.key p.version) r in
      let yes = checked shards stream p r (no_end_first first rest no_end) in
      in_checks e next left rs (λ q there. among q (inr there)) at z.1 (no_end_rest first rest no_end) (λ later. near (subst (R (check shards stream p)) yes z.0, later))

  pulled_only : (next : Directed) (r : NodeReply) (rs : List NodeReply) → slice_get (pull stream ∷ []) (length (r ∷ rs)) ≡ Some next → Stage next
  pulled_only next r rs at = let never : None ≡ Some next = at in cc

  stage_of : (next : Directed) (rs : List NodeReply) → slice_get (stream_calls shards stream rs) (length rs) ≡ Some next → Zipped R (stream_calls shards stream rs) rs → first_end shards stream (stream_calls shards stream rs) rs ≡ None → Stage next
  stage_of next [] at z no_end = Pulling (let both : Some (pull stream) ≡ Some next = at in cc)
  stage_of next (Pulled e ∷ rs) at z no_end =
      Delivering e z.0 (in_checks e next e.near rs (λ p there. there) at z.1
      (no_end_rest (end_of shards stream (node_call.Pull stream.to_dc) (Pulled e)) (first_end shards stream (delivery shards stream e) rs) no_end) (λ all. all))
  stage_of next (r ∷ rs) at z no_end = pulled_only next r rs at

  pub stage : (log : List LogStep) (next : Directed) → NextOf shards stream log next → Zipped R (stream_calls shards stream (carrier_replies log)) (carrier_replies log) → Stage next
  stage log next is z = stage_of next (carrier_replies log) is.place z is.no_end

  -- one more reply
  none : (qs : List Directed) → Zipped R qs []
  none [] = tt
  none (q ∷ qs) = tt

  first_reply : (r : NodeReply) → R (pull stream) r → Zipped R (stream_calls shards stream (r ∷ [])) (r ∷ [])
  first_reply (Pulled e) new = (new, none (delivery shards stream e))
  first_reply r new = (new, tt)

  next_reply : (rs : List NodeReply) (next : Directed) (r : NodeReply) → Zipped R (stream_calls shards stream rs) rs → slice_get (stream_calls shards stream rs) (length rs) ≡ Some next → R next r →
      Zipped R (stream_calls shards stream (rs ++ r ∷ [])) (rs ++ r ∷ [])
  next_reply [] next r z at new = let same : pull stream ≡ next = (let both : Some (pull stream) ≡ Some next = at in cc) in first_reply r (subst (λ d. R d r) (sym same) new)
  next_reply (Pulled e ∷ rs) next r z at new = Zipped-push R (pull stream ∷ delivery shards stream e) (Pulled e ∷ rs) next r z at new
  next_reply (s ∷ rs) next r z at new = Zipped-push R (pull stream ∷ []) (s ∷ rs) next r z at new

  pub carrier-stepped : (log : List LogStep) (moment : ℕ) (next : Directed) (r : NodeReply) → Zipped R (stream_calls shards stream (carrier_replies log)) (carrier_replies log) → NextOf shards stream log next → R next r →
      let rs = carrier_replies (log ++ record { moment = moment; outcome = Replied r } ∷ []) in Zipped R (stream_calls shards stream rs) rs
  carrier-stepped log moment next r z is new =
      subst (λ rs. Zipped R (stream_calls shards stream rs) rs) (sym (filter_map-append (λ (s : LogStep). reply_in s.outcome) log (record { moment = moment; outcome = Replied r } ∷ [])))
      (next_reply (carrier_replies log) next r z is.place new)

  pub carrier-begun : Zipped R (stream_calls shards stream []) []
  carrier-begun = tt
