-- The steps of carriers and the collections keep that all is traced to its put.
use Rattle.std.proofs.Common.{◌≡◌, ℕ, ◌<◌, true, List, [], ◌∷◌, drop, inl, inr, refl, sym, subst}
use Rattle.std.specs.Prelude.{Option, Some, None, zero, suc, nat_lt, slice_index, ◌==◌}
use Rattle.std.specs.List.{AllByRecursion}
use Rattle.cops_types.specs.declared.pairs.Pair.{Pair}
use Rattle.cops_types.specs.declared.records.EntryParts.{EntryParts as Entry}
use Rattle.cops_types.specs.TenantConfig.{TenantConfig}
use Rattle.cops_types.specs.Version.{Timestamp}
use Rattle.cops_model.specs.declared.calls.NodeCall.TheVariants as node_call
use Rattle.cops_model.specs.declared.calls.NodeId.{NodeId}
use Rattle.cops_model.specs.declared.calls.NodeReply.{NodeReply}
use Rattle.cops_model.specs.declared.calls.NodeReply.TheVariants.{Pulled}
use Rattle.cops_model.specs.Log.{LogStep, Replied, Directed, Call}
use Rattle.cops_model.specs.Place.{Place, node_number, own_number, place_of}
use Rattle.cops_model.specs.SoloNode.{SoloNode, issued, queue, front}
use Rattle.cops_model.specs.Step.{reply_pull}
use Rattle.cops_model.specs.Carrier.{Carrier, ack_call, carrier_after, check, commit_call}
use Rattle.cops_model.specs.Carrier as carrier
use Rattle.cops_model.specs.Causal.{Traced}
use Rattle.cops_model.specs.Cluster.{SoloCluster, OfCarrier, find_actor, has_node, call_node, carrier_stepped}
use Rattle.cops_causal.proofs.ActorsKeep.{actor_found, carried_to, known-carried}
use Rattle.cops_repl.proofs.CarrierCalls.{IsCallOf, IsPull, IsCheck, IsCommit, IsAck, carrier_call, carrier_replies, each_reply}
use Rattle.cops_types.proofs.Elements.{Among, Among-filter, Every-at, Every-append, and_right, and_true}
use Rattle.cops_node.proofs.NodeTurns.{entries, Stores, Change, IsRefused, Answers, Joined, Taken}
use Rattle.cops_causal.proofs.NodeEffects.{node_of, call_changes}
use Rattle.cops_causal.proofs.Provenance.{IsPutEntry, IsPulled, IsTraced, IsActor, IsCarrier, HoldPuts, IsActorAt}
use Rattle.cops_causal.proofs.TracedCalls.{traced-call, home-there}

drop-Among : {A : Type 0} (n : ℕ) (xs : List A) (x : A) → Among x (drop n xs) → Among x xs
drop-Among zero xs x there = there
drop-Among (suc n) [] x there = absurd there
drop-Among (suc n) (y ∷ xs) x there = inr (drop-Among n xs x there)

front-Among : (es : List Entry) (e : Entry) → front es ≡ Some e → Among e es
front-Among [] e is = cc
front-Among (f ∷ es) e is = inl cc

-- the head of a queue is among the entries
pub queued : (place : Place) (dc : ℕ) (solo : SoloNode) (e : Entry) → front (queue place dc solo) ≡ Some e → Among e (entries solo)
queued place dc solo e is =
    (Among-filter (λ (e : Entry). e.version.node == own_number place) e (entries solo)
    (drop-Among (slice_index solo.acked dc) (issued place solo) e (front-Among (queue place dc solo) e is))).0

module _ (config : TenantConfig) (c : SoloCluster) (ts : List Traced) (inv : IsTraced config c ts) where
  pulled_front : (place : Place) (dc : ℕ) (solo : SoloNode) → AllByRecursion (IsPutEntry ts) (entries solo) → (o : Option Entry) → front (queue place dc solo) ≡ o → IsPulled ts (Replied (reply_pull o))
  pulled_front place dc solo are (Some e) is = Every-at (IsPutEntry ts) e (entries solo) are (queued place dc solo e is)
  pulled_front place dc solo are None is = tt

  abbrev Well : NodeReply → Type 0
  Well reply = IsPulled ts (Replied reply)

  pull_well : (place : Place) (dc : ℕ) (solo after : SoloNode) (reply : NodeReply) → AllByRecursion (IsPutEntry ts) (entries solo) → Change place (node_call.Pull dc) solo reply after → Well reply
  pull_well place dc solo after reply are (IsRefused same acked is) = subst Well (sym is.1) tt
  pull_well place dc solo after reply are (Answers same acked is) = subst Well (sym is) (pulled_front place dc solo are (front (queue place dc solo)) refl)
  pull_well place dc solo after reply are (Joined e more acked is) = absurd is
  pull_well place dc solo after reply are (Taken same is) = absurd is

  check_well : (place : Place) (p : Pair) (solo after : SoloNode) (reply : NodeReply) → Change place (node_call.DepCheck p.key p.version) solo reply after → Well reply
  check_well place p solo after reply (IsRefused same acked is) = subst Well (sym is.1) tt
  check_well place p solo after reply (Answers same acked is) = subst Well (sym is) tt
  check_well place p solo after reply (Joined e more acked is) = absurd is
  check_well place p solo after reply (Taken same is) = absurd is

  commit_well : (place : Place) (e : Entry) (solo after : SoloNode) (reply : NodeReply) → Change place (node_call.Commit e) solo reply after → Well reply
  commit_well place e solo after reply (IsRefused same acked is) = subst Well (sym is.1) tt
  commit_well place e solo after reply (Answers same acked (inl is)) = subst Well (sym is.0) tt
  commit_well place e solo after reply (Answers same acked (inr is)) = subst Well (sym is.0) tt
  commit_well place e solo after reply (Joined f more acked is) = subst Well (sym is.0) tt
  commit_well place e solo after reply (Taken same is) = absurd is

  ack_well : (place : Place) (dc : ℕ) (v : Timestamp) (solo after : SoloNode) (reply : NodeReply) → Change place (node_call.Ack dc v) solo reply after → Well reply
  ack_well place dc v solo after reply (IsRefused same acked is) = subst Well (sym is.1) tt
  ack_well place dc v solo after reply (Answers same acked is) = subst Well (sym is) tt
  ack_well place dc v solo after reply (Joined e more acked is) = absurd is
  ack_well place dc v solo after reply (Taken same is) = subst Well (sym is.3) tt

  pub traced-collected : (id : NodeId) (moment : ℕ) → has_node config id.dc id.shard ≡ true → IsTraced config (call_node config id moment node_call.Collect c).after ts
  traced-collected id moment there = traced-call (call_changes config c id moment node_call.Collect there inv.sized) ts (λ e stores. absurd stores) inv

  module _ (name : List ℕ) (k : Carrier) (found : find_actor name c ≡ Some (OfCarrier k)) where
    abbrev is_carrier : IsCarrier config ts k
    is_carrier = actor_found (IsActor config ts) c name (OfCarrier k) inv.actors_are found

    -- what a call of the carrier is to show
    record GoesWell (moment : ℕ) (directed : Directed) : Type 0 where
      pub there : has_node config directed.node.dc directed.node.shard ≡ true
      pub stores_put : (reply : NodeReply) (e : Entry) → Stores (place_of config directed.node) directed.call (node_of config c (node_number config.shards directed.node)) reply e → IsPutEntry ts e
      pub replies_well : (reply : NodeReply) (after : SoloNode) → Change (place_of config directed.node) directed.call (node_of config c (node_number config.shards directed.node)) reply after → Well reply

    pulled_put : (e : Entry) → Among (Pulled e) (carrier_replies k.log) → IsPutEntry ts e
    pulled_put e there = each_reply (IsPulled ts) k.log is_carrier.pulled (Pulled e) there

    goes_well : 0 < config.shards → (moment : ℕ) (directed : Directed) → IsCallOf config.shards k.stream (carrier_replies k.log) directed → GoesWell moment directed
    goes_well some moment directed (IsPull is) =
        subst (GoesWell moment) (sym is) (record {
          there = is_carrier.stream_is.origin_is;
          stores_put = λ reply e stores. absurd stores;
          replies_well = λ reply after change. pull_well (place_of config k.stream.origin) k.stream.to_dc (node_of config c (node_number config.shards k.stream.origin)) after reply (inv.entries_are (node_number config.shards k.stream.origin)) change;
        })
    goes_well some moment directed (IsCheck e near pulled among is) =
        let call = check config.shards k.stream near in
        subst (GoesWell moment) (sym is) (record {
          there = home-there config k.stream.to_dc near.key some is_carrier.stream_is.to_is;
          stores_put = λ reply e stores. absurd stores;
          replies_well = λ reply after change. check_well (place_of config call.node) near (node_of config c (node_number config.shards call.node)) after reply change;
        })
    goes_well some moment directed (IsCommit e pulled is) =
        let call = commit_call k.stream e in
        subst (GoesWell moment) (sym is) (record {
          there = and_true (nat_lt k.stream.to_dc config.data_centres) (nat_lt k.stream.origin.shard config.shards) is_carrier.stream_is.to_is
              (and_right (nat_lt k.stream.origin.dc config.data_centres) (nat_lt k.stream.origin.shard config.shards) is_carrier.stream_is.origin_is);
          stores_put = λ reply f stores. subst (IsPutEntry ts) (sym stores.1) (pulled_put e pulled);
          replies_well = λ reply after change. commit_well (place_of config call.node) e (node_of config c (node_number config.shards call.node)) after reply change;
        })
    goes_well some moment directed (IsAck e pulled is) =
        let call = ack_call k.stream e in
        subst (GoesWell moment) (sym is) (record {
          there = is_carrier.stream_is.origin_is;
          stores_put = λ reply f stores. absurd stores;
          replies_well = λ reply after change. ack_well (place_of config call.node) k.stream.to_dc e.version (node_of config c (node_number config.shards call.node)) after reply change;
        })

    pub traced-carrier_called : 0 < config.shards → (moment : ℕ) (directed : Directed) → carrier.carrier_next config.shards k.stream k.log ≡ Call directed →
        let call = call_node config directed.node moment directed.call c in
        let step : LogStep = record { moment = moment; outcome = Replied call.reply } in
        IsTraced config (carrier_stepped name (carrier_after k step) (carrier.delivery_progress config.shards k step) call.after).after ts
    traced-carrier_called some moment directed e =
        let well = goes_well some moment directed (carrier_call config.shards k.stream k.log directed e) in
        let call = call_node config directed.node moment directed.call c in
        let step : LogStep = record { moment = moment; outcome = Replied call.reply } in
        let called = call_changes config c directed.node moment directed.call well.there inv.sized in
        let traced = traced-call called ts (well.stores_put call.reply) inv in
        let next = carrier_after k step in
        record {
          stands = carried_to (HoldPuts config) (IsActorAt config) call.after ts traced.stands name next (carrier.carrier_next config.shards next.stream next.log) (λ open_still. record {
            stream_is = is_carrier.stream_is;
            pulled = Every-append (λ (s : LogStep). IsPulled ts s.outcome) k.log (step ∷ []) is_carrier.pulled (well.replies_well call.reply (node_of config call.after (node_number config.shards directed.node)) called.change, tt);
          });
          known = λ t at. known-carried call.after name t.operation.session k next (carrier.carrier_next config.shards next.stream next.log) found (traced.known t at);
        }
