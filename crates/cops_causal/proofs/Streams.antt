-- Each move keeps the streams: nodes hold fronts of what origins issued, and carriers bring what comes next.
use Rattle.std.proofs.Common.{◌≡◌, ℕ, ◌+◌, ◌<◌, ◌≤◌, true, List, [], ◌∷◌, ◌++◌, length, inl, inr, refl, sym, ◌∙◌, ap, subst, arith, length-append, append-nil}
use Rattle.std.specs.Prelude.{Some, zero, suc, max, slice_get, ◌==◌}
use Rattle.std.proofs.lemmas.Bool.Decides.{nat_tests}
use Rattle.std.proofs.lemmas.List.{map-append}
use Rattle.std.proofs.lemmas.List.Elements.{filter-append}
use Rattle.cops_types.specs.declared.pairs.Pair.{Pair}
use Rattle.cops_types.specs.declared.records.EntryParts.{EntryParts as Entry}
use Rattle.cops_types.specs.Key.{shard_of}
use Rattle.cops_types.specs.Pairs.{greatest_clock}
use Rattle.cops_types.specs.Records.{clock}
use Rattle.cops_types.specs.TenantConfig.{TenantConfig}
use Rattle.cops_types.specs.Version.{Timestamp, no_version, version_lt, version_le, version_max, greatest}
use Rattle.cops_types.proofs.VersionOrder.{greatest-append, version_le-trans, version_max-left}
use Rattle.cops_model.specs.declared.calls.NodeCall.{NodeCall}
use Rattle.cops_model.specs.declared.calls.NodeCall.TheVariants as node_call
use Rattle.cops_model.specs.declared.calls.NodeId.{NodeId}
use Rattle.cops_model.specs.declared.calls.NodeReply.{NodeReply}
use Rattle.cops_model.specs.declared.calls.NodeReply.TheVariants.{Checked, Pulled, Committed, Already}
use Rattle.cops_model.specs.Log.{Directed}
use Rattle.cops_model.specs.Place.{node_number, own_number, place_of}
use Rattle.cops_model.specs.Step.{was_committed}
use Rattle.cops_model.specs.Carrier.{Stream, pair_of_entry, stream_calls}
use Rattle.cops_model.specs.Causal.{Traced}
use Rattle.cops_model.specs.Cluster.{SoloCluster, NamedActor, Actor, OfSession, OfCarrier}
use Rattle.cops_causal.proofs.ActorsKeep.{EachActor}
use Rattle.cops_repl.proofs.CarrierCalls.{carrier_replies}
use Rattle.cops_node.proofs.Chains.{of_origin, last_version, versions, chain-greatest, mark-is}
use Rattle.cops_types.proofs.Elements.{Among, Among-filter, Every-weaker, Among-map}
use Rattle.cops_node.proofs.NodeTurns.{entries, Stores}
use Rattle.cops_causal.proofs.NodeEffects.{node_of, Called, entries_grow}
use Rattle.cops_causal.proofs.Offers.{IsOffered, IsArrived, origin_of, end_of}
use Rattle.cops_types.proofs.Zipped.{Zipped}
use Rattle.cops_causal.proofs.StreamNodes.{held, IsStreamed, MayJoin, AsIssued}
use Rattle.cops_causal.proofs.TracedCalls.{clock-above, next-above, actors_stay}

-- what the reply to a carrier's call tells
abbrev pub DeliveredBy : TenantConfig → SoloCluster → Stream → NodeCall → NodeReply → Type 0
DeliveredBy config c stream (node_call.Pull dc) (Pulled e) = IsOffered config c stream e
DeliveredBy config c stream (node_call.Commit e) Committed = IsArrived config c stream e
DeliveredBy config c stream (node_call.Commit e) Already = IsArrived config c stream e
DeliveredBy config c stream (node_call.DepCheck key version) (Checked true) =
    was_committed version (node_of config c (node_number config.shards (record { dc = stream.to_dc; shard = shard_of key config.shards }))) ≡ true
DeliveredBy config c stream call reply = Unit {0}

abbrev pub Delivered : TenantConfig → SoloCluster → Stream → Directed → NodeReply → Type 0
Delivered config c stream directed reply = DeliveredBy config c stream directed.call reply

abbrev pub OnStream : TenantConfig → SoloCluster → List ℕ → Actor → Type 0
OnStream config c name (OfSession s) = Unit {0}
OnStream config c name (OfCarrier k) = Zipped (Delivered config c k.stream) (stream_calls config.shards k.stream (carrier_replies k.log)) (carrier_replies k.log)

pub record IsFlowing (config : TenantConfig) (c : SoloCluster) (ts : List Traced) : Type 0 where
  pub streamed : IsStreamed config c
  pub carriers : EachActor (OnStream config c) c

-- ---- more entries take nothing back

get-append : {A : Type 0} (xs ys : List A) (i : ℕ) (x : A) → slice_get xs i ≡ Some x → slice_get (xs ++ ys) i ≡ Some x
get-append [] ys i x at = cc
get-append (z ∷ xs) ys zero x at = at
get-append (z ∷ xs) ys (suc i) x at = get-append xs ys i x at

module _ (config : TenantConfig) (c after : SoloCluster) (grows : (n : ℕ) → (more : List Entry) × (entries (node_of config after n) ≡ entries (node_of config c n) ++ more)) where
  held-grown : (n m : ℕ) → (more : List Entry) × (held config after n m ≡ held config c n m ++ more)
  held-grown n m = let grown = grows n in (of_origin m grown.0, ap (of_origin m) grown.1 ∙ filter-append (λ (e : Entry). e.version.node == m) (entries (node_of config c n)) grown.0)

  longer : (n m : ℕ) → length (held config c n m) ≤ length (held config after n m)
  longer n m = let grown = held-grown n m in let counted = ap length grown.1 ∙ length-append (held config c n m) grown.0 in omega arith

  pub still_at : (n m i : ℕ) (e : Entry) → slice_get (held config c n m) i ≡ Some e → slice_get (held config after n m) i ≡ Some e
  still_at n m i e at = let grown = held-grown n m in subst (λ es. slice_get es i ≡ Some e) (sym grown.1) (get-append (held config c n m) grown.0 i e at)

  pub committed-grown : (n : ℕ) (v : Timestamp) → was_committed v (node_of config c n) ≡ true → was_committed v (node_of config after n) ≡ true
  committed-grown n v was =
      let grown = held-grown n v.node in
      let old = greatest (versions (held config c n v.node)) in
      let new = greatest (versions grown.0) in
      let below : version_le v old ≡ true = ap (version_le v) (sym (mark-is v.node (node_of config c n))) ∙ was in
      ap (version_le v) (mark-is v.node (node_of config after n) ∙ ap (λ es. greatest (versions es)) grown.1
      ∙ ap greatest (map-append (λ (e : Entry). e.version) (held config c n v.node) grown.0) ∙ greatest-append (versions (held config c n v.node)) (versions grown.0))
      ∙ version_le-trans v old (version_max old new) below (version_max-left old new)

  pub offered-grown : (stream : Stream) (e : Entry) → IsOffered config c stream e → IsOffered config after stream e
  offered-grown stream e is =
      record { place = is.place; at = still_at (origin_of config stream) (origin_of config stream) is.place e is.at; within = (let more = longer (end_of config stream) (origin_of config stream) in let w = is.within in omega arith) }

  pub arrived-grown : (stream : Stream) (e : Entry) → IsArrived config c stream e → IsArrived config after stream e
  arrived-grown stream e is =
      record { place = is.place; at = still_at (origin_of config stream) (origin_of config stream) is.place e is.at; within = (let more = longer (end_of config stream) (origin_of config stream) in let w = is.within in omega arith) }

  delivered-grown : (stream : Stream) (call : NodeCall) (reply : NodeReply) → DeliveredBy config c stream call reply → DeliveredBy config after stream call reply
  delivered-grown stream (node_call.Pull dc) (Pulled e) is = offered-grown stream e is
  delivered-grown stream (node_call.Commit e) Committed is = arrived-grown stream e is
  delivered-grown stream (node_call.Commit e) Already is = arrived-grown stream e is
  delivered-grown stream (node_call.DepCheck key version) (Checked true) is = committed-grown (node_number config.shards (record { dc = stream.to_dc; shard = shard_of key config.shards })) version is
  delivered-grown stream call reply is = tt

  zipped-grown : (stream : Stream) (calls : List Directed) (rs : List NodeReply) → Zipped (Delivered config c stream) calls rs → Zipped (Delivered config after stream) calls rs
  zipped-grown stream [] rs z = tt
  zipped-grown stream (d ∷ calls) [] z = tt
  zipped-grown stream (d ∷ calls) (r ∷ rs) z = (delivered-grown stream d.call r z.0, zipped-grown stream calls rs z.1)

  pub on_stream-grown : (name : List ℕ) (a : Actor) → OnStream config c name a → OnStream config after name a
  on_stream-grown name (OfSession s) is = tt
  on_stream-grown name (OfCarrier k) is = zipped-grown k.stream (stream_calls config.shards k.stream (carrier_replies k.log)) (carrier_replies k.log) is

-- what was delivered does not hang on the actors
pub carriers_same : (config : TenantConfig) (c : SoloCluster) (actors : List NamedActor) → EachActor (OnStream config c) c → EachActor (OnStream config (record c { actors = actors })) c
carriers_same config c actors each =
    Every-weaker (λ (a : NamedActor). OnStream config c a.name a.actor) (λ (a : NamedActor). OnStream config (record c { actors = actors }) a.name a.actor) c.actors
    (λ a at is. on_stream-grown config c (record c { actors = actors }) (λ n. ([], sym (append-nil (entries (node_of config c n))))) a.name a.actor is) each

-- after a call, what was delivered stays so
pub carriers_called : {config : TenantConfig} {c after : SoloCluster} {id : NodeId} {call : NodeCall} {reply : NodeReply} (called : Called config c id call reply after) → EachActor (OnStream config c) c → EachActor (OnStream config after) after
carriers_called {config} {c} {after} called each =
    actors_stay called (OnStream config after)
    (Every-weaker (λ (a : NamedActor). OnStream config c a.name a.actor) (λ (a : NamedActor). OnStream config after a.name a.actor) c.actors (λ a at is. on_stream-grown config c after (entries_grow called) a.name a.actor is) each)

-- ---- puts

last-below : (es : List Entry) (last : Timestamp) (top : ℕ) → last.clock ≤ top → ((e : Entry) → Among e es → e.version.clock ≤ top) → (last_version last es).clock ≤ top
last-below [] last top first each = first
last-below (e ∷ es) last top first each = last-below es e.version top (each e (inl refl)) (λ f at. each f (inr at))

pub put-joins : (config : TenantConfig) (c : SoloCluster) (inv : IsStreamed config c) (id : NodeId) (key value : List ℕ) (deps near : List Pair) (reply : NodeReply) (e : Entry) →
    Stores (place_of config id) (node_call.Put key value deps near) (node_of config c (node_number config.shards id)) reply e → MayJoin config c (node_number config.shards id) e
put-joins config c inv id key value deps near reply e stores =
    let n = node_number config.shards id in
    let solo = node_of config c n in
    let above = next-above (clock config.first_clock solo.recs) (greatest_clock deps) (own_number (place_of config id)) stores.0 stores.2 in
    let last = last_version no_version (held config c n n) in
    let low : last.clock ≤ clock config.first_clock solo.recs = last-below (held config c n n) no_version (clock config.first_clock solo.recs) (omega arith)
    (λ f at. clock-above config.first_clock solo (pair_of_entry f) (Among-map pair_of_entry f (entries solo) (Among-filter (λ (g : Entry). g.version.node == n) f (entries solo) at).0)) in
    let version-is : e.version ≡ stores.0 = ap (λ (f : Entry). f.version) stores.3 in
    AsIssued (ap (λ (v : Timestamp). v.node) version-is ∙ above.1)
    (ap (λ (f : Entry). f.prev) stores.3 ∙ mark-is n solo ∙ chain-greatest (held config c n n) (inv.chained n))
    (subst (λ v. version_lt last v ≡ true) (sym version-is) (higher last stores.0 (clock config.first_clock solo.recs) (greatest_clock deps) low above.0))
  where
    higher : (v w : Timestamp) (m d : ℕ) → v.clock ≤ m → w.clock ≡ max m d + 1 → version_lt v w ≡ true
    higher v w m d low is = let less : v.clock < w.clock = omega arith in grind (arith, nat_tests)
