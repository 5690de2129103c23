-- What is stored, carried and read was put, and its deps are those of its put. The words of the invariant, and how they bear one more operation.
use Rattle.std.proofs.Common.{◌≡◌, ℕ, ◌<◌, arith, Bool, true, false, cond, ◌&&◌, ◌||◌, List, [], ◌∷◌, ◌++◌, map, ◌⊎◌, inl, inr, refl, sym, ◌∙◌, ap, subst, append-nil}
use Rattle.std.specs.Prelude.{Some, None, nat_lt, ◌==◌}
use Rattle.std.specs.List.{AllByRecursion, list_any}
use Rattle.cops_types.specs.declared.pairs.Pair.{Pair}
use Rattle.cops_types.specs.declared.records.EntryParts.{EntryParts as Entry}
use Rattle.cops_types.specs.Context.{all_of, near_of}
use Rattle.cops_types.specs.Key.{key_eq}
use Rattle.cops_types.specs.Pairs.{holds, greatest_per_key}
use Rattle.cops_types.specs.TenantConfig.{TenantConfig}
use Rattle.cops_model.specs.declared.calls.NodeReply.{NodeReply}
use Rattle.cops_model.specs.declared.calls.NodeReply.TheVariants.{Found, Pulled}
use Rattle.cops_model.specs.Log.{LogStep, Outcome, Replied}
use Rattle.cops_model.specs.Request.{Action, Write, Fetch, answer}
use Rattle.cops_model.specs.Session.{Session, Running, OpenContext, is_open, request_of}
use Rattle.cops_model.specs.Transaction.{ReadRequest, gets}
use Rattle.cops_model.specs.Carrier.{Carrier, pair_of_entry}
use Rattle.cops_model.specs.Causal.{Traced, Operation, put_by, past_of_put, past_after, deps_of}
use Rattle.cops_model.specs.Cluster.{SoloCluster, Actor, OfSession, OfCarrier}
use Rattle.cops_causal.proofs.ActorsKeep.{IsKnown, Stands, bare}
use Rattle.cops_causal.proofs.Histories.{given, puts_of, puts_of-push, past_in, in_context, past_after-push, past_of_put-push, past_after-Among, Among-past_after, past_of_put-Among, Among-past_of_put, Among-flat_map}
use Rattle.cops_types.proofs.Elements.{Among, Among-left, Among-right, Among-cases, Every-weaker}
use Rattle.cops_causal.proofs.Moves.{IsStream}
use Rattle.cops_types.proofs.Nearness.{IsCovered, Covers}
use Rattle.cops_node.proofs.NodeTurns.{entries}
use Rattle.cops_causal.proofs.NodeEffects.{node_of, IsSized}
use Rattle.cops_types.proofs.PairSets.{at, holds-Among}
use Rattle.cops_session.proofs.RequestReplies.{replies_in}
use Rattle.cops_types.proofs.Zipped.{Zipped}
use Rattle.cops_model.specs.SoloNode.{SoloNode}

-- the pair was put, and these are the deps of its put
pub record IsPut (ts : List Traced) (pair : Pair) (deps : List Pair) : Type 0 where
  pub was : Among pair (puts_of ts)
  pub deps_are : deps ≡ deps_of ts pair

-- and its near pairs cover its past
pub record IsPutEntry (ts : List Traced) (e : Entry) : Type 0 where
  pub put : IsPut ts (pair_of_entry e) e.deps
  pub covered : Covers (past_of_put ts) e.near (past_of_put ts (pair_of_entry e))

-- what a reply to a read found was put
abbrev pub IsFound : List Traced → ReadRequest → NodeReply → Type 0
IsFound ts q (Found f) = IsPut ts (at q.key f.version) f.deps
IsFound ts q reply = Unit {0}

-- what a carrier pulled was put
abbrev pub IsPulled : List Traced → Outcome → Type 0
IsPulled ts (Replied (Pulled e)) = IsPutEntry ts e
IsPulled ts outcome = Unit {0}

-- the deps of a context are those of its past
pub record IsContext (ts : List Traced) (name : List ℕ) (next : ℕ) (context : OpenContext) : Type 0 where
  pub numbered : nat_lt context.number next ≡ true
  pub all_is : all_of context.obs ≡ greatest_per_key (past_in ts name context.number)
  pub covered : Covers (past_of_put ts) (near_of context.obs) (past_in ts name context.number)

abbrev pub RepliesAre : List Traced → Action → List LogStep → Type 0
RepliesAre ts (Write key value) log = log ≡ []
RepliesAre ts (Fetch keys) log = Zipped (IsFound ts) (gets keys (replies_in keys log)) (replies_in keys log)

pub record IsRunning (config : TenantConfig) (ts : List Traced) (s : Session) (running : Running) : Type 0 where
  pub in_open : is_open running.context s ≡ true
  pub unanswered : answer config (request_of s running) running.log ≡ None
  pub replies_are : RepliesAre ts running.action running.log

pub record IsSession (config : TenantConfig) (ts : List Traced) (name : List ℕ) (s : Session) : Type 0 where
  pub placed : nat_lt s.dc config.data_centres ≡ true
  pub contexts_are : AllByRecursion (IsContext ts name s.next_context) s.contexts
  pub numbered : (t : Traced) → Among t ts → key_eq t.operation.session name ≡ true → nat_lt t.operation.context s.next_context ≡ true
  pub running_is : (running : Running) → s.running ≡ Some running → IsRunning config ts s running

pub record IsCarrier (config : TenantConfig) (ts : List Traced) (k : Carrier) : Type 0 where
  pub stream_is : IsStream config k.stream
  pub pulled : AllByRecursion (λ s. IsPulled ts s.outcome) k.log

abbrev pub IsActor : TenantConfig → List Traced → List ℕ → Actor → Type 0
IsActor config ts name (OfSession s) = IsSession config ts name s
IsActor config ts name (OfCarrier k) = IsCarrier config ts k

-- the history: pasts are of what was put and hold the pasts of what they hold, each pair is put once, and is above its past
pub record IsHistory (ts : List Traced) : Type 0 where
  pub pasts_put : (t : Traced) → Among t ts → (q : Pair) → Among q t.past → Among q (puts_of ts)
  pub pasts_closed : (t : Traced) → Among t ts → (q r : Pair) → Among q t.past → Among r (past_of_put ts q) → Among r t.past
  pub put_once : (t u : Traced) → Among t ts → Among u ts → (q : Pair) → Among q (put_by t.operation.effect) → Among q (put_by u.operation.effect) → t ≡ u
  pub older : (t : Traced) → Among t ts → (p q : Pair) → Among p (put_by t.operation.effect) → Among q t.past → q.version.clock < p.version.clock

-- what nodes hold was put, and what was put is held where it was put
pub record HoldPuts (config : TenantConfig) (nodes : List SoloNode) (ts : List Traced) : Type 0 where
  pub history : IsHistory ts
  pub sized : IsSized config (bare nodes)
  pub entries_are : (n : ℕ) → AllByRecursion (IsPutEntry ts) (entries (node_of config (bare nodes) n))
  pub puts_are : (p : Pair) → Among p (puts_of ts) → Among p (map pair_of_entry (entries (node_of config (bare nodes) p.version.node)))

-- whatever the nodes
abbrev pub IsActorAt : TenantConfig → List SoloNode → List Traced → List ℕ → Actor → Type 0
IsActorAt config nodes ts = IsActor config ts

-- the invariant
pub record IsTraced (config : TenantConfig) (c : SoloCluster) (ts : List Traced) : Type 0 where
  pub stands : Stands (HoldPuts config) (IsActorAt config) c ts
  pub open stands use {nodes.{history, sized, entries_are, puts_are}, actors as actors_are}
  pub known : (t : Traced) → Among t ts → IsKnown c t.operation.session

-- ---- one more operation

-- an operation that puts nothing twice
abbrev pub IsNew : List Traced → Traced → Type 0
IsNew ts t = (p : Pair) → Among p (put_by t.operation.effect) → Among p (puts_of ts) → ⊥

module _ (ts : List Traced) (t : Traced) (new : IsNew ts t) where
  pub past_of_put-old : (p : Pair) → Among p (puts_of ts) → past_of_put (ts ++ t ∷ []) p ≡ past_of_put ts p
  past_of_put-old p was = past_of_put-push ts t p ∙ by_test (holds (put_by t.operation.effect) p) refl
    where
      by_test : (b : Bool) → holds (put_by t.operation.effect) p ≡ b → past_of_put ts p ++ cond b t.past [] ≡ past_of_put ts p
      by_test true is = absurd (new p (holds-Among (put_by t.operation.effect) p is) was)
      by_test false is = append-nil (past_of_put ts p)

  pub IsPut-grown : (p : Pair) (deps : List Pair) → IsPut ts p deps → IsPut (ts ++ t ∷ []) p deps
  IsPut-grown p deps put =
      record {
        was = subst (Among p) (sym (puts_of-push ts t)) (Among-left p (puts_of ts) (put_by t.operation.effect) put.was);
        deps_are = put.deps_are ∙ ap greatest_per_key (sym (past_of_put-old p put.was));
      }

  pub IsCovered-grown : (near : List Pair) (q : Pair) → IsCovered (past_of_put ts) near q → IsCovered (past_of_put (ts ++ t ∷ [])) near q
  IsCovered-grown near q is =
      (is.0, is.1, elim is.2 [ inl same ↦ inl same | inr before ↦ inr (subst (Among q) (sym (past_of_put-push ts t is.0)) (Among-left q (past_of_put ts is.0) (cond (holds (put_by t.operation.effect) is.0) t.past []) before)) ])

  pub IsPutEntry-grown : (e : Entry) → IsPutEntry ts e → IsPutEntry (ts ++ t ∷ []) e
  IsPutEntry-grown e is =
      record {
        put = IsPut-grown (pair_of_entry e) e.deps is.put;
        covered = λ q at. IsCovered-grown e.near q (is.covered q (subst (Among q) (past_of_put-old (pair_of_entry e) is.put.was) at));
      }

  IsFound-grown : (q : ReadRequest) (reply : NodeReply) → IsFound ts q reply → IsFound (ts ++ t ∷ []) q reply
  IsFound-grown q (Found f) is = IsPut-grown (at q.key f.version) f.deps is
  IsFound-grown q reply is = tt

  IsPulled-grown : (outcome : Outcome) → IsPulled ts outcome → IsPulled (ts ++ t ∷ []) outcome
  IsPulled-grown (Replied (Pulled e)) is = IsPutEntry-grown e is
  IsPulled-grown outcome is = tt

  Zipped-grown : (qs : List ReadRequest) (rs : List NodeReply) → Zipped (IsFound ts) qs rs → Zipped (IsFound (ts ++ t ∷ [])) qs rs
  Zipped-grown [] rs z = tt
  Zipped-grown (q ∷ qs) [] z = tt
  Zipped-grown (q ∷ qs) (r ∷ rs) z = (IsFound-grown q r z.0, Zipped-grown qs rs z.1)

  RepliesAre-grown : (action : Action) (log : List LogStep) → RepliesAre ts action log → RepliesAre (ts ++ t ∷ []) action log
  RepliesAre-grown (Write key value) log are = are
  RepliesAre-grown (Fetch keys) log are = Zipped-grown (gets keys (replies_in keys log)) (replies_in keys log) are

  -- the past in another context stays
  none_held : (ps : List Pair) → list_any (holds []) ps ≡ false
  none_held [] = refl
  none_held (p ∷ ps) = none_held ps

  pub past_in-other : (name : List ℕ) (number : ℕ) → (key_eq t.operation.session name && t.operation.context == number) ≡ false → past_in (ts ++ t ∷ []) name number ≡ past_in ts name number
  past_in-other name number apart =
      past_after-push ts t (in_context name number)
      ∙ (λ i. past_in ts name number ++ cond (apart i || none_held (put_by t.operation.effect) i) (given t) [])
      ∙ append-nil (past_in ts name number)

  pub IsContext-grown : (name : List ℕ) (next : ℕ) (context : OpenContext) → (key_eq t.operation.session name && t.operation.context == context.number) ≡ false → IsContext ts name next context → IsContext (ts ++ t ∷ []) name next context
  IsContext-grown name next context apart is = record {
    numbered = is.numbered;
    all_is = is.all_is ∙ ap greatest_per_key (sym (past_in-other name context.number apart));
    covered = λ q at. IsCovered-grown (near_of context.obs) q (is.covered q (subst (Among q) (past_in-other name context.number apart) at));
  }

  -- and so do a carrier, and a session of another name
  pub IsCarrier-grown : (config : TenantConfig) (k : Carrier) → IsCarrier config ts k → IsCarrier config (ts ++ t ∷ []) k
  IsCarrier-grown config k is =
      record { stream_is = is.stream_is; pulled = Every-weaker (λ s. IsPulled ts s.outcome) (λ s. IsPulled (ts ++ t ∷ []) s.outcome) k.log (λ s at p. IsPulled-grown s.outcome p) is.pulled }

  IsSession-grown : (config : TenantConfig) (name : List ℕ) (s : Session) → key_eq t.operation.session name ≡ false → IsSession config ts name s → IsSession config (ts ++ t ∷ []) name s
  IsSession-grown config name s apart is =
      record {
        placed = is.placed;
        contexts_are = Every-weaker (IsContext ts name s.next_context) (IsContext (ts ++ t ∷ []) name s.next_context) s.contexts
            (λ context at p. IsContext-grown name s.next_context context (ap (λ b. b && t.operation.context == context.number) apart) p) is.contexts_are;
        numbered = λ u at same. elim (Among-cases u ts (t ∷ []) at) [
          | inl old ↦ is.numbered u old same
          | inr now ↦ elim now [ inl e ↦ absurd (let contrary : false ≡ true = sym apart ∙ ap (λ (v : Traced). key_eq v.operation.session name) e ∙ same in cc) | inr never ↦ absurd never ]
        ];
        running_is = λ running runs. let r = is.running_is running runs in record { in_open = r.in_open; unanswered = r.unanswered; replies_are = RepliesAre-grown running.action running.log r.replies_are };
      }

  pub IsActor-grown : (config : TenantConfig) (name : List ℕ) (actor : Actor) → key_eq t.operation.session name ≡ false → IsActor config ts name actor → IsActor config (ts ++ t ∷ []) name actor
  IsActor-grown config name (OfSession s) apart is = IsSession-grown config name s apart is
  IsActor-grown config name (OfCarrier k) apart is = IsCarrier-grown config k is

-- ---- the history with one more operation

puts-Among : (ts : List Traced) (t : Traced) (q : Pair) → Among t ts → Among q (put_by t.operation.effect) → Among q (puts_of ts)
puts-Among ts t q at puts = Among-flat_map (λ (t : Traced). put_by t.operation.effect) ts q t at puts

module _ (ts : List Traced) (h : IsHistory ts) (o : Operation) where
  past-put : (q : Pair) → Among q (past_after ts o) → Among q (puts_of ts)
  past-put q at =
      let found = past_after-Among ts o q at in
      elim (Among-cases q (put_by found.0.operation.effect) found.0.past found.3) [
        | inl puts ↦ puts-Among ts found.0 q found.1 puts
        | inr past ↦ h.pasts_put found.0 found.1 q past
      ]

  past-closed : (q r : Pair) → Among q (past_after ts o) → Among r (past_of_put ts q) → Among r (past_after ts o)
  past-closed q r at before =
      let found = past_after-Among ts o q at in
      let t = found.0 in
      Among-past_after ts o r t found.1 found.2 (Among-right r (put_by t.operation.effect) t.past (elim (Among-cases q (put_by t.operation.effect) t.past found.3) [
        | inl puts ↦
            let by = past_of_put-Among ts q r before in
            let same = h.put_once by.0 t by.1 found.1 q (holds-Among (put_by by.0.operation.effect) q by.2) puts in
            subst (λ (u : Traced). Among r u.past) same by.3
        | inr past ↦ h.pasts_closed t found.1 q r past before
      ]))

  pub IsHistory-grown : let t : Traced = record { operation = o; past = past_after ts o } in IsNew ts t → ((p q : Pair) → Among p (put_by o.effect) → Among q (past_after ts o) → q.version.clock < p.version.clock) → IsHistory (ts ++ t ∷ [])
  IsHistory-grown new above =
      record {
        pasts_put = λ u at q past. subst (Among q) (sym (puts_of-push ts t)) (Among-left q (puts_of ts) (put_by o.effect) (elim (by_place u at) [ inl old ↦ h.pasts_put u old q past | inr same ↦ past-put q (subst (λ (v : Traced). Among q v.past) (sym same) past) ]));
        pasts_closed = λ u at q r past before. elim (by_place u at) [
          | inl old ↦ h.pasts_closed u old q r past (subst (Among r) (past_of_put-old ts t new q (h.pasts_put u old q past)) before)
          | inr same ↦
              let mine = subst (λ (v : Traced). Among q v.past) (sym same) past in
              subst (λ (v : Traced). Among r v.past) same (past-closed q r mine (subst (Among r) (past_of_put-old ts t new q (past-put q mine)) before))
        ];
        put_once = λ u v at also q puts puts_too. elim (by_place u at) [
          | inl old ↦ elim (by_place v also) [
            | inl old_too ↦ h.put_once u v old old_too q puts puts_too
            | inr same ↦ absurd (new q (subst (λ (w : Traced). Among q (put_by w.operation.effect)) (sym same) puts_too) (puts-Among ts u q old puts))
          ]
          | inr same ↦ elim (by_place v also) [
            | inl old_too ↦ absurd (new q (subst (λ (w : Traced). Among q (put_by w.operation.effect)) (sym same) puts) (puts-Among ts v q old_too puts_too))
            | inr same_too ↦ sym same ∙ same_too
          ]
        ];
        older = λ u at p q puts past. elim (by_place u at) [
          | inl old ↦ h.older u old p q puts past
          | inr same ↦ above p q (subst (λ (w : Traced). Among p (put_by w.operation.effect)) (sym same) puts) (subst (λ (w : Traced). Among q w.past) (sym same) past)
        ];
      }
    where
      t : Traced
      t = record { operation = o; past = past_after ts o }

      by_place : (u : Traced) → Among u (ts ++ t ∷ []) → Among u ts ⊎ (t ≡ u)
      by_place u at = elim (Among-cases u ts (t ∷ []) at) [ inl old ↦ inl old | inr now ↦ inr (elim now [ inl e ↦ e | inr never ↦ absurd never ]) ]

-- the past of a put pair is closed, and does not hold the pair
pub past-of-closed : (ts : List Traced) → IsHistory ts → (p q r : Pair) → Among q (past_of_put ts p) → Among r (past_of_put ts q) → Among r (past_of_put ts p)
past-of-closed ts h p q r at before =
    let by = past_of_put-Among ts p q at in
    Among-past_of_put ts p r by.0 by.1 by.2 (h.pasts_closed by.0 by.1 q r by.3 before)

pub past-of-apart : (ts : List Traced) → IsHistory ts → (p : Pair) → Among p (past_of_put ts p) → ⊥
past-of-apart ts h p at =
    let by = past_of_put-Among ts p p at in
    let less = h.older by.0 by.1 p p (holds-Among (put_by by.0.operation.effect) p by.2) by.3 in
    omega arith
