-- What a context has seen is read off the operations that ended in it: each move keeps that.
use Rattle.std.proofs.Common.{◌≡◌, ℕ, Bool, true, false, cond, not, ◌&&◌, List, [], ◌∷◌, ◌++◌, inl, inr, refl, sym, ◌∙◌, ap, subst, append-nil, arith}
use Rattle.std.specs.Prelude.{Some, ◌==◌}
use Rattle.std.specs.List.{AllByRecursion}
use Rattle.std.proofs.lemmas.Bool.Decides.{Decides-eqb, nat_tests}
use Rattle.std.proofs.lemmas.Grind.{flat_map-append}
use Rattle.cops_types.specs.Key.{key_eq}
use Rattle.cops_types.specs.TenantConfig.{TenantConfig}
use Rattle.cops_types.proofs.Elements.{Among, Every-append, Every-filter, Every-weaker}
use Rattle.cops_types.proofs.KeyTests.{key_eq-false, key_eq-refl}
use Rattle.cops_model.specs.declared.calls.NodeCall.TheVariants as node_call
use Rattle.cops_model.specs.declared.requests.Answer.{Answer}
use Rattle.cops_model.specs.declared.requests.Answer.TheVariants as answer_is
use Rattle.cops_model.specs.declared.requests.Progress.TheVariants as session_progress
use Rattle.cops_model.specs.Log.{Directed, LogStep}
use Rattle.cops_model.specs.Request.{answer}
use Rattle.cops_model.specs.Session.{OpenContext, Running, Session, context_created, context_extended, request_of, session_after}
use Rattle.cops_model.specs.SoloNode.{SoloNode}
use Rattle.cops_model.specs.Causal.{Effect, Returned, Traced, Wrote}
use Rattle.cops_model.specs.Cluster.{Actor, OfCarrier, OfSession, SoloCluster, call_node, find_session, new_cluster}
use Rattle.cops_causal.specs.ClientLaws.{is_in_context, observed_by, seen_in_context}
use Rattle.cops_causal.proofs.ActorMoves.{CallLeaves, Leaves, Moves, as_before, moves_lead}
use Rattle.cops_causal.proofs.ActorsKeep.{Stands, actor_found, session_actor}
use Rattle.cops_causal.proofs.Moves.{Both, Leads}
use Rattle.cops_causal.proofs.Provenance.{IsSession, IsTraced}
use Rattle.cops_causal.proofs.RequestSteps.{StepLeaves, history_with, joining}
use Rattle.cops_causal.proofs.TracedIdle.{session_of}

-- ---- the words

abbrev pub HasSeen : List Traced → List ℕ → OpenContext → Type 0
HasSeen ts name x = x.obs ≡ seen_in_context ts name x.number

abbrev pub HaveSeen : List SoloNode → List Traced → List ℕ → Actor → Type 0
HaveSeen nodes ts name (OfSession s) = AllByRecursion (HasSeen ts name) s.contexts
HaveSeen nodes ts name (OfCarrier k) = Unit {0}

abbrev pub OfAnyNodes : List SoloNode → List Traced → Type 0
OfAnyNodes nodes ts = Unit {0}

abbrev pub IsSeeing : SoloCluster → List Traced → Type 0
IsSeeing = Stands OfAnyNodes HaveSeen

-- ---- an operation joins the history

seen_more : (ts : List Traced) (t : Traced) (name : List ℕ) (number : ℕ) →
    seen_in_context (ts ++ t ∷ []) name number ≡ seen_in_context ts name number ++ cond (is_in_context name number t.operation) (observed_by t.operation.effect) []
seen_more ts t name number =
    flat_map-append (λ (t : Traced). cond (is_in_context name number t.operation) (observed_by t.operation.effect) []) ts (t ∷ [])
    ∙ ap (λ os. seen_in_context ts name number ++ os) (append-nil (cond (is_in_context name number t.operation) (observed_by t.operation.effect) []))

-- nothing was seen in a context in which no operation ended
seen_nothing : (ts : List Traced) (name : List ℕ) (number : ℕ) → ((t : Traced) → Among t ts → is_in_context name number t.operation ≡ false) → seen_in_context ts name number ≡ []
seen_nothing [] name number none = refl
seen_nothing (t ∷ ts) name number none = rw (none t (inl refl)) (seen_nothing ts name number (λ u among. none u (inr among)))

module _ (ts : List Traced) (name : List ℕ) (context : ℕ) (effect : Effect) where
  abbrev now : List Traced
  now = ts ++ joining ts name context effect ∷ []

  -- the contexts of the session in which it ended
  seen_here : (x : OpenContext) → HasSeen ts name x → HasSeen now name (cond (x.number == context) (record { number = x.number; obs = x.obs ++ observed_by effect }) x)
  seen_here x is = by_same (x.number == context) refl
    where
      flipped : (b : Bool) → (x.number == context) ≡ b → (context == x.number) ≡ b
      flipped true is = let same : x.number ≡ context = (Decides-eqb x.number context).0 is in (Decides-eqb context x.number).1 (sym same)
      flipped false is = grind (arith, nat_tests)

      by_same : (b : Bool) → (x.number == context) ≡ b → HasSeen now name (cond b (record { number = x.number; obs = x.obs ++ observed_by effect }) x)
      by_same true same =
          (λ i. is i ++ observed_by effect)
          ∙ sym (seen_more ts (joining ts name context effect) name x.number ∙ ap (λ b. seen_in_context ts name x.number ++ cond (b && context == x.number) (observed_by effect) []) (key_eq-refl name)
          ∙ ap (λ b. seen_in_context ts name x.number ++ cond b (observed_by effect) []) (flipped true same))
      by_same false same =
          is
          ∙ sym (seen_more ts (joining ts name context effect) name x.number ∙ ap (λ b. seen_in_context ts name x.number ++ cond (b && context == x.number) (observed_by effect) []) (key_eq-refl name)
          ∙ ap (λ b. seen_in_context ts name x.number ++ cond b (observed_by effect) []) (flipped false same)
          ∙ append-nil (seen_in_context ts name x.number))

  -- and those of other sessions
  seen_elsewhere : (other : List ℕ) → key_eq other name ≡ false → (x : OpenContext) → HasSeen ts other x → HasSeen now other x
  seen_elsewhere other apart x is =
      is
      ∙ sym (seen_more ts (joining ts name context effect) other x.number ∙ ap (λ b. seen_in_context ts other x.number ++ cond (b && context == x.number) (observed_by effect) []) (key_eq-false other name apart)
      ∙ append-nil (seen_in_context ts other x.number))

  others_seen : (nodes : List SoloNode) (other : List ℕ) (a : Actor) → key_eq other name ≡ false → HaveSeen nodes ts other a → HaveSeen nodes now other a
  others_seen nodes other (OfSession r) apart are = Every-weaker (HasSeen ts other) (HasSeen now other) r.contexts (λ x among is. seen_elsewhere other apart x is) are
  others_seen nodes other (OfCarrier k) apart are = tt

  extended_seen : (contexts : List OpenContext) → AllByRecursion (HasSeen ts name) contexts → AllByRecursion (HasSeen now name) (context_extended context (observed_by effect) contexts)
  extended_seen [] are = tt
  extended_seen (x ∷ contexts) are = (seen_here x are.0, extended_seen contexts are.1)

unextended_seen : (ts : List Traced) (name : List ℕ) (context : ℕ) (contexts : List OpenContext) → AllByRecursion (HasSeen ts name) contexts → AllByRecursion (HasSeen ts name) (context_extended context [] contexts)
unextended_seen ts name context [] are = tt
unextended_seen ts name context (x ∷ contexts) are = (by_same (x.number == context), unextended_seen ts name context contexts are.1)
  where
    by_same : (b : Bool) → HasSeen ts name (cond b (record { number = x.number; obs = x.obs ++ [] }) x)
    by_same true = append-nil x.obs ∙ are.0
    by_same false = are.0

-- ---- each move

module _ (config : TenantConfig) (c : SoloCluster) (ts : List Traced) (traced : IsTraced config c ts) (seeing : IsSeeing c ts) where
  module _ (name : List ℕ) (s : Session) (found : find_session name c ≡ Some s) where
    abbrev this : IsSession config ts name s
    this = session_of config c ts traced name s found

    seen_before : AllByRecursion (HasSeen ts name) s.contexts
    seen_before = actor_found (HaveSeen c.nodes ts) c name (OfSession s) seeing.actors (session_actor c name s found)

    -- no operation has ended in a new context
    created_seen : AllByRecursion (HasSeen ts name) (context_created s).contexts
    created_seen = Every-append (HasSeen ts name) s.contexts (record { number = s.next_context; obs = [] } ∷ []) seen_before (sym (seen_nothing ts name s.next_context fresh), tt)
      where
        fresh : (t : Traced) → Among t ts → is_in_context name s.next_context t.operation ≡ false
        fresh t among = by_name (key_eq t.operation.session name) refl
          where
            by_name : (b : Bool) → key_eq t.operation.session name ≡ b → (b && t.operation.context == s.next_context) ≡ false
            by_name false is = refl
            by_name true is = let below = this.numbered t among is in grind (arith, nat_tests)

    stepped_seen : (nodes : List SoloNode) (running : Running) (step : LogStep) → StepLeaves config ts name s (Leaves config OfAnyNodes HaveSeen nodes ts name) running step
    stepped_seen nodes running step = record { goes_on = λ open_still. as_before config OfAnyNodes HaveSeen nodes ts name _ seen_before; ends = by_answer }
      where
        joined : (effect : Effect) (next : Session) → next.contexts ≡ context_extended running.context (observed_by effect) s.contexts → Leaves config OfAnyNodes HaveSeen nodes ts name next (ts ++ joining ts name running.context effect ∷ [])
        joined effect next are =
            record {
              nodes_are = λ old. tt;
              others_are = others_seen ts name running.context effect nodes;
              session_is = subst (AllByRecursion (HasSeen (ts ++ joining ts name running.context effect ∷ []) name)) (sym are) (extended_seen ts name running.context effect s.contexts seen_before);
            }

        by_answer : (a : Answer) → answer config (request_of s running) (running.log ++ step ∷ []) ≡ Some a →
            Leaves config OfAnyNodes HaveSeen nodes ts name (session_after s running step (session_progress.Done a)) (history_with ts name running.context a)
        by_answer (answer_is.Stored pair) e = joined (Wrote pair) (session_after s running step (session_progress.Done (answer_is.Stored pair))) refl
        by_answer (answer_is.Values reads) e = joined (Returned reads) (session_after s running step (session_progress.Done (answer_is.Values reads))) refl
        by_answer (answer_is.Refused fault) e = as_before config OfAnyNodes HaveSeen nodes ts name _ (unextended_seen ts name running.context s.contexts seen_before)

  call_seen : (moment : ℕ) (directed : Directed) → CallLeaves config OfAnyNodes HaveSeen c ts moment directed
  call_seen moment directed = record { nodes_are = tt; stays = same }
    where
      same : (name : List ℕ) (a : Actor) → HaveSeen c.nodes ts name a → HaveSeen (call_node config directed.node moment directed.call c).after.nodes ts name a
      same name (OfSession s) are = are
      same name (OfCarrier k) are = tt

  seen_moves : Moves config OfAnyNodes HaveSeen c ts
  seen_moves =
      record {
        opened = λ name dc free exists. tt;
        carrier_begun = λ name stream is. tt;
        of_session = λ name s found. record {
          created = λ idle. created_seen name s found;
          deleted = λ number idle. Every-filter (HasSeen ts name) (λ (x : OpenContext). not (x.number == number)) s.contexts (seen_before name s found);
          put_begun = λ number key value ok. seen_before name s found;
          get_begun = λ number keys ok. seen_before name s found;
          called = λ running moment directed runs e. call_seen moment directed;
          stepped = λ running moment directed runs e. stepped_seen name s found _ running _;
          late = λ running moment runs e. stepped_seen name s found c.nodes running _;
          dropped = λ moment. seen_before name s found;
        };
        of_carrier = λ name k found. record { called = λ moment directed e. call_seen moment directed; stepped = λ moment directed e open_still. tt };
        collected = λ id moment there. call_seen moment (record { node = id; call = node_call.Collect });
      }

pub seeing_kept : (config : TenantConfig) → Leads config (Both (IsTraced config) IsSeeing) IsSeeing
seeing_kept config = moves_lead config OfAnyNodes HaveSeen (IsTraced config) (λ c ts inv. inv) (seen_moves config)

pub seeing_at_first : (config : TenantConfig) → IsSeeing (new_cluster config) []
seeing_at_first config = record { nodes = tt; actors = tt }
