-- What a request leaves that ended because memory ran out.
use Rattle.std.proofs.Common.{◌≡◌, ◌++◌, ℕ, Bool, true, false, cond, inl, inr, List, [], ◌∷◌, append-nil, refl, sym, ◌∙◌, ap, true≢false}
use Rattle.std.specs.Prelude.{None, ◌==◌}
use Rattle.cops_types.specs.declared.faults.Fault.TheVariants.{OutOfMemory}
use Rattle.cops_types.specs.TenantConfig.{TenantConfig}
use Rattle.cops_model.specs.declared.calls.NodeReply.{NodeReply}
use Rattle.cops_model.specs.declared.calls.NodeReply.TheVariants as node_reply
use Rattle.cops_model.specs.declared.requests.Answer.TheVariants as answer
use Rattle.cops_model.specs.declared.requests.Progress.TheVariants.{Done}
use Rattle.cops_model.specs.Lacks.{EndsRound, request_dropped}
use Rattle.cops_model.specs.Log.{LogStep, Late, Replied}
use Rattle.cops_model.specs.Request.{Action, Fetch, Write}
use Rattle.cops_model.specs.Session.{OpenContext, Running, Session, context_extended, has_restarted, moment_after, raised, request_of, session_after}
use Rattle.cops_session.proofs.SparedNodes.{lacks}
use Rattle.cops_session.specs.Wants.{WantsMemory}

unextended : (number : ℕ) (contexts : List OpenContext) → context_extended number [] contexts ≡ contexts
unextended number [] = refl
unextended number (c ∷ contexts) = λ i. one (c.number == number) i ∷ unextended number contexts i
  where
    one : (t : Bool) → cond t (record { number = c.number; obs = c.obs ++ [] }) c ≡ c
    one true = λ i. record { number = c.number; obs = append-nil c.obs i }
    one false = refl

replied_is : (answered : NodeReply) → Replied answered ≡ Replied (node_reply.Refused OutOfMemory) → answered ≡ node_reply.Refused OutOfMemory
replied_is answered is = cc

either_same : (t : Bool) (n : ℕ) → cond t n n ≡ n
either_same true n = refl
either_same false n = refl

module _ (config : TenantConfig) (s : Session) (running : Running) (at : ℕ) where
  abbrev step : NodeReply → LogStep
  step replied = record { moment = at; outcome = Replied replied }

  abbrev Wants : LogStep → Action → Type 0
  Wants = WantsMemory config (request_of s running) running.log

  -- the session is left without its request
  pub ended_is : (step : LogStep) → moment_after running step ≡ at → session_after s running step (Done (answer.Refused OutOfMemory)) ≡ request_dropped at s
  ended_is step is = λ i. record s { moment = is i; contexts = unextended running.context s.contexts i; running = None }

  -- a refused call leaves the timestamp
  pub unmoved : (replied : NodeReply) → replied ≡ node_reply.Refused OutOfMemory → moment_after running (step replied) ≡ at
  unmoved replied is = ap (λ r. moment_after running (step r)) is ∙ either_same (has_restarted running.action running.log (step (node_reply.Refused OutOfMemory))) at

  -- a last read leaves it too
  pub unraised : (keys : List (List ℕ)) (replied : NodeReply) → running.action ≡ Fetch keys → EndsRound config (request_of s running) keys running.log (step replied) → moment_after running (step replied) ≡ at
  unraised keys replied is ends =
      ap (λ a. cond (has_restarted a running.log (step replied)) (raised at (Replied replied)) at) is ∙ ap (λ b. cond b (raised at (Replied replied)) at) ends.same_attempt

  -- the node replied, so that it is a last read
  pub last_read : (action : Action) (replied : NodeReply) → running.action ≡ action → lacks replied ≡ false → Wants (step replied) action →
      (keys : List (List ℕ)) × (running.action ≡ Fetch keys) × EndsRound config (request_of s running) keys running.log (step replied)
  last_read (Write key value) replied is spared wanted = absurd (true≢false (sym (ap lacks (replied_is replied wanted)) ∙ spared))
  last_read (Fetch keys) replied is spared (inl wanted) = absurd (true≢false (sym (ap lacks (replied_is replied wanted)) ∙ spared))
  last_read (Fetch keys) replied is spared (inr ends) = (keys, is, ends)

  pub late_stops : (action : Action) → Wants (record { moment = at; outcome = Late }) action → ⊥
  late_stops (Write key value) wanted = let never : Late ≡ Replied (node_reply.Refused OutOfMemory) = wanted in cc
  late_stops (Fetch keys) (inl wanted) = let never : Late ≡ Replied (node_reply.Refused OutOfMemory) = wanted in cc
  late_stops (Fetch keys) (inr ends) = true≢false ends.same_attempt
