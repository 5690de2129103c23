-- What a seat has seen after the host's calls at all nodes.
use Rattle.std.proofs.Common.{◌≡◌, ◌≢◌, ℕ, zero, suc, ◌<◌, ◌∙◌, Bool, true, false, eqb, cond, inl, inr, List, [], ◌∷◌, ◌++◌, Some, None, length, arith, append_assoc, append-nil, refl, sym, ap, subst}
use Rattle.std.specs.List.{filter}
use Rattle.std.proofs.lemmas.Bool.{eq-eqb, eqb-true, eqb-false}
use Rattle.std.proofs.lemmas.List.Elements.{filter-append}
use Rattle.cops_types.specs.declared.configs.Tenant.{Tenant}
use Rattle.cops_types.specs.declared.faults.Fault.{Fault}
use Rattle.cops_types.specs.declared.faults.Fault.TheVariants.{GateSpent, OutOfMemory}
use Rattle.cops_gate.specs.declared.history.Turn.{Turn}
use Rattle.cops_gate.specs.History.{StartsWith, entry, turn, turns_at}
use Rattle.cops_gate.proofs.Ending.{starts_again}
use Rattle.cops_node.specs.declared.hosted.SlotCall.{SlotCall}
use Rattle.cops_node.specs.declared.hosted.SlotCall.TheVariants.{Admit}
use Rattle.cops_node.specs.declared.hosted.SlotReply.{SlotReply}
use Rattle.cops_node.specs.declared.hosted.SlotReply.TheVariants as told
use Rattle.cops_node.specs.Hosting.{Hosted}
use Rattle.cops_service.specs.Gates.{Gates, openings}
use Rattle.cops_service.specs.Hosted.{HostedLog}
use Rattle.cops_service.specs.HostedDesks.{CallsFirst, HostedSeat, IsAdmittedAtAll, IsHostCall}

abbrev HostedTurn : Type 0
HostedTurn = Turn SlotCall SlotReply

-- the log has the turn
abbrev Has : HostedLog → HostedTurn → Type 0
Has log t = (before : HostedLog) × (later : HostedLog) × (log ≡ before ++ t ∷ later)

has_still : (log seen : HostedLog) (t : HostedTurn) → StartsWith log seen → Has seen t → Has log t
has_still log seen t starts has =
    (has.0, has.1 ++ starts.0, starts.1 ∙ ap (λ l. l ++ starts.0) has.2 ∙ append_assoc has.0 (t ∷ has.1) starts.0)

below_of : (node n : ℕ) → node < suc n → node ≢ n → node < n
below_of node n within apart = omega (arith, apart)

grown : (log seen between : HostedLog) (t : HostedTurn) → log ≡ (seen ++ between) ++ t ∷ [] → StartsWith log seen
grown log seen between t is = (between ++ t ∷ [], is ∙ append_assoc seen between (t ∷ []))

module _ (cluster : Gates Hosted) (slot : ℕ) (call : SlotCall) where
  -- a call at a node: the seat sees all that it had seen
  call_starts : (number : ℕ) (reply : SlotReply) (old new : HostedSeat) → IsHostCall cluster slot call number reply old new → StartsWith new.history old.history
  call_starts number reply old new called = elim called.grows [
    | inl g ↦ grown new.history old.history g.1.0 (turn old.number number (Some (entry slot 0 call reply))) g.1.1
    | inr other ↦
        elim other [
          | inl lacked ↦ grown new.history old.history lacked.1.1.0 (turn old.number number None) lacked.1.1.1
          | inr spent ↦ ([], spent.1 ∙ sym (append-nil old.history))
        ]
  ]

  starts : (Is : SlotReply → Type 0) (n : ℕ) (old new : HostedSeat) → CallsFirst cluster slot call Is n old new → (StartsWith new.history old.history) × (new.number ≡ old.number)
  starts Is zero old new is = (([], ap (λ (s : HostedSeat). s.history) is ∙ sym (append-nil old.history)), ap (λ (s : HostedSeat). s.number) is)
  starts Is (suc n) old new called =
      let earlier = starts Is n old called.0 called.2 in
      (starts_again new.history called.0.history old.history (call_starts n called.1 called.0 new called.3) earlier.0, called.3.same.1 ∙ earlier.1)

no_refusal : (fault : Fault) → told.Admitted ≡ told.Refused fault → ⊥
no_refusal fault e = cc

module _ (cluster : Gates Hosted) (slot life : ℕ) (tenant : Tenant) where
  abbrev admission : ℕ → ℕ → HostedTurn
  admission number node = turn number node (Some (entry slot 0 (Admit life tenant) told.Admitted))

  -- the node that was called last
  admitted_last : (number : ℕ) (reply : SlotReply) (old new : HostedSeat) → reply ≡ told.Admitted → IsHostCall cluster slot (Admit life tenant) number reply old new → Has new.history (admission old.number number)
  admitted_last number reply old new is called = elim called.grows [
    | inl g ↦ (
      old.history ++ g.1.0,
      [],
      g.1.1 ∙ ap (λ r. (old.history ++ g.1.0) ++ turn old.number number (Some (entry slot 0 (Admit life tenant) r)) ∷ []) is,
    )
    | inr other ↦
        elim other [
          | inl lacked ↦ absurd (no_refusal OutOfMemory (sym is ∙ lacked.0))
          | inr spent ↦ absurd (no_refusal GateSpent (sym is ∙ spent.0))
        ]
  ]

  abbrev AreAdmitted : ℕ → HostedSeat → HostedSeat → Type 0
  AreAdmitted = CallsFirst cluster slot (Admit life tenant) (λ reply. reply ≡ told.Admitted)

  -- the last node, or one before it
  admitted_next : (n : ℕ) (old between new : HostedSeat) (reply : SlotReply) → AreAdmitted n old between → IsHostCall cluster slot (Admit life tenant) n reply between new → reply ≡ told.Admitted →
      (node : ℕ) → node < suc n → (node < n → Has between.history (admission old.number node)) → (b : Bool) → eqb node n ≡ b → Has new.history (admission old.number node)
  admitted_next n old between new reply earlier called is node within before true last =
      let here = admitted_last n reply between new is called in
      let same = (starts cluster slot (Admit life tenant) (λ reply. reply ≡ told.Admitted) n old between earlier).1 in
      subst (λ k. Has new.history (admission old.number k)) (sym (eqb-true node n last)) (subst (λ k. Has new.history (admission k n)) same here)
  admitted_next n old between new reply earlier called is node within before false apart =
      has_still new.history between.history (admission old.number node) (call_starts cluster slot (Admit life tenant) n reply between new called)
      (before (below_of node n within (eqb-false node n apart)))

  -- each node that was called
  admitted_each : (n : ℕ) (old new : HostedSeat) → AreAdmitted n old new → (node : ℕ) → node < n → Has new.history (admission old.number node)
  admitted_each zero old new called node within = absurd (omega arith)
  admitted_each (suc n) old new called node within =
      admitted_next n old called.0 new called.1 called.2 called.3 called.4 node within (λ below. admitted_each n old called.0 called.2 node below) (eqb node n) refl

-- so the turns at that node have it
has_there : (log : HostedLog) (t : HostedTurn) → Has log t → Has (turns_at t.node log) t
has_there log t has =
    let p : HostedTurn → Bool = λ (u : HostedTurn). eqb u.node t.node in (
      filter p has.0,
      filter p has.1,
      ap (filter p) has.2 ∙ filter-append p has.0 (t ∷ has.1) ∙ ap (λ b. filter p has.0 ++ cond b (t ∷ filter p has.1) (filter p has.1)) (eq-eqb t.node t.node refl),
    )

pub come_to_all : (cluster : Gates Hosted) (slot life node : ℕ) (tenant : Tenant) (old new : HostedSeat) → node < length (openings cluster) →
    IsAdmittedAtAll cluster slot life tenant old new →
    (before : HostedLog) × (later : HostedLog) × (turns_at node new.history ≡ before ++ turn old.number node (Some (entry slot 0 (Admit life tenant) told.Admitted)) ∷ later)
come_to_all cluster slot life node tenant old new within admitted =
    has_there new.history (admission cluster slot life tenant old.number node) (admitted_each cluster slot life tenant (length (openings cluster)) old new admitted node within)
