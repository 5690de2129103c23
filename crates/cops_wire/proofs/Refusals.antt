-- Requests that are all refused with one fault.
use Rattle.std.proofs.Common.{◌≡◌, ℕ, List, Option, ap, subst, ◌∙◌}
use Rattle.cops_types.specs.declared.faults.Fault.{Fault}
use Rattle.cops_wire.specs.declared.answering.Refusing.{Refusing}
use Rattle.cops_wire.specs.declared.messages.Message.{Message}
use Rattle.cops_wire.specs.declared.serving.Ended.{Ended}
use Rattle.cops_wire.specs.Serving.{RefusesWith, ServesAll, ServesInPart}
use Rattle.cops_wire.proofs.SeenAnswers.{all_seen, part_seen}

-- a request is refused, and the fault stays
abbrev pub Refuses : Refusing → Message → Message → Refusing → Type 0
Refuses old request reply new = RefusesWith old.fault tt request reply tt × (new ≡ old)

module _ (fault : Fault) where
  stays : (old : Refusing) (request reply : Message) (new : Refusing) → old.fault ≡ fault → Refuses old request reply new → new.fault ≡ fault
  stays old request reply new e h = ap (λ (r : Refusing). r.fault) h.1 ∙ e

  told : (old : Refusing) (request reply : Message) (new : Refusing) → old.fault ≡ fault → Refuses old request reply new → RefusesWith fault tt request reply tt
  told old request reply new e h = subst (λ (f : Fault). RefusesWith f tt request reply tt) e h.0

  pub refused_all : (stream : List ℕ) (answered : List Message) (remaining new_remaining contents new_contents : Option (List ℕ)) (old new : Refusing) (ended : Ended)
      → ServesAll Refuses stream answered remaining new_remaining contents new_contents old new ended → old.fault ≡ fault
      → ServesAll (RefusesWith fault) stream answered remaining new_remaining contents new_contents tt tt ended
  refused_all stream answered remaining new_remaining contents new_contents old new ended h e =
      all_seen (λ (r : Refusing). r.fault ≡ fault) (λ r. tt) Refuses (RefusesWith fault) stays told stream answered remaining new_remaining contents new_contents old new ended e h

  pub refused_in_part : (stream : List ℕ) (answered : List Message) (remaining contents new_contents : Option (List ℕ)) (old new : Refusing)
      → ServesInPart Refuses stream answered remaining contents new_contents old new → old.fault ≡ fault
      → ServesInPart (RefusesWith fault) stream answered remaining contents new_contents tt tt
  refused_in_part stream answered remaining contents new_contents old new h e =
      part_seen (λ (r : Refusing). r.fault ≡ fault) (λ r. tt) Refuses (RefusesWith fault) stays told stream answered remaining contents new_contents old new e h
