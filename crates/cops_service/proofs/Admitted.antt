-- What a seat has seen more, and the lives that a history shows.
use Rattle.std.proofs.Common.{◌≡◌, ◌⊎◌, ◌∙◌, ℕ, zero, suc, ◌*◌, ◌<◌, ◌==◌, true, false, List, [], ◌∷◌, ◌++◌, length, inl, inr, ap, arith, refl, sym, subst, append-nil, append_assoc}
use mathlib.Core.Logic.{∥∥₁_elim}
use Rattle.std.specs.Prelude.{Some}
use Rattle.std.proofs.lemmas.Bool.Decides.{Decides-eqb}
use Rattle.std.proofs.lemmas.List.{length-map}
use Rattle.cops_types.specs.declared.configs.Config.{Config}
use Rattle.cops_types.specs.declared.configs.Tenant.{Tenant}
use Rattle.cops_types.specs.declared.faults.Fault.{Fault}
use Rattle.cops_types.specs.declared.faults.Fault.TheVariants.{GateSpent, OutOfMemory}
use Rattle.cops_gate.specs.declared.history.Turn.{Turn}
use Rattle.cops_gate.specs.History.{StartsWith, entry, turn}
use Rattle.cops_gate.specs.Seats.{Known}
use Rattle.cops_node.specs.declared.hosted.SlotCall.{SlotCall}
use Rattle.cops_node.specs.declared.hosted.SlotCall.TheVariants.{Admit}
use Rattle.cops_node.specs.declared.hosted.SlotReply.{SlotReply}
use Rattle.cops_node.specs.declared.hosted.SlotReply.TheVariants as told
use Rattle.cops_node.specs.declared.hosted.SlotReply.TheVariants.{Admitted}
use Rattle.cops_node.specs.Hosting.{Hosted}
use Rattle.cops_node.specs.declared.Shape.{Shape}
use Rattle.cops_service.specs.Admitted.{HasItsLife, IsAdmittedEverywhere, IsAdmittedThere, ShowsLife, admission_turn}
use Rattle.cops_service.specs.Gates.{Gates, HasSeenMore, openings}
use Rattle.cops_service.specs.Hosted.{HostedLog}
use Rattle.cops_service.specs.HostedDesks.{CallsFirst, HostedSeat, IsAdmittedAtAll, hosted_node, hosted_shape}
use Rattle.cops_service.specs.LifeCrews.{ConversesInLife, IsHostedFor, ServesInLife}
use Rattle.cops_service.specs.declared.roster.Life.{Life}
use Rattle.cops_service.proofs.Desks.{some_nodes}

-- ---- more is seen

module _ {M C R : Type 0} where
  pub seen_the_same : (seat : Known M C R) → HasSeenMore seat seat
  seen_the_same seat = record { same = (refl, refl, refl); account = refl; seen = ([], sym (append-nil seat.history)); no_turn = refl }

-- ---- lives

there_later : (node : ℕ) (life : Life) (tenant : Tenant) (earlier later : HostedLog) → StartsWith later earlier → IsAdmittedThere node life tenant earlier → IsAdmittedThere node life tenant later
there_later node life tenant earlier later (rest, is) (host, before, after, at) =
    (host, before, after ++ rest, is ∙ ap (λ h. h ++ rest) at ∙ append_assoc before (admission_turn host node life tenant ∷ after) rest)

its_later : (config : Config) (cluster : Gates Hosted) (life : Life) (tenant : Tenant) (earlier later : HostedLog) → StartsWith later earlier → HasItsLife config cluster life tenant earlier → HasItsLife config cluster life tenant later
its_later config cluster life tenant earlier later starts (inl first) = inl first
its_later config cluster life tenant earlier later starts (inr everywhere) =
    inr (record { some = everywhere.some; each = λ node below. there_later node life tenant earlier later starts (everywhere.each node below) })

pub shows_later : (config : Config) (cluster : Gates Hosted) (life : Life) (tenant : Tenant) (earlier later : HostedLog) → StartsWith later earlier → ShowsLife config cluster life tenant earlier → ShowsLife config cluster life tenant later
shows_later config cluster life tenant earlier later starts shows = ∥∥₁_elim shows squash₁ (λ its. ∣ its_later config cluster life tenant earlier later starts its ∣₁)

module _ (cluster : Gates Hosted) (slot life : ℕ) (tenant : Tenant) where
  abbrev its : Life
  its = record { slot = slot; number = life }

  not_refused : (fault : Fault) → told.Refused fault ≡ Admitted → ⊥
  not_refused fault e = cc

  -- the nodes below this number admitted the tenant, as the host's seat has seen
  record AdmittedBelow (bound : ℕ) (old new : HostedSeat) : Type 0 where
    pub starts : StartsWith new.history old.history
    pub each : (node : ℕ) → node < bound → IsAdmittedThere node its tenant new.history

  admitted_below : (bound : ℕ) (old new : HostedSeat) → CallsFirst cluster slot (Admit life tenant) (λ reply. reply ≡ Admitted) bound old new → AdmittedBelow bound old new
  admitted_below zero old new same = record {
    starts = ([], ap (λ (s : HostedSeat). s.history) same ∙ sym (append-nil old.history));
    each = λ node below. absurd (omega (arith, below));
  }
  admitted_below (suc bound) old new (between, reply, earlier, call, is) =
      elim (call.grows) [
        | inl grows ↦
            let first = admitted_below bound old between earlier in
            let mid = grows.1.0 in
            let last : Turn SlotCall SlotReply = turn between.number bound (Some (entry slot 0 (Admit life tenant) reply)) in
            let grown : new.history ≡ (between.history ++ mid) ++ last ∷ [] = grows.1.1 in
            let on : StartsWith new.history between.history = (mid ++ last ∷ [], grown ∙ append_assoc between.history mid (last ∷ [])) in
            record {
              starts = (first.starts.0 ++ on.0, on.1 ∙ ap (λ h. h ++ on.0) first.starts.1 ∙ append_assoc old.history first.starts.0 on.0);
              each = λ node below. elim (bound == node) as (λ b. (bound == node) ≡ b → IsAdmittedThere node its tenant new.history) [
                | true ↦ λ same.
                    let at : bound ≡ node = (Decides-eqb bound node).0 same in
                    subst (λ n. IsAdmittedThere n its tenant new.history) at
                    (between.number, between.history ++ mid, [], subst (λ r. new.history ≡ (between.history ++ mid) ++ turn between.number bound (Some (entry slot 0 (Admit life tenant) r)) ∷ []) is grown)
                | false ↦ λ differ.
                    let apart : bound ≡ node → ⊥ = (λ at. let same : (bound == node) ≡ true = (Decides-eqb bound node).1 at in cc) in
                    there_later node its tenant between.history new.history on (first.each node (omega (arith, below, apart)))
              ] refl;
            }
        | inr other ↦ elim other [
          | inl lacking ↦ absurd (not_refused OutOfMemory (sym lacking.0 ∙ is))
          | inr spent ↦ absurd (not_refused GateSpent (sym spent.0 ∙ is))
        ]
      ]

pub admitted_everywhere : (cluster : Gates Hosted) (life : Life) (tenant : Tenant) (old new : HostedSeat) → 0 < length (openings cluster) → IsAdmittedAtAll cluster life.slot life.number tenant old new
    → IsAdmittedEverywhere (length (openings cluster)) life tenant new.history
admitted_everywhere cluster life tenant old new some all = record { some = some; each = (admitted_below cluster life.slot life.number tenant (length (openings cluster)) old new all).each }

pub shown_everywhere : (config : Config) (cluster : Gates Hosted) (life : Life) (tenant : Tenant) (old new : HostedSeat) → 0 < length (openings cluster) → IsAdmittedAtAll cluster life.slot life.number tenant old new
    → ShowsLife config cluster life tenant new.history
shown_everywhere config cluster life tenant old new some all = ∣ inr (admitted_everywhere cluster life tenant old new some all) ∣₁

-- a cluster of a configuration's sizes has nodes
pub some_hosted : (config : Config) (cluster : Gates Hosted) → IsHostedFor config cluster → 0 < length (openings cluster)
some_hosted config cluster hosted =
    let all : length (openings cluster) ≡ (hosted_shape cluster).data_centres * (hosted_shape cluster).shards = sym (length-map (openings cluster) hosted_node) ∙ hosted.nodes.nodes.all in
    subst (λ n. 0 < n) (sym (all ∙ ap (λ (s : Shape). s.data_centres * s.shards) hosted.shape)) (some_nodes config hosted.sizes)

-- a client was served in a life that its worker's seat had seen to be its tenant's, or nobody was served
module _ {M : Type 0} (Gives : M → ℕ → M → Type 0) (config : Config) (cluster : Gates Hosted) where
  pub served_in_life : (life : Life) (tenant : Tenant) (first last : HostedSeat × M) (seen : HostedSeat) → HasSeenMore first.0 seen → ShowsLife config cluster life tenant seen.history
      → ((last.0 ≡ seen) × (last.1 ≡ first.1)) ⊎ ConversesInLife config cluster Gives life tenant (seen, first.1) last → ServesInLife config cluster Gives first last
  served_in_life life tenant first last seen more shown (inl same) = inl (subst (HasSeenMore first.0) (sym same.0) more, same.1)
  served_in_life life tenant first last seen more shown (inr converses) = inr (seen, more, life, tenant, shown, converses)
