-- The example of a life is served.
use Rattle.std.proofs.Common.{◌≡◌, ◌≢◌, ℕ, zero, suc, ◌<◌, ◌≤◌, true, false, ◌==◌, List, [], ◌∷◌, inl, inr, refl, arith}
use Rattle.std.specs.Prelude.{None, Some, slice_set}
use Rattle.std.specs.List.{AllByRecursion, flat_map}
use Rattle.std.proofs.lemmas.Bool.Decides.{Decides-eqb}
use Rattle.cops_types.specs.TenantConfig.{TenantConfig, tenant_config}
use Rattle.cops_model.specs.Cluster.{OfSession}
use Rattle.cops_model.specs.Log.{LogStep, Replied}
use Rattle.cops_model.specs.Request.{Write}
use Rattle.cops_model.specs.Session.{Running, Session, context_created, new_session, progress, request_begun, request_of, session_after}
use Rattle.cops_model.specs.declared.calls.AuditEntry.{AuditEntry}
use Rattle.cops_model.specs.declared.calls.NodeCall.{NodeCall}
use Rattle.cops_node.specs.declared.hosted.SlotCall.TheVariants.{Own, Admit, Close}
use Rattle.cops_node.specs.declared.hosted.SlotReply.TheVariants as answer
use Rattle.cops_node.specs.Hosting.{Hosted, IsSlotTurn, slot_holds, unknown_tenant}
use Rattle.cops_node.specs.Parts.{Shared, terms_of}
use Rattle.cops_history.specs.Commands.{turn_made_by}
use Rattle.cops_history.specs.History.{Behaves, turns_by}
use Rattle.cops_history.specs.Turns.{Turn}
use Rattle.cops_history.specs.Lives.{AreServedInLife, AsksOnce, IsHostedLog, IsTimeOf, LeadsOnSlots, slot_entries_at, life_log, new_hosted, slot_entry}
use Rattle.cops_history.specs.LifeExample.{late_collection, later_turns, life_did, life_writes, open_time, put_there, some_tenant, vacant, whole_log}

-- ---- the node

abbrev opened : Hosted
opened = new_hosted vacant 0

abbrev given : ℕ → List AuditEntry → Hosted
given life trail = record {
  node = record { home = opened.node.home; terms = Some (terms_of (some_tenant 1)) ∷ []; audit = trail ∷ [] };
  lives = slice_set opened.lives 0 life;
}

abbrev audited_as : Turn → AuditEntry
audited_as t = record { moment = t.moment; call = t.call; reply = t.reply }

abbrev admitted : Hosted
admitted = given 1 []

abbrev written : Hosted
written = given 1 (audited_as put_there ∷ [])

abbrev left_vacant : Hosted
left_vacant = record { node = record { home = opened.node.home; terms = None ∷ []; audit = [] ∷ [] }; lives = slice_set opened.lives 0 1 }

abbrev next_admitted : Hosted
next_admitted = given 2 []

-- no other slot has a tenant
others : (old new : Hosted) → ((other : ℕ) → slot_holds (suc other) new ≡ slot_holds (suc other) old) → (other : ℕ) → other ≢ 0 → slot_holds other new ≡ slot_holds other old
others old new same zero differ = absurd (differ refl)
others old new same (suc other) differ = same other

admission : IsSlotTurn opened 0 0 (Admit 1 (some_tenant 1)) answer.Admitted admitted
admission = record { reply_is = refl; after = refl; others = others opened admitted (λ other. refl); home = refl }

put : IsSlotTurn admitted 0 1 (Own 1 put_there.call) (answer.Own put_there.reply) written
put = record { reply_is = refl; after = refl; others = others admitted written (λ other. refl); home = refl }

close : IsSlotTurn written 0 0 Close answer.Closed left_vacant
close = record { reply_is = refl; after = refl; others = others written left_vacant (λ other. refl); home = refl }

collection : IsSlotTurn left_vacant 0 2 (Own 1 late_collection.call) unknown_tenant left_vacant
collection = record { reply_is = refl; after = refl; others = λ other differ. refl; home = refl }

next_admission : IsSlotTurn left_vacant 0 0 (Admit 2 (some_tenant 2)) answer.Admitted next_admitted
next_admission = record { reply_is = refl; after = refl; others = others left_vacant next_admitted (λ other. refl); home = refl }

legal_there : (number : ℕ) → number < 1 → (left : Hosted) × LeadsOnSlots (new_hosted vacant number) (slot_entries_at number whole_log) left
legal_there zero within = (next_admitted, (admitted, inl admission, (written, inl put, (left_vacant, inl close, (left_vacant, inl collection, (next_admitted, inl next_admission, refl))))))
legal_there (suc number) within = absurd (omega (arith, within))

pub hosted_log : IsHostedLog vacant whole_log
hosted_log = record { there = (omega arith, (omega arith, (omega arith, (omega arith, (omega arith, tt))))); legal = legal_there }

-- ---- the time of the life

once : (number : ℕ) → number < 1 → AsksOnce (some_tenant 1) 0 1 (slot_entries_at number open_time)
once zero within = record {
  earlier = [];
  later = Some (slot_entry 0 1 (Own 1 put_there.call) (answer.Own put_there.reply)) ∷ Some (slot_entry 0 0 Close answer.Closed) ∷ [];
  moment = 0;
  reply = answer.Admitted;
  are = refl;
  first = tt;
  last = (λ (same, tenant, is). cc, (λ (same, tenant, is). cc, tt));
}
once (suc number) within = absurd (omega (arith, within))

pub its_time : IsTimeOf vacant (some_tenant 1) 0 1 open_time whole_log
its_time = record {
  later = later_turns;
  are = refl;
  known = (λ (in_life, told_so). not_admitted in_life.2, (λ (in_life, told_so). not_unknown told_so, (λ (in_life, told_so). not_closed in_life.2, tt)));
  own = λ number within. inr (λ same. omega (arith, same), inr (once number within));
}
  where
    not_admitted : {call : NodeCall} → Admit 1 (some_tenant 1) ≡ Own 1 call → ⊥
    not_admitted e = cc

    not_closed : {call : NodeCall} → Close ≡ Own 1 call → ⊥
    not_closed e = cc

    not_unknown : answer.Own put_there.reply ≡ unknown_tenant → ⊥
    not_unknown e = cc

-- ---- its actors

abbrev puts : Session
puts = request_begun 1 (Write (107 ∷ []) (118 ∷ [])) (context_created (new_session 0 1))

abbrev run : Running
run = record { number = 1; context = 1; action = Write (107 ∷ []) (118 ∷ []); log = [] }

abbrev step : LogStep
step = record { moment = 1; outcome = Replied put_there.reply }

abbrev its_config : TenantConfig
its_config = tenant_config vacant (some_tenant 1)

wrote : Behaves its_config None life_writes
wrote = (
  Some (OfSession (new_session 0 1)),
  (refl, refl, refl, refl),
  (
    Some (OfSession (context_created (new_session 0 1))),
    (new_session 0 1, refl, refl, refl, refl),
    (
      Some (OfSession puts),
      (refl, refl, (context_created (new_session 0 1), refl, refl, refl, refl)),
      (Some (OfSession (session_after puts run step (progress its_config (request_of puts run) [] step))), (puts, run, refl, refl, refl, refl, (refl, refl)), tt),
    ),
  ),
)

all_behave : (seat : ℕ) → AllByRecursion (Behaves its_config None) (life_did seat)
all_behave zero = tt
all_behave (suc zero) = (wrote, tt)
all_behave (suc (suc zero)) = ((None, (refl, refl, refl), tt), tt)
all_behave (suc (suc (suc seat))) = tt

apart : (n m : ℕ) → (n ≡ m → ⊥) → (n == m) ≡ false
apart n m differ = elim (n == m) as (λ b. (n == m) ≡ b → b ≡ false) [ true ↦ λ is. absurd (differ ((Decides-eqb n m).0 is)) | false ↦ λ is. refl ] refl

all_made : (seat : ℕ) → flat_map (flat_map (λ t. turn_made_by t.command)) (life_did seat) ≡ turns_by seat (life_log 1 0 1 whole_log)
all_made zero = refl
all_made (suc zero) = refl
all_made (suc (suc zero)) = refl
all_made (suc (suc (suc seat))) =
    let one : (1 == suc (suc (suc seat))) ≡ false = apart 1 (suc (suc (suc seat))) (λ e. omega (arith, e)) in
    let two : (2 == suc (suc (suc seat))) ≡ false = apart 2 (suc (suc (suc seat))) (λ e. omega (arith, e)) in
    rw (one, two) refl

nothing : (seat : ℕ) → 3 ≤ seat → life_did seat ≡ []
nothing zero past = absurd (omega (arith, past))
nothing (suc zero) past = absurd (omega (arith, past))
nothing (suc (suc zero)) past = absurd (omega (arith, past))
nothing (suc (suc (suc seat))) past = refl

pub its_actors : AreServedInLife (tenant_config vacant (some_tenant 1)) (life_log 1 0 1 whole_log) 3 life_did
its_actors = record { behave = all_behave; make = all_made; few = nothing }
