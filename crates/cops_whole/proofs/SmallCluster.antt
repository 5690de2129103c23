-- The small cluster is served.
use Rattle.std.proofs.Common.{◌≡◌, ◌≢◌, ℕ, zero, suc, ◌<◌, ◌≤◌, true, false, ◌==◌, [], ◌∷◌, inl, inr, refl, subst, arith}
use Rattle.std.specs.Prelude.{None, Some}
use Rattle.std.specs.List.{AllByRecursion, flat_map}
use Rattle.std.proofs.lemmas.Bool.Decides.{Decides-eqb}
use Rattle.cops_types.specs.TenantConfig.{TenantConfig, tenant_config}
use Rattle.cops_model.specs.Cluster.{OfSession}
use Rattle.cops_model.specs.Log.{LogStep, Replied}
use Rattle.cops_model.specs.Place.{Place}
use Rattle.cops_model.specs.Request.{Write}
use Rattle.cops_model.specs.Session.{Running, Session, context_created, new_session, progress, request_begun, request_of, session_after}
use Rattle.cops_model.specs.declared.calls.AuditEntry.{AuditEntry}
use Rattle.cops_node.specs.Clusters.{new_shared}
use Rattle.cops_node.specs.Parts.{Shared, IsMachineTurn, IsSoloTurn, noted, trail_of}
use Rattle.cops_history.specs.History.{Behaves}
use Rattle.cops_history.specs.Turns.{Turn}
use Rattle.cops_whole.specs.Whole.{LeadsOn, entries_at, place_there, seat_turns}
use Rattle.cops_whole.specs.Seats.{BehavesInSlot, IsAtShards, IsServedCluster, turns_by_actor}
use Rattle.cops_whole.specs.SmallCluster.{small_actors, small_collection, small_config, small_log, small_put, small_tenant, small_writer}
use Rattle.cops_whole.proofs.Nodes.{some_same}

-- ---- the node

abbrev audited_as : Turn → AuditEntry
audited_as t = record { moment = t.moment; call = t.call; reply = t.reply }

abbrev opened : Shared
opened = new_shared small_config 0

abbrev pub written : Shared
written = record opened { audit = noted 0 (audited_as small_put) opened.audit }

abbrev pub collected : Shared
collected = record written { audit = noted 1 (audited_as small_collection) written.audit }

put_others : (other : ℕ) → other ≢ 0 → trail_of other written.audit ≡ trail_of other opened.audit
put_others zero differ = absurd (differ refl)
put_others (suc zero) differ = refl
put_others (suc (suc other)) differ = refl

collect_others : (other : ℕ) → other ≢ 1 → trail_of other collected.audit ≡ trail_of other written.audit
collect_others zero differ = refl
collect_others (suc zero) differ = absurd (differ refl)
collect_others (suc (suc other)) differ = refl

pub put_is : IsMachineTurn opened 0 small_put.moment small_put.call small_put.reply written
put_is = record {
  own = λ place at. subst (λ (p : Place). IsSoloTurn 0 small_put.moment small_put.call small_put.reply p opened written) (some_same (place_there small_config (small_tenant 1) 0) place at) (refl, refl);
  noted = λ some. inr refl;
  vacant = λ none. (let never : Some (place_there small_config (small_tenant 1) 0) ≡ None = none in cc);
  others = put_others;
  home = refl;
  terms = refl;
}

pub collect_is : IsMachineTurn written 1 small_collection.moment small_collection.call small_collection.reply collected
collect_is = record {
  own = λ place at. subst (λ (p : Place). IsSoloTurn 1 small_collection.moment small_collection.call small_collection.reply p written collected) (some_same (place_there small_config (small_tenant 2) 0) place at) (refl, refl);
  noted = λ some. inr refl;
  vacant = λ none. (let never : Some (place_there small_config (small_tenant 2) 0) ≡ None = none in cc);
  others = collect_others;
  home = refl;
  terms = refl;
}

legal_there : (number : ℕ) → number < 1 → (left : Shared) × LeadsOn (new_shared small_config number) (entries_at number small_log) left
legal_there zero within = (collected, (written, inl put_is, (collected, inl collect_is, refl)))
legal_there (suc number) within = absurd (omega (arith, within))

-- ---- the actors

abbrev puts : Session
puts = request_begun 1 (Write (107 ∷ []) (118 ∷ [])) (context_created (new_session 0 1))

abbrev run : Running
run = record { number = 1; context = 1; action = Write (107 ∷ []) (118 ∷ []); log = [] }

abbrev step : LogStep
step = record { moment = 1; outcome = Replied small_put.reply }

abbrev its_config : TenantConfig
its_config = tenant_config small_config (small_tenant 1)

wrote : Behaves its_config None small_writer
wrote = (
  Some (OfSession (new_session 0 1)),
  (refl, refl, refl, refl),
  (
    Some (OfSession (context_created (new_session 0 1))),
    (new_session 0 1, refl, refl, refl, refl),
    (
      Some (OfSession puts),
      (refl, refl, (context_created (new_session 0 1), refl, refl, refl, refl)),
      (Some (OfSession (session_after puts run step (progress its_config (request_of puts run) [] step))), (puts, run, refl, refl, refl, refl, (refl, refl)), tt),
    ),
  ),
)

pub all_behave : (seat : ℕ) → AllByRecursion (BehavesInSlot small_config) (small_actors seat)
all_behave zero = ((small_tenant 1, refl, wrote), tt)
all_behave (suc zero) = ((small_tenant 2, refl, (None, (refl, refl, refl), tt)), tt)
all_behave (suc (suc seat)) = tt

at_shards : (seat : ℕ) → AllByRecursion (IsAtShards small_config) (small_actors seat)
at_shards zero = ((omega arith, tt), tt)
at_shards (suc zero) = ((omega arith, tt), tt)
at_shards (suc (suc seat)) = tt

apart : (n m : ℕ) → (n ≡ m → ⊥) → (n == m) ≡ false
apart n m differ = elim (n == m) as (λ b. (n == m) ≡ b → b ≡ false) [ true ↦ λ is. absurd (differ ((Decides-eqb n m).0 is)) | false ↦ λ is. refl ] refl

all_made : (seat : ℕ) → flat_map (turns_by_actor small_config seat) (small_actors seat) ≡ seat_turns seat small_log
all_made zero = refl
all_made (suc zero) = refl
all_made (suc (suc seat)) =
    let zeroth : (0 == suc (suc seat)) ≡ false = apart 0 (suc (suc seat)) (λ e. omega (arith, e)) in
    let one : (1 == suc (suc seat)) ≡ false = apart 1 (suc (suc seat)) (λ e. omega (arith, e)) in
    rw (zeroth, one) refl

pub nothing : (seat : ℕ) → 2 ≤ seat → small_actors seat ≡ []
nothing zero past = absurd (omega (arith, past))
nothing (suc zero) past = absurd (omega (arith, past))
nothing (suc (suc seat)) past = refl

pub small_cluster : IsServedCluster small_config small_log 2 small_actors
small_cluster = record {
  whole = record { there = (omega arith, (omega arith, tt)); legal = legal_there };
  behave = all_behave;
  shards = at_shards;
  make = all_made;
  few = nothing;
}
