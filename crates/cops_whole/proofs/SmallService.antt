-- The small cluster is one that a service ran.
use Rattle.std.proofs.Common.{◌≡◌, ℕ, zero, suc, ◌<◌, ◌≤◌, [], ◌∷◌, inl, inr, refl, sym, subst, arith}
use Rattle.std.specs.Prelude.{None, Some}
use mathlib.Core.Option.{some, some-injective, some-ne-none}
use lib.ListN.{get_elem?}
use Rattle.cops_gate.specs.History.{IsLegal, IsWhole, turn, turns_at}
use Rattle.cops_gate.specs.Seats.{Origin}
use Rattle.cops_node.specs.Clusters.{new_shared}
use Rattle.cops_node.specs.Parts.{Shared, IsMachineTurn}
use Rattle.cops_service.specs.Gates.{openings}
use Rattle.cops_whole.specs.Services.{IsServiceRun, IsTurnAtNode, SeatDid}
use Rattle.cops_whole.specs.SmallCluster.{small_actors, small_collection, small_config, small_put, small_tenant}
use Rattle.cops_whole.specs.SmallService.{lacking_actors, lacking_collection, lacking_history, small_beginning, small_entry, small_gates, small_history, small_seat}
use Rattle.cops_whole.specs.Whole.{place_there}
use Rattle.cops_whole.proofs.SmallCluster.{all_behave, collect_is, collected, nothing, put_is, written}

abbrev opened : Shared
opened = new_shared small_config 0

module _ (gate : Origin Shared) where
  -- there is one node
  at_one : (P : ℕ → Shared → Type 0) → P 0 opened → (n : ℕ) (first : Shared) → get_elem? (openings (small_gates gate)) n ≡ some first → P n first
  at_one P holds zero first at = subst (P 0) (some-injective opened first at) holds
  at_one P holds (suc n) first at = absurd (some-ne-none first (sym at))

  whole_beginning : IsWhole IsMachineTurn (openings (small_gates gate)) small_beginning
  whole_beginning = ((omega arith, tt), at_one (λ n first. IsLegal IsMachineTurn first (turns_at n small_beginning)) (written, (written, put_is, refl)))

  whole_history : IsWhole IsMachineTurn (openings (small_gates gate)) small_history
  whole_history = ((omega arith, (omega arith, tt)), at_one (λ n first. IsLegal IsMachineTurn first (turns_at n small_history)) (collected, (written, put_is, (collected, collect_is, refl))))

  puts : IsTurnAtNode (small_gates gate) 0 (small_seat gate 0 []) 0 small_put.moment small_put.call small_put.reply (small_seat gate 0 small_beginning)
  puts = (refl, inl (whole_beginning, ([], refl), refl))

  collects : IsTurnAtNode (small_gates gate) 0 (small_seat gate 1 small_beginning) 1 small_collection.moment small_collection.call small_collection.reply (small_seat gate 1 small_history)
  collects = (refl, inl (whole_history, ([], refl), refl))

  all_did : (seat : ℕ) → seat < 2 → SeatDid small_config (small_gates gate) small_history seat (small_actors seat)
  all_did zero within = record {
    first = small_seat gate 0 [];
    last = small_seat gate 0 small_beginning;
    number_is = refl;
    no_turn = refl;
    made = (small_seat gate 0 small_beginning, (small_seat gate 0 small_beginning, (omega arith, puts), refl), refl);
    behave = all_behave 0;
    all_of = ((turn 1 0 (Some (small_entry 1 small_collection)) ∷ [], refl), refl);
  }
  all_did (suc zero) within = record {
    first = small_seat gate 1 small_beginning;
    last = small_seat gate 1 small_history;
    number_is = refl;
    no_turn = refl;
    made = (small_seat gate 1 small_history, (small_seat gate 1 small_history, (omega arith, collects), refl), refl);
    behave = all_behave 1;
    all_of = (([], refl), refl);
  }
  all_did (suc (suc seat)) within = absurd (omega (arith, within))

  legal_at_each : (number : ℕ) → number < 1 → IsLegal IsMachineTurn (new_shared small_config number) (turns_at number small_history)
  legal_at_each zero within = (collected, (written, put_is, (collected, collect_is, refl)))
  legal_at_each (suc number) within = absurd (omega (arith, within))

  pub small_service : IsServiceRun small_config (small_gates gate) small_history 2 small_actors
  small_service = record {
    gate = record { shards = refl; opened = refl; legal = legal_at_each };
    seated = (omega arith, (omega arith, tt));
    did = all_did;
    few = nothing;
  }

  -- ---- the collection was refused memory

  whole_lacking : IsWhole IsMachineTurn (openings (small_gates gate)) lacking_history
  whole_lacking = ((omega arith, (omega arith, tt)), at_one (λ n first. IsLegal IsMachineTurn first (turns_at n lacking_history)) (written, (written, put_is, (written, refl, refl))))

  lacks : IsTurnAtNode (small_gates gate) 0 (small_seat gate 1 small_beginning) 1 lacking_collection.moment lacking_collection.call lacking_collection.reply (small_seat gate 1 lacking_history)
  lacks = (refl, inr (refl, (whole_lacking, ([], refl), refl), (small_beginning, opened, written, refl, refl, (written, put_is, refl), (place_there small_config (small_tenant 2) 0, refl, refl))))

  did_lacking : (seat : ℕ) → seat < 2 → SeatDid small_config (small_gates gate) lacking_history seat (lacking_actors seat)
  did_lacking zero within = record {
    first = small_seat gate 0 [];
    last = small_seat gate 0 small_beginning;
    number_is = refl;
    no_turn = refl;
    made = (small_seat gate 0 small_beginning, (small_seat gate 0 small_beginning, (omega arith, puts), refl), refl);
    behave = all_behave 0;
    all_of = ((turn 1 0 None ∷ [], refl), refl);
  }
  did_lacking (suc zero) within = record {
    first = small_seat gate 1 small_beginning;
    last = small_seat gate 1 lacking_history;
    number_is = refl;
    no_turn = refl;
    made = (small_seat gate 1 lacking_history, (small_seat gate 1 lacking_history, (omega arith, lacks), refl), refl);
    behave = ((small_tenant 2, refl, (None, (refl, refl, refl), tt)), tt);
    all_of = (([], refl), refl);
  }
  did_lacking (suc (suc seat)) within = absurd (omega (arith, within))

  none_lacking : (seat : ℕ) → 2 ≤ seat → lacking_actors seat ≡ []
  none_lacking zero past = absurd (omega (arith, past))
  none_lacking (suc zero) past = absurd (omega (arith, past))
  none_lacking (suc (suc seat)) past = refl

  legal_lacking : (number : ℕ) → number < 1 → IsLegal IsMachineTurn (new_shared small_config number) (turns_at number lacking_history)
  legal_lacking zero within = (written, (written, put_is, (written, refl, refl)))
  legal_lacking (suc number) within = absurd (omega (arith, within))

  pub lacking_service : IsServiceRun small_config (small_gates gate) lacking_history 2 lacking_actors
  lacking_service = record {
    gate = record { shards = refl; opened = refl; legal = legal_lacking };
    seated = (omega arith, (omega arith, tt));
    did = did_lacking;
    few = none_lacking;
  }
