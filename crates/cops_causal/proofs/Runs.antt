-- Runs of a tenant alone beside the definition's: with ample memory, without a refusal of memory, and up to a first one.
use Rattle.std.proofs.Common.{◌≡◌, ◌++◌, arith, length, Bool, true, false, List, [], ◌∷◌, inl, inr, refl, sym, ◌∙◌, ap, subst, true≢false, ◌||◌}
use Rattle.std.specs.List.{list_any}
use Rattle.std.specs.Prelude.{None}
use Rattle.cops_types.specs.declared.faults.Fault.TheVariants.{OutOfMemory}
use Rattle.cops_types.specs.TenantConfig.{TenantConfig}
use Rattle.cops_model.specs.declared.acts.Act.{Act}
use Rattle.cops_model.specs.declared.acts.Act.TheVariants.{Open, Create, Delete, Put, Get, Show, Carry, Step, Done, Collect}
use Rattle.cops_model.specs.declared.replies.Reply.{Reply}
use Rattle.cops_model.specs.declared.replies.Reply.TheVariants.{Refused}
use Rattle.cops_model.specs.Causal.{stepped_actor}
use Rattle.cops_model.specs.Cluster.{SoloCluster, cluster_step}
use Rattle.cops_model.specs.Events.{IsFrontOf, IsSpared, before_lack, cluster_after, is_out_of_memory, replies_from}
use Rattle.cops_model.specs.Goes.{Goes, Turns}
use Rattle.cops_model.specs.Lacks.{Lacks}
use Rattle.cops_model.proofs.SparedActs.{act_spared}

by_test : {C : Type 0} (b : Bool) → (b ≡ true → C) → (b ≡ false → C) → C
by_test {C} true holds fails = holds refl
by_test {C} false holds fails = fails refl

-- the replies of a cluster of one's own are such a run, in which no memory was refused
pub goes_alone : (config : TenantConfig) (acts : List Act) (c : SoloCluster) → Goes config acts (replies_from config acts c) c (cluster_after config acts c)
goes_alone config [] c = refl
goes_alone config (act ∷ acts) c = let turn = cluster_step config act c in (turn.after, inl (refl, refl), goes_alone config acts turn.after)

-- a turn whose reply says nothing of memory is the definition's
pub exactly : (config : TenantConfig) (act : Act) (r : Reply) (c d : SoloCluster) → is_out_of_memory r ≡ false → Turns config act c r d → let turn = cluster_step config act c in (r ≡ turn.reply) × (d ≡ turn.after)
exactly config act r c d spared (inl is) = is
exactly config act r c d spared (inr (is, lacks)) = absurd (true≢false (sym (ap is_out_of_memory is) ∙ spared))

first_spared : (a b : Bool) → (a || b) ≡ false → a ≡ false
first_spared true b e = e
first_spared false b e = refl

later_spared : (a b : Bool) → (a || b) ≡ false → b ≡ false
later_spared true b e = absurd (true≢false e)
later_spared false b e = e

-- up to a first refusal the replies are the definition's
pub goes_front : (config : TenantConfig) (acts : List Act) (told : List Reply) (c d : SoloCluster) → Goes config acts told c d → IsFrontOf (before_lack told) (replies_from config acts c)
goes_front config [] [] c d goes = ([], refl)
goes_front config [] (r ∷ told) c d goes = absurd goes
goes_front config (act ∷ acts) [] c d goes = absurd goes
goes_front config (act ∷ acts) (r ∷ told) c d (between, turns, goes) =
    let turn = cluster_step config act c in
    by_test (is_out_of_memory r)
    (λ lack. rw lack (replies_from config (act ∷ acts) c, refl))
    (λ spared.
    let one = exactly config act r c between spared turns in
    let rest = subst (λ x. IsFrontOf (before_lack told) (replies_from config acts x)) one.1 (goes_front config acts told between d goes) in
    rw spared (rest.0, λ i. sym one.0 i ∷ rest.1 i))

-- without one they are all of them, and so is the cluster
pub goes_spared : (config : TenantConfig) (acts : List Act) (told : List Reply) (c d : SoloCluster) → Goes config acts told c d → IsSpared told → (told ≡ replies_from config acts c) × (d ≡ cluster_after config acts c)
goes_spared config [] [] c d same spared = (refl, same)
goes_spared config [] (r ∷ told) c d goes spared = absurd goes
goes_spared config (act ∷ acts) [] c d goes spared = absurd goes
goes_spared config (act ∷ acts) (r ∷ told) c d (between, turns, goes) spared =
    let turn = cluster_step config act c in
    let one = exactly config act r c between (first_spared (is_out_of_memory r) (list_any is_out_of_memory told) spared) turns in
    let rest = goes_spared config acts told between d goes (later_spared (is_out_of_memory r) (list_any is_out_of_memory told) spared) in
    ((λ i. one.0 i ∷ rest.0 i) ∙ ap (λ x. turn.reply ∷ replies_from config acts x) one.1, rest.1 ∙ ap (cluster_after config acts) one.1)

-- ---- an act without memory that steps nobody

-- it leaves the cluster
pub stays : (config : TenantConfig) (act : Act) (c d : SoloCluster) → stepped_actor act ≡ None → Lacks config act c d → d ≡ c
stays config (Open name dc) c d none lacks = lacks.1
stays config (Create name) c d none lacks = lacks.1
stays config (Delete name number) c d none lacks = absurd lacks
stays config (Put name number key value) c d none lacks = lacks.1
stays config (Get name number keys) c d none lacks = lacks.1
stays config (Show name number) c d none lacks = lacks.1
stays config (Carry name dc shard to_dc) c d none lacks = lacks.1
stays config (Step name moment) c d none lacks = absurd cc
stays config (Done name moment) c d none lacks = absurd cc
stays config (Collect dc shard moment) c d none lacks = lacks.1

stutter : (config : TenantConfig) (act : Act) (c d : SoloCluster) → stepped_actor act ≡ None → Turns config act c (Refused OutOfMemory) d → d ≡ c
stutter config act c d none (inl (same, left)) = absurd (true≢false (ap is_out_of_memory same ∙ act_spared config act c none))
stutter config act c d none (inr (same, lacks)) = stays config act c d none lacks

-- so that the others are a run without it
pub goes_without : (config : TenantConfig) (acts later : List Act) (told more : List Reply) (act : Act) (c d : SoloCluster) → length told ≡ length acts → stepped_actor act ≡ None →
    Goes config (acts ++ act ∷ later) (told ++ Refused OutOfMemory ∷ more) c d → Goes config (acts ++ later) (told ++ more) c d
goes_without config [] later [] more act c d same none (between, turns, goes) = subst (λ x. Goes config later more x d) (stutter config act c between none turns) goes
goes_without config [] later (r ∷ told) more act c d same none goes = absurd (omega (arith, same))
goes_without config (first ∷ acts) later [] more act c d same none goes = absurd (omega (arith, same))
goes_without config (first ∷ acts) later (r ∷ told) more act c d same none (between, turns, goes) = (between, turns, goes_without config acts later told more act between d (omega (arith, same)) none goes)
