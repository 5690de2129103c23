use Rattle.std.proofs.Common.{◌≡◌, ℕ, ◌<◌, List, length, sym, ◌∙◌}
use Rattle.cops_types.specs.declared.configs.Config.{Config}
use Rattle.cops_model.specs.declared.acts.Event.{Event}
use Rattle.cops_model.specs.declared.replies.Reply.{Reply}
use Rattle.cops_model.specs.Cluster.{new_cluster}
use Rattle.cops_model.specs.Events.{IsSpared, config_at, own, replies, solo_replies}
use Rattle.cops_model.specs.MainTheorem.{MainTheorem}
use Rattle.cops_causal.proofs.Runs.{goes_spared}
use Rattle.cops_causal.proofs.laws.tenants_with_memory_are_alone.Goals as goal

alone : (config : Config) (events : List Event) (told : List Reply) (slot : ℕ) → MainTheorem config events told → slot < length config.tenants → IsSpared (replies slot events told) →
    replies slot events told ≡ solo_replies (config_at config slot) (own slot events)
alone config events told slot theorem within spared =
    let run = theorem slot within in
    (goes_spared (config_at config slot) (own slot events) (replies slot events told) (new_cluster (config_at config slot)) run.left run.goes spared).0

pub returns-clause-alone : goal.returns-clause-alone
returns-clause-alone c = alone

pub returns-clause-agree : goal.returns-clause-agree
returns-clause-agree c = λ config other events more told heard slot place one two within there concern agree spared too.
    alone config events told slot one within spared ∙ (λ i. solo_replies (concern i) (agree i)) ∙ sym (alone other more heard place two there too)
