use Rattle.std.proofs.Common.{◌∙◌, ◌∷◌, [], ap, max, subst, sym, zero-add}
use Rattle.cops_store.specs.Dues.{dues_in}
use Rattle.cops_store.specs.Lines.{chains_at}
use Rattle.cops_store.specs.declared.shared.Cleaned.{Cleaned}
use Rattle.cops_store.specs.Chains.{oldest_of}
use Rattle.cops_store.specs.Tables.{IsFreed, all_rows, chain_at, collect_chains_at}
use Rattle.cops_store.proofs.DueSteps.{IsKeptOf, cleaned_hit, cleaned_miss, drop_kept, kept_miss, kept_none, kept_some, pass_kept}
use Rattle.cops_store.proofs.Turns.{unchanged}
use Rattle.cops_store.proofs.shared.Tables.clean_first.Goals as goal

pub returns-then-not-is_hit-clause-chains : goal.returns-then-not-is_hit-clause-chains
returns-then-not-is_hit-clause-chains c = cleaned_miss c.args.now c.args.trans_time (dues_in c.args.self.now.due.slots c.args.dues.now) c.first-first.result.now (chains_at c.args.slot c.args.self.now.table) c.first-first.ensures (sym c.is_hit.ensures ∙ c.if-not-is_hit.true)

pub returns-then-not-is_hit-clause-freed : goal.returns-then-not-is_hit-clause-freed
returns-then-not-is_hit-clause-freed c =
    subst (λ (n : Cleaned). IsFreed n.freed (all_rows (chains_at c.args.slot c.args.self.now.table)) (all_rows (chains_at c.args.slot c.args.self.now.table))) (sym c.nothing_cleaned.ensures) (zero-add _, zero-add _)

pub returns-then-not-is_hit-clause-dues : goal.returns-then-not-is_hit-clause-dues
returns-then-not-is_hit-clause-dues c = λ d rest is.
    pass_kept c.args.now c.args.trans_time (chains_at c.args.slot c.args.self.now.table) (dues_in c.args.self.now.due.slots c.args.dues.now) _ rest d c.first-first.result.now c.stale-stale.result c.stale-stale.result is c.first-first.ensures c.pass.ensures.dues
    (subst (λ m. IsKeptOf c.args.now c.args.trans_time (chains_at c.args.slot c.args.self.now.table) c.first-first.result.now m (record { key = c.first-first.result.now.key; stale = m } ∷ [])) (sym c.stale-stale.ensures) (kept_miss c.args.now c.args.trans_time (chains_at c.args.slot c.args.self.now.table) c.first-first.result.now (sym c.is_hit.ensures ∙ c.if-not-is_hit.true)))

pub returns-then-not-is_hit-clause-turn : goal.returns-then-not-is_hit-clause-turn
returns-then-not-is_hit-clause-turn c = c.pass.ensures.turn c.args.slot c.requires.line

pub returns-then-not-is_hit-clause-others : goal.returns-then-not-is_hit-clause-others
returns-then-not-is_hit-clause-others c = unchanged c.args.slot c.args.self.now.table

pub returns-in-Some-clause-chains : goal.returns-in-Some-clause-chains
returns-in-Some-clause-chains c = c.clean_at-freed.ensures.chains ∙ ap (λ k. collect_chains_at c.args.now c.args.trans_time k (chains_at c.args.slot c.args.self.now.table)) c.key-key.ensures ∙ cleaned_hit c.args.now c.args.trans_time (dues_in c.args.self.now.due.slots c.args.dues.now) c.first-first.result.now (chains_at c.args.slot c.args.self.now.table) c.first-first.ensures (sym c.is_hit.ensures ∙ c.if-not-is_hit.false)

pub returns-in-Some-clause-dues : goal.returns-in-Some-clause-dues
returns-in-Some-clause-dues c = λ d rest is.
    pass_kept c.args.now c.args.trans_time (chains_at c.args.slot c.clean_at-freed.new.self) (dues_in c.args.self.now.due.slots c.args.dues.now) _ rest d c.first-first.result.now c.max-least.result c.max-least.result is c.first-first.ensures c.pass-in-Some.ensures.dues
    (kept_some c.args.now c.args.trans_time (chains_at c.args.slot c.clean_at-freed.new.self) c.first-first.result.now c.in-Some.oldest c.max-least.result (sym c.is_hit.ensures ∙ c.if-not-is_hit.false) (sym c.in-Some.is ∙ c.oldest_at.ensures ∙ ap (λ k. oldest_of (chain_at k (chains_at c.args.slot c.clean_at-freed.new.self))) c.key-key.ensures) (c.max-least.ensures ∙ ap (max c.in-Some.oldest) c.saturating_sub.ensures))

pub returns-in-Some-clause-turn : goal.returns-in-Some-clause-turn
returns-in-Some-clause-turn c = c.pass-in-Some.ensures.turn c.args.slot c.requires.line

pub returns-in-None-clause-chains : goal.returns-in-None-clause-chains
returns-in-None-clause-chains c = c.clean_at-freed.ensures.chains ∙ ap (λ k. collect_chains_at c.args.now c.args.trans_time k (chains_at c.args.slot c.args.self.now.table)) c.key-key.ensures ∙ cleaned_hit c.args.now c.args.trans_time (dues_in c.args.self.now.due.slots c.args.dues.now) c.first-first.result.now (chains_at c.args.slot c.args.self.now.table) c.first-first.ensures (sym c.is_hit.ensures ∙ c.if-not-is_hit.false)

pub returns-in-None-clause-dues : goal.returns-in-None-clause-dues
returns-in-None-clause-dues c = λ d rest is.
    drop_kept c.args.now c.args.trans_time (chains_at c.args.slot c.clean_at-freed.new.self) (dues_in c.args.self.now.due.slots c.args.dues.now) _ rest d c.first-first.result.now _ is c.first-first.ensures c.drop_first.ensures.dues
    (kept_none c.args.now c.args.trans_time (chains_at c.args.slot c.clean_at-freed.new.self) c.first-first.result.now _ (sym c.is_hit.ensures ∙ c.if-not-is_hit.false) (sym c.in-None.is ∙ c.oldest_at.ensures ∙ ap (λ k. oldest_of (chain_at k (chains_at c.args.slot c.clean_at-freed.new.self))) c.key-key.ensures))

pub returns-in-None-clause-turn : goal.returns-in-None-clause-turn
returns-in-None-clause-turn c = c.drop_first.ensures.turn c.args.slot c.requires.line
