use Rattle.std.proofs.Common.{◌≡◌, ap, ◌∙◌, length, [], subst, sym}
use Rattle.std.specs.Prelude.{replicate}
use Rattle.cops_node.specs.declared.Home.{Home}
use Rattle.cops_node.specs.Parts.{IsNode, no_calls}
use Rattle.cops_node.proofs.Fresh.{IsNode-new, clocks_of, new_view, numbers_fit}
use Rattle.cops_node.proofs.Slots.{view_of}
use Rattle.cops_node.proofs.node.Node.new.Goals as goal

none : (c : goal.After-of) → c.in_ok-audit.audit.trails ≡ no_calls (length c.in_ok-parts.parts.items)
none c = c.in_ok-audit.ensures ∙ ap no_calls (c.len-tenants.ensures ∙ c.in_ok-parts.parts.ok.0)

pub invariant_of-result : goal.invariant_of-result
invariant_of-result c =
    let long : c.len-tenants.result ≡ length c.in_ok-parts.parts.items = c.len-tenants.ensures ∙ c.in_ok-parts.parts.ok.0 in
    subst (λ (h : Home). IsNode h c.in_ok-parts.parts.items c.in_ok-audit.audit.trails c.in_ok-store.store c.in_ok-outbox.outbox) (sym c.of.ensures)
    (IsNode-new c.args.config.now c.args.id c.in_ok-parts.parts.items c.in_ok-audit.audit.trails c.in_ok-store.store c.in_ok-outbox.outbox c.requires.dc_exists c.requires.shard_exists (numbers_fit c.args.config.now c.requires.sizes) (clocks_of c.args.config.now.tenants c.requires.clocks)
    c.in_ok-parts.ensures.fresh c.in_ok-parts.ensures.terms (c.in_ok-store.ensures.tenants ∙ long) (c.in_ok-outbox.ensures ∙ ap (λ n. record { own = c.args.id.dc; tenants = n; queues = replicate c.args.config.now.data_centres (replicate n []) }) long) c.in_ok-store.ensures.empty
    (none c))

pub returns : goal.returns
returns c =
    ap (λ (h : Home). view_of h c.in_ok-parts.parts.items c.in_ok-audit.audit.trails) c.of.ensures
    ∙ new_view c.args.config.now c.args.id c.in_ok-parts.parts.items c.in_ok-audit.audit.trails (none c) c.in_ok-parts.ensures.terms
