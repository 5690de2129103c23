use Rattle.std.proofs.Common.{◌≡◌, map, take}
use Rattle.std.specs.Prelude.{IfSome, Some}
use Rattle.std.specs.List.{AllByRecursion}
use Rattle.cops_node.specs.Parts.{IsFresh, terms_in, terms_of}
use Rattle.cops_node.proofs.parts.fresh_parts.Given as goal

abbrev pub invariant-loop-tenant : goal.invariant-loop-tenant
invariant-loop-tenant l = record {
  fresh : AllByRecursion (λ p. IfSome p (IsFresh l.config.data_centres)) l.parts.items;
  terms : terms_in l.parts.items ≡ map (λ t. Some (terms_of t)) (take l.tenant-index l.tenants);
}
