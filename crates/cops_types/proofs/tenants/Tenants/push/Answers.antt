use Rattle.std.proofs.Common.{◌≡◌, ◌∷◌, ◌++◌, [], map, ◌∙◌, ap, sym, subst}
use Rattle.std.specs.Prelude.{IsTrue}
use Rattle.std.specs.Str.{bytes_eq}
use Rattle.indexmap.specs.IndexSet.{insert_key}
use Rattle.cops_types.specs.declared.configs.Tenant.{Tenant}
use Rattle.cops_types.specs.HeadLines.{is_distinct}
use Rattle.cops_types.specs.Slots.{AreDistinct, AreNamed}
use Rattle.cops_types.proofs.SlotLemmas.{indexed_more}
use Rattle.cops_types.proofs.tenants.Tenants.push.Goals as goal

pub invariant_of-self-2 : goal.invariant_of-self-2
invariant_of-self-2 c =
    let tenants = c.self.inside.tenants.items in
    let names = c.self.inside.names.keys in
    let tokens = c.self.inside.tokens.keys in
    let distinct : IsTrue (is_distinct tenants c.args.tenant) = subst (λ ts. IsTrue (is_distinct ts c.args.tenant)) (sym c.self.view_is) c.requires in
    let tenants_are : c.push.new.self.items ≡ tenants ++ c.args.tenant ∷ [] = c.in-Ok-Ok-Ok.ensures.items ∙ ap (λ ts. ts ++ c.args.tenant ∷ []) c.reserve.ensures.items in
    let names_are : c.insert.new.self.keys ≡ insert_key bytes_eq names c.args.tenant.name =
    c.in-Ok-Ok-Ok.ensures'.keys ∙ (λ i. insert_key bytes_eq (c.reserve-2.ensures.keys i) (c.name_of-name.ensures.value i)) in
    let tokens_are : c.insert-2.new.self.keys ≡ insert_key bytes_eq tokens c.args.tenant.token =
    c.in-Ok-Ok-Ok.ensures''.keys ∙ (λ i. insert_key bytes_eq (c.reserve-3.ensures.keys i) (c.into_bytes-token.ensures i)) in
    let more = indexed_more tenants c.args.tenant names tokens c.self.invariant c.name_of-name.ensures.name distinct in
    record {
      named = subst AreNamed (sym tenants_are) more.named;
      distinct = subst AreDistinct (sym tenants_are) more.distinct;
      names_are = names_are ∙ more.names_are ∙ ap (map (λ (t : Tenant). t.name)) (sym tenants_are);
      tokens_are = tokens_are ∙ more.tokens_are ∙ ap (map (λ (t : Tenant). t.token)) (sym tenants_are);
    }
