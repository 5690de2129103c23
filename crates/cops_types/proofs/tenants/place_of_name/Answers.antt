use Rattle.std.proofs.Common.{◌∙◌, sym, refl}
use Rattle.cops_types.specs.Key.{is_name}
use Rattle.cops_types.proofs.SlotLemmas.{no_place, no_name}
use Rattle.cops_types.proofs.tenants.place_of_name.Goals as goal

pub returns-in-Err : goal.returns-in-Err
returns-in-Err c = sym (no_place c.args.names.now.keys c.args.name.now c.requires (no_name c.args.name.now c.in-Err.field-0 (is_name c.args.name.now) refl (sym c.new.ensures ∙ c.in-Err.is)))
