use Rattle.std.proofs.Common.{◌<◌, length}
use Rattle.indexmap.specs.IndexMap.{get}
use Rattle.cops_types.specs.Key.{key_eq}
use Rattle.cops_types.proofs.BegunSlots.{noted_more}
use Rattle.cops_types.proofs.open_tenants.note_all.Goals as goal

pub loop-slot-preserved : goal.loop-slot-preserved
loop-slot-preserved c =
    let tenants = c.args.tenants.now in
    let slot = c.loop-slot.slot in
    let tenant = c.index-tenants-slot.result in
    let below : slot < length tenants = c.loop-slot-test.true in
    record {
      names_are = noted_more (λ t. t.name) tenants slot tenant (get key_eq c.loop-slot.names) (get key_eq c.note.new.names) c.requires.distinct.names_apart below c.index-tenants-slot.is c.loop-slot.invariant.names_are c.in_ok-note.ensures.names;
      tokens_are = noted_more (λ t. t.token) tenants slot tenant (get key_eq c.loop-slot.tokens) (get key_eq c.note.new.tokens) c.requires.distinct.tokens_apart below c.index-tenants-slot.is c.loop-slot.invariant.tokens_are c.in_ok-note.ensures.tokens;
    }
