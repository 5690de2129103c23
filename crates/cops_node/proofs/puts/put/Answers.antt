use Rattle.std.proofs.Common.{◌∙◌, ◌/◌, ◌<◌, ap, sym, subst, length}
use Rattle.cops_types.specs.declared.records.EntryParts.{EntryParts as Entry}
use Rattle.cops_store.specs.Contents.{LacksVersion, rows_of, rows_in}
use Rattle.cops_node.specs.Parts.{place_under}
use Rattle.cops_node.proofs.Stored.{put_is_new, put_done, put_within}
use Rattle.cops_node.proofs.puts.put.Goals as goal

pub keep-requires-clause-new_version : goal.keep-requires-clause-new_version
keep-requires-clause-new_version c =
    let solo = c.requires.0 in
    let h = c.requires.2 in
    subst (λ rs. LacksVersion c.in_ok-entry.entry.key c.in_ok-entry.entry.version (rows_in c.args.caller.slot rs)) (sym c.reserve.ensures.rows)
    (subst (λ v. LacksVersion c.in_ok-entry.entry.key v (rows_of c.args.caller.slot c.args.storage.now.store)) (sym (ap (λ (e : Entry). e.version) c.in_ok-entry.ensures))
    (put_is_new c.args.caller.slot (place_under c.args.home.now c.args.terms.now) c.args.counters.now c.args.storage.now.store c.args.storage.now.outbox solo c.in_ok-entry.entry.key c.args.put.deps c.in-Ok.version h (c.in-Ok.ensures.version solo h)))

pub keep-requires-clause-data_centre : goal.keep-requires-clause-data_centre
keep-requires-clause-data_centre c =
    let solo = c.requires.0 in
    let h = c.requires.2 in
    subst (λ (e : Entry). e.version.node / c.args.home.now.shape.shards < length c.args.counters.now.marks.items) (sym c.in_ok-entry.ensures)
    (put_within c.args.caller.slot (place_under c.args.home.now c.args.terms.now) c.args.counters.now c.args.storage.now.store c.args.storage.now.outbox solo c.args.put.deps c.in-Ok.version h (c.in-Ok.ensures.version solo h))

pub returns-clause-done : goal.returns-clause-done
returns-clause-done c = λ solo moment h.
    put_done c.args.caller.slot c.args.caller.moment (place_under c.args.home.now c.args.terms.now) c.args.counters.now c.keep.new.counters c.args.storage.now.store c.reserve.new.self c.keep.new.store c.args.storage.now.outbox c.push.new.self solo
    c.args.put.key c.args.put.value c.args.put.deps c.args.put.near c.in-Ok.version c.own_mark-prev.result c.in_ok-entry.entry moment h (c.in-Ok.ensures.version solo h) (c.in-Ok.ensures.unrefused solo h)
    (c.own_mark-prev.ensures solo.recs h.marks) c.in_ok-entry.ensures c.reserve.ensures.rows c.reserve.ensures.tenants c.keep.ensures.stands_for c.keep.ensures.tenants c.keep.ensures.fits
    c.keep.ensures.clock c.keep.ensures.marks c.push.ensures.own c.push.ensures.tenants c.push.ensures.data_centres c.in-Ok-push.ensures.entry

pub returns-clause-others : goal.returns-clause-others
returns-clause-others c = record {
  rows = λ other differ. c.keep.ensures.others other differ ∙ ap (rows_in other) c.reserve.ensures.rows;
  queues = c.push.ensures.others;
  tenants = c.keep.ensures.tenants ∙ c.reserve.ensures.tenants;
  own = c.push.ensures.own;
  queued = c.push.ensures.tenants;
  data_centres = c.push.ensures.data_centres;
}
