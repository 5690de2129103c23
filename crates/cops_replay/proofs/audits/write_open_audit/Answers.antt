use Rattle.cops_replay.proofs.Names.{subst, ap, ◌∙◌, Appends, on_ok_weaker, AppendsFront, sink_writer, open_audit_of, open_slots, open_tenants}
use Rattle.cops_replay.proofs.OpenAuditLemmas.{formed_of_found, nodes_of_found, open_replays, open_says, text_of_found}
use Rattle.cops_replay.proofs.PageLemmas.{front_of_none}
use Rattle.cops_replay.proofs.audits.write_open_audit.Goals as goal

pub returns-in_err-found-clause-front : goal.returns-in_err-found-clause-front
returns-in_err-found-clause-front g c = front_of_none (g.W.Write.contents (sink_writer c.args.sink.now)) (open_audit_of c.args.config.now c.args.tenants.now c.args.nodes.now)

pub returns-in_err-slots-clause-front : goal.returns-in_err-slots-clause-front
returns-in_err-slots-clause-front g c = front_of_none (g.W.Write.contents (sink_writer c.args.sink.now)) (open_audit_of c.args.config.now c.args.tenants.now c.args.nodes.now)

pub returns-in_err-found-clause-replays : goal.returns-in_err-found-clause-replays
returns-in_err-found-clause-replays g c = open_replays c.args.config.now c.args.tenants.now c.args.nodes.now c.requires.nodes c.audits_fit.ensures

pub returns-in_err-slots-clause-replays : goal.returns-in_err-slots-clause-replays
returns-in_err-slots-clause-replays g c = open_replays c.args.config.now c.args.tenants.now c.args.nodes.now c.requires.nodes c.audits_fit.ensures

pub returns-clause-replays : goal.returns-clause-replays
returns-clause-replays g c = open_replays c.args.config.now c.args.tenants.now c.args.nodes.now c.requires.nodes c.audits_fit.ensures

pub returns-in_err-found-clause-says_same : goal.returns-in_err-found-clause-says_same
returns-in_err-found-clause-says_same g c =
    open_says c.args.config.now c.args.tenants.now c.args.nodes.now (open_replays c.args.config.now c.args.tenants.now c.args.nodes.now c.requires.nodes c.audits_fit.ensures)

pub returns-in_err-slots-clause-says_same : goal.returns-in_err-slots-clause-says_same
returns-in_err-slots-clause-says_same g c =
    open_says c.args.config.now c.args.tenants.now c.args.nodes.now (open_replays c.args.config.now c.args.tenants.now c.args.nodes.now c.requires.nodes c.audits_fit.ensures)

pub returns-clause-says_same : goal.returns-clause-says_same
returns-clause-says_same g c =
    open_says c.args.config.now c.args.tenants.now c.args.nodes.now (open_replays c.args.config.now c.args.tenants.now c.args.nodes.now c.requires.nodes c.audits_fit.ensures)

pub write_audit_at-requires-clause-nodes : goal.write_audit_at-requires-clause-nodes
write_audit_at-requires-clause-nodes g c =
    let by_slot = c.as_slice-by_slot.ensures.value in
    nodes_of_found c.args.config.now c.args.tenants.now c.args.nodes.now c.as_slice.result.now c.as_slice-2.result.now (record {
      found_are = c.as_slice.ensures.value ∙ c.in_ok-found.ensures ∙ ap open_tenants by_slot;
      slots_are = c.as_slice-2.ensures.value ∙ c.in_ok-slots.ensures ∙ ap open_slots by_slot;
    }) c.requires.nodes

pub returns-clause-ok : goal.returns-clause-ok
returns-clause-ok g c =
    on_ok_weaker c.write_audit_at.result
    (subst (Appends (g.W.Write.contents (sink_writer c.args.sink.now)) (g.W.Write.contents (sink_writer c.write_audit_at.new.sink)))
    (text_of_found c.args.config.now c.args.tenants.now c.args.nodes.now c.as_slice.result.now c.as_slice-2.result.now (record {
      found_are = c.as_slice.ensures.value ∙ c.in_ok-found.ensures ∙ ap open_tenants c.as_slice-by_slot.ensures.value;
      slots_are = c.as_slice-2.ensures.value ∙ c.in_ok-slots.ensures ∙ ap open_slots c.as_slice-by_slot.ensures.value;
    }))) c.write_audit_at.ensures.ok

pub returns-clause-front : goal.returns-clause-front
returns-clause-front g c =
    subst (AppendsFront (g.W.Write.contents (sink_writer c.args.sink.now)) (g.W.Write.contents (sink_writer c.write_audit_at.new.sink)))
    (text_of_found c.args.config.now c.args.tenants.now c.args.nodes.now c.as_slice.result.now c.as_slice-2.result.now (record {
      found_are = c.as_slice.ensures.value ∙ c.in_ok-found.ensures ∙ ap open_tenants c.as_slice-by_slot.ensures.value;
      slots_are = c.as_slice-2.ensures.value ∙ c.in_ok-slots.ensures ∙ ap open_slots c.as_slice-by_slot.ensures.value;
    })) c.write_audit_at.ensures.front

pub returns-clause-formed : goal.returns-clause-formed
returns-clause-formed g c =
    on_ok_weaker c.write_audit_at.result (formed_of_found c.args.config.now c.args.tenants.now c.args.nodes.now c.as_slice.result.now c.as_slice-2.result.now (record {
      found_are = c.as_slice.ensures.value ∙ c.in_ok-found.ensures ∙ ap open_tenants c.as_slice-by_slot.ensures.value;
      slots_are = c.as_slice-2.ensures.value ∙ c.in_ok-slots.ensures ∙ ap open_slots c.as_slice-by_slot.ensures.value;
    })) c.write_audit_at.ensures.formed
