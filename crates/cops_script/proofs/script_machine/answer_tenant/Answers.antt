use Rattle.std.proofs.Common.{◌∙◌, ap, sym}
use Rattle.std.proofs.lemmas.Result.{on_ok_weaker}
use Rattle.cops_types.specs.declared.faults.Fault.TheVariants.{Syntax}
use Rattle.cops_types.specs.RequestErrors.{fault_told}
use Rattle.cops_types.specs.Words.{first_word}
use Rattle.cops_model.specs.declared.replies.Reply.TheVariants.{Refused}
use Rattle.cops_script.specs.Acting.{told_act}
use Rattle.cops_script.specs.ActLines.{act_in}
use Rattle.cops_script.proofs.MachineLemmas.{answers_nobody, answers_told, done_unwritten, done_written, open_found}
use Rattle.cops_script.proofs.script_machine.answer_tenant.Goals as goal

pub returns-in_default : goal.returns-in_default
returns-in_default g c =
    on_ok_weaker c.push_nobody.result
    (λ appended. answers_nobody g.W.Tenancy.setup g.W.Tenancy.StandsFor c.args.world.now c.args.line.now c.args.word.now c.tenants-tenants.result.now c.slot_of_name.result c.args.out.now.items c.push_nobody.new.out.items
    c.tenants-tenants.ensures c.requires.word c.slot_of_name.ensures c.in_default.is appended)
    c.push_nobody.ensures

pub name_at-name-requires : goal.name_at-name-requires
name_at-name-requires g c = open_found c.tenants-tenants.result.now c.args.word.now c.in-Some.slot (sym c.slot_of_name.ensures ∙ c.in-Some.is)

pub returns-in-Ok : goal.returns-in-Ok
returns-in-Ok g c =
    let line = c.args.line.now in
    on_ok_weaker c.push_answer.result
    (λ appended. answers_told g.W.Tenancy.setup g.W.Tenancy.StandsFor c.args.world.now c.act.new.self line c.args.word.now c.tenants-tenants.result.now c.slot_of_name.result c.in-Some.slot
    c.name_at-name.result c.in-Ok.reply c.args.out.now.items c.push_answer.new.out.items
    c.tenants-tenants.ensures c.requires.word c.slot_of_name.ensures c.in-Some.is c.name_at-name.ensures
    (done_written g.W.Tenancy.setup g.W.Tenancy.StandsFor c.args.world.now c.act.new.self c.in-Some.slot (act_in (first_word line) line) c.in-Some-read_act.act c.act.result c.in-Ok.reply (sym c.in-Some-words_of_act.ensures.some ∙ sym c.read_act.ensures ∙ c.in-Some-read_act.is) (sym (ap told_act c.in-Ok.is)) c.act.ensures)
    appended)
    c.push_answer.ensures

pub returns-in-Err : goal.returns-in-Err
returns-in-Err g c =
    let line = c.args.line.now in
    on_ok_weaker c.push_refusal-in-Err.result
    (λ appended. answers_told g.W.Tenancy.setup g.W.Tenancy.StandsFor c.args.world.now c.act.new.self line c.args.word.now c.tenants-tenants.result.now c.slot_of_name.result c.in-Some.slot
    c.name_at-name.result (Refused c.told.result) c.args.out.now.items c.push_refusal-in-Err.new.out.items
    c.tenants-tenants.ensures c.requires.word c.slot_of_name.ensures c.in-Some.is c.name_at-name.ensures
    (done_written g.W.Tenancy.setup g.W.Tenancy.StandsFor c.args.world.now c.act.new.self c.in-Some.slot (act_in (first_word line) line) c.in-Some-read_act.act c.act.result (Refused c.told.result) (sym c.in-Some-words_of_act.ensures.some ∙ sym c.read_act.ensures ∙ c.in-Some-read_act.is) (ap Refused (c.told.ensures ∙ ap fault_told c.from.ensures) ∙ sym (ap told_act c.in-Err.is)) c.act.ensures)
    appended)
    c.push_refusal-in-Err.ensures

pub returns-in-None : goal.returns-in-None
returns-in-None g c =
    let line = c.args.line.now in
    on_ok_weaker c.push_refusal-in-None.result
    (λ appended. answers_told g.W.Tenancy.setup g.W.Tenancy.StandsFor c.args.world.now c.args.world.now line c.args.word.now c.tenants-tenants.result.now c.slot_of_name.result c.in-Some.slot
    c.name_at-name.result (Refused Syntax) c.args.out.now.items c.push_refusal-in-None.new.out.items
    c.tenants-tenants.ensures c.requires.word c.slot_of_name.ensures c.in-Some.is c.name_at-name.ensures
    (done_unwritten g.W.Tenancy.setup g.W.Tenancy.StandsFor c.args.world.now c.in-Some.slot (act_in (first_word line) line) (sym c.in-Some-words_of_act.ensures.some ∙ sym c.read_act.ensures ∙ c.in-None.is))
    appended)
    c.push_refusal-in-None.ensures

pub returns-in_default-words_of_act : goal.returns-in_default-words_of_act
returns-in_default-words_of_act g c =
    let line = c.args.line.now in
    on_ok_weaker c.push_refusal.result
    (λ appended. answers_told g.W.Tenancy.setup g.W.Tenancy.StandsFor c.args.world.now c.args.world.now line c.args.word.now c.tenants-tenants.result.now c.slot_of_name.result c.in-Some.slot
    c.name_at-name.result (Refused Syntax) c.args.out.now.items c.push_refusal.new.out.items
    c.tenants-tenants.ensures c.requires.word c.slot_of_name.ensures c.in-Some.is c.name_at-name.ensures
    (done_unwritten g.W.Tenancy.setup g.W.Tenancy.StandsFor c.args.world.now c.in-Some.slot (act_in (first_word line) line) c.in_default-words_of_act.ensures.none)
    appended)
    c.push_refusal.ensures
