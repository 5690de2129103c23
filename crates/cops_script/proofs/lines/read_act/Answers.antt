use Rattle.std.proofs.Common.{refl, ◌∙◌}
use Rattle.std.specs.Prelude.{codes}
use Rattle.cops_types.specs.Words.{space}
use Rattle.cops_types.proofs.WordLemmas.{lacks_from_test}
use Rattle.cops_script.proofs.ActReading.{no_verb, unlike, verb_read}
use Rattle.cops_script.proofs.lines.read_act.Goals as goal

pub returns-in-Some : goal.returns-in-Some
returns-in-Some c =
    c.read_put.ensures ∙ verb_read c.args.words.now (codes "put") c.as_slice.result.now c.in-Some.rest.now c.as_slice.ensures (lacks_from_test space (codes "put") refl) c.in-Some.ensures.some

pub returns-in-Some-behind_word : goal.returns-in-Some-behind_word
returns-in-Some-behind_word c =
    c.read_get.ensures ∙ verb_read c.args.words.now (codes "get") c.as_slice-2.result.now c.in-Some-behind_word.rest.now c.as_slice-2.ensures (lacks_from_test space (codes "get") refl) c.in-Some-behind_word.ensures.some

pub returns-in-Some-behind_word-2 : goal.returns-in-Some-behind_word-2
returns-in-Some-behind_word-2 c =
    c.read_step.ensures ∙ verb_read c.args.words.now (codes "step") c.as_slice-3.result.now c.in-Some-behind_word-2.rest.now c.as_slice-3.ensures (lacks_from_test space (codes "step") refl) c.in-Some-behind_word-2.ensures.some

pub returns-in-Some-behind_word-3 : goal.returns-in-Some-behind_word-3
returns-in-Some-behind_word-3 c =
    c.read_done.ensures ∙ verb_read c.args.words.now (codes "done") c.as_slice-4.result.now c.in-Some-behind_word-3.rest.now c.as_slice-4.ensures (lacks_from_test space (codes "done") refl) c.in-Some-behind_word-3.ensures.some

pub returns-in-Some-behind_word-4 : goal.returns-in-Some-behind_word-4
returns-in-Some-behind_word-4 c =
    c.read_open.ensures ∙ verb_read c.args.words.now (codes "open") c.as_slice-5.result.now c.in-Some-behind_word-4.rest.now c.as_slice-5.ensures (lacks_from_test space (codes "open") refl) c.in-Some-behind_word-4.ensures.some

pub returns-in-Some-behind_word-5 : goal.returns-in-Some-behind_word-5
returns-in-Some-behind_word-5 c =
    c.read_create.ensures ∙ verb_read c.args.words.now (codes "ctx") c.as_slice-6.result.now c.in-Some-behind_word-5.rest.now c.as_slice-6.ensures (lacks_from_test space (codes "ctx") refl) c.in-Some-behind_word-5.ensures.some

pub returns-in-Some-behind_word-6 : goal.returns-in-Some-behind_word-6
returns-in-Some-behind_word-6 c =
    c.read_delete.ensures ∙ verb_read c.args.words.now (codes "drop") c.as_slice-7.result.now c.in-Some-behind_word-6.rest.now c.as_slice-7.ensures (lacks_from_test space (codes "drop") refl) c.in-Some-behind_word-6.ensures.some

pub returns-in-Some-behind_word-7 : goal.returns-in-Some-behind_word-7
returns-in-Some-behind_word-7 c =
    c.read_show.ensures ∙ verb_read c.args.words.now (codes "show") c.as_slice-8.result.now c.in-Some-behind_word-7.rest.now c.as_slice-8.ensures (lacks_from_test space (codes "show") refl) c.in-Some-behind_word-7.ensures.some

pub returns-in-Some-behind_word-8 : goal.returns-in-Some-behind_word-8
returns-in-Some-behind_word-8 c =
    c.read_carry.ensures ∙ verb_read c.args.words.now (codes "carry") c.as_slice-9.result.now c.in-Some-behind_word-8.rest.now c.as_slice-9.ensures (lacks_from_test space (codes "carry") refl) c.in-Some-behind_word-8.ensures.some

pub returns-in-Some-behind_word-9 : goal.returns-in-Some-behind_word-9
returns-in-Some-behind_word-9 c =
    c.read_collect.ensures ∙ verb_read c.args.words.now (codes "collect") c.as_slice-10.result.now c.in-Some-behind_word-9.rest.now c.as_slice-10.ensures (lacks_from_test space (codes "collect") refl) c.in-Some-behind_word-9.ensures.some

pub returns : goal.returns
returns c =
    let words = c.args.words.now in
    no_verb words
    (unlike words (codes "put") c.as_slice.result.now c.as_slice.ensures c.in_default.ensures.none)
    (unlike words (codes "get") c.as_slice-2.result.now c.as_slice-2.ensures c.in_default-behind_word.ensures.none)
    (unlike words (codes "step") c.as_slice-3.result.now c.as_slice-3.ensures c.in_default-behind_word-2.ensures.none)
    (unlike words (codes "done") c.as_slice-4.result.now c.as_slice-4.ensures c.in_default-behind_word-3.ensures.none)
    (unlike words (codes "open") c.as_slice-5.result.now c.as_slice-5.ensures c.in_default-behind_word-4.ensures.none)
    (unlike words (codes "ctx") c.as_slice-6.result.now c.as_slice-6.ensures c.in_default-behind_word-5.ensures.none)
    (unlike words (codes "drop") c.as_slice-7.result.now c.as_slice-7.ensures c.in_default-behind_word-6.ensures.none)
    (unlike words (codes "show") c.as_slice-8.result.now c.as_slice-8.ensures c.in_default-behind_word-7.ensures.none)
    (unlike words (codes "carry") c.as_slice-9.result.now c.as_slice-9.ensures c.in_default-behind_word-8.ensures.none)
    (unlike words (codes "collect") c.as_slice-10.result.now c.as_slice-10.ensures c.in_default-behind_word-9.ensures.none)
