use Rattle.std.proofs.Common.{◌∙◌, ap, append_assoc}
use Rattle.std.proofs.lemmas.Result.{on_ok_weaker}
use Rattle.std.specs.Prelude.{◌++◌, codes}
use Rattle.cops_types.specs.Words.{version_text}
use Rattle.cops_script.proofs.texts.push_mark.Goals as goal

pub returns : goal.returns
returns c =
    let out = c.args.out.now.items in
    let text = version_text c.args.mark in
    on_ok_weaker c.push_version.result (λ more. more ∙ ap (λ front. front ++ text) c.in_ok-push_word.ensures ∙ append_assoc out (codes "outoforder ") text) c.push_version.ensures.ok
