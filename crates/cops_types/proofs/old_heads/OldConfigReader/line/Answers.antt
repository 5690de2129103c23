use Rattle.std.proofs.Common.{◌≡◌, ◌∙◌, ap, sym}
use Rattle.std.specs.Prelude.{Some}
use Rattle.cops_types.specs.Head.{Within}
use Rattle.cops_types.specs.HeadProgress.{front_of}
use Rattle.cops_types.specs.HeadReader.{said_at, still_open}
use Rattle.cops_types.proofs.HeadReading.{old_front_joined, no_begin}
use Rattle.cops_types.proofs.old_heads.OldConfigReader.line.Goals as goal

pub returns-then-branch-clause-said : goal.returns-then-branch-clause-said
returns-then-branch-clause-said c =
    let begins = no_begin c.args.line.now c.as_slice.result.now c.ne.result c.ne.ensures c.as_slice.ensures c.if-ne.true in
    let at : c.args.self.now ≡ Some (Within c.in-Within.config) = sym c.self.view_is ∙ ap front_of c.in-Within.is in
    let joins = rw c.if-branch.true at c.in_ok-join.ensures.ok in
    sym (ap said_at (old_front_joined c.args.self.now c.in-Within.config c.join.new.config c.args.line.now at begins joins))

pub returns-then-branch-clause-front : goal.returns-then-branch-clause-front
returns-then-branch-clause-front c =
    let begins = no_begin c.args.line.now c.as_slice.result.now c.ne.result c.ne.ensures c.as_slice.ensures c.if-ne.true in
    let at : c.args.self.now ≡ Some (Within c.in-Within.config) = sym c.self.view_is ∙ ap front_of c.in-Within.is in
    let joins = rw c.if-branch.true at c.in_ok-join.ensures.ok in
    sym (ap still_open (old_front_joined c.args.self.now c.in-Within.config c.join.new.config c.args.line.now at begins joins))
