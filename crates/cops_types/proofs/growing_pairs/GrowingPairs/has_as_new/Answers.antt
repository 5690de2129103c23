use Rattle.std.proofs.Common.{◌≡◌, Bool, true, false, not, ◌∙◌, refl, ap, is_lt, get_or, sym}
use Rattle.std.proofs.lemmas.List.{get_or_default}
use Rattle.cops_types.specs.declared.pairs.Pair.{Pair}
use Rattle.cops_types.specs.Version.{version_cmp}
use Rattle.cops_types.proofs.GreatestLists.{put_under}
use Rattle.cops_types.proofs.growing_pairs.GrowingPairs.has_as_new.Goals as goal

untrue : (b : Bool) → not b ≡ true → b ≡ false
untrue true h = absurd cc
untrue false h = refl

pub returns-in-Ok : goal.returns-in-Ok
returns-in-Ok c = λ is.
    let found = c.in-Ok.ensures in
    let pairs = c.args.self.now.pairs in
    let pair = c.args.pair.now in
    let place = c.in-Ok.place in
    let own : Pair = get_or pairs place pair in
    let newer = sym c.lt-is_older.ensures ∙ untrue c.lt-is_older.result is in
    put_under pairs place pair own c.requires found.within found.place (get_or_default pairs place pair own found.within)
    (ap (λ v. is_lt (version_cmp v pair.version)) (c.version.ensures pair) ∙ newer)
