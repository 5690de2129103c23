use Rattle.std.proofs.Common.{arith, refl, ◌≡◌, ◌∙◌, ap, sym, subst, length, ◌++◌, ◌∷◌, [], true, false, deque_len}
use Rattle.std.specs.Prelude.{Some}
use Rattle.std.specs.List.{insert, prefix_len}
use Rattle.cops_types.specs.Version.{version_lt}
use Rattle.cops_types.specs.declared.records.Record.{Record}
use Rattle.cops_types.specs.declared.records.Dated.{Dated}
use Rattle.std.proofs.lemmas.List.Edits.{insert_end}
use Rattle.cops_types.proofs.VersionOrder.{version_cmp-lt}
use Rattle.cops_store.specs.Chains.{AreStaleInOrderBy, KeptChain, Rises, fresh_row, is_below, latest_row, placed}
use Rattle.cops_store.proofs.Chains.{ascends_front, placed_after, placed_among, prefix_within}
use Rattle.cops_store.proofs.chain.Chain.put.Goals as goal

pub place_of-i-requires : goal.place_of-i-requires
place_of-i-requires c = ascends_front c.self.inside.older.items (latest_row c.self.inside.latest) (subst (λ (k : KeptChain). Rises k.items) (sym c.self.view_is) c.requires.chain)

pub insert-requires : goal.insert-requires
insert-requires c =
    let len : deque_len c.self.inside.older ≡ length c.self.inside.older.items = c.self.inside.older.ok.0 in
    let within = prefix_within (is_below c.newest.inside.version) c.self.inside.older.items in
    let at = c.place_of-i.ensures in
    omega (arith, len, within, at)

pub returns-then-lt : goal.returns-then-lt
returns-then-lt c =
    let e = rw c.unwrap.ensures at c.push_back.ensures.items in
    let was = sym c.in-Some.ensures.value in
    let m : Record = c.in-Some.latest in
    let n : Record = c.args.record_of in
    let below : version_lt m.entry.version n.entry.version ≡ true =
    (λ i. version_lt (sym (c.latest.invariant ∙ ap (λ (r : Record). r.entry.version) c.latest.view_is) i) (sym (c.newest.invariant ∙ ap (λ (r : Record). r.entry.version) (c.newest.view_is ∙ c.of-newest.ensures)) i))
    ∙ sym (version_cmp-lt c.latest.inside.version c.newest.inside.version) ∙ sym c.lt.ensures ∙ c.if-lt.true in
    let shown = ap (λ o. c.self.inside.older.items ++ latest_row o) (sym was) ∙ ap (λ (k : KeptChain). k.items) c.self.view_is in
    (λ i. e i ++ fresh_row (c.of-newest.ensures i) ∷ [])
    ∙ ap (λ (r : Record). (c.self.inside.older.items ++ record { record_of = r; stale = Some n.at } ∷ []) ++ fresh_row n ∷ []) c.latest.view_is
    ∙ placed_after n m c.self.inside.older.items (subst Rises (sym shown) c.requires.chain) below ∙ ap (placed n) shown

pub returns-else-lt : goal.returns-else-lt
returns-else-lt c =
    let e = rw c.unwrap-else-lt.ensures at c.insert.ensures.items in
    let was = sym c.in-Some.ensures.value in
    let m : Record = c.in-Some.latest in
    let n : Record = c.args.record_of in
    let version = c.newest.invariant ∙ ap (λ (r : Record). r.entry.version) (c.newest.view_is ∙ c.of-newest.ensures) in
    let above : version_lt m.entry.version n.entry.version ≡ false =
    (λ i. version_lt (sym (c.latest.invariant ∙ ap (λ (r : Record). r.entry.version) c.latest.view_is) i) (sym version i))
    ∙ sym (version_cmp-lt c.latest.inside.version c.newest.inside.version) ∙ sym c.lt.ensures ∙ c.if-lt.false in
    let shown = ap (λ o. c.self.inside.older.items ++ latest_row o) (sym was) ∙ ap (λ (k : KeptChain). k.items) c.self.view_is in
    let at = c.place_of-i.ensures ∙ ap (λ v. prefix_len (is_below v) c.self.inside.older.items) version in
    ap (λ rows. rows ++ fresh_row m ∷ []) (e ∙ (λ i. insert c.self.inside.older.items (at i) (record { record_of = (c.newest.view_is ∙ c.of-newest.ensures) i; stale = Some n.at })))
    ∙ placed_among n m c.self.inside.older.items above ∙ ap (placed n) shown

pub stale_by_with-self-inside-requires-else-lt-clause-within : goal.stale_by_with-self-inside-requires-else-lt-clause-within
stale_by_with-self-inside-requires-else-lt-clause-within c =
    let within = prefix_within (is_below c.newest.inside.version) c.self.inside.older.items in
    omega (arith, within, c.place_of-i.ensures)

pub invariant_of-self : goal.invariant_of-self
invariant_of-self c =
    let e = rw c.unwrap.ensures at c.push_back.ensures.items in
    let rows = c.self.inside.older.items in
    let before : Dated = record { record_of = c.latest.inside.record_of; stale = Some c.args.record_of.at } in
    let len : c.len-i.result ≡ length rows = c.len-i.ensures ∙ c.self.inside.older.ok.0 in
    let by = c.stale_by_with-self-inside.result in
    (tt, subst (AreStaleInOrderBy by) (sym e) (subst (AreStaleInOrderBy by) (insert_end rows before) (subst (λ n. AreStaleInOrderBy by (insert rows n before)) len (c.stale_by_with-self-inside.ensures before refl))))
