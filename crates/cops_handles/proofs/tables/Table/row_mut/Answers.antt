use Rattle.std.proofs.Common.{◌≡◌, ◌∙◌, ap, sym, refl}
use Rattle.std.specs.Prelude.{None}
use Rattle.std.proofs.lemmas.Bool.{false≢true}
use Rattle.cops_handles.specs.Rows.{row_at, replaced}
use Rattle.cops_handles.proofs.RowLists.{AreIssued-replaced, row_at-found, row_at-none, set-found}
use Rattle.cops_handles.proofs.tables.Table.row_mut.Goals as goal

pub invariant_of-self-lent : goal.invariant_of-self-lent
invariant_of-self-lent g c w =
    let found = rw (c.as_slice.ensures.value, c.number.ensures) at c.in-Ok.ensures in
    let rows = set-found c.self.inside.rows.items c.in-Ok.place c.args.handle c.self.inside.next w w c.index_mut.result.now c.self.invariant found.within found.place c.index_mut.ensures.value refl in
    rw rows (AreIssued-replaced c.args.handle w c.self.inside.rows.items c.self.inside.next c.self.invariant)

pub unreachable-requires : goal.unreachable-requires
unreachable-requires g c =
    let found = rw (c.as_slice.ensures.value, c.number.ensures) at c.in-Err.ensures in
    let none : row_at c.args.handle c.args.self.now.rows ≡ None = ap (λ t. row_at c.args.handle t.rows) (sym c.self.view_is) ∙ row_at-none c.self.inside.rows.items c.in-Err.field-0 c.args.handle found.within found.place.0 found.place.1 in
    false≢true (rw none at c.requires)

pub returns : goal.returns
returns g c =
    let found = rw (c.as_slice.ensures.value, c.number.ensures) at c.in-Ok.ensures in (
      (
        refl,
        λ w.
            let rows = set-found c.self.inside.rows.items c.in-Ok.place c.args.handle c.self.inside.next w w c.index_mut.result.now c.self.invariant found.within found.place c.index_mut.ensures.value refl in
            λ i. record {
              rows = (rows ∙ ap (λ t. replaced c.args.handle w t.rows) c.self.view_is) i;
              next = ap (λ t. t.next) c.self.view_is i;
              limit = ap (λ t. t.limit) c.self.view_is i;
            },
      ),
      record {
        changed = tt;
        before = ap (λ t. row_at c.args.handle t.rows) (sym c.self.view_is)
            ∙ row_at-found c.self.inside.rows.items c.in-Ok.place c.args.handle c.self.inside.next c.index_mut.result.now c.self.invariant found.within found.place c.index_mut.ensures.value;
        in_order = rw (← c.self.view_is) c.self.invariant;
      },
    )
