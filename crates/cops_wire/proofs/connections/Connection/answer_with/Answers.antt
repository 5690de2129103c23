use Rattle.std.proofs.Common.{rules, ◌≡◌, true, false, length, vec_len, refl, sym, subst, ◌∙◌, take}
use Rattle.std.specs.Prelude.{◌==◌}
use Rattle.cops_types.proofs.CountLemmas.{HasRisenBy-start, HasRisenBy-next}
use Rattle.cops_types.specs.Source.{source_reader}
use Rattle.cops_wire.specs.Greeting.{CameBytes}
use Rattle.cops_wire.proofs.AnsweredRequests.{map_err, on_err}
use Rattle.cops_wire.proofs.AskedLemmas.{nil_if, not_nil}
use Rattle.cops_wire.proofs.ServedLemmas.{ends_clean, ends_inside, goes_by, goes_on_by, served_start, stops_between, stops_by, torn_by, torn_if, torn_told, torn_told_in_part}
use Rattle.cops_wire.proofs.connections.Connection.answer_with.Goals as goal

pub loop-init : goal.loop-init
loop-init g c = record {
  goes = λ stream answered e f. served_start g.A.Answering.Answers stream answered _ _ _ _ _ e f;
  reads = HasRisenBy-start _;
  read_failures = refl;
  write_failures = refl;
  ready = c.requires.ready;
}

pub returns-in_err-taken-clause-front : goal.returns-in_err-taken-clause-front
returns-in_err-taken-clause-front g c = λ stream answered e f.
    on_err c.from_residual.result (stops_by g.A.Answering.Answers stream answered _ _ _ _ _ _ _ _ c.loop.self.bytes.items _ c.as_slice-bytes.ensures.value (c.loop.invariant.goes stream answered e f) c.in_err-taken.ensures.front)

-- ---- something else than a request

pub returns-in_default-clause-served : goal.returns-in_default-clause-served
returns-in_default-clause-served g c = λ stream answered e f.
    torn_if c.tear.result _ _ c.tear.ensures.ended c.tear.ensures.ok (λ refusal. torn_told g.A.Answering.Answers stream answered _ _ _ _ _ _ _ (torn_by g.A.Answering.Answers stream answered _ _ _ _ _ _ _ _ c.loop.self.bytes.items _ c.as_slice-bytes.ensures.value (c.loop.invariant.goes stream answered e f) (rw c.in_default.is at c.in_ok-taken.ensures.ok)) refusal)

pub returns-in_default-clause-front : goal.returns-in_default-clause-front
returns-in_default-clause-front g c = λ stream answered e f.
    map_err c.tear.result c.tear.ensures.front (λ refusal. torn_told_in_part g.A.Answering.Answers stream answered _ _ _ _ _ _ _ (torn_by g.A.Answering.Answers stream answered _ _ _ _ _ _ _ _ c.loop.self.bytes.items _ c.as_slice-bytes.ensures.value (c.loop.invariant.goes stream answered e f) (rw c.in_default.is at c.in_ok-taken.ensures.ok)) refusal)

-- ---- the end of the input

pub returns-then-is_empty-clause-served : goal.returns-then-is_empty-clause-served
returns-then-is_empty-clause-served g c = λ stream answered e f.
    let goes = goes_by g.A.Answering.Answers stream answered _ _ _ _ _ _ _ _ c.loop.self.bytes.items _ _ c.in-Some.taken c.as_slice-bytes.ensures.value (c.loop.invariant.goes stream answered e f) (rw c.in-Some.is at c.in_ok-taken.ensures.ok) c.cut_front.ensures in
    let came = subst (λ n. CameBytes (g.R.Read.remaining (source_reader c.loop.self.source)) (g.R.Read.remaining (source_reader c.read_bytes.new.source)) (take n c.read_bytes.new.buffer)) c.if-count-eq0.true c.in_ok-count.ensures.came in
    ends_clean g.A.Answering.Answers stream answered _ _ _ _ _ _ _ _ goes.served goes.whole came (goes.rest ∙ nil_if _ (let same : vec_len c.cut_front.new.bytes ≡ length c.cut_front.new.bytes.items = search rules in subst (λ n. (n == 0) ≡ true) same (sym c.is_empty.ensures ∙ c.if-is_empty.true)))

pub returns-then-count-eq0-clause-served : goal.returns-then-count-eq0-clause-served
returns-then-count-eq0-clause-served g c = λ stream answered e f.
    let goes = goes_by g.A.Answering.Answers stream answered _ _ _ _ _ _ _ _ c.loop.self.bytes.items _ _ c.in-Some.taken c.as_slice-bytes.ensures.value (c.loop.invariant.goes stream answered e f) (rw c.in-Some.is at c.in_ok-taken.ensures.ok) c.cut_front.ensures in
    let came = subst (λ n. CameBytes (g.R.Read.remaining (source_reader c.loop.self.source)) (g.R.Read.remaining (source_reader c.read_bytes.new.source)) (take n c.read_bytes.new.buffer)) c.if-count-eq0.true c.in_ok-count.ensures.came in
    torn_if c.tear-then-count-eq0.result _ _ c.tear-then-count-eq0.ensures.ended c.tear-then-count-eq0.ensures.ok (λ refusal. torn_told g.A.Answering.Answers stream answered _ _ _ _ _ _ _ (ends_inside g.A.Answering.Answers stream answered _ _ _ _ _ _ _ _ goes.served came (λ none. not_nil c.cut_front.new.bytes.items (let same : vec_len c.cut_front.new.bytes ≡ length c.cut_front.new.bytes.items = search rules in subst (λ n. (n == 0) ≡ false) same (sym c.is_empty.ensures ∙ c.if-is_empty.false)) (sym goes.rest ∙ none))) refusal)

pub returns-then-count-eq0-clause-front : goal.returns-then-count-eq0-clause-front
returns-then-count-eq0-clause-front g c = λ stream answered e f.
    let goes = goes_by g.A.Answering.Answers stream answered _ _ _ _ _ _ _ _ c.loop.self.bytes.items _ _ c.in-Some.taken c.as_slice-bytes.ensures.value (c.loop.invariant.goes stream answered e f) (rw c.in-Some.is at c.in_ok-taken.ensures.ok) c.cut_front.ensures in
    let came = subst (λ n. CameBytes (g.R.Read.remaining (source_reader c.loop.self.source)) (g.R.Read.remaining (source_reader c.read_bytes.new.source)) (take n c.read_bytes.new.buffer)) c.if-count-eq0.true c.in_ok-count.ensures.came in
    map_err c.tear-then-count-eq0.result c.tear-then-count-eq0.ensures.front (λ refusal. torn_told_in_part g.A.Answering.Answers stream answered _ _ _ _ _ _ _ (ends_inside g.A.Answering.Answers stream answered _ _ _ _ _ _ _ _ goes.served came (λ none. not_nil c.cut_front.new.bytes.items (let same : vec_len c.cut_front.new.bytes ≡ length c.cut_front.new.bytes.items = search rules in subst (λ n. (n == 0) ≡ false) same (sym c.is_empty.ensures ∙ c.if-is_empty.false)) (sym goes.rest ∙ none))) refusal)

-- ---- what stops between

pub returns-in_err-count-clause-front : goal.returns-in_err-count-clause-front
returns-in_err-count-clause-front g c = λ stream answered e f.
    on_err c.from_residual-in_err-count.result (stops_between g.A.Answering.Answers stream answered _ _ _ _ _ _ _ _ (goes_by g.A.Answering.Answers stream answered _ _ _ _ _ _ _ _ c.loop.self.bytes.items _ _ c.in-Some.taken c.as_slice-bytes.ensures.value (c.loop.invariant.goes stream answered e f) (rw c.in-Some.is at c.in_ok-taken.ensures.ok) c.cut_front.ensures).served)

pub returns-in_err-extend_from_slice-clause-front : goal.returns-in_err-extend_from_slice-clause-front
returns-in_err-extend_from_slice-clause-front g c = λ stream answered e f.
    on_err c.from_residual-in_err-extend_from_slice.result (stops_between g.A.Answering.Answers stream answered _ _ _ _ _ _ _ _ (goes_by g.A.Answering.Answers stream answered _ _ _ _ _ _ _ _ c.loop.self.bytes.items _ _ c.in-Some.taken c.as_slice-bytes.ensures.value (c.loop.invariant.goes stream answered e f) (rw c.in-Some.is at c.in_ok-taken.ensures.ok) c.cut_front.ensures).served)

pub returns-clause-front : goal.returns-clause-front
returns-clause-front g c = λ stream answered e f. stops_between g.A.Answering.Answers stream answered _ _ _ _ _ _ _ _ (c.loop.invariant.goes stream answered e f)

pub loop-preserved : goal.loop-preserved
loop-preserved g c = record {
  goes = λ stream answered e f.
      goes_on_by g.A.Answering.Answers stream answered _ _ _ _ _ _ _ _ _ _ (goes_by g.A.Answering.Answers stream answered _ _ _ _ _ _ _ _ c.loop.self.bytes.items _ _ c.in-Some.taken c.as_slice-bytes.ensures.value (c.loop.invariant.goes stream answered e f) (rw c.in-Some.is at c.in_ok-taken.ensures.ok) c.cut_front.ensures) c.in_ok-count.ensures.came.read c.in_ok-extend_from_slice.ensures.items;
  reads = HasRisenBy-next _ _ c.loop.counter _ c.loop.invariant.reads c.read_bytes.ensures.reads;
  read_failures = c.in_ok-count.ensures.failures ∙ c.loop.invariant.read_failures;
  write_failures = c.in_ok-taken.ensures.same ∙ c.loop.invariant.write_failures;
  ready = c.answer_bytes.ensures.ready;
}
