use Rattle.std.proofs.Common.{◌≡◌, ◌∷◌, [], ◌&&◌, sym, ◌∙◌}
use Rattle.std.specs.Prelude.{codes, decimal, nat_le}
use Rattle.cops_types.specs.HeadLines.{is_between, most_shards}
use Rattle.cops_types.specs.HeadWords.{cluster_words}
use Rattle.cops_types.specs.Words.{parts_at, space}
use Rattle.cops_types.proofs.HeadLemmas.{sizes_fit}
use Rattle.cops_types.proofs.HeadReading.{are_within, cluster_parts, not_both, nothing_left, other_word, same_number, same_word, sizes_within, something_left, spelled_by}
use Rattle.cops_types.proofs.head_lines.cluster_of.Goals as goal

pub returns-in_err-next_word-clause-none : goal.returns-in_err-next_word-clause-none
returns-in_err-next_word-clause-none c = rw c.from_residual.ensures (λ config is.
    let words : c.of-words.result ≡ cluster_words config = c.of-words.ensures ∙ cluster_parts c.args.line.now config is in
    let none : c.of-words.result ≡ [] = c.in_err-next_word.ensures.0 in
    cc)

pub returns-then-ne-clause-none : goal.returns-then-ne-clause-none
returns-then-ne-clause-none c = λ config is.
    let words : c.of-words.result ≡ cluster_words config = c.of-words.ensures ∙ cluster_parts c.args.line.now config is in
    let first : c.in_ok-next_word.field-0.now ≡ codes "cluster" = cc (words, c.in_ok-next_word.ensures) in
    other_word c.in_ok-next_word.field-0.now (codes "cluster") c.as_slice.result.now c.ne.result c.ne.ensures c.as_slice.ensures c.if-ne.true first

pub returns-in_err-data_centres-clause-none : goal.returns-in_err-data_centres-clause-none
returns-in_err-data_centres-clause-none c = rw c.from_residual-in_err-data_centres.ensures (λ config is.
    let words : c.of-words.result ≡ cluster_words config = c.of-words.ensures ∙ cluster_parts c.args.line.now config is in
    let left : c.next_word.new.self ≡ decimal config.data_centres ∷ decimal config.shards ∷ decimal config.trans_time ∷ decimal config.restarts ∷ [] = cc (words, c.in_ok-next_word.ensures) in
    c.in_err-data_centres.ensures.none config.data_centres (decimal config.shards ∷ decimal config.trans_time ∷ decimal config.restarts ∷ []) (sizes_fit config is.within).data_centres left)

pub returns-in_err-shards-clause-none : goal.returns-in_err-shards-clause-none
returns-in_err-shards-clause-none c = rw c.from_residual-in_err-shards.ensures (λ config is.
    let words : c.of-words.result ≡ cluster_words config = c.of-words.ensures ∙ cluster_parts c.args.line.now config is in
    let left : c.next_number.new.words ≡ decimal config.shards ∷ decimal config.trans_time ∷ decimal config.restarts ∷ [] = cc (words, c.in_ok-next_word.ensures, c.in_ok-data_centres.ensures.some) in
    c.in_err-shards.ensures.none config.shards (decimal config.trans_time ∷ decimal config.restarts ∷ []) (sizes_fit config is.within).shards left)

pub returns-in_err-trans_time-clause-none : goal.returns-in_err-trans_time-clause-none
returns-in_err-trans_time-clause-none c = rw c.from_residual-in_err-trans_time.ensures (λ config is.
    let words : c.of-words.result ≡ cluster_words config = c.of-words.ensures ∙ cluster_parts c.args.line.now config is in
    let left : c.next_number-2.new.words ≡ decimal config.trans_time ∷ decimal config.restarts ∷ [] = cc (words, c.in_ok-next_word.ensures, c.in_ok-data_centres.ensures.some, c.in_ok-shards.ensures.some) in
    c.in_err-trans_time.ensures.none config.trans_time (decimal config.restarts ∷ []) (sizes_fit config is.within).trans_time left)

pub returns-in_err-restarts-clause-none : goal.returns-in_err-restarts-clause-none
returns-in_err-restarts-clause-none c = rw c.from_residual-in_err-restarts.ensures (λ config is.
    let words : c.of-words.result ≡ cluster_words config = c.of-words.ensures ∙ cluster_parts c.args.line.now config is in
    let left : c.next_number-3.new.words ≡ decimal config.restarts ∷ [] = cc (words, c.in_ok-next_word.ensures, c.in_ok-data_centres.ensures.some, c.in_ok-shards.ensures.some, c.in_ok-trans_time.ensures.some) in
    c.in_err-restarts.ensures.none config.restarts ([]) (sizes_fit config is.within).restarts left)

pub returns-then-not-is_empty-clause-none : goal.returns-then-not-is_empty-clause-none
returns-then-not-is_empty-clause-none c = λ config is.
    let words : c.of-words.result ≡ cluster_words config = c.of-words.ensures ∙ cluster_parts c.args.line.now config is in
    let left : c.next_number-4.new.words ≡ [] = cc (words, c.in_ok-next_word.ensures, c.in_ok-data_centres.ensures.some, c.in_ok-shards.ensures.some, c.in_ok-trans_time.ensures.some, c.in_ok-restarts.ensures.some) in
    something_left c.next_number-4.new.words c.is_empty.result c.is_empty.ensures c.if-not-is_empty.true left

pub returns-then-not-are_sizes-clause-none : goal.returns-then-not-are_sizes-clause-none
returns-then-not-are_sizes-clause-none c = λ config is.
    let words : c.of-words.result ≡ cluster_words config = c.of-words.ensures ∙ cluster_parts c.args.line.now config is in
    let fits = sizes_fit config is.within in
    let e1 : decimal c.in_ok-data_centres.data_centres ≡ decimal config.data_centres = cc (words, c.in_ok-next_word.ensures, c.in_ok-data_centres.ensures.some) in
    let s1 = same_number c.in_ok-data_centres.data_centres config.data_centres c.in_ok-data_centres.ensures.small fits.data_centres e1 in
    let e2 : decimal c.in_ok-shards.shards ≡ decimal config.shards = cc (words, c.in_ok-next_word.ensures, c.in_ok-data_centres.ensures.some, c.in_ok-shards.ensures.some) in
    let s2 = same_number c.in_ok-shards.shards config.shards c.in_ok-shards.ensures.small fits.shards e2 in
    let e4 : decimal c.in_ok-restarts.restarts ≡ decimal config.restarts = cc (words, c.in_ok-next_word.ensures, c.in_ok-data_centres.ensures.some, c.in_ok-shards.ensures.some, c.in_ok-trans_time.ensures.some, c.in_ok-restarts.ensures.some) in
    let s4 = same_number c.in_ok-restarts.restarts config.restarts c.in_ok-restarts.ensures.small fits.restarts e4 in
    not_both c.are_sizes.result c.if-not-are_sizes.true (c.are_sizes.ensures ∙ (λ i. is_between 1 8 (s1 i) && is_between 1 most_shards (s2 i) && nat_le (s4 i) 15) ∙ sizes_within config is.within)

pub returns-clause-some : goal.returns-clause-some
returns-clause-some c =
    let first = same_word c.in_ok-next_word.field-0.now (codes "cluster") c.as_slice.result.now c.ne.result c.ne.ensures c.as_slice.ensures c.if-ne.false in
    let last = nothing_left c.next_number-4.new.words c.is_empty.result c.is_empty.ensures c.if-not-is_empty.false in
    let words : parts_at space c.args.line.now ≡ codes "cluster" ∷ decimal c.in_ok-data_centres.data_centres ∷ decimal c.in_ok-shards.shards ∷ decimal c.in_ok-trans_time.trans_time ∷ decimal c.in_ok-restarts.restarts ∷ [] =
    cc (c.of-words.ensures, first, last, c.in_ok-next_word.ensures, c.in_ok-data_centres.ensures.some, c.in_ok-shards.ensures.some, c.in_ok-trans_time.ensures.some, c.in_ok-restarts.ensures.some) in
    record {
      spelled = spelled_by c.args.line.now _ words;
      within = are_within c.in_ok-data_centres.data_centres c.in_ok-shards.shards c.in_ok-trans_time.trans_time c.in_ok-restarts.restarts (sym c.are_sizes.ensures ∙ c.if-not-are_sizes.false) c.in_ok-trans_time.ensures.small;
      bare = c.new.ensures;
    }
