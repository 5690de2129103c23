-- Within the limits of a head every answer fits a frame.
use Rattle.std.proofs.Common.{◌≡◌, ℕ, ◌+◌, ◌*◌, ◌≤◌, true, List, [], ◌∷◌, ◌++◌, map, length, refl, ap, ◌∙◌, arith, length-append}
use Rattle.std.specs.Prelude.{◌&&◌, Option, Some, None}
use Rattle.std.specs.Option.{option_map, option_map_or}
use Rattle.std.specs.List.{flat_map, list_all, AllByRecursion}
use Rattle.std.proofs.lemmas.Bool.Decides.{nat_tests}
use Rattle.byteorder.specs.Endian.{big_bytes}
use Rattle.byteorder.specs.Numbers.{length-bytes_high_first}
use Rattle.cops_types.specs.declared.contexts.ReadParts.{ReadParts as Read}
use Rattle.cops_types.specs.declared.pairs.Pair.{Pair}
use Rattle.cops_model.specs.declared.requests.Answer.TheVariants as answer
use Rattle.cops_wire.specs.Fitting.{longest_body}
use Rattle.cops_wire.specs.Requests.{AreLimited, IsLimited, are_counted, is_counted, is_one_frame, link_to, message_of_answer, outcome_of_read, values_of}
use Rattle.cops_types.specs.Layout.{number_of_version}
use Rattle.cops_wire.specs.Spelling.{body_of, held_of, link_of, outcome_of, parts_of, spelled_key, spelled_value, spelled_version}

text_size : (n : ℕ) (bytes : List ℕ) → length (big_bytes n (length bytes) ++ bytes) ≡ n + length bytes
text_size n bytes = length-append (big_bytes n (length bytes)) bytes ∙ ap (λ k. k + length bytes) (length-bytes_high_first n (length bytes))

link_size : (pair : Pair) → length pair.key ≤ 64 → length (link_of (link_to pair)) ≤ 73
link_size pair few =
    let all = length-append (spelled_key pair.key) (spelled_version pair.version) in
    let key = text_size 1 pair.key in
    let version = length-bytes_high_first 8 (number_of_version pair.version) in
    omega (arith, all, key, version, few)

links_size : (pairs : List Pair) → AllByRecursion (λ pair. length pair.key ≤ 64) pairs → length (flat_map link_of (map link_to pairs)) ≤ length pairs * 73
links_size [] h = omega arith
links_size (pair ∷ pairs) h =
    let all = length-append (link_of (link_to pair)) (flat_map link_of (map link_to pairs)) in
    let first = link_size pair h.0 in
    let others = links_size pairs h.1 in
    omega (arith, all, first, others)

-- what a key had, behind its flag
held_size : (read : Read) (value : Option (List ℕ)) → option_map_or length value 0 ≤ 4096 → length read.deps ≤ 1024 → AllByRecursion (λ pair. length pair.key ≤ 64) read.deps
    → length (held_of (option_map (λ v. record { value = v; version = read.version; deps = map link_to read.deps }) value)) ≤ 78861
held_size read None short few keys = omega arith
held_size read (Some value) short few keys =
    let rest = length-append (spelled_version read.version) (parts_of 2 link_of (map link_to read.deps)) in
    let all = length-append (spelled_value value) (spelled_version read.version ++ parts_of 2 link_of (map link_to read.deps)) in
    let text = text_size 2 value in
    let version = length-bytes_high_first 8 (number_of_version read.version) in
    let count = length-bytes_high_first 2 (length (map link_to read.deps)) in
    let parts = length-append (big_bytes 2 (length (map link_to read.deps))) (flat_map link_of (map link_to read.deps)) in
    let links = links_size read.deps keys in
    omega (arith, rest, all, text, version, count, parts, links, short, few)

outcome_size : (read : Read) → IsLimited read → length (outcome_of (outcome_of_read read)) ≤ 78926
outcome_size read h =
    let all = length-append (spelled_key read.key) (held_of (outcome_of_read read).held) in
    let key = text_size 1 read.key in
    let held = held_size read read.value h.1 h.2 h.3 in
    omega (arith, all, key, held, h.0)

outcomes_size : (reads : List Read) → AllByRecursion IsLimited reads → length (flat_map outcome_of (map outcome_of_read reads)) ≤ length reads * 78926
outcomes_size [] h = omega arith
outcomes_size (read ∷ reads) h =
    let all = length-append (outcome_of (outcome_of_read read)) (flat_map outcome_of (map outcome_of_read reads)) in
    let first = outcome_size read h.0 in
    let others = outcomes_size reads h.1 in
    omega (arith, all, first, others)

counted : (reads : List Read) → AllByRecursion IsLimited reads → list_all is_counted reads ≡ true
counted [] h = refl
counted (read ∷ reads) h =
    let others = counted reads h.1 in
    let short = h.0.1 in
    let few = h.0.2 in
    let first : is_counted read ≡ true = grind (arith, nat_tests) in
    ap (λ b. b && list_all is_counted reads) first ∙ others

fit : (reads : List Read) → AreLimited reads → is_one_frame reads ≡ true
fit reads h =
    let all = counted reads h.1 in
    let few = h.0 in
    let parts = length-append (big_bytes 1 (length (map outcome_of_read reads))) (flat_map outcome_of (map outcome_of_read reads)) in
    let count = length-bytes_high_first 1 (length (map outcome_of_read reads)) in
    let outcomes = outcomes_size reads h.1 in
    let short : length (body_of (values_of reads)) ≤ longest_body = omega (arith, parts, count, outcomes, few) in
    let each : are_counted reads ≡ true = grind (arith, nat_tests) in
    grind (arith, nat_tests)

pub limited : (reads : List Read) → AreLimited reads → message_of_answer (answer.Values reads) ≡ values_of reads
limited reads h = rw (fit reads h) refl
