-- What can be counted, and what a key had.
use Rattle.std.proofs.Common.{◌≡◌, ℕ, ◌≤◌, true, List, ◌∷◌, ◌++◌, map, length, take, sym, ap, ◌∙◌, arith}
use Rattle.std.specs.Prelude.{Option, Some}
use Rattle.std.specs.Option.{option_map, option_map_or}
use Rattle.std.proofs.lemmas.Bool.Decides.{nat_tests}
use Rattle.std.proofs.lemmas.List.{length-map, take_all}
use Rattle.std.specs.List.{flat_map, list_all}
use Rattle.byteorder.specs.Endian.{big_bytes}
use Rattle.cops_types.specs.declared.contexts.ReadParts.{ReadParts as Read}
use Rattle.cops_wire.specs.Requests.{are_counted, is_counted, link_to, outcome_of_read, values_of}
use Rattle.cops_wire.specs.Spelling.{body_of, held_of, link_of, outcome_of, parts_of, spelled_value, spelled_version}

pub counted_deps : (read : Read) → is_counted read ≡ true → length read.deps ≤ 65535
counted_deps read h = grind (arith, nat_tests)

pub counted_value : (read : Read) (value : List ℕ) → is_counted read ≡ true → read.value ≡ Some value → length value ≤ 65535
counted_value read value h e =
    let same : option_map_or length read.value 0 ≡ length value = ap (λ (o : Option (List ℕ)). option_map_or length o 0) e in grind (arith, nat_tests)

pub held_is : (read : Read) (value : List ℕ) → read.value ≡ Some value → held_of (outcome_of_read read).held ≡ 1 ∷ (spelled_value value ++ (spelled_version read.version ++ parts_of 2 link_of (map link_to read.deps)))
held_is read value e = ap (λ (o : Option (List ℕ)). held_of (option_map (λ v. record { value = v; version = read.version; deps = map link_to read.deps }) o)) e

pub ruleset replies = (counted_deps, counted_value, held_is)

-- all reads were looked at
pub all_counted : (reads : List Read) (count : ℕ) → length reads ≤ count → length reads ≤ 255 → list_all is_counted (take count reads) ≡ true → true ≡ are_counted reads
all_counted reads count over few all =
    let whole : list_all is_counted reads ≡ true = sym (ap (list_all is_counted) (take_all count reads over)) ∙ all in
    grind (arith, nat_tests)

pub all_written : (out base : List ℕ) (reads : List Read) (count : ℕ) → length reads ≤ count
    → out ≡ base ++ (133 ∷ (big_bytes 1 (length reads) ++ flat_map outcome_of (map outcome_of_read (take count reads)))) → out ≡ base ++ body_of (values_of reads)
all_written out base reads count over is =
    is
    ∙ ap (λ l. base ++ (133 ∷ (big_bytes 1 (length reads) ++ flat_map outcome_of (map outcome_of_read l)))) (take_all count reads over)
    ∙ ap (λ n. base ++ (133 ∷ (big_bytes 1 n ++ flat_map outcome_of (map outcome_of_read reads)))) (sym (length-map reads outcome_of_read))
