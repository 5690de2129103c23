-- Acts are read from the words of a line.
use Rattle.std.proofs.Common.{◌≡◌, ℕ, ◌+◌, ◌<◌, ◌≤◌, Bool, true, false, cond, not, ◌&&◌, List, [], ◌∷◌, ◌++◌, drop, length, refl, sym, subst, ap, ◌∙◌, arith, length-append}
use Rattle.std.specs.Prelude.{IsTrue, ◌==◌, codes, decimal, nat_le, nat_lt, Option, Some, None, Ok, Err}
use Rattle.std.specs.List.{AllByRecursion, list_all, join_with_byte}
use Rattle.std.specs.Option.{option_map, option_and_then}
use Rattle.std.specs.Str.{bytes_eq}
use Rattle.std.proofs.lemmas.Bool.{eqb-true}
use Rattle.std.proofs.lemmas.Bool.Decides.{nat_tests}
use Rattle.std.proofs.lemmas.List.{append_cancel_left}
use Rattle.std.proofs.lemmas.Slice.Eq.{bytes_eq-Decides}
use Rattle.cops_types.specs.HeadLines.{is_name, is_between}
use Rattle.cops_types.specs.Lines.{longest_line}
use Rattle.cops_types.specs.Words.{IsUnspaced, first_word, is_inside, is_u64, is_word, no_words, number_of, parts_at, space}
use Rattle.cops_types.proofs.WordLemmas.{Lacks, and, both, bytes_from_test, first_word-more, lacks_space, name_lacks, no_number, number_of-decimal, number_written, parts-last, parts-more, parts_back, parts_lack, same_value, some_part, space_foreign, word_lacks}
use Rattle.cops_types.proofs.FrontWords.{same_front}
use Rattle.cops_model.specs.declared.acts.Act.{Act}
use Rattle.cops_model.specs.declared.acts.Act.TheVariants.{Open, Create, Delete, Put, Get, Show, Carry, Step, Done, Collect}
use Rattle.cops_script.specs.ActLines.{words_of_act, act_line, has_line, with_numbers, create_of, named_of, put_of, get_of, carry_of, collect_of, act_of_verb, act_of_words, checked_act, act_in}
use Rattle.cops_script.specs.ActWords.{AreUnspaced, keys_of, with_line}

-- the word may be a value
abbrev pub is_value_word : List ℕ → Bool
is_value_word value = is_word value && list_all (is_between 33 126) value

-- ---- the words of an act are those that it was read from

-- the number that was read, and the act that it gave
record Read1 (act : ℕ → Act) (word : List ℕ) (found : Act) : Type 0 where
  number : ℕ
  written : word ≡ decimal number
  gives : act number ≡ found

read1 : (act : ℕ → Act) (word : List ℕ) (found : Act) → option_map act (number_of word) ≡ Some found → Read1 act word found
read1 act word found e = by_number (number_of word) refl e
  where
    by_number : (number : Option ℕ) → number_of word ≡ number → option_map act number ≡ Some found → Read1 act word found
    by_number None is e = absurd cc
    by_number (Some n) is e = record { number = n; written = (number_written word n is).0; gives = same_value (act n) found e }

record Read3 (act : ℕ → ℕ → ℕ → Act) (a b c : List ℕ) (found : Act) : Type 0 where
  first : ℕ
  second : ℕ
  third : ℕ
  first_written : a ≡ decimal first
  second_written : b ≡ decimal second
  third_written : c ≡ decimal third
  gives : act first second third ≡ found

read3 : (act : ℕ → ℕ → ℕ → Act) (a b c : List ℕ) (found : Act) → with_numbers act a b c ≡ Some found → Read3 act a b c found
read3 act a b c found e = by_numbers (number_of a) (number_of b) refl refl e
  where
    by_numbers : (x y : Option ℕ) → number_of a ≡ x → number_of b ≡ y → option_and_then (λ n. option_and_then (λ m. option_map (act n m) (number_of c)) y) x ≡ Some found → Read3 act a b c found
    by_numbers None y is_x is_y e = absurd cc
    by_numbers (Some n) None is_x is_y e = absurd cc
    by_numbers (Some n) (Some m) is_x is_y e =
        let last = read1 (act n m) c found e in (
        record {
          first = n;
          second = m;
          third = last.number;
          first_written = (number_written a n is_x).0;
          second_written = (number_written b m is_y).0;
          third_written = last.written;
          gives = last.gives;
        })

named_spelled : (act : List ℕ → ℕ → Act) (verb : List ℕ) (words : List (List ℕ)) (found : Act) → ((name : List ℕ) (n : ℕ) → words_of_act (act name n) ≡ verb ∷ name ∷ decimal n ∷ []) → named_of act words ≡ Some found → verb ∷ words ≡ words_of_act found
named_spelled act verb (name ∷ word ∷ []) found is e =
    let number = read1 (act name) word found e in
    (λ i. verb ∷ name ∷ number.written i ∷ []) ∙ sym (is name number.number) ∙ ap words_of_act number.gives
named_spelled act verb words found is e = absurd cc

create_spelled : (words : List (List ℕ)) (found : Act) → create_of words ≡ Some found → codes "ctx" ∷ words ≡ words_of_act found
create_spelled (name ∷ []) found e = ap words_of_act (same_value (Create name) found e)
create_spelled words found e = absurd cc

put_spelled : (words : List (List ℕ)) (found : Act) → put_of words ≡ Some found → codes "put" ∷ words ≡ words_of_act found
put_spelled (name ∷ word ∷ key ∷ value ∷ []) found e =
    let number = read1 (λ n. Put name n key value) word found e in
    (λ i. codes "put" ∷ name ∷ number.written i ∷ key ∷ value ∷ []) ∙ ap words_of_act number.gives
put_spelled words found e = absurd cc

get_spelled : (words : List (List ℕ)) (found : Act) → get_of words ≡ Some found → codes "get" ∷ words ≡ words_of_act found
get_spelled (name ∷ word ∷ keys) found e =
    let number = read1 (λ n. Get name n keys) word found e in
    (λ i. codes "get" ∷ name ∷ number.written i ∷ keys) ∙ ap words_of_act number.gives
get_spelled words found e = absurd cc

carry_spelled : (words : List (List ℕ)) (found : Act) → carry_of words ≡ Some found → codes "carry" ∷ words ≡ words_of_act found
carry_spelled (name ∷ dc ∷ shard ∷ to_dc ∷ []) found e =
    let all = read3 (Carry name) dc shard to_dc found e in
    (λ i. codes "carry" ∷ name ∷ all.first_written i ∷ all.second_written i ∷ all.third_written i ∷ []) ∙ ap words_of_act all.gives
carry_spelled words found e = absurd cc

collect_spelled : (words : List (List ℕ)) (found : Act) → collect_of words ≡ Some found → codes "collect" ∷ words ≡ words_of_act found
collect_spelled (dc ∷ shard ∷ moment ∷ []) found e =
    let all = read3 Collect dc shard moment found e in
    (λ i. codes "collect" ∷ all.first_written i ∷ all.second_written i ∷ all.third_written i ∷ []) ∙ ap words_of_act all.gives
collect_spelled words found e = absurd cc

by_verb : (verb word : List ℕ) (words : List (List ℕ)) (here later : Option Act) (found : Act) → cond (bytes_eq verb word) here later ≡ Some found → (here ≡ Some found → word ∷ words ≡ words_of_act found) → (later ≡ Some found → verb ∷ words ≡ words_of_act found) → verb ∷ words ≡ words_of_act found
by_verb verb word words here later found e first next = by_test (bytes_eq verb word) refl e
  where
    by_test : (t : Bool) → bytes_eq verb word ≡ t → cond t here later ≡ Some found → verb ∷ words ≡ words_of_act found
    by_test true same e = ap (λ v. v ∷ words) (bytes_from_test verb word same) ∙ first e
    by_test false same e = next e

spelled : (verb : List ℕ) (words : List (List ℕ)) (found : Act) → act_of_verb verb words ≡ Some found → verb ∷ words ≡ words_of_act found
spelled verb words found e =
    by_verb verb (codes "open") words _ _ found e (named_spelled Open (codes "open") words found (λ name n. refl)) (λ e.
    by_verb verb (codes "ctx") words _ _ found e (create_spelled words found) (λ e.
    by_verb verb (codes "drop") words _ _ found e (named_spelled Delete (codes "drop") words found (λ name n. refl)) (λ e.
    by_verb verb (codes "put") words _ _ found e (put_spelled words found) (λ e.
    by_verb verb (codes "get") words _ _ found e (get_spelled words found) (λ e.
    by_verb verb (codes "show") words _ _ found e (named_spelled Show (codes "show") words found (λ name n. refl)) (λ e.
    by_verb verb (codes "carry") words _ _ found e (carry_spelled words found) (λ e.
    by_verb verb (codes "step") words _ _ found e (named_spelled Step (codes "step") words found (λ name n. refl)) (λ e.
    by_verb verb (codes "done") words _ _ found e (named_spelled Done (codes "done") words found (λ name n. refl)) (λ e.
    by_verb verb (codes "collect") words _ _ found e (collect_spelled words found) (λ e. absurd cc))))))))))

-- ---- the line of an act is the line that it was read from

line_back : (line : List ℕ) (found : Act) → act_of_words (parts_at space line) ≡ Some found → act_line (first_word line) found ≡ line
line_back line found e = by_parts (parts_at space line) refl e
  where
    by_parts : (parts : List (List ℕ)) → parts_at space line ≡ parts → act_of_words parts ≡ Some found → act_line (first_word line) found ≡ line
    by_parts [] is e = absurd cc
    by_parts (tenant ∷ []) is e = absurd cc
    by_parts (tenant ∷ verb ∷ words) is e =
        let whole : join_with_byte space (tenant ∷ verb ∷ words) ≡ line = ap (join_with_byte space) (sym is) ∙ parts_back space line in
        let each : AllByRecursion (Lacks space) (tenant ∷ verb ∷ words) = subst (AllByRecursion (Lacks space)) is (parts_lack space line) in
        let name : first_word line ≡ tenant = ap first_word (sym whole) ∙ first_word-more tenant (join_with_byte space (verb ∷ words)) each.0 in
        (λ i. join_with_byte space (name i ∷ sym (spelled verb words found e) i)) ∙ whole

middle : (a b c : Bool) → IsTrue a → IsTrue c → (a && b && c) ≡ b
middle true true c h k = k
middle true false c h k = refl
middle false b c h k = absurd cc

-- a line that is not too long is the act that its words are, if that has a line
pub act_in-words : (line : List ℕ) → length line ≤ 8192 → act_in (first_word line) line ≡ option_and_then with_line (act_of_words (parts_at space line))
act_in-words line short = by_guess (act_of_words (parts_at space line)) refl
  where
    by_guess : (guess : Option Act) → act_of_words (parts_at space line) ≡ guess → option_and_then (checked_act (first_word line) line) guess ≡ option_and_then with_line guess
    by_guess None e = refl
    by_guess (Some found) e =
        let spells : IsTrue (bytes_eq (act_line (first_word line) found) line) = (bytes_eq-Decides (act_line (first_word line) found) line).1 (line_back line found e) in
        let fits : IsTrue (nat_le (length line) longest_line) = grind (arith, nat_tests) in
        ap (λ (t : Bool). cond t (Some found) None) (middle (bytes_eq (act_line (first_word line) found) line) (has_line found) (nat_le (length line) longest_line) spells fits)

-- ---- the words after the first, and after the second

inside : (word : List ℕ) → Lacks space word → IsTrue (list_all is_inside word)
inside [] h = refl
inside (byte ∷ word) h = and (is_inside byte) (list_all is_inside word) (is_so byte h.0) (inside word h.1)
  where
    is_so : (byte : ℕ) → (byte == space) ≡ false → IsTrue (is_inside byte)
    is_so byte e = rw e

are_unspaced : (words : List (List ℕ)) → AllByRecursion (Lacks space) words → AreUnspaced words
are_unspaced [] h = tt
are_unspaced (word ∷ words) h = (inside word h.0, are_unspaced words h.1)

-- the words of a line have no space
pub line_unspaced : (line : List ℕ) → AreUnspaced (parts_at space line)
line_unspaced line = are_unspaced (parts_at space line) (parts_lack space line)

-- the tenant's name says nothing of the act
pub tenant_passed : (tenant other : List ℕ) (words : List (List ℕ)) → act_of_words (tenant ∷ words) ≡ act_of_words (other ∷ words)
tenant_passed tenant other [] = refl
tenant_passed tenant other (verb ∷ words) = refl

-- the words behind the first
pub rest_read : (line word : List ℕ) (rest : List (List ℕ)) → length line ≤ 8192 → parts_at space line ≡ word ∷ rest → option_and_then with_line (act_of_words ([] ∷ rest)) ≡ act_in (first_word line) line
rest_read line word rest short first = ap (option_and_then with_line) (tenant_passed [] word rest ∙ ap act_of_words (sym first)) ∙ sym (act_in-words line short)

-- ---- one word, and what stands behind its space

pub front_parts : (bytes word rest : List ℕ) → Lacks space word → bytes ≡ word ++ 32 ∷ rest → parts_at space bytes ≡ word ∷ parts_at space rest
front_parts bytes word rest lacks e = ap (parts_at space) e ∙ parts-more space word rest lacks

pub two_parts : (bytes word second : List ℕ) (rest : List (List ℕ)) → parts_at space bytes ≡ word ∷ second ∷ rest → bytes ≡ word ++ 32 ∷ join_with_byte space (second ∷ rest)
two_parts bytes word second rest e = sym (parts_back space bytes) ∙ ap (join_with_byte space) e

pub one_part : (bytes word : List ℕ) → parts_at space bytes ≡ word ∷ [] → bytes ≡ word
one_part bytes word e = sym (parts_back space bytes) ∙ ap (join_with_byte space) e

pub name_parts : (words name : List ℕ) → IsTrue (is_name name) × (words ≡ name ++ 32 ∷ drop (length name + 1) words) →
    IsTrue (is_name name) × (length name + 1 ≤ length words) × (parts_at space words ≡ name ∷ parts_at space (drop (length name + 1) words))
name_parts words name h = (h.0, omega (arith, ap length h.1, length-append name (32 ∷ drop (length name + 1) words)), front_parts words name (drop (length name + 1) words) (name_lacks space space_foreign name h.0) h.1)

pub named_rest : (words name rest : List ℕ) → IsTrue (is_name name) × (length name + 1 ≤ length words) × (parts_at space words ≡ name ∷ parts_at space (drop (length name + 1) words)) →
    rest ≡ drop (length name + 1) words → IsTrue (is_name name) × (parts_at space words ≡ name ∷ parts_at space rest)
named_rest words name rest h is = (h.0, h.2 ∙ ap (λ l. name ∷ parts_at space l) (sym is))

-- a word that is all
pub whole_part : (bytes word : List ℕ) → Lacks space word → bytes ≡ word → parts_at space bytes ≡ word ∷ []
whole_part bytes word lacks e = ap (parts_at space) e ∙ parts-last space word lacks

-- a word that is a name
pub made_name : {F : Type 0} (words name : List ℕ) (fault : F) → cond (is_name words) (Ok words) (Err fault) ≡ Ok name → IsTrue (is_name name) × (parts_at space words ≡ name ∷ [])
made_name words name fault e = by_test (is_name words) refl e
  where
    by_test : (t : Bool) → is_name words ≡ t → cond t (Ok words) (Err fault) ≡ Ok name → IsTrue (is_name name) × (parts_at space words ≡ name ∷ [])
    by_test true is e =
        let same : words ≡ name = cc in
        let named : IsTrue (is_name name) = subst (λ w. IsTrue (is_name w)) same is in
        (named, whole_part words name (name_lacks space space_foreign name named) same)
    by_test false is e = absurd cc

pub makes_name : {F : Type 0} (words name : List ℕ) (fault : F) → IsTrue (is_name name) → parts_at space words ≡ name ∷ [] → cond (is_name words) (Ok words) (Err fault) ≡ Ok words
makes_name words name fault is e = let named : is_name words ≡ true = ap is_name (one_part words name e) ∙ is in rw named refl

-- ---- verbs

-- the words begin with this verb
pub verb_read : (words verb literal rest : List ℕ) → literal ≡ verb → Lacks space verb → words ≡ literal ++ 32 ∷ rest →
    option_and_then with_line (act_of_verb verb (parts_at space rest)) ≡ option_and_then with_line (act_of_words ([] ∷ parts_at space words))
verb_read words verb literal rest same lacks e =
    ap (λ ps. option_and_then with_line (act_of_words ([] ∷ ps))) (sym (front_parts words verb rest lacks (e ∙ ap (λ w. w ++ 32 ∷ rest) same)))

-- they don't begin with it
pub unlike : (words verb literal : List ℕ) → literal ≡ verb → ((rest : List ℕ) → words ≡ literal ++ 32 ∷ rest → ⊥) → (rest : List ℕ) → words ≡ verb ++ 32 ∷ rest → ⊥
unlike words verb literal same none rest e = none rest (e ∙ ap (λ w. w ++ 32 ∷ rest) (sym same))

-- a verb has words behind it
pub no_verb : (words : List ℕ) → ((rest : List ℕ) → words ≡ codes "put" ++ 32 ∷ rest → ⊥) → ((rest : List ℕ) → words ≡ codes "get" ++ 32 ∷ rest → ⊥) →
    ((rest : List ℕ) → words ≡ codes "step" ++ 32 ∷ rest → ⊥) → ((rest : List ℕ) → words ≡ codes "done" ++ 32 ∷ rest → ⊥) → ((rest : List ℕ) → words ≡ codes "open" ++ 32 ∷ rest → ⊥) →
    ((rest : List ℕ) → words ≡ codes "ctx" ++ 32 ∷ rest → ⊥) → ((rest : List ℕ) → words ≡ codes "drop" ++ 32 ∷ rest → ⊥) → ((rest : List ℕ) → words ≡ codes "show" ++ 32 ∷ rest → ⊥) →
    ((rest : List ℕ) → words ≡ codes "carry" ++ 32 ∷ rest → ⊥) → ((rest : List ℕ) → words ≡ codes "collect" ++ 32 ∷ rest → ⊥) →
    None ≡ option_and_then with_line (act_of_words ([] ∷ parts_at space words))
no_verb words put get step done open_verb ctx drop_verb show carry collect = by_parts (parts_at space words) refl
  where
    no_act : (found : Act) → words ≡ join_with_byte space (words_of_act found) → ⊥
    no_act (Open name dc) e = open_verb _ e
    no_act (Create name) e = ctx _ e
    no_act (Delete name number) e = drop_verb _ e
    no_act (Put name number key value) e = put _ e
    no_act (Get name number keys) e = get _ e
    no_act (Show name number) e = show _ e
    no_act (Carry name dc shard to_dc) e = carry _ e
    no_act (Step name moment) e = step _ e
    no_act (Done name moment) e = done _ e
    no_act (Collect dc shard moment) e = collect _ e

    by_act : (verb : List ℕ) (rest : List (List ℕ)) (found : Option Act) → parts_at space words ≡ verb ∷ rest → act_of_verb verb rest ≡ found → None ≡ option_and_then with_line found
    by_act verb rest None is e = refl
    by_act verb rest (Some found) is e = absurd (no_act found (sym (parts_back space words) ∙ ap (join_with_byte space) (is ∙ spelled verb rest found e)))

    by_parts : (parts : List (List ℕ)) → parts_at space words ≡ parts → None ≡ option_and_then with_line (act_of_words ([] ∷ parts_at space words))
    by_parts [] is = rw is refl
    by_parts (verb ∷ rest) is = by_act verb rest (act_of_verb verb rest) is refl ∙ ap (λ ps. option_and_then with_line (act_of_words ([] ∷ ps))) (sym is)

-- ---- what is read has a line

kept : (act : Act) → IsTrue (has_line act) → with_line act ≡ Some act
kept act h = rw h

pub named_found : (act : List ℕ → ℕ → Act) (words : List (List ℕ)) (name : List ℕ) (n : ℕ) → has_line (act name n) ≡ (is_name name && is_u64 n) →
    IsTrue (is_name name) × IsTrue (is_u64 n) × (words ≡ name ∷ decimal n ∷ []) → Some (act name n) ≡ option_and_then with_line (named_of act words)
named_found act words name n lines h =
    sym (
    ap (λ ws. option_and_then with_line (named_of act ws)) h.2
    ∙ ap (λ o. option_and_then with_line (option_map (act name) o)) (number_of-decimal n h.1)
    ∙ kept (act name n) (lines ∙ and (is_name name) (is_u64 n) h.0 h.1))

three_found : (act : ℕ → ℕ → ℕ → Act) (n m k : ℕ) → IsTrue (is_u64 n) → IsTrue (is_u64 m) → IsTrue (is_u64 k) → IsTrue (has_line (act n m k)) → option_and_then with_line (with_numbers act (decimal n) (decimal m) (decimal k)) ≡ Some (act n m k)
three_found act n m k hn hm hk has =
    (λ i. option_and_then with_line (option_and_then (λ x. option_and_then (λ y. option_map (act x y) (number_of-decimal k hk i)) (number_of-decimal m hm i)) (number_of-decimal n hn i)))
    ∙ kept (act n m k) has

pub collect_found : (words : List (List ℕ)) (dc shard moment : ℕ) → IsTrue (is_u64 dc) × IsTrue (is_u64 shard) × IsTrue (is_u64 moment) × (words ≡ decimal dc ∷ decimal shard ∷ decimal moment ∷ []) →
    Some (Collect dc shard moment) ≡ option_and_then with_line (collect_of words)
collect_found words dc shard moment h =
    let has : IsTrue (is_u64 dc && is_u64 shard && is_u64 moment) = and (is_u64 dc && is_u64 shard) (is_u64 moment) (and (is_u64 dc) (is_u64 shard) h.0 h.1) h.2 in
    sym (ap (λ ws. option_and_then with_line (collect_of ws)) h.3 ∙ three_found Collect dc shard moment h.0 h.1 h.2 has)

pub carry_found : (words rest : List (List ℕ)) (name : List ℕ) (dc shard to_dc : ℕ) → IsTrue (is_name name) × (words ≡ name ∷ rest) →
    IsTrue (is_u64 dc) × IsTrue (is_u64 shard) × IsTrue (is_u64 to_dc) × (rest ≡ decimal dc ∷ decimal shard ∷ decimal to_dc ∷ []) →
    Some (Carry name dc shard to_dc) ≡ option_and_then with_line (carry_of words)
carry_found words rest name dc shard to_dc named h =
    let two : IsTrue (is_name name && is_u64 dc) = and (is_name name) (is_u64 dc) named.0 h.0 in
    let has : IsTrue (is_name name && is_u64 dc && is_u64 shard && is_u64 to_dc) =
    and (is_name name && is_u64 dc && is_u64 shard) (is_u64 to_dc) (and (is_name name && is_u64 dc) (is_u64 shard) two h.1) h.2 in
    sym (ap (λ ws. option_and_then with_line (carry_of ws)) (named.1 ∙ ap (λ ws. name ∷ ws) h.3) ∙ three_found (Carry name) dc shard to_dc h.0 h.1 h.2 has)

-- a word that writes no number is no decimal
pub no_number_last : (word : List ℕ) → number_of word ≡ None → (n : ℕ) → IsTrue (is_u64 n) → parts_at space word ≡ decimal n ∷ [] → ⊥
no_number_last word none n small e = let written : number_of word ≡ Some n = ap number_of (one_part word (decimal n) e) ∙ number_of-decimal n small in cc

-- no carrier is begun if no three numbers follow the name
pub no_carry : (words rest : List (List ℕ)) (name : List ℕ) → words ≡ name ∷ rest →
    ((n m k : ℕ) → IsTrue (is_u64 n) → IsTrue (is_u64 m) → IsTrue (is_u64 k) → rest ≡ decimal n ∷ decimal m ∷ decimal k ∷ [] → ⊥) → None ≡ option_and_then with_line (carry_of words)
no_carry words rest name is none = by_act (carry_of words) refl
  where
    numbers : (a b c : List ℕ) (found : Act) → rest ≡ a ∷ b ∷ c ∷ [] → with_numbers (Carry name) a b c ≡ Some found → ⊥
    numbers a b c found e read = by_numbers (number_of a) (number_of b) (number_of c) refl refl refl read
      where
        by_numbers : (x y z : Option ℕ) → number_of a ≡ x → number_of b ≡ y → number_of c ≡ z → option_and_then (λ n. option_and_then (λ m. option_map (Carry name n m) z) y) x ≡ Some found → ⊥
        by_numbers None y z is_x is_y is_z read = absurd cc
        by_numbers (Some n) None z is_x is_y is_z read = absurd cc
        by_numbers (Some n) (Some m) None is_x is_y is_z read = absurd cc
        by_numbers (Some n) (Some m) (Some k) is_x is_y is_z read =
            let first = number_written a n is_x in
            let second = number_written b m is_y in
            let third = number_written c k is_z in
            none n m k first.1 second.1 third.1 (e ∙ (λ i. first.0 i ∷ second.0 i ∷ third.0 i ∷ []))

    no_act : (rest : List (List ℕ)) (found : Act) → carry_of (name ∷ rest) ≡ Some found → ((a b c : List ℕ) → rest ≡ a ∷ b ∷ c ∷ [] → with_numbers (Carry name) a b c ≡ Some found → ⊥) → ⊥
    no_act [] found read wrong = absurd cc
    no_act (a ∷ []) found read wrong = absurd cc
    no_act (a ∷ b ∷ []) found read wrong = absurd cc
    no_act (a ∷ b ∷ c ∷ []) found read wrong = wrong a b c refl read
    no_act (a ∷ b ∷ c ∷ d ∷ rest) found read wrong = absurd cc

    by_act : (found : Option Act) → carry_of words ≡ found → None ≡ option_and_then with_line (carry_of words)
    by_act None e = rw e refl
    by_act (Some found) e = absurd (no_act rest found (ap carry_of (sym is) ∙ e) (λ a b c is read. numbers a b c found is read))

-- the words begin with a name and a number
abbrev pub BeginNamed : List (List ℕ) → List ℕ → ℕ → List (List ℕ) → Type 0
BeginNamed words name n rest = IsTrue (is_name name) × IsTrue (is_u64 n) × (words ≡ name ∷ decimal n ∷ rest)

pub begin_named : (words middle rest : List (List ℕ)) (name : List ℕ) (n : ℕ) → IsTrue (is_name name) × (words ≡ name ∷ middle) → IsTrue (is_u64 n) × (middle ≡ decimal n ∷ rest) → BeginNamed words name n rest
begin_named words middle rest name n named number = (named.0, number.0, named.1 ∙ ap (λ ws. name ∷ ws) number.1)

put_found : (words rest : List (List ℕ)) (name : List ℕ) (n : ℕ) (key value : List ℕ) → BeginNamed words name n rest →
    IsTrue (is_word key) × IsTrue (is_value_word value) × (rest ≡ key ∷ value ∷ []) → Some (Put name n key value) ≡ option_and_then with_line (put_of words)
put_found words rest name n key value begin h =
    let two : IsTrue (is_name name && is_u64 n) = and (is_name name) (is_u64 n) begin.0 begin.1 in
    let has : IsTrue (is_name name && is_u64 n && is_word key && is_value_word value) =
    and (is_name name && is_u64 n && is_word key) (is_value_word value) (and (is_name name && is_u64 n) (is_word key) two h.0) h.1 in
    sym (
    ap (λ ws. option_and_then with_line (put_of ws)) (begin.2 ∙ ap (λ ws. name ∷ decimal n ∷ ws) h.2)
    ∙ ap (λ o. option_and_then with_line (option_map (λ x. Put name x key value) o)) (number_of-decimal n begin.1)
    ∙ kept (Put name n key value) has)

-- no act is begun if no number follows the name
pub no_put : (words rest : List (List ℕ)) (name : List ℕ) → words ≡ name ∷ rest → ((n : ℕ) (second : List ℕ) (later : List (List ℕ)) → IsTrue (is_u64 n) → rest ≡ decimal n ∷ second ∷ later → ⊥) →
    None ≡ option_and_then with_line (put_of words)
no_put words rest name is none = by_rest rest is none
  where
    by_rest : (rest : List (List ℕ)) → words ≡ name ∷ rest → ((n : ℕ) (second : List ℕ) (later : List (List ℕ)) → IsTrue (is_u64 n) → rest ≡ decimal n ∷ second ∷ later → ⊥) → None ≡ option_and_then with_line (put_of words)
    by_rest [] is none = rw is refl
    by_rest (a ∷ []) is none = rw is refl
    by_rest (a ∷ b ∷ []) is none = rw is refl
    by_rest (a ∷ b ∷ c ∷ []) is none = rw is (rw (no_number a (λ n small e. none n b (c ∷ []) small (ap (λ w. w ∷ b ∷ c ∷ []) e))) refl)
    by_rest (a ∷ b ∷ c ∷ d ∷ rest) is none = rw is refl

pub copies_put : (words rest : List (List ℕ)) (name : List ℕ) (n : ℕ) (key value key_copy value_copy : List ℕ) → key_copy ≡ key → value_copy ≡ value → BeginNamed words name n rest →
    IsTrue (is_word key) × IsTrue (is_value_word value) × (rest ≡ key ∷ value ∷ []) → Some (Put name n key_copy value_copy) ≡ option_and_then with_line (put_of words)
copies_put words rest name n key value key_copy value_copy same_key same_value begin h = (λ i. Some (Put name n (same_key i) (same_value i))) ∙ put_found words rest name n key value begin h

-- the keys decide whether a transaction has a line
get_begun : (words keys : List (List ℕ)) (name : List ℕ) (n : ℕ) → BeginNamed words name n keys →
    option_and_then with_line (get_of words) ≡ (cond (nat_lt 0 (length keys) && list_all is_word keys) (Some (Get name n keys)) None)
get_begun words keys name n begin =
    ap (λ ws. option_and_then with_line (get_of ws)) begin.2
    ∙ ap (λ o. option_and_then with_line (option_map (λ x. Get name x keys) o)) (number_of-decimal n begin.1)
    ∙ ap (λ (t : Bool). cond t (Some (Get name n keys)) None) (by_tests (is_name name) (is_u64 n) begin.0 begin.1)
  where
    by_tests : (a b : Bool) → IsTrue a → IsTrue b → (a && b && nat_lt 0 (length keys) && list_all is_word keys) ≡ (nat_lt 0 (length keys) && list_all is_word keys)
    by_tests true true h k = refl
    by_tests true false h k = absurd cc
    by_tests false b h k = absurd cc

get_read : (words rest : List (List ℕ)) (name : List ℕ) (n : ℕ) → BeginNamed words name n rest → option_map (λ keys. Get name n keys) (keys_of rest) ≡ option_and_then with_line (get_of words)
get_read words rest name n begin = by_test (nat_lt 0 (length rest) && list_all is_word rest) ∙ sym (get_begun words rest name n begin)
  where
    by_test : (t : Bool) → option_map (λ keys. Get name n keys) (cond t (Some rest) None) ≡ cond t (Some (Get name n rest)) None
    by_test true = refl
    by_test false = refl

pub get_found : (words rest keys : List (List ℕ)) (name : List ℕ) (n : ℕ) → Some keys ≡ keys_of rest → BeginNamed words name n rest → Some (Get name n keys) ≡ option_and_then with_line (get_of words)
get_found words rest keys name n read begin = ap (option_map (λ ks. Get name n ks)) read ∙ get_read words rest name n begin

pub no_get : (words rest : List (List ℕ)) (name : List ℕ) → words ≡ name ∷ rest → ((n : ℕ) (second : List ℕ) (later : List (List ℕ)) → IsTrue (is_u64 n) → rest ≡ decimal n ∷ second ∷ later → ⊥) →
    None ≡ option_and_then with_line (get_of words)
no_get words rest name is none = by_rest rest is none
  where
    no_key : (a b : Bool) (n : ℕ) → None ≡ cond (a && b && false && true) (Some (Get name n [])) None
    no_key true true n = refl
    no_key true false n = refl
    no_key false b n = refl

    by_number : (number : Option ℕ) → None ≡ option_and_then with_line (option_map (λ n. Get name n []) number)
    by_number None = refl
    by_number (Some n) = no_key (is_name name) (is_u64 n) n

    by_rest : (rest : List (List ℕ)) → words ≡ name ∷ rest → ((n : ℕ) (second : List ℕ) (later : List (List ℕ)) → IsTrue (is_u64 n) → rest ≡ decimal n ∷ second ∷ later → ⊥) → None ≡ option_and_then with_line (get_of words)
    by_rest [] is none = rw is refl
    by_rest (a ∷ []) is none = rw is (by_number (number_of a))
    by_rest (a ∷ b ∷ rest) is none = rw is (rw (no_number a (λ n small e. none n b rest small (ap (λ w. w ∷ b ∷ rest) e))) refl)

-- ---- values

seen_inside : (byte : ℕ) → IsTrue (is_between 33 126 byte) → IsTrue (is_inside byte)
seen_inside byte h = grind (arith, nat_tests)

all_inside : (word : List ℕ) → IsTrue (list_all (is_between 33 126) word) → IsTrue (list_all is_inside word)
all_inside [] h = refl
all_inside (byte ∷ word) h =
    let parts = both (is_between 33 126 byte) (list_all (is_between 33 126) word) h in
    and (is_inside byte) (list_all is_inside word) (seen_inside byte parts.0) (all_inside word parts.1)

-- what can be seen has no space
pub value_word : (word : List ℕ) → 0 < length word → list_all (is_between 33 126) word ≡ is_value_word word
value_word [] some = absurd (omega arith)
value_word (byte ∷ word) some = by_test (list_all (is_between 33 126) (byte ∷ word)) (list_all is_inside (byte ∷ word)) (all_inside (byte ∷ word))
  where
    by_test : (t u : Bool) → (IsTrue t → IsTrue u) → t ≡ (u && t)
    by_test true true h = refl
    by_test true false h = absurd (let wrong = h refl in cc)
    by_test false true h = refl
    by_test false false h = refl

pub value_test : (word : List ℕ) (empty : Bool) → list_all (is_between 33 126) word ≡ true → empty ≡ (length word == 0) → not empty ≡ is_value_word word
value_test [] empty seen is = ap not is
value_test (byte ∷ word) true seen is = absurd (omega (arith, eqb-true (length (byte ∷ word)) 0 (sym is)))
value_test (byte ∷ word) false seen is = sym seen ∙ value_word (byte ∷ word) (omega arith)

-- ---- a key and a value

word_inside : (word : List ℕ) → 0 < length word → IsTrue (list_all is_inside word) → IsTrue (is_word word)
word_inside [] some h = absurd (omega arith)
word_inside (byte ∷ word) some h = h

pub key_and_value : (words key value : List ℕ) → IsUnspaced key × (words ≡ key ++ 32 ∷ value) → 0 < length key → IsTrue (is_value_word value) →
    IsTrue (is_word key) × IsTrue (is_value_word value) × (parts_at space words ≡ key ∷ value ∷ [])
key_and_value words key value front filled is =
    let lacks : Lacks space key = lacks_space key front.0 in
    let seen = word_lacks value (both (is_word value) (list_all (is_between 33 126) value) is).0 in
    (word_inside key filled (inside key lacks), is, front_parts words key value lacks front.1 ∙ ap (λ ps. key ∷ ps) (parts-last space value seen))

-- the words are the key and the value that stand there
pub other_value : (words key value other more : List ℕ) → IsUnspaced key × (words ≡ key ++ 32 ∷ value) → IsTrue (is_word other) → parts_at space words ≡ other ∷ more ∷ [] → (key ≡ other) × (value ≡ more)
other_value words key value other more front is e =
    let parts : words ≡ other ++ 32 ∷ more = two_parts words other more [] e in
    let same : key ≡ other = same_front words key value other more (lacks_space key front.0) (word_lacks other is) front.1 parts in
    let rest : 32 ∷ value ≡ 32 ∷ more = append_cancel_left key (32 ∷ value) (32 ∷ more) (sym front.1 ∙ parts ∙ ap (λ k. k ++ 32 ∷ more) (sym same)) in
    (same, cc)

pub filled_word : (word : List ℕ) → IsTrue (is_word word) → 0 < length word
filled_word [] h = absurd cc
filled_word (byte ∷ word) h = omega arith

-- ---- keys

-- whether the words are keys is left to those that are still to come
abbrev pub AreKeys : List (List ℕ) → List (List ℕ) → Type 0
AreKeys all rest = (list_all is_word all ≡ list_all is_word rest) × AreUnspaced rest

pub empty_key : (all rest : List (List ℕ)) (word : List ℕ) (later : List (List ℕ)) → AreKeys all rest → rest ≡ word ∷ later → length word ≡ 0 → None ≡ keys_of all
empty_key all rest (byte ∷ word) later are first none = absurd (omega arith)
empty_key all rest [] later are first none =
    let fails : list_all is_word all ≡ false = are.0 ∙ ap (list_all is_word) first in
    rw fails (by_test (nat_lt 0 (length all)))
  where
    by_test : (t : Bool) → None ≡ cond (t && false) (Some all) None
    by_test true = refl
    by_test false = refl

pub all_to_come : (line : List ℕ) (words : List (List ℕ)) → words ≡ parts_at space line → AreKeys (parts_at space line) words
all_to_come line words is = subst (AreKeys (parts_at space line)) (sym is) (refl, line_unspaced line)

some_words : (words : List (List ℕ)) → IsTrue (not (no_words words)) → 0 < length words
some_words [] e = absurd cc
some_words (word ∷ words) e = omega arith

pub all_keys : (line : List ℕ) (keys rest : List (List ℕ)) → AreKeys (parts_at space line) rest → rest ≡ [] → keys ≡ parts_at space line → Some keys ≡ keys_of (parts_at space line)
all_keys line keys rest are none same = by_count (some_words all (some_part space line))
  where
    all : List (List ℕ)
    all = parts_at space line

    by_count : 0 < length all → Some keys ≡ keys_of all
    by_count filled =
        let words : list_all is_word all ≡ true = are.0 ∙ ap (list_all is_word) none in
        let one : nat_lt 0 (length all) ≡ true = grind (arith, nat_tests) in
        rw one (rw words (ap Some same))
