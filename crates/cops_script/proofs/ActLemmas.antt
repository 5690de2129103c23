-- A line is one act at most, and `act_in` finds it.
use Rattle.std.proofs.Common.{◌≡◌, ℕ, Bool, true, false, cond, ◌&&◌, List, [], ◌∷◌, length, refl, sym, subst, ap, ◌∙◌}
use Rattle.std.specs.Prelude.{IsTrue, codes, decimal, nat_lt, nat_le, Option, Some, None}
use Rattle.std.specs.List.{AllByRecursion, list_all}
use Rattle.std.specs.Option.{option_map, option_and_then}
use Rattle.std.specs.Str.{bytes_eq}
use Rattle.cops_types.specs.HeadLines.{is_name, is_between}
use Rattle.cops_types.specs.Lines.{longest_line}
use Rattle.cops_types.specs.Words.{space, is_word, is_u64, number_of, parts_at}
use Rattle.cops_types.proofs.WordLemmas.{both, same_value, same_bytes, bytes_from_test, Lacks, parts_joined, lacks_from_test, word_lacks, space_foreign, name_lacks, decimal_lacks, number_of-decimal}
use Rattle.cops_model.specs.declared.acts.Act.{Act}
use Rattle.cops_model.specs.declared.acts.Act.TheVariants.{Open, Create, Delete, Put, Get, Show, Carry, Step, Done, Collect}
use Rattle.cops_script.specs.ActLines.{words_of_act, act_line, has_line, IsActLine, act_of_words, with_numbers, checked_act, act_in}

-- ---- no word of an act has a space

abbrev LackSpaces : List (List ℕ) → Type 0
LackSpaces words = AllByRecursion (Lacks space) words

keys_lack : (keys : List (List ℕ)) → IsTrue (list_all is_word keys) → LackSpaces keys
keys_lack [] h = tt
keys_lack (key ∷ keys) h = let parts = both (is_word key) (list_all is_word keys) h in (word_lacks key parts.0, keys_lack keys parts.1)

name_free : (name : List ℕ) → IsTrue (is_name name) → Lacks space name
name_free name h = name_lacks space space_foreign name h

number_free : (n : ℕ) → IsTrue (is_u64 n) → Lacks space (decimal n)
number_free n h = decimal_lacks space space_foreign n h

named_free : (name : List ℕ) (n : ℕ) → IsTrue (is_name name && is_u64 n) → LackSpaces (name ∷ decimal n ∷ [])
named_free name n h = let parts = both (is_name name) (is_u64 n) h in (name_free name parts.0, (number_free n parts.1, tt))

words_free : (act : Act) → IsTrue (has_line act) → LackSpaces (words_of_act act)
words_free (Open name dc) h = (lacks_from_test space (codes "open") refl, named_free name dc h)
words_free (Create name) h = (lacks_from_test space (codes "ctx") refl, (name_free name h, tt))
words_free (Delete name number) h = (lacks_from_test space (codes "drop") refl, named_free name number h)
words_free (Put name number key value) h =
    let a = both (is_name name && is_u64 number && is_word key) (is_word value && list_all (is_between 33 126) value) h in
    let b = both (is_name name && is_u64 number) (is_word key) a.0 in
    let c = both (is_name name) (is_u64 number) b.0 in
    let d = both (is_word value) (list_all (is_between 33 126) value) a.1 in
    (lacks_from_test space (codes "put") refl, (name_free name c.0, (number_free number c.1, (word_lacks key b.1, (word_lacks value d.0, tt)))))
words_free (Get name number keys) h =
    let a = both (is_name name && is_u64 number && nat_lt 0 (length keys)) (list_all is_word keys) h in
    let b = both (is_name name && is_u64 number) (nat_lt 0 (length keys)) a.0 in
    let c = both (is_name name) (is_u64 number) b.0 in
    (lacks_from_test space (codes "get") refl, (name_free name c.0, (number_free number c.1, keys_lack keys a.1)))
words_free (Show name number) h = (lacks_from_test space (codes "show") refl, named_free name number h)
words_free (Carry name dc shard to_dc) h =
    let a = both (is_name name && is_u64 dc && is_u64 shard) (is_u64 to_dc) h in
    let b = both (is_name name && is_u64 dc) (is_u64 shard) a.0 in
    let c = both (is_name name) (is_u64 dc) b.0 in
    (lacks_from_test space (codes "carry") refl, (name_free name c.0, (number_free dc c.1, (number_free shard b.1, (number_free to_dc a.1, tt)))))
words_free (Step name moment) h = (lacks_from_test space (codes "step") refl, named_free name moment h)
words_free (Done name moment) h = (lacks_from_test space (codes "done") refl, named_free name moment h)
words_free (Collect dc shard moment) h =
    let a = both (is_u64 dc && is_u64 shard) (is_u64 moment) h in
    let b = both (is_u64 dc) (is_u64 shard) a.0 in
    (lacks_from_test space (codes "collect") refl, (number_free dc b.0, (number_free shard b.1, (number_free moment a.1, tt))))

-- ---- the words are read back

named_back : (act : List ℕ → ℕ → Act) (name : List ℕ) (n : ℕ) → IsTrue (is_name name && is_u64 n) → option_map (act name) (number_of (decimal n)) ≡ Some (act name n)
named_back act name n h = ap (option_map (act name)) (number_of-decimal n (both (is_name name) (is_u64 n) h).1)

numbers_back : (act : ℕ → ℕ → ℕ → Act) (n m k : ℕ) → IsTrue (is_u64 n) → IsTrue (is_u64 m) → IsTrue (is_u64 k) → with_numbers act (decimal n) (decimal m) (decimal k) ≡ Some (act n m k)
numbers_back act n m k hn hm hk =
    λ i. option_and_then (λ x. option_and_then (λ y. option_map (act x y) (number_of-decimal k hk i)) (number_of-decimal m hm i)) (number_of-decimal n hn i)

words_back : (tenant : List ℕ) (act : Act) → IsTrue (has_line act) → act_of_words (tenant ∷ words_of_act act) ≡ Some act
words_back tenant (Open name dc) h = named_back Open name dc h
words_back tenant (Create name) h = refl
words_back tenant (Delete name number) h = named_back Delete name number h
words_back tenant (Put name number key value) h =
    let a = both (is_name name && is_u64 number && is_word key) (is_word value && list_all (is_between 33 126) value) h in
    let b = both (is_name name && is_u64 number) (is_word key) a.0 in
    ap (option_map (λ n. Put name n key value)) (number_of-decimal number (both (is_name name) (is_u64 number) b.0).1)
words_back tenant (Get name number keys) h =
    let a = both (is_name name && is_u64 number && nat_lt 0 (length keys)) (list_all is_word keys) h in
    let b = both (is_name name && is_u64 number) (nat_lt 0 (length keys)) a.0 in
    ap (option_map (λ n. Get name n keys)) (number_of-decimal number (both (is_name name) (is_u64 number) b.0).1)
words_back tenant (Show name number) h = named_back Show name number h
words_back tenant (Carry name dc shard to_dc) h =
    let a = both (is_name name && is_u64 dc && is_u64 shard) (is_u64 to_dc) h in
    let b = both (is_name name && is_u64 dc) (is_u64 shard) a.0 in
    numbers_back (Carry name) dc shard to_dc (both (is_name name) (is_u64 dc) b.0).1 b.1 a.1
words_back tenant (Step name moment) h = named_back Step name moment h
words_back tenant (Done name moment) h = named_back Done name moment h
words_back tenant (Collect dc shard moment) h =
    let a = both (is_u64 dc && is_u64 shard) (is_u64 moment) h in
    let b = both (is_u64 dc) (is_u64 shard) a.0 in
    numbers_back Collect dc shard moment b.0 b.1 a.1

-- ---- lines

-- what `act_in` finds is the act of the line
pub act_in-is : (tenant line : List ℕ) (act : Act) → act_in tenant line ≡ Some act → IsActLine tenant line act
act_in-is tenant line act e = found (act_of_words (parts_at space line)) e
  where
    kept : (guess : Act) (t : Bool) → t ≡ (bytes_eq (act_line tenant guess) line && has_line guess && nat_le (length line) longest_line) → cond t (Some guess) None ≡ Some act → IsActLine tenant line act
    kept guess false is e = absurd cc
    kept guess true is e =
        let a = both (bytes_eq (act_line tenant guess) line && has_line guess) (nat_le (length line) longest_line) (sym is) in
        let b = both (bytes_eq (act_line tenant guess) line) (has_line guess) a.0 in
        subst (IsActLine tenant line) (same_value guess act e) (record { spelled = sym (bytes_from_test (act_line tenant guess) line b.0); allowed = b.1; short = a.1 })

    found : (guess : Option Act) → option_and_then (checked_act tenant line) guess ≡ Some act → IsActLine tenant line act
    found None e = absurd cc
    found (Some guess) e = kept guess _ refl e

checked_back : (tenant : List ℕ) (act : Act) → IsActLine tenant (act_line tenant act) act → checked_act tenant (act_line tenant act) act ≡ Some act
checked_back tenant act is = rw (same_bytes (act_line tenant act)) (rw is.allowed (rw is.short refl))

spelled_back : (tenant : List ℕ) (act : Act) → IsTrue (is_name tenant) → IsActLine tenant (act_line tenant act) act → act_in tenant (act_line tenant act) ≡ Some act
spelled_back tenant act named is =
    ap (λ words. option_and_then (checked_act tenant (act_line tenant act)) (act_of_words words)) (parts_joined space tenant (words_of_act act) (name_free tenant named) (words_free act is.allowed))
    ∙ ap (option_and_then (checked_act tenant (act_line tenant act))) (words_back tenant act is.allowed)
    ∙ checked_back tenant act is

-- the act of a line is found
pub act_in-finds : (tenant line : List ℕ) (act : Act) → IsTrue (is_name tenant) → IsActLine tenant line act → act_in tenant line ≡ Some act
act_in-finds tenant line act named is =
    subst (λ l. act_in tenant l ≡ Some act) (sym is.spelled) (spelled_back tenant act named (subst (λ l. IsActLine tenant l act) is.spelled is))

-- a line is one act at most
pub one_act : (tenant line : List ℕ) (act other : Act) → IsTrue (is_name tenant) → IsActLine tenant line act → IsActLine tenant line other → act ≡ other
one_act tenant line act other named is also = same_value act other (sym (act_in-finds tenant line act named is) ∙ act_in-finds tenant line other named also)
