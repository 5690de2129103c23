-- The replies of a transaction's attempt, each beside what was asked.
use Rattle.std.proofs.Common.{◌≡◌, ℕ, ◌+◌, ◌≤◌, Bool, true, false, cond, List, [], ◌∷◌, ◌++◌, map, length, drop, refl, sym, ap, subst, arith, length-append}
use Rattle.std.specs.Prelude.{Option, Some, None, find, nat_lt, slice_get, unwrap_or}
use Rattle.std.specs.List.{AllByRecursion}
use Rattle.std.proofs.lemmas.List.{length-map}
use Rattle.std.proofs.lemmas.Bool.Decides.{nat_tests}
use Rattle.cops_types.specs.declared.contexts.ReadParts.{ReadParts as Read}
use Rattle.cops_types.specs.Key.{key_eq}
use Rattle.cops_model.specs.declared.calls.NodeReply.{NodeReply}
use Rattle.cops_model.specs.declared.calls.Wanted.TheVariants.{Latest, Exactly}
use Rattle.cops_model.specs.Transaction.{ReadRequest, gets, first_round, second_round, wanted_version, outdated, read_of, reads_of, last_read, final_reads}
use Rattle.cops_types.proofs.Elements.{Every-find, Every-map, Every-from, Every-at}
use Rattle.cops_types.proofs.Zipped.{Zipped, Zipped-left, Zipped-right, Zipped-front, Zipped-push}

reads_of-past : (keys : List (List ℕ)) (rs : List NodeReply) (r : NodeReply) → length keys ≤ length rs → reads_of keys (rs ++ r ∷ []) ≡ reads_of keys rs
reads_of-past [] rs r past = refl
reads_of-past (key ∷ keys) [] r past = absurd (omega arith)
reads_of-past (key ∷ keys) (s ∷ rs) r past = ap (λ reads. read_of key s ∷ reads) (reads_of-past keys rs r (omega arith))

pub length-first_round : (keys : List (List ℕ)) → length (first_round keys) ≡ length keys
length-first_round keys = length-map keys (λ key. record { key = key; wanted = Latest })

abbrev gets_by : Bool → List (List ℕ) → List NodeReply → List ReadRequest
gets_by more keys rs = cond more (first_round keys) (first_round keys ++ second_round (reads_of keys rs))

module _ (R : ReadRequest → NodeReply → Type 0) (keys : List (List ℕ)) (rs : List NodeReply) (q : ReadRequest) (r : NodeReply) where
  gets_push_by : (before : Bool) → nat_lt (length rs) (length keys) ≡ before → Zipped R (gets_by before keys rs) (rs ++ r ∷ []) → (after : Bool) → nat_lt (length (rs ++ r ∷ [])) (length keys) ≡ after →
      Zipped R (gets_by after keys (rs ++ r ∷ [])) (rs ++ r ∷ [])
  gets_push_by true is z true later = z
  gets_push_by true is z false later =
      let within : length (rs ++ r ∷ []) ≤ length (first_round keys) =
      let one : length (rs ++ r ∷ []) ≡ length rs + 1 = length-append rs (r ∷ []) in
      let same : length (first_round keys) ≡ length keys = length-first_round keys in grind (arith, nat_tests) in
      Zipped-front R (first_round keys) (second_round (reads_of keys (rs ++ r ∷ []))) (rs ++ r ∷ []) within z
  gets_push_by false is z true later = absurd (let one : length (rs ++ r ∷ []) ≡ length rs + 1 = length-append rs (r ∷ []) in grind (arith, nat_tests))
  gets_push_by false is z false later =
      let past : length keys ≤ length rs = grind (arith, nat_tests) in
      subst (λ reads. Zipped R (first_round keys ++ second_round reads) (rs ++ r ∷ [])) (sym (reads_of-past keys rs r past)) z

  -- one more reply to what the attempt asked for
  pub Zipped-gets : Zipped R (gets keys rs) rs → slice_get (gets keys rs) (length rs) ≡ Some q → R q r → Zipped R (gets keys (rs ++ r ∷ [])) (rs ++ r ∷ [])
  Zipped-gets z at new =
      gets_push_by (nat_lt (length rs) (length keys)) refl (Zipped-push R (gets keys rs) rs q r z at new) (nat_lt (length (rs ++ r ∷ [])) (length keys)) refl

-- ---- what was read

module _ (R : ReadRequest → NodeReply → Type 0) (G : Read → Type 0) (reads_well : (q : ReadRequest) (r : NodeReply) → R q r → G (read_of q.key r)) where
  Every-reads_of : (qs : List ReadRequest) (rs : List NodeReply) → Zipped R qs rs → AllByRecursion G (reads_of (map (λ q. q.key) qs) rs)
  Every-reads_of [] rs z = tt
  Every-reads_of (q ∷ qs) [] z = tt
  Every-reads_of (q ∷ qs) (r ∷ rs) z = (reads_well q r z.0, Every-reads_of qs rs z.1)

  keys-first_round : (keys : List (List ℕ)) → map (λ (q : ReadRequest). q.key) (first_round keys) ≡ keys
  keys-first_round [] = refl
  keys-first_round (key ∷ keys) = ap (λ ks. key ∷ ks) (keys-first_round keys)

  keys-second : (reads all : List Read) → map (λ (q : ReadRequest). q.key) (map (λ read. record { key = read.key; wanted = Exactly (wanted_version all read) }) reads) ≡ map (λ (read : Read). read.key) reads
  keys-second [] all = refl
  keys-second (read ∷ reads) all = ap (λ ks. read.key ∷ ks) (keys-second reads all)

  abbrev later_reads : List (List ℕ) → List NodeReply → List Read
  later_reads keys rs = reads_of (map (λ read. read.key) (outdated (reads_of keys rs))) (drop (length keys) rs)

  pub Every-first_reads : (keys : List (List ℕ)) (rs : List NodeReply) → Zipped R (gets keys rs) rs → AllByRecursion G (reads_of keys rs)
  Every-first_reads keys rs z =
      subst (λ ks. AllByRecursion G (reads_of ks rs)) (keys-first_round keys) (Every-reads_of (first_round keys) rs (first (nat_lt (length rs) (length keys)) z))
    where
      first : (b : Bool) → Zipped R (gets_by b keys rs) rs → Zipped R (first_round keys) rs
      first true z = z
      first false z = Zipped-left R (first_round keys) (second_round (reads_of keys rs)) rs z

  pub Every-later_reads : (keys : List (List ℕ)) (rs : List NodeReply) → nat_lt (length rs) (length keys) ≡ false → Zipped R (gets keys rs) rs → AllByRecursion G (later_reads keys rs)
  Every-later_reads keys rs done z =
      let all = reads_of keys rs in
      let both : Zipped R (first_round keys ++ second_round all) rs = subst (λ b. Zipped R (gets_by b keys rs) rs) done z in
      let second = Zipped-right R (first_round keys) (second_round all) rs both in
      let there = subst (λ n. Zipped R (second_round all) (drop n rs)) (length-first_round keys) second in
      subst (λ ks. AllByRecursion G (reads_of ks (drop (length keys) rs))) (keys-second (outdated all) all) (Every-reads_of (second_round all) (drop (length keys) rs) there)

  last_read_well : (later : List Read) (read : Read) → AllByRecursion G later → G read → G (last_read later read)
  last_read_well later read well this = by_found (find (λ r. key_eq r.key read.key) later) refl
    where
      by_found : (found : Option Read) → find (λ r. key_eq r.key read.key) later ≡ found → G (unwrap_or found read)
      by_found None is = this
      by_found (Some r) is = Every-find G (λ r. key_eq r.key read.key) r later well is

  -- what a transaction returns is what was read
  pub Every-final_reads : (keys : List (List ℕ)) (rs : List NodeReply) → nat_lt (length rs) (length keys) ≡ false → Zipped R (gets keys rs) rs → AllByRecursion G (final_reads keys rs)
  Every-final_reads keys rs done z =
      let first = Every-first_reads keys rs z in
      let later = Every-later_reads keys rs done z in
      Every-map G (last_read (later_reads keys rs)) (reads_of keys rs)
      (Every-from (λ read. G (last_read (later_reads keys rs) read)) (reads_of keys rs) (λ read at. last_read_well (later_reads keys rs) read later (Every-at G read (reads_of keys rs) first at)))
