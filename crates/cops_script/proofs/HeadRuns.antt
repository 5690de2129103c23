-- What the lines of a head come to, as they are cut.
use Rattle.std.proofs.Common.{◌≡◌, ℕ, zero, suc, ◌+◌, ◌<◌, ◌≤◌, ◌^◌, ◌-◌, Bool, true, false, min, List, [], ◌∷◌, ◌++◌, length, map, take, inl, inr, refl, sym, subst, ap, ◌∙◌, length-append, length-take, true≢false, arith}
use Rattle.std.specs.Prelude.{Option, Some, None, nat_lt, IsTrue}
use Rattle.std.specs.List.{AllByRecursion}
use Rattle.std.proofs.Math.Nat.{min-eq_left}
use Rattle.std.proofs.lemmas.Bool.Decides.{nat_tests}
use Rattle.cops_types.specs.declared.configs.Config.{Config}
use Rattle.cops_types.specs.declared.configs.Tenant.{Tenant}
use Rattle.cops_types.specs.Counts.{counted}
use Rattle.cops_types.specs.Head.{Front, AtStart, Within, Begun, is_begun, Follows, front_after, BadAt, reading_from}
use Rattle.cops_types.specs.HeadLines.{is_distinct, is_tenant}
use Rattle.cops_types.specs.Lines.{cut_line, longest_line}
use Rattle.cops_types.proofs.FrontLemmas.{front_after-is}
use Rattle.cops_types.proofs.HeadLengths.{AreGood, front_after-short, follows-good, name_of_good}
use Rattle.cops_types.proofs.WordLemmas.{both}
use Rattle.cops_types.specs.Slots.{AreNamed}
use Rattle.cops_script.proofs.ApartTenants.{AreApart, apart_push, none_apart}

take_all : (n : ℕ) (xs : List ℕ) → length xs ≤ n → take n xs ≡ xs
take_all zero [] h = refl
take_all zero (x ∷ xs) h = absurd (omega arith)
take_all (suc n) [] h = refl
take_all (suc n) (x ∷ xs) h = ap (λ l. x ∷ l) (take_all n xs (omega arith))

by_test : {C : Type 0} (b : Bool) → (b ≡ true → C) → (b ≡ false → C) → C
by_test {C} true holds fails = holds refl
by_test {C} false holds fails = fails refl

min_is : (n : ℕ) → n ≤ 2 ^ 64 - 1 → min n (2 ^ 64 - 1) ≡ n
min_is n small = min-eq_left small

abbrev pub tenants_in : Front → List Tenant
tenants_in AtStart = []
tenants_in (Within config) = config.tenants
tenants_in (Begun config) = config.tenants

-- ---- lines of a head, as they are cut

-- a script's lines are read as far as a head's may go
pub wide : 8192 ≤ longest_line
wide = omega arith

-- a long line is no line of a head, cut or not
pub cut_in_head : (limit : ℕ) → 8192 ≤ limit → (front : Front) (line : List ℕ) → front_after front (cut_line limit line) ≡ front_after front line
cut_in_head limit wide front line = by_test (nat_lt (limit + 1) (length line))
    (λ is.
    let long : limit + 1 < length line = grind (arith, nat_tests) in
    let size : length (take (limit + 1) line) ≡ limit + 1 = length-take (limit + 1) line ∙ omega arith in
    none_of (take (limit + 1) line) (λ short. omega (arith, size, short)) ∙ sym (none_of line (λ short. omega (arith, short))))
    (λ is. let short : length line ≤ limit + 1 = grind (arith, nat_tests) in ap (front_after front) (take_all (limit + 1) line short))
  where
    none_of : (l : List ℕ) → (length l ≤ 8192 → ⊥) → front_after front l ≡ None
    none_of l long = by_found (front_after front l) refl
      where
        by_found : (found : Option Front) → front_after front l ≡ found → found ≡ None
        by_found None e = refl
        by_found (Some next) e = absurd (long (front_after-short front l next e))

-- lines that a machine has seen are cut from the real ones
pub real_lines : (limit : ℕ) (lines cut others : List (List ℕ)) → map (cut_line limit) lines ≡ cut ++ others → (front : List (List ℕ)) × (rest : List (List ℕ)) × (lines ≡ front ++ rest) × (cut ≡ map (cut_line limit) front) × (others ≡ map (cut_line limit) rest)
real_lines limit lines [] others e = ([], lines, refl, refl, sym e)
real_lines limit [] (c ∷ cut) others e = cc
real_lines limit (line ∷ lines) (c ∷ cut) others e =
    let first : cut_line limit line ≡ c = cc in
    let later : map (cut_line limit) lines ≡ cut ++ others = cc in
    let rest = real_lines limit lines cut others later in
    (line ∷ rest.0, rest.1, ap (λ l. line ∷ l) rest.2, (λ i. sym first i ∷ rest.3 i), rest.4)

-- ---- how many lines the head has

-- how many lines a front has taken
abbrev pub taken : Front → ℕ
taken AtStart = 0
taken (Within config) = length config.tenants + 1
taken (Begun config) = length config.tenants + 2

abbrev pub IsSmall : Front → Type 0
IsSmall AtStart = Unit {0}
IsSmall (Within config) = length config.tenants ≤ 64
IsSmall (Begun config) = length config.tenants ≤ 64

pub record IsCounted (front : Front) (count : ℕ) : Type 0 where
  pub counts : count ≡ taken front
  pub small : IsSmall front
  pub good : AreGood front
  pub apart : AreApart (tenants_in front)

pub counted-small : (front : Front) (count : ℕ) → IsCounted front count → counted count ≡ count + 1
counted-small AtStart count c = min_is (count + 1) (let n = c.counts in omega arith)
counted-small (Within config) count c = min_is (count + 1) (let n = c.counts in let small = c.small in omega arith)
counted-small (Begun config) count c = min_is (count + 1) (let n = c.counts in let small = c.small in omega arith)

-- one more line of the head
pub counted_next : (front : Front) (count : ℕ) (line : List ℕ) (config : Config) → IsCounted front count → front_after front line ≡ Some (Within config) → IsCounted (Within config) (counted count)
counted_next front count line config c e = follows front (front_after-is front line (Within config) e) c
  where
    follows : (f : Front) → Follows f line (Within config) → IsCounted f count → IsCounted (Within config) (counted count)
    follows AtStart h c =
        let same : Within config ≡ Within h.0 = h.2 in
        let none : config.tenants ≡ [] = ap tenants_in same ∙ h.1.bare in
        record {
          counts = counted-small AtStart count c ∙ (let n = c.counts in let zeroth = ap length none in omega arith);
          small = (let zeroth = ap length none in omega arith);
          good = follows-good AtStart line (Within config) c.good h;
          apart = subst AreApart (sym none) none_apart;
        }
    follows (Within old) (inl joins) c =
        let more : config.tenants ≡ old.tenants ++ joins.tenant ∷ [] = ap tenants_in joins.after in
        let size = ap length more ∙ length-append old.tenants (joins.tenant ∷ []) in
        let room : length old.tenants < 64 = grind (arith, nat_tests, (both (nat_lt (length old.tenants) 64) (is_distinct old.tenants joins.tenant) joins.may).0) in
        record {
          counts = counted-small (Within old) count c ∙ (let n = c.counts in omega arith);
          small = omega arith;
          good = follows-good (Within old) line (Within config) c.good (inl joins);
          apart = subst AreApart (sym more) (apart_push old.tenants joins.tenant c.apart (both (nat_lt (length old.tenants) 64) (is_distinct old.tenants joins.tenant) joins.may).1);
        }
    follows (Within old) (inr ends) c = let clash = ap is_begun ends.after in absurd (true≢false (sym clash))
    follows (Begun old) h c = absurd h

-- the names of a whole head
pub named_of : (config : Config) → AreGood (Begun config) → AreNamed config.tenants
named_of config good = go config.tenants good
  where
    go : (tenants : List Tenant) → AllByRecursion (λ (t : Tenant). IsTrue (is_tenant t)) tenants → AreNamed tenants
    go [] h = tt
    go (t ∷ tenants) h = (name_of_good t h.0, go tenants h.1)

pub apart_of_begun : (front : Front) (line : List ℕ) (config : Config) → AreApart (tenants_in front) → Follows front line (Begun config) → AreApart config.tenants
apart_of_begun AtStart line config apart h = absurd (true≢false (ap is_begun h.2))
apart_of_begun (Within old) line config apart (inl joins) = absurd (true≢false (ap is_begun joins.after))
apart_of_begun (Within old) line config apart (inr ends) = subst AreApart (sym (ap tenants_in ends.after)) apart
apart_of_begun (Begun old) line config apart h = absurd h

pub start : IsCounted AtStart 0
start = record { counts = refl; small = tt; good = tt; apart = none_apart }

pub read_once : (front : Front) (number : ℕ) (line : List ℕ) (lines : List (List ℕ)) (next : Front) → is_begun front ≡ false → front_after front line ≡ Some next → reading_from (line ∷ lines) number front ≡ reading_from lines (number + 1) next
read_once AtStart number line lines next still e = ap (λ f. elim f [ None ↦ BadAt number | Some next ↦ reading_from lines (number + 1) next ]) e
read_once (Within config) number line lines next still e = ap (λ f. elim f [ None ↦ BadAt number | Some next ↦ reading_from lines (number + 1) next ]) e
read_once (Begun config) number line lines next still e = absurd (true≢false still)

pub bad_first : (front : Front) (number : ℕ) (line : List ℕ) (lines : List (List ℕ)) → is_begun front ≡ false → front_after front line ≡ None → reading_from (line ∷ lines) number front ≡ BadAt number
bad_first AtStart number line lines still e = ap (λ f. elim f [ None ↦ BadAt number | Some next ↦ reading_from lines (number + 1) next ]) e
bad_first (Within config) number line lines still e = ap (λ f. elim f [ None ↦ BadAt number | Some next ↦ reading_from lines (number + 1) next ]) e
bad_first (Begun config) number line lines still e = absurd (true≢false still)

pub bad_end : (front : Front) (number : ℕ) → is_begun front ≡ false → reading_from [] number front ≡ BadAt number
bad_end AtStart number still = refl
bad_end (Within config) number still = refl
bad_end (Begun config) number still = absurd (true≢false still)
