-- Tenants are found by their indexed names and tokens.
use Rattle.std.proofs.Common.{◌≡◌, ℕ, ◌+◌, Bool, true, false, cond, not, ◌&&◌, ◌||◌, List, [], ◌∷◌, ◌++◌, map, length, refl, sym, subst, ap, ◌∙◌, arith}
use Rattle.std.specs.Cmp.{partial_equiv_from_equiv}
use Rattle.std.specs.Cmp.Lexicographic.{nat_list_eq_equiv}
use Rattle.std.specs.List.{AllByRecursion, list_any, position_or_len}
use Rattle.std.specs.Prelude.{IsTrue, nat_lt, position, Some, None, Ok, Err}
use Rattle.std.specs.Str.{bytes_eq}
use Rattle.std.proofs.lemmas.Bool.Decides.{nat_tests}
use Rattle.std.proofs.lemmas.List.{length-map, map-append}
use Rattle.indexmap.specs.IndexSet.{insert_key}
use Rattle.cops_types.specs.declared.configs.Tenant.{Tenant}
use Rattle.cops_types.specs.declared.faults.Fault.{Fault}
use Rattle.cops_types.specs.HeadLines.{is_distinct}
use Rattle.cops_types.specs.Key.{IsName, is_name}
use Rattle.cops_types.specs.Slots.{AreIndexed, AreNamed}
use Rattle.cops_types.proofs.BegunSlots.{apart_more}
use Rattle.cops_types.proofs.WordLemmas.{bytes_from_test}

swapped : (xs ys : List ℕ) → bytes_eq xs ys ≡ bytes_eq ys xs
swapped xs ys = (partial_equiv_from_equiv nat_list_eq_equiv).symm xs ys

first_found : (text_of : Tenant → List ℕ) (text : List ℕ) (tenants : List Tenant) → position_or_len (bytes_eq text) (map text_of tenants) ≡ position_or_len (λ tenant. bytes_eq (text_of tenant) text) tenants
first_found text_of text [] = refl
first_found text_of text (tenant ∷ tenants) = λ i. cond (not (swapped text (text_of tenant) i)) (1 + first_found text_of text tenants i) 0

-- a text is at the place of the tenant that has it
pub place_found : (text_of : Tenant → List ℕ) (text : List ℕ) (texts : List (List ℕ)) (tenants : List Tenant) → texts ≡ map text_of tenants → position (bytes_eq text) texts ≡ position (λ tenant. bytes_eq (text_of tenant) text) tenants
place_found text_of text texts tenants e =
    ap (position (bytes_eq text)) e
    ∙ (λ i. cond (nat_lt (first_found text_of text tenants i) (length-map tenants text_of i)) (Some (first_found text_of text tenants i)) None)

pub any_found : (text_of : Tenant → List ℕ) (text : List ℕ) (texts : List (List ℕ)) (tenants : List Tenant) → texts ≡ map text_of tenants → list_any (bytes_eq text) texts ≡ list_any (λ tenant. bytes_eq (text_of tenant) text) tenants
any_found text_of text texts tenants e = ap (list_any (bytes_eq text)) e ∙ among tenants
  where
    among : (ts : List Tenant) → list_any (bytes_eq text) (map text_of ts) ≡ list_any (λ tenant. bytes_eq (text_of tenant) text) ts
    among [] = refl
    among (t ∷ ts) = λ i. swapped text (text_of t) i || among ts i

-- what is no name is the name of no tenant
other_name : (name text : List ℕ) (t : Bool) → IsTrue (is_name name) → is_name text ≡ false → bytes_eq name text ≡ t → t ≡ false
other_name name text false named is e = refl
other_name name text true named is e = let same = bytes_from_test name text e in absurd (cc (ap is_name same, named, is))

none_named : (names : List (List ℕ)) (text : List ℕ) → AllByRecursion IsName names → is_name text ≡ false → position_or_len (bytes_eq text) names ≡ length names
none_named [] text named is = refl
none_named (name ∷ names) text named is = rw (swapped text name ∙ other_name name text (bytes_eq name text) named.0 is refl) (rw (none_named names text named.1 is) (omega arith))

pub no_place : (names : List (List ℕ)) (text : List ℕ) → AllByRecursion IsName names → is_name text ≡ false → position (bytes_eq text) names ≡ None
no_place names text named is = rw (none_named names text named is) (at_end (length names))
  where
    at_end : (n : ℕ) → cond (nat_lt n n) (Some n) None ≡ None
    at_end n = let past : nat_lt n n ≡ false = grind (arith, nat_tests) in rw past refl

-- what was not made into a name is none
pub no_name : (text : List ℕ) (fault : Fault) (t : Bool) → is_name text ≡ t → cond t (Ok text) (Err Fault.Syntax) ≡ Err fault → is_name text ≡ false
no_name text fault false is made = is
no_name text fault true is made = absurd cc

pub names_named : (tenants : List Tenant) (names : List (List ℕ)) → AreNamed tenants → names ≡ map (λ (tenant : Tenant). tenant.name) tenants → AllByRecursion IsName names
names_named tenants names named are = subst (AllByRecursion IsName) (sym are) (each tenants named)
  where
    each : (ts : List Tenant) → AreNamed ts → AllByRecursion IsName (map (λ (tenant : Tenant). tenant.name) ts)
    each [] h = tt
    each (t ∷ ts) h = (h.0, each ts h.1)

-- one more tenant
named_more : (tenants : List Tenant) (tenant : Tenant) → AreNamed tenants → IsTrue (is_name tenant.name) → AreNamed (tenants ++ tenant ∷ [])
named_more [] tenant all named = (named, tt)
named_more (first ∷ tenants) tenant all named = (all.0, named_more tenants tenant all.1 named)

neither : (a b : Bool) → IsTrue (not a && not b) → (a ≡ false) × (b ≡ false)
neither true b h = absurd cc
neither false true h = absurd cc
neither false false h = (refl, refl)

one_more : (text_of : Tenant → List ℕ) (tenants : List Tenant) (tenant : Tenant) (texts : List (List ℕ)) → texts ≡ map text_of tenants → list_any (λ other. bytes_eq (text_of other) (text_of tenant)) tenants ≡ false →
    insert_key bytes_eq texts (text_of tenant) ≡ map text_of (tenants ++ tenant ∷ [])
one_more text_of tenants tenant texts are fresh =
    rw (any_found text_of (text_of tenant) texts tenants are ∙ fresh) (ap (λ ts. ts ++ text_of tenant ∷ []) are ∙ sym (map-append text_of tenants (tenant ∷ [])))

pub indexed_more : (tenants : List Tenant) (tenant : Tenant) (names tokens : List (List ℕ)) → AreIndexed tenants names tokens → IsTrue (is_name tenant.name) → IsTrue (is_distinct tenants tenant) →
    AreIndexed (tenants ++ tenant ∷ []) (insert_key bytes_eq names tenant.name) (insert_key bytes_eq tokens tenant.token)
indexed_more tenants tenant names tokens are named distinct =
    let fresh = neither (list_any (λ (other : Tenant). bytes_eq other.name tenant.name) tenants) (list_any (λ (other : Tenant). bytes_eq other.token tenant.token) tenants) distinct in
    record {
      named = named_more tenants tenant are.named named;
      distinct = record {
        names_apart = apart_more (λ t. t.name) tenants tenant are.distinct.names_apart fresh.0;
        tokens_apart = apart_more (λ t. t.token) tenants tenant are.distinct.tokens_apart fresh.1;
      };
      names_are = one_more (λ t. t.name) tenants tenant names are.names_are fresh.0;
      tokens_are = one_more (λ t. t.token) tenants tenant tokens are.tokens_are fresh.1;
    }
