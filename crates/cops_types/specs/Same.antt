-- Tests for the equality of two things.
use Rattle.std.specs.Prelude.{◌≡◌, ◌↔◌, ◌&&◌, Bool, true, false, nat_eq, IsTrue}
use Rattle.std.proofs.Common.{refl, sym, ap, ◌∙◌, subst}
use Rattle.std.specs.Cmp.{IsEquivalence, first_so, second_so}
use Rattle.std.specs.Cmp.Lexicographic.{pointwise, pointwise_decides, bytes_decides}
use Rattle.std.proofs.lemmas.Bool.Decides.{Decides-eqb}
use Rattle.cops_types.specs.declared.pairs.Pair.{Pair}
use Rattle.cops_types.specs.declared.records.EntryParts.{EntryParts as Entry}
use Rattle.cops_types.specs.Key.{key_eq}
use Rattle.cops_types.specs.Version.{version_eq}
use Rattle.cops_types.specs.Pairs.{pair_eq, pairs_eq}

-- the test holds exactly for equal things
pub record TellsSame {K : Type 0} (E : K → K → Bool) : Type 0 where
  pub same : (x y : K) → E x y ≡ true → x ≡ y
  pub itself : (x : K) → E x x ≡ true

-- ---- entries are equal if all their parts are

abbrev pub lists_eq : Entry → Entry → Bool
lists_eq e f = pointwise nat_eq e.value f.value && (pairs_eq e.near f.near && pairs_eq e.deps f.deps)

abbrev pub rest_eq : Entry → Entry → Bool
rest_eq e f = version_eq e.prev f.prev && lists_eq e f

abbrev pub entry_eq : Entry → Entry → Bool
entry_eq e f = version_eq e.version f.version && (key_eq e.key f.key && rest_eq e f)

-- ---- such a test is an equivalence

one_truth : (s t : Bool) → (s ≡ true → t ≡ true) → (t ≡ true → s ≡ true) → s ≡ t
one_truth true t f g = sym (f refl)
one_truth false true f g = g refl
one_truth false false f g = refl

pub same_equivalence : {K : Type 0} {E : K → K → Bool} → TellsSame E → IsEquivalence E
same_equivalence {K} {E} e = record {
  refl = e.itself;
  symm = λ x y. one_truth (E x y) (E y x) (λ h. subst (λ z. E z x ≡ true) (e.same x y h) (e.itself x)) (λ h. subst (λ z. E z y ≡ true) (e.same y x h) (e.itself y));
  congr = λ x y z h. ap (λ w. E w z) (e.same x y h);
}

pub both : {s t : Bool} → s ≡ true → t ≡ true → (s && t) ≡ true
both p q = λ i. p i && q i

-- consequences of the test's answer
pub told_same : {K : Type 0} {E : K → K → Bool} → TellsSame E → (x y : K) (told : Bool) → told ≡ E x y → IsTrue told ↔ (x ≡ y)
told_same {K} {E} e x y told is = (λ h. e.same x y (sym is ∙ h), λ same. is ∙ subst (λ z. E x z ≡ true) same (e.itself x))

-- an answer with the same consequences is the test's
pub test_of_same : {K : Type 0} {E : K → K → Bool} → TellsSame E → (x y : K) (told : Bool) → IsTrue told ↔ (x ≡ y) → told ≡ E x y
test_of_same {K} {E} e x y told says = one_truth told (E x y) (λ h. subst (λ z. E x z ≡ true) (says.0 h) (e.itself x)) (λ h. says.1 (e.same x y h))

-- ---- the tests

pub same_bytes : TellsSame (pointwise nat_eq)
same_bytes = record { same = λ x y. (bytes_decides x y).0; itself = λ x. (bytes_decides x x).1 refl }

pub same_versions : TellsSame version_eq
same_versions = record {
  same = λ v w h.
      let clock = (Decides-eqb v.clock w.clock).0 (first_so (nat_eq v.clock w.clock) (nat_eq v.node w.node) h) in
      let node = (Decides-eqb v.node w.node).0 (second_so (nat_eq v.clock w.clock) (nat_eq v.node w.node) h) in
      (λ i. record { clock = clock i; node = node i });
  itself = λ v. both ((Decides-eqb v.clock v.clock).1 refl) ((Decides-eqb v.node v.node).1 refl);
}

pub same_pair : TellsSame pair_eq
same_pair = record {
  same = λ p q h.
      let key = same_bytes.same p.key q.key (first_so (key_eq p.key q.key) (version_eq p.version q.version) h) in
      let version = same_versions.same p.version q.version (second_so (key_eq p.key q.key) (version_eq p.version q.version) h) in
      (λ i. record { key = key i; version = version i });
  itself = λ p. both (same_bytes.itself p.key) (same_versions.itself p.version);
}

pub same_pairs : TellsSame pairs_eq
same_pairs = record {
  same = λ ps qs. (pointwise_decides pair_decides ps qs).0;
  itself = λ ps. (pointwise_decides pair_decides ps ps).1 refl;
}
  where
    pair_decides : (p q : Pair) → (pair_eq p q ≡ true → p ≡ q) × (p ≡ q → pair_eq p q ≡ true)
    pair_decides p q = (same_pair.same p q, λ e. subst (λ r. pair_eq p r ≡ true) e (same_pair.itself p))

pub same_entries : TellsSame entry_eq
same_entries = record {
  same = λ e f h.
      let version = same_versions.same e.version f.version (first_so (version_eq e.version f.version) (key_eq e.key f.key && rest_eq e f) h) in
      let h1 = second_so (version_eq e.version f.version) (key_eq e.key f.key && rest_eq e f) h in
      let key = same_bytes.same e.key f.key (first_so (key_eq e.key f.key) (rest_eq e f) h1) in
      let h2 = second_so (key_eq e.key f.key) (rest_eq e f) h1 in
      let prev = same_versions.same e.prev f.prev (first_so (version_eq e.prev f.prev) (lists_eq e f) h2) in
      let h3 = second_so (version_eq e.prev f.prev) (lists_eq e f) h2 in
      let value = same_bytes.same e.value f.value (first_so (pointwise nat_eq e.value f.value) (pairs_eq e.near f.near && pairs_eq e.deps f.deps) h3) in
      let h4 = second_so (pointwise nat_eq e.value f.value) (pairs_eq e.near f.near && pairs_eq e.deps f.deps) h3 in
      let near = same_pairs.same e.near f.near (first_so (pairs_eq e.near f.near) (pairs_eq e.deps f.deps) h4) in
      let deps = same_pairs.same e.deps f.deps (second_so (pairs_eq e.near f.near) (pairs_eq e.deps f.deps) h4) in
      (λ i. record { key = key i; version = version i; value = value i; deps = deps i; near = near i; prev = prev i });
  itself = λ e.
      both (same_versions.itself e.version) (both (same_bytes.itself e.key) (both (same_versions.itself e.prev) (both (same_bytes.itself e.value) (both (same_pairs.itself e.near) (same_pairs.itself e.deps)))));
}
