-- A tenant comes or goes at one node after another.
use Rattle.std.proofs.Common.{◌≡◌, inl, inr, ℕ, zero, suc, ◌<◌, ◌≤◌, ◌≢◌, ◌||◌, Bool, true, false, List, [], ◌∷◌, length, get_or, set, refl, sym, subst, ap, ◌∙◌, arith}
use Rattle.std.specs.List.{AllByRecursion, list_any}
use Rattle.std.specs.Prelude.{None, Some, Ok, Err, OnErr, OnOk, Result}
use Rattle.std.proofs.lemmas.Bool.Decides.{eqb_tells}
use Rattle.cops_types.specs.declared.faults.Fault.{Fault}
use Rattle.cops_types.specs.declared.faults.Fault.TheVariants.{NoSlot}
use Rattle.cops_types.specs.declared.request_errors.RequestError.{RequestError}
use Rattle.cops_types.specs.declared.request_errors.RequestError.TheVariants.{OutOfMemory, Refused}
use Rattle.cops_types.specs.Refusal.{refused_if}
use Rattle.cops_types.specs.RequestErrors.{AnswersUnless, IfRefusal}
use Rattle.cops_types.specs.declared.quotas.Quota.{Quota}
use Rattle.cops_model.specs.declared.calls.AuditEntry.{AuditEntry}
use Rattle.cops_model.specs.Place.{Place}
use Rattle.cops_node.specs.Clusters.{HoldsNodes, IsCluster}
use Rattle.cops_node.specs.declared.Home.{Home}
use Rattle.cops_node.specs.Parts.{AllFit, AuditFits, IsSlotKept, Shared, is_taken, trail_of}
use Rattle.cops_node.specs.declared.Shape.{Shape}
use Rattle.cops_node.specs.Shape.{place_in}
use Rattle.cops_node.specs.Lives.{AtEach, AtFirst, IsAdmitted, IsClosed}

pub first_none : (Is : Shared → Shared → Type 0) (nodes : List Shared) → AtFirst Is 0 nodes nodes
first_none Is [] = tt
first_none Is (a ∷ nodes) = (refl, first_none Is nodes)

-- one more
pub first_more : (Is : Shared → Shared → Type 0) (n : ℕ) (old now : List Shared) (x y : Shared) → AtFirst Is n old now → n < length now → x ≡ get_or now n x → Is x y → AtFirst Is (suc n) old (set now n y)
first_more Is n [] [] x y h lt is made = absurd (omega arith)
first_more Is n [] (b ∷ now) x y h lt is made = absurd h
first_more Is n (a ∷ old) [] x y h lt is made = absurd h
first_more Is zero (a ∷ old) (b ∷ now) x y h lt is made = (subst (λ z. Is z y) (is ∙ h.0) made, h.1)
first_more Is (suc n) (a ∷ old) (b ∷ now) x y h lt is made = (h.0, first_more Is n old now x y h.1 (omega arith) is made)

-- all
pub first_all : (Is : Shared → Shared → Type 0) (n : ℕ) (old now : List Shared) → AtFirst Is n old now → length now ≤ n → AtEach Is old now
first_all Is n [] [] h le = tt
first_all Is n [] (b ∷ now) h le = absurd h
first_all Is n (a ∷ old) [] h le = absurd h
first_all Is zero (a ∷ old) (b ∷ now) h le = absurd (omega arith)
first_all Is (suc n) (a ∷ old) (b ∷ now) h le = (h.0, first_all Is n old now h.1 (omega arith))

-- the next is as it was
pub still : (P : Shared → Type 0) (Is : Shared → Shared → Type 0) (n : ℕ) (old now : List Shared) (x : Shared) → AllByRecursion P old → AtFirst Is n old now → n < length now → x ≡ get_or now n x → P x
still P Is n [] [] x all h lt is = absurd (omega arith)
still P Is n [] (b ∷ now) x all h lt is = absurd h
still P Is n (a ∷ old) [] x all h lt is = absurd h
still P Is zero (a ∷ old) (b ∷ now) x all h lt is = subst P (sym (is ∙ h.0)) all.0
still P Is (suc n) (a ∷ old) (b ∷ now) x all h lt is = still P Is n old now x all.1 h.1 (omega arith) is

-- ---- the tenant goes again

kept_twice : (other : ℕ) (old mid new : Shared) → IsSlotKept other old mid → IsSlotKept other mid new → IsSlotKept other old new
kept_twice other old mid new one two = (two.0 ∙ one.0, two.1 ∙ one.1)

gone_again : (slot first_clock : ℕ) (quota : Quota) (old mid new : Shared) → IsAdmitted slot first_clock quota old mid → IsClosed slot mid new → IsClosed slot old new
gone_again slot first_clock quota old mid new came went = record {
  vacant = went.vacant;
  empty = went.empty;
  others = λ other differ. kept_twice other old mid new (came.others other differ) (went.others other differ);
  home = went.home ∙ came.home;
}

pub all_gone_again : (slot first_clock : ℕ) (quota : Quota) (n : ℕ) (old mid new : List Shared) → AtFirst (IsAdmitted slot first_clock quota) n old mid → AtEach (IsClosed slot) mid new → AtEach (IsClosed slot) old new
all_gone_again slot first_clock quota n [] [] [] h went = tt
all_gone_again slot first_clock quota n [] [] (c ∷ new) h went = absurd went
all_gone_again slot first_clock quota n [] (b ∷ mid) new h went = absurd h
all_gone_again slot first_clock quota n (a ∷ old) [] new h went = absurd h
all_gone_again slot first_clock quota n (a ∷ old) (b ∷ mid) [] h went = absurd went
all_gone_again slot first_clock quota zero (a ∷ old) (b ∷ mid) (c ∷ new) h went =
    (subst (λ (x : Shared). IsClosed slot x c) h.0 went.0, all_gone_again slot first_clock quota zero old mid new h.1 went.1)
all_gone_again slot first_clock quota (suc n) (a ∷ old) (b ∷ mid) (c ∷ new) h went =
    (gone_again slot first_clock quota a b c h.0 went.0, all_gone_again slot first_clock quota n old mid new h.1 went.1)

-- ---- how many there are

pub first_length : (Is : Shared → Shared → Type 0) (n : ℕ) (old now : List Shared) → AtFirst Is n old now → length now ≡ length old
first_length Is n [] [] h = refl
first_length Is n [] (b ∷ now) h = absurd h
first_length Is n (a ∷ old) [] h = absurd h
first_length Is zero (a ∷ old) (b ∷ now) h = ap suc (first_length Is zero old now h.1)
first_length Is (suc n) (a ∷ old) (b ∷ now) h = ap suc (first_length Is n old now h.1)

pub first_below : (Is : Shared → Shared → Type 0) (n end : ℕ) (old now : List Shared) → AtFirst Is n old now → end ≡ length old → n < end → n < length now
first_below Is n end old now h is lt = let same = first_length Is n old now h in omega (arith, same, is, lt)

-- ---- a slot that is free

-- a free slot is refused for memory alone
pub unrefused : (P : Fault → Type 0) (taken : Bool) (result : Result (Unit {0}) RequestError) → taken ≡ false → AnswersUnless (refused_if taken NoSlot) result → IfRefusal result P
unrefused P taken (Ok done) free answer = tt
unrefused P taken (Err OutOfMemory) free answer = tt
unrefused P taken (Err (Refused fault)) free answer = let none : None ≡ Some fault = ap (λ t. refused_if t NoSlot) (sym free) ∙ answer in cc

pub none_taken : (slot : ℕ) (nodes : List Shared) → list_any (is_taken slot) nodes ≡ false → AllByRecursion (λ (node : Shared). is_taken slot node ≡ false) nodes
none_taken slot [] none = tt
none_taken slot (node ∷ nodes) none =
    let parts = neither (is_taken slot node) (list_any (is_taken slot) nodes) none in
    (parts.0, none_taken slot nodes parts.1)
  where
    neither : (a b : Bool) → (a || b) ≡ false → (a ≡ false) × (b ≡ false)
    neither true b h = cc
    neither false b h = (refl, h)

-- ---- the nodes stay those of the cluster

each_length : (Is : Shared → Shared → Type 0) (old new : List Shared) → AtEach Is old new → length new ≡ length old
each_length Is [] [] h = refl
each_length Is [] (b ∷ new) h = absurd h
each_length Is (a ∷ old) [] h = absurd h
each_length Is (a ∷ old) (b ∷ new) h = ap suc (each_length Is old new h.1)

-- the node of a number, and what it was
each_read : (Is : Shared → Shared → Type 0) (old new : List Shared) (number : ℕ) (node : Shared) → AtEach Is old new → number < length new → node ≡ get_or new number node → (before : Shared) × (before ≡ get_or old number before) × Is before node
each_read Is [] [] number node h lt is = absurd (omega arith)
each_read Is [] (b ∷ new) number node h lt is = absurd h
each_read Is (a ∷ old) [] number node h lt is = absurd h
each_read Is (a ∷ old) (b ∷ new) zero node h lt is = (a, refl, subst (Is a) (sym is) h.0)
each_read Is (a ∷ old) (b ∷ new) (suc number) node h lt is = each_read Is old new number node h.1 (omega arith) is

still_cluster : (shape : Shape) (Is : Shared → Shared → Type 0) (old new : List Shared) → ((a b : Shared) → Is a b → b.home ≡ a.home) → AtEach Is old new → IsCluster shape old → IsCluster shape new
still_cluster shape Is old new same h was = record {
  numbers_fit = was.numbers_fit;
  all = each_length Is old new h ∙ was.all;
  each = λ number node lt read.
      let at = each_read Is old new number node h lt read in
      let home = same at.0 node at.2 in
      let before = was.each number at.0 (subst (λ n. number < n) (each_length Is old new h) lt) at.1 in
      (ap (λ (h : Home). h.id) home ∙ before.0, ap (λ (h : Home). h.shape) home ∙ before.1);
}

-- ---- the calls in their audits still fit

all_read : (P : List AuditEntry → Type 0) (trails : List (List AuditEntry)) (slot : ℕ) → P [] → AllByRecursion P trails → P (get_or trails slot [])
all_read P [] slot none h = none
all_read P (t ∷ trails) zero none h = h.0
all_read P (t ∷ trails) (suc slot) none h = all_read P trails slot none h.1

read_all : (P : List AuditEntry → Type 0) (trails : List (List AuditEntry)) → ((slot : ℕ) → P (get_or trails slot [])) → AllByRecursion P trails
read_all P [] each = tt
read_all P (t ∷ trails) each = (each 0, read_all P trails (λ slot. each (suc slot)))

fit_still : (slot : ℕ) (old new : Shared) → new.home ≡ old.home → trail_of slot new.audit ≡ [] → ((other : ℕ) → other ≢ slot → IsSlotKept other old new) → AuditFits old → AuditFits new
fit_still slot old new same empty others fit =
    let place : place_in new.home.shape new.home.id ≡ place_in old.home.shape old.home.id = ap (λ (h : Home). place_in h.shape h.id) same in
    subst (λ (p : Place). AllByRecursion (AllFit p) new.audit) (sym place) (read_all (AllFit home) new.audit each)
  where
    home : Place
    home = place_in old.home.shape old.home.id

    each : (other : ℕ) → AllFit (place_in old.home.shape old.home.id) (get_or new.audit other [])
    each other =
        elim (eqb_tells other slot) [
          | inl here ↦ subst (AllFit home) (sym (ap (λ n. trail_of n new.audit) here.1 ∙ empty)) tt
          | inr apart ↦ subst (AllFit home) (sym (others other apart.1).1) (all_read (AllFit home) old.audit other tt fit)
        ]

all_fit : (Is : Shared → Shared → Type 0) (old new : List Shared) → ((a b : Shared) → Is a b → AuditFits a → AuditFits b) → AtEach Is old new → AllByRecursion AuditFits old → AllByRecursion AuditFits new
all_fit Is [] [] still h fit = tt
all_fit Is [] (b ∷ new) still h fit = absurd h
all_fit Is (a ∷ old) [] still h fit = absurd h
all_fit Is (a ∷ old) (b ∷ new) still h fit = (still a b h.0 fit.0, all_fit Is old new still h.1 fit.1)

-- ---- a cluster that a tenant joins or leaves

pub holds_closed : (shape : Shape) (slot : ℕ) (old new : List Shared) → AtEach (IsClosed slot) old new → HoldsNodes shape old → HoldsNodes shape new
holds_closed shape slot old new h was = record {
  in_order = still_cluster shape (IsClosed slot) old new (λ a b is. is.home) h was.in_order;
  fitting = all_fit (IsClosed slot) old new (λ a b is. fit_still slot a b is.home is.empty is.others) h was.fitting;
}

pub holds_admitted : (shape : Shape) (slot first_clock : ℕ) (quota : Quota) (old new : List Shared) → AtEach (IsAdmitted slot first_clock quota) old new → HoldsNodes shape old → HoldsNodes shape new
holds_admitted shape slot first_clock quota old new h was = record {
  in_order = still_cluster shape (IsAdmitted slot first_clock quota) old new (λ a b is. is.home) h was.in_order;
  fitting = all_fit (IsAdmitted slot first_clock quota) old new (λ a b is. fit_still slot a b is.home is.empty is.others) h was.fitting;
}

-- whether memory was refused or not
pub holds_after : {E : Type 0} (shape : Shape) (slot first_clock : ℕ) (quota : Quota) (old new : List Shared) (result : Result (Unit {0}) E) → OnOk result (AtEach (IsAdmitted slot first_clock quota) old new) → OnErr result (AtEach (IsClosed slot) old new)
    → HoldsNodes shape old → HoldsNodes shape new
holds_after shape slot first_clock quota old new (Ok done) came went was = holds_admitted shape slot first_clock quota old new came was
holds_after shape slot first_clock quota old new (Err fault) came went was = holds_closed shape slot old new went was
