-- The pages of an audit.
use Rattle.std.proofs.Common.{◌≡◌, ◌≢◌, ℕ, zero, suc, ◌+◌, ◌*◌, ◌^◌, ◌<◌, ◌≤◌, inl, inr, true, false, List, [], ◌∷◌, ◌++◌, length, map, refl, sym, ap, ◌∙◌, subst, arith, get_or, set, append-nil, append_assoc, Bor, true≢false, Vec, Global}
use Rattle.std.specs.Prelude.{◌-◌, ◌/◌, ◌%◌, slice_get, Option, Some, None, IsSome, is_some, nat_lt, replicate, Result, Ok, Err, OnOk}
use Rattle.std.specs.Option.{option_copied}
use Rattle.std.specs.Slice.{IsItemAt}
use Rattle.std.proofs.lemmas.Bool.{cases_eq, cases_lt}
use Rattle.std.proofs.lemmas.Bool.Decides.{nat_tests}
use Rattle.std.proofs.lemmas.List.{get_or_default, get_or-set_same, get_or-set_other, length-append, length-map}
use Rattle.std.proofs.lemmas.Nat.{div-add-mod'}
use Rattle.std.proofs.Math.Nat.{mod-lt}
use Rattle.std.proofs.lemmas.Option.{slice_get-get_or, slice_get_past}
use Rattle.cops_model.specs.declared.calls.AuditEntry.{AuditEntry}
use Rattle.cops_node.specs.declared.pages.Page.{Page}
use Rattle.cops_node.specs.declared.pages.PageList.{PageList}
use Rattle.cops_node.specs.Pages.{AreBelow, AuditLists, AreNumbered, ArePages, IsEarlier, IsListTurn, IsPageAdded, IsPageChain, IsPageList, IsPageOf, IsRefilled, OtherPagesStay, PAGE, before_in, calls_in, calls_to, list_at, no_pages, number_of_page, page_at, calls_of_page, skip_in, spare_for, spare_in, spare_of, spare_to, has_room_to}
use Rattle.cops_node.specs.Parts.{trail_of}
use Rattle.cops_node.proofs.Admissions.{padded_read}
use Rattle.cops_node.proofs.Slots.{map_read, some_same, some_there}

-- what a look-up gives
pub found_at : {X : Type 0} (xs : List X) (i : ℕ) (r : Option (Bor X)) → IsItemAt xs i r → option_copied r ≡ slice_get xs i
found_at xs i (Some x) h = ap Some h.1 ∙ sym (slice_get-get_or xs i x.now h.3.0)
found_at xs i None h = sym (slice_get_past xs i h.3)

get_left : {X : Type 0} (xs ys : List X) (i : ℕ) → i < length xs → slice_get (xs ++ ys) i ≡ slice_get xs i
get_left [] ys i lt = absurd (omega arith)
get_left (x ∷ xs) ys zero lt = refl
get_left (x ∷ xs) ys (suc i) lt = get_left xs ys i (omega arith)

get_right : {X : Type 0} (xs ys : List X) (i : ℕ) → slice_get (xs ++ ys) (length xs + i) ≡ slice_get ys i
get_right [] ys i = let e : 0 + i ≡ i = omega arith in ap (slice_get ys) e
get_right (x ∷ xs) ys i = let e : suc (length xs) + i ≡ suc (length xs + i) = omega arith in ap (slice_get (x ∷ (xs ++ ys))) e ∙ get_right xs ys i

some_none : {X : Type 0} (x : X) → Some x ≡ None → ⊥
some_none x h = true≢false (ap is_some h)

-- ---- one page

pub page_there : (pages : List (Option Page)) (slot n at : ℕ) → IsPageOf pages slot n at → IsSome (page_at pages at)
page_there pages slot n at h = subst IsSome (sym h.1) refl

-- a page has one number
one_number : (pages : List (Option Page)) (slot m n at : ℕ) → IsPageOf pages slot m at → IsPageOf pages slot n at → m ≡ n
one_number pages slot m n at h k =
    let same : h.0 ≡ k.0 = some_same h.0 k.0 (sym h.1 ∙ k.1) in
    sym h.3 ∙ ap (λ (p : Page). p.number) same ∙ k.3

page_kept : (pages pages' : List (Option Page)) (slot n at : ℕ) → page_at pages' at ≡ page_at pages at → IsPageOf pages slot n at → IsPageOf pages' slot n at
page_kept pages pages' slot n at same h = (h.0, same ∙ h.1, h.2, h.3)

-- ---- the pages of a slot

earlier_kept : (pages pages' : List (Option Page)) (slot n at : ℕ) → ((m x : ℕ) → m < n → IsPageOf pages slot m x → page_at pages' x ≡ page_at pages x) → IsEarlier pages slot n at → IsEarlier pages' slot n at
earlier_kept pages pages' slot n at same (inl first) = inl first
earlier_kept pages pages' slot n at same (inr (m, lt, h)) = inr (m, lt, page_kept pages pages' slot m at (same m at lt h) h)

-- the pages up to one stay if each of them stays
pub chain_kept : (pages pages' : List (Option Page)) (slot rows n at : ℕ) → ((m x : ℕ) → m < n → IsPageOf pages slot m x → page_at pages' x ≡ page_at pages x) → IsPageChain pages slot rows n at
    → IsPageChain pages' slot rows n at × (calls_to pages' n at ≡ calls_to pages n at)
chain_kept pages pages' slot rows zero at same h = (tt, refl)
chain_kept pages pages' slot rows (suc n) at same h =
    let here : page_at pages' at ≡ page_at pages at = same n at (omega arith) h.0 in
    let earlier : (m x : ℕ) → m < n → IsPageOf pages slot m x → page_at pages' x ≡ page_at pages x = λ m x lt. same m x (omega arith) in
    let rest = chain_kept pages pages' slot PAGE n (before_in (page_at pages at)) earlier h.3 in (
      (
        page_kept pages pages' slot n at here h.0,
        ap (λ o. length (calls_of_page o)) here ∙ h.1,
        subst (λ o. IsEarlier pages' slot n (skip_in o)) (sym here) (earlier_kept pages pages' slot n (skip_in (page_at pages at)) earlier h.2),
        subst (λ o. IsPageChain pages' slot PAGE n (before_in o)) (sym here) rest.0,
      ),
      ap (λ o. calls_to pages' n (before_in o) ++ calls_of_page o) here ∙ ap (λ es. es ++ calls_of_page (page_at pages at)) rest.1,
    )

-- the list of another slot stays
pub other_list : (slot other : ℕ) (pages pages' : List (Option Page)) (list : PageList) → other ≢ slot → OtherPagesStay slot pages pages' → IsPageList pages other list
    → IsPageList pages' other list × (calls_in pages' list ≡ calls_in pages list)
other_list slot other pages pages' list differ stay h =
    let is : (m x : ℕ) → m < list.pages → IsPageOf pages other m x → page_at pages' x ≡ page_at pages x = λ m x lt k. stay.kept x k.0 k.1 (λ e. differ (sym k.2 ∙ e)) ∙ sym k.1 in
    let kept = chain_kept pages pages' other h.rows list.pages list.last is h.chain in
    let there : (x : ℕ) (p : Page) → page_at pages' x ≡ Some p → p.slot ≡ other → page_at pages x ≡ Some p = λ x p read own. stay.from x p read (λ e. differ (sym own ∙ e)) in (
      record {
        rows = h.rows;
        fits = h.fits;
        chain = kept.0;
        countable = subst (λ es. length es < 2 ^ 64) (sym kept.1) h.countable;
        below = λ x p read own. h.below x p (there x p read own) own;
        numbered = λ x x' p p' read read' own own' same. h.numbered x x' p p' (there x p read own) (there x' p' read' own') own own' same;
      },
      kept.1,
    )

pub full_length : (pages : List (Option Page)) (slot n at : ℕ) → IsPageChain pages slot PAGE n at → length (calls_to pages n at) ≡ n * PAGE
full_length pages slot zero at h = refl
full_length pages slot (suc n) at h =
    let rest = full_length pages slot n (before_in (page_at pages at)) h.3 in
    let here = h.1 in
    let long = length-append (calls_to pages n (before_in (page_at pages at))) (calls_of_page (page_at pages at)) in
    omega arith

pub chain_length : (pages : List (Option Page)) (slot rows n at : ℕ) → IsPageChain pages slot rows (suc n) at → length (calls_to pages (suc n) at) ≡ n * PAGE + rows
chain_length pages slot rows n at h =
    let rest = full_length pages slot n (before_in (page_at pages at)) h.3 in
    let here = h.1 in
    let long = length-append (calls_to pages n (before_in (page_at pages at))) (calls_of_page (page_at pages at)) in
    omega arith

-- the page of a number is at one place
one_place : (pages : List (Option Page)) (slot m n at last : ℕ) → AreNumbered pages slot → IsPageOf pages slot m at → IsPageOf pages slot n last → m ≡ n → at ≡ last
one_place pages slot m n at last alone k h same = alone at last k.0 h.0 k.1 h.1 k.2 h.2 (k.3 ∙ same ∙ sym h.3)

top_page : (pages : List (Option Page)) (slot rows n last m at row : ℕ) → AreNumbered pages slot → IsPageChain pages slot rows (suc n) last → m ≡ n → IsPageOf pages slot m at → row < PAGE
    → slice_get (calls_to pages (suc n) last) (m * PAGE + row) ≡ slice_get (calls_of_page (page_at pages at)) row
top_page pages slot rows n last m at row alone h same k small =
    let place = one_place pages slot m n at last alone k h.0 same in
    let long = full_length pages slot n (before_in (page_at pages last)) h.3 in
    let e : m * PAGE + row ≡ length (calls_to pages n (before_in (page_at pages last))) + row = omega arith in
    ap (slice_get (calls_to pages (suc n) last)) e ∙ get_right (calls_to pages n (before_in (page_at pages last))) (calls_of_page (page_at pages last)) row ∙ ap (λ x. slice_get (calls_of_page (page_at pages x)) row) (sym place)

-- the call at an index of the page of a number
pub at_page : (pages : List (Option Page)) (slot rows n last m at row : ℕ) → AreNumbered pages slot → IsPageChain pages slot rows (suc n) last → m ≤ n → IsPageOf pages slot m at → row < PAGE
    → slice_get (calls_to pages (suc n) last) (m * PAGE + row) ≡ slice_get (calls_of_page (page_at pages at)) row
at_page pages slot rows zero last m at row alone h le k small = top_page pages slot rows zero last m at row alone h (omega arith) k small
at_page pages slot rows (suc n) last m at row alone h le k small = elim (cases_lt m (suc n)) [
  | inl lt ↦
      let long = full_length pages slot (suc n) (before_in (page_at pages last)) h.3 in
      get_left (calls_to pages (suc n) (before_in (page_at pages last))) (calls_of_page (page_at pages last)) (m * PAGE + row) (omega arith)
      ∙ at_page pages slot PAGE n (before_in (page_at pages last)) m at row alone h.3 (omega arith) k small
  | inr past ↦ top_page pages slot rows (suc n) last m at row alone h (omega arith) k small
]

top_chain : (pages : List (Option Page)) (slot rows n last m at : ℕ) → AreNumbered pages slot → IsPageChain pages slot rows (suc n) last → m ≡ n → IsPageOf pages slot m at → (rows' : ℕ) × IsPageChain pages slot rows' (suc m) at
top_chain pages slot rows n last m at alone h same k =
    let place = one_place pages slot m n at last alone k h.0 same in
    (rows, subst (λ x. IsPageChain pages slot rows (suc x) at) (sym same) (subst (λ x. IsPageChain pages slot rows (suc n) x) (sym place) h))

-- the pages up to an earlier one
pub chain_at : (pages : List (Option Page)) (slot rows n last m at : ℕ) → AreNumbered pages slot → IsPageChain pages slot rows (suc n) last → m ≤ n → IsPageOf pages slot m at → (rows' : ℕ) × IsPageChain pages slot rows' (suc m) at
chain_at pages slot rows zero last m at alone h le k = top_chain pages slot rows zero last m at alone h (omega arith) k
chain_at pages slot rows (suc n) last m at alone h le k = elim (cases_lt m (suc n)) [
  | inl lt ↦ chain_at pages slot PAGE n (before_in (page_at pages last)) m at alone h.3 (omega arith) k
  | inr past ↦ top_chain pages slot rows (suc n) last m at alone h (omega arith) k
]

-- ---- the pages before one

pub earlier_last : (pages : List (Option Page)) (slot rows k last : ℕ) → IsPageChain pages slot rows k last → IsEarlier pages slot k last
earlier_last pages slot rows zero last h = inl refl
earlier_last pages slot rows (suc n) last h = inr (n, omega arith, h.0)

-- the page to which another skips is before it
pub skipped : (pages : List (Option Page)) (slot rows n last : ℕ) (page : Page) → IsPageChain pages slot rows (suc n) last → page_at pages last ≡ Some page → 0 < n → (m : ℕ) × (m < n) × IsPageOf pages slot m page.skip
skipped pages slot rows n last page h read some = by (subst (λ o. IsEarlier pages slot n (skip_in o)) read h.2)
  where
    by : IsEarlier pages slot n page.skip → (m : ℕ) × (m < n) × IsPageOf pages slot m page.skip
    by (inl none) = absurd (omega arith)
    by (inr found) = found

pub chain_number : (pages : List (Option Page)) (slot rows n last : ℕ) (page : Page) → IsPageChain pages slot rows (suc n) last → page_at pages last ≡ Some page → page.number ≡ n
chain_number pages slot rows n last page h read = ap (λ (p : Page). p.number) (some_same page h.0.0 (sym read ∙ h.0.1)) ∙ h.0.3

pub page_number : (pages : List (Option Page)) (slot n at : ℕ) (page : Page) → IsPageOf pages slot n at → page_at pages at ≡ Some page → page.number ≡ n
page_number pages slot n at page h read = ap (λ (p : Page). p.number) (some_same page h.0 (sym read ∙ h.1)) ∙ h.3

pub some_pages : (k : ℕ) → 0 < k → (n : ℕ) × (k ≡ suc n)
some_pages zero lt = absurd (omega arith)
some_pages (suc n) lt = (n, refl)

-- a page, the one to which it skips, and the one to which that skips
module _ (pages : List (Option Page)) (slot rows k last : ℕ) (alone : AreNumbered pages slot) (h : IsPageChain pages slot rows k last) (page near : Page) (some : 0 < k)
    (read : page_at pages last ≡ Some page) (more : 0 < page.number) (near_read : page_at pages page.skip ≡ Some near) (more' : 0 < near.number) where
  first_skip : (n : ℕ) → k ≡ suc n → (m : ℕ) × (m < n) × IsPageOf pages slot m page.skip
  first_skip n e =
      let chain = subst (λ x. IsPageChain pages slot rows x last) e h in
      let number = chain_number pages slot rows n last page chain read in
      skipped pages slot rows n last page chain read (omega arith)

  second_skip : (m : ℕ) × (near.number ≡ m) × (f : ℕ) × (f < m) × IsPageOf pages slot f near.skip
  second_skip =
      let n = some_pages k some in
      let m = first_skip n.0 n.1 in
      let less = m.1 in
      let chain = chain_at pages slot rows n.0 last m.0 page.skip alone (subst (λ x. IsPageChain pages slot rows x last) n.1 h) (omega arith) m.2 in
      let number = page_number pages slot m.0 page.skip near m.2 near_read in
      let f = skipped pages slot chain.0 m.0 page.skip near chain.1 near_read (omega arith) in
      (m.0, number, f.0, f.1, f.2)

  pub far_there : IsSome (page_at pages near.skip)
  far_there = page_there pages slot second_skip.2 near.skip second_skip.4

  pub far_below : (far : Page) → page_at pages near.skip ≡ Some far → far.number ≤ near.number
  far_below far far_read =
      let number = page_number pages slot second_skip.2 near.skip far second_skip.4 far_read in
      let near_is = second_skip.1 in
      let less = second_skip.3 in
      omega arith

  pub far_is_earlier : IsEarlier pages slot k near.skip
  far_is_earlier =
      let n = some_pages k some in
      let many = n.1 in
      let m = first_skip n.0 n.1 in
      let less = m.1 in
      let chain = chain_at pages slot rows n.0 last m.0 page.skip alone (subst (λ x. IsPageChain pages slot rows x last) n.1 h) (omega arith) m.2 in
      let number = page_number pages slot m.0 page.skip near m.2 near_read in
      let f = skipped pages slot chain.0 m.0 page.skip near chain.1 near_read (omega arith) in
      let fewer = f.1 in
      inr (f.0, omega arith, f.2)

-- a list of pages is one slot's
pub one_owner : (pages : List (Option Page)) (slot rows slot' rows' k last : ℕ) → IsPageChain pages slot rows k last → IsPageChain pages slot' rows' k last → 0 < k → slot ≡ slot'
one_owner pages slot rows slot' rows' zero last h h' some = absurd (omega arith)
one_owner pages slot rows slot' rows' (suc n) last h h' some = sym h.0.2 ∙ ap (λ (p : Page). p.slot) (some_same h.0.0 h'.0.0 (sym h.0.1 ∙ h'.0.1)) ∙ h'.0.2

-- ---- a page with other calls

module _ (pages pages' : List (Option Page)) (slot n last : ℕ) (calls : List AuditEntry) (is : IsRefilled pages pages' last calls) where
  refilled_own : (rows : ℕ) → IsPageChain pages slot rows (suc n) last → is.page.slot ≡ slot
  refilled_own rows h =
      let same : is.page ≡ h.0.0 = some_same is.page h.0.0 (sym is.was ∙ h.0.1) in
      ap (λ (p : Page). p.slot) same ∙ h.0.2

  refilled_chain : (rows : ℕ) → IsPageChain pages slot rows (suc n) last → IsPageChain pages' slot (length calls) (suc n) last × (calls_to pages' (suc n) last ≡ calls_to pages n (before_in (page_at pages last)) ++ calls)
  refilled_chain rows h =
      let same : is.page ≡ h.0.0 = some_same is.page h.0.0 (sym is.was ∙ h.0.1) in
      let kept : (m x : ℕ) → m < n → IsPageOf pages slot m x → page_at pages' x ≡ page_at pages x =
      λ m x lt k. is.others x (λ e. let one = one_number pages slot m n last (subst (IsPageOf pages slot m) e k) h.0 in absurd (omega arith)) in
      let rest = chain_kept pages pages' slot PAGE n (before_in (page_at pages last)) kept h.3 in
      let before : before_in (page_at pages' last) ≡ before_in (page_at pages last) = ap before_in is.is ∙ is.before ∙ sym (ap before_in is.was) in
      let skip : skip_in (page_at pages' last) ≡ skip_in (page_at pages last) = ap skip_in is.is ∙ is.skip ∙ sym (ap skip_in is.was) in
      let rows_are : calls_of_page (page_at pages' last) ≡ calls = ap calls_of_page is.is ∙ is.calls_are in (
        (
          (is.page', is.is, is.slot ∙ ap (λ (p : Page). p.slot) same ∙ h.0.2, is.number ∙ ap (λ (p : Page). p.number) same ∙ h.0.3),
          ap length rows_are,
          subst (IsEarlier pages' slot n) (sym skip) (earlier_kept pages pages' slot n (skip_in (page_at pages last)) kept h.2),
          subst (IsPageChain pages' slot PAGE n) (sym before) rest.0,
        ),
        (λ i. calls_to pages' n (before i) ++ rows_are i) ∙ ap (λ es. es ++ calls) rest.1,
      )

  -- each page had its slot and number before
  refilled_from : (x : ℕ) (q : Page) → page_at pages' x ≡ Some q → (p : Page) × (page_at pages x ≡ Some p) × (p.slot ≡ q.slot) × (p.number ≡ q.number)
  refilled_from x q read = elim (cases_eq x last) [
    | inl same ↦
        let one : is.page' ≡ q = some_same is.page' q (sym is.is ∙ ap (page_at pages') (sym same) ∙ read) in
        (is.page, ap (page_at pages) same ∙ is.was, sym is.slot ∙ ap (λ (p : Page). p.slot) one, sym is.number ∙ ap (λ (p : Page). p.number) one)
    | inr other ↦ (q, sym (is.others x other) ∙ read, refl, refl)
  ]

  refilled_others : (rows : ℕ) → IsPageChain pages slot rows (suc n) last → OtherPagesStay slot pages pages'
  refilled_others rows h = record {
    kept = λ x q read differ. is.others x (λ e. differ (ap (λ (p : Page). p.slot) (some_same q is.page (sym read ∙ ap (page_at pages) e ∙ is.was)) ∙ refilled_own rows h)) ∙ read;
    from = λ x q read differ. sym (is.others x (λ e. differ (ap (λ (p : Page). p.slot) (some_same q is.page' (sym read ∙ ap (page_at pages') e ∙ is.is)) ∙ is.slot ∙ refilled_own rows h))) ∙ read;
  }

  pub list_refilled : (list list' : PageList) → IsPageList pages slot list → list.pages ≡ suc n → list.last ≡ last → list'.pages ≡ list.pages → list'.last ≡ last → length calls ≤ PAGE
      → length (calls_to pages n (before_in (page_at pages last)) ++ calls) < 2 ^ 64
      → IsListTurn pages pages' slot list' × (calls_in pages' list' ≡ calls_to pages n (before_in (page_at pages last)) ++ calls)
  list_refilled list list' h many at many' at' small count =
      let old : IsPageChain pages slot h.rows (suc n) last = subst (λ k. IsPageChain pages slot h.rows k last) many (subst (IsPageChain pages slot h.rows list.pages) at h.chain) in
      let new = refilled_chain h.rows old in
      let many2 : list'.pages ≡ suc n = many' ∙ many in
      let calls_are : calls_in pages' list' ≡ calls_to pages n (before_in (page_at pages last)) ++ calls = (λ i. calls_to pages' (many2 i) (at' i)) ∙ new.1 in (
        record {
          stays = record {
            rows = length calls;
            fits = small;
            chain = subst (λ k. IsPageChain pages' slot (length calls) k list'.last) (sym many2) (subst (IsPageChain pages' slot (length calls) (suc n)) (sym at') new.0);
            countable = subst (λ es. length es < 2 ^ 64) (sym calls_are) count;
            below = λ x q read own. let p = refilled_from x q read in let lt = h.below x p.0 p.1 (p.2 ∙ own) in let same = p.3 in omega arith;
            numbered = λ x x' q q' read read' own own' same.
                let p = refilled_from x q read in
                let p' = refilled_from x' q' read' in
                h.numbered x x' p.0 p'.0 p.1 p'.1 (p.2 ∙ own) (p'.2 ∙ own') (p.3 ∙ same ∙ sym p'.3);
          };
          others = refilled_others h.rows old;
        },
        calls_are,
      )

-- the last page of a list that has some
pub last_there : (pages : List (Option Page)) (slot : ℕ) (list : PageList) → IsPageList pages slot list → 0 < list.pages → IsSome (page_at pages list.last)
last_there pages slot list h some =
    let n = some_pages list.pages some in
    page_there pages slot n.0 list.last (subst (λ k. IsPageChain pages slot h.rows k list.last) n.1 h.chain).0

-- whether the last page is full, by the numbers of calls and of pages
last_rows : (pages : List (Option Page)) (slot : ℕ) (list : PageList) (n : ℕ) → (h : IsPageList pages slot list) → list.pages ≡ suc n → (length (calls_of_page (page_at pages list.last)) ≡ h.rows) × (length (calls_in pages list) ≡ n * PAGE + h.rows)
last_rows pages slot list n h many =
    let chain = subst (λ k. IsPageChain pages slot h.rows k list.last) many h.chain in
    (chain.1, ap (λ k. length (calls_to pages k list.last)) many ∙ chain_length pages slot h.rows n list.last chain)

pub room_in_last : (pages : List (Option Page)) (slot : ℕ) (list : PageList) → IsPageList pages slot list → has_room_to pages list.pages list.last ≡ true
    → (0 < list.pages) × (length (calls_of_page (page_at pages list.last)) < PAGE)
room_in_last pages slot list h room = by list.pages room
  where
    by : (k : ℕ) → has_room_to pages k list.last ≡ true → (0 < k) × (length (calls_of_page (page_at pages list.last)) < PAGE)
    by zero room = absurd (true≢false (sym room))
    by (suc n) room = (omega arith, grind (arith, nat_tests, room))

pub last_is_full : (pages : List (Option Page)) (slot : ℕ) (list : PageList) → IsPageList pages slot list → has_room_to pages list.pages list.last ≡ false → IsPageChain pages slot PAGE list.pages list.last
last_is_full pages slot list h none = by list.pages refl
  where
    by : (k : ℕ) → list.pages ≡ k → IsPageChain pages slot PAGE list.pages list.last
    by zero many = subst (λ k. IsPageChain pages slot PAGE k list.last) (sym many) tt
    by (suc n) many =
        let last = last_rows pages slot list n h many in
        let long = last.0 in
        let fits = h.fits in
        let test : nat_lt (length (calls_of_page (page_at pages list.last))) PAGE ≡ false = sym (ap (λ k. has_room_to pages k list.last) many) ∙ none in
        let least : PAGE ≤ length (calls_of_page (page_at pages list.last)) = grind (arith, nat_tests, test) in
        let full : h.rows ≡ PAGE = omega (arith, long, fits, least) in
        subst (λ r. IsPageChain pages slot r list.pages list.last) full h.chain

-- the number of calls, by the pages and the calls of the last
pub calls_counted : (pages : List (Option Page)) (slot : ℕ) (list : PageList) (page : Page) → IsPageList pages slot list → 0 < list.pages → page_at pages list.last ≡ Some page
    → length (calls_in pages list) ≡ (list.pages - 1) * PAGE + length page.rows.items
calls_counted pages slot list page h some is =
    let n = some_pages list.pages some in
    let many = n.1 in
    let last = last_rows pages slot list n.0 h n.1 in
    let long : length page.rows.items ≡ h.rows = ap (λ o. length (calls_of_page o)) (sym is) ∙ last.0 in
    let before : list.pages - 1 ≡ n.0 = omega (arith, many) in
    last.1 ∙ (λ i. sym before i * PAGE + sym long i)

-- room was made in the last page
pub list_widened : (pages pages' : List (Option Page)) (slot : ℕ) (list : PageList) → IsPageList pages slot list → 0 < list.pages → IsRefilled pages pages' list.last (calls_of_page (page_at pages list.last))
    → IsListTurn pages pages' slot list × (calls_in pages' list ≡ calls_in pages list)
list_widened pages pages' slot list h some is =
    let n = some_pages list.pages some in
    let last = last_rows pages slot list n.0 h n.1 in
    let long = last.0 in
    let fits = h.fits in
    let whole : calls_in pages list ≡ calls_to pages (suc n.0) list.last = ap (λ k. calls_to pages k list.last) n.1 in
    let turn = list_refilled pages pages' slot n.0 list.last (calls_of_page (page_at pages list.last)) is list list h n.1 refl refl refl (omega arith) (subst (λ es. length es < 2 ^ 64) whole h.countable) in
    (turn.0, turn.1 ∙ sym whole)

-- a call joined the last page
pub list_noted : (pages pages' : List (Option Page)) (slot : ℕ) (list : PageList) (row : AuditEntry) → IsPageList pages slot list → 0 < list.pages → length (calls_of_page (page_at pages list.last)) < PAGE
    → IsRefilled pages pages' list.last (calls_of_page (page_at pages list.last) ++ row ∷ []) → length (calls_in pages list) + 1 < 2 ^ 64
    → IsListTurn pages pages' slot list × (calls_in pages' list ≡ calls_in pages list ++ row ∷ [])
list_noted pages pages' slot list row h some small is countable =
    let n = some_pages list.pages some in
    let rows : List AuditEntry = calls_of_page (page_at pages list.last) in
    let front : List AuditEntry = calls_to pages n.0 (before_in (page_at pages list.last)) in
    let whole : calls_in pages list ≡ calls_to pages (suc n.0) list.last = ap (λ k. calls_to pages k list.last) n.1 in
    let more : front ++ (rows ++ row ∷ []) ≡ calls_in pages list ++ row ∷ [] = sym (append_assoc front rows (row ∷ [])) ∙ ap (λ es. es ++ row ∷ []) (sym whole) in
    let one : length (rows ++ row ∷ []) ≡ length rows + 1 = length-append rows (row ∷ []) in
    let all : length (calls_in pages list ++ row ∷ []) ≡ length (calls_in pages list) + 1 = length-append (calls_in pages list) (row ∷ []) in
    let turn = list_refilled pages pages' slot n.0 list.last (rows ++ row ∷ []) is list list h n.1 refl refl refl (omega arith) (subst (λ es. length es < 2 ^ 64) (sym more) (omega (arith, all, countable))) in
    (turn.0, turn.1 ∙ more)

-- room for a call is only in a page
pub spare_small : (page : Option Page) → 0 < spare_in page → length (calls_of_page page) < PAGE
spare_small None lt = absurd (omega arith)
spare_small (Some page) lt = let long = page.rows.ok.0 in omega arith

pub spare_some : (pages : List (Option Page)) (n last : ℕ) → 0 < spare_to pages n last → (0 < n) × (0 < spare_in (page_at pages last))
spare_some pages zero last lt = absurd (omega arith)
spare_some pages (suc n) last lt = (omega arith, lt)

-- ---- one more page

module _ (pages pages' : List (Option Page)) (slot : ℕ) (list list' : PageList) (h : IsPageList pages slot list) (full : IsPageChain pages slot PAGE list.pages list.last) (is : IsPageAdded pages pages' slot list list') where
  added_kept : (x : ℕ) (q : Page) → page_at pages x ≡ Some q → page_at pages' x ≡ page_at pages x
  added_kept x q read = is.others x (λ e. some_none q (sym read ∙ ap (page_at pages) e ∙ is.vacant))

  more_pages : list'.pages ≡ suc list.pages
  more_pages = is.pages_are ∙ (let e : list.pages + 1 ≡ suc list.pages = omega arith in e)

  kept_to : (m x : ℕ) → m < list.pages → IsPageOf pages slot m x → page_at pages' x ≡ page_at pages x
  kept_to m x lt k = added_kept x k.0 k.1

  before_is : before_in (page_at pages' list'.last) ≡ list.last
  before_is = ap before_in is.is ∙ is.before

  skip_is : skip_in (page_at pages' list'.last) ≡ is.page.skip
  skip_is = ap skip_in is.is

  rows_are : calls_of_page (page_at pages' list'.last) ≡ []
  rows_are = ap calls_of_page is.is ∙ is.empty

  old_pages : IsPageChain pages' slot PAGE list.pages list.last × (calls_to pages' list.pages list.last ≡ calls_to pages list.pages list.last)
  old_pages = chain_kept pages pages' slot PAGE list.pages list.last kept_to full

  chain_added : IsPageChain pages' slot 0 (suc list.pages) list'.last
  chain_added = (
    (is.page, is.is, is.slot_is, is.number),
    ap length rows_are,
    subst (IsEarlier pages' slot list.pages) (sym skip_is) (earlier_kept pages pages' slot list.pages is.page.skip kept_to is.skip),
    subst (IsPageChain pages' slot PAGE list.pages) (sym before_is) old_pages.0,
  )

  calls_added : calls_in pages' list' ≡ calls_in pages list
  calls_added = ap (λ k. calls_to pages' k list'.last) more_pages ∙ (λ i. calls_to pages' list.pages (before_is i) ++ rows_are i) ∙ append-nil (calls_to pages' list.pages list.last) ∙ old_pages.1

  is_new : (x : ℕ) (q : Page) → page_at pages' x ≡ Some q → (x ≡ list'.last) → q ≡ is.page
  is_new x q read same = some_same q is.page (sym read ∙ ap (page_at pages') same ∙ is.is)

  was_there : (x : ℕ) (q : Page) → page_at pages' x ≡ Some q → x ≢ list'.last → page_at pages x ≡ Some q
  was_there x q read other = sym (is.others x other) ∙ read

  not_new : (x x' : ℕ) (q q' : Page) → page_at pages' x ≡ Some q → page_at pages' x' ≡ Some q' → q'.slot ≡ slot → q.number ≡ q'.number → x ≡ list'.last → x' ≢ list'.last → ⊥
  not_new x x' q q' read read' own same new other =
      let lt = h.below x' q' (was_there x' q' read' other) own in
      let number : q.number ≡ list.pages = ap (λ (p : Page). p.number) (is_new x q read new) ∙ is.number in
      absurd (omega arith)

  numbered_added : AreNumbered pages' slot
  numbered_added x x' q q' read read' own own' same = elim (cases_eq x list'.last) [
    | inl new ↦ elim (cases_eq x' list'.last) [
      | inl new' ↦ new ∙ sym new'
      | inr other' ↦ absurd (not_new x x' q q' read read' own' same new other')
    ]
    | inr other ↦ elim (cases_eq x' list'.last) [
      | inl new' ↦ absurd (not_new x' x q' q read' read own (sym same) new' other)
      | inr other' ↦ h.numbered x x' q q' (was_there x q read other) (was_there x' q' read' other') own own' same
    ]
  ]

  below_added : AreBelow pages' slot list'.pages
  below_added x q read own = elim (cases_eq x list'.last) [
    | inl new ↦ let number : q.number ≡ list.pages = ap (λ (p : Page). p.number) (is_new x q read new) ∙ is.number in let more = is.pages_are in omega arith
    | inr other ↦ let lt = h.below x q (was_there x q read other) own in let more = is.pages_are in omega arith
  ]

  pub list_added : IsListTurn pages pages' slot list' × (calls_in pages' list' ≡ calls_in pages list)
  list_added = (
    record {
      stays = record {
        rows = 0;
        fits = omega arith;
        chain = subst (λ k. IsPageChain pages' slot 0 k list'.last) (sym more_pages) chain_added;
        countable = subst (λ es. length es < 2 ^ 64) (sym calls_added) h.countable;
        below = below_added;
        numbered = numbered_added;
      };
      others = record {
        kept = λ x q read differ. added_kept x q read ∙ read;
        from = λ x q read differ. was_there x q read (λ new. differ (ap (λ (p : Page). p.slot) (is_new x q read new) ∙ is.slot_is));
      };
    },
    calls_added,
  )

-- ---- one page less

-- the first pages of the slot are left, up to this place
pub record HasPages (pages : List (Option Page)) (slot n last : ℕ) : Type 0 where
  pub rows : ℕ
  pub chain : IsPageChain pages slot rows n last
  pub below : AreBelow pages slot n
  pub numbered : AreNumbered pages slot

pub all_pages : (pages : List (Option Page)) (slot : ℕ) (list : PageList) → IsPageList pages slot list → HasPages pages slot list.pages list.last
all_pages pages slot list h = record {
  rows = h.rows;
  chain = h.chain;
  below = h.below;
  numbered = h.numbered;
}

pub pages_stay : (slot : ℕ) (pages : List (Option Page)) → OtherPagesStay slot pages pages
pages_stay slot pages = record { kept = λ x q read differ. read; from = λ x q read differ. read }

module _ (first pages pages' : List (Option Page)) (slot n last : ℕ) (h : HasPages pages slot (suc n) last) (others : (x : ℕ) → x ≢ last → page_at pages' x ≡ page_at pages x) (gone : page_at pages' last ≡ None) where
  left_there : (x : ℕ) (q : Page) → page_at pages' x ≡ Some q → (x ≢ last) × (page_at pages x ≡ Some q)
  left_there x q read =
      let differ : x ≢ last = λ e. some_none q (sym read ∙ ap (page_at pages') e ∙ gone) in
      (differ, sym (others x differ) ∙ read)

  pub pages_left : (before : ℕ) → before ≡ before_in (page_at pages last) → HasPages pages' slot n before
  pages_left before is = record {
    rows = PAGE;
    chain = subst (IsPageChain pages' slot PAGE n) (sym is) (chain_kept pages pages' slot PAGE n (before_in (page_at pages last))
        (λ m x lt k. others x (λ e. let one = one_number pages slot m n last (subst (IsPageOf pages slot m) e k) h.chain.0 in absurd (omega arith))) h.chain.3).0;
    below = λ x q read own.
        let there = left_there x q read in
        let lt = h.below x q there.1 own in
        let other : q.number ≢ n = λ same. there.0 (h.numbered x last q h.chain.0.0 there.1 h.chain.0.1 own h.chain.0.2 (same ∙ sym h.chain.0.3)) in
        omega arith;
    numbered = λ x x' q q' read read' own own' same. h.numbered x x' q q' (left_there x q read).1 (left_there x' q' read').1 own own' same;
  }

  pub others_left : OtherPagesStay slot first pages → OtherPagesStay slot first pages'
  others_left stay = record {
    kept = λ x q read differ.
        let there = stay.kept x q read differ in
        others x (λ e. differ (ap (λ (p : Page). p.slot) (some_same q h.chain.0.0 (sym there ∙ ap (page_at pages) e ∙ h.chain.0.1)) ∙ h.chain.0.2)) ∙ there;
    from = λ x q read differ. stay.from x q (left_there x q read).1 differ;
  }

pub none_left : (first pages : List (Option Page)) (slot last : ℕ) (list : PageList) → HasPages pages slot 0 last → OtherPagesStay slot first pages → list.pages ≡ 0 → IsListTurn first pages slot list
none_left first pages slot last list h stay many = record {
  stays = record {
    rows = 0;
    fits = omega arith;
    chain = subst (λ k. IsPageChain pages slot 0 k list.last) (sym many) tt;
    countable = subst (λ k. length (calls_to pages k list.last) < 2 ^ 64) (sym many) (omega arith);
    below = subst (AreBelow pages slot) (sym many) h.below;
    numbered = h.numbered;
  };
  others = stay;
}

-- ---- all slots

map_same : {A B : Type 0} (f g : A → B) (xs : List A) (d : A) → ((j : ℕ) → j < length xs → g (get_or xs j d) ≡ f (get_or xs j d)) → map g xs ≡ map f xs
map_same f g [] d same = refl
map_same f g (x ∷ xs) d same = let here = same 0 (omega arith) in let rest = map_same f g xs d (λ j lt. same (suc j) (omega arith)) in (λ i. here i ∷ rest i)

map_turned : {A B : Type 0} (f g : A → B) (xs : List A) (i : ℕ) (y d : A) → ((j : ℕ) → j ≢ i → j < length xs → g (get_or xs j d) ≡ f (get_or xs j d)) → map g (set xs i y) ≡ set (map f xs) i (g y)
map_turned f g [] i y d same = refl
map_turned f g (x ∷ xs) zero y d same = ap (λ zs. g y ∷ zs) (map_same f g xs d (λ j lt. same (suc j) (λ e. absurd (omega arith)) (omega arith)))
map_turned f g (x ∷ xs) (suc i) y d same =
    let here = same 0 (λ e. absurd (omega arith)) (omega arith) in
    let rest = map_turned f g xs i y d (λ j differ lt. same (suc j) (λ e. differ (omega arith)) (omega arith)) in
    (λ k. here k ∷ rest k)

pub trail_shown : (pages : List (Option Page)) (lists : List PageList) (slot : ℕ) → get_or (map (calls_in pages) lists) slot [] ≡ calls_in pages (list_at slot lists)
trail_shown pages lists slot = map_read (calls_in pages) lists slot no_pages

module _ (pages pages' : List (Option Page)) (lists : List PageList) (slot : ℕ) (list' : PageList) (h : ArePages pages lists) (within : slot < length lists) (turn : IsListTurn pages pages' slot list') where
  pub lists_turned : ArePages pages' (set lists slot list')
  lists_turned s = elim (cases_eq s slot) [
    | inl same ↦ subst (λ k. IsPageList pages' k (list_at k (set lists slot list'))) (sym same) (subst (IsPageList pages' slot) (sym (get_or-set_same lists slot list' no_pages within)) turn.stays)
    | inr other ↦ subst (IsPageList pages' s) (sym (get_or-set_other lists slot s list' no_pages other)) (other_list slot s pages pages' (list_at s lists) other turn.others (h s)).0
  ]

  pub trails_turned : map (calls_in pages') (set lists slot list') ≡ set (map (calls_in pages) lists) slot (calls_in pages' list')
  trails_turned = map_turned (calls_in pages) (calls_in pages') lists slot list' no_pages (λ s other lt. (other_list slot s pages pages' (list_at s lists) other turn.others (h s)).1)

set_again : {A : Type 0} (xs : List A) (i : ℕ) (y d : A) → y ≡ get_or xs i d → set xs i y ≡ xs
set_again [] i y d is = refl
set_again (x ∷ xs) zero y d is = ap (λ z. z ∷ xs) is
set_again (x ∷ xs) (suc i) y d is = ap (λ zs. x ∷ zs) (set_again xs i y d is)

-- the slot's calls stay, and so do all
pub trails_same : (pages pages' : List (Option Page)) (lists : List PageList) (slot : ℕ) (list list' : PageList) → ArePages pages lists → slot < length lists → IsListTurn pages pages' slot list' → list_at slot lists ≡ list → calls_in pages' list' ≡ calls_in pages list
    → map (calls_in pages') (set lists slot list') ≡ map (calls_in pages) lists
trails_same pages pages' lists slot list list' h within turn read same =
    trails_turned pages pages' lists slot list' h within turn
    ∙ set_again (map (calls_in pages) lists) slot (calls_in pages' list') [] (same ∙ ap (calls_in pages) (sym read) ∙ sym (trail_shown pages lists slot))

-- what a write through a page does to the table
pub refilled_by : (pages : List (Option Page)) (at : ℕ) (page : Page) (rows : Vec AuditEntry Global) (calls : List AuditEntry) → page_at pages at ≡ Some page → rows.items ≡ calls → IsRefilled pages (set pages at (Some (record page { rows = rows }))) at calls
refilled_by pages at page rows calls read is = record {
  page = page;
  page' = record page { rows = rows };
  was = read;
  is = get_or-set_same pages at (Some (record page { rows = rows })) None (some_there pages at page read);
  others = λ x differ. get_or-set_other pages at x (Some (record page { rows = rows })) None differ;
  slot = refl;
  number = refl;
  before = refl;
  skip = refl;
  calls_are = is;
}

-- full pages can be counted, and one more
pub pages_small : (pages : List (Option Page)) (slot : ℕ) (list : PageList) → IsPageList pages slot list → IsPageChain pages slot PAGE list.pages list.last → list.pages + 1 < 2 ^ 64
pages_small pages slot list h full =
    let long = full_length pages slot list.pages list.last full in
    let small = h.countable in
    omega (arith, long, small)

pub OnOk-map : {A E : Type 0} (r : Result A E) (P Q : Type 0) → (P → Q) → OnOk r P → OnOk r Q
OnOk-map (Ok x) P Q f h = f h
OnOk-map (Err e) P Q f h = tt

pub no_pages_shown : (pages : List (Option Page)) (n : ℕ) → map (calls_in pages) (replicate n no_pages) ≡ replicate n []
no_pages_shown pages zero = refl
no_pages_shown pages (suc n) = ap (λ ts. [] ∷ ts) (no_pages_shown pages n)

pub lists_padded : (pages : List (Option Page)) (lists : List PageList) (more : ℕ) → ArePages pages lists → ArePages pages (lists ++ replicate more no_pages)
lists_padded pages lists more h slot = subst (IsPageList pages slot) (sym (padded_read lists more slot no_pages)) (h slot)

-- the list of a slot, and what contracts see of it
module _ (pages : List (Option Page)) (lists : List PageList) (v : AuditLists) (h : ArePages pages lists) (view : record { trails = map (calls_in pages) lists; spare = map (spare_for pages) lists } ≡ v)
    (slot : ℕ) (lt : slot < length v.trails) (list : PageList) (read : list ≡ get_or lists slot list) where
  within : slot < length lists
  within =
      let long : length v.trails ≡ length lists = ap (λ (a : AuditLists). length a.trails) (sym view) ∙ length-map lists (calls_in pages) in
      omega arith

  listed : list_at slot lists ≡ list
  listed = get_or_default lists slot no_pages list within ∙ sym read

  pub own_list : IsPageList pages slot list
  own_list = subst (IsPageList pages slot) listed (h slot)

  pub own_calls : trail_of slot v.trails ≡ calls_in pages list
  own_calls = ap (λ (a : AuditLists). trail_of slot a.trails) (sym view) ∙ trail_shown pages lists slot ∙ ap (calls_in pages) listed

  pub own_spare : spare_of slot v ≡ spare_for pages list
  own_spare = ap (spare_of slot) (sym view) ∙ map_read (spare_for pages) lists slot no_pages ∙ ap (spare_for pages) listed

  pub spare_shown : (pages' : List (Option Page)) (list' : PageList) → get_or (map (spare_for pages') (set lists slot list')) slot 0 ≡ spare_for pages' list'
  spare_shown pages' list' = map_read (spare_for pages') (set lists slot list') slot no_pages ∙ ap (spare_for pages') (get_or-set_same lists slot list' no_pages within)

  pub turned_lists : (pages' : List (Option Page)) (list' : PageList) → IsListTurn pages pages' slot list' → ArePages pages' (set lists slot list')
  turned_lists pages' list' turn = lists_turned pages pages' lists slot list' h within turn

  pub turned_trails : (pages' : List (Option Page)) (list' : PageList) → IsListTurn pages pages' slot list' → map (calls_in pages') (set lists slot list') ≡ set v.trails slot (calls_in pages' list')
  turned_trails pages' list' turn = trails_turned pages pages' lists slot list' h within turn ∙ ap (λ (a : AuditLists). set a.trails slot (calls_in pages' list')) view

  pub kept_trails : (pages' : List (Option Page)) (list' : PageList) → IsListTurn pages pages' slot list' → calls_in pages' list' ≡ calls_in pages list → map (calls_in pages') (set lists slot list') ≡ v.trails
  kept_trails pages' list' turn same = trails_same pages pages' lists slot list list' h within turn listed same ∙ ap (λ (a : AuditLists). a.trails) view

  pub list_stays : (pages' : List (Option Page)) (list' : PageList) → pages' ≡ pages → list' ≡ list → IsListTurn pages pages' slot list' × (calls_in pages' list' ≡ calls_in pages list)
  list_stays pages' list' same same' = (
    subst (λ ps. IsListTurn pages ps slot list') (sym same) (subst (IsListTurn pages pages slot) (sym same') (record { stays = own_list; others = pages_stay slot pages })),
    (λ i. calls_in (same i) (same' i)),
  )

pub spare_found : (pages : List (Option Page)) (list : PageList) → 0 < list.pages → 0 < spare_in (page_at pages list.last) → 0 < spare_for pages list
spare_found pages list some found =
    let n = some_pages list.pages some in
    subst (λ k. 0 < spare_to pages k list.last) (sym n.1) found

pub number_shown : (pages : List (Option Page)) (slot n at : ℕ) → IsPageOf pages slot n at → number_of_page (page_at pages at) ≡ n
number_shown pages slot n at h = ap number_of_page h.1 ∙ h.3

pub pages_there : (pages : List (Option Page)) (slot n last : ℕ) → HasPages pages slot n last → 0 < n → IsSome (page_at pages last)
pages_there pages slot n last h some =
    let m = some_pages n some in
    page_there pages slot m.0 last (subst (λ k. IsPageChain pages slot h.rows k last) m.1 h.chain).0

-- ---- one call

-- the list that a look-up found
found_listed : (lists lent : List PageList) (slot : ℕ) (list : PageList) → lent ≡ lists → list ≡ get_or lent slot list → slot < length lent → list_at slot lists ≡ list
found_listed lists lent slot list same read lt =
    subst (λ (ls : List PageList). list_at slot ls ≡ list) same (get_or_default lent slot no_pages list lt ∙ sym read)

pub found_list : (pages : List (Option Page)) (lists lent : List PageList) → ArePages pages lists → lent ≡ lists → (slot : ℕ) (list : PageList) → list ≡ get_or lent slot list → slot < length lent → IsPageList pages slot list
found_list pages lists lent h same slot list read lt = subst (IsPageList pages slot) (found_listed lists lent slot list same read lt) (h slot)

pub found_calls : (pages : List (Option Page)) (lists : List PageList) (v : AuditLists) (lent : List PageList) → record { trails = map (calls_in pages) lists; spare = map (spare_for pages) lists } ≡ v → lent ≡ lists
    → (slot : ℕ) (list : PageList) → list ≡ get_or lent slot list → slot < length lent → trail_of slot v.trails ≡ calls_in pages list
found_calls pages lists v lent view same slot list read lt =
    ap (λ (a : AuditLists). trail_of slot a.trails) (sym view) ∙ trail_shown pages lists slot ∙ ap (calls_in pages) (found_listed lists lent slot list same read lt)

-- the number of the page of a call
pub page_of_call : (pages : List (Option Page)) (slot : ℕ) (list : PageList) (place : ℕ) → IsPageList pages slot list → place < length (calls_in pages list) → (n : ℕ) × (list.pages ≡ suc n) × (place / PAGE ≤ n)
page_of_call pages slot list place h lt = by list.pages refl
  where
    by : (k : ℕ) → list.pages ≡ k → (n : ℕ) × (list.pages ≡ suc n) × (place / PAGE ≤ n)
    by zero many = let none : length (calls_in pages list) ≡ 0 = ap (λ k. length (calls_to pages k list.last)) many in absurd (omega (arith, lt, none))
    by (suc n) many =
        let last = last_rows pages slot list n h many in
        let count = last.1 in
        let fits = h.fits in
        let parts = div-add-mod' place PAGE in
        (n, many, omega arith)

pub call_shown : (pages : List (Option Page)) (slot : ℕ) (list : PageList) (n place at : ℕ) → IsPageList pages slot list → list.pages ≡ suc n → place / PAGE ≤ n → IsPageOf pages slot (place / PAGE) at
    → slice_get (calls_of_page (page_at pages at)) (place % PAGE) ≡ slice_get (calls_in pages list) place
call_shown pages slot list n place at h many le page =
    sym (at_page pages slot h.rows n list.last (place / PAGE) at (place % PAGE) h.numbered (subst (λ k. IsPageChain pages slot h.rows k list.last) many h.chain) le page (mod-lt place (omega arith)))
    ∙ ap (slice_get (calls_to pages (suc n) list.last)) (div-add-mod' place PAGE)
    ∙ ap (λ k. slice_get (calls_to pages k list.last) place) (sym many)
