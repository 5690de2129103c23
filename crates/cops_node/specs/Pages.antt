-- The pages of an audit: one table for all slots. Each page of a slot is linked to the one before it.
use Rattle.std.specs.Prelude.{◌≡◌, ◌≢◌, ◌⊎◌, ℕ, zero, suc, ◌+◌, ◌-◌, ◌^◌, ◌<◌, ◌≤◌, nat_lt, Bool, false, List, [], ◌++◌, length, min, slice_index_or, Option, Some, None, vec_len, vec_capacity}
use Rattle.cops_model.specs.declared.calls.AuditEntry.{AuditEntry}
use Rattle.cops_node.specs.declared.pages.Page.{Page}
use Rattle.cops_node.specs.declared.pages.PageList.{PageList}

-- the calls of each slot in order, and how many more of each can be appended without allocation
pub record AuditLists : Type 0 where
  pub trails : List (List AuditEntry)
  pub spare : List ℕ

-- the number of calls in a full page
abbrev pub PAGE : ℕ
PAGE = 128

-- the page at a place of the table
abbrev pub page_at : List (Option Page) → ℕ → Option Page
page_at pages at = slice_index_or pages at None

abbrev pub calls_of_page : Option Page → List AuditEntry
calls_of_page None = []
calls_of_page (Some page) = page.rows.items

abbrev pub before_in : Option Page → ℕ
before_in None = 0
before_in (Some page) = page.before

abbrev pub skip_in : Option Page → ℕ
skip_in None = 0
skip_in (Some page) = page.skip

abbrev pub number_of_page : Option Page → ℕ
number_of_page None = 0
number_of_page (Some page) = page.number

-- how many more calls a page takes without allocation
abbrev pub spare_in : Option Page → ℕ
spare_in None = 0
spare_in (Some page) = min (vec_capacity page.rows) PAGE - vec_len page.rows

-- the calls in this many pages, of which the last is at this place
abbrev pub calls_to : List (Option Page) → ℕ → ℕ → List AuditEntry
calls_to pages zero at = []
calls_to pages (suc n) at = calls_to pages n (before_in (page_at pages at)) ++ calls_of_page (page_at pages at)

abbrev pub spare_to : List (Option Page) → ℕ → ℕ → ℕ
spare_to pages zero at = 0
spare_to pages (suc n) at = spare_in (page_at pages at)

-- the last of this many pages is there, and isn't full
abbrev pub has_room_to : List (Option Page) → ℕ → ℕ → Bool
has_room_to pages zero at = false
has_room_to pages (suc n) at = nat_lt (length (calls_of_page (page_at pages at))) PAGE

-- the slot's page of this number is at the place
abbrev pub IsPageOf : List (Option Page) → ℕ → ℕ → ℕ → Type 0
IsPageOf pages slot number at = (page : Page) × (page_at pages at ≡ Some page) × (page.slot ≡ slot) × (page.number ≡ number)

-- a page of the slot before the one of this number, unless that is the first
abbrev pub IsEarlier : List (Option Page) → ℕ → ℕ → ℕ → Type 0
IsEarlier pages slot number at = (number ≡ 0) ⊎ ((earlier : ℕ) × (earlier < number) × IsPageOf pages slot earlier at)

-- the slot's first pages, up to the one at this place: it has this many calls, and those before it are full
abbrev pub IsPageChain : List (Option Page) → ℕ → ℕ → ℕ → ℕ → Type 0
IsPageChain pages slot rows zero at = Unit {0}
IsPageChain pages slot rows (suc n) at =
    IsPageOf pages slot n at × (length (calls_of_page (page_at pages at)) ≡ rows) × IsEarlier pages slot n (skip_in (page_at pages at))
    × IsPageChain pages slot PAGE n (before_in (page_at pages at))

-- no two pages of the slot have one number
abbrev pub AreNumbered : List (Option Page) → ℕ → Type 0
AreNumbered pages slot =
    (at at' : ℕ) (page page' : Page) → page_at pages at ≡ Some page → page_at pages at' ≡ Some page' → page.slot ≡ slot → page'.slot ≡ slot
    → page.number ≡ page'.number → at ≡ at'

-- the slot has no page from this number on
abbrev pub AreBelow : List (Option Page) → ℕ → ℕ → Type 0
AreBelow pages slot count = (at : ℕ) (page : Page) → page_at pages at ≡ Some page → page.slot ≡ slot → page.number < count

abbrev pub no_pages : PageList
no_pages = record { last = 0; pages = 0 }

abbrev pub list_at : ℕ → List PageList → PageList
list_at slot lists = slice_index_or lists slot no_pages

-- the calls of a slot, and how many more fit
abbrev pub calls_in : List (Option Page) → PageList → List AuditEntry
calls_in pages list = calls_to pages list.pages list.last

abbrev pub spare_for : List (Option Page) → PageList → ℕ
spare_for pages list = spare_to pages list.pages list.last

-- how many more calls of a slot can be appended
abbrev pub spare_of : ℕ → AuditLists → ℕ
spare_of slot audit = slice_index_or audit.spare slot 0

-- the list has all pages of the slot, and no other's
pub record IsPageList (pages : List (Option Page)) (slot : ℕ) (list : PageList) : Type 0 where
  pub rows : ℕ
  pub fits : rows ≤ PAGE
  pub chain : IsPageChain pages slot rows list.pages list.last
  pub countable : length (calls_in pages list) < 2 ^ 64
  pub below : AreBelow pages slot list.pages
  pub numbered : AreNumbered pages slot

-- each page is in the list of its slot
abbrev pub ArePages : List (Option Page) → List PageList → Type 0
ArePages pages lists = (slot : ℕ) → IsPageList pages slot (list_at slot lists)

-- ---- changes of the table

-- no other slot's page changes, comes or goes
pub record OtherPagesStay (slot : ℕ) (pages pages' : List (Option Page)) : Type 0 where
  pub kept : (at : ℕ) (page : Page) → page_at pages at ≡ Some page → page.slot ≢ slot → page_at pages' at ≡ Some page
  pub from : (at : ℕ) (page : Page) → page_at pages' at ≡ Some page → page.slot ≢ slot → page_at pages at ≡ Some page

-- one call's change: the slot has this list, and other slots' pages stay
pub record IsListTurn (pages pages' : List (Option Page)) (slot : ℕ) (list : PageList) : Type 0 where
  pub stays : IsPageList pages' slot list
  pub others : OtherPagesStay slot pages pages'

-- the page at a place has these calls, and else nothing changed
pub record IsRefilled (pages pages' : List (Option Page)) (at : ℕ) (calls : List AuditEntry) : Type 0 where
  pub page : Page
  pub page' : Page
  pub was : page_at pages at ≡ Some page
  pub is : page_at pages' at ≡ Some page'
  pub others : (other : ℕ) → other ≢ at → page_at pages' other ≡ page_at pages other
  pub slot : page'.slot ≡ page.slot
  pub number : page'.number ≡ page.number
  pub before : page'.before ≡ page.before
  pub skip : page'.skip ≡ page.skip
  pub calls_are : page'.rows.items ≡ calls

-- the slot has one more page, without calls
pub record IsPageAdded (pages pages' : List (Option Page)) (slot : ℕ) (list list' : PageList) : Type 0 where
  pub page : Page
  pub vacant : page_at pages list'.last ≡ None
  pub is : page_at pages' list'.last ≡ Some page
  pub others : (other : ℕ) → other ≢ list'.last → page_at pages' other ≡ page_at pages other
  pub slot_is : page.slot ≡ slot
  pub number : page.number ≡ list.pages
  pub before : page.before ≡ list.last
  pub skip : IsEarlier pages slot list.pages page.skip
  pub empty : page.rows.items ≡ []
  pub pages_are : list'.pages ≡ list.pages + 1
