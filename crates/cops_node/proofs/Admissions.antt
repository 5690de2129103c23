-- The state of all slots when a tenant comes or goes.
use Rattle.std.proofs.Common.{◌≡◌, ◌≢◌, ℕ, zero, suc, ◌+◌, ◌-◌, ◌<◌, ◌≤◌, max, Bor, Bool, true, false, ◌||◌, List, [], ◌∷◌, ◌++◌, length, refl, sym, ap, ◌∙◌, subst, arith, true≢false, get_or, set}
use Rattle.std.specs.Prelude.{Option, None, Some, is_some, replicate}
use Rattle.std.specs.List.{AllByRecursion}
use Rattle.std.specs.Option.{option_copied, option_map}
use Rattle.std.proofs.lemmas.List.{get_or-set_other, get_or-set_same}
use Rattle.std.proofs.Math.ListN.{length-set}
use Rattle.std.proofs.lemmas.List.Sorted.{IsPermutation-refl}
use Rattle.cops_types.specs.declared.quotas.Quota.{Quota}
use Rattle.cops_types.specs.Records.{StandsFor}
use Rattle.cops_types.specs.Version.{last_clock}
use Rattle.cops_store.specs.Contents.{Contents, rows_of}
use Rattle.cops_outbox.specs.Queues.{Queues, queue_of}
use Rattle.cops_node.specs.declared.Terms.{Terms}
use Rattle.cops_node.specs.declared.parts.Part.{Part}
use Rattle.cops_node.specs.declared.Home.{Home}
use Rattle.cops_node.specs.Parts.{AllFit, IsFresh, IsNode, IsSlotKept, IsUnused, OthersStay, StandsForTrail, no_calls, place_at, place_for, place_under, solo_in, trail_of}
use Rattle.cops_model.specs.declared.calls.AuditEntry.{AuditEntry}
use Rattle.cops_node.proofs.Fresh.{fresh_part}
use Rattle.cops_node.proofs.Slots.{IsNode-set, PlaceIn, map_read, place_elsewhere, place_shown, terms_in_part, view_of}

pub none_from : {A : Type 0} (o : Option A) → is_some o ≡ false → o ≡ None
none_from None h = refl
none_from (Some x) h = absurd (true≢false h)

pub or_left : (a b : Bool) → (a || b) ≡ false → a ≡ false
or_left false b h = refl
or_left true b h = absurd (true≢false h)

pub or_right : (a b : Bool) → (a || b) ≡ false → b ≡ false
or_right false b h = h
or_right true b h = absurd (true≢false h)

-- ---- what a slot shows is what its part shows

pub same_place_shown : (home : Home) (parts next : List (Option Part)) (audit audit' : List (List AuditEntry)) (slot : ℕ) → get_or next slot None ≡ get_or parts slot None
    → place_at slot (view_of home next audit') ≡ place_at slot (view_of home parts audit)
same_place_shown home parts next audit audit' slot same =
    ap (option_map (place_under home)) (map_read (option_map terms_in_part) next slot None ∙ ap (option_map terms_in_part) same ∙ sym (map_read (option_map terms_in_part) parts slot None))

-- ---- more slots

pub record HasMoreRoom (store store' : Contents) (outbox outbox' : Queues) : Type 0 where
  pub rows : store'.rows ≡ store.rows
  pub stored : store.tenants ≤ store'.tenants
  pub queues : (at dc : ℕ) → queue_of at dc outbox' ≡ queue_of at dc outbox
  pub queued : outbox.tenants ≤ outbox'.tenants
  pub own : outbox'.own ≡ outbox.own
  pub data_centres : length outbox'.queues ≡ length outbox.queues

pub IsNode-room : (home : Home) (parts : List (Option Part)) (audit : List (List AuditEntry)) (store store' : Contents) (outbox outbox' : Queues) → IsNode home parts audit store outbox → HasMoreRoom store store' outbox outbox' → IsNode home parts audit store' outbox'
IsNode-room home parts audit store store' outbox outbox' h more = record {
  slots =
      let n = h.slots in
      let stored = more.stored in
      let queued = more.queued in
      record {
        home_is = n.home_is;
        stored = (let le = n.stored in omega arith);
        queued = (let le = n.queued in omega arith);
        own_is = more.own ∙ n.own_is;
        all_queues = more.data_centres ∙ n.all_queues;
      };
  audited = h.audited;
  each = λ slot part read.
      let old = h.each slot part read in
      let s = old.stands in
      let solo = solo_in home part.terms (trail_of slot audit) in
      let stored = more.stored in
      let queued = more.queued in
      record {
        stands = record {
          home_is = s.home_is;
          stored = (let lt = s.stored in omega arith);
          queued = (let lt = s.queued in omega arith);
          own_is = more.own ∙ s.own_is;
          all_queues = more.data_centres ∙ s.all_queues;
          rows = subst (λ rs. StandsFor rs solo.recs) (sym (rows_stay slot)) s.rows;
          queues = λ dc is_other. more.queues slot dc ∙ s.queues dc is_other;
          all_acked = s.all_acked;
          acked = s.acked;
          clock_is = s.clock_is;
          clock_fits = s.clock_fits;
          marks = s.marks;
          late = s.late;
        };
        moment = old.moment;
        trail_is = old.trail_is;
      };
  vacant = λ slot read. (let old = h.vacant slot read in record {
    none = old.none;
    rows = rows_stay slot ∙ old.rows;
    queues = λ dc. more.queues slot dc ∙ old.queues dc;
  });
  fitting = h.fitting;
}
  where
    rows_stay : (slot : ℕ) → rows_of slot store' ≡ rows_of slot store
    rows_stay slot = ap (λ rs. rows_of slot (record store { rows = rs })) more.rows

pub padded_read : {A : Type 0} (xs : List A) (n i : ℕ) (d : A) → get_or (xs ++ replicate n d) i d ≡ get_or xs i d
padded_read [] zero i d = refl
padded_read [] (suc n) zero d = refl
padded_read [] (suc n) (suc i) d = padded_read [] n i d
padded_read (x ∷ xs) n zero d = refl
padded_read (x ∷ xs) n (suc i) d = padded_read xs n i d

pub padded_length : {A : Type 0} (xs : List A) (n : ℕ) (d : A) → length (xs ++ replicate n d) ≡ length xs + n
padded_length [] zero d = refl
padded_length [] (suc n) d = let rest = padded_length [] n d in omega arith
padded_length (x ∷ xs) n d = let rest = padded_length xs n d in omega arith

-- the slots that are new have no tenant and no calls
pub IsNode-padded : (home : Home) (more : ℕ) (parts : List (Option Part)) (audit : List (List AuditEntry)) (store : Contents) (outbox : Queues) → IsNode home parts audit store outbox
    → length (parts ++ replicate more None) ≤ store.tenants → length (parts ++ replicate more None) ≤ outbox.tenants → IsNode home (parts ++ replicate more None) (audit ++ no_calls more) store outbox
IsNode-padded home more parts audit store outbox h stored queued = record {
  slots = record {
    home_is = h.slots.home_is;
    stored = stored;
    queued = queued;
    own_is = h.slots.own_is;
    all_queues = h.slots.all_queues;
  };
  audited = padded_length audit more [] ∙ ap (λ n. n + more) h.audited ∙ sym (padded_length parts more None);
  each = λ slot part read.
      subst (λ t. StandsForTrail slot home part t store outbox) (sym (padded_read audit more slot [])) (h.each slot part (sym (padded_read parts more slot None) ∙ read));
  vacant = λ slot read.
      subst (λ t. IsUnused slot t store outbox) (sym (padded_read audit more slot [])) (h.vacant slot (sym (padded_read parts more slot None) ∙ read));
  fitting = fits audit h.fitting;
}
  where
    none : (n : ℕ) → AllByRecursion (AllFit (PlaceIn home)) (no_calls n)
    none zero = tt
    none (suc n) = (tt, none n)

    fits : (ts : List (List AuditEntry)) → AllByRecursion (AllFit (PlaceIn home)) ts → AllByRecursion (AllFit (PlaceIn home)) (ts ++ no_calls more)
    fits [] all = none more
    fits (t ∷ ts) all = (all.0, fits ts all.1)

others_same : (slot : ℕ) (store : Contents) (outbox : Queues) → OthersStay slot store outbox store outbox
others_same slot store outbox = record {
  rows = λ other differ. refl;
  queues = λ other dc differ. refl;
  tenants = refl;
  own = refl;
  queued = refl;
  data_centres = refl;
}

all_set_at : (P : List AuditEntry → Type 0) (xs : List (List AuditEntry)) (i : ℕ) (x : List AuditEntry) → AllByRecursion P xs → P x → AllByRecursion P (set xs i x)
all_set_at P [] i x h px = tt
all_set_at P (y ∷ xs) zero x h px = (px, h.1)
all_set_at P (y ∷ xs) (suc i) x h px = (h.0, all_set_at P xs i x h.1 px)

-- a tenant comes: its part is fresh
pub IsNode-admitted : (home : Home) (slot : ℕ) (parts : List (Option Part)) (audit : List (List AuditEntry)) (part : Part) (store : Contents) (outbox : Queues) → IsNode home parts audit store outbox → slot < length parts → get_or parts slot None ≡ None
    → IsFresh home.shape.data_centres part → part.terms.first_clock ≤ last_clock → IsNode home (set parts slot (Some part)) audit store outbox
IsNode-admitted home slot parts audit part store outbox h within free fresh clock =
    let unused = h.vacant slot free in
    let stored = h.slots.stored in
    let queued = h.slots.queued in
    let own : StandsForTrail slot home part (trail_of slot audit) store outbox = subst (λ t. StandsForTrail slot home part t store outbox) (sym unused.none)
    (fresh_part home slot part store outbox h.slots.home_is fresh clock (omega arith) (omega arith) h.slots.own_is h.slots.all_queues
    (subst (λ rows. StandsFor rows []) (sym unused.rows) (record { records = IsPermutation-refl []; greatest_kept = λ key. refl })) unused.queues) in
    IsNode-set home parts audit audit slot (Some part) store store outbox outbox h within
    (λ q is. subst (λ (o : Option Part). IsHis o) is own) (λ is. absurd (true≢false (ap is_some is))) (others_same slot store outbox)
    refl (λ other differ. refl) h.fitting
  where
    IsHis : Option Part → Type 0
    IsHis None = Unit {0}
    IsHis (Some q) = StandsForTrail slot home q (trail_of slot audit) store outbox

-- a tenant goes: nothing of it remains
pub IsNode-closed : (home : Home) (slot : ℕ) (parts : List (Option Part)) (audit : List (List AuditEntry)) (store store' : Contents) (outbox outbox' : Queues) → IsNode home parts audit store outbox → slot < length parts
    → rows_of slot store' ≡ [] → ((dc : ℕ) → queue_of slot dc outbox' ≡ []) → OthersStay slot store outbox store' outbox' → IsNode home (set parts slot None) (set audit slot []) store' outbox'
IsNode-closed home slot parts audit store store' outbox outbox' h within rows queues others =
    let many = h.audited in
    IsNode-set home parts audit (set audit slot []) slot None store store' outbox outbox' h within
    (λ part is. absurd (true≢false (sym (ap is_some is)))) (λ is. record { none = get_or-set_same audit slot [] [] (omega arith); rows = rows; queues = queues }) others
    (length-set audit slot []) (λ other differ. get_or-set_other audit slot other [] [] differ) (all_set_at (AllFit (PlaceIn home)) audit slot [] h.fitting tt)

-- a part that is there
pub is_there : {A : Type 0} (xs : List (Option A)) (i : ℕ) → is_some (get_or xs i None) ≡ true → i < length xs
is_there [] i h = absurd (true≢false (sym h))
is_there (x ∷ xs) zero h = omega arith
is_there (x ∷ xs) (suc i) h = let rest = is_there xs i h in omega arith

pub some_copied : {A : Type 0} (o : Option (Bor A)) → is_some o ≡ true → is_some (option_copied o) ≡ true
some_copied None h = absurd (true≢false (sym h))
some_copied (Some r) h = refl

module _ (home : Home) (slot more first_clock : ℕ) (quota : Quota) (parts : List (Option Part)) (audit : List (List AuditEntry)) (part : Part) (store store' : Contents) (outbox outbox' : Queues)
    (h : IsNode home parts audit store outbox) (room : HasMoreRoom store store' outbox outbox') (stored : store'.tenants ≡ max store.tenants (slot + 1)) (queued : outbox'.tenants ≡ max outbox.tenants (slot + 1))
    (more_is : more ≡ slot + 1 - length parts) (free : get_or parts slot None ≡ None) (fresh : IsFresh home.shape.data_centres part) (clock : first_clock ≤ last_clock)
    (terms : part.terms ≡ record { first_clock = first_clock; quota = quota }) where
  abbrev made : List (Option Part)
  made = parts ++ replicate more None

  abbrev listed : List (List AuditEntry)
  listed = audit ++ no_calls more

  below : slot < length (parts ++ replicate more None)
  below = let long = padded_length parts more None in omega arith

  node_padded : IsNode home (parts ++ replicate more None) (audit ++ no_calls more) store' outbox'
  node_padded =
      let long = padded_length parts more None in
      let s = h.slots.stored in
      let q = h.slots.queued in
      IsNode-padded home more parts audit store' outbox' (IsNode-room home parts audit store store' outbox outbox' h room) (omega arith) (omega arith)

  pub node_admitted : IsNode home (set (parts ++ replicate more None) slot (Some part)) (audit ++ no_calls more) store' outbox'
  node_admitted =
      IsNode-admitted home slot made listed part store' outbox' node_padded below (padded_read parts more slot None ∙ free) fresh (subst (λ (k : Terms). k.first_clock ≤ last_clock) (sym terms) clock)

  there : get_or (set (parts ++ replicate more None) slot (Some part)) slot None ≡ Some part
  there = get_or-set_same made slot (Some part) None below

  pub place_admitted : place_at slot (view_of home (set (parts ++ replicate more None) slot (Some part)) (audit ++ no_calls more)) ≡ Some (place_for home first_clock quota)
  place_admitted = place_shown home (set made slot (Some part)) listed slot part there ∙ ap (λ k. Some (place_under home k)) terms

  pub trail_admitted : trail_of slot (audit ++ no_calls more) ≡ []
  trail_admitted = padded_read audit more slot [] ∙ (h.vacant slot free).none

  pub others_admitted : (other : ℕ) → other ≢ slot → IsSlotKept other (view_of home parts audit) (view_of home (set (parts ++ replicate more None) slot (Some part)) (audit ++ no_calls more))
  others_admitted other differ = (
    place_elsewhere home made listed listed slot other (Some part) differ ∙ same_place_shown home parts made audit listed other (padded_read parts more other None),
    padded_read audit more other [],
  )
