-- Heads of files of either layout, over lines as they are cut.
use Rattle.cops_replay.proofs.Names.{◌≡◌, ℕ, ◌+◌, ◌<◌, ◌≤◌, ◌^◌, Bool, true, false, ◌&&◌, nat_eq, cond, List, [], ◌∷◌, ◌++◌, length, take, refl, sym, subst, ap, ◌∙◌, length-append, length-take, true≢false, arith, Option, Some, None, nat_lt, IsTrue, bytes_eq, nat_tests, take_all, AllByRecursion, Config, Tenant, counted, Front, AtStart, Within, Begun, HeadReading, Whole, BadAt, is_begun, may_join, reading_from, is_distinct, cut_line, last_old_clock, old_front_after, old_reading_from, last_clock, tenant_fits, front_after-short, both, bytes_from_test, AreNamed, slot_of_name, Every-append, found_at, short_name, Layout, Today, Early, layout_line, front_by, tells_layout, layout_of, longest_record, front_after-is, name_of}
use Rattle.cops_types.specs.HeadLines.{is_name}
use Rattle.cops_script.proofs.HeadRuns as today
use Rattle.cops_replay.proofs.OldFronts.{FollowsTo, follows_today, old_front_after-is, old_front_after-short}

pub by_test : {C : Type 0} (b : Bool) → (b ≡ true → C) → (b ≡ false → C) → C
by_test {C} true holds fails = holds refl
by_test {C} false holds fails = fails refl

-- ---- both layouts

-- how many lines stand before the head
abbrev pub lines_before : Layout → ℕ
lines_before Today = 1
lines_before Early = 0

abbrev pub reading_by : Layout → List (List ℕ) → ℕ → Front → HeadReading
reading_by Today lines number front = reading_from lines number front
reading_by Early lines number front = old_reading_from lines number front

short_by : (layout : Layout) (front : Front) (line : List ℕ) (next : Front) → front_by layout front line ≡ Some next → length line ≤ 16384
short_by Today front line next e = (let short = front_after-short front line next e in omega (arith, short))
short_by Early front line next e = old_front_after-short front line next e

-- a long line is no line of a head, cut or not
pub cut_in_head : (layout : Layout) (front : Front) (line : List ℕ) → front_by layout front (cut_line longest_record line) ≡ front_by layout front line
cut_in_head layout front line = by_test (nat_lt (longest_record + 1) (length line))
    (λ is.
    let long : longest_record + 1 < length line = grind (arith, nat_tests) in
    let size : length (take (longest_record + 1) line) ≡ longest_record + 1 = length-take (longest_record + 1) line ∙ omega arith in
    none_of (take (longest_record + 1) line) (λ short. omega (arith, size, short)) ∙ sym (none_of line (λ short. omega (arith, short))))
    (λ is. let short : length line ≤ longest_record + 1 = grind (arith, nat_tests) in ap (front_by layout front) (take_all (longest_record + 1) line short))
  where
    none_of : (l : List ℕ) → (length l ≤ 16384 → ⊥) → front_by layout front l ≡ None
    none_of l long = by_found (front_by layout front l) refl
      where
        by_found : (found : Option Front) → front_by layout front l ≡ found → found ≡ None
        by_found None e = refl
        by_found (Some next) e = absurd (long (short_by layout front l next e))

old_read_once : (front : Front) (number : ℕ) (line : List ℕ) (lines : List (List ℕ)) (next : Front) → is_begun front ≡ false → old_front_after front line ≡ Some next → old_reading_from (line ∷ lines) number front ≡ old_reading_from lines (number + 1) next
old_read_once front number line lines next h5 h6 = grind (arith, nat_tests)

old_bad_first : (front : Front) (number : ℕ) (line : List ℕ) (lines : List (List ℕ)) → is_begun front ≡ false → old_front_after front line ≡ None → old_reading_from (line ∷ lines) number front ≡ BadAt number
old_bad_first front number line lines h4 h5 = grind (arith, nat_tests)

old_bad_end : (front : Front) (number : ℕ) → is_begun front ≡ false → old_reading_from [] number front ≡ BadAt number
old_bad_end front number h2 = grind (arith, nat_tests)

pub read_once : (layout : Layout) (front : Front) (number : ℕ) (line : List ℕ) (lines : List (List ℕ)) (next : Front) → is_begun front ≡ false → front_by layout front line ≡ Some next → reading_by layout (line ∷ lines) number front ≡ reading_by layout lines (number + 1) next
read_once Today front number line lines next still e = today.read_once front number line lines next still e
read_once Early front number line lines next still e = old_read_once front number line lines next still e

pub bad_first : (layout : Layout) (front : Front) (number : ℕ) (line : List ℕ) (lines : List (List ℕ)) → is_begun front ≡ false → front_by layout front line ≡ None → reading_by layout (line ∷ lines) number front ≡ BadAt number
bad_first Today front number line lines still e = today.bad_first front number line lines still e
bad_first Early front number line lines still e = old_bad_first front number line lines still e

pub bad_end : (layout : Layout) (front : Front) (number : ℕ) → is_begun front ≡ false → reading_by layout [] number front ≡ BadAt number
bad_end Today front number still = today.bad_end front number still
bad_end Early front number still = old_bad_end front number still

pub read_whole : (layout : Layout) (lines : List (List ℕ)) (number : ℕ) (config : Config) → reading_by layout lines number (Begun config) ≡ Whole config lines
read_whole Today lines number config = refl
read_whole Early lines number config = refl

-- ---- a whole head

-- the greatest first clock in a head
abbrev pub last_in : Layout → ℕ
last_in Today = last_clock
last_in Early = last_old_clock

pub last_small : (layout : Layout) → last_in layout < 2 ^ 64
last_small Today = omega arith
last_small Early = omega arith

pub follows_by : (layout : Layout) (front : Front) (line : List ℕ) (next : Front) → front_by layout front line ≡ Some next → FollowsTo (last_in layout) front line next
follows_by Today front line next e = follows_today front line next (front_after-is front line next e)
follows_by Early front line next e = old_front_after-is front line next e

-- what holds of each front to which a line leads holds behind a whole head; what holds of all lines holds of those after it
module _ (layout : Layout) (Q : Front → Type 0) (P : List ℕ → Type 0) (step : (front : Front) (line : List ℕ) (next : Front) → Q front → front_by layout front line ≡ Some next → Q next) (config : Config) (rest : List (List ℕ)) where
  begun_holds : (found : Config) (lines : List (List ℕ)) (number : ℕ) → Q (Begun found) → AllByRecursion P lines → reading_by layout lines number (Begun found) ≡ Whole config rest → Q (Begun config) × AllByRecursion P rest
  begun_holds found lines number q all e = grind (arith, nat_tests)

  no_end : (number : ℕ) (front : Front) → is_begun front ≡ false → reading_by layout [] number front ≡ Whole config rest → Q (Begun config) × AllByRecursion P rest
  no_end number front still e = let bad : BadAt number ≡ Whole config rest = sym (bad_end layout front number still) ∙ e in absurd (let clash : ⊥ = cc in clash)

  by_line : (line : List ℕ) (lines : List (List ℕ)) (number : ℕ) (front : Front) → is_begun front ≡ false → Q front → reading_by layout (line ∷ lines) number front ≡ Whole config rest →
      ((next : Front) → Q next → reading_by layout lines (number + 1) next ≡ Whole config rest → Q (Begun config) × AllByRecursion P rest) → (found : Option Front) → front_by layout front line ≡ found → Q (Begun config) × AllByRecursion P rest
  by_line line lines number front still q e again None is = let bad : BadAt number ≡ Whole config rest = sym (bad_first layout front number line lines still is) ∙ e in absurd (let clash : ⊥ = cc in clash)
  by_line line lines number front still q e again (Some next) is = again next (step front line next q is) (sym (read_once layout front number line lines next still is) ∙ e)

  pub head_holds : (lines : List (List ℕ)) (number : ℕ) (front : Front) → Q front → AllByRecursion P lines → reading_by layout lines number front ≡ Whole config rest → Q (Begun config) × AllByRecursion P rest
  head_holds [] number AtStart q all e = no_end number AtStart refl e
  head_holds [] number (Within found) q all e = no_end number (Within found) refl e
  head_holds [] number (Begun found) q all e = begun_holds found [] number q all e
  head_holds (line ∷ lines) number AtStart q all e = by_line line lines number AtStart refl q e (λ next h r. head_holds lines (number + 1) next h all.1 r) (front_by layout AtStart line) refl
  head_holds (line ∷ lines) number (Within found) q all e = by_line line lines number (Within found) refl q e (λ next h r. head_holds lines (number + 1) next h all.1 r) (front_by layout (Within found) line) refl
  head_holds (line ∷ lines) number (Begun found) q all e = begun_holds found (line ∷ lines) number q all e

-- ---- one more line, and the tenants

-- the second front has no tenant, one more than the first, or the same
abbrev pub Grows : Front → Front → Type 0
Grows AtStart (Within config) = config.tenants ≡ []
Grows (Within old) (Within config) = (tenant : Tenant) × (config.tenants ≡ old.tenants ++ tenant ∷ []) × IsTrue (is_name tenant.name) × IsTrue (may_join old tenant)
Grows (Within old) (Begun config) = config.tenants ≡ old.tenants
Grows front next = ⊥

grows : (last : ℕ) → last < 2 ^ 64 → (front : Front) (line : List ℕ) (next : Front) → FollowsTo last front line next → Grows front next
grows last front line next h4 h5 = grind (arith, nat_tests, tenant_fits)

pub grows_by : (layout : Layout) (front : Front) (line : List ℕ) (next : Front) → front_by layout front line ≡ Some next → Grows front next
grows_by layout front line next e = grows (last_in layout) (last_small layout) front line next (follows_by layout front line next e)

-- the front has taken so many lines, and its tenants have names
pub record IsCounted (layout : Layout) (front : Front) (count : ℕ) : Type 0 where
  pub counts : count ≡ lines_before layout + today.taken front
  pub small : today.IsSmall front
  pub named : AreNamed (today.tenants_in front)

pub counted-small : (layout : Layout) (front : Front) (count : ℕ) → IsCounted layout front count → counted count ≡ count + 1
counted-small layout front count h3 = grind (arith, nat_tests)

pub counted_next : (layout : Layout) (front : Front) (count : ℕ) (config : Config) → IsCounted layout front count → Grows front (Within config) → IsCounted layout (Within config) (counted count)
counted_next layout AtStart count config c none = record {
  counts = counted-small layout AtStart count c ∙ (let n = c.counts in let zeroth = ap length none in omega arith);
  small = (let zeroth = ap length none in omega arith);
  named = subst AreNamed (sym none) tt;
}
counted_next layout (Within old) count config c (tenant, more, name, may) =
    let size = ap length more ∙ length-append old.tenants (tenant ∷ []) in
    let room : length old.tenants < 64 = grind (arith, nat_tests, (both (nat_lt (length old.tenants) 64) (is_distinct old.tenants tenant) may).0) in
    record {
      counts = counted-small layout (Within old) count c ∙ (let n = c.counts in omega arith);
      small = omega arith;
      named = subst AreNamed (sym more) (Every-append (λ (t : Tenant). IsTrue (is_name t.name)) old.tenants (tenant ∷ []) c.named (name, tt));
    }
counted_next layout (Begun old) count config c g = absurd g

pub named_begun : (layout : Layout) (front : Front) (count : ℕ) (config : Config) → IsCounted layout front count → Grows front (Begun config) → AreNamed config.tenants
named_begun layout front count config h4 h5 = grind (arith, nat_tests)

pub start : (layout : Layout) → IsCounted layout AtStart (lines_before layout)
start layout = record { counts = omega arith; small = tt; named = tt }

-- ---- the first line

not_first : (n : ℕ) (b : Bool) → 0 < n → nat_eq n 0 && b ≡ false
not_first n b h = let isnt : nat_eq n 0 ≡ false = grind (arith, nat_tests) in ap (λ x. x && b) isnt

-- a later line doesn't tell the layout
pub tells_not : (layout : Layout) (count : ℕ) (line : List ℕ) → 0 < count → tells_layout layout count line ≡ false
tells_not Today count line h = refl
tells_not Early count line h = not_first count (bytes_eq line layout_line) h

-- a line tells today's layout if what is seen of it does
pub cut_layout : (line : List ℕ) → bytes_eq (cut_line longest_record line) layout_line ≡ bytes_eq line layout_line
cut_layout line = by_test (bytes_eq line layout_line)
    (λ is. ap (λ l. bytes_eq (cut_line longest_record l) layout_line) (bytes_from_test line layout_line is) ∙ sym is)
    (λ isnt. by_test (bytes_eq (cut_line longest_record line) layout_line)
    (λ is. let cut = bytes_from_test (cut_line longest_record line) layout_line is in absurd (true≢false (sym (ap (λ l. bytes_eq l layout_line) (whole cut)) ∙ isnt)))
    (λ is. is ∙ sym isnt))
  where
    whole : take (longest_record + 1) line ≡ layout_line → line ≡ layout_line
    whole cut =
        let size : length (take (longest_record + 1) line) ≡ 8 = ap length cut in
        let short : length line ≤ longest_record + 1 = (let full = length-take (longest_record + 1) line in omega (arith, size, full)) in
        sym (take_all (longest_record + 1) line short) ∙ cut

pub layout_first : (line : List ℕ) (lines : List (List ℕ)) (t : Bool) → bytes_eq line layout_line ≡ t → layout_of (line ∷ lines) ≡ cond t Today Early
layout_first line lines t e = ap (λ b. cond b Today Early) e

-- ---- the tenant

-- a tenant's name is short
pub short_in : (config : Config) (name : List ℕ) (slot : ℕ) → AreNamed config.tenants → slot_of_name config.tenants name ≡ Some slot → length name ≤ 16
short_in config name slot named there =
    let found = found_at config.tenants name slot there in
    subst (λ n. length n ≤ 16) (bytes_from_test found.0.name name found.2) (short_name found.0.name (name_of config.tenants slot found.0 named found.1))
