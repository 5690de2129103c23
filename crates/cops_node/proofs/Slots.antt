-- What one call of a slot does to what a node keeps of all slots.
use Rattle.std.proofs.Common.{◌≡◌, ◌≢◌, ℕ, zero, suc, ◌<◌, Bool, true, false, cond, List, [], ◌∷◌, ◌++◌, length, map, refl, sym, ap, ◌∙◌, subst, arith, true≢false, nat_eq, nat_lt, max, get_or, set}
use Rattle.std.specs.Prelude.{if◌then◌else◌, IsTrue, is_some, Option, Some, None, OnErr, Result, Ok, Err}
use Rattle.std.specs.Option.{option_copied, option_map}
use Rattle.std.proofs.Common.{inl, inr, Bor}
use Rattle.std.proofs.lemmas.Bool.Decides.{Decides-eqb}
use Rattle.std.specs.List.{AllByRecursion}
use Rattle.std.proofs.lemmas.List.{get_or-set_same, get_or-set_other, map-append, map-set}
use Rattle.std.proofs.Math.ListN.{length-set}
use Rattle.std.proofs.Math.Seq.{map-set_same}
use Rattle.cops_types.specs.declared.faults.Fault.{Fault}
use Rattle.cops_types.specs.declared.faults.Fault.TheVariants.{AuditFull}
use Rattle.cops_types.specs.declared.pairs.Pair.{Pair}
use Rattle.cops_types.specs.declared.records.EntryParts.{EntryParts as Entry}
use Rattle.cops_types.specs.Records.{StandsFor, mark}
use Rattle.cops_types.specs.Version.{Timestamp, version_eq}
use Rattle.cops_store.specs.Contents.{Contents}
use Rattle.cops_outbox.specs.Queues.{Queues}
use Rattle.cops_model.specs.declared.calls.AuditEntry.{AuditEntry}
use Rattle.cops_model.specs.declared.calls.NodeCall.{NodeCall}
use Rattle.cops_model.specs.declared.calls.NodeCall.TheVariants.{Get, Put, DepCheck, Pull, Commit, Ack, Collect}
use Rattle.cops_node.specs.declared.Terms.{Terms}
use Rattle.cops_model.specs.declared.calls.NodeReply.{NodeReply}
use Rattle.cops_model.specs.declared.calls.NodeReply.TheVariants.{Refused, Stored, Committed}
use Rattle.cops_node.specs.declared.parts.Counters.{Counters}
use Rattle.cops_node.specs.declared.parts.Part.{Part}
use Rattle.cops_node.specs.Lacking.{MayLack}
use Rattle.cops_node.specs.declared.Home.{Home}
use Rattle.cops_node.specs.Parts.{AllFit, HasPartRoom, IsNode, IsPartTurn, IsSoloTurn, IsUnused, JoinsAudit, JoinsTrail, OthersStay, Shared, StandsAt, StandsForTrail, has_audit_room, left_by, noted, place_at, place_under, solo_in, terms_in, trail_of}
use Rattle.cops_model.specs.Place.{Place, fits}
use Rattle.cops_node.specs.Run.{calls_in_trail, node_after}
use Rattle.cops_node.specs.Shape.{place_in}
use Rattle.cops_model.specs.SoloNode.{SoloNode, new_node, queue, front}
use Rattle.cops_model.specs.Step.{CallEffect, acknowledge, audited, commit_refusal, effect, entry_of_put, node_put_refusal, node_step, put_with_version, store_unless, unchanged, version_of_put, was_committed}
use Rattle.cops_node.proofs.AuditLaws.{node_after-push}

-- ---- the audit

-- the trail of the slot that makes a call, and those of the others
pub trail_own : (slot : ℕ) (audit : List (List AuditEntry)) (entry : AuditEntry) → slot < length audit → trail_of slot (noted slot entry audit) ≡ trail_of slot audit ++ entry ∷ []
trail_own slot audit entry lt = get_or-set_same audit slot (trail_of slot audit ++ entry ∷ []) [] lt

pub trail_other : (slot other : ℕ) (audit : List (List AuditEntry)) (entry : AuditEntry) → other ≢ slot → trail_of other (noted slot entry audit) ≡ trail_of other audit
trail_other slot other audit entry differ = get_or-set_other audit slot other (trail_of slot audit ++ entry ∷ []) [] differ

-- one more call that fits
AllFit-push : (place : Place) (trail : List AuditEntry) (e : AuditEntry) → AllFit place trail → IsTrue (fits place e.call) → AllFit place (trail ++ e ∷ [])
AllFit-push place [] e all fit = (fit, tt)
AllFit-push place (x ∷ trail) e all fit = (all.0, AllFit-push place trail e all.1 fit)

pub AuditFits-noted : (place : Place) (slot : ℕ) (audit : List (List AuditEntry)) (e : AuditEntry) → AllByRecursion (AllFit place) audit → IsTrue (fits place e.call) → AllByRecursion (AllFit place) (noted slot e audit)
AuditFits-noted place slot [] e all fit = tt
AuditFits-noted place zero (trail ∷ audit) e all fit = (AllFit-push place trail e all.0 fit, all.1)
AuditFits-noted place (suc slot) (trail ∷ audit) e all fit = (all.0, AuditFits-noted place slot audit e all.1 fit)

-- one more call in the audit is one more turn
pub left_by-push : (place : Place) (trail : List AuditEntry) (e : AuditEntry) → left_by place (trail ++ e ∷ []) ≡ (node_step place e.moment e.call (left_by place trail)).after
left_by-push place trail e =
    ap (λ cs. node_after place cs (new_node place.data_centres)) (map-append (λ (e : AuditEntry). record { moment = e.moment; call = e.call }) trail (e ∷ []))
    ∙ node_after-push place (calls_in_trail trail) (record { moment = e.moment; call = e.call }) (new_node place.data_centres)

-- ---- a turn, by whether the audit is full

pub step_full : (place : Place) (moment : ℕ) (call : NodeCall) (solo : SoloNode) → nat_lt (length solo.trail) place.quota.audit ≡ false → node_step place moment call solo ≡ unchanged (Refused AuditFull) solo
step_full place moment call solo e = ap (λ b. if b then audited moment call (effect place call (record solo { moment = max solo.moment moment })) else unchanged (Refused AuditFull) solo) e

pub step_open : (place : Place) (moment : ℕ) (call : NodeCall) (solo : SoloNode) → nat_lt (length solo.trail) place.quota.audit ≡ true
    → node_step place moment call solo ≡ audited moment call (effect place call (record solo { moment = max solo.moment moment }))
step_open place moment call solo e = ap (λ b. if b then audited moment call (effect place call (record solo { moment = max solo.moment moment })) else unchanged (Refused AuditFull) solo) e

-- what a call does leaves the timestamp as it was raised
branch : (b : Bool) (one other : CallEffect) (moment : ℕ) → one.after.moment ≡ moment → other.after.moment ≡ moment → (cond b one other).after.moment ≡ moment
branch true one other moment p q = p
branch false one other moment p q = q

moment_of_store : (fault : Option Fault) (reply : NodeReply) (entry : Entry) (solo : SoloNode) → (store_unless fault reply entry solo).after.moment ≡ solo.moment
moment_of_store (Some fault) reply entry solo = refl
moment_of_store None reply entry solo = refl

moment_of_put : (place : Place) (solo : SoloNode) (key value : List ℕ) (deps near : List Pair) (version : Option Timestamp) → (put_with_version place solo key value deps near version).after.moment ≡ solo.moment
moment_of_put place solo key value deps near None = refl
moment_of_put place solo key value deps near (Some version) = moment_of_store (node_put_refusal place solo key value) (Stored version) (entry_of_put place solo version key value deps near) solo

moment_of_ack : (dc : ℕ) (version : Timestamp) (solo : SoloNode) (first : Option Entry) → (acknowledge dc version solo first).after.moment ≡ solo.moment
moment_of_ack dc version solo None = refl
moment_of_ack dc version solo (Some entry) = branch (version_eq entry.version version) _ _ solo.moment refl refl

pub moment_of_effect : (place : Place) (call : NodeCall) (solo : SoloNode) → (effect place call solo).after.moment ≡ solo.moment
moment_of_effect place (Get key wanted) solo = refl
moment_of_effect place (Put key value deps near) solo = moment_of_put place solo key value deps near (version_of_put place solo deps)
moment_of_effect place (DepCheck key version) solo = refl
moment_of_effect place (Pull dc) solo = refl
moment_of_effect place (Commit entry) solo =
    branch (was_committed entry.version solo) _ _ solo.moment refl
    (branch (version_eq entry.prev (mark entry.version.node solo.recs)) _ _ solo.moment (moment_of_store (commit_refusal place solo entry) Committed entry solo) refl)
moment_of_effect place (Ack dc version) solo = moment_of_ack dc version solo (front (queue place dc solo))
moment_of_effect place Collect solo = refl

-- the audit of the solo node is beside what is kept
pub StandsAt-audited : (slot : ℕ) (place : Place) (counters : Counters) (store : Contents) (outbox : Queues) (solo : SoloNode) (trail : List AuditEntry) → StandsAt slot place counters store outbox solo → StandsAt slot place counters store outbox (record solo { trail = trail })
StandsAt-audited slot place counters store outbox solo trail h = record {
  home_is = h.home_is;
  stored = h.stored;
  queued = h.queued;
  own_is = h.own_is;
  all_queues = h.all_queues;
  rows = h.rows;
  queues = h.queues;
  all_acked = h.all_acked;
  acked = h.acked;
  clock_is = h.clock_is;
  clock_fits = h.clock_fits;
  marks = h.marks;
  late = h.late;
}

-- another slot's call
StandsAt-other : (slot other : ℕ) (place : Place) (counters : Counters) (store store' : Contents) (outbox outbox' : Queues) (solo : SoloNode) → other ≢ slot → OthersStay slot store outbox store' outbox' → StandsAt other place counters store outbox solo → StandsAt other place counters store' outbox' solo
StandsAt-other slot other place counters store store' outbox outbox' solo differ stay h = record {
  home_is = h.home_is;
  stored = subst (λ n. other < n) (sym stay.tenants) h.stored;
  queued = subst (λ n. other < n) (sym stay.queued) h.queued;
  own_is = stay.own ∙ h.own_is;
  all_queues = stay.data_centres ∙ h.all_queues;
  rows = subst (λ rs. StandsFor rs solo.recs) (sym (stay.rows other differ)) h.rows;
  queues = λ dc is_other. stay.queues other dc differ ∙ h.queues dc is_other;
  all_acked = h.all_acked;
  acked = h.acked;
  clock_is = h.clock_is;
  clock_fits = h.clock_fits;
  marks = h.marks;
  late = h.late;
}

-- ---- the parts

pub map_read : {A B : Type 0} (f : A → B) (xs : List A) (i : ℕ) (d : A) → get_or (map f xs) i (f d) ≡ f (get_or xs i d)
map_read f [] i d = refl
map_read f (x ∷ xs) zero d = refl
map_read f (x ∷ xs) (suc i) d = map_read f xs i d

pub some_there : {A : Type 0} (xs : List (Option A)) (i : ℕ) (x : A) → get_or xs i None ≡ Some x → i < length xs
some_there [] i x is = absurd (true≢false (sym (ap is_some is)))
some_there (y ∷ xs) zero x is = omega arith
some_there (y ∷ xs) (suc i) x is = let rest = some_there xs i x is in omega arith

abbrev held : {A : Type 0} → A → Option A → A
held d None = d
held d (Some x) = x

pub some_same : {A : Type 0} (a b : A) → Some a ≡ Some b → a ≡ b
some_same a b is = ap (held a) is

-- what contracts see
abbrev pub view_of : Home → List (Option Part) → List (List AuditEntry) → Shared
view_of home parts audit = record { home = home; terms = terms_in parts; audit = audit }

abbrev pub terms_in_part : Part → Terms
terms_in_part part = part.terms

-- if memory may lack, the audit has room
pub has_room : (place : Place) (slot : ℕ) (node : Shared) (call : NodeCall) → place_at slot node ≡ Some place → MayLack node slot call → IsTrue (has_audit_room slot place node)
has_room place slot node call is may = subst (λ p. IsTrue (has_audit_room slot p node)) (some_same may.0 place (sym may.1 ∙ is)) may.2

pub terms_shown : (parts : List (Option Part)) (slot : ℕ) (part : Part) → get_or parts slot None ≡ Some part → get_or (terms_in parts) slot None ≡ Some part.terms
terms_shown parts slot part read = map_read (option_map terms_in_part) parts slot None ∙ ap (option_map terms_in_part) read

pub place_shown : (home : Home) (parts : List (Option Part)) (audit : List (List AuditEntry)) (slot : ℕ) (part : Part) → get_or parts slot None ≡ Some part → place_at slot (view_of home parts audit) ≡ Some (place_under home part.terms)
place_shown home parts audit slot part read = ap (option_map (place_under home)) (terms_shown parts slot part read)

pub none_shown : (home : Home) (parts : List (Option Part)) (audit : List (List AuditEntry)) (slot : ℕ) → get_or parts slot None ≡ None → place_at slot (view_of home parts audit) ≡ None
none_shown home parts audit slot read = ap (option_map (place_under home)) (map_read (option_map terms_in_part) parts slot None ∙ ap (option_map terms_in_part) read)

pub place_read : (home : Home) (parts : List (Option Part)) (audit : List (List AuditEntry)) (slot : ℕ) (place : Place) (part : Part) → place_at slot (view_of home parts audit) ≡ Some place → get_or parts slot None ≡ Some part
    → place ≡ place_under home part.terms
place_read home parts audit slot place part is read = some_same place (place_under home part.terms) (sym is ∙ place_shown home parts audit slot part read)

-- a slot has a part if it shows a place
pub is_some_shown : (home : Home) (parts : List (Option Part)) (audit : List (List AuditEntry)) (slot : ℕ) → is_some (place_at slot (view_of home parts audit)) ≡ is_some (get_or parts slot None)
is_some_shown home parts audit slot = ap (λ t. is_some (option_map (place_under home) t)) (map_read (option_map terms_in_part) parts slot None) ∙ by (get_or parts slot None)
  where
    by : (p : Option Part) → is_some (option_map (place_under home) (option_map terms_in_part p)) ≡ is_some p
    by None = refl
    by (Some p) = refl

-- a place that is shown is that of a part
pub part_shown : (home : Home) (parts : List (Option Part)) (audit : List (List AuditEntry)) (slot : ℕ) (place : Place) → place_at slot (view_of home parts audit) ≡ Some place → (part : Part) × (get_or parts slot None ≡ Some part)
part_shown home parts audit slot place is = by (get_or parts slot None) refl
  where
    by : (p : Option Part) → get_or parts slot None ≡ p → (part : Part) × (get_or parts slot None ≡ Some part)
    by None read = absurd (true≢false (sym (sym (is_some_shown home parts audit slot ∙ ap is_some read) ∙ ap is_some is)))
    by (Some part) read = (part, read)

-- and a slot without a place has no part
pub no_part_shown : (home : Home) (parts : List (Option Part)) (audit : List (List AuditEntry)) (slot : ℕ) → place_at slot (view_of home parts audit) ≡ None → get_or parts slot None ≡ None
no_part_shown home parts audit slot is = by (get_or parts slot None) refl
  where
    by : (p : Option Part) → get_or parts slot None ≡ p → get_or parts slot None ≡ None
    by None read = read
    by (Some part) read = absurd (true≢false (sym (is_some_shown home parts audit slot ∙ ap is_some read) ∙ ap is_some is))

pub terms_set : (parts : List (Option Part)) (slot : ℕ) (old new : Part) → get_or parts slot None ≡ Some old → new.terms ≡ old.terms → terms_in (set parts slot (Some new)) ≡ terms_in parts
terms_set parts slot old new read same = map-set_same (option_map terms_in_part) parts slot (Some new) None (ap Some same ∙ ap (option_map terms_in_part) (sym read))

pub place_elsewhere : (home : Home) (parts : List (Option Part)) (audit audit' : List (List AuditEntry)) (slot other : ℕ) (p : Option Part) → other ≢ slot
    → place_at other (view_of home (set parts slot p) audit') ≡ place_at other (view_of home parts audit)
place_elsewhere home parts audit audit' slot other p differ =
    ap (λ ts. option_map (place_under home) (get_or ts other None)) (map-set (option_map terms_in_part) parts slot p)
    ∙ ap (option_map (place_under home)) (get_or-set_other (terms_in parts) slot other (option_map terms_in_part p) None differ)

abbrev pub PlaceIn : Home → Place
PlaceIn home = place_in home.shape home.id

-- one slot is another, and the others stay
pub IsNode-set : (home : Home) (parts : List (Option Part)) (audit audit' : List (List AuditEntry)) (slot : ℕ) (p : Option Part) (store store' : Contents) (outbox outbox' : Queues) → IsNode home parts audit store outbox → slot < length parts
    → ((part : Part) → p ≡ Some part → StandsForTrail slot home part (trail_of slot audit') store' outbox') → (p ≡ None → IsUnused slot (trail_of slot audit') store' outbox') → OthersStay slot store outbox store' outbox'
    → length audit' ≡ length audit → ((other : ℕ) → other ≢ slot → trail_of other audit' ≡ trail_of other audit) → AllByRecursion (AllFit (PlaceIn home)) audit'
    → IsNode home (set parts slot p) audit' store' outbox'
IsNode-set home parts audit audit' slot p store store' outbox outbox' h within own unused stay many elsewhere fitting = record {
  slots =
      let n = h.slots in
      let long = length-set parts slot p in
      let tenants = stay.tenants in
      let queued = stay.queued in
      record {
        home_is = n.home_is;
        stored = (let le = n.stored in omega arith);
        queued = (let le = n.queued in omega arith);
        own_is = stay.own ∙ n.own_is;
        all_queues = stay.data_centres ∙ n.all_queues;
      };
  audited = many ∙ h.audited ∙ sym (length-set parts slot p);
  each = λ s part read. each s part read (nat_eq s slot) refl;
  vacant = λ s read. vacant s read (nat_eq s slot) refl;
  fitting = fitting;
}
  where
    here : (s : ℕ) → s ≡ slot → get_or (set parts slot p) s None ≡ p
    here s same = ap (λ m. get_or (set parts slot p) m None) same ∙ get_or-set_same parts slot p None within

    each : (s : ℕ) (part : Part) → get_or (set parts slot p) s None ≡ Some part → (b : Bool) → nat_eq s slot ≡ b → StandsForTrail s home part (trail_of s audit') store' outbox'
    each s part read true is =
        let same : s ≡ slot = (Decides-eqb s slot).0 is in
        subst (λ m. StandsForTrail m home part (trail_of m audit') store' outbox') (sym same) (own part (sym (here s same) ∙ read))
    each s part read false is =
        let differ : s ≢ slot = λ same. true≢false (sym ((Decides-eqb s slot).1 same) ∙ is) in
        let old = h.each s part (sym (get_or-set_other parts slot s p None differ) ∙ read) in
        subst (λ t. StandsForTrail s home part t store' outbox') (sym (elsewhere s differ)) (record {
          stands = StandsAt-other slot s (place_under home part.terms) part.counters store store' outbox outbox' (solo_in home part.terms (trail_of s audit)) differ stay old.stands;
          moment = old.moment;
          trail_is = old.trail_is;
        })

    vacant : (s : ℕ) → get_or (set parts slot p) s None ≡ None → (b : Bool) → nat_eq s slot ≡ b → IsUnused s (trail_of s audit') store' outbox'
    vacant s read true is =
        let same : s ≡ slot = (Decides-eqb s slot).0 is in
        subst (λ m. IsUnused m (trail_of m audit') store' outbox') (sym same) (unused (sym (here s same) ∙ read))
    vacant s read false is =
        let differ : s ≢ slot = λ same. true≢false (sym ((Decides-eqb s slot).1 same) ∙ is) in
        let old = h.vacant s (sym (get_or-set_other parts slot s p None differ) ∙ read) in
        record {
          none = elsewhere s differ ∙ old.none;
          rows = stay.rows s differ ∙ old.rows;
          queues = λ dc. stay.queues s dc differ ∙ old.queues dc;
        }

pub copied_none : {X : Type 0} (r : Option (Bor X)) → option_copied r ≡ None → r ≡ None
copied_none None h = refl
copied_none (Some x) h = absurd (true≢false (ap is_some h))

-- ---- which calls fit

-- what never changes of a tenant is no concern of it
pub fits_under : (home : Home) (terms : Terms) (call : NodeCall) → fits (place_under home terms) call ≡ fits (PlaceIn home) call
fits_under home terms (Get key wanted) = refl
fits_under home terms (Put key value deps near) = refl
fits_under home terms (DepCheck key version) = refl
fits_under home terms (Pull dc) = refl
fits_under home terms (Commit entry) = refl
fits_under home terms (Ack dc version) = refl
fits_under home terms Collect = refl

pub OnErr-any : {A E : Type 0} (r : Result A E) (P : Type 0) → P → OnErr r P
OnErr-any (Ok x) P p = tt
OnErr-any (Err e) P p = p

-- ---- what contracts see

-- a part that keeps its terms does not show
pub view_set : (home : Home) (slot : ℕ) (parts : List (Option Part)) (audit audit' : List (List AuditEntry)) (p new : Part) → get_or parts slot None ≡ Some p → new.terms ≡ p.terms → audit' ≡ audit
    → view_of home (set parts slot (Some new)) audit' ≡ view_of home parts audit
view_set home slot parts audit audit' p new read same calls =
    let terms = terms_set parts slot p new read same in
    λ i. record { home = home; terms = terms i; audit = calls i }

-- the solo node's audit is the slot's trail
pub solo_trail : (home : Home) (slot : ℕ) (parts : List (Option Part)) (audit : List (List AuditEntry)) (store : Contents) (outbox : Queues) (place : Place) → IsNode home parts audit store outbox
    → place_at slot (view_of home parts audit) ≡ Some place → trail_of slot audit ≡ (left_by place (trail_of slot audit)).trail
solo_trail home slot parts audit store outbox place node found =
    let part = part_shown home parts audit slot place found in
    let is : place ≡ place_under home part.0.terms = place_read home parts audit slot place part.0 found part.1 in
    subst (λ (p : Place). trail_of slot audit ≡ (left_by p (trail_of slot audit)).trail) (sym is) (sym (node.each slot part.0 part.1).trail_is)

-- if memory was refused at the part, it may be at the node
pub lack_shown : (home : Home) (slot : ℕ) (call : NodeCall) (parts : List (Option Part)) (audit : List (List AuditEntry)) (part : Part) → get_or parts slot None ≡ Some part → HasPartRoom home part (trail_of slot audit)
    → MayLack (view_of home parts audit) slot call
lack_shown home slot call parts audit part read room = (place_under home part.terms, place_shown home parts audit slot part read, room)

-- ---- a call of a slot, from what it does to the slot's part

module _ (home : Home) (slot moment : ℕ) (call : NodeCall) (parts : List (Option Part)) (audit audit' : List (List AuditEntry)) (p new : Part) (store store' : Contents) (outbox outbox' : Queues)
    (node : IsNode home parts audit store outbox) (read : get_or parts slot None ≡ Some p) (terms_are : new.terms ≡ p.terms)
    (stands : StandsForTrail slot home new (trail_of slot audit') store' outbox') (others : OthersStay slot store outbox store' outbox') where
  within : slot < length parts
  within = some_there parts slot p read

  own : (part : Part) → Some new ≡ Some part → StandsForTrail slot home part (trail_of slot audit') store' outbox'
  own part is = subst (λ (q : Part). StandsForTrail slot home q (trail_of slot audit') store' outbox') (some_same new part is) stands

  whole : length audit' ≡ length audit → ((other : ℕ) → other ≢ slot → trail_of other audit' ≡ trail_of other audit) → AllByRecursion (AllFit (PlaceIn home)) audit' → IsNode home (set parts slot (Some new)) audit' store' outbox'
  whole many elsewhere fitting = IsNode-set home parts audit audit' slot (Some new) store store' outbox outbox' node within own (λ is. absurd (true≢false (ap is_some is))) others many elsewhere fitting

  pub node_same : audit' ≡ audit → IsNode home (set parts slot (Some new)) audit' store' outbox'
  node_same same = whole (ap length same) (λ other differ. ap (trail_of other) same) (subst (AllByRecursion (AllFit (PlaceIn home))) (sym same) node.fitting)

  pub node_joined : (reply : NodeReply) → IsTrue (fits (PlaceIn home) call) → JoinsAudit slot moment call reply audit audit' → IsNode home (set parts slot (Some new)) audit' store' outbox'
  node_joined reply fit (inl same) = node_same same.1
  node_joined reply fit (inr more) =
      let entry : AuditEntry = record { moment = moment; call = call; reply = reply } in
      whole (ap length more ∙ length-set audit slot (trail_of slot audit ++ entry ∷ []))
      (λ other differ. ap (trail_of other) more ∙ trail_other slot other audit entry differ)
      (subst (AllByRecursion (AllFit (PlaceIn home))) (sym more) (AuditFits-noted (PlaceIn home) slot audit entry node.fitting fit))

  pub trail_joined : (reply : NodeReply) → JoinsAudit slot moment call reply audit audit' → JoinsTrail slot moment call reply (view_of home parts audit) (view_of home (set parts slot (Some new)) audit')
  trail_joined reply (inl same) = inl (same.0, view_set home slot parts audit audit' p new read terms_are same.1)
  trail_joined reply (inr more) = inr more

  pub elsewhere_joined : (reply : NodeReply) (other : ℕ) → other ≢ slot → JoinsAudit slot moment call reply audit audit' → trail_of other audit' ≡ trail_of other audit
  elsewhere_joined reply other differ (inl same) = ap (trail_of other) same.1
  elsewhere_joined reply other differ (inr more) = ap (trail_of other) more ∙ trail_other slot other audit (record { moment = moment; call = call; reply = reply }) differ

  pub solo_turned : (reply : NodeReply) → IsPartTurn home p.terms moment call reply (trail_of slot audit) (trail_of slot audit') → (place : Place) → place_at slot (view_of home parts audit) ≡ Some place
      → IsSoloTurn slot moment call reply place (view_of home parts audit) (view_of home (set parts slot (Some new)) audit')
  solo_turned reply turn place found =
      let is : place ≡ place_under home p.terms = place_read home parts audit slot place p found read in
      subst (λ (q : Place). IsSoloTurn slot moment call reply q (view_of home parts audit) (view_of home (set parts slot (Some new)) audit')) (sym is) turn
