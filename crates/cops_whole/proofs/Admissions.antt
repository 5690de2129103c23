-- The host's calls: each life is asked for at most once at a node, and for one tenant.
use Rattle.std.proofs.Common.{◌≡◌, ◌⊎◌, ℕ, zero, suc, ◌+◌, ◌<◌, ◌≤◌, true, false, ◌==◌, List, [], ◌∷◌, ◌++◌, map, inl, inr, refl, sym, ◌∙◌, ap, subst, arith}
use Rattle.std.specs.Prelude.{Option, Some, None}
use Rattle.std.specs.List.{AllByRecursion}
use Rattle.std.proofs.lemmas.Bool.Decides.{Decides-eqb, leb_tells}
use Rattle.std.proofs.lemmas.List.{map-append}
use Rattle.cops_types.specs.declared.configs.Config.{Config}
use Rattle.cops_types.specs.declared.configs.Tenant.{Tenant}
use Rattle.cops_types.specs.declared.request_errors.RequestError.{RequestError}
use Rattle.cops_types.specs.OpenSlots.{open_slot_of_name}
use Rattle.cops_types.proofs.Elements.{Every-append}
use Rattle.cops_model.specs.declared.replies.HostReply.{HostReply}
use Rattle.cops_model.specs.declared.replies.HostReply.TheVariants.{Admitted, Closed, Denied}
use Rattle.cops_node.specs.declared.hosted.SlotCall.{SlotCall}
use Rattle.cops_node.specs.declared.hosted.SlotCall.TheVariants.{Admit, Close}
use Rattle.cops_node.specs.declared.hosted.SlotReply.{SlotReply}
use Rattle.cops_node.specs.Hosting.{Hosted}
use Rattle.cops_service.specs.Gates.{Gates}
use Rattle.cops_service.specs.HostedCrews.{Hosting, IsLineTold, IsTenantLineTold}
use Rattle.cops_service.specs.HostedDesks.{CallsFirst, HostedSeat, IsHostCall, told_at_slot}
use Rattle.cops_service.specs.LifeCrews.{FollowsSomeLine}
use Rattle.cops_service.specs.Repeated.{Repeats}
use Rattle.cops_service.specs.Rosters.{IsAdmissionTold, IsCloseTold, IsNotAdmitted, IsNotKept, Roster}
use Rattle.cops_service.specs.declared.host_lines.HostLine.{HostLine}
use Rattle.cops_service.specs.declared.host_lines.HostLine.TheVariants as line
use Rattle.cops_history.specs.Lives.{AsksForLife, slot_entry}
use Rattle.cops_history.proofs.Cutting.{all_prefix}
use Rattle.cops_whole.specs.LivesRuns.{SlotCallThere, calls_of_host}
use Rattle.cops_whole.specs.LivesRuns.Deed.{Hosts}
use Rattle.cops_whole.specs.ServedLives.{BeganIn}
use Rattle.cops_whole.proofs.LifeDeeds.{BehavesAs, DoesAllThere, does_both}
use Rattle.cops_whole.proofs.SeenMore.{seen_none, seen_same}

-- ---- at most once

module _ {A : Type 0} (P : A → Type 0) where
  abbrev pub Never : List A → Type 0
  Never xs = AllByRecursion (λ x. P x → ⊥) xs

  abbrev pub AtMostOnce : List A → Type 0
  AtMostOnce [] = Unit {0}
  AtMostOnce (x ∷ xs) = (P x → Never xs) × AtMostOnce xs

  once_none : (xs : List A) → Never xs → AtMostOnce xs
  once_none [] never = tt
  once_none (x ∷ xs) never = ((λ is. absurd (never.0 is)), once_none xs never.1)

  pub once_first : (xs ys : List A) → AtMostOnce xs → Never ys → AtMostOnce (xs ++ ys)
  once_first [] ys once never = once_none ys never
  once_first (x ∷ xs) ys once never = ((λ is. Every-append (λ z. P z → ⊥) xs ys (once.0 is) never), once_first xs ys once.1 never)

  pub once_last : (xs ys : List A) → Never xs → AtMostOnce ys → AtMostOnce (xs ++ ys)
  once_last [] ys never once = once
  once_last (x ∷ xs) ys never once = ((λ is. absurd (never.0 is)), once_last xs ys never.1 once)

  pub once_prefix : (xs ys : List A) → AtMostOnce (xs ++ ys) → AtMostOnce xs
  once_prefix [] ys once = tt
  once_prefix (x ∷ xs) ys once = ((λ is. all_prefix (λ z. P z → ⊥) xs ys (once.0 is)), once_prefix xs ys once.1)

-- each is so if each is another way, too
pub all_weaker : {A : Type 0} (P Q : A → Type 0) (xs : List A) → ((x : A) → P x → Q x) → AllByRecursion P xs → AllByRecursion Q xs
all_weaker P Q [] so all = tt
all_weaker P Q (x ∷ xs) so all = (so x all.0, all_weaker P Q xs so all.1)

-- ---- calls

-- at this node, for this life of the slot
abbrev pub AsksThere : ℕ → ℕ → ℕ → SlotCallThere → Type 0
AsksThere node slot life c = (c.node ≡ node) × AsksForLife slot life (Some c.entry)

-- the lives that are asked for have such numbers
abbrev pub IsAskedFrom : ℕ → ℕ → SlotCallThere → Type 0
IsAskedFrom lower upper c = (life : ℕ) (tenant : Tenant) → c.entry.call ≡ Admit life tenant → (lower ≤ life) × (life < upper)

-- it is for this tenant if it is for the life
abbrev pub IsForTenant : Tenant → ℕ → SlotCallThere → Type 0
IsForTenant tenant life c = (other : Tenant) → c.entry.call ≡ Admit life other → other ≡ tenant

same_life : (life other : ℕ) (tenant another : Tenant) → Admit life tenant ≡ Admit other another → life ≡ other
same_life life other tenant another e = cc

same_tenant : (life other : ℕ) (tenant another : Tenant) → Admit life tenant ≡ Admit other another → tenant ≡ another
same_tenant life other tenant another e = cc

never_closes : (life : ℕ) (tenant : Tenant) → Close ≡ Admit life tenant → ⊥
never_closes life tenant e = cc

module _ (config : Config) (cluster : Gates Hosted) where
  abbrev Did : HostedSeat → List SlotCallThere → HostedSeat → Type 0
  Did old calls new = DoesAllThere config cluster old (map Hosts calls) new

  did_both : (calls later : List SlotCallThere) (old mid new : HostedSeat) → Did old calls mid → Did mid later new → Did old (calls ++ later) new
  did_both calls later old mid new first second = subst (λ ds. DoesAllThere config cluster old ds new) (sym (map-append Hosts calls later)) (does_both config cluster (map Hosts calls) (map Hosts later) old mid new first second)

  call_to : ℕ → SlotCall → ℕ → SlotReply → SlotCallThere
  call_to slot call number reply = record { node = number; entry = slot_entry slot 0 call reply }

  -- ---- one admission

  -- the host asks nodes below this number for the life, each at most once
  record Asked (slot life : ℕ) (tenant : Tenant) (bound : ℕ) (old new : HostedSeat) : Type 0 where
    pub calls : List SlotCallThere
    pub did : Did old calls new
    pub are : AllByRecursion (λ (c : SlotCallThere). (c.entry.call ≡ Admit life tenant) × (c.entry.slot ≡ slot) × (c.node < bound)) calls
    pub once : (node at its : ℕ) → AtMostOnce (AsksThere node at its) calls

  asked_more : (slot life : ℕ) (tenant : Tenant) (bound : ℕ) (reply : SlotReply) (old mid new : HostedSeat) → Asked slot life tenant bound old mid → IsHostCall cluster slot (Admit life tenant) bound reply mid new → Asked slot life tenant (suc bound) old new
  asked_more slot life tenant bound reply old mid new asked call =
      let one : List SlotCallThere = record { node = bound; entry = slot_entry slot 0 (Admit life tenant) reply } ∷ [] in
      record {
        calls = asked.calls ++ one;
        did = did_both asked.calls one old mid new asked.did (mid, seen_none mid, new, (refl, call), seen_none new);
        are = Every-append (λ (c : SlotCallThere). (c.entry.call ≡ Admit life tenant) × (c.entry.slot ≡ slot) × (c.node < suc bound)) asked.calls one
            (all_weaker (λ (c : SlotCallThere). (c.entry.call ≡ Admit life tenant) × (c.entry.slot ≡ slot) × (c.node < bound)) (λ (c : SlotCallThere). (c.entry.call ≡ Admit life tenant) × (c.entry.slot ≡ slot) × (c.node < suc bound)) asked.calls
            (λ c h. (h.0, h.1, let below : c.node < bound = h.2 in omega (arith, below))) asked.are) ((refl, refl, omega arith), tt);
        once = λ node at its. elim (bound == node) as (λ b. (bound == node) ≡ b → AtMostOnce (AsksThere node at its) (asked.calls ++ one)) [
          | true ↦ λ same.
              let is : bound ≡ node = (Decides-eqb bound node).0 same in
              once_last (AsksThere node at its) asked.calls one
              (all_weaker (λ (c : SlotCallThere). (c.entry.call ≡ Admit life tenant) × (c.entry.slot ≡ slot) × (c.node < bound)) (λ (c : SlotCallThere). AsksThere node at its c → ⊥) asked.calls
              (λ c h asks. let below : c.node < bound = h.2 in let there : c.node ≡ node = asks.0 in omega (arith, is, below, there)) asked.are) ((λ asks. tt), tt)
          | false ↦ λ apart.
              once_first (AsksThere node at its) asked.calls one (asked.once node at its) ((λ asks. let there : (bound == node) ≡ true = (Decides-eqb bound node).1 asks.0 in cc), tt)
        ] refl;
      }

  asked_first : (slot life : ℕ) (tenant : Tenant) (Is : SlotReply → Type 0) (bound : ℕ) (old new : HostedSeat) → CallsFirst cluster slot (Admit life tenant) Is bound old new → Asked slot life tenant bound old new
  asked_first slot life tenant Is zero old new same = record { calls = []; did = seen_same old new same; are = tt; once = λ node at its. tt }
  asked_first slot life tenant Is (suc bound) old new (between, reply, earlier, call, so) =
      asked_more slot life tenant bound reply old between new (asked_first slot life tenant Is bound old between earlier) call

  -- ---- closes

  record ClosesOnly (old new : HostedSeat) : Type 0 where
    pub calls : List SlotCallThere
    pub did : Did old calls new
    pub are : AllByRecursion (λ (c : SlotCallThere). c.entry.call ≡ Close) calls

  closed_first : (slot : ℕ) (Is : SlotReply → Type 0) (bound : ℕ) (old new : HostedSeat) → CallsFirst cluster slot Close Is bound old new → ClosesOnly old new
  closed_first slot Is zero old new same = record { calls = []; did = seen_same old new same; are = tt }
  closed_first slot Is (suc bound) old new (between, reply, earlier, call, so) =
      let rest = closed_first slot Is bound old between earlier in
      let one : List SlotCallThere = record { node = bound; entry = slot_entry slot 0 Close reply } ∷ [] in
      record {
        calls = rest.calls ++ one;
        did = did_both rest.calls one old between new rest.did (between, seen_none between, new, (refl, call), seen_none new);
        are = Every-append (λ (c : SlotCallThere). c.entry.call ≡ Close) rest.calls one rest.are (refl, tt);
      }

  -- ---- lines

  -- The host's calls while its next life goes from one number to another: each life is asked for at most once at a node
  pub record HostDid (lower upper : ℕ) (old new : HostedSeat) : Type 0 where
    pub calls : List SlotCallThere
    pub did : Did old calls new
    pub rises : lower ≤ upper
    pub asked : AllByRecursion (IsAskedFrom lower upper) calls
    pub once : (node slot life : ℕ) → AtMostOnce (AsksThere node slot life) calls

  host_stays : (number other : ℕ) (old new : HostedSeat) → other ≡ number → new ≡ old → HostDid number other old new
  host_stays number other old new is same = record { calls = []; did = seen_same old new same; rises = omega (arith, is); asked = tt; once = λ node slot life. tt }

  host_both : (lower mid upper : ℕ) (old between new : HostedSeat) → HostDid lower mid old between → HostDid mid upper between new → HostDid lower upper old new
  host_both lower mid upper old between new first second = record {
    calls = first.calls ++ second.calls;
    did = did_both first.calls second.calls old between new first.did second.did;
    rises = let one = first.rises in let two = second.rises in omega (arith, one, two);
    asked = Every-append (IsAskedFrom lower upper) first.calls second.calls
        (all_weaker (IsAskedFrom lower mid) (IsAskedFrom lower upper) first.calls
        (λ c from life tenant is. let r = from life tenant is in (r.0, let below : life < mid = r.1 in let two = second.rises in omega (arith, below, two))) first.asked)
        (all_weaker (IsAskedFrom mid upper) (IsAskedFrom lower upper) second.calls
        (λ c from life tenant is. let r = from life tenant is in (let above : mid ≤ life = r.0 in let one = first.rises in omega (arith, above, one), r.1)) second.asked);
    once = λ node slot life. elim (leb_tells mid life) [
      | inl past ↦
          let above : mid ≤ life = past.1 in
          once_last (AsksThere node slot life) first.calls second.calls
          (all_weaker (IsAskedFrom lower mid) (λ (c : SlotCallThere). AsksThere node slot life c → ⊥) first.calls
          (λ c from asks. let below : life < mid = (from life asks.1.1 asks.1.2).1 in omega (arith, above, below)) first.asked) (second.once node slot life)
      | inr within ↦
          let below : life < mid = within.1 in
          once_first (AsksThere node slot life) first.calls second.calls (first.once node slot life)
          (all_weaker (IsAskedFrom mid upper) (λ (c : SlotCallThere). AsksThere node slot life c → ⊥) second.calls
          (λ c from asks. let above : mid ≤ life = (from life asks.1.1 asks.1.2).0 in omega (arith, above, below)) second.asked)
    ];
  }

  -- one admission, and perhaps closes after it
  host_asked : (slot life : ℕ) (tenant : Tenant) (bound lower upper : ℕ) (old mid new : HostedSeat) → life ≡ lower → upper ≡ suc life → Asked slot life tenant bound old mid → ClosesOnly mid new → HostDid lower upper old new
  host_asked slot life tenant bound lower upper old mid new first is asked closes = record {
    calls = asked.calls ++ closes.calls;
    did = did_both asked.calls closes.calls old mid new asked.did closes.did;
    rises = omega (arith, first, is);
    asked = Every-append (IsAskedFrom lower upper) asked.calls closes.calls
        (all_weaker (λ (c : SlotCallThere). (c.entry.call ≡ Admit life tenant) × (c.entry.slot ≡ slot) × (c.node < bound)) (IsAskedFrom lower upper) asked.calls
        (λ c h other another asks. let same : life ≡ other = same_life life other tenant another (sym h.0 ∙ asks) in (omega (arith, same, first), omega (arith, same, is))) asked.are)
        (all_weaker (λ (c : SlotCallThere). c.entry.call ≡ Close) (IsAskedFrom lower upper) closes.calls (λ c h other another asks. absurd (never_closes other another (sym h ∙ asks))) closes.are);
    once = λ node at its. once_first (AsksThere node at its) asked.calls closes.calls (asked.once node at its)
        (all_weaker (λ (c : SlotCallThere). c.entry.call ≡ Close) (λ (c : SlotCallThere). AsksThere node at its c → ⊥) closes.calls (λ c h asks. never_closes its asks.1.1 (sym h ∙ asks.1.2)) closes.are);
  }

  no_close : (seat : HostedSeat) → ClosesOnly seat seat
  no_close seat = record { calls = []; did = seen_none seat; are = tt }

  host_closed : (number other : ℕ) (old new : HostedSeat) → other ≡ number → ClosesOnly old new → HostDid number other old new
  host_closed number other old new is closes = record {
    calls = closes.calls;
    did = closes.did;
    rises = omega (arith, is);
    asked = all_weaker (λ (c : SlotCallThere). c.entry.call ≡ Close) (IsAskedFrom number other) closes.calls (λ c h life tenant asks. absurd (never_closes life tenant (sym h ∙ asks))) closes.are;
    once = λ node slot life. once_none (AsksThere node slot life) closes.calls
        (all_weaker (λ (c : SlotCallThere). c.entry.call ≡ Close) (λ (c : SlotCallThere). AsksThere node slot life c → ⊥) closes.calls (λ c h asks. never_closes life asks.1.1 (sym h ∙ asks.1.2)) closes.are);
  }

  next_is : (next life : ℕ) → next ≡ life + 1 → next ≡ suc life
  next_is next life is = omega (arith, is)

  not_kept : (roster : Roster) (tenant : Tenant) (error : RequestError) (old new : HostedSeat) (next : ℕ) → next ≡ roster.next + 1 → IsNotKept cluster roster tenant error old new → HostDid roster.next next old new
  not_kept roster tenant error old new next is (inl t) =
      host_asked _ roster.next tenant (suc t.refuser) roster.next next old t.refused new refl (next_is next roster.next is)
      (asked_more _ roster.next tenant t.refuser (told_at_slot t.answer) old t.tried t.refused (asked_first _ roster.next tenant _ t.refuser old t.tried t.admitted) t.refuses) (closed_first _ _ t.refuser t.refused new t.closed)
  not_kept roster tenant error old new next is (inr (lack, between, admitted, closed)) =
      host_asked _ roster.next tenant _ roster.next next old between new refl (next_is next roster.next is) (asked_first _ roster.next tenant _ _ old between admitted) (closed_first _ _ _ between new closed)

  not_admitted : (roster : Roster) (tenant : Tenant) (error : RequestError) (old new : HostedSeat) (next : ℕ) → IsNotAdmitted cluster roster tenant error old new next → HostDid roster.next next old new
  not_admitted roster tenant error old new next (inl (refused, same, stays)) = host_stays roster.next next old new stays same
  not_admitted roster tenant error old new next (inr (may, kept, is)) = not_kept roster tenant error old new next is kept

  admission : (tenant : Tenant) (roster : Roster) (old : HostedSeat) (reply : HostReply) (after : Roster) (new : HostedSeat) → IsAdmissionTold cluster tenant roster old reply after new → HostDid roster.next after.next old new
  admission tenant roster old (Admitted name) after new (name_is, life, begins, admitted) =
      host_asked life.slot life.number tenant _ roster.next after.next old new new begins.number (next_is after.next life.number (begins.next ∙ ap (λ n. n + 1) (sym begins.number)))
      (asked_first life.slot life.number tenant _ _ old new admitted) (no_close new)
  admission tenant roster old (Denied fault) after new (error, fault_is, not_so, tenants, lives) = not_admitted roster tenant error old new after.next not_so
  admission tenant roster old (Closed name) after new h = absurd h

  closing : (name : List ℕ) (found : Option ℕ) (roster : Roster) (old : HostedSeat) (reply : HostReply) (after : Roster) (new : HostedSeat) → IsCloseTold cluster name found roster old reply after new → HostDid roster.next after.next old new
  closing name None roster old reply after new (reply_is, stays, same) = host_stays roster.next after.next old new (ap (λ (r : Roster). r.next) stays) same
  closing name (Some slot) roster old reply after new (reply_is, tenants, lives, next, closed) = host_closed roster.next after.next old new next (closed_first slot _ _ old new closed)

  abbrev LineDid : Hosting → Hosting → Type 0
  LineDid old new = HostDid old.roster.next new.roster.next old.seat new.seat

  line_stays : (old new : Hosting) → new ≡ old → LineDid old new
  line_stays old new same = host_stays old.roster.next new.roster.next old.seat new.seat (ap (λ (h : Hosting). h.roster.next) same) (ap (λ (h : Hosting). h.seat) same)

  tenant_line : (tenant : Tenant) (old : Hosting) (reply : HostReply) (new : Hosting) → IsTenantLineTold cluster tenant old reply new → LineDid old new
  tenant_line tenant old reply new (inl (fits, h)) = admission tenant old.roster old.seat reply new.roster new.seat h
  tenant_line tenant old reply new (inr (past, reply_is, same)) = line_stays old new same

  followed : (said : HostLine) (old : Hosting) (answer : Option HostReply) (new : Hosting) → IsLineTold cluster said old answer new → LineDid old new
  followed (line.Admit tenant) old None new h = absurd h
  followed (line.Admit tenant) old (Some reply) new h = tenant_line tenant old reply new h
  followed (line.Close name) old None new h = absurd h
  followed (line.Close name) old (Some reply) new h = closing name (open_slot_of_name old.roster.tenants name) old.roster old.seat reply new.roster new.seat h
  followed line.Unknown old answer new (told_is, same) = line_stays old new same
  followed line.End old answer new (told_is, same) = line_stays old new same

  abbrev pub Line : Hosting → Hosting → Type 0
  Line = FollowsSomeLine cluster

  pub all_followed : (count : ℕ) (old new : Hosting) → Repeats Line count old new → LineDid old new
  all_followed zero old new same = line_stays old new same
  all_followed (suc count) old new (between, earlier, (said, follows)) =
      host_both old.roster.next between.roster.next new.roster.next old.seat between.seat new.seat (all_followed count old between earlier) (followed said between follows.told new follows.is_told)

  -- ---- the tenant of a life

  -- all calls for the life are for this tenant
  abbrev pub AreForTenant : Tenant → ℕ → List SlotCallThere → Type 0
  AreForTenant tenant life calls = AllByRecursion (IsForTenant tenant life) calls

  -- it is asked for in none of these
  not_asked : (lower upper life : ℕ) (tenant : Tenant) (old new : HostedSeat) (h : HostDid lower upper old new) → (life < lower) ⊎ (upper ≤ life) → AreForTenant tenant life h.calls
  not_asked lower upper life tenant old new h apart = all_weaker (IsAskedFrom lower upper) (IsForTenant tenant life) h.calls (λ c from other asks.
      let r = from life other asks in
      let above : lower ≤ life = r.0 in
      let below : life < upper = r.1 in
      elim apart [
        | inl earlier ↦ absurd (omega (arith, earlier, above))
        | inr later ↦ absurd (omega (arith, later, below))
      ]) h.asked

  asked_for : (slot life : ℕ) (tenant : Tenant) (bound : ℕ) (old new : HostedSeat) (asked : Asked slot life tenant bound old new) (its : ℕ) → AreForTenant tenant its asked.calls
  asked_for slot life tenant bound old new asked its =
      all_weaker (λ (c : SlotCallThere). (c.entry.call ≡ Admit life tenant) × (c.entry.slot ≡ slot) × (c.node < bound)) (IsForTenant tenant its) asked.calls
      (λ c h other asks. sym (same_tenant life its tenant other (sym h.0 ∙ asks))) asked.are

  closed_for : (old new : HostedSeat) (closes : ClosesOnly old new) (tenant : Tenant) (its : ℕ) → AreForTenant tenant its closes.calls
  closed_for old new closes tenant its =
      all_weaker (λ (c : SlotCallThere). c.entry.call ≡ Close) (IsForTenant tenant its) closes.calls (λ c h other asks. absurd (never_closes its other (sym h ∙ asks))) closes.are

  host_asked_for : (slot life : ℕ) (tenant : Tenant) (bound lower upper : ℕ) (old mid new : HostedSeat) (first : life ≡ lower) (is : upper ≡ suc life) (asked : Asked slot life tenant bound old mid) (closes : ClosesOnly mid new) (its : ℕ) →
      AreForTenant tenant its (host_asked slot life tenant bound lower upper old mid new first is asked closes).calls
  unfolding host_asked
  host_asked_for slot life tenant bound lower upper old mid new first is asked closes its =
      Every-append (IsForTenant tenant its) asked.calls closes.calls (asked_for slot life tenant bound old mid asked its) (closed_for mid new closes tenant its)

  not_kept_for : (roster : Roster) (tenant : Tenant) (error : RequestError) (old new : HostedSeat) (next : ℕ) (is : next ≡ roster.next + 1) (h : IsNotKept cluster roster tenant error old new) (its : ℕ) → AreForTenant tenant its (not_kept roster tenant error old new next is h).calls
  unfolding not_kept
  not_kept_for roster tenant error old new next is (inl t) its = host_asked_for _ roster.next tenant (suc t.refuser) roster.next next old t.refused new refl (next_is next roster.next is) _ _ its
  not_kept_for roster tenant error old new next is (inr (lack, between, admitted, closed)) its = host_asked_for _ roster.next tenant _ roster.next next old between new refl (next_is next roster.next is) _ _ its

  not_admitted_for : (roster : Roster) (tenant : Tenant) (error : RequestError) (old new : HostedSeat) (next : ℕ) (h : IsNotAdmitted cluster roster tenant error old new next) (its : ℕ) → AreForTenant tenant its (not_admitted roster tenant error old new next h).calls
  unfolding not_admitted host_stays
  not_admitted_for roster tenant error old new next (inl (refused, same, stays)) its = tt
  not_admitted_for roster tenant error old new next (inr (may, kept, is)) its = not_kept_for roster tenant error old new next is kept its

  admission_for : (tenant : Tenant) (roster : Roster) (old : HostedSeat) (reply : HostReply) (after : Roster) (new : HostedSeat) (h : IsAdmissionTold cluster tenant roster old reply after new) (its : ℕ) → AreForTenant tenant its (admission tenant roster old reply after new h).calls
  unfolding admission
  admission_for tenant roster old (Admitted name) after new (name_is, life, begins, admitted) its = host_asked_for life.slot life.number tenant _ roster.next after.next old new new begins.number _ _ (no_close new) its
  admission_for tenant roster old (Denied fault) after new (error, fault_is, not_so, tenants, lives) its = not_admitted_for roster tenant error old new after.next not_so its
  admission_for tenant roster old (Closed name) after new h its = absurd h

  tenant_line_for : (tenant : Tenant) (old : Hosting) (reply : HostReply) (new : Hosting) (h : IsTenantLineTold cluster tenant old reply new) (its : ℕ) → AreForTenant tenant its (tenant_line tenant old reply new h).calls
  unfolding tenant_line line_stays host_stays
  tenant_line_for tenant old reply new (inl (fits, h)) its = admission_for tenant old.roster old.seat reply new.roster new.seat h its
  tenant_line_for tenant old reply new (inr (past, reply_is, same)) its = tt

  same_asked : (tenant other : Tenant) → line.Admit tenant ≡ line.Admit other → tenant ≡ other
  same_asked tenant other e = cc

  -- a line that asks for a tenant asks for no other
  line_for : (said : HostLine) (old : Hosting) (answer : Option HostReply) (new : Hosting) (h : IsLineTold cluster said old answer new) (tenant : Tenant) (its : ℕ) → said ≡ line.Admit tenant → AreForTenant tenant its (followed said old answer new h).calls
  unfolding followed
  line_for (line.Admit other) old None new h tenant its is = absurd h
  line_for (line.Admit other) old (Some reply) new h tenant its is = subst (λ t. AreForTenant t its (tenant_line other old reply new h).calls) (same_asked other tenant is) (tenant_line_for other old reply new h its)
  line_for (line.Close name) old answer new h tenant its is = cc
  line_for line.Unknown old answer new h tenant its is = cc
  line_for line.End old answer new h tenant its is = cc

  -- an admission takes a number
  admits_more : (said : HostLine) (old : Hosting) (answer : Option HostReply) (new : Hosting) → IsLineTold cluster said old answer new → (tenant : Tenant) (name : List ℕ) → said ≡ line.Admit tenant → answer ≡ Some (Admitted name) → old.roster.next < new.roster.next
  admits_more (line.Admit other) old None new h tenant name is told_is = absurd h
  admits_more (line.Admit other) old (Some reply) new (inr (past, reply_is, same)) tenant name is told_is = cc
  admits_more (line.Admit other) old (Some (Admitted its)) new (inl (fits, (name_is, life, begins, admitted))) tenant name is told_is = let next = begins.next in omega (arith, next)
  admits_more (line.Admit other) old (Some (Denied fault)) new (inl h) tenant name is told_is = cc
  admits_more (line.Admit other) old (Some (Closed its)) new (inl h) tenant name is told_is = cc
  admits_more (line.Close its) old answer new h tenant name is told_is = cc
  admits_more line.Unknown old answer new h tenant name is told_is = cc
  admits_more line.End old answer new h tenant name is told_is = cc

  -- The life that began is the tenant's, and no later one has its number
  pub record IsLivesOwn (tenant : Tenant) (life : ℕ) (old new : Hosting) (calls : List SlotCallThere) : Type 0 where
    pub own : AreForTenant tenant life calls
    pub below : life < new.roster.next
    pub above : old.roster.next ≤ life

  pub began_own : (tenant : Tenant) (slot life count : ℕ) (old new : Hosting) (steps : Repeats Line count old new) → BeganIn cluster tenant slot life count old new steps → IsLivesOwn tenant life old new (all_followed count old new steps).calls
  unfolding all_followed host_both
  began_own tenant slot life zero old new same began = absurd began
  began_own tenant slot life (suc count) old new (between, earlier, (said, follows)) (inl began) =
      let before = all_followed count old between earlier in
      let one = followed said between follows.told new follows.is_told in
      let known = began_own tenant slot life count old between earlier began in
      record {
        own = Every-append (IsForTenant tenant life) before.calls one.calls known.own (not_asked between.roster.next new.roster.next life tenant between.seat new.seat one (inl known.below));
        below = let low = known.below in let rises = one.rises in omega (arith, low, rises);
        above = known.above;
      }
  began_own tenant slot life (suc count) old new (between, earlier, (said, follows)) (inr admits) =
      let before = all_followed count old between earlier in
      let one = followed said between follows.told new follows.is_told in
      let is : life ≡ between.roster.next = admits.life_is in
      let more : between.roster.next < new.roster.next = admits_more said between follows.told new follows.is_told tenant tenant.name admits.asked admits.told in
      record {
        own = Every-append (IsForTenant tenant life) before.calls one.calls (not_asked old.roster.next between.roster.next life tenant old.seat between.seat before (inr (omega (arith, is)))) (line_for said between follows.told new follows.is_told tenant life admits.asked);
        below = omega (arith, is, more);
        above = let rises = before.rises in omega (arith, is, rises);
      }

-- ---- as deeds

pub hosts_alone : (calls : List SlotCallThere) → calls_of_host (map Hosts calls) ≡ calls
hosts_alone [] = refl
hosts_alone (c ∷ calls) = ap (λ cs. c ∷ cs) (hosts_alone calls)

pub hosts_behave : (config : Config) (tenant : Tenant) (slot life : ℕ) (calls : List SlotCallThere) → AllByRecursion (BehavesAs config tenant slot life) (map Hosts calls)
hosts_behave config tenant slot life [] = tt
hosts_behave config tenant slot life (c ∷ calls) = (tt, hosts_behave config tenant slot life calls)
