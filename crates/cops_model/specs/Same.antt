-- Tests for the equality of two calls or two replies.
use Rattle.std.specs.Prelude.{◌≡◌, ◌&&◌, ◌==◌, Bool, true, false, nat_eq, Some}
use Rattle.std.proofs.Common.{refl, sym, ap, ◌∙◌, true≢false}
use Rattle.std.specs.Cmp.{first_so, second_so}
use Rattle.std.specs.Cmp.Lexicographic.{pointwise}
use Rattle.std.proofs.lemmas.Bool.Decides.{Decides-eqb}
use Rattle.cops_types.specs.declared.faults.Fault.{Fault}
use Rattle.cops_types.specs.FaultText.{fault_number, fault_of_number}
use Rattle.cops_types.specs.Founds.{found_eq, same_founds}
use Rattle.cops_types.specs.Pairs.{pairs_eq}
use Rattle.cops_types.proofs.FaultLemmas.{fault_back}
use Rattle.cops_types.specs.Same.{TellsSame, both, entry_eq, same_bytes, same_versions, same_pairs, same_entries}
use Rattle.cops_types.specs.Version.{version_eq}
use Rattle.cops_model.specs.declared.calls.Wanted.{Wanted}
use Rattle.cops_model.specs.declared.calls.Wanted.TheVariants.{Latest, Exactly}
use Rattle.cops_model.specs.declared.calls.NodeCall.{NodeCall}
use Rattle.cops_model.specs.declared.calls.NodeCall.TheVariants.{Get, Put, DepCheck, Pull, Commit, Ack, Collect}
use Rattle.cops_model.specs.declared.calls.NodeReply.{NodeReply}
use Rattle.cops_model.specs.declared.calls.NodeReply.TheVariants.{Found, Absent, Gone, NotYet, Stored, Checked, Pulled, Nothing, Committed, Already, OutOfOrder, Acked, NotFront, Removed, Refused}

-- ---- numbers, answers and faults

same_numbers : TellsSame nat_eq
same_numbers = record { same = λ x y. (Decides-eqb x y).0; itself = λ x. (Decides-eqb x x).1 refl }

abbrev pub bool_eq : Bool → Bool → Bool
bool_eq true b = b
bool_eq false true = false
bool_eq false false = true

same_bools_from : (x y : Bool) → bool_eq x y ≡ true → x ≡ y
same_bools_from true y h = sym h
same_bools_from false true h = absurd (true≢false (sym h))
same_bools_from false false h = refl

same_bools_itself : (x : Bool) → bool_eq x x ≡ true
same_bools_itself true = refl
same_bools_itself false = refl

same_bools : TellsSame bool_eq
same_bools = record { same = same_bools_from; itself = same_bools_itself }

abbrev pub fault_eq : Fault → Fault → Bool
fault_eq f g = fault_number f == fault_number g

same_faults : TellsSame fault_eq
same_faults = record {
  same = λ f g h.
      let number = (Decides-eqb (fault_number f) (fault_number g)).0 h in
      let found : Some f ≡ Some g = sym (fault_back f) ∙ ap fault_of_number number ∙ fault_back g in
      cc;
  itself = λ f. (Decides-eqb (fault_number f) (fault_number f)).1 refl;
}

-- ---- what is asked for

abbrev pub wanted_eq : Wanted → Wanted → Bool
wanted_eq Latest Latest = true
wanted_eq (Exactly version) (Exactly version') = version_eq version version'
wanted_eq wanted wanted' = false

same_wanted_from : (x y : Wanted) → wanted_eq x y ≡ true → x ≡ y
same_wanted_from Latest Latest h = refl
same_wanted_from (Exactly version) (Exactly version') h =
    let version_is = same_versions.same version version' h in
    (λ i. Exactly (version_is i))
same_wanted_from x y h = absurd (true≢false (sym h))

same_wanted_itself : (x : Wanted) → wanted_eq x x ≡ true
same_wanted_itself Latest = refl
same_wanted_itself (Exactly version) = same_versions.itself version

pub same_wanted : TellsSame wanted_eq
same_wanted = record { same = same_wanted_from; itself = same_wanted_itself }

-- ---- calls

abbrev pub call_eq : NodeCall → NodeCall → Bool
call_eq (Get key wanted) (Get key' wanted') = pointwise nat_eq key key' && wanted_eq wanted wanted'
call_eq (Put key value deps near) (Put key' value' deps' near') = pointwise nat_eq key key' && (pointwise nat_eq value value' && (pairs_eq deps deps' && pairs_eq near near'))
call_eq (DepCheck key version) (DepCheck key' version') = pointwise nat_eq key key' && version_eq version version'
call_eq (Pull dc) (Pull dc') = nat_eq dc dc'
call_eq (Commit entry) (Commit entry') = entry_eq entry entry'
call_eq (Ack dc version) (Ack dc' version') = nat_eq dc dc' && version_eq version version'
call_eq Collect Collect = true
call_eq call call' = false

same_calls_from : (x y : NodeCall) → call_eq x y ≡ true → x ≡ y
same_calls_from (Get key wanted) (Get key' wanted') h =
    let key_is = same_bytes.same key key' (first_so (pointwise nat_eq key key') (wanted_eq wanted wanted') h) in
    let h1 = second_so (pointwise nat_eq key key') (wanted_eq wanted wanted') h in
    let wanted_is = same_wanted.same wanted wanted' h1 in
    (λ i. Get (key_is i) (wanted_is i))
same_calls_from (Put key value deps near) (Put key' value' deps' near') h =
    let key_is = same_bytes.same key key' (first_so (pointwise nat_eq key key') (pointwise nat_eq value value' && (pairs_eq deps deps' && pairs_eq near near')) h) in
    let h1 = second_so (pointwise nat_eq key key') (pointwise nat_eq value value' && (pairs_eq deps deps' && pairs_eq near near')) h in
    let value_is = same_bytes.same value value' (first_so (pointwise nat_eq value value') (pairs_eq deps deps' && pairs_eq near near') h1) in
    let h2 = second_so (pointwise nat_eq value value') (pairs_eq deps deps' && pairs_eq near near') h1 in
    let deps_is = same_pairs.same deps deps' (first_so (pairs_eq deps deps') (pairs_eq near near') h2) in
    let h3 = second_so (pairs_eq deps deps') (pairs_eq near near') h2 in
    let near_is = same_pairs.same near near' h3 in
    (λ i. Put (key_is i) (value_is i) (deps_is i) (near_is i))
same_calls_from (DepCheck key version) (DepCheck key' version') h =
    let key_is = same_bytes.same key key' (first_so (pointwise nat_eq key key') (version_eq version version') h) in
    let h1 = second_so (pointwise nat_eq key key') (version_eq version version') h in
    let version_is = same_versions.same version version' h1 in
    (λ i. DepCheck (key_is i) (version_is i))
same_calls_from (Pull dc) (Pull dc') h =
    let dc_is = same_numbers.same dc dc' h in
    (λ i. Pull (dc_is i))
same_calls_from (Commit entry) (Commit entry') h =
    let entry_is = same_entries.same entry entry' h in
    (λ i. Commit (entry_is i))
same_calls_from (Ack dc version) (Ack dc' version') h =
    let dc_is = same_numbers.same dc dc' (first_so (nat_eq dc dc') (version_eq version version') h) in
    let h1 = second_so (nat_eq dc dc') (version_eq version version') h in
    let version_is = same_versions.same version version' h1 in
    (λ i. Ack (dc_is i) (version_is i))
same_calls_from Collect Collect h = refl
same_calls_from x y h = absurd (true≢false (sym h))

same_calls_itself : (x : NodeCall) → call_eq x x ≡ true
same_calls_itself (Get key wanted) = both (same_bytes.itself key) (same_wanted.itself wanted)
same_calls_itself (Put key value deps near) = both (same_bytes.itself key) (both (same_bytes.itself value) (both (same_pairs.itself deps) (same_pairs.itself near)))
same_calls_itself (DepCheck key version) = both (same_bytes.itself key) (same_versions.itself version)
same_calls_itself (Pull dc) = same_numbers.itself dc
same_calls_itself (Commit entry) = same_entries.itself entry
same_calls_itself (Ack dc version) = both (same_numbers.itself dc) (same_versions.itself version)
same_calls_itself Collect = refl

pub same_calls : TellsSame call_eq
same_calls = record { same = same_calls_from; itself = same_calls_itself }

-- ---- replies

abbrev pub reply_eq : NodeReply → NodeReply → Bool
reply_eq (Found f) (Found g) = found_eq f g
reply_eq Absent Absent = true
reply_eq (Gone now) (Gone now') = nat_eq now now'
reply_eq NotYet NotYet = true
reply_eq (Stored version) (Stored version') = version_eq version version'
reply_eq (Checked told) (Checked told') = bool_eq told told'
reply_eq (Pulled entry) (Pulled entry') = entry_eq entry entry'
reply_eq Nothing Nothing = true
reply_eq Committed Committed = true
reply_eq Already Already = true
reply_eq (OutOfOrder mark) (OutOfOrder mark') = version_eq mark mark'
reply_eq Acked Acked = true
reply_eq NotFront NotFront = true
reply_eq (Removed count) (Removed count') = nat_eq count count'
reply_eq (Refused fault) (Refused fault') = fault_eq fault fault'
reply_eq reply reply' = false

same_replies_from : (x y : NodeReply) → reply_eq x y ≡ true → x ≡ y
same_replies_from (Found f) (Found g) h =
    let found_is = same_founds.same f g h in
    (λ i. Found (found_is i))
same_replies_from Absent Absent h = refl
same_replies_from (Gone now) (Gone now') h =
    let now_is = same_numbers.same now now' h in
    (λ i. Gone (now_is i))
same_replies_from NotYet NotYet h = refl
same_replies_from (Stored version) (Stored version') h =
    let version_is = same_versions.same version version' h in
    (λ i. Stored (version_is i))
same_replies_from (Checked told) (Checked told') h =
    let told_is = same_bools.same told told' h in
    (λ i. Checked (told_is i))
same_replies_from (Pulled entry) (Pulled entry') h =
    let entry_is = same_entries.same entry entry' h in
    (λ i. Pulled (entry_is i))
same_replies_from Nothing Nothing h = refl
same_replies_from Committed Committed h = refl
same_replies_from Already Already h = refl
same_replies_from (OutOfOrder mark) (OutOfOrder mark') h =
    let mark_is = same_versions.same mark mark' h in
    (λ i. OutOfOrder (mark_is i))
same_replies_from Acked Acked h = refl
same_replies_from NotFront NotFront h = refl
same_replies_from (Removed count) (Removed count') h =
    let count_is = same_numbers.same count count' h in
    (λ i. Removed (count_is i))
same_replies_from (Refused fault) (Refused fault') h =
    let fault_is = same_faults.same fault fault' h in
    (λ i. Refused (fault_is i))
same_replies_from x y h = absurd (true≢false (sym h))

same_replies_itself : (x : NodeReply) → reply_eq x x ≡ true
same_replies_itself (Found f) = same_founds.itself f
same_replies_itself Absent = refl
same_replies_itself (Gone now) = same_numbers.itself now
same_replies_itself NotYet = refl
same_replies_itself (Stored version) = same_versions.itself version
same_replies_itself (Checked told) = same_bools.itself told
same_replies_itself (Pulled entry) = same_entries.itself entry
same_replies_itself Nothing = refl
same_replies_itself Committed = refl
same_replies_itself Already = refl
same_replies_itself (OutOfOrder mark) = same_versions.itself mark
same_replies_itself Acked = refl
same_replies_itself NotFront = refl
same_replies_itself (Removed count) = same_numbers.itself count
same_replies_itself (Refused fault) = same_faults.itself fault

pub same_replies : TellsSame reply_eq
same_replies = record { same = same_replies_from; itself = same_replies_itself }
