-- What a transaction reads in both rounds: no older than a given past, and then as new as its reads want.
use Rattle.std.proofs.Common.{◌≡◌, ℕ, ◌+◌, ◌≤◌, Bool, true, false, cond, List, [], ◌∷◌, ◌++◌, map, length, drop, ◌⊎◌, inl, inr, refl, sym, ◌∙◌, ap, subst, arith, length-append, true≢false}
use Rattle.std.specs.Prelude.{Option, Some, None, find, nat_lt, slice_get, unwrap_or}
use Rattle.std.specs.Option.{option_or}
use Rattle.std.proofs.lemmas.List.{length-map, length-drop}
use Rattle.cops_types.specs.declared.contexts.ReadParts.{ReadParts as Read}
use Rattle.cops_types.specs.declared.pairs.Pair.{Pair}
use Rattle.cops_types.specs.Key.{key_eq}
use Rattle.cops_types.specs.TenantConfig.{TenantConfig}
use Rattle.cops_types.specs.Version.{Timestamp, version_lt, version_le}
use Rattle.cops_types.proofs.VersionOrder.{version_le-refl, version_lt-false}
use Rattle.cops_model.specs.declared.calls.NodeCall.TheVariants.{Get}
use Rattle.cops_model.specs.declared.calls.NodeReply.{NodeReply}
use Rattle.cops_model.specs.declared.calls.Wanted.{Wanted}
use Rattle.cops_model.specs.declared.calls.Wanted.TheVariants.{Latest, Exactly}
use Rattle.cops_model.specs.Log.{fault_in, first_fault}
use Rattle.cops_model.specs.Transaction.{ReadRequest, gets, first_round, second_round, wanted_version, outdated, read_of, reads_of, last_read}
use Rattle.cops_types.proofs.KeyTests.{key_eq-true, key_eq-refl}
use Rattle.cops_session.proofs.DistinctKeys.{IsDistinct, key-read_of, one_read}
use Rattle.cops_types.proofs.Elements.{Among, Among-find, filter-Among}
use Rattle.cops_node.proofs.NodeTurns.{IsRefusal}
use Rattle.cops_session.proofs.RequestReplies.{call_of, slice_get-none}
use Rattle.cops_types.proofs.Zipped.{Zipped, Zipped-left, Zipped-right}
use Rattle.cops_session.proofs.ReplyRounds.{length-first_round}
use Rattle.cops_session.proofs.WantedVersions.{asked_exactly, outdated-is}

-- the read of a latest version is no older than the past, that of an exact version is this one
abbrev pub IsFreshAs : List Pair → List ℕ → Wanted → NodeReply → Type 0
IsFreshAs past key Latest reply = (p : Pair) → Among p past → p.key ≡ key → version_le p.version (read_of key reply).version ≡ true
IsFreshAs past key (Exactly version) reply = (read_of key reply).version ≡ version

abbrev pub IsAnswered : List Pair → ReadRequest → NodeReply → Type 0
IsAnswered past q reply = IsFreshAs past q.key q.wanted reply

-- or the call was refused
abbrev pub IsFresh : List Pair → ReadRequest → NodeReply → Type 0
IsFresh past q reply = IsRefusal reply ⊎ IsAnswered past q reply

or_none : {A : Type 0} (a b : Option A) → option_or a b ≡ None → (a ≡ None) × (b ≡ None)
or_none None b e = (refl, e)
or_none (Some x) b e = cc

-- without a fault there is no refusal
pub none_refused : (config : TenantConfig) (dc : ℕ) (past : List Pair) (asked : List ReadRequest) (rs : List NodeReply) → Zipped (IsFresh past) asked rs → first_fault (map (call_of config dc) asked) rs ≡ None → Zipped (IsAnswered past) asked rs
none_refused config dc past [] rs z none = tt
none_refused config dc past (q ∷ asked) [] z none = tt
none_refused config dc past (q ∷ asked) (r ∷ rs) z none =
    let both = or_none (fault_in (Get q.key q.wanted) r) (first_fault (map (call_of config dc) asked) rs) none in (
      elim z.0 [
        | inl refused ↦ absurd (let never : Some refused.0 ≡ None = sym (ap (fault_in (Get q.key q.wanted)) refused.1) ∙ both.0 in cc)
        | inr is ↦ is
      ],
      none_refused config dc past asked rs z.1 both.1,
    )

-- no version of the key in the past is above this one
abbrev pub IsAboveAll : List Pair → List ℕ → Timestamp → Type 0
IsAboveAll past key version = (p : Pair) → Among p past → p.key ≡ key → version_le p.version version ≡ true

first_above : (past : List Pair) (keys : List (List ℕ)) (rs : List NodeReply) → Zipped (IsAnswered past) (first_round keys) rs → (read : Read) → Among read (reads_of keys rs) → IsAboveAll past read.key read.version
first_above past [] rs z read there = absurd there
first_above past (key ∷ keys) [] z read there = absurd there
first_above past (key ∷ keys) (r ∷ rs) z read (inl e) = subst (λ (x : Read). IsAboveAll past x.key x.version) e (λ p at same. z.0 p at (same ∙ key-read_of key r))
first_above past (key ∷ keys) (r ∷ rs) z read (inr later) = first_above past keys rs z.1 read later

-- a later read is of the wanted version of an outdated one
later_is : (past : List Pair) (all outs : List Read) (rs : List NodeReply) → Zipped (IsAnswered past) (map (asked_exactly all) outs) rs → (x : Read) → Among x (reads_of (map (λ (read : Read). read.key) outs) rs) →
    (o : Read) × Among o outs × (x.key ≡ o.key) × (x.version ≡ wanted_version all o)
later_is past all [] rs z x there = absurd there
later_is past all (o ∷ outs) [] z x there = absurd there
later_is past all (o ∷ outs) (r ∷ rs) z x (inl e) = (o, inl refl, sym (ap (λ (y : Read). y.key) e) ∙ key-read_of o.key r, sym (ap (λ (y : Read). y.version) e) ∙ z.0)
later_is past all (o ∷ outs) (r ∷ rs) z x (inr later) = let found = later_is past all outs rs z.1 x later in (found.0, inr found.1, found.2, found.3)

-- with enough replies there is a later read for each outdated one
later_has : (outs : List Read) (rs : List NodeReply) → length outs ≤ length rs → (o : Read) → Among o outs → (x : Read) × Among x (reads_of (map (λ (read : Read). read.key) outs) rs) × (x.key ≡ o.key)
later_has [] rs enough o there = absurd there
later_has (out ∷ outs) [] enough o there = absurd (omega arith)
later_has (out ∷ outs) (r ∷ rs) enough o (inl e) = (read_of out.key r, inl refl, key-read_of out.key r ∙ ap (λ (y : Read). y.key) e)
later_has (out ∷ outs) (r ∷ rs) enough o (inr later) = let found = later_has outs rs (omega arith) o later in (found.0, inr found.1, found.2)

find_none : {A : Type 0} (test : A → Bool) (xs : List A) → find test xs ≡ None → (x : A) → Among x xs → test x ≡ true → ⊥
find_none test [] none x there is = absurd there
find_none test (y ∷ xs) none x there is =
    elim (test y) as (λ b. test y ≡ b → cond b (Some y) (find test xs) ≡ None → ⊥) [
      | true ↦ λ passes e. cc
      | false ↦ λ fails e. elim there [
        | inl same ↦ true≢false (sym is ∙ ap test (sym same) ∙ fails)
        | inr later ↦ find_none test xs e x later is
      ]
    ] refl none

-- the replies of a transaction that ends
module _ (config : TenantConfig) (dc : ℕ) (past : List Pair) (keys : List (List ℕ)) (rs : List NodeReply) (distinct : IsDistinct keys) (done : nat_lt (length rs) (length keys) ≡ false)
    (fresh : Zipped (IsFresh past) (gets keys rs) rs) (no_fault : first_fault (map (call_of config dc) (gets keys rs)) rs ≡ None) (all : slice_get (map (call_of config dc) (gets keys rs)) (length rs) ≡ None) where
  abbrev pub firsts : List Read
  firsts = reads_of keys rs

  abbrev pub outs : List Read
  outs = outdated firsts

  abbrev pub laters : List Read
  laters = reads_of (map (λ (read : Read). read.key) outs) (drop (length keys) rs)

  gets-are : gets keys rs ≡ first_round keys ++ second_round firsts
  gets-are = ap (λ b. cond b (first_round keys) (first_round keys ++ second_round firsts)) done

  answered : Zipped (IsAnswered past) (first_round keys ++ second_round firsts) rs
  answered = subst (λ asked. Zipped (IsAnswered past) asked rs) gets-are (none_refused config dc past (gets keys rs) rs fresh no_fault)

  pub first-above : (read : Read) → Among read firsts → IsAboveAll past read.key read.version
  first-above read there = first_above past keys rs (Zipped-left (IsAnswered past) (first_round keys) (second_round firsts) rs answered) read there

  second : Zipped (IsAnswered past) (map (asked_exactly firsts) outs) (drop (length keys) rs)
  second = subst (λ n. Zipped (IsAnswered past) (second_round firsts) (drop n rs)) (length-first_round keys) (Zipped-right (IsAnswered past) (first_round keys) (second_round firsts) rs answered)

  enough : length outs ≤ length (drop (length keys) rs)
  enough =
      let none = slice_get-none (map (call_of config dc) (gets keys rs)) (length rs) all in
      let calls : length (map (call_of config dc) (gets keys rs)) ≡ length (gets keys rs) = length-map (gets keys rs) (call_of config dc) in
      let asked : length (gets keys rs) ≡ length (first_round keys) + length (second_round firsts) = ap length gets-are ∙ length-append (first_round keys) (second_round firsts) in
      let firsts_asked : length (first_round keys) ≡ length keys = length-first_round keys in
      let seconds_asked : length (second_round firsts) ≡ length outs = length-map outs (asked_exactly firsts) in
      let left = length-drop (length keys) rs in
      omega arith

  -- the last read of a key: the first, or the one that was wanted of it; and no older than that
  pub record IsLast (r f : Read) : Type 0 where
    pub key_is : f.key ≡ r.key
    pub new : version_le (wanted_version firsts r) f.version ≡ true
    pub from : (f ≡ r) ⊎ (version_lt r.version (wanted_version firsts r) ≡ true) × (f.version ≡ wanted_version firsts r)

  pub last-is : (r : Read) → Among r firsts → IsLast r (last_read laters r)
  last-is r at_r = by_found (find (λ (x : Read). key_eq x.key r.key) laters) refl
    where
      by_older : (b : Bool) → version_lt r.version (wanted_version firsts r) ≡ b → find (λ (x : Read). key_eq x.key r.key) laters ≡ None → IsLast r r
      by_older true older none =
          let there = later_has outs (drop (length keys) rs) enough r (filter-Among (λ read. version_lt read.version (wanted_version firsts read)) r firsts at_r older) in
          absurd (find_none (λ (x : Read). key_eq x.key r.key) laters none there.0 there.1 (ap (λ k. key_eq k r.key) there.2 ∙ key_eq-refl r.key))
      by_older false current none = record { key_is = refl; new = version_lt-false r.version (wanted_version firsts r) current; from = inl refl }

      by_found : (found : Option Read) → find (λ (x : Read). key_eq x.key r.key) laters ≡ found → IsLast r (unwrap_or found r)
      by_found None is = by_older (version_lt r.version (wanted_version firsts r)) refl is
      by_found (Some x) is =
          let there = Among-find (λ (x : Read). key_eq x.key r.key) x laters is in
          let key_is : x.key ≡ r.key = key_eq-true x.key r.key there.1 in
          let of = later_is past firsts outs (drop (length keys) rs) second x there.0 in
          let o = of.0 in
          let was = outdated-is firsts o of.1 in
          let same : o ≡ r = one_read keys rs distinct o r was.0 at_r (sym of.2 ∙ key_is) in
          let version_is : x.version ≡ wanted_version firsts r = of.3 ∙ ap (wanted_version firsts) same in
          record {
            key_is = key_is;
            new = subst (λ v. version_le (wanted_version firsts r) v ≡ true) (sym version_is) (version_le-refl (wanted_version firsts r));
            from = inr (subst (λ (y : Read). version_lt y.version (wanted_version firsts y) ≡ true) same was.1, version_is);
          }
