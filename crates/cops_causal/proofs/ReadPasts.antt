-- An answer is no older than what its transaction's past holds.
use Rattle.std.proofs.Common.{◌≡◌, ℕ, Bool, true, false, cond, List, [], ◌∷◌, map, length, inl, inr, refl, sym, ◌∙◌, ap, subst}
use Rattle.std.specs.Prelude.{Option, Some, None, is_some, nat_lt, slice_get}
use Rattle.cops_types.specs.declared.contexts.ReadParts.{ReadParts as Read}
use Rattle.cops_types.specs.declared.pairs.Pair.{Pair}
use Rattle.cops_types.specs.Key.{key_eq}
use Rattle.cops_types.specs.Pairs.{version_of}
use Rattle.cops_types.specs.TenantConfig.{TenantConfig}
use Rattle.cops_types.specs.Version.{Timestamp, version_le}
use Rattle.cops_types.proofs.PairLists.{version_of-greatest_per_key}
use Rattle.cops_types.proofs.VersionOrder.{version_le-refl, version_le-trans, version_max-left, version_max-right}
use Rattle.cops_model.specs.declared.calls.NodeReply.{NodeReply}
use Rattle.cops_model.specs.Log.{first_fault}
use Rattle.cops_model.specs.Transaction.{gets, wanted_version, last_read, final_reads}
use Rattle.cops_model.specs.Causal.{Traced, Operation, Returned, returned_by, past_after, past_of_put, is_not_older, answers_consistently}
use Rattle.cops_types.proofs.KeyTests.{key_eq-true}
use Rattle.cops_causal.proofs.ContextPasts.{IsRead}
use Rattle.cops_session.proofs.DistinctKeys.{IsDistinct, one_read}
use Rattle.cops_session.proofs.FreshReads.{IsFresh, IsLast, firsts, laters, first-above, last-is}
use Rattle.cops_causal.proofs.Histories.{pair_read, past_in, with_pasts, past_after-within, flat_map-Among, Among-flat_map}
use Rattle.cops_types.proofs.Elements.{Among, Among-cases, Every-at, all_true, map-Among}
use Rattle.cops_types.proofs.PairSets.{at, le-version_of, version_of-grows, greatest-within}
use Rattle.cops_causal.proofs.Provenance.{IsPut, IsFound, IsHistory, past-of-closed}
use Rattle.cops_causal.proofs.Readiness.{read_put}
use Rattle.cops_session.proofs.RequestReplies.{call_of}
use Rattle.cops_types.proofs.Zipped.{Zipped}
use Rattle.cops_session.proofs.ReplyRounds.{Every-first_reads}
use Rattle.cops_session.proofs.WantedVersions.{deps_read, wanted-among, IsBare, reads_bare}

-- the pair of a read that has a value
pub read_pair : (read : Read) (p : Pair) → Among p (pair_read read) → (p ≡ at read.key read.version) × (is_some read.value ≡ true)
read_pair read p there = by_value (is_some read.value) refl there
  where
    by_value : (b : Bool) → is_some read.value ≡ b → Among p (cond b (at read.key read.version ∷ []) []) → (p ≡ at read.key read.version) × (is_some read.value ≡ true)
    by_value true is there = elim there [ inl e ↦ (sym e, is) | inr never ↦ absurd never ]
    by_value false is there = absurd there

-- a read with a value is of a put, with its deps
pub valued_put : (ts : List Traced) (read : Read) → IsRead ts read → is_some read.value ≡ true → IsPut ts (at read.key read.version) read.deps
valued_put ts read is some = by_value read.key read.version read.deps read.value is some
  where
    by_value : (key : List ℕ) (version : Timestamp) (deps : List Pair) (value : Option (List ℕ)) → IsRead ts (record { key = key; value = value; version = version; deps = deps }) → is_some value ≡ true → IsPut ts (at key version) deps
    by_value key version deps None is some = cc
    by_value key version deps (Some value) is some = is

pub bare_none : (value : Option (List ℕ)) (deps : List Pair) (p : Pair) → IsBare value deps → Among p deps → is_some value ≡ true
bare_none None deps p bare there = absurd (subst (Among p) bare there)
bare_none (Some value) deps p bare there = refl

module _ (config : TenantConfig) (dc : ℕ) (ts : List Traced) (history : IsHistory ts) (name : List ℕ) (number : ℕ) (keys : List (List ℕ)) (rs : List NodeReply) (distinct : IsDistinct keys) (done : nat_lt (length rs) (length keys) ≡ false)
    (put : Zipped (IsFound ts) (gets keys rs) rs) (fresh : Zipped (IsFresh (past_in ts name number)) (gets keys rs) rs)
    (no_fault : first_fault (map (call_of config dc) (gets keys rs)) rs ≡ None) (all : slice_get (map (call_of config dc) (gets keys rs)) (length rs) ≡ None) where
  abbrev past : List Pair
  past = past_in ts name number

  abbrev reads : List Read
  reads = firsts config dc past keys rs distinct done fresh no_fault all

  abbrev last : Read → Read
  last r = last_read (laters config dc past keys rs distinct done fresh no_fault all) r

  abbrev IsLastOf : Read → Type 0
  IsLastOf r = IsLast config dc past keys rs distinct done fresh no_fault all r (last r)

  abbrev is_last : (r : Read) → Among r reads → IsLastOf r
  is_last = last-is config dc past keys rs distinct done fresh no_fault all

  abbrev wanted : Read → Timestamp
  wanted r = wanted_version reads r

  abbrev pair_of_read : Read → Pair
  pair_of_read r = at r.key r.version

  first_put : (r : Read) → Among r reads → is_some r.value ≡ true → IsPut ts (pair_of_read r) r.deps
  first_put r at_r some = valued_put ts r (Every-at (IsRead ts) r reads (Every-first_reads (IsFound ts) (IsRead ts) (read_put ts) keys rs put) at_r) some

  -- a pair that some first read depends on is in the past of what that read
  record IsBehind (q : Pair) : Type 0 where
    pub read : Read
    pub among : Among read reads
    pub valued : is_some read.value ≡ true
    pub before : Among q (past_of_put ts (pair_of_read read))

  dep_behind : (q : Pair) → Among q (deps_read reads) → IsBehind q
  dep_behind q there =
      let by = flat_map-Among (λ (r : Read). r.deps) reads q there in
      let r = by.0 in
      let valued = bare_none r.value r.deps q (Every-at (λ (read : Read). IsBare read.value read.deps) r reads (reads_bare keys rs) by.1) by.2 in
      record { read = r; among = by.1; valued = valued; before = greatest-within (past_of_put ts (pair_of_read r)) q (subst (Among q) (first_put r by.1 valued).deps_are by.2) }

  -- no version behind the reads is above the wanted one of its key
  behind_wanted : (q : Pair) → IsBehind q → (r : Read) → q.key ≡ r.key → version_le q.version (wanted r) ≡ true
  behind_wanted q is r same =
      let before = past_of_put ts (pair_of_read is.read) in
      let one = le-version_of q.key before q.version is.before in
      let deps_are = (first_put is.read is.among is.valued).deps_are in
      let in_deps : version_of q.key is.read.deps ≡ version_of q.key before = ap (version_of q.key) deps_are ∙ version_of-greatest_per_key before q.key in
      let two = version_of-grows q.key is.read.deps (deps_read reads) (λ p at_p. Among-flat_map (λ (x : Read). x.deps) reads p is.read is.among at_p) in
      let three : version_le (version_of r.key (deps_read reads)) (wanted r) ≡ true = version_max-right r.version (version_of r.key (deps_read reads)) in
      version_le-trans q.version (version_of q.key (deps_read reads)) (wanted r)
      (version_le-trans q.version (version_of q.key before) (version_of q.key (deps_read reads)) one (subst (λ v. version_le v (version_of q.key (deps_read reads)) ≡ true) in_deps two))
      (subst (λ k. version_le (version_of k (deps_read reads)) (wanted r) ≡ true) (sym same) three)

  -- what was returned is a first read's pair, or is behind the first reads; and so is its past
  past_behind : (r : Read) → Among r reads → is_some (last r).value ≡ true → IsLastOf r → (p : Pair) → Among p (past_of_put ts (pair_of_read (last r))) → IsBehind p
  past_behind r at_r valued is p there =
      elim is.from [
        | inl same ↦ record { read = r; among = at_r; valued = ap (λ (x : Read). is_some x.value) (sym same) ∙ valued; before = subst (λ (x : Read). Among p (past_of_put ts (pair_of_read x))) same there }
        | inr newer ↦
            let behind = dep_behind (at r.key (wanted r)) (wanted-among reads r newer.0) in
            let pair_is : pair_of_read (last r) ≡ at r.key (wanted r) = λ i. record { key = is.key_is i; version = newer.1 i } in
            record { read = behind.read; among = behind.among; valued = behind.valued; before = past-of-closed ts history (pair_of_read behind.read) (at r.key (wanted r)) p behind.before (subst (λ q. Among p (past_of_put ts q)) pair_is there) }
      ]

  -- ---- an answer

  abbrev finals : List Read
  finals = final_reads keys rs

  module _ (r : Read) (at_r : Among r reads) (p : Pair) (same : p.key ≡ (last r).key) where
    by_wanted : version_le p.version (wanted r) ≡ true → version_le p.version (last r).version ≡ true
    by_wanted below = version_le-trans p.version (wanted r) (last r).version below (is_last r at_r).new

    in_context : Among p past → version_le p.version (last r).version ≡ true
    in_context there =
        by_wanted (version_le-trans p.version r.version (wanted r) (first-above config dc past keys rs distinct done fresh no_fault all r at_r p there (same ∙ (is_last r at_r).key_is)) (version_max-left r.version (version_of r.key (deps_read reads))))

    of_returned : Among p (with_pasts ts (returned_by (Returned finals))) → version_le p.version (last r).version ≡ true
    of_returned there =
        let by = flat_map-Among (λ q. q ∷ past_of_put ts q) (returned_by (Returned finals)) p there in
        let read = flat_map-Among pair_read finals by.0 by.1 in
        let from = map-Among last read.0 reads read.1 in
        let o = from.0 in
        let pair = read_pair read.0 by.0 read.2 in
        let pair_is : by.0 ≡ pair_of_read (last o) = pair.0 ∙ ap pair_of_read (sym from.2) in
        let valued : is_some (last o).value ≡ true = ap (λ (x : Read). is_some x.value) from.2 ∙ pair.1 in
        by_place o from.1 valued (subst (λ q. Among p (q ∷ past_of_put ts q)) pair_is by.2)
      where
        by_place : (o : Read) → Among o reads → is_some (last o).value ≡ true → Among p (pair_of_read (last o) ∷ past_of_put ts (pair_of_read (last o))) → version_le p.version (last r).version ≡ true
        by_place o at_o valued (inl is) =
            let keys_same : o.key ≡ r.key = sym (is_last o at_o).key_is ∙ ap (λ (q : Pair). q.key) is ∙ same ∙ (is_last r at_r).key_is in
            let one = one_read keys rs distinct o r at_o at_r keys_same in
            subst (λ v. version_le v (last r).version ≡ true) (ap (λ (x : Read). (last x).version) (sym one) ∙ ap (λ (q : Pair). q.version) is) (version_le-refl (last r).version)
        by_place o at_o valued (inr before) = by_wanted (behind_wanted p (past_behind o at_o valued (is_last o at_o) p before) r (same ∙ (is_last r at_r).key_is))

  pub answer_consistent : let o : Operation = record { session = name; context = number; effect = Returned finals } in answers_consistently (record { operation = o; past = past_after ts o }) (Returned finals) ≡ true
  answer_consistent =
      all_true (is_not_older (past_after ts o)) finals (λ f at_f.
      all_true (λ p. cond (key_eq p.key f.key) (version_le p.version f.version) true) (past_after ts o) (λ p at_p. by_key f at_f p at_p (key_eq p.key f.key) refl))
    where
      o : Operation
      o = record { session = name; context = number; effect = Returned finals }

      of_read : (r : Read) → Among r reads → (p : Pair) → Among p (past_after ts o) → p.key ≡ (last r).key → version_le p.version (last r).version ≡ true
      of_read r at_r p at_p same =
          elim (Among-cases p past (with_pasts ts (returned_by (Returned finals))) (past_after-within ts name number (Returned finals) p at_p)) [
            | inl before ↦ in_context r at_r p same before
            | inr read ↦ of_returned r at_r p same read
          ]

      by_key : (f : Read) → Among f finals → (p : Pair) → Among p (past_after ts o) → (b : Bool) → key_eq p.key f.key ≡ b → cond b (version_le p.version f.version) true ≡ true
      by_key f at_f p at_p false is = refl
      by_key f at_f p at_p true is =
          let from = map-Among last f reads at_f in
          subst (λ (x : Read). version_le p.version x.version ≡ true) from.2 (of_read from.0 from.1 p at_p (key_eq-true p.key f.key is ∙ ap (λ (x : Read). x.key) (sym from.2)))
