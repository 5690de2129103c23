-- A tenant's own part of an audit is an audit of the same layout, with the same part.
use Rattle.cops_replay.proofs.Names.{◌≡◌, ℕ, zero, suc, ◌+◌, ◌≤◌, Bool, true, false, cond, inl, inr, List, [], ◌∷◌, ◌++◌, length, map, take, refl, sym, subst, ap, ◌∙◌, arith, Some, AllByRecursion, option_and_then, bytes_eq, take_all, nat_tests, Config, Tenant, Front, AtStart, Within, Begun, Whole, head_with, begin_line, cluster_line, cut_line, lines_of, slot_of_name, tenant_config, first_word, newline, Every-filter, tenant_fits, Lacks, bytes_from_test, lacks_from_test, same_bytes, same_value, found_at, short_name, Layout, Today, Early, ReplayRefusal, layout_line, with_tenants, IsPartOf, layout_lines, lone_head_lines, front_by, HasPart, IsReplayOf, RefusesReplayOf, alone_lines, head_by, layout_of, longest_record, seen_lines, length-take, tenant_in_to, Every-map, Every-weaker, tenant_in_to-finds, with_tenant_alone}
use Rattle.cops_replay.proofs.AuditHeads.{follows_by, head_holds, last_in, last_small, read_once, read_whole, reading_by}
use Rattle.cops_replay.proofs.HeadsBack.{IsFit, IsOfHead, StandsIn, cluster_lacks, follows_stands, lines_of-lack, lines_of-lines, lines_of-more, tenant_lacks, tenant_written, written_tenant}
use Rattle.cops_replay.proofs.OldFronts.{FollowsTo}
use Rattle.cops_replay.proofs.OneAnswer.{refused_alike, replayed_alike}
use Rattle.cops_replay.proofs.RecordRuns.{same_own}
use Rattle.cops_replay.proofs.AuditTexts.{each_at}

-- ---- what a head that was read has

-- it is one of the layout, and this is its first line
record AreGood (layout : Layout) (config : Config) : Type 0 where
  stands : IsOfHead (last_in layout) config
  starts : front_by layout AtStart (cluster_line config) ≡ Some (Within (with_tenants config []))

abbrev IsGoodFront : Layout → Front → Type 0
IsGoodFront layout AtStart = Unit {0}
IsGoodFront layout (Within config) = AreGood layout config
IsGoodFront layout (Begun config) = AreGood layout config

good_next : (layout : Layout) (front : Front) (line : List ℕ) (next : Front) → IsGoodFront layout front → front_by layout front line ≡ Some next → IsGoodFront layout next
good_next layout AtStart line next g e =
    let (config, is, after) = follows_by layout AtStart line next e in
    let stands = follows_stands (last_in layout) AtStart line (Within config) tt (config, is, refl) in
    subst (IsGoodFront layout) (sym after) (record {
      stands = stands;
      starts = ap (front_by layout AtStart) (sym is.spelled) ∙ e ∙ ap Some after ∙ ap (λ tenants. Some (Within (with_tenants config tenants))) is.bare;
    })
good_next layout (Within config) line next g e = by (follows_by layout (Within config) line next e)
  where
    by : FollowsTo (last_in layout) (Within config) line next → IsGoodFront layout next
    by (inl joins) = subst (IsGoodFront layout) (sym joins.after) (record { stands = subst (StandsIn (last_in layout)) joins.after (follows_stands (last_in layout) (Within config) line next g.stands (inl joins)); starts = g.starts })
    by (inr ends) = subst (IsGoodFront layout) (sym ends.after) g
good_next layout (Begun config) line next g e = absurd (follows_by layout (Begun config) line next e)

-- what holds of all lines holds of those after the head
good_head : (P : List ℕ → Type 0) (layout : Layout) (lines : List (List ℕ)) (config : Config) (rest : List (List ℕ)) → AllByRecursion P lines → head_by layout lines ≡ Whole config rest → AreGood layout config × AllByRecursion P rest
good_head P Today [] config rest all e = absurd (let clash : ⊥ = cc in clash)
good_head P Today (line ∷ lines) config rest all e = head_holds Today (IsGoodFront Today) P (good_next Today) config rest lines 2 AtStart tt all.1 e
good_head P Early lines config rest all e = head_holds Early (IsGoodFront Early) P (good_next Early) config rest lines 1 AtStart tt all e

-- ---- the head of a part is read back

joins_by : (layout : Layout) (config : Config) (tenant : Tenant) → tenant_in_to (last_in layout) (written_tenant tenant) ≡ Some tenant → front_by layout (Within (with_tenants config [])) (written_tenant tenant) ≡ Some (Within (with_tenant_alone config tenant))
joins_by Today config tenant e = ap (option_and_then (head_with (with_tenants config []))) e
joins_by Early config tenant e = ap (option_and_then (head_with (with_tenants config []))) e

begins_by : (layout : Layout) (config : Config) → front_by layout (Within config) begin_line ≡ Some (Begun config)
begins_by Today config = refl
begins_by Early config = refl

module _ (config : Config) (tenant : Tenant) (others : List (List ℕ)) where
  lone_read : (layout : Layout) (number : ℕ) → AreGood layout config → IsFit (last_in layout) tenant → reading_by layout (lone_head_lines config tenant ++ others) number AtStart ≡ Whole (with_tenant_alone config tenant) others
  lone_read layout number g t =
      let alone = with_tenant_alone config tenant in
      let bare = with_tenants config [] in
      let found = tenant_in_to-finds (last_in layout) (last_small layout) (written_tenant tenant) tenant (tenant_written (last_in layout) tenant t.token t.good) in
      read_once layout AtStart number (cluster_line config) (written_tenant tenant ∷ begin_line ∷ others) (Within bare) refl g.starts
      ∙ read_once layout (Within bare) (number + 1) (written_tenant tenant) (begin_line ∷ others) (Within alone) refl (joins_by layout config tenant found)
      ∙ read_once layout (Within alone) (number + 1 + 1) begin_line others (Begun alone) refl (begins_by layout alone)
      ∙ read_whole layout others (number + 1 + 1 + 1) alone

  head_back : (layout : Layout) → AreGood layout config → IsFit (last_in layout) tenant → head_by layout ((layout_lines layout ++ lone_head_lines config tenant) ++ others) ≡ Whole (with_tenant_alone config tenant) others
  head_back Today g t = lone_read Today 2 g t
  head_back Early g t = lone_read Early 1 g t

  layout_back : (layout : Layout) → layout_of ((layout_lines layout ++ lone_head_lines config tenant) ++ others) ≡ layout
  layout_back Today = ap (λ b. cond b Today Early) (same_bytes layout_line)
  layout_back Early = refl

lone_lacks : (layout : Layout) (config : Config) (tenant : Tenant) → AreGood layout config → IsFit (last_in layout) tenant → AllByRecursion (Lacks newline) (lone_head_lines config tenant)
lone_lacks layout config tenant g t = (cluster_lacks config g.stands.sizes, (tenant_lacks (last_in layout) (last_small layout) tenant t.good, (lacks_from_test newline begin_line refl, tt)))

head_lacks : (layout : Layout) (config : Config) (tenant : Tenant) → AreGood layout config → IsFit (last_in layout) tenant → AllByRecursion (Lacks newline) (layout_lines layout ++ lone_head_lines config tenant)
head_lacks Today config tenant g t = (lacks_from_test newline layout_line refl, lone_lacks Today config tenant g t)
head_lacks Early config tenant g t = lone_lacks Early config tenant g t

-- ---- the lines of a part

lacks_take : (s n : ℕ) (xs : List ℕ) → Lacks s xs → Lacks s (take n xs)
lacks_take s zero [] h = tt
lacks_take s zero (x ∷ xs) h = tt
lacks_take s (suc n) [] h = tt
lacks_take s (suc n) (x ∷ xs) h = (h.0, lacks_take s n xs h.1)

take_twice : (n : ℕ) (xs : List ℕ) → take n (take n xs) ≡ take n xs
take_twice n xs = take_all n (take n xs) (omega (arith, length-take n xs))

module _ (name : List ℕ) where
  seen_lack : (lines : List (List ℕ)) → AllByRecursion (Lacks newline) lines → AllByRecursion (Lacks newline) (seen_lines name lines)
  seen_lack lines all =
      Every-map (Lacks newline) (cut_line longest_record) (alone_lines name lines)
      (Every-weaker (Lacks newline) (λ line. Lacks newline (cut_line longest_record line)) (alone_lines name lines) (λ line at. lacks_take newline (longest_record + 1) line) (Every-filter (Lacks newline) (λ line. bytes_eq (first_word line) name) lines all))

  -- the tenant's lines among these are all of them
  seen_twice : length name ≤ 16 → (lines : List (List ℕ)) → seen_lines name (seen_lines name lines) ≡ seen_lines name lines
  seen_twice short [] = refl
  seen_twice short (line ∷ lines) = by_own (bytes_eq (first_word line) name) refl (seen_twice short lines)
    where
      by_own : (own : Bool) → bytes_eq (first_word line) name ≡ own → seen_lines name (seen_lines name lines) ≡ seen_lines name lines →
          seen_lines name (map (cut_line longest_record) (cond own (line ∷ alone_lines name lines) (alone_lines name lines))) ≡ map (cut_line longest_record) (cond own (line ∷ alone_lines name lines) (alone_lines name lines))
      by_own true e rest =
          let still = same_own name line short ∙ e in
          ap (λ b. map (cut_line longest_record) (cond b (cut_line longest_record line ∷ alone_lines name (seen_lines name lines)) (alone_lines name (seen_lines name lines)))) still
          ∙ (λ i. take_twice (longest_record + 1) line i ∷ rest i)
      by_own false e rest = rest

-- ---- a part of a file

first_found : (name : List ℕ) (tenant : Tenant) → bytes_eq tenant.name name ≡ true → slot_of_name (tenant ∷ []) name ≡ Some 0
first_found name tenant e = rw e refl

module _ (name bytes part : List ℕ) (p : IsPartOf name bytes part) where
  abbrev layout : Layout
  layout = layout_of (lines_of bytes)

  abbrev own : List (List ℕ)
  own = seen_lines name p.audit.records

  good : AreGood layout p.audit.config × AllByRecursion (Lacks newline) p.audit.records
  good = good_head (Lacks newline) layout (lines_of bytes) p.audit.config p.audit.records (lines_of-lack bytes) p.audit.head

  its : IsFit (last_in layout) p.audit.tenant
  its = each_at (IsFit (last_in layout)) p.audit.config.tenants p.audit.slot p.audit.tenant good.0.stands.fit p.audit.tenant_is

  named : bytes_eq p.audit.tenant.name name ≡ true
  named =
      let found = found_at p.audit.config.tenants name p.audit.slot p.audit.there in
      ap (λ (t : Tenant). bytes_eq t.name name) (same_value p.audit.tenant found.0 (sym p.audit.tenant_is ∙ found.1)) ∙ found.2

  short : length name ≤ 16
  short =
      let fits = tenant_fits (last_in layout) (last_small layout) p.audit.tenant its.good in
      subst (λ n. length n ≤ 16) (bytes_from_test p.audit.tenant.name name named) (short_name p.audit.tenant.name fits.name)

  part_lines : lines_of part ≡ (layout_lines layout ++ lone_head_lines p.audit.config p.audit.tenant) ++ own
  part_lines = grind (arith, nat_tests, good, head_lacks, its, lines_of-lines, lines_of-more, seen_lack)

  of_file : HasPart name bytes layout (tenant_config p.audit.config p.audit.tenant) own
  of_file = record { layout_is = refl; audit = p.audit; config_is = refl; own_is = refl }

  of_part : HasPart name part layout (tenant_config p.audit.config p.audit.tenant) own
  of_part = record {
    layout_is = ap layout_of part_lines ∙ layout_back p.audit.config p.audit.tenant own layout;
    audit = record {
      config = with_tenant_alone p.audit.config p.audit.tenant;
      records = own;
      slot = 0;
      tenant = p.audit.tenant;
      head = ap (head_by layout) part_lines ∙ head_back p.audit.config p.audit.tenant own layout good.0 its;
      there = first_found name p.audit.tenant named;
      tenant_is = refl;
    };
    config_is = refl;
    own_is = seen_twice name short p.audit.records;
  }

  pub part_replays : (text : List ℕ) → (IsReplayOf name bytes text → IsReplayOf name part text) × (IsReplayOf name part text → IsReplayOf name bytes text)
  part_replays text = (
    replayed_alike name bytes part layout (tenant_config p.audit.config p.audit.tenant) own of_file of_part text,
    replayed_alike name part bytes layout (tenant_config p.audit.config p.audit.tenant) own of_part of_file text,
  )

  pub part_refuses_alike : (refusal : ReplayRefusal) → (RefusesReplayOf name bytes refusal → RefusesReplayOf name part refusal) × (RefusesReplayOf name part refusal → RefusesReplayOf name bytes refusal)
  part_refuses_alike refusal = (
    refused_alike name bytes part layout (tenant_config p.audit.config p.audit.tenant) own of_file of_part refusal,
    refused_alike name part bytes layout (tenant_config p.audit.config p.audit.tenant) own of_part of_file refusal,
  )
