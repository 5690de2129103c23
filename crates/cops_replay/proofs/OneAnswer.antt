-- A replay has one result, and depends on the tenant's part of the file alone.
use Rattle.cops_replay.proofs.Names.{◌≡◌, ℕ, ◌+◌, ◌||◌, List, [], ◌∷◌, map, inl, inr, refl, sym, subst, ap, ◌∙◌, arith, Some, None, nat_lt, list_any, nat_tests, Config, Tenant, Whole, BadAt, cut_line, lines_of, slot_of_name, TenantConfig, tenant_config, SoloNode, Layout, Today, Early, Record, Replayed, ReplayRefusal, last_early_clock, fresh_nodes, FindsBy, HasPart, IsRefusedBy, IsReplayBy, IsReplayOf, RefusesReplayOf, alone_lines, head_by, is_great_in, is_too_great_in, longest_record, seen_lines, starts_great_in, told_of, ClockTooGreat, nodes_after_in, IsAuditFor}
use Rattle.cops_replay.specs.declared.refusals.ReplayRefusal.TheVariants.{BadConfig, UnknownTenant}
use Rattle.cops_replay.proofs.RecordRuns.{great_cut, told_cut}

one_found : (layout rules : Layout) (config : TenantConfig) (passed : ℕ) (nodes : List SoloNode) (lines : List (List ℕ)) (one other : Replayed) → FindsBy layout rules config passed nodes lines one → FindsBy layout rules config passed nodes lines other → one ≡ other
one_found layout rules config passed nodes [] one other p q = p ∙ sym q
one_found layout rules config passed nodes (line ∷ lines) one other (inl (told, is, agrees, p)) (inl (told', is', agrees', q)) =
    let some : Some told ≡ Some told' = sym is ∙ is' in
    let same : told ≡ told' = cc in
    one_found layout rules config (passed + 1) (nodes_after_in rules config told' nodes) lines one other (subst (λ (t : Record). FindsBy layout rules config (passed + 1) (nodes_after_in rules config t nodes) lines one) same p) q
one_found layout rules config passed nodes (line ∷ lines) one other (inl (told, is, agrees, p)) (inr (differs, e)) = absurd (differs told is agrees)
one_found layout rules config passed nodes (line ∷ lines) one other (inr (differs, e)) (inl (told, is, agrees, q)) = absurd (differs told is agrees)
one_found layout rules config passed nodes (line ∷ lines) one other (inr p) (inr q) = p.1 ∙ sym q.1

module _ (name : List ℕ) (layout : Layout) (lines : List (List ℕ)) where
  -- the head has one tenant of the name
  pub record SameTenant (c d : Config) (r s : List (List ℕ)) (t u : Tenant) : Type 0 where
    pub config : c ≡ d
    pub records : r ≡ s
    pub tenant : t ≡ u

  same_whole : (c d : Config) (r s : List (List ℕ)) → head_by layout lines ≡ Whole c r → head_by layout lines ≡ Whole d s → (c ≡ d) × (r ≡ s)
  same_whole c d r s one other = let e : Whole c r ≡ Whole d s = sym one ∙ other in (let same : c ≡ d = cc in same, let same : r ≡ s = cc in same)

  pub same_tenant : (one other : IsAuditFor layout name lines) → SameTenant one.config other.config one.records other.records one.tenant other.tenant
  same_tenant one other = grind (arith, nat_tests, same_whole)

  pub one_text : (text other : List ℕ) → IsReplayBy layout name lines text → IsReplayBy layout name lines other → text ≡ other
  one_text text other p q = grind (arith, nat_tests, one_found, same_tenant)

  pub one_refusal : (refusal other : ReplayRefusal) → IsRefusedBy layout name lines refusal → IsRefusedBy layout name lines other → refusal ≡ other
  one_refusal refusal other h2 h3 = grind (arith, nat_tests, same_whole)

  pub not_both : (text : List ℕ) (refusal : ReplayRefusal) → IsReplayBy layout name lines text → IsRefusedBy layout name lines refusal → ⊥
  not_both text refusal h2 h3 = grind (arith, nat_tests, same_tenant, same_whole)

-- ---- two files in which the tenant has the same part

starts_alike : (layout : Layout) (c d : Config) (t u : Tenant) → tenant_config c t ≡ tenant_config d u → starts_great_in layout t ≡ starts_great_in layout u
starts_alike Today c d t u same = refl
starts_alike Early c d t u same = ap (λ (config : TenantConfig). nat_lt last_early_clock config.first_clock) same

-- lines of which the same records are read are replayed alike
pub finds_alike : (one other rules : Layout) (config : TenantConfig) (passed : ℕ) (nodes : List SoloNode) (lines others : List (List ℕ)) (found : Replayed) → map (told_of one) lines ≡ map (told_of other) others →
    FindsBy one rules config passed nodes lines found → FindsBy other rules config passed nodes others found
finds_alike one other rules config passed nodes [] [] found same p = p
finds_alike one other rules config passed nodes [] (o ∷ others) found same p = absurd (let no : ⊥ = cc in no)
finds_alike one other rules config passed nodes (line ∷ lines) [] found same p = absurd (let no : ⊥ = cc in no)
finds_alike one other rules config passed nodes (line ∷ lines) (o ∷ others) found same (inl (told, is, agrees, p)) =
    let first : told_of one line ≡ told_of other o = cc in
    let later : map (told_of one) lines ≡ map (told_of other) others = cc in
    inl (told, sym first ∙ is, agrees, finds_alike one other rules config (passed + 1) (nodes_after_in rules config told nodes) lines others found later p)
finds_alike one other rules config passed nodes (line ∷ lines) (o ∷ others) found same (inr (differs, e)) = let first : told_of one line ≡ told_of other o = cc in inr ((λ told is. differs told (first ∙ is)), e)

-- they are read as they are cut
told_cuts : (layout : Layout) (lines : List (List ℕ)) → map (told_of layout) (map (cut_line longest_record) lines) ≡ map (told_of layout) lines
told_cuts layout [] = refl
told_cuts layout (line ∷ lines) = λ i. told_cut layout line i ∷ told_cuts layout lines i

any_cut : (layout : Layout) (lines : List (List ℕ)) → list_any (is_great_in layout) (map (cut_line longest_record) lines) ≡ list_any (is_great_in layout) lines
any_cut layout [] = refl
any_cut layout (line ∷ lines) = λ i. great_cut layout line i || any_cut layout lines i

module _ (name one other : List ℕ) (layout : Layout) (config : TenantConfig) (own : List (List ℕ)) (p : HasPart name one layout config own) (q : HasPart name other layout config own) where
  -- what the replay of an audit of the first depends on is the same in the other
  record Same (a : IsAuditFor layout name (lines_of one)) : Type 0 where
    config_is : tenant_config a.config a.tenant ≡ tenant_config q.audit.config q.audit.tenant
    told : map (told_of layout) (alone_lines name a.records) ≡ map (told_of layout) (alone_lines name q.audit.records)
    great : is_too_great_in layout a.tenant (alone_lines name a.records) ≡ is_too_great_in layout q.audit.tenant (alone_lines name q.audit.records)

  same_in : (a : IsAuditFor layout name (lines_of one)) → Same a
  same_in a =
      let same = same_tenant name layout (lines_of one) a p.audit in
      let mine : tenant_config a.config a.tenant ≡ tenant_config q.audit.config q.audit.tenant = (λ i. tenant_config (same.config i) (same.tenant i)) ∙ p.config_is ∙ sym q.config_is in
      let lines : seen_lines name a.records ≡ seen_lines name q.audit.records = ap (seen_lines name) same.records ∙ p.own_is ∙ sym q.own_is in
      let any = sym (any_cut layout (alone_lines name a.records)) ∙ ap (list_any (is_great_in layout)) lines ∙ any_cut layout (alone_lines name q.audit.records) in
      record {
        config_is = mine;
        told = sym (told_cuts layout (alone_lines name a.records)) ∙ ap (map (told_of layout)) lines ∙ told_cuts layout (alone_lines name q.audit.records);
        great = λ i. starts_alike layout a.config q.audit.config a.tenant q.audit.tenant mine i || any i;
      }

  replayed_by : (text : List ℕ) → IsReplayBy layout name (lines_of one) text → IsReplayBy layout name (lines_of other) text
  replayed_by text r =
      let same = same_in r.audit in
      let its = tenant_config q.audit.config q.audit.tenant in
      record {
        audit = q.audit;
        fits = sym same.great ∙ r.fits;
        found = r.found;
        finds = finds_alike layout layout layout its 0 (fresh_nodes its) (alone_lines name r.audit.records) (alone_lines name q.audit.records) r.found same.told
            (subst (λ (c : TenantConfig). FindsBy layout layout c 0 (fresh_nodes c) (alone_lines name r.audit.records) r.found) same.config_is r.finds);
        text_is = r.text_is;
      }

  pub replayed_alike : (text : List ℕ) → IsReplayOf name one text → IsReplayOf name other text
  replayed_alike text r =
      subst (λ l. IsReplayBy l name (lines_of other) text) (sym q.layout_is) (replayed_by text (subst (λ l. IsReplayBy l name (lines_of one) text) p.layout_is r))

  refused_by : (refusal : ReplayRefusal) → IsRefusedBy layout name (lines_of one) refusal → IsRefusedBy layout name (lines_of other) refusal
  refused_by (BadConfig bad) r = absurd (let e : BadAt bad.line ≡ Whole p.audit.config p.audit.records = sym r ∙ p.audit.head in let no : ⊥ = cc in no)
  refused_by UnknownTenant (found, rest, head, none) =
      let same = same_whole name layout (lines_of one) found p.audit.config rest p.audit.records head p.audit.head in
      absurd (let e : None ≡ Some p.audit.slot = sym none ∙ ap (λ (x : Config). slot_of_name x.tenants name) same.0 ∙ p.audit.there in let no : ⊥ = cc in no)
  refused_by ClockTooGreat r = record { audit = q.audit; great = sym (same_in r.audit).great ∙ r.great }

  pub refused_alike : (refusal : ReplayRefusal) → RefusesReplayOf name one refusal → RefusesReplayOf name other refusal
  refused_alike refusal r =
      subst (λ l. IsRefusedBy l name (lines_of other) refusal) (sym q.layout_is) (refused_by refusal (subst (λ l. IsRefusedBy l name (lines_of one) refusal) p.layout_is r))
