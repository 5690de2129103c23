-- What a replay comes to over a whole file.
use Rattle.cops_replay.proofs.Names.{◌≡◌, ℕ, true, false, ◌||◌, ◌≤◌, List, [], ◌∷◌, ◌++◌, length, inl, inr, refl, sym, subst, ap, ◌∙◌, append-nil, arith, Option, Some, None, IfSome, slice_get, ⊤, list_any, bytes_eq, Appends, Keeps, Config, Tenant, AtStart, Whole, lines_of, cut_line, AppendsFront, slot_of_name, tenant_config, first_word, or_right, both_fail, RunFault, AnswersAll, IfRunRefused, StopsEarly, AppendsFront-nil, AuditMachine, Layout, Early, ReplayRefusal, Replayed, IsAtHead, audit_rules, fresh_nodes, Standing, found_of, FindsBy, IsRefusedBy, IsReplayBy, IsReplayOf, RefusesReplayOf, alone_lines, head_by, is_great_in, longest_record, starts_great_in, ClockTooGreat, ReplaysOf, IsNotBegun, RefusesOwn, replay_rules, ReplaysFront}
use Rattle.cops_replay.specs.declared.refusals.ReplayRefusal.TheVariants.{BadConfig, UnknownTenant}
use Rattle.cops_script.specs.declared.line_runs.fault.RunFault.TheVariants as fault
use Rattle.cops_replay.proofs.AuditHeads.{short_in}
use Rattle.cops_replay.proofs.EarlySteps.{by_its_rules}
use Rattle.cops_replay.proofs.FileRuns as runs
use Rattle.cops_replay.proofs.RecordRuns.{TellsAs, any_great, great_cut, running, same_own}

module _ (body : ReplaysOf) where
  -- the tenant's lines after a whole head
  record Found (layout : Layout) (config : Config) (records : List (List ℕ)) (text : List ℕ) (state : Standing) : Type 0 where
    slot : ℕ
    tenant : Tenant
    there : slot_of_name config.tenants body.name ≡ Some slot
    tenant_is : slice_get config.tenants slot ≡ Some tenant
    starts : starts_great_in layout tenant ≡ false
    layout_is : state.layout ≡ layout
    silent : text ≡ []
    small : list_any (is_great_in layout) (alone_lines body.name records) ≡ false
    found : Replayed
    finds : FindsBy layout layout (tenant_config config tenant) 0 (fresh_nodes (tenant_config config tenant)) (alone_lines body.name records) found
    told : TellsAs (found_of state) found

  module _ (bytes : List ℕ) (others : List (List ℕ)) (text : List ℕ) (state : Standing) (p : runs.Behind replay_rules body bytes others text state) where
    short : length body.name ≤ 16
    short = short_in p.config body.name p.starts.1.0 p.named p.starts.1.2

    found_in : Found p.layout p.config p.records text state
    found_in = by_start p.starts
      where
        by_start : replay_rules.starts body p.layout p.config p.head_text p.first → Found p.layout p.config p.records text state
        by_start (silent, (slot, tenant, there, tenant_is, starts, layout_is, fresh)) =
            let mine = tenant_config p.config tenant in
            let ran = running body.name p.layout mine short p.records p.first p.more state layout_is p.run in
            let told = ran.tells.goes 0 (fresh_nodes mine) layout_is (fresh.passed_is ∙ omega arith) fresh.found_is fresh.nodes_are in
            record {
              slot = slot;
              tenant = tenant;
              there = there;
              tenant_is = tenant_is;
              starts = starts;
              layout_is = ran.layout_is;
              silent = p.text_is ∙ (λ i. silent i ++ ran.silent i);
              small = ran.small;
              found = told.0;
              finds = by_its_rules p.layout p.config tenant (alone_lines body.name p.records) told.0 starts told.1;
              told = told.2;
            }

    too_great : (line : List ℕ) (rest : List (List ℕ)) (refusal : ReplayRefusal) → others ≡ line ∷ rest → RefusesOwn body.name state (cut_line longest_record line) refusal → RefusesReplayOf body.name bytes refusal
    too_great line rest refusal next refused =
        let f = found_in in
        let own : bytes_eq (first_word line) body.name ≡ true = sym (same_own body.name line short) ∙ refused.0 in
        let great : is_great_in p.layout line ≡ true = sym (great_cut p.layout line) ∙ ap (λ (l : Layout). is_great_in l (cut_line longest_record line)) (sym f.layout_is) ∙ refused.1 in
        subst (RefusesReplayOf body.name bytes) (sym refused.2) (subst (λ (l : Layout). IsRefusedBy l body.name (lines_of bytes) ClockTooGreat) (sym p.layout_is) (record {
          audit = record { config = p.config; records = p.records ++ line ∷ rest; slot = f.slot; tenant = f.tenant; head = p.head ∙ ap (λ ls. Whole p.config (p.records ++ ls)) next; there = f.there; tenant_is = f.tenant_is };
          great = or_right (starts_great_in p.layout f.tenant) (list_any (is_great_in p.layout) (alone_lines body.name (p.records ++ line ∷ rest))) (any_great body.name p.layout p.records line rest own great);
        }))

  replayed : (bytes text last : List ℕ) → runs.Ended replay_rules body bytes text last → IsReplayOf body.name bytes (text ++ last)
  replayed bytes text last e =
      let p = e.behind in
      let f = found_in bytes [] text e.state p in
      subst (λ (l : Layout). IsReplayBy l body.name (lines_of bytes) (text ++ last)) (sym p.layout_is) (record {
        audit = record { config = p.config; records = p.records; slot = f.slot; tenant = f.tenant; head = p.head ∙ ap (Whole p.config) (append-nil p.records); there = f.there; tenant_is = f.tenant_is };
        fits = both_fail (starts_great_in p.layout f.tenant) (list_any (is_great_in p.layout) (alone_lines body.name p.records)) f.starts f.small;
        found = f.found;
        finds = f.finds;
        text_is = ap (λ t. t ++ last) f.silent ∙ e.ended.0 ∙ f.told;
      })

  not_begun : (layout : Layout) (bytes : List ℕ) (config : Config) (records : List (List ℕ)) (refusal : ReplayRefusal) → head_by layout (lines_of bytes) ≡ Whole config records → IsNotBegun layout body.name config refusal → IsRefusedBy layout body.name (lines_of bytes) refusal
  not_begun layout bytes config records (BadConfig bad) head h = absurd h
  not_begun layout bytes config records UnknownTenant head h = (config, records, head, h)
  not_begun layout bytes config records ClockTooGreat head (slot, tenant, there, tenant_is, great) = record {
    audit = record { config = config; records = records; slot = slot; tenant = tenant; head = head; there = there; tenant_is = tenant_is };
    great = ap (λ b. b || list_any (is_great_in layout) (alone_lines body.name records)) great;
  }

  refused : (bytes : List ℕ) (refusal : ReplayRefusal) → runs.RefusedBy replay_rules body bytes refusal → RefusesReplayOf body.name bytes refusal
  refused bytes refusal (runs.BadHead layout bad told is head) =
      subst (RefusesReplayOf body.name bytes) (sym is) (subst (λ (l : Layout). IsRefusedBy l body.name (lines_of bytes) (BadConfig bad)) (sym told) head)
  refused bytes refusal (runs.NotBegun layout config records told head h) =
      subst (λ (l : Layout). IsRefusedBy l body.name (lines_of bytes) refusal) (sym told) (not_begun layout bytes config records refusal head h)
  refused bytes refusal (runs.AtLine text state line others p h) = too_great bytes (line ∷ others) text state p line others refusal refl h
  refused bytes refusal (runs.AtEnd text state p h) = absurd h

module _ (name : List ℕ) (old_contents new_contents new_remaining : Option (List ℕ)) (begins : AuditMachine ReplaysOf Standing) (named : begins.body.name ≡ name) (begun : IsAtHead Early AtStart 0 begins.file) where
  pub all_replayed : (new : AuditMachine ReplaysOf Standing) (known : Option (List ℕ)) → AnswersAll (audit_rules replay_rules) longest_record known new_remaining begins new old_contents new_contents →
      IfSome known (λ bytes. (text : List ℕ) × IsReplayOf name bytes text × Appends old_contents new_contents text)
  all_replayed new None p = tt
  all_replayed new (Some bytes) p =
      let ended = runs.all_answered replay_rules begins.body old_contents new_contents new_remaining begins refl begun bytes new p in
      (p.text ++ p.last, subst (λ n. IsReplayOf n bytes (p.text ++ p.last)) named (replayed begins.body bytes p.text p.last ended), p.written)

  front_is : (bytes : List ℕ) → runs.IsFront replay_rules begins.body old_contents new_contents new_remaining begins refl begun bytes → ReplaysFront name bytes old_contents new_contents
  front_is bytes (runs.Nothing same) = inl same
  front_is bytes (runs.OfLines others text state p written) = inl (AppendsFront-nil old_contents new_contents (subst (AppendsFront old_contents new_contents) (found_in begins.body bytes others text state p).silent written))
  front_is bytes (runs.OfAll text last ended written) = inr (text ++ last, subst (λ n. IsReplayOf n bytes (text ++ last)) named (replayed begins.body bytes text last ended), written)

  pub front_replayed : (known : Option (List ℕ)) (why : RunFault ReplayRefusal) → StopsEarly (audit_rules replay_rules) longest_record known new_remaining begins old_contents new_contents why → IfSome known (λ bytes. ReplaysFront name bytes old_contents new_contents)
  front_replayed None why p = tt
  front_replayed (Some bytes) why p = front_is bytes (runs.front_answered replay_rules begins.body old_contents new_contents new_remaining begins refl begun bytes why p)

  pub refused_for : (known : Option (List ℕ)) (why : RunFault ReplayRefusal) → StopsEarly (audit_rules replay_rules) longest_record known new_remaining begins old_contents new_contents why →
      IfRunRefused why (λ refusal. IfSome known (λ bytes. RefusesReplayOf name bytes refusal))
  refused_for None (fault.Refused refusal) p = tt
  refused_for (Some bytes) (fault.Refused refusal) p =
      subst (λ n. RefusesReplayOf n bytes refusal) named (refused begins.body bytes refusal (runs.refused_in replay_rules begins.body old_contents new_contents new_remaining begins refl begun bytes refusal p))
  refused_for known why p = tt

pub unwritten : (old_contents new_contents new_remaining : Option (List ℕ)) (begins : AuditMachine ReplaysOf Standing) (known : Option (List ℕ)) (why : RunFault ReplayRefusal) →
    StopsEarly (audit_rules replay_rules) longest_record known new_remaining begins old_contents new_contents why → IfRunRefused why (λ refusal. Keeps old_contents new_contents)
unwritten = runs.nothing_written replay_rules (λ state. ⊤) (λ b layout config text state starts quiet. starts.0) (λ b old line text new answered quiet. (tt, answered.0)) (λ b state line refusal h. tt) (λ b state refusal h. tt)

-- nothing was done
pub nothing_replayed : (name : List ℕ) (known contents : Option (List ℕ)) → IfSome known (λ bytes. ReplaysFront name bytes contents contents)
nothing_replayed name None contents = tt
nothing_replayed name (Some bytes) contents = inl (runs.kept contents)
