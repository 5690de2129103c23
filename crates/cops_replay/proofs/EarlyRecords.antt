-- A file of layout 1 whose clocks are not too great replays as one of today's layout with the same configuration and the same lines.
use Rattle.cops_replay.proofs.Names.{◌≡◌, ℕ, false, ◌||◌, List, [], ◌∷◌, map, refl, sym, ap, ◌∙◌, arith, Some, IsTrue, nat_le, slice_get, AllByRecursion, list_all, list_any, bytes_eq, nat_tests, Config, Tenant, Whole, tenant_config, first_word, Every-filter, Layout, Today, Early, ReplayRefusal, last_early_clock, fresh_nodes, IsEarlyLine, IsRefusedBy, IsReplayBy, alone_lines, head_by, is_great_in, is_too_great_in, starts_great_in, told_of, has_great_clock}
use Rattle.cops_replay.proofs.EarlySteps.{early_told, by_its_rules, by_rules_of_today}
use Rattle.cops_replay.proofs.AuditTexts.{all_at}
use Rattle.cops_replay.proofs.LineLengths.{at_most}
use Rattle.cops_replay.proofs.OneAnswer.{finds_alike}
use Rattle.cops_replay.proofs.WholeMigrations.{same_whole}

-- ---- lines

told_today : (layout : Layout) (line : List ℕ) → IsEarlyLine line → told_of layout line ≡ told_of Today line
told_today Today line early = refl
told_today Early line (told, is) = is ∙ sym (early_told line told is).0

all_told : (one other : Layout) (lines : List (List ℕ)) → AllByRecursion IsEarlyLine lines → map (told_of one) lines ≡ map (told_of other) lines
all_told one other [] all = refl
all_told one other (line ∷ lines) all = λ i. (told_today one line all.0 ∙ sym (told_today other line all.0)) i ∷ all_told one other lines all.1 i

-- ---- replays

-- of the tenant's lines among them
own_early : (name : List ℕ) (lines : List (List ℕ)) → AllByRecursion IsEarlyLine lines → AllByRecursion IsEarlyLine (alone_lines name lines)
own_early name lines all = Every-filter IsEarlyLine (λ line. bytes_eq (first_word line) name) lines all

pub none_great_today : (lines : List (List ℕ)) → list_any (is_great_in Today) lines ≡ false
none_great_today [] = refl
none_great_today (line ∷ lines) = none_great_today lines

not_great_early : (line : List ℕ) → IsEarlyLine line → has_great_clock line ≡ false
not_great_early line h1 = grind (arith, nat_tests)

none_great_early : (lines : List (List ℕ)) → AllByRecursion IsEarlyLine lines → list_any (is_great_in Early) lines ≡ false
none_great_early [] all = refl
none_great_early (line ∷ lines) all = ap (λ b. b || list_any (is_great_in Early) lines) (not_great_early line all.0) ∙ none_great_early lines all.1

-- ---- whole files

-- the tenant's first clock is not too great
starts_early : (layout : Layout) (tenants : List Tenant) (slot : ℕ) (tenant : Tenant) → IsTrue (list_all (λ (t : Tenant). nat_le t.first_clock last_early_clock) tenants) → slice_get tenants slot ≡ Some tenant → starts_great_in layout tenant ≡ false
starts_early Today tenants slot tenant all at = refl
starts_early Early tenants slot tenant all at = let low = at_most tenant.first_clock last_early_clock (all_at (λ (t : Tenant). nat_le t.first_clock last_early_clock) tenants slot tenant all at) in grind (arith, nat_tests, low)

fits_early : (layout : Layout) (tenant : Tenant) (lines : List (List ℕ)) → starts_great_in layout tenant ≡ false → AllByRecursion IsEarlyLine lines → is_too_great_in layout tenant lines ≡ false
fits_early Today tenant lines starts all = none_great_today lines
fits_early Early tenant lines starts all = ap (λ b. b || list_any (is_great_in Early) lines) starts ∙ none_great_early lines all

-- of two files, each in its layout
module _ (one other : Layout) (name : List ℕ) (lines moved : List (List ℕ)) (config : Config) (records : List (List ℕ)) (old : head_by one lines ≡ Whole config records) (new : head_by other moved ≡ Whole config records)
    (clocks : IsTrue (list_all (λ (t : Tenant). nat_le t.first_clock last_early_clock) config.tenants)) (early : AllByRecursion IsEarlyLine records) where
  -- an audit in the first is that of the configuration and the lines
  record Known (found : Config) (rest : List (List ℕ)) : Type 0 where
    head : head_by other moved ≡ Whole found rest
    low : IsTrue (list_all (λ (t : Tenant). nat_le t.first_clock last_early_clock) found.tenants)
    own : AllByRecursion IsEarlyLine (alone_lines name rest)

  known : (found : Config) (rest : List (List ℕ)) → head_by one lines ≡ Whole found rest → Known found rest
  known found rest at = grind (arith, nat_tests, own_early, same_whole)

  pub replayed_alike : (text : List ℕ) → IsReplayBy one name lines text → IsReplayBy other name moved text
  replayed_alike text p =
      let k = known p.audit.config p.audit.records p.audit.head in
      let its = alone_lines name p.audit.records in
      let started : (layout : Layout) → starts_great_in layout p.audit.tenant ≡ false = λ layout. starts_early layout p.audit.config.tenants p.audit.slot p.audit.tenant k.low p.audit.tenant_is in
      record {
        audit = record { config = p.audit.config; records = p.audit.records; slot = p.audit.slot; tenant = p.audit.tenant; head = k.head; there = p.audit.there; tenant_is = p.audit.tenant_is };
        fits = fits_early other p.audit.tenant its (started other) k.own;
        found = p.found;
        finds = by_its_rules other p.audit.config p.audit.tenant its p.found (started other)
            (finds_alike one other Today (tenant_config p.audit.config p.audit.tenant) 0 (fresh_nodes (tenant_config p.audit.config p.audit.tenant)) its its p.found (all_told one other its k.own)
            (by_rules_of_today one p.audit.config p.audit.tenant its p.found (started one) p.finds));
        text_is = p.text_is;
      }

  -- the second refuses what the first does
  pub refused_alike : (refusal : ReplayRefusal) → IsRefusedBy one name lines refusal → IsRefusedBy other name moved refusal
  refused_alike refusal h1 = grind (arith, nat_tests, fits_early, known, starts_early)
