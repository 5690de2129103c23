-- A replay of the lines of records finds what a replay of the records does. So a replay of a written audit says that all is the same.
use Rattle.cops_replay.proofs.Names.{◌≡◌, ℕ, ◌+◌, List, [], ◌∷◌, map, ◌⊎◌, inl, inr, sym, subst, ap, ◌∙◌, length, refl, arith, IsTrue, if◌then◌else◌, Some, None, slice_get, option_map, AllByRecursion, nat_tests, lines_of, TenantConfig, tenant_config, Config, Tenant, HeadReading, Whole, BadAt, head_of, same_value, SoloNode, Written, Record, Replayed, FirstDifference, Same, records_text, ReplaysSame, audit_text, tenants_text, left_config, left_nodes, record_in, is_record, record_line, Agrees, Finds, FindsFrom, fresh_nodes, nodes_after, HasLine, FindsBy, IsReplayBy, IsReplayOf, alone_lines, replayed_text, Today, ReplaysSameFor, audit_after, audit_out, AreFormed, AreFormedFor, HaveLines, SaysSame, SaysSameFor, his_records, is_name, name_of, FindsIn, told_in}
use Rattle.cops_replay.proofs.LinesBack.{spelled_back, text_lines}
use Rattle.cops_replay.proofs.AuditLines.{head_known, lines_his, named_at}
use Rattle.cops_replay.proofs.EarlyRecords.{none_great_today}
use Rattle.cops_replay.proofs.HeadsBack.{written_head}
use Rattle.cops_replay.proofs.HeadTexts.{text_is_todays, text_reads_back}
use Rattle.cops_replay.proofs.OpenHeads.{open_head}
use Rattle.cops_replay.proofs.ShortLines.{left_lines}

told_back : (tenant : List ℕ) (told : Record) → IsTrue (is_name tenant) → HasLine tenant told → told_in (record_line tenant told) ≡ Some told
told_back tenant told named line =
    ap (λ b. if b then option_map (λ (read : List ℕ × Record). read.1) (record_in (record_line tenant told)) else None) line.short
    ∙ ap (option_map (λ (read : List ℕ × Record). read.1)) (spelled_back tenant told named line.formed)

pub found_in : (config : TenantConfig) (tenant : List ℕ) (passed : ℕ) (nodes : List SoloNode) (records : List Record) (found : Replayed) → IsTrue (is_name tenant) → AllByRecursion (HasLine tenant) records
    → FindsFrom config passed nodes records found → FindsIn config passed nodes (map (record_line tenant) records) found
found_in config tenant passed nodes [] found named all finds = finds
found_in config tenant passed nodes (told ∷ records) found named all finds = by (λ more. found_in config tenant (passed + 1) (nodes_after config told nodes) records found named all.1 more) finds
  where
    by : (FindsFrom config (passed + 1) (nodes_after config told nodes) records found → FindsIn config (passed + 1) (nodes_after config told nodes) (map (record_line tenant) records) found)
        → (Agrees config told nodes × FindsFrom config (passed + 1) (nodes_after config told nodes) records found) ⊎ ((Agrees config told nodes → ⊥) × (found ≡ FirstDifference (passed + 1)))
        → FindsIn config passed nodes (record_line tenant told ∷ map (record_line tenant) records) found
    by rest (inl goes) = inl (told, told_back tenant told named all.0, goes.0, rest goes.1)
    by rest (inr stops) = inr (
      (λ other is agrees. stops.0 (subst (λ (t : Record). Agrees config t nodes) (same_value other told (sym is ∙ told_back tenant told named all.0)) agrees)),
      stops.1,
    )

pub all_formed : (tenant : List ℕ) (records : List Record) → AllByRecursion (HasLine tenant) records → AllByRecursion (λ (told : Record). IsTrue (is_record told)) records
all_formed tenant [] all = tt
all_formed tenant (told ∷ records) all = (all.0.formed, all_formed tenant records all.1)

pub text_replays : (config : TenantConfig) (tenant : List ℕ) (records : List Record) (found : Replayed) → IsTrue (is_name tenant) → AllByRecursion (HasLine tenant) records
    → Finds config records found → FindsIn config 0 (fresh_nodes config) (lines_of (records_text tenant records)) found
text_replays config tenant records found named all finds = grind (arith, nat_tests, all_formed, found_in, text_lines)

pub formed : (config : Config) (nodes : TenantConfig → ℕ → List SoloNode) → HaveLines config nodes → AreFormed config nodes
formed config nodes all slot tenant e = all_formed tenant.name (his_records config nodes slot tenant) (all slot tenant e)

pub says_same : (lines rest : List (List ℕ)) (config : Config) (nodes : TenantConfig → ℕ → List SoloNode) (slot : ℕ) (tenant : Tenant) → head_of lines ≡ Whole config rest → HaveLines config nodes →
    slice_get config.tenants slot ≡ Some tenant → ReplaysSame (tenant_config config tenant) (nodes (tenant_config config tenant) slot) →
    IsReplayOf tenant.name (audit_text config nodes) (replayed_text (Same (length (his_records config nodes slot tenant))))
says_same lines rest config nodes slot tenant head all e same =
    let known = head_known lines rest config head in
    let his = tenant_config config tenant in
    let records = his_records config nodes slot tenant in
    let text = tenants_text config nodes 0 config.tenants in
    let own : alone_lines tenant.name (lines_of text) ≡ map (record_line tenant.name) records = lines_his config nodes lines rest slot tenant head (formed config nodes all) e in
    subst (λ layout. IsReplayBy layout tenant.name (lines_of (audit_text config nodes)) (replayed_text (Same (length records)))) (sym (text_is_todays lines rest config text head)) (record {
      audit = record { config = config; records = lines_of text; slot = slot; tenant = tenant; head = text_reads_back lines rest config text head; there = named_at config.tenants slot tenant known.apart e; tenant_is = e };
      fits = none_great_today (alone_lines tenant.name (lines_of text));
      found = Same (length records);
      finds = subst (λ its. FindsBy Today Today his 0 (fresh_nodes his) its (Same (length records))) (sym own)
          (found_in his tenant.name 0 (fresh_nodes his) records (Same (length records)) (name_of config.tenants slot tenant known.named e) (all slot tenant e) same);
      text_is = refl;
    })

-- ---- of a script

pub same_text : (text other : List ℕ) → Written text ≡ Written other → text ≡ other
same_text text other e = cc

by_head : (lines : List (List ℕ)) (reading : HeadReading) (text : List ℕ) → head_of lines ≡ reading → audit_after reading ≡ Written text → AreFormedFor reading → ReplaysSameFor reading → SaysSameFor reading text
by_head lines (Whole config rest) text head is formed same =
    let left = left_config config rest in
    let nodes = left_nodes config rest in
    subst (SaysSame left nodes) (same_text (audit_text left nodes) text is)
    (λ place tenant e. says_same (written_head left) [] left nodes place tenant (open_head lines rest config head) (left_lines lines rest config head formed) e (same place tenant e))
by_head lines (BadAt number) text head is formed same = tt

pub script_says_same : (bytes text : List ℕ) → audit_out bytes ≡ Written text → AreFormedFor (head_of (lines_of bytes)) → ReplaysSameFor (head_of (lines_of bytes)) → SaysSameFor (head_of (lines_of bytes)) text
script_says_same bytes text is formed same = by_head (lines_of bytes) (head_of (lines_of bytes)) text refl is formed same
