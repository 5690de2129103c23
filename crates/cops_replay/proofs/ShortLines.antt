-- No line in the audit of a script is too long.
use Rattle.cops_replay.proofs.Names.{◌≡◌, ℕ, ◌+◌, ◌≤◌, List, [], ◌∷◌, length, map, sym, subst, arith, IsTrue, Some, nat_le, slice_get, slice_index_or, Option, AllByRecursion, nat_tests, Config, Tenant, Whole, head_of, TenantConfig, tenant_config, Every-append, begun_with, open_at, AuditEntry, NodeId, id_of, SoloNode, said_to, life_left, setup_left, Record, record_of, records_from, left_config, left_nodes, open_slots, is_record, record_line, HasLine, longest_record, AreFormed, HaveLines, his_records, is_name, cluster_of, config_at, own, of_lives, with_all_lives, Lives, first_lives, lives_after, lives_past, HasFew, HasFewInAudit, audits_few, Every-front, events_in, said_by_lines, few_deps, shards_of, name_of, said_in, tenants_after, tenants_past, AreNumbered, AreOf, next_numbered, numbered_first, of_all_lives, said_in-placed, quota_at}
use Rattle.cops_replay.proofs.AuditLines.{head_known}
use Rattle.cops_replay.proofs.HeadsBack.{written_head}
use Rattle.cops_replay.proofs.LineLengths.{line_short}
use Rattle.cops_replay.proofs.OpenHeads.{open_head}
use Rattle.cops_replay.proofs.OpenLists.{open_there}
use Rattle.cops_replay.proofs.AuditTexts.{AllFormed}

to_test : (n m : ℕ) → n ≤ m → IsTrue (nat_le n m)
to_test n m h = grind (arith, nat_tests)

module _ (config : TenantConfig) (limit : config.quota.deps ≤ 1024) (name : List ℕ) (named : IsTrue (is_name name)) where
  abbrev IsShort : Record → Type 0
  IsShort told = IsTrue (nat_le (length (record_line name told)) longest_record)

  one_node_short : (id : NodeId) (trail : List AuditEntry) → AllFormed (map (record_of id) trail) → AllByRecursion (HasFew config) trail → AllByRecursion IsShort (map (record_of id) trail)
  one_node_short id [] formed few = tt
  one_node_short id (entry ∷ trail) formed few = (
    to_test (length (record_line name (record_of id entry))) longest_record (line_short config limit name (record_of id entry) named formed.0 few.0.asked few.0.told),
    one_node_short id trail formed.1 few.1,
  )

  nodes_short : (shards number : ℕ) (nodes : List SoloNode) → AllFormed (records_from shards number nodes) → AllByRecursion (HasFewInAudit config) nodes → AllByRecursion IsShort (records_from shards number nodes)
  nodes_short shards number [] formed few = tt
  nodes_short shards number (node ∷ nodes) formed few =
      let its = map (record_of (id_of shards number)) node.trail in
      let more = records_from shards (number + 1) nodes in
      let parts = Every-front (λ (told : Record). IsTrue (is_record told)) its more formed in
      Every-append IsShort its more (one_node_short (id_of shards number) node.trail parts.0 few.0) (nodes_short shards (number + 1) nodes parts.1 few.1)

-- ---- the cluster that a script leaves an open tenant is one of its configuration

past_numbered : (config : Config) (tenants : List (Option Tenant)) (lives : Lives) (lines : List (List ℕ)) → AreNumbered config tenants lives → AreOf config lives (said_to tenants lines) →
    AreNumbered config (tenants_past tenants (said_to tenants lines)) (lives_past lives (said_to tenants lines))
past_numbered config tenants lives [] numbered of = numbered
past_numbered config tenants lives (line ∷ lines) numbered of =
    let said = said_in tenants line in
    past_numbered config (tenants_after tenants said) (lives_after lives said) lines (next_numbered config tenants lives said numbered (said_in-placed tenants line) of.0) of.1

-- its life has its configuration
pub config_of_life : (config : Config) (lines : List (List ℕ)) (slot : ℕ) (tenant : Tenant) → open_at slot (setup_left config lines).tenants ≡ Some tenant →
    config_at (with_all_lives config (said_by_lines config lines)) (life_left config lines slot) ≡ tenant_config config tenant
config_of_life config lines slot tenant there =
    let said = said_by_lines config lines in
    let numbered = past_numbered (with_all_lives config said) (begun_with config.tenants) (first_lives config) lines (numbered_first config said) (of_all_lives config said) in
    quota_at (with_all_lives config said) (life_left config lines slot) tenant (numbered.tenant_is slot tenant there)

-- of a tenant who is open behind a script
short_at : (lines rest : List (List ℕ)) (config : Config) (place : ℕ) (tenant : Tenant) → head_of lines ≡ Whole config rest → slice_get (left_config config rest).tenants place ≡ Some tenant →
    AllFormed (his_records (left_config config rest) (left_nodes config rest) place tenant) →
    AllByRecursion (λ (told : Record). IsTrue (nat_le (length (record_line tenant.name told)) longest_record)) (his_records (left_config config rest) (left_nodes config rest) place tenant)
short_at lines rest config place tenant head e formed =
    let left = left_config config rest in
    let stands = open_head lines rest config head in
    let his = tenant_config left tenant in
    let named = name_of left.tenants place tenant (head_known (written_head left) [] left stands).named e in
    let tenants = (setup_left config rest).tenants in
    let slot = slice_index_or (open_slots tenants) place 0 in
    let life = life_left config rest slot in
    let said = said_by_lines config rest in
    let acts = own life (events_in (of_lives config said)) in
    let same : config_at (with_all_lives config said) life ≡ his = config_of_life config rest slot tenant (open_there tenants place tenant e) in
    let few : AllByRecursion (HasFewInAudit his) (left_nodes config rest his place) =
    subst (λ (c : TenantConfig). AllByRecursion (HasFewInAudit his) (cluster_of c acts).nodes) (sym same) (audits_few his (shards_of (written_head left) left [] stands) acts) in
    nodes_short his (few_deps (written_head left) left [] place tenant stands e) tenant.name named his.shards 0 (left_nodes config rest his place) formed few

-- each record has a line if it has a form and its line is not too long
lines_of_both : (tenant : List ℕ) (records : List Record) → AllByRecursion (λ (told : Record). IsTrue (is_record told)) records →
    AllByRecursion (λ (told : Record). IsTrue (nat_le (length (record_line tenant told)) longest_record)) records → AllByRecursion (HasLine tenant) records
lines_of_both tenant [] formed short = tt
lines_of_both tenant (told ∷ records) formed short = (record { formed = formed.0; short = short.0 }, lines_of_both tenant records formed.1 short.1)

-- so each of its records has a line
pub lines_at : (lines rest : List (List ℕ)) (config : Config) (place : ℕ) (tenant : Tenant) → head_of lines ≡ Whole config rest → slice_get (left_config config rest).tenants place ≡ Some tenant →
    AllFormed (his_records (left_config config rest) (left_nodes config rest) place tenant) → AllByRecursion (HasLine tenant.name) (his_records (left_config config rest) (left_nodes config rest) place tenant)
lines_at lines rest config place tenant head e formed =
    lines_of_both tenant.name (his_records (left_config config rest) (left_nodes config rest) place tenant) formed (short_at lines rest config place tenant head e formed)

pub left_lines : (lines rest : List (List ℕ)) (config : Config) → head_of lines ≡ Whole config rest → AreFormed (left_config config rest) (left_nodes config rest) → HaveLines (left_config config rest) (left_nodes config rest)
left_lines lines rest config head formed place tenant e = lines_at lines rest config place tenant head e (formed place tenant e)
