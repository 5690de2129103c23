-- The audit of a script's world is that of its text, and the audit of one slot is the part of the tenant who is open there.
use Rattle.cops_replay.proofs.Names.{◌≡◌, ℕ, List, refl, sym, subst, ap, ◌∙◌, Option, Some, None, IfErr, IfSome, OnErr, OnOk, Result, Ok, Err, IsTrue, is_some, slice_get, slice_index_or, zero, suc, [], ◌∷◌, length, inl, inr, AllByRecursion, Appends, IfErr-weaker, Tenant, RunFault, ReadFault, head_of, IfRunRefused, lines_of, open_at, AppendsFront, TenantConfig, tenant_config, HasTenant, nodes_of, shape_of, SoloNode, Setup, config_of, is_open_at, Written, IsLeftBy, cluster_left, life_left, HasOpenCluster, KeptWorld, open_setup, Record, HasItsTenants, ReplaysSameFor, audit_after, audit_out, open_config, open_nodes, AreFormed, AreFormedFor, SaysSameFor, HasShape, ReplaysSame, audit_text, records_of, left_config, left_nodes, open_slots, open_tenants, with_tenants, is_record, Keeps, Config, Whole, BadAt, open_slot_of_name, same_value, IsCluster, Shared, setup_left, Same, PartRefusal, HaveLines, his_records, AreNodesAt, nodes_at, IsOpenIn, IsOwnAudit, IsOwnAuditAfter, IsOwnAuditOf, RefusesOwnAuditAfter, RefusesOwnAuditOf, own_records, own_audit_text, HasLine, IsReplayOf, replayed_text, config_in, BadHead, text_in, IsLeftByRead, IsOfWriting, WritesAudit, WritesAuditFront, at_slots, BadConfig, IsOpenAt, IsSlotFormed, LacksTenant, SaysSameOwn, WritesOwnAudit, WritesOwnAuditFront, WritesSlot, WritesSlotFront, as_part_fault, slot_audit}
use Rattle.cops_script.specs.declared.line_runs.fault.RunFault.TheVariants.{Refused}
use Rattle.cops_replay.proofs.AuditTexts.{audit_text-same, AllFormed}
use Rattle.cops_replay.proofs.OpenLists.{open_there}
use Rattle.cops_replay.proofs.PageLemmas.{front_of_none}
use Rattle.cops_replay.proofs.WrittenAudits.{script_says_same, says_same}
use Rattle.cops_replay.proofs.HeadsBack.{written_head}
use Rattle.cops_replay.proofs.OpenHeads.{lone_head}
use Rattle.cops_replay.proofs.OwnAuditParts.{has_place, own_audit_text_is}
use Rattle.cops_replay.proofs.FileRuns.{kept}
use Rattle.cops_replay.proofs.ShortLines.{lines_at}

module _ (world : KeptWorld) (bytes : List ℕ) (left : IsLeftBy open_setup HasOpenCluster bytes world) where
  abbrev setup : Setup
  setup = world.setup

  -- an open tenant has the cluster after its life's lines
  stands : (slot : ℕ) (tenant : Tenant) → open_at slot setup.tenants ≡ Some tenant → HasOpenCluster world slot (cluster_left left.config left.lines (life_left left.config left.lines slot))
  stands slot tenant e = left.clusters slot (ap (λ (s : Setup). is_open_at s slot) (sym left.setup_is) ∙ ap is_some e)

  -- and its configuration
  his_config : (slot : ℕ) (tenant : Tenant) → open_at slot setup.tenants ≡ Some tenant → config_in setup slot ≡ tenant_config setup.head tenant
  his_config slot tenant e = ap (config_of setup.head) e

  pub world_tenants : HasItsTenants world
  world_tenants slot tenant e = subst (λ (c : TenantConfig). HasTenant c slot world.nodes) (his_config slot tenant e) (stands slot tenant e).has

  -- the nodes that are left to the tenant of a place
  abbrev nodes_there : Setup → TenantConfig → ℕ → List SoloNode
  nodes_there s = at_slots (open_slots s.tenants) (λ tenant slot. (cluster_left left.config left.lines (life_left left.config left.lines slot)).nodes)

  are_there : (place : ℕ) (tenant : Tenant) → slice_get (open_config world).tenants place ≡ Some tenant → open_nodes world (tenant_config setup.head tenant) place ≡ nodes_there setup (tenant_config setup.head tenant) place
  are_there place tenant e =
      let slot = slice_index_or (open_slots setup.tenants) place 0 in
      let there = open_there setup.tenants place tenant e in
      subst (λ (c : TenantConfig). nodes_of c slot world.nodes ≡ (cluster_left left.config left.lines (life_left left.config left.lines slot)).nodes) (his_config slot tenant there) (stands slot tenant there).nodes_are

  -- their audit is the text
  audit_is : audit_text (open_config world) (open_nodes world) ≡ audit_text (left_config left.config left.lines) (left_nodes left.config left.lines)
  audit_is =
      audit_text-same (open_config world) (open_nodes world) (nodes_there setup) are_there
      ∙ ap (λ (s : Setup). audit_text (with_tenants s.head (open_tenants s.tenants)) (nodes_there s)) left.setup_is

  out_is : audit_out bytes ≡ Written (audit_text (open_config world) (open_nodes world))
  out_is = ap audit_after left.head ∙ ap Written (sym audit_is)

  pub writes_audit : (old_contents new_contents : Option (List ℕ)) → Appends old_contents new_contents (audit_text (open_config world) (open_nodes world)) → WritesAudit bytes old_contents new_contents
  writes_audit old_contents new_contents written = record { text = audit_text (open_config world) (open_nodes world); is_audit = out_is; written = written }

  pub writes_front : (old_contents new_contents : Option (List ℕ)) → AppendsFront old_contents new_contents (audit_text (open_config world) (open_nodes world)) → WritesAuditFront bytes old_contents new_contents
  writes_front old_contents new_contents written = subst (AppendsFront old_contents new_contents) (sym (ap text_in out_is)) written

  -- what holds of each open tenant, and of its nodes, holds of those that remain
  of_left : (P : TenantConfig → Tenant → List SoloNode → Type 0) → ((place : ℕ) (tenant : Tenant) → slice_get (open_config world).tenants place ≡ Some tenant → P (tenant_config setup.head tenant) tenant (open_nodes world (tenant_config setup.head tenant) place)) →
      (place : ℕ) (tenant : Tenant) → slice_get (left_config left.config left.lines).tenants place ≡ Some tenant → P (tenant_config left.config tenant) tenant (left_nodes left.config left.lines (tenant_config left.config tenant) place)
  of_left P each =
      subst (λ (s : Setup). (place : ℕ) (tenant : Tenant) → slice_get (open_tenants s.tenants) place ≡ Some tenant → P (tenant_config s.head tenant) tenant (nodes_there s (tenant_config s.head tenant) place)) left.setup_is
      (λ place tenant e. subst (P (tenant_config setup.head tenant) tenant) (are_there place tenant e) (each place tenant e))

  pub replays_same_for : ((config : TenantConfig) (slot : ℕ) → HasShape config (shape_of setup.head) → ReplaysSame config (nodes_of config slot world.nodes)) → ReplaysSameFor (head_of (lines_of bytes))
  replays_same_for same =
      subst ReplaysSameFor (sym left.head) (of_left (λ config tenant nodes. ReplaysSame config nodes)
      (λ place tenant e. same (tenant_config setup.head tenant) (slice_index_or (open_slots setup.tenants) place 0) (record { data_centres = refl; shards = refl })))

  -- each record that was written has a form
  pub formed_for : AreFormed (open_config world) (open_nodes world) → AreFormedFor (head_of (lines_of bytes))
  formed_for formed =
      subst AreFormedFor (sym left.head) (of_left (λ config tenant nodes. AllByRecursion (λ (told : Record). IsTrue (is_record told)) (records_of config nodes))
      (λ place tenant e. formed place tenant e))

  -- so a replay of the text finds them the same
  pub says_same_left : ((config : TenantConfig) (slot : ℕ) → HasShape config (shape_of setup.head) → ReplaysSame config (nodes_of config slot world.nodes)) → AreFormed (open_config world) (open_nodes world) →
      (text : List ℕ) → audit_out bytes ≡ Written text → SaysSameFor (head_of (lines_of bytes)) text
  says_same_left same formed text is = script_says_same bytes text is (formed_for formed) (replays_same_for same)

-- the same, if the bytes of the reader may be known
pub tenants_read : (world : KeptWorld) (old_remaining new_remaining : Option (List ℕ)) → IsLeftByRead open_setup HasOpenCluster old_remaining new_remaining world → HasItsTenants world
tenants_read world old_remaining new_remaining read = world_tenants world read.bytes read.left

pub none_audited : (known contents : Option (List ℕ)) → IfSome known (λ bytes. WritesAuditFront bytes contents contents)
none_audited None contents = tt
none_audited (Some bytes) contents = front_of_none contents (text_in (audit_out bytes))

-- ---- faults of the writing

pub on_ok_any : {T E : Type 0} (P : Type 0) (r : Result T E) → P → OnOk r P
on_ok_any P (Ok x) h = h
on_ok_any P (Err x) h = tt

pub on_err_any : {T E : Type 0} (P : Type 0) (r : Result T E) → P → OnErr r P
on_err_any P (Ok x) h = tt
on_err_any P (Err x) h = h

not_refused : (P : BadHead → Type 0) (why : RunFault BadHead) → IsOfWriting why → IfRunRefused why P
not_refused P (Refused bad) h = absurd h
not_refused P why h = tt

pub never_refused : (P : BadHead → Type 0) (r : Result (Unit {0}) (RunFault BadHead)) → IfErr r IsOfWriting → IfErr r (λ why. IfRunRefused why P)
never_refused P r h = IfErr-weaker r _ _ (not_refused P) h

pub never_read : (r : Result (Unit {0}) (RunFault BadHead)) → IfErr r IsOfWriting → r ≡ Err ReadFault → ⊥
never_read (Ok x) h e = let clash : ⊥ = cc in clash
never_read (Err why) h e = let same : why ≡ ReadFault = cc in subst IsOfWriting same h

-- ---- the audit of one slot

-- what holds of the only tenant of a list holds of each
of_only : (P : ℕ → Tenant → Type 0) (tenant : Tenant) → P 0 tenant → (slot : ℕ) (other : Tenant) → slice_get (tenant ∷ []) slot ≡ Some other → P slot other
of_only P tenant holds zero other e = subst (P 0) (same_value tenant other e) holds
of_only P tenant holds (suc slot) other e = absurd (let clash : ⊥ = cc in clash)

-- what holds of a world's configuration and nodes holds of those that are shown of it
pub of_shown : (P : Config → List Shared → Type 0) (world : KeptWorld) (config : Config) (nodes : List Shared) → config ≡ world.setup.head → nodes ≡ world.nodes.nodes → P config nodes → P world.setup.head world.nodes.nodes
of_shown P world config nodes same all holds = subst (λ (ns : List Shared). P world.setup.head ns) all (subst (λ (c : Config). P c nodes) same holds)

pub of_kept : (P : Config → List Shared → Type 0) (world : KeptWorld) (config : Config) (nodes : List Shared) → config ≡ world.setup.head → nodes ≡ world.nodes.nodes → P world.setup.head world.nodes.nodes → P config nodes
of_kept P world config nodes same all holds = subst (λ (c : Config). P c nodes) (sym same) (subst (λ (ns : List Shared). P world.setup.head ns) (sym all) holds)

-- the slot of an open tenant is that tenant's in each node
pub slot_nodes : (world : KeptWorld) (slot : ℕ) (tenant : Tenant) → IsCluster (shape_of world.setup.head) world.nodes.nodes → HasItsTenants world → open_at slot world.setup.tenants ≡ Some tenant →
    AreNodesAt world.setup.head (tenant ∷ []) (slot ∷ []) world.nodes.nodes
slot_nodes world slot tenant by_number has there = record {
  by_number = by_number;
  each_slot = refl;
  each_tenant = of_only (λ place other. HasTenant (tenant_config world.setup.head other) (slice_index_or (slot ∷ []) place 0) (record { shape = shape_of world.setup.head; nodes = world.nodes.nodes })) tenant (has slot tenant there);
}

-- a replay of any tenant's records finds them all the same
abbrev pub AllSame : KeptWorld → Type 0
AllSame world = (config : TenantConfig) (slot : ℕ) → HasShape config (shape_of world.setup.head) → ReplaysSame config (nodes_of config slot world.nodes)

module _ (world : KeptWorld) (bytes : List ℕ) (left : IsLeftBy open_setup HasOpenCluster bytes world) where
  abbrev config : Config
  config = left.config

  abbrev lines : List (List ℕ)
  lines = left.lines

  abbrev slots_left : List (Option Tenant)
  slots_left = (setup_left config lines).tenants

  opened_in : (name : List ℕ) (slot : ℕ) (tenant : Tenant) → IsOpenAt world name slot tenant → IsOpenIn config lines name slot tenant
  opened_in name slot tenant at = record {
    there = ap (λ (s : Setup). open_slot_of_name s.tenants name) (sym left.setup_is) ∙ at.there;
    tenant_is = ap (λ (s : Setup). open_at slot s.tenants) (sym left.setup_is) ∙ at.tenant_is;
  }

  -- the nodes of a slot are those after its life's lines
  nodes_left : (slot : ℕ) (tenant : Tenant) → open_at slot world.setup.tenants ≡ Some tenant →
      nodes_of (tenant_config world.setup.head tenant) slot world.nodes ≡ (cluster_left config lines (life_left config lines slot)).nodes
  nodes_left slot tenant e =
      let stands = left.clusters slot (ap (λ (s : Setup). is_open_at s slot) (sym left.setup_is) ∙ ap is_some e) in
      subst (λ (c : TenantConfig). nodes_of c slot world.nodes ≡ (cluster_left config lines (life_left config lines slot)).nodes) (ap (config_of world.setup.head) e) stands.nodes_are

  -- and so are its records
  records_left : (slot : ℕ) (tenant : Tenant) → open_at slot world.setup.tenants ≡ Some tenant →
      records_of (tenant_config world.setup.head tenant) (nodes_of (tenant_config world.setup.head tenant) slot world.nodes) ≡ own_records config lines slot tenant
  records_left slot tenant e =
      ap (records_of (tenant_config world.setup.head tenant)) (nodes_left slot tenant e)
      ∙ ap (λ (s : Setup). records_of (tenant_config s.head tenant) (cluster_left config lines (life_left config lines slot)).nodes) left.setup_is

  slot_text : (slot : ℕ) (tenant : Tenant) → open_at slot world.setup.tenants ≡ Some tenant → slot_audit world slot tenant ≡ own_audit_text config tenant (own_records config lines slot tenant)
  slot_text slot tenant e =
      own_audit_text_is world.setup.head tenant (nodes_at world.setup.head (slot ∷ []) world.nodes.nodes)
      ∙ ap (own_audit_text world.setup.head tenant) (records_left slot tenant e)
      ∙ ap (λ (s : Setup). own_audit_text s.head tenant (own_records config lines slot tenant)) left.setup_is

  own_audit : (name : List ℕ) (slot : ℕ) (tenant : Tenant) → IsOpenAt world name slot tenant → IsOwnAuditOf name bytes (slot_audit world slot tenant)
  own_audit name slot tenant at =
      subst (λ reading. IsOwnAuditAfter reading name (slot_audit world slot tenant)) (sym left.head)
      (record { slot = slot; tenant = tenant; opened = opened_in name slot tenant at; text_is = slot_text slot tenant at.tenant_is })

  pub writes_own : (name : List ℕ) (old_contents new_contents : Option (List ℕ)) → WritesSlot world name old_contents new_contents → WritesOwnAudit name bytes old_contents new_contents
  writes_own name old_contents new_contents w = (slot_audit world w.slot w.tenant, own_audit name w.slot w.tenant w.opened, w.written)

  pub writes_own_front : (name : List ℕ) (old_contents new_contents : Option (List ℕ)) → WritesSlotFront world name old_contents new_contents → WritesOwnAuditFront name bytes old_contents new_contents
  writes_own_front name old_contents new_contents (inl kept) = inl kept
  writes_own_front name old_contents new_contents (inr (slot, tenant, at, written)) = inr (slot_audit world slot tenant, own_audit name slot tenant at, written)

  lacks_own : (name : List ℕ) (refusal : PartRefusal) → LacksTenant world name refusal → RefusesOwnAuditOf name bytes refusal
  lacks_own name refusal lacks =
      subst (λ reading. RefusesOwnAuditAfter reading name refusal) (sym left.head)
      (subst (λ r. RefusesOwnAuditAfter (Whole config lines) name r) (sym lacks.0) (ap (λ (s : Setup). open_slot_of_name s.tenants name) (sym left.setup_is) ∙ lacks.1))

  -- a replay of the audit of the slot
  says_own : (name : List ℕ) (slot : ℕ) (tenant : Tenant) → IsOpenAt world name slot tenant → IsSlotFormed world slot tenant → AllSame world →
      IsReplayOf name (slot_audit world slot tenant) (replayed_text (Same (length (own_records config lines slot tenant))))
  says_own name slot tenant at formed same =
      let head = world.setup.head in
      let lone = with_tenants head (tenant ∷ []) in
      let nodes = nodes_at head (slot ∷ []) world.nodes.nodes in
      let its : his_records lone nodes 0 tenant ≡ own_records config lines slot tenant = records_left slot tenant at.tenant_is in
      let there = has_place (lines_of bytes) lines config left.head name slot tenant (opened_in name slot tenant at) in
      let every : AllFormed (his_records lone nodes 0 tenant) = formed 0 tenant refl in
      let listed : AllByRecursion (HasLine tenant.name) (his_records (left_config config lines) (left_nodes config lines) there.place tenant) =
      lines_at (lines_of bytes) lines config there.place tenant left.head there.listed (subst AllFormed (its ∙ sym there.records) every) in
      let have : AllByRecursion (HasLine tenant.name) (his_records lone nodes 0 tenant) = subst (AllByRecursion (HasLine tenant.name)) (there.records ∙ sym its) listed in
      let stands : head_of (written_head lone) ≡ Whole lone [] =
      subst (λ (s : Setup). head_of (written_head (with_tenants s.head (tenant ∷ []))) ≡ Whole (with_tenants s.head (tenant ∷ [])) []) (sym left.setup_is)
      (lone_head (lines_of bytes) lines config left.head there.place tenant there.listed) in
      let all : HaveLines lone nodes = of_only (λ s t. AllByRecursion (HasLine t.name) (his_records lone nodes s t)) tenant have in
      let says = says_same (written_head lone) [] lone nodes 0 tenant stands all refl (same (tenant_config head tenant) slot (record { data_centres = refl; shards = refl })) in
      subst (λ n. IsReplayOf n (slot_audit world slot tenant) (replayed_text (Same (length (own_records config lines slot tenant))))) there.named
      (subst (λ (records : List Record). IsReplayOf tenant.name (slot_audit world slot tenant) (replayed_text (Same (length records)))) its says)

  -- so a replay of the part, whichever slot it is that has the name
  pub says_part : (name : List ℕ) (old_contents new_contents : Option (List ℕ)) → WritesSlot world name old_contents new_contents → AllSame world → (part : List ℕ) → IsOwnAuditOf name bytes part → SaysSameOwn (head_of (lines_of bytes)) name part
  says_part name old_contents new_contents w same part own =
      subst (λ reading. SaysSameOwn reading name part) (sym left.head) (λ slot tenant opened.
      let its : IsOwnAudit config lines name part = subst (λ reading. IsOwnAuditAfter reading name part) left.head own in
      let here = opened_in name w.slot w.tenant w.opened in
      let slot_is : its.slot ≡ w.slot = same_value its.slot w.slot (sym its.opened.there ∙ here.there) in
      let tenant_is : its.tenant ≡ w.tenant = same_value its.tenant w.tenant (sym its.opened.tenant_is ∙ ap (λ n. open_at n slots_left) slot_is ∙ here.tenant_is) in
      let other_slot : w.slot ≡ slot = same_value w.slot slot (sym here.there ∙ opened.there) in
      let other_tenant : w.tenant ≡ tenant = same_value w.tenant tenant (sym here.tenant_is ∙ ap (λ n. open_at n slots_left) other_slot ∙ opened.tenant_is) in
      let text : part ≡ slot_audit world w.slot w.tenant =
      its.text_is ∙ (λ i. own_audit_text config (tenant_is i) (own_records config lines (slot_is i) (tenant_is i))) ∙ sym (slot_text w.slot w.tenant w.opened.tenant_is) in
      subst (λ p. IsReplayOf name p (replayed_text (Same (length (own_records config lines slot tenant))))) (sym text)
      (subst (λ (records : List Record). IsReplayOf name (slot_audit world w.slot w.tenant) (replayed_text (Same (length records)))) (λ i. own_records config lines (other_slot i) (other_tenant i))
      (says_own name w.slot w.tenant w.opened w.formed same)))

-- ---- the tenant of a name

-- the tenants that are shown are the world's
pub opened_at : (world : KeptWorld) (tenants : List (Option Tenant)) (name : List ℕ) (slot : ℕ) (tenant : Tenant) → tenants ≡ world.setup.tenants → open_slot_of_name tenants name ≡ Some slot → open_at slot tenants ≡ Some tenant → IsOpenAt world name slot tenant
opened_at world tenants name slot tenant same found has = record {
  there = ap (λ (ts : List (Option Tenant)). open_slot_of_name ts name) (sym same) ∙ found;
  tenant_is = ap (open_at slot) (sym same) ∙ has;
}

-- ---- if the bytes of the reader may be known

pub both_ok : {T E P Q R : Type 0} (r : Result T E) → (P → Q → R) → OnOk r P → OnOk r Q → OnOk r R
both_ok (Ok x) h p q = h p q
both_ok (Err e) h p q = tt

pub own_lacks : (world : KeptWorld) (name : List ℕ) (known : Option (List ℕ)) → IfSome known (λ bytes. IsLeftBy open_setup HasOpenCluster bytes world) →
    (why : RunFault PartRefusal) → IfRunRefused why (LacksTenant world name) → IfRunRefused why (λ refusal. IfSome known (λ bytes. RefusesOwnAuditOf name bytes refusal))
own_lacks world name None left (Refused refusal) lacks = tt
own_lacks world name (Some bytes) left (Refused refusal) lacks = lacks_own world bytes left name refusal lacks
own_lacks world name known left why lacks = tt

pub err_refused : (world : KeptWorld) (name : List ℕ) (known : Option (List ℕ)) → IfSome known (λ bytes. IsLeftBy open_setup HasOpenCluster bytes world) →
    (result : Result (Unit {0}) (RunFault PartRefusal)) → IfErr result (λ why. IfRunRefused why (LacksTenant world name)) → IfErr result (λ why. IfRunRefused why (λ refusal. IfSome known (λ bytes. RefusesOwnAuditOf name bytes refusal)))
err_refused world name known left result lacks = IfErr-weaker result _ _ (own_lacks world name known left) lacks

-- ---- a script that is refused

abbrev pub HasBad : Option (List ℕ) → BadHead → Type 0
HasBad known bad = IfSome known (λ bytes. head_of (lines_of bytes) ≡ BadAt bad.line)

bad_is : (name : List ℕ) (known : Option (List ℕ)) (bad : BadHead) → HasBad known bad → IfRunRefused (as_part_fault (Refused bad)) (λ refusal. IfSome known (λ bytes. RefusesOwnAuditOf name bytes refusal))
bad_is name None bad e = tt
bad_is name (Some bytes) bad e = subst (λ reading. RefusesOwnAuditAfter reading name (BadConfig bad)) (sym e) refl

pub bad_refused : (name : List ℕ) (known : Option (List ℕ)) (fault : RunFault BadHead) (why : RunFault PartRefusal) → why ≡ as_part_fault fault → IfRunRefused fault (HasBad known) →
    IfRunRefused why (λ refusal. IfSome known (λ bytes. RefusesOwnAuditOf name bytes refusal))
bad_refused name known fault why is bad = subst (λ w. IfRunRefused w (λ refusal. IfSome known (λ bytes. RefusesOwnAuditOf name bytes refusal))) (sym is) (by fault bad)
  where
    by : (fault : RunFault BadHead) → IfRunRefused fault (HasBad known) → IfRunRefused (as_part_fault fault) (λ refusal. IfSome known (λ bytes. RefusesOwnAuditOf name bytes refusal))
    by (Refused bad) h = bad_is name known bad h
    by fault h = tt

pub nothing_kept : (contents : Option (List ℕ)) (why : RunFault PartRefusal) → IfRunRefused why (λ refusal. Keeps contents contents)
nothing_kept contents (Refused refusal) = kept contents
nothing_kept contents why = tt

pub no_own_front : (name : List ℕ) (known contents : Option (List ℕ)) → IfSome known (λ bytes. WritesOwnAuditFront name bytes contents contents)
no_own_front name None contents = tt
no_own_front name (Some bytes) contents = inl (kept contents)
