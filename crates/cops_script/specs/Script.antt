-- The output of a script.
use Rattle.std.specs.Prelude.{ℕ, Bool, false, ◌+◌, ◌||◌, if◌then◌else◌, List, [], ◌∷◌, map, filter, filter_map, flat_map, drop, slice_set, slice_index_or, Option, Some, None}
use Rattle.std.specs.List.{list_any}
use Rattle.std.specs.Str.{bytes_eq}
use Rattle.cops_types.specs.declared.configs.Config.{Config}
use Rattle.cops_types.specs.declared.configs.Tenant.{Tenant}
use Rattle.cops_types.specs.declared.faults.Fault.TheVariants.{Syntax}
use Rattle.cops_types.specs.Head.{HeadReading, Whole, BadAt, head_of}
use Rattle.cops_types.specs.Lines.{lines_of}
use Rattle.cops_types.specs.OpenSlots.{begun_with}
use Rattle.cops_types.specs.TenantConfig.{TenantConfig, tenant_config}
use Rattle.cops_types.specs.Words.{first_word}
use Rattle.cops_model.specs.declared.acts.Event.{Event}
use Rattle.cops_model.specs.declared.replies.Reply.{Reply}
use Rattle.cops_model.specs.declared.replies.Reply.TheVariants.{Refused}
use Rattle.cops_model.specs.Events.{own, solo_replies}
use Rattle.cops_script.specs.Lives.{of_lives, with_all_lives}
use Rattle.cops_script.specs.Said.{Said, OfHost, Unformed, Acts, is_host_line, said_in, tenants_after}
use Rattle.cops_script.specs.Answers.{Answer, ToHost, ToTenant, answer_line, name_at, reply_to_host}

-- ---- answers

abbrev pub event_in : Said → Option Event
event_in (OfHost deed) = None
event_in (Unformed life) = None
event_in (Acts event) = Some event

abbrev pub events_in : List Said → List Event
events_in said = filter_map event_in said

-- for each tenant, by number, the replies to its acts in a cluster of its own
abbrev pub told_from : ℕ → List TenantConfig → List Event → List (List Reply)
told_from number [] events = []
told_from number (config ∷ configs) events = solo_replies config (own number events) ∷ told_from (number + 1) configs events

abbrev pub first_reply : List Reply → Reply
first_reply [] = Refused Syntax
first_reply (reply ∷ replies) = reply

-- the answer to each line: an act of a tenant gets that tenant's next reply, a line of no known form a syntax fault
abbrev pub answers : List Said → List (List Reply) → List Answer
answers [] told = []
answers (OfHost deed ∷ said) told = ToHost (reply_to_host deed) ∷ answers said told
answers (Unformed number ∷ said) told = ToTenant number (Refused Syntax) ∷ answers said told
answers (Acts event ∷ said) told =
    ToTenant event.slot (first_reply (slice_index_or told event.slot []))
    ∷ answers said (slice_set told event.slot (drop 1 (slice_index_or told event.slot [])))

-- the same for requests of the configuration's tenants
abbrev pub answers_of : Config → List Said → List Answer
answers_of config said = answers said (told_from 0 (map (tenant_config config) config.tenants) (events_in said))

-- the meaning of lines, one after another, starting with these tenants
abbrev pub said_to : List (Option Tenant) → List (List ℕ) → List Said
said_to tenants [] = []
said_to tenants (line ∷ lines) = said_in tenants line ∷ said_to (tenants_after tenants (said_in tenants line)) lines

-- the meaning of the lines after a head
abbrev pub said_by_lines : Config → List (List ℕ) → List Said
said_by_lines config lines = said_to (begun_with config.tenants) lines

-- the answers to them, each to a life
abbrev pub answers_to : Config → List (List ℕ) → List Answer
answers_to config lines = let said = said_by_lines config lines in answers_of (with_all_lives config said) (of_lives config said)

-- ---- output

-- the tenant of each life, by its number
abbrev pub all_tenants : Config → List (List ℕ) → List Tenant
all_tenants config lines = (with_all_lives config (said_by_lines config lines)).tenants

abbrev pub script_text : Config → List (List ℕ) → List ℕ
script_text config lines = flat_map (answer_line (all_tenants config lines)) (answers_to config lines)

-- the result of a file: text, or the number of its first bad line, or that no tenant of the requested name was open
pub data Output : Type 0 where
  Written : List ℕ → Output
  BadConfig : ℕ → Output
  NoTenant : Output

-- the result of a whole script
abbrev pub script_after : HeadReading → Output
script_after (Whole config lines) = Written (script_text config lines)
script_after (BadAt number) = BadConfig number

abbrev pub script_out : List ℕ → Output
script_out bytes = script_after (head_of (lines_of bytes))

-- ---- the tenants of one name alone: their lines, and those of the host, whose answers are not written

abbrev pub own_lines : List ℕ → List (List ℕ) → List (List ℕ)
own_lines name lines = filter (λ line. is_host_line line || bytes_eq (first_word line) name) lines

-- the answer goes to a tenant of this name
abbrev pub is_called : List Tenant → List ℕ → Answer → Bool
is_called tenants name (ToHost reply) = false
is_called tenants name (ToTenant number reply) = bytes_eq (name_at tenants number) name

-- of these answers, those to tenants of the name
abbrev pub text_for : List Tenant → List ℕ → List Answer → List ℕ
text_for tenants name told = flat_map (answer_line tenants) (filter (is_called tenants name) told)

abbrev pub solo_text : Config → List ℕ → List (List ℕ) → List ℕ
solo_text config name lines = text_for (all_tenants config (own_lines name lines)) name (answers_to config (own_lines name lines))

-- a tenant of the name has a life
abbrev pub was_open : Config → List ℕ → List (List ℕ) → Bool
was_open config name lines = list_any (λ (tenant : Tenant). bytes_eq tenant.name name) (all_tenants config (own_lines name lines))

abbrev pub solo_after : List ℕ → HeadReading → Output
solo_after name (Whole config lines) = if was_open config name lines then Written (solo_text config name lines) else NoTenant
solo_after name (BadAt number) = BadConfig number

abbrev pub solo_out : List ℕ → List ℕ → Output
solo_out name bytes = solo_after name (head_of (lines_of bytes))
