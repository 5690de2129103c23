-- The answers to lines: to the host, or to a tenant.
use Rattle.std.specs.Prelude.{ℕ, Bool, false, List, [], ◌∷◌, ◌++◌, codes, map, slice_index_or, Option}
use Rattle.std.specs.Option.{option_map_or}
use Rattle.cops_types.specs.declared.configs.Tenant.{Tenant}
use Rattle.cops_types.specs.FaultText.{fault_text}
use Rattle.cops_types.specs.OpenSlots.{open_at}
use Rattle.cops_types.specs.Words.{newline, spaced}
use Rattle.cops_model.specs.declared.replies.HostReply.{HostReply}
use Rattle.cops_model.specs.declared.replies.HostReply.TheVariants.{Admitted, Closed, Denied}
use Rattle.cops_model.specs.declared.replies.Reply.{Reply}
use Rattle.cops_model.specs.declared.replies.Reply.TheVariants.{Refused}
use Rattle.cops_model.specs.Events.{is_out_of_memory}
use Rattle.cops_script.specs.Said.{HostDeed, Admits, Closes, Refuses}
use Rattle.cops_script.specs.ReplyText.{words_of_reply}

-- an answer to a tenant, by the number of its life or of its slot
pub data Answer : Type 0 where
  ToHost : HostReply → Answer
  ToTenant : ℕ → Reply → Answer

abbrev pub reply_to_host : HostDeed → HostReply
reply_to_host (Admits slot tenant) = Admitted tenant.name
reply_to_host (Closes slot name) = Closed name
reply_to_host (Refuses fault) = Denied fault

-- it is out of memory
abbrev pub is_lack : Answer → Bool
is_lack (ToHost (Denied fault)) = is_out_of_memory (Refused fault)
is_lack (ToHost reply) = false
is_lack (ToTenant number reply) = is_out_of_memory reply

-- ---- as text

-- a hyphen, a space, the reply
abbrev pub host_line : HostReply → List ℕ
host_line (Admitted name) = codes "- admitted " ++ name ++ newline ∷ []
host_line (Closed name) = codes "- closed " ++ name ++ newline ∷ []
host_line (Denied fault) = codes "- " ++ fault_text fault ++ newline ∷ []

-- the tenant's name, a space, the reply
abbrev pub reply_line : List ℕ → Reply → List ℕ
reply_line name reply = name ++ 32 ∷ spaced (words_of_reply reply) ++ newline ∷ []

abbrev pub name_at : List Tenant → ℕ → List ℕ
name_at tenants number = slice_index_or (map (λ (tenant : Tenant). tenant.name) tenants) number []

-- for the tenants of all lives
abbrev pub answer_line : List Tenant → Answer → List ℕ
answer_line tenants (ToHost reply) = host_line reply
answer_line tenants (ToTenant number reply) = reply_line (name_at tenants number) reply

-- for the tenant that is open in a slot
abbrev pub open_name : List (Option Tenant) → ℕ → List ℕ
open_name tenants slot = option_map_or (λ (tenant : Tenant). tenant.name) (open_at slot tenants) []

abbrev pub slot_line : List (Option Tenant) → Answer → List ℕ
slot_line tenants (ToHost reply) = host_line reply
slot_line tenants (ToTenant slot reply) = reply_line (open_name tenants slot) reply
