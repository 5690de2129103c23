-- The output of a script run, if the bytes of its reader are known.
use Rattle.std.specs.Prelude.{◌≡◌, ℕ, ◌==◌, IsFalse, List, [], ◌∷◌, ◌++◌, ◌⊎◌, filter_map, flat_map, Option, if◌then◌else◌}
use Rattle.std.specs.List.{list_any}
use Rattle.std.specs.Io.KnownBytes.{Appends, Keeps}
use Rattle.cops_types.specs.declared.configs.Config.{Config}
use Rattle.cops_types.specs.declared.configs.Tenant.{Tenant}
use Rattle.cops_types.specs.declared.faults.Fault.TheVariants.{OutOfMemory, Syntax}
use Rattle.cops_types.specs.Lines.{lines_of}
use Rattle.cops_types.specs.OpenSlots.{begun_with}
use Rattle.cops_model.specs.declared.acts.Act.{Act}
use Rattle.cops_model.specs.declared.replies.Reply.{Reply}
use Rattle.cops_model.specs.declared.replies.Reply.TheVariants.{Refused}
use Rattle.cops_model.specs.Events.{own, replies}
use Rattle.cops_script.specs.Lives.{of_lives, with_all_lives}
use Rattle.cops_script.specs.Meaning.{AreMeant}
use Rattle.cops_model.specs.MainTheorem.{MainTheorem}
use Rattle.cops_script.specs.Said.{Admits, Refuses, Said, OfHost, Unformed, Acts, said_in, tenants_after}
use Rattle.cops_script.specs.Answers.{Answer, ToHost, ToTenant, answer_line, is_lack, reply_to_host}
use Rattle.cops_script.specs.ScriptHeads.{IsWholeHead}
use Rattle.cops_script.specs.Script.{Output, Written, BadConfig, NoTenant, event_in, events_in}

-- none of them is out of memory
abbrev pub AreSpared : List Answer → Type 0
AreSpared told = IsFalse (list_any is_lack told)

-- ---- the meaning of lines that got these answers

-- an admission that ran out of memory admits no one
abbrev pub heard : Said → Answer → Said
heard (OfHost (Admits slot tenant)) answer = if is_lack answer then OfHost (Refuses OutOfMemory) else OfHost (Admits slot tenant)
heard said answer = said

abbrev pub said_from : List (Option Tenant) → List (List ℕ) → List Answer → List Said
said_from tenants [] told = []
said_from tenants (line ∷ lines) [] = []
said_from tenants (line ∷ lines) (answer ∷ told) =
    let said = heard (said_in tenants line) answer in said ∷ said_from (tenants_after tenants said) lines told

-- the same after a head
abbrev pub said_told : Config → List (List ℕ) → List Answer → List Said
said_told config lines told = said_from (begun_with config.tenants) lines told

-- the configuration with the tenant of each life, and the requests of its tenants
abbrev pub config_told : Config → List (List ℕ) → List Answer → Config
config_told config lines told = with_all_lives config (said_told config lines told)

abbrev pub lives_told : Config → List (List ℕ) → List Answer → List Said
lives_told config lines told = of_lives config (said_told config lines told)

-- ---- who gets which reply

-- one after another, the host gets the reply to its line, a tenant's line that is no act a syntax fault, however much memory there is, and an act a reply
abbrev pub AreAnswersTo : List Said → List Answer → Type 0
AreAnswersTo [] [] = Unit {0}
AreAnswersTo [] (answer ∷ told) = ⊥
AreAnswersTo (said ∷ more) [] = ⊥
AreAnswersTo (OfHost deed ∷ more) (answer ∷ told) = (answer ≡ ToHost (reply_to_host deed)) × AreAnswersTo more told
AreAnswersTo (Unformed number ∷ more) (answer ∷ told) = (answer ≡ ToTenant number (Refused Syntax)) × AreAnswersTo more told
AreAnswersTo (Acts event ∷ more) (answer ∷ told) = ((reply : Reply) × (answer ≡ ToTenant event.slot reply)) × AreAnswersTo more told

-- the replies to the tenant of a number
abbrev pub replies_to : ℕ → List Answer → List Reply
replies_to number [] = []
replies_to number (ToHost reply ∷ told) = replies_to number told
replies_to number (ToTenant other reply ∷ told) = if other == number then reply ∷ replies_to number told else replies_to number told

-- of the answers, those to acts
abbrev pub act_replies : List Said → List Answer → List Reply
act_replies [] told = []
act_replies (said ∷ more) [] = []
act_replies (OfHost deed ∷ more) (answer ∷ told) = act_replies more told
act_replies (Unformed number ∷ more) (answer ∷ told) = act_replies more told
act_replies (Acts event ∷ more) (ToHost reply ∷ told) = act_replies more told
act_replies (Acts event ∷ more) (ToTenant number reply ∷ told) = reply ∷ act_replies more told

-- the acts of a tenant among the requests
abbrev pub acts_in : List Said → ℕ → List Act
acts_in said number = own number (events_in said)

-- the replies to the acts of the tenant of a number
abbrev pub replies_in : List Said → List Answer → ℕ → List Reply
replies_in said told number = replies number (events_in said) (act_replies said told)

-- Each request gets its answer, and the main theorem holds of the acts and of the replies to them: so no reply is free.
pub record AreAnswered (config : Config) (said : List Said) (told : List Answer) : Type 0 where
  pub each : AreAnswersTo said told
  pub theorem : MainTheorem config (filter_map event_in said) (act_replies said told)

-- ---- scripts

-- The bytes are a script. Each line after its head, but for these last ones, means a request, and the text has the answers to these, in order.
-- The lives of its tenants are the tenants of the theorem.
pub record AnswersScript (bytes : List ℕ) (others : List (List ℕ)) (text : List ℕ) : Type 0 where
  pub head : List (List ℕ)
  pub lines : List (List ℕ)
  pub whole : lines_of bytes ≡ head ++ (lines ++ others)
  pub config : Config
  pub begins : IsWholeHead head config
  pub said : List Said
  pub meant : AreMeant (begun_with config.tenants) lines said
  pub told : List Answer
  pub answered : AreAnswered (with_all_lives config said) (of_lives config said) told
  pub has_answers : text ≡ flat_map (answer_line (with_all_lives config said).tenants) told

-- all answers are written
abbrev pub WritesScript : List ℕ → Option (List ℕ) → Option (List ℕ) → Type 0
WritesScript bytes old_contents new_contents = (text : List ℕ) × AnswersScript bytes [] text × Appends old_contents new_contents text

-- nothing is written, or a prefix of the answers
abbrev pub WritesFront : List ℕ → Option (List ℕ) → Option (List ℕ) → Type 0
WritesFront bytes old_contents new_contents =
    Keeps old_contents new_contents
    ⊎ ((others : List (List ℕ)) × (written rest : List ℕ) × AnswersScript bytes others (written ++ rest) × Appends old_contents new_contents written)

-- the permitted text of a script
abbrev pub text_in : Output → List ℕ
text_in (Written text) = text
text_in (BadConfig number) = []
text_in NoTenant = []
