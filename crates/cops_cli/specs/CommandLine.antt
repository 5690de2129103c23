-- The command line, as clap reads it.
use Rattle.std.specs.Prelude.{◌≡◌, ◌⊎◌, ℕ, ◌<◌, ◌^◌, ◌==◌, not, IsTrue, List, [], ◌∷◌, Option, Some, None, Bool, true, false, codes, option_map, unwrap_or}
use Rattle.std.specs.Str.Parse.{IsNumeral, digits_value, without_leading_plus}
use Rattle.clap.specs.Kinds.{IsAmong}
use Rattle.clap.specs.Words.{App, Row, Rule, Text, fault_of, first_of, kind_of, new_app, new_rule, one_of, subcommand_of, with_rule, with_subcommand}
use Rattle.clap.specs.declared.builder.action.ArgAction.TheVariants.{SetTrue}
use Rattle.clap.specs.declared.builder.value_parser.ValueParser.TheVariants.{Unsigned}
use Rattle.clap.specs.Simple.{on_top}
use Rattle.cops_cli.specs.declared.command_line.Service.{Service}
use Rattle.cops_cli.specs.declared.command_line.Task.{Task}
use Rattle.cops_cli.specs.declared.command_line.Task.TheVariants.{Run, Solo, Audit, Replay, Extract, Migrate, Serve}
use Rattle.cops_cli.specs.declared.faults.CliFault.{CliFault}
use Rattle.cops_cli.specs.declared.faults.CliFault.TheVariants.{CommandLine}

abbrev pub run : App
run = new_app (codes "run")

abbrev pub tenant : Rule
tenant = record (new_rule (codes "TENANT")) { required = true }

abbrev pub solo : App
solo = with_rule (new_app (codes "solo")) tenant

-- the name of a tenant, which may be given
abbrev pub only_tenant : Rule
only_tenant = record (new_rule (codes "tenant")) { long = Some (codes "tenant"); value_names = 1 }

abbrev pub audit : App
audit = with_rule (new_app (codes "audit")) only_tenant

abbrev pub replay : App
replay = with_rule (new_app (codes "replay")) tenant

abbrev pub extract : App
extract = with_rule (new_app (codes "extract")) tenant

abbrev pub migrate : App
migrate = new_app (codes "migrate")

abbrev pub address : Rule
address = record (new_rule (codes "ADDRESS")) { required = true }

-- a number from the least to the greatest, and this text if none is given
abbrev pub number : Text → ℕ → ℕ → Text → Rule
number id least greatest given = record (new_rule id) { long = Some id; value_names = 1; parser = Some (Unsigned least greatest); defaults = given ∷ [] }

-- a word that may be given
abbrev pub flag : Text → Rule
flag id = record (new_rule id) { long = Some id; action = Some SetTrue }

abbrev pub numbered_serve : App
numbered_serve = with_rule (with_rule (with_rule (new_app (codes "serve")) address) (number (codes "workers") 1 16 (codes "4"))) (number (codes "connections") 1 4294967295 (codes "4294967295"))

abbrev pub serve : App
serve = with_rule (with_rule (with_rule numbered_serve (number (codes "idle") 0 4294967295 (codes "0"))) (flag (codes "verbose"))) (flag (codes "fixed-tenants"))

-- one of the subcommands has to be named
abbrev pub with_run : App
with_run = with_subcommand (on_top (λ shape. record shape {
  has_version = true;
  arg_required_else_help = true;
  subcommand_required = true;
  disable_help_subcommand = true;
}) (new_app (codes "cops"))) run.top

abbrev pub with_solo : App
with_solo = with_subcommand with_run solo.top

abbrev pub with_audit : App
with_audit = with_subcommand with_solo audit.top

abbrev pub with_replay : App
with_replay = with_subcommand with_audit replay.top

abbrev pub with_extract : App
with_extract = with_subcommand with_replay extract.top

abbrev pub with_migrate : App
with_migrate = with_subcommand with_extract migrate.top

-- the program with its subcommands
abbrev pub cops : App
cops = with_subcommand with_migrate serve.top

-- the subcommand that words name
abbrev pub subcommand_named : List Text → Option Text
subcommand_named words = option_map (λ (found : Text × List Row). found.0) (subcommand_of cops words)

-- the tenant that the words after `solo`, `replay` or `extract` name
abbrev pub tenant_word : List Row → Text
tenant_word rows = unwrap_or (first_of (codes "TENANT") rows) []

-- a subcommand with the tenant after it
abbrev pub with_tenant_word : Text × List Row → Text × Text
with_tenant_word found = (found.0, tenant_word found.1)

-- the same, of the subcommand that words name
abbrev pub alone_named : List Text → Option (Text × Text)
alone_named words = option_map with_tenant_word (subcommand_of cops words)

-- the tenant that the words after `audit` name, if they name one
abbrev pub given_tenant : List Row → Option Text
given_tenant rows = first_of (codes "tenant") rows

abbrev pub with_given_tenant : Text × List Row → Text × Option Text
with_given_tenant found = (found.0, given_tenant found.1)

-- the subcommand that words name, with the tenant that may be given
abbrev pub audit_named : List Text → Option (Text × Option Text)
audit_named words = option_map with_given_tenant (subcommand_of cops words)

-- the address that the words after `serve` name
abbrev pub address_in : List Row → Text
address_in rows = unwrap_or (first_of (codes "ADDRESS") rows) []

-- the number is the one that the text spells, if it spells one that fits
abbrev pub IsSpelledBy : Option Text → ℕ → Type 0
IsSpelledBy None n = Unit {0}
IsSpelledBy (Some text) n = IsNumeral 10 (without_leading_plus text) → digits_value 10 (without_leading_plus text) < 2 ^ 64 → n ≡ digits_value 10 (without_leading_plus text)

-- the flag is given if its text is `true`, and not if the text is `false` or there is none
abbrev pub IsFlagged : Option Text → Bool → Type 0
IsFlagged found given =
    (found ≡ None → given ≡ false) × (found ≡ Some (codes "true") → given ≡ true) × (found ≡ Some (codes "false") → given ≡ false)

-- this is what the words after `serve` ask for
pub record IsServiceIn (rows : List Row) (service : Service) : Type 0 where
  pub address_is : service.address.now ≡ address_in rows
  pub workers_are : IsSpelledBy (one_of (codes "workers") rows) service.workers
  pub connections_are : IsSpelledBy (one_of (codes "connections") rows) service.connections
  pub idle_is : IsSpelledBy (one_of (codes "idle") rows) service.idle
  pub verbose_is : IsFlagged (one_of (codes "verbose") rows) service.is_verbose
  pub fixed_is : IsFlagged (one_of (codes "fixed-tenants") rows) service.has_fixed_tenants

-- words ask for this service
pub record IsServedBy (words : List Text) (service : Service) : Type 0 where
  pub rows : List Row
  pub named : subcommand_of cops words ≡ Some (codes "serve", rows)
  pub is : IsServiceIn rows service

-- words ask for the task
abbrev pub IsAskedBy : List Text → Task → Type 0
IsAskedBy words Run = subcommand_named words ≡ Some (codes "run")
IsAskedBy words (Solo name) = alone_named words ≡ Some (codes "solo", name.now)
IsAskedBy words (Audit name) = audit_named words ≡ Some (codes "audit", option_map (λ tenant. tenant.now) name)
IsAskedBy words (Replay name) = alone_named words ≡ Some (codes "replay", name.now)
IsAskedBy words (Extract name) = alone_named words ≡ Some (codes "extract", name.now)
IsAskedBy words Migrate = subcommand_named words ≡ Some (codes "migrate")
IsAskedBy words (Serve service) = IsServedBy words service

-- the word does not begin with a hyphen
abbrev pub is_plain : Text → Bool
is_plain [] = true
is_plain (byte ∷ bytes) = not (byte == 45)

-- the program's name and a command, with its tenant or its address if it has one; the only option is that of `audit`
abbrev pub ArePlain : List Text → Type 0
ArePlain (program ∷ command ∷ []) = (command ≡ codes "run") ⊎ ((command ≡ codes "audit") ⊎ (command ≡ codes "migrate"))
ArePlain (program ∷ command ∷ word ∷ []) = IsTrue (is_plain word) × ((command ≡ codes "solo") ⊎ ((command ≡ codes "replay") ⊎ ((command ≡ codes "extract") ⊎ (command ≡ codes "serve"))))
ArePlain (program ∷ command ∷ name ∷ word ∷ []) = IsTrue (is_plain word) × (command ≡ codes "audit") × (name ≡ codes "--tenant")
ArePlain other = ⊥

-- clap refuses the words for a reason that it has at these words
abbrev pub IsRefusedAs : List Text → CliFault → Type 0
IsRefusedAs words (CommandLine error) = IsAmong (kind_of error) (fault_of cops words)
IsRefusedAs words other = ⊥
