-- The state of a session.
use Rattle.std.specs.Prelude.{◌≡◌, ℕ, Bool, false, ◌<◌, ◌==◌, List, Option, Some, None}
use Rattle.cops_context.specs.Lists.{Lists}
use Rattle.cops_handles.specs.Rows.{Rows, row_at}
use Rattle.cops_handles.specs.declared.tables.Open.{Open}
use Rattle.cops_node.specs.declared.Shape.{Shape}
use Rattle.cops_session.specs.declared.ongoing.Ongoing.{Ongoing}
use Rattle.cops_session.specs.declared.ongoing.Work.{Work}
use Rattle.cops_session.specs.declared.ongoing.Work.TheVariants.{Put, Get}
use Rattle.cops_session.specs.declared.settings.Setting.{Setting}
use Rattle.cops_session.specs.Rounds.{IsUnfinished}

-- the constants, the greatest timestamp so far, the open contexts, the number of the next request, and the running request
pub record KeptSession : Type 0 where
  pub setting : Setting
  pub moment : ℕ
  pub contexts : Rows Lists
  pub next_request : ℕ
  pub running : Option Ongoing

-- the data centre exists, and so do shards
pub record IsPlaced (setting : Setting) : Type 0 where
  pub dc_exists : setting.dc < setting.data_centres
  pub some_shard : 0 < setting.shards

-- the session's data centre is one of the nodes', and its shards are theirs
pub record IsAmong (shape : Shape) (setting : Setting) : Type 0 where
  pub dc_exists : setting.dc < shape.data_centres
  pub shards_are : setting.shards ≡ shape.shards
  pub some_shard : 0 < setting.shards

-- the context is open
abbrev pub IsOpen : ℕ → List (Open Lists) → Type 0
IsOpen context rows = (lists : Lists) × (row_at context rows ≡ Some lists)

-- the context is open, and has room for a put of the key
abbrev pub HasRoomInContext : ℕ → List ℕ → List (Open Lists) → Type 0
HasRoomInContext context key rows = (lists : Lists) × (row_at context rows ≡ Some lists) × (lists.kept ≡ Some key)

abbrev pub IsReadyFor : Work → ℕ → List (Open Lists) → Type 0
IsReadyFor (Put writing) context rows = HasRoomInContext context writing.key rows
IsReadyFor (Get reading) context rows = IsOpen context rows × IsUnfinished reading.rounds

-- the context of the running request is open and has room for it, and a transaction has a call to make
abbrev pub IsReady : Option Ongoing → List (Open Lists) → Type 0
IsReady None rows = Unit {0}
IsReady (Some ongoing) rows = IsReadyFor ongoing.work ongoing.context rows

pub record IsKept (setting : Setting) (contexts : Rows Lists) (running : Option Ongoing) : Type 0 where
  pub placed : IsPlaced setting
  pub ready : IsReady running contexts.rows

-- the request of this number runs
abbrev pub is_running : ℕ → Option Ongoing → Bool
is_running number None = false
is_running number (Some ongoing) = ongoing.number == number

-- the session is one for nodes of these sizes
pub record IsOfSizes (data_centres shards : ℕ) (setting : Setting) : Type 0 where
  pub data_centres_are : setting.data_centres ≡ data_centres
  pub shards_are : setting.shards ≡ shards
