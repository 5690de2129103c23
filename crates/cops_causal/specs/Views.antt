-- Committed pasts as clients see them: what a session put or returned can be read in its data centre by each get that starts later, with all of its past.
use Rattle.std.specs.Prelude.{ℕ, ◌==◌, List, [], ◌∷◌, ◌++◌, IsTrue, Option, Some, None, if◌then◌else◌}
use Rattle.std.specs.List.{cons_option, list_all}
use Rattle.cops_types.specs.declared.pairs.Pair.{Pair}
use Rattle.cops_types.specs.Key.{key_eq}
use Rattle.cops_model.specs.declared.acts.Act.{Act}
use Rattle.cops_model.specs.declared.acts.Act.TheVariants.{Open, Get}
use Rattle.cops_model.specs.declared.replies.Reply.{Reply}
use Rattle.cops_model.specs.declared.replies.Reply.TheVariants.{Opened, Started}
use Rattle.cops_model.specs.Causal.{Operation, Traced, is_not_older, past_after, put_by}
use Rattle.cops_causal.specs.ClientLaws.{reads_in}
use Rattle.cops_causal.specs.Transcript.{Ended, Requests, ended_told, history_in, requests_after}

-- what a tenant knows of its sessions and data centres
pub record View : Type 0 where
  -- the data centre of each session
  pub dc_of : List ℕ → ℕ
  -- by data centre: what its sessions put, and the pasts of what they put and returned
  pub shown : ℕ → List Pair
  -- by session: what its data centre had shown as its last get started
  pub since : List ℕ → List Pair

abbrev pub first_view : View
first_view = record { dc_of = λ name. 0; shown = λ dc. []; since = λ name. [] }

-- a session opens at a data centre, and a get starts
abbrev pub view_after : Act → Reply → View → View
view_after (Open session dc) Opened view =
    record {
      dc_of = λ name. if key_eq name session then dc else view.dc_of name;
      shown = view.shown;
      since = λ name. if key_eq name session then [] else view.since name;
    }
view_after (Get session number keys) Started view =
    record { dc_of = view.dc_of; shown = view.shown; since = λ name. if key_eq name session then view.shown (view.dc_of session) else view.since name }
view_after act reply view = view

-- what the operation put, and its past
abbrev pub brought_by : List Traced → Operation → List Pair
brought_by history o = put_by o.effect ++ past_after history o

-- its data centre has shown that too
abbrev pub view_with : List Traced → Option Ended → View → View
view_with history None view = view
view_with history (Some e) view =
    record {
      dc_of = view.dc_of;
      shown = λ dc. if dc == view.dc_of e.operation.session then view.shown dc ++ brought_by history e.operation else view.shown dc;
      since = view.since;
    }

-- a get returned nothing older than what its data centre had shown as it started
abbrev pub SeesShown : View → Option Ended → Type 0
SeesShown view None = Unit {0}
SeesShown view (Some e) = IsTrue (list_all (is_not_older (view.since e.operation.session)) (reads_in e.operation.effect))

-- so it is of each operation, after those before it
abbrev pub AreSeen : List Ended → Requests → View → List Act → List Reply → Type 0
AreSeen es requests view [] told = Unit {0}
AreSeen es requests view (act ∷ acts) [] = Unit {0}
AreSeen es requests view (act ∷ acts) (reply ∷ told) =
    let e = ended_told requests act reply in
    SeesShown view e × AreSeen (es ++ cons_option e []) (requests_after act reply requests) (view_with (history_in es) e (view_after act reply view)) acts told

abbrev pub ShowsPasts : List Act → List Reply → Type 0
ShowsPasts acts told = AreSeen [] (λ name. None) first_view acts told
