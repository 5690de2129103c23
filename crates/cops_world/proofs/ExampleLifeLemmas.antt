-- The replies of a run of lives, once no reply is out of memory.
use Rattle.std.proofs.Common.{◌≡◌, Bool, true, false, List, [], ◌∷◌, length, map, Option, refl, ap, sym, ◌∙◌, arith, subst}
use Rattle.std.specs.Prelude.{IsFalse, ◌||◌}
use Rattle.std.specs.List.{list_any}
use Rattle.cops_types.specs.declared.configs.Config.{Config}
use Rattle.cops_types.specs.declared.configs.Tenant.{Tenant}
use Rattle.cops_types.specs.OpenSlots.{begun_with}
use Rattle.cops_script.specs.Answers.{Answer, ToHost, ToTenant, is_lack}
use Rattle.cops_script.specs.Lives.{of_lives, with_all_lives}
use Rattle.cops_script.specs.Said.{Said, OfHost, Unformed, Acts, Admits, Closes, Refuses, tenants_after}
use Rattle.cops_script.specs.Script.{answers_of}
use Rattle.cops_script.specs.ScriptRuns.{heard}
use Rattle.cops_world.specs.declared.host_runs.HostEvent.{HostEvent}
use Rattle.cops_world.specs.declared.host_runs.LifeReply.{LifeReply}
use Rattle.cops_world.specs.ExampleLives.{is_lack_reply, one_tenant, told_in_two_lives, two_lives}
use Rattle.cops_world.specs.HostRuns.{TellsLives, reply_of, said_heard, said_of}

-- the meaning of events with ample memory
abbrev said_in_all : List (Option Tenant) → List HostEvent → List Said
said_in_all tenants [] = []
said_in_all tenants (event ∷ events) = let said = said_of tenants event in said ∷ said_in_all (tenants_after tenants said) events

-- an answer that isn't out of memory is heard as it was said
heard_as_said : (said : Said) (answer : Answer) → is_lack answer ≡ false → heard said answer ≡ said
heard_as_said (OfHost (Admits slot tenant)) answer spared = rw spared refl
heard_as_said (OfHost (Closes slot name)) answer spared = refl
heard_as_said (OfHost (Refuses fault)) answer spared = refl
heard_as_said (Unformed slot) answer spared = refl
heard_as_said (Acts event) answer spared = refl

first_spared : (a b : Bool) → (a || b) ≡ false → a ≡ false
first_spared true b p = p
first_spared false b p = refl

others_spared : (a b : Bool) → (a || b) ≡ false → b ≡ false
others_spared true b p = cc
others_spared false b p = p

same_from : (tenants : List (Option Tenant)) (events : List HostEvent) (told : List Answer) (said meant : Said) → said ≡ meant →
    said_heard (tenants_after tenants said) events told ≡ said_in_all (tenants_after tenants said) events →
    (meant ∷ said_heard (tenants_after tenants meant) events told) ≡ (said ∷ said_in_all (tenants_after tenants said) events)
same_from tenants events told said meant same rest =
    subst (λ (v : Said). (v ∷ said_heard (tenants_after tenants v) events told) ≡ (said ∷ said_in_all (tenants_after tenants said) events)) same (ap (λ more. said ∷ more) rest)

all_heard : (tenants : List (Option Tenant)) (events : List HostEvent) (told : List Answer) → length told ≡ length events → list_any is_lack told ≡ false →
    said_heard tenants events told ≡ said_in_all tenants events
all_heard tenants [] told each spared = refl
all_heard tenants (event ∷ events) [] each spared = absurd (omega arith)
all_heard tenants (event ∷ events) (answer ∷ told) each spared =
    let said = said_of tenants event in
    same_from tenants events told said (heard said answer) (sym (heard_as_said said answer (first_spared (is_lack answer) (list_any is_lack told) spared)))
    (all_heard (tenants_after tenants said) events told (omega arith) (others_spared (is_lack answer) (list_any is_lack told) spared))

-- the number of a life doesn't tell whether memory ran out
lacks_in_replies : (told : List Answer) → list_any is_lack_reply (map reply_of told) ≡ list_any is_lack told
lacks_in_replies [] = refl
lacks_in_replies (ToHost one ∷ told) = ap (λ rest. is_lack (ToHost one) || rest) (lacks_in_replies told)
lacks_in_replies (ToTenant number one ∷ told) = ap (λ rest. is_lack (ToTenant number one) || rest) (lacks_in_replies told)

-- the replies are those of the definition
abbrev told_by_definition : Config → List HostEvent → List LifeReply
told_by_definition config events =
    let said = said_in_all (begun_with config.tenants) events in map reply_of (answers_of (with_all_lives config said) (of_lives config said))

pub told_as_defined : (config : Config) (events : List HostEvent) (replies : List LifeReply) → TellsLives config events replies → IsFalse (list_any is_lack_reply replies) →
    replies ≡ told_by_definition config events
told_as_defined config events replies tells spared =
    let is_spared : list_any is_lack tells.told ≡ false = sym (lacks_in_replies tells.told) ∙ (ap (list_any is_lack_reply) (sym tells.replies_are) ∙ spared) in
    let said = all_heard (begun_with config.tenants) events tells.told tells.each is_spared in
    tells.replies_are ∙ ap (map reply_of) (tells.right is_spared ∙ ap (λ said. answers_of (with_all_lives config said) (of_lives config said)) said)

-- both sides are computed
pub told_in_both_lives : (replies : List LifeReply) → TellsLives one_tenant two_lives replies → IsFalse (list_any is_lack_reply replies) → replies ≡ told_in_two_lives
told_in_both_lives replies tells spared = told_as_defined one_tenant two_lives replies tells spared
