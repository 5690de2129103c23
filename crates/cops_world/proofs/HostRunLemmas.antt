-- The replies to tenants that come and go, one event after another.
use Rattle.std.proofs.Common.{◌≡◌, ℕ, ◌+◌, ◌<◌, true, inl, List, [], ◌∷◌, ◌++◌, length, map, refl, sym, subst, ap, ◌∙◌, append_assoc, append-nil, length-append, Bor}
use Rattle.std.specs.Prelude.{is_some, IfSome, Option, Some, None, Result}
use Rattle.std.specs.Option.{option_copied}
use Rattle.std.proofs.lemmas.List.{map-append}
use Rattle.cops_types.specs.declared.configs.Config.{Config}
use Rattle.cops_types.specs.declared.configs.Tenant.{Tenant}
use Rattle.cops_types.specs.declared.faults.Fault.{Fault}
use Rattle.cops_types.specs.OpenSlots.{admission_refusal, begun_with, open_at}
use Rattle.cops_model.specs.declared.acts.Act.{Act}
use Rattle.cops_model.specs.declared.replies.HostReply.TheVariants.{Admitted}
use Rattle.cops_model.specs.declared.replies.Reply.{Reply}
use Rattle.cops_model.specs.Cluster.{SoloCluster, cluster_step}
use Rattle.cops_script.specs.Lives.{Lives, first_lives, lives_after}
use Rattle.cops_script.specs.Said.{OfHost, tenants_after}
use Rattle.cops_model.specs.Setups.{Setup}
use Rattle.cops_world.specs.declared.host_runs.Doing.{Doing}
use Rattle.cops_world.specs.declared.host_runs.Doing.TheVariants.{Own, Admit, Close}
use Rattle.cops_world.specs.declared.host_runs.HostEvent.{HostEvent}
use Rattle.cops_world.specs.declared.host_runs.LifeReply.{LifeReply}
use Rattle.cops_world.specs.declared.host_runs.LifeReply.TheVariants as reply
use Rattle.std.specs.declared.alloc.AllocError.{AllocError}
use Rattle.cops_script.specs.Acting.{IsNew, TellsExactly, told_act}
use Rattle.cops_script.specs.Answers.{Answer, ToHost, ToTenant}
use Rattle.cops_script.specs.Doing.{IsDone, IsHosted}
use Rattle.cops_world.specs.HostRuns.{TellsLives, acts_at, admits_at, admits_unless, answer_at, closes_at, reply_of, said_after_head, said_heard, said_of}
use Rattle.cops_script.specs.ScriptRuns.{heard}
use Rattle.cops_model.specs.Lacks.{Lacks}
use Rattle.cops_world.specs.Worlds.{Admits as IsAdmitted, HasOpenCluster, KeptWorld, Leaves, Moves, open_setup, world_of}
use Rattle.cops_script.proofs.LifeAnswers.{answered_said, told_said}
use Rattle.cops_script.proofs.LifeLines.{done_setup, heard_placed}
use Rattle.cops_script.proofs.LifeRuns.{AreGiven, answer_of, given_nothing, given_one}
use Rattle.cops_script.proofs.Numbered.{ArePlaced, IsPlaced}
use Rattle.cops_script.proofs.OpenSets.{may_be_given}
use Rattle.cops_world.specs.SlotLives.{AreLivedAlone}
use Rattle.cops_world.proofs.SlotLifeLemmas.{LivesOn, lives_alone, lives_one, lives_to_end}
use Rattle.cops_world.proofs.WorldLives.{OkIsRefused, has_acted}

-- ---- who says it is open

module _ (tenants : List (Option Tenant)) where
  acts_placed : (slot : ℕ) (act : Act) (found : Option Tenant) → open_at slot tenants ≡ found → IsPlaced tenants (acts_at slot act found)
  acts_placed slot act None e = tt
  acts_placed slot act (Some tenant) e = (tenant, e)

  unless_placed : (slot : ℕ) (tenant : Tenant) (refusal : Option Fault) → admission_refusal tenants slot tenant ≡ refusal → IsPlaced tenants (OfHost (admits_unless slot tenant refusal))
  unless_placed slot tenant None e = (may_be_given tenants slot tenant e).vacant
  unless_placed slot tenant (Some fault) e = tt

  closes_placed : (slot : ℕ) (found : Option Tenant) → IsPlaced tenants (OfHost (closes_at slot found))
  closes_placed slot None = tt
  closes_placed slot (Some tenant) = tt

  pub said_of-placed : (event : HostEvent) → IsPlaced tenants (said_of tenants event)
  said_of-placed event = by event.slot event.doing
    where
      by : (slot : ℕ) (doing : Doing) → IsPlaced tenants (said_of tenants (record { slot = slot; doing = doing }))
      by slot (Own act) = acts_placed slot act (open_at slot tenants) refl
      by slot (Admit tenant) = unless_placed slot tenant (admission_refusal tenants slot tenant) refl
      by slot Close = closes_placed slot (open_at slot tenants)

-- ---- one event of a world

-- the tenant of a slot acted
pub acted_at : (old new : KeptWorld) (slot : ℕ) (act : Act) (answered : Result Reply AllocError) (reply : Reply) → reply ≡ told_act answered → is_some (open_at slot old.setup.tenants) ≡ true →
    Moves (TellsExactly act) (λ config. cluster_step config act) (world_of old) slot answered (world_of new) → Leaves (λ config. Lacks config act) (world_of old) slot answered (world_of new) →
    IsDone open_setup HasOpenCluster old (acts_at slot act (open_at slot old.setup.tenants)) (ToTenant slot reply) new
acted_at old new slot act answered reply is there moves leaves = by (open_at slot old.setup.tenants) there
  where
    by : (found : Option Tenant) → is_some found ≡ true → IsDone open_setup HasOpenCluster old (acts_at slot act found) (ToTenant slot reply) new
    by None e = absurd cc
    by (Some tenant) e = (answered, ap (ToTenant slot) is, has_acted old (record { slot = slot; act = act }) answered new moves leaves)

pub some_copied : {A : Type 0} (o : Option (Bor A)) → is_some (option_copied o) ≡ is_some o
some_copied None = refl
some_copied (Some x) = refl

-- a tenant was admitted to a slot
pub admitted_to : (old new : KeptWorld) (slot : ℕ) (tenant : Tenant) (done : Unit {0}) → IfSome (admission_refusal old.setup.tenants slot tenant) (OkIsRefused done) → IsAdmitted slot tenant old new →
    IsHosted open_setup HasOpenCluster old (admits_at old.setup.tenants slot tenant) (ToHost (Admitted tenant.name)) new
admitted_to old new slot tenant done unrefused admits = by (admission_refusal old.setup.tenants slot tenant) unrefused
  where
    by : (refusal : Option Fault) → IfSome refusal (OkIsRefused done) → IsHosted open_setup HasOpenCluster old (admits_unless slot tenant refusal) (ToHost (Admitted tenant.name)) new
    by None h = inl (refl, record { setup_is = admits.setup_is; begins = admits.begins; others = admits.others })
    by (Some fault) h = absurd cc

-- ---- one event after another

reply_back : (lives : Lives) (slot : ℕ) (told : LifeReply) → reply_of (answer_of lives (answer_at slot told)) ≡ told
reply_back lives slot (reply.ToHost told) = refl
reply_back lives slot (reply.ToTenant told) = refl

module _ {W : Type 0} (setup : W → Setup) (StandsFor : W → ℕ → SoloCluster → Type 0) (start : W) (first : Lives) where
  -- these events were answered so, and whatever is answered from here on goes on from there
  pub record IsSoFar (now : W) (past : List HostEvent) (replies : List LifeReply) : Type 0 where
    pub lives : Lives
    pub told : List Answer
    pub each : length told ≡ length past
    pub replies_are : replies ≡ map reply_of told
    pub goes_on : (more : List HostEvent) (others : List Answer) (new : W) → AreGiven setup StandsFor now lives (said_heard (setup now).tenants more others) others new →
        AreGiven setup StandsFor start first (said_heard (setup start).tenants (past ++ more) (told ++ others)) (told ++ others) new
    pub placed : (more : List HostEvent) (others : List Answer) → ArePlaced (setup now).tenants (said_heard (setup now).tenants more others) →
        ArePlaced (setup start).tenants (said_heard (setup start).tenants (past ++ more) (told ++ others))
    pub alone : (more : List HostEvent) (others : List LifeReply) → LivesOn setup StandsFor now more others → LivesOn setup StandsFor start (past ++ more) (replies ++ others)

  pub so_far_nothing : IsSoFar start [] []
  so_far_nothing = record { lives = first; told = []; each = refl; replies_are = refl; goes_on = λ more others new p. p; placed = λ more others p. p; alone = λ more others p. p }

  pub so_far_more : (now next : W) (past : List HostEvent) (replies : List LifeReply) (event : HostEvent) (told : LifeReply) → IsDone setup StandsFor now (said_of (setup now).tenants event) (answer_at event.slot told) next →
      IsSoFar now past replies → IsSoFar next (past ++ event ∷ []) (replies ++ told ∷ [])
  so_far_more now next past replies event told done p =
      let said = said_of (setup now).tenants event in
      let answer = answer_of p.lives (answer_at event.slot told) in
      let one = heard said answer in
      let moved = done_setup setup StandsFor now next p.lives said (answer_at event.slot told) done in
      record {
        lives = lives_after p.lives one;
        told = p.told ++ answer ∷ [];
        each = length-append p.told (answer ∷ []) ∙ ap (λ n. n + 1) p.each ∙ sym (length-append past (event ∷ []));
        replies_are = (λ i. p.replies_are i ++ sym (reply_back p.lives event.slot told) i ∷ []) ∙ sym (map-append reply_of p.told (answer ∷ []));
        goes_on = λ more others new given.
            let Is : List HostEvent → List Answer → Type 0 = λ events answers. AreGiven setup StandsFor start first (said_heard (setup start).tenants events answers) answers new in
            let after = subst (λ (s : Setup). AreGiven setup StandsFor next (lives_after p.lives one) (said_heard s.tenants more others) others new) moved given in
            let whole = p.goes_on (event ∷ more) (answer ∷ others) new (given_one setup StandsFor now next new p.lives (said_heard (tenants_after (setup now).tenants one) more others) others said (answer_at event.slot told) done after) in
            subst (λ events. Is events ((p.told ++ answer ∷ []) ++ others)) (sym (append_assoc past (event ∷ []) more)) (subst (λ answers. Is (past ++ event ∷ more) answers) (sym (append_assoc p.told (answer ∷ []) others)) whole);
        placed = λ more others placed.
            let Is : List HostEvent → List Answer → Type 0 = λ events answers. ArePlaced (setup start).tenants (said_heard (setup start).tenants events answers) in
            let after = subst (λ (s : Setup). ArePlaced s.tenants (said_heard s.tenants more others)) moved placed in
            let whole = p.placed (event ∷ more) (answer ∷ others) (heard_placed (setup now).tenants said answer (said_of-placed (setup now).tenants event), after) in
            subst (λ events. Is events ((p.told ++ answer ∷ []) ++ others)) (sym (append_assoc past (event ∷ []) more)) (subst (λ answers. Is (past ++ event ∷ more) answers) (sym (append_assoc p.told (answer ∷ []) others)) whole);
        alone = λ more others later.
            let whole = p.alone (event ∷ more) (told ∷ others) (lives_one setup StandsFor now next event told more others done later) in
            subst (λ events. LivesOn setup StandsFor start events ((replies ++ told ∷ []) ++ others)) (sym (append_assoc past (event ∷ []) more)) (subst (λ rs. LivesOn setup StandsFor start (past ++ event ∷ more) rs) (sym (append_assoc replies (told ∷ []) others)) whole);
      }

-- the whole run, in a new world
pub tells_lives : {W : Type 0} (setup : W → Setup) (StandsFor : W → ℕ → SoloCluster → Type 0) (config : Config) (start now : W) (events : List HostEvent) (replies : List LifeReply) → 0 < config.shards →
    IsNew setup StandsFor config start → IsSoFar setup StandsFor start (first_lives config) now events replies → TellsLives config events replies
tells_lives setup StandsFor config start now events replies some fresh p =
    let nil_events = append-nil events in
    let nil_told = append-nil p.told in
    let tenants_are = ap (λ (s : Setup). s.tenants) fresh.setup_is in
    let given : AreGiven setup StandsFor start (first_lives config) (said_after_head config events p.told) p.told now =
    subst (λ ts. AreGiven setup StandsFor start (first_lives config) (said_heard ts events p.told) p.told now) tenants_are
    (subst (λ es. AreGiven setup StandsFor start (first_lives config) (said_heard (setup start).tenants es p.told) p.told now) nil_events
    (subst (λ answers. AreGiven setup StandsFor start (first_lives config) (said_heard (setup start).tenants (events ++ []) answers) answers now) nil_told (p.goes_on [] [] now (given_nothing setup StandsFor now p.lives)))) in
    let placed : ArePlaced (begun_with config.tenants) (said_after_head config events p.told) =
    subst (λ ts. ArePlaced ts (said_heard ts events p.told)) tenants_are
    (subst (λ es. ArePlaced (setup start).tenants (said_heard (setup start).tenants es p.told)) nil_events
    (subst (λ answers. ArePlaced (setup start).tenants (said_heard (setup start).tenants (events ++ []) answers)) nil_told (p.placed [] [] tt))) in
    record {
      told = p.told;
      each = p.each;
      replies_are = p.replies_are;
      answered = answered_said setup StandsFor config start (said_after_head config events p.told) p.told now some fresh given placed;
      right = λ spared. told_said setup StandsFor config start (said_after_head config events p.told) p.told now fresh given placed spared;
    }

-- and of each slot
pub slots_alone : {W : Type 0} (setup : W → Setup) (StandsFor : W → ℕ → SoloCluster → Type 0) (config : Config) (start now : W) (events : List HostEvent) (replies : List LifeReply) → 0 < config.shards →
    IsNew setup StandsFor config start → IsSoFar setup StandsFor start (first_lives config) now events replies → AreLivedAlone config events replies
slots_alone setup StandsFor config start now events replies some fresh p =
    lives_alone setup StandsFor config start events replies some fresh
    (subst (λ es. LivesOn setup StandsFor start es replies) (append-nil events) (subst (λ rs. LivesOn setup StandsFor start (events ++ []) rs) (append-nil replies) (p.alone [] [] (lives_to_end setup StandsFor now))))
