-- The replies to lives, if a world does each line, in any representation.
use Rattle.std.proofs.Common.{◌≡◌, ◌≢◌, ℕ, suc, ◌≤◌, Bool, true, false, ◌||◌, ◌==◌, List, [], ◌∷◌, ◌++◌, length, inl, inr, refl, sym, subst, ap, ◌∙◌, true≢false, arith}
use Rattle.std.specs.Prelude.{IsTrue, Option, Some, None}
use Rattle.std.specs.List.{list_any}
use Rattle.std.proofs.lemmas.Bool.Decides.{Decides-eqb}
use Rattle.cops_types.specs.declared.configs.Config.{Config}
use Rattle.cops_types.specs.declared.configs.Tenant.{Tenant}
use Rattle.cops_types.specs.declared.faults.Fault.{Fault}
use Rattle.cops_types.specs.declared.faults.Fault.TheVariants.{OutOfMemory, Syntax}
use Rattle.cops_types.specs.OpenSlots.{open_at}
use Rattle.cops_types.specs.TenantConfig.{TenantConfig, tenant_config}
use Rattle.cops_model.specs.declared.acts.Event.{Event}
use Rattle.cops_model.specs.declared.replies.HostReply.TheVariants.{Denied}
use Rattle.cops_model.specs.declared.replies.Reply.{Reply}
use Rattle.cops_model.specs.declared.replies.Reply.TheVariants.{Refused}
use Rattle.cops_model.specs.Cluster.{SoloCluster, cluster_step, new_cluster}
use Rattle.cops_model.specs.Events.{cluster_after, config_at, is_out_of_memory, own, with_cluster}
use Rattle.cops_script.specs.Lives.{Lives, lives_after, lives_past, of_lives_from}
use Rattle.cops_script.specs.Said.{HostDeed, Admits, Closes, Refuses, Said, OfHost, Unformed, Acts, tenants_after, tenants_past}
use Rattle.cops_model.specs.Setups.{Setup, config_in, config_of, is_open_at}
use Rattle.cops_script.specs.Acting.{HasAdmitted, HasClosed, HasStayed, OthersStay, told_act}
use Rattle.cops_script.specs.Answers.{Answer, ToHost, ToTenant, is_lack, reply_to_host}
use Rattle.cops_script.specs.Doing.{IsDone, IsHosted}
use Rattle.cops_script.specs.Script.{events_in}
use Rattle.cops_script.specs.ScriptRuns.{AreAnswersTo, AreSpared, heard}
use Rattle.cops_script.proofs.AnswersTo.{new_at}
use Rattle.cops_script.proofs.Fronts.{ActsGo, act_keeps_acts, host_keeps_acts, unformed_keeps_acts}
use Rattle.cops_script.proofs.Numbered.{AreNumbered, AreOf, ArePlaced, HasTenantAt, next_numbered, with_life}
use Rattle.cops_script.proofs.OpenSets.{closed_set, open_set_other}
use Rattle.cops_script.proofs.Sequence.{answers_from}
use Rattle.cops_script.proofs.TenantConfigs.{quota_at, tenant_in}
use Rattle.cops_script.proofs.ToldActs.{ActsAsTold, as_told_act, as_turn}
use Rattle.cops_model.specs.Goes.{Turns}

by_test : {C : Type 0} (b : Bool) → (b ≡ true → C) → (b ≡ false → C) → C
by_test {C} true holds fails = holds refl
by_test {C} false holds fails = fails refl

first_spared : (a b : Bool) → (a || b) ≡ false → a ≡ false
first_spared true b e = e
first_spared false b e = refl

later_spared : (a b : Bool) → (a || b) ≡ false → b ≡ false
later_spared true b e = absurd (true≢false e)
later_spared false b e = e

abbrev pub setup_after : Setup → Said → Setup
setup_after setup said = record { head = setup.head; tenants = tenants_after setup.tenants said }

abbrev pub setup_past : Setup → List Said → Setup
setup_past setup said = record { head = setup.head; tenants = tenants_past setup.tenants said }

-- an answer by the life that it is to and not by its slot
abbrev pub answer_of : Lives → Answer → Answer
answer_of lives (ToHost reply) = ToHost reply
answer_of lives (ToTenant slot reply) = ToTenant (lives.last_at slot) reply

-- what is said from here on is said by tenants of the configuration, which has the sizes of the head
pub record AreFor (config : Config) (setup : Setup) (lives : Lives) (said : List Said) : Type 0 where
  pub sizes : (tenant : Tenant) → tenant_config setup.head tenant ≡ tenant_config config tenant
  pub numbered : AreNumbered config setup.tenants lives
  pub placed : ArePlaced setup.tenants said
  pub of : AreOf config lives said

pub for_next : (config : Config) (old new : Setup) (lives : Lives) (said : Said) (more : List Said) → new ≡ setup_after old said → AreFor config old lives (said ∷ more) → AreFor config new (lives_after lives said) more
for_next config old new lives said more is for = subst (λ s. AreFor config s (lives_after lives said) more) (sym is)
    (record { sizes = for.sizes; numbered = next_numbered config old.tenants lives said for.numbered for.placed.0 for.of.0; placed = for.placed.1; of = for.of.1 })

-- what concerns who is open at a slot is what concerns its life
pub config_of_life : (config : Config) (setup : Setup) (lives : Lives) (slot : ℕ) → ((tenant : Tenant) → tenant_config setup.head tenant ≡ tenant_config config tenant) → AreNumbered config setup.tenants lives → HasTenantAt setup.tenants slot →
    config_in setup slot ≡ config_at config (lives.last_at slot)
config_of_life config setup lives slot sizes numbered (tenant, there) =
    ap (config_of setup.head) there ∙ sizes tenant ∙ sym (quota_at config (lives.last_at slot) tenant (numbered.tenant_is slot tenant there))

module _ {W : Type 0} (setup : W → Setup) (StandsFor : W → ℕ → SoloCluster → Type 0) where
  -- each open tenant's part of the world is the cluster of its life, and lives to come have new ones
  pub record AreStanding (config : Config) (world : W) (lives : Lives) (clusters : ℕ → SoloCluster) : Type 0 where
    pub stand : (slot : ℕ) → IsTrue (is_open_at (setup world) slot) → StandsFor world slot (clusters (lives.last_at slot))
    pub later : (number : ℕ) → lives.begun ≤ number → clusters number ≡ new_at config number

  -- what was answered, one line after another
  pub record AreGiven (old : W) (lives : Lives) (said : List Said) (told : List Answer) (new : W) : Type 0 where
    pub same : setup new ≡ setup_past (setup old) said
    pub each : length told ≡ length said
    pub answers : AreAnswersTo (of_lives_from lives said) told
    pub acts : (config : Config) (clusters : ℕ → SoloCluster) → AreFor config (setup old) lives said → AreStanding config old lives clusters → (number : ℕ) →
        ActsGo (config_at config number) number (of_lives_from lives said) told (clusters number)
    pub right : AreSpared told → (config : Config) (clusters : ℕ → SoloCluster) → AreFor config (setup old) lives said → AreStanding config old lives clusters →
        (later : ℕ → SoloCluster) × AreStanding config new (lives_past lives said) later
        × ((others : List Said) → answers_from (config_at config) (of_lives_from lives (said ++ others)) clusters ≡ told ++ answers_from (config_at config) (of_lives_from (lives_past lives said) others) later)
    pub left : AreSpared told → (config : Config) (clusters : ℕ → SoloCluster) → AreFor config (setup old) lives said → AreStanding config old lives clusters →
        AreStanding config new (lives_past lives said) (λ number. cluster_after (config_at config number) (own number (events_in (of_lives_from lives said))) (clusters number))

  -- clusters that are the same stand as well
  pub stand_alike : (config : Config) (world : W) (lives : Lives) (one other : ℕ → SoloCluster) → ((number : ℕ) → one number ≡ other number) → AreStanding config world lives one → AreStanding config world lives other
  stand_alike config world lives one other same standing = record {
    stand = λ slot there. subst (StandsFor world slot) (same (lives.last_at slot)) (standing.stand slot there);
    later = λ number low. sym (same number) ∙ standing.later number low;
  }

  pub given_nothing : (old : W) (lives : Lives) → AreGiven old lives [] [] old
  given_nothing old lives = record {
    same = refl;
    each = refl;
    answers = tt;
    acts = λ config clusters for standing number. (clusters number, refl);
    right = λ spared config clusters for standing. (clusters, standing, λ others. refl);
    left = λ spared config clusters for standing. standing;
  }

  -- ---- lines that act on no cluster

  module _ (old mid new : W) (lives : Lives) (said : List Said) (told : List Answer) where
    -- clusters that stood stand after it
    abbrev StandStill : Said → Type 0
    StandStill one = (config : Config) (clusters : ℕ → SoloCluster) → AreFor config (setup old) lives (one ∷ said) → AreStanding config old lives clusters → AreStanding config mid (lives_after lives one) clusters

    given_host : (deed : HostDeed) → setup mid ≡ setup_after (setup old) (OfHost deed) → StandStill (OfHost deed) → AreGiven mid (lives_after lives (OfHost deed)) said told new →
        AreGiven old lives (OfHost deed ∷ said) (ToHost (reply_to_host deed) ∷ told) new
    given_host deed is still p = record {
      same = p.same ∙ ap (λ s. setup_past s said) is;
      each = ap suc p.each;
      answers = (refl, p.answers);
      acts = λ config clusters for standing number.
          host_keeps_acts (reply_to_host deed) deed (config_at config number) number told (of_lives_from (lives_after lives (OfHost deed)) said) (clusters number)
          (p.acts config clusters (for_next config (setup old) (setup mid) lives (OfHost deed) said is for) (still config clusters for standing) number);
      right = λ spared config clusters for standing.
          let rest = p.right (later_spared (is_lack (ToHost (reply_to_host deed))) (list_any is_lack told) spared) config clusters (for_next config (setup old) (setup mid) lives (OfHost deed) said is for) (still config clusters for standing) in
          (rest.0, rest.1, λ others. ap (λ told. ToHost (reply_to_host deed) ∷ told) (rest.2 others));
      left = λ spared config clusters for standing.
          p.left (later_spared (is_lack (ToHost (reply_to_host deed))) (list_any is_lack told) spared) config clusters (for_next config (setup old) (setup mid) lives (OfHost deed) said is for) (still config clusters for standing);
    }

    given_unformed : (slot : ℕ) → setup mid ≡ setup_after (setup old) (Unformed slot) → StandStill (Unformed slot) → AreGiven mid lives said told new →
        AreGiven old lives (Unformed slot ∷ said) (ToTenant (lives.last_at slot) (Refused Syntax) ∷ told) new
    given_unformed slot is still p = record {
      same = p.same ∙ ap (λ s. setup_past s said) is;
      each = ap suc p.each;
      answers = (refl, p.answers);
      acts = λ config clusters for standing number.
          unformed_keeps_acts (lives.last_at slot) (config_at config number) number told (of_lives_from lives said) (clusters number)
          (p.acts config clusters (for_next config (setup old) (setup mid) lives (Unformed slot) said is for) (still config clusters for standing) number);
      right = λ spared config clusters for standing.
          let rest = p.right (later_spared false (list_any is_lack told) spared) config clusters (for_next config (setup old) (setup mid) lives (Unformed slot) said is for) (still config clusters for standing) in
          (rest.0, rest.1, λ others. ap (λ told. ToTenant (lives.last_at slot) (Refused Syntax) ∷ told) (rest.2 others));
      left = λ spared config clusters for standing.
          p.left (later_spared false (list_any is_lack told) spared) config clusters (for_next config (setup old) (setup mid) lives (Unformed slot) said is for) (still config clusters for standing);
    }

  -- nothing is done
  pub stand_stayed : (config : Config) (old mid : W) (lives : Lives) (clusters : ℕ → SoloCluster) → HasStayed setup StandsFor old mid → AreStanding config old lives clusters → AreStanding config mid lives clusters
  stand_stayed config old mid lives clusters stayed standing = record {
    stand = λ slot there. stayed.clusters slot (clusters (lives.last_at slot)) (standing.stand slot (subst (λ s. IsTrue (is_open_at s slot)) stayed.same there));
    later = standing.later;
  }

  -- a tenant is open at the slot of an open one
  has_tenant : (world : W) (slot : ℕ) → IsTrue (is_open_at (setup world) slot) → HasTenantAt (setup world).tenants slot
  has_tenant world slot there = tenant_in (setup world) slot there

  -- a life begins
  stand_admitted : (config : Config) (old mid : W) (lives : Lives) (slot : ℕ) (tenant : Tenant) (clusters : ℕ → SoloCluster) (said : List Said) → AreFor config (setup old) lives (OfHost (Admits slot tenant) ∷ said) →
      HasAdmitted setup StandsFor slot tenant old mid → AreStanding config old lives clusters → AreStanding config mid (with_life slot lives) clusters
  stand_admitted config old mid lives slot tenant clusters said for admitted standing = record {
    stand = λ other there. by_test (slot == other)
        (λ is.
        let same = (Decides-eqb slot other).0 is in
        let begins = standing.later lives.begun (omega arith) ∙ ap new_cluster (quota_at config lives.begun tenant for.of.0 ∙ sym (for.sizes tenant)) in
        rw is (subst (λ n. StandsFor mid n (clusters lives.begun)) same (subst (StandsFor mid slot) (sym begins) admitted.begins)))
        (λ differs.
        let apart : slot ≢ other = λ same. true≢false (sym ((Decides-eqb slot other).1 same) ∙ differs) in
        let still : open_at other (setup mid).tenants ≡ open_at other (setup old).tenants =
        ap (λ (s : Setup). open_at other s.tenants) admitted.setup_is ∙ open_set_other (setup old).tenants slot other (Some tenant) (λ same. apart (sym same)) in
        rw differs (admitted.others other apart (clusters (lives.last_at other)) (standing.stand other (subst (λ o. IsTrue (is_there o)) still there))));
    later = λ number low. standing.later number (omega (arith, low));
  }
    where
      is_there : Option Tenant → Bool
      is_there None = false
      is_there (Some t) = true

  -- a slot is closed
  stand_closed : (config : Config) (old mid : W) (lives : Lives) (slot : ℕ) (clusters : ℕ → SoloCluster) → HasClosed setup StandsFor slot old mid → AreStanding config old lives clusters → AreStanding config mid lives clusters
  stand_closed config old mid lives slot clusters closed standing = record {
    stand = λ other there. by_test (slot == other)
        (λ is.
        let gone : open_at other (setup mid).tenants ≡ None =
        ap (λ n. open_at n (setup mid).tenants) (sym ((Decides-eqb slot other).0 is)) ∙ ap (λ (s : Setup). open_at slot s.tenants) closed.setup_is ∙ closed_set (setup old).tenants slot in
        let found = has_tenant mid other there in
        let clash : None ≡ Some found.0 = sym gone ∙ found.1 in absurd cc)
        (λ differs.
        let apart : slot ≢ other = λ same. true≢false (sym ((Decides-eqb slot other).1 same) ∙ differs) in
        let still : open_at other (setup mid).tenants ≡ open_at other (setup old).tenants =
        ap (λ (s : Setup). open_at other s.tenants) closed.setup_is ∙ open_set_other (setup old).tenants slot other None (λ same. apart (sym same)) in
        let found = has_tenant mid other there in
        closed.others other apart (clusters (lives.last_at other)) (standing.stand other (open_found other (sym still ∙ found.1))));
    later = standing.later;
  }
    where
      open_found : (other : ℕ) {t : Tenant} → open_at other (setup old).tenants ≡ Some t → IsTrue (is_open_at (setup old) other)
      open_found other {t} e = rw e refl

  -- ---- lines that act

  -- the tenant acted, and has this cluster then
  stand_acted : (config : Config) (old mid : W) (lives : Lives) (slot : ℕ) (after : SoloCluster) (clusters : ℕ → SoloCluster) → AreNumbered config (setup old).tenants lives → HasTenantAt (setup old).tenants slot → setup mid ≡ setup old →
      OthersStay setup StandsFor slot old mid → StandsFor mid slot after → AreStanding config old lives clusters → AreStanding config mid lives (with_cluster (lives.last_at slot) after clusters)
  stand_acted config old mid lives slot after clusters numbered (tenant, here) same others own standing = record {
    stand = λ other there.
        let before = subst (λ s. IsTrue (is_open_at s other)) same there in
        let found = has_tenant old other before in
        by_test (lives.last_at slot == lives.last_at other)
        (λ is.
        let one = numbered.apart slot other tenant found.0 here found.1 ((Decides-eqb (lives.last_at slot) (lives.last_at other)).0 is) in
        rw is (subst (λ n. StandsFor mid n after) one own))
        (λ differs.
        let apart : slot ≢ other = λ e. true≢false (sym ((Decides-eqb (lives.last_at slot) (lives.last_at other)).1 (ap lives.last_at e)) ∙ differs) in
        rw differs (others other apart (clusters (lives.last_at other)) (standing.stand other before)));
    later = λ number low. by_test (lives.last_at slot == number)
        (λ is.
        let one = (Decides-eqb (lives.last_at slot) number).0 is in
        let older = numbered.begun slot tenant here in
        absurd (omega (arith, one, older, low)))
        (λ differs. rw differs (standing.later number low));
  }

  with_other : (slot other : ℕ) (after : SoloCluster) (clusters : ℕ → SoloCluster) → (slot ≡ other → ⊥) → with_cluster slot after clusters other ≡ clusters other
  with_other slot other after clusters apart = by_test (slot == other) (λ is. absurd (apart ((Decides-eqb slot other).0 is))) (λ differs. rw differs refl)

  with_same : (slot other : ℕ) (after : SoloCluster) (clusters : ℕ → SoloCluster) → slot ≡ other → with_cluster slot after clusters other ≡ after
  with_same slot other after clusters same = rw ((Decides-eqb slot other).1 same) refl

  module _ (old mid new : W) (lives : Lives) (said : List Said) (told : List Answer) (event : Event) (reply : Reply) (acted : ActsAsTold setup StandsFor old event reply mid) (p : AreGiven mid lives said told new) where
    abbrev life : ℕ
    life = lives.last_at event.slot

    abbrev step : Event
    step = record { slot = life; act = event.act }

    module _ (config : Config) (clusters : ℕ → SoloCluster) (for : AreFor config (setup old) lives (Acts event ∷ said)) (standing : AreStanding config old lives clusters) where
      there : IsTrue (is_open_at (setup old) event.slot)
      there = open_found for.placed.0
        where
          open_found : HasTenantAt (setup old).tenants event.slot → IsTrue (is_open_at (setup old) event.slot)
          open_found (t, e) = rw e refl

      stood : StandsFor old event.slot (clusters life)
      stood = standing.stand event.slot there

      next : AreFor config (setup mid) lives said
      next = for_next config (setup old) (setup mid) lives (Acts event) said acted.same for

      concern : config_in (setup old) event.slot ≡ config_at config life
      concern = config_of_life config (setup old) lives event.slot for.sizes for.numbered for.placed.0

      -- a turn of its own cluster, also if memory was refused
      turn_of : (after : SoloCluster) × Turns (config_at config life) event.act (clusters life) reply after × StandsFor mid event.slot after
      turn_of =
          subst (λ (c : TenantConfig). (after : SoloCluster) × Turns c event.act (clusters life) reply after × StandsFor mid event.slot after) concern (as_turn setup StandsFor old event reply mid acted (clusters life) stood)

      turned : is_out_of_memory reply ≡ false → (reply ≡ (cluster_step (config_at config life) event.act (clusters life)).reply) × StandsFor mid event.slot (cluster_step (config_at config life) event.act (clusters life)).after
      turned spared =
          subst (λ (c : TenantConfig). let turn = cluster_step c event.act (clusters life) in (reply ≡ turn.reply) × StandsFor mid event.slot turn.after) concern (acted.own spared (clusters life) stood)

      -- the tenant has some cluster, also if memory ran out
      some_after : (after : SoloCluster) × StandsFor mid event.slot after
      some_after = (turn_of.0, turn_of.2)

      stands_with : (after : SoloCluster) → StandsFor mid event.slot after → AreStanding config mid lives (with_cluster life after clusters)
      stands_with after own = stand_acted config old mid lives event.slot after clusters for.numbered for.placed.0 acted.same acted.others own standing

      -- what holds of the tenant's number, and what of another
      module _ (number : ℕ) (Is : SoloCluster → Type 0) (later : (cs : ℕ → SoloCluster) → AreStanding config mid lives cs → Is (cs number)) where
        his_turn : life ≡ number → (after : SoloCluster) × Turns (config_at config number) event.act (clusters number) reply after × Is after
        his_turn same =
            let held = subst Is (with_same life number turn_of.0 clusters same) (later (with_cluster life turn_of.0 clusters) (stands_with turn_of.0 turn_of.2)) in
            subst (λ n. (after : SoloCluster) × Turns (config_at config n) event.act (clusters n) reply after × Is after) same (turn_of.0, turn_of.1, held)

        other : (life ≡ number → ⊥) → Is (clusters number)
        other apart = subst Is (with_other life number some_after.0 clusters apart) (later (with_cluster life some_after.0 clusters) (stands_with some_after.0 some_after.1))

    -- the first act, and then the others
    one_first : (config : Config) (clusters : ℕ → SoloCluster) (events : List Event) (number : ℕ) →
        cluster_after (config_at config number) (own number events) (with_cluster life (cluster_step (config_at config life) event.act (clusters life)).after clusters number) ≡ cluster_after (config_at config number) (own number (step ∷ events)) (clusters number)
    one_first config clusters events number = by_test (life == number)
        (λ is. let same = (Decides-eqb life number).0 is in rw is (ap (λ n. cluster_after (config_at config number) (own number events) (cluster_step (config_at config n) event.act (clusters n)).after) same))
        (λ differs. rw differs refl)

    pub given_act : AreGiven old lives (Acts event ∷ said) (ToTenant life reply ∷ told) new
    given_act = record {
      same = p.same ∙ ap (λ s. setup_past s said) acted.same;
      each = ap suc p.each;
      answers = ((reply, refl), p.answers);
      acts = λ config clusters for standing number.
          let Is : SoloCluster → Type 0 = λ cluster. ActsGo (config_at config number) number (of_lives_from lives said) told cluster in
          let later : (cs : ℕ → SoloCluster) → AreStanding config mid lives cs → Is (cs number) = λ cs stands. p.acts config cs (next config clusters for standing) stands number in
          act_keeps_acts (config_at config number) number step reply told (of_lives_from lives said) (clusters number) (his_turn config clusters for standing number Is later) (other config clusters for standing number Is later);
      right = λ spared config clusters for standing.
          let one = turned config clusters for standing (first_spared (is_out_of_memory reply) (list_any is_lack told) spared) in
          let turn = cluster_step (config_at config life) event.act (clusters life) in
          let cs = with_cluster life turn.after clusters in
          let rest = p.right (later_spared (is_out_of_memory reply) (list_any is_lack told) spared) config cs (next config clusters for standing) (stands_with config clusters for standing turn.after one.1) in (
            rest.0,
            rest.1,
            λ others.
                ap (λ r. ToTenant life r ∷ answers_from (config_at config) (of_lives_from lives (said ++ others)) cs) (sym one.0)
                ∙ ap (λ told. ToTenant life reply ∷ told) (rest.2 others),
          );
      left = λ spared config clusters for standing.
          let one = turned config clusters for standing (first_spared (is_out_of_memory reply) (list_any is_lack told) spared) in
          let turn = cluster_step (config_at config life) event.act (clusters life) in
          let cs = with_cluster life turn.after clusters in
          let rest = p.left (later_spared (is_out_of_memory reply) (list_any is_lack told) spared) config cs (next config clusters for standing) (stands_with config clusters for standing turn.after one.1) in
          let events = events_in (of_lives_from lives said) in
          stand_alike config new (lives_past lives said) (λ number. cluster_after (config_at config number) (own number events) (cs number)) (λ number. cluster_after (config_at config number) (own number (step ∷ events)) (clusters number))
          (λ number. one_first config clusters events number) rest;
    }

  -- ---- any line

  -- the answer by life, and what was heard
  module _ (old mid new : W) (lives : Lives) (said : List Said) (told : List Answer) where
    -- the first of the lines was done and answered so, and the others after it
    abbrev pub GivenAfter : Said → Answer → Type 0
    GivenAfter one answer = AreGiven mid (lives_after lives (heard one answer)) said told new

    abbrev pub GivenWith : Said → Answer → Type 0
    GivenWith one answer = AreGiven old lives (heard one answer ∷ said) (answer ∷ told) new

    refused : (fault : Fault) → HasStayed setup StandsFor old mid → AreGiven mid lives said told new → AreGiven old lives (OfHost (Refuses fault) ∷ said) (ToHost (Denied fault) ∷ told) new
    refused fault stayed p =
        given_host old mid new lives said told (Refuses fault) stayed.same (λ config clusters for standing. stand_stayed config old mid lives clusters stayed standing) p

    given_hosted : (deed : HostDeed) (answer : Answer) → IsHosted setup StandsFor old deed answer mid → GivenAfter (OfHost deed) (answer_of lives answer) → GivenWith (OfHost deed) (answer_of lives answer)
    given_hosted (Refuses fault) answer (is, stayed) p =
        let p' : AreGiven mid lives said told new = subst (λ a. GivenAfter (OfHost (Refuses fault)) (answer_of lives a)) is p in
        subst (λ a. GivenWith (OfHost (Refuses fault)) (answer_of lives a)) (sym is) (refused fault stayed p')
    given_hosted (Closes slot name) answer (is, closed) p =
        let p' : AreGiven mid lives said told new = subst (λ a. GivenAfter (OfHost (Closes slot name)) (answer_of lives a)) is p in
        subst (λ a. GivenWith (OfHost (Closes slot name)) (answer_of lives a)) (sym is)
        (given_host old mid new lives said told (Closes slot name) closed.setup_is (λ config clusters for standing. stand_closed config old mid lives slot clusters closed standing) p')
    given_hosted (Admits slot tenant) answer (inl (is, admitted)) p =
        let p' : AreGiven mid (with_life slot lives) said told new = subst (λ a. GivenAfter (OfHost (Admits slot tenant)) (answer_of lives a)) is p in
        subst (λ a. GivenWith (OfHost (Admits slot tenant)) (answer_of lives a)) (sym is)
        (given_host old mid new lives said told (Admits slot tenant) admitted.setup_is (λ config clusters for standing. stand_admitted config old mid lives slot tenant clusters said for admitted standing) p')
    given_hosted (Admits slot tenant) answer (inr (is, stayed)) p =
        let p' : AreGiven mid lives said told new = subst (λ a. GivenAfter (OfHost (Admits slot tenant)) (answer_of lives a)) is p in
        subst (λ a. GivenWith (OfHost (Admits slot tenant)) (answer_of lives a)) (sym is) (refused OutOfMemory stayed p')

    pub given_one : (one : Said) (answer : Answer) → IsDone setup StandsFor old one answer mid → GivenAfter one (answer_of lives answer) → GivenWith one (answer_of lives answer)
    given_one (OfHost deed) answer done p = given_hosted deed answer done p
    given_one (Unformed slot) answer (is, stayed) p =
        let p' : AreGiven mid lives said told new = subst (λ a. GivenAfter (Unformed slot) (answer_of lives a)) is p in
        subst (λ a. GivenWith (Unformed slot) (answer_of lives a)) (sym is)
        (given_unformed old mid new lives said told slot stayed.same (λ config clusters for standing. stand_stayed config old mid lives clusters stayed standing) p')
    given_one (Acts event) answer (answered, is, acted) p =
        let p' : AreGiven mid lives said told new = subst (λ a. GivenAfter (Acts event) (answer_of lives a)) is p in
        subst (λ a. GivenWith (Acts event) (answer_of lives a)) (sym is) (given_act old mid new lives said told event (told_act answered) (as_told_act setup StandsFor old event answered mid acted) p')
