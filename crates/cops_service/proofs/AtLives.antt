-- What is done at a desk that works in a life is done with its seat, in that life.
use Rattle.std.proofs.Common.{◌≡◌, ◌<◌, ℕ, [], length, Some, inl, inr, ap, arith, refl, subst}
use Rattle.std.specs.Prelude.{slice_get}
use Rattle.std.proofs.lemmas.Option.{slice_get_within}
use Rattle.cops_types.specs.declared.configs.Config.{Config}
use Rattle.cops_types.specs.declared.configs.Tenant.{Tenant}
use Rattle.cops_gate.specs.declared.board.Account.{Account}
use Rattle.cops_model.specs.declared.calls.NodeCall.{NodeCall}
use Rattle.cops_model.specs.declared.calls.NodeId.{NodeId}
use Rattle.cops_model.specs.declared.calls.NodeReply.{NodeReply}
use Rattle.cops_node.specs.Hosting.{Hosted}
use Rattle.cops_wire.specs.Requests.{KeepsShape}
use Rattle.cops_service.specs.Carried.{DeliversStream}
use Rattle.cops_service.specs.Conversing.{Converses}
use Rattle.cops_service.specs.Gates.{Gates}
use Rattle.cops_service.specs.HostedCrews.{CallsInLife}
use Rattle.cops_service.specs.HostedDesks.{HostedSeat, IsLifeCall, hosted_shape}
use Rattle.cops_service.specs.Repeated.{IsRepeated}
use Rattle.cops_service.specs.declared.notes.Stream.{Stream}
use Rattle.cops_service.specs.declared.roster.Life.{Life}
use Rattle.cops_service.proofs.AtSeats.{converses_there, repeated_there, stream_delivered_there}

-- a cluster without tenants calls no node
module _ {N M : Type 0} (Calls : N → NodeId → ℕ → ℕ → NodeCall → NodeReply → N → Type 0) (Gives : M → ℕ → M → Type 0) (config : Config) where
  none_there : (slot : ℕ) (tenant : Tenant) → config.tenants ≡ [] → slice_get config.tenants slot ≡ Some tenant → ⊥
  none_there slot tenant nobody at =
      let within : slot < length config.tenants = slice_get_within config.tenants slot tenant at in
      let none : length config.tenants ≡ 0 = ap length nobody in omega arith

  pub nobody_calls : (nodes new_nodes : N) (moments new_moments : M) → config.tenants ≡ [] → Converses Calls Gives config nodes new_nodes moments new_moments → (new_nodes ≡ nodes) × (new_moments ≡ moments)
  nobody_calls nodes new_nodes moments new_moments nobody (inl (ended, h)) = absurd (none_there h.slot h.tenant nobody h.tenant_is)
  nobody_calls nodes new_nodes moments new_moments nobody (inr (inl (greeted, same, same_moments))) = (same, same_moments)
  nobody_calls nodes new_nodes moments new_moments nobody (inr (inr h)) = absurd (none_there h.slot h.tenant nobody h.tenant_is)

module _ {N Name : Type 0} (config : N → Config) (cluster : N → Gates Hosted) (name : N → Name) (slot life : N → ℕ) (seat : N → HostedSeat) where
  -- a call at this cluster with this seat, in this life, all of which the desk keeps; its account stays
  abbrev LivingCalls : N → NodeId → ℕ → ℕ → NodeCall → NodeReply → N → Type 0
  LivingCalls old id named moment call reply new =
      (cluster new ≡ cluster old) × (name new ≡ name old) × (slot new ≡ slot old) × (life new ≡ life old) × (config new ≡ config old)
      × IsLifeCall (cluster old) (seat old) id (slot old) (life old) moment call reply (seat new)

  abbrev At : Type 0
  At = Gates Hosted × Name × Life × Config × Account

  abbrev key : N → At
  key n = (cluster n, name n, record { slot = slot n; number = life n }, config n, (seat n).account)

  abbrev Tells : At → HostedSeat → NodeId → ℕ → ℕ → NodeCall → NodeReply → HostedSeat → Type 0
  Tells here = CallsInLife here.0 here.2

  abbrev Stays : N → N → Type 0
  Stays old new = (cluster new ≡ cluster old) × (name new ≡ name old) × (config new ≡ config old) × ((seat new).account ≡ (seat old).account)

  kept : (old new : N) → key new ≡ key old → Stays old new
  kept old new same = (ap (λ (k : At). k.0) same, ap (λ (k : At). k.1) same, ap (λ (k : At). k.3) same, ap (λ (k : At). k.4) same)

  key_stays : (old new : N) (id : NodeId) (named moment : ℕ) (call : NodeCall) (reply : NodeReply) → LivingCalls old id named moment call reply new → key new ≡ key old
  key_stays old new id named moment call reply h i = (h.0 i, h.1 i, record { slot = h.2 i; number = h.3 i }, h.4 i, h.5.2.account i)

  -- ---- conversations

  pub life_converses : {M : Type 0} (Gives : M → ℕ → M → Type 0) (alone : Config) (old new : N) (moments new_moments : M) → Converses (KeepsShape (λ n. hosted_shape (cluster n)) LivingCalls) Gives alone old new moments new_moments
      → Stays old new × Converses (CallsInLife (cluster old) (record { slot = slot old; number = life old })) Gives alone (seat old) (seat new) moments new_moments
  life_converses Gives alone old new moments new_moments h =
      let done = converses_there (KeepsShape (λ n. hosted_shape (cluster n)) LivingCalls) Tells key seat (λ a b id named moment call reply h. key_stays a b id named moment call reply h.0) (λ a b id named moment call reply h. h.0.5) (key old) Gives alone old new moments new_moments refl h in
      (kept old new done.0, done.1)

  -- the same of a desk that was turned to a life
  pub converses_in : {M : Type 0} (Gives : M → ℕ → M → Type 0) (alone wanted : Config) (here : Gates Hosted) (there : Life) (first : HostedSeat) (old new : N) (moments new_moments : M) → alone ≡ wanted → cluster old ≡ here → slot old ≡ there.slot → life old ≡ there.number → seat old ≡ first
      → Converses (KeepsShape (λ n. hosted_shape (cluster n)) LivingCalls) Gives alone old new moments new_moments → Converses (CallsInLife here there) Gives wanted first (seat new) moments new_moments
  converses_in Gives alone wanted here there first old new moments new_moments alone_is cluster_is slot_is life_is seat_is h =
      subst (λ (x : Config × Gates Hosted × Life × HostedSeat). Converses (CallsInLife x.1 x.2) Gives x.0 x.3 (seat new) moments new_moments) (λ i. (alone_is i, cluster_is i, record { slot = slot_is i; number = life_is i }, seat_is i))
      (life_converses Gives alone old new moments new_moments h).1

  -- ---- carriers

  pub life_delivers : (shards : ℕ) (stream : Stream) (old new : N) → IsRepeated (DeliversStream LivingCalls shards stream) old new
      → Stays old new × IsRepeated (DeliversStream (CallsInLife (cluster old) (record { slot = slot old; number = life old })) shards stream) (seat old) (seat new)
  life_delivers shards stream old new (count, all) =
      let done = repeated_there LivingCalls Tells key seat key_stays (λ a b id named moment call reply h. h.5) (key old) (DeliversStream LivingCalls shards stream) (DeliversStream (Tells (key old)) shards stream)
      (stream_delivered_there LivingCalls Tells key seat key_stays (λ a b id named moment call reply h. h.5) (key old) shards stream) count old new refl all in
      (kept old new done.0, (count, done.1))

  pub delivers_in : (shards : ℕ) (stream : Stream) (here : Gates Hosted) (there : Life) (first : HostedSeat) (old new : N) → cluster old ≡ here → slot old ≡ there.slot → life old ≡ there.number → seat old ≡ first
      → IsRepeated (DeliversStream LivingCalls shards stream) old new → IsRepeated (DeliversStream (CallsInLife here there) shards stream) first (seat new)
  delivers_in shards stream here there first old new cluster_is slot_is life_is seat_is h =
      subst (λ (x : Gates Hosted × Life × HostedSeat). IsRepeated (DeliversStream (CallsInLife x.0 x.1) shards stream) x.2 (seat new)) (λ i. (cluster_is i, record { slot = slot_is i; number = life_is i }, seat_is i))
      (life_delivers shards stream old new h).1

  -- ---- one call

  pub life_calls : (old new : N) (id : NodeId) (named moment : ℕ) (call : NodeCall) (reply : NodeReply) → LivingCalls old id named moment call reply new
      → Stays old new × CallsInLife (cluster old) (record { slot = slot old; number = life old }) (seat old) id named moment call reply (seat new)
  life_calls old new id named moment call reply h = (kept old new (key_stays old new id named moment call reply h), h.5)

  pub calls_in : (here : Gates Hosted) (there : Life) (first : HostedSeat) (old new : N) (id : NodeId) (named moment : ℕ) (call : NodeCall) (reply : NodeReply) → cluster old ≡ here → slot old ≡ there.slot → life old ≡ there.number → seat old ≡ first
      → LivingCalls old id named moment call reply new → CallsInLife here there first id named moment call reply (seat new)
  calls_in here there first old new id named moment call reply cluster_is slot_is life_is seat_is h =
      subst (λ (x : Gates Hosted × Life × HostedSeat). CallsInLife x.0 x.1 x.2 id named moment call reply (seat new)) (λ i. (cluster_is i, record { slot = slot_is i; number = life_is i }, seat_is i))
      (life_calls old new id named moment call reply h).1
