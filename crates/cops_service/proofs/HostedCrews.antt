-- What threads of a service do whose tenants come and go.
use Rattle.std.proofs.Common.{◌≡◌, ◌<◌, ◌∙◌, ℕ, ◌+◌, get_or, subst, take, List, ◌∷◌, length, inl, inr, refl}
use Rattle.cops_types.specs.declared.configs.Config.{Config}
use Rattle.cops_node.specs.Hosting.{Hosted}
use Rattle.cops_service.specs.Calling.{DoneForEach}
use Rattle.cops_service.specs.Gates.{Gates}
use Rattle.cops_service.specs.HostedCrews.{CarriesInLife, CarriesLives, CollectsInLife, CollectsLives, CollectsSomePlace, DeliversInLife, DeliversSomeLife, FollowsLine, Hosting}
use Rattle.cops_service.specs.HostedDesks.{HostedSeat}
use Rattle.cops_service.specs.declared.host_lines.HostLine.{HostLine}
use Rattle.cops_service.specs.declared.notes.Stream.{Stream}
use Rattle.cops_service.specs.declared.notes.TenantNode.{TenantNode}
use Rattle.cops_service.proofs.Calling.{done_more}
use Rattle.cops_service.proofs.Repeated.{repeated_for_each, repeated_so}

-- ---- one more of a list is done

module _ (config there : Config) (cluster gates : Gates Hosted) (is : there ≡ config) (are : gates ≡ cluster) (i : ℕ) (old between new : HostedSeat) where
  pub one_more_carried : (streams : List Stream) (d : Stream) → i < length streams → DoneForEach (CarriesInLife config cluster) (take i streams) old between → CarriesInLife there gates (get_or streams i d) between new
      → DoneForEach (CarriesInLife config cluster) (take (i + 1) streams) old new
  one_more_carried streams d within done one =
      done_more (CarriesInLife config cluster) streams i d old between new within done (subst (λ (x : Config × Gates Hosted). CarriesInLife x.0 x.1 (get_or streams i d) between new) (λ k. (is k, are k)) one)

  pub one_more_collected : (places : List TenantNode) (d : TenantNode) → i < length places → DoneForEach (CollectsInLife config cluster) (take i places) old between → CollectsInLife there gates (get_or places i d) between new
      → DoneForEach (CollectsInLife config cluster) (take (i + 1) places) old new
  one_more_collected places d within done one =
      done_more (CollectsInLife config cluster) places i d old between new within done (subst (λ (x : Config × Gates Hosted). CollectsInLife x.0 x.1 (get_or places i d) between new) (λ k. (is k, are k)) one)

module _ (cluster gates : Gates Hosted) (are : gates ≡ cluster) where
  pub one_more_followed : (lines : List HostLine) (d : HostLine) (i : ℕ) (old between new : Hosting) → i < length lines → DoneForEach (FollowsLine cluster) (take i lines) old between → FollowsLine gates (get_or lines i d) between new
      → DoneForEach (FollowsLine cluster) (take (i + 1) lines) old new
  one_more_followed lines d i old between new within done one =
      done_more (FollowsLine cluster) lines i d old between new within done (subst (λ at. FollowsLine at (get_or lines i d) between new) are one)

-- ---- what the threads do

module _ (config : Config) (cluster : Gates Hosted) where
  carried_some : (stream : Stream) (old new : HostedSeat) → CarriesInLife config cluster stream old new → CarriesLives config cluster old new
  carried_some stream old new (inl (between, (count, all))) =
      (count, repeated_so (DeliversInLife config cluster stream) (DeliversSomeLife config cluster) (λ a b delivered. (stream, between, delivered)) count old new all)
  carried_some stream old new (inr (not, same)) = (0, same)

  collected_some : (place : TenantNode) (old new : HostedSeat) → CollectsInLife config cluster place old new → CollectsLives config cluster old new
  collected_some place old new (inl (there, collected)) = (1, (old, refl, (place, there, collected)))
  collected_some place old new (inr (not, same)) = (0, same)

  pub streams_carried : (streams : List Stream) (old between new : HostedSeat) → CarriesLives config cluster old between → DoneForEach (CarriesInLife config cluster) streams between new → CarriesLives config cluster old new
  streams_carried streams old between new all done = repeated_for_each (DeliversSomeLife config cluster) (CarriesInLife config cluster) carried_some streams old between new all done

  pub places_collected : (places : List TenantNode) (old between new : HostedSeat) → CollectsLives config cluster old between → DoneForEach (CollectsInLife config cluster) places between new → CollectsLives config cluster old new
  places_collected places old between new all done = repeated_for_each (CollectsSomePlace config cluster) (CollectsInLife config cluster) collected_some places old between new all done
