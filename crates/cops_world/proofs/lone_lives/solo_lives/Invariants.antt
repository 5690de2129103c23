use Rattle.std.proofs.Common.{drop, map}
use Rattle.cops_world.specs.declared.lone_lives.LoneLife.{LoneLife}
use Rattle.cops_world.proofs.SlotLifeLemmas.{AreLivesSoFar}
use Rattle.cops_world.proofs.lone_lives.solo_lives.Given as goal

-- the lives that begin up to here
abbrev pub invariant-loop-place : goal.invariant-loop-place
invariant-loop-place l =
    record { so_far : AreLivesSoFar l.config l.slot l.events l.tenants (drop l.place l.events) (map (λ (life : LoneLife). life.tenant) l.lives.items) (map (λ (life : LoneLife). life.told.items) l.lives.items) }
