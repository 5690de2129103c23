use Rattle.std.proofs.Common.{inl, inr, ◌⊎◌}
use Rattle.cops_service.proofs.hosted_tests.put_in.Goals as goal

pub returns : goal.returns
returns g c = elim c.put_x.ensures.once [
  | inl same ↦ (cc, cc)
  | inr told ↦ (told.5.0, told.5.1)
]
