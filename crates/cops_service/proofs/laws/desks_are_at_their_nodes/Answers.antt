use Rattle.cops_service.proofs.laws.desks_are_at_their_nodes.Goals as goal

pub returns : goal.returns
returns g c = record { stays = λ old new id slot moment call reply h. h.0.0; call = λ old new id slot moment call reply h. h.0.2 }
