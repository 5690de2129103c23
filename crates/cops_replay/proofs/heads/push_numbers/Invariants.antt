use Rattle.cops_replay.proofs.Names.{◌≡◌, ◌++◌, ◌∷◌, take, decimal, flat_map}
use Rattle.cops_replay.proofs.heads.push_numbers.Given as goal

abbrev pub invariant-loop-number : goal.invariant-loop-number
invariant-loop-number l = l.out.items ≡ l.fn.out.items ++ flat_map (λ number. 32 ∷ decimal number) (take l.number-index l.numbers)
