-- Lines and the acts that they are, computed.
use Rattle.std.proofs.Common.{◌≡◌, [], ◌∷◌, ◌++◌, refl}
use Rattle.std.specs.Prelude.{codes, Some, None}
use Rattle.cops_types.specs.OnLiterals.{texts_on_literals}
use Rattle.cops_model.specs.declared.acts.Act.TheVariants.{Get}
use Rattle.cops_script.specs.ActLines.{act_in}

spaces_are_single : act_in (codes "acme") (codes "acme  open a 0") ≡ None
unfolding texts_on_literals
spaces_are_single = refl

no_leading_zeros : act_in (codes "acme") (codes "acme open a 00") ≡ None
unfolding texts_on_literals
no_leading_zeros = refl

-- a carriage return is a byte of a key, and of no value
return_in_a_key : act_in (codes "acme") (codes "acme get a 1 x" ++ 13 ∷ []) ≡ Some (Get (codes "a") 1 ((120 ∷ 13 ∷ []) ∷ []))
unfolding texts_on_literals
return_in_a_key = refl

return_in_a_value : act_in (codes "acme") (codes "acme put a 1 x 10" ++ 13 ∷ []) ≡ None
unfolding texts_on_literals
return_in_a_value = refl
