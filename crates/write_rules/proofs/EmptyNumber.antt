-- No bytes spell the number 0.
use Rattle.std.proofs.Common.{◌≡◌, ℕ, List, [], Bool, true, false, cond, refl, ap, ◌∙◌, sym}
use Rattle.canon_bytes.proofs.Numbers.{num_none}
use Rattle.plane_spec.specs.UpdateRules.{number, number_in}

or_zero : (b : Bool) (n : ℕ) → n ≡ 0 → cond b n 0 ≡ 0
or_zero true n is = is
or_zero false n is = refl

pub number_in_none : (width : ℕ) (bytes : List ℕ) → bytes ≡ [] → 0 ≡ number_in width bytes
number_in_none width bytes is = sym (or_zero _ (number bytes) (ap (λ b. number b) is ∙ num_none))
