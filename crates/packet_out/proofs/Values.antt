-- What the number of a value that stands alone says of the values.
use Rattle.std.proofs.Common.{◌≡◌, refl, ℕ, Bool, true, false, cond, List, Some, None}
use Rattle.packet_out.specs.Entering.{is_one_value, first_number}
use Rattle.packet_out.specs.Given.{sole_number}

-- a choice was the first
pub chosen : {A : Type 0} → (b : Bool) (m n : A) → Some n ≡ cond b (Some m) None → (b ≡ true) × (n ≡ m)
chosen true m n is = (refl, cc)
chosen false m n is = absurd cc

-- or the second
pub refused : {A : Type 0} → (b : Bool) (m : A) → None ≡ cond b (Some m) None → b ≡ false
refused true m is = absurd cc
refused false m is = refl

pub one_given : (width : ℕ) (values : List (List ℕ)) (n : ℕ) → Some n ≡ sole_number width values → is_one_value width values ≡ true
one_given width values n is = (chosen (is_one_value width values) (first_number values) n is).0

pub number_given : (width : ℕ) (values : List (List ℕ)) (n : ℕ) → Some n ≡ sole_number width values → n ≡ first_number values
number_given width values n is = (chosen (is_one_value width values) (first_number values) n is).1
