-- The numbers that widths and literals are read as.
use Rattle.std.proofs.Common.{◌≡◌, ℕ, ◌+◌, ◌*◌, ◌^◌, ◌<◌, ◌≤◌, ◌==◌, nat_lt, nat_le, ◌&&◌, Bool, true, false, cond, bytes_eq, IfSome, List, [], ◌∷◌, length, Option, Some, None, codes, refl, arith, lit<}
use Rattle.std.proofs.lemmas.Bool.Decides.{nat_tests}
use Rattle.std.proofs.Math.Nat.{pow-le-pow_right}
use Rattle.serde_json.specs.Find.{as_str}
use Rattle.bm_values.specs.declared.raw.Part.{Part}
use Rattle.bm_values.specs.declared.raw.Part.TheVariants.{Served, LeftOut}
use Rattle.bm_values.specs.declared.raw.FieldWidth.{FieldWidth}
use Rattle.list_types.specs.Options.{◌>>=◌}
use Rattle.json_shapes.specs.Shapes.{natural_of}
use Rattle.json_shapes.proofs.Keeping.{Keeps, then_kept, then_kept_by, if_kept}
use Rattle.bm_values.specs.Literals.{hex_digit, hex_number, are_hex_digits, hex_literal, literal_text, literal_of, width_in, width_of, width_by, field_width_of}
use Rattle.bm_values.proofs.Hex.{one_more}

module _ (P : Part ℕ → Type 0) (left_out : P LeftOut) (served : (bits : ℕ) → 1 ≤ bits → bits ≤ 128 → P (Served bits)) where
  width_if : (none few : Bool) (bits : ℕ) → (bits == 0) ≡ none → nat_le bits 128 ≡ few → IfSome (cond none None (cond few (Some (Served bits)) (Some LeftOut))) P
  width_if true few bits at_zero up = tt
  width_if false true bits at_zero up = served bits (grind (arith, nat_tests)) (grind (arith, nat_tests))
  width_if false false bits at_zero up = left_out

  in_range : (bits : ℕ) → IfSome (width_in bits) P
  in_range bits = width_if (bits == 0) (nat_le bits 128) bits refl refl

  -- a width has 1 to 128 bits, or is left out
  pub width_kept : Keeps P width_of
  width_kept d = then_kept P (natural_of d) width_in in_range

  by_text : (text : Option (List ℕ)) (number : Option ℕ) → IfSome (width_by text number) P
  by_text (Some text) number = if_kept P (bytes_eq text (codes "*")) (Some LeftOut) left_out
  by_text None number = then_kept P number width_in in_range

  -- so has the width of a field in a header type
  pub field_width_kept : Keeps (λ (field : FieldWidth). P field.width) field_width_of
  field_width_kept d =
      then_kept_by P (λ (field : FieldWidth). P field.width) (width_by (as_str d) (natural_of d)) (λ width. Some (record { width = width })) (by_text (as_str d) (natural_of d)) (λ width kept. kept)

digit_if : (byte digit : ℕ) → hex_digit byte ≡ Some digit → digit < 16
digit_if byte digit = grind (arith, nat_tests)

if_some : (P : ℕ → Type 0) (read : Option ℕ) → ((x : ℕ) → read ≡ Some x → P x) → IfSome read P
if_some P None h = tt
if_some P (Some x) h = h x refl

-- a number of at most n hex digits
number_kept : (digits : List ℕ) (number i n : ℕ) → number < 16 ^ i → i + length digits ≤ n → IfSome (hex_number number digits) (λ value. value < 16 ^ n)
number_kept [] number i n small few = omega (arith, pow-le-pow_right {n = 16} (lit< tt) {i = i} {j = n} (omega arith))
number_kept (byte ∷ rest) number i n small few =
    then_kept_by (λ digit. digit < 16) (λ value. value < 16 ^ n) (hex_digit byte) (λ digit. hex_number (number * 16 + digit) rest) (if_some (λ digit. digit < 16) (hex_digit byte) (digit_if byte))
    (λ digit last. number_kept rest (number * 16 + digit) (i + 1) n (one_more number digit i small last) (omega arith))

module _ (P : Part ℕ → Type 0) (left_out : P LeftOut) (served : (value : ℕ) → value < 2 ^ 128 → P (Served value)) where
  served_kept : (digits : List ℕ) → length digits ≤ 32 → IfSome (hex_number 0 digits >>= λ number. Some (Served number)) P
  served_kept digits few =
      then_kept_by (λ value. value < 16 ^ 32) P (hex_number 0 digits) (λ number. Some (Served number)) (number_kept digits 0 0 32 (lit< tt) (omega arith)) (λ value small. served value small)

  literal_if : (none many hex : Bool) (digits : List ℕ) → nat_lt 32 (length digits) ≡ many
      → IfSome (cond none None (cond many (cond hex (Some LeftOut) None) (hex_number 0 digits >>= λ number. Some (Served number)))) P
  literal_if true many hex digits up = tt
  literal_if false true hex digits up = if_kept P hex (Some LeftOut) left_out
  literal_if false false hex digits up = served_kept digits (grind (arith, nat_tests))

  digits_kept : (digits : List ℕ) → IfSome (hex_literal digits) P
  digits_kept digits = literal_if (length digits == 0) (nat_lt 32 (length digits)) (are_hex_digits digits) digits refl

  text_kept : (text : List ℕ) → IfSome (literal_text text) P
  text_kept [] = tt
  text_kept (first ∷ []) = tt
  text_kept (first ∷ second ∷ digits) = if_kept P ((first == 48) && (second == 120)) (hex_literal digits) (digits_kept digits)

  -- a literal has at most 128 bits, or is left out
  pub literal_kept : Keeps P literal_of
  literal_kept d = then_kept P (as_str d) literal_text text_kept
