-- Literals in hex digits, and widths in bits.
use Rattle.std.specs.Prelude.{ℕ, ◌+◌, ◌-◌, ◌*◌, ◌==◌, nat_lt, nat_le, Bool, ◌&&◌, if◌then◌else◌, List, [], ◌∷◌, length, Option, Some, None, is_some, codes}
use Rattle.std.specs.List.{list_all}
use Rattle.std.specs.Str.{bytes_eq}
use Rattle.serde_json.specs.Data.{Data}
use Rattle.serde_json.specs.Find.{as_str}
use Rattle.bm_values.specs.declared.raw.Part.{Part}
use Rattle.bm_values.specs.declared.raw.Part.TheVariants.{Served, LeftOut}
use Rattle.bm_values.specs.declared.raw.FieldWidth.{FieldWidth}
use Rattle.list_types.specs.Options.{◌>>=◌}
use Rattle.json_shapes.specs.Shapes.{natural_of}

-- the value of a hex digit
abbrev pub hex_digit : ℕ → Option ℕ
hex_digit byte =
    if nat_le 48 byte && nat_le byte 57 then Some (byte - 48)
    else if nat_le 97 byte && nat_le byte 102 then Some (byte - 97 + 10)
    else if nat_le 65 byte && nat_le byte 70 then Some (byte - 65 + 10)
    else None

-- the number that hex digits write behind those of a number
abbrev pub hex_number : ℕ → List ℕ → Option ℕ
hex_number number [] = Some number
hex_number number (byte ∷ rest) = hex_digit byte >>= λ digit. hex_number (number * 16 + digit) rest

-- all bytes are hex digits
abbrev pub are_hex_digits : List ℕ → Bool
are_hex_digits digits = list_all (λ byte. is_some (hex_digit byte)) digits

-- 1 to 32 hex digits; more are a form that is left out
abbrev pub hex_literal : List ℕ → Option (Part ℕ)
hex_literal digits =
    if length digits == 0 then None
    else if nat_lt 32 (length digits) then (if are_hex_digits digits then Some LeftOut else None)
    else hex_number 0 digits >>= λ number. Some (Served number)

-- the digits behind `0x`
abbrev pub literal_text : List ℕ → Option (Part ℕ)
literal_text [] = None
literal_text (first ∷ []) = None
literal_text (first ∷ second ∷ digits) = if (first == 48) && (second == 120) then hex_literal digits else None

-- a literal
abbrev pub literal_of : Data → Option (Part ℕ)
literal_of d = as_str d >>= literal_text

-- at least one bit; more than 128 are a form that is left out
abbrev pub width_in : ℕ → Option (Part ℕ)
width_in bits = if bits == 0 then None else if nat_le bits 128 then Some (Served bits) else Some LeftOut

-- a width in bits
abbrev pub width_of : Data → Option (Part ℕ)
width_of d = natural_of d >>= width_in

-- the bits of a width; one that is left out counts as 0
abbrev pub width_bits : Part ℕ → ℕ
width_bits (Served bits) = bits
width_bits LeftOut = 0

-- a width by its text, which must be `*` and is left out, or else by its number
abbrev pub width_by : Option (List ℕ) → Option ℕ → Option (Part ℕ)
width_by (Some text) number = if bytes_eq text (codes "*") then Some LeftOut else None
width_by None number = number >>= width_in

-- the width of a field in a header type: in bits, or `*` of a varbit
abbrev pub field_width_of : Data → Option FieldWidth
field_width_of d = width_by (as_str d) (natural_of d) >>= λ width. Some (record { width = width })
