-- What metadata give for the fields of a header, as the code has it.
use Rattle.std.specs.Prelude.{◌≡◌, ℕ, ◌==◌, ◌%◌, ◌≤◌, if◌then◌else◌, Bool, List, [], ◌∷◌, All, length, sum_by, Option, Some, None}
use Rattle.std.specs.List.{list_all, list_any}
use Rattle.bm_pipeline.specs.Validity.{IsWidth}
use Rattle.p4_types.specs.declared.info.HeaderField.{HeaderField}
use Rattle.p4_types.specs.declared.messages.PacketMetadata.{PacketMetadata}
use Rattle.packet_spec.specs.Meaning.{widths_of}
use Rattle.program_spec.specs.Deparsing.{laid}
use Rattle.program_spec.specs.Numbers.{bytes_of}
use Rattle.packet_out.specs.Entering.{given_for, is_one_value, first_number, numbers_for}

-- the fields of a valid header: at most 128, each of 1 to 128 bits, whole bytes together
pub record IsHeaderOf (fields : List HeaderField) : Type 0 where
  pub few : length fields ≤ 128
  pub widths : All (λ field. IsWidth field.bitwidth) fields
  pub whole : sum_by (λ field. field.bitwidth) fields % 8 ≡ 0

-- metadata are for these fields alone
abbrev pub are_known : List HeaderField → List PacketMetadata → Bool
are_known fields metadata = list_all (λ given. list_any (λ field. field.id == given.metadata_id) fields) metadata

-- metadata give one value for each of these fields
abbrev pub are_given : List HeaderField → List PacketMetadata → Bool
are_given fields metadata = list_all (λ field. is_one_value field.bitwidth (given_for field.id metadata)) fields

-- a value that stands alone
abbrev pub sole : List (List ℕ) → Option (List ℕ)
sole [] = None
sole (value ∷ []) = Some value
sole (value ∷ other ∷ others) = None

-- the number of a value that stands alone and has so many bits at most
abbrev pub sole_number : ℕ → List (List ℕ) → Option ℕ
sole_number width values = if is_one_value width values then Some (first_number values) else None

-- the bits of fields with the numbers that metadata give
abbrev pub header_bits : List HeaderField → List PacketMetadata → List ℕ
header_bits fields metadata = laid (widths_of fields) (numbers_for fields metadata)

-- the bytes of a header, if metadata give one value for each of its fields
abbrev pub header_given : List HeaderField → List PacketMetadata → Option (List ℕ)
header_given fields metadata = if are_given fields metadata then Some (bytes_of (header_bits fields metadata)) else None
