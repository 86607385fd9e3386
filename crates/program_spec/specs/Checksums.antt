-- Checksums (RFC 1071; BMv2 JSON form, "calculations" and "checksums").
use Rattle.std.specs.Prelude.{ℕ, ◌+◌, ◌-◌, ◌/◌, ◌%◌, ◌^◌, ◌&&◌, ◌==◌, Bool, true, if◌then◌else◌, List, [], fold, length, slice_get, Option, Some, None}
use Rattle.std.specs.List.{flat_map}
use Rattle.bm_expr.specs.Meaning.{truth_value}
use Rattle.bm_expr.specs.Store.{Contents, field_read, assigned}
use Rattle.bm_expr.specs.Trees.{Truth}
use Rattle.bm_pipeline.specs.declared.checksums.Calculation.{Calculation}
use Rattle.bm_pipeline.specs.declared.checksums.CalculationInput.{CalculationInput}
use Rattle.bm_pipeline.specs.declared.checksums.CalculationInput.TheVariants as inputs
use Rattle.bm_pipeline.specs.declared.checksums.Checksum.{Checksum}
use Rattle.bm_pipeline.specs.declared.program.Program.{Program}
use Rattle.bm_pipeline.specs.Places.{width_of}
use Rattle.pkt_bits.specs.Field.{number_bits}
use Rattle.program_spec.specs.Numbers.{words, padded}
use Rattle.program_spec.specs.Stores.{read, assigned_if}

-- the sum of two 16-bit words in ones' complement: a carry is added at the low end
abbrev pub ones_sum : ℕ → ℕ → ℕ
ones_sum a b = (a + b) % 2 ^ 16 + (a + b) / 2 ^ 16

-- the 16-bit words of bits, behind which zero bits fill up the last one
abbrev pub words_of : List ℕ → List ℕ
words_of bits = words 16 (length (padded 16 bits) / 16) (padded 16 bits)

-- `csum16`: the complement of the ones' complement sum of the words
unfoldable pub csum16 : List ℕ → ℕ
csum16 bits = 2 ^ 16 - 1 - fold ones_sum 0 (words_of bits)

-- the bits of an input
abbrev pub input_bits : Contents → CalculationInput → List ℕ
input_bits store (inputs.Field field) = number_bits (width_of field) (read store field)
input_bits store (inputs.Literal value width) = number_bits width value

-- the bits of a calculation's inputs, laid end to end; a calculation that is missing has none
abbrev pub calculation_bits : Contents → Option Calculation → List ℕ
calculation_bits store None = []
calculation_bits store (Some calculation) = flat_map (input_bits store) calculation.input

-- what a checksum should be
abbrev pub sum_of : Program → Contents → Checksum → ℕ
sum_of program store checksum = csum16 (calculation_bits store (slice_get program.calculations checksum.calculation))

-- the condition of a checksum holds; without one it does
abbrev pub condition_holds : Contents → Option Truth → Bool
condition_holds store None = true
condition_holds store (Some condition) = truth_value store [] condition

-- a checksum that is verified and differs sets `checksum_error`
abbrev pub verified : Program → Contents → Checksum → Contents
verified program store checksum =
    if checksum.verify && condition_holds store checksum.if_cond
    then (if field_read store checksum.target == sum_of program store checksum then store else assigned_if program.standard_metadata.checksum_error 1 store)
    else store

-- all checksums are verified, in order
unfoldable pub sums_verified : Program → Contents → Contents
sums_verified program store = fold (verified program) store program.checksums

-- a checksum that is updated is written
abbrev pub updated : Program → Contents → Checksum → Contents
updated program store checksum =
    if checksum.update && condition_holds store checksum.if_cond then assigned store checksum.target (sum_of program store checksum) else store

-- all checksums are updated, in order
unfoldable pub sums_updated : Program → Contents → Contents
sums_updated program store = fold (updated program) store program.checksums
