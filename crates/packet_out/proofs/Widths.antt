-- The widths of a header's fields.
use Rattle.std.proofs.Common.{◌≡◌, ◌+◌, ◌<◌, ◌≤◌, ap, sym, ◌∙◌, ℕ, List, length, take, get_or, arith}
use Rattle.std.specs.Prelude.{All}
use Rattle.std.specs.List.{sum_by}
use Rattle.std.proofs.lemmas.List.Elements.{All-weaker}
use Rattle.std.proofs.lemmas.List.Sums.{sum_by-le, sum_by-take-le, sum_by_more}
use Rattle.bm_pipeline.specs.Validity.{IsWidth}
use Rattle.p4_types.specs.declared.info.HeaderField.{HeaderField}
use Rattle.packet_out.specs.Given.{IsHeaderOf}

-- a header has at most 16,384 bits
pub bits_few : (fields : List HeaderField) → IsHeaderOf fields → sum_by (λ (f : HeaderField). f.bitwidth) fields ≤ 16384
bits_few fields header =
    let each : All (λ (f : HeaderField). f.bitwidth ≤ 128) fields = All-weaker (λ (f : HeaderField). IsWidth f.bitwidth) (λ (f : HeaderField). f.bitwidth ≤ 128) (λ f is. is.1) fields header.widths in
    omega (arith, sum_by-le (λ (f : HeaderField). f.bitwidth) 128 fields each, header.few)

-- the bits of the fields before one, and its own
pub sum_more : (fields : List HeaderField) (k : ℕ) (d : HeaderField) (item : HeaderField) → k < length fields → item ≡ get_or fields k d
    → sum_by (λ (f : HeaderField). f.bitwidth) (take (k + 1) fields) ≡ sum_by (λ (f : HeaderField). f.bitwidth) (take k fields) + item.bitwidth
sum_more fields k d item lt is =
    sum_by_more (λ (f : HeaderField). f.bitwidth) fields k d lt ∙ ap (λ (f : HeaderField). sum_by (λ (g : HeaderField). g.bitwidth) (take k fields) + f.bitwidth) (sym is)

-- are within those of all
pub sum_within : (fields : List HeaderField) (k : ℕ) (d : HeaderField) (item : HeaderField) → k < length fields → item ≡ get_or fields k d
    → sum_by (λ (f : HeaderField). f.bitwidth) (take k fields) + item.bitwidth ≤ sum_by (λ (f : HeaderField). f.bitwidth) fields
sum_within fields k d item lt is =
    omega (arith, sum_more fields k d item lt is, sum_by-take-le (λ (f : HeaderField). f.bitwidth) fields (k + 1))
