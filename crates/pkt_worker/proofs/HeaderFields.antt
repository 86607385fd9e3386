-- The header before a packet to a controller, read a field at a time.
use Rattle.std.proofs.Common.{◌≡◌, ◌+◌, ◌<◌, ◌≤◌, ap, sym, ◌∙◌, ℕ, List, [], ◌∷◌, ◌++◌, length, map, take, drop, get_or, append_assoc, drop-drop, arith}
use Rattle.std.specs.Prelude.{All}
use Rattle.std.specs.List.{sum_by}
use Rattle.std.proofs.lemmas.List.{drop_more, map_push}
use Rattle.std.proofs.lemmas.List.Elements.{All-weaker}
use Rattle.std.proofs.lemmas.List.Sums.{sum_by-le, sum_by-take-le, sum_by_more}
use Rattle.bm_pipeline.specs.Validity.{IsWidth}
use Rattle.canon_bytes.specs.Bits.{bits}
use Rattle.canon_bytes.specs.ByteString.{canon}
use Rattle.p4_types.specs.declared.info.HeaderField.{HeaderField}
use Rattle.p4_types.specs.declared.messages.PacketMetadata.{PacketMetadata}
use Rattle.packet_spec.specs.Meaning.{metadata_of, widths_of}
use Rattle.pkt_bits.specs.Field.{field}
use Rattle.pkt_worker.specs.declared.ending.Datum.{Datum}
use Rattle.pkt_worker.specs.Headers.{IsHeaderOf}
use Rattle.pkt_worker.specs.Verdicts.{carried}
use Rattle.program_spec.specs.Numbers.{runs}

-- a header has at most 16,384 bits
pub bits_few : (fields : List HeaderField) → IsHeaderOf fields → sum_by (λ (f : HeaderField). f.bitwidth) fields ≤ 16384
bits_few fields header =
    let each : All (λ (f : HeaderField). f.bitwidth ≤ 128) fields = All-weaker (λ (f : HeaderField). IsWidth f.bitwidth) (λ (f : HeaderField). f.bitwidth ≤ 128) (λ f is. is.1) fields header.widths in
    omega (arith, sum_by-le (λ (f : HeaderField). f.bitwidth) 128 fields each, header.few)

-- what is left to be read of the fields from one on
abbrev pub left_of : List HeaderField → List ℕ → ℕ → ℕ → List PacketMetadata
left_of fields bytes k bit = metadata_of (drop k fields) (runs (widths_of (drop k fields)) (drop bit (bits bytes)))

-- of what is left the first is the next field's
pub next_read : (fields : List HeaderField) (bytes : List ℕ) (k bit number : ℕ) (d : HeaderField) → k < length fields → number ≡ field bytes bit (get_or fields k d).bitwidth
    → left_of fields bytes k bit ≡ (record { metadata_id = (get_or fields k d).id; value = canon number }) ∷ left_of fields bytes (k + 1) (bit + (get_or fields k d).bitwidth)
unfolding field
next_read fields bytes k bit number d lt is =
    let f : HeaderField = get_or fields k d in
    let rest : List HeaderField = drop (k + 1) fields in
    ap (λ (fs : List HeaderField). metadata_of fs (runs (widths_of fs) (drop bit (bits bytes)))) (drop_more fields k d lt)
    ∙ ap (λ (n : ℕ). (record { metadata_id = f.id; value = canon n }) ∷ metadata_of rest (runs (widths_of rest) (drop f.bitwidth (drop bit (bits bytes))))) (sym is)
    ∙ ap (λ (bs : List ℕ). (record { metadata_id = f.id; value = canon number }) ∷ metadata_of rest (runs (widths_of rest) bs)) (drop-drop f.bitwidth bit (bits bytes))

-- the bits of the fields before one, and its own
pub sum_more : (fields : List HeaderField) (k : ℕ) (d : HeaderField) (item : HeaderField) → k < length fields → item ≡ get_or fields k d
    → sum_by (λ (f : HeaderField). f.bitwidth) (take (k + 1) fields) ≡ sum_by (λ (f : HeaderField). f.bitwidth) (take k fields) + item.bitwidth
sum_more fields k d item lt is =
    sum_by_more (λ (f : HeaderField). f.bitwidth) fields k d lt ∙ ap (λ (f : HeaderField). sum_by (λ (g : HeaderField). g.bitwidth) (take k fields) + f.bitwidth) (sym is)

-- are within those of all
pub sum_within : (fields : List HeaderField) (k : ℕ) (d : HeaderField) (item : HeaderField) → k < length fields → item ≡ get_or fields k d
    → sum_by (λ (f : HeaderField). f.bitwidth) (take k fields) + item.bitwidth ≤ sum_by (λ (f : HeaderField). f.bitwidth) fields
sum_within fields k d item lt is =
    omega (arith, sum_more fields k d item lt is, sum_by-take-le (λ (f : HeaderField). f.bitwidth) fields (k + 1))

-- one field more is read
pub one_read : (fields : List HeaderField) (bytes : List ℕ) (k bit number : ℕ) (d : HeaderField) (item : HeaderField) (before more : List Datum) (all : List PacketMetadata) → k < length fields → item ≡ get_or fields k d
    → number ≡ field bytes bit item.bitwidth → more ≡ before ++ (record { id = item.id; number = number }) ∷ []
    → map carried before ++ left_of fields bytes k bit ≡ all → map carried more ++ left_of fields bytes (k + 1) (bit + item.bitwidth) ≡ all
one_read fields bytes k bit number d item before more all lt is number_is more_is so_far =
    let one : PacketMetadata = record { metadata_id = item.id; value = canon number } in
    let others : List PacketMetadata = left_of fields bytes (k + 1) (bit + item.bitwidth) in
    let there : number ≡ field bytes bit (get_or fields k d).bitwidth = number_is ∙ ap (λ (f : HeaderField). field bytes bit f.bitwidth) is in
    let first : left_of fields bytes k bit ≡ one ∷ others =
    next_read fields bytes k bit number d lt there
    ∙ ap (λ (f : HeaderField). (record { metadata_id = f.id; value = canon number }) ∷ left_of fields bytes (k + 1) (bit + f.bitwidth)) (sym is) in
    ap (λ (xs : List Datum). map carried xs ++ others) more_is
    ∙ ap (λ (xs : List PacketMetadata). xs ++ others) (map_push carried before (record { id = item.id; number = number }))
    ∙ append_assoc (map carried before) (one ∷ []) others
    ∙ ap (λ (xs : List PacketMetadata). map carried before ++ xs) (sym first)
    ∙ so_far
