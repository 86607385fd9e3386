-- An extracted header.
use Rattle.std.proofs.Common.{◌≡◌, ℕ, ◌+◌, ◌-◌, ◌*◌, ◌/◌, ◌%◌, ◌<◌, ◌≤◌, Bool, true, false, if◌then◌else◌, nat_lt, List, length, take, drop, slice_get, Some, Ok, Err, Result, sym, ap, ◌∙◌, arith, drop-drop}
use Rattle.std.proofs.lemmas.Bool.{lt-ltb, le-ltb}
use Rattle.std.proofs.lemmas.List.{length-drop, length-take-le}
use Rattle.std.proofs.Math.Seq.{take-length}
use Rattle.std.specs.List.{splice}
use Rattle.canon_bytes.specs.Bits.{bits}
use Rattle.pkt_bits.proofs.Pieces.{drop-bits, length-bits}
use Rattle.bm_expr.specs.Store.{Contents, validity_written}
use Rattle.bm_pipeline.specs.declared.headers.Header.{Header}
use Rattle.program_spec.specs.Numbers.{runs}
use Rattle.program_spec.specs.Parsing.{Reading, extracted, header_read}
use Rattle.pkt_codec.specs.Steps.{reading_at}

-- what `extract` does where too few bytes are left
pub extract_short : (headers : List Header) (place : ℕ) (header : Header) (packet : List ℕ) (used : ℕ) (store : Contents) → slice_get headers place ≡ Some header
    → length packet - used < header.bits / 8
    → extracted (slice_get headers place) (reading_at packet used store) ≡ Err (reading_at packet used (validity_written store header.place.header false))
extract_short headers place header packet used store found short =
    let reading = reading_at packet used store in
    let few : nat_lt (length (bits (drop used packet))) header.bits ≡ true = lt-ltb _ _ (omega (arith, length-bits (drop used packet), length-drop used packet)) in
    let choice : Bool → Result Reading Reading = λ b.
    if b then Err (reading_at packet used (validity_written store header.place.header false))
    else Ok (record { store = header_read header (bits (drop used packet)) store; rest = drop header.bits (bits (drop used packet)) }) in
    ap (λ o. extracted o reading) found ∙ ap choice few

-- the bytes behind those that a header takes
bytes_behind : (packet : List ℕ) (used size : ℕ) → size % 8 ≡ 0 → drop size (bits (drop used packet)) ≡ bits (drop (used + size / 8) packet)
bytes_behind packet used size whole =
    let times : size ≡ size / 8 * 8 = omega arith in
    ap (λ n. drop n (bits (drop used packet))) times ∙ drop-bits (size / 8) (drop used packet) ∙ ap bits (drop-drop (size / 8) used packet)

-- what it does else
pub extract_whole : (headers : List Header) (place : ℕ) (header : Header) (packet : List ℕ) (used : ℕ) (store : Contents) → slice_get headers place ≡ Some header
    → header.bits % 8 ≡ 0 → header.bits / 8 ≤ length packet - used
    → extracted (slice_get headers place) (reading_at packet used store)
    ≡ Ok (reading_at packet (used + header.bits / 8) (header_read header (bits (drop used packet)) store))
extract_whole headers place header packet used store found whole enough =
    let reading = reading_at packet used store in
    let many : nat_lt (length (bits (drop used packet))) header.bits ≡ false = le-ltb _ _ (omega (arith, length-bits (drop used packet), length-drop used packet)) in
    let choice : Bool → Result Reading Reading = λ b.
    if b then Err (reading_at packet used (validity_written store header.place.header false))
    else Ok (record { store = header_read header (bits (drop used packet)) store; rest = drop header.bits (bits (drop used packet)) }) in
    let made : List ℕ → Result Reading Reading = λ rest. Ok (record { store = header_read header (bits (drop used packet)) store; rest = rest }) in
    ap (λ o. extracted o reading) found ∙ ap choice many ∙ ap made (bytes_behind packet used header.bits whole)

-- how many bytes are left
pub rest_long : (packet : List ℕ) (used : ℕ) → length (take (length packet - used) (drop used packet)) ≡ length packet - used
rest_long packet used = length-take-le (length packet - used) (drop used packet) (omega (arith, length-drop used packet))

-- the store with a header that was read
pub header_in : (header : Header) (packet : List ℕ) (used : ℕ) (store read : Contents)
    → read.fields ≡ splice store.fields header.place.first (header.place.first + header.place.count) (runs header.widths (bits (take (length packet - used) (drop used packet))))
    → read.valid ≡ store.valid
    → validity_written read header.place.header true ≡ header_read header (bits (drop used packet)) store
header_in header packet used store read fields valid =
    let all : take (length packet - used) (drop used packet) ≡ drop used packet =
    ap (λ n. take n (drop used packet)) (sym (length-drop used packet)) ∙ take-length (drop used packet) in
    let made : List ℕ → List Bool → Contents = λ fields valid. validity_written (record { fields = fields; valid = valid }) header.place.header true in
    ap (λ f. made f read.valid) (fields ∙ ap (λ bytes. splice store.fields header.place.first (header.place.first + header.place.count) (runs header.widths (bits bytes))) all)
    ∙ ap (made (splice store.fields header.place.first (header.place.first + header.place.count) (runs header.widths (bits (drop used packet))))) valid
