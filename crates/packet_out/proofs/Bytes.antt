-- The bits of a header, a field at a time, and its bytes.
use Rattle.std.proofs.Common.{◌≡◌, ℕ, suc, ◌+◌, ◌-◌, ◌*◌, ◌/◌, ◌%◌, ◌<◌, ◌≤◌, Bool, true, cond, List, [], ◌∷◌, ◌++◌, length, get_or, take, drop, replicate, Some, None, refl, sym, ap, ◌∙◌, arith, append_assoc}
use Rattle.std.specs.Prelude.{◌&&◌}
use Rattle.std.specs.List.{sum_by, splice}
use Rattle.std.proofs.lemmas.List.{append-nil, length-append, length-take-le, take_more}
use Rattle.std.proofs.lemmas.List.Folds.{list_all_more}
use Rattle.std.proofs.Math.Seq.{take-append_seam, take-length}
use Rattle.canon_bytes.specs.Bits.{byte_bits, bits, num}
use Rattle.p4_types.specs.declared.info.HeaderField.{HeaderField}
use Rattle.p4_types.specs.declared.messages.PacketMetadata.{PacketMetadata}
use Rattle.pkt_bits.specs.Field.{number_bits}
use Rattle.pkt_bits.proofs.Low.{number-low, length-low}
use Rattle.pkt_bits.proofs.Pieces.{length-bits}
use Rattle.program_spec.specs.Numbers.{words, padded, bytes_of}
use Rattle.packet_out.specs.Entering.{given_for, is_one_value, first_number}
use Rattle.packet_out.specs.Given.{are_given, header_bits, header_given}

-- ---- the bits of bytes

byte_number : (b : ℕ) → b < 256 → num (byte_bits b) ≡ b
unfolding num
byte_number b lt = number-low 0 8 b ∙ omega arith

words_of_bits : (xs : List ℕ) → ((i : ℕ) → get_or xs i 0 < 256) → words 8 (length xs) (bits xs) ≡ xs
unfolding bits
words_of_bits [] small = refl
words_of_bits (x ∷ xs) small =
    ap (λ n. n ∷ words 8 (length xs) (bits xs)) (byte_number x (small 0)) ∙ ap (λ ys. x ∷ ys) (words_of_bits xs (λ i. small (suc i)))

-- bytes are those of their bits
bytes_of_bits : (xs : List ℕ) → ((i : ℕ) → get_or xs i 0 < 256) → bytes_of (bits xs) ≡ xs
bytes_of_bits xs small =
    let none : (8 - length (bits xs) % 8) % 8 ≡ 0 = omega (arith, length-bits xs) in
    let whole : padded 8 (bits xs) ≡ bits xs = ap (λ n. bits xs ++ replicate n 0) none ∙ append-nil (bits xs) in
    let number : length (padded 8 (bits xs)) / 8 ≡ length xs = ap (λ ys. length ys / 8) whole ∙ omega (arith, length-bits xs) in
    ap (λ ys. words 8 (length (padded 8 (bits xs)) / 8) ys) whole ∙ ap (λ n. words 8 n (bits xs)) number ∙ words_of_bits xs small

-- ---- one field more

bits_push : (fields : List HeaderField) (field : HeaderField) (metadata : List PacketMetadata)
    → header_bits (fields ++ field ∷ []) metadata ≡ header_bits fields metadata ++ number_bits field.bitwidth (first_number (given_for field.id metadata))
bits_push [] field metadata = append-nil (number_bits field.bitwidth (first_number (given_for field.id metadata)))
bits_push (f ∷ fields) field metadata =
    let own : List ℕ = number_bits f.bitwidth (first_number (given_for f.id metadata)) in
    ap (λ (xs : List ℕ). own ++ xs) (bits_push fields field metadata)
    ∙ sym (append_assoc own (header_bits fields metadata) (number_bits field.bitwidth (first_number (given_for field.id metadata))))

spliced : (old ys : List ℕ) (at n : ℕ) → length ys ≡ n → at ≤ length old → take (at + n) (splice old at (at + n) ys) ≡ take at old ++ ys
spliced old ys at n long le =
    let front = take at old ++ ys in
    let end : length front ≡ at + n = length-append (take at old) ys ∙ ap (λ m. m + length ys) (length-take-le at old le) ∙ omega (arith, long) in
    ap (take (at + n)) (sym (append_assoc (take at old) ys (drop (at + n) old))) ∙ ap (λ m. take m (front ++ drop (at + n) old)) (sym end) ∙ take-append_seam front (drop (at + n) old)

pub written_more : (fields : List HeaderField) (metadata : List PacketMetadata) (old new : List ℕ) (k bit number : ℕ) (d item : HeaderField) → k < length fields → item ≡ get_or fields k d
    → bit ≤ 8 * length old → number ≡ first_number (given_for item.id metadata) → bits new ≡ splice (bits old) bit (bit + item.bitwidth) (number_bits item.bitwidth number)
    → take bit (bits old) ≡ header_bits (take k fields) metadata → take (bit + item.bitwidth) (bits new) ≡ header_bits (take (k + 1) fields) metadata
written_more fields metadata old new k bit number d item lt is le number_is new_is so_far =
    ap (take (bit + item.bitwidth)) new_is
    ∙ spliced (bits old) (number_bits item.bitwidth number) bit item.bitwidth (length-low item.bitwidth number) (omega (arith, length-bits old))
    ∙ ap (λ (xs : List ℕ). xs ++ number_bits item.bitwidth number) so_far
    ∙ ap (λ (n : ℕ). header_bits (take k fields) metadata ++ number_bits item.bitwidth n) number_is
    ∙ sym (bits_push (take k fields) item metadata)
    ∙ ap (λ (f : HeaderField). header_bits (take k fields ++ f ∷ []) metadata) is
    ∙ ap (λ (fs : List HeaderField). header_bits fs metadata) (sym (take_more fields k d lt))

pub given_more : (fields : List HeaderField) (metadata : List PacketMetadata) (k : ℕ) (d item : HeaderField) → k < length fields → item ≡ get_or fields k d
    → are_given (take k fields) metadata ≡ true → is_one_value item.bitwidth (given_for item.id metadata) ≡ true → are_given (take (k + 1) fields) metadata ≡ true
given_more fields metadata k d item lt is so_far one =
    let own : HeaderField → Bool = λ (f : HeaderField). is_one_value f.bitwidth (given_for f.id metadata) in
    list_all_more own fields k d lt ∙ ap (λ (b : Bool). b && own (get_or fields k d)) so_far ∙ ap own (sym is) ∙ one

-- all fields are written
pub whole_written : (fields : List HeaderField) (metadata : List PacketMetadata) (header : List ℕ) (k bit : ℕ) → ((i : ℕ) → get_or header i 0 < 256) → k ≡ length fields
    → bit ≡ sum_by (λ (f : HeaderField). f.bitwidth) (take k fields) → sum_by (λ (f : HeaderField). f.bitwidth) fields ≡ 8 * length header
    → take bit (bits header) ≡ header_bits (take k fields) metadata → header ≡ bytes_of (header_bits fields metadata)
whole_written fields metadata header k bit small k_is bit_is filled so_far =
    let all : take k fields ≡ fields = ap (λ n. take n fields) k_is ∙ take-length fields in
    let end : bit ≡ length (bits header) =
    bit_is ∙ ap (λ (fs : List HeaderField). sum_by (λ (f : HeaderField). f.bitwidth) fs) all ∙ filled ∙ omega (arith, length-bits header) in
    let whole : bits header ≡ header_bits fields metadata =
    sym (ap (λ n. take n (bits header)) end ∙ take-length (bits header)) ∙ so_far ∙ ap (λ (fs : List HeaderField). header_bits fs metadata) all in
    sym (bytes_of_bits header small) ∙ ap bytes_of whole

-- ---- the header

pub header_is : (fields : List HeaderField) (metadata : List PacketMetadata) (header : List ℕ) → true ≡ are_given fields metadata → header ≡ bytes_of (header_bits fields metadata)
    → Some header ≡ header_given fields metadata
header_is fields metadata header given written =
    ap (λ (xs : List ℕ). Some xs) written ∙ ap (λ (b : Bool). cond b (Some (bytes_of (header_bits fields metadata))) None) given

-- a vector whose items were all written
pub written_back : (n : ℕ) (new rest : List ℕ) → n ≡ length new → take n (new ++ rest) ≡ new
written_back n new rest is = ap (λ m. take m (new ++ rest)) is ∙ take-append_seam new rest
