-- Copies that stand end to end: those before are still what they were, and one more is what was added.
use Rattle.std.proofs.Common.{◌≡◌, ◌∙◌, ◌+◌, ◌-◌, ◌≤◌, ap, sym, refl, ℕ, List, [], ◌∷◌, ◌++◌, length, map, take, drop, arith}
use Rattle.std.specs.Prelude.{All, slice_range}
use Rattle.std.proofs.Math.Seq.{drop-append_seam, take-length}
use Rattle.std.proofs.lemmas.List.{append-nil, drop-append-le, take-append-le, length-drop, map_push}
use Rattle.std.proofs.lemmas.List.Elements.{All-head, All-tail}
use Rattle.p4_types.specs.declared.messages.PacketIn.{PacketIn}
use Rattle.p4_types.specs.declared.records.Output.{Output}
use Rattle.pkt_worker.specs.declared.copies.OutputPart.{OutputPart}
use Rattle.pkt_worker.specs.declared.copies.PacketInPart.{PacketInPart}
use Rattle.pkt_worker.specs.declared.ending.Datum.{Datum}
use Rattle.pkt_worker.specs.Copies.{output_of, packet_in_of, IsOutputWithin, IsPacketInWithin}
use Rattle.pkt_worker.specs.Verdicts.{carried}

-- a range of a list stands as it was where more stands behind the list
range_kept : {X : Type 0} (xs more : List X) (from to : ℕ) → from ≤ to → to ≤ length xs → slice_range (xs ++ more) from to ≡ slice_range xs from to
range_kept xs more from to ordered within =
    ap (take (to - from)) (drop-append-le from xs more (omega (arith, ordered, within)))
    ∙ take-append-le (to - from) (drop from xs) more (omega (arith, length-drop from xs, within))

-- what was added is the range behind the list
range_added : {X : Type 0} (xs more : List X) (from to : ℕ) → from ≡ length xs → to ≡ length xs + length more → slice_range (xs ++ more) from to ≡ more
range_added xs more from to from_is to_is =
    let size : to - from ≡ length more = omega (arith, from_is, to_is) in
    ap (λ n. take n (drop from (xs ++ more))) size
    ∙ ap (λ n. take (length more) (drop n (xs ++ more))) from_is
    ∙ ap (take (length more)) (drop-append_seam xs more)
    ∙ take-length more

outputs_kept : (bytes more : List ℕ) (parts : List OutputPart) → All (IsOutputWithin (length bytes)) parts → map (output_of (bytes ++ more)) parts ≡ map (output_of bytes) parts
outputs_kept bytes more [] within = refl
outputs_kept bytes more (part ∷ parts) within =
    let first : IsOutputWithin (length bytes) part = All-head (IsOutputWithin (length bytes)) part parts within in
    ap (λ (range : List ℕ). (record { port = part.port; bytes = range }) ∷ map (output_of (bytes ++ more)) parts) (range_kept bytes more part.start part.end first.0 first.1)
    ∙ ap (λ (others : List Output). output_of bytes part ∷ others) (outputs_kept bytes more parts (All-tail (IsOutputWithin (length bytes)) part parts within))

-- one more output behind those before
pub output_added : (bytes more now : List ℕ) (parts parts_now : List OutputPart) (part : OutputPart) → All (IsOutputWithin (length bytes)) parts → now ≡ bytes ++ more → parts_now ≡ parts ++ part ∷ []
    → part.start ≡ length bytes → part.end ≡ length bytes + length more
    → map (output_of now) parts_now ≡ map (output_of bytes) parts ++ (record { port = part.port; bytes = more }) ∷ []
output_added bytes more now parts parts_now part within now_is parts_is start end =
    ap (λ (xs : List ℕ). map (output_of xs) parts_now) now_is
    ∙ ap (map (output_of (bytes ++ more))) parts_is
    ∙ map_push (output_of (bytes ++ more)) parts part
    ∙ ap (λ (range : List ℕ). map (output_of (bytes ++ more)) parts ++ (record { port = part.port; bytes = range }) ∷ []) (range_added bytes more part.start part.end start end)
    ∙ ap (λ (before : List Output). before ++ (record { port = part.port; bytes = more }) ∷ []) (outputs_kept bytes more parts within)

-- the outputs of parts are what they were where more bytes were added
pub outputs_stay : (bytes more now : List ℕ) (parts : List OutputPart) → All (IsOutputWithin (length bytes)) parts → now ≡ bytes ++ more → map (output_of now) parts ≡ map (output_of bytes) parts
outputs_stay bytes more now parts within now_is = ap (λ (xs : List ℕ). map (output_of xs) parts) now_is ∙ outputs_kept bytes more parts within

abbrev told : List ℕ → List Datum → PacketIn
told payload numbers = record { payload = payload; metadata = map carried numbers }

same_packet : (payload other : List ℕ) (numbers others : List Datum) → payload ≡ other → numbers ≡ others → told payload numbers ≡ told other others
same_packet payload other numbers others payload_is numbers_is = ap (λ (xs : List ℕ). told xs numbers) payload_is ∙ ap (λ (xs : List Datum). told other xs) numbers_is

packet_ins_kept : (bytes more : List ℕ) (numbers others : List Datum) (parts : List PacketInPart) → All (IsPacketInWithin (length bytes) (length numbers)) parts
    → map (packet_in_of (bytes ++ more) (numbers ++ others)) parts ≡ map (packet_in_of bytes numbers) parts
packet_ins_kept bytes more numbers others [] within = refl
packet_ins_kept bytes more numbers others (part ∷ parts) within =
    let P = IsPacketInWithin (length bytes) (length numbers) in
    let first : P part = All-head P part parts within in
    let payload = range_kept bytes more part.start part.end first.0 first.1 in
    let metadata = range_kept numbers others part.first part.last first.2 first.3 in
    ap (λ (packet : PacketIn). packet ∷ map (packet_in_of (bytes ++ more) (numbers ++ others)) parts)
    (same_packet (slice_range (bytes ++ more) part.start part.end) (slice_range bytes part.start part.end)
    (slice_range (numbers ++ others) part.first part.last) (slice_range numbers part.first part.last) payload metadata)
    ∙ ap (λ (packets : List PacketIn). packet_in_of bytes numbers part ∷ packets) (packet_ins_kept bytes more numbers others parts (All-tail P part parts within))

-- the packets of parts are what they were where more bytes were added
pub packet_ins_stay : (bytes more now : List ℕ) (numbers : List Datum) (parts : List PacketInPart) → All (IsPacketInWithin (length bytes) (length numbers)) parts → now ≡ bytes ++ more
    → map (packet_in_of now numbers) parts ≡ map (packet_in_of bytes numbers) parts
packet_ins_stay bytes more now numbers parts within now_is =
    ap (λ (xs : List ℕ). map (packet_in_of xs numbers) parts) now_is
    ∙ ap (λ (xs : List Datum). map (packet_in_of (bytes ++ more) xs) parts) (sym (append-nil numbers))
    ∙ packet_ins_kept bytes more numbers [] parts within

-- one more packet to a controller behind those before
pub packet_in_added : (bytes more now : List ℕ) (numbers others numbers_now : List Datum) (parts parts_now : List PacketInPart) (part : PacketInPart)
    → All (IsPacketInWithin (length bytes) (length numbers)) parts → now ≡ bytes ++ more → numbers_now ≡ numbers ++ others → parts_now ≡ parts ++ part ∷ []
    → part.start ≡ length bytes → part.end ≡ length bytes + length more → part.first ≡ length numbers → part.last ≡ length numbers + length others
    → map (packet_in_of now numbers_now) parts_now ≡ map (packet_in_of bytes numbers) parts ++ (record { payload = more; metadata = map carried others }) ∷ []
packet_in_added bytes more now numbers others numbers_now parts parts_now part within now_is numbers_is parts_is start end first last =
    let payload = range_added bytes more part.start part.end start end in
    let metadata = range_added numbers others part.first part.last first last in
    ap (λ (xs : List ℕ). map (packet_in_of xs numbers_now) parts_now) now_is
    ∙ ap (λ (xs : List Datum). map (packet_in_of (bytes ++ more) xs) parts_now) numbers_is
    ∙ ap (map (packet_in_of (bytes ++ more) (numbers ++ others))) parts_is
    ∙ map_push (packet_in_of (bytes ++ more) (numbers ++ others)) parts part
    ∙ ap (λ (packet : PacketIn). map (packet_in_of (bytes ++ more) (numbers ++ others)) parts ++ packet ∷ [])
    (same_packet (slice_range (bytes ++ more) part.start part.end) more (slice_range (numbers ++ others) part.first part.last) others payload metadata)
    ∙ ap (λ (before : List PacketIn). before ++ (record { payload = more; metadata = map carried others }) ∷ []) (packet_ins_kept bytes more numbers others parts within)
