-- A field takes a byte at least, whatever the bytes are.
use Rattle.std.proofs.Common.{◌≡◌, ℕ, ◌<◌, ◌≤◌, cond, ltb, eqb, ◌||◌, ◌/◌, ◌%◌, List, length, drop, take, Ok, Err, subst, arith}
use Rattle.std.specs.Int.{Width, w32, w64, byte_len, from_le_bytes}
use Rattle.std.proofs.lemmas.List.{length-drop}
use Rattle.wire_fields.specs.declared.wire.WireFault.TheVariants.{Truncated, ZeroField}
use Rattle.wire_fields.specs.declared.wire.WireType.{WireType}
use Rattle.wire_fields.specs.declared.wire.WireType.TheVariants as types
use Rattle.wire_fields.specs.Fields.{Payload, Varint, Fixed64, Bytes, Fixed32, WireField}
use Rattle.wire_fields.specs.Reading.{varint_at, number_at, bytes_at, type_of, tag_at, payload_at, numbered, field_at}
use Rattle.list_types.specs.Results.{◌>>=◌}
use Rattle.wire_fields.proofs.Steps.{bind_ok, guard_ok, ok_is}
use Rattle.wire_fields.proofs.Varints.{varint_shorter}

tag_shorter : (bytes : List ℕ) (tag : ℕ × WireType × List ℕ) → tag_at bytes ≡ Ok tag → length tag.2 < length bytes
unfolding tag_at
tag_shorter bytes tag e =
    let read = bind_ok (varint_at bytes) (λ tag. type_of (tag.0 % 8) >>= λ kind. cond (eqb (tag.0 / 8) 0 || ltb 536870911 (tag.0 / 8)) (Err ZeroField) (Ok (tag.0 / 8, kind, tag.1))) tag e in
    let n = read.0.0 in
    let after = read.0.1 in
    let typed = bind_ok (type_of (n % 8)) (λ kind. cond (eqb (n / 8) 0 || ltb 536870911 (n / 8)) (Err ZeroField) (Ok (n / 8, kind, after))) tag read.2 in
    let g = guard_ok (eqb (n / 8) 0 || ltb 536870911 (n / 8)) ZeroField (n / 8, typed.0, after) tag typed.2 in
    subst (λ (x : ℕ × WireType × List ℕ). length x.2 < length bytes) g.1 (varint_shorter bytes n after read.1)

number_not_longer : (w : Width) (bytes : List ℕ) (n : ℕ) (rest : List ℕ) → number_at w bytes ≡ Ok (n, rest) → length rest ≤ length bytes
number_not_longer w bytes n rest e =
    let g = guard_ok (ltb (length bytes) (byte_len w)) Truncated (from_le_bytes w (take (byte_len w) bytes), drop (byte_len w) bytes) (n, rest) e in
    subst (λ (x : ℕ × List ℕ). length x.1 ≤ length bytes) g.1 (omega (arith, length-drop (byte_len w) bytes))

inside_not_longer : (bytes inside rest : List ℕ) → bytes_at bytes ≡ Ok (inside, rest) → length rest ≤ length bytes
unfolding bytes_at
inside_not_longer bytes inside rest e =
    let size = bind_ok (varint_at bytes) (λ size. cond (ltb (length size.1) size.0) (Err Truncated) (Ok (take size.0 size.1, drop size.0 size.1))) (inside, rest) e in
    let n = size.0.0 in
    let after = size.0.1 in
    let g = guard_ok (ltb (length after) n) Truncated (take n after, drop n after) (inside, rest) size.2 in
    let shorter = varint_shorter bytes n after size.1 in
    subst (λ (x : List ℕ × List ℕ). length x.1 ≤ length bytes) g.1 (omega (arith, shorter, length-drop n after))

payload_not_longer : (kind : WireType) (bytes : List ℕ) (payload : Payload × List ℕ) → payload_at kind bytes ≡ Ok payload → length payload.1 ≤ length bytes
payload_not_longer types.Varint bytes payload e =
    let read = bind_ok (varint_at bytes) (λ value. Ok (Varint value.0, value.1)) payload e in
    let shorter = varint_shorter bytes read.0.0 read.0.1 read.1 in
    subst (λ (x : Payload × List ℕ). length x.1 ≤ length bytes) (ok_is (Varint read.0.0, read.0.1) payload read.2) (omega (arith, shorter))
payload_not_longer types.Fixed64 bytes payload e =
    let read = bind_ok (number_at w64 bytes) (λ value. Ok (Fixed64 value.0, value.1)) payload e in
    subst (λ (x : Payload × List ℕ). length x.1 ≤ length bytes) (ok_is (Fixed64 read.0.0, read.0.1) payload read.2) (number_not_longer w64 bytes read.0.0 read.0.1 read.1)
payload_not_longer types.Bytes bytes payload e =
    let read = bind_ok (bytes_at bytes) (λ inside. Ok (Bytes inside.0, inside.1)) payload e in
    subst (λ (x : Payload × List ℕ). length x.1 ≤ length bytes) (ok_is (Bytes read.0.0, read.0.1) payload read.2) (inside_not_longer bytes read.0.0 read.0.1 read.1)
payload_not_longer types.Fixed32 bytes payload e =
    let read = bind_ok (number_at w32 bytes) (λ value. Ok (Fixed32 value.0, value.1)) payload e in
    subst (λ (x : Payload × List ℕ). length x.1 ≤ length bytes) (ok_is (Fixed32 read.0.0, read.0.1) payload read.2) (number_not_longer w32 bytes read.0.0 read.0.1 read.1)

pub field_shorter : (bytes : List ℕ) (first : WireField × List ℕ) → field_at bytes ≡ Ok first → length first.1 < length bytes
unfolding field_at
field_shorter bytes first e =
    let read = bind_ok (tag_at bytes) (λ tag. numbered tag.0 (payload_at tag.1 tag.2)) first e in
    let tag = read.0 in
    let load = bind_ok (payload_at tag.1 tag.2) (λ payload. Ok (record { number = tag.0; payload = payload.0 }, payload.1)) first read.2 in
    let made : WireField × List ℕ = (record { number = tag.0; payload = load.0.0 }, load.0.1) in
    let of_tag = tag_shorter bytes tag read.1 in
    let of_payload = payload_not_longer tag.1 tag.2 load.0 load.1 in
    subst (λ (x : WireField × List ℕ). length x.1 < length bytes) (ok_is made first load.2) (omega (arith, of_tag, of_payload))
