-- What is read as a payload is one, and a payload is read again.
use Rattle.std.proofs.Common.{◌≡◌, ℕ, ◌^◌, ◌<◌, ◌≤◌, false, cond, ltb, List, ◌++◌, length, take, drop, Ok, Err, refl, sym, ap, subst, ◌∙◌, append_assoc, arith}
use Rattle.std.specs.Int.{Width, w32, w64, byte_len, from_le_bytes, to_le_bytes}
use Rattle.std.proofs.lemmas.Bool.{ltb-false, le-ltb}
use Rattle.std.proofs.lemmas.List.{take_at, drop_at, take-append-drop, length-append, length-take}
use Rattle.std.proofs.lemmas.Nat.{le_bytes_4, le_bytes_8, from_le_bytes-to_le_bytes_4, from_le_bytes-to_le_bytes_8}
use Rattle.wire_fields.specs.declared.wire.WireFault.TheVariants.{Truncated}
use Rattle.wire_fields.specs.declared.wire.WireType.{WireType}
use Rattle.wire_fields.specs.declared.wire.WireType.TheVariants as types
use Rattle.wire_fields.specs.Fields.{Payload, Varint, Fixed64, Bytes, Fixed32, wire_type, IsVarint, PayloadSpells}
use Rattle.wire_fields.specs.Reading.{varint_at, number_at, bytes_at, payload_at}
use Rattle.wire_fields.proofs.Steps.{IsBytes, IsBytes-take, bind_ok, guard_ok, ok_is}
use Rattle.wire_fields.proofs.Varints.{has_varint, varint_again}

-- ---- numbers of four and of eight bytes

pub record IsWide (w : Width) (limit : ℕ) : Type 0 where
  pub len : (n : ℕ) → length (to_le_bytes w n) ≡ byte_len w
  pub back : (bytes : List ℕ) → length bytes ≡ byte_len w → IsBytes bytes → to_le_bytes w (from_le_bytes w bytes) ≡ bytes
  pub again : (n : ℕ) → n < limit → from_le_bytes w (to_le_bytes w n) ≡ n
  pub below : (bytes : List ℕ) → IsBytes bytes → from_le_bytes w bytes < limit

wide32 : IsWide w32 (2 ^ 32)
wide32 = record {
  len = λ n. refl;
  back = λ bytes len fits. le_bytes_4 bytes _ len fits refl;
  again = λ n lt. from_le_bytes-to_le_bytes_4 n lt;
  below = λ bytes fits. omega (arith, fits 0, fits 1, fits 2, fits 3);
}

wide64 : IsWide w64 (2 ^ 64)
wide64 = record {
  len = λ n. refl;
  back = λ bytes len fits. le_bytes_8 bytes _ len fits refl;
  again = λ n lt. from_le_bytes-to_le_bytes_8 n lt;
  below = λ bytes fits. omega (arith, fits 0, fits 1, fits 2, fits 3, fits 4, fits 5, fits 6, fits 7);
}

record HasNumber (w : Width) (limit : ℕ) (bytes : List ℕ) (n : ℕ) (rest : List ℕ) : Type 0 where
  pub fits : n < limit
  pub bytes_are : bytes ≡ to_le_bytes w n ++ rest

has_number : (w : Width) (limit : ℕ) (wide : IsWide w limit) (bytes : List ℕ) (n : ℕ) (rest : List ℕ) → IsBytes bytes → number_at w bytes ≡ Ok (n, rest) → HasNumber w limit bytes n rest
has_number w limit wide bytes n rest fits e =
    let front = take (byte_len w) bytes in
    let g = guard_ok (ltb (length bytes) (byte_len w)) Truncated (from_le_bytes w front, drop (byte_len w) bytes) (n, rest) e in
    let long : byte_len w ≤ length bytes = ltb-false _ _ g.0 in
    let front_fits = IsBytes-take (byte_len w) bytes fits in
    let back = wide.back front (omega (arith, length-take (byte_len w) bytes)) front_fits in
    subst (λ (x : ℕ × List ℕ). HasNumber w limit bytes x.0 x.1) g.1
    (record { fits = wide.below front front_fits; bytes_are = rw back (sym (take-append-drop (byte_len w) bytes)) })

number_again : (w : Width) (limit : ℕ) (wide : IsWide w limit) (n : ℕ) (rest : List ℕ) → n < limit → number_at w (to_le_bytes w n ++ rest) ≡ Ok (n, rest)
number_again w limit wide n rest lt =
    let len = wide.len n in
    let long : ltb (length (to_le_bytes w n ++ rest)) (byte_len w) ≡ false = le-ltb _ _ (omega (arith, length-append (to_le_bytes w n) rest)) in
    rw (long, take_at (to_le_bytes w n) rest (byte_len w) len, drop_at (to_le_bytes w n) rest (byte_len w) len, wide.again n lt) refl

-- ---- bytes behind their length

record HasInside (bytes inside rest : List ℕ) : Type 0 where
  pub size : List ℕ
  pub is_size : IsVarint size (length inside)
  pub bytes_are : bytes ≡ (size ++ inside) ++ rest

has_inside : (bytes inside rest : List ℕ) → IsBytes bytes → bytes_at bytes ≡ Ok (inside, rest) → HasInside bytes inside rest
unfolding bytes_at
has_inside bytes inside rest fits e =
    let size = bind_ok (varint_at bytes) (λ size. cond (ltb (length size.1) size.0) (Err Truncated) (Ok (take size.0 size.1, drop size.0 size.1))) (inside, rest) e in
    let n = size.0.0 in
    let after = size.0.1 in
    let g = guard_ok (ltb (length after) n) Truncated (take n after, drop n after) (inside, rest) size.2 in
    let long : n ≤ length after = ltb-false _ _ g.0 in
    let len : n ≡ length (take n after) = omega (arith, length-take n after) in
    let has = has_varint bytes n after fits size.1 in
    let whole : bytes ≡ (has.front ++ take n after) ++ drop n after =
    has.bytes_are ∙ ap (λ x. has.front ++ x) (sym (take-append-drop n after)) ∙ sym (append_assoc has.front (take n after) (drop n after)) in
    subst (λ (x : List ℕ × List ℕ). HasInside bytes x.0 x.1) g.1
    (record { size = has.front; is_size = subst (λ (k : ℕ). IsVarint has.front k) len has.is_varint; bytes_are = whole })

inside_again : (size inside rest : List ℕ) → IsVarint size (length inside) → bytes_at ((size ++ inside) ++ rest) ≡ Ok (inside, rest)
unfolding bytes_at
inside_again size inside rest is =
    let long : ltb (length (inside ++ rest)) (length inside) ≡ false = le-ltb _ _ (omega (arith, length-append inside rest)) in
    ap bytes_at (append_assoc size inside rest) ∙ rw (varint_again size (inside ++ rest) (length inside) is, long, take_at inside rest (length inside) refl, drop_at inside rest (length inside) refl) refl

-- ---- payloads

-- the number that stands for a type in a tag
abbrev pub number_of : WireType → ℕ
number_of types.Varint = 0
number_of types.Fixed64 = 1
number_of types.Bytes = 2
number_of types.Fixed32 = 5

-- the type of a payload
abbrev pub type_is : Payload → WireType
type_is (Varint value) = types.Varint
type_is (Fixed64 value) = types.Fixed64
type_is (Bytes bytes) = types.Bytes
type_is (Fixed32 value) = types.Fixed32

pub record HasPayload (kind : WireType) (bytes : List ℕ) (payload : Payload) (rest : List ℕ) : Type 0 where
  pub back : List ℕ
  pub spells : PayloadSpells payload back
  pub kind_is : wire_type payload ≡ number_of kind
  pub bytes_are : bytes ≡ back ++ rest

pub has_payload : (kind : WireType) (bytes : List ℕ) (payload : Payload) (rest : List ℕ) → IsBytes bytes → payload_at kind bytes ≡ Ok (payload, rest) → HasPayload kind bytes payload rest
has_payload types.Varint bytes payload rest fits e =
    let read = bind_ok (varint_at bytes) (λ value. Ok (Varint value.0, value.1)) (payload, rest) e in
    let has = has_varint bytes read.0.0 read.0.1 fits read.1 in
    subst (λ (x : Payload × List ℕ). HasPayload types.Varint bytes x.0 x.1) (ok_is (Varint read.0.0, read.0.1) (payload, rest) read.2)
    (record { back = has.front; spells = has.is_varint; kind_is = refl; bytes_are = has.bytes_are })
has_payload types.Fixed64 bytes payload rest fits e =
    let read = bind_ok (number_at w64 bytes) (λ value. Ok (Fixed64 value.0, value.1)) (payload, rest) e in
    let has = has_number w64 (2 ^ 64) wide64 bytes read.0.0 read.0.1 fits read.1 in
    subst (λ (x : Payload × List ℕ). HasPayload types.Fixed64 bytes x.0 x.1) (ok_is (Fixed64 read.0.0, read.0.1) (payload, rest) read.2)
    (record { back = to_le_bytes w64 read.0.0; spells = (has.fits, refl); kind_is = refl; bytes_are = has.bytes_are })
has_payload types.Bytes bytes payload rest fits e =
    let read = bind_ok (bytes_at bytes) (λ inside. Ok (Bytes inside.0, inside.1)) (payload, rest) e in
    let has = has_inside bytes read.0.0 read.0.1 fits read.1 in
    subst (λ (x : Payload × List ℕ). HasPayload types.Bytes bytes x.0 x.1) (ok_is (Bytes read.0.0, read.0.1) (payload, rest) read.2)
    (record { back = has.size ++ read.0.0; spells = (has.size, has.is_size, refl); kind_is = refl; bytes_are = has.bytes_are })
has_payload types.Fixed32 bytes payload rest fits e =
    let read = bind_ok (number_at w32 bytes) (λ value. Ok (Fixed32 value.0, value.1)) (payload, rest) e in
    let has = has_number w32 (2 ^ 32) wide32 bytes read.0.0 read.0.1 fits read.1 in
    subst (λ (x : Payload × List ℕ). HasPayload types.Fixed32 bytes x.0 x.1) (ok_is (Fixed32 read.0.0, read.0.1) (payload, rest) read.2)
    (record { back = to_le_bytes w32 read.0.0; spells = (has.fits, refl); kind_is = refl; bytes_are = has.bytes_are })

pub payload_again : (payload : Payload) (back rest : List ℕ) → PayloadSpells payload back → payload_at (type_is payload) (back ++ rest) ≡ Ok (payload, rest)
payload_again (Varint value) back rest spells = rw (varint_again back rest value spells) refl
payload_again (Fixed64 value) back rest spells = rw (spells.1, number_again w64 (2 ^ 64) wide64 value rest spells.0) refl
payload_again (Bytes inside) back rest spells = rw (spells.2, inside_again spells.0 inside rest spells.1) refl
payload_again (Fixed32 value) back rest spells = rw (spells.1, number_again w32 (2 ^ 32) wide32 value rest spells.0) refl
