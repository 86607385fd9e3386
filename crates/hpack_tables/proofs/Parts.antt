-- What is read is what the bytes are, part by part.
use Rattle.std.proofs.Common.{◌≡◌, ◌≢◌, ℕ, zero, suc, ◌+◌, ◌-◌, ◌*◌, ◌/◌, ◌%◌, ◌^◌, ◌<◌, ◌≤◌, ◌==◌, nat_lt, nat_le, Bool, true, false, cond, List, [], ◌∷◌, ◌++◌, length, take, drop, slice_index, All, Option, Some, None, Result, Ok, Err, refl, sym, ap, ◌∙◌, subst, append_assoc, arith, ◌⊎◌, inl, inr}
use Rattle.std.proofs.lemmas.Bool.{eqb-true, eqb-false, ltb-true, ltb-false, leb-true, leb-false, lt-ltb, le-ltb, eq-eqb, ne_eqb, lt-leb, le-leb}
use Rattle.std.proofs.lemmas.List.{take-append-drop, length-append, length-take}
use Rattle.std.proofs.Math.Nat.{mul-add, mul_assoc, mul_comm}
use Rattle.std.proofs.lemmas.Nat.{pow_pos, mod_below, div-add-mod'}
use Rattle.std.proofs.Math.Seq.{take-append_seam, drop-append_seam}
use Rattle.hpack_tables.specs.declared.fault.HpackFault.{HpackFault}
use Rattle.hpack_tables.specs.declared.fault.HpackFault.TheVariants.{Truncated, BadHuffman}
use Rattle.list_types.specs.Results.{◌>>=◌, unless, found}
use Rattle.hpack_tables.specs.Integers.{integer_from, integer_at}
use Rattle.hpack_tables.specs.Strings.{huffman_text, octets, string_at}
use Rattle.hpack_tables.specs.Huffman.{IsHuffmanOf}
use Rattle.hpack_tables.proofs.Texts.{one_text}
use Rattle.hpack_tables.specs.Headers.{EndsAtLast, sevens, IsInteger, IsString}

abbrev pub AreBytes : List ℕ → Type 0
AreBytes bytes = All (λ byte. byte < 256) bytes

pub bytes_after : (front rest : List ℕ) → AreBytes (front ++ rest) → AreBytes rest
bytes_after [] rest h = h
bytes_after (byte ∷ front) rest h = bytes_after front rest (λ i d lt. h (suc i) d (omega arith))

pub bytes_before : (front rest : List ℕ) → AreBytes (front ++ rest) → AreBytes front
bytes_before [] rest h i d lt = absurd (omega arith)
bytes_before (byte ∷ front) rest h zero d lt = h zero d (omega arith)
bytes_before (byte ∷ front) rest h (suc i) d lt = bytes_before front rest (λ i d lt. h (suc i) d (omega arith)) i d (omega arith)

-- ---- steps of reading

pub bind_ok : {A B : Type 0} (r : Result A HpackFault) (f : A → Result B HpackFault) (y : B) → (r >>= f) ≡ Ok y → (x : A) × (r ≡ Ok x) × (f x ≡ Ok y)
bind_ok (Ok x) f y e = (x, refl, e)
bind_ok (Err fault) f y e = absurd cc

pub unless_ok : {A : Type 0} (b : Bool) (fault : HpackFault) (r : Result A HpackFault) (y : A) → unless b fault r ≡ Ok y → (b ≡ false) × (r ≡ Ok y)
unless_ok true fault r y e = absurd cc
unless_ok false fault r y e = (refl, e)

pub chosen : {A : Type 0} (b : Bool) (x y z : A) → cond b x y ≡ z → ((b ≡ true) × (x ≡ z)) ⊎ ((b ≡ false) × (y ≡ z))
chosen true x y z e = inl (refl, e)
chosen false x y z e = inr (refl, e)

abbrev done : {A : Type 0} → A → Result A HpackFault
done x = Ok x

pub ok_is : {A : Type 0} (x y : A) → done x ≡ done y → x ≡ y
ok_is x y e = cc

pub found_ok : {A : Type 0} (fault : HpackFault) (r : Option A) (x : A) → found fault r ≡ Ok x → r ≡ Some x
found_ok fault None x e = absurd cc
found_ok fault (Some y) x e = ap (λ z. Some z) (ok_is y x e)

-- ---- integers

digit_up : (value d unit s : ℕ) → value + d * unit + unit * 128 * s ≡ value + unit * (d + 128 * s)
digit_up value d unit s = omega (arith, mul-add unit d (128 * s), mul_assoc unit 128 s, mul_comm unit d)

record HasTail (value unit : ℕ) (bytes : List ℕ) (n : ℕ) (rest : List ℕ) : Type 0 where
  pub front : List ℕ
  pub ends : EndsAtLast front
  pub value_is : n ≡ value + unit * sevens front
  pub fits : n < 2 ^ 32
  pub bytes_are : bytes ≡ front ++ rest

pub ends_later : (byte : ℕ) (front : List ℕ) → 128 ≤ byte → EndsAtLast front → EndsAtLast (byte ∷ front)
ends_later byte [] le ends = absurd ends
ends_later byte (more ∷ front) le ends = (le, ends)

last_byte : (value unit byte : ℕ) (bytes : List ℕ) → byte < 128 → value + byte % 128 * unit ≤ 2 ^ 32 - 1 → HasTail value unit (byte ∷ bytes) (value + byte % 128 * unit) bytes
last_byte value unit byte bytes last fits = record {
  front = byte ∷ [];
  ends = last;
  value_is = omega (arith, digit_up value (byte % 128) unit 0);
  fits = omega arith;
  bytes_are = refl;
}

earlier_byte : (value unit byte : ℕ) (bytes : List ℕ) (n : ℕ) (rest : List ℕ) → 128 ≤ byte → HasTail (value + byte % 128 * unit) (unit * 128) bytes n rest → HasTail value unit (byte ∷ bytes) n rest
earlier_byte value unit byte bytes n rest le tail = record {
  front = byte ∷ tail.front;
  ends = ends_later byte tail.front le tail.ends;
  value_is = tail.value_is ∙ digit_up value (byte % 128) unit (sevens tail.front);
  fits = tail.fits;
  bytes_are = ap (λ (x : List ℕ). byte ∷ x) tail.bytes_are;
}

has_tail : (fault : HpackFault) (bytes : List ℕ) (value unit n : ℕ) (rest : List ℕ) → integer_from fault value unit bytes ≡ Ok (n, rest) → HasTail value unit bytes n rest
unfolding integer_from
has_tail fault [] value unit n rest e = absurd cc
has_tail fault (byte ∷ bytes) value unit n rest e =
    let g = unless_ok (nat_lt (2 ^ 32 - 1) (value + byte % 128 * unit)) fault (cond (nat_lt byte 128) (Ok (value + byte % 128 * unit, bytes)) (integer_from fault (value + byte % 128 * unit) (unit * 128) bytes)) (n, rest) e in
    let fits : value + byte % 128 * unit ≤ 2 ^ 32 - 1 = ltb-false (2 ^ 32 - 1) (value + byte % 128 * unit) g.0 in
    elim (chosen (nat_lt byte 128) (Ok (value + byte % 128 * unit, bytes)) (integer_from fault (value + byte % 128 * unit) (unit * 128) bytes) (Ok (n, rest)) g.1) [
      | inl h ↦ subst (λ (x : ℕ × List ℕ). HasTail value unit (byte ∷ bytes) x.0 x.1) (ok_is (value + byte % 128 * unit, bytes) (n, rest) h.1) (last_byte value unit byte bytes (ltb-true byte 128 h.0) fits)
      | inr h ↦ earlier_byte value unit byte bytes n rest (ltb-false byte 128 h.0) (has_tail fault bytes (value + byte % 128 * unit) (unit * 128) n rest h.1)
    ]

tail_again : (fault : HpackFault) (front rest : List ℕ) (value unit : ℕ) → EndsAtLast front → value + unit * sevens front < 2 ^ 32 → integer_from fault value unit (front ++ rest) ≡ Ok (value + unit * sevens front, rest)
unfolding integer_from
tail_again fault [] rest value unit ends fits = absurd ends
tail_again fault (byte ∷ []) rest value unit ends fits =
    let up = digit_up value (byte % 128) unit 0 in
    let same : value + byte % 128 * unit ≡ value + unit * (byte % 128 + 128 * 0) = omega (arith, up) in
    rw (le-ltb (2 ^ 32 - 1) (value + byte % 128 * unit) (omega (arith, same)), lt-ltb byte 128 ends) (ap (λ (x : ℕ). Ok (x, rest)) same)
tail_again fault (byte ∷ more ∷ front) rest value unit ends fits =
    let up = digit_up value (byte % 128) unit (sevens (more ∷ front)) in
    rw (le-ltb (2 ^ 32 - 1) (value + byte % 128 * unit) (omega (arith, up)), le-ltb byte 128 ends.0)
    (tail_again fault (more ∷ front) rest (value + byte % 128 * unit) (unit * 128) ends.1 (omega (arith, up)) ∙ ap (λ (x : ℕ). Ok (x, rest)) up)

-- an integer at the front of bytes
pub record HasInteger (prefix form value : ℕ) (bytes rest : List ℕ) : Type 0 where
  pub front : List ℕ
  pub is : IsInteger prefix form value front
  pub bytes_are : bytes ≡ front ++ rest

short_integer : (prefix byte : ℕ) (bytes : List ℕ) → byte < 256 → byte % 2 ^ prefix ≢ 2 ^ prefix - 1 → HasInteger prefix (byte / 2 ^ prefix) (byte % 2 ^ prefix) (byte ∷ bytes) bytes
short_integer prefix byte bytes small other =
    let below = mod_below byte (2 ^ prefix) (pow_pos prefix) in
    let parts = div-add-mod' byte (2 ^ prefix) in
    record { front = byte ∷ []; is = (refl, omega (arith, parts), inl (refl, omega (arith, below, other), refl)); bytes_are = refl }

long_integer : (prefix byte : ℕ) (bytes : List ℕ) (n : ℕ) (rest : List ℕ) → byte % 2 ^ prefix ≡ 2 ^ prefix - 1 → HasTail (2 ^ prefix - 1) 1 bytes n rest → HasInteger prefix (byte / 2 ^ prefix) n (byte ∷ bytes) rest
long_integer prefix byte bytes n rest full tail = record {
  front = byte ∷ tail.front;
  is = (refl, tail.fits, inr (tail.ends, full, omega (arith, tail.value_is)));
  bytes_are = ap (λ (x : List ℕ). byte ∷ x) tail.bytes_are;
}

pub has_integer : (prefix : ℕ) (fault : HpackFault) (bytes : List ℕ) (n : ℕ) (rest : List ℕ) → AreBytes bytes → integer_at prefix fault bytes ≡ Ok (n, rest) → HasInteger prefix (slice_index bytes 0 / 2 ^ prefix) n bytes rest
unfolding integer_at
has_integer prefix fault [] n rest small e = absurd cc
has_integer prefix fault (byte ∷ bytes) n rest small e =
    elim (chosen (byte % 2 ^ prefix == 2 ^ prefix - 1) (integer_from fault (2 ^ prefix - 1) 1 bytes) (Ok (byte % 2 ^ prefix, bytes)) (Ok (n, rest)) e) [
      | inl h ↦ long_integer prefix byte bytes n rest (eqb-true (byte % 2 ^ prefix) (2 ^ prefix - 1) h.0) (has_tail fault bytes (2 ^ prefix - 1) 1 n rest h.1)
      | inr h ↦ subst (λ (x : ℕ × List ℕ). HasInteger prefix (byte / 2 ^ prefix) x.0 (byte ∷ bytes) x.1) (ok_is (byte % 2 ^ prefix, bytes) (n, rest) h.1)
          (short_integer prefix byte bytes (small 0 0 (omega arith)) (eqb-false (byte % 2 ^ prefix) (2 ^ prefix - 1) h.0))
    ]

pub integer_again : (prefix form value : ℕ) (fault : HpackFault) (front rest : List ℕ) → IsInteger prefix form value front → integer_at prefix fault (front ++ rest) ≡ Ok (value, rest)
unfolding integer_at
integer_again prefix form value fault [] rest is = absurd is
integer_again prefix form value fault (byte ∷ front) rest is =
    elim is.2 [
      | inl short ↦
          let none : front ++ rest ≡ rest = ap (λ (x : List ℕ). x ++ rest) short.0 in
          rw (none, short.2, ne_eqb value (2 ^ prefix - 1) (λ e. omega (arith, short.1))) refl
      | inr long ↦
          let whole : 2 ^ prefix - 1 + 1 * sevens front ≡ value = omega (arith, long.2) in
          rw (eq-eqb (byte % 2 ^ prefix) (2 ^ prefix - 1) long.1) (tail_again fault front rest (2 ^ prefix - 1) 1 long.0 (omega (arith, whole, is.1)) ∙ ap (λ (x : ℕ). Ok (x, rest)) whole)
    ]

-- the bits before the prefix
pub form_is : (prefix form value : ℕ) (front rest : List ℕ) → IsInteger prefix form value front → slice_index (front ++ rest) 0 / 2 ^ prefix ≡ form
form_is prefix form value [] rest is = absurd is
form_is prefix form value (byte ∷ front) rest is = is.0

pub first_small : (bytes : List ℕ) → AreBytes bytes → slice_index bytes 0 < 256
first_small [] small = omega arith
first_small (byte ∷ bytes) small = small 0 0 (omega arith)

-- ---- strings

pub record HasString (text bytes rest : List ℕ) : Type 0 where
  pub front : List ℕ
  pub is : IsString text front
  pub bytes_are : bytes ≡ front ++ rest

text_form : (first : ℕ) (inside text : List ℕ) → first < 256 → octets (nat_le 128 first) inside ≡ Ok text → ((first / 2 ^ 7 ≡ 0) × (text ≡ inside)) ⊎ ((first / 2 ^ 7 ≡ 1) × IsHuffmanOf text inside)
text_form first inside text small e =
    elim (chosen (nat_le 128 first) (found BadHuffman (huffman_text inside)) (Ok inside) (Ok text) e) [
      | inl h ↦ let le = leb-true 128 first h.0 in inr (omega arith, (one_text text inside).0 (found_ok BadHuffman (huffman_text inside) text h.1))
      | inr h ↦ let lt = leb-false 128 first h.0 in inl (omega arith, sym (ok_is inside text h.1))
    ]

string_parts : (bytes : List ℕ) (n : ℕ) (after text : List ℕ) → AreBytes bytes → n ≤ length after → HasInteger 7 (slice_index bytes 0 / 2 ^ 7) n bytes after → octets (nat_le 128 (slice_index bytes 0)) (take n after) ≡ Ok text → HasString text bytes (drop n after)
string_parts bytes n after text small le has e =
    let size : n ≡ length (take n after) = omega (arith, length-take n after) in
    record {
      front = has.front ++ take n after;
      is = record {
        form = slice_index bytes 0 / 2 ^ 7;
        front = has.front;
        inside = take n after;
        size_is = subst (λ (k : ℕ). IsInteger 7 (slice_index bytes 0 / 2 ^ 7) k has.front) size has.is;
        text_is = text_form (slice_index bytes 0) (take n after) text (first_small bytes small) e;
        bytes_are = refl;
      };
      bytes_are = has.bytes_are ∙ ap (λ (x : List ℕ). has.front ++ x) (sym (take-append-drop n after)) ∙ sym (append_assoc has.front (take n after) (drop n after));
    }

pub has_string : (bytes text rest : List ℕ) → AreBytes bytes → string_at bytes ≡ Ok (text, rest) → HasString text bytes rest
unfolding string_at
has_string bytes text rest small e =
    let read = bind_ok (integer_at 7 Truncated bytes) (λ size. unless (nat_lt (length size.1) size.0) Truncated (octets (nat_le 128 (slice_index bytes 0)) (take size.0 size.1) >>= λ text. Ok (text, drop size.0 size.1))) (text, rest) e in
    let n = read.0.0 in
    let after = read.0.1 in
    let g = unless_ok (nat_lt (length after) n) Truncated (octets (nat_le 128 (slice_index bytes 0)) (take n after) >>= λ text. Ok (text, drop n after)) (text, rest) read.2 in
    let inside = bind_ok (octets (nat_le 128 (slice_index bytes 0)) (take n after)) (λ text. Ok (text, drop n after)) (text, rest) g.1 in
    subst (λ (x : List ℕ × List ℕ). HasString x.0 bytes x.1) (ok_is (inside.0, drop n after) (text, rest) inside.2)
    (string_parts bytes n after inside.0 small (ltb-false (length after) n g.0) (has_integer 7 Truncated bytes n after small read.1) inside.1)

octets_again : (first form : ℕ) (inside text : List ℕ) → first / 2 ^ 7 ≡ form → ((form ≡ 0) × (text ≡ inside)) ⊎ ((form ≡ 1) × IsHuffmanOf text inside) → octets (nat_le 128 first) inside ≡ Ok text
octets_again first form inside text e is =
    elim is [
      | inl plain ↦ rw (lt-leb 128 first (omega (arith, e, plain.0))) (ap (λ (x : List ℕ). Ok x) (sym plain.1))
      | inr coded ↦ rw (le-leb 128 first (omega (arith, e, coded.0))) (ap (found BadHuffman) ((one_text text inside).1 coded.1))
    ]

pub string_again : (text front rest : List ℕ) → IsString text front → string_at (front ++ rest) ≡ Ok (text, rest)
unfolding string_at
string_again text front rest is =
    let whole : front ++ rest ≡ is.front ++ (is.inside ++ rest) = ap (λ (x : List ℕ). x ++ rest) is.bytes_are ∙ append_assoc is.front is.inside rest in
    rw (
      whole,
      integer_again 7 is.form (length is.inside) Truncated is.front (is.inside ++ rest) is.size_is,
      le-ltb (length (is.inside ++ rest)) (length is.inside) (omega (arith, length-append is.inside rest)),
      take-append_seam is.inside rest,
      drop-append_seam is.inside rest,
      octets_again (slice_index (is.front ++ (is.inside ++ rest)) 0) is.form is.inside text (form_is 7 is.form (length is.inside) is.front (is.inside ++ rest) is.size_is) is.text_is,
    ) refl
