-- Fields within eight bytes.
use Rattle.std.proofs.Common.{◌≡◌, ℕ, ◌+◌, ◌-◌, ◌*◌, ◌/◌, ◌%◌, ◌^◌, ◌<◌, ◌≤◌, List, length, get_or, sym, ap, ◌∙◌, arith}
use Rattle.std.proofs.lemmas.Nat.{mod-pow-add, div-mul-add, mod-mul-add, shl-shr, shr-shr, mod_below, pow_pos}
use Rattle.pkt_bits.specs.Field.{field}
use Rattle.pkt_bits.proofs.Pieces.{byte_more, field_first, field_more, field-lt}

-- a byte makes the bits before it one field with its own
pub byte_after : (bytes : List ℕ) (at bit a b : ℕ) → b ≡ get_or bytes at 0 → b < 256 → at < length bytes → at * 8 ≡ bit + a → field bytes bit a * 256 + b ≡ field bytes bit (a + 8)
byte_after bytes at bit a b is small lt here = byte_more bytes at bit a b here lt (omega (arith, is, small))

-- the bits of a word of 64 behind its first ones
pub behind_first : (x off w : ℕ) → off + w ≤ 64 → x * 2 ^ off % 2 ^ 64 / 2 ^ (64 - w) ≡ x / 2 ^ (64 - off - w) % 2 ^ w
behind_first x off w le =
    let r = 64 - off - w in
    let n = x * 2 ^ off in
    let high : 64 - w ≡ off + r = omega arith in
    let whole : 64 ≡ w + (off + r) = omega arith in
    let shifted : n / 2 ^ (off + r) ≡ x / 2 ^ r = sym (shr-shr n off r) ∙ ap (λ k. k / 2 ^ r) (shl-shr x off) in
    ap (λ k. n % 2 ^ 64 / 2 ^ k) high
    ∙ ap (λ k. n % 2 ^ k / 2 ^ (off + r)) whole
    ∙ ap (λ k. k / 2 ^ (off + r)) (mod-pow-add n w (off + r))
    ∙ div-mul-add (n / 2 ^ (off + r) % 2 ^ w) (2 ^ (off + r)) (n % 2 ^ (off + r)) (mod_below n (2 ^ (off + r)) (pow_pos (off + r)))
    ∙ ap (λ k. k % 2 ^ w) shifted

-- a field that stands within eight bytes
pub in_eight : (bytes : List ℕ) (bit start off w : ℕ) → bit ≡ start * 8 + off → off + w ≤ 64 → start + 8 ≤ length bytes
    → field bytes (start * 8) 64 / 2 ^ (64 - off - w) % 2 ^ w ≡ field bytes bit w
in_eight bytes bit start off w bit_is le within =
    let r = 64 - off - w in
    let whole : 64 ≡ off + w + r = omega arith in
    ap (λ n. field bytes (start * 8) n / 2 ^ r % 2 ^ w) whole
    ∙ ap (λ x. x % 2 ^ w) (field_first bytes (start * 8) (off + w) r (omega arith) ∙ field_more bytes (start * 8) off bit w bit_is (omega arith))
    ∙ mod-mul-add (field bytes (start * 8) off) (2 ^ w) (field bytes bit w) (field-lt bytes bit w)
