-- Bits are read as the text whose codes they are, and as no other.
use Rattle.std.proofs.Common.{◌≡◌, ◌≢◌, ℕ, zero, suc, ◌+◌, ◌-◌, ◌*◌, ◌/◌, ◌%◌, ◌^◌, ◌<◌, ◌≤◌, ◌==◌, ◌||◌, nat_lt, nat_le, Bool, true, false, ◌&&◌, cond, List, [], ◌∷◌, ◌++◌, length, replicate, get_or, slice_index, All, Option, Some, None, refl, sym, ap, ◌∙◌, subst, append_assoc, arith, inl, inr}
use Rattle.std.specs.List.{flat_map}
use Rattle.std.proofs.lemmas.Bool.{and_parts, or_parts, cases_lt, eqb-true, ltb-true, ltb-false, leb-false, eqb-false, ne_eqb}
use Rattle.std.proofs.lemmas.List.{append-nil}
use Rattle.std.proofs.lemmas.List.Elements.{All-cons}
use Rattle.std.specs.Int.Digits.{AllBelowBase}
use Rattle.canon_bytes.specs.Bits.{bits}
use Rattle.pkt_bits.specs.Field.{number_bits}
use Rattle.pkt_bits.proofs.Low.{length-low, below-low, below-append}
use Rattle.hpack_tables.specs.declared.code.TheConstants.{ROWS, SYMBOLS}
use Rattle.hpack_tables.specs.Code.{code_lengths, symbols_from, symbols_of, first_code, symbol_of}
use Rattle.hpack_tables.specs.Strings.{after, with_symbol, text_from, huffman_text}
use Rattle.hpack_tables.specs.Huffman.{code_number, code_of, IsHuffmanOf}
use Rattle.hpack_tables.specs.Laws.{OneText}
use Rattle.hpack_tables.proofs.RowChecks.{empty_row, all_below, all_below_at, past_longest, row_small}
use Rattle.hpack_tables.proofs.BitSteps.{joined}
use Rattle.hpack_tables.proofs.Codes.{in_table, in_table_is, bits_in, number_in, number_is, code_read, clash}

-- ---- from the codes to the text

text_read : (text padding : List ℕ) → All (λ octet. octet < 256) text → text_from 0 0 padding ≡ Some [] → text_from 0 0 (flat_map code_of text ++ padding) ≡ Some text
text_read [] padding octets ends = ends
text_read (octet ∷ text) padding octets ends =
    let small : octet < 256 = octets 0 0 (omega arith) in
    let rest = text_read text padding (λ i d lt. octets (suc i) d (omega arith)) ends in
    ap (text_from 0 0) (append_assoc (code_of octet) (flat_map code_of text) padding)
    ∙ code_read octet (flat_map code_of text ++ padding) (omega arith)
    ∙ rw (ne_eqb octet 256 (λ e. omega arith), rest) refl

pub all_same : (padding : List ℕ) → All (λ bit. bit ≡ 1) padding → padding ≡ replicate (length padding) 1
all_same [] ones = refl
all_same (bit ∷ padding) ones =
    let first : bit ≡ 1 = ones 0 0 (omega arith) in
    let rest = all_same padding (λ i d lt. ones (suc i) d (omega arith)) in
    ap (λ (b : ℕ). b ∷ padding) first ∙ ap (λ (bits : List ℕ). 1 ∷ bits) rest

padding_read : (count : ℕ) → count < 8 → text_from 0 0 (replicate count 1) ≡ Some []
unfolding text_from symbol_of symbols_of symbols_from first_code code_lengths
padding_read zero lt = refl
padding_read (suc zero) lt = refl
padding_read (suc (suc zero)) lt = refl
padding_read (suc (suc (suc zero))) lt = refl
padding_read (suc (suc (suc (suc zero)))) lt = refl
padding_read (suc (suc (suc (suc (suc zero))))) lt = refl
padding_read (suc (suc (suc (suc (suc (suc zero)))))) lt = refl
padding_read (suc (suc (suc (suc (suc (suc (suc zero))))))) lt = refl
padding_read (suc (suc (suc (suc (suc (suc (suc (suc n)))))))) lt = absurd (omega arith)

from_codes : (text bytes : List ℕ) → IsHuffmanOf text bytes → huffman_text bytes ≡ Some text
from_codes text bytes is =
    let ends = ap (text_from 0 0) (all_same is.padding is.ones) ∙ padding_read (length is.padding) is.few in
    ap (text_from 0 0) is.bits_are ∙ text_read text is.padding is.octets ends

-- ---- from the text to the codes

is_back : ℕ → ℕ → Bool
is_back bits i =
    (bits_in (slice_index SYMBOLS ((get_or ROWS bits empty_row).place + i)) == bits) && (number_in (slice_index SYMBOLS ((get_or ROWS bits empty_row).place + i)) == (get_or ROWS bits empty_row).first_code + i)

are_back : all_below (λ bits. all_below (is_back bits) (get_or ROWS bits empty_row).count) 31 ≡ true
unfolding is_back bits_in number_in code_lengths symbols_from
are_back = refl

-- a symbol that is found has this code
record HasCode (symbol bits code : ℕ) : Type 0 where
  pub bits_are : bits_in symbol ≡ bits
  pub number_are : number_in symbol ≡ code

back_at : (bits i : ℕ) → bits ≤ 30 → i < (get_or ROWS bits empty_row).count → HasCode (slice_index SYMBOLS ((get_or ROWS bits empty_row).place + i)) bits ((get_or ROWS bits empty_row).first_code + i)
unfolding is_back
back_at bits i le lt =
    let row = all_below_at (λ bits. all_below (is_back bits) (get_or ROWS bits empty_row).count) 31 bits are_back (omega arith) in
    let parts = and_parts (bits_in (slice_index SYMBOLS ((get_or ROWS bits empty_row).place + i)) == bits) (number_in (slice_index SYMBOLS ((get_or ROWS bits empty_row).place + i)) == (get_or ROWS bits empty_row).first_code + i) (all_below_at (is_back bits) (get_or ROWS bits empty_row).count i row lt) in
    record { bits_are = eqb-true _ _ parts.0; number_are = eqb-true _ _ parts.1 }

some_is : (b : Bool) (x y : ℕ) → cond b None (Some x) ≡ Some y → (b ≡ false) × (x ≡ y)
some_is true x y e = absurd (clash y e)
some_is false x y e = (refl, cc)

has_code_in : (bits code symbol : ℕ) → bits ≤ 30 → in_table bits code ≡ Some symbol → HasCode symbol bits code
unfolding in_table
has_code_in bits code symbol le e =
    let row = get_or ROWS bits empty_row in
    let given = some_is (nat_lt code row.first_code || nat_le row.count (code - row.first_code)) (slice_index SYMBOLS (row.place + (code - row.first_code))) symbol e in
    let tests = or_parts (nat_lt code row.first_code) (nat_le row.count (code - row.first_code)) given.0 in
    let above : row.first_code ≤ code = ltb-false code row.first_code tests.0 in
    let inside : code - row.first_code < row.count = leb-false row.count (code - row.first_code) tests.1 in
    let back = back_at bits (code - row.first_code) le inside in
    let whole : row.first_code + (code - row.first_code) ≡ code = omega (arith, above) in
    record { bits_are = ap bits_in (sym given.1) ∙ back.bits_are; number_are = ap number_in (sym given.1) ∙ back.number_are ∙ whole }

not_past : (bits code symbol : ℕ) → symbol_of bits code ≡ Some symbol → bits ≤ 30
not_past bits code symbol e =
    elim (cases_lt 30 bits) [
      | inl past ↦ absurd (clash symbol (sym (past_longest bits code past) ∙ e))
      | inr le ↦ le
    ]

-- the bits of a symbol that is found are its code
code_back : (bits code symbol : ℕ) → symbol_of bits code ≡ Some symbol → number_bits bits code ≡ code_of symbol
unfolding bits_in
code_back bits code symbol e =
    let le = not_past bits code symbol e in
    let has = has_code_in bits code symbol le (in_table_is bits code le ∙ e) in
    let size : bits_in symbol ≡ bits = has.bits_are in
    let number : code ≡ code_number symbol = sym has.number_are ∙ number_is symbol (omega (arith, size)) in
    ap (λ (k : ℕ). number_bits k code) (sym size) ∙ ap (number_bits (slice_index code_lengths symbol)) number

-- the bits of a number with one bit more
with_bit : (held code bit : ℕ) → bit < 2 → number_bits (suc held) (2 * code + bit) ≡ number_bits held code ++ bit ∷ []
with_bit held code bit small =
    let more : suc held ≡ held + 1 = omega arith in
    let behind : 2 * code + bit ≡ code * 2 ^ 1 + bit = omega arith in
    let last : bit / 2 ^ 0 % 2 ≡ bit = omega arith in
    ap (λ n. number_bits n (2 * code + bit)) more ∙ ap (number_bits (held + 1)) behind ∙ joined held 1 code bit small ∙ ap (λ (b : ℕ). number_bits held code ++ b ∷ []) last

all_ones : (held : ℕ) → held < 8 → number_bits held (2 ^ held - 1) ≡ replicate held 1
all_ones zero lt = refl
all_ones (suc zero) lt = refl
all_ones (suc (suc zero)) lt = refl
all_ones (suc (suc (suc zero))) lt = refl
all_ones (suc (suc (suc (suc zero)))) lt = refl
all_ones (suc (suc (suc (suc (suc zero))))) lt = refl
all_ones (suc (suc (suc (suc (suc (suc zero)))))) lt = refl
all_ones (suc (suc (suc (suc (suc (suc (suc zero))))))) lt = refl
all_ones (suc (suc (suc (suc (suc (suc (suc (suc n)))))))) lt = absurd (omega arith)

each_one : (count : ℕ) → All (λ (bit : ℕ). bit ≡ 1) (replicate count 1)
each_one zero i d lt = absurd (omega arith)
each_one (suc count) zero d lt = refl
each_one (suc count) (suc i) d lt = each_one count i d (omega arith)

-- bits that are read as a text
record AreRead (held code : ℕ) (bits text : List ℕ) : Type 0 where
  pub octets : All (λ octet. octet < 256) text
  pub padding : List ℕ
  pub few : length padding < 8
  pub ones : All (λ bit. bit ≡ 1) padding
  pub bits_are : number_bits held code ++ bits ≡ flat_map code_of text ++ padding

no_octet : All (λ (octet : ℕ). octet < 256) []
no_octet i d lt = absurd (omega arith)

empty_is : (b : Bool) (text : List ℕ) → cond b (Some []) None ≡ Some text → (b ≡ true) × ([] ≡ text)
empty_is true text e = (refl, cc)
empty_is false text e = absurd cc

at_end : (held code : ℕ) → held < 8 → code + 1 ≡ 2 ^ held → AreRead held code [] []
at_end held code few ones =
    let last : code ≡ 2 ^ held - 1 = omega (arith, ones) in
    let same : number_bits held code ≡ replicate held 1 = ap (number_bits held) last ∙ all_ones held few in
    record {
      octets = no_octet;
      padding = number_bits held code;
      few = omega (arith, length-low held code);
      ones = subst (λ (bits : List ℕ). All (λ bit. bit ≡ 1) bits) (sym same) (each_one held);
      bits_are = append-nil (number_bits held code);
    }

one_more : (held code bit : ℕ) (bits text : List ℕ) → bit < 2 → AreRead (suc held) (2 * code + bit) bits text → AreRead held code (bit ∷ bits) text
one_more held code bit bits text small read = record {
  octets = read.octets;
  padding = read.padding;
  few = read.few;
  ones = read.ones;
  bits_are = sym (append_assoc (number_bits held code) (bit ∷ []) bits) ∙ ap (λ (x : List ℕ). x ++ bits) (sym (with_bit held code bit small)) ∙ read.bits_are;
}

one_symbol : (held code bit symbol : ℕ) (bits text : List ℕ) → bit < 2 → symbol < 256 → symbol_of (suc held) (2 * code + bit) ≡ Some symbol → AreRead 0 0 bits text → AreRead held code (bit ∷ bits) (symbol ∷ text)
one_symbol held code bit symbol bits text small below found read = record {
  octets = All-cons (λ octet. octet < 256) symbol text below read.octets;
  padding = read.padding;
  few = read.few;
  ones = read.ones;
  bits_are = sym (append_assoc (number_bits held code) (bit ∷ []) bits) ∙ ap (λ (x : List ℕ). x ++ bits) (sym (with_bit held code bit small) ∙ code_back (suc held) (2 * code + bit) symbol found)
      ∙ ap (λ (x : List ℕ). code_of symbol ++ x) read.bits_are ∙ sym (append_assoc (code_of symbol) (flat_map code_of text) read.padding);
}

symbol_small : (bits code symbol : ℕ) → symbol_of bits code ≡ Some symbol → symbol ≤ 256
unfolding in_table
symbol_small bits code symbol e =
    let le = not_past bits code symbol e in
    rw (in_table_is bits code le ∙ e) at (row_small (get_or ROWS bits empty_row) code)

rest_is : (b : Bool) (symbol : ℕ) (next : Option (List ℕ)) (text : List ℕ) → cond b None (after (symbol ∷ []) next) ≡ Some text → (b ≡ false) × ((others : List ℕ) × (next ≡ Some others) × (symbol ∷ others ≡ text))
rest_is true symbol next text e = absurd cc
rest_is false symbol None text e = absurd cc
rest_is false symbol (Some others) text e = (refl, (others, refl, cc))

codes_by : (found : Option ℕ) (bits : List ℕ) (held code bit : ℕ) (text : List ℕ) → bit < 2 → symbol_of (suc held) (2 * code + bit) ≡ found
    → ((text : List ℕ) → text_from (suc held) (2 * code + bit) bits ≡ Some text → AreRead (suc held) (2 * code + bit) bits text)
    → ((text : List ℕ) → text_from 0 0 bits ≡ Some text → AreRead 0 0 bits text)
    → with_symbol found (text_from (suc held) (2 * code + bit) bits) (text_from 0 0 bits) ≡ Some text → AreRead held code (bit ∷ bits) text
codes_by None bits held code bit text small found going next e = one_more held code bit bits text small (going text e)
codes_by (Some symbol) bits held code bit text small found going next e =
    let rest = rest_is (symbol == 256) symbol (text_from 0 0 bits) text e in
    let other : symbol ≢ 256 = eqb-false symbol 256 rest.0 in
    let known = symbol_small (suc held) (2 * code + bit) symbol found in
    let below : symbol < 256 = omega (arith, known, other) in
    subst (λ (t : List ℕ). AreRead held code (bit ∷ bits) t) rest.1.2 (one_symbol held code bit symbol bits rest.1.0 small below found (next rest.1.0 rest.1.1))

codes_from : (bits : List ℕ) (held code : ℕ) (text : List ℕ) → AllBelowBase 2 bits → text_from held code bits ≡ Some text → AreRead held code bits text
unfolding text_from
codes_from [] held code text small e =
    let given = empty_is (nat_lt held 8 && (code + 1 == 2 ^ held)) text e in
    let parts = and_parts (nat_lt held 8) (code + 1 == 2 ^ held) given.0 in
    subst (λ (t : List ℕ). AreRead held code [] t) given.1 (at_end held code (ltb-true held 8 parts.0) (eqb-true (code + 1) (2 ^ held) parts.1))
codes_from (bit ∷ bits) held code text small e =
    codes_by (symbol_of (suc held) (2 * code + bit)) bits held code bit text small.0 refl
    (λ text e. codes_from bits (suc held) (2 * code + bit) text small.1 e)
    (λ text e. codes_from bits 0 0 text small.1 e)
    e

bits_small : (bytes : List ℕ) → AllBelowBase 2 (bits bytes)
unfolding bits
bits_small [] = tt
bits_small (byte ∷ bytes) = below-append (number_bits 8 byte) (bits bytes) (below-low 8 byte) (bits_small bytes)

to_codes : (text bytes : List ℕ) → huffman_text bytes ≡ Some text → IsHuffmanOf text bytes
to_codes text bytes e =
    let read = codes_from (bits bytes) 0 0 text (bits_small bytes) e in
    record { octets = read.octets; padding = read.padding; few = read.few; ones = read.ones; bits_are = read.bits_are }

pub one_text : OneText
one_text text bytes = (to_codes text bytes, from_codes text bytes)
