-- A string in the Huffman code, of which some bytes are decoded.
use Rattle.std.proofs.Common.{◌≡◌, ℕ, suc, ◌+◌, ◌*◌, ◌^◌, ◌<◌, ◌≤◌, ◌==◌, ◌&&◌, nat_lt, cond, List, [], ◌∷◌, ◌++◌, length, get_or, drop, Option, Some, None, Ok, Err, refl, sym, ap, ◌∙◌, append_assoc, arith}
use Rattle.std.proofs.lemmas.Bool.{eq-eqb, ne_eqb, le-ltb, lt-ltb}
use Rattle.std.proofs.lemmas.List.{append-nil, drop_more}
use Rattle.std.proofs.lemmas.Nat.{pow-add}
use Rattle.list_types.specs.declared.memory.Refusal.{Refusal}
use Rattle.list_types.specs.declared.memory.Refusal.TheVariants as refusals
use Rattle.list_types.specs.Results.{Gives, found}
use Rattle.canon_bytes.specs.Bits.{bits}
use Rattle.pkt_bits.specs.Field.{number_bits}
use Rattle.hpack_tables.specs.declared.fault.HpackFault.{HpackFault}
use Rattle.hpack_tables.specs.declared.fault.HpackFault.TheVariants.{BadHuffman}
use Rattle.hpack_tables.specs.Strings.{after, text_from}
use Rattle.hpack_tables.specs.Windows.{text_of, NoSymbol, AreDrained, IsRefused}
use Rattle.hpack_tables.proofs.RowChecks.{past_longest}
use Rattle.hpack_tables.proofs.BitSteps.{joined}

-- some bytes are decoded, and these bits of them are left
pub record IsHalf (text : List ℕ) (count number : ℕ) (rest : List ℕ) (whole : Option (List ℕ)) : Type 0 where
  pub so_far : after text (text_of count number (bits rest)) ≡ whole
  pub few : count < 30
  pub fits : number < 2 ^ count
  pub drained : NoSymbol count number

no_octets : (text : Option (List ℕ)) → after [] text ≡ text
no_octets None = refl
no_octets (Some text) = refl

pub starts : (bytes : List ℕ) (text : List ℕ) → text ≡ [] → IsHalf text 0 0 bytes (text_from 0 0 (bits bytes))
starts bytes text e = rw e (record { so_far = no_octets (text_from 0 0 (bits bytes)); few = omega arith; fits = omega arith; drained = λ rest. refl })

-- where 30 bits are no whole code, no text is left
stuck : (bits : List ℕ) (held code : ℕ) → 30 ≤ held → text_from held code bits ≡ None
unfolding text_from
stuck [] held code le = rw (le-ltb held 8 (omega arith)) refl
stuck (bit ∷ bits) held code le = rw (past_longest (suc held) (2 * code + bit) (omega arith)) (stuck bits (suc held) (2 * code + bit) (omega arith))

pub byte_fits : (count number byte : ℕ) → number < 2 ^ count → byte < 256 → number * 256 + byte < 2 ^ (count + 8)
byte_fits count number byte fits small = omega (arith, pow-add 2 count 8)

byte_text : (count number byte : ℕ) (rest : List ℕ) → byte < 256 → text_of (count + 8) (number * 256 + byte) (bits rest) ≡ text_of count number (bits (byte ∷ rest))
unfolding bits
byte_text count number byte rest small =
    ap (λ (x : List ℕ). text_from 0 0 (x ++ bits rest)) (joined count 8 number byte small) ∙ ap (λ (x : List ℕ). text_from 0 0 x) (append_assoc (number_bits count number) (number_bits 8 byte) (bits rest))

next_so_far : (text : List ℕ) (count number byte : ℕ) (rest : List ℕ) (whole : Option (List ℕ)) (next : List ℕ) (next_count next_number : ℕ) → byte < 256 → IsHalf text count number (byte ∷ rest) whole
    → AreDrained text (count + 8) (number * 256 + byte) next next_count next_number → after next (text_of next_count next_number (bits rest)) ≡ whole
next_so_far text count number byte rest whole next next_count next_number small half drained =
    sym (drained.same (bits rest)) ∙ ap (after text) (byte_text count number byte rest small) ∙ half.so_far

-- a byte more is decoded
pub goes_on : (text : List ℕ) (count number byte : ℕ) (left rest : List ℕ) (whole : Option (List ℕ)) (next : List ℕ) (next_count next_number : ℕ) → byte < 256 → left ≡ byte ∷ rest → next_count < 30
    → IsHalf text count number left whole → AreDrained text (count + 8) (number * 256 + byte) next next_count next_number → IsHalf next next_count next_number rest whole
goes_on text count number byte left rest whole next next_count next_number small e few half drained = record {
  so_far = next_so_far text count number byte rest whole next next_count next_number small (rw e at half) drained;
  few = few;
  fits = drained.fits;
  drained = drained.drained;
}

pub is_stuck : (text : List ℕ) (count number byte : ℕ) (left rest : List ℕ) (whole : Option (List ℕ)) (next : List ℕ) (next_count next_number : ℕ) → byte < 256 → left ≡ byte ∷ rest → 30 ≤ next_count
    → IsHalf text count number left whole → AreDrained text (count + 8) (number * 256 + byte) next next_count next_number → found BadHuffman whole ≡ Err BadHuffman
is_stuck text count number byte left rest whole next next_count next_number small e many half drained =
    ap (found BadHuffman) (sym (next_so_far text count number byte rest whole next next_count next_number small (rw e at half) drained)
    ∙ ap (after next) (drained.drained (bits rest) ∙ stuck (bits rest) next_count next_number many))

pub is_refused : (text : List ℕ) (count number byte : ℕ) (left rest : List ℕ) (whole : Option (List ℕ)) (error : Refusal HpackFault) → byte < 256 → left ≡ byte ∷ rest → IsHalf text count number left whole
    → IsRefused text (count + 8) (number * 256 + byte) error → Gives {X = List ℕ} (λ x. x) (Err error) (found BadHuffman whole)
is_refused text count number byte left rest whole refusals.NoMemory small e half refused = tt
is_refused text count number byte left rest whole (refusals.For fault) small e half refused =
    let none : None ≡ whole = sym (refused.1 (bits rest)) ∙ ap (after text) (byte_text count number byte rest small) ∙ (rw e at half).so_far in
    ap (found BadHuffman) (sym none) ∙ ap (λ x. Err x) (sym refused.0)

at_end : (text : List ℕ) (count number : ℕ) (rest : List ℕ) (whole : Option (List ℕ)) → rest ≡ [] → IsHalf text count number rest whole
    → after text (cond (nat_lt count 8 && (number + 1 == 2 ^ count)) (Some []) None) ≡ whole
unfolding text_from bits
at_end text count number rest whole e half =
    let now = rw e at half in
    ap (after text) (sym (now.drained [])) ∙ now.so_far

kept : (text : List ℕ) (count number : ℕ) → count < 8 → number + 1 ≡ 2 ^ count → after text (cond (nat_lt count 8 && (number + 1 == 2 ^ count)) (Some []) None) ≡ Some text
kept text count number few ones = rw (lt-ltb count 8 few, eq-eqb (number + 1) (2 ^ count) ones) (ap (λ x. Some x) (append-nil text))

not_kept_long : (text : List ℕ) (count number : ℕ) → 8 ≤ count → after text (cond (nat_lt count 8 && (number + 1 == 2 ^ count)) (Some []) None) ≡ None
not_kept_long text count number many = rw (le-ltb count 8 many) refl

not_kept : (text : List ℕ) (count number : ℕ) → count < 8 → (number + 1 ≡ 2 ^ count → ⊥) → after text (cond (nat_lt count 8 && (number + 1 == 2 ^ count)) (Some []) None) ≡ None
not_kept text count number few ones = rw (lt-ltb count 8 few, ne_eqb (number + 1) (2 ^ count) ones) refl

-- the bits that are left are padding
pub is_whole : (text : List ℕ) (count number : ℕ) (rest : List ℕ) (whole : Option (List ℕ)) → rest ≡ [] → count < 8 → number + 1 ≡ 2 ^ count → IsHalf text count number rest whole → found BadHuffman whole ≡ Ok text
is_whole text count number rest whole e few ones half =
    ap (found BadHuffman) (sym (at_end text count number rest whole e half) ∙ kept text count number few ones)

-- they are not
pub long_padding : (text : List ℕ) (count number : ℕ) (rest : List ℕ) (whole : Option (List ℕ)) → rest ≡ [] → 8 ≤ count → IsHalf text count number rest whole → found BadHuffman whole ≡ Err BadHuffman
long_padding text count number rest whole e many half = ap (found BadHuffman) (sym (at_end text count number rest whole e half) ∙ not_kept_long text count number many)

pub other_padding : (text : List ℕ) (count number : ℕ) (rest : List ℕ) (whole : Option (List ℕ)) → rest ≡ [] → count < 8 → (number + 1 ≡ 2 ^ count → ⊥) → IsHalf text count number rest whole → found BadHuffman whole ≡ Err BadHuffman
other_padding text count number rest whole e few ones half =
    ap (found BadHuffman) (sym (at_end text count number rest whole e half) ∙ not_kept text count number few ones)

pub front_at : (bytes : List ℕ) (i byte : ℕ) → i < length bytes → byte ≡ get_or bytes i 0 → drop i bytes ≡ byte ∷ drop (i + 1) bytes
front_at bytes i byte lt e = drop_more bytes i 0 lt ∙ ap (λ (b : ℕ). b ∷ drop (i + 1) bytes) (sym e)
