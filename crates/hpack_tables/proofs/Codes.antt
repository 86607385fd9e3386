-- The code is prefix-free, by computation over its table.
use Rattle.std.proofs.Common.{◌≡◌, ℕ, zero, suc, ◌+◌, ◌-◌, ◌/◌, ◌^◌, ◌<◌, ◌≤◌, ◌==◌, nat_lt, nat_le, Bool, true, false, ◌&&◌, List, ◌++◌, length, take, get_or, slice_index, Option, Some, None, refl, sym, ap, ◌∙◌, arith}
use Rattle.std.proofs.lemmas.Bool.{and_parts, eqb-true, leb-true, ltb-true}
use Rattle.std.proofs.lemmas.Nat.{shr_below}
use Rattle.std.proofs.Math.Seq.{take-append_seam}
use Rattle.std.proofs.lemmas.List.{length-append}
use Rattle.std.proofs.Math.Nat.{mod-eq_of_lt}
use Rattle.std.specs.Int.Digits.{number_from_digits}
use Rattle.pkt_bits.specs.Field.{number_bits}
use Rattle.pkt_bits.proofs.Low.{take-low, number-low, length-low}
use Rattle.hpack_tables.specs.declared.code.TheConstants.{ROWS, SYMBOLS}
use Rattle.hpack_tables.specs.Code.{code_lengths, symbols_from, symbol_of}
use Rattle.hpack_tables.specs.Rows.{symbol_in}
use Rattle.hpack_tables.specs.Strings.{with_symbol, text_from}
use Rattle.hpack_tables.specs.Windows.{text_of, Begins}
use Rattle.hpack_tables.specs.Huffman.{code_number, code_of}
use Rattle.hpack_tables.specs.Laws.{PrefixFree}
use Rattle.hpack_tables.proofs.RowChecks.{empty_row, all_below, all_below_at, row_is, row_symbol}
use Rattle.hpack_tables.proofs.BitSteps.{NotYet, starts, goes_on, ends}

-- the symbol, found in the table
unfoldable pub in_table : ℕ → ℕ → Option ℕ
in_table bits code = symbol_in (get_or ROWS bits empty_row) SYMBOLS code

pub in_table_is : (bits code : ℕ) → bits ≤ 30 → in_table bits code ≡ symbol_of bits code
unfolding in_table
in_table_is bits code le = row_symbol (get_or ROWS bits empty_row) bits code (row_is bits le)

unfoldable pub bits_in : ℕ → ℕ
bits_in symbol = slice_index code_lengths symbol

-- the number of a code, from the first one in the table
unfoldable pub number_in : ℕ → ℕ
number_in symbol = (get_or ROWS (bits_in symbol) empty_row).first_code + length (symbols_from (bits_in symbol) 0 (take symbol code_lengths))

abbrev is : Option ℕ → ℕ → Bool
is None symbol = false
is (Some found) symbol = found == symbol

abbrev is_missing : Option ℕ → Bool
is_missing None = true
is_missing (Some found) = false

is_first : ℕ → ℕ → ℕ → Bool
is_first symbol count number = (nat_lt number (2 ^ count) && (nat_lt 0 count && nat_le count 30)) && (is (in_table count number) symbol && all_below (λ k. is_missing (in_table (suc k) (number / 2 ^ (count - suc k)))) (count - 1))

are_first : all_below (λ symbol. is_first symbol (bits_in symbol) (number_in symbol)) 257 ≡ true
unfolding is_first in_table number_in bits_in code_lengths symbols_from
are_first = refl

found_is : (found : Option ℕ) (symbol : ℕ) → is found symbol ≡ true → found ≡ Some symbol
found_is None symbol e = absurd cc
found_is (Some x) symbol e = ap (λ y. Some y) (eqb-true x symbol e)

missing_is : (found : Option ℕ) → is_missing found ≡ true → found ≡ None
missing_is None e = refl
missing_is (Some x) e = absurd cc

-- these bits are the code of a symbol, and the code of none stands in front of them
pub record IsCode (symbol count number : ℕ) : Type 0 where
  pub fits : number < 2 ^ count
  pub some : 0 < count
  pub short : count ≤ 30
  pub found : symbol_of count number ≡ Some symbol
  pub first : (k : ℕ) → suc k < count → symbol_of (suc k) (number / 2 ^ (count - suc k)) ≡ None

checked : (symbol count number : ℕ) → is_first symbol count number ≡ true → IsCode symbol count number
unfolding is_first
checked symbol count number h =
    let outer = and_parts (nat_lt number (2 ^ count) && (nat_lt 0 count && nat_le count 30)) (is (in_table count number) symbol && all_below (λ k. is_missing (in_table (suc k) (number / 2 ^ (count - suc k)))) (count - 1)) h in
    let sizes = and_parts (nat_lt number (2 ^ count)) (nat_lt 0 count && nat_le count 30) outer.0 in
    let bounds = and_parts (nat_lt 0 count) (nat_le count 30) sizes.1 in
    let finds = and_parts (is (in_table count number) symbol) (all_below (λ k. is_missing (in_table (suc k) (number / 2 ^ (count - suc k)))) (count - 1)) outer.1 in
    let short : count ≤ 30 = leb-true count 30 bounds.1 in
    record {
      fits = ltb-true number (2 ^ count) sizes.0;
      some = ltb-true 0 count bounds.0;
      short = short;
      found = sym (in_table_is count number short) ∙ found_is (in_table count number) symbol finds.0;
      first = λ k lt. sym (in_table_is (suc k) (number / 2 ^ (count - suc k)) (omega arith)) ∙ missing_is (in_table (suc k) (number / 2 ^ (count - suc k))) (all_below_at (λ k. is_missing (in_table (suc k) (number / 2 ^ (count - suc k)))) (count - 1) k finds.1 (omega arith));
    }

pub number_is : (symbol : ℕ) → bits_in symbol ≤ 30 → number_in symbol ≡ code_number symbol
unfolding number_in bits_in
number_is symbol le = ap (λ (n : ℕ). n + length (symbols_from (slice_index code_lengths symbol) 0 (take symbol code_lengths))) (row_is (slice_index code_lengths symbol) le).first_is

pub code_is : (symbol : ℕ) → symbol ≤ 256 → IsCode symbol (slice_index code_lengths symbol) (code_number symbol)
unfolding bits_in
code_is symbol le =
    let made = checked symbol (bits_in symbol) (number_in symbol) (all_below_at (λ symbol. is_first symbol (bits_in symbol) (number_in symbol)) 257 symbol are_first (omega arith)) in
    rw (number_is symbol made.short) at made

not_before : (symbol count number : ℕ) → IsCode symbol count number → (k : ℕ) → k < count → NotYet count number k (count - k)
not_before symbol count number code zero lt =
    let whole : count - 0 ≡ count = omega arith in
    rw whole (starts count number code.fits)
not_before symbol count number code (suc k) lt = goes_on count number k (omega arith) (code.first k lt) (not_before symbol count number code k (omega arith))

begins : (symbol count number : ℕ) → symbol ≤ 256 → IsCode symbol count number → Begins count number symbol count
begins symbol count number known code =
    let none : count - count ≡ 0 = omega arith in
    let all : number / 2 ^ (count - count) ≡ number = ap (λ k. number / 2 ^ k) none ∙ omega arith in
    ends count number count symbol code.some (omega arith) (rw all code.found) known (not_before symbol count number code (count - 1) (omega (arith, code.some)))

-- the bits of a code are read as its symbol
pub code_read : (symbol : ℕ) (rest : List ℕ) → symbol ≤ 256 → text_from 0 0 (code_of symbol ++ rest) ≡ with_symbol (Some symbol) None (text_from 0 0 rest)
code_read symbol rest known =
    let count = slice_index code_lengths symbol in
    let none : count - count ≡ 0 = omega arith in
    (begins symbol count (code_number symbol) known (code_is symbol known)).next rest ∙ ap (λ (k : ℕ). with_symbol (Some symbol) None (text_of k (code_number symbol) rest)) none

-- ---- bits as a number

small_back : (count number : ℕ) → number < 2 ^ count → number_from_digits 2 (number_bits count number) ≡ number
small_back count number fits = number-low 0 count number ∙ omega arith ∙ mod-eq_of_lt fits

same_front : (count low number other : ℕ) (more : List ℕ) → number < 2 ^ (count + low) → other < 2 ^ count → number_bits (count + low) number ≡ number_bits count other ++ more → number / 2 ^ low ≡ other
same_front count low number other more fits small e =
    let front : take count (number_bits count other ++ more) ≡ number_bits count other = ap (λ (k : ℕ). take k (number_bits count other ++ more)) (sym (length-low count other)) ∙ take-append_seam (number_bits count other) more in
    let same : number_bits count (number / 2 ^ low) ≡ number_bits count other = sym (take-low count low (count + low) number refl) ∙ ap (take count) e ∙ front in
    sym (small_back count (number / 2 ^ low) (shr_below number count low fits)) ∙ ap (number_from_digits 2) same ∙ small_back count other small

abbrev nothing : Option ℕ
nothing = None

pub clash : (symbol : ℕ) → nothing ≡ Some symbol → ⊥
clash symbol e = cc

only_symbol : (symbol other count : ℕ) (number : ℕ) → symbol_of count number ≡ Some symbol → symbol_of count number ≡ Some other → symbol ≡ other
only_symbol symbol other count number e f = let both : Some symbol ≡ Some other = sym e ∙ f in cc

no_front : (symbol other count low number second : ℕ) (more : List ℕ) → IsCode symbol (count + low) number → IsCode other count second → number / 2 ^ low ≡ second → symbol ≡ other
no_front symbol other zero low number second more code shorter same = absurd (omega (arith, shorter.some))
no_front symbol other (suc count) zero number second more code shorter same =
    let whole : suc count + 0 ≡ suc count = omega arith in
    let equal : second ≡ number = sym same ∙ omega arith in
    only_symbol symbol other (suc count) number (ap (λ k. symbol_of k number) (sym whole) ∙ code.found) (ap (symbol_of (suc count)) (sym equal) ∙ shorter.found)
no_front symbol other (suc count) (suc low) number second more code shorter same =
    let left : suc count + suc low - suc count ≡ suc low = omega arith in
    let none : symbol_of (suc count) second ≡ None = ap (symbol_of (suc count)) (sym same ∙ ap (λ k. number / 2 ^ k) (sym left)) ∙ code.first count (omega arith) in
    absurd (clash other (sym none ∙ shorter.found))

lengths_add : (bits : List ℕ) (other more : List ℕ) → bits ≡ other ++ more → length bits ≡ length other + length more
lengths_add bits other more e = ap length e ∙ length-append other more

from_parts : (symbol other count number smaller second : ℕ) (more : List ℕ) → IsCode symbol count number → IsCode other smaller second → number_bits count number ≡ number_bits smaller second ++ more → symbol ≡ other
from_parts symbol other count number smaller second more code shorter e =
    let sizes : count ≡ smaller + length more = sym (length-low count number) ∙ lengths_add (number_bits count number) (number_bits smaller second) more e ∙ ap (λ k. k + length more) (length-low smaller second) in
    let now = rw sizes at code in
    no_front symbol other smaller (length more) number second more now shorter (same_front smaller (length more) number second more now.fits shorter.fits (rw sizes at e))

pub prefix_free : PrefixFree
prefix_free symbol other more known also e =
    from_parts symbol other (slice_index code_lengths symbol) (code_number symbol) (slice_index code_lengths other) (code_number other) more (code_is symbol known) (code_is other also) e
