-- Bits that are read one after another from the front of a number.
use Rattle.std.proofs.Common.{◌≡◌, ℕ, zero, suc, ◌+◌, ◌-◌, ◌*◌, ◌/◌, ◌%◌, ◌^◌, ◌<◌, ◌≤◌, List, ◌++◌, drop, Option, Some, None, refl, sym, ap, ◌∙◌, arith}
use Rattle.std.proofs.lemmas.List.{take-append-drop}
use Rattle.std.proofs.lemmas.Nat.{shr-shr, shr_high}
use Rattle.pkt_bits.specs.Field.{number_bits}
use Rattle.pkt_bits.proofs.Low.{take-low, drop-low, low-cat}
use Rattle.hpack_tables.specs.Code.{symbol_of}
use Rattle.hpack_tables.specs.Strings.{with_symbol, text_from}
use Rattle.hpack_tables.specs.Windows.{text_of, NoSymbol, Begins}
use Rattle.hpack_tables.proofs.RowChecks.{below_shortest}

-- the bits of a number behind another one
pub joined : (high low number behind : ℕ) → behind < 2 ^ low → number_bits (high + low) (number * 2 ^ low + behind) ≡ number_bits high number ++ number_bits low behind
joined high low number behind small =
    let n = number * 2 ^ low + behind in
    let all = number_bits (high + low) n in
    sym (take-append-drop high all)
    ∙ ap (λ front. front ++ drop high all) (take-low high low (high + low) n refl ∙ ap (number_bits high) (shr_high number low behind small))
    ∙ ap (λ back. number_bits high number ++ back) (drop-low high low (high + low) n refl ∙ low-cat low low number behind (omega arith))

-- the first bits are read, with no whole code among them: so many, and the other bits are the low ones of the number
pub record NotYet (count number length left : ℕ) : Type 0 where
  pub parts : length + left ≡ count
  pub same : (rest : List ℕ) → text_of count number rest ≡ text_from length (number / 2 ^ left) (number_bits left number ++ rest)

pub next_code : (number left : ℕ) → 2 * (number / 2 ^ suc left) + number / 2 ^ left % 2 ≡ number / 2 ^ left
next_code number left =
    let halved : number / 2 ^ left / 2 ≡ number / 2 ^ suc left = shr-shr number left 1 ∙ ap (λ k. number / 2 ^ k) (omega arith) in
    omega (arith, halved)

pub reads : (number length left : ℕ) (rest : List ℕ)
    → text_from length (number / 2 ^ suc left) (number_bits (suc left) number ++ rest) ≡ with_symbol (symbol_of (suc length) (number / 2 ^ left)) (text_from (suc length) (number / 2 ^ left) (number_bits left number ++ rest)) (text_from 0 0 (number_bits left number ++ rest))
unfolding text_from
reads number length left rest = rw (next_code number left) refl

pub starts : (count number : ℕ) → number < 2 ^ count → NotYet count number 0 count
starts count number fits =
    let none : number / 2 ^ count ≡ 0 = ap (λ x. x / 2 ^ count) (sym (omega arith)) ∙ shr_high 0 count number fits in
    record { parts = omega arith; same = λ rest. rw none refl }

goes_on_from : (count number length left : ℕ) → symbol_of (suc length) (number / 2 ^ left) ≡ None → NotYet count number length (suc left) → NotYet count number (suc length) left
goes_on_from count number length left none so_far = record {
  parts = omega (arith, so_far.parts);
  same = λ rest. so_far.same rest ∙ reads number length left rest ∙ ap (λ (x : Option ℕ). with_symbol x (text_from (suc length) (number / 2 ^ left) (number_bits left number ++ rest)) (text_from 0 0 (number_bits left number ++ rest))) none;
}

-- the code is longer
pub goes_on : (count number length : ℕ) → length < count → symbol_of (suc length) (number / 2 ^ (count - suc length)) ≡ None → NotYet count number length (count - length) → NotYet count number (suc length) (count - suc length)
goes_on count number length lt none so_far =
    let more : count - length ≡ suc (count - suc length) = omega arith in
    goes_on_from count number length (count - suc length) none (rw more at so_far)

ends_from : (count number length left symbol : ℕ) → symbol_of (suc length) (number / 2 ^ left) ≡ Some symbol → NotYet count number length (suc left) → (rest : List ℕ) → text_of count number rest ≡ with_symbol (Some symbol) None (text_of left number rest)
ends_from count number length left symbol found so_far rest =
    so_far.same rest ∙ reads number length left rest ∙ ap (λ (x : Option ℕ). with_symbol x (text_from (suc length) (number / 2 ^ left) (number_bits left number ++ rest)) (text_from 0 0 (number_bits left number ++ rest))) found

-- the code is whole
pub ends : (count number length symbol : ℕ) → 0 < length → length ≤ count → symbol_of length (number / 2 ^ (count - length)) ≡ Some symbol → symbol ≤ 256 → NotYet count number (length - 1) (count - (length - 1)) → Begins count number symbol length
ends count number zero symbol some within found known so_far = absurd (omega arith)
ends count number (suc length) symbol some within found known so_far =
    let before : suc length - 1 ≡ length = omega arith in
    let more : count - length ≡ suc (count - suc length) = omega arith in
    record { some = omega arith; known = known; whole = within; next = ends_from count number length (count - suc length) symbol found (rw more at (rw before at so_far)) }

-- the code is longer than so many bits
pub is_longer : (count number length next : ℕ) → 0 < length → length ≤ count → next ≡ length → symbol_of length (number / 2 ^ (count - length)) ≡ None → NotYet count number (length - 1) (count - (length - 1)) → NotYet count number next (count - next)
is_longer count number zero next some within e none so_far = absurd (omega arith)
is_longer count number (suc length) next some within e none so_far =
    let before : suc length - 1 ≡ length = omega arith in
    rw e (goes_on count number length (omega arith) none (rw before at so_far))

skips : (count number length : ℕ) → number < 2 ^ count → length ≤ 4 → length ≤ count → NotYet count number length (count - length)
skips count number zero fits short le =
    let whole : count - 0 ≡ count = omega arith in
    rw whole (starts count number fits)
skips count number (suc length) fits short le =
    goes_on count number length (omega arith) (below_shortest (suc length) (number / 2 ^ (count - suc length)) (omega arith)) (skips count number length fits (omega arith) (omega arith))

-- no code has four bits or fewer
pub skipped : (count number length skipped : ℕ) → number < 2 ^ count → skipped ≤ 4 → skipped ≤ count → length ≡ skipped → NotYet count number length (count - length)
skipped count number length short fits le within e = rw e (skips count number short fits le within)

pub holds_none : (count number length : ℕ) → length ≡ count → NotYet count number length (count - length) → NoSymbol count number
holds_none count number length e so_far rest =
    let all : count - length ≡ 0 = omega arith in
    let now : NotYet count number length 0 = rw all at so_far in
    now.same rest ∙ ap (λ (k : ℕ). text_from k (number / 2 ^ 0) rest) e ∙ ap (λ (n : ℕ). text_from count n rest) (omega arith)
