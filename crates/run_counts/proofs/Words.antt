-- What the packets of a run have counted fits words of 64 bits.
use Rattle.std.proofs.Common.{◌≡◌, ℕ, ◌+◌, ◌*◌, ◌^◌, ◌%◌, ◌<◌, ◌≤◌, List, [], ◌∷◌, ◌++◌, length, fold, ap, ◌∙◌, arith}
use Rattle.std.specs.List.{AllByRecursion, count_by}
use Rattle.std.proofs.Math.Nat.{mul-le-mul, mod-eq_of_lt}
use Rattle.std.proofs.lemmas.List.Sums.{fold-append, count_by-le-length}
use Rattle.run_counts.specs.Totals.{FiguresAdd, CountsAreExact, IsWithin, AreWithin, in_words}
use Rattle.switch_spec.specs.CountLaws.{figures_of}
use Rattle.switch_spec.specs.Counts.{Figures, Carried, no_figures, counted, is_of_slot}

pairs : (x y : ℕ × ℕ) → x.0 ≡ y.0 → x.1 ≡ y.1 → x ≡ y
pairs x y first second = ap (λ n. (n, x.1)) first ∙ ap (λ n. (y.0, n)) second

-- ---- Figures from others on

pub packets_more : (slot : ℕ) (records : List Carried) (g : Figures) → (fold counted g records slot).0 ≡ (g slot).0 + (figures_of records slot).0
packets_more slot [] g = omega arith
packets_more slot (first ∷ records) g = omega (arith, packets_more slot records (counted g first), packets_more slot records (counted no_figures first))

pub bytes_more : (slot : ℕ) (records : List Carried) (g : Figures) → (fold counted g records slot).1 ≡ (g slot).1 + (figures_of records slot).1
bytes_more slot [] g = omega arith
bytes_more slot (first ∷ records) g = omega (arith, bytes_more slot records (counted g first), bytes_more slot records (counted no_figures first))

pub figures_add : FiguresAdd
figures_add xs ys slot =
    let all = ap (λ (g : Figures). g slot) (fold-append counted no_figures xs ys) in
    all ∙ pairs _ _ (packets_more slot ys (figures_of xs)) (bytes_more slot ys (figures_of xs))

-- ---- How large they are

packets_most : (slot : ℕ) (records : List Carried) (g : Figures) → AllByRecursion IsWithin records → (fold counted g records slot).0 ≤ (g slot).0 + length records * 274560
packets_most slot [] g h = omega arith
packets_most slot (first ∷ records) g h = omega (arith, packets_most slot records (counted g first) h.1, count_by-le-length (is_of_slot slot) first.outcome.hits, h.0.0)

-- the bytes of one packet's hits: 274,560 times 9,216
bytes_of_one : (slot : ℕ) (first : Carried) → IsWithin first → count_by (is_of_slot slot) first.outcome.hits * length first.arrival.1 ≤ 2530344960
bytes_of_one slot first h =
    let hits : count_by (is_of_slot slot) first.outcome.hits ≤ 274560 = omega (arith, count_by-le-length (is_of_slot slot) first.outcome.hits, h.0) in
    let product : count_by (is_of_slot slot) first.outcome.hits * length first.arrival.1 ≤ 274560 * 9216 = mul-le-mul hits h.1 in
    product

bytes_most : (slot : ℕ) (records : List Carried) (g : Figures) → AllByRecursion IsWithin records → (fold counted g records slot).1 ≤ (g slot).1 + length records * 2530344960
bytes_most slot [] g h = omega arith
bytes_most slot (first ∷ records) g h = omega (arith, bytes_most slot records (counted g first) h.1, bytes_of_one slot first h.0)

pub counts_are_exact : CountsAreExact
counts_are_exact records slot within = (
  omega (arith, packets_most slot records no_figures within.each, within.number),
  omega (arith, bytes_most slot records no_figures within.each, within.number),
)

-- so words of 64 bits hold them
pub words_are_exact : (records : List Carried) (slot : ℕ) → AreWithin records → in_words (figures_of records) slot ≡ figures_of records slot
words_are_exact records slot within =
    let fits = counts_are_exact records slot within in
    pairs _ _ (mod-eq_of_lt fits.0) (mod-eq_of_lt fits.1)
