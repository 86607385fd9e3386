-- What growing and counting make of the figures.
use Rattle.std.proofs.Common.{◌≡◌, ℕ, zero, suc, ◌+◌, ◌*◌, ◌<◌, ◌≤◌, Bool, true, false, cond, eqb, List, [], ◌∷◌, ◌++◌, length, get_or, set, take, replicate, Option, Some, None, refl, sym, ◌∙◌, subst, ap, arith}
use Rattle.std.specs.List.{All, count_by}
use Rattle.std.proofs.lemmas.Bool.{eqb-true}
use Rattle.std.proofs.lemmas.Bool.Decides.{nat_tests}
use Rattle.std.proofs.lemmas.List.{take_more}
use Rattle.std.proofs.Math.ListN.{length-set}
use Rattle.std.proofs.Math.Nat.{mul-le-mul_left, mul-le-mul_right}
use Rattle.std.proofs.lemmas.List.Elements.{All-append, All-replicate, All-set, All-weaker, All-take, All-more}
use Rattle.std.proofs.lemmas.List.Sums.{sum_by-append, sum_by-cons}
use Rattle.p4_types.specs.declared.records.HitMark.{HitMark}
use Rattle.p4_types.specs.declared.records.HitMark.TheVariants as marks
use Rattle.switch_spec.specs.Counts.{Figures, is_slot, is_of_slot, figures_after}
use Rattle.slot_totals.specs.declared.figure.Figure.{Figure}
use Rattle.slot_totals.specs.Totals.{pair_of, figures_in, AreUnder, slot_of, IsWithin, more, counted_at}

abbrev nothing : Figure
nothing = record { packets = 0; bytes = 0 }

pairs : (x y : ℕ × ℕ) → x.0 ≡ y.0 → x.1 ≡ y.1 → x ≡ y
pairs x y first second = ap (λ n. (n, x.1)) first ∙ ap (λ n. (y.0, n)) second

pub figure_is : (counts : List Figure) (at : ℕ) → figures_in counts at ≡ pair_of (get_or counts at nothing)
figure_is [] at = refl
figure_is (figure ∷ counts) zero = refl
figure_is (figure ∷ counts) (suc at) = figure_is counts at

-- ---- Growing

blank : (n at : ℕ) → get_or (replicate n nothing) at nothing ≡ nothing
blank zero at = refl
blank (suc n) zero = refl
blank (suc n) (suc at) = blank n at

padded : (n : ℕ) (counts : List Figure) (at : ℕ) → get_or (counts ++ replicate n nothing) at nothing ≡ get_or counts at nothing
padded n [] at = blank n at
padded n (figure ∷ counts) zero = refl
padded n (figure ∷ counts) (suc at) = padded n counts at

pub taken_whole : {X : Type 0} (n : ℕ) (counts : List X) → length counts ≤ n → take n counts ≡ counts
taken_whole zero [] le = refl
taken_whole zero (figure ∷ counts) le = absurd (omega arith)
taken_whole (suc n) [] le = refl
taken_whole (suc n) (figure ∷ counts) le = ap (λ rest. figure ∷ rest) (taken_whole n counts (omega arith))

-- counts with more slots, each of which has counted nothing
pub grown_figures : (n m : ℕ) (old new : List Figure) → new ≡ take n old ++ replicate m nothing → length old ≤ n → (at : ℕ) → figures_in new at ≡ figures_in old at
grown_figures n m old new is le at =
    let all : new ≡ old ++ replicate m nothing = is ∙ ap (λ front. front ++ replicate m nothing) (taken_whole n old le) in
    figure_is new at ∙ ap (λ list. pair_of (get_or list at nothing)) all ∙ ap pair_of (padded m old at) ∙ sym (figure_is old at)

-- counts under bounds are so under higher ones
pub wider : (packets bytes more_packets more_bytes : ℕ) (counts : List Figure) → packets ≤ more_packets → bytes ≤ more_bytes → AreUnder packets bytes counts → AreUnder more_packets more_bytes counts
wider packets bytes more_packets more_bytes counts p q under = record {
  all = All-weaker (λ (f : Figure). (f.packets ≤ packets) × (f.bytes ≤ bytes)) (λ f. (f.packets ≤ more_packets) × (f.bytes ≤ more_bytes)) (λ f h. (omega (arith, h.0), omega (arith, h.1))) counts under.all;
}

pub grown_under : (n m : ℕ) (old new : List Figure) → new ≡ take n old ++ replicate m nothing → (packets bytes : ℕ) → AreUnder packets bytes old → AreUnder packets bytes new
grown_under n m old new is packets bytes under =
    let P : Figure → Type 0 = λ figure. (figure.packets ≤ packets) × (figure.bytes ≤ bytes) in record {
      all = subst (All P) (sym is) (All-append P (take n old) (replicate m nothing) (All-take P n old under.all) (All-replicate P m nothing (omega arith, omega arith)));
    }

within_more : (n m : ℕ) (o : Option ℕ) → n ≤ m → IsWithin n o → IsWithin m o
within_more n m None le h = tt
within_more n m (Some slot) le h = omega (arith, h)

-- a loop's step: the slots of the first hits are within, and that of one more
pub more_within : (n m i : ℕ) (hits : List HitMark) (d : HitMark) (o : Option ℕ) → n ≤ m → i < length hits → o ≡ slot_of (get_or hits i d) → IsWithin m o
    → All (λ hit. IsWithin n (slot_of hit)) (take i hits) → All (λ hit. IsWithin m (slot_of hit)) (take (i + 1) hits)
more_within n m i hits d o le in_range is own old =
    All-more (λ hit. IsWithin m (slot_of hit)) hits i d in_range
    (All-weaker (λ hit. IsWithin n (slot_of hit)) (λ hit. IsWithin m (slot_of hit)) (λ hit h. within_more n m (slot_of hit) le h) (take i hits) old)
    (subst (IsWithin m) is own)

-- ---- Counting

-- one packet more of so many bytes, or none
abbrev pub counted_once : Bool → ℕ → ℕ × ℕ → ℕ × ℕ
counted_once b bytes x = (x.0 + cond b 1 0, x.1 + cond b 1 0 * bytes)

set_same : (counts : List Figure) (slot : ℕ) (v : Figure) → slot < length counts → get_or (set counts slot v) slot nothing ≡ v
set_same [] slot v in_range = absurd (omega arith)
set_same (figure ∷ counts) zero v in_range = refl
set_same (figure ∷ counts) (suc slot) v in_range = set_same counts slot v (omega arith)

set_other : (counts : List Figure) (slot at : ℕ) (v : Figure) → eqb slot at ≡ false → get_or (set counts slot v) at nothing ≡ get_or counts at nothing
set_other [] slot at v differ = refl
set_other (figure ∷ counts) zero zero v differ = let same : eqb 0 0 ≡ true = refl in absurd (cc)
set_other (figure ∷ counts) zero (suc at) v differ = refl
set_other (figure ∷ counts) (suc slot) zero v differ = refl
set_other (figure ∷ counts) (suc slot) (suc at) v differ =
    let other : eqb slot at ≡ false = grind (arith, nat_tests) in set_other counts slot at v other

at_slot : (bytes slot at : ℕ) (counts : List Figure) (b : Bool) → eqb slot at ≡ b → slot < length counts → let figure = get_or counts slot nothing in
    pair_of (get_or (set counts slot (more bytes figure)) at nothing) ≡ counted_once b bytes (pair_of (get_or counts at nothing))
at_slot bytes slot at counts true is in_range =
    let same : slot ≡ at = eqb-true slot at is in
    let now = set_same counts slot (more bytes (get_or counts slot nothing)) in_range in
    let own : pair_of (get_or (set counts slot (more bytes (get_or counts slot nothing))) slot nothing) ≡ counted_once true bytes (pair_of (get_or counts slot nothing)) =
    ap pair_of now ∙ pairs _ _ refl (omega arith) in
    subst (λ n. pair_of (get_or (set counts slot (more bytes (get_or counts slot nothing))) n nothing) ≡ counted_once true bytes (pair_of (get_or counts n nothing))) same own
at_slot bytes slot at counts false is in_range =
    ap pair_of (set_other counts slot at (more bytes (get_or counts slot nothing)) is) ∙ pairs _ _ (omega arith) (omega arith)

pub counted_figure : (bytes : ℕ) (o : Option ℕ) (at : ℕ) (counts : List Figure) → IsWithin (length counts) o
    → figures_in (counted_at bytes o counts) at ≡ counted_once (is_slot at o) bytes (figures_in counts at)
counted_figure bytes None at counts within = pairs _ _ (omega arith) (omega arith)
counted_figure bytes (Some slot) at counts within =
    figure_is (counted_at bytes (Some slot) counts) at ∙ at_slot bytes slot at counts (eqb slot at) refl within ∙ ap (counted_once (eqb slot at) bytes) (sym (figure_is counts at))

slot_is : (at : ℕ) (hit : HitMark) → is_slot at (slot_of hit) ≡ is_of_slot at hit
slot_is at (marks.Entry table seq slot) = refl
slot_is at (marks.Cell slot) = refl

hits_more : (at i : ℕ) (hits : List HitMark) (d : HitMark) → i < length hits
    → count_by (is_of_slot at) (take (i + 1) hits) ≡ count_by (is_of_slot at) (take i hits) + cond (is_of_slot at (get_or hits i d)) 1 0
hits_more at i hits d in_range =
    let test : HitMark → ℕ = λ h. cond (is_of_slot at h) 1 0 in
    let sum = sum_by-append test (take i hits) (get_or hits i d ∷ []) in
    let one = sum_by-cons test (get_or hits i d) [] in
    ap (count_by (is_of_slot at)) (take_more hits i d in_range) ∙ omega arith

-- a loop's step: the figures after the first hits, and after one more
pub figures_more : (g : Figures) (bytes at i : ℕ) (hits : List HitMark) (d : HitMark) (o : Option ℕ) (counts new : List Figure) → i < length hits → o ≡ slot_of (get_or hits i d) → new ≡ counted_at bytes o counts
    → IsWithin (length counts) o → figures_in counts at ≡ figures_after g (take i hits) bytes at → figures_in new at ≡ figures_after g (take (i + 1) hits) bytes at
figures_more g bytes at i hits d o counts new in_range is now within before =
    let hit : HitMark = get_or hits i d in
    let old : ℕ = count_by (is_of_slot at) (take i hits) in
    let one : ℕ = cond (is_of_slot at hit) 1 0 in
    let sum = hits_more at i hits d in_range in
    let product : (old + one) * bytes ≡ old * bytes + one * bytes = omega arith in
    let all : count_by (is_of_slot at) (take (i + 1) hits) * bytes ≡ (old + one) * bytes = ap (λ n. n * bytes) sum in
    ap (λ list. figures_in list at) now
    ∙ counted_figure bytes o at counts within
    ∙ ap (λ b. counted_once b bytes (figures_in counts at)) (ap (is_slot at) is ∙ slot_is at hit)
    ∙ ap (counted_once (is_of_slot at hit) bytes) before
    ∙ pairs _ _ (omega arith) (omega arith)

one_more_under : (packets bytes more_bytes : ℕ) (o : Option ℕ) (counts : List Figure) → IsWithin (length counts) o → AreUnder packets bytes counts → AreUnder (packets + 1) (bytes + more_bytes) (counted_at more_bytes o counts)
one_more_under packets bytes more_bytes None counts within under = wider packets bytes (packets + 1) (bytes + more_bytes) counts (omega arith) (omega arith) under
one_more_under packets bytes more_bytes (Some slot) counts within under =
    let old = under.all slot nothing within in
    let others = wider packets bytes (packets + 1) (bytes + more_bytes) counts (omega arith) (omega arith) under in record {
      all = All-set (λ (f : Figure). (f.packets ≤ packets + 1) × (f.bytes ≤ bytes + more_bytes)) counts slot (more more_bytes (get_or counts slot nothing))
          (omega (arith, old.0), omega (arith, old.1)) others.all;
    }

-- a loop's step: the bounds after so many hits, and after one more
pub under_more : (most longest bytes i : ℕ) (o : Option ℕ) (counts new : List Figure) → new ≡ counted_at bytes o counts → IsWithin (length counts) o → AreUnder (most + i) (longest + i * bytes) counts
    → AreUnder (most + (i + 1)) (longest + (i + 1) * bytes) new
under_more most longest bytes i o counts new now within under =
    let packets : (most + i) + 1 ≡ most + (i + 1) = omega arith in
    let all : (longest + i * bytes) + bytes ≡ longest + (i + 1) * bytes = omega arith in
    let counted = one_more_under (most + i) (longest + i * bytes) bytes o counts within under in
    subst (AreUnder (most + (i + 1)) (longest + (i + 1) * bytes)) (sym now)
    (subst (λ n. AreUnder (most + (i + 1)) n (counted_at bytes o counts)) all (subst (λ n. AreUnder n ((longest + i * bytes) + bytes) (counted_at bytes o counts)) packets counted))

pub counted_length : (bytes : ℕ) (o : Option ℕ) (counts : List Figure) → length (counted_at bytes o counts) ≡ length counts
counted_length bytes None counts = refl
counted_length bytes (Some slot) counts = length-set counts slot (more bytes (get_or counts slot nothing))

-- the slot of one of the hits is within
pub within_at : (n m i : ℕ) (hits : List HitMark) (d : HitMark) (o : Option ℕ) → n ≡ m → i < length hits → o ≡ slot_of (get_or hits i d) → All (λ hit. IsWithin n (slot_of hit)) hits → IsWithin m o
within_at n m i hits d o same in_range is all =
    let own : IsWithin n (slot_of (get_or hits i d)) = all i d in_range in
    subst (λ k. IsWithin k o) same (subst (IsWithin n) (sym is) own)

-- so many packets have so many bytes at most
pub few_bytes : (i n bytes : ℕ) → i ≤ n → bytes ≤ 9216 → i * bytes ≤ n * 9216
few_bytes i n bytes le short = omega (arith, mul-le-mul_left i short, mul-le-mul_right 9216 le)
