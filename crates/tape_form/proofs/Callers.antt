-- What is known of the controllers' lanes, as the code looks for it.
use Rattle.std.proofs.Common.{◌≡◌, ℕ, zero, suc, ◌<◌, min, slice_index, slice_index_or, replicate, Bool, true, false, eqb, List, ◌∷◌, length, Err, refl, ap, subst, ◌∙◌, arith}
use Rattle.std.proofs.lemmas.Bool.{ne_eqb}
use Rattle.run_spec.specs.TapeReading.{some_called}
use Rattle.run_spec.proofs.TapeItems.{called_among}
use Rattle.tape_spec.specs.Items.{ItemLanes, no_item_lanes}
use Rattle.tape_spec.specs.Reading.{some_lane, item_at}
use Rattle.tape_spec.proofs.LaneReaders.{among}
use Rattle.tape_form.specs.declared.lanes.SeenLanes.{SeenLanes}
use Rattle.tape_form.specs.Calls.{lanes_of, AreAlike}

-- one that has made a call
pub some_has : (seen : SeenLanes) (i : ℕ) → i < 32 → 0 < slice_index seen.calls i → some_called 32 (lanes_of seen).lanes ≡ true
some_has seen i lt some = called_among (lanes_of seen).lanes i (record { of_controller = lt; has_made = omega (arith, some) })

-- none of so many lanes, which are all
pub none_has : (seen : SeenLanes) (i : ℕ) → some_called i (lanes_of seen).lanes ≡ false → i ≡ 32 → some_called 32 (lanes_of seen).lanes ≡ false
none_has seen i none all = subst (λ (n : ℕ). some_called n (lanes_of seen).lanes ≡ false) all none

-- one of these lanes
pub some_is : (these : ℕ → Bool) (lane : ℕ) → lane < 32 → these lane ≡ true → some_lane 32 these ≡ true
some_is these lane lt e = among these lane (record { of_controller = lt; taken = e })

-- none of so many lanes, which are all
pub none_is : (these : ℕ → Bool) (i : ℕ) → some_lane i these ≡ false → i ≡ 32 → some_lane 32 these ≡ false
none_is these i none all = subst (λ (n : ℕ). some_lane n these ≡ false) all none

zeros : (n lane : ℕ) → slice_index (replicate n 0) lane ≡ 0
zeros zero lane = refl
zeros (suc n) zero = refl
zeros (suc n) (suc lane) = zeros n lane

falses : (n lane : ℕ) → slice_index_or (replicate n false) lane false ≡ false
falses zero lane = refl
falses (suc n) zero = refl
falses (suc n) (suc lane) = falses n lane

-- where nothing is noted, nothing is known
pub none_noted : (seen : SeenLanes) → seen.calls ≡ replicate 32 0 → seen.asks ≡ replicate 32 false → seen.brings ≡ replicate 32 false → seen.has_left ≡ replicate 32 false → AreAlike (lanes_of seen) no_item_lanes
none_noted seen calls asks brings has_left lane lt = record {
  calls = ap (λ (w : List ℕ). min (slice_index w lane) 4294967295) calls ∙ ap (λ (n : ℕ). min n 4294967295) (zeros 32 lane);
  has_left = ap (λ (w : List Bool). slice_index_or w lane false) has_left ∙ falses 32 lane;
  asks = ap (λ (w : List Bool). slice_index_or w lane false) asks ∙ falses 32 lane;
  brings = ap (λ (w : List Bool). slice_index_or w lane false) brings ∙ falses 32 lane;
}

-- a kind that no item has
pub past_kind : (lanes : ItemLanes) (kind : ℕ) (bytes : List ℕ) → 5 < kind → item_at lanes (kind ∷ bytes) ≡ Err (suc (length bytes))
unfolding item_at
past_kind lanes kind bytes gt =
    let n0 : eqb kind 0 ≡ false = ne_eqb kind 0 (λ e. omega arith) in
    let n1 : eqb kind 1 ≡ false = ne_eqb kind 1 (λ e. omega arith) in
    let n2 : eqb kind 2 ≡ false = ne_eqb kind 2 (λ e. omega arith) in
    let n3 : eqb kind 3 ≡ false = ne_eqb kind 3 (λ e. omega arith) in
    let n4 : eqb kind 4 ≡ false = ne_eqb kind 4 (λ e. omega arith) in
    let n5 : eqb kind 5 ≡ false = ne_eqb kind 5 (λ e. omega arith) in
    rw (n0, n1, n2, n3, n4, n5) refl
