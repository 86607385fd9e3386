-- Runs of a list that are copied within it.
use Rattle.std.proofs.Common.{◌≡◌, ℕ, ◌+◌, ◌-◌, ◌≤◌, List, ◌++◌, length, take, drop, sym, ap, ◌∙◌, arith, append_assoc}
use Rattle.std.proofs.lemmas.List.{drop-take, take-take, take-append-drop, drop-append-le, length-take-le, drop-drop}
use Rattle.std.specs.List.{splice, slice_range}

-- a run that stands before a place is one of what stands before it
range_before : {X : Type 0} (xs : List X) (from to count : ℕ) → from + count ≤ to → slice_range (take to xs) from (from + count) ≡ slice_range xs from (from + count)
range_before xs from to count apart =
    let n = from + count - from in
    let far : to ≡ from + (to - from) = omega arith in
    ap (λ k. take n (drop from (take k xs))) far ∙ ap (take n) (drop-take from (to - from) xs) ∙ take-take n (to - from) (drop from xs) (omega arith)

-- a copy from before the place where the list is cut
pub to_the_right : {X : Type 0} (xs : List X) (from to count : ℕ) → from + count ≤ to
    → take to xs ++ (slice_range (take to xs) from (from + count) ++ drop count (drop to xs)) ≡ splice xs to (to + count) (slice_range xs from (from + count))
to_the_right xs from to count apart =
    ap (λ ys. take to xs ++ (ys ++ drop count (drop to xs))) (range_before xs from to count apart)
    ∙ ap (λ ys. take to xs ++ (slice_range xs from (from + count) ++ ys)) (drop-drop count to xs)

-- a copy from behind it
pub to_the_left : {X : Type 0} (xs : List X) (from to count : ℕ) → to + count ≤ from → from + count ≤ length xs
    → splice (take from xs) to (to + count) (take count (drop from xs)) ++ drop from xs ≡ splice xs to (to + count) (slice_range xs from (from + count))
to_the_left xs from to count apart within =
    let ys = take count (drop from xs) in
    let same : count ≡ from + count - from = omega arith in
    let rest : drop (to + count) (take from xs) ++ drop from xs ≡ drop (to + count) xs =
    sym (drop-append-le (to + count) (take from xs) (drop from xs) (omega (arith, length-take-le from xs (omega arith)))) ∙ ap (drop (to + count)) (take-append-drop from xs) in
    append_assoc (take to (take from xs)) (ys ++ drop (to + count) (take from xs)) (drop from xs)
    ∙ ap (λ zs. zs ++ (ys ++ drop (to + count) (take from xs) ++ drop from xs)) (take-take to from xs (omega arith))
    ∙ ap (λ zs. take to xs ++ zs) (append_assoc ys (drop (to + count) (take from xs)) (drop from xs))
    ∙ ap (λ zs. take to xs ++ (ys ++ zs)) rest
    ∙ ap (λ k. take to xs ++ (take k (drop from xs) ++ drop (to + count) xs)) same
