-- Keys, and the first transition that one takes.
use Rattle.std.proofs.Common.{◌≡◌, ℕ, ◌+◌, ◌*◌, ◌/◌, ◌%◌, ◌^◌, ◌<◌, Bool, true, false, cond, List, [], ◌∷◌, length, get_or, take, drop, find, Some, None, sym, ap, ◌∙◌, arith}
use Rattle.std.proofs.lemmas.List.{take_more, drop_more, take-append-drop}
use Rattle.std.proofs.lemmas.List.Folds.{find-append}
use Rattle.std.proofs.lemmas.List.Sums.{fold_more}
use Rattle.std.proofs.lemmas.Nat.{and_mod, and_le_r}
use Rattle.std.proofs.Math.Nat.{mod-eq_of_lt, add-mul-mod_self_right}
use Rattle.std.specs.Int.Bits.{bit_and}
use Rattle.std.specs.Option.{option_or}
use Rattle.bm_expr.specs.Store.{Contents}
use Rattle.bm_pipeline.specs.declared.headers.FieldRef.{FieldRef}
use Rattle.bm_pipeline.specs.Places.{width_of, whole_bytes}
use Rattle.program_spec.specs.Stores.{read, joined}

-- an item that passes behind items that do not
pub find_here : {X : Type 0} (p : X → Bool) (items xs : List X) (k : ℕ) (d : X) → items ≡ xs → find p (take k xs) ≡ None → k < length items → p (get_or items k d) ≡ true
    → Some (get_or items k d) ≡ find p xs
find_here p items xs k d same none lt passes =
    sym (
    ap (find p) (sym same ∙ sym (take-append-drop k items)) ∙ find-append p (take k items) (drop k items)
    ∙ ap (λ o. option_or o (find p (drop k items))) (ap (λ ys. find p (take k ys)) same ∙ none)
    ∙ ap (find p) (drop_more items k d lt) ∙ ap (λ b. cond b (Some (get_or items k d)) (find p (drop (k + 1) items))) passes
    )

-- one item more that does not pass
pub find_past : {X : Type 0} (p : X → Bool) (items xs : List X) (k : ℕ) (d : X) → items ≡ xs → find p (take k xs) ≡ None → k < length items → p (get_or items k d) ≡ false
    → find p (take (k + 1) xs) ≡ None
find_past p items xs k d same none lt fails =
    ap (λ ys. find p (take (k + 1) ys)) (sym same)
    ∙ ap (find p) (take_more items k d lt) ∙ find-append p (take k items) (get_or items k d ∷ [])
    ∙ ap (λ o. option_or o (find p (get_or items k d ∷ []))) (ap (λ ys. find p (take k ys)) same ∙ none)
    ∙ ap (λ b. cond b (Some (get_or items k d)) None) fails

-- a mask of 16 bytes leaves the same of a number as of its lowest 16 bytes
pub masked_low : (whole key mask : ℕ) → key ≡ whole % 2 ^ 128 → mask < 2 ^ 128 → bit_and key mask ≡ bit_and whole mask
masked_low whole key mask key_is lt =
    let fits : bit_and whole mask < 2 ^ 128 = omega (arith, and_le_r whole mask) in
    ap (λ k. bit_and k mask) key_is ∙ ap (bit_and (whole % 2 ^ 128)) (sym (mod-eq_of_lt lt)) ∙ sym (and_mod whole mask 128) ∙ mod-eq_of_lt fits

-- only the lowest 16 bytes count
joined_low : (whole place number : ℕ) → (whole % 2 ^ 128 * place + number) % 2 ^ 128 ≡ (whole * place + number) % 2 ^ 128
joined_low whole place number =
    let high = whole / 2 ^ 128 in
    let low = whole % 2 ^ 128 in
    let parts : whole ≡ high * 2 ^ 128 + low = omega arith in
    let split : whole * place + number ≡ low * place + number + high * place * 2 ^ 128 = ap (λ w. w * place + number) parts ∙ spread high (2 ^ 128) place low number in
    sym (ap (λ x. x % 2 ^ 128) split ∙ add-mul-mod_self_right (low * place + number) (high * place) (2 ^ 128))
  where
    spread : (a m p r n : ℕ) → (a * m + r) * p + n ≡ r * p + n + a * p * m
    spread a m p r n = omega arith

-- one field more of a key
pub joined_more : (store : Contents) (fields : List FieldRef) (k : ℕ) (d : FieldRef) (key width number : ℕ) → k < length fields → key ≡ joined store (take k fields) % 2 ^ 128
    → width ≡ width_of (get_or fields k d) → number ≡ read store (get_or fields k d)
    → (key * 2 ^ (8 * whole_bytes width) + number) % 2 ^ 128 ≡ joined store (take (k + 1) fields) % 2 ^ 128
joined_more store fields k d key width number lt key_is width_is number_is =
    let whole = joined store (take k fields) in
    ap (λ x. (x * 2 ^ (8 * whole_bytes width) + number) % 2 ^ 128) key_is
    ∙ joined_low whole (2 ^ (8 * whole_bytes width)) number
    ∙ ap (λ w. (whole * 2 ^ (8 * whole_bytes w) + number) % 2 ^ 128) width_is
    ∙ ap (λ n. (whole * 2 ^ (8 * whole_bytes (width_of (get_or fields k d))) + n) % 2 ^ 128) number_is
    ∙ sym (ap (λ x. x % 2 ^ 128) (fold_more (λ number field. number * 2 ^ (8 * whole_bytes (width_of field)) + read store field) 0 fields k d lt))
