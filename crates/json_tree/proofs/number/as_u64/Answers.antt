use Rattle.std.proofs.Common.{◌≡◌, ◌^◌, ◌&&◌, nat_lt, nat_le, drop, get_or, Bool, true, false, cond, ◌==◌, ℤ, Float, Option, Some, None, option_and_then, refl, sym, ap, ◌∙◌}
use Rattle.std.specs.Float.{binary64, float_is_finite}
use Rattle.fast_float.specs.Text.{Parts, scan, digits_of, nearest, with_sign}
use Rattle.serde_json.specs.Data.{Num, negative, float}
use Rattle.serde_json.specs.Find.{as_u64}
use Rattle.serde_json.specs.Read.{is_integer, float_of, number_of, number_from}
use Rattle.json_tree.proofs.number.as_u64.Goals as goal

by_finite : (b : Bool) (x : Float) → option_and_then as_u64 (cond b (Some (float x)) None) ≡ None
by_finite true x = refl
by_finite false x = refl

no_float : (p : Parts) → option_and_then as_u64 (float_of true p) ≡ None
no_float p = by_finite (float_is_finite (nearest binary64 true p)) (nearest binary64 true p)

by_range : (b : Bool) (z : ℤ) (o : Option Num) → option_and_then as_u64 o ≡ None → option_and_then as_u64 (cond b (Some (negative z)) o) ≡ None
by_range true z o h = refl
by_range false z o h = h

below_zero : (p : Parts) → option_and_then as_u64 (number_from true p) ≡ None
below_zero p = by_range (is_integer p && nat_lt 0 (digits_of p) && nat_le (digits_of p) (2 ^ 63)) (with_sign true (digits_of p)) (float_of true p) (no_float p)

pub returns-then-has_minus : goal.returns-then-has_minus
unfolding number_of
returns-then-has_minus c =
    let s = c.as_bytes-bytes.result.now in
    let signed : (get_or s 0 0 == 45) ≡ true = sym c.if-has_minus.ensures.value in
    let read : number_from true (scan (drop 1 s)) ≡ number_of s = rw signed in
    sym (below_zero (scan (drop 1 s))) ∙ ap (option_and_then as_u64) read ∙ ap (λ t. option_and_then as_u64 (number_of t)) c.as_bytes-bytes.ensures.value

pub returns-else-has_minus : goal.returns-else-has_minus
unfolding number_of
returns-else-has_minus c =
    let s = c.as_bytes-bytes.result.now in
    let unsigned : (get_or s 0 0 == 45) ≡ false = sym c.if-has_minus.ensures.value in
    let read : number_from false (scan s) ≡ number_of s = rw unsigned in
    c.natural.ensures ∙ ap (λ p. option_and_then as_u64 (number_from false p)) c.scan.ensures.parts ∙ ap (option_and_then as_u64) read ∙ ap (λ t. option_and_then as_u64 (number_of t)) c.as_bytes-bytes.ensures.value
