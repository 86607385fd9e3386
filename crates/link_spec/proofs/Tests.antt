-- Chains of tests that all hold or all fail.
use Rattle.std.proofs.Common.{◌≡◌, Bool, true, false, ◌&&◌, ◌||◌}
use Rattle.std.proofs.lemmas.Bool.{and_parts, or_parts, and_from}

-- ---- tests that hold

pub three_hold : (a b c : Bool) → (a && b && c) ≡ true → (a ≡ true) × (b ≡ true) × (c ≡ true)
three_hold a b c h =
    let last = and_parts (a && b) c h in
    let first = and_parts a b last.0 in
    (first.0, first.1, last.1)

pub four_hold : (a b c d : Bool) → (a && b && c && d) ≡ true → (a ≡ true) × (b ≡ true) × (c ≡ true) × (d ≡ true)
four_hold a b c d h =
    let last = and_parts (a && b && c) d h in
    let first = three_hold a b c last.0 in
    (first.0, first.1, first.2, last.1)

pub five_hold : (a b c d e : Bool) → (a && b && c && d && e) ≡ true → (a ≡ true) × (b ≡ true) × (c ≡ true) × (d ≡ true) × (e ≡ true)
five_hold a b c d e h =
    let last = and_parts (a && b && c && d) e h in
    let first = four_hold a b c d last.0 in
    (first.0, first.1, first.2, first.3, last.1)

pub three_from : (a b c : Bool) → a ≡ true → b ≡ true → c ≡ true → (a && b && c) ≡ true
three_from a b c f g h = and_from (a && b) c (and_from a b f g) h

-- ---- tests that fail

pub three_fail : (a b c : Bool) → (a || b || c) ≡ false → (a ≡ false) × (b ≡ false) × (c ≡ false)
three_fail a b c h =
    let last = or_parts (a || b) c h in
    let first = or_parts a b last.0 in
    (first.0, first.1, last.1)

pub four_fail : (a b c d : Bool) → (a || b || c || d) ≡ false → (a ≡ false) × (b ≡ false) × (c ≡ false) × (d ≡ false)
four_fail a b c d h =
    let last = or_parts (a || b || c) d h in
    let first = three_fail a b c last.0 in
    (first.0, first.1, first.2, last.1)

pub five_fail : (a b c d e : Bool) → (a || b || c || d || e) ≡ false → (a ≡ false) × (b ≡ false) × (c ≡ false) × (d ≡ false) × (e ≡ false)
five_fail a b c d e h =
    let last = or_parts (a || b || c || d) e h in
    let first = four_fail a b c d last.0 in
    (first.0, first.1, first.2, first.3, last.1)
