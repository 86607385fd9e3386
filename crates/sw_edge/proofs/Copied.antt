-- A copy from one list into the front of another.
use Rattle.std.proofs.Common.{◌≡◌, ℕ, ◌+◌, List, ◌++◌, length, take, drop, sym, ◌∙◌, ap}
use Rattle.std.proofs.lemmas.List.{take_at, take-append-drop, drop-drop}

-- the front of the buffer is what was taken, and the rest is what is left
pub taken-front : (bytes buf part : List ℕ) (at n : ℕ) → length part ≡ n → part ≡ take n (drop at bytes)
    → drop at bytes ≡ take n (part ++ drop n buf) ++ drop (at + n) bytes
taken-front bytes buf part at n len is =
    sym (take-append-drop n (drop at bytes))
    ∙ ap (λ l. l ++ drop n (drop at bytes)) (sym (take_at part (drop n buf) n len ∙ is))
    ∙ ap (λ l. take n (part ++ drop n buf) ++ l) (drop-drop n at bytes)
