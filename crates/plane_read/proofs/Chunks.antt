-- Entities are cut into messages from the front.
use Rattle.std.proofs.Common.{◌≡◌, ℕ, ◌+◌, ◌≤◌, ◌<◌, zero, suc, Bool, List, [], ◌∷◌, ◌++◌, length, take, drop, map, nat_le, true, false, refl, ap, ◌∙◌, sym, arith, append_assoc, length-append, length-drop}
use Rattle.std.proofs.lemmas.Bool.Decides.{nat_tests}
use Rattle.std.proofs.lemmas.List.{append-nil}
use Rattle.std.proofs.Math.Seq.{take-append_seam, drop-append_seam}
use Rattle.p4_types.specs.declared.messages.Entity.{Entity}
use Rattle.switch_spec.specs.Reading.{chunks, chunks_in, response_bytes}
use Rattle.plane_read.specs.Answered.{messages_of, HasRoom}

-- what fits is one message
fits : (steps : ℕ) (list : List Entity) → length list ≤ 1024 → chunks_in steps list ≡ list ∷ []
fits zero list h = refl
fits (suc steps) list h = let e : nat_le (length list) 1024 ≡ true = grind (arith, nat_tests) in rw e

-- what does not is a full message, and others
cut : (steps : ℕ) (list : List Entity) → 1024 < length list → chunks_in (suc steps) list ≡ take 1024 list ∷ chunks_in steps (drop 1024 list)
cut steps list h = let e : nat_le (length list) 1024 ≡ false = grind (arith, nat_tests) in rw e

same_in : (b : Bool) (m n : ℕ) (list : List Entity) → nat_le (length list) 1024 ≡ b → (1024 < length list → chunks_in m (drop 1024 list) ≡ chunks_in n (drop 1024 list)) → chunks_in (suc m) list ≡ chunks_in (suc n) list
same_in true m n list e others = rw e
same_in false m n list e others = let h : 1024 < length list = grind (arith, nat_tests) in cut m list h ∙ ap (λ x. take 1024 list ∷ x) (others h) ∙ sym (cut n list h)

-- the number of steps is of no account where there are enough
same : (m n : ℕ) (list : List Entity) → length list ≤ m → length list ≤ n → chunks_in m list ≡ chunks_in n list
same zero n list h k = sym (fits n list (omega arith))
same (suc m) zero list h k = fits (suc m) list (omega arith)
same (suc m) (suc n) list h k =
    same_in (nat_le (length list) 1024) m n list refl (λ g. same m n (drop 1024 list) (omega (arith, length-drop 1024 list)) (omega (arith, length-drop 1024 list)))

front : (n : ℕ) (xs ys : List Entity) → length xs ≡ n → take n (xs ++ ys) ≡ xs
front n xs ys e = rw (← e) (take-append_seam xs ys)

back : (n : ℕ) (xs ys : List Entity) → length xs ≡ n → drop n (xs ++ ys) ≡ ys
back n xs ys e = rw (← e) (drop-append_seam xs ys)

-- a full message before others
full_first : (full : List Entity) (entity : Entity) (others : List Entity) → length full ≡ 1024 → chunks (full ++ entity ∷ others) ≡ full ∷ chunks (entity ∷ others)
unfolding chunks
full_first full entity others e =
    let rest : List Entity = entity ∷ others in
    let count : length (full ++ rest) ≡ suc (1024 + length others) = omega (arith, length-append full rest) in
    let more : 1024 < length (full ++ rest) = omega (arith, count) in
    let steps : chunks_in (length (full ++ rest)) (full ++ rest) ≡ chunks_in (suc (1024 + length others)) (full ++ rest) = ap (λ k. chunks_in k (full ++ rest)) count in
    let left : chunks_in (1024 + length others) (drop 1024 (full ++ rest)) ≡ chunks_in (1024 + length others) rest = ap (chunks_in (1024 + length others)) (back 1024 full rest e) in
    let enough : chunks_in (1024 + length others) rest ≡ chunks_in (length rest) rest = same (1024 + length others) (length rest) rest (omega arith) (omega arith) in
    let head : take 1024 (full ++ rest) ≡ full = front 1024 full rest e in
    steps ∙ cut (1024 + length others) (full ++ rest) more ∙ ap (λ x. x ∷ chunks_in (1024 + length others) (drop 1024 (full ++ rest))) head ∙ ap (λ x. full ∷ x) (left ∙ enough)

-- the last message
last : (gathered : List Entity) → length gathered ≤ 1024 → chunks (gathered ++ []) ≡ gathered ∷ []
unfolding chunks
last gathered h = ap (λ list. chunks_in (length list) list) (append-nil gathered) ∙ fits (length gathered) gathered h

-- once a full message is written, the messages stay the same
pub emptied : (written : List (List ℕ)) (gathered : List Entity) → length gathered ≡ 1024 → HasRoom written gathered (written ++ response_bytes gathered ∷ []) []
emptied written gathered e entity others =
    rw append_assoc (ap (λ list. written ++ map response_bytes list) (sym (full_first gathered entity others e)))

-- an entity that is gathered was to come before
pub gathers : (written : List (List ℕ)) (gathered : List Entity) (entity : Entity) (others : List Entity) → messages_of written (gathered ++ entity ∷ []) others ≡ messages_of written gathered (entity ∷ others)
gathers written gathered entity others = simp append_assoc

-- the messages once the last is written
pub ends : (written : List (List ℕ)) (gathered : List Entity) → length gathered ≤ 1024 → messages_of written gathered [] ≡ written ++ response_bytes gathered ∷ []
ends written gathered h = ap (λ list. written ++ map response_bytes list) (last gathered h)
