-- What tries of the system's calls come to, one after the other.
use Rattle.std.proofs.Common.{◌≡◌, ℕ, suc, ◌+◌, ◌<◌, List, drop, Result, Ok, Err, refl, sym, subst, arith}
use Rattle.std.specs.declared.io.Error.{Error}
use Rattle.real_net.specs.declared.attempts.Trouble.TheVariants as trouble
use Rattle.real_net.specs.Attempts.{judged, CutShort, IsTriedBy}
use Rattle.real_net.specs.Links.{Waited, IsWrittenBy, Took}

-- one more try that a signal cut short
pub cut_more : {S A : Type 0} (answers : S → Result A Error → S → Type 0) (i : ℕ) (a b c : S) (answer : Result A Error)
    → CutShort answers i a b → answers b answer c → judged answer ≡ Err trouble.CutShort → CutShort answers (i + 1) a c
cut_more {S} {A} answers i a b c answer before step short =
    let P : ℕ → Type 0 = λ n. CutShort answers n a c in
    let next : i + 1 ≡ suc i = omega arith in
    subst P (sym next) (b, answer, before, step, short)

-- one more write that waited in vain
pub waited_more : {S : Type 0} (writes : S → Result ℕ Error → S → Type 0) (most i : ℕ) (a b c : S) → Waited writes most i a b → IsTriedBy writes most b c (Err trouble.TimedOut) → Waited writes most (i + 1) a c
waited_more {S} writes most i a b c before step =
    let P : ℕ → Type 0 = λ n. Waited writes most n a c in
    let next : i + 1 ≡ suc i = omega arith in
    subst P (sym next) (b, before, step)

-- one more write that took some bytes
pub took_more : {S : Type 0} (writes : List ℕ → S → Result ℕ Error → S → Type 0) (most patience : ℕ) (bytes : List ℕ) (i done took : ℕ) (a b c : S)
    → Took writes most patience bytes i done a b → IsWrittenBy (writes (drop done bytes)) most patience b c (Ok took) → 0 < took → Took writes most patience bytes (i + 1) (done + took) a c
took_more {S} writes most patience bytes i done took a b c before step some =
    let P : ℕ → Type 0 = λ n. Took writes most patience bytes n (done + took) a c in
    let next : i + 1 ≡ suc i = omega arith in
    subst P (sym next) (b, done, took, before, step, some, refl)
