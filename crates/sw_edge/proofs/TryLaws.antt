-- What tries of the system's calls come to, one after the other.
use Rattle.std.proofs.Common.{◌≡◌, ℕ, suc, ◌+◌, None, Some, Result, refl, sym, subst, arith}
use Rattle.std.specs.declared.io.Error.{Error}
use Rattle.sw_edge.specs.Real.{ReadTells, WriteTakes, CutShort, Took}

-- one more try that a signal cut short
pub cut_more : {S : Type 0} (answers : S → Result ℕ Error → S → Type 0) (i : ℕ) (a b c : S) (answer : Result ℕ Error) → CutShort answers i a b → answers b answer c → ReadTells answer None → CutShort answers (i + 1) a c
cut_more {S} answers i a b c answer before step short =
    let P : ℕ → Type 0 = λ n. CutShort answers n a c in
    let next : i + 1 ≡ suc i = omega arith in
    subst P (sym next) (b, answer, before, step, short)

-- one more try, which took some bytes or was cut short
pub took_more : {S : Type 0} (answers : S → Result ℕ Error → S → Type 0) (i done took : ℕ) (a b c : S) (answer : Result ℕ Error) → Took answers i done a b → answers b answer c → WriteTakes answer (Some took) → Took answers (i + 1) (done + took) a c
took_more {S} answers i done took a b c answer before step takes =
    let P : ℕ → Type 0 = λ n. Took answers n (done + took) a c in
    let next : i + 1 ≡ suc i = omega arith in
    subst P (sym next) (b, done, took, answer, before, step, takes, refl)
