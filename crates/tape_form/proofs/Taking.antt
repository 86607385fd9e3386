-- Taking bytes from a source, piece by piece.
use Rattle.std.proofs.Common.{◌≡◌, ℕ, suc, ◌+◌, ◌≤◌, List, ◌++◌, length, take, Option, sym, subst, ap, ◌∙◌, arith}
use Rattle.std.proofs.lemmas.List.{take-append-le, length-append, length-take}
use Rattle.sw_edge.specs.Told.{Consumes}
use Rattle.sw_edge.proofs.ToldLaws.{Consumes-trans}
use Rattle.tape_form.specs.declared.limits.TheConstants.{MAX_TAPE}
use Rattle.tape_form.specs.TapeRead.{IsTakenFrom}

-- some more bytes, from the front of a buffer
pub taken_more : (a b c : Option (List ℕ)) (bytes buf rest items : List ℕ) (count : ℕ) → Consumes a b bytes → Consumes b c (take count buf) → count ≤ length buf → length bytes + length buf ≤ suc MAX_TAPE
    → items ≡ bytes ++ take count (buf ++ rest) → IsTakenFrom a c items
taken_more a b c bytes buf rest items count before now fits room e =
    let same : items ≡ bytes ++ take count buf = e ∙ ap (λ (w : List ℕ). bytes ++ w) (take-append-le count buf rest fits) in
    record {
      consumed = subst (Consumes a c) (sym same) (Consumes-trans a b c bytes (take count buf) before now);
      size = omega (arith, ap length same, length-append bytes (take count buf), length-take count buf);
    }
