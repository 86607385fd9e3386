-- A text more.
use Rattle.std.proofs.Common.{◌≡◌, ℕ, suc, ◌+◌, ◌≤◌, List, [], ◌∷◌, ◌++◌, length, take, drop, refl, sym, ap, subst, ◌∙◌, arith, length-append}
use Rattle.std.specs.Str.{IsUtf8}
use Rattle.text_lists.specs.Texts.{texts_in, AreTexts}
use Rattle.std.proofs.lemmas.List.{take-append-le, drop-append-le, take_all, length-drop, length-take}

empty_of : (bytes : List ℕ) → length bytes ≡ 0 → bytes ≡ []
empty_of [] e = refl
empty_of (b ∷ bytes) e = absurd (omega arith)

inside : (n : ℕ) (bytes : List ℕ) → length (take n bytes) ≡ n → n ≤ length bytes
inside n bytes e = omega (arith, length-take n bytes)

-- the texts, with one more
pub texts_more : (lengths bytes text : List ℕ) → AreTexts lengths bytes → texts_in (lengths ++ length text ∷ []) (bytes ++ text) ≡ texts_in lengths bytes ++ text ∷ []
texts_more [] bytes text are = rw (empty_of bytes are, take_all (length text) text (omega arith)) refl
texts_more (n ∷ lengths) bytes text are =
    let le = inside n bytes are.0 in
    rw (take-append-le n bytes text le, drop-append-le n bytes text le, texts_more lengths (drop n bytes) text are.1.1) refl

-- as many as lengths
pub count : (lengths bytes : List ℕ) → length (texts_in lengths bytes) ≡ length lengths
count [] bytes = refl
count (n ∷ lengths) bytes = ap suc (count lengths (drop n bytes))

-- they are texts still
pub are_more : (lengths bytes text : List ℕ) → AreTexts lengths bytes → IsUtf8 text → AreTexts (lengths ++ length text ∷ []) (bytes ++ text)
are_more [] bytes text are utf8 =
    rw (empty_of bytes are, take_all (length text) text (omega arith)) (refl, (utf8, omega (arith, length-drop (length text) text)))
are_more (n ∷ lengths) bytes text are utf8 =
    let le = inside n bytes are.0 in
    rw (take-append-le n bytes text le, drop-append-le n bytes text le) (are.0, (are.1.0, are_more lengths (drop n bytes) text are.1.1 utf8))
