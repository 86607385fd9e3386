-- Which option a word names, and what a word is that spells a number.
use Rattle.std.proofs.Common.{◌≡◌, ◌<◌, ◌^◌, ◌-◌, ◌&&◌, ◌==◌, ℕ, Bool, cond, true, false, refl, sym, ap, subst, [], ◌∷◌, Option, Some, None, codes, nat_lt, arith}
use Rattle.std.specs.Fmt.{decimal}
use Rattle.std.specs.Option.{option_map, is_some}
use Rattle.std.specs.Str.{bytes_eq}
use Rattle.std.specs.Str.Parse.{IsNumeral, digits_value}
use Rattle.std.specs.Char.{digit_value}
use Rattle.std.proofs.lemmas.Bool.Decides.{nat_tests}
use Rattle.std.proofs.lemmas.Fmt.{decimal_is_IsNumeral}
use Rattle.std.proofs.lemmas.Slice.Eq.{bytes_eq-Decides}
use Rattle.clap.specs.Lexer.{long_of, short_of}
use Rattle.clap.specs.Walk.{Text}
use Rattle.command_words.specs.declared.words.Given.{Given}
use Rattle.command_words.specs.declared.words.Given.TheVariants as given
use Rattle.command_words.specs.Words.{flag_named, in_range, number_named, number_of}
use Rattle.command_words.proofs.Rows.{some≢none}

pub same_some : {X : Type 0} (x y : X) → Some x ≡ Some y → x ≡ y
same_some {X} x y e = ap (λ (o : Option X). Rattle.std.specs.Option.unwrap_or o x) e

-- an option without a number, or one of those behind it
one_flag : (P : Text → Given → Type 0) (name option : Text) (here g : Given) (rest : Option Given) → P option here → (rest ≡ Some g → P name g)
    → cond (bytes_eq name option) (Some here) rest ≡ Some g → P name g
one_flag P name option here g rest hit miss e = go (bytes_eq name option) refl e
  where
    go : (b : Bool) → bytes_eq name option ≡ b → cond b (Some here) rest ≡ Some g → P name g
    go true t e = subst (λ n. P n g) (sym ((bytes_eq-Decides name option).0 t)) (subst (P option) (same_some here g e) hit)
    go false t e = miss e

-- what holds of both options without a number holds of a word that is one
pub by_flag : (P : Text → Given → Type 0) → P (codes "--lockstep") given.Lockstep → P (codes "--bridge") given.Bridge
    → (name : Text) (g : Given) → flag_named name ≡ Some g → P name g
by_flag P lockstep bridge name g e =
    one_flag P name (codes "--lockstep") given.Lockstep g _ lockstep (λ e. one_flag P name (codes "--bridge") given.Bridge g _ bridge (λ e. absurd (some≢none g (sym e))) e) e

-- an option with this number, or one of those behind it
one_number : (P : Text → Given → Type 0) (name option : Text) (make : ℕ → Given) (g : Given) (number : Option ℕ) (rest : Option Given)
    → ((n : ℕ) → number ≡ Some n → P option (make n)) → (rest ≡ Some g → P name g)
    → cond (bytes_eq name option) (option_map make number) rest ≡ Some g → P name g
one_number P name option make g number rest hit miss e = go (bytes_eq name option) refl e
  where
    some : (o : Option ℕ) → number ≡ o → option_map make o ≡ Some g → P option g
    some None is e = absurd (some≢none g (sym e))
    some (Some n) is e = subst (P option) (same_some (make n) g e) (hit n is)

    go : (b : Bool) → bytes_eq name option ≡ b → cond b (option_map make number) rest ≡ Some g → P name g
    go true t e = subst (λ n. P n g) (sym ((bytes_eq-Decides name option).0 t)) (some number refl e)
    go false t e = miss e

-- what holds of each option with a number holds of a word that is one
pub by_number : (value : Text) (P : Text → Given → Type 0)
    → ((n : ℕ) → in_range 1 (10 ^ 19 - 1) (number_of value) ≡ Some n → P (codes "--device") (given.Device n))
    → ((n : ℕ) → in_range 1 510 (number_of value) ≡ Some n → P (codes "--cpu") (given.Cpu n))
    → ((n : ℕ) → in_range 1024 262144 (number_of value) ≡ Some n → P (codes "--rows") (given.Rows n))
    → ((n : ℕ) → in_range 1 65535 (number_of value) ≡ Some n → P (codes "--port") (given.Port n))
    → ((n : ℕ) → in_range 1 65534 (number_of value) ≡ Some n → P (codes "--packets") (given.Packets n))
    → ((n : ℕ) → in_range 1 16 (number_of value) ≡ Some n → P (codes "--workers") (given.Workers n))
    → (name : Text) (g : Given) → number_named name value ≡ Some g → P name g
by_number value P device cpu rows port packets workers name g e =
    let none : None ≡ Some g → P name g = λ e. absurd (some≢none g (sym e)) in
    one_number P name (codes "--device") given.Device g _ _ device
    (one_number P name (codes "--cpu") given.Cpu g _ _ cpu
    (one_number P name (codes "--rows") given.Rows g _ _ rows
    (one_number P name (codes "--port") given.Port g _ _ port
    (one_number P name (codes "--packets") given.Packets g _ _ packets
    (one_number P name (codes "--workers") given.Workers g _ _ workers none))))) e

-- ---- a word that is a value

-- the word is no option and no `--`
pub record IsValue (word : Text) : Type 0 where
  pub plain : bytes_eq word (45 ∷ 45 ∷ []) ≡ false
  pub long : long_of word ≡ None
  pub short : short_of word ≡ None

digit_first : (x : ℕ) (xs : Text) → IsNumeral 10 (x ∷ xs) → (x == 45) ≡ false
digit_first x xs is = go (x == 45) refl
  where
    bad : digit_value 45 < 10 → ⊥
    bad h = omega (arith, h)

    go : (b : Bool) → (x == 45) ≡ b → b ≡ false
    go false e = refl
    go true e =
        let at : x ≡ 45 = grind (arith, nat_tests) in
        absurd (bad (subst (λ y. digit_value y < 10) at is.1.0))

numeral_value : (word : Text) → IsNumeral 10 word → IsValue word
numeral_value [] is = absurd (omega (arith, is.0))
numeral_value (x ∷ xs) is =
    let other : (x == 45) ≡ false = digit_first x xs is in
    record { plain = rw other refl; long = rw other refl; short = rw other refl }

-- a word that spells a number in a range is a value
pub spelled_value : (low high n : ℕ) (word : Text) → in_range low high (number_of word) ≡ Some n → IsValue word
spelled_value low high n word e = go (nat_lt (digits_value 10 word) (10 ^ 19)) refl (bytes_eq word (decimal (digits_value 10 word))) refl e
  where
    go : (b : Bool) → nat_lt (digits_value 10 word) (10 ^ 19) ≡ b → (c : Bool) → bytes_eq word (decimal (digits_value 10 word)) ≡ c
        → in_range low high (cond (b && c) (Some (digits_value 10 word)) None) ≡ Some n → IsValue word
    go false below c same e = absurd (some≢none n (sym e))
    go true below false same e = absurd (some≢none n (sym e))
    go true below true same e =
        let lower : digits_value 10 word < 10 ^ 19 = grind (arith, nat_tests) in
        let wide : digits_value 10 word < 2 ^ 64 = omega (arith, lower) in
        numeral_value word (subst (IsNumeral 10) (sym ((bytes_eq-Decides word (decimal (digits_value 10 word))).0 same)) (decimal_is_IsNumeral (digits_value 10 word) wide).0)
