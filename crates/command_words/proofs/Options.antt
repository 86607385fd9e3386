-- The first option of words, and the words behind it.
use Rattle.std.proofs.Common.{◌≡◌, ℕ, ◌-◌, ◌≤◌, List, [], ◌∷◌, length, take, drop, get_or, map, Option, Some, None, refl, sym, ap, ◌∙◌, arith, Bor}
use Rattle.std.specs.Option.{option_and_then}
use Rattle.std.proofs.Math.Seq.{take-length}
use Rattle.command_words.specs.declared.words.Given.{Given}
use Rattle.command_words.specs.declared.words.Settings.{Settings}
use Rattle.command_words.specs.declared.words.Verb.{Verb}
use Rattle.command_words.specs.Words.{flag_named, number_named, with_option, settings_from}

abbrev Texts : Type 0
Texts = List (Bor (List ℕ))

abbrev texts : Texts → List (List ℕ)
texts words = map (λ word. word.now) words

-- all words but the first
behind : (word : Bor (List ℕ)) (rest : Texts) → take (length (word ∷ rest) - 1) (drop 1 (word ∷ rest)) ≡ rest
behind word rest = let e : length (word ∷ rest) - 1 ≡ length rest = omega arith in rw e (take-length rest)

pub none_of : {A : Type 0} (o : Option A) → ((x : A) → o ≡ Some x → ⊥) → o ≡ None
none_of None h = refl
none_of (Some x) h = absurd (h x refl)

-- two words or more, by whether the first is an option without a number
abbrev by_flag : Verb → Settings → List ℕ → List ℕ → List (List ℕ) → Option Given → Option Settings
by_flag verb s name value rest (Some flag) = option_and_then (λ t. settings_from verb t (value ∷ rest)) (with_option flag verb s)
by_flag verb s name value rest None = option_and_then (λ t. settings_from verb t rest) (option_and_then (λ option. with_option option verb s) (number_named name value))

pub first_flag : (verb : Verb) (s t : Settings) (words : List (Bor (List ℕ))) (d : Bor (List ℕ)) (flag : Given) → 1 ≤ length words → flag_named (get_or words 0 d).now ≡ Some flag → with_option flag verb s ≡ Some t
    → settings_from verb s (map (λ word. word.now) words) ≡ settings_from verb t (map (λ word. word.now) (take (length words - 1) (drop 1 words)))
first_flag verb s t [] d flag some e f = absurd (omega arith)
first_flag verb s t (word ∷ []) d flag some e f =
    ap (λ o. option_and_then (λ flag. with_option flag verb s) o) e ∙ f ∙ sym (ap (λ (l : Texts). settings_from verb t (texts l)) (behind word []))
first_flag verb s t (word ∷ next ∷ rest) d flag some e f =
    ap (by_flag verb s word.now next.now (texts rest)) e
    ∙ ap (λ o. option_and_then (λ t. settings_from verb t (texts (next ∷ rest))) o) f
    ∙ sym (ap (λ (l : Texts). settings_from verb t (texts l)) (behind word (next ∷ rest)))

by_two : (verb : Verb) (s t : Settings) (word : Bor (List ℕ)) (rest : Texts) (d : Bor (List ℕ)) (option : Given) → 1 ≤ length rest → flag_named word.now ≡ None → number_named word.now (get_or rest 0 d).now ≡ Some option → with_option option verb s ≡ Some t
    → settings_from verb s (texts (word ∷ rest)) ≡ settings_from verb t (texts (take (length rest - 1) (drop 1 rest)))
by_two verb s t word [] d option more e n f = absurd (omega arith)
by_two verb s t word (value ∷ rest) d option more e n f =
    ap (by_flag verb s word.now value.now (texts rest)) e
    ∙ ap (λ o. option_and_then (λ t. settings_from verb t (texts rest)) (option_and_then (λ option. with_option option verb s) o)) n
    ∙ ap (λ o. option_and_then (λ t. settings_from verb t (texts rest)) o) f
    ∙ sym (ap (λ (l : Texts). settings_from verb t (texts l)) (behind value rest))

pub first_number : (verb : Verb) (s t : Settings) (words rest : List (Bor (List ℕ))) (d : Bor (List ℕ)) (option : Given) → 1 ≤ length words → take (length words - 1) (drop 1 words) ≡ rest → 1 ≤ length rest
    → flag_named (get_or words 0 d).now ≡ None → number_named (get_or words 0 d).now (get_or rest 0 d).now ≡ Some option → with_option option verb s ≡ Some t
    → settings_from verb s (map (λ word. word.now) words) ≡ settings_from verb t (map (λ word. word.now) (take (length rest - 1) (drop 1 rest)))
first_number verb s t [] rest d option some is more e n f = absurd (omega arith)
first_number verb s t (word ∷ words) rest d option some is more e n f =
    let same : words ≡ rest = sym (behind word words) ∙ is in
    ap (λ (l : Texts). settings_from verb s (texts (word ∷ l))) same ∙ by_two verb s t word rest d option more e n f
