-- The commands without options: the check of a configuration, and a made tape.
use Rattle.std.proofs.Common.{◌≡◌, ◌∙◌, ◌&&◌, ◌||◌, ℕ, cond, true, false, refl, sym, ap, true≢false, List, [], ◌∷◌, Option, Some, None, codes}
use Rattle.std.specs.List.{list_all}
use Rattle.std.specs.Option.{is_some, option_map, option_map_or}
use Rattle.std.specs.Str.{bytes_eq}
use Rattle.clap.specs.Lexer.{long_of}
use Rattle.clap.specs.Simple.{Shape, built, entered, is_simple, matches_of}
use Rattle.clap.specs.Takes.{bundle_passes, default_passes, entered_passes, flag_word_passes, is_valid, settle_passes, step_passes, takes, turn_passes, walk_passes}
use Rattle.clap.specs.Walk.{Held, Rule, Step, Text, Walk, after_step, finished, idle, long_or_other, nothing_held, short_or_plain, trailing, value, walk_from, walked, word_met}
use Rattle.command_words.specs.declared.words.Command.TheVariants as commands
use Rattle.command_words.specs.Words.{check_of, gen_of, in_range, number_of}
use Rattle.command_words.specs.Taken.{check_app, gen_app, number_at}
use Rattle.command_words.proofs.Chosen.{IsValue, spelled_value}

pub check_simple : is_simple check_app ≡ true
check_simple = refl

pub gen_simple : is_simple gen_app ≡ true
gen_simple = refl

-- words that ask for a check are taken
pub check_takes : (words : List Text) → is_some (check_of words) ≡ true → takes check_app words ≡ true
unfolding walk_passes
check_takes [] e = refl
check_takes (word ∷ words) e = absurd (true≢false (sym e))

abbrev shape : Shape
shape = (built gen_app).top

abbrev rules : List Rule
rules = shape.rules

-- the walk behind the number
abbrev behind : Text → Walk
behind word = record { held = record { rows = []; pending = Some (codes "number", word ∷ []); skip = 0 }; waiting = idle; position = 2; is_trailing = false; stopped = None }

gen_met : (word : Text) → IsValue word → word_met rules [] false idle 1 word nothing_held ≡ (nothing_held, value)
gen_met word is =
    ap (λ b. cond b (nothing_held, trailing 1) (long_or_other rules idle word (long_of word) nothing_held)) is.plain
    ∙ ap (λ l. long_or_other rules idle word l nothing_held) is.long ∙ ap (λ s. short_or_plain rules idle word s nothing_held) is.short

gen_goes : (word : Text) → IsValue word → walked rules [] (walk_from nothing_held) word ≡ behind word
unfolding walked
gen_goes word is = ap (λ (p : Held × Step). after_step rules word (walk_from nothing_held) p.0 p.1) (gen_met word is)

gen_turn : (word : Text) → IsValue word → turn_passes shape [] (walk_from nothing_held) word ≡ true
gen_turn word is =
    ap (λ (p : Held × Step). (bytes_eq word (45 ∷ 45 ∷ []) || flag_word_passes rules false (long_of word) word nothing_held) && step_passes shape 1 p.0 p.1) (gen_met word is)
    ∙ ap (λ l. (bytes_eq word (45 ∷ 45 ∷ []) || flag_word_passes rules false l word nothing_held) && true) is.long
    ∙ ap (λ o. (bytes_eq word (45 ∷ 45 ∷ []) || option_map_or (λ flags. bundle_passes rules false flags nothing_held) o true) && true) is.short
    ∙ ap (λ b. (b || true) && true) is.plain

word_takes : (word : Text) → IsValue word → takes gen_app (word ∷ []) ≡ true
unfolding walk_passes
word_takes word is =
    ap (λ (w : Walk). entered_passes (built gen_app) w.stopped && ((turn_passes shape [] (walk_from nothing_held) word && walk_passes shape [] w [])
    && (settle_passes rules false w.held && (list_all default_passes rules && is_valid shape (finished rules w.held) (is_some (entered (built gen_app) w.stopped)))))) (gen_goes word is)
    ∙ ap (λ b. (b && true) && true) (gen_turn word is)

word_matches : (word : Text) → IsValue word → number_at (codes "number") 1 64 (matches_of gen_app (word ∷ [])) ≡ in_range 1 64 (number_of word)
word_matches word is = ap (λ (w : Walk). number_at (codes "number") 1 64 (finished rules w.held)) (gen_goes word is)

is_value : (word : Text) → is_some (gen_of (word ∷ [])) ≡ true → IsValue word
is_value word e = go (in_range 1 64 (number_of word)) refl e
  where
    go : (o : Option ℕ) → in_range 1 64 (number_of word) ≡ o → is_some (option_map commands.Gen o) ≡ true → IsValue word
    go None is e = absurd (true≢false (sym e))
    go (Some n) is e = spelled_value 1 64 n word is

-- words that ask for a made tape are taken, with its number
pub gen_takes : (words : List Text) → is_some (gen_of words) ≡ true → takes gen_app words ≡ true
gen_takes [] e = absurd (true≢false (sym e))
gen_takes (word ∷ []) e = word_takes word (is_value word e)
gen_takes (word ∷ other ∷ words) e = absurd (true≢false (sym e))

pub gen_matches : (words : List Text) → is_some (gen_of words) ≡ true → gen_of words ≡ option_map commands.Gen (number_at (codes "number") 1 64 (matches_of gen_app words))
gen_matches [] e = absurd (true≢false (sym e))
gen_matches (word ∷ []) e = ap (option_map commands.Gen) (sym (word_matches word (is_value word e)))
gen_matches (word ∷ other ∷ words) e = absurd (true≢false (sym e))
