-- What `clap` has of words that are a command is what the grammar has.
use Rattle.std.proofs.Common.{◌≡◌, ◌∙◌, ◌^◌, ◌-◌, ◌&&◌, ℕ, Bool, true, false, true≢false, refl, sym, ap, ap₂, subst, List, [], Option, Some, None, codes, drop}
use Rattle.std.specs.Prelude.{fold, slice_get}
use Rattle.std.specs.List.{list_all}
use Rattle.std.specs.Option.{option_and_then, is_some}
use Rattle.clap.specs.Simple.{built, entered, is_simple, matches_of}
use Rattle.clap.specs.Takes.{default_passes, entered_passes, is_valid, settle_passes, walk_passes}
use Rattle.clap.specs.Takes as Takes
use Rattle.clap.specs.Walk.{Held, Row, Rule, Text, Walk, finished, nothing_held, one_of, row_text, walk, walk_from, with_default}
use Rattle.clap.specs.Simple.{filled, with_index}
use Rattle.clap.specs.declared.parser.matches.ValueSource.TheVariants.{CommandLine}
use Rattle.command_words.specs.declared.words.Settings.{Settings}
use Rattle.command_words.specs.declared.words.Verb.{Verb}
use Rattle.command_words.specs.declared.words.Verb.TheVariants as verbs
use Rattle.command_words.specs.Words.{in_range, nothing_given, number_of, settings_from}
use Rattle.command_words.specs.Taken.{Gives, GivesStart, flag_rule, flag_text, number_at, options_app}
use Rattle.command_words.proofs.Rows.{entry, is_other, kept_default, kept_defaults, row, unused_default, used_default}
use Rattle.command_words.proofs.Shows.{HasFlag, HasNumber}
use Rattle.command_words.proofs.Walks.{Stands, begins, lines, rules, shape, walks}

pub simple : (verb : Verb) → is_simple (options_app verb) ≡ true
simple verbs.Replay = refl
simple verbs.Serve = refl

valid : (verb : Verb) (rows : List Row) → (list_all default_passes (rules verb) && is_valid (shape verb) rows false) ≡ true
valid verbs.Replay rows = refl
valid verbs.Serve rows = refl

-- the words that give settings are taken, and what is held at their end says what the settings say
pub record Taken (verb : Verb) (t : Settings) (words : List Text) : Type 0 where
  pub takes : Takes.takes (options_app verb) words ≡ true
  pub simple : is_simple (options_app verb) ≡ true
  pub end : Held
  pub stands : Stands verb t end
  pub matches : matches_of (options_app verb) words ≡ finished (rules verb) end

abbrev passes_by : Verb → List Text → Walk → Bool
passes_by verb words w =
    entered_passes (built (options_app verb)) w.stopped && (walk_passes (shape verb) [] (walk_from nothing_held) words
    && (settle_passes (rules verb) false w.held
    && (list_all default_passes (rules verb) && is_valid (shape verb) (finished (rules verb) w.held) (is_some (entered (built (options_app verb)) w.stopped)))))

pub taken : (verb : Verb) (t : Settings) (words : List Text) → settings_from verb nothing_given words ≡ Some t → Taken verb t words
taken verb t words e =
    let w = walks verb words nothing_given t nothing_held e (begins verb) in
    let end = w.ends.0 in
    let all : passes_by verb words (walk (rules verb) [] nothing_held words) ≡ true =
    ap (passes_by verb words) w.ends.1
    ∙ ap₂ (λ b c. b && (c && (list_all default_passes (rules verb) && is_valid (shape verb) (finished (rules verb) end) false))) w.passes w.ends.2.settles
    ∙ valid verb (finished (rules verb) end) in
    record {
      takes = ap₂ (λ b c. b && c) (simple verb) all;
      simple = simple verb;
      end = end;
      stands = w.ends.2;
      matches = ap (λ v. finished (rules verb) v.held) w.ends.1;
    }

-- ---- the values

-- the number of a row is the one that was given
number_shown : (id : Text) (low high : ℕ) (o : Option ℕ) (rows : List Row) → HasNumber id low high o (entry id rows) → number_at id low high rows ≡ o
number_shown id low high None rows has =
    ap (λ (found : Option Row). option_and_then (λ word. in_range low high (number_of word)) (option_and_then (λ r. slice_get r.values 0) found)) has
number_shown id low high (Some n) rows has =
    ap (λ (found : Option Row). option_and_then (λ word. in_range low high (number_of word)) (option_and_then (λ r. slice_get r.values 0) found)) has.1 ∙ has.2

pub number_taken : (id : Text) (low high : ℕ) (o : Option ℕ) (all : List Rule) (rows : List Row) → HasNumber id low high o (entry id rows)
    → list_all (is_other id) all ≡ true → number_at id low high (fold with_default rows all) ≡ o
number_taken id low high o all rows has other =
    number_shown id low high o (fold with_default rows all) (subst (HasNumber id low high o) (sym (kept_defaults id all rows other)) has)

abbrev flag : Text → Rule
flag id = with_index 1 (filled (flag_rule id))

flag_shown : (id : Text) (b : Bool) (rows : List Row) → HasFlag id b (entry id rows) → one_of id (with_default rows (flag id)) ≡ Some (flag_text b)
flag_shown id false rows has = ap (option_and_then row_text) (unused_default id (codes "false") (flag id) rows refl refl refl has)
flag_shown id true rows has = ap (option_and_then row_text) (used_default id (flag id) rows (row id CommandLine (codes "true")) refl has)

pub flag_taken : (id : Text) (b : Bool) (rest : List Rule) (rows : List Row) → HasFlag id b (entry id rows) → list_all (is_other id) rest ≡ true
    → one_of id (fold with_default (with_default rows (flag id)) rest) ≡ Some (flag_text b)
flag_taken id b rest rows has other = ap (option_and_then row_text) (kept_defaults id rest (with_default rows (flag id)) other) ∙ flag_shown id b rows has

starts : (verb : Verb) (s : Settings) (end : Held) → Stands verb s end → GivesStart s (finished (rules verb) end)
starts verbs.Replay s end stands = record {
  device = number_taken (codes "device") 1 (10 ^ 19 - 1) s.device (rules verbs.Replay) (lines verbs.Replay end) stands.shows.device refl;
  cpu = number_taken (codes "cpu") 1 510 s.cpu (rules verbs.Replay) (lines verbs.Replay end) stands.shows.cpu refl;
  rows = number_taken (codes "rows") 1024 262144 s.rows (rules verbs.Replay) (lines verbs.Replay end) stands.shows.rows refl;
}
starts verbs.Serve s end stands = record {
  device = number_taken (codes "device") 1 (10 ^ 19 - 1) s.device (rules verbs.Serve) (lines verbs.Serve end) stands.shows.device refl;
  cpu = number_taken (codes "cpu") 1 510 s.cpu (rules verbs.Serve) (lines verbs.Serve end) stands.shows.cpu refl;
  rows = number_taken (codes "rows") 1024 262144 s.rows (rules verbs.Serve) (lines verbs.Serve end) stands.shows.rows refl;
}

-- what is held at the end gives all that the settings say
gives : (verb : Verb) (s : Settings) (end : Held) → Stands verb s end → Gives verb s (finished (rules verb) end)
gives verbs.Replay s end stands =
    let all = lines verbs.Replay end in
    record {
      lockstep = flag_taken (codes "lockstep") s.lockstep (drop 1 (rules verbs.Replay)) all stands.shows.lockstep refl;
      bridge = flag_taken (codes "bridge") s.bridge (drop 2 (rules verbs.Replay)) (with_default all (flag (codes "lockstep")))
          (subst (HasFlag (codes "bridge") s.bridge) (sym (kept_default (codes "bridge") (flag (codes "lockstep")) all refl)) stands.shows.bridge) refl;
      start = starts verbs.Replay s end stands;
      port = stands.own.0;
      packets = stands.own.1;
      workers = stands.own.2;
    }
gives verbs.Serve s end stands = record {
  lockstep = stands.own.0;
  bridge = stands.own.1;
  start = starts verbs.Serve s end stands;
  port = number_taken (codes "port") 1 65535 s.port (rules verbs.Serve) (lines verbs.Serve end) stands.shows.port refl;
  packets = number_taken (codes "packets") 1 65534 s.packets (rules verbs.Serve) (lines verbs.Serve end) stands.shows.packets refl;
  workers = number_taken (codes "workers") 1 16 s.workers (rules verbs.Serve) (lines verbs.Serve end) stands.shows.workers refl;
}

-- the matches of words that give settings give them too
pub given_matches : (verb : Verb) (s : Settings) (words : List Text) → settings_from verb nothing_given words ≡ Some s → Gives verb s (matches_of (options_app verb) words)
given_matches verb s words e =
    let all = taken verb s words e in
    subst (Gives verb s) (sym all.matches) (gives verb s all.end all.stands)

-- words that give settings are taken
pub takes_settings : (verb : Verb) (words : List Text) → is_some (settings_from verb nothing_given words) ≡ true → Takes.takes (options_app verb) words ≡ true
takes_settings verb words e = go (settings_from verb nothing_given words) refl e
  where
    go : (o : Option Settings) → settings_from verb nothing_given words ≡ o → is_some o ≡ true → Takes.takes (options_app verb) words ≡ true
    go None is e = absurd (true≢false (sym e))
    go (Some s) is e = (taken verb s words is).takes

-- the settings of words are those that all settings of them are
pub only_settings : (verb : Verb) (words : List Text) (s : Settings) → is_some (settings_from verb nothing_given words) ≡ true
    → ((t : Settings) → settings_from verb nothing_given words ≡ Some t → s ≡ t) → settings_from verb nothing_given words ≡ Some s
only_settings verb words s e only = go (settings_from verb nothing_given words) refl e
  where
    go : (o : Option Settings) → settings_from verb nothing_given words ≡ o → is_some o ≡ true → settings_from verb nothing_given words ≡ Some s
    go None is e = absurd (true≢false (sym e))
    go (Some t) is e = is ∙ ap Some (sym (only t is))
