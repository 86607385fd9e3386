-- The walk of `clap` over words that are options of a command, in step with the settings that they give.
use Rattle.std.proofs.Common.{◌≡◌, ◌∙◌, ◌^◌, ◌-◌, ◌&&◌, ◌||◌, ℕ, cond, true, false, refl, sym, ap, subst, List, [], ◌∷◌, ◌++◌, Option, Some, None, codes}
use Rattle.std.specs.Prelude.{not, fold}
use Rattle.std.specs.Option.{option_and_then, option_map_or, is_some}
use Rattle.std.specs.Str.{bytes_eq}
use Rattle.clap.specs.Lexer.{long_of}
use Rattle.clap.specs.Simple.{Shape, built}
use Rattle.clap.specs.Takes.{bundle_passes, flag_word_passes, settle_passes, step_passes, turn_passes, walk_passes}
use Rattle.clap.specs.Walk.{Held, Row, Rule, Step, Text, Waiting, Walk, after_step, arg_by_id, has_row, idle, long_or_other, next, nothing_held, option, option_word, plain_word, settled, short_or_plain, trailing, walk, walk_from, walked, with_values, without, word_met}
use Rattle.clap.specs.declared.builder.value_parser.Reading.TheVariants.{AsWritten}
use Rattle.clap.specs.declared.parser.matches.ValueSource.TheVariants.{CommandLine}
use Rattle.command_words.specs.declared.words.Given.{Given}
use Rattle.command_words.specs.declared.words.Given.TheVariants as given
use Rattle.command_words.specs.declared.words.Settings.{Settings}
use Rattle.command_words.specs.declared.words.Verb.{Verb}
use Rattle.command_words.specs.declared.words.Verb.TheVariants as verbs
use Rattle.command_words.specs.Words.{flag_named, in_range, nothing_given, number_named, number_of, settings_from, with_option}
use Rattle.command_words.specs.Taken.{options_app}
use Rattle.command_words.proofs.Chosen.{IsValue, by_flag, by_number, same_some, spelled_value}
use Rattle.command_words.proofs.Rows.{entry, no_row, row, some≢none, used_once}
use Rattle.command_words.proofs.Shows.{Shows, first_time, gives_lockstep, gives_bridge, gives_device, gives_cpu, gives_rows, gives_port, gives_packets, gives_workers, no_lockstep, no_bridge, no_device, no_cpu, no_rows, no_port, no_packets, no_workers}

-- a command that has options, as `clap` builds it
abbrev pub shape : Verb → Shape
shape verb = (built (options_app verb)).top

abbrev pub rules : Verb → List Rule
rules verb = (shape verb).rules

-- the rows once what waits for its use is used
abbrev pub lines : Verb → Held → List Row
lines verb h = (settled (rules verb) h).rows

-- what is not an option of the command is not given
abbrev pub IsOwn : Verb → Settings → Type 0
IsOwn verbs.Replay s = (s.port ≡ None) × (s.packets ≡ None) × (s.workers ≡ None)
IsOwn verbs.Serve s = (s.lockstep ≡ false) × (s.bridge ≡ false)

-- what the walk holds is what the settings say
pub record Stands (verb : Verb) (s : Settings) (h : Held) : Type 0 where
  pub settles : settle_passes (rules verb) false h ≡ true
  pub shows : Shows s (lines verb h)
  pub own : IsOwn verb s

-- the walk over the words passes, and ends where these settings stand
pub record Walks (verb : Verb) (t : Settings) (h : Held) (words : List Text) : Type 0 where
  pub passes : walk_passes (shape verb) [] (walk_from h) words ≡ true
  pub ends : (end : Held) × (walk (rules verb) [] h words ≡ walk_from end) × Stands verb t end

walks_none : (verb : Verb) (s : Settings) (h : Held) → Stands verb s h → Walks verb s h []
unfolding walk_passes
walks_none verb s h stands = record { passes = refl; ends = (h, refl, stands) }

one_word : (verb : Verb) (t : Settings) (h after : Held) (word : Text) (rest : List Text)
    → walked (rules verb) [] (walk_from h) word ≡ walk_from after → turn_passes (shape verb) [] (walk_from h) word ≡ true
    → Walks verb t after rest → Walks verb t h (word ∷ rest)
unfolding walk_passes
one_word verb t h after word rest goes turn walks = record {
  passes = ap (λ b. b && walk_passes (shape verb) [] (walked (rules verb) [] (walk_from h) word) rest) turn ∙ ap (λ w. walk_passes (shape verb) [] w rest) goes ∙ walks.passes;
  ends = (walks.ends.0, ap (λ w. fold (walked (rules verb) []) w rest) goes ∙ walks.ends.1, walks.ends.2);
}

two_words : (verb : Verb) (t : Settings) (h after : Held) (middle : Walk) (name value : Text) (rest : List Text)
    → walked (rules verb) [] (walk_from h) name ≡ middle → turn_passes (shape verb) [] (walk_from h) name ≡ true
    → walked (rules verb) [] middle value ≡ walk_from after → turn_passes (shape verb) [] middle value ≡ true
    → Walks verb t after rest → Walks verb t h (name ∷ value ∷ rest)
unfolding walk_passes
two_words verb t h after middle name value rest goes turn then_goes then_turn walks = record {
  passes = ap (λ b. b && walk_passes (shape verb) [] (walked (rules verb) [] (walk_from h) name) (value ∷ rest)) turn
      ∙ ap (λ w. walk_passes (shape verb) [] w (value ∷ rest)) goes
      ∙ ap (λ b. b && walk_passes (shape verb) [] (walked (rules verb) [] middle value) rest) then_turn
      ∙ ap (λ w. walk_passes (shape verb) [] w rest) then_goes ∙ walks.passes;
  ends = (
    walks.ends.0,
    ap (λ w. fold (walked (rules verb) []) (walked (rules verb) [] w value) rest) goes
        ∙ ap (λ w. fold (walked (rules verb) []) w rest) then_goes ∙ walks.ends.1,
    walks.ends.2,
  );
}

same_shows : (s u : Settings) (rows : List Row) → s ≡ u → Shows s rows → Shows u rows
same_shows s u rows same shows = subst (λ v. Shows v rows) same shows

-- ---- an option without a number

-- what is held after it
abbrev flagged : Verb → Text → Held → Held
flagged verb id h = record { rows = with_values id AsWritten CommandLine (codes "true" ∷ []) (without id (lines verb h)); pending = None; skip = h.skip }

-- the word names an option without a value of the command
record IsFlag (verb : Verb) (id name : Text) : Type 0 where
  goes : (h : Held) → walked (rules verb) [] (walk_from h) name ≡ walk_from (flagged verb id h)
  turn : (h : Held) → turn_passes (shape verb) [] (walk_from h) name ≡ ((settle_passes (rules verb) false h && ((not (has_row id (lines verb h)) || false) && true)) && true)

flag_walks : (verb : Verb) (id name : Text) (s u t : Settings) (h : Held) (rest : List Text) → IsFlag verb id name → Stands verb s h → entry id (lines verb h) ≡ None
    → Shows u (lines verb h ++ row id CommandLine (codes "true") ∷ []) → IsOwn verb u → ((after : Held) → Stands verb u after → Walks verb t after rest)
    → Walks verb t h (name ∷ rest)
flag_walks verb id name s u t h rest is stands none shows own k =
    let free : has_row id (lines verb h) ≡ false = no_row id (lines verb h) none in
    let passes = is.turn h ∙ ap (λ b. (b && ((not (has_row id (lines verb h)) || false) && true)) && true) stands.settles ∙ ap (λ b. ((not b || false) && true) && true) free in
    one_word verb t h (flagged verb id h) name rest (is.goes h) passes
    (k (flagged verb id h) (record { settles = refl; shows = subst (Shows u) (sym (used_once id (codes "true") (lines verb h) none)) shows; own = own }))

-- what it takes to walk over an option without a number
abbrev FlagGoes : Verb → Text → Given → Type 0
FlagGoes verb name g = (s u t : Settings) (h : Held) (rest : List Text) → with_option g verb s ≡ Some u → Stands verb s h
    → ((after : Held) → Stands verb u after → Walks verb t after rest) → Walks verb t h (name ∷ rest)

is_lockstep : IsFlag verbs.Replay (codes "lockstep") (codes "--lockstep")
unfolding walked
is_lockstep = record { goes = λ h. refl; turn = λ h. refl }

lockstep_goes : (verb : Verb) → FlagGoes verb (codes "--lockstep") given.Lockstep
lockstep_goes verbs.Serve s u t h rest e stands k = absurd (some≢none u (sym e))
lockstep_goes verbs.Replay s u t h rest e stands k =
    let first = first_time s.lockstep (record s { lockstep = true }) u e in
    flag_walks verbs.Replay (codes "lockstep") (codes "--lockstep") s u t h rest is_lockstep stands (no_lockstep s _ stands.shows first.0)
    (same_shows _ u _ first.1 (gives_lockstep s _ stands.shows first.0)) (subst (IsOwn verbs.Replay) first.1 stands.own) k

is_bridge : IsFlag verbs.Replay (codes "bridge") (codes "--bridge")
unfolding walked
is_bridge = record { goes = λ h. refl; turn = λ h. refl }

bridge_goes : (verb : Verb) → FlagGoes verb (codes "--bridge") given.Bridge
bridge_goes verbs.Serve s u t h rest e stands k = absurd (some≢none u (sym e))
bridge_goes verbs.Replay s u t h rest e stands k =
    let first = first_time s.bridge (record s { bridge = true }) u e in
    flag_walks verbs.Replay (codes "bridge") (codes "--bridge") s u t h rest is_bridge stands (no_bridge s _ stands.shows first.0)
    (same_shows _ u _ first.1 (gives_bridge s _ stands.shows first.0)) (subst (IsOwn verbs.Replay) first.1 stands.own) k

flag_goes : (verb : Verb) (name : Text) (g : Given) → flag_named name ≡ Some g → FlagGoes verb name g
flag_goes verb = by_flag (FlagGoes verb) (lockstep_goes verb) (bridge_goes verb)

-- ---- an option with a number

-- the walk behind its name, and what is held behind its number
abbrev waits_for : Verb → Text → Held → Walk
waits_for verb id h =
    record { held = record { rows = lines verb h; pending = Some (id, []); skip = h.skip }; waiting = option id; position = 1; is_trailing = false; stopped = None }

abbrev with_word : Verb → Text → Text → Held → Held
with_word verb id value h = record { rows = lines verb h; pending = Some (id, value ∷ []); skip = h.skip }

-- the word names an option of the command with a value
record IsOption (verb : Verb) (id name : Text) : Type 0 where
  goes : (h : Held) → walked (rules verb) [] (walk_from h) name ≡ waits_for verb id h
  turn : (h : Held) → turn_passes (shape verb) [] (walk_from h) name ≡ (settle_passes (rules verb) false h && true)
  takes : (h : Held) (value : Text) → option_word (arg_by_id (rules verb) id) id value (waits_for verb id h).held ≡ (with_word verb id value h, idle)
  settles : (h : Held) (value : Text) → settle_passes (rules verb) false (with_word verb id value h) ≡ ((not (has_row id (lines verb h)) || false) && true)
  holds : (h : Held) (value : Text) → lines verb (with_word verb id value h) ≡ with_values id AsWritten CommandLine (value ∷ []) (without id (lines verb h))

-- a value is one more word of the option that waits
value_met : (c : List Rule) (id value : Text) (h : Held) → IsValue value → word_met c [] false (option id) 1 value h ≡ plain_word c (option id) value h
value_met c id value h is =
    ap (λ b. cond b (h, trailing 1) (long_or_other c (option id) value (long_of value) h)) is.plain
    ∙ ap (λ l. long_or_other c (option id) value l h) is.long ∙ ap (λ s. short_or_plain c (option id) value s h) is.short

option_walks : (verb : Verb) (id name value : Text) (s u t : Settings) (h : Held) (rest : List Text) → IsOption verb id name → Stands verb s h → IsValue value
    → entry id (lines verb h) ≡ None → Shows u (lines verb h ++ row id CommandLine value ∷ []) → IsOwn verb u
    → ((after : Held) → Stands verb u after → Walks verb t after rest) → Walks verb t h (name ∷ value ∷ rest)
unfolding walked
option_walks verb id name value s u t h rest is stands value_is none shows own k =
    let free : has_row id (lines verb h) ≡ false = no_row id (lines verb h) none in
    let passes = is.turn h ∙ ap (λ b. b && true) stands.settles in
    let w = waits_for verb id h in
    let after = with_word verb id value h in
    let met = value_met (rules verb) id value w.held value_is in
    let goes : walked (rules verb) [] w value ≡ walk_from after =
    ap (λ (p : Held × Step). after_step (rules verb) value w p.0 p.1) met
    ∙ ap (λ (p : Held × Waiting). after_step (rules verb) value w p.0 (next p.1)) (is.takes h value) in
    let turn : turn_passes (shape verb) [] w value ≡ true =
    ap (λ (p : Held × Step). (bytes_eq value (45 ∷ 45 ∷ []) || flag_word_passes (rules verb) false (long_of value) value w.held) && step_passes (shape verb) 1 p.0 p.1) met
    ∙ ap (λ l. (bytes_eq value (45 ∷ 45 ∷ []) || flag_word_passes (rules verb) false l value w.held) && true) value_is.long
    ∙ ap (λ o. (bytes_eq value (45 ∷ 45 ∷ []) || option_map_or (λ flags. bundle_passes (rules verb) false flags w.held) o true) && true) value_is.short
    ∙ ap (λ b. (b || true) && true) value_is.plain in
    let held : lines verb after ≡ lines verb h ++ row id CommandLine value ∷ [] = is.holds h value ∙ used_once id value (lines verb h) none in
    two_words verb t h after w name value rest (is.goes h) passes goes turn
    (k after (record { settles = is.settles h value ∙ ap (λ b. (not b || false) && true) free; shows = subst (Shows u) (sym held) shows; own = own }))

-- what it takes to walk over an option with this number
abbrev OptionGoes : Verb → Text → Text → Given → Type 0
OptionGoes verb value name g = (s u t : Settings) (h : Held) (rest : List Text) → with_option g verb s ≡ Some u → Stands verb s h
    → ((after : Held) → Stands verb u after → Walks verb t after rest) → Walks verb t h (name ∷ value ∷ rest)

is_device : (verb : Verb) → IsOption verb (codes "device") (codes "--device")
unfolding walked
is_device verbs.Replay = record { goes = λ h. refl; turn = λ h. refl; takes = λ h value. refl; settles = λ h value. refl; holds = λ h value. refl }
is_device verbs.Serve = record { goes = λ h. refl; turn = λ h. refl; takes = λ h value. refl; settles = λ h value. refl; holds = λ h value. refl }

own_device : (verb : Verb) (s : Settings) (n : ℕ) → IsOwn verb s → IsOwn verb (record s { device = Some n })
own_device verbs.Replay s n own = own
own_device verbs.Serve s n own = own

device_goes : (verb : Verb) (value : Text) (n : ℕ) → in_range 1 (10 ^ 19 - 1) (number_of value) ≡ Some n → OptionGoes verb value (codes "--device") (given.Device n)
device_goes verb value n is s u t h rest e stands k =
    let first = first_time (is_some s.device) (record s { device = Some n }) u e in
    option_walks verb (codes "device") (codes "--device") value s u t h rest (is_device verb) stands (spelled_value 1 (10 ^ 19 - 1) n value is) (no_device s _ stands.shows first.0)
    (same_shows _ u _ first.1 (gives_device s _ stands.shows n value is first.0)) (subst (IsOwn verb) first.1 (own_device verb s n stands.own)) k

is_cpu : (verb : Verb) → IsOption verb (codes "cpu") (codes "--cpu")
unfolding walked
is_cpu verbs.Replay = record { goes = λ h. refl; turn = λ h. refl; takes = λ h value. refl; settles = λ h value. refl; holds = λ h value. refl }
is_cpu verbs.Serve = record { goes = λ h. refl; turn = λ h. refl; takes = λ h value. refl; settles = λ h value. refl; holds = λ h value. refl }

own_cpu : (verb : Verb) (s : Settings) (n : ℕ) → IsOwn verb s → IsOwn verb (record s { cpu = Some n })
own_cpu verbs.Replay s n own = own
own_cpu verbs.Serve s n own = own

cpu_goes : (verb : Verb) (value : Text) (n : ℕ) → in_range 1 510 (number_of value) ≡ Some n → OptionGoes verb value (codes "--cpu") (given.Cpu n)
cpu_goes verb value n is s u t h rest e stands k =
    let first = first_time (is_some s.cpu) (record s { cpu = Some n }) u e in
    option_walks verb (codes "cpu") (codes "--cpu") value s u t h rest (is_cpu verb) stands (spelled_value 1 510 n value is) (no_cpu s _ stands.shows first.0)
    (same_shows _ u _ first.1 (gives_cpu s _ stands.shows n value is first.0)) (subst (IsOwn verb) first.1 (own_cpu verb s n stands.own)) k

is_rows : (verb : Verb) → IsOption verb (codes "rows") (codes "--rows")
unfolding walked
is_rows verbs.Replay = record { goes = λ h. refl; turn = λ h. refl; takes = λ h value. refl; settles = λ h value. refl; holds = λ h value. refl }
is_rows verbs.Serve = record { goes = λ h. refl; turn = λ h. refl; takes = λ h value. refl; settles = λ h value. refl; holds = λ h value. refl }

own_rows : (verb : Verb) (s : Settings) (n : ℕ) → IsOwn verb s → IsOwn verb (record s { rows = Some n })
own_rows verbs.Replay s n own = own
own_rows verbs.Serve s n own = own

rows_goes : (verb : Verb) (value : Text) (n : ℕ) → in_range 1024 262144 (number_of value) ≡ Some n → OptionGoes verb value (codes "--rows") (given.Rows n)
rows_goes verb value n is s u t h rest e stands k =
    let first = first_time (is_some s.rows) (record s { rows = Some n }) u e in
    option_walks verb (codes "rows") (codes "--rows") value s u t h rest (is_rows verb) stands (spelled_value 1024 262144 n value is) (no_rows s _ stands.shows first.0)
    (same_shows _ u _ first.1 (gives_rows s _ stands.shows n value is first.0)) (subst (IsOwn verb) first.1 (own_rows verb s n stands.own)) k

is_port : IsOption verbs.Serve (codes "port") (codes "--port")
unfolding walked
is_port = record { goes = λ h. refl; turn = λ h. refl; takes = λ h value. refl; settles = λ h value. refl; holds = λ h value. refl }

port_goes : (verb : Verb) (value : Text) (n : ℕ) → in_range 1 65535 (number_of value) ≡ Some n → OptionGoes verb value (codes "--port") (given.Port n)
port_goes verbs.Replay value n is s u t h rest e stands k = absurd (some≢none u (sym e))
port_goes verbs.Serve value n is s u t h rest e stands k =
    let first = first_time (is_some s.port) (record s { port = Some n }) u e in
    option_walks verbs.Serve (codes "port") (codes "--port") value s u t h rest is_port stands (spelled_value 1 65535 n value is) (no_port s _ stands.shows first.0)
    (same_shows _ u _ first.1 (gives_port s _ stands.shows n value is first.0)) (subst (IsOwn verbs.Serve) first.1 stands.own) k

is_packets : IsOption verbs.Serve (codes "packets") (codes "--packets")
unfolding walked
is_packets = record { goes = λ h. refl; turn = λ h. refl; takes = λ h value. refl; settles = λ h value. refl; holds = λ h value. refl }

packets_goes : (verb : Verb) (value : Text) (n : ℕ) → in_range 1 65534 (number_of value) ≡ Some n → OptionGoes verb value (codes "--packets") (given.Packets n)
packets_goes verbs.Replay value n is s u t h rest e stands k = absurd (some≢none u (sym e))
packets_goes verbs.Serve value n is s u t h rest e stands k =
    let first = first_time (is_some s.packets) (record s { packets = Some n }) u e in
    option_walks verbs.Serve (codes "packets") (codes "--packets") value s u t h rest is_packets stands (spelled_value 1 65534 n value is) (no_packets s _ stands.shows first.0)
    (same_shows _ u _ first.1 (gives_packets s _ stands.shows n value is first.0)) (subst (IsOwn verbs.Serve) first.1 stands.own) k

is_workers : IsOption verbs.Serve (codes "workers") (codes "--workers")
unfolding walked
is_workers = record { goes = λ h. refl; turn = λ h. refl; takes = λ h value. refl; settles = λ h value. refl; holds = λ h value. refl }

workers_goes : (verb : Verb) (value : Text) (n : ℕ) → in_range 1 16 (number_of value) ≡ Some n → OptionGoes verb value (codes "--workers") (given.Workers n)
workers_goes verbs.Replay value n is s u t h rest e stands k = absurd (some≢none u (sym e))
workers_goes verbs.Serve value n is s u t h rest e stands k =
    let first = first_time (is_some s.workers) (record s { workers = Some n }) u e in
    option_walks verbs.Serve (codes "workers") (codes "--workers") value s u t h rest is_workers stands (spelled_value 1 16 n value is) (no_workers s _ stands.shows first.0)
    (same_shows _ u _ first.1 (gives_workers s _ stands.shows n value is first.0)) (subst (IsOwn verbs.Serve) first.1 stands.own) k

option_goes : (verb : Verb) (value name : Text) (g : Given) → number_named name value ≡ Some g → OptionGoes verb value name g
option_goes verb value = by_number value (OptionGoes verb value) (device_goes verb value) (cpu_goes verb value) (rows_goes verb value) (port_goes verb value) (packets_goes verb value) (workers_goes verb value)

-- ---- all the words

some_then : {X Y : Type 0} (f : X → Option Y) (o : Option X) (y : Y) → option_and_then f o ≡ Some y → (x : X) × (o ≡ Some x) × (f x ≡ Some y)
some_then f None y e = absurd (some≢none y (sym e))
some_then f (Some x) y e = (x, refl, e)

-- two words or more, by whether the first is an option without a number
abbrev by_first : Verb → Settings → Text → Text → List Text → Option Given → Option Settings
by_first verb s name value rest (Some flag) = option_and_then (λ t. settings_from verb t (value ∷ rest)) (with_option flag verb s)
by_first verb s name value rest None = option_and_then (λ t. settings_from verb t rest) (option_and_then (λ option. with_option option verb s) (number_named name value))

-- the words that give settings are walked over, and what is held then is what the settings say
pub walks : (verb : Verb) (words : List Text) (s t : Settings) (h : Held) → settings_from verb s words ≡ Some t → Stands verb s h → Walks verb t h words
walks verb [] s t h e stands = walks_none verb t h (subst (λ v. Stands verb v h) (same_some s t e) stands)
walks verb (name ∷ []) s t h e stands =
    let flag = some_then (λ g. with_option g verb s) (flag_named name) t e in
    flag_goes verb name flag.0 flag.1 s t t h [] flag.2 stands (λ after stands. walks_none verb t after stands)
walks verb (name ∷ value ∷ rest) s t h e stands =
    go (flag_named name) refl e (λ u after e stands. walks verb (value ∷ rest) u t after e stands) (λ u after e stands. walks verb rest u t after e stands)
  where
    go : (o : Option Given) → flag_named name ≡ o → by_first verb s name value rest o ≡ Some t
        → ((u : Settings) (after : Held) → settings_from verb u (value ∷ rest) ≡ Some t → Stands verb u after → Walks verb t after (value ∷ rest))
        → ((u : Settings) (after : Held) → settings_from verb u rest ≡ Some t → Stands verb u after → Walks verb t after rest)
        → Walks verb t h (name ∷ value ∷ rest)
    go (Some flag) is e one two =
        let more = some_then (λ u. settings_from verb u (value ∷ rest)) (with_option flag verb s) t e in
        flag_goes verb name flag is s more.0 t h (value ∷ rest) more.1 stands (λ after stands. one more.0 after more.2 stands)
    go None is e one two =
        let more = some_then (λ u. settings_from verb u rest) (option_and_then (λ g. with_option g verb s) (number_named name value)) t e in
        let number = some_then (λ g. with_option g verb s) (number_named name value) more.0 more.1 in
        option_goes verb value name number.0 number.1 s more.0 t h rest number.2 stands (λ after stands. two more.0 after more.2 stands)

-- where the walk begins no option is given
pub begins : (verb : Verb) → Stands verb nothing_given nothing_held
begins verb = record {
  settles = refl;
  shows = record { lockstep = refl; bridge = refl; device = refl; cpu = refl; rows = refl; port = refl; packets = refl; workers = refl };
  own = nothing_own verb;
}
  where
    nothing_own : (verb : Verb) → IsOwn verb nothing_given
    nothing_own verbs.Replay = (refl, refl, refl)
    nothing_own verbs.Serve = (refl, refl)
