-- The commands as `clap` has them: a command of its own for each, with its options.
use Rattle.std.specs.Prelude.{◌≡◌, ◌^◌, ◌-◌, List, ◌∷◌, [], Option, Some, None, ℕ, Bool, true, false, codes, option_and_then}
use Rattle.clap.specs.Walk.{Row, Rule, Text, first_of, one_of}
use Rattle.clap.specs.Simple.{App, new_rule, new_shape}
use Rattle.clap.specs.declared.builder.action.ArgAction.TheVariants.{Set, SetTrue}
use Rattle.command_words.specs.declared.words.Settings.{Settings}
use Rattle.command_words.specs.declared.words.Verb.{Verb}
use Rattle.command_words.specs.declared.words.Verb.TheVariants as verbs
use Rattle.command_words.specs.Words.{in_range, number_of}

-- an option with a value
abbrev pub option_rule : Text → Rule
option_rule name = record (new_rule name) { long = Some name; action = Some Set }

-- an option without a value
abbrev pub flag_rule : Text → Rule
flag_rule name = record (new_rule name) { long = Some name; action = Some SetTrue }

-- the options that a command has
abbrev pub options_of : Verb → List Rule
options_of verbs.Replay = flag_rule (codes "lockstep") ∷ flag_rule (codes "bridge") ∷ option_rule (codes "device") ∷ option_rule (codes "cpu") ∷ option_rule (codes "rows") ∷ []
options_of verbs.Serve = option_rule (codes "device") ∷ option_rule (codes "cpu") ∷ option_rule (codes "rows") ∷ option_rule (codes "port") ∷ option_rule (codes "packets") ∷ option_rule (codes "workers") ∷ []

abbrev pub name_of : Verb → Text
name_of verbs.Replay = codes "replay"
name_of verbs.Serve = codes "serve"

-- A command with these arguments and no others, not even one that asks for help. Its words are those behind its name.
abbrev pub app_with : Text → List Rule → App
app_with name rules = record { top = record (new_shape name) { rules = rules; no_binary_name = true; disable_help_flag = true }; subs = [] }

-- a command that has options
abbrev pub options_app : Verb → App
options_app verb = app_with (name_of verb) (options_of verb)

-- the command without arguments
abbrev pub check_app : App
check_app = app_with (codes "check") []

-- the command whose argument is a number without a name
abbrev pub gen_app : App
gen_app = app_with (codes "gen") (record (new_rule (codes "number")) { action = Some Set } ∷ [])

-- the number of an argument's value, in a range
abbrev pub number_at : Text → ℕ → ℕ → List Row → Option ℕ
number_at name low high lines = option_and_then (λ word. in_range low high (number_of word)) (first_of name lines)

-- what `clap` has of an option without a value
abbrev pub flag_text : Bool → Text
flag_text true = codes "true"
flag_text false = codes "false"

-- the matches have what the settings say of the options of both commands
pub record GivesStart (s : Settings) (lines : List Row) : Type 0 where
  pub device : number_at (codes "device") 1 (10 ^ 19 - 1) lines ≡ s.device
  pub cpu : number_at (codes "cpu") 1 510 lines ≡ s.cpu
  pub rows : number_at (codes "rows") 1024 262144 lines ≡ s.rows

-- the matches of a replay have all that the settings say
pub record GivesReplay (s : Settings) (lines : List Row) : Type 0 where
  pub lockstep : one_of (codes "lockstep") lines ≡ Some (flag_text s.lockstep)
  pub bridge : one_of (codes "bridge") lines ≡ Some (flag_text s.bridge)
  pub start : GivesStart s lines
  pub port : s.port ≡ None
  pub packets : s.packets ≡ None
  pub workers : s.workers ≡ None

-- those of serving
pub record GivesServe (s : Settings) (lines : List Row) : Type 0 where
  pub lockstep : s.lockstep ≡ false
  pub bridge : s.bridge ≡ false
  pub start : GivesStart s lines
  pub port : number_at (codes "port") 1 65535 lines ≡ s.port
  pub packets : number_at (codes "packets") 1 65534 lines ≡ s.packets
  pub workers : number_at (codes "workers") 1 16 lines ≡ s.workers

abbrev pub Gives : Verb → Settings → List Row → Type 0
Gives verbs.Replay s lines = GivesReplay s lines
Gives verbs.Serve s lines = GivesServe s lines
