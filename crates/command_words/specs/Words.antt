-- The grammar of the command line, behind the program's name: all commands, with their options (this project's profile).
use Rattle.std.specs.Prelude.{ℕ, ◌^◌, ◌-◌, ◌&&◌, nat_lt, nat_le, Bool, true, false, if◌then◌else◌, List, [], ◌∷◌, Option, Some, None, is_some, unwrap_or, codes}
use Rattle.std.specs.Option.{option_map, option_and_then}
use Rattle.std.specs.Fmt.{decimal}
use Rattle.std.specs.Str.{bytes_eq}
use Rattle.std.specs.Str.Parse.{digits_value}
use Rattle.p4_types.specs.declared.events.Start.{Start}
use Rattle.command_words.specs.declared.words.Command.{Command}
use Rattle.command_words.specs.declared.words.Command.TheVariants as commands
use Rattle.command_words.specs.declared.words.Given.{Given}
use Rattle.command_words.specs.declared.words.Given.TheVariants as given
use Rattle.command_words.specs.declared.words.Mode.{Mode}
use Rattle.command_words.specs.declared.words.Mode.TheVariants as modes
use Rattle.command_words.specs.declared.words.Settings.{Settings}
use Rattle.command_words.specs.declared.words.Verb.{Verb}
use Rattle.command_words.specs.declared.words.Verb.TheVariants as verbs

-- The number that a word spells in decimal digits, without a sign and without a leading zero but in 0, of 19 digits at most.
abbrev pub number_of : List ℕ → Option ℕ
number_of word = let n = digits_value 10 word in if nat_lt n (10 ^ 19) && bytes_eq word (decimal n) then Some n else None

-- the same in a range
abbrev pub in_range : ℕ → ℕ → Option ℕ → Option ℕ
in_range low high None = None
in_range low high (Some n) = if nat_le low n && nat_le n high then Some n else None

-- an option without a number
abbrev pub flag_named : List ℕ → Option Given
flag_named name =
    if bytes_eq name (codes "--lockstep") then Some given.Lockstep else
    if bytes_eq name (codes "--bridge") then Some given.Bridge else None

-- an option with its number, which is the word behind it
abbrev pub number_named : List ℕ → List ℕ → Option Given
number_named name value =
    let n = number_of value in
    if bytes_eq name (codes "--device") then option_map given.Device (in_range 1 (10 ^ 19 - 1) n) else
    if bytes_eq name (codes "--cpu") then option_map given.Cpu (in_range 1 510 n) else
    if bytes_eq name (codes "--rows") then option_map given.Rows (in_range 1024 262144 n) else
    if bytes_eq name (codes "--port") then option_map given.Port (in_range 1 65535 n) else
    if bytes_eq name (codes "--packets") then option_map given.Packets (in_range 1 65534 n) else
    if bytes_eq name (codes "--workers") then option_map given.Workers (in_range 1 16 n) else None

-- no option is given yet
abbrev pub nothing_given : Settings
nothing_given = record { lockstep = false; bridge = false; device = None; cpu = None; rows = None; port = None; packets = None; workers = None }

-- an option is given once
abbrev pub once : Bool → Settings → Option Settings
once true settings = None
once false settings = Some settings

-- the settings with an option more: it is one of the command, and was not given before
abbrev pub with_option : Given → Verb → Settings → Option Settings
with_option given.Lockstep verbs.Replay s = once s.lockstep (record s { lockstep = true })
with_option given.Lockstep verbs.Serve s = None
with_option given.Bridge verbs.Replay s = once s.bridge (record s { bridge = true })
with_option given.Bridge verbs.Serve s = None
with_option (given.Device n) verb s = once (is_some s.device) (record s { device = Some n })
with_option (given.Cpu n) verb s = once (is_some s.cpu) (record s { cpu = Some n })
with_option (given.Rows n) verb s = once (is_some s.rows) (record s { rows = Some n })
with_option (given.Port n) verbs.Replay s = None
with_option (given.Port n) verbs.Serve s = once (is_some s.port) (record s { port = Some n })
with_option (given.Packets n) verbs.Replay s = None
with_option (given.Packets n) verbs.Serve s = once (is_some s.packets) (record s { packets = Some n })
with_option (given.Workers n) verbs.Replay s = None
with_option (given.Workers n) verbs.Serve s = once (is_some s.workers) (record s { workers = Some n })

-- the settings that options give, which come in any order
abbrev pub settings_from : Verb → Settings → List (List ℕ) → Option Settings
settings_from verb s [] = Some s
settings_from verb s (name ∷ []) = option_and_then (λ flag. with_option flag verb s) (flag_named name)
settings_from verb s (name ∷ value ∷ rest) = elim (flag_named name) [
  | Some flag ↦ option_and_then (λ t. settings_from verb t (value ∷ rest)) (with_option flag verb s)
  | None ↦ option_and_then (λ t. settings_from verb t rest) (option_and_then (λ option. with_option option verb s) (number_named name value))
]

-- with what a switch starts: device 1, the CPU port 255 and 16,384 rows where no option says another, and 1,048,576 slots of counters
abbrev pub start_of : Settings → Start
start_of s = record { device = unwrap_or s.device 1; cpu = unwrap_or s.cpu 255; rows = unwrap_or s.rows 16384; slots = 1048576; bridge = s.bridge }

-- a replay is in lockstep where that was asked for, and free else
abbrev pub mode_of : Bool → Mode
mode_of true = modes.Lockstep
mode_of false = modes.Free

-- a replay, in lockstep or free
abbrev pub replay_of : Settings → Command
replay_of s = commands.Replay (mode_of s.lockstep) (start_of s)

-- serving at a port, which is always given; packets at UDP port 9,000 and 2 workers where no option says another
abbrev pub serve_at : Option ℕ → Settings → Option Command
serve_at None s = None
serve_at (Some port) s = Some (commands.Serve port (unwrap_or s.packets 9000) (unwrap_or s.workers 2) (start_of s))

-- the check of a configuration has no options
abbrev pub check_of : List (List ℕ) → Option Command
check_of [] = Some commands.Check
check_of (word ∷ words) = None

-- a made tape, by its number
abbrev pub gen_of : List (List ℕ) → Option Command
gen_of [] = None
gen_of (word ∷ []) = option_map commands.Gen (in_range 1 64 (number_of word))
gen_of (word ∷ other ∷ words) = None

-- the command of this name with these words behind it
abbrev pub command_named : List ℕ → List (List ℕ) → Option Command
command_named name words =
    if bytes_eq name (codes "replay") then option_map replay_of (settings_from verbs.Replay nothing_given words) else
    if bytes_eq name (codes "serve") then option_and_then (λ s. serve_at s.port s) (settings_from verbs.Serve nothing_given words) else
    if bytes_eq name (codes "check") then check_of words else
    if bytes_eq name (codes "gen") then gen_of words else None

-- the command that the words are, if they are in the grammar
abbrev pub command_of : List (List ℕ) → Option Command
command_of [] = None
command_of (name ∷ words) = command_named name words
