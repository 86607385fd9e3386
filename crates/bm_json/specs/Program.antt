-- A program, and the bytes that it stands in (BMv2 JSON form; what is served of it: this project's profile).
use Rattle.std.specs.Prelude.{◌≡◌, ℕ, nat_lt, Bool, ◌||◌, if◌then◌else◌, List, length, Result, Ok, Err, Option, Some, None, codes}
use Rattle.std.specs.Str.{is_utf8}
use Rattle.serde_json.specs.Data.{Data}
use Rattle.serde_json.specs.Read.{read}
use Rattle.list_types.specs.declared.memory.Refusal.{Refusal}
use Rattle.list_types.specs.declared.memory.Refusal.TheVariants.{NoMemory, For}
use Rattle.bm_json.specs.declared.faults.JsonFault.{JsonFault}
use Rattle.bm_records.specs.declared.raw.RawProgram.{RawProgram}
use Rattle.list_types.specs.Options.{◌>>=◌}
use Rattle.json_shapes.specs.Shapes.{required, list_of, list_or_empty, list_unless_absent, has_items}
use Rattle.json_shapes.specs.Arrays.{only_of}
use Rattle.bm_records.specs.Primitives.{action_of}
use Rattle.bm_records.specs.Parsers.{parser_of, deparser_of}
use Rattle.bm_records.specs.Objects.{header_type_of, header_of, error_of, counter_of, calculation_of, checksum_of, learn_list_of}
use Rattle.bm_records.specs.Pipelines.{pipelines_of}
use Rattle.bm_json.specs.LeftOut.{has_left_out}
use Rattle.bm_json.specs.Limits.{exceeds}

-- registers, meters or extern instances are listed
abbrev pub lists_state : Data → Bool
lists_state d = has_items (codes "register_arrays") d || has_items (codes "meter_arrays") d || has_items (codes "extern_instances") d

-- value sets, stacks or unions are listed
abbrev pub lists_stacks : Data → Bool
lists_stacks d = has_items (codes "parse_vsets") d || has_items (codes "header_stacks") d || has_items (codes "header_unions") d || has_items (codes "header_union_types") d || has_items (codes "header_union_stacks") d

-- objects that are left out are listed: some of those above
unfoldable pub lists_left_out : Data → Bool
lists_left_out d = lists_state d || lists_stacks d

-- the raw records of a program
unfoldable pub program_of : Data → Option RawProgram
program_of d = do
  header_types ← required (list_of header_type_of) (codes "header_types") d
  headers ← required (list_of header_of) (codes "headers") d
  errors ← list_unless_absent error_of (codes "errors") d
  parser ← required (only_of parser_of) (codes "parsers") d
  deparser ← required (only_of deparser_of) (codes "deparsers") d
  counter_arrays ← list_or_empty counter_of (codes "counter_arrays") d
  calculations ← list_or_empty calculation_of (codes "calculations") d
  checksums ← list_or_empty checksum_of (codes "checksums") d
  learn_lists ← list_or_empty learn_list_of (codes "learn_lists") d
  actions ← required (list_of action_of) (codes "actions") d
  pipelines ← required pipelines_of (codes "pipelines") d
  Some (record { header_types = header_types; headers = headers; errors = errors; parser = parser.only; deparser = deparser.only; counter_arrays = counter_arrays; calculations = calculations; checksums = checksums; learn_lists = learn_lists; actions = actions; pipelines = pipelines; lists_left_out = lists_left_out d })

-- the value of a text in UTF-8 (RFC 8259)
abbrev pub json_in : List ℕ → Option Data
json_in bytes = if is_utf8 bytes then read bytes else None

-- the raw records in a device configuration of at most 4 MiB
unfoldable pub program_in : List ℕ → Option RawProgram
program_in bytes = if nat_lt 4194304 (length bytes) then None else json_in bytes >>= program_of

-- the fault is of this rule, unless there was no memory to tell it
abbrev pub IsOfRule : Refusal JsonFault → ℕ → Type 0
IsOfRule NoMemory rule = Unit {0}
IsOfRule (For fault) rule = fault.rule ≡ rule

-- why nothing is answered: there is no memory, or nothing is read, by the rule L1
abbrev pub Refused : {A : Type 0} → Refusal JsonFault → Option A → Type 0
Refused NoMemory read = Unit {0}
Refused (For fault) read = (read ≡ None) × (fault.rule ≡ 1)

-- the answer, seen by view, is what is read, unless it is refused
abbrev pub Finds : {A B : Type 0} → (A → B) → Result A (Refusal JsonFault) → Option B → Type 0
Finds view (Ok x) read = read ≡ Some (view x)
Finds view (Err e) read = Refused e read

-- the rule that the raw records break first: L2 by a form that is left out, L3 by a limit
abbrev pub flaw_of : RawProgram → Option ℕ
flaw_of program = if has_left_out program then Some 2 else if exceeds program then Some 3 else None

-- the same where raw records are read, and L1 where none are
abbrev pub flaw_by : Option RawProgram → Option ℕ
flaw_by None = Some 1
flaw_by (Some program) = flaw_of program

-- the rule of L1 to L3 that a device configuration breaks first
abbrev pub flaw : List ℕ → Option ℕ
flaw bytes = flaw_by (program_in bytes)

-- the answer is what is read, where no rule is broken, or the rule that is broken first, unless there is no memory
abbrev pub Answers : List ℕ → Result RawProgram (Refusal JsonFault) → Type 0
Answers bytes (Ok program) = (program_in bytes ≡ Some program) × (flaw bytes ≡ None)
Answers bytes (Err NoMemory) = Unit {0}
Answers bytes (Err (For fault)) = flaw bytes ≡ Some fault.rule
