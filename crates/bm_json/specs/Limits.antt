-- The limits of a program (this project's profile).
use Rattle.std.specs.Prelude.{ℕ, ◌+◌, nat_lt, Bool, ◌||◌, not, List, length, count_by, sum_by, Option, Some, None}
use Rattle.std.specs.List.{list_any}
use Rattle.bm_records.specs.declared.raw.HeaderType.{HeaderType}
use Rattle.bm_records.specs.declared.raw.Header.{Header}
use Rattle.bm_records.specs.declared.raw.CounterArray.{CounterArray}
use Rattle.bm_records.specs.declared.raw.Action.{Action}
use Rattle.bm_records.specs.declared.raw.LearnList.{LearnList}
use Rattle.bm_records.specs.declared.raw.Pipelines.{Pipelines}
use Rattle.bm_records.specs.declared.raw.RawProgram.{RawProgram}
use Rattle.bm_json.specs.LeftOut.{type_named}

-- how many fields a header type has; where there is none, 0
abbrev pub fields_in : Option HeaderType → ℕ
fields_in None = 0
fields_in (Some type) = length type.fields

-- how many fields a header has
abbrev pub fields_of : List HeaderType → Header → ℕ
fields_of types header = fields_in (type_named types header.header_type)

-- the headers have more than so many fields together
abbrev pub has_more_fields : ℕ → List HeaderType → List Header → Bool
has_more_fields most types headers = nat_lt most (sum_by (fields_of types) headers)

-- 8 parameters and 64 primitives of an action
abbrev pub action_exceeds : Action → Bool
action_exceeds action = nat_lt 8 (length action.runtime_data) || nat_lt 64 (length action.primitives)

-- 128 direct and 128 indirect counter arrays
abbrev pub counters_exceed : List CounterArray → Bool
counters_exceed counters = nat_lt 128 (count_by (λ counter. counter.is_direct) counters) || nat_lt 128 (count_by (λ counter. not counter.is_direct) counters)

-- 128 tables and 128 action profiles in both pipelines, and 16 fields of a key
abbrev pub pipelines_exceed : Pipelines → Bool
pipelines_exceed pipelines =
    nat_lt 128 (length pipelines.ingress.tables + length pipelines.egress.tables) || nat_lt 128 (length pipelines.ingress.action_profiles + length pipelines.egress.action_profiles)
    || list_any (λ table. nat_lt 16 (length table.key)) pipelines.ingress.tables || list_any (λ table. nat_lt 16 (length table.key)) pipelines.egress.tables

-- 128 headers with 1,024 fields
abbrev pub headers_exceed : RawProgram → Bool
headers_exceed program = nat_lt 128 (length program.headers) || has_more_fields 1024 program.header_types program.headers

-- 128 learn lists of 128 elements
abbrev pub learn_lists_exceed : List LearnList → Bool
learn_lists_exceed lists = nat_lt 128 (length lists) || list_any (λ list. nat_lt 128 (length list.elements)) lists

-- 512 actions and 256 states
abbrev pub objects_exceed : RawProgram → Bool
objects_exceed program = nat_lt 512 (length program.actions) || list_any action_exceeds program.actions || nat_lt 256 (length program.parser.parse_states)

-- the program exceeds a limit
unfoldable pub exceeds : RawProgram → Bool
exceeds program = headers_exceed program || counters_exceed program.counter_arrays || pipelines_exceed program.pipelines || learn_lists_exceed program.learn_lists || objects_exceed program
