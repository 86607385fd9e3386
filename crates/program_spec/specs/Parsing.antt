-- What a parser makes of a packet's bits (P4-16, "Packet parsing"; BMv2 JSON form, "parsers").
use Rattle.std.specs.Prelude.{◌≡◌, ℕ, zero, suc, ◌+◌, ◌==◌, nat_lt, bit_and, Bool, true, false, if◌then◌else◌, List, [], ◌∷◌, find, drop, length, slice_get, slice_set, Option, Some, None, Result, Ok, Err}
use Rattle.std.specs.List.{splice}
use Rattle.bm_expr.specs.Meaning.{number_value}
use Rattle.bm_expr.specs.Store.{Contents, assigned, validity_written}
use Rattle.bm_pipeline.specs.declared.headers.Header.{Header}
use Rattle.bm_pipeline.specs.declared.parser.KeyTest.{KeyTest}
use Rattle.bm_pipeline.specs.declared.parser.KeyTest.TheVariants as tests
use Rattle.bm_pipeline.specs.declared.parser.ParseState.{ParseState}
use Rattle.bm_pipeline.specs.declared.parser.ParserOp.{ParserOp}
use Rattle.bm_pipeline.specs.declared.parser.ParserOp.TheVariants as ops
use Rattle.bm_pipeline.specs.declared.parser.Transition.{Transition}
use Rattle.bm_pipeline.specs.declared.program.Program.{Program}
use Rattle.program_spec.specs.Numbers.{runs}
use Rattle.program_spec.specs.Stores.{assigned_if, joined}

-- where a parse stands: the packet's store, and the bits that were not extracted
pub record Reading : Type 0 where
  pub store : Contents
  pub rest : List ℕ

-- what a parse ended with: the same, and the number of its error
pub record Parsed : Type 0 where
  pub store : Contents
  pub rest : List ℕ
  pub error : ℕ

-- a header's fields are the first of these bits, and it is valid
abbrev pub header_read : Header → List ℕ → Contents → Contents
header_read header bits store = record {
  fields = splice store.fields header.place.first (header.place.first + header.place.count) (runs header.widths bits);
  valid = slice_set store.valid header.place.header true;
}

-- `extract`: the header takes its bits; where fewer are left it is invalid, and the parse stops there
abbrev pub extracted : Option Header → Reading → Result Reading Reading
extracted None reading = Ok reading
extracted (Some header) reading =
    if nat_lt (length reading.rest) header.bits
    then Err (record reading { store = validity_written reading.store header.place.header false })
    else Ok (record { store = header_read header reading.rest reading.store; rest = drop header.bits reading.rest })

-- an operation of a state
abbrev pub op_done : Program → Reading → ParserOp → Result Reading Reading
op_done program reading (ops.Extract header) = extracted (slice_get program.headers header) reading
op_done program reading (ops.Set target value) = Ok (record reading { store = assigned reading.store target (number_value reading.store [] value) })

-- goes on where the parse was not stopped
abbrev pub unless_stopped : Result Reading Reading → (Reading → Result Reading Reading) → Result Reading Reading
unless_stopped (Ok reading) others = others reading
unless_stopped (Err reading) others = Err reading

-- operations in order, up to the first that stops the parse
abbrev pub ops_done : Program → List ParserOp → Reading → Result Reading Reading
ops_done program [] reading = Ok reading
ops_done program (op ∷ others) reading = unless_stopped (op_done program reading op) (ops_done program others)

-- a key passes the test of a transition
abbrev pub key_passes : KeyTest → ℕ → Bool
key_passes tests.Default key = true
key_passes (tests.Masked value mask) key = bit_and key mask == bit_and value mask

-- the first transition that a state's key takes
unfoldable pub taken : ParseState → Contents → Option Transition
taken state store = find (λ transition. key_passes transition.test (joined store state.transition_key)) state.transitions

-- what a state does: the parse ends with an error's number, is accepted, or goes on in another state
pub data Outcome : Type 0 where
  Stopped : ℕ → Outcome
  Accepted : Outcome
  Goes : ℕ → Outcome

-- where a transition leads to
abbrev pub led_to : Option ℕ → Outcome
led_to None = Accepted
led_to (Some next) = Goes next

-- what follows the transition that is taken; without one the parse ends
abbrev pub led : Program → Option Transition → Outcome
led program None = Stopped program.errors.no_match
led program (Some transition) = led_to transition.next_state

-- where the parse stands behind a state, and what follows
pub record StateEnd : Type 0 where
  pub reading : Reading
  pub outcome : Outcome

-- the end of a state whose operations were done, or stopped the parse
abbrev pub ended : Program → ParseState → Result Reading Reading → StateEnd
ended program state (Ok reading) = record { reading = reading; outcome = led program (taken state reading.store) }
ended program state (Err reading) = record { reading = reading; outcome = Stopped program.errors.packet_too_short }

-- what a state does: its operations in order, then the first transition that its key takes
abbrev pub state_done : Program → Option ParseState → Reading → StateEnd
state_done program None reading = record { reading = reading; outcome = Accepted }
state_done program (Some state) reading = ended program state (ops_done program state.parser_ops reading)

-- the state at a place
abbrev pub state_at : Program → ℕ → Option ParseState
state_at program place = slice_get program.parser.parse_states place

-- a parse that ended
abbrev pub with_error : Reading → ℕ → Parsed
with_error reading error = record { store = reading.store; rest = reading.rest; error = error }

-- behind a state the parse has ended so, and goes by no other state; or it goes on
abbrev pub Follows : Program → List ℕ → Reading → Parsed → (ℕ → Type 0) → Outcome → Type 0
Follows program path reading parsed goes (Stopped error) = (path ≡ []) × (parsed ≡ with_error reading error)
Follows program path reading parsed goes Accepted = (path ≡ []) × (parsed ≡ with_error reading program.errors.no_error)
Follows program path reading parsed goes (Goes next) = goes next

-- from a state a parse goes by these states in order, itself first, and ends so
abbrev pub Parses : Program → ℕ → List ℕ → Reading → Parsed → Type 0
Parses program state [] reading parsed = ⊥
Parses program state (place ∷ path) reading parsed =
    (place ≡ state) × Follows program path (state_done program (state_at program state) reading).reading parsed
    (λ next. Parses program next path (state_done program (state_at program state) reading).reading parsed)
    (state_done program (state_at program state) reading).outcome

-- what a parse ends with behind a state, where it may go on
abbrev pub parse_on : Program → Reading → (ℕ → Parsed) → Outcome → Parsed
parse_on program reading goes (Stopped error) = with_error reading error
parse_on program reading goes Accepted = with_error reading program.errors.no_error
parse_on program reading goes (Goes next) = goes next

-- The same as a function, of at most so many states. A parser without a loop never comes to the end of them.
abbrev pub parse_from : Program → ℕ → ℕ → Reading → Parsed
parse_from program zero state reading = with_error reading program.errors.no_error
parse_from program (suc more) state reading =
    parse_on program (state_done program (state_at program state) reading).reading
    (λ next. parse_from program more next (state_done program (state_at program state) reading).reading)
    (state_done program (state_at program state) reading).outcome

-- `parser_error` is set
abbrev pub told : Program → Parsed → Parsed
told program parsed = record parsed { store = assigned_if program.standard_metadata.parser_error parsed.error parsed.store }

-- what becomes of a packet's bits in this store
unfoldable pub parse : Program → List ℕ → Contents → Parsed
parse program bits store =
    told program (parse_from program (length program.parser.parse_states) program.parser.init_state (record { store = store; rest = bits }))
