-- A parse's steps as the code has them.
use Rattle.std.specs.Prelude.{ℕ, ◌<◌, Bool, true, false, List, drop, Result, Ok, Err}
use Rattle.canon_bytes.specs.Bits.{bits}
use Rattle.bm_expr.specs.Store.{Contents}
use Rattle.pkt_codec.specs.declared.parsing.Step.{Step}
use Rattle.pkt_codec.specs.declared.parsing.Step.TheVariants as steps
use Rattle.program_spec.specs.Parsing.{Reading, Outcome, Stopped, Accepted, Goes}

-- where a parse stands that has extracted so many bytes of a packet
abbrev pub reading_at : List ℕ → ℕ → Contents → Reading
reading_at packet used store = record { store = store; rest = bits (drop used packet) }

-- operations that went on, or that stopped the parse
abbrev pub went_on : Bool → Reading → Result Reading Reading
went_on true reading = Ok reading
went_on false reading = Err reading

-- what follows a state
abbrev pub outcome_of : Step → Outcome
outcome_of (steps.Stopped error) = Stopped error
outcome_of steps.Accepted = Accepted
outcome_of (steps.Goes next) = Goes next

-- the state that a parse goes on in is one of so many
abbrev pub GoesWithin : ℕ → Step → Type 0
GoesWithin states (steps.Stopped error) = Unit {0}
GoesWithin states steps.Accepted = Unit {0}
GoesWithin states (steps.Goes next) = next < states
