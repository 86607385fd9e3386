-- The answer to a call (P4Runtime 1.3.0, "Write RPC", "Error Reporting"; the order of a Write's refusals: this project's profile).
use Rattle.std.specs.Prelude.{◌≡◌, ℕ, ℤ, pos, negsuc, ◌==◌, nat_lt, not, Bool, true, false, if◌then◌else◌, List, [], ◌∷◌, map, length, Option, Some, None, is_some, Result, Ok, Err, is_err}
use Rattle.std.specs.List.{filter_map, list_any}
use Rattle.std.specs.Result.{result_ok}
use Rattle.p4_types.specs.declared.calls.ArbitrationUpdate.{ArbitrationUpdate}
use Rattle.p4_types.specs.declared.calls.Atomicity.{Atomicity}
use Rattle.p4_types.specs.declared.calls.Atomicity.TheVariants as atomicities
use Rattle.p4_types.specs.declared.calls.Call.{Call}
use Rattle.p4_types.specs.declared.calls.Call.TheVariants as calls
use Rattle.p4_types.specs.declared.calls.Method.{Method}
use Rattle.p4_types.specs.declared.calls.Method.TheVariants as methods
use Rattle.p4_types.specs.declared.calls.Notice.{Notice}
use Rattle.p4_types.specs.CodeNumber.{arbitration_code}
use Rattle.p4_types.specs.declared.code.ArbitrationRule.{ArbitrationRule}
use Rattle.p4_types.specs.declared.code.ArbitrationRule.TheVariants as arbitration
use Rattle.p4_types.specs.declared.code.Cause.{Cause}
use Rattle.p4_types.specs.declared.code.Code.{Code}
use Rattle.p4_types.specs.declared.code.Code.TheVariants as codes
use Rattle.p4_types.specs.declared.events.Event.TheVariants as events
use Rattle.p4_types.specs.declared.events.Origin.{Origin}
use Rattle.p4_types.specs.declared.messages.Error.{Error}
use Rattle.p4_types.specs.declared.messages.MasterArbitrationUpdate.{MasterArbitrationUpdate}
use Rattle.p4_types.specs.declared.messages.PacketOut.{PacketOut}
use Rattle.p4_types.specs.declared.messages.StreamMessageRequest.{StreamMessageRequest}
use Rattle.p4_types.specs.declared.messages.StreamMessageRequest.TheVariants as requests
use Rattle.p4_types.specs.declared.messages.Update.{Update}
use Rattle.p4_types.specs.declared.messages.WriteRequest.{WriteRequest}
use Rattle.p4_types.specs.declared.table.Change.{Change}
use Rattle.p4v1_read.specs.Calls.{call_of}
use Rattle.p4v1_read.specs.RoleConfigs.{read_update}
use Rattle.role_arbiter.specs.declared.sessions.Session.{Session}
use Rattle.role_arbiter.specs.Arbitration.{cause, asked, arbitrated, left}
use Rattle.role_arbiter.specs.State.{session_in}
use Rattle.role_arbiter.specs.Telling.{told_at_arbitration, told_at_leave}
use Rattle.plane_spec.specs.Planes.{ControlState, target, primary, is_of_primary, outcome, change_applied, outcomes}
use Rattle.plane_spec.specs.Config.{Event}
use Rattle.switch_spec.specs.Notices.{standing_notices, unserved_notice}
use Rattle.packet_out.specs.declared.rule.PacketRule.{PacketRule}
use Rattle.switch_spec.specs.PacketsOut.{packet_result, packet_notice}
use Rattle.switch_spec.specs.Reading.{read_result}
use Rattle.switch_spec.specs.Counts.{Figures}
use Rattle.switch_spec.specs.declared.calls.LaneCall.{LaneCall}
use Rattle.switch_spec.specs.declared.calls.LaneCall.TheVariants.{Asks, Leaves}
use Rattle.switch_spec.specs.declared.refusals.SetRefusal.{SetRefusal}
use Rattle.switch_spec.specs.declared.refusals.SetRefusal.TheVariants.{Breaks, Fails}
use Rattle.switch_spec.specs.Pipelines.{set_result, get_result, rule_status_bytes}
use Rattle.switch_spec.specs.Status.{status_bytes, no_error, error_of, aborted_error, write_status, capabilities_bytes}

-- what the call is
abbrev pub called : LaneCall → Call
called (Asks method message) = call_of method message
called Leaves = calls.Leave

-- what a call is answered, the events that it makes, and the packet that it makes enter at the CPU port
pub record Answer : Type 0 where
  pub code : Code
  pub messages : List (List ℕ)
  pub notices : List Notice
  pub events : List Event
  -- what a PacketOut makes enter at the CPU port
  pub packet : Option (List ℕ)

-- an answer that says its code and nothing else
abbrev pub plain : Code → List (List ℕ) → Answer
plain code messages = record { code = code; messages = messages; notices = []; events = []; packet = None }

-- a call that fails for this code alone
abbrev pub failed : Code → Answer
failed code = plain code (status_bytes code ∷ [])

-- an atomicity by its number
abbrev pub atomicity_of : ℤ → Option Atomicity
atomicity_of (pos n) = if n == 0 then Some atomicities.ContinueOnError else if n == 1 then Some atomicities.RollbackOnError else if n == 2 then Some atomicities.DataplaneAtomic else None
atomicity_of (negsuc n) = None

-- a list takes effect whole or not at all, unless each update stands by itself
abbrev pub is_atomic : Option Atomicity → Bool
is_atomic (Some atomicities.ContinueOnError) = false
is_atomic _ = true

-- why a Write is refused whole
abbrev pub write_refusal : ControlState → WriteRequest → Option Code
write_refusal c request =
    if not (request.device_id == c.device) then Some codes.NotFound else
    if not (is_of_primary (primary c request.role_id) request.election_id) then Some codes.PermissionDenied else
    if not (is_some (target c)) then Some codes.FailedPrecondition else
    if not (is_some (atomicity_of request.atomicity)) then Some codes.InvalidArgument else
    if nat_lt 4096 (length request.updates) then Some codes.ResourceExhausted else None

-- the Error of an update by itself: none where it succeeded
abbrev pub own_error : Result Change Cause → Error
own_error (Ok change) = no_error
own_error (Err cause) = error_of cause

-- the Errors of a batch that fails: the first failing update has its cause, every other is aborted
abbrev pub batch_errors : List (Result Change Cause) → List Error
batch_errors [] = []
batch_errors (Ok change ∷ others) = aborted_error ∷ batch_errors others
batch_errors (Err cause ∷ others) = error_of cause ∷ map (λ other. aborted_error) others

-- the reply to a Write: OK, or UNKNOWN with the Errors
abbrev pub write_reply : Bool → List Error → Answer
write_reply true errors = plain codes.Unknown (write_status errors ∷ [])
write_reply false errors = plain codes.Ok ([] ∷ [])

-- some update failed
abbrev pub has_failed : List (Result Change Cause) → Bool
has_failed list = list_any is_err list

-- each update that succeeds is a step
abbrev pub continued : Origin → List (Result Change Cause) → Answer
continued by list = record (write_reply (has_failed list) (map own_error list)) { events = map (events.Change by) (filter_map result_ok list) }

-- changes that are one step, or none where there is no change
abbrev pub batch : Origin → List Change → List Event
batch by [] = []
batch by (change ∷ list) = events.Batch by (change ∷ list) ∷ []

-- the whole list is one step, or none where an update fails
abbrev pub all_or_nothing : Origin → List (Result Change Cause) → Answer
all_or_nothing by list = record (write_reply (has_failed list) (batch_errors list)) { events = if has_failed list then [] else batch by (filter_map result_ok list) }

-- who wrote: the lane, its call, the role and the election id of the Write
abbrev pub origin : ℕ → ℕ → WriteRequest → Origin
origin lane k request = record { caller = lane; call = k; role = request.role_id; election_id = request.election_id }

-- what a Write answers that is not refused whole, by whether its list takes effect whole or not at all
abbrev pub written : Bool → Origin → List (Result Change Cause) → Answer
written atomic by list = if atomic then all_or_nothing by list else continued by list

-- the same where there is no code to refuse it whole, else that code
abbrev pub write_unless : Option Code → ControlState → ℕ → ℕ → WriteRequest → Answer
write_unless (Some code) c lane k request = failed code
write_unless None c lane k request = written (is_atomic (atomicity_of request.atomicity)) (origin lane k request) (outcomes c request.role_id request.updates)

-- what a Write is answered
abbrev pub write_answer : ControlState → ℕ → ℕ → WriteRequest → Answer
write_answer c lane k request = write_unless (write_refusal c request) c lane k request

-- a Read's messages, or the code with which it is refused
abbrev pub read_reply : Result (List (List ℕ)) Code → Answer
read_reply (Ok messages) = plain codes.Ok messages
read_reply (Err code) = failed code

-- a call that sets a pipeline: its events, or the code or the rule by which it is refused
abbrev pub set_reply : Result (List Event) SetRefusal → Answer
set_reply (Ok list) = record (plain codes.Ok ([] ∷ [])) { events = list }
set_reply (Err (Breaks rule)) = plain codes.InvalidArgument (rule_status_bytes rule ∷ [])
set_reply (Err (Fails code)) = failed code

-- a call that gets a pipeline: its one message, or the code with which it is refused
abbrev pub get_reply : Result (List ℕ) Code → Answer
get_reply (Ok message) = plain codes.Ok (message ∷ [])
get_reply (Err code) = failed code

-- a message of the stream channel has no Status
abbrev pub unreadable : Method → Answer
unreadable methods.StreamChannel = plain codes.InvalidArgument []
unreadable _ = failed codes.InvalidArgument

-- a session is made or changed as the update asks for, unless a rule refuses it
abbrev pub arbitration_unless : Option ArbitrationRule → ControlState → ℕ → ℕ → ArbitrationUpdate → Answer
arbitration_unless (Some rule) c lane k update = plain (arbitration_code rule) []
arbitration_unless None c lane k update =
    let new = asked lane update in
    record (plain codes.Ok []) {
      notices = standing_notices c.device (arbitrated c.roles new) new.role (told_at_arbitration c.roles new);
      events = events.Arbitrate (record { caller = lane; call = k; role = new.role; election_id = new.election_id }) new.config ∷ [];
    }

-- A1 to A5: the device is looked at first
abbrev pub arbitration_answer : ControlState → ℕ → ℕ → MasterArbitrationUpdate → Answer
arbitration_answer c lane k update =
    arbitration_unless (if update.device_id == c.device then cause c.roles lane (read_update update) else Some arbitration.A1) c lane k (read_update update)

-- the caller is told that its message is not served
abbrev pub unserved_answer : ℕ → Answer
unserved_answer lane = record (plain codes.Ok []) { notices = unserved_notice lane ∷ [] }

-- a packet of a controller enters at the CPU port, or its lane is told by which rule it is refused; it makes no step
abbrev pub packet_reply : ℕ → PacketOut → Result (List ℕ) PacketRule → Answer
packet_reply lane packet (Ok bytes) = record (plain codes.Ok []) { packet = Some bytes }
packet_reply lane packet (Err rule) = record (plain codes.Ok []) { notices = packet_notice lane rule packet ∷ [] }

-- A message of the stream channel. An acknowledgement changes nothing.
abbrev pub stream_answer : ControlState → ℕ → ℕ → Option StreamMessageRequest → Answer
stream_answer c lane k None = plain codes.InvalidArgument []
stream_answer c lane k (Some (requests.Arbitration update)) = arbitration_answer c lane k update
stream_answer c lane k (Some (requests.Packet packet)) = packet_reply lane packet (packet_result c lane packet)
stream_answer c lane k (Some (requests.DigestAck acknowledged)) = plain codes.Ok []
stream_answer c lane k (Some (requests.Other other)) = unserved_answer lane

-- the end of a stream: a session ends, if the lane has one
abbrev pub leave_of : Option Session → ControlState → ℕ → ℕ → Answer
leave_of None c lane k = plain codes.Ok []
leave_of (Some session) c lane k =
    record (plain codes.Ok []) { notices = standing_notices c.device (left c.roles lane) session.role (told_at_leave c.roles lane); events = events.Leave lane k ∷ [] }

-- what the end of a lane's stream is answered
abbrev pub leave_answer : ControlState → ℕ → ℕ → Answer
leave_answer c lane k = leave_of (session_in c.roles.sessions lane) c lane k

-- By what is asked. The figures are for a Read of counters.
abbrev pub answer_to : ControlState → Figures → ℕ → ℕ → Call → Answer
answer_to c g lane k (calls.Write request) = write_answer c lane k request
answer_to c g lane k (calls.Read request) = read_reply (read_result c g request)
answer_to c g lane k (calls.Set request) = set_reply (set_result c lane k request)
answer_to c g lane k (calls.Get request) = get_reply (get_result c request)
answer_to c g lane k (calls.Stream message) = stream_answer c lane k message
answer_to c g lane k calls.Capabilities = plain codes.Ok (capabilities_bytes ∷ [])
answer_to c g lane k (calls.Unreadable method) = unreadable method
answer_to c g lane k calls.Leave = leave_answer c lane k

-- the answer to the k-th call of a lane, where the counters have these figures
unfoldable pub answer : ControlState → Figures → ℕ → ℕ → LaneCall → Answer
answer c g lane k call = answer_to c g lane k (called call)

-- The events of a call do not depend on what has been counted.
abbrev pub EventsIgnoreFigures : Type 0
EventsIgnoreFigures = (c : ControlState) (g h : Figures) (lane k : ℕ) (call : LaneCall) → (answer c g lane k call).events ≡ (answer c h lane k call).events
