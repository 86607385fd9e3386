-- The answers to calls that set and get pipelines (P4Runtime 1.3.0, "SetForwardingPipelineConfig RPC", "GetForwardingPipelineConfig RPC"; the order of the refusals: this project's profile).
use Rattle.std.specs.Prelude.{ℕ, ◌+◌, ◌==◌, ◌&&◌, not, nat_lt, ℤ, pos, negsuc, Bool, true, false, if◌then◌else◌, List, [], ◌∷◌, ◌++◌, codes, Option, Some, None, is_some, option_map, Result, Ok, Err}
use Rattle.std.specs.Fmt.{decimal}
use Rattle.link_spec.specs.Configured.{config_meant}
use Rattle.p4_types.specs.CodeNumber.{code_number}
use Rattle.p4_types.specs.declared.calls.PipelineAction.{PipelineAction}
use Rattle.p4_types.specs.declared.calls.PipelineAction.TheVariants as actions
use Rattle.p4_types.specs.declared.calls.ResponseType.{ResponseType}
use Rattle.p4_types.specs.declared.calls.ResponseType.TheVariants as types
use Rattle.p4_types.specs.declared.code.Code.{Code}
use Rattle.p4_types.specs.declared.code.Code.TheVariants as codes_of
use Rattle.p4_types.specs.declared.code.ConfigRule.{ConfigRule}
use Rattle.p4_types.specs.declared.code.ConfigRule.TheVariants as broken
use Rattle.p4_types.specs.declared.events.Committed.TheVariants as contents
use Rattle.p4_types.specs.declared.events.Event.TheVariants as events
use Rattle.p4_types.specs.declared.events.Origin.{Origin}
use Rattle.p4_types.specs.declared.messages.ForwardingPipelineConfig.{ForwardingPipelineConfig}
use Rattle.p4_types.specs.declared.messages.GetForwardingPipelineConfigRequest.{GetForwardingPipelineConfigRequest}
use Rattle.p4_types.specs.declared.messages.GetForwardingPipelineConfigResponse.{GetForwardingPipelineConfigResponse}
use Rattle.p4_types.specs.declared.messages.SetForwardingPipelineConfigRequest.{SetForwardingPipelineConfigRequest}
use Rattle.p4_types.specs.declared.messages.Status.{Status}
use Rattle.p4_types.specs.declared.messages.Uint128.{Uint128}
use Rattle.p4v1_wire.specs.ResponseRows.{get_response_rows}
use Rattle.p4v1_wire.specs.Rows.{fields_by}
use Rattle.p4v1_wire.specs.StatusRows.{status_rows}
use Rattle.plane_spec.specs.Config.{Config, Event, cells_in}
use Rattle.plane_spec.specs.Planes.{ControlState, Plane, target, primary, is_of_primary, scope_in}
use Rattle.role_arbiter.specs.declared.sessions.Session.{Session}
use Rattle.switch_spec.specs.declared.refusals.SetRefusal.{SetRefusal}
use Rattle.switch_spec.specs.declared.refusals.SetRefusal.TheVariants.{Breaks, Fails}
use Rattle.wire_fields.specs.Spelling.{spelling}

-- an action that is served, by its number
abbrev pub pipeline_action_of : ℤ → Option PipelineAction
pipeline_action_of (pos n) =
    if n == 1 then Some actions.Verify else if n == 2 then Some actions.VerifyAndSave else if n == 3 then Some actions.VerifyAndCommit else if n == 4 then Some actions.Commit else None
pipeline_action_of (negsuc n) = None

-- S3: the code for a number of no action that is served; RECONCILE_AND_COMMIT, which is 5, is not served yet
abbrev pub unserved_action : ℤ → Code
unserved_action (pos n) = if n == 5 then codes_of.Unimplemented else codes_of.InvalidArgument
unserved_action (negsuc n) = codes_of.InvalidArgument

-- S2: who may set a pipeline: the primary of a role, where it may write all
abbrev pub may_set : Option Session → Uint128 → Bool
may_set session id = is_of_primary session id && not (is_some (scope_in session))

-- S4 and S5: COMMIT comes without a configuration and asks for a staged plane, every other action comes with one
abbrev pub action_refusal : ControlState → PipelineAction → Option ForwardingPipelineConfig → Option Code
action_refusal c actions.Commit (Some config) = Some codes_of.InvalidArgument
action_refusal c actions.Commit None = if is_some c.staged then None else Some codes_of.FailedPrecondition
action_refusal c action (Some config) = None
action_refusal c action None = Some codes_of.InvalidArgument

-- S3 to S5, by the action that the number stands for
abbrev pub refusal_by : Option PipelineAction → ControlState → SetForwardingPipelineConfigRequest → Option Code
refusal_by None c request = Some (unserved_action request.action)
refusal_by (Some action) c request = action_refusal c action request.config

-- S1 to S5: why a pipeline is not set, before its configuration is looked at
abbrev pub set_refusal : ControlState → SetForwardingPipelineConfigRequest → Option Code
set_refusal c request =
    if not (request.device_id == c.device) then Some codes_of.NotFound else
    if not (may_set (primary c request.role_id) request.election_id) then Some codes_of.PermissionDenied
    else refusal_by (pipeline_action_of request.action) c request

-- the name of a rule of a configuration
abbrev pub rule_name : ConfigRule → List ℕ
rule_name (broken.Info rule) = codes "I" ++ decimal rule
rule_name (broken.Program rule) = codes "L" ++ decimal rule

-- the Status of a configuration that breaks a rule
abbrev pub rule_status : ConfigRule → Status
rule_status rule = record { code = pos (code_number codes_of.InvalidArgument); message = rule_name rule; details = [] }

-- its bytes
unfoldable pub rule_status_bytes : ConfigRule → List ℕ
rule_status_bytes rule = spelling (fields_by status_rows (rule_status rule))

-- whether an action makes a plane of the configuration
abbrev pub makes_plane : PipelineAction → Bool
makes_plane actions.VerifyAndSave = true
makes_plane actions.VerifyAndCommit = true
makes_plane _ = false

-- S7: the cells of the configuration's counters need more slots than are left
abbrev pub lacks_slots : ControlState → PipelineAction → Config → Bool
lacks_slots c action config = makes_plane action && nat_lt c.slots (c.next_slot + cells_in config)

-- the events of an action with a configuration
abbrev pub config_events : Origin → PipelineAction → Config → List Event
config_events by actions.VerifyAndSave config = events.Save by config ∷ []
config_events by actions.VerifyAndCommit config = events.Commit by (contents.Fresh config) ∷ []
config_events by _ config = []

-- S7, or the events of an action with a configuration that breaks no rule
abbrev pub events_unless : Bool → Origin → PipelineAction → Config → Result (List Event) SetRefusal
events_unless true by action config = Err (Fails codes_of.ResourceExhausted)
events_unless false by action config = Ok (config_events by action config)

-- S6 and S7, or the events
abbrev pub events_by : ControlState → Origin → PipelineAction → Result Config ConfigRule → Result (List Event) SetRefusal
events_by c by action (Err rule) = Err (Breaks rule)
events_by c by action (Ok config) = events_unless (lacks_slots c action config) by action config

-- what is done behind S1 to S5; an action without its configuration does not come so far
abbrev pub set_made : ControlState → Origin → Option PipelineAction → Option ForwardingPipelineConfig → Result (List Event) SetRefusal
set_made c by (Some actions.Commit) config = Ok (events.Commit by contents.Staged ∷ [])
set_made c by (Some action) (Some config) = events_by c by action (config_meant config)
set_made c by _ _ = Err (Fails codes_of.InvalidArgument)

-- the same, unless a code refuses it
abbrev pub set_unless : Option Code → ControlState → Origin → SetForwardingPipelineConfigRequest → Result (List Event) SetRefusal
set_unless (Some code) c by request = Err (Fails code)
set_unless None c by request = set_made c by (pipeline_action_of request.action) request.config

-- who sets: the lane, its call, the role and the election id
abbrev pub set_origin : ℕ → ℕ → SetForwardingPipelineConfigRequest → Origin
set_origin lane k request = record { caller = lane; call = k; role = request.role_id; election_id = request.election_id }

-- the events of a call that sets a pipeline, or why it is refused
abbrev pub set_result : ControlState → ℕ → ℕ → SetForwardingPipelineConfigRequest → Result (List Event) SetRefusal
set_result c lane k request = set_unless (set_refusal c request) c (set_origin lane k request) request

-- a response type by its number
abbrev pub response_type_of : ℤ → Option ResponseType
response_type_of (pos n) =
    if n == 0 then Some types.All else if n == 1 then Some types.CookieOnly else if n == 2 then Some types.P4InfoAndCookie else if n == 3 then Some types.DeviceConfigAndCookie else None
response_type_of (negsuc n) = None

-- the parts of a configuration that a type names, as they were given
abbrev pub shown_config : ResponseType → Config → ForwardingPipelineConfig
shown_config types.All config = record { p4info = Some config.p4info; p4_device_config = config.device_config; cookie = Some (record { cookie = config.cookie }) }
shown_config types.CookieOnly config = record { p4info = None; p4_device_config = []; cookie = Some (record { cookie = config.cookie }) }
shown_config types.P4InfoAndCookie config = record { p4info = Some config.p4info; p4_device_config = []; cookie = Some (record { cookie = config.cookie }) }
shown_config types.DeviceConfigAndCookie config = record { p4info = None; p4_device_config = config.device_config; cookie = Some (record { cookie = config.cookie }) }

-- what is shown of a plane's configuration, if there is a plane
abbrev pub shown_in : ResponseType → Option Plane → Option ForwardingPipelineConfig
shown_in type None = None
shown_in type (Some plane) = Some (shown_config type plane.config)

-- the bytes of the answer, which has no configuration where there is no plane
unfoldable pub get_response_bytes : ResponseType → Option Plane → List ℕ
get_response_bytes type plane = spelling (fields_by get_response_rows (record { config = shown_in type plane }))

-- the answer by the type that the number stands for
abbrev pub get_by : Option ResponseType → ControlState → Result (List ℕ) Code
get_by None c = Err codes_of.InvalidArgument
get_by (Some type) c = Ok (get_response_bytes type (target c))

-- the configuration of the target plane, or the code with which the call is refused
abbrev pub get_result : ControlState → GetForwardingPipelineConfigRequest → Result (List ℕ) Code
get_result c request = if request.device_id == c.device then get_by (response_type_of request.response_type) c else Err codes_of.NotFound
