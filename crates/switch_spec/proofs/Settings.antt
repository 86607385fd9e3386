-- What holds of the answers to calls that set and get pipelines.
use Rattle.std.proofs.Common.{arith, ◌+◌, ◌≤◌, ◌≡◌, ℕ, ℤ, pos, negsuc, Bool, true, false, not, List, [], ◌∷◌, ◌++◌, length, Option, Some, None, Result, Ok, Err, is_some, ◌==◌, ◌&&◌, nat_lt, refl, ap, ◌∙◌, sym, subst, if◌then◌else◌, cond}
use Rattle.std.proofs.lemmas.Bool.Decides.{nat_tests}
use Rattle.link_spec.specs.Configured.{config_meant}
use Rattle.link_spec.proofs.Meant.{meant_is_valid}
use Rattle.p4_types.specs.declared.calls.PipelineAction.{PipelineAction}
use Rattle.p4_types.specs.declared.calls.PipelineAction.TheVariants as actions
use Rattle.p4_types.specs.declared.calls.ResponseType.{ResponseType}
use Rattle.p4_types.specs.declared.code.Code.{Code}
use Rattle.p4_types.specs.declared.code.Code.TheVariants as codes
use Rattle.p4_types.specs.declared.code.ConfigRule.{ConfigRule}
use Rattle.p4_types.specs.declared.events.Committed.TheVariants as contents
use Rattle.p4_types.specs.declared.events.Event.TheVariants as events
use Rattle.p4_types.specs.declared.events.Origin.{Origin}
use Rattle.p4_types.specs.declared.messages.ForwardingPipelineConfig.{ForwardingPipelineConfig}
use Rattle.p4_types.specs.declared.messages.GetForwardingPipelineConfigRequest.{GetForwardingPipelineConfigRequest}
use Rattle.p4_types.specs.declared.messages.SetForwardingPipelineConfigRequest.{SetForwardingPipelineConfigRequest}
use Rattle.p4_types.specs.declared.messages.Uint128.{Uint128}
use Rattle.plane_spec.specs.Config.{Config, Event, cells_in}
use Rattle.plane_spec.specs.Legal.{May, MaySet, MayMake, Legal}
use Rattle.plane_spec.specs.Planes.{ControlState, Plane, primary, is_of_primary, scope_in, staged_committed, applied}
use Rattle.role_arbiter.specs.declared.sessions.Session.{Session}
use Rattle.switch_spec.specs.Answer.{Answer, plain, set_reply, get_reply}
use Rattle.switch_spec.specs.History.{is_unavailable, steps_of}
use Rattle.switch_spec.specs.Pipelines.{pipeline_action_of, unserved_action, may_set, action_refusal, refusal_by, set_refusal, makes_plane, lacks_slots, config_events, events_unless, events_by, set_made, set_unless, set_origin, set_result, response_type_of, get_by, get_result}
use Rattle.switch_spec.specs.declared.refusals.SetRefusal.{SetRefusal}
use Rattle.switch_spec.specs.declared.refusals.SetRefusal.TheVariants.{Breaks, Fails}
use Rattle.switch_spec.proofs.Sound.{IsSound, Available, plain_sound}

-- what holds of the events of a call that sets a pipeline, or of why it is refused
abbrev SetSound : ControlState → Result (List Event) SetRefusal → Type 0
SetSound c r = IsSound c (set_reply r)

refused_for : (c : ControlState) (code : Code) → is_unavailable code ≡ false → SetSound c (Err (Fails code))
refused_for c code available = plain_sound c code _ available

breaks : (c : ControlState) (rule : ConfigRule) → SetSound c (Err (Breaks rule))
breaks c rule = plain_sound c codes.InvalidArgument _ refl

nothing : (c : ControlState) → SetSound c (Ok [])
nothing c = record {
  available = refl;
  short_packet = tt;
  all_steps = refl;
  legal = λ alive rest later. later;
  still_open = λ alive. alive;
  few_steps = omega arith;
  few_numbers = omega arith;
}

saves : (c : ControlState) (by : Origin) (config : Config) → MaySet c by → MayMake c config → SetSound c (Ok (events.Save by config ∷ []))
saves c by config set make = record {
  available = refl;
  short_packet = tt;
  all_steps = refl;
  legal = λ alive rest later. ((alive, set, make), later);
  still_open = λ alive. alive;
  few_steps = omega arith;
  few_numbers = omega arith;
}

commits : (c : ControlState) (by : Origin) (config : Config) → MaySet c by → MayMake c config → SetSound c (Ok (events.Commit by (contents.Fresh config) ∷ []))
commits c by config set make = record {
  available = refl;
  short_packet = tt;
  all_steps = refl;
  legal = λ alive rest later. ((alive, set, make), later);
  still_open = λ alive. alive;
  few_steps = omega arith;
  few_numbers = omega arith;
}

-- a Commit of the staged plane leaves the rest
staged_closed : (o : Option Plane) (c : ControlState) → (staged_committed o c).closed ≡ c.closed
staged_closed None c = refl
staged_closed (Some plane) c = refl

staged_next : (o : Option Plane) (c : ControlState) → (staged_committed o c).next ≡ c.next
staged_next None c = refl
staged_next (Some plane) c = refl

promotes : (c : ControlState) (by : Origin) → MaySet c by → is_some c.staged ≡ true → SetSound c (Ok (events.Commit by contents.Staged ∷ []))
promotes c by set staged = record {
  available = refl;
  short_packet = tt;
  all_steps = refl;
  legal = λ alive rest later. ((alive, set, staged), later);
  still_open = λ alive. staged_closed c.staged c ∙ alive;
  few_steps = omega arith;
  few_numbers = omega (arith, staged_next c.staged c);
}

-- ---- by the configuration

not_more : (m n : ℕ) → nat_lt m n ≡ false → n ≤ m
not_more m n h = grind (arith, nat_tests)

may_make : (c : ControlState) (given : ForwardingPipelineConfig) (config : Config) → config_meant given ≡ Ok config → nat_lt c.slots (c.next_slot + cells_in config) ≡ false → MayMake c config
may_make c given config is slots = record { valid = meant_is_valid given config is; slots = not_more c.slots _ slots }

made_unless : (b : Bool) (c : ControlState) (by : Origin) (action : PipelineAction) (given : ForwardingPipelineConfig) (config : Config) → config_meant given ≡ Ok config → MaySet c by
    → lacks_slots c action config ≡ b → SetSound c (events_unless b by action config)
made_unless true c by action given config is set lacks = refused_for c codes.ResourceExhausted refl
made_unless false c by actions.Verify given config is set lacks = nothing c
made_unless false c by actions.VerifyAndSave given config is set lacks = saves c by config set (may_make c given config is lacks)
made_unless false c by actions.VerifyAndCommit given config is set lacks = commits c by config set (may_make c given config is lacks)
made_unless false c by actions.Commit given config is set lacks = nothing c

meant_sound : (r : Result Config ConfigRule) (c : ControlState) (by : Origin) (action : PipelineAction) (given : ForwardingPipelineConfig) → config_meant given ≡ r → MaySet c by → SetSound c (events_by c by action r)
meant_sound (Err rule) c by action given is set = breaks c rule
meant_sound (Ok config) c by action given is set = made_unless (lacks_slots c action config) c by action given config is set refl

-- ---- by the action

staged_when : (b : Bool) → (if b then None else Some codes.FailedPrecondition) ≡ None → b ≡ true
staged_when true h = refl
staged_when false h = absurd (cc)

action_sound : (action : PipelineAction) (config : Option ForwardingPipelineConfig) (c : ControlState) (by : Origin) → action_refusal c action config ≡ None → MaySet c by
    → SetSound c (set_made c by (Some action) config)
action_sound actions.Commit (Some config) c by h set = absurd (cc)
action_sound actions.Commit None c by h set = promotes c by set (staged_when (is_some c.staged) h)
action_sound actions.Verify None c by h set = absurd (cc)
action_sound actions.Verify (Some config) c by h set = meant_sound (config_meant config) c by actions.Verify config refl set
action_sound actions.VerifyAndSave None c by h set = absurd (cc)
action_sound actions.VerifyAndSave (Some config) c by h set = meant_sound (config_meant config) c by actions.VerifyAndSave config refl set
action_sound actions.VerifyAndCommit None c by h set = absurd (cc)
action_sound actions.VerifyAndCommit (Some config) c by h set = meant_sound (config_meant config) c by actions.VerifyAndCommit config refl set

number_sound : (o : Option PipelineAction) (c : ControlState) (by : Origin) (request : SetForwardingPipelineConfigRequest) → refusal_by o c request ≡ None → MaySet c by
    → SetSound c (set_made c by o request.config)
number_sound None c by request h set = absurd (cc)
number_sound (Some action) c by request h set = action_sound action request.config c by h set

-- ---- by who sets

passed_by : (a b : Bool) (o : Option Code) → (if not a then Some codes.NotFound else if not b then Some codes.PermissionDenied else o) ≡ None → (b ≡ true) × (o ≡ None)
passed_by true true o h = (refl, h)
passed_by true false o h = absurd (cc)
passed_by false b o h = absurd (cc)

both : (a b : Bool) → (a && b) ≡ true → (a ≡ true) × (b ≡ true)
both true true h = (refl, refl)
both true false h = absurd (cc)
both false b h = absurd (cc)

no_scope : (o : Option (List ℕ)) → not (is_some o) ≡ true → o ≡ None
no_scope None h = refl
no_scope (Some ids) h = absurd (cc)

may_set_by : (c : ControlState) (by : Origin) → may_set (primary c by.role) by.election_id ≡ true → MaySet c by
may_set_by c by h =
    let parts = both (is_of_primary (primary c by.role) by.election_id) (not (is_some (scope_in (primary c by.role)))) h in
    record { by_primary = parts.0; unscoped = no_scope (scope_in (primary c by.role)) parts.1 }

unserved_available : (number : ℤ) → is_unavailable (unserved_action number) ≡ false
unserved_available (pos n) = five (n == 5) where
  five : (b : Bool) → is_unavailable (if b then codes.Unimplemented else codes.InvalidArgument) ≡ false
  five true = refl
  five false = refl
unserved_available (negsuc n) = refl

staged_available : (b : Bool) → Available (if b then None else Some codes.FailedPrecondition)
staged_available true = tt
staged_available false = refl

action_available : (action : PipelineAction) (config : Option ForwardingPipelineConfig) (c : ControlState) → Available (action_refusal c action config)
action_available actions.Commit (Some config) c = refl
action_available actions.Commit None c = staged_available (is_some c.staged)
action_available actions.Verify None c = refl
action_available actions.Verify (Some config) c = tt
action_available actions.VerifyAndSave None c = refl
action_available actions.VerifyAndSave (Some config) c = tt
action_available actions.VerifyAndCommit None c = refl
action_available actions.VerifyAndCommit (Some config) c = tt

number_available : (o : Option PipelineAction) (c : ControlState) (request : SetForwardingPipelineConfigRequest) → Available (refusal_by o c request)
number_available None c request = unserved_available request.action
number_available (Some action) c request = action_available action request.config c

set_available_by : (a b : Bool) (o : Option Code) → Available o → Available (if not a then Some codes.NotFound else if not b then Some codes.PermissionDenied else o)
set_available_by true true o h = h
set_available_by true false o h = refl
set_available_by false b o h = refl

set_available : (c : ControlState) (request : SetForwardingPipelineConfigRequest) → Available (set_refusal c request)
set_available c request = set_available_by (request.device_id == c.device) (may_set (primary c request.role_id) request.election_id) _ (number_available (pipeline_action_of request.action) c request)

unless_sound : (o : Option Code) (c : ControlState) (lane k : ℕ) (request : SetForwardingPipelineConfigRequest) → set_refusal c request ≡ o → Available o
    → SetSound c (set_unless o c (set_origin lane k request) request)
unless_sound (Some code) c lane k request is available = refused_for c code available
unless_sound None c lane k request is available =
    let parts = passed_by (request.device_id == c.device) (may_set (primary c request.role_id) request.election_id) _ is in
    number_sound (pipeline_action_of request.action) c (set_origin lane k request) request parts.1 (may_set_by c (set_origin lane k request) parts.0)

pub set_sound : (c : ControlState) (lane k : ℕ) (request : SetForwardingPipelineConfigRequest) → IsSound c (set_reply (set_result c lane k request))
set_sound c lane k request = unless_sound (set_refusal c request) c lane k request refl (set_available c request)

-- ---- what is got

got_sound : (c : ControlState) (o : Option ResponseType) → IsSound c (get_reply (get_by o c))
got_sound c None = plain_sound c codes.InvalidArgument _ refl
got_sound c (Some type) = plain_sound c codes.Ok _ refl

device_sound : (b : Bool) (c : ControlState) (o : Option ResponseType) → IsSound c (get_reply (if b then get_by o c else Err codes.NotFound))
device_sound true c o = got_sound c o
device_sound false c o = plain_sound c codes.NotFound _ refl

pub get_sound : (c : ControlState) (request : GetForwardingPipelineConfigRequest) → IsSound c (get_reply (get_result c request))
get_sound c request = device_sound (request.device_id == c.device) c (response_type_of request.response_type)
