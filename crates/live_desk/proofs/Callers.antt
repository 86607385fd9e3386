-- Who made the events of an answer, and of a list that goes on.
use Rattle.std.proofs.Common.{◌≡◌, ℕ, ◌+◌, ◌==◌, Bool, true, false, cond, List, [], ◌∷◌, ◌++◌, length, map, Option, Some, None, Result, Ok, Err, if◌then◌else◌, refl, ap, sym, ◌∙◌, arith, eq-eqb, ne_eqb, append-nil}
use Rattle.std.specs.Prelude.{count_by, sum_by}
use Rattle.std.specs.List.{AllByRecursion, filter_map}
use Rattle.std.specs.Result.{result_ok}
use Rattle.std.proofs.lemmas.Bool.{eqb-true}
use Rattle.std.proofs.lemmas.List.Elements.{filter-append}
use Rattle.std.proofs.lemmas.List.Sums.{sum_by-append, sum_by-cons}
use Rattle.link_spec.specs.Configured.{config_meant}
use Rattle.live_desk.specs.Callers.{events_by, is_by}
use Rattle.p4_types.specs.declared.calls.Call.{Call}
use Rattle.p4_types.specs.declared.calls.Call.TheVariants as calls
use Rattle.p4_types.specs.declared.calls.Method.{Method}
use Rattle.p4_types.specs.declared.calls.Method.TheVariants as methods
use Rattle.p4_types.specs.declared.calls.PipelineAction.{PipelineAction}
use Rattle.p4_types.specs.declared.calls.PipelineAction.TheVariants as actions
use Rattle.p4_types.specs.declared.code.ArbitrationRule.{ArbitrationRule}
use Rattle.p4_types.specs.declared.code.Cause.{Cause}
use Rattle.p4_types.specs.declared.code.Code.{Code}
use Rattle.p4_types.specs.declared.code.ConfigRule.{ConfigRule}
use Rattle.p4_types.specs.declared.events.Event.TheVariants as events
use Rattle.p4_types.specs.declared.events.Origin.{Origin}
use Rattle.p4_types.specs.declared.messages.ForwardingPipelineConfig.{ForwardingPipelineConfig}
use Rattle.p4_types.specs.declared.calls.ArbitrationUpdate.{ArbitrationUpdate}
use Rattle.p4v1_read.specs.RoleConfigs.{read_update}
use Rattle.p4_types.specs.declared.messages.PacketOut.{PacketOut}
use Rattle.p4_types.specs.declared.messages.SetForwardingPipelineConfigRequest.{SetForwardingPipelineConfigRequest}
use Rattle.p4_types.specs.declared.messages.StreamMessageRequest.{StreamMessageRequest}
use Rattle.p4_types.specs.declared.messages.StreamMessageRequest.TheVariants as requests
use Rattle.p4_types.specs.declared.messages.WriteRequest.{WriteRequest}
use Rattle.p4_types.specs.declared.table.Change.{Change}
use Rattle.packet_out.specs.declared.rule.PacketRule.{PacketRule}
use Rattle.plane_image.specs.Image.{steps_of}
use Rattle.plane_spec.specs.Config.{Config, Event}
use Rattle.plane_spec.specs.Planes.{ControlState, outcomes}
use Rattle.role_arbiter.specs.declared.sessions.Session.{Session}
use Rattle.role_arbiter.specs.State.{session_in}
use Rattle.switch_spec.specs.Answer.{answer_to, arbitration_unless, atomicity_of, batch, get_reply, has_failed, is_atomic, leave_of, origin, packet_reply, read_reply, set_reply, stream_answer, unreadable, write_refusal, write_unless, written}
use Rattle.switch_spec.specs.Counts.{Figures}
use Rattle.switch_spec.specs.Pipelines.{config_events, events_by as events_meant, events_unless, lacks_slots, get_result, pipeline_action_of, set_made, set_origin, set_refusal, set_unless}
use Rattle.switch_spec.specs.PacketsOut.{packet_result}
use Rattle.switch_spec.specs.Reading.{read_result}

-- a caller made all of these
abbrev pub AllBy : ℕ → List Event → Type 0
AllBy lane list = AllByRecursion (λ (event : Event). is_by lane event ≡ true) list

-- ---- The events of an answer

same : (lane : ℕ) → (lane == lane) ≡ true
same lane = eq-eqb lane lane refl

each_by : (by : Origin) (list : List Change) → AllBy by.caller (map (events.Change by) list)
each_by by [] = tt
each_by by (change ∷ list) = (same by.caller, each_by by list)

batch_by : (by : Origin) (list : List Change) → AllBy by.caller (batch by list)
batch_by by [] = tt
batch_by by (change ∷ list) = (same by.caller, tt)

unless_failed : (b : Bool) (by : Origin) (list : List Change) → AllBy by.caller (if b then [] else batch by list)
unless_failed true by list = tt
unless_failed false by list = batch_by by list

written_by : (b : Bool) (by : Origin) (list : List (Result Change Cause)) → AllBy by.caller (written b by list).events
written_by true by list = unless_failed (has_failed list) by (filter_map result_ok list)
written_by false by list = each_by by (filter_map result_ok list)

write_by : (o : Option Code) (c : ControlState) (lane k : ℕ) (request : WriteRequest) → AllBy lane (write_unless o c lane k request).events
write_by (Some code) c lane k request = tt
write_by None c lane k request = written_by (is_atomic (atomicity_of request.atomicity)) (origin lane k request) (outcomes c request.role_id request.updates)

config_by : (action : PipelineAction) (by : Origin) (config : Config) → AllBy by.caller (config_events by action config)
config_by actions.Verify by config = tt
config_by actions.VerifyAndSave by config = (same by.caller, tt)
config_by actions.VerifyAndCommit by config = (same by.caller, tt)
config_by actions.Commit by config = tt

slots_by : (b : Bool) (by : Origin) (action : PipelineAction) (config : Config) → AllBy by.caller (set_reply (events_unless b by action config)).events
slots_by true by action config = tt
slots_by false by action config = config_by action by config

meant_by : (r : Result Config ConfigRule) (c : ControlState) (by : Origin) (action : PipelineAction) → AllBy by.caller (set_reply (events_meant c by action r)).events
meant_by (Err rule) c by action = tt
meant_by (Ok config) c by action = slots_by (lacks_slots c action config) by action config

made_by : (o : Option PipelineAction) (config : Option ForwardingPipelineConfig) (c : ControlState) (by : Origin) → AllBy by.caller (set_reply (set_made c by o config)).events
made_by None config c by = tt
made_by (Some actions.Commit) config c by = (same by.caller, tt)
made_by (Some actions.Verify) None c by = tt
made_by (Some actions.Verify) (Some config) c by = meant_by (config_meant config) c by actions.Verify
made_by (Some actions.VerifyAndSave) None c by = tt
made_by (Some actions.VerifyAndSave) (Some config) c by = meant_by (config_meant config) c by actions.VerifyAndSave
made_by (Some actions.VerifyAndCommit) None c by = tt
made_by (Some actions.VerifyAndCommit) (Some config) c by = meant_by (config_meant config) c by actions.VerifyAndCommit

set_by : (o : Option Code) (c : ControlState) (by : Origin) (request : SetForwardingPipelineConfigRequest) → AllBy by.caller (set_reply (set_unless o c by request)).events
set_by (Some code) c by request = tt
set_by None c by request = made_by (pipeline_action_of request.action) request.config c by

read_by : (r : Result (List (List ℕ)) Code) (lane : ℕ) → AllBy lane (read_reply r).events
read_by (Ok messages) lane = tt
read_by (Err code) lane = tt

get_by : (r : Result (List ℕ) Code) (lane : ℕ) → AllBy lane (get_reply r).events
get_by (Ok message) lane = tt
get_by (Err code) lane = tt

arbitration_by : (o : Option ArbitrationRule) (c : ControlState) (lane k : ℕ) (update : ArbitrationUpdate) → AllBy lane (arbitration_unless o c lane k update).events
arbitration_by (Some rule) c lane k update = tt
arbitration_by None c lane k update = (same lane, tt)

packet_by : (r : Result (List ℕ) PacketRule) (lane : ℕ) (packet : PacketOut) → AllBy lane (packet_reply lane packet r).events
packet_by (Ok bytes) lane packet = tt
packet_by (Err rule) lane packet = tt

stream_by : (message : Option StreamMessageRequest) (c : ControlState) (lane k : ℕ) → AllBy lane (stream_answer c lane k message).events
stream_by None c lane k = tt
stream_by (Some (requests.Arbitration update)) c lane k = arbitration_by _ c lane k (read_update update)
stream_by (Some (requests.Packet packet)) c lane k = packet_by (packet_result c lane packet) lane packet
stream_by (Some (requests.DigestAck acknowledged)) c lane k = tt
stream_by (Some (requests.Other other)) c lane k = tt

leave_by : (o : Option Session) (c : ControlState) (lane k : ℕ) → AllBy lane (leave_of o c lane k).events
leave_by None c lane k = tt
leave_by (Some session) c lane k = (same lane, tt)

unreadable_by : (method : Method) (lane : ℕ) → AllBy lane (unreadable method).events
unreadable_by methods.Write lane = tt
unreadable_by methods.Read lane = tt
unreadable_by methods.SetForwardingPipelineConfig lane = tt
unreadable_by methods.GetForwardingPipelineConfig lane = tt
unreadable_by methods.StreamChannel lane = tt
unreadable_by methods.Capabilities lane = tt

-- the caller makes the events of its answer
pub answer_by : (call : Call) (c : ControlState) (g : Figures) (lane k : ℕ) → AllBy lane (answer_to c g lane k call).events
answer_by (calls.Write request) c g lane k = write_by (write_refusal c request) c lane k request
answer_by (calls.Read request) c g lane k = read_by (read_result c g request) lane
answer_by (calls.Set request) c g lane k = set_by (set_refusal c request) c (set_origin lane k request) request
answer_by (calls.Get request) c g lane k = get_by (get_result c request) lane
answer_by (calls.Stream message) c g lane k = stream_by message c lane k
answer_by calls.Capabilities c g lane k = tt
answer_by (calls.Unreadable method) c g lane k = unreadable_by method lane
answer_by calls.Leave c g lane k = leave_by (session_in c.roles.sessions lane) c lane k

-- ---- How many events a caller made

abbrev pub made_by_of : ℕ → List Event → ℕ
made_by_of lane list = count_by (λ (event : Event). is_by lane event) list

abbrev one_if : Bool → ℕ
one_if b = cond b 1 0

split_first : (lane : ℕ) (event : Event) (list : List Event) → made_by_of lane (event ∷ list) ≡ one_if (is_by lane event) + made_by_of lane list
split_first lane event list = sum_by-cons (λ (x : Event). one_if (is_by lane x)) event list

pub count_all : (lane : ℕ) (list : List Event) → AllBy lane list → made_by_of lane list ≡ length list
count_all lane [] all = refl
count_all lane (event ∷ list) all =
    let rest = count_all lane list all.1 in
    let first : one_if (is_by lane event) ≡ 1 = ap one_if all.0 in
    let split = split_first lane event list in
    omega (arith, rest, first, split)

-- what a caller made is a step
one_step : (event : Event) (lane : ℕ) → is_by lane event ≡ true → steps_of event ≡ 1
one_step (events.Arbitrate by config) lane is = refl
one_step (events.Leave caller call) lane is = refl
one_step (events.Change by change) lane is = refl
one_step (events.Batch by list) lane is = refl
one_step (events.Save by config) lane is = refl
one_step (events.Commit by content) lane is = refl
one_step events.Close lane is = absurd (cc is)

pub all_steps : (lane : ℕ) (list : List Event) → AllBy lane list → sum_by steps_of list ≡ length list
all_steps lane [] all = refl
all_steps lane (event ∷ list) all =
    let rest = all_steps lane list all.1 in
    let first = one_step event lane all.0 in
    let split = sum_by-cons steps_of event list in
    omega (arith, rest, first, split)

-- what one caller made no other made
other_by : (event : Event) (lane other : ℕ) → is_by lane event ≡ true → (lane ≡ other → ⊥) → is_by other event ≡ false
other_by (events.Arbitrate by config) lane other is ne = ne_eqb by.caller other (λ e. ne (sym (eqb-true by.caller lane is) ∙ e))
other_by (events.Leave caller call) lane other is ne = ne_eqb caller other (λ e. ne (sym (eqb-true caller lane is) ∙ e))
other_by (events.Change by change) lane other is ne = ne_eqb by.caller other (λ e. ne (sym (eqb-true by.caller lane is) ∙ e))
other_by (events.Batch by list) lane other is ne = ne_eqb by.caller other (λ e. ne (sym (eqb-true by.caller lane is) ∙ e))
other_by (events.Save by config) lane other is ne = ne_eqb by.caller other (λ e. ne (sym (eqb-true by.caller lane is) ∙ e))
other_by (events.Commit by content) lane other is ne = ne_eqb by.caller other (λ e. ne (sym (eqb-true by.caller lane is) ∙ e))
other_by events.Close lane other is ne = refl

pub count_none : (lane other : ℕ) (list : List Event) → AllBy lane list → (lane ≡ other → ⊥) → made_by_of other list ≡ 0
count_none lane other [] all ne = refl
count_none lane other (event ∷ list) all ne =
    let rest = count_none lane other list all.1 ne in
    let first : one_if (is_by other event) ≡ 0 = ap one_if (other_by event lane other all.0 ne) in
    let split = split_first other event list in
    omega (arith, rest, first, split)

-- ---- Where a list has no more of a caller's events than its beginning

none_by : (b : Bool) (lane : ℕ) (event : Event) (list : List Event) → is_by lane event ≡ b → (made_by_of lane list ≡ 0 → events_by lane list ≡ []) → made_by_of lane (event ∷ list) ≡ 0
    → events_by lane (event ∷ list) ≡ []
none_by true lane event list is rest h =
    let first : one_if (is_by lane event) ≡ 1 = ap one_if is in
    let split = split_first lane event list in
    absurd (omega (arith, first, split, h))
none_by false lane event list is rest h =
    let split = split_first lane event list in
    ap (λ (b : Bool). cond b (event ∷ events_by lane list) (events_by lane list)) is ∙ rest (omega (arith, split, h))

none_of : (lane : ℕ) (list : List Event) → made_by_of lane list ≡ 0 → events_by lane list ≡ []
none_of lane [] h = refl
none_of lane (event ∷ list) h = none_by (is_by lane event) lane event list refl (none_of lane list) h

pub count_append : (lane : ℕ) (first more : List Event) → made_by_of lane (first ++ more) ≡ made_by_of lane first + made_by_of lane more
count_append lane first more = sum_by-append (λ (x : Event). one_if (is_by lane x)) first more

pub no_more_events : (lane : ℕ) (first more : List Event) → made_by_of lane (first ++ more) ≡ made_by_of lane first → events_by lane (first ++ more) ≡ events_by lane first
no_more_events lane first more h =
    let split = count_append lane first more in
    filter-append (λ (x : Event). is_by lane x) first more ∙ ap (λ (l : List Event). events_by lane first ++ l) (none_of lane more (omega (arith, split, h))) ∙ append-nil (events_by lane first)

-- ---- The events of a caller that made all

all_first : (b : Bool) (lane : ℕ) (event : Event) (list : List Event) → b ≡ true → cond b (event ∷ list) list ≡ event ∷ list
all_first true lane event list is = refl
all_first false lane event list is = absurd (cc is)

pub all_own : (lane : ℕ) (list : List Event) → AllBy lane list → events_by lane list ≡ list
all_own lane [] all = refl
all_own lane (event ∷ list) all = all_first (is_by lane event) lane event (events_by lane list) all.0 ∙ ap (λ (l : List Event). event ∷ l) (all_own lane list all.1)
