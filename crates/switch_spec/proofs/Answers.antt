-- What holds of each answer.
use Rattle.std.proofs.Common.{arith, suc, ◌+◌, ◌≤◌, ◌≡◌, ℕ, Bool, true, false, not, List, [], ◌∷◌, ◌++◌, length, map, fold, Option, Some, None, Result, Ok, Err, is_some, ◌==◌, nat_lt, IfSome, IfOk, IfErr, refl, ap, ◌∙◌, sym, if◌then◌else◌}
use Rattle.std.specs.List.{filter_map}
use Rattle.std.specs.Result.{result_ok}
use Rattle.p4_types.specs.declared.calls.Call.{Call}
use Rattle.p4_types.specs.declared.calls.Call.TheVariants as calls
use Rattle.p4_types.specs.declared.calls.Method.{Method}
use Rattle.p4_types.specs.declared.calls.Method.TheVariants as methods
use Rattle.p4_types.specs.CodeNumber.{arbitration_code}
use Rattle.p4_types.specs.declared.code.ArbitrationRule.{ArbitrationRule}
use Rattle.p4_types.specs.declared.code.ArbitrationRule.TheVariants as arbitration
use Rattle.p4_types.specs.declared.code.Cause.{Cause}
use Rattle.p4_types.specs.declared.code.Code.{Code}
use Rattle.p4_types.specs.declared.code.Code.TheVariants as codes
use Rattle.p4_types.specs.declared.info.Info.{Info}
use Rattle.p4_types.specs.declared.messages.Error.{Error}
use Rattle.p4_types.specs.declared.messages.Entity.{Entity}
use Rattle.p4_types.specs.declared.messages.Entity.TheVariants as entities
use Rattle.p4_types.specs.declared.messages.MulticastGroupEntry.{MulticastGroupEntry}
use Rattle.p4_types.specs.declared.messages.ReadRequest.{ReadRequest}
use Rattle.p4_types.specs.declared.messages.TableEntry.{TableEntry}
use Rattle.p4_types.specs.declared.events.Event.TheVariants as events
use Rattle.p4_types.specs.declared.events.Origin.{Origin}
use Rattle.p4_types.specs.declared.info.Table.{Table}
use Rattle.p4_types.specs.declared.messages.MasterArbitrationUpdate.{MasterArbitrationUpdate}
use Rattle.p4_types.specs.declared.messages.PacketOut.{PacketOut}
use Rattle.p4_types.specs.declared.messages.StreamMessageRequest.{StreamMessageRequest}
use Rattle.p4_types.specs.declared.messages.StreamMessageRequest.TheVariants as requests
use Rattle.p4_types.specs.declared.messages.Uint128.{Uint128}
use Rattle.p4_types.specs.declared.messages.Update.{Update}
use Rattle.p4_types.specs.declared.messages.WriteRequest.{WriteRequest}
use Rattle.p4_types.specs.declared.table.Change.{Change}
use Rattle.role_arbiter.specs.declared.sessions.Session.{Session}
use Rattle.role_arbiter.specs.Arbitration.{cause, asked}
use Rattle.role_arbiter.specs.State.{session_in, status_of}
use Rattle.packet_out.specs.Entering.{packet_out_fields, fills, packet_bytes, unless_long, entering}
use Rattle.packet_out.specs.declared.rule.PacketRule.{PacketRule}
use Rattle.packet_out.specs.declared.rule.PacketRule.TheVariants as rules
use Rattle.switch_spec.specs.PacketsOut.{is_primary, entering_in, packet_result}
use Rattle.switch_spec.specs.Answer.{arbitration_answer, Answer, plain, write_reply, write_refusal, write_unless, continued, all_or_nothing, batch, origin, has_failed, atomicity_of, is_atomic, unreadable, read_reply, arbitration_unless, packet_reply, unserved_answer, stream_answer, leave_of, answer_to, answer, called, EventsIgnoreFigures}
use Rattle.switch_spec.specs.declared.calls.LaneCall.{LaneCall}
use Rattle.switch_spec.specs.Counts.{Figures}
use Rattle.plane_spec.specs.Config.{Event}
use Rattle.plane_spec.specs.Legal.{MayChanges, Legal}
use Rattle.plane_spec.specs.Objects.{table_of}
use Rattle.plane_spec.specs.Planes.{ControlState, Plane, target, primary, is_of_primary, with_roles, change_applied, outcome, applied, outcomes, state_after}
use Rattle.plane_spec.proofs.Steady.{change_steady, fold_closed, fold_next}
use Rattle.switch_spec.specs.Reading.{entry_refusal_in, direct_refusal, replication_refusal, entity_refusal, first_of, read_unless, read_in, read_result}
use Rattle.switch_spec.specs.History.{is_unavailable, steps_of}
use Rattle.p4v1_read.specs.RoleConfigs.{read_update}
use Rattle.switch_spec.proofs.RoleConfigs.{update_served}
use Rattle.switch_spec.proofs.Settings.{set_sound, get_sound}
use Rattle.switch_spec.proofs.Sound.{IsSound, Available, plain_sound}

-- as the roles stay, so do the primaries
still_of_primary : (c d : ControlState) (role : ℕ) (id : Uint128) → d.roles ≡ c.roles → is_of_primary (primary d role) id ≡ is_of_primary (primary c role) id
still_of_primary c d role id is = ap (λ roles. is_of_primary (primary (with_roles c roles) role) id) is

-- each change is an event of its own
abbrev pub each : Origin → List Change → List Event
each by list = map (events.Change by) list

each_applied : (by : Origin) (list : List Change) (c : ControlState) → applied c (each by list) ≡ fold change_applied c list
each_applied by [] c = refl
each_applied by (change ∷ list) c = each_applied by list (change_applied c change)

each_steps : (by : Origin) (list : List Change) → length (steps_of (each by list)) ≡ length list
each_steps by [] = refl
each_steps by (change ∷ list) = ap (λ n. suc n) (each_steps by list)

each_length : (by : Origin) (list : List Change) → length (each by list) ≡ length list
each_length by [] = refl
each_length by (change ∷ list) = ap (λ n. suc n) (each_length by list)

-- the changes that a list of updates makes
abbrev pub made_by : ControlState → ℕ → List Update → List Change
made_by c role updates = filter_map result_ok (outcomes c role updates)

few_more : (r : Result Change Cause) (c : ControlState) (role : ℕ) (updates : List Update) → ((d : ControlState) → length (made_by d role updates) ≤ length updates)
    → length (filter_map result_ok (r ∷ outcomes (state_after c r) role updates)) ≤ suc (length updates)
few_more (Ok change) c role updates few = omega (arith, few (change_applied c change))
few_more (Err cause) c role updates few = omega (arith, few c)

made_few : (updates : List Update) (c : ControlState) (role : ℕ) → length (made_by c role updates) ≤ length updates
made_few [] c role = omega arith
made_few (update ∷ updates) c role = few_more (outcome c role update) c role updates (λ d. made_few updates d role)

-- one more may be made, where the rest may be in the state behind it
may_more : (r : Result Change Cause) (c : ControlState) (by : Origin) (update : Update) (updates : List Update) → is_of_primary (primary c by.role) by.election_id ≡ true → outcome c by.role update ≡ r
    → ((d : ControlState) → is_of_primary (primary d by.role) by.election_id ≡ true → MayChanges d by (made_by d by.role updates))
    → MayChanges c by (filter_map result_ok (r ∷ outcomes (state_after c r) by.role updates))
may_more (Ok change) c by update updates h is rest =
    (record { by_primary = h; update = update; no_cause = is }, rest (change_applied c change) (still_of_primary c (change_applied c change) by.role by.election_id (change_steady change c).roles ∙ h))
may_more (Err cause) c by update updates h is rest = rest c h

-- they may be made, each in its turn
made_may : (updates : List Update) (c : ControlState) (by : Origin) → is_of_primary (primary c by.role) by.election_id ≡ true → MayChanges c by (made_by c by.role updates)
made_may [] c by h = tt
made_may (update ∷ updates) c by h = may_more (outcome c by.role update) c by update updates h refl (λ d. made_may updates d by)

each_legal : (list : List Change) (c : ControlState) (by : Origin) → c.closed ≡ false → MayChanges c by list
    → (rest : List Event) → Legal (applied c (each by list)) rest → Legal c (each by list ++ rest)
each_legal [] c by alive may rest later = later
each_legal (change ∷ list) c by alive may rest later =
    ((alive, may.0), each_legal list (change_applied c change) by ((change_steady change c).closed ∙ alive) may.1 rest later)

batch_legal : (list : List Change) (c : ControlState) (by : Origin) → c.closed ≡ false → length list ≤ 4096 → MayChanges c by list
    → (rest : List Event) → Legal (applied c (batch by list)) rest → Legal c (batch by list ++ rest)
batch_legal [] c by alive few may rest later = later
batch_legal (change ∷ list) c by alive few may rest later = ((alive, omega arith, few, may), later)

-- the refusals of a Write, by what holds of it
abbrev pub refusal_by : (device primary plane atomicity long : Bool) → Option Code
refusal_by device primary plane atomicity long =
    if not device then Some codes.NotFound else if not primary then Some codes.PermissionDenied else if not plane then Some codes.FailedPrecondition else
    if not atomicity then Some codes.InvalidArgument else if long then Some codes.ResourceExhausted else None

write_available : (a b c d e : Bool) → Available (refusal_by a b c d e)
write_available true true true true false = tt
write_available true true true true true = refl
write_available true true true false e = refl
write_available true true false d e = refl
write_available true false c d e = refl
write_available false b c d e = refl

match_available : (a b c d : Bool) → Available (if not a then None else if b then Some codes.InvalidArgument else if c then Some codes.OutOfRange else if d then None else Some codes.InvalidArgument)
match_available false b c d = tt
match_available true true c d = refl
match_available true false true d = refl
match_available true false false true = tt
match_available true false false false = refl

in_available : (o : Option Table) (asked : TableEntry) → Available (entry_refusal_in o asked)
in_available None asked = refl
in_available (Some table) asked = match_available _ _ _ _

entry_available : (a b : Bool) (o : Option Code) → Available o → Available (if a then (if b then Some codes.InvalidArgument else None) else o)
entry_available true true o h = refl
entry_available true false o h = tt
entry_available false b o h = h

id_available : (known : Bool) → Available (if known then None else Some codes.NotFound)
id_available true = tt
id_available false = refl

direct_available : (info : Info) (o : Option TableEntry) → Available (direct_refusal info o)
direct_available info None = tt
direct_available info (Some asked) = entry_available _ _ _ (in_available (table_of asked.table_id info) asked)

replication_available : (o : Option MulticastGroupEntry) → Available (replication_refusal o)
replication_available None = refl
replication_available (Some asked) = tt

entity_available : (info : Info) (asked : Option Entity) → Available (entity_refusal info asked)
entity_available info None = refl
entity_available info (Some (entities.TableEntry asked)) = entry_available _ _ _ (in_available (table_of asked.table_id info) asked)
entity_available info (Some (entities.ActionProfileMember x)) = id_available _
entity_available info (Some (entities.ActionProfileGroup x)) = id_available _
entity_available info (Some (entities.CounterEntry x)) = id_available _
entity_available info (Some (entities.DirectCounterEntry x)) = direct_available info x.table_entry
entity_available info (Some (entities.DigestEntry x)) = id_available _
entity_available info (Some (entities.PacketReplicationEngineEntry x)) = replication_available x.multicast_group_entry
entity_available info (Some (entities.Other x)) = refl

first_more : (o : Option Code) (others : List (Option Code)) → Available o → Available (first_of others) → Available (first_of (o ∷ others))
first_more None others h rest = rest
first_more (Some code) others h rest = h

first_available : (info : Info) (list : List (Option Entity)) → Available (first_of (map (entity_refusal info) list))
first_available info [] = tt
first_available info (asked ∷ list) = first_more (entity_refusal info asked) _ (entity_available info asked) (first_available info list)

-- what a refused Write has passed
record HasPassed (c : ControlState) (request : WriteRequest) : Type 0 where
  primary : is_of_primary (primary c request.role_id) request.election_id ≡ true
  size : length request.updates ≤ 4096

passed_by : (a b c d e : Bool) → refusal_by a b c d e ≡ None → (b ≡ true) × (e ≡ false)
passed_by true true true true false h = (refl, refl)
passed_by true true true true true h = absurd (cc)
passed_by true true true false e h = absurd (cc)
passed_by true true false d e h = absurd (cc)
passed_by true false c d e h = absurd (cc)
passed_by false b c d e h = absurd (cc)

not_lt : (m n : ℕ) → nat_lt m n ≡ false → n ≤ m
not_lt m n h = grind (arith, h)

passed : (c : ControlState) (request : WriteRequest) → write_refusal c request ≡ None → HasPassed c request
passed c request h =
    let parts = passed_by (request.device_id == c.device) (is_of_primary (primary c request.role_id) request.election_id) (is_some (target c)) (is_some (atomicity_of request.atomicity)) (nat_lt 4096 (length request.updates)) h in record { primary = parts.0; size = not_lt _ _ parts.1 }

reply_available : (b : Bool) (errors : List Error) → is_unavailable (write_reply b errors).code ≡ false
reply_available true errors = refl
reply_available false errors = refl

reply_packet : (b : Bool) (errors : List Error) → IfSome (write_reply b errors).packet (λ packet. length packet ≤ 9216)
reply_packet true errors = tt
reply_packet false errors = tt

continued_sound : (c : ControlState) (by : Origin) (updates : List Update) → is_of_primary (primary c by.role) by.election_id ≡ true → length updates ≤ 4096
    → IsSound c (continued by (outcomes c by.role updates))
continued_sound c by updates primary size =
    let list = made_by c by.role updates in
    let few = made_few updates c by.role in record {
      available = reply_available _ _;
      short_packet = reply_packet _ _;
      all_steps = each_steps by list ∙ sym (each_length by list);
      legal = λ alive rest later. each_legal list c by alive (made_may updates c by primary) rest later;
      still_open = λ alive. ap (λ d. d.closed) (each_applied by list c) ∙ fold_closed list c ∙ alive;
      few_steps = omega (arith, each_steps by list, few, size);
      few_numbers = omega (arith, ap (λ d. d.next) (each_applied by list c), fold_next list c, few, size);
    }

-- the events of a batch that succeeds
record IsBatchSound (c : ControlState) (list : List Event) : Type 0 where
  all_steps : length (steps_of list) ≡ length list
  legal : c.closed ≡ false → (rest : List Event) → Legal (applied c list) rest → Legal c (list ++ rest)
  closed : (applied c list).closed ≡ c.closed
  few_steps : length (steps_of list) ≤ 4096
  few_numbers : (applied c list).next ≤ c.next + 4096

no_batch : (c : ControlState) → IsBatchSound c []
no_batch c = record { all_steps = refl; legal = λ alive rest later. later; closed = refl; few_steps = omega arith; few_numbers = omega arith }

one_batch : (c : ControlState) (by : Origin) (list : List Change) → length list ≤ 4096 → MayChanges c by list → IsBatchSound c (batch by list)
one_batch c by [] few may = no_batch c
one_batch c by (change ∷ list) few may = record {
  all_steps = refl;
  legal = λ alive rest later. batch_legal (change ∷ list) c by alive few may rest later;
  closed = fold_closed (change ∷ list) c;
  few_steps = omega arith;
  few_numbers = omega (arith, fold_next (change ∷ list) c, few);
}

batch_unless : (b : Bool) (c : ControlState) (by : Origin) (list : List Change) → length list ≤ 4096 → MayChanges c by list → IsBatchSound c (if b then [] else batch by list)
batch_unless true c by list few may = no_batch c
batch_unless false c by list few may = one_batch c by list few may

atomic_sound : (c : ControlState) (by : Origin) (updates : List Update) → is_of_primary (primary c by.role) by.election_id ≡ true → length updates ≤ 4096
    → IsSound c (all_or_nothing by (outcomes c by.role updates))
atomic_sound c by updates primary size =
    let sound = batch_unless (has_failed (outcomes c by.role updates)) c by (made_by c by.role updates) (omega (arith, made_few updates c by.role, size)) (made_may updates c by primary) in record {
      available = reply_available _ _;
      short_packet = reply_packet _ _;
      all_steps = sound.all_steps;
      legal = sound.legal;
      still_open = λ alive. sound.closed ∙ alive;
      few_steps = sound.few_steps;
      few_numbers = sound.few_numbers;
    }

written_sound : (b : Bool) (c : ControlState) (by : Origin) (updates : List Update) → is_of_primary (primary c by.role) by.election_id ≡ true → length updates ≤ 4096
    → IsSound c (if b then all_or_nothing by (outcomes c by.role updates) else continued by (outcomes c by.role updates))
written_sound true c by updates primary size = atomic_sound c by updates primary size
written_sound false c by updates primary size = continued_sound c by updates primary size

write_sound : (o : Option Code) (c : ControlState) (lane k : ℕ) (request : WriteRequest) → write_refusal c request ≡ o → Available o → IsSound c (write_unless o c lane k request)
write_sound (Some code) c lane k request is available = plain_sound c code _ available
write_sound None c lane k request is available =
    let h = passed c request is in written_sound (is_atomic (atomicity_of request.atomicity)) c (origin lane k request) request.updates h.primary h.size

unless_available : (o : Option Code) (g : Figures) (plane : Plane) (list : List (Option Entity)) → Available o → IfErr (read_unless o g plane list) (λ code. is_unavailable code ≡ false)
unless_available None g plane list h = tt
unless_available (Some code) g plane list h = h

plane_available : (o : Option Plane) (g : Figures) (request : ReadRequest) → IfErr (read_in o g request) (λ code. is_unavailable code ≡ false)
plane_available None g request = refl
plane_available (Some plane) g request = unless_available _ g plane request.entities (first_available plane.config.info request.entities)

device_available : (b : Bool) (r : Result (List (List ℕ)) Code) → IfErr r (λ code. is_unavailable code ≡ false) → IfErr (if b then r else Err codes.NotFound) (λ code. is_unavailable code ≡ false)
device_available true r h = h
device_available false r h = refl

read_available : (c : ControlState) (g : Figures) (request : ReadRequest) → IfErr (read_result c g request) (λ code. is_unavailable code ≡ false)
unfolding read_result
read_available c g request = device_available (request.device_id == c.device) _ (plane_available (target c) g request)

read_sound : (c : ControlState) (r : Result (List (List ℕ)) Code) → IfErr r (λ code. is_unavailable code ≡ false) → IsSound c (read_reply r)
read_sound c (Ok messages) h = plain_sound c codes.Ok messages refl
read_sound c (Err code) h = plain_sound c code _ h

-- no rule of an arbitration refuses for memory
rule_available : (rule : ArbitrationRule) → is_unavailable (arbitration_code rule) ≡ false
rule_available arbitration.A1 = refl
rule_available arbitration.A2 = refl
rule_available arbitration.A3 = refl
rule_available arbitration.A4 = refl
rule_available arbitration.A5 = refl

arbitration_unless_sound : (o : Option ArbitrationRule) (c : ControlState) (lane k : ℕ) (update : MasterArbitrationUpdate) → (o ≡ None → cause c.roles lane (read_update update) ≡ None)
    → IsSound c (arbitration_unless o c lane k (read_update update))
arbitration_unless_sound (Some rule) c lane k update is = plain_sound c (arbitration_code rule) [] (rule_available rule)
arbitration_unless_sound None c lane k update is = record {
  available = refl;
  short_packet = tt;
  all_steps = refl;
  legal = λ alive rest later. ((alive, record { update = read_update update; served = update_served update; asks = refl; no_cause = is refl }), later);
  still_open = λ alive. alive;
  few_steps = omega arith;
  few_numbers = omega arith;
}

by_device : (b : Bool) (o : Option ArbitrationRule) → (if b then o else Some arbitration.A1) ≡ None → o ≡ None
by_device true o h = h
by_device false o h = absurd (cc)

arbitration_sound : (c : ControlState) (lane k : ℕ) (update : MasterArbitrationUpdate) → IsSound c (arbitration_answer c lane k update)
arbitration_sound c lane k update = arbitration_unless_sound _ c lane k update (by_device (update.device_id == c.device) (cause c.roles lane (read_update update)))

unreadable_sound : (c : ControlState) (method : Method) → IsSound c (unreadable method)
unreadable_sound c methods.Write = plain_sound c codes.InvalidArgument _ refl
unreadable_sound c methods.Read = plain_sound c codes.InvalidArgument _ refl
unreadable_sound c methods.SetForwardingPipelineConfig = plain_sound c codes.InvalidArgument _ refl
unreadable_sound c methods.GetForwardingPipelineConfig = plain_sound c codes.InvalidArgument _ refl
unreadable_sound c methods.StreamChannel = plain_sound c codes.InvalidArgument [] refl
unreadable_sound c methods.Capabilities = plain_sound c codes.InvalidArgument _ refl

unserved_sound : (c : ControlState) (lane : ℕ) → IsSound c (unserved_answer lane)
unserved_sound c lane = record {
  available = refl;
  short_packet = tt;
  all_steps = refl;
  legal = λ alive rest later. later;
  still_open = λ alive. alive;
  few_steps = omega arith;
  few_numbers = omega arith;
}

packet_sound : (c : ControlState) (lane : ℕ) (packet : PacketOut) (r : Result (List ℕ) PacketRule) → IfOk r (λ bytes. length bytes ≤ 9216) → IsSound c (packet_reply lane packet r)
packet_sound c lane packet (Ok bytes) short = record {
  available = refl;
  short_packet = short;
  all_steps = refl;
  legal = λ alive rest later. later;
  still_open = λ alive. alive;
  few_steps = omega arith;
  few_numbers = omega arith;
}
packet_sound c lane packet (Err rule) short = record {
  available = refl;
  short_packet = tt;
  all_steps = refl;
  legal = λ alive rest later. later;
  still_open = λ alive. alive;
  few_steps = omega arith;
  few_numbers = omega arith;
}

-- what enters is short
abbrev IsShort : Result (List ℕ) PacketRule → Type 0
IsShort r = IfOk r (λ bytes. length bytes ≤ 9216)

long_by : (b : Bool) (bytes : List ℕ) → nat_lt 9216 (length bytes) ≡ b → IsShort (if b then Err rules.P4 else Ok bytes)
long_by true bytes h = tt
long_by false bytes h = not_lt 9216 (length bytes) h

unless_by : (b : Bool) (r : Result (List ℕ) PacketRule) (rule : PacketRule) → IsShort r → IsShort (if b then r else Err rule)
unless_by true r rule h = h
unless_by false r rule h = tt

plane_short : (o : Option Plane) (packet : PacketOut) → IsShort (entering_in o packet)
unfolding entering
plane_short None packet = tt
plane_short (Some plane) packet =
    let bytes = packet_bytes (packet_out_fields plane.config.info) packet in
    unless_by (fills (packet_out_fields plane.config.info) packet.metadata) (unless_long bytes) rules.P3 (long_by (nat_lt 9216 (length bytes)) bytes refl)

result_short : (c : ControlState) (lane : ℕ) (packet : PacketOut) → IsShort (packet_result c lane packet)
unfolding packet_result
result_short c lane packet = unless_by (is_primary (status_of c.roles lane)) (entering_in c.active packet) rules.P1 (plane_short c.active packet)

stream_sound : (message : Option StreamMessageRequest) (c : ControlState) (lane k : ℕ) → IsSound c (stream_answer c lane k message)
stream_sound None c lane k = plain_sound c codes.InvalidArgument [] refl
stream_sound (Some (requests.Arbitration update)) c lane k = arbitration_sound c lane k update
stream_sound (Some (requests.Packet packet)) c lane k = packet_sound c lane packet _ (result_short c lane packet)
stream_sound (Some (requests.DigestAck acknowledged)) c lane k = plain_sound c codes.Ok [] refl
stream_sound (Some (requests.Other other)) c lane k = unserved_sound c lane

leave_sound : (o : Option Session) (c : ControlState) (lane k : ℕ) → session_in c.roles.sessions lane ≡ o → IsSound c (leave_of o c lane k)
leave_sound None c lane k is = plain_sound c codes.Ok [] refl
leave_sound (Some session) c lane k is = record {
  available = refl;
  short_packet = tt;
  all_steps = refl;
  legal = λ alive rest later. ((alive, ap is_some is), later);
  still_open = λ alive. alive;
  few_steps = omega arith;
  few_numbers = omega arith;
}

pub answer_to_sound : (call : Call) (c : ControlState) (g : Figures) (lane k : ℕ) → IsSound c (answer_to c g lane k call)
answer_to_sound (calls.Write request) c g lane k = write_sound _ c lane k request refl (write_available (request.device_id == c.device) (is_of_primary (primary c request.role_id) request.election_id) (is_some (target c)) (is_some (atomicity_of request.atomicity)) (nat_lt 4096 (length request.updates)))
answer_to_sound (calls.Read request) c g lane k = read_sound c _ (read_available c g request)
answer_to_sound (calls.Set request) c g lane k = set_sound c lane k request
answer_to_sound (calls.Get request) c g lane k = get_sound c request
answer_to_sound (calls.Stream message) c g lane k = stream_sound message c lane k
answer_to_sound calls.Capabilities c g lane k = plain_sound c codes.Ok _ refl
answer_to_sound (calls.Unreadable method) c g lane k = unreadable_sound c method
answer_to_sound calls.Leave c g lane k = leave_sound _ c lane k refl

pub answer_sound : (c : ControlState) (g : Figures) (lane k : ℕ) (call : LaneCall) → IsSound c (answer c g lane k call)
unfolding answer
answer_sound c g lane k call = answer_to_sound (called call) c g lane k

reads_nothing : (r : Result (List (List ℕ)) Code) → (read_reply r).events ≡ []
reads_nothing (Ok messages) = refl
reads_nothing (Err code) = refl

ignore_in : (call : Call) (c : ControlState) (g h : Figures) (lane k : ℕ) → (answer_to c g lane k call).events ≡ (answer_to c h lane k call).events
ignore_in (calls.Write request) c g h lane k = refl
ignore_in (calls.Read request) c g h lane k = reads_nothing _ ∙ sym (reads_nothing _)
ignore_in (calls.Set request) c g h lane k = refl
ignore_in (calls.Get request) c g h lane k = refl
ignore_in (calls.Stream message) c g h lane k = refl
ignore_in calls.Capabilities c g h lane k = refl
ignore_in (calls.Unreadable method) c g h lane k = refl
ignore_in calls.Leave c g h lane k = refl

-- the events of a call do not depend on the figures
pub events_ignore : EventsIgnoreFigures
unfolding answer
events_ignore c g h lane k call = ignore_in (called call) c g h lane k
