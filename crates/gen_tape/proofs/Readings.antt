-- The calls of the tape of a number, as they are read.
use Rattle.std.proofs.Common.{◌≡◌, ℕ, zero, suc, ◌+◌, ◌*◌, ◌/◌, ◌%◌, ◌^◌, ◌<◌, ◌≤◌, pos, All, List, [], ◌∷◌, ◌++◌, length, map, Option, Some, None, refl, sym, ap, subst, ◌∙◌, arith, lit<, lit≤}
use Rattle.std.specs.List.{cons_option, filter_map}
use Rattle.std.specs.Option.{option_map}
use Rattle.std.specs.Prelude.{unwrap_or}
use Rattle.std.proofs.lemmas.List.Elements.{All-nil, All-cons}
use Rattle.canon_bytes.specs.Base128.{base_128}
use Rattle.list_types.specs.Options.{◌>>=◌}
use Rattle.p4_types.specs.declared.calls.Call.{Call as Asked}
use Rattle.p4_types.specs.declared.calls.Call.TheVariants as asked
use Rattle.p4_types.specs.declared.calls.Method.TheVariants as methods
use Rattle.p4_types.specs.declared.messages.ForwardingPipelineConfig.{ForwardingPipelineConfig}
use Rattle.p4_types.specs.declared.messages.SetForwardingPipelineConfigRequest.{SetForwardingPipelineConfigRequest}
use Rattle.p4_types.specs.declared.messages.Uint128.{Uint128}
use Rattle.wire_fields.specs.Fields.{WireField}
use Rattle.wire_fields.specs.Laws.{CanBeWritten}
use Rattle.wire_fields.specs.Reading.{varint_in, bytes_at as length_bytes_at, tag_at, field_at}
use Rattle.wire_fields.specs.Spelling.{spelling, number_field, bytes_field}
use Rattle.wire_fields.proofs.LawProofs.{spelling_spells}
use Rattle.wire_messages.specs.Message.{uint64_at, int32_at, number_at, bytes_at, messages_at, message_at, choice_at}
use Rattle.p4v1_read.specs.Calls.{call_by, call_of}
use Rattle.p4v1_read.specs.Entities.{param_of, action_of, lpm_of, kind_by, kind_of, field_match_of, table_action_by, table_action_of, table_entry_of, entity_by, entity_of}
use Rattle.p4v1_read.specs.MessageFields.{fields_in, fields_of}
use Rattle.p4v1_read.specs.Nested.{read, one_at, all_at, inside_at, member_at, opaque_at}
use Rattle.p4v1_read.specs.Requests.{uint128_of, election_id_at, update_of, write_request_of, config_of, set_request_of}
use Rattle.p4v1_read.specs.Stream.{arbitration_of, stream_by, stream_of}
use Rattle.p4v1_read.proofs.FieldsSpelled.{computed}
use Rattle.run_spec.specs.Rows.{id_bytes}
use Rattle.run_spec.specs.Text.{count_up}
use Rattle.tape_spec.specs.declared.item.TapeItem.{TapeItem}
use Rattle.gen_tape.specs.Router.{router_info, router_json}
use Rattle.gen_tape.specs.Generated.{config_bytes, commit_bytes, insert_bytes, asking, committing, inserting, sending, generated}
use Rattle.gen_tape.specs.Laws.{first_id, arbitration, commit, insert, call_in, CallsAreRead}

-- ---- by computation

asked_for : call_in asking ≡ Some arbitration
unfolding base_128 varint_in length_bytes_at tag_at field_at number_at bytes_at messages_at message_at choice_at call_by fields_in fields_of one_at all_at inside_at member_at opaque_at uint128_of election_id_at arbitration_of stream_by stream_of
asked_for = refl

inserted : (x y port : ℕ) → call_of methods.Write (insert_bytes x y port) ≡ insert x y port
unfolding base_128 varint_in length_bytes_at tag_at field_at number_at bytes_at messages_at message_at choice_at call_by fields_in fields_of one_at all_at inside_at member_at opaque_at uint128_of election_id_at param_of action_of lpm_of kind_by kind_of field_match_of table_action_by table_action_of table_entry_of entity_by entity_of update_of write_request_of insert_bytes
inserted x y port = refl

id_read : read uint128_of (id_bytes 1) ≡ Some first_id
unfolding base_128 varint_in length_bytes_at tag_at field_at number_at fields_in fields_of uint128_of
id_read = refl

-- ---- a commit of any P4Info and any device configuration that can be written

abbrev Fits : List ℕ → Type 0
Fits bytes = length bytes < 2 ^ 64

-- what is spelled is read as its fields
read_back : (fields : List WireField) → All CanBeWritten fields → fields_of (spelling fields) ≡ Some fields
unfolding fields_of
read_back fields fits = computed fields (length (spelling fields)) (spelling fields) (omega arith) (spelling_spells fields fits)

number_fits : (number value : ℕ) → 0 < number → number ≤ 536870911 → value < 2 ^ 64 → CanBeWritten (number_field number value)
number_fits number value some low fits = record { not_zero = some; in_range = low; payload_fits = fits }

bytes_fit : (number : ℕ) (bytes : List ℕ) → 0 < number → number ≤ 536870911 → Fits bytes → CanBeWritten (bytes_field number bytes)
bytes_fit number bytes some low fits = record { not_zero = some; in_range = low; payload_fits = fits }

abbrev config_fields : List ℕ → List ℕ → List WireField
config_fields info json = bytes_field 1 info ∷ bytes_field 2 json ∷ []

abbrev config_meant : List ℕ → List ℕ → ForwardingPipelineConfig
config_meant info json = record { p4info = Some info; p4_device_config = json; cookie = None }

config_fits : (info json : List ℕ) → Fits info → Fits json → All CanBeWritten (config_fields info json)
config_fits info json a b =
    All-cons CanBeWritten (bytes_field 1 info) (bytes_field 2 json ∷ []) (bytes_fit 1 info (lit< tt) (lit≤ tt) a)
    (All-cons CanBeWritten (bytes_field 2 json) [] (bytes_fit 2 json (lit< tt) (lit≤ tt) b) (All-nil CanBeWritten))

config_says : (info json : List ℕ) → config_of (config_fields info json) ≡ Some (config_meant info json)
unfolding config_of message_at messages_at bytes_at one_at
config_says info json = refl

config_read : (info json : List ℕ) → Fits info → Fits json → read config_of (config_bytes info json) ≡ Some (config_meant info json)
config_read info json a b = ap (λ (o : Option (List WireField)). o >>= config_of) (read_back (config_fields info json) (config_fits info json a b)) ∙ config_says info json

abbrev commit_fields : List ℕ → List WireField
commit_fields config = number_field 1 1 ∷ bytes_field 3 (id_bytes 1) ∷ number_field 4 3 ∷ bytes_field 5 config ∷ []

abbrev commit_meant : ForwardingPipelineConfig → SetForwardingPipelineConfigRequest
commit_meant config = record { device_id = 1; role_id = 0; election_id = first_id; action = pos 3; config = Some config }

id_fits : Fits (id_bytes 1)
unfolding base_128
id_fits = lit< tt

commit_fits : (config : List ℕ) → Fits config → All CanBeWritten (commit_fields config)
commit_fits config fits =
    All-cons CanBeWritten (number_field 1 1) (bytes_field 3 (id_bytes 1) ∷ number_field 4 3 ∷ bytes_field 5 config ∷ []) (number_fits 1 1 (lit< tt) (lit≤ tt) (lit< tt))
    (All-cons CanBeWritten (bytes_field 3 (id_bytes 1)) (number_field 4 3 ∷ bytes_field 5 config ∷ []) (bytes_fit 3 (id_bytes 1) (lit< tt) (lit≤ tt) id_fits)
    (All-cons CanBeWritten (number_field 4 3) (bytes_field 5 config ∷ []) (number_fits 4 3 (lit< tt) (lit≤ tt) (lit< tt))
    (All-cons CanBeWritten (bytes_field 5 config) [] (bytes_fit 5 config (lit< tt) (lit≤ tt) fits) (All-nil CanBeWritten))))

device_said : (config : List ℕ) → uint64_at 1 (commit_fields config) ≡ Some 1
unfolding number_at
device_said config = refl

role_said : (config : List ℕ) → uint64_at 2 (commit_fields config) ≡ Some 0
unfolding number_at
role_said config = refl

id_said : (config : List ℕ) → election_id_at 3 (commit_fields config) ≡ Some first_id
unfolding election_id_at one_at message_at messages_at
id_said config = ap (λ (o : Option Uint128). (o >>= λ y. Some (Some y)) >>= λ id. Some (unwrap_or id (record { high = 0; low = 0 }))) id_read

action_said : (config : List ℕ) → int32_at 4 (commit_fields config) ≡ Some (pos 3)
unfolding number_at
action_said config = refl

config_said : (config : List ℕ) (meant : ForwardingPipelineConfig) → read config_of config ≡ Some meant → one_at config_of 5 (commit_fields config) ≡ Some (Some meant)
unfolding one_at message_at messages_at
config_said config meant is = ap (λ (o : Option ForwardingPipelineConfig). o >>= λ y. Some (Some y)) is

commit_says : (config : List ℕ) (meant : ForwardingPipelineConfig) → read config_of config ≡ Some meant → set_request_of (commit_fields config) ≡ Some (commit_meant meant)
unfolding set_request_of
commit_says config meant is = rw (device_said config, role_said config, id_said config, action_said config, config_said config meant is) refl

commit_read : (info json : List ℕ) → Fits info → Fits json → Fits (config_bytes info json) → call_of methods.SetForwardingPipelineConfig (commit_bytes info json) ≡ asked.Set (commit_meant (config_meant info json))
unfolding call_by commit_bytes
commit_read info json a b c =
    ap (λ (o : Option (List WireField)). unwrap_or (option_map asked.Set (o >>= set_request_of)) (asked.Unreadable methods.SetForwardingPipelineConfig)) (read_back (commit_fields (config_bytes info json)) (commit_fits (config_bytes info json) c))
    ∙ ap (λ (o : Option SetForwardingPipelineConfigRequest). unwrap_or (option_map asked.Set o) (asked.Unreadable methods.SetForwardingPipelineConfig)) (commit_says (config_bytes info json) (config_meant info json) (config_read info json a b))

-- ---- the router's

info_size : length router_info ≡ 149
unfolding router_info
info_size = refl

json_size : length router_json ≡ 4125
unfolding router_json
json_size = refl

config_size : length (config_bytes router_info router_json) ≡ 4280
unfolding base_128 router_info router_json
config_size = refl

small : (bytes : List ℕ) (n : ℕ) → length bytes ≡ n → n < 2 ^ 64 → Fits bytes
small bytes n is fits = subst (λ (k : ℕ). k < 2 ^ 64) (sym is) fits

committed : call_in committing ≡ Some commit
committed =
    ap (λ (c : Asked). Some c)
    (commit_read router_info router_json (small router_info 149 info_size (lit< tt)) (small router_json 4125 json_size (lit< tt)) (small (config_bytes router_info router_json) 4280 config_size (lit< tt)))

-- ---- the whole tape

no_calls : (n from count : ℕ) → filter_map call_in (map (sending n) (count_up from count)) ≡ []
no_calls n from zero = refl
no_calls n from (suc count) = no_calls n (suc from) count

abbrev route : ℕ → Asked
route i = insert (i / 256) (i % 256) (1 + i % 8)

routes_read : (from count : ℕ) (rest : List TapeItem) → filter_map call_in rest ≡ [] → filter_map call_in (map inserting (count_up from count) ++ rest) ≡ map route (count_up from count)
routes_read from zero rest none = none
routes_read from (suc count) rest none =
    ap (λ (c : Asked). c ∷ filter_map call_in (map inserting (count_up (suc from) count) ++ rest)) (inserted (from / 256) (from % 256) (1 + from % 8))
    ∙ ap (λ (l : List Asked). route from ∷ l) (routes_read (suc from) count rest none)

calls_from : (n : ℕ) (first second : TapeItem) (a b : Asked) → call_in first ≡ Some a → call_in second ≡ Some b
    → filter_map call_in (first ∷ second ∷ (map inserting (count_up 0 (100 * n)) ++ map (sending n) (count_up 0 (400 * n)))) ≡ a ∷ b ∷ map route (count_up 0 (100 * n))
calls_from n first second a b is also =
    let rest = map inserting (count_up 0 (100 * n)) ++ map (sending n) (count_up 0 (400 * n)) in
    ap (λ (o : Option Asked). cons_option o (cons_option (call_in second) (filter_map call_in rest))) is
    ∙ ap (λ (o : Option Asked). a ∷ cons_option o (filter_map call_in rest)) also
    ∙ ap (λ (l : List Asked). a ∷ b ∷ l) (routes_read 0 (100 * n) (map (sending n) (count_up 0 (400 * n))) (no_calls n 0 (400 * n)))

pub calls_are_read : CallsAreRead
unfolding generated
calls_are_read n = calls_from n asking committing arbitration commit asked_for committed
