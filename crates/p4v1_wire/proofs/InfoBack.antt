-- A P4Info is read back.
use Rattle.std.proofs.Common.{◌≡◌, [], pos, ◌^◌, ◌<◌, IsTrue, All, List, Some, refl, unwrap_or}
use Rattle.p4_types.specs.declared.p4info.Preamble.{Preamble}
use Rattle.p4_types.specs.declared.p4info.CounterSpec.{CounterSpec}
use Rattle.p4_types.specs.declared.info.MatchKind.{MatchKind}
use Rattle.p4_types.specs.declared.info.MatchKind.TheVariants as kinds
use Rattle.p4_types.specs.declared.info.Scope.{Scope}
use Rattle.p4_types.specs.declared.info.Scope.TheVariants as scopes
use Rattle.std.proofs.Common.{lit<}
use Rattle.wire_fields.specs.Laws.{CanBeWritten}
use Rattle.wire_messages.specs.Message.{number_at, text_at, texts_at}
use Rattle.wire_messages.specs.Written.{Message, payloads, Row, written, rising, look}
use Rattle.wire_messages.proofs.CanWrite.{rows_can_be_written}
use Rattle.wire_messages.proofs.ReadBack.{uint32_back, int32_back, int64_back, flag_back, text_back, texts_back, packed_back, carried_back}
use Rattle.p4v1_read.specs.Nested.{one_at}
use Rattle.p4v1_read.specs.P4Infos.{preamble_of, match_field_of, action_ref_of, table_of, param_of, action_of, action_profile_of, counter_spec_of, counter_of, direct_counter_of, metadata_of, controller_packet_metadata_of, digest_of, p4info_of}
use Rattle.p4v1_wire.specs.InfoRows.{kind_number, scope_number, preamble_rows, PreambleInRange, match_field_rows, MatchFieldInRange, action_ref_rows, ActionRefInRange, table_rows, TableInRange, param_rows, ParamInRange, action_rows, ActionInRange, action_profile_rows, ActionProfileInRange, counter_spec_rows, CounterSpecInRange, counter_rows, CounterInRange, direct_counter_rows, DirectCounterInRange, header_field_rows, HeaderFieldInRange, controller_header_rows, ControllerHeaderInRange, digest_rows, DigestInRange, info_rows, InfoInRange}
use Rattle.p4v1_wire.specs.InfoMessages.{no_preamble, no_spec, match_field_message, action_ref_message, table_message, param_message, action_message, action_profile_message, counter_message, direct_counter_message, header_field_message, controller_header_message, digest_message, message_of, TableNumbersFit, ActionNumbersFit, ProfileNumbersFit, CounterNumbersFit, HeaderNumbersFit, InfoFits}
use Rattle.p4v1_wire.specs.Rows.{fields_by}
use Rattle.p4v1_wire.specs.ReadBack.{IsReadBack, counted, itself}
use Rattle.p4v1_wire.proofs.NestedBack.{read_from, optional_back, all_back, or_default}

-- a number in range, and another fact of it
abbrev Both : {A : Type 0} → (A → Type 0) → (A → Type 0) → A → Type 0
Both P Q x = P x × Q x

both : {A : Type 0} (P Q : A → Type 0) (xs : List A) → All P xs → All Q xs → All (Both P Q) xs
both P Q xs p q = λ k d h. (p k d h, q k d h)

kind_small : (kind : MatchKind) → kind_number kind < 2 ^ 31
kind_small kinds.Exact = lit< tt
kind_small kinds.Lpm = lit< tt
kind_small kinds.Ternary = lit< tt
kind_small kinds.Range = lit< tt
kind_small kinds.Optional = lit< tt

scope_small : (scope : Scope) → scope_number scope < 2 ^ 31
scope_small scopes.TableAndDefault = lit< tt
scope_small scopes.TableOnly = lit< tt
scope_small scopes.DefaultOnly = lit< tt

preamble_means : (m : Preamble) → PreambleInRange m → preamble_of (fields_by preamble_rows m) ≡ Some m
unfolding preamble_of preamble_rows PreambleInRange
preamble_means m fits =
    let rows = preamble_rows m in
    rw (
      uint32_back 1 rows m.id refl refl fits.0,
      text_back 2 rows m.name refl refl fits.1.0,
      text_back 3 rows m.alias refl refl fits.1.1.0,
      texts_back 4 rows m.annotations refl refl fits.1.1.1.0,
    ) refl

preamble_back : IsReadBack preamble_of preamble_rows PreambleInRange itself
unfolding preamble_rows PreambleInRange
preamble_back m fits short = read_from preamble_of (preamble_rows m) m refl fits short (preamble_means m fits)

default_preamble : preamble_of [] ≡ Some no_preamble
unfolding preamble_of number_at text_at texts_at
default_preamble = refl

-- a preamble that is left out stands for itself
pub preamble_or : (m : Preamble) → PreambleInRange m → unwrap_or (counted preamble_rows itself (Some m)) no_preamble ≡ m
preamble_or m fits = or_default preamble_of (fields_by preamble_rows m) m no_preamble (preamble_means m fits) default_preamble

-- the preamble of an object
preamble_is : (rows : List Row) (m : Preamble) → IsTrue (rising rows) → look 1 rows ≡ payloads (Message (Some (fields_by preamble_rows m))) → All CanBeWritten (written rows) → PreambleInRange m
    → one_at preamble_of 1 (written rows) ≡ Some (counted preamble_rows itself (Some m))
preamble_is rows m up is whole fits = optional_back preamble_of 1 rows preamble_rows PreambleInRange itself (Some m) up is whole fits preamble_back

match_field_back : IsReadBack match_field_of match_field_rows (Both MatchFieldInRange (λ field. field.bitwidth < 2 ^ 31)) match_field_message
unfolding match_field_of match_field_rows MatchFieldInRange
match_field_back m fits short =
    let rows = match_field_rows m in
    read_from match_field_of rows (match_field_message m) refl fits.0 short
    (rw (
      uint32_back 1 rows m.id refl refl fits.0.0,
      text_back 2 rows m.name refl refl fits.0.1.0,
      int32_back 4 rows (pos m.bitwidth) refl refl fits.1,
      int32_back 5 rows (pos (kind_number m.kind)) refl refl (kind_small m.kind),
    ) refl)

action_ref_back : IsReadBack action_ref_of action_ref_rows ActionRefInRange action_ref_message
unfolding action_ref_of action_ref_rows ActionRefInRange
action_ref_back m fits short =
    let rows = action_ref_rows m in
    read_from action_ref_of rows (action_ref_message m) refl fits short
    (rw (
      uint32_back 1 rows m.id refl refl fits.0,
      int32_back 3 rows (pos (scope_number m.scope)) refl refl (scope_small m.scope),
    ) refl)

table_back : IsReadBack table_of table_rows (Both TableInRange TableNumbersFit) table_message
unfolding table_of table_rows TableInRange
table_back m fits short =
    let rows = table_rows m in
    let own = fits.0.0 in
    let whole = rows_can_be_written rows refl own short in
    read_from table_of rows (table_message m) refl own short
    (rw (
      preamble_is rows m.preamble refl refl whole fits.0.1,
      all_back match_field_of 2 rows match_field_rows (Both MatchFieldInRange (λ field. field.bitwidth < 2 ^ 31)) match_field_message m.match_fields refl refl whole (both MatchFieldInRange (λ field. field.bitwidth < 2 ^ 31) m.match_fields fits.0.2 fits.1.1) match_field_back,
      all_back action_ref_of 3 rows action_ref_rows ActionRefInRange action_ref_message m.action_refs refl refl whole fits.0.3 action_ref_back,
      uint32_back 4 rows (unwrap_or m.const_default_action 0) refl refl own.1.1.1.0,
      uint32_back 6 rows (unwrap_or m.action_profile 0) refl refl own.1.1.1.1.0,
      packed_back 7 rows m.direct_counters refl refl own.1.1.1.1.1.0,
      int64_back 8 rows (pos m.size) refl refl fits.1.0,
      int32_back 9 rows m.idle_timeout_behavior refl refl own.1.1.1.1.1.1.1.0,
      flag_back 10 rows m.is_const_table refl refl,
    ) refl)

param_back : IsReadBack param_of param_rows (Both ParamInRange (λ param. param.bitwidth < 2 ^ 31)) param_message
unfolding param_of param_rows ParamInRange
param_back m fits short =
    let rows = param_rows m in
    read_from param_of rows (param_message m) refl fits.0 short
    (rw (
      uint32_back 1 rows m.id refl refl fits.0.0,
      text_back 2 rows m.name refl refl fits.0.1.0,
      int32_back 4 rows (pos m.bitwidth) refl refl fits.1,
    ) refl)

action_back : IsReadBack action_of action_rows (Both ActionInRange ActionNumbersFit) action_message
unfolding action_of action_rows ActionInRange
action_back m fits short =
    let rows = action_rows m in
    let whole = rows_can_be_written rows refl fits.0.0 short in
    read_from action_of rows (action_message m) refl fits.0.0 short
    (rw (
      preamble_is rows m.preamble refl refl whole fits.0.1,
      all_back param_of 2 rows param_rows (Both ParamInRange (λ param. param.bitwidth < 2 ^ 31)) param_message m.params refl refl whole (both ParamInRange (λ param. param.bitwidth < 2 ^ 31) m.params fits.0.2 fits.1) param_back,
    ) refl)

action_profile_back : IsReadBack action_profile_of action_profile_rows (Both ActionProfileInRange ProfileNumbersFit) action_profile_message
unfolding action_profile_of action_profile_rows ActionProfileInRange
action_profile_back m fits short =
    let rows = action_profile_rows m in
    let own = fits.0.0 in
    let whole = rows_can_be_written rows refl own short in
    read_from action_profile_of rows (action_profile_message m) refl own short
    (rw (
      preamble_is rows m.preamble refl refl whole fits.0.1,
      packed_back 2 rows m.table_ids refl refl own.1.0,
      flag_back 3 rows m.with_selector refl refl,
      int64_back 4 rows (pos m.size) refl refl fits.1.0,
      int32_back 5 rows (pos m.max_group_size) refl refl fits.1.1,
    ) refl)

counter_spec_means : (m : CounterSpec) → CounterSpecInRange m → counter_spec_of (fields_by counter_spec_rows m) ≡ Some m
unfolding counter_spec_of counter_spec_rows CounterSpecInRange
counter_spec_means m fits = rw (int32_back 1 (counter_spec_rows m) m.unit refl refl fits.0) refl

counter_spec_back : IsReadBack counter_spec_of counter_spec_rows CounterSpecInRange itself
unfolding counter_spec_rows CounterSpecInRange
counter_spec_back m fits short = read_from counter_spec_of (counter_spec_rows m) m refl fits short (counter_spec_means m fits)

default_spec : counter_spec_of [] ≡ Some no_spec
unfolding counter_spec_of number_at
default_spec = refl

-- a kind of a counter that is left out stands for itself
pub spec_or : (m : CounterSpec) → CounterSpecInRange m → unwrap_or (counted counter_spec_rows itself (Some m)) no_spec ≡ m
spec_or m fits = or_default counter_spec_of (fields_by counter_spec_rows m) m no_spec (counter_spec_means m fits) default_spec

-- the kind of a counter
spec_is : (rows : List Row) (m : CounterSpec) → IsTrue (rising rows) → look 2 rows ≡ payloads (Message (Some (fields_by counter_spec_rows m))) → All CanBeWritten (written rows) → CounterSpecInRange m
    → one_at counter_spec_of 2 (written rows) ≡ Some (counted counter_spec_rows itself (Some m))
spec_is rows m up is whole fits = optional_back counter_spec_of 2 rows counter_spec_rows CounterSpecInRange itself (Some m) up is whole fits counter_spec_back

counter_back : IsReadBack counter_of counter_rows (Both CounterInRange CounterNumbersFit) counter_message
unfolding counter_of counter_rows CounterInRange
counter_back m fits short =
    let rows = counter_rows m in
    let whole = rows_can_be_written rows refl fits.0.0 short in
    read_from counter_of rows (counter_message m) refl fits.0.0 short
    (rw (
      preamble_is rows m.preamble refl refl whole fits.0.1,
      spec_is rows (record { unit = m.unit }) refl refl whole fits.0.2,
      int64_back 3 rows (pos m.size) refl refl fits.1,
    ) refl)

direct_counter_back : IsReadBack direct_counter_of direct_counter_rows DirectCounterInRange direct_counter_message
unfolding direct_counter_of direct_counter_rows DirectCounterInRange
direct_counter_back m fits short =
    let rows = direct_counter_rows m in
    let whole = rows_can_be_written rows refl fits.0 short in
    read_from direct_counter_of rows (direct_counter_message m) refl fits.0 short
    (rw (
      preamble_is rows m.preamble refl refl whole fits.1,
      spec_is rows (record { unit = m.unit }) refl refl whole fits.2,
      uint32_back 3 rows m.table refl refl fits.0.1.1.0,
    ) refl)

header_field_back : IsReadBack metadata_of header_field_rows (Both HeaderFieldInRange (λ field. field.bitwidth < 2 ^ 31)) header_field_message
unfolding metadata_of header_field_rows HeaderFieldInRange
header_field_back m fits short =
    let rows = header_field_rows m in
    read_from metadata_of rows (header_field_message m) refl fits.0 short
    (rw (
      uint32_back 1 rows m.id refl refl fits.0.0,
      text_back 2 rows m.name refl refl fits.0.1.0,
      int32_back 4 rows (pos m.bitwidth) refl refl fits.1,
    ) refl)

controller_header_back : IsReadBack controller_packet_metadata_of controller_header_rows (Both ControllerHeaderInRange HeaderNumbersFit) controller_header_message
unfolding controller_packet_metadata_of controller_header_rows ControllerHeaderInRange
controller_header_back m fits short =
    let rows = controller_header_rows m in
    let whole = rows_can_be_written rows refl fits.0.0 short in
    read_from controller_packet_metadata_of rows (controller_header_message m) refl fits.0.0 short
    (rw (
      preamble_is rows m.preamble refl refl whole fits.0.1,
      all_back metadata_of 2 rows header_field_rows (Both HeaderFieldInRange (λ field. field.bitwidth < 2 ^ 31)) header_field_message m.fields refl refl whole (both HeaderFieldInRange (λ field. field.bitwidth < 2 ^ 31) m.fields fits.0.2 fits.1) header_field_back,
    ) refl)

digest_back : IsReadBack digest_of digest_rows DigestInRange digest_message
unfolding digest_of digest_rows DigestInRange
digest_back m fits short =
    let rows = digest_rows m in
    let whole = rows_can_be_written rows refl fits.0 short in
    read_from digest_of rows (digest_message m) refl fits.0 short
    (rw (
      preamble_is rows m.preamble refl refl whole fits.1,
      carried_back 2 rows m.type_spec refl refl,
    ) refl)

pub info_back : IsReadBack p4info_of info_rows InfoFits message_of
unfolding p4info_of info_rows InfoInRange
info_back m fits short =
    let rows = info_rows m in
    let given = fits.in_range in
    let whole = rows_can_be_written rows refl given.0 short in
    read_from p4info_of rows (message_of m) refl given.0 short
    (rw (
      all_back table_of 2 rows table_rows (Both TableInRange TableNumbersFit) table_message m.tables refl refl whole (both TableInRange TableNumbersFit m.tables given.1 fits.tables) table_back,
      all_back action_of 3 rows action_rows (Both ActionInRange ActionNumbersFit) action_message m.actions refl refl whole (both ActionInRange ActionNumbersFit m.actions given.2 fits.actions) action_back,
      all_back action_profile_of 4 rows action_profile_rows (Both ActionProfileInRange ProfileNumbersFit) action_profile_message m.action_profiles refl refl whole (both ActionProfileInRange ProfileNumbersFit m.action_profiles given.3 fits.action_profiles) action_profile_back,
      all_back counter_of 5 rows counter_rows (Both CounterInRange CounterNumbersFit) counter_message m.counters refl refl whole (both CounterInRange CounterNumbersFit m.counters given.4 fits.counters) counter_back,
      all_back direct_counter_of 6 rows direct_counter_rows DirectCounterInRange direct_counter_message m.direct_counters refl refl whole given.5 direct_counter_back,
      all_back controller_packet_metadata_of 9 rows controller_header_rows (Both ControllerHeaderInRange HeaderNumbersFit) controller_header_message m.controller_packet_metadata refl refl whole (both ControllerHeaderInRange HeaderNumbersFit m.controller_packet_metadata given.6 fits.controller_headers) controller_header_back,
      all_back digest_of 12 rows digest_rows DigestInRange digest_message m.digests refl refl whole given.7 digest_back,
    ) refl)
