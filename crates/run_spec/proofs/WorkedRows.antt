-- The worked runs, computed.
use Rattle.std.proofs.Common.{◌≡◌, ℕ, List, [], ◌∷◌, map, refl, subst, arith}
use Rattle.std.specs.Fmt.{digits}
use Rattle.hex.specs.Hex.{encode_with}
use Rattle.p4_types.specs.declared.events.Start.{Start}
use Rattle.p4_types.specs.declared.tape.TapeRecord.TheVariants.{Packet, Leave, Meet}
use Rattle.canon_bytes.specs.Bits.{bits, num}
use Rattle.canon_bytes.specs.ByteString.{canon}
use Rattle.p4v1_read.specs.Calls.{call_by}
use Rattle.p4v1_read.specs.Entities.{param_of, action_of, exact_of, ternary_of, lpm_of, range_of, optional_of, kind_by, kind_of, field_match_of, profile_action_of, action_set_of, table_action_by, table_action_of, counter_data_of, table_entry_of, profile_member_of, group_member_of, profile_group_of, index_of, counter_entry_of, direct_counter_entry_of, digest_config_of, digest_entry_of, entity_by, entity_of}
use Rattle.p4v1_read.specs.MessageFields.{fields_in, fields_of}
use Rattle.p4v1_read.specs.Nested.{one_at, all_at, inside_at, member_at, opaque_at}
use Rattle.p4v1_read.specs.Requests.{uint128_of, election_id_at, update_of, write_request_of, read_request_of, cookie_of, config_of, set_request_of, get_request_of}
use Rattle.p4v1_read.specs.Stream.{any_of, status_of, role_of, arbitration_of, metadata_of, packet_out_of, digest_ack_of, stream_by, stream_of}
use Rattle.switch_spec.specs.Answer.{answer}
use Rattle.plane_spec.specs.Planes.{change_applied, outcome}
use Rattle.plane_spec.specs.Entries.{best, entry_named, insert_cause, absence_cause, inserted, modified, deleted}
use Rattle.packet_spec.specs.Meaning.{meaning}
use Rattle.packet_spec.specs.Choosing.{found, acts, fnv, selector_bytes}
use Rattle.plane_spec.specs.Bridge.{bridge_program, bridge_info}
use Rattle.program_spec.specs.Actions.{action_done}
use Rattle.program_spec.specs.Checksums.{csum16, sums_verified, sums_updated}
use Rattle.program_spec.specs.Deparsing.{deparsed}
use Rattle.program_spec.specs.Parsing.{parse, taken}
use Rattle.run_spec.specs.Play.{Turn, items_of, answering, play, played, played_report}
use Rattle.switch_spec.specs.Reading.{chunks, read_result}
use Rattle.switch_spec.specs.Status.{status_bytes, detail_of, write_status, capabilities_bytes}
use Rattle.plane_spec.specs.UpdateRules.{entry_cause}
use Rattle.plane_spec.specs.Updates.{resolution}
use Rattle.wire_fields.specs.Reading.{varint_in, bytes_at as length_bytes_at, tag_at, field_at}
use Rattle.canon_bytes.specs.Base128.{base_128}
use Rattle.p4v1_wire.specs.ResponseRows.{capabilities_response_rows}
use Rattle.p4v1_wire.specs.StatusRows.{any_rows, error_rows, status_rows}
use Rattle.p4v1_wire.specs.StreamRows.{packet_in_rows, uint128_rows, role_rows, arbitration_rows, stream_rows}
use Rattle.wire_messages.specs.Written.{written, row_bytes}
use Rattle.wire_messages.specs.Message.{number_at, packed_in, uint32s_at, bytes_at, text_at, texts_at, messages_at, message_at, choice_at}
use Rattle.run_spec.specs.Report.{IsLockstepReport}
use Rattle.run_spec.specs.ReportText.{report_text}
use Rattle.run_spec.specs.Tape.{no_lanes, NameMade}
use Rattle.run_spec.specs.Rows.{inserting, frame_to, cut_frame, bridge_start, bare_start, arbitrating, writing_nothing, BackupWaits, EmptyTape, OneEntryOnePacket, InsertTwice, TableFull, ShortPacket, MetCall}
use Rattle.run_spec.proofs.Fitting.{played_is_report}

-- the report of turns whose run computes to this text
worked : (start : Start) (turns : List Turn) (text : List ℕ) → NameMade no_lanes (items_of turns) → report_text (played_report (played start turns)) ≡ text → IsLockstepReport start (items_of turns) text
worked start turns text names is = let P : List ℕ → Type 0 = λ t. IsLockstepReport start (items_of turns) t in subst P is (played_is_report start turns names)

pub empty_tape : EmptyTape
unfolding bits num canon found acts fnv selector_bytes bridge_program action_done csum16 sums_verified sums_updated deparsed parse taken call_by param_of action_of exact_of ternary_of lpm_of range_of optional_of kind_by kind_of field_match_of profile_action_of action_set_of table_action_by table_action_of counter_data_of table_entry_of profile_member_of group_member_of profile_group_of index_of counter_entry_of direct_counter_entry_of digest_config_of digest_entry_of entity_by entity_of fields_in fields_of one_at all_at inside_at member_at opaque_at uint128_of election_id_at update_of write_request_of read_request_of cookie_of config_of set_request_of get_request_of any_of status_of role_of arbitration_of metadata_of packet_out_of digest_ack_of stream_by stream_of answer bridge_info change_applied outcome best entry_named insert_cause absence_cause inserted modified deleted meaning play chunks read_result status_bytes detail_of write_status capabilities_bytes entry_cause resolution varint_in length_bytes_at tag_at field_at base_128 number_at packed_in uint32s_at bytes_at text_at texts_at messages_at message_at choice_at digits encode_with status_rows error_rows any_rows packet_in_rows capabilities_response_rows written row_bytes
empty_tape = record { bytes = refl; report = worked bridge_start (map answering ([])) _ tt refl }

pub one_entry_one_packet : OneEntryOnePacket
unfolding bits num canon found acts fnv selector_bytes bridge_program action_done csum16 sums_verified sums_updated deparsed parse taken call_by param_of action_of exact_of ternary_of lpm_of range_of optional_of kind_by kind_of field_match_of profile_action_of action_set_of table_action_by table_action_of counter_data_of table_entry_of profile_member_of group_member_of profile_group_of index_of counter_entry_of direct_counter_entry_of digest_config_of digest_entry_of entity_by entity_of fields_in fields_of one_at all_at inside_at member_at opaque_at uint128_of election_id_at update_of write_request_of read_request_of cookie_of config_of set_request_of get_request_of any_of status_of role_of arbitration_of metadata_of packet_out_of digest_ack_of stream_by stream_of answer bridge_info change_applied outcome best entry_named insert_cause absence_cause inserted modified deleted meaning play chunks read_result status_bytes detail_of write_status capabilities_bytes entry_cause resolution varint_in length_bytes_at tag_at field_at base_128 number_at packed_in uint32s_at bytes_at text_at texts_at messages_at message_at choice_at digits encode_with status_rows error_rows any_rows packet_in_rows capabilities_response_rows written row_bytes
one_entry_one_packet = record { bytes = refl; report = worked bridge_start (map answering (inserting 2 ∷ Packet 0 1 (frame_to 2) ∷ Packet 0 1 (frame_to 3) ∷ [])) _ (tt, (tt, (tt, tt))) refl }

pub insert_twice : InsertTwice
unfolding bits num canon found acts fnv selector_bytes bridge_program action_done csum16 sums_verified sums_updated deparsed parse taken call_by param_of action_of exact_of ternary_of lpm_of range_of optional_of kind_by kind_of field_match_of profile_action_of action_set_of table_action_by table_action_of counter_data_of table_entry_of profile_member_of group_member_of profile_group_of index_of counter_entry_of direct_counter_entry_of digest_config_of digest_entry_of entity_by entity_of fields_in fields_of one_at all_at inside_at member_at opaque_at uint128_of election_id_at update_of write_request_of read_request_of cookie_of config_of set_request_of get_request_of any_of status_of role_of arbitration_of metadata_of packet_out_of digest_ack_of stream_by stream_of answer bridge_info change_applied outcome best entry_named insert_cause absence_cause inserted modified deleted meaning play chunks read_result status_bytes detail_of write_status capabilities_bytes entry_cause resolution varint_in length_bytes_at tag_at field_at base_128 number_at packed_in uint32s_at bytes_at text_at texts_at messages_at message_at choice_at digits encode_with status_rows error_rows any_rows packet_in_rows capabilities_response_rows written row_bytes
insert_twice = record { bytes = refl; report = worked bridge_start (map answering (inserting 2 ∷ inserting 2 ∷ [])) _ (tt, (tt, tt)) refl }

pub table_full : TableFull
unfolding bits num canon found acts fnv selector_bytes bridge_program action_done csum16 sums_verified sums_updated deparsed parse taken call_by param_of action_of exact_of ternary_of lpm_of range_of optional_of kind_by kind_of field_match_of profile_action_of action_set_of table_action_by table_action_of counter_data_of table_entry_of profile_member_of group_member_of profile_group_of index_of counter_entry_of direct_counter_entry_of digest_config_of digest_entry_of entity_by entity_of fields_in fields_of one_at all_at inside_at member_at opaque_at uint128_of election_id_at update_of write_request_of read_request_of cookie_of config_of set_request_of get_request_of any_of status_of role_of arbitration_of metadata_of packet_out_of digest_ack_of stream_by stream_of answer bridge_info change_applied outcome best entry_named insert_cause absence_cause inserted modified deleted meaning play chunks read_result status_bytes detail_of write_status capabilities_bytes entry_cause resolution varint_in length_bytes_at tag_at field_at base_128 number_at packed_in uint32s_at bytes_at text_at texts_at messages_at message_at choice_at digits encode_with status_rows error_rows any_rows packet_in_rows capabilities_response_rows written row_bytes
table_full = record { bytes = refl; report = worked bridge_start (map answering (inserting 2 ∷ inserting 3 ∷ inserting 4 ∷ inserting 5 ∷ inserting 6 ∷ [])) _ (tt, (tt, (tt, (tt, (tt, tt))))) refl }

pub short_packet : ShortPacket
unfolding bits num canon found acts fnv selector_bytes bridge_program action_done csum16 sums_verified sums_updated deparsed parse taken call_by param_of action_of exact_of ternary_of lpm_of range_of optional_of kind_by kind_of field_match_of profile_action_of action_set_of table_action_by table_action_of counter_data_of table_entry_of profile_member_of group_member_of profile_group_of index_of counter_entry_of direct_counter_entry_of digest_config_of digest_entry_of entity_by entity_of fields_in fields_of one_at all_at inside_at member_at opaque_at uint128_of election_id_at update_of write_request_of read_request_of cookie_of config_of set_request_of get_request_of any_of status_of role_of arbitration_of metadata_of packet_out_of digest_ack_of stream_by stream_of answer bridge_info change_applied outcome best entry_named insert_cause absence_cause inserted modified deleted meaning play chunks read_result status_bytes detail_of write_status capabilities_bytes entry_cause resolution varint_in length_bytes_at tag_at field_at base_128 number_at packed_in uint32s_at bytes_at text_at texts_at messages_at message_at choice_at digits encode_with status_rows error_rows any_rows packet_in_rows capabilities_response_rows written row_bytes
short_packet = record { bytes = refl; report = worked bridge_start (map answering (inserting 0 ∷ Packet 0 1 cut_frame ∷ [])) _ (tt, (tt, tt)) refl }

pub backup_waits : BackupWaits
unfolding bits num canon found acts fnv selector_bytes bridge_program action_done csum16 sums_verified sums_updated deparsed parse taken call_by param_of action_of exact_of ternary_of lpm_of range_of optional_of kind_by kind_of field_match_of profile_action_of action_set_of table_action_by table_action_of counter_data_of table_entry_of profile_member_of group_member_of profile_group_of index_of counter_entry_of direct_counter_entry_of digest_config_of digest_entry_of entity_by entity_of fields_in fields_of one_at all_at inside_at member_at opaque_at uint128_of election_id_at update_of write_request_of read_request_of cookie_of config_of set_request_of get_request_of any_of status_of role_of arbitration_of metadata_of packet_out_of digest_ack_of stream_by stream_of answer bridge_info change_applied outcome best entry_named insert_cause absence_cause inserted modified deleted meaning play chunks read_result status_bytes detail_of write_status capabilities_bytes entry_cause resolution varint_in length_bytes_at tag_at field_at base_128 number_at packed_in uint32s_at bytes_at text_at texts_at messages_at message_at choice_at digits encode_with status_rows error_rows any_rows packet_in_rows capabilities_response_rows written row_bytes arbitration_rows role_rows uint128_rows stream_rows
backup_waits = record { bytes = refl; report = worked bare_start (map answering (arbitrating 0 5 ∷ arbitrating 1 3 ∷ Leave 0 ∷ writing_nothing 1 3 ∷ arbitrating 1 6 ∷ [])) _ (tt, (tt, (tt, (tt, (tt, tt))))) refl }

pub met_call : MetCall
unfolding bits num canon found acts fnv selector_bytes bridge_program action_done csum16 sums_verified sums_updated deparsed parse taken call_by param_of action_of exact_of ternary_of lpm_of range_of optional_of kind_by kind_of field_match_of profile_action_of action_set_of table_action_by table_action_of counter_data_of table_entry_of profile_member_of group_member_of profile_group_of index_of counter_entry_of direct_counter_entry_of digest_config_of digest_entry_of entity_by entity_of fields_in fields_of one_at all_at inside_at member_at opaque_at uint128_of election_id_at update_of write_request_of read_request_of cookie_of config_of set_request_of get_request_of any_of status_of role_of arbitration_of metadata_of packet_out_of digest_ack_of stream_by stream_of answer bridge_info change_applied outcome best entry_named insert_cause absence_cause inserted modified deleted meaning play chunks read_result status_bytes detail_of write_status capabilities_bytes entry_cause resolution varint_in length_bytes_at tag_at field_at base_128 number_at packed_in uint32s_at bytes_at text_at texts_at messages_at message_at choice_at digits encode_with status_rows error_rows any_rows packet_in_rows capabilities_response_rows written row_bytes
met_call = record { bytes = refl; report = worked bridge_start (map answering (inserting 2 ∷ Meet 0 0 1 ∷ Packet 0 1 (frame_to 2) ∷ [])) _ (tt, (omega arith, (tt, tt))) refl }
