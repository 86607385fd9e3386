-- The bridge's P4Info is read without a flaw, and means the bridge's objects.
use Rattle.std.proofs.Common.{◌≡◌, ℕ, List, Result, Some, None, Ok, Err, refl, ap, ◌∙◌, sym, subst}
use Rattle.std.specs.Str.{is_utf8, chars}
use Rattle.canon_bytes.specs.Base128.{base_128}
use Rattle.info_rules.specs.Flaw.{flaw}
use Rattle.info_rules.specs.Objects.{ids_clash, names_clash}
use Rattle.list_types.specs.declared.memory.Refusal.{Refusal}
use Rattle.list_types.specs.declared.memory.Refusal.TheVariants.{For}
use Rattle.p4_types.specs.declared.info.Info.{Info}
use Rattle.p4info_model.specs.Answers.{AcceptsRead}
use Rattle.p4info_model.specs.declared.flaw.InfoFault.{InfoFault}
use Rattle.p4info_model.specs.Resolved.{info_of}
use Rattle.p4v1_read.specs.MessageFields.{fields_in, fields_of}
use Rattle.p4v1_read.specs.Nested.{read, one_at, all_at}
use Rattle.p4v1_read.specs.P4Infos.{preamble_of, match_field_of, action_ref_of, table_of, param_of, action_of, p4info_of}
use Rattle.plane_spec.specs.Bridge.{bridge_info, bridge_bytes}
use Rattle.wire_fields.specs.Reading.{varint_in, bytes_at as length_bytes_at, tag_at, field_at}
use Rattle.wire_messages.specs.Message.{number_at, packed_in, uint32s_at, bytes_at, text_at, texts_at, messages_at, message_at}
use Rattle.bridge_program.specs.BridgeInfo.{bridge_message}
use lib.Utf8.{encode}

no_flaw : flaw bridge_message ≡ None
unfolding flaw ids_clash names_clash
no_flaw = refl

same_objects : info_of bridge_message ≡ bridge_info
unfolding bridge_info
same_objects = refl

is_read : read p4info_of bridge_bytes ≡ Some bridge_message
unfolding bridge_bytes preamble_of match_field_of action_ref_of table_of param_of action_of p4info_of fields_in fields_of one_at all_at varint_in length_bytes_at tag_at field_at base_128 number_at packed_in uint32s_at bytes_at text_at texts_at messages_at message_at is_utf8 chars encode
is_read = refl

-- what is accepted of the bytes is accepted of the message that they are
of_message : (bytes : List ℕ) (answer : Result Info (Refusal InfoFault)) → bytes ≡ bridge_bytes → AcceptsRead (read p4info_of bytes) answer → AcceptsRead (Some bridge_message) answer
of_message bytes answer is accepts = subst (λ message. AcceptsRead message answer) (ap (read p4info_of) is ∙ is_read) accepts

pub is_bridge : (bytes : List ℕ) (info : Info) → bytes ≡ bridge_bytes → AcceptsRead (read p4info_of bytes) (Ok info) → info ≡ bridge_info
is_bridge bytes info is accepts = (of_message bytes (Ok info) is accepts).1 ∙ same_objects

pub no_fault : (bytes : List ℕ) (error : Refusal InfoFault) (fault : InfoFault) → bytes ≡ bridge_bytes → error ≡ For fault → AcceptsRead (read p4info_of bytes) (Err error) → ⊥
no_fault bytes error fault is error_is accepts =
    let P : Refusal InfoFault → Type 0 = λ e. AcceptsRead (read p4info_of bytes) (Err e) in
    clash (sym (of_message bytes (Err (For fault)) is (subst P error_is accepts)) ∙ no_flaw)
  where
    clash : Some fault.rule ≡ None → ⊥
    clash e = cc
