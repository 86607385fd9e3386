use Rattle.std.proofs.Common.{◌+◌, ◌<◌, ◌∙◌, sym, length, arith}
use Rattle.packet_out.specs.Entering as spec
use Rattle.packet_out.proofs.Answered.{unknown, not_given, is_long, enters}
use Rattle.packet_out.proofs.packet.entering.Goals as goal
use Rattle.packet_out.proofs.packet.entering.Goals.{then-payload-gt-LONGEST-via-then-payload-gt-LONGEST, then-payload-gt-LONGEST-via-else-payload-gt-LONGEST+then-len-payload-gt-LONGEST}

pub returns-then-not-are_known : goal.returns-then-not-are_known
returns-then-not-are_known c =
    unknown c.packet_out_fields-fields.result.now (spec.packet_out_fields c.args.info.now) c.as_slice-metadata.result.now c.args.packet.now
    c.packet_out_fields-fields.ensures.fields c.as_slice-metadata.ensures c.if-not-are_known.ensures

pub returns-in_default : goal.returns-in_default
returns-in_default c =
    not_given c.packet_out_fields-fields.result.now (spec.packet_out_fields c.args.info.now) c.as_slice-metadata.result.now c.args.packet.now
    c.packet_out_fields-fields.ensures.fields c.as_slice-metadata.ensures c.if-not-are_known.ensures (sym c.in_default.is ∙ c.in_ok-bytes.ensures)

pub returns-then-payload-gt-LONGEST : goal.returns-then-payload-gt-LONGEST
returns-then-payload-gt-LONGEST c =
    let long : 9216 < length c.in-Some.bytes + length c.as_slice-payload.result.now =
    elim c.then-payload-gt-LONGEST.branch [ then-payload-gt-LONGEST-via-then-payload-gt-LONGEST w ↦ omega arith | then-payload-gt-LONGEST-via-else-payload-gt-LONGEST+then-len-payload-gt-LONGEST w ↦ omega arith ] in
    is_long c.packet_out_fields-fields.result.now (spec.packet_out_fields c.args.info.now) c.as_slice-metadata.result.now c.args.packet.now c.in-Some.bytes c.as_slice-payload.result.now
    c.packet_out_fields-fields.ensures.fields c.as_slice-metadata.ensures c.if-not-are_known.ensures (sym c.in-Some.is ∙ c.in_ok-bytes.ensures) c.as_slice-payload.ensures long

pub returns : goal.returns
returns c =
    enters c.packet_out_fields-fields.result.now (spec.packet_out_fields c.args.info.now) c.as_slice-metadata.result.now c.args.packet.now c.in-Some.bytes c.as_slice-payload.result.now _
    c.packet_out_fields-fields.ensures.fields c.as_slice-metadata.ensures c.if-not-are_known.ensures (sym c.in-Some.is ∙ c.in_ok-bytes.ensures) c.as_slice-payload.ensures
    c.in_ok-extend_from_slice.ensures.ok (omega arith)
