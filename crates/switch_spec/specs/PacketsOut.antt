-- Packets that controllers send (P4Runtime 1.3.0, "Packet I/O", "Stream Errors"; the order of the refusals: this project's profile).
use Rattle.std.specs.Prelude.{ℕ, pos, Bool, true, false, if◌then◌else◌, List, [], codes as text, Option, Some, None, Result, Err}
use Rattle.p4_types.specs.CodeNumber.{code_number}
use Rattle.p4_types.specs.declared.calls.Notice.{Notice}
use Rattle.p4_types.specs.declared.code.Code.{Code}
use Rattle.p4_types.specs.declared.code.Code.TheVariants as codes
use Rattle.p4_types.specs.declared.messages.PacketOut.{PacketOut}
use Rattle.p4_types.specs.declared.messages.StreamError.{StreamError}
use Rattle.p4_types.specs.declared.messages.StreamErrorDetails.TheVariants as details
use Rattle.p4_types.specs.declared.messages.StreamMessageResponse.TheVariants as responses
use Rattle.packet_out.specs.Entering.{packet_out_fields, entering}
use Rattle.packet_out.specs.declared.rule.PacketRule.{PacketRule}
use Rattle.packet_out.specs.declared.rule.PacketRule.TheVariants as rules
use Rattle.plane_spec.specs.Planes.{ControlState, Plane}
use Rattle.role_arbiter.specs.State.{status_of}

-- a session that is told of this status is the primary of its role; a lane without a session is none
abbrev pub is_primary : Option Code → Bool
is_primary (Some codes.Ok) = true
is_primary _ = false

-- the bytes that enter of a packet in the plane that is active, if one is, or the rule by which it is refused
abbrev pub entering_in : Option Plane → PacketOut → Result (List ℕ) PacketRule
entering_in None packet = Err rules.P2
entering_in (Some plane) packet = entering (packet_out_fields plane.config.info) packet

-- P1 to P4: the bytes that enter of a lane's packet, or the first rule that it breaks
unfoldable pub packet_result : ControlState → ℕ → PacketOut → Result (List ℕ) PacketRule
packet_result c lane packet = if is_primary (status_of c.roles lane) then entering_in c.active packet else Err rules.P1

-- the code of a rule
abbrev pub packet_code : PacketRule → Code
packet_code rules.P1 = codes.PermissionDenied
packet_code rules.P2 = codes.FailedPrecondition
packet_code rules.P3 = codes.InvalidArgument
packet_code rules.P4 = codes.InvalidArgument

-- the number of a rule
abbrev pub packet_number : PacketRule → ℕ
packet_number rules.P1 = 1
packet_number rules.P2 = 2
packet_number rules.P3 = 3
packet_number rules.P4 = 4

-- the error that answers a packet which is refused, with the packet inside
abbrev pub packet_error : PacketRule → PacketOut → StreamError
packet_error rule packet = record {
  canonical_code = pos (code_number (packet_code rule));
  message = [];
  space = text "p4switch";
  code = pos (packet_number rule);
  details = Some (details.PacketOut packet);
}

-- a lane is told that its packet is refused
abbrev pub packet_notice : ℕ → PacketRule → PacketOut → Notice
packet_notice lane rule packet = record { lane = lane; message = responses.Error (packet_error rule packet) }
