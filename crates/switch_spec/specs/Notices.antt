-- What controllers are told (P4Runtime 1.3.0, "Mastership Arbitration", "Stream Errors").
use Rattle.std.specs.Prelude.{ℕ, pos, ◌==◌, if◌then◌else◌, List, [], map, codes as text, Option, Some, None}
use Rattle.p4_types.specs.CodeNumber.{code_number}
use Rattle.p4_types.specs.declared.calls.Notice.{Notice}
use Rattle.p4_types.specs.declared.code.Code.TheVariants as codes
use Rattle.p4_types.specs.declared.messages.MasterArbitrationUpdate.{MasterArbitrationUpdate}
use Rattle.p4_types.specs.declared.messages.Role.{Role}
use Rattle.p4_types.specs.declared.messages.StreamError.{StreamError}
use Rattle.p4_types.specs.declared.messages.StreamErrorDetails.TheVariants as details
use Rattle.p4_types.specs.declared.messages.StreamMessageResponse.TheVariants as responses
use Rattle.role_arbiter.specs.State.{RolesState, greatest_in, primary_of, status_by}

-- the role of a notice: its id alone, and none where it is 0
abbrev pub role_told : ℕ → Option Role
role_told role = if role == 0 then None else Some (record { id = role; config = None })

-- what a session of a role is told: the role's greatest election id, and whether the session is primary, or another, or none
abbrev pub standing : ℕ → RolesState → ℕ → ℕ → MasterArbitrationUpdate
standing device state role lane = record {
  device_id = device;
  role = role_told role;
  election_id = greatest_in state.named role;
  status = Some (record { code = pos (code_number (status_by (primary_of state role) lane)); message = []; details = [] });
}

-- a lane is told where it stands in a role
abbrev pub standing_notice : ℕ → RolesState → ℕ → ℕ → Notice
standing_notice device state role lane = record { lane = lane; message = responses.Arbitration (standing device state role lane) }

-- these lanes are told where they stand, in this order
abbrev pub standing_notices : ℕ → RolesState → ℕ → List ℕ → List Notice
standing_notices device state role lanes = map (standing_notice device state role) lanes

-- the error that answers a message that is not served
abbrev pub unserved : StreamError
unserved = record {
  canonical_code = pos (code_number codes.Unimplemented);
  message = [];
  space = text "p4switch";
  code = pos 0;
  details = Some (details.Other (record { type_url = []; value = [] }));
}

-- a lane is told that its message is not served
abbrev pub unserved_notice : ℕ → Notice
unserved_notice lane = record { lane = lane; message = responses.Error unserved }
