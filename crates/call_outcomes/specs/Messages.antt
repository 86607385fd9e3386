-- What messages say, part by part.
use Rattle.std.specs.Prelude.{ℕ, pos, [], Bool, true, false, Some, Result, Ok, Err}
use Rattle.p4_types.specs.CodeNumber.{code_number}
use Rattle.p4_types.specs.declared.code.Cause.{Cause}
use Rattle.p4_types.specs.declared.code.Code.{Code}
use Rattle.p4_types.specs.declared.messages.Error.{Error}
use Rattle.p4_types.specs.declared.messages.MasterArbitrationUpdate.{MasterArbitrationUpdate}
use Rattle.p4_types.specs.declared.messages.Uint128.{Uint128}
use Rattle.p4_types.specs.declared.table.Change.{Change}
use Rattle.switch_spec.specs.Notices.{role_told}
use Rattle.switch_spec.specs.Status.{error_of, aborted_error}

-- the Error of an update, by whether an earlier one has failed
abbrev pub batch_error : Result Change Cause → Bool → Error
batch_error (Ok change) failed = aborted_error
batch_error (Err cause) true = aborted_error
batch_error (Err cause) false = error_of cause

-- what a session is told of a role with this greatest election id, by where the session stands
abbrev pub standing_by : ℕ → ℕ → Uint128 → Code → MasterArbitrationUpdate
standing_by device role greatest code = record {
  device_id = device;
  role = role_told role;
  election_id = greatest;
  status = Some (record { code = pos (code_number code); message = []; details = [] });
}
