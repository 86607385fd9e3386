-- The messages of a refusal (google.rpc.Status; P4Runtime 1.3.0, "Error Reporting").
use Rattle.std.specs.Prelude.{ℕ, pos, List, [], map, codes}
use Rattle.p4_types.specs.CodeNumber.{code_number, rule_number}
use Rattle.p4_types.specs.declared.code.Cause.{Cause}
use Rattle.p4_types.specs.declared.code.Code.{Code}
use Rattle.p4_types.specs.declared.code.Code.TheVariants.{Unknown, Aborted}
use Rattle.p4_types.specs.declared.messages.Any.{Any}
use Rattle.p4_types.specs.declared.messages.Error.{Error}
use Rattle.p4_types.specs.declared.messages.Status.{Status}
use Rattle.p4v1_wire.specs.ResponseRows.{capabilities_response_rows}
use Rattle.p4v1_wire.specs.Rows.{fields_by}
use Rattle.p4v1_wire.specs.StatusRows.{error_rows, status_rows}
use Rattle.wire_fields.specs.Spelling.{spelling}

-- a Status of a code with these details
abbrev pub status_of : Code → List Any → Status
status_of code details = record { code = pos (code_number code); message = []; details = details }

-- the bytes of a Status of a code alone
unfoldable pub status_bytes : Code → List ℕ
status_bytes code = spelling (fields_by status_rows (status_of code []))

-- the Error of an update that succeeded
abbrev pub no_error : Error
no_error = record { canonical_code = pos 0; message = []; space = []; code = pos 0; details = [] }

-- the Error of an update: the code, and the number of the rule that it breaks
abbrev pub error_of : Cause → Error
error_of cause = record { canonical_code = pos (code_number cause.code); message = []; space = codes "p4switch"; code = pos (rule_number cause.rule); details = [] }

-- the Error of an update of a batch that another update made fail
abbrev pub aborted_error : Error
aborted_error = record no_error { canonical_code = pos (code_number Aborted) }

-- an Error as a detail of a Status (google.protobuf.Any)
unfoldable pub detail_of : Error → Any
detail_of error = record { type_url = codes "type.googleapis.com/p4.v1.Error"; value = spelling (fields_by error_rows error) }

-- the bytes of the Status of a Write with updates that failed: an Error for each of its updates
unfoldable pub write_status : List Error → List ℕ
write_status errors = spelling (fields_by status_rows (status_of Unknown (map detail_of errors)))

-- the bytes of a CapabilitiesResponse with the version of the interface
unfoldable pub capabilities_bytes : List ℕ
capabilities_bytes = spelling (fields_by capabilities_response_rows (record { p4runtime_api_version = codes "1.3.0" }))
