-- What a server writes is read back. An optional message whose fields are all defaults is left out, and counts as not given.
use Rattle.std.specs.Prelude.{◌≡◌, ◌^◌, ◌<◌, All, List, [], length, map, Some, codes}
use Rattle.p4_types.specs.declared.calls.Method.{Method}
use Rattle.p4_types.specs.declared.calls.Method.TheVariants as methods
use Rattle.p4_types.specs.declared.messages.Any.{Any}
use Rattle.p4_types.specs.declared.messages.Error.{Error}
use Rattle.p4_types.specs.declared.messages.Status.{Status}
use Rattle.wire_fields.specs.Spelling.{spelling}
use Rattle.wire_messages.specs.Written.{Row}
use Rattle.p4v1_read.specs.Stream.{status_of}
use Rattle.p4v1_wire.specs.Rows.{fields_by}
use Rattle.p4v1_wire.specs.StatusRows.{status_rows, StatusInRange, error_rows, ErrorInRange}
use Rattle.p4v1_wire.specs.StreamRows.{stream_rows, StreamInRange}
use Rattle.p4v1_wire.specs.ResponseRows.{read_response_rows, ReadResponseInRange, get_response_rows, GetResponseInRange, capabilities_response_rows, CapabilitiesResponseInRange}
use Rattle.p4v1_wire.specs.Counted.{stream_counted, read_response_counted, get_response_counted}
use Rattle.p4v1_wire.specs.ReadBack.{itself, IsReadBack}
use Rattle.p4v1_answers.specs.declared.answers.Answer.{Answer}
use Rattle.p4v1_answers.specs.declared.answers.Answer.TheVariants as answers
use Rattle.p4v1_answers.specs.Answers.{answer_of}
use Rattle.p4v1_answers.specs.Failures.{errors_in}

-- Each message in range, as its canonical bytes (of which there are fewer than 2^64), is the answer to the method that is meant.
abbrev pub IsAnswered : {A : Type 0} → Method → (A → List Row) → (A → Type 0) → (A → Answer) → Type 0
IsAnswered {A} method rows InRange meant = (message : A) → InRange message → length (spelling (fields_by rows message)) < 2 ^ 64 → answer_of method (spelling (fields_by rows message)) ≡ Some (meant message)

-- The answer to each method is read back.
pub record AnswersAreReadBack : Type 0 where
  pub write : answer_of methods.Write [] ≡ Some answers.Write
  pub read : IsAnswered methods.Read read_response_rows ReadResponseInRange (λ m. answers.Read (read_response_counted m))
  pub set : answer_of methods.SetForwardingPipelineConfig [] ≡ Some answers.SetForwardingPipelineConfig
  pub get : IsAnswered methods.GetForwardingPipelineConfig get_response_rows GetResponseInRange (λ m. answers.GetForwardingPipelineConfig (get_response_counted m))
  pub stream : IsAnswered methods.StreamChannel stream_rows StreamInRange (λ m. answers.StreamChannel (stream_counted m))
  pub capabilities : IsAnswered methods.Capabilities capabilities_response_rows CapabilitiesResponseInRange (λ m. answers.Capabilities m)

-- an Error as a detail of a status
abbrev pub detail_of : Error → Any
detail_of error = record { type_url = codes "type.googleapis.com/p4.v1.Error"; value = spelling (fields_by error_rows error) }

-- an Error in range, whose canonical bytes are fewer than 2^64
abbrev pub CanBeDetail : Error → Type 0
CanBeDetail error = ErrorInRange error × (length (spelling (fields_by error_rows error)) < 2 ^ 64)

-- The status of a failing Write is read back, and so are the Errors that are its details.
pub record FailuresAreReadBack : Type 0 where
  pub status : IsReadBack status_of status_rows StatusInRange itself
  pub errors : (status : Status) (errors : List Error) → All CanBeDetail errors → status.details ≡ map detail_of errors → errors_in status ≡ Some errors
