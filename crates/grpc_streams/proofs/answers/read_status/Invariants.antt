use Rattle.std.proofs.Common.{[], ◌-◌}
use Rattle.grpc_streams.specs.Answers.{fields_of, text_from, has_details}
use Rattle.grpc_streams.proofs.StatusFields.{AreFollowed}
use Rattle.grpc_streams.proofs.answers.read_status.Given as goal

abbrev pub invariant-loop : goal.invariant-loop
invariant-loop l = AreFollowed (text_from [] (fields_of l.status)) (has_details (fields_of l.status)) (l.end - l.counter) l.text l.details l.fields
