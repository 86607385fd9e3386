-- What a server writes is read back.
use Rattle.std.proofs.Common.{◌≡◌, All, List, [], ◌∷◌, map, Some, refl, ap, ◌∙◌}
use Rattle.std.specs.Option.{option_map}
use Rattle.std.proofs.lemmas.List.Elements.{All-head, All-tail}
use Rattle.p4_types.specs.declared.messages.Error.{Error}
use Rattle.wire_messages.specs.Message.{each}
use Rattle.p4v1_read.specs.MessageFields.{fields_in, fields_of}
use Rattle.p4v1_wire.proofs.StatusBack.{status_back, error_back}
use Rattle.p4v1_wire.proofs.StreamBack.{stream_back}
use Rattle.p4v1_wire.proofs.ResponseBack.{read_response_back, get_response_back, capabilities_response_back}
use Rattle.p4v1_answers.specs.declared.answers.Answer.TheVariants as answers
use Rattle.p4v1_answers.specs.Answers.{answer_of}
use Rattle.p4v1_answers.specs.Failures.{error_in}
use Rattle.p4v1_answers.specs.Laws.{AnswersAreReadBack, detail_of, CanBeDetail, FailuresAreReadBack}

pub answers_are_read_back : AnswersAreReadBack
unfolding answer_of fields_in fields_of
answers_are_read_back = record {
  write = refl;
  read = λ m fits short. ap (option_map answers.Read) (read_response_back m fits short);
  set = refl;
  get = λ m fits short. ap (option_map answers.GetForwardingPipelineConfig) (get_response_back m fits short);
  stream = λ m fits short. ap (option_map answers.StreamChannel) (stream_back m fits short);
  capabilities = λ m fits short. ap (option_map answers.Capabilities) (capabilities_response_back m fits short);
}

detail_back : (error : Error) → CanBeDetail error → error_in (detail_of error) ≡ Some error
detail_back error can = error_back error can.0 can.1

details_back : (errors : List Error) → All CanBeDetail errors → each error_in (map detail_of errors) ≡ Some errors
details_back [] can = refl
details_back (error ∷ errors) can =
    let one = detail_back error (All-head CanBeDetail error errors can) in
    let rest = details_back errors (All-tail CanBeDetail error errors can) in
    rw (one, rest) refl

pub failures_are_read_back : FailuresAreReadBack
failures_are_read_back = record { status = status_back; errors = λ status errors can is. ap (each error_in) is ∙ details_back errors can }
