-- The answer that a server's message is (P4Runtime 1.3.0, "P4Runtime Service").
use Rattle.std.specs.Prelude.{ℕ, List, Option, option_map}
use Rattle.p4_types.specs.declared.calls.Method.{Method}
use Rattle.p4_types.specs.declared.calls.Method.TheVariants as methods
use Rattle.p4v1_read.specs.MessageFields.{fields_of}
use Rattle.p4v1_read.specs.Nested.{read}
use Rattle.p4v1_wire.specs.ServerMessages.{read_response_of, get_response_of, stream_response_of, capabilities_response_of}
use Rattle.p4v1_answers.specs.declared.answers.Answer.{Answer}
use Rattle.p4v1_answers.specs.declared.answers.Answer.TheVariants as answers

-- the answer to a method, where the message is read
unfoldable pub answer_of : Method → List ℕ → Option Answer
answer_of methods.Write bytes = option_map (λ _. answers.Write) (fields_of bytes)
answer_of methods.Read bytes = option_map answers.Read (read read_response_of bytes)
answer_of methods.SetForwardingPipelineConfig bytes = option_map (λ _. answers.SetForwardingPipelineConfig) (fields_of bytes)
answer_of methods.GetForwardingPipelineConfig bytes = option_map answers.GetForwardingPipelineConfig (read get_response_of bytes)
answer_of methods.StreamChannel bytes = option_map answers.StreamChannel (read stream_response_of bytes)
answer_of methods.Capabilities bytes = option_map answers.Capabilities (read capabilities_response_of bytes)
