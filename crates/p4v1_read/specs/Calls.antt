-- The call that a client's message is (P4Runtime 1.3.0, "P4Runtime Service").
use Rattle.std.specs.Prelude.{ℕ, List, Option, option_map, unwrap_or}
use Rattle.p4_types.specs.declared.calls.Call.{Call}
use Rattle.p4_types.specs.declared.calls.Method.{Method}
use Rattle.p4_types.specs.declared.calls.Method.TheVariants as methods
use Rattle.p4_types.specs.declared.calls.Call.TheVariants as calls
use Rattle.p4v1_read.specs.MessageFields.{fields_of}
use Rattle.p4v1_read.specs.Nested.{read}
use Rattle.p4v1_read.specs.Requests.{write_request_of, read_request_of, set_request_of, get_request_of}
use Rattle.p4v1_read.specs.Stream.{stream_of}

-- the call of a method, where its message is read
unfoldable pub call_by : Method → List ℕ → Option Call
call_by methods.Write bytes = option_map calls.Write (read write_request_of bytes)
call_by methods.Read bytes = option_map calls.Read (read read_request_of bytes)
call_by methods.SetForwardingPipelineConfig bytes = option_map calls.Set (read set_request_of bytes)
call_by methods.GetForwardingPipelineConfig bytes = option_map calls.Get (read get_request_of bytes)
call_by methods.StreamChannel bytes = option_map calls.Stream (read stream_of bytes)
call_by methods.Capabilities bytes = option_map (λ _. calls.Capabilities) (fields_of bytes)

-- the call of a method with a message
abbrev pub call_of : Method → List ℕ → Call
call_of method bytes = unwrap_or (call_by method bytes) (calls.Unreadable method)
