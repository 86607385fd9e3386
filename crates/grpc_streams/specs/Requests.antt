-- Requests of gRPC (gRPC over HTTP/2, "Requests"; P4Runtime 1.3.0, "P4Runtime Service").
use Rattle.std.specs.Prelude.{ℕ, ◌&&◌, nat_eq, Bool, false, if◌then◌else◌, codes, List, Option, Some, None, Result, Ok, Err, find}
use Rattle.std.specs.List.{starts_with}
use Rattle.std.specs.Str.{bytes_eq}
use Rattle.hpack_tables.specs.declared.header.Header.{Header}
use Rattle.p4_types.specs.declared.calls.Method.{Method}
use Rattle.p4_types.specs.declared.calls.Method.TheVariants as methods
use Rattle.p4_types.specs.declared.code.Code.TheVariants as codes_of
use Rattle.grpc_streams.specs.declared.event.GrpcRefusal.{GrpcRefusal}
use Rattle.grpc_streams.specs.declared.event.GrpcRefusal.TheVariants as refusals

-- the first header of a name
abbrev pub header_of : List ℕ → List Header → Option Header
header_of name headers = find (λ header. bytes_eq header.name name) headers

-- a request by POST
abbrev pub is_post : Option Header → Bool
is_post None = false
is_post (Some header) = bytes_eq header.value (codes "POST")

-- content of gRPC, in whatever form
abbrev pub is_grpc : Option Header → Bool
is_grpc None = false
is_grpc (Some header) = starts_with nat_eq header.value (codes "application/grpc")

-- the method of a path
unfoldable pub method_of : List ℕ → Option Method
method_of path =
    if bytes_eq path (codes "/p4.v1.P4Runtime/Write") then Some methods.Write
    else if bytes_eq path (codes "/p4.v1.P4Runtime/Read") then Some methods.Read
    else if bytes_eq path (codes "/p4.v1.P4Runtime/SetForwardingPipelineConfig") then Some methods.SetForwardingPipelineConfig
    else if bytes_eq path (codes "/p4.v1.P4Runtime/GetForwardingPipelineConfig") then Some methods.GetForwardingPipelineConfig
    else if bytes_eq path (codes "/p4.v1.P4Runtime/StreamChannel") then Some methods.StreamChannel
    else if bytes_eq path (codes "/p4.v1.P4Runtime/Capabilities") then Some methods.Capabilities
    else None

-- the method that a request asks for
abbrev pub method_in : Option Header → Option Method
method_in None = None
method_in (Some header) = method_of header.value

-- A method that may be asked for while this channel is open, if one is: any but a second channel.
abbrev pub allowed : Option ℕ → Option Method → Result Method GrpcRefusal
allowed channel None = Err (refusals.Status codes_of.Unimplemented)
allowed None (Some method) = Ok method
allowed (Some channel) (Some methods.StreamChannel) = Err (refusals.Status codes_of.FailedPrecondition)
allowed (Some channel) (Some method) = Ok method

-- the method of a request, or why it is refused
abbrev pub judged : Option ℕ → List Header → Result Method GrpcRefusal
judged channel headers =
    if is_post (header_of (codes ":method") headers) && is_grpc (header_of (codes "content-type") headers)
    then allowed channel (method_in (header_of (codes ":path") headers))
    else Err refusals.NotGrpc
