-- What this side sends on streams (RFC 9113, sections 5.2, 6.1, 6.2 and 8.1).
use Rattle.std.specs.Prelude.{ℕ, Bool, false, if◌then◌else◌, List, Option, Some, None}
use Rattle.hpack_tables.specs.declared.header.Header.{Header}
use Rattle.hpack_tables.specs.Writing.{block_bytes}
use Rattle.h2_streams.specs.declared.stream.Stream.{Stream}
use Rattle.h2_streams.specs.declared.stream.Waiting.{Waiting}
use Rattle.h2_streams.specs.declared.stream.Waiting.TheVariants as waitings
use Rattle.h2_streams.specs.Streams.{queued, stream_at, changed}
use Rattle.h2_conn.specs.declared.state.State.{State}
use Rattle.h2_conn.specs.declared.phase.Phase.{Phase}
use Rattle.h2_conn.specs.declared.phase.Phase.TheVariants as phases
use Rattle.h2_conn.specs.Frames.{flushing}

-- This goes out on a stream as far as the windows allow, behind what waits there. Where the stream is not kept, or this side has ended it, nothing is sent.
abbrev pub queued_on : Option Stream → ℕ → Waiting → Bool → State → State
queued_on None number waiting end_stream conn = conn
queued_on (Some stream) number waiting end_stream conn = if stream.closing then conn else flushing (record conn { streams = changed number (queued waiting end_stream) conn.streams })

-- the same of a connection that may have ended
abbrev pub sent : ℕ → Waiting → Bool → Phase → Phase
sent number waiting end_stream (phases.Open conn) = phases.Open (queued_on (stream_at number conn.streams) number waiting end_stream conn)
sent number waiting end_stream (phases.Broken code output) = phases.Broken code output
sent number waiting end_stream phases.OutOfMemory = phases.OutOfMemory

-- headers go out on a stream, and this side ends it with them where the flag says so
abbrev pub headers_sent : ℕ → List Header → Bool → Phase → Phase
headers_sent number headers end_stream phase = sent number (waitings.Headers (block_bytes headers) end_stream) end_stream phase

-- a message goes out on a stream
abbrev pub data_sent : ℕ → List ℕ → Phase → Phase
data_sent number bytes phase = sent number (waitings.Data bytes) false phase
