-- What a whole frame does to a connection: what it gives, what is sent for it, or the code of the first connection rule that it breaks (RFC 9113, sections 3.4, 5, 6 and 8.1, and this project's profile).
use Rattle.std.specs.Prelude.{◌≡◌, ℕ, ◌+◌, ◌-◌, ◌%◌, ◌==◌, ◌&&◌, ◌||◌, not, nat_lt, nat_le, Bool, true, false, if◌then◌else◌, List, [], ◌∷◌, ◌++◌, length, Option, Some, None, Result, Ok, Err}
use Rattle.std.specs.List.{list_any}
use Rattle.list_types.specs.declared.memory.Refusal.{Refusal}
use Rattle.list_types.specs.declared.memory.Refusal.TheVariants as refusals
use Rattle.list_types.specs.Results.{◌>>=◌, unless}
use Rattle.h2_frames.specs.declared.codes.H2Code.{H2Code}
use Rattle.h2_frames.specs.declared.codes.H2Code.TheVariants as codes
use Rattle.h2_frames.specs.declared.frame.Frame.{Frame}
use Rattle.h2_frames.specs.declared.frame.Frame.TheVariants as frames
use Rattle.h2_frames.specs.declared.frame.Setting.{Setting}
use Rattle.h2_frames.specs.declared.head.Head.{Head}
use Rattle.h2_frames.specs.Codes.{header_table_size, initial_window_size, max_frame_size}
use Rattle.h2_frames.specs.Reading.{frame_at}
use Rattle.hpack_tables.specs.declared.fault.HpackFault.{HpackFault}
use Rattle.hpack_tables.specs.declared.fault.HpackFault.TheVariants as faults
use Rattle.hpack_tables.specs.declared.header.Header.{Header}
use Rattle.hpack_tables.specs.Tables.{Table}
use Rattle.hpack_tables.specs.Blocks.{block_at}
use Rattle.h2_streams.specs.declared.stream.Stream.{Stream}
use Rattle.h2_streams.specs.Streams.{max_window, opened, is_too_wide, granted, received, ended_by_peer, reset, stream_at, changed, open_count, swept, any_too_wide}
use Rattle.h2_streams.specs.Sending.{Sending, fresh, with_frames, flushed}
use Rattle.h2_conn.specs.declared.state.State.{State}
use Rattle.h2_conn.specs.declared.state.HeaderBlock.{HeaderBlock}
use Rattle.h2_conn.specs.declared.state.Skipped.{Skipped}
use Rattle.h2_conn.specs.declared.event.H2Event.{H2Event}
use Rattle.h2_conn.specs.declared.event.H2Event.TheVariants as events
use Rattle.h2_conn.specs.declared.event.Given.{Given}

-- ---- what is sent, and what is given

-- nothing has come, and nothing is to be sent
abbrev pub fresh_state : State
fresh_state = record { unread = []; greeted = false; settled = false; block = None; decoder = record { entries = []; max_size = 4096 }; streams = []; greatest = 0; skipped = []; outgoing = fresh }

-- these frames are to be sent
abbrev pub answering : List Frame → State → State
answering frames conn = record conn { outgoing = with_frames frames conn.outgoing }

-- the SETTINGS that a server sends before it reads a byte: 100 streams at most (section 6.5.2)
abbrev pub greeting : State → State
greeting conn = answering (frames.Settings false (record { identifier = 3; value = 100 } ∷ []) ∷ []) conn

-- what waits goes out as far as the windows allow, and streams that both sides have ended are let go of
abbrev pub flushing : State → State
flushing conn = record conn { outgoing = (flushed conn.outgoing conn.streams).0; streams = swept (flushed conn.outgoing conn.streams).1 }

-- a frame gives nothing
abbrev pub nothing : Given
nothing = record { event = None; end_of = None }

-- A frame gives this and, where it ends the stream, the end. On a stream that this side has ended the peer's frames are passed over.
abbrev pub given : Bool → H2Event → Bool → ℕ → Given
given is_passed event end_stream stream = if is_passed then nothing else record { event = Some event; end_of = if end_stream then Some stream else None }

-- ---- where a frame may stand

-- A stream that was never opened, nor skipped. Even numbers are the server's, which opens none.
abbrev pub is_idle : ℕ → State → Bool
is_idle stream conn = stream % 2 == 0 || nat_lt conn.greatest stream

-- the peer skipped the number by opening a stream of a higher one
abbrev pub was_skipped : ℕ → List Skipped → Bool
was_skipped stream skipped = list_any (λ run. nat_le run.first stream && nat_le stream run.last) skipped

-- inside a header block only its CONTINUATION may come, and CONTINUATION nowhere else (section 6.10)
abbrev pub breaks_block : Head → Option HeaderBlock → Bool
breaks_block head None = head.kind == 9
breaks_block head (Some block) = not (head.kind == 9 && head.stream == block.stream)

-- HEADERS on a number that is not the peer's, or that it skipped (section 5.1.1)
abbrev pub breaks_order : Head → State → Bool
breaks_order head conn = head.kind == 1 && (head.stream % 2 == 0 || was_skipped head.stream conn.skipped)

-- DATA, RST_STREAM or WINDOW_UPDATE on an idle stream (section 5.1)
abbrev pub breaks_idle : Head → State → Bool
breaks_idle head conn = (head.kind == 0 || head.kind == 3 || head.kind == 8) && (not (head.stream == 0) && is_idle head.stream conn)

-- A frame of this head may not stand here: the first is SETTINGS (section 3.4), and PUSH_PROMISE never comes from a client (section 8.4).
abbrev pub is_misplaced : Head → State → Bool
is_misplaced head conn = (not conn.settled && not (head.kind == 4)) || head.kind == 5 || breaks_block head conn.block || breaks_order head conn || breaks_idle head conn

-- Of the rules that a frame breaks by itself or by its place, the first of FRAME_SIZE_ERROR, PROTOCOL_ERROR and FLOW_CONTROL_ERROR.
unfoldable pub judged : Bool → Result Frame H2Code → Result Frame H2Code
judged misplaced (Ok frame) = unless misplaced codes.ProtocolError (Ok frame)
judged misplaced (Err codes.FlowControlError) = unless misplaced codes.ProtocolError (Err codes.FlowControlError)
judged misplaced (Err code) = Err code

-- an answer of a function that has no other cause
abbrev pub for_code : Result Frame H2Code → Result Frame (Refusal H2Code)
for_code (Ok frame) = Ok frame
for_code (Err code) = Err (refusals.For code)

-- What a function made of what was read of a frame is what the definition says.
abbrev pub Judges : Result Frame (Refusal H2Code) → Bool → Result Frame (Refusal H2Code) → Type 0
Judges result misplaced (Err refusals.NoMemory) = result ≡ Err refusals.NoMemory
Judges result misplaced (Ok frame) = result ≡ for_code (judged misplaced (Ok frame))
Judges result misplaced (Err (refusals.For code)) = result ≡ for_code (judged misplaced (Err code))

-- ---- DATA (sections 5.2 and 6.1)

-- For DATA of so many bytes, padding and all, the peer is given as many again: on the connection, whose window is full again behind each frame, and on the stream, unless a side has ended it.
unfoldable pub window_given : ℕ → ℕ → Bool → Sending → Sending
window_given count stream has_ended sending =
    if count == 0 then sending
    else if has_ended then with_frames (frames.WindowUpdate 0 count ∷ []) sending
    else with_frames (frames.WindowUpdate stream count ∷ []) (with_frames (frames.WindowUpdate 0 count ∷ []) sending)

-- DATA on a stream; on one that is not kept, or that the peer has ended, it comes too late
unfoldable pub data_of : ℕ → ℕ → Bool → List ℕ → State → Option Stream → Result (State × Given) H2Code
data_of count number end_stream bytes conn None = Err codes.StreamClosed
data_of count number end_stream bytes conn (Some stream) =
    unless stream.peer_ended codes.StreamClosed (unless (nat_lt stream.receive_window count) codes.FlowControlError (Ok (
      record conn { streams = swept (changed number (received count end_stream) conn.streams); outgoing = window_given count number (end_stream || stream.ended) conn.outgoing },
      given stream.ended (events.Data number bytes) end_stream number,
    )))

-- ---- HEADERS and CONTINUATION (sections 4.3, 5.1.2, 6.2 and 6.10)

-- the headers of a block and the table after it; a list that is too long is ENHANCE_YOUR_CALM, another fault is COMPRESSION_ERROR
unfoldable pub decoded : Result (List Header × Table) HpackFault → Result (List Header × Table) H2Code
decoded (Ok x) = Ok x
decoded (Err faults.ListTooLong) = Err codes.EnhanceYourCalm
decoded (Err fault) = Err codes.CompressionError

-- The headers of a stream that is kept, or of a new one. One more than 100 open streams is reset with REFUSED_STREAM.
unfoldable pub headers_of : HeaderBlock → List Header → State → Option Stream → State × Given
headers_of block headers conn (Some stream) =
    (record conn { streams = swept (changed block.stream (ended_by_peer block.end_stream) conn.streams) }, given stream.ended (events.Headers block.stream headers) block.end_stream block.stream)
headers_of block headers conn None =
    if nat_le 100 (open_count conn.streams)
    then (answering (frames.RstStream block.stream 7 ∷ []) (record conn { streams = swept (conn.streams ++ opened block.stream block.end_stream true ∷ []) }), nothing)
    else (record conn { streams = conn.streams ++ opened block.stream block.end_stream false ∷ [] }, given false (events.Headers block.stream headers) block.end_stream block.stream)

-- a header block that is whole
unfoldable pub block_taken : HeaderBlock → State → Result (State × Given) H2Code
block_taken block conn = do
  read ← decoded (block_at conn.decoder block.fragment)
  Ok (headers_of block read.0 (record conn { block = None; decoder = read.1 }) (stream_at block.stream conn.streams))

-- A header block so far. One of more than 262,144 bytes, four times the limit of a list, is ENHANCE_YOUR_CALM (this project's profile).
unfoldable pub fragment_taken : Bool → HeaderBlock → State → Result (State × Given) H2Code
fragment_taken end_headers block conn =
    unless (nat_lt 262144 (length block.fragment)) codes.EnhanceYourCalm (if end_headers then block_taken block conn else Ok (record conn { block = Some block }, nothing))

-- the number that the peer would open next
abbrev pub next_number : ℕ → ℕ
next_number greatest = if greatest == 0 then 1 else greatest + 2

-- the numbers that were skipped, where this one is opened
abbrev pub skipped_before : ℕ → State → List Skipped
skipped_before number conn = if nat_lt (next_number conn.greatest) number then conn.skipped ++ record { first = next_number conn.greatest; last = number - 2 } ∷ [] else conn.skipped

-- So many streams are kept, or so many times numbers were skipped, that no stream is opened any more (this project's profile).
abbrev pub is_crowded : State → Bool
is_crowded conn = nat_le 1000 (length conn.streams) || nat_le 1000 (length conn.skipped)

-- HEADERS on a stream that is kept, on one that was ended, or on a new one
unfoldable pub headers_taken : Bool → HeaderBlock → State → Option Stream → Result (State × Given) H2Code
headers_taken end_headers block conn (Some stream) = unless stream.peer_ended codes.StreamClosed (fragment_taken end_headers block conn)
headers_taken end_headers block conn None =
    unless (nat_le block.stream conn.greatest) codes.StreamClosed (unless (is_crowded conn) codes.EnhanceYourCalm
    (fragment_taken end_headers block (record conn { greatest = block.stream; skipped = skipped_before block.stream conn })))

unfoldable pub continuation_taken : Bool → List ℕ → State → Option HeaderBlock → Result (State × Given) H2Code
continuation_taken end_headers fragment conn None = Err codes.ProtocolError
continuation_taken end_headers fragment conn (Some block) = fragment_taken end_headers (record block { fragment = block.fragment ++ fragment }) (record conn { block = None })

-- ---- RST_STREAM (section 6.4): both sides have ended the stream

unfoldable pub reset_taken : ℕ → State → Option Stream → State × Given
reset_taken number conn None = (conn, nothing)
reset_taken number conn (Some stream) = (record conn { streams = swept (changed number reset conn.streams) }, given stream.ended (events.Reset number) false number)

-- ---- SETTINGS (section 6.5)

-- A setting of the peer. A new INITIAL_WINDOW_SIZE shifts the windows of the open streams, none of which may pass 2^31 - 1.
unfoldable pub setting_taken : Setting → State → Result State H2Code
setting_taken setting conn =
    if setting.identifier == header_table_size then Ok (record conn { outgoing = if nat_lt setting.value conn.outgoing.table_size then record conn.outgoing { table_size = setting.value; update_due = true } else conn.outgoing })
    else if setting.identifier == initial_window_size then unless (any_too_wide setting.value conn.streams) codes.FlowControlError (Ok (record conn { outgoing = record conn.outgoing { initial_window = setting.value } }))
    else if setting.identifier == max_frame_size then unless (nat_lt setting.value 16384 || nat_lt 16777215 setting.value) codes.ProtocolError (Ok (record conn { outgoing = record conn.outgoing { max_frame = setting.value } }))
    else Ok conn

-- settings are taken in their order
unfoldable pub settings_in_order : List Setting → State → Result State H2Code
settings_in_order [] conn = Ok conn
settings_in_order (setting ∷ settings) conn = do
  next ← setting_taken setting conn
  settings_in_order settings next

-- settings are acknowledged before the data that they let go out
unfoldable pub settings_taken : Bool → List Setting → State → Result (State × Given) H2Code
settings_taken true settings conn = Ok (record conn { settled = true }, nothing)
settings_taken false settings conn = do
  next ← settings_in_order settings (record conn { settled = true })
  Ok (flushing (answering (frames.Settings true [] ∷ []) next), nothing)

-- ---- WINDOW_UPDATE (section 6.9)

unfoldable pub connection_granted : ℕ → State → Result (State × Given) H2Code
connection_granted count conn =
    unless (nat_lt max_window (conn.outgoing.window + count)) codes.FlowControlError (Ok (flushing (record conn { outgoing = record conn.outgoing { window = conn.outgoing.window + count } }), nothing))

-- on a stream that this side has ended, or that both have, it is passed over
unfoldable pub stream_granted : ℕ → ℕ → State → Option Stream → Result (State × Given) H2Code
stream_granted number count conn None = Ok (conn, nothing)
stream_granted number count conn (Some stream) =
    if stream.ended then Ok (conn, nothing)
    else unless (is_too_wide conn.outgoing.initial_window (granted count stream)) codes.FlowControlError (Ok (flushing (record conn { streams = changed number (granted count) conn.streams }), nothing))

-- ---- PING (section 6.7)

abbrev pub ping_taken : Bool → ℕ → State → State
ping_taken ack opaque_data conn = if ack then conn else answering (frames.Ping true opaque_data ∷ []) conn

-- ---- a frame

-- what a frame does, whose payload has so many bytes and which may stand where it does
unfoldable pub acted : ℕ → Frame → State → Result (State × Given) H2Code
acted count (frames.Data stream end_stream bytes) conn = data_of count stream end_stream bytes conn (stream_at stream conn.streams)
acted count (frames.Headers stream end_stream end_headers priority fragment) conn = headers_taken end_headers (record { stream = stream; end_stream = end_stream; fragment = fragment }) conn (stream_at stream conn.streams)
acted count (frames.Priority stream priority) conn = Ok (conn, nothing)
acted count (frames.RstStream stream error_code) conn = Ok (reset_taken stream conn (stream_at stream conn.streams))
acted count (frames.Settings ack settings) conn = settings_taken ack settings conn
acted count (frames.PushPromise stream end_headers promised_stream fragment) conn = Err codes.ProtocolError
acted count (frames.Ping ack opaque_data) conn = Ok (ping_taken ack opaque_data conn, nothing)
acted count (frames.GoAway last_stream error_code debug_data) conn = Ok (conn, nothing)
acted count (frames.WindowUpdate stream increment) conn = if stream == 0 then connection_granted increment conn else stream_granted stream increment conn (stream_at stream conn.streams)
acted count (frames.Continuation stream end_headers fragment) conn = continuation_taken end_headers fragment conn conn.block
acted count (frames.Unknown kind flags stream payload) conn = Ok (conn, nothing)

-- what a frame of this head and payload does
unfoldable pub frame_taken : Head → List ℕ → State → Result (State × Given) H2Code
frame_taken head payload conn = do
  frame ← judged (is_misplaced head conn) (frame_at head payload)
  acted head.length frame conn

-- What a function made of the old connection is what the definition says. Want of memory may come at any time. Where a rule is broken, what is to be sent stands as before.
abbrev pub Takes : {X : Type 0} → Result X (Refusal H2Code) → State → State → Result (State × X) H2Code → Type 0
Takes (Ok x) old new taken = taken ≡ Ok (new, x)
Takes (Err refusals.NoMemory) old new taken = Unit {0}
Takes (Err (refusals.For code)) old new taken = (taken ≡ Err code) × (new.outgoing.output ≡ old.outgoing.output)
