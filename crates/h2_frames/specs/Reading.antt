-- What a frame is, or the code of the first rule that it breaks by itself (RFC 9113, sections 4 and 6).
use Rattle.std.specs.Prelude.{ℕ, zero, suc, ◌+◌, ◌-◌, ◌/◌, ◌%◌, ◌^◌, ◌&&◌, ◌||◌, ◌==◌, not, nat_lt, Bool, if◌then◌else◌, bit_and, List, [], ◌∷◌, length, take, drop, slice_index, Some, None, Result, Ok}
use Rattle.std.specs.List.{list_any}
use Rattle.std.specs.Int.{w16, w32, w64, from_be_bytes}
use Rattle.list_types.specs.Results.{◌>>=◌, unless}
use Rattle.h2_frames.specs.declared.codes.H2Code.{H2Code}
use Rattle.h2_frames.specs.declared.codes.H2Code.TheVariants.{ProtocolError, FlowControlError, FrameSizeError}
use Rattle.h2_frames.specs.declared.frame.Frame.{Frame}
use Rattle.h2_frames.specs.declared.frame.Frame.TheVariants as frames
use Rattle.h2_frames.specs.declared.frame.Setting.{Setting}
use Rattle.h2_frames.specs.declared.frame.StreamPriority.{StreamPriority}
use Rattle.h2_frames.specs.declared.head.Head.{Head}
use Rattle.h2_frames.specs.Codes.{end_stream_flag, ack_flag, end_headers_flag, padded_flag, priority_flag}

-- the flag is set
abbrev pub has : ℕ → ℕ → Bool
has flags flag = not (bit_and flags flag == 0)

-- the number of the four bytes from this place on
abbrev pub number_at : ℕ → List ℕ → ℕ
number_at place bytes = from_be_bytes w32 (take 4 (drop place bytes))

-- the number of their low 31 bits: the bit before them is reserved, or tells something else
abbrev pub low_31_at : ℕ → List ℕ → ℕ
low_31_at place bytes = number_at place bytes % 2 ^ 31

-- the head that nine bytes spell
abbrev pub head_at : List ℕ → Head
head_at bytes = record { length = from_be_bytes w32 (0 ∷ take 3 bytes); kind = slice_index bytes 3; flags = slice_index bytes 4; stream = low_31_at 5 bytes }

-- A payload without its padding, of a kind whose fields of fixed length take so many bytes.
unfoldable pub unpadded : ℕ → ℕ → List ℕ → Result (List ℕ) H2Code
unpadded fixed flags payload =
    if has flags padded_flag
    then unless (nat_lt (length payload) (fixed + 1)) FrameSizeError (unless (nat_lt (length payload) (fixed + 1 + slice_index payload 0)) ProtocolError (Ok (take (length payload - 1 - slice_index payload 0) (drop 1 payload))))
    else unless (nat_lt (length payload) fixed) FrameSizeError (Ok payload)

-- Exclusive, Stream Dependency and Weight
abbrev pub priority_at : List ℕ → StreamPriority
priority_at bytes = record { exclusive = not (nat_lt (number_at 0 bytes) (2 ^ 31)); stream_dependency = low_31_at 0 bytes; weight = slice_index bytes 4 }

-- the head is of DATA with padding
abbrev pub is_padded_data : Head → Bool
is_padded_data head = head.kind == 0 && has head.flags padded_flag

-- DATA (section 6.1)
unfoldable pub data_at : Head → List ℕ → Result Frame H2Code
data_at head payload = do
  body ← unpadded 0 head.flags payload
  unless (head.stream == 0) ProtocolError (Ok (frames.Data head.stream (has head.flags end_stream_flag) body))

-- HEADERS (section 6.2)
unfoldable pub headers_at : Head → List ℕ → Result Frame H2Code
headers_at head payload =
    if has head.flags priority_flag
    then (do
      body ← unpadded 5 head.flags payload
      unless (head.stream == 0) ProtocolError (Ok (frames.Headers head.stream (has head.flags end_stream_flag) (has head.flags end_headers_flag) (Some (priority_at body)) (drop 5 body))))
    else (do
      body ← unpadded 0 head.flags payload
      unless (head.stream == 0) ProtocolError (Ok (frames.Headers head.stream (has head.flags end_stream_flag) (has head.flags end_headers_flag) None body)))

-- PRIORITY (section 6.3)
unfoldable pub priority_frame_at : Head → List ℕ → Result Frame H2Code
priority_frame_at head payload =
    unless (not (length payload == 5)) FrameSizeError (unless (head.stream == 0) ProtocolError (Ok (frames.Priority head.stream (priority_at payload))))

-- RST_STREAM (section 6.4)
unfoldable pub rst_stream_at : Head → List ℕ → Result Frame H2Code
rst_stream_at head payload =
    unless (not (length payload == 4)) FrameSizeError (unless (head.stream == 0) ProtocolError (Ok (frames.RstStream head.stream (number_at 0 payload))))

-- Identifier and Value
abbrev pub setting_at : List ℕ → Setting
setting_at bytes = record { identifier = from_be_bytes w16 (take 2 bytes); value = number_at 2 bytes }

-- so many settings, of six bytes each
unfoldable pub settings_in : ℕ → List ℕ → List Setting
settings_in zero bytes = []
settings_in (suc more) bytes = setting_at (take 6 bytes) ∷ settings_in more (drop 6 bytes)

-- ENABLE_PUSH above 1, or MAX_FRAME_SIZE out of 16,384 to 16,777,215 (section 6.5.2)
abbrev pub breaks_protocol : Setting → Bool
breaks_protocol setting = (setting.identifier == 2 && nat_lt 1 setting.value) || (setting.identifier == 5 && (nat_lt setting.value 16384 || nat_lt 16777215 setting.value))

-- INITIAL_WINDOW_SIZE above 2^31 - 1 (section 6.5.2)
abbrev pub breaks_flow_control : Setting → Bool
breaks_flow_control setting = setting.identifier == 4 && nat_lt 2147483647 setting.value

-- settings that break no rule
unfoldable pub checked : List Setting → Result (List Setting) H2Code
checked settings = unless (list_any breaks_protocol settings) ProtocolError (unless (list_any breaks_flow_control settings) FlowControlError (Ok settings))

-- SETTINGS (section 6.5)
unfoldable pub settings_at : Head → List ℕ → Result Frame H2Code
settings_at head payload =
    unless (not (length payload % 6 == 0) || (has head.flags ack_flag && not (length payload == 0))) FrameSizeError (unless (not (head.stream == 0)) ProtocolError (do
      settings ← checked (settings_in (length payload / 6) payload)
      Ok (frames.Settings (has head.flags ack_flag) settings)))

-- PUSH_PROMISE (section 6.6)
unfoldable pub push_promise_at : Head → List ℕ → Result Frame H2Code
push_promise_at head payload = do
  body ← unpadded 4 head.flags payload
  unless (head.stream == 0) ProtocolError (Ok (frames.PushPromise head.stream (has head.flags end_headers_flag) (low_31_at 0 body) (drop 4 body)))

-- PING (section 6.7)
unfoldable pub ping_at : Head → List ℕ → Result Frame H2Code
ping_at head payload =
    unless (not (length payload == 8)) FrameSizeError (unless (not (head.stream == 0)) ProtocolError (Ok (frames.Ping (has head.flags ack_flag) (from_be_bytes w64 payload))))

-- GOAWAY (section 6.8)
unfoldable pub goaway_at : Head → List ℕ → Result Frame H2Code
goaway_at head payload =
    unless (nat_lt (length payload) 8) FrameSizeError (unless (not (head.stream == 0)) ProtocolError (Ok (frames.GoAway (low_31_at 0 payload) (number_at 4 payload) (drop 8 payload))))

-- WINDOW_UPDATE (section 6.9)
unfoldable pub window_update_at : Head → List ℕ → Result Frame H2Code
window_update_at head payload =
    unless (not (length payload == 4)) FrameSizeError (unless (low_31_at 0 payload == 0) ProtocolError (Ok (frames.WindowUpdate head.stream (low_31_at 0 payload))))

-- CONTINUATION (section 6.10)
unfoldable pub continuation_at : Head → List ℕ → Result Frame H2Code
continuation_at head payload =
    unless (head.stream == 0) ProtocolError (Ok (frames.Continuation head.stream (has head.flags end_headers_flag) payload))

-- a frame of another kind
abbrev pub unknown_at : Head → List ℕ → Frame
unknown_at head payload = frames.Unknown head.kind head.flags head.stream payload

-- The frame of this head and payload, or the code of the first rule that it breaks by itself.
unfoldable pub frame_at : Head → List ℕ → Result Frame H2Code
frame_at head payload =
    if head.kind == 0 then data_at head payload
    else if head.kind == 1 then headers_at head payload
    else if head.kind == 2 then priority_frame_at head payload
    else if head.kind == 3 then rst_stream_at head payload
    else if head.kind == 4 then settings_at head payload
    else if head.kind == 5 then push_promise_at head payload
    else if head.kind == 6 then ping_at head payload
    else if head.kind == 7 then goaway_at head payload
    else if head.kind == 8 then window_update_at head payload
    else if head.kind == 9 then continuation_at head payload
    else Ok (unknown_at head payload)

-- whether memory is asked for: the payload is copied, or its settings are listed
abbrev pub asks_memory : Head → Bool
asks_memory head = not (head.kind == 2 || head.kind == 3 || head.kind == 6 || head.kind == 8)

-- The frame that bytes are: nine bytes of head, and the rest is its payload.
abbrev pub read : List ℕ → Result Frame H2Code
read bytes = frame_at (head_at (take 9 bytes)) (drop 9 bytes)
