-- How a frame is spelled: its head and its payload, without padding (RFC 9113, sections 4.1 and 6).
use Rattle.std.specs.Prelude.{ℕ, ◌+◌, ◌^◌, Bool, if◌then◌else◌, List, [], ◌∷◌, ◌++◌, length, drop, Option, Some, None}
use Rattle.std.specs.List.{flat_map}
use Rattle.std.specs.Int.{w16, w32, w64, to_be_bytes}
use Rattle.h2_frames.specs.declared.frame.Frame.{Frame}
use Rattle.h2_frames.specs.declared.frame.Frame.TheVariants as frames
use Rattle.h2_frames.specs.declared.frame.Setting.{Setting}
use Rattle.h2_frames.specs.declared.frame.StreamPriority.{StreamPriority}
use Rattle.h2_frames.specs.Codes.{end_stream_flag, ack_flag, end_headers_flag, priority_flag}

-- the Type field of a frame
abbrev pub kind_of : Frame → ℕ
kind_of (frames.Data stream end_stream octets) = 0
kind_of (frames.Headers stream end_stream end_headers priority fragment) = 1
kind_of (frames.Priority stream priority) = 2
kind_of (frames.RstStream stream error_code) = 3
kind_of (frames.Settings ack settings) = 4
kind_of (frames.PushPromise stream end_headers promised_stream fragment) = 5
kind_of (frames.Ping ack opaque_data) = 6
kind_of (frames.GoAway last_stream error_code debug_data) = 7
kind_of (frames.WindowUpdate stream increment) = 8
kind_of (frames.Continuation stream end_headers fragment) = 9
kind_of (frames.Unknown kind flags stream payload) = kind

-- the flag where it is set, and else 0
abbrev pub flag_if : Bool → ℕ → ℕ
flag_if is_set flag = if is_set then flag else 0

-- PRIORITY where there is a priority
abbrev pub flag_of_priority : Option StreamPriority → ℕ
flag_of_priority (Some priority) = priority_flag
flag_of_priority None = 0

-- the Flags field of a frame
abbrev pub flags_of : Frame → ℕ
flags_of (frames.Data stream end_stream octets) = flag_if end_stream end_stream_flag
flags_of (frames.Headers stream end_stream end_headers priority fragment) = flag_if end_stream end_stream_flag + flag_if end_headers end_headers_flag + flag_of_priority priority
flags_of (frames.Priority stream priority) = 0
flags_of (frames.RstStream stream error_code) = 0
flags_of (frames.Settings ack settings) = flag_if ack ack_flag
flags_of (frames.PushPromise stream end_headers promised_stream fragment) = flag_if end_headers end_headers_flag
flags_of (frames.Ping ack opaque_data) = flag_if ack ack_flag
flags_of (frames.GoAway last_stream error_code debug_data) = 0
flags_of (frames.WindowUpdate stream increment) = 0
flags_of (frames.Continuation stream end_headers fragment) = flag_if end_headers end_headers_flag
flags_of (frames.Unknown kind flags stream payload) = flags

-- the Stream Identifier field of a frame, 0 where the frame is of the connection
abbrev pub stream_of : Frame → ℕ
stream_of (frames.Data stream end_stream octets) = stream
stream_of (frames.Headers stream end_stream end_headers priority fragment) = stream
stream_of (frames.Priority stream priority) = stream
stream_of (frames.RstStream stream error_code) = stream
stream_of (frames.Settings ack settings) = 0
stream_of (frames.PushPromise stream end_headers promised_stream fragment) = stream
stream_of (frames.Ping ack opaque_data) = 0
stream_of (frames.GoAway last_stream error_code debug_data) = 0
stream_of (frames.WindowUpdate stream increment) = stream
stream_of (frames.Continuation stream end_headers fragment) = stream
stream_of (frames.Unknown kind flags stream payload) = stream

-- Exclusive, Stream Dependency and Weight
abbrev pub priority_bytes : StreamPriority → List ℕ
priority_bytes priority = to_be_bytes w32 (flag_if priority.exclusive (2 ^ 31) + priority.stream_dependency) ++ priority.weight ∷ []

-- the same where there is a priority
abbrev pub priority_part : Option StreamPriority → List ℕ
priority_part (Some priority) = priority_bytes priority
priority_part None = []

-- Identifier and Value
abbrev pub setting_bytes : Setting → List ℕ
setting_bytes setting = to_be_bytes w16 setting.identifier ++ to_be_bytes w32 setting.value

-- the payload of a frame
abbrev pub payload_of : Frame → List ℕ
payload_of (frames.Data stream end_stream octets) = octets
payload_of (frames.Headers stream end_stream end_headers priority fragment) = priority_part priority ++ fragment
payload_of (frames.Priority stream priority) = priority_bytes priority
payload_of (frames.RstStream stream error_code) = to_be_bytes w32 error_code
payload_of (frames.Settings ack settings) = flat_map setting_bytes settings
payload_of (frames.PushPromise stream end_headers promised_stream fragment) = to_be_bytes w32 promised_stream ++ fragment
payload_of (frames.Ping ack opaque_data) = to_be_bytes w64 opaque_data
payload_of (frames.GoAway last_stream error_code debug_data) = to_be_bytes w32 last_stream ++ to_be_bytes w32 error_code ++ debug_data
payload_of (frames.WindowUpdate stream increment) = to_be_bytes w32 increment
payload_of (frames.Continuation stream end_headers fragment) = fragment
payload_of (frames.Unknown kind flags stream payload) = payload

-- a head: Length in three bytes, Type, Flags, and a clear reserved bit before the Stream Identifier
abbrev pub head_bytes : ℕ → ℕ → ℕ → ℕ → List ℕ
head_bytes size kind flags stream = drop 1 (to_be_bytes w32 size) ++ kind ∷ flags ∷ to_be_bytes w32 stream

-- a frame: its head, then its payload
abbrev pub spelling : Frame → List ℕ
spelling frame = head_bytes (length (payload_of frame)) (kind_of frame) (flags_of frame) (stream_of frame) ++ payload_of frame
