-- Laws of frames.
use Rattle.std.specs.Prelude.{◌≡◌, ℕ, ◌+◌, ◌^◌, ◌<◌, ◌≤◌, List, [], ◌∷◌, length, take, All, Option, Some, None, Ok, Err, true, false}
use Rattle.std.specs.List.{list_any}
use Rattle.h2_frames.specs.declared.codes.H2Code.TheVariants.{ProtocolError, FlowControlError, FrameSizeError}
use Rattle.h2_frames.specs.declared.frame.Frame.{Frame}
use Rattle.h2_frames.specs.declared.frame.Frame.TheVariants as frames
use Rattle.h2_frames.specs.declared.frame.Setting.{Setting}
use Rattle.h2_frames.specs.declared.frame.StreamPriority.{StreamPriority}
use Rattle.h2_frames.specs.Layout.{payload_of, spelling}
use Rattle.h2_frames.specs.Reading.{breaks_protocol, breaks_flow_control, head_at, read}

-- the numbers of a priority fit
abbrev pub PriorityFits : Option StreamPriority → Type 0
PriorityFits (Some priority) = priority.stream_dependency < 2 ^ 31
PriorityFits None = Unit {0}

-- The numbers of 31 bits fit where they stand, and a frame of no kind has a kind of its own.
abbrev pub NumbersFit : Frame → Type 0
NumbersFit (frames.Data stream end_stream octets) = stream < 2 ^ 31
NumbersFit (frames.Headers stream end_stream end_headers priority fragment) = (stream < 2 ^ 31) × PriorityFits priority
NumbersFit (frames.Priority stream priority) = (stream < 2 ^ 31) × (priority.stream_dependency < 2 ^ 31)
NumbersFit (frames.RstStream stream error_code) = stream < 2 ^ 31
NumbersFit (frames.Settings ack settings) = Unit {0}
NumbersFit (frames.PushPromise stream end_headers promised_stream fragment) = (stream < 2 ^ 31) × (promised_stream < 2 ^ 31)
NumbersFit (frames.Ping ack opaque_data) = Unit {0}
NumbersFit (frames.GoAway last_stream error_code debug_data) = last_stream < 2 ^ 31
NumbersFit (frames.WindowUpdate stream increment) = (stream < 2 ^ 31) × (increment < 2 ^ 31)
NumbersFit (frames.Continuation stream end_headers fragment) = stream < 2 ^ 31
NumbersFit (frames.Unknown kind flags stream payload) = (10 ≤ kind) × (stream < 2 ^ 31)

-- a setting's numbers fit in 16 and 32 bits
pub record SettingFits (setting : Setting) : Type 0 where
  pub identifier_fits : setting.identifier < 2 ^ 16
  pub value_fits : setting.value < 2 ^ 32

-- The other numbers fit where they stand, and the frame breaks no rule by itself.
abbrev pub KeepsRules : Frame → Type 0
KeepsRules (frames.Data stream end_stream octets) = 0 < stream
KeepsRules (frames.Headers stream end_stream end_headers priority fragment) = 0 < stream
KeepsRules (frames.Priority stream priority) = 0 < stream
KeepsRules (frames.RstStream stream error_code) = (0 < stream) × (error_code < 2 ^ 32)
KeepsRules (frames.Settings true settings) = settings ≡ []
KeepsRules (frames.Settings false settings) = (All SettingFits settings) × (list_any breaks_protocol settings ≡ false) × (list_any breaks_flow_control settings ≡ false)
KeepsRules (frames.PushPromise stream end_headers promised_stream fragment) = 0 < stream
KeepsRules (frames.Ping ack opaque_data) = opaque_data < 2 ^ 64
KeepsRules (frames.GoAway last_stream error_code debug_data) = error_code < 2 ^ 32
KeepsRules (frames.WindowUpdate stream increment) = 0 < increment
KeepsRules (frames.Continuation stream end_headers fragment) = 0 < stream
KeepsRules (frames.Unknown kind flags stream payload) = Unit {0}

-- These bytes are a head and as many bytes of payload as it says, and are read as this frame.
pub record AreReadAs (frame : Frame) (bytes : List ℕ) : Type 0 where
  pub length_is : (head_at (take 9 bytes)).length + 9 ≡ length bytes
  pub frame_is : read bytes ≡ Ok frame

-- What is written is read back.
abbrev pub ReadBack : Type 0
ReadBack = (frame : Frame) → length (payload_of frame) < 2 ^ 24 → NumbersFit frame → KeepsRules frame → AreReadAs frame (spelling frame)

-- Some frames and their bytes.
pub record WorkedFrames : Type 0 where
  pub settings_is : spelling (frames.Settings false (record { identifier = 3; value = 100 } ∷ [])) ≡ 0 ∷ 0 ∷ 6 ∷ 4 ∷ 0 ∷ 0 ∷ 0 ∷ 0 ∷ 0 ∷ 0 ∷ 3 ∷ 0 ∷ 0 ∷ 0 ∷ 100 ∷ []
  pub ack_is : spelling (frames.Settings true []) ≡ 0 ∷ 0 ∷ 0 ∷ 4 ∷ 1 ∷ 0 ∷ 0 ∷ 0 ∷ 0 ∷ []
  pub window_update_is : spelling (frames.WindowUpdate 0 5) ≡ 0 ∷ 0 ∷ 4 ∷ 8 ∷ 0 ∷ 0 ∷ 0 ∷ 0 ∷ 0 ∷ 0 ∷ 0 ∷ 0 ∷ 5 ∷ []
  pub data_is : spelling (frames.Data 1 true (0 ∷ 0 ∷ 0 ∷ 0 ∷ 0 ∷ [])) ≡ 0 ∷ 0 ∷ 5 ∷ 0 ∷ 1 ∷ 0 ∷ 0 ∷ 0 ∷ 1 ∷ 0 ∷ 0 ∷ 0 ∷ 0 ∷ 0 ∷ []
  pub padded_data : read (0 ∷ 0 ∷ 6 ∷ 0 ∷ 9 ∷ 128 ∷ 0 ∷ 0 ∷ 3 ∷ 2 ∷ 104 ∷ 105 ∷ 33 ∷ 0 ∷ 0 ∷ []) ≡ Ok (frames.Data 3 true (104 ∷ 105 ∷ 33 ∷ []))
  pub all_padding : read (0 ∷ 0 ∷ 3 ∷ 0 ∷ 8 ∷ 0 ∷ 0 ∷ 0 ∷ 3 ∷ 3 ∷ 0 ∷ 0 ∷ []) ≡ Err ProtocolError
  pub size_first : read (0 ∷ 0 ∷ 1 ∷ 4 ∷ 0 ∷ 0 ∷ 0 ∷ 0 ∷ 1 ∷ 0 ∷ []) ≡ Err FrameSizeError
  pub protocol_second : read (0 ∷ 0 ∷ 12 ∷ 4 ∷ 0 ∷ 0 ∷ 0 ∷ 0 ∷ 0 ∷ 0 ∷ 4 ∷ 128 ∷ 0 ∷ 0 ∷ 0 ∷ 0 ∷ 2 ∷ 0 ∷ 0 ∷ 0 ∷ 2 ∷ []) ≡ Err ProtocolError
  pub window_too_large : read (0 ∷ 0 ∷ 6 ∷ 4 ∷ 0 ∷ 0 ∷ 0 ∷ 0 ∷ 0 ∷ 0 ∷ 4 ∷ 128 ∷ 0 ∷ 0 ∷ 0 ∷ []) ≡ Err FlowControlError
