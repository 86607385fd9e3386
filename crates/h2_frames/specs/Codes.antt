-- The numbers of the codes of errors (RFC 9113, section 7), and the flags of frames (section 6).
use Rattle.std.specs.Prelude.{ℕ}
use Rattle.h2_frames.specs.declared.codes.H2Code.{H2Code}
use Rattle.h2_frames.specs.declared.codes.H2Code.TheVariants as codes

-- the number of an error code
abbrev pub code_number : H2Code → ℕ
code_number codes.NoError = 0
code_number codes.ProtocolError = 1
code_number codes.InternalError = 2
code_number codes.FlowControlError = 3
code_number codes.SettingsTimeout = 4
code_number codes.StreamClosed = 5
code_number codes.FrameSizeError = 6
code_number codes.RefusedStream = 7
code_number codes.Cancel = 8
code_number codes.CompressionError = 9
code_number codes.ConnectError = 10
code_number codes.EnhanceYourCalm = 11
code_number codes.InadequateSecurity = 12
code_number codes.Http11Required = 13

-- END_STREAM, of DATA and HEADERS
abbrev pub end_stream_flag : ℕ
end_stream_flag = 0x1

-- ACK, of SETTINGS and PING
abbrev pub ack_flag : ℕ
ack_flag = 0x1

-- END_HEADERS, of HEADERS, PUSH_PROMISE and CONTINUATION
abbrev pub end_headers_flag : ℕ
end_headers_flag = 0x4

-- PADDED, of DATA, HEADERS and PUSH_PROMISE
abbrev pub padded_flag : ℕ
padded_flag = 0x8

-- PRIORITY, of HEADERS
abbrev pub priority_flag : ℕ
priority_flag = 0x20

-- SETTINGS_HEADER_TABLE_SIZE (section 6.5.2)
abbrev pub header_table_size : ℕ
header_table_size = 1

-- SETTINGS_INITIAL_WINDOW_SIZE
abbrev pub initial_window_size : ℕ
initial_window_size = 4

-- SETTINGS_MAX_FRAME_SIZE
abbrev pub max_frame_size : ℕ
max_frame_size = 5
