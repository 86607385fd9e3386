-- A frame whose numbers fit, and that keeps the rules, is read back from its head and its payload.
use Rattle.std.proofs.Common.{◌≡◌, ℕ, ◌*◌, ◌/◌, ◌%◌, ◌^◌, ◌<◌, ◌≤◌, nat_lt, Bool, true, false, List, [], ◌∷◌, ◌++◌, length, All, Some, None, Ok, refl, arith}
use Rattle.std.specs.List.{flat_map, list_any}
use Rattle.std.proofs.lemmas.Bool.{le-ltb}
use Rattle.std.proofs.lemmas.List.Elements.{All-head, All-tail}
use Rattle.std.proofs.lemmas.Nat.{from_be_bytes-to_be_bytes_8}
use Rattle.h2_frames.specs.declared.frame.Frame.{Frame}
use Rattle.h2_frames.specs.declared.frame.Frame.TheVariants as frames
use Rattle.h2_frames.specs.declared.frame.Setting.{Setting}
use Rattle.h2_frames.specs.declared.frame.StreamPriority.{StreamPriority}
use Rattle.h2_frames.specs.declared.head.Head.{Head}
use Rattle.h2_frames.specs.Layout.{flags_of, kind_of, stream_of, payload_of, priority_bytes, setting_bytes}
use Rattle.h2_frames.specs.Reading.{unpadded, data_at, headers_at, priority_frame_at, rst_stream_at, settings_in, breaks_protocol, breaks_flow_control, checked, settings_at, push_promise_at, ping_at, goaway_at, window_update_at, continuation_at, frame_at}
use Rattle.h2_frames.specs.Laws.{NumbersFit, SettingFits, KeepsRules}
use Rattle.h2_frames.proofs.Numbers.{not_zero, not_below_zero, other_kind, number_back, low_31_back, priority_back, setting_back}
use Rattle.h2_frames.proofs.Settings.{settings_length}

-- the head of a frame whose payload has so many bytes
abbrev pub head_for : ℕ → Frame → Head
head_for size frame = record { length = size; kind = kind_of frame; flags = flags_of frame; stream = stream_of frame }

data_back : (size stream : ℕ) (end_stream : Bool) (octets : List ℕ) → 0 < stream → data_at (head_for size (frames.Data stream end_stream octets)) octets ≡ Ok (frames.Data stream end_stream octets)
unfolding data_at unpadded
data_back size stream true octets pos = rw (not_below_zero (length octets), not_zero stream pos) refl
data_back size stream false octets pos = rw (not_below_zero (length octets), not_zero stream pos) refl

bare_headers_back : (size stream : ℕ) (end_stream end_headers : Bool) (fragment : List ℕ) → 0 < stream
    → headers_at (head_for size (frames.Headers stream end_stream end_headers None fragment)) fragment ≡ Ok (frames.Headers stream end_stream end_headers None fragment)
unfolding headers_at unpadded
bare_headers_back size stream true true fragment pos = rw (not_below_zero (length fragment), not_zero stream pos) refl
bare_headers_back size stream true false fragment pos = rw (not_below_zero (length fragment), not_zero stream pos) refl
bare_headers_back size stream false true fragment pos = rw (not_below_zero (length fragment), not_zero stream pos) refl
bare_headers_back size stream false false fragment pos = rw (not_below_zero (length fragment), not_zero stream pos) refl

five_or_more : (priority : StreamPriority) (fragment : List ℕ) → nat_lt (length (priority_bytes priority ++ fragment)) 5 ≡ false
five_or_more priority fragment = le-ltb (length (priority_bytes priority ++ fragment)) 5 (omega arith)

headers_back : (size stream : ℕ) (end_stream end_headers : Bool) (priority : StreamPriority) (fragment : List ℕ) → 0 < stream → priority.stream_dependency < 2 ^ 31
    → headers_at (head_for size (frames.Headers stream end_stream end_headers (Some priority) fragment)) (priority_bytes priority ++ fragment) ≡ Ok (frames.Headers stream end_stream end_headers (Some priority) fragment)
unfolding headers_at unpadded
headers_back size stream true true priority fragment pos fits = rw (five_or_more priority fragment, not_zero stream pos, priority_back priority fragment fits) refl
headers_back size stream true false priority fragment pos fits = rw (five_or_more priority fragment, not_zero stream pos, priority_back priority fragment fits) refl
headers_back size stream false true priority fragment pos fits = rw (five_or_more priority fragment, not_zero stream pos, priority_back priority fragment fits) refl
headers_back size stream false false priority fragment pos fits = rw (five_or_more priority fragment, not_zero stream pos, priority_back priority fragment fits) refl

priority_frame_back : (size stream : ℕ) (priority : StreamPriority) → 0 < stream → priority.stream_dependency < 2 ^ 31
    → priority_frame_at (head_for size (frames.Priority stream priority)) (priority_bytes priority) ≡ Ok (frames.Priority stream priority)
unfolding priority_frame_at
priority_frame_back size stream priority pos fits = rw (not_zero stream pos, priority_back priority [] fits) refl

rst_stream_back : (size stream error_code : ℕ) → 0 < stream → error_code < 2 ^ 32
    → rst_stream_at (head_for size (frames.RstStream stream error_code)) (payload_of (frames.RstStream stream error_code)) ≡ Ok (frames.RstStream stream error_code)
unfolding rst_stream_at
rst_stream_back size stream error_code pos fits = rw (not_zero stream pos, number_back error_code [] fits) refl

ack_back : (size : ℕ) → settings_at (head_for size (frames.Settings true [])) [] ≡ Ok (frames.Settings true [])
unfolding settings_at settings_in checked
ack_back size = refl

each_back : (settings : List Setting) → All SettingFits settings → settings_in (length settings) (flat_map setting_bytes settings) ≡ settings
unfolding settings_in
each_back [] fit = refl
each_back (setting ∷ settings) fit =
    let first = All-head SettingFits setting settings fit in
    let others : settings_in (length settings) (flat_map setting_bytes settings) ≡ settings = each_back settings (All-tail SettingFits setting settings fit) in
    rw (setting_back setting (flat_map setting_bytes settings) first.identifier_fits first.value_fits, others) refl

settings_back : (size : ℕ) (settings : List Setting) → All SettingFits settings → list_any breaks_protocol settings ≡ false → list_any breaks_flow_control settings ≡ false
    → settings_at (head_for size (frames.Settings false settings)) (flat_map setting_bytes settings) ≡ Ok (frames.Settings false settings)
unfolding settings_at checked
settings_back size settings fit protocol flow_control =
    let sixes : length (flat_map setting_bytes settings) ≡ 6 * length settings = settings_length settings in
    let whole : length (flat_map setting_bytes settings) % 6 ≡ 0 = omega arith in
    let count : length (flat_map setting_bytes settings) / 6 ≡ length settings = omega arith in
    rw (whole, count, each_back settings fit, protocol, flow_control) refl

push_promise_back : (size stream : ℕ) (end_headers : Bool) (promised_stream : ℕ) (fragment : List ℕ) → 0 < stream → promised_stream < 2 ^ 31
    → push_promise_at (head_for size (frames.PushPromise stream end_headers promised_stream fragment)) (payload_of (frames.PushPromise stream end_headers promised_stream fragment)) ≡ Ok (frames.PushPromise stream end_headers promised_stream fragment)
unfolding push_promise_at unpadded
push_promise_back size stream true promised_stream fragment pos fits =
    rw (le-ltb (length (payload_of (frames.PushPromise stream true promised_stream fragment))) 4 (omega arith), not_zero stream pos, low_31_back promised_stream fragment fits) refl
push_promise_back size stream false promised_stream fragment pos fits =
    rw (le-ltb (length (payload_of (frames.PushPromise stream false promised_stream fragment))) 4 (omega arith), not_zero stream pos, low_31_back promised_stream fragment fits) refl

ping_back : (size : ℕ) (ack : Bool) (opaque_data : ℕ) → opaque_data < 2 ^ 64 → ping_at (head_for size (frames.Ping ack opaque_data)) (payload_of (frames.Ping ack opaque_data)) ≡ Ok (frames.Ping ack opaque_data)
unfolding ping_at
ping_back size true opaque_data fits = rw (from_be_bytes-to_be_bytes_8 opaque_data fits) refl
ping_back size false opaque_data fits = rw (from_be_bytes-to_be_bytes_8 opaque_data fits) refl

goaway_back : (size last_stream error_code : ℕ) (debug : List ℕ) → last_stream < 2 ^ 31 → error_code < 2 ^ 32
    → goaway_at (head_for size (frames.GoAway last_stream error_code debug)) (payload_of (frames.GoAway last_stream error_code debug)) ≡ Ok (frames.GoAway last_stream error_code debug)
unfolding goaway_at
goaway_back size last_stream error_code debug small fits =
    rw (le-ltb (length (payload_of (frames.GoAway last_stream error_code debug))) 8 (omega arith), low_31_back last_stream [] small, number_back error_code debug fits) refl

window_update_back : (size stream increment : ℕ) → 0 < increment → increment < 2 ^ 31
    → window_update_at (head_for size (frames.WindowUpdate stream increment)) (payload_of (frames.WindowUpdate stream increment)) ≡ Ok (frames.WindowUpdate stream increment)
unfolding window_update_at
window_update_back size stream increment pos fits = rw (low_31_back increment [] fits, not_zero increment pos) refl

continuation_back : (size stream : ℕ) (end_headers : Bool) (fragment : List ℕ) → 0 < stream
    → continuation_at (head_for size (frames.Continuation stream end_headers fragment)) fragment ≡ Ok (frames.Continuation stream end_headers fragment)
unfolding continuation_at
continuation_back size stream true fragment pos = rw (not_zero stream pos) refl
continuation_back size stream false fragment pos = rw (not_zero stream pos) refl

unknown_back : (size kind flags stream : ℕ) (payload : List ℕ) → 10 ≤ kind → frame_at (head_for size (frames.Unknown kind flags stream payload)) payload ≡ Ok (frames.Unknown kind flags stream payload)
unfolding frame_at
unknown_back size kind flags stream payload above =
    rw (
      other_kind kind 0 (omega arith),
      other_kind kind 1 (omega arith),
      other_kind kind 2 (omega arith),
      other_kind kind 3 (omega arith),
      other_kind kind 4 (omega arith),
      other_kind kind 5 (omega arith),
      other_kind kind 6 (omega arith),
      other_kind kind 7 (omega arith),
      other_kind kind 8 (omega arith),
      other_kind kind 9 (omega arith),
    ) refl

pub frame_back : (size : ℕ) (frame : Frame) → NumbersFit frame → KeepsRules frame → frame_at (head_for size frame) (payload_of frame) ≡ Ok frame
unfolding frame_at
frame_back size (frames.Data stream end_stream octets) fits keeps = data_back size stream end_stream octets keeps
frame_back size (frames.Headers stream end_stream end_headers (Some priority) fragment) fits keeps = headers_back size stream end_stream end_headers priority fragment keeps fits.1
frame_back size (frames.Headers stream end_stream end_headers None fragment) fits keeps = bare_headers_back size stream end_stream end_headers fragment keeps
frame_back size (frames.Priority stream priority) fits keeps = priority_frame_back size stream priority keeps fits.1
frame_back size (frames.RstStream stream error_code) fits keeps = rst_stream_back size stream error_code keeps.0 keeps.1
frame_back size (frames.Settings true settings) fits keeps = rw keeps (ack_back size)
frame_back size (frames.Settings false settings) fits keeps = settings_back size settings keeps.0 keeps.1 keeps.2
frame_back size (frames.PushPromise stream end_headers promised_stream fragment) fits keeps = push_promise_back size stream end_headers promised_stream fragment keeps fits.1
frame_back size (frames.Ping ack opaque_data) fits keeps = ping_back size ack opaque_data keeps
frame_back size (frames.GoAway last_stream error_code debug) fits keeps = goaway_back size last_stream error_code debug fits keeps
frame_back size (frames.WindowUpdate stream increment) fits keeps = window_update_back size stream increment keeps fits.1
frame_back size (frames.Continuation stream end_headers fragment) fits keeps = continuation_back size stream end_headers fragment keeps
frame_back size (frames.Unknown kind flags stream payload) fits keeps = unknown_back size kind flags stream payload fits.0
