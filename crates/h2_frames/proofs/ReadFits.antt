-- The frame that is read can be written again.
use Rattle.std.proofs.Common.{◌≡◌, ◌≢◌, ℕ, zero, suc, ◌+◌, ◌-◌, ◌*◌, ◌/◌, ◌%◌, ◌^◌, ◌<◌, ◌≤◌, ◌==◌, ◌&&◌, ◌||◌, not, nat_lt, Bool, true, false, cond, List, length, take, drop, slice_index, Some, None, Result, Ok, Err, IfOk, refl, ap, arith, length-drop}
use Rattle.std.specs.List.{list_any}
use Rattle.std.specs.Int.{w64, from_be_bytes}
use Rattle.std.proofs.lemmas.List.{length-take}
use Rattle.std.proofs.lemmas.Bool.Decides.{nat_tests}
use Rattle.list_types.specs.declared.memory.Refusal.{Refusal}
use Rattle.list_types.specs.Results.{◌>>=◌, unless, Gives}
use Rattle.h2_frames.specs.declared.codes.H2Code.{H2Code}
use Rattle.h2_frames.specs.declared.codes.H2Code.TheVariants.{ProtocolError, FlowControlError, FrameSizeError}
use Rattle.h2_frames.specs.declared.frame.Frame.{Frame}
use Rattle.h2_frames.specs.declared.frame.Frame.TheVariants as frames
use Rattle.h2_frames.specs.declared.frame.Setting.{Setting}
use Rattle.h2_frames.specs.declared.head.Head.{Head}
use Rattle.h2_frames.specs.Codes.{end_stream_flag, ack_flag, end_headers_flag, padded_flag, priority_flag}
use Rattle.h2_frames.specs.Layout.{payload_of}
use Rattle.h2_frames.specs.Reading.{has, unpadded, low_31_at, number_at, priority_at, data_at, headers_at, priority_frame_at, rst_stream_at, settings_in, breaks_protocol, breaks_flow_control, checked, settings_at, push_promise_at, ping_at, goaway_at, window_update_at, continuation_at, unknown_at, frame_at}
use Rattle.h2_frames.specs.Laws.{NumbersFit}
use Rattle.h2_frames.proofs.Settings.{settings_length}

-- the frame can be written in so many bytes of payload, where there is one
abbrev pub FitIfRead : ℕ → Result Frame H2Code → Type 0
FitIfRead size (Ok frame) = NumbersFit frame × (length (payload_of frame) ≤ size)
FitIfRead size (Err code) = Unit {0}

-- what is left of a payload is no shorter and no longer than so many bytes, where there is one
abbrev pub ShortIfRead : ℕ → ℕ → Result (List ℕ) H2Code → Type 0
ShortIfRead fixed size (Ok body) = (fixed ≤ length body) × (length body ≤ size)
ShortIfRead fixed size (Err code) = Unit {0}

bind_fits : (fixed size : ℕ) (r : Result (List ℕ) H2Code) (f : List ℕ → Result Frame H2Code) → ShortIfRead fixed size r → ((x : List ℕ) → fixed ≤ length x → length x ≤ size → FitIfRead size (f x)) → FitIfRead size (r >>= f)
bind_fits fixed size (Ok x) f short fits = fits x short.0 short.1
bind_fits fixed size (Err code) f short fits = tt

unless_fits : (size : ℕ) (broken : Bool) (code : H2Code) (r : Result Frame H2Code) → (broken ≡ false → FitIfRead size r) → FitIfRead size (unless broken code r)
unless_fits size true code r fits = tt
unless_fits size false code r fits = fits refl

unless_short : (fixed size : ℕ) (broken : Bool) (code : H2Code) (r : Result (List ℕ) H2Code) → (broken ≡ false → ShortIfRead fixed size r) → ShortIfRead fixed size (unless broken code r)
unless_short fixed size true code r fits = tt
unless_short fixed size false code r fits = fits refl

either_short : (fixed size : ℕ) (b : Bool) (x y : Result (List ℕ) H2Code) → ShortIfRead fixed size x → ShortIfRead fixed size y → ShortIfRead fixed size (cond b x y)
either_short fixed size true x y first second = first
either_short fixed size false x y first second = second

either_fits : (size : ℕ) (b : Bool) (x y : Result Frame H2Code) → FitIfRead size x → (b ≡ false → FitIfRead size y) → FitIfRead size (cond b x y)
either_fits size true x y first second = first
either_fits size false x y first second = second refl

not_below : (a b : ℕ) → nat_lt a b ≡ false → b ≤ a
not_below a b e = grind (arith, nat_tests)

same_number : (a b : ℕ) → not (a == b) ≡ false → a ≡ b
same_number a b e = grind (arith, nat_tests)

unpadded_short : (fixed flags : ℕ) (payload : List ℕ) → ShortIfRead fixed (length payload) (unpadded fixed flags payload)
unfolding unpadded
unpadded_short fixed flags payload =
    let n = length payload in
    let pad = slice_index payload 0 in
    let inner = unless_short fixed n (nat_lt n (fixed + 1 + pad)) ProtocolError (Ok (take (n - 1 - pad) (drop 1 payload))) (λ e.
    let room : fixed + 1 + pad ≤ length payload = not_below n (fixed + 1 + pad) e in
    (omega (arith, length-take (n - 1 - pad) (drop 1 payload), length-drop 1 payload), omega (arith, length-take (n - 1 - pad) (drop 1 payload), length-drop 1 payload))) in
    let bare = unless_short fixed n (nat_lt n fixed) FrameSizeError (Ok payload) (λ e. (not_below n fixed e, omega arith)) in
    let padded = unless_short fixed n (nat_lt n (fixed + 1)) FrameSizeError _ (λ _. inner) in
    either_short fixed n (has flags padded_flag) _ _ padded bare

low_fits : (place : ℕ) (bytes : List ℕ) → low_31_at place bytes < 2 ^ 31
low_fits place bytes = omega arith

-- a frame of a stream
on_stream : (size : ℕ) (head : Head) (frame : Frame) → NumbersFit frame → length (payload_of frame) ≤ size → FitIfRead size (unless (head.stream == 0) ProtocolError (Ok frame))
on_stream size head frame fits short = unless_fits size (head.stream == 0) ProtocolError (Ok frame) (λ _. (fits, short))

-- a frame of the connection
on_connection : (size : ℕ) (head : Head) (frame : Frame) → NumbersFit frame → length (payload_of frame) ≤ size → FitIfRead size (unless (not (head.stream == 0)) ProtocolError (Ok frame))
on_connection size head frame fits short = unless_fits size (not (head.stream == 0)) ProtocolError (Ok frame) (λ _. (fits, short))

data_fits : (head : Head) (payload : List ℕ) → head.stream < 2 ^ 31 → FitIfRead (length payload) (data_at head payload)
unfolding data_at
data_fits head payload small =
    let frame = λ (body : List ℕ). frames.Data head.stream (has head.flags end_stream_flag) body in
    bind_fits 0 (length payload) (unpadded 0 head.flags payload) (λ body. unless (head.stream == 0) ProtocolError (Ok (frame body))) (unpadded_short 0 head.flags payload) (λ body le short. on_stream (length payload) head (frame body) small short)

headers_fits : (head : Head) (payload : List ℕ) → head.stream < 2 ^ 31 → FitIfRead (length payload) (headers_at head payload)
unfolding headers_at
headers_fits head payload small =
    let with = λ (body : List ℕ). frames.Headers head.stream (has head.flags end_stream_flag) (has head.flags end_headers_flag) (Some (priority_at body)) (drop 5 body) in
    let bare = λ (body : List ℕ). frames.Headers head.stream (has head.flags end_stream_flag) (has head.flags end_headers_flag) None body in
    let one = bind_fits 5 (length payload) (unpadded 5 head.flags payload) (λ body. unless (head.stream == 0) ProtocolError (Ok (with body))) (unpadded_short 5 head.flags payload) (λ body le short. on_stream (length payload) head (with body) (small, low_fits 0 body) (omega (arith, length-drop 5 body))) in
    let other = bind_fits 0 (length payload) (unpadded 0 head.flags payload) (λ body. unless (head.stream == 0) ProtocolError (Ok (bare body))) (unpadded_short 0 head.flags payload) (λ body le short. on_stream (length payload) head (bare body) (small, tt) short) in
    either_fits (length payload) (has head.flags priority_flag) _ _ one (λ _. other)

priority_frame_fits : (head : Head) (payload : List ℕ) → head.stream < 2 ^ 31 → FitIfRead (length payload) (priority_frame_at head payload)
unfolding priority_frame_at
priority_frame_fits head payload small =
    unless_fits (length payload) (not (length payload == 5)) FrameSizeError _ (λ e. on_stream (length payload) head (frames.Priority head.stream (priority_at payload)) (small, low_fits 0 payload) (omega (arith, same_number (length payload) 5 e)))

rst_stream_fits : (head : Head) (payload : List ℕ) → head.stream < 2 ^ 31 → FitIfRead (length payload) (rst_stream_at head payload)
unfolding rst_stream_at
rst_stream_fits head payload small =
    unless_fits (length payload) (not (length payload == 4)) FrameSizeError _ (λ e. on_stream (length payload) head (frames.RstStream head.stream (number_at 0 payload)) small (omega (arith, same_number (length payload) 4 e)))

settings_count : (n : ℕ) (bytes : List ℕ) → length (settings_in n bytes) ≡ n
unfolding settings_in
settings_count zero bytes = refl
settings_count (suc more) bytes = ap (λ k. suc k) (settings_count more (drop 6 bytes))

checked_fits : (size : ℕ) (ack : Bool) (settings : List Setting) → 6 * length settings ≤ size → FitIfRead size (checked settings >>= λ settings. Ok (frames.Settings ack settings))
unfolding checked
checked_fits size ack settings short =
    elim (list_any breaks_protocol settings) as (λ p. FitIfRead size (unless p ProtocolError (unless (list_any breaks_flow_control settings) FlowControlError (Ok settings)) >>= λ settings. Ok (frames.Settings ack settings))) [
      | true ↦ tt
      | false ↦ elim (list_any breaks_flow_control settings) as (λ w. FitIfRead size (unless w FlowControlError (Ok settings) >>= λ settings. Ok (frames.Settings ack settings))) [
        | true ↦ tt
        | false ↦ (tt, omega (arith, settings_length settings))
      ]
    ]

settings_fits : (head : Head) (payload : List ℕ) → FitIfRead (length payload) (settings_at head payload)
unfolding settings_at
settings_fits head payload =
    let few : 6 * length (settings_in (length payload / 6) payload) ≤ length payload = omega (arith, settings_count (length payload / 6) payload) in
    let read = checked_fits (length payload) (has head.flags ack_flag) (settings_in (length payload / 6) payload) few in
    unless_fits (length payload) (not (length payload % 6 == 0) || (has head.flags ack_flag && not (length payload == 0))) FrameSizeError _ (λ _. unless_fits (length payload) (not (head.stream == 0)) ProtocolError _ (λ _. read))

push_promise_fits : (head : Head) (payload : List ℕ) → head.stream < 2 ^ 31 → FitIfRead (length payload) (push_promise_at head payload)
unfolding push_promise_at
push_promise_fits head payload small =
    let frame = λ (body : List ℕ). frames.PushPromise head.stream (has head.flags end_headers_flag) (low_31_at 0 body) (drop 4 body) in
    bind_fits 4 (length payload) (unpadded 4 head.flags payload) (λ body. unless (head.stream == 0) ProtocolError (Ok (frame body))) (unpadded_short 4 head.flags payload) (λ body le short. on_stream (length payload) head (frame body) (small, low_fits 0 body) (omega (arith, length-drop 4 body)))

ping_fits : (head : Head) (payload : List ℕ) → FitIfRead (length payload) (ping_at head payload)
unfolding ping_at
ping_fits head payload =
    unless_fits (length payload) (not (length payload == 8)) FrameSizeError _ (λ e. on_connection (length payload) head (frames.Ping (has head.flags ack_flag) (from_be_bytes w64 payload)) tt (omega (arith, same_number (length payload) 8 e)))

goaway_fits : (head : Head) (payload : List ℕ) → FitIfRead (length payload) (goaway_at head payload)
unfolding goaway_at
goaway_fits head payload =
    unless_fits (length payload) (nat_lt (length payload) 8) FrameSizeError _ (λ e. on_connection (length payload) head (frames.GoAway (low_31_at 0 payload) (number_at 4 payload) (drop 8 payload)) (low_fits 0 payload) (omega (arith, not_below (length payload) 8 e, length-drop 8 payload)))

window_update_fits : (head : Head) (payload : List ℕ) → head.stream < 2 ^ 31 → FitIfRead (length payload) (window_update_at head payload)
unfolding window_update_at
window_update_fits head payload small =
    unless_fits (length payload) (not (length payload == 4)) FrameSizeError _ (λ e. unless_fits (length payload) (low_31_at 0 payload == 0) ProtocolError (Ok (frames.WindowUpdate head.stream (low_31_at 0 payload))) (λ _. ((small, low_fits 0 payload), omega (arith, same_number (length payload) 4 e))))

continuation_fits : (head : Head) (payload : List ℕ) → head.stream < 2 ^ 31 → FitIfRead (length payload) (continuation_at head payload)
unfolding continuation_at
continuation_fits head payload small = on_stream (length payload) head (frames.Continuation head.stream (has head.flags end_headers_flag) payload) small (omega arith)

is_other : (n k : ℕ) → (n == k) ≡ false → n ≢ k
is_other n k e same = absurd (grind (arith, nat_tests))

pub frame_fits : (head : Head) (payload : List ℕ) → head.stream < 2 ^ 31 → FitIfRead (length payload) (frame_at head payload)
unfolding frame_at
frame_fits head payload small =
    let k = head.kind in
    either_fits (length payload) (k == 0) (data_at head payload) _ (data_fits head payload small) (λ n0.
    either_fits (length payload) (k == 1) (headers_at head payload) _ (headers_fits head payload small) (λ n1.
    either_fits (length payload) (k == 2) (priority_frame_at head payload) _ (priority_frame_fits head payload small) (λ n2.
    either_fits (length payload) (k == 3) (rst_stream_at head payload) _ (rst_stream_fits head payload small) (λ n3.
    either_fits (length payload) (k == 4) (settings_at head payload) _ (settings_fits head payload) (λ n4.
    either_fits (length payload) (k == 5) (push_promise_at head payload) _ (push_promise_fits head payload small) (λ n5.
    either_fits (length payload) (k == 6) (ping_at head payload) _ (ping_fits head payload) (λ n6.
    either_fits (length payload) (k == 7) (goaway_at head payload) _ (goaway_fits head payload) (λ n7.
    either_fits (length payload) (k == 8) (window_update_at head payload) _ (window_update_fits head payload small) (λ n8.
    either_fits (length payload) (k == 9) (continuation_at head payload) (Ok (unknown_at head payload)) (continuation_fits head payload small) (λ n9.
    let above : 10 ≤ head.kind = omega (
      arith,
      is_other head.kind 0 n0,
      is_other head.kind 1 n1,
      is_other head.kind 2 n2,
      is_other head.kind 3 n3,
      is_other head.kind 4 n4,
      is_other head.kind 5 n5,
      is_other head.kind 6 n6,
      is_other head.kind 7 n7,
      is_other head.kind 8 n8,
      is_other head.kind 9 n9,
    ) in
    ((above, small), omega arith)))))))))))

pub fits_from : (head : Head) (payload : List ℕ) (result : Result Frame (Refusal H2Code)) → Gives (λ x. x) result (frame_at head payload) → head.stream < 2 ^ 31 → IfOk result NumbersFit
fits_from head payload (Ok frame) e small = (rw e at (frame_fits head payload small)).0
fits_from head payload (Err error) e small = tt

pub short_from : (head : Head) (payload : List ℕ) (result : Result Frame (Refusal H2Code)) → Gives (λ x. x) result (frame_at head payload) → head.stream < 2 ^ 31 → IfOk result (λ frame. length (payload_of frame) ≤ length payload)
short_from head payload (Ok frame) e small = (rw e at (frame_fits head payload small)).1
short_from head payload (Err error) e small = tt
