-- What a connection has to send grows only by what comes and by what it is given to send.
use Rattle.std.proofs.Common.{◌≡◌, ℕ, ◌+◌, ◌*◌, ◌≤◌, Bool, true, false, List, [], ◌∷◌, ◌++◌, length, take, drop, Option, Some, None, Result, Ok, Err, refl, ap, ◌∙◌, arith}
use Rattle.std.specs.Prelude.{nat_eq, nat_lt, nat_le, ◌==◌, ◌||◌, if◌then◌else◌, sum_by}
use Rattle.std.specs.List.{starts_with}
use Rattle.std.proofs.lemmas.Bool.{cond_both, ltb-true, ltb-false, or_parts}
use Rattle.std.proofs.lemmas.List.{length-append}
use Rattle.std.proofs.lemmas.List.Sums.{sum_by-cons, sum_by_push}
use Rattle.h2_frames.specs.declared.codes.H2Code.{H2Code}
use Rattle.h2_frames.specs.declared.codes.H2Code.TheVariants as codes
use Rattle.h2_frames.specs.declared.frame.Frame.{Frame}
use Rattle.h2_frames.specs.declared.frame.Frame.TheVariants as frames
use Rattle.h2_frames.specs.declared.frame.Setting.{Setting}
use Rattle.h2_frames.specs.declared.head.Head.{Head}
use Rattle.h2_frames.specs.Codes.{code_number, header_table_size, initial_window_size, max_frame_size}
use Rattle.h2_frames.specs.Layout.{payload_of, spelling}
use Rattle.list_types.specs.Results.{unless}
use Rattle.h2_frames.specs.Reading.{head_at, frame_at}
use Rattle.hpack_tables.specs.declared.header.Header.{Header}
use Rattle.hpack_tables.specs.Tables.{Table}
use Rattle.hpack_tables.specs.Blocks.{block_at}
use Rattle.hpack_tables.specs.Writing.{block_bytes}
use Rattle.h2_streams.specs.declared.stream.Stream.{Stream}
use Rattle.h2_streams.specs.declared.stream.Waiting.{Waiting}
use Rattle.h2_streams.specs.declared.stream.Waiting.TheVariants as waitings
use Rattle.h2_streams.specs.Streams.{max_window, opened, is_too_wide, granted, received, ended_by_peer, reset, queued, stream_at, changed, open_count, swept, any_too_wide}
use Rattle.h2_streams.specs.Sending.{Sending, with_frames, flushed}
use Rattle.h2_conn.specs.declared.state.State.{State}
use Rattle.h2_conn.specs.declared.state.HeaderBlock.{HeaderBlock}
use Rattle.h2_conn.specs.declared.event.Given.{Given}
use Rattle.h2_conn.specs.declared.event.H2Event.TheVariants as events
use Rattle.h2_conn.specs.declared.breach.Breach.{Breach}
use Rattle.h2_conn.specs.declared.phase.Phase.{Phase}
use Rattle.h2_conn.specs.declared.phase.Phase.TheVariants as phases
use Rattle.h2_conn.specs.Frames.{answering, flushing, nothing, given, is_misplaced, judged, window_given, data_of, decoded, headers_of, block_taken, fragment_taken, skipped_before, is_crowded, headers_taken, continuation_taken, reset_taken, setting_taken, settings_in_order, settings_taken, connection_granted, stream_granted, ping_taken, acted, frame_taken}
use Rattle.h2_conn.specs.Bytes.{preface, with_goaway, settled_by, last_stream, waiting_for_more, preface_taken, frame_bytes_taken, bytes_taken, carried, next, run, opening, without_output}
use Rattle.h2_conn.specs.Sends.{queued_on, sent}
use Rattle.h2_conn.specs.History.{Turn, step, history}
use Rattle.h2_conn.specs.History as turns
use Rattle.h2_conn.specs.Bounds.{waiting_size, load, to_send, sent_for, OutputBounded}
use Rattle.h2_conn.proofs.Outcomes.{AllOf, of_unless, of_if, of_behind, of_after}
use Rattle.h2_conn.proofs.StreamBounds.{AreFewer, fewer_changed, fewer_swept, load_queued}
use Rattle.h2_conn.proofs.Bounded.{changed_swept}
use Rattle.h2_conn.proofs.UnreadKept.{Keeps, frame_keeps}
use Rattle.h2_conn.proofs.OutputSizes.{IsSane, Adds, frame_adds, flushed_held}

-- ---- frames

-- what is to be sent, and twelve times what waits, is at most so much
record Owes (most : ℕ) (conn : State) : Type 0 where
  pub sane : IsSane conn.outgoing
  pub held : length conn.outgoing.output + 12 * sum_by load conn.streams ≤ most

abbrev OwesAfter : ℕ → State × Given → Type 0
OwesAfter most x = Owes most x.0

abbrev Stays : ℕ → Result (State × Given) H2Code → Type 0
Stays most taken = AllOf (OwesAfter most) taken

more_owed : (most more : ℕ) (old new : State) → Owes most old → Adds more old.outgoing new.outgoing → sum_by load new.streams ≤ sum_by load old.streams → Owes (most + more) new
more_owed most more old new o a le = record { sane = a.sane; held = omega (arith, o.held, a.grown, le) }

less_owed : (less most : ℕ) (conn : State) → less ≤ most → Owes less conn → Owes most conn
less_owed less most conn le o = record { sane = o.sane; held = omega (arith, le, o.held) }

flush_owes : (most : ℕ) (conn : State) → Owes most conn → Owes most (flushing conn)
flush_owes most conn o =
    let out = flushed_held conn.streams conn.outgoing o.sane in
    let fewer = fewer_swept (flushed conn.outgoing conn.streams).1 in
    record { sane = out.sane; held = omega (arith, o.held, out.held, fewer.waiting) }

answer_owes : (most : ℕ) (frame : Frame) (conn : State) → length (payload_of frame) ≤ 8 → Owes most conn → Owes (most + 17) (answering (frame ∷ []) conn)
answer_owes most frame conn short o =
    let adds = frame_adds frame conn.outgoing o.sane in
    record { sane = adds.sane; held = omega (arith, o.held, adds.grown, short) }

-- the same streams but for these, and nothing more is to be sent
other_streams : (most : ℕ) (conn : State) (streams : List Stream) → sum_by load streams ≤ sum_by load conn.streams → Owes most conn → Owes most (record conn { streams = streams })
other_streams most conn streams le o = record { sane = o.sane; held = omega (arith, le, o.held) }

-- ---- DATA

window_adds : (count stream : ℕ) (has_ended : Bool) (sending : Sending) → IsSane sending → Adds 26 sending (window_given count stream has_ended sending)
unfolding window_given
window_adds count stream has_ended sending sane =
    let first = frames.WindowUpdate 0 count in
    let second = frames.WindowUpdate stream count in
    let one = frame_adds first sending sane in
    let two = frame_adds second (with_frames (first ∷ []) sending) one.sane in
    let alone : Sending = with_frames (first ∷ []) sending in
    let both : Sending = with_frames (second ∷ []) alone in
    let none : Adds 26 sending sending = record { sane = sane; grown = omega arith } in
    let some : Adds 26 sending (if has_ended then alone else both) = cond_both has_ended alone both (λ (x : Sending). Adds 26 sending x)
    (λ e. record { sane = one.sane; grown = omega (arith, one.grown) }) (λ e. record { sane = two.sane; grown = omega (arith, one.grown, two.grown) }) in
    cond_both (count == 0) sending (if has_ended then alone else both) (λ (x : Sending). Adds 26 sending x) (λ e. none) (λ e. some)

data_stays : (most count number : ℕ) (end_stream : Bool) (bytes : List ℕ) (conn : State) (found : Option Stream) → Owes most conn → Stays (most + 26) (data_of count number end_stream bytes conn found)
unfolding data_of
data_stays most count number end_stream bytes conn None o = tt
data_stays most count number end_stream bytes conn (Some stream) o =
    let after : State = record conn { streams = swept (changed number (received count end_stream) conn.streams); outgoing = window_given count number (end_stream || stream.ended) conn.outgoing } in
    let x : State × Given = (after, given stream.ended (events.Data number bytes) end_stream number) in
    let fewer : AreFewer 0 conn.streams after.streams = changed_swept (received count end_stream) number (λ s. omega arith) (λ s. omega arith) conn.streams in
    let s : Owes (most + 26) after = more_owed most 26 conn after o (window_adds count number (end_stream || stream.ended) conn.outgoing o.sane) (omega (arith, fewer.waiting)) in
    of_unless (OwesAfter (most + 26)) stream.peer_ended codes.StreamClosed (unless (nat_lt stream.receive_window count) codes.FlowControlError (Ok x))
    (λ e. of_unless (OwesAfter (most + 26)) (nat_lt stream.receive_window count) codes.FlowControlError (Ok x) (λ f. s))

-- ---- HEADERS

headers_owe : (most : ℕ) (block : HeaderBlock) (headers : List Header) (conn : State) (found : Option Stream) → Owes most conn → Owes (most + 26) (headers_of block headers conn found).0
unfolding headers_of
headers_owe most block headers conn (Some stream) o =
    let streams = swept (changed block.stream (ended_by_peer block.end_stream) conn.streams) in
    let fewer : AreFewer 0 conn.streams streams = changed_swept (ended_by_peer block.end_stream) block.stream (λ s. omega arith) (λ s. omega arith) conn.streams in
    less_owed most (most + 26) (record conn { streams = streams }) (omega arith) (other_streams most conn streams (omega (arith, fewer.waiting)) o)
headers_owe most block headers conn None o =
    let closed : Stream = opened block.stream block.end_stream true in
    let fresh : Stream = opened block.stream block.end_stream false in
    let here : State = record conn { streams = swept (conn.streams ++ closed ∷ []) } in
    let refused : State = answering (frames.RstStream block.stream 7 ∷ []) here in
    let begun : State = record conn { streams = conn.streams ++ fresh ∷ [] } in
    let fewer = fewer_swept (conn.streams ++ closed ∷ []) in
    let over : Owes (most + 26) refused = less_owed (most + 17) (most + 26) refused (omega arith)
    (answer_owes most (frames.RstStream block.stream 7) here (omega arith) (other_streams most conn here.streams (omega (arith, fewer.waiting, sum_by_push load conn.streams closed)) o)) in
    let within : Owes (most + 26) begun = less_owed most (most + 26) begun (omega arith) (other_streams most conn begun.streams (omega (arith, sum_by_push load conn.streams fresh)) o) in
    cond_both (nat_le 100 (open_count conn.streams)) (refused, nothing) (begun, given false (events.Headers block.stream headers) block.end_stream block.stream)
    (λ (x : State × Given). Owes (most + 26) x.0) (λ e. over) (λ e. within)

block_stays : (most : ℕ) (block : HeaderBlock) (conn : State) → Owes most conn → Stays (most + 26) (block_taken block conn)
unfolding block_taken
block_stays most block conn o =
    let f : List Header × Table → Result (State × Given) H2Code = λ read. Ok (headers_of block read.0 (record conn { block = None; decoder = read.1 }) (stream_at block.stream conn.streams)) in
    of_behind (OwesAfter (most + 26)) (decoded (block_at conn.decoder block.fragment)) f (λ read e.
    headers_owe most block read.0 (record conn { block = None; decoder = read.1 }) (stream_at block.stream conn.streams) (record { sane = o.sane; held = o.held }))

fragment_stays : (most : ℕ) (end_headers : Bool) (block : HeaderBlock) (conn : State) → Owes most conn → Stays (most + 26) (fragment_taken end_headers block conn)
unfolding fragment_taken
fragment_stays most end_headers block conn o =
    let waits : Result (State × Given) H2Code = Ok (record conn { block = Some block }, nothing) in
    let kept : Stays (most + 26) waits = record { sane = o.sane; held = omega (arith, o.held) } in
    of_unless (OwesAfter (most + 26)) (nat_lt 262144 (length block.fragment)) codes.EnhanceYourCalm (if end_headers then block_taken block conn else waits)
    (λ e. of_if (OwesAfter (most + 26)) end_headers (block_taken block conn) waits (block_stays most block conn o) kept)

headers_stay : (most : ℕ) (end_headers : Bool) (block : HeaderBlock) (conn : State) (found : Option Stream) → Owes most conn → Stays (most + 26) (headers_taken end_headers block conn found)
unfolding headers_taken
headers_stay most end_headers block conn (Some stream) o = of_unless (OwesAfter (most + 26)) stream.peer_ended codes.StreamClosed (fragment_taken end_headers block conn) (λ e. fragment_stays most end_headers block conn o)
headers_stay most end_headers block conn None o =
    let begun : State = record conn { greatest = block.stream; skipped = skipped_before block.stream conn } in
    of_unless (OwesAfter (most + 26)) (nat_le block.stream conn.greatest) codes.StreamClosed (unless (is_crowded conn) codes.EnhanceYourCalm (fragment_taken end_headers block begun))
    (λ e. of_unless (OwesAfter (most + 26)) (is_crowded conn) codes.EnhanceYourCalm (fragment_taken end_headers block begun) (λ f. fragment_stays most end_headers block begun (record { sane = o.sane; held = o.held })))

continuation_stays : (most : ℕ) (end_headers : Bool) (fragment : List ℕ) (conn : State) (found : Option HeaderBlock) → Owes most conn → Stays (most + 26) (continuation_taken end_headers fragment conn found)
unfolding continuation_taken
continuation_stays most end_headers fragment conn None o = tt
continuation_stays most end_headers fragment conn (Some block) o =
    fragment_stays most end_headers (record block { fragment = block.fragment ++ fragment }) (record conn { block = None }) (record { sane = o.sane; held = o.held })

reset_owes : (most number : ℕ) (conn : State) (found : Option Stream) → Owes most conn → Owes (most + 26) (reset_taken number conn found).0
unfolding reset_taken
reset_owes most number conn None o = less_owed most (most + 26) conn (omega arith) o
reset_owes most number conn (Some stream) o =
    let streams = swept (changed number reset conn.streams) in
    let fewer : AreFewer 0 conn.streams streams = changed_swept reset number (λ s. omega arith) (λ s. omega arith) conn.streams in
    less_owed most (most + 26) (record conn { streams = streams }) (omega arith) (other_streams most conn streams (omega (arith, fewer.waiting)) o)

-- ---- SETTINGS

-- other settings of the peer
other_settings : (most : ℕ) (conn : State) (outgoing : Sending) → outgoing.output ≡ conn.outgoing.output → IsSane outgoing → Owes most conn → Owes most (record conn { outgoing = outgoing })
other_settings most conn outgoing same sane o = record { sane = sane; held = rw same o.held }

setting_stays : (most : ℕ) (setting : Setting) (conn : State) → Owes most conn → AllOf (Owes most) (setting_taken setting conn)
unfolding setting_taken
setting_stays most setting conn o =
    let smaller : Sending = record conn.outgoing { table_size = setting.value; update_due = true } in
    let table : State = record conn { outgoing = if nat_lt setting.value conn.outgoing.table_size then smaller else conn.outgoing } in
    let window : State = record conn { outgoing = record conn.outgoing { initial_window = setting.value } } in
    let frame : State = record conn { outgoing = record conn.outgoing { max_frame = setting.value } } in
    let windows : Result State H2Code = unless (any_too_wide setting.value conn.streams) codes.FlowControlError (Ok window) in
    let framed : Result State H2Code = unless (nat_lt setting.value 16384 || nat_lt 16777215 setting.value) codes.ProtocolError (Ok frame) in
    let last : Result State H2Code = if setting.identifier == max_frame_size then framed else Ok conn in
    let smalls : Owes most table = cond_both (nat_lt setting.value conn.outgoing.table_size) smaller conn.outgoing (λ (x : Sending). Owes most (record conn { outgoing = x }))
    (λ e. other_settings most conn smaller refl (record { wide = o.sane.wide; small = omega (arith, ltb-true setting.value conn.outgoing.table_size e, o.sane.small) }) o) (λ e. record { sane = o.sane; held = o.held }) in
    let wides : AllOf (Owes most) windows = of_unless (Owes most) (any_too_wide setting.value conn.streams) codes.FlowControlError (Ok window)
    (λ e. other_settings most conn window.outgoing refl (record { wide = o.sane.wide; small = o.sane.small }) o) in
    let longs : AllOf (Owes most) framed = of_unless (Owes most) (nat_lt setting.value 16384 || nat_lt 16777215 setting.value) codes.ProtocolError (Ok frame)
    (λ e. let parts = or_parts (nat_lt setting.value 16384) (nat_lt 16777215 setting.value) e in
    other_settings most conn frame.outgoing refl (record { wide = ltb-false setting.value 16384 parts.0; small = o.sane.small }) o) in
    of_if (Owes most) (setting.identifier == header_table_size) (Ok table) (if setting.identifier == initial_window_size then windows else last) smalls
    (of_if (Owes most) (setting.identifier == initial_window_size) windows last wides (of_if (Owes most) (setting.identifier == max_frame_size) framed (Ok conn) longs o))

in_order_stays : (most : ℕ) (settings : List Setting) (conn : State) → Owes most conn → AllOf (Owes most) (settings_in_order settings conn)
unfolding settings_in_order
in_order_stays most [] conn o = o
in_order_stays most (setting ∷ settings) conn o =
    of_after (Owes most) (Owes most) (setting_taken setting conn) (λ after. settings_in_order settings after) (setting_stays most setting conn o) (λ after a. in_order_stays most settings after a)

settings_stay : (most : ℕ) (ack : Bool) (settings : List Setting) (conn : State) → Owes most conn → Stays (most + 26) (settings_taken ack settings conn)
unfolding settings_taken
settings_stay most true settings conn o = record { sane = o.sane; held = omega (arith, o.held) }
settings_stay most false settings conn o =
    let settled : State = record conn { settled = true } in
    let f : State → Result (State × Given) H2Code = λ after. Ok (flushing (answering (frames.Settings true [] ∷ []) after), nothing) in
    of_after (Owes most) (OwesAfter (most + 26)) (settings_in_order settings settled) f (in_order_stays most settings settled (record { sane = o.sane; held = o.held }))
    (λ after a. less_owed (most + 17) (most + 26) (flushing (answering (frames.Settings true [] ∷ []) after)) (omega arith)
    (flush_owes (most + 17) (answering (frames.Settings true [] ∷ []) after) (answer_owes most (frames.Settings true []) after (omega arith) a)))

-- ---- WINDOW_UPDATE and PING

connection_stays : (most count : ℕ) (conn : State) → Owes most conn → Stays (most + 26) (connection_granted count conn)
unfolding connection_granted
connection_stays most count conn o =
    let wider : State = record conn { outgoing = record conn.outgoing { window = conn.outgoing.window + count } } in
    of_unless (OwesAfter (most + 26)) (nat_lt max_window (conn.outgoing.window + count)) codes.FlowControlError (Ok (flushing wider, nothing))
    (λ e. less_owed most (most + 26) (flushing wider) (omega arith) (flush_owes most wider (other_settings most conn wider.outgoing refl (record { wide = o.sane.wide; small = o.sane.small }) o)))

stream_stays : (most number count : ℕ) (conn : State) (found : Option Stream) → Owes most conn → Stays (most + 26) (stream_granted number count conn found)
unfolding stream_granted
stream_stays most number count conn None o = less_owed most (most + 26) conn (omega arith) o
stream_stays most number count conn (Some stream) o =
    let wider : State = record conn { streams = changed number (granted count) conn.streams } in
    let fewer = fewer_changed (granted count) 0 number (λ s. omega arith) (λ s. omega arith) conn.streams in
    let s : Owes (most + 26) (flushing wider) = less_owed most (most + 26) (flushing wider) (omega arith) (flush_owes most wider (other_streams most conn wider.streams (omega (arith, fewer.waiting)) o)) in
    let wide = is_too_wide conn.outgoing.initial_window (granted count stream) in
    of_if (OwesAfter (most + 26)) stream.ended (Ok (conn, nothing)) (unless wide codes.FlowControlError (Ok (flushing wider, nothing))) (less_owed most (most + 26) conn (omega arith) o)
    (of_unless (OwesAfter (most + 26)) wide codes.FlowControlError (Ok (flushing wider, nothing)) (λ e. s))

ping_owes : (most : ℕ) (ack : Bool) (opaque_data : ℕ) (conn : State) → Owes most conn → Owes (most + 26) (ping_taken ack opaque_data conn)
ping_owes most true opaque_data conn o = less_owed most (most + 26) conn (omega arith) o
ping_owes most false opaque_data conn o =
    less_owed (most + 17) (most + 26) (answering (frames.Ping true opaque_data ∷ []) conn) (omega arith) (answer_owes most (frames.Ping true opaque_data) conn (omega arith) o)

-- ---- a frame

acted_stays : (most count : ℕ) (frame : Frame) (conn : State) → Owes most conn → Stays (most + 26) (acted count frame conn)
unfolding acted
acted_stays most count (frames.Data stream end_stream bytes) conn o = data_stays most count stream end_stream bytes conn (stream_at stream conn.streams) o
acted_stays most count (frames.Headers stream end_stream end_headers priority fragment) conn o = headers_stay most end_headers (record { stream = stream; end_stream = end_stream; fragment = fragment }) conn (stream_at stream conn.streams) o
acted_stays most count (frames.Priority stream priority) conn o = less_owed most (most + 26) conn (omega arith) o
acted_stays most count (frames.RstStream stream error_code) conn o = reset_owes most stream conn (stream_at stream conn.streams) o
acted_stays most count (frames.Settings ack settings) conn o = settings_stay most ack settings conn o
acted_stays most count (frames.PushPromise stream end_headers promised_stream fragment) conn o = tt
acted_stays most count (frames.Ping ack opaque_data) conn o = ping_owes most ack opaque_data conn o
acted_stays most count (frames.GoAway last_stream error_code debug_data) conn o = less_owed most (most + 26) conn (omega arith) o
acted_stays most count (frames.WindowUpdate stream increment) conn o =
    of_if (OwesAfter (most + 26)) (stream == 0) (connection_granted increment conn) (stream_granted stream increment conn (stream_at stream conn.streams)) (connection_stays most increment conn o) (stream_stays most stream increment conn (stream_at stream conn.streams) o)
acted_stays most count (frames.Continuation stream end_headers fragment) conn o = continuation_stays most end_headers fragment conn conn.block o
acted_stays most count (frames.Unknown kind flags stream payload) conn o = less_owed most (most + 26) conn (omega arith) o

frame_stays : (most : ℕ) (head : Head) (payload : List ℕ) (conn : State) → Owes most conn → Stays (most + 26) (frame_taken head payload conn)
unfolding frame_taken
frame_stays most head payload conn o =
    of_behind (OwesAfter (most + 26)) (judged (is_misplaced head conn) (frame_at head payload)) (λ frame. acted head.length frame conn) (λ frame e. acted_stays most head.length frame conn o)

-- ---- bytes

-- the same, and thrice the bytes that wait for more
record OwesOpen (most : ℕ) (conn : State) : Type 0 where
  pub sane : IsSane conn.outgoing
  pub held : length conn.outgoing.output + 12 * sum_by load conn.streams + 3 * length conn.unread + 17 ≤ most

abbrev Settled : ℕ → Result (State × Given) Breach → Type 0
Settled most (Ok x) = OwesOpen most x.0
Settled most (Err breach) = Unit {0}

frame_whole : (base most last : ℕ) (conn : State) (taken : Result (State × Given) H2Code) → conn.unread ≡ [] → base + 26 + 17 ≤ most → Stays (base + 26) taken → Keeps conn taken → Settled most (settled_by last taken)
frame_whole base most last conn (Ok x) none le s k = record { sane = s.sane; held = omega (arith, s.held, le, ap length (k.unread ∙ none)) }
frame_whole base most last conn (Err code) none le s k = tt

frame_settled : (base : ℕ) (bytes : List ℕ) (conn : State) → Owes base conn → Settled (base + 3 * length bytes + 17) (frame_bytes_taken bytes conn)
unfolding frame_bytes_taken
frame_settled base bytes conn o =
    let head = head_at (take 9 bytes) in
    let payload = take head.length (drop 9 bytes) in
    let most = base + 3 * length bytes + 17 in
    let clear : State = record conn { unread = [] } in
    let waits : Settled most (waiting_for_more bytes conn) = record { sane = o.sane; held = omega (arith, o.held) } in
    let whole : Result (State × Given) Breach = settled_by (last_stream head conn) (frame_taken head payload clear) in
    let done : 9 ≤ length bytes → Settled most whole = λ nine. frame_whole base most (last_stream head conn) clear (frame_taken head payload clear) refl (omega (arith, nine))
    (frame_stays base head payload clear (record { sane = o.sane; held = o.held })) (frame_keeps head payload clear) in
    let third : Result (State × Given) Breach = if nat_lt (length bytes) (9 + head.length) then waiting_for_more bytes conn else whole in
    let second : Result (State × Given) Breach = if nat_lt 16384 head.length then Err (record { code = codes.FrameSizeError; last_stream = conn.greatest }) else third in
    cond_both (nat_lt (length bytes) 9) (waiting_for_more bytes conn) second (λ x. Settled most x)
    (λ e. waits)
    (λ e. cond_both (nat_lt 16384 head.length) (Err (record { code = codes.FrameSizeError; last_stream = conn.greatest })) third (λ x. Settled most x) (λ f. tt)
    (λ f. cond_both (nat_lt (length bytes) (9 + head.length)) (waiting_for_more bytes conn) whole (λ x. Settled most x) (λ g. waits) (λ g. done (ltb-false (length bytes) 9 e))))

preface_settled : (base : ℕ) (bytes : List ℕ) (conn : State) → Owes base conn → Settled (base + 3 * length bytes + 17) (preface_taken bytes conn)
unfolding preface_taken
preface_settled base bytes conn o =
    let most = base + 3 * length bytes + 17 in
    let whole : Result (State × Given) Breach = Ok (record conn { greeted = true; unread = [] }, record { event = None; end_of = None }) in
    let none : Settled most whole = record { sane = o.sane; held = omega (arith, o.held) } in
    let waits : Settled most (waiting_for_more bytes conn) = record { sane = o.sane; held = omega (arith, o.held) } in
    cond_both (starts_with nat_eq preface bytes) (if length bytes == 24 then whole else waiting_for_more bytes conn) (Err (record { code = codes.ProtocolError; last_stream = conn.greatest })) (λ x. Settled most x)
    (λ e. cond_both (length bytes == 24) whole (waiting_for_more bytes conn) (λ x. Settled most x) (λ f. none) (λ f. waits))
    (λ e. tt)

-- a connection that may have ended has at most so much to send
abbrev SanePhase : Phase → Type 0
SanePhase (phases.Open conn) = IsSane conn.outgoing
SanePhase (phases.Broken code output) = Unit {0}
SanePhase phases.OutOfMemory = Unit {0}

record Has (most : ℕ) (phase : Phase) : Type 0 where
  pub sane : SanePhase phase
  pub held : to_send phase ≤ most

goaway_long : (breach : Breach) (output : List ℕ) → length (with_goaway breach output) ≡ length output + 17
goaway_long breach output = length-append output (spelling (frames.GoAway breach.last_stream (code_number breach.code) []))

carried_has : (most : ℕ) (output : List ℕ) (taken : Result (State × Given) Breach) → length output + 17 ≤ most → Settled most taken → Has most (carried output taken).0
carried_has most output (Ok x) le s = record { sane = s.sane; held = s.held }
carried_has most output (Err breach) le s = record { sane = tt; held = omega (arith, le, goaway_long breach output) }

weaker : (less most : ℕ) (phase : Phase) → less ≤ most → Has less phase → Has most phase
weaker less most phase le h = record { sane = h.sane; held = omega (arith, le, h.held) }

next_has : (most : ℕ) (phase : Phase) (byte : ℕ) → Has most phase → Has (most + 3) (next phase byte).0
next_has most (phases.Open conn) byte h =
    let bytes = conn.unread ++ byte ∷ [] in
    let base = length conn.outgoing.output + 12 * sum_by load conn.streams in
    let o : Owes base conn = record { sane = h.sane; held = omega arith } in
    let all = base + 3 * length bytes + 17 in
    let settled : Settled all (bytes_taken bytes conn) = cond_both conn.greeted (frame_bytes_taken bytes conn) (preface_taken bytes conn) (λ x. Settled all x) (λ e. frame_settled base bytes conn o) (λ e. preface_settled base bytes conn o) in
    weaker all (most + 3) (carried conn.outgoing.output (bytes_taken bytes conn)).0 (omega (arith, h.held, length-append conn.unread (byte ∷ [])))
    (carried_has all conn.outgoing.output (bytes_taken bytes conn) (omega arith) settled)
next_has most (phases.Broken code output) byte h = record { sane = tt; held = omega (arith, h.held) }
next_has most phases.OutOfMemory byte h = record { sane = tt; held = omega arith }

run_has : (bytes : List ℕ) (most : ℕ) (phase : Phase) → Has most phase → Has (most + 3 * length bytes) (run phase bytes).0
unfolding run
run_has [] most phase h = weaker most (most + 3 * 0) phase (omega arith) h
run_has (byte ∷ bytes) most phase h =
    weaker (most + 3 + 3 * length bytes) (most + 3 * length (byte ∷ bytes)) (run (next phase byte).0 bytes).0 (omega arith) (run_has bytes (most + 3) (next phase byte).0 (next_has most phase byte h))

-- ---- what is sent

queued_owes : (most number : ℕ) (waiting : Waiting) (end_stream : Bool) (conn : State) (found : Option Stream) → Owes most conn → Owes (most + 12 * waiting_size waiting) (queued_on found number waiting end_stream conn)
queued_owes most number waiting end_stream conn None o = less_owed most (most + 12 * waiting_size waiting) conn (omega arith) o
queued_owes most number waiting end_stream conn (Some stream) o =
    let all = most + 12 * waiting_size waiting in
    let longer : State = record conn { streams = changed number (queued waiting end_stream) conn.streams } in
    let more = fewer_changed (queued waiting end_stream) (waiting_size waiting) number (λ s. omega arith) (λ s. load_queued waiting end_stream s) conn.streams in
    let owes : Owes all longer = record { sane = o.sane; held = omega (arith, o.held, more.waiting) } in
    cond_both stream.closing conn (flushing longer) (λ (x : State). Owes all x) (λ e. less_owed most all conn (omega arith) o) (λ e. flush_owes all longer owes)

queued_unread : (number : ℕ) (waiting : Waiting) (end_stream : Bool) (conn : State) (found : Option Stream) → (queued_on found number waiting end_stream conn).unread ≡ conn.unread
queued_unread number waiting end_stream conn None = refl
queued_unread number waiting end_stream conn (Some stream) =
    cond_both stream.closing conn (flushing (record conn { streams = changed number (queued waiting end_stream) conn.streams })) (λ (x : State). x.unread ≡ conn.unread) (λ e. refl) (λ e. refl)

sent_has : (most number : ℕ) (waiting : Waiting) (end_stream : Bool) (phase : Phase) → Has most phase → Has (most + 12 * waiting_size waiting) (sent number waiting end_stream phase)
sent_has most number waiting end_stream (phases.Open conn) h =
    let base = length conn.outgoing.output + 12 * sum_by load conn.streams in
    let o : Owes base conn = record { sane = h.sane; held = omega arith } in
    let after = queued_owes base number waiting end_stream conn (stream_at number conn.streams) o in
    record { sane = after.sane; held = omega (arith, after.held, h.held, ap length (queued_unread number waiting end_stream conn (stream_at number conn.streams))) }
sent_has most number waiting end_stream (phases.Broken code output) h = weaker most (most + 12 * waiting_size waiting) (phases.Broken code output) (omega arith) h
sent_has most number waiting end_stream phases.OutOfMemory h = record { sane = tt; held = omega arith }

taken_has : (most : ℕ) (phase : Phase) → Has most phase → Has (most + 12 * 0) (without_output phase)
taken_has most (phases.Open conn) h = record { sane = record { wide = h.sane.wide; small = h.sane.small }; held = omega (arith, h.held) }
taken_has most (phases.Broken code output) h = record { sane = tt; held = omega arith }
taken_has most phases.OutOfMemory h = record { sane = tt; held = omega arith }

-- ---- all that happens

step_has : (most : ℕ) (phase : Phase) (turn : Turn) → Has most phase → Has (most + sent_for turn) (step phase turn).0
step_has most phase (turns.Received bytes) h = run_has bytes most phase h
step_has most phase (turns.HeadersSent stream headers end_stream) h = sent_has most stream (waitings.Headers (block_bytes headers) end_stream) end_stream phase h
step_has most phase (turns.DataSent stream bytes) h = sent_has most stream (waitings.Data bytes) false phase h
step_has most phase turns.OutputTaken h = taken_has most phase h

history_has : (past : List Turn) (so_far total : ℕ) (phase : Phase) → so_far + sum_by sent_for past ≤ total → Has so_far phase → Has total (history phase past).0
unfolding history
history_has [] so_far total phase le h = weaker so_far total phase (omega (arith, le)) h
history_has (turn ∷ past) so_far total phase le h =
    history_has past (so_far + sent_for turn) total (step phase turn).0 (omega (arith, le, sum_by-cons sent_for turn past)) (step_has so_far phase turn h)

opening_has : Has (to_send opening) opening
opening_has = record { sane = record { wide = omega arith; small = omega arith }; held = omega arith }

pub output_bounded : OutputBounded
output_bounded past since =
    let there : Phase = (history opening past).0 in
    let reached = history_has past (to_send opening) (to_send opening + sum_by sent_for past) opening (omega arith) opening_has in
    (history_has since (to_send there) (to_send there + sum_by sent_for since) there (omega arith) (record { sane = reached.sane; held = omega arith })).held
