-- What a connection keeps has limits.
use Rattle.std.proofs.Common.{◌≡◌, ℕ, suc, ◌+◌, ◌-◌, ◌<◌, ◌≤◌, ◌⊎◌, Bool, true, false, List, [], ◌∷◌, ◌++◌, length, take, drop, length-take, Option, Some, None, Result, Ok, Err, refl, sym, ap, ◌∙◌, arith, inl, inr}
use Rattle.std.specs.Prelude.{nat_eq, nat_lt, nat_le, ◌==◌, ◌||◌, ◌&&◌, not, if◌then◌else◌, All, sum_by}
use Rattle.std.specs.List.{starts_with}
use Rattle.std.specs.Cmp.Lexicographic.{pointwise}
use Rattle.std.proofs.lemmas.Bool.{ltb-false, ltb-true, leb-false, eqb-true, or_parts, and_parts, not-false, and_right, cond_both}
use Rattle.std.proofs.lemmas.List.{length-append}
use Rattle.std.proofs.lemmas.List.Sums.{sum_by-cons, sum_by_push}
use Rattle.std.proofs.lemmas.List.Elements.{All-nil, All-push}
use Rattle.h2_frames.specs.declared.codes.H2Code.{H2Code}
use Rattle.h2_frames.specs.declared.codes.H2Code.TheVariants as codes
use Rattle.h2_frames.specs.declared.frame.Frame.{Frame}
use Rattle.h2_frames.specs.declared.frame.Frame.TheVariants as frames
use Rattle.h2_frames.specs.declared.frame.Setting.{Setting}
use Rattle.h2_frames.specs.declared.head.Head.{Head}
use Rattle.h2_frames.specs.Codes.{header_table_size, initial_window_size, max_frame_size, end_headers_flag}
use Rattle.list_types.specs.Results.{◌>>=◌, unless}
use Rattle.h2_frames.specs.Reading.{has, head_at, frame_at, continuation_at}
use Rattle.hpack_tables.specs.declared.fault.HpackFault.{HpackFault}
use Rattle.hpack_tables.specs.declared.fault.HpackFault.TheVariants as faults
use Rattle.hpack_tables.specs.declared.header.Header.{Header}
use Rattle.hpack_tables.specs.Tables.{Table}
use Rattle.hpack_tables.specs.Blocks.{block_at}
use Rattle.hpack_tables.specs.Writing.{block_bytes}
use Rattle.h2_streams.specs.declared.stream.Stream.{Stream}
use Rattle.h2_streams.specs.declared.stream.Waiting.{Waiting}
use Rattle.h2_streams.specs.declared.stream.Waiting.TheVariants as waitings
use Rattle.h2_streams.specs.Streams.{max_window, opened, is_too_wide, granted, received, ended_by_peer, reset, queued, stream_at, changed, open_count, swept, any_too_wide}
use Rattle.h2_streams.specs.Sending.{Sending, flushed}
use Rattle.h2_conn.specs.declared.state.State.{State}
use Rattle.h2_conn.specs.declared.state.HeaderBlock.{HeaderBlock}
use Rattle.h2_conn.specs.declared.state.Skipped.{Skipped}
use Rattle.h2_conn.specs.declared.event.Given.{Given}
use Rattle.h2_conn.specs.declared.event.H2Event.TheVariants as events
use Rattle.h2_conn.specs.declared.breach.Breach.{Breach}
use Rattle.h2_conn.specs.declared.phase.Phase.{Phase}
use Rattle.h2_conn.specs.declared.phase.Phase.TheVariants as phases
use Rattle.h2_conn.specs.Frames.{answering, flushing, nothing, given, breaks_block, breaks_order, breaks_idle, is_misplaced, judged, window_given, data_of, decoded, headers_of, block_taken, fragment_taken, next_number, skipped_before, is_crowded, headers_taken, continuation_taken, reset_taken, setting_taken, settings_in_order, settings_taken, connection_granted, stream_granted, ping_taken, acted, frame_taken}
use Rattle.h2_conn.specs.Bytes.{preface, settled_by, last_stream, waiting_for_more, preface_taken, frame_bytes_taken, bytes_taken, carried, next, run, opening, without_output}
use Rattle.h2_conn.specs.Sends.{queued_on, sent}
use Rattle.h2_conn.specs.History.{Turn, step, history}
use Rattle.h2_conn.specs.History as turns
use Rattle.h2_conn.specs.Bounds.{waiting_size, load, IsLive, IsWithin, IsBounded, given_by, waits_in, AlwaysBounded}
use Rattle.h2_conn.proofs.StreamBounds.{openness, AreFewer, fewer_joined, fewer_changed, fewer_swept, fewer_flushed, load_queued, all_live, is_kept, kept_changed, kept_flushed, kept_swept, kept_found, not_kept}
use Rattle.h2_conn.proofs.Outcomes.{AllOf, of_unless, of_if, of_behind}
use Rattle.h2_conn.proofs.TableBounds.{IsSmall, FieldsSmall, block_small}

-- There is room for the stream of a header block that is not whole, or the peer has not ended it.
abbrev pub HasRoom : Option HeaderBlock → List Stream → Type 0
HasRoom None streams = Unit {0}
HasRoom (Some block) streams = (length streams < 1000) ⊎ (is_kept block.stream streams ≡ true)

-- the limits, and what keeps them
pub record Holds (so_far : ℕ) (conn : State) : Type 0 where
  pub within : IsWithin so_far conn
  pub table : conn.decoder.max_size ≤ 4096
  pub room : HasRoom conn.block conn.streams

-- they are kept
abbrev pub HoldsAfter : ℕ → State × Given → Type 0
HoldsAfter so_far x = Holds so_far x.0

no_block : (block : Option HeaderBlock) (streams : List Stream) → block ≡ None → HasRoom block streams
no_block None streams e = tt
no_block (Some block) streams e = absurd cc

-- the same is kept but for the streams
record SameBeside (old new : State) : Type 0 where
  pub unread : new.unread ≡ old.unread
  pub block : new.block ≡ old.block
  pub decoder : new.decoder ≡ old.decoder
  pub skipped : new.skipped ≡ old.skipped

moved : (so_far more total : ℕ) (old new : State) → so_far + more ≡ total → Holds so_far old → SameBeside old new → AreFewer more old.streams new.streams → All IsLive new.streams → HasRoom new.block new.streams → Holds total new
moved so_far more total old new e h s fewer live room = record {
  within = record {
    unread = rw s.unread h.within.unread;
    block = rw s.block h.within.block;
    entries = rw s.decoder h.within.entries;
    sendable = omega (arith, fewer.sendable, h.within.sendable);
    kept = omega (arith, fewer.count, h.within.kept);
    live = live;
    skipped = rw s.skipped h.within.skipped;
    waiting = omega (arith, e, fewer.waiting, h.within.waiting);
  };
  table = rw s.decoder h.table;
  room = room;
}

-- where no header block is begun
free : (so_far : ℕ) (old new : State) → old.block ≡ None → Holds so_far old → SameBeside old new → AreFewer 0 old.streams new.streams → All IsLive new.streams → Holds so_far new
free so_far old new none h s fewer live = moved so_far 0 so_far old new (omega arith) h s fewer live (no_block new.block new.streams (s.block ∙ none))

-- ---- steps

-- what goes out of the streams
gone_out : (streams : List Stream) (sending : Sending) → AreFewer 0 streams (swept (flushed sending streams).1)
gone_out streams sending = fewer_joined 0 streams (flushed sending streams).1 (swept (flushed sending streams).1) (fewer_flushed streams sending) (fewer_swept (flushed sending streams).1)

-- one stream changes, and what both sides have ended is let go of
pub changed_swept : (change : Stream → Stream) (number : ℕ) → ((s : Stream) → openness (change s) ≤ openness s + 0) → ((s : Stream) → load (change s) ≤ load s + 0) → (streams : List Stream) → AreFewer 0 streams (swept (changed number change streams))
changed_swept change number opens loads streams = fewer_joined 0 streams (changed number change streams) (swept (changed number change streams)) (fewer_changed change 0 number opens loads streams) (fewer_swept (changed number change streams))

flush_holds : (so_far : ℕ) (conn : State) → conn.block ≡ None → Holds so_far conn → Holds so_far (flushing conn)
flush_holds so_far conn none h = free so_far conn (flushing conn) none h (record { unread = refl; block = refl; decoder = refl; skipped = refl }) (gone_out conn.streams conn.outgoing) (all_live (flushed conn.outgoing conn.streams).1)

-- the same with other things to send
other_outgoing : (so_far : ℕ) (conn : State) (outgoing : Sending) → Holds so_far conn → Holds so_far (record conn { outgoing = outgoing })
other_outgoing so_far conn outgoing h = record {
  within = record { unread = h.within.unread; block = h.within.block; entries = h.within.entries; sendable = h.within.sendable; kept = h.within.kept; live = h.within.live; skipped = h.within.skipped; waiting = h.within.waiting };
  table = h.table;
  room = h.room;
}

other_settled : (so_far : ℕ) (conn : State) → Holds so_far conn → Holds so_far (record conn { settled = true })
other_settled so_far conn h = record {
  within = record { unread = h.within.unread; block = h.within.block; entries = h.within.entries; sendable = h.within.sendable; kept = h.within.kept; live = h.within.live; skipped = h.within.skipped; waiting = h.within.waiting };
  table = h.table;
  room = h.room;
}

-- ---- DATA

data_stays : (so_far count number : ℕ) (end_stream : Bool) (bytes : List ℕ) (conn : State) (found : Option Stream) → conn.block ≡ None → Holds so_far conn → AllOf (HoldsAfter so_far) (data_of count number end_stream bytes conn found)
unfolding data_of
data_stays so_far count number end_stream bytes conn None none h = tt
data_stays so_far count number end_stream bytes conn (Some stream) none h =
    let after : State = record conn { streams = swept (changed number (received count end_stream) conn.streams); outgoing = window_given count number (end_stream || stream.ended) conn.outgoing } in
    let x : State × Given = (after, given stream.ended (events.Data number bytes) end_stream number) in
    let fewer : AreFewer 0 conn.streams after.streams = changed_swept (received count end_stream) number (λ s. omega arith) (λ s. omega arith) conn.streams in
    let s : Holds so_far after = free so_far conn after none h (record { unread = refl; block = refl; decoder = refl; skipped = refl }) fewer (all_live (changed number (received count end_stream) conn.streams)) in
    of_unless (HoldsAfter so_far) stream.peer_ended codes.StreamClosed (unless (nat_lt stream.receive_window count) codes.FlowControlError (Ok x))
    (λ e. of_unless (HoldsAfter so_far) (nat_lt stream.receive_window count) codes.FlowControlError (Ok x) (λ f. s))

-- ---- HEADERS

with_stream : (so_far : ℕ) (conn after : State) → Holds so_far conn → length conn.streams < 1000 → after.block ≡ None → after.unread ≡ conn.unread → after.decoder ≡ conn.decoder → after.skipped ≡ conn.skipped
    → open_count after.streams ≤ 100 → length after.streams ≤ 1000 → sum_by load after.streams ≤ sum_by load conn.streams → All IsLive after.streams → Holds so_far after
with_stream so_far conn after h less none eu ed es unended kept waits live = record {
  within = record {
    unread = rw eu h.within.unread;
    block = rw none (omega arith);
    entries = rw ed h.within.entries;
    sendable = unended;
    kept = kept;
    live = live;
    skipped = rw es h.within.skipped;
    waiting = omega (arith, waits, h.within.waiting);
  };
  table = rw ed h.table;
  room = no_block after.block after.streams none;
}

clash : (b : Bool) → b ≡ true → b ≡ false → ⊥
clash b et ef = absurd cc

room_left : (so_far : ℕ) (block : HeaderBlock) (streams : List Stream) → stream_at block.stream streams ≡ None → HasRoom (Some block) streams → length streams < 1000
room_left so_far block streams e (inl less) = less
room_left so_far block streams e (inr kept) = absurd (clash (is_kept block.stream streams) kept (not_kept block.stream streams e))

headers_hold : (so_far : ℕ) (block : HeaderBlock) (headers : List Header) (conn : State) (found : Option Stream) → stream_at block.stream conn.streams ≡ found → conn.block ≡ None → HasRoom (Some block) conn.streams → Holds so_far conn → Holds so_far (headers_of block headers conn found).0
unfolding headers_of
headers_hold so_far block headers conn (Some stream) e none room h =
    let after : State = record conn { streams = swept (changed block.stream (ended_by_peer block.end_stream) conn.streams) } in
    free so_far conn after none h (record { unread = refl; block = refl; decoder = refl; skipped = refl })
    (changed_swept (ended_by_peer block.end_stream) block.stream (λ s. omega arith) (λ s. omega arith) conn.streams) (all_live (changed block.stream (ended_by_peer block.end_stream) conn.streams))
headers_hold so_far block headers conn None e none room h =
    let less : length conn.streams < 1000 = room_left so_far block conn.streams e room in
    let closed : Stream = opened block.stream block.end_stream true in
    let fresh : Stream = opened block.stream block.end_stream false in
    let refused : State = answering (frames.RstStream block.stream 7 ∷ []) (record conn { streams = swept (conn.streams ++ closed ∷ []) }) in
    let begun : State = record conn { streams = conn.streams ++ fresh ∷ [] } in
    let fewer = fewer_swept (conn.streams ++ closed ∷ []) in
    let over_limit : Holds so_far refused = with_stream so_far conn refused h less none refl refl refl
    (omega (arith, fewer.sendable, sum_by_push openness conn.streams closed, h.within.sendable))
    (omega (arith, fewer.count, length-append conn.streams (closed ∷ []), less))
    (omega (arith, fewer.waiting, sum_by_push load conn.streams closed))
    (all_live (conn.streams ++ closed ∷ [])) in
    let live : IsLive fresh = and_right block.end_stream false refl in
    let within_limit : nat_le 100 (open_count conn.streams) ≡ false → Holds so_far begun = λ few. with_stream so_far conn begun h less none refl refl refl
    (omega (arith, sum_by_push openness conn.streams fresh, leb-false 100 (open_count conn.streams) few))
    (omega (arith, length-append conn.streams (fresh ∷ []), less))
    (omega (arith, sum_by_push load conn.streams fresh))
    (All-push IsLive conn.streams fresh h.within.live live) in
    cond_both (nat_le 100 (open_count conn.streams)) (refused, nothing) (begun, given false (events.Headers block.stream headers) block.end_stream block.stream)
    (λ (x : State × Given). Holds so_far x.0) (λ many. over_limit) (λ few. within_limit few)

decoded_small : (read : Result (List Header × Table) HpackFault) (x : List Header × Table) → decoded read ≡ Ok x → FieldsSmall read → IsSmall x.1
unfolding decoded
decoded_small (Ok y) x e s = let same : y ≡ x = cc in rw (← same) s
decoded_small (Err faults.ListTooLong) x e s = absurd cc
decoded_small (Err _) x e s = absurd cc

block_stays : (so_far : ℕ) (block : HeaderBlock) (conn : State) → HasRoom (Some block) conn.streams → Holds so_far conn → AllOf (HoldsAfter so_far) (block_taken block conn)
unfolding block_taken
block_stays so_far block conn room h =
    let f : List Header × Table → Result (State × Given) H2Code = λ read. Ok (headers_of block read.0 (record conn { block = None; decoder = read.1 }) (stream_at block.stream conn.streams)) in
    let small : FieldsSmall (block_at conn.decoder block.fragment) = block_small conn.decoder block.fragment (record { entries = h.within.entries; max_size = h.table }) in
    of_behind (HoldsAfter so_far) (decoded (block_at conn.decoder block.fragment)) f (λ read e.
    let s : IsSmall read.1 = decoded_small (block_at conn.decoder block.fragment) read e small in
    let here : State = record conn { block = None; decoder = read.1 } in
    let ready : Holds so_far here = record {
      within = record { unread = h.within.unread; block = omega arith; entries = s.entries; sendable = h.within.sendable; kept = h.within.kept; live = h.within.live; skipped = h.within.skipped; waiting = h.within.waiting };
      table = s.max_size;
      room = tt;
    } in
    headers_hold so_far block read.0 here (stream_at block.stream conn.streams) refl refl room ready)

fragment_stays : (so_far : ℕ) (end_headers : Bool) (block : HeaderBlock) (conn : State) → HasRoom (Some block) conn.streams → Holds so_far conn → AllOf (HoldsAfter so_far) (fragment_taken end_headers block conn)
unfolding fragment_taken
fragment_stays so_far end_headers block conn room h =
    let waits : Result (State × Given) H2Code = Ok (record conn { block = Some block }, nothing) in
    let kept : length block.fragment ≤ 262144 → AllOf (HoldsAfter so_far) waits = λ short. record {
      within = record { unread = h.within.unread; block = short; entries = h.within.entries; sendable = h.within.sendable; kept = h.within.kept; live = h.within.live; skipped = h.within.skipped; waiting = h.within.waiting };
      table = h.table;
      room = room;
    } in
    of_unless (HoldsAfter so_far) (nat_lt 262144 (length block.fragment)) codes.EnhanceYourCalm (if end_headers then block_taken block conn else waits)
    (λ e. of_if (HoldsAfter so_far) end_headers (block_taken block conn) waits (block_stays so_far block conn room h) (kept (ltb-false 262144 (length block.fragment) e)))

skipped_length : (number : ℕ) (conn : State) → length (skipped_before number conn) ≤ length conn.skipped + 1
skipped_length number conn =
    let run : Skipped = record { first = next_number conn.greatest; last = number - 2 } in
    cond_both (nat_lt (next_number conn.greatest) number) (conn.skipped ++ run ∷ []) conn.skipped (λ (x : List Skipped). length x ≤ length conn.skipped + 1)
    (λ e. omega (arith, length-append conn.skipped (run ∷ []))) (λ e. omega arith)

headers_stay : (so_far : ℕ) (end_headers : Bool) (block : HeaderBlock) (conn : State) (found : Option Stream) → stream_at block.stream conn.streams ≡ found → conn.block ≡ None → Holds so_far conn → AllOf (HoldsAfter so_far) (headers_taken end_headers block conn found)
unfolding headers_taken
headers_stay so_far end_headers block conn (Some stream) e none h =
    of_unless (HoldsAfter so_far) stream.peer_ended codes.StreamClosed (fragment_taken end_headers block conn)
    (λ unended. fragment_stays so_far end_headers block conn (inr (kept_found block.stream conn.streams stream e unended)) h)
headers_stay so_far end_headers block conn None e none h =
    let begun : State = record conn { greatest = block.stream; skipped = skipped_before block.stream conn } in
    of_unless (HoldsAfter so_far) (nat_le block.stream conn.greatest) codes.StreamClosed (unless (is_crowded conn) codes.EnhanceYourCalm (fragment_taken end_headers block begun))
    (λ new. of_unless (HoldsAfter so_far) (is_crowded conn) codes.EnhanceYourCalm (fragment_taken end_headers block begun) (λ few.
    let parts = or_parts (nat_le 1000 (length conn.streams)) (nat_le 1000 (length conn.skipped)) few in
    let less : length conn.streams < 1000 = leb-false 1000 (length conn.streams) parts.0 in
    let fewer : length conn.skipped < 1000 = leb-false 1000 (length conn.skipped) parts.1 in
    let ready : Holds so_far begun = record {
      within = record { unread = h.within.unread; block = h.within.block; entries = h.within.entries; sendable = h.within.sendable; kept = h.within.kept; live = h.within.live; skipped = omega (arith, skipped_length block.stream conn, fewer); waiting = h.within.waiting };
      table = h.table;
      room = h.room;
    } in
    fragment_stays so_far end_headers block begun (inl less) ready))

continuation_stays : (so_far : ℕ) (end_headers : Bool) (fragment : List ℕ) (conn : State) (found : Option HeaderBlock) → conn.block ≡ found → Holds so_far conn → AllOf (HoldsAfter so_far) (continuation_taken end_headers fragment conn found)
unfolding continuation_taken
continuation_stays so_far end_headers fragment conn None e h = tt
continuation_stays so_far end_headers fragment conn (Some block) e h =
    let longer : HeaderBlock = record block { fragment = block.fragment ++ fragment } in
    let without : State = record conn { block = None } in
    let room : HasRoom (Some block) conn.streams = rw e at h.room in
    let ready : Holds so_far without = record {
      within = record { unread = h.within.unread; block = omega arith; entries = h.within.entries; sendable = h.within.sendable; kept = h.within.kept; live = h.within.live; skipped = h.within.skipped; waiting = h.within.waiting };
      table = h.table;
      room = tt;
    } in
    fragment_stays so_far end_headers longer without room ready

reset_holds : (so_far number : ℕ) (conn : State) (found : Option Stream) → conn.block ≡ None → Holds so_far conn → Holds so_far (reset_taken number conn found).0
unfolding reset_taken
reset_holds so_far number conn None none h = h
reset_holds so_far number conn (Some stream) none h =
    let after : State = record conn { streams = swept (changed number reset conn.streams) } in
    free so_far conn after none h (record { unread = refl; block = refl; decoder = refl; skipped = refl }) (changed_swept reset number (λ s. omega arith) (λ s. omega arith) conn.streams) (all_live (changed number reset conn.streams))

-- ---- SETTINGS

-- what settings leave is the same but for what is sent
abbrev OnlySends : State → Result State H2Code → Type 0
OnlySends conn (Ok after) = after ≡ record conn { outgoing = after.outgoing }
OnlySends conn (Err code) = Unit {0}

sends_unless : (conn : State) (b : Bool) (code : H2Code) (outgoing : Sending) → OnlySends conn (unless b code (Ok (record conn { outgoing = outgoing })))
sends_unless conn true code outgoing = tt
sends_unless conn false code outgoing = refl

sends_if : (conn : State) (b : Bool) (x y : Result State H2Code) → OnlySends conn x → OnlySends conn y → OnlySends conn (if b then x else y)
sends_if conn true x y sx sy = sx
sends_if conn false x y sx sy = sy

setting_sends : (setting : Setting) (conn : State) → OnlySends conn (setting_taken setting conn)
unfolding setting_taken
setting_sends setting conn =
    let table : State = record conn { outgoing = if nat_lt setting.value conn.outgoing.table_size then record conn.outgoing { table_size = setting.value; update_due = true } else conn.outgoing } in
    let windows : Result State H2Code = unless (any_too_wide setting.value conn.streams) codes.FlowControlError (Ok (record conn { outgoing = record conn.outgoing { initial_window = setting.value } })) in
    let framed : Result State H2Code = unless (nat_lt setting.value 16384 || nat_lt 16777215 setting.value) codes.ProtocolError (Ok (record conn { outgoing = record conn.outgoing { max_frame = setting.value } })) in
    let last : Result State H2Code = if setting.identifier == max_frame_size then framed else Ok conn in
    sends_if conn (setting.identifier == header_table_size) (Ok table) (if setting.identifier == initial_window_size then windows else last) refl
    (sends_if conn (setting.identifier == initial_window_size) windows last (sends_unless conn (any_too_wide setting.value conn.streams) codes.FlowControlError (record conn.outgoing { initial_window = setting.value }))
    (sends_if conn (setting.identifier == max_frame_size) framed (Ok conn) (sends_unless conn (nat_lt setting.value 16384 || nat_lt 16777215 setting.value) codes.ProtocolError (record conn.outgoing { max_frame = setting.value })) refl))

sends_moved : (conn after : State) (read : Result State H2Code) → after ≡ record conn { outgoing = after.outgoing } → OnlySends after read → OnlySends conn read
sends_moved conn after (Ok last) e s = s ∙ ap (λ (x : State). record x { outgoing = last.outgoing }) e
sends_moved conn after (Err code) e s = tt

sends_behind : (conn : State) (read : Result State H2Code) (f : State → Result State H2Code) → OnlySends conn read → ((after : State) → OnlySends after (f after)) → OnlySends conn (read >>= f)
sends_behind conn (Ok after) f s k = sends_moved conn after (f after) s (k after)
sends_behind conn (Err code) f s k = tt

in_order_sends : (settings : List Setting) (conn : State) → OnlySends conn (settings_in_order settings conn)
unfolding settings_in_order
in_order_sends [] conn = refl
in_order_sends (setting ∷ settings) conn = sends_behind conn (setting_taken setting conn) (λ after. settings_in_order settings after) (setting_sends setting conn) (λ after. in_order_sends settings after)

stays_after : (so_far : ℕ) (conn : State) (read : Result State H2Code) (f : State → Result (State × Given) H2Code) → OnlySends conn read → ((outgoing : Sending) → AllOf (HoldsAfter so_far) (f (record conn { outgoing = outgoing }))) → AllOf (HoldsAfter so_far) (read >>= f)
stays_after so_far conn (Ok after) f s k = rw (ap f s) (k after.outgoing)
stays_after so_far conn (Err code) f s k = tt

settings_stay : (so_far : ℕ) (ack : Bool) (settings : List Setting) (conn : State) → conn.block ≡ None → Holds so_far conn → AllOf (HoldsAfter so_far) (settings_taken ack settings conn)
unfolding settings_taken
settings_stay so_far true settings conn none h = other_settled so_far conn h
settings_stay so_far false settings conn none h =
    let settled : State = record conn { settled = true } in
    let f : State → Result (State × Given) H2Code = λ after. Ok (flushing (answering (frames.Settings true [] ∷ []) after), nothing) in
    let ready : Holds so_far settled = other_settled so_far conn h in
    stays_after so_far settled (settings_in_order settings settled) f (in_order_sends settings settled)
    (λ outgoing.
    let here : State = answering (frames.Settings true [] ∷ []) (record settled { outgoing = outgoing }) in
    flush_holds so_far here none (other_outgoing so_far settled here.outgoing ready))

-- ---- WINDOW_UPDATE

connection_stays : (so_far count : ℕ) (conn : State) → conn.block ≡ None → Holds so_far conn → AllOf (HoldsAfter so_far) (connection_granted count conn)
unfolding connection_granted
connection_stays so_far count conn none h =
    let wider : State = record conn { outgoing = record conn.outgoing { window = conn.outgoing.window + count } } in
    of_unless (HoldsAfter so_far) (nat_lt max_window (conn.outgoing.window + count)) codes.FlowControlError (Ok (flushing wider, nothing)) (λ e. flush_holds so_far wider none (other_outgoing so_far conn wider.outgoing h))

stream_stays : (so_far number count : ℕ) (conn : State) (found : Option Stream) → conn.block ≡ None → Holds so_far conn → AllOf (HoldsAfter so_far) (stream_granted number count conn found)
unfolding stream_granted
stream_stays so_far number count conn None none h = h
stream_stays so_far number count conn (Some stream) none h =
    let wider : State = record conn { streams = changed number (granted count) conn.streams } in
    let fewer : AreFewer 0 conn.streams (flushing wider).streams = fewer_joined 0 conn.streams wider.streams (flushing wider).streams (fewer_changed (granted count) 0 number (λ s. omega arith) (λ s. omega arith) conn.streams) (gone_out wider.streams conn.outgoing) in
    let s : Holds so_far (flushing wider) = free so_far conn (flushing wider) none h (record { unread = refl; block = refl; decoder = refl; skipped = refl }) fewer (all_live (flushed conn.outgoing wider.streams).1) in
    let wide = is_too_wide conn.outgoing.initial_window (granted count stream) in
    of_if (HoldsAfter so_far) stream.ended (Ok (conn, nothing)) (unless wide codes.FlowControlError (Ok (flushing wider, nothing))) h (of_unless (HoldsAfter so_far) wide codes.FlowControlError (Ok (flushing wider, nothing)) (λ e. s))

ping_holds : (so_far : ℕ) (ack : Bool) (opaque_data : ℕ) (conn : State) → Holds so_far conn → Holds so_far (ping_taken ack opaque_data conn)
ping_holds so_far true opaque_data conn h = h
ping_holds so_far false opaque_data conn h = other_outgoing so_far conn (answering (frames.Ping true opaque_data ∷ []) conn).outgoing h

-- ---- a frame

acted_stays : (so_far count : ℕ) (frame : Frame) (conn : State) → conn.block ≡ None → Holds so_far conn → AllOf (HoldsAfter so_far) (acted count frame conn)
unfolding acted
acted_stays so_far count (frames.Data stream end_stream bytes) conn none h = data_stays so_far count stream end_stream bytes conn (stream_at stream conn.streams) none h
acted_stays so_far count (frames.Headers stream end_stream end_headers priority fragment) conn none h = headers_stay so_far end_headers (record { stream = stream; end_stream = end_stream; fragment = fragment }) conn (stream_at stream conn.streams) refl none h
acted_stays so_far count (frames.Priority stream priority) conn none h = h
acted_stays so_far count (frames.RstStream stream error_code) conn none h = reset_holds so_far stream conn (stream_at stream conn.streams) none h
acted_stays so_far count (frames.Settings ack settings) conn none h = settings_stay so_far ack settings conn none h
acted_stays so_far count (frames.PushPromise stream end_headers promised_stream fragment) conn none h = tt
acted_stays so_far count (frames.Ping ack opaque_data) conn none h = ping_holds so_far ack opaque_data conn h
acted_stays so_far count (frames.GoAway last_stream error_code debug_data) conn none h = h
acted_stays so_far count (frames.WindowUpdate stream increment) conn none h =
    of_if (HoldsAfter so_far) (stream == 0) (connection_granted increment conn) (stream_granted stream increment conn (stream_at stream conn.streams)) (connection_stays so_far increment conn none h) (stream_stays so_far stream increment conn (stream_at stream conn.streams) none h)
acted_stays so_far count (frames.Continuation stream end_headers fragment) conn none h = continuation_stays so_far end_headers fragment conn conn.block refl h
acted_stays so_far count (frames.Unknown kind flags stream payload) conn none h = h

-- a frame that may stand where it does, and is read
judged_is : (misplaced : Bool) (read : Result Frame H2Code) (frame : Frame) → judged misplaced read ≡ Ok frame → (misplaced ≡ false) × (read ≡ Ok frame)
unfolding judged
judged_is true (Ok x) frame e = absurd cc
judged_is false (Ok x) frame e = (refl, e)
judged_is true (Err codes.FlowControlError) frame e = absurd cc
judged_is false (Err codes.FlowControlError) frame e = absurd cc
judged_is misplaced (Err _) frame e = absurd cc

-- inside a header block only its CONTINUATION may stand
inside_block : (head : Head) (conn : State) (block : HeaderBlock) → conn.block ≡ Some block → is_misplaced head conn ≡ false → head.kind ≡ 9
inside_block head conn block e placed =
    let first = or_parts ((not conn.settled && not (head.kind == 4)) || head.kind == 5 || breaks_block head conn.block || breaks_order head conn) (breaks_idle head conn) placed in
    let second = or_parts ((not conn.settled && not (head.kind == 4)) || head.kind == 5 || breaks_block head conn.block) (breaks_order head conn) first.0 in
    let third = or_parts ((not conn.settled && not (head.kind == 4)) || head.kind == 5) (breaks_block head conn.block) second.0 in
    let fits : breaks_block head (Some block) ≡ false = rw e at third.1 in
    eqb-true head.kind 9 (and_parts (head.kind == 9) (head.stream == block.stream) (not-false (head.kind == 9 && head.stream == block.stream) fits)).0

continuation_only : (head : Head) (payload : List ℕ) → head.kind ≡ 9 → frame_at head payload ≡ unless (head.stream == 0) codes.ProtocolError (Ok (frames.Continuation head.stream (has head.flags end_headers_flag) payload))
unfolding frame_at continuation_at
continuation_only head payload e = rw e refl

read_frame : (b : Bool) (x frame : Frame) → unless b codes.ProtocolError (Ok x) ≡ Ok frame → frame ≡ x
read_frame true x frame e = absurd cc
read_frame false x frame e = cc

continuing_stays : (so_far count : ℕ) (frame : Frame) (stream : ℕ) (end_headers : Bool) (fragment : List ℕ) (conn : State) → frame ≡ frames.Continuation stream end_headers fragment → Holds so_far conn → AllOf (HoldsAfter so_far) (acted count frame conn)
unfolding acted
continuing_stays so_far count frame stream end_headers fragment conn e h = rw e (continuation_stays so_far end_headers fragment conn conn.block refl h)

taken_stays : (so_far : ℕ) (head : Head) (payload : List ℕ) (frame : Frame) (conn : State) (found : Option HeaderBlock) → conn.block ≡ found → is_misplaced head conn ≡ false → frame_at head payload ≡ Ok frame → Holds so_far conn → AllOf (HoldsAfter so_far) (acted head.length frame conn)
taken_stays so_far head payload frame conn None e placed read h = acted_stays so_far head.length frame conn e h
taken_stays so_far head payload frame conn (Some block) e placed read h =
    let nine = inside_block head conn block e placed in
    let is = read_frame (head.stream == 0) (frames.Continuation head.stream (has head.flags end_headers_flag) payload) frame (sym (continuation_only head payload nine) ∙ read) in
    continuing_stays so_far head.length frame head.stream (has head.flags end_headers_flag) payload conn is h

frame_stays : (so_far : ℕ) (head : Head) (payload : List ℕ) (conn : State) → Holds so_far conn → AllOf (HoldsAfter so_far) (frame_taken head payload conn)
unfolding frame_taken
frame_stays so_far head payload conn h =
    of_behind (HoldsAfter so_far) (judged (is_misplaced head conn) (frame_at head payload)) (λ frame. acted head.length frame conn)
    (λ frame e. let both = judged_is (is_misplaced head conn) (frame_at head payload) frame e in taken_stays so_far head payload frame conn conn.block refl both.0 both.1 h)

-- ---- bytes

abbrev pub HoldsOpen : ℕ → Phase → Type 0
HoldsOpen so_far (phases.Open conn) = Holds so_far conn
HoldsOpen so_far (phases.Broken code output) = Unit {0}
HoldsOpen so_far phases.OutOfMemory = Unit {0}

abbrev Settled : ℕ → Result (State × Given) Breach → Type 0
Settled so_far (Ok x) = Holds so_far x.0
Settled so_far (Err breach) = Unit {0}

settled_from : (so_far last : ℕ) (taken : Result (State × Given) H2Code) → AllOf (HoldsAfter so_far) taken → Settled so_far (settled_by last taken)
settled_from so_far last (Ok x) s = s
settled_from so_far last (Err code) s = tt

carried_holds : (so_far : ℕ) (output : List ℕ) (taken : Result (State × Given) Breach) → Settled so_far taken → HoldsOpen so_far (carried output taken).0
carried_holds so_far output (Ok x) s = s
carried_holds so_far output (Err breach) s = tt

other_unread : (so_far : ℕ) (conn : State) (bytes : List ℕ) (greeted : Bool) → length bytes ≤ 9 + 16384 → Holds so_far conn → Holds so_far (record conn { greeted = greeted; unread = bytes })
other_unread so_far conn bytes greeted short h = record {
  within = record { unread = short; block = h.within.block; entries = h.within.entries; sendable = h.within.sendable; kept = h.within.kept; live = h.within.live; skipped = h.within.skipped; waiting = h.within.waiting };
  table = h.table;
  room = h.room;
}

same_length : (xs ys : List ℕ) → pointwise nat_eq xs ys ≡ true → length xs ≡ length ys
same_length [] [] e = refl
same_length [] (y ∷ ys) e = absurd cc
same_length (x ∷ xs) [] e = absurd cc
same_length (x ∷ xs) (y ∷ ys) e = ap suc (same_length xs ys (and_parts (nat_eq x y) (pointwise nat_eq xs ys) e).1)

preface_short : (bytes : List ℕ) → starts_with nat_eq preface bytes ≡ true → length bytes ≤ 24
preface_short bytes e = let same = same_length bytes (take (length bytes) preface) e in omega (arith, same, length-take (length bytes) preface)

preface_settled : (so_far : ℕ) (bytes : List ℕ) (conn : State) → Holds so_far conn → Settled so_far (preface_taken bytes conn)
unfolding preface_taken
preface_settled so_far bytes conn h =
    let whole : Result (State × Given) Breach = Ok (record conn { greeted = true; unread = [] }, record { event = None; end_of = None }) in
    let none : Holds so_far (record conn { greeted = true; unread = [] }) = other_unread so_far conn [] true (omega arith) h in
    let more : starts_with nat_eq preface bytes ≡ true → Settled so_far (waiting_for_more bytes conn) = λ e. other_unread so_far conn bytes conn.greeted (omega (arith, preface_short bytes e)) h in
    cond_both (starts_with nat_eq preface bytes) (if length bytes == 24 then whole else waiting_for_more bytes conn) (Err (record { code = codes.ProtocolError; last_stream = conn.greatest })) (λ x. Settled so_far x)
    (λ e. cond_both (length bytes == 24) whole (waiting_for_more bytes conn) (λ x. Settled so_far x) (λ f. none) (λ f. more e))
    (λ e. tt)

frame_settled : (so_far : ℕ) (bytes : List ℕ) (conn : State) → Holds so_far conn → Settled so_far (frame_bytes_taken bytes conn)
unfolding frame_bytes_taken
frame_settled so_far bytes conn h =
    let head = head_at (take 9 bytes) in
    let waits : length bytes ≤ 9 + 16384 → Settled so_far (waiting_for_more bytes conn) = λ short. other_unread so_far conn bytes conn.greeted short h in
    let whole : Result (State × Given) Breach = settled_by (last_stream head conn) (frame_taken head (take head.length (drop 9 bytes)) (record conn { unread = [] })) in
    let done : Settled so_far whole = settled_from so_far (last_stream head conn) (frame_taken head (take head.length (drop 9 bytes)) (record conn { unread = [] })) (frame_stays so_far head (take head.length (drop 9 bytes)) (record conn { unread = [] }) (other_unread so_far conn [] conn.greeted (omega arith) h)) in
    let third : Result (State × Given) Breach = if nat_lt (length bytes) (9 + head.length) then waiting_for_more bytes conn else whole in
    let second : Result (State × Given) Breach = if nat_lt 16384 head.length then Err (record { code = codes.FrameSizeError; last_stream = conn.greatest }) else third in
    cond_both (nat_lt (length bytes) 9) (waiting_for_more bytes conn) second (λ x. Settled so_far x)
    (λ e. waits (omega (arith, ltb-true (length bytes) 9 e)))
    (λ e. cond_both (nat_lt 16384 head.length) (Err (record { code = codes.FrameSizeError; last_stream = conn.greatest })) third (λ x. Settled so_far x) (λ f. tt)
    (λ f. cond_both (nat_lt (length bytes) (9 + head.length)) (waiting_for_more bytes conn) whole (λ x. Settled so_far x)
    (λ g. waits (omega (arith, ltb-true (length bytes) (9 + head.length) g, ltb-false 16384 head.length f))) (λ g. done)))

next_holds : (so_far : ℕ) (phase : Phase) (byte : ℕ) → HoldsOpen so_far phase → HoldsOpen so_far (next phase byte).0
next_holds so_far (phases.Open conn) byte h =
    let bytes = conn.unread ++ byte ∷ [] in
    carried_holds so_far conn.outgoing.output (bytes_taken bytes conn)
    (cond_both conn.greeted (frame_bytes_taken bytes conn) (preface_taken bytes conn) (λ x. Settled so_far x) (λ e. frame_settled so_far bytes conn h) (λ e. preface_settled so_far bytes conn h))
next_holds so_far (phases.Broken code output) byte h = tt
next_holds so_far phases.OutOfMemory byte h = tt

run_holds : (so_far : ℕ) (bytes : List ℕ) (phase : Phase) → HoldsOpen so_far phase → HoldsOpen so_far (run phase bytes).0
unfolding run
run_holds so_far [] phase h = h
run_holds so_far (byte ∷ bytes) phase h = run_holds so_far bytes (next phase byte).0 (next_holds so_far phase byte h)

-- ---- what is sent

room_kept : (block : Option HeaderBlock) (old new : List Stream) → length new ≤ length old → ((number : ℕ) → is_kept number new ≡ is_kept number old) → HasRoom block old → HasRoom block new
room_kept None old new le same room = tt
room_kept (Some block) old new le same (inl less) = inl (omega (arith, le, less))
room_kept (Some block) old new le same (inr kept) = inr (same block.stream ∙ kept)

weaker : (so_far more : ℕ) (conn : State) → Holds so_far conn → Holds (so_far + more) conn
weaker so_far more conn h = record {
  within = record { unread = h.within.unread; block = h.within.block; entries = h.within.entries; sendable = h.within.sendable; kept = h.within.kept; live = h.within.live; skipped = h.within.skipped; waiting = omega (arith, h.within.waiting) };
  table = h.table;
  room = h.room;
}

queued_holds : (so_far number : ℕ) (waiting : Waiting) (end_stream : Bool) (conn : State) (found : Option Stream) → Holds so_far conn → Holds (so_far + waiting_size waiting) (queued_on found number waiting end_stream conn)
queued_holds so_far number waiting end_stream conn None h = weaker so_far (waiting_size waiting) conn h
queued_holds so_far number waiting end_stream conn (Some stream) h =
    let longer : List Stream = changed number (queued waiting end_stream) conn.streams in
    let after : State = flushing (record conn { streams = longer }) in
    let fewer : AreFewer (waiting_size waiting) conn.streams after.streams = fewer_joined (waiting_size waiting) conn.streams longer after.streams
    (fewer_changed (queued waiting end_stream) (waiting_size waiting) number (λ s. omega arith) (λ s. load_queued waiting end_stream s) conn.streams) (gone_out longer conn.outgoing) in
    let same : (other : ℕ) → is_kept other after.streams ≡ is_kept other conn.streams = λ other.
    kept_swept other (flushed conn.outgoing longer).1 ∙ kept_flushed other longer conn.outgoing ∙ kept_changed other number (queued waiting end_stream) (λ s. record { number = refl; peer_ended = refl }) conn.streams in
    let sends : Holds (so_far + waiting_size waiting) after = moved so_far (waiting_size waiting) (so_far + waiting_size waiting) conn after refl h (record { unread = refl; block = refl; decoder = refl; skipped = refl }) fewer (all_live (flushed conn.outgoing longer).1)
    (room_kept conn.block conn.streams after.streams fewer.count same h.room) in
    cond_both stream.closing conn after (λ (x : State). Holds (so_far + waiting_size waiting) x) (λ e. weaker so_far (waiting_size waiting) conn h) (λ e. sends)

sent_holds : (so_far number : ℕ) (waiting : Waiting) (end_stream : Bool) (phase : Phase) → HoldsOpen so_far phase → HoldsOpen (so_far + waiting_size waiting) (sent number waiting end_stream phase)
sent_holds so_far number waiting end_stream (phases.Open conn) h = queued_holds so_far number waiting end_stream conn (stream_at number conn.streams) h
sent_holds so_far number waiting end_stream (phases.Broken code output) h = tt
sent_holds so_far number waiting end_stream phases.OutOfMemory h = tt

taken_holds : (so_far : ℕ) (phase : Phase) → HoldsOpen so_far phase → HoldsOpen so_far (without_output phase)
taken_holds so_far (phases.Open conn) h = other_outgoing so_far conn (record conn.outgoing { output = [] }) h
taken_holds so_far (phases.Broken code output) h = tt
taken_holds so_far phases.OutOfMemory h = tt

-- ---- all that happens

none_more : (so_far : ℕ) (phase : Phase) → HoldsOpen so_far phase → HoldsOpen (so_far + 0) phase
none_more so_far (phases.Open conn) h = weaker so_far 0 conn h
none_more so_far (phases.Broken code output) h = tt
none_more so_far phases.OutOfMemory h = tt

step_holds : (so_far : ℕ) (phase : Phase) (turn : Turn) → HoldsOpen so_far phase → HoldsOpen (so_far + given_by turn) (step phase turn).0
step_holds so_far phase (turns.Received bytes) h = none_more so_far (run phase bytes).0 (run_holds so_far bytes phase h)
step_holds so_far phase (turns.HeadersSent stream headers end_stream) h = sent_holds so_far stream (waitings.Headers (block_bytes headers) end_stream) end_stream phase h
step_holds so_far phase (turns.DataSent stream bytes) h = sent_holds so_far stream (waitings.Data bytes) false phase h
step_holds so_far phase turns.OutputTaken h = none_more so_far (without_output phase) (taken_holds so_far phase h)

counted : (so_far total : ℕ) (phase : Phase) → so_far ≡ total → HoldsOpen so_far phase → HoldsOpen total phase
counted so_far total phase e h = rw (← e) h

is_bounded : (so_far : ℕ) (phase : Phase) → HoldsOpen so_far phase → IsBounded so_far phase
is_bounded so_far (phases.Open conn) h = h.within
is_bounded so_far (phases.Broken code output) h = tt
is_bounded so_far phases.OutOfMemory h = tt

history_holds : (past : List Turn) (so_far total : ℕ) (phase : Phase) → so_far + sum_by given_by past ≡ total → HoldsOpen so_far phase → HoldsOpen total (history phase past).0
unfolding history
history_holds [] so_far total phase e h = counted so_far total phase (omega (arith, e)) h
history_holds (turn ∷ past) so_far total phase e h =
    history_holds past (so_far + given_by turn) total (step phase turn).0 (omega (arith, e, sum_by-cons given_by turn past)) (step_holds so_far phase turn h)

opening_holds : HoldsOpen 0 opening
opening_holds = record {
  within = record { unread = omega arith; block = omega arith; entries = omega arith; sendable = omega arith; kept = omega arith; live = All-nil IsLive; skipped = omega arith; waiting = omega arith };
  table = omega arith;
  room = tt;
}

-- what waits counts as given
from_here : (so_far : ℕ) (phase : Phase) → HoldsOpen so_far phase → HoldsOpen (waits_in phase) phase
from_here so_far (phases.Open conn) h = record {
  within = record { unread = h.within.unread; block = h.within.block; entries = h.within.entries; sendable = h.within.sendable; kept = h.within.kept; live = h.within.live; skipped = h.within.skipped; waiting = omega arith };
  table = h.table;
  room = h.room;
}
from_here so_far (phases.Broken code output) h = tt
from_here so_far phases.OutOfMemory h = tt

pub always_bounded : AlwaysBounded
always_bounded past since =
    let there : Phase = (history opening past).0 in
    let total = waits_in there + sum_by given_by since in
    let h = history_holds past 0 (sum_by given_by past) opening (omega arith) opening_holds in
    is_bounded total (history there since).0 (history_holds since (waits_in there) total there refl (from_here (sum_by given_by past) there h))
