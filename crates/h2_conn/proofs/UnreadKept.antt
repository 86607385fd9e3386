-- What a frame leaves as it was: that the preface is whole, and the bytes that are kept.
use Rattle.std.proofs.Common.{◌≡◌, ℕ, Bool, true, false, List, [], ◌∷◌, ◌++◌, Option, Some, None, Result, Ok, Err, refl, ◌∙◌}
use Rattle.std.specs.Prelude.{nat_lt, nat_le, ◌==◌, ◌||◌, ◌+◌, length, if◌then◌else◌}
use Rattle.h2_frames.specs.declared.codes.H2Code.{H2Code}
use Rattle.h2_frames.specs.declared.codes.H2Code.TheVariants as codes
use Rattle.h2_frames.specs.declared.frame.Frame.{Frame}
use Rattle.h2_frames.specs.declared.frame.Frame.TheVariants as frames
use Rattle.h2_frames.specs.declared.frame.Setting.{Setting}
use Rattle.h2_frames.specs.declared.head.Head.{Head}
use Rattle.h2_frames.specs.Codes.{header_table_size, initial_window_size, max_frame_size}
use Rattle.list_types.specs.Results.{◌>>=◌, unless}
use Rattle.h2_frames.specs.Reading.{frame_at}
use Rattle.h2_streams.specs.declared.stream.Stream.{Stream}
use Rattle.h2_streams.specs.Streams.{max_window, opened, is_too_wide, granted, received, stream_at, changed, open_count, swept, any_too_wide}
use Rattle.hpack_tables.specs.declared.header.Header.{Header}
use Rattle.hpack_tables.specs.Tables.{Table}
use Rattle.hpack_tables.specs.Blocks.{block_at}
use Rattle.h2_conn.specs.declared.state.State.{State}
use Rattle.h2_conn.specs.declared.state.HeaderBlock.{HeaderBlock}
use Rattle.h2_conn.specs.declared.event.Given.{Given}
use Rattle.h2_conn.specs.declared.event.H2Event.TheVariants as events
use Rattle.h2_conn.specs.Frames.{answering, flushing, nothing, given, is_misplaced, judged, window_given, data_of, decoded, headers_of, block_taken, fragment_taken, skipped_before, is_crowded, headers_taken, continuation_taken, reset_taken, setting_taken, settings_in_order, settings_taken, connection_granted, stream_granted, ping_taken, acted, frame_taken}

-- these are the same in both
pub record SameUnread (old new : State) : Type 0 where
  pub greeted : new.greeted ≡ old.greeted
  pub unread : new.unread ≡ old.unread

-- what becomes of a connection keeps them, unless a rule is broken
abbrev pub Keeps : State → Result (State × Given) H2Code → Type 0
Keeps conn (Ok x) = SameUnread conn x.0
Keeps conn (Err code) = Unit {0}

same : (conn : State) → SameUnread conn conn
same conn = record { greeted = refl; unread = refl }

joined : (first second third : State) → SameUnread first second → SameUnread second third → SameUnread first third
joined first second third a b = record { greeted = b.greeted ∙ a.greeted; unread = b.unread ∙ a.unread }

keeps_unless : (conn : State) (broken : Bool) (code : H2Code) (taken : Result (State × Given) H2Code) → Keeps conn taken → Keeps conn (unless broken code taken)
keeps_unless conn true code taken k = tt
keeps_unless conn false code taken k = k

keeps_if : (conn : State) (b : Bool) (x y : Result (State × Given) H2Code) → Keeps conn x → Keeps conn y → Keeps conn (if b then x else y)
keeps_if conn true x y kx ky = kx
keeps_if conn false x y kx ky = ky

keeps_behind : {A : Type 0} → (conn : State) (read : Result A H2Code) (f : A → Result (State × Given) H2Code) → ((x : A) → Keeps conn (f x)) → Keeps conn (read >>= f)
keeps_behind conn (Ok x) f k = k x
keeps_behind conn (Err code) f k = tt

moved : (conn other : State) (taken : Result (State × Given) H2Code) → SameUnread conn other → Keeps other taken → Keeps conn taken
moved conn other (Ok x) s k = joined conn other x.0 s k
moved conn other (Err code) s k = tt

-- ---- frames by their kinds

data_keeps : (count number : ℕ) (end_stream : Bool) (bytes : List ℕ) (conn : State) (stream : Option Stream) → Keeps conn (data_of count number end_stream bytes conn stream)
unfolding data_of
data_keeps count number end_stream bytes conn None = tt
data_keeps count number end_stream bytes conn (Some stream) =
    let next : State = record conn { streams = swept (changed number (received count end_stream) conn.streams); outgoing = window_given count number (end_stream || stream.ended) conn.outgoing } in
    let x : State × Given = (next, given stream.ended (events.Data number bytes) end_stream number) in
    let s : SameUnread conn next = record { greeted = refl; unread = refl } in
    keeps_unless conn stream.peer_ended codes.StreamClosed (unless (nat_lt stream.receive_window count) codes.FlowControlError (Ok x)) (keeps_unless conn (nat_lt stream.receive_window count) codes.FlowControlError (Ok x) s)

same_choice : (conn : State) (b : Bool) (x y : State × Given) → SameUnread conn x.0 → SameUnread conn y.0 → SameUnread conn (if b then x else y).0
same_choice conn true x y sx sy = sx
same_choice conn false x y sx sy = sy

headers_keep : (block : HeaderBlock) (headers : List Header) (conn : State) (stream : Option Stream) → SameUnread conn (headers_of block headers conn stream).0
unfolding headers_of
headers_keep block headers conn (Some stream) = record { greeted = refl; unread = refl }
headers_keep block headers conn None =
    let refused : State = answering (frames.RstStream block.stream 7 ∷ []) (record conn { streams = swept (conn.streams ++ opened block.stream block.end_stream true ∷ []) }) in
    let next : State = record conn { streams = conn.streams ++ opened block.stream block.end_stream false ∷ [] } in
    let sr : SameUnread conn refused = record { greeted = refl; unread = refl } in
    let sn : SameUnread conn next = record { greeted = refl; unread = refl } in
    same_choice conn (nat_le 100 (open_count conn.streams)) (refused, nothing) (next, given false (events.Headers block.stream headers) block.end_stream block.stream) sr sn

block_keeps : (block : HeaderBlock) (conn : State) → Keeps conn (block_taken block conn)
unfolding block_taken
block_keeps block conn =
    let f : List Header × Table → Result (State × Given) H2Code = λ read. Ok (headers_of block read.0 (record conn { block = None; decoder = read.1 }) (stream_at block.stream conn.streams)) in
    let k : (read : List Header × Table) → Keeps conn (f read) = λ read.
    let here : State = record conn { block = None; decoder = read.1 } in
    let s : SameUnread here (headers_of block read.0 here (stream_at block.stream conn.streams)).0 = headers_keep block read.0 here (stream_at block.stream conn.streams) in
    record { greeted = s.greeted; unread = s.unread } in
    keeps_behind conn (decoded (block_at conn.decoder block.fragment)) f k

fragment_keeps : (end_headers : Bool) (block : HeaderBlock) (conn : State) → Keeps conn (fragment_taken end_headers block conn)
unfolding fragment_taken
fragment_keeps end_headers block conn =
    let waits : Result (State × Given) H2Code = Ok (record conn { block = Some block }, nothing) in
    let s : Keeps conn waits = record { greeted = refl; unread = refl } in
    keeps_unless conn (nat_lt 262144 (length block.fragment)) codes.EnhanceYourCalm (if end_headers then block_taken block conn else waits) (keeps_if conn end_headers (block_taken block conn) waits (block_keeps block conn) s)

headers_taken_keeps : (end_headers : Bool) (block : HeaderBlock) (conn : State) (stream : Option Stream) → Keeps conn (headers_taken end_headers block conn stream)
unfolding headers_taken
headers_taken_keeps end_headers block conn (Some stream) = keeps_unless conn stream.peer_ended codes.StreamClosed (fragment_taken end_headers block conn) (fragment_keeps end_headers block conn)
headers_taken_keeps end_headers block conn None =
    let begun : State = record conn { greatest = block.stream; skipped = skipped_before block.stream conn } in
    let s : SameUnread conn begun = record { greeted = refl; unread = refl } in
    let k : Keeps conn (fragment_taken end_headers block begun) = moved conn begun (fragment_taken end_headers block begun) s (fragment_keeps end_headers block begun) in
    keeps_unless conn (nat_le block.stream conn.greatest) codes.StreamClosed (unless (is_crowded conn) codes.EnhanceYourCalm (fragment_taken end_headers block begun)) (keeps_unless conn (is_crowded conn) codes.EnhanceYourCalm (fragment_taken end_headers block begun) k)

continuation_keeps : (end_headers : Bool) (fragment : List ℕ) (conn : State) (block : Option HeaderBlock) → Keeps conn (continuation_taken end_headers fragment conn block)
unfolding continuation_taken
continuation_keeps end_headers fragment conn None = tt
continuation_keeps end_headers fragment conn (Some block) =
    let longer : HeaderBlock = record block { fragment = block.fragment ++ fragment } in
    let without : State = record conn { block = None } in
    let s : SameUnread conn without = record { greeted = refl; unread = refl } in
    moved conn without (fragment_taken end_headers longer without) s (fragment_keeps end_headers longer without)

reset_keeps : (number : ℕ) (conn : State) (stream : Option Stream) → SameUnread conn (reset_taken number conn stream).0
unfolding reset_taken
reset_keeps number conn None = same conn
reset_keeps number conn (Some stream) = record { greeted = refl; unread = refl }

-- the same of settings, which give nothing else
abbrev KeepsAlone : State → Result State H2Code → Type 0
KeepsAlone conn (Ok next) = SameUnread conn next
KeepsAlone conn (Err code) = Unit {0}

alone_unless : (conn : State) (broken : Bool) (code : H2Code) (next : State) → SameUnread conn next → KeepsAlone conn (unless broken code (Ok next))
alone_unless conn true code next s = tt
alone_unless conn false code next s = s

alone_if : (conn : State) (b : Bool) (x y : Result State H2Code) → KeepsAlone conn x → KeepsAlone conn y → KeepsAlone conn (if b then x else y)
alone_if conn true x y kx ky = kx
alone_if conn false x y kx ky = ky

setting_keeps : (setting : Setting) (conn : State) → KeepsAlone conn (setting_taken setting conn)
unfolding setting_taken
setting_keeps setting conn =
    let table : State = record conn { outgoing = if nat_lt setting.value conn.outgoing.table_size then record conn.outgoing { table_size = setting.value; update_due = true } else conn.outgoing } in
    let window : State = record conn { outgoing = record conn.outgoing { initial_window = setting.value } } in
    let frame : State = record conn { outgoing = record conn.outgoing { max_frame = setting.value } } in
    let st : SameUnread conn table = record { greeted = refl; unread = refl } in
    let sw : SameUnread conn window = record { greeted = refl; unread = refl } in
    let sf : SameUnread conn frame = record { greeted = refl; unread = refl } in
    let windows : Result State H2Code = unless (any_too_wide setting.value conn.streams) codes.FlowControlError (Ok window) in
    let framed : Result State H2Code = unless (nat_lt setting.value 16384 || nat_lt 16777215 setting.value) codes.ProtocolError (Ok frame) in
    let last : Result State H2Code = if setting.identifier == max_frame_size then framed else Ok conn in
    let kw : KeepsAlone conn windows = alone_unless conn (any_too_wide setting.value conn.streams) codes.FlowControlError window sw in
    let kf : KeepsAlone conn framed = alone_unless conn (nat_lt setting.value 16384 || nat_lt 16777215 setting.value) codes.ProtocolError frame sf in
    let kl : KeepsAlone conn last = alone_if conn (setting.identifier == max_frame_size) framed (Ok conn) kf (same conn) in
    alone_if conn (setting.identifier == header_table_size) (Ok table) (if setting.identifier == initial_window_size then windows else last) st (alone_if conn (setting.identifier == initial_window_size) windows last kw kl)

alone_moved : (conn next : State) (read : Result State H2Code) → SameUnread conn next → KeepsAlone next read → KeepsAlone conn read
alone_moved conn next (Ok last) s k = joined conn next last s k
alone_moved conn next (Err code) s k = tt

alone_behind : (conn : State) (read : Result State H2Code) (f : State → Result State H2Code) → KeepsAlone conn read → ((next : State) → KeepsAlone next (f next)) → KeepsAlone conn (read >>= f)
alone_behind conn (Err code) f s k = tt
alone_behind conn (Ok next) f s k = alone_moved conn next (f next) s (k next)

in_order_keeps : (settings : List Setting) (conn : State) → KeepsAlone conn (settings_in_order settings conn)
unfolding settings_in_order
in_order_keeps [] conn = same conn
in_order_keeps (setting ∷ settings) conn = alone_behind conn (setting_taken setting conn) (λ next. settings_in_order settings next) (setting_keeps setting conn) (λ next. in_order_keeps settings next)

keeps_after : (conn : State) (read : Result State H2Code) (f : State → Result (State × Given) H2Code) → KeepsAlone conn read → ((next : State) → SameUnread conn next → Keeps conn (f next)) → Keeps conn (read >>= f)
keeps_after conn (Ok next) f s k = k next s
keeps_after conn (Err code) f s k = tt

settings_keep : (ack : Bool) (settings : List Setting) (conn : State) → Keeps conn (settings_taken ack settings conn)
unfolding settings_taken
settings_keep true settings conn = record { greeted = refl; unread = refl }
settings_keep false settings conn =
    let settled : State = record conn { settled = true } in
    let s : SameUnread conn settled = record { greeted = refl; unread = refl } in
    let f : State → Result (State × Given) H2Code = λ next. Ok (flushing (answering (frames.Settings true [] ∷ []) next), nothing) in
    let k : (next : State) → SameUnread settled next → Keeps settled (f next) = λ next t. record { greeted = t.greeted; unread = t.unread } in
    moved conn settled (settings_in_order settings settled >>= f) s (keeps_after settled (settings_in_order settings settled) f (in_order_keeps settings settled) k)

connection_keeps : (count : ℕ) (conn : State) → Keeps conn (connection_granted count conn)
unfolding connection_granted
connection_keeps count conn =
    let next : Result (State × Given) H2Code = Ok (flushing (record conn { outgoing = record conn.outgoing { window = conn.outgoing.window + count } }), nothing) in
    let k : Keeps conn next = record { greeted = refl; unread = refl } in
    keeps_unless conn (nat_lt max_window (conn.outgoing.window + count)) codes.FlowControlError next k

stream_keeps : (number count : ℕ) (conn : State) (stream : Option Stream) → Keeps conn (stream_granted number count conn stream)
unfolding stream_granted
stream_keeps number count conn None = same conn
stream_keeps number count conn (Some stream) =
    let next : Result (State × Given) H2Code = Ok (flushing (record conn { streams = changed number (granted count) conn.streams }), nothing) in
    let k : Keeps conn next = record { greeted = refl; unread = refl } in
    let wide = is_too_wide conn.outgoing.initial_window (granted count stream) in
    keeps_if conn stream.ended (Ok (conn, nothing)) (unless wide codes.FlowControlError next) (same conn) (keeps_unless conn wide codes.FlowControlError next k)

ping_keeps : (ack : Bool) (opaque_data : ℕ) (conn : State) → SameUnread conn (ping_taken ack opaque_data conn)
ping_keeps true opaque_data conn = same conn
ping_keeps false opaque_data conn = record { greeted = refl; unread = refl }

acted_keeps : (count : ℕ) (frame : Frame) (conn : State) → Keeps conn (acted count frame conn)
unfolding acted
acted_keeps count (frames.Data stream end_stream bytes) conn = data_keeps count stream end_stream bytes conn (stream_at stream conn.streams)
acted_keeps count (frames.Headers stream end_stream end_headers priority fragment) conn = headers_taken_keeps end_headers (record { stream = stream; end_stream = end_stream; fragment = fragment }) conn (stream_at stream conn.streams)
acted_keeps count (frames.Priority stream priority) conn = same conn
acted_keeps count (frames.RstStream stream error_code) conn = reset_keeps stream conn (stream_at stream conn.streams)
acted_keeps count (frames.Settings ack settings) conn = settings_keep ack settings conn
acted_keeps count (frames.PushPromise stream end_headers promised_stream fragment) conn = tt
acted_keeps count (frames.Ping ack opaque_data) conn = ping_keeps ack opaque_data conn
acted_keeps count (frames.GoAway last_stream error_code debug_data) conn = same conn
acted_keeps count (frames.WindowUpdate stream increment) conn = keeps_if conn (stream == 0) (connection_granted increment conn) (stream_granted stream increment conn (stream_at stream conn.streams)) (connection_keeps increment conn) (stream_keeps stream increment conn (stream_at stream conn.streams))
acted_keeps count (frames.Continuation stream end_headers fragment) conn = continuation_keeps end_headers fragment conn conn.block
acted_keeps count (frames.Unknown kind flags stream payload) conn = same conn

pub frame_keeps : (head : Head) (payload : List ℕ) (conn : State) → Keeps conn (frame_taken head payload conn)
unfolding frame_taken
frame_keeps head payload conn = keeps_behind conn (judged (is_misplaced head conn) (frame_at head payload)) (λ frame. acted head.length frame conn) (λ frame. acted_keeps head.length frame conn)
