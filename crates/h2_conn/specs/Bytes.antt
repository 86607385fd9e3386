-- A connection over the bytes that it receives (RFC 9113, sections 3.4 and 4.1). It is said byte by byte, so that it does not matter how the bytes are cut.
use Rattle.std.specs.Prelude.{◌≡◌, ◌≤◌, ◌<◌, ◌⊎◌, true, ℕ, ◌+◌, ◌==◌, nat_eq, nat_lt, max, codes, if◌then◌else◌, Bool, List, [], ◌∷◌, ◌++◌, length, take, drop, Option, Some, None, Result, Ok, Err}
use Rattle.std.specs.List.{starts_with}
use Rattle.list_types.specs.declared.memory.Refusal.{Refusal}
use Rattle.list_types.specs.declared.memory.Refusal.TheVariants as refusals
use Rattle.h2_frames.specs.declared.codes.H2Code.{H2Code}
use Rattle.h2_frames.specs.declared.codes.H2Code.TheVariants as h2_codes
use Rattle.h2_frames.specs.declared.frame.Frame.TheVariants as frames
use Rattle.h2_frames.specs.declared.head.Head.{Head}
use Rattle.h2_frames.specs.Codes.{code_number}
use Rattle.h2_frames.specs.Layout.{spelling}
use Rattle.h2_frames.specs.Reading.{head_at}
use Rattle.h2_conn.specs.declared.state.State.{State}
use Rattle.h2_conn.specs.declared.event.H2Event.{H2Event}
use Rattle.h2_conn.specs.declared.event.H2Event.TheVariants as events
use Rattle.h2_conn.specs.declared.event.Given.{Given}
use Rattle.h2_conn.specs.declared.breach.Breach.{Breach}
use Rattle.h2_conn.specs.declared.phase.Phase.{Phase}
use Rattle.h2_conn.specs.declared.phase.Phase.TheVariants as phases
use Rattle.h2_conn.specs.Frames.{frame_taken, fresh_state, greeting}
use Rattle.list_types.specs.declared.memory.NoMemory.{NoMemory}

-- the 24 bytes with which a client begins
abbrev pub preface : List ℕ
preface = codes "PRI * HTTP/2.0\r\n\r\nSM\r\n\r\n"

-- the items of an option
abbrev pub option_list : Option H2Event → List H2Event
option_list None = []
option_list (Some event) = event ∷ []

-- the end of a stream, if there is one
abbrev pub ends_of : Option ℕ → List H2Event
ends_of None = []
ends_of (Some stream) = events.End stream ∷ []

-- what a frame gave, as events
abbrev pub events_of : Given → List H2Event
events_of given = option_list given.event ++ ends_of given.end_of

-- GOAWAY for a breach, at the end of what is to be sent
abbrev pub with_goaway : Breach → List ℕ → List ℕ
with_goaway breach output = output ++ spelling (frames.GoAway breach.last_stream (code_number breach.code) [])

-- the greatest stream of any HEADERS frame, also of one that breaks a rule
abbrev pub last_stream : Head → State → ℕ
last_stream head conn = if head.kind == 1 then max conn.greatest head.stream else conn.greatest

-- what a frame does to a connection, where a breach names the last stream
abbrev pub settled_by : ℕ → Result (State × Given) H2Code → Result (State × Given) Breach
settled_by last (Ok x) = Ok x
settled_by last (Err code) = Err (record { code = code; last_stream = last })

-- these bytes are kept until more come
abbrev pub waiting_for_more : List ℕ → State → Result (State × Given) Breach
waiting_for_more bytes conn = Ok (record conn { unread = bytes }, record { event = None; end_of = None })

-- bytes of the preface: the first wrong one breaks the rule
unfoldable pub preface_taken : List ℕ → State → Result (State × Given) Breach
preface_taken bytes conn =
    if starts_with nat_eq preface bytes
    then (if length bytes == 24 then Ok (record conn { greeted = true; unread = [] }, record { event = None; end_of = None }) else waiting_for_more bytes conn)
    else Err (record { code = h2_codes.ProtocolError; last_stream = conn.greatest })

-- Bytes behind the preface: a head that is whole breaks the rule on lengths, and a frame that is whole does what it does.
unfoldable pub frame_bytes_taken : List ℕ → State → Result (State × Given) Breach
frame_bytes_taken bytes conn =
    if nat_lt (length bytes) 9 then waiting_for_more bytes conn
    else if nat_lt 16384 (head_at (take 9 bytes)).length then Err (record { code = h2_codes.FrameSizeError; last_stream = conn.greatest })
    else if nat_lt (length bytes) (9 + (head_at (take 9 bytes)).length) then waiting_for_more bytes conn
    else settled_by (last_stream (head_at (take 9 bytes)) conn) (frame_taken (head_at (take 9 bytes)) (take (head_at (take 9 bytes)).length (drop 9 bytes)) (record conn { unread = [] }))

-- the bytes that have come since the last whole frame
abbrev pub bytes_taken : List ℕ → State → Result (State × Given) Breach
bytes_taken bytes conn = if conn.greeted then frame_bytes_taken bytes conn else preface_taken bytes conn

-- a connection that goes on, or ends with GOAWAY, and the events that it gives
abbrev pub carried : List ℕ → Result (State × Given) Breach → Phase × List H2Event
carried output (Ok x) = (phases.Open x.0, events_of x.1)
carried output (Err breach) = (phases.Broken breach.code (with_goaway breach output), [])

-- the next byte
abbrev pub next : Phase → ℕ → Phase × List H2Event
next (phases.Open conn) byte = carried conn.outgoing.output (bytes_taken (conn.unread ++ byte ∷ []) conn)
next (phases.Broken code output) byte = (phases.Broken code output, [])
next phases.OutOfMemory byte = (phases.OutOfMemory, [])

-- Bytes, one after another: what the connection is behind them, and all events that they give.
unfoldable pub run : Phase → List ℕ → Phase × List H2Event
run phase [] = (phase, [])
run phase (byte ∷ bytes) = ((run (next phase byte).0 bytes).0, (next phase byte).1 ++ (run (next phase byte).0 bytes).1)

-- the code of a connection that a breach ended
abbrev pub code_of : Phase → Option H2Code
code_of (phases.Open conn) = None
code_of (phases.Broken code output) = Some code
code_of phases.OutOfMemory = None

-- a connection of which nothing has come
abbrev pub opening : Phase
opening = phases.Open (greeting fresh_state)

-- the bytes that are to be sent
abbrev pub output_of : Phase → List ℕ
output_of (phases.Open conn) = conn.outgoing.output
output_of (phases.Broken code output) = output
output_of phases.OutOfMemory = []

-- the connection once they are taken
abbrev pub without_output : Phase → Phase
without_output (phases.Open conn) = phases.Open (record conn { outgoing = record conn.outgoing { output = [] } })
without_output (phases.Broken code output) = phases.Broken code []
without_output phases.OutOfMemory = phases.OutOfMemory

-- What bytes give: the events and the connection that they lead to, and its code if a breach ended it. Without memory the connection is lost, but not one that a breach has ended, whose code is told again.
abbrev pub Feeds : Result (List H2Event × Option H2Code) NoMemory → Phase → Phase → List ℕ → Type 0
Feeds (Ok x) old new piece = (◌≡◌ {A = Phase × List H2Event} (new, x.0) (run old piece)) × (x.1 ≡ code_of new) × ¬ (old ≡ phases.OutOfMemory)
Feeds (Err e) old new piece = (new ≡ phases.OutOfMemory) × (code_of old ≡ None)

-- each of these bytes but the last gives no event, and sends nothing
unfoldable pub AreQuietToLast : Phase → List ℕ → Type 0
AreQuietToLast phase [] = Unit {0}
AreQuietToLast phase (byte ∷ []) = Unit {0}
AreQuietToLast phase (byte ∷ second ∷ rest) = ((next phase byte).1 ≡ []) × (output_of (next phase byte).0 ≡ output_of phase) × AreQuietToLast (next phase byte).0 (second ∷ rest)

-- What the first bytes of a piece give, of which there is one at least if the piece has one, and of which only the last gives anything.
abbrev pub FeedsSome : Result (ℕ × List H2Event × Option H2Code) NoMemory → Phase → Phase → List ℕ → Type 0
FeedsSome (Ok x) old new piece = (x.0 ≤ length piece) × (0 < length piece → 0 < x.0) × Feeds (Ok (x.1, x.2)) old new (take x.0 piece) × AreQuietToLast old (take x.0 piece)
FeedsSome (Err e) old new piece = Feeds (Err e) old new piece

-- Cutting bytes in two changes nothing: not the connection behind them, not the events, one part after the other.
abbrev pub AnyCut : Type 0
AnyCut = (phase : Phase) (first second : List ℕ) → ◌≡◌ {A = Phase × List H2Event} (run phase (first ++ second)) ((run (run phase first).0 second).0, (run phase first).1 ++ (run (run phase first).0 second).1)

-- What a function made of bytes is what the definition says. Want of memory may come at any time. Where a rule is broken, what is to be sent stands as before.
abbrev pub Settles : Result Given (Refusal Breach) → State → State → Result (State × Given) Breach → Type 0
Settles (Ok x) old new taken = taken ≡ Ok (new, x)
Settles (Err refusals.NoMemory) old new taken = Unit {0}
Settles (Err (refusals.For breach)) old new taken = (taken ≡ Err breach) × (new.outgoing.output ≡ old.outgoing.output)

-- the same of a function that leaves it to its caller to keep bytes until more come
abbrev pub Looks : Result (Option Given) (Refusal Breach) → State → State → List ℕ → Type 0
Looks (Ok (Some x)) old new bytes = frame_bytes_taken bytes old ≡ Ok (new, x)
Looks (Ok None) old new bytes = (frame_bytes_taken bytes old ≡ waiting_for_more bytes old) × (new ≡ old)
Looks (Err refusals.NoMemory) old new bytes = Unit {0}
Looks (Err (refusals.For breach)) old new bytes = (frame_bytes_taken bytes old ≡ Err breach) × (new.outgoing.output ≡ old.outgoing.output)

-- the most bytes that are looked at together: a head, and where that is known and not too long the frame
abbrev pub span : List ℕ → ℕ
span bytes = if nat_lt (length bytes) 9 then 9 else if nat_lt 16384 (head_at (take 9 bytes)).length then 9 else 9 + (head_at (take 9 bytes)).length

-- Looking at so many bytes at once is as good as one by one: there is but one, or no front of them all is a whole frame.
abbrev pub IsTurn : Bool → List ℕ → ℕ → Type 0
IsTurn greeted bytes count = (count ≡ 1) ⊎ ((greeted ≡ true) × (length bytes ≤ span bytes))

-- what a piece makes of a connection, and the events that it gives behind those before
abbrev pub Advances : Result Unit (Refusal Breach) → State → List H2Event → List H2Event → Phase × List H2Event → Type 0
Advances (Ok x) new before after whole = (whole.0 ≡ phases.Open new) × (after ≡ before ++ whole.1)
Advances (Err refusals.NoMemory) new before after whole = Unit {0}
Advances (Err (refusals.For breach)) new before after whole = (whole.0 ≡ phases.Broken breach.code (with_goaway breach new.outgoing.output)) × (after ≡ before ++ whole.1)
