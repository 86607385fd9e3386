-- A connection over all that happens to it: the bytes that come, however they are cut, and what this side sends between them.
use Rattle.std.specs.Prelude.{◌≡◌, ◌≤◌, true, ℕ, Bool, List, [], ◌∷◌, ◌++◌, length, All}
use Rattle.std.specs.List.{flat_map}
use Rattle.hpack_tables.specs.declared.header.Header.{Header}
use Rattle.h2_frames.specs.Reading.{head_at}
use Rattle.h2_frames.specs.Sequence.{Framed, framed_bytes, IsFramed}
use Rattle.h2_conn.specs.declared.state.State.{State}
use Rattle.h2_conn.specs.declared.event.H2Event.{H2Event}
use Rattle.h2_conn.specs.declared.phase.Phase.{Phase}
use Rattle.h2_conn.specs.declared.phase.Phase.TheVariants as phases
use Rattle.h2_conn.specs.Frames.{frame_taken}
use Rattle.h2_conn.specs.Bytes.{run, without_output, carried, settled_by, last_stream}
use Rattle.h2_conn.specs.Sends.{headers_sent, data_sent}

-- what happens to a connection
pub data Turn : Type 0 where
  Received : List ℕ → Turn
  HeadersSent : ℕ → List Header → Bool → Turn
  DataSent : ℕ → List ℕ → Turn
  OutputTaken : Turn

-- what one of these makes of a connection, and the events that it gives
abbrev pub step : Phase → Turn → Phase × List H2Event
step phase (Received bytes) = run phase bytes
step phase (HeadersSent stream headers end_stream) = (headers_sent stream headers end_stream phase, [])
step phase (DataSent stream bytes) = (data_sent stream bytes phase, [])
step phase OutputTaken = (without_output phase, [])

-- what they make of it one after another, and all events that they give
unfoldable pub history : Phase → List Turn → Phase × List H2Event
history phase [] = (phase, [])
history phase (turn ∷ turns) = ((history (step phase turn).0 turns).0, (step phase turn).1 ++ (history (step phase turn).0 turns).1)

-- It does not matter how bytes that come between two sends are cut, whatever happened before and happens after.
abbrev pub AnyPieces : Type 0
AnyPieces = (phase : Phase) (before after : List Turn) (first second : List ℕ)
    → ◌≡◌ {A = Phase × List H2Event} (history phase (before ++ Received (first ++ second) ∷ after)) (history phase (before ++ Received first ∷ Received second ∷ after))

-- The bytes of a whole frame, nine of head and its payload, of at most 16,384 bytes, do what the frame does.
abbrev pub WholeFrame : Type 0
WholeFrame = (conn : State) (head payload : List ℕ) → conn.greeted ≡ true → conn.unread ≡ [] → length head ≡ 9 → length payload ≡ (head_at head).length → length payload ≤ 16384
    → ◌≡◌ {A = Phase × List H2Event} (run (phases.Open conn) (head ++ payload)) (carried conn.outgoing.output (settled_by (last_stream (head_at head) conn) (frame_taken (head_at head) payload (record conn { unread = [] }))))

-- what a whole frame makes of a connection, and the events that it gives
abbrev pub frame_next : Phase → Framed → Phase × List H2Event
frame_next (phases.Open conn) framed = carried conn.outgoing.output (settled_by (last_stream (head_at framed.head) conn) (frame_taken (head_at framed.head) framed.payload (record conn { unread = [] })))
frame_next (phases.Broken code output) framed = (phases.Broken code output, [])
frame_next phases.OutOfMemory framed = (phases.OutOfMemory, [])

-- what whole frames make of it one after another, and all events that they give
unfoldable pub frames_run : Phase → List Framed → Phase × List H2Event
frames_run phase [] = (phase, [])
frames_run phase (framed ∷ frames) = ((frames_run (frame_next phase framed).0 frames).0, (frame_next phase framed).1 ++ (frames_run (frame_next phase framed).0 frames).1)

-- a frame whose payload has at most 16,384 bytes
pub record IsShortFrame (framed : Framed) : Type 0 where
  pub is_framed : IsFramed framed
  pub short : length framed.payload ≤ 16384

-- Bytes that are whole frames, and others behind them, do what the frames do one after another, and then what the others do.
abbrev pub WholeFrames : Type 0
WholeFrames = (conn : State) (frames : List Framed) (rest : List ℕ) → conn.greeted ≡ true → conn.unread ≡ [] → All IsShortFrame frames
    → ◌≡◌ {A = Phase × List H2Event} (run (phases.Open conn) (flat_map framed_bytes frames ++ rest)) ((run (frames_run (phases.Open conn) frames).0 rest).0, (frames_run (phases.Open conn) frames).1 ++ (run (frames_run (phases.Open conn) frames).0 rest).1)
