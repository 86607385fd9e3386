-- Frames that come one after another.
use Rattle.std.proofs.Common.{◌≡◌, ℕ, List, [], ◌∷◌, ◌++◌, Result, Ok, Err, refl, sym, ap, ◌∙◌, append_assoc}
use Rattle.std.specs.List.{flat_map}
use Rattle.std.proofs.lemmas.List.Elements.{All-head, All-tail}
use Rattle.h2_frames.specs.Reading.{head_at}
use Rattle.h2_frames.specs.Sequence.{Framed, framed_bytes}
use Rattle.h2_frames.specs.declared.codes.H2Code.{H2Code}
use Rattle.h2_conn.specs.declared.state.State.{State}
use Rattle.h2_conn.specs.declared.event.Given.{Given}
use Rattle.h2_conn.specs.declared.event.H2Event.{H2Event}
use Rattle.h2_conn.specs.declared.phase.Phase.{Phase}
use Rattle.h2_conn.specs.declared.phase.Phase.TheVariants as phases
use Rattle.h2_conn.specs.Frames.{frame_taken}
use Rattle.h2_conn.specs.Bytes.{with_goaway, run, carried, settled_by, last_stream}
use Rattle.h2_conn.specs.History.{frame_next, frames_run, IsShortFrame, WholeFrames}
use Rattle.h2_conn.proofs.Cuts.{any_cut, broken}
use Rattle.h2_conn.proofs.Histories.{whole_frame}
use Rattle.h2_conn.proofs.UnreadKept.{SameUnread, Keeps, frame_keeps}

-- what bytes behind a run make of it
abbrev then_bytes : List ℕ → Phase × List H2Event → Phase × List H2Event
then_bytes rest x = ((run x.0 rest).0, x.1 ++ (run x.0 rest).1)

-- events before those of a run
abbrev onto : List H2Event → Phase × List H2Event → Phase × List H2Event
onto events x = (x.0, events ++ x.1)

ended : (code : H2Code) (output : List ℕ) (frames : List Framed) → ◌≡◌ {A = Phase × List H2Event} (frames_run (phases.Broken code output) frames) (phases.Broken code output, [])
unfolding frames_run
ended code output [] = refl
ended code output (framed ∷ frames) = ended code output frames

-- frames, and then bytes, behind a connection that begins a frame or has ended
abbrev Follows : Phase → List Framed → List ℕ → Type 0
Follows phase frames rest = ◌≡◌ {A = Phase × List H2Event} (run phase (flat_map framed_bytes frames ++ rest)) (then_bytes rest (frames_run phase frames))

follows_end : (code : H2Code) (output : List ℕ) (frames : List Framed) (rest : List ℕ) → Follows (phases.Broken code output) frames rest
follows_end code output frames rest = broken code output (flat_map framed_bytes frames ++ rest) ∙ sym (ap (then_bytes rest) (ended code output frames) ∙ ap (onto []) (broken code output rest))

-- what follows a frame, whatever it made of the connection
follows : (conn : State) (output : List ℕ) (frames : List Framed) (rest : List ℕ) (last : ℕ) (taken : Result (State × Given) H2Code)
    → ((next : State) → SameUnread conn next → Follows (phases.Open next) frames rest) → Keeps conn taken → Follows (carried output (settled_by last taken)).0 frames rest
follows conn output frames rest last (Ok x) later k = later x.0 k
follows conn output frames rest last (Err code) later k = follows_end code (with_goaway (record { code = code; last_stream = last }) output) frames rest

first_frame : (phase : Phase) (framed : Framed) (frames : List Framed) (rest : List ℕ) → ◌≡◌ {A = Phase × List H2Event} (run phase (framed_bytes framed)) (frame_next phase framed)
    → Follows (frame_next phase framed).0 frames rest → Follows phase (framed ∷ frames) rest
unfolding frames_run
first_frame phase framed frames rest e later =
    let behind = flat_map framed_bytes frames ++ rest in
    let x = frame_next phase framed in
    let y = frames_run x.0 frames in
    let cut : ◌≡◌ {A = Phase × List H2Event} (run phase (framed_bytes framed ++ behind)) (then_bytes behind x) = any_cut phase (framed_bytes framed) behind ∙ ap (then_bytes behind) e in
    let grouped : ◌≡◌ {A = Phase × List H2Event} ((run y.0 rest).0, x.1 ++ (y.1 ++ (run y.0 rest).1)) ((run y.0 rest).0, (x.1 ++ y.1) ++ (run y.0 rest).1) = ap (λ (events : List H2Event). ((run y.0 rest).0, events)) (sym (append_assoc x.1 y.1 (run y.0 rest).1)) in
    ap (run phase) (append_assoc (framed_bytes framed) (flat_map framed_bytes frames) rest) ∙ cut ∙ ap (onto x.1) later ∙ grouped

pub whole_frames : WholeFrames
unfolding frames_run
whole_frames conn [] rest greeted none short = refl
whole_frames conn (framed ∷ frames) rest greeted none short =
    let is_short : IsShortFrame framed = All-head IsShortFrame framed frames short in
    let alone = whole_frame conn framed.head framed.payload greeted none is_short.is_framed.nine is_short.is_framed.whole is_short.short in
    let begins = record conn { unread = [] } in
    first_frame (phases.Open conn) framed frames rest alone
    (follows begins conn.outgoing.output frames rest (last_stream (head_at framed.head) conn) (frame_taken (head_at framed.head) framed.payload begins)
    (λ next s. whole_frames next frames rest (s.greeted ∙ greeted) s.unread (All-tail IsShortFrame framed frames short)) (frame_keeps (head_at framed.head) framed.payload begins))
