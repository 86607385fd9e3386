-- All that happens to a connection.
use Rattle.std.proofs.Common.{◌≡◌, ℕ, ◌+◌, ◌≤◌, List, [], ◌∷◌, ◌++◌, length, take, drop, refl, sym, ap, ◌∙◌, append_assoc, inr, arith}
use Rattle.std.proofs.lemmas.Bool.{le-ltb}
use Rattle.std.proofs.lemmas.List.{length-append}
use Rattle.std.proofs.Math.Seq.{take-append_seam, drop-append_seam, take-length}
use Rattle.h2_frames.specs.Reading.{head_at}
use Rattle.h2_conn.specs.declared.state.State.{State}
use Rattle.h2_conn.specs.declared.event.H2Event.{H2Event}
use Rattle.h2_conn.specs.declared.phase.Phase.{Phase}
use Rattle.h2_conn.specs.Frames.{frame_taken}
use Rattle.h2_conn.specs.Bytes.{run, carried, span, bytes_taken, frame_bytes_taken, preface_taken, settled_by, last_stream}
use Rattle.h2_conn.specs.History.{Turn, step, history, AnyPieces, WholeFrame}
use Rattle.h2_conn.proofs.Cuts.{any_cut}
use Rattle.h2_conn.proofs.Turns.{turn, span_frame, if_true}

-- events before those of a history
abbrev onto : List H2Event → Phase × List H2Event → Phase × List H2Event
onto events run = (run.0, events ++ run.1)

-- what follows a run
abbrev then : List Turn → Phase × List H2Event → Phase × List H2Event
then after run = ((history run.0 after).0, run.1 ++ (history run.0 after).1)

pub any_pieces : AnyPieces
unfolding history
any_pieces phase [] after first second =
    let front = run phase first in
    let back = run front.0 second in
    let cut : ◌≡◌ {A = Phase × List H2Event} (run phase (first ++ second)) (back.0, front.1 ++ back.1) = any_cut phase first second in
    let grouped : ◌≡◌ {A = Phase × List H2Event} ((history back.0 after).0, (front.1 ++ back.1) ++ (history back.0 after).1) ((history back.0 after).0, front.1 ++ (back.1 ++ (history back.0 after).1)) =
    ap (λ (e : List H2Event). ((history back.0 after).0, e)) (append_assoc front.1 back.1 (history back.0 after).1) in
    ap (then after) cut ∙ grouped
any_pieces phase (turn ∷ before) after first second = ap (onto (step phase turn).1) (any_pieces (step phase turn).0 before after first second)

taken_whole : (conn : State) (head payload : List ℕ) → length head ≡ 9 → length payload ≡ (head_at head).length → length payload ≤ 16384
    → frame_bytes_taken (head ++ payload) conn ≡ settled_by (last_stream (head_at head) conn) (frame_taken (head_at head) payload (record conn { unread = [] }))
unfolding frame_bytes_taken
taken_whole conn head payload nine e short =
    let sum = length-append head payload in
    let front : take 9 (head ++ payload) ≡ head = ap (λ n. take n (head ++ payload)) (sym nine) ∙ take-append_seam head payload in
    let back : drop 9 (head ++ payload) ≡ payload = ap (λ n. drop n (head ++ payload)) (sym nine) ∙ drop-append_seam head payload in
    let whole : take (head_at head).length payload ≡ payload = ap (λ n. take n payload) (sym e) ∙ take-length payload in
    rw (le-ltb (length (head ++ payload)) 9 (omega (arith, sum)), front, le-ltb 16384 (head_at head).length (omega (arith, e)), le-ltb (length (head ++ payload)) (9 + (head_at head).length) (omega (arith, sum, e)), back, whole) refl

pub whole_frame : WholeFrame
whole_frame conn head payload greeted none nine e short =
    let sum = length-append head payload in
    let front : take 9 (head ++ payload) ≡ take 9 head = ap (λ n. take n (head ++ payload)) (sym nine) ∙ take-append_seam head payload ∙ sym (ap (λ n. take n head) (sym nine) ∙ take-length head) in
    let itself : take 9 head ≡ head = ap (λ n. take n head) (sym nine) ∙ take-length head in
    let within : length (head ++ payload) ≤ span (head ++ payload) = span_frame (head ++ payload) head front (rw itself (omega (arith, e))) (omega (arith, sum)) (rw itself (omega (arith, sum, e))) in
    let kept : conn.unread ++ (head ++ payload) ≡ head ++ payload = ap (λ x. x ++ (head ++ payload)) none in
    turn conn (head ++ payload) (omega (arith, sum)) (inr (greeted, rw kept within))
    ∙ ap (λ t. carried conn.outgoing.output t) (ap (λ b. bytes_taken b conn) kept ∙ if_true conn.greeted (frame_bytes_taken (head ++ payload) conn) (preface_taken (head ++ payload) conn) greeted ∙ taken_whole conn head payload nine e short)
