-- Header blocks that come in fragments.
use Rattle.std.proofs.Common.{◌≡◌, ℕ, ◌++◌, ◌<◌, ◌≤◌, Bool, true, false, List, length, Option, Some, None, Result, Ok, Err, refl, ap, ◌∙◌}
use Rattle.std.proofs.lemmas.Bool.{le-ltb, lt-leb}
use Rattle.std.specs.Prelude.{◌||◌, ◌==◌}
use Rattle.h2_frames.specs.declared.codes.H2Code.{H2Code}
use Rattle.h2_frames.specs.declared.codes.H2Code.TheVariants as codes
use Rattle.h2_frames.specs.declared.frame.Frame.{Frame}
use Rattle.h2_frames.specs.declared.frame.Frame.TheVariants as frames
use Rattle.h2_frames.specs.declared.head.Head.{Head}
use Rattle.h2_frames.specs.Codes.{end_headers_flag}
use Rattle.list_types.specs.Results.{◌>>=◌, unless}
use Rattle.h2_frames.specs.Reading.{has, frame_at, continuation_at}
use Rattle.h2_streams.specs.declared.stream.Stream.{Stream}
use Rattle.h2_conn.specs.declared.state.State.{State}
use Rattle.h2_conn.specs.declared.state.HeaderBlock.{HeaderBlock}
use Rattle.h2_conn.specs.declared.event.Given.{Given}
use Rattle.list_types.specs.declared.memory.Refusal.{Refusal}
use Rattle.list_types.specs.declared.memory.Refusal.TheVariants as refusals
use Rattle.h2_conn.specs.Frames.{Takes, is_misplaced, judged, acted, frame_taken, block_taken, fragment_taken, headers_taken, continuation_taken, is_crowded, skipped_before}

pub whole_block : (end_headers : Bool) (block : HeaderBlock) (conn : State) → length block.fragment ≤ 262144 → end_headers ≡ true → fragment_taken end_headers block conn ≡ block_taken block conn
unfolding fragment_taken
whole_block end_headers block conn short e = rw (le-ltb 262144 (length block.fragment) short, e) refl

pub on_kept : (end_headers : Bool) (block : HeaderBlock) (conn : State) (found : Option Stream) (stream : Stream) → found ≡ Some stream → stream.peer_ended ≡ false → headers_taken end_headers block conn found ≡ fragment_taken end_headers block conn
unfolding headers_taken
on_kept end_headers block conn found stream ef e = rw (ef, e) refl

pub on_new : (end_headers : Bool) (block : HeaderBlock) (conn : State) (found : Option Stream) → found ≡ None → conn.greatest < block.stream → is_crowded conn ≡ false
    → headers_taken end_headers block conn found ≡ fragment_taken end_headers block (record conn { greatest = block.stream; skipped = skipped_before block.stream conn })
unfolding headers_taken
on_new end_headers block conn found ef lt e = rw (ef, lt-leb block.stream conn.greatest lt, e) refl

pub on_block : (end_headers : Bool) (fragment : List ℕ) (conn : State) (found : Option HeaderBlock) (block next : HeaderBlock) → found ≡ Some block → next ≡ record block { fragment = block.fragment ++ fragment }
    → continuation_taken end_headers fragment conn found ≡ fragment_taken end_headers next (record conn { block = None })
unfolding continuation_taken
on_block end_headers fragment conn found block next ef en = rw (ef, en) refl

-- of the old connection it counts only what is to be sent
pub other_old : {X : Type 0} → (result : Result X (Refusal H2Code)) (old other new : State) (taken : Result (State × X) H2Code) → old.outgoing.output ≡ other.outgoing.output → Takes result old new taken → Takes result other new taken
other_old (Ok x) old other new taken e t = t
other_old (Err refusals.NoMemory) old other new taken e t = tt
other_old (Err (refusals.For code)) old other new taken e t = (t.0, t.1 ∙ e)

-- CONTINUATION that may stand where it does goes on with the header block
judged_then : (misplaced off : Bool) (frame : Frame) (f : Frame → Result (State × Given) H2Code) → (judged misplaced (unless off codes.ProtocolError (Ok frame)) >>= f) ≡ unless (misplaced || off) codes.ProtocolError (f frame)
unfolding judged
judged_then true true frame f = refl
judged_then true false frame f = refl
judged_then false true frame f = refl
judged_then false false frame f = refl

continuation_frame : (head : Head) (payload : List ℕ) → head.kind ≡ 9 → frame_at head payload ≡ unless (head.stream == 0) codes.ProtocolError (Ok (frames.Continuation head.stream (has head.flags end_headers_flag) payload))
unfolding frame_at continuation_at
continuation_frame head payload e = rw e refl

pub continuing : (head : Head) (payload : List ℕ) (conn : State) → head.kind ≡ 9 → frame_taken head payload conn ≡ unless (is_misplaced head conn || head.stream == 0) codes.ProtocolError (continuation_taken (has head.flags end_headers_flag) payload conn conn.block)
unfolding frame_taken acted
continuing head payload conn e =
    ap (λ (read : Result Frame H2Code). judged (is_misplaced head conn) read >>= (λ frame. acted head.length frame conn)) (continuation_frame head payload e)
    ∙ judged_then (is_misplaced head conn) (head.stream == 0) (frames.Continuation head.stream (has head.flags end_headers_flag) payload) (λ frame. acted head.length frame conn)
