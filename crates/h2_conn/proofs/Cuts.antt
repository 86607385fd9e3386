-- Bytes that come in pieces.
use Rattle.std.proofs.Common.{◌≡◌, ℕ, List, [], ◌∷◌, ◌++◌, refl, sym, ap, ◌∙◌, append_assoc}
use Rattle.list_types.specs.declared.memory.Refusal.{Refusal}
use Rattle.list_types.specs.declared.memory.Refusal.TheVariants as refusals
use Rattle.std.proofs.Common.{Result, Ok, Err}
use Rattle.h2_frames.specs.declared.codes.H2Code.{H2Code}
use Rattle.h2_conn.specs.declared.breach.Breach.{Breach}
use Rattle.h2_conn.specs.declared.event.Given.{Given}
use Rattle.h2_conn.specs.declared.event.H2Event.{H2Event}
use Rattle.h2_conn.specs.declared.state.State.{State}
use Rattle.h2_conn.specs.declared.phase.Phase.{Phase}
use Rattle.h2_conn.specs.declared.phase.Phase.TheVariants as phases
use Rattle.h2_conn.specs.Bytes.{bytes_taken, preface_taken, frame_bytes_taken, next, run, AnyCut, Settles}

-- events before those of a run
abbrev onto : List H2Event → Phase × List H2Event → Phase × List H2Event
onto events run = (run.0, events ++ run.1)

pub any_cut : AnyCut
unfolding run
any_cut phase [] second = refl
any_cut phase (byte ∷ first) second =
    let before = (next phase byte).1 in
    let middle = (run (next phase byte).0 first).1 in
    let last = run (run (next phase byte).0 first).0 second in
    let rest : ◌≡◌ {A = Phase × List H2Event} (run (next phase byte).0 (first ++ second)) (onto middle last) = any_cut (next phase byte).0 first second in
    let grouped : ◌≡◌ {A = Phase × List H2Event} (last.0, before ++ (middle ++ last.1)) (last.0, (before ++ middle) ++ last.1) = ap (λ (e : List H2Event). (last.0, e)) (sym (append_assoc before middle last.1)) in
    ap (onto before) rest ∙ grouped

pub broken : (code : H2Code) (output bytes : List ℕ) → ◌≡◌ {A = Phase × List H2Event} (run (phases.Broken code output) bytes) (phases.Broken code output, [])
unfolding run
broken code output [] = refl
broken code output (byte ∷ bytes) = broken code output bytes

-- what is kept does not count beside the bytes that are looked at
pub unaware : (kept bytes : List ℕ) (conn : State) → bytes_taken bytes (record conn { unread = kept }) ≡ bytes_taken bytes conn
unfolding preface_taken frame_bytes_taken
unaware kept bytes conn = refl

-- of the old connection it counts only what is to be sent
pub other_old : (result : Result Given (Refusal Breach)) (old other new : State) (taken : Result (State × Given) Breach) → old.outgoing.output ≡ other.outgoing.output → Settles result old new taken → Settles result other new taken
other_old (Ok x) old other new taken e t = t
other_old (Err refusals.NoMemory) old other new taken e t = tt
other_old (Err (refusals.For breach)) old other new taken e t = (t.0, t.1 ∙ e)

pub behind : (result : Result Given (Refusal Breach)) (conn new : State) (kept bytes old front : List ℕ) → bytes ≡ old ++ front → old ≡ conn.unread
    → Settles result (record conn { unread = kept }) new (bytes_taken bytes (record conn { unread = kept })) → Settles result conn new (bytes_taken (conn.unread ++ front) conn)
behind result conn new kept bytes old front e eo t =
    let whole : bytes ≡ conn.unread ++ front = e ∙ ap (λ x. x ++ front) eo in
    other_old result (record conn { unread = kept }) conn new (bytes_taken (conn.unread ++ front) conn) refl (rw (unaware kept bytes conn, whole) at t)
