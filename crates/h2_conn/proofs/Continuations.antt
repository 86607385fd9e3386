-- CONTINUATION whose payload is gathered behind its header block.
use Rattle.std.proofs.Common.{◌≡◌, ℕ, ◌+◌, ◌<◌, ◌≤◌, Bool, true, false, List, [], ◌++◌, length, take, drop, Option, Some, None, Result, Ok, Err, refl, sym, ap, ◌∙◌, append_assoc, inl, inr, subst, arith}
use Rattle.std.specs.Prelude.{◌==◌, ◌||◌, ◌&&◌, not, if◌then◌else◌}
use Rattle.std.proofs.lemmas.Bool.{le-ltb, lt-ltb, eq-eqb, eqb-true}
use Rattle.std.proofs.lemmas.List.{append-nil, length-append, take-append-le, drop-append-le, take-append-drop}
use Rattle.std.proofs.Math.Seq.{take-append_seam, take-length, drop-length}
use Rattle.list_types.specs.declared.memory.Refusal.{Refusal}
use Rattle.list_types.specs.declared.memory.Refusal.TheVariants as refusals
use Rattle.h2_frames.specs.declared.codes.H2Code.{H2Code}
use Rattle.h2_frames.specs.declared.codes.H2Code.TheVariants as codes
use Rattle.h2_frames.specs.declared.head.Head.{Head}
use Rattle.h2_frames.specs.Codes.{end_headers_flag}
use Rattle.list_types.specs.Results.{unless}
use Rattle.h2_frames.specs.Reading.{has, head_at}
use Rattle.h2_conn.specs.declared.state.State.{State}
use Rattle.h2_conn.specs.declared.state.HeaderBlock.{HeaderBlock}
use Rattle.h2_conn.specs.declared.receiver.PartialContinuation.{PartialContinuation}
use Rattle.h2_conn.specs.declared.breach.Breach.{Breach}
use Rattle.h2_conn.specs.declared.event.Given.{Given}
use Rattle.h2_streams.specs.declared.stream.Stream.{Stream}
use Rattle.h2_streams.specs.declared.stream.Waiting.{Waiting}
use Rattle.h2_streams.specs.Streams.{queued, changed}
use Rattle.h2_conn.specs.Sends.{queued_on}
use Rattle.h2_conn.specs.Frames.{Takes, breaks_block, flushing, is_misplaced, frame_taken, fragment_taken, continuation_taken}
use Rattle.h2_conn.specs.Bytes.{settled_by, last_stream, waiting_for_more, frame_bytes_taken, preface_taken, bytes_taken, span, IsTurn, Settles}
use Rattle.h2_conn.specs.Continuations.{block_of, payload_of, with_continuation, GoesOn, IsInOrder}
use Rattle.h2_conn.proofs.Apart.{behind_head}
use Rattle.h2_conn.proofs.HeaderSteps.{continuing}
use Rattle.h2_conn.proofs.Cuts.{unaware, other_old, behind}
use Rattle.h2_conn.proofs.Turns.{if_true}

-- ---- what is unread

-- the head stands at the front of the unread bytes
pub head_in_front : (head rest : List ℕ) → length head ≡ 9 → take 9 (head ++ rest) ≡ head
head_in_front head rest nine = ap (λ n. take n (head ++ rest)) (sym nine) ∙ take-append_seam head rest

-- the first nine of nine bytes are all
pub nine_of_nine : (head : List ℕ) → length head ≡ 9 → take 9 head ≡ head
nine_of_nine head nine = ap (λ n. take n head) (sym nine) ∙ take-length head

pub unread_length : (continuation : PartialContinuation) (conn : State) → GoesOn continuation conn → length (with_continuation (Some continuation) conn).unread ≡ 9 + length (payload_of continuation)
unread_length continuation conn goes = length-append conn.unread (payload_of continuation) ∙ ap (λ n. n + length (payload_of continuation)) goes.nine

-- ---- what a frame does that is gathered

-- what a head says of the length is what the first nine bytes say
shorter : (bytes : List ℕ) (head : Head) (n : ℕ) → head_at (take 9 bytes) ≡ head → head.length ≤ n → (head_at (take 9 bytes)).length ≤ n
shorter bytes head n e le = omega (arith, ap (λ (h : Head). h.length) e, le)

frame_in_front : (bytes : List ℕ) (conn : State) → 9 ≤ length bytes → (head_at (take 9 bytes)).length ≤ 16384 → 9 + (head_at (take 9 bytes)).length ≤ length bytes
    → frame_bytes_taken bytes conn ≡ settled_by (last_stream (head_at (take 9 bytes)) conn) (frame_taken (head_at (take 9 bytes)) (take (head_at (take 9 bytes)).length (drop 9 bytes)) (record conn { unread = [] }))
unfolding frame_bytes_taken
frame_in_front bytes conn ge short whole =
    rw (le-ltb (length bytes) 9 ge, le-ltb 16384 (head_at (take 9 bytes)).length short, le-ltb (length bytes) (9 + (head_at (take 9 bytes)).length) whole) refl

apart_frame : (bytes payload : List ℕ) (head : Head) (conn : State) → head_at (take 9 bytes) ≡ head → 9 ≤ length bytes → head.length ≤ 16384 → 9 + head.length ≤ length bytes → take head.length (drop 9 bytes) ≡ payload
    → frame_bytes_taken bytes conn ≡ settled_by (last_stream head conn) (frame_taken head payload (record conn { unread = [] }))
apart_frame bytes payload head conn e ge short whole ep =
    frame_in_front bytes conn ge (shorter bytes head 16384 e short) (omega (arith, ap (λ (h : Head). h.length) e, whole))
    ∙ ap (λ (h : Head). settled_by (last_stream h conn) (frame_taken h (take h.length (drop 9 bytes)) (record conn { unread = [] }))) e
    ∙ ap (λ (p : List ℕ). settled_by (last_stream head conn) (frame_taken head p (record conn { unread = [] }))) ep

short_frame : (bytes : List ℕ) (head : Head) (conn : State) → head_at (take 9 bytes) ≡ head → 9 ≤ length bytes → head.length ≤ 16384 → length bytes < 9 + head.length
    → frame_bytes_taken bytes conn ≡ waiting_for_more bytes conn
unfolding frame_bytes_taken
short_frame bytes head conn e ge short few =
    let less : length bytes < 9 + (head_at (take 9 bytes)).length = omega (arith, ap (λ (h : Head). h.length) e, few) in
    rw (le-ltb (length bytes) 9 ge, le-ltb 16384 (head_at (take 9 bytes)).length (shorter bytes head 16384 e short), lt-ltb (length bytes) (9 + (head_at (take 9 bytes)).length) less) refl

-- a frame of which bytes are missing is kept
pub waits : (continuation : PartialContinuation) (conn : State) → GoesOn continuation conn → length (payload_of continuation) < continuation.head.length
    → bytes_taken (with_continuation (Some continuation) conn).unread (with_continuation (Some continuation) conn) ≡ Ok (with_continuation (Some continuation) conn, record { event = None; end_of = None })
waits continuation conn goes few =
    let seen = with_continuation (Some continuation) conn in
    let long = unread_length continuation conn goes in
    let front : head_at (take 9 seen.unread) ≡ continuation.head = ap head_at (head_in_front conn.unread (payload_of continuation) goes.nine) ∙ sym goes.head in
    if_true seen.greeted (frame_bytes_taken seen.unread seen) (preface_taken seen.unread seen) goes.greeted
    ∙ short_frame seen.unread continuation.head seen front (omega (arith, long)) goes.short (omega (arith, long, few))

in_place : (head : Head) (conn : State) (block : HeaderBlock) → conn.block ≡ Some block → conn.settled ≡ true → head.kind ≡ 9 → head.stream ≡ block.stream → is_misplaced head conn ≡ false
in_place head conn block eb es ek e = rw (eb, es, ek, eq-eqb head.stream block.stream e) refl

not_zero_if : (b : Bool) (n : ℕ) → (n == 0) ≡ b → 0 < n → b ≡ false
not_zero_if true n e lt = absurd (omega (arith, eqb-true n 0 e, lt))
not_zero_if false n e lt = refl

not_zero : (n : ℕ) → 0 < n → (n == 0) ≡ false
not_zero n lt = not_zero_if (n == 0) n refl lt

unbroken : {A : Type 0} → (a b : Bool) (read : Result A H2Code) → a ≡ false → b ≡ false → unless (a || b) codes.ProtocolError read ≡ read
unbroken true b read ea eb = absurd cc
unbroken false true read ea eb = absurd cc
unbroken false false read ea eb = refl

continued : (head : Head) (payload : List ℕ) (conn : State) (block : HeaderBlock) → conn.block ≡ Some block → conn.settled ≡ true → head.kind ≡ 9 → head.stream ≡ block.stream → 0 < head.stream
    → frame_taken head payload conn ≡ fragment_taken (has head.flags end_headers_flag) (record block { fragment = block.fragment ++ payload }) (record conn { block = None })
unfolding continuation_taken
continued head payload conn block eb es ek e lt =
    continuing head payload conn ek
    ∙ unbroken (is_misplaced head conn) (head.stream == 0) (continuation_taken (has head.flags end_headers_flag) payload conn conn.block) (in_place head conn block eb es ek e) (not_zero head.stream lt)
    ∙ ap (λ b. continuation_taken (has head.flags end_headers_flag) payload conn b) eb

not_headers : (head : Head) (conn : State) → head.kind ≡ 9 → last_stream head conn ≡ conn.greatest
not_headers head conn e = rw e refl

-- a frame that is whole ends the block, or goes on with it
goes_on : (continuation : PartialContinuation) (conn : State) → GoesOn continuation conn → length (payload_of continuation) ≡ continuation.head.length
    → bytes_taken (with_continuation (Some continuation) conn).unread (with_continuation (Some continuation) conn) ≡ settled_by conn.greatest (fragment_taken (has continuation.head.flags end_headers_flag) continuation.block (record conn { unread = []; block = None }))
goes_on continuation conn goes whole =
    let seen = with_continuation (Some continuation) conn in
    let head = continuation.head in
    let payload = payload_of continuation in
    let long = unread_length continuation conn goes in
    let front : head_at (take 9 seen.unread) ≡ head = ap head_at (head_in_front conn.unread payload goes.nine) ∙ sym goes.head in
    let back : take head.length (drop 9 seen.unread) ≡ payload = ap (λ x. take head.length x) (behind_head conn.unread payload goes.nine) ∙ ap (λ n. take n payload) (sym whole) ∙ take-length payload in
    let longer : record (block_of continuation) { fragment = (block_of continuation).fragment ++ payload } ≡ continuation.block =
    ap (λ x. record continuation.block { fragment = x }) (take-append-drop continuation.before continuation.block.fragment) in
    if_true seen.greeted (frame_bytes_taken seen.unread seen) (preface_taken seen.unread seen) goes.greeted
    ∙ apart_frame seen.unread payload head seen front (omega (arith, long)) goes.short (omega (arith, long, whole)) back
    ∙ ap (λ n. settled_by n (frame_taken head payload (record seen { unread = [] }))) (not_headers head seen goes.kind)
    ∙ ap (λ t. settled_by conn.greatest t) (continued head payload (record seen { unread = [] }) (block_of continuation) refl goes.settled goes.kind goes.stream goes.opened)
    ∙ ap (λ b. settled_by conn.greatest (fragment_taken (has head.flags end_headers_flag) b (record conn { unread = []; block = None }))) longer

pub whole_taken : (continuation : PartialContinuation) (conn cleared : State) (end_headers : Bool) → GoesOn continuation conn → length (payload_of continuation) ≡ continuation.head.length
    → end_headers ≡ has continuation.head.flags end_headers_flag → cleared ≡ record conn { unread = [] }
    → bytes_taken (with_continuation (Some continuation) conn).unread (with_continuation (Some continuation) conn) ≡ settled_by conn.greatest (fragment_taken end_headers continuation.block cleared)
whole_taken continuation conn cleared end_headers goes whole ee ec =
    let same : record conn { unread = []; block = None } ≡ cleared = ap (λ (b : Option HeaderBlock). record conn { unread = []; block = b }) (sym goes.lent) ∙ sym ec in
    goes_on continuation conn goes whole
    ∙ ap (λ f. settled_by conn.greatest (fragment_taken f continuation.block (record conn { unread = []; block = None }))) (sym ee)
    ∙ ap (λ s. settled_by conn.greatest (fragment_taken end_headers continuation.block s)) same

-- a breach of the frame is one of the bytes
pub whole_broken : (code : H2Code) (refused : Refusal H2Code) (other old new : State) (taken : Result (State × Given) H2Code) (all : Result (State × Given) Breach) (last : ℕ) → refused ≡ refusals.For code
    → all ≡ settled_by last taken → Takes {X = Given} (Err refused) old new taken → other.outgoing.output ≡ old.outgoing.output → Settles (Err (refusals.For (record { code = code; last_stream = last }))) other new all
whole_broken code refused other old new taken all last e ea t eo =
    let known : Takes {X = Given} (Err (refusals.For code)) old new taken = subst (λ (r : Refusal H2Code). Takes {X = Given} (Err r) old new taken) e t in
    (ea ∙ ap (λ x. settled_by last x) known.0, known.1 ∙ sym eo)

-- ---- the header block that is lent

not_and : (a b : Bool) → not (a && b) ≡ false → b ≡ true
not_and true true e = refl
not_and true false e = absurd cc
not_and false b e = absurd cc

-- the head is that of CONTINUATION of this block
pub same_stream : (head : Head) (found : Option HeaderBlock) (block : HeaderBlock) → found ≡ Some block → breaks_block head found ≡ false → head.stream ≡ block.stream
same_stream head None block ef e = absurd cc
same_stream head (Some other) block ef e =
    let same : other ≡ block = cc in
    eqb-true head.stream other.stream (not_and (head.kind == 9) (head.stream == other.stream) e) ∙ ap (λ (b : HeaderBlock). b.stream) same

-- no byte of the payload has come yet
begun : (head : Head) (conn : State) (block : HeaderBlock) (before : ℕ) → before ≡ length block.fragment
    → with_continuation (Some (record { head = head; block = block; before = before })) (record conn { block = None }) ≡ record conn { block = Some block }
begun head conn block before el = rw (el, take-length block.fragment, drop-length block.fragment, append-nil conn.unread) refl

pub lends : (head : Head) (conn : State) (block : HeaderBlock) (before : ℕ) → conn.block ≡ Some block → before ≡ length block.fragment
    → with_continuation (Some (record { head = head; block = block; before = before })) (record conn { block = None }) ≡ conn
lends head conn block before eb el = begun head conn block before el ∙ ap (λ (b : Option HeaderBlock). record conn { block = b }) (sym eb)

-- ---- more bytes

pub in_order : (found : Option PartialContinuation) (continuation : PartialContinuation) (conn : State) → Some continuation ≡ found → IsInOrder found conn → IsInOrder (Some continuation) conn
in_order found continuation conn e order = subst (λ (f : Option PartialContinuation). IsInOrder f conn) (sym e) order

-- the same with more bytes behind its own
abbrev pub IsLonger : PartialContinuation → PartialContinuation → List ℕ → Type 0
IsLonger continuation next bytes = next ≡ record continuation { block = record continuation.block { fragment = continuation.block.fragment ++ bytes } }

longer : (continuation next : PartialContinuation) (conn : State) (bytes : List ℕ) → GoesOn continuation conn → IsLonger continuation next bytes
    → with_continuation (Some next) conn ≡ record (with_continuation (Some continuation) conn) { unread = (with_continuation (Some continuation) conn).unread ++ bytes }
longer continuation next conn bytes goes e =
    rw (e, take-append-le continuation.before continuation.block.fragment bytes goes.within, drop-append-le continuation.before continuation.block.fragment bytes goes.within, append_assoc conn.unread (payload_of continuation) bytes) refl

pub still : (continuation next : PartialContinuation) (conn : State) (bytes : List ℕ) → GoesOn continuation conn → IsLonger continuation next bytes → GoesOn next conn
still continuation next conn bytes goes e = rw e (record {
  greeted = goes.greeted;
  settled = goes.settled;
  lent = goes.lent;
  nine = goes.nine;
  head = goes.head;
  kind = goes.kind;
  short = goes.short;
  opened = goes.opened;
  stream = goes.stream;
  within = omega (arith, goes.within, length-append continuation.block.fragment bytes);
})

longer_payload : (continuation next : PartialContinuation) (conn : State) (bytes : List ℕ) → GoesOn continuation conn → IsLonger continuation next bytes → length (payload_of next) ≡ length (payload_of continuation) + length bytes
longer_payload continuation next conn bytes goes e =
    rw (e, drop-append-le continuation.before continuation.block.fragment bytes goes.within, length-append (payload_of continuation) bytes) refl

span_of : (bytes : List ℕ) (head : Head) → head_at (take 9 bytes) ≡ head → 9 ≤ length bytes → head.length ≤ 16384 → span bytes ≡ 9 + head.length
span_of bytes head e ge short =
    rw (le-ltb (length bytes) 9 ge, le-ltb 16384 (head_at (take 9 bytes)).length (shorter bytes head 16384 e short)) (ap (λ (h : Head). 9 + h.length) e)

-- bytes that are looked at together are of one frame
pub fits : (continuation next : PartialContinuation) (conn old : State) (bytes : List ℕ) → with_continuation (Some continuation) conn ≡ old → IsInOrder (Some continuation) conn → IsLonger continuation next bytes
    → IsTurn old.greeted (old.unread ++ bytes) (length bytes) → length (payload_of next) ≤ next.head.length
fits continuation next conn old bytes view order e (inl one) =
    let head : next.head ≡ continuation.head = ap (λ (c : PartialContinuation). c.head) e in
    rw head (omega (arith, longer_payload continuation next conn bytes order.0 e, order.1, one))
fits continuation next conn old bytes view order e (inr both) =
    let goes = order.0 in
    let head : next.head ≡ continuation.head = ap (λ (c : PartialContinuation). c.head) e in
    let all = (with_continuation (Some continuation) conn).unread ++ bytes in
    let within : length all ≤ span all = subst (λ (s : State). length (s.unread ++ bytes) ≤ span (s.unread ++ bytes)) (sym view) both.1 in
    let long = unread_length continuation conn goes in
    let sum = length-append (with_continuation (Some continuation) conn).unread bytes in
    let grouped = append_assoc conn.unread (payload_of continuation) bytes in
    let front : head_at (take 9 all) ≡ continuation.head = ap (λ b. head_at (take 9 b)) grouped ∙ ap head_at (head_in_front conn.unread (payload_of continuation ++ bytes) goes.nine) ∙ sym goes.head in
    let far = span_of all continuation.head front (omega (arith, sum, long)) goes.short in
    rw head (omega (arith, longer_payload continuation next conn bytes goes e, within, far, sum, long))

same_taken : (continuation next : PartialContinuation) (conn : State) (bytes : List ℕ) → GoesOn continuation conn → IsLonger continuation next bytes
    → bytes_taken ((with_continuation (Some continuation) conn).unread ++ bytes) (with_continuation (Some continuation) conn) ≡ bytes_taken (with_continuation (Some next) conn).unread (with_continuation (Some next) conn)
same_taken continuation next conn bytes goes e =
    let old = with_continuation (Some continuation) conn in
    sym (unaware (old.unread ++ bytes) (old.unread ++ bytes) old) ∙ ap (λ (s : State). bytes_taken s.unread s) (sym (longer continuation next conn bytes goes e))

-- a frame of which bytes are still missing is kept
pub kept_more : (continuation next : PartialContinuation) (conn old : State) (given : Given) (bytes : List ℕ) → with_continuation (Some continuation) conn ≡ old → IsInOrder (Some continuation) conn → IsLonger continuation next bytes
    → length (payload_of next) < next.head.length → given ≡ record { event = None; end_of = None } → bytes_taken (old.unread ++ bytes) old ≡ Ok (with_continuation (Some next) conn, given)
kept_more continuation next conn old given bytes view order e few eg =
    ap (λ (s : State). bytes_taken (s.unread ++ bytes) s) (sym view) ∙ same_taken continuation next conn bytes order.0 e ∙ waits next conn (still continuation next conn bytes order.0 e) few
    ∙ ap (λ (g : Given). Ok (with_continuation (Some next) conn, g)) (sym eg)

pub settles_plain : (result : Result Given (Refusal Breach)) (found taken left : Option PartialContinuation) (conn old new : State) (kept bytes : List ℕ) → taken ≡ None → taken ≡ found → left ≡ None → with_continuation found conn ≡ old → kept ≡ conn.unread ++ bytes
    → Settles result (record conn { unread = kept }) new (bytes_taken kept (record conn { unread = kept })) → Settles result old (with_continuation left new) (bytes_taken (old.unread ++ bytes) old)
settles_plain result found taken left conn old new kept bytes en ef el view ek t =
    let same : old ≡ conn = sym view ∙ ap (λ f. with_continuation f conn) (sym ef ∙ en) in
    rw (el, same) (behind result conn new kept kept conn.unread bytes ek refl t)

pub settles_more : (result : Result Given (Refusal Breach)) (continuation next : PartialContinuation) (conn old new : State) (bytes : List ℕ) → with_continuation (Some continuation) conn ≡ old → IsInOrder (Some continuation) conn → IsLonger continuation next bytes
    → Settles result (with_continuation (Some next) conn) new (bytes_taken (with_continuation (Some next) conn).unread (with_continuation (Some next) conn)) → Settles result old new (bytes_taken (old.unread ++ bytes) old)
settles_more result continuation next conn old new bytes view order e t =
    let same = ap (λ (s : State). bytes_taken (s.unread ++ bytes) s) (sym view) ∙ same_taken continuation next conn bytes order.0 e in
    rw same (other_old result (with_continuation (Some next) conn) old new _ (ap (λ (s : State). s.outgoing.output) view) t)

-- ---- beside it

pub beside : (continuation : Option PartialContinuation) (conn next : State) → next.greeted ≡ conn.greeted → next.settled ≡ conn.settled → next.block ≡ conn.block → next.unread ≡ conn.unread → IsInOrder continuation conn → IsInOrder continuation next
beside None conn next eg es eb eu goes = tt
beside (Some continuation) conn next eg es eb eu order =
    let goes = order.0 in (
      record {
        greeted = eg ∙ goes.greeted;
        settled = es ∙ goes.settled;
        lent = eb ∙ goes.lent;
        nine = ap length eu ∙ goes.nine;
        head = goes.head ∙ sym (ap head_at eu);
        kind = goes.kind;
        short = goes.short;
        opened = goes.opened;
        stream = goes.stream;
        within = goes.within;
      },
      order.1,
    )

queued_if : (closing : Bool) (continuation : Option PartialContinuation) (conn next : State) → (if closing then with_continuation continuation conn else with_continuation continuation next) ≡ with_continuation continuation (if closing then conn else next)
queued_if true continuation conn next = refl
queued_if false continuation conn next = refl

-- what is sent does not count beside what has come
pub queued_beside : (continuation : Option PartialContinuation) (conn : State) (found : Option Stream) (number : ℕ) (waiting : Waiting) (end_stream : Bool)
    → queued_on found number waiting end_stream (with_continuation continuation conn) ≡ with_continuation continuation (queued_on found number waiting end_stream conn)
queued_beside continuation conn None number waiting end_stream = refl
queued_beside continuation conn (Some stream) number waiting end_stream =
    queued_if stream.closing continuation conn (flushing (record conn { streams = changed number (queued waiting end_stream) conn.streams }))

in_order_if : (closing : Bool) (continuation : Option PartialContinuation) (conn next : State) → IsInOrder continuation conn → IsInOrder continuation next → IsInOrder continuation (if closing then conn else next)
in_order_if true continuation conn next a b = a
in_order_if false continuation conn next a b = b

pub queued_in_order : (continuation : Option PartialContinuation) (conn : State) (found : Option Stream) (number : ℕ) (waiting : Waiting) (end_stream : Bool) → IsInOrder continuation conn → IsInOrder continuation (queued_on found number waiting end_stream conn)
queued_in_order continuation conn None number waiting end_stream goes = goes
queued_in_order continuation conn (Some stream) number waiting end_stream goes =
    let next = flushing (record conn { streams = changed number (queued waiting end_stream) conn.streams }) in
    in_order_if stream.closing continuation conn next goes (beside continuation conn next refl refl refl refl goes)
