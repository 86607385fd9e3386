-- Several bytes that are looked at together.
use Rattle.std.proofs.Common.{◌≡◌, ℕ, suc, ◌+◌, ◌<◌, ◌≤◌, ◌⊎◌, min, Bool, true, List, [], ◌∷◌, ◌++◌, length, take, drop, Some, Ok, Err, refl, sym, ap, ◌∙◌, append_assoc, inl, inr, arith}
use Rattle.std.specs.Prelude.{nat_lt, if◌then◌else◌}
use Rattle.std.proofs.lemmas.Bool.{cases_lt, lt-ltb, le-ltb}
use Rattle.std.proofs.lemmas.List.{append-nil, length-append, length-take, take-append-le, take-append-drop}
use Rattle.list_types.specs.declared.memory.Refusal.{Refusal}
use Rattle.list_types.specs.declared.memory.Refusal.TheVariants as refusals
use Rattle.h2_frames.specs.Reading.{head_at}
use Rattle.h2_frames.specs.declared.codes.H2Code.{H2Code}
use Rattle.h2_conn.specs.declared.breach.Breach.{Breach}
use Rattle.h2_conn.specs.declared.event.Given.{Given}
use Rattle.h2_conn.specs.declared.event.H2Event.{H2Event}
use Rattle.h2_conn.specs.declared.state.State.{State}
use Rattle.h2_conn.specs.declared.phase.Phase.{Phase}
use Rattle.h2_conn.specs.declared.phase.Phase.TheVariants as phases
use Rattle.h2_conn.specs.Bytes.{events_of, waiting_for_more, with_goaway, bytes_taken, preface_taken, frame_bytes_taken, carried, next, run, span, IsTurn, AreQuietToLast, Settles, Advances, Feeds}
use Rattle.h2_conn.proofs.Cuts.{any_cut, broken, unaware}

-- ---- how far may be looked

pub span_short : (bytes : List ℕ) → length bytes ≤ 9 → length bytes ≤ span bytes
span_short bytes le =
    elim (cases_lt (length bytes) 9) [
      | inl lt ↦ rw (lt-ltb (length bytes) 9 lt) (omega arith)
      | inr ge ↦ rw (le-ltb (length bytes) 9 ge) (elim (cases_lt 16384 (head_at (take 9 bytes)).length) [
        | inl long ↦ rw (lt-ltb 16384 (head_at (take 9 bytes)).length long) (omega arith)
        | inr short ↦ rw (le-ltb 16384 (head_at (take 9 bytes)).length short) (omega arith)
      ])
    ]

pub span_frame : (bytes front : List ℕ) → take 9 bytes ≡ take 9 front → (head_at (take 9 front)).length ≤ 16384 → 9 ≤ length bytes → length bytes ≤ 9 + (head_at (take 9 front)).length → length bytes ≤ span bytes
span_frame bytes front e short ge le = rw (le-ltb (length bytes) 9 ge, e, le-ltb 16384 (head_at (take 9 front)).length short) le

too_far : (bytes more : List ℕ) (long : ℕ) → 9 ≤ length bytes → 0 < length more → 16384 < long → length (bytes ++ more) ≤ (if nat_lt 16384 long then 9 else 9 + long) → ⊥
too_far bytes more long ge some lt le = let far = rw (lt-ltb 16384 long lt) at le in omega (arith, length-append bytes more, far)

-- a front that is shorter than what may be looked at is kept
undecided : (bytes more : List ℕ) (conn : State) → 0 < length more → length (bytes ++ more) ≤ span (bytes ++ more) → frame_bytes_taken bytes conn ≡ waiting_for_more bytes conn
unfolding frame_bytes_taken
undecided bytes more conn some le =
    let sum = length-append bytes more in
    elim (cases_lt (length bytes) 9) [
      | inl lt ↦ rw (lt-ltb (length bytes) 9 lt) refl
      | inr ge ↦
          let same : take 9 (bytes ++ more) ≡ take 9 bytes = take-append-le 9 bytes more ge in
          let far : length (bytes ++ more) ≤ span (bytes ++ more) = le in
          let seen = rw (le-ltb (length (bytes ++ more)) 9 (omega (arith, sum)), same) at far in
          elim (cases_lt 16384 (head_at (take 9 bytes)).length) [
            | inl long ↦ absurd (too_far bytes more (head_at (take 9 bytes)).length ge some long seen)
            | inr short ↦
                let within = rw (le-ltb 16384 (head_at (take 9 bytes)).length short) at seen in
                rw (le-ltb (length bytes) 9 ge, le-ltb 16384 (head_at (take 9 bytes)).length short, lt-ltb (length bytes) (9 + (head_at (take 9 bytes)).length) (omega (arith, sum, within))) refl
          ]
    ]

-- ---- a run over what is looked at together

single : (conn : State) (byte : ℕ) → ◌≡◌ {A = Phase × List H2Event} (run (phases.Open conn) (byte ∷ [])) (carried conn.outgoing.output (bytes_taken (conn.unread ++ byte ∷ []) conn))
unfolding run
single conn byte =
    let after = carried conn.outgoing.output (bytes_taken (conn.unread ++ byte ∷ []) conn) in
    ap (λ (e : List H2Event). (after.0, e)) (append-nil after.1)

-- a byte that is kept, and what comes behind it
kept_first : (conn : State) (byte : ℕ) (rest : List ℕ) → bytes_taken (conn.unread ++ byte ∷ []) conn ≡ waiting_for_more (conn.unread ++ byte ∷ []) conn
    → ◌≡◌ {A = Phase × List H2Event} (run (phases.Open conn) (byte ∷ rest)) (run (phases.Open (record conn { unread = conn.unread ++ byte ∷ [] })) rest)
unfolding run
kept_first conn byte rest e = rw e refl

pub if_true : {A : Type 0} → (b : Bool) (x y : A) → b ≡ true → (if b then x else y) ≡ x
if_true b x y e = rw e refl

together : (conn : State) (byte : ℕ) (rest : List ℕ) → conn.greeted ≡ true → length (conn.unread ++ byte ∷ rest) ≤ span (conn.unread ++ byte ∷ rest)
    → ◌≡◌ {A = Phase × List H2Event} (run (phases.Open conn) (byte ∷ rest)) (carried conn.outgoing.output (bytes_taken (conn.unread ++ byte ∷ rest) conn))
together conn byte [] greeted le = single conn byte
together conn byte (second ∷ rest) greeted le =
    let kept = conn.unread ++ byte ∷ [] in
    let grouped : kept ++ second ∷ rest ≡ conn.unread ++ byte ∷ second ∷ rest = append_assoc conn.unread (byte ∷ []) (second ∷ rest) in
    let within : length (kept ++ second ∷ rest) ≤ span (kept ++ second ∷ rest) = rw grouped le in
    let waits : bytes_taken kept conn ≡ waiting_for_more kept conn = if_true conn.greeted (frame_bytes_taken kept conn) (preface_taken kept conn) greeted ∙ undecided kept (second ∷ rest) conn (omega arith) within in
    let next = record conn { unread = kept } in
    let later = together next second rest greeted within in
    kept_first conn byte (second ∷ rest) waits ∙ later ∙ ap (λ t. carried conn.outgoing.output t) (unaware kept (kept ++ second ∷ rest) conn ∙ ap (λ b. bytes_taken b conn) grouped)

-- what is looked at in one turn
pub turn : (conn : State) (front : List ℕ) → 0 < length front → IsTurn conn.greeted (conn.unread ++ front) (length front)
    → ◌≡◌ {A = Phase × List H2Event} (run (phases.Open conn) front) (carried conn.outgoing.output (bytes_taken (conn.unread ++ front) conn))
turn conn [] some is = absurd (omega arith)
turn conn (byte ∷ []) some is = single conn byte
turn conn (byte ∷ second ∷ rest) some (inl e) = absurd (omega arith)
turn conn (byte ∷ second ∷ rest) some (inr both) = together conn byte (second ∷ rest) both.0 both.1

-- ---- turn by turn

least : (count n : ℕ) → count ≤ n → min count n ≡ count
least count n le = omega arith

-- the front of a piece is looked at together
pub turn_of_front : (conn : State) (rest front : List ℕ) (count : ℕ) → count ≤ length rest → front ≡ take count rest → IsTurn conn.greeted (conn.unread ++ take count rest) count → IsTurn conn.greeted (conn.unread ++ front) (length front)
turn_of_front conn rest front count le ef is = rw (ef, length-take count rest, least count (length rest) le) is

-- ---- what gives nothing before its last byte

quiet_together : (conn : State) (bytes : List ℕ) → conn.greeted ≡ true → length (conn.unread ++ bytes) ≤ span (conn.unread ++ bytes) → AreQuietToLast (phases.Open conn) bytes
unfolding AreQuietToLast
quiet_together conn [] greeted le = tt
quiet_together conn (byte ∷ []) greeted le = tt
quiet_together conn (byte ∷ second ∷ rest) greeted le =
    let kept = conn.unread ++ byte ∷ [] in
    let grouped : kept ++ second ∷ rest ≡ conn.unread ++ byte ∷ second ∷ rest = append_assoc conn.unread (byte ∷ []) (second ∷ rest) in
    let within : length (kept ++ second ∷ rest) ≤ span (kept ++ second ∷ rest) = rw grouped le in
    let waits : bytes_taken kept conn ≡ waiting_for_more kept conn = if_true conn.greeted (frame_bytes_taken kept conn) (preface_taken kept conn) greeted ∙ undecided kept (second ∷ rest) conn (omega arith) within in
    rw waits (refl, refl, quiet_together (record conn { unread = kept }) (second ∷ rest) greeted within)

quiet_alone : (phase : Phase) (byte : ℕ) (rest : List ℕ) → length (byte ∷ rest) ≡ 1 → AreQuietToLast phase (byte ∷ rest)
unfolding AreQuietToLast
quiet_alone phase byte [] one = tt
quiet_alone phase byte (second ∷ rest) one = absurd (omega arith)

-- what is looked at in one turn gives nothing before its last byte
quiet_turn : (conn : State) (front : List ℕ) → 0 < length front → IsTurn conn.greeted (conn.unread ++ front) (length front) → AreQuietToLast (phases.Open conn) front
quiet_turn conn [] some is = absurd (omega arith)
quiet_turn conn (byte ∷ rest) some (inl one) = quiet_alone (phases.Open conn) byte rest one
quiet_turn conn (byte ∷ rest) some (inr both) = quiet_together conn (byte ∷ rest) both.0 both.1

-- the front of a piece that is looked at together
pub quiet_front : (conn : State) (rest : List ℕ) (count : ℕ) → 0 < count → count ≤ length rest → IsTurn conn.greeted (conn.unread ++ take count rest) count → AreQuietToLast (phases.Open conn) (take count rest)
quiet_front conn rest count some le is = quiet_turn conn (take count rest) (omega (arith, length-take count rest, least count (length rest) le)) (turn_of_front conn rest (take count rest) count le refl is)

-- a connection that has ended gives nothing
quiet_end : (code : H2Code) (output bytes : List ℕ) → AreQuietToLast (phases.Broken code output) bytes
unfolding AreQuietToLast
quiet_end code output [] = tt
quiet_end code output (byte ∷ []) = tt
quiet_end code output (byte ∷ second ∷ rest) = (refl, refl, quiet_end code output (second ∷ rest))

quiet_loss : (bytes : List ℕ) → AreQuietToLast phases.OutOfMemory bytes
unfolding AreQuietToLast
quiet_loss [] = tt
quiet_loss (byte ∷ []) = tt
quiet_loss (byte ∷ second ∷ rest) = (refl, refl, quiet_loss (second ∷ rest))

pub quiet_none : (phase : Phase) → AreQuietToLast phase []
unfolding AreQuietToLast
quiet_none phase = tt

pub quiet_ended : (self phase : Phase) (bytes : List ℕ) → ((code : H2Code) × (output : List ℕ) × phase ≡ phases.Broken code output) ⊎ (phase ≡ phases.OutOfMemory) → phase ≡ self → AreQuietToLast self bytes
quiet_ended self phase bytes (inl broken) e = rw (sym e ∙ broken.2) (quiet_end broken.0 broken.1 bytes)
quiet_ended self phase bytes (inr lost) e = rw (sym e ∙ lost) (quiet_loss bytes)

-- ---- piece by piece

-- the rest of a piece is still to be looked at
pub record AreRun (whole : Phase × List H2Event) (before : List H2Event) (conn : State) (events : List H2Event) (rest : List ℕ) (n : ℕ) : Type 0 where
  pub ends : (run (phases.Open conn) rest).0 ≡ whole.0
  pub gives : events ++ (run (phases.Open conn) rest).1 ≡ before ++ whole.1
  pub few : length rest ≤ n

split : (whole : Phase × List H2Event) (before : List H2Event) (conn : State) (events : List H2Event) (rest front after : List ℕ) (n : ℕ) (middle : Phase × List H2Event) → rest ≡ front ++ after
    → ◌≡◌ {A = Phase × List H2Event} (run (phases.Open conn) front) middle → AreRun whole before conn events rest n
    → ((run middle.0 after).0 ≡ whole.0) × (events ++ (middle.1 ++ (run middle.0 after).1) ≡ before ++ whole.1)
split whole before conn events rest front after n middle e em a =
    let cut : ◌≡◌ {A = Phase × List H2Event} (run (phases.Open conn) rest) ((run middle.0 after).0, middle.1 ++ (run middle.0 after).1) =
    ap (λ b. run (phases.Open conn) b) e ∙ any_cut (phases.Open conn) front after ∙ ap (λ (m : Phase × List H2Event). ((run m.0 after).0, m.1 ++ (run m.0 after).1)) em in
    (sym (ap (λ (r : Phase × List H2Event). r.0) cut) ∙ a.ends, sym (ap (λ (r : Phase × List H2Event). events ++ r.1) cut) ∙ a.gives)

pub goes_on : (whole : Phase × List H2Event) (before : List H2Event) (conn next : State) (events now : List H2Event) (rest front after : List ℕ) (n more count : ℕ) (given : Given)
    → n ≡ suc more → 0 < count → count ≤ length rest → front ≡ take count rest → after ≡ drop count rest → IsTurn conn.greeted (conn.unread ++ take count rest) count
    → bytes_taken (conn.unread ++ front) conn ≡ Ok (next, given) → now ≡ events ++ events_of given → AreRun whole before conn events rest n → AreRun whole before next now after more
goes_on whole before conn next events now rest front after n more count given en some le ef ea is taken ew a =
    let long : length front ≡ count = ap length ef ∙ length-take count rest ∙ omega arith in
    let same : rest ≡ front ++ after = sym (ap (λ x. x ++ after) ef ∙ ap (λ x. take count rest ++ x) ea ∙ take-append-drop count rest) in
    let here = turn_of_front conn rest front count le ef is in
    let step = turn conn front (omega (arith, long)) here ∙ ap (λ t. carried conn.outgoing.output t) taken in
    let parts = split whole before conn events rest front after n (phases.Open next, events_of given) same step a in
    record {
      ends = parts.0;
      gives = ap (λ x. x ++ (run (phases.Open next) after).1) ew ∙ append_assoc events (events_of given) (run (phases.Open next) after).1 ∙ parts.1;
      few = omega (arith, ap length same, length-append front after, a.few, long);
    }

pub breaks : (whole : Phase × List H2Event) (before : List H2Event) (conn new : State) (events : List H2Event) (rest front after : List ℕ) (n count : ℕ) (refusal : Refusal Breach)
    → 0 < count → count ≤ length rest → front ≡ take count rest → after ≡ drop count rest → IsTurn conn.greeted (conn.unread ++ take count rest) count
    → Settles (Err refusal) conn new (bytes_taken (conn.unread ++ front) conn) → AreRun whole before conn events rest n → Advances (Err refusal) new before events whole
breaks whole before conn new events rest front after n count refusals.NoMemory some le ef ea is taken a = tt
breaks whole before conn new events rest front after n count (refusals.For breach) some le ef ea is taken a =
    let long : length front ≡ count = ap length ef ∙ length-take count rest ∙ omega arith in
    let same : rest ≡ front ++ after = sym (ap (λ x. x ++ after) ef ∙ ap (λ x. take count rest ++ x) ea ∙ take-append-drop count rest) in
    let here = turn_of_front conn rest front count le ef is in
    let out = with_goaway breach conn.outgoing.output in
    let step = turn conn front (omega (arith, long)) here ∙ ap (λ t. carried conn.outgoing.output t) taken.0 in
    let parts = split whole before conn events rest front after n (phases.Broken breach.code out, []) same step a in
    let end = broken breach.code out after in
    let ended : phases.Broken breach.code out ≡ whole.0 = sym (ap (λ (r : Phase × List H2Event). r.0) end) ∙ parts.0 in
    let events_are : events ≡ before ++ whole.1 = sym (append-nil events) ∙ sym (ap (λ (r : Phase × List H2Event). events ++ ([] ++ r.1)) end) ∙ parts.1 in
    (sym ended ∙ ap (λ o. phases.Broken breach.code (with_goaway breach o)) (sym taken.1), events_are)

pub all_run : (whole : Phase × List H2Event) (before : List H2Event) (conn : State) (events : List H2Event) (rest : List ℕ) (n : ℕ) → length rest ≤ 0 → AreRun whole before conn events rest n → (whole.0 ≡ phases.Open conn) × (events ≡ before ++ whole.1)
unfolding run
all_run whole before conn events [] n le a = (sym a.ends, sym (append-nil events) ∙ a.gives)
all_run whole before conn events (byte ∷ rest) n le a = absurd (omega arith)

not_out : (code : H2Code) (output : List ℕ) → phases.Broken code output ≡ phases.OutOfMemory → ⊥
not_out code output e = absurd cc

-- a connection that a breach has ended gives its code again
pub same_code : (code : H2Code) (output piece : List ℕ) (self phase : Phase) (events : List H2Event) → phases.Broken code output ≡ phase → phase ≡ self → events ≡ [] → Feeds (Ok (events, Some code)) self (phases.Broken code output) piece
same_code code output piece self phase events e eo ee =
    let is : self ≡ phases.Broken code output = sym (e ∙ eo) in
    let ran : ◌≡◌ {A = Phase × List H2Event} (phases.Broken code output, events) (run self piece) = ap (λ (x : List H2Event). (phases.Broken code output, x)) ee ∙ sym (ap (λ p. run p piece) is ∙ broken code output piece) in
    (ran, refl, λ out. not_out code output (sym is ∙ out))
