-- What is done on a link, one thing after another.
use Rattle.std.specs.Prelude.{◌≡◌, ℕ, zero, suc, ◌+◌, ◌-◌, ◌<◌, ◌≤◌, ◌⊎◌, List, [], ◌∷◌, Option, Some, None}
use Rattle.std.specs.List.{flat_map, sum_by}
use Rattle.sw_edge.specs.Counts.{one_more}
use Rattle.sw_edge.specs.Told.{Appends}
use Rattle.p4_types.specs.declared.calls.Call.{Call}
use Rattle.p4_types.specs.declared.calls.Reply.{Reply}
use Rattle.mail_room.specs.declared.next.Next.{Next}
use Rattle.mail_room.specs.declared.next.Next.TheVariants as nexts
use Rattle.p4rt_service.specs.Dialogues.{Exchange, Passes}
use Rattle.p4rt_service.specs.Turns.{Turn, Piece, Message, Overflow}
use Rattle.link_loop.specs.declared.TheConstants.{MOST_MESSAGES}

-- a pull that gave bytes, with the calls that they made; a pull that found none for now; and what waited at a moment, in nanoseconds, with the calls that it made
pub data Doing : Type 0 where
  Pulled : List ℕ → List Exchange → Doing
  Waited : Doing
  Given : ℕ → Option Next → List Exchange → Doing

-- ---- what a doing is

-- the turn of what waited: a packet makes none
abbrev pub turn_given : Option Next → List Turn
turn_given (Some (nexts.Message message)) = Message message ∷ []
turn_given (Some (nexts.Output output)) = []
turn_given (Some nexts.Overflow) = Overflow ∷ []
turn_given None = []

-- the packet that waited, behind its port
abbrev pub packet_given : Option Next → List (ℕ × List ℕ)
packet_given (Some (nexts.Message message)) = []
packet_given (Some (nexts.Output output)) = (output.port, output.bytes) ∷ []
packet_given (Some nexts.Overflow) = []
packet_given None = []

-- the turn of a doing, if it is one
abbrev pub turn_of : Doing → List Turn
turn_of (Pulled piece exchanges) = Piece piece ∷ []
turn_of Waited = []
turn_of (Given now next exchanges) = turn_given next

-- the calls that were made in a doing
abbrev pub exchanges_in : Doing → List Exchange
exchanges_in (Pulled piece exchanges) = exchanges
exchanges_in Waited = []
exchanges_in (Given now next exchanges) = exchanges

-- the bytes that were pulled
abbrev pub bytes_in : Doing → List ℕ
bytes_in (Pulled piece exchanges) = piece
bytes_in Waited = []
bytes_in (Given now next exchanges) = []

-- the packet that is to leave at a port
abbrev pub packet_in : Doing → List (ℕ × List ℕ)
packet_in (Pulled piece exchanges) = []
packet_in Waited = []
packet_in (Given now next exchanges) = packet_given next

-- the moment at which it was asked what waits
abbrev pub moment_in : Doing → List ℕ
moment_in (Pulled piece exchanges) = []
moment_in Waited = []
moment_in (Given now next exchanges) = now ∷ []

-- one for a pull that found no bytes
abbrev pub wait_in : Doing → ℕ
wait_in (Pulled piece exchanges) = 0
wait_in Waited = 1
wait_in (Given now next exchanges) = 0

-- ---- all of them

abbrev pub turns_of : List Doing → List Turn
turns_of doings = flat_map turn_of doings

abbrev pub exchanges_of : List Doing → List Exchange
exchanges_of doings = flat_map exchanges_in doings

abbrev pub bytes_of : List Doing → List ℕ
bytes_of doings = flat_map bytes_in doings

abbrev pub packets_of : List Doing → List (ℕ × List ℕ)
packets_of doings = flat_map packet_in doings

abbrev pub moments_of : List Doing → List ℕ
moments_of doings = flat_map moment_in doings

abbrev pub waits_of : List Doing → ℕ
waits_of doings = sum_by wait_in doings

-- ---- what doings change

-- how a doing changes a pass: what waited is given, and its calls are made behind that
abbrev pub Goes : {P : Type 0} → (P → Call → Reply → P → Type 0) → (P → ℕ → Option Next → P → Type 0) → P → Doing → P → Type 0
Goes answers gives old (Pulled piece exchanges) new = Passes answers old exchanges new
Goes answers gives old Waited new = new ≡ old
Goes {P} answers gives old (Given now next exchanges) new = (between : P) × gives old now next between × Passes answers between exchanges new

-- the same of doings, one after another
abbrev pub GoesOn : {P : Type 0} → (P → Call → Reply → P → Type 0) → (P → ℕ → Option Next → P → Type 0) → P → List Doing → P → Type 0
GoesOn answers gives old [] new = new ≡ old
GoesOn {P} answers gives old (doing ∷ rest) new = (between : P) × Goes answers gives old doing between × GoesOn answers gives between rest new

-- how many more answers that are no packet are asked for behind one
abbrev pub more_behind : Option Next → ℕ → ℕ
more_behind None more = 0
more_behind (Some (nexts.Output output)) more = more
more_behind (Some (nexts.Message message)) more = more - 1
more_behind (Some nexts.Overflow) more = more - 1

-- It is asked what waits as long as more is to be asked for, and pulled where nothing more is; then again it is asked for as many as may be.
abbrev pub IsAsked : ℕ → List Doing → ℕ → Type 0
IsAsked more [] left = left ≡ more
IsAsked more (Pulled piece exchanges ∷ rest) left = (more ≡ 0) × IsAsked MOST_MESSAGES rest left
IsAsked more (Waited ∷ rest) left = (more ≡ 0) × IsAsked MOST_MESSAGES rest left
IsAsked more (Given now next exchanges ∷ rest) left = (0 < more) × IsAsked (more_behind next more) rest left

-- moments that never fall, the first not below one and the last not above another
abbrev pub Rises : ℕ → List ℕ → ℕ → Type 0
Rises first [] last = first ≤ last
Rises first (moment ∷ rest) last = (first ≤ moment) × Rises moment rest last

-- a count that never falls and ends at 2^64 - 1, once it rose so often
abbrev pub risen : ℕ → ℕ → ℕ
risen zero count = count
risen (suc times) count = one_more (risen times count)

-- Of these packets those were put, in order, and so many were not.
abbrev pub LeavesOut : List (ℕ × List ℕ) → List (ℕ × List ℕ) → ℕ → Type 0
LeavesOut [] put lost = (put ≡ []) × (lost ≡ 0)
LeavesOut (packet ∷ rest) put lost =
    ((others : List (ℕ × List ℕ)) × (put ≡ packet ∷ others) × LeavesOut rest others lost)
    ⊎ ((fewer : ℕ) × (lost ≡ fewer + 1) × LeavesOut rest put fewer)

-- packets were put on ports, less those at which the ports failed
pub record Carries (old new : Option (List (ℕ × List ℕ))) (faults_before faults_now : ℕ) (packets : List (ℕ × List ℕ)) : Type 0 where
  pub put : List (ℕ × List ℕ)
  pub lost : ℕ
  pub left_out : LeavesOut packets put lost
  pub sent : Appends old new put
  pub faults : faults_now ≡ risen lost faults_before
