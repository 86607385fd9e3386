-- The course of a link: what was done on it, what that made of its service, and how it ended.
use Rattle.std.specs.Prelude.{◌≡◌, ℕ, ◌⊎◌, Bool, true, false, List, [], ◌∷◌, ◌++◌, ◌||◌, fold, Option, Some, None}
use Rattle.sw_edge.specs.Told.{Keeps, Consumes, Appends, AppendsPrefix, IsAtEnd}
use Rattle.h2_conn.specs.Bytes.{code_of}
use Rattle.p4_types.specs.declared.calls.Call.{Call}
use Rattle.p4_types.specs.declared.calls.Call.TheVariants as calls_of
use Rattle.p4_types.specs.declared.calls.Reply.{Reply}
use Rattle.mail_room.specs.declared.next.Next.{Next}
use Rattle.p4rt_service.specs.Dialogues.{Exchange, Runs, Begins, leaves_behind}
use Rattle.p4rt_service.specs.Serving.{is_open}
use Rattle.p4rt_service.specs.Turns.{Served, Turn, opened, flushed, untold, turn_served, turns_served}
use Rattle.link_loop.specs.declared.TheConstants.{MOST_MESSAGES}
use Rattle.link_loop.specs.declared.ends.LinkEnd.{LinkEnd}
use Rattle.link_loop.specs.declared.ends.LinkEnd.TheVariants as ends
use Rattle.link_loop.specs.Doings.{Doing, turn_of, turns_of, exchanges_in, exchanges_of, bytes_of, packets_of, moments_of, waits_of, GoesOn, IsAsked, Rises, risen, Carries}
use Rattle.link_loop.specs.Watches.{unwatched, watched, is_unopened, is_quiet, goodbye}

-- what a link's course changes but for what is sent on it: the pass, the bytes that are left to pull and how often there were none, the packets that were put and how often the ports failed, and the last moment that the clock told
pub record Outside (P : Type 0) : Type 0 where
  pub pass : P
  pub left : Option (List ℕ)
  pub quiets : ℕ
  pub put : Option (List (ℕ × List ℕ))
  pub faults : ℕ
  pub moment : ℕ

-- These doings, and nothing else, lead from one state to another; so many more messages are asked for before the next pull, at first and at last.
pub record Leads {P : Type 0} (answers : P → Call → Reply → P → Type 0) (gives : P → ℕ → Option Next → P → Type 0) (old new : Outside P) (more left : ℕ) (doings : List Doing) : Type 0 where
  pub passes : GoesOn answers gives old.pass doings new.pass
  pub pulled : Consumes old.left new.left (bytes_of doings)
  pub waited : new.quiets ≡ risen (waits_of doings) old.quiets
  pub moments : Rises old.moment (moments_of doings) new.moment
  pub put : Carries old.put new.put old.faults new.faults (packets_of doings)
  pub asked : IsAsked more doings left

-- doings that lead from one state to another, and what their turns, each held to its end by just the calls that were made, serve behind what was served before
pub record Course {P : Type 0} (answers : P → Call → Reply → P → Type 0) (gives : P → ℕ → Option Next → P → Type 0) (old new : Outside P) (before : Served) (more : ℕ) : Type 0 where
  pub doings : List Doing
  pub left : ℕ
  pub served : Served
  pub leads : Leads answers gives old new more left doings
  pub runs : Runs (turns_served (turns_of doings) before) (exchanges_of doings) served

-- whether the controller is still to leave behind calls
abbrev pub due_behind : Bool → List Exchange → Bool
due_behind due [] = due
due_behind due (exchange ∷ rest) = due_behind (leaves_behind exchange.call due) rest

-- A course that want of memory ends: all turns but the last were held and all that they serve was sent; the last was begun, by the calls that it tells, and nothing of it was sent.
pub record Broken {P : Type 0} (answers : P → Call → Reply → P → Type 0) (gives : P → ℕ → Option Next → P → Type 0) (old new : Outside P) (before : Served) (old_sent new_sent : Option (List ℕ)) (more : ℕ) (due : Bool) : Type 0 where
  pub between : Outside P
  pub course : Course answers gives old between before more
  pub sent : Appends old_sent new_sent course.served.sent
  pub last : Doing
  pub rest : ℕ
  pub leads : Leads answers gives between new course.left rest (last ∷ [])
  pub turn : Turn
  pub turn_is : turn_of last ≡ turn ∷ []
  pub begins : Begins (turn_served turn (untold course.served.link)) (exchanges_in last)
  pub due_is : due ≡ due_behind (is_open course.served.link) (exchanges_in last)

-- A course to the end that its last doing makes, whether the controller is then still to leave, and what was sent. A link is closed where its bytes have ended behind a pull for which all was asked that is to be, and no breach has ended the connection; it is refused where a breach has, by the breach's code. At a fault of the link some first bytes of what was served were sent.
abbrev pub Ends : {P : Type 0} → (P → Call → Reply → P → Type 0) → (P → ℕ → Option Next → P → Type 0) → LinkEnd → Outside P → Outside P → Served → Option (List ℕ) → Option (List ℕ) → ℕ → Bool → Type 0
Ends answers gives ends.Closed old new before old_sent new_sent more due =
    (course : Course answers gives old new before more) × Appends old_sent new_sent course.served.sent × (due ≡ is_open course.served.link)
    × (course.left ≡ 0) × IsAtEnd new.left × (code_of course.served.link.conn ≡ None)
Ends answers gives ends.Fault old new before old_sent new_sent more due =
    (course : Course answers gives old new before more) × AppendsPrefix old_sent new_sent course.served.sent × (due ≡ is_open course.served.link)
Ends answers gives (ends.Refused code) old new before old_sent new_sent more due =
    (course : Course answers gives old new before more) × Appends old_sent new_sent course.served.sent × (due ≡ is_open course.served.link)
    × (code_of course.served.link.conn ≡ Some code)
Ends answers gives ends.Memory old new before old_sent new_sent more due = Broken answers gives old new before old_sent new_sent more due
Ends answers gives ends.Quiet old new before old_sent new_sent more due = ⊥

-- GOAWAY goes out behind what was served, or, where the link fails, some first bytes of both do.
abbrev pub SaysGoodbye : LinkEnd → Option (List ℕ) → Option (List ℕ) → List ℕ → Type 0
SaysGoodbye ends.Quiet old new served = Appends old new (served ++ goodbye)
SaysGoodbye ends.Fault old new served = AppendsPrefix old new (served ++ goodbye)
SaysGoodbye end old new served = ⊥

-- A course behind which a link is given up: by the link's own clock the time for what the client says first has passed, and it has not come whole, or nothing has come for long; no breach has ended the connection, and no channel is open, so that nobody is to leave.
pub record GivenUp {P : Type 0} (answers : P → Call → Reply → P → Type 0) (gives : P → ℕ → Option Next → P → Type 0) (end : LinkEnd) (old new : Outside P) (before : Served) (old_sent new_sent : Option (List ℕ)) (due : Bool) : Type 0 where
  pub course : Course answers gives old new before MOST_MESSAGES
  pub says : SaysGoodbye end old_sent new_sent course.served.sent
  pub is_late : (is_unopened (fold watched unwatched course.doings) || is_quiet (fold watched unwatched course.doings)) ≡ true
  pub is_shut : is_open course.served.link ≡ false
  pub is_whole : code_of course.served.link.conn ≡ None
  pub due_is : due ≡ false

-- the course of a link to its end, from the first time that it is asked what waits; where it is closed for being quiet, it was given up
abbrev pub Lasts : {P : Type 0} → (P → Call → Reply → P → Type 0) → (P → ℕ → Option Next → P → Type 0) → LinkEnd → Outside P → Outside P → Served → Option (List ℕ) → Option (List ℕ) → Bool → Type 0
Lasts answers gives end old new before old_sent new_sent due =
    Ends answers gives end old new before old_sent new_sent MOST_MESSAGES due
    ⊎ GivenUp answers gives end old new before old_sent new_sent due

-- Nothing was done for want of memory.
abbrev pub IsUntouched : {P : Type 0} → (P → Call → Reply → P → Type 0) → (P → ℕ → Option Next → P → Type 0) → LinkEnd → Outside P → Outside P → Option (List ℕ) → Option (List ℕ) → Type 0
IsUntouched answers gives end old new old_sent new_sent = (end ≡ ends.Memory) × Leads answers gives old new MOST_MESSAGES MOST_MESSAGES [] × Keeps old_sent new_sent

-- the controller leaves, where it is still to
abbrev pub Leaves : {P : Type 0} → (P → Call → Reply → P → Type 0) → Bool → P → P → Type 0
Leaves answers true old new = (reply : Reply) × answers old calls_of.Leave reply new
Leaves answers false old new = new ≡ old

-- the course of a link to its end, behind which the controller leaves by one call where it is still to
pub record Ended {P : Type 0} (answers : P → Call → Reply → P → Type 0) (gives : P → ℕ → Option Next → P → Type 0) (end : LinkEnd) (old new : Outside P) (before : Served) (old_sent new_sent : Option (List ℕ)) : Type 0 where
  pub middle : P
  pub due : Bool
  pub lasts : Lasts answers gives end old (record new { pass = middle }) before old_sent new_sent due
  pub leaves : Leaves answers due middle new.pass

-- a link of a lane of which nothing has come and on which SETTINGS were served
abbrev pub greeted : ℕ → Served
greeted lane = flushed (untold (opened lane))

-- how a link of a lane was served
abbrev pub IsServed : {P : Type 0} → (P → Call → Reply → P → Type 0) → (P → ℕ → Option Next → P → Type 0) → ℕ → LinkEnd → Outside P → Outside P → Option (List ℕ) → Option (List ℕ) → Type 0
IsServed answers gives lane end old new old_sent new_sent =
    Ended answers gives end old new (greeted lane) old_sent new_sent
    ⊎ IsUntouched answers gives end old new old_sent new_sent
