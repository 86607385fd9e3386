-- What a step of a link's loop does.
use Rattle.std.specs.Prelude.{◌≡◌, ℕ, ◌⊎◌, ◌&&◌, ◌||◌, not, Bool, false, List, [], ◌∷◌, fold, length, Option, Some, None, Result, Ok, Err}
use Rattle.list_types.specs.declared.memory.NoMemory.{NoMemory}
use Rattle.sw_edge.specs.Told.{Keeps, Consumes, Appends, AppendsPrefix, Ends}
use Rattle.sw_edge.specs.Counts.{Rose}
use Rattle.h2_frames.specs.declared.codes.H2Code.{H2Code}
use Rattle.h2_conn.specs.Bytes.{code_of}
use Rattle.p4_types.specs.declared.calls.Call.{Call}
use Rattle.p4_types.specs.declared.calls.Reply.{Reply}
use Rattle.p4_types.specs.declared.messages.StreamMessageResponse.{StreamMessageResponse}
use Rattle.mail_room.specs.declared.next.Next.{Next}
use Rattle.p4rt_service.specs.declared.link.Link.{Link}
use Rattle.p4rt_service.specs.declared.standing.Standing.{Standing}
use Rattle.p4rt_service.specs.declared.standing.Standing.TheVariants as standings
use Rattle.p4rt_service.specs.Dialogues.{Held, Begun, noting}
use Rattle.p4rt_service.specs.Serving.{is_open}
use Rattle.p4rt_service.specs.Turns.{Served, Turn, Piece, opened, untold, message_served, turn_served, turns_served, is_to_leave}
use Rattle.link_loop.specs.declared.ends.LinkEnd.{LinkEnd}
use Rattle.link_loop.specs.declared.ends.LinkEnd.TheVariants as ends
use Rattle.link_loop.specs.declared.watch.Watch.{Watch}
use Rattle.link_loop.specs.Watches.{watched, piece_seen, is_unopened, is_quiet}
use Rattle.link_loop.specs.Courses as courses
use Rattle.link_loop.specs.Courses.{Outside, Course, Lasts, IsUntouched, greeted}

-- what a turn served is pushed, where there was memory for it
abbrev pub Pushes : Option LinkEnd → Option (List ℕ) → Option (List ℕ) → Result (List ℕ) NoMemory → Type 0
Pushes None old new (Ok bytes) = Appends old new bytes
Pushes (Some ends.Fault) old new (Ok bytes) = AppendsPrefix old new bytes
Pushes (Some ends.Memory) old new (Err e) = Keeps old new
Pushes end old new bytes = ⊥

-- the same of a piece, behind which the link is refused where a breach has ended the connection
abbrev pub PushesPiece : Option LinkEnd → Option (List ℕ) → Option (List ℕ) → Result (List ℕ × Option H2Code) NoMemory → Type 0
PushesPiece None old new (Ok served) = Appends old new served.0 × (served.1 ≡ None)
PushesPiece (Some ends.Fault) old new (Ok served) = AppendsPrefix old new served.0
PushesPiece (Some (ends.Refused code)) old new (Ok served) = Appends old new served.0 × (served.1 ≡ Some code)
PushesPiece (Some ends.Memory) old new (Err e) = Keeps old new
PushesPiece end old new served = ⊥

-- turns that were held on a link
pub record HeldTurns {P : Type 0} (answers : P → Call → Reply → P → Type 0) (old new : P) (before : Link) (standing : Standing) (turns : List Turn) : Type 0 where
  pub served : Served
  pub held : Held answers old new (turns_served turns (untold before)) served
  pub standing_is : standing ≡ standings.Serving served.link

-- the one turn of a list was begun on a link
pub record BegunTurn {P : Type 0} (answers : P → Call → Reply → P → Type 0) (old new : P) (before : Link) (standing : Standing) (turns : List Turn) : Type 0 where
  pub turn : Turn
  pub turn_is : turns ≡ turn ∷ []
  pub begun : Begun (noting answers) (old, is_open before) (new, is_to_leave standing) (turn_served turn (untold before))

-- turns on a link without a breach, and what is sent of them
abbrev pub Takes : {P : Type 0} → (P → Call → Reply → P → Type 0) → Option LinkEnd → P → P → Option (List ℕ) → Option (List ℕ) → Link → Standing → List Turn → Type 0
Takes answers None old new old_sent new_sent before standing turns =
    (held : HeldTurns answers old new before standing turns) × Appends old_sent new_sent held.served.sent × (code_of held.served.link.conn ≡ None)
Takes answers (Some ends.Closed) old new old_sent new_sent before standing turns = ⊥
Takes answers (Some ends.Fault) old new old_sent new_sent before standing turns =
    (held : HeldTurns answers old new before standing turns) × AppendsPrefix old_sent new_sent held.served.sent
Takes answers (Some (ends.Refused code)) old new old_sent new_sent before standing turns =
    (held : HeldTurns answers old new before standing turns) × Appends old_sent new_sent held.served.sent × (code_of held.served.link.conn ≡ Some code)
Takes answers (Some ends.Memory) old new old_sent new_sent before standing turns = BegunTurn answers old new before standing turns × Keeps old_sent new_sent
Takes answers (Some ends.Quiet) old new old_sent new_sent before standing turns = ⊥

-- the same, on a service that serves a link without a breach
abbrev pub TakesOn : {P : Type 0} → (P → Call → Reply → P → Type 0) → Option LinkEnd → P → P → Option (List ℕ) → Option (List ℕ) → Standing → Standing → List Turn → Type 0
TakesOn answers end old new old_sent new_sent before standing turns =
    (link : Link) → before ≡ standings.Serving link → code_of link.conn ≡ None → Takes answers end old new old_sent new_sent link standing turns

-- one doing, which is seen and behind which the link goes on, or the end of its course
abbrev pub Steps : {P : Type 0} → (P → Call → Reply → P → Type 0) → (P → ℕ → Option Next → P → Type 0) → Option LinkEnd → Outside P → Outside P → Option (List ℕ) → Option (List ℕ) → Link → Standing → ℕ → ℕ → Watch → Watch → Type 0
Steps answers gives None old new old_sent new_sent before standing more left watch seen =
    (course : Course answers gives old new (untold before) more) × Appends old_sent new_sent course.served.sent × (standing ≡ standings.Serving course.served.link)
    × (left ≡ course.left) × (length course.doings ≡ 1) × (seen ≡ fold watched watch course.doings) × (code_of course.served.link.conn ≡ None)
Steps answers gives (Some end) old new old_sent new_sent before standing more left watch seen = courses.Ends answers gives end old new (untold before) old_sent new_sent more (is_to_leave standing)

-- the same, on a service that serves a link without a breach
abbrev pub StepsOn : {P : Type 0} → (P → Call → Reply → P → Type 0) → (P → ℕ → Option Next → P → Type 0) → Option LinkEnd → Outside P → Outside P → Option (List ℕ) → Option (List ℕ) → Standing → Standing → ℕ → ℕ → Watch → Watch → Type 0
StepsOn answers gives end old new old_sent new_sent before standing more left watch seen =
    (link : Link) → before ≡ standings.Serving link → code_of link.conn ≡ None → Steps answers gives end old new old_sent new_sent link standing more left watch seen

-- the time for what a client says first has passed, or nothing has come for long, and no channel is open
abbrev pub is_given_up : Watch → Standing → Bool
is_given_up watch standing = (is_unopened watch || is_quiet watch) && not (is_to_leave standing)

-- a course to its end, on a service that serves a link without a breach
abbrev pub LastsOn : {P : Type 0} → (P → Call → Reply → P → Type 0) → (P → ℕ → Option Next → P → Type 0) → LinkEnd → Outside P → Outside P → Option (List ℕ) → Option (List ℕ) → Standing → Standing → Type 0
LastsOn answers gives end old new old_sent new_sent before standing =
    (link : Link) → before ≡ standings.Serving link → code_of link.conn ≡ None → Lasts answers gives end old new (untold link) old_sent new_sent (is_to_leave standing)

-- a message on a link without a breach, and what is sent of it
abbrev pub Delivered : Option LinkEnd → Option (List ℕ) → Option (List ℕ) → Link → Standing → StreamMessageResponse → Type 0
Delivered None old_sent new_sent before standing message =
    (standing ≡ standings.Serving (message_served message (untold before)).link) × Appends old_sent new_sent (message_served message (untold before)).sent
Delivered (Some ends.Fault) old_sent new_sent before standing message =
    (standing ≡ standings.Serving (message_served message (untold before)).link) × AppendsPrefix old_sent new_sent (message_served message (untold before)).sent
Delivered (Some ends.Memory) old_sent new_sent before standing message = (standing ≡ standings.Lost (is_open before)) × Keeps old_sent new_sent
Delivered end old_sent new_sent before standing message = ⊥

-- the same, on a service that serves a link
abbrev pub DeliversOn : Option LinkEnd → Option (List ℕ) → Option (List ℕ) → Standing → Standing → StreamMessageResponse → Type 0
DeliversOn end old_sent new_sent before standing message = (link : Link) → before ≡ standings.Serving link → Delivered end old_sent new_sent link standing message

-- a pull that gave no bytes
abbrev pub PullsNone : Option LinkEnd → Option (List ℕ) → Option (List ℕ) → ℕ → ℕ → Type 0
PullsNone None old new before now = Keeps old new × Rose before now
PullsNone (Some ends.Closed) old new before now = Ends old new × (now ≡ before)
PullsNone (Some ends.Fault) old new before now = Keeps old new × (now ≡ before)
PullsNone end old new before now = ⊥

-- one pull that gave bytes, which were seen and served, or a pull that gave none
abbrev pub Pulls : {P : Type 0} → (P → Call → Reply → P → Type 0) → Option LinkEnd → P → P → Option (List ℕ) → Option (List ℕ) → ℕ → ℕ → Option (List ℕ) → Option (List ℕ) → Link → Standing → Watch → Watch → Type 0
Pulls answers end old new left_before left_now quiets_before quiets_now old_sent new_sent before standing watch seen =
    ((piece : List ℕ) × Consumes left_before left_now piece × (quiets_now ≡ quiets_before) × (seen ≡ piece_seen piece watch) × Takes answers end old new old_sent new_sent before standing (Piece piece ∷ []))
    ⊎ (PullsNone end left_before left_now quiets_before quiets_now × (new ≡ old) × Keeps old_sent new_sent × (standing ≡ standings.Serving before) × (seen ≡ watch))

-- the same, on a service that serves a link without a breach
abbrev pub PullsOn : {P : Type 0} → (P → Call → Reply → P → Type 0) → Option LinkEnd → P → P → Option (List ℕ) → Option (List ℕ) → ℕ → ℕ → Option (List ℕ) → Option (List ℕ) → Standing → Standing → Watch → Watch → Type 0
PullsOn answers end old new left_before left_now quiets_before quiets_now old_sent new_sent before standing watch seen =
    (link : Link) → before ≡ standings.Serving link → code_of link.conn ≡ None → Pulls answers end old new left_before left_now quiets_before quiets_now old_sent new_sent link standing watch seen

-- a course from its first byte to its end, on a service of which nothing has come
abbrev pub GreetsOn : {P : Type 0} → (P → Call → Reply → P → Type 0) → (P → ℕ → Option Next → P → Type 0) → LinkEnd → Outside P → Outside P → Option (List ℕ) → Option (List ℕ) → Standing → Standing → Type 0
GreetsOn answers gives end old new old_sent new_sent before standing =
    (lane : ℕ) → before ≡ standings.Serving (opened lane)
    → Lasts answers gives end old new (greeted lane) old_sent new_sent (is_to_leave standing)
    ⊎ (IsUntouched answers gives end old new old_sent new_sent × (is_to_leave standing ≡ false))
