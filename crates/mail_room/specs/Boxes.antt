-- What waits for one controller (this project's profile).
use Rattle.std.specs.Prelude.{◌==◌, nat_le, Bool, true, false, ◌||◌, if◌then◌else◌, List, [], ◌∷◌, ◌++◌, length, Option, Some, None}
use Rattle.p4_types.specs.declared.messages.StreamMessageResponse.{StreamMessageResponse}
use Rattle.mail_room.specs.declared.outbox.TheConstants.{PACKET_LIMIT, NOTICE_LIMIT}
use Rattle.mail_room.specs.declared.mailbox.Waiting.{Waiting}
use Rattle.mail_room.specs.declared.next.Next.{Next}
use Rattle.mail_room.specs.declared.next.Next.TheVariants.{Message, Output, Overflow}

-- what a box gives: a message, or that one found no room
abbrev pub IsMail : Next → Type 0
IsMail (Message message) = Unit {0}
IsMail (Output output) = ⊥
IsMail Overflow = Unit {0}

-- the messages that wait, oldest first, and whether a notice found no room behind them
pub record BoxState (T : Type 0) : Type 0 where
  pub waiting : List (Waiting T)
  pub refused : Bool

module _ {T : Type 0} where
  -- nothing waits
  abbrev pub empty_box : BoxState T
  empty_box = record { waiting = []; refused = false }

  -- with one message more
  abbrev pub with_message : BoxState T → Waiting T → BoxState T
  with_message box message = record { waiting = box.waiting ++ message ∷ []; refused = box.refused }

  -- a notice found no room
  abbrev pub with_refusal : BoxState T → BoxState T
  with_refusal box = record { waiting = box.waiting; refused = true }

  -- a packet or a digest list is dropped where a notice found no room, or so many messages wait that the rest of the room is for notices
  abbrev pub after_packet : BoxState T → StreamMessageResponse → BoxState T
  after_packet box message = if box.refused || nat_le PACKET_LIMIT (length box.waiting) then box else with_message box (record { message = message; told = None })

  -- a notice that finds no room is dropped, and so is each message after it
  abbrev pub after_notice : BoxState T → StreamMessageResponse → T → BoxState T
  after_notice box message told =
      if box.refused then box else if length box.waiting == NOTICE_LIMIT then with_refusal box else with_message box (record { message = message; told = Some told })

  -- the oldest message with what its call has told, else once that a notice found no room
  abbrev pub next_of_list : List (Waiting T) → Bool → Option (Next × Option T)
  next_of_list [] refused = if refused then Some (Overflow, None) else None
  next_of_list (first ∷ rest) refused = Some (Message first.message, first.told)

  -- what the box gives next
  abbrev pub next_of : BoxState T → Option (Next × Option T)
  next_of box = next_of_list box.waiting box.refused

  -- what waits once that is taken
  abbrev pub rest_of_list : List (Waiting T) → Bool → BoxState T
  rest_of_list [] refused = empty_box
  rest_of_list (first ∷ rest) refused = record { waiting = rest; refused = refused }

  -- the box after that
  abbrev pub after_next : BoxState T → BoxState T
  after_next box = rest_of_list box.waiting box.refused
