-- What waits for all controllers, and the digests whose lists they are sent (this project's profile).
use Rattle.std.specs.Prelude.{◌≡◌, ℕ, ◌+◌, ◌-◌, ◌^◌, ◌<◌, ◌==◌, nat_lt, min, if◌then◌else◌, Bool, true, false, List, [], filter, replicate, slice_index_or, slice_set, Option, Some, None}
use Rattle.std.specs.List.{fold}
use Rattle.p4_types.specs.declared.calls.Notice.{Notice}
use Rattle.p4_types.specs.declared.messages.DigestList.{DigestList}
use Rattle.p4_types.specs.declared.messages.P4Data.{P4Data}
use Rattle.p4_types.specs.declared.messages.PacketIn.{PacketIn}
use Rattle.p4_types.specs.declared.messages.StreamMessageResponse.{StreamMessageResponse}
use Rattle.p4_types.specs.declared.messages.StreamMessageResponse.TheVariants.{Packet, Digest}
use Rattle.digest_lists.specs.State.{DigestState}
use Rattle.digest_lists.specs.Fold.{take_sample, sent_at_sample, send_due, sent_at_tick}
use Rattle.mail_room.specs.declared.mail.TheConstants.{LANE_LIMIT}
use Rattle.mail_room.specs.declared.next.Next.{Next}
use Rattle.mail_room.specs.Boxes.{BoxState, empty_box, after_packet, after_notice, next_of, after_next}

-- what waits for each lane, the digests that are set, and how often memory was missing; that count stands still at its greatest
pub record MailState (T : Type 0) : Type 0 where
  pub boxes : List (BoxState T)
  pub lists : List DigestState
  pub unstored : ℕ

-- the lane is one of those that may have mail
abbrev pub IsLane : ℕ → Type 0
IsLane lane = lane < LANE_LIMIT

-- the lane, if there is one, may have mail
abbrev pub IsLaneIfAny : Option ℕ → Type 0
IsLaneIfAny None = Unit {0}
IsLaneIfAny (Some lane) = IsLane lane

-- the notices that are for a caller itself
abbrev pub own_notices : ℕ → List Notice → List Notice
own_notices caller notices = filter (λ notice. notice.lane == caller) notices

module _ {T : Type 0} where
  -- nothing waits, and no digest is set
  abbrev pub no_mail : MailState T
  no_mail = record { boxes = replicate LANE_LIMIT empty_box; lists = []; unstored = 0 }

  -- what waits for a lane
  abbrev pub box_at : MailState T → ℕ → BoxState T
  box_at mail lane = slice_index_or mail.boxes lane empty_box

  -- with this waiting for a lane, and for each other lane what waited
  abbrev pub with_box : MailState T → ℕ → BoxState T → MailState T
  with_box mail lane box = record mail { boxes = slice_set mail.boxes lane box }

  -- with these digests
  abbrev pub with_lists : MailState T → List DigestState → MailState T
  with_lists mail lists = record mail { lists = lists }

  -- memory was missing once more
  abbrev pub missed : MailState T → MailState T
  missed mail = record mail { unstored = min (mail.unstored + 1) (2 ^ 64 - 1) }

  -- a notice to a lane
  abbrev pub notified : MailState T → ℕ → StreamMessageResponse → T → MailState T
  notified mail lane message told = with_box mail lane (after_notice (box_at mail lane) message told)

  -- a notice of a call to another lane that may have mail, with what the call has told
  abbrev pub posted_one : ℕ → T → MailState T → Notice → MailState T
  posted_one caller told mail notice = if notice.lane == caller then mail else if nat_lt notice.lane LANE_LIMIT then notified mail notice.lane notice.message told else mail

  -- the notices of a call to other lanes
  abbrev pub posted : ℕ → T → MailState T → List Notice → MailState T
  posted caller told mail notices = fold (posted_one caller told) mail notices

  -- a packet or a digest list to a lane
  abbrev pub sent_to : MailState T → ℕ → StreamMessageResponse → MailState T
  sent_to mail lane message = with_box mail lane (after_packet (box_at mail lane) message)

  -- packets for the controller of a lane, one after another
  abbrev pub packets_to : ℕ → MailState T → List PacketIn → MailState T
  packets_to lane mail packets = fold (λ before packet. sent_to before lane (Packet packet)) mail packets

  -- a list of a digest goes to the primary, or nowhere without one
  abbrev pub list_to : MailState T → Option ℕ → Option DigestList → MailState T
  list_to mail primary None = mail
  list_to mail None (Some list) = mail
  list_to mail (Some lane) (Some list) = sent_to mail lane (Digest list)

  -- a sample of a digest is taken, and the list that it makes due is sent
  abbrev pub sampled : MailState T → Option ℕ → ℕ → P4Data → ℕ → MailState T
  sampled mail primary digest content now = list_to (with_lists mail (take_sample mail.lists digest content now)) primary (sent_at_sample mail.lists digest content now)

  -- the list of the lowest digest that is due is sent
  abbrev pub ticked : MailState T → Option ℕ → ℕ → MailState T
  ticked mail primary now = list_to (with_lists mail (send_due mail.lists now)) primary (sent_at_tick mail.lists now)

  -- the lane is given what waits longest for it
  abbrev pub Gives : MailState T → ℕ → Option (Next × Option T) → MailState T → Type 0
  Gives before lane given after = (given ≡ next_of (box_at before lane)) × (after ≡ with_box before lane (after_next (box_at before lane)))

  -- It is done, or memory was missing: that is counted, and nothing else changes. It is counted nowhere else.
  abbrev pub IsDoneOrMissed : Bool → MailState T → MailState T → MailState T → Type 0
  IsDoneOrMissed true before done after = after ≡ done
  IsDoneOrMissed false before done after = after ≡ missed before
