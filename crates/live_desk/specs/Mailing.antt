-- What a call and a packet give to controllers at a desk that serves (this project's profile).
use Rattle.std.specs.Prelude.{◌≡◌, ℕ, nat_lt, ◌&&◌, not, if◌then◌else◌, Bool, true, false, List, [], Option, Some, None, is_some, Result, Ok, Err}
use Rattle.digest_lists.specs.Fold.{acknowledge, set_to}
use Rattle.live_desk.specs.Locked.{Locking}
use Rattle.live_desk.specs.Passing.{HasFollowed, IsCalled, Passing}
use Rattle.list_types.specs.declared.memory.NoMemory.{NoMemory}
use Rattle.mail_room.specs.AllMail.{IsDoneOrMissed, MailState, missed, own_notices, packets_to, posted, sampled, with_box, with_lists}
use Rattle.mail_room.specs.Boxes.{empty_box}
use Rattle.p4_types.specs.declared.calls.Call.{Call}
use Rattle.p4_types.specs.declared.calls.Call.TheVariants as calls
use Rattle.p4_types.specs.declared.calls.Reply.{Reply}
use Rattle.p4_types.specs.declared.code.Code.{Code}
use Rattle.p4_types.specs.declared.code.Code.TheVariants as codes
use Rattle.p4_types.specs.declared.messages.DigestEntry.{DigestEntry}
use Rattle.p4_types.specs.declared.messages.PacketIn.{PacketIn}
use Rattle.p4_types.specs.declared.messages.StreamMessageRequest.TheVariants as requests
use Rattle.p4_types.specs.declared.records.Sample.{Sample}
use Rattle.plane_spec.specs.Planes.{ControlState, Plane}
use Rattle.pub_snap.specs.Beginnings.{Beginning}
use Rattle.role_arbiter.specs.State.{session_in}
use Rattle.snap_worker.specs.Working.{state_after}
use Rattle.switch_spec.specs.History.{is_unavailable}
use Rattle.switch_spec.specs.Meaning.{receiver}

-- what stands behind the lock of a desk that serves
pub record Living : Type 0 where
  pub locking : Locking
  pub mail : MailState Beginning
  -- the latest moment that the desk was told, in nanoseconds
  pub moment : ℕ

-- the digest entries of a plane, if there is one
abbrev pub entries_of : Option Plane → List DigestEntry
entries_of None = []
entries_of (Some plane) = plane.digests

-- the lane, where it may have mail
abbrev pub mail_lane : Option ℕ → Option ℕ
mail_lane None = None
mail_lane (Some lane) = if nat_lt lane 32 then Some lane else None

-- whether a lane has a session and may have mail
abbrev pub is_live : ControlState → ℕ → Bool
is_live c lane = nat_lt lane 32 && is_some (session_in c.roles.sessions lane)

-- whether a call with this code ended its caller's stream
abbrev pub is_left : Call → Code → Bool
is_left calls.Leave code = not (is_unavailable code)
is_left _ code = false

-- the mail once a caller's stream ended, if it did
abbrev pub emptied : Bool → ℕ → MailState Beginning → MailState Beginning
emptied true lane mail = with_box mail lane empty_box
emptied false lane mail = mail

-- the list of a digest that a call with this code acknowledges, if it does
abbrev pub acknowledged_by : Call → Code → Option (ℕ × ℕ)
acknowledged_by (calls.Stream (Some (requests.DigestAck ack))) codes.Ok = Some (ack.digest_id, ack.list_id)
acknowledged_by call code = None

-- the mail once a list was acknowledged, if one was
abbrev pub acknowledged : Option (ℕ × ℕ) → MailState Beginning → MailState Beginning
acknowledged None mail = mail
acknowledged (Some list) mail = with_lists mail (acknowledge mail.lists list.0 list.1)

-- just these digests are set
abbrev pub with_digests : List DigestEntry → MailState Beginning → MailState Beginning
with_digests entries mail = with_lists mail (set_to mail.lists entries)

-- The mail behind a call: its notices to other lanes wait there with what it has told, what waited for a lane that left is dropped, a
-- list that was acknowledged is, and just the digests of the active plane are set.
abbrev pub settled : List DigestEntry → ℕ → Call → Reply → Beginning → MailState Beginning → MailState Beginning
settled entries lane call reply told mail =
    with_digests entries (acknowledged (acknowledged_by call reply.code) (emptied (is_left call reply.code) lane (posted lane told mail reply.notices)))

-- the reply as its caller is given it: of its notices it has those for the caller
abbrev pub reply_to : ℕ → Reply → Reply
reply_to lane reply = record reply { notices = own_notices lane reply.notices }

-- the lane, where it has a session and may have mail
abbrev pub live_lane : ControlState → Option ℕ → Option ℕ
live_lane c None = None
live_lane c (Some lane) = if is_live c lane then Some lane else None

-- packets wait for a lane, if there is one
abbrev pub packets_for : Option ℕ → List PacketIn → MailState Beginning → MailState Beginning
packets_for None packets mail = mail
packets_for (Some lane) packets mail = packets_to lane mail packets

-- Packets for the controller of a lane, which gets them where it has a session and may have mail; where memory was missing for them, that
-- is counted.
abbrev pub packets_given : ControlState → Option ℕ → Result (List PacketIn) NoMemory → MailState Beginning → MailState Beginning
packets_given c to (Ok packets) mail = packets_for (live_lane c to) packets mail
packets_given c to (Err e) mail = missed mail

-- A sample, if there is one, is taken to the lists of its digest, of which one that is due goes to the primary of role 0; where memory was
-- missing for it, that is counted, and nothing else changes.
abbrev pub IsSampled : ControlState → Result (Option Sample) NoMemory → ℕ → MailState Beginning → MailState Beginning → Type 0
IsSampled c (Ok None) now before after = after ≡ before
IsSampled c (Ok (Some sample)) now before after = (done : Bool) × IsDoneOrMissed done before (sampled before (mail_lane (receiver c)) sample.digest sample.content now) after
IsSampled c (Err e) now before after = after ≡ missed before

-- whether there are no packets and no sample
abbrev pub is_nothing : Result (List PacketIn) NoMemory → Result (Option Sample) NoMemory → Bool
is_nothing (Ok []) (Ok None) = true
is_nothing _ _ = false

-- the pass made a call, and this is shown of its reply
pub record HasCalled (call : Call) (shown : Reply) (before after : Passing) : Type 0 where
  pub reply : Reply
  pub called : IsCalled call reply before after
  pub shown_is : shown ≡ reply_to before.lane reply

-- The pass made a call, this is shown of its reply, and the mail is that behind the call.
pub record IsAnswered (call : Call) (shown : Reply) (before after : Passing) (mail now : MailState Beginning) : Type 0 where
  pub reply : Reply
  pub called : IsCalled call reply before after
  pub shown_is : shown ≡ reply_to before.lane reply
  pub mail_is : now ≡ settled (entries_of (state_after after.last).active) before.lane call reply after.last mail

-- The pass made a call, this is shown of its reply, and it ran the packet that the call made enter at this port.
pub record IsAsked (cpu : ℕ) (call : Call) (shown : Reply) (before after : Passing) : Type 0 where
  pub reply : Reply
  pub between : Passing
  pub called : IsCalled call reply before between
  pub shown_is : shown ≡ reply_to before.lane reply
  pub followed : HasFollowed reply.packet cpu between after
