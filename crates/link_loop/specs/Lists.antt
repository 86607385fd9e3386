-- A desk whose passes hold the replies and the messages that are to come.
use Rattle.std.specs.Prelude.{◌≡◌, ℕ, List, [], ◌∷◌, Option, Some, None}
use Rattle.p4_types.specs.declared.calls.Call.{Call}
use Rattle.p4_types.specs.declared.calls.Reply.{Reply}
use Rattle.p4_types.specs.declared.code.Code.TheVariants as codes_of
use Rattle.mail_room.specs.declared.next.Next.{Next}

-- a pass: its lane, and what is still to come
pub record HeldPass : Type 0 where
  pub lane : ℕ
  pub replies : List Reply
  pub nexts : List Next

-- what a call is answered once no reply is left
abbrev pub no_reply : Reply
no_reply = record { code = codes_of.Ok; messages = []; notices = []; steps = 0; packet = None }

-- the reply of a list's next call
abbrev pub reply_of : List Reply → Reply
reply_of [] = no_reply
reply_of (reply ∷ rest) = reply

-- those behind it
abbrev pub replies_behind : List Reply → List Reply
replies_behind [] = []
replies_behind (reply ∷ rest) = rest

-- what is given next
abbrev pub next_of : List Next → Option Next
next_of [] = None
next_of (next ∷ rest) = Some next

-- what is given behind it
abbrev pub nexts_behind : List Next → List Next
nexts_behind [] = []
nexts_behind (next ∷ rest) = rest

-- A call takes the next reply, whatever is called.
abbrev pub Answers : HeldPass → Call → Reply → HeldPass → Type 0
Answers old call reply new = (reply ≡ reply_of old.replies) × (new ≡ record old { replies = replies_behind old.replies })

-- What waits is the next of the list, at whatever moment.
abbrev pub Gives : HeldPass → ℕ → Option Next → HeldPass → Type 0
Gives old now next new = (next ≡ next_of old.nexts) × (new ≡ record old { nexts = nexts_behind old.nexts })
