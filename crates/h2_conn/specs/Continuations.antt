-- A CONTINUATION frame that comes in pieces (RFC 9113, section 6.10), whose payload is gathered behind the header block that it goes on with.
use Rattle.std.specs.Prelude.{◌≡◌, ◌≤◌, ◌<◌, ℕ, true, List, ◌++◌, length, take, drop, Option, Some, None}
use Rattle.h2_frames.specs.Reading.{head_at}
use Rattle.h2_conn.specs.declared.state.State.{State}
use Rattle.h2_conn.specs.declared.state.HeaderBlock.{HeaderBlock}
use Rattle.h2_conn.specs.declared.receiver.PartialContinuation.{PartialContinuation}

-- the header block alone
abbrev pub block_of : PartialContinuation → HeaderBlock
block_of continuation = record continuation.block { fragment = take continuation.before continuation.block.fragment }

-- the payload so far
abbrev pub payload_of : PartialContinuation → List ℕ
payload_of continuation = drop continuation.before continuation.block.fragment

-- the unread bytes, of which those behind the head stand elsewhere
abbrev pub unread_with : Option PartialContinuation → List ℕ → List ℕ
unread_with None unread = unread
unread_with (Some continuation) unread = unread ++ payload_of continuation

abbrev pub block_with : Option PartialContinuation → Option HeaderBlock → Option HeaderBlock
block_with None block = block
block_with (Some continuation) block = Some (block_of continuation)

-- the connection whose parts these are
abbrev pub with_continuation : Option PartialContinuation → State → State
with_continuation continuation conn = record conn { unread = unread_with continuation conn.unread; block = block_with continuation conn.block }

-- The head has come, the frame may stand where it does, and the connection keeps nothing of the header block beside it.
pub record GoesOn (continuation : PartialContinuation) (conn : State) : Type 0 where
  pub greeted : conn.greeted ≡ true
  pub settled : conn.settled ≡ true
  pub lent : conn.block ≡ None
  pub nine : length conn.unread ≡ 9
  pub head : continuation.head ≡ head_at conn.unread
  pub kind : continuation.head.kind ≡ 9
  pub short : continuation.head.length ≤ 16384
  pub opened : 0 < continuation.head.stream
  pub stream : continuation.head.stream ≡ continuation.block.stream
  pub within : continuation.before ≤ length continuation.block.fragment

-- There is no such frame, or some of its payload is still to come.
abbrev pub IsInOrder : Option PartialContinuation → State → Type 0
IsInOrder None conn = Unit {0}
IsInOrder (Some continuation) conn = GoesOn continuation conn × (length (payload_of continuation) < continuation.head.length)
