-- What a connection keeps at most, whatever its peer sends (RFC 9113, sections 4.2, 5.1.2 and 10.5, and this project's profile).
use Rattle.std.specs.Prelude.{◌≡◌, ◌≤◌, ℕ, ◌+◌, ◌*◌, false, List, [], length, Option, Some, None, All, sum_by}
use Rattle.hpack_tables.specs.Tables.{entry_size}
use Rattle.hpack_tables.specs.Writing.{block_bytes}
use Rattle.h2_streams.specs.declared.stream.Stream.{Stream}
use Rattle.h2_streams.specs.declared.stream.Waiting.{Waiting}
use Rattle.h2_streams.specs.declared.stream.Waiting.TheVariants as waitings
use Rattle.h2_streams.specs.Streams.{is_over, open_count}
use Rattle.h2_conn.specs.declared.state.State.{State}
use Rattle.h2_conn.specs.declared.state.HeaderBlock.{HeaderBlock}
use Rattle.h2_conn.specs.declared.phase.Phase.{Phase}
use Rattle.h2_conn.specs.declared.phase.Phase.TheVariants as phases
use Rattle.h2_conn.specs.Bytes.{opening}
use Rattle.h2_conn.specs.History.{Turn, history}
use Rattle.h2_conn.specs.History as turns

-- the size of what waits: its bytes, and one for itself
abbrev pub waiting_size : Waiting → ℕ
waiting_size (waitings.Data message) = 1 + length message
waiting_size (waitings.Headers block end_stream) = 1 + length block

-- the size of all that waits on a stream
abbrev pub load : Stream → ℕ
load stream = sum_by waiting_size stream.waiting

-- the bytes of a header block that is not whole
abbrev pub fragment_of : Option HeaderBlock → List ℕ
fragment_of None = []
fragment_of (Some block) = block.fragment

-- one side at least has not ended the stream
abbrev pub IsLive : Stream → Type 0
IsLive stream = is_over stream ≡ false

-- What a connection keeps, which was given so much to send.
pub record IsWithin (given : ℕ) (conn : State) : Type 0 where
  -- a frame that is not whole, nine bytes of head and its payload
  pub unread : length conn.unread ≤ 9 + 16384
  pub block : length (fragment_of conn.block) ≤ 262144
  pub entries : sum_by entry_size conn.decoder.entries ≤ 4096
  -- streams on which this side can still send, and all that are kept
  pub sendable : open_count conn.streams ≤ 100
  pub kept : length conn.streams ≤ 1000
  pub live : All IsLive conn.streams
  pub skipped : length conn.skipped ≤ 1000
  pub waiting : sum_by load conn.streams ≤ given

-- the same of a connection that may have ended
abbrev pub IsBounded : ℕ → Phase → Type 0
IsBounded given (phases.Open conn) = IsWithin given conn
IsBounded given (phases.Broken code output) = Unit {0}
IsBounded given phases.OutOfMemory = Unit {0}

-- how much is given to a connection to send
abbrev pub given_by : Turn → ℕ
given_by (turns.Received bytes) = 0
given_by (turns.HeadersSent stream headers end_stream) = 1 + length (block_bytes headers)
given_by (turns.DataSent stream bytes) = 1 + length bytes
given_by turns.OutputTaken = 0

-- how much waits on the streams of a connection
abbrev pub waits_in : Phase → ℕ
waits_in (phases.Open conn) = sum_by load conn.streams
waits_in (phases.Broken code output) = 0
waits_in phases.OutOfMemory = 0

-- Whatever happens to a connection, what it keeps has limits. From any point on no more waits than did then, and what is given to it to send.
abbrev pub AlwaysBounded : Type 0
AlwaysBounded = (past since : List Turn) → IsBounded (waits_in (history opening past).0 + sum_by given_by since) (history (history opening past).0 since).0

-- How many bytes a connection may have to send of what it holds: those that are to be sent; twelve times what waits, since a byte may go out in a frame of its own behind a head of nine, and a header block behind an update of three; thrice the bytes of a frame that is not whole, since one of ten bytes may be answered with 26; and the 17 of GOAWAY.
abbrev pub to_send : Phase → ℕ
to_send (phases.Open conn) = length conn.outgoing.output + 12 * sum_by load conn.streams + 3 * length conn.unread + 17
to_send (phases.Broken code output) = length output
to_send phases.OutOfMemory = 0

-- how many more it may have to send for this
abbrev pub sent_for : Turn → ℕ
sent_for (turns.Received bytes) = 3 * length bytes
sent_for turn = 12 * given_by turn

-- From any point on a connection has to send no more than it had then, and what is sent for the bytes that come and for what it is given to send, whatever its peer sends. Bytes that are taken are no longer among them.
abbrev pub OutputBounded : Type 0
OutputBounded = (past since : List Turn) → to_send (history (history opening past).0 since).0 ≤ to_send (history opening past).0 + sum_by sent_for since
