-- What the objects in memory hold.
use Rattle.std.specs.Prelude.{ℕ, zero, suc, Bool, List, ◌==◌, ◌+◌, ◌/◌, length, min, if◌then◌else◌}
use Rattle.std.specs.Int.{div_ceil}
use Rattle.std.specs.List.{list_any}
use Rattle.sw_edge.specs.Counts.{one_more}

-- which calls are picked, by index from 0, and how many calls there were
pub record Picked : Type 0 where
  pub indices : List ℕ
  pub calls : ℕ

-- these calls, before the first one
abbrev pub picks : List ℕ → Picked
picks indices = record { indices = indices; calls = 0 }

-- whether the next call is picked
abbrev pub is_next : Picked → Bool
is_next picked = list_any (λ index. index == picked.calls) picked.indices

-- the same list, a call later
abbrev pub after_call : Picked → Picked
after_call picked = record picked { calls = one_more picked.calls }

-- the same list, so many calls later
abbrev pub after_calls : ℕ → Picked → Picked
after_calls zero picked = picked
after_calls (suc count) picked = after_call (after_calls count picked)

-- how many of so many next calls come before the first of them that is picked; all of them where none is
abbrev pub unpicked : ℕ → Picked → ℕ
unpicked zero picked = 0
unpicked (suc count) picked = if is_next picked then 0 else suc (unpicked count (after_call picked))

-- bytes that are read in pieces of at most a length
pub record Unread : Type 0 where
  pub left : List ℕ
  pub piece : ℕ

-- how many bytes a read gives that has room for so many: all that are left, as far as the room and the piece go
abbrev pub next_count : Unread → ℕ → ℕ
next_count unread room = min (min (length unread.left) room) unread.piece

-- bytes that were written, and how many there is room for in all
pub record Written : Type 0 where
  pub sent : List ℕ
  pub room : ℕ

-- of the pieces of at most 64 bytes that so many bytes make, those up to the first that does not fit into what is left of the room
abbrev pub fitting : ℕ → ℕ → ℕ
fitting bytes left = min (div_ceil bytes 64) (left / 64 + 1)

-- a source: what is left, which reads fail, how many did, and how many met the end
pub record HeldSource : Type 0 where
  pub unread : Unread
  pub failing : Picked
  pub faults : ℕ
  pub ends : ℕ

-- a sink: what was sent, which pieces fail, and how many writes did
pub record HeldSink : Type 0 where
  pub written : Written
  pub failing : Picked
  pub faults : ℕ

-- a clock: the moments to come, and the last one that was told
pub record HeldClock : Type 0 where
  pub coming : List ℕ
  pub last : ℕ
