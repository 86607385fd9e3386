-- What a link sees of its clock and of the client's first bytes, and when it is given up.
use Rattle.std.specs.Prelude.{ℕ, ◌+◌, ◌-◌, ◌*◌, ◌==◌, ◌&&◌, not, nat_le, Bool, false, if◌then◌else◌, List, [], fold, Option, Some, None}
use Rattle.h2_frames.specs.declared.frame.Frame.TheVariants as frames
use Rattle.h2_frames.specs.Layout.{spelling}
use Rattle.link_loop.specs.declared.TheConstants.{OPENING_WAIT, QUIET_WAIT}
use Rattle.link_loop.specs.declared.watch.Opening.{Opening}
use Rattle.link_loop.specs.declared.watch.Watch.{Watch}
use Rattle.link_loop.specs.Doings.{Doing, Pulled, Waited, Given}

-- nothing has come
abbrev pub fresh_opening : Opening
fresh_opening = record { count = 0; high = 0; middle = 0; low = 0 }

-- The 24 bytes of the preface and the first frame, whose head has 9 bytes and tells its length, are whole (RFC 9113, sections 3.4 and 4.1).
abbrev pub has_opened : Opening → Bool
has_opened opening = nat_le (33 + (opening.high * 65536 + opening.middle * 256 + opening.low)) opening.count

-- the next byte, of which the three behind the preface are the length; those behind the first frame are not looked at
unfoldable pub byte_seen : Opening → ℕ → Opening
byte_seen opening byte =
    if has_opened opening then opening
    else record {
      count = opening.count + 1;
      high = if opening.count == 24 then byte else opening.high;
      middle = if opening.count == 25 then byte else opening.middle;
      low = if opening.count == 26 then byte else opening.low;
    }

-- nothing has been seen
abbrev pub unwatched : Watch
unwatched = record { began = None; since = None; last = 0; opening = fresh_opening }

-- the first of moments, where another is told behind them
abbrev pub first_told : ℕ → Option ℕ → ℕ
first_told now None = now
first_told now (Some first) = first

-- the clock told a moment, the first one behind the last bytes where none was told behind them
abbrev pub told : ℕ → Watch → Watch
told now watch = record watch { began = Some (first_told now watch.began); since = Some (first_told now watch.since); last = now }

-- bytes came
abbrev pub piece_seen : List ℕ → Watch → Watch
piece_seen piece watch = record watch { since = None; opening = fold byte_seen watch.opening piece }

-- what is seen in a doing
abbrev pub watched : Watch → Doing → Watch
watched watch (Pulled piece exchanges) = piece_seen piece watch
watched watch Waited = watch
watched watch (Given now next exchanges) = told now watch

-- at least so many nanoseconds have passed since the first moment, if one was told
abbrev pub is_late : ℕ → Option ℕ → ℕ → Bool
is_late wait None now = false
is_late wait (Some first) now = nat_le wait (now - first)

-- The clock told that the time for the preface and SETTINGS has passed, and they are not whole.
abbrev pub is_unopened : Watch → Bool
is_unopened watch = is_late OPENING_WAIT watch.began watch.last && not (has_opened watch.opening)

-- The clock told that nothing has come for long. A call whose bytes are not whole, or whose answer the client does not take, is no reason to wait for it.
abbrev pub is_quiet : Watch → Bool
is_quiet watch = is_late QUIET_WAIT watch.since watch.last

-- GOAWAY without an error, which does not tell what was taken (RFC 9113, section 6.8)
abbrev pub goodbye : List ℕ
goodbye = spelling (frames.GoAway 2147483647 0 [])
