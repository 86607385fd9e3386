-- What the links, ports and nets in memory hold.
use Rattle.std.specs.Prelude.{◌≡◌, ℕ, true, false, List, if◌then◌else◌}
use Rattle.sw_edge.specs.Counts.{one_more_if}
use Rattle.sw_edge.specs.Memory.{Picked, Unread, Written, picks, is_next, after_call}

-- how an object's calls go: which fail, which of the others find nothing for now,
-- and how often it failed, found nothing and met its end
pub record HeldCourse : Type 0 where
  pub failing : Picked
  pub quiet : Picked
  pub faults : ℕ
  pub quiets : ℕ
  pub ends : ℕ

-- a course before the first call, in which these calls fail and these of the others find nothing
abbrev pub course : List ℕ → List ℕ → HeldCourse
course failing quiet = record { failing = picks failing; quiet = picks quiet; faults = 0; quiets = 0; ends = 0 }

-- a call, which counts as a fault if it is one that fails
abbrev pub after_turn : HeldCourse → HeldCourse
after_turn c = record c { failing = after_call c.failing; faults = one_more_if (is_next c.failing) c.faults }

-- a call that did not fail, which is counted if it is one that finds nothing
abbrev pub after_look : HeldCourse → HeldCourse
after_look c = record c { quiet = after_call c.quiet; quiets = one_more_if (is_next c.quiet) c.quiets }

-- which calls find nothing, once one was made; one that fails does not look
abbrev pub quiet_after : HeldCourse → Picked
quiet_after c = if is_next c.failing then c.quiet else after_call c.quiet

-- the next call does not fail and finds nothing
abbrev pub IsNextQuiet : HeldCourse → Type 0
IsNextQuiet c = (is_next c.failing ≡ false) × (is_next c.quiet ≡ true)

-- a link: what is left and what was sent
pub record HeldLink : Type 0 where
  pub unread : Unread
  pub written : Written
  pub course : HeldCourse

-- ports: the packets that are left, those that were sent, and how many more there is room for
pub record HeldPorts : Type 0 where
  pub left : List (ℕ × List ℕ)
  pub sent : List (ℕ × List ℕ)
  pub room : ℕ
  pub course : HeldCourse

-- a net: the links and the ports that it will hand out
pub record HeldNet : Type 0 where
  pub links : List HeldLink
  pub ports : List HeldPorts
  pub course : HeldCourse
