-- What holds of the roles in each state of a run.
use Rattle.std.specs.Prelude.{List}
use Rattle.p4_types.specs.declared.events.Start.{Start}
use Rattle.role_arbiter.specs.Laws.{IsSound}
use Rattle.plane_spec.specs.Config.{Event}
use Rattle.plane_spec.specs.Legal.{Legal}
use Rattle.plane_spec.specs.Planes.{opened, applied}

-- After any events that may follow one another no two sessions of a role bear one id but 0, none a greater one than its role received, and the limits are kept.
abbrev pub RolesStaySound : Type 0
RolesStaySound = (start : Start) (list : List Event) → Legal (opened start) list → IsSound (applied (opened start) list).roles
