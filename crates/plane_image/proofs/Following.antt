-- What an event that may follow gives to its step.
use Rattle.std.proofs.Common.{◌≡◌, ℕ, false, List, Option, subst}
use Rattle.p4_types.specs.declared.events.Origin.{Origin}
use Rattle.plane_spec.specs.Legal.{MayArbitrate}
use Rattle.plane_spec.specs.Planes.{ControlState, session_by}
use Rattle.role_arbiter.proofs.Settling.{not_refused}
use Rattle.role_arbiter.specs.Arbitration.{is_refused}
use Rattle.role_arbiter.specs.declared.sessions.Session.{Session}

pub accepted : (c : ControlState) (by : Origin) (config : Option (List ℕ)) → MayArbitrate c by config → is_refused c.roles (session_by by config) ≡ false
accepted c by config may = subst (λ (s : Session). is_refused c.roles s ≡ false) may.asks (not_refused c.roles by.caller may.update may.no_cause)
