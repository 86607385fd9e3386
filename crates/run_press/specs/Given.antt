-- What a press of a run was given.
use Rattle.std.specs.Prelude.{List}
use Rattle.p4_types.specs.declared.events.Start.{Start}
use Rattle.plane_spec.specs.Config.{Event}

-- the start of the run, and the events since then
pub record Given : Type 0 where
  pub start : Start
  pub events : List Event
