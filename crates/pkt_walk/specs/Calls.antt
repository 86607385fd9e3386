-- Calls of actions, as the definitions have them.
use Rattle.std.specs.Prelude.{Option, option_map}
use Rattle.packet_spec.specs.Choosing as choosing
use Rattle.act_exec.specs.Marks.{TakesData}
use Rattle.plane_spec.specs.Planes.{Plane}
use Rattle.pkt_walk.specs.declared.choosing.Call.{Call}

-- a call, with its data
abbrev pub call_of : Call → choosing.Called
call_of call = record { action = call.action; args = call.args.now }

-- a call, if there is one
abbrev pub called_of : Option Call → Option choosing.Called
called_of call = option_map call_of call

-- a call has as many data as its action takes
abbrev pub TakesCall : Plane → Call → Type 0
TakesCall plane call = TakesData plane.config.program call.action.action call.args.now
