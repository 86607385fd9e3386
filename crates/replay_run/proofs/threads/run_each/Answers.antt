use denote.Exit.{yes, no}
use denote.Param.{param}
use denote.Param.Send.{arg_send, param_send, sendable}
use Rattle.replay_run.proofs.Crossing.{desk_shared, job_send, taken_send, takers_send}
use Rattle.replay_run.proofs.threads.run_each.Goals as goal
use Rattle.replay_run.specs.contracts.threads.Taken as Taken
use Rattle.replay_run.specs.contracts.threads.Takers as Takers
use Rattle.ctl_lock.specs.contracts.desk.TapeDesk as TapeDesk

pub join-taken-requires-send-F : goal.join-taken-requires-send-F
join-taken-requires-send-F g c κs within =
    param_send 1 _
    (arg_send _ no _
    (job_send _ _ _ _ _ (param 1 g.row.T) (TapeDesk.the_row (param 0 g.row.J) (param 2 g.row.R) g.J.Naming) (param 3 g.row.G) (Takers.the_row (param 0 g.row.J) g.J.Naming) tt tt tt
    (search sendable depth 20)
    (desk_shared (param 0 g.row.J) (param 2 g.row.R) g.J.Naming (search sendable depth 20) (search sendable depth 20))
    (search sendable depth 20)
    (takers_send (param 0 g.row.J) g.J.Naming c.type_bounds.send-J)))

pub join-taken-requires-send-A : goal.join-taken-requires-send-A
join-taken-requires-send-A g c κs within = param_send 3 _ (arg_send _ yes (Taken.the_row (param 0 g.row.J) g.J.Naming) (taken_send (param 0 g.row.J) g.J.Naming c.type_bounds.send-J))
