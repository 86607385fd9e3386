use denote.Param.Send.{sendable}
use Rattle.desk_crossings.proofs.Desks.{desk_send, desk_sync, desk_worker_send, pass_send}
use Rattle.speed.proofs.desk.running.run.Goals as goal

-- the desk, its passes and its workers go to other threads, and threads share the desk and the clock
pub run_at-requires : goal.run_at-requires
run_at-requires g c k = (
  search (desk_send, sendable) depth 20,
  (
    search (pass_send, sendable) depth 20,
    (
      search (desk_worker_send, sendable) depth 20,
      (
        search (desk_sync, sendable) depth 20,
        search sendable depth 20,
      ),
    ),
  ),
)
