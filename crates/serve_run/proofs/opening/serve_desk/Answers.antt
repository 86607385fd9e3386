use denote.Param.Send.{sendable}
use Rattle.desk_crossings.proofs.Desks.{desk_send, desk_sync, desk_worker_send}
use Rattle.serve_run.proofs.Crossing.{link_pass_send}
use Rattle.serve_run.proofs.opening.serve_desk.Goals as goal

-- the desk, its passes, its workers, links and ports go to other threads, and threads share the desk
pub serve_at-requires : goal.serve_at-requires
serve_at-requires g c k = (
  search (desk_send, sendable) depth 20,
  (
    search sendable depth 20,
    (
      search (link_pass_send, sendable) depth 20,
      (
        search (desk_worker_send, sendable) depth 20,
        (
          search sendable depth 20,
          (
            search sendable depth 20,
            (
              search (desk_sync, sendable) depth 20,
              search sendable depth 20,
            ),
          ),
        ),
      ),
    ),
  ),
)
