use denote.Param.Send.{sendable}
use Rattle.std.proofs.Common.{◌≡◌, ℕ, subst, sym, arith}
use Rattle.replay_run.proofs.Jobs.{each_given}
use Rattle.replay_run.proofs.Lanes.{each_becomes}
use Rattle.replay_run.specs.Ends.{EndsAsking, HasAsked}
use Rattle.replay_run.specs.Opening.{IsAsker}
use Rattle.ctl_lock.specs.Passing.{Passing}
use Rattle.replay_run.proofs.threads.ask_each.Goals as goal
use Rattle.thread_crossings.proofs.Desks.{desk_sync, pass_send}

pub map_vec-requires-send-J : goal.map_vec-requires-send-J
map_vec-requires-send-J g c κs within = search (pass_send, sendable) depth 20

pub map_vec-requires-send-X : goal.map_vec-requires-send-X
map_vec-requires-send-X g c κs within = search (pass_send, sendable) depth 20

pub map_vec-requires-sync-F : goal.map_vec-requires-sync-F
map_vec-requires-sync-F g c κs within = search (desk_sync, sendable) depth 20

pub returns : goal.returns
returns g c =
    let given = each_given _ _ EndsAsking c.args.passes.items c.in-Ok.ended.items (λ before after did. did.met) (omega (arith, c.in-Ok.ensures.len, c.in-Ok.ended.ok.0, c.args.passes.ok.0)) c.in-Ok.ensures.each in
    record { ended = each_becomes IsAsker HasAsked EndsAsking 32 c.args.passes.items c.in-Ok.ended.items (λ lane before after is did. subst (λ (l : ℕ). HasAsked l after) is did) c.requires.lanes given }
