use denote.Exit.{yes}
use denote.Param.{param}
use denote.Param.Send.{arg_send, param_send, sendable}
use Rattle.std.proofs.Common.{◌≡◌, ℕ, subst, sym, arith}
use Rattle.run_lanes.specs.contracts.packets.PacketPass as PacketPass
use Rattle.replay_run.proofs.Crossing.{desk_shared, four_shared, heap_shared, worker_send}
use Rattle.replay_run.proofs.Jobs.{each_given}
use Rattle.replay_run.proofs.Lanes.{each_becomes}
use Rattle.replay_run.specs.Ends.{EndsTaking, HasTaken}
use Rattle.replay_run.specs.Opening.{IsTaker}
use Rattle.run_lanes.specs.Packets.{PacketPassing}
use Rattle.replay_run.proofs.threads.take_each.Goals as goal

pub map_vec-requires-send-J : goal.map_vec-requires-send-J
map_vec-requires-send-J g c κs within = param_send 1 _ (arg_send _ yes (PacketPass.the_row (param 0 g.row.J) g.J.Naming) (worker_send (param 0 g.row.J) g.J.Naming c.type_bounds.send-J))

pub map_vec-requires-send-X : goal.map_vec-requires-send-X
map_vec-requires-send-X g c κs within = param_send 2 _ (arg_send _ yes (PacketPass.the_row (param 0 g.row.J) g.J.Naming) (worker_send (param 0 g.row.J) g.J.Naming c.type_bounds.send-J))

pub map_vec-requires-sync-F : goal.map_vec-requires-sync-F
map_vec-requires-sync-F g c κs within = search (four_shared, desk_shared, heap_shared, sendable) depth 20

pub returns : goal.returns
returns g c =
    let given = each_given _ _ EndsTaking c.args.passes.items c.in_ok-ended.ended.items (λ before after did. did.met) (omega (arith, c.in_ok-ended.ensures.len, c.in_ok-ended.ended.ok.0, c.args.passes.ok.0)) c.in_ok-ended.ensures.each in
    record { ended = each_becomes IsTaker HasTaken EndsTaking 16 c.args.passes.items c.in_ok-ended.ended.items (λ lane before after is did. subst (λ (l : ℕ). HasTaken l after) is did) c.requires.lanes given }
