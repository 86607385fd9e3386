use Rattle.std.proofs.Common.{arith, rules, tests, ◌≡◌, length}
use Rattle.grpc_streams.proofs.Places.{is_place, is_absent}
use Rattle.grpc_streams.proofs.table.place_of.Goals as goal

pub returns-then-streams-place : goal.returns-then-streams-place
returns-then-streams-place c = is_place _ _ _ c.index-streams-place.result (omega arith) (search (rules, tests)) c.loop-place.invariant

pub returns : goal.returns
returns c =
    let all : c.loop-place.place ≡ length c.args.streams.now = omega arith in
    is_absent _ _ (rw all at c.loop-place.invariant)
