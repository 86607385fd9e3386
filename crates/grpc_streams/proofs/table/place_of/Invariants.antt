use Rattle.grpc_streams.proofs.Places.{NoneBefore}
use Rattle.grpc_streams.proofs.table.place_of.Given as goal

abbrev pub invariant-loop-place : goal.invariant-loop-place
invariant-loop-place l = NoneBefore l.number l.streams l.place
