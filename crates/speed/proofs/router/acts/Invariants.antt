use Rattle.pkt_codec.specs.Room.{HasRoom}
use Rattle.speed.proofs.router.acts.Given as goal

abbrev pub invariant-loop : goal.invariant-loop
invariant-loop l = HasRoom l.pipeline l.room.store
