use Rattle.pkt_codec.proofs.Inside.{set_number}
use Rattle.pkt_codec.proofs.parsing.run_op.Goals as goal

pub value-assigned-requires : goal.value-assigned-requires
value-assigned-requires c = record { in_store = set_number c.args.program.now c.args.store.now c.args.op.now c.in-Set.target c.in-Set.number c.requires.room c.requires.op c.in-Set.is }
