use Rattle.pkt_codec.proofs.Inside.{condition_in}
use Rattle.pkt_codec.proofs.sums.update.Goals as goal

pub condition_holds-requires : goal.condition_holds-requires
condition_holds-requires c = record { in_store = condition_in c.args.program.now c.args.store.now c.requires.room c.args.checksum.now.if_cond c.requires.checksum.if_cond }
