use Rattle.pkt_codec.proofs.EightBytes.{behind_first}
use Rattle.pkt_codec.proofs.eights.within.Goals as goal

pub returns : goal.returns
returns c = behind_first c.args.word c.args.offset c.args.width c.requires.in_range
