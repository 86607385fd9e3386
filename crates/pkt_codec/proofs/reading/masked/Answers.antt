use Rattle.pkt_codec.proofs.Keys.{masked_low}
use Rattle.pkt_codec.proofs.reading.masked.Goals as goal

pub returns : goal.returns
returns c = λ whole is. masked_low whole c.args.key c.args.mask is c.ranges.mask.fits
