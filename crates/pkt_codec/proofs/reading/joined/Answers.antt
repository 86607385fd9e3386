use Rattle.std.proofs.Common.{◌∙◌, arith}
use Rattle.pkt_codec.proofs.Keys.{joined_more}
use Rattle.pkt_codec.proofs.reading.joined.Goals as goal

pub loop-field-preserved : goal.loop-field-preserved
loop-field-preserved c =
    c.behind-key.ensures
    ∙ joined_more c.args.store.now c.args.fields.now c.loop-field.field-index _ c.loop-field.key c.width.result c.read.result (omega arith) c.loop-field.invariant c.width.ensures c.read.ensures
