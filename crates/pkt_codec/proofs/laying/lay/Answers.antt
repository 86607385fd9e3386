use Rattle.std.proofs.Common.{◌+◌, ◌%◌, ◌^◌, ◌++◌, take, ap, ◌∙◌, arith}
use Rattle.std.proofs.Math.Facts.{Fits-of_lt}
use Rattle.std.proofs.lemmas.List.{append-nil}
use Rattle.std.specs.List.{splice}
use Rattle.canon_bytes.specs.Bits.{bits}
use Rattle.pkt_bits.specs.Field.{number_bits}
use Rattle.pkt_bits.proofs.Low.{length-low}
use Rattle.pkt_bits.proofs.Pieces.{length-bits}
use Rattle.pkt_codec.proofs.LaidBits.{spliced}
use Rattle.pkt_codec.proofs.Runs.{bits_of_cut}
use Rattle.pkt_codec.proofs.laying.lay.Goals as goal

pub overflow_add-at : goal.overflow_add-at
overflow_add-at c = Fits-of_lt (omega (arith, c.requires.end))

pub overflow_add-result : goal.overflow_add-result
overflow_add-result c = Fits-of_lt (omega (arith, c.requires.end))

pub returns-clause-laid : goal.returns-clause-laid
returns-clause-laid c =
    let end = c.args.laying.at + c.args.laying.filled in
    let width = c.args.width in
    let middle = bits c.write.new.bytes in
    append-nil (take (end + width) (bits c.put.new.bytes))
    ∙ ap (take (end + width)) (c.put.ensures.spliced ∙ ap (λ n. splice middle end (end + width) (number_bits width n)) c.cut.ensures.number)
    ∙ spliced middle (number_bits width (c.args.number % 2 ^ width)) end width (length-low width (c.args.number % 2 ^ width)) (omega (arith, length-bits c.write.new.bytes, c.write.ensures.as_long))
    ∙ ap (λ xs. xs ++ number_bits width (c.args.number % 2 ^ width)) c.write.ensures.written
    ∙ ap (λ xs. take c.args.laying.at (bits c.args.bytes.now) ++ number_bits c.args.laying.filled c.args.laying.word ++ xs) (bits_of_cut width c.args.number)
