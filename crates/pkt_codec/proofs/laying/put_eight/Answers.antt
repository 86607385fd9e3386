use Rattle.std.proofs.Common.{◌≡◌, ◌+◌, ◌-◌, length, ap, ◌∙◌, arith}
use Rattle.std.proofs.lemmas.Slice.{take-put_mid, drop-put_mid}
use Rattle.pkt_codec.proofs.LaidBits.{eight_put}
use Rattle.pkt_codec.proofs.laying.put_eight.Goals as goal

pub returns-clause-written : goal.returns-clause-written
returns-clause-written c =
    let bytes = c.args.bytes.now in
    let ys = c.copy_from_slice.new.self in
    let place = c.args.place in
    let is = c.copy_from_slice.ensures.after ∙ c.to_be_bytes.ensures in
    let long : length ys ≡ 8 = ap length is in
    eight_put bytes _ ys place c.args.word c.requires.in_range
    (take-put_mid place (place + 8 - place) bytes ys (place + 8) (omega (arith, long)) (omega arith))
    (drop-put_mid place (place + 8 - place) bytes ys (place + 8) (omega arith) (omega arith) (omega (arith, long)))
    is
