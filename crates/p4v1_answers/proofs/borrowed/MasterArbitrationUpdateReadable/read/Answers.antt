use Rattle.std.proofs.Common.{rules, ◌<◌, ◌^◌, length, ◌∙◌}
use Rattle.p4v1_answers.proofs.Alone.{arbitration_read}
use Rattle.p4v1_answers.proofs.borrowed.MasterArbitrationUpdateReadable.read.Goals as goal

pub returns-in-Some : goal.returns-in-Some
returns-in-Some c =
    let short : length c.args.bytes.now < 2 ^ 64 = search rules in
    arbitration_read c.args.bytes.now short ∙ search rules

pub returns : goal.returns
returns c =
    let short : length c.args.bytes.now < 2 ^ 64 = search rules in
    arbitration_read c.args.bytes.now short ∙ search rules
