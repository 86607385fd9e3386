use Rattle.std.proofs.Common.{rules, ◌<◌, ◌^◌, length}
use Rattle.p4v1_answers.proofs.Alone.{entity_last, entity_empty}
use Rattle.p4v1_answers.proofs.borrowed.OptionEntityReadable.read.Goals as goal

pub returns-in-Some-last : goal.returns-in-Some-last
returns-in-Some-last c =
    let short : length c.args.bytes.now < 2 ^ 64 = search rules in
    entity_last c.args.bytes.now c.in-Some.entities c.last.result _ short (search rules) c.in-Some-last.is c.last.ensures.some

pub returns : goal.returns
returns c =
    let short : length c.args.bytes.now < 2 ^ 64 = search rules in
    entity_empty c.args.bytes.now c.in-Some.entities short (search rules) (search rules)
