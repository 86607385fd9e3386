use Rattle.std.proofs.Common.{rules, ◌<◌, ◌^◌, length, ◌∙◌}
use Rattle.std.proofs.lemmas.Result.{err_from_is_err_and}
use Rattle.wire_messages.proofs.Scanning.{refuses}
use Rattle.p4v1_read.specs.Entities.{table_entry_of, entity_of}
use Rattle.p4v1_read.specs.Nested.{read}
use Rattle.p4v1_answers.proofs.Alone.{entry_read, entry_refused}
use Rattle.p4v1_answers.proofs.borrowed.TableEntryReadable.read.Goals as goal

pub returns-in_err-entity : goal.returns-in_err-entity
returns-in_err-entity c =
    let short : length c.args.bytes.now < 2 ^ 64 = search rules in
    let p = err_from_is_err_and c.from_residual-in_err-entity.result c.from_residual-in_err-entity.ensures.1 in
    rw (p.1, p.2) (refuses c.in_err-entity.field-0.0 (read table_entry_of c.args.bytes.now) (read entity_of c.as_slice.result.now) (search rules) (entry_refused c.args.bytes.now c.as_slice.result.now short (search rules)))

pub returns-in-Some : goal.returns-in-Some
returns-in-Some c =
    let short : length c.args.bytes.now < 2 ^ 64 = search rules in
    entry_read c.args.bytes.now c.as_slice.result.now c.in_ok-entity.entity short (search rules) (search rules) ∙ search rules

pub returns : goal.returns
returns c =
    let short : length c.args.bytes.now < 2 ^ 64 = search rules in
    entry_read c.args.bytes.now c.as_slice.result.now c.in_ok-entity.entity short (search rules) (search rules) ∙ search rules
