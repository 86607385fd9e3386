use Rattle.std.proofs.Common.{rules}
use Rattle.p4v1_wire.specs.StreamRows.{stream_error_rows, StreamErrorInRange}
use Rattle.p4v1_wire.proofs.Choices.{details_choice_in_range}
use Rattle.p4v1_wire.proofs.stream.StreamErrorWritable.write.Goals as goal

pub returns-clause-in_range : goal.returns-clause-in_range
unfolding stream_error_rows StreamErrorInRange
returns-clause-in_range c =
    let message = rw c.as_str.ensures at c.in_ok-text.ensures.fits in
    let space = rw c.as_str-2.ensures at c.in_ok-text-2.ensures.fits in
    ((search rules, (message, (space, (search rules, details_choice_in_range c.args.self.now.details)))), c.in_ok-details_choice.ensures.in_range)
