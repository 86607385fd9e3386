use Rattle.std.proofs.Common.{◌≡◌}
use Rattle.std.specs.List.{filter_map}
use Rattle.tape_spec.specs.Items.{record_in}
use Rattle.tape_form.proofs.read.Tape.into_records.Given as goal

abbrev pub invariant-loop-item : goal.invariant-loop-item
invariant-loop-item l = l.records.items ≡ filter_map record_in l.yielded
