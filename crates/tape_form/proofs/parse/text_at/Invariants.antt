use Rattle.std.proofs.Common.{◌≡◌, drop}
use Rattle.run_spec.specs.TapeReading.{text_at}
use Rattle.tape_form.proofs.parse.text_at.Given as goal

abbrev pub invariant-loop-wanted : goal.invariant-loop-wanted
invariant-loop-wanted l = text_at (drop l.wanted-index l.text) l.rest ≡ text_at l.text l.bytes
