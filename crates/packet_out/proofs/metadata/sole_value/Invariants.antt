use Rattle.std.proofs.Common.{◌≡◌, drop, option_copied}
use Rattle.std.specs.List.{cons_option}
use Rattle.packet_out.specs.Entering.{given_for}
use Rattle.packet_out.proofs.metadata.sole_value.Given as goal

abbrev pub invariant-loop-given : goal.invariant-loop-given
invariant-loop-given l = cons_option (option_copied l.found) (given_for l.id (drop l.given-index l.metadata)) ≡ given_for l.id l.metadata
