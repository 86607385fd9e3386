use Rattle.bridge_program.proofs.SpelledBridge.{is_spelled}
use Rattle.bridge_program.proofs.laws.bridge_is_spelled.Goals as goal

pub returns : goal.returns
returns c = is_spelled
