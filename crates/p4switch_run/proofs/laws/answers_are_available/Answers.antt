use Rattle.switch_spec.proofs.Answers.{answer_to_sound}
use Rattle.p4switch_run.proofs.laws.answers_are_available.Goals as goal

pub returns : goal.returns
returns c = λ control figures lane number call. (answer_to_sound call control figures lane number).available
