use Rattle.tape_form.proofs.Complete.{complete}
use Rattle.tape_form.proofs.Judging.{whole_tape, whole_sound, if_bad, if_too_long, if_no_memory, if_fault}
use Rattle.tape_form.proofs.read.Tape.read.Goals as goal

pub returns-clause-tape : goal.returns-clause-tape
returns-clause-tape g c = whole_tape _ _ _ _ c.read_from.result c.read_from.ensures.exact

pub returns-clause-sound : goal.returns-clause-sound
returns-clause-sound g c = whole_sound _ _ _ _ c.read_from.result c.read_from.ensures.exact

pub returns-clause-bad : goal.returns-clause-bad
returns-clause-bad g c = if_bad _ _ _ _ c.read_from.result c.read_from.ensures.exact

pub returns-clause-too_long : goal.returns-clause-too_long
returns-clause-too_long g c = if_too_long _ _ _ _ c.read_from.result c.read_from.ensures.exact

pub returns-clause-no_memory : goal.returns-clause-no_memory
returns-clause-no_memory g c = if_no_memory _ _ _ _ c.read_from.result c.read_from.ensures.exact

pub returns-clause-fault : goal.returns-clause-fault
returns-clause-fault g c = record { later = c.read_from.ensures.later; cause = if_fault _ _ _ _ c.read_from.result c.read_from.ensures.exact }

pub returns-clause-complete : goal.returns-clause-complete
returns-clause-complete g c = complete _ _ _ _ c.read_from.result c.read_from.ensures.exact
