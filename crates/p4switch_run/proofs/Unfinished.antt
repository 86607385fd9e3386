-- Want of memory in a check hides no fault of the source and no limit.
use Rattle.std.proofs.Common.{◌≡◌, ℕ, List, Option, None}
use Rattle.p4_types.specs.declared.code.ConfigRule.{ConfigRule}
use Rattle.tape_form.specs.TapeRead.{EndsSoundly, EndsWithin, IsTakenFrom, IsUnfinished}
use Rattle.tape_form.specs.declared.fault.Ended.{Ended}
use Rattle.tape_form.specs.declared.fault.Ended.TheVariants.{AtEnd, AtFault, AtLimit}
use Rattle.p4switch_run.specs.Check.{HasFlaw, ended_status}

-- all was taken
pub taken_unfinished : (old new : Option (List ℕ)) (taken : List ℕ) (before now : ℕ) (ended : Ended) → ended_status ended ≡ None → IsTakenFrom old new taken → EndsSoundly ended new before now → EndsWithin ended taken
    → IsUnfinished old new before now
taken_unfinished old new taken before now AtEnd e from soundly within = record { taken = taken; consumed = from.consumed; within = within; sound = soundly.1 }
taken_unfinished old new taken before now AtFault e from soundly within = absurd cc
taken_unfinished old new taken before now AtLimit e from soundly within = absurd cc

-- and judged
pub flaw_unfinished : (flaw : Option ConfigRule) (old new : Option (List ℕ)) (before now : ℕ) → HasFlaw flaw old new → now ≡ before → IsUnfinished old new before now
flaw_unfinished flaw old new before now has sound = record { taken = has.taken; consumed = has.consumed; within = has.size; sound = sound }
