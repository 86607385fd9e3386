-- What reading a configuration answers.
use Rattle.std.specs.Prelude.{◌≡◌, ℕ, Result, Ok, Err}
use Rattle.list_types.specs.declared.memory.Refusal.{Refusal}
use Rattle.list_types.specs.declared.memory.Refusal.TheVariants as refusals
use Rattle.p4_types.specs.declared.code.ConfigRule.{ConfigRule}
use Rattle.p4_types.specs.declared.code.ConfigRule.TheVariants as broken

-- the answer is what the configuration means, or the first rule that it breaks, unless there was no memory
abbrev pub Means : {A : Type 0} → Result A (Refusal ConfigRule) → Result A ConfigRule → Type 0
Means (Ok x) meant = meant ≡ Ok x
Means (Err refusals.NoMemory) meant = Unit {0}
Means (Err (refusals.For rule)) meant = meant ≡ Err rule

-- the same of a program, whose rule is one of its configuration
abbrev pub MeansProgram : {A : Type 0} → Result A (Refusal ConfigRule) → Result A ℕ → Type 0
MeansProgram (Ok x) meant = meant ≡ Ok x
MeansProgram (Err refusals.NoMemory) meant = Unit {0}
MeansProgram (Err (refusals.For (broken.Program rule))) meant = meant ≡ Err rule
MeansProgram (Err (refusals.For (broken.Info rule))) meant = ⊥
