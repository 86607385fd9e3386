-- The steps among the kinds of events.
use Rattle.std.specs.Prelude.{List, Option}
use Rattle.std.specs.List.{filter_map}
use Rattle.p4_types.specs.declared.journal.Step.{Step}

-- the steps that there are
abbrev pub steps_in : List (Option Step) → List Step
steps_in kinds = filter_map (λ kind. kind) kinds
