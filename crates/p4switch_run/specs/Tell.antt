-- What a sink was sent of a text.
use Rattle.std.specs.Prelude.{◌≡◌, ℕ, List, Option}
use Rattle.sw_edge.specs.Answers.{Sends}
use Rattle.sw_edge.specs.Counts.{HasCause, StaysUnless}
use Rattle.sw_edge.specs.declared.answers.Sent.{Sent}
use Rattle.sw_edge.specs.declared.answers.Sent.TheVariants.{Failed}

-- all of the text was sent, or the sink failed and some first bytes of it were
pub record IsSaid (old new : Option (List ℕ)) (before now : ℕ) (answer : Sent) (text : List ℕ) : Type 0 where
  pub sends : Sends old new answer text
  pub failed : HasCause before now (answer ≡ Failed)
  pub no_fault : StaysUnless before now (answer ≡ Failed)
