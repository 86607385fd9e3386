use Rattle.std.proofs.Common.{length}
use Rattle.json_tree.specs.View.{items_in}
use Rattle.bm_records.proofs.Nexts.{FindsPlaces}
use Rattle.bm_records.proofs.pipelines.places.Given as goal

abbrev pub invariant-members : goal.invariant-members
invariant-members l = FindsPlaces l.members l.rest l.found.items

abbrev pub decreases-members : goal.decreases-members
decreases-members l = length (items_in l.rest)
