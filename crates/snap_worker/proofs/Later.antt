-- A list that goes on has no fewer steps.
use Rattle.std.proofs.Common.{◌≤◌, ap, arith}
use Rattle.std.proofs.lemmas.List.Sums.{sum_by-append}
use Rattle.plane_image.specs.Image.{steps_of}
use Rattle.pub_snap.specs.Beginnings.{Beginning, Begins}
use Rattle.pub_snap.specs.Snapshots.{steps_in}
use Rattle.std.specs.Prelude.{sum_by}

pub no_fewer : (a b : Beginning) → Begins a b → steps_in a.events ≤ steps_in b.events
no_fewer a b begins =
    let more = begins.events.0 in
    let all = sum_by-append steps_of a.events more in
    let same = ap (sum_by steps_of) begins.events.1 in
    omega (arith, all, same)
