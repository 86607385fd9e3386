use Rattle.std.proofs.Common.{◌≡◌, length}
use Rattle.snap_worker.specs.Sums.{AreSums, NotesOwn, SeatLooks, noted_by}
use Rattle.snap_worker.proofs.loading.load.Given as goal

abbrev pub invariant-loop-slot : goal.invariant-loop-slot
invariant-loop-slot l = (length l.figures ≡ l.slot) × AreSums l.figures (noted_by l.seat) × NotesOwn l.slot l.seat × SeatLooks l.initial.seat l.seat
