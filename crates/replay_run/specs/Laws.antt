-- That the Reads of a run on threads are bounded (this project's profile).
use Rattle.std.specs.Prelude.{◌≡◌, ℕ, ◌≤◌, List, fold, length, map}
use Rattle.counter_bank.specs.Account.{Account, NoneAbove}
use Rattle.counter_bank.specs.Account as accounts
use Rattle.ctl_lock.specs.Calls.{journal_of}
use Rattle.ctl_lock.specs.Locked.{SeeAll}
use Rattle.ctl_lock.specs.declared.signed.Signed.{Signed}
use Rattle.lane_work.specs.Shares.{joined}
use Rattle.lane_work.specs.Work.{Work}
use Rattle.p4_types.specs.declared.events.Start.{Start}
use Rattle.p4_types.specs.declared.tape.TapeRecord.{TapeRecord}
use Rattle.plane_spec.specs.Planes.{opened}
use Rattle.pub_snap.specs.Beginnings.{Beginning}
use Rattle.run_counts.specs.Reading.{FiguresAreBounded}
use Rattle.run_lanes.specs.Gathered.{AreGathered, HasRead, OfEach, all_shares}
use Rattle.snap_worker.specs.Laws.{added_by}
use Rattle.switch_spec.specs.CountLaws.{figures_of}

-- the seats of what lanes have done
abbrev pub seats_of : List Work → List Account
seats_of works = map (λ (work : Work). work.seat) works

-- Where all lanes are at their ends, each call that reads saw all slots that were drawn, and the seat to which all others were
-- joined has added what all packets hit and noted no more, the figures of all Reads are bounded.
abbrev pub ReadsAreBounded : Type 0
ReadsAreBounded = (start : Start) (tape : List TapeRecord) (signed : List Signed) (last : Beginning) (callers workers : List Work) (rest seat : Account)
    → AreGathered start tape (journal_of signed) last callers workers → OfEach (HasRead start signed) 32 callers → SeeAll (opened start) signed → length tape ≤ 1000000
    → seat ≡ fold accounts.joined (fold accounts.joined rest (seats_of workers)) (seats_of callers) → NoneAbove seat.noted seat.added
    → ((slot : ℕ) → added_by seat slot ≡ figures_of (joined (all_shares start tape (journal_of signed) callers workers)) slot)
    → FiguresAreBounded start (journal_of signed) (joined (all_shares start tape (journal_of signed) callers workers))
