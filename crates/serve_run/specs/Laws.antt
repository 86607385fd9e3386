-- What packets that a worker ran, one after another, make of what it knows and of its counts.
use Rattle.std.specs.Prelude.{◌≡◌, List, [], ◌∷◌, fold, length}
use Rattle.counter_bank.specs.Account.{Account}
use Rattle.serve_run.specs.Carrying.{Carried, HasCarried, verdict_of}
use Rattle.pub_snap.specs.Beginnings.{Beginning, Begins}
use Rattle.snap_worker.specs.Counting.{after_packet}
use Rattle.snap_worker.specs.Working.{Working}

-- each list begins with the one before
abbrev pub AreInOrder : Beginning → List Carried → Beginning → Type 0
AreInOrder before [] after = Begins before after
AreInOrder before (one ∷ rest) after = Begins before one.told × AreInOrder one.told rest after

-- Each packet was run after all that the worker had seen or learnt before, and after all that the packet before it was; the worker
-- knows of all that in the end.
abbrev pub NoneGoesBack : Type 0
NoneGoesBack = (before after : Working) (packets : List Carried) → HasCarried before packets after → AreInOrder before.told packets after.told

-- a seat after a packet
abbrev pub counted : Account → Carried → Account
counted seat one = after_packet (length one.bytes) (verdict_of one).hits seat

-- The seat has added just the hits of the packets.
abbrev pub CountsAll : Type 0
CountsAll = (before after : Working) (packets : List Carried) → HasCarried before packets after → after.seat ≡ fold counted before.seat packets
