-- How the work of lanes goes on, and what all lanes together have done.
use Rattle.std.specs.Prelude.{◌≡◌, ℕ, ◌+◌, ◌≤◌, false, List, [], ◌∷◌, ◌++◌, fold, map, slice_get, sum_by, Some}
use Rattle.std.specs.List.{AllByRecursion, AllZip, zip}
use Rattle.counter_bank.specs.Account.{Account}
use Rattle.counter_bank.specs.Account as accounts
use Rattle.counter_bank.specs.Figures.{packets_of, bytes_of}
use Rattle.lane_work.specs.Running.{share_of, IsWork, Keeps}
use Rattle.lane_work.specs.Shares.{Share, IsShare, joined, names_of, Differ, outcomes}
use Rattle.lane_work.specs.Work.{Work, Ran, new_work, steps_told}
use Rattle.p4_types.specs.declared.events.Start.{Start}
use Rattle.p4_types.specs.declared.records.Record.{Record}
use Rattle.p4_types.specs.declared.tape.Who.{Who}
use Rattle.plane_spec.specs.Config.{Event}
use Rattle.pub_snap.specs.Beginnings.{Beginning, Begins}
use Rattle.snap_worker.specs.Laws.{added_by}
use Rattle.switch_spec.specs.Carrying.{is_who, carried_on, Fits, InTurn}
use Rattle.switch_spec.specs.History.{Made}
use Rattle.switch_spec.specs.Counts.{Arrival, Carried, no_figures, counted}

-- ---- One lane

-- a lane that was given no packet, by a seat that has added nothing
abbrev pub WorkBegins : Type 0
WorkBegins = (who : Who) (told : Beginning) (refusals : ℕ) (seat : Account) → seat.added ≡ [] → IsWork [] [] (new_work who told refusals seat)

-- a packet more, after at least as many steps as were told before it
abbrev pub WorkRuns : Type 0
WorkRuns = (arrivals : List Arrival) (least : List ℕ) (n port : ℕ) (packet : List ℕ) (before after : Work)
    → IsWork arrivals least before → Ran port packet before after → n ≤ steps_told before.told → IsWork (arrivals ++ (port, packet) ∷ []) (least ++ n ∷ []) after

-- what it learns, reads, or is refused
abbrev pub WorkStays : Type 0
WorkStays = (arrivals : List Arrival) (least : List ℕ) (before after : Work) → IsWork arrivals least before → Keeps before after → IsWork arrivals least after

-- what it carried fits all that it may be told of
abbrev pub WorkIsShare : Type 0
WorkIsShare = (arrivals : List Arrival) (least : List ℕ) (work : Work) (last : Beginning) → IsWork arrivals least work → Begins work.told last → IsShare last.start last.events (share_of arrivals work)

-- a packet that fits a list fits each that goes on
abbrev pub FitsGoOn : Type 0
FitsGoOn = (start : Start) (list more : List Event) (packet : Carried) → Fits start list packet → Fits start (list ++ more) packet

-- what a lane carried fits each longer list
abbrev pub SharesGoOn : Type 0
SharesGoOn = (start : Start) (list more : List Event) (share : Share) → IsShare start list share → IsShare start (list ++ more) share

-- packets that calls made enter, each to be run after at least its call's steps, are after them
abbrev pub LeastIsCovered : Type 0
LeastIsCovered = (calls : List Made) (packets : List Carried) → AllZip (λ (n : ℕ) (r : Record). n ≤ r.steps) (map (λ (made : Made). made.entry.reply.steps) calls) (outcomes packets)
    → AllByRecursion (λ (pair : Carried × Made). pair.1.entry.reply.steps ≤ pair.0.outcome.steps) (zip packets calls)

-- ---- All lanes

-- of the packets of lanes whose names differ, each lane's are its own
abbrev pub EachHasItsOwn : Type 0
EachHasItsOwn = (start : Start) (list : List Event) (shares : List Share) (place : ℕ) (share : Share)
    → AllByRecursion (IsShare start list) shares → Differ (names_of shares) → slice_get shares place ≡ Some share → carried_on share.who (joined shares) ≡ share.carried

-- no other lane has any
abbrev pub OthersHaveNone : Type 0
OthersHaveNone = (start : Start) (list : List Event) (shares : List Share) (who : Who)
    → AllByRecursion (IsShare start list) shares → AllByRecursion (λ (other : Who). is_who who other ≡ false) (names_of shares) → carried_on who (joined shares) ≡ []

-- they are numbered on each lane, and none is after fewer steps than one before it there
abbrev pub JoinedInTurn : Type 0
JoinedInTurn = (start : Start) (list : List Event) (shares : List Share)
    → AllByRecursion (IsShare start list) shares → Differ (names_of shares) → InTurn [] (outcomes (joined shares))

-- all fit the list
abbrev pub JoinedFit : Type 0
JoinedFit = (start : Start) (list : List Event) (shares : List Share) → AllByRecursion (IsShare start list) shares → AllByRecursion (Fits start list) (joined shares)

-- at each slot the packets hit what the seats added together; no lane has added nothing
abbrev pub JoinedAreCounted : Type 0
JoinedAreCounted = (start : Start) (list : List Event) (shares : List Share) → AllByRecursion (IsShare start list) shares → (slot : ℕ)
    → fold counted no_figures (joined shares) slot
    ≡ (sum_by (λ (share : Share). packets_of share.seat.added slot) shares, sum_by (λ (share : Share). bytes_of share.seat.added slot) shares)

-- a seat that took others in has their parts, and has added what all of them added
abbrev pub SeatsAreJoined : Type 0
SeatsAreJoined = (seats : List Account) (first : Account) →
    ((slot : ℕ) → added_by (fold accounts.joined first seats) slot
    ≡ (packets_of first.added slot + sum_by (λ (seat : Account). packets_of seat.added slot) seats, bytes_of first.added slot + sum_by (λ (seat : Account). bytes_of seat.added slot) seats))
    × ((fold accounts.joined first seats).parts ≡ first.parts + sum_by (λ (seat : Account). seat.parts) seats)
    × ((fold accounts.joined first seats).bank ≡ first.bank)
