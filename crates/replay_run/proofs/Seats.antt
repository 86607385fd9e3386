-- What the seats of lanes noted, beside the seat that they were joined to.
use Rattle.std.proofs.Common.{◌≡◌, List, [], ◌∷◌, fold, sym, subst}
use Rattle.std.specs.List.{AllByRecursion}
use Rattle.counter_bank.proofs.Slots.{none_falls}
use Rattle.counter_bank.specs.Account.{Account}
use Rattle.counter_bank.specs.Account as accounts
use Rattle.snap_worker.specs.Sums.{noted_by}
use Rattle.lane_work.proofs.Lists.{each_of_map}
use Rattle.lane_work.specs.Work.{Work}
use Rattle.run_counts.proofs.Rising.{AreNoMore, no_more_self, no_more_trans}
use Rattle.replay_run.specs.Laws.{seats_of}

-- a seat that took another in noted no less than each of them
first_grows : (first other : Account) → AreNoMore (noted_by first) (noted_by (accounts.joined first other))
first_grows first other slot = (none_falls first.noted other.noted slot 0 0 slot).3

other_grows : (first other : Account) → AreNoMore (noted_by other) (noted_by (accounts.joined first other))
other_grows first other slot = (none_falls first.noted other.noted slot 0 0 slot).4

all_grow : (seats : List Account) (first : Account) → AreNoMore (noted_by first) (noted_by (fold accounts.joined first seats))
all_grow [] first = no_more_self (noted_by first)
all_grow (seat ∷ seats) first =
    let next : Account = accounts.joined first seat in
    no_more_trans (noted_by first) (noted_by next) (noted_by (fold accounts.joined first (seat ∷ seats))) (first_grows first seat) (all_grow seats next)

each_grows : (seats : List Account) (first : Account) → AllByRecursion (λ seat. AreNoMore (noted_by seat) (noted_by (fold accounts.joined first seats))) seats
each_grows [] first = tt
each_grows (seat ∷ seats) first =
    let next : Account = accounts.joined first seat in
    (no_more_trans (noted_by seat) (noted_by next) (noted_by (fold accounts.joined first (seat ∷ seats))) (other_grows first seat) (all_grow seats next), each_grows seats next)

-- no lane noted more than the seat that all were joined to
pub lanes_noted : (first seat : Account) (works : List Work) → seat ≡ fold accounts.joined first (seats_of works) → AllByRecursion (λ work. AreNoMore (noted_by work.seat) (noted_by seat)) works
lanes_noted first seat works is =
    each_of_map (λ (s : Account). AreNoMore (noted_by s) (noted_by seat)) (λ (work : Work). work.seat) works
    (subst (λ (all : Account). AllByRecursion (λ (s : Account). AreNoMore (noted_by s) (noted_by all)) (seats_of works)) (sym is) (each_grows (seats_of works) first))
