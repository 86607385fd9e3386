-- What the seats of all lanes have together, and what the lanes' packets hit.
use Rattle.std.proofs.Common.{◌≡◌, ℕ, zero, suc, ◌+◌, ◌-◌, ◌%◌, ◌^◌, ◌<◌, ◌≤◌, List, [], ◌∷◌, ◌++◌, length, map, fold, refl, ap, sym, subst, ◌∙◌, arith}
use Rattle.std.specs.Prelude.{sum_by}
use Rattle.std.specs.List.{AllByRecursion, flat_map}
use Rattle.std.proofs.lemmas.List.{map-append}
use Rattle.std.proofs.lemmas.List.Sums.{sum_by-append, sum_by-cons}
use Rattle.std.proofs.lemmas.Grind.{flat_map-append}
use Rattle.counter_bank.specs.Account.{Account, BankId, AreTotals, first_seat}
use Rattle.counter_bank.specs.Account as accounts
use Rattle.counter_bank.specs.Figures.{packets_of, bytes_of}
use Rattle.counter_bank.specs.Figures as words
use Rattle.lane_work.proofs.Totals.{pairs, seats_are_joined}
use Rattle.lane_work.specs.Shares.{Share, joined, outcomes}
use Rattle.lane_work.specs.Work.{Work}
use Rattle.p4_types.specs.declared.records.Record.{Record}
use Rattle.replay_run.specs.Ends.{IsSeated}
use Rattle.replay_run.specs.Opening.{without_parts}
use Rattle.run_lanes.specs.Gathered.{OfEach, shares_of}
use Rattle.snap_worker.specs.Laws.{added_by}
use Rattle.switch_spec.specs.Counts.{Carried}

-- the records of lanes, lane by lane
pub records_by : (P : ℕ → Work → Type 0) (share : ℕ → Work → Share) (n : ℕ) (works : List Work) → ((lane : ℕ) (work : Work) → P lane work → outcomes (share lane work).carried ≡ work.records)
    → OfEach P n works → outcomes (joined (shares_of share n works)) ≡ flat_map (λ (work : Work). work.records) works
records_by P share zero [] each h = refl
records_by P share zero (work ∷ works) each h = absurd h
records_by P share (suc n) [] each h = absurd h
records_by P share (suc n) (work ∷ works) each h =
    map-append (λ (c : Carried). c.outcome) (share n work).carried (joined (shares_of share n works))
    ∙ ap (λ (rs : List Record). rs ++ outcomes (joined (shares_of share n works))) (each n work h.0)
    ∙ ap (λ (rs : List Record). work.records ++ rs) (records_by P share n works each h.1)

-- a figure of all seats, lane by lane
pub sums_by : (P : ℕ → Work → Type 0) (share : ℕ → Work → Share) (figure : Account → ℕ) (n : ℕ) (works : List Work) → ((lane : ℕ) (work : Work) → (share lane work).seat ≡ work.seat)
    → OfEach P n works → sum_by (λ (s : Share). figure s.seat) (shares_of share n works) ≡ sum_by figure (map (λ (work : Work). work.seat) works)
sums_by P share figure zero [] same h = refl
sums_by P share figure zero (work ∷ works) same h = absurd h
sums_by P share figure (suc n) [] same h = absurd h
sums_by P share figure (suc n) (work ∷ works) same h =
    let rest = sums_by P share figure n works same h.1 in
    let seats : List Account = map (λ (w : Work). w.seat) works in
    omega (
      arith,
      rest,
      ap figure (same n work),
      sum_by-cons (λ (s : Share). figure s.seat) (share n work) (shares_of share n works),
      sum_by-cons figure work.seat seats,
    )

-- one part each
one_each : (bank : BankId) (works : List Work) → AllByRecursion (IsSeated bank) works → sum_by (λ (seat : Account). seat.parts) (map (λ (work : Work). work.seat) works) ≡ length works
one_each bank [] h = refl
one_each bank (work ∷ works) h =
    let rest = one_each bank works h.1 in
    let seats : List Account = map (λ (w : Work). w.seat) works in
    omega (arith, rest, h.0.one_part, sum_by-cons (λ (seat : Account). seat.parts) work.seat seats)

-- the seat that all others were joined to has all parts
pub all_parts_again : (bank : BankId) (n : ℕ) (works : List Work) → n ≤ 2 ^ 32 → AllByRecursion (IsSeated bank) works → length works ≡ n
    → (fold accounts.joined (without_parts n (first_seat bank)) (map (λ (work : Work). work.seat) works)).parts ≡ 2 ^ 32
all_parts_again bank n works few seated many =
    let rest : Account = without_parts n (first_seat bank) in
    let all = (seats_are_joined (map (λ (work : Work). work.seat) works) rest).1 in
    omega (arith, few, many, all, one_each bank works seated)

-- it is of the bank
pub of_the_bank : (rest : Account) (seats : List Account) → (fold accounts.joined rest seats).bank ≡ rest.bank
of_the_bank rest seats = (seats_are_joined seats rest).2

-- and has added what all others have
pub added_by_all : (rest : Account) (seats : List Account) (slot : ℕ) → rest.added ≡ []
    → added_by (fold accounts.joined rest seats) slot ≡ (sum_by (λ (seat : Account). packets_of seat.added slot) seats, sum_by (λ (seat : Account). bytes_of seat.added slot) seats)
added_by_all rest seats slot none =
    let all = (seats_are_joined seats rest).0 slot in
    let packets : packets_of rest.added slot ≡ 0 = ap (λ (xs : List ℕ). packets_of xs slot) none in
    let bytes : bytes_of rest.added slot ≡ 0 = ap (λ (xs : List ℕ). bytes_of xs slot) none in
    pairs _ _ (omega (arith, ap (λ (x : ℕ × ℕ). x.0) all, packets)) (omega (arith, ap (λ (x : ℕ × ℕ). x.1) all, bytes))
