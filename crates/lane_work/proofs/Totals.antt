-- What seats have added together.
use Rattle.std.proofs.Common.{◌≡◌, ℕ, ◌+◌, List, [], ◌∷◌, fold, refl, ap, ◌∙◌, arith}
use Rattle.std.proofs.lemmas.List.Sums.{fold-append, sum_by-cons}
use Rattle.counter_bank.proofs.Slots.{sums_each}
use Rattle.counter_bank.specs.Account.{Account}
use Rattle.counter_bank.specs.Account as accounts
use Rattle.counter_bank.specs.Figures.{packets_of, bytes_of}
use Rattle.lane_work.proofs.Lists.{each_append}
use Rattle.lane_work.specs.Laws.{JoinedAreCounted, SeatsAreJoined, JoinedFit}
use Rattle.lane_work.specs.Shares.{Share, joined}
use Rattle.switch_spec.specs.Carrying.{Fits}
use Rattle.switch_spec.specs.Counts.{Figures, Carried, no_figures, counted}

pub joined_fit : JoinedFit
joined_fit start list [] shared = tt
joined_fit start list (share ∷ shares) shared = each_append (Fits start list) share.carried (joined shares) shared.0.fits (joined_fit start list shares shared.1)

-- figures from others on are theirs and those from nothing
packets_more : (slot : ℕ) (packets : List Carried) (g : Figures) → (fold counted g packets slot).0 ≡ (g slot).0 + (fold counted no_figures packets slot).0
packets_more slot [] g = omega arith
packets_more slot (first ∷ packets) g = omega (arith, packets_more slot packets (counted g first), packets_more slot packets (counted no_figures first))

bytes_more : (slot : ℕ) (packets : List Carried) (g : Figures) → (fold counted g packets slot).1 ≡ (g slot).1 + (fold counted no_figures packets slot).1
bytes_more slot [] g = omega arith
bytes_more slot (first ∷ packets) g = omega (arith, bytes_more slot packets (counted g first), bytes_more slot packets (counted no_figures first))

pub pairs : (x y : ℕ × ℕ) → x.0 ≡ y.0 → x.1 ≡ y.1 → x ≡ y
pairs x y first second = ap (λ n. (n, x.1)) first ∙ ap (λ n. (y.0, n)) second

pub joined_are_counted : JoinedAreCounted
joined_are_counted start list [] shared slot = pairs _ _ (omega arith) (omega arith)
joined_are_counted start list (share ∷ shares) shared slot =
    let g : Figures = fold counted no_figures share.carried in
    let all = ap (λ (f : Figures). f slot) (fold-append counted no_figures share.carried (joined shares)) in
    let rest = joined_are_counted start list shares shared.1 slot in
    let own = shared.0.added slot in
    pairs _ _ (omega (
      arith,
      ap (λ (x : ℕ × ℕ). x.0) all,
      packets_more slot (joined shares) g,
      ap (λ (x : ℕ × ℕ). x.0) rest,
      ap (λ (x : ℕ × ℕ). x.0) own,
      sum_by-cons (λ (s : Share). packets_of s.seat.added slot) share shares,
    )) (omega (
      arith,
      ap (λ (x : ℕ × ℕ). x.1) all,
      bytes_more slot (joined shares) g,
      ap (λ (x : ℕ × ℕ). x.1) rest,
      ap (λ (x : ℕ × ℕ). x.1) own,
      sum_by-cons (λ (s : Share). bytes_of s.seat.added slot) share shares,
    ))

pub seats_are_joined : SeatsAreJoined
seats_are_joined [] first = (λ slot. pairs _ _ (omega arith) (omega arith), omega arith, refl)
seats_are_joined (seat ∷ seats) first =
    let next : Account = accounts.joined first seat in
    let rest = seats_are_joined seats next in (
      λ slot. (let both = sums_each first.added seat.added slot in let more = rest.0 slot in
          pairs _ _ (omega (arith, ap (λ (x : ℕ × ℕ). x.0) more, both.0, sum_by-cons (λ (s : Account). packets_of s.added slot) seat seats))
          (omega (arith, ap (λ (x : ℕ × ℕ). x.1) more, both.1, sum_by-cons (λ (s : Account). bytes_of s.added slot) seat seats))),
      omega (arith, rest.1, sum_by-cons (λ (s : Account). s.parts) seat seats),
      rest.2,
    )
