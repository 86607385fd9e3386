-- Ids that differ, and are among so many, are at most so many.
use Rattle.std.proofs.Common.{◌≡◌, ◌≢◌, ℕ, ◌<◌, ◌≤◌, ◌⊎◌, cond, eqb, not, List, [], ◌∷◌, length, sym, ap, ◌∙◌, arith, inl, inr, eq-eqb, ne_eqb}
use Rattle.std.specs.List.{AllByRecursion as Each, filter}
use mathlib.Core.Logic.{dite}
use native.Mathlib.Decide.{ℕ_discrete}
use Rattle.digest_lists.specs.State.{DigestState}
use Rattle.digest_lists.specs.Laws.{IsAmong, AtMostAsMany}

-- the numbers without one of them
abbrev without : ℕ → List ℕ → List ℕ
without id ids = filter (λ other. not (eqb other id)) ids

without_here : (id other : ℕ) (ids : List ℕ) → other ≡ id → without id (other ∷ ids) ≡ without id ids
without_here id other ids e = ap (λ b. cond (not b) (other ∷ without id ids) (without id ids)) (eq-eqb other id e)

without_else : (id other : ℕ) (ids : List ℕ) → other ≢ id → without id (other ∷ ids) ≡ other ∷ without id ids
without_else id other ids ne = ap (λ b. cond (not b) (other ∷ without id ids) (without id ids)) (ne_eqb other id ne)

not_more : (id : ℕ) (ids : List ℕ) → length (without id ids) ≤ length ids
not_more id [] = omega arith
not_more id (other ∷ ids) = dite (ℕ_discrete other id) (λ e. omega (arith, ap length (without_here id other ids e), not_more id ids)) (λ ne. omega (arith, ap length (without_else id other ids ne), not_more id ids))

fewer : (id : ℕ) (ids : List ℕ) → IsAmong id ids → length (without id ids) < length ids
fewer id [] among = absurd among
fewer id (other ∷ ids) (inl same) = omega (arith, ap length (without_here id other ids (sym same)), not_more id ids)
fewer id (other ∷ ids) (inr among) = dite (ℕ_discrete other id) (λ e. omega (arith, ap length (without_here id other ids e), not_more id ids)) (λ ne. omega (arith, ap length (without_else id other ids ne), fewer id ids among))

still_head : (x id other : ℕ) (ids : List ℕ) → x ≢ id → (x ≡ other) ⊎ IsAmong x (without id ids) → IsAmong x (without id (other ∷ ids))
still_head x id other ids apart (inl same) = let ne : other ≢ id = λ e. apart (same ∙ e) in rw (without_else id other ids ne) (inl same)
still_head x id other ids apart (inr among) = dite (ℕ_discrete other id) (λ e. rw (without_here id other ids e) among) (λ ne. rw (without_else id other ids ne) (inr among))

still : (x id : ℕ) (ids : List ℕ) → x ≢ id → IsAmong x ids → IsAmong x (without id ids)
still x id [] apart among = among
still x id (other ∷ ids) apart (inl same) = still_head x id other ids apart (inl same)
still x id (other ∷ ids) apart (inr among) = still_head x id other ids apart (inr (still x id ids apart among))

still_each : (id : ℕ) (ids : List ℕ) (digests : List DigestState) → Each (λ other. id < other.id) digests → Each (λ digest. IsAmong digest.id ids) digests → Each (λ digest. IsAmong digest.id (without id ids)) digests
still_each id ids [] above among = tt
still_each id ids (d ∷ rest) above among = (still d.id id ids (λ e. omega (arith, e, above.0)) among.0, still_each id ids rest above.1 among.1)

pub at_most_as_many : AtMostAsMany
at_most_as_many [] ids rising among = omega arith
at_most_as_many (d ∷ rest) ids rising among = omega (arith, fewer d.id ids among.0, at_most_as_many rest (without d.id ids) rising.1 (still_each d.id ids rest rising.0 among.1))
