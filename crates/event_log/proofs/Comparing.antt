-- Two beginnings of one list are compared by their lengths.
use Rattle.std.proofs.Common.{◌≡◌, ℕ, ◌<◌, ◌≤◌, Bool, true, false, List, length, refl, sym, arith}
use Rattle.std.specs.Prelude.{nat_le, MatchBool}
use Rattle.std.proofs.lemmas.Bool.Decides.{nat_tests}
use mathlib.Core.List.{IsPrefix}
use Rattle.event_log.specs.Lists.{Known, Begins, IsLonger}
use Rattle.event_log.proofs.Prefixes.{prefix_shorter}

module _ {E : Type 0} (a b : Known E) (both : List E) (m n : ℕ) (m_is : m ≡ length a.events) (n_is : n ≡ length b.events) (one : b.list ≡ a.list) (first : IsPrefix a.events both) (second : IsPrefix b.events both) where
  by_length : (r : Bool) → nat_le m n ≡ r → MatchBool r (Begins a b) (IsLonger b a)
  by_length true is = let le : m ≤ n = grind (arith, nat_tests) in (one, prefix_shorter a.events b.events both first second (omega (arith, m_is, n_is, le)))
  by_length false is = let lt : n < m = grind (arith, nat_tests) in ((sym one, prefix_shorter b.events a.events both second first (omega (arith, m_is, n_is, lt))), omega (arith, m_is, n_is, lt))

  pub compares : MatchBool (nat_le m n) (Begins a b) (IsLonger b a)
  compares = by_length (nat_le m n) refl
