-- What the numbers of a P4Info stand for (p4.config.v1), with this project's bounds.
use Rattle.std.specs.Prelude.{ℕ, ℤ, pos, negsuc, ◌==◌, nat_le, ◌&&◌, Bool, true, false, if◌then◌else◌, Option, Some, None}
use Rattle.p4_types.specs.declared.info.MatchKind.{MatchKind}
use Rattle.p4_types.specs.declared.info.MatchKind.TheVariants as kinds
use Rattle.p4_types.specs.declared.info.Scope.{Scope}
use Rattle.p4_types.specs.declared.info.Scope.TheVariants as scopes

-- a width in bits, 1 to 128
abbrev pub width_of : ℤ → Option ℕ
width_of (pos n) = if nat_le 1 n && nat_le n 128 then Some n else None
width_of (negsuc n) = None

-- a size, which is not negative
abbrev pub size_of : ℤ → Option ℕ
size_of (pos n) = Some n
size_of (negsuc n) = None

-- the number of a MatchField.MatchType
abbrev pub kind_of : ℤ → Option MatchKind
kind_of (pos n) =
    if n == 2 then Some kinds.Exact else
    if n == 3 then Some kinds.Lpm else
    if n == 4 then Some kinds.Ternary else
    if n == 5 then Some kinds.Range else
    if n == 6 then Some kinds.Optional else None
kind_of (negsuc n) = None

-- the number of an ActionRef.Scope
abbrev pub scope_of : ℤ → Option Scope
scope_of (pos n) =
    if n == 0 then Some scopes.TableAndDefault else
    if n == 1 then Some scopes.TableOnly else
    if n == 2 then Some scopes.DefaultOnly else None
scope_of (negsuc n) = None

-- an id, where 0 names nothing
abbrev pub named : ℕ → Option ℕ
named id = if id == 0 then None else Some id

-- the longest prefix that matches
abbrev pub is_lpm : Option MatchKind → Bool
is_lpm (Some kinds.Lpm) = true
is_lpm (Some kind) = false
is_lpm None = false
