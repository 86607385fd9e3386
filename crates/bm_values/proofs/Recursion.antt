-- The trees of members are what their values read as.
use Rattle.std.proofs.Common.{◌≡◌, ℕ, ◌<◌, ◌≤◌, List, Option, Some, Ordering, Less, Equal, Greater, refl, ap, subst, arith}
use Rattle.std.specs.Ordering.{nat_cmp, match_ordering}
use Rattle.std.specs.Cmp.Lexicographic.{slice_cmp}
use mathlib.Core.Path.{fun_ext}
use Rattle.serde_json.specs.Data.{Data, null, boolean, number, string, array, object, Members, no_members, member, depth, members_depth}
use Rattle.serde_json.specs.Find.{get, get_member}
use Rattle.list_types.specs.Options.{◌>>=◌}
use Rattle.json_shapes.specs.Shapes as shapes
use Rattle.bm_values.specs.Trees.{Tree}
use Rattle.bm_values.specs.Expressions.{tree_with, operation, tree_of, trees_of, inside}

by_order : (o : Ordering) (found : Option Data) (d : Data) (read : Option Tree) → read ≡ (found >>= tree_of) → match_ordering o read (tree_of d) read ≡ (match_ordering o found (Some d) found >>= tree_of)
by_order Less found d read h = h
by_order Equal found d read h = refl
by_order Greater found d read h = h

by_name : (ms : Members) (name : List ℕ) → trees_of ms name ≡ (get_member name ms >>= tree_of)
by_name no_members name = refl
by_name (member key d ms) name = by_order (slice_cmp nat_cmp name key) (get_member name ms) d (trees_of ms name) (by_name ms name)

-- the tree of a value is defined by those of the values in it
pub recursion : (d : Data) → tree_of d ≡ tree_with (inside d) d
unfolding tree_with operation shapes.required
recursion null = refl
recursion (boolean b) = refl
recursion (number n) = refl
recursion (string s) = refl
recursion (array ds) = refl
recursion (object ms) = ap (λ f. tree_with f (object ms)) (fun_ext (by_name ms))

lower_by : (o : Ordering) (found : Option Data) (d e : Data) (n : ℕ) → depth d ≤ n → ((x : Data) → found ≡ Some x → depth x ≤ n) → match_ordering o found (Some d) found ≡ Some e → depth e ≤ n
lower_by Less found d e n first rest h = rest e h
lower_by Equal found d e n first rest h = let same : d ≡ e = cc in subst (λ x. depth x ≤ n) same first
lower_by Greater found d e n first rest h = rest e h

lower_in : (ms : Members) (name : List ℕ) (e : Data) → get_member name ms ≡ Some e → depth e ≤ members_depth ms
lower_in no_members name e h = absurd (let c : ⊥ = cc in c)
lower_in (member key d ms) name e h =
    lower_by (slice_cmp nat_cmp name key) (get_member name ms) d e (members_depth (member key d ms)) (omega arith) (λ x g. omega (arith, lower_in ms name x g)) h

-- what stands under a name nests less
pub lower : (name : List ℕ) (d e : Data) → get name d ≡ Some e → depth e < depth d
lower name (object ms) e h = omega (arith, lower_in ms name e h)
lower name null e h = absurd (let c : ⊥ = cc in c)
lower name (boolean b) e h = absurd (let c : ⊥ = cc in c)
lower name (number n) e h = absurd (let c : ⊥ = cc in c)
lower name (string s) e h = absurd (let c : ⊥ = cc in c)
lower name (array ds) e h = absurd (let c : ⊥ = cc in c)
