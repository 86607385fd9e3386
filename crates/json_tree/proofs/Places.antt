-- The value that begins with a node, and what stands behind it.
use Rattle.std.proofs.Common.{◌≡◌, ℕ, zero, suc, ◌+◌, ◌-◌, ◌<◌, ◌≤◌, List, [], ◌∷◌, length, take, drop, get_or, Option, Some, None, is_some, option_map, option_and_then, refl, sym, ap, ◌∙◌, subst, arith}
use Rattle.serde_json.specs.Data.{Num, Data, no_members}
use Rattle.serde_json.specs.Find.{as_null, as_bool, as_str, as_number, as_u64, as_array, as_object, get_item}
use Rattle.serde_json.specs.Read.{number_of}
use Rattle.serde_json.specs.View.{items_of}
use Rattle.json_tree.specs.declared.node.Node.{Node}
use Rattle.json_tree.specs.declared.node.Node.TheVariants as nodes
use Rattle.json_tree.specs.Nodes.{part, number_or, puts, with_node, values, IsPart, IsSound, AreSound, IsElement, inside_of, is_null_node, truth_in, text_in, digits_in, items_of_node, members_of_node}
use Rattle.json_tree.specs.View.{first_of}

-- ---- the first node

pub first_is : (text : List ℕ) (ns : List Node) (d : Node) → 0 < length ns → values text ns ≡ with_node text (get_or ns 0 d) (values text (drop 1 ns))
first_is text [] d some = absurd (let never : ⊥ = omega arith in never)
first_is text (node ∷ rest) d some = refl

pub first_sound : (text : List ℕ) (ns : List Node) (d : Node) → IsElement text ns → IsSound text (get_or ns 0 d) (drop 1 ns) × AreSound text (drop 1 ns)
first_sound text [] d e = absurd (let never : ⊥ = omega (arith, e.1) in never)
first_sound text (node ∷ rest) d e = (e.0.0, e.0.1)

pub sound_behind : (text : List ℕ) (n : ℕ) (ns : List Node) → AreSound text ns → AreSound text (drop n ns)
sound_behind text zero ns s = s
sound_behind text (suc n) [] s = s
sound_behind text (suc n) (node ∷ ns) s = sound_behind text n ns s.1

-- ---- what stands behind

within : (text : List ℕ) (node : Node) (rest : List Node) → IsSound text node rest → inside_of node ≤ length rest
within text nodes.Null rest s = omega arith
within text (nodes.Bool b) rest s = omega arith
within text (nodes.Number start end) rest s = omega arith
within text (nodes.Text start end) rest s = omega arith
within text (nodes.Array count inside) rest s = s.within
within text (nodes.Object count inside) rest s = s.within

skips : (text : List ℕ) (node : Node) (rest : List Node) → IsSound text node rest → values text (drop (inside_of node) rest) ≡ drop 1 (with_node text node (values text rest))
skips text nodes.Null rest s = refl
skips text (nodes.Bool b) rest s = refl
skips text (nodes.Number start end) rest s = refl
skips text (nodes.Text start end) rest s = refl
skips text (nodes.Array count inside) rest s = sym s.behind
skips text (nodes.Object count inside) rest s = sym s.behind

pub behind_within : (text : List ℕ) (ns : List Node) (d : Node) → IsElement text ns → inside_of (get_or ns 0 d) + 1 ≤ length ns
behind_within text [] d e = absurd (let never : ⊥ = omega (arith, e.1) in never)
behind_within text (node ∷ rest) d e = omega (arith, within text node rest e.0.0)

next_drop : (n : ℕ) (node : Node) (rest : List Node) → drop (n + 1) (node ∷ rest) ≡ drop n rest
next_drop n node rest = let e : n + 1 ≡ suc n = omega arith in ap (λ k. drop k (node ∷ rest)) e

pub behind_values : (text : List ℕ) (ns : List Node) (d : Node) → IsElement text ns → values text (drop (inside_of (get_or ns 0 d) + 1) ns) ≡ drop 1 (values text ns)
behind_values text [] d e = absurd (let never : ⊥ = omega (arith, e.1) in never)
behind_values text (node ∷ rest) d e = ap (values text) (next_drop (inside_of node) node rest) ∙ skips text node rest e.0.0

-- ---- the first of some values

some_values : (text : List ℕ) (node : Node) (vs : List Data) → 1 ≤ length (with_node text node vs)
some_values text nodes.Null vs = omega arith
some_values text (nodes.Bool b) vs = omega arith
some_values text (nodes.Number start end) vs = omega arith
some_values text (nodes.Text start end) vs = omega arith
some_values text (nodes.Array count inside) vs = omega arith
some_values text (nodes.Object count inside) vs = omega arith

-- where there is a value, there is a node
pub some_nodes : (text : List ℕ) (ns : List Node) (count : ℕ) → 0 < count → count ≤ length (values text ns) → 0 < length ns
some_nodes text [] count some enough = omega arith
some_nodes text (node ∷ rest) count some enough = omega arith

pub take_first : (count : ℕ) (vs : List Data) → 0 < count → count ≤ length vs → take count vs ≡ first_of vs ∷ take (count - 1) (drop 1 vs)
take_first zero vs some enough = absurd (let never : ⊥ = omega arith in never)
take_first (suc n) [] some enough = absurd (let never : ⊥ = omega arith in never)
take_first (suc n) (v ∷ vs) some enough = let e : suc n - 1 ≡ n = omega arith in ap (λ k. v ∷ take k vs) (sym e)

-- ---- what a node says of its value

pub null_is : (text : List ℕ) (node : Node) (vs : List Data) → is_some (as_null (first_of (with_node text node vs))) ≡ is_null_node node
null_is text nodes.Null vs = refl
null_is text (nodes.Bool b) vs = refl
null_is text (nodes.Number start end) vs = refl
null_is text (nodes.Text start end) vs = refl
null_is text (nodes.Array count inside) vs = refl
null_is text (nodes.Object count inside) vs = refl

pub truth_is : (text : List ℕ) (node : Node) (vs : List Data) → as_bool (first_of (with_node text node vs)) ≡ truth_in node
truth_is text nodes.Null vs = refl
truth_is text (nodes.Bool b) vs = refl
truth_is text (nodes.Number start end) vs = refl
truth_is text (nodes.Text start end) vs = refl
truth_is text (nodes.Array count inside) vs = refl
truth_is text (nodes.Object count inside) vs = refl

pub text_is : (text : List ℕ) (node : Node) (vs : List Data) → as_str (first_of (with_node text node vs)) ≡ option_map (λ p. part text p.0 p.1) (text_in node)
text_is text nodes.Null vs = refl
text_is text (nodes.Bool b) vs = refl
text_is text (nodes.Number start end) vs = refl
text_is text (nodes.Text start end) vs = refl
text_is text (nodes.Array count inside) vs = refl
text_is text (nodes.Object count inside) vs = refl

natural_of_number : (o : Option Num) → as_u64 (number_or o) ≡ option_and_then as_u64 o
natural_of_number None = refl
natural_of_number (Some n) = refl

pub digits_are : (text : List ℕ) (node : Node) (vs : List Data) → option_and_then as_u64 (as_number (first_of (with_node text node vs))) ≡ option_and_then (λ p. option_and_then as_u64 (number_of (part text p.0 p.1))) (digits_in node)
digits_are text nodes.Null vs = refl
digits_are text (nodes.Bool b) vs = refl
digits_are text (nodes.Number start end) vs = natural_of_number (number_of (part text start end))
digits_are text (nodes.Text start end) vs = refl
digits_are text (nodes.Array count inside) vs = refl
digits_are text (nodes.Object count inside) vs = refl

pub items_are : (text : List ℕ) (node : Node) (vs : List Data) → as_array (first_of (with_node text node vs)) ≡ option_map (λ count. items_of (take count vs)) (items_of_node node)
items_are text nodes.Null vs = refl
items_are text (nodes.Bool b) vs = refl
items_are text (nodes.Number start end) vs = refl
items_are text (nodes.Text start end) vs = refl
items_are text (nodes.Array count inside) vs = refl
items_are text (nodes.Object count inside) vs = refl

pub members_are : (text : List ℕ) (node : Node) (vs : List Data) → as_object (first_of (with_node text node vs)) ≡ option_map (λ count. puts (take count vs) no_members) (members_of_node node)
members_are text nodes.Null vs = refl
members_are text (nodes.Bool b) vs = refl
members_are text (nodes.Number start end) vs = refl
members_are text (nodes.Text start end) vs = refl
members_are text (nodes.Array count inside) vs = refl
members_are text (nodes.Object count inside) vs = refl

-- ---- what a node says of the text and of those behind it is so

abbrev pick : {A : Type 0} → A → Option A → A
pick d None = d
pick d (Some a) = a

pub text_sound : (text : List ℕ) (node : Node) (rest : List Node) (start end : ℕ) → IsSound text node rest → text_in node ≡ Some (start, end) → IsPart text start end
text_sound text nodes.Null rest start end s e = absurd (let never : ⊥ = cc in never)
text_sound text (nodes.Bool b) rest start end s e = absurd (let never : ⊥ = cc in never)
text_sound text (nodes.Number from to) rest start end s e = absurd (let never : ⊥ = cc in never)
text_sound text (nodes.Text from to) rest start end s e = let first : from ≡ start = ap (λ o. (pick {A = ℕ × ℕ} (0, 0) o).0) e in let last : to ≡ end = ap (λ o. (pick {A = ℕ × ℕ} (0, 0) o).1) e in subst (λ i. IsPart text i end) first (subst (IsPart text from) last s)
text_sound text (nodes.Array count inside) rest start end s e = absurd (let never : ⊥ = cc in never)
text_sound text (nodes.Object count inside) rest start end s e = absurd (let never : ⊥ = cc in never)

pub digits_sound : (text : List ℕ) (node : Node) (rest : List Node) (start end : ℕ) → IsSound text node rest → digits_in node ≡ Some (start, end) → IsPart text start end
digits_sound text nodes.Null rest start end s e = absurd (let never : ⊥ = cc in never)
digits_sound text (nodes.Bool b) rest start end s e = absurd (let never : ⊥ = cc in never)
digits_sound text (nodes.Number from to) rest start end s e = let first : from ≡ start = ap (λ o. (pick {A = ℕ × ℕ} (0, 0) o).0) e in let last : to ≡ end = ap (λ o. (pick {A = ℕ × ℕ} (0, 0) o).1) e in subst (λ i. IsPart text i end) first (subst (IsPart text from) last s)
digits_sound text (nodes.Text from to) rest start end s e = absurd (let never : ⊥ = cc in never)
digits_sound text (nodes.Array count inside) rest start end s e = absurd (let never : ⊥ = cc in never)
digits_sound text (nodes.Object count inside) rest start end s e = absurd (let never : ⊥ = cc in never)

pub items_there : (text : List ℕ) (node : Node) (rest : List Node) (n : ℕ) → IsSound text node rest → items_of_node node ≡ Some n → n ≤ length (values text rest)
items_there text nodes.Null rest n s e = absurd (let never : ⊥ = cc in never)
items_there text (nodes.Bool b) rest n s e = absurd (let never : ⊥ = cc in never)
items_there text (nodes.Number from to) rest n s e = absurd (let never : ⊥ = cc in never)
items_there text (nodes.Text from to) rest n s e = absurd (let never : ⊥ = cc in never)
items_there text (nodes.Array count inside) rest n s e = let same : count ≡ n = cc in omega (arith, s.enough)
items_there text (nodes.Object count inside) rest n s e = absurd (let never : ⊥ = cc in never)

pub members_there : (text : List ℕ) (node : Node) (rest : List Node) (n : ℕ) → IsSound text node rest → members_of_node node ≡ Some n → n ≤ length (values text rest)
members_there text nodes.Null rest n s e = absurd (let never : ⊥ = cc in never)
members_there text (nodes.Bool b) rest n s e = absurd (let never : ⊥ = cc in never)
members_there text (nodes.Number from to) rest n s e = absurd (let never : ⊥ = cc in never)
members_there text (nodes.Text from to) rest n s e = absurd (let never : ⊥ = cc in never)
members_there text (nodes.Array count inside) rest n s e = absurd (let never : ⊥ = cc in never)
members_there text (nodes.Object count inside) rest n s e = let same : count ≡ n = cc in omega (arith, s.enough)

-- ---- an item by its place

pub item_first : (vs rest : List Data) (d : Data) → vs ≡ d ∷ rest → get_item 0 (items_of vs) ≡ Some d
item_first vs rest d e = ap (λ xs. get_item 0 (items_of xs)) e

pub item_none : (n : ℕ) (vs : List Data) → vs ≡ [] → get_item n (items_of vs) ≡ None
item_none n vs e = ap (λ xs. get_item n (items_of xs)) e

pub item_later : (n : ℕ) (vs rest : List Data) (d : Data) → 0 < n → vs ≡ d ∷ rest → get_item n (items_of vs) ≡ get_item (n - 1) (items_of rest)
item_later zero vs rest d some e = absurd (let never : ⊥ = omega arith in never)
item_later (suc n) vs rest d some e = let same : suc n - 1 ≡ n = omega arith in ap (λ xs. get_item (suc n) (items_of xs)) e ∙ ap (λ k. get_item k (items_of rest)) (sym same)
