-- What is read of items and of members, a turn at a time.
use Rattle.std.proofs.Common.{◌≡◌, ℕ, ◌+◌, ◌-◌, ◌≤◌, List, [], ◌∷◌, ◌++◌, length, Option, Some, None, string_bytes, refl, sym, ap, ◌∙◌, arith}
use Rattle.std.proofs.lemmas.List.{append_assoc, append-nil, length-append}
use Rattle.json.specs.Token.{Token}
use Rattle.json.specs.Json as json
use Rattle.json.specs.Json.{parse_map, after_end_array, read_key}
use Rattle.json.proofs.Grammar.{after_end_array-shorter, read_key-shorter}
use Rattle.serde_json.specs.Data.{Data, string, Items, no_items, item, Members, no_members, put}
use Rattle.serde_json.specs.Read.{of_json, of_items, of_members, converted}
use Rattle.serde_json.specs.View.{items_of}
use Rattle.json_tree.proofs.Converting.{item_read, item_refused, items_over, member_read, member_refused, key_refused, members_over}
use Rattle.json_tree.specs.declared.reading.Building.{Building}
use Rattle.json_tree.specs.Nodes.{puts}
use Rattle.json_tree.specs.Building.{GrownBy, ReadsValue, ReadsItems, ReadsMembers}
use Rattle.json_tree.proofs.Growing.{grown_none, grown_then}

-- ---- lists that grow at their ends

abbrev pub items_before : List Data → Items → Items
items_before [] rest = rest
items_before (d ∷ ds) rest = item d (items_before ds rest)

items_before-all : (ds : List Data) → items_before ds no_items ≡ items_of ds
items_before-all [] = refl
items_before-all (d ∷ ds) = ap (item d) (items_before-all ds)

items_before-more : (ds : List Data) (d : Data) (rest : Items) → items_before ds (item d rest) ≡ items_before (ds ++ d ∷ []) rest
items_before-more [] d rest = refl
items_before-more (e ∷ ds) d rest = ap (item e) (items_before-more ds d rest)

one_more : (ds : List Data) (d : Data) (r : Option (Items × List Token)) → parse_map (items_before ds) (parse_map (item d) r) ≡ parse_map (items_before (ds ++ d ∷ [])) r
one_more ds d None = refl
one_more ds d (Some p) = ap (λ is. Some (is, p.1)) (items_before-more ds d p.0)

none_before : (r : Option (Items × List Token)) → r ≡ parse_map (items_before []) r
none_before None = refl
none_before (Some p) = refl

grown_more : (a b c : Building) (ds es : List Data) → GrownBy a b ds → GrownBy b c es → GrownBy a c (ds ++ es)
grown_more a b c ds es g h = grown_then (string_bytes a.text) a.nodes.items (string_bytes b.text) b.nodes.items (string_bytes c.text) c.nodes.items ds es g h

-- ---- items

pub record ItemsSoFar (depth : ℕ) (old new : Building) (tokens rest : List Token) (count : ℕ) : Type 0 where
  pub found : List Data
  pub grown : GrownBy old new found
  pub counted : count ≡ length found
  pub turns : ℕ
  pub enough : length rest ≤ turns
  pub so_far : converted of_items (json.items (json.value depth) (length tokens) tokens) ≡ parse_map (items_before found) (converted of_items (json.items (json.value depth) turns rest))
  pub shorter : length rest ≤ length tokens

pub no_items_yet : (depth : ℕ) (old : Building) (tokens : List Token) → ItemsSoFar depth old old tokens tokens 0
no_items_yet depth old tokens = record {
  found = [];
  grown = grown_none (string_bytes old.text) old.nodes.items;
  counted = refl;
  turns = length tokens;
  enough = omega arith;
  so_far = none_before (converted of_items (json.items (json.value depth) (length tokens) tokens));
  shorter = omega arith;
}

module _ (depth : ℕ) (old mid : Building) (tokens ts : List Token) (count : ℕ) (l : ItemsSoFar depth old mid tokens ts count) where
  pub one_item : (new : Building) (r : List Token) → after_end_array ts ≡ None → ReadsValue depth mid new ts r → ItemsSoFar depth old new tokens r (count + 1)
  one_item new r going w = record {
    found = l.found ++ w.value ∷ [];
    grown = grown_more old mid new l.found (w.value ∷ []) l.grown w.grown;
    counted = omega (arith, l.counted, length-append l.found (w.value ∷ []));
    turns = l.turns - 1;
    enough = omega (arith, l.enough, w.shorter);
    so_far = l.so_far ∙ ap (parse_map (items_before l.found)) (item_read (json.value depth) l.turns ts r w.value (omega (arith, l.enough, w.shorter)) going w.is) ∙ one_more l.found w.value _;
    shorter = omega (arith, l.shorter, w.shorter);
  }

  pub item_is_refused : after_end_array ts ≡ None → converted of_json (json.value depth ts) ≡ None → converted of_items (json.items (json.value depth) (length tokens) tokens) ≡ None
  item_is_refused going none = l.so_far ∙ ap (parse_map (items_before l.found)) (item_refused (json.value depth) l.turns ts going none)

  pub all_items : (r : List Token) → after_end_array ts ≡ Some r → ReadsItems depth old mid tokens r count
  all_items r e = record {
    found = l.found;
    grown = l.grown;
    counted = l.counted;
    is = l.so_far ∙ ap (parse_map (items_before l.found)) (items_over (json.value depth) l.turns ts r l.enough e) ∙ ap (λ is. Some (is, r)) (items_before-all l.found);
    shorter = omega (arith, after_end_array-shorter ts r e, l.shorter);
  }

-- ---- members

-- these names and values put so many members
abbrev pub Puts : List Data → Members → Type 0
Puts ds ms = (rest : List Data) → puts (ds ++ rest) no_members ≡ puts rest ms

puts_more : (ds : List Data) (ms : Members) (name : List ℕ) (d : Data) → Puts ds ms → Puts ((ds ++ string name ∷ []) ++ d ∷ []) (put name d ms)
puts_more ds ms name d p rest =
    ap (λ es. puts es no_members) (append_assoc (ds ++ string name ∷ []) (d ∷ []) rest ∙ append_assoc ds (string name ∷ []) (d ∷ rest)) ∙ p (string name ∷ d ∷ rest)

pub record MembersSoFar (depth : ℕ) (old new : Building) (tokens rest : List Token) (count : ℕ) : Type 0 where
  pub found : List Data
  pub grown : GrownBy old new found
  pub counted : count ≡ length found
  pub members : Members
  pub put_are : Puts found members
  pub turns : ℕ
  pub enough : length rest ≤ turns
  pub so_far : converted (λ ms. of_members ms no_members) (json.members (json.value depth) (length tokens) tokens) ≡ converted (λ ms. of_members ms members) (json.members (json.value depth) turns rest)
  pub shorter : length rest ≤ length tokens

pub no_members_yet : (depth : ℕ) (old : Building) (tokens : List Token) → MembersSoFar depth old old tokens tokens 0
no_members_yet depth old tokens = record {
  found = [];
  grown = grown_none (string_bytes old.text) old.nodes.items;
  counted = refl;
  members = no_members;
  put_are = λ rest. refl;
  turns = length tokens;
  enough = omega arith;
  so_far = refl;
  shorter = omega arith;
}

module _ (depth : ℕ) (old mid : Building) (tokens ts : List Token) (count : ℕ) (l : MembersSoFar depth old mid tokens ts count) where
  pub one_member : (named new : Building) (name : List ℕ) (s r : List Token) → read_key ts ≡ Some (Some name, s) → GrownBy mid named (string name ∷ []) → ReadsValue depth named new s r → MembersSoFar depth old new tokens r (count + 1 + 1)
  one_member named new name s r key g w = record {
    found = (l.found ++ string name ∷ []) ++ w.value ∷ [];
    grown = grown_more old named new (l.found ++ string name ∷ []) (w.value ∷ []) (grown_more old mid named l.found (string name ∷ []) l.grown g) w.grown;
    counted = omega (arith, l.counted, length-append (l.found ++ string name ∷ []) (w.value ∷ []), length-append l.found (string name ∷ []));
    members = put name w.value l.members;
    put_are = puts_more l.found l.members name w.value l.put_are;
    turns = l.turns - 1;
    enough = omega (arith, l.enough, w.shorter, read_key-shorter ts (Some name) s key);
    so_far = l.so_far ∙ member_read (json.value depth) l.members l.turns name ts s r w.value (omega (arith, l.enough, read_key-shorter ts (Some name) s key)) key w.is;
    shorter = omega (arith, l.shorter, w.shorter, read_key-shorter ts (Some name) s key);
  }

  pub key_is_refused : read_key ts ≡ None → converted (λ ms. of_members ms no_members) (json.members (json.value depth) (length tokens) tokens) ≡ None
  key_is_refused none = l.so_far ∙ key_refused (json.value depth) l.members l.turns ts none

  pub member_is_refused : (name : List ℕ) (s : List Token) → read_key ts ≡ Some (Some name, s) → converted of_json (json.value depth s) ≡ None → converted (λ ms. of_members ms no_members) (json.members (json.value depth) (length tokens) tokens) ≡ None
  member_is_refused name s key none = l.so_far ∙ member_refused (json.value depth) l.members l.turns name ts s key none

  pub all_members : (r : List Token) → read_key ts ≡ Some (None, r) → ReadsMembers depth old mid tokens r count
  all_members r e = record {
    found = l.found;
    grown = l.grown;
    counted = l.counted;
    is = l.so_far ∙ members_over (json.value depth) l.members l.turns ts r l.enough e ∙ ap (λ ms. Some (ms, r)) (sym (ap (λ ds. puts ds no_members) (sym (append-nil l.found)) ∙ l.put_are []));
    shorter = omega (arith, read_key-shorter ts None r e, l.shorter);
  }
