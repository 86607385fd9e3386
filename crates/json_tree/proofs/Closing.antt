-- The node of an array or an object is written once all that stands in it is read.
use Rattle.std.proofs.Common.{◌≡◌, ℕ, ◌-◌, ◌≤◌, List, [], ◌∷◌, ◌++◌, length, slice_set, Result, Ok, Err, OnOk, IfErr, None, string_bytes, refl, sym, ap, subst, arith}
use Rattle.std.proofs.lemmas.List.{length-append}
use Rattle.json.specs.Token.{Token}
use Rattle.serde_json.specs.Data.{Data, no_members}
use Rattle.serde_json.specs.View.{items_of}
use Rattle.json_tree.specs.declared.node.Node.TheVariants as nodes
use Rattle.json_tree.specs.declared.reading.Building.{Building}
use Rattle.json_tree.specs.Nodes.{puts}
use Rattle.list_types.specs.declared.memory.Refusal.{Refusal}
use Rattle.list_types.specs.declared.memory.Refusal.TheVariants.{NoMemory}
use Rattle.json_tree.specs.declared.reading.NotJson.{NotJson}
use Rattle.json_tree.specs.Building.{Grown, GrownBy, Takes, items_read, members_read, ReadsArray, ReadsItems, ReadsObject, ReadsMembers}
use Rattle.json_tree.proofs.Growing.{grown_array, grown_object}
use Rattle.json_tree.proofs.Values.{no_memory}

-- nodes only grow
pub not_fewer : (old new : Building) (ds : List Data) → GrownBy old new ds → length old.nodes.items ≤ length new.nodes.items
not_fewer old new ds g = omega (arith, ap length g.nodes_are, length-append old.nodes.items g.added)

module _ (depth : ℕ) (old mid new closed : Building) (tokens rest : List Token) (count inside : ℕ) (same_text : string_bytes mid.text ≡ string_bytes old.text) (kept : mid.nodes.items ≡ old.nodes.items ++ nodes.Null ∷ [])
    (taken : inside ≡ length new.nodes.items - length old.nodes.items - 1) (new_text : string_bytes closed.text ≡ string_bytes new.text) where
  from_old : (ds : List Data) → GrownBy mid new ds → Grown (string_bytes old.text) mid.nodes.items (string_bytes closed.text) new.nodes.items ds
  from_old ds g = subst (λ t. Grown t mid.nodes.items (string_bytes closed.text) new.nodes.items ds) same_text (subst (λ t. Grown (string_bytes mid.text) mid.nodes.items t new.nodes.items ds) (sym new_text) g)

  pub array_closed : closed.nodes.items ≡ slice_set new.nodes.items (length old.nodes.items) (nodes.Array count inside) → ReadsItems depth mid new tokens rest count → ReadsArray depth old closed tokens rest
  array_closed c r = record {
    value = items_of r.found;
    grown = grown_array (string_bytes old.text) old.nodes.items mid.nodes.items (string_bytes closed.text) new.nodes.items closed.nodes.items r.found count inside r.counted taken kept (from_old r.found r.grown) c;
    is = r.is;
    shorter = r.shorter;
  }

  pub object_closed : closed.nodes.items ≡ slice_set new.nodes.items (length old.nodes.items) (nodes.Object count inside) → ReadsMembers depth mid new tokens rest count → ReadsObject depth old closed tokens rest
  object_closed c r = record {
    value = puts r.found no_members;
    grown = grown_object (string_bytes old.text) old.nodes.items mid.nodes.items (string_bytes closed.text) new.nodes.items closed.nodes.items r.found count inside r.counted taken kept (from_old r.found r.grown) c;
    is = r.is;
    shorter = r.shorter;
  }

-- the answer of the call that writes the node
module _ {A : Type 0} (x : Result A (Refusal NotJson)) (depth : ℕ) (old mid new closed : Building) (tokens rest : List Token) (at count : ℕ) (kept_at : at ≡ length old.nodes.items)
    (same_text : string_bytes mid.text ≡ string_bytes old.text) (kept : mid.nodes.items ≡ old.nodes.items ++ nodes.Null ∷ []) (new_text : string_bytes closed.text ≡ string_bytes new.text) (err : IfErr x (λ e. e ≡ NoMemory)) where
  pub closes_array : OnOk x (closed.nodes.items ≡ slice_set new.nodes.items at (nodes.Array count (length new.nodes.items - at - 1))) → ReadsItems depth mid new tokens rest count
      → Takes x (λ _. ReadsArray depth old closed tokens rest) (items_read depth tokens ≡ None)
  closes_array ok r = go x ok err
    where
      go : (y : Result A (Refusal NotJson)) → OnOk y (closed.nodes.items ≡ slice_set new.nodes.items at (nodes.Array count (length new.nodes.items - at - 1))) → IfErr y (λ e. e ≡ NoMemory)
          → Takes y (λ _. ReadsArray depth old closed tokens rest) (items_read depth tokens ≡ None)
      go (Ok z) c e = array_closed depth old mid new closed tokens rest count (length new.nodes.items - length old.nodes.items - 1) same_text kept refl new_text (subst (λ i. closed.nodes.items ≡ slice_set new.nodes.items i (nodes.Array count (length new.nodes.items - i - 1))) kept_at c) r
      go (Err e) c none = no_memory e (λ _. ReadsArray depth old closed tokens rest) (items_read depth tokens ≡ None) none

  pub closes_object : OnOk x (closed.nodes.items ≡ slice_set new.nodes.items at (nodes.Object count (length new.nodes.items - at - 1))) → ReadsMembers depth mid new tokens rest count
      → Takes x (λ _. ReadsObject depth old closed tokens rest) (members_read depth tokens ≡ None)
  closes_object ok r = go x ok err
    where
      go : (y : Result A (Refusal NotJson)) → OnOk y (closed.nodes.items ≡ slice_set new.nodes.items at (nodes.Object count (length new.nodes.items - at - 1))) → IfErr y (λ e. e ≡ NoMemory)
          → Takes y (λ _. ReadsObject depth old closed tokens rest) (members_read depth tokens ≡ None)
      go (Ok z) c e = object_closed depth old mid new closed tokens rest count (length new.nodes.items - length old.nodes.items - 1) same_text kept refl new_text (subst (λ i. closed.nodes.items ≡ slice_set new.nodes.items i (nodes.Object count (length new.nodes.items - i - 1))) kept_at c) r
      go (Err e) c none = no_memory e (λ _. ReadsObject depth old closed tokens rest) (members_read depth tokens ≡ None) none
