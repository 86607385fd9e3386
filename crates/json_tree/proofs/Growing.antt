-- How a tree grows.
use Rattle.std.proofs.Common.{◌≡◌, ℕ, ◌+◌, ◌-◌, ◌<◌, List, [], ◌∷◌, ◌++◌, length, take, drop, slice_set, Bool, refl, sym, ap, ap₂, ◌∙◌, subst, arith}
use Rattle.std.proofs.lemmas.List.{append_assoc, append-nil, length-append, take_at, drop_at, set_at}
use Rattle.std.proofs.lemmas.Str.{IsUtf8-append, IsUtf8-nil, IsCharBoundary-at_seam}
use Rattle.std.specs.Str.{IsUtf8, IsCharBoundary}
use Rattle.serde_json.specs.Data.{Data, null, boolean, number, string, array, object, no_members}
use Rattle.serde_json.specs.Read.{number_of}
use Rattle.serde_json.specs.View.{items_of}
use Rattle.json_tree.specs.declared.node.Node.{Node}
use Rattle.json_tree.specs.declared.node.Node.TheVariants as nodes
use Rattle.json_tree.specs.Nodes.{part, number_or, puts, values, IsPart, Holds, AreSound, IsElement}
use Rattle.json_tree.specs.View.{view, first_of}
use Rattle.json_tree.specs.Building.{Adds, Grown}

adds_none : (text : List ℕ) → Adds text [] []
adds_none text = record { hold = λ more utf8 rest. refl; sound = λ more utf8 rest s. s }

-- what was added stays when the text grows
adds_longer : (text said : List ℕ) (added : List Node) (ds : List Data) → IsUtf8 said → Adds text added ds → Adds (text ++ said) added ds
adds_longer text said added ds utf8 a = record {
  hold = λ more u rest. subst (λ t. values t (added ++ rest) ≡ ds ++ values t rest) (sym (append_assoc text said more)) (a.hold (said ++ more) (IsUtf8-append said more utf8 u) rest);
  sound = λ more u rest s.
      subst (λ t. AreSound t (added ++ rest)) (sym (append_assoc text said more)) (a.sound (said ++ more) (IsUtf8-append said more utf8 u) rest (subst (λ t. AreSound t rest) (append_assoc text said more) s));
}

adds_both : (text : List ℕ) (a b : List Node) (ds es : List Data) → Adds text a ds → Adds text b es → Adds text (a ++ b) (ds ++ es)
adds_both text a b ds es x y = record {
  hold = λ more u rest.
      ap (values (text ++ more)) (append_assoc a b rest) ∙ x.hold more u (b ++ rest) ∙ ap (λ l. ds ++ l) (y.hold more u rest) ∙ sym (append_assoc ds es (values (text ++ more) rest));
  sound = λ more u rest s. subst (AreSound (text ++ more)) (sym (append_assoc a b rest)) (x.sound more u (b ++ rest) (y.sound more u rest s));
}

pub grown_none : (text : List ℕ) (old : List Node) → Grown text old text old []
grown_none text old = record { added = []; nodes_are = sym (append-nil old); said = []; utf8 = IsUtf8-nil; text_is = sym (append-nil text); adds = adds_none text }

pub grown_then : (a_text : List ℕ) (a : List Node) (b_text : List ℕ) (b : List Node) (c_text : List ℕ) (c : List Node) (ds es : List Data)
    → Grown a_text a b_text b ds → Grown b_text b c_text c es → Grown a_text a c_text c (ds ++ es)
grown_then a_text a b_text b c_text c ds es g h = record {
  added = g.added ++ h.added;
  nodes_are = h.nodes_are ∙ ap (λ l. l ++ h.added) g.nodes_are ∙ append_assoc a g.added h.added;
  said = g.said ++ h.said;
  utf8 = IsUtf8-append g.said h.said g.utf8 h.utf8;
  text_is = h.text_is ∙ ap (λ l. l ++ h.said) g.text_is ∙ append_assoc a_text g.said h.said;
  adds = adds_both c_text g.added h.added ds es (subst (λ t. Adds t g.added ds) (sym h.text_is) (adds_longer b_text h.said g.added ds h.utf8 g.adds)) h.adds;
}

adds_null : (text : List ℕ) → Adds text (nodes.Null ∷ []) (null ∷ [])
adds_null text = record { hold = λ more u rest. refl; sound = λ more u rest s. (tt, s) }

pub grown_null : (text : List ℕ) (old : List Node) (new_text : List ℕ) (new : List Node) → new_text ≡ text → new ≡ old ++ nodes.Null ∷ [] → Grown text old new_text new (null ∷ [])
grown_null text old new_text new t n = record { added = nodes.Null ∷ []; nodes_are = n; said = []; utf8 = IsUtf8-nil; text_is = t ∙ sym (append-nil text); adds = adds_null new_text }

adds_truth : (text : List ℕ) (b : Bool) → Adds text (nodes.Bool b ∷ []) (boolean b ∷ [])
adds_truth text b = record { hold = λ more u rest. refl; sound = λ more u rest s. (tt, s) }

pub grown_truth : (text : List ℕ) (old : List Node) (new_text : List ℕ) (new : List Node) (b : Bool) → new_text ≡ text → new ≡ old ++ nodes.Bool b ∷ [] → Grown text old new_text new (boolean b ∷ [])
grown_truth text old new_text new b t n = record { added = nodes.Bool b ∷ []; nodes_are = n; said = []; utf8 = IsUtf8-nil; text_is = t ∙ sym (append-nil text); adds = adds_truth new_text b }

-- what is said behind a text stands there
module _ (text said more : List ℕ) (start end : ℕ) (begins : start ≡ length text) (ends : end ≡ length text + length said) where
  part_is : part (text ++ said ++ more) start end ≡ said
  part_is =
      let count : length said ≡ end - start = omega arith in
      ap (λ l. take (end - start) (drop start l)) (append_assoc text said more) ∙ ap (take (end - start)) (drop_at text (said ++ more) start (sym begins)) ∙ take_at said more (end - start) count

  is_part : IsUtf8 said → IsUtf8 more → IsPart (text ++ said ++ more) start end
  is_part utf8 u = record {
    ordered = omega arith;
    begins = subst (IsCharBoundary (text ++ said ++ more)) (sym begins) (IsCharBoundary-at_seam (text ++ said ++ more) text (said ++ more) (append_assoc text said more) (IsUtf8-append said more utf8 u));
    ends = subst (IsCharBoundary (text ++ said ++ more)) (length-append text said ∙ sym ends) (IsCharBoundary-at_seam (text ++ said ++ more) (text ++ said) more refl u);
  }

module _ (text said : List ℕ) (old : List Node) (new_text : List ℕ) (new : List Node) (start end : ℕ) (utf8 : IsUtf8 said) (begins : start ≡ length text) (ends : end ≡ length text + length said)
    (t : new_text ≡ text ++ said) where
  pub grown_text : new ≡ old ++ nodes.Text start end ∷ [] → Grown text old new_text new (string said ∷ [])
  grown_text n = record {
    added = nodes.Text start end ∷ [];
    nodes_are = n;
    said = said;
    utf8 = utf8;
    text_is = t;
    adds = subst (λ t. Adds t (nodes.Text start end ∷ []) (string said ∷ [])) (sym t) (record {
      hold = λ more u rest. ap (λ s. string s ∷ values (text ++ said ++ more) rest) (part_is text said more start end begins ends);
      sound = λ more u rest s. (is_part text said more start end begins ends utf8 u, s);
    });
  }

  pub grown_number : new ≡ old ++ nodes.Number start end ∷ [] → Grown text old new_text new (number (number_or (number_of said)) ∷ [])
  grown_number n = record {
    added = nodes.Number start end ∷ [];
    nodes_are = n;
    said = said;
    utf8 = utf8;
    text_is = t;
    adds = subst (λ t. Adds t (nodes.Number start end ∷ []) (number (number_or (number_of said)) ∷ [])) (sym t) (record {
      hold = λ more u rest. ap (λ s. number (number_or (number_of s)) ∷ values (text ++ said ++ more) rest) (part_is text said more start end begins ends);
      sound = λ more u rest s. (is_part text said more start end begins ends utf8 u, s);
    });
  }

module _ (text : List ℕ) (added : List Node) (ds : List Data) (count inside : ℕ) (counted : count ≡ length ds) (taken : inside ≡ length added) (a : Adds text added ds) where
  holds : (more : List ℕ) → IsUtf8 more → (rest : List Node) → Holds (text ++ more) count inside (added ++ rest)
  holds more u rest = record {
    within = omega (arith, length-append added rest);
    enough = omega (arith, ap length (a.hold more u rest), length-append ds (values (text ++ more) rest));
    behind = ap (drop count) (a.hold more u rest) ∙ drop_at ds (values (text ++ more) rest) count (sym counted) ∙ ap (values (text ++ more)) (sym (drop_at added rest inside (sym taken)));
  }

  adds_array : Adds text (nodes.Array count inside ∷ added) (array (items_of ds) ∷ [])
  adds_array = record {
    hold = λ more u rest.
        ap (λ vs. array (items_of (take count vs)) ∷ drop count vs) (a.hold more u rest)
        ∙ ap₂ (λ xs ys. array (items_of xs) ∷ ys) (take_at ds (values (text ++ more) rest) count (sym counted)) (drop_at ds (values (text ++ more) rest) count (sym counted));
    sound = λ more u rest s. (holds more u rest, a.sound more u rest s);
  }

  adds_object : Adds text (nodes.Object count inside ∷ added) (object (puts ds no_members) ∷ [])
  adds_object = record {
    hold = λ more u rest.
        ap (λ vs. object (puts (take count vs) no_members) ∷ drop count vs) (a.hold more u rest)
        ∙ ap₂ (λ xs ys. object (puts xs no_members) ∷ ys) (take_at ds (values (text ++ more) rest) count (sym counted)) (drop_at ds (values (text ++ more) rest) count (sym counted));
    sound = λ more u rest s. (holds more u rest, a.sound more u rest s);
  }

-- what stands at the place that was kept
module _ (text : List ℕ) (old opened : List Node) (new_text : List ℕ) (new closed : List Node) (ds : List Data) (count inside : ℕ) (counted : count ≡ length ds) (taken : inside ≡ length new - length old - 1)
    (o : opened ≡ old ++ nodes.Null ∷ []) (g : Grown text opened new_text new ds) where
  new_is : new ≡ old ++ nodes.Null ∷ g.added
  new_is = g.nodes_are ∙ ap (λ l. l ++ g.added) o ∙ append_assoc old (nodes.Null ∷ []) g.added

  all_taken : inside ≡ length g.added
  all_taken = omega (arith, ap length new_is, length-append old (nodes.Null ∷ g.added))

  closed_is : (node : Node) → closed ≡ slice_set new (length old) node → closed ≡ old ++ node ∷ g.added
  closed_is node c = c ∙ ap (λ l. slice_set l (length old) node) new_is ∙ set_at old nodes.Null g.added node (length old) refl

  pub grown_array : closed ≡ slice_set new (length old) (nodes.Array count inside) → Grown text old new_text closed (array (items_of ds) ∷ [])
  grown_array c = record {
    added = nodes.Array count inside ∷ g.added;
    nodes_are = closed_is (nodes.Array count inside) c;
    said = g.said;
    utf8 = g.utf8;
    text_is = g.text_is;
    adds = adds_array new_text g.added ds count inside counted all_taken g.adds;
  }

  pub grown_object : closed ≡ slice_set new (length old) (nodes.Object count inside) → Grown text old new_text closed (object (puts ds no_members) ∷ [])
  grown_object c = record {
    added = nodes.Object count inside ∷ g.added;
    nodes_are = closed_is (nodes.Object count inside) c;
    said = g.said;
    utf8 = g.utf8;
    text_is = g.text_is;
    adds = adds_object new_text g.added ds count inside counted all_taken g.adds;
  }

-- a tree that has grown by one value from nothing is that value
pub grown_whole : (old_text : List ℕ) (old : List Node) (text : List ℕ) (new : List Node) (d : Data) → old_text ≡ [] → old ≡ [] → Grown old_text old text new (d ∷ []) → IsElement text new × (view (text, new) ≡ d)
grown_whole old_text old text new d no_text no_nodes g =
    let same : new ≡ g.added = g.nodes_are ∙ ap (λ l. l ++ g.added) no_nodes in
    let whole : values text new ≡ d ∷ [] =
    ap₂ values (sym (append-nil text)) (same ∙ sym (append-nil g.added)) ∙ g.adds.hold [] IsUtf8-nil [] in
    let sound : AreSound text new = subst (λ t. AreSound t new) (append-nil text) (subst (AreSound (text ++ [])) (append-nil g.added ∙ sym same) (g.adds.sound [] IsUtf8-nil [] tt)) in
    ((sound, some text new d whole), ap (λ vs. first_of vs) whole)
  where
    some : (t : List ℕ) (ns : List Node) (e : Data) → values t ns ≡ e ∷ [] → 0 < length ns
    some t [] e h = let never : ⊥ = cc in absurd never
    some t (n ∷ ns) e h = omega arith
