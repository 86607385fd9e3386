-- What one more item adds.
use Rattle.std.proofs.Common.{◌≡◌, ℕ, ◌+◌, ◌<◌, min, refl, sym, ap, ◌∙◌, subst, Bool, true, false, ◌||◌, cond, Bor, List, [], ◌∷◌, ◌++◌, length, take, get_or, Option, Some, None, option_map, sum_by, arith}
use Rattle.std.specs.BTreeMap.{BTreeMap, UpdatesBy}
use Rattle.std.specs.Cmp.Lexicographic.{slice_cmp}
use Rattle.std.specs.List.{find, zip, slice_get}
use Rattle.std.specs.Option.{option_or}
use Rattle.std.specs.Ordering.{nat_cmp}
use Rattle.std.specs.Str.{bytes_eq}
use Rattle.std.proofs.lemmas.Grind.{common_steps}
use Rattle.std.proofs.Math.Seq.{take-length}
use Rattle.std.proofs.lemmas.List.{take_more}
use Rattle.std.proofs.lemmas.Option.{get_or_from_slice_get}
use Rattle.std.proofs.lemmas.List.Folds.{find-append}
use Rattle.std.proofs.lemmas.List.Sums.{sum_by-cons}
use Rattle.std.proofs.lemmas.Map.Text.{btree_map_updates_str}
use Rattle.std.proofs.lemmas.Slice.Zip.{length-zip, get_or-zip}
use Rattle.p4_types.specs.declared.info.Info.{Info}
use Rattle.p4_types.specs.declared.info.Table as info_tables
use Rattle.bm_pipeline.specs.declared.headers.Header as pipeline
use Rattle.bm_records.specs.declared.raw.Header.{Header}
use Rattle.bm_records.specs.declared.raw.RawProgram.{RawProgram}
use Rattle.bm_records.specs.declared.raw.Table as raw_tables
use Rattle.bm_rules.specs.Fields.{fields_of}
use Rattle.link_spec.specs.Fields.{fields_before, header_of, headers_from}
use Rattle.bm_pipeline.specs.declared.tables.TableAction.{TableAction}
use Rattle.link_spec.specs.Tables.{Side, is_among, reference_in, action_place, next_on, table_action, table_actions}
use Rattle.bm_link.specs.Places.{Takes}
use Rattle.bm_link.specs.References.{AreLeft, behind}
use Rattle.name_index.specs.Places.{at_name}

length_front : {X : Type 0} (xs : List X) (i : ℕ) → i < length xs → length (take i xs) ≡ i
length_front xs i l = grind (arith, common_steps)

header_same : (raw : RawProgram) (place other first another : ℕ) (x : Header) → place ≡ other → first ≡ another → header_of raw place first x ∷ [] ≡ header_of raw other another x ∷ []
header_same raw place other first another x e f = rw (e, f) refl

headers_push : (raw : RawProgram) (place first : ℕ) (xs : List Header) (x : Header)
    → headers_from raw place first (xs ++ x ∷ []) ≡ headers_from raw place first xs ++ header_of raw (place + length xs) (first + sum_by (λ y. length (fields_of raw y)) xs) x ∷ []
headers_push raw place first [] x = header_same raw place (place + 0) first (first + 0) x (omega arith) (omega arith)
headers_push raw place first (y ∷ ys) x =
    ap (λ zs. header_of raw place first y ∷ zs)
    (headers_push raw (place + 1) (first + length (fields_of raw y)) ys x
    ∙ ap (λ zs. headers_from raw (place + 1) (first + length (fields_of raw y)) ys ++ zs)
    (header_same raw (place + 1 + length ys) (place + length (y ∷ ys)) (first + length (fields_of raw y) + sum_by (λ z. length (fields_of raw z)) ys) (first + sum_by (λ z. length (fields_of raw z)) (y ∷ ys)) x
    (omega arith) (let e : _ = sum_by-cons (λ z. length (fields_of raw z)) y ys in omega arith)))

-- headers, with one more
pub headers_more : (raw : RawProgram) (xs : List Header) (i : ℕ) (d : Header) → i < length xs
    → headers_from raw 0 0 (take (i + 1) xs) ≡ headers_from raw 0 0 (take i xs) ++ header_of raw i (sum_by (λ y. length (fields_of raw y)) (take i xs)) (get_or xs i d) ∷ []
headers_more raw xs i d l =
    ap (headers_from raw 0 0) (take_more xs i d l)
    ∙ (headers_push raw 0 0 (take i xs) (get_or xs i d)
    ∙ ap (λ zs. headers_from raw 0 0 (take i xs) ++ zs)
    (header_same raw (0 + length (take i xs)) i (0 + sum_by (λ y. length (fields_of raw y)) (take i xs)) (sum_by (λ y. length (fields_of raw y)) (take i xs)) (get_or xs i d) (let e : _ = length_front xs i l in omega arith) (omega arith)))

-- the same of a header by its place
pub headers_next : (raw : RawProgram) (i : ℕ) (x : Header) (before after : List pipeline.Header) → slice_get raw.headers i ≡ Some x → i < length raw.headers → before ≡ headers_from raw 0 0 (take i raw.headers)
    → after ≡ before ++ header_of raw i (fields_before raw i) x ∷ [] → after ≡ headers_from raw 0 0 (take (i + 1) raw.headers)
headers_next raw i x before after is l b a =
    a ∙ (ap (λ hs. hs ++ header_of raw i (fields_before raw i) x ∷ []) b
    ∙ (ap (λ y. headers_from raw 0 0 (take i raw.headers) ++ header_of raw i (fields_before raw i) y ∷ []) (sym (get_or_from_slice_get raw.headers i x x is)) ∙ sym (headers_more raw raw.headers i x l)))

-- the names before pairs, with one more
pub behind_push : (before : List (List ℕ)) (pairs : List (ℕ × List ℕ)) (pair : ℕ × List ℕ) → behind before (pairs ++ pair ∷ []) ≡ pair.1 ∷ behind before pairs
behind_push before [] pair = refl
behind_push before (p ∷ ps) pair = behind_push (p.1 ∷ before) ps pair

-- the actions of a table, with one more
pub actions_push : (raw : RawProgram) (info : Info) (side : Side) (table : raw_tables.Table) (given : Option info_tables.Table) (before : List (List ℕ)) (pairs : List (ℕ × List ℕ)) (pair : ℕ × List ℕ)
    → table_actions raw info side table given before (pairs ++ pair ∷ []) ≡ table_actions raw info side table given before pairs ++ table_action raw info side table given (behind before pairs) pair ∷ []
actions_push raw info side table given before [] pair = refl
actions_push raw info side table given before (p ∷ ps) pair = ap (λ rest. table_action raw info side table given before p ∷ rest) (actions_push raw info side table given (p.1 ∷ before) ps pair)

found_by : {X : Type 0} (f : X → ℕ) (x : X) (o : Option X) (b : Bool) → option_map f (option_or o (cond b (Some x) None)) ≡ option_or (option_map f o) (cond b (Some (f x)) None)
found_by f x None true = refl
found_by f x None false = refl
found_by f x (Some y) true = refl
found_by f x (Some y) false = refl

-- what is found by a test, with one more
pub found_more : {X : Type 0} (p : X → Bool) (f : X → ℕ) (xs : List X) (i : ℕ) (d : X) (before after : Option ℕ) → i < length xs → before ≡ option_map f (find p (take i xs))
    → after ≡ option_or before (cond (p (get_or xs i d)) (Some (f (get_or xs i d))) None) → after ≡ option_map f (find p (take (i + 1) xs))
found_more p f xs i d before after l e a =
    a ∙ (ap (λ o. option_or o (cond (p (get_or xs i d)) (Some (f (get_or xs i d))) None)) e
    ∙ (sym (found_by f (get_or xs i d) (find p (take i xs)) (p (get_or xs i d)))
    ∙ (ap (option_map f) (sym (find-append p (take i xs) (get_or xs i d ∷ []))) ∙ ap (λ ys. option_map f (find p ys)) (sym (take_more xs i d l)))))

-- the pairs of ids and names, with one more
pub pairs_more : (ids : List ℕ) (names : List (List ℕ)) (i : ℕ) (d : List ℕ) → i < min (length ids) (length names) → take (i + 1) (zip ids names) ≡ take i (zip ids names) ++ (get_or ids i 0, get_or names i d) ∷ []
pairs_more ids names i d l =
    take_more (zip ids names) i (0, d) (let e : _ = length-zip ids names in grind arith)
    ∙ ap (λ pair. take i (zip ids names) ++ pair ∷ []) (get_or-zip ids names i (0, d) (grind arith) (grind arith))

among_by : (b c : Bool) (left : Option ℕ) → cond b None (cond c None left) ≡ cond (b || c) None left
among_by true c left = refl
among_by false c left = refl

-- the references that are left, with one taken
pub left_more : (info : Info) (given : Option info_tables.Table) (before : List (List ℕ)) (name : List ℕ) (old new : BTreeMap (Bor (List ℕ)) ℕ) → AreLeft info given before old → Takes old new name → AreLeft info given (name ∷ before) new
left_more info given before name old new left takes =
    λ q. takes q ∙ (ap (λ o. cond (bytes_eq name q) None o) (left q) ∙ among_by (bytes_eq name q) (is_among before q) (reference_in info q given))

-- a name that is taken out has none
pub takes : {V : Type 0} (old new : BTreeMap (Bor (List ℕ)) V) (name : List ℕ) → UpdatesBy (λ x y. slice_cmp nat_cmp x.now y.now) (λ k. slice_cmp nat_cmp name k.now) old new None → Takes old new name
takes old new name updates = λ q. btree_map_updates_str name old new None updates q

-- the actions of a table and the references that are left, with one more action
pub actions_next : (raw : RawProgram) (info : Info) (side : Side) (table : raw_tables.Table) (given : Option info_tables.Table) (i : ℕ) (before after : List TableAction) (action : TableAction) (old new : BTreeMap (Bor (List ℕ)) ℕ) (name d : List ℕ)
    → i < min (length table.action_ids) (length table.actions) → name ≡ get_or table.actions i d → before ≡ table_actions raw info side table given [] (take i (zip table.action_ids table.actions))
    → AreLeft info given (behind [] (take i (zip table.action_ids table.actions))) old
    → action ≡ record { action = action_place raw (get_or table.action_ids i 0); reference = at_name old name; next = next_on side table name } → Takes old new name → after ≡ before ++ action ∷ []
    → (after ≡ table_actions raw info side table given [] (take (i + 1) (zip table.action_ids table.actions))) × AreLeft info given (behind [] (take (i + 1) (zip table.action_ids table.actions))) new
actions_next raw info side table given i before after action old new name d l n b left is taken a =
    let pairs : List (ℕ × List ℕ) = take i (zip table.action_ids table.actions) in
    let more : take (i + 1) (zip table.action_ids table.actions) ≡ pairs ++ (get_or table.action_ids i 0, name) ∷ [] =
    pairs_more table.action_ids table.actions i d l ∙ ap (λ x. pairs ++ (get_or table.action_ids i 0, x) ∷ []) (sym n) in
    let same : action ≡ table_action raw info side table given (behind [] pairs) (get_or table.action_ids i 0, name) =
    is ∙ ap (λ reference. let x : TableAction = record { action = action_place raw (get_or table.action_ids i 0); reference = reference; next = next_on side table name } in x) (left name) in (
      a
          ∙ (ap (λ xs. xs ++ action ∷ []) b
          ∙ (ap (λ x. table_actions raw info side table given [] pairs ++ x ∷ []) same
          ∙ (sym (actions_push raw info side table given [] pairs (get_or table.action_ids i 0, name)) ∙ ap (table_actions raw info side table given []) (sym more)))),
      subst (λ names. AreLeft info given names new) (sym (behind_push [] pairs (get_or table.action_ids i 0, name)) ∙ ap (behind []) (sym more)) (left_more info given (behind [] pairs) name old new left taken),
    )

-- all pairs of ids and names
pub all_pairs : (ids : List ℕ) (names : List (List ℕ)) (n : ℕ) → n ≡ min (length ids) (length names) → take n (zip ids names) ≡ zip ids names
all_pairs ids names n e = ap (λ m. take m (zip ids names)) (e ∙ sym (length-zip ids names)) ∙ take-length (zip ids names)
