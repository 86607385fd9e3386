-- Reading records one after the other, as a loop does.
use Rattle.std.proofs.Common.{◌≡◌, ℕ, suc, ◌-◌, ◌+◌, ◌<◌, List, [], ◌∷◌, ◌++◌, length, get_or, drop, Option, Some, None, Result, Ok, Err, refl, sym, ap, ◌∙◌, append_assoc, append-nil, arith}
use Rattle.std.proofs.lemmas.List.{nil_from_length, drop_more}
use Rattle.tape_spec.specs.declared.item.TapeItem.{TapeItem}
use Rattle.list_types.specs.Results.{◌>>=◌}
use Rattle.tape_spec.specs.Items.{ItemLanes, no_item_lanes, lanes_behind}
use Rattle.run_spec.specs.TapeReading.{text_at}
use Rattle.tape_spec.specs.Reading.{Flaw, Bad, or_bad, item_at, nothing_after, with_first, items_at}
use Rattle.tape_form.specs.declared.parse.Flaw.{Flaw as Found}
use Rattle.tape_form.specs.declared.parse.Flaw.TheVariants as found
use Rattle.tape_form.specs.Calls.{lanes_of, AreAlike}
use Rattle.tape_form.specs.declared.lanes.SeenLanes.{SeenLanes}
use Rattle.tape_form.specs.Parsed.{IsFound, IsKept, Grows}
use Rattle.tape_form.proofs.Agreeing.{items_same}

-- what was read before, and what is still read
abbrev pub with_front : List TapeItem → Result (List TapeItem) Flaw → Result (List TapeItem) Flaw
with_front front read = read >>= λ others. Ok (front ++ others)

-- what is read behind an item
abbrev pub behind : ℕ → ItemLanes → Option TapeItem × List ℕ → Result (List TapeItem) Flaw
behind k lanes x = elim x.0 [ None ↦ nothing_after x.1 | Some first ↦ with_first first (items_at k (lanes_behind lanes first) x.1) ]

by_item : (limit i : ℕ) (lanes : ItemLanes) (rest : List ℕ) → i < limit → items_at (limit - i) lanes rest ≡ (or_bad (item_at lanes rest) >>= behind (limit - (i + 1)) lanes)
unfolding items_at
by_item limit i lanes rest lt = let k : limit - i ≡ suc (limit - (i + 1)) = omega arith in rw k refl

regroup : (front : List TapeItem) (first : TapeItem) (read : Result (List TapeItem) Flaw) → with_front front (with_first first read) ≡ with_front (front ++ first ∷ []) read
regroup front first (Ok others) = ap (λ (w : List TapeItem). Ok w) (sym (append_assoc front (first ∷ []) others))
regroup front first (Err flaw) = refl

pub goes_on : (front : List TapeItem) (limit i : ℕ) (lanes next : ItemLanes) (rest : List ℕ) (first : TapeItem) (after : List ℕ) (total : Result (List TapeItem) Flaw) → i < limit → item_at lanes rest ≡ Ok (Some first, after)
    → AreAlike (lanes_behind lanes first) next → with_front front (items_at (limit - i) lanes rest) ≡ total → with_front (front ++ first ∷ []) (items_at (limit - (i + 1)) next after) ≡ total
goes_on front limit i lanes next rest first after total lt h agree so_far =
    let one : items_at (limit - i) lanes rest ≡ with_first first (items_at (limit - (i + 1)) next after) =
    by_item limit i lanes rest lt ∙ ap (λ (r : Result (Option TapeItem × List ℕ) ℕ). or_bad r >>= behind (limit - (i + 1)) lanes) h
    ∙ ap (with_first first) (items_same (limit - (i + 1)) (lanes_behind lanes first) next agree after) in
    sym (ap (with_front front) one ∙ regroup front first (items_at (limit - (i + 1)) next after)) ∙ so_far

pub stops : (left : ℕ) (front : List TapeItem) (limit i : ℕ) (lanes : ItemLanes) (rest : List ℕ) (total : Result (List TapeItem) Flaw) → i < limit → item_at lanes rest ≡ Err left
    → with_front front (items_at (limit - i) lanes rest) ≡ total → total ≡ Err (Bad left)
stops left front limit i lanes rest total lt h so_far =
    sym so_far ∙ ap (with_front front) (by_item limit i lanes rest lt ∙ ap (λ (r : Result (Option TapeItem × List ℕ) ℕ). or_bad r >>= behind (limit - (i + 1)) lanes) h)

at_end : (front : List TapeItem) (limit i : ℕ) (lanes : ItemLanes) (rest after : List ℕ) → i < limit → item_at lanes rest ≡ Ok (None, after) → with_front front (items_at (limit - i) lanes rest) ≡ with_front front (nothing_after after)
at_end front limit i lanes rest after lt h = ap (with_front front) (by_item limit i lanes rest lt ∙ ap (λ (r : Result (Option TapeItem × List ℕ) ℕ). or_bad r >>= behind (limit - (i + 1)) lanes) h)

pub ends_badly : (left : ℕ) (front : List TapeItem) (limit i : ℕ) (lanes : ItemLanes) (rest after : List ℕ) (total : Result (List TapeItem) Flaw) → i < limit → item_at lanes rest ≡ Ok (None, after) → nothing_after after ≡ Err (Bad left)
    → with_front front (items_at (limit - i) lanes rest) ≡ total → total ≡ Err (Bad left)
ends_badly left front limit i lanes rest after total lt h bad so_far = sym so_far ∙ at_end front limit i lanes rest after lt h ∙ ap (with_front front) bad

pub ends : (front : List TapeItem) (limit i : ℕ) (lanes : ItemLanes) (rest after : List ℕ) (total : Result (List TapeItem) Flaw) → i < limit → item_at lanes rest ≡ Ok (None, after) → nothing_after after ≡ Ok []
    → with_front front (items_at (limit - i) lanes rest) ≡ total → total ≡ Ok front
ends front limit i lanes rest after total lt h good so_far =
    sym so_far ∙ at_end front limit i lanes rest after lt h ∙ ap (with_front front) good ∙ ap (λ (w : List TapeItem). Ok w) (append-nil front)

none_left : (front : List TapeItem) (limit i : ℕ) (lanes : ItemLanes) (rest : List ℕ) → i ≡ limit → with_front front (items_at (limit - i) lanes rest) ≡ with_front front (items_at 0 lanes rest)
none_left front limit i lanes rest all = let none : limit - i ≡ 0 = omega (arith, all) in ap (λ (n : ℕ). with_front front (items_at n lanes rest)) none

-- behind as many records as there may be
pub stops_alone : (flaw : Found) (front : List TapeItem) (limit i : ℕ) (lanes : ItemLanes) (rest : List ℕ) (total : Result (List TapeItem) Flaw) → i ≡ limit → IsFound flaw (items_at 0 lanes rest)
    → with_front front (items_at (limit - i) lanes rest) ≡ total → IsFound flaw total
stops_alone (found.Bad left) front limit i lanes rest total all h so_far = sym so_far ∙ none_left front limit i lanes rest all ∙ ap (with_front front) h
stops_alone (found.TooMany left) front limit i lanes rest total all h so_far = sym so_far ∙ none_left front limit i lanes rest all ∙ ap (with_front front) h

pub ends_alone : (front : List TapeItem) (limit i : ℕ) (lanes : ItemLanes) (rest : List ℕ) (total : Result (List TapeItem) Flaw) → i ≡ limit → items_at 0 lanes rest ≡ Ok []
    → with_front front (items_at (limit - i) lanes rest) ≡ total → total ≡ Ok front
ends_alone front limit i lanes rest total all h so_far =
    sym so_far ∙ none_left front limit i lanes rest all ∙ ap (with_front front) h ∙ ap (λ (w : List TapeItem). Ok w) (append-nil front)

with_none : (read : Result (List TapeItem) Flaw) → with_front [] read ≡ read
with_none (Ok records) = refl
with_none (Err flaw) = refl

-- before the first item
pub begins : (limit : ℕ) (seen : SeenLanes) (bytes : List ℕ) → AreAlike (lanes_of seen) no_item_lanes → with_front [] (items_at (limit - 0) (lanes_of seen) bytes) ≡ items_at limit no_item_lanes bytes
begins limit seen bytes alike =
    with_none (items_at (limit - 0) (lanes_of seen) bytes)
    ∙ items_same (limit - 0) (lanes_of seen) no_item_lanes alike bytes
    ∙ (let whole : limit - 0 ≡ limit = omega arith in ap (λ (n : ℕ). items_at n no_item_lanes bytes) whole)

-- some records were read, which are kept unless there was no memory for them, and the rest goes on so that the whole is read
pub record SoFar {X E : Type 0} (view : X → List TapeItem) (kept : Result X E) (rest whole : Result (List TapeItem) Flaw) : Type 0 where
  pub front : List TapeItem
  pub is_kept : IsKept view kept front
  pub read : with_front front rest ≡ whole

grown : {X E : Type 0} (view : X → List TapeItem) (kept more : Result X E) (front : List TapeItem) (first : TapeItem) → IsKept view kept front → Grows view kept more first → IsKept view more (front ++ first ∷ [])
grown view (Ok x) (Ok y) front first is grows = grows ∙ ap (λ (w : List TapeItem). w ++ first ∷ []) is
grown view (Err e) (Ok y) front first is grows = absurd grows
grown view (Ok x) (Err f) front first is grows = tt
grown view (Err e) (Err f) front first is grows = tt

-- with one more record
pub keeps_on : {X E : Type 0} (view : X → List TapeItem) (kept more : Result X E) (limit i : ℕ) (lanes next : ItemLanes) (rest : List ℕ) (first : TapeItem) (after : List ℕ) (total : Result (List TapeItem) Flaw) → i < limit
    → item_at lanes rest ≡ Ok (Some first, after) → AreAlike (lanes_behind lanes first) next → Grows view kept more first
    → SoFar view kept (items_at (limit - i) lanes rest) total → SoFar view more (items_at (limit - (i + 1)) next after) total
keeps_on view kept more limit i lanes next rest first after total lt h agree grows so_far = record {
  front = so_far.front ++ first ∷ [];
  is_kept = grown view kept more so_far.front first so_far.is_kept grows;
  read = goes_on so_far.front limit i lanes next rest first after total lt h agree so_far.read;
}

-- text is wanted where nothing is left
pub text_missing : (text rest : List ℕ) (i : ℕ) (total : Result (List ℕ) ℕ) → i < length text → length rest < 1 → text_at (drop i text) rest ≡ total → total ≡ Err 0
unfolding text_at
text_missing text rest i total lt short so_far =
    let none : rest ≡ [] = nil_from_length rest (omega arith) in
    let some : drop i text ≡ get_or text i 0 ∷ drop (i + 1) text = drop_more text i 0 lt in
    sym so_far ∙ rw (some, none) refl
