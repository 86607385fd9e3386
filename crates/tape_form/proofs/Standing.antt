-- What items that may stand behind one another are each.
use Rattle.std.proofs.Common.{◌≡◌, ◌≤◌, List, [], ◌∷◌, ◌++◌, length, All, sym, ap, ◌∙◌, arith}
use Rattle.std.specs.List.{filter_map, AllByRecursion}
use Rattle.std.proofs.lemmas.List.Elements.{filter_map-append}
use Rattle.p4_types.specs.declared.tape.TapeRecord.{TapeRecord}
use Rattle.std.proofs.lemmas.List.Elements.{All-nil, All-cons}
use Rattle.run_spec.specs.Tape.{IsRecord}
use Rattle.tape_spec.specs.declared.item.TapeItem.{TapeItem}
use Rattle.tape_spec.specs.declared.item.TapeItem.TheVariants.{Record, Bytes}
use Rattle.tape_spec.specs.Items.{ItemLanes, lanes_behind, IsItem, MayFollow, AreItems, record_in}

-- by itself
pub of_one : (lanes : ItemLanes) (item : TapeItem) → MayFollow lanes item → IsItem item
of_one lanes (Record it) may = may.0
of_one lanes (Bytes lane bytes) may = may.0

-- an item each
pub all_of : (lanes : ItemLanes) (items : List TapeItem) → AreItems lanes items → All IsItem items
all_of lanes [] stand = All-nil IsItem
all_of lanes (first ∷ items) stand = All-cons IsItem first items (of_one lanes first stand.0) (all_of (lanes_behind lanes first) items stand.1)

-- the records among items, with one item more
pub kept_more : (before after : List TapeRecord) (items : List TapeItem) (item : TapeItem) → before ≡ filter_map record_in items → after ≡ before ++ filter_map record_in (item ∷ []) → after ≡ filter_map record_in (items ++ item ∷ [])
kept_more before after items item e f = f ∙ ap (λ l. l ++ filter_map record_in (item ∷ [])) e ∙ sym (filter_map-append record_in items (item ∷ []))

-- those of items that may stand behind one another are a record each
pub records_each : (lanes : ItemLanes) (items : List TapeItem) → AreItems lanes items → AllByRecursion IsRecord (filter_map record_in items)
records_each lanes [] stand = tt
records_each lanes (Record it ∷ items) stand = (stand.0.0, records_each (lanes_behind lanes (Record it)) items stand.1)
records_each lanes (Bytes lane bytes ∷ items) stand = records_each (lanes_behind lanes (Bytes lane bytes)) items stand.1

-- and no more than the items
pub records_few : (items : List TapeItem) → length (filter_map record_in items) ≤ length items
records_few [] = omega arith
records_few (Record it ∷ items) = omega (arith, records_few items)
records_few (Bytes lane bytes ∷ items) = omega (arith, records_few items)
