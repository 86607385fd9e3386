use Rattle.std.proofs.Common.{vec_capacity}
use Rattle.row_index.specs.Index.{Index}
use Rattle.row_index.proofs.Counting.{place_within}
use Rattle.row_index.proofs.Indexing.{sound_unlinked, indexes_unlinked, unlinks_set, size_kept, shape_counted}
use Rattle.row_index.proofs.index.RowIndex.unlink.Goals as goal

pub leave-requires-clause-count : goal.leave-requires-clause-count
leave-requires-clause-count c =
    shape_counted c.self.inside.chains c.self.inside.shapes.list.items c.self.inside.shapes.asks.items _ _ c.args.place c.unlink-placed.result c.self.invariant c.unlink-placed.ensures.placed

pub invariant_of-self : goal.invariant_of-self
invariant_of-self c =
    rw (c.leave.ensures.capacity, c.leave.ensures.asks_capacity)
    (sound_unlinked c.self.inside.chains c.unlink-placed.new.self c.self.inside.shapes.list.items c.leave.new.shapes.list.items c.self.inside.shapes.asks.items c.leave.new.shapes.asks.items (vec_capacity c.self.inside.shapes.list) (vec_capacity c.self.inside.shapes.asks) c.args.place c.unlink-placed.result c.self.invariant
    (size_kept c.self.inside.chains c.unlink-placed.new.self c.args.place) c.unlink-placed.ensures.placed c.unlink-placed.ensures.places c.unlink-placed.ensures.count c.leave.ensures.leaves c.leave.ensures.asked)

pub returns-clause-unlinks : goal.returns-clause-unlinks
returns-clause-unlinks c =
    let old : Index = record { places = c.self.inside.chains.places; shapes = c.self.inside.shapes.list.items } in
    let new : Index = record { places = c.unlink-placed.new.self.places; shapes = c.leave.new.shapes.list.items } in
    rw (← c.self.view_is) (unlinks_set old new c.args.place (place_within c.self.inside.chains.places c.args.place c.unlink-placed.result c.unlink-placed.ensures.placed) c.unlink-placed.ensures.places)

pub returns-clause-rows : goal.returns-clause-rows
returns-clause-rows c = λ rows indexes.
    let old : Index = record { places = c.self.inside.chains.places; shapes = c.self.inside.shapes.list.items } in
    let new : Index = record { places = c.unlink-placed.new.self.places; shapes = c.leave.new.shapes.list.items } in
    indexes_unlinked old new c.args.place c.unlink-placed.result rows (place_within c.self.inside.chains.places c.args.place c.unlink-placed.result c.unlink-placed.ensures.placed) c.unlink-placed.ensures.places c.leave.ensures.leaves (rw (← c.self.view_is) at indexes)
