use Rattle.std.proofs.Common.{◌≡◌, refl, vec_capacity, arith}
use Rattle.row_index.specs.declared.placed.Placed.{Placed}
use Rattle.row_index.specs.Cuts.{bucket_of}
use Rattle.row_index.specs.Index.{Index}
use Rattle.row_index.specs.Places.{place_at}
use Rattle.row_index.proofs.Indexing.{sound_linked, indexes_linked, links_set, size_kept, free_there, counts_fit, shapes_fit, asks_fit}
use Rattle.row_index.proofs.index.RowIndex.link.Goals as goal

pub join-shape-requires-clause-counts : goal.join-shape-requires-clause-counts
join-shape-requires-clause-counts c =
    let free = free_there (place_at c.self.inside.chains.places c.args.place) (rw (← c.self.view_is) at c.requires.free) in
    counts_fit c.self.inside.chains c.self.inside.shapes.list.items c.self.inside.shapes.asks.items _ _ c.args.place c.self.invariant (rw (← c.self.view_is) at c.requires.place) free

pub join-shape-requires-clause-room : goal.join-shape-requires-clause-room
join-shape-requires-clause-room c =
    let free = free_there (place_at c.self.inside.chains.places c.args.place) (rw (← c.self.view_is) at c.requires.free) in
    λ used.
    let lt = shapes_fit c.self.inside.chains c.self.inside.shapes.list.items c.self.inside.shapes.asks.items _ _ c.args.place c.self.invariant (rw (← c.self.view_is) at c.requires.place) free used in
    omega (arith, lt, c.self.inside.shapes.list.ok.0)

pub join-shape-requires-clause-asks_room : goal.join-shape-requires-clause-asks_room
join-shape-requires-clause-asks_room c =
    let free = free_there (place_at c.self.inside.chains.places c.args.place) (rw (← c.self.view_is) at c.requires.free) in
    let lt = asks_fit c.self.inside.chains c.self.inside.shapes.list.items c.self.inside.shapes.asks.items _ _ c.args.place c.self.invariant (rw (← c.self.view_is) at c.requires.place) free in
    omega (arith, lt, c.self.inside.shapes.asks.ok.0)

pub invariant_of-self : goal.invariant_of-self
invariant_of-self c =
    let free = free_there (place_at c.self.inside.chains.places c.args.place) (rw (← c.self.view_is) at c.requires.free) in
    let placed : Placed = record { bucket = c.bucket_of-bucket.result; shape = c.join-shape.result; print = c.name_print-print.result } in
    let bucket : c.bucket_of-bucket.result ≡ bucket_of c.self.inside.chains.count c.name_print-print.result = rw c.buckets.ensures at c.bucket_of-bucket.ensures.bucket in
    rw (c.join-shape.ensures.capacity, c.join-shape.ensures.asks_capacity)
    (sound_linked c.self.inside.chains c.link.new.self c.self.inside.shapes.list.items c.join-shape.new.shapes.list.items c.self.inside.shapes.asks.items c.join-shape.new.shapes.asks.items (vec_capacity c.self.inside.shapes.list) (vec_capacity c.self.inside.shapes.asks) c.args.place placed c.self.invariant
    (size_kept c.self.inside.chains c.link.new.self c.args.place) c.args.name.now (rw (← c.self.view_is) at c.requires.place) free c.link.ensures.places c.link.ensures.count bucket c.join-shape.ensures.joins c.join-shape.ensures.asked)

pub returns-clause-links : goal.returns-clause-links
returns-clause-links c =
    let placed : Placed = record { bucket = c.bucket_of-bucket.result; shape = c.join-shape.result; print = c.name_print-print.result } in
    let old : Index = record { places = c.self.inside.chains.places; shapes = c.self.inside.shapes.list.items } in
    let new : Index = record { places = c.link.new.self.places; shapes = c.join-shape.new.shapes.list.items } in
    rw (← c.self.view_is) (links_set old new c.args.place placed (rw (← c.self.view_is) at c.requires.place) c.link.ensures.places)

pub returns-clause-rows : goal.returns-clause-rows
returns-clause-rows c = λ rows indexes row.
    let placed : Placed = record { bucket = c.bucket_of-bucket.result; shape = c.join-shape.result; print = c.name_print-print.result } in
    let old : Index = record { places = c.self.inside.chains.places; shapes = c.self.inside.shapes.list.items } in
    let new : Index = record { places = c.link.new.self.places; shapes = c.join-shape.new.shapes.list.items } in
    indexes_linked old new c.self.inside.chains c.self.inside.shapes.asks.items _ _ c.args.place placed c.args.name.now rows c.self.invariant refl (rw (← c.self.view_is) at c.requires.place) c.link.ensures.places c.join-shape.ensures.joins (rw (c.from.ensures, c.as_slice.ensures) at c.name_print-print.ensures) row (rw (← c.self.view_is) at indexes)
