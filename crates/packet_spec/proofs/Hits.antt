-- Everything that a packet hits is there.
use Rattle.std.proofs.Common.{◌≡◌, ◌<◌, ◌≤◌, ◌+◌, ap, subst, ℕ, zero, suc, Bool, true, false, cond, not, refl, List, [], ◌∷◌, ◌++◌, length, Option, Some, None, ltb, ◌==◌, arith}
use Rattle.std.specs.Prelude.{All, Contains, slice_get, take}
use Rattle.std.specs.List.{find, filter, flat_map, list_any, sum_by}
use Rattle.std.proofs.lemmas.Bool.Decides.{nat_tests}
use Rattle.std.proofs.lemmas.List.Elements.{All-nil, All-cons, All-head, All-tail, All-append, All-filter, All-contains_itself}
use Rattle.std.proofs.lemmas.List.Sums.{sum_by-cons}
use Rattle.bm_expr.specs.Store.{Contents}
use Rattle.bm_pipeline.specs.declared.tables.Conditional.{Conditional}
use Rattle.bm_pipeline.specs.declared.tables.Node.{Node}
use Rattle.bm_pipeline.specs.declared.tables.Node.TheVariants as nodes
use Rattle.bm_pipeline.specs.declared.tables.Table.{Table}
use Rattle.bm_pipeline.specs.Places.{node_count}
use Rattle.p4_types.specs.declared.info.Counter.{Counter}
use Rattle.p4_types.specs.declared.info.Info.{Info}
use Rattle.p4_types.specs.declared.messages.Replica.{Replica}
use Rattle.p4_types.specs.declared.records.DropReason.TheVariants as reasons
use Rattle.p4_types.specs.declared.records.HitMark.{HitMark}
use Rattle.p4_types.specs.declared.records.Sample.{Sample}
use Rattle.p4_types.specs.declared.records.HitMark.TheVariants as marks
use Rattle.p4_types.specs.declared.table.Entry.{Entry}
use Rattle.packet_spec.specs.Choosing.{found, found_by, key_of, acts}
use Rattle.packet_spec.specs.Laws.{IsThere, HitsAreThere}
use Rattle.packet_spec.specs.Meaning.{Verdict, dropped, behind_parser, meaning, bytes_in, packet_in_fields, to_controller, sent_to, sample_of, egress_spec, walked, written, left, before_egress, through_egress, chosen_port, copy_store, copies_left, mcast_grp, replicas_of, behind_sample}
use Rattle.packet_spec.specs.Walking.{Walk, cells_before, cell_in, cell_hit, entry_hit, ran, starting, table_done, conditional_done, node_done, walk_from}
use Rattle.plane_spec.specs.Entries.{best, hits, beats}
use Rattle.plane_spec.specs.Planes.{Plane}
use Rattle.program_spec.specs.Actions.{Counted, drop_port}
use Rattle.program_spec.specs.Checksums.{sums_verified}
use Rattle.program_spec.specs.Deparsing.{longest}
use Rattle.program_spec.specs.Parsing.{Parsed, parse}
use Rattle.program_spec.specs.Stores.{entering}
use Rattle.canon_bytes.specs.Bits.{bits}

find_or : {X : Type 0} (P : X → Type 0) (y x : X) (other : Option X) (b : Bool) → P y → (other ≡ Some x → P x) → cond b (Some y) other ≡ Some x → P x
find_or P y x other true one others found = let same : y ≡ x = cc in subst P same one
find_or P y x other false one others found = others found

-- what a search of a list finds has what all of it have
find_has : {X : Type 0} (P : X → Type 0) (test : X → Bool) (list : List X) (x : X) → All P list → find test list ≡ Some x → P x
find_has P test [] x all found = absurd cc
find_has P test (y ∷ list) x all found = find_or P y x (find test list) (test y) (All-head P y list all) (find_has P test list x (All-tail P y list all)) found

best_there : (plane : Plane) (table : ℕ) (key : List ℕ) (entry : Entry) → best table key plane.entries ≡ Some entry → Contains plane.entries entry
unfolding best
best_there plane table key entry found =
    let hitting : List Entry = filter (hits table key) plane.entries in
    find_has (Contains plane.entries) (λ one. not (list_any (λ other. beats other one) hitting)) hitting entry
    (All-filter (hits table key) (Contains plane.entries) plane.entries (All-contains_itself plane.entries)) found

found_there : (plane : Plane) (id : Option ℕ) (key : List ℕ) (entry : Entry) → found_by id key plane ≡ Some entry → Contains plane.entries entry
found_there plane None key entry found = absurd cc
found_there plane (Some id) key entry found = best_there plane id key entry found

entry_there : (plane : Plane) (o : Option Entry) → ((entry : Entry) → o ≡ Some entry → Contains plane.entries entry) → All (IsThere plane) (entry_hit o)
entry_there plane None there = All-nil (IsThere plane)
entry_there plane (Some entry) there = All-cons (IsThere plane) (marks.Entry entry.name.table entry.seq entry.slot) [] (entry, there entry refl, refl, refl, refl) (All-nil (IsThere plane))

table_entry_there : (plane : Plane) (table : Table) (store : Contents) → All (IsThere plane) (entry_hit (found plane table store))
unfolding found
table_entry_there plane table store = entry_there plane (found_by table.id (key_of table store) plane) (found_there plane table.id (key_of table store))

-- a counter's cells stand behind those of the counters before it, and within those of all
cells_within : (counters : List Counter) (place : ℕ) (counter : Counter) → slice_get counters place ≡ Some counter
    → sum_by (λ (other : Counter). other.size) (take place counters) + counter.size ≤ sum_by (λ (other : Counter). other.size) counters
cells_within [] place counter at = absurd cc
cells_within (first ∷ others) zero counter at =
    let same : first ≡ counter = cc in
    let all = sum_by-cons (λ (other : Counter). other.size) first others in
    omega (arith, all, ap (λ (c : Counter). c.size) same)
cells_within (first ∷ others) (suc place) counter at =
    omega (arith, cells_within others place counter at, sum_by-cons (λ (other : Counter). other.size) first others, sum_by-cons (λ (other : Counter). other.size) first (take place others))

cell_there : (plane : Plane) (first place slot : ℕ) (counter : Counter) (b : Bool) → b ≡ ltb slot counter.size → slice_get plane.config.info.counters place ≡ Some counter
    → first ≡ plane.cells + cells_before place plane → All (IsThere plane) (cond b (marks.Cell (first + slot) ∷ []) [])
cell_there plane first place slot counter false e at is = All-nil (IsThere plane)
cell_there plane first place slot counter true e at is =
    let small : slot < counter.size = grind (arith, nat_tests) in
    let sum = cells_within plane.config.info.counters place counter at in
    All-cons (IsThere plane) (marks.Cell (first + slot)) [] (omega (arith, is), omega (arith, is, small, sum)) (All-nil (IsThere plane))

cell_in_there : (plane : Plane) (count : Counted) (o : Option Counter) → slice_get plane.config.info.counters count.counter ≡ o
    → All (IsThere plane) (cell_in o (plane.cells + cells_before count.counter plane) plane count)
cell_in_there plane count None at = All-nil (IsThere plane)
cell_in_there plane count (Some counter) at =
    cell_there plane (plane.cells + cells_before count.counter plane) count.counter count.index counter (ltb count.index counter.size) refl at refl

cells_there : (plane : Plane) (counts : List Counted) → All (IsThere plane) (flat_map (cell_hit plane) counts)
cells_there plane [] = All-nil (IsThere plane)
cells_there plane (count ∷ counts) =
    All-append (IsThere plane) (cell_hit plane count) (flat_map (cell_hit plane) counts)
    (cell_in_there plane count (slice_get plane.config.info.counters count.counter) refl) (cells_there plane counts)

-- Where all that was hit so far is there, it is so behind a table, behind a node, and at the end of a walk.
table_there : (plane : Plane) (o : Option Table) (walk : Walk) → All (IsThere plane) walk.hits → All (IsThere plane) (table_done plane o walk).walk.hits
table_there plane None walk there = there
table_there plane (Some table) walk there =
    let entry : Option Entry = found plane table walk.store in
    let counts : List Counted = (ran plane (acts plane table entry walk.store) (starting walk)).counted in
    All-append (IsThere plane) (walk.hits ++ entry_hit entry) (flat_map (cell_hit plane) counts)
    (All-append (IsThere plane) walk.hits (entry_hit entry) there (table_entry_there plane table walk.store)) (cells_there plane counts)

conditional_there : (plane : Plane) (o : Option Conditional) (walk : Walk) → All (IsThere plane) walk.hits → All (IsThere plane) (conditional_done o walk).walk.hits
conditional_there plane None walk there = there
conditional_there plane (Some conditional) walk there = there

node_there : (plane : Plane) (node : Node) (walk : Walk) → All (IsThere plane) walk.hits → All (IsThere plane) (node_done plane node walk).walk.hits
node_there plane (nodes.Table place) walk there = table_there plane (slice_get plane.config.program.tables place) walk there
node_there plane (nodes.Conditional place) walk there = conditional_there plane (slice_get plane.config.program.conditionals place) walk there

walk_there : (plane : Plane) (more : ℕ) (next : Option Node) (walk : Walk) → All (IsThere plane) walk.hits → All (IsThere plane) (walk_from plane more next walk).hits
walk_there plane zero next walk there = there
walk_there plane (suc more) None walk there = there
walk_there plane (suc more) (Some node) walk there = walk_there plane more (node_done plane node walk).next (node_done plane node walk).walk (node_there plane node walk there)

either : (plane : Plane) (a b : Verdict) (test : Bool) → All (IsThere plane) a.hits → All (IsThere plane) b.hits → All (IsThere plane) (cond test a b).hits
either plane a b true one other = one
either plane a b false one other = other

left_there : (plane : Plane) (cpu port : ℕ) (rest : List ℕ) (sample : Option Sample) (walk : Walk) → All (IsThere plane) walk.hits → All (IsThere plane) (left plane cpu port rest sample walk).hits
left_there plane cpu port rest sample walk there =
    let bytes : List ℕ = written plane walk.store rest in
    let info : Info = plane.config.info in
    either plane (dropped reasons.ByPipeline sample walk.hits) (sent_to info cpu port sample walk.hits bytes) (egress_spec plane walk.store == drop_port) there
    (either plane (dropped reasons.TooLong sample walk.hits) _ (ltb longest (length bytes)) there
    (either plane (to_controller (packet_in_fields info) sample walk.hits bytes) _ (port == cpu)
    (either plane (dropped reasons.TooShortForController sample walk.hits) _ (ltb (length bytes) (bytes_in (packet_in_fields info))) there there)
    there))

through_there : (plane : Plane) (cpu : ℕ) (rest : List ℕ) (sample : Option Sample) (store : Contents) (hits : List HitMark) → All (IsThere plane) hits → All (IsThere plane) (through_egress plane cpu rest sample store hits).hits
through_there plane cpu rest sample store hits there =
    let start : Walk = record { store = before_egress plane store; learned = None; hits = hits } in
    left_there plane cpu (egress_spec plane store) rest sample (walked plane plane.config.program.egress (before_egress plane store) hits)
    (walk_there plane (suc (node_count plane.config.program)) plane.config.program.egress start there)

chosen_there : (plane : Plane) (cpu : ℕ) (rest : List ℕ) (sample : Option Sample) (walk : Walk) → All (IsThere plane) walk.hits → All (IsThere plane) (chosen_port plane cpu rest sample walk).hits
chosen_there plane cpu rest sample walk there =
    either plane (dropped reasons.ByPipeline sample walk.hits) (through_egress plane cpu rest sample walk.store walk.hits) (egress_spec plane walk.store == drop_port) there
    (through_there plane cpu rest sample walk.store walk.hits there)

copies_there : (plane : Plane) (cpu : ℕ) (rest : List ℕ) (sample : Option Sample) (store : Contents) (replicas : List Replica) (hits : List HitMark) → All (IsThere plane) hits
    → All (IsThere plane) (copies_left plane cpu rest sample store replicas hits).hits
copies_there plane cpu rest sample store [] hits there = there
copies_there plane cpu rest sample store (replica ∷ replicas) hits there =
    copies_there plane cpu rest sample store replicas _ (through_there plane cpu rest sample (copy_store plane store replica) hits there)

sample_there : (plane : Plane) (cpu : ℕ) (rest : List ℕ) (sample : Option Sample) (walk : Walk) → All (IsThere plane) walk.hits → All (IsThere plane) (behind_sample plane cpu rest sample walk).hits
sample_there plane cpu rest sample walk there =
    either plane (chosen_port plane cpu rest sample walk) (copies_left plane cpu rest sample walk.store (replicas_of plane walk.store) walk.hits) (mcast_grp plane walk.store == 0)
    (chosen_there plane cpu rest sample walk there) (copies_there plane cpu rest sample walk.store (replicas_of plane walk.store) walk.hits there)

parsed_there : (plane : Plane) (cpu : ℕ) (parsed : Parsed) → All (IsThere plane) (behind_parser plane cpu parsed).hits
parsed_there plane cpu parsed =
    let start : Walk = record { store = sums_verified plane.config.program parsed.store; learned = None; hits = [] } in
    let walk : Walk = walked plane plane.config.program.ingress (sums_verified plane.config.program parsed.store) [] in
    sample_there plane cpu parsed.rest (sample_of plane walk.store walk.learned) walk
    (walk_there plane (suc (node_count plane.config.program)) plane.config.program.ingress start (All-nil (IsThere plane)))

pub hits_are_there : HitsAreThere
unfolding meaning
hits_are_there plane cpu port packet = parsed_there plane cpu (parse plane.config.program (bits packet) (entering plane.config.program port (length packet)))
