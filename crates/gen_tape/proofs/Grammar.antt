-- The tape of a number is in the grammar and within the limits.
use Rattle.std.proofs.Common.{◌≡◌, ℕ, zero, suc, ◌+◌, ◌*◌, ◌/◌, ◌%◌, ◌≤◌, false, not, List, [], ◌∷◌, ◌++◌, length, map, refl, ap, ◌∙◌, arith, lit≤, lit<, length-append}
use Rattle.std.specs.List.{AllByRecursion, flat_map}
use Rattle.std.proofs.lemmas.List.{length-map}
use Rattle.canon_bytes.specs.Base128.{base_128}
use Rattle.p4_types.specs.declared.tape.TapeRecord.TheVariants.{Call, Packet, Leave, Meet}
use Rattle.run_spec.specs.Tape.{magic, end_bytes, IsCall, IsPacket}
use Rattle.run_spec.specs.Text.{count_up}
use Rattle.tape_spec.specs.declared.item.TapeItem.{TapeItem}
use Rattle.tape_spec.specs.declared.item.TapeItem.TheVariants.{Record, Bytes}
use Rattle.tape_spec.specs.Items.{ItemLanes, no_item_lanes, lanes_behind, item_bytes, bytes_of, AreItems}
use Rattle.gen_tape.specs.Router.{router_info, router_json}
use Rattle.gen_tape.specs.Generated.{commit_bytes, insert_bytes, frame_to, asking, committing, inserting, target, sending, generated}
use Rattle.tape_form.specs.TapeRead.{InLimits}
use Rattle.gen_tape.specs.Laws.{IsPlain, HasNoOthers}
use Rattle.gen_tape.proofs.Counting.{count_length}

-- ---- facts of each item

all_behind : {A : Type 0} (P : A → Type 0) (xs ys : List A) → AllByRecursion P xs → AllByRecursion P ys → AllByRecursion P (xs ++ ys)
all_behind P [] ys all more = more
all_behind P (x ∷ xs) ys all more = (all.0, all_behind P xs ys all.1 more)

all_made : {A : Type 0} (P : A → Type 0) (f : ℕ → A) (from n : ℕ) → ((i : ℕ) → P (f i)) → AllByRecursion P (map f (count_up from n))
all_made P f from zero each = tt
all_made P f from (suc n) each = (each from, all_made P f (suc from) n each)

-- what is true of its four kinds of items is true of all
everywhere : (P : TapeItem → Type 0) → P asking → P committing → ((i : ℕ) → P (inserting i)) → ((n j : ℕ) → P (sending n j)) → (n : ℕ) → AllByRecursion P (generated n)
unfolding generated
everywhere P first second routes packets n =
    (first, (second, all_behind P (map inserting (count_up 0 (100 * n))) (map (sending n) (count_up 0 (400 * n))) (all_made P inserting 0 (100 * n) routes) (all_made P (sending n) 0 (400 * n) (packets n))))

pub plain : HasNoOthers
plain n = everywhere IsPlain tt tt (λ i. tt) (λ n j. tt) n

-- ---- how long the items are

below : (k n most : ℕ) → k ≡ n → n ≤ most → k ≤ most
below k n most is le = omega arith

abbrev size_of : TapeItem → ℕ
size_of item = length (item_bytes item)

asking_size : size_of asking ≡ 16
unfolding base_128
asking_size = refl

committing_size : size_of committing ≡ 4299
unfolding base_128 commit_bytes router_info router_json
committing_size = refl

message_size : (x y port : ℕ) → length (insert_bytes x y port) ≡ 61
unfolding base_128 insert_bytes
message_size x y port = refl

inserting_size : (i : ℕ) → size_of (inserting i) ≡ 69
unfolding base_128 insert_bytes
inserting_size i = refl

frame_size : (x y : ℕ) → length (frame_to x y) ≡ 34
unfolding frame_to
frame_size x y = refl

sending_size : (n j : ℕ) → size_of (sending n j) ≡ 43
unfolding frame_to
sending_size n j = refl

-- items of at most 100 bytes each
light : (items : List TapeItem) → AllByRecursion (λ item. size_of item ≤ 100) items → length (flat_map item_bytes items) ≤ 100 * length items
light [] all = omega arith
light (item ∷ items) all = omega (arith, all.0, light items all.1, length-append (item_bytes item) (flat_map item_bytes items))

-- ---- the grammar

-- a call or a packet that may stand on a tape
abbrev IsStanding : TapeItem → Type 0
IsStanding (Record (Call lane method message)) = IsCall lane message
IsStanding (Record (Packet lane port packet)) = IsPacket lane port packet
IsStanding (Record (Leave lane)) = ⊥
IsStanding (Record (Meet lane controller call)) = ⊥
IsStanding (Bytes lane bytes) = ⊥

-- where no lane brings bytes they stand in any order
stand : (lanes : ItemLanes) (items : List TapeItem) → ((lane : ℕ) → lanes.brings lane ≡ false) → AllByRecursion IsStanding items → AreItems lanes items
stand lanes [] none all = tt
stand lanes (Record (Call lane method message) ∷ items) none all = ((all.0, tt, ap not (none lane)), stand (lanes_behind lanes (Record (Call lane method message))) items none all.1)
stand lanes (Record (Packet lane port packet) ∷ items) none all = ((all.0, tt, tt), stand lanes items none all.1)
stand lanes (Record (Leave lane) ∷ items) none all = absurd all.0
stand lanes (Record (Meet lane controller call) ∷ items) none all = absurd all.0
stand lanes (Bytes lane bytes ∷ items) none all = absurd all.0

asking_stands : IsStanding asking
unfolding base_128
asking_stands = record { of_controller = lit< tt; size = lit≤ tt }

commit_size : length (commit_bytes router_info router_json) ≡ 4291
unfolding base_128 commit_bytes router_info router_json
commit_size = refl

standing : (n : ℕ) → AllByRecursion IsStanding (generated n)
standing n =
    everywhere IsStanding asking_stands (record { of_controller = lit< tt; size = below (length (commit_bytes router_info router_json)) 4291 8388608 commit_size (lit≤ tt) })
    (λ i. record { of_controller = lit< tt; size = below (length (insert_bytes (i / 256) (i % 256) (1 + i % 8))) 61 8388608 (message_size (i / 256) (i % 256) (1 + i % 8)) (lit≤ tt) })
    (λ m j. record { of_worker = lit< tt; in_ports = lit≤ tt; size = below (length (frame_to (target m j / 256) (target m j % 256))) 34 9216 (frame_size (target m j / 256) (target m j % 256)) (lit≤ tt) }) n

-- ---- the limits

counted : {A : Type 0} (a b : A) (xs ys : List A) (k m : ℕ) → length xs ≡ k → length ys ≡ m → length (a ∷ b ∷ (xs ++ ys)) ≡ 2 + (k + m)
counted a b xs ys k m is also = omega (arith, length-append xs ys)

items_count : (n : ℕ) → length (generated n) ≡ 2 + (100 * n + 400 * n)
unfolding generated
items_count n =
    counted asking committing (map inserting (count_up 0 (100 * n))) (map (sending n) (count_up 0 (400 * n))) (100 * n) (400 * n) (length-map (count_up 0 (100 * n)) inserting ∙ count_length 0 (100 * n))
    (length-map (count_up 0 (400 * n)) (sending n) ∙ count_length 0 (400 * n))

weighed : (k xs ys n : ℕ) → k ≤ 100 * (xs + ys) → xs ≡ 100 * n → ys ≡ 400 * n → k ≤ 50000 * n
weighed k xs ys n le is also = omega arith

light_both : (xs ys : List TapeItem) → AllByRecursion (λ item. size_of item ≤ 100) (xs ++ ys) → length (flat_map item_bytes (xs ++ ys)) ≤ 100 * (length xs + length ys)
light_both xs ys all = omega (arith, light (xs ++ ys) all, length-append xs ys)

others_size : (n : ℕ) → length (flat_map item_bytes (map inserting (count_up 0 (100 * n)) ++ map (sending n) (count_up 0 (400 * n)))) ≤ 50000 * n
others_size n =
    let routes = map inserting (count_up 0 (100 * n)) in
    let packets = map (sending n) (count_up 0 (400 * n)) in
    let all =
    all_behind (λ item. size_of item ≤ 100) routes packets (all_made (λ item. size_of item ≤ 100) inserting 0 (100 * n) (λ i. below (size_of (inserting i)) 69 100 (inserting_size i) (lit≤ tt)))
    (all_made (λ item. size_of item ≤ 100) (sending n) 0 (400 * n) (λ j. below (size_of (sending n j)) 43 100 (sending_size n j) (lit≤ tt))) in
    weighed (length (flat_map item_bytes (routes ++ packets))) (length routes) (length packets) n (light_both routes packets all) (length-map (count_up 0 (100 * n)) inserting ∙ count_length 0 (100 * n))
    (length-map (count_up 0 (400 * n)) (sending n) ∙ count_length 0 (400 * n))

sized : (front a b others end : List ℕ) → length (front ++ ((a ++ (b ++ others)) ++ end)) ≡ length front + (length a + (length b + length others)) + length end
sized front a b others end =
    omega (arith, length-append front ((a ++ (b ++ others)) ++ end), length-append (a ++ (b ++ others)) end, length-append a (b ++ others), length-append b others)

fits : (k o n : ℕ) → k ≡ 8 + (16 + (4299 + o)) + 7 → o ≤ 50000 * n → k ≤ 5000 + 50000 * n
fits k o n is le = omega arith

bytes_size : (n : ℕ) → length (bytes_of (generated n)) ≤ 5000 + 50000 * n
unfolding generated
bytes_size n =
    let others = flat_map item_bytes (map inserting (count_up 0 (100 * n)) ++ map (sending n) (count_up 0 (400 * n))) in
    let size : length (bytes_of (generated n)) ≡ 8 + (16 + (4299 + length others)) + 7 =
    sized magic (item_bytes asking) (item_bytes committing) others end_bytes
    ∙ ap (λ (k : ℕ). 8 + (k + (size_of committing + length others)) + 7) asking_size
    ∙ ap (λ (k : ℕ). 8 + (16 + (k + length others)) + 7) committing_size in
    fits (length (bytes_of (generated n))) (length others) n size (others_size n)

pub within : (n : ℕ) → n ≤ 64 → InLimits (generated n)
within n high = record { each = stand no_item_lanes (generated n) (λ lane. refl) (standing n); count = omega (arith, items_count n); size = omega (arith, bytes_size n) }
