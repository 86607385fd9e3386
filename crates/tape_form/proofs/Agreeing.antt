-- What is read of a tape depends of the lanes alone on what is known of the controllers', and of their calls on as many as 32 bits count.
use Rattle.std.proofs.Common.{◌≡◌, ℕ, zero, suc, ◌+◌, ◌<◌, min, Bool, true, false, not, cond, ltb, leb, eqb, ◌||◌, ◌&&◌, ◌==◌, if◌then◌else◌, List, [], ◌∷◌, length, Option, Some, None, Result, Ok, Err, refl, sym, ap, ap₂, ◌∙◌, arith}
use Rattle.std.proofs.lemmas.Bool.{ltb-true, le-leb}
use Rattle.p4_types.specs.declared.tape.TapeRecord.{TapeRecord}
use Rattle.p4_types.specs.declared.tape.TapeRecord.TheVariants.{Call, Packet, Leave, Meet}
use Rattle.list_types.specs.Results.{◌>>=◌}
use Rattle.run_spec.specs.Tape.{Lanes}
use Rattle.run_spec.specs.TapeReading.{number_at, has_called, some_called, called_at, last_call, meet_at, packet_at, end_at}
use Rattle.tape_spec.specs.Reading.{Flaw, TooMany, or_bad, begins_counted, is_lane, some_lane, low_at, lane_at, call_at, piece_at, leave_at, as_item, as_some, item_at, nothing_after, with_first, items_at}
use Rattle.run_spec.proofs.Readers.{gives}
use Rattle.run_spec.proofs.TapeItems.{caller, called_found, meet_call, meet_controller, meet_high, meet_size, meet_is}
use Rattle.tape_spec.specs.declared.item.TapeItem.{TapeItem}
use Rattle.tape_spec.specs.declared.item.TapeItem.TheVariants.{Record, Bytes}
use Rattle.tape_spec.specs.Items.{ItemLanes, lanes_behind, takes_call, takes_bytes, takes_leave}
use Rattle.tape_spec.proofs.ItemReaders.{call_size, call_is, piece_size, piece_is, leave_size, leave_is}
use Rattle.tape_spec.proofs.LaneReaders.{lane_is}
use Rattle.tape_form.specs.declared.lanes.Taking.{Taking}
use Rattle.tape_form.specs.declared.lanes.Taking.TheVariants as takings
use Rattle.tape_form.specs.Calls.{these, AreAlike}

-- steps that are the same at each value that is read
bind_same : {A B E : Type 0} (r : Result A E) (f g : A → Result B E) → ((x : A) → r ≡ Ok x → f x ≡ g x) → (r >>= f) ≡ (r >>= g)
bind_same (Ok x) f g same = same x refl
bind_same (Err e) f g same = refl

-- ---- lanes that take something

-- the same controllers' lanes
abbrev AreSame : (ℕ → Bool) → (ℕ → Bool) → Type 0
AreSame p q = (lane : ℕ) → lane < 32 → p lane ≡ q lane

these_same : (taking : Taking) (a b : ItemLanes) → AreAlike a b → AreSame (these taking a) (these taking b)
these_same takings.Call a b alike lane lt = ap not (alike lane lt).brings
these_same takings.Bytes a b alike lane lt = ap₂ (λ (x y : Bool). not x && not y) (alike lane lt).asks (alike lane lt).has_left
these_same takings.Leave a b alike lane lt = ap₂ (λ (x y : Bool). not (x && y)) (alike lane lt).brings (alike lane lt).has_left

is_by : (p q : ℕ → Bool) → AreSame p q → (lane : ℕ) (t : Bool) → ltb lane 32 ≡ t → (t && p lane) ≡ (t && q lane)
is_by p q same lane true e = same lane (ltb-true lane 32 e)
is_by p q same lane false e = refl

is_same : (p q : ℕ → Bool) → AreSame p q → (lane : ℕ) → is_lane p lane ≡ is_lane q lane
is_same p q same lane = is_by p q same lane (ltb lane 32) refl

some_lane_same : (n : ℕ) (p q : ℕ → Bool) → AreSame p q → some_lane n p ≡ some_lane n q
some_lane_same zero p q same = refl
some_lane_same (suc n) p q same = ap₂ (λ (x y : Bool). x || y) (is_same p q same n) (some_lane_same n p q same)

abbrev pair_of : ℕ → List ℕ → ℕ × List ℕ
pair_of n rest = (n, rest)

low_same : (p q : ℕ → Bool) → AreSame p q → (bytes : List ℕ) → low_at p bytes ≡ low_at q bytes
unfolding low_at
low_same p q same [] = refl
low_same p q same (c ∷ rest) = ap (λ (t : Bool). cond t (Ok (pair_of c rest)) (Err (suc (length rest)))) (is_same p q same c)

lane_same : (p q : ℕ → Bool) → AreSame p q → (bytes : List ℕ) → lane_at p bytes ≡ lane_at q bytes
lane_same p q same bytes =
    lane_is p bytes ∙ bind_same (number_at 1 0 0 bytes) (λ x. low_at p x.1) (λ x. low_at q x.1) (λ x e. low_same p q same x.1) ∙ sym (lane_is q bytes)

call_same : (a b : ItemLanes) → AreAlike a b → (bytes : List ℕ) → call_at a bytes ≡ call_at b bytes
call_same a b alike bytes =
    call_is a bytes ∙ ap (λ (r : Result (ℕ × List ℕ) ℕ). r >>= λ x. call_size x.0 x.1) (lane_same (takes_call a) (takes_call b) (these_same takings.Call a b alike) bytes) ∙ sym (call_is b bytes)

piece_same : (a b : ItemLanes) → AreAlike a b → (bytes : List ℕ) → piece_at a bytes ≡ piece_at b bytes
piece_same a b alike bytes =
    piece_is a bytes ∙ ap (λ (r : Result (ℕ × List ℕ) ℕ). r >>= λ x. piece_size x.0 x.1) (lane_same (takes_bytes a) (takes_bytes b) (these_same takings.Bytes a b alike) bytes) ∙ sym (piece_is b bytes)

leave_same : (a b : ItemLanes) → AreAlike a b → (bytes : List ℕ) → leave_at a bytes ≡ leave_at b bytes
leave_same a b alike bytes =
    leave_is a bytes ∙ ap (λ (r : Result (ℕ × List ℕ) ℕ). r >>= λ x. leave_size x.0 x.1) (lane_same (takes_leave a) (takes_leave b) (these_same takings.Leave a b alike) bytes) ∙ sym (leave_is b bytes)

-- ---- lanes that have made a call

-- as many calls of each controller's lane, of those in 32 bits
abbrev AgreeOnCalls : Lanes → Lanes → Type 0
AgreeOnCalls a b = (lane : ℕ) → lane < 32 → last_call a lane ≡ last_call b lane

one_called : (x y : ℕ) → min x 4294967295 ≡ min y 4294967295 → leb 1 x ≡ leb 1 y
one_called zero zero e = refl
one_called zero (suc y) e = absurd (omega (arith, e))
one_called (suc x) zero e = absurd (omega (arith, e))
one_called (suc x) (suc y) e = le-leb 1 (suc x) (omega arith) ∙ sym (le-leb 1 (suc y) (omega arith))

has_by : (a b : Lanes) → AgreeOnCalls a b → (lane : ℕ) (t : Bool) → ltb lane 32 ≡ t → (t && leb 1 (a.calls lane)) ≡ (t && leb 1 (b.calls lane))
has_by a b agree lane true e = one_called (a.calls lane) (b.calls lane) (agree lane (ltb-true lane 32 e))
has_by a b agree lane false e = refl

has_same : (a b : Lanes) → AgreeOnCalls a b → (lane : ℕ) → has_called a lane ≡ has_called b lane
has_same a b agree lane = has_by a b agree lane (ltb lane 32) refl

some_same : (n : ℕ) (a b : Lanes) → AgreeOnCalls a b → some_called n a ≡ some_called n b
some_same zero a b agree = refl
some_same (suc n) a b agree = ap₂ (λ (x y : Bool). x || y) (has_same a b agree n) (some_same n a b agree)

called_same : (a b : Lanes) → AgreeOnCalls a b → (bytes : List ℕ) → called_at a bytes ≡ called_at b bytes
unfolding called_at
called_same a b agree [] = refl
called_same a b agree (c ∷ rest) = ap (λ (t : Bool). cond t (Ok (pair_of c rest)) (Err (suc (length rest)))) (has_same a b agree c)

number_same : (a b : Lanes) → AgreeOnCalls a b → (lane controller : ℕ) → controller < 32 → (bytes : List ℕ) → meet_call a lane controller bytes ≡ meet_call b lane controller bytes
number_same a b agree lane controller lt bytes = ap (λ (n : ℕ). number_at 4 1 n bytes >>= λ x. gives (Meet lane controller x.0) x.1) (agree controller lt)

controller_same : (a b : Lanes) → AgreeOnCalls a b → (lane : ℕ) (bytes : List ℕ) → meet_controller a lane bytes ≡ meet_controller b lane bytes
controller_same a b agree lane bytes =
    ap (λ (r : Result (ℕ × List ℕ) ℕ). r >>= λ x. meet_call a lane x.0 x.1) (called_same a b agree bytes)
    ∙ bind_same (called_at b bytes) (λ x. meet_call a lane x.0 x.1) (λ x. meet_call b lane x.0 x.1)
    (λ x e. number_same a b agree lane x.0 (caller b x.0 (called_found b bytes x.0 x.1 e).1).of_controller x.1)

meet_same : (a b : Lanes) → AgreeOnCalls a b → (bytes : List ℕ) → meet_at a bytes ≡ meet_at b bytes
meet_same a b agree bytes =
    meet_is a bytes
    ∙ bind_same (number_at 2 0 15 bytes) (λ x. meet_size a x.0 x.1) (λ x. meet_size b x.0 x.1) (λ x e.
    bind_same (number_at 4 6 6 x.1) (λ y. meet_high a x.0 y.1) (λ y. meet_high b x.0 y.1) (λ y f.
    bind_same (number_at 1 0 0 y.1) (λ z. meet_controller a x.0 z.1) (λ z. meet_controller b x.0 z.1) (λ z g. controller_same a b agree x.0 z.1)))
    ∙ sym (meet_is b bytes)

-- ---- items

-- what is read by the kinds that ask for lanes
record ByKind : Type 0 where
  calls : Bool
  pieces : Bool
  leaves : Bool
  meets : Bool
  call : Result (TapeItem × List ℕ) ℕ
  piece : Result (TapeItem × List ℕ) ℕ
  leave : Result (TapeItem × List ℕ) ℕ
  meet : Result (TapeRecord × List ℕ) ℕ

abbrev by_kind : ItemLanes → List ℕ → ByKind
by_kind lanes bytes = record {
  calls = some_lane 32 (takes_call lanes);
  pieces = some_lane 32 (takes_bytes lanes);
  leaves = some_lane 32 (takes_leave lanes);
  meets = some_called 32 lanes.lanes;
  call = call_at lanes bytes;
  piece = piece_at lanes bytes;
  leave = leave_at lanes bytes;
  meet = meet_at lanes.lanes bytes;
}

abbrev item_by : ℕ → List ℕ → ByKind → Result (Option TapeItem × List ℕ) ℕ
item_by kind bytes it =
    if kind == 0 then (end_at bytes >>= λ rest. Ok (None, rest))
    else if kind == 1 && it.calls then as_some it.call
    else if kind == 2 then as_item (packet_at bytes)
    else if kind == 3 && it.pieces then as_some it.piece
    else if kind == 4 && it.leaves then as_some it.leave
    else if kind == 5 && it.meets then as_item it.meet
    else Err (length (kind ∷ bytes))

kind_same : (a b : ItemLanes) → AreAlike a b → (bytes : List ℕ) → by_kind a bytes ≡ by_kind b bytes
kind_same a b alike bytes = rw (
  some_lane_same 32 (takes_call a) (takes_call b) (these_same takings.Call a b alike),
  some_lane_same 32 (takes_bytes a) (takes_bytes b) (these_same takings.Bytes a b alike),
  some_lane_same 32 (takes_leave a) (takes_leave b) (these_same takings.Leave a b alike),
  some_same 32 a.lanes b.lanes (λ lane lt. (alike lane lt).calls),
  call_same a b alike bytes,
  piece_same a b alike bytes,
  leave_same a b alike bytes,
  meet_same a.lanes b.lanes (λ lane lt. (alike lane lt).calls) bytes,
) refl

item_same : (a b : ItemLanes) → AreAlike a b → (bytes : List ℕ) → item_at a bytes ≡ item_at b bytes
unfolding item_at
item_same a b alike [] = refl
item_same a b alike (kind ∷ bytes) = ap (item_by kind bytes) (kind_same a b alike bytes)

more_same : (t : Bool) (x y : ℕ) → min x 4294967295 ≡ min y 4294967295 → min (cond t (x + 1) x) 4294967295 ≡ min (cond t (y + 1) y) 4294967295
more_same true x y e = omega (arith, e)
more_same false x y e = e

-- lanes that are alike are so behind an item
alike_after : (a b : ItemLanes) (first : TapeItem) → AreAlike a b → AreAlike (lanes_behind a first) (lanes_behind b first)
alike_after a b (Record (Call lane method message)) alike = λ other lt. record {
  calls = more_same (eqb other lane) (a.lanes.calls other) (b.lanes.calls other) (alike other lt).calls;
  has_left = (alike other lt).has_left;
  asks = ap (λ (t : Bool). cond (eqb other lane) true t) (alike other lt).asks;
  brings = (alike other lt).brings;
}
alike_after a b (Record (Packet lane port packet)) alike = alike
alike_after a b (Record (Leave lane)) alike = λ other lt. record {
  calls = more_same (eqb other lane) (a.lanes.calls other) (b.lanes.calls other) (alike other lt).calls;
  has_left = ap (λ (t : Bool). cond (eqb other lane) true t) (alike other lt).has_left;
  asks = (alike other lt).asks;
  brings = (alike other lt).brings;
}
alike_after a b (Record (Meet lane controller call)) alike = alike
alike_after a b (Bytes lane bytes) alike = λ other lt. record {
  calls = (alike other lt).calls;
  has_left = (alike other lt).has_left;
  asks = (alike other lt).asks;
  brings = ap (λ (t : Bool). cond (eqb other lane) true t) (alike other lt).brings;
}

-- what is read behind an item
abbrev behind : ℕ → ItemLanes → Option TapeItem × List ℕ → Result (List TapeItem) Flaw
behind k lanes x = elim x.0 [ None ↦ nothing_after x.1 | Some first ↦ with_first first (items_at k (lanes_behind lanes first) x.1) ]

behind_same : (k : ℕ) (a b : ItemLanes) → AreAlike a b → (item : Option TapeItem) (rest : List ℕ) → ((c d : ItemLanes) → AreAlike c d → items_at k c rest ≡ items_at k d rest) → behind k a (item, rest) ≡ behind k b (item, rest)
behind_same k a b alike None rest below = refl
behind_same k a b alike (Some first) rest below = ap (with_first first) (below (lanes_behind a first) (lanes_behind b first) (alike_after a b first alike))

pub items_same : (k : ℕ) (a b : ItemLanes) → AreAlike a b → (bytes : List ℕ) → items_at k a bytes ≡ items_at k b bytes
unfolding items_at
items_same zero a b alike bytes =
    ap (λ (r : Result (Option TapeItem × List ℕ) ℕ). cond (begins_counted bytes) (Err (TooMany (length bytes))) (or_bad r) >>= λ x. nothing_after x.1) (item_same a b alike bytes)
items_same (suc k) a b alike bytes =
    ap (λ (r : Result (Option TapeItem × List ℕ) ℕ). or_bad r >>= behind k a) (item_same a b alike bytes)
    ∙ bind_same (or_bad (item_at b bytes)) (behind k a) (behind k b) (λ x e. behind_same k a b alike x.0 x.1 (λ c d same. items_same k c d same x.1))
