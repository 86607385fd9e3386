-- Items of a tape: what is read is spelled so, what is spelled so is read, and the place of a flaw is exact.
use Rattle.std.proofs.Common.{◌≡◌, ℕ, zero, suc, ◌-◌, ◌<◌, ◌≤◌, Bool, true, false, cond, eqb, List, [], ◌∷◌, ◌++◌, length, get_or, Option, Some, None, option_map, Result, Ok, Err, refl, sym, ap, ap₂, subst, ◌∙◌, ◌⊎◌, arith, inl, inr}
use Rattle.std.specs.Int.{w16, w32, to_be_bytes}
use Rattle.std.proofs.lemmas.Bool.{ne_eqb}
use Rattle.std.proofs.lemmas.Nat.{be_bytes_2, be_bytes_4}
use Rattle.p4_types.specs.declared.tape.TapeRecord.{TapeRecord}
use Rattle.p4_types.specs.declared.tape.TapeRecord.TheVariants.{Call, Packet, Leave, Meet}
use Rattle.list_types.specs.Results.{◌>>=◌}
use Rattle.p4_types.specs.declared.calls.Method.{Method}
use Rattle.p4_types.specs.declared.calls.Method.TheVariants as method_variants
use Rattle.run_spec.specs.Tape.{method_number, record_bytes, IsCall, IsLeave, end_bytes}
use Rattle.run_spec.specs.TapeReading.{method_of, number_at, bytes_at, packet_at, some_called, meet_at, end_at}
use Rattle.run_spec.specs.TapeReading.{item_at as record_at}
use Rattle.run_spec.proofs.Readers.{bind_ok, ok_is, Read, IsFlawed, IsReader, then, then_reader, gives, gives_reader, same_reader, digits_of, IsRange, number_found, number_again, number_reader, bytes_found, bytes_again, bytes_reader, failed, clash_err, err_is}
use Rattle.run_spec.proofs.TapeItems.{item_bytes as record_item_bytes, IsItem as IsRecordItem, item_found as record_found, item_again as record_again, item_flawed as record_flawed}
use Rattle.tape_spec.specs.declared.item.TapeItem.{TapeItem}
use Rattle.tape_spec.specs.declared.item.TapeItem.TheVariants.{Record, Bytes}
use Rattle.tape_spec.specs.Items.{ItemLanes, item_bytes, IsPiece, takes_call, takes_bytes, takes_leave, IsTaken, MayFollow}
use Rattle.tape_spec.specs.Reading.{some_lane, lane_at, call_at, piece_at, leave_at, as_item, item_at}
use Rattle.tape_spec.proofs.LaneReaders.{one_of, among, lane_reader, lane_again, lane_found}

-- ---- digits as bytes of a width

digits_2_fit : (n : ℕ) → n < 65536 → (i : ℕ) → get_or (digits_of 2 n) i 0 < 256
digits_2_fit n lt zero = omega arith
digits_2_fit n lt (suc zero) = omega arith
digits_2_fit n lt (suc (suc i)) = omega arith

digits_4_fit : (n : ℕ) → n < 4294967296 → (i : ℕ) → get_or (digits_of 4 n) i 0 < 256
digits_4_fit n lt zero = omega arith
digits_4_fit n lt (suc zero) = omega arith
digits_4_fit n lt (suc (suc zero)) = omega arith
digits_4_fit n lt (suc (suc (suc zero))) = omega arith
digits_4_fit n lt (suc (suc (suc (suc i)))) = omega arith

digits_2 : (n : ℕ) → n < 65536 → to_be_bytes w16 n ≡ digits_of 2 n
digits_2 n lt = be_bytes_2 (digits_of 2 n) n refl (digits_2_fit n lt) (omega arith)

digits_4 : (n : ℕ) → n < 4294967296 → to_be_bytes w32 n ≡ digits_of 4 n
digits_4 n lt = be_bytes_4 (digits_of 4 n) n refl (digits_4_fit n lt) (omega arith)

digits_1 : (n : ℕ) → n ∷ [] ≡ digits_of 1 n
digits_1 n = ap (λ (m : ℕ). m ∷ []) (omega arith)

-- the bytes, with the kind in front, are the item and the rest
abbrev IsSpelled : ItemLanes → ℕ → List ℕ → TapeItem × List ℕ → Type 0
IsSpelled lanes kind bytes x = (kind ∷ bytes ≡ item_bytes x.0 ++ x.1) × MayFollow lanes x.0

-- ---- calls

call_sizes : IsRange 4 1 8388609
call_sizes = record { order = omega arith; fits = omega arith }

methods : IsRange 1 1 6
methods = record { order = omega arith; fits = omega arith }

-- each method has its number, 1 to 6, and each of these numbers its method
method_again : (method : Method) → method_of (method_number method) ≡ method
method_again method_variants.Write = refl
method_again method_variants.Read = refl
method_again method_variants.SetForwardingPipelineConfig = refl
method_again method_variants.GetForwardingPipelineConfig = refl
method_again method_variants.StreamChannel = refl
method_again method_variants.Capabilities = refl

method_low : (method : Method) → 1 ≤ method_number method
method_low method_variants.Write = omega arith
method_low method_variants.Read = omega arith
method_low method_variants.SetForwardingPipelineConfig = omega arith
method_low method_variants.GetForwardingPipelineConfig = omega arith
method_low method_variants.StreamChannel = omega arith
method_low method_variants.Capabilities = omega arith

method_high : (method : Method) → method_number method ≤ 6
method_high method_variants.Write = omega arith
method_high method_variants.Read = omega arith
method_high method_variants.SetForwardingPipelineConfig = omega arith
method_high method_variants.GetForwardingPipelineConfig = omega arith
method_high method_variants.StreamChannel = omega arith
method_high method_variants.Capabilities = omega arith

number_again_of : (n : ℕ) → 1 ≤ n → n ≤ 6 → method_number (method_of n) ≡ n
number_again_of zero low high = absurd (omega arith)
number_again_of (suc zero) low high = refl
number_again_of (suc (suc zero)) low high = refl
number_again_of (suc (suc (suc zero))) low high = refl
number_again_of (suc (suc (suc (suc zero)))) low high = refl
number_again_of (suc (suc (suc (suc (suc zero))))) low high = refl
number_again_of (suc (suc (suc (suc (suc (suc zero)))))) low high = refl
number_again_of (suc (suc (suc (suc (suc (suc (suc n))))))) low high = absurd (omega arith)

abbrev pub call_item : ℕ → ℕ → List ℕ → TapeItem
call_item lane method message = Record (Call lane (method_of method) message)

abbrev pub call_message : ℕ → ℕ → ℕ → Read TapeItem
call_message lane size method = then (bytes_at (size - 1)) (λ message. gives (call_item lane method message))

abbrev pub call_method : ℕ → ℕ → Read TapeItem
call_method lane size = then (number_at 1 1 6) (λ method. call_message lane size method)

abbrev pub call_size : ℕ → Read TapeItem
call_size lane = then (number_at 4 1 8388609) (λ size. call_method lane size)

abbrev pub call_read : ItemLanes → Read TapeItem
call_read lanes = then (lane_at (takes_call lanes)) (λ lane. call_size lane)

pub call_is : (lanes : ItemLanes) (bytes : List ℕ) → call_at lanes bytes ≡ call_read lanes bytes
unfolding call_at
call_is lanes bytes = refl

call_reader : (lanes : ItemLanes) → some_lane 32 (takes_call lanes) ≡ true → IsReader (call_at lanes)
call_reader lanes some =
    let known = one_of (takes_call lanes) some in
    same_reader (call_read lanes) (call_at lanes) (call_is lanes)
    (then_reader (lane_at (takes_call lanes)) (λ lane. call_size lane) (lane_reader (takes_call lanes) known.0 known.1) (λ lane.
    then_reader (number_at 4 1 8388609) (λ size. call_method lane size) (number_reader 4 1 8388609 call_sizes) (λ size.
    then_reader (number_at 1 1 6) (λ method. call_message lane size method) (number_reader 1 1 6 methods) (λ method.
    then_reader (bytes_at (size - 1)) (λ message. gives (call_item lane method message)) (bytes_reader (size - 1)) (λ message. gives_reader (call_item lane method message))))))

-- what stands behind the kind of a call, by digits
abbrev call_body : ℕ → ℕ → ℕ → List ℕ → List ℕ → List ℕ
call_body lane size method message rest = digits_of 2 lane ++ (digits_of 4 size ++ (digits_of 1 method ++ (message ++ rest)))

call_body_is : (lane : ℕ) (method : Method) (message rest : List ℕ) → IsCall lane message → record_bytes (Call lane method message) ++ rest ≡ 1 ∷ call_body lane (suc (length message)) (method_number method) message rest
call_body_is lane method message rest c =
    ap₂ (λ (a b : List ℕ). (1 ∷ a ++ b ++ (method_number method ∷ message)) ++ rest) (digits_2 lane (omega (arith, c.of_controller))) (digits_4 (suc (length message)) (omega (arith, c.size)))
    ∙ ap (λ (a : List ℕ). 1 ∷ (digits_of 2 lane ++ (digits_of 4 (suc (length message)) ++ (a ++ (message ++ rest))))) (digits_1 (method_number method))

call_again : (lanes : ItemLanes) (lane : ℕ) (method : Method) (message rest : List ℕ) → IsCall lane message → takes_call lanes lane ≡ true
    → call_at lanes (call_body lane (suc (length message)) (method_number method) message rest) ≡ Ok (Record (Call lane method message), rest)
call_again lanes lane method message rest c takes =
    let size = suc (length message) in
    let b3 = message ++ rest in
    let b2 = digits_of 1 (method_number method) ++ b3 in
    let b1 = digits_of 4 size ++ b2 in
    let e0 = lane_again (takes_call lanes) lane b1 (record { of_controller = c.of_controller; taken = takes }) in
    let e1 = number_again 4 1 8388609 size b2 call_sizes (omega arith) (omega (arith, c.size)) in
    let e2 = number_again 1 1 6 (method_number method) b3 methods (method_low method) (method_high method) in
    let e3 = bytes_again (size - 1) message rest (omega arith) in
    call_is lanes (digits_of 2 lane ++ b1)
    ∙ ap (λ (r : Result (ℕ × List ℕ) ℕ). r >>= λ x. call_size x.0 x.1) e0
    ∙ ap (λ (r : Result (ℕ × List ℕ) ℕ). r >>= λ x. call_method lane x.0 x.1) e1
    ∙ ap (λ (r : Result (ℕ × List ℕ) ℕ). r >>= λ x. call_message lane size x.0 x.1) e2
    ∙ ap (λ (r : Result (List ℕ × List ℕ) ℕ). r >>= λ x. gives (call_item lane (method_number method) x.0) x.1) e3
    ∙ ap (λ (m : Method). Ok (Record (Call lane m message), rest)) (method_again method)

call_found : (lanes : ItemLanes) (bytes : List ℕ) (x : TapeItem × List ℕ) → call_at lanes bytes ≡ Ok x → IsSpelled lanes 1 bytes x
call_found lanes bytes x e =
    let a = bind_ok (lane_at (takes_call lanes) bytes) (λ y. call_size y.0 y.1) x (sym (call_is lanes bytes) ∙ e) in
    let lane = a.0.0 in
    let b = bind_ok (number_at 4 1 8388609 a.0.1) (λ y. call_method lane y.0 y.1) x a.2 in
    let c = bind_ok (number_at 1 1 6 b.0.1) (λ y. call_message lane b.0.0 y.0 y.1) x b.2 in
    let d = bind_ok (bytes_at (b.0.0 - 1) c.0.1) (λ y. gives (call_item lane c.0.0 y.0) y.1) x c.2 in
    let f0 = lane_found (takes_call lanes) bytes lane a.0.1 a.1 in
    let f1 = number_found 4 1 8388609 a.0.1 b.0.0 b.0.1 call_sizes b.1 in
    let f2 = number_found 1 1 6 b.0.1 c.0.0 c.0.1 methods c.1 in
    let f3 = bytes_found (b.0.0 - 1) c.0.1 d.0.0 d.0.1 d.1 in
    let method = method_of c.0.0 in
    let named : c.0.0 ≡ method_number method = sym (number_again_of c.0.0 f2.1 f2.2) in
    let made : IsCall lane d.0.0 = record { of_controller = f0.1.of_controller; size = omega (arith, f3.1, f1.2) } in
    let sized : b.0.0 ≡ suc (length d.0.0) = omega (arith, f3.1, f1.1) in
    let joined : bytes ≡ call_body lane b.0.0 c.0.0 d.0.0 d.0.1 =
    f0.0 ∙ ap (λ (w : List ℕ). digits_of 2 lane ++ w) (f1.0 ∙ ap (λ (w : List ℕ). digits_of 4 b.0.0 ++ w) (f2.0 ∙ ap (λ (w : List ℕ). digits_of 1 c.0.0 ++ w) f3.0)) in
    let spelled : 1 ∷ bytes ≡ item_bytes (Record (Call lane method d.0.0)) ++ d.0.1 =
    ap (λ (w : List ℕ). 1 ∷ w) joined ∙ ap (λ (n : ℕ). 1 ∷ call_body lane n c.0.0 d.0.0 d.0.1) sized ∙ ap (λ (n : ℕ). 1 ∷ call_body lane (suc (length d.0.0)) n d.0.0 d.0.1) named ∙ sym (call_body_is lane method d.0.0 d.0.1 made) in
    subst (λ (y : TapeItem × List ℕ). IsSpelled lanes 1 bytes y) (ok_is {E = ℕ} (Record (Call lane method d.0.0), d.0.1) x d.2) (spelled, (made, tt, f0.1.taken))

-- ---- bytes of a client

piece_sizes : IsRange 4 1 65536
piece_sizes = record { order = omega arith; fits = omega arith }

abbrev pub piece_bytes : ℕ → ℕ → Read TapeItem
piece_bytes lane size = then (bytes_at size) (λ piece. gives (Bytes lane piece))

abbrev pub piece_size : ℕ → Read TapeItem
piece_size lane = then (number_at 4 1 65536) (λ size. piece_bytes lane size)

abbrev pub piece_read : ItemLanes → Read TapeItem
piece_read lanes = then (lane_at (takes_bytes lanes)) (λ lane. piece_size lane)

pub piece_is : (lanes : ItemLanes) (bytes : List ℕ) → piece_at lanes bytes ≡ piece_read lanes bytes
unfolding piece_at
piece_is lanes bytes = refl

piece_reader : (lanes : ItemLanes) → some_lane 32 (takes_bytes lanes) ≡ true → IsReader (piece_at lanes)
piece_reader lanes some =
    let known = one_of (takes_bytes lanes) some in
    same_reader (piece_read lanes) (piece_at lanes) (piece_is lanes)
    (then_reader (lane_at (takes_bytes lanes)) (λ lane. piece_size lane) (lane_reader (takes_bytes lanes) known.0 known.1) (λ lane.
    then_reader (number_at 4 1 65536) (λ size. piece_bytes lane size) (number_reader 4 1 65536 piece_sizes) (λ size.
    then_reader (bytes_at size) (λ piece. gives (Bytes lane piece)) (bytes_reader size) (λ piece. gives_reader (Bytes lane piece)))))

-- what stands behind the kind of a client's bytes, by digits
abbrev piece_body : ℕ → ℕ → List ℕ → List ℕ → List ℕ
piece_body lane size piece rest = digits_of 2 lane ++ (digits_of 4 size ++ (piece ++ rest))

piece_body_is : (lane : ℕ) (piece rest : List ℕ) → IsPiece lane piece → item_bytes (Bytes lane piece) ++ rest ≡ 3 ∷ piece_body lane (length piece) piece rest
piece_body_is lane piece rest c =
    ap₂ (λ (a b : List ℕ). (3 ∷ a ++ b ++ piece) ++ rest) (digits_2 lane (omega (arith, c.of_controller))) (digits_4 (length piece) (omega (arith, c.size)))

piece_again : (lanes : ItemLanes) (lane : ℕ) (piece rest : List ℕ) → IsPiece lane piece → takes_bytes lanes lane ≡ true → piece_at lanes (piece_body lane (length piece) piece rest) ≡ Ok (Bytes lane piece, rest)
piece_again lanes lane piece rest c takes =
    let size = length piece in
    let b2 = piece ++ rest in
    let b1 = digits_of 4 size ++ b2 in
    let e0 = lane_again (takes_bytes lanes) lane b1 (record { of_controller = c.of_controller; taken = takes }) in
    let e1 = number_again 4 1 65536 size b2 piece_sizes c.some c.size in
    let e2 = bytes_again size piece rest refl in
    piece_is lanes (digits_of 2 lane ++ b1)
    ∙ ap (λ (r : Result (ℕ × List ℕ) ℕ). r >>= λ x. piece_size x.0 x.1) e0
    ∙ ap (λ (r : Result (ℕ × List ℕ) ℕ). r >>= λ x. piece_bytes lane x.0 x.1) e1
    ∙ ap (λ (r : Result (List ℕ × List ℕ) ℕ). r >>= λ x. gives (Bytes lane x.0) x.1) e2

piece_found : (lanes : ItemLanes) (bytes : List ℕ) (x : TapeItem × List ℕ) → piece_at lanes bytes ≡ Ok x → IsSpelled lanes 3 bytes x
piece_found lanes bytes x e =
    let a = bind_ok (lane_at (takes_bytes lanes) bytes) (λ y. piece_size y.0 y.1) x (sym (piece_is lanes bytes) ∙ e) in
    let lane = a.0.0 in
    let b = bind_ok (number_at 4 1 65536 a.0.1) (λ y. piece_bytes lane y.0 y.1) x a.2 in
    let c = bind_ok (bytes_at b.0.0 b.0.1) (λ y. gives (Bytes lane y.0) y.1) x b.2 in
    let f0 = lane_found (takes_bytes lanes) bytes lane a.0.1 a.1 in
    let f1 = number_found 4 1 65536 a.0.1 b.0.0 b.0.1 piece_sizes b.1 in
    let f2 = bytes_found b.0.0 b.0.1 c.0.0 c.0.1 c.1 in
    let made : IsPiece lane c.0.0 = record { of_controller = f0.1.of_controller; some = omega (arith, f2.1, f1.1); size = omega (arith, f2.1, f1.2) } in
    let sized : b.0.0 ≡ length c.0.0 = sym f2.1 in
    let joined : bytes ≡ piece_body lane b.0.0 c.0.0 c.0.1 =
    f0.0 ∙ ap (λ (w : List ℕ). digits_of 2 lane ++ w) (f1.0 ∙ ap (λ (w : List ℕ). digits_of 4 b.0.0 ++ w) f2.0) in
    let spelled : 3 ∷ bytes ≡ item_bytes (Bytes lane c.0.0) ++ c.0.1 =
    ap (λ (w : List ℕ). 3 ∷ w) joined ∙ ap (λ (n : ℕ). 3 ∷ piece_body lane n c.0.0 c.0.1) sized ∙ sym (piece_body_is lane c.0.0 c.0.1 made) in
    subst (λ (y : TapeItem × List ℕ). IsSpelled lanes 3 bytes y) (ok_is {E = ℕ} (Bytes lane c.0.0, c.0.1) x c.2) (spelled, (made, f0.1.taken))

-- ---- ends of streams

zeros_4 : IsRange 4 0 0
zeros_4 = record { order = omega arith; fits = omega arith }

digits_zero : (k n : ℕ) → n ≤ 0 → digits_of k n ≡ digits_of k 0
digits_zero k n le = ap (digits_of k) (omega arith)

abbrev pub leave_size : ℕ → Read TapeItem
leave_size lane = then (number_at 4 0 0) (λ size. gives (Record (Leave lane)))

abbrev pub leave_read : ItemLanes → Read TapeItem
leave_read lanes = then (lane_at (takes_leave lanes)) (λ lane. leave_size lane)

pub leave_is : (lanes : ItemLanes) (bytes : List ℕ) → leave_at lanes bytes ≡ leave_read lanes bytes
unfolding leave_at
leave_is lanes bytes = refl

leave_reader : (lanes : ItemLanes) → some_lane 32 (takes_leave lanes) ≡ true → IsReader (leave_at lanes)
leave_reader lanes some =
    let known = one_of (takes_leave lanes) some in
    same_reader (leave_read lanes) (leave_at lanes) (leave_is lanes)
    (then_reader (lane_at (takes_leave lanes)) (λ lane. leave_size lane) (lane_reader (takes_leave lanes) known.0 known.1) (λ lane.
    then_reader (number_at 4 0 0) (λ size. gives (Record (Leave lane))) (number_reader 4 0 0 zeros_4) (λ size. gives_reader (Record (Leave lane)))))

-- what stands behind the kind of a stream's end, by digits
abbrev leave_body : ℕ → List ℕ → List ℕ
leave_body lane rest = digits_of 2 lane ++ (digits_of 4 0 ++ rest)

leave_body_is : (lane : ℕ) (rest : List ℕ) → IsLeave lane → record_bytes (Leave lane) ++ rest ≡ 4 ∷ leave_body lane rest
leave_body_is lane rest c =
    ap₂ (λ (a b : List ℕ). (4 ∷ a ++ b ++ []) ++ rest) (digits_2 lane (omega (arith, c.of_controller))) (digits_4 0 (omega arith))

leave_again : (lanes : ItemLanes) (lane : ℕ) (rest : List ℕ) → IsLeave lane → takes_leave lanes lane ≡ true → leave_at lanes (leave_body lane rest) ≡ Ok (Record (Leave lane), rest)
leave_again lanes lane rest c takes =
    leave_is lanes (leave_body lane rest)
    ∙ ap (λ (r : Result (ℕ × List ℕ) ℕ). r >>= λ x. leave_size x.0 x.1) (lane_again (takes_leave lanes) lane (digits_of 4 0 ++ rest) (record { of_controller = c.of_controller; taken = takes }))
    ∙ ap (λ (r : Result (ℕ × List ℕ) ℕ). r >>= λ x. gives (Record (Leave lane)) x.1) (number_again 4 0 0 0 rest zeros_4 (omega arith) (omega arith))

leave_found : (lanes : ItemLanes) (bytes : List ℕ) (x : TapeItem × List ℕ) → leave_at lanes bytes ≡ Ok x → IsSpelled lanes 4 bytes x
leave_found lanes bytes x e =
    let a = bind_ok (lane_at (takes_leave lanes) bytes) (λ y. leave_size y.0 y.1) x (sym (leave_is lanes bytes) ∙ e) in
    let lane = a.0.0 in
    let b = bind_ok (number_at 4 0 0 a.0.1) (λ y. gives (Record (Leave lane)) y.1) x a.2 in
    let f0 = lane_found (takes_leave lanes) bytes lane a.0.1 a.1 in
    let f1 = number_found 4 0 0 a.0.1 b.0.0 b.0.1 zeros_4 b.1 in
    let made : IsLeave lane = record { of_controller = f0.1.of_controller } in
    let joined : bytes ≡ leave_body lane b.0.1 =
    f0.0 ∙ ap (λ (w : List ℕ). digits_of 2 lane ++ w) (f1.0 ∙ ap (λ (w : List ℕ). w ++ b.0.1) (digits_zero 4 b.0.0 f1.2)) in
    let spelled : 4 ∷ bytes ≡ item_bytes (Record (Leave lane)) ++ b.0.1 = ap (λ (w : List ℕ). 4 ∷ w) joined ∙ sym (leave_body_is lane b.0.1 made) in
    subst (λ (y : TapeItem × List ℕ). IsSpelled lanes 4 bytes y) (ok_is {E = ℕ} (Record (Leave lane), b.0.1) x b.2) (spelled, (made, tt, f0.1.taken))

-- ---- items: one, or the end record

abbrev Item : Type 0
Item = Option TapeItem

abbrev pub any_bytes : Item → List ℕ
any_bytes None = end_bytes
any_bytes (Some first) = item_bytes first

abbrev pub MayBe : ItemLanes → Item → Type 0
MayBe lanes None = Unit {0}
MayBe lanes (Some first) = MayFollow lanes first

abbrev some_of : Read TapeItem → Read Item
some_of read = then read (λ first. gives (Some first))

some_reader : (read : Read TapeItem) → IsReader read → IsReader (some_of read)
some_reader read r = then_reader read (λ first. gives (Some first)) r (λ first. gives_reader (Some first))

item_1 : (lanes : ItemLanes) → some_lane 32 (takes_call lanes) ≡ true → (bytes : List ℕ) → item_at lanes (1 ∷ bytes) ≡ some_of (call_at lanes) bytes
unfolding item_at
item_1 lanes some bytes = ap (λ (t : Bool). cond t (some_of (call_at lanes) bytes) (failed (suc (length bytes)))) some

item_3 : (lanes : ItemLanes) → some_lane 32 (takes_bytes lanes) ≡ true → (bytes : List ℕ) → item_at lanes (3 ∷ bytes) ≡ some_of (piece_at lanes) bytes
unfolding item_at
item_3 lanes some bytes = ap (λ (t : Bool). cond t (some_of (piece_at lanes) bytes) (failed (suc (length bytes)))) some

item_4 : (lanes : ItemLanes) → some_lane 32 (takes_leave lanes) ≡ true → (bytes : List ℕ) → item_at lanes (4 ∷ bytes) ≡ some_of (leave_at lanes) bytes
unfolding item_at
item_4 lanes some bytes = ap (λ (t : Bool). cond t (some_of (leave_at lanes) bytes) (failed (suc (length bytes)))) some

closed_1 : (lanes : ItemLanes) → some_lane 32 (takes_call lanes) ≡ false → (bytes : List ℕ) → item_at lanes (1 ∷ bytes) ≡ Err (suc (length bytes))
unfolding item_at
closed_1 lanes none bytes = ap (λ (t : Bool). cond t (some_of (call_at lanes) bytes) (failed (suc (length bytes)))) none

closed_3 : (lanes : ItemLanes) → some_lane 32 (takes_bytes lanes) ≡ false → (bytes : List ℕ) → item_at lanes (3 ∷ bytes) ≡ Err (suc (length bytes))
unfolding item_at
closed_3 lanes none bytes = ap (λ (t : Bool). cond t (some_of (piece_at lanes) bytes) (failed (suc (length bytes)))) none

closed_4 : (lanes : ItemLanes) → some_lane 32 (takes_leave lanes) ≡ false → (bytes : List ℕ) → item_at lanes (4 ∷ bytes) ≡ Err (suc (length bytes))
unfolding item_at
closed_4 lanes none bytes = ap (λ (t : Bool). cond t (some_of (leave_at lanes) bytes) (failed (suc (length bytes)))) none

item_none : (lanes : ItemLanes) → item_at lanes [] ≡ Err 0
unfolding item_at
item_none lanes = refl

-- ---- items that are read as records are

-- a record as an item, or the end record
abbrev raised : Result (Option TapeRecord × List ℕ) ℕ → Result (Item × List ℕ) ℕ
raised read = read >>= λ x. Ok (option_map Record x.0, x.1)

raised_end : (read : Result (List ℕ) ℕ) → ◌≡◌ {A = Result (Item × List ℕ) ℕ} (read >>= λ rest. Ok (None, rest)) (raised (read >>= λ rest. Ok (None, rest)))
raised_end (Ok rest) = refl
raised_end (Err left) = refl

raised_some : (read : Result (TapeRecord × List ℕ) ℕ) → as_item read ≡ raised (read >>= λ x. Ok (Some x.0, x.1))
raised_some (Ok x) = refl
raised_some (Err left) = refl

-- the claim that items of this kind are read as records are
abbrev IsSame : ItemLanes → ℕ → Type 0
IsSame lanes kind = (bytes : List ℕ) → item_at lanes (kind ∷ bytes) ≡ raised (record_at lanes.lanes (kind ∷ bytes))

same_0 : (lanes : ItemLanes) → IsSame lanes 0
unfolding item_at record_at
same_0 lanes bytes = raised_end (end_at bytes)

same_2 : (lanes : ItemLanes) → IsSame lanes 2
unfolding item_at record_at
same_2 lanes bytes = raised_some (packet_at bytes)

meet_or_not : (t : Bool) (read : Result (TapeRecord × List ℕ) ℕ) (left : ℕ) → cond t (as_item read) (failed left) ≡ raised (cond t (read >>= λ x. Ok (Some x.0, x.1)) (failed left))
meet_or_not true read left = raised_some read
meet_or_not false read left = refl

same_5 : (lanes : ItemLanes) → IsSame lanes 5
unfolding item_at record_at
same_5 lanes bytes = meet_or_not (some_called 32 lanes.lanes) (meet_at lanes.lanes bytes) (suc (length bytes))

same_past : (lanes : ItemLanes) (kind : ℕ) → 5 < kind → IsSame lanes kind
unfolding item_at record_at
same_past lanes kind gt bytes =
    let n0 : eqb kind 0 ≡ false = ne_eqb kind 0 (λ e. omega arith) in
    let n1 : eqb kind 1 ≡ false = ne_eqb kind 1 (λ e. omega arith) in
    let n2 : eqb kind 2 ≡ false = ne_eqb kind 2 (λ e. omega arith) in
    let n3 : eqb kind 3 ≡ false = ne_eqb kind 3 (λ e. omega arith) in
    let n4 : eqb kind 4 ≡ false = ne_eqb kind 4 (λ e. omega arith) in
    let n5 : eqb kind 5 ≡ false = ne_eqb kind 5 (λ e. omega arith) in
    rw (n0, n1, n2, n3, n4, n5) refl

-- ---- what a kind is

-- no item of this kind may stand where the lanes are so
abbrev IsClosed : ItemLanes → ℕ → Type 0
IsClosed lanes kind = (more : List ℕ) → item_at lanes (kind ∷ more) ≡ Err (suc (length more))

-- an item of this kind is read so
record IsReadBy (lanes : ItemLanes) (kind : ℕ) : Type 0 where
  read : Read TapeItem
  is : (bytes : List ℕ) → item_at lanes (kind ∷ bytes) ≡ some_of read bytes
  reader : IsReader read
  found : (bytes : List ℕ) (x : TapeItem × List ℕ) → read bytes ≡ Ok x → IsSpelled lanes kind bytes x

-- an item of this kind is no call and no end of a stream
abbrev IsKeptKind : ℕ → Type 0
IsKeptKind kind = (kind ≡ 1 → ⊥) × (kind ≡ 4 → ⊥)

abbrev IsKind : ItemLanes → ℕ → Type 0
IsKind lanes kind = IsReadBy lanes kind ⊎ (IsClosed lanes kind ⊎ (IsKeptKind kind × IsSame lanes kind))

kind_1 : (lanes : ItemLanes) (t : Bool) → some_lane 32 (takes_call lanes) ≡ t → IsKind lanes 1
kind_1 lanes true e = inl (record { read = call_at lanes; is = item_1 lanes e; reader = call_reader lanes e; found = call_found lanes })
kind_1 lanes false e = inr (inl (closed_1 lanes e))

kind_3 : (lanes : ItemLanes) (t : Bool) → some_lane 32 (takes_bytes lanes) ≡ t → IsKind lanes 3
kind_3 lanes true e = inl (record { read = piece_at lanes; is = item_3 lanes e; reader = piece_reader lanes e; found = piece_found lanes })
kind_3 lanes false e = inr (inl (closed_3 lanes e))

kind_4 : (lanes : ItemLanes) (t : Bool) → some_lane 32 (takes_leave lanes) ≡ t → IsKind lanes 4
kind_4 lanes true e = inl (record { read = leave_at lanes; is = item_4 lanes e; reader = leave_reader lanes e; found = leave_found lanes })
kind_4 lanes false e = inr (inl (closed_4 lanes e))

which_kind : (lanes : ItemLanes) (kind : ℕ) → IsKind lanes kind
which_kind lanes zero = inr (inr (((λ e. omega arith), (λ e. omega arith)), same_0 lanes))
which_kind lanes (suc zero) = kind_1 lanes (some_lane 32 (takes_call lanes)) refl
which_kind lanes (suc (suc zero)) = inr (inr (((λ e. omega arith), (λ e. omega arith)), same_2 lanes))
which_kind lanes (suc (suc (suc zero))) = kind_3 lanes (some_lane 32 (takes_bytes lanes)) refl
which_kind lanes (suc (suc (suc (suc zero)))) = kind_4 lanes (some_lane 32 (takes_leave lanes)) refl
which_kind lanes (suc (suc (suc (suc (suc zero))))) = inr (inr (((λ e. omega arith), (λ e. omega arith)), same_5 lanes))
which_kind lanes (suc (suc (suc (suc (suc (suc k)))))) =
    inr (inr (((λ e. omega arith), (λ e. omega arith)), same_past lanes (suc (suc (suc (suc (suc (suc k)))))) (omega arith)))

-- ---- what is read is spelled so

abbrev IsItemSpelled : ItemLanes → List ℕ → Item × List ℕ → Type 0
IsItemSpelled lanes bytes x = (bytes ≡ any_bytes x.0 ++ x.1) × MayBe lanes x.0

some_found : (lanes : ItemLanes) (kind : ℕ) (by : IsReadBy lanes kind) (bytes : List ℕ) (x : Item × List ℕ) → some_of by.read bytes ≡ Ok x → IsItemSpelled lanes (kind ∷ bytes) x
some_found lanes kind by bytes x e =
    let a = bind_ok (by.read bytes) (λ y. gives (Some y.0) y.1) x e in
    let f = by.found bytes a.0 a.1 in
    subst (λ (q : Item × List ℕ). IsItemSpelled lanes (kind ∷ bytes) q) (ok_is {E = ℕ} (Some a.0.0, a.0.1) x a.2) f

-- the first byte of a list
abbrev head : List ℕ → ℕ
head bytes = get_or bytes 0 9

-- the lane of such a record takes it
taken_by_kind : (lanes : ItemLanes) (kind : ℕ) (bytes rest : List ℕ) (it : TapeRecord) → IsKeptKind kind → kind ∷ bytes ≡ record_bytes it ++ rest → IsTaken lanes it
taken_by_kind lanes kind bytes rest (Call lane method message) is e = absurd (is.0 (ap head e))
taken_by_kind lanes kind bytes rest (Packet lane port packet) is e = tt
taken_by_kind lanes kind bytes rest (Leave lane) is e = absurd (is.1 (ap head e))
taken_by_kind lanes kind bytes rest (Meet lane controller call) is e = tt

kept_found : (lanes : ItemLanes) (kind : ℕ) (bytes : List ℕ) (o : Option TapeRecord) (rest : List ℕ) → IsKeptKind kind → (kind ∷ bytes ≡ record_item_bytes o ++ rest) × IsRecordItem lanes.lanes o
    → IsItemSpelled lanes (kind ∷ bytes) (option_map Record o, rest)
kept_found lanes kind bytes None rest is f = (f.0, tt)
kept_found lanes kind bytes (Some it) rest is f = (f.0, (f.1.0, f.1.1, taken_by_kind lanes kind bytes rest it is f.0))

same_found : (lanes : ItemLanes) (kind : ℕ) (bytes : List ℕ) (x : Item × List ℕ) → IsKeptKind kind → IsSame lanes kind → item_at lanes (kind ∷ bytes) ≡ Ok x → IsItemSpelled lanes (kind ∷ bytes) x
same_found lanes kind bytes x kept same e =
    let a = bind_ok (record_at lanes.lanes (kind ∷ bytes)) (λ y. Ok (option_map Record y.0, y.1)) x (sym (same bytes) ∙ e) in
    let f = record_found lanes.lanes (kind ∷ bytes) a.0 a.1 in
    subst (λ (q : Item × List ℕ). IsItemSpelled lanes (kind ∷ bytes) q) (ok_is {E = ℕ} (option_map Record a.0.0, a.0.1) x a.2) (kept_found lanes kind bytes a.0.0 a.0.1 kept f)

found_at : (lanes : ItemLanes) (kind : ℕ) (bytes : List ℕ) (x : Item × List ℕ) → item_at lanes (kind ∷ bytes) ≡ Ok x → IsItemSpelled lanes (kind ∷ bytes) x
found_at lanes kind bytes x e =
    elim (which_kind lanes kind) [
      | inl by ↦ some_found lanes kind by bytes x (sym (by.is bytes) ∙ e)
      | inr (inl closed) ↦ clash_err x (suc (length bytes)) (sym e ∙ closed bytes)
      | inr (inr same) ↦ same_found lanes kind bytes x same.0 same.1 e
    ]

-- an item that is read is spelled so
pub item_found : (lanes : ItemLanes) (bytes : List ℕ) (x : Option TapeItem × List ℕ) → item_at lanes bytes ≡ Ok x → (bytes ≡ any_bytes x.0 ++ x.1) × MayBe lanes x.0
item_found lanes [] x e = clash_err x 0 (sym e ∙ item_none lanes)
item_found lanes (kind ∷ bytes) x e = found_at lanes kind bytes x e

-- ---- what is spelled so is read

as_it_is : (lanes : ItemLanes) (kind : ℕ) (bytes : List ℕ) (o : Option TapeRecord) (rest : List ℕ) → IsSame lanes kind → kind ∷ bytes ≡ record_item_bytes o ++ rest → IsRecordItem lanes.lanes o
    → item_at lanes (record_item_bytes o ++ rest) ≡ Ok (option_map Record o, rest)
as_it_is lanes kind bytes o rest same e fits =
    ap (item_at lanes) (sym e) ∙ same bytes ∙ ap (λ (w : List ℕ). raised (record_at lanes.lanes w)) e
    ∙ ap raised (record_again lanes.lanes o rest fits)

-- an item that is spelled so is read
pub item_again : (lanes : ItemLanes) (o : Option TapeItem) (rest : List ℕ) → MayBe lanes o → item_at lanes (any_bytes o ++ rest) ≡ Ok (o, rest)
item_again lanes None rest fits = as_it_is lanes 0 (0 ∷ 0 ∷ 0 ∷ 0 ∷ 0 ∷ 0 ∷ rest) None rest (same_0 lanes) refl tt
item_again lanes (Some (Record (Call lane method message))) rest fits =
    ap (item_at lanes) (call_body_is lane method message rest fits.0)
    ∙ item_1 lanes (among (takes_call lanes) lane (record { of_controller = fits.0.of_controller; taken = fits.2 })) (call_body lane (suc (length message)) (method_number method) message rest)
    ∙ ap (λ (r : Result (TapeItem × List ℕ) ℕ). r >>= λ x. gives {X = Item} (Some x.0) x.1) (call_again lanes lane method message rest fits.0 fits.2)
item_again lanes (Some (Record (Packet lane port packet))) rest fits = as_it_is lanes 2 _ (Some (Packet lane port packet)) rest (same_2 lanes) refl (fits.0, fits.1)
item_again lanes (Some (Record (Leave lane))) rest fits =
    ap (item_at lanes) (leave_body_is lane rest fits.0)
    ∙ item_4 lanes (among (takes_leave lanes) lane (record { of_controller = fits.0.of_controller; taken = fits.2 })) (leave_body lane rest)
    ∙ ap (λ (r : Result (TapeItem × List ℕ) ℕ). r >>= λ x. gives {X = Item} (Some x.0) x.1) (leave_again lanes lane rest fits.0 fits.2)
item_again lanes (Some (Record (Meet lane controller call))) rest fits = as_it_is lanes 5 _ (Some (Meet lane controller call)) rest (same_5 lanes) refl (fits.0, fits.1)
item_again lanes (Some (Bytes lane piece)) rest fits =
    ap (item_at lanes) (piece_body_is lane piece rest fits.0)
    ∙ item_3 lanes (among (takes_bytes lanes) lane (record { of_controller = fits.0.of_controller; taken = fits.1 })) (piece_body lane (length piece) piece rest)
    ∙ ap (λ (r : Result (TapeItem × List ℕ) ℕ). r >>= λ x. gives {X = Item} (Some x.0) x.1) (piece_again lanes lane piece rest fits.0 fits.1)

-- ---- the place of a flaw

-- a flaw behind a kind
behind : (lanes : ItemLanes) (kind : ℕ) (by : IsReadBy lanes kind) (bytes : List ℕ) (left : ℕ) → item_at lanes (kind ∷ bytes) ≡ Err left → IsFlawed (item_at lanes) (kind ∷ bytes) left
behind lanes kind by bytes left e =
    let f = (some_reader by.read by.reader).flawed bytes left (sym (by.is bytes) ∙ e) in
    record {
      front = kind ∷ f.front;
      tail = f.tail;
      parts = ap (λ (w : List ℕ). kind ∷ w) f.parts;
      size = f.size;
      more = f.more;
      value = f.value;
      goes_on = by.is (f.front ++ f.more) ∙ f.goes_on;
      worse = λ b rest more h. by.is (f.front ++ b ∷ more) ∙ f.worse b rest more h;
    }

-- no item begins with this kind
closed_kind : (lanes : ItemLanes) (kind : ℕ) (bytes : List ℕ) (left : ℕ) → IsClosed lanes kind → item_at lanes (kind ∷ bytes) ≡ Err left → IsFlawed (item_at lanes) (kind ∷ bytes) left
closed_kind lanes kind bytes left closed e = record {
  front = [];
  tail = kind ∷ bytes;
  parts = refl;
  size = err_is {X = Item × List ℕ} (suc (length bytes)) left (sym (closed bytes) ∙ e);
  more = end_bytes;
  value = None;
  goes_on = item_again lanes None [] tt;
  worse = λ b rest more h. let same : kind ≡ b = cc in ap (λ (k : ℕ). item_at lanes (k ∷ more)) (sym same) ∙ closed more;
}

raised_err : (read : Result (Option TapeRecord × List ℕ) ℕ) (left : ℕ) → raised read ≡ Err left → read ≡ Err left
raised_err (Ok x) left e = absurd cc
raised_err (Err d) left e = cc

-- a flaw of a record, whose front is so, is one of the item
as_flawed : (lanes : ItemLanes) (kind : ℕ) (bytes : List ℕ) (left : ℕ) (front : List ℕ) → IsSame lanes kind → (f : IsFlawed (record_at lanes.lanes) (kind ∷ bytes) left) → f.front ≡ front → IsFlawed (item_at lanes) (kind ∷ bytes) left
as_flawed lanes kind bytes left [] same f is =
    let whole : kind ∷ bytes ≡ f.tail = f.parts ∙ ap (λ (w : List ℕ). w ++ f.tail) is in
    record {
      front = [];
      tail = kind ∷ bytes;
      parts = refl;
      size = ap length whole ∙ f.size;
      more = end_bytes;
      value = None;
      goes_on = item_again lanes None [] tt;
      worse = λ b rest more h.
          let first : kind ≡ b = cc in
          ap (λ (k : ℕ). item_at lanes (k ∷ more)) (sym first) ∙ same more
          ∙ ap (λ (k : ℕ). raised (record_at lanes.lanes (k ∷ more))) first
          ∙ ap (λ (w : List ℕ). raised (record_at lanes.lanes (w ++ b ∷ more))) (sym is)
          ∙ ap raised (f.worse b rest more (sym whole ∙ h));
    }
as_flawed lanes kind bytes left (k ∷ front) same f is =
    let parts : kind ∷ bytes ≡ k ∷ (front ++ f.tail) = f.parts ∙ ap (λ (w : List ℕ). w ++ f.tail) is in
    let first : kind ≡ k = ap head parts in
    let here : (more : List ℕ) → item_at lanes (k ∷ more) ≡ raised (record_at lanes.lanes (k ∷ more)) = λ more. subst (λ (n : ℕ). IsSame lanes n) first same more in
    record {
      front = k ∷ front;
      tail = f.tail;
      parts = parts;
      size = f.size;
      more = f.more;
      value = option_map Record f.value;
      goes_on = here (front ++ f.more) ∙ ap (λ (w : List ℕ). raised (record_at lanes.lanes (w ++ f.more))) (sym is) ∙ ap raised f.goes_on;
      worse = λ b rest more h. here (front ++ b ∷ more) ∙ ap (λ (w : List ℕ). raised (record_at lanes.lanes (w ++ b ∷ more))) (sym is) ∙ ap raised (f.worse b rest more h);
    }

flaw_at : (lanes : ItemLanes) (kind : ℕ) (bytes : List ℕ) (left : ℕ) → item_at lanes (kind ∷ bytes) ≡ Err left → IsFlawed (item_at lanes) (kind ∷ bytes) left
flaw_at lanes kind bytes left e =
    elim (which_kind lanes kind) [
      | inl by ↦ behind lanes kind by bytes left e
      | inr (inl closed) ↦ closed_kind lanes kind bytes left closed e
      | inr (inr same) ↦
          let f = record_flawed lanes.lanes (kind ∷ bytes) left (raised_err (record_at lanes.lanes (kind ∷ bytes)) left (sym (same.1 bytes) ∙ e)) in
          as_flawed lanes kind bytes left f.front same.1 f refl
    ]

-- the place of an item's flaw is exact
pub item_flawed : (lanes : ItemLanes) (bytes : List ℕ) (left : ℕ) → item_at lanes bytes ≡ Err left → IsFlawed (item_at lanes) bytes left
item_flawed lanes [] left e = record {
  front = [];
  tail = [];
  parts = refl;
  size = err_is {X = Item × List ℕ} 0 left (sym (item_none lanes) ∙ e);
  more = end_bytes;
  value = None;
  goes_on = item_again lanes None [] tt;
  worse = λ b rest more h. absurd cc;
}
item_flawed lanes (kind ∷ bytes) left e = flaw_at lanes kind bytes left e
