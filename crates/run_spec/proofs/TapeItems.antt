-- Records of a tape: what is read is spelled so, what is spelled so is read, and the place of a flaw is exact.
use Rattle.std.proofs.Common.{◌≡◌, ℕ, zero, suc, ◌-◌, ◌<◌, ◌≤◌, Bool, true, false, cond, eqb, ltb, leb, ◌||◌, List, [], ◌∷◌, ◌++◌, length, get_or, Option, Some, None, Result, Ok, Err, refl, sym, ap, ap₂, subst, ◌∙◌, ◌⊎◌, arith, inl, inr}
use Rattle.std.specs.Int.{w16, w32, to_be_bytes}
use Rattle.std.proofs.lemmas.Bool.{ne_eqb, and_parts, and_from, ltb-true, leb-true, lt-ltb, le-leb, or_left, or_right}
use Rattle.std.proofs.lemmas.Nat.{be_bytes_2, be_bytes_4}
use Rattle.p4_types.specs.declared.tape.TapeRecord.{TapeRecord}
use Rattle.p4_types.specs.declared.tape.TapeRecord.TheVariants.{Call, Packet, Leave, Meet}
use Rattle.list_types.specs.Results.{◌>>=◌}
use Rattle.p4_types.specs.declared.calls.Method.{Method}
use Rattle.p4_types.specs.declared.calls.Method.TheVariants as method_variants
use Rattle.run_spec.specs.Tape.{Lanes, method_number, record_bytes, IsCall, IsPacket, IsLeave, IsMeet, MayStand, end_bytes}
use Rattle.run_spec.specs.TapeReading.{method_of, number_at, bytes_at, call_at, packet_at, leave_at, has_called, some_called, called_at, last_call, meet_at, end_at, item_at}
use Rattle.run_spec.proofs.Readers.{bind_ok, ok_is, Read, IsFlawed, IsReader, then, then_reader, then_reader_so, gives, gives_reader, same_reader, digits_of, IsRange, number_found, number_again, number_reader, bytes_found, bytes_again, bytes_reader, chosen, done, failed, clash, clash_err, err_is}

-- ---- digits as bytes of a width

digits_2_fit : (n : ℕ) → n < 65536 → (i : ℕ) → get_or (digits_of 2 n) i 0 < 256
digits_2_fit n lt zero = omega arith
digits_2_fit n lt (suc zero) = omega arith
digits_2_fit n lt (suc (suc i)) = omega arith

digits_4_fit : (n : ℕ) → n < 4294967296 → (i : ℕ) → get_or (digits_of 4 n) i 0 < 256
digits_4_fit n lt zero = omega arith
digits_4_fit n lt (suc zero) = omega arith
digits_4_fit n lt (suc (suc zero)) = omega arith
digits_4_fit n lt (suc (suc (suc zero))) = omega arith
digits_4_fit n lt (suc (suc (suc (suc i)))) = omega arith

digits_2 : (n : ℕ) → n < 65536 → to_be_bytes w16 n ≡ digits_of 2 n
digits_2 n lt = be_bytes_2 (digits_of 2 n) n refl (digits_2_fit n lt) (omega arith)

digits_4 : (n : ℕ) → n < 4294967296 → to_be_bytes w32 n ≡ digits_of 4 n
digits_4 n lt = be_bytes_4 (digits_of 4 n) n refl (digits_4_fit n lt) (omega arith)

digits_1 : (n : ℕ) → n ∷ [] ≡ digits_of 1 n
digits_1 n = ap (λ (m : ℕ). m ∷ []) (omega arith)

-- ---- calls

lanes_32 : IsRange 2 0 31
lanes_32 = record { order = omega arith; fits = omega arith }

call_sizes : IsRange 4 1 8388609
call_sizes = record { order = omega arith; fits = omega arith }

methods : IsRange 1 1 6
methods = record { order = omega arith; fits = omega arith }

-- each method has its number, 1 to 6, and each of these numbers its method
method_again : (method : Method) → method_of (method_number method) ≡ method
method_again method_variants.Write = refl
method_again method_variants.Read = refl
method_again method_variants.SetForwardingPipelineConfig = refl
method_again method_variants.GetForwardingPipelineConfig = refl
method_again method_variants.StreamChannel = refl
method_again method_variants.Capabilities = refl

method_low : (method : Method) → 1 ≤ method_number method
method_low method_variants.Write = omega arith
method_low method_variants.Read = omega arith
method_low method_variants.SetForwardingPipelineConfig = omega arith
method_low method_variants.GetForwardingPipelineConfig = omega arith
method_low method_variants.StreamChannel = omega arith
method_low method_variants.Capabilities = omega arith

method_high : (method : Method) → method_number method ≤ 6
method_high method_variants.Write = omega arith
method_high method_variants.Read = omega arith
method_high method_variants.SetForwardingPipelineConfig = omega arith
method_high method_variants.GetForwardingPipelineConfig = omega arith
method_high method_variants.StreamChannel = omega arith
method_high method_variants.Capabilities = omega arith

number_again_of : (n : ℕ) → 1 ≤ n → n ≤ 6 → method_number (method_of n) ≡ n
number_again_of zero low high = absurd (omega arith)
number_again_of (suc zero) low high = refl
number_again_of (suc (suc zero)) low high = refl
number_again_of (suc (suc (suc zero))) low high = refl
number_again_of (suc (suc (suc (suc zero)))) low high = refl
number_again_of (suc (suc (suc (suc (suc zero))))) low high = refl
number_again_of (suc (suc (suc (suc (suc (suc zero)))))) low high = refl
number_again_of (suc (suc (suc (suc (suc (suc (suc n))))))) low high = absurd (omega arith)

abbrev call_message : ℕ → ℕ → ℕ → Read TapeRecord
call_message lane size method = then (bytes_at (size - 1)) (λ message. gives (Call lane (method_of method) message))

abbrev call_method : ℕ → ℕ → Read TapeRecord
call_method lane size = then (number_at 1 1 6) (λ method. call_message lane size method)

abbrev call_size : ℕ → Read TapeRecord
call_size lane = then (number_at 4 1 8388609) (λ size. call_method lane size)

abbrev call_read : Read TapeRecord
call_read = then (number_at 2 0 31) (λ lane. call_size lane)

call_is : (bytes : List ℕ) → call_at bytes ≡ call_read bytes
unfolding call_at
call_is bytes = refl

pub call_reader : IsReader call_at
call_reader = same_reader call_read call_at call_is
    (then_reader (number_at 2 0 31) (λ lane. call_size lane) (number_reader 2 0 31 lanes_32) (λ lane.
    then_reader (number_at 4 1 8388609) (λ size. call_method lane size) (number_reader 4 1 8388609 call_sizes) (λ size.
    then_reader (number_at 1 1 6) (λ method. call_message lane size method) (number_reader 1 1 6 methods) (λ method.
    then_reader (bytes_at (size - 1)) (λ message. gives (Call lane (method_of method) message)) (bytes_reader (size - 1)) (λ message. gives_reader (Call lane (method_of method) message))))))

-- what stands behind the kind of a call, by digits
abbrev call_body : ℕ → ℕ → ℕ → List ℕ → List ℕ → List ℕ
call_body lane size method message rest = digits_of 2 lane ++ (digits_of 4 size ++ (digits_of 1 method ++ (message ++ rest)))

call_body_is : (lane : ℕ) (method : Method) (message rest : List ℕ) → IsCall lane message → record_bytes (Call lane method message) ++ rest ≡ 1 ∷ call_body lane (suc (length message)) (method_number method) message rest
call_body_is lane method message rest c =
    ap₂ (λ (a b : List ℕ). (1 ∷ a ++ b ++ (method_number method ∷ message)) ++ rest) (digits_2 lane (omega (arith, c.of_controller))) (digits_4 (suc (length message)) (omega (arith, c.size)))
    ∙ ap (λ (a : List ℕ). 1 ∷ (digits_of 2 lane ++ (digits_of 4 (suc (length message)) ++ (a ++ (message ++ rest))))) (digits_1 (method_number method))

call_again : (lane : ℕ) (method : Method) (message rest : List ℕ) → IsCall lane message → call_at (call_body lane (suc (length message)) (method_number method) message rest) ≡ Ok (Call lane method message, rest)
call_again lane method message rest c =
    let size = suc (length message) in
    let b3 = message ++ rest in
    let b2 = digits_of 1 (method_number method) ++ b3 in
    let b1 = digits_of 4 size ++ b2 in
    let e0 = number_again 2 0 31 lane b1 lanes_32 (omega arith) (omega (arith, c.of_controller)) in
    let e1 = number_again 4 1 8388609 size b2 call_sizes (omega arith) (omega (arith, c.size)) in
    let e2 = number_again 1 1 6 (method_number method) b3 methods (method_low method) (method_high method) in
    let e3 = bytes_again (size - 1) message rest (omega arith) in
    call_is (digits_of 2 lane ++ b1)
    ∙ ap (λ (r : Result (ℕ × List ℕ) ℕ). r >>= λ x. call_size x.0 x.1) e0
    ∙ ap (λ (r : Result (ℕ × List ℕ) ℕ). r >>= λ x. call_method lane x.0 x.1) e1
    ∙ ap (λ (r : Result (ℕ × List ℕ) ℕ). r >>= λ x. call_message lane size x.0 x.1) e2
    ∙ ap (λ (r : Result (List ℕ × List ℕ) ℕ). r >>= λ x. gives (Call lane (method_of (method_number method)) x.0) x.1) e3
    ∙ ap (λ (m : Method). Ok (Call lane m message, rest)) (method_again method)

-- the bytes, with the kind in front, are the record and the rest
abbrev pub IsSpelled : Lanes → ℕ → List ℕ → TapeRecord × List ℕ → Type 0
IsSpelled lanes kind bytes x = (kind ∷ bytes ≡ record_bytes x.0 ++ x.1) × MayStand lanes x.0

call_found : (lanes : Lanes) (bytes : List ℕ) (x : TapeRecord × List ℕ) → call_at bytes ≡ Ok x → IsSpelled lanes 1 bytes x
call_found lanes bytes x e =
    let a = bind_ok (number_at 2 0 31 bytes) (λ y. call_size y.0 y.1) x (sym (call_is bytes) ∙ e) in
    let lane = a.0.0 in
    let b = bind_ok (number_at 4 1 8388609 a.0.1) (λ y. call_method lane y.0 y.1) x a.2 in
    let c = bind_ok (number_at 1 1 6 b.0.1) (λ y. call_message lane b.0.0 y.0 y.1) x b.2 in
    let d = bind_ok (bytes_at (b.0.0 - 1) c.0.1) (λ y. gives (Call lane (method_of c.0.0) y.0) y.1) x c.2 in
    let f0 = number_found 2 0 31 bytes lane a.0.1 lanes_32 a.1 in
    let f1 = number_found 4 1 8388609 a.0.1 b.0.0 b.0.1 call_sizes b.1 in
    let f2 = number_found 1 1 6 b.0.1 c.0.0 c.0.1 methods c.1 in
    let f3 = bytes_found (b.0.0 - 1) c.0.1 d.0.0 d.0.1 d.1 in
    let method = method_of c.0.0 in
    let named : c.0.0 ≡ method_number method = sym (number_again_of c.0.0 f2.1 f2.2) in
    let made : IsCall lane d.0.0 = record { of_controller = omega (arith, f0.2); size = omega (arith, f3.1, f1.2) } in
    let sized : b.0.0 ≡ suc (length d.0.0) = omega (arith, f3.1, f1.1) in
    let joined : bytes ≡ call_body lane b.0.0 c.0.0 d.0.0 d.0.1 =
    f0.0 ∙ ap (λ (w : List ℕ). digits_of 2 lane ++ w) (f1.0 ∙ ap (λ (w : List ℕ). digits_of 4 b.0.0 ++ w) (f2.0 ∙ ap (λ (w : List ℕ). digits_of 1 c.0.0 ++ w) f3.0)) in
    let spelled : 1 ∷ bytes ≡ record_bytes (Call lane method d.0.0) ++ d.0.1 =
    ap (λ (w : List ℕ). 1 ∷ w) joined ∙ ap (λ (n : ℕ). 1 ∷ call_body lane n c.0.0 d.0.0 d.0.1) sized ∙ ap (λ (n : ℕ). 1 ∷ call_body lane (suc (length d.0.0)) n d.0.0 d.0.1) named ∙ sym (call_body_is lane method d.0.0 d.0.1 made) in
    subst (λ (y : TapeRecord × List ℕ). IsSpelled lanes 1 bytes y) (ok_is {E = ℕ} (Call lane method d.0.0, d.0.1) x d.2) (spelled, (made, tt))

-- ---- packets

lanes_16 : IsRange 2 0 15
lanes_16 = record { order = omega arith; fits = omega arith }

packet_sizes : IsRange 4 2 9218
packet_sizes = record { order = omega arith; fits = omega arith }

ports : IsRange 2 0 510
ports = record { order = omega arith; fits = omega arith }

abbrev packet_bytes : ℕ → ℕ → ℕ → Read TapeRecord
packet_bytes lane size port = then (bytes_at (size - 2)) (λ packet. gives (Packet lane port packet))

abbrev packet_port : ℕ → ℕ → Read TapeRecord
packet_port lane size = then (number_at 2 0 510) (λ port. packet_bytes lane size port)

abbrev packet_size : ℕ → Read TapeRecord
packet_size lane = then (number_at 4 2 9218) (λ size. packet_port lane size)

abbrev packet_read : Read TapeRecord
packet_read = then (number_at 2 0 15) (λ lane. packet_size lane)

packet_is : (bytes : List ℕ) → packet_at bytes ≡ packet_read bytes
unfolding packet_at
packet_is bytes = refl

pub packet_reader : IsReader packet_at
packet_reader = same_reader packet_read packet_at packet_is
    (then_reader (number_at 2 0 15) (λ lane. packet_size lane) (number_reader 2 0 15 lanes_16) (λ lane.
    then_reader (number_at 4 2 9218) (λ size. packet_port lane size) (number_reader 4 2 9218 packet_sizes) (λ size.
    then_reader (number_at 2 0 510) (λ port. packet_bytes lane size port) (number_reader 2 0 510 ports) (λ port.
    then_reader (bytes_at (size - 2)) (λ packet. gives (Packet lane port packet)) (bytes_reader (size - 2)) (λ packet. gives_reader (Packet lane port packet))))))

-- what stands behind the kind of a packet, by digits
abbrev packet_body : ℕ → ℕ → ℕ → List ℕ → List ℕ → List ℕ
packet_body lane size port packet rest = digits_of 2 lane ++ (digits_of 4 size ++ (digits_of 2 port ++ (packet ++ rest)))

packet_body_is : (lane port : ℕ) (packet rest : List ℕ) → IsPacket lane port packet → record_bytes (Packet lane port packet) ++ rest ≡ 2 ∷ packet_body lane (suc (suc (length packet))) port packet rest
packet_body_is lane port packet rest c =
    ap₂ (λ (a b : List ℕ). (2 ∷ a ++ b ++ (to_be_bytes w16 port ++ packet)) ++ rest) (digits_2 lane (omega (arith, c.of_worker))) (digits_4 (suc (suc (length packet))) (omega (arith, c.size)))
    ∙ ap (λ (a : List ℕ). 2 ∷ (digits_of 2 lane ++ (digits_of 4 (suc (suc (length packet))) ++ (a ++ (packet ++ rest))))) (digits_2 port (omega (arith, c.in_ports)))

packet_again : (lane port : ℕ) (packet rest : List ℕ) → IsPacket lane port packet → packet_at (packet_body lane (suc (suc (length packet))) port packet rest) ≡ Ok (Packet lane port packet, rest)
packet_again lane port packet rest c =
    let size = suc (suc (length packet)) in
    let b3 = packet ++ rest in
    let b2 = digits_of 2 port ++ b3 in
    let b1 = digits_of 4 size ++ b2 in
    let e0 = number_again 2 0 15 lane b1 lanes_16 (omega arith) (omega (arith, c.of_worker)) in
    let e1 = number_again 4 2 9218 size b2 packet_sizes (omega arith) (omega (arith, c.size)) in
    let e2 = number_again 2 0 510 port b3 ports (omega arith) c.in_ports in
    let e3 = bytes_again (size - 2) packet rest (omega arith) in
    packet_is (digits_of 2 lane ++ b1)
    ∙ ap (λ (r : Result (ℕ × List ℕ) ℕ). r >>= λ x. packet_size x.0 x.1) e0
    ∙ ap (λ (r : Result (ℕ × List ℕ) ℕ). r >>= λ x. packet_port lane x.0 x.1) e1
    ∙ ap (λ (r : Result (ℕ × List ℕ) ℕ). r >>= λ x. packet_bytes lane size x.0 x.1) e2
    ∙ ap (λ (r : Result (List ℕ × List ℕ) ℕ). r >>= λ x. gives (Packet lane port x.0) x.1) e3

packet_found : (lanes : Lanes) (bytes : List ℕ) (x : TapeRecord × List ℕ) → packet_at bytes ≡ Ok x → IsSpelled lanes 2 bytes x
packet_found lanes bytes x e =
    let a = bind_ok (number_at 2 0 15 bytes) (λ y. packet_size y.0 y.1) x (sym (packet_is bytes) ∙ e) in
    let lane = a.0.0 in
    let b = bind_ok (number_at 4 2 9218 a.0.1) (λ y. packet_port lane y.0 y.1) x a.2 in
    let c = bind_ok (number_at 2 0 510 b.0.1) (λ y. packet_bytes lane b.0.0 y.0 y.1) x b.2 in
    let d = bind_ok (bytes_at (b.0.0 - 2) c.0.1) (λ y. gives (Packet lane c.0.0 y.0) y.1) x c.2 in
    let f0 = number_found 2 0 15 bytes lane a.0.1 lanes_16 a.1 in
    let f1 = number_found 4 2 9218 a.0.1 b.0.0 b.0.1 packet_sizes b.1 in
    let f2 = number_found 2 0 510 b.0.1 c.0.0 c.0.1 ports c.1 in
    let f3 = bytes_found (b.0.0 - 2) c.0.1 d.0.0 d.0.1 d.1 in
    let made : IsPacket lane c.0.0 d.0.0 = record { of_worker = omega (arith, f0.2); in_ports = f2.2; size = omega (arith, f3.1, f1.2) } in
    let sized : b.0.0 ≡ suc (suc (length d.0.0)) = omega (arith, f3.1, f1.1) in
    let joined : bytes ≡ packet_body lane b.0.0 c.0.0 d.0.0 d.0.1 =
    f0.0 ∙ ap (λ (w : List ℕ). digits_of 2 lane ++ w) (f1.0 ∙ ap (λ (w : List ℕ). digits_of 4 b.0.0 ++ w) (f2.0 ∙ ap (λ (w : List ℕ). digits_of 2 c.0.0 ++ w) f3.0)) in
    let spelled : 2 ∷ bytes ≡ record_bytes (Packet lane c.0.0 d.0.0) ++ d.0.1 =
    ap (λ (w : List ℕ). 2 ∷ w) joined ∙ ap (λ (n : ℕ). 2 ∷ packet_body lane n c.0.0 d.0.0 d.0.1) sized ∙ sym (packet_body_is lane c.0.0 d.0.0 d.0.1 made) in
    subst (λ (y : TapeRecord × List ℕ). IsSpelled lanes 2 bytes y) (ok_is {E = ℕ} (Packet lane c.0.0 d.0.0, d.0.1) x d.2) (spelled, (made, tt))

-- ---- ends of streams

zeros_4 : IsRange 4 0 0
zeros_4 = record { order = omega arith; fits = omega arith }

digits_zero : (k n : ℕ) → n ≤ 0 → digits_of k n ≡ digits_of k 0
digits_zero k n le = ap (digits_of k) (omega arith)

abbrev leave_size : ℕ → Read TapeRecord
leave_size lane = then (number_at 4 0 0) (λ size. gives (Leave lane))

abbrev leave_read : Read TapeRecord
leave_read = then (number_at 2 0 31) (λ lane. leave_size lane)

leave_is : (bytes : List ℕ) → leave_at bytes ≡ leave_read bytes
unfolding leave_at
leave_is bytes = refl

pub leave_reader : IsReader leave_at
leave_reader = same_reader leave_read leave_at leave_is
    (then_reader (number_at 2 0 31) (λ lane. leave_size lane) (number_reader 2 0 31 lanes_32) (λ lane.
    then_reader (number_at 4 0 0) (λ size. gives (Leave lane)) (number_reader 4 0 0 zeros_4) (λ size. gives_reader (Leave lane))))

-- what stands behind the kind of a stream's end, by digits
abbrev leave_body : ℕ → List ℕ → List ℕ
leave_body lane rest = digits_of 2 lane ++ (digits_of 4 0 ++ rest)

leave_body_is : (lane : ℕ) (rest : List ℕ) → IsLeave lane → record_bytes (Leave lane) ++ rest ≡ 4 ∷ leave_body lane rest
leave_body_is lane rest c =
    ap₂ (λ (a b : List ℕ). (4 ∷ a ++ b ++ []) ++ rest) (digits_2 lane (omega (arith, c.of_controller))) (digits_4 0 (omega arith))

leave_again : (lane : ℕ) (rest : List ℕ) → IsLeave lane → leave_at (leave_body lane rest) ≡ Ok (Leave lane, rest)
leave_again lane rest c =
    leave_is (leave_body lane rest)
    ∙ ap (λ (r : Result (ℕ × List ℕ) ℕ). r >>= λ x. leave_size x.0 x.1) (number_again 2 0 31 lane (digits_of 4 0 ++ rest) lanes_32 (omega arith) (omega (arith, c.of_controller)))
    ∙ ap (λ (r : Result (ℕ × List ℕ) ℕ). r >>= λ x. gives (Leave lane) x.1) (number_again 4 0 0 0 rest zeros_4 (omega arith) (omega arith))

leave_found : (lanes : Lanes) (bytes : List ℕ) (x : TapeRecord × List ℕ) → leave_at bytes ≡ Ok x → IsSpelled lanes 4 bytes x
leave_found lanes bytes x e =
    let a = bind_ok (number_at 2 0 31 bytes) (λ y. leave_size y.0 y.1) x (sym (leave_is bytes) ∙ e) in
    let lane = a.0.0 in
    let b = bind_ok (number_at 4 0 0 a.0.1) (λ y. gives (Leave lane) y.1) x a.2 in
    let f0 = number_found 2 0 31 bytes lane a.0.1 lanes_32 a.1 in
    let f1 = number_found 4 0 0 a.0.1 b.0.0 b.0.1 zeros_4 b.1 in
    let made : IsLeave lane = record { of_controller = omega (arith, f0.2) } in
    let joined : bytes ≡ leave_body lane b.0.1 =
    f0.0 ∙ ap (λ (w : List ℕ). digits_of 2 lane ++ w) (f1.0 ∙ ap (λ (w : List ℕ). w ++ b.0.1) (digits_zero 4 b.0.0 f1.2)) in
    let spelled : 4 ∷ bytes ≡ record_bytes (Leave lane) ++ b.0.1 = ap (λ (w : List ℕ). 4 ∷ w) joined ∙ sym (leave_body_is lane b.0.1 made) in
    subst (λ (y : TapeRecord × List ℕ). IsSpelled lanes 4 bytes y) (ok_is {E = ℕ} (Leave lane, b.0.1) x b.2) (spelled, (made, tt))

-- ---- meets

meet_sizes : IsRange 4 6 6
meet_sizes = record { order = omega arith; fits = omega arith }

zeros_1 : IsRange 1 0 0
zeros_1 = record { order = omega arith; fits = omega arith }

-- a controller's lane that has made a call
pub record IsCaller (lanes : Lanes) (controller : ℕ) : Type 0 where
  pub of_controller : controller < 32
  pub has_made : 1 ≤ lanes.calls controller

pub caller : (lanes : Lanes) (controller : ℕ) → has_called lanes controller ≡ true → IsCaller lanes controller
caller lanes controller e =
    let p = and_parts (ltb controller 32) (leb 1 (lanes.calls controller)) e in
    record { of_controller = ltb-true controller 32 p.0; has_made = leb-true 1 (lanes.calls controller) p.1 }

pub caller_called : (lanes : Lanes) (controller : ℕ) → IsCaller lanes controller → has_called lanes controller ≡ true
caller_called lanes controller c = and_from (ltb controller 32) (leb 1 (lanes.calls controller)) (lt-ltb controller 32 c.of_controller) (le-leb 1 (lanes.calls controller) c.has_made)

calls_of : (lanes : Lanes) (controller : ℕ) → IsCaller lanes controller → IsRange 4 1 (last_call lanes controller)
calls_of lanes controller c = record { order = omega (arith, c.has_made); fits = omega arith }

either_true : (x y : Bool) → (x || y) ≡ true → (x ≡ true) ⊎ (y ≡ true)
either_true true y e = inl refl
either_true false y e = inr e

-- where some of the lanes have made a call, one of them is a caller, and the other way round
some_caller : (n : ℕ) (lanes : Lanes) → some_called n lanes ≡ true → (controller : ℕ) × IsCaller lanes controller
some_caller zero lanes e = absurd cc
some_caller (suc n) lanes e =
    elim (either_true (has_called lanes n) (some_called n lanes) e) [
      | inl h ↦ (n, caller lanes n h)
      | inr h ↦ some_caller n lanes h
    ]

last_or_below : (c n : ℕ) → c < suc n → (c ≡ n) ⊎ (c < n)
last_or_below zero zero lt = inl refl
last_or_below zero (suc n) lt = inr (omega arith)
last_or_below (suc c) zero lt = absurd (omega arith)
last_or_below (suc c) (suc n) lt =
    elim (last_or_below c n (omega arith)) [
      | inl same ↦ inl (ap suc same)
      | inr below ↦ inr (omega (arith, below))
    ]

caller_among : (n : ℕ) (lanes : Lanes) (controller : ℕ) → controller < n → has_called lanes controller ≡ true → some_called n lanes ≡ true
caller_among zero lanes controller lt e = absurd (omega arith)
caller_among (suc n) lanes controller lt e =
    elim (last_or_below controller n lt) [
      | inl same ↦ or_left (has_called lanes n) (some_called n lanes) (subst (λ (c : ℕ). has_called lanes c ≡ true) same e)
      | inr below ↦ or_right (has_called lanes n) (some_called n lanes) (caller_among n lanes controller below e)
    ]

pub called_among : (lanes : Lanes) (controller : ℕ) → IsCaller lanes controller → some_called 32 lanes ≡ true
called_among lanes controller c = caller_among 32 lanes controller c.of_controller (caller_called lanes controller c)

abbrev pair_of : ℕ → List ℕ → ℕ × List ℕ
pair_of n rest = (n, rest)

-- the byte of a caller is read, that of another lane is bad
called_again : (lanes : Lanes) (controller : ℕ) (rest : List ℕ) → has_called lanes controller ≡ true → called_at lanes (controller ∷ rest) ≡ Ok (controller, rest)
unfolding called_at
called_again lanes controller rest e = ap (λ (t : Bool). cond t (done (pair_of controller rest)) (failed (suc (length rest)))) e

called_bad : (lanes : Lanes) (b : ℕ) (rest : List ℕ) → has_called lanes b ≡ false → called_at lanes (b ∷ rest) ≡ Err (suc (length rest))
unfolding called_at
called_bad lanes b rest e = ap (λ (t : Bool). cond t (done (pair_of b rest)) (failed (suc (length rest)))) e

-- what is read is the byte of a caller
pub called_found : (lanes : Lanes) (bytes : List ℕ) (controller : ℕ) (rest : List ℕ) → called_at lanes bytes ≡ Ok (controller, rest) → (bytes ≡ controller ∷ rest) × (has_called lanes controller ≡ true)
unfolding called_at
called_found lanes [] controller rest e = clash_err (pair_of controller rest) 0 (sym e)
called_found lanes (b ∷ bytes) controller rest e =
    elim (chosen (has_called lanes b) (done (pair_of b bytes)) (failed (suc (length bytes))) (Ok (controller, rest)) e) [
      | inl c ↦
          let p = ok_is {E = ℕ} (pair_of b bytes) (pair_of controller rest) c.1 in
          (ap (λ (q : ℕ × List ℕ). q.0 ∷ q.1) p, subst (λ (q : ℕ × List ℕ). has_called lanes q.0 ≡ true) p c.0)
      | inr c ↦ clash (pair_of controller rest) (suc (length bytes)) c.1
    ]

called_flawed : (lanes : Lanes) (controller : ℕ) → has_called lanes controller ≡ true → (bytes : List ℕ) (left : ℕ) → called_at lanes bytes ≡ Err left → IsFlawed (called_at lanes) bytes left
unfolding called_at
called_flawed lanes controller is [] left e = record {
  front = [];
  tail = [];
  parts = refl;
  size = err_is {X = ℕ × List ℕ} 0 left e;
  more = controller ∷ [];
  value = controller;
  goes_on = called_again lanes controller [] is;
  worse = λ b rest more h. absurd cc;
}
called_flawed lanes controller is (c ∷ bytes) left e =
    elim (chosen (has_called lanes c) (done (pair_of c bytes)) (failed (suc (length bytes))) (failed left) e) [
      | inl h ↦ clash_err (pair_of c bytes) left h.1
      | inr h ↦ record {
        front = [];
        tail = c ∷ bytes;
        parts = refl;
        size = err_is {X = ℕ × List ℕ} (suc (length bytes)) left h.1;
        more = controller ∷ [];
        value = controller;
        goes_on = called_again lanes controller [] is;
        worse = λ b rest more same_tail. let same : c ≡ b = cc in called_bad lanes b more (subst (λ (d : ℕ). has_called lanes d ≡ false) same h.0);
      }
    ]

called_reader : (lanes : Lanes) (controller : ℕ) → has_called lanes controller ≡ true → IsReader (called_at lanes)
called_reader lanes controller is = record {
  taken = λ bytes value rest e. let f = called_found lanes bytes value rest e in
      record { front = value ∷ []; parts = f.0; again = λ more. called_again lanes value more f.1 };
  flawed = λ bytes left e. called_flawed lanes controller is bytes left e;
  ends = record { bytes = controller ∷ []; value = controller; whole = called_again lanes controller [] is };
}

abbrev pub meet_call : Lanes → ℕ → ℕ → Read TapeRecord
meet_call lanes lane controller = then (number_at 4 1 (last_call lanes controller)) (λ call. gives (Meet lane controller call))

abbrev pub meet_controller : Lanes → ℕ → Read TapeRecord
meet_controller lanes lane = then (called_at lanes) (λ controller. meet_call lanes lane controller)

abbrev pub meet_high : Lanes → ℕ → Read TapeRecord
meet_high lanes lane = then (number_at 1 0 0) (λ high. meet_controller lanes lane)

abbrev pub meet_size : Lanes → ℕ → Read TapeRecord
meet_size lanes lane = then (number_at 4 6 6) (λ size. meet_high lanes lane)

abbrev pub meet_read : Lanes → Read TapeRecord
meet_read lanes = then (number_at 2 0 15) (λ lane. meet_size lanes lane)

pub meet_is : (lanes : Lanes) (bytes : List ℕ) → meet_at lanes bytes ≡ meet_read lanes bytes
unfolding meet_at
meet_is lanes bytes = refl

meet_reader : (lanes : Lanes) → some_called 32 lanes ≡ true → IsReader (meet_at lanes)
meet_reader lanes some =
    let known = some_caller 32 lanes some in
    same_reader (meet_read lanes) (meet_at lanes) (meet_is lanes)
    (then_reader (number_at 2 0 15) (λ lane. meet_size lanes lane) (number_reader 2 0 15 lanes_16) (λ lane.
    then_reader (number_at 4 6 6) (λ size. meet_high lanes lane) (number_reader 4 6 6 meet_sizes) (λ size.
    then_reader (number_at 1 0 0) (λ high. meet_controller lanes lane) (number_reader 1 0 0 zeros_1) (λ high.
    then_reader_so (called_at lanes) (λ controller. meet_call lanes lane controller) (IsCaller lanes) (called_reader lanes known.0 (caller_called lanes known.0 known.1))
    (λ bytes controller rest e. caller lanes controller (called_found lanes bytes controller rest e).1) (λ controller c.
    then_reader (number_at 4 1 (last_call lanes controller)) (λ call. gives (Meet lane controller call)) (number_reader 4 1 (last_call lanes controller) (calls_of lanes controller c)) (λ call. gives_reader (Meet lane controller call)))))))

-- what stands behind the kind of a meet, by digits
abbrev meet_body : ℕ → ℕ → ℕ → List ℕ → List ℕ
meet_body lane controller call rest = digits_of 2 lane ++ (digits_of 4 6 ++ (digits_of 1 0 ++ (controller ∷ (digits_of 4 call ++ rest))))

controller_digits : (n : ℕ) → n < 32 → to_be_bytes w16 n ≡ 0 ∷ n ∷ []
controller_digits n lt = digits_2 n (omega arith) ∙ ap₂ (λ (a b : ℕ). a ∷ b ∷ []) (omega arith) (omega arith)

meet_body_is : (lane controller call : ℕ) (rest : List ℕ) → IsMeet lane controller call → record_bytes (Meet lane controller call) ++ rest ≡ 5 ∷ meet_body lane controller call rest
meet_body_is lane controller call rest c =
    ap₂ (λ (a b : List ℕ). (5 ∷ a ++ b ++ (to_be_bytes w16 controller ++ to_be_bytes w32 call)) ++ rest) (digits_2 lane (omega (arith, c.of_worker))) (digits_4 6 (omega arith))
    ∙ ap₂ (λ (a b : List ℕ). 5 ∷ (digits_of 2 lane ++ (digits_of 4 6 ++ ((a ++ b) ++ rest)))) (controller_digits controller c.of_controller) (digits_4 call (omega (arith, c.in_word)))

meet_again : (lanes : Lanes) (lane controller call : ℕ) (rest : List ℕ) → IsMeet lane controller call → call ≤ lanes.calls controller → meet_at lanes (meet_body lane controller call rest) ≡ Ok (Meet lane controller call, rest)
meet_again lanes lane controller call rest c made =
    let one : IsCaller lanes controller = record { of_controller = c.of_controller; has_made = omega (arith, c.from_one) } in
    let b4 = digits_of 4 call ++ rest in
    let b3 = controller ∷ b4 in
    let b2 = digits_of 1 0 ++ b3 in
    let b1 = digits_of 4 6 ++ b2 in
    let e0 = number_again 2 0 15 lane b1 lanes_16 (omega arith) (omega (arith, c.of_worker)) in
    let e1 = number_again 4 6 6 6 b2 meet_sizes (omega arith) (omega arith) in
    let e2 = number_again 1 0 0 0 b3 zeros_1 (omega arith) (omega arith) in
    let e3 = called_again lanes controller b4 (caller_called lanes controller one) in
    let e4 = number_again 4 1 (last_call lanes controller) call rest (calls_of lanes controller one) c.from_one (omega (arith, c.in_word)) in
    meet_is lanes (digits_of 2 lane ++ b1)
    ∙ ap (λ (r : Result (ℕ × List ℕ) ℕ). r >>= λ x. meet_size lanes x.0 x.1) e0
    ∙ ap (λ (r : Result (ℕ × List ℕ) ℕ). r >>= λ x. meet_high lanes lane x.1) e1
    ∙ ap (λ (r : Result (ℕ × List ℕ) ℕ). r >>= λ x. meet_controller lanes lane x.1) e2
    ∙ ap (λ (r : Result (ℕ × List ℕ) ℕ). r >>= λ x. meet_call lanes lane x.0 x.1) e3
    ∙ ap (λ (r : Result (ℕ × List ℕ) ℕ). r >>= λ x. gives (Meet lane controller x.0) x.1) e4

meet_found : (lanes : Lanes) (bytes : List ℕ) (x : TapeRecord × List ℕ) → meet_at lanes bytes ≡ Ok x → IsSpelled lanes 5 bytes x
meet_found lanes bytes x e =
    let a = bind_ok (number_at 2 0 15 bytes) (λ y. meet_size lanes y.0 y.1) x (sym (meet_is lanes bytes) ∙ e) in
    let lane = a.0.0 in
    let b = bind_ok (number_at 4 6 6 a.0.1) (λ y. meet_high lanes lane y.1) x a.2 in
    let c = bind_ok (number_at 1 0 0 b.0.1) (λ y. meet_controller lanes lane y.1) x b.2 in
    let d = bind_ok (called_at lanes c.0.1) (λ y. meet_call lanes lane y.0 y.1) x c.2 in
    let controller = d.0.0 in
    let g = bind_ok (number_at 4 1 (last_call lanes controller) d.0.1) (λ y. gives (Meet lane controller y.0) y.1) x d.2 in
    let call = g.0.0 in
    let f0 = number_found 2 0 15 bytes lane a.0.1 lanes_16 a.1 in
    let f1 = number_found 4 6 6 a.0.1 b.0.0 b.0.1 meet_sizes b.1 in
    let f2 = number_found 1 0 0 b.0.1 c.0.0 c.0.1 zeros_1 c.1 in
    let f3 = called_found lanes c.0.1 controller d.0.1 d.1 in
    let one = caller lanes controller f3.1 in
    let f4 = number_found 4 1 (last_call lanes controller) d.0.1 call g.0.1 (calls_of lanes controller one) g.1 in
    let fits : IsMeet lane controller call = record { of_worker = omega (arith, f0.2); of_controller = one.of_controller; from_one = f4.1; in_word = omega (arith, f4.2) } in
    let made : call ≤ lanes.calls controller = omega (arith, f4.2) in
    let sized : b.0.0 ≡ 6 = omega (arith, f1.1, f1.2) in
    let joined : bytes ≡ meet_body lane controller call g.0.1 =
    f0.0 ∙ ap (λ (w : List ℕ). digits_of 2 lane ++ w)
    (f1.0 ∙ ap (λ (n : ℕ). digits_of 4 n ++ b.0.1) sized ∙ ap (λ (w : List ℕ). digits_of 4 6 ++ w)
    (f2.0 ∙ ap (λ (w : List ℕ). w ++ c.0.1) (digits_zero 1 c.0.0 f2.2) ∙ ap (λ (w : List ℕ). digits_of 1 0 ++ w)
    (f3.0 ∙ ap (λ (w : List ℕ). controller ∷ w) f4.0))) in
    let spelled : 5 ∷ bytes ≡ record_bytes (Meet lane controller call) ++ g.0.1 = ap (λ (w : List ℕ). 5 ∷ w) joined ∙ sym (meet_body_is lane controller call g.0.1 fits) in
    subst (λ (y : TapeRecord × List ℕ). IsSpelled lanes 5 bytes y) (ok_is {E = ℕ} (Meet lane controller call, g.0.1) x g.2) (spelled, (fits, made))

-- ---- the end record

zeros_2 : IsRange 2 0 0
zeros_2 = record { order = omega arith; fits = omega arith }

-- an item behind its kind
abbrev Item : Type 0
Item = Option TapeRecord

abbrev end_size : Read Item
end_size = then (number_at 4 0 0) (λ size. gives None)

abbrev end_read : Read Item
end_read = then (number_at 2 0 0) (λ lane. end_size)

regroup : {A B C E : Type 0} (r : Result A E) (f : A → Result B E) (g : B → Result C E) → (r >>= f) >>= g ≡ (r >>= λ x. f x >>= g)
regroup (Ok x) f g = refl
regroup (Err e) f g = refl

abbrev end_item : List ℕ → Result (Item × List ℕ) ℕ
end_item bytes = end_at bytes >>= λ rest. Ok (None, rest)

end_after : (r : Result (ℕ × List ℕ) ℕ) → (r >>= λ lane. (number_at 4 0 0 lane.1 >>= λ size. Ok size.1) >>= λ rest. gives {X = Item} None rest) ≡ (r >>= λ lane. end_size lane.1)
end_after (Ok lane) = regroup (number_at 4 0 0 lane.1) (λ size. Ok size.1) (λ rest. gives {X = Item} None rest)
end_after (Err left) = refl

end_is : (bytes : List ℕ) → end_item bytes ≡ end_read bytes
unfolding end_at
end_is bytes =
    regroup (number_at 2 0 0 bytes) (λ lane. number_at 4 0 0 lane.1 >>= λ size. Ok size.1) (λ rest. Ok (None, rest))
    ∙ end_after (number_at 2 0 0 bytes)

pub end_reader : IsReader end_item
end_reader = same_reader end_read end_item end_is
    (then_reader (number_at 2 0 0) (λ lane. end_size) (number_reader 2 0 0 zeros_2) (λ lane.
    then_reader (number_at 4 0 0) (λ size. gives None) (number_reader 4 0 0 zeros_4) (λ size. gives_reader None)))

end_again : (rest : List ℕ) → end_item (0 ∷ 0 ∷ 0 ∷ 0 ∷ 0 ∷ 0 ∷ rest) ≡ Ok (None, rest)
end_again rest =
    end_is (0 ∷ 0 ∷ 0 ∷ 0 ∷ 0 ∷ 0 ∷ rest)
    ∙ ap (λ (r : Result (ℕ × List ℕ) ℕ). r >>= λ x. end_size x.1) (number_again 2 0 0 0 (0 ∷ 0 ∷ 0 ∷ 0 ∷ rest) zeros_2 (omega arith) (omega arith))
    ∙ ap (λ (r : Result (ℕ × List ℕ) ℕ). r >>= λ x. gives {X = Item} None x.1) (number_again 4 0 0 0 rest zeros_4 (omega arith) (omega arith))

end_found : (bytes : List ℕ) (x : Item × List ℕ) → end_item bytes ≡ Ok x → (0 ∷ bytes ≡ end_bytes ++ x.1) × (None ≡ x.0)
end_found bytes x e =
    let a = bind_ok (number_at 2 0 0 bytes) (λ y. end_size y.1) x (sym (end_is bytes) ∙ e) in
    let b = bind_ok (number_at 4 0 0 a.0.1) (λ y. gives {X = Item} None y.1) x a.2 in
    let f0 = number_found 2 0 0 bytes a.0.0 a.0.1 zeros_2 a.1 in
    let f1 = number_found 4 0 0 a.0.1 b.0.0 b.0.1 zeros_4 b.1 in
    let p = ok_is {A = Item × List ℕ} {E = ℕ} (None, b.0.1) x b.2 in
    let joined : bytes ≡ 0 ∷ 0 ∷ 0 ∷ 0 ∷ 0 ∷ 0 ∷ b.0.1 =
    f0.0 ∙ ap (λ (w : List ℕ). w ++ a.0.1) (digits_zero 2 a.0.0 f0.2) ∙ ap (λ (w : List ℕ). 0 ∷ 0 ∷ w) (f1.0 ∙ ap (λ (w : List ℕ). w ++ b.0.1) (digits_zero 4 b.0.0 f1.2)) in
    (ap (λ (w : List ℕ). 0 ∷ w) joined ∙ ap (λ (q : Item × List ℕ). end_bytes ++ q.1) p, ap (λ (q : Item × List ℕ). q.0) p)

-- ---- items: a record, or the end record

abbrev pub item_bytes : Option TapeRecord → List ℕ
item_bytes None = end_bytes
item_bytes (Some first) = record_bytes first

abbrev pub IsItem : Lanes → Option TapeRecord → Type 0
IsItem lanes None = Unit {0}
IsItem lanes (Some first) = MayStand lanes first

abbrev some_of : Read TapeRecord → Read Item
some_of read = then read (λ first. gives (Some first))

item_0 : (lanes : Lanes) (bytes : List ℕ) → item_at lanes (0 ∷ bytes) ≡ end_item bytes
unfolding item_at
item_0 lanes bytes = refl

item_1 : (lanes : Lanes) (bytes : List ℕ) → item_at lanes (1 ∷ bytes) ≡ some_of call_at bytes
unfolding item_at
item_1 lanes bytes = refl

item_2 : (lanes : Lanes) (bytes : List ℕ) → item_at lanes (2 ∷ bytes) ≡ some_of packet_at bytes
unfolding item_at
item_2 lanes bytes = refl

item_4 : (lanes : Lanes) (bytes : List ℕ) → item_at lanes (4 ∷ bytes) ≡ some_of leave_at bytes
unfolding item_at
item_4 lanes bytes = refl

item_5 : (lanes : Lanes) → some_called 32 lanes ≡ true → (bytes : List ℕ) → item_at lanes (5 ∷ bytes) ≡ some_of (meet_at lanes) bytes
unfolding item_at
item_5 lanes some bytes = ap (λ (t : Bool). cond t (some_of (meet_at lanes) bytes) (failed (suc (length bytes)))) some

-- a kind that no record has, or none that may stand where the lanes are so
abbrev IsUnknown : Lanes → ℕ → Type 0
IsUnknown lanes kind = (kind ≡ 3) ⊎ ((5 < kind) ⊎ ((kind ≡ 5) × (some_called 32 lanes ≡ false)))

item_other : (lanes : Lanes) (kind : ℕ) (bytes : List ℕ) → IsUnknown lanes kind → item_at lanes (kind ∷ bytes) ≡ Err (suc (length bytes))
unfolding item_at
item_other lanes kind bytes (inl is) = ap (λ (k : ℕ). item_at lanes (k ∷ bytes)) is
item_other lanes kind bytes (inr (inl gt)) =
    let n0 : eqb kind 0 ≡ false = ne_eqb kind 0 (λ e. omega arith) in
    let n1 : eqb kind 1 ≡ false = ne_eqb kind 1 (λ e. omega arith) in
    let n2 : eqb kind 2 ≡ false = ne_eqb kind 2 (λ e. omega arith) in
    let n4 : eqb kind 4 ≡ false = ne_eqb kind 4 (λ e. omega arith) in
    let n5 : eqb kind 5 ≡ false = ne_eqb kind 5 (λ e. omega arith) in
    rw (n0, n1, n2, n4, n5) refl
item_other lanes kind bytes (inr (inr none)) =
    ap (λ (k : ℕ). item_at lanes (k ∷ bytes)) none.0 ∙ ap (λ (t : Bool). cond t (some_of (meet_at lanes) bytes) (failed (suc (length bytes)))) none.1

item_none : (lanes : Lanes) → item_at lanes [] ≡ Err 0
unfolding item_at
item_none lanes = refl

-- what a kind is where the lanes are so
abbrev IsKind : Lanes → ℕ → Type 0
IsKind lanes kind = (kind ≡ 0) ⊎ ((kind ≡ 1) ⊎ ((kind ≡ 2) ⊎ ((kind ≡ 4) ⊎ (((kind ≡ 5) × (some_called 32 lanes ≡ true)) ⊎ IsUnknown lanes kind))))

kind_5 : (lanes : Lanes) (t : Bool) → some_called 32 lanes ≡ t → IsKind lanes 5
kind_5 lanes true e = inr (inr (inr (inr (inl (refl, e)))))
kind_5 lanes false e = inr (inr (inr (inr (inr (inr (inr (refl, e)))))))

which_kind : (lanes : Lanes) (kind : ℕ) → IsKind lanes kind
which_kind lanes zero = inl refl
which_kind lanes (suc zero) = inr (inl refl)
which_kind lanes (suc (suc zero)) = inr (inr (inl refl))
which_kind lanes (suc (suc (suc zero))) = inr (inr (inr (inr (inr (inl refl)))))
which_kind lanes (suc (suc (suc (suc zero)))) = inr (inr (inr (inl refl)))
which_kind lanes (suc (suc (suc (suc (suc zero))))) = kind_5 lanes (some_called 32 lanes) refl
which_kind lanes (suc (suc (suc (suc (suc (suc k)))))) = inr (inr (inr (inr (inr (inr (inl (omega arith)))))))

abbrev IsItemSpelled : Lanes → List ℕ → Item × List ℕ → Type 0
IsItemSpelled lanes bytes x = (bytes ≡ item_bytes x.0 ++ x.1) × IsItem lanes x.0

some_found : (lanes : Lanes) (kind : ℕ) (read : Read TapeRecord) (bytes : List ℕ) (x : Item × List ℕ) → ((y : TapeRecord × List ℕ) → read bytes ≡ Ok y → IsSpelled lanes kind bytes y) → some_of read bytes ≡ Ok x → IsItemSpelled lanes (kind ∷ bytes) x
some_found lanes kind read bytes x found e =
    let a = bind_ok (read bytes) (λ y. gives (Some y.0) y.1) x e in
    let f = found a.0 a.1 in
    subst (λ (q : Item × List ℕ). IsItemSpelled lanes (kind ∷ bytes) q) (ok_is {E = ℕ} (Some a.0.0, a.0.1) x a.2) f

none_found : (lanes : Lanes) (bytes : List ℕ) (x : Item × List ℕ) → end_item bytes ≡ Ok x → IsItemSpelled lanes (0 ∷ bytes) x
none_found lanes bytes x e =
    let f = end_found bytes x e in
    (f.0 ∙ ap (λ (o : Item). item_bytes o ++ x.1) f.1, subst (IsItem lanes) f.1 tt)

-- the claim that an item behind this kind is spelled so
abbrev IsFoundAt : Lanes → List ℕ → Item × List ℕ → ℕ → Type 0
IsFoundAt lanes bytes x kind = item_at lanes (kind ∷ bytes) ≡ Ok x → IsItemSpelled lanes (kind ∷ bytes) x

found_at : (lanes : Lanes) (kind : ℕ) (bytes : List ℕ) (x : Item × List ℕ) → IsFoundAt lanes bytes x kind
found_at lanes kind bytes x e =
    elim (which_kind lanes kind) [
      | inl k ↦ subst (IsFoundAt lanes bytes x) (sym k) (λ h. none_found lanes bytes x (sym (item_0 lanes bytes) ∙ h)) e
      | inr (inl k) ↦ subst (IsFoundAt lanes bytes x) (sym k) (λ h. some_found lanes 1 call_at bytes x (call_found lanes bytes) (sym (item_1 lanes bytes) ∙ h)) e
      | inr (inr (inl k)) ↦ subst (IsFoundAt lanes bytes x) (sym k) (λ h. some_found lanes 2 packet_at bytes x (packet_found lanes bytes) (sym (item_2 lanes bytes) ∙ h)) e
      | inr (inr (inr (inl k))) ↦ subst (IsFoundAt lanes bytes x) (sym k) (λ h. some_found lanes 4 leave_at bytes x (leave_found lanes bytes) (sym (item_4 lanes bytes) ∙ h)) e
      | inr (inr (inr (inr (inl k)))) ↦ subst (IsFoundAt lanes bytes x) (sym k.0) (λ h. some_found lanes 5 (meet_at lanes) bytes x (meet_found lanes bytes) (sym (item_5 lanes k.1 bytes) ∙ h)) e
      | inr (inr (inr (inr (inr k)))) ↦ clash_err x (suc (length bytes)) (sym e ∙ item_other lanes kind bytes k)
    ]

-- an item that is read is spelled so
pub item_found : (lanes : Lanes) (bytes : List ℕ) (x : Option TapeRecord × List ℕ) → item_at lanes bytes ≡ Ok x → (bytes ≡ item_bytes x.0 ++ x.1) × IsItem lanes x.0
item_found lanes [] x e = clash_err x 0 (sym e ∙ item_none lanes)
item_found lanes (kind ∷ bytes) x e = found_at lanes kind bytes x e

-- an item that is spelled so is read
pub item_again : (lanes : Lanes) (o : Option TapeRecord) (rest : List ℕ) → IsItem lanes o → item_at lanes (item_bytes o ++ rest) ≡ Ok (o, rest)
item_again lanes None rest fits = item_0 lanes (0 ∷ 0 ∷ 0 ∷ 0 ∷ 0 ∷ 0 ∷ rest) ∙ end_again rest
item_again lanes (Some (Call lane method message)) rest fits =
    ap (item_at lanes) (call_body_is lane method message rest fits.0) ∙ item_1 lanes (call_body lane (suc (length message)) (method_number method) message rest)
    ∙ ap (λ (r : Result (TapeRecord × List ℕ) ℕ). r >>= λ x. gives {X = Item} (Some x.0) x.1) (call_again lane method message rest fits.0)
item_again lanes (Some (Packet lane port packet)) rest fits =
    ap (item_at lanes) (packet_body_is lane port packet rest fits.0) ∙ item_2 lanes (packet_body lane (suc (suc (length packet))) port packet rest)
    ∙ ap (λ (r : Result (TapeRecord × List ℕ) ℕ). r >>= λ x. gives {X = Item} (Some x.0) x.1) (packet_again lane port packet rest fits.0)
item_again lanes (Some (Leave lane)) rest fits =
    ap (item_at lanes) (leave_body_is lane rest fits.0) ∙ item_4 lanes (leave_body lane rest)
    ∙ ap (λ (r : Result (TapeRecord × List ℕ) ℕ). r >>= λ x. gives {X = Item} (Some x.0) x.1) (leave_again lane rest fits.0)
item_again lanes (Some (Meet lane controller call)) rest fits =
    let one : IsCaller lanes controller = record { of_controller = fits.0.of_controller; has_made = omega (arith, fits.0.from_one, fits.1) } in
    ap (item_at lanes) (meet_body_is lane controller call rest fits.0) ∙ item_5 lanes (called_among lanes controller one) (meet_body lane controller call rest)
    ∙ ap (λ (r : Result (TapeRecord × List ℕ) ℕ). r >>= λ x. gives {X = Item} (Some x.0) x.1) (meet_again lanes lane controller call rest fits.0 fits.1)

-- a flaw behind a kind
behind : (lanes : Lanes) (kind : ℕ) (read : Read Item) (bytes : List ℕ) (left : ℕ) → ((more : List ℕ) → item_at lanes (kind ∷ more) ≡ read more) → IsReader read → item_at lanes (kind ∷ bytes) ≡ Err left → IsFlawed (item_at lanes) (kind ∷ bytes) left
behind lanes kind read bytes left is r e =
    let f = r.flawed bytes left (sym (is bytes) ∙ e) in
    record {
      front = kind ∷ f.front;
      tail = f.tail;
      parts = ap (λ (w : List ℕ). kind ∷ w) f.parts;
      size = f.size;
      more = f.more;
      value = f.value;
      goes_on = is (f.front ++ f.more) ∙ f.goes_on;
      worse = λ b rest more h. is (f.front ++ b ∷ more) ∙ f.worse b rest more h;
    }

-- no item begins with this kind, or with no kind at all
unknown_kind : (lanes : Lanes) (kind : ℕ) (bytes : List ℕ) (left : ℕ) → IsUnknown lanes kind → item_at lanes (kind ∷ bytes) ≡ Err left → IsFlawed (item_at lanes) (kind ∷ bytes) left
unknown_kind lanes kind bytes left unknown e = record {
  front = [];
  tail = kind ∷ bytes;
  parts = refl;
  size = err_is {X = Item × List ℕ} (suc (length bytes)) left (sym (item_other lanes kind bytes unknown) ∙ e);
  more = end_bytes;
  value = None;
  goes_on = item_again lanes None [] tt;
  worse = λ b rest more h. let same : kind ≡ b = cc in ap (λ (k : ℕ). item_at lanes (k ∷ more)) (sym same) ∙ item_other lanes kind more unknown;
}

-- the claim that the flaw of an item behind this kind is exact
abbrev IsFlawedAt : Lanes → List ℕ → ℕ → ℕ → Type 0
IsFlawedAt lanes bytes left kind = item_at lanes (kind ∷ bytes) ≡ Err left → IsFlawed (item_at lanes) (kind ∷ bytes) left

some_reader : (read : Read TapeRecord) → IsReader read → IsReader (some_of read)
some_reader read r = then_reader read (λ first. gives (Some first)) r (λ first. gives_reader (Some first))

flaw_at : (lanes : Lanes) (kind : ℕ) (bytes : List ℕ) (left : ℕ) → IsFlawedAt lanes bytes left kind
flaw_at lanes kind bytes left e =
    elim (which_kind lanes kind) [
      | inl k ↦ subst (IsFlawedAt lanes bytes left) (sym k) (behind lanes 0 end_item bytes left (item_0 lanes) end_reader) e
      | inr (inl k) ↦ subst (IsFlawedAt lanes bytes left) (sym k) (behind lanes 1 (some_of call_at) bytes left (item_1 lanes) (some_reader call_at call_reader)) e
      | inr (inr (inl k)) ↦ subst (IsFlawedAt lanes bytes left) (sym k) (behind lanes 2 (some_of packet_at) bytes left (item_2 lanes) (some_reader packet_at packet_reader)) e
      | inr (inr (inr (inl k))) ↦ subst (IsFlawedAt lanes bytes left) (sym k) (behind lanes 4 (some_of leave_at) bytes left (item_4 lanes) (some_reader leave_at leave_reader)) e
      | inr (inr (inr (inr (inl k)))) ↦ subst (IsFlawedAt lanes bytes left) (sym k.0) (behind lanes 5 (some_of (meet_at lanes)) bytes left (item_5 lanes k.1) (some_reader (meet_at lanes) (meet_reader lanes k.1))) e
      | inr (inr (inr (inr (inr k)))) ↦ unknown_kind lanes kind bytes left k e
    ]

-- the place of an item's flaw is exact
pub item_flawed : (lanes : Lanes) (bytes : List ℕ) (left : ℕ) → item_at lanes bytes ≡ Err left → IsFlawed (item_at lanes) bytes left
item_flawed lanes [] left e = record {
  front = [];
  tail = [];
  parts = refl;
  size = err_is {X = Item × List ℕ} 0 left (sym (item_none lanes) ∙ e);
  more = end_bytes;
  value = None;
  goes_on = item_again lanes None [] tt;
  worse = λ b rest more h. absurd cc;
}
item_flawed lanes (kind ∷ bytes) left e = flaw_at lanes kind bytes left e
