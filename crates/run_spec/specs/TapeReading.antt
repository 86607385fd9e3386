-- Records of a tape read from left to right. An error says how many bytes are left from the first bad byte on; 0 says that bytes are missing.
use Rattle.std.specs.Prelude.{ℕ, zero, suc, ◌+◌, ◌-◌, ◌*◌, ◌^◌, min, nat_lt, nat_le, ◌==◌, ◌||◌, ◌&&◌, Bool, false, if◌then◌else◌, List, [], ◌∷◌, length, take, drop, Option, Some, None, Result, Ok, Err}
use Rattle.p4_types.specs.declared.calls.Method.{Method}
use Rattle.p4_types.specs.declared.calls.Method.TheVariants as methods
use Rattle.p4_types.specs.declared.tape.TapeRecord.{TapeRecord}
use Rattle.p4_types.specs.declared.tape.TapeRecord.TheVariants.{Call, Packet, Leave, Meet}
use Rattle.list_types.specs.Results.{◌>>=◌}
use Rattle.run_spec.specs.Tape.{Lanes}

-- A big-endian number of so many bytes, at least low and at most high, and the bytes after it. A byte is bad
-- as soon as no number of that range begins with the bytes up to it.
unfoldable pub number_at : ℕ → ℕ → ℕ → List ℕ → Result (ℕ × List ℕ) ℕ
number_at zero low high bytes = Ok (0, bytes)
number_at (suc k) low high [] = Err 0
number_at (suc k) low high (b ∷ rest) =
    if nat_lt high (b * 256 ^ k) || nat_lt (b * 256 ^ k + (256 ^ k - 1)) low then Err (length (b ∷ rest))
    else (number_at k (low - b * 256 ^ k) (min (high - b * 256 ^ k) (256 ^ k - 1)) rest >>= λ x. Ok (b * 256 ^ k + x.0, x.1))

-- so many bytes, and the bytes after them
unfoldable pub bytes_at : ℕ → List ℕ → Result (List ℕ × List ℕ) ℕ
bytes_at n bytes = if nat_lt (length bytes) n then Err 0 else Ok (take n bytes, drop n bytes)

-- these bytes, and the bytes after them
unfoldable pub text_at : List ℕ → List ℕ → Result (List ℕ) ℕ
text_at [] bytes = Ok bytes
text_at (c ∷ text) [] = Err 0
text_at (c ∷ text) (b ∷ bytes) = if b == c then text_at text bytes else Err (length (b ∷ bytes))

-- a method by its number, 1 to 6
abbrev pub method_of : ℕ → Method
method_of n =
    if n == 1 then methods.Write else
    if n == 2 then methods.Read else
    if n == 3 then methods.SetForwardingPipelineConfig else
    if n == 4 then methods.GetForwardingPipelineConfig else
    if n == 5 then methods.StreamChannel else methods.Capabilities

-- what stands behind the kind of a call
unfoldable pub call_at : List ℕ → Result (TapeRecord × List ℕ) ℕ
call_at bytes = do
  lane ← number_at 2 0 31 bytes
  size ← number_at 4 1 8388609 lane.1
  method ← number_at 1 1 6 size.1
  message ← bytes_at (size.0 - 1) method.1
  Ok (Call lane.0 (method_of method.0) message.0, message.1)

-- what stands behind the kind of a packet
unfoldable pub packet_at : List ℕ → Result (TapeRecord × List ℕ) ℕ
packet_at bytes = do
  lane ← number_at 2 0 15 bytes
  size ← number_at 4 2 9218 lane.1
  port ← number_at 2 0 510 size.1
  packet ← bytes_at (size.0 - 2) port.1
  Ok (Packet lane.0 port.0 packet.0, packet.1)

-- what stands behind the kind of a stream's end
unfoldable pub leave_at : List ℕ → Result (TapeRecord × List ℕ) ℕ
leave_at bytes = do
  lane ← number_at 2 0 31 bytes
  size ← number_at 4 0 0 lane.1
  Ok (Leave lane.0, size.1)

-- whether a controller's lane of this number has made a call
abbrev pub has_called : Lanes → ℕ → Bool
has_called lanes controller = nat_lt controller 32 && nat_le 1 (lanes.calls controller)

-- whether one of the first so many controllers' lanes has made a call
abbrev pub some_called : ℕ → Lanes → Bool
some_called zero lanes = false
some_called (suc n) lanes = has_called lanes n || some_called n lanes

-- in one byte a controller's lane that has made a call, and the bytes after it
unfoldable pub called_at : Lanes → List ℕ → Result (ℕ × List ℕ) ℕ
called_at lanes [] = Err 0
called_at lanes (b ∷ rest) = if has_called lanes b then Ok (b, rest) else Err (length (b ∷ rest))

-- the greatest number of a call that a lane has made, of those in 32 bits
abbrev pub last_call : Lanes → ℕ → ℕ
last_call lanes controller = min (lanes.calls controller) 4294967295

-- what stands behind the kind of a meet; the first byte of the controller's lane is 0
unfoldable pub meet_at : Lanes → List ℕ → Result (TapeRecord × List ℕ) ℕ
meet_at lanes bytes = do
  lane ← number_at 2 0 15 bytes
  size ← number_at 4 6 6 lane.1
  high ← number_at 1 0 0 size.1
  controller ← called_at lanes high.1
  call ← number_at 4 1 (last_call lanes controller.0) controller.1
  Ok (Meet lane.0 controller.0 call.0, call.1)

-- what stands behind the kind of the end record
unfoldable pub end_at : List ℕ → Result (List ℕ) ℕ
end_at bytes = do
  lane ← number_at 2 0 0 bytes
  size ← number_at 4 0 0 lane.1
  Ok size.1

-- A record, or None for the end record, and the bytes after it, where the lanes are so. A meet may stand only where some call was made.
unfoldable pub item_at : Lanes → List ℕ → Result (Option TapeRecord × List ℕ) ℕ
item_at lanes [] = Err 0
item_at lanes (kind ∷ bytes) =
    if kind == 0 then (end_at bytes >>= λ rest. Ok (None, rest))
    else if kind == 1 then (call_at bytes >>= λ x. Ok (Some x.0, x.1))
    else if kind == 2 then (packet_at bytes >>= λ x. Ok (Some x.0, x.1))
    else if kind == 4 then (leave_at bytes >>= λ x. Ok (Some x.0, x.1))
    else if kind == 5 && some_called 32 lanes then (meet_at lanes bytes >>= λ x. Ok (Some x.0, x.1))
    else Err (length (kind ∷ bytes))
