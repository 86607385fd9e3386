-- Short tapes and what they are answered.
use Rattle.std.proofs.Common.{◌≡◌, [], ◌∷◌, ◌++◌, Ok, Err, refl}
use Rattle.list_types.specs.declared.memory.Refusal.TheVariants as refusals
use Rattle.p4_types.specs.declared.calls.Method.TheVariants.{Capabilities}
use Rattle.p4_types.specs.declared.tape.TapeRecord.TheVariants.{Call}
use Rattle.run_spec.specs.Tape.{magic, end_bytes}
use Rattle.run_spec.specs.TapeReading.{number_at, bytes_at, text_at, packet_at, called_at, meet_at, end_at}
use Rattle.tape_spec.specs.declared.item.TapeItem.TheVariants.{Record, Bytes}
use Rattle.tape_spec.specs.Reading.{low_at, lane_at, call_at, piece_at, leave_at, item_at, items_at, tape_at}
use Rattle.tape_form.specs.declared.fault.TapeFault.TheVariants as faults
use Rattle.tape_form.specs.declared.fault.Ended.TheVariants.{AtEnd, AtFault}
use Rattle.tape_form.specs.TapeRead.{outcome}

pub no_records : outcome (magic ++ end_bytes) AtEnd ≡ Ok []
unfolding number_at bytes_at text_at low_at lane_at call_at piece_at packet_at leave_at called_at meet_at end_at item_at items_at tape_at
no_records = refl

pub nothing : outcome [] AtEnd ≡ Err (refusals.For (faults.Bad 0))
unfolding number_at bytes_at text_at low_at lane_at call_at piece_at packet_at leave_at called_at meet_at end_at item_at items_at tape_at
nothing = refl

pub kind_6 : outcome (magic ++ 6 ∷ []) AtEnd ≡ Err (refusals.For (faults.Bad 8))
unfolding number_at bytes_at text_at low_at lane_at call_at piece_at packet_at leave_at called_at meet_at end_at item_at items_at tape_at
kind_6 = refl

pub kind_5 : outcome (magic ++ 5 ∷ []) AtEnd ≡ Err (refusals.For (faults.Bad 8))
unfolding number_at bytes_at text_at low_at lane_at call_at piece_at packet_at leave_at called_at meet_at end_at item_at items_at tape_at
kind_5 = refl

pub lane_32 : outcome (magic ++ 1 ∷ 0 ∷ 32 ∷ []) AtEnd ≡ Err (refusals.For (faults.Bad 10))
unfolding number_at bytes_at text_at low_at lane_at call_at piece_at packet_at leave_at called_at meet_at end_at item_at items_at tape_at
lane_32 = refl

pub size_0 : outcome (magic ++ 1 ∷ 0 ∷ 0 ∷ 0 ∷ 0 ∷ 0 ∷ 0 ∷ []) AtEnd ≡ Err (refusals.For (faults.Bad 14))
unfolding number_at bytes_at text_at low_at lane_at call_at piece_at packet_at leave_at called_at meet_at end_at item_at items_at tape_at
size_0 = refl

pub method_7 : outcome (magic ++ 1 ∷ 0 ∷ 0 ∷ 0 ∷ 0 ∷ 0 ∷ 1 ∷ 7 ∷ []) AtEnd ≡ Err (refusals.For (faults.Bad 15))
unfolding number_at bytes_at text_at low_at lane_at call_at piece_at packet_at leave_at called_at meet_at end_at item_at items_at tape_at
method_7 = refl

pub long_packet : outcome (magic ++ 2 ∷ 0 ∷ 0 ∷ 0 ∷ 0 ∷ 36 ∷ 3 ∷ []) AtEnd ≡ Err (refusals.For (faults.Bad 14))
unfolding number_at bytes_at text_at low_at lane_at call_at piece_at packet_at leave_at called_at meet_at end_at item_at items_at tape_at
long_packet = refl

pub byte_behind : outcome (magic ++ (end_bytes ++ 0 ∷ [])) AtEnd ≡ Err (refusals.For (faults.Bad 15))
unfolding number_at bytes_at text_at low_at lane_at call_at piece_at packet_at leave_at called_at meet_at end_at item_at items_at tape_at
byte_behind = refl

pub call : outcome (magic ++ (1 ∷ 0 ∷ 31 ∷ 0 ∷ 0 ∷ 0 ∷ 2 ∷ 6 ∷ 9 ∷ []) ++ end_bytes) AtEnd ≡ Ok (Record (Call 31 Capabilities (9 ∷ [])) ∷ [])
unfolding number_at bytes_at text_at low_at lane_at call_at piece_at packet_at leave_at called_at meet_at end_at item_at items_at tape_at
call = refl

pub packet_then_fault : outcome (magic ++ (2 ∷ 0 ∷ 15 ∷ 0 ∷ 0 ∷ 0 ∷ 2 ∷ 1 ∷ 254 ∷ [])) AtFault ≡ Err (refusals.For faults.Fault)
unfolding number_at bytes_at text_at low_at lane_at call_at piece_at packet_at leave_at called_at meet_at end_at item_at items_at tape_at
packet_then_fault = refl

pub bad_before_fault : outcome (magic ++ (2 ∷ 0 ∷ 15 ∷ 0 ∷ 0 ∷ 0 ∷ 2 ∷ 1 ∷ 255 ∷ [])) AtFault ≡ Err (refusals.For (faults.Bad 16))
unfolding number_at bytes_at text_at low_at lane_at call_at piece_at packet_at leave_at called_at meet_at end_at item_at items_at tape_at
bad_before_fault = refl

pub piece : outcome (magic ++ (3 ∷ 0 ∷ 31 ∷ 0 ∷ 0 ∷ 0 ∷ 1 ∷ 80 ∷ []) ++ end_bytes) AtEnd ≡ Ok (Bytes 31 (80 ∷ []) ∷ [])
unfolding number_at bytes_at text_at low_at lane_at call_at piece_at packet_at leave_at called_at meet_at end_at item_at items_at tape_at
piece = refl

pub no_piece : outcome (magic ++ 3 ∷ 0 ∷ 0 ∷ 0 ∷ 0 ∷ 0 ∷ 0 ∷ []) AtEnd ≡ Err (refusals.For (faults.Bad 14))
unfolding number_at bytes_at text_at low_at lane_at call_at piece_at packet_at leave_at called_at meet_at end_at item_at items_at tape_at
no_piece = refl

-- a lane that brings bytes has no record of a call, and leaves once
pub call_on_bytes : outcome (magic ++ ((3 ∷ 0 ∷ 1 ∷ 0 ∷ 0 ∷ 0 ∷ 1 ∷ 80 ∷ []) ++ 1 ∷ 0 ∷ 1 ∷ [])) AtEnd ≡ Err (refusals.For (faults.Bad 18))
unfolding number_at bytes_at text_at low_at lane_at call_at piece_at packet_at leave_at called_at meet_at end_at item_at items_at tape_at
call_on_bytes = refl

pub two_leaves : outcome (magic ++ ((3 ∷ 0 ∷ 1 ∷ 0 ∷ 0 ∷ 0 ∷ 1 ∷ 80 ∷ []) ++ (4 ∷ 0 ∷ 1 ∷ 0 ∷ 0 ∷ 0 ∷ 0 ∷ []) ++ 4 ∷ 0 ∷ 1 ∷ [])) AtEnd ≡ Err (refusals.For (faults.Bad 25))
unfolding number_at bytes_at text_at low_at lane_at call_at piece_at packet_at leave_at called_at meet_at end_at item_at items_at tape_at
two_leaves = refl
