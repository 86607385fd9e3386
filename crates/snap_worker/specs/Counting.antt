-- How a seat of the counters counts what a packet hit.
use Rattle.std.specs.Prelude.{ℕ, ◌<◌, List, fold, Some, None}
use Rattle.counter_bank.specs.Account.{Account, after_hit}
use Rattle.p4_types.specs.declared.records.HitMark.{HitMark}
use Rattle.p4_types.specs.declared.records.HitMark.TheVariants as marks

-- the seat after a hit of a packet of so many bytes: at its slot, if it has one, one packet and these bytes
abbrev pub after_mark : ℕ → Account → HitMark → Account
after_mark bytes seat (marks.Entry table seq None) = seat
after_mark bytes seat (marks.Entry table seq (Some slot)) = after_hit seat slot bytes
after_mark bytes seat (marks.Cell slot) = after_hit seat slot bytes

-- the seat after all hits of a packet
abbrev pub after_packet : ℕ → List HitMark → Account → Account
after_packet bytes hits seat = fold (after_mark bytes) seat hits

-- the slot of a hit, if it has one, is one of so many
abbrev pub IsWithin : ℕ → HitMark → Type 0
IsWithin slots (marks.Entry table seq None) = Unit {0}
IsWithin slots (marks.Entry table seq (Some slot)) = slot < slots
IsWithin slots (marks.Cell slot) = slot < slots
