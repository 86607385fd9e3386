-- Worked runs, each with the bytes of its tape and the text of its report.
use Rattle.std.specs.Prelude.{◌≡◌, ℕ, true, false, List, [], ◌∷◌, codes}
use Rattle.hex.specs.Hex.{encode_lower}
use Rattle.p4_types.specs.declared.calls.Method.TheVariants as methods
use Rattle.p4_types.specs.declared.events.Start.{Start}
use Rattle.p4_types.specs.declared.tape.TapeRecord.{TapeRecord}
use Rattle.p4_types.specs.declared.tape.TapeRecord.TheVariants.{Call, Packet, Leave, Meet}
use Rattle.wire_fields.specs.Spelling.{spelling, number_field, bytes_field}
use Rattle.plane_spec.specs.Bridge.{bridge_table, forward_action}
use Rattle.run_spec.specs.Report.{IsLockstepReport}
use Rattle.run_spec.specs.Tape.{tape_bytes}

-- with what `replay --lockstep --bridge` starts
abbrev pub bridge_start : Start
bridge_start = record { device = 1; cpu = 255; rows = 16384; slots = 1048576; bridge = true }

-- with what `replay --lockstep` starts
abbrev pub bare_start : Start
bare_start = record { device = 1; cpu = 255; rows = 16384; slots = 1048576; bridge = false }

-- the tape is spelled so in hex, and this is its report
pub record IsWorked (start : Start) (tape : List TapeRecord) (spelled text : List ℕ) : Type 0 where
  pub bytes : encode_lower (tape_bytes tape) ≡ spelled
  pub report : IsLockstepReport start tape text

-- an exact match of field 1 (FieldMatch)
abbrev pub match_bytes : ℕ → List ℕ
match_bytes address = spelling (number_field 1 1 ∷ bytes_field 2 (spelling (bytes_field 1 (address ∷ []) ∷ [])) ∷ [])

-- the action that sends to port 2 (TableAction, Action, Param)
abbrev pub action_bytes : List ℕ
action_bytes = spelling (bytes_field 1 (spelling (number_field 1 forward_action
    ∷ bytes_field 4 (spelling (number_field 2 1 ∷ bytes_field 3 (2 ∷ []) ∷ [])) ∷ [])) ∷ [])

-- the entry (TableEntry)
abbrev pub entry_bytes : ℕ → List ℕ
entry_bytes address = spelling (number_field 1 bridge_table ∷ bytes_field 2 (match_bytes address) ∷ bytes_field 3 action_bytes ∷ [])

-- an update of type INSERT (Update, Entity)
abbrev pub update_bytes : ℕ → List ℕ
update_bytes address = spelling (number_field 1 1 ∷ bytes_field 2 (spelling (bytes_field 2 (entry_bytes address) ∷ [])) ∷ [])

-- a WriteRequest by device 1 and election id 1 with this one update
abbrev pub insert_bytes : ℕ → List ℕ
insert_bytes address = spelling (number_field 1 1 ∷ bytes_field 3 (spelling (number_field 2 1 ∷ [])) ∷ bytes_field 4 (update_bytes address) ∷ [])

-- controller 0 inserts the address of this one byte, to port 2
abbrev pub inserting : ℕ → TapeRecord
inserting address = Call 0 methods.Write (insert_bytes address)

-- a frame of 14 bytes from address 1 to the address of this last byte
abbrev pub frame_to : ℕ → List ℕ
frame_to address = 0 ∷ 0 ∷ 0 ∷ 0 ∷ 0 ∷ address ∷ 0 ∷ 0 ∷ 0 ∷ 0 ∷ 0 ∷ 1 ∷ 8 ∷ 0 ∷ []

-- its first 13 bytes
abbrev pub cut_frame : List ℕ
cut_frame = 0 ∷ 0 ∷ 0 ∷ 0 ∷ 0 ∷ 2 ∷ 0 ∷ 0 ∷ 0 ∷ 0 ∷ 0 ∷ 1 ∷ 8 ∷ []

-- the shortest tape: only the end line
abbrev pub EmptyTape : Type 0
EmptyTape = IsWorked bridge_start ([])
    (codes "503454415045310a00000000000000")
    (codes "end 0 0\n")

-- an inserted address forwards its packet; a packet to another address is dropped
abbrev pub OneEntryOnePacket : Type 0
OneEntryOnePacket = IsWorked bridge_start (inserting 2 ∷ Packet 0 1 (frame_to 2) ∷ Packet 0 1 (frame_to 3) ∷ [])
    (codes "503454415045310a0100000000002d0108011a021001222408011220121e08818080101207080112030a01021a0e0a0c0881808008220510011a01020200000000001000010000000000020000000000010800020000000000100001000000000003000000000001080000000000000000")
    (codes "step 1 0 1 change 1\nreply 0 1 1 0 .\npacket w0 1 1 sent 2:0000000000020000000000010800 - - 33554433:1\npacket w0 2 1 drop1 - - - -\nend 1 2\n")

-- an INSERT of what is present is refused with its cause
abbrev pub InsertTwice : Type 0
InsertTwice = IsWorked bridge_start (inserting 2 ∷ inserting 2 ∷ [])
    (codes "503454415045310a0100000000002d0108011a021001222408011220121e08818080101207080112030a01021a0e0a0c0881808008220510011a01020100000000002d0108011a021001222408011220121e08818080101207080112030a01021a0e0a0c0881808008220510011a010200000000000000")
    (codes "step 1 0 1 change 1\nreply 0 1 1 0 .\nreply 0 2 1 2 08021a310a1f747970652e676f6f676c65617069732e636f6d2f70342e76312e4572726f72120e08061a087034737769746368200a\nend 1 0\n")

-- the fifth entry of the table is refused
abbrev pub TableFull : Type 0
TableFull = IsWorked bridge_start (inserting 2 ∷ inserting 3 ∷ inserting 4 ∷ inserting 5 ∷ inserting 6 ∷ [])
    (codes "503454415045310a0100000000002d0108011a021001222408011220121e08818080101207080112030a01021a0e0a0c0881808008220510011a01020100000000002d0108011a021001222408011220121e08818080101207080112030a01031a0e0a0c0881808008220510011a01020100000000002d0108011a021001222408011220121e08818080101207080112030a01041a0e0a0c0881808008220510011a01020100000000002d0108011a021001222408011220121e08818080101207080112030a01051a0e0a0c0881808008220510011a01020100000000002d0108011a021001222408011220121e08818080101207080112030a01061a0e0a0c0881808008220510011a010200000000000000")
    (codes "step 1 0 1 change 1\nreply 0 1 1 0 .\nstep 2 0 2 change 1\nreply 0 2 2 0 .\nstep 3 0 3 change 1\nreply 0 3 3 0 .\nstep 4 0 4 change 1\nreply 0 4 4 0 .\nreply 0 5 4 2 08021a310a1f747970652e676f6f676c65617069732e636f6d2f70342e76312e4572726f72120e08081a087034737769746368200c\nend 4 0\n")

-- a packet of 13 bytes looks up address 0 and leaves whole
abbrev pub ShortPacket : Type 0
ShortPacket = IsWorked bridge_start (inserting 0 ∷ Packet 0 1 cut_frame ∷ [])
    (codes "503454415045310a0100000000002d0108011a021001222408011220121e08818080101207080112030a01001a0e0a0c0881808008220510011a01020200000000000f00010000000000020000000000010800000000000000")
    (codes "step 1 0 1 change 1\nreply 0 1 1 0 .\npacket w0 1 1 sent 2:00000000000200000000000108 - - 33554433:1\nend 1 1\n")

-- a worker that met the write forwards by it
abbrev pub MetCall : Type 0
MetCall = IsWorked bridge_start (inserting 2 ∷ Meet 0 0 1 ∷ Packet 0 1 (frame_to 2) ∷ [])
    (codes "503454415045310a0100000000002d0108011a021001222408011220121e08818080101207080112030a01021a0e0a0c0881808008220510011a010205000000000006000000000001020000000000100001000000000002000000000001080000000000000000")
    (codes "step 1 0 1 change 1\nreply 0 1 1 0 .\npacket w0 1 1 sent 2:0000000000020000000000010800 - - 33554433:1\nend 1 1\n")

-- an election id (Uint128)
abbrev pub id_bytes : ℕ → List ℕ
id_bytes id = spelling (number_field 2 id ∷ [])

-- a controller asks for role 0 with this election id (StreamMessageRequest, MasterArbitrationUpdate)
abbrev pub arbitrating : ℕ → ℕ → TapeRecord
arbitrating lane id = Call lane methods.StreamChannel (spelling (bytes_field 1 (spelling (number_field 1 1 ∷ bytes_field 3 (id_bytes id) ∷ [])) ∷ []))

-- a controller writes no updates with this election id
abbrev pub writing_nothing : ℕ → ℕ → TapeRecord
writing_nothing lane id = Call lane methods.Write (spelling (number_field 1 1 ∷ bytes_field 3 (id_bytes id) ∷ []))

-- where the primary leaves, a backup of a lower election id stays one until it names a higher one
abbrev pub BackupWaits : Type 0
BackupWaits = IsWorked bare_start (arbitrating 0 5 ∷ arbitrating 1 3 ∷ Leave 0 ∷ writing_nothing 1 3 ∷ arbitrating 1 6 ∷ [])
    (codes "503454415045310a01000000000009050a0608011a02100501000100000009050a0608011a02100304000000000000010001000000070108011a02100301000100000009050a0608011a02100600000000000000")
    (codes "step 1 0 1 arbitrate 0\nnotice 0 0a0808011a0210052200\nreply 0 1 1 0 -\nstep 2 1 1 arbitrate 0\nnotice 1 0a0a08011a02100522020806\nreply 1 1 2 0 -\nstep 3 0 2 leave 0\nnotice 1 0a0a08011a02100522020805\nreply 0 2 3 0 -\nreply 1 2 3 7 0807\nstep 4 1 3 arbitrate 0\nnotice 1 0a0808011a0210062200\nreply 1 3 4 0 -\nend 4 0\n")
