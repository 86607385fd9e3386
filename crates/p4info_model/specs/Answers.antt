-- What the making of a P4Info answers.
use Rattle.std.specs.Prelude.{◌≡◌, ℕ, List, Result, Ok, Err, Option, Some, None}
use Rattle.p4_types.specs.declared.info.Info.{Info}
use Rattle.p4_types.specs.declared.p4info.P4Info as message
use Rattle.list_types.specs.declared.memory.Refusal.{Refusal}
use Rattle.list_types.specs.declared.memory.Refusal.TheVariants.{NoMemory, For}
use Rattle.p4info_model.specs.declared.flaw.InfoFault.{InfoFault}
use Rattle.info_rules.specs.Flaw.{flaw}
use Rattle.p4info_model.specs.Resolved.{info_of}
use Rattle.p4v1_read.specs.Nested.{read}
use Rattle.p4v1_read.specs.P4Infos.{p4info_of}

-- The objects of a message without a flaw, else its first broken rule. Want of memory may come at any message.
abbrev pub Accepts : message.P4Info → Result Info (Refusal InfoFault) → Type 0
Accepts message (Ok info) = (flaw message ≡ None) × (info ≡ info_of message)
Accepts message (Err NoMemory) = Unit {0}
Accepts message (Err (For fault)) = flaw message ≡ Some fault.rule

-- The same of a message that is read from bytes, which breaks rule 1 where it is not read.
abbrev pub AcceptsRead : Option message.P4Info → Result Info (Refusal InfoFault) → Type 0
AcceptsRead (Some message) answer = Accepts message answer
AcceptsRead None (Ok info) = ⊥
AcceptsRead None (Err NoMemory) = Unit {0}
AcceptsRead None (Err (For fault)) = fault.rule ≡ 1

-- the bytes are read as the P4Info of these objects
abbrev pub IsReadAs : List ℕ → Info → Type 0
IsReadAs bytes info = AcceptsRead (read p4info_of bytes) (Ok info)
