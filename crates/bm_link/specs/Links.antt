-- What a device configuration is answered with beside a P4Info.
use Rattle.std.specs.Prelude.{◌≡◌, ℕ, List, Option, Some, None, Result, Ok, Err}
use Rattle.list_types.specs.declared.memory.Refusal.{Refusal}
use Rattle.list_types.specs.declared.memory.Refusal.TheVariants as refusals
use Rattle.p4_types.specs.declared.info.Info.{Info}
use Rattle.bm_json.specs.declared.faults.JsonFault.{JsonFault}
use Rattle.bm_pipeline.specs.declared.program.Program.{Program}
use Rattle.bm_records.specs.declared.raw.RawProgram.{RawProgram}
use Rattle.bm_rules.specs.Flaw as rules
use Rattle.link_spec.specs.Flaw.{program_flaw}
use Rattle.link_spec.specs.Linked.{program_of, linked}
use Rattle.bm_link.specs.declared.fault.LinkFault.{LinkFault}

-- what a device configuration without raw records is refused by
abbrev pub refusal_of : Refusal JsonFault → Refusal LinkFault
refusal_of refusals.NoMemory = refusals.NoMemory
refusal_of (refusals.For fault) = refusals.For (record { rule = fault.rule })

-- why nothing is linked: there is no memory, or this rule is broken first
abbrev pub IsRefused : Refusal LinkFault → Option ℕ → Type 0
IsRefused refusals.NoMemory flaw = Unit {0}
IsRefused (refusals.For fault) flaw = flaw ≡ Some fault.rule

-- the pipeline is what the raw records are linked to, and no rule of L4 to L15 is broken; else it is refused
abbrev pub LinksRaw : RawProgram → Info → Result Program (Refusal LinkFault) → Type 0
LinksRaw raw info (Ok pipeline) = (pipeline ≡ program_of raw info) × (rules.flaw raw info ≡ None)
LinksRaw raw info (Err refusal) = IsRefused refusal (rules.flaw raw info)

-- the pipeline is what the configuration is linked to, and no rule is broken; else it is refused
abbrev pub Links : Info → List ℕ → Result Program (Refusal LinkFault) → Type 0
Links info bytes (Ok pipeline) = (linked info bytes ≡ Some pipeline) × (program_flaw bytes info ≡ None)
Links info bytes (Err refusal) = IsRefused refusal (program_flaw bytes info)
