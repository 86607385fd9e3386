-- The first rule that a program breaks, from what its parts answer.
use Rattle.std.proofs.Common.{◌≡◌, ℕ, List, Some, None, Result, Ok, Err, ap, ap₂, sym, ◌∙◌}
use Rattle.bm_json.specs.Program as json
use Rattle.bm_json.specs.declared.faults.JsonFault.{JsonFault}
use Rattle.bm_records.specs.declared.raw.RawProgram.{RawProgram}
use Rattle.bm_rules.specs.Flaw as rules
use Rattle.p4_types.specs.declared.info.Info.{Info}
use Rattle.list_types.specs.declared.memory.Refusal.{Refusal}
use Rattle.list_types.specs.declared.memory.Refusal.TheVariants as refusals
use Rattle.bm_pipeline.specs.declared.program.Program.{Program}
use Rattle.link_spec.specs.Linked.{program_of, linked_by, linked}
use Rattle.link_spec.specs.Flaw.{linked_flaw, before, program_flaw}
use Rattle.bm_link.specs.Links.{refusal_of, IsRefused, LinksRaw, Links}
use Rattle.bm_link.specs.declared.fault.LinkFault.{LinkFault}

-- a program whose raw records are read
pub of_raw : (program : List ℕ) (info : Info) (raw : RawProgram) → json.program_in program ≡ Some raw → json.flaw program ≡ None → program_flaw program info ≡ rules.flaw raw info
of_raw program info raw is none = ap₂ (λ o r. before o (linked_flaw r info)) none is

-- one whose are not
pub of_fault : (program : List ℕ) (info : Info) (rule : ℕ) → json.flaw program ≡ Some rule → program_flaw program info ≡ Some rule
of_fault program info rule is = ap (λ o. before o (linked_flaw (json.program_in program) info)) is

-- what is linked, where raw records are read
pub linked_to : (bytes : List ℕ) (info : Info) (raw : RawProgram) (pipeline : Program) → json.program_in bytes ≡ Some raw → pipeline ≡ program_of raw info → linked info bytes ≡ Some pipeline
linked_to bytes info raw pipeline is made = ap (linked_by info) is ∙ ap (λ p. Some p) (sym made)

-- they break none of the rules that are asked of them alone, where the bytes break none
pub within : (bytes : List ℕ) (raw : RawProgram) → json.program_in bytes ≡ Some raw → json.flaw bytes ≡ None → json.flaw_of raw ≡ None
within bytes raw is none = ap json.flaw_by (sym is) ∙ none

-- what is answered of raw records that are read
pub links : (bytes : List ℕ) (info : Info) (raw : RawProgram) (result : Result Program (Refusal LinkFault)) → json.program_in bytes ≡ Some raw → json.flaw bytes ≡ None → LinksRaw raw info result → Links info bytes result
links bytes info raw (Ok pipeline) is none linked_raw = (linked_to bytes info raw pipeline is linked_raw.0, of_raw bytes info raw is none ∙ linked_raw.1)
links bytes info raw (Err refusals.NoMemory) is none linked_raw = tt
links bytes info raw (Err (refusals.For fault)) is none linked_raw = of_raw bytes info raw is none ∙ linked_raw

-- what is answered where none are read
pub refused : (bytes : List ℕ) (info : Info) (refusal : Refusal JsonFault) → (let answer : Result RawProgram (Refusal JsonFault) = Err refusal in json.Answers bytes answer) → IsRefused (refusal_of refusal) (program_flaw bytes info)
refused bytes info refusals.NoMemory answers = tt
refused bytes info (refusals.For fault) answers = of_fault bytes info fault.rule answers
