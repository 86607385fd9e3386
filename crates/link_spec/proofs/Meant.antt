-- What a configuration means is valid.
use Rattle.std.proofs.Common.{◌≡◌, ℕ, List, Option, Some, None, Result, Ok, Err, refl, ap, ◌∙◌, sym, subst}
use Rattle.bm_json.specs.Program as json
use Rattle.bm_json.proofs.ReadSound.{program_in_sound}
use Rattle.bm_pipeline.specs.declared.program.Program.{Program}
use Rattle.bm_pipeline.specs.Validity.{IsValid}
use Rattle.bm_records.specs.declared.raw.RawProgram.{RawProgram}
use Rattle.bm_rules.specs.Flaw as rules
use Rattle.link_spec.proofs.Valid.{is_valid}
use Rattle.link_spec.specs.Configured.{program_unless, program_meant, config_with, meant_unless, meant_under, meant_in, config_meant}
use Rattle.link_spec.specs.Flaw.{linked_flaw, before, program_flaw}
use Rattle.link_spec.specs.Linked.{program_of, linked_by, linked}
use Rattle.p4_types.specs.declared.code.ConfigRule.{ConfigRule}
use Rattle.p4_types.specs.declared.info.Info.{Info}
use Rattle.p4_types.specs.declared.messages.ForwardingPipelineConfig.{ForwardingPipelineConfig}
use Rattle.p4_types.specs.declared.p4info.P4Info.{P4Info}
use Rattle.info_rules.specs.Flaw as info_rules
use Rattle.p4info_model.specs.Resolved.{info_of}
use Rattle.p4v1_read.specs.Nested.{read}
use Rattle.p4v1_read.specs.P4Infos.{p4info_of}
use Rattle.plane_spec.specs.Config.{Config, IsValidConfig}

-- neither rule is broken
before_none : (a b : Option ℕ) → before a b ≡ None → (a ≡ None) × (b ≡ None)
before_none None b h = (refl, h)
before_none (Some rule) b h = absurd (cc)

unless_ok : (o : Option ℕ) (p : Option Program) (program : Program) → program_unless o p ≡ Ok program → (o ≡ None) × (p ≡ Some program)
unless_ok (Some rule) p program h = absurd (cc)
unless_ok None None program h = absurd (cc)
unless_ok None (Some other) program h = let same : other ≡ program = cc in (refl, ap (λ (x : Program). Some x) same)

-- the program of raw records that were read, and that break no rule, is valid
valid_by : (o : Option RawProgram) (bytes : List ℕ) (info : Info) (program : Program) → json.program_in bytes ≡ o → json.flaw_by o ≡ None → linked_flaw o info ≡ None → linked_by info o ≡ Some program → IsValid program
valid_by None bytes info program is flaw later linked = absurd (cc)
valid_by (Some raw) bytes info program is flaw later linked =
    let same : program_of raw info ≡ program = cc in
    subst (λ (p : Program). IsValid p) same (is_valid raw info (program_in_sound bytes raw is) flaw later)

pub program_is_valid : (bytes : List ℕ) (info : Info) (program : Program) → program_meant info bytes ≡ Ok program → IsValid program
program_is_valid bytes info program h =
    let parts = unless_ok (program_flaw bytes info) (linked info bytes) program h in
    let rules_kept = before_none (json.flaw bytes) (linked_flaw (json.program_in bytes) info) parts.0 in
    valid_by (json.program_in bytes) bytes info program refl rules_kept.0 rules_kept.1 parts.1

with_valid : (r : Result Program ℕ) (given : ForwardingPipelineConfig) (p4info : List ℕ) (info : Info) (config : Config) → program_meant info given.p4_device_config ≡ r → config_with given p4info info r ≡ Ok config → IsValidConfig config
with_valid (Err rule) given p4info info config is h = absurd (cc)
with_valid (Ok program) given p4info info config is h =
    let same : program ≡ config.program = cc in
    record { program = subst (λ (p : Program). IsValid p) same (program_is_valid given.p4_device_config info program is) }

unless_valid : (o : Option ℕ) (given : ForwardingPipelineConfig) (p4info : List ℕ) (info : Info) (config : Config) → meant_unless o given p4info info ≡ Ok config → IsValidConfig config
unless_valid (Some rule) given p4info info config h = absurd (cc)
unless_valid None given p4info info config h = with_valid (program_meant info given.p4_device_config) given p4info info config refl h

under_valid : (o : Option P4Info) (given : ForwardingPipelineConfig) (p4info : List ℕ) (config : Config) → meant_under o given p4info ≡ Ok config → IsValidConfig config
under_valid None given p4info config h = absurd (cc)
under_valid (Some message) given p4info config h = unless_valid (info_rules.flaw message) given p4info (info_of message) config h

in_valid : (o : Option (List ℕ)) (given : ForwardingPipelineConfig) (config : Config) → meant_in o given ≡ Ok config → IsValidConfig config
in_valid None given config h = absurd (cc)
in_valid (Some p4info) given config h = under_valid (read p4info_of p4info) given p4info config h

pub meant_is_valid : (given : ForwardingPipelineConfig) (config : Config) → config_meant given ≡ Ok config → IsValidConfig config
unfolding config_meant
meant_is_valid given config h = in_valid given.p4info given config h
