-- What a configuration means, or the first rule that it breaks (P4Runtime 1.3.0, "ForwardingPipelineConfig Message"; the rules: this project's profile).
use Rattle.std.specs.Prelude.{ℕ, List, Option, Some, None, Result, Ok, Err}
use Rattle.bm_pipeline.specs.declared.program.Program.{Program}
use Rattle.link_spec.specs.Flaw.{program_flaw}
use Rattle.link_spec.specs.Linked.{linked}
use Rattle.p4_types.specs.declared.code.ConfigRule.{ConfigRule}
use Rattle.p4_types.specs.declared.code.ConfigRule.TheVariants as broken
use Rattle.p4_types.specs.declared.info.Info.{Info}
use Rattle.p4_types.specs.declared.messages.Cookie.{Cookie}
use Rattle.p4_types.specs.declared.messages.ForwardingPipelineConfig.{ForwardingPipelineConfig}
use Rattle.p4_types.specs.declared.p4info.P4Info.{P4Info}
use Rattle.info_rules.specs.Flaw as info_rules
use Rattle.p4info_model.specs.Resolved.{info_of}
use Rattle.p4v1_read.specs.Nested.{read}
use Rattle.p4v1_read.specs.P4Infos.{p4info_of}
use Rattle.plane_spec.specs.Config.{Config}

-- the program where no rule is broken; what breaks none is linked, so that the second case does not occur
abbrev pub program_unless : Option ℕ → Option Program → Result Program ℕ
program_unless (Some rule) program = Err rule
program_unless None None = Err 1
program_unless None (Some program) = Ok program

-- the program that a device configuration means under a P4Info, or the rule of L1 to L15 that it breaks first
abbrev pub program_meant : Info → List ℕ → Result Program ℕ
program_meant info program = program_unless (program_flaw program info) (linked info program)

-- the cookie of a configuration, 0 where none is given
abbrev pub cookie_of : Option Cookie → ℕ
cookie_of None = 0
cookie_of (Some cookie) = cookie.cookie

-- the configuration of bytes that mean these objects and this program
abbrev pub config_with : ForwardingPipelineConfig → List ℕ → Info → Result Program ℕ → Result Config ConfigRule
config_with config p4info info (Err rule) = Err (broken.Program rule)
config_with config p4info info (Ok program) =
    Ok (record { p4info = p4info; device_config = config.p4_device_config; cookie = cookie_of config.cookie; info = info; program = program })

-- the rule of a P4Info, or where it breaks none, what the configuration means
abbrev pub meant_unless : Option ℕ → ForwardingPipelineConfig → List ℕ → Info → Result Config ConfigRule
meant_unless (Some rule) config p4info info = Err (broken.Info rule)
meant_unless None config p4info info = config_with config p4info info (program_meant info config.p4_device_config)

-- the same by its P4Info, I1 where the bytes are none
abbrev pub meant_under : Option P4Info → ForwardingPipelineConfig → List ℕ → Result Config ConfigRule
meant_under None config p4info = Err (broken.Info 1)
meant_under (Some message) config p4info = meant_unless (info_rules.flaw message) config p4info (info_of message)

-- the same by the bytes of its P4Info, I1 where there are none
abbrev pub meant_in : Option (List ℕ) → ForwardingPipelineConfig → Result Config ConfigRule
meant_in None config = Err (broken.Info 1)
meant_in (Some p4info) config = meant_under (read p4info_of p4info) config p4info

-- what a configuration means, or the first rule that it breaks: of its P4Info, else of its program under it
unfoldable pub config_meant : ForwardingPipelineConfig → Result Config ConfigRule
config_meant config = meant_in config.p4info config
