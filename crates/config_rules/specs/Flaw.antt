-- The first rule that a configuration breaks (P4Runtime 1.3.0, "ForwardingPipelineConfig Message"; the rules: this project's profile).
use Rattle.std.specs.Prelude.{ℕ, List, Option, Some, None, Result, Ok, Err}
use Rattle.link_spec.specs.Configured.{config_meant}
use Rattle.p4_types.specs.declared.code.ConfigRule.{ConfigRule}
use Rattle.p4_types.specs.declared.code.ConfigRule.TheVariants as broken
use Rattle.p4_types.specs.declared.messages.ForwardingPipelineConfig.{ForwardingPipelineConfig}
use Rattle.p4v1_read.specs.Nested.{read}
use Rattle.p4v1_read.specs.Requests.{config_of}
use Rattle.plane_spec.specs.Config.{Config}

-- the rule that is broken, if one is
abbrev pub rule_of : Result Config ConfigRule → Option ConfigRule
rule_of (Ok config) = None
rule_of (Err rule) = Some rule

-- the first rule that a configuration breaks; I1 where there is none
abbrev pub flaw_of : Option ForwardingPipelineConfig → Option ConfigRule
flaw_of None = Some (broken.Info 1)
flaw_of (Some config) = rule_of (config_meant config)

-- the same of the bytes of a configuration
unfoldable pub config_flaw : List ℕ → Option ConfigRule
config_flaw bytes = flaw_of (read config_of bytes)
