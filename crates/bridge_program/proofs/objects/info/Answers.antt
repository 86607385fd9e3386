use Rattle.bridge_program.proofs.BridgeLemmas.{no_fault, is_bridge}
use Rattle.bridge_program.proofs.objects.info.Goals as goal

pub unreachable-requires : goal.unreachable-requires
unreachable-requires c = no_fault _ _ c.in-Err-For.field-0-0 c.requires c.in-Err-For.field-0-is c.in-Err-For.ensures

pub returns-in-Ok : goal.returns-in-Ok
returns-in-Ok c = is_bridge _ _ c.requires c.in-Ok.ensures
