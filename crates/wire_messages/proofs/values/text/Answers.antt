use Rattle.std.proofs.Common.{ap, ◌∙◌}
use Rattle.wire_messages.proofs.Scanning.{is_text, no_text}
use Rattle.list_types.specs.Options.{◌>>=◌}
use Rattle.wire_messages.specs.Message.{as_text}
use Rattle.wire_messages.proofs.values.text.Goals as goal

pub returns-in-Ok : goal.returns-in-Ok
returns-in-Ok c = ap (λ x. x >>= as_text) c.in_ok-bytes.ensures ∙ is_text _ _ c.in-Ok.ensures.cases.1 c.in-Ok.ensures.cases.0

pub returns-in-Err : goal.returns-in-Err
returns-in-Err c = ap (λ x. x >>= as_text) c.in_ok-bytes.ensures ∙ no_text _ c.in-Err.ensures.cases.0
