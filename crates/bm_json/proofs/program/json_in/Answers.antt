use Rattle.bm_json.proofs.Refusals.{refuses, of_text, of_no_text}
use Rattle.bm_json.proofs.program.json_in.Goals as goal

pub returns-in-Err : goal.returns-in-Err
returns-in-Err c = refuses c.at_rule.result _ c.at_rule.ensures (of_no_text c.args.bytes.now c.in-Err.ensures.cases.0)

pub returns-in-Ok-read : goal.returns-in-Ok-read
returns-in-Ok-read c = of_text c.args.bytes.now c.in-Ok.text.now _ c.in-Ok.ensures.cases.1 c.in-Ok.ensures.cases.0 c.in-Ok-read.ensures
