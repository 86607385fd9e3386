use Rattle.bm_json.proofs.ReadSound.{program_in_sound}
use Rattle.bm_link.proofs.Answered.{links, within}
use Rattle.bm_link.proofs.pipelines.link.Goals as goal

pub link_raw-requires-clause-sound : goal.link_raw-requires-clause-sound
link_raw-requires-clause-sound c = program_in_sound c.args.json.now c.in-Ok.raw c.in-Ok.ensures.0

pub link_raw-requires-clause-within : goal.link_raw-requires-clause-within
link_raw-requires-clause-within c = within c.args.json.now c.in-Ok.raw c.in-Ok.ensures.0 c.in-Ok.ensures.1

pub returns-in-Ok : goal.returns-in-Ok
returns-in-Ok c = links c.args.json.now c.args.info.now c.in-Ok.raw c.link_raw.result c.in-Ok.ensures.0 c.in-Ok.ensures.1 c.link_raw.ensures
