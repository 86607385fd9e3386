use Rattle.bm_records.specs.Members.{IsPlace}
use Rattle.bm_records.proofs.Nexts.{firsts_have}
use Rattle.bm_records.proofs.pipelines.by_names.Goals as goal

pub returns-clause-within : goal.returns-clause-within
returns-clause-within c = firsts_have (IsPlace c.args.members.now.1) c.in_ok-found.found.items c.keep_firsts.new.pairs.items c.keep_firsts.ensures c.in_ok-found.ensures.within
