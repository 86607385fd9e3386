use Rattle.std.proofs.Common.{◌∙◌, ◌==◌}
use Rattle.pkt_worker.proofs.Samples.{any_found}
use Rattle.pkt_worker.proofs.running.is_told.Goals as goal

pub returns : goal.returns
returns c = c.is_some.ensures ∙ any_found (λ entry. entry.digest_id == c.args.digest) c.args.plane.now.now.digests (λ entry. entry.now) c.digest.result c.digest.ensures
