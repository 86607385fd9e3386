use Rattle.std.proofs.Common.{Option, is_some, ap, ◌∙◌}
use Rattle.p4_types.specs.declared.messages.DigestEntry.{DigestEntry}
use Rattle.plane_spec.specs.Planes.{if_absent}
use Rattle.plane_state.proofs.Rises.{found_at, none_at, replaced}
use Rattle.plane_state.proofs.digests.modify.Goals as goal

pub returns-in_ok-replace-in-Ok-clause-refused : goal.returns-in_ok-replace-in-Ok-clause-refused
returns-in_ok-replace-in-Ok-clause-refused c = ap (λ (o : Option DigestEntry). if_absent (is_some o)) (found_at (λ d. d.digest_id) c.args.entries.now.items c.args.entry.digest_id _ c.args.entry c.requires (rw c.as_slice.ensures at c.in-Ok.ensures.found))

pub returns-in_ok-replace-in-Ok-clause-ok : goal.returns-in_ok-replace-in-Ok-clause-ok
returns-in_ok-replace-in-Ok-clause-ok c = c.in_ok-replace-in-Ok.ensures.ok ∙ replaced (λ d. d.digest_id) c.args.entries.now.items c.args.entry c.args.entry.digest_id _ c.requires (rw c.as_slice.ensures at c.in-Ok.ensures.found)

pub returns-in-Err-clause-refused : goal.returns-in-Err-clause-refused
returns-in-Err-clause-refused c = ap (λ (o : Option DigestEntry). if_absent (is_some o)) (none_at (λ d. d.digest_id) c.args.entries.now.items c.args.entry.digest_id _ (rw c.as_slice.ensures at c.in-Err.ensures.absent))
