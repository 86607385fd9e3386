use Rattle.std.proofs.Common.{◌≡◌, ◌++◌, drop, filter, map}
use Rattle.p4_types.specs.declared.messages.Entity.TheVariants as entities
use Rattle.switch_spec.specs.Reading.{is_asked_id}
use Rattle.plane_read.proofs.digests.push_each.Given as goal

abbrev pub invariant-loop-entry : goal.invariant-loop-entry
invariant-loop-entry l =
    l.answer ++ map entities.DigestEntry (filter (λ entry. is_asked_id l.asked entry.digest_id) (drop l.entry-index l.entries))
    ≡ l.initial.answer ++ map entities.DigestEntry (filter (λ entry. is_asked_id l.asked entry.digest_id) l.entries)
