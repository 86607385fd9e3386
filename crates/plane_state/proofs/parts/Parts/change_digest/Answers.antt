use Rattle.std.proofs.Common.{List, subst, sym}
use Rattle.p4_types.specs.declared.messages.DigestEntry.{DigestEntry}
use Rattle.table_store.specs.Rising.{AreRising}
use Rattle.plane_state.specs.Versions.{CountedVersions, IsCounted}
use Rattle.plane_state.proofs.Rises.{digests_rise_by}
use Rattle.plane_state.proofs.parts.Parts.change_digest.Goals as goal

pub invariant_of-self-2 : goal.invariant_of-self-2
invariant_of-self-2 c = record {
  now = record {
    changed = c.self.invariant.now.changed;
    digests = digests_rise_by c.edit.result c.args.change.now _ _ c.self.invariant.now.digests c.edit.ensures.ok c.edit.ensures.err;
    multicast = c.self.invariant.now.multicast;
  };
  before = record {
    changed = c.self.invariant.before.changed;
    digests = subst (λ (l : List DigestEntry). AreRising (λ d. d.digest_id) l) (sym c.edit.ensures.before) c.self.invariant.before.digests;
    multicast = c.self.invariant.before.multicast;
  };
}

pub returns-clause-counted : goal.returns-clause-counted
returns-clause-counted c =
    let h = subst (λ (v : CountedVersions). IsCounted v.now) (sym c.self.view_is) c.requires.counted in record { members = h.members; groups = h.groups; sets = h.sets; rows = h.rows }
