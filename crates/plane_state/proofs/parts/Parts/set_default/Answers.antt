use Rattle.std.proofs.Common.{List, subst, sym}
use Rattle.p4_types.specs.declared.table.DefaultAction.{DefaultAction}
use Rattle.table_store.specs.Rising.{AreRising}
use Rattle.plane_state.specs.Versions.{CountedVersions, IsCounted}
use Rattle.plane_state.proofs.Rises.{rises_by}
use Rattle.plane_state.proofs.parts.Parts.set_default.Goals as goal

pub invariant_of-self-2 : goal.invariant_of-self-2
invariant_of-self-2 c = record {
  now = record {
    changed = rises_by c.set.result c.args.table _ _ _ c.self.invariant.now.changed c.set.ensures.ok c.set.ensures.err;
    digests = c.self.invariant.now.digests;
    multicast = c.self.invariant.now.multicast;
  };
  before = record {
    changed = subst (λ (l : List DefaultAction). AreRising (λ d. d.table) l) (sym c.set.ensures.before) c.self.invariant.before.changed;
    digests = c.self.invariant.before.digests;
    multicast = c.self.invariant.before.multicast;
  };
}

pub returns-clause-counted : goal.returns-clause-counted
returns-clause-counted c =
    let h = subst (λ (v : CountedVersions). IsCounted v.now) (sym c.self.view_is) c.requires.counted in record { members = h.members; groups = h.groups; sets = h.sets; rows = h.rows }
