use Rattle.std.proofs.Common.{ℕ, List, subst, sym, ap, ◌∙◌, arith}
use Rattle.p4_types.specs.declared.multicast.MulticastGroup.{MulticastGroup}
use Rattle.plane_spec.specs.Multicast.{multicast_of}
use Rattle.table_store.specs.Rising.{AreRising}
use Rattle.plane_state.specs.Versions.{Counted, CountedVersions, IsCounted, counted_of, rows_at}
use Rattle.plane_state.proofs.Counting.{counted_as, multicast_changed_counted, multicast_rows_within}
use Rattle.plane_state.proofs.Rises.{multicast_rise_by}
use Rattle.plane_state.proofs.parts.Parts.change_multicast.Goals as goal

pub invariant_of-self-2 : goal.invariant_of-self-2
invariant_of-self-2 c = record {
  now = record {
    changed = c.self.invariant.now.changed;
    digests = c.self.invariant.now.digests;
    multicast = multicast_rise_by c.edit.result c.args.change.now _ _ c.self.invariant.now.multicast c.edit.ensures.ok c.edit.ensures.err;
  };
  before = record {
    changed = c.self.invariant.before.changed;
    digests = c.self.invariant.before.digests;
    multicast = subst (λ (l : List MulticastGroup). AreRising (λ g. g.id) l) (sym c.edit.ensures.before) c.self.invariant.before.multicast;
  };
}

pub invariant_of-self-in_err-rows : goal.invariant_of-self-in_err-rows
invariant_of-self-in_err-rows c = record {
  now = record {
    changed = c.self.invariant.now.changed;
    digests = c.self.invariant.now.digests;
    multicast = multicast_rise_by c.edit.result c.args.change.now _ _ c.self.invariant.now.multicast c.edit.ensures.ok c.edit.ensures.err;
  };
  before = record {
    changed = c.self.invariant.before.changed;
    digests = c.self.invariant.before.digests;
    multicast = subst (λ (l : List MulticastGroup). AreRising (λ g. g.id) l) (sym c.edit.ensures.before) c.self.invariant.before.multicast;
  };
}

pub overflow_sub-self-inside : goal.overflow_sub-self-inside
overflow_sub-self-inside c =
    let i = c.self.inside in
    let old : Counted = counted_of i.config i.store.entries i.changed.items i.profiles.now i.digests.items i.multicast.items i.cells i.rows in
    let h : IsCounted old = subst (λ (v : CountedVersions). IsCounted v.now) (sym c.self.view_is) c.requires.counted in
    let there = ap (λ (groups : List MulticastGroup). rows_at (multicast_of c.group_changed.result groups)) c.as_slice.ensures in
    omega (arith, multicast_rows_within old c.group_changed.result h, c.rows_at-freed.ensures, there)

pub returns-clause-counted : goal.returns-clause-counted
returns-clause-counted c =
    let i = c.self.inside in
    let old : Counted = counted_of i.config i.store.entries i.changed.items i.profiles.now i.digests.items i.multicast.items i.cells i.rows in
    let h : IsCounted old = subst (λ (v : CountedVersions). IsCounted v.now) (sym c.self.view_is) c.requires.counted in
    let there = ap (λ (groups : List MulticastGroup). rows_at (multicast_of c.group_changed.result groups)) c.as_slice.ensures in
    let same = ap (λ (id : ℕ). rows_at (multicast_of id i.multicast.items)) c.group_changed.ensures in
    counted_as _ _ (ap (λ (groups : List MulticastGroup). record old.plane { multicast = groups }) c.in_ok-edit.ensures.ok)
    (multicast_changed_counted old _ c.args.change.now h c.self.invariant.now.multicast
    (omega (arith, multicast_rows_within old c.group_changed.result h, c.in_ok-rows.ensures.sum, c.rows_at-freed.ensures, c.rows_brought.ensures, there, same)))
