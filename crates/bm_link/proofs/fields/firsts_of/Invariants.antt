use Rattle.std.proofs.Common.{◌≡◌}
use Rattle.link_spec.specs.Fields.{fields_before}
use Rattle.bm_link.specs.Places.{AreFirsts}
use Rattle.bm_link.proofs.fields.firsts_of.Given as goal

abbrev pub invariant-loop-header : goal.invariant-loop-header
invariant-loop-header l = (l.first ≡ fields_before l.raw l.header-index) × AreFirsts l.raw l.header-index l.firsts.items
