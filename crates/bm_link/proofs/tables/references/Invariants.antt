use Rattle.std.proofs.Common.{take}
use Rattle.bm_link.specs.References.{AreReferences}
use Rattle.bm_link.proofs.tables.references.Given as goal

abbrev pub invariant-loop-reference : goal.invariant-loop-reference
invariant-loop-reference l = AreReferences l.info (take l.reference-index l.references) l.ids
