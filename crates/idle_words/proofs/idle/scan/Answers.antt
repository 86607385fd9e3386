use Rattle.std.proofs.Common.{◌∙◌, arith}
use Rattle.idle_words.proofs.Scanning.{only_notes, only_notes_more, scanned_step}
use Rattle.idle_words.proofs.idle.scan.Goals as goal

pub last-last-requires-clause-stamps : goal.last-last-requires-clause-stamps
last-last-requires-clause-stamps c = (only_notes c.loop-entry.invariant).stamps ∙ c.requires.stamps

pub returns-in_err-add-clause-seat : goal.returns-in_err-add-clause-seat
returns-in_err-add-clause-seat c = only_notes_more _ _ (only_notes c.loop-entry.invariant) c.last-last.ensures.same

pub returns-clause-seat : goal.returns-clause-seat
returns-clause-seat c = only_notes c.loop-entry.invariant

pub loop-entry-preserved : goal.loop-entry-preserved
loop-entry-preserved c =
    let told = c.in_ok-add.ensures in
    let found = c.last-last.ensures in
    scanned_step c.args.entries.now c.loop-entry.entry-index record { seq = 0; stamp = 0; timeout = 0 } c.last-last.result c.loop-entry.invariant (omega (arith, c.loop-entry-test.true)) found.own found.since found.same told.names told.marks told.next
