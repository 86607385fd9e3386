use Rattle.std.proofs.Common.{rules}
use Rattle.wire_messages.proofs.Scanning.{is_text, no_text}
use Rattle.wire_messages.specs.Message.{texts_at}
use Rattle.info_rules.proofs.Texts.{decides_itself, decides_next, no_text_here, none_of, on_err, at_end}
use Rattle.info_rules.proofs.readable.check_texts.Goals as goal

pub messages-init : goal.messages-init
unfolding texts_at
messages-init c = rw c.messages-left.ensures (decides_itself _)

pub returns-in_err-bytes-clause-unreadable : goal.returns-in_err-bytes-clause-unreadable
returns-in_err-bytes-clause-unreadable c = on_err _ _ (c.messages.invariant.none (none_of _ c.in_err-bytes.ensures.unreadable))

pub returns-in-Err-clause-unreadable : goal.returns-in-Err-clause-unreadable
returns-in-Err-clause-unreadable c = no_text_here _ _ _ _ (rw c.in-Some.is at c.in_ok-bytes.ensures.message) (no_text _ c.in-Err.ensures.cases.0) c.messages.invariant

pub messages-preserved : goal.messages-preserved
messages-preserved c = decides_next _ _ _ _ _ (rw c.in-Some.is at c.in_ok-bytes.ensures.message) (is_text _ _ c.in-Ok.ensures.cases.1 c.in-Ok.ensures.cases.0) c.messages.invariant

pub returns-clause-read : goal.returns-clause-read
returns-clause-read c = at_end _ _ (search rules) c.messages.invariant
