use Rattle.std.proofs.Common.{◌≡◌, drop}
use Rattle.std.specs.List.{filter, cons_option}
use Rattle.wire_messages.specs.Message.{at_most_one, is_given, choice_at}
use Rattle.wire_messages.proofs.message.Message.choice.Given as goal

abbrev pub invariant-loop-member : goal.invariant-loop-member
invariant-loop-member l = at_most_one (cons_option l.found (filter (λ member. is_given member l.self) (drop l.member-index l.members))) ≡ choice_at l.members l.self
