use Rattle.std.proofs.Common.{◌≡◌, fold, take}
use Rattle.p4rt_service.specs.Serving.{noticed}
use Rattle.p4rt_service.proofs.link.send_notices.Given as goal

abbrev pub invariant-loop-notice : goal.invariant-loop-notice
invariant-loop-notice l = l.link ≡ fold noticed l.fn.link (take l.notice-index l.notices)
