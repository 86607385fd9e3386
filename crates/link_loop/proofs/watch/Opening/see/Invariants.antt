use Rattle.std.proofs.Common.{◌≡◌, fold, take}
use Rattle.link_loop.specs.Watches.{byte_seen}
use Rattle.link_loop.proofs.watch.Opening.see.Given as goal

abbrev pub invariant-loop-byte : goal.invariant-loop-byte
invariant-loop-byte l = l.self ≡ fold byte_seen l.fn.self (take l.byte-index l.piece)
