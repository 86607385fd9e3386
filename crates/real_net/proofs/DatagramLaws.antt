-- A datagram has one reading.
use Rattle.std.proofs.Common.{◌≡◌, ◌∙◌, take, drop, sym, ap}
use Rattle.std.proofs.lemmas.Nat.{from_be_bytes-to_be_bytes_2}
use Rattle.std.specs.Int.{w16, to_be_bytes, from_be_bytes}
use Rattle.real_net.specs.Datagrams.{OneReading}

pub one_reading : OneReading
one_reading port other packet rest p q e =
    let heads : to_be_bytes w16 port ≡ to_be_bytes w16 other = ap (take 2) e in
    (sym (from_be_bytes-to_be_bytes_2 port p) ∙ ap (from_be_bytes w16) heads ∙ from_be_bytes-to_be_bytes_2 other q, ap (drop 2) e)
