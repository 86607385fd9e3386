use Rattle.std.proofs.Common.{◌≡◌, false, is_some, rules}
use Rattle.name_index.specs.Places.{at_name}
use Rattle.name_index.proofs.Firsts.{puts_first}
use Rattle.name_index.proofs.lookup.put_first.Goals as goal

pub returns-in_ok-insert : goal.returns-in_ok-insert
returns-in_ok-insert g c =
    let absent : is_some (at_name c.args.places.now c.args.name.now) ≡ false = search rules in
    puts_first c.args.places.now c.insert.new.self c.args.name.now c.args.value absent c.in_ok-insert.ensures.updates
