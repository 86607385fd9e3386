use Rattle.std.proofs.Common.{string_bytes}
use Rattle.tape_form.proofs.Joining.{list_written}
use Rattle.tape_form.proofs.report.words.push_list.Goals as goal

pub returns : goal.returns
returns g c =
    list_written g.T.AsWord.word c.args.items.now c.first-item.result c.loop-item.item-index (string_bytes c.args.out.now) (string_bytes c.push_word.new.out) (string_bytes c.loop-item.out)
    c.in-len1-up.len_at_least c.first-item.is c.in_ok-push_word.ensures c.loop-item.invariant c.loop-item-test.false
