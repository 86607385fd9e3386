use Rattle.std.proofs.Common.{ℕ, Option, Result, Ok, Err, ap}
use Rattle.std.proofs.lemmas.Fmt.{parse-decimal}
use Rattle.std.specs.Result.{result_ok}
use Rattle.std.specs.declared.num.ParseIntError.{ParseIntError}
use Rattle.command_words.proofs.words.parsed.Goals as goal

abbrev of_read : Result ℕ ParseIntError → Option ℕ
of_read read = result_ok read

pub returns-in-Ok : goal.returns-in-Ok
returns-in-Ok c = λ n h e. let read : Result ℕ ParseIntError = Ok c.in-Ok.number in ap of_read (parse-decimal 64 n c.args.word.now read h h e c.in-Ok.ensures.value.0)

pub returns-in-Err : goal.returns-in-Err
returns-in-Err c = λ n h e. let read : Result ℕ ParseIntError = Err c.in-Err.field-0 in ap of_read (parse-decimal 64 n c.args.word.now read h h e c.in-Err.ensures.value.0)
