use Rattle.std.proofs.Common.{◌∙◌, sym, ap, subst, IsUtf8, arith}
use Rattle.std.proofs.lemmas.Fmt.{parse-decimal, IsAscii-decimal}
use Rattle.std.proofs.lemmas.Str.{IsUtf8-from_ascii}
use Rattle.std.specs.Result.{result_ok}
use Rattle.lsn_space.specs.Number.{number_text}
use Rattle.lsn_space.proofs.numerals.digits.Goals as goal

pub returns-in-Ok : goal.returns-in-Ok
returns-in-Ok c = λ n small text.
    let read = parse-decimal 64 n c.in-Ok.text.now c.parse.result small (omega arith) (c.in-Ok.ensures.cases.0 ∙ text) c.parse.ensures.value.0 in
    c.ok.ensures.value ∙ ap result_ok read

pub returns-in-Err : goal.returns-in-Err
returns-in-Err c = λ n small text.
    let ascii = IsUtf8-from_ascii (number_text n) (IsAscii-decimal n (omega arith)) in
    absurd (c.in-Err.ensures.cases.0 (subst IsUtf8 (sym text) ascii))
