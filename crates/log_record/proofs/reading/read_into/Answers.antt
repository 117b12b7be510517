use Rattle.std.proofs.Common.{rules, ◌∙◌, sym}
use Rattle.std.proofs.lemmas.Result.{err_from_is_err_and}
use Rattle.log_record.specs.declared.rec.Rec.{Rec}
use Rattle.log_record.specs.Spelling.{BeginsWith}
use Rattle.log_record.proofs.Fronts.{spelling-header_body}
use Rattle.log_record.proofs.reading.read_into.Goals as goal

pub returns-in_err-read_whole-clause-bad : goal.returns-in_err-read_whole-clause-bad
returns-in_err-read_whole-clause-bad c =
    let h = c.in-Some.header in
    let split = c.in-Some.ensures.front in
    let none : (r : Rec) → BeginsWith c.args.units.now r → ⊥ = λ r begins.
    c.in_err-read_whole.ensures.bad r (
      begins.0,
      spelling-header_body r h.kind h.units h.field h.txn c.in-Some.body.now split.0 begins.1
          begins.0 (search rules) (search rules) (search rules) c.in-Some.ensures.count (sym split.1 ∙ begins.2),
    ) in
    let err = err_from_is_err_and c.from_residual.result c.from_residual.ensures.1 in
    rw err.1 none
