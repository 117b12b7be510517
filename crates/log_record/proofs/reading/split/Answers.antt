use Rattle.std.proofs.Common.{rules, ◌∙◌, ◌++◌, ◌∷◌, ap, ap₂, sym, length, drop, arith, length-append}
use Rattle.std.proofs.lemmas.List.{take-append-drop}
use Rattle.log_record.specs.Spelling.{spelling}
use Rattle.log_record.proofs.Fronts.{front_header-kind_and_length}
use Rattle.log_record.proofs.reading.split.Goals as goal

pub returns-in_err-body-clause-cut : goal.returns-in_err-body-clause-cut
returns-in_err-body-clause-cut c = rw c.from_residual-in_err-body.ensures (λ r begins.
    let h = c.of-header.result in
    let first = c.in_ok-first.first.now in
    let is = sym c.in_ok-first.ensures.cases.0 ∙ begins.2 in
    let found = front_header-kind_and_length r h.kind h.units h.field h.txn first c.in_ok-first.rest.now begins.1 begins.0
    (search rules) (search rules) (search rules) c.of-header.ensures is in
    absurd (omega (arith, ap length is, length-append (spelling r) begins.1, c.in_err-body.ensures.cases, c.in_ok-count.ensures)))

pub returns-clause-front : goal.returns-clause-front
returns-clause-front c =
    let rest = c.in_ok-first.rest.now in
    let behind = drop c.in_ok-count.count rest in
    let parts = sym (take-append-drop c.in_ok-count.count rest) ∙ ap (λ body. body ++ behind) (sym c.in_ok-body.ensures.cases.1) in
    (behind, c.in_ok-first.ensures.cases.0 ∙ ap₂ (λ unit units. unit ∷ units) c.of-header.ensures parts)
