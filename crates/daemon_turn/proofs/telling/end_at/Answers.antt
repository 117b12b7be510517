use Rattle.std.proofs.Common.{rules, ◌≡◌, ◌∙◌, ◌∷◌, sym}
use Rattle.log_record.specs.Spelling.{header, spelling}
use Rattle.log_record.proofs.Fronts.{parts_of}
use Rattle.daemon_turn.proofs.HeadLemmas.{spelling-first_unit, header-tells_length}
use Rattle.daemon_turn.proofs.telling.end_at.Goals as goal

pub returns : goal.returns
returns c =
    let rec = c.requires.0 in
    let begins = c.requires.1 in
    let h = c.of-head.result in
    let body = (parts_of rec).body in
    let spelled : spelling rec ≡ header h.kind h.units h.field h.txn ∷ body =
    spelling-first_unit rec c.args.batch.now.units c.args.at (header h.kind h.units h.field h.txn) begins (sym c.of-head.ensures ∙ c.at.ensures) in
    let size = header-tells_length rec h.kind h.units h.field h.txn body begins.0 (search rules) (search rules) (search rules) spelled in
    (rec, begins, c.end_of.ensures rec body begins.0 spelled, sym size)
