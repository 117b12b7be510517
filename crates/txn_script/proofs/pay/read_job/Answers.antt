use Rattle.std.proofs.Common.{◌∙◌, sym, ap, drop, ◌++◌, codes}
use Rattle.txn_script.specs.Script.{note_text, legs_text}
use Rattle.txn_script.proofs.JobLemmas.{note_text-ends_legs}
use Rattle.txn_script.proofs.LegLemmas.{legs_text-append_injective}
use Rattle.txn_script.proofs.pay.read_job.Goals as goal

pub returns-in_err-note-clause-none : goal.returns-in_err-note-clause-none
returns-in_err-note-clause-none c = rw (c.from_residual-in_err-note.ensures) (λ job allowed same.
    let legs = c.in_ok-legs.ensures in
    let behind = ap (drop 3) (sym c.in_ok-rest.ensures.some ∙ same) in
    let parts = legs_text-append_injective c.args.accounts c.ranges.accounts.fits c.in_ok-legs.legs job.legs c.in_ok-legs.rest.now (note_text job.note)
    legs.allowed allowed.legs legs.whole (note_text-ends_legs job.note) (sym legs.text ∙ behind) in
    c.in_err-note.ensures.none job.note allowed.note parts.1)

pub returns-clause-text : goal.returns-clause-text
returns-clause-text c =
    let note = ap (λ rest. legs_text c.in_ok-legs.legs ++ rest) c.in_ok-note.ensures.text in
    c.in_ok-rest.ensures.some ∙ ap (λ rest. codes "pay" ++ rest) (c.in_ok-legs.ensures.text ∙ note)
