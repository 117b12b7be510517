use Rattle.std.proofs.Common.{rules, ◌∙◌, length, ap, arith}
use Rattle.log_record.specs.Spelling.{spelling}
use Rattle.log_record.specs.declared.rec.Rec.TheVariants.{Note}
use Rattle.log_record.proofs.BoundLemmas.{length-spelling}
use Rattle.log_record.proofs.writing.spell_into.Goals as goal

pub returns-in-Note-clause-short : goal.returns-in-Note-clause-short
returns-in-Note-clause-short c = omega (
  arith,
  ap length (c.spell_note.ensures ∙ ap (λ text. spelling (Note c.in-Note.txn text)) c.as_slice.ensures.bytes),
  length-spelling (Note c.in-Note.txn c.in-Note.text) (search rules),
)
