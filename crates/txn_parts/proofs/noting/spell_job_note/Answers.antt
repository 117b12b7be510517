use Rattle.txn_parts.proofs.noting.spell_job_note.Goals as goal

pub returns-in_default-clause-none : goal.returns-in_default-clause-none
returns-in_default-clause-none c = λ none. c.in_default.is
