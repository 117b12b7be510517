use Rattle.lsn_space.proofs.word.Word.make.Goals as goal

pub returns-in-Ok : goal.returns-in-Ok
returns-in-Ok c = c.in-Ok.ensures.ok
