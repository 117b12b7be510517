use Rattle.std.proofs.Common.{[], refl}
use Rattle.log_recovery.proofs.UnitsLemmas.{FailsBefore-IsUnlawfulAt, IsFront-IsRecords}
use Rattle.source_recovery.proofs.TakerLemmas.{stands-HasFailed}
use Rattle.source_recovery.proofs.records.UnitsTaker.answer.Goals as goal

pub returns-in-Failed-clause-fault : goal.returns-in-Failed-clause-fault
returns-in-Failed-clause-fault g c = λ asked opening all stands.
    let failed = stands-HasFailed (g.T.TakesAsked.has_taken asked) 1 opening all [] c.args.self c.in-Failed.lsn c.in-Failed.why
    c.in-Failed.is stands in
    FailsBefore-IsUnlawfulAt opening all failed.from c.in-Failed.lsn c.in-Failed.why failed.fails
    (IsFront-IsRecords failed.from [] refl failed.front)
