use Rattle.std.proofs.Common.{refl}
use Rattle.segment_file.specs.Log.{first_batch}
use Rattle.segment_file.proofs.ScanLemmas.{TakesFront-first_format, HasNoBatch-zero, TakesFront-second_format}
use Rattle.segment_file.proofs.front.take_front.Goals as goal

pub returns-in-Ok-take_batch-clause-found : goal.returns-in-Ok-take_batch-clause-found
returns-in-Ok-take_batch-clause-found c =
    TakesFront-first_format _ c.in-Some.body.now _ _ _ _ _ c.in-Some.ensures.some c.in-Ok.ensures c.new.ensures c.new-units.ensures.items c.in-Ok-take_batch.ensures.taken

pub returns-in-Err-Bad-clause-fault : goal.returns-in-Err-Bad-clause-fault
returns-in-Err-Bad-clause-fault c =
    first_batch c.in-Some.body.now c.in-Some.ensures.some
    (HasNoBatch-zero c.in-Some.body.now _ _ c.new.ensures c.new-units.ensures.items (c.in-Err-Bad.ensures.bad (cc))) refl

pub returns-in-Ok-take_snapshot-clause-found : goal.returns-in-Ok-take_snapshot-clause-found
returns-in-Ok-take_snapshot-clause-found c =
    TakesFront-second_format _ c.in-Some-after_head_magic.body.now _ _ _ c.in-Some-after_head_magic.ensures.some c.in-Ok-take_snapshot.ensures.held
    c.in-Ok-take_snapshot.ensures.taken c.new-in-Ok-take_snapshot.ensures.items
