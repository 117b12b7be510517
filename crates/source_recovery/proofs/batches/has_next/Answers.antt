use Rattle.std.proofs.Common.{List, ℕ, arith, leb-true, length-take, length-drop}
use Rattle.source_recovery.proofs.AheadLemmas.{whole_batch-TellsNext}
use Rattle.source_recovery.proofs.batches.has_next.Goals as goal

pub returns-in-Some-len4-up : goal.returns-in-Some-len4-up
returns-in-Some-len4-up c = λ is rest.
    let body : List ℕ = c.in-Some-len4-up.field-0.now in
    whole_batch-TellsNext c.args.bytes.now rest body c.from_be_bytes.result c.in-Some-len4-up.ensures.some.0 c.in-Some-len4-up.len_at_least
    c.from_be_bytes.ensures (omega (arith, leb-true _ _ is, length-take {A = ℕ}, length-drop {A = ℕ}))
