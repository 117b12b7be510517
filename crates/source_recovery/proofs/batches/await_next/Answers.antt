use Rattle.std.proofs.Common.{◌≡◌, ◌≤◌, ◌⊎◌, ⊎_elim, true, length, rules}
use Rattle.source_recovery.specs.declared.window.TheConstants.{FULL}
use Rattle.source_recovery.proofs.AheadLemmas.{full_window-TellsNext, ended_window-TellsNext}
use Rattle.source_recovery.proofs.batches.await_next.Goals as goal

pub returns-after-fills-clause-tells : goal.returns-after-fills-clause-tells
returns-after-fills-clause-tells g c = λ rest none.
    let full : (c.fills.window.ended ≡ true) ⊎ (FULL ≤ length c.fills.window.ahead) = search rules in
    ⊎_elim (λ ended. ended_window-TellsNext c.fills.window.ahead rest (none ended)) (full_window-TellsNext c.fills.window.ahead rest) full
