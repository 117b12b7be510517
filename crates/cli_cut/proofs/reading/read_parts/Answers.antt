use Rattle.std.proofs.Common.{sym, subst}
use Rattle.log_record.specs.LogList.{AreUnitsOf}
use Rattle.cli_shared.proofs.SourceLemmas.{TellsSource-CountsWhere}
use Rattle.cli_cut.proofs.PartsLemmas.{ReadsAll-are_parts, genesis-front}
use Rattle.cli_cut.proofs.reading.read_parts.Goals as goal

pub returns-in-Err-clause-told : goal.returns-in-Err-clause-told
returns-in-Err-clause-told g c = c.source_detail.ensures.is _ _ c.in-Err.ensures.fault

pub returns-in-Err-clause-read : goal.returns-in-Err-clause-read
returns-in-Err-clause-read g c = TellsSource-CountsWhere c.in-Err.fault _ _ _ c.source_detail.ensures c.in-Err.ensures.failed

pub genesis_units-front-requires : goal.genesis_units-front-requires
genesis_units-front-requires g c =
    let listed = c.in-Ok.ensures.found.3 in
    (listed.records, subst (λ units. AreUnitsOf units listed.records) (sym c.as_slice.ensures) listed.has.list)

pub ask-requires : goal.ask-requires
ask-requires g c =
    let found = c.in-Ok.ensures.found in
    genesis-front found.0 c.in-Ok.both.1 found.3 found.2.list found.2.held c.genesis_units-front.result
    (rw c.as_slice.ensures at c.genesis_units-front.ensures)

pub returns-clause-told : goal.returns-clause-told
returns-clause-told g c =
    let found = c.in-Ok.ensures.found in
    let split = rw c.as_slice.ensures at c.genesis_units-front.ensures in
    ReadsAll-are_parts _ _ _ found.0 found.2 found.3 split c.in-Ok-ask.ensures.head found.1 c.in-Ok-ask.ensures.batch.0 c.in-Ok-ask.ensures.batch.1
