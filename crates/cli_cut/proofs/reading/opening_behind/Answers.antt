use Rattle.std.proofs.Common.{rules, arith, ◌≡◌, ◌<◌, ◌∙◌, ◌+◌, ◌^◌, ap, subst, take, length}
use Rattle.log_record.specs.LogList.{units_of}
use Rattle.lsn_space.specs.Opening.{Opening}
use Rattle.lock_core.specs.AccountRows.{opening_of}
use Rattle.log_recovery.specs.Opened.{log_of}
use Rattle.log_recovery.specs.Recovery.{list_of}
use Rattle.log_recovery.specs.declared.list_result.Listed.{Listed}
use Rattle.log_recovery.proofs.RecoveryLemmas.{log_opening-none_or_snapshot}
use Rattle.cli_cut.specs.Cutting.{IsCutOf}
use Rattle.cli_cut.proofs.FrontLemmas.{front_units-genesis_records, split-snapshot}
use Rattle.cli_cut.proofs.reading.opening_behind.Goals as goal

pub judge_of_units-requires-clause-opening : goal.judge_of_units-requires-clause-opening
judge_of_units-requires-clause-opening c =
    let lawful = c.requires.lawful in log_opening-none_or_snapshot lawful.0 (log_of (list_of c.args.listed.now lawful.1)) lawful.2.list.holds

pub judge_of_units-requires-clause-fits : goal.judge_of_units-requires-clause-fits
judge_of_units-requires-clause-fits c = omega (arith, c.requires.fits, c.split_at.ensures.front_len)

pub returns-clause-held : goal.returns-clause-held
returns-clause-held c =
    let lawful = c.requires.lawful in
    let taken = c.in-Ok.ensures.found in
    let own = c.split_at.ensures.front ∙ ap (take c.args.front) c.as_slice.ensures in
    let shows = c.into_accounts.ensures (opening_of c.args.listed.now.opening) _ taken.taken in
    let lsn : c.units.result ≡ c.args.listed.now.opening.lsn = c.units.ensures ∙ ap (λ (l : Listed). l.opening.lsn) c.listed.view_is in
    let end : c.new.result ≡ c.args.listed.now.opening.lsn + length (units_of taken.records) =
    omega (arith, c.new.ensures, lsn, ap length taken.list.units_are, c.split_at.ensures.front_len, c.requires.fits) in
    let small : c.greatest_txn.result < 2 ^ 32 = search rules in
    split-snapshot lawful.0 (list_of c.args.listed.now lawful.1) lawful.2 c.args.listed.now.units lawful.3 c.args.front c.requires.split _ taken.records _ _ _ own
    taken.list shows end small

pub returns-clause-cut : goal.returns-clause-cut
returns-clause-cut c = λ genesis later whole place.
    let taken = c.in-Ok.ensures.found in
    let own = c.split_at.ensures.front ∙ ap (take c.args.front) c.as_slice.ensures in
    let lsn : c.units.result ≡ c.args.listed.now.opening.lsn = c.units.ensures ∙ ap (λ (l : Listed). l.opening.lsn) c.listed.view_is in
    let end : c.new.result ≡ c.args.listed.now.opening.lsn + length (units_of taken.records) =
    omega (arith, c.new.ensures, lsn, ap length taken.list.units_are, c.split_at.ensures.front_len, c.requires.fits) in
    let opening : Opening = record { lsn = c.new.result; txn = c.greatest_txn.result; accounts = c.into_accounts.result.rows } in
    subst (λ records. IsCutOf (list_of c.args.listed.now records) opening)
    (front_units-genesis_records c.args.listed.now.units _ genesis later taken.records c.args.front whole place own taken.list)
    (record {
      lsn = end;
      txn = c.greatest_txn.ensures (opening_of c.args.listed.now.opening) _ taken.taken;
      accounts = c.into_accounts.ensures (opening_of c.args.listed.now.opening) _ taken.taken;
    })
