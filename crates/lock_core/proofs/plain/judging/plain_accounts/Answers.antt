use Rattle.std.proofs.Common.{◌≡◌, ◌+◌, take, drop, reverse, subst, arith}
use Rattle.std.proofs.lemmas.Grind.{common_steps}
use Rattle.log_record.specs.declared.rec.Placed.{Placed}
use Rattle.std.specs.Prelude.{List}
use Rattle.lock_core.specs.Sums.{no_opening, ShowsAccounts}
use Rattle.lock_core.specs.Lawful.{base_with}
use Rattle.lock_core.proofs.OwnLemmas.{reverse-split}
use Rattle.lock_core.proofs.JudgingLemmas.{keeps_rows-shows_accounts}
use Rattle.lock_core.proofs.plain.judging.plain_accounts.Goals as goal

pub returns-in-Err-clause-fault : goal.returns-in-Err-clause-fault
returns-in-Err-clause-fault c = record {
  later = reverse (drop (c.entries.i + 1) c.args.entries.now);
  entry = c.index-entries-i.result;
  front = reverse (take c.entries.i c.args.entries.now);
  whole = reverse-split c.args.entries.now c.entries.i c.index-entries-i.result c.entries-test.true c.index-entries-i.is;
  lawful = c.entries.invariant.judged.lawful;
  place = c.entries.invariant.start;
  first = c.in-Err.ensures.why;
}

pub returns-clause-accounts : goal.returns-clause-accounts
returns-clause-accounts c =
    let whole : take c.entries.i c.args.entries.now ≡ c.args.entries.now = grind (arith, common_steps) in
    subst (λ (entries : List Placed). ShowsAccounts c.entries.accounts.rows (base_with no_opening (reverse entries)) (reverse entries)) whole
    (keeps_rows-shows_accounts c.entries.accounts.rows (base_with no_opening (reverse (take c.entries.i c.args.entries.now))) (reverse
    (take c.entries.i c.args.entries.now)) c.entries.invariant.judged.rows)
