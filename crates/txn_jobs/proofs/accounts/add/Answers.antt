use Rattle.std.proofs.Common.{rules, ◌≤◌, length, subst, sym}
use Rattle.std.specs.List.Sorted.{IsStrictlyIncreasing}
use Rattle.txn_jobs.proofs.Listing.{rising-insert_searched, adds-found, adds-insert}
use Rattle.txn_jobs.proofs.accounts.add.Goals as goal

pub returns-in-Err-clause-rising : goal.returns-in-Err-clause-rising
returns-in-Err-clause-rising c = subst IsStrictlyIncreasing (sym c.insert.ensures.items)
    (rising-insert_searched c.args.accounts.now.items c.as_slice.result.now c.in-Err.place c.args.account c.requires.rising
    c.as_slice.ensures.value c.in-Err.ensures.position)

pub returns-in-Err-clause-added : goal.returns-in-Err-clause-added
returns-in-Err-clause-added c =
    let within : c.in-Err.place ≤ length c.args.accounts.now.items = search rules in
    adds-insert c.args.account c.args.accounts.now.items c.insert.new.self.items c.in-Err.place within c.insert.ensures.items

pub returns-in_default-clause-added : goal.returns-in_default-clause-added
returns-in_default-clause-added c = adds-found c.args.account c.args.accounts.now.items c.as_slice.result.now c.in_default.field-0
    c.requires.rising c.as_slice.ensures.value c.in_default.ensures.position
