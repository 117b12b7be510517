use Rattle.std.proofs.Common.{ℤ, subst, sym, rules, w32, SFits}
use Rattle.std.proofs.lemmas.Int.{to_z-of_z}
use Rattle.log_record.specs.declared.rec.Rec.{Rec}
use Rattle.log_record.specs.declared.rec.Rec.TheVariants.{Update}
use Rattle.std.specs.Prelude.{◌+◌, length}
use Rattle.log_record.specs.Spelling.{spelling}
use Rattle.lock_core.specs.Taking.{TakesEntry}
use Rattle.lock_core.proofs.ledger.Ledger.take.Goals as goal

pub returns-in-Update : goal.returns-in-Update
returns-in-Update c =
    let fits : SFits w32 c.in-Update.delta = search rules in
    let taken = subst (λ (delta : ℤ). TakesEntry c.args.self.now c.take_update.new.self (c.args.lsn + 2) (Update c.in-Update.txn c.in-Update.account delta c.in-Update.prev) c.take_update.result)
    (to_z-of_z w32 c.in-Update.delta fits) (c.take_update.ensures (c.args.lsn + 2)) in
    subst (λ (rec : Rec). TakesEntry c.args.self.now c.take_update.new.self (c.args.lsn + length (spelling rec)) rec c.take_update.result) (sym c.in-Update.is) taken

pub returns-in-Commit : goal.returns-in-Commit
returns-in-Commit c =
    subst (λ (rec : Rec). TakesEntry c.args.self.now c.take_commit_alone.new.self (c.args.lsn + length (spelling rec)) rec c.take_commit_alone.result)
    (sym c.in-Commit.is) c.take_commit_alone.ensures
