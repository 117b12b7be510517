use Rattle.std.proofs.Common.{reverse, refl, subst, ℤ, rules, w32, SFits}
use Rattle.std.proofs.lemmas.Int.{to_z-of_z}
use Rattle.lock_core.specs.Sums.{no_opening}
use Rattle.lock_core.specs.Judging.{Judges}
use Rattle.log_record.specs.declared.rec.Rec.TheVariants.{Genesis, Update, Commit, Short, Over, Note}
use Rattle.lock_core.proofs.JudgingLemmas.{judges-err_first_failing, judges-ok_judged_same_accounts, judges-ok_judged_by_rows}
use Rattle.lock_core.proofs.plain.judging.admit.Goals as goal

pub returns-in-Genesis-clause-ok : goal.returns-in-Genesis-clause-ok
returns-in-Genesis-clause-ok c =
    judges-ok_judged_by_rows no_opening (reverse c.args.front.now) c.args.entry.now (Genesis c.in-Genesis.account c.in-Genesis.balance) c.in-Genesis.is c.admit_genesis.result
    c.admit_genesis.new.accounts c.requires.judged.lawful (c.admit_genesis.ensures.tests c.args.entry.now.end) (c.admit_genesis.ensures.kept c.args.entry.now.end)

pub returns-in-Genesis-clause-why : goal.returns-in-Genesis-clause-why
returns-in-Genesis-clause-why c =
    judges-err_first_failing no_opening (reverse c.args.front.now) c.args.entry.now (Genesis c.in-Genesis.account c.in-Genesis.balance)
    c.in-Genesis.is c.admit_genesis.result (c.admit_genesis.ensures.tests c.args.entry.now.end)

pub returns-in-Update-clause-ok : goal.returns-in-Update-clause-ok
returns-in-Update-clause-ok c =
    let fits : SFits w32 c.in-Update.delta = search rules in
    let judges = subst (λ (delta : ℤ). Judges no_opening (reverse c.args.front.now) (record {
      end = c.args.entry.now.end;
      rec = Update c.in-Update.txn c.in-Update.account delta c.in-Update.prev;
    }) c.admit_update.result)
    (to_z-of_z w32 c.in-Update.delta fits) (c.admit_update.ensures c.args.entry.now.end) in
    judges-ok_judged_same_accounts no_opening (reverse c.args.front.now) c.args.entry.now
    (Update c.in-Update.txn c.in-Update.account c.in-Update.delta c.in-Update.prev) c.in-Update.is c.admit_update.result
    c.args.accounts.now (λ never. never) refl c.requires.judged judges

pub returns-in-Update-clause-why : goal.returns-in-Update-clause-why
returns-in-Update-clause-why c =
    let fits : SFits w32 c.in-Update.delta = search rules in
    let judges = subst (λ (delta : ℤ). Judges no_opening (reverse c.args.front.now) (record {
      end = c.args.entry.now.end;
      rec = Update c.in-Update.txn c.in-Update.account delta c.in-Update.prev;
    }) c.admit_update.result)
    (to_z-of_z w32 c.in-Update.delta fits) (c.admit_update.ensures c.args.entry.now.end) in
    judges-err_first_failing no_opening (reverse c.args.front.now) c.args.entry.now
    (Update c.in-Update.txn c.in-Update.account c.in-Update.delta c.in-Update.prev) c.in-Update.is c.admit_update.result judges

pub returns-in-Commit-clause-ok : goal.returns-in-Commit-clause-ok
returns-in-Commit-clause-ok c =
    judges-ok_judged_by_rows no_opening (reverse c.args.front.now) c.args.entry.now (Commit c.in-Commit.txn c.in-Commit.legs) c.in-Commit.is c.admit_commit.result
    c.admit_commit.new.accounts c.requires.judged.lawful (c.admit_commit.ensures.tests) (c.admit_commit.ensures.kept)

pub returns-in-Commit-clause-why : goal.returns-in-Commit-clause-why
returns-in-Commit-clause-why c =
    judges-err_first_failing no_opening (reverse c.args.front.now) c.args.entry.now (Commit c.in-Commit.txn c.in-Commit.legs) c.in-Commit.is c.admit_commit.result (c.admit_commit.ensures.tests)

pub returns-in-Short-clause-ok : goal.returns-in-Short-clause-ok
returns-in-Short-clause-ok c =
    judges-ok_judged_same_accounts no_opening (reverse c.args.front.now) c.args.entry.now (Short c.in-Short.txn c.in-Short.leg) c.in-Short.is c.admit_refusal.result
    c.args.accounts.now (λ never. never) refl c.requires.judged (c.admit_refusal.ensures.short c.args.entry.now.end)

pub returns-in-Short-clause-why : goal.returns-in-Short-clause-why
returns-in-Short-clause-why c =
    judges-err_first_failing no_opening (reverse c.args.front.now) c.args.entry.now (Short c.in-Short.txn c.in-Short.leg)
    c.in-Short.is c.admit_refusal.result (c.admit_refusal.ensures.short c.args.entry.now.end)

pub returns-in-Over-clause-ok : goal.returns-in-Over-clause-ok
returns-in-Over-clause-ok c =
    judges-ok_judged_same_accounts no_opening (reverse c.args.front.now) c.args.entry.now (Over c.in-Over.txn c.in-Over.leg) c.in-Over.is c.admit_refusal-in-Over.result
    c.args.accounts.now (λ never. never) refl c.requires.judged (c.admit_refusal-in-Over.ensures.over c.args.entry.now.end)

pub returns-in-Over-clause-why : goal.returns-in-Over-clause-why
returns-in-Over-clause-why c =
    judges-err_first_failing no_opening (reverse c.args.front.now) c.args.entry.now (Over c.in-Over.txn c.in-Over.leg)
    c.in-Over.is c.admit_refusal-in-Over.result (c.admit_refusal-in-Over.ensures.over c.args.entry.now.end)

pub returns-in-Note-clause-ok : goal.returns-in-Note-clause-ok
returns-in-Note-clause-ok c =
    judges-ok_judged_same_accounts no_opening (reverse c.args.front.now) c.args.entry.now (Note c.in-Note.txn c.in-Note.text) c.in-Note.is c.admit_note.result
    c.args.accounts.now (λ never. never) refl c.requires.judged (c.admit_note.ensures c.args.entry.now.end)

pub returns-in-Note-clause-why : goal.returns-in-Note-clause-why
returns-in-Note-clause-why c =
    judges-err_first_failing no_opening (reverse c.args.front.now) c.args.entry.now (Note c.in-Note.txn c.in-Note.text) c.in-Note.is c.admit_note.result (c.admit_note.ensures c.args.entry.now.end)
