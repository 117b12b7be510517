use Rattle.std.proofs.Common.{rules, ◌∙◌, ap, subst, sym}
use Rattle.std.proofs.lemmas.Result.{err_from_is_err_and}
use Rattle.log_rule.specs.May.{Ascends}
use Rattle.txn_parts.proofs.DeskLemmas.{WorksOn-trans}
use Rattle.txn_making.proofs.Trying.{HasEntries-after_unchanged, HasTaken-balance_le, HasTaken-has_entries, WasHeld-has_entries}
use Rattle.txn_making.proofs.taking.take_one.Goals as goal

pub try_take-requires-clause-ascends : goal.try_take-requires-clause-ascends
try_take-requires-clause-ascends g c = subst (Ascends c.args.account) (sym c.loop.invariant.1.books_are) c.requires.ascends

pub returns-in-Ok-clause-taken : goal.returns-in-Ok-clause-taken
returns-in-Ok-clause-taken g c = record {
  account_is = c.in-Ok.ensures.taken.account_is;
  fits = HasTaken-balance_le _ _ _ _ c.in-Ok.ensures.taken;
  entries = HasTaken-has_entries _ _ _ _ c.loop.invariant.1 _ c.in-Ok.ensures.taken;
}

pub returns-in-Ok-clause-runs : goal.returns-in-Ok-clause-runs
returns-in-Ok-clause-runs g c = ap (λ m. m.0.seen.stop) c.in-Ok.ensures.taken.becomes.me ∙ c.loop.invariant.2

pub loop-preserved : goal.loop-preserved
loop-preserved g c = let i = c.loop.invariant in (
  WorksOn-trans g.Q.Relief g.met.Q.Relief.later_trans _ _ _ (search rules) c.in_ok-pause.ensures.work,
  HasEntries-after_unchanged _ _ _ _ _ (WasHeld-has_entries _ _ _ _ i.1 _ c.in_default.ensures.held) c.in_ok-pause.ensures.kept,
  c.in_ok-pause.ensures.runs,
)

pub returns-in_err-pause-clause-kept : goal.returns-in_err-pause-clause-kept
returns-in_err-pause-clause-kept g c =
    let failed = err_from_is_err_and c.from_residual.result c.from_residual.ensures.1 in
    rw failed.1 (HasEntries-after_unchanged _ _ _ _ _ (WasHeld-has_entries _ _ _ _ c.loop.invariant.1 _ c.in_default.ensures.held) c.in_err-pause.ensures.kept)
