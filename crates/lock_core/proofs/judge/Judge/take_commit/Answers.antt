use Rattle.std.proofs.Common.{arith, ◌∙◌, ◌+◌, ◌∷◌, ap, subst}
use Rattle.log_record.specs.declared.rec.Rec.TheVariants.{Commit}
use Rattle.lock_core.specs.KeptLedger.{KeepsLedger}
use Rattle.lock_core.proofs.judge.Judge.take_commit.Goals as goal

pub returns-clause-taken : goal.returns-clause-taken
returns-clause-taken c = λ opening h judged. record {
  ledger = subst (λ end. KeepsLedger opening c.take_commit.new.self (record { end = end; rec = Commit c.args.txn c.args.legs } ∷ h))
      (c.new-end.ensures ∙ ap (λ units. units + 1) c.units.ensures) (c.in_ok-take_commit.ensures.taken opening h judged.ledger);
  greatest = omega (arith, judged.greatest);
}
