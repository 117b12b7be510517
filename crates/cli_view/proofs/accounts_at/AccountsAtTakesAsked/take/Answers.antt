use Rattle.std.proofs.Common.{◌∙◌, ℕ, List, sym}
use Rattle.std.proofs.lemmas.Result.{on_ok_weaker, IfErr-weaker}
use Rattle.log_record.specs.declared.rec.Placed.{Placed}
use Rattle.lock_core.specs.History.{entry_at}
use Rattle.lock_core.specs.Sums.{Opening}
use Rattle.lock_core.specs.Taking.{HasJudged, IsTakeFault}
use Rattle.cli_view.specs.AccountsAt.{HasTakenAt}
use Rattle.cli_view.proofs.AccountsAtLemmas.{elsewhere-taken, here-taken}
use Rattle.cli_view.proofs.accounts_at.AccountsAtTakesAsked.take.Goals as goal

-- the record starts elsewhere
pub returns-then-units-self : goal.returns-then-units-self
returns-then-units-self c = let old = c.args.self.now in record {
  taken = on_ok_weaker c.take.result
      (λ judged asked opening h taken here.
      elsewhere-taken asked opening old h c.args.lsn c.args.rec.now c.take.new.self taken here (judged opening h taken.judged)
      (λ is. c.if-units-self.true (c.units.ensures ∙ is)))
      c.take.ensures.taken;
  fault = IfErr-weaker c.take.result
      (λ fault. (opening : Opening) (h : List Placed) → HasJudged opening old.judge h → IsTakeFault opening h (entry_at c.args.lsn c.args.rec.now) fault)
      (λ fault. (asked : ℕ) (opening : Opening) (h : List Placed) → HasTakenAt asked opening old h
      → IsTakeFault opening h (entry_at c.args.lsn c.args.rec.now) fault)
      (λ fault told asked opening h taken. told opening h taken.judged) c.take.ensures.fault;
}

-- it starts at the LSN that is asked for
pub returns : goal.returns
returns c = let old = c.args.self.now in record {
  taken = on_ok_weaker c.take-2.result
      (λ judged asked opening h taken here.
      here-taken asked opening old h c.args.lsn c.args.rec.now c.take-2.new.self taken here (judged opening h taken.judged)
      (sym c.units.ensures ∙ c.if-units-self.false) c.in-Ok.balances (c.in-Ok.ensures opening h taken.judged))
      c.take-2.ensures.taken;
  fault = IfErr-weaker c.take-2.result
      (λ fault. (opening : Opening) (h : List Placed) → HasJudged opening old.judge h → IsTakeFault opening h (entry_at c.args.lsn c.args.rec.now) fault)
      (λ fault. (asked : ℕ) (opening : Opening) (h : List Placed) → HasTakenAt asked opening old h
      → IsTakeFault opening h (entry_at c.args.lsn c.args.rec.now) fault)
      (λ fault told asked opening h taken. told opening h taken.judged) c.take-2.ensures.fault;
}
