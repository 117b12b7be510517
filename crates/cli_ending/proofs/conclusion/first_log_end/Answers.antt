use Rattle.std.proofs.Common.{rules, ◌∙◌, ap, subst, ◌∷◌, ◌++◌, take, drop, suc, arith}
use Rattle.std.proofs.Math.Seq.{split_at}
use Rattle.std.proofs.lemmas.List.{take_all}
use Rattle.txn_jobs.specs.declared.cause.Worked.TheVariants.{Cut}
use Rattle.txn_jobs.specs.declared.cause.Cause.TheVariants.{LogEnd}
use Rattle.cli_ending.specs.Conclusion.{AreWhole}
use Rattle.cli_ending.proofs.conclusion.first_log_end.Goals as goal

pub returns-in-Cut-LogEnd-clause-some : goal.returns-in-Cut-LogEnd-clause-some
returns-in-Cut-LogEnd-clause-some c =
    let ends = c.args.ends.now in let at = c.ends.worked-index in
    let end = Cut (LogEnd c.in-Cut-LogEnd.tail c.in-Cut-LogEnd.total) in
    record {
      below = take at ends;
      above = drop (suc at) ends;
      whole = split_at ends at end (omega arith) ∙ ap (λ e. take at ends ++ e ∷ drop (suc at) ends) (search rules);
      all_whole = c.ends.invariant;
    }

pub returns-clause-none : goal.returns-clause-none
returns-clause-none c = subst AreWhole (take_all c.ends.worked-index c.args.ends.now (omega arith)) c.ends.invariant

pub returns-in-Cut-LogEnd-clause-none : goal.returns-in-Cut-LogEnd-clause-none
returns-in-Cut-LogEnd-clause-none c = tt
