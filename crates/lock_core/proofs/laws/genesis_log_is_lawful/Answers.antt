use Rattle.std.proofs.Common.{refl, [], ◌∷◌}
use Rattle.log_record.specs.declared.rec.Rec.TheVariants.{Genesis}
use Rattle.lock_core.specs.Sums.{no_opening}
use Rattle.lock_core.proofs.KindLemmas.{passes-genesis}
use Rattle.lock_core.proofs.laws.genesis_log_is_lawful.Goals as goal

pub returns-clause-lawful : goal.returns-clause-lawful
returns-clause-lawful c =
    (passes-genesis no_opening (record { end = 2; rec = Genesis 0 100 } ∷ []) 4 1 0 (tt, tt) refl refl, (passes-genesis no_opening [] 2 0 100 tt refl refl, tt))
