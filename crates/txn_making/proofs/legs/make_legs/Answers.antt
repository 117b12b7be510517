use Rattle.std.proofs.Common.{rules, ◌++◌, ◌∙◌}
use Rattle.txn_parts.specs.Desk.{books_at}
use Rattle.txn_parts.proofs.DeskLemmas.{WorksOn-accounts, WorksOn-trans}
use Rattle.txn_making.specs.Legs.{HoldsJob}
use Rattle.txn_making.proofs.Adding.{adds-trans}
use Rattle.txn_making.proofs.Passing.{leg-has_accounts_of, leg_amount-le_most, reaches-refused, reaches-done, CanMake-may_make_leg, HoldsJob-after_leg, StandsBefore-next_leg, IsAfter-taken_same}
use Rattle.txn_making.proofs.legs.make_legs.Goals as goal

pub refusal-requires-clause-both : goal.refusal-requires-clause-both
refusal-requires-clause-both g c = let i = c.legs.invariant in
    leg-has_accounts_of _ _ _ _ _ _ i.2 i.3 _ _ c.as_slice-legs.ensures.legs c.legs-test.true c.index-legs-i.is

pub refusal-requires-clause-amount : goal.refusal-requires-clause-amount
refusal-requires-clause-amount g c = let i = c.legs.invariant in
    leg_amount-le_most _ _ _ _ _ _ i.2 i.3 _ _ c.as_slice-legs.ensures.legs c.legs-test.true c.index-legs-i.is

pub returns-in-Some-clause-ended : goal.returns-in-Some-clause-ended
returns-in-Some-clause-ended g c = let i = c.legs.invariant in
    reaches-refused _ _ _ _ _ _ i.2 i.3 _ _ c.as_slice-legs.ensures.legs c.legs-test.true c.index-legs-i.is _ c.in-Some.ensures.refused

pub make_leg-requires-clause-leg : goal.make_leg-requires-clause-leg
make_leg-requires-clause-leg g c = let i = c.legs.invariant in
    CanMake-may_make_leg _ _ _ _ _ _ (WorksOn-accounts g.Q.Relief _ _ i.0
    (λ accounts. HoldsJob accounts c.args.numbered.now.number c.args.numbered.now.job c.legs.holdings (books_at c.legs.desk)) i.2) i.3 _ _
    c.as_slice-legs.ensures.legs c.legs-test.true c.index-legs-i.is c.in_default.ensures.fits

pub returns-in_err-make_leg-clause-added : goal.returns-in_err-make_leg-clause-added
returns-in_err-make_leg-clause-added g c = let before = c.legs.invariant.1 in let more = c.in_err-make_leg.ensures.added in
    (before.0 ++ more.0, adds-trans _ _ _ _ _ before.1 more.1)

pub legs-preserved : goal.legs-preserved
legs-preserved g c = let i = c.legs.invariant in let can = c.in_default.ensures.fits in let made = c.in_ok-make_leg.ensures.made in (
  WorksOn-trans g.Q.Relief g.met.Q.Relief.later_trans _ _ _ i.0 c.in_ok-make_leg.ensures.work,
  (i.1.0 ++ made.added, adds-trans _ _ _ _ _ i.1.1 made.adds),
  HoldsJob-after_leg _ _ _ _ _ _ i.2 i.3 _ _ c.as_slice-legs.ensures.legs c.legs-test.true c.index-legs-i.is can _ c.move_amount.ensures _ _
      made.adds.entries.books_are made.records_are,
  StandsBefore-next_leg _ _ _ _ _ _ i.2 i.3 _ _ c.as_slice-legs.ensures.legs c.legs-test.true c.index-legs-i.is can _ c.move_amount.ensures _ _
      made.adds.entries.books_are made.records_are,
  IsAfter-taken_same _ _ _ c.move_amount.ensures ∙ i.4,
)

pub returns-clause-ended : goal.returns-clause-ended
returns-clause-ended g c = let i = c.legs.invariant in reaches-done _ _ _ _ _ _ i.2 i.3 (search rules)
