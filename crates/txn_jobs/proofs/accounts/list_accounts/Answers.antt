use Rattle.std.proofs.Common.{ℕ, All, [], ◌∷◌, subst, ap, arith, ◌∙◌}
use Rattle.std.proofs.lemmas.List.{get_or_default, take_all}
use Rattle.txn_jobs.specs.Accounts.{HasAccountsOf, IsAccountOf, AddsAccount}
use Rattle.txn_jobs.proofs.Listing.{listed_accounts-next_leg, one_leg-has_accounts_of, one_leg-is_account_of}
use Rattle.txn_jobs.proofs.accounts.list_accounts.Goals as goal

pub legs-preserved : goal.legs-preserved
legs-preserved c =
    let is = c.leg-in-legs.view_is ∙ c.leg-item-in-legs.is ∙ get_or_default _ _ _ (0, 0, 0) c.legs-test.true in
    let first = subst (λ account. AddsAccount account c.legs.accounts.items c.add.new.accounts.items)
    (ap (λ (leg : ℕ × ℕ × ℕ). leg.0) is) c.add.ensures.added in
    let second = subst (λ account. AddsAccount account c.add.new.accounts.items c.add-in-legs.new.accounts.items)
    (ap (λ (leg : ℕ × ℕ × ℕ). leg.1) is) c.add-in-legs.ensures.added in
    let more = listed_accounts-next_leg _ _ c.legs-test.true _ _ _ first second c.legs.invariant.all c.legs.invariant.only in record {
      rising = c.add-in-legs.ensures.rising;
      all = more.0;
      only = more.1;
      few = omega (arith, first.longer, second.longer);
    }

pub returns-clause-all : goal.returns-clause-all
returns-clause-all c = subst (All (HasAccountsOf c.legs.accounts.items))
    (take_all _ _ c.legs-test.false ∙ c.as_slice-leg-items.ensures.legs) c.legs.invariant.all

pub returns-clause-only : goal.returns-clause-only
returns-clause-only c = subst (λ legs. All (IsAccountOf legs) c.legs.accounts.items) c.as_slice-leg-items.ensures.legs c.legs.invariant.only

pub returns-in-len1-clause-all : goal.returns-in-len1-clause-all
returns-in-len1-clause-all c =
    let is = c.leg.view_is ∙ c.leg-item.is ∙ get_or_default c.as_slice.result.now 0 _ (0, 0, 0) (omega (arith, c.in-len1.len_at_least)) in
    subst (All (HasAccountsOf c.pair.new.accounts.items)) c.as_slice.ensures.legs
    (one_leg-has_accounts_of c.pair.new.accounts.items c.as_slice.result.now (omega (arith, c.in-len1.len_at_least, c.in-len1.len_below))
    (subst (λ (leg : ℕ × ℕ × ℕ). (amount : ℕ) → HasAccountsOf c.pair.new.accounts.items (leg.0, leg.1, amount)) is
    c.pair.ensures.all))

pub returns-in-len1-clause-only : goal.returns-in-len1-clause-only
returns-in-len1-clause-only c =
    let is = c.leg.view_is ∙ c.leg-item.is ∙ get_or_default c.as_slice.result.now 0 _ (0, 0, 0) (omega (arith, c.in-len1.len_at_least)) in
    subst (λ legs. All (IsAccountOf legs) c.pair.new.accounts.items) c.as_slice.ensures.legs
    (one_leg-is_account_of c.pair.new.accounts.items c.as_slice.result.now (omega (arith, c.in-len1.len_at_least, c.in-len1.len_below))
    (subst (λ (leg : ℕ × ℕ × ℕ). (amount : ℕ) → All (IsAccountOf ((leg.0, leg.1, amount) ∷ [])) c.pair.new.accounts.items) is
    c.pair.ensures.only))
