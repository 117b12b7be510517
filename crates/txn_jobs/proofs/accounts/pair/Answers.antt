use Rattle.std.proofs.Common.{◌≡◌, ◌∷◌, ◌++◌, [], List, ℕ, All, sym, ap, subst, ◌∙◌}
use Rattle.std.specs.List.Sorted.{IsStrictlyIncreasing}
use Rattle.txn_jobs.specs.Accounts.{HasAccountsOf, IsAccountOf}
use Rattle.txn_jobs.proofs.Listing.{one_account-rising, one_account-has_accounts_of, one_account-is_account_of, two_accounts-rising, two_accounts-has_accounts_of, two_accounts-is_account_of}
use Rattle.txn_jobs.proofs.accounts.pair.Goals as goal

pushed : (none one : List ℕ) (x : ℕ) → none ≡ [] → one ≡ none ++ x ∷ [] → one ≡ x ∷ []
pushed none one x empty first = first ∙ ap (λ xs. xs ++ x ∷ []) empty

-- what is pushed are these two
pushed-two : (none one two : List ℕ) (x y x' y' : ℕ) → none ≡ [] → one ≡ none ++ x ∷ [] → two ≡ one ++ y ∷ [] → x ≡ x' → y ≡ y'
    → two ≡ x' ∷ y' ∷ []
pushed-two none one two x y x' y' empty first second x-is y-is =
    second ∙ ap (λ xs. xs ++ y ∷ []) (pushed none one x empty first) ∙ (λ i. x-is i ∷ y-is i ∷ [])

pub returns-then-payer-payee-clause-rising : goal.returns-then-payer-payee-clause-rising
returns-then-payer-payee-clause-rising c =
    subst IsStrictlyIncreasing (sym (pushed _ _ _ c.requires.empty c.push.ensures.items)) (one_account-rising c.args.payer c.args.payee)

pub returns-then-payer-payee-clause-all : goal.returns-then-payer-payee-clause-all
returns-then-payer-payee-clause-all c = λ amount. subst (λ xs. HasAccountsOf xs (c.args.payer, c.args.payee, amount))
    (sym (pushed _ _ _ c.requires.empty c.push.ensures.items)) (one_account-has_accounts_of c.args.payer c.args.payee amount c.if-payer-payee.true)

pub returns-then-payer-payee-clause-only : goal.returns-then-payer-payee-clause-only
returns-then-payer-payee-clause-only c = λ amount. subst (All (IsAccountOf ((c.args.payer, c.args.payee, amount) ∷ [])))
    (sym (pushed _ _ _ c.requires.empty c.push.ensures.items)) (one_account-is_account_of c.args.payer c.args.payee amount)

pub returns-clause-rising : goal.returns-clause-rising
returns-clause-rising c = subst IsStrictlyIncreasing
    (sym (pushed-two _ _ _ _ _ _ _ c.requires.empty c.push-2.ensures.items c.push-3.ensures.items c.min.ensures c.max.ensures))
    (two_accounts-rising c.args.payer c.args.payee c.if-payer-payee.false)

pub returns-clause-all : goal.returns-clause-all
returns-clause-all c = λ amount. subst (λ xs. HasAccountsOf xs (c.args.payer, c.args.payee, amount))
    (sym (pushed-two _ _ _ _ _ _ _ c.requires.empty c.push-2.ensures.items c.push-3.ensures.items c.min.ensures c.max.ensures))
    (two_accounts-has_accounts_of c.args.payer c.args.payee amount)

pub returns-clause-only : goal.returns-clause-only
returns-clause-only c = λ amount. subst (All (IsAccountOf ((c.args.payer, c.args.payee, amount) ∷ [])))
    (sym (pushed-two _ _ _ _ _ _ _ c.requires.empty c.push-2.ensures.items c.push-3.ensures.items c.min.ensures c.max.ensures))
    (two_accounts-is_account_of c.args.payer c.args.payee amount)
