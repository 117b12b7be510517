use Rattle.std.proofs.Common.{◌≢◌, ℕ, ◌<◌, ◌≤◌, ◌∙◌, List, [], ◌∷◌, length, map, Contains, sym, arith}
use Rattle.std.specs.List.{AllWithin}
use Rattle.std.proofs.lemmas.List.{length-map, get_or-map}
use Rattle.txn_parts.specs.declared.taken_account.TakenAccount.{TakenAccount}
use Rattle.txn_parts.specs.Holdings.{account_of}
use Rattle.txn_parts.proofs.leg.holding_of.Goals as goal

-- an account that one of the holdings has isn't lacking
found : (holdings : List TakenAccount) (account n : ℕ) → length holdings ≤ n → Contains (map account_of holdings) account
    → AllWithin (λ (holding : TakenAccount). holding.taken.account ≢ account) holdings 0 n → ⊥
found [] account n all has none = absurd (omega (arith, has.1))
found (first ∷ holdings) account n all has none =
    none has.0 first (omega arith) (omega (arith, within))
    (sym (get_or-map account_of (first ∷ holdings) has.0 first account within) ∙ has.2)
  where
    within : has.0 < length (first ∷ holdings)
    within = omega (arith, has.1, length-map (first ∷ holdings) account_of)

pub unreachable-requires : goal.unreachable-requires
unreachable-requires c = found c.args.holdings.now c.args.account _ c.holdings-test.false c.requires c.holdings.invariant
