-- The sum of deltas, change by change; and that it is what is gained without what is lost.
use Rattle.std.proofs.Common.{◌≡◌, ◌<◌, ℕ, ◌+◌, ℤ, pos, negsuc, ◌+ℤ◌, ◌==◌, Bool, true, false, cond, List, [], ◌∷◌, ◌++◌, length, take, get_or, refl, ap, ◌∙◌, sym, arith}
use Rattle.std.proofs.lemmas.Int.{ints}
use Rattle.std.proofs.lemmas.List.{take_more}
use Rattle.lock_core.specs.declared.update.Change.{Change}
use Rattle.lock_core.specs.Records.{gain, loss}
use Rattle.lock_core.specs.Sums.{moved}
use Rattle.ledger_view.specs.Entries.{net_of}

pub net_of-append : (account : ℕ) (xs ys : List Change) → net_of account (xs ++ ys) ≡ net_of account xs +ℤ net_of account ys
net_of-append account [] ys = omega (arith, ints)
net_of-append account (x ∷ xs) ys = let more = net_of-append account xs ys in omega (arith, ints)

pub net_of-take_more : (account : ℕ) (changes : List Change) (i : ℕ) (change : Change) → i < length changes → change ≡ get_or changes i change
    → net_of account (take (i + 1) changes) ≡ net_of account (take i changes) +ℤ cond (change.account == account) change.delta (pos 0)
net_of-take_more account changes i change inside is =
    ap (net_of account) (take_more changes i change inside ∙ ap (λ x. take i changes ++ x ∷ []) (sym is))
    ∙ net_of-append account (take i changes) (change ∷ [])
    ∙ omega (arith, ints)

gain-loss : (delta : ℤ) → pos (loss delta) +ℤ delta ≡ pos (gain delta)
gain-loss (pos n) = omega (arith, ints)
gain-loss (negsuc n) = omega (arith, ints)

-- what is lost and the net are what is gained
pub net_of-moved : (account : ℕ) (changes : List Change) → pos (moved loss account changes) +ℤ net_of account changes ≡ pos (moved gain account changes)
net_of-moved account [] = refl
net_of-moved account (change ∷ changes) = by_case (change.account == account) (net_of-moved account changes)
  where
    by_case : (b : Bool) → pos (moved loss account changes) +ℤ net_of account changes ≡ pos (moved gain account changes)
        → pos (cond b (loss change.delta) 0 + moved loss account changes) +ℤ (cond b change.delta (pos 0) +ℤ net_of account changes)
        ≡ pos (cond b (gain change.delta) 0 + moved gain account changes)
    by_case true rest = let own = gain-loss change.delta in omega (arith, ints)
    by_case false rest = omega (arith, ints)
