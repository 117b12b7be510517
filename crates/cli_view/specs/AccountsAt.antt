-- What is kept of a history that comes by for its accounts at one LSN.
use Rattle.std.specs.Prelude.{◌≡◌, ◌≤◌, ◌⊎◌, ℕ, List, [], ◌∷◌, Option, MatchOption}
use Rattle.log_record.specs.declared.rec.Placed.{Placed}
use Rattle.lsn_space.specs.Accounts.{Accounts}
use Rattle.lock_core.specs.History.{end_from}
use Rattle.lock_core.specs.Sums.{Opening}
use Rattle.lock_core.specs.Taking.{HasJudged}
use Rattle.ledger_view.specs.Entries.{front_to}
use Rattle.cli_view.specs.declared.accounts_at.AccountsAt.{AccountsAt}
use Rattle.cli_view.specs.Balances.{HasBalances}

-- a record of a history that begins there starts at this LSN
abbrev pub StartsAt : ℕ → List Placed → ℕ → Type 0
StartsAt begin [] lsn = ⊥
StartsAt begin (entry ∷ h) lsn = (lsn ≡ end_from begin h) ⊎ StartsAt begin h lsn

-- a record starts there, or the history ends there
abbrev pub IsPlaceIn : ℕ → List Placed → ℕ → Type 0
IsPlaceIn begin h lsn = (lsn ≡ end_from begin h) ⊎ StartsAt begin h lsn

-- what was found at the LSN: the balances up to there as soon as a record started there, and none before
abbrev pub IsFoundAt : ℕ → Opening → List Placed → Option Accounts → Type 0
IsFoundAt lsn opening h found = MatchOption found (StartsAt opening.state.end h lsn → ⊥)
    (λ balances. StartsAt opening.state.end h lsn × (lsn ≤ end_from opening.state.end h) × HasBalances opening (front_to h lsn) balances.rows)

-- and what is answered: the balances up to there if it is a boundary
abbrev pub IsAnswerAt : ℕ → Opening → List Placed → Option Accounts → Type 0
IsAnswerAt lsn opening h found = MatchOption found (IsPlaceIn opening.state.end h lsn → ⊥)
    (λ balances. IsPlaceIn opening.state.end h lsn × HasBalances opening (front_to h lsn) balances.rows)

-- asked for this LSN, the taker has taken the history: a judge has, and what was found at the LSN is kept
pub record HasTakenAt (lsn : ℕ) (opening : Opening) (taker : AccountsAt) (h : List Placed) : Type 0 where
  pub of : taker.asked ≡ lsn
  pub judged : HasJudged opening taker.judge h
  pub found : IsFoundAt lsn opening h taker.found
