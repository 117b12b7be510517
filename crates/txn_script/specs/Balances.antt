-- The text of the balances of a new log: a number on each line, from account 0 on.
use Rattle.std.specs.Prelude.{◌≡◌, ◌<◌, ◌≤◌, ℕ, ◌+◌, List, [], ◌∷◌, ◌++◌, ◌⊎◌, length, map, All}
use Rattle.lsn_space.specs.Accounts.{Accounts}
use Rattle.lsn_space.specs.Number.{number_text}
use Rattle.log_record.specs.Spelling.{IsBalance}
use Rattle.lsn_space.specs.declared.opening.TheConstants.{MOST_ACCOUNTS}
use Rattle.txn_script.specs.Lines.{lines}
use Rattle.txn_script.specs.declared.fault.ParseFault.{ParseFault}
use Rattle.txn_script.specs.declared.fault.ParseFault.TheVariants.{Line, NoMemory}

-- the lines of the text are these balances, 1 to MOST_ACCOUNTS of them
pub record IsBalancesText (bytes balances : List ℕ) : Type 0 where
  pub some : 0 < length balances
  pub most : length balances ≤ MOST_ACCOUNTS
  pub each : All IsBalance balances
  pub text : lines bytes ≡ map number_text balances

-- the line is the text of a balance
abbrev pub IsBalanceLine : List ℕ → Type 0
IsBalanceLine line = (balance : ℕ) × IsBalance balance × (line ≡ number_text balance)

-- of these lines, which stand after so many balances, the first is outside: it is no balance, or one too many; or there is
-- neither a line nor a balance
abbrev pub BeginsOutside : ℕ → List (List ℕ) → Type 0
BeginsOutside before [] = before ≡ 0
BeginsOutside before (line ∷ more) = (before ≡ MOST_ACCOUNTS) ⊎ (IsBalanceLine line → ⊥)

-- the number of the first line outside, counted from 1: all lines before it are balances
pub record IsFirstBadBalance (bytes : List ℕ) (line : ℕ) : Type 0 where
  pub before : List ℕ
  pub most : length before ≤ MOST_ACCOUNTS
  pub each : All IsBalance before
  pub rest : List (List ℕ)
  pub text : lines bytes ≡ map number_text before ++ rest
  pub at : line ≡ length before + 1
  pub outside : BeginsOutside (length before) rest

-- the accounts have these balances, and no account has a commit
abbrev pub HasOpeningBalances : Accounts → List ℕ → Type 0
HasOpeningBalances accounts balances = accounts.rows ≡ map (λ balance. (balance, 0)) balances

-- the accounts have the balances of which this is the text
abbrev pub ReadsBalances : List ℕ → Accounts → Type 0
ReadsBalances bytes accounts = (balances : List ℕ) × IsBalancesText bytes balances × HasOpeningBalances accounts balances

-- what is wrong with the text; want of memory says nothing of it
abbrev pub IsBalancesFault : List ℕ → ParseFault → Type 0
IsBalancesFault bytes (Line line) = IsFirstBadBalance bytes line
IsBalancesFault bytes NoMemory = Unit {0}
