-- What is kept of a log's accounts.
use Rattle.std.specs.Prelude.{ℕ, List}

-- for each account, from account 0 on, its balance and the LSN at which its last commit ends (0 where it has none);
-- and for how many accounts there is room
pub record Accounts : Type 0 where
  pub rows : List (ℕ × ℕ)
  pub room : ℕ
