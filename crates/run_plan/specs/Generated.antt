-- The accounts between which generated transfers go.
use Rattle.std.specs.Prelude.{ℕ, List, replicate}
use Rattle.txn_script.specs.declared.generator.TheConstants.{GENERATED_ACCOUNTS, GENERATED_BALANCE}

-- their rows, none of which has a commit
abbrev pub generated_rows : List (ℕ × ℕ)
generated_rows = replicate GENERATED_ACCOUNTS (GENERATED_BALANCE, 0)
