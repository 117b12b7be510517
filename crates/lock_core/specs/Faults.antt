-- Where a list first goes wrong.
use Rattle.std.specs.Prelude.{◌≡◌, ℕ, List, [], ◌∷◌, ◌++◌}
use Rattle.std.specs.List.{AllByRecursion}
use Rattle.log_record.specs.declared.rec.Placed.{Placed}
use Rattle.lock_core.specs.declared.reason.Why.{Why}
use Rattle.lock_core.specs.declared.reason.Why.TheVariants as why
use Rattle.lock_core.specs.History.{end_from}
use Rattle.lock_core.specs.Sums.{Opening}
use Rattle.lock_core.specs.Lawful.{Passes, IsLawful}

-- the tests that are made before this one
abbrev pub tests_before : Why → List Why
tests_before why.Genesis = []
tests_before why.Account = why.Genesis ∷ []
tests_before why.Ended = why.Genesis ∷ why.Account ∷ []
tests_before why.Legs = why.Genesis ∷ why.Account ∷ why.Ended ∷ []
tests_before why.Pair = why.Genesis ∷ why.Account ∷ why.Ended ∷ why.Legs ∷ []
tests_before why.Prev = why.Genesis ∷ why.Account ∷ why.Ended ∷ why.Legs ∷ why.Pair ∷ []
tests_before why.Stale = why.Genesis ∷ why.Account ∷ why.Ended ∷ why.Legs ∷ why.Pair ∷ why.Prev ∷ []
tests_before why.Balance = why.Genesis ∷ why.Account ∷ why.Ended ∷ why.Legs ∷ why.Pair ∷ why.Prev ∷ why.Stale ∷ []

-- of the tests that are to pass, this is the first that doesn't
pub record IsFirstFailing (Passes' : Why → Type 0) (test : Why) : Type 0 where
  pub passes : AllByRecursion Passes' (tests_before test)
  pub fails : Passes' test → ⊥

-- the record that starts at this address is the first that fails a test, and this is the first test that it fails
pub record IsUnlawfulAt (opening : Opening) (h : List Placed) (lsn : ℕ) (test : Why) : Type 0 where
  pub later : List Placed
  pub entry : Placed
  pub front : List Placed
  pub whole : h ≡ later ++ entry ∷ front
  pub lawful : IsLawful opening front
  pub place : lsn ≡ end_from opening.state.end front
  pub first : IsFirstFailing (Passes opening front entry) test
