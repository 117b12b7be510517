-- The script language: each line is empty or a transfer.
use Rattle.std.specs.Prelude.{◌≡◌, ◌==◌, ℕ, ◌+◌, Option, Some, None, List, [], ◌∷◌, ◌++◌, ◌⊎◌, codes, length, map, filter, not, All}
use Rattle.std.specs.List.{flat_map}
use Rattle.lsn_space.specs.Number.{number_text}
pub use Rattle.lock_core.specs.Alone.{IsAllowedLeg, AreAllowedLegs}
pub use Rattle.lock_core.specs.Transfers.{IsAllowedJob}
use Rattle.txn_script.specs.Lines.{lines}
use Rattle.lock_core.specs.declared.job.Job.{Job}
use Rattle.txn_script.specs.declared.pay.TheConstants.{SPACE}
use Rattle.txn_script.specs.declared.fault.ParseFault.{ParseFault}
use Rattle.txn_script.specs.declared.fault.ParseFault.TheVariants.{Line, NoMemory}

-- a number behind a space
abbrev pub spaced : ℕ → List ℕ
spaced n = SPACE ∷ number_text n

-- a leg: the account that pays, the account that receives, and the amount
abbrev pub leg_text : ℕ × ℕ × ℕ → List ℕ
leg_text leg = spaced leg.0 ++ spaced leg.1 ++ spaced leg.2

abbrev pub legs_text : List (ℕ × ℕ × ℕ) → List ℕ
legs_text legs = flat_map leg_text legs

-- a note behind a colon; nothing where there is none
abbrev pub note_text : Option (List ℕ) → List ℕ
note_text None = []
note_text (Some text) = codes " : " ++ text

-- the line of a transfer
abbrev pub job_text : Job → List ℕ
job_text job = codes "pay" ++ legs_text job.legs ++ note_text job.note

-- the lines that aren't empty
abbrev pub filled : List (List ℕ) → List (List ℕ)
filled each = filter (λ line. not (length line == 0)) each

-- the lines that aren't empty are these transfers, in order
pub record IsScriptText (accounts : ℕ) (bytes : List ℕ) (jobs : List Job) : Type 0 where
  pub each : All (IsAllowedJob accounts) jobs
  pub text : filled (lines bytes) ≡ map job_text jobs

-- the line is empty or a transfer
abbrev pub IsScriptLine : ℕ → List ℕ → Type 0
IsScriptLine accounts line = (line ≡ []) ⊎ ((job : Job) × IsAllowedJob accounts job × (line ≡ job_text job))

-- the number of the first line that is neither, counted from 1
pub record IsFirstBadLine (accounts : ℕ) (bytes : List ℕ) (number : ℕ) : Type 0 where
  pub before : List (List ℕ)
  pub each : All (IsScriptLine accounts) before
  pub line : List ℕ
  pub rest : List (List ℕ)
  pub text : lines bytes ≡ before ++ line ∷ rest
  pub at : number ≡ length before + 1
  pub bad : IsScriptLine accounts line → ⊥

-- what is wrong with the text; want of memory says nothing of it
abbrev pub IsScriptFault : ℕ → List ℕ → ParseFault → Type 0
IsScriptFault accounts bytes (Line number) = IsFirstBadLine accounts bytes number
IsScriptFault accounts bytes NoMemory = Unit {0}
