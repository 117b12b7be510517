use Rattle.std.proofs.Common.{◌≡◌, ◌≤◌, ◌+◌, ℕ, List, ◌++◌, length, map, All}
use Rattle.txn_script.specs.Lines.{lines}
use Rattle.txn_script.specs.Script.{job_text, filled, IsAllowedJob, IsScriptLine}
use Rattle.txn_script.proofs.script.parse.Given as goal

abbrev pub invariant-lines : goal.invariant-lines
invariant-lines l = record {
  before : List (List ℕ);
  each : All (IsScriptLine l.accounts) before;
  text : lines l.bytes ≡ before ++ lines l.rest;
  allowed : All (IsAllowedJob l.accounts) l.script;
  jobs : filled before ≡ map job_text l.script;
  number : l.number ≡ length before;
  bound : l.number + length l.rest ≤ length l.bytes;
}

abbrev pub decreases-lines : goal.decreases-lines
decreases-lines l = length l.rest
