-- A text in lines.
use Rattle.std.specs.Prelude.{◌≢◌, ℕ, List, [], ◌∷◌, ◌++◌, if◌then◌else◌, nat_eq, All}
use Rattle.std.specs.List.{onto_first, flat_map}
use Rattle.txn_script.specs.declared.lines.TheConstants.{LF}

-- the lines of a text: each ends with a line feed, which the last one may lack
abbrev pub lines : List ℕ → List (List ℕ)
lines [] = []
lines (byte ∷ bytes) = if nat_eq byte LF then [] ∷ lines bytes else onto_first byte (lines bytes)

-- no byte of the line ends it
abbrev pub IsOneLine : List ℕ → Type 0
IsOneLine line = All (λ byte. byte ≢ LF) line

-- these lines, each with what ends it
abbrev pub ended : List (List ℕ) → List ℕ
ended each = flat_map (λ line. line ++ LF ∷ []) each
