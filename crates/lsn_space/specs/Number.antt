-- Numbers as text.
use Rattle.std.specs.Prelude.{ℕ, List, decimal}

-- `0`, or decimal digits that do not begin with `0`
abbrev pub number_text : ℕ → List ℕ
number_text n = decimal n
