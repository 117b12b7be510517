-- What a source gives a window, read by read.
use Rattle.std.proofs.Common.{◌≡◌, subst, Bool, true, false, ℕ, ◌+◌, List, [], ◌++◌, Option, append_assoc}
use Rattle.std.specs.Io.KnownBytes.{Consumes, IsAtEnd}
use Rattle.std.proofs.KnownBytes.{Consumes-trans}
use Rattle.source_recovery.specs.Window.{WindowView, HasPassed, DropsRest}

-- how many reads a loop may make that ends with the source
abbrev pub reads_left : Bool → ℕ → ℕ
reads_left true allowance = 0
reads_left false allowance = allowance + 1

pub true-no_false : (b : Bool) → b ≡ true → b ≡ false → ⊥
true-no_false b is other = cc

-- some bytes more, behind those that were passed and those ahead
passed-more : (first mid now : Option (List ℕ)) (passed ahead more : List ℕ) → Consumes first mid (passed ++ ahead) → Consumes mid now more
    → Consumes first now (passed ++ (ahead ++ more))
passed-more first mid now passed ahead more before behind =
    subst (Consumes first now) (append_assoc passed ahead more) (Consumes-trans first mid now (passed ++ ahead) more before behind)

-- the rest of the source is read
pub rest_read-DropsRest : (first mid now : Option (List ℕ)) (window : WindowView) (passed rest : List ℕ)
    → HasPassed first mid window passed → Consumes mid now rest → (window.ended ≡ true → rest ≡ []) → IsAtEnd now → DropsRest first now window passed
rest_read-DropsRest first mid now window passed rest before read none end = record {
  rest = rest;
  none = none;
  gave = record { given = passed-more first mid now passed window.ahead rest before.given read; end = end };
}
