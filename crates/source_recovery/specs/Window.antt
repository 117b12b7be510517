-- What a window on a source holds, and what the source gave. `first` is what the source told when the reading began, `now` what it
-- tells now.
use Rattle.std.specs.Prelude.{◌≡◌, Bool, true, ℕ, List, [], ◌++◌, Option}
use Rattle.std.specs.Io.KnownBytes.{Consumes, IsAtEnd}

-- the bytes that were read and aren't passed yet, and whether the source has ended
pub record WindowView : Type 0 where
  pub ahead : List ℕ
  pub ended : Bool

-- the source gave these bytes and then those of the window, which aren't passed; where the window has ended, so has the source
pub record HasPassed (first now : Option (List ℕ)) (window : WindowView) (passed : List ℕ) : Type 0 where
  pub given : Consumes first now (passed ++ window.ahead)
  pub end : window.ended ≡ true → IsAtEnd now

-- the source gave these bytes up to its end
pub record GaveAll (first now : Option (List ℕ)) (bytes : List ℕ) : Type 0 where
  pub given : Consumes first now bytes
  pub end : IsAtEnd now

-- the source gave, behind what was passed and what is in the window, the rest of its bytes: none where the window has ended
pub record DropsRest (first now : Option (List ℕ)) (window : WindowView) (passed : List ℕ) : Type 0 where
  pub rest : List ℕ
  pub none : window.ended ≡ true → rest ≡ []
  pub gave : GaveAll first now (passed ++ (window.ahead ++ rest))
