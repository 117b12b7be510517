-- Bytes that are written in parts.
use Rattle.std.proofs.Common.{◌≡◌, ℕ, List, ◌++◌, Option, take, drop, append_assoc}
use Rattle.std.proofs.lemmas.List.{take-append-drop}
use Rattle.log_disk.specs.Streams.{AppendsPrefix, AppendsPart}

-- a front of the rest goes to the prefix
pub prefix-append_take : (bytes prefix rest back : List ℕ) (n : ℕ) → bytes ≡ prefix ++ rest → back ≡ drop n rest → bytes ≡ (prefix ++ take n rest) ++ back
prefix-append_take bytes prefix rest back n whole behind = rw (behind, append_assoc, take-append-drop n rest) whole

-- a part is a prefix
pub AppendsPart-prefix : (old new : Option (List ℕ)) (bytes : List ℕ) → AppendsPart old new bytes → AppendsPrefix old new bytes
AppendsPart-prefix old new bytes part = (part.0, part.1, part.2, part.3)
