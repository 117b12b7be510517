-- The folder in which a file stands, by the file's path.
use Rattle.std.specs.Prelude.{ℕ, List, [], ◌∷◌, codes}

-- the byte between the names of a path
abbrev pub SLASH : ℕ
SLASH = 47

-- the folder, by what stands before the last slash; before the slash of the root nothing does
abbrev pub folder_before : List ℕ → List ℕ
folder_before [] = codes "/"
folder_before (byte ∷ front) = byte ∷ front
