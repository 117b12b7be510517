-- A path has one last slash.
use Rattle.std.proofs.Common.{◌≡◌, ◌<◌, suc, refl, [], codes, ◌+◌, ◌-◌, ◌∙◌, sym, ap, subst, ℕ, List, ◌∷◌, ◌++◌, Some, None, length}
use Rattle.std.proofs.Common.{take, drop, get_or, get_or-drop, length-append, length-drop, arith}
use Rattle.std.specs.List.{Contains}
use Rattle.std.specs.Str.Pattern.{RFindsChar}
use Rattle.std.proofs.Math.Seq.{get_or-append_seam, get_or-append_right, take-append_seam}
use Rattle.std.proofs.lemmas.List.Elements.{Contains-get_or}
use Rattle.std.proofs.lemmas.Str.{len_utf8_ascii}
use Rattle.std.proofs.lemmas.Str.Pattern.{NoCharPasses-char}
use Rattle.system_disk.specs.Folders.{SLASH, folder_before}

-- in a path with a slash before a name it is at this index
slash-at : (path front name : List ℕ) → path ≡ front ++ SLASH ∷ name → get_or path (length front) 0 ≡ SLASH
slash-at path front name is = ap (λ l. get_or l (length front) 0) is ∙ get_or-append_seam front SLASH name 0

slash-within : (path front name : List ℕ) → path ≡ front ++ SLASH ∷ name → length path ≡ length front + (1 + length name)
slash-within path front name is = omega (arith, ap length is, length-append front (SLASH ∷ name))

-- where no slash is found, there is none
pub finds_none-no_slash : (path front name : List ℕ) → RFindsChar SLASH path None → path ≡ front ++ SLASH ∷ name → ⊥
finds_none-no_slash path front name found is =
    NoCharPasses-char SLASH path (length front) found (omega arith) (omega (arith, slash-within path front name is)) (slash-at path front name is)

module _ (path : List ℕ) (i j : ℕ) (found : RFindsChar SLASH path (Some (i, j))) (within : i < length path) where
  here : get_or path i 0 ≡ SLASH
  here = found.1.byte (omega arith)

  -- no slash is behind it, so the one before a name isn't
  not-behind : (front name : List ℕ) → path ≡ front ++ SLASH ∷ name → i < length front → ⊥
  not-behind front name is less =
      let next : j ≡ i + 1 = omega (arith, found.1.ends, len_utf8_ascii SLASH (omega arith)) in
      let back : j + (length front - j) ≡ length front = omega arith in
      let same = get_or-drop j path (length front - j) 0 ∙ ap (λ n. get_or path n 0) back ∙ slash-at path front name is in
      NoCharPasses-char SLASH (drop j path) (length front - j) found.0 (omega arith)
      (omega (arith, length-drop j path, slash-within path front name is)) same

  -- and in a name that has none it isn't
  not-in-name : (front name : List ℕ) → path ≡ front ++ SLASH ∷ name → (Contains name SLASH → ⊥) → length front < i → ⊥
  not-in-name front name is lacks more =
      let k = (i - length front) - 1 in
      let past : i - length front ≡ suc k = omega arith in
      let in_name = get_or-append_right front (SLASH ∷ name) i 0 (omega arith) ∙ ap (λ n. get_or (SLASH ∷ name) n 0) past in
      let read : get_or name k 0 ≡ SLASH = sym (ap (λ l. get_or l i 0) is ∙ in_name) ∙ here in
      lacks (subst (Contains name) read (Contains-get_or name k 0 (omega (arith, slash-within path front name is))))

  -- and it is the last
  pub take_found-front : (front name : List ℕ) → path ≡ front ++ SLASH ∷ name → (Contains name SLASH → ⊥) → take i path ≡ front
  take_found-front front name is lacks =
      let same : i ≡ length front = omega (arith, not-behind front name is, not-in-name front name is lacks) in
      ap (λ n. take n path) same ∙ ap (take (length front)) is ∙ take-append_seam front (SLASH ∷ name)

-- a folder that isn't empty, and the root
pub folder_before-some : (front folder : List ℕ) → folder ≡ front → 0 < length folder → folder ≡ folder_before front
folder_before-some [] folder is some = absurd (omega (arith, some, ap length is))
folder_before-some (byte ∷ front) folder is some = is

pub folder_before-root : (front : List ℕ) → length front ≡ 0 → codes "/" ≡ folder_before front
folder_before-root [] is = refl
folder_before-root (byte ∷ front) is = absurd (omega arith)
