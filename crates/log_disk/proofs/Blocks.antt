-- Texts that are written in blocks.
use Rattle.std.proofs.Common.{◌≡◌, ◌<◌, ◌∙◌, ap, sym, subst, refl, ℕ, List, [], ◌∷◌, ◌++◌, Option, length, append_assoc, append-nil, arith}
use Rattle.std.specs.Io.KnownBytes.{Appends}
use Rattle.std.proofs.KnownBytes.{Appends-nil, Appends-trans}
use Rattle.log_disk.specs.Streams.{AppendsPart, AppendsBut}

-- nothing was written, and all waits
pub AppendsBut-none : (held : Option (List ℕ)) (bytes : List ℕ) → AppendsBut held held bytes bytes
AppendsBut-none held bytes = ([], refl, Appends-nil held)

-- all was written, and nothing waits
pub AppendsBut-nothing_waits : (old new : Option (List ℕ)) (bytes : List ℕ) → Appends old new bytes → AppendsBut old new bytes []
AppendsBut-nothing_waits old new bytes all = (bytes, sym (append-nil bytes), all)

module _ (old middle new : Option (List ℕ)) (bytes waiting : List ℕ) (done : AppendsBut old middle bytes waiting) where
  -- a piece was put behind what waited, and more waits then
  pub AppendsBut-trans : (piece left : List ℕ) → AppendsBut middle new (waiting ++ piece) left → AppendsBut old new (bytes ++ piece) left
  AppendsBut-trans piece left put = (
    done.0 ++ put.0,
    ap (λ us. us ++ piece) done.1 ∙ append_assoc done.0 waiting piece ∙ ap (λ us. done.0 ++ us) put.1 ∙ sym (append_assoc done.0 put.0 left),
    Appends-trans old middle new done.0 put.0 done.2 put.2,
  )

  -- what waited was written
  pub AppendsBut-trans_Appends : Appends middle new waiting → Appends old new bytes
  AppendsBut-trans_Appends written = subst (Appends old new) (sym done.1) (Appends-trans old middle new done.0 waiting done.2 written)

  -- of what waited a part was written
  pub AppendsBut-trans_AppendsPart : AppendsPart middle new waiting → AppendsPart old new bytes
  AppendsBut-trans_AppendsPart cut = (
    done.0 ++ cut.0,
    cut.1,
    done.1 ∙ ap (λ us. done.0 ++ us) cut.2 ∙ sym (append_assoc done.0 cut.0 cut.1),
    Appends-trans old middle new done.0 cut.0 done.2 cut.3,
    cut.4,
  )

  -- of what waited and a piece behind it a part was written
  pub AppendsBut-trans_part_of_piece : (piece : List ℕ) → AppendsPart middle new (waiting ++ piece) → AppendsPart old new (bytes ++ piece)
  AppendsBut-trans_part_of_piece piece cut = (
    done.0 ++ cut.0,
    cut.1,
    ap (λ us. us ++ piece) done.1 ∙ append_assoc done.0 waiting piece ∙ ap (λ us. done.0 ++ us) cut.2 ∙ sym (append_assoc done.0 cut.0 cut.1),
    Appends-trans old middle new done.0 cut.0 done.2 cut.3,
    cut.4,
  )

-- a list with more behind it has something too
pub positive_length-append : (xs more : List ℕ) → 0 < length xs → 0 < length (xs ++ more)
positive_length-append [] more some = absurd (omega arith)
positive_length-append (x ∷ xs) more some = omega arith

-- a part of the first bytes of a text is a part of the text
pub AppendsPart-append : (old new : Option (List ℕ)) (text piece more : List ℕ) → AppendsPart old new piece → text ≡ piece ++ more → AppendsPart old new text
AppendsPart-append old new text piece more written whole =
    (written.0, written.1 ++ more, rw (whole, written.2) (append_assoc written.0 written.1 more), written.3, positive_length-append written.1 more written.4)
