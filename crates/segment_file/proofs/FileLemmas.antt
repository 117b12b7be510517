-- The bytes of a file, batch by batch.
use Rattle.std.proofs.Common.{◌≡◌, ◌<◌, ◌∙◌, sym, ap, refl, ℕ, List, [], ◌∷◌, ◌++◌, length, arith, append_assoc, subst}
use Rattle.std.specs.List.{flat_map, AllByRecursion}
use Rattle.std.proofs.lemmas.List.{append-nil}
use Rattle.std.proofs.lemmas.List.Concat.{flat_map-append}
use Rattle.segment_file.specs.declared.layout.TheConstants.{OPEN}
use Rattle.segment_file.specs.File.{gated, joined, IsCountedBatch, BeginsOpen}

-- one more batch stands behind its gate
pub gated-push : (read : List (List ℕ)) (units : List ℕ) → flat_map gated (read ++ units ∷ []) ≡ flat_map gated read ++ gated units
gated-push read units = flat_map-append gated read (units ∷ []) ∙ ap (λ bytes. flat_map gated read ++ bytes) (append-nil (gated units))

pub joined-push : (read : List (List ℕ)) (units : List ℕ) → joined (read ++ units ∷ []) ≡ joined read ++ units
joined-push read units = rw (flat_map-append, append-nil) refl

pub counted-more : (read : List (List ℕ)) (units : List ℕ) → AllByRecursion IsCountedBatch read → IsCountedBatch units
    → AllByRecursion IsCountedBatch (read ++ units ∷ [])
counted-more [] units each counted = (counted, tt)
counted-more (first ∷ read) units each counted = (each.0, counted-more read units each.1 counted)

-- a batch behind a front and others, in front of the rest
pub gated-push_between : (front : List ℕ) (read : List (List ℕ)) (units rest : List ℕ)
    → front ++ flat_map gated read ++ (gated units ++ rest) ≡ front ++ flat_map gated (read ++ units ∷ []) ++ rest
gated-push_between front read units rest =
    sym (append_assoc (front ++ flat_map gated read) (gated units) rest)
    ∙ ap (λ bytes. bytes ++ rest) (append_assoc front (flat_map gated read) (gated units) ∙ ap (λ bytes. front ++ bytes) (sym (gated-push read units)))

-- a gate with bytes behind it is open
pub open_byte-begins_open : (rest body : List ℕ) → rest ≡ OPEN ∷ body → 0 < length body → BeginsOpen rest
open_byte-begins_open rest [] gate long = absurd (omega arith)
open_byte-begins_open rest (byte ∷ body) gate long = subst BeginsOpen (sym gate) refl
