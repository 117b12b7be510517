-- Bytes that tell what stands there whatever follows them: those of a full window, and those that hold a gate with the batch behind it.
use Rattle.std.proofs.Common.{◌≡◌, ◌<◌, ◌≤◌, ◌∙◌, sym, ap, refl, subst, ℕ, ◌+◌, ◌*◌, List, [], ◌∷◌, ◌++◌, length, take, drop, arith, length-append, append-nil}
use Rattle.std.proofs.Math.Seq.{take-append_seam}
use Rattle.std.proofs.lemmas.List.{take-append-drop, take-append-le}
use Rattle.segment_file.specs.declared.layout.TheConstants.{OPEN}
use Rattle.segment_file.specs.File.{batch, gated, BeginsOpen, HasNoBatch}
use Rattle.segment_file.proofs.BatchLemmas.{count_at, count_at-batch}
use Rattle.segment_file.proofs.FileLemmas.{open_byte-begins_open}
use Rattle.segment_file.proofs.StandingLemmas.{length-gated}
use Rattle.source_recovery.specs.Ahead.{TellsNext}
use Rattle.source_recovery.specs.declared.window.TheConstants.{FULL}

-- what the bytes begin with, if it is no longer than those ahead, is ahead
pub begins_whole-begins_ahead : (ahead rest part back : List ℕ) → length part ≤ length ahead → ahead ++ rest ≡ part ++ back
    → ahead ≡ part ++ drop (length part) ahead
begins_whole-begins_ahead ahead rest part back long whole =
    let front : take (length part) ahead ≡ part =
    sym (take-append-le (length part) ahead rest long) ∙ ap (take (length part)) whole ∙ take-append_seam part back in
    sym (take-append-drop (length part) ahead) ∙ ap (λ list. list ++ drop (length part) ahead) front

-- a gate with a byte behind it is seen
two_bytes-gate : (ahead rest : List ℕ) → 1 < length ahead → BeginsOpen (ahead ++ rest) → BeginsOpen ahead
two_bytes-gate [] rest long opened = absurd (omega arith)
two_bytes-gate (gate ∷ []) rest long opened = absurd (omega arith)
two_bytes-gate (gate ∷ next ∷ later) rest long opened = opened

-- ---- a window that is full

pub full_window-TellsNext : (ahead rest : List ℕ) → FULL ≤ length ahead → TellsNext ahead rest
full_window-TellsNext ahead rest full = record {
  gate = two_bytes-gate ahead rest (omega arith);
  whole = λ units back counted whole. let most = counted.most in omega (arith, length-gated units);
}

pub ended_window-TellsNext : (ahead rest : List ℕ) → rest ≡ [] → TellsNext ahead rest
ended_window-TellsNext ahead rest none =
    let same : ahead ++ rest ≡ ahead = ap (λ list. ahead ++ list) none ∙ append-nil ahead in
    record {
      gate = λ opened. subst BeginsOpen same opened;
      whole = λ units back counted whole. omega (arith, ap length (sym same ∙ whole), length-append (gated units) back);
    }

-- ---- a gate with what follows it

-- what follows four bytes doesn't change their number
count_at-append : (body rest : List ℕ) → 4 ≤ length body → count_at (body ++ rest) ≡ count_at body
count_at-append [] rest long = absurd (omega arith)
count_at-append (a ∷ []) rest long = absurd (omega arith)
count_at-append (a ∷ b ∷ []) rest long = absurd (omega arith)
count_at-append (a ∷ b ∷ c ∷ []) rest long = absurd (omega arith)
count_at-append (a ∷ b ∷ c ∷ d ∷ units) rest long = refl

pub whole_batch-TellsNext : (ahead rest body : List ℕ) (count : ℕ) → ahead ≡ OPEN ∷ body → 4 ≤ length body → count ≡ count_at body
    → 4 + 8 * count ≤ length body → TellsNext ahead rest
whole_batch-TellsNext ahead rest body count gate some counts long = record {
  gate = λ opened. open_byte-begins_open ahead body gate (omega (arith, some));
  whole = λ units back counted whole.
      let same : body ++ rest ≡ batch units ++ back = ap (drop 1) (ap (λ list. list ++ rest) (sym gate) ∙ whole) in
      let number : count ≡ length units =
      counts ∙ sym (count_at-append body rest some) ∙ count_at-batch (body ++ rest) units back counted.most same in
      omega (arith, number, long, ap length gate, length-gated units);
}

-- ---- what they tell

pub tells_next-closed : (ahead rest : List ℕ) → TellsNext ahead rest → (BeginsOpen ahead → ⊥) → BeginsOpen (ahead ++ rest) → ⊥
tells_next-closed ahead rest tells closed opened = closed (tells.gate opened)

pub tells_next-no_batch : (ahead rest body : List ℕ) (end : ℕ) → TellsNext ahead rest → ahead ≡ OPEN ∷ body → HasNoBatch end body
    → HasNoBatch end (body ++ rest)
tells_next-no_batch ahead rest body end tells gate none units back counted whole fits =
    let all : ahead ++ rest ≡ gated units ++ back = ap (λ list. list ++ rest) gate ∙ ap (λ list. OPEN ∷ list) whole in
    let here = begins_whole-begins_ahead ahead rest (gated units) back (tells.whole units back counted all) all in
    none units (drop (length (gated units)) ahead) counted (ap (drop 1) (sym gate ∙ here)) fits
