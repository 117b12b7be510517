-- What reads give of a file, and how many it takes.
use Rattle.std.proofs.Common.{◌≡◌, ◌∙◌, ℕ, ◌+◌, ◌*◌, ◌-◌, ◌<◌, ◌≤◌, List, ◌++◌, length, length-append, take, drop, ap, sym, min, arith}
use Rattle.std.proofs.Math.Seq.{take-add}
use Rattle.log_disk.specs.Faults.{raised}

-- Where so many of the bytes were read: before the end each call read 4096 or more.
pub record HasSpent (len read before now : ℕ) : Type 0 where
  pub whole : read < len → 4096 * now ≤ 4096 * before + read
  pub few : 4096 * now ≤ 4096 * before + read + 4095

-- one read more, of 64 KB or of all that are left
pub HasSpent-more : (len read count before now next : ℕ) → read < len → count ≡ min 65536 (len - read) → next ≡ raised now
    → HasSpent len read before now → HasSpent len (read + count) before next
HasSpent-more len read count before now next rest counted called spent =
    record { whole = λ more. omega (arith, spent.whole rest); few = omega (arith, spent.whole rest) }

-- a piece more of the file
pub file_front-append : (file old new piece : List ℕ) (count : ℕ) → new ≡ old ++ piece → length piece ≡ count → old ≡ take (length old) file
    → piece ≡ take count (drop (length old) file) → new ≡ take (length new) file
file_front-append file old new piece count added counted was is =
    let long = ap length added ∙ length-append old piece ∙ ap (λ n. length old + n) counted in
    added ∙ (λ i. was i ++ is i) ∙ sym (take-add (length old) count file) ∙ ap (λ n. take n file) (sym long)
