-- One more step joins those that a disk in memory keeps.
use Rattle.std.proofs.Common.{◌≡◌, ◌≤◌, ◌∙◌, sym, ap, ap₂, refl, ℕ, ◌+◌, ◌-◌, List, [], ◌∷◌, ◌++◌, length, take, drop, arith, length-append}
use Rattle.std.proofs.lemmas.List.{length-take, length-drop, take_all, take-append-le, drop-append-le}
use Rattle.log_disk.specs.Disk.{put}
use Rattle.memory_disk.specs.History.{Event, file_after}
use Rattle.memory_disk.specs.History.Event.{Wrote, Synced}
use Rattle.memory_disk.specs.MemoryDisks.{DiskState, total_len, recorded, IsRecord}
use Rattle.memory_disk.specs.declared.step.Step.{Step}
use Rattle.memory_disk.specs.declared.step.Step.TheVariants.{Write, Sync}

total_len-write : (steps : List Step) (at n : ℕ) → total_len (steps ++ Write at n ∷ []) ≡ total_len steps + n
total_len-write [] at n = omega arith
total_len-write (Write a l ∷ steps) at n = omega (arith, total_len-write steps at n)
total_len-write (Sync ∷ steps) at n = total_len-write steps at n

total_len-sync : (steps : List Step) → total_len (steps ++ Sync ∷ []) ≡ total_len steps
total_len-sync [] = refl
total_len-sync (Write a l ∷ steps) = ap (λ n. l + n) (total_len-sync steps)
total_len-sync (Sync ∷ steps) = total_len-sync steps

pub recorded-sync : (steps : List Step) (log : List ℕ) (earlier : List Event) → recorded (steps ++ Sync ∷ []) log earlier ≡ Synced ∷ recorded steps log earlier
recorded-sync [] log earlier = refl
recorded-sync (Write at len ∷ steps) log earlier = recorded-sync steps (drop len log) (Wrote at (take len log) ∷ earlier)
recorded-sync (Sync ∷ steps) log earlier = recorded-sync steps log (Synced ∷ earlier)

pub recorded-write : (steps : List Step) (log bytes : List ℕ) (at : ℕ) (earlier : List Event) → total_len steps ≡ length log
    → recorded (steps ++ Write at (length bytes) ∷ []) (log ++ bytes) earlier ≡ Wrote at bytes ∷ recorded steps log earlier
recorded-write [] [] bytes at earlier whole = ap (λ (b : List ℕ). Wrote at b ∷ earlier) (take_all (length bytes) bytes (omega arith))
recorded-write [] (b ∷ log) bytes at earlier whole = absurd (omega (arith, whole))
recorded-write (Write a l ∷ steps) log bytes at earlier whole =
    let front = take-append-le l log bytes (omega (arith, whole)) in
    let back = drop-append-le l log bytes (omega (arith, whole)) in
    ap₂ (λ (taken rest : List ℕ). recorded (steps ++ Write at (length bytes) ∷ []) rest (Wrote a taken ∷ earlier)) front back
    ∙ recorded-write steps (drop l log) bytes at (Wrote a (take l log) ∷ earlier) (omega (arith, whole, length-drop l log))
recorded-write (Sync ∷ steps) log bytes at earlier whole = recorded-write steps log bytes at (Synced ∷ earlier) whole

pub length-put-le : (at : ℕ) (bytes old : List ℕ) → length (put at bytes old) ≤ length old + length bytes
length-put-le at bytes old =
    omega (arith, length-append (take at old ++ bytes) (drop (at + length bytes) old), length-append (take at old) bytes, length-take at old, length-drop (at + length bytes) old)

module _ (first held log : List ℕ) (steps later : List Step) (room written_count : ℕ) (was : IsRecord first held log steps room written_count) where
  pub IsRecord-write : (at : ℕ) (bytes file longer : List ℕ) (count : ℕ) → later ≡ steps ++ Write at (length bytes) ∷ [] → longer ≡ log ++ bytes → file ≡ put at bytes held
      → 16 + length bytes ≤ room → count ≤ 1 → IsRecord first file longer later (room - (16 + length bytes)) (written_count + count)
  IsRecord-write at bytes file longer count later_is longer_is file_is fits one = rw (later_is, longer_is, file_is) record {
    whole = omega (arith, was.whole, total_len-write steps at (length bytes), length-append log bytes);
    read = ap (put at bytes) was.read ∙ sym (ap (file_after first) (recorded-write steps log bytes at [] was.whole));
    longest = omega (arith, was.longest, length-put-le at bytes held, length-append log bytes);
    counted = omega (arith, was.counted, fits, one);
  }

  pub IsRecord-sync : later ≡ steps ++ Sync ∷ [] → 16 ≤ room → IsRecord first held log later (room - 16) (written_count + 1)
  IsRecord-sync later_is fits = rw later_is record {
    whole = omega (arith, was.whole, total_len-sync steps);
    read = was.read ∙ sym (ap (file_after first) (recorded-sync steps log []));
    longest = was.longest;
    counted = omega (arith, was.counted, fits);
  }

-- the same of what contracts see of the fields
pub state-push_event : (fields now : DiskState) (history : List Event) (event : Event) (cost count : ℕ) → fields ≡ now → history ≡ event ∷ fields.history
    → record fields { history = history; room = fields.room - cost; written_count = fields.written_count + count }
    ≡ record now { history = event ∷ now.history; room = now.room - cost; written_count = now.written_count + count }
state-push_event fields now history event cost count same history_is =
    rw history_is (ap (λ (d : DiskState). record d { history = event ∷ d.history; room = d.room - cost; written_count = d.written_count + count }) same)
