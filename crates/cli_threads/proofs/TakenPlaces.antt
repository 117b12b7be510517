-- From what the passes of all workers took to how the script was shared out among the workers.
use Rattle.std.proofs.Common.{◌≡◌, ◌≢◌, ◌⊎◌, ◌∙◌, inl, inr, ℕ, zero, suc, ◌+◌, ◌<◌, ◌≤◌, Bool, List, [], ◌∷◌, ◌++◌, length, length-append, map, refl, sym, ap, subst, arith, Contains}
use Rattle.std.specs.List.{AllByRecursion, concat}
use Rattle.std.proofs.lemmas.Bool.{cases_lt}
use Rattle.std.proofs.lemmas.List.{length-map}
use mathlib.Core.Option.{some, some-injective, some-ne-none}
use lib.ListN.{get_elem?}
use Rattle.lsn_space.proofs.TilingLemmas.{all-weaken}
use Rattle.log_table.specs.declared.table.LogTable.{LogTable}
use Rattle.txn_jobs.specs.declared.cause.Worked.{Worked}
use Rattle.txn_jobs.specs.declared.cause.Worked.TheVariants.{All}
use Rattle.txn_jobs.specs.Places.{Rises}
use Rattle.job_queue.specs.declared.queue.Queue.{Queue}
use Rattle.job_queue.specs.Takings.{times, once_below, ArePlaces, AreMarks}
use Rattle.job_queue.specs.declared.jobs.Jobs.{Jobs}
use Rattle.job_queue.specs.Passes.{AreAllTaken, HasFirstPass, IsSameQueue, marks_back, places_back}
use Rattle.job_queue.proofs.Counting.{once_below-le_one, times-append, once_below-inside}
use Rattle.txn_runner.specs.Working.{EndsByMark, jobs_of, marks_in, places_in}
use Rattle.txn_runner.proofs.TyingLemmas.{same-unequal_zero}
use Rattle.cli_workers.specs.declared.workers.Worker.{Worker}
use Rattle.cli_workers.specs.Workers.{Numbered}
use Rattle.cli_threads.specs.Gathering.{AreFront, all_marks, all_places, share_of, worked_of}
use Rattle.cli_threads.specs.Shares.{Share, sharing_of}
use Rattle.cli_threads.specs.Sharing.{IsSharedOut}
use Rattle.cli_threads.specs.Workers.{IsDoneAs}
use Rattle.cli_threads.proofs.PlaceTimes.{once_below-behind, contains-times_positive}
use Rattle.cli_threads.proofs.ServedLemmas.{IsDone-has_served}

-- ---- lists of places

times-none : (x : ℕ) (list : List ℕ) → AllByRecursion (λ y. x ≢ y) list → times x list ≡ 0
times-none x [] others = refl
times-none x (y ∷ ys) others = omega (arith, same-unequal_zero x y others.0, times-none x ys others.1)

-- the places of two workers are other ones
abbrev pub Apart : List ℕ → List ℕ → Type 0
Apart xs ys = (place : ℕ) → Contains xs place → Contains ys place → ⊥

-- no number is there twice
abbrev pub AreOnce : List ℕ → Type 0
AreOnce list = (x : ℕ) → times x list ≤ 1

pub once-apart : (xs ys : List ℕ) → AreOnce (xs ++ ys) → Apart xs ys
once-apart xs ys once place one two = absurd (omega (
  arith,
  once place,
  times-append place xs ys,
  contains-times_positive place xs one,
  contains-times_positive place ys two,
))

pub once-append_second : (xs ys : List ℕ) → AreOnce (xs ++ ys) → AreOnce ys
once-append_second xs ys once x = omega (arith, once x, times-append x xs ys)

-- ---- the front of the script that was taken

module _ (count : ℕ) (places marks : List ℕ) (are : ArePlaces count places) (behind : AreMarks count marks)
    (taken : AreAllTaken count places marks) where
  -- below the count there are places alone
  below : (x : ℕ) → x < count → times x places ≡ once_below x taken.next
  below x less = omega (
    arith,
    taken.once x,
    times-none x marks (all-weaken (λ mark. count ≤ mark) (λ mark. x ≢ mark) marks
        (λ mark from is. absurd (omega (arith, less, from, is))) behind),
  )

  -- and from there on none
  none : (x : ℕ) → count ≤ x → times x places ≡ 0
  none x more = times-none x places (all-weaken (λ place. place < count) (λ place. x ≢ place) places
      (λ place less is. absurd (omega (arith, less, more, is))) are)

  -- all that were taken, where that is no more than there are
  few : taken.next ≤ count → (x : ℕ) → times x places ≡ once_below x taken.next
  few least x = by_order (cases_lt x count)
    where
      by_order : (x < count) ⊎ (count ≤ x) → times x places ≡ once_below x taken.next
      by_order (inl less) = below x less
      by_order (inr more) = none x more ∙ sym (once_below-behind x taken.next (omega (arith, least, more)))

  -- and else all that there are
  whole : count < taken.next → (x : ℕ) → times x places ≡ once_below x count
  whole greater x = by_order (cases_lt x count)
    where
      by_order : (x < count) ⊎ (count ≤ x) → times x places ≡ once_below x count
      by_order (inl less) = below x less ∙ (once_below-inside x taken.next (omega (arith, less, greater)) ∙ sym (once_below-inside x count less))
      by_order (inr more) = none x more ∙ sym (once_below-behind x count more)

  pub AreAllTaken-are_front : AreFront count places marks
  AreAllTaken-are_front = by_order (cases_lt count taken.next)
    where
      by_order : (count < taken.next) ⊎ (taken.next ≤ count) → AreFront count places marks
      by_order (inl greater) = record { front = count; within = omega arith; once = whole greater; all = λ some'. refl }
      by_order (inr least) = record {
        front = taken.next;
        within = least;
        once = few least;
        all = λ some'. absurd (omega (arith, least, taken.all some'));
      }

-- no place of the front was taken twice
pub front-once : (count : ℕ) (places marks : List ℕ) (front : AreFront count places marks) → AreOnce places
front-once count places marks front x = omega (arith, front.once x, once_below-le_one x front.front)

-- So it is with what was given back to the first pass, which had nothing back before, once it learned what all took.
pub places_back-are_front : (first back last : Jobs) (places marks : List ℕ) → (places_back first ≡ []) × (marks_back first ≡ [])
    → IsSameQueue first back → places_back back ≡ places_back first ++ places → marks_back back ≡ marks_back first ++ marks
    → HasFirstPass last → IsSameQueue back last → (places_back last ≡ places_back back) × (marks_back last ≡ marks_back back)
    → AreAllTaken (length last.queue.script) (places_back last) (marks_back last) → AreFront (length first.queue.script) places marks
places_back-are_front first back last places marks none same gave marked has still kept all =
    let count = length last.queue.script in
    let places_are : places_back last ≡ places = kept.0 ∙ (gave ∙ ap (λ l. l ++ places) none.0) in
    let marks_are : marks_back last ≡ marks = kept.1 ∙ (marked ∙ ap (λ l. l ++ marks) none.1) in
    subst (λ n. AreFront n places marks) (ap (λ (queue : Queue). length queue.script) (still.queue ∙ same.queue))
    (AreAllTaken-are_front count places marks (subst (ArePlaces count) places_are has.knows.places) (subst (AreMarks count) marks_are has.knows.marks)
    (subst (λ l. AreAllTaken count l marks) places_are (subst (AreAllTaken count (places_back last)) marks_are all)))

-- ---- the workers' shares

-- the places of the shares are those of the workers
shared-places : (workers : List Worker) → concat (map (λ (share : Share). share.taken) (map share_of workers)) ≡ all_places workers
shared-places [] = refl
shared-places (worker ∷ workers) = ap (λ l. places_in worker.rows ++ l) (shared-places workers)

module _ (table : LogTable) (queue : Queue) (wait : Bool) where
  shared-rise : (number : ℕ) (workers : List Worker) → Numbered (IsDoneAs table queue wait) number workers
      → AllByRecursion Rises (map (λ (share : Share). share.taken) (map share_of workers))
  shared-rise number [] done = tt
  shared-rise number (worker ∷ workers) done =
      ((IsDone-has_served table queue wait worker done.0.1).has.rising, shared-rise (number + 1) workers done.1)

  marked : (worked : Worked) (worker : Worker) → worked ≡ All → EndsByMark worked worker.rows → 1 ≤ length (marks_in worker.rows)
  marked worked worker is mark = subst (λ (w : Worked). EndsByMark w worker.rows) is mark

  -- a worker that was not cut off took its mark
  mark-taken : (number : ℕ) (workers : List Worker) → Numbered (IsDoneAs table queue wait) number workers → (i : ℕ) (share : Share)
      → get_elem? (map share_of workers) i ≡ some share → share.worked ≡ All → 1 ≤ length (all_marks workers)
  mark-taken number [] done i share at all = absurd (some-ne-none share (sym at))
  mark-taken number (worker ∷ workers) done zero share at all =
      let is : worked_of worker ≡ All = ap (λ (s : Share). s.worked) (some-injective (share_of worker) share at) ∙ all in
      let own = marked (worked_of worker) worker is (IsDone-has_served table queue wait worker done.0.1).mark in
      omega (arith, own, length-append (marks_in worker.rows) (all_marks workers))
  mark-taken number (worker ∷ workers) done (suc i) share at all =
      let rest = mark-taken (number + 1) workers done.1 i share at all in
      omega (arith, rest, length-append (marks_in worker.rows) (all_marks workers))

  -- the script was shared out among these workers
  pub AreFront-shared_out : (workers : List Worker) → Numbered (IsDoneAs table queue wait) 0 workers
      → (front : AreFront (length queue.script) (all_places workers) (all_marks workers))
      → IsSharedOut (length (map share_of workers)) (jobs_of queue) (sharing_of front.front (map share_of workers))
  AreFront-shared_out workers done front = record {
    count = length-map (map share_of workers) (λ (share : Share). share.taken);
    rise = shared-rise 0 workers done;
    once = λ place. ap (times place) (shared-places workers) ∙ front.once place;
    within = front.within;
  }

  pub worked_all-front_whole : (workers : List Worker) → Numbered (IsDoneAs table queue wait) 0 workers
      → (front : AreFront (length queue.script) (all_places workers) (all_marks workers)) → (i : ℕ) (share : Share)
      → get_elem? (map share_of workers) i ≡ some share → share.worked ≡ All → front.front ≡ length queue.script
  worked_all-front_whole workers done front i share at all = front.all (mark-taken 0 workers done i share at all)
