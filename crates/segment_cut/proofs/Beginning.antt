-- A head that was written behind the closed first gate of a disk without a log.
use Rattle.std.proofs.Common.{◌≡◌, ◌∙◌, ap, ◌+◌, ◌*◌, [], length, Result, Ok, Err, IfOk, arith}
use Rattle.log_disk.specs.Calls.{Uses}
use Rattle.log_disk.specs.Disk.{put, Leaves}
use Rattle.log_disk.specs.Faults.{raised, Rose}
use Rattle.log_disk.specs.Lengths.{GrowsAtMostTo}
use Rattle.log_disk.specs.declared.disk.LogDisk.{Ghosts}
use Rattle.log_disk.proofs.Moments.{Leaves-trans, Leaves-weaken}
use Rattle.log_disk.proofs.Uses.{Uses-trans}
use Rattle.lsn_space.specs.Opening.{IsSnapshot, Opening}
use Rattle.segment_head.specs.Head.{sealed_head}
use Rattle.segment_file.specs.Calls.{WritesUnsynced}
use Rattle.segment_file.specs.Changes.{ClosesGate}
use Rattle.segment_file.specs.File.{BeginsAsLog}
use Rattle.segment_file.specs.Log.{cut_log}
use Rattle.segment_file.specs.StandingLog.{IsShut}
use Rattle.segment_file.specs.declared.scan_result.Tail.{Tail}
use Rattle.segment_file.proofs.StableGates.{stays-no_log}
use Rattle.segment_cut.specs.Calls.{BeginsCut}
use Rattle.segment_cut.specs.Underway.{IsUnderway}
use Rattle.segment_cut.proofs.Behind.{begun, torn-no_log}
use Rattle.segment_cut.proofs.CallUses.{closes-uses, uses-done, uses-failed}
use Rattle.segment_cut.proofs.Headed.{length-sealed_head}

-- what a call that begins a cut does, by what it uses of the disk
begins-by : {D E : Type 0} (g : Ghosts D) (head : Opening) (old new : D) (answer : Result Tail E) → Uses g 3 4 old new answer
    → (g.honest old → Leaves g.moment g.images_since (λ c. BeginsAsLog c → ⊥) old new)
    → (g.honest old → IfOk answer (λ t. IsUnderway t (cut_log head) [] (g.reads new) (g.images new)))
    → IfOk answer (λ t. t.at ≡ 20 + 12 * length head.accounts) → IfOk answer (λ t. t.next ≡ head.lsn)
    → IfOk answer (λ _. IsSnapshot head)
    → (g.honest old → GrowsAtMostTo g (21 + 12 * length head.accounts) old new) → BeginsCut g head old new answer
begins-by g head old new answer uses moments begun place next held grows = record {
  moments = moments;
  begun = begun;
  place = place;
  next = next;
  held = held;
  count = uses.count;
  later = uses.later;
  honest = uses.honest;
  attached = uses.attached;
  cause = uses.cause;
  length = grows;
}

module _ {D T E : Type 0} (g : Ghosts D) (head : Opening) (old mid : D) (first : Result T E)
    (closes : ClosesGate g 0 old mid first) where
  closed-no_log : g.honest old → Leaves g.moment g.images_since (λ c. BeginsAsLog c → ⊥) old mid
  closed-no_log honest = Leaves-weaken g.moment g.images_since _ _ old mid (stays-no_log _) (closes.moments honest)

  -- the gate wasn't closed
  pub begins-close_failed : Rose (g.faults old) (g.faults mid) → {F : Type 0} (answer : Result Tail F) (fault : F) → answer ≡ Err fault
      → BeginsCut g head old mid answer
  begins-close_failed rose answer fault is =
      let closed = closes-uses g 0 old mid first closes in
      let uses = uses-failed g 2 3 3 4 old mid first (omega arith) (omega arith) closed rose answer fault is in
      begins-by g head old mid answer uses closed-no_log (λ honest. rw is tt) (rw is tt) (rw is tt) (rw is tt)
      (λ honest. omega (arith, closes.length honest))

  -- the gate was closed, and the head was written
  module _ (shut : g.honest old → IsShut 0 (g.images mid)) (fine : g.faults mid ≡ g.faults old) {S F : Type 0} (new : D)
      (second : Result S F) (wrote : WritesUnsynced g 1 (sealed_head head) mid new second) where
    no-log-since : g.honest old → Leaves g.moment g.images_since (λ c. BeginsAsLog c → ⊥) old new
    no-log-since honest =
        Leaves-trans g.moment g.images_since _ old mid new (closed-no_log honest)
        (Leaves-weaken g.moment g.images_since _ _ mid new (torn-no_log 1 _ _ (shut honest) (omega arith)) wrote.moments)

    both-length : g.honest old → GrowsAtMostTo g (21 + 12 * length head.accounts) old new
    both-length honest =
        omega (arith, closes.length honest, (wrote.torn (closes.honest.0 honest)).no_longer, length-sealed_head head)

    both-use : Uses g 3 4 old new second
    both-use = Uses-trans g second first 2 1 3 1 old mid new fine (closes-uses g 0 old mid first closes) (record {
      count = wrote.count;
      later = wrote.later;
      honest = wrote.honest;
      attached = wrote.attached;
      cause = wrote.cause;
    })

    -- and failed
    pub begins-write_failed : Rose (g.faults mid) (g.faults new) → {F : Type 0} (answer : Result Tail F) (fault : F) → answer ≡ Err fault
        → BeginsCut g head old new answer
    begins-write_failed rose answer fault is =
        let uses = uses-failed g 3 3 4 4 old new second (omega arith) (omega arith) both-use (rose ∙ ap raised fine) answer fault is in
        begins-by g head old new answer uses no-log-since (λ honest. rw is tt) (rw is tt) (rw is tt) (rw is tt) both-length

    -- and stands there
    pub begins-succeeded : (g.honest mid → g.images mid (g.reads mid)) → IsSnapshot head
        → (g.honest mid → g.reads new ≡ put 1 (sealed_head head) (g.reads mid)) → g.faults new ≡ g.faults mid
        → {F : Type 0} (answer : Result Tail F) (end : Tail) → answer ≡ Ok end → end.at ≡ 20 + 12 * length head.accounts
        → end.next ≡ head.lsn → BeginsCut g head old new answer
    begins-succeeded image held written same answer end is at next =
        let there = closes.honest.0 in
        let uses = uses-done g 3 4 old new second both-use (same ∙ fine) answer end is in
        begins-by g head old new answer uses no-log-since
        (λ honest. rw is (begun head held _ _ (image (there honest)) (shut honest) end at next _ _ (written (there honest))
        wrote.images))
        (rw is at) (rw is next) (rw is held) both-length
