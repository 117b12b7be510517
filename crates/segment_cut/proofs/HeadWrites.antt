-- A head that is written behind the closed first gate, which is then opened.
use Rattle.std.proofs.Common.{◌≡◌, refl, ℕ, ◌+◌, ◌*◌, [], ◌∷◌, length, Result, Ok, Err, IfOk, OnOk, arith}
use Rattle.log_disk.specs.Calls.{Uses}
use Rattle.log_disk.specs.Disk.{put, IsOnlyImage, Leaves}
use Rattle.log_disk.specs.Faults.{Rose}
use Rattle.log_disk.specs.Lengths.{GrowsAtMostTo}
use Rattle.log_disk.specs.declared.disk.LogDisk.{Ghosts}
use Rattle.log_disk.proofs.Moments.{Leaves-trans, Leaves-weaken}
use Rattle.log_disk.proofs.Uses.{Uses-trans}
use Rattle.lsn_space.specs.Opening.{IsSnapshot, Opening}
use Rattle.segment_head.specs.Head.{head, sealed_head}
use Rattle.segment_file.specs.Calls.{HasShutGate, WritesGated}
use Rattle.segment_file.specs.Changes.{ClosesGate}
use Rattle.segment_file.specs.Log.{cut_log}
use Rattle.segment_file.specs.StandingLog.{HoldsNoneOrLog, IsShut, LogStands}
use Rattle.segment_file.specs.declared.layout.TheConstants.{OPEN}
use Rattle.segment_file.specs.declared.scan_result.Tail.{Tail}
use Rattle.segment_file.proofs.GateBytes.{put_open-next_gate_shut}
use Rattle.segment_cut.specs.Calls.{CreatesCut}
use Rattle.segment_cut.proofs.CallUses.{closes-uses, uses-done, uses-failed}
use Rattle.segment_cut.proofs.Headed.{put_open-head_stands, midway-holds_none_or_head, length-sealed_head, stays-none_or}

-- what a call that makes a log of a head does, by what it uses of the disk
creates-by : {D E : Type 0} (g : Ghosts D) (most most_calls : ℕ) (given : Opening) (old new : D) (answer : Result Tail E)
    → Uses g most most_calls old new answer → (g.honest old → Leaves g.moment g.images_since (HoldsNoneOrLog (cut_log given)) old new)
    → (g.honest old → IfOk answer (λ t. LogStands t (cut_log given) (g.images new)))
    → (g.honest old → IfOk answer (λ t. IsShut t.at (g.images new)))
    → (g.honest old → OnOk answer (IsOnlyImage (g.reads new) (g.images new)))
    → IfOk answer (λ t. t.at ≡ 20 + 12 * length given.accounts) → IfOk answer (λ t. t.next ≡ given.lsn)
    → (g.honest old → GrowsAtMostTo g (21 + 12 * length given.accounts) old new)
    → CreatesCut g most most_calls given given old new answer
creates-by g most most_calls given old new answer uses moments created shut settled place next grows = record {
  moments = moments;
  created = created;
  shut = shut;
  settled = settled;
  place = place;
  next = next;
  head = refl;
  count = uses.count;
  later = uses.later;
  honest = uses.honest;
  attached = uses.attached;
  cause = uses.cause;
  length = grows;
}

cut-use : {D E : Type 0} (g : Ghosts D) (most most_calls : ℕ) (given : Opening) (old new : D) (answer : Result Tail E)
    → CreatesCut g most most_calls given given old new answer → Uses g most most_calls old new answer
cut-use g most most_calls given old new answer creates = record {
  count = creates.count;
  later = creates.later;
  honest = creates.honest;
  attached = creates.attached;
  cause = creates.cause;
}

-- the head was written where the first gate was shut
module _ {D T E : Type 0} (g : Ghosts D) (given : Opening) (held : IsSnapshot given) (old new : D)
    (image : g.honest old → g.images old (g.reads old))
    (shut : HasShutGate g 0 old) (first : Result T E) (wrote : WritesGated g 0 (sealed_head given) old new first) where
  headed-since : g.honest old → Leaves g.moment g.images_since (HoldsNoneOrLog (cut_log given)) old new
  headed-since honest =
      Leaves-weaken g.moment g.images_since _ _ old new (midway-holds_none_or_head given held _ _ (image honest) (shut honest))
      (wrote.moments honest)

  headed-length : g.honest old → GrowsAtMostTo g (21 + 12 * length given.accounts) old new
  headed-length honest = omega (arith, wrote.length honest, length-sealed_head given)

  gated-use : Uses g 4 4 old new first
  gated-use = record {
    count = wrote.count;
    later = wrote.later;
    honest = wrote.honest;
    attached = wrote.attached;
    cause = wrote.cause;
  }

  -- and failed
  pub creates_cut-write_failed : Rose (g.faults old) (g.faults new) → {F : Type 0} (answer : Result Tail F) (fault : F) → answer ≡ Err fault
      → CreatesCut g 4 4 given given old new answer
  creates_cut-write_failed rose answer fault is =
      let uses = uses-failed g 4 4 4 4 old new first (omega arith) (omega arith) gated-use rose answer fault is in
      creates-by g 4 4 given old new answer uses headed-since (λ honest. rw is tt) (λ honest. rw is tt) (λ honest. rw is tt)
      (rw is tt) (rw is tt) headed-length

  -- and stands there
  pub creates_cut-succeeded : (g.honest old → g.reads new ≡ put 0 (OPEN ∷ []) (put 1 (sealed_head given) (g.reads old)))
      → (g.honest old → IsOnlyImage (g.reads new) (g.images new)) → g.faults new ≡ g.faults old
      → {F : Type 0} (answer : Result Tail F) (end : Tail) → answer ≡ Ok end → end.at ≡ 20 + 12 * length given.accounts
      → end.next ≡ given.lsn → CreatesCut g 4 4 given given old new answer
  creates_cut-succeeded written settled same answer end is at next =
      creates-by g 4 4 given old new answer (uses-done g 4 4 old new first gated-use same answer end is) headed-since
      (λ honest. rw is (put_open-head_stands given held _ _ (image honest) (shut honest) end at next _ _ (written honest)
      (settled honest)))
      (λ honest. rw is (put_open-next_gate_shut 0 _ (shut honest) (sealed_head given) _ (image honest) (head given) _ _ end.at refl
      (written honest) (settled honest) (omega (arith, at, length-sealed_head given))))
      (λ honest. rw is (settled honest)) (rw is at) (rw is next) headed-length

-- the first gate was closed before
module _ {D T E : Type 0} (g : Ghosts D) (given : Opening) (old mid : D) (first : Result T E)
    (closes : ClosesGate g 0 old mid first) where
  closed-none : g.honest old → Leaves g.moment g.images_since (HoldsNoneOrLog (cut_log given)) old mid
  closed-none honest = Leaves-weaken g.moment g.images_since _ _ old mid (stays-none_or given _) (closes.moments honest)

  pub creates_cut-close_failed : Rose (g.faults old) (g.faults mid) → {F : Type 0} (answer : Result Tail F) (fault : F) → answer ≡ Err fault
      → CreatesCut g 6 7 given given old mid answer
  creates_cut-close_failed rose answer fault is =
      let closed = closes-uses g 0 old mid first closes in
      let uses = uses-failed g 2 6 3 7 old mid first (omega arith) (omega arith) closed rose answer fault is in
      creates-by g 6 7 given old mid answer uses closed-none (λ honest. rw is tt) (λ honest. rw is tt) (λ honest. rw is tt)
      (rw is tt) (rw is tt) (λ honest. omega (arith, closes.length honest))

  pub creates_cut-closed_before : g.faults mid ≡ g.faults old → {F : Type 0} (new : D) (answer : Result Tail F)
      → CreatesCut g 4 4 given given mid new answer → CreatesCut g 6 7 given given old new answer
  creates_cut-closed_before fine new answer creates =
      let there = closes.honest.0 in
      let behind = cut-use g 4 4 given mid new answer creates in
      let closed = closes-uses g 0 old mid first closes in
      creates-by g 6 7 given old new answer (Uses-trans g answer first 2 4 3 4 old mid new fine closed behind)
      (λ honest. Leaves-trans g.moment g.images_since _ old mid new (closed-none honest) (creates.moments (there honest)))
      (λ honest. creates.created (there honest)) (λ honest. creates.shut (there honest)) (λ honest. creates.settled (there honest))
      creates.place creates.next (λ honest. omega (arith, closes.length honest, creates.length (there honest)))
