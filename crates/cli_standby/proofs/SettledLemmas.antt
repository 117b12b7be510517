-- A log that was opened, and perhaps settled, to follow a stream; or why it wasn't.
use Rattle.std.proofs.Common.{◌≡◌, ◌≤◌, ◌^◌, ◌∙◌, inl, inr, refl, sym, subst, ℕ, ◌+◌, List, [], length, Option, arith}
use Rattle.log_disk.proofs.Counting.{Costs-weaken, Costs-trans}
use Rattle.log_disk.proofs.Lengths.{GrowsAtMostTo-weaken, GrowsAtMostTo-same, GrowsAtMostTo-trans}
use Rattle.log_disk.proofs.Moments.{Leaves-weaken}
use Rattle.log_disk.specs.Costs.{Costs}
use Rattle.log_disk.specs.Disk.{IsOnlyImage, Leaves}
use Rattle.log_disk.specs.Lengths.{GrowsAtMostTo}
use Rattle.log_disk.specs.declared.disk.LogDisk.{Ghosts}
use Rattle.lock_core.specs.declared.judge.Judge.{Judge}
use Rattle.log_recovery.specs.declared.recovery.RecoverFault.{RecoverFault}
use Rattle.log_recovery.specs.declared.recovery.RecoverFault.TheVariants as fault
use Rattle.log_recovery.specs.Opened.{OpenedList, log_of}
use Rattle.log_recovery.specs.Recovery.{HoldsLawful, IsFaultOf, JudgesBytes}
use Rattle.segment_file.specs.Log.{HoldsLog}
use Rattle.segment_file.specs.StandingLog.{IsShut, IsStableGate, LogStands, LogStandsAt}
use Rattle.segment_file.specs.declared.scan_result.Tail.{Tail}
use Rattle.segment_file.proofs.Scanned.{only_image-LogStands, stands-stable, stands-within}
use Rattle.cli_shared.specs.Answers.{recover_detail}
use Rattle.cli_shared.specs.Opening.{MayHold, OnlyLooks, most_calls}
use Rattle.cli_shared.specs.Outside.{OnlyReads, outside}
use Rattle.cli_shared.specs.declared.report.Detail.TheVariants.{Disk}
use Rattle.cli_shared.proofs.ToldLemmas.{Keeps-refl}
use Rattle.standby.specs.AppliedFrames.{HoldsFront}
use Rattle.standby.proofs.FrameLists.{holds-front-none}
use Rattle.cli_standby.specs.Feeding.{AnswersUnsaid, IsOpened}
use Rattle.cli_standby.specs.Leaving.{LeavesFronts}
use Rattle.cli_standby.proofs.FedLemmas.{begins-unread, holds_front-none}

-- a disk that was attached, synced and read
module _ {D : Type 0} (g : Ghosts D) (old mid : D) (looks : OnlyLooks g old mid) (left left_new : Option (List ℕ)) where
  pub only-reads : (text : Option (List ℕ)) → OnlyReads g (outside old left text) (outside mid left_new text)
  only-reads text = record { silent = Keeps-refl text; disk = looks }

  pub unsaid-fault : (f : RecoverFault) → IsFaultOf (g.reads old) f → AnswersUnsaid g old mid left left_new (recover_detail f)
  unsaid-fault fault.NotALog is text = (only-reads text, is)
  unsaid-fault fault.BadSnapshot is text = (only-reads text, is)
  unsaid-fault (fault.BadBatch offset) is text = (only-reads text, is)
  unsaid-fault (fault.BadRec lsn) is text = (only-reads text, is)
  unsaid-fault (fault.Unlawful lsn why) is text = (only-reads text, is)
  unsaid-fault fault.NoMemory is text = inl (only-reads text)

-- the bytes that were read, which the judge has taken
module _ {D : Type 0} (g : Ghosts D) (old mid : D) (bytes : List ℕ) (read : MayHold g old bytes) (tail : Tail) (judge : Judge)
    (judges : JudgesBytes judge tail bytes) (same : g.honest old → g.reads mid ≡ g.reads old)
    (settled : g.honest old → IsOnlyImage (g.reads mid) (g.images mid)) where
  abbrev pub list : OpenedList
  list = judges.list

  file-is : g.honest old → bytes ≡ g.reads mid
  file-is honest = read honest ∙ sym (same honest)

  alone : g.honest old → IsOnlyImage bytes (g.images mid)
  alone honest = subst (λ file. IsOnlyImage file (g.images mid)) (sym (file-is honest)) (settled honest)

  pub read_tail-place_within_2_63 : length bytes ≤ 2 ^ 63 → tail.at ≤ 2 ^ 63
  read_tail-place_within_2_63 short = let within = stands-within tail (log_of list) bytes judges.stands in omega (arith, within, short)

  pub read_tail-stable_gate : g.honest old → IsStableGate tail.at (g.images mid)
  read_tail-stable_gate honest = stands-stable tail (log_of list) bytes judges.stands (g.images mid) (alone honest)

  pub read_tail-log_stands : g.honest old → LogStands tail (log_of list) (g.images mid)
  read_tail-log_stands honest = only_image-LogStands tail (log_of list) bytes judges.stands (g.images mid) (alone honest)

  held-read : g.honest old → HoldsLawful (g.reads old) list
  held-read honest = subst (λ file. HoldsLawful file list) (read honest) judges.held

  -- what holds the units of the list holds the list
  holds-opened : (c : List ℕ) → HoldsLog c (log_of list) → HoldsLawful c list
  holds-opened c held = record { list = record { each = judges.held.list.each; holds = held }; lawful = judges.held.lawful }

  -- and the disk as it was settled, or where that failed
  module _ (new : D) (looks : g.honest old → OnlyLooks g old mid)
      (moments : g.honest old → Leaves g.moment g.images_since (λ c. HoldsLog c (log_of list)) mid new)
      (count : g.honest old → Costs g 2 3 mid new) (grows : g.honest old → GrowsAtMostTo g (tail.at + 1) mid new)
      (stand : g.honest old → LogStands tail (log_of list) (g.images new)) where
    moments-settled : g.honest old → LeavesFronts g list [] old new
    moments-settled honest = record {
      disk = mid;
      looks = looks honest;
      each = λ c image. holds-opened c (read_tail-log_stands honest c image).held;
      moments = Leaves-weaken g.moment g.images_since (λ c. HoldsLog c (log_of list)) (HoldsFront list []) mid new
          (λ c held. holds-front-none list c (holds-opened c held)) (moments honest);
    }

    count-settled : g.honest old → Costs g 3 (most_calls g old + 3) old new
    count-settled honest = Costs-trans g 1 2 (most_calls g old) 3 old mid new (looks honest).count (count honest)

    stands-read : g.honest old → LogStandsAt tail (log_of list) (g.reads old)
    stands-read honest = subst (LogStandsAt tail (log_of list)) (read honest) judges.stands

    grows-settled : g.honest old → GrowsAtMostTo g (tail.at + 1) old new
    grows-settled honest =
        GrowsAtMostTo-trans g (tail.at + 1) old mid new (GrowsAtMostTo-same g (tail.at + 1) old mid (looks honest).reads) (grows honest)

    pub is-opened : (t : Tail) → t ≡ tail → tail.at ≤ 2 ^ 63 → (g.honest new → g.honest old)
        → (g.honest old → IsShut tail.at (g.images new)) → IsOpened g old new t judge
    is-opened t t_is place was shut = subst (λ t. IsOpened g old new t judge) (sym t_is) (record {
      list = list;
      kept = record {
        each = judges.held.list.each;
        taken = judges.taken;
        next = judges.stands.next;
        place = omega (arith, place);
        stands = λ honest. stand (was honest);
        shut = λ honest. shut (was honest);
      };
      held = held-read;
      stands = stands-read;
      moments = moments-settled;
      count = count-settled;
      grows = grows-settled;
    })

    -- the settling failed
    pub settling_failed-answers_unsaid : g.honest old → (left left_new : Option (List ℕ)) → AnswersUnsaid g old new left left_new Disk
    settling_failed-answers_unsaid honest left left_new text = inr (record {
      opened = list;
      frames = [];
      cut = [];
      followed = record {
        held = held-read honest;
        begins = begins-unread left list;
        moments = moments-settled honest;
        count = Costs-weaken g 3 _ (most_calls g old + 3) _ old new (omega arith) (omega arith) (count-settled honest);
        tail = tail;
        stands = stands-read honest;
        grows = GrowsAtMostTo-weaken g (tail.at + 1) _ old new (omega arith) (grows-settled honest);
      };
      images = λ c image. holds_front-none list c (holds-opened c (stand honest c image).held);
      cause = inl (refl, refl);
      silent = Keeps-refl text;
    })
