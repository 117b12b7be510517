-- A log that was scanned, on a disk that is settled: `settle` may be called at its tail.
use Rattle.std.proofs.Common.{◌≡◌, ◌≤◌, ◌∙◌, sym, ap, subst, List, ℕ, length, drop, arith}
use Rattle.std.specs.List.{slice_get}
use Rattle.std.proofs.lemmas.List.{drop_at}
use Rattle.log_disk.specs.Disk.{IsOnlyImage}
use Rattle.segment_file.specs.declared.scan_result.Scan.{Scan}
use Rattle.segment_file.specs.declared.scan_result.Tail.{Tail}
use Rattle.segment_file.specs.File.{BeginsOpen}
use Rattle.segment_file.specs.Log.{Log}
use Rattle.segment_file.specs.Scan.{Scans, scanned_log}
use Rattle.segment_file.specs.StandingLog.{LogStandsAt, LogStands, IsStableGate}
use Rattle.segment_file.proofs.StandingLemmas.{recorded, recorded-append_rest, length-recorded}

-- a log that stands, in a file that a crash leaves alone
module _ (tail : Tail) (log : Log) (file : List ℕ) (stands : LogStandsAt tail log file) where
  pub stands-within : tail.at ≤ length file
  stands-within = omega (arith, stands.place)

  pub drop_tail-rest : drop tail.at file ≡ stands.held.rest
  drop_tail-rest = ap (drop tail.at) (recorded-append_rest tail log file stands)
      ∙ drop_at (recorded tail log file stands) stands.held.rest tail.at (sym (length-recorded tail log file stands))

  module _ (images : List ℕ → Type 0) (settled : IsOnlyImage file images) where
    -- the gate at the tail is the same in each image, as there is but one
    pub stands-stable : IsStableGate tail.at images
    stands-stable = record {
      gate = slice_get file tail.at;
      stable = λ c left. ap (λ bytes. slice_get bytes tail.at) (settled c left);
      closed = λ c left opened. stands.held.closed (subst BeginsOpen (ap (drop tail.at) (settled c left) ∙ drop_tail-rest) opened);
    }

    pub only_image-LogStands : LogStands tail log images
    only_image-LogStands c left = subst (LogStandsAt tail log) (sym (settled c left)) stands

module _ (found : Scan) (file : List ℕ) (images : List ℕ → Type 0) (scanned : Scans found file) (settled : IsOnlyImage file images) where
  pub scanned-stable : IsStableGate found.tail.at images
  scanned-stable = stands-stable found.tail (scanned_log found) file scanned images settled
