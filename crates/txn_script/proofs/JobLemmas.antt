-- A line is one transfer at most.
use Rattle.std.proofs.Common.{◌≡◌, ◌<◌, ◌^◌, ap, refl, ℕ, List, length, drop, arith, Option, Some, None}
use Rattle.lock_core.specs.declared.job.Job.{Job}
use Rattle.txn_script.specs.Reading.{EndsLegs}
use Rattle.txn_script.specs.Script.{note_text, job_text, IsAllowedJob}
use Rattle.txn_script.proofs.NumberLemmas.{space-no_digit}
use Rattle.txn_script.proofs.LegLemmas.{legs_text-append_injective}

pub note_text-ends_legs : (note : Option (List ℕ)) → EndsLegs (note_text note)
note_text-ends_legs None = record { number = tt; leg = λ begun. begun }
note_text-ends_legs (Some text) = record { number = space-no_digit; leg = λ begun. omega (arith, begun.1.1) }

note-same : (a b : Option (List ℕ)) → note_text a ≡ note_text b → a ≡ b
note-same None None same = refl
note-same None (Some text) same = absurd (omega (arith, ap length same))
note-same (Some text) None same = absurd (omega (arith, ap length same))
note-same (Some text) (Some other) same = ap Some (ap (drop 3) same)

-- a line is one transfer at most
pub job_text-injective : (accounts : ℕ) → accounts < 2 ^ 32 → (j k : Job) → IsAllowedJob accounts j → IsAllowedJob accounts k → job_text j ≡ job_text k → j ≡ k
job_text-injective accounts few j k allowed_j allowed_k same =
    let parts = legs_text-append_injective accounts few j.legs k.legs (note_text j.note) (note_text k.note) allowed_j.legs allowed_k.legs
    (note_text-ends_legs j.note) (note_text-ends_legs k.note) (ap (drop 3) same) in
    let note = note-same j.note k.note parts.1 in
    λ i. record { legs = parts.0 i; note = note i }
