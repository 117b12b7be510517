-- What calls do to a disk, one call after another.
use Rattle.std.proofs.Common.{◌≡◌, ◌∙◌, ℕ, ◌+◌, Result, subst, arith, ◌≤◌, Ok, sym, le_refl}
use Rattle.log_disk.specs.Calls.{Uses}
use Rattle.log_disk.specs.Faults.{HasCause}
use Rattle.log_disk.specs.declared.disk.LogDisk.{Ghosts}
use Rattle.log_disk.proofs.Counting.{Costs-trans}

-- the cause of a call after one that succeeded
pub HasCause-same_before : {T E : Type 0} (before mid now : ℕ) (result : Result T E) → mid ≡ before → HasCause mid now result → HasCause before now result
HasCause-same_before before mid now result same cause = subst (λ n. HasCause n now result) same cause

module _ {D T E : Type 0} (g : Ghosts D) (result : Result T E) where
  -- after calls that succeeded
  pub Uses-trans : {S F : Type 0} (done : Result S F) (first second first_calls second_calls : ℕ) (old mid new : D) → g.faults mid ≡ g.faults old
      → Uses g first first_calls old mid done → Uses g second second_calls mid new result
      → Uses g (first + second) (first_calls + second_calls) old new result
  Uses-trans done first second first_calls second_calls old mid new fine before behind = record {
    count = λ honest. Costs-trans g first second first_calls second_calls old mid new (before.count honest) (behind.count (before.honest.0 honest));
    later = omega (arith, before.later, behind.later);
    honest = (λ honest. behind.honest.0 (before.honest.0 honest), λ honest. before.honest.1 (behind.honest.1 honest));
    attached = behind.attached ∙ before.attached;
    cause = HasCause-same_before _ _ _ _ fine behind.cause;
  }

-- where none was counted at all
pub HasCause-ok : {T E : Type 0} (first now : ℕ) (value : T) → now ≡ first → HasCause {T = T} {E = E} first now (Ok value)
HasCause-ok first now value same = record { later = subst (λ count. first ≤ count) (sym same) (le_refl first); fine = same; failed = tt }
