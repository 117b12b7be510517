-- A sync behind a write, and a look at the length behind a sync: what the two calls do together.
use Rattle.std.proofs.Common.{◌≡◌, ◌∙◌, sym, subst, ℕ, List, length, Result, Ok, arith}
use Rattle.log_disk.specs.Calls.{Settles, Uses}
use Rattle.log_disk.specs.Costs.{Costs}
use Rattle.log_disk.specs.Disk.{Elapses, IsTorn, Leaves}
use Rattle.log_disk.specs.OneCall.{MakesCall, Syncs, TellsLength, WritesAt}
use Rattle.log_disk.specs.declared.disk.LogDisk.{Ghosts}
use Rattle.log_disk.specs.declared.fault.Failed.{Failed}
use Rattle.log_disk.proofs.Moments.{Leaves-call, Leaves-trans}
use Rattle.log_disk.proofs.Uses.{HasCause-same_before}
use Rattle.segment_file.specs.Calls.{WritesSynced}
use Rattle.segment_file.proofs.Results.{IfOk-each}

-- a call that succeeded and answers nothing
abbrev done : {E : Type 0} → Result (Unit {0}) E
done = Ok tt

-- one call of a disk, which does this and leaves what is attached
abbrev Makes : {D T : Type 0} → Ghosts D → Type 0 → D → D → Result T Failed → Type 0
Makes g Does old new result =
    MakesCall Does (g.attached new ≡ g.attached old) g.honest g.moment g.images g.images_since g.calls g.faults old new result

-- a write that succeeded
abbrev pub Wrote : {D : Type 0} → Ghosts D → ℕ → List ℕ → D → D → Type 0
Wrote g at bytes old new = Makes g (WritesAt g.honest g.reads g.images g.written_count old new (done {E = Failed}) at bytes) old new (done {E = Failed})

-- a sync that succeeded
abbrev pub Synced : {D : Type 0} → Ghosts D → D → D → Type 0
Synced g old new = Makes g (Syncs g.honest g.reads g.images g.written_count old new (done {E = Failed})) old new (done {E = Failed})

-- a look at the length
abbrev pub Told : {D : Type 0} → Ghosts D → D → D → Result ℕ Failed → Type 0
Told g old new result = Makes g (TellsLength g.honest g.reads g.images g.written_count old new result) old new result

module _ {D : Type 0} (g : Ghosts D) (old mid new : D) where
  Leaves-both : (P : List ℕ → Type 0) → Elapses g.moment g.images g.images_since old mid → ((c : List ℕ) → g.images mid c → P c)
      → Elapses g.moment g.images g.images_since mid new → ((c : List ℕ) → g.images new c → P c) → Leaves g.moment g.images_since P old new
  Leaves-both P first had second has =
      Leaves-trans g.moment g.images_since P old mid new (Leaves-call g.moment g.images_since g.images P old mid first had)
      (Leaves-call g.moment g.images_since g.images P mid new second has)

  costs-two : (at : ℕ) (bytes : List ℕ) → Wrote g at bytes old mid → Synced g mid new → g.honest old → Costs g 2 2 old new
  costs-two at bytes wrote synced honest = record {
    successes = omega (arith, wrote.does.count honest, synced.does.count (wrote.honest.0 honest));
    calls = omega (arith, wrote.calls honest, synced.calls (wrote.honest.0 honest));
  }

  -- a write, and then a sync
  pub synced-write : {F : Type 0} (at : ℕ) (bytes : List ℕ) → Wrote g at bytes old mid → Synced g mid new → WritesSynced g at bytes old new (done {E = F})
  synced-write at bytes wrote synced = record {
    written = λ honest. synced.does.reads (wrote.honest.0 honest) ∙ wrote.does.written honest;
    settled = λ honest c left. synced.does.settled (wrote.honest.0 honest) c left ∙ sym (synced.does.reads (wrote.honest.0 honest));
    torn = λ honest. subst (IsTorn at (length bytes) (g.reads old)) (sym (synced.does.reads (wrote.honest.0 honest))) (wrote.does.torn honest);
    moments = Leaves-both _ wrote.time wrote.does.images synced.time (λ c left. wrote.does.images c (synced.does.images c left));
    honest = (λ honest. synced.honest.0 (wrote.honest.0 honest), λ honest. wrote.honest.1 (synced.honest.1 honest));
    attached = synced.attached ∙ wrote.attached;
    count = costs-two at bytes wrote synced;
    cause = record { later = omega (arith, wrote.cause.later, synced.cause.later); fine = synced.cause.fine ∙ wrote.cause.fine; failed = tt };
  }

  module _ (result : Result ℕ Failed) (told : Told g mid new result) (synced : Synced g old mid) where
    -- a sync, and then a look at the length
    pub synced_told-settles : Settles g old new result
    synced_told-settles = record {
      settled = λ honest. IfOk-each _ result (λ len c left. synced.does.settled honest c ((told.does.keeps.image c).0 left)
          ∙ sym (told.does.keeps.file (synced.honest.0 honest) ∙ synced.does.reads honest));
      reads = λ honest. told.does.keeps.file (synced.honest.0 honest) ∙ synced.does.reads honest;
      images = λ c left. synced.does.images c ((told.does.keeps.image c).0 left);
      moments = Leaves-both _ synced.time synced.does.images told.time (λ c left. synced.does.images c ((told.does.keeps.image c).0 left));
    }

    -- and what both cost
    pub synced_told-uses : Uses g 1 2 old new result
    synced_told-uses = record {
      count = λ honest. record {
        successes = omega (arith, synced.does.count honest, told.does.keeps.count (synced.honest.0 honest));
        calls = omega (arith, synced.calls honest, told.calls (synced.honest.0 honest));
      };
      later = omega (arith, synced.time.later, told.time.later);
      honest = (λ honest. told.honest.0 (synced.honest.0 honest), λ honest. synced.honest.1 (told.honest.1 honest));
      attached = told.attached ∙ synced.attached;
      cause = HasCause-same_before _ _ _ result synced.cause.fine told.cause;
    }
