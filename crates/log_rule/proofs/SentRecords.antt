-- The units sent, and with them those read, are whole records, a front of the list that was inserted; so they run all jobs lawfully where no
-- number was taken twice.
use Rattle.std.proofs.Common.{◌≡◌, ⊎_elim, ℕ, zero, suc, ◌+◌, ◌<◌, ◌≤◌, List, [], ◌∷◌, ◌++◌, map, length, drop, take-append-drop, length-drop}
use Rattle.std.proofs.Common.{length-append, sym, refl, ap, ◌∙◌, subst, append-nil, arith}
use Rattle.std.specs.List.{AllByRecursion}
use Rattle.std.proofs.lemmas.List.{nil_from_length}
use Rattle.lsn_space.specs.Tiling.{IsTilingBoundary}
use Rattle.lsn_space.proofs.TilingLemmas.{all-weaken, all-both, all-append}
use Rattle.lsn_space.specs.Lists.{Everywhere}
use Rattle.log_record.specs.declared.rec.Rec.{Rec}
use Rattle.log_record.specs.declared.rec.Placed.{Placed}
use Rattle.log_record.specs.LogList.{AreUnitsOf}
use Rattle.log_record.specs.Spelling.{IsSpellable}
use Rattle.lock_core.specs.History.{end_from, entry_at, history_from}
use Rattle.lock_core.specs.Lawful.{IsLawful}
use Rattle.lock_core.specs.Serial.{IsPartlySerialAfter}
use Rattle.lock_core.specs.Soundness.{IsSoundAfter}
use Rattle.lock_core.specs.Sums.{as_opening}
use Rattle.lock_core.proofs.Appending.{lawful-no_genesis}
use Rattle.lock_core.proofs.Fronts.{history_from-append, history_from-extends, lawful-records_front}
use Rattle.lock_core.proofs.SerialFronts.{partly_serial-front}
use Rattle.lock_core.proofs.SoundLemmas.{lawful-sound_after}
use Rattle.log_rule.specs.declared.start.Start.{Start}
use Rattle.log_rule.specs.declared.view.Books.{Books}
use Rattle.log_rule.specs.declared.view.Constants.{Constants}
use Rattle.log_rule.specs.declared.view.Role.TheVariants.{Flusher}
use Rattle.log_rule.specs.declared.view.TakenJob.{TakenJob}
use Rattle.log_rule.specs.declared.view.View.{View}
use Rattle.log_rule.specs.Accounts.{takers, HasDistinctJobs, AccountsFollowList}
use Rattle.log_rule.specs.Books.{task_of, times_taken}
use Rattle.log_rule.specs.Groups.{Group}
use Rattle.log_rule.specs.Log.{Part, Laid, IsRangeBoundary, ranges_of, IsFull, IsFullIfReleased, IsReleasedBelow, IsSpelled, SpellsRecord, AgreesFrom, records_in}
use Rattle.log_rule.specs.Moments.{HoldsAtOnce, books_of_all, jobs_of_all, RunsLawfully, SpellLawfully}
use Rattle.log_rule.specs.Roles.{is_spent}
use Rattle.log_rule.specs.Views.{read_to}
use Rattle.log_rule.specs.Sound.{SendsInsertedUnits, IsSound, base_of, history_in, books_of}
use Rattle.log_rule.proofs.AgreedUnits.{agrees-append, joined, full_part-is_spelled, agrees-first_entry_units, agrees-drop}
use Rattle.log_rule.proofs.Bookings.{times_taken-append}
use Rattle.log_rule.proofs.Boundaries.{part_size, boundary-start_le}
use Rattle.log_rule.proofs.GatheredSeats.{all_jobs-partly_serial}
use Rattle.log_rule.proofs.GroupPlacing.{records-append}
use Rattle.log_rule.proofs.Loads.{ranges_of-part_boundary, durable-boundary}
use Rattle.log_rule.proofs.MemberBooks.{jobs-books_in}

-- the parts that hold these units, whole records, and those behind them
record SentParts (parts : List Part) (units : List ℕ) : Type 0 where
  before : List Part
  behind : List Part
  split : parts ≡ before ++ behind
  spelled : AllByRecursion (λ (p : Part). IsSpelled p.entry) before
  units_are : units ≡ joined before

-- up to a boundary of full parts a list that agrees with them is whole parts
sent-parts : (start to until : ℕ) (parts : List Part) (units : List ℕ) → Laid start parts to → IsTilingBoundary part_size start parts until
    → start + length units ≡ until → AllByRecursion (λ (p : Part). p.entry.start < until → IsFull p.entry) parts
    → AllByRecursion SpellsRecord parts → AllByRecursion (AgreesFrom start units) parts → SentParts parts units
sent-parts start to until [] units laid end size full spells agrees =
    record { before = []; behind = []; split = refl; spelled = tt; units_are = nil_from_length units (omega (arith, end, size)) }
sent-parts start to until (p ∷ ps) units laid end size full spells agrees = ⊎_elim
    (λ (here : until ≡ start).
    record { before = []; behind = p ∷ ps; split = refl; spelled = tt; units_are = nil_from_length units (omega (arith, here, size)) })
    (λ (later : IsTilingBoundary part_size (start + p.entry.size) ps until). longer later
    (λ us size' agrees'. sent-parts (start + p.entry.size) to until ps us laid.2 later size' full.1 spells.1 agrees')) end
  where
    longer : IsTilingBoundary part_size (start + p.entry.size) ps until
        → ((us : List ℕ) → start + p.entry.size + length us ≡ until → AllByRecursion (AgreesFrom (start + p.entry.size) us) ps → SentParts ps us)
        → SentParts (p ∷ ps) units
    longer later go =
        let least = boundary-start_le part_size (start + p.entry.size) until ps later in
        let is : IsFull p.entry = full.0 (omega (arith, laid.0, laid.1, least)) in
        let fits : p.entry.size ≤ length units = omega (arith, least, size) in
        let rest = go (drop p.entry.size units) (omega (arith, length-drop p.entry.size units, fits, size))
        (all-weaken (AgreesFrom start units) (AgreesFrom (start + p.entry.size) (drop p.entry.size units)) ps
        (λ q. agrees-drop start p.entry.size units q fits) agrees.1) in record {
          before = p ∷ rest.before;
          behind = rest.behind;
          split = ap (λ l. p ∷ l) rest.split;
          spelled = (full_part-is_spelled p spells.0 is, rest.spelled);
          units_are = sym (take-append-drop p.entry.size units)
              ∙ (λ i. agrees-first_entry_units start units p agrees.0 is laid.0 fits i ++ rest.units_are i);
        }

-- whole parts spell their records
spelled-parts : (parts : List Part) → AllByRecursion (λ (p : Part). IsSpelled p.entry) parts → AreUnitsOf (joined parts) (records_in parts)
spelled-parts [] spelled = record { spellable = tt; units_are = refl }
spelled-parts (p ∷ ps) spelled = let rest = spelled-parts ps spelled.1 in record {
  spellable = (spelled.0.spellable, rest.spellable);
  units_are = (λ i. spelled.0.units i ++ rest.units_are i);
}

-- a history of spellable records has them alone
pub spellable-history : (start : ℕ) (h : List Placed) (records : List Rec) → AllByRecursion (λ (entry : Placed). IsSpellable entry.rec) h
    → AllByRecursion IsSpellable records → AllByRecursion (λ (entry : Placed). IsSpellable entry.rec) (history_from start h records)
spellable-history start h [] all each = all
spellable-history start h (rec ∷ records) all each =
    spellable-history start (entry_at (end_from start h) rec ∷ h) records (each.0, all) each.1

-- ---- the jobs of all seats

-- what a group has placed for a seat is no job of it
takers-shown : (number : ℕ) (groups : ℕ → Group) (views : List View)
    → takers number (map (books_of groups) views) ≡ takers number (books_of_all views)
takers-shown number groups [] = refl
takers-shown number groups (v ∷ vs) = λ i. times_taken number (jobs-books_in groups v.call v.books i) + takers-shown number groups vs i

pub takers-times_taken : (number : ℕ) (views : List View) → takers number (books_of_all views) ≡ times_taken number (jobs_of_all views)
takers-times_taken number [] = refl
takers-times_taken number (v ∷ vs) =
    ap (λ n. times_taken number v.books.jobs + n) (takers-times_taken number vs) ∙ sym (times_taken-append number v.books.jobs (jobs_of_all vs))

all-jobs : (P : TakenJob → Type 0) (groups : ℕ → Group) (views : List View)
    → Everywhere (λ (books : Books). AllByRecursion P books.jobs) (map (books_of groups) views) → AllByRecursion P (jobs_of_all views)
all-jobs P groups [] each = tt
all-jobs P groups (v ∷ vs) each = all-append P v.books.jobs (jobs_of_all vs)
    (subst (AllByRecursion P) (jobs-books_in groups v.call v.books) (each zero (books_of groups v) refl))
    (all-jobs P groups vs (λ i books at. each (suc i) books at))

-- ---- what was sent

-- units that agree with the log up to a boundary which is exposed
module _ (key : Start) (seat : ℕ) (view : View) (once : HoldsAtOnce key seat view) (units : List ℕ) (until : ℕ)
    (boundary : IsRangeBoundary key.start (ranges_of once.log) until) (size : key.start + length units ≡ until) (below : until ≤ once.words.exposed)
    (agrees : AllByRecursion (AgreesFrom key.start units) once.log.parts) where
  s : IsSound key once.words once.views once.log
  s = once.rule

  full : AllByRecursion (λ (p : Part). p.entry.start < until → IsFull p.entry) once.log.parts
  full = all-both IsFullIfReleased (IsReleasedBelow once.words.exposed) (λ (p : Part). p.entry.start < until → IsFull p.entry) once.log.parts
      (λ p is_full released low. is_full (released (omega (arith, low, below)))) s.below.full s.below.below

  sent : SentParts once.log.parts units
  sent = sent-parts key.start once.words.tail until once.log.parts units s.contiguous.parts
      (ranges_of-part_boundary _ _ _ _ _ once.log s.contiguous until boundary) size full s.filled.spelled agrees

  abbrev records : List Rec
  unfolding sent
  records = records_in sent.before

  spelled : AreUnitsOf units records
  unfolding sent
  spelled = subst (λ us. AreUnitsOf us records) (sym sent.units_are) (spelled-parts sent.before sent.spelled)

  whole : history_in key once.log.parts ≡ history_from key.start [] (records ++ records_in sent.behind)
  unfolding sent
  whole = ap (history_from key.start []) (ap records_in sent.split ∙ records-append sent.before sent.behind)

  abbrev list : List Placed
  list = history_from key.start [] records

  runs-lawfully : HasDistinctJobs (books_of_all once.views) → RunsLawfully (base_of key) (jobs_of_all once.views) list
  unfolding sent
  runs-lawfully distinct = record { lawful = lawful; sound = sound; serial = serial }
    where
      shown : HasDistinctJobs (map (books_of once.log.groups) once.views)
      shown number = subst (λ n. n ≤ 1) (sym (takers-shown number once.log.groups once.views)) (distinct number)

      follows : AccountsFollowList (base_of key) once.words.account (history_in key once.log.parts) (map (books_of once.log.groups) once.views)
      follows = s.accounts.follows shown

      lawful : IsLawful (as_opening (base_of key)) list
      lawful = lawful-records_front (as_opening (base_of key)) key.start records (records_in sent.behind)
          (subst (IsLawful (as_opening (base_of key))) whole follows.lawful)

      all : IsPartlySerialAfter (base_of key) (map task_of (jobs_of_all once.views)) (history_in key once.log.parts)
      all = all_jobs-partly_serial (base_of key) once.words.account (history_in key once.log.parts) (map (books_of once.log.groups) once.views) (jobs_of_all once.views)
          (all-jobs _ once.log.groups once.views follows.runs)
          (λ number. takers-shown number once.log.groups once.views ∙ takers-times_taken number once.views) follows

      serial : IsPartlySerialAfter (base_of key) (map task_of (jobs_of_all once.views)) list
      serial =
          let more = history_from-extends key.start list (records_in sent.behind) in
          partly_serial-front (base_of key) (map task_of (jobs_of_all once.views)) more.0 list
          (subst (IsPartlySerialAfter (base_of key) (map task_of (jobs_of_all once.views)))
          (whole ∙ history_from-append key.start [] records (records_in sent.behind) ∙ more.1) all)

      sound : IsSoundAfter (as_opening (base_of key)) [] list
      sound = subst (IsSoundAfter (as_opening (base_of key)) []) (append-nil list)
          (lawful-sound_after (as_opening (base_of key)) [] list once.accounts.balances
          (subst (IsLawful (as_opening (base_of key))) (sym (append-nil list)) lawful)
          (lawful-no_genesis (as_opening (base_of key)) list (omega (arith, once.accounts.some_accounts)) lawful)
          (subst (AllByRecursion (λ (entry : Placed). IsSpellable entry.rec)) (sym (append-nil list))
          (spellable-history key.start [] records tt spelled.spellable)))

  spells-lawfully : SpellLawfully (base_of key) once.views units
  spells-lawfully = record { records = records; spelled = spelled; lawful = runs-lawfully }

module _ (key : Start) (seat : ℕ) (view : View) (once : HoldsAtOnce key seat view) (flusher : view.standing.role ≡ Flusher) where
  sends : SendsInsertedUnits key.start once.words.exposed once.words.durable once.log view.sending.exposed view.sending.sent view.sending.read
  sends = once.rule.sends seat view once.own flusher

  pub sent-lawfully : SpellLawfully (base_of key) once.views view.sending.sent
  sent-lawfully = spells-lawfully key seat view once view.sending.sent once.words.durable
      (durable-boundary _ _ _ _ _ once.log once.rule.contiguous) sends.sent_to (omega (arith, sends.read_to, sends.loaded_seen)) sends.sent_agrees

  -- once all up to exposed, as the seat loaded it, are read
  pub read-lawfully : read_to view ≡ view.sending.exposed → SpellLawfully (base_of key) once.views (view.sending.sent ++ view.sending.read)
  read-lawfully all =
      let start : view.constants.start ≡ key.start = ap (λ (c : Constants). c.start) (once.rule.constants seat view once.own (ap is_spent flusher)) in
      spells-lawfully key seat view once (view.sending.sent ++ view.sending.read) view.sending.exposed sends.boundary
      (omega (arith, length-append view.sending.sent view.sending.read, all, start)) sends.loaded_seen
      (all-both (AgreesFrom key.start view.sending.sent) (AgreesFrom once.words.durable view.sending.read)
      (AgreesFrom key.start (view.sending.sent ++ view.sending.read)) once.log.parts
      (λ p first second. agrees-append key.start view.sending.sent view.sending.read p first
      (subst (λ n. AgreesFrom n view.sending.read p) (sym sends.sent_to) second)) sends.sent_agrees sends.read_agrees)
