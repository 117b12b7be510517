-- A `done` line that a run's text has whole is that of a Commit of the list.
use Rattle.std.proofs.Common.{◌≡◌, ◌⊎◌, inl, inr, ⊎_elim, ◌≤◌, ◌∙◌, sym, refl, ap, subst, subst₂, ℕ, ◌+◌, List, [], ◌∷◌, ◌++◌, Some, Option, append_assoc, length, drop, drop_at, flat_map, arith}
use Rattle.std.specs.List.{AllByRecursion}
use Rattle.std.specs.Io.KnownBytes.{Appends}
use Rattle.lsn_space.specs.declared.lsn.TheConstants.{LAST}
use Rattle.log_disk.specs.Streams.{AppendsPrefix}
use Rattle.log_disk.specs.declared.disk.LogDisk.{Ghosts}
use Rattle.log_record.specs.declared.rec.Rec.{Rec}
use Rattle.log_record.specs.declared.rec.Rec.TheVariants.{Genesis, Update, Commit, Short, Over, Note}
use Rattle.log_record.specs.LogList.{end_of, size_of}
use Rattle.log_record.specs.Spelling.{IsSpellable}
use Rattle.log_record.proofs.LogListLemmas.{end_of-cons}
use Rattle.lock_core.proofs.ListLemmas.{all-split}
use Rattle.log_recovery.specs.Opened.{OpenedList, list_end, with_records}
use Rattle.log_recovery.specs.Recovery.{HoldsLawful}
use Rattle.log_recovery.specs.Text.{lsn_line, account_line, accounts_text}
use Rattle.log_recovery.proofs.OpenedLemmas.{list_end-more}
use Rattle.commit_pipeline.specs.EndLines.{done_line, short_line, over_line, end_line, end_lines}
use Rattle.txn_jobs.specs.Places.{NumberedJobs}
use Rattle.cli_threads.specs.Sharing.{Sharing}
use Rattle.cli_run.specs.RunAnswers.{HoldsTold, run_text}
use Rattle.cli_shared.specs.Outside.{Outside}
use Rattle.cli_laws.specs.Told.{HasLine, HasCommitAt, TellsOfCommits}
use Rattle.cli_laws.proofs.WholeLines.{HasLine-nil, HasLine-append, HasLine-first}
use Rattle.cli_laws.proofs.DoneLines.{done-whole, short-whole, over-whole, lsn-whole, account-whole, done-short, done-over, done-lsn, done-account, done-injective}

-- ---- lines that it is not among

account_lines-none : (balance : ℕ → ℕ) (accounts : List ℕ) (txn end : ℕ)
    → HasLine (flat_map (λ account. account_line account (balance account)) accounts) (done_line txn end) → ⊥
account_lines-none balance [] txn end has = HasLine-nil (done_line txn end) (done-whole txn end) has
account_lines-none balance (account ∷ accounts) txn end has =
    ⊎_elim (done-account txn end account (balance account)) (account_lines-none balance accounts txn end)
    (HasLine-first (account_line account (balance account)) _ (done_line txn end) (account-whole account (balance account)) (done-whole txn end) has)

accounts_text-none : (list : OpenedList) (txn end : ℕ) → HasLine (accounts_text list) (done_line txn end) → ⊥
accounts_text-none list txn end has =
    ⊎_elim (done-lsn txn end (list_end list)) (account_lines-none _ _ txn end)
    (HasLine-first (lsn_line (list_end list)) _ (done_line txn end) (lsn-whole (list_end list)) (done-whole txn end) has)

-- ---- the lines of end records

-- a record that ends at this LSN is a Commit of the transaction that ends there
abbrev IsCommitOf : ℕ → Rec → ℕ → ℕ → Type 0
IsCommitOf at rec txn end = (legs : ℕ) × (rec ≡ Commit txn legs) × (end ≡ at)

-- it is the line of this record, or stands behind that
end_line-commit : (at : ℕ) (rec : Rec) (rest : List ℕ) (txn end : ℕ) → IsSpellable rec → at ≤ LAST
    → HasLine (end_line at rec ++ rest) (done_line txn end) → IsCommitOf at rec txn end ⊎ HasLine rest (done_line txn end)
end_line-commit at (Genesis account balance) rest txn end fits room has = inr has
end_line-commit at (Update other account delta prev) rest txn end fits room has = inr has
end_line-commit at (Note other text) rest txn end fits room has = inr has
end_line-commit at (Commit other legs) rest txn end fits room has =
    ⊎_elim (λ same. inl (commit same)) (λ behind. inr behind)
    (HasLine-first (done_line other at) rest (done_line txn end) (done-whole other at) (done-whole txn end) has)
  where
    commit : done_line txn end ≡ done_line other at → IsCommitOf at (Commit other legs) txn end
    commit same =
        let both = done-injective other at txn end (omega (arith, fits.0.1)) (omega arith) same in
        (legs, ap (λ t. Commit t legs) both.0, sym both.1)
end_line-commit at (Short other leg) rest txn end fits room has =
    ⊎_elim (λ same. absurd (done-short txn end other leg at same)) (λ behind. inr behind)
    (HasLine-first (short_line other leg at) rest (done_line txn end) (short-whole other leg at) (done-whole txn end) has)
end_line-commit at (Over other leg) rest txn end fits room has =
    ⊎_elim (λ same. absurd (done-over txn end other leg at same)) (λ behind. inr behind)
    (HasLine-first (over_line other leg at) rest (done_line txn end) (over-whole other leg at) (done-whole txn end) has)

HasCommitAt-first : (at : ℕ) (rec : Rec) (records : List Rec) (txn end legs : ℕ) → rec ≡ Commit txn legs → end ≡ at + size_of rec
    → HasCommitAt at (rec ∷ records) txn end
HasCommitAt-first at rec records txn end legs is ended = record {
  front = [];
  legs = legs;
  rest = records;
  whole = ap (λ r. r ∷ records) is;
  place = omega (arith, ended, ap size_of is);
}

HasCommitAt-behind : (at : ℕ) (rec : Rec) (records : List Rec) (txn end : ℕ) → HasCommitAt (at + size_of rec) records txn end
    → HasCommitAt at (rec ∷ records) txn end
HasCommitAt-behind at rec records txn end commit = record {
  front = rec ∷ commit.front;
  legs = commit.legs;
  rest = commit.rest;
  whole = ap (λ rs. rec ∷ rs) commit.whole;
  place = omega (arith, commit.place, end_of-cons rec commit.front);
}

end_lines-commit : (at : ℕ) (records : List Rec) (rest : List ℕ) (txn end : ℕ) → AllByRecursion IsSpellable records → at + end_of records ≤ LAST
    → (HasLine rest (done_line txn end) → ⊥) → HasLine (end_lines at records ++ rest) (done_line txn end) → HasCommitAt at records txn end
end_lines-commit at [] rest txn end each room none has = absurd (none has)
end_lines-commit at (rec ∷ records) rest txn end each room none has =
    let next : ℕ = at + size_of rec in
    let text = append_assoc (end_line next rec) (end_lines next records) rest in
    ⊎_elim (λ found. HasCommitAt-first at rec records txn end found.0 found.1 found.2)
    (λ more. HasCommitAt-behind at rec records txn end
    (end_lines-commit next records rest txn end each.1 (omega (arith, end_of-cons rec records)) none more))
    (end_line-commit next rec (end_lines next records ++ rest) txn end each.0 (omega (arith, end_of-cons rec records))
    (subst (λ t. HasLine t (done_line txn end)) text has))

-- ---- what was told

pub run_text-tells_of_commits : (bytes text rest : List ℕ) (opened : OpenedList) (front : List Rec) → HoldsLawful bytes (with_records opened front)
    → run_text opened front ≡ text ++ rest → TellsOfCommits opened front text
run_text-tells_of_commits bytes text rest opened front held whole txn end has =
    let most : list_end (with_records opened front) ≤ LAST = held.list.holds.reads.total in
    end_lines-commit (list_end opened) front (accounts_text (with_records opened front)) txn end
    (all-split IsSpellable opened.records front held.list.each).1 (omega (arith, most, list_end-more opened front))
    (accounts_text-none (with_records opened front) txn end)
    (subst (λ t. HasLine t (done_line txn end)) (sym whole) (HasLine-append text rest (done_line txn end) has))

-- what a sink has more is a front of the text
told-front : (old new : Option (List ℕ)) (before text whole : List ℕ) → old ≡ Some before → new ≡ Some (before ++ text)
    → AppendsPrefix old new whole → (rest : List ℕ) × (whole ≡ text ++ rest)
told-front old new before text whole was is (prefix, rest, split, appended) =
    let grown : before ++ text ≡ before ++ prefix = subst₂ (λ x y. Appends x y prefix) was is appended in
    let same : text ≡ prefix =
    sym (drop_at before text (length before) refl) ∙ ap (drop (length before)) grown ∙ drop_at before prefix (length before) refl in
    (rest, split ∙ ap (λ t. t ++ rest) (sym same))

module _ {D : Type 0} (g : Ghosts D) where
  pub HoldsTold-tells_of_commits : (opened : OpenedList) (list : List Rec) (jobs : NumberedJobs) (sharing : Sharing) (old new : Outside D)
      (image before text : List ℕ) → (held : HoldsTold g opened jobs sharing list old new image) → old.text ≡ Some before
      → new.text ≡ Some (before ++ text) → TellsOfCommits opened held.run.front text
  HoldsTold-tells_of_commits opened list jobs sharing old new image before text held was is =
      let (rest, whole) = told-front old.text new.text before text (run_text opened held.run.front) was is held.told in
      run_text-tells_of_commits image text rest opened held.run.front held.run.holds whole
