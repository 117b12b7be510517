-- The view of a log was given its list, behind the opening of the log; and views that are given records one by one.
use Rattle.std.proofs.Common.{◌≡◌, ◌⊎◌, ◌≤◌, ◌<◌, ◌∙◌, ℕ, ◌+◌, List, [], ◌∷◌, ◌++◌, length, drop, reverse, ap, sym, subst, arith, length-append}
use Rattle.std.proofs.lemmas.List.{reverse-append, length-drop}
use Rattle.lsn_space.specs.declared.lsn.TheConstants.{LAST}
use Rattle.lsn_space.specs.Opening.{IsSnapshot}
use Rattle.log_record.specs.declared.rec.Rec.{Rec}
use Rattle.log_record.specs.declared.rec.Placed.{Placed}
use Rattle.log_record.specs.Spelling.{spelling, BeginsWith}
use Rattle.log_record.proofs.Fronts.{spelling-parts_of}
use Rattle.lock_core.specs.History.{end_from, entry_at}
use Rattle.lock_core.specs.Sums.{Opening}
use Rattle.lock_core.specs.AccountRows.{opening_of}
use Rattle.log_recovery.specs.declared.list_result.Listed.{Listed}
use Rattle.log_recovery.specs.Opened.{log_of}
use Rattle.log_recovery.specs.Recovery.{TakesBytes, list_of}
use Rattle.log_recovery.proofs.RecoveryLemmas.{log_opening-none_or_snapshot}
use Rattle.ledger_view.specs.declared.view.View.{View}
use Rattle.ledger_view.specs.ViewedAccounts.{HasViewed}

module _ (view : View) (listed : Listed) (bytes : List ℕ) (takes : TakesBytes HasViewed view listed bytes) where
  pub takes_bytes-has_viewed : (opening : Opening) × (h : List Placed) × HasViewed opening view h
  takes_bytes-has_viewed = (opening_of listed.opening, _, takes.taken)

  pub takes_bytes-empty_or_snapshot : (listed.opening.accounts ≡ []) ⊎ IsSnapshot listed.opening
  takes_bytes-empty_or_snapshot = log_opening-none_or_snapshot bytes (log_of (list_of listed takes.records)) takes.held.list.holds

  pub takes_bytes-within_log : (units : List ℕ) → units ≡ listed.units → listed.opening.lsn + length units ≤ LAST
  takes_bytes-within_log units is = omega (arith, takes.held.list.holds.reads.total, ap length (is ∙ takes.has.list.units_are))

-- A view was given these entries behind the opening, and the rest of the units is still to come, from this LSN on.
pub record IsGiven (opening : Opening) (units rest : List ℕ) (view : View) (entries : List Placed) (lsn : ℕ) : Type 0 where
  pub viewed : HasViewed opening view (reverse entries)
  pub place : lsn ≡ end_from opening.state.end (reverse entries)
  pub left : lsn + length rest ≡ opening.state.end + length units
  pub few : length entries + length rest ≤ length units

module _ (opening : Opening) (units rest : List ℕ) (old : View) (entries : List Placed) (lsn : ℕ) (given : IsGiven opening units rest old entries lsn)
    (rec : Rec) (begins : BeginsWith rest rec) where
  size-fits : length (spelling rec) ≤ length rest
  size-fits = let whole = ap length begins.2 in let parts = length-append (spelling rec) begins.1 in omega arith

  pub given_record-within_log : opening.state.end + length units ≤ LAST → lsn + length (spelling rec) ≤ LAST
  given_record-within_log fits = omega (arith, size-fits, given.left)

  grown : (entry : Placed) → reverse (entries ++ entry ∷ []) ≡ entry ∷ reverse entries
  grown entry = reverse-append entries (entry ∷ [])

  shorter : (after : List ℕ) → after ≡ drop (length (spelling rec)) rest → length after + length (spelling rec) ≡ length rest
  shorter after dropped = omega (arith, size-fits, ap length dropped ∙ length-drop (length (spelling rec)) rest)

  some : 0 < length (spelling rec)
  some = omega (arith, ap length (spelling-parts_of rec))

  -- the record is given, and as its entry is noted
  pub is_given-push : (after : List ℕ) (new : View) (entry : Placed) → after ≡ drop (length (spelling rec)) rest → entry.rec ≡ rec
      → entry.end ≡ lsn + length (spelling rec) → HasViewed opening new (entry_at lsn rec ∷ reverse entries)
      → IsGiven opening units after new (entries ++ entry ∷ []) entry.end
  is_given-push after new entry dropped rec-is end-is viewed =
      let noted : entry ≡ entry_at lsn rec = λ i. record { end = end-is i; rec = rec-is i } in record {
        viewed = subst (HasViewed opening new) (ap (λ e. e ∷ reverse entries) (sym noted) ∙ sym (grown entry)) viewed;
        place = ap (end_from opening.state.end) (sym (grown entry));
        left = omega (arith, size-fits, given.left, shorter after dropped, end-is);
        few = omega (arith, size-fits, given.few, shorter after dropped, some, length-append entries (entry ∷ []));
      }
