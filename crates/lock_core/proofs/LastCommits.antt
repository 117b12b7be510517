-- The last Commit on an account is the base state's, or a Commit of the list; Genesis records leave the opening's.
use Rattle.std.proofs.Common.{◌≡◌, ◌⊎◌, inl, inr, ◌&&◌, ℕ, cond, Bool, true, false, List, [], ◌∷◌, refl, ap, ◌∙◌}
use Rattle.log_record.specs.declared.rec.Rec.{Rec}
use Rattle.log_record.specs.declared.rec.Placed.{Placed}
use Rattle.log_record.specs.declared.rec.Rec.TheVariants.{Genesis, Update, Commit, Short, Over, Note}
use Rattle.lock_core.specs.Records.{txn_of, commits}
use Rattle.lock_core.specs.Transactions.{updates_of, touches}
use Rattle.lock_core.specs.Sums.{BaseState, Opening, last_commit_of, IsCommitOn}
use Rattle.lock_core.specs.Lawful.{base_with, with_genesis}

-- the base state's last Commit on the account, or one of the history
abbrev pub IsBaseOrCommitOn : BaseState → List Placed → ℕ → ℕ → Type 0
IsBaseOrCommitOn base h account end = (end ≡ base.last_commit account) ⊎ IsCommitOn h account end

pub last_commit_of-base_or_commit : (base : BaseState) (h : List Placed) (account : ℕ) → IsBaseOrCommitOn base h account (last_commit_of base h account)
last_commit_of-base_or_commit base [] account = inl refl
last_commit_of-base_or_commit base (entry ∷ h) account = by_case (commits entry.rec) (touches account (updates_of (txn_of entry.rec) h)) refl refl (last_commit_of-base_or_commit base h account)
  where
    older : (end : ℕ) → IsBaseOrCommitOn base h account end → IsBaseOrCommitOn base (entry ∷ h) account end
    older end (inl is) = inl is
    older end (inr found) = inr (record {
      commit = found.commit;
      later = entry ∷ found.later;
      front = found.front;
      whole = ap (λ l. entry ∷ l) found.whole;
      is_commit = found.is_commit;
      changes = found.changes;
      place = found.place;
    })

    by_case : (is_commit changes : Bool) → commits entry.rec ≡ is_commit → touches account (updates_of (txn_of entry.rec) h) ≡ changes
        → IsBaseOrCommitOn base h account (last_commit_of base h account)
        → IsBaseOrCommitOn base (entry ∷ h) account (cond (is_commit && changes) entry.end (last_commit_of base h account))
    by_case true true is on before =
        inr (record { commit = entry; later = []; front = h; whole = refl; is_commit = is; changes = on; place = refl })
    by_case true false is off before = older (last_commit_of base h account) before
    by_case false changes is on before = older (last_commit_of base h account) before

pub base_with-last_commit : (opening : Opening) (h : List Placed) (account : ℕ) → (base_with opening h).last_commit account ≡ opening.state.last_commit account
base_with-last_commit opening [] account = refl
base_with-last_commit opening (entry ∷ h) account = by_kind entry.rec ∙ base_with-last_commit opening h account
  where
    by_kind : (rec : Rec) → (with_genesis rec (base_with opening h)).last_commit account ≡ (base_with opening h).last_commit account
    by_kind (Genesis own balance) = refl
    by_kind (Update txn own delta prev) = refl
    by_kind (Commit txn legs) = refl
    by_kind (Short txn leg) = refl
    by_kind (Over txn leg) = refl
    by_kind (Note txn text) = refl
