-- What a judge keeps of the history that it took.
use Rattle.std.specs.Prelude.{◌≡◌, ◌≢◌, ◌<◌, ◌≤◌, ◌⊎◌, ℕ, ◌+◌, pos, true, false, List, [], ◌∷◌, length, slice_index_or, IsTrue, ◌↔◌}
use Rattle.std.specs.List.{AllByRecursion}
use Rattle.log_record.specs.declared.rec.Rec.{Rec}
use Rattle.log_record.specs.declared.rec.Rec.TheVariants.{Update}
use Rattle.log_record.specs.declared.rec.Placed.{Placed}
use Rattle.txn_tables.specs.Values.{value_at}
use Rattle.lock_core.specs.declared.reason.JudgeFault.{JudgeFault}
use Rattle.lock_core.specs.declared.reason.JudgeFault.TheVariants as fault
use Rattle.lock_core.specs.declared.reason.Why.TheVariants as why
use Rattle.lock_core.specs.declared.update_links.TheConstants.{ENDED}
use Rattle.lock_core.specs.declared.update.Change.{Change}
use Rattle.lock_core.specs.declared.update_links.UpdateLink.{UpdateLink}
use Rattle.lock_core.specs.declared.transactions.Transactions.{Transactions}
use Rattle.lock_core.specs.declared.ledger.Ledger.{Ledger}
use Rattle.lock_core.specs.Transactions.{own_records_of, has_end, changes_in}
use Rattle.lock_core.specs.Sums.{Opening}
use Rattle.lock_core.specs.Tests.{IsGenesis}
use Rattle.lock_core.specs.Judging.{IsJudged}

-- an Update of the transaction that says this change and ends here
abbrev pub update_at : ℕ → ℕ → Change → Placed
update_at end txn change = record { end = end; rec = Update txn change.account change.delta change.prev }

-- what stands where no Update stands
abbrev pub no_link : UpdateLink
no_link = record { change = record { account = 0; delta = pos 0; prev = 0 }; count = 0; older = 0 }

abbrev pub link_at : List UpdateLink → ℕ → UpdateLink
link_at links place = slice_index_or links place no_link

-- Updates that say these changes, newest first: the newest stands at this place, each names the place of the one before it,
-- and counts how many there are with it
abbrev pub HasChain : List UpdateLink → ℕ → List Change → Type 0
HasChain links place [] = place ≡ 0
HasChain links place (change ∷ changes) =
    (0 < place) × (place < length links) × ((link_at links place).change ≡ change) × ((link_at links place).count ≡ length changes + 1)
    × HasChain links (link_at links place).older changes

-- these records of a transaction have no end record, and the newest of their Updates stands at this place
pub record IsOpenAt (links : List UpdateLink) (place : ℕ) (records : List Rec) : Type 0 where
  pub unended : has_end records ≡ false
  pub chain : HasChain links place (changes_in records)

-- what is kept of these records of a transaction
pub record KeepsRecords (links : List UpdateLink) (place : ℕ) (records : List Rec) : Type 0 where
  pub ended : place ≡ ENDED → has_end records ≡ true
  pub unended : place ≢ ENDED → IsOpenAt links place records

-- no more transactions than are counted, and fewer than there are places, have an Update and no end record: each is one of these
pub record AreActive (txns : Transactions) (list : List ℕ) : Type 0 where
  pub count : length list ≤ txns.active
  pub fits : txns.active < length txns.updates
  pub others : (txn : ℕ) → AllByRecursion (λ one. one ≢ txn) list → (value_at txns.newest txn ≡ 0) ⊎ (value_at txns.newest txn ≡ ENDED)

-- what is kept of the transactions of a history
pub record KeepsTransactions (txns : Transactions) (h : List Placed) : Type 0 where
  pub some : 0 < length txns.updates
  pub first : link_at txns.updates 0 ≡ no_link
  pub each : (txn : ℕ) → KeepsRecords txns.updates (value_at txns.newest txn) (own_records_of txn h)
  pub active : (list : List ℕ) × AreActive txns list

-- why a transaction takes no end record: it has one, which is told by this, or memory is wanting
abbrev pub IsEndFault : Type 0 → JudgeFault → Type 0
IsEndFault ended f = (f ≡ fault.NoMemory) ⊎ ((f ≡ fault.Why why.Ended) × ended)

-- What is kept of a lawful history behind an opening. Where that has no account, no Commit was on any.
pub record KeepsLedger (opening : Opening) (ledger : Ledger) (h : List Placed) : Type 0 where
  pub judged : IsJudged opening ledger.accounts h
  pub begins : IsTrue ledger.is_opening ↔ ((opening.state.accounts ≡ 0) × AllByRecursion (λ entry. IsGenesis entry.rec) h)
  pub transactions : KeepsTransactions ledger.txns h
  pub least : ledger.least ≡ opening.txn
  pub blank : opening.state.accounts ≡ 0 → (account : ℕ) → opening.state.last_commit account ≡ 0
