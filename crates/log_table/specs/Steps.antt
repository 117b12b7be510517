-- What a step makes of the seat, and which event it is.
use Rattle.std.specs.Prelude.{◌≡◌, ◌≢◌, ◌≤◌, ℕ, Result, OnOk, IfErr}
use Rattle.slot_word.specs.declared.account_word.AccountWord.{AccountWord}
use Rattle.slot_word.specs.declared.slot_word.SlotWord.{SlotWord}
use Rattle.slot_word.specs.AccountWord.{word_of}
use Rattle.slot_word.specs.SlotWord.{word_of as state_word}
use Rattle.log_rule.specs.AccountViews.{saw_account, took_account, loaded_balance, stored_balance, gave_account}
use Rattle.log_rule.specs.CrewViews.{hires, hired}
use Rattle.log_rule.specs.declared.view.View.{View}
use Rattle.log_rule.specs.Events.{Event, IsStep, none}
use Rattle.lsn_space.specs.declared.opening.TheConstants.{MOST_BALANCE}
use Rattle.table_layout.specs.Layout.{Word, Account, Balance, Slot, Stop}
use Rattle.log_rule.specs.May.{IsOwnWord}
use Rattle.log_rule.specs.Moments.{HoldsAtOnce}
use Rattle.log_rule.specs.SlotViews.{saw_slot, TellsWaiting}
use Rattle.log_table.specs.declared.table.LogTable.{LogTable}
use Rattle.log_table.specs.declared.table.Seat.{Seat}
use Rattle.log_table.specs.Seats.{IsOf, Becomes, view_of, number_of, key_of}

-- the seat loads this word, and has this view behind it
pub record LoadsWord (table : LogTable) (place : Word) (word : ℕ) (after : View) (effect : Event) (old new : Seat) : Type 0 where
  pub view : Becomes old new after
  pub event : IsStep (key_of table) (number_of old) place word word (view_of old) after effect

-- the seat changes the word so, whatever it was, and has this view behind it
pub record ChangesWord (table : LogTable) (place : Word) (change : ℕ → ℕ) (after : View) (effect : Event) (old new : Seat) : Type 0 where
  pub view : Becomes old new after
  pub event : (found : ℕ) → IsStep (key_of table) (number_of old) place found (change found) (view_of old) after effect

-- the seat loads the stop word, and has this view behind it; the word that it saw before stays, where that isn't 0
pub record LoadsStop (table : LogTable) (word : ℕ) (after : View) (old new : Seat) : Type 0 where
  pub loads : LoadsWord table Stop word after none old new
  pub open loads use *
  pub stays : (view_of old).seen.stop ≢ 0 → word ≡ (view_of old).seen.stop

-- As the seat changes the word so, the rule holds of some views of all seats, this one's, as it is then, among them.
pub record ChangesAtOnce (table : LogTable) (place : Word) (change : ℕ → ℕ) (after : View) (effect : Event) (old new : Seat) : Type 0 where
  pub changes : ChangesWord table place change after effect old new
  pub open changes use *
  pub at_once : HoldsAtOnce (key_of table) (number_of new) (view_of new)

-- the account's word is loaded; that of an account which the seat holds is as it was taken
pub record LoadsAccount (table : LogTable) (account : ℕ) (old new : Seat) (word : AccountWord) : Type 0 where
  pub view : Becomes old new (saw_account account (word_of word) (view_of old))
  pub own : IsOwnWord account (word_of word) (view_of old).books
  pub event : IsStep (key_of table) (number_of old) (Account account) (word_of word) (word_of word)
      (view_of old) (saw_account account (word_of word) (view_of old)) none

-- the account is taken by an exchange of the first word for the second, or another word is found
pub record ExchangesAccount {T : Type 0} (table : LogTable) (account : ℕ) (from to : AccountWord) (old new : Seat)
    (result : Result T AccountWord) : Type 0 where
  pub ok : OnOk result (Becomes old new (took_account account (word_of from) (view_of old)))
  pub ok_event : OnOk result (IsStep (key_of table) (number_of old) (Account account) (word_of from) (word_of to)
      (view_of old) (took_account account (word_of from) (view_of old)) none)
  pub err : IfErr result (λ found. (found ≢ from) × Becomes old new (saw_account account (word_of found) (view_of old)))
  pub own : IfErr result (λ found. IsOwnWord account (word_of found) (view_of old).books)
  pub err_event : IfErr result (λ found. IsStep (key_of table) (number_of old) (Account account) (word_of found) (word_of found)
      (view_of old) (saw_account account (word_of found) (view_of old)) none)

-- the balance is loaded of the account whose word the seat has taken
pub record LoadsBalance (table : LogTable) (account : ℕ) (old new : Seat) (balance : ℕ) : Type 0 where
  pub view : Becomes old new (loaded_balance balance (view_of old))
  pub range : balance ≤ MOST_BALANCE
  pub event : IsStep (key_of table) (number_of old) (Balance account) balance balance (view_of old) (loaded_balance balance (view_of old)) none

-- the balance is stored with which the account goes back, whatever the balance before is
pub record StoresBalance (table : LogTable) (account balance : ℕ) (old new : Seat) : Type 0 where
  pub view : Becomes old new (stored_balance account balance (view_of old))
  pub event : (found : ℕ) → IsStep (key_of table) (number_of old) (Balance account) found balance
      (view_of old) (stored_balance account balance (view_of old)) none

-- the account is given back by this word, whatever the word before is
pub record StoresAccount (table : LogTable) (account : ℕ) (word : AccountWord) (old new : Seat) : Type 0 where
  pub view : Becomes old new (gave_account account (view_of old))
  pub event : (found : ℕ) → IsStep (key_of table) (number_of old) (Account account) found (word_of word)
      (view_of old) (gave_account account (view_of old)) none

-- the slot's state is loaded
pub record LoadsSlot (table : LogTable) (slot : ℕ) (old new : Seat) (state : SlotWord) : Type 0 where
  pub view : Becomes old new (saw_slot slot (state_word state) (view_of old))
  pub tells : TellsWaiting slot (state_word state) (view_of old)
  pub event : IsStep (key_of table) (number_of old) (Slot slot) (state_word state) (state_word state)
      (view_of old) (saw_slot slot (state_word state) (view_of old)) none

-- a seat for the worker of this number is made
pub record Splits (table : LogTable) (number : ℕ) (before after made : Seat) : Type 0 where
  pub old : Becomes before after (hires number (view_of before))
  pub new : IsOf table made
  pub view : view_of made ≡ hired number (view_of before)
  pub worker : made.worker ≡ number
