-- When a step is the next one of the call that the view shows as under way.
use Rattle.std.specs.Prelude.{◌≡◌, ◌≢◌, ◌⊎◌, ℕ, ◌+◌, ◌*◌, ◌/◌, ◌^◌, ◌<◌, ◌≤◌, Bool, true, false, List, [], length, slice_index}
use Rattle.std.specs.List.{AllByRecursion, list_any}
use lib.Dec.{eqb}
use Rattle.lsn_space.specs.declared.lsn.TheConstants.{LAST}
use Rattle.log_rule.specs.declared.view.Entry.{Entry}
use Rattle.log_rule.specs.declared.view.Taken.{Taken}
use Rattle.log_rule.specs.declared.view.Call.TheVariants.{Idle, Filling, Joined, Emptying, Holding, Raising, Reopening}
use Rattle.log_rule.specs.declared.group_view.After.{After}
use Rattle.log_rule.specs.declared.group_view.MemberStep.TheVariants.{Closes, Hears, Places, Stores, Tells, Fills, Leaves}
use Rattle.log_rule.specs.declared.group_view.Piece.{Piece}
use Rattle.log_rule.specs.declared.view.Role.TheVariants.{Flusher, Active}
use Rattle.log_rule.specs.declared.view.Seen.{Seen}
use Rattle.log_rule.specs.declared.view.View.{View}
use Rattle.log_record.specs.declared.rec.Placed.{Placed}
use Rattle.log_record.specs.Spelling.{spelling}
use Rattle.lock_core.specs.declared.job.Job.{Job}
use Rattle.slot_word.specs.declared.account_word.AccountWord.{AccountWord}
use Rattle.slot_word.specs.declared.phase.Phase.TheVariants.{Gathering}
use Rattle.slot_word.specs.declared.slot_word.SlotWord.{SlotWord}
use Rattle.slot_word.specs.AccountWord.{held_in, last_commit_in}
use Rattle.slot_word.specs.SlotWord.{word_of as word_of_slot}
use Rattle.log_rule.specs.declared.view.TakenJob.{TakenJob}
use Rattle.log_rule.specs.declared.view.Books.{Books}
use Rattle.lsn_space.specs.declared.opening.TheConstants.{MOST_BALANCE}
use Rattle.log_rule.specs.declared.view.Half.TheVariants.{Neither, Taking, Giving}
use Rattle.log_rule.specs.Accounts.{MayBeTaken, FollowsJobBalance, commit_in}
use Rattle.log_rule.specs.Books.{times_held, balance_taken, last_commit_taken, next_of, IsNote, MayEnter}
use Rattle.log_rule.specs.declared.view.Taken.{Taken as Held}
use Rattle.log_rule.specs.Groups.{Outcome}
use Rattle.log_rule.specs.Log.{IsFull}
use Rattle.log_rule.specs.Slots.{told_word}
use Rattle.log_rule.specs.Roles.{has_ended}
use Rattle.log_rule.specs.SlotViews.{own_slot_of}
use Rattle.log_rule.specs.Views.{read_to}

-- the worker is enrolled, has no call under way, and has no account half taken or half given back
pub record IsAtRest (view : View) : Type 0 where
  pub active : view.standing.role ≡ Active
  pub idle : view.call ≡ Idle
  pub whole : view.books.half ≡ Neither

-- the worker has nothing under way, and holds no account
pub record MayLeave (view : View) : Type 0 where
  pub rests : IsAtRest view
  pub none_held : view.books.held ≡ []

-- the worker may take this job: it holds no account, the number is above all its jobs, and the table allows the job
pub record MayTakeJob (accounts number : ℕ) (job : Job) (view : View) : Type 0 where
  pub rests : IsAtRest view
  pub none_held : view.books.held ≡ []
  pub allowed : MayBeTaken accounts (record { number = number; job = job })
  pub above : AllByRecursion (λ (taken : TakenJob). taken.number < number) view.books.jobs

-- the worker's last job has no record in the log but perhaps its Note
pub record HasBegunNothing (view : View) : Type 0 where
  pub some_job : 1 ≤ view.books.last.number
  pub only_note : AllByRecursion (λ (entry : Placed). IsNote entry.rec) view.books.placed

-- each account that is held is below this one
abbrev pub Ascends : ℕ → Books → Type 0
Ascends account books = AllByRecursion (λ (held : Taken). held.account < account) books.held

-- the account's word may be taken: it is above all that the seat holds, and its word is free and is taken with the same last Commit
pub record MayTake (account : ℕ) (from to : AccountWord) (view : View) : Type 0 where
  pub rests : IsAtRest view
  pub begins : HasBegunNothing view
  pub ascends : Ascends account view.books
  pub free : from.held ≡ false
  pub taken : to.held ≡ true
  pub last_commit : to.mark ≡ from.mark

-- the balance of this account, whose word the seat has taken, may be loaded
pub record MayLoadBalance (account : ℕ) (view : View) : Type 0 where
  pub active : view.standing.role ≡ Active
  pub idle : view.call ≡ Idle
  pub last_commit : ℕ
  pub half : view.books.half ≡ Taking account last_commit

-- where the seat holds the account, the word is held, with the last Commit as it took it
abbrev pub IsOwnWord : ℕ → ℕ → Books → Type 0
IsOwnWord account word books = 1 ≤ times_held account books.held
    → (held_in word ≡ true) × (last_commit_in word ≡ last_commit_taken books.held account)

-- The balance may be stored with which the account goes back: the seat holds it, and this is the balance as it was taken with what the
-- seat's last job made of it by its Commit.
pub record MayStoreBalance (account balance : ℕ) (view : View) : Type 0 where
  pub rests : IsAtRest view
  pub has : 1 ≤ times_held account view.books.held
  pub follows : FollowsJobBalance account balance (balance_taken view.books.held account) view.books.placed
  pub fits : balance ≤ MOST_BALANCE

-- the account, whose balance is stored, may be given back with this word
pub record MayGiveBack (account : ℕ) (word : AccountWord) (view : View) : Type 0 where
  pub active : view.standing.role ≡ Active
  pub idle : view.call ≡ Idle
  pub taken : Held
  pub balance : ℕ
  pub half : view.books.half ≡ Giving taken balance
  pub account_is : taken.account ≡ account
  pub free : word.held ≡ false
  pub last_commit : word.mark ≡ commit_in view.books.placed account taken.last_commit

-- the seat's last two steps saw the tail, by a load or by an exchange that was lost, and then loaded durable
pub record HasLooked (seen : Seen) : Type 0 where
  pub tail : seen.tail_step + 1 ≡ seen.steps
  pub durable : seen.durable_step ≡ seen.steps

-- The tail may be exchanged for the units of the next record of the seat's last job: the seat isn't contended, it looked, and by what
-- it saw there is room.
pub record MayReserve (from to : ℕ) (view : View) : Type 0 where
  pub rests : IsAtRest view
  pub alone : view.contended ≡ false
  pub looked : HasLooked view.seen
  pub tail : view.seen.tail ≡ from
  pub enters : MayEnter (next_of view.books) view.books
  pub size : to ≡ from + length (spelling (next_of view.books))
  pub within_log : to ≤ LAST
  pub within_ring : to ≤ view.seen.durable + view.constants.ring

-- The leader of a group has loaded tail and durable since it closed the group. The tail may be exchanged for the units of the group: by what
-- was loaded there is room.
pub record MayPlaceGroup (from to : ℕ) (view : View) : Type 0 where
  pub slot : ℕ
  pub piece : Piece
  pub total : ℕ
  pub closed : ℕ
  pub there : slot < view.constants.slots
  pub places : view.call ≡ Joined slot piece (Places total closed)
  pub tail_loaded : closed < view.seen.tail_step
  pub durable_loaded : closed < view.seen.durable_step
  pub tail : view.seen.tail ≡ from
  pub size : to ≡ from + total
  pub within_log : to ≤ LAST
  pub within_ring : to ≤ view.seen.durable + view.constants.ring

-- the tail may be exchanged, for the seat's next record or for the group that the seat leads
abbrev pub MayExchangeTail : ℕ → ℕ → View → Type 0
MayExchangeTail from to view = MayReserve from to view ⊎ MayPlaceGroup from to view

-- the unit at this LSN is the next to be filled of the range that the seat has reserved, and this is the record's
pub record MayFillRun (at unit : ℕ) (view : View) : Type 0 where
  pub entry : Entry
  pub filling : view.call ≡ Filling entry
  pub next : at ≡ entry.start + length entry.units
  pub unfilled : length entry.units < entry.size
  pub unit_is : unit ≡ slice_index (spelling entry.rec) (length entry.units)

-- so of the member's piece, which begins as far behind the base of its group as its offset says; the group is at one of so many slots
pub record MayFillPiece (slots at unit : ℕ) (view : View) : Type 0 where
  pub slot : ℕ
  pub slot_below : slot < slots
  pub piece : Piece
  pub base : ℕ
  pub units : List ℕ
  pub filling : view.call ≡ Joined slot piece (Fills base units)
  pub next : at ≡ base + piece.offset + length units
  pub unfilled : length units < piece.size
  pub unit_is : unit ≡ slice_index (spelling piece.rec) (length units)

abbrev pub MayFill : ℕ → ℕ → ℕ → View → Type 0
MayFill slots at unit view = MayFillRun at unit view ⊎ MayFillPiece slots at unit view

-- the range that the seat has reserved is full, begins at the one LSN and ends at the other
pub record MayMarkRun (base end : ℕ) (view : View) : Type 0 where
  pub entry : Entry
  pub filling : view.call ≡ Filling entry
  pub full : IsFull entry
  pub begins : base ≡ entry.start
  pub ends : end ≡ entry.start + entry.size

-- the seat was the last of a group to release, whose range begins at the one LSN and ends at the other
pub record MayMarkGroup (base end : ℕ) (view : View) : Type 0 where
  pub slot : ℕ
  pub total : ℕ
  pub emptying : view.call ≡ Emptying slot base total
  pub ends : end ≡ base + total

abbrev pub MayMark : ℕ → ℕ → View → Type 0
MayMark base end view = MayMarkRun base end view ⊎ MayMarkGroup base end view

-- the seat has this LSN in hand, and may look at the mark there
pub record MayLookMark (base : ℕ) (view : View) : Type 0 where
  pub after : After
  pub holding : view.call ≡ Holding base after

-- the seat found a mark there, and may raise exposed from the one LSN to the other
pub record MayRaise (from to : ℕ) (view : View) : Type 0 where
  pub after : After
  pub raising : view.call ≡ Raising from to after

-- The seat may join the group at the slot for the next record of its last job: the slot is its own, the group gathers and has room, and
-- the one state becomes the other.
pub record MayJoinSlot (slot : ℕ) (from to : SlotWord) (view : View) : Type 0 where
  pub rests : IsAtRest view
  pub enters : MayEnter (next_of view.books) view.books
  pub own_slot : slot ≡ own_slot_of view
  pub gathers : from.phase ≡ Gathering
  pub phase : to.phase ≡ from.phase
  pub total : to.total ≡ from.total + length (spelling (next_of view.books))
  pub remaining : to.remaining ≡ from.remaining
  pub room : from.total + length (spelling (next_of view.books)) ≤ view.constants.ring / 4

-- the seat leads the group at the slot, and has not closed it
pub record MayCloseSlot (slot : ℕ) (view : View) : Type 0 where
  pub piece : Piece
  pub closes : view.call ≡ Joined slot piece Closes

-- the leader of the group at the slot has reserved its range, which begins there, and stores that
pub record MayStoreGranted (slot word : ℕ) (view : View) : Type 0 where
  pub piece : Piece
  pub total : ℕ
  pub stores : view.call ≡ Joined slot piece (Stores total word)

-- The leader of the group at the slot has loaded tail and durable since it closed the group. By these the group has no room, and it stores
-- the two.
pub record MayStoreRefused (slot word : ℕ) (view : View) : Type 0 where
  pub piece : Piece
  pub total : ℕ
  pub closed : ℕ
  pub places : view.call ≡ Joined slot piece (Places total closed)
  pub tail_loaded : closed < view.seen.tail_step
  pub durable_loaded : closed < view.seen.durable_step
  pub no_room : (LAST < view.seen.tail + total) ⊎ (view.seen.durable + view.constants.ring < view.seen.tail + total)
  pub word_is : word ≡ view.seen.tail * 2 ^ 32 + view.seen.durable

abbrev pub MayStoreBase : ℕ → ℕ → View → Type 0
MayStoreBase slot word view = MayStoreGranted slot word view ⊎ MayStoreRefused slot word view

-- the seat leads the group at the slot, has stored what became of it, and tells that by this state
pub record MayPublish (slot : ℕ) (word : SlotWord) (view : View) : Type 0 where
  pub piece : Piece
  pub total : ℕ
  pub outcome : Outcome
  pub tells : view.call ≡ Joined slot piece (Tells total outcome)
  pub word_is : word_of_slot word ≡ told_word outcome total total

-- the seat saw that its group at the slot is told, refused or not, and of this total
pub record MayLoadBase (slot : ℕ) (view : View) : Type 0 where
  pub piece : Piece
  pub refused : Bool
  pub total : ℕ
  pub hears : view.call ≡ Joined slot piece (Hears refused total)

-- the seat has filled its piece of the group at the slot, which is n units, and releases it
pub record MayReleaseFilled (slot n : ℕ) (view : View) : Type 0 where
  pub piece : Piece
  pub base : ℕ
  pub units : List ℕ
  pub fills : view.call ≡ Joined slot piece (Fills base units)
  pub full : length units ≡ piece.size
  pub size : n ≡ piece.size

-- the group at the slot was refused, and the seat releases its piece of n units
pub record MayReleaseRefused (slot n : ℕ) (view : View) : Type 0 where
  pub piece : Piece
  pub tail : ℕ
  pub durable : ℕ
  pub leaves : view.call ≡ Joined slot piece (Leaves tail durable)
  pub size : n ≡ piece.size

abbrev pub MayReleaseSlot : ℕ → ℕ → View → Type 0
MayReleaseSlot slot n view = MayReleaseFilled slot n view ⊎ MayReleaseRefused slot n view

-- the seat has nothing left to do but to open the slot again
abbrev pub MayReopen : ℕ → View → Type 0
MayReopen slot view = view.call ≡ Reopening slot

-- the unit at this LSN is the next to be read, and below exposed as the flusher's seat loaded it last
pub record MayRead (at : ℕ) (view : View) : Type 0 where
  pub flusher : view.standing.role ≡ Flusher
  pub next : at ≡ read_to view
  pub below : at < view.sending.exposed

-- all units up to exposed, as the flusher's seat loaded it last, were read
pub record MaySend (to : ℕ) (view : View) : Type 0 where
  pub flusher : view.standing.role ≡ Flusher
  pub read : to ≡ read_to view
  pub all : to ≡ view.sending.exposed

-- the flusher's seat has not stopped the log, and the word tells that it does
pub record MayStop (word : ℕ) (view : View) : Type 0 where
  pub flusher : view.standing.role ≡ Flusher
  pub running : view.sending.stop ≡ 0
  pub stops : word ≢ 0

-- the flusher's seat may make a worker of this number
pub record MaySplit (worker : ℕ) (view : View) : Type 0 where
  pub flusher : view.standing.role ≡ Flusher
  pub new : list_any (eqb worker) view.standing.made ≡ false

-- the flusher's seat may take in the seat of a worker that has ended, and a note
pub record MayMerge (view other : View) : Type 0 where
  pub flusher : view.standing.role ≡ Flusher
  pub ended : has_ended other.standing.role ≡ true

-- all workers that were made have ended and were merged
pub record MayClose (view : View) : Type 0 where
  pub flusher : view.standing.role ≡ Flusher
  pub all_merged : (worker : ℕ) → list_any (eqb worker) view.standing.made ≡ true → list_any (eqb worker) view.standing.merged ≡ true
