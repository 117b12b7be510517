-- The rule of the table, part by part. Each part speaks of exactly the words and the fields of views that it names.
use Rattle.std.specs.Prelude.{◌≡◌, ◌⊎◌, ℕ, ◌+◌, ◌/◌, ◌^◌, ◌<◌, ◌≤◌, Bool, true, false, List, [], ◌++◌, map, length, get_or, count_by}
use Rattle.std.specs.List.{AllByRecursion, list_any}
use mathlib.Core.Option.{some}
use lib.Dec.{eqb}
use lib.ListN.{get_elem?}
use Rattle.atomic_table.specs.Table.{State}
use Rattle.lsn_space.specs.declared.lsn.TheConstants.{LAST, LEAST_RING, GREATEST_RING}
use Rattle.log_rule.specs.declared.start.Start.{Start}
use Rattle.log_rule.specs.declared.view.Call.TheVariants.{Idle}
use Rattle.log_rule.specs.declared.view.Role.TheVariants.{Flusher, Fresh}
use Rattle.log_rule.specs.declared.view.Seen.{Seen}
use Rattle.log_rule.specs.declared.view.Standing.{Standing}
use Rattle.log_rule.specs.declared.view.View.{View}
use Rattle.log_record.specs.declared.rec.Placed.{Placed}
use Rattle.lock_core.specs.History.{history_from}
use Rattle.lock_core.specs.AccountRows.{row}
use Rattle.lock_core.specs.Sums.{BaseState}
use Rattle.log_rule.specs.declared.view.Books.{Books}
use Rattle.log_rule.specs.declared.view.Half.TheVariants.{Neither}
use Rattle.log_rule.specs.Accounts.{KeepsAccounts}
use Rattle.log_rule.specs.Groups.{Group}
use Rattle.table_layout.specs.Layout.{word_count}
use Rattle.log_rule.specs.Log.{Part, LogRange, Log, ranges_of, own, parts_of, owed, Tiles, Laid, SpellsRecord, records_in, StandsInRing, AgreesFrom}
use Rattle.log_rule.specs.Log.{IsRangeBoundary, EndsWithPart, IsFullIfReleased, IsReleasedBelow, IsReleased, IsAtWork, CountsRemaining}
use Rattle.log_rule.specs.Marks.{HasReleaseMarks, IsCarried, HasTrueEnds}
use Rattle.log_rule.specs.Members.{HasSeenInGroup, LoadsForGroup, AwaitsPlace, HasTotalOfWorkers, HeardOfWorkers, HasSeenLast}
use Rattle.log_rule.specs.Slots.{own_pieces, pieces_at, led_phase, phase_at, KnowsGroup, IsSoundSlot}
use Rattle.log_rule.specs.Roles.{is_active, is_worker, is_working, is_spent, may_own}
use Rattle.log_rule.specs.Views.{constants_of, nobody, entries_in, books_in, claims_in}
use Rattle.log_rule.specs.Words.{Words, words_in}

-- each seat that was made, by its number, has a view for which this holds
abbrev pub EachView : (ℕ → View → Type 0) → List View → Type 0
EachView P views = (seat : ℕ) (view : View) → get_elem? views seat ≡ some view → P seat view

-- so has each number, where a seat that was not made counts as one that is spent
abbrev pub EachSeat : (ℕ → View → Type 0) → List View → Type 0
EachSeat P views = (seat : ℕ) → P seat (get_or views seat nobody)

-- each two seats that were made have views for which this holds
abbrev pub EachPair : (ℕ → View → ℕ → View → Type 0) → List View → Type 0
EachPair R views = EachView (λ seat view. EachView (R seat view) views) views

-- the ring has a lawful length, and the tail is in the log and at most a ring above durable
pub record HasTailInReach (ring tail durable : ℕ) : Type 0 where
  pub least_ring : LEAST_RING ≤ ring
  pub greatest_ring : ring ≤ GREATEST_RING
  pub within_ring : tail ≤ durable + ring
  pub within_log : tail ≤ LAST

-- none of tail, exposed and durable is below what a seat saw in it, and each LSN that a seat saw is a boundary of reservations
pub record HasSeenBoundaries (start tail exposed durable : ℕ) (ranges : List LogRange) (seen : Seen) : Type 0 where
  pub tail_seen : seen.tail ≤ tail
  pub exposed_seen : seen.exposed ≤ exposed
  pub durable_seen : seen.durable ≤ durable
  pub boundaries : AllByRecursion (IsRangeBoundary start ranges) seen.lsns

-- The reservations follow one another from the start to the tail, and so do the parts, one or more in each reservation. Durable and
-- exposed lie between two reservations, and durable is not above exposed.
pub record HasContiguousReservations (start ring tail exposed durable : ℕ) (log : Log) : Type 0 where
  pub to_durable : Tiles (ring / 4) start log.flushed durable
  pub to_exposed : Tiles (ring / 4) durable log.exposed exposed
  pub to_tail : Tiles (ring / 4) exposed log.ahead tail
  pub parts : Laid start log.parts tail
  pub remaining : AllByRecursion (CountsRemaining log.parts) log.ahead
  pub aligned : AllByRecursion (EndsWithPart start log.parts) (ranges_of log)

-- each part is a record of which the first units are filled, and a filled unit at or above durable stands in the ring
pub record KeepsFilledUnits (size durable : ℕ) (ring : ℕ → ℕ) (parts : List Part) : Type 0 where
  pub spelled : AllByRecursion SpellsRecord parts
  pub stands : AllByRecursion (StandsInRing size durable ring) parts

-- every unit below exposed is filled
pub record IsFilledBelowExposed (exposed : ℕ) (log : Log) : Type 0 where
  pub full : AllByRecursion IsFullIfReleased log.parts
  pub below : AllByRecursion (IsReleasedBelow exposed) log.parts
  pub ranges : AllByRecursion IsReleased (log.flushed ++ log.exposed)

-- The units sent are the log from the start to durable. Those read follow them, up to exposed at most as it was loaded last, which is a
-- boundary of reservations.
pub record SendsInsertedUnits (start exposed durable : ℕ) (log : Log) (loaded : ℕ) (sent read : List ℕ) : Type 0 where
  pub sent_to : start + length sent ≡ durable
  pub read_to : durable + length read ≤ loaded
  pub loaded_seen : loaded ≤ exposed
  pub boundary : IsRangeBoundary start (ranges_of log) loaded
  pub sent_agrees : AllByRecursion (AgreesFrom start sent) log.parts
  pub read_agrees : AllByRecursion (AgreesFrom durable read) log.parts

-- the flusher's seat alone sends, and stop is what it stored
abbrev pub SendsIfFlusher : ℕ → ℕ → ℕ → Log → View → Type 0
SendsIfFlusher start exposed durable log view =
    view.standing.role ≡ Flusher → SendsInsertedUnits start exposed durable log view.sending.exposed view.sending.sent view.sending.read

abbrev pub StoresStop : ℕ → View → Type 0
StoresStop stop view = view.standing.role ≡ Flusher → view.sending.stop ≡ stop

-- what the seat read in stop last is 0, or this word
abbrev pub HasReadStop : ℕ → View → Type 0
HasReadStop stop view = (view.seen.stop ≡ 0) ⊎ (view.seen.stop ≡ stop)

-- where the flusher's seat is quiet, no worker is at work, and exposed as it loaded it after that is exposed
abbrev pub RestsIfQuiet : View → View → Type 0
RestsIfQuiet view other = view.standing.role ≡ Flusher → view.sending.quiet ≡ true → is_working other.standing.role ≡ false

abbrev pub LookedIfQuiet : ℕ → View → Type 0
LookedIfQuiet exposed view = view.standing.role ≡ Flusher → view.sending.quiet ≡ true → view.sending.looked ≡ true → view.sending.exposed ≡ exposed

-- The log has of the seat its entries, which are released, and what its call has reserved; and each slot has the seat as a member, and as
-- the one who makes the slot's next step, where its call says so. What the call knows of its group is so.
pub record HasWorkingOwner (groups : ℕ → Group) (parts : List Part) (ahead : List LogRange) (seat : ℕ) (view : View) : Type 0 where
  pub owns : own seat parts ≡ parts_of seat true view.entries ++ parts_of seat false (entries_in groups view.call)
  pub owes : owed seat ahead ≡ claims_in view.call
  pub joins : (slot : ℕ) → own_pieces seat (groups slot).members ≡ pieces_at slot view.call
  pub leads : (slot : ℕ) → led_phase seat (groups slot).phase ≡ phase_at seat slot view.call
  pub knows : KnowsGroup groups view.call

-- the view has the table's constants
abbrev pub HasConstants : Start → View → Type 0
HasConstants key view = is_spent view.standing.role ≡ false → view.constants ≡ constants_of key

-- a view that is not active has nothing under way
abbrev pub RestsUnlessActive : View → Type 0
RestsUnlessActive view = is_active view.standing.role ≡ false → view.call ≡ Idle

-- only the flusher's seat and workers' have entries
abbrev pub OwnsIfWorker : View → Type 0
OwnsIfWorker view = may_own view.standing.role ≡ false → view.entries ≡ []

abbrev pub Knows : ℕ → List ℕ → Type 0
Knows worker numbers = list_any (eqb worker) numbers ≡ true

abbrev pub Lacks : ℕ → List ℕ → Type 0
Lacks worker numbers = list_any (eqb worker) numbers ≡ false

-- a worker's number is small, and the flusher's seat is the first
pub record HasSoundRole (seat : ℕ) (standing : Standing) : Type 0 where
  pub small : is_worker standing.role ≡ true → standing.worker < 2 ^ 32
  pub first : standing.role ≡ Flusher → seat ≡ 0

-- No two workers have one number. The flusher's seat knows as made each of them, and each number that any seat knows as enrolled or
-- merged. No fresh worker has a number that any seat knows as enrolled, and no worker one that any seat knows as merged.
pub record HasSoundRoles (seat : ℕ) (standing : Standing) (other : ℕ) (others : Standing) : Type 0 where
  pub apart : is_worker standing.role ≡ true → is_worker others.role ≡ true → standing.worker ≡ others.worker → seat ≡ other
  pub made : standing.role ≡ Flusher → is_worker others.role ≡ true → Knows others.worker standing.made
  pub enrolled : standing.role ≡ Flusher → (worker : ℕ) → Knows worker others.enrolled → Knows worker standing.made
  pub merged : standing.role ≡ Flusher → (worker : ℕ) → Knows worker others.merged → Knows worker standing.made
  pub fresh : standing.role ≡ Fresh → Lacks standing.worker others.enrolled
  pub unmerged : is_worker standing.role ≡ true → Lacks standing.worker others.merged

-- a view that is not active holds no account, nor one by half, and only the flusher's seat and workers' have jobs
abbrev pub HoldsIfActive : View → Type 0
HoldsIfActive view = (is_active view.standing.role ≡ false → (view.books.held ≡ []) × (view.books.half ≡ Neither))
    × (may_own view.standing.role ≡ false → view.books.jobs ≡ [])

-- the state of the accounts with which the table was made
abbrev pub base_of : Start → BaseState
base_of key = record {
  end = key.start;
  accounts = length key.accounts.rows;
  balance = λ account. (row key.accounts.rows account).0;
  last_commit = λ account. (row key.accounts.rows account).1;
}

-- the list that was inserted, newest first
abbrev pub history_in : Start → List Part → List Placed
history_in key parts = history_from key.start [] (records_in parts)

-- the seat's books, with what a group has placed for it
abbrev pub books_of : (ℕ → Group) → View → Books
books_of groups view = books_in groups view.call view.books

abbrev pub is_active_view : View → Bool
is_active_view view = is_active view.standing.role

-- the crew word counts the active views, and the roles of the seats go together
pub record HasSoundCrew (crew : ℕ) (views : List View) : Type 0 where
  pub count : crew ≡ count_by is_active_view views
  pub each : EachView (λ seat view. HasSoundRole seat view.standing) views
  pub pairs : EachPair (λ seat view other others. HasSoundRoles seat view.standing other others.standing) views

-- the rule: words, views and log of a table that was made with this key go together
pub record IsSound (key : Start) (words : Words) (views : List View) (log : Log) : Type 0 where
  pub ordered : HasTailInReach key.ring words.tail words.durable
  pub seen : EachView (λ _ view. HasSeenBoundaries key.start words.tail words.exposed words.durable (ranges_of log) view.seen) views
  pub contiguous : HasContiguousReservations key.start key.ring words.tail words.exposed words.durable log
  pub filled : KeepsFilledUnits key.ring words.durable words.ring log.parts
  pub below : IsFilledBelowExposed words.exposed log
  pub at_work : AllByRecursion (IsAtWork log.groups) log.ahead
  pub slots : (slot : ℕ) → IsSoundSlot (key.ring / 4) (words.slot slot) (words.base slot) slot log.ahead (log.groups slot)
  pub marks : HasReleaseMarks key.ring words.tail words.exposed words.mark log
  pub carried : IsCarried words.exposed log.ahead views
  pub ends : EachView (λ _ view. HasTrueEnds key.start words.exposed log view.call) views
  pub owners : EachSeat (HasWorkingOwner log.groups log.parts log.ahead) views
  pub constants : EachView (λ _ view. HasConstants key view) views
  pub resting : EachView (λ _ view. RestsUnlessActive view) views
  pub entries : EachView (λ _ view. OwnsIfWorker view) views
  pub roles : HasSoundCrew words.crew views
  pub sends : EachView (λ _ view. SendsIfFlusher key.start words.exposed words.durable log view) views
  pub stops : EachView (λ _ view. StoresStop words.stop view) views
  pub read_stop : EachView (λ _ view. HasReadStop words.stop view) views
  pub quiet : EachPair (λ _ view _ other. RestsIfQuiet view other) views
  pub looked : EachView (λ _ view. LookedIfQuiet words.exposed view) views
  pub unheld : EachView (λ _ view. HoldsIfActive view) views
  pub accounts : KeepsAccounts (base_of key) words.account (history_in key log.parts) (map (books_of log.groups) views)
  pub in_group : (slot : ℕ) → HasSeenInGroup key.start key.ring words.tail words.durable (ranges_of log) (log.groups slot)
  pub loads : EachView (λ _ view. LoadsForGroup log.groups view.seen view.call) views
  pub awaits : EachView (λ _ view. AwaitsPlace view.call view.books) views
  pub totals : EachView (λ _ view. (slot : ℕ) → HasTotalOfWorkers (log.groups slot) view) views
  pub heard : EachPair (λ _ view _ other. HeardOfWorkers view other) views
  pub lasts : EachView (λ _ view. HasSeenLast view) views

-- the table has its words, and some log goes with them and with the views
abbrev pub Ruled : Start → State (Unit {0}) View → Type 0
Ruled key state = (length state.words ≡ word_count key.ring key.slots (length key.accounts.rows)) × ((log : Log) × IsSound key (words_in key state.words) state.views log)
