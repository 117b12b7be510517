pub mod AccountSteps
mod AccountsKept
mod Adding
mod AgreedUnits
pub mod Allowing
pub mod Bookings
mod Boundaries
mod Carriers
pub mod Contention
mod CrewMerging
pub mod Crewing
pub mod Deltas
mod Entering
pub mod Exposing
mod Filling
pub mod Flushing
mod GatheredSeats
pub mod Gathering
mod Giving
mod GroupEntering
mod GroupLeaving
pub mod GroupMarking
mod GroupPlacing
mod GroupTotals
mod Groups
mod Growing
pub mod LeaderPlacing
mod Lifting
pub mod Lists
mod Loading
pub mod Loads
mod MachineShown
mod MarkLooks
mod Marking
mod MemberBooks
mod Members
pub mod Merging
pub mod Noting
mod OwnedParts
pub mod PieceFilling
mod PlanFronts
pub mod Planning
pub mod Raising
mod RangeLists
pub mod Reading
pub mod RecordsToPlace
mod RefusedReleasing
mod Renaming
pub mod Reserving
mod Resting
mod Roles
pub mod SentRecords
mod Sharing
pub mod SlotAllowing
mod SlotChanges
pub mod SlotClosing
pub mod SlotHearing
pub mod SlotJoining
mod SlotLeading
pub mod SlotLooks
pub mod SlotReleased
mod SlotReleasing
pub mod SlotReopening
mod SlotShowing
pub mod SlotStoring
pub mod SlotTelling
mod SlotWords
pub mod Splitting
pub mod Starting
pub mod Stopping
mod Storing
pub mod TailMoving
mod Taking
mod ToldMembers
mod ToldWaiting
mod TrueMarks
pub mod Vacancy
mod ViewChanges
mod WordPlaces
