-- What a group changes of a member's books: it places a record.
use Rattle.std.proofs.Common.{◌≡◌, ℕ, ◌+◌, refl}
use Rattle.log_record.specs.declared.rec.Rec.{Rec}
use Rattle.log_rule.specs.declared.group_view.MemberStep.{MemberStep}
use Rattle.log_rule.specs.declared.group_view.MemberStep.TheVariants.{Closes, Waits, Hears, Places, Stores, Tells, Fills, Leaves}
use Rattle.log_rule.specs.declared.view.Books.{Books}
use Rattle.log_rule.specs.declared.view.Call.{Call}
use Rattle.log_rule.specs.declared.view.Call.TheVariants.{Idle, Filling, Joined, Emptying, Marked, Holding, Raising, Reopening}
use Rattle.log_rule.specs.Books.{placing}
use Rattle.log_rule.specs.Groups.{Outcome, Granted, Refused, GroupPhase, Vacant, Gathering, Closed, Placed, Ready, Told, Emptied, Piece, Group}
use Rattle.log_rule.specs.GroupViews.{granted_books, unheard_books, member_books}
use Rattle.log_rule.specs.Views.{books_in}

-- what no record that is placed changes
module _ {A : Type 0} (tell : Books → A) (placed : (end : ℕ) (rec : Rec) (books : Books) → tell (placing end rec books) ≡ tell books) where
  granted-tells : (outcome : Outcome) (piece : Piece) (books : Books) → tell (granted_books outcome piece books) ≡ tell books
  granted-tells (Granted base) piece books = placed (base + piece.offset + piece.size) piece.rec books
  granted-tells (Refused tail durable) piece books = refl

  unheard-tells : (phase : GroupPhase) (piece : Piece) (books : Books) → tell (unheard_books phase piece books) ≡ tell books
  unheard-tells Vacant piece books = refl
  unheard-tells (Gathering leader total) piece books = refl
  unheard-tells (Closed leader total) piece books = refl
  unheard-tells (Placed leader total outcome) piece books = granted-tells outcome piece books
  unheard-tells (Ready leader total outcome) piece books = granted-tells outcome piece books
  unheard-tells (Told total outcome remaining) piece books = granted-tells outcome piece books
  unheard-tells (Emptied last) piece books = refl

  member-tells : (phase : GroupPhase) (piece : Piece) (step : MemberStep) (books : Books) → tell (member_books phase piece step books) ≡ tell books
  member-tells phase piece Closes books = unheard-tells phase piece books
  member-tells phase piece Waits books = unheard-tells phase piece books
  member-tells phase piece (Hears refused total) books = unheard-tells phase piece books
  member-tells phase piece (Places total closed) books = unheard-tells phase piece books
  member-tells phase piece (Stores total base) books = unheard-tells phase piece books
  member-tells phase piece (Tells total outcome) books = unheard-tells phase piece books
  member-tells phase piece (Fills base units) books = refl
  member-tells phase piece (Leaves tail durable) books = refl

  call-tells : (groups : ℕ → Group) (call : Call) (books : Books) → tell (books_in groups call books) ≡ tell books
  call-tells groups Idle books = refl
  call-tells groups (Filling entry) books = refl
  call-tells groups (Joined slot piece step) books = member-tells (groups slot).phase piece step books
  call-tells groups (Emptying slot base total) books = refl
  call-tells groups (Marked after) books = refl
  call-tells groups (Holding at after) books = refl
  call-tells groups (Raising from to after) books = refl
  call-tells groups (Reopening slot) books = refl

pub held-books_in : (groups : ℕ → Group) (call : Call) (books : Books) → (books_in groups call books).held ≡ books.held
held-books_in = call-tells (λ (books : Books). books.held) (λ _ _ _. refl)

pub jobs-books_in : (groups : ℕ → Group) (call : Call) (books : Books) → (books_in groups call books).jobs ≡ books.jobs
jobs-books_in = call-tells (λ (books : Books). books.jobs) (λ _ _ _. refl)

pub half-books_in : (groups : ℕ → Group) (call : Call) (books : Books) → (books_in groups call books).half ≡ books.half
half-books_in = call-tells (λ (books : Books). books.half) (λ _ _ _. refl)
