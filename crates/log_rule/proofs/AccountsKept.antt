-- The account part of the rule over the views: a step leaves it that leaves its seat's books and the records of the log.
use Rattle.std.proofs.Common.{◌≡◌, ℕ, ◌+◌, List, [], ◌∷◌, ◌++◌, map, set, sym, refl, ap, ◌∙◌, subst, arith}
use Rattle.std.specs.List.{AllByRecursion}
use mathlib.Core.Option.{some}
use lib.ListN.{get_elem?}
use Rattle.log_record.specs.declared.rec.Rec.{Rec}
use Rattle.log_record.specs.declared.rec.Placed.{Placed}
use Rattle.lock_core.specs.History.{end_from, entry_at, history_from}
use Rattle.log_rule.specs.declared.start.Start.{Start}
use Rattle.log_rule.specs.declared.view.Call.TheVariants.{Idle}
use Rattle.log_rule.specs.declared.view.View.{View}
use Rattle.log_rule.specs.Accounts.{KeepsAccounts}
use Rattle.log_rule.specs.Groups.{Group}
use Rattle.log_rule.specs.Log.{Part, Laid, SpellsRecord, records_in}
use Rattle.log_rule.specs.Sound.{base_of, history_in, books_of}
use Rattle.log_rule.specs.Views.{books_in}
use Rattle.log_rule.specs.Words.{AccountWords}
use Rattle.atomic_table.proofs.Lists.{at_map}
use Rattle.std.proofs.lemmas.List.{map-set}
use Rattle.log_rule.proofs.Bookings.{map-set_same}

pub same_books-keeps_accounts : (key : Start) (words : ℕ → AccountWords) (parts : List Part) (groups : ℕ → Group) (views : List View) (me : ℕ) (v new : View)
    → get_elem? views me ≡ some v → books_of groups new ≡ books_of groups v
    → KeepsAccounts (base_of key) words (history_in key parts) (map (books_of groups) views)
    → KeepsAccounts (base_of key) words (history_in key parts) (map (books_of groups) (set views me new))
same_books-keeps_accounts key words parts groups views me v new at same =
    subst (KeepsAccounts (base_of key) words (history_in key parts)) (sym (map-set_same (books_of groups) views me v new at same))

-- a seat that has nothing under way has its own books
module _ (groups : ℕ → Group) (views : List View) (me : ℕ) (v : View) (idle : v.call ≡ Idle) where
  pub books-at : get_elem? views me ≡ some v → get_elem? (map (books_of groups) views) me ≡ some v.books
  books-at at = at_map (books_of groups) views me v at ∙ ap (λ call. some (books_in groups call v.books)) idle

  pub books-set : map (books_of groups) (set views me v) ≡ set (map (books_of groups) views) me v.books
  books-set = map-set (books_of groups) views me v ∙ ap (λ call. set (map (books_of groups) views) me (books_in groups call v.books)) idle

-- the records of parts of which one changes, but not its record
pub records-mid_replaced : (before behind : List Part) (old new : Part) → new.entry.rec ≡ old.entry.rec
    → records_in (before ++ new ∷ behind) ≡ records_in (before ++ old ∷ behind)
records-mid_replaced [] behind old new same = ap (λ rec. rec ∷ records_in behind) same
records-mid_replaced (part ∷ before) behind old new same = ap (λ records. part.entry.rec ∷ records) (records-mid_replaced before behind old new same)

pub records-push : (parts : List Part) (part : Part) → records_in (parts ++ part ∷ []) ≡ records_in parts ++ part.entry.rec ∷ []
records-push [] part = refl
records-push (p ∷ parts) part = ap (λ records. p.entry.rec ∷ records) (records-push parts part)

pub history-push : (start : ℕ) (h : List Placed) (records : List Rec) (rec : Rec)
    → history_from start h (records ++ rec ∷ []) ≡ entry_at (end_from start (history_from start h records)) rec ∷ history_from start h records
history-push start h [] rec = refl
history-push start h (r ∷ records) rec = history-push start (entry_at (end_from start h) r ∷ h) records rec

-- the list ends where its last part does
pub history-end : (start from to : ℕ) (h : List Placed) (parts : List Part) → end_from start h ≡ from → Laid from parts to
    → AllByRecursion SpellsRecord parts → end_from start (history_from start h (records_in parts)) ≡ to
history-end start from to h [] end laid spelled = end ∙ laid
history-end start from to h (part ∷ parts) end laid spelled =
    history-end start (from + part.entry.size) to (entry_at (end_from start h) part.entry.rec ∷ h) parts
    (let size = spelled.0.size in omega (arith, end, size)) laid.2 spelled.1
