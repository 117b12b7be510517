-- The flusher's seat, and the workers that it hires.
use Rattle.std.proofs.Common.{◌≡◌, ℕ, zero, suc, ◌+◌, ◌≤◌, Bool, true, false, ◌||◌, List, [], ◌∷◌, ◌++◌, add-one, sym, refl, ap, ◌∙◌, arith, eqb, eq-eqb, ne_eqb}
use Rattle.std.proofs.lemmas.Bool.{and_parts, and_from}
use Rattle.std.proofs.lemmas.List.Elements.{Contains-append_left}
use Rattle.std.proofs.lemmas.List.Folds.{list_any-append}
use Rattle.std.specs.List.{list_all, list_any}
use Rattle.log_rule.specs.declared.start.Start.{Start}
use Rattle.log_rule.specs.declared.view.Books.{Books}
use Rattle.log_rule.specs.declared.view.Sending.{Sending}
use Rattle.log_rule.specs.declared.view.View.{View}
use Rattle.log_rule.specs.Books.{merging, no_books}
use Rattle.log_rule.specs.CrewViews.{enrolled, hired, hires, noted, takes_in}
use Rattle.log_rule.proofs.Lists.{or-true_right}
use Rattle.log_table.specs.HiredWorkers.{hired_numbers, KnowsHired}

-- a number is not among those below it
pub hired_numbers-lacks : (n number : ℕ) → n ≤ number → list_any (eqb number) (hired_numbers n) ≡ false
hired_numbers-lacks zero number above = refl
hired_numbers-lacks (suc n) number above =
    (λ i. ne_eqb number n (λ e. absurd (omega arith)) i || hired_numbers-lacks n number (omega arith) i)

true-or : (b c : Bool) → b ≡ true → (b || c) ≡ true
true-or b c is = ap (λ x. x || c) is

knows-push : (enrolled : List ℕ) (number worker : ℕ) → list_any (eqb worker) enrolled ≡ true → list_any (eqb worker) (enrolled ++ number ∷ []) ≡ true
knows-push enrolled number worker knows = list_any-append (eqb worker) enrolled (number ∷ []) ∙ true-or _ _ knows

knows-last : (enrolled : List ℕ) (number : ℕ) → list_any (eqb number) (enrolled ++ number ∷ []) ≡ true
knows-last enrolled number =
    list_any-append (eqb number) enrolled (number ∷ []) ∙ or-true_right _ _ (true-or _ _ (eq-eqb number number refl))

knows_all-push : (enrolled made : List ℕ) (number : ℕ) → list_all (λ worker. list_any (eqb worker) enrolled) made ≡ true
    → list_all (λ worker. list_any (eqb worker) (enrolled ++ number ∷ [])) made ≡ true
knows_all-push enrolled [] number knows = refl
knows_all-push enrolled (worker ∷ made) number knows =
    let both = and_parts (list_any (eqb worker) enrolled) (list_all (λ w. list_any (eqb w) enrolled) made) knows in
    and_from _ _ (knows-push enrolled number worker both.0) (knows_all-push enrolled made number both.1)

-- one more worker is made and known as enrolled
pub knows_all-more : (enrolled made : List ℕ) (number : ℕ) → list_all (λ worker. list_any (eqb worker) enrolled) made ≡ true
    → list_all (λ worker. list_any (eqb worker) (enrolled ++ number ∷ [])) (number ∷ made) ≡ true
knows_all-more enrolled made number knows = and_from _ _ (knows-last enrolled number) (knows_all-push enrolled made number knows)

-- what the flusher's seat knows once it made a worker, which then enrolled, and took in a note of it
abbrev pub after_hire : ℕ → View → View
after_hire number view = takes_in (hires number view) (noted (enrolled (hired number view)))

pub KnowsHired-more : (key : Start) (number : ℕ) (view : View) → KnowsHired key number view → KnowsHired key (number + 1) (after_hire number view)
KnowsHired-more key number view knows = record {
  flusher = knows.flusher;
  made = ap (λ l. number ∷ l) knows.made ∙ ap hired_numbers (sym (add-one number));
  told = knows_all-more view.standing.enrolled view.standing.made number knows.told;
  merged = knows.merged;
  constants = knows.constants;
  sending = ap (λ (sending : Sending). record sending { quiet = false }) knows.sending;
  seen = Contains-append_left view.seen.lsns view.seen.lsns key.start knows.seen;
  entries = knows.entries;
  books = ap (λ (books : Books). merging books no_books) knows.books;
}
