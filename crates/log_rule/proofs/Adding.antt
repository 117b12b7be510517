-- A seat is added that owns nothing and has nothing under way.
use Rattle.std.proofs.Common.{◌≡◌, ℕ, zero, suc, List, [], ◌∷◌, ◌++◌, map, length, get_or, refl, sym, ap, ◌∙◌, subst}
use Rattle.log_rule.specs.declared.start.Start.{Start}
use Rattle.log_rule.specs.declared.view.Call.TheVariants.{Idle}
use Rattle.log_rule.specs.declared.view.Role.TheVariants.{Flusher}
use Rattle.log_rule.specs.declared.view.View.{View}
use Rattle.log_rule.specs.Log.{Log, ranges_of, parts_of}
use Rattle.log_rule.specs.Sound.{EachView, EachPair, HasSeenBoundaries, SendsIfFlusher, StoresStop, HasReadStop, RestsIfQuiet, LookedIfQuiet}
use Rattle.log_rule.specs.Sound.{HasWorkingOwner, HasConstants, RestsUnlessActive, OwnsIfWorker, HoldsIfActive, HasSoundCrew, IsSound, base_of}
use Rattle.log_rule.specs.Sound.{history_in, books_of}
use Rattle.log_rule.specs.declared.view.Books.{Books}
use Rattle.log_rule.specs.Accounts.{KeepsAccounts}
use Rattle.log_rule.specs.Books.{no_books}
use Rattle.log_rule.specs.Marks.{HasTrueEnds}
use Rattle.log_rule.specs.Members.{LoadsForGroup, AwaitsPlace, HasTotalOfWorkers, HeardOfWorkers, HasSeenLast}
use Rattle.log_rule.specs.Slots.{pieces_at, phase_at, KnowsGroup}
use Rattle.log_rule.specs.Views.{nobody, entries_in, books_in, claims_in}
use Rattle.log_rule.specs.Words.{Words}
use Rattle.log_rule.proofs.Carriers.{carrier-push}
use Rattle.log_rule.proofs.GatheredSeats.{add_nobody-keeps_accounts}
use Rattle.log_rule.proofs.ViewChanges.{each_view-push, each_pair-push}
use Rattle.std.proofs.lemmas.List.{map-append}

-- a seat that was not made counts as nobody's, before and after one like it is made
nobody-more : (views : List View) (new : View) (P : ℕ → View → Type 0) (j : ℕ) → P (length views) new → P j (get_or views j nobody)
    → P j (get_or (views ++ new ∷ []) j nobody)
nobody-more [] new P zero fresh p = fresh
nobody-more [] new P (suc j) fresh p = p
nobody-more (x ∷ xs) new P zero fresh p = p
nobody-more (x ∷ xs) new P (suc j) fresh p = nobody-more xs new (λ k. P (suc k)) j fresh p

nobody-there : (views : List View) → get_or views (length views) nobody ≡ nobody
nobody-there [] = refl
nobody-there (x ∷ xs) = nobody-there xs

module _ (key : Start) (words : Words) (views : List View) (log : Log) (s : IsSound key words views log) (new : View) (entries : new.entries ≡ [])
    (call : new.call ≡ Idle) (not-flusher : new.standing.role ≡ Flusher → ⊥)
    (sees : HasSeenBoundaries key.start words.tail words.exposed words.durable (ranges_of log) new.seen)
    (read : HasReadStop words.stop new) (constants : HasConstants key new)
    (roles : HasSoundCrew words.crew (views ++ new ∷ [])) (quiet : EachPair (λ _ y _ z. RestsIfQuiet y z) (views ++ new ∷ []))
    (books : new.books ≡ no_books) (hears : EachView (λ _ z. HeardOfWorkers z new) views) (last : HasSeenLast new) where
  pub add_seat-sound : IsSound key words (views ++ new ∷ []) log
  add_seat-sound = record {
    ordered = s.ordered;
    seen = each_view-push (λ _ z. HasSeenBoundaries key.start words.tail words.exposed words.durable (ranges_of log) z.seen)
        (λ _ z. HasSeenBoundaries key.start words.tail words.exposed words.durable (ranges_of log) z.seen) views new s.seen sees (λ _ _ _ p. p);
    contiguous = s.contiguous;
    filled = s.filled;
    below = s.below;
    at_work = s.at_work;
    slots = s.slots;
    marks = s.marks;
    carried = λ first. carrier-push words.exposed views new (s.carried first);
    ends = each_view-push (λ _ z. HasTrueEnds key.start words.exposed log z.call) (λ _ z. HasTrueEnds key.start words.exposed log z.call) views new
        s.ends (subst (HasTrueEnds key.start words.exposed log) (sym call) tt) (λ _ _ _ p. p);
    owners = λ j. nobody-more views new (HasWorkingOwner log.groups log.parts log.ahead) j
        (let none = subst (HasWorkingOwner log.groups log.parts log.ahead (length views)) (nobody-there views) (s.owners (length views)) in record {
          owns = none.owns ∙ (λ i. parts_of (length views) Rattle.std.proofs.Common.true (sym entries i)
              ++ parts_of (length views) Rattle.std.proofs.Common.false (entries_in log.groups (sym call i)));
          owes = none.owes ∙ ap claims_in (sym call);
          joins = λ slot. none.joins slot ∙ ap (pieces_at slot) (sym call);
          leads = λ slot. none.leads slot ∙ ap (phase_at (length views) slot) (sym call);
          knows = subst (KnowsGroup log.groups) (sym call) tt;
        }) (s.owners j);
    constants = each_view-push (λ _ z. HasConstants key z) (λ _ z. HasConstants key z) views new s.constants constants (λ _ _ _ p. p);
    resting = each_view-push (λ _ z. RestsUnlessActive z) (λ _ z. RestsUnlessActive z) views new s.resting (λ _. call) (λ _ _ _ p. p);
    entries = each_view-push (λ _ z. OwnsIfWorker z) (λ _ z. OwnsIfWorker z) views new s.entries (λ _. entries) (λ _ _ _ p. p);
    roles = roles;
    sends = each_view-push (λ _ z. SendsIfFlusher key.start words.exposed words.durable log z)
        (λ _ z. SendsIfFlusher key.start words.exposed words.durable log z) views new s.sends (λ f. absurd (not-flusher f)) (λ _ _ _ p. p);
    stops = each_view-push (λ _ z. StoresStop words.stop z) (λ _ z. StoresStop words.stop z) views new s.stops (λ f. absurd (not-flusher f))
        (λ _ _ _ p. p);
    read_stop = each_view-push (λ _ z. HasReadStop words.stop z) (λ _ z. HasReadStop words.stop z) views new s.read_stop read (λ _ _ _ p. p);
    quiet = quiet;
    looked = each_view-push (λ _ z. LookedIfQuiet words.exposed z) (λ _ z. LookedIfQuiet words.exposed z) views new s.looked
        (λ f. absurd (not-flusher f)) (λ _ _ _ p. p);
    unheld = each_view-push (λ _ z. HoldsIfActive z) (λ _ z. HoldsIfActive z) views new s.unheld (
      (λ _. (
        ap (λ (b : Books). b.held) books,
        ap (λ
            (b : Books). b.half) books,
      )),
      (λ _. ap (λ (b : Books). b.jobs) books),
    ) (λ _ _ _ p. p);
    accounts = subst (KeepsAccounts (base_of key) words.account (history_in key log.parts))
        (sym (map-append (books_of log.groups) views (new ∷ [])
        ∙ (λ i. map (books_of log.groups) views ++ books_in log.groups (call i) (books i) ∷ [])))
        (add_nobody-keeps_accounts (base_of key) words.account (history_in key log.parts) (map (books_of log.groups) views) s.accounts);
    in_group = s.in_group;
    loads = each_view-push (λ _ z. LoadsForGroup log.groups z.seen z.call) (λ _ z. LoadsForGroup log.groups z.seen z.call) views new s.loads
        (subst (LoadsForGroup log.groups new.seen) (sym call) tt) (λ _ _ _ p. p);
    awaits = each_view-push (λ _ z. AwaitsPlace z.call z.books) (λ _ z. AwaitsPlace z.call z.books) views new s.awaits
        (subst (λ c. AwaitsPlace c new.books) (sym call) tt) (λ _ _ _ p. p);
    totals = each_view-push (λ _ z. (slot : ℕ) → HasTotalOfWorkers (log.groups slot) z) (λ _ z. (slot : ℕ) → HasTotalOfWorkers (log.groups slot) z) views new
        s.totals (λ _ f. absurd (not-flusher f)) (λ _ _ _ p. p);
    heard = each_pair-push (λ _ y _ z. HeardOfWorkers y z) views new s.heard (λ f. absurd (not-flusher f))
        (λ j z there. ((λ f. absurd (not-flusher f)), hears j z there));
    lasts = each_view-push (λ _ z. HasSeenLast z) (λ _ z. HasSeenLast z) views new s.lasts last (λ _ _ _ p. p);
  }
