-- The flusher's seat takes in the seat of a worker that has ended, or a note.
use Rattle.std.proofs.Common.{◌≡◌, ◌≢◌, ◌==◌, ◌⊎◌, inl, inr, ⊎_elim, ℕ, zero, suc, ◌+◌, true, false, true≢false, List, [], ◌∷◌, ◌++◌, length, map, set, sym, refl, ap, ◌∙◌, subst, arith, append-nil}
use mathlib.Core.Option.{some}
use lib.ListN.{get_elem?}
use Rattle.atomic_table.specs.Table.{Joins}
use Rattle.atomic_table.proofs.Lists.{at_set}
use Rattle.lock_core.specs.History.{history_from}
use Rattle.lsn_space.proofs.TilingLemmas.{all-weaken, all-append}
use Rattle.log_rule.specs.declared.view.Books.{Books}
use Rattle.log_rule.specs.Accounts.{KeepsAccounts}
use Rattle.log_rule.specs.Books.{no_books, merging}
use Rattle.log_rule.proofs.GatheredSeats.{join-keeps_accounts}
use Rattle.log_rule.specs.declared.start.Start.{Start}
use Rattle.log_rule.specs.declared.view.Call.TheVariants.{Idle}
use Rattle.log_rule.specs.declared.view.View.{View}
use Rattle.log_rule.specs.Log.{Part, Log, ranges_of, parts_of, SpellsRecord, StandsInRing, IsFullIfReleased, IsReleasedBelow, CountsRemaining, AgreesFrom, EndsWithPart}
use Rattle.log_rule.specs.Marks.{Carries, HasTrueEnds}
use Rattle.log_rule.specs.May.{MayMerge}
use Rattle.log_rule.specs.Members.{LoadsForGroup, AwaitsPlace, HasTotalOfWorkers, IsRefusalOf, HeardOfWorkers, SawLast, HasSeenLast}
use Rattle.log_rule.specs.Sound.{HasSeenBoundaries, SendsIfFlusher, StoresStop, HasReadStop, LookedIfQuiet, HasWorkingOwner, HasConstants}
use Rattle.log_rule.specs.Sound.{RestsUnlessActive, OwnsIfWorker, HoldsIfActive, base_of, history_in, books_of, IsSound, Ruled, EachView, EachPair}
use Rattle.log_rule.specs.Sound.{HasSoundRole, HasSoundRoles, HasSoundCrew, Knows, Lacks, is_active_view}
use Rattle.log_rule.specs.Roles.{is_active, has_ended, is_worker, is_spent}
use Rattle.log_rule.specs.Slots.{pieces_at, phase_at}
use Rattle.log_rule.specs.Views.{nobody, entries_in, claims_in}
use Rattle.log_rule.specs.CrewViews.{takes_in}
use Rattle.log_rule.specs.Words.{Words, words_in}
use Rattle.log_rule.proofs.Carriers.{carrier-set, true_ends-log_changes}
use Rattle.log_rule.proofs.CrewMerging.{has_ended-not_active, ended-unspent, other_seat-not_flusher, without, at-without, each-merged, merge-sound_crew}
use Rattle.log_rule.proofs.AccountsKept.{books-at, books-set}
use Rattle.log_rule.proofs.Members.{among-max, heard_of_workers-set}
use Rattle.log_rule.proofs.Renaming.{rename, own-renamed_merged, own-renamed-from, own-renamed-else, all-renamed, laid-renamed, unreleased_in-renamed, boundary-renamed, records-renamed}
use Rattle.log_rule.proofs.Roles.{rests_if_quiet-set}
use Rattle.log_rule.proofs.Stopping.{cond-zero_or_stop}
use Rattle.log_rule.proofs.ViewChanges.{each_seat-set_weaken, each_seat-at, each_pair-set}

set-swap : (views : List View) (a b : ℕ) (x y : View) → a ≢ b → set (set views a x) b y ≡ set (set views b y) a x
set-swap [] a b x y differ = refl
set-swap (z ∷ zs) zero zero x y differ = absurd (differ refl)
set-swap (z ∷ zs) zero (suc b) x y differ = refl
set-swap (z ∷ zs) (suc a) zero x y differ = refl
set-swap (z ∷ zs) (suc a) (suc b) x y differ = ap (λ l. z ∷ l) (set-swap zs a b x y (λ e. differ (ap suc e)))

module _ (key : Start) (words : Words) (views : List View) (me other : ℕ) (v o : View) (log : Log) (s : IsSound key words views log)
    (at : get_elem? views me ≡ some v) (there : get_elem? views other ≡ some o) (apart : other ≢ me) (may : MayMerge v o) where
  abbrev new : View
  new = takes_in v o

  idle : v.call ≡ Idle
  idle = s.resting me v at (ap is_active may.flusher)

  idle' : o.call ≡ Idle
  idle' = s.resting other o there (has_ended-not_active o.standing.role may.ended)

  mine : HasWorkingOwner log.groups log.parts log.ahead me v
  mine = each_seat-at (HasWorkingOwner log.groups log.parts log.ahead) views me v at s.owners

  his : HasWorkingOwner log.groups log.parts log.ahead other o
  his = each_seat-at (HasWorkingOwner log.groups log.parts log.ahead) views other o there s.owners

  abbrev parts : List Part
  parts = rename other me log.parts

  abbrev after : Log
  after = record { parts = parts; flushed = log.flushed; exposed = log.exposed; ahead = log.ahead; groups = log.groups }

  -- between the two changes of the views, a seat is the spent one or has its old parts
  abbrev Half : ℕ → View → Type 0
  Half j z = ((j ≡ other) × HasWorkingOwner log.groups parts log.ahead j z) ⊎ ((j ≢ other) × HasWorkingOwner log.groups log.parts log.ahead j z)

  owners : Rattle.log_rule.specs.Sound.EachSeat (HasWorkingOwner log.groups parts log.ahead) (set (without views other) me new)
  owners = each_seat-set_weaken Half (HasWorkingOwner log.groups parts log.ahead) (without views other) me v new (at-without views me other v at apart)
      (each_seat-set_weaken (HasWorkingOwner log.groups log.parts log.ahead) Half views other o nobody there s.owners
      (inl (
        refl,
        record {
          owns = own-renamed-from other me log.parts apart;
          owes = his.owes ∙ ap claims_in idle';
          joins = λ slot. his.joins slot ∙ ap
              (pieces_at slot) idle';
          leads = λ slot. his.leads slot ∙ ap (phase_at other slot) idle';
          knows = tt;
        },
      ))
      (λ j z differ h. inr (differ, h)))
      record {
        owns = own-renamed_merged other me _ _ log.parts v.entries o.entries s.contiguous.parts apart
            (mine.owns ∙ (ap (λ c. parts_of me true v.entries ++ parts_of me false (entries_in log.groups c)) idle ∙ append-nil _))
            (his.owns ∙ (ap (λ c. parts_of other true o.entries ++ parts_of other false (entries_in log.groups c)) idle' ∙ append-nil _))
            ∙ (sym (append-nil _) ∙ ap (λ c. parts_of me true new.entries ++ parts_of me false (entries_in log.groups c)) (sym idle));
        owes = mine.owes;
        joins = mine.joins;
        leads = mine.leads;
        knows = mine.knows;
      }
      (λ j z differ h. ⊎_elim (λ (g : (j ≡ other) × HasWorkingOwner log.groups parts log.ahead j z). g.1)
      (λ (g : (j ≢ other) × HasWorkingOwner log.groups log.parts log.ahead j z). record {
        owns = own-renamed-else other me j log.parts g.0 differ
            ∙ g.1.owns;
        owes = g.1.owes;
        joins = g.1.joins;
        leads = g.1.leads;
        knows = g.1.knows;
      }) h)

  sends : (z : View) → SendsIfFlusher key.start words.exposed words.durable log z → SendsIfFlusher key.start words.exposed words.durable after z
  sends z old f = let o = old f in record {
    sent_to = o.sent_to;
    read_to = o.read_to;
    loaded_seen = o.loaded_seen;
    boundary = o.boundary;
    sent_agrees = all-renamed (AgreesFrom key.start z.sending.sent) other me log.parts (λ p h. h) o.sent_agrees;
    read_agrees = all-renamed (AgreesFrom words.durable z.sending.read) other me log.parts (λ p h. h) o.read_agrees;
  }

  abbrev bs : List Books
  bs = map (books_of log.groups) views

  books-merged : map (books_of log.groups) (set (without views other) me new) ≡ set (set bs me (merging v.books o.books)) other no_books
  books-merged = ap (map (books_of log.groups)) (set-swap views other me nobody new apart)
      ∙ (books-set log.groups (set views me new) other nobody refl ∙ ap (λ l. set l other no_books) (books-set log.groups views me new idle))

  accounts-merged : KeepsAccounts (base_of key) words.account (history_in key parts) (map (books_of log.groups) (set (without views other) me new))
  accounts-merged = subst (KeepsAccounts (base_of key) words.account (history_in key parts)) (sym books-merged)
      (subst (λ records. KeepsAccounts (base_of key) words.account (history_from key.start [] records) (set (set bs me (merging v.books o.books)) other no_books))
      (sym (records-renamed other me log.parts))
      (join-keeps_accounts (base_of key) words.account (history_in key log.parts) bs me other v.books o.books apart (books-at log.groups views me v idle at)
      (books-at log.groups views other o idle' there) ((s.unheld other o there).0 (has_ended-not_active o.standing.role may.ended)).0
      ((s.unheld other o there).0 (has_ended-not_active o.standing.role may.ended)).1 s.accounts))

  -- what both heard
  heard-merged : EachPair (λ _ y _ z. HeardOfWorkers y z) (set (without views other) me new)
  heard-merged = each_pair-set (λ _ y _ z. HeardOfWorkers y z) (without views other) me v new (at-without views me other v at apart)
      (heard_of_workers-set views other o nobody s.heard there (λ _ _ f. absurd (cc)) (λ _ _ _. tt))
      (λ f. all-append (IsRefusalOf (length v.standing.made)) v.seen.refusals o.seen.refusals (s.heard me v at me v at f) (s.heard me v at other o there f))
      (λ j z differ here. (
        heard_of_workers-set views other o nobody s.heard there (λ _ _ f. absurd (cc)) (λ _ _ _. tt) me v (at-without views me other v at apart) j z here,
        λ f. other_seat-not_flusher words.crew views me other v o s.roles at there apart may j z differ here f,
      ))

  saw-merged : SawLast v.seen → SawLast o.seen → SawLast new.seen
  saw-merged first second = record {
    tail_among = among-max v.seen.tail o.seen.tail v.seen.lsns o.seen.lsns first.tail_among second.tail_among;
    durable_among = among-max v.seen.durable o.seen.durable v.seen.lsns o.seen.lsns first.durable_among second.durable_among;
    tail_made = first.tail_made;
    durable_made = first.durable_made;
  }

  merges' : IsSound key words (set (without views other) me new) after
  merges' = record {
    ordered = s.ordered;
    seen = each-merged views me other new (λ _ z. HasSeenBoundaries key.start words.tail words.exposed words.durable (ranges_of log) z.seen) s.seen
        record { tail_seen = omega arith; exposed_seen = omega arith; durable_seen = omega arith; boundaries = tt }
        (let a = s.seen me v at in let b = s.seen other o there in record {
          tail_seen = omega (arith, a.tail_seen, b.tail_seen);
          exposed_seen = omega (arith, a.exposed_seen, b.exposed_seen);
          durable_seen = omega (arith, a.durable_seen, b.durable_seen);
          boundaries = all-append _ v.seen.lsns o.seen.lsns a.boundaries b.boundaries;
        });
    contiguous = record {
      to_durable = s.contiguous.to_durable;
      to_exposed = s.contiguous.to_exposed;
      to_tail = s.contiguous.to_tail;
      parts = laid-renamed other me _ _ log.parts s.contiguous.parts;
      remaining = all-weaken (CountsRemaining log.parts) (CountsRemaining parts) log.ahead
          (λ r counts. unreleased_in-renamed other me r.base r.size log.parts ∙ counts) s.contiguous.remaining;
      aligned = all-weaken (EndsWithPart key.start log.parts) (EndsWithPart key.start parts) (ranges_of log)
          (λ r. boundary-renamed other me key.start (r.base + r.size) log.parts) s.contiguous.aligned;
    };
    filled = record {
      spelled = all-renamed SpellsRecord other me log.parts (λ p h. record { spellable = h.spellable; size = h.size; rest = h.rest; units = h.units })
          s.filled.spelled;
      stands = all-renamed (StandsInRing key.ring words.durable words.ring) other me log.parts (λ p h. h) s.filled.stands;
    };
    below = record {
      full = all-renamed IsFullIfReleased other me log.parts (λ p h. h) s.below.full;
      below = all-renamed (IsReleasedBelow words.exposed) other me log.parts (λ p h. h) s.below.below;
      ranges = s.below.ranges;
    };
    at_work = s.at_work;
    slots = s.slots;
    marks = record { current = s.marks.current; true_marks = s.marks.true_marks; below_tail = s.marks.below_tail };
    carried = λ first. carrier-set words.exposed (without views other) me v new (at-without views me other v at apart)
        (λ c. absurd (subst (Carries words.exposed) idle c))
        (carrier-set words.exposed views other o nobody there (λ c. absurd (subst (Carries words.exposed) idle' c)) (s.carried first));
    ends = each-merged views me other new (λ _ z. HasTrueEnds key.start words.exposed after z.call)
        (λ j z here. true_ends-log_changes key.start words.exposed log after z.call (λ _ b. b) (λ _ e. e) (s.ends j z here)) tt
        (true_ends-log_changes key.start words.exposed log after v.call (λ _ b. b) (λ _ e. e) (s.ends me v at));
    owners = owners;
    constants = each-merged views me other new (λ _ z. HasConstants key z) s.constants (λ e. absurd (true≢false e)) (s.constants me v at);
    resting = each-merged views me other new (λ _ z. RestsUnlessActive z) s.resting (λ _. refl) (s.resting me v at);
    entries = each-merged views me other new (λ _ z. OwnsIfWorker z) s.entries (λ _. refl)
        (λ off. absurd (true≢false (sym (ap Rattle.log_rule.specs.Roles.may_own may.flusher) ∙ off)));
    roles = merge-sound_crew words.crew views me other v o s.roles at there apart may;
    sends = each-merged views me other new (λ _ z. SendsIfFlusher key.start words.exposed words.durable after z) (λ j z here. sends z (s.sends j z here))
        (λ f. absurd (cc)) (sends v (s.sends me v at));
    stops = each-merged views me other new (λ _ z. StoresStop words.stop z) s.stops (λ f. absurd (cc)) (s.stops me v at);
    read_stop = each-merged views me other new (λ _ z. HasReadStop words.stop z) s.read_stop (inl refl)
        (cond-zero_or_stop words.stop v.seen.stop o.seen.stop (o.seen.stop == 0) (s.read_stop me v at) (s.read_stop other o there));
    quiet = rests_if_quiet-set (without views other) me v new
        (rests_if_quiet-set views other o nobody s.quiet there (λ _ _ _ _ f. absurd (cc)) (λ _ _ _ _. refl)) (at-without views me other v at apart) (λ _ _ _ h. h) (λ _ h. h);
    looked = each-merged views me other new (λ _ z. LookedIfQuiet words.exposed z) s.looked (λ f. absurd (cc)) (s.looked me v at);
    unheld = each-merged views me other new (λ _ z. HoldsIfActive z) s.unheld ((λ _. (refl, refl)), (λ _. refl))
        ((s.unheld me v at).0, (λ off. absurd (true≢false (sym (ap Rattle.log_rule.specs.Roles.may_own may.flusher) ∙ off))));
    accounts = accounts-merged;
    in_group = s.in_group;
    loads = each-merged views me other new (λ _ z. LoadsForGroup log.groups z.seen z.call) s.loads tt
        (subst (LoadsForGroup log.groups new.seen) (sym idle) tt);
    awaits = each-merged views me other new (λ _ z. AwaitsPlace z.call z.books) s.awaits tt (subst (λ c. AwaitsPlace c new.books) (sym idle) tt);
    totals = each-merged views me other new (λ _ z. (slot : ℕ) → HasTotalOfWorkers (log.groups slot) z) s.totals (λ _ f. absurd (cc)) (s.totals me v at);
    heard = heard-merged;
    lasts = each-merged views me other new (λ _ z. HasSeenLast z) s.lasts (λ e. absurd (true≢false e))
        (λ unspent. saw-merged (s.lasts me v at unspent) (s.lasts other o there (ended-unspent o.standing.role may.ended)));
  }

  pub merge-sound : IsSound key words (set (set views me new) other nobody) after
  merge-sound = subst (λ l. IsSound key words l after) (set-swap views other me nobody new apart) merges'

pub merge-allowed : (key : Start) (seat : ℕ) (v : View) (other : ℕ) (o : View) → MayMerge v o
    → Joins {S = Unit {0}} (Ruled key) seat v other o (takes_in v o) nobody
merge-allowed key seat v other o may s ruled at apart there = (
  ruled.0,
  (
    _,
    merge-sound key (words_in key s.words) s.views seat other v o ruled.1.0 ruled.1.1 at
        (⊎_elim (λ (t : (other ≡ seat) × (takes_in v o ≡ o)). absurd (apart t.0))
        (λ (t : (other ≢ seat) × (get_elem? s.views other ≡ some o)). t.1) (at_set s.views seat other (takes_in v o) o there)) apart may,
  ),
)
