-- The balance of an account is loaded, whose word the seat has taken.
use Rattle.std.proofs.Common.{◌≡◌, ℕ, List, set, ap, subst, arith}
use mathlib.Core.Option.{some}
use lib.ListN.{get_elem?}
use Rattle.log_record.specs.declared.rec.Placed.{Placed}
use Rattle.lock_core.specs.Sums.{BaseState}
use Rattle.lsn_space.proofs.ListLemmas.{summed-set}
use Rattle.log_rule.specs.declared.view.Taken.{Taken}
use Rattle.log_rule.specs.declared.view.Half.TheVariants.{Taking}
use Rattle.log_rule.specs.declared.view.Books.{Books}
use Rattle.log_rule.specs.Books.{times_half, times_holding, times_taken, taking}
use Rattle.log_rule.specs.Accounts.{IsMarked, IsAsTaken, IsHalf, Follows, HalfFollows, AccountsFollowList, KeepsAccounts}
use Rattle.log_rule.specs.Words.{AccountWords}
use Rattle.log_rule.proofs.Bookings.{everywhere-set}
use Rattle.log_rule.proofs.Taking.{distinct_jobs-before_set, AllTaken, HoldsByHalf, FollowsByHalf, Lasts, Ties, RunsPartly, FollowsAll, AllWentBack, LastIsOne}

module _ (base : BaseState) (words : ℕ → AccountWords) (h : List Placed) (all : List Books) (me : ℕ) (mine : Books) (at : get_elem? all me ≡ some mine)
    (account last_commit n : ℕ) (half : mine.half ≡ Taking account last_commit) (is : (words account).balance ≡ n) where
  abbrev loaded : Taken
  loaded = record { account = account; balance = n; last_commit = last_commit }

  abbrev new : Books
  new = taking loaded mine

  -- what is known of the account by half is then known of it as one that is held
  now-taken : IsHalf base.accounts words mine.placed mine.half → IsAsTaken base.accounts words loaded
  now-taken old = let marked : IsMarked base.accounts words account last_commit = subst (IsHalf base.accounts words mine.placed) half old in
      record { marked = marked; balance = is }

  now-follows : HalfFollows base words h mine.placed mine.half → Follows base h mine.placed loaded
  now-follows old = subst (λ (k : ℕ). Follows base h mine.placed (record { account = account; balance = k; last_commit = last_commit })) is
      (subst (HalfFollows base words h mine.placed) half old)

  pub load_balance-keeps_accounts : KeepsAccounts base words h all → KeepsAccounts base words h (set all me new)
  load_balance-keeps_accounts s = record {
    holder = record {
      few = s.holder.few;
      words_are = s.holder.words_are;
      counts = λ other below. let sum = summed-set (times_holding other) all me mine new at in let was = ap (times_half other) half in
          let count = s.holder.counts other below in omega arith;
      taken = everywhere-set (AllTaken base.accounts words) all me new s.holder.taken (now-taken (s.holder.half me mine at), s.holder.taken me mine at);
      half = everywhere-set (HoldsByHalf base.accounts words) all me new s.holder.half tt;
      last = everywhere-set (LastIsOne base.accounts) all me new s.holder.last (s.holder.last me mine at);
    };
    follows = λ distinct. follow (s.follows (distinct_jobs-before_set base words h all me mine at new (λ number. omega arith) distinct));
  }
    where
      follow : AccountsFollowList base words h all → AccountsFollowList base words h (set all me new)
      follow f = record {
        lawful = f.lawful;
        range = f.range;
        placed = everywhere-set (Ties h) all me new f.placed (f.placed me mine at);
        last = everywhere-set Lasts all me new f.last (f.last me mine at);
        free = f.free;
        held = everywhere-set (FollowsAll base h) all me new f.held (now-follows (f.half me mine at), f.held me mine at);
        half = everywhere-set (FollowsByHalf base words h) all me new f.half tt;
        given = everywhere-set (AllWentBack base h) all me new f.given (f.given me mine at);
        runs = everywhere-set (RunsPartly base h) all me new f.runs (f.runs me mine at);
        others = λ number none. f.others number (let sum = summed-set (λ (books : Books). times_taken number books.jobs) all me mine new at in omega arith);
      }
