-- The changes of the log, by what the program writes.
use Rattle.std.proofs.Common.{◌≡◌, ◌≢◌, ◌↔◌, ℕ, ◌+◌, ◌<◌, ◌≤◌, Bool, true, false, IsTrue, List, ◌∷◌, [], length, get_or, set, map, Some, zero, suc, refl, sym, ap, ◌∙◌, subst, arith}
use Rattle.std.specs.Bool.{OnTrue, OnFalse}
use Rattle.std.specs.List.{find, slice_get}
use Rattle.std.specs.Option.{IsSomeAnd}
use Rattle.std.proofs.lemmas.Option.{slice_get_read}
use Rattle.lsn_space.specs.declared.lsn.TheConstants.{LAST}
use Rattle.lsn_space.proofs.TilingLemmas.{tiling-within}
use Rattle.ring_core.specs.RingLog.{base_of, size_of, Reservation, RingLog, is_at, HasUnfilled, filled_at, filled, IsFull, released_at, marked}
use Rattle.ring_core.specs.LogLaws.{IsSoundLog}
use Rattle.ring_core.proofs.LookupLemmas.{map_at_base-set, slice_get-all}
use Rattle.ring_core.proofs.LogKeeping.{filled-sound, marked-sound}
use Rattle.ring_core.proofs.RangeLemmas.{found-base, filled_at-same, filled_at-other, released_at-same, released_at-other}

module _ {A : Type 0} where
  set-itself : (xs : List A) (i : ℕ) (x : A) → slice_get xs i ≡ Some x → set xs i x ≡ xs
  set-itself [] i x is = refl
  set-itself (y ∷ ys) zero x is = let same : y ≡ x = cc in ap (λ z. z ∷ ys) (sym same)
  set-itself (y ∷ ys) (suc i) x is = ap (λ l. y ∷ l) (set-itself ys i x is)

-- the reservation at a base is r, which was read at an index
module _ (now l : RingLog) (is : l ≡ now) (sound : IsSoundLog l) (base at : ℕ) (found : find (is_at base) now.reservations
    ≡ slice_get now.reservations at) (within : at < length now.reservations) (r : Reservation) (read : r ≡ get_or l.reservations at r) where
  there : slice_get l.reservations at ≡ Some r
  there = slice_get_read l.reservations (length l.reservations) at r refl (subst (λ z. at < length z.reservations) (sym is) within) read

  pub read-found_at_base : find (is_at base) now.reservations ≡ Some r
  read-found_at_base = found ∙ subst (λ z. slice_get z.reservations at ≡ Some r) is there

  at-base : r.base ≡ base
  at-base = found-base base now.reservations r read-found_at_base

  written : (f : Reservation → Reservation) → ((q : Reservation) → q.base ≢ base → f q ≡ q) → (r' : Reservation) → r' ≡ f r → set l.reservations at r' ≡ map f now.reservations
  written f others r' same = ap (set l.reservations at) same
      ∙ sym (map_at_base-set l.start l.tail _ f l.reservations at r sound.tiles sound.sizes there (λ q differs. others q (λ e. differs (e ∙ sym at-base))))
      ∙ ap (λ (z : RingLog). map f z.reservations) is

  -- what is true of the one read is true of the one at the base
  pub read_decided-found_decided : (P : Reservation → Type 0) (b : Bool) → IsTrue b ↔ P r → IsTrue b ↔ IsSomeAnd (find (is_at base) now.reservations) P
  read_decided-found_decided P b is_so = (
    (λ yes. subst (λ o. IsSomeAnd o P) (sym read-found_at_base) (is_so.0 yes)),
    (λ has. is_so.1 (subst (λ o. IsSomeAnd o P) read-found_at_base has)),
  )

  pub writes-filled : (b : Bool) (r' : Reservation) → OnTrue b (r' ≡ record r { filled = r.filled + 1 }) → OnTrue b (record l { reservations = set l.reservations at r' } ≡ filled now base)
  writes-filled true r' more = λ i. record (is i) { reservations = written (filled_at base) (filled_at-other base) r' (more ∙ sym (filled_at-same base r at-base)) i }
  writes-filled false r' more = more

  pub writes-marked : (b : Bool) (r' : Reservation) → OnTrue b (r' ≡ record r { released = true }) → OnTrue b (record l { reservations = set l.reservations at r' } ≡ marked now base)
  writes-marked true r' closed = λ i. record (is i) { reservations = written (released_at base) (released_at-other base) r' (closed ∙ sym (released_at-same base r at-base)) i }
  writes-marked false r' closed = closed

  pub writes-nothing : (b : Bool) (r' : Reservation) → OnFalse b (r' ≡ r) → OnFalse b (record l { reservations = set l.reservations at r' } ≡ now)
  writes-nothing true r' same = same
  writes-nothing false r' same = (λ i. record l { reservations = (ap (set l.reservations at) same ∙ set-itself l.reservations at r there) i }) ∙ is

  -- the end lies in the log
  pub reservation_end-within_log : r.base + r.size ≤ LAST
  reservation_end-within_log = let in_log = slice_get-all _ l.reservations at r there (tiling-within base_of size_of l.start l.reservations l.tail sound.tiles) in
      omega (arith, in_log.1, sound.within_log)

-- a log that was changed where it may be is sound
changes-soundly : (may : Type 0) (b : Bool) (old after new : RingLog) → IsTrue b ↔ may → OnTrue b (new ≡ after) → OnFalse b (new ≡ old) → IsSoundLog old → (may → IsSoundLog after) → IsSoundLog new
changes-soundly may true old after new is_so done none sound keeps = subst IsSoundLog (sym done) (keeps (is_so.0 refl))
changes-soundly may false old after new is_so done none sound keeps = subst IsSoundLog (sym none) sound

pub fills-soundly : (b : Bool) (old new : RingLog) (base : ℕ) → IsTrue b ↔ IsSomeAnd (find (is_at base) old.reservations) HasUnfilled → OnTrue b (new
    ≡ filled old base) → OnFalse b (new ≡ old) → IsSoundLog old → IsSoundLog new
fills-soundly b old new base is_so done none sound = changes-soundly _ b old (filled old base) new is_so done none sound (filled-sound old base sound)

pub marks-soundly : (b : Bool) (old new : RingLog) (base : ℕ) → IsTrue b ↔ IsSomeAnd (find (is_at base) old.reservations) IsFull → OnTrue b (new
    ≡ marked old base) → OnFalse b (new ≡ old) → IsSoundLog old → IsSoundLog new
marks-soundly b old new base is_so done none sound = changes-soundly _ b old (marked old base) new is_so done none sound (marked-sound old base sound)
