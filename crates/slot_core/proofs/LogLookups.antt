-- What is found at a base after a change of the log, and what stays true of places where nothing changed.
use Rattle.std.proofs.Common.{◌≡◌, ◌≢◌, ℕ, ◌==◌, ◌<◌, cond, Bool, true, false, List, [], ◌∷◌, ◌++◌, map, IsSomeAnd, Option, Some, None, refl, sym, ap, ◌∙◌, subst, arith, ne_eqb}
use Rattle.std.specs.List.{AllByRecursion, find}
use Rattle.std.specs.Option.{option_map}
use Rattle.lsn_space.proofs.TilingLemmas.{find-map}
use Rattle.ring_core.specs.RingLog.{Reservation, RingLog, is_at, fresh, filled_at, IsFull, released_at}
use Rattle.ring_core.specs.LogLaws.{IsSoundLog}
use Rattle.ring_core.proofs.RangeLemmas.{found-base, filled_at-other, released_at-other}
use Rattle.ring_core.proofs.LogKeeping.{bases-below_tail}
use Rattle.slot_core.specs.Owners.{is_open}

-- nothing is found at the tail
pub tail-absent : (l : RingLog) → IsSoundLog l → find (is_at l.tail) l.reservations ≡ None
tail-absent l sound = none-found l.reservations (bases-below_tail l sound)
  where
    none-found : (rs : List Reservation) → AllByRecursion (λ (r : Reservation). r.base < l.tail) rs → find (is_at l.tail) rs ≡ None
    none-found [] all = refl
    none-found (r ∷ rs) all = ap (λ b. cond b (Some r) (find (is_at l.tail) rs)) (ne_eqb r.base l.tail (λ e. let lt = all.0 in omega (arith, lt, e))) ∙ none-found rs all.1

-- after a reservation the same is found elsewhere
pub push-else : (b t n : ℕ) (rs : List Reservation) → b ≢ t → find (is_at b) (rs ++ fresh t n ∷ []) ≡ find (is_at b) rs
push-else b t n [] ne = ap (λ x. cond x (Some (fresh t n)) None) (ne_eqb t b (λ e. ne (sym e)))
push-else b t n (r ∷ rs) ne = ap (λ o. cond (r.base == b) (Some r) o) (push-else b t n rs ne)

pub found-filled : (base b : ℕ) (rs : List Reservation) → find (is_at b) (map (filled_at base) rs) ≡ option_map (filled_at base) (find (is_at b) rs)
found-filled base b rs = find-map (is_at b) (filled_at base) rs (λ z. refl)

pub found-released : (base b : ℕ) (rs : List Reservation) → find (is_at b) (map (released_at base) rs) ≡ option_map (released_at base) (find (is_at b) rs)
found-released base b rs = find-map (is_at b) (released_at base) rs (λ z. refl)

-- a change of the reservation at one base leaves what is found at another
found-else : (f : Reservation → Reservation) (base b : ℕ) (rs : List Reservation) → ((q : Reservation) → q.base ≢ base → f q ≡ q) → b ≢ base → option_map f (find (is_at b) rs) ≡ find (is_at b) rs
found-else f base b rs others ne = by_found (find (is_at b) rs) refl
  where
    by_found : (o : Option Reservation) → find (is_at b) rs ≡ o → option_map f o ≡ o
    by_found None is = refl
    by_found (Some r) is = ap Some (others r (λ e. ne (sym (found-base b rs r is) ∙ e)))

pub filled-else : (rs : List Reservation) (base b : ℕ) → b ≢ base → find (is_at b) (map (filled_at base) rs) ≡ find (is_at b) rs
filled-else rs base b ne = found-filled base b rs ∙ found-else (filled_at base) base b rs (filled_at-other base) ne

pub marked-else : (rs : List Reservation) (base b : ℕ) → b ≢ base → find (is_at b) (map (released_at base) rs) ≡ find (is_at b) rs
marked-else rs base b ne = found-released base b rs ∙ found-else (released_at base) base b rs (released_at-other base) ne

-- a full reservation stays full
pub full-pushed : (rs : List Reservation) (new : Reservation) (b : ℕ) → IsSomeAnd (find (is_at b) rs) IsFull → IsSomeAnd (find (is_at b) (rs ++ new ∷ [])) IsFull
full-pushed [] new b is = absurd is
full-pushed (r ∷ rs) new b is = by_test (r.base == b) is (full-pushed rs new b)
  where
    by_test : (t : Bool) → IsSomeAnd (cond t (Some r) (find (is_at b) rs)) IsFull → (IsSomeAnd (find (is_at b) rs) IsFull → IsSomeAnd (find (is_at b)
        (rs ++ new ∷ [])) IsFull) → IsSomeAnd (cond t (Some r) (find (is_at b) (rs ++ new ∷ []))) IsFull
    by_test true is rest = is
    by_test false is rest = rest is

pub full-marked : (rs : List Reservation) (base b : ℕ) → IsSomeAnd (find (is_at b) rs) IsFull → IsSomeAnd (find (is_at b) (map (released_at base) rs)) IsFull
full-marked rs base b is = subst (λ o. IsSomeAnd o IsFull) (sym (found-released base b rs)) (by_found (find (is_at b) rs) is)
  where
    by_found : (o : Option Reservation) → IsSomeAnd o IsFull → IsSomeAnd (option_map (released_at base) o) IsFull
    by_found None is = is
    by_found (Some r) is = is

pub open-filled : (rs : List Reservation) (base b : ℕ) → is_open (find (is_at b) (map (filled_at base) rs)) ≡ is_open (find (is_at b) rs)
open-filled rs base b = ap is_open (found-filled base b rs) ∙ by_found (find (is_at b) rs)
  where
    by_found : (o : Option Reservation) → is_open (option_map (filled_at base) o) ≡ is_open o
    by_found None = refl
    by_found (Some r) = refl
