-- Changes of the one reservation at a base.
use Rattle.std.proofs.Common.{◌≡◌, ◌≢◌, ◌⊎◌, inl, inr, ⊎_elim, ℕ, ◌==◌, ◌+◌, ◌<◌, ◌≤◌, cond, true, List, map, Option, Some, None, refl, sym, ap, subst, arith, eq-eqb, eqb-true, ne_eqb}
use Rattle.std.specs.List.{AllByRecursion, find}
use Rattle.std.specs.Option.{IsSomeAnd, option_map}
use Rattle.lsn_space.specs.Tiling.{IsTiling}
use Rattle.lsn_space.proofs.TilingLemmas.{found-passes, all-found, find-map, all-both, all-map, tiling-found_or_apart}
use Rattle.ring_core.specs.RingLog.{base_of, size_of, Reservation, is_at, filled_at, released_at}

-- q lies before r or behind it
pub record IsBeside (r q : Reservation) : Type 0 where
  pub differs : q.base ≢ r.base
  pub side : (q.base < r.base) ⊎ (r.base + r.size ≤ q.base)

abbrev pub IsAllowed : ℕ → Reservation → Type 0
IsAllowed most r = (1 ≤ r.size) × (r.size ≤ most)

-- each reservation is the one that is found, or lies beside it
pub found-beside : (from to most base : ℕ) (rs : List Reservation) (r : Reservation) → IsTiling base_of size_of from rs to → AllByRecursion
    (IsAllowed most) rs → find (is_at base) rs ≡ Some r → AllByRecursion (λ q. (q ≡ r) ⊎ IsBeside r q) rs
found-beside from to most base rs r tiles sizes is =
    let positive = all-found (IsAllowed most) (is_at base) rs r is sizes in all-both _ _ _ rs
    (λ q size apart. ⊎_elim inl (λ sides. inr (⊎_elim
    (λ before. record { differs = λ same. omega (arith, size.0); side = inl (omega (arith, size.0)) })
    (λ behind. record { differs = λ same. omega (arith, positive.0); side = inr behind }) sides)) apart)
    sizes (tiling-found_or_apart base_of size_of from rs to (is_at base) r tiles is)

-- the one that is found changes, and those beside it do not
pub all-map_at_found : (P Q : Reservation → Type 0) (f : Reservation → Reservation) (rs : List Reservation) (r : Reservation) → AllByRecursion (λ q.
    (q ≡ r) ⊎ IsBeside r q) rs → Q (f r) → ((q : Reservation) → IsBeside r q → P q → Q (f q)) → AllByRecursion P rs → AllByRecursion Q (map f rs)
all-map_at_found P Q f rs r besides now others all = all-map Q f rs (all-both _ _ _ rs
    (λ q beside p. ⊎_elim (λ same. subst (λ z. Q (f z)) (sym same) now) (λ side. others q side p) beside) besides all)

pub filled_at-same : (base : ℕ) (q : Reservation) → q.base ≡ base → filled_at base q ≡ record q { filled = q.filled + 1 }
filled_at-same base q same = ap (λ b. record q { filled = cond b (q.filled + 1) q.filled }) (eq-eqb q.base base same)

pub filled_at-other : (base : ℕ) (q : Reservation) → q.base ≢ base → filled_at base q ≡ q
filled_at-other base q differ = ap (λ b. record q { filled = cond b (q.filled + 1) q.filled }) (ne_eqb q.base base differ)

pub released_at-same : (base : ℕ) (q : Reservation) → q.base ≡ base → released_at base q ≡ record q { released = true }
released_at-same base q same = ap (λ b. record q { released = cond b true q.released }) (eq-eqb q.base base same)

pub released_at-other : (base : ℕ) (q : Reservation) → q.base ≢ base → released_at base q ≡ q
released_at-other base q differ = ap (λ b. record q { released = cond b true q.released }) (ne_eqb q.base base differ)

pub some_and-map : (P : Reservation → Type 0) (f : Reservation → Reservation) (o : Option Reservation) → IsSomeAnd o (λ r. P (f r)) → IsSomeAnd (option_map f o) P
some_and-map P f None is = is
some_and-map P f (Some r) is = is

pub some_and-some : (P : Reservation → Type 0) (o : Option Reservation) → IsSomeAnd o P → (r : Reservation) × (o ≡ Some r) × P r
some_and-some P None is = absurd is
some_and-some P (Some r) is = (r, refl, is)

-- what is found at a base starts there
pub found-base : (base : ℕ) (rs : List Reservation) (r : Reservation) → find (is_at base) rs ≡ Some r → r.base ≡ base
found-base base rs r is = eqb-true r.base base (found-passes (is_at base) rs r is)

-- what is found at a place, after a change of one reservation that leaves its base
pub find_at-map : (f : Reservation → Reservation) (place : ℕ) (rs : List Reservation) → ((q : Reservation) → (f q).base ≡ q.base) → find (is_at place) (map f rs) ≡ option_map f (find (is_at place) rs)
find_at-map f place rs bases = find-map (is_at place) f rs (λ q i. bases q i == place)
