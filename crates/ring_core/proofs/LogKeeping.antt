-- Each change of the log keeps its laws, whoever makes it.
use Rattle.std.proofs.Common.{◌≡◌, ◌≢◌, ◌⊎◌, ⊎_elim, ℕ, ◌==◌, ◌+◌, ◌/◌, ◌<◌, ◌≤◌, cond, Bool, true, false, true≢false, List, [], ◌∷◌, ◌++◌, map}
use Rattle.std.proofs.Common.{Option, Some, None, refl, sym, ap, ◌∙◌, subst, arith, le_refl, eq-eqb, eqb-true, ne_eqb}
use Rattle.std.specs.List.{AllByRecursion, find}
use Rattle.std.specs.Option.{IsSomeAnd, option_map, option_map_or}
use Rattle.lsn_space.specs.declared.lsn.TheConstants.{LAST}
use Rattle.lsn_space.proofs.TilingLemmas.{all-found, find-append_unfound, all-weaken, all-both, all-map, all-push, tiling-push, tiling-map}
use Rattle.lsn_space.proofs.TilingLemmas.{tiling-within, boundary-push, boundary-map, boundary-end_of_found}
use Rattle.ring_core.specs.RingLog.{Reservation, RingLog, base_of, size_of, is_at, is_marked, end_at, empty_log, fresh, HasRoom, reserved}
use Rattle.ring_core.specs.RingLog.{HasUnfilled, filled_at, filled, IsFull, released_at, marked, raised, MayFlush, flushed}
use Rattle.ring_core.specs.LogLaws.{IsSoundLog}
use Rattle.ring_core.proofs.RangeLemmas.{IsBeside, found-beside, found-base, find_at-map, all-map_at_found, filled_at-same, filled_at-other, released_at-same, released_at-other, some_and-some}

abbrev IsFullIfMarked : Reservation → Type 0
IsFullIfMarked r = r.released ≡ true → IsFull r

abbrev IsMarkedBelow : ℕ → Reservation → Type 0
IsMarkedBelow exposed r = r.base < exposed → r.released ≡ true

-- what is exposed is marked, and so filled
exposed-filled : (exposed : ℕ) (rs : List Reservation) → AllByRecursion IsFullIfMarked rs → AllByRecursion (IsMarkedBelow exposed) rs → AllByRecursion
    (λ (r : Reservation). r.base < exposed → IsFull r) rs
exposed-filled exposed rs full past = all-both _ _ _ rs (λ r f p below. f (p below)) full past

pub sound_log-found_beside : (l : RingLog) (base : ℕ) (r : Reservation) → IsSoundLog l → find (is_at base) l.reservations ≡ Some r → AllByRecursion (λ q. (q ≡ r) ⊎ IsBeside r q) l.reservations
sound_log-found_beside l base r sound is = found-beside l.start l.tail (l.ring / 4) base l.reservations r sound.tiles sound.sizes is

-- each base lies below the tail
pub bases-below_tail : (l : RingLog) → IsSoundLog l → AllByRecursion (λ (r : Reservation). r.base < l.tail) l.reservations
bases-below_tail l sound = all-both _ _ _ l.reservations (λ r within size. omega (arith, within.1, size.0))
    (tiling-within base_of size_of l.start l.reservations l.tail sound.tiles) sound.sizes

-- the new reservation is found at the tail
pub fresh-found_at_tail : (l : RingLog) (n : ℕ) → IsSoundLog l → find (is_at l.tail) (l.reservations ++ fresh l.tail n ∷ []) ≡ Some (fresh l.tail n)
fresh-found_at_tail l n sound = find-append_unfound (is_at l.tail) l.reservations (fresh l.tail n ∷ [])
    (all-weaken _ _ l.reservations (λ r below. ne_eqb r.base l.tail (λ e. omega (arith, below))) (bases-below_tail l sound))
    ∙ ap (λ b. cond b (Some (fresh l.tail n)) None) (eq-eqb l.tail l.tail refl)

-- a marked place has a reservation
pub marked-found : (place : ℕ) (rs : List Reservation) → is_marked place rs ≡ true → (r : Reservation) × (find (is_at place) rs ≡ Some r) × (r.released ≡ true)
marked-found place rs is = by_found (find (is_at place) rs) refl is
  where
    by_found : (o : Option Reservation) → find (is_at place) rs ≡ o → option_map_or (λ (r : Reservation). r.released) o false ≡ true →
        (r : Reservation) × (find (is_at place) rs ≡ Some r) × (r.released ≡ true)
    by_found None found is = absurd (true≢false (sym is))
    by_found (Some r) found is = (r, found, is)

-- where a reservation is found, it says whether the place is marked
pub found-marked_if_released : (place : ℕ) (rs : List Reservation) (r : Reservation) → find (is_at place) rs ≡ Some r → is_marked place rs ≡ r.released
found-marked_if_released place rs r is = ap (λ o. option_map_or (λ (q : Reservation). q.released) o false) is

pub end_at-found : (base : ℕ) (rs : List Reservation) (r : Reservation) → find (is_at base) rs ≡ Some r → end_at base rs ≡ r.base + r.size
end_at-found base rs r is = ap (λ o. option_map_or (λ (q : Reservation). q.base + q.size) o base) is

pub empty-sound : (start ring : ℕ) → start ≤ LAST → IsSoundLog (empty_log start ring)
empty-sound start ring within = record {
  tiles = refl;
  sizes = tt;
  counted = tt;
  full = tt;
  past = tt;
  filled = tt;
  flushed = omega arith;
  exposed = omega arith;
  within_ring = omega arith;
  within_log = within;
  durable_boundary = refl;
  exposed_boundary = refl;
}

pub reserved-sound : (l : RingLog) (n : ℕ) → IsSoundLog l → HasRoom l n → IsSoundLog (reserved l n)
reserved-sound l n sound room =
    let new : Reservation = fresh l.tail n in
    let full = all-push IsFullIfMarked l.reservations new sound.full (λ is. absurd (true≢false (sym is))) in
    let past = all-push (IsMarkedBelow l.exposed) l.reservations new sound.past (λ below. absurd (omega (arith, below, sound.exposed))) in
    record {
      tiles = tiling-push base_of size_of l.start l.reservations l.tail new sound.tiles refl;
      sizes = all-push _ l.reservations new sound.sizes (room.positive, room.quarter);
      counted = all-push _ l.reservations new sound.counted (omega arith);
      full = full;
      past = past;
      filled = exposed-filled l.exposed (l.reservations ++ new ∷ []) full past;
      flushed = sound.flushed;
      exposed = omega (arith, sound.exposed);
      within_ring = room.within_ring;
      within_log = room.within_log;
      durable_boundary = boundary-push size_of l.start l.reservations new l.durable sound.durable_boundary;
      exposed_boundary = boundary-push size_of l.start l.reservations new l.exposed sound.exposed_boundary;
    }

-- a reservation that has a unit left isn't marked
pub unfilled-open : (l : RingLog) (base : ℕ) (r : Reservation) → IsSoundLog l → find (is_at base) l.reservations ≡ Some r → HasUnfilled r → r.released ≡ false
unfilled-open l base r sound is unfilled = by_flag r.released refl
  where
    by_flag : (b : Bool) → r.released ≡ b → b ≡ false
    by_flag true flag = let full : IsFull r = all-found IsFullIfMarked (is_at base) l.reservations r is sound.full flag in absurd (omega (arith, full, unfilled))
    by_flag false flag = refl

module _ (l : RingLog) (base : ℕ) (r : Reservation) (sound : IsSoundLog l) (is : find (is_at base) l.reservations ≡ Some r) where
  at-base : r.base ≡ base
  at-base = found-base base l.reservations r is

  beside : AllByRecursion (λ q. (q ≡ r) ⊎ IsBeside r q) l.reservations
  beside = sound_log-found_beside l base r sound is

  differs : (q : Reservation) → IsBeside r q → q.base ≢ base
  differs q side same = side.differs (same ∙ sym at-base)

  fills : HasUnfilled r → IsSoundLog (filled l base)
  fills unfilled =
      let open' = unfilled-open l base r sound is unfilled in
      let full = all-map_at_found IsFullIfMarked IsFullIfMarked (filled_at base) l.reservations r beside
      (λ closed. absurd (true≢false (sym closed ∙ open')))
      (λ q side h. subst IsFullIfMarked (sym (filled_at-other base q (differs q side))) h) sound.full in
      let past = all-map (IsMarkedBelow l.exposed) (filled_at base) l.reservations sound.past in
      record {
        tiles = tiling-map base_of size_of (filled_at base) l.start l.reservations l.tail (λ q. refl) (λ q. refl) sound.tiles;
        sizes = all-map _ (filled_at base) l.reservations sound.sizes;
        counted = all-map_at_found (λ q. q.filled ≤ q.size) (λ q. q.filled ≤ q.size) (filled_at base) l.reservations r beside
            (subst (λ q. q.filled ≤ q.size) (sym (filled_at-same base r at-base)) (omega (arith, unfilled)))
            (λ q side h. subst (λ z. z.filled ≤ z.size) (sym (filled_at-other base q (differs q side))) h) sound.counted;
        full = full;
        past = past;
        filled = exposed-filled l.exposed (map (filled_at base) l.reservations) full past;
        flushed = sound.flushed;
        exposed = sound.exposed;
        within_ring = sound.within_ring;
        within_log = sound.within_log;
        durable_boundary = boundary-map size_of (filled_at base) l.start l.reservations l.durable (λ q. refl) sound.durable_boundary;
        exposed_boundary = boundary-map size_of (filled_at base) l.start l.reservations l.exposed (λ q. refl) sound.exposed_boundary;
      }

  marks : IsFull r → IsSoundLog (marked l base)
  marks is_full =
      let full = all-map_at_found IsFullIfMarked IsFullIfMarked (released_at base) l.reservations r beside
      (λ _. is_full) (λ q side h. subst IsFullIfMarked (sym (released_at-other base q (differs q side))) h) sound.full in
      let past = all-map_at_found (IsMarkedBelow l.exposed) (IsMarkedBelow l.exposed) (released_at base) l.reservations r beside
      (λ _. ap (λ (q : Reservation). q.released) (released_at-same base r at-base))
      (λ q side h. subst (IsMarkedBelow l.exposed) (sym (released_at-other base q (differs q side))) h) sound.past in
      record {
        tiles = tiling-map base_of size_of (released_at base) l.start l.reservations l.tail (λ q. refl) (λ q. refl) sound.tiles;
        sizes = all-map _ (released_at base) l.reservations sound.sizes;
        counted = all-map (λ q. q.filled ≤ q.size) (released_at base) l.reservations sound.counted;
        full = full;
        past = past;
        filled = exposed-filled l.exposed (map (released_at base) l.reservations) full past;
        flushed = sound.flushed;
        exposed = sound.exposed;
        within_ring = sound.within_ring;
        within_log = sound.within_log;
        durable_boundary = boundary-map size_of (released_at base) l.start l.reservations l.durable (λ q. refl) sound.durable_boundary;
        exposed_boundary = boundary-map size_of (released_at base) l.start l.reservations l.exposed (λ q. refl) sound.exposed_boundary;
      }

  raises : r.released ≡ true → l.exposed ≡ base → IsSoundLog (record l { exposed = r.base + r.size })
  raises closed here =
      let within = all-found _ (is_at base) l.reservations r is (tiling-within base_of size_of l.start l.reservations l.tail sound.tiles) in
      let past = all-both _ _ (IsMarkedBelow (r.base + r.size)) l.reservations
      (λ q side old below. ⊎_elim (λ same. ap (λ (z : Reservation). z.released) same ∙ closed)
      (λ beside. ⊎_elim (λ before. old (omega (arith, before, here, at-base))) (λ behind. absurd (omega (arith, below, behind))) beside.side) side)
      beside sound.past in
      record {
        tiles = sound.tiles;
        sizes = sound.sizes;
        counted = sound.counted;
        full = sound.full;
        past = past;
        filled = exposed-filled (r.base + r.size) l.reservations sound.full past;
        flushed = omega (arith, sound.flushed, here, at-base);
        exposed = within.1;
        within_ring = sound.within_ring;
        within_log = sound.within_log;
        durable_boundary = sound.durable_boundary;
        exposed_boundary = boundary-end_of_found base_of size_of l.start l.reservations l.tail (is_at base) r sound.tiles is;
      }

pub filled-sound : (l : RingLog) (base : ℕ) → IsSoundLog l → IsSomeAnd (find (is_at base) l.reservations) HasUnfilled → IsSoundLog (filled l base)
filled-sound l base sound may = let found = some_and-some HasUnfilled _ may in fills l base found.0 sound found.1 found.2

pub marked-sound : (l : RingLog) (base : ℕ) → IsSoundLog l → IsSomeAnd (find (is_at base) l.reservations) IsFull → IsSoundLog (marked l base)
marked-sound l base sound may = let found = some_and-some IsFull _ may in marks l base found.0 sound found.1 found.2

pub raised-sound : (l : RingLog) (base : ℕ) → IsSoundLog l → is_marked base l.reservations ≡ true → IsSoundLog (raised l base)
raised-sound l base sound is = by_test (l.exposed == base) refl
  where
    by_test : (b : Bool) → (l.exposed == base) ≡ b → IsSoundLog (record l { exposed = cond b (end_at base l.reservations) l.exposed })
    by_test true here = let found = marked-found base l.reservations is in
        subst (λ n. IsSoundLog (record l { exposed = n })) (sym (end_at-found base l.reservations found.0 found.1))
        (raises l base found.0 sound found.1 found.2 (eqb-true l.exposed base here))
    by_test false moved = sound

-- exposed never falls
pub raised-forward : (l : RingLog) (base : ℕ) → IsSoundLog l → is_marked base l.reservations ≡ true → l.exposed ≤ (raised l base).exposed
raised-forward l base sound is = by_test (l.exposed == base) refl
  where
    by_test : (b : Bool) → (l.exposed == base) ≡ b → l.exposed ≤ cond b (end_at base l.reservations) l.exposed
    by_test true here =
        let found = marked-found base l.reservations is in
        let ends = end_at-found base l.reservations found.0 found.1 in
        let starts = found-base base l.reservations found.0 found.1 in
        let same = eqb-true l.exposed base here in omega (arith, ends, starts, same)
    by_test false moved = le_refl _

pub flushed-sound : (l : RingLog) (to : ℕ) → IsSoundLog l → MayFlush l to → IsSoundLog (flushed l to)
flushed-sound l to sound may = record {
  tiles = sound.tiles;
  sizes = sound.sizes;
  counted = sound.counted;
  full = sound.full;
  past = sound.past;
  filled = sound.filled;
  flushed = may.exposed;
  exposed = sound.exposed;
  within_ring = omega (arith, sound.within_ring, may.forward);
  within_log = sound.within_log;
  durable_boundary = may.boundary;
  exposed_boundary = sound.exposed_boundary;
}

-- a fresh reservation marks nothing
pub is_marked-append_fresh : (place base n : ℕ) (rs : List Reservation) → is_marked place (rs ++ fresh base n ∷ []) ≡ is_marked place rs
is_marked-append_fresh place base n [] = by_test (base == place)
  where
    by_test : (b : Bool) → option_map_or (λ (r : Reservation). r.released) (cond b (Some (fresh base n)) None) false ≡ false
    by_test true = refl
    by_test false = refl
is_marked-append_fresh place base n (r ∷ rs) = by_test (r.base == place) (is_marked-append_fresh place base n rs)
  where
    by_test : (b : Bool) → is_marked place (rs ++ fresh base n ∷ []) ≡ is_marked place rs
        → option_map_or (λ (q : Reservation). q.released) (cond b (Some r) (find (is_at place) (rs ++ fresh base n ∷ []))) false ≡ option_map_or (λ
        (q : Reservation). q.released) (cond b (Some r) (find (is_at place) rs)) false
    by_test true rest = refl
    by_test false rest = rest

-- nor does a unit that is filled
pub is_marked-filled_at : (place base : ℕ) (rs : List Reservation) → is_marked place (map (filled_at base) rs) ≡ is_marked place rs
is_marked-filled_at place base rs = ap (λ o. option_map_or (λ (r : Reservation). r.released) o false) (find_at-map (filled_at base) place rs (λ q. refl)) ∙ by_found (find (is_at place) rs)
  where
    by_found : (o : Option Reservation) → option_map_or (λ (r : Reservation). r.released) (option_map (filled_at base) o) false ≡ option_map_or (λ (r : Reservation). r.released) o false
    by_found None = refl
    by_found (Some r) = refl

-- no mark is ever taken away
pub is_marked-released_at : (place base : ℕ) (rs : List Reservation) → is_marked place rs ≡ true → is_marked place (map (released_at base) rs) ≡ true
is_marked-released_at place base rs is =
    let found = marked-found place rs is in
    found-marked_if_released place (map (released_at base) rs) (released_at base found.0)
    (find_at-map (released_at base) place rs (λ q. refl) ∙ ap (option_map (released_at base)) found.1)
    ∙ by_test (found.0.base == base) found.0.released found.2
  where
    by_test : (b released : Bool) → released ≡ true → cond b true released ≡ true
    by_test true released closed = refl
    by_test false released closed = closed
