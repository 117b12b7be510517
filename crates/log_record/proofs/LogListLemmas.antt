-- Fronts and boundaries of a log list.
use Rattle.std.proofs.Common.{◌≡◌, ◌∙◌, ◌+◌, ◌-◌, ◌<◌, ◌≤◌, ℕ, zero, suc, true, false, if◌then◌else◌, List, [], ◌∷◌, ◌++◌, length, map, refl, sym}
use Rattle.std.proofs.Common.{subst, ap, ap₂, arith, nat_le, length-append, append-nil, Contains, get_or}
use Rattle.std.proofs.lemmas.Bool.{leb-true, le-leb}
use Rattle.std.proofs.lemmas.List.Concat.{flat_map-append}
use Rattle.std.specs.List.{zip}
use Rattle.lsn_space.specs.Tiling.{IsTiling}
use Rattle.log_record.specs.declared.rec.Rec.{Rec}
use Rattle.log_record.specs.Spelling.{spelling}
use Rattle.log_record.specs.LogList.{units_of, end_of, size_of, starts_from, IsBoundary, prefix_to}

pub end_of-cons : (rec : Rec) (records : List Rec) → end_of (rec ∷ records) ≡ size_of rec + end_of records
end_of-cons rec records = length-append (spelling rec) (units_of records)

pub length-starts_from : (at : ℕ) (records : List Rec) → length (starts_from at records) ≡ length records
length-starts_from at [] = refl
length-starts_from at (rec ∷ records) = ap suc (length-starts_from (at + size_of rec) records)

pub starts_from-tiling : (at to : ℕ) (records : List Rec) → at + end_of records ≡ to
    → IsTiling (λ (r : ℕ × ℕ). r.0) (λ (r : ℕ × ℕ). r.1) at (zip (starts_from at records) (map size_of records)) to
starts_from-tiling at to [] there = omega arith
starts_from-tiling at to (rec ∷ records) there =
    (refl, starts_from-tiling (at + size_of rec) to records (omega (arith, end_of-cons rec records)))

-- the list up to an LSN is a front of it
pub prefix_to-front : (records : List Rec) (lsn : ℕ) → (rest : List Rec) × (records ≡ prefix_to records lsn ++ rest)
prefix_to-front [] lsn = ([], refl)
prefix_to-front (rec ∷ records) lsn =
    let more = prefix_to-front records (lsn - size_of rec) in
    elim (nat_le (size_of rec) lsn)
    as (λ b. (rest : List Rec) × (rec ∷ records ≡ (if b then rec ∷ prefix_to records (lsn - size_of rec) else []) ++ rest))
    [ true ↦ (more.0, ap (λ rs. rec ∷ rs) more.1) | false ↦ (rec ∷ records, refl) ]

-- and ends at or below it
pub end_of-prefix_to : (records : List Rec) (lsn : ℕ) → end_of (prefix_to records lsn) ≤ lsn
end_of-prefix_to [] lsn = omega arith
end_of-prefix_to (rec ∷ records) lsn =
    let shorter = prefix_to records (lsn - size_of rec) in
    let below = end_of-prefix_to records (lsn - size_of rec) in
    elim (nat_le (size_of rec) lsn) as (λ b. nat_le (size_of rec) lsn ≡ b → end_of (if b then rec ∷ shorter else []) ≤ lsn)
    [ true ↦ (λ fits. omega (arith, leb-true (size_of rec) lsn fits, end_of-cons rec shorter)) | false ↦ (λ _. omega arith) ]
    refl

-- a front that ends at or below an LSN is in the list up to it
pub prefix_to-append : (front rest : List Rec) (lsn : ℕ) → end_of front ≤ lsn
    → prefix_to (front ++ rest) lsn ≡ front ++ prefix_to rest (lsn - end_of front)
prefix_to-append [] rest lsn below = ap (prefix_to rest) (omega arith)
prefix_to-append (rec ∷ front) rest lsn below =
    let fits : nat_le (size_of rec) lsn ≡ true = le-leb (size_of rec) lsn (omega (arith, end_of-cons rec front)) in
    let left : lsn - size_of rec - end_of front ≡ lsn - end_of (rec ∷ front) = omega (arith, end_of-cons rec front) in
    ap (λ b. if b then rec ∷ prefix_to (front ++ rest) (lsn - size_of rec) else []) fits
    ∙ ap (λ rs. rec ∷ rs) (prefix_to-append front rest (lsn - size_of rec) (omega (arith, end_of-cons rec front)))
    ∙ ap (λ n. rec ∷ front ++ prefix_to rest n) left

pub prefix_to-end_of : (records : List Rec) → prefix_to records (end_of records) ≡ records
prefix_to-end_of records =
    ap (λ rs. prefix_to rs (end_of records)) (sym (append-nil records))
    ∙ prefix_to-append records [] (end_of records) (omega arith) ∙ append-nil records

-- a boundary is where a front ends
front-boundary : (at to lsn k : ℕ) (records : List Rec) → at + end_of records ≡ to
    → k < length (starts_from at records ++ to ∷ []) → get_or (starts_from at records ++ to ∷ []) k lsn ≡ lsn
    → (front rest : List Rec) × (records ≡ front ++ rest) × (lsn ≡ at + end_of front)
front-boundary at to lsn zero [] there lt is = ([], [], refl, omega arith)
front-boundary at to lsn (suc k) [] there lt is = absurd (omega arith)
front-boundary at to lsn zero (rec ∷ records) there lt is = ([], rec ∷ records, refl, omega arith)
front-boundary at to lsn (suc k) (rec ∷ records) there lt is =
    let more = front-boundary (at + size_of rec) to lsn k records (omega (arith, end_of-cons rec records)) (omega arith) is in
    (rec ∷ more.0, more.1, ap (λ rs. rec ∷ rs) more.2, omega (arith, more.3, end_of-cons rec more.0))

-- and where a front ends is a boundary
boundary-front : (at to lsn : ℕ) (front rest : List Rec) → at + end_of (front ++ rest) ≡ to → at + end_of front ≡ lsn
    → Contains (starts_from at (front ++ rest) ++ to ∷ []) lsn
boundary-front at to lsn [] [] there is = (0, omega arith, omega arith)
boundary-front at to lsn [] (rec ∷ rest) there is = (0, omega arith, omega arith)
boundary-front at to lsn (rec ∷ front) rest there is =
    let more = boundary-front (at + size_of rec) to lsn front rest (omega (arith, end_of-cons rec (front ++ rest))) (omega (arith, end_of-cons rec front)) in
    (suc more.0, omega (arith, more.1), more.2)

-- the list up to a boundary ends there
end_of-prefix_to-front : (front rest : List Rec) → end_of (prefix_to (front ++ rest) (end_of front)) ≡ end_of front
end_of-prefix_to-front front rest =
    let more = prefix_to rest (end_of front - end_of front) in
    let is = prefix_to-append front rest (end_of front) (omega arith) in
    let longer : end_of (front ++ more) ≡ end_of front + end_of more =
    ap length (flat_map-append spelling front more) ∙ length-append (units_of front) (units_of more) in
    omega (arith, ap end_of is, longer, end_of-prefix_to (front ++ rest) (end_of front))

pub boundary_is_front : (records : List Rec) (lsn : ℕ) → IsBoundary records lsn
    → (front rest : List Rec) × (records ≡ front ++ rest) × (lsn ≡ end_of front)
boundary_is_front records lsn is =
    let found = front-boundary 0 (end_of records) lsn is.0 records (omega arith) is.1 is.2 in
    (found.0, found.1, found.2, omega (arith, found.3))

pub front_is_boundary : (records : List Rec) (lsn : ℕ) → ((front rest : List Rec) × (records ≡ front ++ rest) × (lsn ≡ end_of front))
    → IsBoundary records lsn
front_is_boundary records lsn is =
    subst (λ rs. IsBoundary rs lsn) (sym is.2)
    (boundary-front 0 (end_of (is.0 ++ is.1)) lsn is.0 is.1 (omega arith) (omega (arith, is.3)))

pub end_of-prefix_to-boundary : (records : List Rec) (lsn : ℕ) → IsBoundary records lsn → end_of (prefix_to records lsn) ≡ lsn
end_of-prefix_to-boundary records lsn is =
    let found = boundary_is_front records lsn is in
    ap₂ (λ rs n. end_of (prefix_to rs n)) found.2 found.3 ∙ end_of-prefix_to-front found.0 found.1 ∙ sym found.3

pub units_of-append : (xs ys : List Rec) → units_of (xs ++ ys) ≡ units_of xs ++ units_of ys
units_of-append xs ys = flat_map-append spelling xs ys

pub end_of-append : (xs ys : List Rec) → end_of (xs ++ ys) ≡ end_of xs + end_of ys
end_of-append xs ys = ap length (units_of-append xs ys) ∙ length-append (units_of xs) (units_of ys)
