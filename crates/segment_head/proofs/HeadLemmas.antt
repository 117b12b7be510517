-- Heads, and the openings that bytes begin with.
use Rattle.std.proofs.Common.{◌≡◌, ◌≤◌, ◌<◌, ◌∙◌, sym, ap, refl, subst, ℕ, zero, suc, ◌+◌, ◌*◌, ◌^◌, List, [], ◌∷◌, ◌++◌, length, take, drop, Some, arith, append_assoc, length-append}
use Rattle.std.specs.List.{flat_map, AllByRecursion, slice_get}
use Rattle.std.specs.Int.{w32, w64, to_be_bytes, from_be_bytes}
use Rattle.std.proofs.lemmas.Nat.{from_be_bytes-to_be_bytes_4, from_be_bytes-to_be_bytes_8}
use Rattle.std.proofs.lemmas.List.Concat.{flat_map-append}
use Rattle.std.proofs.Math.Seq.{drop-append_seam}
use Rattle.lsn_space.specs.declared.lsn.TheConstants.{LAST}
use Rattle.lsn_space.specs.Opening.{Opening, IsRow, IsSnapshot}
use Rattle.segment_head.specs.declared.head.TheConstants.{NEXT_GATE}
use Rattle.segment_head.specs.Head.{head_magic, row_bytes, snapshot_bytes, sealed_head, rows_in, opening_in, IsHead}

-- ---- numbers and rows

-- numbers that stand at the same place are the same
same_number : (n m : ℕ) → n < 2 ^ 32 → m < 2 ^ 32 → to_be_bytes w32 n ≡ to_be_bytes w32 m → n ≡ m
same_number n m is_n is_m same = sym (from_be_bytes-to_be_bytes_4 n is_n) ∙ ap (from_be_bytes w32) same ∙ from_be_bytes-to_be_bytes_4 m is_m

same_unit : (n m : ℕ) → n < 2 ^ 64 → m < 2 ^ 64 → to_be_bytes w64 n ≡ to_be_bytes w64 m → n ≡ m
same_unit n m is_n is_m same = sym (from_be_bytes-to_be_bytes_8 n is_n) ∙ ap (from_be_bytes w64) same ∙ from_be_bytes-to_be_bytes_8 m is_m

pub length-rows : (rows : List (ℕ × ℕ)) → length (flat_map row_bytes rows) ≡ 12 * length rows
length-rows [] = refl
length-rows (row ∷ rows) = omega (arith, length-rows rows)

-- one row more is written
pub row_bytes-front_push : (rows : List (ℕ × ℕ)) (n : ℕ) (row : ℕ × ℕ) → slice_get rows n ≡ Some row
    → flat_map row_bytes (take (n + 1) rows) ≡ flat_map row_bytes (take n rows) ++ row_bytes row
row_bytes-front_push [] n row is = grind arith
row_bytes-front_push (first ∷ rows) zero row is = let same : first ≡ row = cc in ap row_bytes same
row_bytes-front_push (first ∷ rows) (suc n) row is =
    let past : suc (n + 1) ≡ suc n + 1 = omega arith in
    sym (ap (λ k. flat_map row_bytes (take k (first ∷ rows))) past) ∙ ap (λ bytes. row_bytes first ++ bytes) (row_bytes-front_push rows n row is)
    ∙ sym (append_assoc (row_bytes first) (flat_map row_bytes (take n rows)) (row_bytes row))

-- rows are read back
rows_in-rows : (lsn : ℕ) → lsn ≤ LAST → (rows : List (ℕ × ℕ)) (rest : List ℕ) → AllByRecursion (IsRow lsn) rows
    → rows_in (length rows) (flat_map row_bytes rows ++ rest) ≡ rows
unfolding rows_in
rows_in-rows lsn small [] rest each = refl
rows_in-rows lsn small (row ∷ rows) rest each =
    let balance = from_be_bytes-to_be_bytes_8 row.0 (let most = each.0.0 in omega arith) in
    let mark = from_be_bytes-to_be_bytes_4 row.1 (let most = each.0.1 in omega arith) in
    let later = rows_in-rows lsn small rows rest each.1 in
    λ i. (balance i, mark i) ∷ later i

-- ---- openings

-- an opening is read back
pub opening_in-snapshot : (opening : Opening) (rest : List ℕ) → IsSnapshot opening → opening_in (snapshot_bytes opening ++ rest) ≡ opening
unfolding opening_in snapshot_bytes
opening_in-snapshot opening rest held =
    let lsn = from_be_bytes-to_be_bytes_4 opening.lsn (let most = held.lsn in omega arith) in
    let txn = from_be_bytes-to_be_bytes_4 opening.txn held.txn in
    let count = from_be_bytes-to_be_bytes_4 (length opening.accounts) (let most = held.most in omega arith) in
    let accounts = ap (λ n. rows_in n (flat_map row_bytes opening.accounts ++ rest)) count
    ∙ rows_in-rows opening.lsn held.lsn opening.accounts rest held.each in
    λ i. record { lsn = lsn i; txn = txn i; accounts = accounts i }

pub length-snapshot : (opening : Opening) → length (snapshot_bytes opening) ≡ 12 + 12 * length opening.accounts
unfolding snapshot_bytes
length-snapshot opening = omega (arith, length-rows opening.accounts)

-- openings that stand at the same place are the same
pub snapshot_bytes-append_injective : (a b : Opening) (x y : List ℕ) → IsSnapshot a → IsSnapshot b → snapshot_bytes a ++ x ≡ snapshot_bytes b ++ y → (a ≡ b) × (x ≡ y)
snapshot_bytes-append_injective a b x y is_a is_b same =
    let opening : a ≡ b = sym (opening_in-snapshot a x is_a) ∙ ap opening_in same ∙ opening_in-snapshot b y is_b in
    let level : snapshot_bytes b ++ x ≡ snapshot_bytes b ++ y = subst (λ o. snapshot_bytes o ++ x ≡ snapshot_bytes b ++ y) opening same in
    (opening, sym (drop-append_seam (snapshot_bytes b) x) ∙ ap (drop (length (snapshot_bytes b))) level ∙ drop-append_seam (snapshot_bytes b) y)

-- ---- a head in memory

pub opening_in-sealed : (opening : Opening) (bytes : List ℕ) → IsSnapshot opening → bytes ≡ sealed_head opening → opening_in (drop 7 bytes) ≡ opening
opening_in-sealed opening bytes held is = ap (λ list. opening_in (drop 7 list)) is ∙ opening_in-snapshot opening (NEXT_GATE ∷ []) held

pub sealed_head-IsHead : (opening : Opening) (bytes : List ℕ) (lsn : ℕ) → IsSnapshot opening → bytes ≡ sealed_head opening → lsn ≡ opening.lsn
    → IsHead bytes (opening_in (drop 7 bytes)) lsn
sealed_head-IsHead opening bytes lsn held is begins =
    subst (λ o. IsHead bytes o lsn) (sym (opening_in-sealed opening bytes held is)) (record { held = held; whole = is; begins = begins })

-- piece by piece
pub sealed-pieces : (opening : Opening) (count : ℕ) (none magic lsn txn counted rows sealed : List ℕ) → count ≡ length opening.accounts → none ≡ []
    → magic ≡ none ++ head_magic → lsn ≡ magic ++ to_be_bytes w32 opening.lsn → txn ≡ lsn ++ to_be_bytes w32 opening.txn
    → counted ≡ txn ++ to_be_bytes w32 count → rows ≡ counted ++ flat_map row_bytes opening.accounts → sealed ≡ rows ++ NEXT_GATE ∷ []
    → sealed ≡ sealed_head opening
unfolding snapshot_bytes
sealed-pieces opening count none magic lsn txn counted rows sealed count_is none_is magic_is lsn_is txn_is counted_is rows_is sealed_is =
    rw (sealed_is, rows_is, counted_is, txn_is, lsn_is, magic_is, none_is, count_is) refl

-- ---- the three numbers, and then row by row

pub record Front (opening : Opening) (lsn txn count : ℕ) (behind rest : List ℕ) : Type 0 where
  pub lsn_is : lsn ≡ opening.lsn
  pub txn_is : txn ≡ opening.txn
  pub count_is : count ≡ length opening.accounts
  pub rows : behind ≡ flat_map row_bytes opening.accounts ++ rest

pub front-same : (opening : Opening) (lsn txn count : ℕ) (bytes behind rest : List ℕ) → lsn < 2 ^ 32 → txn < 2 ^ 32 → count < 2 ^ 32 → IsSnapshot opening
    → bytes ≡ to_be_bytes w32 lsn ++ to_be_bytes w32 txn ++ to_be_bytes w32 count ++ behind → bytes ≡ snapshot_bytes opening ++ rest
    → Front opening lsn txn count behind rest
unfolding snapshot_bytes
front-same opening lsn txn count bytes behind rest small_lsn small_txn small_count held read whole =
    let same = sym read ∙ whole in
    record {
      lsn_is = same_number lsn opening.lsn small_lsn (let most = held.lsn in omega arith) (ap (take 4) same);
      txn_is = same_number txn opening.txn small_txn held.txn (ap (λ list. take 4 (drop 4 list)) same);
      count_is = same_number count (length opening.accounts) small_count (let most = held.most in omega arith) (ap (λ list. take 4 (drop 8 list)) same);
      rows = ap (drop 12) same;
    }

-- and back
pub snapshot-read : (opening : Opening) (lsn txn count : ℕ) (bytes behind rest : List ℕ) → lsn ≡ opening.lsn → txn ≡ opening.txn → count ≡ length opening.accounts
    → bytes ≡ to_be_bytes w32 lsn ++ to_be_bytes w32 txn ++ to_be_bytes w32 count ++ behind → behind ≡ flat_map row_bytes opening.accounts ++ rest
    → bytes ≡ snapshot_bytes opening ++ rest
unfolding snapshot_bytes
snapshot-read opening lsn txn count bytes behind rest lsn_is txn_is count_is read rows = rw (read, lsn_is, txn_is, count_is, rows) refl

-- one row more was read
pub read_rows-push : (rows : List (ℕ × ℕ)) (balance mark : ℕ) (bytes before after : List ℕ) → bytes ≡ flat_map row_bytes rows ++ before
    → before ≡ to_be_bytes w64 balance ++ to_be_bytes w32 mark ++ after → bytes ≡ flat_map row_bytes (rows ++ (balance, mark) ∷ []) ++ after
read_rows-push rows balance mark bytes before after whole first =
    whole ∙ ap (λ list. flat_map row_bytes rows ++ list) first ∙ sym (append_assoc (flat_map row_bytes rows) (row_bytes (balance, mark)) after)
    ∙ ap (λ list. list ++ after) (sym (flat_map-append row_bytes rows ((balance, mark) ∷ [])))

pub all_rows-push : (lsn : ℕ) (rows : List (ℕ × ℕ)) (row : ℕ × ℕ) → AllByRecursion (IsRow lsn) rows → IsRow lsn row → AllByRecursion (IsRow lsn) (rows ++ row ∷ [])
all_rows-push lsn [] row each is = (is, tt)
all_rows-push lsn (first ∷ rows) row each is = (each.0, all_rows-push lsn rows row each.1 is)

-- rows that are left of so many, once some were read
pub record RowsLeft (lsn read count : ℕ) (bytes rest : List ℕ) : Type 0 where
  pub rows : List (ℕ × ℕ)
  pub counted : read + length rows ≡ count
  pub each : AllByRecursion (IsRow lsn) rows
  pub whole : bytes ≡ flat_map row_bytes rows ++ rest

pub rows_left-twelve_bytes : (lsn read count : ℕ) (bytes rest : List ℕ) → read < count → RowsLeft lsn read count bytes rest → 12 ≤ length bytes
rows_left-twelve_bytes lsn read count bytes rest before left =
    omega (arith, before, left.counted, ap length left.whole, length-append (flat_map row_bytes left.rows) rest, length-rows left.rows)

module _ (lsn read count balance mark : ℕ) (bytes after rest : List ℕ) (small : lsn ≤ LAST) (is_balance : balance < 2 ^ 64) (is_mark : mark < 2 ^ 32)
    (before : read < count) (first : bytes ≡ to_be_bytes w64 balance ++ to_be_bytes w32 mark ++ after) where
  -- the next row is the one that was read
  pub rows_left-step : RowsLeft lsn read count bytes rest → IsRow lsn (balance, mark) × RowsLeft lsn (read + 1) count after rest
  rows_left-step left = by_rows left.rows left.counted left.each left.whole
    where
      by_rows : (rows : List (ℕ × ℕ)) → read + length rows ≡ count → AllByRecursion (IsRow lsn) rows → bytes ≡ flat_map row_bytes rows ++ rest
          → IsRow lsn (balance, mark) × RowsLeft lsn (read + 1) count after rest
      by_rows [] counted each whole = absurd (omega (arith, before, counted))
      by_rows (row ∷ rows) counted each whole =
          let same = sym first ∙ whole in
          let balance_is : balance ≡ row.0 = same_unit balance row.0 is_balance (let most = each.0.0 in omega arith) (ap (take 8) same) in
          let mark_is : mark ≡ row.1 = same_number mark row.1 is_mark (let most = each.0.1 in omega arith) (ap (λ list. take 4 (drop 8 list)) same) in
          let back : after ≡ flat_map row_bytes rows ++ rest = ap (drop 12) same in (
            (omega (arith, balance_is, each.0.0), omega (arith, mark_is, each.0.1)),
            record { rows = rows; counted = omega (arith, counted); each = each.1; whole = back },
          )
