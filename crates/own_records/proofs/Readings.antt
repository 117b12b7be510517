-- Bytes hold one list of records at most, and no list where their reading fails.
use Rattle.std.proofs.Common.{◌≡◌, inl, inr, get_or, ◌<◌, ◌≤◌, ◌∙◌, sym, ap, refl, subst, ℕ, ◌+◌, List, [], ◌∷◌, ◌++◌, length, drop, take, arith, append_assoc, length-append}
use Rattle.std.specs.List.{flat_map, AllByRecursion}
use Rattle.std.specs.Int.{w32, to_be_bytes}
use Rattle.std.proofs.lemmas.Nat.{from_be_bytes-to_be_bytes_4}
use Rattle.std.proofs.lemmas.List.{append-nil, take_at, drop_at}
use Rattle.segment_file.specs.declared.layout.TheConstants.{OPEN}
use Rattle.segment_file.specs.File.{BeginsAsLog, BeginsOpen}
use Rattle.segment_file.proofs.BatchLemmas.{count_at}
use Rattle.own_records.specs.declared.layout.TheConstants.{MOST_BYTES}
use Rattle.own_records.specs.Records.{BeginsAsRecords, IsText, spelled, gated, recorded, StandsAt, IsFresh, Holds, made, unmade, HoldsNone}

-- a record begins with the length of its text
pub count_at-spelled : (bytes text rest : List ℕ) → length text ≤ MOST_BYTES → bytes ≡ spelled text ++ rest → count_at bytes ≡ length text
unfolding spelled
count_at-spelled bytes text rest most front = ap count_at front ∙ from_be_bytes-to_be_bytes_4 (length text) (omega arith)

pub length-spelled : (bytes text rest : List ℕ) → bytes ≡ spelled text ++ rest → length bytes ≡ 4 + length text + length rest
unfolding spelled
length-spelled bytes text rest front = omega (arith, ap length front, length-append text rest)

-- a length and so many bytes are a record
pub spelled-of_parts : (bytes text rest : List ℕ) (count : ℕ) → bytes ≡ to_be_bytes w32 count ++ text ++ rest → length text ≡ count → bytes ≡ spelled text ++ rest
unfolding spelled
spelled-of_parts bytes text rest count whole counted =
    whole ∙ ap (λ n. to_be_bytes w32 n ++ text ++ rest) (sym counted) ∙ sym (append_assoc (to_be_bytes w32 (length text)) text rest)

-- records that stand at the same place are the same
same_text : (t u x y : List ℕ) → IsText t → IsText u → spelled t ++ x ≡ spelled u ++ y → (t ≡ u) × (x ≡ y)
unfolding spelled
same_text t u x y is_t is_u same =
    let long : length t ≡ length u = sym (count_at-spelled (spelled t ++ x) t x is_t.most refl) ∙ count_at-spelled (spelled t ++ x) u y is_u.most same in
    let bodies : t ++ x ≡ u ++ y = ap (drop 4) same in (
      sym (take_at t x (length t) refl) ∙ ap (take (length t)) bodies ∙ take_at u y (length t) (sym long),
      sym (drop_at t x (length t) refl) ∙ ap (drop (length t)) bodies ∙ drop_at u y (length t) (sym long),
    )

-- the list is this one and more, which stand in the rest
record GoesOn (read texts : List (List ℕ)) (rest end : List ℕ) : Type 0 where
  more : List (List ℕ)
  each : AllByRecursion IsText more
  is : texts ≡ read ++ more
  whole : rest ≡ flat_map gated more ++ end

open_record : (text rest : List ℕ) → BeginsOpen (gated text ++ rest)
unfolding spelled
open_record text rest = refl

-- a list up to a gate that isn't open begins with each list that stands in front of the same bytes
goes_on : (read texts : List (List ℕ)) (rest end : List ℕ) → AllByRecursion IsText read → AllByRecursion IsText texts
    → flat_map gated read ++ rest ≡ flat_map gated texts ++ end → (BeginsOpen end → ⊥) → GoesOn read texts rest end
goes_on [] texts rest end is_read is_texts same closed = record { more = texts; each = is_texts; is = refl; whole = same }
goes_on (r ∷ read) [] rest end is_read is_texts same closed =
    absurd (closed (subst BeginsOpen (sym (append_assoc (gated r) (flat_map gated read) rest) ∙ same) (open_record r (flat_map gated read ++ rest))))
goes_on (r ∷ read) (t ∷ texts) rest end is_read is_texts same closed =
    let apart : spelled r ++ (flat_map gated read ++ rest) ≡ spelled t ++ (flat_map gated texts ++ end) =
    ap (drop 1) (sym (append_assoc (gated r) (flat_map gated read) rest) ∙ same ∙ append_assoc (gated t) (flat_map gated texts) end) in
    let first = same_text r t _ _ is_read.0 is_texts.0 apart in
    let later = goes_on read texts rest end is_read.1 is_texts.1 first.1 closed in
    record { more = later.more; each = later.each; is = ap (λ text. text ∷ texts) (sym first.0) ∙ ap (λ list. r ∷ list) later.is; whole = later.whole }

-- behind the magic bytes
behind_magic : (read texts : List (List ℕ)) (rest end : List ℕ) → recorded read ++ rest ≡ recorded texts ++ end
    → flat_map gated read ++ rest ≡ flat_map gated texts ++ end
behind_magic read texts rest end same = ap (drop 8) same

goes_on-none : (read texts : List (List ℕ)) (rest end : List ℕ) (on : GoesOn read texts rest end) (more : List (List ℕ)) → on.more ≡ more
    → (BeginsOpen rest → ⊥) → read ≡ texts
goes_on-none read texts rest end on [] none closed = sym (on.is ∙ ap (λ list. read ++ list) none ∙ append-nil read)
goes_on-none read texts rest end on (t ∷ more) some closed =
    let next : rest ≡ gated t ++ (flat_map gated more ++ end) =
    on.whole ∙ ap (λ list. flat_map gated list ++ end) some ∙ append_assoc (gated t) (flat_map gated more) end in
    absurd (closed (subst BeginsOpen (sym next) (open_record t (flat_map gated more ++ end))))

stands-open : (at : ℕ) (texts : List (List ℕ)) (bytes : List ℕ) → StandsAt at texts bytes → BeginsOpen bytes
stands-open at texts bytes stands = subst BeginsOpen (sym stands.whole) refl

pub one_list-holds : (bytes : List ℕ) (a b : List (List ℕ)) → Holds a bytes → Holds b bytes → a ≡ b
one_list-holds bytes a b (made p x) (made q y) =
    let on = goes_on a b x.rest y.rest x.each y.each (behind_magic a b x.rest y.rest (sym x.whole ∙ y.whole)) y.closed in
    goes_on-none a b x.rest y.rest on on.more refl x.closed
one_list-holds bytes a b (made p x) (unmade none fresh) = absurd (fresh.closed (stands-open p a bytes x))
one_list-holds bytes a b (unmade none fresh) (made q y) = absurd (fresh.closed (stands-open q b bytes y))
one_list-holds bytes a b (unmade none fresh) (unmade nothing also) = none ∙ sym nothing

-- a file of records is no log
pub holds-no_log : (bytes : List ℕ) (texts : List (List ℕ)) → Holds texts bytes → BeginsAsLog bytes → ⊥
holds-no_log bytes texts (made at stands) (inl log) =
    let second : 82 ≡ 65 = ap (λ list. get_or list 1 0) (sym stands.whole ∙ log.1) in
    omega (arith, second)
holds-no_log bytes texts (made at stands) (inr log) =
    let second : 82 ≡ 65 = ap (λ list. get_or list 1 0) (sym stands.whole ∙ log.1) in
    omega (arith, second)
holds-no_log bytes texts (unmade none fresh) (inl log) = fresh.closed (subst BeginsOpen (sym log.1) refl)
holds-no_log bytes texts (unmade none fresh) (inr log) = fresh.closed (subst BeginsOpen (sym log.1) refl)

-- bytes that neither are fresh nor begin with the magic bytes hold none
pub no_magic-holds_none : (bytes : List ℕ) → (IsFresh bytes → ⊥) → (BeginsAsRecords bytes → ⊥) → HoldsNone bytes
no_magic-holds_none bytes old other texts (made at stands) = other (flat_map gated texts ++ stands.rest, stands.whole)
no_magic-holds_none bytes old other texts (unmade none fresh) = old fresh

-- an open gate behind which no record follows
module _ (bytes : List ℕ) (read : List (List ℕ)) (rest body : List ℕ) (each : AllByRecursion IsText read) (whole : bytes ≡ recorded read ++ rest)
    (gate : rest ≡ OPEN ∷ body) (some : 0 < length body) (none : (text after : List ℕ) → IsText text → body ≡ spelled text ++ after → ⊥) where
  open_gate : (body : List ℕ) → 0 < length body → BeginsOpen (OPEN ∷ body)
  open_gate [] some = absurd (omega arith)
  open_gate (byte ∷ body) some = refl

  more-none : (texts : List (List ℕ)) (end : List ℕ) (on : GoesOn read texts rest end) (more : List (List ℕ)) → on.more ≡ more → AllByRecursion IsText more
      → (BeginsOpen end → ⊥) → ⊥
  more-none texts end on [] nothing is closed =
      closed (subst BeginsOpen (sym gate ∙ on.whole ∙ ap (λ list. flat_map gated list ++ end) nothing) (open_gate body some))
  more-none texts end on (t ∷ more) is each closed =
      none t (flat_map gated more ++ end) each.0
      (ap (drop 1) (sym gate ∙ on.whole ∙ ap (λ list. flat_map gated list ++ end) is ∙ append_assoc (gated t) (flat_map gated more) end))

  pub bad_record-holds_none : HoldsNone bytes
  bad_record-holds_none texts (made at stands) =
      let on = goes_on read texts rest stands.rest each stands.each (behind_magic read texts rest stands.rest (sym whole ∙ stands.whole)) stands.closed in
      more-none texts stands.rest on on.more refl on.each stands.closed
  bad_record-holds_none texts (unmade nothing fresh) = fresh.closed (subst BeginsOpen (sym whole) refl)
