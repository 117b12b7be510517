-- What recovery answers is a function of the bytes.
use Rattle.std.proofs.Common.{◌≡◌, ◌<◌, ◌+◌, ℕ, ◌⊎◌, inl, inr, List, [], ◌∷◌, ◌++◌, length, refl, ap, ◌∙◌, sym, subst, arith, append_assoc}
use Rattle.std.specs.List.{AllByRecursion}
use Rattle.std.proofs.lemmas.List.Elements.{All-from_recursion}
use Rattle.log_record.specs.declared.rec.Rec.{Rec}
use Rattle.log_record.specs.declared.rec.Placed.{Placed}
use Rattle.log_record.specs.LogList.{units_of, end_of}
use Rattle.log_record.specs.Spelling.{spelling, IsSpellable, BeginsWith}
use Rattle.lock_core.specs.Sums.{Opening}
use Rattle.lock_core.specs.AccountRows.{opening_of}
use Rattle.lock_core.specs.declared.reason.Why.{Why}
use Rattle.lock_core.specs.declared.reason.Why.TheVariants as why
use Rattle.lock_core.specs.History.{end_from}
use Rattle.lock_core.specs.Lawful.{tests, Passes, IsLawful}
use Rattle.lock_core.specs.Faults.{IsFirstFailing, IsUnlawfulAt}
use Rattle.log_record.specs.declared.rec.Rec.TheVariants.{Genesis, Update, Commit, Short, Over, Note}
use Rattle.log_record.proofs.SpellingLemmas.{spelling-append-injective, units_of-injective}
use Rattle.segment_file.specs.Log.{Log, HoldsLog}
use Rattle.segment_file.proofs.OneReading.{one_reading-log, HoldsLog-begins_as_log, HoldsLog-no_bad_snapshot, HoldsLog-no_bad_batch}
use Rattle.segment_file.proofs.OneReading.{bad_snapshot-no_bad_batch, bad_batch-unique, bad_batch-begins_as_log}
use Rattle.log_recovery.specs.declared.recovery.RecoverFault.{RecoverFault}
use Rattle.log_recovery.specs.declared.recovery.RecoverFault.TheVariants as fault
use Rattle.log_recovery.specs.ListedRecords.{IsBadRecAt}
use Rattle.log_recovery.specs.Opened.{OpenedList, log_of, placed}
use Rattle.log_recovery.specs.Recovery.{HoldsList, HoldsLawful, IsFaultOf, IsListedFaultOf}
use Rattle.lock_core.proofs.Fronts.{lawful-front}

-- the first of these tests that fails, test by test
abbrev FailsIn : (Why → Type 0) → List Why → Why → Type 0
FailsIn Pass [] test = ⊥
FailsIn Pass (first ∷ rest) test = ((test ≡ first) × (Pass first → ⊥)) ⊎ (Pass first × FailsIn Pass rest test)

fails-in : (Pass : Why → Type 0) (test : Why) → IsFirstFailing Pass test → FailsIn Pass tests test
fails-in Pass why.Genesis first = inl (refl, first.fails)
fails-in Pass why.Account first = let p = first.passes in inr (p.0, inl (refl, first.fails))
fails-in Pass why.Ended first = let p = first.passes in inr (p.0, inr (p.1.0, inl (refl, first.fails)))
fails-in Pass why.Legs first = let p = first.passes in inr (p.0, inr (p.1.0, inr (p.1.1.0, inl (refl, first.fails))))
fails-in Pass why.Pair first = let p = first.passes in inr (p.0, inr (p.1.0, inr (p.1.1.0, inr (p.1.1.1.0, inl (refl, first.fails)))))
fails-in Pass why.Prev first = let p = first.passes in inr (p.0, inr (p.1.0, inr (p.1.1.0, inr (p.1.1.1.0, inr (p.1.1.1.1.0, inl (refl, first.fails))))))
fails-in Pass why.Stale first =
    let p = first.passes in inr (p.0, inr (p.1.0, inr (p.1.1.0, inr (p.1.1.1.0, inr (p.1.1.1.1.0, inr (p.1.1.1.1.1.0, inl (refl, first.fails)))))))
fails-in Pass why.Balance first =
    let p = first.passes in
    inr (p.0, inr (p.1.0, inr (p.1.1.0, inr (p.1.1.1.0, inr (p.1.1.1.1.0, inr (p.1.1.1.1.1.0, inr (p.1.1.1.1.1.1.0, inl (refl, first.fails))))))))

one-fails : (Pass : Why → Type 0) (list : List Why) (s t : Why) → FailsIn Pass list s → FailsIn Pass list t → s ≡ t
one-fails Pass [] s t first second = absurd first
one-fails Pass (test ∷ list) s t (inl a) (inl b) = a.0 ∙ sym b.0
one-fails Pass (test ∷ list) s t (inl a) (inr b) = absurd (a.1 b.0)
one-fails Pass (test ∷ list) s t (inr a) (inl b) = absurd (b.1 a.0)
one-fails Pass (test ∷ list) s t (inr a) (inr b) = one-fails Pass list s t a.1 b.1

none-fails : (Pass : Why → Type 0) (list : List Why) (t : Why) → FailsIn Pass list t → AllByRecursion Pass list → ⊥
none-fails Pass [] t fails all = fails
none-fails Pass (test ∷ list) t (inl a) all = a.1 all.0
none-fails Pass (test ∷ list) t (inr a) all = none-fails Pass list t a.1 all.1

-- a lawful history has no unlawful entry
pub lawful-unlawful : (opening : Opening) (h : List Placed) (lsn : ℕ) (test : Why) → IsLawful opening h → IsUnlawfulAt opening h lsn test → ⊥
lawful-unlawful opening h lsn test lawful unlawful =
    let front = lawful-front opening unlawful.later (unlawful.entry ∷ unlawful.front) (subst (IsLawful opening) unlawful.whole lawful) in
    none-fails (Passes opening unlawful.front unlawful.entry) tests test (fails-in (Passes opening unlawful.front unlawful.entry) test unlawful.first) front.0

-- the first unlawful entry is the only first one
one-first : (opening : Opening) (later later' : List Placed) (entry entry' : Placed) (front front' : List Placed) (s t : Why)
    → later ++ entry ∷ front ≡ later' ++ entry' ∷ front' → IsLawful opening front → IsLawful opening front'
    → IsFirstFailing (Passes opening front entry) s → IsFirstFailing (Passes opening front' entry') t → (front ≡ front') × (s ≡ t)
one-first opening [] [] entry entry' front front' s t same lawful lawful' first first' =
    let fronts : front ≡ front' = cc same in let entries : entry ≡ entry' = cc same in (
      fronts,
      one-fails (Passes opening front' entry') tests s t
          (fails-in (Passes opening front' entry') s (subst (λ e. IsFirstFailing (Passes opening front' e) s) entries (subst (λ f. IsFirstFailing (Passes opening f entry) s) fronts first)))
          (fails-in (Passes opening front' entry') t first'),
    )
one-first opening [] (x ∷ later') entry entry' front front' s t same lawful lawful' first first' =
    let fronts : front ≡ later' ++ entry' ∷ front' = cc same in
    let passes = lawful-front opening later' (entry' ∷ front') (subst (IsLawful opening) fronts lawful) in
    absurd (none-fails (Passes opening front' entry') tests t (fails-in (Passes opening front' entry') t first') passes.0)
one-first opening (x ∷ later) [] entry entry' front front' s t same lawful lawful' first first' =
    let fronts : front' ≡ later ++ entry ∷ front = cc same in
    let passes = lawful-front opening later (entry ∷ front) (subst (IsLawful opening) fronts lawful') in
    absurd (none-fails (Passes opening front entry) tests s (fails-in (Passes opening front entry) s first) passes.0)
one-first opening (x ∷ later) (y ∷ later') entry entry' front front' s t same lawful lawful' first first' =
    let rest : later ++ entry ∷ front ≡ later' ++ entry' ∷ front' = cc same in
    one-first opening later later' entry entry' front front' s t rest lawful lawful' first first'

pub one-unlawful : (opening : Opening) (h : List Placed) (x y : ℕ) (s t : Why) → IsUnlawfulAt opening h x s → IsUnlawfulAt opening h y t → (x ≡ y) × (s ≡ t)
one-unlawful opening h x y s t first second =
    let both = one-first opening first.later second.later first.entry second.entry first.front second.front s t (sym first.whole ∙ second.whole)
    first.lawful second.lawful first.first second.first in
    (first.place ∙ ap (end_from opening.state.end) both.0 ∙ sym second.place, both.1)

-- a record has a unit
pub spelling_append-not_none : (rec : Rec) (x : List ℕ) → spelling rec ++ x ≡ [] → ⊥
spelling_append-not_none (Genesis account balance) x same = cc
spelling_append-not_none (Update txn account delta prev) x same = cc
spelling_append-not_none (Commit txn legs) x same = cc
spelling_append-not_none (Short txn leg) x same = cc
spelling_append-not_none (Over txn leg) x same = cc
spelling_append-not_none (Note txn text) x same = cc

abbrev BeginsWithNone : List ℕ → Type 0
BeginsWithNone units = (rec : Rec) → BeginsWith units rec → ⊥

-- records and units that begin with none are read in one way
one-front : (xs ys : List Rec) (u v : List ℕ) → AllByRecursion IsSpellable xs → AllByRecursion IsSpellable ys → BeginsWithNone u → BeginsWithNone v
    → units_of xs ++ u ≡ units_of ys ++ v → xs ≡ ys
one-front [] [] u v is_xs is_ys none_u none_v same = refl
one-front [] (s ∷ ys) u v is_xs is_ys none_u none_v same =
    absurd (none_u s (is_ys.0, units_of ys ++ v, same ∙ append_assoc (spelling s) (units_of ys) v))
one-front (r ∷ xs) [] u v is_xs is_ys none_u none_v same =
    absurd (none_v r (is_xs.0, units_of xs ++ u, sym same ∙ append_assoc (spelling r) (units_of xs) u))
one-front (r ∷ xs) (s ∷ ys) u v is_xs is_ys none_u none_v same =
    let head = spelling-append-injective r s (units_of xs ++ u) (units_of ys ++ v) is_xs.0 is_ys.0
    (sym (append_assoc (spelling r) (units_of xs) u) ∙ same ∙ append_assoc (spelling s) (units_of ys) v) in
    let rest = one-front xs ys u v is_xs.1 is_ys.1 none_u none_v head.1 in
    λ i. head.0 i ∷ rest i

-- units that begin with no record are no end of a list
none-listed : (xs ys : List Rec) (u : List ℕ) → AllByRecursion IsSpellable xs → AllByRecursion IsSpellable ys → BeginsWithNone u → 0 < length u
    → units_of xs ++ u ≡ units_of ys → ⊥
none-listed [] [] u is_xs is_ys none some same = let empty = ap length same in absurd (omega arith)
none-listed [] (s ∷ ys) u is_xs is_ys none some same = none s (is_ys.0, units_of ys, same)
none-listed (r ∷ xs) [] u is_xs is_ys none some same = spelling_append-not_none r (units_of xs ++ u) (sym (append_assoc (spelling r) (units_of xs) u) ∙ same)
none-listed (r ∷ xs) (s ∷ ys) u is_xs is_ys none some same =
    let head = spelling-append-injective r s (units_of xs ++ u) (units_of ys) is_xs.0 is_ys.0 (sym (append_assoc (spelling r) (units_of xs) u) ∙ same) in
    none-listed xs ys u is_xs.1 is_ys.1 none some head.1

one-bad-rec : (begin : ℕ) (units : List ℕ) (a b : ℕ) → IsBadRecAt begin units a → IsBadRecAt begin units b → a ≡ b
one-bad-rec begin units a b first second =
    let fronts = one-front first.front second.front first.rest second.rest first.each second.each first.none second.none (sym first.whole ∙ second.whole) in
    first.place ∙ ap (λ records. begin + end_of records) fronts ∙ sym second.place

bad-rec-listed : (bytes : List ℕ) (log : Log) (lsn : ℕ) (list : OpenedList) → HoldsLog bytes log → IsBadRecAt log.opening.lsn log.units lsn → HoldsList bytes list → ⊥
bad-rec-listed bytes log lsn list holds bad held =
    none-listed bad.front list.records bad.rest bad.each held.each bad.none bad.some
    (sym bad.whole ∙ ap (λ (log : Log). log.units) (one_reading-log bytes log (log_of list) holds held.holds))

pub one-list : (bytes : List ℕ) (a b : OpenedList) → HoldsList bytes a → HoldsList bytes b → a ≡ b
one-list bytes a b first second =
    let same = one_reading-log bytes (log_of a) (log_of b) first.holds second.holds in
    let opening : a.opening ≡ b.opening = ap (λ (log : Log). log.opening) same in
    let records : a.records ≡ b.records =
    units_of-injective a.records b.records (All-from_recursion IsSpellable a.records first.each) (All-from_recursion IsSpellable b.records second.each)
    (ap (λ (log : Log). log.units) same) in
    λ i. record { opening = opening i; records = records i }

unlawful-same : (bytes : List ℕ) (a b : OpenedList) (lsn : ℕ) (test : Why) → HoldsList bytes a → HoldsList bytes b
    → IsUnlawfulAt (opening_of a.opening) (placed a) lsn test → IsUnlawfulAt (opening_of b.opening) (placed b) lsn test
unlawful-same bytes a b lsn test first second = subst (λ (list : OpenedList). IsUnlawfulAt (opening_of list.opening) (placed list) lsn test) (one-list bytes a b first second)

pub HoldsList-fault_no_memory : (bytes : List ℕ) (list : OpenedList) (f : RecoverFault) → HoldsList bytes list → IsListedFaultOf bytes f → f ≡ fault.NoMemory
HoldsList-fault_no_memory bytes list fault.NotALog held is = absurd (is (HoldsLog-begins_as_log bytes (log_of list) held.holds))
HoldsList-fault_no_memory bytes list fault.BadSnapshot held is = absurd (HoldsLog-no_bad_snapshot bytes (log_of list) held.holds is)
HoldsList-fault_no_memory bytes list (fault.BadBatch offset) held is = absurd (HoldsLog-no_bad_batch bytes (log_of list) offset held.holds is)
HoldsList-fault_no_memory bytes list (fault.BadRec lsn) held is = absurd (bad-rec-listed bytes is.0 lsn list is.1 is.2 held)
HoldsList-fault_no_memory bytes list (fault.Unlawful lsn test) held is = absurd is
HoldsList-fault_no_memory bytes list fault.NoMemory held is = refl

pub HoldsLawful-fault_no_memory : (bytes : List ℕ) (list : OpenedList) (f : RecoverFault) → HoldsLawful bytes list → IsFaultOf bytes f → f ≡ fault.NoMemory
HoldsLawful-fault_no_memory bytes list fault.NotALog held is = HoldsList-fault_no_memory bytes list fault.NotALog held.list is
HoldsLawful-fault_no_memory bytes list fault.BadSnapshot held is = HoldsList-fault_no_memory bytes list fault.BadSnapshot held.list is
HoldsLawful-fault_no_memory bytes list (fault.BadBatch offset) held is = HoldsList-fault_no_memory bytes list (fault.BadBatch offset) held.list is
HoldsLawful-fault_no_memory bytes list (fault.BadRec lsn) held is = HoldsList-fault_no_memory bytes list (fault.BadRec lsn) held.list is
HoldsLawful-fault_no_memory bytes list (fault.Unlawful lsn test) held is =
    absurd (lawful-unlawful (opening_of list.opening) (placed list) lsn test held.lawful (unlawful-same bytes is.0 list lsn test is.1 held.list is.2))
HoldsLawful-fault_no_memory bytes list fault.NoMemory held is = refl

abbrev pub IsSameOrNoMemory : RecoverFault → RecoverFault → Type 0
IsSameOrNoMemory f g = (f ≡ g) ⊎ (f ≡ fault.NoMemory) ⊎ (g ≡ fault.NoMemory)

-- the log's units have no record at that place, and none are a list: it is the same log
bad-rec-same : (bytes : List ℕ) (a b : Log) (lsn : ℕ) → HoldsLog bytes a → HoldsLog bytes b → IsBadRecAt a.opening.lsn a.units lsn → IsBadRecAt b.opening.lsn b.units lsn
bad-rec-same bytes a b lsn first second = subst (λ (log : Log). IsBadRecAt log.opening.lsn log.units lsn) (one_reading-log bytes a b first second)

pub one-fault : (bytes : List ℕ) (f g : RecoverFault) → IsFaultOf bytes f → IsFaultOf bytes g → IsSameOrNoMemory f g
one-fault bytes fault.NoMemory g is also = inr (inl refl)
one-fault bytes f fault.NoMemory is also = inr (inr refl)
one-fault bytes fault.NotALog fault.NotALog is also = inl refl
one-fault bytes fault.NotALog fault.BadSnapshot is also = absurd (is (inr also.second))
one-fault bytes fault.NotALog (fault.BadBatch offset) is also = absurd (is (bad_batch-begins_as_log bytes offset also))
one-fault bytes fault.NotALog (fault.BadRec lsn) is also = absurd (is (HoldsLog-begins_as_log bytes also.0 also.1))
one-fault bytes fault.NotALog (fault.Unlawful lsn test) is also = absurd (is (HoldsLog-begins_as_log bytes (log_of also.0) also.1.holds))
one-fault bytes fault.BadSnapshot fault.NotALog is also = absurd (also (inr is.second))
one-fault bytes fault.BadSnapshot fault.BadSnapshot is also = inl refl
one-fault bytes fault.BadSnapshot (fault.BadBatch offset) is also = absurd (bad_snapshot-no_bad_batch bytes offset is also)
one-fault bytes fault.BadSnapshot (fault.BadRec lsn) is also = absurd (HoldsLog-no_bad_snapshot bytes also.0 also.1 is)
one-fault bytes fault.BadSnapshot (fault.Unlawful lsn test) is also = absurd (HoldsLog-no_bad_snapshot bytes (log_of also.0) also.1.holds is)
one-fault bytes (fault.BadBatch offset) fault.NotALog is also = absurd (also (bad_batch-begins_as_log bytes offset is))
one-fault bytes (fault.BadBatch offset) fault.BadSnapshot is also = absurd (bad_snapshot-no_bad_batch bytes offset also is)
one-fault bytes (fault.BadBatch offset) (fault.BadBatch other) is also = inl (ap fault.BadBatch (bad_batch-unique bytes offset other is also))
one-fault bytes (fault.BadBatch offset) (fault.BadRec lsn) is also = absurd (HoldsLog-no_bad_batch bytes also.0 offset also.1 is)
one-fault bytes (fault.BadBatch offset) (fault.Unlawful lsn test) is also = absurd (HoldsLog-no_bad_batch bytes (log_of also.0) offset also.1.holds is)
one-fault bytes (fault.BadRec lsn) fault.NotALog is also = absurd (also (HoldsLog-begins_as_log bytes is.0 is.1))
one-fault bytes (fault.BadRec lsn) fault.BadSnapshot is also = absurd (HoldsLog-no_bad_snapshot bytes is.0 is.1 also)
one-fault bytes (fault.BadRec lsn) (fault.BadBatch offset) is also = absurd (HoldsLog-no_bad_batch bytes is.0 offset is.1 also)
one-fault bytes (fault.BadRec lsn) (fault.BadRec other) is also =
    inl (ap fault.BadRec (one-bad-rec also.0.opening.lsn also.0.units lsn other (bad-rec-same bytes is.0 also.0 lsn is.1 also.1 is.2) also.2))
one-fault bytes (fault.BadRec lsn) (fault.Unlawful other test) is also = absurd (bad-rec-listed bytes is.0 lsn also.0 is.1 is.2 also.1)
one-fault bytes (fault.Unlawful lsn test) fault.NotALog is also = absurd (also (HoldsLog-begins_as_log bytes (log_of is.0) is.1.holds))
one-fault bytes (fault.Unlawful lsn test) fault.BadSnapshot is also = absurd (HoldsLog-no_bad_snapshot bytes (log_of is.0) is.1.holds also)
one-fault bytes (fault.Unlawful lsn test) (fault.BadBatch offset) is also = absurd (HoldsLog-no_bad_batch bytes (log_of is.0) offset is.1.holds also)
one-fault bytes (fault.Unlawful lsn test) (fault.BadRec other) is also = absurd (bad-rec-listed bytes also.0 other is.0 also.1 also.2 is.1)
one-fault bytes (fault.Unlawful lsn test) (fault.Unlawful other test') is also =
    let both = one-unlawful (opening_of also.0.opening) (placed also.0) lsn other test test' (unlawful-same bytes is.0 also.0 lsn test is.1 also.1 is.2) also.2 in
    inl (λ i. fault.Unlawful (both.0 i) (both.1 i))
