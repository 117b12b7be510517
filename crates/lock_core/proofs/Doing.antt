-- Transfers for which there is room are done, whatever their order, and what they leave doesn't depend on it.
use Rattle.std.proofs.Common.{◌≡◌, ◌≤◌, ◌<◌, ℕ, zero, suc, ◌==◌, ◌||◌, ◌+◌, ◌-◌, cond, ℤ, pos, neg_ℤ, Bool, true, false, true≢false, ◌⊎◌, inl, inr}
use Rattle.std.proofs.Common.{List, [], ◌∷◌, ◌++◌, length, take, Contains, refl, ap, ◌∙◌, sym, subst, arith, append_assoc, eq-eqb, ne_eqb}
use Rattle.std.specs.List.{AllByRecursion}
use Rattle.std.proofs.lemmas.Bool.{le-ltb}
use Rattle.std.proofs.lemmas.List.{take_all}
use Rattle.std.proofs.lemmas.List.Elements.{All-from_recursion, recursion_from_All, All-contains, All-contains_itself}
use mathlib.Core.Logic.{dite}
use native.Mathlib.Decide.{ℕ_discrete}
use Rattle.log_record.specs.declared.rec.Rec.{Rec}
use Rattle.log_record.specs.declared.rec.Placed.{Placed}
use Rattle.log_record.specs.LogList.{end_of, size_of}
use Rattle.log_record.proofs.LogListLemmas.{end_of-cons}
use Rattle.log_record.specs.declared.rec.Rec.TheVariants.{Genesis, Update, Commit, Short, Over, Note}
use Rattle.lsn_space.specs.declared.opening.TheConstants.{MOST_BALANCE}
use Rattle.lock_core.specs.History.{history_from}
use Rattle.lock_core.specs.Records.{txn_of, ends, commits, changes_of, gain, loss}
use Rattle.lock_core.specs.Transactions.{recs_of, own_records_of, has_commit, is_committed, all_without_prev, in_order}
use Rattle.lock_core.specs.Sums.{BaseState, moved, moved_by, total, balance_of}
use Rattle.lock_core.specs.Alone.{PlainTransfer, IsAllowedLeg, IsAllowedTransfer, Done, ShortAt, OverAt, lacks, overfills, after_leg, outcome_from, with_note, leg_updates, outcome_records}
use Rattle.lock_core.specs.Serial.{NumberedTransfer, numbered, IsRunWhole, IsCutShort, HasNoOthers, IsSerialAfter, IsPartlySerialAfter}
use Rattle.lock_core.specs.AnyOrder.{given, taken, legs_of, HasRoomFor, IsDoneIn, done_records, weight_of}
use Rattle.lock_core.proofs.OneMore.{or_false-both_false, of_transaction-first_own, has_commit-unended}
use Rattle.lock_core.proofs.Apart.{own_records_of-none_append}
use Rattle.lock_core.proofs.NextRecords.{size-without_prev}
use Rattle.lock_core.proofs.Running.{note_and_updates-front_unended}
use Rattle.lock_core.proofs.SerialFronts.{IsRunPartly, all-weaken, outcome_records-front_cut_short, has_end-without_prev, partly_serial-front, serial-partly}
use Rattle.lock_core.proofs.Weighing.{has_number, AreDistinct, each_task, each_task-same, IgnoresPrev, weight_of-entry, weight_of-tasks}
use Rattle.lock_core.proofs.Weighing.{weight_of-append, weight_of-in_order, weight_of-without_prev, weight_of-history}

nothing : (b : Bool) → cond {A = ℕ} b 0 0 ≡ 0
nothing true = refl
nothing false = refl

counted-le : (b : Bool) (n : ℕ) → cond {A = ℕ} b n 0 ≤ n
counted-le true n = omega arith
counted-le false n = omega arith

counted-sum : (b : Bool) (m n : ℕ) → cond {A = ℕ} b m 0 + cond {A = ℕ} b n 0 ≡ cond {A = ℕ} b (m + n) 0
counted-sum true m n = refl
counted-sum false m n = refl

-- what a record moves of an account, on one side
abbrev pub moves : (ℤ → ℕ) → ℕ → Rec → ℕ
moves side account rec = moved side account (changes_of rec)

moves-prev : (side : ℤ → ℕ) (account : ℕ) → IgnoresPrev (moves side account)
moves-prev side account (Genesis a balance) = refl
moves-prev side account (Update txn a delta prev) = refl
moves-prev side account (Commit txn legs) = refl
moves-prev side account (Short txn leg) = refl
moves-prev side account (Over txn leg) = refl
moves-prev side account (Note txn text) = refl

moves-end : (side : ℤ → ℕ) (account : ℕ) (rec : Rec) → ends rec ≡ true → moves side account rec ≡ 0
moves-end side account (Genesis a balance) is = refl
moves-end side account (Update txn a delta prev) is = absurd (true≢false (sym is))
moves-end side account (Commit txn legs) is = refl
moves-end side account (Short txn leg) is = refl
moves-end side account (Over txn leg) is = refl
moves-end side account (Note txn text) is = refl

-- what legs move of an account, on one side
abbrev pub legs_move : (ℤ → ℕ) → ℕ → List (ℕ × ℕ × ℕ) → ℕ
legs_move side account [] = 0
legs_move side account (leg ∷ legs) =
    cond (leg.0 == account) (side (neg_ℤ (pos leg.2))) 0 + cond (leg.1 == account) (side (pos leg.2)) 0 + legs_move side account legs

pub loss-negated : (n : ℕ) → loss (neg_ℤ (pos n)) ≡ n
loss-negated zero = refl
loss-negated (suc n) = refl

pub gain-negated : (n : ℕ) → gain (neg_ℤ (pos n)) ≡ 0
gain-negated zero = refl
gain-negated (suc n) = refl

pub legs_move-loss : (account : ℕ) (legs : List (ℕ × ℕ × ℕ)) → legs_move loss account legs ≡ taken account legs
legs_move-loss account [] = refl
legs_move-loss account (leg ∷ legs) =
    let more = legs_move-loss account legs in
    let payer : cond {A = ℕ} (leg.0 == account) (loss (neg_ℤ (pos leg.2))) 0 ≡ cond (leg.0 == account) leg.2 0
    = ap (λ n. cond (leg.0 == account) n 0) (loss-negated leg.2) in
    let payee : cond {A = ℕ} (leg.1 == account) (loss (pos leg.2)) 0 ≡ 0 = nothing (leg.1 == account) in
    omega arith

pub legs_move-gain : (account : ℕ) (legs : List (ℕ × ℕ × ℕ)) → legs_move gain account legs ≡ given account legs
legs_move-gain account [] = refl
legs_move-gain account (leg ∷ legs) =
    let more = legs_move-gain account legs in
    let payer : cond {A = ℕ} (leg.0 == account) (gain (neg_ℤ (pos leg.2))) 0 ≡ 0
    = ap (λ n. cond {A = ℕ} (leg.0 == account) n 0) (gain-negated leg.2) ∙ nothing (leg.0 == account) in
    omega arith

-- the transaction's records are its end record and those before
own_records_of-run : (base : BaseState) (h : List Placed) (task : NumberedTransfer) (run : IsRunWhole base h task) → own_records_of task.number h ≡ run.end.rec ∷ own_records_of task.number run.front
own_records_of-run base h task run =
    ap (own_records_of task.number) run.whole
    ∙ own_records_of-none_append task.number run.later (run.end ∷ run.front) run.last
    ∙ ap recs_of (of_transaction-first_own task.number run.end run.front run.own)

-- a transfer that is cut short is not committed
uncommitted-cut : (h : List Placed) (task : NumberedTransfer) → IsCutShort h task → is_committed task.number h ≡ false
uncommitted-cut h task cut =
    has_commit-unended (own_records_of task.number h) (sym (has_end-without_prev (own_records_of task.number h))
    ∙ note_and_updates-front_unended task.number task.job (all_without_prev (own_records_of task.number h)) cut.rest cut.front)

-- before its end record a transfer is cut short
cut-before : (base : BaseState) (h : List Placed) (task : NumberedTransfer) (run : IsRunWhole base h task) → IsCutShort run.front task
cut-before base h task run = outcome_records-front_cut_short base run.end run.front task run.records

-- the records before an end record are a partly serial history
serial-before : (base : BaseState) (tasks : List NumberedTransfer) (h : List Placed) (task : NumberedTransfer) (run : IsRunWhole base h task)
    → IsPartlySerialAfter base tasks h → IsPartlySerialAfter base tasks run.front
serial-before base tasks h task run serial =
    partly_serial-front base tasks (run.later ++ run.end ∷ []) run.front
    (subst (IsPartlySerialAfter base tasks) (run.whole ∙ sym (append_assoc run.later (run.end ∷ []) run.front)) serial)

module _ (side : ℤ → ℕ) (account : ℕ) where
  moves-updates : (txn : ℕ) (legs : List (ℕ × ℕ × ℕ)) → weight_of (moves side account) (leg_updates txn legs) ≡ legs_move side account legs
  moves-updates txn [] = refl
  moves-updates txn (leg ∷ legs) = let more = moves-updates txn legs in omega arith

  moves-note : (txn : ℕ) (note : List ℕ) (records : List Rec) → weight_of (moves side account) (with_note txn note records) ≡ weight_of (moves side account) records
  moves-note txn [] records = refl
  moves-note txn (byte ∷ bytes) records = omega arith

  -- a transfer that is done moves what its legs say
  pub moves-done : (task : NumberedTransfer) → weight_of (moves side account) (outcome_records task.number task.job Done) ≡ legs_move side account task.job.legs
  moves-done task =
      let all = take_all (length task.job.legs) task.job.legs (omega arith) in
      let updates = moves-updates task.number task.job.legs in
      let end = weight_of-append (moves side account) (leg_updates task.number task.job.legs) (Commit task.number (length task.job.legs) ∷ []) in
      moves-note task.number task.job.note (leg_updates task.number (take (length task.job.legs) task.job.legs) ++ Commit task.number (length task.job.legs) ∷ [])
      ∙ ap (λ legs. weight_of (moves side account) (leg_updates task.number legs ++ Commit task.number (length task.job.legs) ∷ [])) all
      ∙ omega arith

  -- and in any other case at most that
  moves-cut : (h : List Placed) (task : NumberedTransfer) → IsCutShort h task → weight_of (moves side account) (own_records_of task.number h) ≤ legs_move side account task.job.legs
  moves-cut h task cut =
      let parts = weight_of-in_order (moves side account) (all_without_prev (own_records_of task.number h)) cut.rest in
      let same = weight_of-without_prev (moves side account) (own_records_of task.number h) (moves-prev side account) in
      let whole = ap (weight_of (moves side account)) cut.front ∙ moves-note task.number task.job.note (leg_updates task.number task.job.legs)
      ∙ moves-updates task.number task.job.legs in
      omega arith

  moves-partly : (base : BaseState) (h : List Placed) (task : NumberedTransfer) → IsRunPartly base h task
      → weight_of (moves side account) (own_records_of task.number h) ≤ legs_move side account task.job.legs
  moves-partly base h task (inr cut) = moves-cut h task cut
  moves-partly base h task (inl run) =
      let records = ap (weight_of (moves side account)) (own_records_of-run base h task run) in
      let end = moves-end side account run.end.rec run.ended in
      let before = moves-cut run.front task (cut-before base h task run) in
      omega arith

  -- what the committed transactions move, as a sum over the transfers
  abbrev counted : List Placed → NumberedTransfer → ℕ
  counted h task = cond (is_committed task.number h) (weight_of (moves side account) (own_records_of task.number h)) 0

  moved_by-weight : (c : ℕ → Bool) (h : List Placed) → moved_by c side account h ≡ weight_of (λ rec. cond (c (txn_of rec)) (moves side account rec) 0) (recs_of h)
  moved_by-weight c [] = refl
  moved_by-weight c (entry ∷ h) = ap (λ n. cond (c (txn_of entry.rec)) (moves side account entry.rec) 0 + n) (moved_by-weight c h)

  weight_of-counted : (c : ℕ → Bool) (n : ℕ) (h : List Placed)
      → weight_of (λ rec. cond (c (txn_of rec)) (moves side account rec) 0) (own_records_of n h) ≡ cond (c n) (weight_of (moves side account) (own_records_of n h)) 0
  weight_of-counted c n [] = sym (nothing (c n))
  weight_of-counted c n (entry ∷ h) =
      let own : ℕ = moves side account entry.rec in
      let rest : ℕ = weight_of (moves side account) (own_records_of n h) in
      let more = weight_of-counted c n h in
      let left = weight_of-entry (λ rec. cond (c (txn_of rec)) (moves side account rec) 0) n entry h in
      let right : cond {A = ℕ} (c n) (weight_of (moves side account) (own_records_of n (entry ∷ h))) 0 ≡ cond {A = ℕ} (c n) (cond (txn_of entry.rec == n) own 0 + rest) 0
      = ap (λ k. cond {A = ℕ} (c n) k 0) (weight_of-entry (moves side account) n entry h) in
      let both = counted-sum (c n) (cond (txn_of entry.rec == n) own 0) rest in
      let first = first-counted c n (txn_of entry.rec) own in
      omega arith
    where
      first-counted : (c : ℕ → Bool) (n m own : ℕ) → cond {A = ℕ} (m == n) (cond (c m) own 0) 0 ≡ cond {A = ℕ} (c n) (cond (m == n) own 0) 0
      first-counted c n m own = dite (ℕ_discrete m n)
          (λ same. let here = eq-eqb m n same in
          ap (λ b. cond {A = ℕ} b (cond (c m) own 0) 0) here ∙ ap (λ k. cond {A = ℕ} (c k) own 0) same ∙ sym (ap (λ b. cond {A = ℕ} (c n) (cond b own 0) 0) here))
          (λ other. let here = ne_eqb m n other in
          ap (λ b. cond {A = ℕ} b (cond (c m) own 0) 0) here ∙ sym (ap (λ b. cond {A = ℕ} (c n) (cond b own 0) 0) here ∙ nothing (c n)))

  total-tasks : (tasks : List NumberedTransfer) (h : List Placed) → AreDistinct tasks → HasNoOthers tasks h → total side account h ≡ each_task (counted h) tasks
  total-tasks tasks h distinct others =
      moved_by-weight (λ txn. is_committed txn h) h
      ∙ weight_of-tasks (λ rec. cond (is_committed (txn_of rec) h) (moves side account rec) 0) tasks h distinct others
      ∙ (λ i. each_task (λ task. weight_of-counted (λ txn. is_committed txn h) task.number h i) tasks)

each_task-le : (f g : NumberedTransfer → ℕ) (tasks : List NumberedTransfer) → AllByRecursion (λ task. f task ≤ g task) tasks → each_task f tasks ≤ each_task g tasks
each_task-le f g [] all = omega arith
each_task-le f g (task ∷ tasks) all = let first = all.0 in let more = each_task-le f g tasks all.1 in omega arith

-- where one of them counts nothing, its amount is left over
each_task-but : (f g : NumberedTransfer → ℕ) (tasks : List NumberedTransfer) (task : NumberedTransfer) → AllByRecursion (λ t. f t ≤ g t) tasks → Contains tasks task → f task ≡ 0
    → each_task f tasks + g task ≤ each_task g tasks
each_task-but f g tasks task all one = All-contains (λ t. f t ≡ 0 → each_task f tasks + g t ≤ each_task g tasks) tasks task
    (All-from_recursion (λ t. f t ≡ 0 → each_task f tasks + g t ≤ each_task g tasks) tasks (each tasks all)) one
  where
    each : (tasks : List NumberedTransfer) → AllByRecursion (λ t. f t ≤ g t) tasks → AllByRecursion (λ t. f t ≡ 0 → each_task f tasks + g t ≤ each_task g tasks) tasks
    each [] all = tt
    each (first ∷ tasks) all = (
      (λ none. let more = each_task-le f g tasks all.1 in omega (arith, none)),
      all-weaken (λ t. f t ≡ 0 → each_task f tasks + g t ≤ each_task g tasks) (λ t. f t ≡ 0 → f first + each_task f tasks + g t ≤ g first + each_task g tasks)
          (λ t before none. let rest = before none in let own = all.0 in omega arith) tasks (each tasks all.1),
    )

-- before its end, what the others moved and what it is to move are at most what all of them move
total-but : (side : ℤ → ℕ) (account : ℕ) (base : BaseState) (tasks : List NumberedTransfer) (h : List Placed) (task : NumberedTransfer) → AreDistinct tasks
    → IsPartlySerialAfter base tasks h → Contains tasks task → IsCutShort h task
    → total side account h + legs_move side account task.job.legs ≤ each_task (λ t. legs_move side account t.job.legs) tasks
total-but side account base tasks h task distinct serial one cut =
    let sum = total-tasks side account tasks h distinct serial.others in
    let bound = all-weaken (IsRunPartly base h) (λ t. counted side account h t ≤ legs_move side account t.job.legs)
    (λ t run. let most = moves-partly side account base h t run in
    let few = counted-le (is_committed t.number h) (weight_of (moves side account) (own_records_of t.number h)) in omega arith) tasks serial.each in
    let none : counted side account h task ≡ 0
    = ap (λ b. cond {A = ℕ} b (weight_of (moves side account) (own_records_of task.number h)) 0) (uncommitted-cut h task cut) in
    let left = each_task-but (counted side account h) (λ t. legs_move side account t.job.legs) tasks task bound one none in
    omega arith

-- each account has what the legs take, and room for what they give
abbrev pub FitsLegs : ℕ → (ℕ → ℕ) → List (ℕ × ℕ × ℕ) → Type 0
FitsLegs accounts balance legs = (account : ℕ) → account < accounts → (taken account legs ≤ balance account) × (balance account + given account legs ≤ MOST_BALANCE)

fits-after : (accounts : ℕ) (leg : ℕ × ℕ × ℕ) (legs : List (ℕ × ℕ × ℕ)) (balance : ℕ → ℕ) → FitsLegs accounts balance (leg ∷ legs) → FitsLegs accounts (after_leg leg balance) legs
fits-after accounts leg legs balance fits account below = by_case (leg.0 == account) (leg.1 == account) (fits account below)
  where
    by_case : (payer payee : Bool)
        → (cond payer leg.2 0 + taken account legs ≤ balance account) × (balance account + (cond payee leg.2 0 + given account legs) ≤ MOST_BALANCE)
        → (taken account legs ≤ cond payer (balance account - leg.2) (cond payee (balance account + leg.2) (balance account)))
        × (cond payer (balance account - leg.2) (cond payee (balance account + leg.2) (balance account)) + given account legs ≤ MOST_BALANCE)
    by_case true true fit = let covers = fit.0 in let room = fit.1 in (omega arith, omega arith)
    by_case true false fit = let covers = fit.0 in let room = fit.1 in (omega arith, omega arith)
    by_case false true fit = let covers = fit.0 in let room = fit.1 in (omega arith, omega arith)
    by_case false false fit = let covers = fit.0 in let room = fit.1 in (omega arith, omega arith)

legs-done : (accounts k : ℕ) (legs : List (ℕ × ℕ × ℕ)) (balance : ℕ → ℕ) → AllByRecursion (IsAllowedLeg accounts) legs → FitsLegs accounts balance legs
    → outcome_from k legs balance ≡ Done
legs-done accounts k [] balance known fits = refl
legs-done accounts k (leg ∷ legs) balance known fits =
    let payer : cond {A = ℕ} (leg.0 == leg.0) leg.2 0 ≡ leg.2 = ap (λ b. cond {A = ℕ} b leg.2 0) (eq-eqb leg.0 leg.0 refl) in
    let payee : cond {A = ℕ} (leg.1 == leg.1) leg.2 0 ≡ leg.2 = ap (λ b. cond {A = ℕ} b leg.2 0) (eq-eqb leg.1 leg.1 refl) in
    let covers = (fits leg.0 known.0.payer).0 in
    let room = (fits leg.1 known.0.payee).1 in
    let enough : lacks leg balance ≡ false = le-ltb (balance leg.0) leg.2 (omega arith) in
    let within : overfills leg balance ≡ false = le-ltb MOST_BALANCE (balance leg.1 + leg.2) (omega arith) in
    let rest = legs-done accounts (k + 1) legs (after_leg leg balance) known.1 (fits-after accounts leg legs balance fits) in
    λ i. cond (enough i) (ShortAt (k + 1)) (cond (within i) (OverAt (k + 1)) (rest i))

-- the sum over transfers of what their legs take or give
legs_of-numbered : (amount : List (ℕ × ℕ × ℕ) → ℕ) → (amount [] ≡ 0) → ((xs ys : List (ℕ × ℕ × ℕ)) → amount (xs ++ ys) ≡ amount xs + amount ys)
    → (first : ℕ) (jobs : List PlainTransfer) → each_task (λ task. amount task.job.legs) (numbered first jobs) ≡ amount (legs_of jobs)
legs_of-numbered amount none append first [] = sym none
legs_of-numbered amount none append first (job ∷ jobs) =
    let more = legs_of-numbered amount none append (first + 1) jobs in let parts = append job.legs (legs_of jobs) in omega arith

taken-append : (account : ℕ) (xs ys : List (ℕ × ℕ × ℕ)) → taken account (xs ++ ys) ≡ taken account xs + taken account ys
taken-append account [] ys = omega arith
taken-append account (leg ∷ xs) ys = let more = taken-append account xs ys in omega arith

given-append : (account : ℕ) (xs ys : List (ℕ × ℕ × ℕ)) → given account (xs ++ ys) ≡ given account xs + given account ys
given-append account [] ys = omega arith
given-append account (leg ∷ xs) ys = let more = given-append account xs ys in omega arith

pub has_number-below : (n first : ℕ) (jobs : List PlainTransfer) → n < first → has_number (numbered first jobs) n ≡ false
has_number-below n first [] below = refl
has_number-below n first (job ∷ jobs) below =
    let other = ne_eqb n first (λ same. absurd (omega (arith, same))) in
    λ i. other i || has_number-below n (first + 1) jobs (omega arith) i

pub distinct-numbered : (first : ℕ) (jobs : List PlainTransfer) → AreDistinct (numbered first jobs)
distinct-numbered first [] = tt
distinct-numbered first (job ∷ jobs) = (has_number-below first (first + 1) jobs (omega arith), distinct-numbered (first + 1) jobs)

allowed-numbered : (accounts first : ℕ) (jobs : List PlainTransfer) → AllByRecursion (IsAllowedTransfer accounts) jobs → AllByRecursion (λ
    (task : NumberedTransfer). IsAllowedTransfer accounts task.job) (numbered first jobs)
allowed-numbered accounts first [] all = tt
allowed-numbered accounts first (job ∷ jobs) all = (all.0, allowed-numbered accounts (first + 1) jobs all.1)

all-three : (P Q R S : NumberedTransfer → Type 0) → ((task : NumberedTransfer) → P task → Q task → R task → S task) → (tasks : List NumberedTransfer)
    → AllByRecursion P tasks → AllByRecursion Q tasks → AllByRecursion R tasks → AllByRecursion S tasks
all-three P Q R S f [] p q r = tt
all-three P Q R S f (task ∷ tasks) p q r = (f task p.0 q.0 r.0, all-three P Q R S f tasks p.1 q.1 r.1)

-- a weight that a Note doesn't have
weight_of-note : (weight : Rec → ℕ) → ((txn : ℕ) (text : List ℕ) → weight (Note txn text) ≡ 0) → (txn : ℕ) (note : List ℕ) (records : List Rec)
    → weight_of weight (with_note txn note records) ≡ weight_of weight records
weight_of-note weight none txn [] records = refl
weight_of-note weight none txn (byte ∷ bytes) records = let nothing = none txn (byte ∷ bytes) in omega arith

-- a transfer that is done weighs what its records do
weight_of-done_in : (weight : Rec → ℕ) (h : List Placed) (task : NumberedTransfer) → IgnoresPrev weight → IsDoneIn h task
    → weight_of weight (own_records_of task.number h) ≡ weight_of weight (outcome_records task.number task.job Done)
weight_of-done_in weight h task ignores done =
    let parts = weight_of-in_order weight (all_without_prev (own_records_of task.number h)) [] in
    let same = weight_of-without_prev weight (own_records_of task.number h) ignores in
    let whole = ap (weight_of weight) done in
    omega arith

weight_of-done_records : (weight : Rec → ℕ) (tasks : List NumberedTransfer)
    → weight_of weight (done_records tasks) ≡ each_task (λ task. weight_of weight (outcome_records task.number task.job Done)) tasks
weight_of-done_records weight [] = refl
weight_of-done_records weight (task ∷ tasks) =
    let more = weight_of-done_records weight tasks in
    let parts = weight_of-append weight (outcome_records task.number task.job Done) (done_records tasks) in omega arith

-- 1 for a Commit
abbrev commit_weight : Rec → ℕ
commit_weight rec = cond (commits rec) 1 0

commit_weight-prev : IgnoresPrev commit_weight
commit_weight-prev (Genesis account balance) = refl
commit_weight-prev (Update txn account delta prev) = refl
commit_weight-prev (Commit txn legs) = refl
commit_weight-prev (Short txn leg) = refl
commit_weight-prev (Over txn leg) = refl
commit_weight-prev (Note txn text) = refl

-- a transfer that is done is committed
committed-done : (h : List Placed) (task : NumberedTransfer) → IsDoneIn h task → is_committed task.number h ≡ true
committed-done h task done = by_case (is_committed task.number h) refl
  where
    without : (records : List Rec) → has_commit records ≡ false → weight_of commit_weight records ≡ 0
    without [] off = refl
    without (rec ∷ records) off =
        let parts = or_false-both_false (commits rec) (has_commit records) off in
        λ i. cond {A = ℕ} (parts.0 i) 1 0 + without records parts.1 i

    by_case : (b : Bool) → is_committed task.number h ≡ b → b ≡ true
    by_case true is = refl
    by_case false is =
        let none = without (own_records_of task.number h) is in
        let same = weight_of-done_in commit_weight h task commit_weight-prev done in
        let before : List Rec = leg_updates task.number (take (length task.job.legs) task.job.legs) in
        let end = weight_of-append commit_weight before (Commit task.number (length task.job.legs) ∷ []) in
        let noted = weight_of-note commit_weight (λ txn text. refl) task.number task.job.note (before ++ Commit task.number (length task.job.legs) ∷ []) in
        absurd (omega arith)

module _ (base : BaseState) (first : ℕ) (jobs : List PlainTransfer) (room : HasRoomFor base jobs) where
  all_taken : (account : ℕ) → each_task (λ task. legs_move loss account task.job.legs) (numbered first jobs) ≡ taken account (legs_of jobs)
  all_taken account = (λ i. each_task (λ task. legs_move-loss account task.job.legs i) (numbered first jobs))
      ∙ legs_of-numbered (taken account) refl (taken-append account) first jobs

  all_given : (account : ℕ) → each_task (λ task. legs_move gain account task.job.legs) (numbered first jobs) ≡ given account (legs_of jobs)
  all_given account = (λ i. each_task (λ task. legs_move-gain account task.job.legs i) (numbered first jobs))
      ∙ legs_of-numbered (given account) refl (given-append account) first jobs

  -- before its end each transfer finds what it needs
  fits-before : (h : List Placed) (task : NumberedTransfer) → IsPartlySerialAfter base (numbered first jobs) h → Contains (numbered first jobs) task → IsCutShort h task
      → FitsLegs base.accounts (balance_of base h) task.job.legs
  fits-before h task serial one cut account below =
      let distinct = distinct-numbered first jobs in
      let lost = total-but loss account base (numbered first jobs) h task distinct serial one cut in
      let gained = total-but gain account base (numbered first jobs) h task distinct serial one cut in
      let takes = legs_move-loss account task.job.legs in
      let gives = legs_move-gain account task.job.legs in
      let losses = all_taken account in
      let gains = all_given account in
      let covered = room.covered account below in
      let left = room.room account below in
      (omega arith, omega arith)

  run-done : (h : List Placed) → IsPartlySerialAfter base (numbered first jobs) h
      → (task : NumberedTransfer) → Contains (numbered first jobs) task → IsAllowedTransfer base.accounts task.job → IsRunWhole base h task → IsDoneIn h task
  run-done h serial task one allowed run =
      let fits = fits-before run.front task (serial-before base (numbered first jobs) h task run serial) one (cut-before base h task run) in
      let done = legs-done base.accounts 0 task.job.legs (balance_of base run.front) allowed.legs.each fits in
      ap (λ records. in_order (all_without_prev records) []) (own_records_of-run base h task run) ∙ run.records ∙ ap (outcome_records task.number task.job) done

  each_contained : AllByRecursion (Contains (numbered first jobs)) (numbered first jobs)
  each_contained = recursion_from_All (Contains (numbered first jobs)) (numbered first jobs) (All-contains_itself (numbered first jobs))

  pub partly_serial-done_or_cut_short : (h : List Placed) → IsPartlySerialAfter base (numbered first jobs) h
      → AllByRecursion (λ (task : NumberedTransfer). IsDoneIn h task ⊎ IsCutShort h task) (numbered first jobs)
  partly_serial-done_or_cut_short h serial = all-three _ _ (IsRunPartly base h) (λ (task : NumberedTransfer). IsDoneIn h task ⊎ IsCutShort h task)
      (λ task one allowed run. elim run [ inl whole ↦ inl (run-done h serial task one allowed whole) | inr cut ↦ inr cut ])
      (numbered first jobs) each_contained (allowed-numbered base.accounts first jobs room.allowed) serial.each

  pub serial-done : (h : List Placed) → IsSerialAfter base (numbered first jobs) h → AllByRecursion (IsDoneIn h) (numbered first jobs)
  serial-done h serial = all-three _ _ (IsRunWhole base h) (IsDoneIn h)
      (run-done h (serial-partly base (numbered first jobs) h serial))
      (numbered first jobs) each_contained (allowed-numbered base.accounts first jobs room.allowed) serial.each

  -- the history weighs what the records of all transfers do, one after another
  pub serial-weight_of_done_records : (weight : Rec → ℕ) (h : List Placed) → IgnoresPrev weight → IsSerialAfter base (numbered first jobs) h
      → weight_of weight (recs_of h) ≡ weight_of weight (done_records (numbered first jobs))
  serial-weight_of_done_records weight h ignores serial =
      weight_of-tasks weight (numbered first jobs) h (distinct-numbered first jobs) serial.others
      ∙ each_task-same (λ task. weight_of weight (own_records_of task.number h)) (λ task. weight_of weight (outcome_records task.number task.job Done)) (numbered first jobs)
      (all-weaken (IsDoneIn h) _ (λ task done. weight_of-done_in weight h task ignores done) (numbered first jobs) (serial-done h serial))
      ∙ sym (weight_of-done_records weight (numbered first jobs))

  total-done : (side : ℤ → ℕ) (account : ℕ) (h : List Placed) → IsSerialAfter base (numbered first jobs) h
      → total side account h ≡ each_task (λ task. legs_move side account task.job.legs) (numbered first jobs)
  total-done side account h serial =
      total-tasks side account (numbered first jobs) h (distinct-numbered first jobs) serial.others
      ∙ each_task-same (counted side account h) (λ task. legs_move side account task.job.legs) (numbered first jobs)
      (all-weaken (IsDoneIn h) _ all (numbered first jobs) (serial-done h serial))
    where
      all : (task : NumberedTransfer) → IsDoneIn h task → counted side account h task ≡ legs_move side account task.job.legs
      all task done =
          ap (λ b. cond {A = ℕ} b (weight_of (moves side account) (own_records_of task.number h)) 0) (committed-done h task done)
          ∙ weight_of-done_in (moves side account) h task (moves-prev side account) done ∙ moves-done side account task

  pub serial-balance_taken_given : (h : List Placed) (account : ℕ) → IsSerialAfter base (numbered first jobs) h → account < base.accounts
      → balance_of base h account + taken account (legs_of jobs) ≡ base.balance account + given account (legs_of jobs)
  serial-balance_taken_given h account serial below =
      let lost = total-done loss account h serial ∙ all_taken account in
      let gained = total-done gain account h serial ∙ all_given account in
      let covered = room.covered account below in
      omega arith

  pub serial_records-weight_of_done : (weight : Rec → ℕ) (records : List Rec) → IgnoresPrev weight → IsSerialAfter base (numbered first jobs) (history_from base.end [] records)
      → weight_of weight records ≡ weight_of weight (done_records (numbered first jobs))
  serial_records-weight_of_done weight records ignores serial =
      let whole = serial-weight_of_done_records weight (history_from base.end [] records) ignores serial in
      let order = weight_of-history weight base.end [] records in omega arith

pub end_of-weight : (records : List Rec) → end_of records ≡ weight_of size_of records
end_of-weight [] = refl
end_of-weight (rec ∷ records) = omega (arith, end_of-weight records, end_of-cons rec records)

-- the list ends where the records of all transfers, one after another, do
pub serial-end_of_done_records : (base : BaseState) (first : ℕ) (jobs : List PlainTransfer) (records : List Rec) → HasRoomFor base jobs
    → IsSerialAfter base (numbered first jobs) (history_from base.end [] records) → end_of records ≡ end_of (done_records (numbered first jobs))
serial-end_of_done_records base first jobs records room serial =
    end_of-weight records ∙ serial_records-weight_of_done base first jobs room size_of records size-without_prev serial ∙ sym (end_of-weight (done_records (numbered first jobs)))
