-- What is written behind a first gate that isn't open.
use Rattle.std.proofs.Common.{◌≡◌, ◌≢◌, inl, inr, ◌≤◌, ◌∙◌, sym, ap, subst, refl, ℕ, zero, suc, ◌+◌, ◌*◌, List, [], ◌∷◌, ◌++◌, length, get_or, take, drop, Some, arith, append_assoc, length-append}
use Rattle.std.specs.List.{slice_get, flat_map}
use Rattle.std.proofs.lemmas.Bool.{cases_eq}
use Rattle.std.proofs.lemmas.List.{length-take-le}
use Rattle.std.proofs.lemmas.Option.{same_Some}
use Rattle.log_disk.specs.Disk.{put, IsTorn, MayBeTorn, IsOnlyImage}
use Rattle.lsn_space.specs.declared.lsn.TheConstants.{LAST}
use Rattle.lsn_space.specs.Opening.{Opening, IsSnapshot}
use Rattle.segment_head.specs.Head.{head, sealed_head}
use Rattle.segment_file.specs.declared.layout.TheConstants.{OPEN, CLOSED}
use Rattle.segment_file.specs.declared.scan_result.Tail.{Tail}
use Rattle.segment_file.specs.File.{batch, gated, IsCountedBatch, BeginsAsLog}
use Rattle.segment_file.specs.Gates.{sealed}
use Rattle.segment_file.specs.Log.{Log, cut_log, with_units, IsFront, first_format, second_format, ReadsTo}
use Rattle.segment_file.specs.StandingLog.{IsShut}
use Rattle.segment_file.proofs.GateBytes.{closed-byte, behind, put-body, put-gate, shut-within}
use Rattle.segment_file.proofs.Scanned.{stands-within}
use Rattle.segment_file.proofs.Seams.{put-behind, slice_get-seam, slice_get-split, torn_byte-front_and_rest_kept}
use Rattle.segment_file.proofs.StandingLemmas as standing
use Rattle.segment_file.proofs.StandingLemmas.{stands-more, length-gated, length-recorded}
use Rattle.segment_cut.specs.Underway.{BatchesStandAt, HoldsBatches, HoldsNoneOrBatches, IsUnderway}
use Rattle.segment_cut.proofs.Headed.{length-sealed_head, opens-headed}

-- ---- the first byte

first-take : (at : ℕ) (bytes : List ℕ) → 1 ≤ at → slice_get (take at bytes) 0 ≡ slice_get bytes 0
first-take zero bytes some = absurd (omega (arith, some))
first-take (suc at) [] some = refl
first-take (suc at) (byte ∷ bytes) some = refl

-- a torn write behind it leaves it as it was
torn-first : (at n : ℕ) (image c : List ℕ) → 1 ≤ at → IsTorn at n image c → slice_get c 0 ≡ slice_get image 0
torn-first at n image c some torn = sym (first-take at c some) ∙ ap (λ bytes. slice_get bytes 0) torn.before ∙ first-take at image some

pub shut-torn : (at n : ℕ) (images news : List ℕ → Type 0) (shut : IsShut 0 images) → 1 ≤ at → ((c : List ℕ) → news c → MayBeTorn at n images c)
    → IsShut 0 news
shut-torn at n images news shut some were = record {
  gate = shut.gate;
  shut = shut.shut;
  stable = λ c left. let torn = were c left in torn-first at n torn.0 c some torn.2 ∙ shut.stable torn.0 torn.1;
}

-- a byte that opens no gate begins no log
shut-no_log : (gate : ℕ) (c : List ℕ) → gate ≢ OPEN → slice_get c 0 ≡ Some gate → BeginsAsLog c → ⊥
shut-no_log gate c shut is (inl log) = shut (same_Some _ _ (sym is ∙ ap (λ bytes. slice_get bytes 0) log.1))
shut-no_log gate c shut is (inr log) = shut (same_Some _ _ (sym is ∙ ap (λ bytes. slice_get bytes 0) log.1))

pub shut-none_or : (log : Log) (batches : List (List ℕ)) (images : List ℕ → Type 0) → IsShut 0 images → (c : List ℕ) → images c → HoldsNoneOrBatches log batches c
shut-none_or log batches images shut c left = inl (shut-no_log shut.gate c shut.shut (shut.stable c left))

pub torn-no_log : (at n : ℕ) (images : List ℕ → Type 0) (shut : IsShut 0 images) → 1 ≤ at → (c : List ℕ) → MayBeTorn at n images c → BeginsAsLog c → ⊥
torn-no_log at n images shut some c torn =
    shut-no_log shut.gate c shut.shut (torn-first at n torn.0 c some torn.2 ∙ shut.stable torn.0 torn.1)

opened-is : (file : List ℕ) → put 0 (OPEN ∷ []) file ≡ OPEN ∷ drop 1 file
opened-is file = put-behind 0 [] refl (OPEN ∷ []) file

-- ---- the head

module _ (opening : Opening) (held : IsSnapshot opening) (file : List ℕ) (images : List ℕ → Type 0) (image : images file) (shut : IsShut 0 images) where
  pub begun : (tail : Tail) → tail.at ≡ 20 + 12 * length opening.accounts → tail.next ≡ opening.lsn → (new : List ℕ) (news : List ℕ → Type 0)
      → new ≡ put 1 (sealed_head opening) file → ((c : List ℕ) → news c → MayBeTorn 1 (length (sealed_head opening)) images c)
      → IsUnderway tail (cut_log opening) [] new news
  unfolding opens-headed standing.stands-headed
  begun tail at next new news written were =
      let rest : List ℕ = behind 0 images shut (sealed_head opening) file image in
      let opened : put 0 (OPEN ∷ []) new ≡ OPEN ∷ (sealed_head opening ++ rest) =
      ap (put 0 (OPEN ∷ [])) written ∙ put-gate 0 images shut (sealed_head opening) file image in
      let whole : new ≡ (shut.gate ∷ head opening) ++ CLOSED ∷ rest =
      written ∙ put-body 0 images shut (sealed_head opening) file image
      ∙ ap (λ bytes. shut.gate ∷ bytes) (append_assoc (head opening) (CLOSED ∷ []) rest) in
      let place : tail.at ≡ length (shut.gate ∷ head opening) =
      omega (arith, at, length-sealed_head opening, length-append (head opening) (CLOSED ∷ [])) in
      record {
        shut = shut-torn 1 (length (sealed_head opening)) images news shut (omega arith) were;
        stands = subst (BatchesStandAt tail (cut_log opening) []) (sym opened) (opens-headed opening held tail at next rest, refl);
        next = ap (λ bytes. slice_get bytes tail.at) whole ∙ ap (slice_get ((shut.gate ∷ head opening) ++ CLOSED ∷ rest)) place
            ∙ slice_get-seam (shut.gate ∷ head opening) CLOSED rest;
      }

-- ---- a batch more

opened-put : (at : ℕ) (file body : List ℕ) → 1 ≤ at → 1 ≤ length file
    → put 0 (OPEN ∷ []) (put at body file) ≡ take at (put 0 (OPEN ∷ []) file) ++ (body ++ drop (at + length body) file)
opened-put zero file body some long = absurd (omega (arith, some))
opened-put (suc at) [] body some long = absurd (omega (arith, long))
opened-put (suc at) (gate ∷ more) body some long =
    append_assoc (OPEN ∷ take at more) body (drop (suc at + length body) (gate ∷ more))

length-opened : (file : List ℕ) → 1 ≤ length file → length (put 0 (OPEN ∷ []) file) ≡ length file
length-opened [] long = absurd (omega (arith, long))
length-opened (gate ∷ more) long = refl

opened-get : (at : ℕ) (file : List ℕ) → 1 ≤ at → 1 ≤ length file → slice_get (put 0 (OPEN ∷ []) file) at ≡ slice_get file at
opened-get zero file some long = absurd (omega (arith, some))
opened-get (suc at) [] some long = absurd (omega (arith, long))
opened-get (suc at) (gate ∷ more) some long = refl

-- what a log begins with has a gate
some-front : (front : List ℕ) (opening : Opening) (units : List ℕ) → IsFront front opening units → 1 ≤ length front
some-front front opening units (first_format nothing counted is) = omega (arith, ap length is)
some-front front opening units (second_format snapshot none is) = omega (arith, ap length is)

module _ (tail : Tail) (log : Log) (batches : List (List ℕ)) (file : List ℕ) (images : List ℕ → Type 0) (image : images file)
    (underway : IsUnderway tail log batches file images) where
  long : 1 ≤ length file
  long = omega (arith, shut-within 0 images underway.shut file image)

  pub underway-tail_within : tail.at ≤ length file
  underway-tail_within = omega (arith, stands-within tail log (put 0 (OPEN ∷ []) file) underway.stands.0, length-opened file long)

  -- the log as it is read, once its first gate is open
  abbrev reads : ReadsTo (put 0 (OPEN ∷ []) file) log underway.stands.0.held.rest
  reads = underway.stands.0.held.reads

  -- the tail lies behind the first gate
  pub underway-tail_positive : 1 ≤ tail.at
  underway-tail_positive = omega (
    arith,
    length-recorded tail log (put 0 (OPEN ∷ []) file) underway.stands.0,
    length-append reads.front (flat_map gated reads.batches),
    some-front reads.front log.opening reads.first reads.begins,
  )

  module _ (more : List ℕ) (counted : IsCountedBatch more) (fits : tail.next + length more ≤ LAST) where
    pub added : (new_tail : Tail) → new_tail.at ≡ tail.at + (5 + 8 * length more) → new_tail.next ≡ tail.next + length more
        → (new : List ℕ) (news : List ℕ → Type 0) → new ≡ put tail.at (OPEN ∷ sealed more) file
        → ((c : List ℕ) → news c → MayBeTorn tail.at (6 + 8 * length more) images c) → IsUnderway new_tail (with_units log more) (batches ++ more ∷ []) new news
    unfolding standing.stands-more
    added new_tail at next new news written were =
        let body : List ℕ = OPEN ∷ sealed more in
        let rest : List ℕ = drop (tail.at + length body) file in
        let split : body ++ rest ≡ gated more ++ (CLOSED ∷ rest) = ap (λ bytes. OPEN ∷ bytes) (append_assoc (batch more) (CLOSED ∷ []) rest) in
        let opened : put 0 (OPEN ∷ []) new ≡ take tail.at (put 0 (OPEN ∷ []) file) ++ (gated more ++ (CLOSED ∷ rest)) =
        ap (put 0 (OPEN ∷ [])) written ∙ opened-put tail.at file body underway-tail_positive long
        ∙ ap (λ bytes. take tail.at (put 0 (OPEN ∷ []) file) ++ bytes) split in
        let whole : new ≡ (take tail.at file ++ gated more) ++ CLOSED ∷ rest =
        written ∙ append_assoc (take tail.at file) body rest ∙ ap (λ bytes. take tail.at file ++ bytes) split ∙ sym (append_assoc (take tail.at file) (gated more) (CLOSED ∷ rest)) in
        let place : new_tail.at ≡ length (take tail.at file ++ gated more) =
        omega (arith, at, length-append (take tail.at file) (gated more), length-gated more, length-take-le tail.at file underway-tail_within) in
        record {
          shut = shut-torn tail.at (6 + 8 * length more) images news underway.shut underway-tail_positive were;
          stands = (
            stands-more tail log (put 0 (OPEN ∷ []) file) underway.stands.0 more counted fits new_tail at next (put 0 (OPEN ∷ []) new) (CLOSED ∷ rest)
                opened (closed-byte CLOSED rest (omega arith)),
            ap (λ before. before ++ more ∷ []) underway.stands.1,
          );
          next = ap (λ bytes. slice_get bytes new_tail.at) whole ∙ ap (slice_get ((take tail.at file ++ gated more) ++ CLOSED ∷ rest)) place
              ∙ slice_get-seam (take tail.at file ++ gated more) CLOSED rest;
        }

  -- ---- the first gate is opened

  first-split : file ≡ underway.shut.gate ∷ drop 1 file
  first-split = slice_get-split file 0 underway.shut.gate (underway.shut.stable file image)

  held-batches : (c : List ℕ) → BatchesStandAt tail log batches c → HoldsBatches log batches c
  held-batches c stands = (stands.0.held, stands.1)

  -- while its byte is written an image is no log, or holds all
  pub opens-none_or : (mids : List ℕ → Type 0) → IsOnlyImage file mids → (c : List ℕ) → MayBeTorn 0 1 mids c → HoldsNoneOrBatches log batches c
  opens-none_or mids settled c torn =
      let byte : ℕ = get_or c 0 0 in
      let split : c ≡ byte ∷ drop 1 file =
      torn_byte-front_and_rest_kept 0 [] refl underway.shut.gate (drop 1 file) c (subst (λ old. IsTorn 0 1 old c) (settled torn.0 torn.1 ∙ first-split) torn.2) in
      elim (cases_eq byte OPEN) [
        | inl opened ↦ inr (held-batches c (subst (BatchesStandAt tail log batches) (sym (split ∙ ap (λ b. b ∷ drop 1 file) opened ∙ sym (opened-is file))) underway.stands))
        | inr closed ↦ inl (shut-no_log byte c closed (ap (λ bytes. slice_get bytes 0) split))
      ]

  pub put_open-batches_stand : (last : List ℕ) (lasts : List ℕ → Type 0) → last ≡ put 0 (OPEN ∷ []) file → IsOnlyImage last lasts → (c : List ℕ) → lasts c
      → BatchesStandAt tail log batches c
  put_open-batches_stand last lasts written settled c left = subst (BatchesStandAt tail log batches) (sym (settled c left ∙ written)) underway.stands

  -- and the next gate stays closed
  pub put_open-tail_gate_shut : (last : List ℕ) (lasts : List ℕ → Type 0) → last ≡ put 0 (OPEN ∷ []) file → IsOnlyImage last lasts → IsShut tail.at lasts
  put_open-tail_gate_shut last lasts written settled = record {
    gate = CLOSED;
    shut = omega arith;
    stable = λ c left. ap (λ bytes. slice_get bytes tail.at) (settled c left ∙ written) ∙ opened-get tail.at file underway-tail_positive long ∙ underway.next;
  }
