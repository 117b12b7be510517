-- Calls that open a file of records, one after another.
use Rattle.std.proofs.Common.{◌≡◌, ◌↔◌, ◌≤◌, ◌∙◌, sym, refl, subst, ℕ, List, [], ◌∷◌, ◌++◌, Result, Ok, Err, IsErrAnd, arith}
use Rattle.std.proofs.lemmas.Result.{err_from_is_err_and}
use Rattle.log_disk.specs.Disk.{put, IsOnlyImage, Leaves}
use Rattle.log_disk.specs.declared.disk.LogDisk.{Ghosts}
use Rattle.log_disk.proofs.Moments.{Leaves-refl, Leaves-trans, Leaves-weaken, Leaves-images_now}
use Rattle.segment_file.specs.Calls.{HasShutGate, HasStableGate, WritesGated}
use Rattle.segment_file.specs.Changes.{ClosesGate, OpensImage}
use Rattle.segment_file.specs.StandingLog.{IsShut}
use Rattle.segment_file.specs.declared.layout.TheConstants.{OPEN}
use Rattle.segment_file.specs.declared.opening.OpenFault.{OpenFault}
use Rattle.segment_file.proofs.GateBytes.{put_open-next_gate_shut}
use Rattle.segment_file.proofs.StableGates.{image-stays_closed}
use Rattle.own_records.specs.declared.appending.End.{End}
use Rattle.own_records.specs.declared.layout.TheConstants.{CLOSED}
use Rattle.own_records.specs.Kept.{AllHold, AllStand, AllFresh, HasEnd, HoldsAsOne, OneStands, IsSettledFresh, Opens, StaysFresh}
use Rattle.own_records.specs.Records.{magic, Holds, made, unmade, IsFresh}
use Rattle.own_records.proofs.Front.{fresh-shut, midway-no_record, written-no_record}
use Rattle.own_records.proofs.Readings.{one_list-holds}
use Rattle.own_records.proofs.Standing.{stays-stands}

fresh-none : (texts : List (List ℕ)) (file : List ℕ) → Holds texts file → IsFresh file → texts ≡ []
fresh-none texts file held fresh = one_list-holds file texts [] held (unmade refl fresh)

-- what holds the one list that an image holds
same_list-holds_as_one : (images : List ℕ → Type 0) (image : List ℕ) → images image → (list : List (List ℕ)) → Holds list image → (c : List ℕ) → Holds list c
    → HoldsAsOne images c
same_list-holds_as_one images image left list is c held = (image, left, λ texts has. subst (λ same. Holds same c) (one_list-holds image list texts is has) held)

one-stands : (at : ℕ) (before now : List ℕ → Type 0) → OneStands at before now → (texts : List (List ℕ)) → AllHold texts before → AllStand at texts now
one-stands at before now one texts held = subst (λ list. AllStand at list now) (one_list-holds one.1 one.0 texts one.3 (held one.1 one.2)) one.4

module _ {D : Type 0} (g : Ghosts D) where
  opens-ok : {E : Type 0} (old new : D) (end : End) → (g.honest old → Leaves g.moment g.images_since (HoldsAsOne (g.images old)) old new)
      → (g.honest old → OneStands end.at (g.images old) (g.images new)) → (g.honest old → IsShut end.at (g.images new)) → g.honest old ↔ g.honest new
      → g.attached new ≡ g.attached old → Opens {E = E} g old new (Ok end)
  opens-ok old new end moments one shut honest attached = record {
    moments = moments;
    stands = λ before. one-stands end.at _ _ (one before);
    one = one;
    shut = shut;
    honest = honest;
    attached = attached;
  }

  opens-err : {F : Type 0} (old new : D) (Q : F → Type 0) (answer : Result End F) → (g.honest old → Leaves g.moment g.images_since (HoldsAsOne (g.images old)) old new)
      → g.honest old ↔ g.honest new → g.attached new ≡ g.attached old → IsErrAnd answer Q → Opens g old new answer
  opens-err old new Q answer moments honest attached is = rw (err_from_is_err_and answer is).1 (record {
    moments = moments;
    stands = λ before texts held. tt;
    one = λ before. tt;
    shut = λ before. tt;
    honest = honest;
    attached = attached;
  })

  -- ---- the answer of a call that opened it, as that of its caller

  pub opens-answered : {E F : Type 0} (old new : D) (end : End) → Opens {E = E} g old new (Ok end) → Opens {E = F} g old new (Ok end)
  opens-answered old new end opens = opens-ok old new end opens.moments opens.one opens.shut opens.honest opens.attached

  -- ---- all bytes of it were read before

  module _ {T : Type 0} (old mid : D) (read : Result T OpenFault) (items : T → List ℕ) (opened : OpensImage g old mid read items) where
    image-moments : Leaves g.moment g.images_since (HoldsAsOne (g.images old)) old mid
    image-moments = Leaves-weaken g.moment g.images_since _ _ old mid (λ c left. (c, left, λ texts held. held)) opened.moments

    module _ (new : D) where
      read-moments : Leaves g.moment g.images_since (HoldsAsOne (g.images mid)) mid new → Leaves g.moment g.images_since (HoldsAsOne (g.images old)) old new
      read-moments moments =
          Leaves-trans g.moment g.images_since _ old mid new image-moments
          (Leaves-weaken g.moment g.images_since _ _ mid new (λ c has. (has.0, opened.images has.0 has.1, has.2)) moments)

      pub image-opened : {F : Type 0} (end : End) → Opens {E = F} g mid new (Ok end) → Opens {E = F} g old new (Ok end)
      image-opened end opens =
          opens-ok old new end (λ honest. read-moments (opens.moments (opened.honest.0 honest)))
          (λ honest. let one = opens.one (opened.honest.0 honest) in (one.0, one.1, opened.images one.1 one.2, one.3, one.4))
          (λ honest. opens.shut (opened.honest.0 honest))
          (λ honest. opens.honest.0 (opened.honest.0 honest), λ honest. opened.honest.1 (opens.honest.1 honest)) (opens.attached ∙ opened.attached)

      pub image-not_opened : {E F : Type 0} (first : Result End E) → Opens g mid new first → (Q : F → Type 0) (answer : Result End F) → IsErrAnd answer Q
          → Opens g old new answer
      image-not_opened first opens Q answer is =
          opens-err old new Q answer (λ honest. read-moments (opens.moments (opened.honest.0 honest)))
          (λ honest. opens.honest.0 (opened.honest.0 honest), λ honest. opened.honest.1 (opens.honest.1 honest)) (opens.attached ∙ opened.attached) is

  module _ (read_is_image : (disk : D) → g.honest disk → g.images disk (g.reads disk)) where
    -- ---- a fresh file

    -- a settled fresh file is fresh in each image
    pub settled-all_fresh : (len : ℕ) (disk : D) → IsSettledFresh g len disk → AllFresh g disk
    settled-all_fresh len disk settled honest c left = subst IsFresh (sym ((settled honest).only c left)) (settled honest).fresh

    none-holds_as_one : (old : D) → AllFresh g old → g.honest old → (c : List ℕ) → Holds [] c → HoldsAsOne (g.images old) c
    none-holds_as_one old fresh honest c held =
        let image = read_is_image old honest in
        same_list-holds_as_one (g.images old) _ image [] (unmade refl (fresh honest _ image)) c held

    -- no record in each image now
    none-one_stands : (old new : D) → AllFresh g old → g.honest old → (at : ℕ) → AllStand at [] (g.images new) → OneStands at (g.images old) (g.images new)
    none-one_stands old new fresh honest at stand =
        let image = read_is_image old honest in
        ([], g.reads old, image, unmade refl (fresh honest _ image), stand)

    -- a file that stayed fresh, and is opened then
    module _ {T E : Type 0} (old mid : D) (first : Result T E) (fresh : AllFresh g old) (stays : StaysFresh g old mid first) where
      stays-moments : g.honest old → Leaves g.moment g.images_since (HoldsAsOne (g.images old)) old mid
      stays-moments honest =
          Leaves-weaken g.moment g.images_since _ _ old mid (λ c is. none-holds_as_one old fresh honest c (unmade refl is)) (stays.moments honest)

      then-moments : (new : D) → (g.honest mid → Leaves g.moment g.images_since (HoldsAsOne (g.images mid)) mid new) → g.honest old
          → Leaves g.moment g.images_since (HoldsAsOne (g.images old)) old new
      then-moments new moments honest =
          Leaves-trans g.moment g.images_since _ old mid new (stays-moments honest)
          (Leaves-weaken g.moment g.images_since _ _ mid new (λ c has.
          none-holds_as_one old fresh honest c (has.2 [] (unmade refl (stays.images honest has.0 has.1)))) (moments (stays.honest.0 honest)))

      pub fresh-opened : {F : Type 0} (new : D) (answer : Result End F) → Opens g mid new answer → Opens g old new answer
      fresh-opened new (Ok end) opens =
          opens-ok old new end (then-moments new opens.moments) (λ honest.
          let one = opens.one (stays.honest.0 honest) in
          none-one_stands old new fresh honest end.at
          (subst (λ list. AllStand end.at list (g.images new)) (fresh-none one.0 one.1 one.3 (stays.images honest one.1 one.2)) one.4))
          (λ honest. opens.shut (stays.honest.0 honest)) (λ honest. opens.honest.0 (stays.honest.0 honest), λ honest. stays.honest.1 (opens.honest.1 honest))
          (opens.attached ∙ stays.attached)
      fresh-opened new (Err fault) opens = record {
        moments = then-moments new opens.moments;
        stands = λ before texts held. tt;
        one = λ before. tt;
        shut = λ before. tt;
        honest = (λ honest. opens.honest.0 (stays.honest.0 honest), λ honest. stays.honest.1 (opens.honest.1 honest));
        attached = opens.attached ∙ stays.attached;
      }

    -- the magic bytes are written behind a closed first gate
    module _ {T E : Type 0} (old new : D) (first : Result T E) (fresh : AllFresh g old) (shut : HasShutGate g 0 old)
        (wrote : WritesGated g 0 (magic ++ CLOSED ∷ []) old new first) where
      made-moments : g.honest old → Leaves g.moment g.images_since (HoldsAsOne (g.images old)) old new
      made-moments honest =
          Leaves-weaken g.moment g.images_since _ _ old new
          (λ c left. none-holds_as_one old fresh honest c (midway-no_record _ _ (read_is_image old honest) (shut honest) (fresh honest) c left)) (wrote.moments honest)

      pub made-failed : {F : Type 0} (Q : F → Type 0) (answer : Result End F) → IsErrAnd answer Q → Opens g old new answer
      made-failed Q answer is = opens-err old new Q answer made-moments wrote.honest wrote.attached is

      pub made-succeeded : (g.honest old → g.reads new ≡ put 0 (OPEN ∷ []) (put 1 (magic ++ CLOSED ∷ []) (g.reads old)))
          → (g.honest old → IsOnlyImage (g.reads new) (g.images new)) → {F : Type 0} → Opens {E = F} g old new (Ok (record { at = 8 }))
      made-succeeded written settled =
          opens-ok old new (record { at = 8 }) made-moments
          (λ honest. none-one_stands old new fresh honest 8
          (written-no_record _ _ (read_is_image old honest) (shut honest) (fresh honest) _ _ (written honest) (settled honest)))
          (λ honest. put_open-next_gate_shut 0 _ (shut honest) _ _ (read_is_image old honest) magic _ _ 8 refl (written honest) (settled honest) refl)
          wrote.honest wrote.attached

    module _ (counts_now : (disk : D) (t : ℕ) (c : List ℕ) → t ≤ g.moment disk → g.images disk c → g.images_since disk t c)
        (only_now : (disk : D) (c : List ℕ) → g.images_since disk (g.moment disk) c → g.images disk c) where
      -- ---- a file with records

      module _ {T E : Type 0} (at : ℕ) (old new : D) (first : Result T E) (stable : HasStableGate g at old) (end : HasEnd g at old)
          (closes : ClosesGate g at old new first) where
        closed-moments : g.honest old → Leaves g.moment g.images_since (HoldsAsOne (g.images old)) old new
        closed-moments honest =
            let found = end honest in
            Leaves-weaken g.moment g.images_since _ _ old new (λ c stays.
            same_list-holds_as_one (g.images old) stays.0 stays.1 found.0 (made at (found.1 stays.0 stays.1)) c (made at (stays-stands at found.0 _ found.1 c stays)))
            (closes.moments honest)

        pub closed-failed : {F : Type 0} (Q : F → Type 0) (answer : Result End F) → IsErrAnd answer Q → Opens g old new answer
        closed-failed Q answer is = opens-err old new Q answer closed-moments closes.honest closes.attached is

        pub closed-succeeded : (g.honest old → IsShut at (g.images new)) → {F : Type 0} → Opens {E = F} g old new (Ok (record { at = at }))
        closed-succeeded shut =
            opens-ok old new (record { at = at }) closed-moments (λ honest.
            let image = read_is_image old honest in
            let found = end honest in (
              found.0,
              g.reads old,
              image,
              made at (found.1 _ image),
              λ c left.
                  stays-stands at found.0 _ found.1 c
                  (Leaves-images_now g.moment g.images_since g.images counts_now _ old new only_now
                  (image-stays_closed at _ _ image (stable honest)) (closes.moments honest) c left),
            ))
            shut closes.honest closes.attached

-- a settled fresh file of two bytes or more has a closed first gate
pub first_there-fresh : {D T E : Type 0} (g : Ghosts D) (len : ℕ) (old : D) (value : T) → IsSettledFresh g len old → 2 ≤ len → StaysFresh {E = E} g old old (Ok value)
first_there-fresh g len old value settled long = record {
  moments = λ honest. Leaves-refl g.moment g.images_since IsFresh old;
  images = λ honest c left. subst IsFresh (sym ((settled honest).only c left)) (settled honest).fresh;
  shut = λ honest. fresh-shut (g.reads old) (g.images old) (settled honest).fresh (omega (arith, long, (settled honest).long)) (settled honest).only;
  honest = (λ honest. honest, λ honest. honest);
  attached = refl;
}
