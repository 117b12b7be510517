-- What a crash may leave as long as a flusher has the disk, from its making on.
use Rattle.std.proofs.Common.{◌≡◌, ◌≤◌, ◌<◌, ◌∙◌, sym, ap, subst, inl, inr, ⊎_elim, ℕ, ◌+◌, List, [], ◌++◌, length, length-append, append_assoc, append-nil, arith}
use Rattle.std.proofs.lemmas.List.Concat.{flat_map-append}
use Rattle.log_disk.specs.Disk.{Leaves}
use Rattle.log_disk.specs.declared.disk.LogDisk.{Ghosts}
use Rattle.log_disk.proofs.Moments.{Leaves-images_now}
use Rattle.log_record.specs.declared.rec.Rec.{Rec}
use Rattle.log_record.specs.LogList.{AreUnitsOf, units_of}
use Rattle.log_record.specs.Spelling.{spelling, IsSpellable}
use Rattle.segment_file.specs.Log.{Log, with_units, HoldsLog}
use Rattle.segment_file.specs.StandingLog.{LogStands, HoldsLogOrMore}
use Rattle.segment_file.specs.declared.scan_result.Tail.{Tail}
use Rattle.segment_file.proofs.LogLemmas.{with_units-append, with_units-nil}
use Rattle.lsn_space.proofs.TilingLemmas.{all-append}
use Rattle.flusher.specs.KeptLog.{HoldsFront, HoldsSome, KeepsLog, StandsFrom}

-- units of records, one list behind another
pub AreUnitsOf-append : (us vs : List ℕ) (xs ys : List Rec) → AreUnitsOf us xs → AreUnitsOf vs ys → AreUnitsOf (us ++ vs) (xs ++ ys)
AreUnitsOf-append us vs xs ys first second = record {
  spellable = all-append IsSpellable xs ys first.spellable second.spellable;
  units_are = (λ i. first.units_are i ++ second.units_are i) ∙ sym (flat_map-append spelling xs ys);
}

-- all the records are a front of them
HoldsFront-all : (opened : Log) (records : List Rec) (c : List ℕ) → HoldsLog c (with_units opened (units_of records))
    → HoldsFront opened records c
HoldsFront-all opened records c held = record { front = records; rest = []; whole = sym (append-nil records); holds = held }

-- a front of the first few is a front of all
pub HoldsFront-more : (opened : Log) (records more : List Rec) (c : List ℕ) → HoldsFront opened records c
    → HoldsFront opened (records ++ more) c
HoldsFront-more opened records more c held = record {
  front = held.front;
  rest = held.rest ++ more;
  whole = ap (λ rs. rs ++ more) held.whole ∙ append_assoc held.front held.rest more;
  holds = held.holds;
}

-- where no batch is in flight a front of the records sent is held
HoldsSome-front : (opened : Log) (records : List Rec) (c : List ℕ) → HoldsSome opened records [] c → HoldsFront opened records c
HoldsSome-front opened records c held = ⊎_elim (λ front. front)
    (λ all. HoldsFront-all opened records c (subst (HoldsLog c) (with_units-nil (with_units opened (units_of records))) all)) held

module _ {D : Type 0} (g : Ghosts D) where
  module _ (only_now : (disk : D) (c : List ℕ) → g.images_since disk (g.moment disk) c → g.images disk c)
      (disk : D) (tail : Tail) (sent read : List ℕ) (unsent : sent ≡ []) (unread : read ≡ []) (shown : g.images disk (g.reads disk))
      (opened : Log) (stands : LogStands tail opened (g.images disk)) where
    none_sent : with_units opened sent ≡ opened
    none_sent = ap (with_units opened) unsent ∙ with_units-nil opened

    held-first : (c : List ℕ) → g.images disk c → HoldsLog c (with_units opened sent)
    held-first c image = subst (HoldsLog c) (sym none_sent) (stands c image).held

    -- a flusher is made, which has sent nothing
    pub KeepsLog-none_sent : KeepsLog g disk disk tail sent read
    KeepsLog-none_sent = record {
      opened = opened;
      began = λ c image. (stands c image).held;
      shown = shown;
      records = [];
      spelled = record { spellable = tt; units_are = unsent };
      later = omega arith;
      moments = λ c since. inl (HoldsFront-all opened [] c
          (subst (λ us. HoldsLog c (with_units opened us)) unsent (held-first c (only_now disk c since))));
      now = λ c image. inl (held-first c image);
      goes_on = λ _. subst (λ log. LogStands tail log (g.images disk)) (sym none_sent) stands;
    }

  module _ (first disk : D) (tail : Tail) (sent read : List ℕ) (keeps : KeepsLog g first disk tail sent read) where
    -- steps of the seat alone, which leave what it sent and read as it was
    pub KeepsLog-same : (sent' read' : List ℕ) → sent' ≡ sent → read' ≡ read → KeepsLog g first disk tail sent' read'
    KeepsLog-same sent' read' sent_is read_is = subst (λ us. KeepsLog g first disk tail us read') (sym sent_is)
        (subst (λ us. KeepsLog g first disk tail sent us) (sym read_is) keeps)

    module _ (unread : read ≡ []) where
      -- the log that goes on at the tail
      abbrev pub sent_log : Log
      sent_log = with_units keeps.opened sent

      stood : LogStands tail sent_log (g.images disk)
      stood = keeps.goes_on unread

      module _ (counts_now : (disk : D) (t : ℕ) (c : List ℕ) → t ≤ g.moment disk → g.images disk c → g.images_since disk t c)
          (only_now : (disk : D) (c : List ℕ) → g.images_since disk (g.moment disk) c → g.images disk c)
          (disk' : D) (batch : List ℕ) (some : 0 < length batch)
          (writes : Leaves g.moment g.images_since (HoldsLogOrMore sent_log batch) disk disk') where
        front-before : (c : List ℕ) → g.images_since disk (g.moment first) c → HoldsFront keeps.opened keeps.records c
        front-before c was = HoldsSome-front keeps.opened keeps.records c
            (subst (λ us. HoldsSome keeps.opened keeps.records us c) unread (keeps.moments c was))

        -- the log was the opened one and the records sent
        log_is : sent_log ≡ with_units keeps.opened (units_of keeps.records)
        log_is = ap (with_units keeps.opened) keeps.spelled.units_are

        some-written : (c : List ℕ) → HoldsLogOrMore sent_log batch c → HoldsSome keeps.opened keeps.records batch c
        some-written c held = ⊎_elim
            (λ (was : HoldsLog c sent_log). inl (HoldsFront-all keeps.opened keeps.records c (subst (HoldsLog c) log_is was)))
            (λ (all : HoldsLog c (with_units sent_log batch)). inr (subst (λ log. HoldsLog c (with_units log batch)) log_is all)) held

        -- the units that were read are written, whole or not at all
        pub KeepsLog-written : (tail' : Tail) → KeepsLog g first disk' tail' sent batch
        KeepsLog-written tail' = record {
          opened = keeps.opened;
          began = keeps.began;
          shown = keeps.shown;
          records = keeps.records;
          spelled = keeps.spelled;
          later = omega (arith, keeps.later, writes.later);
          moments = λ c since.
              ⊎_elim (λ was. inl (front-before c was)) (λ held. some-written c held) (writes.each (g.moment first) c keeps.later since);
          now = λ c image. Leaves-images_now g.moment g.images_since g.images counts_now (HoldsLogOrMore sent_log batch) disk disk' only_now
              (λ b here. inl (stood b here).held) writes c image;
          goes_on = λ none. absurd (omega (arith, some, ap length none));
        }

        module _ (tail' : Tail) (more : List Rec) (spelled : AreUnitsOf batch more)
            (stands : LogStands tail' (with_units sent_log batch) (g.images disk')) where
          abbrev all : List Rec
          all = keeps.records ++ more

          both : AreUnitsOf (sent ++ batch) all
          both = AreUnitsOf-append sent batch keeps.records more keeps.spelled spelled

          both_are : with_units sent_log batch ≡ with_units keeps.opened (sent ++ batch)
          both_are = with_units-append keeps.opened sent batch

          held-both : (c : List ℕ) → HoldsLog c (with_units sent_log batch) → HoldsLog c (with_units keeps.opened (sent ++ batch))
          held-both c is = subst (HoldsLog c) both_are is

          front-was : (c : List ℕ) → HoldsFront keeps.opened keeps.records c → HoldsFront keeps.opened all c
          front-was c was = HoldsFront-more keeps.opened keeps.records more c was

          front-either : (c : List ℕ) → HoldsLogOrMore sent_log batch c → HoldsFront keeps.opened all c
          front-either c is = ⊎_elim
              (λ (was : HoldsLog c sent_log). front-was c (HoldsFront-all keeps.opened keeps.records c (subst (HoldsLog c) log_is was)))
              (λ (now : HoldsLog c (with_units sent_log batch)). HoldsFront-all keeps.opened all c
              (subst (λ us. HoldsLog c (with_units keeps.opened us)) both.units_are (held-both c now))) is

          -- they are written, and then count as sent
          pub KeepsLog-sent : KeepsLog g first disk' tail' (sent ++ batch) []
          KeepsLog-sent = record {
            opened = keeps.opened;
            began = keeps.began;
            shown = keeps.shown;
            records = all;
            spelled = both;
            later = omega (arith, keeps.later, writes.later);
            moments = λ c since. inl (⊎_elim (λ was. front-was c (front-before c was)) (λ is. front-either c is)
                (writes.each (g.moment first) c keeps.later since));
            now = λ c image. inl (held-both c (stands c image).held);
            goes_on = λ _. subst (λ log. LogStands tail' log (g.images disk')) both_are stands;
          }

module _ {D : Type 0} (g : Ghosts D)
    (counts_now : (disk : D) (t : ℕ) (c : List ℕ) → t ≤ g.moment disk → g.images disk c → g.images_since disk t c)
    (only_now : (disk : D) (c : List ℕ) → g.images_since disk (g.moment disk) c → g.images disk c)
    (first disk : D) (tail : Tail) (sent read : List ℕ) (unread : read ≡ [])
    (disk' : D) (batch units : List ℕ) (same : batch ≡ units) (some : 0 < length units)
    (moments : (log : Log) → LogStands tail log (g.images disk) → Leaves g.moment g.images_since (HoldsLogOrMore log batch) disk disk')
    (keeps : KeepsLog g first disk tail sent read) where
  -- an append of the units, said of the log that was opened and what was sent
  wrote : Leaves g.moment g.images_since (HoldsLogOrMore (with_units keeps.opened sent) units) disk disk'
  wrote = subst (λ us. Leaves g.moment g.images_since (HoldsLogOrMore (with_units keeps.opened sent) us) disk disk') same
      (moments (with_units keeps.opened sent) (keeps.goes_on unread))

  -- the units were read, and are being written
  pub KeepsLog-in_flight : (tail' : Tail) (sent' read' : List ℕ) → sent' ≡ sent → read' ≡ units → KeepsLog g first disk' tail' sent' read'
  KeepsLog-in_flight tail' sent' read' sent_is read_is =
      KeepsLog-same g first disk' tail' sent units
      (KeepsLog-written g first disk tail sent read keeps unread counts_now only_now disk' units some wrote tail')
      sent' read' sent_is read_is

  -- they were written, and count as sent
  pub KeepsLog-flushed : (tail' : Tail) (more : List Rec) → AreUnitsOf units more
      → ((log : Log) → LogStands tail log (g.images disk) → LogStands tail' (with_units log batch) (g.images disk'))
      → (sent' read' : List ℕ) → sent' ≡ sent ++ units → read' ≡ [] → KeepsLog g first disk' tail' sent' read'
  KeepsLog-flushed tail' more spelled appended sent' read' sent_is read_is =
      let stands = subst (λ us. LogStands tail' (with_units (with_units keeps.opened sent) us) (g.images disk')) same
      (appended (with_units keeps.opened sent) (keeps.goes_on unread)) in
      KeepsLog-same g first disk' tail' (sent ++ units) []
      (KeepsLog-sent g first disk tail sent read keeps unread counts_now only_now disk' units some wrote tail' more spelled stands)
      sent' read' sent_is read_is

-- the last units that were sent stand in each image, behind those before them
module _ {D : Type 0} (g : Ghosts D) (first disk : D) (tail : Tail) (sent read : List ℕ) (keeps : KeepsLog g first disk tail sent read)
    (unread : read ≡ []) (before units : List ℕ) (split : sent ≡ before ++ units) (from : ℕ) (end : tail.next ≡ from + length units) where
  abbrev opened_units : List ℕ
  opened_units = keeps.opened.units

  last-behind : opened_units ++ sent ≡ (opened_units ++ before) ++ (units ++ [])
  last-behind = ap (λ us. opened_units ++ us) split ∙ sym (append_assoc opened_units before units)
      ∙ ap (λ us. (opened_units ++ before) ++ us) (sym (append-nil units))

  last-from : tail.next ≡ keeps.opened.opening.lsn + length (opened_units ++ sent)
      → from ≡ keeps.opened.opening.lsn + length (opened_units ++ before)
  last-from next = omega (
    arith,
    next,
    end,
    ap length last-behind,
    length-append (opened_units ++ before) (units ++ []),
    ap length (append-nil units),
  )

  pub StandsFrom-last_units : (c : List ℕ) → g.images disk c → StandsFrom from units c
  StandsFrom-last_units c image =
      let stands = keeps.goes_on unread c image in
      record {
        log = with_units keeps.opened sent;
        before = opened_units ++ before;
        after = [];
        holds = stands.held;
        whole = last-behind;
        from_is = last-from stands.next;
      }
