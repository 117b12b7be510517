-- What was told since a daemon was made, one turn after another.
use Rattle.std.proofs.Common.{◌≡◌, ◌<◌, ◌∙◌, sym, ap, refl, subst, ℕ, ◌+◌, List, [], ◌++◌, length, length-append, append_assoc, append-nil, arith}
use Rattle.std.specs.Io.KnownBytes.{Appends}
use Rattle.std.proofs.KnownBytes.{Appends-nil, Appends-trans}
use Rattle.std.proofs.lemmas.List.Concat.{flat_map-append}
use Rattle.log_disk.specs.declared.sink.Sink.{Ghosts as SinkGhosts}
use Rattle.log_record.specs.declared.rec.Rec.{Rec}
use Rattle.log_record.specs.LogList.{AreUnitsOf, units_of}
use Rattle.log_record.specs.Spelling.{spelling, IsSpellable}
use Rattle.log_rule.specs.declared.view.Constants.{Constants}
use Rattle.log_rule.specs.declared.view.View.{View}
use Rattle.log_rule.specs.Views.{sent_to}
use Rattle.log_table.specs.declared.table.Seat.{Seat}
use Rattle.log_table.specs.Seats.{view_of}
use Rattle.end_lines.specs.declared.voice.Voice.{Voice}
use Rattle.end_lines.specs.EndLines.{text_of}
use Rattle.end_lines.proofs.LineLemmas.{text_of-append}
use Rattle.daemon_turn.proofs.ToldLemmas.{text_of-none}
use Rattle.lsn_space.proofs.TilingLemmas.{all-append}
use Rattle.commit_pipeline.specs.Told.{SentSince, HasTold, HasToldAll, HasToldPart}

-- nothing was sent yet
abbrev pub SentSince-none : (view : View) → SentSince view view
SentSince-none view = record { more = []; spellable = tt; constants = refl; sent = sym (append-nil view.sending.sent) }

module _ (begun now later : View) (since : SentSince begun now) (constants : later.constants ≡ now.constants) where
  -- steps that send nothing
  abbrev pub SentSince-step : later.sending.sent ≡ now.sending.sent → SentSince begun later
  SentSince-step sent = record {
    more = since.more;
    spellable = since.spellable;
    constants = constants ∙ since.constants;
    sent = sent ∙ since.sent;
  }

  -- these records were sent behind the others
  abbrev pub SentSince-more : (units : List ℕ) (records : List Rec) → AreUnitsOf units records
      → later.sending.sent ≡ now.sending.sent ++ units → SentSince begun later
  SentSince-more units records spelled sent = record {
    more = since.more ++ records;
    spellable = all-append IsSpellable since.more records since.spellable spelled.spellable;
    constants = constants ∙ since.constants;
    sent = sent ∙ (λ i. since.sent i ++ spelled.units_are i) ∙ append_assoc begun.sending.sent (units_of since.more) (units_of records)
        ∙ ap (λ us. begun.sending.sent ++ us) (sym (flat_map-append spelling since.more records));
  }

  -- where they start
  place : sent_to now ≡ sent_to begun + length (units_of since.more)
  place = omega (
    arith,
    ap (λ (k : Constants). k.start) since.constants,
    ap length since.sent,
    length-append begun.sending.sent (units_of since.more),
  )

  pub text_of-since_append : (voice : Voice) (records : List Rec) → text_of voice (sent_to begun) (since.more ++ records)
      ≡ text_of voice (sent_to begun) since.more ++ text_of voice (sent_to now) records
  text_of-since_append voice records = text_of-append voice (sent_to begun) since.more records
      ∙ ap (λ n. text_of voice (sent_to begun) since.more ++ text_of voice n records) (sym place)

module _ {K : Type 0} (h : SinkGhosts K) (first : K) (voice : Voice) (begun : View) where
  -- when the daemon is made
  pub HasToldAll-none : HasToldAll h first first voice begun begun
  HasToldAll-none = record {
    since = SentSince-none begun;
    told = subst (Appends (h.held_bytes first) (h.held_bytes first)) (text_of-none voice (sent_to begun))
        (Appends-nil (h.held_bytes first));
  }

  -- all is a prefix
  pub HasToldAll-has_told : (sink : K) (now : View) → HasToldAll h first sink voice begun now → HasTold h first sink voice begun now
  HasToldAll-has_told sink now all =
      let text = text_of voice (sent_to begun) all.since.more in
      record { since = all.since; told = (text, [], sym (append-nil text), all.told) }

  module _ (sink : K) (now later : View) (constants : later.constants ≡ now.constants) where
    pub HasToldAll-step : HasToldAll h first sink voice begun now → later.sending.sent ≡ now.sending.sent
        → HasToldAll h first sink voice begun later
    HasToldAll-step all sent = record { since = SentSince-step begun now later all.since constants sent; told = all.told }

    pub HasTold-step : HasTold h first sink voice begun now → later.sending.sent ≡ now.sending.sent → HasTold h first sink voice begun later
    HasTold-step some sent = record { since = SentSince-step begun now later some.since constants sent; told = some.told }

    module _ (all : HasToldAll h first sink voice begun now) (units : List ℕ) (records : List Rec) (spelled : AreUnitsOf units records)
        (sent : later.sending.sent ≡ now.sending.sent ++ units) (sink' : K) (text : List ℕ)
        (appended : Appends (h.held_bytes sink) (h.held_bytes sink') text) where
      abbrev before : List ℕ
      before = text_of voice (sent_to begun) all.since.more

      -- records were sent, and then all their lines were written
      pub HasToldAll-more : text ≡ text_of voice (sent_to now) records → HasToldAll h first sink' voice begun later
      HasToldAll-more lines = record {
        since = SentSince-more begun now later all.since constants units records spelled sent;
        told = subst (Appends (h.held_bytes first) (h.held_bytes sink'))
            (ap (λ us. before ++ us) lines ∙ sym (text_of-since_append begun now later all.since constants voice records))
            (Appends-trans _ _ _ before text all.told appended);
      }

      -- or a prefix of them
      pub HasTold-more : (rest : List ℕ) → text_of voice (sent_to now) records ≡ text ++ rest → HasTold h first sink' voice begun later
      HasTold-more rest lines = record {
        since = SentSince-more begun now later all.since constants units records spelled sent;
        told = (
          before ++ text,
          rest,
          text_of-since_append begun now later all.since constants voice records ∙ ap (λ us. before ++ us) lines ∙ sym (append_assoc before text rest),
          Appends-trans _ _ _ before text all.told appended,
        );
      }

      -- and not all of them
      pub HasToldPart-more : (rest : List ℕ) → 0 < length rest → text_of voice (sent_to now) records ≡ text ++ rest
          → HasToldPart h first sink' voice begun later
      unfolding HasTold-more
      HasToldPart-more rest some lines =
          let has = HasTold-more rest lines in
          record { since = has.since; told = (has.told.0, has.told.1, has.told.2, has.told.3, some) }

-- when a daemon is made, with the sink and the seat as they are then
pub HasToldAll-made : {K : Type 0} (h : SinkGhosts K) (first sink : K) (voice : Voice) (begun seat : Seat) → first ≡ sink → begun ≡ seat
    → HasToldAll h first sink voice (view_of begun) (view_of seat)
HasToldAll-made h first sink voice begun seat sink_is seat_is =
    subst (λ first. HasToldAll h first sink voice (view_of begun) (view_of seat)) (sym sink_is)
    (subst (λ begun. HasToldAll h sink sink voice (view_of begun) (view_of seat)) (sym seat_is)
    (HasToldAll-none h sink voice (view_of seat)))
