-- What a call came to says, of each command, what it promises where the words ask it; and what is so whatever they ask.
use Rattle.std.proofs.Common.{◌≡◌, ◌⊎◌, inl, inr, ◌∙◌, refl, ap, sym, subst, ℕ, List, Option, IfSome, arith}
use Rattle.std.specs.Io.KnownBytes.{Keeps}
use Rattle.command_line.specs.CommandLine.{AreTaken, IsCommandLine}
use Rattle.command_line.specs.declared.command.Command.{Command}
use Rattle.command_line.specs.declared.command.Command.TheVariants.{New, Run, Recover, Dump, Demo, Cut, Upgrade, Ship, Follow, AsOf, Statement}
use Rattle.command_line.specs.declared.options.RunOptions.{RunOptions}
use Rattle.command_line.proofs.Asking.{IsCommandLine-same}
use Rattle.log_disk.proofs.Counting.{Costs-weaken, Costs-none}
use Rattle.log_disk.specs.Costs.{Costs}
use Rattle.log_disk.specs.declared.disk.LogDisk.{Ghosts}
use Rattle.log_disk.specs.declared.source.Source.{Ghosts as SourceGhosts}
use Rattle.log_disk.specs.declared.sink.Sink.{Ghosts as SinkGhosts}
use Rattle.log_disk.proofs.Moments.{Leaves-refl}
use Rattle.cli_shared.specs.Opening.{most_calls}
use Rattle.cli_shared.specs.Outside.{OnlyReads, outside}
use Rattle.cli_shared.specs.declared.report.Detail.{Detail}
use Rattle.cli_shared.specs.declared.report.Detail.TheVariants.{NoMemory, Usage, Read, Write, Disk}
use Rattle.cli_shared.specs.Answers.{StaysSilent}
use Rattle.cli_shared.proofs.ToldLemmas.{Keeps-refl, IfSome-nothing_said}
use Rattle.cli_reports.specs.Answers.{IsAnswerToDump, IsAnswerToRecover}
use Rattle.cli_reports.specs.Command.{HasReported}
use Rattle.cli_reports.specs.Reports.{IsAnswerOnAccount, IsAnswerAtLsn}
use Rattle.cli_reports.proofs.ReportedLemmas.{counts_read-none, reported-none_written}
use Rattle.cli_standby.specs.Following.{IsAnswerToFollow}
use Rattle.cli_new.specs.Answers.{IsAnswerToNew}
use Rattle.cli_new.specs.Command.{DoesNew}
use Rattle.cli_cut.specs.Answers.{IsAnswerToCut}
use Rattle.cli_cut.specs.Command.{DoesCut, DoesUpgrade}
use Rattle.cli_run.specs.RunAnswers.{IsAnswerToRun}
use Rattle.cli_demo.specs.Demo.{IsAnswerToDemo}
use Rattle.cli_shared.specs.World.{TellsFaults, World}
use Rattle.cli_dispatch.specs.Alone.{AnsweredAlone, DoesAlone}
use Rattle.cli_dispatch.specs.declared.answer.Answer.TheVariants.{Done}
use Rattle.cli_top.specs.Answered.{Answered, Does, DoesDemo, Obeys}
use Rattle.cli_top.specs.Asks.{AsksCut, AsksDemo, AsksFollow, AsksNew, AsksRun, AsksUpgrade}
use Rattle.cli_top.proofs.DemoTold.{TellsSummary-stays_silent}

-- a detail that names the object of a fault
abbrev IsFault : Detail → Type 0
IsFault Read = Unit {0}
IsFault Write = Unit {0}
IsFault Disk = Unit {0}
IsFault detail = ⊥

module _ {D S K : Type 0} (g : Ghosts D) (h : SourceGhosts S) (i : SinkGhosts K) where
  -- nothing costs nothing
  costs-none : (disk : D) → Costs g 7 11 disk disk
  costs-none disk = Costs-weaken g 0 7 0 11 disk disk (omega arith) (omega arith) (Costs-none g disk)

  costs-found : (disk : D) → Costs g 1 4 disk disk
  costs-found disk = Costs-weaken g 0 1 0 4 disk disk (omega arith) (omega arith) (Costs-none g disk)

  costs-looks : (disk : D) → Costs g 1 (most_calls g disk) disk disk
  costs-looks disk = Costs-weaken g 0 1 0 (most_calls g disk) disk disk (omega arith) (omega arith) (Costs-none g disk)

  nothing-reported : (Answers : List ℕ → Option (List ℕ) → Option (List ℕ) → Option (List ℕ) → Detail → Type 0) (IsAnswer : Detail → Type 0)
      (script : S) (out : K) → IsAnswer NoMemory
      → IfSome (h.left script) (λ bytes. Answers bytes (h.left script) (i.held_bytes out) (i.held_bytes out) NoMemory)
      → HasReported h i Answers IsAnswer script script out out NoMemory
  nothing-reported Answers IsAnswer script out range answer =
      reported-none_written h i Answers IsAnswer script script out NoMemory range (counts_read-none _ _ NoMemory refl (λ tells. tells)) (Keeps-refl _)
      (λ tells. tells) answer

  -- the disk was not looked at, and nothing was written
  nothing-read : (disk : D) (left text : Option (List ℕ)) → OnlyReads g (outside disk left text) (outside disk left text)
  nothing-read disk left text =
      record { silent = Keeps-refl _; disk = record { images = Leaves-refl _ _ _ _; reads = refl; count = costs-looks disk } }

  no-new : (old : World D S K) (log : List ℕ) → DoesNew g h i log old old NoMemory
  no-new old log = record {
    answer = IfSome-nothing_said _;
    silent = Keeps-refl _;
    range = tt;
    images = λ honest. Leaves-refl _ _ _ _;
    made = λ honest follows. absurd follows;
    kept = λ precedes. Leaves-refl _ _ _ _;
    unchanged = λ honest precedes. refl;
    exists = λ honest. tt;
    count = λ honest. costs-none old.disk;
    attached = λ honest. inl refl;
    grows = λ honest. inl refl;
  }

  no-cut : (old : World D S K) (log : List ℕ) → DoesCut g h i log old old NoMemory
  no-cut old log = record {
    answer = IfSome-nothing_said _;
    silent = Keeps-refl _;
    range = tt;
    images = λ honest. Leaves-refl _ _ _ _;
    made = λ honest follows. absurd follows;
    kept = λ precedes. Leaves-refl _ _ _ _;
    unchanged = λ honest precedes. refl;
    exists = λ honest. tt;
    count = λ honest. costs-none old.disk;
    attached = λ honest. inl refl;
    grows = λ honest. inl refl;
  }

  no-upgrade : (old : World D S K) (log : List ℕ) → DoesUpgrade g h i log old old NoMemory
  no-upgrade old log = record {
    answer = IfSome-nothing_said _;
    silent = Keeps-refl _;
    range = tt;
    images = λ honest. Leaves-refl _ _ _ _;
    made = λ honest follows. absurd follows;
    kept = λ precedes. Leaves-refl _ _ _ _;
    unchanged = λ honest precedes. refl;
    exists = λ honest. tt;
    count = λ honest. inl (costs-found old.disk);
    attached = λ honest. inl refl;
    grows = λ honest. inl refl;
  }

  no-demo : (old : World D S K) (log : List ℕ) (n seed : ℕ) (options : RunOptions) → DoesDemo g i log n seed options old old NoMemory
  no-demo old log n seed options = record {
    demonstrated = record {
      answer = λ honest. record { images = Leaves-refl _ _ _ _; reads = refl; count = costs-looks old.disk };
      text = Keeps-refl _;
      range = tt;
      exists = λ honest. tt;
      attached = λ honest. inl refl;
    };
    unread = refl;
  }

  -- a call that did nothing has done what a command without memory does
  nothing-done : (old : World D S K) (command : Command) → Does g h i command old old NoMemory
  nothing-done old (New log) = no-new old log
  nothing-done old (Cut log) = no-cut old log
  nothing-done old (Upgrade log) = no-upgrade old log
  nothing-done old (Demo log n seed options) = no-demo old log n seed options
  nothing-done old (Run log options) =
      record { answer = λ honest. nothing-read _ _ _; silent = Keeps-refl _; range = tt; attached = λ honest. inl refl }
  nothing-done old (Follow log) =
      record { answer = λ honest. inl (nothing-read _ _ _); silent = Keeps-refl _; range = tt; attached = λ honest. inl refl }
  nothing-done old command = record { report = nothing-reported _ _ _ _ tt (IfSome-nothing_said _); untouched = refl }

  no-faults : (old : World D S K) (detail : Detail) → (IsFault detail → ⊥) → TellsFaults g h i old old detail
  no-faults old detail none = record {
    read = record { counted = λ read. absurd (none (subst IsFault (sym read) tt)); fine = λ other. refl };
    write = record { counted = λ write. absurd (none (subst IsFault (sym write) tt)); fine = λ other. refl };
    disk = record { counted = λ disk. absurd (none (subst IsFault (sym disk) tt)); fine = λ other. refl };
    honest = (λ honest. honest, λ honest. honest);
  }

  not-usage : (old new : World D S K) (detail : Detail) (command : Command) → Does g h i command old new detail → detail ≡ Usage → ⊥
  not-usage old new detail (New log) done usage = subst IsAnswerToNew usage done.range
  not-usage old new detail (Run log options) done usage = subst IsAnswerToRun usage done.range
  not-usage old new detail Recover done usage = subst IsAnswerToRecover usage done.report.range
  not-usage old new detail Dump done usage = subst IsAnswerToDump usage done.report.range
  not-usage old new detail (Demo log n seed options) done usage = subst IsAnswerToDemo usage done.demonstrated.range
  not-usage old new detail (Cut log) done usage = subst IsAnswerToCut usage done.range
  not-usage old new detail (Upgrade log) done usage = subst IsAnswerToCut usage done.range
  not-usage old new detail (Ship from) done usage = subst IsAnswerAtLsn usage done.report.range
  not-usage old new detail (Follow log) done usage = subst IsAnswerToFollow usage done.range
  not-usage old new detail (AsOf lsn) done usage = subst IsAnswerAtLsn usage done.report.range
  not-usage old new detail (Statement account) done usage = subst IsAnswerOnAccount usage done.report.range

  module _ (words : List (List ℕ)) (old new : World D S K) (detail : Detail) where
    -- only the commands that work on the disk change it
    done-untouched : (command : Command) → IsCommandLine words command → Does g h i command old new detail → (AsksNew words → ⊥)
        → (AsksRun words → ⊥) → (AsksDemo words → ⊥) → (AsksCut words → ⊥) → (AsksUpgrade words → ⊥) → (AsksFollow words → ⊥)
        → new.disk ≡ old.disk
    done-untouched (New log) asked done making running demonstrating cutting upgrading following = absurd (making (log, asked))
    done-untouched (Run log options) asked done making running demonstrating cutting upgrading following =
        absurd (running (log, options, asked))
    done-untouched (Demo log n seed options) asked done making running demonstrating cutting upgrading following =
        absurd (demonstrating (log, n, seed, options, asked))
    done-untouched (Cut log) asked done making running demonstrating cutting upgrading following = absurd (cutting (log, asked))
    done-untouched (Upgrade log) asked done making running demonstrating cutting upgrading following = absurd (upgrading (log, asked))
    done-untouched (Follow log) asked done making running demonstrating cutting upgrading following = absurd (following (log, asked))
    done-untouched command asked done making running demonstrating cutting upgrading following = done.untouched

    costs-same : new.disk ≡ old.disk → Costs g 7 11 old.disk new.disk
    costs-same same = subst (λ disk. Costs g 7 11 old.disk disk) (sym same) (costs-none old.disk)

    done-count : (command : Command) → IsCommandLine words command → Does g h i command old new detail → (AsksRun words → ⊥)
        → (AsksDemo words → ⊥) → (AsksUpgrade words → ⊥) → (AsksFollow words → ⊥) → g.honest old.disk → Costs g 7 11 old.disk new.disk
    done-count (New log) asked done running demonstrating upgrading following honest = done.count honest
    done-count (Cut log) asked done running demonstrating upgrading following honest = done.count honest
    done-count (Run log options) asked done running demonstrating upgrading following honest = absurd (running (log, options, asked))
    done-count (Demo log n seed options) asked done running demonstrating upgrading following honest =
        absurd (demonstrating (log, n, seed, options, asked))
    done-count (Upgrade log) asked done running demonstrating upgrading following honest = absurd (upgrading (log, asked))
    done-count (Follow log) asked done running demonstrating upgrading following honest = absurd (following (log, asked))
    done-count command asked done running demonstrating upgrading following honest = costs-same done.untouched

    done-silent : (command : Command) → IsCommandLine words command → Does g h i command old new detail → (AsksRun words → ⊥)
        → StaysSilent (i.held_bytes old.out) (i.held_bytes new.out) detail
    done-silent (New log) asked done running = done.silent
    done-silent (Cut log) asked done running = done.silent
    done-silent (Upgrade log) asked done running = done.silent
    done-silent (Follow log) asked done running = done.silent
    done-silent (Run log options) asked done running = absurd (running (log, options, asked))
    done-silent (Demo log n seed options) asked done running = TellsSummary-stays_silent n seed _ _ detail done.demonstrated.text
    done-silent command asked done running = done.report.silent

  still-kept : (old new : World D S K) → new ≡ old → Keeps (i.held_bytes old.out) (i.held_bytes new.out)
  still-kept old new same = subst (λ (w : World D S K). Keeps (i.held_bytes old.out) (i.held_bytes w.out)) (sym same) (Keeps-refl _)

  module _ (words : List (List ℕ)) (old new : World D S K) (detail : Detail) where
    pub Answered-tells_faults : Answered g h i words old new detail → TellsFaults g h i old new detail
    Answered-tells_faults (inl has) = has.obeys.faults
    Answered-tells_faults (inr (inl (usage, none, same))) =
        subst (λ w. TellsFaults g h i old w detail) (sym same) (no-faults old detail (λ fault. subst IsFault usage fault))
    Answered-tells_faults (inr (inr (memory, same))) =
        subst (λ w. TellsFaults g h i old w detail) (sym same) (no-faults old detail (λ fault. subst IsFault memory fault))

    -- where the words ask this command, it did what it promises
    pub Answered-does_command : Answered g h i words old new detail → (command : Command) → IsCommandLine words command
        → Does g h i command old new detail
    Answered-does_command (inl has) command asked =
        subst (λ c. Does g h i c old new detail) (IsCommandLine-same words has.command command has.asked asked) has.obeys.done
    Answered-does_command (inr (inl (usage, none, same))) command asked = absurd (none (command, asked))
    Answered-does_command (inr (inr (memory, same))) command asked =
        subst (λ d. Does g h i command old new d) (sym memory)
        (subst (λ w. Does g h i command old w NoMemory) (sym same) (nothing-done old command))

    pub Answered-usage_not_taken : Answered g h i words old new detail → detail ≡ Usage → AreTaken words → ⊥
    Answered-usage_not_taken (inl has) usage taken = not-usage old new detail has.command has.obeys.done usage
    Answered-usage_not_taken (inr (inl (_, none, same))) usage taken = none taken
    Answered-usage_not_taken (inr (inr (memory, same))) usage taken = subst IsAnswerToRecover (sym memory ∙ usage) tt

    pub Answered-not_taken_detail : Answered g h i words old new detail → (AreTaken words → ⊥) → (detail ≡ Usage) ⊎ (detail ≡ NoMemory)
    Answered-not_taken_detail (inl has) none = absurd (none (has.command, has.asked))
    Answered-not_taken_detail (inr (inl (usage, _, same))) none = inl usage
    Answered-not_taken_detail (inr (inr (memory, same))) none = inr memory

    -- words that ask nothing change nothing
    pub Answered-not_taken_same : Answered g h i words old new detail → (AreTaken words → ⊥) → new ≡ old
    Answered-not_taken_same (inl has) none = absurd (none (has.command, has.asked))
    Answered-not_taken_same (inr (inl (usage, _, same))) none = same
    Answered-not_taken_same (inr (inr (memory, same))) none = same

    same-disk : new ≡ old → new.disk ≡ old.disk
    same-disk same = ap (λ (w : World D S K). w.disk) same

    pub Answered-disk_same : Answered g h i words old new detail → (AsksNew words → ⊥) → (AsksRun words → ⊥) → (AsksDemo words → ⊥)
        → (AsksCut words → ⊥) → (AsksUpgrade words → ⊥) → (AsksFollow words → ⊥) → new.disk ≡ old.disk
    Answered-disk_same (inl has) = done-untouched words old new detail has.command has.asked has.obeys.done
    Answered-disk_same (inr (inl (usage, _, same))) = λ making running demonstrating cutting upgrading following. same-disk same
    Answered-disk_same (inr (inr (memory, same))) = λ making running demonstrating cutting upgrading following. same-disk same

    pub Answered-costs : Answered g h i words old new detail → (AsksRun words → ⊥) → (AsksDemo words → ⊥) → (AsksUpgrade words → ⊥)
        → (AsksFollow words → ⊥) → g.honest old.disk → Costs g 7 11 old.disk new.disk
    Answered-costs (inl has) = done-count words old new detail has.command has.asked has.obeys.done
    Answered-costs (inr (inl (usage, _, same))) = λ running demonstrating upgrading following honest.
        costs-same words old new detail (same-disk same)
    Answered-costs (inr (inr (memory, same))) = λ running demonstrating upgrading following honest.
        costs-same words old new detail (same-disk same)

    pub Answered-stays_silent : Answered g h i words old new detail → (AsksRun words → ⊥)
        → StaysSilent (i.held_bytes old.out) (i.held_bytes new.out) detail
    Answered-stays_silent (inl has) = done-silent words old new detail has.command has.asked has.obeys.done
    Answered-stays_silent (inr (inl (usage, _, same))) = λ running.
        subst (StaysSilent (i.held_bytes old.out) (i.held_bytes new.out)) (sym usage) (still-kept old new same)
    Answered-stays_silent (inr (inr (memory, same))) = λ running.
        subst (StaysSilent (i.held_bytes old.out) (i.held_bytes new.out)) (sym memory) (still-kept old new same)

  does-alone : (old new : World D S K) (detail : Detail) (command : Command) → DoesAlone g h i command old new detail
      → Does g h i command old new detail
  does-alone old new detail (Run log options) done = absurd done
  does-alone old new detail (Demo log n seed options) done = absurd done
  does-alone old new detail command done = done

  -- where no workers were needed
  pub answered-alone : (words : List (List ℕ)) (old new : World D S K) (detail : Detail) → AnsweredAlone g h i words old new (Done detail)
      → Answered g h i words old new detail
  answered-alone words old new detail (inl has) = inl (record {
    command = has.command;
    asked = has.asked;
    obeys = record { faults = has.obeys.faults; done = does-alone old new detail has.command has.obeys.done };
  })
  answered-alone words old new detail (inr none) = inr none

  -- where the words were read first, and nothing was done by that
  pub Obeys-answered : (words : List (List ℕ)) (old read new : World D S K) (detail : Detail) (command : Command)
      → IsCommandLine words command → read ≡ old → Obeys g h i command read new detail → Answered g h i words old new detail
  Obeys-answered words old read new detail command asked same obeys = inl (record {
    command = command;
    asked = asked;
    obeys = subst (λ w. Obeys g h i command w new detail) same obeys;
  })
