use Rattle.std.proofs.Common.{inl, inr, refl, subst}
use Rattle.command_line.specs.CommandLine.{IsCommandLine, IsRefusalOf}
use Rattle.command_line.specs.declared.command.Command.TheVariants.{New, Recover, Dump, Cut, Upgrade, Ship, Follow, AsOf, Statement}
use Rattle.cli_dispatch.proofs.answering.answer_alone.Goals as goal

pub returns-in-Ok-New : goal.returns-in-Ok-New
returns-in-Ok-New g c = inl (record {
  command = New c.in-Ok-New.log;
  asked = subst (IsCommandLine c.args.words.now) c.in-Ok-New.field-0-is c.in-Ok-New.ensures.exact;
  obeys = record { done = c.new_command.ensures.done; faults = c.new_command.ensures.faults };
})

pub returns-in-Ok-Recover : goal.returns-in-Ok-Recover
returns-in-Ok-Recover g c = inl (record {
  command = Recover;
  asked = subst (IsCommandLine c.args.words.now) c.in-Ok-Recover.field-0-is c.in-Ok-Recover.ensures.exact;
  obeys = c.obey_recover.ensures;
})

pub returns-in-Ok-Dump : goal.returns-in-Ok-Dump
returns-in-Ok-Dump g c = inl (record {
  command = Dump;
  asked = subst (IsCommandLine c.args.words.now) c.in-Ok-Dump.field-0-is c.in-Ok-Dump.ensures.exact;
  obeys = c.obey_dump.ensures;
})

pub returns-in-Ok-Cut : goal.returns-in-Ok-Cut
returns-in-Ok-Cut g c = inl (record {
  command = Cut c.in-Ok-Cut.log;
  asked = subst (IsCommandLine c.args.words.now) c.in-Ok-Cut.field-0-is c.in-Ok-Cut.ensures.exact;
  obeys = record { done = c.cut_command.ensures.done; faults = c.cut_command.ensures.faults };
})

pub returns-in-Ok-Upgrade : goal.returns-in-Ok-Upgrade
returns-in-Ok-Upgrade g c = inl (record {
  command = Upgrade c.in-Ok-Upgrade.log;
  asked = subst (IsCommandLine c.args.words.now) c.in-Ok-Upgrade.field-0-is c.in-Ok-Upgrade.ensures.exact;
  obeys = record { done = c.upgrade_command.ensures.done; faults = c.upgrade_command.ensures.faults };
})

pub returns-in-Ok-Run : goal.returns-in-Ok-Run
returns-in-Ok-Run g c = (subst (IsCommandLine c.args.words.now) c.in-Ok-Run.field-0-is c.in-Ok-Run.ensures.exact, refl)

pub returns-in-Ok-Demo : goal.returns-in-Ok-Demo
returns-in-Ok-Demo g c = (subst (IsCommandLine c.args.words.now) c.in-Ok-Demo.field-0-is c.in-Ok-Demo.ensures.exact, refl)

pub returns-in-Err-Usage : goal.returns-in-Err-Usage
returns-in-Err-Usage g c = inr (inl (refl, subst (IsRefusalOf c.args.words.now) c.in-Err-Usage.field-0-is c.in-Err-Usage.ensures.exact, refl))

pub returns-in-Err-NoMemory : goal.returns-in-Err-NoMemory
returns-in-Err-NoMemory g c = inr (inr (refl, refl))

pub returns-in-Ok-Ship : goal.returns-in-Ok-Ship
returns-in-Ok-Ship g c = inl (record {
  command = Ship c.in-Ok-Ship.from;
  asked = subst (IsCommandLine c.args.words.now) c.in-Ok-Ship.field-0-is c.in-Ok-Ship.ensures.exact;
  obeys = c.obey_ship.ensures;
})

pub returns-in-Ok-Follow : goal.returns-in-Ok-Follow
returns-in-Ok-Follow g c = inl (record {
  command = Follow c.in-Ok-Follow.log;
  asked = subst (IsCommandLine c.args.words.now) c.in-Ok-Follow.field-0-is c.in-Ok-Follow.ensures.exact;
  obeys = record { done = c.follow_command.ensures.done; faults = c.follow_command.ensures.faults };
})

pub returns-in-Ok-AsOf : goal.returns-in-Ok-AsOf
returns-in-Ok-AsOf g c = inl (record {
  command = AsOf c.in-Ok-AsOf.lsn;
  asked = subst (IsCommandLine c.args.words.now) c.in-Ok-AsOf.field-0-is c.in-Ok-AsOf.ensures.exact;
  obeys = c.obey_asof.ensures;
})

pub returns-in-Ok-Statement : goal.returns-in-Ok-Statement
returns-in-Ok-Statement g c = inl (record {
  command = Statement c.in-Ok-Statement.account;
  asked = subst (IsCommandLine c.args.words.now) c.in-Ok-Statement.field-0-is c.in-Ok-Statement.ensures.exact;
  obeys = c.obey_statement.ensures;
})
