use Rattle.std.proofs.Common.{◌≡◌}
use Rattle.command_line.specs.CommandLine.{name_of}
use Rattle.command_line.specs.declared.command.Subcommand.{Subcommand}
use Rattle.command_line.specs.declared.command.Subcommand.TheVariants.{New, Run, Recover, Dump, Demo, Cut, Upgrade, Ship, Follow, AsOf, Statement}
use Rattle.command_line.proofs.parsing.subcommand.Goals as goal

pub returns-in-new : goal.returns-in-new
returns-in-new c = c.in-new.is

pub returns-in-run : goal.returns-in-run
returns-in-run c = c.in-run.is

pub returns-in-recover : goal.returns-in-recover
returns-in-recover c = c.in-recover.is

pub returns-in-dump : goal.returns-in-dump
returns-in-dump c = c.in-dump.is

pub returns-in-demo : goal.returns-in-demo
returns-in-demo c = c.in-demo.is

pub returns-in-cut : goal.returns-in-cut
returns-in-cut c = c.in-cut.is

pub returns-in-upgrade : goal.returns-in-upgrade
returns-in-upgrade c = c.in-upgrade.is

pub returns-in-ship : goal.returns-in-ship
returns-in-ship c = c.in-ship.is

pub returns-in-follow : goal.returns-in-follow
returns-in-follow c = c.in-follow.is

pub returns-in-asof : goal.returns-in-asof
returns-in-asof c = c.in-asof.is

pub returns-in-statement : goal.returns-in-statement
returns-in-statement c = c.in-statement.is

pub unreachable-requires : goal.unreachable-requires
unreachable-requires c = none c.requires.0 c.requires.1
  where
    none : (this : Subcommand) → c.args.name.now ≡ name_of this → ⊥
    none New new = c.in_default.not-new new
    none Run run = c.in_default.not-run run
    none Recover recover = c.in_default.not-recover recover
    none Dump dump = c.in_default.not-dump dump
    none Demo demo = c.in_default.not-demo demo
    none Cut cut = c.in_default.not-cut cut
    none Upgrade upgrade = c.in_default.not-upgrade upgrade
    none Ship ship = c.in_default.not-ship ship
    none Follow follow = c.in_default.not-follow follow
    none AsOf asof = c.in_default.not-asof asof
    none Statement statement = c.in_default.not-statement statement
