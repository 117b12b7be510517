use Rattle.std.proofs.Common.{refl, subst, sym}
use Rattle.cli_demo.specs.Demo.{IsAnswerToDemo}
use Rattle.command_line.specs.CommandLine.{IsCommandLine}
use Rattle.cli_dispatch.specs.Alone.{command_of}
use Rattle.cli_shared.specs.World.{world}
use Rattle.cli_top.specs.Answered.{Obeys}
use Rattle.command_line.proofs.AskedOptions.{demo_options-in_range, run_options-in_range}
use Rattle.cli_top.proofs.top.obey.Goals as goal

pub run_command-requires-after_bounds : goal.run_command-requires-after_bounds
run_command-requires-after_bounds g c _ _ =
    run_options-in_range c.requires.0 _ _ (subst (λ asked. IsCommandLine c.requires.0 (command_of asked)) c.in-Run.is c.requires.1)

pub demo_command-requires-clause-options : goal.demo_command-requires-clause-options
demo_command-requires-clause-options g c _ _ =
    demo_options-in_range c.requires.0 _ _ _ _ (subst (λ asked. IsCommandLine c.requires.0 (command_of asked)) c.in-Demo.is c.requires.1)

pub returns-in-Run : goal.returns-in-Run
returns-in-Run g c =
    let called = c.run_command.ensures in
    subst (λ asked. Obeys g.D.LogDisk g.S.Source g.K.Sink (command_of asked) (world c.args.disk.now c.args.script.now c.args.out.now)
    (world c.run_command.new.disk c.run_command.new.script c.run_command.new.out) c.run_command.result) (sym c.in-Run.is)
    (record { faults = called.faults; done = called.done })

pub returns-in-Demo : goal.returns-in-Demo
returns-in-Demo g c =
    let called = c.demo_command.ensures in
    subst (λ asked. Obeys g.D.LogDisk g.S.Source g.K.Sink (command_of asked) (world c.args.disk.now c.args.script.now c.args.out.now)
    (world c.demo_command.new.disk c.args.script.now c.demo_command.new.out) c.demo_command.result) (sym c.in-Demo.is)
    (record {
      faults = record {
        read = record { counted = λ read. absurd (subst IsAnswerToDemo read called.done.range); fine = λ other. refl };
        write = called.write;
        disk = called.disk;
        honest = called.honest;
      };
      done = record { demonstrated = called.done; unread = refl };
    })
