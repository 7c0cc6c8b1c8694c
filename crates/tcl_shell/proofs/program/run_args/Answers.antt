use Rattle.std.proofs.Common.{inl}
use Rattle.tcl_shell.proofs.program.run_args.Goals as goal

pub returns-in-Ok : goal.returns-in-Ok
returns-in-Ok g c = inl (c.in-Ok.options, c.evaluate_file-ending.result, c.evaluate_file-ending.new.host, c.in-Ok.ensures.read, c.evaluate_file-ending.ensures, c.tell.ensures)
