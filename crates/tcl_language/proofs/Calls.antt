-- The programs of the commands call, and never wait without a call: the demands are none.
use Rattle.tcl_core.specs.Entries.{Entry}
use Rattle.tcl_core.specs.Entries.Entry.{Expose}
use Rattle.tcl_core.specs.Programs.{Calls_only}
use Rattle.tcl_core.specs.Programs.Prog.{act, call, done, exit, go, inside, wait}
use Rattle.tcl_language.proofs.Commands as commands
use Rattle.tcl_language.proofs.Everywhere.{Demands, Everywhere, Goes}
use Rattle.tcl_language.proofs.Facts.{Facts, Served, any_named, any_own}
use Rattle.tcl_language.specs.Instructions.{Instr, Program}
use Rattle.tcl_language.specs.Instructions.Instr.{Invoke}
use Rattle.tcl_language.specs.Language.{ProgramsCall}
use Rattle.tcl_language.specs.Naming.{exposed_as}
use Rattle.tcl_language.specs.Table.{program, serve}

abbrev demands : Demands
demands = record {
  stands = λ n. Unit {0};
  own = λ own. Unit {0};
  steps = Unit {0};
  depth = Unit {0};
  hidden = Unit {0};
  serves = λ entry. Unit {0};
  calls = λ up down entry. Unit {0};
}

served : (entry : Entry) → Served demands entry
served (Expose hidden name) = λ own o. any_named demands (λ own. tt) (exposed_as own hidden name)
served _ = tt

goes : (i : Instr) → Goes demands i
goes (Invoke is_global words) = tt
goes _ = tt

facts : Facts demands
facts = record {
  owns = any_own demands (λ own. tt);
  own = λ n s. tt;
  made = λ n safe s. tt;
  serves = λ entry e. tt;
  calls = λ up down entry e. tt;
  trusted = λ n s e. record { hidden = λ entry e. tt; depth = λ limit. tt; below = λ name path entry. tt };
  served = λ entry s. served entry;
  host = λ own x b o e h request. tt;
  hidden = λ h request. tt;
}

calls : (x : Program) → Everywhere demands x → Calls_only x
calls (done c) e = tt
calls (exit n) e = tt
calls (act d k) e = λ T. calls (k T) (e.1 T (λ n f. tt))
calls (go i k) e = λ c. calls (k c) (e.1 c)
calls (inside b i k) e = λ c. calls (k c) (e.2 c)
calls (call h down i lost k) e = λ s. calls (k s) (e.1 s)
calls (wait s k) e = e

pub programs_call : ProgramsCall
programs_call style = (
  λ i. calls (program style i) (commands.program demands facts style i (goes i)),
  λ entry. calls (serve style entry) (commands.serve demands facts style entry (served entry)),
)
