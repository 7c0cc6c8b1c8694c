use Rattle.std.proofs.Common.{◌≡◌, drop, map}
use Rattle.std.specs.Str.{bytes_eq}
use Rattle.indexmap.specs.IndexMap.{insert_all}
use Rattle.tcl_interpreter.specs.Own.{entry_of}
use Rattle.tcl_interpreter.proofs.builtin.add_builtins.Given as goal

-- the built-ins that are left are still to be added
abbrev pub invariant-builtins : goal.invariant-builtins
invariant-builtins l = insert_all bytes_eq l.commands.entries (map entry_of (drop l.builtin-index l.builtins)) ≡ insert_all bytes_eq l.fn.commands.entries (map entry_of l.builtins)
