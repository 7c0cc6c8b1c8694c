-- A name as the code reads it.
use Rattle.std.specs.Borrow.{Bor}
use Rattle.std.specs.Option.{option_copied}
use Rattle.tcl_frames.specs.Names.{Text, Name}
use Rattle.tcl_frames.specs.declared.name.Written.{Written}

abbrev pub seen : Written → Name
seen w = record { is_global = w.is_global; base = w.base.now; key = option_copied w.key }

abbrev pub seen_pair : Bor Text × Bor Text → Text × Text
seen_pair p = (p.0.now, p.1.now)
