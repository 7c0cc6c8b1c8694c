-- What kinds of built-in commands there are.
use Rattle.std.specs.Prelude.{Bool, true, false}
use Rattle.tcl_interpreter.specs.declared.builtin.Builtin.{Builtin}
use Rattle.tcl_interpreter.specs.declared.builtin.Builtin.TheVariants as name

-- A plain one evaluates nothing, and asks neither another interpreter nor the host.
abbrev pub is_plain : Builtin → Bool
is_plain name.Uplevel = false
is_plain name.Eval = false
is_plain name.Catch = false
is_plain name.Try = false
is_plain name.Foreach = false
is_plain name.Lmap = false
is_plain name.Dict = false
is_plain name.Switch = false
is_plain name.Expr = false
is_plain name.If = false
is_plain name.While = false
is_plain name.For = false
is_plain name.Rename = false
is_plain name.Interp = false
is_plain name.Open = false
is_plain name.Close = false
is_plain name.Gets = false
is_plain name.Puts = false
is_plain name.Read = false
is_plain name.Eof = false
is_plain name.Flush = false
is_plain name.Source = false
is_plain _ = true

-- A plain one that does more than give what is a function of its words: it reads or changes the
-- interpreter, or ends what runs there.
abbrev pub is_effectful : Builtin → Bool
is_effectful name.Set = true
is_effectful name.Unset = true
is_effectful name.Incr = true
is_effectful name.Append = true
is_effectful name.Lappend = true
is_effectful name.Lassign = true
is_effectful name.Lset = true
is_effectful name.Array = true
is_effectful name.Global = true
is_effectful name.Upvar = true
is_effectful name.Proc = true
is_effectful name.Info = true
is_effectful name.Break = true
is_effectful name.Continue = true
is_effectful name.Error = true
is_effectful name.Throw = true
is_effectful name.Return = true
is_effectful name.Exit = true
is_effectful _ = false
