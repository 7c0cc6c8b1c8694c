-- The names of the built-in commands.
use Rattle.std.specs.Prelude.{codes, ◌∷◌, [], List as Sequence}
use Rattle.tcl_core.specs.Paths.{Text}
use Rattle.tcl_interpreter.specs.declared.builtin.Builtin.{Builtin}
use Rattle.tcl_interpreter.specs.declared.builtin.Builtin.TheVariants.{Set, Unset, Incr, Append}
use Rattle.tcl_interpreter.specs.declared.builtin.Builtin.TheVariants.{Lappend, Array, Global}
use Rattle.tcl_interpreter.specs.declared.builtin.Builtin.TheVariants.{Upvar, Uplevel, Proc, Rename}
use Rattle.tcl_interpreter.specs.declared.builtin.Builtin.TheVariants.{Eval, Expr, If, While, For}
use Rattle.tcl_interpreter.specs.declared.builtin.Builtin.TheVariants.{Foreach, Lmap, Switch, Break}
use Rattle.tcl_interpreter.specs.declared.builtin.Builtin.TheVariants.{Continue, Catch, Error}
use Rattle.tcl_interpreter.specs.declared.builtin.Builtin.TheVariants.{Throw, Return, Try, Info}
use Rattle.tcl_interpreter.specs.declared.builtin.Builtin.TheVariants.{List, Llength, Lindex}
use Rattle.tcl_interpreter.specs.declared.builtin.Builtin.TheVariants.{Lrange, Linsert, Lreplace}
use Rattle.tcl_interpreter.specs.declared.builtin.Builtin.TheVariants.{Lset, Lassign, Lrepeat}
use Rattle.tcl_interpreter.specs.declared.builtin.Builtin.TheVariants.{Lreverse, Concat, Join}
use Rattle.tcl_interpreter.specs.declared.builtin.Builtin.TheVariants.{Split, Lsearch, Lsort, Dict}
use Rattle.tcl_interpreter.specs.declared.builtin.Builtin.TheVariants.{String, Format, Interp, Open}
use Rattle.tcl_interpreter.specs.declared.builtin.Builtin.TheVariants.{Close, Gets, Puts, Read, Eof}
use Rattle.tcl_interpreter.specs.declared.builtin.Builtin.TheVariants.{Flush, Source, Exit}

abbrev pub named : Builtin → Text
named Set = codes "set"
named Unset = codes "unset"
named Incr = codes "incr"
named Append = codes "append"
named Lappend = codes "lappend"
named Array = codes "array"
named Global = codes "global"
named Upvar = codes "upvar"
named Uplevel = codes "uplevel"
named Proc = codes "proc"
named Rename = codes "rename"
named Eval = codes "eval"
named Expr = codes "expr"
named If = codes "if"
named While = codes "while"
named For = codes "for"
named Foreach = codes "foreach"
named Lmap = codes "lmap"
named Switch = codes "switch"
named Break = codes "break"
named Continue = codes "continue"
named Catch = codes "catch"
named Error = codes "error"
named Throw = codes "throw"
named Return = codes "return"
named Try = codes "try"
named Info = codes "info"
named List = codes "list"
named Llength = codes "llength"
named Lindex = codes "lindex"
named Lrange = codes "lrange"
named Linsert = codes "linsert"
named Lreplace = codes "lreplace"
named Lset = codes "lset"
named Lassign = codes "lassign"
named Lrepeat = codes "lrepeat"
named Lreverse = codes "lreverse"
named Concat = codes "concat"
named Join = codes "join"
named Split = codes "split"
named Lsearch = codes "lsearch"
named Lsort = codes "lsort"
named Dict = codes "dict"
named String = codes "string"
named Format = codes "format"
named Interp = codes "interp"
named Open = codes "open"
named Close = codes "close"
named Gets = codes "gets"
named Puts = codes "puts"
named Read = codes "read"
named Eof = codes "eof"
named Flush = codes "flush"
named Source = codes "source"
named Exit = codes "exit"

-- the commands of the language, in the order of a new interpreter
abbrev pub language : Sequence Builtin
language =
    Set ∷ Unset ∷ Incr ∷ Append ∷ Lappend ∷ Array ∷ Global ∷ Upvar ∷ Uplevel ∷ Proc ∷ Rename ∷
    Eval ∷ Expr ∷ If ∷ While ∷ For ∷ Foreach ∷ Lmap ∷ Switch ∷ Break ∷ Continue ∷ Catch ∷ Error ∷
    Throw ∷ Return ∷ Try ∷ Info ∷ List ∷ Llength ∷ Lindex ∷ Lrange ∷ Linsert ∷ Lreplace ∷ Lset ∷
    Lassign ∷ Lrepeat ∷ Lreverse ∷ Concat ∷ Join ∷ Split ∷ Lsearch ∷ Lsort ∷ Dict ∷ String ∷
    Format ∷ Interp ∷ []

-- the commands that reach the host, in that order
abbrev pub host : Sequence Builtin
host =
    Open ∷ Close ∷ Gets ∷ Puts ∷ Read ∷ Eof ∷ Flush ∷ Source ∷ Exit ∷ []
