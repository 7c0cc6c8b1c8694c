-- Worked scripts, each run in a new interpreter, by the commands of a table.
use Rattle.std.specs.Prelude.{◌≡◌, ℕ, pos, true, false, List, [], ◌∷◌, ◌++◌, Option, Some, None}
use Rattle.std.specs.Prelude.{codes}
use Rattle.tcl_core.specs.Paths.{Text, Path}
use Rattle.tcl_core.specs.Endings.{Reply, ok, error}
use Rattle.tcl_core.specs.Endings.Reply.{Completed, Stop, Exit}
use Rattle.tcl_core.specs.Endings.Meter.{Count}
use Rattle.tcl_core.specs.Endings.Kind.{Full}
use Rattle.tcl_core.specs.Entries.Entry.{Eval, SetAlias}
use Rattle.tcl_core.specs.Programs.{Table}
use Rattle.tcl_core.specs.Trees.{Node}
use Rattle.tcl_text.specs.declared.integer.Integers.{Integers}
use Rattle.tcl_text.specs.declared.integer.Integers.TheVariants.{Tcl8, Tcl9}
use Rattle.tcl_tree.specs.Own.{Own, new_own}
use Rattle.tcl_language.specs.Instructions.{Instr}
use Rattle.tcl_language.specs.Table.{serve}
use Rattle.tcl_language.specs.Playing.{play, ends, follow}

abbrev pub root : Option ℕ → Node Own
root limit = record {
  own = new_own false;
  safe = false;
  root = true;
  count = 0;
  limit = limit;
  depth = 0;
  depth_limit = 1000;
}

abbrev pub start : Option ℕ → List Text → Option (Node Own)
start limit [] = Some (root limit)
start limit (x ∷ p) = None

module _ (language : Integers → Table Own Instr) where
  -- how a script ends in a new interpreter, which may make so many steps
  abbrev pub outcome_in : Integers → Option ℕ → Text → Option Reply
  outcome_in style limit script = ends
      (play (language style) 1000 (start limit) [] (serve style (Eval script)))

  abbrev pub outcome : Text → Option Reply
  outcome script = outcome_in Tcl8 None script

  -- it gives the text, or it is the error
  abbrev pub Gives : Text → Text → Type 0
  Gives script text = outcome script ≡ Some (Completed (ok text))

  abbrev pub Fails : Text → Text → Type 0
  Fails script text = outcome script ≡ Some (Completed (error text))

  -- it ends the run with a status, or it gives the text within so many steps, or is stopped by
  -- their limit
  abbrev pub Exits : Text → ℕ → Type 0
  Exits script status = outcome script ≡ Some (Exit (pos status))

  abbrev pub GivesWithin : ℕ → Text → Text → Type 0
  GivesWithin limit script text = outcome_in Tcl8 (Some limit) script ≡ Some (Completed (ok text))

  abbrev pub Stops : ℕ → Text → Type 0
  Stops limit script = outcome_in Tcl8 (Some limit) script ≡ Some (Stop 0 (Full Count))

  -- the same in the other style of integer texts
  abbrev pub Gives9 : Text → Text → Type 0
  Gives9 script text = outcome_in Tcl9 None script ≡ Some (Completed (ok text))

  -- a script in an interpreter with an alias `f` that leads past its top, where nobody is, gives
  abbrev pub GivesWithAlias : Text → Text → Type 0
  GivesWithAlias script text = ends (follow (language Tcl8) (play (language Tcl8) 1000 (start None)
      [] (serve Tcl8 (SetAlias (codes "f") 1 [] (codes "g" ∷ []))))
      (λ T r. play (language Tcl8) 1000 T [] (serve Tcl8 (Eval script))))
      ≡ Some (Completed (ok text))

  -- an entry from outside by this path, where nobody is, is told this error
  abbrev pub FindsNobody : Path → Text → Type 0
  FindsNobody path text = (language Tcl8).lost path ≡ error text

  pub record AreRows : Type 0 where
    pub empty : Gives [] []
    pub list : Gives (codes "set a {b c}; list $a {} x") (codes "{b c} {} x")
    pub open_brace : Fails (codes "set x 1; set y {b") (codes "missing close-brace")
    pub open_bracket : Fails (codes "set x [list a") (codes "missing close-bracket")
    pub spread : Gives (codes "list {*}{a {b c}} \\x41 \\1011 #") (codes "a {b c} A A1 #")
    pub hash : Gives (codes "list # a") (codes "{#} a")
    pub element : Gives (codes "set a(x) 1; set i x; list $a($i) [catch {set a 5} m] $m")
        (codes "1 1 {can't set \"a\": variable is array}")
    pub itself : Fails (codes "upvar 0 a a") (codes "can't upvar from variable to itself")
    pub overflow : Fails (codes "incr n 9223372036854775807; incr n") (codes "integer overflow")
    pub foreach : Gives (codes "foreach x {a b c} {set y $x}; set y") (codes "c")
    pub options : Gives (codes "catch {error boom {} {A 1}} m o; set o")
        (codes "-code 1 -level 0 -errorcode {A 1}")
    pub loose_break : Fails (codes "break") (codes "invoked \"break\" outside of a loop")
    pub unknown : Fails (codes "nosuch a b") (codes "invalid command name \"nosuch\"")
    pub octal : Gives (codes "set x 010; incr x") (codes "9")
    pub exit : Exits (codes "exit 7; set a 1") 7
    pub exit_status : Fails (codes "exit 256") (codes "exit status must be between 0 and 255")
    pub channels : Gives (codes
        "list [close stdout] [flush x] [catch {gets a b c} m] $m [catch {open f x} n] $n")
        (codes
        "{} {} 1 {wrong # args: should be \"gets channel ?varName?\"} 1 {bad mode \"x\"}")
    pub children : Gives (codes "list [interp create] [interp create -safe] [interp slaves]")
        (codes "interp0 interp1 {interp0 interp1}")
    pub made_again : Gives (codes
        "interp create; interp create; interp delete interp0; interp create; interp slaves")
        (codes "interp1 interp0")
    pub within_limit : Gives (codes
        "interp create -safe c; c limit commands -value 3; c eval {set a 1; set b 2; set d 3}")
        (codes "3")
    pub past_limit : Gives
        (codes "interp create -safe c; c limit commands -value 3; catch {c eval {set a 1; set "
        ++ codes "b 2; set d 3; set e 4}} m; c limit commands -value {}; list $m [c eval {info "
        ++ codes "vars}]")
        (codes "{command count limit exceeded} {a b d}")
    pub nested_limit : Gives
        (codes "interp create c; c eval {interp create g}; c limit commands -value 4; set r "
        ++ codes "[catch {c eval {g eval {set a 1; set b 2; set d 3}}} m]; c limit commands "
        ++ codes "-value {}; list $r $m [c eval {g eval {info cmdcount}}]")
        (codes "1 {command count limit exceeded} 3")
    pub wider_limit : Gives
        (codes "interp create c; c eval {interp create g}; c limit commands -value 5; set r "
        ++ codes "[catch {c eval {g eval {set a 1; set b 2; set d 3}}} m]; c limit commands "
        ++ codes "-value {}; list $r $m [c eval {g eval {info cmdcount}}]")
        (codes "0 3 4")
    pub own_limit : Gives (codes
        "interp create -safe c; catch {c eval {interp limit {} commands -value 5}} m; set m")
        (codes "permission denied")
    pub hidden : Gives (codes "interp create -safe c; interp hidden c")
        (codes "open close gets puts read eof flush source exit")
    pub safe_below_safe : Gives (codes
        "interp create -safe c; c eval {interp create g; interp issafe g}") (codes "1")
    pub hidden_exit : Gives (codes "interp create -safe c; catch {c eval {exit}} m; set m")
        (codes "invalid command name \"exit\"")
    pub unset_last : Gives (codes "set a 1; set b 2; unset a; set a 3; info vars") (codes "b a")
    pub loose_break_in_proc : Gives (codes "proc p {} {break}; list [catch {break}] [catch p m] $m")
        (codes "3 1 {invoked \"break\" outside of a loop}")
    pub linked : Gives (codes "proc add {n} {upvar 1 $n v; incr v 2}; set k 5; add k; set k")
        (codes "7")
    pub by_hidden_door : Gives (codes
        "interp create -safe c; catch {c eval {exit}} m; interp invokehidden c puts hi; set m")
        (codes "invalid command name \"exit\"")
    pub no_exposing : Gives
        (codes "interp create -safe c; c eval {interp create g; list [interp issafe g] [catch "
        ++ codes "{interp expose g exit} m] $m}")
        (codes "1 1 {permission denied}")
    pub deleted_in_use : Fails
        (codes "interp create -safe c; proc kill {} {interp delete c}; interp alias c kill {} "
        ++ codes "kill; c eval {list [catch kill m] $m}")
        (codes "interpreter was deleted")
    pub deleted_at_once : Gives
        (codes "interp create c; proc kill {} {interp delete c; interp exists c}; interp alias c "
        ++ codes "kill {} kill; list [catch {c eval kill} m] $m [interp exists c]")
        (codes "1 {interpreter was deleted} 0")
    pub made_anew_in_use : Gives
        (codes "interp create c; proc kill {} {interp delete c; interp create c; c eval {set v 1}"
        ++ codes "}; interp alias c kill {} kill; list [catch {c eval {kill; set v 2}} m] $m [c "
        ++ codes "eval {set v}]")
        (codes "1 {interpreter was deleted} 1")
    pub made_anew_at_level_0 : Gives
        (codes "interp create c; proc kill {} {interp delete c; interp create c; c eval {set v 1}"
        ++ codes "}; interp alias c kill {} kill; interp hide c kill; list [catch {interp "
        ++ codes "invokehidden c -global kill} m] $m [c eval {list $v [info level]}]")
        (codes "1 {interpreter was deleted} {1 0}")
    pub deleted_twice_in_use : Gives
        (codes "interp create c; proc kill {} {interp delete c; interp create c; return ok}; proc "
        ++ codes "back {} {global r; catch {c eval kill} r; c eval {set v 1}}; interp alias c kill "
        ++ codes "{} kill; interp alias c back {} back; list [catch {c eval {catch back; set v 2}}"
        ++ codes " m] $m $r [c eval {set v}]")
        (codes "1 {interpreter was deleted} {interpreter was deleted} 1")
    pub made_anew_above : Gives
        (codes "interp create a; a eval {interp create b}; proc kill {} {interp delete a; interp "
        ++ codes "create a; a eval {interp create b; b eval {set v 1}}}; interp alias {a b} kill {"
        ++ codes "} kill; list [catch {a eval {catch {b eval {catch kill; set v 2}}; set v 3}} m] "
        ++ codes "$m [a eval {list [info vars] [b eval {set v}]}]")
        (codes "1 {interpreter was deleted} {{} 1}")
    pub catches_no_deletion : Gives
        (codes "interp create g; proc kg {} {interp delete g; return ok}; interp alias g kg {} kg"
        ++ codes "; list [catch {g eval {catch kg; set y 1}} m] $m [interp slaves]")
        (codes "1 {interpreter was deleted} {}")
    pub deleted_from_below : Gives
        (codes "interp create c; c eval {interp create g}; proc kill {} {interp delete c}; "
        ++ codes "interp alias {c g} kill {} kill; list [catch {c eval {catch {g eval {catch kill"
        ++ codes "}}}} m] $m [interp slaves]")
        (codes "1 {interpreter was deleted} {}")
    pub deleted_below : Gives
        (codes "interp create c; c eval {interp create g}; proc kill {} {interp delete {c g}}; "
        ++ codes "interp alias {c g} kill {} kill; c eval {list [catch {g eval {catch kill}} m] "
        ++ codes "$m [interp slaves]}")
        (codes "1 {interpreter was deleted} {}")
    pub parameters : Gives (codes
        "proc f {a {b 2} args} {list $a $b $args}; list [f 1] [f 1 3 4 5] [catch f m] $m")
        (codes "{1 2 {}} {1 3 {4 5}} 1 {wrong # args: should be \"f a ?b? ?arg ...?\"}")
    pub locals_of_caller : Gives (codes
        "interp alias {} put {} set; proc f {} {put v 1; info locals}; f") (codes "v")
    pub uplevel : Gives (codes "proc up {} {uplevel {set a 5}}; proc g {} {up; set a}; g")
        (codes "5")
    pub level_words : Gives (codes "proc f args {info level 0}; f a {b c}") (codes "f a {b c}")
    pub link_makes_none : Gives (codes "proc h {} {upvar #0 nope v; info vars}; h") []
    pub alias_counts : Gives
        (codes "interp create -safe c; proc answer k {interp eval c [list set seen $k]; list "
        ++ codes "yes}; interp alias c ask {} answer; c eval {list [ask q] $seen}")
        (codes "yes q")
    pub alias_words : Gives (codes "interp alias {} p {} list x; p {a b} c") (codes "x {a b} c")
    pub turns_counted : Gives (codes "foreach x {a b c} {set y $x}; info cmdcount") (codes "8")
    pub hidden_below : Gives (codes
        "interp create -safe c; c eval {interp create g; interp hidden g}")
        (codes "open close gets puts read eof flush source exit")
    pub missing_counted : Gives (codes "catch {nosuch}; info cmdcount") (codes "3")
    pub padded : Gives (codes "foreach {a b} {1 2 3} {set l [list $a $b]}; set l") (codes "3 {}")
    pub no_child_given_away : Fails (codes "interp create c; rename c d")
        (codes "\"c\" already exists")
    pub deleted_by_name : Gives (codes "interp create c; rename c {}; interp exists c") (codes "0")
    pub hidden_by_name : Gives (codes "interp hide {} append; catch {append a b} m; set m")
        (codes "invalid command name \"append\"")
    pub returns : Gives (codes "proc f {} {return a; list b}; f") (codes "a")
    pub returned_code : Fails (codes "return -code 7 x") (codes "command returned bad code: 7")
    pub returned_level : Fails (codes "return -level 2 x") (codes "command returned bad code: 2")
    pub caught_return : Gives (codes "list [catch {return -code 7 -level 2 x} m o] $m $o")
        (codes "2 x {-code 7 -level 2}")
    pub returned_options : Gives
        (codes "proc f {} {return -code 9 -options {-code error -errorcode {A 1}} x}; list "
        ++ codes "[catch f m o] $m $o")
        (codes "1 x {-code 1 -level 0 -errorcode {A 1}}")
    pub later_options_win : Gives (codes
        "proc f {} {return -options {-code error} -code ok x}; catch f") (codes "0")
    pub bad_code : Fails (codes "return -code broke x") (codes "bad completion code \"broke\"")
    pub bad_return_level : Fails (codes "return -level -1 x") (codes "bad option \"-1\"")
    pub redefined : Gives
        (codes "interp create -safe c; proc redo {} {c eval {proc f {} {return new}}}; interp "
        ++ codes "alias c redo {} redo; c eval {proc f {} {redo; return old}; list [f] [f]}")
        (codes "old new")
    pub asked : Gives
        (codes "interp create -safe c; proc answer k {interp eval c [list set seen $k]; "
        ++ codes "return yes}; interp alias c ask {} answer; c eval {list [ask q] $seen}")
        (codes "yes q")
    pub division : Gives (codes "list [expr {-7 / 2}] [expr {-7 % 2}] [expr {-2 ** 2}]")
        (codes "-4 1 4")
    pub sum_overflow : Fails (codes "expr {9223372036854775807 + 1}") (codes "integer overflow")
    pub least : Gives (codes "expr {-9223372036854775808}") (codes "-9223372036854775808")
    pub octal_sum : Gives (codes "expr {010 + 1}") (codes "9")
    pub no_octal : Fails (codes "expr {08 + 1}") (codes "syntax error in expression \"08 + 1\"")
    pub powers : Gives (codes
        "list [expr {2 ** 3 ** 2}] [expr {1 << 62}] [expr {-1 >> 70}] [expr {~5 & 0xff}]")
        (codes "512 4611686018427387904 -1 250")
    pub shift_overflow : Fails (codes "expr {1 << 63}") (codes "integer overflow")
    pub lazy_and : Gives (codes "set z 0; expr {0 && [set z 1]}; set z") (codes "0")
    pub lazy_or : Gives (codes "set z 0; list [expr {1 || [set z 1]}] $z") (codes "1 0")
    pub lazy_choice : Gives (codes "set z 0; list [expr {1 ? 2 : [set z 1]}] $z") (codes "2 0")
    pub from_the_left : Gives (codes "set x 1; expr {$x + [incr x] * $x}") (codes "5")
    pub joined : Gives (codes "set x 3; expr $x * (1 + 1)") (codes "6")
    pub operand_ends : Gives (codes "list [catch {expr {[break] + 1}}] [catch {expr {1 / 0}} m] $m")
        (codes "3 1 {divide by zero}")
    pub read_whole : Gives (codes "set z 0; list [catch {expr {[set z 1] +}} m] $m $z")
        (codes "1 {syntax error in expression \"[set z 1] +\"} 0")
    pub non_numeric : Fails (codes "set x a; expr {1 + $x}")
        (codes "can't use non-numeric string as operand of \"+\"")
    pub final_number : Gives (codes "list [expr {\"0x10\"}] [expr {\" a \"}]") (codes "16 { a }")
    pub no_expression : Fails (codes "expr")
        (codes "wrong # args: should be \"expr arg ?arg ...?\"")
    pub compared_tens : Gives9 (codes "expr {010 == 10}") (codes "1")
    pub child_style : Gives9 (codes "interp create c; c eval {expr {-010}}") (codes "-10")
    pub loops : Gives (codes
        "set s 0; for {set i 0} {$i < 5} {incr i} {if {$i == 3} continue; incr s $i}; set s")
        (codes "7")
    pub ends_the_loop : Gives (codes "proc q {} {return -code break}; while 1 {q}; set z ok")
        (codes "ok")
    pub else_branch : Gives (codes "if 0 then {list a} elseif {1 > 2} {list b} else {list c}")
        (codes "c")
    pub elseif_branch : Gives (codes "if no {list a} elseif yes then {list b} {list c}") (codes "b")
    pub no_branch : Gives (codes "if 0 {list a}") []
    pub words_first : Gives
        (codes "set z 0; list [catch {if {[set z 1]} {list a} elseif} m] $m $z")
        (codes "1 {wrong # args: should be \"if expr1 ?then? body1 ?elseif expr2 ?then? body2 "
        ++ codes "...? ?else? ?bodyN?\"} 0")
    pub behind_else : Fails
        (codes "if 0 {list a} else {list b} {list c}")
        (codes "wrong # args: should be \"if expr1 ?then? body1 ?elseif expr2 ?then? body2 "
        ++ codes "...? ?else? ?bodyN?\"")
    pub later_condition : Gives (codes "set z 0; if 1 {list a} elseif {[set z 1]} {list b}; set z")
        (codes "0")
    pub no_boolean : Fails (codes "if {\"maybe\"} {list a}")
        (codes "expected boolean value but got \"maybe\"")
    pub loop_gives_nothing : Gives (codes "set i 0; list [while {$i < 2} {incr i}] $i")
        (codes "{} 2")
    pub while_counted : Gives (codes "set i 0; while {$i < 2} {incr i}; info cmdcount") (codes "7")
    pub next_breaks : Gives (codes
        "for {set i 0; set n 0} 1 {if {$i == 2} break; incr i} {incr n}; list $i $n") (codes "2 3")
    pub next_continues : Gives (codes "catch {for {} 1 continue {}}") (codes "4")
    pub start_ends : Gives (codes "set z 0; list [catch {for {error a} 1 {} {set z 1}} m] $m $z")
        (codes "1 a 0")
    pub stopped_loop : Gives
        (codes "interp create -safe c; c limit commands -value 20; set r [catch {c eval "
        ++ codes "{catch {while 1 {}} y}} m]; c limit commands -value {}; list $r $m [c eval "
        ++ codes "{info cmdcount}] [c eval {info exists y}]")
        (codes "1 {command count limit exceeded} 21 0")
    pub loop_stopped : Stops 50 (codes "catch {while 1 {}}")
    pub turns_refused : Stops 6 (codes "foreach x {a b c} {set y $x}")
    pub turns_made : GivesWithin 7 (codes "foreach x {a b c} {set y $x}") []
    pub bad_list : Fails (codes "llength \"a {b\"") (codes "unmatched open brace in list")
    pub switch_body : Gives (codes
        "list [switch -glob abc {a* - b* {list one} default {list two}}] [switch x a {list b}]")
        (codes "one {}")
    pub switch_default : Gives (codes
        "list [switch b default {list a} b {list c}] [switch -nocase -- B b {list d}]")
        (codes "c d")
    pub switch_words : Gives (codes "list [catch {switch a b} m] $m [catch {switch -x a b c} m] $m")
        (codes "1 {wrong # args: should be \"switch ?option ...? string ?pattern body ...?\"} "
        ++ codes "1 {bad option \"-x\"}")
    pub lmap : Gives (codes "lmap a {1 2 3} b {4 5} {list $a $b}") (codes "{1 4} {2 5} {3 {}}")
    pub lmap_ends : Gives (codes
        "lmap x {a b c d} {if {$x eq {b}} continue; if {$x eq {d}} break; set x}") (codes "a c")
    pub lmap_counted : Stops 6 (codes "lmap x {a b c} {set y $x}")
    pub dict_for : Gives (codes "set l {}; dict for {k v} {a 1 b 2 a 3} {lappend l $v $k}; set l")
        (codes "3 a 2 b")
    pub dict_for_names : Fails (codes "dict for k {a 1} {}")
        (codes "wrong # args: should be \"dict for {keyVar valueVar} dictionary body\"")
    pub trapped : Gives
        (codes "list [catch {try {error msg {} {A B}} trap A {m o} "
        ++ codes "{list $m [dict get $o -errorcode]}} r] $r")
        (codes "0 {msg {A B}}")
    pub finally : Gives (codes "set n 0; set r [try {set n 5} finally {incr n}]; list $r $n")
        (codes "5 6")
    pub handled_break : Gives (codes
        "foreach i {1 2} {try {break} on break {} {set z $i}}; set z") (codes "2")
    pub finally_stopped : Stops 4 (codes "try {while 1 {}} finally {set z 1}")
    pub matching : Gives (codes
        "list [string match {[a-c]?*} bz] [string match {[a-c]?*} b] [dict get {a 1 a 2} a]")
        (codes "1 0 2")
    pub string_map : Gives (codes "string map {a b b c} aabz") (codes "bbcz")
    pub format : Gives (codes "format {%05d/%-4s/%x/%c} -42 ab 255 65") (codes "-0042/ab  /ff/A")
    pub format_texts : Gives (codes "format {%+d|%.2s|%5s|%-5s|%o} 7 abc ab ab 8")
        (codes "+7|ab|   ab|ab   |10")
    pub lappend : Gives (codes
        "set l {a b}; lappend l {c d} {}; list [llength $l] [lindex $l end] [lrange $l 1 2]")
        (codes "4 {} {b {c d}}")
    pub lappend_makes : Gives (codes "lappend l; lappend l a; set l") (codes "a")
    pub split : Gives (codes "split a,b,,c ,") (codes "a b {} c")
    pub kept_integer : Gives (codes "set x 010; list [expr {$x + 0}] [llength $x] $x [incr x] $x")
        (codes "8 1 010 9 9")
    pub kept_dict : Gives (codes
        "set d {k 1 k 2}; dict get $d k; list [dict size $d] [llength $d] [lindex $d 1] $d")
        (codes "1 4 1 {k 1 k 2}")
    pub kept_list : Gives (codes "set l {a  b}; llength $l; append l {  c}; list [llength $l] $l")
        (codes "3 {a  b  c}")
    pub string_parts : Gives
        (codes "list [string length h\\u00e9llo] [string first {} abc] [string compare a B] "
        ++ codes "[string compare -nocase a B]")
        (codes "5 -1 1 -1")
    pub string_is : Gives
        (codes "list [string is digit 12] [string is alpha {}] [string is alpha -strict {}] "
        ++ codes "[string is list -strict {}]")
        (codes "1 1 0 1")
    pub lassign : Gives (codes "list [lassign {a b c} x y] $x $y [lassign {a} x y] $x $y")
        (codes "c a b {} a {}")
    pub insertion : Gives
        (codes "list [linsert {a b} end c] [lreplace {a b c} 1 1 x y] [lreverse {a b c}] "
        ++ codes "[lrepeat 2 a b] [concat {a b} { c }] [join {a b} -]")
        (codes "{a b c} {a x y c} {c b a} {a b a b} {a b c} a-b")
    pub dict_built : Gives
        (codes "set d [dict create a 1 b 2 a 3]; list $d [dict exists $d b] [dict exists $d "
        ++ codes "c] [dict replace $d c 4] [dict remove $d a]")
        (codes "{a 3 b 2} 1 0 {a 3 b 2 c 4} {b 2}")
    pub missing_key : Fails (codes "dict get {a 1} b") (codes "key \"b\" not known in dictionary")
    pub other_subcommand : Fails (codes "dict nosuch") (codes "unknown subcommand \"nosuch\"")
    pub lset : Gives (codes "set l {a {b c}}; lset l 1 0 z; set l") (codes "a {z c}")
    pub lset_refused : Gives (codes
        "set l {a b}; list [lset l 2 c] [catch {lset l 4 x} m] $m $l [catch {lset n 0 x} m] $m")
        (codes "{a b c} 1 {list index out of range} {a b c} 1 {can't read \"n\": no such variable}")
    pub dict_changed : Gives (codes
        "set d [dict create a 1 b 2 a 3]; dict set d c 4; dict unset d a; set d")
        (codes "b 2 c 4")
    pub dict_summed : Gives (codes
        "list [dict incr d k] [dict incr d k 4] [catch {dict incr d k x} m] $d")
        (codes "{k 1} {k 5} 1 {k 5}")
    pub dict_grown : Gives (codes "dict append d a x y; dict lappend d l p {q r}; set d")
        (codes "a xy l {p {q r}}")
    pub lsort : Gives
        (codes "list [lsort -integer -unique {3 0x3 1 03 2}] [lsort -decreasing {b a B}]")
        (codes "{1 2 03} {b a B}")
    pub lsearch : Gives (codes "list [lsearch -all -inline {ab b ac} a*] [lsearch {a b} c]")
        (codes "{ab ac} -1")
    pub thrown : Gives (codes "list [catch {throw {A B} msg} m o] $m $o")
        (codes "1 msg {-code 1 -level 0 -errorcode {A B}}")
    pub lsort_by_style : Gives9 (codes "lsort -integer {010 9 0o11}") (codes "9 0o11 010")
    pub decimal_ten : Gives9 (codes
        "list [expr {010 + 1}] [expr {08 + 1}] [expr {0o10 + 1}] [lindex {a b c} 01]")
        (codes "11 9 9 b")
    pub array : Gives (codes
        "array set t {x 1 y 2}; set t(z) 3; unset t(x); set t(x) 4; array get t")
        (codes "y 2 z 3 x 4")
    pub array_patterns : Gives
        (codes "array set t {ab 1 c 2 ad 3}; list [array names t] [array names t a*] [array "
        ++ codes "get t c] [array unset t a?] [array size t]")
        (codes "{ab c ad} {ab ad} {c 2} {} 1")
    pub no_array : Gives (codes
        "set s 1; list [array exists s] [array get s] [array names s] [array size s] $s")
        (codes "0 {} {} 0 1")
    pub empty_array : Gives (codes
        "array set e {}; list [array exists e] [array size e] [array unset e] [array exists e]")
        (codes "1 0 {} 0")
    pub odd_elements : Gives (codes
        "list [catch {array set t {a 1 b}} m] $m [array exists t]")
        (codes "1 {missing value to go with key} 0")
    pub no_elements : Gives (codes
        "set s 1; list [catch {array set s {k 2}} m] $m [catch {array set s {}} m] $m")
        (codes "1 {can't set \"s(k)\": variable isn't array} 1 {can't set \"s\": variable "
        ++ codes "isn't array}")
    pub info_args : Gives (codes
        "proc f {a {b 2} args} {list $a $b}; list [info args f] [info body f]")
        (codes "{a b args} {list $a $b}")
    pub info_default : Gives (codes
        "proc f {a {b 2}} {}; list [info default f b x] $x [info default ::f a x] $x")
        (codes "1 2 0 {}")
    pub no_default : Fails (codes "proc f a {}; info default f b x") (codes "bad name \"b\"")
    pub no_procedure : Fails (codes "info args set") (codes "\"set\" isn't a procedure")
    pub info_commands : Gives
        (codes "interp hide {} lset; proc lf {} {}; list [info commands l*] [info procs]")
        (codes "{lappend lmap list llength lindex lrange linsert lreplace lassign lrepeat "
        ++ codes "lreverse lsearch lsort lf} lf")
    pub info_complete : Gives (codes
        "list [info complete {list a}] [info complete \\{] [info complete \"{a}b\"]")
        (codes "1 0 1")
    pub nobody_there : FindsNobody (codes "a" ∷ codes "b c" ∷ [])
        (codes "could not find interpreter \"a {b c}\"")
    pub nobody_at_the_top : FindsNobody [] (codes "could not find interpreter \"\"")
    pub nobody_above : GivesWithAlias (codes "list [catch {f 1} m] $m")
        (codes "1 {could not find the target of alias \"f\"}")
