-- Characters that stand for themselves, one after another.
use Rattle.std.specs.Prelude.{ℕ, ◌==◌, Bool, ◌||◌, not, List, take, drop}
use Rattle.std.specs.List.{prefix_len}
use Rattle.tcl_parser.specs.declared.scan.Run.{Run}
use Rattle.tcl_parser.specs.declared.scan.Run.TheVariants.{Comment, Braces, VariableName, Index}
use Rattle.tcl_parser.specs.declared.scan.Run.TheVariants.{Quotes, Bare}
use Rattle.tcl_parser.specs.Characters.{newline, quote, close_parenthesis, backslash, open_brace}
use Rattle.tcl_parser.specs.Characters.{close_brace, is_white, is_command_end, is_substitution}

-- whether a byte ends such a run
abbrev pub ends_run : Run → ℕ → Bool
ends_run Comment b = (b == newline) || (b == backslash)
ends_run Braces b = (b == open_brace) || (b == close_brace) || (b == backslash)
ends_run VariableName b = b == close_brace
ends_run Index b = is_substitution b || (b == close_parenthesis)
ends_run Quotes b = is_substitution b || (b == quote)
ends_run (Bare inside) b = is_substitution b || is_white b || is_command_end inside b

abbrev pub run_len : Run → List ℕ → ℕ
run_len run s = prefix_len (λ b. not (ends_run run b)) s

-- the run that a text begins with, and what follows it
abbrev pub run_of : Run → List ℕ → List ℕ
run_of run s = take (run_len run s) s

abbrev pub after_run : Run → List ℕ → List ℕ
after_run run s = drop (run_len run s) s
