use Rattle.std.proofs.Common.{◌+◌, ◌-◌, ◌*◌, ℕ, List, [], drop, get_or, length, map}
use Rattle.std.specs.Option.{option_copied}
use Rattle.std.specs.String.{string_bytes}
use Rattle.tcl_core.specs.Paths.{Path}
use Rattle.tcl_language.specs.Scripts.{commands, words, parts}
use Rattle.tcl_run.specs.Entering.{whole_entry}
use Rattle.tcl_run.specs.Runs.{IsAt, IsHere, Keeps, room, ways}
use Rattle.tcl_text.specs.declared.integer.Integers.{Integers}
use Rattle.tcl_tree.specs.TreeOf.{tree_of}
use Rattle.tcl_calls.specs.Words.{opens, IsShort}
use Rattle.tcl_prepared.specs.Views.{seen_command, seen_part, seen_word}
use Rattle.tcl_expression_evaluation.specs.Steps.{from}
use Rattle.tcl_language.specs.Expressions.{expression, computed, if_first, first_true, while_loop, while_turns, for_loop, for_turns}
use Rattle.tcl_language.specs.Control.{foreach_turns, lmap, lmap_turns}
use Rattle.tcl_calls.specs.BranchesRead.{tests_of}
use Rattle.tcl_calls.specs.Expressions.{IsKept, settles}
use Rattle.tcl_calls.specs.Walks.{walks_at}
use Rattle.tcl_evaluation.specs.View.{Leads}
use Rattle.tcl_evaluation.proofs.Awaited.{WaitsFrom}
use Rattle.tcl_evaluation.proofs.+eval.Given as goal

abbrev pub decreases-evaluation::eval_script : goal.decreases-evaluation::eval_script
decreases-evaluation::eval_script g l = 32032 * g.O.Outside.entries_left l.outside.now + 32 * room (tree_of l.tree.now) + 0

abbrev pub decreases-evaluation::eval_text : goal.decreases-evaluation::eval_text
decreases-evaluation::eval_text g l = 32032 * g.O.Outside.entries_left l.outside.now + 32 * room (tree_of l.tree.now) + 1

abbrev pub decreases-evaluation::eval_bracket : goal.decreases-evaluation::eval_bracket
decreases-evaluation::eval_bracket g l = 32032 * g.O.Outside.entries_left l.outside.now + 32 * room (tree_of l.tree.now) + 1

abbrev pub decreases-evaluation::eval_value : goal.decreases-evaluation::eval_value
decreases-evaluation::eval_value g l = 32032 * g.O.Outside.entries_left l.outside.now + 32 * room (tree_of l.tree.now) + 1

abbrev pub decreases-evaluation::eval_read : goal.decreases-evaluation::eval_read
decreases-evaluation::eval_read g l = 32032 * g.O.Outside.entries_left l.outside.now + 32 * room (tree_of l.tree.now) + 1

abbrev pub decreases-control::eval : goal.decreases-control::eval
decreases-control::eval g l = 32032 * g.O.Outside.entries_left l.outside.now + 32 * room (tree_of l.tree.now) + 2

abbrev pub decreases-control::catch : goal.decreases-control::catch
decreases-control::catch g l = 32032 * g.O.Outside.entries_left l.outside.now + 32 * room (tree_of l.tree.now) + 2

abbrev pub decreases-commands::call_procedure : goal.decreases-commands::call_procedure
decreases-commands::call_procedure g l = 32032 * g.O.Outside.entries_left l.outside.now + 32 * room (tree_of l.tree.now) + 2

abbrev pub decreases-evaluation::eval_part : goal.decreases-evaluation::eval_part
decreases-evaluation::eval_part g l = 32032 * g.O.Outside.entries_left l.outside.now + 32 * room (tree_of l.tree.now) + 2

abbrev pub decreases-evaluation::eval_lone_part : goal.decreases-evaluation::eval_lone_part
decreases-evaluation::eval_lone_part g l = 32032 * g.O.Outside.entries_left l.outside.now + 32 * room (tree_of l.tree.now) + 2

abbrev pub decreases-commands::call_builtin : goal.decreases-commands::call_builtin
decreases-commands::call_builtin g l = 32032 * g.O.Outside.entries_left l.outside.now + 32 * room (tree_of l.tree.now) + 12

abbrev pub decreases-evaluation::substitute : goal.decreases-evaluation::substitute
decreases-evaluation::substitute g l = 32032 * g.O.Outside.entries_left l.outside.now + 32 * room (tree_of l.tree.now) + 3

abbrev pub decreases-evaluation::eval_word : goal.decreases-evaluation::eval_word
decreases-evaluation::eval_word g l = 32032 * g.O.Outside.entries_left l.outside.now + 32 * room (tree_of l.tree.now) + 4

abbrev pub decreases-commands::call_command : goal.decreases-commands::call_command
decreases-commands::call_command g l = 32032 * g.O.Outside.entries_left l.outside.now + 32 * room (tree_of l.tree.now) + 13

abbrev pub decreases-commands::call : goal.decreases-commands::call
decreases-commands::call g l = 32032 * g.O.Outside.entries_left l.outside.now + 32 * room (tree_of l.tree.now) + 14

abbrev pub decreases-words::call_texts : goal.decreases-words::call_texts
decreases-words::call_texts g l = 32032 * g.O.Outside.entries_left l.outside.now + 32 * room (tree_of l.tree.now) + 15

abbrev pub decreases-words::call_literals : goal.decreases-words::call_literals
decreases-words::call_literals g l = 32032 * g.O.Outside.entries_left l.outside.now + 32 * room (tree_of l.tree.now) + 16

abbrev pub decreases-at_hand::call_known : goal.decreases-at_hand::call_known
decreases-at_hand::call_known g l = 32032 * g.O.Outside.entries_left l.outside.now + 32 * room (tree_of l.tree.now) + 13

abbrev pub decreases-at_hand::call_named : goal.decreases-at_hand::call_named
decreases-at_hand::call_named g l = 32032 * g.O.Outside.entries_left l.outside.now + 32 * room (tree_of l.tree.now) + 14

abbrev pub decreases-at_hand::call_known_on_hand : goal.decreases-at_hand::call_known_on_hand
decreases-at_hand::call_known_on_hand g l = 32032 * g.O.Outside.entries_left l.outside.now + 32 * room (tree_of l.tree.now) + 14

abbrev pub decreases-at_hand::call_named_on_hand : goal.decreases-at_hand::call_named_on_hand
decreases-at_hand::call_named_on_hand g l = 32032 * g.O.Outside.entries_left l.outside.now + 32 * room (tree_of l.tree.now) + 15

abbrev pub decreases-at_hand::call_on_hand : goal.decreases-at_hand::call_on_hand
decreases-at_hand::call_on_hand g l = 32032 * g.O.Outside.entries_left l.outside.now + 32 * room (tree_of l.tree.now) + 16

abbrev pub decreases-at_hand::call_one_at_hand : goal.decreases-at_hand::call_one_at_hand
decreases-at_hand::call_one_at_hand g l = 32032 * g.O.Outside.entries_left l.outside.now + 32 * room (tree_of l.tree.now) + 17

abbrev pub decreases-at_hand::call_two_at_hand : goal.decreases-at_hand::call_two_at_hand
decreases-at_hand::call_two_at_hand g l = 32032 * g.O.Outside.entries_left l.outside.now + 32 * room (tree_of l.tree.now) + 17

abbrev pub decreases-at_hand::call_three_words : goal.decreases-at_hand::call_three_words
decreases-at_hand::call_three_words g l = 32032 * g.O.Outside.entries_left l.outside.now + 32 * room (tree_of l.tree.now) + 17

abbrev pub decreases-at_hand::call_four_words : goal.decreases-at_hand::call_four_words
decreases-at_hand::call_four_words g l = 32032 * g.O.Outside.entries_left l.outside.now + 32 * room (tree_of l.tree.now) + 17

abbrev pub decreases-at_hand::change_entry_or_call : goal.decreases-at_hand::change_entry_or_call
decreases-at_hand::change_entry_or_call g l = 32032 * g.O.Outside.entries_left l.outside.now + 32 * room (tree_of l.tree.now) + 18

abbrev pub decreases-at_hand::call_three_at_hand : goal.decreases-at_hand::call_three_at_hand
decreases-at_hand::call_three_at_hand g l = 32032 * g.O.Outside.entries_left l.outside.now + 32 * room (tree_of l.tree.now) + 19

abbrev pub decreases-at_hand::call_four_at_hand : goal.decreases-at_hand::call_four_at_hand
decreases-at_hand::call_four_at_hand g l = 32032 * g.O.Outside.entries_left l.outside.now + 32 * room (tree_of l.tree.now) + 19

abbrev pub decreases-at_hand::call_at_hand : goal.decreases-at_hand::call_at_hand
decreases-at_hand::call_at_hand g l = 32032 * g.O.Outside.entries_left l.outside.now + 32 * room (tree_of l.tree.now) + 20

abbrev pub decreases-words::call_with_value : goal.decreases-words::call_with_value
decreases-words::call_with_value g l = 32032 * g.O.Outside.entries_left l.outside.now + 32 * room (tree_of l.tree.now) + 16

abbrev pub decreases-words::change_to : goal.decreases-words::change_to
decreases-words::change_to g l = 32032 * g.O.Outside.entries_left l.outside.now + 32 * room (tree_of l.tree.now) + 17

abbrev pub decreases-words::change_by_part : goal.decreases-words::change_by_part
decreases-words::change_by_part g l = 32032 * g.O.Outside.entries_left l.outside.now + 32 * room (tree_of l.tree.now) + 18

abbrev pub decreases-words::change_by_parts : goal.decreases-words::change_by_parts
decreases-words::change_by_parts g l = 32032 * g.O.Outside.entries_left l.outside.now + 32 * room (tree_of l.tree.now) + 18

abbrev pub decreases-words::substitute_and_call : goal.decreases-words::substitute_and_call
decreases-words::substitute_and_call g l = 32032 * g.O.Outside.entries_left l.outside.now + 32 * room (tree_of l.tree.now) + 19

abbrev pub decreases-words::call_general : goal.decreases-words::call_general
decreases-words::call_general g l = 32032 * g.O.Outside.entries_left l.outside.now + 32 * room (tree_of l.tree.now) + 18

abbrev pub decreases-words::call_words : goal.decreases-words::call_words
decreases-words::call_words g l = 32032 * g.O.Outside.entries_left l.outside.now + 32 * room (tree_of l.tree.now) + 21

abbrev pub decreases-words::change_or_call : goal.decreases-words::change_or_call
decreases-words::change_or_call g l = 32032 * g.O.Outside.entries_left l.outside.now + 32 * room (tree_of l.tree.now) + 22

abbrev pub decreases-evaluation::eval_command : goal.decreases-evaluation::eval_command
decreases-evaluation::eval_command g l = 32032 * g.O.Outside.entries_left l.outside.now + 32 * room (tree_of l.tree.now) + 23

abbrev pub decreases-evaluation::eval_commands : goal.decreases-evaluation::eval_commands
decreases-evaluation::eval_commands g l = 32032 * g.O.Outside.entries_left l.outside.now + 32 * room (tree_of l.tree.now) + 24

abbrev pub decreases-crossing::call_target : goal.decreases-crossing::call_target
decreases-crossing::call_target g l = 32032 * g.O.Outside.entries_left l.outside.now + 32 * room (tree_of l.tree.now) + 0

abbrev pub decreases-crossing::serve_call : goal.decreases-crossing::serve_call
decreases-crossing::serve_call g l = 32032 * g.O.Outside.entries_left l.outside.now + 32 * room (tree_of l.tree.now) + 1

abbrev pub decreases-crossing::call_alias : goal.decreases-crossing::call_alias
decreases-crossing::call_alias g l = 32032 * g.O.Outside.entries_left l.outside.now + 32 * room (tree_of l.tree.now) + 5

abbrev pub decreases-crossing::invoke : goal.decreases-crossing::invoke
decreases-crossing::invoke g l = 32032 * g.O.Outside.entries_left l.outside.now + 32 * room (tree_of l.tree.now) + 0

abbrev pub decreases-crossing::invoke_at : goal.decreases-crossing::invoke_at
decreases-crossing::invoke_at g l = 32032 * g.O.Outside.entries_left l.outside.now + 32 * room (tree_of l.tree.now) + 15

abbrev pub decreases-crossing::serve_hidden : goal.decreases-crossing::serve_hidden
decreases-crossing::serve_hidden g l = 32032 * g.O.Outside.entries_left l.outside.now + 32 * room (tree_of l.tree.now) + 2

abbrev pub decreases-crossing::serve_eval : goal.decreases-crossing::serve_eval
decreases-crossing::serve_eval g l = 32032 * g.O.Outside.entries_left l.outside.now + 32 * room (tree_of l.tree.now) + 2

abbrev pub decreases-commands::call_hidden : goal.decreases-commands::call_hidden
decreases-commands::call_hidden g l = 32032 * g.O.Outside.entries_left l.outside.now + 32 * room (tree_of l.tree.now) + 14

abbrev pub decreases-interpreters::eval_in : goal.decreases-interpreters::eval_in
decreases-interpreters::eval_in g l = 32032 * g.O.Outside.entries_left l.outside.now + 32 * room (tree_of l.tree.now) + 9

abbrev pub decreases-interpreters::interp : goal.decreases-interpreters::interp
decreases-interpreters::interp g l = 32032 * g.O.Outside.entries_left l.outside.now + 32 * room (tree_of l.tree.now) + 11

abbrev pub decreases-interpreters::invoke_hidden : goal.decreases-interpreters::invoke_hidden
decreases-interpreters::invoke_hidden g l = 32032 * g.O.Outside.entries_left l.outside.now + 32 * room (tree_of l.tree.now) + 9

abbrev pub decreases-interpreters::call_subcommand : goal.decreases-interpreters::call_subcommand
decreases-interpreters::call_subcommand g l = 32032 * g.O.Outside.entries_left l.outside.now + 32 * room (tree_of l.tree.now) + 10

abbrev pub decreases-children::child : goal.decreases-children::child
decreases-children::child g l = 32032 * g.O.Outside.entries_left l.outside.now + 32 * room (tree_of l.tree.now) + 11

abbrev pub invariant-evaluation::eval_commands-commands : goal.invariant-evaluation::eval_commands-commands
invariant-evaluation::eval_commands-commands g l = record {
  leads : (p : Path) (style : Integers) → IsAt l.fn.tree l.place p style →
      Leads (ways g.O.Outside.goes g.O.Outside.loses) style (tree_of l.fn.tree) l.fn.outside p (commands l.fn.script.commands l.fn.script.fault []) (tree_of l.tree) l.outside (commands (map seen_command (drop l.command-index l.all)) l.fn.script.fault l.last);
  here : IsHere l.fn.tree l.tree l.place;
  keeps : Keeps g.O.Outside.entries_left l.fn.tree l.tree l.fn.outside l.outside;
}

abbrev pub invariant-words::call_general-words : goal.invariant-words::call_general-words
invariant-words::call_general-words g l = record {
  leads : (p : Path) (style : Integers) → IsAt l.fn.tree l.place p style →
      Leads (ways g.O.Outside.goes g.O.Outside.loses) style (tree_of l.fn.tree) l.fn.outside p (words (map seen_word l.fn.words) []) (tree_of l.tree) l.outside (words (map seen_word (drop l.word-index l.words)) l.texts.items);
  here : IsHere l.fn.tree l.tree l.place;
  keeps : Keeps g.O.Outside.entries_left l.fn.tree l.tree l.fn.outside l.outside;
}

abbrev pub invariant-evaluation::substitute-parts : goal.invariant-evaluation::substitute-parts
invariant-evaluation::substitute-parts g l = record {
  leads : (p : Path) (style : Integers) → IsAt l.fn.tree l.place p style →
      Leads (ways g.O.Outside.goes g.O.Outside.loses) style (tree_of l.fn.tree) l.fn.outside p (parts (map seen_part l.fn.parts) [] []) (tree_of l.tree) l.outside (parts (map seen_part (drop l.part-index l.parts)) (opens l.elements.items) (string_bytes l.text));
  short : IsShort (string_bytes l.text);
  here : IsHere l.fn.tree l.tree l.place;
  keeps : Keeps g.O.Outside.entries_left l.fn.tree l.tree l.fn.outside l.outside;
}

-- Expressions, and the commands with conditions.

abbrev pub decreases-operands::eval_operand : goal.decreases-operands::eval_operand
decreases-operands::eval_operand g l = 32032 * g.O.Outside.entries_left l.outside.now + 32 * room (tree_of l.tree.now) + 5

abbrev pub decreases-operands::eval_leaf : goal.decreases-operands::eval_leaf
decreases-operands::eval_leaf g l = 32032 * g.O.Outside.entries_left l.outside.now + 32 * room (tree_of l.tree.now) + 6

abbrev pub decreases-expressions::compute_parts : goal.decreases-expressions::compute_parts
decreases-expressions::compute_parts g l = 32032 * g.O.Outside.entries_left l.outside.now + 32 * room (tree_of l.tree.now) + 6

abbrev pub decreases-expressions::compute_two : goal.decreases-expressions::compute_two
decreases-expressions::compute_two g l = 32032 * g.O.Outside.entries_left l.outside.now + 32 * room (tree_of l.tree.now) + 7

abbrev pub decreases-expressions::compute : goal.decreases-expressions::compute
decreases-expressions::compute g l = 32032 * g.O.Outside.entries_left l.outside.now + 32 * room (tree_of l.tree.now) + 8

abbrev pub decreases-expressions::expression : goal.decreases-expressions::expression
decreases-expressions::expression g l = 32032 * g.O.Outside.entries_left l.outside.now + 32 * room (tree_of l.tree.now) + 9

abbrev pub decreases-expressions::condition : goal.decreases-expressions::condition
decreases-expressions::condition g l = 32032 * g.O.Outside.entries_left l.outside.now + 32 * room (tree_of l.tree.now) + 9

abbrev pub decreases-expressions::expr : goal.decreases-expressions::expr
decreases-expressions::expr g l = 32032 * g.O.Outside.entries_left l.outside.now + 32 * room (tree_of l.tree.now) + 10

abbrev pub decreases-expressions::if_one : goal.decreases-expressions::if_one
decreases-expressions::if_one g l = 32032 * g.O.Outside.entries_left l.outside.now + 32 * room (tree_of l.tree.now) + 10

abbrev pub decreases-expressions::if_many : goal.decreases-expressions::if_many
decreases-expressions::if_many g l = 32032 * g.O.Outside.entries_left l.outside.now + 32 * room (tree_of l.tree.now) + 10

abbrev pub decreases-expressions::if_first : goal.decreases-expressions::if_first
decreases-expressions::if_first g l = 32032 * g.O.Outside.entries_left l.outside.now + 32 * room (tree_of l.tree.now) + 11

abbrev pub decreases-expressions::turn : goal.decreases-expressions::turn
decreases-expressions::turn g l = 32032 * g.O.Outside.entries_left l.outside.now + 32 * room (tree_of l.tree.now) + 10

abbrev pub decreases-expressions::while_loop : goal.decreases-expressions::while_loop
decreases-expressions::while_loop g l = 32032 * g.O.Outside.entries_left l.outside.now + 32 * room (tree_of l.tree.now) + 11

abbrev pub decreases-expressions::for_loop : goal.decreases-expressions::for_loop
decreases-expressions::for_loop g l = 32032 * g.O.Outside.entries_left l.outside.now + 32 * room (tree_of l.tree.now) + 11

abbrev pub decreases-expressions::compute_parts-parts : goal.decreases-expressions::compute_parts-parts
decreases-expressions::compute_parts-parts g l = length l.kept.nodes.items - l.evaluation.next

abbrev pub invariant-expressions::compute_parts-parts : goal.invariant-expressions::compute_parts-parts
invariant-expressions::compute_parts-parts g l = record {
  leads : (p : Path) (style : Integers) → IsAt l.fn.tree l.place p style → (text : List ℕ) → IsKept style text l.fn.kept →
      Leads (ways g.O.Outside.goes g.O.Outside.loses) style (tree_of l.fn.tree) l.fn.outside p (expression style text) (tree_of l.tree) l.outside (computed (from style l.kept.nodes.items l.evaluation.next l.evaluation.values.items) (settles style));
  here : IsHere l.fn.tree l.tree l.place;
  keeps : Keeps g.O.Outside.entries_left l.fn.tree l.tree l.fn.outside l.outside;
}

abbrev pub invariant-expressions::if_many-tests : goal.invariant-expressions::if_many-tests
invariant-expressions::if_many-tests g l = record {
  leads : (p : Path) (style : Integers) → IsAt l.fn.tree l.place p style →
      Leads (ways g.O.Outside.goes g.O.Outside.loses) style (tree_of l.fn.tree) l.fn.outside p (if_first style l.fn.args) (tree_of l.tree) l.outside (first_true style (tests_of (drop l.branch-index l.branch-items)) (option_copied l.last));
  here : IsHere l.fn.tree l.tree l.place;
  keeps : Keeps g.O.Outside.entries_left l.fn.tree l.tree l.fn.outside l.outside;
}

abbrev pub invariant-expressions::while_loop-turns : goal.invariant-expressions::while_loop-turns
invariant-expressions::while_loop-turns g l = record {
  leads : (p : Path) (style : Integers) → IsAt l.fn.tree l.place p style →
      Leads (ways g.O.Outside.goes g.O.Outside.loses) style (tree_of l.fn.tree) l.fn.outside p (while_loop l.fn.args) (tree_of l.tree) l.outside (while_turns style (get_or l.fn.args 0 []) (get_or l.fn.args 1 []));
  here : IsHere l.fn.tree l.tree l.place;
  keeps : Keeps g.O.Outside.entries_left l.fn.tree l.tree l.fn.outside l.outside;
}

abbrev pub invariant-expressions::for_loop-turns : goal.invariant-expressions::for_loop-turns
invariant-expressions::for_loop-turns g l = record {
  leads : (p : Path) (style : Integers) → IsAt l.fn.tree l.place p style →
      Leads (ways g.O.Outside.goes g.O.Outside.loses) style (tree_of l.fn.tree) l.fn.outside p (for_loop l.fn.args) (tree_of l.tree) l.outside (for_turns style (get_or l.fn.args 1 []) (get_or l.fn.args 2 []) (get_or l.fn.args 3 []));
  here : IsHere l.fn.tree l.tree l.place;
  keeps : Keeps g.O.Outside.entries_left l.fn.tree l.tree l.fn.outside l.outside;
}

-- Loops over lists, and scripts at another level.

abbrev pub decreases-loops::foreach : goal.decreases-loops::foreach
decreases-loops::foreach g l = 32032 * g.O.Outside.entries_left l.outside.now + 32 * room (tree_of l.tree.now) + 10

abbrev pub decreases-loops::walk_through : goal.decreases-loops::walk_through
decreases-loops::walk_through g l = 32032 * g.O.Outside.entries_left l.outside.now + 32 * room (tree_of l.tree.now) + 9

abbrev pub decreases-loops::dict_for : goal.decreases-loops::dict_for
decreases-loops::dict_for g l = 32032 * g.O.Outside.entries_left l.outside.now + 32 * room (tree_of l.tree.now) + 10

abbrev pub decreases-loops::dict : goal.decreases-loops::dict
decreases-loops::dict g l = 32032 * g.O.Outside.entries_left l.outside.now + 32 * room (tree_of l.tree.now) + 11

abbrev pub decreases-collecting::lmap : goal.decreases-collecting::lmap
decreases-collecting::lmap g l = 32032 * g.O.Outside.entries_left l.outside.now + 32 * room (tree_of l.tree.now) + 10

abbrev pub decreases-loops::uplevel : goal.decreases-loops::uplevel
decreases-loops::uplevel g l = 32032 * g.O.Outside.entries_left l.outside.now + 32 * room (tree_of l.tree.now) + 2

abbrev pub invariant-loops::walk_through-turns : goal.invariant-loops::walk_through-turns
invariant-loops::walk_through-turns g l = record {
  leads : (p : Path) (style : Integers) → IsAt l.fn.tree l.place p style →
      Leads (ways g.O.Outside.goes g.O.Outside.loses) style (tree_of l.fn.tree) l.fn.outside p (foreach_turns (walks_at 0 l.fn.walks) l.fn.body) (tree_of l.tree) l.outside (foreach_turns (walks_at l.turns l.fn.walks) l.fn.body);
  here : IsHere l.fn.tree l.tree l.place;
  keeps : Keeps g.O.Outside.entries_left l.fn.tree l.tree l.fn.outside l.outside;
}

abbrev pub invariant-collecting::lmap-turns : goal.invariant-collecting::lmap-turns
invariant-collecting::lmap-turns g l = record {
  leads : (p : Path) (style : Integers) → IsAt l.fn.tree l.place p style →
      Leads (ways g.O.Outside.goes g.O.Outside.loses) style (tree_of l.fn.tree) l.fn.outside p (lmap l.fn.args) (tree_of l.tree) l.outside (lmap_turns (walks_at l.turns l.walks.items) l.body l.made);
  here : IsHere l.fn.tree l.tree l.place;
  keeps : Keeps g.O.Outside.entries_left l.fn.tree l.tree l.fn.outside l.outside;
}

-- Choices of a script.

abbrev pub decreases-switching::switch : goal.decreases-switching::switch
decreases-switching::switch g l = 32032 * g.O.Outside.entries_left l.outside.now + 32 * room (tree_of l.tree.now) + 2

abbrev pub decreases-trying::run_handler : goal.decreases-trying::run_handler
decreases-trying::run_handler g l = 32032 * g.O.Outside.entries_left l.outside.now + 32 * room (tree_of l.tree.now) + 2

abbrev pub decreases-trying::handle : goal.decreases-trying::handle
decreases-trying::handle g l = 32032 * g.O.Outside.entries_left l.outside.now + 32 * room (tree_of l.tree.now) + 3

abbrev pub decreases-trying::handled : goal.decreases-trying::handled
decreases-trying::handled g l = 32032 * g.O.Outside.entries_left l.outside.now + 32 * room (tree_of l.tree.now) + 4

abbrev pub decreases-trying::try_script : goal.decreases-trying::try_script
decreases-trying::try_script g l = 32032 * g.O.Outside.entries_left l.outside.now + 32 * room (tree_of l.tree.now) + 5

-- Crossings, and what stands outside of the tree.

abbrev pub decreases-crossing::serve_entry : goal.decreases-crossing::serve_entry
decreases-crossing::serve_entry g l = 32032 * g.O.Outside.entries_left l.outside.now + 32 * room (tree_of l.tree.now) + 3

abbrev pub decreases-crossing::call_there : goal.decreases-crossing::call_there
decreases-crossing::call_there g l = 32032 * g.O.Outside.entries_left l.outside.now + 32 * room (tree_of l.tree.now) + 4

abbrev pub decreases-crossing::call_past_top : goal.decreases-crossing::call_past_top
decreases-crossing::call_past_top g l = 32032 * g.O.Outside.entries_left l.outside.now + 32 * room (tree_of l.tree.now) + 1

abbrev pub decreases-crossing::ask_below : goal.decreases-crossing::ask_below
decreases-crossing::ask_below g l = 32032 * g.O.Outside.entries_left l.outside.now + 32 * room (tree_of l.tree.now) + 5

abbrev pub decreases-crossing::ask_entry : goal.decreases-crossing::ask_entry
decreases-crossing::ask_entry g l = 32032 * g.O.Outside.entries_left l.outside.now + 32 * room (tree_of l.tree.now) + 6

abbrev pub decreases-waiting::wait : goal.decreases-waiting::wait
decreases-waiting::wait g l = 32032 * g.O.Outside.entries_left l.outside.now + 32 * room (tree_of l.tree.now) + 0

abbrev pub decreases-waiting::hand_in : goal.decreases-waiting::hand_in
decreases-waiting::hand_in g l = 32032 * g.O.Outside.entries_left l.outside.now + 32 * room (tree_of l.tree.now) + 6

abbrev pub decreases-waiting::hand_to : goal.decreases-waiting::hand_to
decreases-waiting::hand_to g l = 32032 * g.O.Outside.entries_left l.outside.now + 32 * room (tree_of l.tree.now) + 5

abbrev pub decreases-waiting::enter : goal.decreases-waiting::enter
decreases-waiting::enter g l = 32032 * g.O.Outside.entries_left l.outside.now + 32 * room (tree_of l.tree.now) + 4

abbrev pub decreases-hosting::ask : goal.decreases-hosting::ask
decreases-hosting::ask g l = 32032 * g.O.Outside.entries_left l.outside.now + 32 * room (tree_of l.tree.now) + 1

abbrev pub decreases-hosting::make_call : goal.decreases-hosting::make_call
decreases-hosting::make_call g l = 32032 * g.O.Outside.entries_left l.outside.now + 32 * room (tree_of l.tree.now) + 2

abbrev pub decreases-hosting::call_host : goal.decreases-hosting::call_host
decreases-hosting::call_host g l = 32032 * g.O.Outside.entries_left l.outside.now + 32 * room (tree_of l.tree.now) + 3

abbrev pub decreases-hosting::write : goal.decreases-hosting::write
decreases-hosting::write g l = 32032 * g.O.Outside.entries_left l.outside.now + 32 * room (tree_of l.tree.now) + 3

abbrev pub decreases-hosting::put_line : goal.decreases-hosting::put_line
decreases-hosting::put_line g l = 32032 * g.O.Outside.entries_left l.outside.now + 32 * room (tree_of l.tree.now) + 4

abbrev pub decreases-hosting::puts : goal.decreases-hosting::puts
decreases-hosting::puts g l = 32032 * g.O.Outside.entries_left l.outside.now + 32 * room (tree_of l.tree.now) + 5

abbrev pub decreases-sourcing::read_channel : goal.decreases-sourcing::read_channel
decreases-sourcing::read_channel g l = 32032 * g.O.Outside.entries_left l.outside.now + 32 * room (tree_of l.tree.now) + 2

abbrev pub decreases-sourcing::read_file : goal.decreases-sourcing::read_file
decreases-sourcing::read_file g l = 32032 * g.O.Outside.entries_left l.outside.now + 32 * room (tree_of l.tree.now) + 3

abbrev pub decreases-sourcing::eval_file : goal.decreases-sourcing::eval_file
decreases-sourcing::eval_file g l = 32032 * g.O.Outside.entries_left l.outside.now + 32 * room (tree_of l.tree.now) + 2

abbrev pub decreases-sourcing::source_file : goal.decreases-sourcing::source_file
decreases-sourcing::source_file g l = 32032 * g.O.Outside.entries_left l.outside.now + 32 * room (tree_of l.tree.now) + 4

abbrev pub decreases-sourcing::source : goal.decreases-sourcing::source
decreases-sourcing::source g l = 32032 * g.O.Outside.entries_left l.outside.now + 32 * room (tree_of l.tree.now) + 5

abbrev pub decreases-waiting::wait-turns : goal.decreases-waiting::wait-turns
decreases-waiting::wait-turns g l = g.O.Outside.entries_left l.outside

abbrev pub invariant-waiting::wait-turns : goal.invariant-waiting::wait-turns
invariant-waiting::wait-turns g l = record {
  leads : WaitsFrom (ways g.O.Outside.goes g.O.Outside.loses) l.fn.tree l.fn.outside l.place l.up (whole_entry l.entry) l.tree l.outside;
  keeps : Keeps g.O.Outside.entries_left l.fn.tree l.tree l.fn.outside l.outside;
}
