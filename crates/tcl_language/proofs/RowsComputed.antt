-- Worked scripts, computed: whatever proof the table of the commands brings along.
use Rattle.std.proofs.Common.{refl}
use Rattle.std.specs.Char.{encode_utf8}
use Rattle.std.specs.Fmt.{digits}
use Rattle.std.specs.Str.{chars}
use Rattle.tcl_frames.specs.Arrays.{elements_set, elements_unset}
use Rattle.tcl_frames.specs.Chain.{place_named, read, exists_at, bind, unbind, written, made_array, removed, linked, names_held, names_own, variables_at, names_of, array_at, words_at, popped, set_aside, brought_back}
use Rattle.tcl_frames.specs.Names.{closed, opened, element_of, colons_after, after_colon, after_colons, name_of, is_plain}
use Rattle.tcl_frames.specs.Places.{bound, next, walk, links_in, links, end_of}
use Rattle.tcl_parser.specs.Reading.{joined, after_white, after_gap, in_braces, after_name, read_parts, read_words, read_commands, after_script}
use Rattle.tcl_parser.specs.Several.{several}
use Rattle.tcl_text.specs.Backslash.{number_len, escape}
use Rattle.tcl_text.specs.Lists.{count_all, close_brace, units, element_at, elements}
use Rattle.tcl_text.specs.Writing as writing
use Rattle.tcl_arithmetic.specs.Powers.{power}
use Rattle.tcl_expr.specs.Tokens.{after_word, after_parts}
use Rattle.tcl_expr.specs.Expressions.{tokens_from}
use Rattle.tcl_expr.specs.Reading as grammar
use Rattle.tcl_expression_evaluation.specs.Computations.{computes, arguments}
use Rattle.tcl_language.specs.Language.{ProgramsCall, language_with}
use Rattle.tcl_language.specs.Rows.{AreRows}

pub rows : (calls : ProgramsCall) → AreRows (language_with calls)
unfolding encode_utf8 digits chars place_named read exists_at bind unbind written made_array removed linked names_held names_own variables_at names_of array_at words_at popped set_aside brought_back closed opened element_of colons_after after_colon after_colons name_of is_plain bound next walk links_in links end_of joined after_white after_gap in_braces after_name read_parts read_words read_commands after_script several number_len escape count_all close_brace units element_at elements writing.written power after_word after_parts tokens_from grammar.depth grammar.settle grammar.step grammar.run computes arguments elements_set elements_unset
rows calls = record {
  empty = refl;
  list = refl;
  open_brace = refl;
  open_bracket = refl;
  spread = refl;
  hash = refl;
  element = refl;
  itself = refl;
  overflow = refl;
  foreach = refl;
  options = refl;
  loose_break = refl;
  unknown = refl;
  octal = refl;
  exit = refl;
  exit_status = refl;
  channels = refl;
  children = refl;
  made_again = refl;
  within_limit = refl;
  past_limit = refl;
  nested_limit = refl;
  wider_limit = refl;
  own_limit = refl;
  hidden = refl;
  safe_below_safe = refl;
  hidden_exit = refl;
  unset_last = refl;
  loose_break_in_proc = refl;
  linked = refl;
  by_hidden_door = refl;
  no_exposing = refl;
  deleted_in_use = refl;
  deleted_at_once = refl;
  made_anew_in_use = refl;
  made_anew_at_level_0 = refl;
  deleted_twice_in_use = refl;
  made_anew_above = refl;
  catches_no_deletion = refl;
  deleted_from_below = refl;
  deleted_below = refl;
  parameters = refl;
  locals_of_caller = refl;
  uplevel = refl;
  level_words = refl;
  link_makes_none = refl;
  alias_counts = refl;
  alias_words = refl;
  turns_counted = refl;
  hidden_below = refl;
  missing_counted = refl;
  padded = refl;
  no_child_given_away = refl;
  deleted_by_name = refl;
  hidden_by_name = refl;
  returns = refl;
  returned_code = refl;
  returned_level = refl;
  caught_return = refl;
  returned_options = refl;
  later_options_win = refl;
  bad_code = refl;
  bad_return_level = refl;
  redefined = refl;
  asked = refl;
  division = refl;
  sum_overflow = refl;
  least = refl;
  octal_sum = refl;
  no_octal = refl;
  powers = refl;
  shift_overflow = refl;
  lazy_and = refl;
  lazy_or = refl;
  lazy_choice = refl;
  from_the_left = refl;
  joined = refl;
  operand_ends = refl;
  read_whole = refl;
  non_numeric = refl;
  final_number = refl;
  no_expression = refl;
  compared_tens = refl;
  child_style = refl;
  loops = refl;
  ends_the_loop = refl;
  else_branch = refl;
  elseif_branch = refl;
  no_branch = refl;
  words_first = refl;
  behind_else = refl;
  later_condition = refl;
  no_boolean = refl;
  loop_gives_nothing = refl;
  while_counted = refl;
  next_breaks = refl;
  next_continues = refl;
  start_ends = refl;
  stopped_loop = refl;
  loop_stopped = refl;
  turns_refused = refl;
  turns_made = refl;
  bad_list = refl;
  switch_body = refl;
  switch_default = refl;
  switch_words = refl;
  lmap = refl;
  lmap_ends = refl;
  lmap_counted = refl;
  dict_for = refl;
  dict_for_names = refl;
  trapped = refl;
  finally = refl;
  handled_break = refl;
  finally_stopped = refl;
  matching = refl;
  string_map = refl;
  format = refl;
  format_texts = refl;
  lappend = refl;
  lappend_makes = refl;
  split = refl;
  kept_integer = refl;
  kept_dict = refl;
  kept_list = refl;
  string_parts = refl;
  string_is = refl;
  lassign = refl;
  insertion = refl;
  dict_built = refl;
  missing_key = refl;
  other_subcommand = refl;
  lset = refl;
  lset_refused = refl;
  dict_changed = refl;
  dict_summed = refl;
  dict_grown = refl;
  lsort = refl;
  lsearch = refl;
  thrown = refl;
  lsort_by_style = refl;
  decimal_ten = refl;
  array = refl;
  array_patterns = refl;
  no_array = refl;
  empty_array = refl;
  odd_elements = refl;
  no_elements = refl;
  info_args = refl;
  info_default = refl;
  no_default = refl;
  no_procedure = refl;
  info_commands = refl;
  info_complete = refl;
  nobody_there = refl;
  nobody_at_the_top = refl;
  nobody_above = refl;
}
