use Rattle.std.proofs.Common.{◌≡◌, ◌+◌, ◌*◌, take, map}
use Rattle.tcl_prepared.specs.Views.{seen_command, seen_part, seen_word}
use Rattle.tcl_prepared.proofs.preparing.+preparing.Given as goal

abbrev pub decreases-prepare_to : goal.decreases-prepare_to
decreases-prepare_to l = 8 * l.levels + 7

abbrev pub decreases-prepare_command : goal.decreases-prepare_command
decreases-prepare_command l = 8 * l.levels + 6

abbrev pub decreases-prepare_words : goal.decreases-prepare_words
decreases-prepare_words l = 8 * l.levels + 5

abbrev pub decreases-prepare_word : goal.decreases-prepare_word
decreases-prepare_word l = 8 * l.levels + 4

abbrev pub decreases-prepare_compound : goal.decreases-prepare_compound
decreases-prepare_compound l = 8 * l.levels + 3

abbrev pub decreases-prepare_parts : goal.decreases-prepare_parts
decreases-prepare_parts l = 8 * l.levels + 2

abbrev pub decreases-prepare_part : goal.decreases-prepare_part
decreases-prepare_part l = 8 * l.levels + 1

abbrev pub decreases-prepare_bracket : goal.decreases-prepare_bracket
decreases-prepare_bracket l = 8 * l.levels

abbrev pub invariant-prepare_to-commands : goal.invariant-prepare_to-commands
invariant-prepare_to-commands l = map seen_command l.commands.items ≡ take l.command-index l.command-items

abbrev pub invariant-prepare_words-words : goal.invariant-prepare_words-words
invariant-prepare_words-words l = map seen_word l.prepared.items ≡ take l.word-index l.words

abbrev pub invariant-prepare_parts-parts : goal.invariant-prepare_parts-parts
invariant-prepare_parts-parts l = map seen_part l.prepared.items ≡ take l.part-index l.parts
