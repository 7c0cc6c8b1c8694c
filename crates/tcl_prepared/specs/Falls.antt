-- What stands in the brackets of a prepared script is lighter than what it is seen as.
use Rattle.std.specs.Prelude.{◌≤◌, List, [], ◌∷◌, map}
use Rattle.std.proofs.Common.{arith}
use denote.Param.Weighed.{most}
use Rattle.tcl_prepared.specs.Views.{seen_part, seen_word, seen_command}
use Rattle.tcl_prepared.specs.Brackets.{part_weight, parts_weight, words_weight, commands_weight}
use Rattle.tcl_prepared.specs.declared.prepared.PreparedPart.{PreparedPart}
use Rattle.tcl_prepared.specs.declared.prepared.PreparedPart.TheVariants.{Literal, Variable}
use Rattle.tcl_prepared.specs.declared.prepared.PreparedPart.TheVariants.{Element, EndElement}
use Rattle.tcl_prepared.specs.declared.prepared.PreparedPart.TheVariants.{Bracket, Deep}
use Rattle.tcl_prepared.specs.declared.prepared.PreparedWord.{PreparedWord}
use Rattle.tcl_prepared.specs.declared.prepared.PreparedWord.TheVariants as word
use Rattle.tcl_prepared.specs.declared.prepared.PreparedCommand.{PreparedCommand}
use Rattle.tcl_prepared.specs.declared.prepared.PreparedCommand.TheVariants.{Constant}
use Rattle.tcl_prepared.specs.declared.prepared.PreparedCommand.TheVariants.{AtHand, General}
use Rattle.tcl_prepared.specs.declared.prepared.Bracket.TheDeep.{deep-PreparedPart}
use Rattle.tcl_prepared.specs.declared.prepared.Bracket.TheDeep.{deep-PreparedWord}
use Rattle.tcl_prepared.specs.declared.prepared.Bracket.TheDeep.{deep-PreparedCommand}

part_falls : (p : PreparedPart) → deep-PreparedPart p ≤ part_weight (seen_part p)
part_falls (Literal t) = omega arith
part_falls (Variable x) = omega arith
part_falls (Element x) = omega arith
part_falls EndElement = omega arith
part_falls (Bracket t) = omega arith
part_falls (Deep t) = omega arith

parts_fall : (ps : List PreparedPart) → most deep-PreparedPart ps ≤ parts_weight (map seen_part ps)
parts_fall [] = omega arith
parts_fall (p ∷ ps) = omega (arith, part_falls p, parts_fall ps)

word_falls : (w : PreparedWord) → deep-PreparedWord w ≤ parts_weight (seen_word w).parts
word_falls (word.Literal t) = omega arith
word_falls (word.Name t) = omega arith
word_falls (word.Lone p) = omega (arith, part_falls p)
word_falls (word.Parts ps) = omega (arith, parts_fall ps.items)
word_falls (word.Spread ps) = omega (arith, parts_fall ps.items)

words_fall : (ws : List PreparedWord) → most deep-PreparedWord ws ≤ words_weight (map seen_word ws)
words_fall [] = omega arith
words_fall (w ∷ ws) = omega (arith, word_falls w, words_fall ws)

command_falls : (c : PreparedCommand) → deep-PreparedCommand c ≤ words_weight (seen_command c)
command_falls (Constant ts) = omega arith
command_falls (AtHand ws) = omega (arith, words_fall ws.items)
command_falls (General ws) = omega (arith, words_fall ws.items)

pub commands_fall : (cs : List PreparedCommand) →
    most deep-PreparedCommand cs ≤ commands_weight (map seen_command cs)
commands_fall [] = omega arith
commands_fall (c ∷ cs) = omega (arith, command_falls c, commands_fall cs)
