-- A prepared script is seen as the script that was read.
use Rattle.std.specs.Prelude.{ℕ, true, false, List, [], ◌∷◌, map}
use Rattle.tcl_parser.specs.Words.{WordRead}
use Rattle.tcl_parser.specs.declared.script.Part.{Part}
use Rattle.tcl_parser.specs.declared.script.Part.TheVariants as part
use Rattle.tcl_prepared.specs.declared.prepared.PreparedPart.{PreparedPart}
use Rattle.tcl_prepared.specs.declared.prepared.PreparedPart.TheVariants.{Literal, Variable}
use Rattle.tcl_prepared.specs.declared.prepared.PreparedPart.TheVariants.{Element, EndElement}
use Rattle.tcl_prepared.specs.declared.prepared.PreparedPart.TheVariants.{Bracket, Deep}
use Rattle.tcl_prepared.specs.declared.prepared.PreparedWord.{PreparedWord}
use Rattle.tcl_prepared.specs.declared.prepared.PreparedWord.TheVariants as word
use Rattle.tcl_prepared.specs.declared.prepared.PreparedCommand.{PreparedCommand}
use Rattle.tcl_prepared.specs.declared.prepared.PreparedCommand.TheVariants.{Constant}
use Rattle.tcl_prepared.specs.declared.prepared.PreparedCommand.TheVariants.{AtHand, General}

-- a part; a script in brackets is seen as its text
abbrev pub seen_part : PreparedPart → Part
seen_part (Literal t) = part.Literal t
seen_part (Variable x) = part.Variable x
seen_part (Element x) = part.Element x
seen_part EndElement = part.EndElement
seen_part (Bracket t) = part.Script t
seen_part (Deep t) = part.Script t

-- the parts of a word that stands for itself: none where it is empty
abbrev pub literal_parts : List ℕ → List Part
literal_parts [] = []
literal_parts (b ∷ rest) = part.Literal (b ∷ rest) ∷ []

-- such a word
abbrev pub literal_word : List ℕ → WordRead
literal_word t = record { parts = literal_parts t; expand = false }

abbrev pub seen_word : PreparedWord → WordRead
seen_word (word.Literal t) = literal_word t
seen_word (word.Name t) = literal_word t
seen_word (word.Lone p) = record { parts = seen_part p ∷ []; expand = false }
seen_word (word.Parts ps) = record { parts = map seen_part ps.items; expand = false }
seen_word (word.Spread ps) = record { parts = map seen_part ps.items; expand = true }

abbrev pub seen_command : PreparedCommand → List WordRead
seen_command (Constant ts) = map literal_word ts
seen_command (AtHand ws) = map seen_word ws.items
seen_command (General ws) = map seen_word ws.items
