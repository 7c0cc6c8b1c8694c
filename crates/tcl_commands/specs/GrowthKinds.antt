-- What a variable grows by.
use Rattle.std.specs.Prelude.{List, [], codes}
use Rattle.tcl_core.specs.Paths.{Text}
use Rattle.tcl_commands.specs.Growing.{Growth, appended, lengthened}
use Rattle.tcl_commands.specs.Sums.{added_words, raised}
use Rattle.tcl_commands.specs.declared.growing.Growth.{Growth as Kind}
use Rattle.tcl_commands.specs.declared.growing.Growth.TheVariants.{Texts, Elements, Sum}
use Rattle.tcl_commands.specs.declared.growing.Growth.TheVariants.{Number}

abbrev pub grown_by : Kind → List Text → Text → Growth
grown_by Texts more old = appended more old
grown_by Elements more old = lengthened more old
grown_by (Sum style) more old = raised style more old
grown_by (Number style by) more old = raised style (added_words by) old

-- what it grows from where there is none
abbrev pub first_of : Kind → Text
first_of Texts = []
first_of Elements = []
first_of (Sum style) = codes "0"
first_of (Number style by) = codes "0"
