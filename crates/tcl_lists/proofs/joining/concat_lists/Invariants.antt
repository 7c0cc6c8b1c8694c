use Rattle.std.proofs.Common.{◌≡◌, drop}
use Rattle.std.specs.Prelude.{codes}
use Rattle.tcl_value.specs.Writing.{write}
use Rattle.tcl_value.specs.Plain.{ArePlain}
use Rattle.tcl_lists.specs.Joining.{joined, onto, filled}
use Rattle.tcl_lists.proofs.joining.concat_lists.Given as goal

abbrev pub invariant-rest : goal.invariant-rest
invariant-rest l =
    (onto (write l.made) (filled (drop l.word-index l.rest)) ≡ joined (codes " ") (filled l.words))
    × ArePlain l.made
