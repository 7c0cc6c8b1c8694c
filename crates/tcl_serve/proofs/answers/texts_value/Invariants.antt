use Rattle.std.proofs.Common.{◌≡◌, map, take}
use Rattle.serde_json.specs.View.{view}
use Rattle.serde_json.specs.Data.{string}
use Rattle.tcl_serve.proofs.answers.texts_value.Given as goal

abbrev pub invariant-texts : goal.invariant-texts
invariant-texts l = map view l.items.items ≡ map string (take l.text-index l.texts)
