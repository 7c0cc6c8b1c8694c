use Rattle.std.proofs.Common.{◌≡◌, ◌++◌, drop}
use Rattle.serde_json.specs.View.{items_view}
use Rattle.tcl_serve.specs.Fields.{items_of, mapped}
use Rattle.tcl_serve.proofs.fields.texts_of.Given as goal

abbrev pub invariant-items : goal.invariant-items
invariant-items l = items_of l.field (items_view l.items) ≡ mapped (λ rest. l.texts.items ++ rest) (items_of l.field (items_view (drop l.item-index l.items)))
