-- Which refusal comes where there is reason for more than one. Each reason counts only where none
-- that comes before it holds, so no two of one call hold at once, and one of them holds wherever
-- the call may not be made.
use Rattle.std.specs.Option.{unwrap_or}
use Rattle.std.specs.Prelude.{◌≡◌, ◌≢◌, ◌⊎◌, ◌<◌, ℕ, true, false, [], ◌++◌, Option, Some, None}
use Rattle.std.specs.Prelude.{IsSome}
use Rattle.tcl_core.specs.Programs.{most_steps}
use Rattle.tcl_interpreter.specs.Paths.{Path}
use Rattle.tcl_interpreter.specs.Own.{Own}
use Rattle.tcl_tree.specs.Nodes.{NodeView}
use Rattle.tcl_tree.specs.Changes.{IsRoot, most_depth}
use Rattle.tcl_tree.specs.Naming.{Named, IsTrusted, RefusesAt, Untrusted}
use Rattle.tcl_interpreter.specs.declared.refusal.TreeError.{TreeError}
use Rattle.tcl_interpreter.specs.declared.refusal.TreeError.TheVariants.{NoInterpreter, Denied}
use Rattle.tcl_interpreter.specs.declared.refusal.TreeError.TheVariants.{BadCount, BadDepthLimit}

-- the interpreter that asks is there, and safe
abbrev pub IsSafe : (Path → Option NodeView) → Path → Type 0
IsSafe f p = (v : NodeView) × (f p ≡ Some v) × (v.safe ≡ true)

-- A limit of steps: nobody asks; a safe one asks, or one for itself; nobody is where the names
-- lead; the limit is too great.
abbrev pub FirstOfLimit : TreeError → (Path → Option NodeView) → Path → Path → Option ℕ → Type 0
FirstOfLimit NoInterpreter f p down limit = (f p ≡ None) ⊎
    (IsTrusted f p × (down ≢ []) × (f (p ++ down) ≡ None))
FirstOfLimit Denied f p down limit = IsSafe f p ⊎ (IsTrusted f p × (down ≡ []))
FirstOfLimit BadCount f p down limit = IsTrusted f p × (down ≢ []) × IsSome (f (p ++ down)) ×
    (most_steps < unwrap_or limit 0)
FirstOfLimit _ f p down limit = Prim.⊥

-- there is an interpreter, which isn't the root of its tree, and no limit of depth may be this
abbrev pub IsNoDepth : (Path → Option NodeView) → Path → ℕ → Type 0
IsNoDepth f p limit = (v : NodeView) × (f p ≡ Some v) × (v.root ≡ false) ×
    ((limit ≡ 0) ⊎ (most_depth < limit))

-- A limit of depth, whoever asks: it would be the root's; no limit may be this.
abbrev pub FirstOfDepth : TreeError → (Path → Option NodeView) → Path → ℕ → Type 0
FirstOfDepth Denied f p limit = IsRoot f p
FirstOfDepth BadDepthLimit f p limit = IsNoDepth f p limit
FirstOfDepth _ f p limit = Prim.⊥

-- A limit of depth: nobody asks; a safe one asks; nobody is where the names lead, or that is the
-- root; no limit may be this.
abbrev pub FirstOfDepthLimit : TreeError → (Path → Option NodeView) → Path → Path → ℕ → Type 0
FirstOfDepthLimit NoInterpreter f p down limit = (f p ≡ None) ⊎
    (IsTrusted f p × (f (p ++ down) ≡ None))
FirstOfDepthLimit Denied f p down limit = IsSafe f p ⊎ (IsTrusted f p × IsRoot f (p ++ down))
FirstOfDepthLimit BadDepthLimit f p down limit = IsTrusted f p × IsNoDepth f (p ++ down) limit
FirstOfDepthLimit _ f p down limit = Prim.⊥

-- What only a trusted interpreter has done: nobody asks, or a safe one; then what refuses it there,
-- whoever asks.
abbrev pub FirstOfAsked : TreeError → (Path → Option NodeView) → Path → Path → (Own → Named) →
    Type 0
FirstOfAsked e f p down change = Untrusted e f p ⊎
    (IsTrusted f p × RefusesAt e f (p ++ down) change)
