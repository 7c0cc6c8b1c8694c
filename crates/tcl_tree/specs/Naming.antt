-- How the commands of the interpreters of a tree are named.
use Rattle.std.specs.Prelude.{◌≡◌, ◌⊎◌, Bool, true, false, [], ◌∷◌, ◌++◌, Option, Some, None}
use Rattle.std.specs.Prelude.{Ok, Err}
use Rattle.tcl_core.specs.Trees.{effect}
use Rattle.tcl_core.specs.Trees.What.{Changed}
use Rattle.tcl_tree.specs.Changes.{is_child, Drops, RefusesDrop}
use Rattle.tcl_interpreter.specs.Paths.{Text, Path}
use Rattle.tcl_interpreter.specs.Own.{Own, command_in}
use Rattle.tcl_interpreter.specs.Nodes.{NodeView}
pub use Rattle.tcl_interpreter.specs.Naming.{Named, by_name, keeps_child, free, named, cleared}
pub use Rattle.tcl_interpreter.specs.Naming.{with_other_name, renamed, without, removed, hidden_so}
pub use Rattle.tcl_interpreter.specs.Naming.{hidden_under, exposed_so, exposed_under, named_so}
pub use Rattle.tcl_interpreter.specs.Naming.{Follows, Stays, StaysRefused, Grows, StaysSo}
use Rattle.tcl_interpreter.specs.declared.naming.Naming.{Naming}
use Rattle.tcl_interpreter.specs.declared.refusal.TreeError.{TreeError}
use Rattle.tcl_interpreter.specs.declared.refusal.TreeError.TheVariants.{Memory, NoInterpreter}
use Rattle.tcl_interpreter.specs.declared.refusal.TreeError.TheVariants.{Denied}

-- the own part of the interpreter at p becomes what is made of it, and nothing else changes
abbrev pub Becomes : (Path → Option NodeView) → (Path → Option NodeView) → Path → (Own → Named) →
    Type 0
Becomes old new p f = (v : NodeView) → old p ≡ Some v → (own : Own) × (f v.own ≡ Ok own) ×
    (new ≡ effect p (Changed own) old)

-- nothing is made of it, since that is refused
abbrev pub Refuses : TreeError → (Path → Option NodeView) → Path → (Own → Named) → Type 0
Refuses e old p f = (v : NodeView) → old p ≡ Some v → f v.own ≡ Err e

-- or for want of memory
abbrev pub RefusesNaming : TreeError → (Path → Option NodeView) → Path → (Own → Named) → Type 0
RefusesNaming e old p f = (v : NodeView) → old p ≡ Some v → (e ≡ Memory) ⊎ (f v.own ≡ Err e)

abbrev pub RefusesSo : Naming → TreeError → (Path → Option NodeView) → Path → Type 0
RefusesSo naming e old p = (v : NodeView) → old p ≡ Some v →
    Grows naming e ⊎ (named_so naming v.own ≡ Err e)

-- ## By path

abbrev pub Nowhere : TreeError → (Path → Option NodeView) → Path → Type 0
Nowhere e old p = (e ≡ NoInterpreter) × (old p ≡ None)

-- there is no interpreter at p, or nothing is made of its own part
abbrev pub RefusesThere : TreeError → (Path → Option NodeView) → Path → (Own → Named) → Type 0
RefusesThere e old p f = Nowhere e old p ⊎ ((v : NodeView) × (old p ≡ Some v) × (f v.own ≡ Err e))

-- or for want of memory
abbrev pub RefusesAt : TreeError → (Path → Option NodeView) → Path → (Own → Named) → Type 0
RefusesAt e old p f = Nowhere e old p ⊎
    ((v : NodeView) × (old p ≡ Some v) × ((e ≡ Memory) ⊎ (f v.own ≡ Err e)))

-- the interpreter at p may hide, expose and invoke hidden commands
pub record IsTrusted (old : Path → Option NodeView) (p : Path) : Type 0 where
  pub asker : NodeView
  pub here : old p ≡ Some asker
  pub trusted : asker.safe ≡ false

abbrev pub Untrusted : TreeError → (Path → Option NodeView) → Path → Type 0
Untrusted e old p = Nowhere e old p ⊎
    ((e ≡ Denied) × (v : NodeView) × (old p ≡ Some v) × (v.safe ≡ true))

-- names lead from an interpreter that isn't trusted, or nowhere
abbrev pub RefusesToAsk : TreeError → (Path → Option NodeView) → Path → Path → Type 0
RefusesToAsk e old p down = Untrusted e old p ⊎ Nowhere e old (p ++ down)

-- what only a trusted interpreter has done in itself, or in one below
abbrev pub RefusesAsked : TreeError → (Path → Option NodeView) → Path → Path → (Own → Named) →
    Type 0
RefusesAsked e old p down f = Untrusted e old p ⊎ RefusesAt e old (p ++ down) f

-- ## Renaming by path

-- a command is taken away; of a child's the child, with all below it
abbrev pub TakesAway : Bool → (Path → Option NodeView) → (Path → Option NodeView) → Path → Text →
    Type 0
TakesAway true old new p n = Drops old new p n
TakesAway false old new p n = Becomes old new p (λ own. removed own n)

-- a command gets another name; or it is taken away, where that is empty
abbrev pub Renames : (Path → Option NodeView) → (Path → Option NodeView) → Path → Text → Text →
    Type 0
Renames old new p n [] = (v : NodeView) → old p ≡ Some v →
    TakesAway (is_child (command_in v.own n)) old new p n
Renames old new p n (x ∷ m) = Becomes old new p (λ own. renamed own n (x ∷ m))

abbrev pub RefusesTaking : Bool → TreeError → (Path → Option NodeView) → Path → Text → Type 0
RefusesTaking true e old p n = RefusesDrop e old p n
RefusesTaking false e old p n = Refuses e old p (λ own. removed own n)

abbrev pub RefusesRename : TreeError → (Path → Option NodeView) → Path → Text → Text → Type 0
RefusesRename e old p n [] = Nowhere e old p ⊎
    ((v : NodeView) × (old p ≡ Some v) × RefusesTaking (is_child (command_in v.own n)) e old p n)
RefusesRename e old p n (x ∷ m) = RefusesAt e old p (λ own. renamed own n (x ∷ m))
