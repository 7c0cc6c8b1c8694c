-- What calls on a tree change, and when they are refused.
use Rattle.std.specs.Str.{bytes_eq}
use Rattle.std.specs.Option.{unwrap_or}
use Rattle.std.specs.Map.{lookup}
use Rattle.std.specs.Fmt.{decimal}
use Rattle.std.specs.Prelude.{◌≡◌, ◌≢◌, ◌⊎◌, ◌<◌, ◌≤◌, ℕ, Bool, true, false, [], ◌∷◌, ◌++◌, codes}
use Rattle.std.specs.Prelude.{length, Option, Some, None, IsSome}
use Rattle.tcl_core.specs.Trees.{effect}
use Rattle.tcl_core.specs.Trees.What.{Changed, Made, Dropped}
use Rattle.tcl_core.specs.Programs.{blocked, is_spent, is_deep, either, most_steps}
use Rattle.tcl_interpreter.specs.Paths.{Text, Path}
use Rattle.tcl_interpreter.specs.Own.{Own, CommandMap, new_own, with_new_child, without_old_child}
use Rattle.tcl_interpreter.specs.Own.{command_in}
pub use Rattle.tcl_interpreter.specs.Names.{is_colon, has_colons, is_name, with_command}
pub use Rattle.tcl_interpreter.specs.Names.{without_command, is_command_name, is_child, is_alias}
use Rattle.tcl_tree.specs.Nodes.{NodeView}
use Rattle.tcl_interpreter.specs.declared.refusal.TreeError.{TreeError}
use Rattle.tcl_interpreter.specs.declared.refusal.TreeError.TheVariants.{Memory, BadName}
use Rattle.tcl_interpreter.specs.declared.refusal.TreeError.TheVariants.{NoInterpreter, Exists}
use Rattle.tcl_interpreter.specs.declared.refusal.TreeError.TheVariants.{Denied, BadCount}
use Rattle.tcl_interpreter.specs.declared.refusal.TreeError.TheVariants.{BadDepthLimit, TooMany}
use Rattle.tcl_interpreter.specs.declared.refusal.TreeError.TheVariants.{CountLimit, DepthLimit}

-- the own part of the interpreter at p is changed so, and nothing else
abbrev pub Rewrites : (Path → Option NodeView) → (Path → Option NodeView) → Path → (Own → Own) →
    Type 0
Rewrites old new p change = (n : NodeView) → old p ≡ Some n →
    new ≡ effect p (Changed (change n.own)) old

-- a step is refused where there is no interpreter, or by the nearest limit that it would pass
abbrev pub RefusesStep : TreeError → (Path → Option NodeView) → Path → Type 0
RefusesStep NoInterpreter f p = f p ≡ None
RefusesStep (CountLimit n) f p = IsSome (f p) × (blocked is_spent f p ≡ Some n)
RefusesStep _ f p = Prim.⊥

-- and an evaluation likewise
abbrev pub RefusesLevel : TreeError → (Path → Option NodeView) → Path → Type 0
RefusesLevel NoInterpreter f p = f p ≡ None
RefusesLevel (DepthLimit n) f p = IsSome (f p) × (blocked is_deep f p ≡ Some n)
RefusesLevel _ f p = Prim.⊥

-- ## Children

-- the most children that an interpreter has
abbrev pub most_children : ℕ
most_children = 256

-- an interpreter of this name can be made as a child of that at p
pub record MayMake (f : Path → Option NodeView) (p : Path) (n : Text) : Type 0 where
  pub parent : NodeView
  pub here : f p ≡ Some parent
  pub named : is_name n ≡ true
  pub free : command_in parent.own n ≡ None
  pub absent : f (p ++ n ∷ []) ≡ None
  pub few : length parent.own.children < most_children

-- It is made, safe where that is asked for or its parent is safe, with the built-in commands and no
-- variables; and its name is a command of its parent. Nothing else changes.
abbrev pub Makes : (Path → Option NodeView) → (Path → Option NodeView) → Path → Text → Bool → Type 0
Makes old new p n safe = (v : NodeView) → old p ≡ Some v →
    new ≡ effect (p ++ n ∷ []) (Made (new_own (either safe v.safe)) (either safe v.safe))
    (effect p (Changed (with_new_child n v.own)) old)

-- the first of these that holds is why none is made
abbrev pub RefusesMake : TreeError → (Path → Option NodeView) → Path → Text → Type 0
RefusesMake NoInterpreter f p n = f p ≡ None
RefusesMake BadName f p n = IsSome (f p) × (is_name n ≡ false)
RefusesMake Exists f p n = (v : NodeView) × (f p ≡ Some v) × (is_name n ≡ true) ×
    (IsSome (command_in v.own n) ⊎ IsSome (f (p ++ n ∷ [])))
RefusesMake TooMany f p n = (v : NodeView) × (f p ≡ Some v) × (is_name n ≡ true) ×
    (command_in v.own n ≡ None) × (most_children ≤ length v.own.children)
RefusesMake Memory f p n = Unit {0}
RefusesMake _ f p n = Prim.⊥

-- the child is dropped with all below it, and its parent has it no more; nothing else changes
abbrev pub Drops : (Path → Option NodeView) → (Path → Option NodeView) → Path → Text → Type 0
Drops old new p n = (v : NodeView) → old p ≡ Some v →
    new ≡ effect (p ++ n ∷ []) Dropped (effect p (Changed (without_old_child n v.own)) old)

-- none is dropped that isn't there
abbrev pub RefusesDrop : TreeError → (Path → Option NodeView) → Path → Text → Type 0
RefusesDrop NoInterpreter f p n = f (p ++ n ∷ []) ≡ None
RefusesDrop _ f p n = Prim.⊥

-- ## Limits

-- A safe interpreter sets no limit, and none sets its own limit of steps.
pub record MayLimit (f : Path → Option NodeView) (p down : Path) (limit : Option ℕ) : Type 0 where
  pub asker : NodeView
  pub here : f p ≡ Some asker
  pub trusted : asker.safe ≡ false
  pub other : down ≢ []
  pub there : IsSome (f (p ++ down))
  pub fits : unwrap_or limit 0 ≤ most_steps

abbrev pub RefusesLimit : TreeError → (Path → Option NodeView) → Path → Path → Option ℕ → Type 0
RefusesLimit NoInterpreter f p down limit = (f p ≡ None) ⊎ (f (p ++ down) ≡ None)
RefusesLimit Denied f p down limit = (v : NodeView) × (f p ≡ Some v) ×
    ((v.safe ≡ true) ⊎ (down ≡ []))
RefusesLimit BadCount f p down limit = IsSome (f (p ++ down)) × (most_steps < unwrap_or limit 0)
RefusesLimit _ f p down limit = Prim.⊥

-- the greatest limit of depth
abbrev pub most_depth : ℕ
most_depth = 1000

-- The limit of depth of an interpreter that isn't the root can be this.
pub record MayDeepen (f : Path → Option NodeView) (p : Path) (limit : ℕ) : Type 0 where
  pub target : NodeView
  pub there : f p ≡ Some target
  pub below_root : target.root ≡ false
  pub least : 1 ≤ limit
  pub most : limit ≤ most_depth

-- the interpreter at p is the root of its tree
abbrev pub IsRoot : (Path → Option NodeView) → Path → Type 0
IsRoot f p = (v : NodeView) × (f p ≡ Some v) × (v.root ≡ true)

-- there is an interpreter at p, and no limit of depth may be this
abbrev pub NoDepth : (Path → Option NodeView) → Path → ℕ → Type 0
NoDepth f p limit = IsSome (f p) × ((limit ≡ 0) ⊎ (most_depth < limit))

abbrev pub RefusesToDeepen : TreeError → (Path → Option NodeView) → Path → ℕ → Type 0
RefusesToDeepen Denied f p limit = IsRoot f p
RefusesToDeepen BadDepthLimit f p limit = NoDepth f p limit
RefusesToDeepen _ f p limit = Prim.⊥

-- A safe interpreter sets no limit, and none sets the root's limit of depth.
pub record MayLimitDepth (f : Path → Option NodeView) (p down : Path) (limit : ℕ) : Type 0 where
  pub asker : NodeView
  pub here : f p ≡ Some asker
  pub trusted : asker.safe ≡ false
  pub target : MayDeepen f (p ++ down) limit

abbrev pub RefusesDepthLimit : TreeError → (Path → Option NodeView) → Path → Path → ℕ → Type 0
RefusesDepthLimit NoInterpreter f p down limit = (f p ≡ None) ⊎ (f (p ++ down) ≡ None)
RefusesDepthLimit Denied f p down limit = ((v : NodeView) × (f p ≡ Some v) × (v.safe ≡ true)) ⊎
    IsRoot f (p ++ down)
RefusesDepthLimit BadDepthLimit f p down limit = NoDepth f (p ++ down) limit
RefusesDepthLimit _ f p down limit = Prim.⊥

-- nothing is copied where there is no interpreter
abbrev pub RefusesCopy : TreeError → (Path → Option NodeView) → Path → Type 0
RefusesCopy NoInterpreter f p = f p ≡ None
RefusesCopy Memory f p = Unit {0}
RefusesCopy _ f p = Prim.⊥

-- ## Names of new children

-- the name that a child without one gets, by its number
abbrev pub interp_name : ℕ → Text
interp_name n = codes "interp" ++ decimal n

-- the one of the least number that is no command yet
pub record IsFirstFree (commands : CommandMap) (t : Text) : Type 0 where
  pub number : ℕ
  pub is : t ≡ interp_name number
  pub free : lookup (bytes_eq t) commands ≡ None
  pub taken : (m : ℕ) → m < number → IsSome (lookup (bytes_eq (interp_name m)) commands)

abbrev pub RefusesName : TreeError → (Path → Option NodeView) → Path → Type 0
RefusesName NoInterpreter f p = f p ≡ None
RefusesName Memory f p = Unit {0}
RefusesName _ f p = Prim.⊥
