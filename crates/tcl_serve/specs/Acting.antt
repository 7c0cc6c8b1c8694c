-- What is done to a tree while nothing is evaluated in it.
use Rattle.std.specs.Prelude.{◌≡◌, Option, Some, None}
use Rattle.tcl_interpreter.specs.Nodes.{NodeView}
use Rattle.tcl_interpreter.specs.declared.refusal.TreeError.{TreeError}
use Rattle.tcl_interpreter.specs.declared.refusal.TreeError.TheVariants.{NoInterpreter}
use Rattle.tcl_serve.specs.declared.answers.Answer.{Answer}
use Rattle.tcl_serve.specs.declared.answers.Answer.TheVariants as answer
use Rattle.tcl_serve.specs.declared.refusals.Refusal.{Refusal}
use Rattle.tcl_serve.specs.declared.refusals.Refusal.TheVariants as refusal

-- A message isn't done since a call on the tree is refused so; or memory was wanted, or a text is
-- too long, or the root is meant.
abbrev pub IsRefused : (TreeError → Type 0) → Refusal → Type 0
IsRefused P (refusal.Tree e word) = P e
IsRefused P refusal.Memory = Unit {0}
IsRefused P refusal.TooLong = Unit {0}
IsRefused P refusal.Root = Unit {0}
IsRefused P r = Prim.⊥

-- how an interpreter stands
abbrev pub IsStanding : Option NodeView → Answer → Type 0
IsStanding (Some n) (answer.Standing s) = (s.safe ≡ n.safe) × (s.count ≡ n.count) ×
    (s.count_limit ≡ n.limit) × (s.depth ≡ n.depth) × (s.depth_limit ≡ n.depth_limit) ×
    (s.children.items ≡ n.own.children)
IsStanding n a = Prim.⊥

-- nobody is there
abbrev pub nobody : TreeError → Option NodeView → Type 0
nobody e n = (e ≡ NoInterpreter) × (n ≡ None)
