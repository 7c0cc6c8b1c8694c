-- Who stands in a tree has the same own part when counts have changed.
use Rattle.std.proofs.Common.{◌≡◌, ℕ, suc, pred, List, Option, Some, None, refl, ◌∙◌, ap, subst, sym}
use Rattle.std.proofs.lemmas.Option.{same_Some}
use Rattle.std.specs.Prelude.{Ok}
use Rattle.tcl_core.specs.Paths.{Path, strip}
use Rattle.tcl_core.specs.Trees.{Tree, Node, effect, on_some, where_some}
use Rattle.tcl_core.specs.Trees.What.{Charged, Nested, Unnested}
use Rattle.tcl_interpreter.specs.declared.command.Command.{Command}
use Rattle.tcl_language.specs.Naming.{command_name}
use Rattle.tcl_tree.specs.Own.{Own}
use Rattle.tcl_calls.specs.Found.{kept_as}
use Rattle.tcl_evaluation.specs.Hands.{IsNamed}

-- somebody stands there, with the own part that another has
abbrev pub HasOwn : Node Own → Option (Node Own) → Type 0
HasOwn n o = (m : Node Own) × (o ≡ Some m) × (m.own ≡ n.own)

on_line_own : (f : Node Own → Node Own) → ((n : Node Own) → (f n).own ≡ n.own) → (s : Option Path) (o : Option (Node Own)) (n : Node Own) → o ≡ Some n → HasOwn n (where_some s (on_some f) o)
on_line_own f same None o n h = (n, h, refl)
on_line_own f same (Some a) None n h = let clash : None ≡ Some n = h in cc
on_line_own f same (Some a) (Some k) n h = (f k, refl, same k ∙ ap (λ (x : Node Own). x.own) (same_Some k n h))

pub charged_own : (T U : Tree Own) (p q : Path) (n : Node Own) → U ≡ effect p Charged T → T q ≡ Some n → HasOwn n (U q)
charged_own T U p q n e h = subst (λ (X : Tree Own). HasOwn n (X q)) (sym e) (on_line_own (λ m. record m { count = suc m.count }) (λ m. refl) (strip q p) (T q) n h)

pub nested_own : (T U : Tree Own) (p q : Path) (n : Node Own) → U ≡ effect p Nested T → T q ≡ Some n → HasOwn n (U q)
nested_own T U p q n e h = subst (λ (X : Tree Own). HasOwn n (X q)) (sym e) (on_line_own (λ m. record m { depth = suc m.depth }) (λ m. refl) (strip q p) (T q) n h)

pub unnested_own : (T U : Tree Own) (p q : Path) (n : Node Own) → U ≡ effect p Unnested T → T q ≡ Some n → HasOwn n (U q)
unnested_own T U p q n e h = subst (λ (X : Tree Own). HasOwn n (X q)) (sym e) (on_line_own (λ m. record m { depth = pred m.depth }) (λ m. refl) (strip q p) (T q) n h)

-- one after another
pub then_own : (n : Node Own) (o x : Option (Node Own)) (h : HasOwn n o) → HasOwn h.0 x → HasOwn n x
then_own n o x h g = (g.0, g.1, g.2 ∙ h.2)

-- a word names the same
pub named_own : (n m : Node Own) (word : List ℕ) (named : Command) → m.own ≡ n.own → IsNamed n word named → IsNamed m word named
named_own n m word named e h = subst (λ (x : Own). kept_as (command_name word) word x.commands ≡ Ok named) (sym e) h
