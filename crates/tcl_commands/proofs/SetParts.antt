-- What setting a variable to what is derived from a value comes to.
use Rattle.std.proofs.Common.{◌≡◌, [], ◌∷◌, Some, sym, ap, subst, ◌∙◌}
use Rattle.std.specs.Prelude.{Result, Ok, Err, MatchResult}
use Rattle.tcl_core.specs.Endings.{Reply, ok}
use Rattle.tcl_core.specs.Endings.Reply.{Completed}
use Rattle.tcl_core.specs.Paths.{Path, Text}
use Rattle.tcl_core.specs.Programs.Prog.{done}
use Rattle.tcl_core.specs.Trees.{Node, effect}
use Rattle.tcl_core.specs.Trees.What.{Changed}
use Rattle.tcl_frames.specs.Chain.{Chain, after_set}
use Rattle.tcl_frames.specs.declared.fault.FrameFault.{FrameFault}
use Rattle.tcl_language.specs.Instructions.{with_chain}
use Rattle.tcl_language.specs.Variables as variables
use Rattle.tcl_run.specs.Ends.{Interrupts}
use Rattle.tcl_run.specs.Plain.{Does, Acts}
use Rattle.tcl_run.specs.declared.interruption.Interruption.{Interruption}
use Rattle.tcl_run.specs.declared.interruption.Interruption.TheVariants.{Memory}
use Rattle.tcl_run.proofs.Endings.{Interrupts-more}
use Rattle.tcl_run.proofs.Plain.{does_look}
use Rattle.tcl_run.proofs.Steady.{stands, changed_same}
use Rattle.tcl_tree.specs.LendingTree.{HasFrames}
use Rattle.tcl_tree.specs.Own.{Own}
use Rattle.tcl_tree.specs.TreeOf.{tree_of, Names}
use Rattle.tcl_tree.specs.declared.tree.Tree.{Tree as Table}
use Rattle.tcl_tree.specs.declared.tree.Place.{Place as TablePlace}
use Rattle.tcl_tree.proofs.CoreLemmas.{tree_there}
use Rattle.tcl_commands.specs.Setting.{SetsTo}

-- of want of memory nothing is said
says_nothing : (i : Interruption) (P : Reply → Type 0) → i ≡ Memory → Interrupts i P
says_nothing i P h = subst (λ (j : Interruption). Interrupts j P) (sym h) tt

-- a value that is lent, and becomes another
pub lent_sets : (chain next : Chain) (name value new : Text) (result : Result Text Interruption) → after_set chain name new ≡ Ok next → MatchResult result (λ text. (text ≡ value) × (new ≡ value)) (λ i. i ≡ Memory) → SetsTo chain name value next result
lent_sets chain next name value new (Ok text) set h = (h.0, ap (after_set chain name) (sym h.1) ∙ set)
lent_sets chain next name value new (Err i) set h = says_nothing i _ h

-- what was set in the chain was set in the interpreter
pub set_acts : (t u : Table) (place : TablePlace) (chain next : Chain) (name value : Text) (result : Result Text Interruption) → ((p : Path) → Names t place p → HasFrames t u p next) →
    ((p : Path) (n : Node Own) → Names t place p → tree_of t p ≡ Some n → chain ≡ n.own.chain) → SetsTo chain name value next result → Acts t place (λ style. variables.set (name ∷ value ∷ [])) u result
set_acts t u place chain next name value (Ok text) held same sets = λ p style at.
    let n = stands (tree_of t p) (tree_there t p _ at.names) in
    let is : after_set n.0.own.chain name value ≡ Ok next = ap (λ (c : Chain). after_set c name value) (sym (same p n.0 at.names n.1)) ∙ sets.1 in
    does_look (tree_of t) (tree_of u) p (Completed (ok text)) n.0 (λ m. variables.chain_becomes m.own (after_set m.own.chain name value) (done (ok value))) n.1
    (subst (λ (g : Result Chain FrameFault). Does (variables.chain_becomes n.0.own g (done (ok value))) (tree_of t) p (tree_of u) (Completed (ok text))) (sym is)
    (n.0, n.1, ((held p at.names).tree n.0 n.1, ap (λ (x : Text). Completed (ok x)) sets.0)))
set_acts t u place chain next name value (Err i) held same sets = Interrupts-more i _ _ (λ r g p style at.
    let n = stands (tree_of t p) (tree_there t p _ at.names) in
    let is : after_set n.0.own.chain name value ≡ Err g.0 = ap (λ (c : Chain). after_set c name value) (sym (same p n.0 at.names n.1)) ∙ g.2 in
    let kept : tree_of u ≡ tree_of t = (held p at.names).tree n.0 n.1 ∙ ap (λ (c : Chain). effect p (Changed (with_chain n.0.own c)) (tree_of t)) (g.1 ∙ same p n.0 at.names n.1) ∙ changed_same (tree_of t) p n.0 n.1 in
    does_look (tree_of t) (tree_of u) p r n.0 (λ m. variables.chain_becomes m.own (after_set m.own.chain name value) (done (ok value))) n.1
    (subst (λ (g : Result Chain FrameFault). Does (variables.chain_becomes n.0.own g (done (ok value))) (tree_of t) p (tree_of u) r) (sym is) (kept, g.3))) sets
