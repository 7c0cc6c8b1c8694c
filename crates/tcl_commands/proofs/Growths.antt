-- What the commands come to that add to variables.
use Rattle.std.proofs.Common.{◌≡◌, ℕ, Bool, true, false, List, [], ◌∷◌, ◌++◌, Option, Some, ◌≤◌, length, refl, sym, ap, subst, ◌∙◌, arith}
use Rattle.std.specs.Prelude.{Result, Ok, Err}
use Rattle.tcl_core.specs.Endings.{Completion, Reply, ok}
use Rattle.tcl_core.specs.Endings.Reply.{Completed}
use Rattle.tcl_core.specs.Paths.{Path, Text}
use Rattle.tcl_core.specs.Programs.Prog.{done}
use Rattle.tcl_core.specs.Trees.{Tree, Node, effect}
use Rattle.tcl_core.specs.Trees.What.{Changed}
use Rattle.tcl_frames.specs.Chain.{Chain, read, after_set}
use Rattle.tcl_language.specs.Data as collections
use Rattle.tcl_language.specs.Faults.{frame_message}
use Rattle.tcl_language.specs.Instructions as long
use Rattle.tcl_language.specs.Instructions.{Program, either, fits, look, or_fails, too_long, with_chain}
use Rattle.tcl_language.specs.Variables as variables
use Rattle.tcl_lists.specs.Lists.{lappend_of}
use Rattle.tcl_text.specs.declared.integer.Integers.{Integers}
use Rattle.tcl_words.specs.Outcomes.{next}
use Rattle.tcl_run.specs.Plain.{Does, Acts}
use Rattle.tcl_run.specs.declared.interruption.Interruption.{Interruption}
use Rattle.tcl_run.proofs.Endings.{Interrupts-more}
use Rattle.tcl_run.proofs.Plain.{does_look}
use Rattle.tcl_run.proofs.Steady.{stands, changed_same}
use Rattle.tcl_tree.specs.LendingTree.{HasFrames}
use Rattle.tcl_tree.specs.Own.{Own}
use Rattle.tcl_tree.specs.TreeOf.{tree_of, marks_of, Names}
use Rattle.tcl_tree.specs.declared.tree.Tree.{Tree as Table}
use Rattle.tcl_tree.specs.declared.tree.Place.{Place as TablePlace}
use Rattle.tcl_tree.proofs.CoreLemmas.{tree_there}
use Rattle.tcl_frames.specs.declared.fault.FrameFault.{FrameFault}
use Rattle.tcl_words.specs.Outcomes.{Outcome}
use Rattle.tcl_commands.specs.Steps.{EndsAt}
use Rattle.tcl_commands.proofs.Going.{acts_more}
use Rattle.tcl_commands.proofs.Same.{set_same}
use Rattle.tcl_commands.specs.Growing.{Growth, Grown, Grows, GrowsTo, appended, lengthened, growth_of, finishes, grown, grown_from, set_grown, set_to}

-- on with what a text grows to
abbrev pub on_growth : Growth → (Text → Program) → Program
on_growth (Ok text) k = k text
on_growth (Err c) k = done c

module _ (T V : Tree Own) (p : Path) (n : Node Own) (r : Reply) (name : Text) (there : T p ≡ Some n) where
  does_set : (new : Text) (given : Result Chain FrameFault) → Does (finishes n.own (set_to new given)) T p V r → Does (variables.chain_becomes n.own given (done (ok new))) T p V r
  does_set new (Ok chain) d = d
  does_set new (Err f) d = d

  does_growth : (g : Growth) → Does (finishes n.own (set_grown n.own.chain name g)) T p V r → Does (on_growth g (λ new. variables.sets name new (done (ok new)))) T p V r
  does_growth (Ok new) d = does_look T V p r n (λ m. variables.chain_becomes m.own (after_set m.own.chain name new) (done (ok new))) there (does_set new (after_set n.own.chain name new) d)
  does_growth (Err c) d = d

  pub does_from : (grow : Text → Growth) (step : Text → (Text → Program) → Program) → ((old : Text) (k : Text → Program) → step old k ≡ on_growth (grow old) k) → (found : Result Text FrameFault) →
      Does (finishes n.own (grown_from n.own.chain name grow found)) T p V r → Does (or_fails frame_message found (λ old. step old (λ new. variables.sets name new (done (ok new))))) T p V r
  does_from grow step same (Ok old) d = subst (λ (x : Program). Does x T p V r) (sym (same old (λ new. variables.sets name new (done (ok new))))) (does_growth (grow old) d)
  does_from grow step same (Err f) d = d

  does_grown : (first : Text) (grow : Text → Growth) (step : Text → (Text → Program) → Program) → ((old : Text) (k : Text → Program) → step old k ≡ on_growth (grow old) k) →
      Does (finishes n.own (grown first n.own.chain name grow)) T p V r → Does (variables.reads_or name first (λ old. step old (λ new. variables.sets name new (done (ok new))))) T p V r
  does_grown first grow step same d =
      does_look T V p r n (λ m. or_fails frame_message (variables.or_missing first (read m.own.chain.frames name)) (λ old. step old (λ new. variables.sets name new (done (ok new))))) there
      (does_from grow step same (variables.or_missing first (read n.own.chain.frames name)) d)

-- the steps of the two commands
append_step : (b : Bool) (text : Text) (k : Text → Program) → either b (k text) (done too_long) ≡ on_growth (either b (Ok text) (Err too_long)) k
append_step true text k = refl
append_step false text k = refl

pub lappend_step : (outcome : Outcome) (k : Text → Program) → collections.given outcome k ≡ on_growth (growth_of outcome) k
lappend_step (Ok text) k = refl
lappend_step (Err message) k = refl

-- from the interpreter as it stands
looked : (T V : Tree Own) (p : Path) (n : Node Own) (r : Reply) (first name : Text) (grow : Text → Growth) → T p ≡ Some n →
    Does (look (λ m. finishes m.own (grown first m.own.chain name grow))) T p V r → Does (finishes n.own (grown first n.own.chain name grow)) T p V r
looked T V p n r first name grow there d = subst (λ (o : Option (Node Own)). Does (Rattle.tcl_language.specs.Instructions.at_node (λ m. finishes m.own (grown first m.own.chain name grow)) o) T p V r) (ap T (Rattle.std.proofs.Common.append-nil p) ∙ there) d

-- what a variable grows to in the style of the interpreter
pub grown_acts : (t u : Table) (place : TablePlace) (first name : Text) (grow : Integers → Text → Growth) (step : Integers → Text → (Text → Program) → Program) →
    ((style : Integers) (old : Text) (k : Text → Program) → step style old k ≡ on_growth (grow style old) k) → (result : Result Text Interruption) →
    Acts t place (λ style. look (λ n. finishes n.own (grown first n.own.chain name (grow (marks_of t).integers)))) u result →
    Acts t place (λ style. variables.reads_or name first (λ old. step style old (λ new. variables.sets name new (done (ok new))))) u result
grown_acts t u place first name grow step same result acts =
    acts_more t u place (λ style. variables.reads_or name first (λ old. step style old (λ new. variables.sets name new (done (ok new)))))
    (λ r. EndsAt t place (λ style. look (λ n. finishes n.own (grown first n.own.chain name (grow (marks_of t).integers)))) (tree_of u) r) result (λ r d q style at.
    let n = stands (tree_of t q) (tree_there t q _ at.names) in
    let here = subst (λ (s : Integers). Does (finishes n.0.own (grown first n.0.own.chain name (grow s))) (tree_of t) q (tree_of u) r) at.style_is (looked (tree_of t) (tree_of u) q n.0 r first name (grow (marks_of t).integers) n.1 (d q style at)) in
    does_grown (tree_of t) (tree_of u) q n.0 r name n.1 first (grow style) (step style) (same style) here) acts

pub append_acts : (t u : Table) (place : TablePlace) (args : List Text) (name : Text) (more : List Text) (result : Result Text Interruption) → args ≡ name ∷ more → 1 ≤ length more →
    Acts t place (λ style. look (λ n. finishes n.own (grown [] n.own.chain name (appended more)))) u result → Acts t place (λ style. variables.append args) u result
append_acts t u place args name [] result e h acts = absurd (omega arith)
append_acts t u place args name (value ∷ values) result e h acts =
    subst (λ (xs : List Text). Acts t place (λ style. variables.append xs) u result) (sym e)
    (grown_acts t u place [] name (λ style. appended (value ∷ values)) (λ style old k. long.grown (old ++ variables.joined (value ∷ values)) k)
    (λ style old k. append_step (fits (old ++ variables.joined (value ∷ values))) (old ++ variables.joined (value ∷ values)) k) result acts)

pub lappend_acts : (t u : Table) (place : TablePlace) (args : List Text) (name : Text) (values : List Text) (result : Result Text Interruption) → args ≡ name ∷ values →
    Acts t place (λ style. look (λ n. finishes n.own (grown [] n.own.chain name (lengthened values)))) u result → Acts t place (λ style. collections.lappend args) u result
lappend_acts t u place args name values result e acts =
    subst (λ (xs : List Text). Acts t place (λ style. collections.lappend xs) u result) (sym e)
    (grown_acts t u place [] name (λ style. lengthened values) (λ style old k. collections.given (lappend_of old values) k) (λ style old k. lappend_step (lappend_of old values) k) result acts)

-- what grew in the chain grew in the interpreter
pub grow_acts : (t u : Table) (place : TablePlace) (chain next : Chain) (first name : Text) (grow : Text → Growth) (result : Result Text Interruption) →
    ((p : Path) → Names t place p → HasFrames t u p next) → ((p : Path) (n : Node Own) → Names t place p → tree_of t p ≡ Some n → chain ≡ n.own.chain) → Grows first chain name grow next result →
    Acts t place (λ style. look (λ n. finishes n.own (grown first n.own.chain name grow))) u result
grow_acts t u place chain next first name grow (Ok text) held same grows = λ p style at.
    let n = stands (tree_of t p) (tree_there t p _ at.names) in
    let is : grown first n.0.own.chain name grow ≡ Ok (text, next) = ap (λ (c : Chain). grown first c name grow) (sym (same p n.0 at.names n.1)) ∙ grows in
    does_look (tree_of t) (tree_of u) p (Completed (ok text)) n.0 (λ m. finishes m.own (grown first m.own.chain name grow)) n.1
    (subst (λ (g : Grown). Does (finishes n.0.own g) (tree_of t) p (tree_of u) (Completed (ok text))) (sym is) (n.0, n.1, ((held p at.names).tree n.0 n.1, refl)))
grow_acts t u place chain next first name grow (Err i) held same grows = Interrupts-more i _ _ (λ r g p style at.
    let n = stands (tree_of t p) (tree_there t p _ at.names) in
    let is : grown first n.0.own.chain name grow ≡ Err g.0 = ap (λ (c : Chain). grown first c name grow) (sym (same p n.0 at.names n.1)) ∙ g.2 in
    let kept : tree_of u ≡ tree_of t = (held p at.names).tree n.0 n.1 ∙ ap (λ (c : Chain). effect p (Changed (with_chain n.0.own c)) (tree_of t)) (g.1 ∙ same p n.0 at.names n.1) ∙ changed_same (tree_of t) p n.0 n.1 in
    does_look (tree_of t) (tree_of u) p r n.0 (λ m. finishes m.own (grown first m.own.chain name grow)) n.1
    (subst (λ (x : Grown). Does (finishes n.0.own x) (tree_of t) p (tree_of u) r) (sym is) (kept, g.3))) grows

-- ## A value that is lent

grown_lent : (chain next : Chain) (first name old text : Text) (grow : Text → Growth) → read chain.frames name ≡ Ok old → grow old ≡ Ok text → after_set chain name text ≡ Ok next → grown first chain name grow ≡ Ok (text, next)
grown_lent chain next first name old text grow there grew set =
    ap (λ (r : Result Text FrameFault). grown_from chain name grow (variables.or_missing first r)) there ∙ ap (set_grown chain name) grew ∙ ap (set_to text) set

grown_not : (chain : Chain) (first name old : Text) (c : Completion) (grow : Text → Growth) → read chain.frames name ≡ Ok old → grow old ≡ Err c → grown first chain name grow ≡ Err c
grown_not chain first name old c grow there grew =
    ap (λ (r : Result Text FrameFault). grown_from chain name grow (variables.or_missing first r)) there ∙ ap (set_grown chain name) grew

-- what grew in its place grew in the chain
pub grows_lent : (chain next : Chain) (first name old new : Text) (grow : Text → Growth) (result : Result Text Interruption) → read chain.frames name ≡ Ok old → after_set chain name new ≡ Ok next → GrowsTo old grow new result →
    Grows first chain name grow next result
grows_lent chain next first name old new grow (Ok text) there set grows = grown_lent chain next first name old text grow there grows.0 (ap (after_set chain name) (sym grows.1) ∙ set)
grows_lent chain next first name old new grow (Err i) there set grows = Interrupts-more i _ _ (λ r g.
    (g.0, set_same chain next name old there (ap (after_set chain name) (sym g.1) ∙ set), grown_not chain first name old g.0 grow there g.2, g.3)) grows

-- ## A list that is made longer
