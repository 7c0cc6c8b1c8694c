-- What the commands come to that change what a variable holds.
use Rattle.std.proofs.Common.{◌≡◌, Bool, true, false, Option, Some, refl, sym, ap, subst, ◌∙◌, append-nil}
use Rattle.std.specs.Prelude.{Result, Ok, Err}
use Rattle.tcl_core.specs.Endings.{Completion, Reply, ok}
use Rattle.tcl_core.specs.Endings.Reply.{Completed}
use Rattle.tcl_core.specs.Paths.{Path, Text}
use Rattle.tcl_core.specs.Programs.Prog.{done}
use Rattle.tcl_core.specs.Trees.{Tree, Node, effect}
use Rattle.tcl_core.specs.Trees.What.{Changed}
use Rattle.tcl_frames.specs.Chain.{Chain, read, after_set}
use Rattle.tcl_language.specs.Changes.{changes, or_empty, with_words}
use Rattle.tcl_language.specs.Data.{given}
use Rattle.tcl_language.specs.Faults.{frame_message}
use Rattle.tcl_language.specs.Instructions.{Program, at_node, look, or_fails, with_chain}
use Rattle.tcl_language.specs.Variables.{sets}
use Rattle.tcl_run.specs.Ends.{WordsTell, itself}
use Rattle.tcl_run.specs.Plain.{Does, Acts}
use Rattle.tcl_run.specs.declared.interruption.Interruption.{Interruption}
use Rattle.tcl_run.proofs.Endings.{Interrupts-more, words_tell}
use Rattle.tcl_run.proofs.Plain.{does_look}
use Rattle.tcl_run.proofs.Steady.{stands, changed_same}
use Rattle.tcl_text.specs.declared.integer.Integers.{Integers}
use Rattle.tcl_tree.specs.LendingTree.{HasFrames}
use Rattle.tcl_tree.specs.Own.{Own}
use Rattle.tcl_tree.specs.TreeOf.{tree_of, marks_of, Names}
use Rattle.tcl_tree.specs.declared.tree.Tree.{Tree as Table}
use Rattle.tcl_tree.specs.declared.tree.Place.{Place as TablePlace}
use Rattle.tcl_tree.proofs.CoreLemmas.{tree_there}
use Rattle.tcl_frames.specs.declared.fault.FrameFault.{FrameFault}
use Rattle.tcl_words.specs.Outcomes.{Outcome, Refuses}
use Rattle.tcl_words.specs.declared.refusal.Refusal.{Refusal}
use Rattle.tcl_commands.specs.Changed.{Alters, changed}
use Rattle.tcl_commands.specs.Growing.{Growth, Grown, GrowsTo, finishes, grown_from, growth_of, set_grown, set_to}
use Rattle.tcl_commands.specs.Steps.{EndsAt, Styled}
use Rattle.tcl_commands.proofs.Going.{acts_as, acts_more, found_by_reading}
use Rattle.tcl_commands.proofs.Growths.{does_from, lappend_step}
use Rattle.tcl_commands.proofs.Same.{set_same}

-- ## What was changed in the chain was changed in the interpreter

pub alter_acts : (t u : Table) (place : TablePlace) (chain next : Chain) (makes : Bool) (name : Text) (change : Text → Growth) (result : Result Text Interruption) →
    ((p : Path) → Names t place p → HasFrames t u p next) → ((p : Path) (n : Node Own) → Names t place p → tree_of t p ≡ Some n → chain ≡ n.own.chain) → Alters makes chain name change next result →
    Acts t place (λ style. look (λ n. finishes n.own (changed makes n.own.chain name change))) u result
alter_acts t u place chain next makes name change (Ok text) held same alters = λ p style at.
    let n = stands (tree_of t p) (tree_there t p _ at.names) in
    let is : changed makes n.0.own.chain name change ≡ Ok (text, next) = ap (λ (c : Chain). changed makes c name change) (sym (same p n.0 at.names n.1)) ∙ alters in
    does_look (tree_of t) (tree_of u) p (Completed (ok text)) n.0 (λ m. finishes m.own (changed makes m.own.chain name change)) n.1
    (subst (λ (g : Grown). Does (finishes n.0.own g) (tree_of t) p (tree_of u) (Completed (ok text))) (sym is) (n.0, n.1, ((held p at.names).tree n.0 n.1, refl)))
alter_acts t u place chain next makes name change (Err i) held same alters = Interrupts-more i _ _ (λ r g p style at.
    let n = stands (tree_of t p) (tree_there t p _ at.names) in
    let is : changed makes n.0.own.chain name change ≡ Err g.0 = ap (λ (c : Chain). changed makes c name change) (sym (same p n.0 at.names n.1)) ∙ g.2 in
    let kept : tree_of u ≡ tree_of t = (held p at.names).tree n.0 n.1 ∙ ap (λ (c : Chain). effect p (Changed (with_chain n.0.own c)) (tree_of t)) (g.1 ∙ same p n.0 at.names n.1) ∙ changed_same (tree_of t) p n.0 n.1 in
    does_look (tree_of t) (tree_of u) p r n.0 (λ m. finishes m.own (changed makes m.own.chain name change)) n.1
    (subst (λ (x : Grown). Does (finishes n.0.own x) (tree_of t) p (tree_of u) r) (sym is) (kept, g.3))) alters

-- ## A value that is lent

or_empty_held : (makes : Bool) (found : Result Text FrameFault) (old : Text) → found ≡ Ok old → or_empty makes found ≡ Ok old
or_empty_held true found old e = ap (or_empty true) e
or_empty_held false found old e = e

changed_lent : (makes : Bool) (chain next : Chain) (name old text : Text) (change : Text → Growth) → read chain.frames name ≡ Ok old → change old ≡ Ok text → after_set chain name text ≡ Ok next → changed makes chain name change ≡ Ok (text, next)
changed_lent makes chain next name old text change there made set =
    ap (grown_from chain name change) (or_empty_held makes (read chain.frames name) old there) ∙ ap (set_grown chain name) made ∙ ap (set_to text) set

changed_not : (makes : Bool) (chain : Chain) (name old : Text) (c : Completion) (change : Text → Growth) → read chain.frames name ≡ Ok old → change old ≡ Err c → changed makes chain name change ≡ Err c
changed_not makes chain name old c change there made =
    ap (grown_from chain name change) (or_empty_held makes (read chain.frames name) old there) ∙ ap (set_grown chain name) made

pub alters_lent : (makes : Bool) (chain next : Chain) (name old new : Text) (change : Text → Growth) (result : Result Text Interruption) → read chain.frames name ≡ Ok old → after_set chain name new ≡ Ok next → GrowsTo old change new result →
    Alters makes chain name change next result
alters_lent makes chain next name old new change (Ok text) there set grows = changed_lent makes chain next name old text change there grows.0 (ap (after_set chain name) (sym grows.1) ∙ set)
alters_lent makes chain next name old new change (Err i) there set grows = Interrupts-more i _ _ (λ r g.
    (g.0, set_same chain next name old there (ap (after_set chain name) (sym g.1) ∙ set), changed_not makes chain name old g.0 change there g.2, g.3)) grows

-- ## What is the same

pub alters_there : (a b : Bool) (chain there next : Chain) (name given : Text) (change : Text → Growth) (result : Result Text Interruption) → a ≡ b → chain ≡ there → name ≡ given → Alters a chain name change next result →
    Alters b there given change next result
alters_there a b chain there next name given change result e f g alters =
    subst (λ (m : Bool). Alters m there given change next result) e
    (subst (λ (c : Chain). Alters a c given change next result) f (subst (λ (x : Text). Alters a chain x change next result) g alters))

-- ## The commands

looked_at : (T V : Tree Own) (p : Path) (n : Node Own) (r : Reply) (k : Node Own → Program) → T p ≡ Some n → Does (look k) T p V r → Does (k n) T p V r
looked_at T V p n r k there d = subst (λ (o : Option (Node Own)). Does (at_node k o) T p V r) (ap T (append-nil p) ∙ there) d

does_changed : (T V : Tree Own) (p : Path) (n : Node Own) (r : Reply) (makes : Bool) (name : Text) (change : Text → Outcome) → T p ≡ Some n →
    Does (finishes n.own (changed makes n.own.chain name (λ old. growth_of (change old)))) T p V r → Does (changes makes name change) T p V r
does_changed T V p n r makes name change there d =
    does_look T V p r n (λ m. or_fails frame_message (or_empty makes (read m.own.chain.frames name)) (λ old. given (change old) (λ new. sets name new (done (ok new))))) there
    (does_from T V p n r name there (λ old. growth_of (change old)) (λ old k. given (change old) k) (λ old k. lappend_step (change old) k) (or_empty makes (read n.own.chain.frames name)) d)

-- what a variable is changed to in the style of the interpreter
pub changed_acts : (t u : Table) (place : TablePlace) (own : Integers) (makes : Bool) (name : Text) (change : Integers → Text → Outcome) (result : Result Text Interruption) → own ≡ (marks_of t).integers →
    Acts t place (λ style. look (λ n. finishes n.own (changed makes n.own.chain name (λ old. growth_of (change own old))))) u result →
    Acts t place (λ style. changes makes name (change style)) u result
changed_acts t u place own makes name change result same acts =
    acts_more t u place (λ style. changes makes name (change style))
    (λ r. EndsAt t place (λ style. look (λ n. finishes n.own (changed makes n.own.chain name (λ old. growth_of (change own old))))) (tree_of u) r) result (λ r d q style at.
    let n = stands (tree_of t q) (tree_there t q _ at.names) in
    let here = looked_at (tree_of t) (tree_of u) q n.0 r (λ m. finishes m.own (changed makes m.own.chain name (λ old. growth_of (change own old)))) n.1 (d q style at) in
    does_changed (tree_of t) (tree_of u) q n.0 r makes name (change style) n.1
    (subst (λ (s : Integers). Does (finishes n.0.own (changed makes n.0.own.chain name (λ old. growth_of (change s old)))) (tree_of t) q (tree_of u) r) (same ∙ at.style_is) here)) acts

-- the words of a command were read, and it went on
pub words_go : {A : Type 0} (t u : Table) (place : TablePlace) (words : Result A Text) (a : A) (k : A → Styled) (result : Result Text Interruption) → words ≡ Ok a →
    Acts t place (k a) u result → Acts t place (λ style. with_words words (λ x. k x style)) u result
words_go {A} t u place words a k result read acts = acts_as t u place (λ style. with_words words (λ x. k x style)) (k a) result (λ style. ap (λ (r : Result A Text). with_words r (λ x. k x style)) read) acts

-- or they were refused
pub words_end : {A : Type 0} (t : Table) (place : TablePlace) (words : Result A Text) (e : Refusal) (i : Interruption) (k : A → Styled) → Refuses e words → WordsTell e i →
    Acts t place (λ style. with_words words (λ x. k x style)) t (Err i)
words_end t place words e i k refuses tells = found_by_reading t place itself (λ style. words) (Err i) (words_tell e words i refuses tells) k
