-- How steps are put together.
use Rattle.std.proofs.Common.{◌≡◌, ℕ, List, Some, refl, sym, ap, subst, ◌∙◌}
use Rattle.std.specs.Prelude.{Result, Ok, Err, IfErr, OnOk, OnErr}
use Rattle.tcl_core.specs.Endings.{Completion, Reply, ok}
use Rattle.tcl_core.specs.Endings.Reply.{Completed}
use Rattle.tcl_core.specs.Paths.{Path}
use Rattle.tcl_core.specs.Programs.Prog.{done}
use Rattle.tcl_core.specs.Trees.{Tree, Node}
use Rattle.tcl_frames.specs.Chain.{Chain, after_set}
use Rattle.tcl_language.specs.Faults.{frame_message}
use Rattle.tcl_language.specs.Instructions.{Program, or_fails, look, change, with_chain}
use Rattle.tcl_language.specs.Variables.{sets, chain_becomes}
use Rattle.tcl_run.specs.Ends.{Interrupts, IfEnded, IsFailure, Gave}
use Rattle.tcl_run.specs.Plain.{Does, Acts}
use Rattle.tcl_run.specs.Runs.{IsThere, IsLevel, Rechained}
use Rattle.tcl_run.specs.declared.interruption.Interruption.{Interruption}
use Rattle.tcl_run.proofs.Endings.{Interrupts-more, IfEnded-more, Interrupts-at}
use Rattle.tcl_run.proofs.Plain.{does_look, does_read, does_fail, does_change}
use Rattle.tcl_run.proofs.Steady.{stands}
use Rattle.tcl_text.specs.declared.integer.Integers.{Integers}
use Rattle.tcl_tree.specs.Own.{Own}
use Rattle.tcl_tree.specs.TreeOf.{tree_of, marks_of, Names}
use Rattle.tcl_tree.specs.declared.tree.Tree.{Tree as Table}
use Rattle.tcl_tree.specs.declared.tree.Place.{Place as TablePlace}
use Rattle.tcl_tree.proofs.CoreLemmas.{tree_there}
use Rattle.tcl_frames.specs.declared.fault.FrameFault.{FrameFault}
use Rattle.tcl_commands.specs.Steps.{Styled, EndsAt, Leads, Steps, Finds}

-- ## Ends

pub ends_done : (t : Table) (place : TablePlace) (c : Completion) → EndsAt t place (λ style. done c) (tree_of t) (Completed c)
ends_done t place c = λ p style at. (refl, refl)

-- what came of a command, from what is said of its end
pub acts_more : (t u : Table) (place : TablePlace) (program : Styled) (P : Reply → Type 0) (result : Result (List ℕ) Interruption) → ((r : Reply) → P r → EndsAt t place program (tree_of u) r) → IfEnded result P → Acts t place program u result
acts_more t u place program P result f e = IfEnded-more result P (λ r. EndsAt t place program (tree_of u) r) f e

-- what was said of an end of what is left is said of the end of the whole
pub goes_acts : (old new last : Table) (place : TablePlace) (whole rest : Styled) (result : Result (List ℕ) Interruption) →
    Leads old place whole new rest → Acts new place rest last result → Acts old place whole last result
goes_acts old new last place whole rest result leads acts = acts_more old last place whole (λ r. EndsAt new place rest (tree_of last) r) result (λ r e. leads (tree_of last) r e) acts

pub leads-trans : (a b c : Table) (place : TablePlace) (x y z : Styled) → Leads a place x b y → Leads b place y c z → Leads a place x c z
leads-trans a b c place x y z f g = λ V r e. f V r (g V r e)

-- an end that is passed on by `?`
pub passed_acts : (t u : Table) (place : TablePlace) (program : Styled) (i y : Interruption) (result : Result (List ℕ) Interruption) → result ≡ Err y → y ≡ i →
    Interrupts i (EndsAt t place program (tree_of u)) → Acts t place program u result
passed_acts t u place program i y result e same h = subst (λ (x : Result (List ℕ) Interruption). Acts t place program u x) (sym (e ∙ ap Err same)) h

-- where the place is
pub there_after : (old new : Table) (place : TablePlace) (p : Path) (style : Integers) → IsLevel old new → IsThere old place p style → IsThere new place p style
there_after old new place p style level at = record {
  names = level.keys p ∙ at.names;
  style_is = ap (λ m. m.integers) level.marks ∙ at.style_is;
}

-- what leads on by itself, wherever the place is
pub leads_by : (old new : Table) (place : TablePlace) (whole rest : Styled) → IsLevel old new →
    ((p : Path) (style : Integers) (V : Tree Own) (r : Reply) → IsThere old place p style → Does (rest style) (tree_of new) p V r → Does (whole style) (tree_of old) p V r) → Leads old place whole new rest
leads_by old new place whole rest level f = λ V r e p style at. f p style V r at (e p style (there_after old new place p style level at))

pub ends_as : (x : Program) (T U V : Tree Own) (p : Path) (r : Reply) → U ≡ V → Does x T p V r → Does x T p U r
ends_as x T U V p r e d = subst (λ (z : Tree Own). Does x T p z r) (sym e) d

-- a chain becomes what a change makes of it
becomes : (T U V : Tree Own) (p : Path) (n : Node Own) (given : Result Chain FrameFault) (k : Program) (r : Reply) → T p ≡ Some n → Rechained T p n.own given U → Does k U p V r → Does (chain_becomes n.own given k) T p V r
becomes T U V p n (Ok chain) k r there u d = does_change T U V p r n (with_chain n.own chain) k there u d
becomes T U V p n (Err f) k r there u d = elim u [ ]

-- ## What was read

pub found_by_reading : {A F : Type 0} (t : Table) (place : TablePlace) (message : F → List ℕ) (read : Integers → Result A F) (result : Result A Interruption) →
    Gave message (read (marks_of t).integers) result → Finds t place (λ rest style. or_fails message (read style) (λ a. rest a style)) t result
found_by_reading {A} {F} t place message read (Ok a) given = λ rest V r e p style at.
    does_read (tree_of t) V p r message (read style) a (λ x. rest x style) (ap read (sym at.style_is) ∙ given) (e p style at)
found_by_reading {A} {F} t place message read (Err i) given = λ rest. Interrupts-more i _ _ (λ r f p style at.
    does_fail (tree_of t) p message (read style) (λ x. rest x style) r (subst (λ (s : Integers). IsFailure message (read s) r) at.style_is f)) given

-- what was read of the interpreter
pub found_by_look : {A F : Type 0} (t : Table) (place : TablePlace) (message : F → List ℕ) (read : Node Own → Result A F) (result : Result A Interruption) →
    ((p : Path) (n : Node Own) → Names t place p → tree_of t p ≡ Some n → Gave message (read n) result) →
    Finds t place (λ rest style. look (λ n. or_fails message (read n) (λ a. rest a style))) t result
found_by_look {A} {F} t place message read (Ok a) given = λ rest V r e p style at.
    let n = stands (tree_of t p) (tree_there t p _ at.names) in
    does_look (tree_of t) V p r n.0 (λ m. or_fails message (read m) (λ x. rest x style)) n.1
    (does_read (tree_of t) V p r message (read n.0) a (λ x. rest x style) (given p n.0 at.names n.1) (e p style at))
found_by_look {A} {F} t place message read (Err i) given = λ rest. Interrupts-more i _ _ (λ r f p style at.
    let n = stands (tree_of t p) (tree_there t p _ at.names) in
    does_look (tree_of t) (tree_of t) p r n.0 (λ m. or_fails message (read m) (λ x. rest x style)) n.1
    (does_fail (tree_of t) p message (read n.0) (λ x. rest x style) r (f p n.0 at.names n.1)))
    (Interrupts-at i t place (λ n. IsFailure message (read n)) given)

-- what was found is what the command gives
pub found_acts : (t u : Table) (place : TablePlace) (step : (List ℕ → Styled) → Styled) (result : Result (List ℕ) Interruption) →
    Finds t place step u result → Acts t place (step (λ text style. done (ok text))) u result
found_acts t u place step (Ok text) found = found (λ text style. done (ok text)) (tree_of u) (Completed (ok text)) (ends_done u place (ok text))
found_acts t u place step (Err i) found = found (λ text style. done (ok text))

-- the same of another form of the program
pub acts_as : (t u : Table) (place : TablePlace) (x y : Styled) (result : Result (List ℕ) Interruption) → ((style : Integers) → x style ≡ y style) → Acts t place y u result → Acts t place x u result
acts_as t u place x y result same acts = acts_more t u place x (λ r. EndsAt t place y (tree_of u) r) result (λ r e p style at. subst (λ (z : Program). Does z (tree_of t) p (tree_of u) r) (sym (same style)) (e p style at)) acts

-- ## What was set

pub set_steps : (t u : Table) (place : TablePlace) (name value : List ℕ) (result : Result (Unit {0}) Interruption) → IsLevel t u →
    OnOk result ((p : Path) (n : Node Own) → Names t place p → tree_of t p ≡ Some n → Rechained (tree_of t) p n.own (after_set n.own.chain name value) (tree_of u)) →
    IfErr result (λ i. Interrupts i (λ e. (p : Path) (n : Node Own) → Names t place p → tree_of t p ≡ Some n → IsFailure frame_message (after_set n.own.chain name value) e)) →
    OnErr result (tree_of u ≡ tree_of t) → Steps t place (λ rest style. sets name value (rest style)) u result
set_steps t u place name value (Ok x) level written refused same = λ rest. leads_by t u place (λ style. sets name value (rest style)) rest level (λ p style V r at d.
    let n = stands (tree_of t p) (tree_there t p _ at.names) in
    does_look (tree_of t) V p r n.0 (λ m. chain_becomes m.own (after_set m.own.chain name value) (rest style)) n.1
    (becomes (tree_of t) (tree_of u) V p n.0 (after_set n.0.own.chain name value) (rest style) r n.1 (written p n.0 at.names n.1) d))
set_steps t u place name value (Err i) level written refused same = λ rest. Interrupts-more i _ _ (λ r f p style at.
    let n = stands (tree_of t p) (tree_there t p _ at.names) in
    ends_as (sets name value (rest style)) (tree_of t) (tree_of u) (tree_of t) p r same
    (does_look (tree_of t) (tree_of t) p r n.0 (λ m. chain_becomes m.own (after_set m.own.chain name value) (rest style)) n.1
    (does_fail (tree_of t) p frame_message (after_set n.0.own.chain name value) (λ chain. change (with_chain n.0.own chain) (rest style)) r (f p n.0 at.names n.1)))) refused
