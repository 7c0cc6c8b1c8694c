-- What the levels come to that words name.
use Rattle.std.proofs.Common.{◌≡◌, ℕ, Option, Some, None, refl, ap, subst, ◌∙◌}
use Rattle.tcl_core.specs.Endings.Reply.{Completed}
use Rattle.tcl_core.specs.Paths.{Path, Text}
use Rattle.tcl_core.specs.Trees.{Node}
use Rattle.tcl_frames.specs.Chain.{Chain}
use Rattle.tcl_frames.specs.Places.{current}
use Rattle.tcl_language.specs.Faults.{bad_level}
use Rattle.tcl_language.specs.Variables.{found_level, level, level_of}
use Rattle.tcl_run.specs.Ends.{Interrupts, failing}
use Rattle.tcl_run.specs.Plain.{Does}
use Rattle.tcl_run.specs.declared.interruption.Interruption.{Interruption}
use Rattle.tcl_run.proofs.Endings.{Interrupts-more}
use Rattle.tcl_run.proofs.Plain.{does_look}
use Rattle.tcl_run.proofs.Steady.{stands}
use Rattle.tcl_text.specs.declared.integer.Integers.{Integers}
use Rattle.tcl_tree.specs.Own.{Own}
use Rattle.tcl_tree.specs.TreeOf.{tree_of, marks_of, Names}
use Rattle.tcl_tree.specs.declared.tree.Tree.{Tree as Table}
use Rattle.tcl_tree.specs.declared.tree.Place.{Place as TablePlace}
use Rattle.tcl_tree.proofs.CoreLemmas.{tree_there}
use Rattle.tcl_commands.specs.Steps.{Styled, EndsAt, Leads}

-- ## The level that a word names

module _ (t : Table) (place : TablePlace) (word : Text) (chain : Chain) (own : Integers) where
  level_here : (found : Option ℕ) (p : Path) (n : Node Own) (style : Integers) → own ≡ style → chain ≡ n.own.chain → found ≡ level_of own (current chain.frames) word → found ≡ level_of style (current n.own.chain.frames) word
  level_here found p n style same held is = is ∙ ap (λ (s : Integers). level_of s (current chain.frames) word) same ∙ ap (λ (c : Chain). level_of style (current c.frames) word) held

  pub level_found : (at : ℕ) → own ≡ (marks_of t).integers → ((p : Path) (n : Node Own) → Names t place p → tree_of t p ≡ Some n → chain ≡ n.own.chain) → Some at ≡ level_of own (current chain.frames) word →
      (rest : ℕ → Styled) → Leads t place (λ style. level style word (λ n. rest n style)) t (rest at)
  level_found found same held is rest = λ V r e p style at.
      let n = stands (tree_of t p) (tree_there t p _ at.names) in
      does_look (tree_of t) V p r n.0 (λ m. found_level (level_of style (current m.own.chain.frames) word) word (λ x. rest x style)) n.1
      (subst (λ (o : Option ℕ). Does (found_level o word (λ x. rest x style)) (tree_of t) p V r) (level_here (Some found) p n.0 style (same ∙ at.style_is) (held p n.0 at.names n.1) is) (e p style at))

  pub level_missing : (i : Interruption) → own ≡ (marks_of t).integers → ((p : Path) (n : Node Own) → Names t place p → tree_of t p ≡ Some n → chain ≡ n.own.chain) → None ≡ level_of own (current chain.frames) word →
      Interrupts i (λ e. e ≡ Completed (failing (bad_level word))) → (rest : ℕ → Styled) → Interrupts i (EndsAt t place (λ style. level style word (λ n. rest n style)) (tree_of t))
  level_missing i same held is told rest = Interrupts-more i _ _ (λ r e p style at.
      let n = stands (tree_of t p) (tree_there t p _ at.names) in
      does_look (tree_of t) (tree_of t) p r n.0 (λ m. found_level (level_of style (current m.own.chain.frames) word) word (λ x. rest x style)) n.1
      (subst (λ (o : Option ℕ). Does (found_level o word (λ x. rest x style)) (tree_of t) p (tree_of t) r) (level_here None p n.0 style (same ∙ at.style_is) (held p n.0 at.names n.1) is) (refl, e))) told
