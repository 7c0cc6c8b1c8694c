-- Subcommands, told apart by their names.
use Rattle.std.proofs.Common.{◌≡◌, Bool, false, List, ap, ◌∙◌, inl, inr}
use Rattle.std.specs.Prelude.{Result, codes}
use Rattle.std.specs.Str.{bytes_eq}
use Rattle.tcl_core.specs.Paths.{Text}
use Rattle.tcl_language.specs.Inspection as inspection
use Rattle.tcl_language.specs.Instructions.{Program, either}
use Rattle.tcl_language.specs.Procedures as procedures
use Rattle.tcl_run.specs.Plain.{Acts}
use Rattle.tcl_run.specs.declared.interruption.Interruption.{Interruption}
use Rattle.tcl_tree.proofs.PathLemmas.{text_cases}
use Rattle.tcl_tree.specs.declared.tree.Tree.{Tree as Table}
use Rattle.tcl_tree.specs.declared.tree.Place.{Place as TablePlace}
use Rattle.tcl_commands.proofs.Going.{acts_as}

pub other_text : (word name : Text) → (word ≡ name → ⊥) → bytes_eq word name ≡ false
other_text word name other = elim (text_cases word name) [
  | inl x ↦ absurd (other x.0)
  | inr x ↦ x.1
]

six_false : (b1 b2 b3 b4 b5 b6 : Bool) (x1 x2 x3 x4 x5 x6 y : Program) → b1 ≡ false → b2 ≡ false → b3 ≡ false → b4 ≡ false → b5 ≡ false → b6 ≡ false →
    either b1 x1 (either b2 x2 (either b3 x3 (either b4 x4 (either b5 x5 (either b6 x6 y))))) ≡ y
six_false b1 b2 b3 b4 b5 b6 x1 x2 x3 x4 x5 x6 y e1 e2 e3 e4 e5 e6 =
    ap (λ b. either b x1 (either b2 x2 (either b3 x3 (either b4 x4 (either b5 x5 (either b6 x6 y)))))) e1
    ∙ ap (λ b. either b x2 (either b3 x3 (either b4 x4 (either b5 x5 (either b6 x6 y))))) e2
    ∙ ap (λ b. either b x3 (either b4 x4 (either b5 x5 (either b6 x6 y)))) e3
    ∙ ap (λ b. either b x4 (either b5 x5 (either b6 x6 y))) e4
    ∙ ap (λ b. either b x5 (either b6 x6 y)) e5
    ∙ ap (λ b. either b x6 y) e6

-- what `info` doesn't tell of the interpreter it tells of procedures, commands and scripts
pub told_otherwise : (t u : Table) (place : TablePlace) (word : Text) (args : List Text) (result : Result Text Interruption) →
    (word ≡ codes "cmdcount" → ⊥) → (word ≡ codes "exists" → ⊥) → (word ≡ codes "vars" → ⊥) → (word ≡ codes "globals" → ⊥) → (word ≡ codes "locals" → ⊥) → (word ≡ codes "level" → ⊥) →
    Acts t place (λ style. procedures.chosen word args) u result → Acts t place (λ style. inspection.chosen style word args) u result
told_otherwise t u place word args result f1 f2 f3 f4 f5 f6 acts =
    acts_as t u place (λ style. inspection.chosen style word args) (λ style. procedures.chosen word args) result
    (λ style. six_false (bytes_eq word (codes "cmdcount")) (bytes_eq word (codes "exists")) (bytes_eq word (codes "vars")) (bytes_eq word (codes "globals")) (bytes_eq word (codes "locals")) (bytes_eq word (codes "level"))
    _ _ _ _ _ _ (procedures.chosen word args) (other_text word (codes "cmdcount") f1) (other_text word (codes "exists") f2) (other_text word (codes "vars") f3) (other_text word (codes "globals") f4) (other_text word (codes "locals") f5) (other_text word (codes "level") f6)) acts
