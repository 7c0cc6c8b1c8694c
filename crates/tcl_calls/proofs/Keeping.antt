-- What `catch` keeps.
use Rattle.std.proofs.Common.{◌≡◌, ◌-◌, ◌≤◌, true, List, [], ◌∷◌, length, take, drop, get_or, sym, ap, ◌∙◌, arith}
use Rattle.tcl_core.specs.Endings as core
use Rattle.tcl_core.specs.Paths.{Text}
use Rattle.tcl_language.specs.Control.{options_text}
use Rattle.tcl_language.specs.Instructions.{Program, either, fits, grown, too_long}
use Rattle.tcl_core.specs.Programs.Prog.{done}
use Rattle.tcl_language.specs.Variables.{sets}
use Rattle.tcl_calls.specs.Catching.{kept_in}
use Rattle.tcl_calls.proofs.Binding.{first_of_two}

-- two names or more keep both
pub two_kept : (names rest : List Text) (a b value : Text) (c : core.Completion) (k : Program) → 1 ≤ length names → a ≡ get_or names 0 a → rest ≡ take (length names - 1) (drop 1 names) → 1 ≤ length rest → b ≡ get_or rest 0 b →
    value ≡ options_text c → fits (options_text c) ≡ true → kept_in names c k ≡ sets a c.text (sets b value k)
two_kept [] rest a b value c k h e r m f v t = absurd (omega arith)
two_kept (x ∷ []) rest a b value c k h e r m f v t = let none = ap length r in absurd (omega arith)
two_kept (x ∷ y ∷ more) rest a b value c k h e r m f v t =
    let second : b ≡ y = f ∙ ap (λ (l : List Text). get_or l 0 b) (r ∙ first_of_two (x ∷ y ∷ more) a e (omega arith)) in
    (λ i. sets (sym e i) c.text (grown (options_text c) (λ text. sets y text k)))
    ∙ ap (sets a c.text) (ap (λ t. either t (sets y (options_text c) k) (done too_long)) t ∙ (λ i. sets (sym second i) (sym v i) k))
