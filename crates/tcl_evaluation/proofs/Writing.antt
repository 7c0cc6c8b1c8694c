-- What the words of `puts` come to.
use Rattle.std.proofs.Common.{◌≡◌, ◌⊎◌, inl, inr, ◌<◌, ◌≤◌, List, [], ◌∷◌, length, false, refl, subst, arith}
use Rattle.std.specs.Prelude.{Result}
use Rattle.std.proofs.lemmas.Bool.Decides.{nat_tests}
use Rattle.tcl_core.specs.Paths.{Text}
use Rattle.tcl_language.specs.Hosting.{puts, puts_form, writes}
use Rattle.tcl_language.specs.Instructions.{fits}
use Rattle.tcl_run.specs.Runs.{ProceedsIn, Ways}
use Rattle.tcl_run.specs.declared.interruption.Interruption.{Interruption}
use Rattle.tcl_tree.specs.declared.tree.Tree.{Tree as Table}
use Rattle.tcl_tree.specs.declared.tree.Place.{Place as TablePlace}
use Rattle.tcl_value.specs.Limits.{IsPast}

-- the same text for the same channel, told otherwise
pub writes_as : {S : Type 0} (ways : Ways S) (old new : Table) (o z : S) (place : TablePlace) (channel text c t : Text) (result : Result Text Interruption) → c ≡ channel → t ≡ text →
    ProceedsIn ways old o place (λ style. writes c t) new z result → ProceedsIn ways old o place (λ style. writes channel text) new z result
writes_as ways old new o z place channel text c t result ec et h =
    subst (λ (x : Text). ProceedsIn ways old o place (λ style. writes x text) new z result) ec (subst (λ (x : Text). ProceedsIn ways old o place (λ style. writes c x) new z result) et h)

-- ## Words

-- no other words than one, two or three are put
pub not_put : (xs : List Text) → (length xs < 1) ⊎ (4 ≤ length xs) → puts xs ≡ puts_form
not_put [] h = refl
not_put (a ∷ []) (inl h) = absurd (omega arith)
not_put (a ∷ []) (inr h) = absurd (omega arith)
not_put (a ∷ b ∷ []) (inl h) = absurd (omega arith)
not_put (a ∷ b ∷ []) (inr h) = absurd (omega arith)
not_put (a ∷ b ∷ c ∷ []) (inl h) = absurd (omega arith)
not_put (a ∷ b ∷ c ∷ []) (inr h) = absurd (omega arith)
not_put (a ∷ b ∷ c ∷ d ∷ ds) h = refl

pub past_long : (text : Text) → IsPast text → fits text ≡ false
past_long text h = grind (arith, nat_tests)
