-- Calls before which a sum among their words is counted, if there is one.
use Rattle.std.proofs.Common.{◌≡◌, ◌∷◌, [], Bool, true, false, List, Some, refl, subst}
use Rattle.tcl_core.specs.Endings.{ok}
use Rattle.tcl_core.specs.Endings.Reply.{Completed}
use Rattle.tcl_core.specs.Paths.{Text}
use Rattle.tcl_core.specs.Runs.{Ending}
use Rattle.tcl_interpreter.specs.declared.builtin.Builtin.{Builtin}
use Rattle.tcl_interpreter.specs.declared.command.Command.TheVariants as command
use Rattle.tcl_parser.specs.Reading.{read_script}
use Rattle.tcl_run.specs.Runs.{IsHere, Ways}
use Rattle.tcl_run.proofs.Steady.{still_at}
use Rattle.tcl_tree.specs.declared.tree.Place.{Place}
use Rattle.tcl_tree.specs.declared.tree.Tree.{Tree as Table}
use Rattle.tcl_evaluation.specs.Hands.{KeepsOwn}
use Rattle.tcl_evaluation.specs.Sums.{CallsBuiltin, CallsBuiltinAtHand, Sums}
use Rattle.tcl_evaluation.proofs.HandCalling.{plain_goes, sum_goes}
use Rattle.tcl_evaluation.proofs.HandPlainly.{there_at}
use Rattle.tcl_evaluation.proofs.Own.{named_own}

module _ {S : Type 0} {ways : Ways S} (old new after : Table) (o u z : S) (place : Place) (builtin : Builtin) (args : List Text) (e : Ending) where
  -- what a call comes to behind what was counted, it comes to with it
  pub counted_call : (sums : Bool) → (sums ≡ true → Sums ways old o place new u (λ text. Some (Completed (ok text)))) → (sums ≡ true → KeepsOwn old new place) → (sums ≡ false → (new ≡ old) × (u ≡ o)) →
      IsHere old new place → CallsBuiltin ways new u place builtin args after z e → CallsBuiltinAtHand ways old o place builtin sums args after z e
  counted_call true counted own plain here h word q style n at there named ws call =
      let m = own refl q n at.names there in
      sum_goes style ws [] (word ∷ args) there call (λ inner text is. counted refl q style n (there_at old place q style at) there (read_script inner) text is) m.1 m.2
      (h word q style m.0 (still_at old new place q style here at) m.1 (named_own n m.0 word (command.Builtin builtin) m.2 named))
  counted_call false counted own plain here h word q style n at there named ws call =
      let same = plain refl in
      let g : CallsBuiltin ways old o place builtin args after z e = subst (λ (s : S). CallsBuiltin ways old s place builtin args after z e) same.1 (subst (λ (t : Table). CallsBuiltin ways t u place builtin args after z e) same.0 h) in
      plain_goes style ws (word ∷ args) there call (g word q style n at there named)
