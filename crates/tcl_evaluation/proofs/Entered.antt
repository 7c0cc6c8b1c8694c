-- What comes of asking an interpreter for an evaluation.
use Rattle.std.proofs.Common.{◌≡◌, ℕ, ◌≤◌, Bool, true, false, List, [], ◌∷◌, length, Some, None, sym, ap, subst, arith}
use Rattle.std.specs.Prelude.{Result, nat_lt}
use Rattle.tcl_core.specs.Endings.{Reply}
use Rattle.tcl_core.specs.Endings.Reply.{Completed, Stop, Exit, Cut}
use Rattle.tcl_core.specs.Entries.{Entry}
use Rattle.tcl_core.specs.Entries.Entry.{InvokeHidden}
use Rattle.tcl_core.specs.Paths.{Path, Text}
use Rattle.tcl_core.specs.Runs.{Ending}
use Rattle.tcl_core.specs.Programs.{brought_back}
use Rattle.tcl_core.specs.Programs.Prog.{done, go}
use Rattle.tcl_core.specs.Trees.{Tree, Node, depth_of, effect}
use Rattle.tcl_core.specs.Trees.What.{Changed}
use Rattle.tcl_language.specs.Control.{at_level, level_over}
use Rattle.tcl_language.specs.Instructions.Instr.{Hidden, Invoke}
use Rattle.tcl_language.specs.Interpreters.{asks_at}
use Rattle.tcl_run.specs.Language.{language}
use Rattle.tcl_language.specs.Table.{hidden_at, invoked, serve, settled, some_words}
use Rattle.tcl_run.specs.Runs.{Counts, IsAt, IsThere, Proceeds, ProceedsAt, RefusesStep, Ways}
use Rattle.tcl_run.specs.declared.interruption.Interruption.{Interruption}
use Rattle.tcl_run.proofs.Endings.{IfRan-more}
use Rattle.tcl_run.proofs.Proceeding.{at_end, at_prog, at_reply, charges, charge_refused, completed, framed, framed_passed, goes_on, looks, passed, stopped}
use Rattle.tcl_text.specs.declared.integer.Integers.{Integers}
use Rattle.tcl_tree.specs.Own.{Own}
use Rattle.tcl_tree.specs.TreeOf.{tree_of}
use Rattle.tcl_tree.specs.declared.tree.Tree.{Tree as Table}
use Rattle.tcl_tree.specs.declared.tree.Place.{Place as TablePlace}
use Rattle.tcl_evaluation.specs.View.{Asks, AsksBelow, GoesOn, unhidden}
use Rattle.tcl_evaluation.proofs.Targets.{Settled, serve_goes}

-- what an interpreter asks of itself
pub asks_here : {S : Type 0} (ways : Ways S) (old new : Table) (o z : S) (place : TablePlace) (path : Path) (entry : Entry) (result : Result (List ℕ) Interruption) → path ≡ [] →
    ProceedsAt ways old o place (λ style. serve style entry) new z result → Asks ways old o place path entry new z result
asks_here ways old new o z place path entry result none runs = IfRan-more result (λ e. (q : Path) (y : Integers) → IsThere old place q y → Proceeds ways (language y) (tree_of old) o q (serve y entry) (tree_of new) z e)
    (λ e. (p : Path) (style : Integers) → IsAt old place p style → GoesOn ways style (tree_of old) o p (asks_at path entry) (tree_of new) z e)
    (λ e d p style at. subst (λ (x : Path). GoesOn ways style (tree_of old) o p (asks_at x entry) (tree_of new) z e) (sym none)
    (serve_goes ways style entry e (d p style (record { names = at.names; style_is = at.style_is })))) runs

-- and of another
pub asks_another : {S : Type 0} (ways : Ways S) (old new : Table) (o z : S) (place : TablePlace) (path : Path) (entry : Entry) (result : Result (List ℕ) Interruption) → 1 ≤ length path → AsksBelow ways old o place path entry new z result → Asks ways old o place path entry new z result
asks_another ways old new o z place [] entry result some asks = absurd (omega arith)
asks_another ways old new o z place (x ∷ path) entry result some asks = asks

module _ {S : Type 0} {ways : Ways S} (style : Integers) where
  -- ## Hidden commands

  pub hidden_stops : {T U : Tree Own} {o z : S} {p : Path} {r : Reply} (g : Bool) (words : List Text) → RefusesStep ways.goes T o p U z r → Proceeds ways (language style) T o p (serve style (InvokeHidden g words)) U z (Some r)
  hidden_stops g words s = charge_refused s

  -- only ok and error pass
  invokes : {T V : Tree Own} {o z : S} {p : Path} (g : Bool) (words : List Text) (e f : Ending) → Settled e f → Proceeds ways (language style) T o p (unhidden g words) V z e → Proceeds ways (language style) T o p (go (Invoke g words) settled) V z f
  invokes g words (Some (Completed c)) (Some r) l t = goes_on {i = Invoke g words} t (at_reply l completed)
  invokes g words (Some (Completed c)) None l t = goes_on {i = Invoke g words} t stopped
  invokes g words (Some (Stop n m)) f l t = at_end l (passed tt t)
  invokes g words (Some (Exit n)) f l t = at_end l (passed tt t)
  invokes g words (Some (Cut c)) f l t = at_end l (passed tt t)
  invokes g words None f l t = at_end l (passed tt t)

  pub hidden_settles : {T U V : Tree Own} {o u z : S} {p : Path} (g : Bool) (words given : List Text) (e f : Ending) → given ≡ some_words words → Counts ways.goes T o p U u → Settled e f →
      Proceeds ways (language style) U u p (unhidden g given) V z e → Proceeds ways (language style) T o p (serve style (InvokeHidden g words)) V z f
  hidden_settles g words given e f same counts l t = charges counts (at_prog (ap (λ ws. go (Invoke g ws) settled) (sym same)) (invokes g given e f l t))

  -- as it is, or at level 0
  pub hidden_here : {T U : Tree Own} {o u : S} {p : Path} (g : Bool) (words : List Text) (e : Ending) → g ≡ false → Proceeds ways (language style) T o p (invoked style words) U u e → Proceeds ways (language style) T o p (hidden_at style g words) U u e
  hidden_here {T} {U} {o} {u} {p} g words e same t = at_prog (ap (λ (b : Bool). hidden_at style b words) same) t

  at_the_top : (T : Tree Own) {U V W : Tree Own} {o z : S} {p : Path} {n : Node Own} (words : List Text) (e : Ending) → T p ≡ Some n → U ≡ effect p (Changed (at_level 0 n.own)) T → W ≡ effect p (brought_back (nat_lt (depth_of (V p)) n.depth) level_over (V p)) V →
      Proceeds ways (language style) U o p (invoked style words) V z e → Proceeds ways (language style) T o p (hidden_at style true words) W z e
  at_the_top T words (Some (Completed c)) there u w t = looks there (framed {i = Hidden false words} there u w t completed)
  at_the_top T words (Some (Stop l x)) there u w t = looks there (framed_passed {i = Hidden false words} {k = done} tt there u w t)
  at_the_top T words (Some (Exit x)) there u w t = looks there (framed_passed {i = Hidden false words} {k = done} tt there u w t)
  at_the_top T words (Some (Cut x)) there u w t = looks there (framed_passed {i = Hidden false words} {k = done} tt there u w t)
  at_the_top T words None there u w t = looks there (framed_passed {i = Hidden false words} {k = done} tt there u w t)

  pub hidden_global : (T : Tree Own) {U V W : Tree Own} {o z : S} {p : Path} {n : Node Own} (g : Bool) (words : List Text) (e : Ending) → g ≡ true → T p ≡ Some n → U ≡ effect p (Changed (at_level 0 n.own)) T →
      W ≡ effect p (brought_back (nat_lt (depth_of (V p)) n.depth) level_over (V p)) V → Proceeds ways (language style) U o p (invoked style words) V z e → Proceeds ways (language style) T o p (hidden_at style g words) W z e
  hidden_global T g words e same there u w t = at_prog (ap (λ (b : Bool). hidden_at style b words) same) (at_the_top T words e there u w t)
