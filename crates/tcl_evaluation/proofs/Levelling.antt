-- What scripts at another level come to.
use Rattle.std.proofs.Common.{◌≡◌, ℕ, Bool, true, false, List, [], ◌∷◌, Option, Some, None, ap}
use Rattle.std.specs.Prelude.{Result, Ok, Err, codes, nat_lt}
use Rattle.tcl_core.specs.Endings.{Reply}
use Rattle.tcl_core.specs.Endings.Reply.{Completed, Stop, Exit, Cut}
use Rattle.tcl_core.specs.Runs.{Ending}
use Rattle.tcl_core.specs.Paths.{Text, Path}
use Rattle.tcl_core.specs.Programs.Prog.{done}
use Rattle.tcl_core.specs.Programs.{brought_back}
use Rattle.tcl_core.specs.Trees.{Tree, Node, depth_of, effect}
use Rattle.tcl_core.specs.Trees.What.{Changed}
use Rattle.tcl_frames.specs.Places.{current}
use Rattle.tcl_language.specs.Control.{at_level, inner_script, level_over, script_at, uplevel, uplevel_words}
use Rattle.tcl_language.specs.Faults.{bad_level}
use Rattle.tcl_language.specs.Instructions.{Program, fits, look, too_long}
use Rattle.tcl_language.specs.Instructions.Instr.{Script}
use Rattle.tcl_run.specs.Language.{language}
use Rattle.tcl_language.specs.Scripts.{script}
use Rattle.tcl_language.specs.Variables.{found_level, level, level_of}
use Rattle.tcl_language.specs.Words.{concat, is_level}
use Rattle.tcl_run.specs.Ends.{IsFailure, itself}
use Rattle.tcl_run.specs.Runs.{Proceeds, Ways}
use Rattle.tcl_run.proofs.Proceeding.{at_prog, at_reply, completed, framed, framed_passed, grows, looks, outgrows}
use Rattle.tcl_text.specs.declared.integer.Integers.{Integers}
use Rattle.tcl_tree.specs.Own.{Own}
use Rattle.tcl_calls.specs.Levels.{level_at_node, levelled, or_bad, script_level, with_script}

module _ {S : Type 0} {ways : Ways S} (style : Integers) where
  level_goes : {T V : Tree Own} {o z : S} {p : Path} {n : Node Own} {r : Ending} (word : Text) (words given : List Text) (m : ℕ) → T p ≡ Some n → with_script (level_at_node style n word) words ≡ Ok (m, given) →
      Proceeds ways (language style) T o p (script_at given m) V z r → Proceeds ways (language style) T o p (level style word (script_at words)) V z r
  level_goes {T} {V} {o} {z} {p} {n} {r} word words given m there e t = looks there (by (level_of style (current n.own.chain.frames) word) e)
    where
      by : (x : Option ℕ) → with_script (or_bad word x) words ≡ Ok (m, given) → Proceeds ways (language style) T o p (found_level x word (script_at words)) V z r
      by None f = let clash : Err (bad_level word) ≡ Ok (m, given) = f in cc
      by (Some k) f = at_prog (ap (λ (x : Result (ℕ × List Text) Text). of_ok x) f) t
        where
          of_ok : Result (ℕ × List Text) Text → Program
          of_ok (Ok x) = script_at x.1 x.0
          of_ok (Err x) = script_at given m

  level_fails : {T : Tree Own} {o : S} {p : Path} {n : Node Own} (word : Text) (words : List Text) (e : Reply) → T p ≡ Some n → IsFailure itself (with_script (level_at_node style n word) words) e →
      Proceeds ways (language style) T o p (level style word (script_at words)) T o (Some e)
  level_fails {T} {o} {p} {n} word words e there h = looks there (by (level_of style (current n.own.chain.frames) word) h)
    where
      by : (x : Option ℕ) → IsFailure itself (with_script (or_bad word x) words) e → Proceeds ways (language style) T o p (found_level x word (script_at words)) T o (Some e)
      by None f = at_reply f completed
      by (Some k) f = elim f [ ]

  pub up_found : {T V : Tree Own} {o z : S} {p : Path} {n : Node Own} {r : Ending} (args given : List Text) (m : ℕ) → T p ≡ Some n → script_level style n args ≡ Ok (m, given) →
      Proceeds ways (language style) T o p (script_at given m) V z r → Proceeds ways (language style) T o p (uplevel style args) V z r
  up_found [] given m there e t = let clash : Err _ ≡ Ok (m, given) = e in cc
  up_found (arg ∷ []) given m there e t = level_goes (codes "1") (arg ∷ []) given m there e t
  up_found {T} {V} {o} {z} {p} {n} {r} (word ∷ arg ∷ args) given m there e t = by (is_level word) e
    where
      by : (b : Bool) → levelled style n word (arg ∷ args) b ≡ Ok (m, given) → Proceeds ways (language style) T o p (uplevel_words style word (arg ∷ args) b) V z r
      by true f = level_goes word (arg ∷ args) given m there f t
      by false f = level_goes (codes "1") (word ∷ arg ∷ args) given m there f t

  pub up_fails : {T : Tree Own} {o : S} {p : Path} {n : Node Own} (args : List Text) (e : Reply) → T p ≡ Some n → IsFailure itself (script_level style n args) e → Proceeds ways (language style) T o p (uplevel style args) T o (Some e)
  up_fails [] e there h = at_reply h completed
  up_fails (arg ∷ []) e there h = level_fails (codes "1") (arg ∷ []) e there h
  up_fails {T} {o} {p} {n} (word ∷ arg ∷ args) e there h = by (is_level word) h
    where
      by : (b : Bool) → IsFailure itself (levelled style n word (arg ∷ args) b) e → Proceeds ways (language style) T o p (uplevel_words style word (arg ∷ args) b) T o (Some e)
      by true f = level_fails word (arg ∷ args) e there f
      by false f = level_fails (codes "1") (word ∷ arg ∷ args) e there f

  pub up_long : {T : Tree Own} {o : S} {p : Path} {r : Reply} (words : List Text) (m : ℕ) → fits (concat words) ≡ false → r ≡ Completed too_long → Proceeds ways (language style) T o p (script_at words m) T o (Some r)
  up_long words m f e = outgrows (concat words) (λ text. look (λ node. inner_script m node.own text)) f e

  aside : {T U V W : Tree Own} {o z : S} {p : Path} {n : Node Own} {r : Ending} (text : Text) (m : ℕ) → T p ≡ Some n → U ≡ effect p (Changed (at_level m n.own)) T → W ≡ effect p (brought_back (nat_lt (depth_of (V p)) n.depth) level_over (V p)) V →
      Proceeds ways (language style) U o p (script text) V z r → Proceeds ways (language style) T o p (inner_script m n.own text) W z r
  aside {r = Some (Completed c)} text m there u w t = framed {i = Script text} there u w t completed
  aside {r = Some (Stop l x)} text m there u w t = framed_passed {i = Script text} {k = done} tt there u w t
  aside {r = Some (Exit x)} text m there u w t = framed_passed {i = Script text} {k = done} tt there u w t
  aside {r = Some (Cut x)} text m there u w t = framed_passed {i = Script text} {k = done} tt there u w t
  aside {r = None} text m there u w t = framed_passed {i = Script text} {k = done} tt there u w t

  pub up_runs : {T U V W : Tree Own} {o z : S} {p : Path} {n : Node Own} {r : Ending} (words : List Text) (m : ℕ) → fits (concat words) ≡ true → T p ≡ Some n → U ≡ effect p (Changed (at_level m n.own)) T →
      W ≡ effect p (brought_back (nat_lt (depth_of (V p)) n.depth) level_over (V p)) V → Proceeds ways (language style) U o p (script (concat words)) V z r → Proceeds ways (language style) T o p (script_at words m) W z r
  up_runs words m f there u w t = grows (concat words) (λ text. look (λ node. inner_script m node.own text)) f (looks there (aside (concat words) m there u w t))
