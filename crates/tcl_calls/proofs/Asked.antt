-- What comes of asking: one law for what an interpreter asks of itself and one for a call of another, for any entry and any run inside.
use Rattle.std.proofs.Common.{◌≡◌, ℕ, suc, false, [], ◌∷◌, ◌++◌, length, Some, None, refl, sym, ◌∙◌, ap, subst, arith}
use Rattle.std.specs.Prelude.{nat_eq}
use Rattle.std.proofs.lemmas.Bool.Decides.{nat_tests}
use Rattle.tcl_core.specs.Endings.{Completion, Reply}
use Rattle.tcl_core.specs.Endings.Reply.{Completed, Stop, Exit, Cut}
use Rattle.tcl_core.specs.Entries.{Entry}
use Rattle.tcl_core.specs.Paths.{Path, Place, rise, rise_to, rejoined}
use Rattle.tcl_core.specs.Programs.Prog.{go, call}
use Rattle.tcl_core.specs.Runs.{returned}
use Rattle.tcl_core.specs.Execution.{passed}
use Rattle.tcl_core.specs.Trees.{Tree, Node}
use Rattle.tcl_language.specs.Instructions.{Instr}
use Rattle.tcl_language.specs.Instructions.Instr.{Serve}
use Rattle.tcl_language.specs.Interpreters.{finished}
use Rattle.tcl_run.specs.Language.{language}
use Rattle.tcl_language.specs.Table.{program, serve}
use Rattle.tcl_run.specs.Outsides.{Going, Enters, Returns, Misses}
use Rattle.tcl_run.specs.Runs.{Comes}
use Rattle.tcl_run.proofs.Leads.{at_prog, goes_on, calls_on, calls_passed, finds_none_on}
use Rattle.tcl_text.specs.declared.integer.Integers.{Integers}
use Rattle.tcl_tree.specs.Own.{Own}
use Rattle.tcl_calls.specs.Asking.{GoesOn}

-- nothing up is here
pub rise_zero : (q : Path) → rise 0 q ≡ Some q
rise_zero [] = refl
rise_zero (x ∷ q) =
    let d : nat_eq 0 (suc (length q)) ≡ false = grind (arith, nat_tests) in
    ap (λ b. rejoined x (rise 0 q) b) d ∙ ap (λ o. rejoined x o false) (rise_zero q)

module _ {S : Type 0} (goes : Going S) (style : Integers) where
  -- an instruction by itself
  pub inner_goes : {T U : Tree Own} {o u : S} {p : Place} (i : Instr) (e : Reply) → Comes goes (language style) T o p (program style i) U u e → GoesOn goes style T o p (go i) U u e
  inner_goes i (Completed c) t = λ k V z r s. goes_on {i = i} t s
  inner_goes i (Stop n m) t = λ k. passed tt t
  inner_goes i (Exit n) t = λ k. passed tt t
  inner_goes i (Cut c) t = λ k. passed tt t

  -- what an interpreter asks of itself
  pub serve_goes : {T U : Tree Own} {o u : S} {p : Place} (entry : Entry) (e : Reply) → Comes goes (language style) T o p (serve style entry) U u e → GoesOn goes style T o p (go (Serve entry)) U u e
  serve_goes entry e t = inner_goes (Serve entry) e t

  -- a call of the interpreter so many levels up and these names down, which was told the end that came of it
  pub call_goes : {T U : Tree Own} {o u v w : S} {m : Node Own} {s : Reply} (p : Place) (n : ℕ) (down : Path) (i : Entry) (lost : Completion) (a : Place) (r : Reply) → rise_to (Some n) p ≡ Some a → T (a ++ down) ≡ Some m →
      Enters goes T o p n a down i u → Comes goes (language style) T u (a ++ down) (serve style i) U v s → r ≡ returned T U (Some n) p down s → Returns goes U v p n a down s r w → GoesOn goes style T o p (λ k. call (Some n) down i lost (finished k)) U w r
  call_goes {U = U} {v = v} {w} {s = s} p n down i lost a (Completed c) e there x t f y = λ k V z r g. calls_on a e there x t (sym f) (subst (λ (l : Reply). Returns goes U v p n a down s l w) f y) g
  call_goes p n down i lost a (Stop l k) e there x t f y = λ h. calls_passed a e there x t (sym f) tt y
  call_goes p n down i lost a (Exit l) e there x t f y = λ k. calls_passed a e there x t (sym f) tt y
  call_goes p n down i lost a (Cut l) e there x t f y = λ k. calls_passed a e there x t (sym f) tt y

  -- a call of one that isn't there
  pub lost_goes : (T : Tree Own) (o u : S) (p : Place) (n : ℕ) (down : Path) (i : Entry) (lost : Completion) (a : Place) (r : Reply) → rise_to (Some n) p ≡ Some a → T (a ++ down) ≡ None → r ≡ Completed lost → Misses goes T o p n down i r u →
      GoesOn goes style T o p (λ k. call (Some n) down i lost (finished k)) T u r
  lost_goes T o u p n down i lost a (Completed c) e gone f y = λ k V z r g. finds_none_on a e gone (subst (λ (l : Reply). Misses goes T o p n down i l u) f y) (let same : c ≡ lost = cc in at_prog (ap k (sym same)) g)
  lost_goes T o u p n down i lost a (Stop l m) e gone f y = let x : Stop l m ≡ Completed lost = f in absurd cc
  lost_goes T o u p n down i lost a (Exit l) e gone f y = let x : Exit l ≡ Completed lost = f in absurd cc
  lost_goes T o u p n down i lost a (Cut c) e gone f y = let x : Cut c ≡ Completed lost = f in absurd cc
