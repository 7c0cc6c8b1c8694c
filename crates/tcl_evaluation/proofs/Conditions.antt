-- What expressions, conditions and the commands with conditions come to.
use Rattle.std.proofs.Common.{◌≡◌, ℕ, pos, ◌<◌, ◌≤◌, Bool, true, false, List, [], ◌∷◌, ◌++◌, length, Option, Some, None, refl, sym, ap, subst, arith}
use Rattle.std.specs.Prelude.{Result, Ok, Err, MatchResult, codes}
use Rattle.tcl_core.specs.Endings.{Completion, Reply, ok}
use Rattle.tcl_core.specs.Endings.Reply.{Completed, Stop, Exit, Cut}
use Rattle.tcl_core.specs.Runs.{Ending}
use Rattle.tcl_core.specs.Paths.{Text, Path}
use Rattle.tcl_core.specs.Programs.Prog.{done, exit, act, go, inside, call, wait}
use Rattle.tcl_run.proofs.Proceeding.{completed, passed}
use Rattle.tcl_core.specs.Trees.{Tree}
use Rattle.tcl_expr.specs.Expressions.{expression_of}
use Rattle.tcl_expr.specs.Faults.{message_of as expression_message}
use Rattle.tcl_expression_evaluation.specs.Computations.{Computation, value, substitute}
use Rattle.tcl_expression_evaluation.specs.Steps.{from}
use Rattle.tcl_expr.specs.declared.tree.ExprTree.{ExprTree}
use Rattle.tcl_expr.specs.declared.tree.Node.{Node}
use Rattle.tcl_language.specs.Control.{after_body}
use Rattle.tcl_language.specs.Expressions.{computed, expression, condition, turn, expr, Branches, branches_of, if_first, runs_branches, first_true, runs_last}
use Rattle.tcl_language.specs.Faults.{wrong_args}
use Rattle.tcl_language.specs.Instructions.{Program, either, fits, or_fails, too_long}
use Rattle.tcl_language.specs.Instructions.Instr.{Script, Parts, Expression}
use Rattle.tcl_run.specs.Language.{language}
use Rattle.tcl_language.specs.Scripts.{script, parts}
use Rattle.tcl_language.specs.Words.{concat}
use Rattle.tcl_expression_evaluation.specs.Apply.{truth}
use Rattle.tcl_expression_evaluation.specs.Messages.{message_of as operator_message}
use Rattle.tcl_expression_evaluation.specs.declared.fault.OperatorFault.{OperatorFault}
use Rattle.tcl_parser.specs.Words.{WordRead}
use Rattle.tcl_run.specs.declared.interruption.Interruption.{Interruption}
use Rattle.tcl_run.specs.declared.interruption.Interruption.TheVariants as interruption
use Rattle.tcl_run.specs.Ends.{Breaks, Gave, IfRan, Interrupts, IsFailure, Stays, failing}
use Rattle.tcl_run.specs.Runs.{IsAt, Proceeds, Ways}
use Rattle.tcl_run.proofs.Endings.{Breaks-both, breaks}
use Rattle.tcl_run.proofs.Proceeding.{at_prog, at_reply, goes_on, goes_done, outgrows, reads_on, read_fails, stopped}
use Rattle.tcl_text.specs.declared.integer.Integers.{Integers}
use Rattle.tcl_tree.specs.Own.{Own}
use Rattle.tcl_tree.specs.TreeOf.{tree_of}
use Rattle.tcl_tree.specs.declared.tree.Place.{Place as TablePlace}
use Rattle.tcl_tree.specs.declared.tree.Tree.{Tree as Table}
use Rattle.tcl_calls.specs.Expressions.{IsKept, IsRefused, settles}
use Rattle.tcl_calls.specs.Turns.{After, EndsIn, Goes, Leaves, Turns}
use Rattle.tcl_calls.specs.Words.{EndsBy}
use Rattle.tcl_evaluation.proofs.Steps
use Rattle.tcl_evaluation.specs.Conditional.{TurnGoes}

-- an error goes no further
pub failing_stays : (text : List ℕ) (e : Reply) → e ≡ Completed (failing text) → Stays (Some e)
failing_stays text e h = subst (λ (x : Reply). Stays (Some x)) (sym h) (by (fits text) text)
  where
    by : (b : Bool) (text : List ℕ) → Stays (Some (Completed (either b (Rattle.tcl_core.specs.Endings.error text) too_long)))
    by true text = λ k. refl
    by false text = λ k. refl

pub failure_stays : {A F : Type 0} (message : F → List ℕ) (read : Result A F) (e : Reply) → IsFailure message read e → Stays (Some e)
failure_stays message (Ok a) e h = elim h [ ]
failure_stays message (Err f) e h = failing_stays (message f) e h

-- the same text in another style that is the same
pub kept_in_style : (s style : Integers) (text : Text) (kept : ExprTree) → s ≡ style → IsKept s text kept → IsKept style text kept
kept_in_style s style text kept same k = subst (λ (x : Integers). IsKept x text kept) same k

-- the same of one that is borrowed
pub kept_behind : (s style : Integers) (text : Text) (kept lent : ExprTree) → lent ≡ kept → s ≡ style → IsKept s text kept → IsKept style text lent
kept_behind s style text kept lent e same k = subst (λ (x : ExprTree). IsKept style text x) (sym e) (kept_in_style s style text kept same k)

pub kept_as : (s style : Integers) (t text : Text) (kept : ExprTree) → s ≡ style → t ≡ text → IsKept s t kept → IsKept style text kept
kept_as s style t text kept same e k = subst (λ (x : Text). IsKept style x kept) e (kept_in_style s style t kept same k)

pub kept_as_behind : (s style : Integers) (t text : Text) (kept lent : ExprTree) → lent ≡ kept → s ≡ style → t ≡ text → IsKept s t kept → IsKept style text lent
kept_as_behind s style t text kept lent b same e k = subst (λ (x : ExprTree). IsKept style text x) (sym b) (kept_as s style t text kept same e k)

-- and one that is no expression
pub misread_in : (s style : Integers) (text : Text) (e : Reply) → s ≡ style → IsFailure (expression_message text) (expression_of s text) e → IsFailure (expression_message text) (expression_of style text) e
misread_in s style text e same h = subst (λ (x : Integers). IsFailure (expression_message text) (expression_of x text) e) same h

pub misread_as : (s style : Integers) (t text : Text) (e : Reply) → s ≡ style → t ≡ text → IsFailure (expression_message t) (expression_of s t) e → IsFailure (expression_message text) (expression_of style text) e
misread_as s style t text e same is h = subst (λ (x : Text). IsFailure (expression_message x) (expression_of style x) e) is (misread_in s style t e same h)

module _ {S : Type 0} {ways : Ways S} (style : Integers) where
  -- ## Expressions

  pub part_stays : {T U : Tree Own} {o u : S} {p : Path} (part : WordRead) (next : Text → Computation) (k : Text → Program) (e : Ending) → Stays e →
      Proceeds ways (language style) T o p (parts part.parts [] []) U u e → Proceeds ways (language style) T o p (computed (substitute part next) k) U u e
  part_stays part next k e s t = Steps.goes_stays style {i = Parts part.parts [] []} (λ v. computed (next v) k) e s t

  pub is_refused : {T : Tree Own} {o : S} {p : Path} (c : Computation) (k : Text → Program) (e : Reply) → IsRefused c e → Proceeds ways (language style) T o p (computed c k) T o (Some e)
  is_refused c k e h = at_prog (ap (λ (x : Computation). computed x k) h.1) (at_reply h.2 completed)

  pub ends_by : {T : Tree Own} {o : S} {p : Path} (x : Program) (e : Reply) → EndsBy x e → Proceeds ways (language style) T o p x T o (Some e)
  ends_by (done c) e h = at_reply h completed
  ends_by (exit n) e h = elim h [ ]
  ends_by (act d k) e h = elim h [ ]
  ends_by (go i k) e h = elim h [ ]
  ends_by (inside b i k) e h = elim h [ ]
  ends_by (call n down i lost k) e h = elim h [ ]
  ends_by (wait w k) e h = elim h [ ]

  -- a part is wanted
  pub wants_part : {T V : Tree Own} {o z : S} {p : Path} {r : Ending} (s : Integers) (nodes : List Node) (n m : ℕ) (given more : List Text) (part : WordRead) → s ≡ style →
      from s nodes n given ≡ substitute part (λ v. from s nodes m (more ++ v ∷ [])) → Proceeds ways (language style) T o p (computed (substitute part (λ v. from style nodes m (more ++ v ∷ []))) (settles style)) V z r →
      Proceeds ways (language style) T o p (computed (from style nodes n given) (settles style)) V z r
  wants_part s nodes n m given more part same e t =
      at_prog (ap (λ (c : Computation). computed c (settles style)) (subst (λ (x : Integers). from x nodes n given ≡ substitute part (λ v. from x nodes m (more ++ v ∷ []))) same e)) t

  -- everything is computed
  pub is_value : {T : Tree Own} {o : S} {p : Path} (s : Integers) (nodes : List Node) (n : ℕ) (given : List Text) (v : Text) (e : Reply) → s ≡ style →
      from s nodes n given ≡ value v → EndsBy (settles s v) e → Proceeds ways (language style) T o p (computed (from style nodes n given) (settles style)) T o (Some e)
  is_value s nodes n given v e same f h =
      at_prog (ap (λ (c : Computation). computed c (settles style)) (subst (λ (x : Integers). from x nodes n given ≡ value v) same f)) (ends_by (settles style v) e (subst (λ (x : Integers). EndsBy (settles x v) e) same h))

  pub misread : {T : Tree Own} {o : S} {p : Path} (text : Text) (e : Reply) → IsFailure (expression_message text) (expression_of style text) e → Proceeds ways (language style) T o p (expression style text) T o (Some e)
  misread text e h = read_fails (expression_message text) (expression_of style text) _ e h

  -- ## expr

  pub expr_long : {T : Tree Own} {o : S} {p : Path} {r : Reply} (args : List Text) → 1 ≤ length args → fits (concat args) ≡ false → r ≡ Completed too_long → Proceeds ways (language style) T o p (expr args) T o (Some r)
  expr_long [] h f e = absurd (omega arith)
  expr_long (a ∷ args) h f e = outgrows (concat (a ∷ args)) (λ text. go (Expression text) done) f e

  pub expr_none : {T : Tree Own} {o : S} {p : Path} {r : Reply} (args : List Text) → length args < 1 → r ≡ Completed (failing (wrong_args (codes "expr arg ?arg ...?"))) → Proceeds ways (language style) T o p (expr args) T o (Some r)
  expr_none [] h e = at_reply e completed
  expr_none (a ∷ args) h e = absurd (omega arith)

  -- ## Conditions

  pub test_stays : {T U : Tree Own} {o u : S} {p : Path} (text : Text) (k : Bool → Program) (e : Ending) → Stays e →
      Proceeds ways (language style) T o p (expression style text) U u e → Proceeds ways (language style) T o p (condition style text k) U u e
  test_stays text k e s t = Steps.goes_stays style {i = Expression text} (λ v. or_fails operator_message (truth style v) k) e s t

  pub test_goes : {T U V : Tree Own} {o u z : S} {p : Path} {r : Ending} (text : Text) (k : Bool → Program) (c : Completion) (given : Text) (holds : Bool) → c.code ≡ pos 0 → c.text ≡ given → truth style given ≡ Ok holds →
      Proceeds ways (language style) T o p (expression style text) U u (Some (Completed c)) → Proceeds ways (language style) U u p (k holds) V z r → Proceeds ways (language style) T o p (condition style text k) V z r
  test_goes text k c given holds a b h t s = Steps.goes_text style {i = Expression text} (λ v. or_fails operator_message (truth style v) k) c given a b t (reads_on operator_message k h s)

  pub test_refused : {T U : Tree Own} {o u : S} {p : Path} (text : Text) (k : Bool → Program) (c : Completion) (given : Text) (e : Reply) → c.code ≡ pos 0 → c.text ≡ given → IsFailure operator_message (truth style given) e →
      Proceeds ways (language style) T o p (expression style text) U u (Some (Completed c)) → Proceeds ways (language style) T o p (condition style text k) U u (Some e)
  test_refused text k c given e a b h t = Steps.goes_text style {i = Expression text} (λ v. or_fails operator_message (truth style v) k) c given a b t (read_fails operator_message (truth style given) k e h)

  -- the expression has its value, and what asks whether it holds is given up
  pub test_stopped : {T U V : Tree Own} {o u : S} {p : Path} (text : Text) (k : Bool → Program) (c : Completion) (given : Text) → c.code ≡ pos 0 → c.text ≡ given →
      Proceeds ways (language style) T o p (expression style text) U u (Some (Completed c)) → Proceeds ways (language style) T o p (condition style text k) V u None
  test_stopped text k c given a b t = Steps.goes_text style {i = Expression text} (λ v. or_fails operator_message (truth style v) k) c given a b t stopped

  pub test_misread : {T : Tree Own} {o : S} {p : Path} (text : Text) (k : Bool → Program) (e : Reply) → IsFailure (expression_message text) (expression_of style text) e → Proceeds ways (language style) T o p (condition style text k) T o (Some e)
  test_misread text k e h = test_stays text k (Some e) (failure_stays (expression_message text) (expression_of style text) e h) (misread text e h)

  -- ## if

  pub if_none : {T : Tree Own} {o : S} {p : Path} {r : Reply} (args : List Text) → branches_of args ≡ None →
      r ≡ Completed (failing (wrong_args (codes "if expr1 ?then? body1 ?elseif expr2 ?then? body2 ...? ?else? ?bodyN?"))) → Proceeds ways (language style) T o p (if_first style args) T o (Some r)
  if_none args none e = at_prog (ap (runs_branches style) none) (at_reply e completed)

  pub if_begins : {T V : Tree Own} {o z : S} {p : Path} {r : Ending} (args : List Text) (b : Branches) → branches_of args ≡ Some b →
      Proceeds ways (language style) T o p (first_true style b.tests b.last) V z r → Proceeds ways (language style) T o p (if_first style args) V z r
  if_begins args b some t = at_prog (ap (runs_branches style) some) t

  pub last_runs : {T V : Tree Own} {o z : S} {p : Path} {r : Ending} (last : Option Text) (body : Text) → last ≡ Some body →
      Proceeds ways (language style) T o p (script body) V z r → Proceeds ways (language style) T o p (first_true style [] last) V z r
  last_runs last body is t = at_prog (ap runs_last is) (goes_done {i = Script body} t)

  pub last_none : {T : Tree Own} {o : S} {p : Path} {r : Reply} (last : Option Text) → last ≡ None → r ≡ Completed (ok []) → Proceeds ways (language style) T o p (first_true style [] last) T o (Some r)
  last_none last is e = at_prog (ap runs_last is) (at_reply e completed)

-- ## Between the scripts of a turn

-- the loop ends as its script did, or is given up with it
abbrev pub LeavesSo : After → Ending → Type 0
LeavesSo after (Some r) = Leaves after r
LeavesSo after None = Unit {0}

leaves_so : (after : After) (i : Interruption) → Interrupts i (Leaves after) → Breaks i (LeavesSo after)
leaves_so after i l = breaks i (Leaves after) (LeavesSo after) (λ e x. x) tt l

pub ended_in : (ended : Result Text Interruption) (c : Completion) (P : Ending → Type 0) → EndsIn ended c → IfRan ended P → P (Some (Completed c))
ended_in (Ok text) c P e p = subst (λ (x : Completion). P (Some (Completed x))) (sym e) p
ended_in (Err interruption.Memory) c P e p = elim e [ ]
ended_in (Err (interruption.Completed d)) c P e p = subst (λ (x : Completion). P (Some (Completed x))) (sym e) p
ended_in (Err (interruption.Stopped s)) c P e p = elim e [ ]
ended_in (Err (interruption.Exited n)) c P e p = elim e [ ]
ended_in (Err (interruption.Cut x)) c P e p = elim e [ ]

-- a script of a turn after which the loop ends so
pub turned_err : (after : After) (ended : Result Text Interruption) (i : Interruption) (P : Ending → Type 0) → Turns after ended (Err i) → IfRan ended P → Breaks i (λ e. P e × LeavesSo after e)
turned_err after ended i P h p = Breaks-both i P (LeavesSo after) _ (λ e x y. (x, y)) (subst (λ (x : Result Text Interruption). IfRan x P) h.0 p) (leaves_so after i h.1)

-- and one after which it goes on, or is over
pub turned_ok : (after : After) (ended : Result Text Interruption) (on b : Bool) (P : Ending → Type 0) → Turns after ended (Ok on) → on ≡ b → IfRan ended P → (c : Completion) × P (Some (Completed c)) × Goes after c b
turned_ok after ended on b P h same p = (h.0, ended_in ended h.0 P h.1 p, subst (Goes after h.0) same h.2)

-- what comes of a script of a turn
pub turned : (after : After) (ended : Result Text Interruption) (r : Result Bool Interruption) (P : Ending → Type 0) (Q : Bool → Type 0) (R : Ending → Type 0) → IfRan ended P → Turns after ended r →
    ((c : Completion) (on : Bool) → P (Some (Completed c)) → Goes after c on → Q on) → ((e : Ending) → P e → LeavesSo after e → R e) → MatchResult r Q (λ i. Breaks i R)
turned after ended (Ok on) P Q R p h k l = k h.0 on (ended_in ended h.0 P h.1 p) h.2
turned after ended (Err i) P Q R p h k l = Breaks-both i P (LeavesSo after) R l (subst (λ (x : Result Text Interruption). IfRan x P) h.0 p) (leaves_so after i h.1)

-- a turn whose body ended so
pub turn_ends : {S : Type 0} (ways : Ways S) (old new : Table) (o z : S) (place : TablePlace) (kept : ExprTree) (body : Text) (c : Completion) (on : Bool) →
    ((p : Path) (style : Integers) → IsAt old place p style → (text : Text) → IsKept style text kept → (k : Completion → Program) (V : Tree Own) (y : S) (e : Ending) →
    Proceeds ways (language style) (tree_of new) z p (k c) V y e → Proceeds ways (language style) (tree_of old) o p (turn style text body k) V y e) →
    Goes after_body c on → TurnGoes ways old o place kept body new z on
turn_ends ways old new o z place kept body c true runs g = λ p style at text is more V y e t. runs p style at text is (λ d. after_body d.code d more) V y e (at_prog (g more) t)
turn_ends ways old new o z place kept body c false runs g = λ p style at text is more. runs p style at text is (λ d. after_body d.code d more) (tree_of new) z (Some (Completed (ok []))) (at_prog (g more) completed)

module _ {S : Type 0} {ways : Ways S} where
  -- a body that ended the loop, or was given up
  pub leaves_after : {T U : Tree Own} {o u : S} {p : Path} (style : Integers) (after : After) (body : Text) (more : Program) (e : Ending) → LeavesSo after e →
      Proceeds ways (language style) T o p (script body) U u e → Proceeds ways (language style) T o p (go (Script body) (λ c. after c.code c more)) U u e
  leaves_after style after body more (Some (Completed c)) l t = goes_on {i = Script body} t (at_prog (l more) completed)
  leaves_after style after body more (Some (Stop n m)) l t = passed tt t
  leaves_after style after body more (Some (Exit n)) l t = passed tt t
  leaves_after style after body more (Some (Cut c)) l t = passed tt t
  leaves_after style after body more None l t = passed tt t

-- what came of telling whether a condition holds, or of what wanted memory for it
pub tested : (read : Result Bool OperatorFault) (r : Result Bool Interruption) (Q : Bool → Type 0) (R : Ending → Type 0) → Gave operator_message read r → ((b : Bool) → read ≡ Ok b → Q b) → ((e : Reply) → IsFailure operator_message read e → R (Some e)) → R None →
    MatchResult r Q (λ i. Breaks i R)
tested read (Ok b) Q R h k l n = k b h
tested read (Err i) Q R h k l n = breaks i (IsFailure operator_message read) R l n h
