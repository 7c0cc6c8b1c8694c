-- What expressions compute that were read.
use Rattle.std.proofs.Common.{◌≡◌, ℤ, pos, ◌≤◌, Bool, true, false, List, [], ◌∷◌, length, Some, refl, sym, ap, subst, arith}
use Rattle.std.specs.Prelude.{Result, Ok, Err}
use Rattle.std.specs.Fmt.{signed_decimal}
use Rattle.tcl_core.specs.Endings.{Completion, ok}
use Rattle.tcl_core.specs.Endings.Reply.{Completed}
use Rattle.tcl_core.specs.Runs.{Ending}
use Rattle.tcl_core.specs.Paths.{Text, Path}
use Rattle.tcl_core.specs.Programs.Prog.{done, go}
use Rattle.tcl_run.proofs.Proceeding.{completed}
use Rattle.tcl_core.specs.Trees.{Tree, Node as TreeNode}
use Rattle.tcl_expr.specs.Faults.{message_of as expression_message}
use Rattle.tcl_expression_evaluation.specs.Computations.{Computation, value, refused, substitute, computation_of, settled}
use Rattle.tcl_expression_evaluation.specs.Steps.{from}
use Rattle.tcl_expr.specs.declared.tree.ExprTree.{ExprTree}
use Rattle.tcl_expr.specs.declared.tree.Node.{Node}
use Rattle.tcl_language.specs.Expressions.{computed, expression, expr}
use Rattle.tcl_language.specs.Instructions.{Program, fits}
use Rattle.tcl_language.specs.Instructions.Instr.{Parts, Expression}
use Rattle.tcl_run.specs.Language.{language}
use Rattle.tcl_language.specs.Scripts.{parts}
use Rattle.tcl_language.specs.Words.{concat}
use Rattle.tcl_expression_evaluation.specs.Messages.{message_of as operator_message}
use Rattle.tcl_expression_evaluation.specs.AtHand.{comes_to, operand_value, short_text, text_read, IsNumberAtHand}
use Rattle.tcl_expression_evaluation.proofs.UnderWay.{leads}
use Rattle.tcl_parser.specs.Words.{WordRead}
use Rattle.tcl_parser.specs.declared.script.Part.{Part}
use Rattle.tcl_parser.specs.declared.script.Part.TheVariants.{Element, EndElement, Literal, Script, Variable}
use Rattle.tcl_frames.specs.Chain.{read}
use Rattle.tcl_frames.specs.declared.fault.FrameFault.{FrameFault}
use Rattle.tcl_run.specs.Runs.{Proceeds, Ways}
use Rattle.tcl_run.proofs.Proceeding.{at_prog, at_reply, goes_done, grows, reads_on}
use Rattle.tcl_text.specs.declared.integer.Integers.{Integers}
use Rattle.tcl_value.specs.Reading.{int_of}
use Rattle.tcl_tree.specs.Own.{Own}
use Rattle.std.proofs.lemmas.Option.{same_Some}
use Rattle.tcl_calls.specs.Expressions.{IsKept, settles}
use Rattle.tcl_evaluation.proofs.Steps

module _ {S : Type 0} {ways : Ways S} (style : Integers) where
  pub part_goes : {T U V : Tree Own} {o u z : S} {p : Path} {r : Ending} (part : WordRead) (next : Text → Computation) (k : Text → Program) (c : Completion) (text : Text) → c.code ≡ pos 0 → c.text ≡ text →
      Proceeds ways (language style) T o p (parts part.parts [] []) U u (Some (Completed c)) → Proceeds ways (language style) U u p (computed (next text) k) V z r → Proceeds ways (language style) T o p (computed (substitute part next) k) V z r
  part_goes part next k c text a b t s = Steps.goes_text style {i = Parts part.parts [] []} (λ v. computed (next v) k) c text a b t s

  -- an expression that was read is computed
  pub computes_kept : {T V : Tree Own} {o z : S} {p : Path} {r : Ending} (text : Text) (kept : ExprTree) → IsKept style text kept →
      Proceeds ways (language style) T o p (computed (from style kept.nodes.items 0 []) (settles style)) V z r → Proceeds ways (language style) T o p (expression style text) V z r
  computes_kept text kept k t = reads_on (expression_message text) (λ tree. computed (computation_of style tree) (settles style)) k.1 (at_prog (ap (λ (c : Computation). computed c (settles style)) (sym k.2)) t)

  variable_value : {T : Tree Own} {o : S} {p : Path} {n : TreeNode Own} (name held v : Text) (short : Bool) → T p ≡ Some n → read n.own.chain.frames name ≡ Ok held → fits held ≡ short → short_text short held ≡ Some v →
      Proceeds ways (language style) T o p (parts (Variable name ∷ []) [] []) T o (Some (Completed (ok v)))
  variable_value name held v true there e f h = at_reply (ap (λ (x : Text). Completed (ok x)) (sym (same_Some held v h))) (Steps.variable_goes style name held [] [] [] there e f completed)
  variable_value name held v false there e f h = absurd (cc)

  literal_value : {T : Tree Own} {o : S} {p : Path} (text v : Text) (short : Bool) → fits text ≡ short → short_text short text ≡ Some v →
      Proceeds ways (language style) T o p (parts (Literal text ∷ []) [] []) T o (Some (Completed (ok v)))
  literal_value text v true f h = at_reply (ap (λ (x : Text). Completed (ok x)) (sym (same_Some text v h))) (Steps.literal_goes style text [] [] [] f completed)
  literal_value text v false f h = absurd (cc)

  -- an operand at hand comes to its value
  operand_goes : {T : Tree Own} {o : S} {p : Path} {n : TreeNode Own} (ps : List Part) (v : Text) → T p ≡ Some n → operand_value n.own.chain.frames ps ≡ Some v →
      Proceeds ways (language style) T o p (parts ps [] []) T o (Some (Completed (ok v)))
  operand_goes [] v there h = at_reply (ap (λ (x : Text). Completed (ok x)) (sym (same_Some [] v h))) completed
  operand_goes (Literal text ∷ []) v there h = literal_value text v (fits text) refl h
  operand_goes {T} {o} {p} {n} (Variable name ∷ []) v there h = by (read n.own.chain.frames name) refl h
    where
      by : (held : Result Text FrameFault) → read n.own.chain.frames name ≡ held → text_read held ≡ Some v → Proceeds ways (language style) T o p (parts (Variable name ∷ []) [] []) T o (Some (Completed (ok v)))
      by (Ok held) e k = variable_value name held v (fits held) there e refl k
      by (Err fault) e k = absurd (cc)
  operand_goes (Literal text ∷ q ∷ ps) v there h = absurd (cc)
  operand_goes (Variable name ∷ q ∷ ps) v there h = absurd (cc)
  operand_goes (Element name ∷ ps) v there h = absurd (cc)
  operand_goes (EndElement ∷ ps) v there h = absurd (cc)
  operand_goes (Script text ∷ ps) v there h = absurd (cc)

  -- a computation whose parts are texts and variables alone, each of which holds a value, goes on with what it comes to
  pub at_hand : {T V : Tree Own} {o z : S} {p : Path} {r : Ending} {n : TreeNode Own} (c : Computation) (t : Text) (k : Text → Program) → T p ≡ Some n → comes_to n.own.chain.frames c ≡ Some t →
      Proceeds ways (language style) T o p (k t) V z r → Proceeds ways (language style) T o p (computed c k) V z r
  at_hand {T} {V} {o} {z} {p} {r} {n} (value v) t k there h s = at_prog (ap k (same_Some v t h)) s
  at_hand {T} {V} {o} {z} {p} {r} {n} (refused f) t k there h s = absurd (cc)
  at_hand {T} {V} {o} {z} {p} {r} {n} (substitute part next) t k there h s =
      let l = leads n.own.chain.frames part.parts (λ v. comes_to n.own.chain.frames (next v)) t h in
      part_goes part next k (ok l.value) l.value refl refl (operand_goes part.parts l.value there l.is)
      (at_hand (next l.value) t k there l.on s)

  -- a computation that comes to a number settles in that number in decimal
  pub number_settles : {T : Tree Own} {o : S} {p : Path} {n : TreeNode Own} (c : Computation) (t : Text) (m : ℤ) (v : Text) → T p ≡ Some n → comes_to n.own.chain.frames c ≡ Some t → int_of style t ≡ Ok m → v ≡ signed_decimal m →
      Proceeds ways (language style) T o p (computed c (settles style)) T o (Some (Completed (ok v)))
  number_settles c t m v there h reads e = at_hand c t (settles style) there h (reads_on operator_message (λ result. done (ok result)) (ap (settled t) reads) (at_reply (ap (λ (x : Text). Completed (ok x)) e) completed))

  -- an expression whose operands are numbers at hand comes to its number in decimal
  pub number_at_hand : {T : Tree Own} {o : S} {p : Path} {n : TreeNode Own} (s : Integers) (nodes : List Node) (m : ℤ) (v : Text) → s ≡ style → T p ≡ Some n → IsNumberAtHand n.own.chain.frames s nodes m → v ≡ signed_decimal m →
      Proceeds ways (language style) T o p (computed (from style nodes 0 []) (settles style)) T o (Some (Completed (ok v)))
  number_at_hand {T} {o} {p} {n} s nodes m v same there h e =
      let w = subst (λ (x : Integers). IsNumberAtHand n.own.chain.frames x nodes m) same h in
      number_settles (from style nodes 0 []) w.0 m v there w.1 w.2 e

  pub expr_runs : {T V : Tree Own} {o z : S} {p : Path} {r : Ending} (args : List Text) → 1 ≤ length args → fits (concat args) ≡ true →
      Proceeds ways (language style) T o p (expression style (concat args)) V z r → Proceeds ways (language style) T o p (expr args) V z r
  expr_runs [] h f t = absurd (omega arith)
  expr_runs (a ∷ args) h f t = grows (concat (a ∷ args)) (λ text. go (Expression text) done) f (goes_done {i = Expression (concat (a ∷ args))} t)
