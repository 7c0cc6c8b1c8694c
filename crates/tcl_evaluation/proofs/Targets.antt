-- What evaluations come to that others ask for.
use Rattle.std.proofs.Common.{◌≡◌, ℕ, Bool, List, [], ◌++◌, Some, None, refl, sym, ◌∙◌, ap, subst}
use Rattle.std.specs.Prelude.{Result, Ok, Err}
use Rattle.tcl_core.specs.Runs.{Ending, returned}
use Rattle.tcl_core.specs.Paths.{Text, Path, Place, rise_to}
use Rattle.tcl_core.specs.Endings.{Completion, Reply, error, ok, settle}
use Rattle.tcl_core.specs.Endings.Reply.{Completed, Stop, Exit, Cut}
use Rattle.tcl_core.specs.Entries.{Entry}
use Rattle.tcl_core.specs.Entries.Entry.{Eval, CallWords}
use Rattle.tcl_core.specs.Programs.{blocked, is_deep}
use Rattle.tcl_core.specs.Programs.Prog.{done, go}
use Rattle.tcl_core.specs.Trees.{Tree, Node, depth_of, effect}
use Rattle.tcl_core.specs.Trees.What.{Nested, Unnested}
use Rattle.tcl_flow.specs.Stopping as stopping
use Rattle.tcl_flow.specs.View.{completion_of}
use Rattle.tcl_language.specs.Faults.{lost_alias}
use Rattle.tcl_language.specs.Instructions.{Instr, Program}
use Rattle.tcl_language.specs.Instructions.Instr.{Script, Call, Serve, Target, Hidden}
use Rattle.tcl_language.specs.Interpreters.{call_alias, no_interpreter}
use Rattle.tcl_run.specs.Language.{language}
use Rattle.tcl_language.specs.Scripts.{script}
use Rattle.tcl_language.specs.Faults.{invalid_command, invalid_hidden}
use Rattle.tcl_language.specs.Table.{called, dispatch, hidden_at, program, serve, some_words}
use Rattle.tcl_interpreter.specs.declared.command.Command.{Command}
use Rattle.tcl_interpreter.specs.declared.command.Command.TheVariants as command
use Rattle.tcl_run.specs.declared.interruption.Interruption.{Interruption}
use Rattle.tcl_run.specs.declared.interruption.Interruption.TheVariants as interruption
use Rattle.tcl_run.specs.Ends.{IfEnded, IfRan, Interrupts, cause_of, failing, too_deep_at}
use Rattle.tcl_run.specs.Outsides.{Enters, Misses, Returns}
use Rattle.tcl_run.specs.Runs.{Counts, IsAt, IsLoss, IsSteady, IsThere, Proceeds, ProceedsAt, ProceedsIn, RefusesStep, Ways}
use Rattle.tcl_run.proofs.Endings.{IfEnded-both, IfEnded-more, IfRan-more, ended_so, memory_err, ran}
use Rattle.tcl_run.proofs.Proceeding.{at_end, at_finish, at_prog, at_reply, calls_lost, calls_on, calls_passed, charges, charge_refused, completed, finds_none, finds_none_on, goes_on, goes_done, nests_done, nest_refused, passed, stopped, stopped_by}
use Rattle.tcl_run.proofs.Steady.{stands, steady_holds}
use Rattle.tcl_text.specs.declared.integer.Integers.{Integers}
use Rattle.tcl_tree.proofs.CoreLemmas.{tree_there}
use Rattle.tcl_tree.specs.Commands.{AliasView}
use Rattle.tcl_tree.specs.Gone.{Holds}
use Rattle.tcl_tree.specs.Own.{Own}
use Rattle.tcl_tree.specs.Reaching.{Leads as Reached}
use Rattle.tcl_tree.specs.TreeOf.{tree_of, Names}
use Rattle.tcl_tree.specs.declared.tree.Tree.{Tree as Table}
use Rattle.tcl_tree.specs.declared.tree.Place.{Place as TablePlace}
use Rattle.tcl_tree.specs.declared.tree.places.Reach.TheVariants as reach
use Rattle.tcl_calls.specs.Carrying.{ComesBack, EndedBy, Settles}
use Rattle.tcl_calls.specs.Asking.{asks_below}
use Rattle.tcl_calls.proofs.Carried.{ended_by}
use Rattle.tcl_evaluation.specs.View.{AsksBelow, GoesOn, targeted, unhidden}
use Rattle.tcl_evaluation.specs.Waiting.{CallsThere, FindsNobody, calls}

-- what there is is done, whatever is told where there is none
pub same_dispatch : (style : Integers) (word : Text) (args : List Text) (c : Command) → dispatch style word args invalid_hidden (Some c) ≡ dispatch style word args invalid_command (Some c)
same_dispatch style word args (command.Builtin b) = refl
same_dispatch style word args (command.Procedure p) = refl
same_dispatch style word args (command.Alias a) = refl
same_dispatch style word args command.Child = refl

-- ## How ends are told

-- however far it came
pub came : (r : Result Text Interruption) (P : Ending → Type 0) → IfRan r P → (e : Ending) × P e
came (Ok text) P p = (Some (Completed (ok text)), p)
came (Err interruption.Memory) P p = (None, p)
came (Err (interruption.Completed c)) P p = (Some (Completed (completion_of c.value)), p)
came (Err (interruption.Stopped s)) P p = (Some (stopping.reply_of s), p)
came (Err (interruption.Exited n)) P p = (Some (Exit n), p)
came (Err (interruption.Cut c)) P p = (Some (Cut (cause_of c)), p)

-- the end of an entry where only ok and error may pass: it is given up with the evaluation, or behind one that completed
abbrev pub Settled : Ending → Ending → Type 0
Settled (Some (Completed c)) None = Unit {0}
Settled (Some (Completed c)) (Some r) = r ≡ Completed (settle c)
Settled e f = f ≡ e

pub settled_more : (ended told : Result Text Interruption) (P Q : Ending → Type 0) → IfRan ended P → Settles ended told → ((e f : Ending) → P e → Settled e f → Q f) → IfRan told Q
settled_more (Ok text) told P Q p l k = subst (λ (x : Result Text Interruption). IfRan x Q) (sym l) (k (Some (Completed (ok text))) (Some (Completed (ok text))) p refl)
settled_more (Err interruption.Memory) told P Q p l k = subst (λ (x : Result Text Interruption). IfRan x Q) (sym l) (k None None p refl)
settled_more (Err (interruption.Completed c)) told P Q p l k = ran told (λ e. e ≡ Completed (settle (completion_of c.value))) Q (λ f e. k (Some (Completed (completion_of c.value))) (Some f) p e)
    (k (Some (Completed (completion_of c.value))) None p tt) l
settled_more (Err (interruption.Stopped s)) told P Q p l k = subst (λ (x : Result Text Interruption). IfRan x Q) (sym l) (k (Some (stopping.reply_of s)) (Some (stopping.reply_of s)) p refl)
settled_more (Err (interruption.Exited n)) told P Q p l k = subst (λ (x : Result Text Interruption). IfRan x Q) (sym l) (k (Some (Exit n)) (Some (Exit n)) p refl)
settled_more (Err (interruption.Cut c)) told P Q p l k = subst (λ (x : Result Text Interruption). IfRan x Q) (sym l) (k (Some (Cut (cause_of c))) (Some (Cut (cause_of c))) p refl)

module _ {S : Type 0} {ways : Ways S} (style : Integers) where
  -- ## Targets

  pub target_ends : {T U V W : Tree Own} {o z : S} {p : Path} {r : Ending} (words : List Text) → blocked is_deep T p ≡ None → U ≡ effect p Nested T → W ≡ effect p Unnested V →
      Proceeds ways (language style) U o p (called style words) V z r → Proceeds ways (language style) T o p (targeted words) W z r
  target_ends words free e f t = nests_done {i = Call words} free e f t

  pub target_refused : {T U : Tree Own} {o : S} {p : Path} {r : Reply} (words : List Text) (n : ℕ) → blocked is_deep T p ≡ Some n → U ≡ T → r ≡ too_deep_at n → Proceeds ways (language style) T o p (targeted words) U o (Some r)
  target_refused words n full same e = at_finish same (at_reply e (nest_refused {i = Call words} n full))

  pub unhidden_ends : {T U V W : Tree Own} {o z : S} {p : Path} {r : Ending} (g : Bool) (words : List Text) → blocked is_deep T p ≡ None → U ≡ effect p Nested T → W ≡ effect p Unnested V →
      Proceeds ways (language style) U o p (hidden_at style g words) V z r → Proceeds ways (language style) T o p (unhidden g words) W z r
  unhidden_ends g words free e f t = nests_done {i = Hidden g words} free e f t

  pub unhidden_refused : {T U : Tree Own} {o : S} {p : Path} {r : Reply} (g : Bool) (words : List Text) (n : ℕ) → blocked is_deep T p ≡ Some n → U ≡ T → r ≡ too_deep_at n → Proceeds ways (language style) T o p (unhidden g words) U o (Some r)
  unhidden_refused g words n full same e = at_finish same (at_reply e (nest_refused {i = Hidden g words} n full))

  pub entry_stops : {T U : Tree Own} {o z : S} {p : Path} {r : Reply} (words : List Text) → RefusesStep ways.goes T o p U z r → Proceeds ways (language style) T o p (serve style (CallWords words)) U z (Some r)
  entry_stops words s = charge_refused s

  pub entry_calls : {T U V : Tree Own} {o u z : S} {p : Path} {r : Ending} (words given : List Text) → given ≡ some_words words → Counts ways.goes T o p U u →
      Proceeds ways (language style) U u p (targeted given) V z r → Proceeds ways (language style) T o p (serve style (CallWords words)) V z r
  entry_calls words given same counts t = charges counts (goes_done {i = Target (some_words words)} (at_prog (ap targeted (sym same)) t))

  pub entry_evaluates : {T V : Tree Own} {o z : S} {p : Path} (text : Text) (e f : Ending) → Settled e f → Proceeds ways (language style) T o p (script text) V z e → Proceeds ways (language style) T o p (serve style (Eval text)) V z f
  entry_evaluates text (Some (Completed c)) (Some r) l t = goes_on {i = Script text} t (at_reply l completed)
  entry_evaluates text (Some (Completed c)) None l t = goes_on {i = Script text} t stopped
  entry_evaluates text (Some (Stop n m)) f l t = at_end l (passed tt t)
  entry_evaluates text (Some (Exit n)) f l t = at_end l (passed tt t)
  entry_evaluates text (Some (Cut c)) f l t = at_end l (passed tt t)
  entry_evaluates text None f l t = at_end l (passed tt t)

-- ## Entries

-- the same entry, told otherwise
pub evaluates_there : {S : Type 0} (ways : Ways S) (t u : Table) (o z : S) (place : TablePlace) (x y : Entry) (r : Result Text Interruption) → x ≡ y → ProceedsAt ways t o place (λ style. serve style y) u z r → ProceedsAt ways t o place (λ style. serve style x) u z r
evaluates_there ways t u o z place x y r same h = subst (λ (i : Entry). ProceedsAt ways t o place (λ style. serve style i) u z r) (sym same) h

-- the same program, told otherwise
pub evaluates_same : {S : Type 0} (ways : Ways S) (old new : Table) (o z : S) (place : TablePlace) (x y : Program) (r : Result Text Interruption) → x ≡ y → ProceedsIn ways old o place (λ style. y) new z r → ProceedsIn ways old o place (λ style. x) new z r
evaluates_same ways old new o z place x y r same h = subst (λ (a : Program). ProceedsIn ways old o place (λ style. a) new z r) (sym same) h

-- ## Calls

-- an alias is a call behind which nothing is left
pub alias_is : (a : AliasView) (word : Text) (args : List Text) (up : ℕ) (down : Path) (i : Entry) → up ≡ a.up → down ≡ a.down → i ≡ CallWords (a.words ++ args) → call_alias a word args ≡ calls up down i (failing (lost_alias word)) done
alias_is a word args up down i eu ed ei =
    ap (λ (n : ℕ). calls n a.down (CallWords (a.words ++ args)) (failing (lost_alias word)) done) (sym eu) ∙ ap (λ (d : Path). calls up d (CallWords (a.words ++ args)) (failing (lost_alias word)) done) (sym ed)
    ∙ ap (λ (j : Entry). calls up down j (failing (lost_alias word)) done) (sym ei)

-- nothing is left to do
pub done_on : {S : Type 0} (ways : Ways S) (style : Integers) {T U : Tree Own} {o u : S} {p : Path} (x : (Completion → Program) → Program) (e : Ending) → GoesOn ways style T o p x U u e → Proceeds ways (language style) T o p (x done) U u e
done_on ways style x (Some (Completed c)) g = g done _ _ _ completed
done_on ways style x (Some (Stop n m)) g = g done
done_on ways style x (Some (Exit n)) g = g done
done_on ways style x (Some (Cut c)) g = g done
done_on ways style x None g = g done

module _ {S : Type 0} (ways : Ways S) (style : Integers) where
  -- an instruction by itself
  pub inner_goes : {T U : Tree Own} {o u : S} {p : Place} (i : Instr) (e : Ending) → Proceeds ways (language style) T o p (program style i) U u e → GoesOn ways style T o p (go i) U u e
  inner_goes i (Some (Completed c)) t = λ k V z r s. goes_on {i = i} t s
  inner_goes i (Some (Stop n m)) t = λ k. passed tt t
  inner_goes i (Some (Exit n)) t = λ k. passed tt t
  inner_goes i (Some (Cut c)) t = λ k. passed tt t
  inner_goes i None t = λ k. passed tt t

  -- what an interpreter asks of itself
  pub serve_goes : {T U : Tree Own} {o u : S} {p : Place} (entry : Entry) (e : Ending) → Proceeds ways (language style) T o p (serve style entry) U u e → GoesOn ways style T o p (go (Serve entry)) U u e
  serve_goes entry e t = inner_goes (Serve entry) e t

  -- a call of the interpreter so many levels up and these names down, which was told the end that came of it
  pub call_goes : {T U : Tree Own} {o u v w : S} {m : Node Own} {s : Reply} (p : Place) (n : ℕ) (down : Path) (i : Entry) (lost : Completion) (a : Place) (r : Reply) → rise_to (Some n) p ≡ Some a → T (a ++ down) ≡ Some m →
      Enters ways.goes T o p n a down i u → Proceeds ways (language style) T u (a ++ down) (serve style i) U v (Some s) → r ≡ returned T U (Some n) p down s → Returns ways.goes U v p n a down s r w → GoesOn ways style T o p (calls n down i lost) U w (Some r)
  call_goes {U = U} {v = v} {w} {s = s} p n down i lost a (Completed c) e there x t f y = λ k V z r g. calls_on a e there x t (sym f) (subst (λ (l : Reply). Returns ways.goes U v p n a down s l w) f y) g
  call_goes p n down i lost a (Stop l k) e there x t f y = λ h. calls_passed a e there x t (sym f) tt y
  call_goes p n down i lost a (Exit l) e there x t f y = λ k. calls_passed a e there x t (sym f) tt y
  call_goes p n down i lost a (Cut l) e there x t f y = λ k. calls_passed a e there x t (sym f) tt y

  -- a call of one that isn't there
  pub lost_goes : (T : Tree Own) (o u : S) (p : Place) (n : ℕ) (down : Path) (i : Entry) (lost : Completion) (a : Place) (r : Reply) → rise_to (Some n) p ≡ Some a → T (a ++ down) ≡ None → r ≡ Completed lost → Misses ways.goes T o p n down i r u →
      GoesOn ways style T o p (calls n down i lost) T u (Some r)
  lost_goes T o u p n down i lost a (Completed c) e gone f y = λ k V z r g. finds_none_on a e gone (subst (λ (l : Reply). Misses ways.goes T o p n down i l u) f y) (let same : c ≡ lost = cc in at_prog (ap k (sym same)) g)
  lost_goes T o u p n down i lost a (Stop l m) e gone f y = let x : Stop l m ≡ Completed lost = f in absurd cc
  lost_goes T o u p n down i lost a (Exit l) e gone f y = let x : Exit l ≡ Completed lost = f in absurd cc
  lost_goes T o u p n down i lost a (Cut l) e gone f y = let x : Cut l ≡ Completed lost = f in absurd cc

module _ {S : Type 0} (ways : Ways S) (old new : Table) (o : S) (place : TablePlace) (up : ℕ) (down : Path) (i : Entry) (result : Result Text Interruption) where
  -- where somebody stands, whose program came to that end, of which the outside was told; or it was given up, or its end was lost
  pub calls_there : (u v w : S) (there : TablePlace) (ended : Result Text Interruption) → ((p : Path) → Names old place p → Reached old p up down (reach.There there)) →
      ((p a : Path) → Names old place p → rise_to (Some up) p ≡ Some a → Enters ways.goes (tree_of old) o p up a down i u) → ProceedsAt ways old u there (λ style. serve style i) new v ended →
      IfEnded result (λ r. (p a : Path) (d : ℕ) → Holds new place p d → rise_to (Some up) p ≡ Some a → ComesBack ways.goes (tree_of new) v p d up a down ended r w) → IsLoss ways.loses v w → IsSteady old new → CallsThere ways old o place up down i new w result
  calls_there u v w there ended leads enters runs comes loses steady = ran result (λ r. (p a : Path) (d : ℕ) → Holds new place p d → rise_to (Some up) p ≡ Some a → ComesBack ways.goes (tree_of new) v p d up a down ended r w)
      (λ e. (p : Path) (style : Integers) → IsAt old place p style → (lost : Completion) → GoesOn ways style (tree_of old) o p (calls up down i lost) (tree_of new) w e)
      (λ r back p style at lost.
      let lead = leads p at.names in
      let m = stands (tree_of old (lead.0 ++ down)) (tree_there old (lead.0 ++ down) _ lead.2) in
      let told = back p lead.0 (depth_of (tree_of old p)) (steady_holds old new place p steady at.names at.running) lead.1 in
      call_goes ways style p up down i lost lead.0 r lead.1 m.1 (enters p lead.0 at.names lead.1)
      (ended_by ended told.reply (λ s. (q : Path) (z : Integers) → IsThere old there q z → Proceeds ways (language z) (tree_of old) u q (serve z i) (tree_of new) v (Some s)) told.ended_so
      (ended_so ended (λ e. (q : Path) (z : Integers) → IsThere old there q z → Proceeds ways (language z) (tree_of old) u q (serve z i) (tree_of new) v e) runs) (lead.0 ++ down) style
      (record { names = lead.2; style_is = at.style_is })) told.told_so told.returns)
      (λ p style at lost k.
      let lead = leads p at.names in
      let m = stands (tree_of old (lead.0 ++ down)) (tree_there old (lead.0 ++ down) _ lead.2) in
      let far = came ended (λ e. (q : Path) (z : Integers) → IsThere old there q z → Proceeds ways (language z) (tree_of old) u q (serve z i) (tree_of new) v e) runs in
      calls_lost lead.0 lead.1 m.1 (enters p lead.0 at.names lead.1) (far.1 (lead.0 ++ down) style (record { names = lead.2; style_is = at.style_is })) loses) comes

  -- so it ends where nothing is left
  pub calls_end : (z : S) (lost : Completion) → CallsThere ways old o place up down i new z result → ProceedsIn ways old o place (λ style. calls up down i lost done) new z result
  calls_end z lost h = IfRan-more result (λ e. (p : Path) (style : Integers) → IsAt old place p style → (lost : Completion) → GoesOn ways style (tree_of old) o p (calls up down i lost) (tree_of new) z e)
      (λ e. (p : Path) (style : Integers) → IsAt old place p style → Proceeds ways (language style) (tree_of old) o p (calls up down i lost done) (tree_of new) z e)
      (λ e f p style at. done_on ways style (calls up down i lost) e (f p style at lost)) h

  -- and so it goes on below
  pub calls_below : (z : S) → up ≡ 0 → CallsThere ways old o place up down i new z result → AsksBelow ways old o place down i new z result
  calls_below z none h = IfRan-more result (λ e. (p : Path) (style : Integers) → IsAt old place p style → (lost : Completion) → GoesOn ways style (tree_of old) o p (calls up down i lost) (tree_of new) z e)
      (λ e. (p : Path) (style : Integers) → IsAt old place p style → GoesOn ways style (tree_of old) o p (asks_below down i) (tree_of new) z e)
      (λ e f p style at. subst (λ (n : ℕ). GoesOn ways style (tree_of old) o p (calls n down i (error (no_interpreter []))) (tree_of new) z e) none (f p style at (error (no_interpreter [])))) h

-- the outside could not be told of the call
pub calls_untold : {S : Type 0} (ways : Ways S) (old : Table) (o z : S) (place : TablePlace) (up : ℕ) (down : Path) (i : Entry) (result : Result Text Interruption) (y : Interruption) → result ≡ Err y → y ≡ interruption.Memory → IsLoss ways.loses o z →
    CallsThere ways old o place up down i old z result
calls_untold ways old o z place up down i result y is memory loses =
    memory_err result y (λ text. (p : Path) (style : Integers) → IsAt old place p style → (lost : Completion) → GoesOn ways style (tree_of old) o p (calls up down i lost) (tree_of old) z (Some (Completed (ok text))))
    (λ e. (p : Path) (style : Integers) → IsAt old place p style → (lost : Completion) → GoesOn ways style (tree_of old) o p (calls up down i lost) (tree_of old) z e) is memory (λ p style at lost k. stopped_by loses)

-- where nobody stands
pub calls_nobody : {S : Type 0} (ways : Ways S) (old : Table) (o u : S) (place : TablePlace) (up : ℕ) (down : Path) (i : Entry) (result : Result Text Interruption) (lost : Completion) →
    ((p : Path) → Names old place p → Reached old p up down reach.Missing) → IfEnded result (λ e. e ≡ Completed lost) → FindsNobody ways.goes old o place up down i u result → IsLoss ways.loses o u → ProceedsIn ways old o place (λ style. calls up down i lost done) old u result
calls_nobody ways old o u place up down i result lost leads told misses loses = ran result (λ e. (p : Path) (style : Integers) → IsAt old place p style → Proceeds ways (language style) (tree_of old) o p (calls up down i lost done) (tree_of old) u (Some e))
    (λ e. (p : Path) (style : Integers) → IsAt old place p style → Proceeds ways (language style) (tree_of old) o p (calls up down i lost done) (tree_of old) u e) (λ e h. h) (λ p style at. stopped_by loses)
    (IfEnded-both result (λ e. e ≡ Completed lost) (λ e. (p a : Path) → Names old place p → rise_to (Some up) p ≡ Some a → Misses ways.goes (tree_of old) o p up down i e u)
    (λ e. (p : Path) (style : Integers) → IsAt old place p style → Proceeds ways (language style) (tree_of old) o p (calls up down i lost done) (tree_of old) u (Some e))
    (λ e f miss p style at.
    let lead = leads p at.names in
    finds_none lead.0 lead.1 lead.2 (subst (λ (r : Reply). Misses ways.goes (tree_of old) o p up down i r u) f (miss p lead.0 at.names lead.1)) f) told misses)

-- the same below the interpreter that asks
pub asks_nobody : {S : Type 0} (ways : Ways S) (old : Table) (o u : S) (place : TablePlace) (path : Path) (entry : Entry) (result : Result Text Interruption) → ((p : Path) → Names old place p → Reached old p 0 path reach.Missing) →
    IfEnded result (λ e. e ≡ Completed (failing (no_interpreter []))) → FindsNobody ways.goes old o place 0 path entry u result → IsLoss ways.loses o u → AsksBelow ways old o place path entry old u result
asks_nobody ways old o u place path entry result leads told misses loses = ran result (λ e. (p : Path) (style : Integers) → IsAt old place p style → GoesOn ways style (tree_of old) o p (asks_below path entry) (tree_of old) u (Some e))
    (λ e. (p : Path) (style : Integers) → IsAt old place p style → GoesOn ways style (tree_of old) o p (asks_below path entry) (tree_of old) u e) (λ e h. h) (λ p style at k. stopped_by loses)
    (IfEnded-both result (λ e. e ≡ Completed (failing (no_interpreter []))) (λ e. (p a : Path) → Names old place p → rise_to (Some 0) p ≡ Some a → Misses ways.goes (tree_of old) o p 0 path entry e u)
    (λ e. (p : Path) (style : Integers) → IsAt old place p style → GoesOn ways style (tree_of old) o p (asks_below path entry) (tree_of old) u (Some e))
    (λ e f miss p style at.
    let lead = leads p at.names in
    lost_goes ways style (tree_of old) o u p 0 path entry (error (no_interpreter [])) lead.0 e lead.1 lead.2 f (miss p lead.0 at.names lead.1)) told misses)

-- how it is told that nobody was found
pub lost_so : (i : Interruption) (result : Result Text Interruption) (P : Reply → Type 0) → Interrupts i P → IfEnded result (EndedBy (Err i)) → IfEnded result P
lost_so i result P h told = IfEnded-more result (EndedBy (Err i)) P (λ e f. ended_by (Err i) e P f h) told
