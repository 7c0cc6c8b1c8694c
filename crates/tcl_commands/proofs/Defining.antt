-- What the parameters of a procedure come to.
use Rattle.std.proofs.Common.{◌≡◌, ℕ, ◌≤◌, ◌<◌, List, [], ◌∷◌, ◌++◌, Some, None, length, get_or, refl, sym, ap, subst, ◌∙◌, arith}
use Rattle.std.specs.Prelude.{Result, Ok, Err, IfOk, IfErr, MatchResult}
use Rattle.tcl_core.specs.Endings.{Reply}
use Rattle.tcl_core.specs.Endings.Reply.{Completed}
use Rattle.tcl_core.specs.Paths.{Text, Path}
use Rattle.tcl_core.specs.Trees.{Node}
use Rattle.tcl_language.specs.Definitions.{parameter, parameters, proc, with_parameter}
use Rattle.tcl_language.specs.Faults.{bad_name}
use Rattle.tcl_language.specs.Instructions.{Program, fails, look, or_fails}
use Rattle.tcl_language.specs.Interpreters.{done_so, refused_text, renaming}
use Rattle.tcl_language.specs.Naming.{definable, named}
use Rattle.tcl_run.specs.Ends.{Gave, Interrupts, failing}
use Rattle.tcl_run.specs.Plain.{Does, Acts}
use Rattle.tcl_run.specs.declared.interruption.Interruption.{Interruption}
use Rattle.tcl_run.proofs.Endings.{Interrupts-more}
use Rattle.tcl_text.specs.Lists.{list_of}
use Rattle.tcl_text.specs.Writing.{fault_message}
use Rattle.tcl_text.specs.declared.list.ListFault.{ListFault}
use Rattle.tcl_text.proofs.Items.{three_items}
use Rattle.tcl_tree.specs.Commands.{ProcedureView}
use Rattle.tcl_tree.specs.Own.{Own}
use Rattle.tcl_tree.specs.TreeOf.{tree_of, Names}
use Rattle.tcl_interpreter.specs.declared.command.Command.TheVariants as command
use Rattle.tcl_interpreter.specs.declared.parameter.Parameter.{Parameter}
use Rattle.tcl_tree.specs.declared.tree.Tree.{Tree as Table}
use Rattle.tcl_tree.specs.declared.tree.Place.{Place as TablePlace}
use Rattle.tcl_commands.specs.Ending.{EndsSo}
use Rattle.tcl_commands.specs.Parameters.{parameters_from, reads_parameter}
use Rattle.tcl_commands.specs.Steps.{Styled, EndsAt, Leads, Finds}
use Rattle.tcl_commands.proofs.Going.{acts_as, found_by_look, goes_acts, passed_acts}
use Rattle.tcl_commands.proofs.Turns.{ends_as}

abbrev Then : Type 0
Then = List Parameter → Program

-- what is the same reading
made_as : (before : List Parameter) (V W : Then → Program) → ((k : Then) → V k ≡ W k) → (result : Result Parameter Interruption) → IfOk result (λ made. (k : Then) → W k ≡ k (before ++ made ∷ [])) → IfOk result (λ made. (k : Then) → V k ≡ k (before ++ made ∷ []))
made_as before V W e (Ok made) h = λ k. e k ∙ h k
made_as before V W e (Err i) h = tt

refused_as : (V W : Then → Program) → ((k : Then) → V k ≡ W k) → (result : Result Parameter Interruption) → IfErr result (λ i. Interrupts i (λ r. (k : Then) → EndsSo (W k) r)) → IfErr result (λ i. Interrupts i (λ r. (k : Then) → EndsSo (V k) r))
refused_as V W e (Ok made) h = tt
refused_as V W e (Err i) h = Interrupts-more i _ _ (λ r g k. ends_as (V k) (W k) r (e k) (g k)) h

one_word : (xs : List Text) (n : ℕ) (x : Text) → n ≡ length xs → n ≡ 1 → x ≡ get_or xs 0 x → xs ≡ x ∷ []
one_word [] n x h e d = absurd (omega arith)
one_word (a ∷ []) n x h e d = ap (λ z. z ∷ []) (sym d)
one_word (a ∷ b ∷ cs) n x h e d = absurd (omega arith)

two_words : (xs : List Text) (n : ℕ) (x y : Text) → n ≡ length xs → n ≡ 2 → x ≡ get_or xs 0 x → y ≡ get_or xs 1 y → xs ≡ x ∷ y ∷ []
two_words [] n x y h e d f = absurd (omega arith)
two_words (a ∷ []) n x y h e d f = absurd (omega arith)
two_words (a ∷ b ∷ []) n x y h e d f = ap (λ z. z ∷ b ∷ []) (sym d) ∙ ap (λ z. x ∷ z ∷ []) (sym f)
two_words (a ∷ b ∷ c ∷ cs) n x y h e d f = absurd (omega arith)

module _ (text : Text) (words : List Text) (is : list_of text ≡ Ok words) (before : List Parameter) where
  reads_so : (k : Then) → reads_parameter text before k ≡ parameter text words before k
  reads_so k = ap (λ (r : Result (List Text) ListFault). or_fails fault_message r (λ ws. parameter text ws before k)) is

  one_is : (n : ℕ) (name given : Text) → n ≡ length words → n ≡ 1 → name ≡ get_or words 0 name → given ≡ name → (k : Then) → reads_parameter text before k ≡ with_parameter given None before k
  one_is n name given h e d g k = reads_so k ∙ ap (λ (ws : List Text). parameter text ws before k) (one_word words n name h e d) ∙ ap (λ x. with_parameter x None before k) (sym g)

  two_is : (n : ℕ) (name given default : Text) → n ≡ length words → n ≡ 2 → name ≡ get_or words 0 name → given ≡ name → default ≡ get_or words 1 default → (k : Then) →
      reads_parameter text before k ≡ with_parameter given (Some default) before k
  two_is n name given default h e d g f k = reads_so k ∙ ap (λ (ws : List Text). parameter text ws before k) (two_words words n name default h e d f) ∙ ap (λ x. with_parameter x (Some default) before k) (sym g)

  other_is : (ws : List Text) (k : Then) → (length ws ≡ 1 → ⊥) → (length ws ≡ 2 → ⊥) → parameter text ws before k ≡ fails (bad_name text)
  other_is [] k a b = refl
  other_is (x ∷ []) k a b = absurd (a refl)
  other_is (x ∷ y ∷ []) k a b = absurd (b refl)
  other_is (x ∷ y ∷ z ∷ zs) k a b = refl

  pub one_made : (n : ℕ) (name given : Text) (result : Result Parameter Interruption) → n ≡ length words → n ≡ 1 → name ≡ get_or words 0 name → given ≡ name →
      IfOk result (λ made. (k : Then) → with_parameter given None before k ≡ k (before ++ made ∷ [])) → IfOk result (λ made. (k : Then) → reads_parameter text before k ≡ k (before ++ made ∷ []))
  one_made n name given result h e d g made = made_as before (reads_parameter text before) (with_parameter given None before) (one_is n name given h e d g) result made

  pub one_refused : (n : ℕ) (name given : Text) (result : Result Parameter Interruption) → n ≡ length words → n ≡ 1 → name ≡ get_or words 0 name → given ≡ name →
      IfErr result (λ i. Interrupts i (λ r. (k : Then) → EndsSo (with_parameter given None before k) r)) → IfErr result (λ i. Interrupts i (λ r. (k : Then) → EndsSo (reads_parameter text before k) r))
  one_refused n name given result h e d g refused = refused_as (reads_parameter text before) (with_parameter given None before) (one_is n name given h e d g) result refused

  pub two_made : (n : ℕ) (name given default : Text) (result : Result Parameter Interruption) → n ≡ length words → n ≡ 2 → name ≡ get_or words 0 name → given ≡ name → default ≡ get_or words 1 default →
      IfOk result (λ made. (k : Then) → with_parameter given (Some default) before k ≡ k (before ++ made ∷ [])) → IfOk result (λ made. (k : Then) → reads_parameter text before k ≡ k (before ++ made ∷ []))
  two_made n name given default result h e d g f made = made_as before (reads_parameter text before) (with_parameter given (Some default) before) (two_is n name given default h e d g f) result made

  pub two_refused : (n : ℕ) (name given default : Text) (result : Result Parameter Interruption) → n ≡ length words → n ≡ 2 → name ≡ get_or words 0 name → given ≡ name → default ≡ get_or words 1 default →
      IfErr result (λ i. Interrupts i (λ r. (k : Then) → EndsSo (with_parameter given (Some default) before k) r)) → IfErr result (λ i. Interrupts i (λ r. (k : Then) → EndsSo (reads_parameter text before k) r))
  two_refused n name given default result h e d g f refused = refused_as (reads_parameter text before) (with_parameter given (Some default) before) (two_is n name given default h e d g f) result refused

  pub other_refused : (i : Interruption) (told : Text) → (length words ≡ 1 → ⊥) → (length words ≡ 2 → ⊥) → told ≡ text → Interrupts i (λ r. r ≡ Completed (failing (bad_name told))) →
      Interrupts i (λ r. (k : Then) → EndsSo (reads_parameter text before k) r)
  other_refused i told a b e h = Interrupts-more i _ _ (λ r g k. record {
    completion = failing (bad_name text);
    is_over = reads_so k ∙ other_is words k a b;
    ends = g ∙ ap (λ (x : Text). Completed (failing (bad_name x))) e;
  }) h

-- one parameter more
pub parameters_more : (texts : List Text) (text : Text) (rest : List Text) (before after : List Parameter) (made : Parameter) (k : Then) → texts ≡ text ∷ rest → ((k : Then) → reads_parameter text before k ≡ k (before ++ made ∷ [])) →
    after ≡ before ++ made ∷ [] → parameters texts before k ≡ parameters rest after k
parameters_more texts text rest before after made k e reads is = ap (λ (ts : List Text). parameters ts before k) e ∙ reads (λ more. parameters rest more k) ∙ ap (λ (ps : List Parameter). parameters rest ps k) (sym is)

pub parameters_end : (texts : List Text) (text : Text) (rest : List Text) (before : List Parameter) (k : Then) (x : Program) (r : Reply) → x ≡ parameters texts before k → texts ≡ text ∷ rest → ((k : Then) → EndsSo (reads_parameter text before k) r) → EndsSo x r
parameters_end texts text rest before k x r is e h = ends_as x (reads_parameter text before (λ more. parameters rest more k)) r (is ∙ ap (λ (ts : List Text). parameters ts before k) e) (h (λ more. parameters rest more k))

-- ## `proc`

module _ (t : Table) (place : TablePlace) (args : List Text) (name text body : Text) (many : 3 ≤ length args) (few : length args < 4) (a : name ≡ get_or args 0 name) (b : text ≡ get_or args 1 text) (c : body ≡ get_or args 2 body) where
  defines : List Parameter → Program
  defines ps = renaming done_so (λ own. named own name (command.Procedure (record { parameters = ps; body = body })))

  proc_is : proc args ≡ look (λ n. or_fails refused_text (definable n.own name) (λ plain. parameters_from text defines))
  unfolding defines
  proc_is = ap proc (three_items args name text body many few a b c)

  pub named_finds : (result : Result Text Interruption) → ((p : Path) (n : Node Own) → Names t place p → tree_of t p ≡ Some n → Gave refused_text (definable n.own name) result) →
      Finds t place (λ rest style. look (λ n. or_fails refused_text (definable n.own name) (λ plain. rest plain style))) t result
  named_finds result given = found_by_look t place refused_text (λ n. definable n.own name) result given

  pub proc_acts : (u : Table) (found : Result Text Interruption) (plain : Text) (made : List Parameter) (procedure : ProcedureView) (given : Text) (result : Result Text Interruption) → found ≡ Ok plain →
      ((p : Path) (n : Node Own) → Names t place p → tree_of t p ≡ Some n → Gave refused_text (definable n.own name) found) → ((k : Then) → parameters_from text k ≡ k made) → given ≡ body → procedure ≡ record { parameters = made; body = given } →
      Acts t place (λ style. renaming done_so (λ own. named own name (command.Procedure procedure))) u result → Acts t place (λ style. proc args) u result
  unfolding defines
  proc_acts u found plain made procedure given result there allowed read same is acts =
      let leads = subst (λ (r : Result Text Interruption). (rest : Text → Styled) → MatchResult r (λ a. Leads t place (λ style. look (λ n. or_fails refused_text (definable n.own name) (λ x. rest x style))) t (rest a)) (λ i. Interrupts i (EndsAt t place (λ style. look (λ n. or_fails refused_text (definable n.own name) (λ x. rest x style))) (tree_of t)))) there (named_finds found allowed) (λ x style. parameters_from text defines) in
      acts_as t u place (λ style. proc args) (λ style. look (λ n. or_fails refused_text (definable n.own name) (λ x. parameters_from text defines))) result (λ style. proc_is)
      (goes_acts t t u place (λ style. look (λ n. or_fails refused_text (definable n.own name) (λ x. parameters_from text defines))) (λ style. parameters_from text defines) result leads
      (acts_as t u place (λ style. parameters_from text defines) (λ style. renaming done_so (λ own. named own name (command.Procedure procedure))) result
      (λ style. read defines ∙ ap (λ (x : Text). renaming done_so (λ own. named own name (command.Procedure (record { parameters = made; body = x })))) (sym same)
      ∙ ap (λ (p : ProcedureView). renaming done_so (λ own. named own name (command.Procedure p))) (sym is)) acts))

  -- the name is refused
  pub proc_unnamed : (i y : Interruption) (found : Result Text Interruption) (result : Result Text Interruption) → found ≡ Err i → ((p : Path) (n : Node Own) → Names t place p → tree_of t p ≡ Some n → Gave refused_text (definable n.own name) found) →
      result ≡ Err y → y ≡ i → Acts t place (λ style. proc args) t result
  unfolding defines
  proc_unnamed i y found result there given e same =
      let ends = subst (λ (r : Result Text Interruption). (rest : Text → Styled) → MatchResult r (λ a. Leads t place (λ style. look (λ n. or_fails refused_text (definable n.own name) (λ x. rest x style))) t (rest a)) (λ i. Interrupts i (EndsAt t place (λ style. look (λ n. or_fails refused_text (definable n.own name) (λ x. rest x style))) (tree_of t)))) there (named_finds found given) (λ x style. parameters_from text defines) in
      acts_as t t place (λ style. proc args) (λ style. look (λ n. or_fails refused_text (definable n.own name) (λ x. parameters_from text defines))) result (λ style. proc_is)
      (passed_acts t t place (λ style. look (λ n. or_fails refused_text (definable n.own name) (λ x. parameters_from text defines))) i y result e same ends)

  pub proc_fails : (i y : Interruption) (found : Result Text Interruption) (plain : Text) (result : Result Text Interruption) → found ≡ Ok plain → ((p : Path) (n : Node Own) → Names t place p → tree_of t p ≡ Some n → Gave refused_text (definable n.own name) found) →
      result ≡ Err y → y ≡ i → Interrupts i (λ r. (k : Then) → EndsSo (parameters_from text k) r) → Acts t place (λ style. proc args) t result
  unfolding defines
  proc_fails i y found plain result there allowed e same h =
      let leads = subst (λ (r : Result Text Interruption). (rest : Text → Styled) → MatchResult r (λ a. Leads t place (λ style. look (λ n. or_fails refused_text (definable n.own name) (λ x. rest x style))) t (rest a)) (λ i. Interrupts i (EndsAt t place (λ style. look (λ n. or_fails refused_text (definable n.own name) (λ x. rest x style))) (tree_of t)))) there (named_finds found allowed) (λ x style. parameters_from text defines) in
      acts_as t t place (λ style. proc args) (λ style. look (λ n. or_fails refused_text (definable n.own name) (λ x. parameters_from text defines))) result (λ style. proc_is)
      (goes_acts t t t place (λ style. look (λ n. or_fails refused_text (definable n.own name) (λ x. parameters_from text defines))) (λ style. parameters_from text defines) result leads
      (passed_acts t t place (λ style. parameters_from text defines) i y result e same (Interrupts-more i _ _ (λ r g p style at.
      let over = g defines in
      subst (λ (x : Program). Does x (tree_of t) p (tree_of t) r) (sym over.is_over) (refl, over.ends)) h)))
