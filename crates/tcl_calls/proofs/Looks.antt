-- Steps that read and look.
use Rattle.std.proofs.Common.{◌≡◌, Bool, true, false, ◌++◌, Some, refl, sym, ◌∙◌, ap, subst, append-nil}
use Rattle.std.specs.Prelude.{Result, Ok, Err, IfOk, IfErr}
use Rattle.std.specs.Bool.{Decides}
use Rattle.std.proofs.lemmas.Slice.Eq.{bytes_eq-Decides}
use Rattle.std.specs.Str.{bytes_eq}
use Rattle.tcl_core.specs.Endings.{Reply}
use Rattle.tcl_core.specs.Endings.Reply.{Completed}
use Rattle.tcl_core.specs.Paths.{Text, Path, Place}
use Rattle.tcl_core.specs.Programs.{Table}
use Rattle.tcl_core.specs.Programs.Act.{Look}
use Rattle.tcl_core.specs.Programs.Prog.{act}
use Rattle.tcl_core.specs.Execution.{completed}
use Rattle.tcl_core.specs.Trees.{Tree, Node, at}
use Rattle.tcl_language.specs.Instructions.{Instr, Program, either, fails, look, at_node, or_fails}
use Rattle.tcl_language.specs.Interpreters as interpreters
use Rattle.tcl_language.specs.Interpreters.{where_it_stands, no_interpreter}
use Rattle.tcl_run.specs.Ends.{Interrupts, IfEnded, IsFailure, failing}
use Rattle.tcl_run.specs.Outsides.{Going}
use Rattle.tcl_run.specs.Runs.{Comes, Evaluates, IsAt, IsThere}
use Rattle.tcl_run.specs.declared.interruption.Interruption.{Interruption}
use Rattle.tcl_run.proofs.Endings.{Interrupts-more, IfEnded-more}
use Rattle.tcl_run.proofs.Leads.{at_reply, sees_below}
use Rattle.tcl_run.proofs.Steady.{stands}
use Rattle.tcl_text.specs.Lists.{list_of}
use Rattle.tcl_text.specs.Writing.{fault_message}
use Rattle.tcl_text.specs.declared.integer.Integers.{Integers}
use Rattle.tcl_text.specs.declared.list.ListFault.{ListFault}
use Rattle.tcl_tree.specs.Own.{Own}
use Rattle.tcl_tree.specs.Reaching.{Leads as Leads_to}
use Rattle.tcl_tree.specs.TreeOf.{tree_of, Names}
use Rattle.tcl_tree.specs.declared.tree.places.Reach.TheVariants as reach
use Rattle.tcl_tree.proofs.CoreLemmas.{tree_there}
use Rattle.tcl_tree.specs.declared.tree.Tree.{Tree as Table_of}
use Rattle.tcl_tree.specs.declared.tree.Place.{Place as TablePlace}
use Rattle.tcl_calls.specs.Asking.{Styled, EndsIn, Leads}
use Rattle.tcl_calls.specs.Looking.{LooksTo, here, looked, GetsTo, GetsToEnd, Finds}
use Rattle.tcl_calls.proofs.Reached.{there_below, gone_below}

-- ## One interpreter

pub looks_then : {T : Tree Own} {p : Place} {x y z : Program} → LooksTo T p x y → LooksTo T p y z → LooksTo T p x z
looks_then here g = g
looks_then (looked f) g = looked (looks_then f g)

pub looks_as : (T : Tree Own) (p : Place) (x y z : Program) → x ≡ y → LooksTo T p y z → LooksTo T p x z
looks_as T p x y z e f = subst (λ (a : Program). LooksTo T p a z) (sym e) f

pub is_program : (T : Tree Own) (p : Place) (x y : Program) → x ≡ y → LooksTo T p x y
is_program T p x y e = looks_as T p x y y e here

pub looks_here : (T : Tree Own) (p : Place) (n : Node Own) (k : Node Own → Program) (y : Program) → T p ≡ Some n → LooksTo T p (k n) y → LooksTo T p (look k) y
looks_here T p n k y there f = looked (looks_as T p _ (k n) y (ap (at_node k) (ap T (append-nil p) ∙ there)) f)

module _ {S : Type 0} {goes : Going S} {language : Table Own Instr} where
  pub looks_come : {T V : Tree Own} {o z : S} {p : Place} {x y : Program} {r : Reply} → LooksTo T p x y → Comes goes language T o p y V z r → Comes goes language T o p x V z r
  looks_come here t = t
  looks_come (looked f) t = sees_below (looks_come f t)

-- ## Wherever the interpreter is

there_at : (t : Table_of) (place : TablePlace) (p : Path) (style : Integers) → IsAt t place p style → IsThere t place p style
there_at t place p style at = record { names = at.names; style_is = at.style_is }

module _ {S : Type 0} (goes : Going S) (t : Table_of) (o : S) (place : TablePlace) where
  pub gets_leads : (whole rest : Styled) → GetsTo t place whole rest → Leads goes t o place whole t o rest
  gets_leads whole rest f = λ V y r e p style at. looks_come (f p style (there_at t place p style at)) (e p style at)

  -- what is left is evaluated
  pub gets_evaluates : (whole rest : Styled) (new : Table_of) (z : S) (result : Result Text Interruption) → GetsTo t place whole rest → Evaluates goes t o place rest new z result → Evaluates goes t o place whole new z result
  gets_evaluates whole rest new z result f e = IfEnded-more result (EndsIn goes t o place rest (tree_of new) z) (EndsIn goes t o place whole (tree_of new) z) (λ r d. gets_leads whole rest f (tree_of new) z r d) e

  pub ends_so : (whole : Styled) (e : Reply) → GetsToEnd t place whole e → EndsIn goes t o place whole (tree_of t) o e
  ends_so whole e f = λ p style at. let g = f p style (there_at t place p style at) in looks_come g.way (at_reply g.end completed)

  -- an end that is passed on
  pub passes_evaluates : (whole : Styled) (result : Result Text Interruption) (i y : Interruption) → result ≡ Err y → y ≡ i → Interrupts i (GetsToEnd t place whole) → Evaluates goes t o place whole t o result
  passes_evaluates whole result i y e same h = subst (λ (x : Result Text Interruption). Evaluates goes t o place whole t o x) (sym (e ∙ ap Err same)) (Interrupts-more i (GetsToEnd t place whole) (EndsIn goes t o place whole (tree_of t) o) (ends_so whole) h)

  -- an end of what is left
  pub told_evaluates : (whole : Styled) (result : Result Text Interruption) → IfEnded result (GetsToEnd t place whole) → Evaluates goes t o place whole t o result
  told_evaluates whole result h = IfEnded-more result (GetsToEnd t place whole) (EndsIn goes t o place whole (tree_of t) o) (ends_so whole) h

-- the same program
pub gets_as : (t : Table_of) (place : TablePlace) (x y : Styled) → ((style : Integers) → x style ≡ y style) → GetsTo t place x y
gets_as t place x y e = λ p style at. is_program (tree_of t) p (x style) (y style) (e style)

pub gets_end : (t : Table_of) (place : TablePlace) (whole rest : Styled) (e : Reply) → GetsTo t place whole rest → GetsToEnd t place rest e → GetsToEnd t place whole e
gets_end t place whole rest e f g = λ p style at. let h = g p style at in record { completion = h.completion; way = looks_then (f p style at) h.way; end = h.end }

-- ## Tests

pub goes_true : (t : Table_of) (place : TablePlace) (b : Bool) (x : Styled) (y : Program) → b ≡ true → GetsTo t place (λ style. either b (x style) y) x
goes_true t place b x y e = λ p style at. is_program (tree_of t) p (either b (x style) y) (x style) (ap (λ (c : Bool). either c (x style) y) e)

pub fails_false : (t : Table_of) (place : TablePlace) (b : Bool) (x : Styled) (message : Text) (r : Reply) → b ≡ false → r ≡ Completed (failing message) → GetsToEnd t place (λ style. either b (x style) (fails message)) r
fails_false t place b x message r e f = λ p style at. record { completion = failing message; way = is_program (tree_of t) p (either b (x style) (fails message)) (fails message) (ap (λ (c : Bool). either c (x style) (fails message)) e); end = f }

-- a test of the interpreter that asks
pub node_fails : (t : Table_of) (place : TablePlace) (test : Node Own → Bool) (message : Text) (r : Reply) (rest : Styled) → ((p : Path) (n : Node Own) → Names t place p → tree_of t p ≡ Some n → test n ≡ true) → r ≡ Completed (failing message) →
    GetsToEnd t place (λ style. look (λ n. either (test n) (fails message) (rest style))) r
node_fails t place test message r rest holds e = λ p style at.
    let n = stands (tree_of t p) (tree_there t p _ at.names) in record {
      completion = failing message;
      way = looks_here (tree_of t) p n.0 (λ m. either (test m) (fails message) (rest style)) (fails message) n.1 (is_program (tree_of t) p _ _ (ap (λ (b : Bool). either b (fails message) (rest style)) (holds p n.0 at.names n.1)));
      end = e;
    }

pub node_passes : (t : Table_of) (place : TablePlace) (test : Node Own → Bool) (message : Text) (rest : Styled) → ((p : Path) (n : Node Own) → Names t place p → tree_of t p ≡ Some n → test n ≡ false) →
    GetsTo t place (λ style. look (λ n. either (test n) (fails message) (rest style))) rest
node_passes t place test message rest holds = λ p style at.
    let n = stands (tree_of t p) (tree_there t p _ at.names) in
    looks_here (tree_of t) p n.0 (λ m. either (test m) (fails message) (rest style)) (rest style) n.1 (is_program (tree_of t) p _ _ (ap (λ (b : Bool). either b (fails message) (rest style)) (holds p n.0 at.names n.1)))

-- ## Words

pub is_word : (w x : Text) → w ≡ x → bytes_eq w x ≡ true
is_word w x e = (bytes_eq-Decides w x).1 e

pub is_no_word : (w x : Text) → (w ≡ x → Prim.⊥) → bytes_eq w x ≡ false
is_no_word w x other = by (bytes_eq w x) (bytes_eq-Decides w x)
  where
    by : (b : Bool) → Decides b (w ≡ x) → b ≡ false
    by true d = absurd (other (d.0 refl))
    by false d = refl

-- a test that was false
pub untrue : (b : Bool) (P : Type 0) → (P → b ≡ true) → b ≡ false → P → Prim.⊥
untrue b P f e p = let clash : false ≡ true = sym e ∙ f p in cc

-- ## Paths

-- what is no list
pub list_fails : (t : Table_of) (place : TablePlace) (x : Result Path ListFault) (e : Reply) (rest : Path → Styled) → IsFailure fault_message x e → GetsToEnd t place (λ style. or_fails fault_message x (λ names. rest names style)) e
list_fails t place (Ok a) e rest f = elim f [ ]
list_fails t place (Err x) e rest f = λ p style at. record { completion = failing (fault_message x); way = here; end = f }

pub list_found : {A : Type 0} (t : Table_of) (place : TablePlace) (view : A → Path) (text word : Text) (r : Result A Interruption) → text ≡ word → IfOk r (λ a. list_of text ≡ Ok (view a)) → IfErr r (λ i. Interrupts i (IsFailure fault_message (list_of text))) →
    Finds t place view (λ rest style. or_fails fault_message (list_of word) (λ names. rest names style)) r
list_found t place view text word (Ok a) same read refused = λ rest p style at. is_program (tree_of t) p _ _ (ap (λ (x : Result Path ListFault). or_fails fault_message x (λ names. rest names style)) (ap list_of (sym same) ∙ read))
list_found t place view text word (Err i) same read refused = Interrupts-more i (IsFailure fault_message (list_of text)) _ (λ e f rest. list_fails t place (list_of word) e rest (subst (λ (x : Text). IsFailure fault_message (list_of x) e) same f)) refused

pub stands_there : (t : Table_of) (place there : TablePlace) (path : Path) (text : Text) (rest : Styled) → ((p : Path) → Names t place p → Leads_to t p 0 path (reach.There there)) →
    GetsTo t place (λ style. act Look (λ T. where_it_stands text (λ n. rest style) (T path))) rest
stands_there t place there path text rest leads = λ p style at.
    let n = stands (tree_of t (p ++ path)) (tree_there t (p ++ path) _ (there_below t place there path leads p at.names)) in
    looked (is_program (tree_of t) p _ _ (ap (where_it_stands text (λ n. rest style)) n.1))

pub stands_nowhere : (t : Table_of) (place : TablePlace) (path : Path) (text : Text) (r : Reply) (rest : Styled) → ((p : Path) → Names t place p → Leads_to t p 0 path reach.Missing) → r ≡ Completed (failing (no_interpreter text)) →
    GetsToEnd t place (λ style. act Look (λ T. where_it_stands text (λ n. rest style) (T path))) r
stands_nowhere t place path text r rest leads e = λ p style at. record {
  completion = failing (no_interpreter text);
  way = looked (is_program (tree_of t) p _ _ (ap (where_it_stands text (λ n. rest style)) (gone_below t place path leads p at.names)));
  end = e;
}

read_as : (text : Text) (path : Path) (rest : Path → Styled) → list_of text ≡ Ok path → (style : Integers) →
    interpreters.at_path text (λ path n. rest path style) ≡ act Look (λ T. where_it_stands text (λ n. rest path style) (T path))
read_as text path rest read style = ap (λ (x : Result Path ListFault). or_fails fault_message x (λ path. act Look (λ T. where_it_stands text (λ n. rest path style) (T path)))) read

-- a path is read, and leads to an interpreter
pub path_leads : (t : Table_of) (place there : TablePlace) (text : Text) (path : Path) (rest : Path → Styled) → list_of text ≡ Ok path → ((p : Path) → Names t place p → Leads_to t p 0 path (reach.There there)) →
    GetsTo t place (λ style. interpreters.at_path text (λ path n. rest path style)) (rest path)
path_leads t place there text path rest read leads = λ p style at.
    looks_as (tree_of t) p _ _ _ (read_as text path rest read style) (stands_there t place there path text (rest path) leads p style at)

-- or to nobody
pub path_lost : (t : Table_of) (place : TablePlace) (text : Text) (path : Path) (e : Reply) (rest : Path → Styled) → list_of text ≡ Ok path → ((p : Path) → Names t place p → Leads_to t p 0 path reach.Missing) → e ≡ Completed (failing (no_interpreter text)) →
    GetsToEnd t place (λ style. interpreters.at_path text (λ path n. rest path style)) e
path_lost t place text path e rest read leads f =
    gets_end t place _ (λ style. act Look (λ T. where_it_stands text (λ n. rest path style) (T path))) e (gets_as t place _ _ (read_as text path rest read)) (stands_nowhere t place path text e (rest path) leads f)

-- or it is no list
pub path_misread : (t : Table_of) (place : TablePlace) (text : Text) (e : Reply) (rest : Path → Styled) → IsFailure fault_message (list_of text) e → GetsToEnd t place (λ style. interpreters.at_path text (λ path n. rest path style)) e
path_misread t place text e rest f = list_fails t place (list_of text) e (λ path style. act Look (λ T. where_it_stands text (λ n. rest path style) (T path))) f

-- it fails so
pub gets_failed : (t : Table_of) (place : TablePlace) (x : Styled) (message : Text) (r : Reply) → ((style : Integers) → x style ≡ fails message) → r ≡ Completed (failing message) → GetsToEnd t place x r
gets_failed t place x message r e f = λ p style at. record { completion = failing message; way = is_program (tree_of t) p (x style) (fails message) (e style); end = f }
