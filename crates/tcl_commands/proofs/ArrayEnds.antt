-- What `array`, and `info` of procedures and commands, come to.
use Rattle.std.proofs.Common.{◌≡◌, ℕ, ◌≤◌, ◌+◌, Bool, List, [], ◌∷◌, ◌++◌, Option, Some, length, take, drop, get_or, sym, ap, subst, ◌∙◌, append-nil, append_assoc, add-one}
use Rattle.std.specs.Prelude.{Result, Ok, Err, ◌-◌, slice_get, ◌&&◌}
use Rattle.std.proofs.Math.ListN.{drop_of_length-le}
use Rattle.tcl_core.specs.Endings.{ok}
use Rattle.tcl_core.specs.Endings.Reply.{Completed}
use Rattle.tcl_core.specs.Paths.{Path, Text}
use Rattle.tcl_core.specs.Programs.Prog.{done}
use Rattle.tcl_core.specs.Trees.{Node}
use Rattle.tcl_frames.specs.Chain.{Chain, kept_if}
use Rattle.tcl_frames.specs.Places.{Levels}
use Rattle.tcl_language.specs.Arrays as arrays
use Rattle.tcl_language.specs.Faults.{frame_message}
use Rattle.tcl_language.specs.Instructions.{Program, either, fails, fits, gives, look, or_fails, too_long}
use Rattle.tcl_language.specs.Procedures as procedures
use Rattle.tcl_language.specs.Variables.{chain_becomes, is_odd, sets}
use Rattle.tcl_run.specs.Ends.{Gave, IfEnded, Interrupts}
use Rattle.tcl_run.specs.Plain.{Acts}
use Rattle.tcl_run.specs.declared.interruption.Interruption.{Interruption}
use Rattle.tcl_tree.specs.Commands.{ProcedureView}
use Rattle.tcl_tree.specs.Own.{Own, CommandMap}
use Rattle.tcl_tree.specs.TreeOf.{tree_of, Names}
use Rattle.tcl_tree.specs.declared.tree.Tree.{Tree as Table}
use Rattle.tcl_tree.specs.declared.tree.Place.{Place as TablePlace}
use Rattle.tcl_interpreter.specs.declared.command.Command.{Command}
use Rattle.tcl_text.specs.Lists.{list_of}
use Rattle.tcl_text.specs.Messages.{missing_value}
use Rattle.tcl_text.specs.Writing.{fault_message, written_list}
use Rattle.tcl_text.specs.declared.list.ListFault.{ListFault}
use Rattle.tcl_text.proofs.Items.{drop_at}
use Rattle.tcl_frames.specs.VariableArrays.{Elements}
use Rattle.tcl_frames.specs.declared.fault.FrameFault.{FrameFault}
use Rattle.tcl_commands.specs.Steps.{EndsAt, Leads, Styled}
use Rattle.tcl_commands.proofs.Going.{acts_as, ends_done, found_by_look, found_by_reading, passed_acts}
use Rattle.tcl_commands.proofs.Linking.{two_front}
use Rattle.tcl_commands.proofs.Looking.{acts_looking, gives_acts}
use Rattle.tcl_commands.proofs.Setting.{led}
use Rattle.tcl_commands.proofs.Telling.{Seen}

-- what is said of these words is said of the same words
pub by_words : (t u : Table) (place : TablePlace) (program : List Text → Program) (args xs : List Text) (result : Result Text Interruption) → args ≡ xs → Acts t place (λ style. program xs) u result → Acts t place (λ style. program args) u result
by_words t u place program args xs result e acts = subst (λ (ws : List Text). Acts t place (λ style. program ws) u result) (sym e) acts

pub done_acts : (t : Table) (place : TablePlace) (text given : Text) → text ≡ given → Acts t place (λ style. done (ok given)) t (Ok text)
done_acts t place text given e = subst (λ (x : Text). Acts t place (λ style. done (ok given)) t (Ok x)) (sym e) (ends_done t place (ok given))

-- the list of texts, which may be too long
pub list_acts : (t : Table) (place : TablePlace) (texts given : List Text) (result : Result Text Interruption) → texts ≡ given →
    IfEnded result (λ r. r ≡ Completed (either (fits (written_list texts)) (ok (written_list texts)) too_long)) → Acts t place (λ style. gives (written_list given)) t result
list_acts t place texts given result e told = subst (λ (xs : List Text). Acts t place (λ style. gives (written_list xs)) t result) e (gives_acts t place (written_list texts) result told)

-- the elements of a list are set, or it is no list
pub list_goes : (t u : Table) (place : TablePlace) (name list : Text) (words : List Text) (result : Result Text Interruption) → list_of list ≡ Ok words →
    Acts t place (λ style. either (is_odd words) (fails missing_value) (arrays.sets_elements name (arrays.in_pairs words))) u result → Acts t place (λ style. arrays.sets_list name list) u result
list_goes t u place name list words result read acts =
    acts_as t u place (λ style. arrays.sets_list name list) (λ style. either (is_odd words) (fails missing_value) (arrays.sets_elements name (arrays.in_pairs words))) result
    (λ style. ap (λ (r : Result (List Text) ListFault). or_fails fault_message r (λ ws. either (is_odd ws) (fails missing_value) (arrays.sets_elements name (arrays.in_pairs ws)))) read) acts

pub list_fails : (t : Table) (place : TablePlace) (name list : Text) (i y : Interruption) (result : Result Text Interruption) → result ≡ Err y → y ≡ i →
    Gave {A = List Text} fault_message (list_of list) (Err i) → Acts t place (λ style. arrays.sets_list name list) t result
list_fails t place name list i y result e same given =
    passed_acts t t place (λ style. arrays.sets_list name list) i y result e same
    (found_by_reading {A = List Text} t place fault_message (λ style. list_of list) (Err i) given (λ ws style. either (is_odd ws) (fails missing_value) (arrays.sets_elements name (arrays.in_pairs ws))))

-- the chain becomes what a change makes of it, and nothing is told
pub changed_ends : (t u : Table) (place : TablePlace) (given : Chain → Result Chain FrameFault) (text : Text) → text ≡ [] →
    ((rest : Styled) → Leads t place (λ style. look (λ n. chain_becomes n.own (given n.own.chain) (rest style))) u rest) →
    EndsAt t place (λ style. look (λ n. chain_becomes n.own (given n.own.chain) (done (ok [])))) (tree_of u) (Completed (ok text))
changed_ends t u place given text e leads =
    subst (λ (x : Text). EndsAt t place (λ style. look (λ n. chain_becomes n.own (given n.own.chain) (done (ok [])))) (tree_of u) (Completed (ok x))) (sym e)
    (led t u place (λ style. look (λ n. chain_becomes n.own (given n.own.chain) (done (ok [])))) (ok []) (leads (λ style. done (ok []))))

-- a variable is set, and that is told
pub set_told : (t u : Table) (place : TablePlace) (name value text given : Text) → text ≡ given →
    ((rest : Styled) → Leads t place (λ style. sets name value (rest style)) u rest) → EndsAt t place (λ style. sets name value (done (ok given))) (tree_of u) (Completed (ok text))
set_told t u place name value text given e leads =
    subst (λ (x : Text). EndsAt t place (λ style. sets name value (done (ok given))) (tree_of u) (Completed (ok x))) (sym e)
    (led t u place (λ style. sets name value (done (ok given))) (ok given) (leads (λ style. done (ok given))))

pub set_refused : (t u : Table) (place : TablePlace) (name value given : Text) (i y : Interruption) (result : Result Text Interruption) → result ≡ Err y → y ≡ i →
    ((rest : Styled) → Interrupts i (EndsAt t place (λ style. sets name value (rest style)) (tree_of u))) → Acts t place (λ style. sets name value (done (ok given))) u result
set_refused t u place name value given i y result e is ends = passed_acts t u place (λ style. sets name value (done (ok given))) i y result e is (ends (λ style. done (ok given)))

module _ (t : Table) (place : TablePlace) where
  -- ## What is read of the variables

  pub reads_gives : {A : Type 0} (read : Levels → Result A FrameFault) (k : A → Program) (chain : Chain) (a : A) (u : Table) (result : Result Text Interruption) → Seen t place chain → read chain.frames ≡ Ok a →
      Acts t place (λ style. k a) u result → Acts t place (λ style. arrays.reads read k) u result
  reads_gives {A} read k chain a u result seen found acts =
      acts_looking t u place (λ n. or_fails frame_message (read n.own.chain.frames) k) (k a) result
      (λ p n at there. ap (λ (c : Chain). or_fails frame_message (read c.frames) k) (sym (seen p n at there)) ∙ ap (λ (r : Result A FrameFault). or_fails frame_message r k) found) acts

  pub reads_fails : {A : Type 0} (read : Levels → Result A FrameFault) (k : A → Program) (chain : Chain) (i : Interruption) → Seen t place chain → Gave {A = A} frame_message (read chain.frames) (Err i) →
      Interrupts i (EndsAt t place (λ style. arrays.reads read k) (tree_of t))
  reads_fails {A} read k chain i seen given =
      found_by_look {A = A} t place frame_message (λ n. read n.own.chain.frames) (Err i) (λ p n at there. subst (λ (c : Chain). Gave {A = A} frame_message (read c.frames) (Err i)) (seen p n at there) given) (λ a style. k a)

  -- ## What is told of a procedure

  pub procedure_gives : (word : Text) (k : ProcedureView → Program) (procedure : ProcedureView) (u : Table) (result : Result Text Interruption) →
      ((p : Path) (n : Node Own) → Names t place p → tree_of t p ≡ Some n → procedures.procedure_of n.own word ≡ Ok procedure) → Acts t place (λ style. k procedure) u result → Acts t place (λ style. procedures.with_procedure word k) u result
  procedure_gives word k procedure u result given acts =
      acts_looking t u place (λ n. or_fails (λ message. message) (procedures.procedure_of n.own word) k) (k procedure) result
      (λ p n at there. ap (λ (r : Result ProcedureView Text). or_fails (λ message. message) r k) (given p n at there)) acts

  pub procedure_fails : (word : Text) (k : ProcedureView → Program) (i : Interruption) →
      ((p : Path) (n : Node Own) → Names t place p → tree_of t p ≡ Some n → Gave {A = ProcedureView} (λ message. message) (procedures.procedure_of n.own word) (Err i)) → Interrupts i (EndsAt t place (λ style. procedures.with_procedure word k) (tree_of t))
  procedure_fails word k i given = found_by_look {A = ProcedureView} t place (λ message. message) (λ n. procedures.procedure_of n.own word) (Err i) given (λ p style. k p)

  -- ## The names of commands

  pub names_acts : (b : Bool) (pattern : Option Text) (commands : CommandMap) (texts : List Text) (result : Result Text Interruption) →
      ((p : Path) (n : Node Own) → Names t place p → tree_of t p ≡ Some n → commands ≡ n.own.commands) → texts ≡ procedures.listed_names b pattern commands →
      IfEnded result (λ r. r ≡ Completed (either (fits (written_list texts)) (ok (written_list texts)) too_long)) → Acts t place (λ style. procedures.listed b pattern) t result
  names_acts b pattern commands texts result seen is told =
      acts_looking t t place (λ n. gives (written_list (procedures.listed_names b pattern n.own.commands))) (gives (written_list texts)) result
      (λ p n at there. ap (λ (xs : List Text). gives (written_list xs)) (ap (procedures.listed_names b pattern) (sym (seen p n at there)) ∙ sym is)) (gives_acts t place (written_list texts) result told)

-- ## Keys and values in turn

pub pairs_step : (made : Elements) (left : List Text) (key value : Text) (whole : Elements) → 2 ≤ length left → key ≡ get_or left 0 key → value ≡ get_or left 1 value → made ++ arrays.in_pairs left ≡ whole →
    (made ++ (key, value) ∷ []) ++ arrays.in_pairs (take (length left - 2) (drop 2 left)) ≡ whole
pairs_step made left key value whole h e f i =
    append_assoc made ((key, value) ∷ []) (arrays.in_pairs (take (length left - 2) (drop 2 left)))
    ∙ (ap (λ (xs : List Text). made ++ arrays.in_pairs xs) (sym (two_front left key value h e f)) ∙ i)

-- ## Names of commands

pub name_step : (b : Bool) (pattern : Option Text) (es : CommandMap) (i : ℕ) (name : Text) (c : Command) → slice_get es i ≡ Some (name, c) →
    kept_if (procedures.is_listed b c && procedures.is_taken pattern name) name (procedures.listed_names b pattern (drop (i + 1) es)) ≡ procedures.listed_names b pattern (drop i es)
name_step b pattern es i name c e =
    ap (λ n. kept_if (procedures.is_listed b c && procedures.is_taken pattern name) name (procedures.listed_names b pattern (drop n es))) (add-one i) ∙ sym (ap (procedures.listed_names b pattern) (drop_at es i (name, c) e))

pub names_end : (b : Bool) (pattern : Option Text) (es : CommandMap) (i : ℕ) (names : List Text) → length es ≤ i → names ++ procedures.listed_names b pattern (drop i es) ≡ names
names_end b pattern es i names h = ap (λ xs. names ++ procedures.listed_names b pattern xs) (drop_of_length-le es h) ∙ append-nil names
