-- What holds all through the program of each command: one case for each, of whatever demands have the facts that the commands need.
use Rattle.std.proofs.Common.{◌≡◌, refl, ℕ, zero, suc, ℤ, pos, negsuc, Bool, true, false, not, ◌&&◌, ◌||◌, List, [], ◌∷◌, ◌++◌, Option, Some, None, is_some, Result, Ok, Err, codes, ◌==◌, ◌+ℤ◌, nat_le, length}
use Rattle.std.specs.Fmt.{decimal}
use Rattle.std.specs.Map.{keys_of, lookup}
use Rattle.std.specs.Str.{bytes_eq, is_utf8}
use Rattle.tcl_core.specs.Endings.{Completion, ok}
use Rattle.tcl_core.specs.Entries as core
use Rattle.tcl_core.specs.Entries.{Entry, HostReply, Question, Request, Said}
use Rattle.tcl_core.specs.Entries.Entry.{Eval, CallWords, InvokeHidden, SetAlias, ClearAlias, Hide, Expose, SetCountLimit, SetDepthLimit, Create, Delete, Ask, AskHost}
use Rattle.tcl_core.specs.Entries.HostReply.{Opened, Line, TheEnd, TheRest, Is, Fails}
use Rattle.tcl_core.specs.Entries.Question.{Exists, IsSafe, Aliases, AliasOf, Hidden as HiddenNames, Slaves, CountLimitOf, DepthLimitOf}
use Rattle.tcl_core.specs.Entries.Request.{Write}
use Rattle.tcl_core.specs.Entries.Said.{Finished, Told, Missed}
use Rattle.tcl_core.specs.Paths.{Path, Text}
use Rattle.tcl_core.specs.Programs.Act.{Limit, LimitDepth, Look}
use Rattle.tcl_core.specs.Programs.Prog.{act, done, exit, go}
use Rattle.tcl_core.specs.Tables.{exposes}
use Rattle.tcl_core.specs.Trees.{Node}
use Rattle.tcl_dicts.specs.Dicts.{dict_word}
use Rattle.tcl_expr.specs.Expressions.{expression_of}
use Rattle.tcl_expr.specs.Faults as expr_faults
use Rattle.tcl_expression_evaluation.specs.Computations as computations
use Rattle.tcl_expression_evaluation.specs.Computations.{Computation, computation_of, final}
use Rattle.tcl_flow.specs.OptionReading.{return_of}
use Rattle.tcl_flow.specs.Returning.{options_message}
use Rattle.tcl_format.specs.Filling.{format_of}
use Rattle.tcl_frames.specs.Arrays.{after_set_elements, after_unset_elements, is_found, of_elements}
use Rattle.tcl_frames.specs.Chain.{Chain, array_at, after_link, after_set, after_unset, exists_at, read, words_at}
use Rattle.tcl_frames.specs.Places.{Levels, current}
use Rattle.tcl_frames.specs.declared.scope.Scope.{Scope}
use Rattle.tcl_frames.specs.declared.scope.Scope.TheVariants.{Global, Local, Visible}
use Rattle.tcl_language.proofs.Everywhere.{Demands, Everywhere, Goes}
use Rattle.tcl_language.proofs.Facts.{AsksHost, Facts, Names, Served, Trusted, is_open}
use Rattle.tcl_language.specs.Changes as changes
use Rattle.tcl_language.specs.Arrays as arrays
use Rattle.tcl_language.specs.Control as control
use Rattle.tcl_language.specs.Data as collections
use Rattle.tcl_language.specs.Definitions as definitions
use Rattle.tcl_language.specs.Expressions as expressions
use Rattle.tcl_language.specs.Expressions.{Branches}
use Rattle.tcl_language.specs.Faults.{bad_name, frame_message, integer_message, invalid_command, invalid_hidden, wrong_args}
use Rattle.tcl_language.specs.Hosting as hosting
use Rattle.tcl_language.specs.Inspection as inspection
use Rattle.tcl_language.specs.Instructions.{Instr, Open, Program, Walk, at_node, change, either, fails, fits, gives, grown, look, on_code, on_ok, or_fails, Handler}
use Rattle.tcl_language.specs.Instructions.Instr.{Call, Commands, Expression, For, Foreach, Hidden, Invoke, Parts, Script, Serve, Target, While, Words, Handled, Lmap}
use Rattle.tcl_language.specs.Interpreters as interpreters
use Rattle.tcl_language.specs.Names.{is_name}
use Rattle.tcl_language.specs.Naming.{Named, command_name, definable, removed, renamed}
use Rattle.tcl_language.specs.Procedures as procedures
use Rattle.tcl_language.specs.Pairing as pairing
use Rattle.tcl_language.specs.Safety.{is_host}
use Rattle.tcl_language.specs.Scripts as scripts
use Rattle.tcl_language.specs.Sourcing as sourcing
use Rattle.tcl_language.specs.Switching as switching
use Rattle.tcl_language.specs.Table as table
use Rattle.tcl_language.specs.Trying as trying
use Rattle.tcl_language.specs.Variables as variables
use Rattle.tcl_language.specs.Words.{concat, is_level}
use Rattle.tcl_lists.specs.Joining.{concat_of, join_of}
use Rattle.tcl_lists.specs.Splitting.{split_of}
use Rattle.tcl_dicts.specs.Changing as dict_changing
use Rattle.tcl_lists.specs.Changing.{lset_of}
use Rattle.tcl_lists.specs.Lists.{first_middle_last, two_and_rest, lappend_of, lassign_rest, lindex_of, linsert_of, llength_of, lrange_of, lrepeat_of, lreplace_of, lreverse_of}
use Rattle.tcl_expression_evaluation.specs.Apply.{truth}
use Rattle.tcl_expression_evaluation.specs.Messages as operators
use Rattle.tcl_parser.specs.Words.{WordRead}
use Rattle.tcl_parser.specs.declared.fault.Fault.{Fault}
use Rattle.tcl_parser.specs.declared.script.Part.{Part}
use Rattle.tcl_parser.specs.declared.script.Part.TheVariants as part
use Rattle.tcl_lists.specs.Searching.{lsearch_of}
use Rattle.tcl_lists.specs.Computed.{lsort_of}
use Rattle.tcl_strings.specs.Subcommands.{string_of}
use Rattle.tcl_text.specs.Lists.{list_of}
use Rattle.tcl_text.specs.Numbers.{fits_64, in_64_bits, integer_of}
use Rattle.tcl_text.specs.Writing.{fault_message, written_list}
use Rattle.tcl_text.specs.declared.integer.Integers.{Integers}
use Rattle.tcl_tree.specs.Commands.{AliasView, ProcedureView}
use Rattle.tcl_tree.specs.Own.{Own}
use Rattle.tcl_interpreter.specs.declared.builtin.Builtin.{Builtin}
use Rattle.tcl_interpreter.specs.declared.builtin.Builtin.TheVariants as name
use Rattle.tcl_interpreter.specs.declared.command.Command.{Command}
use Rattle.tcl_interpreter.specs.declared.command.Command.TheVariants as command
use Rattle.tcl_interpreter.specs.declared.parameter.Parameter.{Parameter}
use Rattle.tcl_frames.specs.VariableArrays.{taken}
use Rattle.tcl_frames.specs.Names.{is_plain, name_of}
use Rattle.tcl_frames.specs.declared.fault.FrameFault.{FrameFault}
use Rattle.tcl_frames.specs.declared.fault.FrameFault.TheVariants as frame_fault
use Rattle.tcl_words.specs.Arguments.{two_or_three_words}
use Rattle.tcl_words.specs.Outcomes.{Outcome}

module _ (P : Demands) (F : Facts P) where
  abbrev Holds : Program → Type 0
  Holds x = Everywhere P x

  -- ## What programs are put together from

  by_either : (b : Bool) (x y : Program) → Holds x → Holds y → Holds (either b x y)
  by_either true x y f g = f
  by_either false x y f g = g

  -- the same, where what was tested is of use
  by_test : (b : Bool) (x y : Program) → (b ≡ true → Holds x) → (b ≡ false → Holds y) → Holds (either b x y)
  by_test true x y f g = f refl
  by_test false x y f g = g refl

  by_grown : (text : Text) (k : Text → Program) → ((t : Text) → Holds (k t)) → Holds (grown text k)
  by_grown text k f = by_either (fits text) (k text) _ (f text) tt

  by_code : (n : ℤ) (k : Text → Program) (c : Completion) → ((t : Text) → Holds (k t)) → Holds (on_code n k c)
  by_code (pos zero) k c f = f c.text
  by_code n k c f = tt

  by_ok : (k : Text → Program) → ((t : Text) → Holds (k t)) → (c : Completion) → Holds (on_ok k c)
  by_ok k f c = by_code c.code k c f

  by_result : {A E : Type 0} (m : E → Text) (r : Result A E) (k : A → Program) → ((a : A) → Holds (k a)) → Holds (or_fails m r k)
  by_result m (Ok a) k f = f a
  by_result m (Err e) k f = tt

  by_node : (k : Node Own → Program) (o : Option (Node Own)) → ((n : Node Own) → o ≡ Some n → Holds (k n)) → Holds (at_node k o)
  by_node k None f = tt
  by_node k (Some n) f = f n refl

  -- on with what is known of the interpreter, or only of its own part
  by_stand : (k : Node Own → Program) → ((n : Node Own) → P.stands n → Holds (k n)) → Holds (look k)
  by_stand k f = (tt, λ T s. by_node k (T []) (λ n e. f n (s n e)))

  by_look : (k : Node Own → Program) → ((n : Node Own) → P.own n.own → Holds (k n)) → Holds (look k)
  by_look k f = by_stand k (λ n s. f n (F.own n s))

  -- ## Scripts

  by_reads : (name : Text) (k : Text → Program) → ((t : Text) → Holds (k t)) → Holds (scripts.reads name k)
  by_reads name k f = by_look _ (λ n o. by_result frame_message (read n.own.chain.frames name) k f)

  by_spread : (b : Bool) (text : Text) (k : List Text → Program) → ((l : List Text) → Holds (k l)) → Holds (scripts.spread b text k)
  by_spread true text k f = by_result fault_message (list_of text) k f
  by_spread false text k f = f (text ∷ [])

  by_over : (fault : Option Fault) (last : Text) → Holds (scripts.over fault last)
  by_over None last = tt
  by_over (Some fault) last = tt

  commands : (ws : List (List WordRead)) (fault : Option Fault) (last : Text) → Holds (scripts.commands ws fault last)
  commands [] fault last = by_over fault last
  commands (words ∷ rest) fault last = (tt, by_ok _ (λ text. (tt, λ c. tt)))

  by_charged : (ws : List Text) → Holds (scripts.charged ws)
  by_charged [] = tt
  by_charged (word ∷ words) = (tt, λ T s. (tt, λ c. tt))

  words : (ws : List WordRead) (before : List Text) → Holds (scripts.words ws before)
  words [] before = by_charged before
  words (word ∷ rest) before = (tt, by_ok _ (λ text. by_spread word.expand text _ (λ more. (tt, λ c. tt))))

  -- on with the parts that are left, behind a text that has grown
  on_parts : (rest : List Part) (elements : List Open) (text : Text) → Holds (grown text (λ all. go (Parts rest elements all) done))
  on_parts rest elements text = by_grown text (λ all. go (Parts rest elements all) done) (λ all. (tt, λ c. tt))

  by_closed : (elements : List Open) (key : Text) (rest : List Part) → Holds (scripts.closed elements key rest)
  by_closed [] key rest = tt
  by_closed (element ∷ elements) key rest = by_reads _ _ (λ value. on_parts rest elements (element.before ++ value))

  parts : (ps : List Part) (elements : List Open) (before : Text) → Holds (scripts.parts ps elements before)
  parts [] elements before = tt
  parts (part.Literal more ∷ rest) elements before = on_parts rest elements (before ++ more)
  parts (part.Variable name ∷ rest) elements before = by_reads name _ (λ value. on_parts rest elements (before ++ value))
  parts (part.Element name ∷ rest) elements before = (tt, λ c. tt)
  parts (part.EndElement ∷ rest) elements key = by_closed elements key rest
  parts (part.Script text ∷ rest) elements before = (tt, by_ok _ (λ value. on_parts rest elements (before ++ value)))

  -- ## Variables

  by_chain : (own : Own) (r : Result Chain FrameFault) (k : Program) → P.own own → Holds k → Holds (variables.chain_becomes own r k)
  by_chain own r k o f = by_result frame_message r _ (λ chain. (F.owns.chain own chain o, λ T s. f))

  by_sets : (name value : Text) (k : Program) → Holds k → Holds (variables.sets name value k)
  by_sets name value k f = by_look _ (λ n o. by_chain n.own (after_set n.own.chain name value) k o f)

  set : (args : List Text) → Holds (variables.set args)
  set (name ∷ []) = by_look _ (λ n o. by_result frame_message (read n.own.chain.frames name) _ (λ value. tt))
  set (name ∷ value ∷ []) = by_sets name value _ tt
  set _ = tt

  by_unset : (hides : Bool) (own : Own) (k : Program) (r : Result Chain FrameFault) → P.own own → Holds k → Holds (variables.unset_left hides own k r)
  by_unset hides own k (Ok chain) o f = (F.owns.chain own chain o, λ T s. f)
  by_unset hides own k (Err (frame_fault.BadName x)) o f = tt
  by_unset true own k (Err e) o f = f
  by_unset false own k (Err e) o f = tt

  unset_all : (hides : Bool) (names : List Text) → Holds (variables.unset_all hides names)
  unset_all hides [] = tt
  unset_all hides (name ∷ names) = by_look _ (λ n o. by_unset hides n.own (variables.unset_all hides names) (after_unset n.own.chain name) o (unset_all hides names))

  after_dashes : (hides : Bool) (names : List Text) → Holds (variables.after_dashes hides names)
  after_dashes hides [] = tt
  after_dashes hides (name ∷ names) = by_either (bytes_eq name (codes "--")) _ _ (unset_all hides names) (unset_all hides (name ∷ names))

  unset : (args : List Text) → Holds (variables.unset args)
  unset [] = tt
  unset (word ∷ words) = by_either (bytes_eq word (codes "-nocomplain")) _ _ (after_dashes true words) (after_dashes false (word ∷ words))

  by_reads_or : (name other : Text) (k : Text → Program) → ((t : Text) → Holds (k t)) → Holds (variables.reads_or name other k)
  by_reads_or name other k f = by_look _ (λ n o. by_result frame_message (variables.or_missing other (read n.own.chain.frames name)) k f)

  by_integer : (style : Integers) (text : Text) (k : ℤ → Program) → ((n : ℤ) → Holds (k n)) → Holds (variables.integer style text k)
  by_integer style text k f = by_result (integer_message text) (in_64_bits (integer_of style text)) k f

  becomes : (name : Text) (n : ℤ) → Holds (variables.becomes name n)
  becomes name n = by_either (fits_64 n) _ _ (by_sets name _ _ tt) tt

  incr : (style : Integers) (args : List Text) → Holds (variables.incr style args)
  incr style (name ∷ []) = by_reads_or name _ _ (λ value. by_integer style value _ (λ n. becomes name (n +ℤ pos 1)))
  incr style (name ∷ increment ∷ []) = by_reads_or name _ _ (λ value. by_integer style value _ (λ n. by_integer style increment _ (λ m. becomes name (n +ℤ m))))
  incr style _ = tt

  append : (args : List Text) → Holds (variables.append args)
  append [] = tt
  append (name ∷ []) = by_look _ (λ n o. by_result frame_message (read n.own.chain.frames name) _ (λ value. tt))
  append (name ∷ value ∷ values) =
      by_reads_or name [] _ (λ old. by_grown (old ++ variables.joined (value ∷ values)) (λ new. variables.sets name new (done (ok new))) (λ new. by_sets name new _ tt))

  by_found : (o : Option ℕ) (word : Text) (k : ℕ → Program) → ((n : ℕ) → Holds (k n)) → Holds (variables.found_level o word k)
  by_found None word k f = tt
  by_found (Some n) word k f = f n

  by_level : (style : Integers) (word : Text) (k : ℕ → Program) → ((n : ℕ) → Holds (k n)) → Holds (variables.level style word k)
  by_level style word k f = by_look _ (λ n o. by_found (variables.level_of style (current n.own.chain.frames) word) word k f)

  link_all : (at : ℕ) (pairs : List Text) → Holds (variables.link_all at pairs)
  link_all at (other ∷ local ∷ rest) = by_look _ (λ n o. by_chain n.own (after_link n.own.chain at other local) _ o (link_all at rest))
  link_all at _ = tt

  by_pairs : (style : Integers) (b : Bool) (ws : List Text) → Holds (variables.upvar_words style b ws)
  by_pairs style true [] = tt
  by_pairs style true (word ∷ pairs) = by_level style word _ (λ at. link_all at pairs)
  by_pairs style false pairs = by_level style (codes "1") (λ at. variables.link_all at pairs) (λ at. link_all at pairs)

  upvar : (style : Integers) (args : List Text) → Holds (variables.upvar style args)
  upvar style (a ∷ b ∷ rest) = by_pairs style (variables.is_odd rest) (a ∷ b ∷ rest)
  upvar style _ = tt

  global_all : (names : List Text) → Holds (variables.global_all names)
  global_all [] = tt
  global_all (name ∷ names) = by_look _ (λ n o. by_chain n.own (after_link n.own.chain 0 name (variables.local_name name (name_of name))) _ o (global_all names))

  global : (names : List Text) → Holds (variables.global names)
  global names = by_look _ (λ n o. by_either (current n.own.chain.frames == 0) _ _ tt (global_all names))

  -- ## Control

  eval : (args : List Text) → Holds (control.eval args)
  eval [] = tt
  eval (arg ∷ args) = by_grown (concat (arg ∷ args)) (λ text. go (Script text) done) (λ text. (tt, λ c. tt))

  script_at : (args : List Text) (n : ℕ) → Holds (control.script_at args n)
  script_at args n = by_grown (concat args) (λ text. look (λ node. control.inner_script n node.own text))
      (λ text. by_look (λ node. control.inner_script n node.own text) (λ node o. (tt, (F.owns.chain node.own _ o, λ m p. F.owns.chain m _ p), λ c. tt)))

  by_uplevel : (style : Integers) (word : Text) (rest : List Text) (b : Bool) → Holds (control.uplevel_words style word rest b)
  by_uplevel style word rest true = by_level style word _ (λ n. script_at rest n)
  by_uplevel style word rest false = by_level style (codes "1") (control.script_at (word ∷ rest)) (λ n. script_at (word ∷ rest) n)

  uplevel : (style : Integers) (args : List Text) → Holds (control.uplevel style args)
  uplevel style [] = tt
  uplevel style (arg ∷ []) = by_level style (codes "1") (control.script_at (arg ∷ [])) (λ n. script_at (arg ∷ []) n)
  uplevel style (word ∷ arg ∷ args) = by_uplevel style word (arg ∷ args) (is_level word)

  catch : (args : List Text) → Holds (control.catch args)
  catch (script ∷ []) = (tt, λ c. tt)
  catch (script ∷ result ∷ []) = (tt, λ c. by_sets result c.text _ tt)
  catch (script ∷ result ∷ options ∷ []) =
      (tt, λ c. by_sets result c.text _ (by_grown (control.options_text c) (λ text. variables.sets options text (done (ok (control.code_text c)))) (λ text. by_sets options text _ tt)))
  catch _ = tt

  breaks : (args : List Text) → Holds (control.breaks args)
  breaks [] = tt
  breaks _ = tt

  continues : (args : List Text) → Holds (control.continues args)
  continues [] = tt
  continues _ = tt

  error_ends : (args : List Text) → Holds (control.error args)
  error_ends (a ∷ []) = tt
  error_ends (a ∷ b ∷ []) = tt
  error_ends (a ∷ b ∷ c ∷ []) = tt
  error_ends _ = tt

  throw : (args : List Text) → Holds (control.throw args)
  throw (kind ∷ message ∷ []) = tt
  throw _ = tt

  returns : (style : Integers) (words : List Text) → Holds (control.returns style words)
  returns style words = by_result options_message (return_of style words) _ (λ c. tt)

  by_body : (n : ℤ) (c : Completion) (more : Program) → Holds more → Holds (control.after_body n c more)
  by_body (pos zero) c more f = f
  by_body (pos (suc (suc (suc (suc zero))))) c more f = f
  by_body n c more f = tt

  by_names : (names left : List Text) (k : List Text → Program) → ((l : List Text) → Holds (k l)) → Holds (control.sets_names names left k)
  by_names [] left k f = f left
  by_names (name ∷ names) [] k f = by_sets name [] _ (by_names names [] k f)
  by_names (name ∷ names) (x ∷ left) k f = by_sets name x _ (by_names names left k f)

  by_walks : (walks : List Walk) (k : List Walk → Program) → ((l : List Walk) → Holds (k l)) → Holds (control.sets_walks walks k)
  by_walks [] k f = f []
  by_walks (walk ∷ walks) k f = by_names walk.names walk.left _ (λ left. by_walks walks _ (λ more. f _))

  foreach_turns : (walks : List Walk) (body : Text) → Holds (control.foreach_turns walks body)
  foreach_turns walks body = by_either (control.is_over walks) _ _ tt (tt, λ T s. by_walks walks _ (λ rest. (tt, λ c. by_body c.code c _ (tt, λ e. tt))))

  by_walk : (form : Text) (names left : List Text) (k : Walk → Program) → ((w : Walk) → Holds (k w)) → Holds (control.walk_of form names left k)
  by_walk form [] left k f = tt
  by_walk form (name ∷ names) left k f = f _

  by_lists : (form : Text) (ws : List Text) (walks : List Walk) (k : List Walk → Text → Program) → ((l : List Walk) (t : Text) → Holds (k l t)) → Holds (control.walks_of form ws walks k)
  by_lists form [] walks k f = tt
  by_lists form (body ∷ []) walks k f = f walks body
  by_lists form (names ∷ elements ∷ rest) walks k f =
      by_result fault_message (list_of names) _ (λ xs. by_result fault_message (list_of elements) _ (λ ys. by_walk form xs ys _ (λ walk. by_lists form rest (walks ++ walk ∷ []) k f)))

  by_loop : (form : Text) (args : List Text) (k : List Walk → Text → Program) → ((l : List Walk) (t : Text) → Holds (k l t)) → Holds (control.loops form args k)
  by_loop form (a ∷ b ∷ rest) k f = by_either (variables.is_odd rest) _ _ (by_lists form (a ∷ b ∷ rest) [] k f) tt
  by_loop form _ k f = tt

  foreach : (args : List Text) → Holds (control.foreach args)
  foreach args = by_loop control.foreach_form args (λ walks body. go (Foreach walks body) done) (λ walks body. (tt, λ c. tt))

  after_result : (n : ℤ) (c : Completion) (made : List Text) (k : List Text → Program) → ((l : List Text) → Holds (k l)) → Holds (control.after_result n c made k)
  after_result (pos zero) c made k f = by_grown (written_list (made ++ c.text ∷ [])) (λ text. k (made ++ c.text ∷ [])) (λ text. f (made ++ c.text ∷ []))
  after_result (pos (suc (suc (suc (suc zero))))) c made k f = f made
  after_result n c made k f = tt

  lmap_turns : (walks : List Walk) (body : Text) (made : List Text) → Holds (control.lmap_turns walks body made)
  lmap_turns walks body made = by_either (control.is_over walks) _ _ tt (tt, λ T s. by_walks walks _ (λ rest. (tt, λ c. after_result c.code c made _ (λ more. (tt, λ e. tt)))))

  lmap : (args : List Text) → Holds (control.lmap args)
  lmap args = by_loop control.lmap_form args (λ walks body. go (Lmap walks body []) done) (λ walks body. (tt, λ c. tt))

  by_bindings : (p : ProcedureView) (word : Text) (ws : List Text) (o : Option (List (Text × Text))) → Holds (control.call_bound p word ws o)
  by_bindings p word ws None = tt
  by_bindings p word ws (Some bs) = by_either (control.fit_all bs) _ _ (by_look _ (λ n o. (tt, (F.owns.chain n.own _ o, λ m q. F.owns.chain m _ q), λ c. tt))) tt

  procedure : (p : ProcedureView) (word : Text) (args : List Text) → Holds (control.procedure p word args)
  procedure p word args = by_bindings p word (word ∷ args) (control.bindings p.parameters args)

  -- ## Expressions

  by_computation : (c : Computation) (k : Text → Program) → ((t : Text) → Holds (k t)) → Holds (expressions.computed c k)
  by_computation (computations.value v) k f = f v
  by_computation (computations.refused e) k f = tt
  by_computation (computations.substitute part next) k f = (tt, by_ok (λ v. expressions.computed (next v) k) (λ v. by_computation (next v) k f))

  expression : (style : Integers) (text : Text) → Holds (expressions.expression style text)
  expression style text = by_result (expr_faults.message_of text) (expression_of style text) _
      (λ tree. by_computation (computation_of style tree) _ (λ v. by_result operators.message_of (final style v) _ (λ result. tt)))

  expr : (args : List Text) → Holds (expressions.expr args)
  expr [] = tt
  expr (arg ∷ args) = by_grown (concat (arg ∷ args)) (λ text. go (Expression text) done) (λ text. (tt, λ c. tt))

  by_condition : (style : Integers) (test : Text) (k : Bool → Program) → ((b : Bool) → Holds (k b)) → Holds (expressions.condition style test k)
  by_condition style test k f = (tt, by_ok (λ v. or_fails operators.message_of (truth style v) k) (λ v. by_result operators.message_of (truth style v) k f))

  by_last : (last : Option Text) → Holds (expressions.runs_last last)
  by_last None = tt
  by_last (Some body) = (tt, λ c. tt)

  first_true : (style : Integers) (tests : List (Text × Text)) (last : Option Text) → Holds (expressions.first_true style tests last)
  first_true style [] last = by_last last
  first_true style (branch ∷ rest) last = by_condition style branch.0 _ (λ holds. by_either holds _ _ (tt, λ c. tt) (first_true style rest last))

  runs_branches : (style : Integers) (o : Option Branches) → Holds (expressions.runs_branches style o)
  runs_branches style None = tt
  runs_branches style (Some b) = first_true style b.tests b.last

  by_turn : (style : Integers) (test body : Text) (k : Completion → Program) → ((c : Completion) → Holds (k c)) → Holds (expressions.turn style test body k)
  by_turn style test body k f = by_condition style test _ (λ holds. by_either holds _ _ (tt, λ T s. (tt, f)) tt)

  while_turns : (style : Integers) (test body : Text) → Holds (expressions.while_turns style test body)
  while_turns style test body = by_turn style test body _ (λ c. by_body c.code c _ (tt, λ d. tt))

  while_loop : (args : List Text) → Holds (expressions.while_loop args)
  while_loop (test ∷ body ∷ []) = (tt, λ c. tt)
  while_loop _ = tt

  by_next : (n : ℤ) (c : Completion) (more : Program) → Holds more → Holds (expressions.after_next n c more)
  by_next (pos zero) c more f = f
  by_next (pos (suc (suc (suc zero)))) c more f = tt
  by_next n c more f = tt

  for_turns : (style : Integers) (test next body : Text) → Holds (expressions.for_turns style test next body)
  for_turns style test next body = by_turn style test body _ (λ c. by_body c.code c _ (tt, λ d. by_next d.code d _ (tt, λ e. tt)))

  for_loop : (args : List Text) → Holds (expressions.for_loop args)
  for_loop (start ∷ test ∷ next ∷ body ∷ []) = (tt, by_ok (λ text. go (For test next body) done) (λ text. (tt, λ c. tt)))
  for_loop _ = tt

  -- ## Lists, dicts and texts

  by_given : (r : Outcome) (k : Text → Program) → ((t : Text) → Holds (k t)) → Holds (collections.given r k)
  by_given r k f = by_result (λ message. message) r k f

  by_answer : (r : Outcome) → Holds (collections.answered r)
  by_answer r = by_given r (λ text. done (ok text)) (λ text. tt)

  lappend : (args : List Text) → Holds (collections.lappend args)
  lappend [] = tt
  lappend (name ∷ values) = by_reads_or name [] _ (λ old. by_given (lappend_of old values) _ (λ new. by_sets name new _ tt))

  lassign : (args : List Text) → Holds (collections.lassign args)
  lassign [] = tt
  lassign (list ∷ names) = by_result fault_message (list_of list) _ (λ elements. by_names names elements _ (λ left. by_answer (lassign_rest (length names) elements)))

  pure_dict : (args : List Text) → Holds (collections.dict args)
  pure_dict [] = tt
  pure_dict (word ∷ args) = by_answer (collections.subcommand_in collections.dict_subcommands word args)

  by_entries : (names dictionary : Text) (k : Walk → Program) → ((w : Walk) → Holds (k w)) → Holds (pairing.entries_walk names dictionary k)
  by_entries names dictionary k f = by_result fault_message (list_of names) _
      (λ xs. by_either (length xs == 2) _ (fails (wrong_args pairing.dict_for_form)) (by_result (λ message. message) (dict_word dictionary) _ (λ entries. f _)) tt)

  dict_for : (args : List Text) → Holds (pairing.dict_for args)
  dict_for (names ∷ dictionary ∷ body ∷ []) = by_entries names dictionary (λ walk. go (Foreach (walk ∷ []) body) done) (λ walk. (tt, λ c. tt))
  dict_for _ = tt

  -- ## Choices

  switch : (args : List Text) → Holds (switching.switch args)
  switch args = by_result (λ message. message) (switching.choice switching.exactly args) expressions.runs_last by_last

  by_kept : (names : List Text) (c : Completion) (k : Program) → Holds k → Holds (trying.keeps names c k)
  by_kept [] c k f = f
  by_kept (result ∷ []) c k f = by_sets result c.text k f
  by_kept (result ∷ options ∷ rest) c k f = by_sets result c.text _ (by_grown (control.options_text c) (λ text. variables.sets options text k) (λ text. by_sets options text k f))

  handled_by : (c : Completion) (handlers : List Handler) → Holds (trying.handled_by c handlers)
  handled_by c [] = tt
  handled_by c (h ∷ hs) = by_either (trying.is_handled c h.handles) _ _
      (by_result fault_message (list_of h.names) _ (λ xs. by_kept xs c _ (by_last (trying.first_script (h ∷ hs))))) (handled_by c hs)

  finishes : (body : Text) (handlers : List Handler) (last : Option Text) → Holds (trying.finishes body handlers last)
  finishes body handlers None = (tt, λ c. tt)
  finishes body handlers (Some last) = (tt, λ c. (tt, by_ok (λ text. done c) (λ text. tt)))

  try_script : (style : Integers) (args : List Text) → Holds (trying.try_script style args)
  try_script style [] = tt
  try_script style (body ∷ words) = by_result (λ message. message) (trying.tried_of style words) _ (λ t. finishes body t.handlers t.last)

  -- ## Inspection

  by_words : (text : Text) (o : Option (List Text)) → Holds (inspection.words_or text o)
  by_words text None = tt
  by_words text (Some ws) = tt

  level_words : (text : Text) (o : Option ℕ) (n : Node Own) → Holds (inspection.words_of text o n)
  level_words text None n = tt
  level_words text (Some zero) n = tt
  level_words text (Some (suc m)) n = by_words text (words_at n.own.chain.frames (suc m))

  names : (scope : Scope) (form : Text) (args : List Text) → Holds (inspection.names scope form args)
  names scope form [] = by_look _ (λ n o. tt)
  names scope form (pattern ∷ []) = by_look _ (λ n o. tt)
  names scope form _ = tt

  cmdcount : (args : List Text) → Holds (inspection.cmdcount args)
  cmdcount [] = by_look _ (λ n o. tt)
  cmdcount _ = tt

  exists : (args : List Text) → Holds (inspection.exists args)
  exists (name ∷ []) = by_look _ (λ n o. by_result frame_message (exists_at n.own.chain.frames name) inspection.answer (λ b. tt))
  exists _ = tt

  info_level : (style : Integers) (args : List Text) → Holds (inspection.level style args)
  info_level style [] = by_look _ (λ n o. tt)
  info_level style (number ∷ []) = by_integer style number _ (λ z. by_look _ (λ n o. level_words number (inspection.numbered (current n.own.chain.frames) z) n))
  info_level style _ = tt

  -- one of two programs by the word
  by_word : (word other : Text) (x y : Program) → Holds x → Holds y → Holds (either (bytes_eq word other) x y)
  by_word word other x y f g = by_either (bytes_eq word other) x y f g

  by_procedure : (word : Text) (k : ProcedureView → Program) → ((p : ProcedureView) → Holds (k p)) → Holds (procedures.with_procedure word k)
  by_procedure word k f = by_look _ (λ n o. by_result (λ message. message) (procedures.procedure_of n.own word) k f)

  info_args : (args : List Text) → Holds (procedures.args_of args)
  info_args (name ∷ []) = by_procedure name _ (λ p. tt)
  info_args _ = tt

  info_body : (args : List Text) → Holds (procedures.body_of args)
  info_body (name ∷ []) = by_procedure name _ (λ p. tt)
  info_body _ = tt

  stores_default : (name variable : Text) (o : Option (Option Text)) → Holds (procedures.stores_default name variable o)
  stores_default name variable None = tt
  stores_default name variable (Some None) = by_sets variable [] _ tt
  stores_default name variable (Some (Some text)) = by_sets variable text _ tt

  info_default : (args : List Text) → Holds (procedures.default_of args)
  info_default (name ∷ parameter ∷ variable ∷ []) = by_procedure name _ (λ p. stores_default parameter variable (procedures.default_in parameter p.parameters))
  info_default _ = tt

  command_names : (b : Bool) (form : Text) (args : List Text) → Holds (procedures.names b form args)
  command_names b form [] = by_look _ (λ n o. tt)
  command_names b form (pattern ∷ []) = by_look _ (λ n o. tt)
  command_names b form _ = tt

  info_complete : (args : List Text) → Holds (procedures.complete args)
  info_complete (text ∷ []) = tt
  info_complete _ = tt

  told_of_commands : (word : Text) (args : List Text) → Holds (procedures.chosen word args)
  told_of_commands word args =
      by_word word (codes "args") _ _ (info_args args)
      (by_word word (codes "body") _ _ (info_body args)
      (by_word word (codes "default") _ _ (info_default args)
      (by_word word (codes "commands") _ _ (command_names false (codes "info commands ?pattern?") args)
      (by_word word (codes "procs") _ _ (command_names true (codes "info procs ?pattern?") args)
      (by_word word (codes "complete") _ _ (info_complete args) tt)))))

  info : (style : Integers) (args : List Text) → Holds (inspection.info style args)
  info style [] = tt
  info style (word ∷ args) =
      by_word word (codes "cmdcount") _ _ (cmdcount args)
      (by_word word (codes "exists") _ _ (exists args)
      (by_word word (codes "vars") _ _ (names Visible (codes "info vars ?pattern?") args)
      (by_word word (codes "globals") _ _ (names Global (codes "info globals ?pattern?") args)
      (by_word word (codes "locals") _ _ (names Local (codes "info locals ?pattern?") args)
      (by_word word (codes "level") _ _ (info_level style args) (told_of_commands word args))))))

  -- ## Arrays

  by_variables : {A : Type 0} (read : Levels → Result A FrameFault) (k : A → Program) → ((a : A) → Holds (k a)) → Holds (arrays.reads read k)
  by_variables read k f = by_look _ (λ n o. by_result frame_message (read n.own.chain.frames) k f)

  by_pattern : (form : Text) (o : Option (Text × Option Text)) (k : Text → Option Text → Program) → ((name : Text) (pattern : Option Text) → Holds (k name pattern)) → Holds (arrays.with_words form o k)
  by_pattern form None k f = tt
  by_pattern form (Some ws) k f = f ws.0 ws.1

  array_exists : (args : List Text) → Holds (arrays.exists args)
  array_exists (name ∷ []) = by_variables (λ fs. is_found (array_at fs name)) inspection.answer (λ b. tt)
  array_exists _ = tt

  array_size : (args : List Text) → Holds (arrays.size args)
  array_size (name ∷ []) = by_variables (λ fs. of_elements length (array_at fs name)) _ (λ count. tt)
  array_size _ = tt

  array_get : (args : List Text) → Holds (arrays.get args)
  array_get args = by_pattern (codes "array get arrayName ?pattern?") (arrays.name_and_pattern args) arrays.pairs_listed
      (λ name pattern. by_variables (λ fs. of_elements (taken pattern) (array_at fs name)) (λ es. gives (written_list (arrays.in_turn es))) (λ es. tt))

  array_names : (args : List Text) → Holds (arrays.names args)
  array_names args = by_pattern (codes "array names arrayName ?pattern?") (arrays.name_and_pattern args) arrays.keys_listed
      (λ name pattern. by_variables (λ fs. of_elements (λ es. keys_of (taken pattern es)) (array_at fs name)) (λ keys. gives (written_list keys)) (λ keys. tt))

  array_unset : (args : List Text) → Holds (arrays.unset args)
  array_unset args = by_pattern (codes "array unset arrayName ?pattern?") (arrays.name_and_pattern args) arrays.unsets (λ name pattern. by_look _ (λ n o. by_chain n.own (after_unset_elements n.own.chain name pattern) _ o tt))

  sets_list : (name list : Text) → Holds (arrays.sets_list name list)
  sets_list name list = by_result fault_message (list_of list) _ (λ ws. by_either (variables.is_odd ws) _ _ tt (by_look _ (λ n o. by_chain n.own (after_set_elements n.own.chain name (arrays.in_pairs ws)) _ o tt)))

  array_set : (args : List Text) → Holds (arrays.set args)
  array_set (name ∷ list ∷ []) = by_variables (λ fs. is_found (array_at fs name)) _ (λ found. sets_list name list)
  array_set _ = tt

  array : (args : List Text) → Holds (arrays.array args)
  array [] = tt
  array (word ∷ args) =
      by_word word (codes "exists") _ _ (array_exists args)
      (by_word word (codes "get") _ _ (array_get args)
      (by_word word (codes "names") _ _ (array_names args)
      (by_word word (codes "set") _ _ (array_set args)
      (by_word word (codes "size") _ _ (array_size args)
      (by_word word (codes "unset") _ _ (array_unset args) tt)))))

  -- ## Changes

  by_change : (makes : Bool) (name : Text) (change : Text → Outcome) → Holds (changes.changes makes name change)
  by_change makes name change = by_look _ (λ n o. by_result frame_message (changes.or_empty makes (read n.own.chain.frames name)) _ (λ old. by_given (change old) _ (λ new. by_sets name new _ tt)))

  by_args : {A : Type 0} (r : Result A Text) (k : A → Program) → ((a : A) → Holds (k a)) → Holds (changes.with_words r k)
  by_args r k f = by_result (λ message. message) r k f

  lset : (style : Integers) (args : List Text) → Holds (changes.lset style args)
  lset style args = by_args (first_middle_last (codes "lset varName ?index ...? newValue") args) _ (λ p. by_change false p.0 (λ old. lset_of style old p.1 p.2))

  dict_set : (style : Integers) (args : List Text) → Holds (changes.dict_set style args)
  dict_set style args = by_args (dict_changing.set_words_of args) _ (λ p. by_change true p.0 (λ old. dict_changing.set_of old p.1 p.2))

  dict_unset : (style : Integers) (args : List Text) → Holds (changes.dict_unset style args)
  dict_unset style args = by_args (first_middle_last (codes "dict unset varName key ?key ...?") args) _ (λ p. by_change true p.0 (λ old. dict_changing.unset_of old p.1 p.2))

  dict_incr : (style : Integers) (args : List Text) → Holds (changes.dict_incr style args)
  dict_incr style args = by_args (two_or_three_words (codes "dict incr varName key ?increment?") args) _ (λ p. by_change true p.0 (λ old. dict_changing.incr_of style old p.1 p.2))

  dict_append : (style : Integers) (args : List Text) → Holds (changes.dict_append style args)
  dict_append style args = by_args (two_and_rest (codes "dict append varName key ?string ...?") args) _ (λ p. by_change true p.0 (λ old. dict_changing.append_of old p.1 p.2))

  dict_lappend : (style : Integers) (args : List Text) → Holds (changes.dict_lappend style args)
  dict_lappend style args = by_args (two_and_rest (codes "dict lappend varName key ?value ...?") args) _ (λ p. by_change true p.0 (λ old. dict_changing.lappend_of old p.1 p.2))

  dict_or_change : (style : Integers) (args : List Text) → Holds (changes.dict style args)
  dict_or_change style [] = pure_dict []
  dict_or_change style (word ∷ args) =
      by_word word (codes "set") _ _ (dict_set style args)
      (by_word word (codes "unset") _ _ (dict_unset style args)
      (by_word word (codes "incr") _ _ (dict_incr style args)
      (by_word word (codes "append") _ _ (dict_append style args)
      (by_word word (codes "lappend") _ _ (dict_lappend style args) (pure_dict (word ∷ args))))))

  dict : (style : Integers) (args : List Text) → Holds (pairing.dict style args)
  dict style [] = dict_or_change style []
  dict style (word ∷ args) = by_word word (codes "for") _ _ (dict_for args) (dict_or_change style (word ∷ args))

  -- ## The host

  accepted : (channel : Text) (r : HostReply) → Holds (hosting.accepted channel r)
  accepted channel (Fails number) = tt
  accepted channel r = tt

  by_heard : (k : HostReply → Program) → ((r : HostReply) → Holds (k r)) → (s : Said) → Holds (hosting.heard k s)
  by_heard k f (Finished c) = tt
  by_heard k f (Told r) = f r
  by_heard k f Missed = tt

  writes : (channel text : Text) → AsksHost P → Holds (hosting.writes channel text)
  writes channel text h = (h (Write channel text), by_heard (hosting.accepted channel) (accepted channel))

  puts_line : (channel text : Text) → AsksHost P → Holds (hosting.puts_line channel text)
  puts_line channel text h = by_grown (text ++ hosting.newline) (hosting.writes channel) (λ t. writes channel t h)

  puts : (args : List Text) → AsksHost P → Holds (hosting.puts args)
  puts (text ∷ []) h = puts_line hosting.stdout text h
  puts (word ∷ text ∷ []) h = by_either (hosting.is_nonewline word) _ _ (writes hosting.stdout text h) (puts_line word text h)
  puts (word ∷ channel ∷ text ∷ []) h = by_either (hosting.is_nonewline word) (hosting.writes channel text) hosting.puts_form (writes channel text h) tt
  puts _ h = tt

  by_request : (q : Request) (k : HostReply → Program) → AsksHost P → ((r : HostReply) → Holds (k r)) → Holds (hosting.asks q k)
  by_request q k h f = (h q, by_heard k f)

  by_read : (x : Text) (bytes : List ℕ) (k : Text → Program) → ((t : Text) → Holds (k t)) → Holds (hosting.read_from x bytes k)
  by_read x bytes k f = by_grown bytes _ (λ t. by_either (is_utf8 t) (k t) (fails (hosting.not_utf8 x)) (f t) tt)

  text_read : (channel : Text) (r : HostReply) → Holds (hosting.text_read channel r)
  text_read channel (Line bytes) = by_read channel bytes hosting.gives_text (λ t. tt)
  text_read channel (TheRest bytes) = by_read channel bytes hosting.gives_text (λ t. tt)
  text_read channel (Fails number) = tt
  text_read channel r = tt

  line_read : (channel name : Text) (r : HostReply) → Holds (hosting.line_read channel name r)
  line_read channel name (Line bytes) = by_read channel bytes (hosting.keeps_line name) (λ t. by_sets name t _ tt)
  line_read channel name TheEnd = by_sets name [] _ tt
  line_read channel name (Fails number) = tt
  line_read channel name r = tt

  gets : (args : List Text) → AsksHost P → Holds (hosting.gets args)
  gets (channel ∷ []) h = by_request (core.Request.ReadLine channel) (hosting.text_read channel) h (text_read channel)
  gets (channel ∷ name ∷ []) h = by_request (core.Request.ReadLine channel) (hosting.line_read channel name) h (line_read channel name)
  gets _ h = tt

  on_channel : (form : Text) (k : Text → Program) → ((channel : Text) → Holds (k channel)) → (args : List Text) → Holds (hosting.on_channel form k args)
  on_channel form k f (channel ∷ []) = f channel
  on_channel form k f [] = tt
  on_channel form k f (x ∷ y ∷ rest) = tt

  read_all : (args : List Text) → AsksHost P → Holds (hosting.read args)
  read_all args h = on_channel (codes "read channel") hosting.reads_all (λ channel. by_request (core.Request.ReadAll channel) (hosting.text_read channel) h (text_read channel)) args

  opened : (file : Text) (r : HostReply) → Holds (hosting.opened file r)
  opened file (Opened channel) = tt
  opened file (Fails number) = tt
  opened file r = tt

  opens : (file mode : Text) → AsksHost P → Holds (hosting.opens file mode)
  opens file mode h = by_request (core.Request.Open file mode) (hosting.opened file) h (opened file)

  open_file : (args : List Text) → AsksHost P → Holds (hosting.open_file args)
  open_file (file ∷ []) h = opens file (codes "r") h
  open_file (file ∷ mode ∷ []) h = by_either (hosting.is_mode mode) (hosting.opens file mode) (fails (hosting.bad_mode mode)) (opens file mode h) tt
  open_file _ h = tt

  close : (args : List Text) → AsksHost P → Holds (hosting.close args)
  close args h = on_channel (codes "close channel") hosting.closes (λ channel. by_request (core.Request.Close channel) (hosting.accepted channel) h (accepted channel)) args

  flush : (args : List Text) → AsksHost P → Holds (hosting.flush args)
  flush args h = on_channel (codes "flush channel") hosting.flushes (λ channel. by_request (core.Request.Flush channel) (hosting.accepted channel) h (accepted channel)) args

  at_end : (channel : Text) (r : HostReply) → Holds (hosting.at_end channel r)
  at_end channel (Is answer) = tt
  at_end channel (Fails number) = tt
  at_end channel r = tt

  eof : (args : List Text) → AsksHost P → Holds (hosting.eof args)
  eof args h = on_channel (codes "eof channel") hosting.asks_end (λ channel. by_request (core.Request.AtEnd channel) (hosting.at_end channel) h (at_end channel)) args

  -- ### The script of a file

  after_close : (file : Text) (k : Program) → Holds k → (r : HostReply) → Holds (sourcing.after_close file k r)
  after_close file k f (Fails number) = tt
  after_close file k f r = f

  closed : (file : Text) (read r : HostReply) → Holds (sourcing.closed file read r)
  closed file (TheRest bytes) r = after_close file _ (by_read file bytes sourcing.evaluates_file (λ text. (tt, λ c. tt))) r
  closed file (Fails number) r = tt
  closed file read r = after_close file (done (ok [])) tt r

  reads_script : (file channel : Text) → AsksHost P → Holds (sourcing.reads_script file channel)
  reads_script file channel h = by_request (core.Request.ReadAll channel) (λ read. hosting.asks (core.Request.Close channel) (sourcing.closed file read)) h
      (λ read. by_request (core.Request.Close channel) (sourcing.closed file read) h (closed file read))

  script_opened : (file : Text) → AsksHost P → (r : HostReply) → Holds (sourcing.script_opened file r)
  script_opened file h (Opened channel) = reads_script file channel h
  script_opened file h (Fails number) = tt
  script_opened file h r = tt

  source : (args : List Text) → AsksHost P → Holds (sourcing.source args)
  source (file ∷ []) h = by_request (core.Request.Open file (codes "r")) (sourcing.script_opened file) h (script_opened file h)
  source _ h = tt

  exits : (n : ℤ) → Holds (hosting.exits n)
  exits (pos n) = by_either (nat_le n 255) (exit (pos n)) _ tt tt
  exits (negsuc n) = tt

  exit_with : (style : Integers) (args : List Text) → Holds (hosting.exit_with style args)
  exit_with style [] = tt
  exit_with style (status ∷ []) = by_integer style status hosting.exits exits
  exit_with style _ = tt

  -- ## Asking

  -- what is asked of the interpreter at a path is as wanted
  abbrev Asks : Path → Entry → Type 0
  Asks [] entry = P.serves entry
  Asks (name ∷ path) entry = P.calls (Some 0) (name ∷ path) entry

  -- what every interpreter asks for, and what only a trusted one does
  anyone : (entry : Entry) → is_open entry ≡ true → (path : Path) → Asks path entry
  anyone entry e [] = F.serves entry e
  anyone entry e (name ∷ path) = F.calls 0 (name ∷ path) entry e

  for_hidden : (entry : Entry) → exposes entry ≡ true → Trusted P → (path : Path) → Asks path entry
  for_hidden entry e t [] = t.hidden entry e
  for_hidden entry e t (name ∷ path) = t.below name path entry

  for_depth : (limit : ℕ) → Trusted P → (path : Path) → Asks path (SetDepthLimit limit)
  for_depth limit t [] = t.depth limit
  for_depth limit t (name ∷ path) = t.below name path (SetDepthLimit limit)

  by_finished : (k : Completion → Program) → ((c : Completion) → Holds (k c)) → (s : Said) → Holds (interpreters.finished k s)
  by_finished k f (Finished c) = f c
  by_finished k f (Told r) = tt
  by_finished k f Missed = tt

  by_asks : (path : Path) (entry : Entry) (k : Completion → Program) → Asks path entry → ((c : Completion) → Holds (k c)) → Holds (interpreters.asks_at path entry k)
  by_asks [] entry k a f = (a, f)
  by_asks (name ∷ path) entry k a f = (a, by_finished k f)

  by_standing : (text : Text) (k : Node Own → Program) → ((n : Node Own) → Holds (k n)) → (o : Option (Node Own)) → Holds (interpreters.where_it_stands text k o)
  by_standing text k f None = tt
  by_standing text k f (Some n) = f n

  by_path : (text : Text) (k : Path → Node Own → Program) → ((path : Path) (n : Node Own) → Holds (k path n)) → Holds (interpreters.at_path text k)
  by_path text k f = by_result fault_message (list_of text) (λ path. act Look (λ T. interpreters.where_it_stands text (k path) (T path))) (λ path. (tt, λ T s. by_standing text (k path) (f path) (T path)))

  asks : (text : Text) (entry : Entry) → ((path : Path) → Asks path entry) → Holds (interpreters.asks text entry)
  asks text entry a = by_path text (λ path n. interpreters.asks_at path entry done) (λ path n. by_asks path entry done (a path) (λ c. tt))

  tells : (text : Text) (q : Question) → Holds (interpreters.asks text (Ask q))
  tells text q = asks text (Ask q) (anyone (Ask q) refl)

  by_permitted : (k : Program) → (Trusted P → Holds k) → Holds (interpreters.permitted k)
  by_permitted k f = by_stand (λ n. either n.safe (fails interpreters.denied) k) (λ n s. by_test n.safe (fails interpreters.denied) k (λ e. tt) (λ e. f (F.trusted n s e)))

  asks_trusted : (text : Text) (entry : Entry) → (Trusted P → (path : Path) → Asks path entry) → Holds (interpreters.asks_trusted text entry)
  asks_trusted text entry a = by_permitted (interpreters.asks text entry) (λ t. asks text entry (a t))

  -- ## What an interpreter does where it is asked

  makes : (name : Text) (safe : Bool) (n : Node Own) → P.stands n → Holds (interpreters.makes name (safe || n.safe) n.own)
  makes name safe n s = (F.owns.child name n.own (F.own n s), λ T t. (F.made n safe s, λ U u. tt))

  creates : (name : Text) (safe : Bool) → Holds (interpreters.creates name safe)
  creates name safe = by_stand _ (λ n s. (
    tt,
    λ T t. by_either (is_some (T (name ∷ []))) (fails (interpreters.already_exists name)) _ tt
        (by_either (is_name name) _ (fails (bad_name name))
        (by_either (is_some (lookup (bytes_eq name) n.own.commands)) (fails (interpreters.already_exists name)) _ tt
        (by_either (nat_le interpreters.most_children (length n.own.children)) (fails (codes "too many interpreters")) (interpreters.makes name (safe || n.safe) n.own) tt
        (makes name safe n s))) tt),
  ))

  drops : (name : Text) (own : Own) (there : Option (Node Own)) → P.own own → Holds (interpreters.drops name own there)
  drops name own None o = tt
  drops name own (Some child) o = (F.owns.dropped name own o, λ T s. (tt, λ U t. tt))

  deletes : (name : Text) → Holds (interpreters.deletes name)
  deletes name = by_look _ (λ n o. (tt, λ T s. drops name n.own (T (name ∷ [])) o))

  limits : (limit : Option ℕ) → P.steps → Holds (interpreters.limits limit)
  limits limit f = by_look _ (λ n o. by_either n.root (fails interpreters.denied) _ tt
      (by_either (interpreters.is_count_limit limit) (act (Limit limit) (λ T. done (ok []))) (fails (interpreters.bad_count (interpreters.limit_text limit))) (f, λ T s. tt) tt))

  limits_depth : (limit : ℕ) → P.depth → Holds (interpreters.limits_depth limit)
  limits_depth limit f = by_look _ (λ n o. by_either n.root (fails interpreters.denied) _ tt
      (by_either (interpreters.is_depth_limit limit) (act (LimitDepth limit) (λ T. done (ok (decimal limit)))) (fails (codes "recursion limit must be between 1 and 1000")) (f, λ T s. tt) tt))

  answers : (q : Question) → Holds (interpreters.answers q)
  answers q = by_look _ (λ n o. by_result (λ message. message) (interpreters.answer q n) _ (λ text. tt))

  by_renaming : (k : Program) (f : Own → Named) → ((own : Own) → P.own own → Names P (f own)) → Holds k → Holds (interpreters.renaming k f)
  by_renaming k f h g = by_look (λ n. or_fails interpreters.refused_text (f n.own) (λ own. change own k)) (λ n o. by_named (f n.own) (h n.own o))
    where
      by_named : (r : Named) → Names P r → Holds (or_fails interpreters.refused_text r (λ own. change own k))
      by_named (Ok own) o = (o, λ T s. g)
      by_named (Err e) o = tt

  -- ## `interp`

  with_text : (text : Text) (c : Completion) → Holds (interpreters.with_text text c)
  with_text text c = by_either (interpreters.code_is_ok c.code) (done (ok text)) (done c) tt tt

  makes_named : (text : Text) (safe : Bool) (path : List Text) → Holds (interpreters.makes_named text safe path)
  makes_named text safe [] = tt
  makes_named text safe (x ∷ xs) = (tt, λ T s. by_standing text _ (λ n. by_asks before _ (interpreters.with_text text) (anyone (Create _ safe) refl before) (with_text text)) (T before))
    where
      before : Path
      before = (interpreters.before_last x xs).0

  create_path : (safe : Bool) (args : List Text) → Holds (interpreters.create_path safe args)
  create_path safe [] = by_look _ (λ n o. by_asks [] (Create (Some (interpreters.free_name n.own)) safe) (interpreters.with_text (interpreters.free_name n.own)) (anyone (Create (Some (interpreters.free_name n.own)) safe) refl []) (with_text (interpreters.free_name n.own)))
  create_path safe (text ∷ []) = by_result fault_message (list_of text) (interpreters.makes_named text safe) (makes_named text safe)
  create_path safe (x ∷ y ∷ rest) = tt

  create_options : (safe : Bool) (args : List Text) → Holds (interpreters.create_options safe args)
  create_options safe [] = create_path safe []
  create_options safe (word ∷ words) = by_either (interpreters.is_option word) _ (interpreters.create_path safe (word ∷ words))
      (by_either (bytes_eq word (codes "--")) (interpreters.create_path safe words) _ (create_path safe words)
      (by_either (bytes_eq word (codes "-safe")) (interpreters.create_options true words) (fails (interpreters.bad_option word)) (create_options true words) tt))
      (create_path safe (word ∷ words))

  after_delete : (more : Program) → Holds more → (c : Completion) → Holds (interpreters.after_delete more c)
  after_delete more f c = by_either (interpreters.code_is_ok c.code) more (done c) f tt

  deletes_named : (text : Text) (path : List Text) (more : Program) → Holds more → Holds (interpreters.deletes_named text path more)
  deletes_named text [] more f = tt
  deletes_named text (x ∷ xs) more f =
      by_asks (interpreters.before_last x xs).0 (Delete (interpreters.before_last x xs).1) (interpreters.after_delete more) (anyone (Delete (interpreters.before_last x xs).1) refl (interpreters.before_last x xs).0) (after_delete more f)

  delete : (args : List Text) → Holds (interpreters.delete args)
  delete [] = tt
  delete (text ∷ texts) = by_path text (λ path n. interpreters.deletes_named text path (interpreters.delete texts)) (λ path n. deletes_named text path (interpreters.delete texts) (delete texts))

  alias_path : (source name target word : Text) (args : List Text) → Holds (interpreters.alias_path source name target word args)
  alias_path source name target word args = by_path source _ (λ path n. by_result fault_message (list_of target) _ (λ goal. by_asks path _ (interpreters.with_text name) (anyone (SetAlias name _ _ (word ∷ args)) refl path) (with_text name)))

  interp_alias : (args : List Text) → Holds (interpreters.alias args)
  interp_alias (source ∷ name ∷ []) = tells source (AliasOf name)
  interp_alias (source ∷ name ∷ [] ∷ []) = asks source (ClearAlias name) (anyone (ClearAlias name) refl)
  interp_alias (source ∷ name ∷ (c ∷ cs) ∷ []) = tt
  interp_alias (source ∷ name ∷ [] ∷ word ∷ args) = alias_path source name [] word args
  interp_alias (source ∷ name ∷ (c ∷ cs) ∷ word ∷ args) = alias_path source name (c ∷ cs) word args
  interp_alias _ = tt

  question : (form : Text) (q : Question) (args : List Text) → Holds (interpreters.question form q args)
  question form q [] = tells [] q
  question form q (text ∷ []) = tells text q
  question form q (x ∷ y ∷ rest) = tt

  by_existing : (path : Path) (o : Option (Node Own)) → Holds (interpreters.exists_at path o)
  by_existing path None = tt
  by_existing path (Some n) = by_asks path (Ask Exists) done (anyone (Ask Exists) refl path) (λ c. tt)

  interp_exists : (args : List Text) → Holds (interpreters.exists args)
  interp_exists [] = tells [] Exists
  interp_exists (text ∷ []) = by_result fault_message (list_of text) _ (λ path. (tt, λ T s. by_existing path (T path)))
  interp_exists (x ∷ y ∷ rest) = tt

  by_number : (text : Text) (z : ℤ) (k : ℕ → Program) → ((n : ℕ) → Holds (k n)) → Holds (interpreters.limit_number text z k)
  by_number text (pos n) k f = f n
  by_number text (negsuc n) k f = tt

  by_value : (style : Integers) (text : Text) (k : Option ℕ → Program) → ((o : Option ℕ) → Holds (k o)) → Holds (interpreters.limit_value style text k)
  by_value style [] k f = f None
  by_value style (c ∷ cs) k f = by_integer style (c ∷ cs) (λ z. interpreters.limit_number (c ∷ cs) z (λ n. k (Some n))) (λ z. by_number (c ∷ cs) z (λ n. k (Some n)) (λ n. f (Some n)))

  -- no interpreter sets its own limit of steps
  below_itself : (style : Integers) (text value : Text) → Trusted P → (path : List Text) →
      Holds (interpreters.below_itself path (act Look (λ T. interpreters.where_it_stands text (λ n. interpreters.limit_value style value (λ limit. interpreters.asks_at path (SetCountLimit limit) done)) (T path))))
  below_itself style text value t [] = tt
  below_itself style text value t (x ∷ xs) = (
    tt,
    λ T s. by_standing text _ (λ n. by_value style value (λ limit. interpreters.asks_at (x ∷ xs) (SetCountLimit limit) done) (λ limit. by_asks (x ∷ xs) (SetCountLimit limit) done (t.below x xs (SetCountLimit limit)) (λ c. tt))) (T (x ∷ xs)),
  )

  sets_limit : (style : Integers) (text value : Text) → Holds (interpreters.sets_limit style text value)
  sets_limit style text value = by_permitted _ (λ t. by_result fault_message (list_of text) _ (below_itself style text value t))

  by_commands : (word : Text) (k : Program) → Holds k → Holds (interpreters.commands_only word k)
  by_commands word k f = by_either (bytes_eq word (codes "commands")) k (fails (interpreters.bad_option word)) f tt

  by_option : (word : Text) (k : Program) → Holds k → Holds (interpreters.value_only word k)
  by_option word k f = by_either (bytes_eq word (codes "-value")) k (fails (interpreters.bad_option word)) f tt

  interp_limit : (style : Integers) (args : List Text) → Holds (interpreters.limit style args)
  interp_limit style (text ∷ word ∷ []) = by_commands word _ (tells text CountLimitOf)
  interp_limit style (text ∷ word ∷ option ∷ value ∷ []) = by_commands word _ (by_option option _ (sets_limit style text value))
  interp_limit style _ = tt

  by_levels : (z : ℤ) (k : ℕ → Program) → ((n : ℕ) → Holds (k n)) → Holds (interpreters.depth_number z k)
  by_levels (pos n) k f = f n
  by_levels (negsuc n) k f = tt

  unless_root : (path : List Text) (k : Program) → Holds k → Holds (interpreters.unless_root path k)
  unless_root [] k f = by_look (λ n. either n.root (fails interpreters.denied) k) (λ n o. by_either n.root (fails interpreters.denied) k tt f)
  unless_root (x ∷ xs) k f = f

  sets_depth_limit : (style : Integers) (text value : Text) → Holds (interpreters.sets_depth_limit style text value)
  sets_depth_limit style text value = by_permitted _ (λ t. by_result fault_message (list_of text) _ (λ path. unless_root path _ (
    tt,
    λ T s. by_standing text _ (λ n. by_integer style value _
        (λ z. by_levels z (λ limit. interpreters.asks_at path (SetDepthLimit limit) done) (λ limit. by_asks path (SetDepthLimit limit) done (for_depth limit t path) (λ c. tt)))) (T path),
  )))

  recursion_limit : (style : Integers) (args : List Text) → Holds (interpreters.recursion_limit style args)
  recursion_limit style (text ∷ []) = tells text DepthLimitOf
  recursion_limit style (text ∷ value ∷ []) = sets_depth_limit style text value
  recursion_limit style _ = tt

  hides : (text name hidden : Text) → Holds (interpreters.asks_trusted text (Hide name hidden))
  hides text name hidden = asks_trusted text (Hide name hidden) (λ t. anyone (Hide name hidden) refl)

  hide : (args : List Text) → Holds (interpreters.hide args)
  hide (text ∷ name ∷ []) = hides text name name
  hide (text ∷ name ∷ hidden ∷ []) = hides text name hidden
  hide _ = tt

  exposes_as : (text hidden name : Text) → Holds (interpreters.asks_trusted text (Expose hidden name))
  exposes_as text hidden name = asks_trusted text (Expose hidden name) (for_hidden (Expose hidden name) refl)

  expose : (args : List Text) → Holds (interpreters.expose args)
  expose (text ∷ hidden ∷ []) = exposes_as text hidden hidden
  expose (text ∷ hidden ∷ name ∷ []) = exposes_as text hidden name
  expose _ = tt

  invoked_as : (text form : Text) (b : Bool) (args : List Text) → Holds (interpreters.invoked_as text form b args)
  invoked_as text form b [] = tt
  invoked_as text form b (name ∷ args) = by_either (interpreters.is_option name && not b) _ (interpreters.asks_trusted text (InvokeHidden b (name ∷ args)))
      (by_either (interpreters.is_global name) (interpreters.invoked_as text form true args) (fails (interpreters.bad_option name)) (invoked_as text form true args) tt)
      (asks_trusted text (InvokeHidden b (name ∷ args)) (for_hidden (InvokeHidden b (name ∷ args)) refl))

  invoke_hidden : (args : List Text) → Holds (interpreters.invoke_hidden args)
  invoke_hidden (text ∷ word ∷ args) = invoked_as text interpreters.invoke_form false (word ∷ args)
  invoke_hidden _ = tt

  evaluates : (path : Path) (args : List Text) → Holds (grown (concat args) (λ script. interpreters.asks_at path (Eval script) done))
  evaluates path args = by_grown (concat args) (λ script. interpreters.asks_at path (Eval script) done) (λ script. by_asks path (Eval script) done (anyone (Eval script) refl path) (λ c. tt))

  interp_eval : (args : List Text) → Holds (interpreters.eval args)
  interp_eval (text ∷ arg ∷ args) = by_path text _ (λ path n. evaluates path (arg ∷ args))
  interp_eval _ = tt

  interp : (style : Integers) (args : List Text) → Holds (interpreters.interp style args)
  interp style [] = tt
  interp style (word ∷ args) =
      by_word word (codes "create") _ _ (create_options false args)
      (by_word word (codes "delete") _ _ (delete args)
      (by_word word (codes "eval") _ _ (interp_eval args)
      (by_word word (codes "alias") _ _ (interp_alias args)
      (by_word word (codes "aliases") _ _ (question (codes "interp aliases ?path?") Aliases args)
      (by_word word (codes "exists") _ _ (interp_exists args)
      (by_word word (codes "hidden") _ _ (question (codes "interp hidden ?path?") HiddenNames args)
      (by_word word (codes "issafe") _ _ (question (codes "interp issafe ?path?") IsSafe args)
      (by_word word (codes "slaves") _ _ (question (codes "interp slaves ?path?") Slaves args)
      (by_word word (codes "children") _ _ (question (codes "interp children ?path?") Slaves args)
      (by_word word (codes "limit") _ _ (interp_limit style args)
      (by_word word (codes "recursionlimit") _ _ (recursion_limit style args)
      (by_word word (codes "hide") _ _ (hide args)
      (by_word word (codes "expose") _ _ (expose args)
      (by_word word (codes "invokehidden") _ _ (invoke_hidden args) tt))))))))))))))

  -- ## A child's own command

  child_asks : (name : Text) (entry : Entry) → is_open entry ≡ true → Holds (interpreters.asks_at (name ∷ []) entry done)
  child_asks name entry e = by_asks (name ∷ []) entry done (anyone entry e (name ∷ [])) (λ c. tt)

  child_eval : (name : Text) (args : List Text) → Holds (interpreters.child_eval name args)
  child_eval name [] = tt
  child_eval name (arg ∷ args) = evaluates (name ∷ []) (arg ∷ args)

  sets_alias : (name source : Text) (ws : List Text) → Holds (interpreters.asks_at (name ∷ []) (SetAlias source 1 [] ws) (interpreters.with_text source))
  sets_alias name source ws = by_asks (name ∷ []) (SetAlias source 1 [] ws) (interpreters.with_text source) (anyone (SetAlias source 1 [] ws) refl (name ∷ [])) (with_text source)

  child_alias : (name : Text) (args : List Text) → Holds (interpreters.child_alias name args)
  child_alias name [] = tt
  child_alias name (source ∷ []) = child_asks name (Ask (AliasOf source)) refl
  child_alias name (source ∷ [] ∷ []) = child_asks name (ClearAlias source) refl
  child_alias name (source ∷ [] ∷ a ∷ args) = sets_alias name source ([] ∷ a ∷ args)
  child_alias name (source ∷ (c ∷ cs) ∷ args) = sets_alias name source ((c ∷ cs) ∷ args)

  child_question : (name form : Text) (q : Question) (args : List Text) → Holds (interpreters.child_question name form q args)
  child_question name form q [] = child_asks name (Ask q) refl
  child_question name form q (x ∷ xs) = tt

  child_limit : (style : Integers) (name : Text) (args : List Text) → Holds (interpreters.child_limit style name args)
  child_limit style name (word ∷ []) = by_commands word _ (child_asks name (Ask CountLimitOf) refl)
  child_limit style name (word ∷ option ∷ value ∷ []) = by_commands word _ (by_option option _ (by_permitted _
      (λ t. by_value style value (λ limit. interpreters.asks_at (name ∷ []) (SetCountLimit limit) done) (λ limit. by_asks (name ∷ []) (SetCountLimit limit) done (t.below name [] (SetCountLimit limit)) (λ c. tt)))))
  child_limit style name _ = tt

  child_recursion_limit : (style : Integers) (name : Text) (args : List Text) → Holds (interpreters.child_recursion_limit style name args)
  child_recursion_limit style name [] = child_asks name (Ask DepthLimitOf) refl
  child_recursion_limit style name (value ∷ []) = by_permitted _ (λ t. by_integer style value _
      (λ z. by_levels z (λ limit. interpreters.asks_at (name ∷ []) (SetDepthLimit limit) done) (λ limit. by_asks (name ∷ []) (SetDepthLimit limit) done (for_depth limit t (name ∷ [])) (λ c. tt))))
  child_recursion_limit style name _ = tt

  child_hide : (name : Text) (args : List Text) → Holds (interpreters.child_hide name args)
  child_hide name (x ∷ []) = hides (interpreters.child_path name) x x
  child_hide name (x ∷ hidden ∷ []) = hides (interpreters.child_path name) x hidden
  child_hide name _ = tt

  child_expose : (name : Text) (args : List Text) → Holds (interpreters.child_expose name args)
  child_expose name (hidden ∷ []) = exposes_as (interpreters.child_path name) hidden hidden
  child_expose name (hidden ∷ x ∷ []) = exposes_as (interpreters.child_path name) hidden x
  child_expose name _ = tt

  child_invoke_hidden : (name : Text) (args : List Text) → Holds (interpreters.child_invoke_hidden name args)
  child_invoke_hidden name args = invoked_as (interpreters.child_path name) (interpreters.child_form name (codes "invokehidden ?-global? hiddenName ?arg ...?")) false args

  child : (style : Integers) (name : Text) (args : List Text) → Holds (interpreters.child style name args)
  child style name [] = tt
  child style name (word ∷ args) =
      by_word word (codes "eval") _ _ (child_eval name args)
      (by_word word (codes "alias") _ _ (child_alias name args)
      (by_word word (codes "aliases") _ _ (child_question name (codes "aliases") Aliases args)
      (by_word word (codes "hidden") _ _ (child_question name (codes "hidden") HiddenNames args)
      (by_word word (codes "issafe") _ _ (child_question name (codes "issafe") IsSafe args)
      (by_word word (codes "limit") _ _ (child_limit style name args)
      (by_word word (codes "recursionlimit") _ _ (child_recursion_limit style name args)
      (by_word word (codes "hide") _ _ (child_hide name args)
      (by_word word (codes "expose") _ _ (child_expose name args)
      (by_word word (codes "invokehidden") _ _ (child_invoke_hidden name args) tt)))))))))

  -- ## Definitions

  with_parameter : (name : Text) (default : Option Text) (before : List Parameter) (k : List Parameter → Program) → ((l : List Parameter) → Holds (k l)) → Holds (definitions.with_parameter name default before k)
  with_parameter name default before k f = by_either (is_plain name) _ (fails (bad_name name))
      (by_either (definitions.has_name name before) (fails (bad_name name)) (k (before ++ record { name = name; default = default } ∷ [])) tt (f _)) tt

  by_parameter : (text : Text) (ws : List Text) (before : List Parameter) (k : List Parameter → Program) → ((l : List Parameter) → Holds (k l)) → Holds (definitions.parameter text ws before k)
  by_parameter text (name ∷ []) before k f = with_parameter name None before k f
  by_parameter text (name ∷ default ∷ []) before k f = with_parameter name (Some default) before k f
  by_parameter text _ before k f = tt

  by_parameters : (texts : List Text) (before : List Parameter) (k : List Parameter → Program) → ((l : List Parameter) → Holds (k l)) → Holds (definitions.parameters texts before k)
  by_parameters [] before k f = f before
  by_parameters (text ∷ texts) before k f = by_result fault_message (list_of text) _ (λ ws. by_parameter text ws before _ (λ more. by_parameters texts more k f))

  proc : (args : List Text) → Holds (definitions.proc args)
  proc (name ∷ args ∷ body ∷ []) = by_look _ (λ n o. by_result interpreters.refused_text (definable n.own name) _ (λ plain.
      by_result fault_message (list_of args) _ (λ texts. by_parameters texts [] _ (λ ps. by_renaming interpreters.done_so _ (λ own o. F.owns.procedure own name _ o) tt))))
  proc _ = tt

  deletes_child : (o : Option Text) → Holds (definitions.deletes_child o)
  deletes_child None = tt
  deletes_child (Some plain) = delete (written_list (plain ∷ []) ∷ [])

  takes_away : (name : Text) → Holds (definitions.takes_away name)
  takes_away name = by_look _ (λ n o. by_either (definitions.child_named n.own (command_name name)) (definitions.deletes_child (command_name name)) (interpreters.renaming interpreters.done_so (λ own. removed own name))
      (deletes_child (command_name name)) (by_renaming interpreters.done_so (λ own. removed own name) (λ own p. F.owns.removed own name p) tt))

  rename : (args : List Text) → Holds (definitions.rename args)
  rename (old ∷ [] ∷ []) = takes_away old
  rename (old ∷ (c ∷ cs) ∷ []) = by_renaming interpreters.done_so (λ own. renamed own old (c ∷ cs)) (λ own o. F.owns.renamed own old (c ∷ cs) o) tt
  rename _ = tt

  -- ## The table

  -- a command that reaches the host may be called only where that may be asked
  builtin : (style : Integers) (b : Builtin) (args : List Text) → (is_host b ≡ true → AsksHost P) → Holds (table.builtin style b args)
  builtin style name.Set args h = set args
  builtin style name.Unset args h = unset args
  builtin style name.Incr args h = incr style args
  builtin style name.Append args h = append args
  builtin style name.Array args h = array args
  builtin style name.Global args h = global args
  builtin style name.Upvar args h = upvar style args
  builtin style name.Uplevel args h = uplevel style args
  builtin style name.Eval args h = eval args
  builtin style name.Catch args h = catch args
  builtin style name.Try args h = try_script style args
  builtin style name.Error args h = error_ends args
  builtin style name.Return args h = returns style args
  builtin style name.Break args h = breaks args
  builtin style name.Continue args h = continues args
  builtin style name.Foreach args h = foreach args
  builtin style name.Lmap args h = lmap args
  builtin style name.Switch args h = switch args
  builtin style name.Expr args h = expr args
  builtin style name.If args h = runs_branches style (expressions.branches_of args)
  builtin style name.While args h = while_loop args
  builtin style name.For args h = for_loop args
  builtin style name.List args h = tt
  builtin style name.Llength args h = by_answer (llength_of args)
  builtin style name.Lindex args h = by_answer (lindex_of style args)
  builtin style name.Lrange args h = by_answer (lrange_of style args)
  builtin style name.Linsert args h = by_answer (linsert_of style args)
  builtin style name.Lreplace args h = by_answer (lreplace_of style args)
  builtin style name.Lrepeat args h = by_answer (lrepeat_of style args)
  builtin style name.Lreverse args h = by_answer (lreverse_of args)
  builtin style name.Concat args h = by_answer (concat_of args)
  builtin style name.Join args h = by_answer (join_of args)
  builtin style name.Split args h = by_answer (split_of args)
  builtin style name.String args h = by_answer (string_of style args)
  builtin style name.Format args h = by_answer (format_of style args)
  builtin style name.Lappend args h = lappend args
  builtin style name.Lassign args h = lassign args
  builtin style name.Dict args h = dict style args
  builtin style name.Lset args h = lset style args
  builtin style name.Lsearch args h = by_answer (lsearch_of args)
  builtin style name.Lsort args h = by_answer (lsort_of style args)
  builtin style name.Throw args h = throw args
  builtin style name.Info args h = info style args
  builtin style name.Proc args h = proc args
  builtin style name.Rename args h = rename args
  builtin style name.Interp args h = interp style args
  builtin style name.Open args h = open_file args (h refl)
  builtin style name.Close args h = close args (h refl)
  builtin style name.Gets args h = gets args (h refl)
  builtin style name.Puts args h = puts args (h refl)
  builtin style name.Read args h = read_all args (h refl)
  builtin style name.Eof args h = eof args (h refl)
  builtin style name.Flush args h = flush args (h refl)
  builtin style name.Source args h = source args (h refl)
  builtin style name.Exit args h = exit_with style args

  call_alias : (a : AliasView) (word : Text) (args : List Text) → Holds (interpreters.call_alias a word args)
  call_alias a word args = (F.calls a.up a.down (CallWords (a.words ++ args)) refl, by_finished done (λ c. tt))

  dispatch : (style : Integers) (word : Text) (args : List Text) (missing : Text → Text) (o : Option Command) → ((b : Builtin) → o ≡ Some (command.Builtin b) → is_host b ≡ true → AsksHost P) → Holds (table.dispatch style word args missing o)
  dispatch style word args missing None h = tt
  dispatch style word args missing (Some (command.Builtin b)) h = builtin style b args (h b refl)
  dispatch style word args missing (Some (command.Procedure p)) h = procedure p word args
  dispatch style word args missing (Some (command.Alias a)) h = call_alias a word args
  dispatch style word args missing (Some command.Child) h = child style (table.child_name (command_name word)) args

  by_name : (o : Option Text) (word : Text) (k : Text → Program) → ((t : Text) → Holds (k t)) → Holds (table.kept_name o word k)
  by_name None word k f = tt
  by_name (Some plain) word k f = f plain

  called : (style : Integers) (ws : List Text) → Holds (table.called style ws)
  called style [] = tt
  called style (word ∷ args) = by_name (command_name word) word _
      (λ plain. by_look _ (λ n o. dispatch style word args invalid_command (lookup (bytes_eq plain) n.own.commands) (λ b e. F.host n.own plain b o e)))

  invoked : (style : Integers) (ws : List Text) → P.hidden → Holds (table.invoked style ws)
  invoked style [] h = tt
  invoked style (word ∷ args) h = by_look _ (λ n o. dispatch style word args invalid_hidden (lookup (bytes_eq word) n.own.hidden) (λ b e g. F.hidden h))

  hidden_at : (style : Integers) (b : Bool) (ws : List Text) → P.hidden → Holds (table.hidden_at style b ws)
  hidden_at style false ws h = invoked style ws h
  hidden_at style true ws h = by_look _ (λ n o. (h, (F.owns.chain n.own _ o, λ m p. F.owns.chain m _ p), λ c. tt))

  pub serve : (style : Integers) (entry : Entry) → Served P entry → Holds (table.serve style entry)
  serve style (Eval text) h = (tt, λ c. tt)
  serve style (CallWords ws) h = (tt, λ T s. (tt, λ c. tt))
  serve style (InvokeHidden b ws) h = (tt, λ T s. (h, λ c. tt))
  serve style (SetAlias name up down ws) h = by_renaming interpreters.done_so _ (λ own o. F.owns.alias own name _ o) tt
  serve style (ClearAlias name) h = by_renaming interpreters.done_so _ (λ own o. F.owns.cleared own name o) tt
  serve style (Hide name hidden) h = by_renaming interpreters.done_so _ (λ own o. F.owns.hiding own name hidden o) tt
  serve style (Expose hidden name) h = by_renaming interpreters.done_so _ h tt
  serve style (SetCountLimit limit) h = limits limit h
  serve style (SetDepthLimit limit) h = limits_depth limit h
  serve style (Create None safe) h = by_look _ (λ n o. creates (interpreters.free_name n.own) safe)
  serve style (Create (Some name) safe) h = creates name safe
  serve style (Delete name) h = deletes name
  serve style (Ask q) h = answers q
  serve style (AskHost request) h = tt

  pub program : (style : Integers) (i : Instr) → Goes P i → Holds (table.program style i)
  program style (Script text) g = (tt, tt, λ c. tt)
  program style (Commands ws fault last) g = commands ws fault last
  program style (Words ws before) g = words ws before
  program style (Parts ps elements before) g = parts ps elements before
  program style (Call ws) g = called style ws
  program style (Target ws) g = (tt, tt, λ c. tt)
  program style (Invoke b ws) g = (g, tt, λ c. tt)
  program style (Hidden b ws) g = hidden_at style b ws g
  program style (Foreach walks body) g = foreach_turns walks body
  program style (Lmap walks body made) g = lmap_turns walks body made
  program style (Expression text) g = expression style text
  program style (While test body) g = while_turns style test body
  program style (For test next body) g = for_turns style test next body
  program style (Handled body handlers) g = (tt, λ c. handled_by c handlers)
  program style (Serve entry) g = serve style entry (F.served entry g)
