use Rattle.std.proofs.Common.{◌≡◌, ◌≤◌, [], ◌∷◌, ◌++◌, List, ℕ, Some, length, drop, rules, sym, ap, refl, ◌∙◌, arith, subst}
use Rattle.std.proofs.lemmas.Result.{err_from_is_err_and}
use Rattle.std.specs.String.{string_bytes}
use Rattle.tcl_core.specs.Paths.{Path}
use Rattle.tcl_core.specs.Trees.{Node, depth_of}
use Rattle.tcl_parser.specs.declared.script.Part.TheVariants as part
use Rattle.tcl_run.specs.Ends.{IfEnded, too_deep_at, IsFailure}
use Rattle.tcl_tree.specs.Own.{Own}
use Rattle.tcl_tree.specs.TreeOf.{tree_of, Names}
use Rattle.tcl_tree.proofs.CoreLemmas.{tree_there, top_there}
use Rattle.tcl_run.proofs.Proceeding.{completed}
use Rattle.tcl_frames.specs.Chain.{read}
use Rattle.tcl_language.specs.Faults.{frame_message}
use Rattle.tcl_parser.specs.declared.script.Part.{Part}
use Rattle.tcl_core.specs.Endings.{ok}
use Rattle.tcl_core.specs.Endings.Reply.{Completed}
use Rattle.tcl_language.specs.Scripts.{script, commands, words, parts, over}
use Rattle.tcl_language.specs.Table.{called}
use Rattle.tcl_calls.specs.Words.{EndsBy, opens}
use Rattle.tcl_parser.specs.Words.{WordRead}
use Rattle.tcl_language.specs.Instructions.{fits, Open}
use Rattle.tcl_run.proofs.Endings.{IfEnded-at, Interrupts-more, Interrupts-at}
use Rattle.tcl_run.proofs.Proceeding.{at_finish, at_prog, at_reply, at_start}
use Rattle.tcl_run.proofs.Steady.{called_here, here-refl, here-trans, still_at, still_named, still_running, steady-trans, steady_holds, level_here, level_steady, level_there, nested_here, nested_holds, nested_innermost, nested_steady, nested_held, level_held, level-refl, same_level, begun_at, less_room, stands}
use Rattle.tcl_run.proofs.Keeping.{keeps-refl, keeps-trans, level_keeps, charged_keeps, told_keeps}
use Rattle.tcl_evaluation.proofs.Steps
use Rattle.tcl_evaluation.proofs.Steps.{stays_of, EndsFrom, TextEnds, text_ends, VariableEnds, variable_ends, EndsAt, appended, forgets, both}
use Rattle.std.proofs.Common.{true, None}
use Rattle.tcl_core.specs.Endings.{Reply}
use Rattle.tcl_language.specs.Control.{procedure, bindings, proc_form}
use Rattle.tcl_language.specs.Faults.{wrong_args}
use Rattle.tcl_run.specs.Ends.{failing}
use Rattle.tcl_interpreter.specs.declared.parameter.Parameter.{Parameter}
use Rattle.std.specs.Bool.{OnTrue, OnFalse}
use Rattle.tcl_calls.specs.Procedures.{Enters, TooLongBound}
use Rattle.tcl_evaluation.proofs.Calling.{left_more, call_too_long, call_unbound, call_runs}
use Rattle.tcl_evaluation.specs.Scripts.{read_so}
use Rattle.std.proofs.Common.{take, ◌-◌}
use Rattle.tcl_language.specs.Faults.{invalid_command}
use Rattle.tcl_language.specs.Table.{dispatch}
use Rattle.tcl_run.specs.Ends.{itself}
use Rattle.tcl_flow.specs.View.{completion_of}
use Rattle.tcl_language.specs.Control.{code_text, eval as control_eval, catch as control_catch}
use Rattle.tcl_calls.specs.Found.{callee_command, found}
use Rattle.tcl_evaluation.proofs.Found.{call_found, call_missing}
use Rattle.tcl_evaluation.proofs.Catching.{caught_ok, caught_err, eval_runs, eval_long, eval_none, catch_goes, catch_passes, catch_none, catch_many}
use Rattle.tcl_evaluation.specs.View.{targeted, unhidden}
use Rattle.std.proofs.Common.{false}
use Rattle.std.specs.Prelude.{Err}
use Rattle.tcl_text.specs.declared.integer.Integers.{Integers}
use Rattle.tcl_text.proofs.Items.{item_on, none_on, no_item, split_first, one_item, two_items, three_items, four_items}
use Rattle.std.proofs.lemmas.Bool.Decides.{nat_tests}
use Rattle.std.proofs.Common.{Option}
use Rattle.tcl_parser.specs.declared.fault.Fault.{Fault}
use Rattle.tcl_prepared.specs.Views.{literal_parts, literal_word, seen_command, seen_part, seen_word}
use Rattle.tcl_prepared.specs.declared.prepared.PreparedPart.{PreparedPart}
use Rattle.tcl_prepared.specs.declared.prepared.PreparedWord.{PreparedWord}
use Rattle.tcl_prepared.specs.declared.prepared.PreparedCommand.{PreparedCommand}
use Rattle.tcl_evaluation.specs.View.{GoesOn}
use Rattle.tcl_value.specs.Texts.{AllWithin}
use Rattle.tcl_calls.proofs.Reached.{never_outside}
use Rattle.tcl_core.specs.Programs.Prog.{done}
use Rattle.tcl_language.specs.Interpreters.{asks_at}
use Rattle.tcl_language.specs.Words.{concat}
use Rattle.tcl_run.specs.Runs.{IsAt, IsHere, room}
use Rattle.tcl_run.proofs.Proceeding.{grows, outgrows}
use Rattle.tcl_evaluation.proofs.Entered.{asks_another, asks_here, hidden_global, hidden_here, hidden_stops, hidden_settles}
use Rattle.tcl_evaluation.proofs.Staying.{here_caught, here_collected, here_err, here_in, here_left, here_left_file, here_level, here_passed, here_settled, here_text, here_then, here_turned, uncaught, unmoved}
use Rattle.tcl_core.specs.Entries.Entry.{Eval, InvokeHidden}
use Rattle.tcl_language.specs.Table.{hidden_at, invoked}
use Rattle.tcl_calls.specs.Found.{hidden_found}
use Rattle.tcl_evaluation.proofs.Found.{invoke_found, invoke_missing}
use Rattle.tcl_core.specs.Entries.Entry.{CallWords}
use Rattle.tcl_language.specs.Interpreters.{call_alias as alias_program}
use Rattle.tcl_language.specs.Table.{serve}
use Rattle.tcl_interpreter.specs.declared.command.Command.{Command}
use Rattle.tcl_language.specs.Faults.{lost_alias}
use Rattle.tcl_evaluation.proofs.Targets.{asks_nobody, calls_untold, settled_more, target_ends, target_refused, entry_stops, entry_calls, entry_evaluates, unhidden_ends, unhidden_refused, same_dispatch, evaluates_there, alias_is, done_on, evaluates_same, calls_there, calls_end, calls_below, calls_nobody, lost_so}
-- (of expressions and the commands with conditions)
use Rattle.std.proofs.Common.{◌⊎◌, inl, inr, ◌<◌, get_or}
use Rattle.std.specs.Option.{option_copied}
use Rattle.tcl_expr.specs.declared.token.Leaf.{Leaf}
use Rattle.tcl_expression_evaluation.specs.Computations.{value, substitute, operand}
use Rattle.tcl_expression_evaluation.specs.Steps.{from}
use Rattle.tcl_language.specs.Control.{after_body}
use Rattle.tcl_language.specs.Expressions.{after_next, branches_of, computed, expr, expression, first_true, if_first}
use Rattle.tcl_core.specs.Programs.Prog.{go}
use Rattle.tcl_language.specs.Instructions.Instr.{Script, While, For}
use Rattle.tcl_expression_evaluation.specs.Apply.{truth}
use Rattle.tcl_expression_evaluation.specs.Messages.{message_of as operator_message}
use Rattle.tcl_run.proofs.Proceeding.{charges, charge_refused, goes_done, goes_on}
use Rattle.tcl_calls.specs.BranchesRead.{alone, branch_of, seen, tests_of}
use Rattle.tcl_calls.specs.declared.branches.Branch.{Branch}
use Rattle.tcl_calls.specs.Expressions.{IsRefused, settles, settles_two}
use Rattle.tcl_language.specs.Control.{foreach_turns, is_over, sets_walks, uplevel}
use Rattle.tcl_language.specs.Instructions.{Walk as Left}
use Rattle.tcl_language.specs.Instructions.Instr.{Foreach}
use Rattle.tcl_run.specs.Plain.{Does}
use Rattle.tcl_tree.specs.TreeOf.{marks_of}
use Rattle.tcl_calls.specs.Levels.{script_level}
use Rattle.tcl_calls.specs.Walks.{walks_at}
use Rattle.tcl_calls.specs.declared.walks.Walk.{Walk}
use Rattle.std.proofs.Common.{map}
use Rattle.tcl_evaluation.proofs.Levelling
use Rattle.tcl_evaluation.proofs.Walking
use Rattle.tcl_evaluation.proofs.Walking.{passed}
use Rattle.tcl_evaluation.proofs.Conditions
use Rattle.tcl_evaluation.proofs.Computing
use Rattle.tcl_evaluation.proofs.TwoOperands
use Rattle.tcl_evaluation.proofs.Looping
use Rattle.tcl_evaluation.proofs.Looping.{next_then}
use Rattle.tcl_evaluation.specs.Conditional.{ComputesTo, OperandBreaks, OperandGoes, TestGoes, TurnGoes, turn_then}
use Rattle.tcl_evaluation.proofs.+eval.Goals.{expressions::while_loop-in_default-via-then-args-lt2, expressions::while_loop-in_default-via-else-args-lt2+else-args-lt3, expressions::for_loop-in_default-via-then-args-lt4, expressions::for_loop-in_default-via-else-args-lt4+else-args-lt5}
-- (of `interp` and children's own commands)
use Rattle.std.specs.Prelude.{codes}
use Rattle.tcl_language.specs.Faults.{unknown_subcommand}
use Rattle.tcl_language.specs.Interpreters.{asks_trusted, interp as interp_program, child as child_program}
use Rattle.tcl_language.specs.Naming.{command_name}
use Rattle.tcl_language.specs.Table.{child_name, builtin as builtin_program}
use Rattle.tcl_evaluation.specs.View.{Asks}
use Rattle.tcl_calls.specs.Looking.{GetsToEnd}
use Rattle.tcl_interp.specs.Programs.{evals, evaluates, invokes, program_of}
use Rattle.tcl_interp.specs.Subcommands.{tree_program_of}
use Rattle.tcl_interp.specs.Subjects.{about, on_child, path_text, reached}
use Rattle.tcl_interp.specs.declared.subcommand.InterpSubcommand.TheVariants.{Tree}
use Rattle.tcl_evaluation.proofs.Dispatching.{interp_known, interp_shared, interp_unknown, child_known, child_unknown, evals_none, evals_some}
-- (of what reaches the host)
use Rattle.std.specs.Str.{bytes_eq}
use Rattle.tcl_core.specs.Paths.{Text}
use Rattle.tcl_language.specs.Hosting as hosting
use Rattle.tcl_language.specs.Instructions.{Program, either, fails}
use Rattle.tcl_value.specs.Limits.{IsPast}
use Rattle.tcl_evaluation.proofs.Awaited
use Rattle.tcl_evaluation.proofs.Writing.{not_put, past_long, writes_as}
use Rattle.tcl_evaluation.proofs.Requesting.{asks_heard, asks_over, call_answered, call_over, file_evaluates, heard_once, heard_twice, leaves_more, not_sourced, reads_after, reads_heard, reads_over, reads_unheard, script_goes, script_is}
use Rattle.tcl_language.specs.Sourcing as sourcing
use Rattle.tcl_calls.specs.HostCalls.{IsOver, meaning_of, program_of as host_program}
use Rattle.std.proofs.Common.{FitsSigned, w64, ℤ}
use Rattle.std.proofs.lemmas.Int.{to_z-of_z}
use Rattle.std.specs.Fmt.{signed_decimal}
use Rattle.std.specs.Prelude.{Ok}
use Rattle.tcl_core.specs.Entries.Entry.{AskHost}
use Rattle.tcl_core.specs.Entries as asking
use Rattle.tcl_run.specs.Entering.{entry_of, request_of, whole_entry}
use Rattle.tcl_run.specs.Outsides.{OnEntry, reply_of}
use Rattle.tcl_core.specs.Entries.Answer.{Replied, Heard, Nobody}
use Rattle.tcl_core.specs.Runs.{gone}
use Rattle.tcl_run.specs.Ends.{WhereMemory}
use Rattle.tcl_run.specs.declared.outside.Turn.TheVariants as turn
use Rattle.tcl_run.specs.declared.interruption.Interruption.{Interruption}
use Rattle.std.specs.Prelude.{Result}
-- (of what is given up)
use Rattle.tcl_run.specs.Runs.{ways}
use Rattle.tcl_run.proofs.Endings.{Completes-all, IfRan-more, OnCompletion-more, breaks, completes_err, fails_err, memory_err, on_completion, ran_err, says_err}
use Rattle.tcl_run.proofs.Losing.{lost_again, lost_once}
use Rattle.tcl_run.proofs.Proceeding.{does_proceeds, stopped, stopped_by}
use Rattle.tcl_language.specs.Definitions as definitions
use Rattle.tcl_interpreter.specs.declared.builtin.Builtin.{Builtin}
use Rattle.tcl_evaluation.proofs.FirstOperands.{computes_behind}
use Rattle.tcl_evaluation.proofs.HandPlainly.{acts_proceeds, sum_in, unchanged_runs}
use Rattle.tcl_evaluation.specs.Sums.{CallsAtHand, CallsBuiltin, CallsBuiltinAtHand, CallsNamed, CallsOnHand}
use Rattle.tcl_interpreter.specs.declared.command.Command.TheVariants as command
use Rattle.std.proofs.Common.{Bool}
use Rattle.tcl_parser.specs.Reading.{read_script}
use Rattle.tcl_evaluation.specs.Hands.{AllEnd, IsNamed}
use Rattle.tcl_evaluation.proofs.HandCalling as Calls
use Rattle.tcl_commands.specs.Entries as entries
use Rattle.tcl_commands.specs.Named.{builtin_of, words_of}
use Rattle.tcl_evaluation.proofs.Own.{charged_own, named_own}
use Rattle.tcl_evaluation.proofs.HandPlainly.{there_at}
use Rattle.tcl_tree.specs.declared.tree.Tree.{Tree as Table}
use Rattle.tcl_run.specs.Runs.{IsRunning}
use Rattle.tcl_run.specs.Ends.{OnCompletion}
use Rattle.tcl_value.proofs.Laws.{int_of-number}
use Rattle.tcl_expression_evaluation.proofs.Truths.{truth_of_number}
use Rattle.tcl_evaluation.proofs.Plainly.{asking_last, evaluates_at_proceeds, evaluates_proceeds, gets_proceeds, looks_proceed, passes_proceeds, proceeds_as}
use Rattle.tcl_run.specs.Runs.{room}
use Rattle.tcl_run.specs.declared.outside.Turn.{Turn}
use Rattle.tcl_language.specs.Interpreters.{denied, no_interpreter}
use Rattle.tcl_evaluation.specs.Waiting.{SaysOn}
use Rattle.tcl_calls.specs.Carrying.{IsStanding}
use Rattle.tcl_tree.specs.Gone.{Holds}
use Rattle.tcl_evaluation.proofs.+eval.Goals.{sourcing::source-in_default-via-then-args-lt1, sourcing::source-in_default-via-else-args-lt1+else-args-lt2}
-- (of loops over lists and dicts, and of choices)
use Rattle.tcl_language.specs.Control.{foreach, foreach_form, lmap, lmap_form, lmap_turns}
use Rattle.tcl_language.specs.Changes.{dict as plain_dict}
use Rattle.tcl_language.specs.Expressions.{runs_last}
use Rattle.tcl_language.specs.Instructions.{gives}
use Rattle.tcl_language.specs.Instructions.Instr.{Lmap}
use Rattle.tcl_language.specs.Pairing.{dict as whole_dict, dict_for}
use Rattle.tcl_language.specs.Switching.{choice, exactly, switch}
use Rattle.tcl_language.specs.Trying.{handled, handled_by, tried_of, try_script}
use Rattle.tcl_run.proofs.Proceeding.{passed as passes, read_fails, reads_on}
use Rattle.tcl_text.specs.Writing.{written_list}
use Rattle.tcl_calls.specs.Trying.{handlers_of, seen as tried_seen}
use Rattle.tcl_calls.specs.declared.trying.Handler.{Handler as TriedHandler}
use Rattle.tcl_evaluation.proofs.Choosing
use Rattle.tcl_evaluation.proofs.Gathering
use Rattle.tcl_evaluation.proofs.Gathering.{result_then}
use Rattle.tcl_evaluation.proofs.Walking.{body_then}
use Rattle.tcl_evaluation.proofs.+eval.Goals.{hosting::puts-in_default-via-then-args-lt1, hosting::puts-in_default-via-else-args-lt1+else-args-lt2+else-args-lt3+else-args-lt4}
-- (of what is given up)
use Rattle.tcl_run.proofs.Endings.{ran, ran_text}
use Rattle.tcl_text.proofs.Emptiness.{some_is, zero_is}
use Rattle.tcl_evaluation.proofs.+eval.Goals as goal

-- the call of a command with its words' texts

pub words::call_texts-returns-then-is_empty-clause-runs : goal.words::call_texts-returns-then-is_empty-clause-runs
words::call_texts-returns-then-is_empty-clause-runs g t c = λ q style at.
    let empty : c.args.texts.now ≡ [] = no_item c.args.texts.now (let e = c.is_empty.ensures in let yes = c.if-is_empty.true in grind (arith, nat_tests)) in
    Steps.no_words style c.args.texts.now empty (ap (λ (x : List ℕ). Completed (ok x)) c.empty.ensures)

pub words::call_texts-returns-then-is_empty-clause-here : goal.words::call_texts-returns-then-is_empty-clause-here
words::call_texts-returns-then-is_empty-clause-here g t c = here-refl c.args.tree.now c.args.place

pub words::call_texts-returns-in_err-charge-clause-runs : goal.words::call_texts-returns-in_err-charge-clause-runs
words::call_texts-returns-in_err-charge-clause-runs g t c =
    let some : 1 ≤ length c.args.texts.now = (let e = c.is_empty.ensures in let no = c.if-is_empty.false in grind (arith, nat_tests)) in
    let p = err_from_is_err_and c.from_residual.result c.from_residual.ensures.1 in
    says_err c.from_residual.result c.in_err-charge.field-0.0 p.0 _ _ _ p.1 p.2 c.in_err-charge.ensures.refused
    (λ e h q style at. Steps.charged_stops style c.args.texts.now some (h q at.names))

pub words::call_texts-returns-in_err-charge-clause-here : goal.words::call_texts-returns-in_err-charge-clause-here
words::call_texts-returns-in_err-charge-clause-here g t c = on_completion c.from_residual.result (IsHere c.args.tree.now c.charge.new.tree c.args.place) (level_here c.args.tree.now c.charge.new.tree c.args.place c.charge.ensures.level)

pub words::call_texts-returns-in_err-charge-clause-keeps : goal.words::call_texts-returns-in_err-charge-clause-keeps
words::call_texts-returns-in_err-charge-clause-keeps g t c = charged_keeps c.charge.ensures.level c.charge.ensures.left

pub words::call_texts-call-requires : goal.words::call_texts-call-requires
words::call_texts-call-requires g t c κs within = (search rules, (search rules, still_running c.args.tree.now c.charge.new.tree c.args.place (level_here c.args.tree.now c.charge.new.tree c.args.place c.charge.ensures.level) c.requires))

pub words::call_texts-returns-clause-runs : goal.words::call_texts-returns-clause-runs
words::call_texts-returns-clause-runs g t c =
    let some : 1 ≤ length c.args.texts.now = (let e = c.is_empty.ensures in let no = c.if-is_empty.false in grind (arith, nat_tests)) in
    IfRan-more c.call.result (EndsFrom (ways g.O.Outside.goes g.O.Outside.loses) c.charge.new.tree c.charge.new.outside c.args.place (λ style. called style c.args.texts.now) c.call.new.tree c.call.new.outside)
    (EndsFrom (ways g.O.Outside.goes g.O.Outside.loses) c.args.tree.now c.args.outside.now c.args.place (λ style. words [] c.args.texts.now) c.call.new.tree c.call.new.outside) (λ e h q style at.
    Steps.charged_calls style c.args.texts.now some (c.in_ok-charge.ensures.counted q at.names) (h q style (still_at c.args.tree.now c.charge.new.tree c.args.place q style (level_here c.args.tree.now c.charge.new.tree c.args.place c.charge.ensures.level) at))) c.call.ensures.runs

pub words::call_texts-returns-clause-here : goal.words::call_texts-returns-clause-here
words::call_texts-returns-clause-here g t c = here_then c.call.result c.args.tree.now c.charge.new.tree c.call.new.tree c.args.place (level_here c.args.tree.now c.charge.new.tree c.args.place c.charge.ensures.level) c.call.ensures.here

pub words::call_texts-returns-clause-keeps : goal.words::call_texts-returns-clause-keeps
words::call_texts-returns-clause-keeps g t c = keeps-trans (charged_keeps c.charge.ensures.level c.charge.ensures.left) c.call.ensures.keeps

-- words each of which stands for itself

pub words::call_literals-returns-clause-runs : goal.words::call_literals-returns-clause-runs
words::call_literals-returns-clause-runs g t c =
    IfRan-more c.call_texts.result (EndsFrom (ways g.O.Outside.goes g.O.Outside.loses) c.args.tree.now c.args.outside.now c.args.place (λ style. words [] c.args.words.now) c.call_texts.new.tree c.call_texts.new.outside)
    (EndsFrom (ways g.O.Outside.goes g.O.Outside.loses) c.args.tree.now c.args.outside.now c.args.place (λ style. words (map literal_word c.args.words.now) []) c.call_texts.new.tree c.call_texts.new.outside)
    (λ e h q style at. Steps.lends style c.args.words.now [] c.requires.within (h q style at)) c.call_texts.ensures.runs

pub words::call_literals-returns-in-Builtin-clause-runs : goal.words::call_literals-returns-in-Builtin-clause-runs
words::call_literals-returns-in-Builtin-clause-runs g t c =
    let more = take (length c.args.words.now - 1) (drop 1 c.args.words.now) in
    IfRan-more c.call_known.result
    (CallsBuiltin (ways g.O.Outside.goes g.O.Outside.loses) c.args.tree.now c.args.outside.now c.args.place c.in-Builtin.builtin more c.call_known.new.tree c.call_known.new.outside)
    (EndsFrom (ways g.O.Outside.goes g.O.Outside.loses) c.args.tree.now c.args.outside.now c.args.place (λ style. words (map literal_word c.args.words.now) []) c.call_known.new.tree c.call_known.new.outside)
    (λ e h q style at. let n = stands (tree_of c.args.tree.now q) (tree_there c.args.tree.now q _ at.names) in
    Steps.lends style c.args.words.now [] c.requires.within
    (at_prog (ap (words []) (split_first c.args.words.now c.word-item.result c.in-len1-up.len_at_least c.word-item.is))
    (h c.word-item.result q style n.0 at n.1 (c.in-Some.ensures q n.0 at.names n.1 ∙ ap (λ x. Ok (callee_command x)) c.in-Builtin.is)))) c.call_known.ensures.runs

pub words::call_literals-returns-in-Other-clause-runs : goal.words::call_literals-returns-in-Other-clause-runs
words::call_literals-returns-in-Other-clause-runs g t c =
    let more = take (length c.args.words.now - 1) (drop 1 c.args.words.now) in
    IfRan-more c.call_named.result
    (CallsNamed (ways g.O.Outside.goes g.O.Outside.loses) c.args.tree.now c.args.outside.now c.args.place c.in-Other.command c.word-item.result more c.call_named.new.tree c.call_named.new.outside)
    (EndsFrom (ways g.O.Outside.goes g.O.Outside.loses) c.args.tree.now c.args.outside.now c.args.place (λ style. words (map literal_word c.args.words.now) []) c.call_named.new.tree c.call_named.new.outside)
    (λ e h q style at. let n = stands (tree_of c.args.tree.now q) (tree_there c.args.tree.now q _ at.names) in
    Steps.lends style c.args.words.now [] c.requires.within
    (at_prog (ap (words []) (split_first c.args.words.now c.word-item.result c.in-len1-up.len_at_least c.word-item.is))
    (h q style n.0 at n.1 (c.in-Some.ensures q n.0 at.names n.1 ∙ ap (λ x. Ok (callee_command x)) c.in-Other.is)))) c.call_named.ensures.runs

-- calls whose words are at hand

pub at_hand::call_known-returns-in_err-charge-clause-runs : goal.at_hand::call_known-returns-in_err-charge-clause-runs
at_hand::call_known-returns-in_err-charge-clause-runs g t c =
    let p = err_from_is_err_and c.from_residual.result c.from_residual.ensures.1 in
    says_err c.from_residual.result c.in_err-charge.field-0.0 p.0 _ _ _ p.1 p.2 c.in_err-charge.ensures.refused
    (λ e h word q style n at there named. Steps.charged_stops style (word ∷ c.args.args.now) (omega arith) (h q at.names))

pub at_hand::call_known-returns-in_err-charge-clause-here : goal.at_hand::call_known-returns-in_err-charge-clause-here
at_hand::call_known-returns-in_err-charge-clause-here g t c = on_completion c.from_residual.result (IsHere c.args.tree.now c.charge.new.tree c.args.place) (level_here c.args.tree.now c.charge.new.tree c.args.place c.charge.ensures.level)

pub at_hand::call_known-returns-in_err-charge-clause-keeps : goal.at_hand::call_known-returns-in_err-charge-clause-keeps
at_hand::call_known-returns-in_err-charge-clause-keeps g t c = charged_keeps c.charge.ensures.level c.charge.ensures.left

pub at_hand::call_known-if_first-requires : goal.at_hand::call_known-if_first-requires
at_hand::call_known-if_first-requires g t c κs within = (search rules, (search rules, still_running c.args.tree.now c.charge.new.tree c.args.place (level_here c.args.tree.now c.charge.new.tree c.args.place c.charge.ensures.level) c.requires))

pub at_hand::call_known-returns-in-If-clause-runs : goal.at_hand::call_known-returns-in-If-clause-runs
at_hand::call_known-returns-in-If-clause-runs g t c =
    let named_so = command.Builtin c.args.builtin in
    let args = c.args.args.now in
    IfRan-more c.if_first.result
    (EndsFrom (ways g.O.Outside.goes g.O.Outside.loses) c.charge.new.tree c.charge.new.outside c.args.place (λ style. if_first style args) c.if_first.new.tree c.if_first.new.outside)
    (CallsBuiltin (ways g.O.Outside.goes g.O.Outside.loses) c.args.tree.now c.args.outside.now c.args.place c.args.builtin args c.if_first.new.tree c.if_first.new.outside)
    (λ e h word q style n at there named.
    let counts = c.in_ok-charge.ensures.counted q at.names in
    let m = charged_own (tree_of c.args.tree.now) (tree_of c.charge.new.tree) q q n counts.counted there in
    Steps.charged_calls style (word ∷ args) (omega arith) counts
    (call_found style word args named_so m.1 (named_own n m.0 word named_so m.2 named)
    (at_prog (ap (λ (b : Builtin). builtin_program style b args) c.in-If.is) (h q style (still_at c.args.tree.now c.charge.new.tree c.args.place q style (level_here c.args.tree.now c.charge.new.tree c.args.place c.charge.ensures.level) at)))))
    c.if_first.ensures.runs

pub at_hand::call_known-returns-in-If-clause-here : goal.at_hand::call_known-returns-in-If-clause-here
at_hand::call_known-returns-in-If-clause-here g t c = here_then c.if_first.result c.args.tree.now c.charge.new.tree c.if_first.new.tree c.args.place (level_here c.args.tree.now c.charge.new.tree c.args.place c.charge.ensures.level) c.if_first.ensures.here

pub at_hand::call_known-returns-in-If-clause-keeps : goal.at_hand::call_known-returns-in-If-clause-keeps
at_hand::call_known-returns-in-If-clause-keeps g t c = keeps-trans (charged_keeps c.charge.ensures.level c.charge.ensures.left) c.if_first.ensures.keeps

pub at_hand::call_known-call_builtin-requires : goal.at_hand::call_known-call_builtin-requires
at_hand::call_known-call_builtin-requires g t c κs within = (search rules, (search rules, still_running c.args.tree.now c.charge.new.tree c.args.place (level_here c.args.tree.now c.charge.new.tree c.args.place c.charge.ensures.level) c.requires))

pub at_hand::call_known-returns-clause-runs : goal.at_hand::call_known-returns-clause-runs
at_hand::call_known-returns-clause-runs g t c =
    let named_so = command.Builtin c.args.builtin in
    let args = c.args.args.now in
    IfRan-more c.call_builtin.result
    (EndsFrom (ways g.O.Outside.goes g.O.Outside.loses) c.charge.new.tree c.charge.new.outside c.args.place (λ style. builtin_program style c.args.builtin args) c.call_builtin.new.tree c.call_builtin.new.outside)
    (CallsBuiltin (ways g.O.Outside.goes g.O.Outside.loses) c.args.tree.now c.args.outside.now c.args.place c.args.builtin args c.call_builtin.new.tree c.call_builtin.new.outside)
    (λ e h word q style n at there named.
    let counts = c.in_ok-charge.ensures.counted q at.names in
    let m = charged_own (tree_of c.args.tree.now) (tree_of c.charge.new.tree) q q n counts.counted there in
    Steps.charged_calls style (word ∷ args) (omega arith) counts
    (call_found style word args named_so m.1 (named_own n m.0 word named_so m.2 named)
    (h q style (still_at c.args.tree.now c.charge.new.tree c.args.place q style (level_here c.args.tree.now c.charge.new.tree c.args.place c.charge.ensures.level) at))))
    c.call_builtin.ensures.runs

pub at_hand::call_known-returns-clause-here : goal.at_hand::call_known-returns-clause-here
at_hand::call_known-returns-clause-here g t c = here_then c.call_builtin.result c.args.tree.now c.charge.new.tree c.call_builtin.new.tree c.args.place (level_here c.args.tree.now c.charge.new.tree c.args.place c.charge.ensures.level) c.call_builtin.ensures.here

pub at_hand::call_known-returns-clause-keeps : goal.at_hand::call_known-returns-clause-keeps
at_hand::call_known-returns-clause-keeps g t c = keeps-trans (charged_keeps c.charge.ensures.level c.charge.ensures.left) c.call_builtin.ensures.keeps

pub at_hand::call_named-returns-in-Builtin-clause-runs : goal.at_hand::call_named-returns-in-Builtin-clause-runs
at_hand::call_named-returns-in-Builtin-clause-runs g t c =
    IfRan-more c.call_known.result
    (CallsBuiltin (ways g.O.Outside.goes g.O.Outside.loses) c.args.tree.now c.args.outside.now c.args.place c.in-Builtin.builtin c.args.args.now c.call_known.new.tree c.call_known.new.outside)
    (CallsNamed (ways g.O.Outside.goes g.O.Outside.loses) c.args.tree.now c.args.outside.now c.args.place c.args.command.now c.args.word.now c.args.args.now c.call_known.new.tree c.call_known.new.outside)
    (λ e h q style n at there named. h c.args.word.now q style n at there (subst (λ (x : Command). IsNamed n c.args.word.now x) c.in-Builtin.is named)) c.call_known.ensures.runs

pub at_hand::call_named-returns-in_err-charge-clause-runs : goal.at_hand::call_named-returns-in_err-charge-clause-runs
at_hand::call_named-returns-in_err-charge-clause-runs g t c =
    let p = err_from_is_err_and c.from_residual.result c.from_residual.ensures.1 in
    says_err c.from_residual.result c.in_err-charge.field-0.0 p.0 _ _ _ p.1 p.2 c.in_err-charge.ensures.refused
    (λ e h q style n at there named. Steps.charged_stops style (c.args.word.now ∷ c.args.args.now) (omega arith) (h q at.names))

pub at_hand::call_named-returns-in_err-charge-clause-here : goal.at_hand::call_named-returns-in_err-charge-clause-here
at_hand::call_named-returns-in_err-charge-clause-here g t c = on_completion c.from_residual.result (IsHere c.args.tree.now c.charge.new.tree c.args.place) (level_here c.args.tree.now c.charge.new.tree c.args.place c.charge.ensures.level)

pub at_hand::call_named-returns-in_err-charge-clause-keeps : goal.at_hand::call_named-returns-in_err-charge-clause-keeps
at_hand::call_named-returns-in_err-charge-clause-keeps g t c = charged_keeps c.charge.ensures.level c.charge.ensures.left

pub at_hand::call_named-call_procedure-requires : goal.at_hand::call_named-call_procedure-requires
at_hand::call_named-call_procedure-requires g t c κs within = (search rules, (search rules, still_running c.args.tree.now c.charge.new.tree c.args.place (level_here c.args.tree.now c.charge.new.tree c.args.place c.charge.ensures.level) c.requires))

pub at_hand::call_named-returns-in-Procedure-clause-runs : goal.at_hand::call_named-returns-in-Procedure-clause-runs
at_hand::call_named-returns-in-Procedure-clause-runs g t c =
    let word = c.args.word.now in
    let args = c.args.args.now in
    IfRan-more c.call_procedure.result
    (EndsFrom (ways g.O.Outside.goes g.O.Outside.loses) c.charge.new.tree c.charge.new.outside c.args.place (λ style. procedure c.in-Procedure.procedure word args) c.call_procedure.new.tree c.call_procedure.new.outside)
    (CallsNamed (ways g.O.Outside.goes g.O.Outside.loses) c.args.tree.now c.args.outside.now c.args.place c.args.command.now word args c.call_procedure.new.tree c.call_procedure.new.outside)
    (λ e h q style n at there named.
    let counts = c.in_ok-charge.ensures.counted q at.names in
    let m = charged_own (tree_of c.args.tree.now) (tree_of c.charge.new.tree) q q n counts.counted there in
    Steps.charged_calls style (word ∷ args) (omega arith) counts
    (call_found style word args c.args.command.now m.1 (named_own n m.0 word c.args.command.now m.2 named)
    (at_prog (ap (λ (x : Command). dispatch style word args invalid_command (Some x)) c.in-Procedure.is) (h q style (still_at c.args.tree.now c.charge.new.tree c.args.place q style (level_here c.args.tree.now c.charge.new.tree c.args.place c.charge.ensures.level) at)))))
    c.call_procedure.ensures.runs

pub at_hand::call_named-returns-in-Procedure-clause-here : goal.at_hand::call_named-returns-in-Procedure-clause-here
at_hand::call_named-returns-in-Procedure-clause-here g t c = here_then c.call_procedure.result c.args.tree.now c.charge.new.tree c.call_procedure.new.tree c.args.place (level_here c.args.tree.now c.charge.new.tree c.args.place c.charge.ensures.level) c.call_procedure.ensures.here

pub at_hand::call_named-returns-in-Procedure-clause-keeps : goal.at_hand::call_named-returns-in-Procedure-clause-keeps
at_hand::call_named-returns-in-Procedure-clause-keeps g t c = keeps-trans (charged_keeps c.charge.ensures.level c.charge.ensures.left) c.call_procedure.ensures.keeps

pub at_hand::call_named-call_command-requires : goal.at_hand::call_named-call_command-requires
at_hand::call_named-call_command-requires g t c κs within = (search rules, (search rules, still_running c.args.tree.now c.charge.new.tree c.args.place (level_here c.args.tree.now c.charge.new.tree c.args.place c.charge.ensures.level) c.requires))

pub at_hand::call_named-returns-clause-runs : goal.at_hand::call_named-returns-clause-runs
at_hand::call_named-returns-clause-runs g t c =
    let word = c.args.word.now in
    let args = c.args.args.now in
    IfRan-more c.call_command.result
    (EndsFrom (ways g.O.Outside.goes g.O.Outside.loses) c.charge.new.tree c.charge.new.outside c.args.place (λ style. dispatch style word args invalid_command (Some c.args.command.now)) c.call_command.new.tree c.call_command.new.outside)
    (CallsNamed (ways g.O.Outside.goes g.O.Outside.loses) c.args.tree.now c.args.outside.now c.args.place c.args.command.now word args c.call_command.new.tree c.call_command.new.outside)
    (λ e h q style n at there named.
    let counts = c.in_ok-charge.ensures.counted q at.names in
    let m = charged_own (tree_of c.args.tree.now) (tree_of c.charge.new.tree) q q n counts.counted there in
    Steps.charged_calls style (word ∷ args) (omega arith) counts
    (call_found style word args c.args.command.now m.1 (named_own n m.0 word c.args.command.now m.2 named)
    (h q style (still_at c.args.tree.now c.charge.new.tree c.args.place q style (level_here c.args.tree.now c.charge.new.tree c.args.place c.charge.ensures.level) at))))
    c.call_command.ensures.runs

pub at_hand::call_named-returns-clause-here : goal.at_hand::call_named-returns-clause-here
at_hand::call_named-returns-clause-here g t c = here_then c.call_command.result c.args.tree.now c.charge.new.tree c.call_command.new.tree c.args.place (level_here c.args.tree.now c.charge.new.tree c.args.place c.charge.ensures.level) c.call_command.ensures.here

pub at_hand::call_named-returns-clause-keeps : goal.at_hand::call_named-returns-clause-keeps
at_hand::call_named-returns-clause-keeps g t c = keeps-trans (charged_keeps c.charge.ensures.level c.charge.ensures.left) c.call_command.ensures.keeps

pub at_hand::call_known_on_hand-returns-in_err-count_sum-clause-runs : goal.at_hand::call_known_on_hand-returns-in_err-count_sum-clause-runs
at_hand::call_known_on_hand-returns-in_err-count_sum-clause-runs g t c =
    let p = err_from_is_err_and c.from_residual.result c.from_residual.ensures.1 in
    ran_err c.from_residual.result c.in_err-count_sum.field-0.0 p.0 _ _ _ p.1 p.2 c.in_err-count_sum.ensures.breaks
    (λ e h word q style n at there named ws call.
    let k = subst (λ (b : Bool). AllEnd style n ws b (word ∷ c.args.args.now)) c.if-sums.true call in
    Calls.sum_ends style ws [] (word ∷ c.args.args.now) e there k h.0 (λ inner text is. h.1 q style n (there_at c.args.tree.now c.args.place q style at) there (read_script inner) text is))

pub at_hand::call_known_on_hand-returns-in_err-count_sum-clause-here : goal.at_hand::call_known_on_hand-returns-in_err-count_sum-clause-here
at_hand::call_known_on_hand-returns-in_err-count_sum-clause-here g t c = on_completion c.from_residual.result (IsHere c.args.tree.now c.count_sum.new.tree c.args.place) c.count_sum.ensures.here

pub at_hand::call_known_on_hand-call_known-requires : goal.at_hand::call_known_on_hand-call_known-requires
at_hand::call_known_on_hand-call_known-requires g t c κs within = (search rules, (search rules, still_running c.args.tree.now c.count_sum.new.tree c.args.place c.count_sum.ensures.here c.requires))

pub at_hand::call_known_on_hand-returns-then-sums-clause-runs : goal.at_hand::call_known_on_hand-returns-then-sums-clause-runs
at_hand::call_known_on_hand-returns-then-sums-clause-runs g t c =
    IfRan-more c.call_known.result
    (CallsBuiltin (ways g.O.Outside.goes g.O.Outside.loses) c.count_sum.new.tree c.count_sum.new.outside c.args.place c.args.builtin c.args.args.now c.call_known.new.tree c.call_known.new.outside)
    (CallsBuiltinAtHand (ways g.O.Outside.goes g.O.Outside.loses) c.args.tree.now c.args.outside.now c.args.place c.args.builtin c.args.sums c.args.args.now c.call_known.new.tree c.call_known.new.outside)
    (λ e h word q style n at there named ws call.
    let k = subst (λ (b : Bool). AllEnd style n ws b (word ∷ c.args.args.now)) c.if-sums.true call in
    let m = c.in_ok-count_sum.ensures.own q n at.names there in
    Calls.sum_goes style ws [] (word ∷ c.args.args.now) there k (λ inner text is. c.in_ok-count_sum.ensures.sums q style n (there_at c.args.tree.now c.args.place q style at) there (read_script inner) text is) m.1 m.2
    (h word q style m.0 (still_at c.args.tree.now c.count_sum.new.tree c.args.place q style c.count_sum.ensures.here at) m.1 (named_own n m.0 word (command.Builtin c.args.builtin) m.2 named)))
    c.call_known.ensures.runs

pub at_hand::call_known_on_hand-returns-then-sums-clause-here : goal.at_hand::call_known_on_hand-returns-then-sums-clause-here
at_hand::call_known_on_hand-returns-then-sums-clause-here g t c = here_then c.call_known.result c.args.tree.now c.count_sum.new.tree c.call_known.new.tree c.args.place c.count_sum.ensures.here c.call_known.ensures.here

pub at_hand::call_known_on_hand-returns-then-sums-clause-keeps : goal.at_hand::call_known_on_hand-returns-then-sums-clause-keeps
at_hand::call_known_on_hand-returns-then-sums-clause-keeps g t c = keeps-trans c.count_sum.ensures.keeps c.call_known.ensures.keeps

pub at_hand::call_known_on_hand-returns-clause-runs : goal.at_hand::call_known_on_hand-returns-clause-runs
at_hand::call_known_on_hand-returns-clause-runs g t c =
    IfRan-more c.call_known-2.result
    (CallsBuiltin (ways g.O.Outside.goes g.O.Outside.loses) c.args.tree.now c.args.outside.now c.args.place c.args.builtin c.args.args.now c.call_known-2.new.tree c.call_known-2.new.outside)
    (CallsBuiltinAtHand (ways g.O.Outside.goes g.O.Outside.loses) c.args.tree.now c.args.outside.now c.args.place c.args.builtin c.args.sums c.args.args.now c.call_known-2.new.tree c.call_known-2.new.outside)
    (λ e h word q style n at there named ws call.
    let k = subst (λ (b : Bool). AllEnd style n ws b (word ∷ c.args.args.now)) c.if-sums.false call in
    Calls.plain_goes style ws (word ∷ c.args.args.now) there k (h word q style n at there named))
    c.call_known-2.ensures.runs

pub at_hand::call_named_on_hand-returns-in_err-count_sum-clause-runs : goal.at_hand::call_named_on_hand-returns-in_err-count_sum-clause-runs
at_hand::call_named_on_hand-returns-in_err-count_sum-clause-runs g t c =
    let p = err_from_is_err_and c.from_residual.result c.from_residual.ensures.1 in
    ran_err c.from_residual.result c.in_err-count_sum.field-0.0 p.0 _ _ _ p.1 p.2 c.in_err-count_sum.ensures.breaks
    (λ e h q style n at there named ws call.
    let k = subst (λ (b : Bool). AllEnd style n ws b (c.args.word.now ∷ c.args.args.now)) c.if-sums.true call in
    Calls.sum_ends style ws [] (c.args.word.now ∷ c.args.args.now) e there k h.0 (λ inner text is. h.1 q style n (there_at c.args.tree.now c.args.place q style at) there (read_script inner) text is))

pub at_hand::call_named_on_hand-returns-in_err-count_sum-clause-here : goal.at_hand::call_named_on_hand-returns-in_err-count_sum-clause-here
at_hand::call_named_on_hand-returns-in_err-count_sum-clause-here g t c = on_completion c.from_residual.result (IsHere c.args.tree.now c.count_sum.new.tree c.args.place) c.count_sum.ensures.here

pub at_hand::call_named_on_hand-call_named-requires : goal.at_hand::call_named_on_hand-call_named-requires
at_hand::call_named_on_hand-call_named-requires g t c κs within = (search rules, (search rules, still_running c.args.tree.now c.count_sum.new.tree c.args.place c.count_sum.ensures.here c.requires))

pub at_hand::call_named_on_hand-returns-then-sums-clause-runs : goal.at_hand::call_named_on_hand-returns-then-sums-clause-runs
at_hand::call_named_on_hand-returns-then-sums-clause-runs g t c =
    IfRan-more c.call_named.result
    (CallsNamed (ways g.O.Outside.goes g.O.Outside.loses) c.count_sum.new.tree c.count_sum.new.outside c.args.place c.args.command.now c.args.word.now c.args.args.now c.call_named.new.tree c.call_named.new.outside)
    (CallsAtHand (ways g.O.Outside.goes g.O.Outside.loses) c.args.tree.now c.args.outside.now c.args.place c.args.command.now c.args.word.now c.args.sums c.args.args.now c.call_named.new.tree c.call_named.new.outside)
    (λ e h q style n at there named ws call.
    let k = subst (λ (b : Bool). AllEnd style n ws b (c.args.word.now ∷ c.args.args.now)) c.if-sums.true call in
    let m = c.in_ok-count_sum.ensures.own q n at.names there in
    Calls.sum_goes style ws [] (c.args.word.now ∷ c.args.args.now) there k (λ inner text is. c.in_ok-count_sum.ensures.sums q style n (there_at c.args.tree.now c.args.place q style at) there (read_script inner) text is) m.1 m.2
    (h q style m.0 (still_at c.args.tree.now c.count_sum.new.tree c.args.place q style c.count_sum.ensures.here at) m.1 (named_own n m.0 c.args.word.now c.args.command.now m.2 named)))
    c.call_named.ensures.runs

pub at_hand::call_named_on_hand-returns-then-sums-clause-here : goal.at_hand::call_named_on_hand-returns-then-sums-clause-here
at_hand::call_named_on_hand-returns-then-sums-clause-here g t c = here_then c.call_named.result c.args.tree.now c.count_sum.new.tree c.call_named.new.tree c.args.place c.count_sum.ensures.here c.call_named.ensures.here

pub at_hand::call_named_on_hand-returns-then-sums-clause-keeps : goal.at_hand::call_named_on_hand-returns-then-sums-clause-keeps
at_hand::call_named_on_hand-returns-then-sums-clause-keeps g t c = keeps-trans c.count_sum.ensures.keeps c.call_named.ensures.keeps

pub at_hand::call_named_on_hand-returns-clause-runs : goal.at_hand::call_named_on_hand-returns-clause-runs
at_hand::call_named_on_hand-returns-clause-runs g t c =
    IfRan-more c.call_named-2.result
    (CallsNamed (ways g.O.Outside.goes g.O.Outside.loses) c.args.tree.now c.args.outside.now c.args.place c.args.command.now c.args.word.now c.args.args.now c.call_named-2.new.tree c.call_named-2.new.outside)
    (CallsAtHand (ways g.O.Outside.goes g.O.Outside.loses) c.args.tree.now c.args.outside.now c.args.place c.args.command.now c.args.word.now c.args.sums c.args.args.now c.call_named-2.new.tree c.call_named-2.new.outside)
    (λ e h q style n at there named ws call.
    let k = subst (λ (b : Bool). AllEnd style n ws b (c.args.word.now ∷ c.args.args.now)) c.if-sums.false call in
    Calls.plain_goes style ws (c.args.word.now ∷ c.args.args.now) there k (h q style n at there named))
    c.call_named-2.ensures.runs

pub at_hand::call_on_hand-returns-in-Builtin-clause-runs : goal.at_hand::call_on_hand-returns-in-Builtin-clause-runs
at_hand::call_on_hand-returns-in-Builtin-clause-runs g t c =
    let name = c.args.name.now in
    IfRan-more c.call_known_on_hand.result
    (CallsBuiltinAtHand (ways g.O.Outside.goes g.O.Outside.loses) c.args.tree.now c.args.outside.now c.args.place c.in-Builtin.builtin c.args.sums c.args.args.now c.call_known_on_hand.new.tree c.call_known_on_hand.new.outside)
    (CallsOnHand (ways g.O.Outside.goes g.O.Outside.loses) c.args.tree.now c.args.outside.now c.args.place name c.args.sums c.args.args.now c.call_known_on_hand.new.tree c.call_known_on_hand.new.outside)
    (λ e h q style n at there ws ends.
    let literal = Calls.literal_stands n.own.chain.frames (literal_word name) name refl (Steps.within_fits name c.keeps_limit.ensures) in
    let named : IsNamed n name (command.Builtin c.in-Builtin.builtin) = c.in_ok-callee.ensures q n at.names there ∙ ap (λ x. Ok (callee_command x)) c.in-Builtin.is in
    h name q style n at there named (literal_word name ∷ ws) (inl (literal, ends)))
    c.call_known_on_hand.ensures.runs

pub at_hand::call_on_hand-returns-in-Other-clause-runs : goal.at_hand::call_on_hand-returns-in-Other-clause-runs
at_hand::call_on_hand-returns-in-Other-clause-runs g t c =
    let name = c.args.name.now in
    IfRan-more c.call_named_on_hand.result
    (CallsAtHand (ways g.O.Outside.goes g.O.Outside.loses) c.args.tree.now c.args.outside.now c.args.place c.in-Other.command name c.args.sums c.args.args.now c.call_named_on_hand.new.tree c.call_named_on_hand.new.outside)
    (CallsOnHand (ways g.O.Outside.goes g.O.Outside.loses) c.args.tree.now c.args.outside.now c.args.place name c.args.sums c.args.args.now c.call_named_on_hand.new.tree c.call_named_on_hand.new.outside)
    (λ e h q style n at there ws ends.
    let literal = Calls.literal_stands n.own.chain.frames (literal_word name) name refl (Steps.within_fits name c.keeps_limit.ensures) in
    let named : IsNamed n name c.in-Other.command = c.in_ok-callee.ensures q n at.names there ∙ ap (λ x. Ok (callee_command x)) c.in-Other.is in
    h q style n at there named (literal_word name ∷ ws) (inl (literal, ends)))
    c.call_named_on_hand.ensures.runs

pub at_hand::call_one_at_hand-returns-clause-runs : goal.at_hand::call_one_at_hand-returns-clause-runs
at_hand::call_one_at_hand-returns-clause-runs g t c =
    let name = c.args.name.now in
    let style_read = c.args.tree.now.integers in
    let word = seen_word c.word-item.result in
    let is = one_item c.args.words.now c.word-item.result c.in-len1.len_at_least c.in-len1.len_below c.word-item.is in
    Calls.some_more c.call_on_hand.result _ _
    (λ ended. IfRan-more ended
    (CallsOnHand (ways g.O.Outside.goes g.O.Outside.loses) c.args.tree.now c.args.outside.now c.args.place name c.in_ok-value.sums (c.in_ok-value.value ∷ []) c.call_on_hand.new.tree c.call_on_hand.new.outside)
    (EndsFrom (ways g.O.Outside.goes g.O.Outside.loses) c.args.tree.now c.args.outside.now c.args.place (λ style. words (literal_word c.args.name.now ∷ map seen_word c.args.words.now) []) c.call_on_hand.new.tree c.call_on_hand.new.outside)
    (λ e k q style at.
    let n = stands (tree_of c.args.tree.now q) (tree_there c.args.tree.now q _ at.names) in
    at_prog (ap (λ (ws : List PreparedWord). words (literal_word name ∷ map seen_word ws) []) is)
    (k q style n.0 at n.1 (word ∷ [])
    (subst (λ (s : Integers). AllEnd s n.0 (word ∷ []) c.in_ok-value.sums (c.in_ok-value.value ∷ [])) at.style_is
    (Calls.ends_one style_read n.0 word c.in_ok-value.sums c.in_ok-value.value (c.in_ok-value.ensures q n.0 at.names n.1))))))
    c.call_on_hand.ensures.runs

pub at_hand::call_two_at_hand-returns-clause-runs : goal.at_hand::call_two_at_hand-returns-clause-runs
at_hand::call_two_at_hand-returns-clause-runs g t c =
    let name = c.args.name.now in
    let style_read = c.args.tree.now.integers in
    let first = seen_word c.first-item.result in
    let second = seen_word c.second-item.result in
    let is = two_items c.args.words.now c.first-item.result c.second-item.result c.in-len2.len_at_least c.in-len2.len_below c.first-item.is c.second-item.is in
    Calls.some_more c.call_on_hand.result _ _
    (λ ended. IfRan-more ended
    (CallsOnHand (ways g.O.Outside.goes g.O.Outside.loses) c.args.tree.now c.args.outside.now c.args.place name c.in_ok-sums.sums (c.in_ok-a.a ∷ c.in_ok-b.b ∷ []) c.call_on_hand.new.tree c.call_on_hand.new.outside)
    (EndsFrom (ways g.O.Outside.goes g.O.Outside.loses) c.args.tree.now c.args.outside.now c.args.place (λ style. words (literal_word c.args.name.now ∷ map seen_word c.args.words.now) []) c.call_on_hand.new.tree c.call_on_hand.new.outside)
    (λ e k q style at.
    let n = stands (tree_of c.args.tree.now q) (tree_there c.args.tree.now q _ at.names) in
    at_prog (ap (λ (ws : List PreparedWord). words (literal_word name ∷ map seen_word ws) []) is)
    (k q style n.0 at n.1 (first ∷ second ∷ [])
    (subst (λ (s : Integers). AllEnd s n.0 (first ∷ second ∷ []) c.in_ok-sums.sums (c.in_ok-a.a ∷ c.in_ok-b.b ∷ [])) at.style_is
    (Calls.two_end style_read n.0 first second c.in_ok-a.in_first c.in_ok-b.in_second c.in_ok-sums.sums c.in_ok-a.a c.in_ok-b.b (sym c.in_ok-sums.ensures) (c.in_ok-a.ensures q n.0 at.names n.1) (c.in_ok-b.ensures q n.0 at.names n.1))))))
    c.call_on_hand.ensures.runs

pub at_hand::call_three_words-returns-clause-runs : goal.at_hand::call_three_words-returns-clause-runs
at_hand::call_three_words-returns-clause-runs g t c =
    let name = c.args.name.now in
    let style_read = c.args.tree.now.integers in
    let first = seen_word c.first-item.result in
    let second = seen_word c.second-item.result in
    let third = seen_word c.third-item.result in
    let is = three_items c.args.words.now c.first-item.result c.second-item.result c.third-item.result c.in-len3.len_at_least c.in-len3.len_below c.first-item.is c.second-item.is c.third-item.is in
    Calls.some_more c.call_on_hand.result _ _
    (λ ended. IfRan-more ended
    (CallsOnHand (ways g.O.Outside.goes g.O.Outside.loses) c.args.tree.now c.args.outside.now c.args.place name c.in_ok-sums.sums (c.in_ok-a.a ∷ c.in_ok-b.b ∷ c.in_ok-c.c ∷ []) c.call_on_hand.new.tree c.call_on_hand.new.outside)
    (EndsFrom (ways g.O.Outside.goes g.O.Outside.loses) c.args.tree.now c.args.outside.now c.args.place (λ style. words (literal_word c.args.name.now ∷ map seen_word c.args.words.now) []) c.call_on_hand.new.tree c.call_on_hand.new.outside)
    (λ e k q style at.
    let n = stands (tree_of c.args.tree.now q) (tree_there c.args.tree.now q _ at.names) in
    at_prog (ap (λ (ws : List PreparedWord). words (literal_word name ∷ map seen_word ws) []) is)
    (k q style n.0 at n.1 (first ∷ second ∷ third ∷ [])
    (subst (λ (s : Integers). AllEnd s n.0 (first ∷ second ∷ third ∷ []) c.in_ok-sums.sums (c.in_ok-a.a ∷ c.in_ok-b.b ∷ c.in_ok-c.c ∷ [])) at.style_is
    (Calls.ends_append style_read n.0 (first ∷ second ∷ []) (third ∷ []) (c.in_ok-a.a ∷ c.in_ok-b.b ∷ []) (c.in_ok-c.c ∷ []) c.in_ok-before.before c.in_ok-c.in_third c.in_ok-sums.sums (sym c.in_ok-sums.ensures)
    (Calls.two_end style_read n.0 first second c.in_ok-a.in_first c.in_ok-b.in_second c.in_ok-before.before c.in_ok-a.a c.in_ok-b.b (sym c.in_ok-before.ensures) (c.in_ok-a.ensures q n.0 at.names n.1) (c.in_ok-b.ensures q n.0 at.names n.1))
    (Calls.ends_one style_read n.0 third c.in_ok-c.in_third c.in_ok-c.c (c.in_ok-c.ensures q n.0 at.names n.1)))))))
    c.call_on_hand.ensures.runs

pub at_hand::call_four_words-returns-clause-runs : goal.at_hand::call_four_words-returns-clause-runs
at_hand::call_four_words-returns-clause-runs g t c =
    let name = c.args.name.now in
    let style_read = c.args.tree.now.integers in
    let first = seen_word c.first-item.result in
    let second = seen_word c.second-item.result in
    let third = seen_word c.third-item.result in
    let fourth = seen_word c.fourth-item.result in
    let is = four_items c.args.words.now c.first-item.result c.second-item.result c.third-item.result c.fourth-item.result c.in-len4.len_at_least c.in-len4.len_below c.first-item.is c.second-item.is c.third-item.is c.fourth-item.is in
    Calls.some_more c.call_on_hand.result _ _
    (λ ended. IfRan-more ended
    (CallsOnHand (ways g.O.Outside.goes g.O.Outside.loses) c.args.tree.now c.args.outside.now c.args.place name c.in_ok-sums.sums (c.in_ok-a.a ∷ c.in_ok-b.b ∷ c.in_ok-c.c ∷ c.in_ok-d.d ∷ []) c.call_on_hand.new.tree c.call_on_hand.new.outside)
    (EndsFrom (ways g.O.Outside.goes g.O.Outside.loses) c.args.tree.now c.args.outside.now c.args.place (λ style. words (literal_word c.args.name.now ∷ map seen_word c.args.words.now) []) c.call_on_hand.new.tree c.call_on_hand.new.outside)
    (λ e k q style at.
    let n = stands (tree_of c.args.tree.now q) (tree_there c.args.tree.now q _ at.names) in
    at_prog (ap (λ (ws : List PreparedWord). words (literal_word name ∷ map seen_word ws) []) is)
    (k q style n.0 at n.1 (first ∷ second ∷ third ∷ fourth ∷ [])
    (subst (λ (s : Integers). AllEnd s n.0 (first ∷ second ∷ third ∷ fourth ∷ []) c.in_ok-sums.sums (c.in_ok-a.a ∷ c.in_ok-b.b ∷ c.in_ok-c.c ∷ c.in_ok-d.d ∷ [])) at.style_is
    (Calls.ends_append style_read n.0 (first ∷ second ∷ []) (third ∷ fourth ∷ []) (c.in_ok-a.a ∷ c.in_ok-b.b ∷ []) (c.in_ok-c.c ∷ c.in_ok-d.d ∷ []) c.in_ok-before.before c.in_ok-behind.behind c.in_ok-sums.sums (sym c.in_ok-sums.ensures)
    (Calls.two_end style_read n.0 first second c.in_ok-a.in_first c.in_ok-b.in_second c.in_ok-before.before c.in_ok-a.a c.in_ok-b.b (sym c.in_ok-before.ensures) (c.in_ok-a.ensures q n.0 at.names n.1) (c.in_ok-b.ensures q n.0 at.names n.1))
    (Calls.two_end style_read n.0 third fourth c.in_ok-c.in_third c.in_ok-d.in_fourth c.in_ok-behind.behind c.in_ok-c.c c.in_ok-d.d (sym c.in_ok-behind.ensures) (c.in_ok-c.ensures q n.0 at.names n.1) (c.in_ok-d.ensures q n.0 at.names n.1)))))))
    c.call_on_hand.ensures.runs

-- a change of an entry

pub at_hand::change_entry_or_call-returns-in-Some-clause-runs : goal.at_hand::change_entry_or_call-returns-in-Some-clause-runs
at_hand::change_entry_or_call-returns-in-Some-clause-runs g t c =
    let name = c.args.name.now in
    let change = c.in-Some.change in
    let args = entries.words_of c.in-Some.variable.now change in
    let ws = literal_word name ∷ map seen_word c.args.words.now in
    IfRan-more c.call_entry_change_on_hand.result
    (CallsBuiltinAtHand (ways g.O.Outside.goes g.O.Outside.loses) c.args.tree.now c.args.outside.now c.args.place (entries.builtin_of change) c.in-Some.sums args c.call_entry_change_on_hand.new.tree c.call_entry_change_on_hand.new.outside)
    (EndsFrom (ways g.O.Outside.goes g.O.Outside.loses) c.args.tree.now c.args.outside.now c.args.place (λ style. words ws []) c.call_entry_change_on_hand.new.tree c.call_entry_change_on_hand.new.outside)
    (λ e k q style at.
    let n = stands (tree_of c.args.tree.now q) (tree_there c.args.tree.now q _ at.names) in
    let there = c.in-Some.ensures q n.0 at.names n.1 in
    let literal = Calls.literal_stands n.0.own.chain.frames (literal_word name) name refl (Steps.within_fits name c.keeps_limit.ensures) in
    k name q style n.0 at n.1 there.0 ws (subst (λ (s : Integers). AllEnd s n.0 ws c.in-Some.sums (name ∷ args)) at.style_is (inl (literal, there.1))))
    c.call_entry_change_on_hand.ensures.runs

-- the words of commands, by how many there are

pub at_hand::call_at_hand-returns-in-len1-clause-runs : goal.at_hand::call_at_hand-returns-in-len1-clause-runs
at_hand::call_at_hand-returns-in-len1-clause-runs g t c =
    let rest = take (length c.args.words.now - 1) (drop 1 c.args.words.now) in
    let name = c.in-Literal.name in
    let seen = ap (λ (ws : List PreparedWord). words (map seen_word ws) []) (split_first c.args.words.now c.first-item.result c.in-len1-up.len_at_least c.first-item.is) ∙ ap (λ (w : WordRead). words (w ∷ map seen_word rest) []) (ap seen_word c.in-Literal.is) in
    Calls.some_more c.call_one_at_hand.result _ _
    (λ ended. IfRan-more ended (EndsFrom (ways g.O.Outside.goes g.O.Outside.loses) c.args.tree.now c.args.outside.now c.args.place (λ style. words (literal_word name ∷ map seen_word rest) []) c.call_one_at_hand.new.tree c.call_one_at_hand.new.outside) (EndsFrom (ways g.O.Outside.goes g.O.Outside.loses) c.args.tree.now c.args.outside.now c.args.place (λ style. words (map seen_word c.args.words.now) []) c.call_one_at_hand.new.tree c.call_one_at_hand.new.outside)
    (λ e k q style at. at_prog seen (k q style at)))
    c.call_one_at_hand.ensures.runs

pub at_hand::call_at_hand-returns-in-len2-clause-runs : goal.at_hand::call_at_hand-returns-in-len2-clause-runs
at_hand::call_at_hand-returns-in-len2-clause-runs g t c =
    let rest = take (length c.args.words.now - 1) (drop 1 c.args.words.now) in
    let name = c.in-Literal.name in
    let seen = ap (λ (ws : List PreparedWord). words (map seen_word ws) []) (split_first c.args.words.now c.first-item.result c.in-len1-up.len_at_least c.first-item.is) ∙ ap (λ (w : WordRead). words (w ∷ map seen_word rest) []) (ap seen_word c.in-Literal.is) in
    Calls.some_more c.call_two_at_hand.result _ _
    (λ ended. IfRan-more ended (EndsFrom (ways g.O.Outside.goes g.O.Outside.loses) c.args.tree.now c.args.outside.now c.args.place (λ style. words (literal_word name ∷ map seen_word rest) []) c.call_two_at_hand.new.tree c.call_two_at_hand.new.outside) (EndsFrom (ways g.O.Outside.goes g.O.Outside.loses) c.args.tree.now c.args.outside.now c.args.place (λ style. words (map seen_word c.args.words.now) []) c.call_two_at_hand.new.tree c.call_two_at_hand.new.outside)
    (λ e k q style at. at_prog seen (k q style at)))
    c.call_two_at_hand.ensures.runs

pub at_hand::call_at_hand-returns-in-len3-clause-runs : goal.at_hand::call_at_hand-returns-in-len3-clause-runs
at_hand::call_at_hand-returns-in-len3-clause-runs g t c =
    let rest = take (length c.args.words.now - 1) (drop 1 c.args.words.now) in
    let name = c.in-Literal.name in
    let seen = ap (λ (ws : List PreparedWord). words (map seen_word ws) []) (split_first c.args.words.now c.first-item.result c.in-len1-up.len_at_least c.first-item.is) ∙ ap (λ (w : WordRead). words (w ∷ map seen_word rest) []) (ap seen_word c.in-Literal.is) in
    Calls.some_more c.call_three_at_hand.result _ _
    (λ ended. IfRan-more ended (EndsFrom (ways g.O.Outside.goes g.O.Outside.loses) c.args.tree.now c.args.outside.now c.args.place (λ style. words (literal_word name ∷ map seen_word rest) []) c.call_three_at_hand.new.tree c.call_three_at_hand.new.outside) (EndsFrom (ways g.O.Outside.goes g.O.Outside.loses) c.args.tree.now c.args.outside.now c.args.place (λ style. words (map seen_word c.args.words.now) []) c.call_three_at_hand.new.tree c.call_three_at_hand.new.outside)
    (λ e k q style at. at_prog seen (k q style at)))
    c.call_three_at_hand.ensures.runs

pub at_hand::call_at_hand-returns-in-len4-clause-runs : goal.at_hand::call_at_hand-returns-in-len4-clause-runs
at_hand::call_at_hand-returns-in-len4-clause-runs g t c =
    let rest = take (length c.args.words.now - 1) (drop 1 c.args.words.now) in
    let name = c.in-Literal.name in
    let seen = ap (λ (ws : List PreparedWord). words (map seen_word ws) []) (split_first c.args.words.now c.first-item.result c.in-len1-up.len_at_least c.first-item.is) ∙ ap (λ (w : WordRead). words (w ∷ map seen_word rest) []) (ap seen_word c.in-Literal.is) in
    Calls.some_more c.call_four_at_hand.result _ _
    (λ ended. IfRan-more ended (EndsFrom (ways g.O.Outside.goes g.O.Outside.loses) c.args.tree.now c.args.outside.now c.args.place (λ style. words (literal_word name ∷ map seen_word rest) []) c.call_four_at_hand.new.tree c.call_four_at_hand.new.outside) (EndsFrom (ways g.O.Outside.goes g.O.Outside.loses) c.args.tree.now c.args.outside.now c.args.place (λ style. words (map seen_word c.args.words.now) []) c.call_four_at_hand.new.tree c.call_four_at_hand.new.outside)
    (λ e k q style at. at_prog seen (k q style at)))
    c.call_four_at_hand.ensures.runs

-- words in general

pub words::call_words-call_general-requires : goal.words::call_words-call_general-requires
words::call_words-call_general-requires g t c κs within = (search rules, (search rules, subst (λ (x : Table). IsRunning x c.args.place) (sym c.in_default.ensures.unchanged.0) c.requires.running))

pub words::call_words-returns-clause-runs : goal.words::call_words-returns-clause-runs
words::call_words-returns-clause-runs g t c =
    unchanged_runs (ways g.O.Outside.goes g.O.Outside.loses) c.args.tree.now c.call_at_hand.new.tree c.call_general.new.tree c.args.outside.now c.call_at_hand.new.outside c.call_general.new.outside c.args.place (λ style. words (map seen_word c.args.words.now) []) c.call_general.result
    c.in_default.ensures.unchanged.0 c.in_default.ensures.unchanged.1 c.call_general.ensures.runs

pub words::call_words-returns-clause-here : goal.words::call_words-returns-clause-here
words::call_words-returns-clause-here g t c = subst (λ (x : Table). OnCompletion c.call_general.result (IsHere x c.call_general.new.tree c.args.place)) c.in_default.ensures.unchanged.0 c.call_general.ensures.here

pub words::call_words-returns-clause-keeps : goal.words::call_words-returns-clause-keeps
words::call_words-returns-clause-keeps g t c = keeps-trans c.call_at_hand.ensures.keeps c.call_general.ensures.keeps

-- a change of a variable

pub words::change_or_call-returns-in-Some-clause-runs : goal.words::change_or_call-returns-in-Some-clause-runs
words::change_or_call-returns-in-Some-clause-runs g t c =
    let name = c.in-Some.name.now in
    let change = c.in-Some.change in
    let found = c.in-Some.ensures in
    IfRan-more c.call_change_on_hand.result
    (CallsBuiltinAtHand (ways g.O.Outside.goes g.O.Outside.loses) c.args.tree.now c.args.outside.now c.args.place (builtin_of change) c.in-Some.sums (name ∷ words_of change) c.call_change_on_hand.new.tree c.call_change_on_hand.new.outside)
    (EndsFrom (ways g.O.Outside.goes g.O.Outside.loses) c.args.tree.now c.args.outside.now c.args.place (λ style. words (map seen_word c.args.words.now) []) c.call_change_on_hand.new.tree c.call_change_on_hand.new.outside)
    (λ e k q style at.
    let n = stands (tree_of c.args.tree.now q) (tree_there c.args.tree.now q _ at.names) in
    let there = found.1 q n.0 at.names n.1 in
    k found.0 q style n.0 at n.1 there.0 (map seen_word c.args.words.now)
    (subst (λ (s : Integers). AllEnd s n.0 (map seen_word c.args.words.now) c.in-Some.sums (found.0 ∷ name ∷ words_of change)) at.style_is there.1))
    c.call_change_on_hand.ensures.runs

-- a change of a variable to what is evaluated

pub words::call_with_value-returns-in_err-first-clause-runs : goal.words::call_with_value-returns-in_err-first-clause-runs
words::call_with_value-returns-in_err-first-clause-runs g t c =
    let p = err_from_is_err_and c.from_residual.result c.from_residual.ensures.1 in
    memory_err c.from_residual.result p.0 _ _ p.1 p.2 (λ q style at. stopped)

pub words::call_with_value-returns-in_err-first-clause-here : goal.words::call_with_value-returns-in_err-first-clause-here
words::call_with_value-returns-in_err-first-clause-here g t c = unmoved c.from_residual.result c.args.tree.now c.args.place

pub words::call_with_value-returns-in_err-second-clause-runs : goal.words::call_with_value-returns-in_err-second-clause-runs
words::call_with_value-returns-in_err-second-clause-runs g t c =
    let p = err_from_is_err_and c.from_residual-in_err-second.result c.from_residual-in_err-second.ensures.1 in
    memory_err c.from_residual-in_err-second.result p.0 _ _ p.1 p.2 (λ q style at. stopped)

pub words::call_with_value-returns-in_err-second-clause-here : goal.words::call_with_value-returns-in_err-second-clause-here
words::call_with_value-returns-in_err-second-clause-here g t c = unmoved c.from_residual-in_err-second.result c.args.tree.now c.args.place

pub words::change_to-returns-in-Ok-clause-runs : goal.words::change_to-returns-in-Ok-clause-runs
words::change_to-returns-in-Ok-clause-runs g t c =
    let change = c.in-Ok.change in
    let name = c.name.result.now in
    let args : name ∷ words_of change ≡ c.args.variable.now ∷ c.args.value ∷ [] =
    ap (λ (x : List ℕ). x ∷ words_of change) c.name.ensures.name ∙ ap (λ (xs : List (List ℕ)). c.args.variable.now ∷ xs) c.in-Ok.ensures.change.1
    in
    IfRan-more c.call_change.result
    (CallsBuiltin (ways g.O.Outside.goes g.O.Outside.loses) c.args.tree.now c.args.outside.now c.args.place (builtin_of change) (name ∷ words_of change) c.call_change.new.tree c.call_change.new.outside)
    (EndsFrom (ways g.O.Outside.goes g.O.Outside.loses) c.args.tree.now c.args.outside.now c.args.place (λ style. words [] (c.args.command.now ∷ c.args.variable.now ∷ c.args.value ∷ [])) c.call_change.new.tree c.call_change.new.outside)
    (λ e h q style at. let n = stands (tree_of c.args.tree.now q) (tree_there c.args.tree.now q _ at.names) in
    at_prog (ap (λ (xs : List (List ℕ)). words [] (c.args.command.now ∷ xs)) (sym args))
    (h c.args.command.now q style n.0 at n.1 (c.in-Some.ensures q n.0 at.names n.1 ∙ ap (λ b. Ok (command.Builtin b)) (sym c.in-Ok.ensures.change.0)))) c.call_change.ensures.runs

pub words::change_by_part-returns-in_err-value-clause-runs : goal.words::change_by_part-returns-in_err-value-clause-runs
words::change_by_part-returns-in_err-value-clause-runs g t c =
    let word : WordRead = record { parts = seen_part c.args.part.now ∷ []; expand = false } in
    let p = err_from_is_err_and c.from_residual.result c.from_residual.ensures.1 in
    ran_err c.from_residual.result c.in_err-value.field-0.0 p.0 _ _ _ p.1 p.2
    (stays_of c.eval_lone_part.result c.in_err-value.field-0.0 (EndsFrom (ways g.O.Outside.goes g.O.Outside.loses) c.args.tree.now c.args.outside.now c.args.place (λ style. parts (seen_part c.args.part.now ∷ []) [] []) c.eval_lone_part.new.tree c.eval_lone_part.new.outside) c.in_err-value.ensures.same c.eval_lone_part.ensures.runs c.in_err-value.ensures.stays)
    (λ e h q style at. Steps.two_lend style c.args.command.now c.args.variable.now (word ∷ []) c.keeps_limit.ensures c.name-name.ensures.within
    (Steps.word_stays style word [] (c.args.command.now ∷ c.args.variable.now ∷ []) e h.1 (h.0 q style at)))

pub words::change_by_part-returns-in_err-value-clause-here : goal.words::change_by_part-returns-in_err-value-clause-here
words::change_by_part-returns-in_err-value-clause-here g t c =
    let p = err_from_is_err_and c.from_residual.result c.from_residual.ensures.1 in
    here_passed c.from_residual.result c.eval_lone_part.result c.in_err-value.field-0.0 p.0 c.args.tree.now c.args.tree.now c.eval_lone_part.new.tree c.args.place p.1 p.2 c.in_err-value.ensures.same (here-refl c.args.tree.now c.args.place) c.eval_lone_part.ensures.here

pub words::change_by_part-change_to-requires : goal.words::change_by_part-change_to-requires
words::change_by_part-change_to-requires g t c κs within =
    let here = here_text c.eval_lone_part.result c.in_ok-value.value c.args.tree.now c.eval_lone_part.new.tree c.args.place c.in_ok-value.ensures.text c.eval_lone_part.ensures.here in
    (search rules, (search rules, still_running c.args.tree.now c.eval_lone_part.new.tree c.args.place here c.requires))

pub words::change_by_part-returns-clause-runs : goal.words::change_by_part-returns-clause-runs
words::change_by_part-returns-clause-runs g t c =
    let word : WordRead = record { parts = seen_part c.args.part.now ∷ []; expand = false } in
    let here = here_text c.eval_lone_part.result c.in_ok-value.value c.args.tree.now c.eval_lone_part.new.tree c.args.place c.in_ok-value.ensures.text c.eval_lone_part.ensures.here in
    let x = ran_text c.eval_lone_part.result c.in_ok-value.value (EndsFrom (ways g.O.Outside.goes g.O.Outside.loses) c.args.tree.now c.args.outside.now c.args.place (λ style. parts (seen_part c.args.part.now ∷ []) [] []) c.eval_lone_part.new.tree c.eval_lone_part.new.outside) c.in_ok-value.ensures.text c.eval_lone_part.ensures.runs in
    IfRan-more c.change_to.result
    (EndsFrom (ways g.O.Outside.goes g.O.Outside.loses) c.eval_lone_part.new.tree c.eval_lone_part.new.outside c.args.place (λ style. words [] (c.args.command.now ∷ c.args.variable.now ∷ c.in_ok-value.value ∷ [])) c.change_to.new.tree c.change_to.new.outside)
    (EndsFrom (ways g.O.Outside.goes g.O.Outside.loses) c.args.tree.now c.args.outside.now c.args.place (λ style. words (literal_word c.args.command.now ∷ literal_word c.args.variable.now ∷ word ∷ []) []) c.change_to.new.tree c.change_to.new.outside)
    (λ e h q style at. Steps.two_lend style c.args.command.now c.args.variable.now (word ∷ []) c.keeps_limit.ensures c.name-name.ensures.within
    (Steps.single_goes style word [] (c.args.command.now ∷ c.args.variable.now ∷ []) x.0 c.in_ok-value.value refl x.2 x.3 (x.1 q style at)
    (h q style (still_at c.args.tree.now c.eval_lone_part.new.tree c.args.place q style here at)))) c.change_to.ensures.runs

pub words::change_by_part-returns-clause-here : goal.words::change_by_part-returns-clause-here
words::change_by_part-returns-clause-here g t c =
    here_then c.change_to.result c.args.tree.now c.eval_lone_part.new.tree c.change_to.new.tree c.args.place
    (here_text c.eval_lone_part.result c.in_ok-value.value c.args.tree.now c.eval_lone_part.new.tree c.args.place c.in_ok-value.ensures.text c.eval_lone_part.ensures.here) c.change_to.ensures.here

pub words::change_by_part-returns-clause-keeps : goal.words::change_by_part-returns-clause-keeps
words::change_by_part-returns-clause-keeps g t c = keeps-trans c.eval_lone_part.ensures.keeps c.change_to.ensures.keeps

pub words::change_by_parts-returns-in_err-value-clause-runs : goal.words::change_by_parts-returns-in_err-value-clause-runs
words::change_by_parts-returns-in_err-value-clause-runs g t c =
    let word : WordRead = record { parts = map seen_part c.args.parts.now; expand = false } in
    let p = err_from_is_err_and c.from_residual.result c.from_residual.ensures.1 in
    ran_err c.from_residual.result c.in_err-value.field-0.0 p.0 _ _ _ p.1 p.2
    (stays_of c.substitute.result c.in_err-value.field-0.0 (EndsFrom (ways g.O.Outside.goes g.O.Outside.loses) c.args.tree.now c.args.outside.now c.args.place (λ style. parts (map seen_part c.args.parts.now) [] []) c.substitute.new.tree c.substitute.new.outside) c.in_err-value.ensures.same c.substitute.ensures.runs c.in_err-value.ensures.stays)
    (λ e h q style at. Steps.two_lend style c.args.command.now c.args.variable.now (word ∷ []) c.keeps_limit.ensures c.name-name.ensures.within
    (Steps.word_stays style word [] (c.args.command.now ∷ c.args.variable.now ∷ []) e h.1 (h.0 q style at)))

pub words::change_by_parts-returns-in_err-value-clause-here : goal.words::change_by_parts-returns-in_err-value-clause-here
words::change_by_parts-returns-in_err-value-clause-here g t c =
    let p = err_from_is_err_and c.from_residual.result c.from_residual.ensures.1 in
    here_passed c.from_residual.result c.substitute.result c.in_err-value.field-0.0 p.0 c.args.tree.now c.args.tree.now c.substitute.new.tree c.args.place p.1 p.2 c.in_err-value.ensures.same (here-refl c.args.tree.now c.args.place) c.substitute.ensures.here

pub words::change_by_parts-change_to-requires : goal.words::change_by_parts-change_to-requires
words::change_by_parts-change_to-requires g t c κs within =
    let here = here_text c.substitute.result c.in_ok-value.value c.args.tree.now c.substitute.new.tree c.args.place c.in_ok-value.ensures.text c.substitute.ensures.here in
    (search rules, (search rules, still_running c.args.tree.now c.substitute.new.tree c.args.place here c.requires))

pub words::change_by_parts-returns-clause-runs : goal.words::change_by_parts-returns-clause-runs
words::change_by_parts-returns-clause-runs g t c =
    let word : WordRead = record { parts = map seen_part c.args.parts.now; expand = false } in
    let here = here_text c.substitute.result c.in_ok-value.value c.args.tree.now c.substitute.new.tree c.args.place c.in_ok-value.ensures.text c.substitute.ensures.here in
    let x = ran_text c.substitute.result c.in_ok-value.value (EndsFrom (ways g.O.Outside.goes g.O.Outside.loses) c.args.tree.now c.args.outside.now c.args.place (λ style. parts (map seen_part c.args.parts.now) [] []) c.substitute.new.tree c.substitute.new.outside) c.in_ok-value.ensures.text c.substitute.ensures.runs in
    IfRan-more c.change_to.result
    (EndsFrom (ways g.O.Outside.goes g.O.Outside.loses) c.substitute.new.tree c.substitute.new.outside c.args.place (λ style. words [] (c.args.command.now ∷ c.args.variable.now ∷ c.in_ok-value.value ∷ [])) c.change_to.new.tree c.change_to.new.outside)
    (EndsFrom (ways g.O.Outside.goes g.O.Outside.loses) c.args.tree.now c.args.outside.now c.args.place (λ style. words (literal_word c.args.command.now ∷ literal_word c.args.variable.now ∷ word ∷ []) []) c.change_to.new.tree c.change_to.new.outside)
    (λ e h q style at. Steps.two_lend style c.args.command.now c.args.variable.now (word ∷ []) c.keeps_limit.ensures c.name-name.ensures.within
    (Steps.single_goes style word [] (c.args.command.now ∷ c.args.variable.now ∷ []) x.0 c.in_ok-value.value refl x.2 x.3 (x.1 q style at)
    (h q style (still_at c.args.tree.now c.substitute.new.tree c.args.place q style here at)))) c.change_to.ensures.runs

pub words::change_by_parts-returns-clause-here : goal.words::change_by_parts-returns-clause-here
words::change_by_parts-returns-clause-here g t c =
    here_then c.change_to.result c.args.tree.now c.substitute.new.tree c.change_to.new.tree c.args.place
    (here_text c.substitute.result c.in_ok-value.value c.args.tree.now c.substitute.new.tree c.args.place c.in_ok-value.ensures.text c.substitute.ensures.here) c.change_to.ensures.here

pub words::change_by_parts-returns-clause-keeps : goal.words::change_by_parts-returns-clause-keeps
words::change_by_parts-returns-clause-keeps g t c = keeps-trans c.substitute.ensures.keeps c.change_to.ensures.keeps

pub words::substitute_and_call-returns-in-Lone-clause-runs : goal.words::substitute_and_call-returns-in-Lone-clause-runs
words::substitute_and_call-returns-in-Lone-clause-runs g t c =
    let seen : map seen_word c.args.words.now ≡ literal_word c.in-Literal.command ∷ literal_word c.in-Name.variable ∷ record { parts = seen_part c.in-Lone.part ∷ []; expand = false } ∷ [] =
    ap (map seen_word) (three_items c.args.words.now c.first-item.result c.second-item.result c.third-item.result c.in-len3.len_at_least c.in-len3.len_below c.first-item.is c.second-item.is c.third-item.is)
    ∙ ap (λ (w : WordRead). w ∷ seen_word c.second-item.result ∷ seen_word c.third-item.result ∷ []) (ap seen_word c.in-Literal.is)
    ∙ ap (λ (w : WordRead). literal_word c.in-Literal.command ∷ w ∷ seen_word c.third-item.result ∷ []) (ap seen_word c.in-Name.is)
    ∙ ap (λ (w : WordRead). literal_word c.in-Literal.command ∷ literal_word c.in-Name.variable ∷ w ∷ []) (ap seen_word c.in-Lone.is)
    in
    IfRan-more c.change_by_part.result
    (EndsFrom (ways g.O.Outside.goes g.O.Outside.loses) c.args.tree.now c.args.outside.now c.args.place (λ style. words (literal_word c.in-Literal.command ∷ literal_word c.in-Name.variable ∷ record { parts = seen_part c.in-Lone.part ∷ []; expand = false } ∷ []) []) c.change_by_part.new.tree c.change_by_part.new.outside)
    (EndsFrom (ways g.O.Outside.goes g.O.Outside.loses) c.args.tree.now c.args.outside.now c.args.place (λ style. words (map seen_word c.args.words.now) []) c.change_by_part.new.tree c.change_by_part.new.outside)
    (λ e h q style at. at_prog (ap (λ (ws : List WordRead). words ws []) seen) (h q style at)) c.change_by_part.ensures.runs

pub words::substitute_and_call-returns-in-Parts-clause-runs : goal.words::substitute_and_call-returns-in-Parts-clause-runs
words::substitute_and_call-returns-in-Parts-clause-runs g t c =
    let word : WordRead = record { parts = map seen_part c.as_slice.result.now; expand = false } in
    let third : seen_word c.third-item.result ≡ word =
    ap seen_word c.in-Parts.is ∙ ap (λ (ps : List PreparedPart). record { parts = map seen_part ps; expand = false }) (sym c.as_slice.ensures.value) in
    let seen : map seen_word c.args.words.now ≡ literal_word c.in-Literal.command ∷ literal_word c.in-Name.variable ∷ word ∷ [] =
    ap (map seen_word) (three_items c.args.words.now c.first-item.result c.second-item.result c.third-item.result c.in-len3.len_at_least c.in-len3.len_below c.first-item.is c.second-item.is c.third-item.is)
    ∙ ap (λ (w : WordRead). w ∷ seen_word c.second-item.result ∷ seen_word c.third-item.result ∷ []) (ap seen_word c.in-Literal.is)
    ∙ ap (λ (w : WordRead). literal_word c.in-Literal.command ∷ w ∷ seen_word c.third-item.result ∷ []) (ap seen_word c.in-Name.is)
    ∙ ap (λ (w : WordRead). literal_word c.in-Literal.command ∷ literal_word c.in-Name.variable ∷ w ∷ []) third
    in
    IfRan-more c.change_by_parts.result
    (EndsFrom (ways g.O.Outside.goes g.O.Outside.loses) c.args.tree.now c.args.outside.now c.args.place (λ style. words (literal_word c.in-Literal.command ∷ literal_word c.in-Name.variable ∷ word ∷ []) []) c.change_by_parts.new.tree c.change_by_parts.new.outside)
    (EndsFrom (ways g.O.Outside.goes g.O.Outside.loses) c.args.tree.now c.args.outside.now c.args.place (λ style. words (map seen_word c.args.words.now) []) c.change_by_parts.new.tree c.change_by_parts.new.outside)
    (λ e h q style at. at_prog (ap (λ (ws : List WordRead). words ws []) seen) (h q style at)) c.change_by_parts.ensures.runs

-- any number of words

pub words::call_general-eval_word-requires : goal.words::call_general-eval_word-requires
words::call_general-eval_word-requires g t c κs within = (search rules, (search rules, still_running c.args.tree.now c.words.tree c.args.place c.words.invariant.here c.requires.running))

pub words::call_general-returns-in_err-text-clause-runs : goal.words::call_general-returns-in_err-text-clause-runs
words::call_general-returns-in_err-text-clause-runs g t c =
    let item = item_on c.args.words.now c.words.word-index c.word-item.result c.words-test.true c.word-item.is in
    let p = err_from_is_err_and c.from_residual.result c.from_residual.ensures.1 in
    ran_err c.from_residual.result c.in_err-text.field-0.0 p.0 _ _ _ p.1 p.2
    (stays_of c.eval_word.result c.in_err-text.field-0.0 (EndsFrom (ways g.O.Outside.goes g.O.Outside.loses) c.words.tree c.words.outside c.args.place (λ style. parts (seen_word c.word-item.result).parts [] []) c.eval_word.new.tree c.eval_word.new.outside) c.in_err-text.ensures.same c.eval_word.ensures.runs c.in_err-text.ensures.stays)
    (λ e h q style at. c.words.invariant.leads q style at _ _ _ (at_prog (ap (λ (ws : List PreparedWord). words (map seen_word ws) c.words.texts.items) item)
    (Steps.word_stays style (seen_word c.word-item.result) _ c.words.texts.items e h.1 (h.0 q style (still_at c.args.tree.now c.words.tree c.args.place q style c.words.invariant.here at)))))

pub words::call_general-returns-in_err-text-clause-here : goal.words::call_general-returns-in_err-text-clause-here
words::call_general-returns-in_err-text-clause-here g t c =
    let p = err_from_is_err_and c.from_residual.result c.from_residual.ensures.1 in
    here_passed c.from_residual.result c.eval_word.result c.in_err-text.field-0.0 p.0 c.args.tree.now c.words.tree c.eval_word.new.tree c.args.place p.1 p.2 c.in_err-text.ensures.same c.words.invariant.here c.eval_word.ensures.here

pub words::call_general-returns-in_err-text-clause-keeps : goal.words::call_general-returns-in_err-text-clause-keeps
words::call_general-returns-in_err-text-clause-keeps g t c = keeps-trans c.words.invariant.keeps c.eval_word.ensures.keeps

pub words::call_general-returns-in_err-spread-clause-runs : goal.words::call_general-returns-in_err-spread-clause-runs
words::call_general-returns-in_err-spread-clause-runs g t c =
    let item = item_on c.args.words.now c.words.word-index c.word-item.result c.words-test.true c.word-item.is in
    let p = err_from_is_err_and c.from_residual-in_err-spread.result c.from_residual-in_err-spread.ensures.1 in
    let x = ran_text c.eval_word.result c.in_ok-text.text (EndsFrom (ways g.O.Outside.goes g.O.Outside.loses) c.words.tree c.words.outside c.args.place (λ style. parts (seen_word c.word-item.result).parts [] []) c.eval_word.new.tree c.eval_word.new.outside) c.in_ok-text.ensures.text c.eval_word.ensures.runs in
    fails_err c.from_residual-in_err-spread.result c.in_err-spread.field-0.0 p.0 _ _ _ p.1 p.2 c.in_err-spread.ensures
    (λ e h q style at. c.words.invariant.leads q style at _ _ _ (at_prog (ap (λ (ws : List PreparedWord). words (map seen_word ws) c.words.texts.items) item)
    (Steps.word_fails style (seen_word c.word-item.result) _ c.words.texts.items x.0 c.in_ok-text.text e _ c.expands.ensures x.2 x.3 h (x.1 q style (still_at c.args.tree.now c.words.tree c.args.place q style c.words.invariant.here at)))))
    (λ q style at. c.words.invariant.leads q style at _ _ _ (at_prog (ap (λ (ws : List PreparedWord). words (map seen_word ws) c.words.texts.items) item)
    (Steps.word_lost style (seen_word c.word-item.result) _ c.words.texts.items (x.1 q style (still_at c.args.tree.now c.words.tree c.args.place q style c.words.invariant.here at)))))

pub words::call_general-returns-in_err-spread-clause-here : goal.words::call_general-returns-in_err-spread-clause-here
words::call_general-returns-in_err-spread-clause-here g t c = on_completion c.from_residual-in_err-spread.result (IsHere c.args.tree.now c.eval_word.new.tree c.args.place) (here-trans c.args.tree.now c.words.tree c.eval_word.new.tree c.args.place c.words.invariant.here (here_text c.eval_word.result c.in_ok-text.text c.words.tree c.eval_word.new.tree c.args.place c.in_ok-text.ensures.text c.eval_word.ensures.here))

pub words::call_general-returns-in_err-spread-clause-keeps : goal.words::call_general-returns-in_err-spread-clause-keeps
words::call_general-returns-in_err-spread-clause-keeps g t c = keeps-trans c.words.invariant.keeps c.eval_word.ensures.keeps

pub words::call_general-words-preserved : goal.words::call_general-words-preserved
words::call_general-words-preserved g t c =
    let item = item_on c.args.words.now c.words.word-index c.word-item.result c.words-test.true c.word-item.is in
    let x = ran_text c.eval_word.result c.in_ok-text.text (EndsFrom (ways g.O.Outside.goes g.O.Outside.loses) c.words.tree c.words.outside c.args.place (λ style. parts (seen_word c.word-item.result).parts [] []) c.eval_word.new.tree c.eval_word.new.outside) c.in_ok-text.ensures.text c.eval_word.ensures.runs in
    record {
      leads = λ q style at V z r run. c.words.invariant.leads q style at _ _ _ (at_prog (ap (λ (ws : List PreparedWord). words (map seen_word ws) c.words.texts.items) item)
          (Steps.word_goes style (seen_word c.word-item.result) _ c.words.texts.items _ x.0 c.in_ok-text.text _ c.expands.ensures x.2 x.3 c.in_ok-spread.ensures (x.1 q style (still_at c.args.tree.now c.words.tree c.args.place q style c.words.invariant.here at)) run));
      here = here-trans c.args.tree.now c.words.tree c.eval_word.new.tree c.args.place c.words.invariant.here (here_text c.eval_word.result c.in_ok-text.text c.words.tree c.eval_word.new.tree c.args.place c.in_ok-text.ensures.text c.eval_word.ensures.here);
      keeps = keeps-trans c.words.invariant.keeps c.eval_word.ensures.keeps;
    }

pub words::call_general-call_texts-requires : goal.words::call_general-call_texts-requires
words::call_general-call_texts-requires g t c κs within = (search rules, (search rules, still_running c.args.tree.now c.words.tree c.args.place c.words.invariant.here c.requires.running))

pub words::call_general-returns-clause-runs : goal.words::call_general-returns-clause-runs
words::call_general-returns-clause-runs g t c =
    let none = none_on c.args.words.now c.words.word-index c.words-test.false in
    IfRan-more c.call_texts.result (EndsFrom (ways g.O.Outside.goes g.O.Outside.loses) c.words.tree c.words.outside c.args.place (λ style. words [] c.as_slice.result.now) c.call_texts.new.tree c.call_texts.new.outside)
    (EndsFrom (ways g.O.Outside.goes g.O.Outside.loses) c.args.tree.now c.args.outside.now c.args.place (λ style. words (map seen_word c.args.words.now) []) c.call_texts.new.tree c.call_texts.new.outside) (λ e h q style at.
    c.words.invariant.leads q style at _ _ _ (at_prog (ap (λ (ws : List PreparedWord). words (map seen_word ws) c.words.texts.items) none ∙ ap (words []) (sym c.as_slice.ensures))
    (h q style (still_at c.args.tree.now c.words.tree c.args.place q style c.words.invariant.here at)))) c.call_texts.ensures.runs

pub words::call_general-returns-clause-here : goal.words::call_general-returns-clause-here
words::call_general-returns-clause-here g t c = here_then c.call_texts.result c.args.tree.now c.words.tree c.call_texts.new.tree c.args.place c.words.invariant.here c.call_texts.ensures.here

pub words::call_general-returns-clause-keeps : goal.words::call_general-returns-clause-keeps
words::call_general-returns-clause-keeps g t c = keeps-trans c.words.invariant.keeps c.call_texts.ensures.keeps

-- a command

pub evaluation::eval_command-call_literals-requires : goal.evaluation::eval_command-call_literals-requires
evaluation::eval_command-call_literals-requires g t c κs within = (search rules, (search rules, (c.requires.running, subst AllWithin (sym c.words.ensures.words) c.words.ensures.within)))

pub evaluation::eval_command-returns-in-Constant-clause-runs : goal.evaluation::eval_command-returns-in-Constant-clause-runs
evaluation::eval_command-returns-in-Constant-clause-runs g t c =
    IfRan-more c.call_literals.result (EndsFrom (ways g.O.Outside.goes g.O.Outside.loses) c.args.tree.now c.args.outside.now c.args.place (λ style. words (map literal_word c.words.result.now) []) c.call_literals.new.tree c.call_literals.new.outside)
    (EndsFrom (ways g.O.Outside.goes g.O.Outside.loses) c.args.tree.now c.args.outside.now c.args.place (λ style. words (seen_command c.args.command.now) []) c.call_literals.new.tree c.call_literals.new.outside)
    (λ e h q style at. at_prog (ap (λ (command : PreparedCommand). words (seen_command command) []) c.in-Constant.is ∙ ap (λ (ts : List (List ℕ)). words (map literal_word ts) []) (sym c.words.ensures.words)) (h q style at)) c.call_literals.ensures.runs

pub evaluation::eval_command-returns-in-AtHand-clause-runs : goal.evaluation::eval_command-returns-in-AtHand-clause-runs
evaluation::eval_command-returns-in-AtHand-clause-runs g t c =
    IfRan-more c.change_or_call.result (EndsFrom (ways g.O.Outside.goes g.O.Outside.loses) c.args.tree.now c.args.outside.now c.args.place (λ style. words (map seen_word c.as_slice.result.now) []) c.change_or_call.new.tree c.change_or_call.new.outside)
    (EndsFrom (ways g.O.Outside.goes g.O.Outside.loses) c.args.tree.now c.args.outside.now c.args.place (λ style. words (seen_command c.args.command.now) []) c.change_or_call.new.tree c.change_or_call.new.outside)
    (λ e h q style at. at_prog (ap (λ (command : PreparedCommand). words (seen_command command) []) c.in-AtHand.is ∙ ap (λ (ws : List PreparedWord). words (map seen_word ws) []) (sym c.as_slice.ensures.value)) (h q style at)) c.change_or_call.ensures.runs

pub evaluation::eval_command-returns-in-General-clause-runs : goal.evaluation::eval_command-returns-in-General-clause-runs
evaluation::eval_command-returns-in-General-clause-runs g t c =
    IfRan-more c.substitute_and_call.result (EndsFrom (ways g.O.Outside.goes g.O.Outside.loses) c.args.tree.now c.args.outside.now c.args.place (λ style. words (map seen_word c.as_slice-in-General.result.now) []) c.substitute_and_call.new.tree c.substitute_and_call.new.outside)
    (EndsFrom (ways g.O.Outside.goes g.O.Outside.loses) c.args.tree.now c.args.outside.now c.args.place (λ style. words (seen_command c.args.command.now) []) c.substitute_and_call.new.tree c.substitute_and_call.new.outside)
    (λ e h q style at. at_prog (ap (λ (command : PreparedCommand). words (seen_command command) []) c.in-General.is ∙ ap (λ (ws : List PreparedWord). words (map seen_word ws) []) (sym c.as_slice-in-General.ensures.value)) (h q style at)) c.substitute_and_call.ensures.runs

-- the commands of a script

pub evaluation::eval_commands-returns-in_err-last-clause-runs : goal.evaluation::eval_commands-returns-in_err-last-clause-runs
evaluation::eval_commands-returns-in_err-last-clause-runs g t c =
    let item = item_on c.commands-all.result.now c.commands.command-index c.command-item.result c.commands-test.true c.command-item.is in
    let p = err_from_is_err_and c.from_residual.result c.from_residual.ensures.1 in
    ran_err c.from_residual.result c.in_err-last.field-0.0 p.0 _ _ _ p.1 p.2
    (stays_of c.eval_command.result c.in_err-last.field-0.0 (EndsFrom (ways g.O.Outside.goes g.O.Outside.loses) c.commands.tree c.commands.outside c.args.place (λ style. words (seen_command c.command-item.result) []) c.eval_command.new.tree c.eval_command.new.outside) c.in_err-last.ensures.same c.eval_command.ensures.runs c.in_err-last.ensures.stays)
    (λ e h q style at. c.commands.invariant.leads q style at _ _ _ (at_prog (ap (λ (cs : List PreparedCommand). commands (map seen_command cs) c.args.script.now.fault c.commands.last) item)
    (Steps.command_stays style (seen_command c.command-item.result) _ c.args.script.now.fault c.commands.last e h.1 (h.0 q style (still_at c.args.tree.now c.commands.tree c.args.place q style c.commands.invariant.here at)))))

pub evaluation::eval_commands-commands-preserved : goal.evaluation::eval_commands-commands-preserved
evaluation::eval_commands-commands-preserved g t c =
    let item = item_on c.commands-all.result.now c.commands.command-index c.command-item.result c.commands-test.true c.command-item.is in
    let x = ran_text c.eval_command.result c.in_ok-last.last (EndsFrom (ways g.O.Outside.goes g.O.Outside.loses) c.commands.tree c.commands.outside c.args.place (λ style. words (seen_command c.command-item.result) []) c.eval_command.new.tree c.eval_command.new.outside) c.in_ok-last.ensures.text c.eval_command.ensures.runs in
    record {
      leads = λ q style at V z r run. c.commands.invariant.leads q style at _ _ _ (at_prog (ap (λ (cs : List PreparedCommand). commands (map seen_command cs) c.args.script.now.fault c.commands.last) item)
          (Steps.command_goes style (seen_command c.command-item.result) _ c.args.script.now.fault c.commands.last x.0 c.in_ok-last.last x.2 x.3 (x.1 q style (still_at c.args.tree.now c.commands.tree c.args.place q style c.commands.invariant.here at)) run));
      here = here-trans c.args.tree.now c.commands.tree c.eval_command.new.tree c.args.place c.commands.invariant.here (here_text c.eval_command.result c.in_ok-last.last c.commands.tree c.eval_command.new.tree c.args.place c.in_ok-last.ensures.text c.eval_command.ensures.here);
      keeps = keeps-trans c.commands.invariant.keeps c.eval_command.ensures.keeps;
    }

pub evaluation::eval_commands-returns-clause-runs : goal.evaluation::eval_commands-returns-clause-runs
evaluation::eval_commands-returns-clause-runs g t c =
    let none = none_on c.commands-all.result.now c.commands.command-index c.commands-test.false in
    ran c.finish.result (EndsBy (over c.args.script.now.fault c.commands.last))
    (EndsFrom (ways g.O.Outside.goes g.O.Outside.loses) c.args.tree.now c.args.outside.now c.args.place (λ style. commands c.args.script.now.commands c.args.script.now.fault []) c.commands.tree c.commands.outside) (λ e h q style at. c.commands.invariant.leads q style at _ _ _ (at_prog (ap (λ (cs : List PreparedCommand). commands (map seen_command cs) c.args.script.now.fault c.commands.last) none)
    (Steps.is_over style c.args.script.now.fault c.commands.last e h)))
    (λ q style at. c.commands.invariant.leads q style at _ _ _ stopped) (subst (λ (f : Option Fault). IfEnded c.finish.result (EndsBy (over f c.commands.last))) c.fault.ensures c.finish.ensures)

-- a word that is one part

pub evaluation::eval_lone_part-returns-in_err-clone-in-Literal-clause-runs : goal.evaluation::eval_lone_part-returns-in_err-clone-in-Literal-clause-runs
evaluation::eval_lone_part-returns-in_err-clone-in-Literal-clause-runs g t c =
    let p = err_from_is_err_and c.from_residual.result c.from_residual.ensures.1 in
    memory_err c.from_residual.result p.0 _ _ p.1 p.2 (λ q style at. stopped)

pub evaluation::eval_lone_part-returns-in_ok-clone-in-Literal-clause-runs : goal.evaluation::eval_lone_part-returns-in_ok-clone-in-Literal-clause-runs
evaluation::eval_lone_part-returns-in_ok-clone-in-Literal-clause-runs g t c =
    let is : (seen_part c.args.part.now) ≡ part.Literal c.in_ok-clone-in-Literal.field-0 = (ap seen_part c.in-Literal.is) ∙ ap (λ (text : List ℕ). part.Literal text) (sym c.in_ok-clone-in-Literal.ensures.cases) in
    ran c.within.result (TextEnds c.in_ok-clone-in-Literal.field-0) (EndsFrom (ways g.O.Outside.goes g.O.Outside.loses) c.args.tree.now c.args.outside.now c.args.place (λ style. parts ((seen_part c.args.part.now) ∷ []) [] []) c.args.tree.now c.args.outside.now)
    (λ e h q style at. Steps.lone_literal style (seen_part c.args.part.now) c.in_ok-clone-in-Literal.field-0 e is h) (λ q style at. stopped) (text_ends c.within.result c.in_ok-clone-in-Literal.field-0 c.within.ensures.whole c.within.ensures.refused)

pub evaluation::eval_lone_part-returns-in-Variable-clause-runs : goal.evaluation::eval_lone_part-returns-in-Variable-clause-runs
evaluation::eval_lone_part-returns-in-Variable-clause-runs g t c =
    ran c.read_named.result (λ e. (p : Path) (n : Node Own) → Names c.args.tree.now c.args.place p → tree_of c.args.tree.now p ≡ Some n → VariableEnds c.in-Variable.name n e)
    (EndsFrom (ways g.O.Outside.goes g.O.Outside.loses) c.args.tree.now c.args.outside.now c.args.place (λ style. parts ((seen_part c.args.part.now) ∷ []) [] []) c.args.tree.now c.args.outside.now)
    (λ e h q style at. let n = stands (tree_of c.args.tree.now q) (tree_there c.args.tree.now q _ at.names) in Steps.lone_variable style (seen_part c.args.part.now) c.in-Variable.name e (ap seen_part c.in-Variable.is) n.1 (h q n.0 at.names n.1))
    (λ q style at. stopped)
    (IfEnded-at c.read_named.result c.args.tree.now c.args.place (VariableEnds c.in-Variable.name) (λ p n at there. variable_ends c.read_named.result c.in-Variable.name n c.read_named.ensures.short (c.read_named.ensures.read p n at there)))

pub evaluation::eval_lone_part-returns-in-Element-clause-runs : goal.evaluation::eval_lone_part-returns-in-Element-clause-runs
evaluation::eval_lone_part-returns-in-Element-clause-runs g t c = λ q style at.
    at_prog (ap (λ (y : Part). parts (y ∷ []) [] []) (ap seen_part c.in-Element.is)) (Steps.element_goes style c.in-Element.field-0 [] [] [] (at_reply (ap (λ (x : List ℕ). Completed (ok x)) c.empty.ensures) completed))

pub evaluation::eval_lone_part-returns-in-EndElement-clause-runs : goal.evaluation::eval_lone_part-returns-in-EndElement-clause-runs
evaluation::eval_lone_part-returns-in-EndElement-clause-runs g t c = λ q style at.
    at_prog (ap (λ (y : Part). parts (y ∷ []) [] []) (ap seen_part c.in-EndElement.is)) (at_reply (ap (λ (x : List ℕ). Completed (ok x)) c.empty-in-EndElement.ensures) completed)

pub evaluation::eval_word-returns-in_err-clone-in-Literal-clause-runs : goal.evaluation::eval_word-returns-in_err-clone-in-Literal-clause-runs
evaluation::eval_word-returns-in_err-clone-in-Literal-clause-runs g t c =
    let p = err_from_is_err_and c.from_residual.result c.from_residual.ensures.1 in
    memory_err c.from_residual.result p.0 _ _ p.1 p.2 (λ q style at. stopped)

pub evaluation::eval_word-returns-in_err-clone-in-Literal-clause-here : goal.evaluation::eval_word-returns-in_err-clone-in-Literal-clause-here
evaluation::eval_word-returns-in_err-clone-in-Literal-clause-here g t c = unmoved c.from_residual.result c.args.tree.now c.args.place

pub evaluation::eval_word-returns-in_ok-clone-in-Literal-clause-runs : goal.evaluation::eval_word-returns-in_ok-clone-in-Literal-clause-runs
evaluation::eval_word-returns-in_ok-clone-in-Literal-clause-runs g t c =
    let same : c.known_short.result ≡ c.in-Literal.value = c.known_short.ensures.same ∙ c.in_ok-clone-in-Literal.ensures.cases in
    λ q style at. at_prog (ap (λ (w : PreparedWord). parts (seen_word w).parts [] []) c.in-Literal.is ∙ ap (λ (v : List ℕ). parts (literal_parts v) [] []) (sym same))
    (Steps.lone style c.known_short.result (ap fits c.known_short.ensures.same ∙ c.known_short.ensures.short))

pub evaluation::eval_word-returns-in_ok-clone-in-Literal-clause-here : goal.evaluation::eval_word-returns-in_ok-clone-in-Literal-clause-here
evaluation::eval_word-returns-in_ok-clone-in-Literal-clause-here g t c = here-refl c.args.tree.now c.args.place

pub evaluation::eval_word-returns-in_err-value-in-Name-clause-runs : goal.evaluation::eval_word-returns-in_err-value-in-Name-clause-runs
evaluation::eval_word-returns-in_err-value-in-Name-clause-runs g t c =
    let p = err_from_is_err_and c.from_residual-in_err-value-in-Name.result c.from_residual-in_err-value-in-Name.ensures.1 in
    memory_err c.from_residual-in_err-value-in-Name.result p.0 _ _ p.1 p.2 (λ q style at. stopped)

pub evaluation::eval_word-returns-in_err-value-in-Name-clause-here : goal.evaluation::eval_word-returns-in_err-value-in-Name-clause-here
evaluation::eval_word-returns-in_err-value-in-Name-clause-here g t c = unmoved c.from_residual-in_err-value-in-Name.result c.args.tree.now c.args.place

pub evaluation::eval_word-returns-in_ok-value-in-Name-clause-runs : goal.evaluation::eval_word-returns-in_ok-value-in-Name-clause-runs
evaluation::eval_word-returns-in_ok-value-in-Name-clause-runs g t c =
    let same : c.known_short-in-Name.result ≡ c.in-Name.name = c.known_short-in-Name.ensures.same ∙ c.in_ok-value-in-Name.ensures in
    λ q style at. at_prog (ap (λ (w : PreparedWord). parts (seen_word w).parts [] []) c.in-Name.is ∙ ap (λ (v : List ℕ). parts (literal_parts v) [] []) (sym same))
    (Steps.lone style c.known_short-in-Name.result (ap fits c.known_short-in-Name.ensures.same ∙ c.known_short-in-Name.ensures.short))

pub evaluation::eval_word-returns-in_ok-value-in-Name-clause-here : goal.evaluation::eval_word-returns-in_ok-value-in-Name-clause-here
evaluation::eval_word-returns-in_ok-value-in-Name-clause-here g t c = here-refl c.args.tree.now c.args.place

pub evaluation::eval_word-returns-in-Some-clause-runs : goal.evaluation::eval_word-returns-in-Some-clause-runs
evaluation::eval_word-returns-in-Some-clause-runs g t c = λ q style at.
    let n = stands (tree_of c.args.tree.now q) (tree_there c.args.tree.now q _ at.names) in
    let word = c.in-Some.ensures q n.0 at.names n.1 in
    Calls.word_stands_goes style (seen_word c.args.word.now).parts c.in-Some.value n.1 word.by word.short

pub evaluation::eval_word-returns-in-Some-clause-here : goal.evaluation::eval_word-returns-in-Some-clause-here
evaluation::eval_word-returns-in-Some-clause-here g t c = here-refl c.args.tree.now c.args.place

-- a script

pub evaluation::eval_script-returns-in-Err-clause-runs : goal.evaluation::eval_script-returns-in-Err-clause-runs
evaluation::eval_script-returns-in-Err-clause-runs g t c = breaks c.too_deep.result (λ e. e ≡ too_deep_at c.in-Err.levels) _ (λ e h q style at.
    let no = c.in-Err.ensures.refused q at.names in Steps.read_refused style c.args.script.now c.in-Err.levels no.0 no.1 h) (λ q style at. stopped) c.too_deep.ensures

pub evaluation::eval_script-returns-in-Err-clause-held : goal.evaluation::eval_script-returns-in-Err-clause-held
evaluation::eval_script-returns-in-Err-clause-held g t c = λ q at. level_held _ _ q (same_level c.args.tree.now c.nest_at.new.self c.in-Err.ensures.marks c.in-Err.ensures.keys c.in-Err.ensures.held (c.in-Err.ensures.refused q at).1)

pub evaluation::eval_script-returns-in-Err-clause-keeps : goal.evaluation::eval_script-returns-in-Err-clause-keeps
evaluation::eval_script-returns-in-Err-clause-keeps g t c = level_keeps _ (same_level c.args.tree.now c.nest_at.new.self c.in-Err.ensures.marks c.in-Err.ensures.keys c.in-Err.ensures.held (c.in-Err.ensures.refused c.requires.0 c.requires.1).1)

pub evaluation::eval_script-eval_commands-ended-requires : goal.evaluation::eval_script-eval_commands-ended-requires
evaluation::eval_script-eval_commands-ended-requires g t c κs within =
    let p = c.requires.0 in
    let names = c.requires.1 in
    let free = c.in_default.ensures.nested p names in
    let top = stands (tree_of c.args.tree.now []) (top_there c.args.tree.now) in
    let fewer = less_room (tree_of c.args.tree.now) (tree_of c.nest_at.new.self) p top.0 top.1 (c.keeps_form.ensures.most [] top.0 top.1) free.0 free.1 in
    (search rules, (search rules, (p, c.in_default.ensures.keys p ∙ names, begun_at c.args.tree.now c.nest_at.new.self c.args.place p names free.1)))

pub evaluation::eval_script-unnest-requires : goal.evaluation::eval_script-unnest-requires
evaluation::eval_script-unnest-requires g t c = record {
  holds = (c.requires.0, 1, nested_holds c.args.tree.now c.nest_at.new.self c.eval_commands-ended.new.tree c.args.place c.requires.0 c.requires.1 c.in_default.ensures.keys c.in_default.ensures.deeper (c.in_default.ensures.nested c.requires.0 c.requires.1).1 c.eval_commands-ended.ensures.keeps.steady);
  innermost = nested_innermost c.args.tree.now c.nest_at.new.self c.eval_commands-ended.new.tree c.args.place c.requires.0 c.requires.1 c.in_default.ensures.keys c.in_default.ensures.deeper (c.in_default.ensures.nested c.requires.0 c.requires.1).1 c.eval_commands-ended.ensures.keeps.steady;
}

pub evaluation::eval_script-returns-clause-runs : goal.evaluation::eval_script-returns-clause-runs
evaluation::eval_script-returns-clause-runs g t c =
    IfRan-more c.eval_commands-ended.result
    (EndsFrom (ways g.O.Outside.goes g.O.Outside.loses) c.nest_at.new.self c.args.outside.now c.args.place (λ style. commands c.args.script.now.commands c.args.script.now.fault []) c.eval_commands-ended.new.tree c.eval_commands-ended.new.outside)
    (EndsAt (ways g.O.Outside.goes g.O.Outside.loses) c.args.tree.now c.args.outside.now c.args.place (λ style. read_so c.args.script.now) c.unnest.new.self c.eval_commands-ended.new.outside)
    (λ e h q style at.
    let free = c.in_default.ensures.nested q at.names in
    let running = begun_at c.args.tree.now c.nest_at.new.self c.args.place q at.names free.1 in
    let names = c.in_default.ensures.keys q ∙ at.names in
    Steps.reads_end style c.args.script.now free.0 free.1 (c.unnest.ensures.unnested q 1 (nested_holds c.args.tree.now c.nest_at.new.self c.eval_commands-ended.new.tree c.args.place q at.names c.in_default.ensures.keys c.in_default.ensures.deeper (c.in_default.ensures.nested q at.names).1 c.eval_commands-ended.ensures.keeps.steady))
    (h q style (record { names = names; style_is = ap (λ m. m.integers) c.in_default.ensures.marks ∙ at.style_is; running = running })))
    c.eval_commands-ended.ensures.runs

pub evaluation::eval_script-returns-clause-keeps : goal.evaluation::eval_script-returns-clause-keeps
evaluation::eval_script-returns-clause-keeps g t c = record {
  steady = nested_steady c.args.tree.now c.nest_at.new.self c.eval_commands-ended.new.tree c.args.place c.requires.0 c.requires.1 c.in_default.ensures.keys c.in_default.ensures.deeper (c.in_default.ensures.nested c.requires.0 c.requires.1).1 c.eval_commands-ended.ensures.keeps.steady
      c.unnest.new.self c.unnest.ensures.keys c.unnest.ensures.shallower (c.unnest.ensures.unnested c.requires.0 1 (nested_holds c.args.tree.now c.nest_at.new.self c.eval_commands-ended.new.tree c.args.place c.requires.0 c.requires.1 c.in_default.ensures.keys c.in_default.ensures.deeper (c.in_default.ensures.nested c.requires.0 c.requires.1).1 c.eval_commands-ended.ensures.keeps.steady)) c.in_default.ensures.marks c.unnest.ensures.marks;
  left = c.eval_commands-ended.ensures.keeps.left;
}

pub evaluation::eval_script-returns-clause-held : goal.evaluation::eval_script-returns-clause-held
evaluation::eval_script-returns-clause-held g t c = λ q at.
    nested_held c.args.tree.now c.nest_at.new.self c.eval_commands-ended.new.tree c.args.place q at c.in_default.ensures.keys c.in_default.ensures.deeper (c.in_default.ensures.nested q at).1 c.eval_commands-ended.ensures.keeps.steady
    c.unnest.new.self c.unnest.ensures.keys c.unnest.ensures.shallower (c.unnest.ensures.unnested q 1 (nested_holds c.args.tree.now c.nest_at.new.self c.eval_commands-ended.new.tree c.args.place q at c.in_default.ensures.keys c.in_default.ensures.deeper (c.in_default.ensures.nested q at).1 c.eval_commands-ended.ensures.keeps.steady))

pub evaluation::eval_bracket-returns-in_err-count_sum-clause-runs : goal.evaluation::eval_bracket-returns-in_err-count_sum-clause-runs
evaluation::eval_bracket-returns-in_err-count_sum-clause-runs g t c =
    let p = err_from_is_err_and c.from_residual.result c.from_residual.ensures.1 in
    ran_err c.from_residual.result c.in_err-count_sum.field-0.0 p.0 _ _ _ p.1 p.2 c.in_err-count_sum.ensures.breaks
    (λ e h q style at. let n = stands (tree_of c.args.tree.now q) (tree_there c.args.tree.now q _ at.names) in
    at_prog (ap read_so (sym c.script.ensures)) (h.1 q style n.0 at n.1 c.script.result.now c.in-Some.value (sum_in c.args.tree.now style n.0 c.script.result.now c.in-Some.value at.style_is (c.in-Some.ensures.at_hand q n.0 at.names n.1))))

pub evaluation::eval_bracket-returns-in_err-count_sum-clause-here : goal.evaluation::eval_bracket-returns-in_err-count_sum-clause-here
evaluation::eval_bracket-returns-in_err-count_sum-clause-here g t c = on_completion c.from_residual.result (IsHere c.args.tree.now c.count_sum.new.tree c.args.place) c.count_sum.ensures.here

pub evaluation::eval_bracket-returns-in-Some-clause-runs : goal.evaluation::eval_bracket-returns-in-Some-clause-runs
evaluation::eval_bracket-returns-in-Some-clause-runs g t c = λ q style at.
    let n = stands (tree_of c.args.tree.now q) (tree_there c.args.tree.now q _ at.names) in
    at_prog (ap read_so (sym c.script.ensures)) (c.in_ok-count_sum.ensures.sums q style n.0 at n.1 c.script.result.now c.in-Some.value (sum_in c.args.tree.now style n.0 c.script.result.now c.in-Some.value at.style_is (c.in-Some.ensures.at_hand q n.0 at.names n.1)))

pub evaluation::eval_bracket-returns-clause-runs : goal.evaluation::eval_bracket-returns-clause-runs
evaluation::eval_bracket-returns-clause-runs g t c =
    let kept = c.keep_what_is_read in
    IfRan-more c.eval_script.result
    (EndsAt (ways g.O.Outside.goes g.O.Outside.loses) kept.new.tree c.args.outside.now c.args.place (λ style. read_so c.script-2.result.now) c.eval_script.new.tree c.eval_script.new.outside)
    (EndsAt (ways g.O.Outside.goes g.O.Outside.loses) c.args.tree.now c.args.outside.now c.args.place (λ style. script c.args.bracket.now) c.eval_script.new.tree c.eval_script.new.outside)
    (λ e h q style at. at_start kept.ensures.same (at_prog (ap read_so (sym c.script-2.ensures)) (h q style (level_there c.args.tree.now kept.new.tree c.args.place q style kept.ensures.level at)))) c.eval_script.ensures.runs

pub evaluation::eval_bracket-returns-clause-here : goal.evaluation::eval_bracket-returns-clause-here
evaluation::eval_bracket-returns-clause-here g t c =
    let kept = c.keep_what_is_read in
    here_then c.eval_script.result c.args.tree.now kept.new.tree c.eval_script.new.tree c.args.place (level_here c.args.tree.now kept.new.tree c.args.place kept.ensures.level) c.eval_script.ensures.here

pub evaluation::eval_bracket-returns-clause-keeps : goal.evaluation::eval_bracket-returns-clause-keeps
evaluation::eval_bracket-returns-clause-keeps g t c = keeps-trans (level_keeps _ c.keep_what_is_read.ensures.level) c.eval_script.ensures.keeps

pub evaluation::eval_bracket-eval_script-requires : goal.evaluation::eval_bracket-eval_script-requires
evaluation::eval_bracket-eval_script-requires g t c κs within =
    let kept = c.keep_what_is_read.ensures in
    let same : room (tree_of c.keep_what_is_read.new.tree) ≡ room (tree_of c.args.tree.now) = ap room kept.same in
    (search rules, (search rules, (c.requires.0, kept.level.keys c.requires.0 ∙ c.requires.1)))

pub evaluation::eval_text-returns-in_err-script-clause-runs : goal.evaluation::eval_text-returns-in_err-script-clause-runs
evaluation::eval_text-returns-in_err-script-clause-runs g t c =
    let p = err_from_is_err_and c.from_residual.result c.from_residual.ensures.1 in
    memory_err c.from_residual.result p.0 _ _ p.1 p.2 (λ q style at. stopped)

pub evaluation::eval_text-returns-clause-runs : goal.evaluation::eval_text-returns-clause-runs
evaluation::eval_text-returns-clause-runs g t c =
    IfRan-more c.eval_script.result
    (EndsAt (ways g.O.Outside.goes g.O.Outside.loses) c.args.tree.now c.args.outside.now c.args.place (λ style. read_so c.deref.result.now) c.eval_script.new.tree c.eval_script.new.outside)
    (EndsAt (ways g.O.Outside.goes g.O.Outside.loses) c.args.tree.now c.args.outside.now c.args.place (λ style. script c.args.text.now) c.eval_script.new.tree c.eval_script.new.outside)
    (λ e h q style at. at_prog (ap read_so (sym (c.deref.ensures ∙ c.in_ok-script.ensures))) (h q style at)) c.eval_script.ensures.runs

pub evaluation::eval_value-returns-in_err-script-clause-held : goal.evaluation::eval_value-returns-in_err-script-clause-held
evaluation::eval_value-returns-in_err-script-clause-held g t c = λ q at. level_held c.args.tree.now c.args.tree.now q (level-refl c.args.tree.now)

pub evaluation::eval_value-returns-in_err-script-clause-runs : goal.evaluation::eval_value-returns-in_err-script-clause-runs
evaluation::eval_value-returns-in_err-script-clause-runs g t c =
    let p = err_from_is_err_and c.from_residual.result c.from_residual.ensures.1 in
    memory_err c.from_residual.result p.0 _ _ p.1 p.2 (λ q style at. stopped)

pub evaluation::eval_value-returns-clause-runs : goal.evaluation::eval_value-returns-clause-runs
evaluation::eval_value-returns-clause-runs g t c =
    IfRan-more c.eval_script.result
    (EndsAt (ways g.O.Outside.goes g.O.Outside.loses) c.args.tree.now c.args.outside.now c.args.place (λ style. read_so c.deref.result.now) c.eval_script.new.tree c.eval_script.new.outside)
    (EndsAt (ways g.O.Outside.goes g.O.Outside.loses) c.args.tree.now c.args.outside.now c.args.place (λ style. script c.args.value.now) c.eval_script.new.tree c.eval_script.new.outside)
    (λ e h q style at. at_prog (ap read_so (sym (c.deref.ensures ∙ c.in_ok-script.ensures))) (h q style at)) c.eval_script.ensures.runs

pub evaluation::eval_read-returns-clause-runs : goal.evaluation::eval_read-returns-clause-runs
evaluation::eval_read-returns-clause-runs g t c =
    IfRan-more c.eval_script.result
    (EndsAt (ways g.O.Outside.goes g.O.Outside.loses) c.args.tree.now c.args.outside.now c.args.place (λ style. read_so c.args.script.now) c.eval_script.new.tree c.eval_script.new.outside)
    (EndsAt (ways g.O.Outside.goes g.O.Outside.loses) c.args.tree.now c.args.outside.now c.args.place (λ style. script c.args.text.now) c.eval_script.new.tree c.eval_script.new.outside)
    (λ e h q style at. at_prog (ap read_so (sym c.requires.read)) (h q style at)) c.eval_script.ensures.runs

pub evaluation::eval_part-returns-in_err-value-in-Variable-clause-runs : goal.evaluation::eval_part-returns-in_err-value-in-Variable-clause-runs
evaluation::eval_part-returns-in_err-value-in-Variable-clause-runs g t c =
    let p = err_from_is_err_and c.from_residual.result c.from_residual.ensures.1 in
    fails_err c.from_residual.result c.in_err-value-in-Variable.field-0.0 p.0 _ _ _ p.1 p.2
    (Interrupts-at c.in_err-value-in-Variable.field-0.0 c.args.tree.now c.args.place (λ n e. IsFailure frame_message (read n.own.chain.frames c.in-Variable.name) e) c.in_err-value-in-Variable.ensures.read)
    (λ e h q style at rest. let n = stands (tree_of c.args.tree.now q) (tree_there c.args.tree.now q _ at.names) in
    at_prog (ap (λ (y : Part). parts (y ∷ rest) (opens c.args.elements.now.items) (string_bytes c.args.text.now)) (ap seen_part c.in-Variable.is))
    (Steps.variable_fails style c.in-Variable.name rest (opens c.args.elements.now.items) (string_bytes c.args.text.now) n.1 (h q n.0 at.names n.1)))
    (λ q style at rest. stopped)

pub evaluation::eval_part-returns-in_ok-value-in-Variable-clause-runs : goal.evaluation::eval_part-returns-in_ok-value-in-Variable-clause-runs
evaluation::eval_part-returns-in_ok-value-in-Variable-clause-runs g t c =
    appended _ c.append_value.result c.append_value.ensures.added c.append_value.ensures.refused
    (λ a q style at rest V z r run. let n = stands (tree_of c.args.tree.now q) (tree_there c.args.tree.now q _ at.names) in
    at_prog (ap (λ (y : Part). parts (y ∷ rest) (opens c.args.elements.now.items) (string_bytes c.args.text.now)) (ap seen_part c.in-Variable.is))
    (Steps.variable_goes style c.in-Variable.name c.in_ok-value-in-Variable.value rest (opens c.args.elements.now.items) (string_bytes c.args.text.now) n.1 (c.in_ok-value-in-Variable.ensures.read q n.0 at.names n.1) a.0
    (at_prog (ap (parts rest (opens c.args.elements.now.items)) (sym a.1)) run)))
    (λ e b q style at rest. let n = stands (tree_of c.args.tree.now q) (tree_there c.args.tree.now q _ at.names) in
    at_prog (ap (λ (y : Part). parts (y ∷ rest) (opens c.args.elements.now.items) (string_bytes c.args.text.now)) (ap seen_part c.in-Variable.is))
    (Steps.variable_long style c.in-Variable.name c.in_ok-value-in-Variable.value rest (opens c.args.elements.now.items) (string_bytes c.args.text.now) n.1 (c.in_ok-value-in-Variable.ensures.read q n.0 at.names n.1) b.0 b.1))
    (λ q style at rest. stopped)

pub evaluation::eval_part-returns-in-Literal-clause-runs : goal.evaluation::eval_part-returns-in-Literal-clause-runs
evaluation::eval_part-returns-in-Literal-clause-runs g t c =
    let is : (seen_part c.args.part.now) ≡ part.Literal c.as_str.result.now = (ap seen_part c.in-Literal.is) ∙ ap (λ (text : List ℕ). part.Literal text) (sym c.as_str.ensures) in
    appended _ c.append.result c.append.ensures.added c.append.ensures.refused
    (λ a q style at rest V z r run. at_prog (ap (λ (y : Part). parts (y ∷ rest) (opens c.args.elements.now.items) (string_bytes c.args.text.now)) is)
    (Steps.literal_goes style c.as_str.result.now rest (opens c.args.elements.now.items) (string_bytes c.args.text.now) a.0 (at_prog (ap (parts rest (opens c.args.elements.now.items)) (sym a.1)) run)))
    (λ e b q style at rest. at_prog (ap (λ (y : Part). parts (y ∷ rest) (opens c.args.elements.now.items) (string_bytes c.args.text.now)) is)
    (Steps.literal_long style c.as_str.result.now rest (opens c.args.elements.now.items) (string_bytes c.args.text.now) b.0 b.1))
    (λ q style at rest. stopped)

-- a script among the parts of a word

pub evaluation::eval_lone_part-returns-in_err-value-in-Bracket-clause-runs : goal.evaluation::eval_lone_part-returns-in_err-value-in-Bracket-clause-runs
evaluation::eval_lone_part-returns-in_err-value-in-Bracket-clause-runs g t c =
    let is : (seen_part c.args.part.now) ≡ part.Script c.in-Bracket.bracket = (ap seen_part c.in-Bracket.is) in
    let p = err_from_is_err_and c.from_residual-in_err-value-in-Bracket.result c.from_residual-in_err-value-in-Bracket.ensures.1 in
    ran_err c.from_residual-in_err-value-in-Bracket.result c.in_err-value-in-Bracket.field-0.0 p.0 _ _ _ p.1 p.2
    (stays_of c.eval_bracket.result c.in_err-value-in-Bracket.field-0.0
    (EndsAt (ways g.O.Outside.goes g.O.Outside.loses) c.args.tree.now c.args.outside.now c.args.place (λ style. script c.in-Bracket.bracket) c.eval_bracket.new.tree c.eval_bracket.new.outside)
    c.in_err-value-in-Bracket.ensures.same c.eval_bracket.ensures.runs c.in_err-value-in-Bracket.ensures.stays)
    (λ e h q style at. Steps.lone_stays style (seen_part c.args.part.now) c.in-Bracket.bracket e [] [] [] is h.1 (h.0 q style (record { names = at.names; style_is = at.style_is })))

pub evaluation::eval_lone_part-returns-in_err-value-in-Deep-clause-runs : goal.evaluation::eval_lone_part-returns-in_err-value-in-Deep-clause-runs
evaluation::eval_lone_part-returns-in_err-value-in-Deep-clause-runs g t c =
    let is : (seen_part c.args.part.now) ≡ part.Script c.in-Deep.script = (ap seen_part c.in-Deep.is) in
    let p = err_from_is_err_and c.from_residual-in_err-value-in-Deep.result c.from_residual-in_err-value-in-Deep.ensures.1 in
    ran_err c.from_residual-in_err-value-in-Deep.result c.in_err-value-in-Deep.field-0.0 p.0 _ _ _ p.1 p.2
    (stays_of c.eval_text.result c.in_err-value-in-Deep.field-0.0
    (EndsAt (ways g.O.Outside.goes g.O.Outside.loses) c.args.tree.now c.args.outside.now c.args.place (λ style. script c.in-Deep.script) c.eval_text.new.tree c.eval_text.new.outside)
    c.in_err-value-in-Deep.ensures.same c.eval_text.ensures.runs c.in_err-value-in-Deep.ensures.stays)
    (λ e h q style at. Steps.lone_stays style (seen_part c.args.part.now) c.in-Deep.script e [] [] [] is h.1 (h.0 q style (record { names = at.names; style_is = at.style_is })))

pub evaluation::eval_lone_part-returns-in_ok-value-in-Bracket-clause-runs : goal.evaluation::eval_lone_part-returns-in_ok-value-in-Bracket-clause-runs
evaluation::eval_lone_part-returns-in_ok-value-in-Bracket-clause-runs g t c =
    let is : (seen_part c.args.part.now) ≡ part.Script c.in-Bracket.bracket = (ap seen_part c.in-Bracket.is) in
    let x = ran_text c.eval_bracket.result c.in_ok-value-in-Bracket.value (EndsAt (ways g.O.Outside.goes g.O.Outside.loses) c.args.tree.now c.args.outside.now c.args.place (λ style. script c.in-Bracket.bracket) c.eval_bracket.new.tree c.eval_bracket.new.outside)
    c.in_ok-value-in-Bracket.ensures.text c.eval_bracket.ensures.runs in
    λ q style at. Steps.lone_script style (seen_part c.args.part.now) c.in-Bracket.bracket c.known_short.result x.0 is x.2 (x.3 ∙ sym c.known_short.ensures.same)
    (ap fits c.known_short.ensures.same ∙ c.known_short.ensures.short) (x.1 q style (record { names = at.names; style_is = at.style_is }))

pub evaluation::eval_lone_part-returns-in_ok-value-in-Deep-clause-runs : goal.evaluation::eval_lone_part-returns-in_ok-value-in-Deep-clause-runs
evaluation::eval_lone_part-returns-in_ok-value-in-Deep-clause-runs g t c =
    let is : (seen_part c.args.part.now) ≡ part.Script c.in-Deep.script = (ap seen_part c.in-Deep.is) in
    let x = ran_text c.eval_text.result c.in_ok-value-in-Deep.value (EndsAt (ways g.O.Outside.goes g.O.Outside.loses) c.args.tree.now c.args.outside.now c.args.place (λ style. script c.in-Deep.script) c.eval_text.new.tree c.eval_text.new.outside)
    c.in_ok-value-in-Deep.ensures.text c.eval_text.ensures.runs in
    λ q style at. Steps.lone_script style (seen_part c.args.part.now) c.in-Deep.script c.known_short-in-Deep.result x.0 is x.2 (x.3 ∙ sym c.known_short-in-Deep.ensures.same)
    (ap fits c.known_short-in-Deep.ensures.same ∙ c.known_short-in-Deep.ensures.short) (x.1 q style (record { names = at.names; style_is = at.style_is }))

pub evaluation::eval_part-returns-in_err-value-in-Bracket-clause-runs : goal.evaluation::eval_part-returns-in_err-value-in-Bracket-clause-runs
evaluation::eval_part-returns-in_err-value-in-Bracket-clause-runs g t c =
    let is : (seen_part c.args.part.now) ≡ part.Script c.in-Bracket.bracket = (ap seen_part c.in-Bracket.is) in
    let p = err_from_is_err_and c.from_residual-in_err-value-in-Bracket.result c.from_residual-in_err-value-in-Bracket.ensures.1 in
    ran_err c.from_residual-in_err-value-in-Bracket.result c.in_err-value-in-Bracket.field-0.0 p.0 _ _ _ p.1 p.2
    (stays_of c.eval_bracket.result c.in_err-value-in-Bracket.field-0.0
    (EndsAt (ways g.O.Outside.goes g.O.Outside.loses) c.args.tree.now c.args.outside.now c.args.place (λ style. script c.in-Bracket.bracket) c.eval_bracket.new.tree c.eval_bracket.new.outside)
    c.in_err-value-in-Bracket.ensures.same c.eval_bracket.ensures.runs c.in_err-value-in-Bracket.ensures.stays)
    (λ e h q style at rest. Steps.lone_stays style (seen_part c.args.part.now) c.in-Bracket.bracket e rest (opens c.args.elements.now.items) (string_bytes c.args.text.now) is h.1 (h.0 q style (record { names = at.names; style_is = at.style_is })))

pub evaluation::eval_part-returns-in_err-value-in-Deep-clause-runs : goal.evaluation::eval_part-returns-in_err-value-in-Deep-clause-runs
evaluation::eval_part-returns-in_err-value-in-Deep-clause-runs g t c =
    let is : (seen_part c.args.part.now) ≡ part.Script c.in-Deep.script = (ap seen_part c.in-Deep.is) in
    let p = err_from_is_err_and c.from_residual-in_err-value-in-Deep.result c.from_residual-in_err-value-in-Deep.ensures.1 in
    ran_err c.from_residual-in_err-value-in-Deep.result c.in_err-value-in-Deep.field-0.0 p.0 _ _ _ p.1 p.2
    (stays_of c.eval_text.result c.in_err-value-in-Deep.field-0.0
    (EndsAt (ways g.O.Outside.goes g.O.Outside.loses) c.args.tree.now c.args.outside.now c.args.place (λ style. script c.in-Deep.script) c.eval_text.new.tree c.eval_text.new.outside)
    c.in_err-value-in-Deep.ensures.same c.eval_text.ensures.runs c.in_err-value-in-Deep.ensures.stays)
    (λ e h q style at rest. Steps.lone_stays style (seen_part c.args.part.now) c.in-Deep.script e rest (opens c.args.elements.now.items) (string_bytes c.args.text.now) is h.1 (h.0 q style (record { names = at.names; style_is = at.style_is })))

pub evaluation::eval_part-returns-in_ok-value-in-Bracket-clause-runs : goal.evaluation::eval_part-returns-in_ok-value-in-Bracket-clause-runs
evaluation::eval_part-returns-in_ok-value-in-Bracket-clause-runs g t c =
    let is : (seen_part c.args.part.now) ≡ part.Script c.in-Bracket.bracket = (ap seen_part c.in-Bracket.is) in
    let x = ran_text c.eval_bracket.result c.in_ok-value-in-Bracket.value (EndsAt (ways g.O.Outside.goes g.O.Outside.loses) c.args.tree.now c.args.outside.now c.args.place (λ style. script c.in-Bracket.bracket) c.eval_bracket.new.tree c.eval_bracket.new.outside)
    c.in_ok-value-in-Bracket.ensures.text c.eval_bracket.ensures.runs in
    appended _ c.append_value-in-Bracket.result c.append_value-in-Bracket.ensures.added c.append_value-in-Bracket.ensures.refused
    (λ a q style at rest V z r run. at_prog (ap (λ (y : Part). parts (y ∷ rest) (opens c.args.elements.now.items) (string_bytes c.args.text.now)) is)
    (Steps.script_goes style c.in-Bracket.bracket c.in_ok-value-in-Bracket.value rest (opens c.args.elements.now.items) (string_bytes c.args.text.now) x.0 x.2 x.3 (x.1 q style (record { names = at.names; style_is = at.style_is })) a.0
    (at_prog (ap (parts rest (opens c.args.elements.now.items)) (sym a.1)) run)))
    (λ e b q style at rest. at_prog (ap (λ (y : Part). parts (y ∷ rest) (opens c.args.elements.now.items) (string_bytes c.args.text.now)) is)
    (Steps.script_long style c.in-Bracket.bracket c.in_ok-value-in-Bracket.value rest (opens c.args.elements.now.items) (string_bytes c.args.text.now) x.0 x.2 x.3 (x.1 q style (record { names = at.names; style_is = at.style_is })) b.0 b.1))
    (λ q style at rest. at_prog (ap (λ (y : Part). parts (y ∷ rest) (opens c.args.elements.now.items) (string_bytes c.args.text.now)) is)
    (Steps.script_lost style c.in-Bracket.bracket rest (opens c.args.elements.now.items) (string_bytes c.args.text.now) (x.1 q style (record { names = at.names; style_is = at.style_is }))))

pub evaluation::eval_part-returns-in_ok-value-in-Deep-clause-runs : goal.evaluation::eval_part-returns-in_ok-value-in-Deep-clause-runs
evaluation::eval_part-returns-in_ok-value-in-Deep-clause-runs g t c =
    let is : (seen_part c.args.part.now) ≡ part.Script c.in-Deep.script = (ap seen_part c.in-Deep.is) in
    let x = ran_text c.eval_text.result c.in_ok-value-in-Deep.value (EndsAt (ways g.O.Outside.goes g.O.Outside.loses) c.args.tree.now c.args.outside.now c.args.place (λ style. script c.in-Deep.script) c.eval_text.new.tree c.eval_text.new.outside)
    c.in_ok-value-in-Deep.ensures.text c.eval_text.ensures.runs in
    appended _ c.append_value-in-Deep.result c.append_value-in-Deep.ensures.added c.append_value-in-Deep.ensures.refused
    (λ a q style at rest V z r run. at_prog (ap (λ (y : Part). parts (y ∷ rest) (opens c.args.elements.now.items) (string_bytes c.args.text.now)) is)
    (Steps.script_goes style c.in-Deep.script c.in_ok-value-in-Deep.value rest (opens c.args.elements.now.items) (string_bytes c.args.text.now) x.0 x.2 x.3 (x.1 q style (record { names = at.names; style_is = at.style_is })) a.0
    (at_prog (ap (parts rest (opens c.args.elements.now.items)) (sym a.1)) run)))
    (λ e b q style at rest. at_prog (ap (λ (y : Part). parts (y ∷ rest) (opens c.args.elements.now.items) (string_bytes c.args.text.now)) is)
    (Steps.script_long style c.in-Deep.script c.in_ok-value-in-Deep.value rest (opens c.args.elements.now.items) (string_bytes c.args.text.now) x.0 x.2 x.3 (x.1 q style (record { names = at.names; style_is = at.style_is })) b.0 b.1))
    (λ q style at rest. at_prog (ap (λ (y : Part). parts (y ∷ rest) (opens c.args.elements.now.items) (string_bytes c.args.text.now)) is)
    (Steps.script_lost style c.in-Deep.script rest (opens c.args.elements.now.items) (string_bytes c.args.text.now) (x.1 q style (record { names = at.names; style_is = at.style_is }))))

pub evaluation::eval_part-returns-in-Element-clause-runs : goal.evaluation::eval_part-returns-in-Element-clause-runs
evaluation::eval_part-returns-in-Element-clause-runs g t c =
    forgets _ _ _ c.open_element.result (both _ _ c.open_element.result c.open_element.ensures.opened c.open_element.ensures.empty) c.open_element.ensures.memory
    (λ a q style at rest V z r run. at_prog (ap (λ (y : Part). parts (y ∷ rest) (opens c.args.elements.now.items) (string_bytes c.args.text.now)) (ap seen_part c.in-Element.is))
    (Steps.element_goes style c.in-Element.name rest (opens c.args.elements.now.items) (string_bytes c.args.text.now)
    (at_prog (ap (λ (x : List ℕ). parts rest (record { name = c.in-Element.name; before = string_bytes c.args.text.now } ∷ opens c.args.elements.now.items) x) (sym a.1) ∙ ap (λ (es : List Open). parts rest es (string_bytes c.open_element.new.text)) (sym a.0)) run)))
    (λ q style at rest. stopped)

pub evaluation::eval_part-returns-in-EndElement-clause-runs : goal.evaluation::eval_part-returns-in-EndElement-clause-runs
evaluation::eval_part-returns-in-EndElement-clause-runs g t c =
    appended _ c.close_element.result c.close_element.ensures.closes c.close_element.ensures.refused
    (λ a q style at rest V z r run. let n = stands (tree_of c.args.tree.now q) (tree_there c.args.tree.now q _ at.names) in
    at_prog (ap (λ (y : Part). parts (y ∷ rest) (opens c.args.elements.now.items) (string_bytes c.args.text.now)) (ap seen_part c.in-EndElement.is))
    (Steps.closing_goes style rest (opens c.args.elements.now.items) (opens c.close_element.new.elements.items) (string_bytes c.args.text.now) (string_bytes c.close_element.new.text) n.1 (a q n.0 at.names n.1) run))
    (λ e b q style at rest. let n = stands (tree_of c.args.tree.now q) (tree_there c.args.tree.now q _ at.names) in
    at_prog (ap (λ (y : Part). parts (y ∷ rest) (opens c.args.elements.now.items) (string_bytes c.args.text.now)) (ap seen_part c.in-EndElement.is))
    (Steps.closing_ends style rest (opens c.args.elements.now.items) (string_bytes c.args.text.now) n.1 (b q n.0 at.names n.1)))
    (λ q style at rest. stopped)

pub evaluation::substitute-returns-in_err-eval_part-clause-runs : goal.evaluation::substitute-returns-in_err-eval_part-clause-runs
evaluation::substitute-returns-in_err-eval_part-clause-runs g t c =
    let item = item_on c.args.parts.now c.parts.part-index c.part-item.result c.parts-test.true c.part-item.is in
    let p = err_from_is_err_and c.from_residual.result c.from_residual.ensures.1 in
    ran_err c.from_residual.result c.in_err-eval_part.field-0.0 p.0 _ _ _ p.1 p.2 c.in_err-eval_part.ensures.runs
    (λ e h q style at. c.parts.invariant.leads q style at _ _ _ (at_prog (ap (λ (ps : List PreparedPart). parts (map seen_part ps) (opens c.parts.elements.items) (string_bytes c.parts.text)) item)
    (h q style (still_at c.args.tree.now c.parts.tree c.args.place q style c.parts.invariant.here at) _)))

pub evaluation::substitute-parts-preserved : goal.evaluation::substitute-parts-preserved
evaluation::substitute-parts-preserved g t c =
    let item = item_on c.args.parts.now c.parts.part-index c.part-item.result c.parts-test.true c.part-item.is in
    record {
      leads = λ q style at V z r run. c.parts.invariant.leads q style at _ _ _ (at_prog (ap (λ (ps : List PreparedPart). parts (map seen_part ps) (opens c.parts.elements.items) (string_bytes c.parts.text)) item)
          (c.in_ok-eval_part.ensures.runs q style (still_at c.args.tree.now c.parts.tree c.args.place q style c.parts.invariant.here at) _ V z r run));
      short = c.in_ok-eval_part.ensures.short;
      here = here-trans c.args.tree.now c.parts.tree c.eval_part.new.tree c.args.place c.parts.invariant.here c.in_ok-eval_part.ensures.here;
      keeps = keeps-trans c.parts.invariant.keeps c.eval_part.ensures.keeps;
    }

pub evaluation::substitute-returns-in_err-from_string-clause-runs : goal.evaluation::substitute-returns-in_err-from_string-clause-runs
evaluation::substitute-returns-in_err-from_string-clause-runs g t c =
    let p = err_from_is_err_and c.from_residual-in_err-from_string.result c.from_residual-in_err-from_string.ensures.1 in
    memory_err c.from_residual-in_err-from_string.result p.0 _ _ p.1 p.2 (λ q style at. c.parts.invariant.leads q style at _ _ _ stopped)

pub evaluation::substitute-returns-clause-runs : goal.evaluation::substitute-returns-clause-runs
evaluation::substitute-returns-clause-runs g t c = λ q style at.
    let none = none_on c.args.parts.now c.parts.part-index c.parts-test.false in
    c.parts.invariant.leads q style at _ _ _ (at_prog (ap (λ (ps : List PreparedPart). parts (map seen_part ps) (opens c.parts.elements.items) (string_bytes c.parts.text)) none)
    (at_reply (ap (λ (x : List ℕ). Completed (ok x)) (c.from_short_text.ensures ∙ c.in_ok-from_string.ensures)) completed))

-- calls of procedures

pub commands::call_procedure-returns-in_err-enter-clause-runs : goal.commands::call_procedure-returns-in_err-enter-clause-runs
commands::call_procedure-returns-in_err-enter-clause-runs g t c =
    let p = err_from_is_err_and c.from_residual.result c.from_residual.ensures.1 in
    fails_err c.from_residual.result c.in_err-enter.field-0.0 p.0 _ _ _ p.1 p.2 c.in_err-enter.ensures.refused
    (λ e h q style at. at_finish (ap tree_of h.1) (call_too_long style c.args.procedure.now c.args.word.now c.args.args.now e (subst (λ (ps : List Parameter). TooLongBound (bindings ps c.args.args.now) e) c.parameters.ensures h.0))) (λ q style at. stopped)

pub commands::call_procedure-returns-then-not-branch-clause-runs : goal.commands::call_procedure-returns-then-not-branch-clause-runs
commands::call_procedure-returns-then-not-branch-clause-runs g t c =
    let unbound = subst (λ b. OnFalse b ((bindings c.parameters.result.now c.args.args.now ≡ None) × (c.enter.new.tree ≡ c.args.tree.now))) c.if-not-branch.true c.in_ok-enter.ensures.unbound in
    breaks c.wrong_form.result (λ e. e ≡ Completed (failing (wrong_args (proc_form c.args.word.now c.parameters-then-not-branch.result.now)))) _
    (λ e h q style at. at_finish (ap tree_of unbound.1) (call_unbound style c.args.procedure.now c.args.word.now c.args.args.now e (ap (λ (ps : List Parameter). bindings ps c.args.args.now) (sym c.parameters.ensures) ∙ unbound.0)
    (h ∙ ap (λ (ps : List Parameter). Completed (failing (wrong_args (proc_form c.args.word.now ps)))) c.parameters-then-not-branch.ensures))) (λ q style at. stopped) c.wrong_form.ensures

pub commands::call_procedure-returns-clause-runs : goal.commands::call_procedure-returns-clause-runs
commands::call_procedure-returns-clause-runs g t c =
    let entered = subst (λ b. OnTrue b (Enters c.args.tree.now c.args.place c.parameters.result.now c.args.word.now c.args.args.now c.enter.new.tree)) c.if-not-branch.false c.in_ok-enter.ensures.entered in
    left_more c.eval_value-ended.result c.left_proc.result
    (EndsAt (ways g.O.Outside.goes g.O.Outside.loses) c.enter.new.tree c.args.outside.now c.args.place (λ style. script c.body.result.now) c.eval_value-ended.new.tree c.eval_value-ended.new.outside)
    (EndsFrom (ways g.O.Outside.goes g.O.Outside.loses) c.args.tree.now c.args.outside.now c.args.place (λ style. procedure c.args.procedure.now c.args.word.now c.args.args.now) c.leave_frame.new.tree c.eval_value-ended.new.outside)
    c.eval_value-ended.ensures.runs c.left_proc.ensures
    (λ e f h l q style at.
    let n = stands (tree_of c.args.tree.now q) (tree_there c.args.tree.now q _ at.names) in
    let here = still_at c.args.tree.now c.enter.new.tree c.args.place q style (level_here _ _ c.args.place c.enter.ensures.level) at in
    call_runs style c.args.procedure.now c.args.word.now c.args.args.now entered.0 e f
    (ap (λ (ps : List Parameter). bindings ps c.args.args.now) (sym c.parameters.ensures) ∙ entered.1) entered.2 n.1
    (entered.3 q n.0 at.names n.1) (c.leave_frame.ensures.left q n.0.depth (subst (λ (d : ℕ). Holds c.eval_value-ended.new.tree c.args.place q d) (ap depth_of n.1) (steady_holds c.args.tree.now c.eval_value-ended.new.tree c.args.place q (steady-trans c.args.tree.now c.enter.new.tree c.eval_value-ended.new.tree (level_steady c.args.tree.now c.enter.new.tree c.enter.ensures.level) c.eval_value-ended.ensures.keeps.steady) at.names at.running)))
    (at_prog (ap script (sym c.body.ensures)) (h q style (record { names = here.names; style_is = here.style_is }))) l)

pub commands::call-returns-in_default-clause-runs : goal.commands::call-returns-in_default-clause-runs
commands::call-returns-in_default-clause-runs g t c = λ q style at.
    at_prog (ap (called style) (no_item c.args.words.now c.in_default.len_below)) (at_reply (ap (λ (x : List ℕ). Completed (ok x)) c.empty.ensures) completed)

pub commands::call-returns-in_err-command-clause-runs : goal.commands::call-returns-in_err-command-clause-runs
commands::call-returns-in_err-command-clause-runs g t c =
    let p = err_from_is_err_and c.from_residual.result c.from_residual.ensures.1 in
    fails_err c.from_residual.result c.in_err-command.field-0.0 p.0 _ _ _ p.1 p.2
    (Interrupts-at c.in_err-command.field-0.0 c.args.tree.now c.args.place (λ n e. IsFailure itself (found n c.word-item.result) e) c.in_err-command.ensures)
    (λ e h q style at. let n = stands (tree_of c.args.tree.now q) (tree_there c.args.tree.now q _ at.names) in
    at_prog (ap (called style) (split_first c.args.words.now c.word-item.result c.in-len1-up.len_at_least c.word-item.is))
    (call_missing style c.word-item.result _ e n.1 (h q n.0 at.names n.1)))
    (λ q style at. stopped)

pub commands::call-returns-clause-runs : goal.commands::call-returns-clause-runs
commands::call-returns-clause-runs g t c =
    IfRan-more c.call_command.result
    (EndsFrom (ways g.O.Outside.goes g.O.Outside.loses) c.args.tree.now c.args.outside.now c.args.place (λ style. dispatch style c.word-item.result (take (length c.args.words.now - 1) (drop 1 c.args.words.now)) invalid_command (Some c.in_ok-command.command)) c.call_command.new.tree c.call_command.new.outside)
    (EndsFrom (ways g.O.Outside.goes g.O.Outside.loses) c.args.tree.now c.args.outside.now c.args.place (λ style. called style c.args.words.now) c.call_command.new.tree c.call_command.new.outside)
    (λ e h q style at. let n = stands (tree_of c.args.tree.now q) (tree_there c.args.tree.now q _ at.names) in
    at_prog (ap (called style) (split_first c.args.words.now c.word-item.result c.in-len1-up.len_at_least c.word-item.is))
    (call_found style c.word-item.result _ c.in_ok-command.command n.1 (c.in_ok-command.ensures q n.0 at.names n.1) (h q style at))) c.call_command.ensures.runs

pub control::catch-returns-in_default-clause-runs : goal.control::catch-returns-in_default-clause-runs
control::catch-returns-in_default-clause-runs g t c =
    breaks c.wrong_args.result _ _ (λ e h q style at. catch_none style c.args.args.now c.in_default.len_below h) (λ q style at. stopped) c.wrong_args.ensures

pub control::catch-returns-then-names-gt2-clause-runs : goal.control::catch-returns-then-names-gt2-clause-runs
control::catch-returns-then-names-gt2-clause-runs g t c =
    let many = c.if-names-gt2.true in
    breaks c.wrong_args-then-names-gt2.result _ _ (λ e h q style at.
    at_prog (ap control_catch (split_first c.args.args.now c.script-item.result c.in-len1-up.len_at_least c.script-item.is))
    (catch_many style c.script-item.result _ many h)) (λ q style at. stopped) c.wrong_args-then-names-gt2.ensures

pub control::catch-returns-in_err-completion-clause-runs : goal.control::catch-returns-in_err-completion-clause-runs
control::catch-returns-in_err-completion-clause-runs g t c =
    let few = c.if-names-gt2.false in
    let p = err_from_is_err_and c.from_residual.result c.from_residual.ensures.1 in
    ran_err c.from_residual.result c.in_err-completion.field-0.0 p.0 _ _ _ p.1 p.2
    (caught_err c.eval_value.result c.caught.result c.in_err-completion.field-0.0 (EndsAt (ways g.O.Outside.goes g.O.Outside.loses) c.args.tree.now c.args.outside.now c.args.place (λ style. script c.script-item.result) c.eval_value.new.tree c.eval_value.new.outside)
    c.in_err-completion.was c.caught.ensures c.eval_value.ensures.runs)
    (λ e h q style at.
    at_prog (ap control_catch (split_first c.args.args.now c.script-item.result c.in-len1-up.len_at_least c.script-item.is))
    (catch_passes style c.script-item.result _ (omega (arith, few)) h.1
    (h.0 q style (record { names = at.names; style_is = at.style_is }))))

pub control::catch-returns-in_err-keep_caught-clause-runs : goal.control::catch-returns-in_err-keep_caught-clause-runs
control::catch-returns-in_err-keep_caught-clause-runs g t c =
    let few = c.if-names-gt2.false in
    let p = err_from_is_err_and c.from_residual-in_err-keep_caught.result c.from_residual-in_err-keep_caught.ensures.1 in
    let caught = caught_ok c.eval_value.result c.caught.result c.in_ok-completion.completion (EndsAt (ways g.O.Outside.goes g.O.Outside.loses) c.args.tree.now c.args.outside.now c.args.place (λ style. script c.script-item.result) c.eval_value.new.tree c.eval_value.new.outside)
    c.in_ok-completion.was c.caught.ensures c.eval_value.ensures.runs in
    fails_err c.from_residual-in_err-keep_caught.result c.in_err-keep_caught.field-0.0 p.0 _ _ _ p.1 p.2 c.in_err-keep_caught.ensures.kept
    (λ e h q style at.
    let after = still_at c.args.tree.now c.eval_value.new.tree c.args.place q style (here_caught c.eval_value.result c.caught.result c.in_ok-completion.completion c.args.tree.now c.eval_value.new.tree c.args.place c.in_ok-completion.was c.caught.ensures c.eval_value.ensures.here) at in
    at_prog (ap control_catch (split_first c.args.args.now c.script-item.result c.in-len1-up.len_at_least c.script-item.is))
    (catch_goes style c.script-item.result _ (completion_of c.in_ok-completion.completion) (omega (arith, few))
    (caught q style (record { names = at.names; style_is = at.style_is }))
    (does_proceeds _ c.eval_value.new.outside (h q after.names _))))
    (λ q style at.
    at_prog (ap control_catch (split_first c.args.args.now c.script-item.result c.in-len1-up.len_at_least c.script-item.is))
    (catch_goes style c.script-item.result _ (completion_of c.in_ok-completion.completion) (omega (arith, few))
    (caught q style (record { names = at.names; style_is = at.style_is })) stopped))

pub control::catch-returns-clause-runs : goal.control::catch-returns-clause-runs
control::catch-returns-clause-runs g t c = λ q style at.
    let few = c.if-names-gt2.false in
    let caught = caught_ok c.eval_value.result c.caught.result c.in_ok-completion.completion (EndsAt (ways g.O.Outside.goes g.O.Outside.loses) c.args.tree.now c.args.outside.now c.args.place (λ style. script c.script-item.result) c.eval_value.new.tree c.eval_value.new.outside)
    c.in_ok-completion.was c.caught.ensures c.eval_value.ensures.runs in
    let after = still_at c.args.tree.now c.eval_value.new.tree c.args.place q style (here_caught c.eval_value.result c.caught.result c.in_ok-completion.completion c.args.tree.now c.eval_value.new.tree c.args.place c.in_ok-completion.was c.caught.ensures c.eval_value.ensures.here) at in
    let code : c.from_int.result ≡ code_text (completion_of c.in_ok-completion.completion) = search rules in
    at_prog (ap control_catch (split_first c.args.args.now c.script-item.result c.in-len1-up.len_at_least c.script-item.is))
    (catch_goes style c.script-item.result _ (completion_of c.in_ok-completion.completion) (omega (arith, few))
    (caught q style (record { names = at.names; style_is = at.style_is }))
    (does_proceeds _ c.eval_value.new.outside (c.in_ok-keep_caught.ensures.kept q after.names _ (tree_of c.keep_caught.new.tree) _ (refl, ap (λ (x : List ℕ). Completed (ok x)) code))))

pub control::catch-returns-clause-keeps : goal.control::catch-returns-clause-keeps
control::catch-returns-clause-keeps g t c = keeps-trans c.eval_value.ensures.keeps (level_keeps _ c.keep_caught.ensures.level)

pub control::eval-returns-then-is_empty-clause-runs : goal.control::eval-returns-then-is_empty-clause-runs
control::eval-returns-then-is_empty-clause-runs g t c =
    let none = zero_is (length c.args.args.now) c.is_empty.result c.is_empty.ensures c.if-is_empty.true in
    breaks c.wrong_args.result _ _ (λ e h q style at. eval_none style c.args.args.now (omega (arith, none)) h) (λ q style at. stopped) c.wrong_args.ensures

pub control::eval-returns-in_err-script-clause-runs : goal.control::eval-returns-in_err-script-clause-runs
control::eval-returns-in_err-script-clause-runs g t c =
    let some = some_is (length c.args.args.now) c.is_empty.result c.is_empty.ensures c.if-is_empty.false in
    let p = err_from_is_err_and c.from_residual.result c.from_residual.ensures.1 in
    fails_err c.from_residual.result c.in_err-script.field-0.0 p.0 _ _ _ p.1 p.2 c.in_err-script.ensures.refused
    (λ e h q style at. eval_long style c.args.args.now some h.0 h.1) (λ q style at. stopped)

pub control::eval-returns-clause-runs : goal.control::eval-returns-clause-runs
control::eval-returns-clause-runs g t c =
    let some = some_is (length c.args.args.now) c.is_empty.result c.is_empty.ensures c.if-is_empty.false in
    IfRan-more c.eval_value.result
    (EndsAt (ways g.O.Outside.goes g.O.Outside.loses) c.args.tree.now c.args.outside.now c.args.place (λ style. script c.in_ok-script.script) c.eval_value.new.tree c.eval_value.new.outside)
    (EndsFrom (ways g.O.Outside.goes g.O.Outside.loses) c.args.tree.now c.args.outside.now c.args.place (λ style. control_eval c.args.args.now) c.eval_value.new.tree c.eval_value.new.outside)
    (λ e h q style at. eval_runs style c.args.args.now some c.in_ok-script.ensures.whole.1
    (at_prog (ap script (sym c.in_ok-script.ensures.whole.0)) (h q style (record { names = at.names; style_is = at.style_is })))) c.eval_value.ensures.runs

-- targets of aliases, and entries

pub crossing::call_target-returns-in-Err-clause-runs : goal.crossing::call_target-returns-in-Err-clause-runs
crossing::call_target-returns-in-Err-clause-runs g t c = breaks c.too_deep.result (λ e. e ≡ too_deep_at c.in-Err.levels) _ (λ e h q style at.
    let no = c.in-Err.ensures.refused q at.names in target_refused style c.args.words.now c.in-Err.levels no.0 no.1 h) (λ q style at. stopped) c.too_deep.ensures

pub crossing::call_target-call-ended-requires : goal.crossing::call_target-call-ended-requires
crossing::call_target-call-ended-requires g t c κs within =
    let p = c.requires.0 in
    let names = c.requires.1 in
    let free = c.in_default.ensures.nested p names in
    let top = stands (tree_of c.args.tree.now []) (top_there c.args.tree.now) in
    let fewer = less_room (tree_of c.args.tree.now) (tree_of c.nest_at.new.self) p top.0 top.1 (c.keeps_form.ensures.most [] top.0 top.1) free.0 free.1 in
    (search rules, (search rules, (p, c.in_default.ensures.keys p ∙ names, begun_at c.args.tree.now c.nest_at.new.self c.args.place p names free.1)))

pub crossing::call_target-unnest-requires : goal.crossing::call_target-unnest-requires
crossing::call_target-unnest-requires g t c = record {
  holds = (c.requires.0, 1, nested_holds c.args.tree.now c.nest_at.new.self c.call-ended.new.tree c.args.place c.requires.0 c.requires.1 c.in_default.ensures.keys c.in_default.ensures.deeper (c.in_default.ensures.nested c.requires.0 c.requires.1).1 c.call-ended.ensures.keeps.steady);
  innermost = nested_innermost c.args.tree.now c.nest_at.new.self c.call-ended.new.tree c.args.place c.requires.0 c.requires.1 c.in_default.ensures.keys c.in_default.ensures.deeper (c.in_default.ensures.nested c.requires.0 c.requires.1).1 c.call-ended.ensures.keeps.steady;
}

pub crossing::call_target-returns-clause-runs : goal.crossing::call_target-returns-clause-runs
crossing::call_target-returns-clause-runs g t c =
    IfRan-more c.call-ended.result
    (EndsFrom (ways g.O.Outside.goes g.O.Outside.loses) c.nest_at.new.self c.args.outside.now c.args.place (λ style. called style c.args.words.now) c.call-ended.new.tree c.call-ended.new.outside)
    (EndsAt (ways g.O.Outside.goes g.O.Outside.loses) c.args.tree.now c.args.outside.now c.args.place (λ style. targeted c.args.words.now) c.unnest.new.self c.call-ended.new.outside)
    (λ e h q style at.
    let free = c.in_default.ensures.nested q at.names in
    let running = begun_at c.args.tree.now c.nest_at.new.self c.args.place q at.names free.1 in
    let names = c.in_default.ensures.keys q ∙ at.names in
    target_ends style c.args.words.now free.0 free.1 (c.unnest.ensures.unnested q 1 (nested_holds c.args.tree.now c.nest_at.new.self c.call-ended.new.tree c.args.place q at.names c.in_default.ensures.keys c.in_default.ensures.deeper (c.in_default.ensures.nested q at.names).1 c.call-ended.ensures.keeps.steady))
    (h q style (record { names = names; style_is = ap (λ m. m.integers) c.in_default.ensures.marks ∙ at.style_is; running = running })))
    c.call-ended.ensures.runs

pub crossing::call_target-returns-in-Err-clause-keeps : goal.crossing::call_target-returns-in-Err-clause-keeps
crossing::call_target-returns-in-Err-clause-keeps g t c = level_keeps _ (same_level c.args.tree.now c.nest_at.new.self c.in-Err.ensures.marks c.in-Err.ensures.keys c.in-Err.ensures.held (c.in-Err.ensures.refused c.requires.0 c.requires.1).1)

pub crossing::call_target-returns-clause-keeps : goal.crossing::call_target-returns-clause-keeps
crossing::call_target-returns-clause-keeps g t c = record {
  steady = nested_steady c.args.tree.now c.nest_at.new.self c.call-ended.new.tree c.args.place c.requires.0 c.requires.1 c.in_default.ensures.keys c.in_default.ensures.deeper (c.in_default.ensures.nested c.requires.0 c.requires.1).1 c.call-ended.ensures.keeps.steady
      c.unnest.new.self c.unnest.ensures.keys c.unnest.ensures.shallower (c.unnest.ensures.unnested c.requires.0 1 (nested_holds c.args.tree.now c.nest_at.new.self c.call-ended.new.tree c.args.place c.requires.0 c.requires.1 c.in_default.ensures.keys c.in_default.ensures.deeper (c.in_default.ensures.nested c.requires.0 c.requires.1).1 c.call-ended.ensures.keeps.steady)) c.in_default.ensures.marks c.unnest.ensures.marks;
  left = c.call-ended.ensures.keeps.left;
}

-- what stays as it is

pub evaluation::eval_commands-returns-in_err-last-clause-keeps : goal.evaluation::eval_commands-returns-in_err-last-clause-keeps
evaluation::eval_commands-returns-in_err-last-clause-keeps g t c = keeps-trans c.commands.invariant.keeps c.eval_command.ensures.keeps

pub evaluation::substitute-eval_part-requires : goal.evaluation::substitute-eval_part-requires
evaluation::substitute-eval_part-requires g t c κs within = (search rules, (search rules, (still_running c.args.tree.now c.parts.tree c.args.place c.parts.invariant.here c.requires.running, c.parts.invariant.short)))

pub evaluation::substitute-returns-in_err-eval_part-clause-keeps : goal.evaluation::substitute-returns-in_err-eval_part-clause-keeps
evaluation::substitute-returns-in_err-eval_part-clause-keeps g t c = keeps-trans c.parts.invariant.keeps c.eval_part.ensures.keeps

-- calls for others

pub commands::call_command-returns-in-Alias-clause-runs : goal.commands::call_command-returns-in-Alias-clause-runs
commands::call_command-returns-in-Alias-clause-runs g t c =
    IfRan-more c.call_alias.result
    (EndsFrom (ways g.O.Outside.goes g.O.Outside.loses) c.args.tree.now c.args.outside.now c.args.place (λ style. alias_program c.in-Alias.alias c.args.word.now c.args.args.now) c.call_alias.new.tree c.call_alias.new.outside)
    (EndsFrom (ways g.O.Outside.goes g.O.Outside.loses) c.args.tree.now c.args.outside.now c.args.place (λ style. dispatch style c.args.word.now c.args.args.now invalid_command (Some c.args.command.now)) c.call_alias.new.tree c.call_alias.new.outside)
    (λ e h q style at. at_prog (ap (λ (x : Command). dispatch style c.args.word.now c.args.args.now invalid_command (Some x)) c.in-Alias.is) (h q style at)) c.call_alias.ensures.runs

pub crossing::serve_call-returns-in_err-charge-clause-runs : goal.crossing::serve_call-returns-in_err-charge-clause-runs
crossing::serve_call-returns-in_err-charge-clause-runs g t c =
    let p = err_from_is_err_and c.from_residual-in_err-charge.result c.from_residual-in_err-charge.ensures.1 in
    says_err c.from_residual-in_err-charge.result c.in_err-charge.field-0.0 p.0 _ _ _ p.1 p.2 c.in_err-charge.ensures.refused
    (λ e h q style at. entry_stops style c.args.words.items (h q at.names))

pub crossing::serve_call-returns-in_err-words-clause-runs : goal.crossing::serve_call-returns-in_err-words-clause-runs
crossing::serve_call-returns-in_err-words-clause-runs g t c =
    let p = err_from_is_err_and c.from_residual.result c.from_residual.ensures.1 in
    memory_err c.from_residual.result p.0 _ _ p.1 p.2 (λ q style at. stopped)

pub crossing::serve_call-returns-clause-runs : goal.crossing::serve_call-returns-clause-runs
crossing::serve_call-returns-clause-runs g t c =
    IfRan-more c.call_target.result
    (EndsAt (ways g.O.Outside.goes g.O.Outside.loses) c.charge.new.tree c.charge.new.outside c.args.place (λ style. targeted c.as_slice.result.now) c.call_target.new.tree c.call_target.new.outside)
    (EndsAt (ways g.O.Outside.goes g.O.Outside.loses) c.args.tree.now c.args.outside.now c.args.place (λ style. serve style (CallWords c.args.words.items)) c.call_target.new.tree c.call_target.new.outside)
    (λ e h q style at.
    let counts = c.in_ok-charge.ensures.counted q at.names in
    entry_calls style c.args.words.items c.as_slice.result.now (search rules) counts
    (h q style (record { names = c.charge.ensures.level.keys q ∙ at.names; style_is = ap (λ m. m.integers) c.charge.ensures.level.marks ∙ at.style_is }))) c.call_target.ensures.runs

pub crossing::serve_eval-returns-clause-runs : goal.crossing::serve_eval-returns-clause-runs
crossing::serve_eval-returns-clause-runs g t c =
    settled_more c.eval_value-ended.result c.settled.result
    (EndsAt (ways g.O.Outside.goes g.O.Outside.loses) c.args.tree.now c.args.outside.now c.args.place (λ style. script c.args.script.now) c.eval_value-ended.new.tree c.eval_value-ended.new.outside)
    (EndsAt (ways g.O.Outside.goes g.O.Outside.loses) c.args.tree.now c.args.outside.now c.args.place (λ style. serve style (Eval c.args.script.now)) c.eval_value-ended.new.tree c.eval_value-ended.new.outside)
    c.eval_value-ended.ensures.runs c.settled.ensures (λ e f h l q style at. entry_evaluates style c.args.script.now e f l (h q style at))

-- hidden commands

pub crossing::invoke-returns-in-Err-clause-runs : goal.crossing::invoke-returns-in-Err-clause-runs
crossing::invoke-returns-in-Err-clause-runs g t c = breaks c.too_deep.result (λ e. e ≡ too_deep_at c.in-Err.levels) _ (λ e h q style at.
    let no = c.in-Err.ensures.refused q at.names in unhidden_refused style c.args.is_global c.args.words.now c.in-Err.levels no.0 no.1 h) (λ q style at. stopped) c.too_deep.ensures

pub crossing::invoke-unnest-requires : goal.crossing::invoke-unnest-requires
crossing::invoke-unnest-requires g t c = record {
  holds = (c.requires.0, 1, nested_holds c.args.tree.now c.nest_at.new.self c.invoke_at-ended.new.tree c.args.place c.requires.0 c.requires.1 c.in_default.ensures.keys c.in_default.ensures.deeper (c.in_default.ensures.nested c.requires.0 c.requires.1).1 c.invoke_at-ended.ensures.keeps.steady);
  innermost = nested_innermost c.args.tree.now c.nest_at.new.self c.invoke_at-ended.new.tree c.args.place c.requires.0 c.requires.1 c.in_default.ensures.keys c.in_default.ensures.deeper (c.in_default.ensures.nested c.requires.0 c.requires.1).1 c.invoke_at-ended.ensures.keeps.steady;
}

pub crossing::invoke-returns-clause-runs : goal.crossing::invoke-returns-clause-runs
crossing::invoke-returns-clause-runs g t c =
    IfRan-more c.invoke_at-ended.result
    (EndsFrom (ways g.O.Outside.goes g.O.Outside.loses) c.nest_at.new.self c.args.outside.now c.args.place (λ style. hidden_at style c.args.is_global c.args.words.now) c.invoke_at-ended.new.tree c.invoke_at-ended.new.outside)
    (EndsAt (ways g.O.Outside.goes g.O.Outside.loses) c.args.tree.now c.args.outside.now c.args.place (λ style. unhidden c.args.is_global c.args.words.now) c.unnest.new.self c.invoke_at-ended.new.outside)
    (λ e h q style at.
    let free = c.in_default.ensures.nested q at.names in
    let running = begun_at c.args.tree.now c.nest_at.new.self c.args.place q at.names free.1 in
    let names = c.in_default.ensures.keys q ∙ at.names in
    unhidden_ends style c.args.is_global c.args.words.now free.0 free.1 (c.unnest.ensures.unnested q 1 (nested_holds c.args.tree.now c.nest_at.new.self c.invoke_at-ended.new.tree c.args.place q at.names c.in_default.ensures.keys c.in_default.ensures.deeper (c.in_default.ensures.nested q at.names).1 c.invoke_at-ended.ensures.keeps.steady))
    (h q style (record { names = names; style_is = ap (λ m. m.integers) c.in_default.ensures.marks ∙ at.style_is; running = running })))
    c.invoke_at-ended.ensures.runs

pub crossing::invoke-returns-in-Err-clause-keeps : goal.crossing::invoke-returns-in-Err-clause-keeps
crossing::invoke-returns-in-Err-clause-keeps g t c = level_keeps _ (same_level c.args.tree.now c.nest_at.new.self c.in-Err.ensures.marks c.in-Err.ensures.keys c.in-Err.ensures.held (c.in-Err.ensures.refused c.requires.0 c.requires.1).1)

pub crossing::invoke-returns-clause-keeps : goal.crossing::invoke-returns-clause-keeps
crossing::invoke-returns-clause-keeps g t c = record {
  steady = nested_steady c.args.tree.now c.nest_at.new.self c.invoke_at-ended.new.tree c.args.place c.requires.0 c.requires.1 c.in_default.ensures.keys c.in_default.ensures.deeper (c.in_default.ensures.nested c.requires.0 c.requires.1).1 c.invoke_at-ended.ensures.keeps.steady
      c.unnest.new.self c.unnest.ensures.keys c.unnest.ensures.shallower (c.unnest.ensures.unnested c.requires.0 1 (nested_holds c.args.tree.now c.nest_at.new.self c.invoke_at-ended.new.tree c.args.place c.requires.0 c.requires.1 c.in_default.ensures.keys c.in_default.ensures.deeper (c.in_default.ensures.nested c.requires.0 c.requires.1).1 c.invoke_at-ended.ensures.keeps.steady)) c.in_default.ensures.marks c.unnest.ensures.marks;
  left = c.invoke_at-ended.ensures.keeps.left;
}

pub commands::call_hidden-returns-in_default-clause-runs : goal.commands::call_hidden-returns-in_default-clause-runs
commands::call_hidden-returns-in_default-clause-runs g t c = λ q style at.
    at_prog (ap (invoked style) (no_item c.args.words.now c.in_default.len_below)) (at_reply (ap (λ (x : List ℕ). Completed (ok x)) c.empty.ensures) completed)

pub commands::call_hidden-returns-in_err-command-clause-runs : goal.commands::call_hidden-returns-in_err-command-clause-runs
commands::call_hidden-returns-in_err-command-clause-runs g t c =
    let p = err_from_is_err_and c.from_residual.result c.from_residual.ensures.1 in
    fails_err c.from_residual.result c.in_err-command.field-0.0 p.0 _ _ _ p.1 p.2
    (Interrupts-at c.in_err-command.field-0.0 c.args.tree.now c.args.place (λ n e. IsFailure itself (hidden_found n c.word-item.result) e) c.in_err-command.ensures)
    (λ e h q style at. let n = stands (tree_of c.args.tree.now q) (tree_there c.args.tree.now q _ at.names) in
    at_prog (ap (invoked style) (split_first c.args.words.now c.word-item.result c.in-len1-up.len_at_least c.word-item.is))
    (invoke_missing style c.word-item.result _ e n.1 (h q n.0 at.names n.1)))
    (λ q style at. stopped)

pub commands::call_hidden-returns-clause-runs : goal.commands::call_hidden-returns-clause-runs
commands::call_hidden-returns-clause-runs g t c =
    IfRan-more c.call_command.result
    (EndsFrom (ways g.O.Outside.goes g.O.Outside.loses) c.args.tree.now c.args.outside.now c.args.place (λ style. dispatch style c.word-item.result (take (length c.args.words.now - 1) (drop 1 c.args.words.now)) invalid_command (Some c.in_ok-command.command)) c.call_command.new.tree c.call_command.new.outside)
    (EndsFrom (ways g.O.Outside.goes g.O.Outside.loses) c.args.tree.now c.args.outside.now c.args.place (λ style. invoked style c.args.words.now) c.call_command.new.tree c.call_command.new.outside)
    (λ e h q style at. let n = stands (tree_of c.args.tree.now q) (tree_there c.args.tree.now q _ at.names) in
    at_prog (ap (invoked style) (split_first c.args.words.now c.word-item.result c.in-len1-up.len_at_least c.word-item.is))
    (invoke_found style c.word-item.result _ c.in_ok-command.command n.1 (c.in_ok-command.ensures q n.0 at.names n.1) (at_prog (same_dispatch style c.word-item.result _ c.in_ok-command.command) (h q style at)))) c.call_command.ensures.runs

pub crossing::serve_hidden-returns-in_err-charge-clause-runs : goal.crossing::serve_hidden-returns-in_err-charge-clause-runs
crossing::serve_hidden-returns-in_err-charge-clause-runs g t c =
    let p = err_from_is_err_and c.from_residual-in_err-charge.result c.from_residual-in_err-charge.ensures.1 in
    says_err c.from_residual-in_err-charge.result c.in_err-charge.field-0.0 p.0 _ _ _ p.1 p.2 c.in_err-charge.ensures.refused
    (λ e h q style at. hidden_stops style c.args.is_global c.args.words.items (h q at.names))

pub crossing::serve_hidden-returns-in_err-words-clause-runs : goal.crossing::serve_hidden-returns-in_err-words-clause-runs
crossing::serve_hidden-returns-in_err-words-clause-runs g t c =
    let p = err_from_is_err_and c.from_residual.result c.from_residual.ensures.1 in
    memory_err c.from_residual.result p.0 _ _ p.1 p.2 (λ q style at. stopped)

pub crossing::serve_hidden-returns-clause-runs : goal.crossing::serve_hidden-returns-clause-runs
crossing::serve_hidden-returns-clause-runs g t c =
    settled_more c.invoke-ended.result c.settled.result
    (EndsAt (ways g.O.Outside.goes g.O.Outside.loses) c.charge.new.tree c.charge.new.outside c.args.place (λ style. unhidden c.args.is_global c.as_slice.result.now) c.invoke-ended.new.tree c.invoke-ended.new.outside)
    (EndsAt (ways g.O.Outside.goes g.O.Outside.loses) c.args.tree.now c.args.outside.now c.args.place (λ style. serve style (InvokeHidden c.args.is_global c.args.words.items)) c.invoke-ended.new.tree c.invoke-ended.new.outside)
    c.invoke-ended.ensures.runs c.settled.ensures
    (λ e f h l q style at.
    let counts = c.in_ok-charge.ensures.counted q at.names in
    hidden_settles style c.args.is_global c.args.words.items c.as_slice.result.now e f (search rules) counts l
    (h q style (record { names = c.charge.ensures.level.keys q ∙ at.names; style_is = ap (λ m. m.integers) c.charge.ensures.level.marks ∙ at.style_is })))

pub crossing::invoke_at-returns-then-not-is_global-clause-runs : goal.crossing::invoke_at-returns-then-not-is_global-clause-runs
crossing::invoke_at-returns-then-not-is_global-clause-runs g t c =
    let here : c.args.is_global ≡ false = search rules in
    IfRan-more c.call_hidden.result (EndsFrom (ways g.O.Outside.goes g.O.Outside.loses) c.args.tree.now c.args.outside.now c.args.place (λ style. invoked style c.args.words.now) c.call_hidden.new.tree c.call_hidden.new.outside)
    (EndsFrom (ways g.O.Outside.goes g.O.Outside.loses) c.args.tree.now c.args.outside.now c.args.place (λ style. hidden_at style c.args.is_global c.args.words.now) c.call_hidden.new.tree c.call_hidden.new.outside)
    (λ e h q style at. hidden_here style c.args.is_global c.args.words.now e here (h q style at)) c.call_hidden.ensures.runs

pub crossing::invoke_at-returns-in_err-set_aside-clause-runs : goal.crossing::invoke_at-returns-in_err-set_aside-clause-runs
crossing::invoke_at-returns-in_err-set_aside-clause-runs g t c =
    let p = err_from_is_err_and c.from_residual.result c.from_residual.ensures.1 in
    memory_err c.from_residual.result p.0 _ _ p.1 (p.2 ∙ c.in_err-set_aside.ensures.memory) (λ q style at. stopped)

pub crossing::invoke_at-returns-clause-runs : goal.crossing::invoke_at-returns-clause-runs
crossing::invoke_at-returns-clause-runs g t c =
    let yes : c.args.is_global ≡ true = search rules in
    IfRan-more c.call_hidden-ended.result (EndsFrom (ways g.O.Outside.goes g.O.Outside.loses) c.set_aside.new.tree c.args.outside.now c.args.place (λ style. invoked style c.args.words.now) c.call_hidden-ended.new.tree c.call_hidden-ended.new.outside)
    (EndsFrom (ways g.O.Outside.goes g.O.Outside.loses) c.args.tree.now c.args.outside.now c.args.place (λ style. hidden_at style c.args.is_global c.args.words.now) c.bring_back.new.tree c.call_hidden-ended.new.outside)
    (λ e h q style at.
    let n = stands (tree_of c.args.tree.now q) (tree_there c.args.tree.now q _ at.names) in
    let here = still_at c.args.tree.now c.set_aside.new.tree c.args.place q style (level_here c.args.tree.now c.set_aside.new.tree c.args.place c.set_aside.ensures.level) at in
    hidden_global style (tree_of c.args.tree.now) c.args.is_global c.args.words.now e yes n.1 (c.in_ok-set_aside.ensures.aside q n.0 at.names n.1) (c.bring_back.ensures.back q n.0.depth (subst (λ (d : ℕ). Holds c.call_hidden-ended.new.tree c.args.place q d) (ap depth_of n.1) (steady_holds c.args.tree.now c.call_hidden-ended.new.tree c.args.place q (steady-trans c.args.tree.now c.set_aside.new.tree c.call_hidden-ended.new.tree (level_steady c.args.tree.now c.set_aside.new.tree c.set_aside.ensures.level) c.call_hidden-ended.ensures.keeps.steady) at.names at.running)))
    (h q style here)) c.call_hidden-ended.ensures.runs

-- # Words among the operands of expressions

pub operands::eval_operand-returns-in-Some-clause-runs : goal.operands::eval_operand-returns-in-Some-clause-runs
operands::eval_operand-returns-in-Some-clause-runs g t c =
    let is : c.args.operand.now.parts ≡ part.Variable c.in-Some.name.now ∷ [] = c.in-Some.ensures in
    ran c.read_named.result (λ e. (p : Path) (n : Node Own) → Names c.args.tree.now c.args.place p → tree_of c.args.tree.now p ≡ Some n → VariableEnds c.in-Some.name.now n e)
    (EndsFrom (ways g.O.Outside.goes g.O.Outside.loses) c.args.tree.now c.args.outside.now c.args.place (λ style. parts c.args.operand.now.parts [] []) c.args.tree.now c.args.outside.now)
    (λ e h q style at. let n = stands (tree_of c.args.tree.now q) (tree_there c.args.tree.now q _ at.names) in at_prog (ap (λ (ps : List Part). parts ps [] []) is) (Steps.lone_variable style (part.Variable c.in-Some.name.now) c.in-Some.name.now e refl n.1 (h q n.0 at.names n.1)))
    (λ q style at. stopped)
    (IfEnded-at c.read_named.result c.args.tree.now c.args.place (VariableEnds c.in-Some.name.now) (λ p n at there. variable_ends c.read_named.result c.in-Some.name.now n c.read_named.ensures.short (c.read_named.ensures.read p n at there)))

pub operands::eval_operand-returns-in-Some-clause-here : goal.operands::eval_operand-returns-in-Some-clause-here
operands::eval_operand-returns-in-Some-clause-here g t c = unmoved c.read_named.result c.args.tree.now c.args.place

pub operands::eval_operand-returns-in-Lone-clause-runs : goal.operands::eval_operand-returns-in-Lone-clause-runs
operands::eval_operand-returns-in-Lone-clause-runs g t c =
    IfRan-more c.eval_lone_part.result
    (EndsFrom (ways g.O.Outside.goes g.O.Outside.loses) c.args.tree.now c.args.outside.now c.args.place (λ style. parts (seen_part c.in-Lone.part ∷ []) [] []) c.eval_lone_part.new.tree c.eval_lone_part.new.outside)
    (EndsFrom (ways g.O.Outside.goes g.O.Outside.loses) c.args.tree.now c.args.outside.now c.args.place (λ style. parts c.args.operand.now.parts [] []) c.eval_lone_part.new.tree c.eval_lone_part.new.outside)
    (λ e h q style at. at_prog (ap (λ (w : WordRead). parts w.parts [] []) (sym c.word.ensures ∙ ap seen_word c.in-Lone.is)) (h q style at)) c.eval_lone_part.ensures.runs

-- # Expressions, and the commands with conditions

pub expressions::expression-returns-in-Some-clause-runs : goal.expressions::expression-returns-in-Some-clause-runs
expressions::expression-returns-in-Some-clause-runs g t c = λ q style at text is.
    let n = stands (tree_of c.args.tree.now q) (tree_there c.args.tree.now q _ at.names) in
    let same = c.integers-style.ensures ∙ at.style_is in
    let fits : FitsSigned w64 c.in-Some.number = search rules in
    let made : c.from_int.result ≡ signed_decimal c.in-Some.number = c.from_int.ensures ∙ ap signed_decimal (to_z-of_z w64 c.in-Some.number fits) in
    Computing.computes_kept style text c.args.kept.now is
    (Computing.number_at_hand style c.integers-style.result c.args.kept.now.nodes.items c.in-Some.number c.from_int.result same n.1 (c.in-Some.ensures q n.0 at.names n.1) made)

pub expressions::expression-returns-in_err-count_behind-clause-runs : goal.expressions::expression-returns-in_err-count_behind-clause-runs
expressions::expression-returns-in_err-count_behind-clause-runs g t c =
    let p = err_from_is_err_and c.from_residual.result c.from_residual.ensures.1 in
    ran_err c.from_residual.result c.in_err-count_behind.field-0.0 p.0 _ _ _ p.1 p.2 c.in_err-count_behind.ensures.breaks
    (λ e h. computes_behind (ways g.O.Outside.goes g.O.Outside.loses) c.args.tree.now c.count_behind.new.tree c.args.outside.now c.count_behind.new.outside c.args.place c.args.kept.now c.in-Some-number_behind.number (λ n. e) c.in-Some-number_behind.ensures h.1)

pub expressions::expression-returns-in_err-count_behind-clause-here : goal.expressions::expression-returns-in_err-count_behind-clause-here
expressions::expression-returns-in_err-count_behind-clause-here g t c = on_completion c.from_residual.result (IsHere c.args.tree.now c.count_behind.new.tree c.args.place) c.count_behind.ensures.here

pub expressions::expression-returns-in-Some-number_behind-clause-runs : goal.expressions::expression-returns-in-Some-number_behind-clause-runs
expressions::expression-returns-in-Some-number_behind-clause-runs g t c =
    let fits : FitsSigned w64 c.in-Some-number_behind.number = search rules in
    let made : c.from_int-in-Some-number_behind.result ≡ signed_decimal c.in-Some-number_behind.number = c.from_int-in-Some-number_behind.ensures ∙ ap signed_decimal (to_z-of_z w64 c.in-Some-number_behind.number fits) in
    subst (λ (text : List ℕ). ComputesTo (ways g.O.Outside.goes g.O.Outside.loses) c.args.tree.now c.args.outside.now c.args.place c.args.kept.now c.count_behind.new.tree c.count_behind.new.outside (Some (Completed (ok text)))) (sym made)
    (computes_behind (ways g.O.Outside.goes g.O.Outside.loses) c.args.tree.now c.count_behind.new.tree c.args.outside.now c.count_behind.new.outside c.args.place c.args.kept.now c.in-Some-number_behind.number _ c.in-Some-number_behind.ensures c.in_ok-count_behind.ensures.computed)

pub expressions::compute_parts-returns-in_err-operand-clause-runs : goal.expressions::compute_parts-returns-in_err-operand-clause-runs
expressions::compute_parts-returns-in_err-operand-clause-runs g t c =
    let p = err_from_is_err_and c.from_residual.result c.from_residual.ensures.1 in
    fails_err c.from_residual.result c.in_err-operand.field-0.0 p.0 _ _ _ p.1 p.2 c.in_err-operand.ensures.gives
    (λ e h q style at text is.
    let same = c.integers-style.ensures ∙ at.style_is in
    c.parts.invariant.leads q style at text is _ _ _
    (Conditions.is_refused style _ (settles style) e (subst (λ (s : Integers). IsRefused (from s c.args.kept.now.nodes.items c.parts.evaluation.next c.parts.evaluation.values.items) e) same h)))
    (λ q style at text is. c.parts.invariant.leads q style at text is _ _ _ stopped)

pub expressions::compute_parts-returns-in_err-value-in-Wants-clause-runs : goal.expressions::compute_parts-returns-in_err-value-in-Wants-clause-runs
expressions::compute_parts-returns-in_err-value-in-Wants-clause-runs g t c =
    let wants : from c.integers-style.result c.args.kept.now.nodes.items c.parts.evaluation.next c.parts.evaluation.values.items
    ≡ substitute c.in-Wants.operand.now (λ v. from c.integers-style.result c.args.kept.now.nodes.items c.next_part.new.evaluation.next (c.next_part.new.evaluation.values.items ++ v ∷ [])) = search rules in
    let p = err_from_is_err_and c.from_residual-in_err-value-in-Wants.result c.from_residual-in_err-value-in-Wants.ensures.1 in
    ran_err c.from_residual-in_err-value-in-Wants.result c.in_err-value-in-Wants.field-0.0 p.0 _ _ _ p.1 p.2
    (stays_of c.eval_operand.result c.in_err-value-in-Wants.field-0.0 (EndsFrom (ways g.O.Outside.goes g.O.Outside.loses) c.parts.tree c.parts.outside c.args.place (λ style. parts c.in-Wants.operand.now.parts [] []) c.eval_operand.new.tree c.eval_operand.new.outside)
    c.in_err-value-in-Wants.ensures.same c.eval_operand.ensures.runs c.in_err-value-in-Wants.ensures.stays)
    (λ e h q style at text is.
    let same = c.integers-style.ensures ∙ at.style_is in
    c.parts.invariant.leads q style at text is _ _ _
    (Conditions.wants_part style c.integers-style.result c.args.kept.now.nodes.items c.parts.evaluation.next c.next_part.new.evaluation.next c.parts.evaluation.values.items c.next_part.new.evaluation.values.items c.in-Wants.operand.now same wants
    (Conditions.part_stays style c.in-Wants.operand.now (λ v. from style c.args.kept.now.nodes.items c.next_part.new.evaluation.next (c.next_part.new.evaluation.values.items ++ v ∷ [])) (settles style) e h.1 (h.0 q style (still_at c.args.tree.now c.parts.tree c.args.place q style c.parts.invariant.here at)))))

pub expressions::compute_parts-returns-in_err-supply-in-Wants-clause-runs : goal.expressions::compute_parts-returns-in_err-supply-in-Wants-clause-runs
expressions::compute_parts-returns-in_err-supply-in-Wants-clause-runs g t c =
    let wants : from c.integers-style.result c.args.kept.now.nodes.items c.parts.evaluation.next c.parts.evaluation.values.items
    ≡ substitute c.in-Wants.operand.now (λ v. from c.integers-style.result c.args.kept.now.nodes.items c.next_part.new.evaluation.next (c.next_part.new.evaluation.values.items ++ v ∷ [])) = search rules in
    let x = ran_text c.eval_operand.result c.in_ok-value-in-Wants.value (EndsFrom (ways g.O.Outside.goes g.O.Outside.loses) c.parts.tree c.parts.outside c.args.place (λ style. parts c.in-Wants.operand.now.parts [] []) c.eval_operand.new.tree c.eval_operand.new.outside)
    c.in_ok-value-in-Wants.ensures.text c.eval_operand.ensures.runs in
    let p = err_from_is_err_and c.from_residual-in_err-supply-in-Wants.result c.from_residual-in_err-supply-in-Wants.ensures.1 in
    memory_err c.from_residual-in_err-supply-in-Wants.result p.0 _ _ p.1 p.2
    (λ q style at text is.
    let same = c.integers-style.ensures ∙ at.style_is in
    c.parts.invariant.leads q style at text is _ _ _
    (Conditions.wants_part style c.integers-style.result c.args.kept.now.nodes.items c.parts.evaluation.next c.next_part.new.evaluation.next c.parts.evaluation.values.items c.next_part.new.evaluation.values.items c.in-Wants.operand.now same wants
    (Computing.part_goes style c.in-Wants.operand.now (λ v. from style c.args.kept.now.nodes.items c.next_part.new.evaluation.next (c.next_part.new.evaluation.values.items ++ v ∷ [])) (settles style) x.0 c.in_ok-value-in-Wants.value x.2 x.3 (x.1 q style (still_at c.args.tree.now c.parts.tree c.args.place q style c.parts.invariant.here at))
    stopped)))

pub expressions::compute_parts-returns-in-Done-clause-runs : goal.expressions::compute_parts-returns-in-Done-clause-runs
expressions::compute_parts-returns-in-Done-clause-runs g t c =
    let gives : from c.integers-style.result c.args.kept.now.nodes.items c.parts.evaluation.next c.parts.evaluation.values.items ≡ value c.in-Done.value = search rules in
    ran c.settle.result (EndsBy (settles c.integers-style.result c.in-Done.value)) (ComputesTo (ways g.O.Outside.goes g.O.Outside.loses) c.args.tree.now c.args.outside.now c.args.place c.args.kept.now c.parts.tree c.parts.outside)
    (λ e h q style at text is.
    let same = c.integers-style.ensures ∙ at.style_is in
    c.parts.invariant.leads q style at text is _ _ _
    (Conditions.is_value style c.integers-style.result c.args.kept.now.nodes.items c.parts.evaluation.next c.parts.evaluation.values.items c.in-Done.value e same gives h))
    (λ q style at text is. c.parts.invariant.leads q style at text is _ _ _ stopped) c.settle.ensures

pub expressions::compute_parts-parts-preserved : goal.expressions::compute_parts-parts-preserved
expressions::compute_parts-parts-preserved g t c =
    let wants : from c.integers-style.result c.args.kept.now.nodes.items c.parts.evaluation.next c.parts.evaluation.values.items
    ≡ substitute c.in-Wants.operand.now (λ v. from c.integers-style.result c.args.kept.now.nodes.items c.next_part.new.evaluation.next (c.next_part.new.evaluation.values.items ++ v ∷ [])) = search rules in
    let x = ran_text c.eval_operand.result c.in_ok-value-in-Wants.value (EndsFrom (ways g.O.Outside.goes g.O.Outside.loses) c.parts.tree c.parts.outside c.args.place (λ style. parts c.in-Wants.operand.now.parts [] []) c.eval_operand.new.tree c.eval_operand.new.outside)
    c.in_ok-value-in-Wants.ensures.text c.eval_operand.ensures.runs in
    record {
      leads = λ q style at text is V z r run.
          let same = c.integers-style.ensures ∙ at.style_is in
          c.parts.invariant.leads q style at text is _ _ _
          (Conditions.wants_part style c.integers-style.result c.args.kept.now.nodes.items c.parts.evaluation.next c.next_part.new.evaluation.next c.parts.evaluation.values.items c.next_part.new.evaluation.values.items c.in-Wants.operand.now same wants
          (Computing.part_goes style c.in-Wants.operand.now (λ v. from style c.args.kept.now.nodes.items c.next_part.new.evaluation.next (c.next_part.new.evaluation.values.items ++ v ∷ [])) (settles style) x.0 c.in_ok-value-in-Wants.value x.2 x.3 (x.1 q style (still_at c.args.tree.now c.parts.tree c.args.place q style c.parts.invariant.here at))
          (at_prog (λ i. computed (from style c.args.kept.now.nodes.items (sym c.in_ok-supply-in-Wants.ensures.next i) (sym c.in_ok-supply-in-Wants.ensures.values i)) (settles style)) run)));
      here = here-trans c.args.tree.now c.parts.tree c.eval_operand.new.tree c.args.place c.parts.invariant.here (here_text c.eval_operand.result c.in_ok-value-in-Wants.value c.parts.tree c.eval_operand.new.tree c.args.place c.in_ok-value-in-Wants.ensures.text c.eval_operand.ensures.here);
      keeps = keeps-trans c.parts.invariant.keeps c.eval_operand.ensures.keeps;
    }

-- # Operands, and expressions of two of them

pub operands::eval_leaf-returns-in_err-clone-in-Literal-clause-runs : goal.operands::eval_leaf-returns-in_err-clone-in-Literal-clause-runs
operands::eval_leaf-returns-in_err-clone-in-Literal-clause-runs g t c =
    let p = err_from_is_err_and c.from_residual.result c.from_residual.ensures.1 in
    memory_err c.from_residual.result p.0 _ _ p.1 p.2 (λ q style at next k. stopped)

pub operands::eval_leaf-returns-in-Substituted-clause-runs : goal.operands::eval_leaf-returns-in-Substituted-clause-runs
operands::eval_leaf-returns-in-Substituted-clause-runs g t c =
    let w = c.in-Substituted.operand in
    TwoOperands.passed_on c.eval_operand.result c.on_ok.result (EndsFrom (ways g.O.Outside.goes g.O.Outside.loses) c.args.tree.now c.args.outside.now c.args.place (λ style. parts w.parts [] []) c.eval_operand.new.tree c.eval_operand.new.outside)
    (OperandBreaks (ways g.O.Outside.goes g.O.Outside.loses) c.args.tree.now c.args.outside.now c.args.place c.args.leaf.now c.eval_operand.new.tree c.eval_operand.new.outside)
    (OperandGoes (ways g.O.Outside.goes g.O.Outside.loses) c.args.tree.now c.args.outside.now c.args.place c.args.leaf.now c.eval_operand.new.tree c.eval_operand.new.outside)
    c.on_ok.ensures.text c.on_ok.ensures.same c.on_ok.ensures.stays c.eval_operand.ensures.runs
    (λ d text a b h q style at next k V y e run. at_prog (ap (λ (l : Leaf). computed (operand l next) k) c.in-Substituted.is) (Computing.part_goes style w next k d text a b (h q style at) run))
    (λ e h l q style at next k. at_prog (ap (λ (l : Leaf). computed (operand l next) k) c.in-Substituted.is) (Conditions.part_stays style w next k e l (h q style at)))

pub operands::eval_leaf-returns-in-Substituted-clause-here : goal.operands::eval_leaf-returns-in-Substituted-clause-here
operands::eval_leaf-returns-in-Substituted-clause-here g t c = TwoOperands.here_on c.eval_operand.result c.on_ok.result c.args.tree.now c.eval_operand.new.tree c.args.place c.on_ok.ensures.text c.on_ok.ensures.same c.eval_operand.ensures.here

pub expressions::compute_two-eval_leaf-requires-2 : goal.expressions::compute_two-eval_leaf-requires-2
expressions::compute_two-eval_leaf-requires-2 g t c κs within = (search rules, (search rules, still_running c.args.tree.now c.eval_leaf.new.tree c.args.place c.in_ok-first.ensures.here c.requires))

pub expressions::compute_two-returns-in_err-first-clause-runs : goal.expressions::compute_two-returns-in_err-first-clause-runs
expressions::compute_two-returns-in_err-first-clause-runs g t c = λ kept nodes.
    let p = err_from_is_err_and c.from_residual.result c.from_residual.ensures.1 in
    ran_err c.from_residual.result c.in_err-first.field-0.0 p.0 _ _ _ p.1 p.2 c.in_err-first.ensures.runs
    (λ e h q style at text is. TwoOperands.two_kept style c.args.left.now c.args.right.now c.args.operator text kept nodes is (h q style at _ _))

pub expressions::compute_two-returns-in_err-first-clause-here : goal.expressions::compute_two-returns-in_err-first-clause-here
expressions::compute_two-returns-in_err-first-clause-here g t c =
    let p = err_from_is_err_and c.from_residual.result c.from_residual.ensures.1 in
    here_err c.from_residual.result c.in_err-first.field-0.0 p.0 c.args.tree.now c.args.tree.now c.eval_leaf.new.tree c.args.place p.1 p.2 (here-refl c.args.tree.now c.args.place) c.in_err-first.ensures.here

pub expressions::compute_two-returns-in_err-second-clause-runs : goal.expressions::compute_two-returns-in_err-second-clause-runs
expressions::compute_two-returns-in_err-second-clause-runs g t c = λ kept nodes.
    let p = err_from_is_err_and c.from_residual-in_err-second.result c.from_residual-in_err-second.ensures.1 in
    ran_err c.from_residual-in_err-second.result c.in_err-second.field-0.0 p.0 _ _ _ p.1 p.2 c.in_err-second.ensures.runs
    (λ e h q style at text is. TwoOperands.two_kept style c.args.left.now c.args.right.now c.args.operator text kept nodes is
    (c.in_ok-first.ensures.runs q style at _ _ _ _ _ (h q style (still_at c.args.tree.now c.eval_leaf.new.tree c.args.place q style c.in_ok-first.ensures.here at) _ _)))

pub expressions::compute_two-returns-in_err-second-clause-here : goal.expressions::compute_two-returns-in_err-second-clause-here
expressions::compute_two-returns-in_err-second-clause-here g t c =
    let p = err_from_is_err_and c.from_residual-in_err-second.result c.from_residual-in_err-second.ensures.1 in
    here_err c.from_residual-in_err-second.result c.in_err-second.field-0.0 p.0 c.args.tree.now c.eval_leaf.new.tree c.eval_leaf-2.new.tree c.args.place p.1 p.2 c.in_ok-first.ensures.here c.in_err-second.ensures.here

pub expressions::compute_two-returns-in_err-second-clause-keeps : goal.expressions::compute_two-returns-in_err-second-clause-keeps
expressions::compute_two-returns-in_err-second-clause-keeps g t c = keeps-trans c.eval_leaf.ensures.keeps c.eval_leaf-2.ensures.keeps

pub expressions::compute_two-returns-clause-keeps : goal.expressions::compute_two-returns-clause-keeps
expressions::compute_two-returns-clause-keeps g t c = keeps-trans c.eval_leaf.ensures.keeps c.eval_leaf-2.ensures.keeps

pub expressions::compute_two-returns-clause-runs : goal.expressions::compute_two-returns-clause-runs
expressions::compute_two-returns-clause-runs g t c = λ kept nodes.
    ran c.settle_two.result (EndsBy (settles_two c.integers-style.result c.args.operator c.in_ok-first.first c.in_ok-second.second)) (ComputesTo (ways g.O.Outside.goes g.O.Outside.loses) c.args.tree.now c.args.outside.now c.args.place kept c.eval_leaf-2.new.tree c.eval_leaf-2.new.outside)
    (λ e h q style at text is.
    let after = still_at c.args.tree.now c.eval_leaf.new.tree c.args.place q style c.in_ok-first.ensures.here at in
    let same = c.integers-style.ensures ∙ at.style_is in
    TwoOperands.two_kept style c.args.left.now c.args.right.now c.args.operator text kept nodes is
    (c.in_ok-first.ensures.runs q style at _ _ _ _ _ (c.in_ok-second.ensures.runs q style after _ _ _ _ _ (TwoOperands.two_end style c.integers-style.result c.args.operator c.in_ok-first.first c.in_ok-second.second e same h))))
    (λ q style at text is.
    let after = still_at c.args.tree.now c.eval_leaf.new.tree c.args.place q style c.in_ok-first.ensures.here at in
    TwoOperands.two_kept style c.args.left.now c.args.right.now c.args.operator text kept nodes is
    (c.in_ok-first.ensures.runs q style at _ _ _ _ _ (c.in_ok-second.ensures.runs q style after _ _ _ _ _ stopped)))
    c.settle_two.ensures

pub expressions::compute_two-returns-clause-here : goal.expressions::compute_two-returns-clause-here
expressions::compute_two-returns-clause-here g t c = on_completion c.settle_two.result (IsHere c.args.tree.now c.eval_leaf-2.new.tree c.args.place) (here-trans c.args.tree.now c.eval_leaf.new.tree c.eval_leaf-2.new.tree c.args.place c.in_ok-first.ensures.here c.in_ok-second.ensures.here)

pub expressions::compute-returns-in-Some-clause-runs : goal.expressions::compute-returns-in-Some-clause-runs
expressions::compute-returns-in-Some-clause-runs g t c = c.compute_two.ensures.runs c.args.kept.now (sym c.as_slice.ensures.value ∙ c.in-Some.ensures)

pub expressions::condition-returns-in-Some-clause-runs : goal.expressions::condition-returns-in-Some-clause-runs
expressions::condition-returns-in-Some-clause-runs g t c = λ q style at text is k V y r run.
    let n = stands (tree_of c.args.tree.now q) (tree_there c.args.tree.now q _ at.names) in
    let same = c.integers-style.ensures ∙ at.style_is in
    let fits : FitsSigned w64 c.in-Some.number = search rules in
    Conditions.test_goes style text k (ok (signed_decimal c.in-Some.number)) (signed_decimal c.in-Some.number) _ refl refl
    (truth_of_number style (signed_decimal c.in-Some.number) c.in-Some.number fits (int_of-number style c.in-Some.number fits))
    (Computing.computes_kept style text c.args.test.now is
    (Computing.number_at_hand style c.integers-style.result c.args.test.now.nodes.items c.in-Some.number (signed_decimal c.in-Some.number) same n.1 (c.in-Some.ensures q n.0 at.names n.1) refl)) run

pub expressions::condition-returns-in_err-count_behind-clause-runs : goal.expressions::condition-returns-in_err-count_behind-clause-runs
expressions::condition-returns-in_err-count_behind-clause-runs g t c =
    let p = err_from_is_err_and c.from_residual.result c.from_residual.ensures.1 in
    ran_err c.from_residual.result c.in_err-count_behind.field-0.0 p.0 _ _ _ p.1 p.2 c.in_err-count_behind.ensures.breaks
    (λ e h q style at text is k. Conditions.test_stays style text k e h.0
    (computes_behind (ways g.O.Outside.goes g.O.Outside.loses) c.args.tree.now c.count_behind.new.tree c.args.outside.now c.count_behind.new.outside c.args.place c.args.test.now c.in-Some-number_behind.number (λ n. e) c.in-Some-number_behind.ensures h.1 q style at text is))

pub expressions::condition-returns-in_err-count_behind-clause-here : goal.expressions::condition-returns-in_err-count_behind-clause-here
expressions::condition-returns-in_err-count_behind-clause-here g t c = on_completion c.from_residual.result (IsHere c.args.tree.now c.count_behind.new.tree c.args.place) c.count_behind.ensures.here

pub expressions::condition-returns-in-Some-number_behind-clause-runs : goal.expressions::condition-returns-in-Some-number_behind-clause-runs
expressions::condition-returns-in-Some-number_behind-clause-runs g t c = λ q style at text is k V y r run.
    let fits : FitsSigned w64 c.in-Some-number_behind.number = search rules in
    Conditions.test_goes style text k (ok (signed_decimal c.in-Some-number_behind.number)) (signed_decimal c.in-Some-number_behind.number) _ refl refl
    (truth_of_number style (signed_decimal c.in-Some-number_behind.number) c.in-Some-number_behind.number fits (int_of-number style c.in-Some-number_behind.number fits))
    (computes_behind (ways g.O.Outside.goes g.O.Outside.loses) c.args.tree.now c.count_behind.new.tree c.args.outside.now c.count_behind.new.outside c.args.place c.args.test.now c.in-Some-number_behind.number _ c.in-Some-number_behind.ensures c.in_ok-count_behind.ensures.computed q style at text is) run

pub expressions::condition-returns-in_err-value-clause-runs : goal.expressions::condition-returns-in_err-value-clause-runs
expressions::condition-returns-in_err-value-clause-runs g t c =
    let p = err_from_is_err_and c.from_residual-in_err-value.result c.from_residual-in_err-value.ensures.1 in
    ran_err c.from_residual-in_err-value.result c.in_err-value.field-0.0 p.0 _ _ _ p.1 p.2
    (stays_of c.compute.result c.in_err-value.field-0.0 (ComputesTo (ways g.O.Outside.goes g.O.Outside.loses) c.args.tree.now c.args.outside.now c.args.place c.args.test.now c.compute.new.tree c.compute.new.outside)
    c.in_err-value.ensures.same c.compute.ensures.runs c.in_err-value.ensures.stays)
    (λ e h q style at text is k. Conditions.test_stays style text k e h.1 (h.0 q style at text is))

pub expressions::condition-returns-clause-runs : goal.expressions::condition-returns-clause-runs
expressions::condition-returns-clause-runs g t c =
    let x = ran_text c.compute.result c.in_ok-value.value (ComputesTo (ways g.O.Outside.goes g.O.Outside.loses) c.args.tree.now c.args.outside.now c.args.place c.args.test.now c.compute.new.tree c.compute.new.outside) c.in_ok-value.ensures.text c.compute.ensures.runs in
    Conditions.tested (truth c.integers-style.result c.in_ok-value.value) c.holds.result _ _ c.holds.ensures
    (λ b h q style at text is k V y r run.
    let same = c.integers-style.ensures ∙ at.style_is in
    Conditions.test_goes style text k x.0 c.in_ok-value.value b x.2 x.3 (ap (λ (s : Integers). truth s c.in_ok-value.value) (sym same) ∙ h) (x.1 q style at text is) run)
    (λ e h q style at text is k.
    let same = c.integers-style.ensures ∙ at.style_is in
    Conditions.test_refused style text k x.0 c.in_ok-value.value e x.2 x.3 (subst (λ (s : Integers). IsFailure operator_message (truth s c.in_ok-value.value) e) same h) (x.1 q style at text is))
    (λ q style at text is k. Conditions.test_stopped style text k x.0 c.in_ok-value.value x.2 x.3 (x.1 q style at text is))

pub expressions::expr-returns-then-is_empty-clause-runs : goal.expressions::expr-returns-then-is_empty-clause-runs
expressions::expr-returns-then-is_empty-clause-runs g t c =
    let none = zero_is (length c.args.args.now) c.is_empty.result c.is_empty.ensures c.if-is_empty.true in
    breaks c.wrong_args.result _ _ (λ e h q style at. Conditions.expr_none style c.args.args.now (omega (arith, none)) h) (λ q style at. stopped) c.wrong_args.ensures

pub expressions::expr-returns-in_err-text-clause-runs : goal.expressions::expr-returns-in_err-text-clause-runs
expressions::expr-returns-in_err-text-clause-runs g t c =
    let some = some_is (length c.args.args.now) c.is_empty.result c.is_empty.ensures c.if-is_empty.false in
    let p = err_from_is_err_and c.from_residual.result c.from_residual.ensures.1 in
    fails_err c.from_residual.result c.in_err-text.field-0.0 p.0 _ _ _ p.1 p.2 c.in_err-text.ensures.refused
    (λ e h q style at. Conditions.expr_long style c.args.args.now some h.0 h.1)
    (λ q style at. stopped)

pub expressions::expr-returns-in_err-kept-clause-runs : goal.expressions::expr-returns-in_err-kept-clause-runs
expressions::expr-returns-in_err-kept-clause-runs g t c =
    let some = some_is (length c.args.args.now) c.is_empty.result c.is_empty.ensures c.if-is_empty.false in
    let p = err_from_is_err_and c.from_residual-in_err-kept.result c.from_residual-in_err-kept.ensures.1 in
    fails_err c.from_residual-in_err-kept.result c.in_err-kept.field-0.0 p.0 _ _ _ p.1 p.2 c.in_err-kept.ensures.refused
    (λ e h q style at.
    let same = c.integers.ensures ∙ at.style_is in
    Computing.expr_runs style c.args.args.now some c.in_ok-text.ensures.whole.1
    (at_prog (ap (expression style) (sym c.in_ok-text.ensures.whole.0)) (Conditions.misread style c.in_ok-text.text e (Conditions.misread_in c.integers.result style c.in_ok-text.text e same h))))
    (λ q style at. stopped)

pub expressions::expr-returns-clause-runs : goal.expressions::expr-returns-clause-runs
expressions::expr-returns-clause-runs g t c =
    let some = some_is (length c.args.args.now) c.is_empty.result c.is_empty.ensures c.if-is_empty.false in
    IfRan-more c.expression.result (ComputesTo (ways g.O.Outside.goes g.O.Outside.loses) c.args.tree.now c.args.outside.now c.args.place c.deref.result.now c.expression.new.tree c.expression.new.outside)
    (EndsFrom (ways g.O.Outside.goes g.O.Outside.loses) c.args.tree.now c.args.outside.now c.args.place (λ style. expr c.args.args.now) c.expression.new.tree c.expression.new.outside)
    (λ e h q style at.
    let same = c.integers.ensures ∙ at.style_is in
    Computing.expr_runs style c.args.args.now some c.in_ok-text.ensures.whole.1
    (at_prog (ap (expression style) (sym c.in_ok-text.ensures.whole.0)) (h q style at c.in_ok-text.text (Conditions.kept_behind c.integers.result style c.in_ok-text.text c.in_ok-kept.kept.value c.deref.result.now c.deref.ensures same c.in_ok-kept.ensures.read)))) c.expression.ensures.runs

-- if

-- an `if` with one condition

pub expressions::if_one-returns-in_err-kept-clause-runs : goal.expressions::if_one-returns-in_err-kept-clause-runs
expressions::if_one-returns-in_err-kept-clause-runs g t c =
    let p = err_from_is_err_and c.from_residual.result c.from_residual.ensures.1 in
    fails_err c.from_residual.result c.in_err-kept.field-0.0 p.0 _ _ _ p.1 p.2 c.in_err-kept.ensures.refused
    (λ e h q style at.
    let same = c.integers.ensures ∙ at.style_is in
    Conditions.test_misread style c.args.test.now _ e (Conditions.misread_in c.integers.result style c.args.test.now e same h))
    (λ q style at. stopped)

pub expressions::if_one-returns-in_err-condition-clause-runs : goal.expressions::if_one-returns-in_err-condition-clause-runs
expressions::if_one-returns-in_err-condition-clause-runs g t c =
    let p = err_from_is_err_and c.from_residual-in_err-condition.result c.from_residual-in_err-condition.ensures.1 in
    ran_err c.from_residual-in_err-condition.result c.in_err-condition.field-0.0 p.0 _ _ _ p.1 p.2 c.in_err-condition.ensures.runs
    (λ e h q style at.
    let same = c.integers.ensures ∙ at.style_is in
    h q style at c.args.test.now (Conditions.kept_behind c.integers.result style c.args.test.now c.in_ok-kept.kept.value c.deref.result.now c.deref.ensures same c.in_ok-kept.ensures.read) _)

pub expressions::if_one-returns-in_err-condition-clause-here : goal.expressions::if_one-returns-in_err-condition-clause-here
expressions::if_one-returns-in_err-condition-clause-here g t c =
    let p = err_from_is_err_and c.from_residual-in_err-condition.result c.from_residual-in_err-condition.ensures.1 in
    here_err c.from_residual-in_err-condition.result c.in_err-condition.field-0.0 p.0 c.args.tree.now c.args.tree.now c.condition.new.tree c.args.place p.1 p.2 (here-refl c.args.tree.now c.args.place) c.in_err-condition.ensures.here

pub expressions::if_one-eval_value-requires : goal.expressions::if_one-eval_value-requires
expressions::if_one-eval_value-requires g t c κs within = (search rules, (search rules, let r = still_running c.args.tree.now c.condition.new.tree c.args.place c.in_ok-condition.ensures.here c.requires in (r.0, r.1)))

pub expressions::if_one-returns-then-branch-clause-runs : goal.expressions::if_one-returns-then-branch-clause-runs
expressions::if_one-returns-then-branch-clause-runs g t c =
    let holds = subst (TestGoes (ways g.O.Outside.goes g.O.Outside.loses) c.args.tree.now c.args.outside.now c.args.place c.deref.result.now c.condition.new.tree c.condition.new.outside) c.if-branch.true c.in_ok-condition.ensures.runs in
    IfRan-more c.eval_value.result
    (EndsAt (ways g.O.Outside.goes g.O.Outside.loses) c.condition.new.tree c.condition.new.outside c.args.place (λ style. script c.args.body.now) c.eval_value.new.tree c.eval_value.new.outside)
    (EndsFrom (ways g.O.Outside.goes g.O.Outside.loses) c.args.tree.now c.args.outside.now c.args.place (λ style. first_true style ((c.args.test.now, c.args.body.now) ∷ []) (option_copied c.args.last)) c.eval_value.new.tree c.eval_value.new.outside)
    (λ e h q style at.
    let after = still_at _ _ c.args.place q style c.in_ok-condition.ensures.here at in
    let same = c.integers.ensures ∙ at.style_is in
    holds q style at c.args.test.now (Conditions.kept_behind c.integers.result style c.args.test.now c.in_ok-kept.kept.value c.deref.result.now c.deref.ensures same c.in_ok-kept.ensures.read) _ _ _ _
    (goes_done {i = Script c.args.body.now} (h q style (record { names = after.names; style_is = after.style_is })))) c.eval_value.ensures.runs

pub expressions::if_one-returns-then-branch-clause-here : goal.expressions::if_one-returns-then-branch-clause-here
expressions::if_one-returns-then-branch-clause-here g t c = here_then c.eval_value.result c.args.tree.now c.condition.new.tree c.eval_value.new.tree c.args.place c.in_ok-condition.ensures.here c.eval_value.ensures.here

pub expressions::if_one-returns-then-branch-clause-keeps : goal.expressions::if_one-returns-then-branch-clause-keeps
expressions::if_one-returns-then-branch-clause-keeps g t c = keeps-trans c.condition.ensures.keeps c.eval_value.ensures.keeps

pub expressions::if_one-returns-in_default-clause-runs : goal.expressions::if_one-returns-in_default-clause-runs
expressions::if_one-returns-in_default-clause-runs g t c = λ q style at.
    let fails = subst (TestGoes (ways g.O.Outside.goes g.O.Outside.loses) c.args.tree.now c.args.outside.now c.args.place c.deref.result.now c.condition.new.tree c.condition.new.outside) c.if-branch.false c.in_ok-condition.ensures.runs in
    let same = c.integers.ensures ∙ at.style_is in
    fails q style at c.args.test.now (Conditions.kept_behind c.integers.result style c.args.test.now c.in_ok-kept.kept.value c.deref.result.now c.deref.ensures same c.in_ok-kept.ensures.read) _ _ _ _
    (Conditions.last_none style _ (ap option_copied c.in_default.is) (ap (λ (x : List ℕ). Completed (ok x)) c.empty.ensures))

pub expressions::if_one-eval_value-requires-2 : goal.expressions::if_one-eval_value-requires-2
expressions::if_one-eval_value-requires-2 g t c κs within = (search rules, (search rules, let r = still_running c.args.tree.now c.condition.new.tree c.args.place c.in_ok-condition.ensures.here c.requires in (r.0, r.1)))

pub expressions::if_one-returns-clause-runs : goal.expressions::if_one-returns-clause-runs
expressions::if_one-returns-clause-runs g t c =
    let fails = subst (TestGoes (ways g.O.Outside.goes g.O.Outside.loses) c.args.tree.now c.args.outside.now c.args.place c.deref.result.now c.condition.new.tree c.condition.new.outside) c.if-branch.false c.in_ok-condition.ensures.runs in
    IfRan-more c.eval_value-2.result
    (EndsAt (ways g.O.Outside.goes g.O.Outside.loses) c.condition.new.tree c.condition.new.outside c.args.place (λ style. script c.in-Some.last.now) c.eval_value-2.new.tree c.eval_value-2.new.outside)
    (EndsFrom (ways g.O.Outside.goes g.O.Outside.loses) c.args.tree.now c.args.outside.now c.args.place (λ style. first_true style ((c.args.test.now, c.args.body.now) ∷ []) (option_copied c.args.last)) c.eval_value-2.new.tree c.eval_value-2.new.outside)
    (λ e h q style at.
    let after = still_at _ _ c.args.place q style c.in_ok-condition.ensures.here at in
    let same = c.integers.ensures ∙ at.style_is in
    fails q style at c.args.test.now (Conditions.kept_behind c.integers.result style c.args.test.now c.in_ok-kept.kept.value c.deref.result.now c.deref.ensures same c.in_ok-kept.ensures.read) _ _ _ _
    (Conditions.last_runs style _ c.in-Some.last.now (ap option_copied c.in-Some.is)
    (h q style (record { names = after.names; style_is = after.style_is })))) c.eval_value-2.ensures.runs

pub expressions::if_one-returns-clause-here : goal.expressions::if_one-returns-clause-here
expressions::if_one-returns-clause-here g t c = here_then c.eval_value-2.result c.args.tree.now c.condition.new.tree c.eval_value-2.new.tree c.args.place c.in_ok-condition.ensures.here c.eval_value-2.ensures.here

pub expressions::if_one-returns-clause-keeps : goal.expressions::if_one-returns-clause-keeps
expressions::if_one-returns-clause-keeps g t c = keeps-trans c.condition.ensures.keeps c.eval_value-2.ensures.keeps

pub expressions::if_first-returns-in-Some-clause-runs : goal.expressions::if_first-returns-in-Some-clause-runs
expressions::if_first-returns-in-Some-clause-runs g t c =
    IfRan-more c.if_one.result
    (EndsFrom (ways g.O.Outside.goes g.O.Outside.loses) c.args.tree.now c.args.outside.now c.args.place (λ style. first_true style (branch_of c.in-Some.branch ∷ []) (option_copied c.in-Some.last)) c.if_one.new.tree c.if_one.new.outside)
    (EndsFrom (ways g.O.Outside.goes g.O.Outside.loses) c.args.tree.now c.args.outside.now c.args.place (λ style. if_first style c.args.args.now) c.if_one.new.tree c.if_one.new.outside)
    (λ e h q style at. Conditions.if_begins style c.args.args.now (alone (branch_of c.in-Some.branch) (option_copied c.in-Some.last)) c.in-Some.ensures (h q style at)) c.if_one.ensures.runs

pub expressions::if_many-returns-in_err-branches-clause-runs : goal.expressions::if_many-returns-in_err-branches-clause-runs
expressions::if_many-returns-in_err-branches-clause-runs g t c =
    let p = err_from_is_err_and c.from_residual.result c.from_residual.ensures.1 in
    memory_err c.from_residual.result p.0 _ _ p.1 p.2
    (λ q style at. stopped)

pub expressions::if_many-returns-in_default-clause-runs : goal.expressions::if_many-returns-in_default-clause-runs
expressions::if_many-returns-in_default-clause-runs g t c =
    let none : branches_of c.args.args.now ≡ None = search rules in
    breaks c.wrong_args.result _ _ (λ e h q style at. Conditions.if_none style c.args.args.now none h) (λ q style at. stopped) c.wrong_args.ensures

pub expressions::if_many-tests-init : goal.expressions::if_many-tests-init
expressions::if_many-tests-init g t c =
    let some : branches_of c.args.args.now ≡ Some (seen c.in-Some.branches) = search rules in
    record {
      leads = λ q style at V z r run. Conditions.if_begins style c.args.args.now (seen c.in-Some.branches) some (at_prog (ap (λ (bs : List Branch). first_true style (tests_of bs) (option_copied c.in-Some.branches.last)) (sym c.deref-branch-items.ensures.value)) run);
      here = here-refl c.args.tree.now c.args.place;
      keeps = keeps-refl _ _;
    }

pub expressions::if_many-returns-in_err-test-clause-runs : goal.expressions::if_many-returns-in_err-test-clause-runs
expressions::if_many-returns-in_err-test-clause-runs g t c =
    let item = item_on c.deref-branch-items.result.now c.tests.branch-index c.branch-item.result c.tests-test.true c.branch-item.is in
    let p = err_from_is_err_and c.from_residual-in_err-test.result c.from_residual-in_err-test.ensures.1 in
    fails_err c.from_residual-in_err-test.result c.in_err-test.field-0.0 p.0 _ _ _ p.1 p.2 c.in_err-test.ensures.refused
    (λ e h q style at.
    let here = still_at c.args.tree.now c.tests.tree c.args.place q style c.tests.invariant.here at in
    let same = c.integers.ensures ∙ here.style_is in
    c.tests.invariant.leads q style at _ _ _ (at_prog (ap (λ (bs : List Branch). first_true style (tests_of bs) (option_copied c.in-Some.branches.last)) item)
    (Conditions.test_misread style c.branch-item.result.test.now _ e (Conditions.misread_in c.integers.result style c.branch-item.result.test.now e same h))))
    (λ q style at. c.tests.invariant.leads q style at _ _ _ stopped)

pub expressions::if_many-returns-in_err-condition-clause-runs : goal.expressions::if_many-returns-in_err-condition-clause-runs
expressions::if_many-returns-in_err-condition-clause-runs g t c =
    let item = item_on c.deref-branch-items.result.now c.tests.branch-index c.branch-item.result c.tests-test.true c.branch-item.is in
    let p = err_from_is_err_and c.from_residual-in_err-condition.result c.from_residual-in_err-condition.ensures.1 in
    ran_err c.from_residual-in_err-condition.result c.in_err-condition.field-0.0 p.0 _ _ _ p.1 p.2 c.in_err-condition.ensures.runs
    (λ e h q style at.
    let here = still_at c.args.tree.now c.tests.tree c.args.place q style c.tests.invariant.here at in
    let same = c.integers.ensures ∙ here.style_is in
    c.tests.invariant.leads q style at _ _ _ (at_prog (ap (λ (bs : List Branch). first_true style (tests_of bs) (option_copied c.in-Some.branches.last)) item)
    (h q style here c.branch-item.result.test.now (Conditions.kept_behind c.integers.result style c.branch-item.result.test.now c.in_ok-test.test.value c.deref.result.now c.deref.ensures same c.in_ok-test.ensures.read) _)))

pub expressions::if_many-returns-then-branch-clause-runs : goal.expressions::if_many-returns-then-branch-clause-runs
expressions::if_many-returns-then-branch-clause-runs g t c =
    let item = item_on c.deref-branch-items.result.now c.tests.branch-index c.branch-item.result c.tests-test.true c.branch-item.is in
    let holds = subst (TestGoes (ways g.O.Outside.goes g.O.Outside.loses) c.tests.tree c.tests.outside c.args.place c.deref.result.now c.condition.new.tree c.condition.new.outside) c.if-branch.true c.in_ok-condition.ensures.runs in
    IfRan-more c.eval_value.result
    (EndsAt (ways g.O.Outside.goes g.O.Outside.loses) c.condition.new.tree c.condition.new.outside c.args.place (λ style. script c.branch-item.result.body.now) c.eval_value.new.tree c.eval_value.new.outside)
    (EndsFrom (ways g.O.Outside.goes g.O.Outside.loses) c.args.tree.now c.args.outside.now c.args.place (λ style. if_first style c.args.args.now) c.eval_value.new.tree c.eval_value.new.outside)
    (λ e h q style at.
    let here = still_at c.args.tree.now c.tests.tree c.args.place q style c.tests.invariant.here at in
    let after = still_at _ _ c.args.place q style c.in_ok-condition.ensures.here here in
    let same = c.integers.ensures ∙ here.style_is in
    c.tests.invariant.leads q style at _ _ _ (at_prog (ap (λ (bs : List Branch). first_true style (tests_of bs) (option_copied c.in-Some.branches.last)) item)
    (holds q style here c.branch-item.result.test.now (Conditions.kept_behind c.integers.result style c.branch-item.result.test.now c.in_ok-test.test.value c.deref.result.now c.deref.ensures same c.in_ok-test.ensures.read) _ _ _ _
    (goes_done {i = Script c.branch-item.result.body.now} (h q style (record { names = after.names; style_is = after.style_is })))))) c.eval_value.ensures.runs

pub expressions::if_many-tests-preserved : goal.expressions::if_many-tests-preserved
expressions::if_many-tests-preserved g t c =
    let item = item_on c.deref-branch-items.result.now c.tests.branch-index c.branch-item.result c.tests-test.true c.branch-item.is in
    let holds = subst (TestGoes (ways g.O.Outside.goes g.O.Outside.loses) c.tests.tree c.tests.outside c.args.place c.deref.result.now c.condition.new.tree c.condition.new.outside) c.if-branch.false c.in_ok-condition.ensures.runs in
    record {
      leads = λ q style at V z r run.
          let here = still_at c.args.tree.now c.tests.tree c.args.place q style c.tests.invariant.here at in
          let same = c.integers.ensures ∙ here.style_is in
          c.tests.invariant.leads q style at _ _ _ (at_prog (ap (λ (bs : List Branch). first_true style (tests_of bs) (option_copied c.in-Some.branches.last)) item)
          (holds q style here c.branch-item.result.test.now (Conditions.kept_behind c.integers.result style c.branch-item.result.test.now c.in_ok-test.test.value c.deref.result.now c.deref.ensures same c.in_ok-test.ensures.read) _ V z r run));
      here = here-trans c.args.tree.now c.tests.tree c.condition.new.tree c.args.place c.tests.invariant.here c.in_ok-condition.ensures.here;
      keeps = keeps-trans c.tests.invariant.keeps c.condition.ensures.keeps;
    }

pub expressions::if_many-returns-in_default-last-clause-runs : goal.expressions::if_many-returns-in_default-last-clause-runs
expressions::if_many-returns-in_default-last-clause-runs g t c = λ q style at.
    let none = none_on c.deref-branch-items.result.now c.tests.branch-index c.tests-test.false in
    c.tests.invariant.leads q style at _ _ _ (at_prog (ap (λ (bs : List Branch). first_true style (tests_of bs) (option_copied c.in-Some.branches.last)) none)
    (Conditions.last_none style _ (ap option_copied c.in_default-last.is) (ap (λ (x : List ℕ). Completed (ok x)) c.empty.ensures)))

pub expressions::if_many-returns-clause-runs : goal.expressions::if_many-returns-clause-runs
expressions::if_many-returns-clause-runs g t c =
    let none = none_on c.deref-branch-items.result.now c.tests.branch-index c.tests-test.false in
    IfRan-more c.eval_value-2.result
    (EndsAt (ways g.O.Outside.goes g.O.Outside.loses) c.tests.tree c.tests.outside c.args.place (λ style. script c.in-Some-last.last.now) c.eval_value-2.new.tree c.eval_value-2.new.outside)
    (EndsFrom (ways g.O.Outside.goes g.O.Outside.loses) c.args.tree.now c.args.outside.now c.args.place (λ style. if_first style c.args.args.now) c.eval_value-2.new.tree c.eval_value-2.new.outside)
    (λ e h q style at.
    let here = still_at c.args.tree.now c.tests.tree c.args.place q style c.tests.invariant.here at in
    c.tests.invariant.leads q style at _ _ _ (at_prog (ap (λ (bs : List Branch). first_true style (tests_of bs) (option_copied c.in-Some.branches.last)) none)
    (Conditions.last_runs style _ c.in-Some-last.last.now (ap option_copied c.in-Some-last.is)
    (h q style (record { names = here.names; style_is = here.style_is }))))) c.eval_value-2.ensures.runs

-- turns

pub expressions::turn-returns-in_err-condition-clause-runs : goal.expressions::turn-returns-in_err-condition-clause-runs
expressions::turn-returns-in_err-condition-clause-runs g t c =
    let p = err_from_is_err_and c.from_residual.result c.from_residual.ensures.1 in
    ran_err c.from_residual.result c.in_err-condition.field-0.0 p.0 _ _ _ p.1 p.2 c.in_err-condition.ensures.runs
    (λ e h q style at text is more. h q style at text is _)

pub expressions::turn-returns-then-not-branch-clause-runs : goal.expressions::turn-returns-then-not-branch-clause-runs
expressions::turn-returns-then-not-branch-clause-runs g t c =
    let fails = subst (TestGoes (ways g.O.Outside.goes g.O.Outside.loses) c.args.tree.now c.args.outside.now c.args.place c.args.test.now c.condition.new.tree c.condition.new.outside) c.if-not-branch.true c.in_ok-condition.ensures.runs in
    λ q style at text is more. fails q style at text is _ _ _ _ completed

pub expressions::turn-returns-in_err-charge-clause-runs : goal.expressions::turn-returns-in_err-charge-clause-runs
expressions::turn-returns-in_err-charge-clause-runs g t c =
    let holds = subst (TestGoes (ways g.O.Outside.goes g.O.Outside.loses) c.args.tree.now c.args.outside.now c.args.place c.args.test.now c.condition.new.tree c.condition.new.outside) c.if-not-branch.false c.in_ok-condition.ensures.runs in
    let p = err_from_is_err_and c.from_residual-in_err-charge.result c.from_residual-in_err-charge.ensures.1 in
    says_err c.from_residual-in_err-charge.result c.in_err-charge.field-0.0 p.0 _ _ _ p.1 p.2 c.in_err-charge.ensures.refused
    (λ e h q style at text is more.
    holds q style at text is _ _ _ _ (charge_refused (h q (still_at _ _ c.args.place q style c.in_ok-condition.ensures.here at).names)))

pub expressions::turn-returns-clause-runs : goal.expressions::turn-returns-clause-runs
expressions::turn-returns-clause-runs g t c =
    let holds = subst (TestGoes (ways g.O.Outside.goes g.O.Outside.loses) c.args.tree.now c.args.outside.now c.args.place c.args.test.now c.condition.new.tree c.condition.new.outside) c.if-not-branch.false c.in_ok-condition.ensures.runs in
    Conditions.turned after_body c.eval_read.result c.goes_on.result
    (EndsAt (ways g.O.Outside.goes g.O.Outside.loses) c.charge.new.tree c.charge.new.outside c.args.place (λ style. script c.args.body.now) c.eval_read.new.tree c.eval_read.new.outside) _ _ c.eval_read.ensures.runs c.goes_on.ensures
    (λ d on h goes.
    Conditions.turn_ends (ways g.O.Outside.goes g.O.Outside.loses) c.args.tree.now c.eval_read.new.tree c.args.outside.now c.eval_read.new.outside c.args.place c.args.test.now c.args.body.now d on
    (λ q style at text is k V y r run.
    let here = still_at _ _ c.args.place q style c.in_ok-condition.ensures.here at in
    let after = still_at _ _ c.args.place q style (level_here _ _ c.args.place c.charge.ensures.level) here in
    let counts = c.in_ok-charge.ensures.counted q here.names in
    holds q style at text is _ V y r (charges counts (goes_on {i = Script c.args.body.now} (h q style (record { names = after.names; style_is = after.style_is })) run))) goes)
    (λ e h l q style at text is more.
    let here = still_at _ _ c.args.place q style c.in_ok-condition.ensures.here at in
    let after = still_at _ _ c.args.place q style (level_here _ _ c.args.place c.charge.ensures.level) here in
    let counts = c.in_ok-charge.ensures.counted q here.names in
    holds q style at text is _ _ _ _ (charges counts (Conditions.leaves_after style after_body c.args.body.now more e l (h q style (record { names = after.names; style_is = after.style_is })))))

-- while

pub expressions::while_loop-returns-in_default-clause-runs : goal.expressions::while_loop-returns-in_default-clause-runs
expressions::while_loop-returns-in_default-clause-runs g t c =
    let other : (length c.args.args.now < 2) ⊎ (3 ≤ length c.args.args.now) = elim c.in_default.branch [
      | expressions::while_loop-in_default-via-then-args-lt2 w ↦ inl (grind arith)
      | expressions::while_loop-in_default-via-else-args-lt2+else-args-lt3 w ↦ inr (grind arith)
    ] in
    breaks c.wrong_args.result _ _ (λ e h q style at. Looping.while_other style c.args.args.now other h) (λ q style at. stopped) c.wrong_args.ensures

pub expressions::while_loop-returns-in_err-test-clause-runs : goal.expressions::while_loop-returns-in_err-test-clause-runs
expressions::while_loop-returns-in_err-test-clause-runs g t c =
    let p = err_from_is_err_and c.from_residual.result c.from_residual.ensures.1 in
    let more = c.in-len2.len_at_least in
    let test = Looping.item_at c.args.args.now 0 c.test-item.result (omega (arith, more)) c.test-item.is in
    fails_err c.from_residual.result c.in_err-test.field-0.0 p.0 _ _ _ p.1 p.2 c.in_err-test.ensures.refused
    (λ e h q style at.
    Looping.while_begins style c.args.args.now c.in-len2.len_at_least c.in-len2.len_below
    (Conditions.test_misread style (get_or c.args.args.now 0 []) _ e (Conditions.misread_as c.integers.result style c.test-item.result (get_or c.args.args.now 0 []) e (c.integers.ensures ∙ at.style_is) test h)))
    (λ q style at. stopped)

pub expressions::while_loop-returns-in_err-script-clause-runs : goal.expressions::while_loop-returns-in_err-script-clause-runs
expressions::while_loop-returns-in_err-script-clause-runs g t c =
    let p = err_from_is_err_and c.from_residual-in_err-script.result c.from_residual-in_err-script.ensures.1 in
    memory_err c.from_residual-in_err-script.result p.0 _ _ p.1 p.2 (λ q style at. stopped)

pub expressions::while_loop-turns-init : goal.expressions::while_loop-turns-init
expressions::while_loop-turns-init g t c = record {
  leads = λ q style at V z r run. Looping.while_begins style c.args.args.now c.in-len2.len_at_least c.in-len2.len_below run;
  here = here-refl c.args.tree.now c.args.place;
  keeps = keeps-refl _ _;
}

pub expressions::while_loop-returns-in_err-turn-clause-runs : goal.expressions::while_loop-returns-in_err-turn-clause-runs
expressions::while_loop-returns-in_err-turn-clause-runs g t c =
    let p = err_from_is_err_and c.from_residual-in_err-turn.result c.from_residual-in_err-turn.ensures.1 in
    let more = c.in-len2.len_at_least in
    let test = Looping.item_at c.args.args.now 0 c.test-item.result (omega (arith, more)) c.test-item.is in
    let body = Looping.item_at c.args.args.now 1 c.body-item.result (omega (arith, more)) c.body-item.is in
    ran_err c.from_residual-in_err-turn.result c.in_err-turn.field-0.0 p.0 _ _ _ p.1 p.2 c.in_err-turn.ensures.runs
    (λ e h q style at. c.turns.invariant.leads q style at _ _ _
    (at_prog (ap (λ (body : List ℕ). turn_then style (get_or c.args.args.now 0 []) body (go (While (get_or c.args.args.now 0 []) (get_or c.args.args.now 1 [])) done)) (sym body))
    (h q style (still_at c.args.tree.now c.turns.tree c.args.place q style c.turns.invariant.here at) (get_or c.args.args.now 0 [])
    (Conditions.kept_as_behind c.integers.result style c.test-item.result (get_or c.args.args.now 0 []) c.in_ok-test.test.value c.deref.result.now c.deref.ensures (c.integers.ensures ∙ at.style_is) test c.in_ok-test.ensures.read) _)))

pub expressions::while_loop-returns-then-not-branch-clause-runs : goal.expressions::while_loop-returns-then-not-branch-clause-runs
expressions::while_loop-returns-then-not-branch-clause-runs g t c = λ q style at.
    let more = c.in-len2.len_at_least in
    let test = Looping.item_at c.args.args.now 0 c.test-item.result (omega (arith, more)) c.test-item.is in
    let body = Looping.item_at c.args.args.now 1 c.body-item.result (omega (arith, more)) c.body-item.is in
    let over = subst (TurnGoes (ways g.O.Outside.goes g.O.Outside.loses) c.turns.tree c.turns.outside c.args.place c.deref.result.now c.body-item.result c.turn.new.tree c.turn.new.outside) c.if-not-branch.true c.in_ok-turn.ensures.runs in
    c.turns.invariant.leads q style at _ _ _
    (at_prog (ap (λ (body : List ℕ). turn_then style (get_or c.args.args.now 0 []) body (go (While (get_or c.args.args.now 0 []) (get_or c.args.args.now 1 [])) done)) (sym body))
    (at_reply (ap (λ (x : List ℕ). Completed (ok x)) c.empty.ensures)
    (over q style (still_at c.args.tree.now c.turns.tree c.args.place q style c.turns.invariant.here at) (get_or c.args.args.now 0 [])
    (Conditions.kept_as_behind c.integers.result style c.test-item.result (get_or c.args.args.now 0 []) c.in_ok-test.test.value c.deref.result.now c.deref.ensures (c.integers.ensures ∙ at.style_is) test c.in_ok-test.ensures.read) _)))

pub expressions::while_loop-turns-preserved : goal.expressions::while_loop-turns-preserved
expressions::while_loop-turns-preserved g t c =
    let more = c.in-len2.len_at_least in
    let test = Looping.item_at c.args.args.now 0 c.test-item.result (omega (arith, more)) c.test-item.is in
    let body = Looping.item_at c.args.args.now 1 c.body-item.result (omega (arith, more)) c.body-item.is in
    let on = subst (TurnGoes (ways g.O.Outside.goes g.O.Outside.loses) c.turns.tree c.turns.outside c.args.place c.deref.result.now c.body-item.result c.turn.new.tree c.turn.new.outside) c.if-not-branch.false c.in_ok-turn.ensures.runs in
    record {
      leads = λ q style at V z r run. c.turns.invariant.leads q style at _ _ _
          (at_prog (ap (λ (body : List ℕ). turn_then style (get_or c.args.args.now 0 []) body (go (While (get_or c.args.args.now 0 []) (get_or c.args.args.now 1 [])) done)) (sym body))
          (on q style (still_at c.args.tree.now c.turns.tree c.args.place q style c.turns.invariant.here at) (get_or c.args.args.now 0 [])
          (Conditions.kept_as_behind c.integers.result style c.test-item.result (get_or c.args.args.now 0 []) c.in_ok-test.test.value c.deref.result.now c.deref.ensures (c.integers.ensures ∙ at.style_is) test c.in_ok-test.ensures.read) _ V z r
          (goes_done {i = While (get_or c.args.args.now 0 []) (get_or c.args.args.now 1 [])} run)));
      here = here-trans c.args.tree.now c.turns.tree c.turn.new.tree c.args.place c.turns.invariant.here c.in_ok-turn.ensures.here;
      keeps = keeps-trans c.turns.invariant.keeps c.turn.ensures.keeps;
    }

-- more turns than there are numbers
pub expressions::while_loop-returns-clause-runs : goal.expressions::while_loop-returns-clause-runs
expressions::while_loop-returns-clause-runs g t c = λ q style at. c.turns.invariant.leads q style at _ _ _ stopped

-- for

pub expressions::for_loop-returns-in_default-clause-runs : goal.expressions::for_loop-returns-in_default-clause-runs
expressions::for_loop-returns-in_default-clause-runs g t c =
    let other : (length c.args.args.now < 4) ⊎ (5 ≤ length c.args.args.now) = elim c.in_default.branch [
      | expressions::for_loop-in_default-via-then-args-lt4 w ↦ inl (grind arith)
      | expressions::for_loop-in_default-via-else-args-lt4+else-args-lt5 w ↦ inr (grind arith)
    ] in
    breaks c.wrong_args.result _ _ (λ e h q style at. Looping.for_other style c.args.args.now other h) (λ q style at. stopped) c.wrong_args.ensures

pub expressions::for_loop-returns-in_err-on_ok-clause-runs : goal.expressions::for_loop-returns-in_err-on_ok-clause-runs
expressions::for_loop-returns-in_err-on_ok-clause-runs g t c =
    let p = err_from_is_err_and c.from_residual.result c.from_residual.ensures.1 in
    let more = c.in-len4.len_at_least in
    let start = Looping.item_at c.args.args.now 0 c.start-item.result (omega (arith, more)) c.start-item.is in
    ran_err c.from_residual.result c.in_err-on_ok.field-0.0 p.0 _ _ _ p.1 p.2
    (stays_of c.eval_value.result c.in_err-on_ok.field-0.0 (EndsAt (ways g.O.Outside.goes g.O.Outside.loses) c.args.tree.now c.args.outside.now c.args.place (λ style. script c.start-item.result) c.eval_value.new.tree c.eval_value.new.outside)
    c.in_err-on_ok.ensures.same c.eval_value.ensures.runs c.in_err-on_ok.ensures.stays)
    (λ e h q style at. Looping.for_stays style c.args.args.now e c.in-len4.len_at_least c.in-len4.len_below h.1
    (at_prog (ap script (sym start)) (h.0 q style (record { names = at.names; style_is = at.style_is }))))

pub expressions::for_loop-returns-in_err-test-clause-runs : goal.expressions::for_loop-returns-in_err-test-clause-runs
expressions::for_loop-returns-in_err-test-clause-runs g t c =
    let p = err_from_is_err_and c.from_residual-in_err-test.result c.from_residual-in_err-test.ensures.1 in
    let more = c.in-len4.len_at_least in
    let start = Looping.item_at c.args.args.now 0 c.start-item.result (omega (arith, more)) c.start-item.is in
    let test = Looping.item_at c.args.args.now 1 c.test-item.result (omega (arith, more)) c.test-item.is in
    let x = ran_text c.eval_value.result c.in_ok-on_ok.field-0 (EndsAt (ways g.O.Outside.goes g.O.Outside.loses) c.args.tree.now c.args.outside.now c.args.place (λ style. script c.start-item.result) c.eval_value.new.tree c.eval_value.new.outside)
    c.in_ok-on_ok.ensures.text c.eval_value.ensures.runs in
    fails_err c.from_residual-in_err-test.result c.in_err-test.field-0.0 p.0 _ _ _ p.1 p.2 c.in_err-test.ensures.refused
    (λ e h q style at.
    let here = still_at c.args.tree.now c.eval_value.new.tree c.args.place q style (here_text c.eval_value.result c.in_ok-on_ok.field-0 c.args.tree.now c.eval_value.new.tree c.args.place c.in_ok-on_ok.ensures.text c.eval_value.ensures.here) at in
    Looping.for_begins style c.args.args.now x.0 c.in_ok-on_ok.field-0 c.in-len4.len_at_least c.in-len4.len_below x.2 x.3
    (at_prog (ap script (sym start)) (x.1 q style (record { names = at.names; style_is = at.style_is })))
    (Conditions.test_misread style (get_or c.args.args.now 1 []) _ e (Conditions.misread_as c.integers.result style c.test-item.result (get_or c.args.args.now 1 []) e (c.integers.ensures ∙ here.style_is) test h)))
    (λ q style at. Looping.for_begins style c.args.args.now x.0 c.in_ok-on_ok.field-0 c.in-len4.len_at_least c.in-len4.len_below x.2 x.3
    (at_prog (ap script (sym start)) (x.1 q style (record { names = at.names; style_is = at.style_is }))) stopped)

pub expressions::for_loop-returns-in_err-script-clause-runs : goal.expressions::for_loop-returns-in_err-script-clause-runs
expressions::for_loop-returns-in_err-script-clause-runs g t c =
    let p = err_from_is_err_and c.from_residual-in_err-script.result c.from_residual-in_err-script.ensures.1 in
    let more = c.in-len4.len_at_least in
    let start = Looping.item_at c.args.args.now 0 c.start-item.result (omega (arith, more)) c.start-item.is in
    let x = ran_text c.eval_value.result c.in_ok-on_ok.field-0 (EndsAt (ways g.O.Outside.goes g.O.Outside.loses) c.args.tree.now c.args.outside.now c.args.place (λ style. script c.start-item.result) c.eval_value.new.tree c.eval_value.new.outside)
    c.in_ok-on_ok.ensures.text c.eval_value.ensures.runs in
    memory_err c.from_residual-in_err-script.result p.0 _ _ p.1 p.2
    (λ q style at. Looping.for_begins style c.args.args.now x.0 c.in_ok-on_ok.field-0 c.in-len4.len_at_least c.in-len4.len_below x.2 x.3
    (at_prog (ap script (sym start)) (x.1 q style (record { names = at.names; style_is = at.style_is }))) stopped)

pub expressions::for_loop-returns-in_err-between-clause-runs : goal.expressions::for_loop-returns-in_err-between-clause-runs
expressions::for_loop-returns-in_err-between-clause-runs g t c =
    let p = err_from_is_err_and c.from_residual-in_err-between.result c.from_residual-in_err-between.ensures.1 in
    let more = c.in-len4.len_at_least in
    let start = Looping.item_at c.args.args.now 0 c.start-item.result (omega (arith, more)) c.start-item.is in
    let x = ran_text c.eval_value.result c.in_ok-on_ok.field-0 (EndsAt (ways g.O.Outside.goes g.O.Outside.loses) c.args.tree.now c.args.outside.now c.args.place (λ style. script c.start-item.result) c.eval_value.new.tree c.eval_value.new.outside)
    c.in_ok-on_ok.ensures.text c.eval_value.ensures.runs in
    memory_err c.from_residual-in_err-between.result p.0 _ _ p.1 p.2
    (λ q style at. Looping.for_begins style c.args.args.now x.0 c.in_ok-on_ok.field-0 c.in-len4.len_at_least c.in-len4.len_below x.2 x.3
    (at_prog (ap script (sym start)) (x.1 q style (record { names = at.names; style_is = at.style_is }))) stopped)

pub expressions::for_loop-turns-init : goal.expressions::for_loop-turns-init
expressions::for_loop-turns-init g t c =
    let more = c.in-len4.len_at_least in
    let start = Looping.item_at c.args.args.now 0 c.start-item.result (omega (arith, more)) c.start-item.is in
    let x = ran_text c.eval_value.result c.in_ok-on_ok.field-0 (EndsAt (ways g.O.Outside.goes g.O.Outside.loses) c.args.tree.now c.args.outside.now c.args.place (λ style. script c.start-item.result) c.eval_value.new.tree c.eval_value.new.outside)
    c.in_ok-on_ok.ensures.text c.eval_value.ensures.runs in
    record {
      leads = λ q style at V z r run.
          Looping.for_begins style c.args.args.now x.0 c.in_ok-on_ok.field-0 c.in-len4.len_at_least c.in-len4.len_below x.2 x.3
          (at_prog (ap script (sym start)) (x.1 q style (record { names = at.names; style_is = at.style_is }))) run;
      here = here_text c.eval_value.result c.in_ok-on_ok.field-0 c.args.tree.now c.eval_value.new.tree c.args.place c.in_ok-on_ok.ensures.text c.eval_value.ensures.here;
      keeps = c.eval_value.ensures.keeps;
    }

pub expressions::for_loop-returns-in_err-turn-clause-runs : goal.expressions::for_loop-returns-in_err-turn-clause-runs
expressions::for_loop-returns-in_err-turn-clause-runs g t c =
    let p = err_from_is_err_and c.from_residual-in_err-turn.result c.from_residual-in_err-turn.ensures.1 in
    let more = c.in-len4.len_at_least in
    let test = Looping.item_at c.args.args.now 1 c.test-item.result (omega (arith, more)) c.test-item.is in
    let body = Looping.item_at c.args.args.now 3 c.body-item.result (omega (arith, more)) c.body-item.is in
    ran_err c.from_residual-in_err-turn.result c.in_err-turn.field-0.0 p.0 _ _ _ p.1 p.2 c.in_err-turn.ensures.runs
    (λ e h q style at.
    let first = still_at c.args.tree.now c.eval_value.new.tree c.args.place q style (here_text c.eval_value.result c.in_ok-on_ok.field-0 c.args.tree.now c.eval_value.new.tree c.args.place c.in_ok-on_ok.ensures.text c.eval_value.ensures.here) at in
    c.turns.invariant.leads q style at _ _ _
    (at_prog (ap (λ (body : List ℕ). turn_then style (get_or c.args.args.now 1 []) body (next_then (get_or c.args.args.now 1 []) (get_or c.args.args.now 2 []) (get_or c.args.args.now 3 []))) (sym body))
    (h q style (still_at c.args.tree.now c.turns.tree c.args.place q style c.turns.invariant.here at) (get_or c.args.args.now 1 [])
    (Conditions.kept_as_behind c.integers.result style c.test-item.result (get_or c.args.args.now 1 []) c.in_ok-test.test.value c.deref.result.now c.deref.ensures (c.integers.ensures ∙ first.style_is) test c.in_ok-test.ensures.read) _)))

pub expressions::for_loop-returns-in_err-turn-clause-keeps : goal.expressions::for_loop-returns-in_err-turn-clause-keeps
expressions::for_loop-returns-in_err-turn-clause-keeps g t c = keeps-trans c.turns.invariant.keeps c.turn.ensures.keeps

pub expressions::for_loop-returns-then-not-branch-clause-runs : goal.expressions::for_loop-returns-then-not-branch-clause-runs
expressions::for_loop-returns-then-not-branch-clause-runs g t c = λ q style at.
    let more = c.in-len4.len_at_least in
    let test = Looping.item_at c.args.args.now 1 c.test-item.result (omega (arith, more)) c.test-item.is in
    let body = Looping.item_at c.args.args.now 3 c.body-item.result (omega (arith, more)) c.body-item.is in
    let over = subst (TurnGoes (ways g.O.Outside.goes g.O.Outside.loses) c.turns.tree c.turns.outside c.args.place c.deref.result.now c.body-item.result c.turn.new.tree c.turn.new.outside) c.if-not-branch.true c.in_ok-turn.ensures.runs in
    let first = still_at c.args.tree.now c.eval_value.new.tree c.args.place q style (here_text c.eval_value.result c.in_ok-on_ok.field-0 c.args.tree.now c.eval_value.new.tree c.args.place c.in_ok-on_ok.ensures.text c.eval_value.ensures.here) at in
    c.turns.invariant.leads q style at _ _ _
    (at_prog (ap (λ (body : List ℕ). turn_then style (get_or c.args.args.now 1 []) body (next_then (get_or c.args.args.now 1 []) (get_or c.args.args.now 2 []) (get_or c.args.args.now 3 []))) (sym body))
    (at_reply (ap (λ (x : List ℕ). Completed (ok x)) c.empty.ensures)
    (over q style (still_at c.args.tree.now c.turns.tree c.args.place q style c.turns.invariant.here at) (get_or c.args.args.now 1 [])
    (Conditions.kept_as_behind c.integers.result style c.test-item.result (get_or c.args.args.now 1 []) c.in_ok-test.test.value c.deref.result.now c.deref.ensures (c.integers.ensures ∙ first.style_is) test c.in_ok-test.ensures.read) _)))

pub expressions::for_loop-returns-then-not-branch-clause-keeps : goal.expressions::for_loop-returns-then-not-branch-clause-keeps
expressions::for_loop-returns-then-not-branch-clause-keeps g t c = keeps-trans c.turns.invariant.keeps c.turn.ensures.keeps

pub expressions::for_loop-returns-in_err-turns_on-clause-runs : goal.expressions::for_loop-returns-in_err-turns_on-clause-runs
expressions::for_loop-returns-in_err-turns_on-clause-runs g t c =
    let p = err_from_is_err_and c.from_residual-in_err-turns_on.result c.from_residual-in_err-turns_on.ensures.1 in
    let more = c.in-len4.len_at_least in
    let test = Looping.item_at c.args.args.now 1 c.test-item.result (omega (arith, more)) c.test-item.is in
    let next = Looping.item_at c.args.args.now 2 c.next-item.result (omega (arith, more)) c.next-item.is in
    let body = Looping.item_at c.args.args.now 3 c.body-item.result (omega (arith, more)) c.body-item.is in
    let on = subst (TurnGoes (ways g.O.Outside.goes g.O.Outside.loses) c.turns.tree c.turns.outside c.args.place c.deref.result.now c.body-item.result c.turn.new.tree c.turn.new.outside) c.if-not-branch.false c.in_ok-turn.ensures.runs in
    ran_err c.from_residual-in_err-turns_on.result c.in_err-turns_on.field-0.0 p.0 _ _ _ p.1 p.2
    (Conditions.turned_err after_next c.eval_read.result c.in_err-turns_on.field-0.0
    (EndsAt (ways g.O.Outside.goes g.O.Outside.loses) c.turn.new.tree c.turn.new.outside c.args.place (λ style. script c.next-item.result) c.eval_read.new.tree c.eval_read.new.outside) c.in_err-turns_on.ensures c.eval_read.ensures.runs)
    (λ e h q style at.
    let first = still_at c.args.tree.now c.eval_value.new.tree c.args.place q style (here_text c.eval_value.result c.in_ok-on_ok.field-0 c.args.tree.now c.eval_value.new.tree c.args.place c.in_ok-on_ok.ensures.text c.eval_value.ensures.here) at in
    let here = still_at c.args.tree.now c.turns.tree c.args.place q style c.turns.invariant.here at in
    let after = still_at c.turns.tree c.turn.new.tree c.args.place q style c.in_ok-turn.ensures.here here in
    c.turns.invariant.leads q style at _ _ _
    (at_prog (ap (λ (body : List ℕ). turn_then style (get_or c.args.args.now 1 []) body (next_then (get_or c.args.args.now 1 []) (get_or c.args.args.now 2 []) (get_or c.args.args.now 3 []))) (sym body))
    (on q style here (get_or c.args.args.now 1 [])
    (Conditions.kept_as_behind c.integers.result style c.test-item.result (get_or c.args.args.now 1 []) c.in_ok-test.test.value c.deref.result.now c.deref.ensures (c.integers.ensures ∙ first.style_is) test c.in_ok-test.ensures.read) _ _ _ _
    (Conditions.leaves_after style after_next (get_or c.args.args.now 2 []) _ e h.1 (at_prog (ap script (sym next)) (h.0 q style (record { names = after.names; style_is = after.style_is })))))))

pub expressions::for_loop-returns-in_err-turns_on-clause-keeps : goal.expressions::for_loop-returns-in_err-turns_on-clause-keeps
expressions::for_loop-returns-in_err-turns_on-clause-keeps g t c = keeps-trans (keeps-trans c.turns.invariant.keeps c.turn.ensures.keeps) c.eval_read.ensures.keeps

pub expressions::for_loop-returns-then-not-branch-2-clause-runs : goal.expressions::for_loop-returns-then-not-branch-2-clause-runs
expressions::for_loop-returns-then-not-branch-2-clause-runs g t c = λ q style at.
    let more = c.in-len4.len_at_least in
    let test = Looping.item_at c.args.args.now 1 c.test-item.result (omega (arith, more)) c.test-item.is in
    let next = Looping.item_at c.args.args.now 2 c.next-item.result (omega (arith, more)) c.next-item.is in
    let body = Looping.item_at c.args.args.now 3 c.body-item.result (omega (arith, more)) c.body-item.is in
    let on = subst (TurnGoes (ways g.O.Outside.goes g.O.Outside.loses) c.turns.tree c.turns.outside c.args.place c.deref.result.now c.body-item.result c.turn.new.tree c.turn.new.outside) c.if-not-branch.false c.in_ok-turn.ensures.runs in
    let x = Conditions.turned_ok after_next c.eval_read.result c.in_ok-turns_on.field-0 false
    (EndsAt (ways g.O.Outside.goes g.O.Outside.loses) c.turn.new.tree c.turn.new.outside c.args.place (λ style. script c.next-item.result) c.eval_read.new.tree c.eval_read.new.outside) c.in_ok-turns_on.ensures c.if-not-branch-2.true c.eval_read.ensures.runs in
    let first = still_at c.args.tree.now c.eval_value.new.tree c.args.place q style (here_text c.eval_value.result c.in_ok-on_ok.field-0 c.args.tree.now c.eval_value.new.tree c.args.place c.in_ok-on_ok.ensures.text c.eval_value.ensures.here) at in
    let here = still_at c.args.tree.now c.turns.tree c.args.place q style c.turns.invariant.here at in
    let after = still_at c.turns.tree c.turn.new.tree c.args.place q style c.in_ok-turn.ensures.here here in
    c.turns.invariant.leads q style at _ _ _
    (at_prog (ap (λ (body : List ℕ). turn_then style (get_or c.args.args.now 1 []) body (next_then (get_or c.args.args.now 1 []) (get_or c.args.args.now 2 []) (get_or c.args.args.now 3 []))) (sym body))
    (on q style here (get_or c.args.args.now 1 [])
    (Conditions.kept_as_behind c.integers.result style c.test-item.result (get_or c.args.args.now 1 []) c.in_ok-test.test.value c.deref.result.now c.deref.ensures (c.integers.ensures ∙ first.style_is) test c.in_ok-test.ensures.read) _ _ _ _
    (goes_on {i = Script (get_or c.args.args.now 2 [])} (at_prog (ap script (sym next)) (x.1 q style (record { names = after.names; style_is = after.style_is })))
    (at_prog (x.2 (go (For (get_or c.args.args.now 1 []) (get_or c.args.args.now 2 []) (get_or c.args.args.now 3 [])) done)) (at_reply (ap (λ (y : List ℕ). Completed (ok y)) c.empty-then-not-branch-2.ensures) completed)))))

pub expressions::for_loop-returns-then-not-branch-2-clause-keeps : goal.expressions::for_loop-returns-then-not-branch-2-clause-keeps
expressions::for_loop-returns-then-not-branch-2-clause-keeps g t c = keeps-trans (keeps-trans c.turns.invariant.keeps c.turn.ensures.keeps) c.eval_read.ensures.keeps

pub expressions::for_loop-turns-preserved : goal.expressions::for_loop-turns-preserved
expressions::for_loop-turns-preserved g t c =
    let more = c.in-len4.len_at_least in
    let test = Looping.item_at c.args.args.now 1 c.test-item.result (omega (arith, more)) c.test-item.is in
    let next = Looping.item_at c.args.args.now 2 c.next-item.result (omega (arith, more)) c.next-item.is in
    let body = Looping.item_at c.args.args.now 3 c.body-item.result (omega (arith, more)) c.body-item.is in
    let on = subst (TurnGoes (ways g.O.Outside.goes g.O.Outside.loses) c.turns.tree c.turns.outside c.args.place c.deref.result.now c.body-item.result c.turn.new.tree c.turn.new.outside) c.if-not-branch.false c.in_ok-turn.ensures.runs in
    let x = Conditions.turned_ok after_next c.eval_read.result c.in_ok-turns_on.field-0 true
    (EndsAt (ways g.O.Outside.goes g.O.Outside.loses) c.turn.new.tree c.turn.new.outside c.args.place (λ style. script c.next-item.result) c.eval_read.new.tree c.eval_read.new.outside) c.in_ok-turns_on.ensures c.if-not-branch-2.false c.eval_read.ensures.runs in
    record {
      leads = λ q style at V z r run.
          let first = still_at c.args.tree.now c.eval_value.new.tree c.args.place q style (here_text c.eval_value.result c.in_ok-on_ok.field-0 c.args.tree.now c.eval_value.new.tree c.args.place c.in_ok-on_ok.ensures.text c.eval_value.ensures.here) at in
          let here = still_at c.args.tree.now c.turns.tree c.args.place q style c.turns.invariant.here at in
          let after = still_at c.turns.tree c.turn.new.tree c.args.place q style c.in_ok-turn.ensures.here here in
          c.turns.invariant.leads q style at _ _ _
          (at_prog (ap (λ (body : List ℕ). turn_then style (get_or c.args.args.now 1 []) body (next_then (get_or c.args.args.now 1 []) (get_or c.args.args.now 2 []) (get_or c.args.args.now 3 []))) (sym body))
          (on q style here (get_or c.args.args.now 1 [])
          (Conditions.kept_as_behind c.integers.result style c.test-item.result (get_or c.args.args.now 1 []) c.in_ok-test.test.value c.deref.result.now c.deref.ensures (c.integers.ensures ∙ first.style_is) test c.in_ok-test.ensures.read) _ V z r
          (goes_on {i = Script (get_or c.args.args.now 2 [])} (at_prog (ap script (sym next)) (x.1 q style (record { names = after.names; style_is = after.style_is })))
          (at_prog (x.2 (go (For (get_or c.args.args.now 1 []) (get_or c.args.args.now 2 []) (get_or c.args.args.now 3 [])) done))
          (goes_done {i = For (get_or c.args.args.now 1 []) (get_or c.args.args.now 2 []) (get_or c.args.args.now 3 [])} run)))));
      here = here-trans c.args.tree.now c.turn.new.tree c.eval_read.new.tree c.args.place (here-trans c.args.tree.now c.turns.tree c.turn.new.tree c.args.place c.turns.invariant.here c.in_ok-turn.ensures.here) (here_in c.eval_read.result c.in_ok-turns_on.ensures.0 (IsHere c.turn.new.tree c.eval_read.new.tree c.args.place) c.in_ok-turns_on.ensures.1 c.eval_read.ensures.here);
      keeps = keeps-trans (keeps-trans c.turns.invariant.keeps c.turn.ensures.keeps) c.eval_read.ensures.keeps;
    }

-- more turns than there are numbers
pub expressions::for_loop-returns-clause-runs : goal.expressions::for_loop-returns-clause-runs
expressions::for_loop-returns-clause-runs g t c = λ q style at. c.turns.invariant.leads q style at _ _ _ stopped

-- # Loops over lists, and scripts at another level

pub loops::walk_through-returns-in_err-script-clause-runs : goal.loops::walk_through-returns-in_err-script-clause-runs
loops::walk_through-returns-in_err-script-clause-runs g t c =
    let p = err_from_is_err_and c.from_residual.result c.from_residual.ensures.1 in
    memory_err c.from_residual.result p.0 _ _ p.1 p.2 (λ q style at. stopped)

pub loops::walk_through-returns-in_err-script-clause-here : goal.loops::walk_through-returns-in_err-script-clause-here
loops::walk_through-returns-in_err-script-clause-here g t c = unmoved c.from_residual.result c.args.tree.now c.args.place

pub loops::walk_through-turns-init : goal.loops::walk_through-turns-init
loops::walk_through-turns-init g t c = record {
  leads = λ q style at V z r run. run;
  here = here-refl c.args.tree.now c.args.place;
  keeps = keeps-refl _ _;
}

pub loops::walk_through-returns-then-is_over-clause-runs : goal.loops::walk_through-returns-then-is_over-clause-runs
loops::walk_through-returns-then-is_over-clause-runs g t c = λ q style at.
    let over = sym c.is_over.ensures ∙ c.if-is_over.true in
    c.turns.invariant.leads q style at _ _ _
    (Walking.turn_over style (walks_at c.turns.turns c.args.walks.now) (done (ok [])) (body_then c.args.body.now) over (at_reply (ap (λ (x : List ℕ). Completed (ok x)) c.empty.ensures) completed))

pub loops::walk_through-returns-in_err-charge-clause-runs : goal.loops::walk_through-returns-in_err-charge-clause-runs
loops::walk_through-returns-in_err-charge-clause-runs g t c =
    let more = sym c.is_over.ensures ∙ c.if-is_over.false in
    let p = err_from_is_err_and c.from_residual-in_err-charge.result c.from_residual-in_err-charge.ensures.1 in
    says_err c.from_residual-in_err-charge.result c.in_err-charge.field-0.0 p.0 _ _ _ p.1 p.2 c.in_err-charge.ensures.refused
    (λ e h q style at. c.turns.invariant.leads q style at _ _ _
    (Walking.turn_stops style (walks_at c.turns.turns c.args.walks.now) (done (ok [])) (body_then c.args.body.now) more (h q (still_at c.args.tree.now c.turns.tree c.args.place q style c.turns.invariant.here at).names)))

pub loops::walk_through-returns-in_err-set_walks-clause-runs : goal.loops::walk_through-returns-in_err-set_walks-clause-runs
loops::walk_through-returns-in_err-set_walks-clause-runs g t c =
    let more = sym c.is_over.ensures ∙ c.if-is_over.false in
    let p = err_from_is_err_and c.from_residual-in_err-set_walks.result c.from_residual-in_err-set_walks.ensures.1 in
    fails_err c.from_residual-in_err-set_walks.result c.in_err-set_walks.field-0.0 p.0 _ _ _ p.1 p.2 c.in_err-set_walks.ensures.set
    (λ e h q style at.
    let here = still_at c.args.tree.now c.turns.tree c.args.place q style c.turns.invariant.here at in
    let after = still_at _ _ c.args.place q style (level_here _ _ c.args.place c.charge.ensures.level) here in
    let counts = c.in_ok-charge.ensures.counted q here.names in
    c.turns.invariant.leads q style at _ _ _
    (Walking.turn_fails style (walks_at c.turns.turns c.args.walks.now) (done (ok [])) (body_then c.args.body.now) more counts (λ k. h q after.names k)))
    (λ q style at.
    let here = still_at c.args.tree.now c.turns.tree c.args.place q style c.turns.invariant.here at in
    let counts = c.in_ok-charge.ensures.counted q here.names in
    c.turns.invariant.leads q style at _ _ _ (Walking.turn_given_up style (walks_at c.turns.turns c.args.walks.now) (done (ok [])) (body_then c.args.body.now) more counts))

pub loops::walk_through-returns-in_err-goes_on-clause-runs : goal.loops::walk_through-returns-in_err-goes_on-clause-runs
loops::walk_through-returns-in_err-goes_on-clause-runs g t c =
    let more = sym c.is_over.ensures ∙ c.if-is_over.false in
    let p = err_from_is_err_and c.from_residual-in_err-goes_on.result c.from_residual-in_err-goes_on.ensures.1 in
    ran_err c.from_residual-in_err-goes_on.result c.in_err-goes_on.field-0.0 p.0 _ _ _ p.1 p.2
    (Conditions.turned_err after_body c.eval_read.result c.in_err-goes_on.field-0.0
    (EndsAt (ways g.O.Outside.goes g.O.Outside.loses) c.set_walks.new.tree c.charge.new.outside c.args.place (λ style. script c.args.body.now) c.eval_read.new.tree c.eval_read.new.outside) c.in_err-goes_on.ensures c.eval_read.ensures.runs)
    (λ e h q style at.
    let here = still_at c.args.tree.now c.turns.tree c.args.place q style c.turns.invariant.here at in
    let after = still_at _ _ c.args.place q style (level_here _ _ c.args.place c.charge.ensures.level) here in
    let set = still_at _ _ c.args.place q style (level_here _ _ c.args.place c.set_walks.ensures.level) after in
    let counts = c.in_ok-charge.ensures.counted q here.names in
    c.turns.invariant.leads q style at _ _ _
    (Walking.turn_begins style (walks_at c.turns.turns c.args.walks.now) (done (ok [])) (body_then c.args.body.now) more counts
    (Walking.walks_set (walks_at c.turns.turns c.args.walks.now) (tree_of c.charge.new.tree) (tree_of c.set_walks.new.tree) q (λ k V r d. c.in_ok-set_walks.ensures.set q after.names k V r d))
    (Conditions.leaves_after style after_body c.args.body.now _ e h.1 (h.0 q style (record { names = set.names; style_is = set.style_is })))))

pub loops::walk_through-returns-then-not-branch-clause-runs : goal.loops::walk_through-returns-then-not-branch-clause-runs
loops::walk_through-returns-then-not-branch-clause-runs g t c = λ q style at.
    let more = sym c.is_over.ensures ∙ c.if-is_over.false in
    let x = Conditions.turned_ok after_body c.eval_read.result c.in_ok-goes_on.field-0 false
    (EndsAt (ways g.O.Outside.goes g.O.Outside.loses) c.set_walks.new.tree c.charge.new.outside c.args.place (λ style. script c.args.body.now) c.eval_read.new.tree c.eval_read.new.outside) c.in_ok-goes_on.ensures c.if-not-branch.true c.eval_read.ensures.runs in
    let here = still_at c.args.tree.now c.turns.tree c.args.place q style c.turns.invariant.here at in
    let after = still_at _ _ c.args.place q style (level_here _ _ c.args.place c.charge.ensures.level) here in
    let set = still_at _ _ c.args.place q style (level_here _ _ c.args.place c.set_walks.ensures.level) after in
    let counts = c.in_ok-charge.ensures.counted q here.names in
    c.turns.invariant.leads q style at _ _ _
    (Walking.turn_begins style (walks_at c.turns.turns c.args.walks.now) (done (ok [])) (body_then c.args.body.now) more counts
    (Walking.walks_set (walks_at c.turns.turns c.args.walks.now) (tree_of c.charge.new.tree) (tree_of c.set_walks.new.tree) q (λ k V r d. c.in_ok-set_walks.ensures.set q after.names k V r d))
    (goes_on {i = Script c.args.body.now} (x.1 q style (record { names = set.names; style_is = set.style_is }))
    (at_prog (x.2 (go (Foreach (map passed (walks_at c.turns.turns c.args.walks.now)) c.args.body.now) done)) (at_reply (ap (λ (y : List ℕ). Completed (ok y)) c.empty-then-not-branch.ensures) completed))))

pub loops::walk_through-turns-preserved : goal.loops::walk_through-turns-preserved
loops::walk_through-turns-preserved g t c =
    let more = sym c.is_over.ensures ∙ c.if-is_over.false in
    let x = Conditions.turned_ok after_body c.eval_read.result c.in_ok-goes_on.field-0 true
    (EndsAt (ways g.O.Outside.goes g.O.Outside.loses) c.set_walks.new.tree c.charge.new.outside c.args.place (λ style. script c.args.body.now) c.eval_read.new.tree c.eval_read.new.outside) c.in_ok-goes_on.ensures c.if-not-branch.false c.eval_read.ensures.runs in
    record {
      leads = λ q style at V z r run.
          let here = still_at c.args.tree.now c.turns.tree c.args.place q style c.turns.invariant.here at in
          let after = still_at _ _ c.args.place q style (level_here _ _ c.args.place c.charge.ensures.level) here in
          let set = still_at _ _ c.args.place q style (level_here _ _ c.args.place c.set_walks.ensures.level) after in
          let counts = c.in_ok-charge.ensures.counted q here.names in
          c.turns.invariant.leads q style at _ _ _
          (Walking.turn_begins style (walks_at c.turns.turns c.args.walks.now) (done (ok [])) (body_then c.args.body.now) more counts
          (Walking.walks_set (walks_at c.turns.turns c.args.walks.now) (tree_of c.charge.new.tree) (tree_of c.set_walks.new.tree) q (λ k V r d. c.in_ok-set_walks.ensures.set q after.names k V r d))
          (goes_on {i = Script c.args.body.now} (x.1 q style (record { names = set.names; style_is = set.style_is }))
          (at_prog (x.2 (go (Foreach (map passed (walks_at c.turns.turns c.args.walks.now)) c.args.body.now) done))
          (goes_done {i = Foreach (map passed (walks_at c.turns.turns c.args.walks.now)) c.args.body.now}
          (at_prog (ap (λ (ws : List Left). foreach_turns ws c.args.body.now) (Walking.walks_next c.turns.turns c.args.walks.now)) run)))));
      here = here-trans c.args.tree.now c.set_walks.new.tree c.eval_read.new.tree c.args.place (here-trans c.args.tree.now c.charge.new.tree c.set_walks.new.tree c.args.place (here-trans c.args.tree.now c.turns.tree c.charge.new.tree c.args.place c.turns.invariant.here (level_here c.turns.tree c.charge.new.tree c.args.place c.charge.ensures.level)) (level_here c.charge.new.tree c.set_walks.new.tree c.args.place c.set_walks.ensures.level)) (here_in c.eval_read.result c.in_ok-goes_on.ensures.0 (IsHere c.set_walks.new.tree c.eval_read.new.tree c.args.place) c.in_ok-goes_on.ensures.1 c.eval_read.ensures.here);
      keeps = keeps-trans (keeps-trans (keeps-trans c.turns.invariant.keeps (charged_keeps c.charge.ensures.level c.charge.ensures.left)) (level_keeps _ c.set_walks.ensures.level)) c.eval_read.ensures.keeps;
    }

pub loops::walk_through-returns-clause-runs : goal.loops::walk_through-returns-clause-runs
loops::walk_through-returns-clause-runs g t c = λ q style at. c.turns.invariant.leads q style at _ _ _ stopped

pub loops::foreach-returns-in_default-clause-runs : goal.loops::foreach-returns-in_default-clause-runs
loops::foreach-returns-in_default-clause-runs g t c =
    breaks c.wrong_args.result _ _ (λ e h q style at. Walking.loop_none style foreach_form (λ walks body. go (Foreach walks body) done) c.args.args.now c.in_default.ensures h) (λ q style at. stopped) c.wrong_args.ensures

pub loops::foreach-returns-in_err-walks-clause-runs : goal.loops::foreach-returns-in_err-walks-clause-runs
loops::foreach-returns-in_err-walks-clause-runs g t c =
    let p = err_from_is_err_and c.from_residual.result c.from_residual.ensures.1 in
    fails_err c.from_residual.result c.in_err-walks.field-0.0 p.0 _ _ _ p.1 p.2 c.in_err-walks.ensures.refused
    (λ e h q style at. Walking.loop_misread style foreach_form (λ walks body. go (Foreach walks body) done) c.args.args.now c.in-Some.words.now c.in-Some.body.now e c.in-Some.ensures h) (λ q style at. stopped)

pub loops::foreach-returns-clause-runs : goal.loops::foreach-returns-clause-runs
loops::foreach-returns-clause-runs g t c =
    IfRan-more c.walk_through.result
    (EndsFrom (ways g.O.Outside.goes g.O.Outside.loses) c.args.tree.now c.args.outside.now c.args.place (λ style. foreach_turns (walks_at 0 c.as_slice.result.now) c.in-Some.body.now) c.walk_through.new.tree c.walk_through.new.outside)
    (EndsFrom (ways g.O.Outside.goes g.O.Outside.loses) c.args.tree.now c.args.outside.now c.args.place (λ style. foreach c.args.args.now) c.walk_through.new.tree c.walk_through.new.outside)
    (λ e h q style at. Walking.foreach_begins style c.args.args.now c.in-Some.words.now c.in-Some.body.now c.in_ok-walks.walks.items c.in-Some.ensures c.in_ok-walks.ensures.read
    (at_prog (ap (λ (ws : List Walk). foreach_turns (walks_at 0 ws) c.in-Some.body.now) (sym c.as_slice.ensures.value)) (h q style at))) c.walk_through.ensures.runs

pub loops::dict_for-returns-in_err-walks-clause-runs : goal.loops::dict_for-returns-in_err-walks-clause-runs
loops::dict_for-returns-in_err-walks-clause-runs g t c =
    let p = err_from_is_err_and c.from_residual.result c.from_residual.ensures.1 in
    fails_err c.from_residual.result c.in_err-walks.field-0.0 p.0 _ _ _ p.1 p.2 c.in_err-walks.ensures.refused
    (λ e h q style at. Conditions.ends_by style _ e (h (λ walks body. go (Foreach walks body) done))) (λ q style at. stopped)

pub loops::dict_for-returns-clause-runs : goal.loops::dict_for-returns-clause-runs
loops::dict_for-returns-clause-runs g t c =
    IfRan-more c.walk_through.result
    (EndsFrom (ways g.O.Outside.goes g.O.Outside.loses) c.args.tree.now c.args.outside.now c.args.place (λ style. foreach_turns (walks_at 0 c.as_slice.result.now) c.in_ok-walks.body.now) c.walk_through.new.tree c.walk_through.new.outside)
    (EndsFrom (ways g.O.Outside.goes g.O.Outside.loses) c.args.tree.now c.args.outside.now c.args.place (λ style. dict_for c.args.args.now) c.walk_through.new.tree c.walk_through.new.outside)
    (λ e h q style at. Walking.dict_begins style c.args.args.now c.in_ok-walks.body.now c.in_ok-walks.walks.items c.in_ok-walks.ensures.read
    (at_prog (ap (λ (ws : List Walk). foreach_turns (walks_at 0 ws) c.in_ok-walks.body.now) (sym c.as_slice.ensures.value)) (h q style at))) c.walk_through.ensures.runs

pub loops::dict-returns-in-Some-clause-runs : goal.loops::dict-returns-in-Some-clause-runs
loops::dict-returns-in-Some-clause-runs g t c =
    proceeds_as (ways g.O.Outside.goes g.O.Outside.loses) c.args.tree.now c.dict_for.new.tree c.args.outside.now c.dict_for.new.outside c.args.place (λ style. whole_dict style c.args.args.now) (λ style. dict_for c.in-Some.words.now) c.dict_for.result (λ style. c.in-Some.ensures style) c.dict_for.ensures.runs

pub loops::dict-returns-in-None : goal.loops::dict-returns-in-None
loops::dict-returns-in-None g t c = record {
  runs = proceeds_as (ways g.O.Outside.goes g.O.Outside.loses) c.args.tree.now c.dict.new.tree c.args.outside.now c.args.outside.now c.args.place (λ style. whole_dict style c.args.args.now) (λ style. plain_dict style c.args.args.now) c.dict.result (λ style. c.in-None.ensures style)
      (acts_proceeds (ways g.O.Outside.goes g.O.Outside.loses) c.args.tree.now c.dict.new.tree c.args.outside.now c.args.place (λ style. plain_dict style c.args.args.now) c.dict.result c.dict.ensures.acts);
  here = on_completion c.dict.result (IsHere c.args.tree.now c.dict.new.tree c.args.place) (level_here c.args.tree.now c.dict.new.tree c.args.place c.dict.ensures.level);
  keeps = level_keeps _ c.dict.ensures.level;
}

pub collecting::lmap-returns-in_default-clause-runs : goal.collecting::lmap-returns-in_default-clause-runs
collecting::lmap-returns-in_default-clause-runs g t c =
    breaks c.wrong_args.result _ _ (λ e h q style at. Walking.loop_none style lmap_form (λ walks body. go (Lmap walks body []) done) c.args.args.now c.in_default.ensures h) (λ q style at. stopped) c.wrong_args.ensures

pub collecting::lmap-returns-in_err-walks-clause-runs : goal.collecting::lmap-returns-in_err-walks-clause-runs
collecting::lmap-returns-in_err-walks-clause-runs g t c =
    let p = err_from_is_err_and c.from_residual.result c.from_residual.ensures.1 in
    fails_err c.from_residual.result c.in_err-walks.field-0.0 p.0 _ _ _ p.1 p.2 c.in_err-walks.ensures.refused
    (λ e h q style at. Walking.loop_misread style lmap_form (λ walks body. go (Lmap walks body []) done) c.args.args.now c.in-Some.words.now c.in-Some.body.now e c.in-Some.ensures h) (λ q style at. stopped)

pub collecting::lmap-returns-in_err-script-clause-runs : goal.collecting::lmap-returns-in_err-script-clause-runs
collecting::lmap-returns-in_err-script-clause-runs g t c =
    let p = err_from_is_err_and c.from_residual-in_err-script.result c.from_residual-in_err-script.ensures.1 in
    memory_err c.from_residual-in_err-script.result p.0 _ _ p.1 p.2 (λ q style at. stopped)

pub collecting::lmap-returns-in_err-made-clause-runs : goal.collecting::lmap-returns-in_err-made-clause-runs
collecting::lmap-returns-in_err-made-clause-runs g t c =
    let p = err_from_is_err_and c.from_residual-in_err-made.result c.from_residual-in_err-made.ensures.1 in
    memory_err c.from_residual-in_err-made.result p.0 _ _ p.1 p.2 (λ q style at. stopped)

pub collecting::lmap-turns-init : goal.collecting::lmap-turns-init
collecting::lmap-turns-init g t c = record {
  leads = λ q style at V z r run. Walking.lmap_begins style c.args.args.now c.in-Some.words.now c.in-Some.body.now c.in_ok-walks.walks.items c.in-Some.ensures c.in_ok-walks.ensures.read
      (at_prog ((λ i. lmap_turns (walks_at 0 c.in_ok-walks.walks.items) c.in-Some.body.now (sym c.in_ok-made.ensures i))) run);
  here = here-refl c.args.tree.now c.args.place;
  keeps = keeps-refl _ _;
}

pub collecting::lmap-returns-then-is_over-clause-runs : goal.collecting::lmap-returns-then-is_over-clause-runs
collecting::lmap-returns-then-is_over-clause-runs g t c =
    let over = ap (λ (ws : List Walk). is_over (walks_at c.turns.turns ws)) (sym c.as_slice.ensures.value) ∙ sym c.is_over.ensures ∙ c.if-is_over.true in
    ran c.collected.result (EndsBy (gives (written_list c.turns.made)))
    (EndsFrom (ways g.O.Outside.goes g.O.Outside.loses) c.args.tree.now c.args.outside.now c.args.place (λ style. lmap c.args.args.now) c.turns.tree c.turns.outside)
    (λ e h q style at. c.turns.invariant.leads q style at _ _ _ (Walking.turn_over style (walks_at c.turns.turns c.in_ok-walks.walks.items) (gives (written_list c.turns.made)) (result_then c.in-Some.body.now c.turns.made) over (Conditions.ends_by style (gives (written_list c.turns.made)) e h)))
    (λ q style at. c.turns.invariant.leads q style at _ _ _ stopped) c.collected.ensures

pub collecting::lmap-returns-in_err-charge-clause-runs : goal.collecting::lmap-returns-in_err-charge-clause-runs
collecting::lmap-returns-in_err-charge-clause-runs g t c =
    let more = ap (λ (ws : List Walk). is_over (walks_at c.turns.turns ws)) (sym c.as_slice.ensures.value) ∙ sym c.is_over.ensures ∙ c.if-is_over.false in
    let p = err_from_is_err_and c.from_residual-in_err-charge.result c.from_residual-in_err-charge.ensures.1 in
    says_err c.from_residual-in_err-charge.result c.in_err-charge.field-0.0 p.0 _ _ _ p.1 p.2 c.in_err-charge.ensures.refused
    (λ e h q style at. c.turns.invariant.leads q style at _ _ _
    (Walking.turn_stops style (walks_at c.turns.turns c.in_ok-walks.walks.items) (gives (written_list c.turns.made)) (result_then c.in-Some.body.now c.turns.made) more (h q (still_at c.args.tree.now c.turns.tree c.args.place q style c.turns.invariant.here at).names)))

pub collecting::lmap-returns-in_err-set_walks-clause-runs : goal.collecting::lmap-returns-in_err-set_walks-clause-runs
collecting::lmap-returns-in_err-set_walks-clause-runs g t c =
    let more = ap (λ (ws : List Walk). is_over (walks_at c.turns.turns ws)) (sym c.as_slice.ensures.value) ∙ sym c.is_over.ensures ∙ c.if-is_over.false in
    let p = err_from_is_err_and c.from_residual-in_err-set_walks.result c.from_residual-in_err-set_walks.ensures.1 in
    fails_err c.from_residual-in_err-set_walks.result c.in_err-set_walks.field-0.0 p.0 _ _ _ p.1 p.2 c.in_err-set_walks.ensures.set
    (λ e h q style at.
    let here = still_at c.args.tree.now c.turns.tree c.args.place q style c.turns.invariant.here at in
    let after = still_at _ _ c.args.place q style (level_here _ _ c.args.place c.charge.ensures.level) here in
    let counts = c.in_ok-charge.ensures.counted q here.names in
    c.turns.invariant.leads q style at _ _ _
    (Walking.turn_fails style (walks_at c.turns.turns c.in_ok-walks.walks.items) (gives (written_list c.turns.made)) (result_then c.in-Some.body.now c.turns.made) more counts
    (λ k. subst (λ (ws : List Walk). Does (sets_walks (walks_at c.turns.turns ws) (λ rest. k)) (tree_of c.charge.new.tree) q (tree_of c.set_walks.new.tree) e) c.as_slice-in-turns.ensures.value (h q after.names k))))
    (λ q style at.
    let here = still_at c.args.tree.now c.turns.tree c.args.place q style c.turns.invariant.here at in
    let counts = c.in_ok-charge.ensures.counted q here.names in
    c.turns.invariant.leads q style at _ _ _ (Walking.turn_given_up style (walks_at c.turns.turns c.in_ok-walks.walks.items) (gives (written_list c.turns.made)) (result_then c.in-Some.body.now c.turns.made) more counts))

pub collecting::lmap-returns-in_err-collects-clause-runs : goal.collecting::lmap-returns-in_err-collects-clause-runs
collecting::lmap-returns-in_err-collects-clause-runs g t c =
    let more = ap (λ (ws : List Walk). is_over (walks_at c.turns.turns ws)) (sym c.as_slice.ensures.value) ∙ sym c.is_over.ensures ∙ c.if-is_over.false in
    let p = err_from_is_err_and c.from_residual-in_err-collects.result c.from_residual-in_err-collects.ensures.1 in
    ran_err c.from_residual-in_err-collects.result c.in_err-collects.field-0.0 p.0 _ _ _ p.1 p.2
    (Gathering.collected_err c.eval_read-ended.result c.in_err-collects.field-0.0 c.turns.made c.collects.new.made
    (EndsAt (ways g.O.Outside.goes g.O.Outside.loses) c.set_walks.new.tree c.charge.new.outside c.args.place (λ style. script c.in-Some.body.now) c.eval_read-ended.new.tree c.eval_read-ended.new.outside) c.in_err-collects.ensures c.eval_read-ended.ensures.runs)
    (λ e h q style at.
    let here = still_at c.args.tree.now c.turns.tree c.args.place q style c.turns.invariant.here at in
    let after = still_at _ _ c.args.place q style (level_here _ _ c.args.place c.charge.ensures.level) here in
    let set = still_at _ _ c.args.place q style (level_here _ _ c.args.place c.set_walks.ensures.level) after in
    let counts = c.in_ok-charge.ensures.counted q here.names in
    c.turns.invariant.leads q style at _ _ _
    (Walking.turn_begins style (walks_at c.turns.turns c.in_ok-walks.walks.items) (gives (written_list c.turns.made)) (result_then c.in-Some.body.now c.turns.made) more counts
    (Walking.walks_set (walks_at c.turns.turns c.in_ok-walks.walks.items) (tree_of c.charge.new.tree) (tree_of c.set_walks.new.tree) q
    (λ k V r d. subst (λ (ws : List Walk). Does (sets_walks (walks_at c.turns.turns ws) (λ rest. k)) (tree_of c.charge.new.tree) q V r) c.as_slice-in-turns.ensures.value (c.in_ok-set_walks.ensures.set q after.names k V r d)))
    (Gathering.turn_ends style c.in-Some.body.now c.turns.made (map passed (walks_at c.turns.turns c.in_ok-walks.walks.items)) e (EndsAt (ways g.O.Outside.goes g.O.Outside.loses) c.set_walks.new.tree c.charge.new.outside c.args.place (λ style. script c.in-Some.body.now) c.eval_read-ended.new.tree c.eval_read-ended.new.outside)
    (λ f d. d q style (record { names = set.names; style_is = set.style_is })) h)))

pub collecting::lmap-returns-then-not-branch-clause-runs : goal.collecting::lmap-returns-then-not-branch-clause-runs
collecting::lmap-returns-then-not-branch-clause-runs g t c =
    let more = ap (λ (ws : List Walk). is_over (walks_at c.turns.turns ws)) (sym c.as_slice.ensures.value) ∙ sym c.is_over.ensures ∙ c.if-is_over.false in
    let x = Gathering.collected_ok c.eval_read-ended.result c.in_ok-collects.field-0 false c.turns.made c.collects.new.made
    (EndsAt (ways g.O.Outside.goes g.O.Outside.loses) c.set_walks.new.tree c.charge.new.outside c.args.place (λ style. script c.in-Some.body.now) c.eval_read-ended.new.tree c.eval_read-ended.new.outside) c.in_ok-collects.ensures c.if-not-branch.true c.eval_read-ended.ensures.runs in
    ran c.collected-then-not-branch.result (EndsBy (gives (written_list c.collects.new.made)))
    (EndsFrom (ways g.O.Outside.goes g.O.Outside.loses) c.args.tree.now c.args.outside.now c.args.place (λ style. lmap c.args.args.now) c.eval_read-ended.new.tree c.eval_read-ended.new.outside)
    (λ e h q style at.
    let here = still_at c.args.tree.now c.turns.tree c.args.place q style c.turns.invariant.here at in
    let after = still_at _ _ c.args.place q style (level_here _ _ c.args.place c.charge.ensures.level) here in
    let set = still_at _ _ c.args.place q style (level_here _ _ c.args.place c.set_walks.ensures.level) after in
    let counts = c.in_ok-charge.ensures.counted q here.names in
    c.turns.invariant.leads q style at _ _ _
    (Walking.turn_begins style (walks_at c.turns.turns c.in_ok-walks.walks.items) (gives (written_list c.turns.made)) (result_then c.in-Some.body.now c.turns.made) more counts
    (Walking.walks_set (walks_at c.turns.turns c.in_ok-walks.walks.items) (tree_of c.charge.new.tree) (tree_of c.set_walks.new.tree) q
    (λ k V r d. subst (λ (ws : List Walk). Does (sets_walks (walks_at c.turns.turns ws) (λ rest. k)) (tree_of c.charge.new.tree) q V r) c.as_slice-in-turns.ensures.value (c.in_ok-set_walks.ensures.set q after.names k V r d)))
    (goes_on {i = Script c.in-Some.body.now} (x.1 q style (record { names = set.names; style_is = set.style_is }))
    (at_prog (x.2 (λ made. go (Lmap (map passed (walks_at c.turns.turns c.in_ok-walks.walks.items)) c.in-Some.body.now made) done))
    (Conditions.ends_by style (gives (written_list c.collects.new.made)) e h)))))
    (λ q style at.
    let here = still_at c.args.tree.now c.turns.tree c.args.place q style c.turns.invariant.here at in
    let after = still_at _ _ c.args.place q style (level_here _ _ c.args.place c.charge.ensures.level) here in
    let set = still_at _ _ c.args.place q style (level_here _ _ c.args.place c.set_walks.ensures.level) after in
    let counts = c.in_ok-charge.ensures.counted q here.names in
    c.turns.invariant.leads q style at _ _ _
    (Walking.turn_begins style (walks_at c.turns.turns c.in_ok-walks.walks.items) (gives (written_list c.turns.made)) (result_then c.in-Some.body.now c.turns.made) more counts
    (Walking.walks_set (walks_at c.turns.turns c.in_ok-walks.walks.items) (tree_of c.charge.new.tree) (tree_of c.set_walks.new.tree) q
    (λ k V r d. subst (λ (ws : List Walk). Does (sets_walks (walks_at c.turns.turns ws) (λ rest. k)) (tree_of c.charge.new.tree) q V r) c.as_slice-in-turns.ensures.value (c.in_ok-set_walks.ensures.set q after.names k V r d)))
    (goes_on {i = Script c.in-Some.body.now} (x.1 q style (record { names = set.names; style_is = set.style_is })) stopped)))
    c.collected-then-not-branch.ensures

pub collecting::lmap-turns-preserved : goal.collecting::lmap-turns-preserved
collecting::lmap-turns-preserved g t c =
    let more = ap (λ (ws : List Walk). is_over (walks_at c.turns.turns ws)) (sym c.as_slice.ensures.value) ∙ sym c.is_over.ensures ∙ c.if-is_over.false in
    let x = Gathering.collected_ok c.eval_read-ended.result c.in_ok-collects.field-0 true c.turns.made c.collects.new.made
    (EndsAt (ways g.O.Outside.goes g.O.Outside.loses) c.set_walks.new.tree c.charge.new.outside c.args.place (λ style. script c.in-Some.body.now) c.eval_read-ended.new.tree c.eval_read-ended.new.outside) c.in_ok-collects.ensures c.if-not-branch.false c.eval_read-ended.ensures.runs in
    record {
      leads = λ q style at V z r run.
          let here = still_at c.args.tree.now c.turns.tree c.args.place q style c.turns.invariant.here at in
          let after = still_at _ _ c.args.place q style (level_here _ _ c.args.place c.charge.ensures.level) here in
          let set = still_at _ _ c.args.place q style (level_here _ _ c.args.place c.set_walks.ensures.level) after in
          let counts = c.in_ok-charge.ensures.counted q here.names in
          c.turns.invariant.leads q style at _ _ _
          (Walking.turn_begins style (walks_at c.turns.turns c.in_ok-walks.walks.items) (gives (written_list c.turns.made)) (result_then c.in-Some.body.now c.turns.made) more counts
          (Walking.walks_set (walks_at c.turns.turns c.in_ok-walks.walks.items) (tree_of c.charge.new.tree) (tree_of c.set_walks.new.tree) q
          (λ k V r d. subst (λ (ws : List Walk). Does (sets_walks (walks_at c.turns.turns ws) (λ rest. k)) (tree_of c.charge.new.tree) q V r) c.as_slice-in-turns.ensures.value (c.in_ok-set_walks.ensures.set q after.names k V r d)))
          (goes_on {i = Script c.in-Some.body.now} (x.1 q style (record { names = set.names; style_is = set.style_is }))
          (at_prog (x.2 (λ made. go (Lmap (map passed (walks_at c.turns.turns c.in_ok-walks.walks.items)) c.in-Some.body.now made) done))
          (goes_done {i = Lmap (map passed (walks_at c.turns.turns c.in_ok-walks.walks.items)) c.in-Some.body.now c.collects.new.made}
          (at_prog (ap (λ (ws : List Left). lmap_turns ws c.in-Some.body.now c.collects.new.made) (Walking.walks_next c.turns.turns c.in_ok-walks.walks.items)) run)))));
      here = here-trans c.args.tree.now c.set_walks.new.tree c.eval_read-ended.new.tree c.args.place (here-trans c.args.tree.now c.charge.new.tree c.set_walks.new.tree c.args.place (here-trans c.args.tree.now c.turns.tree c.charge.new.tree c.args.place c.turns.invariant.here (level_here c.turns.tree c.charge.new.tree c.args.place c.charge.ensures.level)) (level_here c.charge.new.tree c.set_walks.new.tree c.args.place c.set_walks.ensures.level)) (here_in c.eval_read-ended.result c.in_ok-collects.ensures.0 (IsHere c.set_walks.new.tree c.eval_read-ended.new.tree c.args.place) c.in_ok-collects.ensures.1 c.eval_read-ended.ensures.here);
      keeps = keeps-trans (keeps-trans (keeps-trans c.turns.invariant.keeps (charged_keeps c.charge.ensures.level c.charge.ensures.left)) (level_keeps _ c.set_walks.ensures.level)) c.eval_read-ended.ensures.keeps;
    }

pub collecting::lmap-returns-clause-runs : goal.collecting::lmap-returns-clause-runs
collecting::lmap-returns-clause-runs g t c = λ q style at. c.turns.invariant.leads q style at _ _ _ stopped

pub loops::uplevel-returns-in_err-level-clause-runs : goal.loops::uplevel-returns-in_err-level-clause-runs
loops::uplevel-returns-in_err-level-clause-runs g t c =
    let p = err_from_is_err_and c.from_residual.result c.from_residual.ensures.1 in
    fails_err c.from_residual.result c.in_err-level.field-0.0 p.0 _ _ _ p.1 p.2
    (Interrupts-at c.in_err-level.field-0.0 c.args.tree.now c.args.place (λ n e. IsFailure itself (script_level (marks_of c.args.tree.now).integers n c.args.args.now) e) c.in_err-level.ensures)
    (λ e h q style at. let n = stands (tree_of c.args.tree.now q) (tree_there c.args.tree.now q _ at.names) in
    Levelling.up_fails style c.args.args.now e n.1 (subst (λ (s : Integers). IsFailure itself (script_level s n.0 c.args.args.now) e) at.style_is (h q n.0 at.names n.1)))
    (λ q style at. stopped)

pub loops::uplevel-returns-in_err-script-clause-runs : goal.loops::uplevel-returns-in_err-script-clause-runs
loops::uplevel-returns-in_err-script-clause-runs g t c =
    let p = err_from_is_err_and c.from_residual-in_err-script.result c.from_residual-in_err-script.ensures.1 in
    fails_err c.from_residual-in_err-script.result c.in_err-script.field-0.0 p.0 _ _ _ p.1 p.2 c.in_err-script.ensures.refused
    (λ e h q style at. let n = stands (tree_of c.args.tree.now q) (tree_there c.args.tree.now q _ at.names) in
    Levelling.up_found style c.args.args.now c.in_ok-level.words.now c.in_ok-level.level n.1
    (ap (λ (s : Integers). script_level s n.0 c.args.args.now) (sym at.style_is) ∙ c.in_ok-level.ensures q n.0 at.names n.1)
    (Levelling.up_long style c.in_ok-level.words.now c.in_ok-level.level h.0 h.1))
    (λ q style at. stopped)

pub loops::uplevel-returns-in_err-set_aside-clause-runs : goal.loops::uplevel-returns-in_err-set_aside-clause-runs
loops::uplevel-returns-in_err-set_aside-clause-runs g t c =
    let p = err_from_is_err_and c.from_residual-in_err-set_aside.result c.from_residual-in_err-set_aside.ensures.1 in
    memory_err c.from_residual-in_err-set_aside.result p.0 _ _ p.1 (p.2 ∙ c.in_err-set_aside.ensures.memory) (λ q style at. stopped)

pub loops::uplevel-returns-clause-runs : goal.loops::uplevel-returns-clause-runs
loops::uplevel-returns-clause-runs g t c =
    IfRan-more c.eval_value-ended.result
    (EndsAt (ways g.O.Outside.goes g.O.Outside.loses) c.set_aside.new.tree c.args.outside.now c.args.place (λ style. script c.in_ok-script.script) c.eval_value-ended.new.tree c.eval_value-ended.new.outside)
    (EndsFrom (ways g.O.Outside.goes g.O.Outside.loses) c.args.tree.now c.args.outside.now c.args.place (λ style. uplevel style c.args.args.now) c.bring_back.new.tree c.eval_value-ended.new.outside)
    (λ e h q style at.
    let n = stands (tree_of c.args.tree.now q) (tree_there c.args.tree.now q _ at.names) in
    let here = still_at c.args.tree.now c.set_aside.new.tree c.args.place q style (level_here _ _ c.args.place c.in_ok-set_aside.ensures.level) at in
    Levelling.up_found style c.args.args.now c.in_ok-level.words.now c.in_ok-level.level n.1
    (ap (λ (s : Integers). script_level s n.0 c.args.args.now) (sym at.style_is) ∙ c.in_ok-level.ensures q n.0 at.names n.1)
    (Levelling.up_runs style c.in_ok-level.words.now c.in_ok-level.level c.in_ok-script.ensures.whole.1 n.1 (c.in_ok-set_aside.ensures.aside q n.0 at.names n.1) (c.bring_back.ensures.back q n.0.depth (subst (λ (d : ℕ). Holds c.eval_value-ended.new.tree c.args.place q d) (ap depth_of n.1) (steady_holds c.args.tree.now c.eval_value-ended.new.tree c.args.place q (steady-trans c.args.tree.now c.set_aside.new.tree c.eval_value-ended.new.tree (level_steady c.args.tree.now c.set_aside.new.tree c.set_aside.ensures.level) c.eval_value-ended.ensures.keeps.steady) at.names at.running)))
    (at_prog (ap script (sym c.in_ok-script.ensures.whole.0)) (h q style (record { names = here.names; style_is = here.style_is }))))) c.eval_value-ended.ensures.runs

-- what stays as it is, in conditions and loops

pub expressions::if_many-condition-requires : goal.expressions::if_many-condition-requires
expressions::if_many-condition-requires g t c κs within = (search rules, (search rules, still_running c.args.tree.now c.tests.tree c.args.place c.tests.invariant.here c.requires))

pub expressions::if_many-returns-in_err-condition-clause-keeps : goal.expressions::if_many-returns-in_err-condition-clause-keeps
expressions::if_many-returns-in_err-condition-clause-keeps g t c = keeps-trans c.tests.invariant.keeps c.condition.ensures.keeps

pub expressions::if_many-eval_value-requires : goal.expressions::if_many-eval_value-requires
expressions::if_many-eval_value-requires g t c κs within = (search rules, (search rules, let r = still_running c.args.tree.now c.condition.new.tree c.args.place (here-trans c.args.tree.now c.tests.tree c.condition.new.tree c.args.place c.tests.invariant.here c.in_ok-condition.ensures.here) c.requires in (r.0, r.1)))

pub expressions::if_many-returns-then-branch-clause-keeps : goal.expressions::if_many-returns-then-branch-clause-keeps
expressions::if_many-returns-then-branch-clause-keeps g t c = keeps-trans c.tests.invariant.keeps (keeps-trans c.condition.ensures.keeps c.eval_value.ensures.keeps)

pub expressions::if_many-returns-clause-keeps : goal.expressions::if_many-returns-clause-keeps
expressions::if_many-returns-clause-keeps g t c = keeps-trans c.tests.invariant.keeps c.eval_value-2.ensures.keeps

pub expressions::while_loop-returns-in_err-turn-clause-keeps : goal.expressions::while_loop-returns-in_err-turn-clause-keeps
expressions::while_loop-returns-in_err-turn-clause-keeps g t c = keeps-trans c.turns.invariant.keeps c.turn.ensures.keeps

pub expressions::while_loop-returns-then-not-branch-clause-keeps : goal.expressions::while_loop-returns-then-not-branch-clause-keeps
expressions::while_loop-returns-then-not-branch-clause-keeps g t c = keeps-trans c.turns.invariant.keeps c.turn.ensures.keeps

pub expressions::for_loop-turn-requires : goal.expressions::for_loop-turn-requires
expressions::for_loop-turn-requires g t c κs within = (search rules, (search rules, (still_running c.args.tree.now c.turns.tree c.args.place c.turns.invariant.here c.requires, c.deref-in-turns.ensures ∙ c.in_ok-script.ensures)))

pub expressions::for_loop-eval_read-requires : goal.expressions::for_loop-eval_read-requires
expressions::for_loop-eval_read-requires g t c κs within = (search rules, (search rules, let r = still_running c.args.tree.now c.turn.new.tree c.args.place (here-trans c.args.tree.now c.turns.tree c.turn.new.tree c.args.place c.turns.invariant.here c.in_ok-turn.ensures.here) c.requires in ((r.0, r.1), c.deref-in-turns-2.ensures ∙ c.in_ok-between.ensures)))

pub loops::walk_through-returns-in_err-goes_on-clause-keeps : goal.loops::walk_through-returns-in_err-goes_on-clause-keeps
loops::walk_through-returns-in_err-goes_on-clause-keeps g t c = keeps-trans c.turns.invariant.keeps (keeps-trans (charged_keeps c.charge.ensures.level c.charge.ensures.left) (keeps-trans (level_keeps _ c.set_walks.ensures.level) c.eval_read.ensures.keeps))

pub loops::walk_through-returns-then-not-branch-clause-keeps : goal.loops::walk_through-returns-then-not-branch-clause-keeps
loops::walk_through-returns-then-not-branch-clause-keeps g t c = keeps-trans c.turns.invariant.keeps (keeps-trans (charged_keeps c.charge.ensures.level c.charge.ensures.left) (keeps-trans (level_keeps _ c.set_walks.ensures.level) c.eval_read.ensures.keeps))

pub collecting::lmap-returns-in_err-collects-clause-keeps : goal.collecting::lmap-returns-in_err-collects-clause-keeps
collecting::lmap-returns-in_err-collects-clause-keeps g t c = keeps-trans c.turns.invariant.keeps (keeps-trans (charged_keeps c.charge.ensures.level c.charge.ensures.left) (keeps-trans (level_keeps _ c.set_walks.ensures.level) c.eval_read-ended.ensures.keeps))

pub collecting::lmap-returns-then-not-branch-clause-keeps : goal.collecting::lmap-returns-then-not-branch-clause-keeps
collecting::lmap-returns-then-not-branch-clause-keeps g t c = keeps-trans c.turns.invariant.keeps (keeps-trans (charged_keeps c.charge.ensures.level c.charge.ensures.left) (keeps-trans (level_keeps _ c.set_walks.ensures.level) c.eval_read-ended.ensures.keeps))

-- `interp`, and a child's own command

pub interpreters::interp-returns-in_default-clause-runs : goal.interpreters::interp-returns-in_default-clause-runs
interpreters::interp-returns-in_default-clause-runs g t c =
    breaks c.wrong_args.result _ _ (λ e h q style at. at_prog (ap (interp_program style) (no_item c.args.args.now c.in_default.len_below)) (at_reply h completed)) (λ q style at. stopped) c.wrong_args.ensures

pub interpreters::interp-returns-in_err-name-clause-runs : goal.interpreters::interp-returns-in_err-name-clause-runs
interpreters::interp-returns-in_err-name-clause-runs g t c =
    let p = err_from_is_err_and c.from_residual.result c.from_residual.ensures.1 in
    memory_err c.from_residual.result p.0 _ _ p.1 p.2 (λ q style at. stopped)

pub interpreters::interp-returns-in_default-interp_subcommand-clause-runs : goal.interpreters::interp-returns-in_default-interp_subcommand-clause-runs
interpreters::interp-returns-in_default-interp_subcommand-clause-runs g t c =
    let is = split_first c.args.args.now c.word-item.result c.in-len1-up.len_at_least c.word-item.is in
    let word = c.as_str.ensures ∙ c.in_ok-name.ensures in
    breaks c.unknown_subcommand.result _ _ (λ e h q style at. at_prog (interp_unknown style c.args.args.now c.word-item.result c.as_str.result.now _ c.interp_subcommand.result is word c.interp_subcommand.ensures c.in_default-interp_subcommand.is)
    (at_reply (h ∙ ap (λ (x : List ℕ). Completed (failing (unknown_subcommand x))) (c.as_str-in_default-interp_subcommand.ensures ∙ sym c.as_str.ensures)) completed)) (λ q style at. stopped) c.unknown_subcommand.ensures

pub interpreters::interp-returns-in-Tree-clause-runs : goal.interpreters::interp-returns-in-Tree-clause-runs
interpreters::interp-returns-in-Tree-clause-runs g t c =
    let words = take (length c.args.args.now - 1) (drop 1 c.args.args.now) in
    let is = split_first c.args.args.now c.word-item.result c.in-len1-up.len_at_least c.word-item.is in
    let word = c.as_str.ensures ∙ c.in_ok-name.ensures in
    proceeds_as (ways g.O.Outside.goes g.O.Outside.loses) c.args.tree.now c.call_tree.new.tree c.args.outside.now c.call_tree.new.outside c.args.place (λ style. interp_program style c.args.args.now) (λ style. tree_program_of c.in-Tree.own words) c.call_tree.result
    (λ style. interp_known style c.args.args.now c.word-item.result c.as_str.result.now words c.interp_subcommand.result (Tree c.in-Tree.own) is word c.interp_subcommand.ensures (c.in-Some.is ∙ ap Some c.in-Tree.is))
    (evaluates_proceeds (ways g.O.Outside.goes g.O.Outside.loses) c.args.tree.now c.call_tree.new.tree c.args.outside.now c.call_tree.new.outside c.args.place (λ style. tree_program_of c.in-Tree.own words) c.call_tree.result c.call_tree.ensures.evaluates c.call_tree.ensures.keeps.lost)

pub interpreters::interp-returns-clause-runs : goal.interpreters::interp-returns-clause-runs
interpreters::interp-returns-clause-runs g t c =
    let words = take (length c.args.args.now - 1) (drop 1 c.args.args.now) in
    let is = split_first c.args.args.now c.word-item.result c.in-len1-up.len_at_least c.word-item.is in
    let word = c.as_str.ensures ∙ c.in_ok-name.ensures in
    proceeds_as (ways g.O.Outside.goes g.O.Outside.loses) c.args.tree.now c.call_subcommand.new.tree c.args.outside.now c.call_subcommand.new.outside c.args.place (λ style. interp_program style c.args.args.now) (λ style. program_of style c.in-Shared.shared (about c.split_path.result.0) c.split_path.result.1.now) c.call_subcommand.result
    (λ style. interp_shared style c.args.args.now c.word-item.result c.as_str.result.now words c.interp_subcommand.result c.in-Shared.shared (about c.split_path.result.0) c.split_path.result.1.now is word c.interp_subcommand.ensures (c.in-Some.is ∙ ap Some c.in-Shared.is) c.split_path.ensures)
    c.call_subcommand.ensures.runs

pub interpreters::call_subcommand-returns-in_default-clause-runs : goal.interpreters::call_subcommand-returns-in_default-clause-runs
interpreters::call_subcommand-returns-in_default-clause-runs g t c =
    evaluates_proceeds (ways g.O.Outside.goes g.O.Outside.loses) c.args.tree.now c.call_shared.new.tree c.args.outside.now c.call_shared.new.outside c.args.place (λ style. program_of style c.args.subcommand (about c.args.subject) c.args.args.now) c.call_shared.result
    c.call_shared.ensures.evaluates c.call_shared.ensures.keeps.lost

pub interpreters::eval_in-returns-then-is_empty-clause-runs : goal.interpreters::eval_in-returns-then-is_empty-clause-runs
interpreters::eval_in-returns-then-is_empty-clause-runs g t c =
    let none = zero_is (length c.args.args.now) c.is_empty.result c.is_empty.ensures c.if-is_empty.true in
    breaks c.wrong_words.result _ _ (λ e h q style at. at_prog (evals_none (about c.args.subject) c.args.args.now none) (at_reply h completed)) (λ q style at. stopped) c.wrong_words.ensures

pub interpreters::eval_in-returns-in_err-path-clause-runs : goal.interpreters::eval_in-returns-in_err-path-clause-runs
interpreters::eval_in-returns-in_err-path-clause-runs g t c =
    let some = some_is (length c.args.args.now) c.is_empty.result c.is_empty.ensures c.if-is_empty.false in
    let script : Integers → Program = λ style. reached (about c.args.subject) (evaluates c.args.args.now) in
    let p = err_from_is_err_and c.from_residual.result c.from_residual.ensures.1 in
    proceeds_as (ways g.O.Outside.goes g.O.Outside.loses) c.args.tree.now c.args.tree.now c.args.outside.now c.args.outside.now c.args.place (λ style. evals (about c.args.subject) c.args.args.now) script c.from_residual.result (λ style. evals_some (about c.args.subject) c.args.args.now some)
    (passes_proceeds (ways g.O.Outside.goes g.O.Outside.loses) c.args.tree.now c.args.outside.now c.args.place script c.from_residual.result c.in_err-path.field-0.0 p.0 p.1 p.2
    (Interrupts-more c.in_err-path.field-0.0 _ (GetsToEnd c.args.tree.now c.args.place script) (λ e f. f (λ path style. evaluates c.args.args.now path)) c.in_err-path.ensures))

pub interpreters::eval_in-returns-in_err-script-clause-runs : goal.interpreters::eval_in-returns-in_err-script-clause-runs
interpreters::eval_in-returns-in_err-script-clause-runs g t c =
    let some = some_is (length c.args.args.now) c.is_empty.result c.is_empty.ensures c.if-is_empty.false in
    let p = err_from_is_err_and c.from_residual-in_err-script.result c.from_residual-in_err-script.ensures.1 in
    fails_err c.from_residual-in_err-script.result c.in_err-script.field-0.0 p.0 _ _ _ p.1 p.2 c.in_err-script.ensures.refused
    (λ e h q style at. at_prog (evals_some (about c.args.subject) c.args.args.now some) (looks_proceed (c.in_ok-path.ensures (λ path style. evaluates c.args.args.now path) q style (record { names = at.names; style_is = at.style_is }))
    (outgrows (concat c.args.args.now) (λ script. asks_at c.in_ok-path.path.items (Eval script) done) h.0 h.1))) (λ q style at. stopped)

pub interpreters::eval_in-returns-clause-runs : goal.interpreters::eval_in-returns-clause-runs
interpreters::eval_in-returns-clause-runs g t c =
    let some = some_is (length c.args.args.now) c.is_empty.result c.is_empty.ensures c.if-is_empty.false in
    IfRan-more c.ask_entry.result
    (λ e. (p : Path) (style : Integers) → IsAt c.args.tree.now c.args.place p style → GoesOn (ways g.O.Outside.goes g.O.Outside.loses) style (tree_of c.args.tree.now) c.args.outside.now p (asks_at c.as_slice.result.now (Eval c.in_ok-script.script)) (tree_of c.ask_entry.new.tree) c.ask_entry.new.outside e)
    (EndsFrom (ways g.O.Outside.goes g.O.Outside.loses) c.args.tree.now c.args.outside.now c.args.place (λ style. evals (about c.args.subject) c.args.args.now) c.ask_entry.new.tree c.ask_entry.new.outside)
    (λ e h q style at. at_prog (evals_some (about c.args.subject) c.args.args.now some) (looks_proceed (c.in_ok-path.ensures (λ path style. evaluates c.args.args.now path) q style (record { names = at.names; style_is = at.style_is }))
    (grows (concat c.args.args.now) (λ script. asks_at c.in_ok-path.path.items (Eval script) done) c.in_ok-script.ensures.whole.1
    (at_prog (ap (λ (x : Path). asks_at x (Eval (concat c.args.args.now)) done) (sym c.as_slice.ensures.value) ∙ ap (λ (x : List ℕ). asks_at c.as_slice.result.now (Eval x) done) (sym c.in_ok-script.ensures.whole.0))
    (done_on (ways g.O.Outside.goes g.O.Outside.loses) style (asks_at c.as_slice.result.now (Eval c.in_ok-script.script)) e (h q style at)))))) c.ask_entry.ensures.asks

pub interpreters::invoke_hidden-returns-in_err-call-clause-runs : goal.interpreters::invoke_hidden-returns-in_err-call-clause-runs
interpreters::invoke_hidden-returns-in_err-call-clause-runs g t c =
    let p = err_from_is_err_and c.from_residual.result c.from_residual.ensures.1 in
    fails_err c.from_residual.result c.in_err-call.field-0.0 p.0 _ _ _ p.1 p.2 c.in_err-call.ensures.refused (λ e h q style at. at_prog h.way (at_reply h.end completed)) (λ q style at. stopped)

pub interpreters::invoke_hidden-returns-in_err-path-clause-runs : goal.interpreters::invoke_hidden-returns-in_err-path-clause-runs
interpreters::invoke_hidden-returns-in_err-path-clause-runs g t c =
    let entry = InvokeHidden c.in_ok-call.call.is_global c.in_ok-call.call.words.items in
    let asked : Integers → Program = λ style. asks_trusted (path_text (about c.args.subject)) entry in
    let p = err_from_is_err_and c.from_residual-in_err-path.result c.from_residual-in_err-path.ensures.1 in
    proceeds_as (ways g.O.Outside.goes g.O.Outside.loses) c.args.tree.now c.args.tree.now c.args.outside.now c.args.outside.now c.args.place (λ style. invokes (about c.args.subject) c.args.args.now) asked c.from_residual-in_err-path.result (λ style. c.in_ok-call.ensures.called)
    (passes_proceeds (ways g.O.Outside.goes g.O.Outside.loses) c.args.tree.now c.args.outside.now c.args.place asked c.from_residual-in_err-path.result c.in_err-path.field-0.0 p.0 p.1 p.2
    (Interrupts-more c.in_err-path.field-0.0 _ (GetsToEnd c.args.tree.now c.args.place asked) (λ e f. f (λ path style. asks_at path entry done)) c.in_err-path.ensures))

pub interpreters::invoke_hidden-returns-clause-runs : goal.interpreters::invoke_hidden-returns-clause-runs
interpreters::invoke_hidden-returns-clause-runs g t c =
    let entry = InvokeHidden c.in_ok-call.call.is_global c.in_ok-call.call.words.items in
    let asked : Integers → Program = λ style. asks_trusted (path_text (about c.args.subject)) entry in
    proceeds_as (ways g.O.Outside.goes g.O.Outside.loses) c.args.tree.now c.ask_entry.new.tree c.args.outside.now c.ask_entry.new.outside c.args.place (λ style. invokes (about c.args.subject) c.args.args.now) asked c.ask_entry.result (λ style. c.in_ok-call.ensures.called)
    (gets_proceeds (ways g.O.Outside.goes g.O.Outside.loses) c.args.tree.now c.args.outside.now c.args.place asked (λ style. asks_at c.in_ok-path.path.items entry done) c.ask_entry.new.tree c.ask_entry.new.outside c.ask_entry.result (c.in_ok-path.ensures (λ path style. asks_at path entry done))
    (asking_last (ways g.O.Outside.goes g.O.Outside.loses) c.args.tree.now c.ask_entry.new.tree c.args.outside.now c.ask_entry.new.outside c.args.place c.in_ok-path.path.items entry c.ask_entry.result
    (subst (λ (x : Path). Asks (ways g.O.Outside.goes g.O.Outside.loses) c.args.tree.now c.args.outside.now c.args.place x entry c.ask_entry.new.tree c.ask_entry.new.outside c.ask_entry.result) c.as_slice.ensures.value c.ask_entry.ensures.asks)))

pub children::child-returns-in_err-name-clause-runs : goal.children::child-returns-in_err-name-clause-runs
children::child-returns-in_err-name-clause-runs g t c =
    let p = err_from_is_err_and c.from_residual.result c.from_residual.ensures.1 in
    memory_err c.from_residual.result p.0 _ _ p.1 p.2 (λ q style at. stopped)

pub children::child-returns-in_default-clause-runs : goal.children::child-returns-in_default-clause-runs
children::child-returns-in_default-clause-runs g t c =
    let kept = c.in_ok-name.ensures in
    breaks c.wrong_child_args.result _ _ (λ e h q style at. at_prog (ap (λ (n : List ℕ). child_program style n c.args.args.now) (sym kept) ∙ ap (child_program style c.in_ok-name.name) (no_item c.args.args.now c.in_default.len_below)) (at_reply h completed)) (λ q style at. stopped) c.wrong_child_args.ensures

pub children::child-returns-in_err-text-clause-runs : goal.children::child-returns-in_err-text-clause-runs
children::child-returns-in_err-text-clause-runs g t c =
    let p = err_from_is_err_and c.from_residual-in_err-text.result c.from_residual-in_err-text.ensures.1 in
    memory_err c.from_residual-in_err-text.result p.0 _ _ p.1 p.2 (λ q style at. stopped)

pub children::child-returns-in_default-child_subcommand-clause-runs : goal.children::child-returns-in_default-child_subcommand-clause-runs
children::child-returns-in_default-child_subcommand-clause-runs g t c =
    let kept = c.in_ok-name.ensures in
    let is = split_first c.args.args.now c.first-item.result c.in-len1-up.len_at_least c.first-item.is in
    let word = c.as_str.ensures ∙ c.in_ok-text.ensures in
    breaks c.unknown_subcommand.result _ _ (λ e h q style at. at_prog (ap (λ (n : List ℕ). child_program style n c.args.args.now) (sym kept) ∙ child_unknown style c.in_ok-name.name c.args.args.now c.first-item.result c.as_str.result.now _ c.child_subcommand.result is word c.child_subcommand.ensures c.in_default-child_subcommand.is)
    (at_reply (h ∙ ap (λ (x : List ℕ). Completed (failing (unknown_subcommand x))) (c.as_str-in_default-child_subcommand.ensures ∙ sym c.as_str.ensures)) completed)) (λ q style at. stopped) c.unknown_subcommand.ensures

pub children::child-returns-clause-runs : goal.children::child-returns-clause-runs
children::child-returns-clause-runs g t c =
    let words = take (length c.args.args.now - 1) (drop 1 c.args.args.now) in
    let is = split_first c.args.args.now c.first-item.result c.in-len1-up.len_at_least c.first-item.is in
    let word = c.as_str.ensures ∙ c.in_ok-text.ensures in
    proceeds_as (ways g.O.Outside.goes g.O.Outside.loses) c.args.tree.now c.call_subcommand.new.tree c.args.outside.now c.call_subcommand.new.outside c.args.place (λ style. child_program style (child_name (command_name c.args.word.now)) c.args.args.now) (λ style. program_of style c.in-Some.subcommand (on_child c.in_ok-name.name) words) c.call_subcommand.result
    (λ style. ap (λ (n : List ℕ). child_program style n c.args.args.now) (sym c.in_ok-name.ensures) ∙ child_known style c.in_ok-name.name c.args.args.now c.first-item.result c.as_str.result.now words c.child_subcommand.result c.in-Some.subcommand is word c.child_subcommand.ensures c.in-Some.is)
    c.call_subcommand.ensures.runs

pub commands::call_command-returns-in-Child-clause-runs : goal.commands::call_command-returns-in-Child-clause-runs
commands::call_command-returns-in-Child-clause-runs g t c =
    IfRan-more c.child.result
    (EndsFrom (ways g.O.Outside.goes g.O.Outside.loses) c.args.tree.now c.args.outside.now c.args.place (λ style. child_program style (child_name (command_name c.args.word.now)) c.args.args.now) c.child.new.tree c.child.new.outside)
    (EndsFrom (ways g.O.Outside.goes g.O.Outside.loses) c.args.tree.now c.args.outside.now c.args.place (λ style. dispatch style c.args.word.now c.args.args.now invalid_command (Some c.args.command.now)) c.child.new.tree c.child.new.outside)
    (λ e h q style at. at_prog (ap (λ (x : Command). dispatch style c.args.word.now c.args.args.now invalid_command (Some x)) c.in-Child.is) (h q style at)) c.child.ensures.runs

pub commands::call_builtin-returns-in-Rename-clause-runs : goal.commands::call_builtin-returns-in-Rename-clause-runs
commands::call_builtin-returns-in-Rename-clause-runs g t c =
    proceeds_as (ways g.O.Outside.goes g.O.Outside.loses) c.args.tree.now c.rename.new.tree c.args.outside.now c.rename.new.outside c.args.place (λ style. builtin_program style c.args.builtin c.args.args.now) (λ style. definitions.rename c.args.args.now) c.rename.result
    (λ style. ap (λ (b : Builtin). builtin_program style b c.args.args.now) c.in-Rename.is)
    (evaluates_proceeds (ways g.O.Outside.goes g.O.Outside.loses) c.args.tree.now c.rename.new.tree c.args.outside.now c.rename.new.outside c.args.place (λ style. definitions.rename c.args.args.now) c.rename.result c.rename.ensures.evaluates c.rename.ensures.keeps.lost)

pub commands::call_builtin-returns-in_default : goal.commands::call_builtin-returns-in_default
commands::call_builtin-returns-in_default g t c = record {
  runs = acts_proceeds (ways g.O.Outside.goes g.O.Outside.loses) c.args.tree.now c.call_plain.new.tree c.args.outside.now c.args.place (λ style. builtin_program style c.args.builtin c.args.args.now) c.call_plain.result c.call_plain.ensures.acts;
  here = on_completion c.call_plain.result (IsHere c.args.tree.now c.call_plain.new.tree c.args.place) (level_here c.args.tree.now c.call_plain.new.tree c.args.place c.call_plain.ensures.level);
  keeps = level_keeps _ c.call_plain.ensures.level;
}

-- # Choices of a script

pub switching::switch-returns-in_err-body-clause-runs : goal.switching::switch-returns-in_err-body-clause-runs
switching::switch-returns-in_err-body-clause-runs g t c =
    let p = err_from_is_err_and c.from_residual.result c.from_residual.ensures.1 in
    fails_err c.from_residual.result c.in_err-body.field-0.0 p.0 _ _ _ p.1 p.2 c.in_err-body.ensures
    (λ e h q style at. read_fails itself (choice exactly c.args.args.now) runs_last e h) (λ q style at. stopped)

pub switching::switch-returns-in_default-clause-runs : goal.switching::switch-returns-in_default-clause-runs
switching::switch-returns-in_default-clause-runs g t c =
    let none = rw c.in_default.is at c.in_ok-body.ensures in
    λ q style at. reads_on itself runs_last none (at_reply (ap (λ (x : List ℕ). Completed (ok x)) c.empty.ensures) completed)

pub switching::switch-returns-clause-runs : goal.switching::switch-returns-clause-runs
switching::switch-returns-clause-runs g t c =
    let some = rw c.in-Some.is at c.in_ok-body.ensures in
    IfRan-more c.eval_value.result
    (EndsAt (ways g.O.Outside.goes g.O.Outside.loses) c.args.tree.now c.args.outside.now c.args.place (λ style. script c.in-Some.body) c.eval_value.new.tree c.eval_value.new.outside)
    (EndsFrom (ways g.O.Outside.goes g.O.Outside.loses) c.args.tree.now c.args.outside.now c.args.place (λ style. switch c.args.args.now) c.eval_value.new.tree c.eval_value.new.outside)
    (λ e h q style at. reads_on itself runs_last some (goes_done {i = Script c.in-Some.body} (h q style (record { names = at.names; style_is = at.style_is })))) c.eval_value.ensures.runs

-- the script of a handler

pub trying::run_handler-returns-in_default-clause-runs : goal.trying::run_handler-returns-in_default-clause-runs
trying::run_handler-returns-in_default-clause-runs g t c =
    let none : option_copied c.args.chosen ≡ None = ap option_copied c.in_default.is in
    λ q style at. at_prog (ap runs_last none) (at_reply (ap (λ (x : List ℕ). Completed (ok x)) c.empty.ensures) completed)

pub trying::run_handler-returns-clause-runs : goal.trying::run_handler-returns-clause-runs
trying::run_handler-returns-clause-runs g t c =
    let some : option_copied c.args.chosen ≡ Some c.in-Some.script.now = ap option_copied c.in-Some.is in
    IfRan-more c.eval_value.result
    (EndsAt (ways g.O.Outside.goes g.O.Outside.loses) c.args.tree.now c.args.outside.now c.args.place (λ style. script c.in-Some.script.now) c.eval_value.new.tree c.eval_value.new.outside)
    (EndsFrom (ways g.O.Outside.goes g.O.Outside.loses) c.args.tree.now c.args.outside.now c.args.place (λ style. runs_last (option_copied c.args.chosen)) c.eval_value.new.tree c.eval_value.new.outside)
    (λ e h q style at. at_prog (ap runs_last some)
    (goes_done {i = Script c.in-Some.script.now} (h q style (record { names = at.names; style_is = at.style_is })))) c.eval_value.ensures.runs

-- a handler

pub trying::handle-returns-in_err-names-clause-runs : goal.trying::handle-returns-in_err-names-clause-runs
trying::handle-returns-in_err-names-clause-runs g t c =
    let p = err_from_is_err_and c.from_residual.result c.from_residual.ensures.1 in
    memory_err c.from_residual.result p.0 _ _ p.1 p.2 (λ q style at. stopped)

pub trying::handle-returns-in_default-clause-runs : goal.trying::handle-returns-in_default-clause-runs
trying::handle-returns-in_default-clause-runs g t c =
    let none = rw c.in_default.is at c.in_ok-names.ensures in
    ran c.released.result (λ e. e ≡ Completed (completion_of c.args.completion))
    (EndsFrom (ways g.O.Outside.goes g.O.Outside.loses) c.args.tree.now c.args.outside.now c.args.place (λ style. handled_by (completion_of c.args.completion) (handlers_of c.args.handlers.now)) c.args.tree.now c.args.outside.now)
    (λ e h q style at. at_prog none (at_reply h completed)) (λ q style at. stopped) c.released.ensures

pub trying::handle-returns-in_err-keep_named-clause-runs : goal.trying::handle-returns-in_err-keep_named-clause-runs
trying::handle-returns-in_err-keep_named-clause-runs g t c =
    let some = rw c.in-Some.is at c.in_ok-names.ensures in
    let p = err_from_is_err_and c.from_residual-in_err-keep_named.result c.from_residual-in_err-keep_named.ensures.1 in
    fails_err c.from_residual-in_err-keep_named.result c.in_err-keep_named.field-0.0 p.0 _ _ _ p.1 p.2 c.in_err-keep_named.ensures.kept
    (λ e h q style at. at_prog some (does_proceeds _ c.args.outside.now (h q at.names (runs_last (option_copied c.in-Some.script))))) (λ q style at. stopped)

pub trying::handle-run_handler-requires : goal.trying::handle-run_handler-requires
trying::handle-run_handler-requires g t c κs within =
    (search rules, (search rules, still_running c.args.tree.now c.keep_named.new.tree c.args.place (level_here _ _ c.args.place c.keep_named.ensures.level) c.requires))

pub trying::handle-returns-clause-runs : goal.trying::handle-returns-clause-runs
trying::handle-returns-clause-runs g t c =
    let some = rw c.in-Some.is at c.in_ok-names.ensures in
    IfRan-more c.run_handler.result
    (EndsFrom (ways g.O.Outside.goes g.O.Outside.loses) c.keep_named.new.tree c.args.outside.now c.args.place (λ style. runs_last (option_copied c.in-Some.script)) c.run_handler.new.tree c.run_handler.new.outside)
    (EndsFrom (ways g.O.Outside.goes g.O.Outside.loses) c.args.tree.now c.args.outside.now c.args.place (λ style. handled_by (completion_of c.args.completion) (handlers_of c.args.handlers.now)) c.run_handler.new.tree c.run_handler.new.outside)
    (λ e h q style at. at_prog some (Choosing.named_comes style c.in-Some.names.now (completion_of c.args.completion) (runs_last (option_copied c.in-Some.script)) (c.in_ok-keep_named.ensures.kept q at.names)
    (h q style (still_at _ _ c.args.place q style (level_here _ _ c.args.place c.keep_named.ensures.level) at)))) c.run_handler.ensures.runs

pub trying::handle-returns-clause-keeps : goal.trying::handle-returns-clause-keeps
trying::handle-returns-clause-keeps g t c =
    keeps-trans (level_keeps _ c.keep_named.ensures.level) c.run_handler.ensures.keeps

-- a body and its handlers

pub trying::handled-returns-in_err-completion-clause-runs : goal.trying::handled-returns-in_err-completion-clause-runs
trying::handled-returns-in_err-completion-clause-runs g t c =
    let p = err_from_is_err_and c.from_residual.result c.from_residual.ensures.1 in
    ran_err c.from_residual.result c.in_err-completion.field-0.0 p.0 _ _ _ p.1 p.2
    (caught_err c.eval_value.result c.caught.result c.in_err-completion.field-0.0 (EndsAt (ways g.O.Outside.goes g.O.Outside.loses) c.args.tree.now c.args.outside.now c.args.place (λ style. script c.args.body.now) c.eval_value.new.tree c.eval_value.new.outside)
    c.in_err-completion.was c.caught.ensures c.eval_value.ensures.runs)
    (λ e h q style at. passes {i = Script c.args.body.now} h.1 (h.0 q style (record { names = at.names; style_is = at.style_is })))

pub trying::handled-handle-requires : goal.trying::handled-handle-requires
trying::handled-handle-requires g t c κs within =
    (search rules, (search rules, still_running c.args.tree.now c.eval_value.new.tree c.args.place (here_caught c.eval_value.result c.caught.result c.in_ok-completion.completion c.args.tree.now c.eval_value.new.tree c.args.place c.in_ok-completion.was c.caught.ensures c.eval_value.ensures.here) c.requires))

pub trying::handled-returns-clause-runs : goal.trying::handled-returns-clause-runs
trying::handled-returns-clause-runs g t c =
    let caught = caught_ok c.eval_value.result c.caught.result c.in_ok-completion.completion (EndsAt (ways g.O.Outside.goes g.O.Outside.loses) c.args.tree.now c.args.outside.now c.args.place (λ style. script c.args.body.now) c.eval_value.new.tree c.eval_value.new.outside)
    c.in_ok-completion.was c.caught.ensures c.eval_value.ensures.runs in
    IfRan-more c.handle.result
    (EndsFrom (ways g.O.Outside.goes g.O.Outside.loses) c.eval_value.new.tree c.eval_value.new.outside c.args.place (λ style. handled_by (completion_of c.in_ok-completion.completion) (handlers_of c.args.handlers.now)) c.handle.new.tree c.handle.new.outside)
    (EndsFrom (ways g.O.Outside.goes g.O.Outside.loses) c.args.tree.now c.args.outside.now c.args.place (λ style. handled c.args.body.now (handlers_of c.args.handlers.now)) c.handle.new.tree c.handle.new.outside)
    (λ e h q style at. goes_on {i = Script c.args.body.now} (caught q style (record { names = at.names; style_is = at.style_is }))
    (h q style (still_at c.args.tree.now c.eval_value.new.tree c.args.place q style (here_caught c.eval_value.result c.caught.result c.in_ok-completion.completion c.args.tree.now c.eval_value.new.tree c.args.place c.in_ok-completion.was c.caught.ensures c.eval_value.ensures.here) at))) c.handle.ensures.runs

pub trying::handled-returns-clause-keeps : goal.trying::handled-returns-clause-keeps
trying::handled-returns-clause-keeps g t c =
    keeps-trans c.eval_value.ensures.keeps c.handle.ensures.keeps

-- `try`

pub trying::try_script-returns-in_default-clause-runs : goal.trying::try_script-returns-in_default-clause-runs
trying::try_script-returns-in_default-clause-runs g t c =
    breaks c.wrong_args.result _ _ (λ e h q style at. at_prog (ap (try_script style) (no_item c.args.args.now c.in_default.len_below)) (at_reply h completed)) (λ q style at. stopped) c.wrong_args.ensures

pub trying::try_script-returns-in_err-tried-clause-runs : goal.trying::try_script-returns-in_err-tried-clause-runs
trying::try_script-returns-in_err-tried-clause-runs g t c =
    let p = err_from_is_err_and c.from_residual.result c.from_residual.ensures.1 in
    fails_err c.from_residual.result c.in_err-tried.field-0.0 p.0 _ _ _ p.1 p.2 c.in_err-tried.ensures
    (λ e h q style at.
    let same = c.integers.ensures ∙ at.style_is in
    Choosing.try_refused style c.args.args.now (take (length c.args.args.now - 1) (drop 1 c.args.args.now)) c.body-item.result e (split_first c.args.args.now c.body-item.result c.in-len1-up.len_at_least c.body-item.is) (subst (λ (s : Integers). IsFailure itself (tried_of s (take (length c.args.args.now - 1) (drop 1 c.args.args.now))) e) same h)) (λ q style at. stopped)

pub trying::try_script-returns-in_default-last-clause-runs : goal.trying::try_script-returns-in_default-last-clause-runs
trying::try_script-returns-in_default-last-clause-runs g t c =
    let none : option_copied c.in_ok-tried.tried.last ≡ None = ap option_copied c.in_default-last.is in
    IfRan-more c.handled-ended.result (EndsFrom (ways g.O.Outside.goes g.O.Outside.loses) c.args.tree.now c.args.outside.now c.args.place (λ style. handled c.body-item.result (handlers_of c.as_slice.result.now)) c.handled-ended.new.tree c.handled-ended.new.outside)
    (EndsFrom (ways g.O.Outside.goes g.O.Outside.loses) c.args.tree.now c.args.outside.now c.args.place (λ style. try_script style c.args.args.now) c.handled-ended.new.tree c.handled-ended.new.outside)
    (λ e h q style at.
    let same = c.integers.ensures ∙ at.style_is in
    Choosing.try_begins style c.args.args.now (take (length c.args.args.now - 1) (drop 1 c.args.args.now)) c.body-item.result (tried_seen c.in_ok-tried.tried) (split_first c.args.args.now c.body-item.result c.in-len1-up.len_at_least c.body-item.is) (ap (λ (s : Integers). tried_of s (take (length c.args.args.now - 1) (drop 1 c.args.args.now))) (sym same) ∙ c.in_ok-tried.ensures)
    (Choosing.finish_none style c.body-item.result (handlers_of c.in_ok-tried.tried.handlers.items) (option_copied c.in_ok-tried.tried.last) none (at_prog (ap (λ (hs : List TriedHandler). handled c.body-item.result (handlers_of hs)) (sym c.as_slice.ensures.value)) (h q style at)))) c.handled-ended.ensures.runs

pub trying::try_script-returns-in_err-completion-clause-runs : goal.trying::try_script-returns-in_err-completion-clause-runs
trying::try_script-returns-in_err-completion-clause-runs g t c =
    let p = err_from_is_err_and c.from_residual-in_err-completion.result c.from_residual-in_err-completion.ensures.1 in
    ran_err c.from_residual-in_err-completion.result c.in_err-completion.field-0.0 p.0 _ _ _ p.1 p.2
    (caught_err c.handled-ended.result c.caught.result c.in_err-completion.field-0.0 (EndsFrom (ways g.O.Outside.goes g.O.Outside.loses) c.args.tree.now c.args.outside.now c.args.place (λ style. handled c.body-item.result (handlers_of c.as_slice.result.now)) c.handled-ended.new.tree c.handled-ended.new.outside)
    c.in_err-completion.was c.caught.ensures c.handled-ended.ensures.runs)
    (λ e h q style at.
    let same = c.integers.ensures ∙ at.style_is in
    Choosing.try_begins style c.args.args.now (take (length c.args.args.now - 1) (drop 1 c.args.args.now)) c.body-item.result (tried_seen c.in_ok-tried.tried) (split_first c.args.args.now c.body-item.result c.in-len1-up.len_at_least c.body-item.is) (ap (λ (s : Integers). tried_of s (take (length c.args.args.now - 1) (drop 1 c.args.args.now))) (sym same) ∙ c.in_ok-tried.ensures)
    (Choosing.finish_passes style c.body-item.result (handlers_of c.in_ok-tried.tried.handlers.items) (option_copied c.in_ok-tried.tried.last) h.1 (at_prog (ap (λ (hs : List TriedHandler). handled c.body-item.result (handlers_of hs)) (sym c.as_slice.ensures.value)) (h.0 q style at))))

pub trying::try_script-eval_value-requires : goal.trying::try_script-eval_value-requires
trying::try_script-eval_value-requires g t c κs within =
    (search rules, (search rules, let r = still_running c.args.tree.now c.handled-ended.new.tree c.args.place (here_caught c.handled-ended.result c.caught.result c.in_ok-completion.completion c.args.tree.now c.handled-ended.new.tree c.args.place c.in_ok-completion.was c.caught.ensures c.handled-ended.ensures.here) c.requires in (r.0, r.1)))

pub trying::try_script-returns-in_err-on_ok-clause-runs : goal.trying::try_script-returns-in_err-on_ok-clause-runs
trying::try_script-returns-in_err-on_ok-clause-runs g t c =
    let p = err_from_is_err_and c.from_residual-in_err-on_ok.result c.from_residual-in_err-on_ok.ensures.1 in
    let caught = caught_ok c.handled-ended.result c.caught.result c.in_ok-completion.completion (EndsFrom (ways g.O.Outside.goes g.O.Outside.loses) c.args.tree.now c.args.outside.now c.args.place (λ style. handled c.body-item.result (handlers_of c.as_slice.result.now)) c.handled-ended.new.tree c.handled-ended.new.outside)
    c.in_ok-completion.was c.caught.ensures c.handled-ended.ensures.runs in
    let some : option_copied c.in_ok-tried.tried.last ≡ Some c.in-Some.last.now = ap option_copied c.in-Some.is in
    ran_err c.from_residual-in_err-on_ok.result c.in_err-on_ok.field-0.0 p.0 _ _ _ p.1 p.2
    (stays_of c.eval_value.result c.in_err-on_ok.field-0.0 (EndsAt (ways g.O.Outside.goes g.O.Outside.loses) c.handled-ended.new.tree c.handled-ended.new.outside c.args.place (λ style. script c.in-Some.last.now) c.eval_value.new.tree c.eval_value.new.outside)
    c.in_err-on_ok.ensures.same c.eval_value.ensures.runs c.in_err-on_ok.ensures.stays)
    (λ e h q style at.
    let same = c.integers.ensures ∙ at.style_is in
    let after = still_at c.args.tree.now c.handled-ended.new.tree c.args.place q style (here_caught c.handled-ended.result c.caught.result c.in_ok-completion.completion c.args.tree.now c.handled-ended.new.tree c.args.place c.in_ok-completion.was c.caught.ensures c.handled-ended.ensures.here) at in
    Choosing.try_begins style c.args.args.now (take (length c.args.args.now - 1) (drop 1 c.args.args.now)) c.body-item.result (tried_seen c.in_ok-tried.tried) (split_first c.args.args.now c.body-item.result c.in-len1-up.len_at_least c.body-item.is) (ap (λ (s : Integers). tried_of s (take (length c.args.args.now - 1) (drop 1 c.args.args.now))) (sym same) ∙ c.in_ok-tried.ensures)
    (Choosing.finish_stays style c.body-item.result (handlers_of c.in_ok-tried.tried.handlers.items) (option_copied c.in_ok-tried.tried.last) c.in-Some.last.now (completion_of c.in_ok-completion.completion) e some h.1 (at_prog (ap (λ (hs : List TriedHandler). handled c.body-item.result (handlers_of hs)) (sym c.as_slice.ensures.value)) (caught q style at))
    (h.0 q style (record { names = after.names; style_is = after.style_is }))))

pub trying::try_script-returns-in_err-on_ok-clause-keeps : goal.trying::try_script-returns-in_err-on_ok-clause-keeps
trying::try_script-returns-in_err-on_ok-clause-keeps g t c =
    keeps-trans c.handled-ended.ensures.keeps c.eval_value.ensures.keeps

pub trying::try_script-returns-clause-runs : goal.trying::try_script-returns-clause-runs
trying::try_script-returns-clause-runs g t c =
    let caught = caught_ok c.handled-ended.result c.caught.result c.in_ok-completion.completion (EndsFrom (ways g.O.Outside.goes g.O.Outside.loses) c.args.tree.now c.args.outside.now c.args.place (λ style. handled c.body-item.result (handlers_of c.as_slice.result.now)) c.handled-ended.new.tree c.handled-ended.new.outside)
    c.in_ok-completion.was c.caught.ensures c.handled-ended.ensures.runs in
    let some : option_copied c.in_ok-tried.tried.last ≡ Some c.in-Some.last.now = ap option_copied c.in-Some.is in
    let x = ran_text c.eval_value.result c.in_ok-on_ok.field-0 (EndsAt (ways g.O.Outside.goes g.O.Outside.loses) c.handled-ended.new.tree c.handled-ended.new.outside c.args.place (λ style. script c.in-Some.last.now) c.eval_value.new.tree c.eval_value.new.outside) c.in_ok-on_ok.ensures.text c.eval_value.ensures.runs in
    ran c.released.result (λ e. e ≡ Completed (completion_of c.in_ok-completion.completion))
    (EndsFrom (ways g.O.Outside.goes g.O.Outside.loses) c.args.tree.now c.args.outside.now c.args.place (λ style. try_script style c.args.args.now) c.eval_value.new.tree c.eval_value.new.outside)
    (λ e h q style at.
    let same = c.integers.ensures ∙ at.style_is in
    let after = still_at c.args.tree.now c.handled-ended.new.tree c.args.place q style (here_caught c.handled-ended.result c.caught.result c.in_ok-completion.completion c.args.tree.now c.handled-ended.new.tree c.args.place c.in_ok-completion.was c.caught.ensures c.handled-ended.ensures.here) at in
    Choosing.try_begins style c.args.args.now (take (length c.args.args.now - 1) (drop 1 c.args.args.now)) c.body-item.result (tried_seen c.in_ok-tried.tried) (split_first c.args.args.now c.body-item.result c.in-len1-up.len_at_least c.body-item.is) (ap (λ (s : Integers). tried_of s (take (length c.args.args.now - 1) (drop 1 c.args.args.now))) (sym same) ∙ c.in_ok-tried.ensures)
    (Choosing.finish_goes style c.body-item.result (handlers_of c.in_ok-tried.tried.handlers.items) (option_copied c.in_ok-tried.tried.last) c.in-Some.last.now (completion_of c.in_ok-completion.completion) x.0 c.in_ok-on_ok.field-0 some x.2 x.3 (at_prog (ap (λ (hs : List TriedHandler). handled c.body-item.result (handlers_of hs)) (sym c.as_slice.ensures.value)) (caught q style at))
    (x.1 q style (record { names = after.names; style_is = after.style_is })) (at_reply h completed)))
    (λ q style at.
    let same = c.integers.ensures ∙ at.style_is in
    let after = still_at c.args.tree.now c.handled-ended.new.tree c.args.place q style (here_caught c.handled-ended.result c.caught.result c.in_ok-completion.completion c.args.tree.now c.handled-ended.new.tree c.args.place c.in_ok-completion.was c.caught.ensures c.handled-ended.ensures.here) at in
    Choosing.try_begins style c.args.args.now (take (length c.args.args.now - 1) (drop 1 c.args.args.now)) c.body-item.result (tried_seen c.in_ok-tried.tried) (split_first c.args.args.now c.body-item.result c.in-len1-up.len_at_least c.body-item.is) (ap (λ (s : Integers). tried_of s (take (length c.args.args.now - 1) (drop 1 c.args.args.now))) (sym same) ∙ c.in_ok-tried.ensures)
    (Choosing.finish_goes style c.body-item.result (handlers_of c.in_ok-tried.tried.handlers.items) (option_copied c.in_ok-tried.tried.last) c.in-Some.last.now (completion_of c.in_ok-completion.completion) x.0 c.in_ok-on_ok.field-0 some x.2 x.3 (at_prog (ap (λ (hs : List TriedHandler). handled c.body-item.result (handlers_of hs)) (sym c.as_slice.ensures.value)) (caught q style at))
    (x.1 q style (record { names = after.names; style_is = after.style_is })) stopped))
    c.released.ensures

pub trying::try_script-returns-clause-keeps : goal.trying::try_script-returns-clause-keeps
trying::try_script-returns-clause-keeps g t c =
    keeps-trans c.handled-ended.ensures.keeps c.eval_value.ensures.keeps

-- # What reaches the host

pub hosting::put_line-returns-in-Ok-clause-runs : goal.hosting::put_line-returns-in-Ok-clause-runs
hosting::put_line-returns-in-Ok-clause-runs g t c =
    let line : c.append.new.self ≡ c.args.text.now ++ hosting.newline = search rules in
    let short : fits (c.args.text.now ++ hosting.newline) ≡ true = search rules in
    IfRan-more c.write.result (EndsFrom (ways g.O.Outside.goes g.O.Outside.loses) c.args.tree.now c.args.outside.now c.args.place (λ style. hosting.writes c.args.channel.now c.append.new.self) c.write.new.tree c.write.new.outside)
    (EndsFrom (ways g.O.Outside.goes g.O.Outside.loses) c.args.tree.now c.args.outside.now c.args.place (λ style. hosting.puts_line c.args.channel.now c.args.text.now) c.write.new.tree c.write.new.outside)
    (λ e h q style at. grows (c.args.text.now ++ hosting.newline) (hosting.writes c.args.channel.now) short (at_prog (ap (hosting.writes c.args.channel.now) (sym line)) (h q style at))) c.write.ensures.runs

pub hosting::put_line-returns-in-Err-TooLong-clause-runs : goal.hosting::put_line-returns-in-Err-TooLong-clause-runs
hosting::put_line-returns-in-Err-TooLong-clause-runs g t c =
    let same : c.in_ok-line.line ≡ c.args.text.now = search rules in
    let long = past_long (c.args.text.now ++ hosting.newline) (subst (λ (x : Text). IsPast (x ++ hosting.newline)) same (c.in-Err-TooLong.ensures.refused.0 (ap (λ x. Err x) c.in-Err-TooLong.field-0-is))) in
    breaks c.too_long.result _ _ (λ e h q style at. outgrows (c.args.text.now ++ hosting.newline) (hosting.writes c.args.channel.now) long h) (λ q style at. stopped) c.too_long.ensures

pub hosting::put_line-returns-clause-runs : goal.hosting::put_line-returns-clause-runs
hosting::put_line-returns-clause-runs g t c = λ q style at. stopped

pub hosting::put_line-returns-in_err-line-clause-runs : goal.hosting::put_line-returns-in_err-line-clause-runs
hosting::put_line-returns-in_err-line-clause-runs g t c =
    let p = err_from_is_err_and c.from_residual.result c.from_residual.ensures.1 in
    memory_err c.from_residual.result p.0 _ _ p.1 p.2 (λ q style at. stopped)

pub hosting::puts-returns-in_err-stdout-in-len1-clause-runs : goal.hosting::puts-returns-in_err-stdout-in-len1-clause-runs
hosting::puts-returns-in_err-stdout-in-len1-clause-runs g t c =
    let p = err_from_is_err_and c.from_residual.result c.from_residual.ensures.1 in
    memory_err c.from_residual.result p.0 _ _ p.1 p.2 (λ q style at. stopped)

pub hosting::puts-returns-in_err-word-in-len2-clause-runs : goal.hosting::puts-returns-in_err-word-in-len2-clause-runs
hosting::puts-returns-in_err-word-in-len2-clause-runs g t c =
    let p = err_from_is_err_and c.from_residual-in_err-word-in-len2.result c.from_residual-in_err-word-in-len2.ensures.1 in
    memory_err c.from_residual-in_err-word-in-len2.result p.0 _ _ p.1 p.2 (λ q style at. stopped)

pub hosting::puts-returns-in_err-stdout-in-len2-clause-runs : goal.hosting::puts-returns-in_err-stdout-in-len2-clause-runs
hosting::puts-returns-in_err-stdout-in-len2-clause-runs g t c =
    let p = err_from_is_err_and c.from_residual-in_err-stdout-in-len2.result c.from_residual-in_err-stdout-in-len2.ensures.1 in
    memory_err c.from_residual-in_err-stdout-in-len2.result p.0 _ _ p.1 p.2 (λ q style at. stopped)

pub hosting::puts-returns-in_err-text-in-len3-clause-runs : goal.hosting::puts-returns-in_err-text-in-len3-clause-runs
hosting::puts-returns-in_err-text-in-len3-clause-runs g t c =
    let p = err_from_is_err_and c.from_residual-in_err-text-in-len3.result c.from_residual-in_err-text-in-len3.ensures.1 in
    memory_err c.from_residual-in_err-text-in-len3.result p.0 _ _ p.1 p.2 (λ q style at. stopped)

pub hosting::puts-returns-in_err-text-in-len3-2-clause-runs : goal.hosting::puts-returns-in_err-text-in-len3-2-clause-runs
hosting::puts-returns-in_err-text-in-len3-2-clause-runs g t c =
    let p = err_from_is_err_and c.from_residual-in_err-text-in-len3-2.result c.from_residual-in_err-text-in-len3-2.ensures.1 in
    memory_err c.from_residual-in_err-text-in-len3-2.result p.0 _ _ p.1 p.2 (λ q style at. stopped)

pub hosting::puts-returns-then-eq-clause-runs : goal.hosting::puts-returns-then-eq-clause-runs
hosting::puts-returns-then-eq-clause-runs g t c =
    let is = two_items c.args.args.now c.word-item.result c.text-item-then-args-lt3.result c.in-len2.len_at_least c.in-len2.len_below c.word-item.is c.text-item-then-args-lt3.is in
    let yes : bytes_eq c.word-item.result (codes "-nonewline") ≡ true = search rules in
    IfRan-more c.write.result (EndsFrom (ways g.O.Outside.goes g.O.Outside.loses) c.args.tree.now c.args.outside.now c.args.place (λ style. hosting.writes c.in_ok-stdout-in-len2.field-0 c.text-item-then-args-lt3.result) c.write.new.tree c.write.new.outside)
    (EndsFrom (ways g.O.Outside.goes g.O.Outside.loses) c.args.tree.now c.args.outside.now c.args.place (λ style. hosting.puts c.args.args.now) c.write.new.tree c.write.new.outside)
    (λ e h q style at. at_prog (ap hosting.puts is ∙ ap (λ b. either b (hosting.writes hosting.stdout c.text-item-then-args-lt3.result) (hosting.puts_line c.word-item.result c.text-item-then-args-lt3.result)) yes
    ∙ ap (λ (x : Text). hosting.writes x c.text-item-then-args-lt3.result) (sym c.in_ok-stdout-in-len2.ensures)) (h q style at)) c.write.ensures.runs

pub hosting::puts-returns-then-eq-2-clause-runs : goal.hosting::puts-returns-then-eq-2-clause-runs
hosting::puts-returns-then-eq-2-clause-runs g t c =
    let is = three_items c.args.args.now c.word-item-then-args-lt4.result c.channel-item.result c.text-item-then-args-lt4.result c.in-len3.len_at_least c.in-len3.len_below c.word-item-then-args-lt4.is c.channel-item.is c.text-item-then-args-lt4.is in
    let yes : bytes_eq c.word-item-then-args-lt4.result (codes "-nonewline") ≡ true = search rules in
    IfRan-more c.write-then-eq-2.result (EndsFrom (ways g.O.Outside.goes g.O.Outside.loses) c.args.tree.now c.args.outside.now c.args.place (λ style. hosting.writes c.in_ok-text-in-len3-2.field-0 c.text-item-then-args-lt4.result) c.write-then-eq-2.new.tree c.write-then-eq-2.new.outside)
    (EndsFrom (ways g.O.Outside.goes g.O.Outside.loses) c.args.tree.now c.args.outside.now c.args.place (λ style. hosting.puts c.args.args.now) c.write-then-eq-2.new.tree c.write-then-eq-2.new.outside)
    (λ e h q style at. at_prog (ap hosting.puts is ∙ ap (λ b. either b (hosting.writes c.channel-item.result c.text-item-then-args-lt4.result) hosting.puts_form) yes
    ∙ ap (λ (x : Text). hosting.writes x c.text-item-then-args-lt4.result) (sym c.in_ok-text-in-len3-2.ensures)) (h q style at)) c.write-then-eq-2.ensures.runs

pub hosting::puts-returns-in_ok-stdout-in-len1-clause-runs : goal.hosting::puts-returns-in_ok-stdout-in-len1-clause-runs
hosting::puts-returns-in_ok-stdout-in-len1-clause-runs g t c =
    let is = one_item c.args.args.now c.text-item.result c.in-len1.len_at_least c.in-len1.len_below c.text-item.is in
    IfRan-more c.put_line.result (EndsFrom (ways g.O.Outside.goes g.O.Outside.loses) c.args.tree.now c.args.outside.now c.args.place (λ style. hosting.puts_line c.in_ok-stdout-in-len1.field-0 c.text-item.result) c.put_line.new.tree c.put_line.new.outside)
    (EndsFrom (ways g.O.Outside.goes g.O.Outside.loses) c.args.tree.now c.args.outside.now c.args.place (λ style. hosting.puts c.args.args.now) c.put_line.new.tree c.put_line.new.outside)
    (λ e h q style at. at_prog (ap hosting.puts is ∙ ap (λ (x : Text). hosting.puts_line x c.text-item.result) (sym c.in_ok-stdout-in-len1.ensures)) (h q style at)) c.put_line.ensures.runs

pub hosting::puts-returns-else-eq-clause-runs : goal.hosting::puts-returns-else-eq-clause-runs
hosting::puts-returns-else-eq-clause-runs g t c =
    let is = two_items c.args.args.now c.word-item.result c.text-item-then-args-lt3.result c.in-len2.len_at_least c.in-len2.len_below c.word-item.is c.text-item-then-args-lt3.is in
    let no : bytes_eq c.word-item.result (codes "-nonewline") ≡ false = search rules in
    IfRan-more c.put_line-in-len2.result (EndsFrom (ways g.O.Outside.goes g.O.Outside.loses) c.args.tree.now c.args.outside.now c.args.place (λ style. hosting.puts_line c.in_ok-word-in-len2.word c.text-item-then-args-lt3.result) c.put_line-in-len2.new.tree c.put_line-in-len2.new.outside)
    (EndsFrom (ways g.O.Outside.goes g.O.Outside.loses) c.args.tree.now c.args.outside.now c.args.place (λ style. hosting.puts c.args.args.now) c.put_line-in-len2.new.tree c.put_line-in-len2.new.outside)
    (λ e h q style at. at_prog (ap hosting.puts is ∙ ap (λ b. either b (hosting.writes hosting.stdout c.text-item-then-args-lt3.result) (hosting.puts_line c.word-item.result c.text-item-then-args-lt3.result)) no
    ∙ ap (λ (x : Text). hosting.puts_line x c.text-item-then-args-lt3.result) (sym c.in_ok-word-in-len2.ensures)) (h q style at)) c.put_line-in-len2.ensures.runs

pub hosting::puts-returns-else-eq-2-clause-runs : goal.hosting::puts-returns-else-eq-2-clause-runs
hosting::puts-returns-else-eq-2-clause-runs g t c =
    let is = three_items c.args.args.now c.word-item-then-args-lt4.result c.channel-item.result c.text-item-then-args-lt4.result c.in-len3.len_at_least c.in-len3.len_below c.word-item-then-args-lt4.is c.channel-item.is c.text-item-then-args-lt4.is in
    let no : bytes_eq c.word-item-then-args-lt4.result (codes "-nonewline") ≡ false = search rules in
    breaks c.wrong_args.result _ _ (λ e h q style at.
    at_prog (ap hosting.puts is ∙ ap (λ b. either b (hosting.writes c.channel-item.result c.text-item-then-args-lt4.result) hosting.puts_form) no) (at_reply h completed)) (λ q style at. stopped) c.wrong_args.ensures

pub hosting::puts-returns-in_default-clause-runs : goal.hosting::puts-returns-in_default-clause-runs
hosting::puts-returns-in_default-clause-runs g t c =
    let other : hosting.puts c.args.args.now ≡ hosting.puts_form = elim c.in_default.branch [
      | hosting::puts-in_default-via-then-args-lt1 w ↦ not_put c.args.args.now (inl (search rules))
      | hosting::puts-in_default-via-else-args-lt1+else-args-lt2+else-args-lt3+else-args-lt4 w ↦ not_put c.args.args.now (inr (search rules))
    ] in
    breaks c.wrong_args-in_default.result _ _ (λ e h q style at. at_prog other (at_reply h completed)) (λ q style at. stopped) c.wrong_args-in_default.ensures

pub hosting::write-returns-in_err-clone-clause-runs : goal.hosting::write-returns-in_err-clone-clause-runs
hosting::write-returns-in_err-clone-clause-runs g t c =
    let p = err_from_is_err_and c.from_residual.result c.from_residual.ensures.1 in
    memory_err c.from_residual.result p.0 _ _ p.1 p.2 (λ q style at. stopped)

pub hosting::write-returns-in_err-text-clause-runs : goal.hosting::write-returns-in_err-text-clause-runs
hosting::write-returns-in_err-text-clause-runs g t c =
    let p = err_from_is_err_and c.from_residual-in_err-text.result c.from_residual-in_err-text.ensures.1 in
    memory_err c.from_residual-in_err-text.result p.0 _ _ p.1 p.2 (λ q style at. stopped)

pub hosting::write-returns-clause-runs : goal.hosting::write-returns-clause-runs
hosting::write-returns-clause-runs g t c =
    let channel : c.in_ok-clone.field-0 ≡ c.args.channel.now = search rules in
    writes_as (ways g.O.Outside.goes g.O.Outside.loses) c.args.tree.now c.make_call.new.tree c.args.outside.now c.make_call.new.outside c.args.place c.args.channel.now c.args.text.now c.in_ok-clone.field-0 c.in_ok-text.field-0 c.make_call.result
    channel c.in_ok-text.ensures c.make_call.ensures.runs

-- ## Requests

pub hosting::ask-returns-in_err-notify-clause-runs : goal.hosting::ask-returns-in_err-notify-clause-runs
hosting::ask-returns-in_err-notify-clause-runs g t c =
    let p = err_from_is_err_and c.from_residual.result c.from_residual.ensures.1 in
    memory_err c.from_residual.result p.0 _ _ p.1 p.2 (λ q style at k. stopped_by (lost_once c.notify.ensures.lost))

pub hosting::ask-returns-in_err-reply-clause-runs : goal.hosting::ask-returns-in_err-reply-clause-runs
hosting::ask-returns-in_err-reply-clause-runs g t c =
    let p = err_from_is_err_and c.from_residual-in_err-reply.result c.from_residual-in_err-reply.ensures.1 in
    asks_over (ways g.O.Outside.goes g.O.Outside.loses) c.args.tree.now c.wait.new.tree c.args.outside.now c.notify.new.self c.wait.new.outside c.args.place (request_of c.args.request) (λ q at. c.in_ok-notify.ensures.told q at refl)
    c.from_residual-in_err-reply.result c.in_err-reply.field-0.0 p.0 p.1 p.2 c.in_err-reply.ensures.runs

pub hosting::ask-returns-clause-runs : goal.hosting::ask-returns-clause-runs
hosting::ask-returns-clause-runs g t c =
    asks_heard (ways g.O.Outside.goes g.O.Outside.loses) c.args.tree.now c.wait.new.tree c.args.outside.now c.notify.new.self c.wait.new.outside c.args.place (request_of c.args.request) (λ q at. c.in_ok-notify.ensures.told q at refl) (reply_of c.in-Heard.reply)
    (subst (SaysOn (ways g.O.Outside.goes g.O.Outside.loses) c.args.tree.now c.notify.new.self c.args.place None (AskHost (request_of c.args.request)) c.wait.new.tree c.wait.new.outside) c.in-Heard.is c.in_ok-reply.ensures.runs)

pub hosting::make_call-returns-in_err-request-clause-runs : goal.hosting::make_call-returns-in_err-request-clause-runs
hosting::make_call-returns-in_err-request-clause-runs g t c =
    let p = err_from_is_err_and c.from_residual.result c.from_residual.ensures.1 in
    memory_err c.from_residual.result p.0 _ _ p.1 p.2 (λ q style at. stopped)

pub hosting::make_call-returns-in_err-reply-clause-runs : goal.hosting::make_call-returns-in_err-reply-clause-runs
hosting::make_call-returns-in_err-reply-clause-runs g t c =
    let p = err_from_is_err_and c.from_residual-in_err-reply.result c.from_residual-in_err-reply.ensures.1 in
    call_over (ways g.O.Outside.goes g.O.Outside.loses) c.args.tree.now c.ask.new.tree c.ask.new.tree c.args.outside.now c.ask.new.outside c.args.place c.args.call.now (request_of c.in_ok-request.request) c.from_residual-in_err-reply.result c.in_err-reply.field-0.0 p.0
    c.in_ok-request.ensures p.1 p.2 c.in_err-reply.ensures.runs

pub hosting::make_call-returns-clause-runs : goal.hosting::make_call-returns-clause-runs
hosting::make_call-returns-clause-runs g t c =
    call_answered (ways g.O.Outside.goes g.O.Outside.loses) c.args.tree.now c.ask.new.tree c.answer.new.tree c.args.outside.now c.ask.new.outside c.args.place c.args.call.now (request_of c.in_ok-request.request) (reply_of c.in_ok-reply.reply) c.answer.result
    c.in_ok-request.ensures c.in_ok-reply.ensures.runs c.in_ok-reply.ensures.here c.answer.ensures.acts

pub hosting::make_call-answer-requires : goal.hosting::make_call-answer-requires
hosting::make_call-answer-requires g t c = let r = still_running c.args.tree.now c.ask.new.tree c.args.place c.in_ok-reply.ensures.here c.requires in (r.0, r.1)

pub hosting::make_call-returns-clause-keeps : goal.hosting::make_call-returns-clause-keeps
hosting::make_call-returns-clause-keeps g t c = keeps-trans c.ask.ensures.keeps (level_keeps _ c.answer.ensures.level)

pub hosting::call_host-returns-in_err-call-clause-runs : goal.hosting::call_host-returns-in_err-call-clause-runs
hosting::call_host-returns-in_err-call-clause-runs g t c =
    let p = err_from_is_err_and c.from_residual.result c.from_residual.ensures.1 in
    fails_err c.from_residual.result c.in_err-call.field-0.0 p.0 _ (IsOver (host_program c.args.command c.args.args.now)) _ p.1 p.2 c.in_err-call.ensures
    (λ e h q style at. does_proceeds (host_program c.args.command c.args.args.now) c.args.outside.now (h (tree_of c.args.tree.now) q)) (λ q style at. stopped)

pub hosting::call_host-returns-clause-runs : goal.hosting::call_host-returns-clause-runs
hosting::call_host-returns-clause-runs g t c =
    IfRan-more c.make_call.result (EndsFrom (ways g.O.Outside.goes g.O.Outside.loses) c.args.tree.now c.args.outside.now c.args.place (λ style. meaning_of c.in_ok-call.call) c.make_call.new.tree c.make_call.new.outside)
    (EndsFrom (ways g.O.Outside.goes g.O.Outside.loses) c.args.tree.now c.args.outside.now c.args.place (λ style. host_program c.args.command c.args.args.now) c.make_call.new.tree c.make_call.new.outside)
    (λ e h q style at. at_prog c.in_ok-call.ensures (h q style at)) c.make_call.ensures.runs

-- ## The script of a file

pub sourcing::source-returns-in_err-text-in-len1-clause-runs : goal.sourcing::source-returns-in_err-text-in-len1-clause-runs
sourcing::source-returns-in_err-text-in-len1-clause-runs g t c =
    let p = err_from_is_err_and c.from_residual.result c.from_residual.ensures.1 in
    memory_err c.from_residual.result p.0 _ _ p.1 p.2 (λ q style at. stopped)

pub sourcing::source-returns-in_ok-text-in-len1-clause-runs : goal.sourcing::source-returns-in_ok-text-in-len1-clause-runs
sourcing::source-returns-in_ok-text-in-len1-clause-runs g t c =
    let is = one_item c.args.args.now c.file-item.result c.in-len1.len_at_least c.in-len1.len_below c.file-item.is in
    IfRan-more c.source_file.result (EndsFrom (ways g.O.Outside.goes g.O.Outside.loses) c.args.tree.now c.args.outside.now c.args.place (λ style. sourcing.sources c.in_ok-text-in-len1.field-0) c.source_file.new.tree c.source_file.new.outside)
    (EndsFrom (ways g.O.Outside.goes g.O.Outside.loses) c.args.tree.now c.args.outside.now c.args.place (λ style. sourcing.source c.args.args.now) c.source_file.new.tree c.source_file.new.outside)
    (λ e h q style at. at_prog (ap sourcing.source is ∙ ap sourcing.sources (sym c.in_ok-text-in-len1.ensures)) (h q style at)) c.source_file.ensures.runs

pub sourcing::source-returns-in_default-clause-runs : goal.sourcing::source-returns-in_default-clause-runs
sourcing::source-returns-in_default-clause-runs g t c =
    let other : sourcing.source c.args.args.now ≡ fails (wrong_args (codes "source name")) = elim c.in_default.branch [
      | sourcing::source-in_default-via-then-args-lt1 w ↦ not_sourced c.args.args.now (inl (search rules))
      | sourcing::source-in_default-via-else-args-lt1+else-args-lt2 w ↦ not_sourced c.args.args.now (inr (search rules))
    ] in
    breaks c.wrong_args.result _ _ (λ e h q style at. at_prog other (at_reply h completed)) (λ q style at. stopped) c.wrong_args.ensures

pub sourcing::source_file-returns-in_err-script-clause-runs : goal.sourcing::source_file-returns-in_err-script-clause-runs
sourcing::source_file-returns-in_err-script-clause-runs g t c =
    let p = err_from_is_err_and c.from_residual.result c.from_residual.ensures.1 in
    ran_err c.from_residual.result c.in_err-script.field-0.0 p.0 _ _ _ p.1 p.2 c.in_err-script.ensures.runs (λ e h. h)

pub sourcing::source_file-eval_file-requires : goal.sourcing::source_file-eval_file-requires
sourcing::source_file-eval_file-requires g t c κs within = (search rules, (search rules, still_running c.args.tree.now c.read_file.new.tree c.args.place c.in_ok-script.ensures.here c.requires))

pub sourcing::source_file-returns-clause-runs : goal.sourcing::source_file-returns-clause-runs
sourcing::source_file-returns-clause-runs g t c =
    script_goes (ways g.O.Outside.goes g.O.Outside.loses) c.args.tree.now c.read_file.new.tree c.eval_file.new.tree c.args.outside.now c.read_file.new.outside c.eval_file.new.outside c.args.place (sourcing.sources c.args.file.now) c.in_ok-script.script c.eval_file.result
    c.in_ok-script.ensures.runs c.in_ok-script.ensures.here c.eval_file.ensures.runs

pub sourcing::source_file-returns-clause-keeps : goal.sourcing::source_file-returns-clause-keeps
sourcing::source_file-returns-clause-keeps g t c = keeps-trans c.read_file.ensures.keeps c.eval_file.ensures.keeps

pub sourcing::read_file-returns-in_err-clone-clause-runs : goal.sourcing::read_file-returns-in_err-clone-clause-runs
sourcing::read_file-returns-in_err-clone-clause-runs g t c =
    let p = err_from_is_err_and c.from_residual.result c.from_residual.ensures.1 in
    memory_err c.from_residual.result p.0 _ _ p.1 p.2 (λ q style at. stopped)

pub sourcing::read_file-returns-in_err-reply-clause-runs : goal.sourcing::read_file-returns-in_err-reply-clause-runs
sourcing::read_file-returns-in_err-reply-clause-runs g t c =
    let file : c.in_ok-clone.field-0 ≡ c.args.file.now = search rules in
    let p = err_from_is_err_and c.from_residual-in_err-reply.result c.from_residual-in_err-reply.ensures.1 in
    reads_unheard (ways g.O.Outside.goes g.O.Outside.loses) c.args.tree.now c.ask.new.tree c.ask.new.tree c.args.outside.now c.ask.new.outside c.ask.new.outside c.args.place (sourcing.sources c.args.file.now) (asking.Request.Open c.in_ok-clone.field-0 (codes "r")) (sourcing.script_opened c.args.file.now)
    c.from_residual-in_err-reply.result c.in_err-reply.field-0.0 p.0 (ap (λ (x : Text). hosting.asks (asking.Request.Open x (codes "r")) (sourcing.script_opened c.args.file.now)) (sym file)) p.1 p.2 c.in_err-reply.ensures.runs

pub sourcing::read_file-returns-in_err-channel-clause-runs : goal.sourcing::read_file-returns-in_err-channel-clause-runs
sourcing::read_file-returns-in_err-channel-clause-runs g t c =
    let file : c.in_ok-clone.field-0 ≡ c.args.file.now = search rules in
    let p = err_from_is_err_and c.from_residual-in_err-channel.result c.from_residual-in_err-channel.ensures.1 in
    reads_over (ways g.O.Outside.goes g.O.Outside.loses) c.args.tree.now c.ask.new.tree c.ask.new.tree c.args.outside.now c.ask.new.outside c.ask.new.outside c.args.place (sourcing.sources c.args.file.now) (sourcing.script_opened c.args.file.now (reply_of c.in_ok-reply.reply))
    c.from_residual-in_err-channel.result c.in_err-channel.field-0.0 p.0
    (reads_heard (ways g.O.Outside.goes g.O.Outside.loses) c.args.tree.now c.ask.new.tree c.ask.new.tree c.args.outside.now c.ask.new.outside c.ask.new.outside c.args.place (sourcing.sources c.args.file.now) (asking.Request.Open c.in_ok-clone.field-0 (codes "r")) (sourcing.script_opened c.args.file.now) (reply_of c.in_ok-reply.reply)
    (ap (λ (x : Text). hosting.asks (asking.Request.Open x (codes "r")) (sourcing.script_opened c.args.file.now)) (sym file)) c.in_ok-reply.ensures.runs)
    p.1 p.2 c.in_err-channel.ensures

pub sourcing::read_file-read_channel-requires : goal.sourcing::read_file-read_channel-requires
sourcing::read_file-read_channel-requires g t c κs within = (search rules, (search rules, still_running c.args.tree.now c.ask.new.tree c.args.place c.in_ok-reply.ensures.here c.requires))

pub sourcing::read_file-returns-clause-runs : goal.sourcing::read_file-returns-clause-runs
sourcing::read_file-returns-clause-runs g t c =
    let file : c.in_ok-clone.field-0 ≡ c.args.file.now = search rules in
    reads_after (ways g.O.Outside.goes g.O.Outside.loses) c.args.tree.now c.ask.new.tree c.read_channel.new.tree c.args.outside.now c.ask.new.outside c.read_channel.new.outside c.args.place (sourcing.sources c.args.file.now) (sourcing.reads_script c.args.file.now c.in_ok-channel.channel) c.read_channel.result
    (λ q style at V w e h. reads_heard (ways g.O.Outside.goes g.O.Outside.loses) c.args.tree.now c.ask.new.tree c.ask.new.tree c.args.outside.now c.ask.new.outside c.ask.new.outside c.args.place (sourcing.sources c.args.file.now) (asking.Request.Open c.in_ok-clone.field-0 (codes "r")) (sourcing.script_opened c.args.file.now) (reply_of c.in_ok-reply.reply)
    (ap (λ (x : Text). hosting.asks (asking.Request.Open x (codes "r")) (sourcing.script_opened c.args.file.now)) (sym file)) c.in_ok-reply.ensures.runs q style at V w e (at_prog c.in_ok-channel.ensures h))
    c.in_ok-reply.ensures.here c.read_channel.ensures.runs

pub sourcing::read_file-returns-clause-keeps : goal.sourcing::read_file-returns-clause-keeps
sourcing::read_file-returns-clause-keeps g t c = keeps-trans c.ask.ensures.keeps c.read_channel.ensures.keeps

pub sourcing::read_channel-returns-in_err-clone-clause-runs : goal.sourcing::read_channel-returns-in_err-clone-clause-runs
sourcing::read_channel-returns-in_err-clone-clause-runs g t c =
    let p = err_from_is_err_and c.from_residual.result c.from_residual.ensures.1 in
    memory_err c.from_residual.result p.0 _ _ p.1 p.2 (λ q style at. stopped)

pub sourcing::read_channel-returns-in_err-clone-2-clause-runs : goal.sourcing::read_channel-returns-in_err-clone-2-clause-runs
sourcing::read_channel-returns-in_err-clone-2-clause-runs g t c =
    let p = err_from_is_err_and c.from_residual-in_err-clone-2.result c.from_residual-in_err-clone-2.ensures.1 in
    memory_err c.from_residual-in_err-clone-2.result p.0 _ _ p.1 p.2 (λ q style at. stopped)

pub sourcing::read_channel-returns-in_err-read-clause-runs : goal.sourcing::read_channel-returns-in_err-read-clause-runs
sourcing::read_channel-returns-in_err-read-clause-runs g t c =
    let channel : c.in_ok-clone.field-0 ≡ c.args.channel.now = search rules in
    let p = err_from_is_err_and c.from_residual-in_err-read.result c.from_residual-in_err-read.ensures.1 in
    reads_unheard (ways g.O.Outside.goes g.O.Outside.loses) c.args.tree.now c.ask.new.tree c.ask.new.tree c.args.outside.now c.ask.new.outside c.ask.new.outside c.args.place (sourcing.reads_script c.args.file.now c.args.channel.now) (asking.Request.ReadAll c.in_ok-clone.field-0)
    (λ read. hosting.asks (asking.Request.Close c.args.channel.now) (sourcing.closed c.args.file.now read))
    c.from_residual-in_err-read.result c.in_err-read.field-0.0 p.0 (ap (λ (x : Text). hosting.asks (asking.Request.ReadAll x) (λ read. hosting.asks (asking.Request.Close c.args.channel.now) (sourcing.closed c.args.file.now read))) (sym channel)) p.1 p.2 c.in_err-read.ensures.runs

pub sourcing::read_channel-ask-requires-2 : goal.sourcing::read_channel-ask-requires-2
sourcing::read_channel-ask-requires-2 g t c κs within = (search rules, (search rules, still_running c.args.tree.now c.ask.new.tree c.args.place c.in_ok-read.ensures.here c.requires))

pub sourcing::read_channel-returns-in_err-closed-clause-runs : goal.sourcing::read_channel-returns-in_err-closed-clause-runs
sourcing::read_channel-returns-in_err-closed-clause-runs g t c =
    let channel : c.in_ok-clone.field-0 ≡ c.args.channel.now = search rules in
    let closes : c.in_ok-clone-2.field-0 ≡ c.args.channel.now = search rules in
    let p = err_from_is_err_and c.from_residual-in_err-closed.result c.from_residual-in_err-closed.ensures.1 in
    heard_once (ways g.O.Outside.goes g.O.Outside.loses) c.args.tree.now c.ask.new.tree c.ask-2.new.tree c.args.outside.now c.ask.new.outside c.ask-2.new.outside c.args.place (sourcing.reads_script c.args.file.now c.args.channel.now) (asking.Request.ReadAll c.in_ok-clone.field-0) (asking.Request.Close c.in_ok-clone-2.field-0)
    (sourcing.closed c.args.file.now) (reply_of c.in_ok-read.read) c.from_residual-in_err-closed.result c.in_err-closed.field-0.0 p.0
    (λ i. hosting.asks (asking.Request.ReadAll (sym channel i)) (λ read. hosting.asks (asking.Request.Close (sym closes i)) (sourcing.closed c.args.file.now read)))
    c.in_ok-read.ensures.runs c.in_ok-read.ensures.here p.1 p.2 c.in_err-closed.ensures.runs

pub sourcing::read_channel-returns-in_err-closed-clause-keeps : goal.sourcing::read_channel-returns-in_err-closed-clause-keeps
sourcing::read_channel-returns-in_err-closed-clause-keeps g t c = keeps-trans c.ask.ensures.keeps c.ask-2.ensures.keeps

pub sourcing::read_channel-returns-clause-runs : goal.sourcing::read_channel-returns-clause-runs
sourcing::read_channel-returns-clause-runs g t c =
    let channel : c.in_ok-clone.field-0 ≡ c.args.channel.now = search rules in
    let closes : c.in_ok-clone-2.field-0 ≡ c.args.channel.now = search rules in
    script_is (ways g.O.Outside.goes g.O.Outside.loses) c.args.tree.now c.ask-2.new.tree c.args.outside.now c.ask-2.new.outside c.args.place (sourcing.reads_script c.args.file.now c.args.channel.now) (sourcing.closed c.args.file.now (reply_of c.in_ok-read.read) (reply_of c.in_ok-closed.closed)) c.script_of_file.result
    (heard_twice (ways g.O.Outside.goes g.O.Outside.loses) c.args.tree.now c.ask.new.tree c.ask-2.new.tree c.args.outside.now c.ask.new.outside c.ask-2.new.outside c.args.place (sourcing.reads_script c.args.file.now c.args.channel.now) (asking.Request.ReadAll c.in_ok-clone.field-0) (asking.Request.Close c.in_ok-clone-2.field-0)
    (sourcing.closed c.args.file.now) (reply_of c.in_ok-read.read) (reply_of c.in_ok-closed.closed)
    (λ i. hosting.asks (asking.Request.ReadAll (sym channel i)) (λ read. hosting.asks (asking.Request.Close (sym closes i)) (sourcing.closed c.args.file.now read)))
    c.in_ok-read.ensures.runs c.in_ok-read.ensures.here c.in_ok-closed.ensures.runs) c.script_of_file.ensures

pub sourcing::read_channel-returns-clause-keeps : goal.sourcing::read_channel-returns-clause-keeps
sourcing::read_channel-returns-clause-keeps g t c = keeps-trans c.ask.ensures.keeps c.ask-2.ensures.keeps

pub sourcing::eval_file-returns-clause-runs : goal.sourcing::eval_file-returns-clause-runs
sourcing::eval_file-returns-clause-runs g t c =
    leaves_more c.eval_value-ended.result c.left_file.result
    (EndsAt (ways g.O.Outside.goes g.O.Outside.loses) c.args.tree.now c.args.outside.now c.args.place (λ style. script c.args.script.now) c.eval_value-ended.new.tree c.eval_value-ended.new.outside)
    (EndsFrom (ways g.O.Outside.goes g.O.Outside.loses) c.args.tree.now c.args.outside.now c.args.place (λ style. sourcing.evaluates_file c.args.script.now) c.eval_value-ended.new.tree c.eval_value-ended.new.outside)
    c.eval_value-ended.ensures.runs c.left_file.ensures (λ e f h l q style at. file_evaluates style c.args.script.now e f l (h q style (record { names = at.names; style_is = at.style_is })))

-- # Calls between interpreters

pub crossing::ask_below-unreachable-requires : goal.crossing::ask_below-unreachable-requires
crossing::ask_below-unreachable-requires g t c = never_outside c.args.tree.now c.args.place c.args.path.now (λ p at. c.in-Outside.ensures p at) c.requires.0 c.requires.1

pub crossing::ask_below-returns-in-There-clause-asks : goal.crossing::ask_below-returns-in-There-clause-asks
crossing::ask_below-returns-in-There-clause-asks g t c =
    calls_below (ways g.O.Outside.goes g.O.Outside.loses) c.args.tree.now c.call_there.new.tree c.args.outside.now c.args.place 0 c.args.path.now (whole_entry c.args.entry) c.call_there.result c.call_there.new.outside refl c.call_there.ensures.runs

pub crossing::ask_below-returns-in-Missing-clause-asks : goal.crossing::ask_below-returns-in-Missing-clause-asks
crossing::ask_below-returns-in-Missing-clause-asks g t c =
    asks_nobody (ways g.O.Outside.goes g.O.Outside.loses) c.args.tree.now c.args.outside.now c.find_nobody.new.outside c.args.place c.args.path.now (whole_entry c.args.entry) c.find_nobody.result
    (λ p at. c.in-Missing.ensures p at)
    (lost_so c.no_interpreter-lost.result c.find_nobody.result (λ (e : Reply). e ≡ Completed (failing (no_interpreter []))) c.no_interpreter-lost.ensures c.find_nobody.ensures.told) c.find_nobody.ensures.misses c.find_nobody.ensures.lost

pub crossing::ask_entry-returns-then-is_empty-clause-asks : goal.crossing::ask_entry-returns-then-is_empty-clause-asks
crossing::ask_entry-returns-then-is_empty-clause-asks g t c =
    let zero = zero_is (length c.args.path.now) c.is_empty.result c.is_empty.ensures c.if-is_empty.true in
    asks_here (ways g.O.Outside.goes g.O.Outside.loses) c.args.tree.now c.serve_entry.new.tree c.args.outside.now c.serve_entry.new.outside c.args.place c.args.path.now (whole_entry c.args.entry) c.serve_entry.result
    (no_item c.args.path.now (omega (arith, zero))) c.serve_entry.ensures.runs

pub crossing::ask_entry-returns-clause-asks : goal.crossing::ask_entry-returns-clause-asks
crossing::ask_entry-returns-clause-asks g t c =
    let some = some_is (length c.args.path.now) c.is_empty.result c.is_empty.ensures c.if-is_empty.false in
    asks_another (ways g.O.Outside.goes g.O.Outside.loses) c.args.tree.now c.ask_below.new.tree c.args.outside.now c.ask_below.new.outside c.args.place c.args.path.now (whole_entry c.args.entry) c.ask_below.result some c.ask_below.ensures.asks

pub crossing::call_alias-returns-in_err-entry-clause-runs : goal.crossing::call_alias-returns-in_err-entry-clause-runs
crossing::call_alias-returns-in_err-entry-clause-runs g t c =
    let p = err_from_is_err_and c.from_residual.result c.from_residual.ensures.1 in
    memory_err c.from_residual.result p.0 _ _ p.1 p.2 (λ q style at. stopped)

pub crossing::call_alias-returns-in-There-clause-runs : goal.crossing::call_alias-returns-in-There-clause-runs
crossing::call_alias-returns-in-There-clause-runs g t c =
    let up : c.up-up.result ≡ c.args.alias.now.up = search rules in
    let same = alias_is c.args.alias.now c.args.word.now c.args.args.now c.up-up.result c.down-down.result.now (whole_entry c.in_ok-entry.entry) up c.down-down.ensures
    (c.in_ok-entry.ensures ∙ ap (λ (ws : List (List ℕ)). CallWords (ws ++ c.args.args.now)) c.words.ensures) in
    evaluates_same (ways g.O.Outside.goes g.O.Outside.loses) c.args.tree.now c.call_there.new.tree c.args.outside.now c.call_there.new.outside c.args.place (alias_program c.args.alias.now c.args.word.now c.args.args.now) _ c.call_there.result same
    (calls_end (ways g.O.Outside.goes g.O.Outside.loses) c.args.tree.now c.call_there.new.tree c.args.outside.now c.args.place c.up-up.result c.down-down.result.now (whole_entry c.in_ok-entry.entry) c.call_there.result
    c.call_there.new.outside (failing (lost_alias c.args.word.now)) c.call_there.ensures.runs)

pub crossing::call_alias-returns-in-Missing-clause-runs : goal.crossing::call_alias-returns-in-Missing-clause-runs
crossing::call_alias-returns-in-Missing-clause-runs g t c =
    let up : c.up-up.result ≡ c.args.alias.now.up = search rules in
    let same = alias_is c.args.alias.now c.args.word.now c.args.args.now c.up-up.result c.down-down.result.now (whole_entry c.in_ok-entry.entry) up c.down-down.ensures
    (c.in_ok-entry.ensures ∙ ap (λ (ws : List (List ℕ)). CallWords (ws ++ c.args.args.now)) c.words.ensures) in
    evaluates_same (ways g.O.Outside.goes g.O.Outside.loses) c.args.tree.now c.args.tree.now c.args.outside.now c.miss_alias.new.outside c.args.place (alias_program c.args.alias.now c.args.word.now c.args.args.now) _ c.miss_alias.result same
    (calls_nobody (ways g.O.Outside.goes g.O.Outside.loses) c.args.tree.now c.args.outside.now c.miss_alias.new.outside c.args.place c.up-up.result c.down-down.result.now (whole_entry c.in_ok-entry.entry) c.miss_alias.result
    (failing (lost_alias c.args.word.now)) (λ p at. c.in-Missing.ensures p at) c.miss_alias.ensures.told c.miss_alias.ensures.misses c.miss_alias.ensures.lost)

pub crossing::call_alias-returns-in-Outside-clause-runs : goal.crossing::call_alias-returns-in-Outside-clause-runs
crossing::call_alias-returns-in-Outside-clause-runs g t c =
    let up : c.up-up.result ≡ c.args.alias.now.up = search rules in
    let same = alias_is c.args.alias.now c.args.word.now c.args.args.now c.up-up.result c.down-down.result.now (whole_entry c.in_ok-entry.entry) up c.down-down.ensures
    (c.in_ok-entry.ensures ∙ ap (λ (ws : List (List ℕ)). CallWords (ws ++ c.args.args.now)) c.words.ensures) in
    evaluates_same (ways g.O.Outside.goes g.O.Outside.loses) c.args.tree.now c.call_past_top.new.tree c.args.outside.now c.call_past_top.new.outside c.args.place (alias_program c.args.alias.now c.args.word.now c.args.args.now) _ c.call_past_top.result same
    c.call_past_top.ensures.runs

pub crossing::call_past_top-returns-in_err-notify-clause-runs : goal.crossing::call_past_top-returns-in_err-notify-clause-runs
crossing::call_past_top-returns-in_err-notify-clause-runs g t c =
    let p = err_from_is_err_and c.from_residual.result c.from_residual.ensures.1 in
    Awaited.calls_out_lost (ways g.O.Outside.goes g.O.Outside.loses) c.args.tree.now c.args.outside.now c.notify.new.self c.args.caller (Some c.args.up) c.args.down.now (whole_entry c.args.entry) (failing (lost_alias c.args.word.now)) c.from_residual.result p.0 p.1 p.2 (lost_once c.notify.ensures.lost)

pub crossing::call_past_top-returns-in_err-value-clause-runs : goal.crossing::call_past_top-returns-in_err-value-clause-runs
crossing::call_past_top-returns-in_err-value-clause-runs g t c =
    let p = err_from_is_err_and c.from_residual-in_err-value.result c.from_residual-in_err-value.ensures.1 in
    Awaited.calls_out_over (ways g.O.Outside.goes g.O.Outside.loses) c.args.tree.now c.wait.new.tree c.args.outside.now c.notify.new.self c.wait.new.outside c.args.caller (Some c.args.up) c.args.down.now (whole_entry c.args.entry) (failing (lost_alias c.args.word.now))
    (λ q at e. c.in_ok-notify.ensures.told q at e) c.requires.above c.from_residual-in_err-value.result c.in_err-value.field-0.0 p.0 p.1 p.2 c.in_err-value.ensures.runs

pub crossing::call_past_top-returns-in-Completed-clause-runs : goal.crossing::call_past_top-returns-in-Completed-clause-runs
crossing::call_past_top-returns-in-Completed-clause-runs g t c =
    Awaited.calls_out_on (ways g.O.Outside.goes g.O.Outside.loses) c.args.tree.now c.wait.new.tree c.args.outside.now c.notify.new.self c.wait.new.outside c.args.caller (Some c.args.up) c.args.down.now (whole_entry c.args.entry) (failing (lost_alias c.args.word.now))
    (λ q at e. c.in_ok-notify.ensures.told q at e) c.requires.above c.in-Completed.value
    (subst (SaysOn (ways g.O.Outside.goes g.O.Outside.loses) c.args.tree.now c.notify.new.self c.args.caller (Some c.args.up) (whole_entry c.args.entry) c.wait.new.tree c.wait.new.outside) c.in-Completed.is c.in_ok-value.ensures.runs)

pub crossing::call_there-return_to_caller-requires : goal.crossing::call_there-return_to_caller-requires
crossing::call_there-return_to_caller-requires g t c = (c.requires.running.0, depth_of (tree_of c.args.tree.now c.requires.running.0), steady_holds c.args.tree.now c.serve_entry-ended.new.tree c.args.caller c.requires.running.0 c.serve_entry-ended.ensures.keeps.steady c.requires.running.1 c.requires.running.2)

pub crossing::call_there-returns-in_err-notify-clause-runs : goal.crossing::call_there-returns-in_err-notify-clause-runs
crossing::call_there-returns-in_err-notify-clause-runs g t c =
    let p = err_from_is_err_and c.from_residual.result c.from_residual.ensures.1 in
    calls_untold (ways g.O.Outside.goes g.O.Outside.loses) c.args.tree.now c.args.outside.now c.notify.new.self c.args.caller c.args.up c.args.down.now (whole_entry c.args.entry) c.from_residual.result p.0 p.1 p.2 (lost_once c.notify.ensures.lost)

pub crossing::call_there-returns-clause-runs : goal.crossing::call_there-returns-clause-runs
crossing::call_there-returns-clause-runs g t c =
    calls_there (ways g.O.Outside.goes g.O.Outside.loses) c.args.tree.now c.serve_entry-ended.new.tree c.args.outside.now c.args.caller c.args.up c.args.down.now (whole_entry c.args.entry) c.return_to_caller.result
    c.notify.new.self c.serve_entry-ended.new.outside c.return_to_caller.new.outside c.args.target c.serve_entry-ended.result c.requires.leads (λ p a at e. c.in_ok-notify.ensures.told p a at e)
    c.serve_entry-ended.ensures.runs c.return_to_caller.ensures.comes c.return_to_caller.ensures.lost c.serve_entry-ended.ensures.keeps.steady

pub crossing::serve_entry-returns-in-Own-clause-runs : goal.crossing::serve_entry-returns-in-Own-clause-runs
crossing::serve_entry-returns-in-Own-clause-runs g t c =
    evaluates_there (ways g.O.Outside.goes g.O.Outside.loses) c.args.tree.now c.serve.new.tree c.args.outside.now c.serve.new.outside c.args.place (whole_entry c.args.entry) (entry_of c.in-Own.own) c.serve.result (ap whole_entry c.in-Own.is)
    (evaluates_at_proceeds (ways g.O.Outside.goes g.O.Outside.loses) c.args.tree.now c.serve.new.tree c.args.outside.now c.serve.new.outside c.args.place (λ style. serve style (entry_of c.in-Own.own)) c.serve.result c.serve.ensures.runs c.serve.ensures.keeps.lost)

pub crossing::serve_entry-returns-clause-runs : goal.crossing::serve_entry-returns-clause-runs
crossing::serve_entry-returns-clause-runs g t c =
    breaks c.denied.result (λ e. e ≡ Completed (failing denied)) _ (λ e h p style at. at_prog (ap (λ i. serve style (whole_entry i)) c.in-AskHost.is) (at_reply h completed)) (λ p style at. stopped) c.denied.ensures

-- # Where evaluations came to completions

pub evaluation::eval_script-returns-clause-here : goal.evaluation::eval_script-returns-clause-here
evaluation::eval_script-returns-clause-here g t c =
    OnCompletion-more c.eval_commands-ended.result (IsHere c.nest_at.new.self c.eval_commands-ended.new.tree c.args.place) (IsHere c.args.tree.now c.unnest.new.self c.args.place)
    (λ h. nested_here c.args.tree.now c.nest_at.new.self c.eval_commands-ended.new.tree c.args.place c.requires.0 c.requires.1 c.in_default.ensures.keys c.in_default.ensures.deeper (c.in_default.ensures.nested c.requires.0 c.requires.1).1 c.eval_commands-ended.ensures.keeps.steady
    c.unnest.new.self c.unnest.ensures.keys c.unnest.ensures.shallower (c.unnest.ensures.unnested c.requires.0 1 (nested_holds c.args.tree.now c.nest_at.new.self c.eval_commands-ended.new.tree c.args.place c.requires.0 c.requires.1 c.in_default.ensures.keys c.in_default.ensures.deeper (c.in_default.ensures.nested c.requires.0 c.requires.1).1 c.eval_commands-ended.ensures.keeps.steady)) c.in_default.ensures.marks c.unnest.ensures.marks h) c.eval_commands-ended.ensures.here

pub evaluation::eval_script-returns-in-Err-clause-here : goal.evaluation::eval_script-returns-in-Err-clause-here
evaluation::eval_script-returns-in-Err-clause-here g t c = Completes-all c.too_deep.result (IsHere c.args.tree.now c.nest_at.new.self c.args.place) (level_here c.args.tree.now c.nest_at.new.self c.args.place (same_level c.args.tree.now c.nest_at.new.self c.in-Err.ensures.marks c.in-Err.ensures.keys c.in-Err.ensures.held (c.in-Err.ensures.refused c.requires.0 c.requires.1).1))

pub crossing::call_target-returns-clause-here : goal.crossing::call_target-returns-clause-here
crossing::call_target-returns-clause-here g t c =
    OnCompletion-more c.call-ended.result (IsHere c.nest_at.new.self c.call-ended.new.tree c.args.place) (IsHere c.args.tree.now c.unnest.new.self c.args.place)
    (λ h. nested_here c.args.tree.now c.nest_at.new.self c.call-ended.new.tree c.args.place c.requires.0 c.requires.1 c.in_default.ensures.keys c.in_default.ensures.deeper (c.in_default.ensures.nested c.requires.0 c.requires.1).1 c.call-ended.ensures.keeps.steady
    c.unnest.new.self c.unnest.ensures.keys c.unnest.ensures.shallower (c.unnest.ensures.unnested c.requires.0 1 (nested_holds c.args.tree.now c.nest_at.new.self c.call-ended.new.tree c.args.place c.requires.0 c.requires.1 c.in_default.ensures.keys c.in_default.ensures.deeper (c.in_default.ensures.nested c.requires.0 c.requires.1).1 c.call-ended.ensures.keeps.steady)) c.in_default.ensures.marks c.unnest.ensures.marks h) c.call-ended.ensures.here

pub crossing::call_target-returns-in-Err-clause-here : goal.crossing::call_target-returns-in-Err-clause-here
crossing::call_target-returns-in-Err-clause-here g t c = Completes-all c.too_deep.result (IsHere c.args.tree.now c.nest_at.new.self c.args.place) (level_here c.args.tree.now c.nest_at.new.self c.args.place (same_level c.args.tree.now c.nest_at.new.self c.in-Err.ensures.marks c.in-Err.ensures.keys c.in-Err.ensures.held (c.in-Err.ensures.refused c.requires.0 c.requires.1).1))

pub crossing::invoke-invoke_at-ended-requires : goal.crossing::invoke-invoke_at-ended-requires
crossing::invoke-invoke_at-ended-requires g t c κs within =
    let p = c.requires.0 in
    let names = c.requires.1 in
    let free = c.in_default.ensures.nested p names in
    let top = stands (tree_of c.args.tree.now []) (top_there c.args.tree.now) in
    let fewer = less_room (tree_of c.args.tree.now) (tree_of c.nest_at.new.self) p top.0 top.1 (c.keeps_form.ensures.most [] top.0 top.1) free.0 free.1 in
    (search rules, (search rules, (p, c.in_default.ensures.keys p ∙ names, begun_at c.args.tree.now c.nest_at.new.self c.args.place p names free.1)))

pub crossing::invoke-returns-clause-here : goal.crossing::invoke-returns-clause-here
crossing::invoke-returns-clause-here g t c =
    OnCompletion-more c.invoke_at-ended.result (IsHere c.nest_at.new.self c.invoke_at-ended.new.tree c.args.place) (IsHere c.args.tree.now c.unnest.new.self c.args.place)
    (λ h. nested_here c.args.tree.now c.nest_at.new.self c.invoke_at-ended.new.tree c.args.place c.requires.0 c.requires.1 c.in_default.ensures.keys c.in_default.ensures.deeper (c.in_default.ensures.nested c.requires.0 c.requires.1).1 c.invoke_at-ended.ensures.keeps.steady
    c.unnest.new.self c.unnest.ensures.keys c.unnest.ensures.shallower (c.unnest.ensures.unnested c.requires.0 1 (nested_holds c.args.tree.now c.nest_at.new.self c.invoke_at-ended.new.tree c.args.place c.requires.0 c.requires.1 c.in_default.ensures.keys c.in_default.ensures.deeper (c.in_default.ensures.nested c.requires.0 c.requires.1).1 c.invoke_at-ended.ensures.keeps.steady)) c.in_default.ensures.marks c.unnest.ensures.marks h) c.invoke_at-ended.ensures.here

pub crossing::invoke-returns-in-Err-clause-here : goal.crossing::invoke-returns-in-Err-clause-here
crossing::invoke-returns-in-Err-clause-here g t c = Completes-all c.too_deep.result (IsHere c.args.tree.now c.nest_at.new.self c.args.place) (level_here c.args.tree.now c.nest_at.new.self c.args.place (same_level c.args.tree.now c.nest_at.new.self c.in-Err.ensures.marks c.in-Err.ensures.keys c.in-Err.ensures.held (c.in-Err.ensures.refused c.requires.0 c.requires.1).1))

pub commands::call_procedure-leave_frame-requires : goal.commands::call_procedure-leave_frame-requires
commands::call_procedure-leave_frame-requires g t c = (c.requires.0, depth_of (tree_of c.args.tree.now c.requires.0), steady_holds c.args.tree.now c.eval_value-ended.new.tree c.args.place c.requires.0 (steady-trans c.args.tree.now c.enter.new.tree c.eval_value-ended.new.tree (level_steady c.args.tree.now c.enter.new.tree c.enter.ensures.level) c.eval_value-ended.ensures.keeps.steady) c.requires.1 c.requires.2)

pub commands::call_procedure-returns-clause-keeps : goal.commands::call_procedure-returns-clause-keeps
commands::call_procedure-returns-clause-keeps g t c = keeps-trans (level_keeps _ c.enter.ensures.level) (keeps-trans c.eval_value-ended.ensures.keeps (level_keeps _ c.leave_frame.ensures.level))

pub commands::call_procedure-returns-clause-here : goal.commands::call_procedure-returns-clause-here
commands::call_procedure-returns-clause-here g t c =
    here_left c.eval_value-ended.result c.left_proc.result (IsHere c.args.tree.now c.leave_frame.new.tree c.args.place) c.left_proc.ensures
    (here_level c.eval_value-ended.result c.args.tree.now c.eval_value-ended.new.tree c.leave_frame.new.tree c.args.place (here_then c.eval_value-ended.result c.args.tree.now c.enter.new.tree c.eval_value-ended.new.tree c.args.place (level_here c.args.tree.now c.enter.new.tree c.args.place c.enter.ensures.level) c.eval_value-ended.ensures.here) c.leave_frame.ensures.level)

pub loops::uplevel-bring_back-requires : goal.loops::uplevel-bring_back-requires
loops::uplevel-bring_back-requires g t c = (c.requires.0, depth_of (tree_of c.args.tree.now c.requires.0), steady_holds c.args.tree.now c.eval_value-ended.new.tree c.args.place c.requires.0 (steady-trans c.args.tree.now c.set_aside.new.tree c.eval_value-ended.new.tree (level_steady c.args.tree.now c.set_aside.new.tree c.set_aside.ensures.level) c.eval_value-ended.ensures.keeps.steady) c.requires.1 c.requires.2)

pub loops::uplevel-returns-clause-keeps : goal.loops::uplevel-returns-clause-keeps
loops::uplevel-returns-clause-keeps g t c = keeps-trans (level_keeps _ c.set_aside.ensures.level) (keeps-trans c.eval_value-ended.ensures.keeps (level_keeps _ c.bring_back.ensures.level))

pub loops::uplevel-returns-clause-here : goal.loops::uplevel-returns-clause-here
loops::uplevel-returns-clause-here g t c = here_level c.eval_value-ended.result c.args.tree.now c.eval_value-ended.new.tree c.bring_back.new.tree c.args.place (here_then c.eval_value-ended.result c.args.tree.now c.set_aside.new.tree c.eval_value-ended.new.tree c.args.place (level_here c.args.tree.now c.set_aside.new.tree c.args.place c.set_aside.ensures.level) c.eval_value-ended.ensures.here) c.bring_back.ensures.level

pub crossing::invoke_at-bring_back-requires : goal.crossing::invoke_at-bring_back-requires
crossing::invoke_at-bring_back-requires g t c = (c.requires.0, depth_of (tree_of c.args.tree.now c.requires.0), steady_holds c.args.tree.now c.call_hidden-ended.new.tree c.args.place c.requires.0 (steady-trans c.args.tree.now c.set_aside.new.tree c.call_hidden-ended.new.tree (level_steady c.args.tree.now c.set_aside.new.tree c.set_aside.ensures.level) c.call_hidden-ended.ensures.keeps.steady) c.requires.1 c.requires.2)

pub crossing::invoke_at-returns-clause-keeps : goal.crossing::invoke_at-returns-clause-keeps
crossing::invoke_at-returns-clause-keeps g t c = keeps-trans (level_keeps _ c.set_aside.ensures.level) (keeps-trans c.call_hidden-ended.ensures.keeps (level_keeps _ c.bring_back.ensures.level))

pub crossing::invoke_at-returns-clause-here : goal.crossing::invoke_at-returns-clause-here
crossing::invoke_at-returns-clause-here g t c = here_level c.call_hidden-ended.result c.args.tree.now c.call_hidden-ended.new.tree c.bring_back.new.tree c.args.place (here_then c.call_hidden-ended.result c.args.tree.now c.set_aside.new.tree c.call_hidden-ended.new.tree c.args.place (level_here c.args.tree.now c.set_aside.new.tree c.args.place c.set_aside.ensures.level) c.call_hidden-ended.ensures.here) c.bring_back.ensures.level

pub crossing::invoke_at-call_hidden-ended-requires : goal.crossing::invoke_at-call_hidden-ended-requires
crossing::invoke_at-call_hidden-ended-requires g t c κs within = (search rules, (search rules, still_running c.args.tree.now c.set_aside.new.tree c.args.place (level_here c.args.tree.now c.set_aside.new.tree c.args.place c.set_aside.ensures.level) c.requires))

pub control::catch-keep_caught-requires : goal.control::catch-keep_caught-requires
control::catch-keep_caught-requires g t c = (c.requires.0, still_named c.args.tree.now c.eval_value.new.tree c.args.place c.requires.0 (here_caught c.eval_value.result c.caught.result c.in_ok-completion.completion c.args.tree.now c.eval_value.new.tree c.args.place c.in_ok-completion.was c.caught.ensures c.eval_value.ensures.here) c.requires.1)

pub expressions::turn-charge-requires : goal.expressions::turn-charge-requires
expressions::turn-charge-requires g t c = (c.requires.running.0, still_named c.args.tree.now c.condition.new.tree c.args.place c.requires.running.0 c.in_ok-condition.ensures.here c.requires.running.1)

pub expressions::turn-eval_read-requires : goal.expressions::turn-eval_read-requires
expressions::turn-eval_read-requires g t c κs within = (search rules, (search rules, ((c.requires.running.0, still_named c.args.tree.now c.charge.new.tree c.args.place c.requires.running.0 (here-trans c.args.tree.now c.condition.new.tree c.charge.new.tree c.args.place c.in_ok-condition.ensures.here (level_here c.condition.new.tree c.charge.new.tree c.args.place c.charge.ensures.level)) c.requires.running.1), c.requires.read)))

pub loops::walk_through-charge-requires : goal.loops::walk_through-charge-requires
loops::walk_through-charge-requires g t c = (c.requires.0, still_named c.args.tree.now c.turns.tree c.args.place c.requires.0 c.turns.invariant.here c.requires.1)

pub loops::walk_through-set_walks-requires : goal.loops::walk_through-set_walks-requires
loops::walk_through-set_walks-requires g t c = (c.requires.0, still_named c.args.tree.now c.charge.new.tree c.args.place c.requires.0 (here-trans c.args.tree.now c.turns.tree c.charge.new.tree c.args.place c.turns.invariant.here (level_here c.turns.tree c.charge.new.tree c.args.place c.charge.ensures.level)) c.requires.1)

pub loops::walk_through-eval_read-requires : goal.loops::walk_through-eval_read-requires
loops::walk_through-eval_read-requires g t c κs within = (search rules, (search rules, ((c.requires.0, still_named c.args.tree.now c.set_walks.new.tree c.args.place c.requires.0 (here-trans c.args.tree.now c.charge.new.tree c.set_walks.new.tree c.args.place (here-trans c.args.tree.now c.turns.tree c.charge.new.tree c.args.place c.turns.invariant.here (level_here c.turns.tree c.charge.new.tree c.args.place c.charge.ensures.level)) (level_here c.charge.new.tree c.set_walks.new.tree c.args.place c.set_walks.ensures.level)) c.requires.1), c.deref.ensures ∙ c.in_ok-script.ensures)))

pub collecting::lmap-charge-requires : goal.collecting::lmap-charge-requires
collecting::lmap-charge-requires g t c = (c.requires.0, still_named c.args.tree.now c.turns.tree c.args.place c.requires.0 c.turns.invariant.here c.requires.1)

pub collecting::lmap-set_walks-requires : goal.collecting::lmap-set_walks-requires
collecting::lmap-set_walks-requires g t c = (c.requires.0, still_named c.args.tree.now c.charge.new.tree c.args.place c.requires.0 (here-trans c.args.tree.now c.turns.tree c.charge.new.tree c.args.place c.turns.invariant.here (level_here c.turns.tree c.charge.new.tree c.args.place c.charge.ensures.level)) c.requires.1)

pub collecting::lmap-eval_read-ended-requires : goal.collecting::lmap-eval_read-ended-requires
collecting::lmap-eval_read-ended-requires g t c κs within = (search rules, (search rules, ((c.requires.0, still_named c.args.tree.now c.set_walks.new.tree c.args.place c.requires.0 (here-trans c.args.tree.now c.charge.new.tree c.set_walks.new.tree c.args.place (here-trans c.args.tree.now c.turns.tree c.charge.new.tree c.args.place c.turns.invariant.here (level_here c.turns.tree c.charge.new.tree c.args.place c.charge.ensures.level)) (level_here c.charge.new.tree c.set_walks.new.tree c.args.place c.set_walks.ensures.level)) c.requires.1), c.deref.ensures ∙ c.in_ok-script.ensures)))

pub evaluation::eval_commands-eval_command-requires : goal.evaluation::eval_commands-eval_command-requires
evaluation::eval_commands-eval_command-requires g t c κs within = (search rules, (search rules, still_running c.args.tree.now c.commands.tree c.args.place c.commands.invariant.here c.requires.running))

pub expressions::compute_parts-eval_operand-requires : goal.expressions::compute_parts-eval_operand-requires
expressions::compute_parts-eval_operand-requires g t c κs within = (search rules, (search rules, still_running c.args.tree.now c.parts.tree c.args.place c.parts.invariant.here c.requires))

pub expressions::while_loop-turn-requires : goal.expressions::while_loop-turn-requires
expressions::while_loop-turn-requires g t c κs within = (search rules, (search rules, (still_running c.args.tree.now c.turns.tree c.args.place c.turns.invariant.here c.requires, c.deref-in-turns.ensures ∙ c.in_ok-script.ensures)))

pub expressions::if_many-eval_value-requires-2 : goal.expressions::if_many-eval_value-requires-2
expressions::if_many-eval_value-requires-2 g t c κs within = (search rules, (search rules, (c.requires.0, still_named c.args.tree.now c.tests.tree c.args.place c.requires.0 c.tests.invariant.here c.requires.1)))

pub evaluation::eval_commands-returns-in_err-last-clause-here : goal.evaluation::eval_commands-returns-in_err-last-clause-here
evaluation::eval_commands-returns-in_err-last-clause-here g t c =
    let p = err_from_is_err_and c.from_residual.result c.from_residual.ensures.1 in
    here_passed c.from_residual.result c.eval_command.result c.in_err-last.field-0.0 p.0 c.args.tree.now c.commands.tree c.eval_command.new.tree c.args.place p.1 p.2 c.in_err-last.ensures.same c.commands.invariant.here c.eval_command.ensures.here

pub evaluation::eval_commands-returns-clause-here : goal.evaluation::eval_commands-returns-clause-here
evaluation::eval_commands-returns-clause-here g t c = on_completion c.finish.result (IsHere c.args.tree.now c.commands.tree c.args.place) c.commands.invariant.here

pub evaluation::eval_lone_part-returns-in_ok-clone-in-Literal-clause-here : goal.evaluation::eval_lone_part-returns-in_ok-clone-in-Literal-clause-here
evaluation::eval_lone_part-returns-in_ok-clone-in-Literal-clause-here g t c = unmoved c.within.result c.args.tree.now c.args.place

pub evaluation::eval_lone_part-returns-in-Variable-clause-here : goal.evaluation::eval_lone_part-returns-in-Variable-clause-here
evaluation::eval_lone_part-returns-in-Variable-clause-here g t c = unmoved c.read_named.result c.args.tree.now c.args.place

pub evaluation::eval_lone_part-returns-in_err-value-in-Bracket-clause-here : goal.evaluation::eval_lone_part-returns-in_err-value-in-Bracket-clause-here
evaluation::eval_lone_part-returns-in_err-value-in-Bracket-clause-here g t c =
    let p = err_from_is_err_and c.from_residual-in_err-value-in-Bracket.result c.from_residual-in_err-value-in-Bracket.ensures.1 in
    here_passed c.from_residual-in_err-value-in-Bracket.result c.eval_bracket.result c.in_err-value-in-Bracket.field-0.0 p.0 c.args.tree.now c.args.tree.now c.eval_bracket.new.tree c.args.place p.1 p.2 c.in_err-value-in-Bracket.ensures.same (here-refl c.args.tree.now c.args.place) c.eval_bracket.ensures.here

pub evaluation::eval_lone_part-returns-in_err-value-in-Deep-clause-here : goal.evaluation::eval_lone_part-returns-in_err-value-in-Deep-clause-here
evaluation::eval_lone_part-returns-in_err-value-in-Deep-clause-here g t c =
    let p = err_from_is_err_and c.from_residual-in_err-value-in-Deep.result c.from_residual-in_err-value-in-Deep.ensures.1 in
    here_passed c.from_residual-in_err-value-in-Deep.result c.eval_text.result c.in_err-value-in-Deep.field-0.0 p.0 c.args.tree.now c.args.tree.now c.eval_text.new.tree c.args.place p.1 p.2 c.in_err-value-in-Deep.ensures.same (here-refl c.args.tree.now c.args.place) c.eval_text.ensures.here

pub evaluation::eval_lone_part-returns-in_ok-value-in-Bracket-clause-here : goal.evaluation::eval_lone_part-returns-in_ok-value-in-Bracket-clause-here
evaluation::eval_lone_part-returns-in_ok-value-in-Bracket-clause-here g t c = here_text c.eval_bracket.result c.in_ok-value-in-Bracket.value c.args.tree.now c.eval_bracket.new.tree c.args.place c.in_ok-value-in-Bracket.ensures.text c.eval_bracket.ensures.here

pub evaluation::eval_lone_part-returns-in_ok-value-in-Deep-clause-here : goal.evaluation::eval_lone_part-returns-in_ok-value-in-Deep-clause-here
evaluation::eval_lone_part-returns-in_ok-value-in-Deep-clause-here g t c = here_text c.eval_text.result c.in_ok-value-in-Deep.value c.args.tree.now c.eval_text.new.tree c.args.place c.in_ok-value-in-Deep.ensures.text c.eval_text.ensures.here

pub evaluation::eval_part-returns-in_ok-value-in-Variable-clause-here : goal.evaluation::eval_part-returns-in_ok-value-in-Variable-clause-here
evaluation::eval_part-returns-in_ok-value-in-Variable-clause-here g t c = unmoved c.append_value.result c.args.tree.now c.args.place

pub evaluation::eval_part-returns-in-Literal-clause-here : goal.evaluation::eval_part-returns-in-Literal-clause-here
evaluation::eval_part-returns-in-Literal-clause-here g t c = unmoved c.append.result c.args.tree.now c.args.place

pub evaluation::eval_part-returns-in-Element-clause-here : goal.evaluation::eval_part-returns-in-Element-clause-here
evaluation::eval_part-returns-in-Element-clause-here g t c = unmoved c.open_element.result c.args.tree.now c.args.place

pub evaluation::eval_part-returns-in-EndElement-clause-here : goal.evaluation::eval_part-returns-in-EndElement-clause-here
evaluation::eval_part-returns-in-EndElement-clause-here g t c = unmoved c.close_element.result c.args.tree.now c.args.place

pub evaluation::eval_part-returns-in_err-value-in-Bracket-clause-here : goal.evaluation::eval_part-returns-in_err-value-in-Bracket-clause-here
evaluation::eval_part-returns-in_err-value-in-Bracket-clause-here g t c =
    let p = err_from_is_err_and c.from_residual-in_err-value-in-Bracket.result c.from_residual-in_err-value-in-Bracket.ensures.1 in
    here_passed c.from_residual-in_err-value-in-Bracket.result c.eval_bracket.result c.in_err-value-in-Bracket.field-0.0 p.0 c.args.tree.now c.args.tree.now c.eval_bracket.new.tree c.args.place p.1 p.2 c.in_err-value-in-Bracket.ensures.same (here-refl c.args.tree.now c.args.place) c.eval_bracket.ensures.here

pub evaluation::eval_part-returns-in_err-value-in-Deep-clause-here : goal.evaluation::eval_part-returns-in_err-value-in-Deep-clause-here
evaluation::eval_part-returns-in_err-value-in-Deep-clause-here g t c =
    let p = err_from_is_err_and c.from_residual-in_err-value-in-Deep.result c.from_residual-in_err-value-in-Deep.ensures.1 in
    here_passed c.from_residual-in_err-value-in-Deep.result c.eval_text.result c.in_err-value-in-Deep.field-0.0 p.0 c.args.tree.now c.args.tree.now c.eval_text.new.tree c.args.place p.1 p.2 c.in_err-value-in-Deep.ensures.same (here-refl c.args.tree.now c.args.place) c.eval_text.ensures.here

pub evaluation::eval_part-returns-in_ok-value-in-Bracket-clause-here : goal.evaluation::eval_part-returns-in_ok-value-in-Bracket-clause-here
evaluation::eval_part-returns-in_ok-value-in-Bracket-clause-here g t c = on_completion c.append_value-in-Bracket.result (IsHere c.args.tree.now c.eval_bracket.new.tree c.args.place) (here_text c.eval_bracket.result c.in_ok-value-in-Bracket.value c.args.tree.now c.eval_bracket.new.tree c.args.place c.in_ok-value-in-Bracket.ensures.text c.eval_bracket.ensures.here)

pub evaluation::eval_part-returns-in_ok-value-in-Deep-clause-here : goal.evaluation::eval_part-returns-in_ok-value-in-Deep-clause-here
evaluation::eval_part-returns-in_ok-value-in-Deep-clause-here g t c = on_completion c.append_value-in-Deep.result (IsHere c.args.tree.now c.eval_text.new.tree c.args.place) (here_text c.eval_text.result c.in_ok-value-in-Deep.value c.args.tree.now c.eval_text.new.tree c.args.place c.in_ok-value-in-Deep.ensures.text c.eval_text.ensures.here)

pub evaluation::substitute-returns-in_err-eval_part-clause-here : goal.evaluation::substitute-returns-in_err-eval_part-clause-here
evaluation::substitute-returns-in_err-eval_part-clause-here g t c =
    let p = err_from_is_err_and c.from_residual.result c.from_residual.ensures.1 in
    here_err c.from_residual.result c.in_err-eval_part.field-0.0 p.0 c.args.tree.now c.parts.tree c.eval_part.new.tree c.args.place p.1 p.2 c.parts.invariant.here c.in_err-eval_part.ensures.here

pub evaluation::substitute-returns-in_err-from_string-clause-here : goal.evaluation::substitute-returns-in_err-from_string-clause-here
evaluation::substitute-returns-in_err-from_string-clause-here g t c = on_completion c.from_residual-in_err-from_string.result (IsHere c.args.tree.now c.parts.tree c.args.place) c.parts.invariant.here

pub evaluation::substitute-returns-clause-here : goal.evaluation::substitute-returns-clause-here
evaluation::substitute-returns-clause-here g t c = c.parts.invariant.here

pub commands::call_procedure-returns-in_err-enter-clause-here : goal.commands::call_procedure-returns-in_err-enter-clause-here
commands::call_procedure-returns-in_err-enter-clause-here g t c = on_completion c.from_residual.result (IsHere c.args.tree.now c.enter.new.tree c.args.place) (level_here c.args.tree.now c.enter.new.tree c.args.place c.enter.ensures.level)

pub control::catch-returns-in_err-completion-clause-here : goal.control::catch-returns-in_err-completion-clause-here
control::catch-returns-in_err-completion-clause-here g t c =
    let p = err_from_is_err_and c.from_residual.result c.from_residual.ensures.1 in
    completes_err c.from_residual.result c.in_err-completion.field-0.0 p.0 (IsHere c.args.tree.now c.eval_value.new.tree c.args.place) (IsHere c.args.tree.now c.eval_value.new.tree c.args.place) p.1 p.2
    (uncaught c.eval_value.result c.caught.result c.in_err-completion.field-0.0 (IsHere c.args.tree.now c.eval_value.new.tree c.args.place) c.in_err-completion.was c.caught.ensures) (λ h. h)

pub control::catch-returns-in_err-keep_caught-clause-here : goal.control::catch-returns-in_err-keep_caught-clause-here
control::catch-returns-in_err-keep_caught-clause-here g t c = on_completion c.from_residual-in_err-keep_caught.result (IsHere c.args.tree.now c.keep_caught.new.tree c.args.place) (here-trans c.args.tree.now c.eval_value.new.tree c.keep_caught.new.tree c.args.place (here_caught c.eval_value.result c.caught.result c.in_ok-completion.completion c.args.tree.now c.eval_value.new.tree c.args.place c.in_ok-completion.was c.caught.ensures c.eval_value.ensures.here) (level_here c.eval_value.new.tree c.keep_caught.new.tree c.args.place c.keep_caught.ensures.level))

pub control::catch-returns-clause-here : goal.control::catch-returns-clause-here
control::catch-returns-clause-here g t c = here-trans c.args.tree.now c.eval_value.new.tree c.keep_caught.new.tree c.args.place (here_caught c.eval_value.result c.caught.result c.in_ok-completion.completion c.args.tree.now c.eval_value.new.tree c.args.place c.in_ok-completion.was c.caught.ensures c.eval_value.ensures.here) (level_here c.eval_value.new.tree c.keep_caught.new.tree c.args.place c.keep_caught.ensures.level)

pub control::catch-returns-in_err-keep_caught-clause-keeps : goal.control::catch-returns-in_err-keep_caught-clause-keeps
control::catch-returns-in_err-keep_caught-clause-keeps g t c = keeps-trans c.eval_value.ensures.keeps (level_keeps _ c.keep_caught.ensures.level)

pub crossing::serve_call-returns-in_err-charge-clause-here : goal.crossing::serve_call-returns-in_err-charge-clause-here
crossing::serve_call-returns-in_err-charge-clause-here g t c = on_completion c.from_residual-in_err-charge.result (IsHere c.args.tree.now c.charge.new.tree c.args.place) (level_here c.args.tree.now c.charge.new.tree c.args.place c.charge.ensures.level)

pub crossing::serve_call-returns-clause-here : goal.crossing::serve_call-returns-clause-here
crossing::serve_call-returns-clause-here g t c = here_then c.call_target.result c.args.tree.now c.charge.new.tree c.call_target.new.tree c.args.place (level_here c.args.tree.now c.charge.new.tree c.args.place c.charge.ensures.level) c.call_target.ensures.here

pub crossing::serve_call-returns-in_err-charge-clause-keeps : goal.crossing::serve_call-returns-in_err-charge-clause-keeps
crossing::serve_call-returns-in_err-charge-clause-keeps g t c = charged_keeps c.charge.ensures.level c.charge.ensures.left

pub crossing::serve_call-returns-clause-keeps : goal.crossing::serve_call-returns-clause-keeps
crossing::serve_call-returns-clause-keeps g t c = keeps-trans (charged_keeps c.charge.ensures.level c.charge.ensures.left) c.call_target.ensures.keeps

pub crossing::serve_hidden-returns-in_err-charge-clause-here : goal.crossing::serve_hidden-returns-in_err-charge-clause-here
crossing::serve_hidden-returns-in_err-charge-clause-here g t c = on_completion c.from_residual-in_err-charge.result (IsHere c.args.tree.now c.charge.new.tree c.args.place) (level_here c.args.tree.now c.charge.new.tree c.args.place c.charge.ensures.level)

pub crossing::serve_hidden-returns-clause-here : goal.crossing::serve_hidden-returns-clause-here
crossing::serve_hidden-returns-clause-here g t c =
    here_settled c.invoke-ended.result c.settled.result (IsHere c.args.tree.now c.invoke-ended.new.tree c.args.place) c.settled.ensures
    (here_then c.invoke-ended.result c.args.tree.now c.charge.new.tree c.invoke-ended.new.tree c.args.place (level_here c.args.tree.now c.charge.new.tree c.args.place c.charge.ensures.level) c.invoke-ended.ensures.here)

pub crossing::serve_hidden-returns-in_err-charge-clause-keeps : goal.crossing::serve_hidden-returns-in_err-charge-clause-keeps
crossing::serve_hidden-returns-in_err-charge-clause-keeps g t c = charged_keeps c.charge.ensures.level c.charge.ensures.left

pub crossing::serve_hidden-returns-clause-keeps : goal.crossing::serve_hidden-returns-clause-keeps
crossing::serve_hidden-returns-clause-keeps g t c = keeps-trans (charged_keeps c.charge.ensures.level c.charge.ensures.left) c.invoke-ended.ensures.keeps

pub crossing::serve_eval-returns-clause-here : goal.crossing::serve_eval-returns-clause-here
crossing::serve_eval-returns-clause-here g t c = here_settled c.eval_value-ended.result c.settled.result (IsHere c.args.tree.now c.eval_value-ended.new.tree c.args.place) c.settled.ensures c.eval_value-ended.ensures.here

pub crossing::invoke_at-returns-in_err-set_aside-clause-here : goal.crossing::invoke_at-returns-in_err-set_aside-clause-here
crossing::invoke_at-returns-in_err-set_aside-clause-here g t c = on_completion c.from_residual.result (IsHere c.args.tree.now c.set_aside.new.tree c.args.place) (level_here c.args.tree.now c.set_aside.new.tree c.args.place c.set_aside.ensures.level)

pub crossing::invoke_at-returns-in_err-set_aside-clause-keeps : goal.crossing::invoke_at-returns-in_err-set_aside-clause-keeps
crossing::invoke_at-returns-in_err-set_aside-clause-keeps g t c = level_keeps _ c.set_aside.ensures.level

pub commands::call_procedure-returns-in_err-enter-clause-keeps : goal.commands::call_procedure-returns-in_err-enter-clause-keeps
commands::call_procedure-returns-in_err-enter-clause-keeps g t c = level_keeps _ c.enter.ensures.level

pub commands::call_procedure-returns-then-not-branch-clause-keeps : goal.commands::call_procedure-returns-then-not-branch-clause-keeps
commands::call_procedure-returns-then-not-branch-clause-keeps g t c = level_keeps _ c.enter.ensures.level

pub expressions::expression-returns-in-Some-clause-here : goal.expressions::expression-returns-in-Some-clause-here
expressions::expression-returns-in-Some-clause-here g t c = here-refl c.args.tree.now c.args.place

pub expressions::compute_parts-returns-in_err-operand-clause-here : goal.expressions::compute_parts-returns-in_err-operand-clause-here
expressions::compute_parts-returns-in_err-operand-clause-here g t c = on_completion c.from_residual.result (IsHere c.args.tree.now c.parts.tree c.args.place) c.parts.invariant.here

pub expressions::compute_parts-returns-in_err-value-in-Wants-clause-here : goal.expressions::compute_parts-returns-in_err-value-in-Wants-clause-here
expressions::compute_parts-returns-in_err-value-in-Wants-clause-here g t c =
    let p = err_from_is_err_and c.from_residual-in_err-value-in-Wants.result c.from_residual-in_err-value-in-Wants.ensures.1 in
    here_passed c.from_residual-in_err-value-in-Wants.result c.eval_operand.result c.in_err-value-in-Wants.field-0.0 p.0 c.args.tree.now c.parts.tree c.eval_operand.new.tree c.args.place p.1 p.2 c.in_err-value-in-Wants.ensures.same c.parts.invariant.here c.eval_operand.ensures.here

pub expressions::compute_parts-returns-in_err-supply-in-Wants-clause-here : goal.expressions::compute_parts-returns-in_err-supply-in-Wants-clause-here
expressions::compute_parts-returns-in_err-supply-in-Wants-clause-here g t c = on_completion c.from_residual-in_err-supply-in-Wants.result (IsHere c.args.tree.now c.eval_operand.new.tree c.args.place) (here-trans c.args.tree.now c.parts.tree c.eval_operand.new.tree c.args.place c.parts.invariant.here (here_text c.eval_operand.result c.in_ok-value-in-Wants.value c.parts.tree c.eval_operand.new.tree c.args.place c.in_ok-value-in-Wants.ensures.text c.eval_operand.ensures.here))

pub expressions::compute_parts-returns-in-Done-clause-here : goal.expressions::compute_parts-returns-in-Done-clause-here
expressions::compute_parts-returns-in-Done-clause-here g t c = on_completion c.settle.result (IsHere c.args.tree.now c.parts.tree c.args.place) c.parts.invariant.here

pub expressions::condition-returns-in_err-value-clause-here : goal.expressions::condition-returns-in_err-value-clause-here
expressions::condition-returns-in_err-value-clause-here g t c =
    let p = err_from_is_err_and c.from_residual-in_err-value.result c.from_residual-in_err-value.ensures.1 in
    here_passed c.from_residual-in_err-value.result c.compute.result c.in_err-value.field-0.0 p.0 c.args.tree.now c.args.tree.now c.compute.new.tree c.args.place p.1 p.2 c.in_err-value.ensures.same (here-refl c.args.tree.now c.args.place) c.compute.ensures.here

pub expressions::condition-returns-clause-here : goal.expressions::condition-returns-clause-here
expressions::condition-returns-clause-here g t c = on_completion c.holds.result (IsHere c.args.tree.now c.compute.new.tree c.args.place) (here_text c.compute.result c.in_ok-value.value c.args.tree.now c.compute.new.tree c.args.place c.in_ok-value.ensures.text c.compute.ensures.here)

pub expressions::if_many-returns-in_err-test-clause-here : goal.expressions::if_many-returns-in_err-test-clause-here
expressions::if_many-returns-in_err-test-clause-here g t c = on_completion c.from_residual-in_err-test.result (IsHere c.args.tree.now c.tests.tree c.args.place) c.tests.invariant.here

pub expressions::if_many-returns-in_err-condition-clause-here : goal.expressions::if_many-returns-in_err-condition-clause-here
expressions::if_many-returns-in_err-condition-clause-here g t c =
    let p = err_from_is_err_and c.from_residual-in_err-condition.result c.from_residual-in_err-condition.ensures.1 in
    here_err c.from_residual-in_err-condition.result c.in_err-condition.field-0.0 p.0 c.args.tree.now c.tests.tree c.condition.new.tree c.args.place p.1 p.2 c.tests.invariant.here c.in_err-condition.ensures.here

pub expressions::if_many-returns-then-branch-clause-here : goal.expressions::if_many-returns-then-branch-clause-here
expressions::if_many-returns-then-branch-clause-here g t c = here_then c.eval_value.result c.args.tree.now c.condition.new.tree c.eval_value.new.tree c.args.place (here-trans c.args.tree.now c.tests.tree c.condition.new.tree c.args.place c.tests.invariant.here c.in_ok-condition.ensures.here) c.eval_value.ensures.here

pub expressions::if_many-returns-in_default-last-clause-here : goal.expressions::if_many-returns-in_default-last-clause-here
expressions::if_many-returns-in_default-last-clause-here g t c = c.tests.invariant.here

pub expressions::if_many-returns-clause-here : goal.expressions::if_many-returns-clause-here
expressions::if_many-returns-clause-here g t c = here_then c.eval_value-2.result c.args.tree.now c.tests.tree c.eval_value-2.new.tree c.args.place c.tests.invariant.here c.eval_value-2.ensures.here

pub expressions::turn-returns-in_err-condition-clause-here : goal.expressions::turn-returns-in_err-condition-clause-here
expressions::turn-returns-in_err-condition-clause-here g t c =
    let p = err_from_is_err_and c.from_residual.result c.from_residual.ensures.1 in
    here_err c.from_residual.result c.in_err-condition.field-0.0 p.0 c.args.tree.now c.args.tree.now c.condition.new.tree c.args.place p.1 p.2 (here-refl c.args.tree.now c.args.place) c.in_err-condition.ensures.here

pub expressions::turn-returns-then-not-branch-clause-here : goal.expressions::turn-returns-then-not-branch-clause-here
expressions::turn-returns-then-not-branch-clause-here g t c = c.in_ok-condition.ensures.here

pub expressions::turn-returns-in_err-charge-clause-here : goal.expressions::turn-returns-in_err-charge-clause-here
expressions::turn-returns-in_err-charge-clause-here g t c = on_completion c.from_residual-in_err-charge.result (IsHere c.args.tree.now c.charge.new.tree c.args.place) (here-trans c.args.tree.now c.condition.new.tree c.charge.new.tree c.args.place c.in_ok-condition.ensures.here (level_here c.condition.new.tree c.charge.new.tree c.args.place c.charge.ensures.level))

pub expressions::turn-returns-clause-here : goal.expressions::turn-returns-clause-here
expressions::turn-returns-clause-here g t c =
    here_turned after_body c.eval_read.result c.goes_on.result (IsHere c.args.tree.now c.eval_read.new.tree c.args.place) c.goes_on.ensures
    (here_then c.eval_read.result c.args.tree.now c.charge.new.tree c.eval_read.new.tree c.args.place (here-trans c.args.tree.now c.condition.new.tree c.charge.new.tree c.args.place c.in_ok-condition.ensures.here (level_here c.condition.new.tree c.charge.new.tree c.args.place c.charge.ensures.level)) c.eval_read.ensures.here)

pub expressions::turn-returns-in_err-charge-clause-keeps : goal.expressions::turn-returns-in_err-charge-clause-keeps
expressions::turn-returns-in_err-charge-clause-keeps g t c = keeps-trans c.condition.ensures.keeps (charged_keeps c.charge.ensures.level c.charge.ensures.left)

pub expressions::turn-returns-clause-keeps : goal.expressions::turn-returns-clause-keeps
expressions::turn-returns-clause-keeps g t c = keeps-trans c.condition.ensures.keeps (keeps-trans (charged_keeps c.charge.ensures.level c.charge.ensures.left) c.eval_read.ensures.keeps)

pub expressions::while_loop-returns-in_err-turn-clause-here : goal.expressions::while_loop-returns-in_err-turn-clause-here
expressions::while_loop-returns-in_err-turn-clause-here g t c =
    let p = err_from_is_err_and c.from_residual-in_err-turn.result c.from_residual-in_err-turn.ensures.1 in
    here_err c.from_residual-in_err-turn.result c.in_err-turn.field-0.0 p.0 c.args.tree.now c.turns.tree c.turn.new.tree c.args.place p.1 p.2 c.turns.invariant.here c.in_err-turn.ensures.here

pub expressions::while_loop-returns-then-not-branch-clause-here : goal.expressions::while_loop-returns-then-not-branch-clause-here
expressions::while_loop-returns-then-not-branch-clause-here g t c = here-trans c.args.tree.now c.turns.tree c.turn.new.tree c.args.place c.turns.invariant.here c.in_ok-turn.ensures.here

pub expressions::for_loop-returns-in_err-on_ok-clause-here : goal.expressions::for_loop-returns-in_err-on_ok-clause-here
expressions::for_loop-returns-in_err-on_ok-clause-here g t c =
    let p = err_from_is_err_and c.from_residual.result c.from_residual.ensures.1 in
    here_passed c.from_residual.result c.eval_value.result c.in_err-on_ok.field-0.0 p.0 c.args.tree.now c.args.tree.now c.eval_value.new.tree c.args.place p.1 p.2 c.in_err-on_ok.ensures.same (here-refl c.args.tree.now c.args.place) c.eval_value.ensures.here

pub expressions::for_loop-returns-in_err-test-clause-here : goal.expressions::for_loop-returns-in_err-test-clause-here
expressions::for_loop-returns-in_err-test-clause-here g t c = on_completion c.from_residual-in_err-test.result (IsHere c.args.tree.now c.eval_value.new.tree c.args.place) (here_text c.eval_value.result c.in_ok-on_ok.field-0 c.args.tree.now c.eval_value.new.tree c.args.place c.in_ok-on_ok.ensures.text c.eval_value.ensures.here)

pub expressions::for_loop-returns-in_err-script-clause-here : goal.expressions::for_loop-returns-in_err-script-clause-here
expressions::for_loop-returns-in_err-script-clause-here g t c = on_completion c.from_residual-in_err-script.result (IsHere c.args.tree.now c.eval_value.new.tree c.args.place) (here_text c.eval_value.result c.in_ok-on_ok.field-0 c.args.tree.now c.eval_value.new.tree c.args.place c.in_ok-on_ok.ensures.text c.eval_value.ensures.here)

pub expressions::for_loop-returns-in_err-between-clause-here : goal.expressions::for_loop-returns-in_err-between-clause-here
expressions::for_loop-returns-in_err-between-clause-here g t c = on_completion c.from_residual-in_err-between.result (IsHere c.args.tree.now c.eval_value.new.tree c.args.place) (here_text c.eval_value.result c.in_ok-on_ok.field-0 c.args.tree.now c.eval_value.new.tree c.args.place c.in_ok-on_ok.ensures.text c.eval_value.ensures.here)

pub expressions::for_loop-returns-in_err-turn-clause-here : goal.expressions::for_loop-returns-in_err-turn-clause-here
expressions::for_loop-returns-in_err-turn-clause-here g t c =
    let p = err_from_is_err_and c.from_residual-in_err-turn.result c.from_residual-in_err-turn.ensures.1 in
    here_err c.from_residual-in_err-turn.result c.in_err-turn.field-0.0 p.0 c.args.tree.now c.turns.tree c.turn.new.tree c.args.place p.1 p.2 c.turns.invariant.here c.in_err-turn.ensures.here

pub expressions::for_loop-returns-then-not-branch-clause-here : goal.expressions::for_loop-returns-then-not-branch-clause-here
expressions::for_loop-returns-then-not-branch-clause-here g t c = here-trans c.args.tree.now c.turns.tree c.turn.new.tree c.args.place c.turns.invariant.here c.in_ok-turn.ensures.here

pub expressions::for_loop-returns-in_err-turns_on-clause-here : goal.expressions::for_loop-returns-in_err-turns_on-clause-here
expressions::for_loop-returns-in_err-turns_on-clause-here g t c =
    let p = err_from_is_err_and c.from_residual-in_err-turns_on.result c.from_residual-in_err-turns_on.ensures.1 in
    here_passed c.from_residual-in_err-turns_on.result c.eval_read.result c.in_err-turns_on.field-0.0 p.0 c.args.tree.now c.turn.new.tree c.eval_read.new.tree c.args.place p.1 p.2 c.in_err-turns_on.ensures.0 (here-trans c.args.tree.now c.turns.tree c.turn.new.tree c.args.place c.turns.invariant.here c.in_ok-turn.ensures.here) c.eval_read.ensures.here

pub expressions::for_loop-returns-then-not-branch-2-clause-here : goal.expressions::for_loop-returns-then-not-branch-2-clause-here
expressions::for_loop-returns-then-not-branch-2-clause-here g t c = here-trans c.args.tree.now c.turn.new.tree c.eval_read.new.tree c.args.place (here-trans c.args.tree.now c.turns.tree c.turn.new.tree c.args.place c.turns.invariant.here c.in_ok-turn.ensures.here) (here_in c.eval_read.result c.in_ok-turns_on.ensures.0 (IsHere c.turn.new.tree c.eval_read.new.tree c.args.place) c.in_ok-turns_on.ensures.1 c.eval_read.ensures.here)

pub loops::walk_through-returns-then-is_over-clause-here : goal.loops::walk_through-returns-then-is_over-clause-here
loops::walk_through-returns-then-is_over-clause-here g t c = c.turns.invariant.here

pub loops::walk_through-returns-in_err-charge-clause-here : goal.loops::walk_through-returns-in_err-charge-clause-here
loops::walk_through-returns-in_err-charge-clause-here g t c = on_completion c.from_residual-in_err-charge.result (IsHere c.args.tree.now c.charge.new.tree c.args.place) (here-trans c.args.tree.now c.turns.tree c.charge.new.tree c.args.place c.turns.invariant.here (level_here c.turns.tree c.charge.new.tree c.args.place c.charge.ensures.level))

pub loops::walk_through-returns-in_err-set_walks-clause-here : goal.loops::walk_through-returns-in_err-set_walks-clause-here
loops::walk_through-returns-in_err-set_walks-clause-here g t c = on_completion c.from_residual-in_err-set_walks.result (IsHere c.args.tree.now c.set_walks.new.tree c.args.place) (here-trans c.args.tree.now c.charge.new.tree c.set_walks.new.tree c.args.place (here-trans c.args.tree.now c.turns.tree c.charge.new.tree c.args.place c.turns.invariant.here (level_here c.turns.tree c.charge.new.tree c.args.place c.charge.ensures.level)) (level_here c.charge.new.tree c.set_walks.new.tree c.args.place c.set_walks.ensures.level))

pub loops::walk_through-returns-in_err-goes_on-clause-here : goal.loops::walk_through-returns-in_err-goes_on-clause-here
loops::walk_through-returns-in_err-goes_on-clause-here g t c =
    let p = err_from_is_err_and c.from_residual-in_err-goes_on.result c.from_residual-in_err-goes_on.ensures.1 in
    here_passed c.from_residual-in_err-goes_on.result c.eval_read.result c.in_err-goes_on.field-0.0 p.0 c.args.tree.now c.set_walks.new.tree c.eval_read.new.tree c.args.place p.1 p.2 c.in_err-goes_on.ensures.0 (here-trans c.args.tree.now c.charge.new.tree c.set_walks.new.tree c.args.place (here-trans c.args.tree.now c.turns.tree c.charge.new.tree c.args.place c.turns.invariant.here (level_here c.turns.tree c.charge.new.tree c.args.place c.charge.ensures.level)) (level_here c.charge.new.tree c.set_walks.new.tree c.args.place c.set_walks.ensures.level)) c.eval_read.ensures.here

pub loops::walk_through-returns-then-not-branch-clause-here : goal.loops::walk_through-returns-then-not-branch-clause-here
loops::walk_through-returns-then-not-branch-clause-here g t c = here-trans c.args.tree.now c.set_walks.new.tree c.eval_read.new.tree c.args.place (here-trans c.args.tree.now c.charge.new.tree c.set_walks.new.tree c.args.place (here-trans c.args.tree.now c.turns.tree c.charge.new.tree c.args.place c.turns.invariant.here (level_here c.turns.tree c.charge.new.tree c.args.place c.charge.ensures.level)) (level_here c.charge.new.tree c.set_walks.new.tree c.args.place c.set_walks.ensures.level)) (here_in c.eval_read.result c.in_ok-goes_on.ensures.0 (IsHere c.set_walks.new.tree c.eval_read.new.tree c.args.place) c.in_ok-goes_on.ensures.1 c.eval_read.ensures.here)

pub loops::walk_through-returns-in_err-charge-clause-keeps : goal.loops::walk_through-returns-in_err-charge-clause-keeps
loops::walk_through-returns-in_err-charge-clause-keeps g t c = keeps-trans c.turns.invariant.keeps (charged_keeps c.charge.ensures.level c.charge.ensures.left)

pub loops::walk_through-returns-in_err-set_walks-clause-keeps : goal.loops::walk_through-returns-in_err-set_walks-clause-keeps
loops::walk_through-returns-in_err-set_walks-clause-keeps g t c = keeps-trans c.turns.invariant.keeps (keeps-trans (charged_keeps c.charge.ensures.level c.charge.ensures.left) (level_keeps _ c.set_walks.ensures.level))

pub collecting::lmap-returns-then-is_over-clause-here : goal.collecting::lmap-returns-then-is_over-clause-here
collecting::lmap-returns-then-is_over-clause-here g t c = on_completion c.collected.result (IsHere c.args.tree.now c.turns.tree c.args.place) c.turns.invariant.here

pub collecting::lmap-returns-in_err-charge-clause-here : goal.collecting::lmap-returns-in_err-charge-clause-here
collecting::lmap-returns-in_err-charge-clause-here g t c = on_completion c.from_residual-in_err-charge.result (IsHere c.args.tree.now c.charge.new.tree c.args.place) (here-trans c.args.tree.now c.turns.tree c.charge.new.tree c.args.place c.turns.invariant.here (level_here c.turns.tree c.charge.new.tree c.args.place c.charge.ensures.level))

pub collecting::lmap-returns-in_err-set_walks-clause-here : goal.collecting::lmap-returns-in_err-set_walks-clause-here
collecting::lmap-returns-in_err-set_walks-clause-here g t c = on_completion c.from_residual-in_err-set_walks.result (IsHere c.args.tree.now c.set_walks.new.tree c.args.place) (here-trans c.args.tree.now c.charge.new.tree c.set_walks.new.tree c.args.place (here-trans c.args.tree.now c.turns.tree c.charge.new.tree c.args.place c.turns.invariant.here (level_here c.turns.tree c.charge.new.tree c.args.place c.charge.ensures.level)) (level_here c.charge.new.tree c.set_walks.new.tree c.args.place c.set_walks.ensures.level))

pub collecting::lmap-returns-in_err-collects-clause-here : goal.collecting::lmap-returns-in_err-collects-clause-here
collecting::lmap-returns-in_err-collects-clause-here g t c =
    let p = err_from_is_err_and c.from_residual-in_err-collects.result c.from_residual-in_err-collects.ensures.1 in
    here_err c.from_residual-in_err-collects.result c.in_err-collects.field-0.0 p.0 c.args.tree.now c.set_walks.new.tree c.eval_read-ended.new.tree c.args.place p.1 p.2 (here-trans c.args.tree.now c.charge.new.tree c.set_walks.new.tree c.args.place (here-trans c.args.tree.now c.turns.tree c.charge.new.tree c.args.place c.turns.invariant.here (level_here c.turns.tree c.charge.new.tree c.args.place c.charge.ensures.level)) (level_here c.charge.new.tree c.set_walks.new.tree c.args.place c.set_walks.ensures.level)) (here_collected c.eval_read-ended.result c.in_err-collects.field-0.0 c.turns.made c.collects.new.made (IsHere c.set_walks.new.tree c.eval_read-ended.new.tree c.args.place) c.in_err-collects.ensures c.eval_read-ended.ensures.here)

pub collecting::lmap-returns-then-not-branch-clause-here : goal.collecting::lmap-returns-then-not-branch-clause-here
collecting::lmap-returns-then-not-branch-clause-here g t c = on_completion c.collected-then-not-branch.result (IsHere c.args.tree.now c.eval_read-ended.new.tree c.args.place) (here-trans c.args.tree.now c.set_walks.new.tree c.eval_read-ended.new.tree c.args.place (here-trans c.args.tree.now c.charge.new.tree c.set_walks.new.tree c.args.place (here-trans c.args.tree.now c.turns.tree c.charge.new.tree c.args.place c.turns.invariant.here (level_here c.turns.tree c.charge.new.tree c.args.place c.charge.ensures.level)) (level_here c.charge.new.tree c.set_walks.new.tree c.args.place c.set_walks.ensures.level)) (here_in c.eval_read-ended.result c.in_ok-collects.ensures.0 (IsHere c.set_walks.new.tree c.eval_read-ended.new.tree c.args.place) c.in_ok-collects.ensures.1 c.eval_read-ended.ensures.here))

pub collecting::lmap-returns-in_err-charge-clause-keeps : goal.collecting::lmap-returns-in_err-charge-clause-keeps
collecting::lmap-returns-in_err-charge-clause-keeps g t c = keeps-trans c.turns.invariant.keeps (charged_keeps c.charge.ensures.level c.charge.ensures.left)

pub collecting::lmap-returns-in_err-set_walks-clause-keeps : goal.collecting::lmap-returns-in_err-set_walks-clause-keeps
collecting::lmap-returns-in_err-set_walks-clause-keeps g t c = keeps-trans c.turns.invariant.keeps (keeps-trans (charged_keeps c.charge.ensures.level c.charge.ensures.left) (level_keeps _ c.set_walks.ensures.level))

pub loops::uplevel-returns-in_err-set_aside-clause-here : goal.loops::uplevel-returns-in_err-set_aside-clause-here
loops::uplevel-returns-in_err-set_aside-clause-here g t c = on_completion c.from_residual-in_err-set_aside.result (IsHere c.args.tree.now c.set_aside.new.tree c.args.place) (level_here c.args.tree.now c.set_aside.new.tree c.args.place c.set_aside.ensures.level)

pub loops::uplevel-returns-in_err-set_aside-clause-keeps : goal.loops::uplevel-returns-in_err-set_aside-clause-keeps
loops::uplevel-returns-in_err-set_aside-clause-keeps g t c = level_keeps _ c.set_aside.ensures.level

pub interpreters::interp-returns-in-Tree-clause-here : goal.interpreters::interp-returns-in-Tree-clause-here
interpreters::interp-returns-in-Tree-clause-here g t c = on_completion c.call_tree.result (IsHere c.args.tree.now c.call_tree.new.tree c.args.place) c.call_tree.ensures.here

pub interpreters::call_subcommand-returns-in_default-clause-here : goal.interpreters::call_subcommand-returns-in_default-clause-here
interpreters::call_subcommand-returns-in_default-clause-here g t c = on_completion c.call_shared.result (IsHere c.args.tree.now c.call_shared.new.tree c.args.place) c.call_shared.ensures.here

pub commands::call_builtin-returns-in-Rename-clause-here : goal.commands::call_builtin-returns-in-Rename-clause-here
commands::call_builtin-returns-in-Rename-clause-here g t c = on_completion c.rename.result (IsHere c.args.tree.now c.rename.new.tree c.args.place) c.rename.ensures.here

pub crossing::serve_entry-returns-in-Own-clause-here : goal.crossing::serve_entry-returns-in-Own-clause-here
crossing::serve_entry-returns-in-Own-clause-here g t c = on_completion c.serve.result (IsHere c.args.tree.now c.serve.new.tree c.args.place) c.serve.ensures.here

pub trying::handle-returns-in_default-clause-here : goal.trying::handle-returns-in_default-clause-here
trying::handle-returns-in_default-clause-here g t c = unmoved c.released.result c.args.tree.now c.args.place

pub trying::handle-returns-in_err-keep_named-clause-here : goal.trying::handle-returns-in_err-keep_named-clause-here
trying::handle-returns-in_err-keep_named-clause-here g t c = on_completion c.from_residual-in_err-keep_named.result (IsHere c.args.tree.now c.keep_named.new.tree c.args.place) (level_here c.args.tree.now c.keep_named.new.tree c.args.place c.keep_named.ensures.level)

pub trying::handle-returns-clause-here : goal.trying::handle-returns-clause-here
trying::handle-returns-clause-here g t c = here_then c.run_handler.result c.args.tree.now c.keep_named.new.tree c.run_handler.new.tree c.args.place (level_here c.args.tree.now c.keep_named.new.tree c.args.place c.keep_named.ensures.level) c.run_handler.ensures.here

pub trying::handle-returns-in_err-keep_named-clause-keeps : goal.trying::handle-returns-in_err-keep_named-clause-keeps
trying::handle-returns-in_err-keep_named-clause-keeps g t c = level_keeps _ c.keep_named.ensures.level

pub trying::handled-returns-in_err-completion-clause-here : goal.trying::handled-returns-in_err-completion-clause-here
trying::handled-returns-in_err-completion-clause-here g t c =
    let p = err_from_is_err_and c.from_residual.result c.from_residual.ensures.1 in
    completes_err c.from_residual.result c.in_err-completion.field-0.0 p.0 (IsHere c.args.tree.now c.eval_value.new.tree c.args.place) (IsHere c.args.tree.now c.eval_value.new.tree c.args.place) p.1 p.2
    (uncaught c.eval_value.result c.caught.result c.in_err-completion.field-0.0 (IsHere c.args.tree.now c.eval_value.new.tree c.args.place) c.in_err-completion.was c.caught.ensures) (λ h. h)

pub trying::handled-returns-clause-here : goal.trying::handled-returns-clause-here
trying::handled-returns-clause-here g t c = here_then c.handle.result c.args.tree.now c.eval_value.new.tree c.handle.new.tree c.args.place (here_caught c.eval_value.result c.caught.result c.in_ok-completion.completion c.args.tree.now c.eval_value.new.tree c.args.place c.in_ok-completion.was c.caught.ensures c.eval_value.ensures.here) c.handle.ensures.here

pub trying::try_script-returns-in_err-completion-clause-here : goal.trying::try_script-returns-in_err-completion-clause-here
trying::try_script-returns-in_err-completion-clause-here g t c =
    let p = err_from_is_err_and c.from_residual-in_err-completion.result c.from_residual-in_err-completion.ensures.1 in
    completes_err c.from_residual-in_err-completion.result c.in_err-completion.field-0.0 p.0 (IsHere c.args.tree.now c.handled-ended.new.tree c.args.place) (IsHere c.args.tree.now c.handled-ended.new.tree c.args.place) p.1 p.2
    (uncaught c.handled-ended.result c.caught.result c.in_err-completion.field-0.0 (IsHere c.args.tree.now c.handled-ended.new.tree c.args.place) c.in_err-completion.was c.caught.ensures) (λ h. h)

pub trying::try_script-returns-in_err-on_ok-clause-here : goal.trying::try_script-returns-in_err-on_ok-clause-here
trying::try_script-returns-in_err-on_ok-clause-here g t c =
    let p = err_from_is_err_and c.from_residual-in_err-on_ok.result c.from_residual-in_err-on_ok.ensures.1 in
    here_passed c.from_residual-in_err-on_ok.result c.eval_value.result c.in_err-on_ok.field-0.0 p.0 c.args.tree.now c.handled-ended.new.tree c.eval_value.new.tree c.args.place p.1 p.2 c.in_err-on_ok.ensures.same (here_caught c.handled-ended.result c.caught.result c.in_ok-completion.completion c.args.tree.now c.handled-ended.new.tree c.args.place c.in_ok-completion.was c.caught.ensures c.handled-ended.ensures.here) c.eval_value.ensures.here

pub trying::try_script-returns-clause-here : goal.trying::try_script-returns-clause-here
trying::try_script-returns-clause-here g t c = on_completion c.released.result (IsHere c.args.tree.now c.eval_value.new.tree c.args.place) (here-trans c.args.tree.now c.handled-ended.new.tree c.eval_value.new.tree c.args.place (here_caught c.handled-ended.result c.caught.result c.in_ok-completion.completion c.args.tree.now c.handled-ended.new.tree c.args.place c.in_ok-completion.was c.caught.ensures c.handled-ended.ensures.here) (here_text c.eval_value.result c.in_ok-on_ok.field-0 c.handled-ended.new.tree c.eval_value.new.tree c.args.place c.in_ok-on_ok.ensures.text c.eval_value.ensures.here))

pub hosting::ask-returns-in_err-reply-clause-here : goal.hosting::ask-returns-in_err-reply-clause-here
hosting::ask-returns-in_err-reply-clause-here g t c =
    let p = err_from_is_err_and c.from_residual-in_err-reply.result c.from_residual-in_err-reply.ensures.1 in
    here_err c.from_residual-in_err-reply.result c.in_err-reply.field-0.0 p.0 c.args.tree.now c.args.tree.now c.wait.new.tree c.args.place p.1 p.2 (here-refl c.args.tree.now c.args.place) c.in_err-reply.ensures.here

pub hosting::ask-returns-clause-here : goal.hosting::ask-returns-clause-here
hosting::ask-returns-clause-here g t c = c.in_ok-reply.ensures.here

pub hosting::make_call-returns-in_err-reply-clause-here : goal.hosting::make_call-returns-in_err-reply-clause-here
hosting::make_call-returns-in_err-reply-clause-here g t c =
    let p = err_from_is_err_and c.from_residual-in_err-reply.result c.from_residual-in_err-reply.ensures.1 in
    here_err c.from_residual-in_err-reply.result c.in_err-reply.field-0.0 p.0 c.args.tree.now c.args.tree.now c.ask.new.tree c.args.place p.1 p.2 (here-refl c.args.tree.now c.args.place) c.in_err-reply.ensures.here

pub hosting::make_call-returns-clause-here : goal.hosting::make_call-returns-clause-here
hosting::make_call-returns-clause-here g t c = on_completion c.answer.result (IsHere c.args.tree.now c.answer.new.tree c.args.place) (here-trans c.args.tree.now c.ask.new.tree c.answer.new.tree c.args.place c.in_ok-reply.ensures.here (level_here c.ask.new.tree c.answer.new.tree c.args.place c.answer.ensures.level))

pub sourcing::source_file-returns-in_err-script-clause-here : goal.sourcing::source_file-returns-in_err-script-clause-here
sourcing::source_file-returns-in_err-script-clause-here g t c =
    let p = err_from_is_err_and c.from_residual.result c.from_residual.ensures.1 in
    here_err c.from_residual.result c.in_err-script.field-0.0 p.0 c.args.tree.now c.args.tree.now c.read_file.new.tree c.args.place p.1 p.2 (here-refl c.args.tree.now c.args.place) c.in_err-script.ensures.here

pub sourcing::source_file-returns-clause-here : goal.sourcing::source_file-returns-clause-here
sourcing::source_file-returns-clause-here g t c = here_then c.eval_file.result c.args.tree.now c.read_file.new.tree c.eval_file.new.tree c.args.place c.in_ok-script.ensures.here c.eval_file.ensures.here

pub sourcing::read_file-returns-in_err-reply-clause-here : goal.sourcing::read_file-returns-in_err-reply-clause-here
sourcing::read_file-returns-in_err-reply-clause-here g t c =
    let p = err_from_is_err_and c.from_residual-in_err-reply.result c.from_residual-in_err-reply.ensures.1 in
    here_err c.from_residual-in_err-reply.result c.in_err-reply.field-0.0 p.0 c.args.tree.now c.args.tree.now c.ask.new.tree c.args.place p.1 p.2 (here-refl c.args.tree.now c.args.place) c.in_err-reply.ensures.here

pub sourcing::read_file-returns-in_err-channel-clause-here : goal.sourcing::read_file-returns-in_err-channel-clause-here
sourcing::read_file-returns-in_err-channel-clause-here g t c = on_completion c.from_residual-in_err-channel.result (IsHere c.args.tree.now c.ask.new.tree c.args.place) c.in_ok-reply.ensures.here

pub sourcing::read_file-returns-clause-here : goal.sourcing::read_file-returns-clause-here
sourcing::read_file-returns-clause-here g t c = here_then c.read_channel.result c.args.tree.now c.ask.new.tree c.read_channel.new.tree c.args.place c.in_ok-reply.ensures.here c.read_channel.ensures.here

pub sourcing::read_channel-returns-in_err-read-clause-here : goal.sourcing::read_channel-returns-in_err-read-clause-here
sourcing::read_channel-returns-in_err-read-clause-here g t c =
    let p = err_from_is_err_and c.from_residual-in_err-read.result c.from_residual-in_err-read.ensures.1 in
    here_err c.from_residual-in_err-read.result c.in_err-read.field-0.0 p.0 c.args.tree.now c.args.tree.now c.ask.new.tree c.args.place p.1 p.2 (here-refl c.args.tree.now c.args.place) c.in_err-read.ensures.here

pub sourcing::read_channel-returns-in_err-closed-clause-here : goal.sourcing::read_channel-returns-in_err-closed-clause-here
sourcing::read_channel-returns-in_err-closed-clause-here g t c =
    let p = err_from_is_err_and c.from_residual-in_err-closed.result c.from_residual-in_err-closed.ensures.1 in
    here_err c.from_residual-in_err-closed.result c.in_err-closed.field-0.0 p.0 c.args.tree.now c.ask.new.tree c.ask-2.new.tree c.args.place p.1 p.2 c.in_ok-read.ensures.here c.in_err-closed.ensures.here

pub sourcing::read_channel-returns-clause-here : goal.sourcing::read_channel-returns-clause-here
sourcing::read_channel-returns-clause-here g t c = on_completion c.script_of_file.result (IsHere c.args.tree.now c.ask-2.new.tree c.args.place) (here-trans c.args.tree.now c.ask.new.tree c.ask-2.new.tree c.args.place c.in_ok-read.ensures.here c.in_ok-closed.ensures.here)

pub sourcing::eval_file-returns-clause-here : goal.sourcing::eval_file-returns-clause-here
sourcing::eval_file-returns-clause-here g t c = here_left_file c.eval_value-ended.result c.left_file.result (IsHere c.args.tree.now c.eval_value-ended.new.tree c.args.place) c.left_file.ensures c.eval_value-ended.ensures.here

pub children::child-returns-in_err-name-clause-here : goal.children::child-returns-in_err-name-clause-here
children::child-returns-in_err-name-clause-here g t c = unmoved c.from_residual.result c.args.tree.now c.args.place

pub children::child-returns-in_err-text-clause-here : goal.children::child-returns-in_err-text-clause-here
children::child-returns-in_err-text-clause-here g t c = unmoved c.from_residual-in_err-text.result c.args.tree.now c.args.place

pub collecting::lmap-returns-in_err-script-clause-here : goal.collecting::lmap-returns-in_err-script-clause-here
collecting::lmap-returns-in_err-script-clause-here g t c = unmoved c.from_residual-in_err-script.result c.args.tree.now c.args.place

pub collecting::lmap-returns-in_err-made-clause-here : goal.collecting::lmap-returns-in_err-made-clause-here
collecting::lmap-returns-in_err-made-clause-here g t c = unmoved c.from_residual-in_err-made.result c.args.tree.now c.args.place

pub collecting::lmap-returns-in_err-walks-clause-here : goal.collecting::lmap-returns-in_err-walks-clause-here
collecting::lmap-returns-in_err-walks-clause-here g t c = unmoved c.from_residual.result c.args.tree.now c.args.place

pub commands::call-returns-in_err-command-clause-here : goal.commands::call-returns-in_err-command-clause-here
commands::call-returns-in_err-command-clause-here g t c = unmoved c.from_residual.result c.args.tree.now c.args.place

pub commands::call_hidden-returns-in_err-command-clause-here : goal.commands::call_hidden-returns-in_err-command-clause-here
commands::call_hidden-returns-in_err-command-clause-here g t c = unmoved c.from_residual.result c.args.tree.now c.args.place

pub control::eval-returns-in_err-script-clause-here : goal.control::eval-returns-in_err-script-clause-here
control::eval-returns-in_err-script-clause-here g t c = unmoved c.from_residual.result c.args.tree.now c.args.place

pub crossing::call_alias-returns-in_err-entry-clause-here : goal.crossing::call_alias-returns-in_err-entry-clause-here
crossing::call_alias-returns-in_err-entry-clause-here g t c = unmoved c.from_residual.result c.args.tree.now c.args.place

pub crossing::serve_call-returns-in_err-words-clause-here : goal.crossing::serve_call-returns-in_err-words-clause-here
crossing::serve_call-returns-in_err-words-clause-here g t c = unmoved c.from_residual.result c.args.tree.now c.args.place

pub crossing::serve_hidden-returns-in_err-words-clause-here : goal.crossing::serve_hidden-returns-in_err-words-clause-here
crossing::serve_hidden-returns-in_err-words-clause-here g t c = unmoved c.from_residual.result c.args.tree.now c.args.place

pub evaluation::eval_lone_part-returns-in_err-clone-in-Literal-clause-here : goal.evaluation::eval_lone_part-returns-in_err-clone-in-Literal-clause-here
evaluation::eval_lone_part-returns-in_err-clone-in-Literal-clause-here g t c = unmoved c.from_residual.result c.args.tree.now c.args.place

pub evaluation::eval_part-returns-in_err-value-in-Variable-clause-here : goal.evaluation::eval_part-returns-in_err-value-in-Variable-clause-here
evaluation::eval_part-returns-in_err-value-in-Variable-clause-here g t c = unmoved c.from_residual.result c.args.tree.now c.args.place

pub evaluation::eval_text-returns-in_err-script-clause-here : goal.evaluation::eval_text-returns-in_err-script-clause-here
evaluation::eval_text-returns-in_err-script-clause-here g t c = unmoved c.from_residual.result c.args.tree.now c.args.place

pub evaluation::eval_value-returns-in_err-script-clause-here : goal.evaluation::eval_value-returns-in_err-script-clause-here
evaluation::eval_value-returns-in_err-script-clause-here g t c = unmoved c.from_residual.result c.args.tree.now c.args.place

pub expressions::expr-returns-in_err-kept-clause-here : goal.expressions::expr-returns-in_err-kept-clause-here
expressions::expr-returns-in_err-kept-clause-here g t c = unmoved c.from_residual-in_err-kept.result c.args.tree.now c.args.place

pub expressions::expr-returns-in_err-text-clause-here : goal.expressions::expr-returns-in_err-text-clause-here
expressions::expr-returns-in_err-text-clause-here g t c = unmoved c.from_residual.result c.args.tree.now c.args.place

pub expressions::if_many-returns-in_err-branches-clause-here : goal.expressions::if_many-returns-in_err-branches-clause-here
expressions::if_many-returns-in_err-branches-clause-here g t c = unmoved c.from_residual.result c.args.tree.now c.args.place

pub expressions::while_loop-returns-in_err-script-clause-here : goal.expressions::while_loop-returns-in_err-script-clause-here
expressions::while_loop-returns-in_err-script-clause-here g t c = unmoved c.from_residual-in_err-script.result c.args.tree.now c.args.place

pub expressions::while_loop-returns-in_err-test-clause-here : goal.expressions::while_loop-returns-in_err-test-clause-here
expressions::while_loop-returns-in_err-test-clause-here g t c = unmoved c.from_residual.result c.args.tree.now c.args.place

pub hosting::ask-returns-in_err-notify-clause-here : goal.hosting::ask-returns-in_err-notify-clause-here
hosting::ask-returns-in_err-notify-clause-here g t c = unmoved c.from_residual.result c.args.tree.now c.args.place

pub hosting::call_host-returns-in_err-call-clause-here : goal.hosting::call_host-returns-in_err-call-clause-here
hosting::call_host-returns-in_err-call-clause-here g t c = unmoved c.from_residual.result c.args.tree.now c.args.place

pub hosting::make_call-returns-in_err-request-clause-here : goal.hosting::make_call-returns-in_err-request-clause-here
hosting::make_call-returns-in_err-request-clause-here g t c = unmoved c.from_residual.result c.args.tree.now c.args.place

pub hosting::put_line-returns-in_err-line-clause-here : goal.hosting::put_line-returns-in_err-line-clause-here
hosting::put_line-returns-in_err-line-clause-here g t c = unmoved c.from_residual.result c.args.tree.now c.args.place

pub hosting::puts-returns-in_err-stdout-in-len1-clause-here : goal.hosting::puts-returns-in_err-stdout-in-len1-clause-here
hosting::puts-returns-in_err-stdout-in-len1-clause-here g t c = unmoved c.from_residual.result c.args.tree.now c.args.place

pub hosting::puts-returns-in_err-stdout-in-len2-clause-here : goal.hosting::puts-returns-in_err-stdout-in-len2-clause-here
hosting::puts-returns-in_err-stdout-in-len2-clause-here g t c = unmoved c.from_residual-in_err-stdout-in-len2.result c.args.tree.now c.args.place

pub hosting::puts-returns-in_err-text-in-len3-clause-here : goal.hosting::puts-returns-in_err-text-in-len3-clause-here
hosting::puts-returns-in_err-text-in-len3-clause-here g t c = unmoved c.from_residual-in_err-text-in-len3.result c.args.tree.now c.args.place

pub hosting::puts-returns-in_err-text-in-len3-2-clause-here : goal.hosting::puts-returns-in_err-text-in-len3-2-clause-here
hosting::puts-returns-in_err-text-in-len3-2-clause-here g t c = unmoved c.from_residual-in_err-text-in-len3-2.result c.args.tree.now c.args.place

pub hosting::puts-returns-in_err-word-in-len2-clause-here : goal.hosting::puts-returns-in_err-word-in-len2-clause-here
hosting::puts-returns-in_err-word-in-len2-clause-here g t c = unmoved c.from_residual-in_err-word-in-len2.result c.args.tree.now c.args.place

pub hosting::write-returns-in_err-clone-clause-here : goal.hosting::write-returns-in_err-clone-clause-here
hosting::write-returns-in_err-clone-clause-here g t c = unmoved c.from_residual.result c.args.tree.now c.args.place

pub hosting::write-returns-in_err-text-clause-here : goal.hosting::write-returns-in_err-text-clause-here
hosting::write-returns-in_err-text-clause-here g t c = unmoved c.from_residual-in_err-text.result c.args.tree.now c.args.place

pub interpreters::eval_in-returns-in_err-path-clause-here : goal.interpreters::eval_in-returns-in_err-path-clause-here
interpreters::eval_in-returns-in_err-path-clause-here g t c = unmoved c.from_residual.result c.args.tree.now c.args.place

pub interpreters::eval_in-returns-in_err-script-clause-here : goal.interpreters::eval_in-returns-in_err-script-clause-here
interpreters::eval_in-returns-in_err-script-clause-here g t c = unmoved c.from_residual-in_err-script.result c.args.tree.now c.args.place

pub interpreters::interp-returns-in_err-name-clause-here : goal.interpreters::interp-returns-in_err-name-clause-here
interpreters::interp-returns-in_err-name-clause-here g t c = unmoved c.from_residual.result c.args.tree.now c.args.place

pub interpreters::invoke_hidden-returns-in_err-call-clause-here : goal.interpreters::invoke_hidden-returns-in_err-call-clause-here
interpreters::invoke_hidden-returns-in_err-call-clause-here g t c = unmoved c.from_residual.result c.args.tree.now c.args.place

pub interpreters::invoke_hidden-returns-in_err-path-clause-here : goal.interpreters::invoke_hidden-returns-in_err-path-clause-here
interpreters::invoke_hidden-returns-in_err-path-clause-here g t c = unmoved c.from_residual-in_err-path.result c.args.tree.now c.args.place

pub loops::dict_for-returns-in_err-walks-clause-here : goal.loops::dict_for-returns-in_err-walks-clause-here
loops::dict_for-returns-in_err-walks-clause-here g t c = unmoved c.from_residual.result c.args.tree.now c.args.place

pub loops::foreach-returns-in_err-walks-clause-here : goal.loops::foreach-returns-in_err-walks-clause-here
loops::foreach-returns-in_err-walks-clause-here g t c = unmoved c.from_residual.result c.args.tree.now c.args.place

pub loops::uplevel-returns-in_err-level-clause-here : goal.loops::uplevel-returns-in_err-level-clause-here
loops::uplevel-returns-in_err-level-clause-here g t c = unmoved c.from_residual.result c.args.tree.now c.args.place

pub loops::uplevel-returns-in_err-script-clause-here : goal.loops::uplevel-returns-in_err-script-clause-here
loops::uplevel-returns-in_err-script-clause-here g t c = unmoved c.from_residual-in_err-script.result c.args.tree.now c.args.place

pub sourcing::read_channel-returns-in_err-clone-clause-here : goal.sourcing::read_channel-returns-in_err-clone-clause-here
sourcing::read_channel-returns-in_err-clone-clause-here g t c = unmoved c.from_residual.result c.args.tree.now c.args.place

pub sourcing::read_channel-returns-in_err-clone-2-clause-here : goal.sourcing::read_channel-returns-in_err-clone-2-clause-here
sourcing::read_channel-returns-in_err-clone-2-clause-here g t c = unmoved c.from_residual-in_err-clone-2.result c.args.tree.now c.args.place

pub sourcing::read_file-returns-in_err-clone-clause-here : goal.sourcing::read_file-returns-in_err-clone-clause-here
sourcing::read_file-returns-in_err-clone-clause-here g t c = unmoved c.from_residual.result c.args.tree.now c.args.place

pub sourcing::source-returns-in_err-text-in-len1-clause-here : goal.sourcing::source-returns-in_err-text-in-len1-clause-here
sourcing::source-returns-in_err-text-in-len1-clause-here g t c = unmoved c.from_residual.result c.args.tree.now c.args.place

pub switching::switch-returns-in_err-body-clause-here : goal.switching::switch-returns-in_err-body-clause-here
switching::switch-returns-in_err-body-clause-here g t c = unmoved c.from_residual.result c.args.tree.now c.args.place

pub trying::handle-returns-in_err-names-clause-here : goal.trying::handle-returns-in_err-names-clause-here
trying::handle-returns-in_err-names-clause-here g t c = unmoved c.from_residual.result c.args.tree.now c.args.place

pub trying::try_script-returns-in_err-tried-clause-here : goal.trying::try_script-returns-in_err-tried-clause-here
trying::try_script-returns-in_err-tried-clause-here g t c = unmoved c.from_residual.result c.args.tree.now c.args.place

pub crossing::call_there-returns-in_err-notify-clause-here : goal.crossing::call_there-returns-in_err-notify-clause-here
crossing::call_there-returns-in_err-notify-clause-here g t c = unmoved c.from_residual.result c.args.tree.now c.args.caller

pub crossing::call_there-returns-clause-here : goal.crossing::call_there-returns-clause-here
crossing::call_there-returns-clause-here g t c =
    OnCompletion-more c.return_to_caller.result (IsStanding c.serve_entry-ended.new.tree c.args.caller) (IsHere c.args.tree.now c.serve_entry-ended.new.tree c.args.caller)
    (λ h. called_here c.args.tree.now c.serve_entry-ended.new.tree c.args.caller c.serve_entry-ended.ensures.keeps.steady c.requires.running h) c.return_to_caller.ensures.stands

pub crossing::call_past_top-returns-in_err-notify-clause-here : goal.crossing::call_past_top-returns-in_err-notify-clause-here
crossing::call_past_top-returns-in_err-notify-clause-here g t c = unmoved c.from_residual.result c.args.tree.now c.args.caller

pub crossing::call_past_top-returns-in_err-value-clause-here : goal.crossing::call_past_top-returns-in_err-value-clause-here
crossing::call_past_top-returns-in_err-value-clause-here g t c =
    let p = err_from_is_err_and c.from_residual-in_err-value.result c.from_residual-in_err-value.ensures.1 in
    here_err c.from_residual-in_err-value.result c.in_err-value.field-0.0 p.0 c.args.tree.now c.args.tree.now c.wait.new.tree c.args.caller p.1 p.2 (here-refl c.args.tree.now c.args.caller) c.in_err-value.ensures.here

pub crossing::call_past_top-returns-in-Missed-clause-runs : goal.crossing::call_past_top-returns-in-Missed-clause-runs
crossing::call_past_top-returns-in-Missed-clause-runs g t c =
    Awaited.calls_out_missed (ways g.O.Outside.goes g.O.Outside.loses) c.args.tree.now c.wait.new.tree c.args.outside.now c.notify.new.self c.wait.new.outside c.args.caller (Some c.args.up) c.args.down.now (whole_entry c.args.entry) (failing (lost_alias c.args.word.now))
    (λ q at e. c.in_ok-notify.ensures.told q at e) c.requires.above c.lost_call.result c.lost_call.ensures
    (subst (SaysOn (ways g.O.Outside.goes g.O.Outside.loses) c.args.tree.now c.notify.new.self c.args.caller (Some c.args.up) (whole_entry c.args.entry) c.wait.new.tree c.wait.new.outside) c.in-Missed.is c.in_ok-value.ensures.runs)

pub crossing::call_past_top-returns-in-Completed-clause-here : goal.crossing::call_past_top-returns-in-Completed-clause-here
crossing::call_past_top-returns-in-Completed-clause-here g t c = c.in_ok-value.ensures.here

pub crossing::call_past_top-returns-in-Missed-clause-here : goal.crossing::call_past_top-returns-in-Missed-clause-here
crossing::call_past_top-returns-in-Missed-clause-here g t c = Completes-all c.lost_call.result (IsHere c.args.tree.now c.wait.new.tree c.args.caller) c.in_ok-value.ensures.here

pub crossing::call_alias-returns-in-Missing-clause-here : goal.crossing::call_alias-returns-in-Missing-clause-here
crossing::call_alias-returns-in-Missing-clause-here g t c = unmoved c.miss_alias.result c.args.tree.now c.args.place

pub crossing::ask_below-returns-in-Missing-clause-here : goal.crossing::ask_below-returns-in-Missing-clause-here
crossing::ask_below-returns-in-Missing-clause-here g t c = unmoved c.find_nobody.result c.args.tree.now c.args.place

pub commands::call_procedure-returns-then-not-branch-clause-here : goal.commands::call_procedure-returns-then-not-branch-clause-here
commands::call_procedure-returns-then-not-branch-clause-here g t c = Completes-all c.wrong_form.result (IsHere c.args.tree.now c.enter.new.tree c.args.place) (level_here c.args.tree.now c.enter.new.tree c.args.place c.enter.ensures.level)

pub control::catch-returns-in_default-clause-here : goal.control::catch-returns-in_default-clause-here
control::catch-returns-in_default-clause-here g t c = Completes-all c.wrong_args.result (IsHere c.args.tree.now c.args.tree.now c.args.place) (here-refl c.args.tree.now c.args.place)

pub control::catch-returns-then-names-gt2-clause-here : goal.control::catch-returns-then-names-gt2-clause-here
control::catch-returns-then-names-gt2-clause-here g t c = Completes-all c.wrong_args-then-names-gt2.result (IsHere c.args.tree.now c.args.tree.now c.args.place) (here-refl c.args.tree.now c.args.place)

pub control::eval-returns-then-is_empty-clause-here : goal.control::eval-returns-then-is_empty-clause-here
control::eval-returns-then-is_empty-clause-here g t c = Completes-all c.wrong_args.result (IsHere c.args.tree.now c.args.tree.now c.args.place) (here-refl c.args.tree.now c.args.place)

pub expressions::expr-returns-then-is_empty-clause-here : goal.expressions::expr-returns-then-is_empty-clause-here
expressions::expr-returns-then-is_empty-clause-here g t c = Completes-all c.wrong_args.result (IsHere c.args.tree.now c.args.tree.now c.args.place) (here-refl c.args.tree.now c.args.place)

pub expressions::if_many-returns-in_default-clause-here : goal.expressions::if_many-returns-in_default-clause-here
expressions::if_many-returns-in_default-clause-here g t c = Completes-all c.wrong_args.result (IsHere c.args.tree.now c.args.tree.now c.args.place) (here-refl c.args.tree.now c.args.place)

pub expressions::while_loop-returns-in_default-clause-here : goal.expressions::while_loop-returns-in_default-clause-here
expressions::while_loop-returns-in_default-clause-here g t c = Completes-all c.wrong_args.result (IsHere c.args.tree.now c.args.tree.now c.args.place) (here-refl c.args.tree.now c.args.place)

pub expressions::for_loop-returns-in_default-clause-here : goal.expressions::for_loop-returns-in_default-clause-here
expressions::for_loop-returns-in_default-clause-here g t c = Completes-all c.wrong_args.result (IsHere c.args.tree.now c.args.tree.now c.args.place) (here-refl c.args.tree.now c.args.place)

pub loops::foreach-returns-in_default-clause-here : goal.loops::foreach-returns-in_default-clause-here
loops::foreach-returns-in_default-clause-here g t c = Completes-all c.wrong_args.result (IsHere c.args.tree.now c.args.tree.now c.args.place) (here-refl c.args.tree.now c.args.place)

pub collecting::lmap-returns-in_default-clause-here : goal.collecting::lmap-returns-in_default-clause-here
collecting::lmap-returns-in_default-clause-here g t c = Completes-all c.wrong_args.result (IsHere c.args.tree.now c.args.tree.now c.args.place) (here-refl c.args.tree.now c.args.place)

pub interpreters::interp-returns-in_default-clause-here : goal.interpreters::interp-returns-in_default-clause-here
interpreters::interp-returns-in_default-clause-here g t c = Completes-all c.wrong_args.result (IsHere c.args.tree.now c.args.tree.now c.args.place) (here-refl c.args.tree.now c.args.place)

pub interpreters::interp-returns-in_default-interp_subcommand-clause-here : goal.interpreters::interp-returns-in_default-interp_subcommand-clause-here
interpreters::interp-returns-in_default-interp_subcommand-clause-here g t c = Completes-all c.unknown_subcommand.result (IsHere c.args.tree.now c.args.tree.now c.args.place) (here-refl c.args.tree.now c.args.place)

pub interpreters::eval_in-returns-then-is_empty-clause-here : goal.interpreters::eval_in-returns-then-is_empty-clause-here
interpreters::eval_in-returns-then-is_empty-clause-here g t c = Completes-all c.wrong_words.result (IsHere c.args.tree.now c.args.tree.now c.args.place) (here-refl c.args.tree.now c.args.place)

pub children::child-returns-in_default-clause-here : goal.children::child-returns-in_default-clause-here
children::child-returns-in_default-clause-here g t c = Completes-all c.wrong_child_args.result (IsHere c.args.tree.now c.args.tree.now c.args.place) (here-refl c.args.tree.now c.args.place)

pub children::child-returns-in_default-child_subcommand-clause-here : goal.children::child-returns-in_default-child_subcommand-clause-here
children::child-returns-in_default-child_subcommand-clause-here g t c = Completes-all c.unknown_subcommand.result (IsHere c.args.tree.now c.args.tree.now c.args.place) (here-refl c.args.tree.now c.args.place)

pub trying::try_script-returns-in_default-clause-here : goal.trying::try_script-returns-in_default-clause-here
trying::try_script-returns-in_default-clause-here g t c = Completes-all c.wrong_args.result (IsHere c.args.tree.now c.args.tree.now c.args.place) (here-refl c.args.tree.now c.args.place)

pub hosting::put_line-returns-in-Err-TooLong-clause-here : goal.hosting::put_line-returns-in-Err-TooLong-clause-here
hosting::put_line-returns-in-Err-TooLong-clause-here g t c = Completes-all c.too_long.result (IsHere c.args.tree.now c.args.tree.now c.args.place) (here-refl c.args.tree.now c.args.place)

pub hosting::puts-returns-else-eq-2-clause-here : goal.hosting::puts-returns-else-eq-2-clause-here
hosting::puts-returns-else-eq-2-clause-here g t c = Completes-all c.wrong_args.result (IsHere c.args.tree.now c.args.tree.now c.args.place) (here-refl c.args.tree.now c.args.place)

pub hosting::puts-returns-in_default-clause-here : goal.hosting::puts-returns-in_default-clause-here
hosting::puts-returns-in_default-clause-here g t c = Completes-all c.wrong_args-in_default.result (IsHere c.args.tree.now c.args.tree.now c.args.place) (here-refl c.args.tree.now c.args.place)

pub sourcing::source-returns-in_default-clause-here : goal.sourcing::source-returns-in_default-clause-here
sourcing::source-returns-in_default-clause-here g t c = Completes-all c.wrong_args.result (IsHere c.args.tree.now c.args.tree.now c.args.place) (here-refl c.args.tree.now c.args.place)

pub crossing::serve_entry-returns-clause-here : goal.crossing::serve_entry-returns-clause-here
crossing::serve_entry-returns-clause-here g t c = Completes-all c.denied.result (IsHere c.args.tree.now c.args.tree.now c.args.place) (here-refl c.args.tree.now c.args.place)

pub commands::call-returns-in_default-clause-here : goal.commands::call-returns-in_default-clause-here
commands::call-returns-in_default-clause-here g t c = here-refl c.args.tree.now c.args.place

pub commands::call_hidden-returns-in_default-clause-here : goal.commands::call_hidden-returns-in_default-clause-here
commands::call_hidden-returns-in_default-clause-here g t c = here-refl c.args.tree.now c.args.place

pub evaluation::eval_lone_part-returns-in-Element-clause-here : goal.evaluation::eval_lone_part-returns-in-Element-clause-here
evaluation::eval_lone_part-returns-in-Element-clause-here g t c = here-refl c.args.tree.now c.args.place

pub evaluation::eval_lone_part-returns-in-EndElement-clause-here : goal.evaluation::eval_lone_part-returns-in-EndElement-clause-here
evaluation::eval_lone_part-returns-in-EndElement-clause-here g t c = here-refl c.args.tree.now c.args.place

pub trying::run_handler-returns-in_default-clause-here : goal.trying::run_handler-returns-in_default-clause-here
trying::run_handler-returns-in_default-clause-here g t c = here-refl c.args.tree.now c.args.place

pub switching::switch-returns-in_default-clause-here : goal.switching::switch-returns-in_default-clause-here
switching::switch-returns-in_default-clause-here g t c = here-refl c.args.tree.now c.args.place

-- # Calls that pass the top of the tree, and what is handed in

pub waiting::enter-serve_entry-requires : goal.waiting::enter-serve_entry-requires
waiting::enter-serve_entry-requires g t c κs within = (search rules, (search rules, (c.args.target.now, c.requires)))

pub waiting::enter-returns-clause-runs : goal.waiting::enter-returns-clause-runs
waiting::enter-returns-clause-runs g t c =
    Awaited.enters_there (ways g.O.Outside.goes g.O.Outside.loses) c.args.tree.now c.serve_entry.new.tree c.args.outside.now c.serve_entry.new.outside c.args.place c.args.target.now (whole_entry c.args.entry) c.serve_entry.result
    c.requires c.serve_entry.ensures.runs

pub waiting::hand_to-enter-ended-requires : goal.waiting::hand_to-enter-ended-requires
waiting::hand_to-enter-ended-requires g t c κs within = (search rules, (search rules, c.requires.there))

pub waiting::hand_to-returns-in_err-notify-clause-runs : goal.waiting::hand_to-returns-in_err-notify-clause-runs
waiting::hand_to-returns-in_err-notify-clause-runs g t c =
    let p = err_from_is_err_and c.from_residual.result c.from_residual.ensures.1 in
    Awaited.handed_over (ways g.O.Outside.goes g.O.Outside.loses) c.args.tree.now c.enter-ended.new.tree c.args.outside.now c.enter-ended.new.outside c.args.place c.args.up (whole_entry c.args.entry.now) c.args.path.now c.args.there c.requires.there (whole_entry c.args.inner) c.enter-ended.result c.enter-ended.ensures.runs
    c.notify.new.self c.from_residual.result p.0 p.1 p.2 (lost_once c.notify.ensures.lost)

pub waiting::hand_to-returns-in_err-notify-clause-quits : goal.waiting::hand_to-returns-in_err-notify-clause-quits
waiting::hand_to-returns-in_err-notify-clause-quits g t c =
    let p = err_from_is_err_and c.from_residual.result c.from_residual.ensures.1 in
    Awaited.memory_quits c.from_residual.result p.0 p.1 p.2

pub waiting::hand_to-returns-in_err-status-clause-runs : goal.waiting::hand_to-returns-in_err-status-clause-runs
waiting::hand_to-returns-in_err-status-clause-runs g t c =
    let p = err_from_is_err_and c.from_residual-in_err-status.result c.from_residual-in_err-status.ensures.1 in
    Awaited.handed_over (ways g.O.Outside.goes g.O.Outside.loses) c.args.tree.now c.enter-ended.new.tree c.args.outside.now c.enter-ended.new.outside c.args.place c.args.up (whole_entry c.args.entry.now) c.args.path.now c.args.there c.requires.there (whole_entry c.args.inner) c.enter-ended.result c.enter-ended.ensures.runs
    c.notify.new.self c.from_residual-in_err-status.result p.0 p.1 p.2 (lost_once c.notify.ensures.lost)

pub waiting::hand_to-returns-in_err-status-clause-quits : goal.waiting::hand_to-returns-in_err-status-clause-quits
waiting::hand_to-returns-in_err-status-clause-quits g t c =
    let p = err_from_is_err_and c.from_residual-in_err-status.result c.from_residual-in_err-status.ensures.1 in
    Awaited.memory_quits c.from_residual-in_err-status.result p.0 p.1 p.2

pub waiting::hand_to-returns-in_err-notify-2-clause-runs : goal.waiting::hand_to-returns-in_err-notify-2-clause-runs
waiting::hand_to-returns-in_err-notify-2-clause-runs g t c =
    let p = err_from_is_err_and c.from_residual-in_err-notify-2.result c.from_residual-in_err-notify-2.ensures.1 in
    Awaited.handed_over (ways g.O.Outside.goes g.O.Outside.loses) c.args.tree.now c.enter-ended.new.tree c.args.outside.now c.enter-ended.new.outside c.args.place c.args.up (whole_entry c.args.entry.now) c.args.path.now c.args.there c.requires.there (whole_entry c.args.inner) c.enter-ended.result c.enter-ended.ensures.runs
    c.notify-2.new.self c.from_residual-in_err-notify-2.result p.0 p.1 p.2 (lost_again c.notify.new.self c.notify.ensures.lost c.notify-2.ensures.lost)

pub waiting::hand_to-returns-in_err-notify-2-clause-quits : goal.waiting::hand_to-returns-in_err-notify-2-clause-quits
waiting::hand_to-returns-in_err-notify-2-clause-quits g t c =
    let p = err_from_is_err_and c.from_residual-in_err-notify-2.result c.from_residual-in_err-notify-2.ensures.1 in
    Awaited.memory_quits c.from_residual-in_err-notify-2.result p.0 p.1 p.2

pub waiting::hand_to-returns-in_default-clause-runs : goal.waiting::hand_to-returns-in_default-clause-runs
waiting::hand_to-returns-in_default-clause-runs g t c =
    Awaited.handed_on (ways g.O.Outside.goes g.O.Outside.loses) c.args.tree.now c.enter-ended.new.tree c.args.outside.now c.enter-ended.new.outside c.args.place c.args.up (whole_entry c.args.entry.now) c.args.path.now c.args.there c.requires.there (whole_entry c.args.inner) c.enter-ended.result c.enter-ended.ensures.runs
    c.notify.new.self c.in_ok-status.field-0 c.in_default.is c.in_ok-notify.ensures.told c.in_ok-status.ensures

pub waiting::hand_to-returns-clause-runs : goal.waiting::hand_to-returns-clause-runs
waiting::hand_to-returns-clause-runs g t c =
    let fits_it : FitsSigned w64 c.in-Some.status = search rules in
    let same = to_z-of_z w64 c.in-Some.status fits_it in
    Awaited.handed_out (ways g.O.Outside.goes g.O.Outside.loses) c.args.tree.now c.enter-ended.new.tree c.args.outside.now c.enter-ended.new.outside c.args.place c.args.up (whole_entry c.args.entry.now) c.args.path.now c.args.there c.requires.there (whole_entry c.args.inner) c.enter-ended.result c.enter-ended.ensures.runs
    c.notify.new.self c.notify-2.new.self _ c.in_ok-status.field-0 (c.in-Some.is ∙ ap (λ (n : ℤ). Some n) (sym same)) c.in_ok-notify.ensures.told c.in_ok-status.ensures
    (λ p d holds e. c.in_ok-notify-2.ensures.told c.requires.handed p d holds e) c.enter-ended.ensures.keeps.steady

pub waiting::hand_in-hand_to-requires : goal.waiting::hand_in-hand_to-requires
waiting::hand_in-hand_to-requires g t c κs within = (search rules, (search rules, (c.requires.handed, c.in-Some.ensures.there)))

pub waiting::hand_in-returns-in-Some-clause-runs : goal.waiting::hand_in-returns-in-Some-clause-runs
waiting::hand_in-returns-in-Some-clause-runs g t c =
    Awaited.handed_at (ways g.O.Outside.goes g.O.Outside.loses) c.args.tree.now c.hand_to.new.tree c.args.outside.now c.hand_to.new.outside c.args.place c.args.up (whole_entry c.args.entry.now) c.as_slice-path.result.now c.args.target.items (whole_entry c.args.inner) c.hand_to.result c.as_slice-path.ensures.value c.hand_to.ensures.runs

pub waiting::hand_in-returns-in_err-miss_entry-in-None-clause-runs : goal.waiting::hand_in-returns-in_err-miss_entry-in-None-clause-runs
waiting::hand_in-returns-in_err-miss_entry-in-None-clause-runs g t c =
    let p = err_from_is_err_and c.from_residual.result c.from_residual.ensures.1 in
    Awaited.handed_at (ways g.O.Outside.goes g.O.Outside.loses) c.args.tree.now c.args.tree.now c.args.outside.now c.miss_entry.new.outside c.args.place c.args.up (whole_entry c.args.entry.now) c.as_slice-path.result.now c.args.target.items (whole_entry c.args.inner) c.from_residual.result c.as_slice-path.ensures.value
    (Awaited.handed_early (ways g.O.Outside.goes g.O.Outside.loses) c.args.tree.now c.args.outside.now c.args.place c.args.up (whole_entry c.args.entry.now) c.as_slice-path.result.now (whole_entry c.args.inner) c.miss_entry.new.outside c.from_residual.result p.0 p.1 p.2 c.miss_entry.ensures.lost)

pub waiting::hand_in-returns-in_err-miss_entry-in-None-clause-quits : goal.waiting::hand_in-returns-in_err-miss_entry-in-None-clause-quits
waiting::hand_in-returns-in_err-miss_entry-in-None-clause-quits g t c =
    let p = err_from_is_err_and c.from_residual.result c.from_residual.ensures.1 in
    Awaited.memory_quits c.from_residual.result p.0 p.1 p.2

pub waiting::hand_in-returns-clause-runs : goal.waiting::hand_in-returns-clause-runs
waiting::hand_in-returns-clause-runs g t c =
    Awaited.handed_at (ways g.O.Outside.goes g.O.Outside.loses) c.args.tree.now c.args.tree.now c.args.outside.now c.miss_entry.new.outside c.args.place c.args.up (whole_entry c.args.entry.now) c.as_slice-path.result.now c.args.target.items (whole_entry c.args.inner) (Ok tt) c.as_slice-path.ensures.value
    (Awaited.handed_to_nobody (ways g.O.Outside.goes g.O.Outside.loses) c.args.tree.now c.args.outside.now c.args.place c.args.up (whole_entry c.args.entry.now) c.as_slice-path.result.now (whole_entry c.args.inner) c.miss_entry.new.outside c.in-None.ensures.missing c.in_ok-miss_entry-in-None.ensures.misses)

pub waiting::hand_in-miss_entry-requires : goal.waiting::hand_in-miss_entry-requires
waiting::hand_in-miss_entry-requires g t c = record { handed = c.requires.handed; missing = c.in-None.ensures.missing }

pub waiting::wait-turns-init : goal.waiting::wait-turns-init
waiting::wait-turns-init g t c = record { leads = λ p style at k V w r t. t; keeps = keeps-refl _ _ }

pub waiting::wait-next-coming-requires : goal.waiting::wait-next-coming-requires
waiting::wait-next-coming-requires g t c = record { asked = c.requires.asked; held = (c.requires.running.0, depth_of (tree_of c.args.tree.now c.requires.running.0), steady_holds c.args.tree.now c.turns.tree c.args.place c.requires.running.0 c.turns.invariant.keeps.steady c.requires.running.1 c.requires.running.2) }

pub waiting::wait-told_next-requires : goal.waiting::wait-told_next-requires
waiting::wait-told_next-requires g t c = (c.requires.running.0, depth_of (tree_of c.args.tree.now c.requires.running.0), steady_holds c.args.tree.now c.turns.tree c.args.place c.requires.running.0 c.turns.invariant.keeps.steady c.requires.running.1 c.requires.running.2)

pub waiting::wait-returns-in_err-target-clause-runs : goal.waiting::wait-returns-in_err-target-clause-runs
waiting::wait-returns-in_err-target-clause-runs g t c =
    let p = err_from_is_err_and c.from_residual.result c.from_residual.ensures.1 in
    ran_err c.from_residual.result c.in_err-target.field-0.0 p.0 _ _ _ p.1 p.2
    (Awaited.ends_wait (ways g.O.Outside.goes g.O.Outside.loses) g.O.Outside.hands_in c.args.tree.now c.turns.tree c.args.outside.now c.turns.outside c.next-coming.new.self c.args.place c.args.up (whole_entry c.args.entry.now) c.next-coming.result c.told_next.result
    c.turns.invariant.leads c.turns.invariant.keeps.steady c.requires.above (λ p d holds. c.told_next.ensures p d holds) (λ p d holds e. c.next-coming.ensures.comes p d holds e)
    c.in_err-target.field-0.0 c.in_err-target.was (subst (λ (x : Result Turn Interruption). WhereMemory x (g.O.Outside.loses c.turns.outside c.next-coming.new.self)) c.in_err-target.was (Awaited.memory_told (gone (depth_of (tree_of c.args.tree.now c.requires.running.0)) (tree_of c.turns.tree) c.requires.running.0) c.next-coming.result c.told_next.result (g.O.Outside.loses c.turns.outside c.next-coming.new.self) (c.told_next.ensures c.requires.running.0 (depth_of (tree_of c.args.tree.now c.requires.running.0)) (steady_holds c.args.tree.now c.turns.tree c.args.place c.requires.running.0 c.turns.invariant.keeps.steady c.requires.running.1 c.requires.running.2)) c.next-coming.ensures.lost))) (λ e h. h)

pub waiting::wait-returns-in_err-target-clause-here : goal.waiting::wait-returns-in_err-target-clause-here
waiting::wait-returns-in_err-target-clause-here g t c =
    let p = err_from_is_err_and c.from_residual.result c.from_residual.ensures.1 in
    completes_err c.from_residual.result c.in_err-target.field-0.0 p.0 (IsHere c.args.tree.now c.turns.tree c.args.place) (IsHere c.args.tree.now c.turns.tree c.args.place) p.1 p.2 (Awaited.here_ended c.args.tree.now c.turns.tree c.args.place c.next-coming.result c.told_next.result c.in_err-target.field-0.0 c.turns.invariant.keeps.steady c.requires.running (λ p d holds. c.told_next.ensures p d holds) c.in_err-target.was) (λ h. h)

pub waiting::wait-returns-in-Completed-clause-runs : goal.waiting::wait-returns-in-Completed-clause-runs
waiting::wait-returns-in-Completed-clause-runs g t c =
    Awaited.completes_wait (ways g.O.Outside.goes g.O.Outside.loses) g.O.Outside.hands_in c.args.tree.now c.turns.tree c.args.outside.now c.turns.outside c.next-coming.new.self c.args.place c.args.up (whole_entry c.args.entry.now) c.next-coming.result c.told_next.result
    c.turns.invariant.leads c.turns.invariant.keeps.steady c.requires.above (λ p d holds. c.told_next.ensures p d holds) (λ p d holds e. c.next-coming.ensures.comes p d holds e)
    c.in-Completed.value (c.in_ok-target.was ∙ ap Ok c.in-Completed.is)

pub waiting::wait-returns-in-Completed-clause-own : goal.waiting::wait-returns-in-Completed-clause-own
waiting::wait-returns-in-Completed-clause-own g t c =
    Awaited.own_kind (ways g.O.Outside.goes g.O.Outside.loses) g.O.Outside.hands_in c.args.tree.now c.turns.tree c.args.outside.now c.turns.outside c.next-coming.new.self c.args.place c.args.up (whole_entry c.args.entry.now) c.next-coming.result c.told_next.result
    c.turns.invariant.leads c.turns.invariant.keeps.steady c.requires.above (λ p d holds. c.told_next.ensures p d holds) (λ p d holds e. c.next-coming.ensures.comes p d holds e)
    c.requires.running (Ok (turn.Completed c.in-Completed.value)) (Replied (Completed (ok c.in-Completed.value))) (c.in_ok-target.was ∙ ap Ok c.in-Completed.is) (λ x h. h) (λ p x. x.1)

pub waiting::wait-returns-in-Completed-clause-here : goal.waiting::wait-returns-in-Completed-clause-here
waiting::wait-returns-in-Completed-clause-here g t c =
    Awaited.here_told c.args.tree.now c.turns.tree c.args.place c.next-coming.result c.told_next.result (Ok (turn.Completed c.in-Completed.value)) c.turns.invariant.keeps.steady c.requires.running (λ p d holds. c.told_next.ensures p d holds) (c.in_ok-target.was ∙ ap Ok c.in-Completed.is) (λ x h. h)

pub waiting::wait-returns-in-Heard-clause-runs : goal.waiting::wait-returns-in-Heard-clause-runs
waiting::wait-returns-in-Heard-clause-runs g t c =
    Awaited.hears_wait (ways g.O.Outside.goes g.O.Outside.loses) g.O.Outside.hands_in c.args.tree.now c.turns.tree c.args.outside.now c.turns.outside c.next-coming.new.self c.args.place c.args.up (whole_entry c.args.entry.now) c.next-coming.result c.told_next.result
    c.turns.invariant.leads c.turns.invariant.keeps.steady c.requires.above (λ p d holds. c.told_next.ensures p d holds) (λ p d holds e. c.next-coming.ensures.comes p d holds e)
    c.in-Heard.reply (c.in_ok-target.was ∙ ap Ok c.in-Heard.is)

pub waiting::wait-returns-in-Heard-clause-own : goal.waiting::wait-returns-in-Heard-clause-own
waiting::wait-returns-in-Heard-clause-own g t c =
    Awaited.own_kind (ways g.O.Outside.goes g.O.Outside.loses) g.O.Outside.hands_in c.args.tree.now c.turns.tree c.args.outside.now c.turns.outside c.next-coming.new.self c.args.place c.args.up (whole_entry c.args.entry.now) c.next-coming.result c.told_next.result
    c.turns.invariant.leads c.turns.invariant.keeps.steady c.requires.above (λ p d holds. c.told_next.ensures p d holds) (λ p d holds e. c.next-coming.ensures.comes p d holds e)
    c.requires.running (Ok (turn.Heard c.in-Heard.reply)) (Heard (reply_of c.in-Heard.reply)) (c.in_ok-target.was ∙ ap Ok c.in-Heard.is) (λ x h. h) (λ p x. x.1)

pub waiting::wait-returns-in-Heard-clause-here : goal.waiting::wait-returns-in-Heard-clause-here
waiting::wait-returns-in-Heard-clause-here g t c =
    Awaited.here_told c.args.tree.now c.turns.tree c.args.place c.next-coming.result c.told_next.result (Ok (turn.Heard c.in-Heard.reply)) c.turns.invariant.keeps.steady c.requires.running (λ p d holds. c.told_next.ensures p d holds) (c.in_ok-target.was ∙ ap Ok c.in-Heard.is) (λ x h. h)

pub waiting::wait-returns-in-Nobody-clause-runs : goal.waiting::wait-returns-in-Nobody-clause-runs
waiting::wait-returns-in-Nobody-clause-runs g t c =
    Awaited.misses_wait (ways g.O.Outside.goes g.O.Outside.loses) g.O.Outside.hands_in c.args.tree.now c.turns.tree c.args.outside.now c.turns.outside c.next-coming.new.self c.args.place c.args.up (whole_entry c.args.entry.now) c.next-coming.result c.told_next.result
    c.turns.invariant.leads c.turns.invariant.keeps.steady c.requires.above (λ p d holds. c.told_next.ensures p d holds) (λ p d holds e. c.next-coming.ensures.comes p d holds e)
    (c.in_ok-target.was ∙ ap Ok c.in-Nobody.is)

pub waiting::wait-returns-in-Nobody-clause-own : goal.waiting::wait-returns-in-Nobody-clause-own
waiting::wait-returns-in-Nobody-clause-own g t c =
    Awaited.own_kind (ways g.O.Outside.goes g.O.Outside.loses) g.O.Outside.hands_in c.args.tree.now c.turns.tree c.args.outside.now c.turns.outside c.next-coming.new.self c.args.place c.args.up (whole_entry c.args.entry.now) c.next-coming.result c.told_next.result
    c.turns.invariant.leads c.turns.invariant.keeps.steady c.requires.above (λ p d holds. c.told_next.ensures p d holds) (λ p d holds e. c.next-coming.ensures.comes p d holds e)
    c.requires.running (Ok turn.Nobody) Nobody (c.in_ok-target.was ∙ ap Ok c.in-Nobody.is) (λ x h. h) (λ p x. x.1)

pub waiting::wait-returns-in-Nobody-clause-here : goal.waiting::wait-returns-in-Nobody-clause-here
waiting::wait-returns-in-Nobody-clause-here g t c =
    Awaited.here_told c.args.tree.now c.turns.tree c.args.place c.next-coming.result c.told_next.result (Ok turn.Nobody) c.turns.invariant.keeps.steady c.requires.running (λ p d holds. c.told_next.ensures p d holds) (c.in_ok-target.was ∙ ap Ok c.in-Nobody.is) (λ x h. h)

pub waiting::wait-hand_in-requires : goal.waiting::wait-hand_in-requires
waiting::wait-hand_in-requires g t c =
    let at : IsAt c.args.tree.now c.args.place c.requires.running.0 (marks_of c.args.tree.now).integers = record { names = c.requires.running.1; style_is = refl; running = c.requires.running.2 } in
    let comes = Awaited.told_as (ways g.O.Outside.goes g.O.Outside.loses) g.O.Outside.hands_in c.args.tree.now c.turns.tree c.args.outside.now c.turns.outside c.next-coming.new.self c.args.place c.args.up (whole_entry c.args.entry.now) c.next-coming.result c.told_next.result
    c.turns.invariant.leads c.turns.invariant.keeps.steady c.requires.above (λ p d holds. c.told_next.ensures p d holds) (λ p d holds e. c.next-coming.ensures.comes p d holds e)
    (Ok (turn.Entry c.in-Entry.target c.in-Entry.inner)) (c.in_ok-target.was ∙ ap Ok c.in-Entry.is) c.requires.running.0 (marks_of c.args.tree.now).integers at in
    let fewer : g.O.Outside.entries_left c.next-coming.new.self < g.O.Outside.entries_left c.turns.outside = (subst (λ (x : Result Turn Interruption). OnEntry x (g.O.Outside.entries_left c.next-coming.new.self < g.O.Outside.entries_left c.turns.outside)) (c.in_ok-target.was ∙ ap Ok c.in-Entry.is) (Awaited.on_entry_told (gone (depth_of (tree_of c.args.tree.now c.requires.running.0)) (tree_of c.turns.tree) c.requires.running.0) c.next-coming.result c.told_next.result (g.O.Outside.entries_left c.next-coming.new.self < g.O.Outside.entries_left c.turns.outside) (c.told_next.ensures c.requires.running.0 (depth_of (tree_of c.args.tree.now c.requires.running.0)) (steady_holds c.args.tree.now c.turns.tree c.args.place c.requires.running.0 c.turns.invariant.keeps.steady c.requires.running.1 c.requires.running.2)) c.next-coming.ensures.fewer)) in
    let left = c.turns.invariant.keeps.left in
    let most : room (tree_of c.turns.tree) ≤ 1000 = omega arith in
    λ κs h. (search rules, (search rules, comes.1))

pub waiting::wait-turns-preserved : goal.waiting::wait-turns-preserved
waiting::wait-turns-preserved g t c = record {
  leads = Awaited.waits_on (ways g.O.Outside.goes g.O.Outside.loses) c.args.tree.now c.turns.tree c.hand_in.new.tree c.args.outside.now c.turns.outside c.next-coming.new.self c.hand_in.new.outside c.args.place c.args.up (whole_entry c.args.entry.now)
      c.in-Entry.target.items (whole_entry c.in-Entry.inner) c.turns.invariant.leads c.turns.invariant.keeps.steady c.requires.above
      (λ p style at. (Awaited.told_as (ways g.O.Outside.goes g.O.Outside.loses) g.O.Outside.hands_in c.args.tree.now c.turns.tree c.args.outside.now c.turns.outside c.next-coming.new.self c.args.place c.args.up (whole_entry c.args.entry.now) c.next-coming.result c.told_next.result
      c.turns.invariant.leads c.turns.invariant.keeps.steady c.requires.above (λ p d holds. c.told_next.ensures p d holds) (λ p d holds e. c.next-coming.ensures.comes p d holds e)
      (Ok (turn.Entry c.in-Entry.target c.in-Entry.inner)) (c.in_ok-target.was ∙ ap Ok c.in-Entry.is) p style at).0)
      c.in_ok-hand_in-in-Entry.ensures.runs;
  keeps = keeps-trans c.turns.invariant.keeps (keeps-trans (told_keeps c.next-coming.ensures.left) c.hand_in.ensures.keeps);
}

pub waiting::wait-returns-in_err-hand_in-in-Entry-clause-runs : goal.waiting::wait-returns-in_err-hand_in-in-Entry-clause-runs
waiting::wait-returns-in_err-hand_in-in-Entry-clause-runs g t c =
    let p = err_from_is_err_and c.from_residual-in_err-hand_in-in-Entry.result c.from_residual-in_err-hand_in-in-Entry.ensures.1 in
    ran_err c.from_residual-in_err-hand_in-in-Entry.result c.in_err-hand_in-in-Entry.field-0.0 p.0 _ _ _ p.1 p.2
    (Awaited.waits_out (ways g.O.Outside.goes g.O.Outside.loses) c.args.tree.now c.turns.tree c.hand_in.new.tree c.args.outside.now c.turns.outside c.next-coming.new.self c.hand_in.new.outside c.args.place c.args.up (whole_entry c.args.entry.now)
    c.in-Entry.target.items (whole_entry c.in-Entry.inner) c.in_err-hand_in-in-Entry.field-0.0 c.turns.invariant.leads c.turns.invariant.keeps.steady c.requires.above
    (subst (λ (x : Result Turn Interruption). OnEntry x (g.O.Outside.loses c.turns.outside c.next-coming.new.self)) (c.in_ok-target.was ∙ ap Ok c.in-Entry.is) (Awaited.on_entry_told (gone (depth_of (tree_of c.args.tree.now c.requires.running.0)) (tree_of c.turns.tree) c.requires.running.0) c.next-coming.result c.told_next.result (g.O.Outside.loses c.turns.outside c.next-coming.new.self) (c.told_next.ensures c.requires.running.0 (depth_of (tree_of c.args.tree.now c.requires.running.0)) (steady_holds c.args.tree.now c.turns.tree c.args.place c.requires.running.0 c.turns.invariant.keeps.steady c.requires.running.1 c.requires.running.2)) c.next-coming.ensures.handed))
    (λ p style at. (Awaited.told_as (ways g.O.Outside.goes g.O.Outside.loses) g.O.Outside.hands_in c.args.tree.now c.turns.tree c.args.outside.now c.turns.outside c.next-coming.new.self c.args.place c.args.up (whole_entry c.args.entry.now) c.next-coming.result c.told_next.result
    c.turns.invariant.leads c.turns.invariant.keeps.steady c.requires.above (λ p d holds. c.told_next.ensures p d holds) (λ p d holds e. c.next-coming.ensures.comes p d holds e)
    (Ok (turn.Entry c.in-Entry.target c.in-Entry.inner)) (c.in_ok-target.was ∙ ap Ok c.in-Entry.is) p style at).0)
    c.in_err-hand_in-in-Entry.ensures.runs) (λ e h. h)

pub waiting::wait-returns-in_err-hand_in-in-Entry-clause-keeps : goal.waiting::wait-returns-in_err-hand_in-in-Entry-clause-keeps
waiting::wait-returns-in_err-hand_in-in-Entry-clause-keeps g t c = keeps-trans c.turns.invariant.keeps (keeps-trans (told_keeps c.next-coming.ensures.left) c.hand_in.ensures.keeps)

pub waiting::wait-returns-in_err-hand_in-in-Entry-clause-here : goal.waiting::wait-returns-in_err-hand_in-in-Entry-clause-here
waiting::wait-returns-in_err-hand_in-in-Entry-clause-here g t c =
    let p = err_from_is_err_and c.from_residual-in_err-hand_in-in-Entry.result c.from_residual-in_err-hand_in-in-Entry.ensures.1 in
    completes_err c.from_residual-in_err-hand_in-in-Entry.result c.in_err-hand_in-in-Entry.field-0.0 p.0 Prim.⊥ (IsHere c.args.tree.now c.hand_in.new.tree c.args.place) p.1 p.2 c.in_err-hand_in-in-Entry.ensures.quits (λ h. absurd h)

pub waiting::hand_in-returns-in_err-miss_entry-in-None-clause-keeps : goal.waiting::hand_in-returns-in_err-miss_entry-in-None-clause-keeps
waiting::hand_in-returns-in_err-miss_entry-in-None-clause-keeps g t c = told_keeps c.miss_entry.ensures.left

pub waiting::hand_in-returns-clause-keeps : goal.waiting::hand_in-returns-clause-keeps
waiting::hand_in-returns-clause-keeps g t c = told_keeps c.miss_entry.ensures.left

pub crossing::call_there-returns-in_err-notify-clause-keeps : goal.crossing::call_there-returns-in_err-notify-clause-keeps
crossing::call_there-returns-in_err-notify-clause-keeps g t c = told_keeps c.notify.ensures.left

pub crossing::call_past_top-returns-in_err-notify-clause-keeps : goal.crossing::call_past_top-returns-in_err-notify-clause-keeps
crossing::call_past_top-returns-in_err-notify-clause-keeps g t c = told_keeps c.notify.ensures.left

pub hosting::ask-returns-in_err-notify-clause-keeps : goal.hosting::ask-returns-in_err-notify-clause-keeps
hosting::ask-returns-in_err-notify-clause-keeps g t c = told_keeps c.notify.ensures.left

pub crossing::call_alias-returns-in-Missing-clause-keeps : goal.crossing::call_alias-returns-in-Missing-clause-keeps
crossing::call_alias-returns-in-Missing-clause-keeps g t c = told_keeps c.miss_alias.ensures.left

pub crossing::ask_below-returns-in-Missing-clause-keeps : goal.crossing::ask_below-returns-in-Missing-clause-keeps
crossing::ask_below-returns-in-Missing-clause-keeps g t c = told_keeps c.find_nobody.ensures.left

pub waiting::wait-turns-smaller : goal.waiting::wait-turns-smaller
waiting::wait-turns-smaller g t c =
    let fewer : g.O.Outside.entries_left c.next-coming.new.self < g.O.Outside.entries_left c.turns.outside = (subst (λ (x : Result Turn Interruption). OnEntry x (g.O.Outside.entries_left c.next-coming.new.self < g.O.Outside.entries_left c.turns.outside)) (c.in_ok-target.was ∙ ap Ok c.in-Entry.is) (Awaited.on_entry_told (gone (depth_of (tree_of c.args.tree.now c.requires.running.0)) (tree_of c.turns.tree) c.requires.running.0) c.next-coming.result c.told_next.result (g.O.Outside.entries_left c.next-coming.new.self < g.O.Outside.entries_left c.turns.outside) (c.told_next.ensures c.requires.running.0 (depth_of (tree_of c.args.tree.now c.requires.running.0)) (steady_holds c.args.tree.now c.turns.tree c.args.place c.requires.running.0 c.turns.invariant.keeps.steady c.requires.running.1 c.requires.running.2)) c.next-coming.ensures.fewer)) in
    let left : g.O.Outside.entries_left c.hand_in.new.outside ≤ g.O.Outside.entries_left c.next-coming.new.self = c.hand_in.ensures.keeps.left in
    omega arith

pub expressions::compute_parts-returns-in_err-value-in-Wants-clause-keeps : goal.expressions::compute_parts-returns-in_err-value-in-Wants-clause-keeps
expressions::compute_parts-returns-in_err-value-in-Wants-clause-keeps g t c = keeps-trans c.parts.invariant.keeps c.eval_operand.ensures.keeps

pub expressions::compute_parts-returns-in_err-supply-in-Wants-clause-keeps : goal.expressions::compute_parts-returns-in_err-supply-in-Wants-clause-keeps
expressions::compute_parts-returns-in_err-supply-in-Wants-clause-keeps g t c = keeps-trans c.parts.invariant.keeps c.eval_operand.ensures.keeps
