use Rattle.std.proofs.Common.{◌≡◌, ◌∙◌, ◌++◌, ◌==◌, length, vec_len, ap, sym, subst, Err, arith, rules}
use Rattle.tcl_parser.specs.Reading.{level_at, read_command, read_commands}
use Rattle.tcl_parser.specs.Words.{Reading}
use Rattle.tcl_parser.specs.Grammar.{ReadsAll}
use Rattle.tcl_parser.proofs.ScriptRules.{function-ReadsAll}
use Rattle.tcl_parser.proofs.ReadLemmas.{script_done, script_stops, command_read, command_added, no_words}
use Rattle.tcl_parser.proofs.reader.parse.Goals as goal

pub returns-then-is_empty-clause-function : goal.returns-then-is_empty-clause-function
returns-then-is_empty-clause-function c =
    let i = c.commands.invariant in
    let len : length c.in-Ok.words.items ≡ vec_len c.in-Ok.words = omega arith in
    let none = no_words c.in-Ok.words.items (ap (λ n. n == 0) len ∙ sym c.is_empty.ensures ∙ c.if-is_empty.true) in
    script_done c.args.text.now c.commands.rest.now _ _ _ c.in-Ok.ensures none i.ended i.commands

pub commands-smaller : goal.commands-smaller
commands-smaller c =
    let len : length c.in-Ok.words.items ≡ vec_len c.in-Ok.words = omega arith in
    (command_read c.commands.rest.now _ _ c.in-Ok.ensures (ap (λ n. n == 0) len ∙ sym c.is_empty.ensures ∙ c.if-is_empty.false)).falls

pub commands-preserved : goal.commands-preserved
commands-preserved c =
    let i = c.commands.invariant in
    let len : length c.in-Ok.words.items ≡ vec_len c.in-Ok.words = omega arith in
    let read = command_read c.commands.rest.now c.in-Ok.after.now c.in-Ok.words.items c.in-Ok.ensures (ap (λ n. n == 0) len ∙ sym c.is_empty.ensures ∙ c.if-is_empty.false) in
    record {
      utf8 = search rules;
      ended = sym (ap (λ x. x.ended) read.is) ∙ i.ended;
      commands = command_added c.commands.rest.now c.in-Ok.after.now _ _ _ read i.commands ∙ ap (λ x. x ++ (read_commands (level_at 0) c.in-Ok.after.now).items) (sym c.in_ok-push-in-Ok.ensures.items);
    }

pub returns-in-Fault-clause-function : goal.returns-in-Fault-clause-function
returns-in-Fault-clause-function c =
    let i = c.commands.invariant in
    let stopped : read_command (level_at 0) c.commands.rest.now ≡ Err c.in-Fault.fault = rw c.in-Fault.is at c.in-Err.ensures in
    script_stops c.args.text.now c.commands.rest.now c.in-Fault.fault _ stopped i.ended i.commands

pub returns-then-is_empty-clause-grammar : goal.returns-then-is_empty-clause-grammar
returns-then-is_empty-clause-grammar c = subst (λ (r : Reading). ReadsAll c.args.text.now r.commands r.fault) (sym (returns-then-is_empty-clause-function c)) (function-ReadsAll c.args.text.now)

pub returns-in-Fault-clause-grammar : goal.returns-in-Fault-clause-grammar
returns-in-Fault-clause-grammar c = subst (λ (r : Reading). ReadsAll c.args.text.now r.commands r.fault) (sym (returns-in-Fault-clause-function c)) (function-ReadsAll c.args.text.now)
