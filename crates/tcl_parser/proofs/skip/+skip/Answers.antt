use Rattle.std.proofs.Common.{◌∙◌, ap, sym, ◌||◌, ◌+◌, ℕ, List, Ok, subst, arith, Bor, rules}
use Rattle.std.proofs.lemmas.Result.{err_from_is_err_and}
use Rattle.tcl_parser.specs.Pieces.{Gives, turn_of, is_some_list}
use Rattle.tcl_parser.proofs.SkipLemmas.{parts_over, parts_next, parts_fault, part_falls, word_marked, word_unmarked, words_word, word_falls, some_word, command_over, command_fault, commands_next, script_too_deep, script_ends, script_fault, script_suffix, closes, closes_not, or-true}
use Rattle.tcl_parser.proofs.skip.+skip.Goals as goal

pub skip_command-returns-then-command_ends : goal.skip_command-returns-then-command_ends
skip_command-returns-then-command_ends t c =
    let i = c.words.invariant in
    command_over c.args.brackets c.args.text.now c.words.rest.now c.skip_white-start.result.now c.words.some c.skip_white-start.ensures (sym c.command_ends.ensures ∙ c.if-command_ends.true) i.reads i.some
    ∙ ap (λ x. Ok (c.words.some, x)) (sym c.skip_command_end.ensures)

pub skip_command-returns-in_err-rest : goal.skip_command-returns-in_err-rest
skip_command-returns-in_err-rest t c =
    let p = err_from_is_err_and c.from_residual.result c.from_residual.ensures.1 in
    let i = c.words.invariant in
    rw (p.1, p.2) (command_fault c.args.brackets c.args.text.now c.words.rest.now c.skip_white-start.result.now _ c.skip_white-start.ensures (sym c.command_ends.ensures ∙ c.if-command_ends.false) i.reads c.in_err-rest.ensures)

pub skip_command-words-smaller : goal.skip_command-words-smaller
skip_command-words-smaller t c =
    let ends = sym c.command_ends.ensures ∙ c.if-command_ends.false in
    let w = some_word _ _ c.in_ok-rest.ensures in
    word_falls c.args.brackets c.words.rest.now c.skip_white-start.result.now _ w.word c.skip_white-start.ensures ends w.is

pub skip_command-words-preserved : goal.skip_command-words-preserved
skip_command-words-preserved t c =
    let ends = sym c.command_ends.ensures ∙ c.if-command_ends.false in
    let w = some_word _ _ c.in_ok-rest.ensures in
    let is = words_word c.args.brackets c.words.rest.now c.skip_white-start.result.now _ w.word c.skip_white-start.ensures ends w.is in
    let i = c.words.invariant in
    record {
      utf8 = search rules;
      reads = sym (ap (λ x. x.ended) is) ∙ i.reads;
      some = i.some ∙ ap (λ x. c.words.some || is_some_list x.items) is ∙ sym (or-true c.words.some);
    }

pub skip_parts-returns-in_err-after : goal.skip_parts-returns-in_err-after
skip_parts-returns-in_err-after t c =
    let p = err_from_is_err_and c.from_residual.result c.from_residual.ensures.1 in
    let i = c.parts.invariant in
    rw (p.1, p.2) (sym i.reads ∙ parts_fault c.args.brackets c.args.quoted c.parts.indexes c.parts.rest.now _ c.in_err-after.ensures)

pub skip_parts-returns-in-Over : goal.skip_parts-returns-in-Over
skip_parts-returns-in-Over t c =
    let i = c.parts.invariant in
    let is = c.in_ok-after.ensures ∙ ap (λ x. Ok (turn_of x)) c.in-Over.is in
    sym i.reads ∙ parts_over c.args.brackets c.args.quoted c.parts.indexes c.parts.rest.now _ is

pub skip_parts-parts-smaller : goal.skip_parts-parts-smaller
skip_parts-parts-smaller t c =
    let is = c.in_ok-after.ensures ∙ ap (λ x. Ok (turn_of x)) c.in-Part.is in
    (part_falls c.args.brackets c.args.quoted c.parts.indexes c.in-Part.deeper c.parts.rest.now c.in-Part.after.now _ is).0

pub skip_parts-parts-preserved : goal.skip_parts-parts-preserved
skip_parts-parts-preserved t c =
    let i = c.parts.invariant in
    let is = c.in_ok-after.ensures ∙ ap (λ x. Ok (turn_of x)) c.in-Part.is in
    let falls = part_falls c.args.brackets c.args.quoted c.parts.indexes c.in-Part.deeper c.parts.rest.now c.in-Part.after.now _ is in
    record {
      utf8 = search rules;
      reads = sym (ap (λ x. x.ended) (parts_next c.args.brackets c.args.quoted c.parts.indexes c.in-Part.deeper c.parts.rest.now c.in-Part.after.now _ is)) ∙ i.reads;
      room = omega (arith, falls.1, i.room);
    }

pub skip_script-returns-then-brackets-eq-DEEPEST-clause-ends : goal.skip_script-returns-then-brackets-eq-DEEPEST-clause-ends
skip_script-returns-then-brackets-eq-DEEPEST-clause-ends t c = script_too_deep c.args.brackets c.args.text.now c.if-brackets-eq-DEEPEST.true

pub skip_script-returns-in_err-some-clause-ends : goal.skip_script-returns-in_err-some-clause-ends
skip_script-returns-in_err-some-clause-ends t c =
    let p = err_from_is_err_and c.from_residual.result c.from_residual.ensures.1 in
    rw (p.1, p.2) (script_fault c.args.brackets c.args.text.now c.commands.rest.now _ (omega arith) c.commands.invariant.1 c.in_err-some.ensures)

pub skip_script-before-requires : goal.skip_script-before-requires
skip_script-before-requires t c = script_suffix c.args.brackets c.args.text.now c.commands.rest.now _ c.commands.invariant.1 (c.in_ok-some.ensures ∙ ap (λ b. Ok (b, c.in_ok-some.after.now)) c.if-not-some.true)

pub skip_script-returns-in-Some-clause-ends : goal.skip_script-returns-in-Some-clause-ends
skip_script-returns-in-Some-clause-ends t c =
    script_ends c.args.brackets c.args.text.now c.commands.rest.now c.in_ok-some.after.now (omega arith) c.commands.invariant.1 (c.in_ok-some.ensures ∙ ap (λ b. Ok (b, c.in_ok-some.after.now)) c.if-not-some.true)
    ∙ closes c.in_ok-some.after.now c.in-Some.behind.now c.in-Some.ensures

pub skip_script-returns-in-None-clause-ends : goal.skip_script-returns-in-None-clause-ends
skip_script-returns-in-None-clause-ends t c =
    script_ends c.args.brackets c.args.text.now c.commands.rest.now c.in_ok-some.after.now (omega arith) c.commands.invariant.1 (c.in_ok-some.ensures ∙ ap (λ b. Ok (b, c.in_ok-some.after.now)) c.if-not-some.true)
    ∙ closes_not c.in_ok-some.after.now c.in-None.ensures

pub skip_script-commands-smaller : goal.skip_script-commands-smaller
skip_script-commands-smaller t c =
    (commands_next (c.args.brackets + 1) c.commands.rest.now c.in_ok-some.after.now (c.in_ok-some.ensures ∙ ap (λ b. Ok (b, c.in_ok-some.after.now)) c.if-not-some.false)).1

pub skip_script-commands-preserved : goal.skip_script-commands-preserved
skip_script-commands-preserved t c =
    let next = (commands_next (c.args.brackets + 1) c.commands.rest.now c.in_ok-some.after.now (c.in_ok-some.ensures ∙ ap (λ b. Ok (b, c.in_ok-some.after.now)) c.if-not-some.false)).0 in
    (search rules, sym next ∙ c.commands.invariant.1)

pub skip_word-returns-in-Some : goal.skip_word-returns-in-Some
skip_word-returns-in-Some t c = subst (Gives (λ (r : Bor (List ℕ)). r.now) c.skip_word_parts.result) (sym (word_marked c.args.brackets c.args.text.now c.in-Some.rest.now c.in-Some.ensures.marks c.in-Some.ensures.rest)) c.skip_word_parts.ensures

pub skip_word-returns-in-None : goal.skip_word-returns-in-None
skip_word-returns-in-None t c = subst (Gives (λ (r : Bor (List ℕ)). r.now) c.skip_word_parts-in-None.result) (sym (word_unmarked c.args.brackets c.args.text.now c.in-None.ensures.none)) c.skip_word_parts-in-None.ensures
