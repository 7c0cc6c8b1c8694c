use Rattle.std.proofs.Common.{◌∙◌, ◌++◌, ap, sym, rules}
use Rattle.std.proofs.lemmas.Result.{err_from_is_err_and}
use Rattle.tcl_parser.specs.Reading.{level_at, read_words}
use Rattle.tcl_parser.proofs.SkipLemmas.{words_word, word_falls}
use Rattle.tcl_parser.proofs.ReadLemmas.{words_done, words_added, words_stopped}
use Rattle.tcl_parser.proofs.reader.read_command.Goals as goal

pub returns-then-command_ends : goal.returns-then-command_ends
returns-then-command_ends c =
    let i = c.words.invariant in
    words_done 0 c.args.text.now c.words.rest.now c.skip_white-start.result.now _ _ c.skip_white-start.ensures (sym c.command_ends.ensures ∙ c.if-command_ends.true) c.skip_command_end.ensures i.ended i.words

pub returns-in_err-word : goal.returns-in_err-word
returns-in_err-word c =
    let p = err_from_is_err_and c.from_residual.result c.from_residual.ensures.1 in
    let i = c.words.invariant in
    rw (p.1, p.2) (words_stopped 0 c.args.text.now c.words.rest.now c.skip_white-start.result.now _ c.skip_white-start.ensures (sym c.command_ends.ensures ∙ c.if-command_ends.false) c.in_err-word.ensures i.ended)

pub words-smaller : goal.words-smaller
words-smaller c =
    word_falls 0 c.words.rest.now c.skip_white-start.result.now _ _ c.skip_white-start.ensures (sym c.command_ends.ensures ∙ c.if-command_ends.false) c.in_ok-word.ensures

pub words-preserved : goal.words-preserved
words-preserved c =
    let i = c.words.invariant in
    let ends = sym c.command_ends.ensures ∙ c.if-command_ends.false in
    record {
      utf8 = search rules;
      ended = sym (ap (λ x. x.ended) (words_word 0 c.words.rest.now c.skip_white-start.result.now _ _ c.skip_white-start.ensures ends c.in_ok-word.ensures)) ∙ i.ended;
      words = words_added 0 c.words.rest.now c.skip_white-start.result.now _ _ _ _ c.skip_white-start.ensures ends c.in_ok-word.ensures i.words ∙ ap (λ x. x ++ (read_words (level_at 0) c.in_ok-word.after.now).items) (sym c.in_ok-push.ensures.items);
    }
