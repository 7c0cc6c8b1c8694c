use Rattle.std.proofs.Common.{◌∙◌}
use Rattle.tcl_prepared.specs.Views.{seen_command, seen_part, seen_word}
use Rattle.tcl_prepared.proofs.ListLemmas.{made_more}
use Rattle.tcl_prepared.proofs.preparing.+preparing.Goals as goal

pub prepare_to-commands-preserved : goal.prepare_to-commands-preserved
prepare_to-commands-preserved t c =
    made_more seen_command c.commands.commands.items c.push.new.self.items c.in_ok-prepare_command.field-0 c.deref-command-items.result.now c.commands.command-index c.command-item.result
    c.in_ok-push.ensures.items c.commands-test.true c.command-item.is c.in_ok-prepare_command.ensures c.commands.invariant

pub prepare_words-words-preserved : goal.prepare_words-words-preserved
prepare_words-words-preserved t c =
    made_more seen_word c.words.prepared.items c.push.new.self.items c.in_ok-named.field-0 c.args.words.now c.words.word-index c.word-item.result
    c.in_ok-push.ensures.items c.words-test.true c.word-item.is (c.in_ok-named.ensures ∙ c.in_ok-made.ensures) c.words.invariant

pub prepare_parts-parts-preserved : goal.prepare_parts-parts-preserved
prepare_parts-parts-preserved t c =
    made_more seen_part c.parts.prepared.items c.push.new.self.items c.in_ok-prepare_part.field-0 c.args.parts.now c.parts.part-index c.part-item.result
    c.in_ok-push.ensures.items c.parts-test.true c.part-item.is c.in_ok-prepare_part.ensures c.parts.invariant
