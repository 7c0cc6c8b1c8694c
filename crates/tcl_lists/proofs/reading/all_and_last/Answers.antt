use Rattle.tcl_lists.proofs.LastWords.{too_few, one_behind}
use Rattle.tcl_lists.proofs.reading.all_and_last.Goals as goal

pub returns-in_default : goal.returns-in_default
returns-in_default c = too_few c.wrong_arguments.result c.args.form.now c.args.words.now c.in_default.len_below c.wrong_arguments.ensures

pub returns-in-len1-up : goal.returns-in-len1-up
returns-in-len1-up c = one_behind c.args.form.now c.args.words.now c.last-item.result c.in-len1-up.len_at_least c.last-item.is
