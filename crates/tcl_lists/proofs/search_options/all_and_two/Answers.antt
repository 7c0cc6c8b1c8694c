use Rattle.tcl_lists.proofs.LastTwo.{too_few, two_behind}
use Rattle.tcl_lists.proofs.search_options.all_and_two.Goals as goal

pub returns-in_default : goal.returns-in_default
returns-in_default c = too_few c.wrong_arguments.result c.args.form.now c.args.words.now c.in_default.len_below c.wrong_arguments.ensures

pub returns-in-len2-up : goal.returns-in-len2-up
returns-in-len2-up c = two_behind c.args.form.now c.args.words.now c.a-item.result c.b-item.result c.in-len2-up.len_at_least c.a-item.is c.b-item.is
