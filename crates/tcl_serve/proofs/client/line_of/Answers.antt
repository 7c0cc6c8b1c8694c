use Rattle.std.proofs.Common.{rules, refl}
use Rattle.tcl_serve.proofs.client.line_of.Goals as goal

pub returns : goal.returns
returns c = record {
  asked = record { number = c.args.number; tree = c.args.tree; interpreter = c.in_ok-from_clones.field-0; words = c.in_ok-texts_of.field-0 };
  numbered = refl;
  of_tree = refl;
  caller = search rules;
  words = search rules;
  is = search rules;
}
