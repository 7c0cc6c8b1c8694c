use Rattle.std.proofs.Common.{◌∙◌, ap, List, [], codes, subst, Option, unwrap_or}
use Rattle.clap.proofs.WalkLemmas.{first_value-rows, one_text-rows, raw_values-rows}
use Rattle.clap.specs.Words.{Text, found_of, rows_of, first_of}
use Rattle.tcl_shell.specs.CommandLine.{style_of, LimitIs}
use Rattle.tcl_shell.proofs.WordLemmas.{file_so}
use Rattle.tcl_shell.proofs.options.options_of.Goals as goal

pub returns : goal.returns
returns c =
    let found = found_of c.args.matches.now in
    let rows = rows_of found in
    record {
      limit = subst (λ (o : Option Text). LimitIs o c.in_ok-limit_of.field-0) (c.get_str.ensures ∙ first_value-rows found (codes "limit")) c.in_ok-limit_of.ensures;
      safe = ((λ e. c.get_flag.ensures.none (one_text-rows found (codes "safe") ∙ e)), (λ e. c.get_flag.ensures.value (one_text-rows found (codes "safe") ∙ e)), (λ e. c.get_flag.ensures.other (one_text-rows found (codes "safe") ∙ e)));
      integers = c.style_of.ensures ∙ ap style_of (c.get_str-2.ensures ∙ first_value-rows found (codes "integers"));
      file = file_so c.get_str-3.result _ c.unwrap_or.result (first_of (codes "FILE") rows) c.unwrap_or.ensures (c.get_str-3.ensures ∙ first_value-rows found (codes "FILE"));
      arguments = c.in_ok-arguments_of.ensures ∙ ap (λ (o : Option (List Text)). unwrap_or o []) (c.get_strs.ensures ∙ raw_values-rows found (codes "ARG"));
    }
