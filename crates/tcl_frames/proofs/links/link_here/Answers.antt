use Rattle.std.proofs.Common.{◌-◌, ◌∙◌, ap, length, get_or, arith}
use Rattle.std.specs.Option.{option_copied}
use Rattle.std.proofs.lemmas.Option.{slice_get-get_or}
use Rattle.tcl_frames.specs.Places.{bound}
use Rattle.tcl_frames.specs.Rebinding.{with_variable}
use Rattle.tcl_frames.specs.declared.variable.Variable.TheVariants.{Link}
use Rattle.tcl_frames.proofs.LinkLemmas.{over_bound, less_one}
use Rattle.tcl_frames.proofs.links.link_here.Goals as goal

pub returns-clause-ok : goal.returns-clause-ok
returns-clause-ok c =
    let fs = c.args.frames.now in
    let here = length fs - 1 in
    let f = get_or fs here c.index-frames-here.result in
    over_bound fs here f c.link.new.self c.args.local.now c.args.place (option_copied c.variable_at.result) c.is_free.result
    (less_one (length fs))
    (slice_get-get_or fs here c.index-frames-here.result (omega arith))
    (c.in_ok-link.ensures.ok ∙ ap (λ x. with_variable f x (Link c.args.place)) c.as_str-2.ensures)
    (c.variable_at.ensures ∙ ap (bound fs here) c.as_str.ensures)
    c.is_free.ensures c.if-not-is_free.false
