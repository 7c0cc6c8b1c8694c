use Rattle.std.proofs.Common.{◌∙◌, sym, ap, arith}
use Rattle.std.specs.Option.{option_copied}
use Rattle.std.proofs.lemmas.Option.{MatchOption-at_some, MatchOption-at_none}
use Rattle.std.proofs.lemmas.Str.Pattern.{strip_prefix_char}
use Rattle.tcl_frames.specs.Names.{after_colon}
use Rattle.tcl_frames.proofs.NameLemmas.{after_colon_at, after_colon_none, after_colons_none, after_colons_some, after_colon_strip}
use Rattle.tcl_frames.proofs.name.after_leading.Goals as goal

pub returns-in_err-strip_prefix : goal.returns-in_err-strip_prefix
returns-in_err-strip_prefix c =
    let f = strip_prefix_char 58 c.args.name.now c.strip_prefix.result c.strip_prefix.ensures.cases (omega arith) in
    let no_colon = MatchOption-at_none _ _ c.in_err-strip_prefix.was f in
    ap option_copied c.from_residual.ensures ∙ sym (after_colons_none c.args.name.now (after_colon_none c.args.name.now no_colon))

pub returns : goal.returns
returns c =
    let f = strip_prefix_char 58 c.args.name.now c.strip_prefix.result c.strip_prefix.ensures.cases (omega arith) in
    let one = MatchOption-at_some _ _ c.in_ok-strip_prefix.field-0 c.in_ok-strip_prefix.was f in
    let g = strip_prefix_char 58 c.in_ok-strip_prefix.field-0.now c.strip_prefix-2.result c.strip_prefix-2.ensures.cases (omega arith) in
    after_colon_strip c.strip_prefix-2.result c.in_ok-strip_prefix.field-0.now g
    ∙ sym (after_colons_some c.args.name.now c.in_ok-strip_prefix.field-0.now (ap after_colon one ∙ after_colon_at c.in_ok-strip_prefix.field-0.now))
