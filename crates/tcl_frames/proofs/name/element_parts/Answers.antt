use Rattle.std.proofs.Common.{◌∙◌, sym, ap, arith}
use Rattle.std.specs.Option.{option_map}
use Rattle.std.proofs.lemmas.Option.{MatchOption-at_some, MatchOption-at_none}
use Rattle.std.proofs.lemmas.Str.Pattern.{strip_suffix_char, split_parts}
use Rattle.tcl_frames.specs.Names.{closed}
use Rattle.tcl_frames.specs.Written.{seen_pair}
use Rattle.tcl_frames.proofs.NameLemmas.{closed_at, closed_none, element_none, element_some, opened_split}
use Rattle.tcl_frames.proofs.name.element_parts.Goals as goal

pub returns-in_err-strip_suffix : goal.returns-in_err-strip_suffix
returns-in_err-strip_suffix c =
    let f = strip_suffix_char 41 c.args.name.now c.strip_suffix.result c.strip_suffix.ensures.cases (omega arith) in
    let not_closed = MatchOption-at_none _ _ c.in_err-strip_suffix.was f in
    ap (option_map seen_pair) c.from_residual.ensures ∙ sym (element_none c.args.name.now (closed_none c.args.name.now not_closed))

pub returns : goal.returns
returns c =
    let f = strip_suffix_char 41 c.args.name.now c.strip_suffix.result c.strip_suffix.ensures.cases (omega arith) in
    let split = MatchOption-at_some _ _ c.in_ok-strip_suffix.field-0 c.in_ok-strip_suffix.was f in
    let parts = split_parts 40 c.in_ok-strip_suffix.field-0.now c.split_once.result c.split_once.ensures.cases (omega arith) in
    opened_split c.split_once.result c.in_ok-strip_suffix.field-0.now parts
    ∙ sym (element_some c.args.name.now c.in_ok-strip_suffix.field-0.now (ap closed split ∙ closed_at c.in_ok-strip_suffix.field-0.now))
