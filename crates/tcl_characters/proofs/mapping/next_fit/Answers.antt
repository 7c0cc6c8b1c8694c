use Rattle.std.proofs.Common.{rules}
use Rattle.std.specs.Str.{chars, IsUtf8}
use Rattle.tcl_characters.proofs.RunLemmas.{kept_none, kept_more, kept_all, kept_smaller, kept_cut, kept_put}
use Rattle.tcl_characters.proofs.SkipLemmas.{kept_skip}
use Rattle.tcl_characters.proofs.mapping.next_fit.Goals as goal

pub places-init : goal.places-init
places-init c = (search rules, kept_none c.args.nocase c.args.mapping.now c.args.text.now)

pub overflow_sub-text : goal.overflow_sub-text
overflow_sub-text c = kept_smaller c.args.nocase c.args.mapping.now c.args.text.now c.places.rest.now c.places.invariant.1

pub split_at-requires : goal.split_at-requires
split_at-requires c = kept_cut c.args.nocase c.args.mapping.now c.args.text.now c.places.rest.now c.places.invariant.0 c.places.invariant.1

pub returns-in-Some-fitting : goal.returns-in-Some-fitting
returns-in-Some-fitting c =
    kept_put c.args.nocase c.args.mapping.now c.args.text.now c.places.rest.now c.in-Some-fitting.behind.now _ c.in-Some-fitting.new.now (chars c.in-Some.behind_first.now) c.in-Some.ensures.0 c.in-Some-fitting.ensures.0 c.in-Some.ensures.1 c.in-Some-fitting.ensures.1 c.in-Some-fitting.ensures.2 c.split_at.ensures.front c.places.invariant.1

pub places-preserved : goal.places-preserved
places-preserved c =
    let text : IsUtf8 c.in-Some.behind_first.now = search rules in
    let kept = kept_more c.args.nocase c.args.mapping.now c.args.text.now c.places.rest.now c.in-Some.behind_first.now c.in-Some.ensures.0 c.places.invariant.0 text c.in-Some.ensures.1 c.in_default-fitting.ensures c.places.invariant.1 in (
      c.behind_unfit-rest.utf8,
      kept_skip c.args.nocase c.args.mapping.now c.args.text.now c.in-Some.behind_first.now c.behind_unfit-rest.result.now c.behind_unfit-rest.ensures kept,
    )

pub returns : goal.returns
returns c = kept_all c.args.nocase c.args.mapping.now c.args.text.now c.places.rest.now c.places.invariant.0 c.in_default.ensures c.places.invariant.1
