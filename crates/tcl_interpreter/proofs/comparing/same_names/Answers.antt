use Rattle.std.proofs.Common.{◌≡◌, true, false, Some, refl, sym, ◌∙◌, ap, arith}
use Rattle.indexmap.specs.IndexMap.{keys}
use Rattle.tcl_interpreter.proofs.SameLemmas.{same_more, name_at, differ_at, same_all, names_length}
use Rattle.tcl_interpreter.proofs.comparing.same_names.Goals as goal

pub returns-then-not-same : goal.returns-then-not-same
returns-then-not-same c =
    let one = name_at c.args.these.now.entries c.names.index c.in-Some.name.now c.in-Some.field-0-1.now (sym c.in-Some.ensures.entry) in
    let two = name_at c.args.those.now.entries c.names.index c.in-Some-get_index.other.now c.in-Some-get_index.field-0-1.now (sym c.in-Some-get_index.ensures.entry) in
    (λ t. let x : false ≡ true = t in cc, λ e. let same = differ_at (keys c.args.these.now) (keys c.args.those.now) c.names.index _ _ one two e in let f = c.same.ensures.1 same in let n = c.if-not-same.true in cc)

pub names-preserved : goal.names-preserved
names-preserved c =
    let one = name_at c.args.these.now.entries c.names.index c.in-Some.name.now c.in-Some.field-0-1.now (sym c.in-Some.ensures.entry) in
    let two = name_at c.args.those.now.entries c.names.index c.in-Some-get_index.other.now c.in-Some-get_index.field-0-1.now (sym c.in-Some-get_index.ensures.entry) in
    let same = c.same.ensures.0 c.if-not-same.false in
    same_more (keys c.args.these.now) (keys c.args.those.now) c.names.index _ c.names.invariant one (two ∙ ap Some (sym same))

pub returns : goal.returns
returns c =
    let these = names_length c.args.these.now.entries in
    let those = names_length c.args.those.now.entries in
    let all : keys c.args.these.now ≡ keys c.args.those.now = same_all (keys c.args.these.now) (keys c.args.those.now) c.names.index (omega arith) (omega arith) c.names.invariant in
    (λ t. all, λ e. refl)
