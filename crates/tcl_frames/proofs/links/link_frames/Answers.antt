use Rattle.std.proofs.Common.{◌≡◌, ◌-◌, ◌∙◌, sym, ap, subst, length, arith, false, true, Ok}
use Rattle.std.specs.Prelude.{OnOk, IfErr}
use Rattle.std.proofs.lemmas.Option.{MatchOption-at_some, MatchOption-at_none}
use Rattle.tcl_frames.specs.Faults.{Refuses}
use Rattle.tcl_frames.specs.Names.{is_plain}
use Rattle.tcl_frames.specs.Targets.{target_or}
use Rattle.tcl_frames.specs.Variables.{part_of}
use Rattle.tcl_frames.specs.Reached.{start}
use Rattle.tcl_frames.specs.Written.{seen}
use Rattle.tcl_frames.proofs.StepLemmas.{read_none, read_some}
use Rattle.tcl_frames.proofs.LinkLemmas.{refuses_past, refuses_itself, good_from, linked_bad_other, linked_bad_local, from_nested, from_place, less_one}
use Rattle.tcl_frames.proofs.links.link_frames.Goals as goal

pub returns-then-level-frames-clause-err : goal.returns-then-level-frames-clause-err
returns-then-level-frames-clause-err c = refuses_past c.args.frames.now c.args.level c.args.other.now c.args.local.now (omega arith)

pub returns-in-None-clause-err : goal.returns-in-None-clause-err
returns-in-None-clause-err c =
    let bad = read_none c.read_name.result c.as_str.result.now c.args.other.now c.read_name.ensures c.as_str.ensures c.in-None.is in
    subst (Refuses c.refused.result) (sym (linked_bad_other c.args.frames.now c.args.level c.args.other.now c.args.local.now (omega arith) bad)) c.refused.ensures

pub returns-then-not-is_plain_name-clause-err : goal.returns-then-not-is_plain_name-clause-err
returns-then-not-is_plain_name-clause-err c =
    let good = read_some c.read_name.result c.as_str.result.now c.args.other.now c.in-Some.written c.read_name.ensures c.as_str.ensures c.in-Some.is in
    let plain : is_plain c.args.local.now ≡ false = ap is_plain (sym c.as_str-in-Some.ensures) ∙ sym c.is_plain_name.ensures ∙ c.if-not-is_plain_name.true in
    subst (Refuses c.refused-then-not-is_plain_name.result) (sym (linked_bad_local c.args.frames.now c.args.level c.args.other.now c.args.local.now (seen c.in-Some.written) (omega arith) good plain)) c.refused-then-not-is_plain_name.ensures

pub returns-then-ends_at-clause-err : goal.returns-then-ends_at-clause-err
returns-then-ends_at-clause-err c =
    let fs = c.args.frames.now in
    let w = seen c.in-Some.written in
    let good = read_some c.read_name.result c.as_str.result.now c.args.other.now c.in-Some.written c.read_name.ensures c.as_str.ensures c.in-Some.is in
    let plain : is_plain c.args.local.now ≡ true = ap is_plain (sym c.as_str-in-Some.ensures) ∙ sym c.is_plain_name.ensures ∙ c.if-not-is_plain_name.false in
    let p = target_or (start c.level_for-from.result w.base) (part_of w.key) c.in_ok-target-in-Some.target in
    let e = good_from fs c.args.level c.args.other.now c.args.local.now w c.ends_at.result c.level_for-from.result (length fs - 1) p (omega arith) good plain (less_one (length fs)) c.level_for-from.ensures c.in_ok-target-in-Some.ensures (c.ends_at.ensures (part_of w.key)) in
    refuses_itself fs c.args.level c.args.other.now c.args.local.now c.ends_at.result p e c.if-ends_at.true

pub returns-in-None-2-clause-err : goal.returns-in-None-2-clause-err
returns-in-None-2-clause-err c =
    let fs = c.args.frames.now in
    let w = seen c.in-Some.written in
    let good = read_some c.read_name.result c.as_str.result.now c.args.other.now c.in-Some.written c.read_name.ensures c.as_str.ensures c.in-Some.is in
    let plain : is_plain c.args.local.now ≡ true = ap is_plain (sym c.as_str-in-Some.ensures) ∙ sym c.is_plain_name.ensures ∙ c.if-not-is_plain_name.false in
    let p = target_or (start c.level_for-from.result w.base) (part_of w.key) c.in_ok-target-in-Some.target in
    let e = good_from fs c.args.level c.args.other.now c.args.local.now w c.ends_at.result c.level_for-from.result (length fs - 1) p (omega arith) good plain (less_one (length fs)) c.level_for-from.ensures c.in_ok-target-in-Some.ensures (c.ends_at.ensures (part_of w.key)) in
    let nested_is = MatchOption-at_none _ _ c.in-None-2.is c.in_ok-end_place-in-Some.ensures in
    subst (Refuses c.refused-in-None-2.result) (sym (e ∙ from_nested fs c.ends_at.result c.args.other.now c.args.local.now p c.if-ends_at.false nested_is)) c.refused-in-None-2.ensures

pub returns-in-Some-2-clause-ok : goal.returns-in-Some-2-clause-ok
returns-in-Some-2-clause-ok c =
    let fs = c.args.frames.now in
    let w = seen c.in-Some.written in
    let good = read_some c.read_name.result c.as_str.result.now c.args.other.now c.in-Some.written c.read_name.ensures c.as_str.ensures c.in-Some.is in
    let plain : is_plain c.args.local.now ≡ true = ap is_plain (sym c.as_str-in-Some.ensures) ∙ sym c.is_plain_name.ensures ∙ c.if-not-is_plain_name.false in
    let p = target_or (start c.level_for-from.result w.base) (part_of w.key) c.in_ok-target-in-Some.target in
    let e = good_from fs c.args.level c.args.other.now c.args.local.now w c.ends_at.result c.level_for-from.result (length fs - 1) p (omega arith) good plain (less_one (length fs)) c.level_for-from.ensures c.in_ok-target-in-Some.ensures (c.ends_at.ensures (part_of w.key)) in
    let place_is = MatchOption-at_some _ _ c.in-Some-2.place c.in-Some-2.is c.in_ok-end_place-in-Some.ensures in
    subst (λ z. OnOk c.link_here.result (z ≡ Ok c.link_here.new.frames)) (sym (e ∙ from_place fs c.ends_at.result c.args.other.now c.args.local.now p c.in-Some-2.place c.if-ends_at.false place_is)) c.link_here.ensures.ok

pub returns-in-Some-2-clause-err : goal.returns-in-Some-2-clause-err
returns-in-Some-2-clause-err c =
    let fs = c.args.frames.now in
    let w = seen c.in-Some.written in
    let good = read_some c.read_name.result c.as_str.result.now c.args.other.now c.in-Some.written c.read_name.ensures c.as_str.ensures c.in-Some.is in
    let plain : is_plain c.args.local.now ≡ true = ap is_plain (sym c.as_str-in-Some.ensures) ∙ sym c.is_plain_name.ensures ∙ c.if-not-is_plain_name.false in
    let p = target_or (start c.level_for-from.result w.base) (part_of w.key) c.in_ok-target-in-Some.target in
    let e = good_from fs c.args.level c.args.other.now c.args.local.now w c.ends_at.result c.level_for-from.result (length fs - 1) p (omega arith) good plain (less_one (length fs)) c.level_for-from.ensures c.in_ok-target-in-Some.ensures (c.ends_at.ensures (part_of w.key)) in
    let place_is = MatchOption-at_some _ _ c.in-Some-2.place c.in-Some-2.is c.in_ok-end_place-in-Some.ensures in
    subst (λ z. IfErr c.link_here.result (λ e. Refuses e z)) (sym (e ∙ from_place fs c.ends_at.result c.args.other.now c.args.local.now p c.in-Some-2.place c.if-ends_at.false place_is)) c.link_here.ensures.err
