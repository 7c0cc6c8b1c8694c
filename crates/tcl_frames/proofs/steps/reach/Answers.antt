use Rattle.std.proofs.Common.{◌∙◌, sym, ap, subst, ◌<◌}
use Rattle.std.specs.Option.{option_copied}
use Rattle.tcl_frames.specs.Parts.{seen_part}
use Rattle.tcl_frames.specs.Places.{Spot, end_of, links, next}
use Rattle.tcl_frames.specs.Variables.{Part}
use Rattle.tcl_frames.proofs.WalkLemmas.{hops}
use Rattle.tcl_frames.proofs.ReachLemmas.{follow_falls, follow_end, follow_here}
use Rattle.tcl_frames.proofs.steps.reach.Goals as goal

pub links-init : goal.links-init
links-init c = ap (λ (r : Part). end_of c.args.frames.now (record { level = c.args.link.now.level; name = c.args.link.now.name; part = r })) c.part_under-part.ensures

pub links-smaller : goal.links-smaller
links-smaller c =
    let p : Spot = record { level = c.links.level; name = c.links.name.now; part = seen_part c.links.part } in
    let q = c.in-Some.next.now in
    let found = sym c.link_at.ensures ∙ ap option_copied c.in-Some.is in
    subst (λ (r : Part). hops (links c.args.frames.now) (next c.args.frames.now) (record { level = q.level; name = q.name; part = r }) < hops (links c.args.frames.now) (next c.args.frames.now) p)
    (sym c.part_under-part-in-Some.ensures) (follow_falls c.args.frames.now c.requires p q found)

pub links-preserved : goal.links-preserved
links-preserved c =
    let p : Spot = record { level = c.links.level; name = c.links.name.now; part = seen_part c.links.part } in
    let q = c.in-Some.next.now in
    let found = sym c.link_at.ensures ∙ ap option_copied c.in-Some.is in
    ap (λ (r : Part). end_of c.args.frames.now (record { level = q.level; name = q.name; part = r })) c.part_under-part-in-Some.ensures
    ∙ sym (follow_end c.args.frames.now c.requires p q found)
    ∙ c.links.invariant

pub returns-in-None : goal.returns-in-None
returns-in-None c =
    let p : Spot = record { level = c.links.level; name = c.links.name.now; part = seen_part c.links.part } in
    let none = sym c.link_at.ensures ∙ ap option_copied c.in-None.is in
    sym (follow_here c.args.frames.now p none) ∙ c.links.invariant
