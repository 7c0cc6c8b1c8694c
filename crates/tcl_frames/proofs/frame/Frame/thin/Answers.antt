use Rattle.std.proofs.Common.{◌≡◌, sym, ◌∙◌, ap, subst}
use Rattle.std.specs.Prelude.{MatchOption}
use Rattle.std.specs.Map.{lookup, set_value}
use Rattle.std.specs.Option.{option_copied_mut}
use Rattle.std.specs.Str.{bytes_eq}
use Rattle.tcl_frames.specs.VariableArrays.{thinned}
use Rattle.tcl_frames.specs.Rebinding.{with_variable}
use Rattle.tcl_frames.specs.contracts.frame.Frame.{the_view}
use Rattle.tcl_frames.specs.declared.frame.Frame.TheInside.{Inside}
use Rattle.tcl_frames.proofs.FrameLemmas.{at_some, lent_is, thin_lent, thin_none}
use Rattle.tcl_frames.proofs.frame.Frame.thin.Goals as goal
use Rattle.tcl_frames.proofs.frame.Frame.thin.Goals.{in-Some, in_default}

pub returns : goal.returns
returns c =
    let b = c.args.base.now in
    let g = c.args.pattern.now in
    let self = c.args.self.now in
    let vs = c.self.inside.variables in
    let P : Inside → Type 0 = λ i. MatchOption (lookup (bytes_eq b) self.variables) (the_view i ≡ self) (λ v. the_view i ≡ with_variable self b (thinned g v)) in
    elim c.match-get_mut.branch [
      | in-Some w ↦
          let v = w.in-Some.variable in
          let u = w.remove_matching.new.self in
          let found = lent_is c.get_mut.result v _ w.in-Some.is c.get_mut.ensures.value in
          let set = at_some c.get_mut.result v w.in-Some.is (c.get_mut.follows.holds u) ∙ ap (set_value (bytes_eq b) vs) w.remove_matching.ensures in
          subst P (sym w.self-inside-is) (thin_lent (the_view c.self.inside) self b g v.now (c.get_mut.follows.lender u) c.self.view_is found set)
      | in_default w ↦
          let none = sym c.get_mut.ensures.value ∙ ap option_copied_mut w.in_default.is in
          subst P (sym w.self-inside-is) (thin_none (the_view c.self.inside) self b g c.get_mut.follows.lender-at-none c.self.view_is none c.get_mut.follows.holds-at-none)
    ]
