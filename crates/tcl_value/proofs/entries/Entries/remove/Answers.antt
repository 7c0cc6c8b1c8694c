use Rattle.std.proofs.Common.{ap, sym, arith, length, refl}
use Rattle.tcl_value.specs.Writing.{write}
use Rattle.tcl_value.specs.Texts.{flat}
use Rattle.tcl_value.proofs.Removed.{without_found_at, without_absent, light_within_at, dropped_refused, past_unless}
use Rattle.tcl_value.proofs.entries.Entries.remove.Goals as goal

pub returns-in-Some-clause-removed : goal.returns-in-Some-clause-removed
returns-in-Some-clause-removed c = without_found_at c.remove_at.result c.args.self.now c.remove_at.new.self c.args.key.now c.in-Some.index c.in-Some.ensures c.remove_at.ensures.removed

pub returns-in-Some-clause-within : goal.returns-in-Some-clause-within
returns-in-Some-clause-within c = light_within_at c.remove_at.result (flat c.remove_at.new.self) c.remove_at.ensures.light

pub returns-in-Some-clause-refused : goal.returns-in-Some-clause-refused
returns-in-Some-clause-refused c = dropped_refused c.args.self.now c.args.key.now c.in-Some.index c.in-Some.ensures c.remove_at.ensures.refused

pub returns-in-None-clause-removed : goal.returns-in-None-clause-removed
returns-in-None-clause-removed c = sym (without_absent c.args.self.now c.args.key.now c.in-None.ensures)

pub returns-in-None-clause-refused : goal.returns-in-None-clause-refused
returns-in-None-clause-refused c =
    let within = c.is_within.ensures.0 c.if-is_within.true in
    let same = ap (λ z. length (write (flat z))) (without_absent c.args.self.now c.args.key.now c.in-None.ensures) in
    ((λ e. absurd (cc)), (λ p. absurd (omega arith)))

pub returns-in-None-2-clause-refused : goal.returns-in-None-2-clause-refused
returns-in-None-2-clause-refused c =
    let past = past_unless c.is_within.result (write (flat c.args.self.now)) c.is_within.ensures c.if-is_within.false in
    let same = ap (λ z. length (write (flat z))) (without_absent c.args.self.now c.args.key.now c.in-None-2.ensures) in
    ((λ e. omega arith), (λ p. refl))
