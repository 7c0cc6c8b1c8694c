use Rattle.std.proofs.Common.{◌≡◌, true, false, refl, sym, ◌∙◌}
use Rattle.std.specs.Prelude.{codes}
use Rattle.tcl_frames.specs.declared.scope.Scope.TheVariants.{Global, Local, Visible}
use Rattle.tcl_language.specs.Inspection as inspection
use Rattle.tcl_commands.proofs.Otherwise.{told_otherwise}
use Rattle.tcl_commands.proofs.Telling.{chosen_as}
use Rattle.tcl_commands.proofs.inspection.subcommand.Goals as goal

pub returns-then-is_text-3-clause-acts : goal.returns-then-is_text-3-clause-acts
returns-then-is_text-3-clause-acts c =
    chosen_as c.args.tree.now c.args.place c.args.word.now (codes "vars") c.args.args.now (λ style. inspection.names Visible (codes "info vars ?pattern?") c.args.args.now) c.names.result
    (c.is_text-3.ensures.0 c.if-is_text-3.true) (λ style. refl) c.names.ensures

pub returns-then-is_text-4-clause-acts : goal.returns-then-is_text-4-clause-acts
returns-then-is_text-4-clause-acts c =
    chosen_as c.args.tree.now c.args.place c.args.word.now (codes "globals") c.args.args.now (λ style. inspection.names Global (codes "info globals ?pattern?") c.args.args.now) c.names-then-is_text-4.result
    (c.is_text-4.ensures.0 c.if-is_text-4.true) (λ style. refl) c.names-then-is_text-4.ensures

pub returns-then-is_text-5-clause-acts : goal.returns-then-is_text-5-clause-acts
returns-then-is_text-5-clause-acts c =
    chosen_as c.args.tree.now c.args.place c.args.word.now (codes "locals") c.args.args.now (λ style. inspection.names Local (codes "info locals ?pattern?") c.args.args.now) c.names-then-is_text-5.result
    (c.is_text-5.ensures.0 c.if-is_text-5.true) (λ style. refl) c.names-then-is_text-5.ensures

pub returns-clause-acts : goal.returns-clause-acts
returns-clause-acts c =
    told_otherwise c.args.tree.now c.subcommand.new.tree c.args.place c.args.word.now c.args.args.now c.subcommand.result
    (λ e. let x : false ≡ true = sym c.if-is_text.false ∙ c.is_text.ensures.1 e in cc)
    (λ e. let x : false ≡ true = sym c.if-is_text-2.false ∙ c.is_text-2.ensures.1 e in cc)
    (λ e. let x : false ≡ true = sym c.if-is_text-3.false ∙ c.is_text-3.ensures.1 e in cc)
    (λ e. let x : false ≡ true = sym c.if-is_text-4.false ∙ c.is_text-4.ensures.1 e in cc)
    (λ e. let x : false ≡ true = sym c.if-is_text-5.false ∙ c.is_text-5.ensures.1 e in cc)
    (λ e. let x : false ≡ true = sym c.if-is_text-6.false ∙ c.is_text-6.ensures.1 e in cc) c.subcommand.ensures.acts
