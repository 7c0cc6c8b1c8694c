use Rattle.std.proofs.Common.{◌∷◌, sym, subst}
use Rattle.tcl_language.specs.Table.{builtin as program_of}
use Rattle.tcl_run.specs.Plain.{Acts}
use Rattle.tcl_commands.specs.Named.{builtin_of, words_of}
use Rattle.tcl_commands.specs.declared.named.VariableChange.{VariableChange}
use Rattle.tcl_commands.proofs.named.change_variable.Goals as goal

pub returns-in-Derived-clause-acts : goal.returns-in-Derived-clause-acts
returns-in-Derived-clause-acts c =
    subst (λ (x : VariableChange). Acts c.args.tree.now c.args.place (λ style. program_of style (builtin_of x) (c.args.name.now ∷ words_of x)) c.set_derived.new.tree c.set_derived.result) (sym c.in-Derived.is) c.set_derived.ensures.acts

pub returns-in-Raise-clause-acts : goal.returns-in-Raise-clause-acts
returns-in-Raise-clause-acts c =
    subst (λ (x : VariableChange). Acts c.args.tree.now c.args.place (λ style. program_of style (builtin_of x) (c.args.name.now ∷ words_of x)) c.raise.new.tree c.raise.result) (sym c.in-Raise.is) c.raise.ensures.acts

pub returns-in-Incr-clause-acts : goal.returns-in-Incr-clause-acts
returns-in-Incr-clause-acts c =
    subst (λ (x : VariableChange). Acts c.args.tree.now c.args.place (λ style. program_of style (builtin_of x) (c.args.name.now ∷ words_of x)) c.incr.new.tree c.incr.result) (sym c.in-Incr.is) c.incr.ensures.acts

pub returns-in-Lappend-clause-acts : goal.returns-in-Lappend-clause-acts
returns-in-Lappend-clause-acts c =
    subst (λ (x : VariableChange). Acts c.args.tree.now c.args.place (λ style. program_of style (builtin_of x) (c.args.name.now ∷ words_of x)) c.lappend.new.tree c.lappend.result) (sym c.in-Lappend.is) c.lappend.ensures.acts
