use Rattle.std.proofs.Common.{◌≡◌, rules, true, false, sym, subst}
use Rattle.std.specs.Prelude.{Result, codes}
use Rattle.std.specs.Str.{bytes_eq}
use Rattle.tcl_core.specs.Paths.{Text}
use Rattle.tcl_flow.specs.Returning.{code_of}
use Rattle.tcl_language.specs.Instructions.{Handles}
use Rattle.tcl_language.specs.Trying.{code_or, handles_of, pattern_or}
use Rattle.tcl_run.specs.Ends.{IsFailure, itself}
use Rattle.tcl_run.proofs.Endings.{Interrupts-more}
use Rattle.tcl_text.specs.Lists.{list_of}
use Rattle.tcl_calls.proofs.Handling.{at_neither, at_on, at_trap, reads_as}
use Rattle.tcl_calls.proofs.trying.read_handles.Goals as goal

pub returns-then-is_text : goal.returns-then-is_text
returns-then-is_text c =
    let on : bytes_eq c.args.word.now (codes "on") ≡ true = search rules in
    reads_as (handles_of c.args.style c.args.word.now c.args.what.now) (code_or c.args.what.now (code_of c.args.style c.args.what.now)) c.read_code.result (at_on c.args.style c.args.word.now c.args.what.now on) c.read_code.ensures

pub returns-then-is_text-2 : goal.returns-then-is_text-2
returns-then-is_text-2 c =
    let off : bytes_eq c.args.word.now (codes "on") ≡ false = search rules in
    let trap : bytes_eq c.args.word.now (codes "trap") ≡ true = search rules in
    reads_as (handles_of c.args.style c.args.word.now c.args.what.now) (pattern_or (list_of c.args.what.now)) c.read_pattern.result (at_trap c.args.style c.args.word.now c.args.what.now off trap) c.read_pattern.ensures

pub returns : goal.returns
returns c =
    let off : bytes_eq c.args.word.now (codes "on") ≡ false = search rules in
    let other : bytes_eq c.args.word.now (codes "trap") ≡ false = search rules in
    Interrupts-more c.wrong_args.result _ _ (λ e h. subst (λ (r : Result Handles Text). IsFailure itself r e) (sym (at_neither c.args.style c.args.word.now c.args.what.now off other)) h) c.wrong_args.ensures
