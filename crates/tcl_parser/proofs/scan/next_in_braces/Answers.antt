use Rattle.std.proofs.Common.{◌∙◌, sym}
use Rattle.tcl_parser.proofs.RunLemmas.{after_run_end}
use Rattle.tcl_parser.specs.declared.scan.Run.TheVariants.{Braces}
use Rattle.tcl_parser.proofs.BraceLemmas.{run_reads, no_run, brace_closes, brace_closes_inner, brace_opens, brace_missing}
use Rattle.tcl_parser.proofs.scan.next_in_braces.Goals as goal

pub returns-then-not-is_empty-clause-reads : goal.returns-then-not-is_empty-clause-reads
returns-then-not-is_empty-clause-reads c = run_reads _ _ _ _ c.split_run.ensures.front c.split_run.ensures.rest

pub returns-in_default-clause-reads : goal.returns-in_default-clause-reads
returns-in_default-clause-reads c =
    let whole = no_run _ _ _ c.split_run.ensures.front c.split_run.ensures.rest (sym c.is_empty.ensures ∙ c.if-not-is_empty.false) in
    brace_missing _ _ (sym whole ∙ after_run_end Braces c.args.text.now _ c.split_run.ensures.rest c.in_default.ensures.split)

pub returns-in-125-clause-reads : goal.returns-in-125-clause-reads
returns-in-125-clause-reads c =
    let whole = no_run _ _ _ c.split_run.ensures.front c.split_run.ensures.rest (sym c.is_empty.ensures ∙ c.if-not-is_empty.false) in
    brace_closes _ _ _ _ (sym whole ∙ c.in-Some.ensures.split) c.in-125.is c.if-depth-eq0.true

pub returns-in-125-2-clause-reads : goal.returns-in-125-2-clause-reads
returns-in-125-2-clause-reads c =
    let whole = no_run _ _ _ c.split_run.ensures.front c.split_run.ensures.rest (sym c.is_empty.ensures ∙ c.if-not-is_empty.false) in
    brace_closes_inner _ _ _ _ (sym whole ∙ c.in-Some.ensures.split) c.in-125.is c.if-depth-eq0.false

pub returns-in-123-clause-reads : goal.returns-in-123-clause-reads
returns-in-123-clause-reads c =
    let whole = no_run _ _ _ c.split_run.ensures.front c.split_run.ensures.rest (sym c.is_empty.ensures ∙ c.if-not-is_empty.false) in
    brace_opens _ _ _ _ (sym whole ∙ c.in-Some.ensures.split) c.in-123.is
