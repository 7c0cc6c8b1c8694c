use Rattle.std.proofs.Common.{subst}
use Rattle.std.proofs.lemmas.Result.{err_from_is_err_and}
use Rattle.tcl_core.specs.Paths.{Path}
use Rattle.tcl_core.specs.Programs.Act.{Look}
use Rattle.tcl_core.specs.Programs.Prog.{act}
use Rattle.tcl_language.specs.Interpreters.{where_it_stands}
use Rattle.tcl_run.proofs.Endings.{ended_err}
use Rattle.tcl_calls.specs.Asking.{Styled}
use Rattle.tcl_calls.specs.Looking.{GetsTo, GetsToEnd}
use Rattle.tcl_calls.proofs.Looks.{gets_end, looks_then}
use Rattle.tcl_interp.specs.Programs.{allowed, settable_at}
use Rattle.tcl_interp.proofs.limits.settable_word.Goals as goal

pub returns-in_err-path : goal.returns-in_err-path
returns-in_err-path c =
    let p = err_from_is_err_and c.from_residual.result c.from_residual.ensures.1 in
    ended_err c.from_residual.result c.in_err-path.field-0.0 p.0 _ _ _ p.1 p.2 c.in_err-path.ensures
    (λ e f rest. f (λ path style. allowed c.args.limit path (act Look (λ T. where_it_stands c.args.word.now (λ n. rest path style) (T path)))))

pub returns-in_err-allow : goal.returns-in_err-allow
returns-in_err-allow c =
    let p = err_from_is_err_and c.from_residual-in_err-allow.result c.from_residual-in_err-allow.ensures.1 in
    let stood : (Path → Styled) → Path → Styled = λ rest path style. act Look (λ T. where_it_stands c.args.word.now (λ n. rest path style) (T path)) in
    ended_err c.from_residual-in_err-allow.result c.in_err-allow.field-0.0 p.0 _ _ _ p.1 p.2 c.in_err-allow.ensures
    (λ e f rest. gets_end c.args.tree.now c.args.place (λ style. settable_at c.args.limit c.args.word.now (λ path. rest path style)) (λ style. allowed c.args.limit c.in_ok-path.path.items (stood rest c.in_ok-path.path.items style)) e
    (c.in_ok-path.ensures (λ path style. allowed c.args.limit path (stood rest path style)))
    (subst (λ (x : Path). GetsToEnd c.args.tree.now c.args.place (λ style. allowed c.args.limit x (stood rest c.in_ok-path.path.items style)) e) c.as_slice.ensures.value (f (stood rest c.in_ok-path.path.items))))

pub returns-in_err-stands : goal.returns-in_err-stands
returns-in_err-stands c =
    let p = err_from_is_err_and c.from_residual-in_err-stands.result c.from_residual-in_err-stands.ensures.1 in
    let stood : (Path → Styled) → Path → Styled = λ rest path style. act Look (λ T. where_it_stands c.args.word.now (λ n. rest path style) (T path)) in
    ended_err c.from_residual-in_err-stands.result c.in_err-stands.field-0.0 p.0 _ _ _ p.1 p.2 c.in_err-stands.ensures
    (λ e f rest. gets_end c.args.tree.now c.args.place (λ style. settable_at c.args.limit c.args.word.now (λ path. rest path style)) (λ style. allowed c.args.limit c.in_ok-path.path.items (stood rest c.in_ok-path.path.items style)) e
    (c.in_ok-path.ensures (λ path style. allowed c.args.limit path (stood rest path style)))
    (gets_end c.args.tree.now c.args.place (λ style. allowed c.args.limit c.in_ok-path.path.items (stood rest c.in_ok-path.path.items style)) (stood rest c.in_ok-path.path.items) e
    (subst (λ (x : Path). GetsTo c.args.tree.now c.args.place (λ style. allowed c.args.limit x (stood rest c.in_ok-path.path.items style)) (stood rest c.in_ok-path.path.items)) c.as_slice.ensures.value (c.in_ok-allow.ensures (stood rest c.in_ok-path.path.items)))
    (subst (λ (x : Path). GetsToEnd c.args.tree.now c.args.place (λ style. act Look (λ T. where_it_stands c.args.word.now (λ n. rest c.in_ok-path.path.items style) (T x))) e) c.as_slice-2.ensures.value (f (rest c.in_ok-path.path.items)))))

pub returns : goal.returns
returns c = λ rest p style at.
    let stood : Path → Styled = λ path style. act Look (λ T. where_it_stands c.args.word.now (λ n. rest path style) (T path)) in
    looks_then (c.in_ok-path.ensures (λ path style. allowed c.args.limit path (stood path style)) p style at)
    (looks_then (subst (λ (x : Path). GetsTo c.args.tree.now c.args.place (λ style. allowed c.args.limit x (stood c.in_ok-path.path.items style)) (stood c.in_ok-path.path.items)) c.as_slice.ensures.value (c.in_ok-allow.ensures (stood c.in_ok-path.path.items)) p style at)
    (subst (λ (x : Path). GetsTo c.args.tree.now c.args.place (λ style. act Look (λ T. where_it_stands c.args.word.now (λ n. rest c.in_ok-path.path.items style) (T x))) (rest c.in_ok-path.path.items)) c.as_slice-2.ensures.value (c.in_ok-stands.ensures (rest c.in_ok-path.path.items)) p style at))
