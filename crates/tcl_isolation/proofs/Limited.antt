-- Scripts set the count limit of a tree's top as entries ask them to.
use Rattle.std.proofs.Common.{◌≡◌, Bool, true, false, [], Option, Some, None, refl}
use Rattle.tcl_core.specs.Entries.{Entry}
use Rattle.tcl_core.specs.Entries.Entry.{SetCountLimit, SetDepthLimit, Eval, CallWords, InvokeHidden, SetAlias, ClearAlias, Hide, Expose, Create, Delete, Ask, AskHost}
use Rattle.tcl_core.specs.Trees.{Node}
use Rattle.tcl_core.proofs.Disciplines.{bad}
use Rattle.tcl_language.specs.Interpreters.{is_count_limit}
use Rattle.tcl_language.specs.Instructions.{Program, at_node, either}
use Rattle.tcl_run.specs.Language.{language}
use Rattle.tcl_run_laws.proofs.Limiting.{language_keeps_tops}
use Rattle.tcl_run_laws.specs.Language.{leaves_steps}
use Rattle.tcl_run_laws.specs.Limits.{sets_steps}
use Rattle.tcl_text.specs.declared.integer.Integers.{Integers}
use Rattle.tcl_tree.specs.Own.{Own}
use Rattle.tcl_isolation.proofs.Lowering.{Ruled, Rules, rules_of}

by_either : (a : Option Entry) (b : Bool) (x y : Program) → Ruled leaves_steps a x → Ruled leaves_steps a y → Ruled leaves_steps a (either b x y)
by_either a true x y f g = f
by_either a false x y f g = g

by_node : (a : Option Entry) (k : Node Own → Program) (n : Option (Node Own)) → ((n : Node Own) → Ruled leaves_steps a (k n)) → Ruled leaves_steps a (at_node k n)
by_node a k None f = tt
by_node a k (Some n) f = f n

limiting : (style : Integers) (i : Entry) → sets_steps i ≡ true → Ruled leaves_steps (Some i) ((language style).entry i)
limiting style (SetCountLimit l) e = (tt, λ T. by_node (Some (SetCountLimit l)) _ (T []) (λ n. by_either (Some (SetCountLimit l)) n.root _ _ tt (by_either (Some (SetCountLimit l)) (is_count_limit l) _ _ (refl, λ U. tt) tt)))
limiting style (SetDepthLimit l) e = bad e
limiting style (Eval t) e = bad e
limiting style (CallWords ws) e = bad e
limiting style (InvokeHidden b ws) e = bad e
limiting style (SetAlias x n p ws) e = bad e
limiting style (ClearAlias x) e = bad e
limiting style (Hide x h) e = bad e
limiting style (Expose h x) e = bad e
limiting style (Create x b) e = bad e
limiting style (Delete x) e = bad e
limiting style (Ask q) e = bad e
limiting style (AskHost q) e = bad e

pub language_rules : (style : Integers) → Rules leaves_steps (language style)
language_rules style = rules_of leaves_steps (language style) (language_keeps_tops style) (limiting style)
