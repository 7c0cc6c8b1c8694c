-- What programs reach.
use Rattle.std.proofs.Common.{◌≡◌, ℕ, List, Option, Some, None, refl, sym, ap, subst, ◌∙◌, append-nil}
use Rattle.std.specs.Prelude.{Result, Ok, Err}
use Rattle.tcl_core.specs.Endings.{Reply}
use Rattle.tcl_core.specs.Paths.{Path, Text}
use Rattle.tcl_core.specs.Programs.{Table, changing}
use Rattle.tcl_core.specs.Programs.Next.{On}
use Rattle.tcl_core.specs.Programs.Prog.{done}
use Rattle.tcl_core.specs.Execution.{acted}
use Rattle.tcl_core.specs.Trees.{Tree, Node}
use Rattle.tcl_core.specs.Trees.What.{Changed}
use Rattle.tcl_frames.specs.Chain.{Chain, after_set}
use Rattle.tcl_language.specs.Faults.{frame_message}
use Rattle.tcl_language.specs.Instructions.{Instr, Program, at_node, change, look, or_fails, with_chain}
use Rattle.tcl_language.specs.Variables.{chain_becomes, sets}
use Rattle.tcl_run.specs.Ends.{IsFailure, failing}
use Rattle.tcl_run.specs.Plain.{Does}
use Rattle.tcl_run.specs.Outsides.{Going}
use Rattle.tcl_run.specs.Runs.{Comes, Rechained}
use Rattle.tcl_run.proofs.Leads.{sees_below}
use Rattle.tcl_tree.specs.Own.{Own}
use Rattle.tcl_frames.specs.declared.fault.FrameFault.{FrameFault}
use Rattle.tcl_commands.specs.Reaching.{Reaches, ReachesEnd}
use Rattle.tcl_commands.specs.Reaching.Reaches.{here, looked, changed}

pub reaches-trans : {p : Path} {x y z : Program} {T U V : Tree Own} → Reaches p x T y U → Reaches p y U z V → Reaches p x T z V
reaches-trans here h = h
reaches-trans (looked g) h = looked (reaches-trans g h)
reaches-trans (changed there g) h = changed there (reaches-trans g h)

-- an end on the way
pub reaches_end : {p : Path} {x y : Program} {T U V : Tree Own} {r : Reply} → Reaches p x T y U → ReachesEnd p y U V r → ReachesEnd p x T V r
reaches_end g e = record { last = e.last; way = reaches-trans g e.way; end = e.end }

-- what is done from there is done from here
pub reaches_does : {p : Path} {x y : Program} {T U : Tree Own} (V : Tree Own) (r : Reply) → Reaches p x T y U → Does y U p V r → Does x T p V r
reaches_does V r here d = d
reaches_does V r (looked g) d = reaches_does V r g d
reaches_does V r (changed {n = n} there g) d = (n, there, reaches_does V r g d)

pub end_does : {p : Path} {x : Program} {T U : Tree Own} {r : Reply} → ReachesEnd p x T U r → Does x T p U r
end_does {p} {x} {T} {U} {r} e = reaches_does U r e.way (subst (λ (y : Program). Does y U p U r) (sym e.end.is_over) (refl, e.end.ends))

-- and what may come from there may come from here
module _ {S : Type 0} {goes : Going S} {language : Table Own Instr} where
  pub reaches_comes : {p : Path} {x y : Program} {T U V : Tree Own} {o z : S} {r : Reply} → Reaches p x T y U → Comes goes language U o p y V z r → Comes goes language T o p x V z r
  reaches_comes here t = t
  reaches_comes (looked g) t = sees_below (reaches_comes g t)
  reaches_comes (changed {own = own} there g) t = acted (None, Changed own, On) (λ gs. ap (λ m. Some (changing own m)) there) tt (record { told = refl }) (reaches_comes g t)

-- ## Steps

pub look_reaches : {p : Path} {T U : Tree Own} {n : Node Own} {k : Node Own → Program} {y : Program} → T p ≡ Some n → Reaches p (k n) T y U → Reaches p (look k) T y U
look_reaches {p} {T} {U} {n} {k} {y} there g = looked (subst (λ (o : Option (Node Own)). Reaches p (at_node k o) T y U) (sym (ap T (append-nil p) ∙ there)) g)

pub look_end : {p : Path} {T U : Tree Own} {n : Node Own} {k : Node Own → Program} {r : Reply} → T p ≡ Some n → ReachesEnd p (k n) T U r → ReachesEnd p (look k) T U r
look_end {p} {T} {U} {n} {k} {r} there e = record { last = e.last; way = look_reaches {k = k} there e.way; end = e.end }

-- a reading that gave nothing
pub fails_end : {A F : Type 0} {p : Path} {T : Tree Own} {r : Reply} (message : F → List ℕ) (read : Result A F) (k : A → Program) → IsFailure message read r → ReachesEnd p (or_fails message read k) T T r
fails_end message (Ok a) k f = elim f [ ]
fails_end message (Err x) k f = record { last = done (failing (message x)); way = here; end = record { completion = failing (message x); is_over = refl; ends = f } }

becomes : {p : Path} {T U : Tree Own} {n : Node Own} {k : Program} (given : Result Chain FrameFault) → T p ≡ Some n → Rechained T p n.own given U → Reaches p (chain_becomes n.own given k) T k U
becomes {p} {T} {U} {n} {k} (Ok chain) there u = changed there (subst (λ (X : Tree Own). Reaches p k X k U) u here)
becomes {p} {T} {U} {n} {k} (Err f) there u = elim u [ ]

-- a variable is set
pub set_reaches : (p : Path) (T U : Tree Own) (n : Node Own) (name value : Text) (k : Program) → T p ≡ Some n → Rechained T p n.own (after_set n.own.chain name value) U → Reaches p (sets name value k) T k U
set_reaches p T U n name value k there u = look_reaches {k = λ m. chain_becomes m.own (after_set m.own.chain name value) k} there (becomes (after_set n.own.chain name value) there u)

pub set_end : (p : Path) (T : Tree Own) (n : Node Own) (name value : Text) (k : Program) (r : Reply) → T p ≡ Some n → IsFailure frame_message (after_set n.own.chain name value) r → ReachesEnd p (sets name value k) T T r
set_end p T n name value k r there f = look_end {k = λ m. chain_becomes m.own (after_set m.own.chain name value) k} there
    (fails_end frame_message (after_set n.own.chain name value) (λ chain. change (with_chain n.own chain) k) f)

-- no further from a tree that is as it was
pub end_same : {p : Path} {x : Program} {T U : Tree Own} {r : Reply} → U ≡ T → ReachesEnd p x T T r → ReachesEnd p x T U r
end_same {p} {x} {T} {U} {r} e h = subst (λ (V : Tree Own). ReachesEnd p x T V r) (sym e) h
