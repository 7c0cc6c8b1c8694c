-- What holds all through a program, whatever it is told on its way.
use Rattle.std.specs.Prelude.{◌≡◌, [], Some}
use Rattle.tcl_core.specs.Endings.{Completion}
use Rattle.tcl_core.specs.Entries.{Entry, Said}
use Rattle.tcl_core.specs.Paths.{Height, Path}
use Rattle.tcl_core.specs.Programs.{Act, Wrap}
use Rattle.tcl_core.specs.Programs.Act.{Change, Limit, LimitDepth, Make}
use Rattle.tcl_core.specs.Programs.Prog.{act, call, done, exit, go, inside, wait}
use Rattle.tcl_core.specs.Programs.Wrap.{Deeper, Framed}
use Rattle.tcl_core.specs.Trees.{Node, Tree}
use Rattle.tcl_language.specs.Instructions.{Instr, Program}
use Rattle.tcl_language.specs.Instructions.Instr.{Hidden, Invoke, Serve}
use Rattle.tcl_tree.specs.Own.{Own}

-- What is wanted all through a program, and what it can count on.
pub record Demands : Type 1 where
  -- what it can count on of the interpreter where it runs
  pub stands : Node Own → Type 0
  -- what is wanted of each own part that it makes
  pub own : Own → Type 0
  -- where it sets its interpreter's limit of steps, and the one of depth
  pub steps : Type 0
  pub depth : Type 0
  -- where it calls hidden commands
  pub hidden : Type 0
  -- of what its interpreter asks of itself, and of what it asks of another one or of the host
  pub serves : Entry → Type 0
  pub calls : Height → Path → Entry → Type 0

module _ (P : Demands) where
  abbrev pub Acts : Act Own → Type 0
  Acts (Change own) = P.own own
  Acts (Make name own safe) = P.own own
  Acts (Limit limit) = P.steps
  Acts (LimitDepth limit) = P.depth
  Acts _ = Unit {0}

  abbrev pub Wraps : Wrap Own → Type 0
  Wraps Deeper = Unit {0}
  Wraps (Framed own back) = P.own own × ((n : Own) → P.own n → P.own (back n))

  abbrev pub Goes : Instr → Type 0
  Goes (Invoke is_global words) = P.hidden
  Goes (Hidden is_global words) = P.hidden
  Goes (Serve entry) = P.serves entry
  Goes _ = Unit {0}

  -- Each act, each inner evaluation and each call is as wanted, and the program waits for no other answer.
  abbrev pub Everywhere : Program → Type 0
  Everywhere (done c) = Unit {0}
  Everywhere (exit n) = Unit {0}
  Everywhere (act d k) = Acts d × ((T : Tree Own) → ((n : Node Own) → T [] ≡ Some n → P.stands n) → Everywhere (k T))
  Everywhere (go i k) = Goes i × ((c : Completion) → Everywhere (k c))
  Everywhere (inside b i k) = Goes i × Wraps b × ((c : Completion) → Everywhere (k c))
  Everywhere (call h down i lost k) = P.calls h down i × ((s : Said) → Everywhere (k s))
  Everywhere (wait s k) = Prim.⊥
