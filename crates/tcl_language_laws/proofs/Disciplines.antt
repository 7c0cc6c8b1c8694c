-- A discipline as demands on programs. What they hold of all through keeps it.
use Rattle.std.proofs.Common.{◌≡◌, subst, true, Bool, [], false}
use Rattle.tcl_core.specs.Programs.{Act, Wrap}
use Rattle.tcl_core.specs.Programs.Act.{Change}
use Rattle.tcl_core.specs.Programs.Prog.{act, call, done, exit, go, inside, wait}
use Rattle.tcl_core.specs.Programs.Wrap.{Deeper, Framed}
use Rattle.tcl_core.specs.Tables.{Discipline, IsGoodNode, Modest, Modest_act, Modest_call, Modest_wrap}
use Rattle.tcl_language.proofs.Everywhere.{Acts, Demands, Everywhere, Goes, Wraps}
use Rattle.tcl_language.specs.Instructions.{Instr, Program}
use Rattle.tcl_language.specs.Instructions.Instr.{Hidden, Serve}
use Rattle.tcl_tree.specs.Own.{Own}

module _ (R : Discipline Own Instr) (l : Bool) where
  abbrev pub demands : Demands
  demands = record {
    stands = λ n. (n.safe ≡ true) × (R.plain n.own ≡ true);
    own = λ own. R.plain own ≡ true;
    steps = l ≡ true;
    depth = l ≡ true;
    hidden = R.fine (Hidden false []) ≡ true;
    serves = λ entry. R.fine (Serve entry) ≡ true;
    calls = λ up down entry. Modest_call R up entry;
  }

  by_act : (d : Act Own) → Acts demands d → Modest_act R l d
  by_act (Change own) e = e
  by_act _ e = e

  by_wrap : (b : Wrap Own) → Wraps demands b → Modest_wrap R b
  by_wrap Deeper e = tt
  by_wrap (Framed own back) e = e

  module _ (fine : (i : Instr) → Goes demands i → R.fine i ≡ true) where
    pub modest : (x : Program) → Everywhere demands x → Modest R l x
    modest (done c) e = tt
    modest (exit n) e = tt
    modest (act d k) e = (by_act d e.0, λ T good. modest (k T) (e.1 T (λ n f. subst (IsGoodNode R) f (good []))))
    modest (go i k) e = (fine i e.0, λ c. modest (k c) (e.1 c))
    modest (inside b i k) e = (fine i e.0, by_wrap b e.1, λ c. modest (k c) (e.2 c))
    modest (call h down i lost k) e = (e.0, λ s. modest (k s) (e.1 s))
    modest (wait s k) e = e
