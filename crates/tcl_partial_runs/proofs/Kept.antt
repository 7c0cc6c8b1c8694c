-- What is kept is what was told.
use Rattle.std.proofs.Common.{◌≡◌, List, [], ◌∷◌, ◌++◌, sym, ◌∙◌, ap, subst, append_assoc, append-nil}
use Rattle.tcl_core.specs.Paths.{Place}
use Rattle.tcl_core.specs.Trees.{Tree, Event, Move, Grant, Grants}
use Rattle.tcl_core.specs.Trees.Grants.{Listed}
use Rattle.tcl_core.specs.Programs.{Prog, Table}
use Rattle.tcl_core.specs.Runs.{World, Ending, Runs}
use Rattle.tcl_core.specs.Execution.{Chain, Fits, Open, none, more}
use Rattle.tcl_partial_runs.specs.Beginnings.{Begun, Begins, BeginsEach, IsUnrefused, handing}
use Rattle.tcl_partial_runs.specs.Keeping.{keeps, KeptBegins}
use Rattle.tcl_partial_runs.proofs.Begins.{begins}

module _ {O : Type 0} where
  chain_kept : {cs ds : Open} {T V : Tree O} {o z : List (Event O)} {τ : List (Event O)} → Chain keeps cs T o τ ds V z → z ≡ o ++ τ
  chain_kept (none {T} {o}) = sym (append-nil o)
  chain_kept (more {o = o} {ev = ev} {τ = τ} k c) = chain_kept c ∙ ap (λ l. l ++ τ) k ∙ append_assoc o (ev ∷ []) τ

module _ {O I : Type 0} where
  listed : (prog : Table O I) (T : Tree O) (p : Place) (x : Prog O I) (kept : List (Event O)) (ms : List (Move O)) (gs : List Grant) (tape : List (Event O)) (v : World O) (e : Ending) →
      Fits x → Begun keeps prog T [] p x kept → Runs prog (handing T kept ms (Listed gs) tape) p x v e → Begins tape kept
  listed prog T p x kept ms gs tape v e f b run =
      let h : BeginsEach keeps prog T [] p x kept = begins keeps prog f b in
      let same : kept ≡ h.told = chain_kept h.chain in
      subst (Begins tape) (sym same) (h.first ms gs tape v e (subst (λ l. Runs prog (handing T l ms (Listed gs) tape) p x v e) same run))

  any : (prog : Table O I) (T : Tree O) (p : Place) (x : Prog O I) (kept : List (Event O)) (ms : List (Move O)) (gs : Grants) (tape : List (Event O)) (v : World O) (e : Ending) →
      Fits x → Begun keeps prog T [] p x kept → IsUnrefused kept → Runs prog (handing T kept ms gs tape) p x v e → Begins tape kept
  any prog T p x kept ms gs tape v e f b calm run =
      let h : BeginsEach keeps prog T [] p x kept = begins keeps prog f b in
      let same : kept ≡ h.told = chain_kept h.chain in
      subst (Begins tape) (sym same) (h.first_of_any ms gs tape v e (subst IsUnrefused same calm) (subst (λ l. Runs prog (handing T l ms gs tape) p x v e) same run))

  pub kept_begins : KeptBegins O I
  kept_begins = record { listed = listed; any = any }
