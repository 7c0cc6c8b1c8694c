-- What acts and wraps come to happens within the tree.
use Rattle.std.proofs.Common.{◌≡◌, refl, subst, ℕ, zero, suc, List, [], ◌∷◌, ◌++◌, Option, Some, None}
use Rattle.tcl_core.specs.Endings.{Meter}
use Rattle.tcl_core.specs.Endings.Meter.{Count, Depth}
use Rattle.tcl_core.specs.Endings.Reply.{Cut}
use Rattle.tcl_core.specs.Endings.Cause.{Above, Over}
use Rattle.tcl_core.specs.Paths.{Place}
use Rattle.tcl_core.specs.Programs.{Act, Deed, Wrap, spot, closes, changing, making, dropping, metered, by_limit, blocked, is_spent, is_deep}
use Rattle.tcl_core.specs.Programs.Act.{Look, Change, Charge, Limit, LimitDepth, Make, Drop}
use Rattle.tcl_core.specs.Programs.Next.{On, Off}
use Rattle.tcl_core.specs.Programs.Wrap.{Deeper, Framed}
use Rattle.tcl_core.specs.Execution.{Decides, Opens_so}
use Rattle.tcl_core.specs.Trees.{Grants, Node, Tree, What, granted}
use Rattle.tcl_core.specs.Trees.Grant.{Allow, Deny}
use Rattle.tcl_core.specs.Trees.Grants.{Listed, Budget}
use Rattle.tcl_core.specs.Trees.What.{Seen, Charged, Refused, Nested, Limited, DepthLimited, Made, Dropped, Out, In, Done, Back, Unfound}
use Rattle.tcl_core.proofs.PathLaws.{not_both, Some-inj, child_no_top}
use Rattle.tcl_core.proofs.TreeLaws.{any_close}
use Rattle.tcl_run_laws.proofs.Nearness.{Inside}

-- it crosses no boundary of the tree, is no entry from outside that finds nobody, and neither makes nor drops the tree's top
abbrev pub Placed : {O : Type 0} → Place → What O → Type 0
Placed p (Out h down i) = Inside h p
Placed p (Back h a) = Inside h p
Placed p (In h i) = Inside h p
Placed p (Done h r) = Inside h p
Placed p (Made o s) = p ≡ [] → Prim.⊥
Placed p Dropped = p ≡ [] → Prim.⊥
Placed p (Unfound t i c) = Prim.⊥
Placed p _ = Unit {0}

module _ {O : Type 0} where
  -- the same of what an act comes to
  abbrev IsPlaced : Place → Deed O → Type 0
  IsPlaced p x = Placed (spot p x.0) x.1

  of_deed : (p : Place) (y x : Deed O) → IsPlaced p y → Some y ≡ Some x → IsPlaced p x
  of_deed p y x f e = subst (IsPlaced p) (Some-inj y e) f

  metered_placed : (p : Place) (m : Meter) (y : What O) (b : Option ℕ) (gs : Grants) (x : Deed O) → Placed p y → metered m y b gs ≡ Some x → IsPlaced p x
  metered_placed p m y (Some n) gs x f e = of_deed p (None, Refused m (Some n), by_limit m n) x tt e
  metered_placed p m y None (Listed []) x f e = absurd (not_both refl e)
  metered_placed p m y None (Listed (Allow ∷ gs)) x f e = of_deed p (None, y, On) x f e
  metered_placed p m y None (Listed (Deny ∷ gs)) x f e = of_deed p (None, Refused m None, Off (Cut Above)) x tt e
  metered_placed p Count y None (Budget zero) x f e = of_deed p (None, Refused Count None, Off (Cut Over)) x tt e
  metered_placed p Count y None (Budget (suc n)) x f e = of_deed p (None, y, On) x f e
  metered_placed p Depth y None (Budget n) x f e = of_deed p (None, y, On) x f e

  changing_placed : (p : Place) (own : O) (n : Option (Node O)) → IsPlaced p (changing own n)
  changing_placed p own None = tt
  changing_placed p own (Some n) = tt

  making_placed : (p : Place) (name : List ℕ) (own : O) (s : _) (parent n : Option (Node O)) → IsPlaced p (making name own s parent n)
  making_placed p name own s None n = tt
  making_placed p name own s (Some m) None = child_no_top p name
  making_placed p name own s (Some m) (Some n) = tt

  dropping_placed : (p : Place) (name : List ℕ) (n : Option (Node O)) → IsPlaced p (dropping name n)
  dropping_placed p name None = tt
  dropping_placed p name (Some n) = child_no_top p name

  -- an act
  pub decides_placed : (d : Act O) (T : Tree O) (p : Place) (x : Deed O) → Decides d T p x → Placed (spot p x.0) x.1
  decides_placed Look T p x e = of_deed p (None, Seen, On) x tt (e [])
  decides_placed (Change own) T p x e = of_deed p (changing own (T p)) x (changing_placed p own (T p)) (e [])
  decides_placed Charge T p x e = metered_placed p Count Charged (blocked is_spent T p) (granted (spot p x.0) x.1 (Listed [])) x tt (e [])
  decides_placed (Limit l) T p x e = of_deed p (None, Limited l, On) x tt (e [])
  decides_placed (LimitDepth l) T p x e = of_deed p (None, DepthLimited l, On) x tt (e [])
  decides_placed (Make name own s) T p x e = of_deed p (making name own s (T p) (T (p ++ name ∷ []))) x (making_placed p name own s (T p) (T (p ++ name ∷ []))) (e [])
  decides_placed (Drop name) T p x e = of_deed p (dropping name (T (p ++ name ∷ []))) x (dropping_placed p name (T (p ++ name ∷ []))) (e [])

  -- what a wrap does before
  pub opens_placed : (b : Wrap O) (T : Tree O) (p : Place) (x : Deed O) → Opens_so b T p x → Placed (spot p x.0) x.1
  opens_placed Deeper T p x e = metered_placed p Depth Nested (blocked is_deep T p) (granted (spot p x.0) x.1 (Listed [])) x tt (e [])
  opens_placed (Framed own back) T p x e = of_deed p (changing own (T p)) x (changing_placed p own (T p)) (e [])

  -- and what it does after
  pub closes_placed : (p : Place) (b : Wrap O) (m n : Option (Node O)) → Placed p (closes b m n)
  closes_placed p b m n = any_close (Placed p) b m n tt tt (λ own. tt)
