-- What an act comes to is no crossing.
use Rattle.std.proofs.Common.{◌≡◌, ℕ, zero, suc, Bool, List, [], ◌∷◌, ◌++◌, Option, Some, None, refl, subst}
use Rattle.tcl_core.specs.Paths.{Place}
use Rattle.tcl_core.specs.Endings.{Meter}
use Rattle.tcl_core.specs.Endings.Meter.{Count, Depth}
use Rattle.tcl_core.specs.Endings.Reply.{Cut}
use Rattle.tcl_core.specs.Endings.Cause.{Above, Over}
use Rattle.tcl_core.specs.Trees.{Grants, Tree, Node, What}
use Rattle.tcl_core.specs.Trees.Grant.{Allow, Deny}
use Rattle.tcl_core.specs.Trees.Grants.{Listed, Budget}
use Rattle.tcl_core.specs.Trees.What.{Seen, Charged, Refused, Nested, Limited, DepthLimited, Out, In, Done, Back, Unfound}
use Rattle.tcl_core.specs.Programs.{Act, Wrap, Deed, decide, opens, closes, changing, making, dropping, metered, by_limit, blocked, is_spent, is_deep}
use Rattle.tcl_core.specs.Programs.Next.{On, Off}
use Rattle.tcl_core.specs.Programs.Act.{Look, Change, Charge, Limit, LimitDepth, Make, Drop}
use Rattle.tcl_core.specs.Programs.Wrap.{Deeper, Framed}
use Rattle.tcl_core.proofs.PathLaws.{not_both, Some-inj}
use Rattle.tcl_core.proofs.TreeLaws.{any_close}

module _ {O : Type 0} where
  abbrev pub IsPlain : What O → Type 0
  IsPlain (Out h d i) = Prim.⊥
  IsPlain (Back h a) = Prim.⊥
  IsPlain (In h i) = Prim.⊥
  IsPlain (Done h r) = Prim.⊥
  IsPlain (Unfound t i c) = Prim.⊥
  IsPlain _ = Unit {0}

  plain_of : (y x : Deed O) → IsPlain y.1 → Some y ≡ Some x → IsPlain x.1
  plain_of y x d e = subst (λ z. IsPlain z.1) (Some-inj y e) d

  metered_plain : (m : Meter) (y : What O) (b : Option ℕ) (gs : Grants) (x : Deed O) → IsPlain y → metered m y b gs ≡ Some x → IsPlain x.1
  metered_plain m y (Some n) gs x f e = plain_of (None, Refused m (Some n), by_limit m n) x tt e
  metered_plain m y None (Listed []) x f e = absurd (not_both refl e)
  metered_plain m y None (Listed (Allow ∷ gs)) x f e = plain_of (None, y, On) x f e
  metered_plain m y None (Listed (Deny ∷ gs)) x f e = plain_of (None, Refused m None, Off (Cut Above)) x tt e
  metered_plain Count y None (Budget zero) x f e = plain_of (None, Refused Count None, Off (Cut Over)) x tt e
  metered_plain Count y None (Budget (suc n)) x f e = plain_of (None, y, On) x f e
  metered_plain Depth y None (Budget n) x f e = plain_of (None, y, On) x f e

  changing_plain : (o : O) (n : Option (Node O)) → IsPlain (changing o n).1
  changing_plain o None = tt
  changing_plain o (Some n) = tt

  making_plain : (name : List ℕ) (o : O) (s : Bool) (parent n : Option (Node O)) → IsPlain (making name o s parent n).1
  making_plain name o s None n = tt
  making_plain name o s (Some m) None = tt
  making_plain name o s (Some m) (Some n) = tt

  dropping_plain : (name : List ℕ) (n : Option (Node O)) → IsPlain (dropping name n).1
  dropping_plain name None = tt
  dropping_plain name (Some n) = tt

  pub decide_plain : (d : Act O) (T : Tree O) (p : Place) (gs : Grants) (x : Deed O) → decide d T p gs ≡ Some x → IsPlain x.1
  decide_plain Look T p gs x e = plain_of (None, Seen, On) x tt e
  decide_plain (Change o) T p gs x e = plain_of (changing o (T p)) x (changing_plain o (T p)) e
  decide_plain Charge T p gs x e = metered_plain Count Charged (blocked is_spent T p) gs x tt e
  decide_plain (Limit l) T p gs x e = plain_of (None, Limited l, On) x tt e
  decide_plain (LimitDepth l) T p gs x e = plain_of (None, DepthLimited l, On) x tt e
  decide_plain (Make name o s) T p gs x e = plain_of (making name o s (T p) (T (p ++ name ∷ []))) x (making_plain name o s (T p) (T (p ++ name ∷ []))) e
  decide_plain (Drop name) T p gs x e = plain_of (dropping name (T (p ++ name ∷ []))) x (dropping_plain name (T (p ++ name ∷ []))) e

  pub opens_plain : (b : Wrap O) (T : Tree O) (p : Place) (gs : Grants) (x : Deed O) → opens b T p gs ≡ Some x → IsPlain x.1
  opens_plain Deeper T p gs x e = metered_plain Depth Nested (blocked is_deep T p) gs x tt e
  opens_plain (Framed o back) T p gs x e = plain_of (changing o (T p)) x (changing_plain o (T p)) e

  pub closes_plain : (b : Wrap O) (m n : Option (Node O)) → IsPlain (closes b m n)
  closes_plain b m n = any_close IsPlain b m n tt tt (λ o. tt)
