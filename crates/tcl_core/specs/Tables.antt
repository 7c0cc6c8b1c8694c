-- What a table of commands may keep: a discipline.
use Rattle.std.specs.Prelude.{◌≡◌, ◌⊎◌, Bool, true, false, not, List, [], ◌∷◌, Option, Some, None}
use Rattle.tcl_core.specs.Paths.{Place, Height}
use Rattle.tcl_core.specs.Endings.{Completion}
use Rattle.tcl_core.specs.Entries.{Entry, Said}
use Rattle.tcl_core.specs.Entries.Entry.{InvokeHidden, Expose, SetCountLimit, SetDepthLimit}
use Rattle.tcl_core.specs.Trees.{Node, Tree, What, Event, Move}
use Rattle.tcl_core.specs.Trees.What.{Changed, Limited, DepthLimited, Made, Out}
use Rattle.tcl_core.specs.Trees.Move.{Enter, Born}
use Rattle.tcl_core.specs.Programs.{Act, Wrap, Prog, Table}
use Rattle.tcl_core.specs.Programs.Act.{Change, Make, Limit, LimitDepth}
use Rattle.tcl_core.specs.Programs.Wrap.{Deeper, Framed}
use Rattle.tcl_core.specs.Programs.Prog.{done, exit, act, go, inside, call, wait}

-- A discipline: what an interpreter's own part must be; what it may be asked for by another of the
-- subtree, or from outside; what can go on in it; whether that may set limits; which entries from
-- outside may, and where; and whether the host may be asked.
pub record Discipline (O I : Type 0) : Type 0 where
  pub plain : O → Bool
  pub tame : Entry → Bool
  pub fine : I → Bool
  pub may_limit : Bool
  pub limits : Entry → Bool
  pub limited : Place → Bool
  pub may_ask : Bool

module _ {O I : Type 0} (R : Discipline O I) where
  abbrev pub IsGoodNode : Option (Node O) → Type 0
  IsGoodNode None = Unit {0}
  IsGoodNode (Some n) = (n.safe ≡ true) × (R.plain n.own ≡ true)

  -- all its interpreters are safe, and plain
  abbrev pub IsGood : Tree O → Type 0
  IsGood T = (p : Place) → IsGoodNode (T p)

  -- l says whether limits may be set
  abbrev pub Modest_act : Bool → Act O → Type 0
  Modest_act l (Change o) = R.plain o ≡ true
  Modest_act l (Make name o s) = R.plain o ≡ true
  Modest_act l (Limit x) = l ≡ true
  Modest_act l (LimitDepth x) = l ≡ true
  Modest_act l d = Unit {0}

  abbrev pub Modest_wrap : Wrap O → Type 0
  Modest_wrap Deeper = Unit {0}
  Modest_wrap (Framed o back) = (R.plain o ≡ true) ×
      ((n : O) → R.plain n ≡ true → R.plain (back n) ≡ true)

  abbrev pub Modest_call : Height → Entry → Type 0
  Modest_call None i = R.may_ask ≡ true
  Modest_call (Some h) i = R.tame i ≡ true

  -- a program that keeps the discipline, at an interpreter whose subtree is good
  abbrev pub Modest : Bool → Prog O I → Type 0
  Modest l (done c) = Unit {0}
  Modest l (exit n) = Unit {0}
  Modest l (act d k) = Modest_act l d × ((T : Tree O) → IsGood T → Modest l (k T))
  Modest l (go i k) = (R.fine i ≡ true) × ((c : Completion) → Modest l (k c))
  Modest l (inside b i k) = (R.fine i ≡ true) × Modest_wrap b × ((c : Completion) → Modest l (k c))
  Modest l (call h down i lost k) = Modest_call h i × ((s : Said) → Modest l (k s))
  Modest l (wait s k) = Prim.⊥

  -- the commands keep it
  pub record Keeps_to (prog : Table O I) : Type 0 where
    pub programs : (i : I) → R.fine i ≡ true → Modest R.may_limit (prog.program i)
    pub entries : (i : Entry) → R.tame i ≡ true → Modest R.may_limit (prog.entry i)
    pub limiting : (i : Entry) → R.limits i ≡ true → Modest true (prog.entry i)

  -- what is handed in keeps it
  abbrev pub Tame_move : Move O → Type 0
  Tame_move (Enter t i) = (R.tame i ≡ true) ⊎ ((R.limits i ≡ true) × (R.limited t ≡ true))
  Tame_move (Born o b) = (b ≡ true) × (R.plain o ≡ true)
  Tame_move m = Unit {0}

  abbrev pub AreTame : List (Move O) → Type 0
  AreTame [] = Unit {0}
  AreTame (m ∷ ms) = Tame_move m × AreTame ms

  -- what then happens
  abbrev pub Allowed_out : Height → Type 0
  Allowed_out None = R.may_ask ≡ true
  Allowed_out (Some h) = Unit {0}

  -- limits may be set at p
  abbrev pub Limitable : Place → Type 0
  Limitable p = (R.may_limit ≡ true) ⊎ (R.limited p ≡ true)

  abbrev pub Allowed : Place → What O → Type 0
  Allowed p (Changed o) = R.plain o ≡ true
  Allowed p (Made o s) = (s ≡ true) × (R.plain o ≡ true)
  Allowed p (Limited l) = Limitable p
  Allowed p (DepthLimited l) = Limitable p
  Allowed p (Out h down i) = Allowed_out h
  Allowed p x = Unit {0}

  abbrev pub AreAllowed : List (Event O) → Type 0
  AreAllowed [] = Unit {0}
  AreAllowed (ev ∷ τ) = Allowed ev.place ev.what × AreAllowed τ

-- The discipline of no requests: own parts with no host command, `plain`; nobody is asked to expose
-- a command or to invoke a hidden one; the host isn't asked.
abbrev pub exposes : Entry → Bool
exposes (Expose h n) = true
exposes (InvokeHidden g ws) = true
exposes i = false

abbrev pub hostless : {O I : Type 0} → (O → Bool) → (I → Bool) → Discipline O I
hostless plain fine =
    record {
      plain = plain;
      tame = λ i. not (exposes i);
      fine = fine;
      may_limit = true;
      limits = λ i. false;
      limited = λ p. false;
      may_ask = false;
    }

-- The discipline of limits: nobody within is asked to set one, and nothing that goes on sets one
-- but an entry for it, from outside, at one of these places.
abbrev pub sets_limit : Entry → Bool
sets_limit (SetCountLimit l) = true
sets_limit (SetDepthLimit l) = true
sets_limit i = false

abbrev pub unlimiting : {O I : Type 0} → (I → Bool) → (Place → Bool) → Discipline O I
unlimiting fine limited = record {
  plain = λ o. true;
  tame = λ i. not (sets_limit i);
  fine = fine;
  may_limit = false;
  limits = sets_limit;
  limited = limited;
  may_ask = true;
}
