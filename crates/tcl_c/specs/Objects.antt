-- What becomes of what a handle holds.
use Rattle.std.specs.Prelude.{◌≡◌}
use Rattle.tcl_c.specs.declared.object.Object.{Object}
use Rattle.tcl_c.specs.declared.object.Object.TheVariants.{Tree}
use Rattle.tcl_sessions.specs.Sessions.{SameSession, SameTree}
use Rattle.tcl_sessions.specs.declared.session.Session.{Session}

-- one tree became another so
abbrev pub OnTrees : (Session → Session → Type 0) → Object → Object → Type 0
OnTrees act (Tree s) (Tree z) = act s z
OnTrees act o z = Prim.⊥

-- a tree shows what it showed, and everything else is as it was
abbrev pub IsUnchanged : Object → Object → Type 0
IsUnchanged (Tree s) (Tree z) = SameSession s z
IsUnchanged o z = z ≡ o

-- a tree has the interpreters that it had, and everything else is as it was
abbrev pub KeepsTree : Object → Object → Type 0
KeepsTree (Tree s) (Tree z) = SameTree s z
KeepsTree o z = z ≡ o
