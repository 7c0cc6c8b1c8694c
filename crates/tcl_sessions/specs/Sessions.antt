-- What sessions are to contracts.
use Rattle.std.specs.Prelude.{◌≡◌, ℕ, ℤ, ◌⊎◌, ◌≢◌, pos, Option, Some, None, Result, Ok, Err, IsSome}
use Rattle.tcl_interpreter.specs.declared.refusal.TreeError.{TreeError}
use Rattle.tcl_sessions.specs.Refusals.{of_tree}
use Rattle.tcl_sessions.specs.declared.refusal.Refusal.{Refusal}
use Rattle.tcl_sessions.specs.declared.refusal.Refusal.TheVariants.{CallOpen, NoStyle}
use Rattle.tcl_sessions.specs.declared.session.Session.{Session}
use Rattle.tcl_text.specs.declared.integer.Integers.{Integers}
use Rattle.tcl_text.specs.declared.integer.Integers.TheVariants.{Tcl8, Tcl9}
use Rattle.tcl_tree.specs.TreeOf.{marks_of, tree_of}

-- the style of a version of Tcl
abbrev pub IsStyle : ℤ → Result Integers Refusal → Type 0
IsStyle version (Ok Tcl8) = version ≡ pos 8
IsStyle version (Ok Tcl9) = version ≡ pos 9
IsStyle version (Err e) = (e ≡ NoStyle) × (version ≢ pos 8) × (version ≢ pos 9)

-- no call is open, or one is
abbrev pub Rests : Session → Result (Unit {0}) Refusal → Type 0
Rests s (Ok x) = s.waiting ≡ None
Rests s (Err e) = (e ≡ CallOpen) × IsSome s.waiting

-- only the tree is another one
pub record KeepsRest (o z : Session) : Type 0 where
  pub standing : z.standing ≡ o.standing
  pub waiting : z.waiting ≡ o.waiting
  pub report : z.report ≡ o.report
  pub watch : z.watch ≡ o.watch

-- why nothing is done to the tree: a call is open, or the tree refuses it so
abbrev pub IsRefused : (TreeError → Type 0) → Session → Refusal → Type 0
IsRefused refuses s e = ((e ≡ CallOpen) × IsSome s.waiting) ⊎
    ((t : TreeError) × (e ≡ of_tree t) × refuses t)

-- ## What stays

-- the tree, with the style of its integers
pub record SameTree (o z : Session) : Type 0 where
  pub tree : tree_of z.tree ≡ tree_of o.tree
  pub style : (marks_of z.tree).integers ≡ (marks_of o.tree).integers

-- all that a session shows
pub record SameSession (o z : Session) : Type 0 where
  pub same : SameTree o z
  pub host : z.standing.host ≡ o.standing.host
  pub call : z.standing.call ≡ o.standing.call
  pub waiting : z.waiting ≡ o.waiting
  pub report : z.report ≡ o.report
  pub watch : z.watch ≡ o.watch
