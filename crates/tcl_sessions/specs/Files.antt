-- What is done to the host of a session.
use Rattle.std.specs.Prelude.{◌≡◌, ◌⊎◌, IsSome}
use Rattle.tcl_sessions.specs.declared.refusal.Refusal.{Refusal}
use Rattle.tcl_sessions.specs.declared.refusal.Refusal.TheVariants.{CallOpen, Memory}
use Rattle.tcl_sessions.specs.declared.session.Session.{Session}

-- only the host is another one
pub record OnlyHost (o z : Session) : Type 0 where
  pub tree : z.tree ≡ o.tree
  pub answers : z.standing.answers ≡ o.standing.answers
  pub call : z.standing.call ≡ o.standing.call
  pub waiting : z.waiting ≡ o.waiting
  pub report : z.report ≡ o.report
  pub watch : z.watch ≡ o.watch

-- why the host isn't made anew
abbrev pub IsUnrenewed : Session → Refusal → Type 0
IsUnrenewed s e = ((e ≡ CallOpen) × IsSome s.waiting) ⊎ (e ≡ Memory)
