use Rattle.std.proofs.Common.{inl, refl, subst, sym}
use Rattle.std.specs.Prelude.{IsSome}
use Rattle.tcl_serve.proofs.SessionLemmas.{kept_same}
use Rattle.tcl_serve.proofs.session.Session.drop_saved.Goals as goal

pub returns-in-Some : goal.returns-in-Some
returns-in-Some c = (refl, record { there = subst (λ x. IsSome x) c.in-Some.ensures.taken refl; puts = c.in-Some.ensures.puts }, record { trees = refl; records = refl })

pub returns-in-None : goal.returns-in-None
returns-in-None c = inl ((refl, sym c.in-None.ensures.taken), record { saved = c.in-None.ensures.unchanged; trees = kept_same _; records = kept_same _ })
