use Rattle.std.proofs.Common.{◌≡◌}
use Rattle.serde_json.specs.Data.{no_members}
use Rattle.serde_json.specs.View.{members_view}
use Rattle.tcl_serve.specs.Answers.{with_members}
use Rattle.tcl_serve.proofs.answers.object.Given as goal

abbrev pub invariant-members : goal.invariant-members
invariant-members l = with_members l.fn.members.items no_members ≡ with_members l.name-iterator.rest.items (members_view l.object.entries)
