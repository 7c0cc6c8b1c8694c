-- The client as contracts see it.
use Rattle.tcl_serve.specs.declared.open.Talk.{Talk}
use Rattle.tcl_serve.specs.Lines.{Traffic}

-- what is read and written, and what is between the lines
pub record ClientView : Type 0 where
  pub lines : Traffic
  pub talk : Talk
