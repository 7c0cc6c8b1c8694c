use Rattle.std.proofs.Common.{◌∷◌, [], codes}
use Rattle.tcl_serve.proofs.LineLemmas.{on_ok, three_said}
use Rattle.tcl_serve.specs.Lines.{id_text}
use Rattle.tcl_serve.proofs.lines.write_out_of_memory.Goals as goal

pub returns : goal.returns
returns g c = on_ok c.flush.result _ (three_said _ _ _ _ _ (codes "{\"error\":{\"number\":500,\"text\":\"out of memory\"},\"id\":") (id_text c.args.id) (codes "}") (10 ∷ [])
    c.in_ok-write_all.ensures.bytes c.in_ok-write_id.ensures c.in_ok-write_all-2.ensures.bytes c.flush.ensures.bytes)
