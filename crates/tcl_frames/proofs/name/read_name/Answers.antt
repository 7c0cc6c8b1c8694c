use Rattle.std.proofs.Common.{◌∙◌, sym}
use Rattle.tcl_frames.proofs.NameLemmas.{name_of_element, name_of_whole, simple_name}
use Rattle.tcl_frames.proofs.name.read_name.Goals as goal

pub returns-in-Some : goal.returns-in-Some
returns-in-Some c = c.of_level.ensures ∙ sym (name_of_element c.args.name.now c.element_parts.result (c.in-Some.array, c.in-Some.key) c.element_parts.ensures c.in-Some.is)

pub returns-in-None : goal.returns-in-None
returns-in-None c = c.of_level-in-None.ensures ∙ sym (name_of_whole c.args.name.now c.element_parts.result c.element_parts.ensures c.in-None.is)

pub returns-then-is_simple : goal.returns-then-is_simple
returns-then-is_simple c = sym (simple_name c.args.name.now (sym c.is_simple.ensures ∙ c.if-is_simple.true))
