use Rattle.std.proofs.Common.{◌∙◌, sym}
use Rattle.tcl_parser.proofs.NameLemmas.{name_goes_on, colon_goes_on, colons_go_on, name_stops_plain, name_stops_colon, name_stops_end}
use Rattle.tcl_parser.proofs.scan.strip_name.Goals as goal

pub returns-in_err-byte-clause-none : goal.returns-in_err-byte-clause-none
returns-in_err-byte-clause-none c = rw c.from_residual.ensures (name_stops_end _ _ c.in_err-byte.ensures.split)

pub returns-then-is_name_character-clause-on : goal.returns-then-is_name_character-clause-on
returns-then-is_name_character-clause-on c = name_goes_on _ _ _ _ c.in_ok-byte.ensures.split (sym c.is_name_character.ensures ∙ c.if-is_name_character.true)

pub returns-then-byte-ne58-clause-none : goal.returns-then-byte-ne58-clause-none
returns-then-byte-ne58-clause-none c = name_stops_plain _ _ _ _ c.in_ok-byte.ensures.split (sym c.is_name_character.ensures ∙ c.if-is_name_character.false) c.if-byte-ne58.true

pub returns-then-colons-clause-on : goal.returns-then-colons-clause-on
returns-then-colons-clause-on c = colon_goes_on _ _ _ _ c.in_ok-byte.ensures.split c.if-byte-ne58.false c.if-colons.true

pub returns-in_err-rest-clause-none : goal.returns-in_err-rest-clause-none
returns-in_err-rest-clause-none c = rw c.from_residual-in_err-rest.ensures (name_stops_colon _ _ _ _ c.in_ok-byte.ensures.split c.if-byte-ne58.false c.if-colons.false c.in_err-rest.ensures)

pub returns-clause-on : goal.returns-clause-on
returns-clause-on c = colons_go_on _ _ _ _ _ c.in_ok-byte.ensures.split c.if-byte-ne58.false c.if-colons.false c.in_ok-rest.ensures
