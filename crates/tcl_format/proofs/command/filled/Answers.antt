use Rattle.std.proofs.Common.{◌∙◌, rules}
use Rattle.std.specs.Str.{chars}
use Rattle.std.specs.String.{string_bytes}
use Rattle.tcl_format.proofs.Readings.{shorter, step}
use Rattle.tcl_format.proofs.command.filled.Goals as goal

pub items-smaller-then-letter-eq37 : goal.items-smaller-then-letter-eq37
items-smaller-then-letter-eq37 c =
    shorter (chars c.items.rest.now) (chars c.in-Some.behind.now) (chars c.read_specifier-read.result.1.now) c.in-Some.letter c.read_specifier-read.result.0 c.in-Some.ensures c.read_specifier-read.ensures

pub items-preserved-then-letter-eq37 : goal.items-preserved-then-letter-eq37
items-preserved-then-letter-eq37 c = (
  search rules,
  c.items.invariant.1
      ∙ step c.args.style (chars c.items.rest.now) (chars c.in-Some.behind.now) (chars c.read_specifier-read.result.1.now) (string_bytes c.items.made) (string_bytes c.add_specified.new.made) c.in-Some.letter c.read_specifier-read.result.0 c.items.left.now c.in_ok-left.left.now c.in-Some.ensures c.if-letter-eq37.true c.read_specifier-read.ensures c.in_ok-left.ensures.added,
  c.in_ok-left.ensures.within,
)
