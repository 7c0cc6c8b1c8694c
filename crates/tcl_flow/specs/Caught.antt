-- What the code keeps of the options that a caught completion shows.
use Rattle.std.specs.Option.{option_copied}
use Rattle.tcl_core.specs.Endings.{Options}
use Rattle.tcl_flow.specs.View.{errorcode_of}
use Rattle.tcl_flow.specs.declared.returning.CaughtOptions.{CaughtOptions}

abbrev pub seen_caught : CaughtOptions → Options
seen_caught c = record {
  code = c.code;
  level = c.level;
  errorcode = errorcode_of (option_copied c.errorcode);
}
