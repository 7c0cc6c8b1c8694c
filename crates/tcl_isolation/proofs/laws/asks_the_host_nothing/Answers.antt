use Rattle.tcl_run.specs.Language.{language}
use Rattle.tcl_language.specs.Safety.{is_quiet, plain}
use Rattle.tcl_isolation.proofs.Safe.{asks_nothing}
use Rattle.tcl_isolation.proofs.laws.asks_the_host_nothing.Goals as goal

pub returns : goal.returns
returns g d style T V o z t i c crossings r w f s a p m = asks_nothing _ (language style) T V o z t i c crossings r plain is_quiet (d.safe_scripts_ask_nothing.ensures style) w f s a p m
