use Rattle.tcl_run.specs.Language.{language}
use Rattle.tcl_language.specs.Safety.{is_modest}
use Rattle.tcl_isolation.proofs.Safe.{limits_stay, own_limits}
use Rattle.tcl_isolation.proofs.laws.limits_stay.Goals as goal

pub returns : goal.returns
returns g d = record {
  below = λ style T V o z t i c crossings r q w f s a u. limits_stay _ (language style) T V o z t i c crossings r is_modest (d.safe_scripts_set_no_limit.ensures style) w f s a q u;
  watched = λ style T V o z t i c crossings r n w f s a e u. own_limits _ (language style) T V o z t i c crossings r is_modest (d.safe_scripts_set_no_limit.ensures style) w f s a u n e;
}
