use Rattle.std.proofs.Common.{◌≡◌, sym, subst}
use Rattle.std.specs.Prelude.{Result, IsOkAnd}
use Rattle.tcl_core.specs.Paths.{Text}
use Rattle.tcl_dicts.specs.Dicts.{dict_word}
use Rattle.tcl_run.proofs.Endings.{words_tell}
use Rattle.tcl_value.specs.Dicts.{Pairs}
use Rattle.tcl_value.specs.Texts.{flat}
use Rattle.tcl_calls.proofs.walks.read_dict.Goals as goal

pub returns-in_ok-to_list-in-Ok : goal.returns-in_ok-to_list-in-Ok
returns-in_ok-to_list-in-Ok c =
    subst (λ (r : Result Pairs Text). IsOkAnd r (λ entries. c.in_ok-to_list-in-Ok.field-0 ≡ flat entries)) (sym c.in-Ok.ensures) c.in_ok-to_list-in-Ok.ensures

pub returns-in-Err : goal.returns-in-Err
returns-in-Err c = words_tell c.in-Err.refusal (dict_word c.args.dict.now) c.refused.result c.in-Err.ensures c.refused.ensures
