use Rattle.std.proofs.Common.{◌-◌, ◌∙◌, sym, ap, length, arith, refl}
use Rattle.std.proofs.lemmas.Option.{slice_get_read}
use Rattle.std.proofs.lemmas.Result.{IfOk-weaker}
use Rattle.tcl_frames.specs.Chain.{names_own}
use Rattle.tcl_frames.proofs.NamesLemmas.{local_first, local_later}
use Rattle.tcl_frames.proofs.names.own_names.Goals as goal

pub returns-then-frames-lt2 : goal.returns-then-frames-lt2
returns-then-frames-lt2 c = c.new.ensures.items ∙ sym (local_first c.args.frames.now c.if-frames-lt2.true)

pub returns : goal.returns
returns c =
    let fs = c.args.frames.now in
    let at = slice_get_read fs (length fs) (length fs - 1) c.index-frames-frames.result refl (omega arith) c.index-frames-frames.is in
    IfOk-weaker c.unlinked_names.result _ _ (λ v e. e ∙ ap names_own c.variables.ensures ∙ sym (local_later fs c.index-frames-frames.result c.if-frames-lt2.false at)) c.unlinked_names.ensures
