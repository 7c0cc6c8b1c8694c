use Rattle.std.proofs.Common.{◌≡◌, sym, subst}
use Rattle.std.specs.Prelude.{IfSome}
use Rattle.tcl_value.specs.Limits.{IsWithin}
use Rattle.tcl_value.specs.Texts.{AllWithin}
use Rattle.tcl_prepared.specs.Views.{literal_word}
use Rattle.tcl_prepared.proofs.ListLemmas.{made_more, within_more}
use Rattle.tcl_prepared.proofs.preparing.literal_values.Goals as goal

pub words-preserved : goal.words-preserved
words-preserved c =
    let word : literal_word c.in-Some.value ≡ c.word-item.result = subst (λ found. IfSome found (λ v. literal_word v ≡ c.word-item.result)) c.in-Some.is c.in_ok-value.ensures.word in
    let within : IsWithin c.in-Some.value = subst (λ found. IfSome found IsWithin) c.in-Some.is c.in_ok-value.ensures.within in
    record {
      same = made_more literal_word c.words.values.items c.push.new.self.items c.in-Some.value c.args.words.now c.words.word-index c.word-item.result
          c.in_ok-push-in-Some.ensures.items c.words-test.true c.word-item.is word c.words.invariant.same;
      within = subst AllWithin (sym c.in_ok-push-in-Some.ensures.items) (within_more c.words.values.items c.in-Some.value c.words.invariant.within within);
    }
