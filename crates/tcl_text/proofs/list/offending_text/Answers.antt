use Rattle.std.proofs.Common.{subst, IfOk, ◌≡◌, ◌∙◌, sym, ap, take}
use Rattle.std.specs.Str.{chars, encode_utf8_all}
use Rattle.std.proofs.lemmas.Str.{encodes-chars}
use Rattle.tcl_text.specs.Lists.{offending}
use Rattle.tcl_text.proofs.list.offending_text.Goals as goal

pub returns : goal.returns
returns c =
    let shown = c.first_characters.result.now in
    let same : shown ≡ offending c.args.text.now =
    sym (encodes-chars shown c.first_characters.utf8) ∙ ap encode_utf8_all (c.first_characters.ensures ∙ ap (λ z. take 20 (chars z)) c.first_word.ensures) in
    subst (λ z. IfOk c.new.result (λ made. made ≡ z)) same c.new.ensures
