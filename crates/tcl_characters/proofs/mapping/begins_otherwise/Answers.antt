use Rattle.std.proofs.Common.{◌<◌, IsTrue, not, nat_eq, get_or, length, ap, arith}
use Rattle.std.proofs.lemmas.Bool.Decides.{nat_tests}
use Rattle.tcl_characters.proofs.ByteLemmas.{over_texts}
use Rattle.tcl_characters.proofs.SkipLemmas.{other_lead}
use Rattle.tcl_characters.proofs.mapping.begins_otherwise.Goals as goal

pub returns-in-len1-up-len1-up : goal.returns-in-len1-up-len1-up
returns-in-len1-up-len1-up c = λ differ.
    let size = ap length c.as_bytes-2.ensures.value in
    let long = c.in-len1-up-len1-up in
    let some : 0 < length c.args.key.now = grind (arith, nat_tests) in
    let apart = over_texts (λ t k. IsTrue (not (nat_eq (get_or t 0 0) (get_or k 0 0)))) c.as_bytes.ensures.value c.as_bytes-2.ensures.value differ in
    other_lead c.args.key.now c.args.text.now c.utf8.key c.utf8.text some apart
