use Rattle.std.proofs.Common.{◌≡◌, ◌∷◌, drop, length}
use Rattle.std.specs.Prelude.{take, ◌-◌}
use Rattle.tcl_language.specs.Faults.{integer_message}
use Rattle.tcl_text.specs.Numbers.{in_64_bits, integer_of}
use Rattle.tcl_commands.proofs.Linking.{one_front}
use Rattle.tcl_commands.proofs.Raising.{number_read, word_read}
use Rattle.tcl_commands.proofs.sums.increment.Goals as goal

pub returns-in-len1-up-clause-read : goal.returns-in-len1-up-clause-read
returns-in-len1-up-clause-read c =
    let word = c.word-item.result in
    let more = take (length c.args.words.now - 1) (drop 1 c.args.words.now) in
    let words : c.args.words.now ≡ word ∷ more = one_front c.args.words.now word c.in-len1-up.len_at_least c.word-item.is in
    word_read c.args.style c.args.words.now word more c.integer_of.result words
    (number_read (integer_message word) (in_64_bits (integer_of c.args.style word)) c.integer_of.result c.integer_of.ensures)
