use Rattle.std.proofs.Common.{◌≡◌, take, map}
use Rattle.tcl_value.specs.Texts.{AllWithin}
use Rattle.tcl_prepared.specs.Views.{literal_word}
use Rattle.tcl_prepared.proofs.preparing.literal_values.Given as goal

abbrev pub invariant-words : goal.invariant-words
invariant-words l = record { same : map literal_word l.values.items ≡ take l.word-index l.words; within : AllWithin l.values.items }
