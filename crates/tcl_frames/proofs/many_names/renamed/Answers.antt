use Rattle.std.proofs.Common.{◌∙◌, ◌++◌, ap, sym, arith, map, reverse, option_to_list}
use Rattle.std.specs.Map.{keys_of}
use Rattle.std.specs.String.{string_bytes}
use Rattle.tcl_frames.specs.Entries.{named}
use Rattle.tcl_frames.proofs.EntryLemmas.{keyed_more}
use Rattle.tcl_frames.proofs.FewLemmas.{same_last}
use Rattle.tcl_frames.proofs.many_names.renamed.Goals as goal

pub entries-preserved : goal.entries-preserved
entries-preserved g c =
    let rest = c.pop.new.self.items in
    let before = c.pop-in-Some.new.self.items in
    let name = c.unwrap-name.result in
    let last = c.pop.ensures.items ∙ ap (λ o. rest ++ option_to_list o) c.in-Some.is in
    let last_name = c.pop-in-Some.ensures.items ∙ ap (λ o. before ++ option_to_list o) c.unwrap-name.ensures in
    let made = rw c.unwrap.ensures at c.push.ensures.items in
    let longer = rw c.unwrap.ensures at c.push.ensures.len in
    let shorter = rw c.unwrap-name.ensures at c.pop-in-Some.ensures.cases in
    let both = same_last before name rest c.in-Some.field-0-0 c.in-Some.value (sym (ap (map string_bytes) last_name) ∙ c.entries.invariant.same ∙ ap keys_of last) in
    record {
      kept =
          ap (λ es. rest ++ reverse (named es)) made
          ∙ keyed_more c.entries.left.items rest c.args.entries.items c.entries.keyed.items c.in-Some.field-0-0 name c.in-Some.value last both.0 c.entries.invariant.kept;
      same = both.1;
      as_many = omega (arith, shorter, c.in-Some.ensures.cases, c.entries.invariant.as_many);
      total = omega (arith, longer, c.in-Some.ensures.cases, c.entries.invariant.total);
      room = omega (arith, c.push.ensures.capacity, c.entries.invariant.room);
    }
