use Rattle.std.proofs.Common.{◌∙◌, ◌++◌, ap, arith, reverse, option_to_list}
use Rattle.std.specs.Str.{bytes_eq}
use Rattle.indexmap.specs.IndexMap.{insert_all}
use Rattle.tcl_frames.specs.Entries.{named}
use Rattle.tcl_frames.proofs.EntryLemmas.{inserted_more, ok_then}
use Rattle.tcl_frames.proofs.many_names.insert_reserved.Goals as goal

pub entries-preserved-in-Some : goal.entries-preserved-in-Some
entries-preserved-in-Some g c =
    let rest = c.pop.new.self.items in
    let last = c.pop.ensures.items ∙ ap (λ o. rest ++ option_to_list o) c.in-Some.is in
    let done = ok_then c.insert.result (c.insert.ensures.succeeds (omega (arith, c.entries.invariant.room, c.in-Some.ensures.cases))) c.insert.ensures.entries in
    record {
      room = omega (arith, c.entries.invariant.room, c.in-Some.ensures.cases, c.insert.ensures.spare);
      inserted =
          inserted_more c.entries.entries.entries c.insert.new.self.entries c.entries.left.items rest c.in-Some.name c.in-Some.value
          (insert_all bytes_eq (named c.args.entries.now.entries) (reverse (named c.args.keyed.items))) last done c.entries.invariant.inserted;
    }

pub entries-preserved : goal.entries-preserved
entries-preserved g c =
    let rest = c.pop.new.self.items in
    let last = c.pop.ensures.items ∙ ap (λ o. rest ++ option_to_list o) c.in-Some.is in
    let done = ok_then c.insert.result (c.insert.ensures.succeeds (omega (arith, c.entries.invariant.room, c.in-Some.ensures.cases))) c.insert.ensures.entries in
    record {
      room = omega (arith, c.entries.invariant.room, c.in-Some.ensures.cases, c.insert.ensures.spare);
      inserted =
          inserted_more c.entries.entries.entries c.insert.new.self.entries c.entries.left.items rest c.in-Some.name c.in-Some.value
          (insert_all bytes_eq (named c.args.entries.now.entries) (reverse (named c.args.keyed.items))) last done c.entries.invariant.inserted;
    }
