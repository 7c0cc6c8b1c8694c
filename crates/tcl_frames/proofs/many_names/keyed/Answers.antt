use Rattle.std.proofs.Common.{◌≡◌, ◌∙◌, ◌++◌, ap, reverse, option_to_list}
use Rattle.std.specs.String.{string_bytes}
use Rattle.tcl_frames.specs.Entries.{named}
use Rattle.tcl_frames.proofs.EntryLemmas.{keyed_more}
use Rattle.tcl_frames.proofs.many_names.keyed.Goals as goal

pub entries-preserved : goal.entries-preserved
entries-preserved g c =
    let rest = c.pop.new.self.items in
    let last = c.pop.ensures.items ∙ ap (λ o. rest ++ option_to_list o) c.in-Some.is in
    let is : string_bytes c.in_ok-from_str.field-0 ≡ c.in-Some.name = cc (c.in_ok-from_str.ensures.ok, c.as_str.ensures) in
    ap (λ es. rest ++ reverse (named es)) c.in_ok-push.ensures.items
    ∙ keyed_more c.entries.left.items rest c.args.entries.items c.entries.keyed.items c.in-Some.name c.in_ok-from_str.field-0 c.in-Some.value last is c.entries.invariant
