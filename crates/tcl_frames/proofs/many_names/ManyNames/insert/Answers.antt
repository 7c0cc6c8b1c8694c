use Rattle.std.proofs.Common.{◌≡◌, ◌∙◌, sym, ap, subst, IsSome}
use Rattle.std.specs.Prelude.{OnOk, OnErr}
use Rattle.std.specs.Str.{bytes_eq}
use Rattle.indexmap.specs.IndexMap.{insert_entry}
use Rattle.tcl_frames.specs.Entries.{named}
use Rattle.tcl_frames.proofs.EntryLemmas.{set-named, set_is_insert, lookup-named, is_found}
use Rattle.tcl_frames.proofs.many_names.ManyNames.insert.Goals as goal

pub returns-in-Some-clause-inserted : goal.returns-in-Some-clause-inserted
returns-in-Some-clause-inserted g c =
    let q = c.args.name.now in
    let es = c.self.inside.entries.entries in
    let v = c.args.value in
    let there = subst IsSome (sym (lookup-named q es)) (is_found c.get_mut.result c.in-Some.place _ c.in-Some.is c.get_mut.ensures.value) in
    ap named (c.get_mut.follows.holds v).0 ∙ set-named q es v ∙ set_is_insert q (named es) v there ∙ ap (λ fs. insert_entry bytes_eq fs q v) c.self.view_is

pub returns-clause-inserted : goal.returns-clause-inserted
returns-clause-inserted g c =
    let before = ap (λ m. named m.entries) c.get_mut.follows.holds-at-none ∙ c.self.view_is in
    subst (λ s. OnOk c.insert_new.result (c.insert_new.new.self ≡ insert_entry bytes_eq s c.args.name.now c.args.value)) before c.insert_new.ensures.inserted

pub returns-clause-unchanged : goal.returns-clause-unchanged
returns-clause-unchanged g c =
    let before = ap (λ m. named m.entries) c.get_mut.follows.holds-at-none ∙ c.self.view_is in
    subst (λ s. OnErr c.insert_new.result (c.insert_new.new.self ≡ s)) before c.insert_new.ensures.unchanged
