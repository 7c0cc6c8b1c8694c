use Rattle.std.proofs.Common.{rules, ◌≡◌, ◌∙◌, List, ℕ, ℤ, length, sym, ap, subst, w32}
use Rattle.std.proofs.lemmas.Int.{to_z-of_z}
use Rattle.tcl_c.specs.Written.{said, said_of}
use Rattle.tcl_sessions.specs.Texts.{front}
use Rattle.tcl_sessions.specs.declared.refusal.TheConstants.{ALL}
use Rattle.tcl_c.proofs.texts.tclsafe_error_text.Goals as goal

pub returns-in-Some-clause-whole : goal.returns-in-Some-clause-whole
returns-in-Some-clause-whole c =
    let said_so : said_of c.of_number.result ≡ said ALL c.args.number = ap said_of c.of_number.ensures ∙ ap (λ (n : ℤ). said ALL n) (to_z-of_z w32 c.args.number (search rules)) in
    c.write_front.ensures.whole ∙ ap length (c.as_bytes.ensures.value ∙ c.text.ensures ∙ ap said_of (sym c.in-Some.is) ∙ said_so)

pub returns-in-Some-clause-written : goal.returns-in-Some-clause-written
returns-in-Some-clause-written c =
    let said_so : said_of c.of_number.result ≡ said ALL c.args.number = ap said_of c.of_number.ensures ∙ ap (λ (n : ℤ). said ALL n) (to_z-of_z w32 c.args.number (search rules)) in
    subst (λ (t : List ℕ). c.write_front.new.room ≡ front t c.args.room.now) (c.as_bytes.ensures.value ∙ c.text.ensures ∙ ap said_of (sym c.in-Some.is) ∙ said_so) c.write_front.ensures.written

pub returns-in-None-clause-whole : goal.returns-in-None-clause-whole
returns-in-None-clause-whole c =
    let said_so : said_of c.of_number.result ≡ said ALL c.args.number = ap said_of c.of_number.ensures ∙ ap (λ (n : ℤ). said ALL n) (to_z-of_z w32 c.args.number (search rules)) in
    c.write_front-in-None.ensures.whole ∙ ap length (ap said_of (sym c.in-None.is) ∙ said_so)

pub returns-in-None-clause-written : goal.returns-in-None-clause-written
returns-in-None-clause-written c =
    let said_so : said_of c.of_number.result ≡ said ALL c.args.number = ap said_of c.of_number.ensures ∙ ap (λ (n : ℤ). said ALL n) (to_z-of_z w32 c.args.number (search rules)) in
    subst (λ (t : List ℕ). c.write_front-in-None.new.room ≡ front t c.args.room.now) (ap said_of (sym c.in-None.is) ∙ said_so) c.write_front-in-None.ensures.written
