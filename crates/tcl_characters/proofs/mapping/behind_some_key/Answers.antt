use Rattle.std.proofs.Common.{◌≡◌, suc, ◌-◌, ◌∙◌, false, length, drop, ap, sym, arith}
use Rattle.std.specs.Str.{chars}
use Rattle.tcl_glob.specs.Patterns.{letters}
use Rattle.tcl_characters.specs.Mapping.{fits}
use Rattle.tcl_characters.proofs.ByteLemmas.{no_letters_of, letters_of}
use Rattle.tcl_characters.proofs.MapLemmas.{no_fit, fits_letters, match_map}
use Rattle.tcl_characters.proofs.mapping.behind_some_key.Goals as goal

pub returns-then-is_empty : goal.returns-then-is_empty
returns-then-is_empty c = no_fit c.args.nocase c.args.key.now c.args.text.now (no_letters_of c.args.key.now c.is_empty.result c.is_empty.ensures c.if-is_empty.true)

pub returns-then-nocase : goal.returns-then-nocase
returns-then-nocase c =
    let some = letters_of c.args.key.now c.is_empty.result c.utf8.key c.is_empty.ensures c.if-is_empty.false in
    let n = length (chars c.args.key.now) - 1 in
    let size : length (chars c.args.key.now) ≡ suc n = omega arith in
    let same = fits_letters c.args.nocase c.args.key.now c.args.text.now n size in
    match_map c.behind_key.result _ _ _ _ (λ out. same ∙ out) (λ rest h. (n, size, same ∙ h.0, h.1 ∙ ap (λ m. drop m (chars c.args.text.now)) size)) c.behind_key.ensures

pub returns : goal.returns
returns c =
    let some = letters_of c.args.key.now c.is_empty.result c.utf8.key c.is_empty.ensures c.if-is_empty.false in
    let n = length (chars c.args.key.now) - 1 in
    let size : length (chars c.args.key.now) ≡ suc n = omega arith in
    let exact = fits_letters false c.args.key.now c.args.text.now n size in
    let case_counts : false ≡ c.args.nocase = sym c.if-nocase.false in
    let same = ap (λ t. fits (letters t c.args.key.now) (letters t c.args.text.now)) (sym case_counts) ∙ exact in
    match_map c.behind_same.result _ _ _ _ (λ out. same ∙ out) (λ rest h. (n, size, same ∙ h.0, h.1 ∙ ap (λ m. drop m (chars c.args.text.now)) size)) c.behind_same.ensures
