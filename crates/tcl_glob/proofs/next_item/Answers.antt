use Rattle.std.proofs.Common.{◌≡◌, ◌<◌, ◌∷◌, ◌∙◌, ℕ, List, Bool, Bor, sym, ap, subst, arith, length}
use Rattle.tcl_glob.specs.Patterns.{letters, items, one_of, set_text}
use Rattle.tcl_glob.specs.Fronts.{item_of}
use Rattle.tcl_glob.specs.declared.Item.{Item}
use Rattle.tcl_glob.proofs.Sets.{star_first, question_first, backslash_first, bracket_first, plain_first}
use Rattle.tcl_glob.proofs.next_item.Goals as goal
use Rattle.tcl_glob.proofs.next_item.Goals.{in-42, in-63, in-92, in-91, in_default}

abbrev Tells : Bool → List ℕ → Item × Bor (List ℕ) → Type 0
Tells nocase pattern found =
    (items (letters nocase pattern) ≡ item_of nocase found.0 ∷ items (letters nocase found.1.now)) × (length found.1.now < length pattern)

pub returns : goal.returns
returns c =
    let first = ap items c.in_ok-letter.ensures.letters.0 in
    let rest = letters c.args.nocase c.in_ok-letter.rest.now in
    let letter = c.in_ok-letter.letter in
    let tells = Tells c.args.nocase c.args.pattern.now in
    elim c.match-letter.branch [
      | in-42 w ↦ subst tells (sym w.found-is) (first ∙ star_first rest letter w.in-42.is, c.in_ok-letter.ensures.letters.1)
      | in-63 w ↦ subst tells (sym w.found-is) (first ∙ question_first rest letter w.in-63.is, c.in_ok-letter.ensures.letters.1)
      | in-92 w ↦ subst tells (sym w.found-is) (first ∙ backslash_first rest letter w.in-92.is ∙ w.escaped_item-found.ensures.item, omega (arith, w.escaped_item-found.ensures.shorter, c.in_ok-letter.ensures.letters.1))
      | in-91 w ↦ subst tells (sym w.found-is) (first ∙ bracket_first rest letter w.in-91.is ∙ ap (λ cs. one_of (set_text rest) ∷ items cs) (sym w.behind_set.ensures.rest), omega (arith, w.behind_set.ensures.shorter, c.in_ok-letter.ensures.letters.1))
      | in_default w ↦ subst tells (sym w.found-is) (first ∙ plain_first rest letter (λ e. omega (arith, e)) (λ e. omega (arith, e)) (λ e. omega (arith, e)) (λ e. omega (arith, e)), c.in_ok-letter.ensures.letters.1)
    ]
