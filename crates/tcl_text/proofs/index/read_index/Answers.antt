use Rattle.std.proofs.Common.{◌∙◌, sym, ap, w64, ok_or, option_map, List, ℕ, codes}
use Rattle.std.specs.Str.{bytes_eq}
use Rattle.std.proofs.lemmas.Int.{to_z-of_z}
use Rattle.tcl_text.specs.declared.index.IndexFault.TheVariants.{BadIndex}
use Rattle.tcl_text.specs.Numbers.{integer_of}
use Rattle.tcl_text.specs.Indexes.{sum_around, last_operator, place}
use Rattle.tcl_text.proofs.Operators.{none_inside, by_sum}
use Rattle.tcl_text.proofs.index.read_index.Goals as goal

pub returns : goal.returns
returns c =
    let none = none_inside (integer_of c.args.style c.args.text.now) c.in_default.field-0 (sym c.read_int.ensures ∙ c.in_default.is) in
    let same = c.as_bytes-text.ensures.value in
    let no_end = ap (λ (t : List ℕ). bytes_eq t (codes "end")) (sym same) ∙ sym c.is_end.ensures ∙ c.if-is_end.false in
    let whole = by_sum c.args.style c.args.end c.args.text.now none no_end in
    let sum = c.read_sum.ensures ∙ ap (λ e. option_map place (sum_around c.args.style e c.as_bytes-text.result.now (last_operator c.as_bytes-text.result.now))) (to_z-of_z w64 c.args.end c.ranges.end) ∙ ap (λ (t : List ℕ). option_map place (sum_around c.args.style c.args.end t (last_operator t))) same in
    c.ok_or.ensures.value ∙ ap (λ o. ok_or o BadIndex) (sum ∙ ap (option_map place) (sym whole))
