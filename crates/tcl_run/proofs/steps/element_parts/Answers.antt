use Rattle.std.proofs.Common.{◌≡◌, ◌≢◌, ◌++◌, ◌∷◌, [], ◌<◌, List, ℕ, length, get_or, Option, Some, None, refl, sym, ◌∙◌, ap, arith}
use Rattle.std.specs.Prelude.{IfSome, MatchOption}
use Rattle.std.specs.Borrow.{Bor}
use Rattle.std.proofs.lemmas.Option.{MatchOption-at_some}
use Rattle.std.proofs.lemmas.Str.Pattern.{strip_suffix_char, split_parts}
use Rattle.tcl_frames.specs.VariableArrays.{element_name}
use Rattle.tcl_run.proofs.steps.element_parts.Goals as goal

begins : (a k : List ℕ) → (a ++ (40 ∷ [])) ++ k ≡ a ++ (40 ∷ k)
begins [] k = refl
begins (b ∷ a) k = ap (λ r. b ∷ r) (begins a k)

-- what stands before a close parenthesis, split at an open one, is an array and a key
named : (name rest : List ℕ) (r : Option (Bor (List ℕ) × Bor (List ℕ))) → name ≡ rest ++ 41 ∷ []
    → MatchOption r ((i : ℕ) → i < length rest → get_or rest i 0 ≢ 40) (λ x. (rest ≡ x.0.now ++ (40 ∷ x.1.now)) × ((i : ℕ) → i < length x.0.now → get_or x.0.now i 0 ≢ 40))
    → IfSome r (λ x. name ≡ element_name x.0.now x.1.now)
named name rest None e h = tt
named name rest (Some x) e h = e ∙ ap (λ z. z ++ 41 ∷ []) (h.0 ∙ sym (begins x.0.now x.1.now))

pub returns : goal.returns
returns c =
    let f = strip_suffix_char 41 c.args.name.now c.strip_suffix.result c.strip_suffix.ensures.cases (omega arith) in
    let split = MatchOption-at_some _ _ c.in_ok-strip_suffix.field-0 c.in_ok-strip_suffix.was f in
    let parts = split_parts 40 c.in_ok-strip_suffix.field-0.now c.split_once.result c.split_once.ensures.cases (omega arith) in
    named c.args.name.now c.in_ok-strip_suffix.field-0.now c.split_once.result split parts
