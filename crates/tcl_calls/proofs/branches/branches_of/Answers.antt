use Rattle.std.proofs.Common.{◌≡◌, ◌-◌, rules, true, false, List, [], ◌∷◌, ◌++◌, take, drop, length, Some, None, sym, ◌∙◌, ap, arith}
use Rattle.std.specs.Prelude.{codes}
use Rattle.std.specs.Str.{bytes_eq}
use Rattle.std.proofs.lemmas.List.{map-append}
use Rattle.tcl_core.specs.Paths.{Text}
use Rattle.tcl_language.specs.Expressions.{without_first, behind_body, branches_within}
use Rattle.tcl_calls.specs.BranchesRead.{behind, branch_of, first_of, lone, tests_of}
use Rattle.tcl_calls.proofs.Branching.{none_first, one_first, is_end, is_more, is_last, no_last, split, no_words}
use Rattle.tcl_calls.proofs.branches.branches_of.Goals as goal

pub returns-in_default : goal.returns-in_default
returns-in_default c =
    let i = c.branches.invariant in
    let none : first_of c.branches.left.now ≡ None = search rules in
    sym (ap (behind (tests_of c.branches.tests.items)) (none_first i.0 c.branches.left.now none)) ∙ i.2

pub returns-in_default-behind : goal.returns-in_default-behind
returns-in_default-behind c =
    let i = c.branches.invariant in
    let x = branch_of c.in-Some.branch in
    let tests = tests_of c.branches.tests.items in
    let first : first_of c.branches.left.now ≡ Some (x, c.in-Some.behind.now) = search rules in
    let made : tests_of c.push.new.self.items ≡ tests ++ x ∷ [] = ap tests_of c.in_ok-push.ensures.items ∙ map-append branch_of c.branches.tests.items _ in
    let step = one_first i.0 c.branches.left.now x c.in-Some.behind.now tests i.1 first in
    ap (λ (ts : List (Text × Text)). Some (record { tests = ts; last = None })) made ∙ sym (is_end (tests ++ x ∷ []) (branches_within step.0) c.in-Some.behind.now (no_words _ c.in_default-behind.len_below)) ∙ sym step.2 ∙ i.2

pub returns-in_default-last_body : goal.returns-in_default-last_body
returns-in_default-last_body c =
    let i = c.branches.invariant in
    let x = branch_of c.in-Some.branch in
    let tests = tests_of c.branches.tests.items in
    let first : first_of c.branches.left.now ≡ Some (x, c.in-Some.behind.now) = search rules in
    let step = one_first i.0 c.branches.left.now x c.in-Some.behind.now tests i.1 first in
    let word = split c.in-Some.behind.now c.word-item.result c.in-len1-up.len_at_least c.word-item.is in
    let other : bytes_eq c.word-item.result (codes "elseif") ≡ false = search rules in
    let none : lone (without_first (codes "else") c.in-Some.behind.now) ≡ None = search rules in
    sym (ap (λ (ws : List Text). behind (tests ++ x ∷ []) (behind_body ws (branches_within step.0))) word
    ∙ no_last (tests ++ x ∷ []) (branches_within step.0) c.word-item.result _ other (ap (λ (ws : List Text). lone (without_first (codes "else") ws)) (sym word) ∙ none)) ∙ sym step.2 ∙ i.2

pub returns-then-not-is_text : goal.returns-then-not-is_text
returns-then-not-is_text c =
    let i = c.branches.invariant in
    let x = branch_of c.in-Some.branch in
    let tests = tests_of c.branches.tests.items in
    let first : first_of c.branches.left.now ≡ Some (x, c.in-Some.behind.now) = search rules in
    let made : tests_of c.push.new.self.items ≡ tests ++ x ∷ [] = ap tests_of c.in_ok-push.ensures.items ∙ map-append branch_of c.branches.tests.items _ in
    let step = one_first i.0 c.branches.left.now x c.in-Some.behind.now tests i.1 first in
    let word = split c.in-Some.behind.now c.word-item.result c.in-len1-up.len_at_least c.word-item.is in
    let other : bytes_eq c.word-item.result (codes "elseif") ≡ false = search rules in
    let some : lone (without_first (codes "else") c.in-Some.behind.now) ≡ Some c.in-Some-last_body.body.now = search rules in
    ap (λ (ts : List (Text × Text)). Some (record { tests = ts; last = Some c.in-Some-last_body.body.now })) made
    ∙ sym (ap (λ (ws : List Text). behind (tests ++ x ∷ []) (behind_body ws (branches_within step.0))) word
    ∙ is_last (tests ++ x ∷ []) (branches_within step.0) c.word-item.result c.in-Some-last_body.body.now _ other (ap (λ (ws : List Text). lone (without_first (codes "else") ws)) (sym word) ∙ some)) ∙ sym step.2 ∙ i.2

pub branches-preserved : goal.branches-preserved
branches-preserved c =
    let i = c.branches.invariant in
    let x = branch_of c.in-Some.branch in
    let tests = tests_of c.branches.tests.items in
    let first : first_of c.branches.left.now ≡ Some (x, c.in-Some.behind.now) = search rules in
    let made : tests_of c.push.new.self.items ≡ tests ++ x ∷ [] = ap tests_of c.in_ok-push.ensures.items ∙ map-append branch_of c.branches.tests.items _ in
    let step = one_first i.0 c.branches.left.now x c.in-Some.behind.now tests i.1 first in
    let rest = take (length c.in-Some.behind.now - 1) (drop 1 c.in-Some.behind.now) in
    let word = split c.in-Some.behind.now c.word-item.result c.in-len1-up.len_at_least c.word-item.is in
    let same : bytes_eq c.word-item.result (codes "elseif") ≡ true = search rules in (
      step.0,
      (let n : length c.in-Some.behind.now ≡ length (c.word-item.result ∷ rest) = ap length word in let m = step.1 in omega (arith, n, m)),
      ap (λ (ts : List (Text × Text)). behind ts (branches_within step.0 rest)) made
          ∙ sym (ap (λ (ws : List Text). behind (tests ++ x ∷ []) (behind_body ws (branches_within step.0))) word ∙ is_more (tests ++ x ∷ []) step.0 c.word-item.result rest same) ∙ sym step.2 ∙ i.2,
    )
