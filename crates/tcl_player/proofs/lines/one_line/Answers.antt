use Rattle.std.proofs.Common.{rules, arith, ◌∙◌, ◌∷◌, [], ◌++◌, List, ℕ, Some, None, ap}
use Rattle.std.proofs.lemmas.Str.Pattern.{split_parts}
use Rattle.std.specs.String.{string_bytes}
use Rattle.tcl_player.specs.Lines.{one_line}
use Rattle.tcl_player.proofs.LineLemmas.{line_on, line_ends}
use Rattle.tcl_player.proofs.lines.one_line.Goals as goal

pub newlines-preserved : goal.newlines-preserved
newlines-preserved c =
    let parts = split_parts 10 c.newlines.rest.now (Some (c.in-Some.before, c.in-Some.behind)) c.in-Some.ensures.cases (omega arith) in
    record {
      utf8 = search rules;
      so_far = line_on (string_bytes c.newlines.made) (string_bytes c.push_str-in-Some.new.self) (one_line c.args.text.now) c.newlines.rest.now c.in-Some.before.now c.in-Some.behind.now c.newlines.invariant.so_far parts.0 parts.1
          (c.in_ok-push_str-2.ensures.bytes ∙ ap (λ (t : List ℕ). t ++ 92 ∷ 110 ∷ []) c.in_ok-push_str.ensures.bytes);
    }

pub returns : goal.returns
returns c =
    let none = split_parts 10 c.newlines.rest.now None c.in_default.ensures.cases (omega arith) in
    line_ends (string_bytes c.newlines.made) (string_bytes c.push_str-2.new.self) (one_line c.args.text.now) c.newlines.rest.now c.newlines.invariant.so_far none c.in_ok-push_str-3.ensures.bytes
