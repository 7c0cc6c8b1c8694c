-- What the levels come to that words name.
use Rattle.std.proofs.Common.{◌≡◌, ℕ, true, false, ◌≤◌, ◌-◌, List, [], ◌∷◌, length, take, drop, get_or, refl, sym, ap, ◌∙◌, arith}
use Rattle.std.proofs.Math.Seq.{take-length}
use Rattle.std.specs.Prelude.{Result, Ok, Err, codes}
use Rattle.tcl_core.specs.Endings.{Reply}
use Rattle.tcl_core.specs.Paths.{Text}
use Rattle.tcl_core.specs.Trees.{Node}
use Rattle.tcl_language.specs.Words.{is_level}
use Rattle.tcl_run.specs.Ends.{IsFailure, itself}
use Rattle.tcl_text.specs.declared.integer.Integers.{Integers}
use Rattle.tcl_tree.specs.Own.{Own}
use Rattle.tcl_frames.specs.Chain.{Chain}
use Rattle.tcl_language.specs.Control.{chain_or}
use Rattle.tcl_frames.specs.Faults.{Refuses}
use Rattle.tcl_frames.specs.declared.fault.FrameError.TheVariants.{Fault}
use Rattle.tcl_frames.specs.declared.fault.FrameFault.{FrameFault}
use Rattle.tcl_calls.specs.Levels.{level_at_node, levelled, script_level, with_script}

-- ## The words of an `uplevel`

-- a failure to find a level
pub with_fails : (r : Result ℕ Text) (words : List Text) (e : Reply) → IsFailure itself r e → IsFailure itself (with_script r words) e
with_fails (Ok n) words e h = elim h [ ]
with_fails (Err x) words e h = h

-- the words name a level
pub with_level : (style : Integers) (n : Node Own) (args : List Text) (word : Text) → 1 ≤ length args → word ≡ get_or args 0 word → 1 ≤ length (take (length args - 1) (drop 1 args)) → is_level word ≡ true →
    script_level style n args ≡ with_script (level_at_node style n word) (take (length args - 1) (drop 1 args))
with_level style n [] word h e m l = absurd (omega arith)
with_level style n (x ∷ []) word h e m l = absurd (omega arith)
with_level style n (x ∷ y ∷ xs) word h e m l =
    let k : length (x ∷ y ∷ xs) - 1 ≡ length (y ∷ xs) = omega arith in
    ap (levelled style n x (y ∷ xs)) (ap is_level (sym e) ∙ l)
    ∙ (λ i. with_script (level_at_node style n (sym e i)) (y ∷ xs))
    ∙ ap (with_script (level_at_node style n word)) (sym (ap (λ m. take m (y ∷ xs)) k ∙ take-length (y ∷ xs)))

-- or none
pub alone_level : (style : Integers) (n : Node Own) (args : List Text) (word : Text) → 1 ≤ length args → length (take (length args - 1) (drop 1 args)) ≡ 0 → script_level style n args ≡ with_script (level_at_node style n (codes "1")) args
alone_level style n [] word h e = absurd (omega arith)
alone_level style n (x ∷ []) word h e = refl
alone_level style n (x ∷ y ∷ xs) word h e =
    let k : length (x ∷ y ∷ xs) - 1 ≡ length (y ∷ xs) = omega arith in
    let n : length (y ∷ xs) ≡ 0 = sym (ap length (ap (λ m. take m (y ∷ xs)) k ∙ take-length (y ∷ xs))) ∙ e in
    absurd (omega arith)

pub without_level : (style : Integers) (n : Node Own) (args : List Text) (word : Text) → 1 ≤ length args → word ≡ get_or args 0 word → is_level word ≡ false → script_level style n args ≡ with_script (level_at_node style n (codes "1")) args
without_level style n [] word h e l = absurd (omega arith)
without_level style n (x ∷ []) word h e l = refl
without_level style n (x ∷ y ∷ xs) word h e l = ap (levelled style n x (y ∷ xs)) (ap is_level (sym e) ∙ l)

-- where frames can't be set aside they stay
pub refused_chain : (f : FrameFault) (chain : Chain) (r : Result Chain FrameFault) → Refuses (Fault f) r → chain ≡ chain_or chain r
refused_chain f chain (Ok other) e = elim e [ ]
refused_chain f chain (Err g) e = refl
